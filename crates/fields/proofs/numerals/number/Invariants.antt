use Rattle.std.proofs.Common.{◌≡◌, ◌^◌, ◌<◌, drop}
use Rattle.fields.specs.Forms.{number_after}
use Rattle.fields.proofs.numerals.number.Given as goal

abbrev pub invariant-loop-byte : goal.invariant-loop-byte
invariant-loop-byte l = (number_after l.base 0 l.text ≡ number_after l.base l.number (drop l.byte-index l.text)) × (l.number < 16 ^ l.byte-index)
