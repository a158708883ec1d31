use Rattle.std.proofs.Common.{◌∙◌, ap, sym}
use Rattle.std.proofs.Math.Bool.{or-false}
use Rattle.bus.specs.Codes.{exactly}
use Rattle.period.proofs.head.Head.completes_reserved.Goals as goal

-- of the two reserved codes the byte 90 can complete one alone
pub returns-in-21845-eq144 : goal.returns-in-21845-eq144
returns-in-21845-eq144 c =
    rw (c.in-21845-eq144.is-0, c.in-21845-eq144.is-1) (c.exactly.ensures ∙ ap (λ code. exactly code c.args.self.now.loads.items) c.unlock.ensures ∙ sym (or-false _))
