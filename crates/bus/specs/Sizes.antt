-- A period leaves the bytes of a part as many as they were. Assumes nothing.
-- It stands here, and not among the proofs, since the ghost member of a part, which shows its meaning lawful, cites it.
use Rattle.std.specs.Prelude.{◌≡◌, ℕ, suc, ◌+◌, ◌*◌, ◌≤◌, Bool, true, false, cond, not, ◌&&◌, List, [], ◌∷◌, length, Option, refl}
use Rattle.std.proofs.Common.{ap, ◌∙◌, arith}
use Rattle.std.proofs.lemmas.List.Edits.{length-paste}
use Rattle.bus.specs.declared.kind.Kind.{Kind}
use Rattle.bus.specs.declared.kind.Kind.TheVariants.{Coded, Lift, Low, High, Plain}
use Rattle.bus.specs.declared.outcome.Outcome.{Outcome}
use Rattle.bus.specs.declared.outcome.Outcome.TheVariants.{Set, Barred, Empty, Mixed, Locked, Written}
use Rattle.bus.specs.Meaning.{State, DataLoads, none, one, several}
use Rattle.bus.specs.Outcomes.{programmed, with_sector, bytes_with, bytes_after, outcome_of, is_locked, settle_as}
use Rattle.bus.specs.Law.{permitted}

-- one more than the sector that the data loads name
abbrev pub reach : DataLoads → ℕ
reach none = 0
reach (one s page) = s + 1
reach several = 0

pub length-programmed : (os : List (Option ℕ)) (fs : List ℕ) → length (programmed os fs) ≡ length fs
length-programmed os [] = refl
length-programmed [] (f ∷ fs) = refl
length-programmed (o ∷ os) (f ∷ fs) = ap suc (length-programmed os fs)

-- what a period with this name writes
data_bytes : (b : Bool) (r : ℕ) (d : DataLoads) (fill bytes : List ℕ) → bytes_after (cond b (Locked r) (Written r)) d fill bytes ≡ cond (not b && true) (bytes_with d fill bytes) bytes
data_bytes true r d fill bytes = refl
data_bytes false r d fill bytes = refl

plain_bytes : (g b : Bool) (r : ℕ) (d : DataLoads) (fill bytes : List ℕ) → bytes_after (cond g Barred (cond b (Locked r) (Written r))) d fill bytes ≡ cond (not b && not g) (bytes_with d fill bytes) bytes
plain_bytes true true r d fill bytes = refl
plain_bytes true false r d fill bytes = refl
plain_bytes false true r d fill bytes = refl
plain_bytes false false r d fill bytes = refl

set_bytes : (b : Bool) (x bytes : List ℕ) → bytes ≡ cond (not b && false) x bytes
set_bytes true x bytes = refl
set_bytes false x bytes = refl

pub writes : (n : ℕ) (s : State) (k : Kind) (r : ℕ) (page : List (Option ℕ)) (fill : List ℕ) →
    bytes_after (outcome_of n s k (one r page)) (one r page) fill s.bytes
    ≡ cond (not (is_locked n s r) && permitted k s.protected) (with_sector s.bytes r (programmed page fill)) s.bytes
writes n s Coded r page fill = data_bytes (is_locked n s r) r (one r page) fill s.bytes
writes n s Lift r page fill = data_bytes (is_locked n s r) r (one r page) fill s.bytes
writes n s Low r page fill = set_bytes (is_locked n s r) _ s.bytes
writes n s High r page fill = set_bytes (is_locked n s r) _ s.bytes
writes n s Plain r page fill = plain_bytes s.protected (is_locked n s r) r (one r page) fill s.bytes

pub still : (o : Outcome) (fill bytes : List ℕ) → bytes_after o none fill bytes ≡ bytes
still Set fill bytes = refl
still Barred fill bytes = refl
still Empty fill bytes = refl
still Mixed fill bytes = refl
still (Locked r) fill bytes = refl
still (Written r) fill bytes = refl

pub still_several : (o : Outcome) (fill bytes : List ℕ) → bytes_after o several fill bytes ≡ bytes
still_several Set fill bytes = refl
still_several Barred fill bytes = refl
still_several Empty fill bytes = refl
still_several Mixed fill bytes = refl
still_several (Locked r) fill bytes = refl
still_several (Written r) fill bytes = refl

pub settle_length : (n : ℕ) (s : State) (k : Kind) (fill : List ℕ) (d : DataLoads) → length fill ≡ 128 → length s.bytes ≡ 128 * n → reach d ≤ n →
    length (settle_as n fill s k d).bytes ≡ 128 * n
settle_length n s k fill none fl size w = ap length (still (outcome_of n s k none) fill s.bytes) ∙ size
settle_length n s k fill several fl size w = ap length (still_several (outcome_of n s k several) fill s.bytes) ∙ size
settle_length n s k fill (one r page) fl size w =
    let rl : length (programmed page fill) ≡ 128 = length-programmed page fill ∙ fl in
    let long : length (with_sector s.bytes r (programmed page fill)) ≡ 128 * n = length-paste s.bytes (128 * r) (programmed page fill) 128 (omega arith) (omega arith) ∙ size in
    ap length (writes n s k r page fill)
    ∙ elim (not (is_locked n s r) && permitted k s.protected) as (λ b. length (cond b (with_sector s.bytes r (programmed page fill)) s.bytes) ≡ 128 * n) [ true ↦ long | false ↦ size ]
