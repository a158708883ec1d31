-- The sizes that every array keeps. Assumes nothing.
-- It stands here, and not among the proofs, since the ghost member of a part, which shows its meaning lawful, cites it.
use Rattle.std.specs.Prelude.{◌≡◌, ℕ, zero, suc, ◌+◌, ◌*◌, ◌<◌, ◌≤◌, ◌&&◌, List, length, Option, nat_le, refl}
use Rattle.std.proofs.Common.{ap, arith, length-take}
use Rattle.std.proofs.lemmas.Bool.{cond_both, leb-true, leb-false, le-leb, and_parts}
use Rattle.period.specs.declared.page.Target.{Target}
use Rattle.period.specs.declared.page.Target.TheVariants.{Nothing, Sector, Several}
use Rattle.period.specs.declared.open.OpenPeriod.{OpenPeriod}
use Rattle.period.specs.Data.{target_of, data_at}
use Rattle.period.specs.Meaning.{period_of}
use Rattle.bus.specs.Meaning.{State}
use Rattle.bus.specs.Codes.{kind}
use Rattle.bus.specs.Sizes.{reach, settle_length}
use Rattle.kinds.specs.Style.{Style}
use Rattle.array.specs.declared.flash.FlashArray.{FlashArray}
use Rattle.array.specs.Fits.{Fit}
use Rattle.array.specs.Filling.{fill_from, fill_for, sector_of, settle_by}
use Rattle.array.specs.Meaning.{count_for, count_of, state_of}

pub length-fill : (h : ℕ → ℕ) (bytes : List ℕ) (at n : ℕ) → length (fill_from h bytes at n) ≡ n
unfolding fill_from
length-fill h bytes at zero = refl
length-fill h bytes at (suc n) = ap suc (length-fill h bytes (at + 1) n)

pub count_fits : (n room : ℕ) → Fit (count_for n room) room
count_fits n room = cond_both (nat_le 256 n && (nat_le n 8192 && nat_le (128 * n) room)) n 0 (λ m. Fit m room)
    (λ t.
    let p = and_parts (nat_le 256 n) _ t in
    let q = and_parts (nat_le n 8192) _ p.1 in
    (leb-true n 8192 q.0, leb-true (128 * n) room q.1, (λ _. leb-true 256 n p.0)))
    (λ _. (omega arith, omega arith, (λ h. absurd (omega arith))))

pub count_whole : (n room : ℕ) → 256 ≤ n → n ≤ 8192 → 128 * n ≤ room → count_for n room ≡ n
count_whole n room a b c = rw (le-leb 256 n a, le-leb n 8192 b, le-leb (128 * n) room c)

pub array_fits : (a : FlashArray) → Fit (count_of a) (length a.memory.now)
array_fits a = a.fits

pub array_sized : (a : FlashArray) → length (state_of a).bytes ≡ 128 * count_of a
array_sized a = simp length-take (omega (arith, (array_fits a).1))

target_reach : (n : ℕ) (t : Target) (page : List (Option ℕ)) → reach (data_at (target_of n t) page) ≤ n
target_reach n Nothing page = omega arith
target_reach n (Sector s) page = cond_both (nat_le n s) Nothing (Sector s) (λ t. reach (data_at t page) ≤ n) (λ _. omega arith) (λ e. let h = leb-false n s e in omega arith)
target_reach n Several page = omega arith

-- closing a period changes no size
pub settle_sized : (y : Style) (n : ℕ) (s : State) (p : OpenPeriod) → length s.bytes ≡ 128 * n → length (settle_by y n s (period_of n p)).bytes ≡ 128 * n
settle_sized y n s p h =
    let d = (period_of n p).loaded in
    settle_length n s (kind n (period_of n p)) (fill_for y s.bytes d) d (length-fill y.filler s.bytes (128 * sector_of d) 128) h (target_reach n p.data_loads.target p.data_loads.page)
