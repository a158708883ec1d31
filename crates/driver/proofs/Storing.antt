-- The rows after a sector is written, or read and loaded back. Assumes nothing.
use Rattle.std.proofs.Common.{◌≡◌, ℕ, ◌+◌, ◌*◌, ◌<◌, ◌≤◌, false, List, length, get_or, take, drop, refl, ap, ◌∙◌, subst, append_assoc, arith}
use borrow.Rule.Slice.PartMut.{put_mid}
use lib.Seq.{paste}
use Rattle.std.proofs.lemmas.List.{take_all, drop-drop, length-take, length-drop, length-append, same_lists, places}
use Rattle.memory.specs.Memory.{row_of, memory_rows}
use Rattle.rows.specs.Rows.{Stored}
use Rattle.memory.proofs.MemoryLaws.{row_put_stored}
use Rattle.bus.specs.Lawful.{Lawful}
use Rattle.bus.specs.Meaning.{Chip, State}
use Rattle.bus.specs.Outcomes.{is_locked, with_sector}
use Rattle.driver.specs.DriverRows.{sector_rows}
use Rattle.driver.specs.Loading.{Present, Quiet, lift, Coding, first_of, SentBack}
use Rattle.driver.specs.Settled.{after_write, after_lift}
use Rattle.driver.proofs.Putting.{wrote}

pub stored : (n : ℕ) (s : State) (r : ℕ) (b : List ℕ) → length s.bytes ≡ 128 * n → length b ≡ 128 → r < n → ((i : ℕ) → get_or b i 0 < 256) →
    Stored (sector_rows n s) (sector_rows n (after_write s r b)) r b
stored n s r b z k h small =
    let same : put_mid (128 * r) 128 s.bytes b ≡ with_sector s.bytes r b = rw (take_all 128 b (omega arith), ← drop-drop 128 (128 * r) s.bytes, append_assoc) in
    let put = row_put_stored s.bytes b b r 128 (omega arith) refl refl k (λ i. record { fits = small i }) in
    let rows = subst (λ (ys : List ℕ). Stored (memory_rows s.bytes) (memory_rows ys) r b) same put in
    record {
      count = refl;
      here = ap (λ (v : List ℕ). record { shown = v; locked = is_locked n s r; home = r; laid = λ x. x }) rows.landed;
      other = λ j e. ap (λ (v : List ℕ). record { shown = v; locked = is_locked n s j; home = j; laid = λ x. x }) (rows.apart j e);
      landed = rows.landed;
      apart = rows.apart;
    }

-- bytes pasted over themselves
paste_own : (xs : List ℕ) (a k : ℕ) → a + k ≤ length xs → paste xs a (take k (drop a xs)) k ≡ xs
paste_own xs a k h = same_lists _ _ (simp (length-append, length-take, length-drop) (omega arith)) (λ j d l. grind (arith, places))

-- what a sector holds, pasted over it
back : (xs : List ℕ) (r : ℕ) → 128 * r + 128 ≤ length xs → with_sector xs r (row_of xs r) ≡ xs
back xs r h = paste_own xs (128 * r) 128 h

-- a sector that was read, and loaded back after the lift code
pub lifted : (z c d : Chip) (r : ℕ) (page : List ℕ) → Lawful z → Present z r → is_locked z.sectors z.settled r ≡ false → Quiet z c 128 → page ≡ row_of z.settled.bytes r →
    Coding lift c d (first_of r page 128) → SentBack z d (after_lift z.settled)
lifted z c d r page l h free q fills coding =
    let size = l.sized in
    let within = h.within in
    let same = q.same in
    let whole : length page ≡ 128 = rw fills (simp (length-take, length-drop) (omega arith)) in
    let own : with_sector c.settled.bytes r page ≡ c.settled.bytes = rw (same.settled, fills) (back z.settled.bytes r (omega arith)) in
    let w = wrote lift c d r page whole (rw (same.sectors, same.settled) free) coding in
    record {
      sectors = w.sectors ∙ same.sectors;
      device = w.device ∙ same.device;
      reads = w.reads ∙ q.reads;
      settled = w.settled ∙ rw (own, same.settled);
    }
