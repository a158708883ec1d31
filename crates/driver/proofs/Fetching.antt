-- Reads at rest. Assumes nothing.
use Rattle.std.proofs.Common.{◌≡◌, ℕ, zero, suc, ◌+◌, ◌-◌, ◌*◌, ◌^◌, ◌<◌, ◌≤◌, List, [], ◌∷◌, length, get_or, drop, set, sym, refl, ap, ◌∙◌, subst, zero-add, arith}
use lib.Seq.{paste}
use Rattle.std.proofs.lemmas.List.{append-nil, drop_all, get_or-drop, length-drop}
use Rattle.std.proofs.lemmas.List.Edits.{paste_more}
use Rattle.bus.specs.Meaning.{State, Chip, rest}
use Rattle.bus.specs.Lawful.{Lawful}
use Rattle.memory.specs.Memory.{row_of, as_bytes}
use Rattle.memory.proofs.MemoryLaws.{as_bytes_same}
use Rattle.settling.proofs.Polling.{same_self, same_trans}
use Rattle.driver.specs.Loading.{Present, Quiet, Gave}

pub quiet_none : (c : Chip) → c.phase ≡ rest → c.reads ≤ 2 ^ 64 - 1 → Quiet c c 0
quiet_none c e h = record { same = same_self c; rests = e; reads = omega arith }

pub quiet_more : (a b c : Chip) (m n : ℕ) → Quiet a b m → Quiet b c n → Quiet a c (m + n)
quiet_more a b c m n p q = record {
  same = same_trans a b c p.same q.same;
  rests = q.rests;
  reads = let x = p.reads in let y = q.reads in omega arith;
}

-- one byte more of a sector is in the place
pub place_more : (bytes place now : List ℕ) (r i x : ℕ) → now ≡ paste place 0 (drop (128 * r) bytes) i → 128 * r + i < length bytes → i < length place →
    x ≡ get_or bytes (128 * r + i) 0 → set now i x ≡ paste place 0 (drop (128 * r) bytes) (i + 1)
place_more bytes place now r i x e h k v =
    let m = drop (128 * r) bytes in
    let u : x ≡ get_or m i 0 = v ∙ sym (get_or-drop (128 * r) bytes i 0) in
    let n : i < length m = simp length-drop (omega arith) in
    rw (e, u) (subst (λ (j : ℕ). set (paste place 0 m i) j (get_or m i 0) ≡ paste place 0 m (i + 1)) (zero-add i) (paste_more place 0 m i 0 (omega arith) n))

small_more : (xs : List ℕ) (i x k : ℕ) → ((j : ℕ) → get_or xs j 0 < 256) → x < 256 → get_or (set xs i x) k 0 < 256
small_more [] i x k h s = h k
small_more (y ∷ ys) zero x zero h s = s
small_more (y ∷ ys) zero x (suc k) h s = h (suc k)
small_more (y ∷ ys) (suc i) x zero h s = h 0
small_more (y ∷ ys) (suc i) x (suc k) h s = small_more ys i x k (λ j. h (suc j)) s

-- what the loop of `read_sector` keeps: i bytes of sector r are in the page
pub record Fetched (c d : Chip) (r i : ℕ) (before now : List ℕ) : Type 0 where
  pub quiet : Quiet c d i
  pub filled : now ≡ paste before 0 (drop (128 * r) c.settled.bytes) i
  pub small : (k : ℕ) → get_or now k 0 < 256

pub fetched_none : (c : Chip) (r : ℕ) (p : List ℕ) → Lawful c → Present c r → ((k : ℕ) → get_or p k 0 < 256) → Fetched c c r 0 p p
fetched_none c r p l h s = record { quiet = quiet_none c h.ready.rests l.counts; filled = refl; small = s }

pub fetched_more : (c d e : Chip) (r i x : ℕ) (p now : List ℕ) → Lawful c → Present c r → length p ≡ 128 → i < 128 → Fetched c d r i p now → Gave d e (128 * r + i) x → x < 256 →
    Fetched c e r (i + 1) p (set now i x)
fetched_more c d e r i x p now l h w n f g s =
    let v = g.byte ∙ ap (λ (s : State). get_or s.bytes (128 * r + i) 0) f.quiet.same.settled in
    let size = l.sized in
    record {
      quiet = quiet_more c d e i 1 f.quiet g.quiet;
      filled = place_more c.settled.bytes p now r i x f.filled (omega arith) (omega arith) v;
      small = λ k. small_more now i x k f.small s;
    }

pub fetched_all : (c d : Chip) (r i : ℕ) (p now : List ℕ) → length p ≡ 128 → i ≡ 128 → Fetched c d r i p now →
    Quiet c d 128 × (now ≡ row_of c.settled.bytes r) × (now ≡ as_bytes (row_of c.settled.bytes r))
fetched_all c d r i p now w e f =
    let row = row_of c.settled.bytes r in
    let none : drop 128 p ≡ [] = drop_all 128 p (omega arith) in
    let whole : now ≡ row = f.filled ∙ rw (e, none) (append-nil row) in
    let shown : as_bytes row ≡ row = as_bytes_same row (λ i. rw whole at (f.small i)) in
    (rw e at f.quiet, whole, whole ∙ sym shown)
