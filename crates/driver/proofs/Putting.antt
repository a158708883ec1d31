-- Loads of a period that the driver makes. Assumes nothing.
use Rattle.std.proofs.Common.{◌≡◌, ℕ, zero, suc, ◌+◌, ◌*◌, ◌/◌, ◌%◌, ◌<◌, ◌≤◌, Bool, true, false, cond, eqb, ltb, List, [], ◌∷◌, ◌++◌, map, length, get_or, take, set, Some, None, MatchBool, Option, sym, refl, ap, ◌∙◌, subst, inl, inr, zero-add, arith}
use lib.Seq.{paste}
use Rattle.std.proofs.lemmas.List.Edits.{paste_more, paste_none}
use Rattle.std.proofs.lemmas.List.{length-map, append-nil, take_all, take_more}
use Rattle.std.proofs.lemmas.Bool.{lt-ltb, cond-true, cond-false, eq-eqb, cases_eq, ne_eqb, and_left, and_right, or_from}
use Rattle.bus.specs.declared.load.Load.{Load}
use Rattle.bus.specs.declared.outcome.Outcome.TheVariants.{Locked, Written}
use Rattle.bus.specs.declared.refusal.BusRefusal.{BusRefusal}
use Rattle.bus.specs.declared.refusal.BusRefusal.TheVariants.{Outside}
use Rattle.bus.specs.Codes.{at, begins, exactly, matches, unlock, unlock_twice, completes_reserved, kind_of}
use Rattle.bus.specs.Meaning.{State, Chip, Phase, rest, opened, cycle, Period, DataLoads, none, one, several, with_phase}
use Rattle.bus.specs.Outcomes.{settle, programmed, is_locked, bytes_after, with_sector, outcome_by_data, protected_after}
use Rattle.bus.specs.Periods.{extend, fresh, blank, add_data, data_with, head_with, more_with}
use Rattle.bus.specs.Steps.{Loads, LoadsInside, loaded, loaded_in, with_load}
use Rattle.bus.specs.Time.{passed}
use Rattle.driver.specs.Loading.{Ready, Puts, Following, Opening, extend_all, Opened, Code, coded, lift, code_loads, code_kind, code_period, Coding, first_of, Sent}

pub puts : (l : Load) (c d : Chip) (o : Option BusRefusal) → l.address < 128 * c.sectors → Loads l 1 c d o → Puts l c d
puts l c d o h p =
    let q = subst (λ (b : Bool). MatchBool b (LoadsInside l 1 c d o) ((d ≡ c) × (o ≡ Some Outside))) (lt-ltb l.address (128 * c.sectors) h) p in
    (q.0, q.1)

-- the first load of a period
opened_first : (l : Load) (c d : Chip) → c.phase ≡ rest → Puts l c d → Opened c d (extend c.sectors fresh l)
opened_first l c d e (w, p) =
    let q : d ≡ with_load w.fill c.settled fresh l c = subst (λ (f : Phase). d ≡ loaded w.fill l (passed w.time 1 (with_phase c f))) e p in
    record {
      sectors = ap (λ (x : Chip). x.sectors) q;
      device = ap (λ (x : Chip). x.device) q;
      reads = ap (λ (x : Chip). x.reads) q;
      fill = w.fill;
      filled = w.fill_length;
      phase = ap (λ (x : Chip). x.phase) q;
      settled = ap (λ (x : Chip). x.settled) q;
    }

-- one load more
opened_more : (l : Load) (c d d' : Chip) (p : Period) → Opened c d p → completes_reserved p.head l ≡ false → Puts l d d' → Opened c d' (extend c.sectors p l)
opened_more l c d d' p o k (w, h) =
    let q : d' ≡ cond (completes_reserved p.head l) (with_phase d (opened c.settled p 1)) (with_load w.fill c.settled p l d) =
    subst (λ (f : Phase). d' ≡ loaded w.fill l (passed w.time 1 (with_phase d f))) o.phase h in
    let q' : d' ≡ with_load w.fill c.settled p l d = q ∙ cond-false _ _ _ k in
    record {
      sectors = ap (λ (x : Chip). x.sectors) q' ∙ o.sectors;
      device = ap (λ (x : Chip). x.device) q' ∙ o.device;
      reads = ap (λ (x : Chip). x.reads) q' ∙ o.reads;
      fill = w.fill;
      filled = w.fill_length;
      phase = ap (λ (x : Chip). x.phase) q' ∙ ap (λ (n : ℕ). opened c.settled (extend n p l) 0) o.sectors;
      settled = ap (λ (x : Chip). x.settled) q' ∙ ap (λ (n : ℕ). settle n w.fill c.settled (extend n p l)) o.sectors;
    }

-- one load after the other
abbrev PutsAll : List Load → Chip → Chip → Type 0
PutsAll [] c d = d ≡ c
PutsAll (l ∷ ls) c d = (m : Chip) × Puts l c m × PutsAll ls m d

put_more : (xs : List Load) (l : Load) (c d e : Chip) → PutsAll xs c d → Puts l d e → PutsAll (xs ++ l ∷ []) c e
put_more [] l c d e p q = (e, subst (λ (x : Chip). Puts l x e) p q, refl)
put_more (x ∷ xs) l c d e (m, h, p) q = (m, h, put_more xs l m d e p q)

-- what the loop of `open` keeps
pub record Loaded (ls : List Load) (i : ℕ) (c d : Chip) : Type 0 where
  pub sectors : d.sectors ≡ c.sectors
  pub puts : PutsAll (take i ls) c d

pub loaded_more : (ls : List Load) (i : ℕ) (y : Load) (c d e : Chip) → Loaded ls i c d → i < length ls → Puts (get_or ls i y) d e → e.sectors ≡ d.sectors → Loaded ls (i + 1) c e
loaded_more ls i y c d e k h p s = record { sectors = s ∙ k.sectors; puts = rw (take_more ls i y h) (put_more (take i ls) (get_or ls i y) c d e k.puts p) }

-- a load of a code lies in every part that has sectors
pub inside_code : (head ls : List Load) (i : ℕ) (y : Load) → Following head ls → i < length ls → (get_or ls i y).address < 32768
inside_code head [] i y f h = absurd (omega arith)
inside_code head (x ∷ xs) zero y f h = f.0
inside_code head (x ∷ xs) (suc i) y f h = inside_code (head_with head x) xs i y f.2 (omega arith)

opened_all : (ls : List Load) (p : Period) (c d e : Chip) → Opened c d p → Following p.head ls → PutsAll ls d e → Opened c e (extend_all c.sectors p ls)
opened_all [] p c d e o f h = subst (λ (x : Chip). Opened c x p) (sym h) o
opened_all (l ∷ ls) p c d e o f (m, h, k) = opened_all ls (extend c.sectors p l) c m e (opened_more l c d m p o f.1 h) f.2 k

opened_whole : (ls : List Load) (c e : Chip) → Ready c → Opening ls → PutsAll ls c e → Opened c e (extend_all c.sectors fresh ls)
opened_whole [] c e r o k = absurd (omega (arith, o.0))
opened_whole (l ∷ ls) c e r o (m, h, k) = opened_all ls (extend c.sectors fresh l) c m e (opened_first l c m r.rests h) o.1.2 k

pub opened_code : (ls : List Load) (i : ℕ) (c e : Chip) → Ready c → Opening ls → Loaded ls i c e → length ls ≤ i → Opened c e (extend_all c.sectors fresh ls)
opened_code ls i c e r o k h = opened_whole ls c e r o (rw (take_all i ls h) at k.puts)

-- no load after such a code completes a reserved one
not_reserved : (k : Code) (ls : List Load) (l : Load) → completes_reserved (code_loads k ++ ls) l ≡ false
not_reserved coded ls l =
    let h = code_loads coded ++ ls in
    or_from _ _
    (and_right (matches (at 0x5555 0x90) l) (exactly unlock h) (and_left _ (begins unlock h) (ne_eqb (length h) 2 (λ e. omega arith))))
    (and_right (matches (at 0x5555 0x10) l) (exactly unlock_twice h) (and_right (eqb (length h) 5) _ refl))
not_reserved lift ls l =
    let h = code_loads lift ++ ls in
    or_from _ _
    (and_right (matches (at 0x5555 0x90) l) (exactly unlock h) (and_left _ (begins unlock h) (ne_eqb (length h) 2 (λ e. omega arith))))
    (and_right (matches (at 0x5555 0x10) l) (exactly unlock_twice h) (and_left _ (begins unlock_twice h) (ne_eqb (length h) 5 (λ e. omega arith))))

head_grows : (k : Code) (b : Bool) (ls : List Load) (l : Load) →
    cond b ((code_loads k ++ ls) ++ (l ∷ [])) (code_loads k ++ ls) ≡ code_loads k ++ cond b (ls ++ (l ∷ [])) ls
head_grows coded true ls l = refl
head_grows coded false ls l = refl
head_grows lift true ls l = refl
head_grows lift false ls l = refl

-- the kind is told by the code, and the loads after it are data loads
data_on : (k : Code) (n : ℕ) (ls hs : List Load) (more m : Bool) (x : DataLoads) (l : Load) →
    data_with (kind_of n (code_loads k ++ ls) more) (kind_of n (code_loads k ++ hs) m) (length (code_loads k ++ ls)) x l ≡ add_data x l
data_on coded n ls hs more m x l = cond-false _ none (add_data x l) (ne_eqb (length (code_loads coded ++ ls)) 2 (λ e. omega arith))
data_on lift n ls hs more m x l = cond-false _ none (add_data x l) (ne_eqb (length (code_loads lift ++ ls)) 5 (λ e. omega arith))

extend_code : (k : Code) (n : ℕ) (ls : List Load) (more : Bool) (x : DataLoads) (l : Load) →
    extend n (code_period k ls more x) l ≡ code_period k (cond (ltb (length (code_loads k ++ ls)) 7) (ls ++ (l ∷ [])) ls) (more_with (code_loads k ++ ls) more) (add_data x l)
extend_code k n ls more x l =
    let h = code_loads k ++ ls in
    let m = more_with h more in
    let hs = cond (ltb (length h) 7) (ls ++ (l ∷ [])) ls in
    ap (λ (y : List Load). record { head = y; more = m; loaded = data_with (kind_of n h more) (kind_of n y m) (length h) x l }) (head_grows k (ltb (length h) 7) ls l)
    ∙ ap (code_period k hs m) (data_on k n ls hs more m x l)

-- the code alone
pub coding_none : (k : Code) (ls : List Load) (c d : Chip) → ls ≡ code_loads k → Opened c d (extend_all c.sectors fresh ls) → Coding k c d none
coding_none coded ls c d e o = ([], false, rw e at o)
coding_none lift ls c d e o = ([], false, rw e at o)

-- one data load more
pub coding_more : (k : Code) (l : Load) (c d d' : Chip) (x : DataLoads) → Coding k c d x → Puts l d d' → Coding k c d' (add_data x l)
coding_more k l c d d' x (ls, more, o) p =
    (_, _, subst (λ (q : Period). Opened c d' q) (extend_code k c.sectors ls more x l) (opened_more l c d d' (code_period k ls more x) o (not_reserved k ls l) p))

load_sectors : (fill : List ℕ) (l : Load) (c : Chip) (f : Phase) → (loaded_in fill l c f).sectors ≡ c.sectors
load_sectors fill l c rest = refl
load_sectors fill l c (opened s p age) = elim (completes_reserved p.head l) as (λ (b : Bool). (cond b c (with_load fill s p l c)).sectors ≡ c.sectors) [ true ↦ refl | false ↦ refl ]
load_sectors fill l c (cycle e t) = refl

pub put_sectors : (l : Load) (c d : Chip) → Puts l c d → d.sectors ≡ c.sectors
put_sectors l c d (w, p) = ap (λ (x : Chip). x.sectors) p ∙ load_sectors w.fill l (passed w.time 1 c) (passed w.time 1 c).phase

-- one byte more of a page
paste_step : (z s : List (Option ℕ)) (i j : ℕ) (v : Option ℕ) → i < length z → i < length s → j ≡ i → v ≡ get_or s i None → set (paste z 0 s i) j v ≡ paste z 0 s (i + 1)
paste_step z s i j v h k e u =
    rw (e, u) (subst (λ (n : ℕ). set (paste z 0 s i) n (get_or s i None) ≡ paste z 0 s (i + 1)) (zero-add i) (paste_more z 0 s i None (omega arith) k))

some_at : (bytes : List ℕ) (i b : ℕ) → i < length bytes → b ≡ get_or bytes i 0 → Some b ≡ get_or (map Some bytes) i None
some_at [] i b h e = absurd (omega arith)
some_at (x ∷ xs) zero b h e = ap Some e
some_at (x ∷ xs) (suc i) b h e = some_at xs i b (omega arith) e

-- one byte more of a sector
pub data_more : (r i b : ℕ) (bytes : List ℕ) → i < 128 → length bytes ≡ 128 → b ≡ get_or bytes i 0 →
    add_data (first_of r bytes i) (at (128 * r + i) b) ≡ first_of r bytes (i + 1)
data_more r i b bytes h k e =
    let l = at (128 * r + i) b in
    let s = map Some bytes in
    let q : (128 * r + i) / 128 ≡ r = omega arith in
    let m : (128 * r + i) % 128 ≡ i = omega arith in
    let z : length blank ≡ 128 = refl in
    let n : i < length s = simp length-map (omega arith) in
    let step = paste_step blank s i ((128 * r + i) % 128) (Some b) (omega arith) n m (some_at bytes i b (omega arith) e) in
    let after : first_of r bytes (i + 1) ≡ one r (paste blank 0 s (i + 1)) = cond-false (eqb (i + 1) 0) none _ (ne_eqb (i + 1) 0 (λ x. omega arith)) in
    elim (cases_eq i 0) [
      | inl y ↦
          let blanks : blank ≡ paste blank 0 s i = subst (λ (j : ℕ). blank ≡ paste blank 0 s j) (sym y) (paste_none blank 0 s) in
          ap (λ (d : DataLoads). add_data d l) (cond-true (eqb i 0) none _ (eq-eqb i 0 y))
          ∙ ap (λ (o : List (Option ℕ)). one ((128 * r + i) / 128) (set o ((128 * r + i) % 128) (Some b))) blanks
          ∙ ap (λ (o : List (Option ℕ)). one ((128 * r + i) / 128) o) step
          ∙ ap (λ (t : ℕ). one t (paste blank 0 s (i + 1))) q ∙ sym after
      | inr y ↦
          ap (λ (d : DataLoads). add_data d l) (cond-false (eqb i 0) none (one r (paste blank 0 s i)) (ne_eqb i 0 y))
          ∙ cond-true (eqb ((128 * r + i) / 128) r) _ several (eq-eqb _ _ q)
          ∙ ap (one r) step ∙ sym after
    ]

programmed_all : (bytes fill : List ℕ) → length bytes ≡ length fill → programmed (map Some bytes) fill ≡ bytes
programmed_all [] [] h = refl
programmed_all [] (f ∷ fs) h = absurd (omega arith)
programmed_all (x ∷ xs) [] h = absurd (omega arith)
programmed_all (x ∷ xs) (f ∷ fs) h = ap (λ (t : List ℕ). x ∷ t) (programmed_all xs fs (omega arith))

-- what a sector written after this code leaves settled
abbrev pub written : Code → State → ℕ → List ℕ → State
written k s r b = record { bytes = with_sector s.bytes r b; protected = protected_after (code_kind k) s.protected; low_locked = s.low_locked; high_locked = s.high_locked }

-- such a period settles by its kind
settle_as : (k : Code) (n : ℕ) (fill : List ℕ) (s : State) (ls : List Load) (more : Bool) (x : DataLoads) →
    settle n fill s (code_period k ls more x) ≡ record { bytes = bytes_after (outcome_by_data n s x) x fill s.bytes; protected = protected_after (code_kind k) s.protected; low_locked = s.low_locked; high_locked = s.high_locked }
settle_as coded n fill s ls more x = refl
settle_as lift n fill s ls more x = refl

-- a period of a whole sector that is not locked
pub wrote : (k : Code) (c d : Chip) (r : ℕ) (bytes : List ℕ) → length bytes ≡ 128 → is_locked c.sectors c.settled r ≡ false → Coding k c d (first_of r bytes 128) → Sent c d (written k c.settled r bytes)
wrote k c d r bytes w f (ls, more, o) =
    let s = map Some bytes in
    let n : length s ≤ 128 = simp length-map (omega arith) in
    let page : paste blank 0 s 128 ≡ s = append-nil (take 128 s) ∙ take_all 128 s n in
    let lay : programmed (paste blank 0 (map Some bytes) 128) o.fill ≡ bytes =
    ap (λ (p : List (Option ℕ)). programmed p o.fill) page ∙ programmed_all bytes o.fill (let x = o.filled in omega arith) in
    let g = protected_after (code_kind k) c.settled.protected in
    record {
      sectors = o.sectors;
      device = o.device;
      reads = o.reads;
      settled = o.settled ∙ settle_as k c.sectors o.fill c.settled ls more (first_of r bytes 128)
          ∙ ap (λ (b : Bool). record { bytes = bytes_after (cond b (Locked r) (Written r)) (first_of r bytes 128) o.fill c.settled.bytes; protected = g; low_locked = c.settled.low_locked; high_locked = c.settled.high_locked }) f
          ∙ ap (λ (b : List ℕ). record { bytes = with_sector c.settled.bytes r b; protected = g; low_locked = c.settled.low_locked; high_locked = c.settled.high_locked }) lay;
    }
