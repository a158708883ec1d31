-- What harmless calls of other software do to a protected part: nothing settled changes. Assumes nothing.
use Rattle.std.proofs.Common.{◌≡◌, ℕ, ◌+◌, ◌-◌, ◌*◌, Bool, true, false, cond, not, ◌&&◌, ltb, leb, List, [], ◌∷◌, ◌++◌, length, Some, Err, MatchBool, sym, refl, ap, ◌∙◌, subst, inl, inr, arith, rules}
use Rattle.std.proofs.lemmas.Bool.{not-true, and_left, and_right, cond-false, cases_Bool, le-ltb}
use Rattle.bus.specs.declared.kind.Kind.{Kind}
use Rattle.bus.specs.declared.kind.Kind.TheVariants.{Plain}
use Rattle.bus.specs.declared.load.Load.{Load}
use Rattle.bus.specs.declared.outcome.Outcome.TheVariants.{Barred}
use Rattle.bus.specs.declared.refusal.BusRefusal.TheVariants.{Outside}
use Rattle.bus.specs.Codes.{at, matches, begins, coded_code, six_code, completes_reserved, kind_of}
use Rattle.bus.specs.History.{Answer, Answered}
use Rattle.bus.specs.Meaning.{State, Chip, Phase, rest, opened, cycle, Period, DataLoads, with_phase}
use Rattle.bus.specs.Outcomes.{settle, settle_as, bytes_after, outcome_by_data}
use Rattle.bus.specs.Periods.{extend, fresh}
use Rattle.bus.specs.Refusals.{inside}
use Rattle.bus.specs.Steps.{LoadsInside, ReadsInside, loaded_in, with_load}
use Rattle.bus.specs.Time.{passed, passed_phase, running}
use Rattle.service.specs.Others.{bus_call, harmless_call}
use Rattle.service.specs.declared.calls.OthersCall.{OthersCall}
use Rattle.service.specs.declared.calls.OthersCall.TheVariants as Calls

-- no load of a period is the second of a code
abbrev Keyless : List Load → Type 0
Keyless [] = Unit {0}
Keyless (l ∷ ls) = (matches (at 0x2AAA 0x55) l ≡ false) × Keyless ls

-- an open period is one of others, and comes to nothing
abbrev pub Calm : Phase → State → Type 0
Calm rest s = Unit {0}
Calm (opened b p age) s = (s ≡ b) × Keyless p.head
Calm (cycle e t) s = Unit {0}

keyless_begins : (c : Load) (cs head : List Load) → Keyless head → begins (c ∷ (at 0x2AAA 0x55 ∷ cs)) head ≡ false
keyless_begins c cs [] h = refl
keyless_begins c cs (x ∷ []) h = and_right (matches c x) false refl
keyless_begins c cs (x ∷ (y ∷ ys)) h = and_right (matches c x) _ (and_left (matches (at 0x2AAA 0x55) y) _ h.1.0)

keyless_plain : (n : ℕ) (head : List Load) (more : Bool) → Keyless head → kind_of n head more ≡ Plain
keyless_plain n head more h =
    let tail : ℕ → List Load = λ b. at 0x5555 0x80 ∷ (at 0x5555 0xAA ∷ (at 0x2AAA 0x55 ∷ (at 0x5555 b ∷ []))) in
    cond-false (begins coded_code head) _ _ (keyless_begins (at 0x5555 0xAA) (at 0x5555 0xA0 ∷ []) head h)
    ∙ cond-false (begins (six_code 0x20) head) _ _ (keyless_begins (at 0x5555 0xAA) (tail 0x20) head h)
    ∙ cond-false (begins (six_code 0x40) head && not more) _ Plain (and_left _ (not more) (keyless_begins (at 0x5555 0xAA) (tail 0x40) head h))

keyless_more : (head : List Load) (l : Load) → Keyless head → matches (at 0x2AAA 0x55) l ≡ false → Keyless (head ++ (l ∷ []))
keyless_more [] l h k = (k, tt)
keyless_more (x ∷ xs) l h k = (h.0, keyless_more xs l h.1 k)

keyless_with : (b : Bool) (head : List Load) (l : Load) → Keyless head → matches (at 0x2AAA 0x55) l ≡ false → Keyless (cond b (head ++ (l ∷ [])) head)
keyless_with true head l h k = keyless_more head l h k
keyless_with false head l h k = h

-- a plain period on a protected part comes to nothing
plain_settles : (n : ℕ) (fill : List ℕ) (s : State) (x : DataLoads) → s.protected ≡ true → settle_as n fill s Plain x ≡ s
plain_settles n fill s x g =
    ap (λ (b : List ℕ). record { bytes = b; protected = s.protected; low_locked = s.low_locked; high_locked = s.high_locked })
    (ap (λ (b : Bool). bytes_after (cond b Barred (outcome_by_data n s x)) x fill s.bytes) g)

period_settles : (n : ℕ) (fill : List ℕ) (s : State) (p : Period) → s.protected ≡ true → Keyless p.head → settle n fill s p ≡ s
period_settles n fill s p g h = ap (λ (k : Kind). settle_as n fill s k p.loaded) (keyless_plain n p.head p.more h) ∙ plain_settles n fill s p.loaded g

pub record Idle (c d : Chip) : Type 0 where
  pub sectors : d.sectors ≡ c.sectors
  pub settled : d.settled ≡ c.settled
  pub calm : Calm d.phase d.settled

calm_running : (t e : ℕ) (s : State) → Calm (running t e) s
calm_running t e s = elim (ltb e t) as (λ (b : Bool). Calm (cond b (cycle e t) rest) s) [ true ↦ tt | false ↦ tt ]

calm_passed : (t g : ℕ) (f : Phase) (s : State) → Calm f s → Calm (passed_phase t g f) s
calm_passed t g rest s h = tt
calm_passed t g (opened b p age) s h =
    elim (leb (age + g) 150) as (λ (x : Bool). Calm (cond x (opened b p (age + g)) (running t (age + g - 150))) s) [ true ↦ h | false ↦ calm_running t (age + g - 150) s ]
calm_passed t g (cycle e u) s h = calm_running u (e + g) s

idle_passed : (c d : Chip) (t g : ℕ) → Calm c.phase c.settled → d ≡ passed t g c → Idle c d
idle_passed c d t g h e = subst (λ (x : Chip). Idle c x) (sym e) (record { sectors = refl; settled = refl; calm = calm_passed t g c.phase c.settled h })

-- a load of others
load_idle : (fill : List ℕ) (l : Load) (c : Chip) (f : Phase) → c.settled.protected ≡ true → Calm f c.settled → matches (at 0x2AAA 0x55) l ≡ false → Idle c (loaded_in fill l (with_phase c f) f)
load_idle fill l c rest g h k =
    let e = period_settles c.sectors fill c.settled (extend c.sectors fresh l) g (k, tt) in
    record { sectors = refl; settled = e; calm = (e, (k, tt)) }
load_idle fill l c (opened b p age) g h k =
    let q = extend c.sectors p l in
    let m : Keyless q.head = keyless_with (ltb (length p.head) 7) p.head l h.1 k in
    let e = period_settles c.sectors fill b q (sym (ap (λ (s : State). s.protected) h.0) ∙ g) m in
    let v = with_phase c (opened b p age) in
    elim (completes_reserved p.head l) as (λ (x : Bool). Idle c (cond x v (with_load fill b p l v))) [
      | true ↦ record { sectors = refl; settled = refl; calm = h }
      | false ↦ record { sectors = refl; settled = e ∙ sym h.0; calm = (e, m) }
    ]
load_idle fill l c (cycle e t) g h k = record { sectors = refl; settled = refl; calm = tt }

idle_trans : (a b c : Chip) → Idle a b → Idle b c → Idle a c
idle_trans a b c p q = search rules

idle_self : (c : Chip) → Calm c.phase c.settled → Idle c c
idle_self c h = search rules

pub others_idle : (x : OthersCall) (a : Answer) (c d : Chip) → harmless_call x ≡ true → c.settled.protected ≡ true → Calm c.phase c.settled → Answered (bus_call x) a c d → Idle c d
others_idle (Calls.Load l g) a c d f u h (o, m, e) = elim (cases_Bool (inside c l.address)) [
  | inl t ↦
      let q = subst (λ (b : Bool). MatchBool b (LoadsInside l g c d o) ((d ≡ c) × (o ≡ Some Outside))) t m in
      let w = q.0 in
      let p = passed w.time g c in
      let i = idle_passed c p w.time g h refl in
      subst (λ (x : Chip). Idle c x) (sym q.1) (idle_trans c p _ i (load_idle w.fill l p p.phase u i.calm (not-true (matches (at 0x2AAA 0x55) l) f)))
  | inr t ↦
      let q = subst (λ (b : Bool). MatchBool b (LoadsInside l g c d o) ((d ≡ c) × (o ≡ Some Outside))) t m in
      subst (λ (x : Chip). Idle c x) (sym q.0) (idle_self c h)
]
others_idle (Calls.Read p g) a c d f u h (r, m, e) = elim (cases_Bool (inside c p)) [
  | inl t ↦
      let q = subst (λ (b : Bool). MatchBool b (ReadsInside p g c d r) ((d ≡ c) × (r ≡ Err Outside))) t m in
      let w = q.0 in
      let i = idle_passed c (passed w.time g c) w.time g h refl in
      subst (λ (x : Chip). Idle c x) (sym q.1) (record { sectors = refl; settled = refl; calm = i.calm })
  | inr t ↦
      let q = subst (λ (b : Bool). MatchBool b (ReadsInside p g c d r) ((d ≡ c) × (r ≡ Err Outside))) t m in
      subst (λ (x : Chip). Idle c x) (sym q.0) (idle_self c h)
]
others_idle (Calls.Wait g) a c d f u h ((w, m), e) = idle_passed c d w.time g h m

-- on a part without sectors others change nothing
pub bare : (x : OthersCall) (a : Answer) (c d : Chip) → c.sectors ≡ 0 → Answered (bus_call x) a c d → (d.sectors ≡ c.sectors) × (d.settled ≡ c.settled)
bare (Calls.Load l g) a c d z (o, m, e) =
    let q = subst (λ (b : Bool). MatchBool b (LoadsInside l g c d o) ((d ≡ c) × (o ≡ Some Outside))) (le-ltb l.address (128 * c.sectors) (omega arith)) m in
    (ap (λ (x : Chip). x.sectors) q.0, ap (λ (x : Chip). x.settled) q.0)
bare (Calls.Read p g) a c d z (r, m, e) =
    let q = subst (λ (b : Bool). MatchBool b (ReadsInside p g c d r) ((d ≡ c) × (r ≡ Err Outside))) (le-ltb p (128 * c.sectors) (omega arith)) m in
    (ap (λ (x : Chip). x.sectors) q.0, ap (λ (x : Chip). x.settled) q.0)
bare (Calls.Wait g) a c d z ((w, m), e) = (ap (λ (x : Chip). x.sectors) m, ap (λ (x : Chip). x.settled) m)
