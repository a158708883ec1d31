-- The law of bytes over whole runs: one invariant, kept by each call. Assumes nothing.
use Rattle.std.proofs.Common.{◌≡◌, ℕ, ◌+◌, ◌-◌, ◌*◌, ◌<◌, ◌≤◌, Bool, true, false, cond, not, ◌&&◌, ltb, leb, ◌⊎◌, List, [], ◌∷◌, length, get_or, Some, None, Ok, Err, Option, Result, sym, refl, ap, ◌∙◌, subst, inl, inr, arith}
use Rattle.std.proofs.lemmas.Bool.{cases_Bool, cond-true, cond-false, ltb-true, leb-true, leb-false, le-leb, lt-leb, and_left, and_right}
use Rattle.std.proofs.lemmas.Bool.Decides.{when_true, when_false}
use Rattle.std.specs.Result.{result_err}
use Rattle.bus.specs.declared.load.Load.{Load}
use Rattle.bus.specs.declared.call.Call.{Call}
use Rattle.bus.specs.declared.call.Call.TheVariants as Calls
use Rattle.bus.specs.declared.refusal.BusRefusal.{BusRefusal}
use Rattle.bus.specs.declared.refusal.BusRefusal.TheVariants.{Outside, ReservedCode}
use Rattle.bus.proofs.Summaries.{summary}
use Rattle.bus.proofs.Settling.{Good, Inside, good_step}
use Rattle.bus.specs.Meaning.{State, Period, Phase, rest, opened, cycle, Chip, with_phase}
use Rattle.bus.specs.Codes.{completes_reserved}
use Rattle.bus.specs.Periods.{extend, fresh}
use Rattle.bus.specs.Outcomes.{settle}
use Rattle.bus.specs.Time.{running, passed_phase, passed}
use Rattle.bus.specs.Refusals.{inside, load_refusal}
use Rattle.bus.specs.Steps.{loaded_in, LoadsInside, ReadsInside, Loads, Reads, Waits}
use Rattle.bus.specs.History.{Answer, Step, load_answer, read_answer, Answered, Run, refusal_of, time_of, Told, is_nil, all, later, tell_load, tell, tell_all, periods_of}
use Rattle.bus.specs.Law.{Flags, flags_of, byte_at, Law}
use Rattle.bus.proofs.Sentences.{some_writer, last_load}

-- a call with the refusal that it met
abbrev Moves : Call → Option BusRefusal → Chip → Chip → Type 0
Moves (Calls.Load l g) o c d = Loads l g c d o
Moves (Calls.Read a g) o c d = (r : Result ℕ BusRefusal) × Reads a g c d r × (result_err r ≡ o)
Moves (Calls.Wait g) o c d = Waits g c d
Moves Calls.Identify o c d = d ≡ with_phase c rest

load_refusal_lem : (o : Option BusRefusal) → refusal_of (load_answer o) ≡ o
load_refusal_lem None = refl
load_refusal_lem (Some e) = refl

read_refusal : (r : Result ℕ BusRefusal) → result_err r ≡ refusal_of (read_answer r)
read_refusal (Ok u) = refl
read_refusal (Err e) = refl

-- of an answer the history needs the refusal alone
answered : (x : Call) (o : Answer) (c d : Chip) → Answered x o c d → Moves x (refusal_of o) c d
answered (Calls.Load l g) o c d (r, m, e) = subst (λ (v : Option BusRefusal). Loads l g c d v) (sym (ap refusal_of e ∙ load_refusal_lem r)) m
answered (Calls.Read p g) o c d (r, m, e) = (r, m, read_refusal r ∙ sym (ap refusal_of e))
answered (Calls.Wait g) o c d m = m.0
answered Calls.Identify o c d (r, m, e) = m.0

-- a load joined to a period, on a part of n sectors
abbrev joined : ℕ → List ℕ → State → Period → Load → Chip → Chip
joined n fill s p l c = record {
  sectors = c.sectors;
  device = c.device;
  settled = settle n fill s (extend n p l);
  phase = opened s (extend n p l) 0;
  last = l;
  toggle = c.toggle;
  reads = c.reads;
}

module _ (n : ℕ) (f : Flags) (a first : ℕ) where
  -- no period is open
  abbrev Idle : Told → Type 0
  Idle b = (is_nil b.latest ≡ true) ⊎ (150 < b.since)

  abbrev OpenAt : Phase → Told → Type 0
  OpenAt rest b = Idle b
  OpenAt (cycle e t) b = Idle b
  OpenAt (opened s p age) b =
      (is_nil b.latest ≡ false) × (b.since ≡ age) × (age ≤ 150) × (p ≡ summary n b.latest) × Good n f a first s b.earlier × Inside n b.latest

  abbrev Inv : Told → Chip → Type 0
  Inv b c = (c.sectors ≡ n) × Good n f a first c.settled (all b) × OpenAt c.phase b

  idle_running : (t e : ℕ) (b : Told) → Idle b → OpenAt (running t e) b
  idle_running t e b i = elim (ltb e t) as (λ v. OpenAt (cond v (cycle e t) rest) b) [ true ↦ i | false ↦ i ]

  idle_later : (g : ℕ) (b : Told) → Idle b → Idle (later g b)
  idle_later g b (inl e) = inl e
  idle_later g b (inr h) = inr (omega arith)

  pass_open : (t g : ℕ) (q : Phase) (b : Told) → OpenAt q b → OpenAt (passed_phase t g q) (later g b)
  pass_open t g rest b i = idle_later g b i
  pass_open t g (cycle e u) b i = idle_running u (e + g) (later g b) (idle_later g b i)
  pass_open t g (opened s p age) b h = elim (cases_Bool (leb (age + g) 150)) [
    | inl y ↦ subst (λ (q : Phase). OpenAt q (later g b)) (sym (cond-true _ _ _ y))
        (h.0, omega (arith, h.1), leb-true (age + g) 150 y, h.3, h.4, h.5)
    | inr z ↦ subst (λ (q : Phase). OpenAt q (later g b)) (sym (cond-false _ _ _ z))
        (idle_running t (age + g - 150) (later g b) (inr (let k = leb-false (age + g) 150 z in omega (arith, h.1))))
  ]

  pass_inv : (t g : ℕ) (b : Told) (c : Chip) → Inv b c → Inv (later g b) (passed t g c)
  pass_inv t g b c h = (h.0, h.1, pass_open t g c.phase b h.2)

  still_open : (q : Phase) (b : Told) → OpenAt q b → OpenAt q (later 0 b)
  still_open rest b i = idle_later 0 b i
  still_open (cycle e t) b i = idle_later 0 b i
  still_open (opened s p age) b h = (h.0, omega (arith, h.1), h.2, h.3, h.4, h.5)

  still_inv : (b : Told) (c : Chip) → Inv b c → Inv (later 0 b) c
  still_inv b c h = (h.0, h.1, still_open c.phase b h.2)

  -- an accepted load opens a period
  opens : (l : Load) (g : ℕ) (b : Told) → Idle (later g b) → record { earlier = all b; latest = l ∷ []; since = 0 } ≡ tell_load l g None b
  opens l g b (inl e) = sym (cond-false _ _ _ (and_left _ _ (ap not e)))
  opens l g b (inr h) = sym (cond-false _ _ _ (and_right _ _ (lt-leb (b.since + g) 150 h)))

  begin_inv : (l : Load) (g : ℕ) (fill : List ℕ) → length fill ≡ 128 → l.address < 128 * n → (b : Told) (c : Chip) →
      c.sectors ≡ n → Good n f a first c.settled (all b) → Idle (later g b) →
      Inv (tell_load l g None b) (joined c.sectors fill c.settled fresh l c)
  begin_inv l g fill fl within b c e good i =
      let b' : Told = record { earlier = all b; latest = l ∷ []; since = 0 } in
      let at_n : Inv b' (joined n fill c.settled fresh l c) =
      (e, good_step n f a first c.settled (all b) (l ∷ []) fill fl (within, tt) good, (refl, refl, omega arith, refl, good, (within, tt))) in
      subst (λ (x : Told). Inv x (joined c.sectors fill c.settled fresh l c)) (opens l g b i)
      (subst (λ (m : ℕ). Inv b' (joined m fill c.settled fresh l c)) (sym e) at_n)

  -- an accepted load joins the open period
  joins : (l : Load) (g : ℕ) (b : Told) → is_nil b.latest ≡ false → b.since + g ≤ 150 → record { earlier = b.earlier; latest = l ∷ b.latest; since = 0 } ≡ tell_load l g None b
  joins l g b e h = sym (cond-true _ _ _ (let x : (not (is_nil b.latest) && leb (b.since + g) 150) ≡ true = rw (e, le-leb (b.since + g) 150 h) in x))

  join_inv : (l : Load) (g : ℕ) (fill : List ℕ) → length fill ≡ 128 → l.address < 128 * n → (b : Told) (c : Chip) (s : State) (p : Period) (age : ℕ) →
      c.sectors ≡ n → OpenAt (opened s p age) (later g b) →
      Inv (tell_load l g None b) (joined c.sectors fill s p l c)
  join_inv l g fill fl within b c s p age e h =
      let b' : Told = record { earlier = b.earlier; latest = l ∷ b.latest; since = 0 } in
      let at_sum : Inv b' (joined n fill s (summary n b.latest) l c) =
      (e, good_step n f a first s b.earlier (l ∷ b.latest) fill fl (within, h.5) h.4, (refl, refl, omega arith, refl, h.4, (within, h.5))) in
      let at_p = subst (λ (q : Period). Inv b' (joined n fill s q l c)) (sym h.3) at_sum in
      subst (λ (x : Told). Inv x (joined c.sectors fill s p l c)) (joins l g b h.0 (omega (arith, h.1, h.2)))
      (subst (λ (m : ℕ). Inv b' (joined m fill s p l c)) (sym e) at_p)

  -- what a load inside the part does, once its gap has passed
  load_at : (l : Load) (g : ℕ) (fill : List ℕ) → length fill ≡ 128 → l.address < 128 * n → (b : Told) (c : Chip) (q : Phase) →
      c.sectors ≡ n → Good n f a first c.settled (all b) → OpenAt c.phase (later g b) → c.phase ≡ q →
      Inv (tell_load l g (load_refusal q l) b) (loaded_in fill l c q)
  load_at l g fill fl within b c rest e good i x = begin_inv l g fill fl within b c e good (subst (λ (y : Phase). OpenAt y (later g b)) x i)
  load_at l g fill fl within b c (cycle u t) e good i x = (e, good, i)
  load_at l g fill fl within b c (opened s p age) e good i x = elim (cases_Bool (completes_reserved p.head l)) [
    | inl y ↦ subst (λ (v : Bool). Inv (tell_load l g (cond v (Some ReservedCode) None) b) (cond v c (joined c.sectors fill s p l c))) (sym y) (e, good, i)
    | inr z ↦ subst (λ (v : Bool). Inv (tell_load l g (cond v (Some ReservedCode) None) b) (cond v c (joined c.sectors fill s p l c))) (sym z)
        (join_inv l g fill fl within b c s p age e (subst (λ (y : Phase). OpenAt y (later g b)) x i))
  ]

  inside_at : (m : ℕ) (c : Chip) → c.sectors ≡ n → inside c m ≡ true → m < 128 * n
  inside_at m c e t = let k = ltb-true m (128 * c.sectors) t in omega arith

  move_inv : (x : Call) (o : Option BusRefusal) (b : Told) (c d : Chip) → Inv b c → Moves x o c d → Inv (tell x o b) d
  move_inv (Calls.Load l g) o b c d h m = elim (cases_Bool (inside c l.address)) [
    | inl y ↦
        let q = when_true (LoadsInside l g c d o) _ y m in
        let w = q.0 in
        let i = pass_inv w.time g b c h in
        let done = load_at l g w.fill w.fill_length (inside_at l.address c h.0 y) b (passed w.time g c) (passed w.time g c).phase i.0 i.1 i.2 refl in
        subst (λ (v : Option BusRefusal). Inv (tell_load l g v b) d) (sym q.2) (subst (Inv (tell_load l g (load_refusal (passed w.time g c).phase l) b)) (sym q.1) done)
    | inr z ↦
        let q = when_false (LoadsInside l g c d o) ((d ≡ c) × (o ≡ Some Outside)) z m in
        subst (λ (v : Option BusRefusal). Inv (tell_load l g v b) d) (sym q.1) (subst (Inv (later 0 b)) (sym q.0) (still_inv b c h))
  ]
  move_inv (Calls.Read p g) o b c d h (r, m, e) = elim (cases_Bool (inside c p)) [
    | inl y ↦
        let q = when_true (ReadsInside p g c d r) _ y m in
        let i = pass_inv q.0.time g b c h in
        subst (λ (v : Option BusRefusal). Inv (later (time_of v g) b) d) (sym (ap result_err q.2) ∙ e) (subst (Inv (later g b)) (sym q.1) i)
    | inr z ↦
        let q = when_false (ReadsInside p g c d r) ((d ≡ c) × (r ≡ Err Outside)) z m in
        subst (λ (v : Option BusRefusal). Inv (later (time_of v g) b) d) (sym (ap result_err q.1) ∙ e) (subst (Inv (later 0 b)) (sym q.0) (still_inv b c h))
  ]
  move_inv (Calls.Wait g) o b c d h m = subst (Inv (later g b)) (sym m.1) (pass_inv m.0.time g b c h)
  move_inv Calls.Identify o b c d h m = subst (Inv (record { earlier = all b; latest = []; since = 0 })) (sym m) (h.0, h.1, inl refl)

  run_inv : (xs : List Step) (b : Told) (c d : Chip) → Inv b c → Run xs c d → Inv (tell_all xs b) d
  run_inv [] b c d h e = subst (Inv b) (sym e) h
  run_inv (x ∷ xs) b c d h (m, v, r) =
      run_inv xs (tell x.call (refusal_of x.answer) b) m d (move_inv x.call (refusal_of x.answer) b c m h (answered x.call x.answer c m v)) r

law_at : (xs : List Step) (c d : Chip) → c.phase ≡ rest → length c.settled.bytes ≡ 128 * c.sectors → Run xs c d → (a : ℕ) →
    Good c.sectors (flags_of c.settled) a (get_or c.settled.bytes a 0) d.settled (periods_of xs)
law_at xs c d at_rest size run a =
    let b : Told = record { earlier = []; latest = []; since = 0 } in
    let first = get_or c.settled.bytes a 0 in
    let f = flags_of c.settled in
    let start : Inv c.sectors f a first b c =
    (refl, (size, refl, refl), subst (λ (q : Phase). OpenAt c.sectors f a first q b) (sym at_rest) (inl refl)) in
    (run_inv c.sectors f a first xs b c d start run).1

-- after every history of a part that began at rest
pub law_holds : (xs : List Step) (c d : Chip) → c.phase ≡ rest → length c.settled.bytes ≡ 128 * c.sectors → Run xs c d → Law xs c d
law_holds xs c d at_rest size run =
    let f = flags_of c.settled in
    let flags = (law_at xs c d at_rest size run 0).1 in
    record {
      changed = λ a within ne. some_writer c.sectors f a (byte_at c a) (byte_at d a) (periods_of xs) (law_at xs c d at_rest size run a).2 ne;
      written = λ a i v within w e. last_load c.sectors f a (byte_at c a) (byte_at d a) (periods_of xs) i v (law_at xs c d at_rest size run a).2 w e;
      protection = ap (λ (x : Flags). x.protected) flags;
      low_lock = ap (λ (x : Flags). x.low_locked) flags;
      high_lock = ap (λ (x : Flags). x.high_locked) flags;
    }
