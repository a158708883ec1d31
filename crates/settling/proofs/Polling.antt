-- One poll more on the way to rest. Assumes nothing.
use Rattle.std.proofs.Common.{◌≡◌, ℕ, ◌+◌, ◌-◌, ◌*◌, ◌<◌, ◌≤◌, Bool, true, false, not, leb, ◌⊎◌, List, [], ◌∷◌, length, get_or, Err, MatchBool, MatchResult, Result, sym, refl, ap, ◌∙◌, subst, inl, inr, arith, rules}
use Rattle.std.proofs.lemmas.Bool.{cases_lt, lt-ltb, le-ltb, lt-leb, cond-false}
use Rattle.bus.specs.declared.refusal.BusRefusal.{BusRefusal}
use Rattle.bus.specs.declared.refusal.BusRefusal.TheVariants.{Outside}
use Rattle.bus.specs.Choices.{Choice}
use Rattle.bus.specs.Lawful.{Lawful, Timely}
use Rattle.bus.specs.Meaning.{Chip, Phase, rest, opened, cycle, with_phase}
use Rattle.bus.specs.Status.{after_read, read_byte, bit, counted}
use Rattle.bus.specs.Steps.{Reads, ReadsInside, Waits}
use Rattle.bus.specs.Time.{passed, passed_phase, running}
use Rattle.settling.specs.Settling.{reads_after, Same, toggle_bit, Polls, Sees, Toggling, Polling, Waited}
use Rattle.settling.specs.Steps.{Stage, Closed, Agreement}

-- the toggle bit that its latest poll gave
abbrev pub Shown : Phase → Chip → ℕ → Type 0
Shown rest d b = b ≡ toggle_bit (get_or d.settled.bytes 0 0)
Shown (opened s p age) d b = ⊥
Shown (cycle e t) d b = b ≡ bit d.toggle

-- the cycle time still to run
abbrev pub left : Phase → ℕ
left rest = 0
left (opened s p age) = 0
left (cycle e t) = t - e

-- n polls since the wait, the first of which left the part as c, the latest as d with the bit b
pub record Polled (c d : Chip) (n b : ℕ) : Type 0 where
  pub some : 1 ≤ n
  pub same : Same c d
  pub reads : d.reads ≡ reads_after c.reads (n - 1)
  pub stage : Stage d.phase n
  pub shown : Shown d.phase d b

-- n polls so far, the newest of which gave b, and no two in succession agree
abbrev pub Seen : Chip → Chip → ℕ → ℕ → Type 0
Seen m d n b = (bits : List ℕ) × Sees m (b ∷ bits) d × Toggling (b ∷ bits) × (length (b ∷ bits) ≡ n)

pub read_in : (a g : ℕ) (c d : Chip) (r : Result ℕ BusRefusal) → a < 128 * c.sectors → Reads a g c d r → ReadsInside a g c d r
read_in a g c d r h p = subst (λ (b : Bool). MatchBool b (ReadsInside a g c d r) ((d ≡ c) × (r ≡ Err Outside))) (lt-ltb a (128 * c.sectors) h) p

-- the read of address 0 is answered, and b is the toggle bit of its byte
pub poll_gives : (c d : Chip) (r : Result ℕ BusRefusal) (b : ℕ) → 0 < c.sectors → Reads 0 100 c d r → MatchResult r (λ x. b ≡ toggle_bit x) (λ e. b ≡ 0) → Polls c d b
poll_gives c d r b h p q =
    let (w, after, answer) = read_in 0 100 c d r (omega arith) p in
    (w, after, rw answer at q)

-- a cycle goes on, or ends
ran_on : (e t : ℕ) → ((e < t) × (running t e ≡ cycle e t)) ⊎ ((t ≤ e) × (running t e ≡ rest))
ran_on e t = elim (cases_lt e t) [ inl h ↦ inl (h, rw (lt-ltb e t h)) | inr h ↦ inr (h, rw (le-ltb e t h)) ]

-- after the wait of 151 no period is open
waited_stage : (f : Phase) (t : ℕ) → Timely f → t ≤ 10000 → Stage (passed_phase t 151 f) 0
waited_stage rest t h b = omega arith
waited_stage (opened s p age) t h b =
    let k : leb (age + 151) 150 ≡ false = lt-leb (age + 151) 150 (omega arith) in
    subst (λ (f : Phase). Stage f 0) (sym (cond-false _ (opened s p (age + 151)) _ k))
    (elim (ran_on (age + 151 - 150) t) [
      | inl x ↦ subst (λ (f : Phase). Stage f 0) (sym x.1) (omega arith, x.0, b)
      | inr x ↦ subst (λ (f : Phase). Stage f 0) (sym x.1) (omega arith)
    ])
waited_stage (cycle e u) t h b = elim (ran_on (e + 151) u) [
  | inl x ↦ subst (λ (f : Phase). Stage f 0) (sym x.1) (omega arith, x.0, h.1)
  | inr x ↦ subst (λ (f : Phase). Stage f 0) (sym x.1) (omega arith)
]

pub waited : (c d : Chip) → Lawful c → Waits 151 c d → Same c d × (d.reads ≡ c.reads) × Stage d.phase 0
waited c d l (w, e) = (
  search rules,
  ap (λ (x : Chip). x.reads) e,
  subst (λ (f : Phase). Stage f 0) (sym (ap (λ (x : Chip). x.phase) e)) (waited_stage c.phase w.time l.timely w.time_most),
)

status_bit : (y b r : ℕ) → r < 64 → b ≤ 1 → toggle_bit (128 * y + (64 * b + r)) ≡ b
status_bit y b r h k = omega arith

bit_small : (t : Bool) → bit t ≤ 1
bit_small true = omega arith
bit_small false = omega arith

bit_turned : (t : Bool) → bit (not t) ≡ bit t → ⊥
bit_turned true e = omega arith
bit_turned false e = omega arith

-- a status shows the toggle bit that it leaves
status_shows : (w : Choice) (d : Chip) (e t x : ℕ) → x ≡ toggle_bit (read_byte w (with_phase d (cycle e t)) 0) → x ≡ bit (not d.toggle)
status_shows w d e t x r = r ∙ status_bit _ (bit (not d.toggle)) w.low_bits w.low_bits_fit (bit_small (not d.toggle))

-- Two polls agree: the part is at rest.
agree_rests : (w : Choice) (d d' : Chip) (n b x : ℕ) (f : Phase) → Stage f n → Shown f d b →
    d' ≡ after_read (passed w.time 100 (with_phase d f)) → x ≡ toggle_bit (read_byte w (passed w.time 100 (with_phase d f)) 0) → x ≡ b →
    (d'.phase ≡ rest) × (n + 1 ≤ 101)
agree_rests w d d' n b x rest s h q r a = (ap (λ (c : Chip). c.phase) q, omega arith)
agree_rests w d d' n b x (opened y p age) s h q r a = absurd s
agree_rests w d d' n b x (cycle e u) s h q r a = elim (ran_on (e + 100) u) [
  | inl k ↦
      let r' : x ≡ toggle_bit (read_byte w (with_phase d (cycle (e + 100) u)) 0) = subst (λ (g : Phase). x ≡ toggle_bit (read_byte w (with_phase d g) 0)) k.1 r in
      absurd (bit_turned d.toggle (sym (status_shows w d (e + 100) u x r') ∙ a ∙ h))
  | inr k ↦ (ap (λ (c : Chip). c.phase) q ∙ k.1, omega arith)
]

-- They differ: the part was in its cycle, which has less to run.
abbrev Goes : Chip → ℕ → ℕ → Phase → Type 0
Goes d n x f = Stage d.phase n × Shown d.phase d x × (left d.phase < left f)

differ_goes : (w : Choice) (d d' : Chip) (n b x : ℕ) (f : Phase) → Stage f n → Shown f d b →
    d' ≡ after_read (passed w.time 100 (with_phase d f)) → x ≡ toggle_bit (read_byte w (passed w.time 100 (with_phase d f)) 0) → (x ≡ b → ⊥) →
    Goes d' (n + 1) x f
differ_goes w d d' n b x rest s h q r a = absurd (a (r ∙ sym h))
differ_goes w d d' n b x (opened y p age) s h q r a = absurd s
differ_goes w d d' n b x (cycle e u) s h q r a = elim (ran_on (e + 100) u) [
  | inl k ↦
      let q' : d' ≡ after_read (with_phase d (cycle (e + 100) u)) = subst (λ (g : Phase). d' ≡ after_read (with_phase d g)) k.1 q in
      let r' : x ≡ toggle_bit (read_byte w (with_phase d (cycle (e + 100) u)) 0) = subst (λ (g : Phase). x ≡ toggle_bit (read_byte w (with_phase d g) 0)) k.1 r in
      subst (λ (c : Chip). Goes c (n + 1) x (cycle e u)) (sym q') ((omega arith, k.0, s.2), status_shows w d (e + 100) u x r', omega arith)
  | inr k ↦
      let q' : d' ≡ after_read (with_phase d rest) = subst (λ (g : Phase). d' ≡ after_read (with_phase d g)) k.1 q in
      let r' : x ≡ toggle_bit (read_byte w (with_phase d rest) 0) = subst (λ (g : Phase). x ≡ toggle_bit (read_byte w (with_phase d g) 0)) k.1 r in
      subst (λ (c : Chip). Goes c (n + 1) x (cycle e u)) (sym q') (omega arith, r', omega arith)
]

-- the first poll
first_shows : (w : Choice) (d d' : Chip) (x : ℕ) (f : Phase) → Stage f 0 →
    d' ≡ after_read (passed w.time 100 (with_phase d f)) → x ≡ toggle_bit (read_byte w (passed w.time 100 (with_phase d f)) 0) →
    Stage d'.phase 1 × Shown d'.phase d' x
first_shows w d d' x rest s q r = subst (λ (c : Chip). Stage c.phase 1 × Shown c.phase c x) (sym q) (omega arith, r)
first_shows w d d' x (opened y p age) s q r = absurd s
first_shows w d d' x (cycle e u) s q r = elim (ran_on (e + 100) u) [
  | inl k ↦
      let q' : d' ≡ after_read (with_phase d (cycle (e + 100) u)) = subst (λ (g : Phase). d' ≡ after_read (with_phase d g)) k.1 q in
      let r' : x ≡ toggle_bit (read_byte w (with_phase d (cycle (e + 100) u)) 0) = subst (λ (g : Phase). x ≡ toggle_bit (read_byte w (with_phase d g) 0)) k.1 r in
      subst (λ (c : Chip). Stage c.phase 1 × Shown c.phase c x) (sym q') ((omega arith, k.0, s.2), status_shows w d (e + 100) u x r')
  | inr k ↦
      let q' : d' ≡ after_read (with_phase d rest) = subst (λ (g : Phase). d' ≡ after_read (with_phase d g)) k.1 q in
      let r' : x ≡ toggle_bit (read_byte w (with_phase d rest) 0) = subst (λ (g : Phase). x ≡ toggle_bit (read_byte w (with_phase d g) 0)) k.1 r in
      subst (λ (c : Chip). Stage c.phase 1 × Shown c.phase c x) (sym q') (omega arith, r')
]

pub same_read : (c d d' : Chip) (t g : ℕ) → Same c d → d' ≡ after_read (passed t g d) → Same c d'
same_read c d d' t g s q = search rules

count_more : (a n r r' : ℕ) → 1 ≤ n → r ≡ reads_after a (n - 1) → r' ≡ counted r → r' ≡ reads_after a (n + 1 - 1)
count_more a n r r' h e f = omega arith

pub same_self : (c : Chip) → Same c c
same_self c = search rules

pub same_trans : (a b c : Chip) → Same a b → Same b c → Same a c
same_trans a b c s t = search rules

pub poll_first : (d d' : Chip) (x : ℕ) → Stage d.phase 0 → Polls d d' x → Polled d' d' 1 x
poll_first d d' x g (w, q, v) =
    let f = first_shows w d d' x d.phase g q v in
    record { some = omega arith; same = same_self d'; reads = let e = ap (λ (y : Chip). y.reads) q in omega arith; stage = f.0; shown = f.1 }

-- the loop is done
pub poll_done : (c d d' : Chip) (n b x : ℕ) → Polled c d n b → Polls d d' x → x ≡ b → Same c d' × (d'.phase ≡ rest) × (d'.reads ≡ reads_after c.reads n) × (n ≤ 100)
poll_done c d d' n b x p (w, q, v) e =
    let a = agree_rests w d d' n b x d.phase p.stage p.shown q v e in
    let m = count_more c.reads n d.reads d'.reads p.some p.reads (ap (λ (y : Chip). y.reads) q) in
    (same_read c d d' w.time 100 p.same q, a.0, omega arith, omega arith)

pub poll_more : (c d d' : Chip) (n b x : ℕ) → Polled c d n b → Polls d d' x → (x ≡ b → ⊥) → Polled c d' (n + 1) x × (left d'.phase < left d.phase)
poll_more c d d' n b x p (w, q, v) e =
    let a = differ_goes w d d' n b x d.phase p.stage p.shown q v e in (
      record {
        some = omega arith;
        same = same_read c d d' w.time 100 p.same q;
        reads = count_more c.reads n d.reads d'.reads p.some p.reads (ap (λ (y : Chip). y.reads) q);
        stage = a.0;
        shown = a.1;
      },
      a.2,
    )

-- the first poll and the loop together
pub agreement : (d e f : Chip) (n x : ℕ) → Polls d e x → Same e f × (f.phase ≡ rest) × (f.reads ≡ reads_after e.reads n) × (n ≤ 100) → 1 ≤ n → 0 < d.sectors →
    ((z : Chip) → Waits 151 z d → Polling z f (n + 1)) → Agreement d f (n + 1)
unfolding Waited
agreement d e f n x (w, q, v) (t, h, m, k) l s by =
    let u = ap (λ (y : Chip). y.reads) q in
    record {
      same = same_trans d e f (same_read d d e w.time 100 (same_self d) q) t;
      reads = omega arith;
      most = omega arith;
      least = omega arith;
      rests = h;
      polled = λ z p. (λ y. by z p, λ y. absurd (let i = ap (λ (c : Chip). c.sectors) p.1 in omega arith));
    }

-- the wait alone
pub closed : (c d : Chip) → Lawful c → Waits 151 c d → Closed c d
unfolding Waited
closed c d l p =
    let w = waited c d l p in
    record { same = w.0; reads = w.1; stage = w.2; waits = p; none = λ z. (λ y. absurd (omega arith), λ y. p); counts = let r = w.1 in let k = l.counts in omega arith }

pub stage_few : (f : Phase) (n : ℕ) → Stage f n → n ≤ 100
stage_few rest n h = h
stage_few (opened s p age) n h = absurd h
stage_few (cycle e t) n h = omega arith

pub seen_first : (m d : Chip) (x : ℕ) → Polls m d x → Seen m d 1 x
seen_first m d x p = ([], (m, refl, p), tt, refl)

pub seen_more : (m d d' : Chip) (n b x : ℕ) → Seen m d n b → Polls d d' x → (x ≡ b → ⊥) → Seen m d' (n + 1) x
seen_more m d d' n b x (bits, s, t, k) p e = (b ∷ bits, (d, s, p), (e, t), omega arith)

pub seen_done : (c m d d' : Chip) (n b x : ℕ) → Waits 151 c m → Seen m d n b → Polls d d' x → x ≡ b → Polling c d' (n + 1)
seen_done c m d d' n b x w (bits, s, t, k) p e = record { waited = m; wait = w; bits = x ∷ (b ∷ bits); sees = (d, s, p); agreed = (e, t); long = omega arith }

-- what the loop keeps: n polls, the newest of which gave b, since the first, which left the part as c with the bit a
pub record Kept (c : Chip) (a : ℕ) (d : Chip) (n b : ℕ) : Type 0 where
  pub polled : Polled c d n b
  pub seen : (z : Chip) → Polls z c a → Seen z d n b

pub kept_first : (d e : Chip) (a : ℕ) → Stage d.phase 0 → Polls d e a → Kept e a e 1 a
kept_first d e a s p = record { polled = poll_first d e a s p; seen = λ z q. seen_first z e a q }

pub kept_more : (c d e : Chip) (a n b x : ℕ) → Kept c a d n b → Polls d e x → (x ≡ b → ⊥) → Kept c a e (n + 1) x
kept_more c d e a n b x k p ne = record { polled = (poll_more c d e n b x k.polled p ne).0; seen = λ z q. seen_more z d e n b x (k.seen z q) p ne }

-- a poll that differs leaves less of the cycle to run
pub left_less : (c d e : Chip) (a n b x : ℕ) → Kept c a d n b → Polls d e x → (x ≡ b → ⊥) → left e.phase < left d.phase
left_less c d e a n b x k p ne = (poll_more c d e n b x k.polled p ne).1

pub kept_done : (z c d e : Chip) (a n b x : ℕ) → 0 < z.sectors → Polls z c a → Kept c a d n b → Polls d e x → x ≡ b → Agreement z e (n + 1)
kept_done z c d e a n b x some first k p same =
    agreement z c e n a first (poll_done c d e n b x k.polled p same) k.polled.some some (λ y w. seen_done y z d e n b x w (k.seen z first) p same)
