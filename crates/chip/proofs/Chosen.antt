-- What a part chooses, and that its calls are then those of a socket. Assumes nothing.
use Rattle.std.proofs.Common.{◌≡◌, ℕ, ◌+◌, ◌-◌, ◌*◌, ◌/◌, ◌<◌, Bool, true, false, cond, eqb, List, length, get_or, Some, None, Ok, Option, sym, refl, ap, ◌∙◌, subst, arith}
use Rattle.std.specs.Prelude.{All}
use Rattle.std.proofs.lemmas.Bool.{lt-ltb}
use Rattle.std.proofs.lemmas.List.Elements.{All-from_get_or}
use Rattle.bus.specs.declared.refusal.BusRefusal.{BusRefusal}
use Rattle.bus.specs.declared.load.Load.{Load}
use Rattle.bus.specs.declared.call.Call.TheVariants as Calls
use Rattle.bus.specs.declared.call.Response.TheVariants.{Byte}
use Rattle.bus.specs.Meaning.{Chip, Phase, rest, opened, cycle}
use Rattle.bus.specs.Time.{passed, is_rest}
use Rattle.bus.specs.Choices.{Choice}
use Rattle.bus.specs.Status.{status, read_byte, after_read}
use Rattle.bus.specs.Refusals.{load_refusal}
use Rattle.bus.specs.Steps.{Reads, Loads, Waits}
use Rattle.kinds.specs.Style.{Style, Timely}
use Rattle.bus.specs.History.{Answer, load_answer}
use Rattle.array.specs.Filling.{fill_sector}
use Rattle.chip.specs.Exact.{fill_at, loaded_by, status_by, byte_by, closes, Onward, Exactly}
use Rattle.std.specs.Result.{result_err}
use Rattle.chip.specs.Meaning.{Reply, reply_to}
use Rattle.array.specs.Sizes.{length-fill}
use Rattle.array.proofs.Sectors.{get_or-fill}

-- a filling of 128 bytes
abbrev Filling : List ℕ → Type 0
Filling fs = (length fs ≡ 128) × All (λ b. b < 256) fs

filling : (y : Style) (bytes : List ℕ) (r : ℕ) → Filling (fill_sector y bytes r)
filling y bytes r = (
  length-fill y.filler bytes (128 * r) 128,
  All-from_get_or (λ b. b < 256) (fill_sector y bytes r) 0 (λ i h.
      let n = length-fill y.filler bytes (128 * r) 128 in
      let e = get_or-fill y.filler bytes (128 * r) 128 i (omega arith) in
      let b = y.filler_byte (get_or bytes (128 * r + i) 0) in omega arith),
)

same_cond : (b : Bool) (x : ℕ) → cond b x x ≡ x
same_cond true x = refl
same_cond false x = refl

same_byte_at : (y : Style) (c : Chip) (a : ℕ) (w : Choice) → w.top ≡ 1 - c.last.byte / 128 → w.low_bits ≡ y.free → byte_by y c a ≡ read_byte w c a
same_byte_at y c a w t f =
    ap (cond (is_rest c.phase) (get_or c.settled.bytes a 0))
    (let z : cond (eqb a c.last.address) (1 - c.last.byte / 128) w.top ≡ 1 - c.last.byte / 128 =
    ap (cond (eqb a c.last.address) (1 - c.last.byte / 128)) t ∙ same_cond (eqb a c.last.address) (1 - c.last.byte / 128) in
    let x : status_by y c ≡ status w c a = omega arith in x)

module _ (y : Style) (ts : ℕ → ℕ) (timely : Timely ts) where
  abbrev pub choose : (byte : ℕ) (fs : List ℕ) → Filling fs → Choice
  choose byte fs f = record {
    time = ts 0;
    fill = fs;
    top = 1 - byte / 128;
    low_bits = y.free;
    time_least = (timely 0).0;
    time_most = (timely 0).1;
    fill_length = f.0;
    fill_bytes = f.1;
    top_bit = omega arith;
    low_bits_fit = y.free_small;
  }

  fill_at_lem : (l : Load) (c : Chip) (q : Phase) → Filling (fill_at y l c q)
  fill_at_lem l c rest = filling y _ _
  fill_at_lem l c (opened s p age) = filling y _ _
  fill_at_lem l c (cycle e t) = filling y c.settled.bytes 0

  -- a call is the passing of its gap, to m, and then what it does
  module _ (g : ℕ) (c m : Chip) (p : m ≡ passed (ts 0) g c) where
    pub waits_by : Waits g c m
    waits_by = (choose 0 (fill_sector y c.settled.bytes 0) (filling y c.settled.bytes 0), p)

    pub loads_by : (l : Load) (d : Chip) (o : Option BusRefusal) → l.address < 128 * c.sectors →
        d ≡ loaded_by y l m → o ≡ load_refusal m.phase l → Loads l g c d o
    loads_by l d o h e f =
        rw (lt-ltb l.address (128 * c.sectors) h) (
          choose 0 (fill_at y l (passed (ts 0) g c) (passed (ts 0) g c).phase) (fill_at_lem l (passed (ts 0) g c) (passed (ts 0) g c).phase),
          subst (λ (x : Chip). d ≡ loaded_by y l x) p e,
          subst (λ (x : Chip). o ≡ load_refusal x.phase l) p f,
        )

    pub reads_by : (a : ℕ) (d : Chip) (b : ℕ) → a < 128 * c.sectors → d ≡ after_read m → b ≡ byte_by y m a → Reads a g c d (Ok b)
    reads_by a d b h e f =
        let w = choose m.last.byte (fill_sector y c.settled.bytes 0) (filling y c.settled.bytes 0) in
        let z : byte_by y m a ≡ read_byte w m a = same_byte_at y m a w refl refl in
        rw (lt-ltb a (128 * c.sectors) h)
        (w, subst (λ (x : Chip). d ≡ after_read x) p e, ap (λ (k : ℕ). Ok k) (f ∙ z ∙ ap (λ (x : Chip). read_byte w x a) p))

    module _ (us vs : ℕ → ℕ) (on : Onward (closes g c.phase) ts us) (same : vs ≡ us) where
      onward : Onward (closes g c.phase) ts vs
      onward = subst (λ (x : ℕ → ℕ). Onward (closes g c.phase) ts x) (sym same) on

      pub own_load : (l : Load) (d : Chip) (a : Answer) → l.address < 128 * c.sectors → d ≡ loaded_by y l m → a ≡ load_answer (load_refusal m.phase l) →
          Exactly y (Calls.Load l g) a ts vs c d
      own_load l d a h e f =
          let o = onward in
          rw (lt-ltb l.address (128 * c.sectors) h)
          (subst (λ (x : Chip). d ≡ loaded_by y l x) p e, subst (λ (x : Chip). a ≡ load_answer (load_refusal x.phase l)) p f, o)

      pub own_read : (k : ℕ) (d : Chip) (b : ℕ) → k < 128 * c.sectors → d ≡ after_read m → b ≡ byte_by y m k → Exactly y (Calls.Read k g) (Ok (Byte b)) ts vs c d
      own_read k d b h e f =
          let o = onward in
          rw (lt-ltb k (128 * c.sectors) h)
          (subst (λ (x : Chip). d ≡ after_read x) p e, subst (λ (x : Chip). ◌≡◌ {A = Answer} (Ok (Byte b)) (Ok (Byte (byte_by y x k)))) p (ap (λ (j : ℕ). Ok (Byte j)) f), o)

-- a load is refused as it was by what it came to
pub refused_by : (o : Option BusRefusal) (r : Reply) → r ≡ reply_to o → result_err r ≡ o
refused_by None r e = ap result_err e
refused_by (Some x) r e = ap result_err e
