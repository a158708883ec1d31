-- A line that grows to its end, at the front of a place.
use Rattle.std.proofs.Common.{◌≡◌, ℕ, suc, ◌+◌, ◌-◌, ◌*◌, ◌/◌, ◌%◌, ◌^◌, ◌<◌, ◌≤◌, List, [], ◌∷◌, ◌++◌, length, take, drop, set, decimal, Option, sym, refl, ap, ◌∙◌, arith, append_assoc, shr-shr, add-one, length-append, length-drop, length-set, take_at, drop_at, drop-drop, drop-set-lt, take-suc-set, take-append-drop}
use Rattle.std.proofs.lemmas.Fmt.{decimal_digit, decimal_step}
use Rattle.fields.specs.Splitting.{joined}
use Rattle.writer.specs.Writing.{hex_char, hex_text, address_of, byte_of, value_text, addr_text, data_text, Fronts}
use Rattle.trace.specs.declared.cycle.Cycle.{Cycle}
use Rattle.trace.specs.declared.cycle.Cycle.TheVariants.{Load, Read, Wait}

-- four fields, one put after another
pub put_in_turn : (l : ℕ) (g a d : List ℕ) → (((([] ++ (l ∷ (32 ∷ []))) ++ g) ++ (32 ∷ [])) ++ a) ++ (32 ∷ []) ++ d ≡ joined (l ∷ []) g a d
put_in_turn l g a d = simp append_assoc

pub addr_value : (x : Cycle) (k : ℕ) (v : Option ℕ) → k ≡ 5 → v ≡ address_of x → addr_text x ≡ value_text k v
addr_value (Load g a d) k v e h = rw (e, h) refl
addr_value (Read g a) k v e h = rw (e, h) refl
addr_value (Wait g) k v e h = rw (e, h) refl

pub data_value : (x : Cycle) (k : ℕ) (v : Option ℕ) → k ≡ 2 → v ≡ byte_of x → data_text x ≡ value_text k v
data_value (Load g a d) k v e h = rw (e, h) refl
data_value (Read g a) k v e h = rw (e, h) refl
data_value (Wait g) k v e h = rw (e, h) refl

-- the digits of n above the place q, and then the one just below it
pub hex_more : (digits q n : ℕ) → 0 < q → q ≤ digits
    → hex_text (digits - q) (n / 2 ^ (4 * q)) ++ (hex_char (n / 2 ^ (4 * (q - 1)) % 16) ∷ []) ≡ hex_text (digits - (q - 1)) (n / 2 ^ (4 * (q - 1)))
hex_more digits q n h l =
    let j : digits - (q - 1) ≡ suc (digits - q) = omega arith in
    let k : 4 * q ≡ 4 * (q - 1) + 4 = omega arith in
    let d : n / 2 ^ (4 * q) ≡ n / 2 ^ (4 * (q - 1)) / 16 = ap (λ (i : ℕ). n / 2 ^ i) k ∙ sym (shr-shr n (4 * (q - 1)) 4) in
    rw (j, d) refl

-- nothing is put yet
pub none_put : (p : List ℕ) → Fronts p [] 0 p
none_put p = record { count = refl; within = omega arith; front = refl; back = refl }

-- what stands behind a place stands behind each later one
later : (m n : ℕ) (p q : List ℕ) → drop n q ≡ drop n p → drop (n + m) q ≡ drop (n + m) p
later m n p q e = sym (drop-drop m n q) ∙ ap (drop m) e ∙ drop-drop m n p

-- a text, a byte and a decimal number that are put behind the first n bytes
pub text_put : (p w q t v : List ℕ) (n m : ℕ) → v ≡ t → m ≡ length t → n + length t ≤ length q → Fronts p w n q → Fronts p (w ++ t) (n + length t) (take n q ++ (v ++ drop m (drop n q)))
text_put p w q t v n m g e l f =
    let c = f.count in
    let k : length (w ++ t) ≡ n + length t = simp length-append (omega arith) in
    rw (g, e, f.front, ← append_assoc) (record {
      count = sym k;
      within = simp (length-append, length-drop) (omega arith);
      front = take_at (w ++ t) (drop (length t) (drop n q)) (n + length t) k;
      back = drop_at (w ++ t) (drop (length t) (drop n q)) (n + length t) k ∙ drop-drop (length t) n q ∙ later (length t) n p q f.back;
    })

pub byte_put : (p w q : List ℕ) (n b : ℕ) → n < length q → Fronts p w n q → Fronts p (w ++ (b ∷ [])) (n + 1) (set q n b)
byte_put p w q n b l f =
    let c = f.count in
    record {
      count = simp length-append (omega arith);
      within = simp length-set (omega arith);
      front = rw add-one (take-suc-set q n b l ∙ ap (λ (x : List ℕ). x ++ (b ∷ [])) f.front);
      back = drop-set-lt (n + 1) q n b (omega arith) ∙ later 1 n p q f.back;
    }

pub digits_put : (p w q r t : List ℕ) (n : ℕ) → drop n r ≡ t ++ drop (n + length t) q → take n r ≡ take n q → length r ≡ length q → n + length t ≤ length q → Fronts p w n q → Fronts p (w ++ t) (n + length t) r
digits_put p w q r t n written before same l f =
    let c = f.count in
    let k : length (w ++ t) ≡ n + length t = simp length-append (omega arith) in
    let e : r ≡ (w ++ t) ++ drop (n + length t) q = sym (take-append-drop n r) ∙ rw (before, f.front, written, append_assoc) refl in
    record {
      count = sym k;
      within = omega arith;
      front = ap (take (n + length t)) e ∙ take_at (w ++ t) (drop (n + length t) q) (n + length t) k;
      back = ap (drop (n + length t)) e ∙ drop_at (w ++ t) (drop (n + length t) q) (n + length t) k ∙ later (length t) n p q f.back;
    }

pub length-digit : (n : ℕ) → n < 10 → length (decimal n) ≡ 1
length-digit n h = ap length (decimal_digit n h)

pub length_more : (n : ℕ) → 10 ≤ n → n < 65536 → length (decimal n) ≡ length (decimal (n / 10)) + 1
length_more n h l = ap length (decimal_step n h (omega arith)) ∙ length-append (decimal (n / 10)) ((48 + n % 10) ∷ [])
