-- A written line reads as its cycle.
use Rattle.std.proofs.Common.{◌≡◌, ℕ, zero, suc, ◌+◌, ◌*◌, ◌/◌, ◌%◌, ◌^◌, ◌<◌, ◌≤◌, true, false, List, [], ◌∷◌, ◌++◌, length, Some, None, Ok, decimal, Option, sym, refl, ap, ◌∙◌, append_assoc, append-nil, pow-suc, arith, length-append}
use Rattle.std.specs.Char.{digit_value}
use Rattle.std.specs.Str.Parse.{AllDigits, digits_value_after}
use Rattle.std.proofs.lemmas.Bool.{lt-ltb, le-leb, and_from, cond-true, ltb-false}
use Rattle.std.proofs.lemmas.Bool.Decides.{nat_tests}
use Rattle.std.proofs.lemmas.Str.Parse.{digit_from_value}
use Rattle.std.proofs.lemmas.Fmt.{decimal_is_IsNumeral, length-decimal-le}
use Rattle.trace.specs.Naming.{standard_order}
use Rattle.fields.specs.Splitting.{printable, is_text, joined}
use Rattle.fields.specs.Forms.{digit_in, number_after, gap_in, address_in, data_in}
use Rattle.trace.specs.Lines.{value_line}
use Rattle.writer.specs.Writing.{hex_char, hex_text, gap_of, data_of, text_of, too_high}
use Rattle.fields.specs.Splitting.{NoSpace}
use Rattle.trace.specs.declared.cycle.Cycle.{Cycle}
use Rattle.trace.specs.declared.cycle.Cycle.TheVariants.{Load, Read, Wait}
use Rattle.trace.proofs.Saying.{reads_as}

-- ---- digits

digit_step : (base n b d : ℕ) (t : List ℕ) → digit_in base b ≡ Some d → number_after base n (b ∷ t) ≡ number_after base (n * base + d) t
digit_step base n b d t e = ap (λ (o : Option ℕ). elim o [ None ↦ None | Some v ↦ number_after base (n * base + v) t ]) e

digits_read : (base n : ℕ) (ds : List ℕ) → AllDigits base ds → number_after base n ds ≡ Some (digits_value_after base n ds)
digits_read base n [] h = refl
digits_read base n (c ∷ cs) h =
    digit_step base n c (digit_value c) cs (cond-true _ _ _ (lt-ltb (digit_value c) base h.0)) ∙ digits_read base (n * base + digit_value c) cs h.1

hex_value : (d : ℕ) → d < 16 → digit_in 16 (hex_char d) ≡ Some d
hex_value d h = grind (arith, nat_tests)

-- digits of a number read as that number, whatever follows
hex_reads : (k a : ℕ) (t : List ℕ) → a < 16 ^ k → number_after 16 0 (hex_text k a ++ t) ≡ number_after 16 a t
hex_reads zero a t h = let z : 0 ≡ a = omega arith in ap (λ (n : ℕ). number_after 16 n t) z
hex_reads (suc k) a t h =
    let l : a / 16 < 16 ^ k = let p = pow-suc 16 k in omega arith in
    let e : a / 16 * 16 + a % 16 ≡ a = omega arith in
    ap (number_after 16 0) (append_assoc (hex_text k (a / 16)) (hex_char (a % 16) ∷ []) t)
    ∙ hex_reads k (a / 16) (hex_char (a % 16) ∷ t) l
    ∙ digit_step 16 (a / 16) (hex_char (a % 16)) (a % 16) t (hex_value (a % 16) (omega arith))
    ∙ ap (λ (n : ℕ). number_after 16 n t) e

length-hex : (k n : ℕ) → length (hex_text k n) ≡ k
length-hex zero n = refl
length-hex (suc k) n = length-append (hex_text k (n / 16)) (hex_char (n % 16) ∷ []) ∙ (let e = length-hex k (n / 16) in omega arith)

address_back : (a : ℕ) → a < 1048576 → address_in (hex_text 5 a) ≡ Some a
address_back a h = ap (number_after 16 0) (sym (append-nil (hex_text 5 a))) ∙ hex_reads 5 a [] (omega arith)

data_back : (d : ℕ) → d < 256 → data_in (hex_text 2 d) ≡ Some d
data_back d h = ap (number_after 16 0) (sym (append-nil (hex_text 2 d))) ∙ hex_reads 2 d [] (omega arith)

short_decimal : (g : ℕ) → g < 65536 → (0 < length (decimal g)) × (length (decimal g) ≤ 5)
short_decimal g h = ((decimal_is_IsNumeral g (omega arith)).0.0, length-decimal-le 5 g (omega arith) (omega arith) (omega arith))

gap_back : (g : ℕ) → g < 65536 → gap_in (decimal g) ≡ Some g
gap_back g h =
    let d = decimal_is_IsNumeral g (omega arith) in
    let n = short_decimal g h in
    let top : g ≤ 65535 = omega arith in
    let e : number_after 10 0 (decimal g) ≡ Some g = digits_read 10 0 (decimal g) d.0.1 ∙ ap Some d.1 in
    rw (le-leb 1 (length (decimal g)) n.0, le-leb (length (decimal g)) 5 n.1, e, le-leb g 65535 top) refl

-- ---- bytes that are printed and no space

abbrev Plain : List ℕ → Type 0
Plain [] = Unit {0}
Plain (b ∷ s) = ((33 ≤ b) × (b ≤ 126)) × Plain s

plain_append : (s t : List ℕ) → Plain s → Plain t → Plain (s ++ t)
plain_append [] t p q = q
plain_append (b ∷ s) t p q = (p.0, plain_append s t p.1 q)

plain_spaceless : (s : List ℕ) → Plain s → NoSpace s
plain_spaceless [] p = tt
plain_spaceless (b ∷ s) p = ((λ e. omega (arith, p.0.0, e)), plain_spaceless s p.1)

plain_printable : (w s : List ℕ) → Plain w → printable s ≡ true → printable (w ++ s) ≡ true
plain_printable [] s p h = h
plain_printable (b ∷ w) s p h =
    let low : 32 ≤ b = omega (arith, p.0.0) in
    rw (le-leb 32 b low, le-leb b 126 p.0.1) (plain_printable w s p.1 h)

plain_digits : (ds : List ℕ) → AllDigits 10 ds → Plain ds
plain_digits [] h = tt
plain_digits (c ∷ cs) h = let i = digit_from_value c h.0 in ((omega (arith, i), omega (arith, i)), plain_digits cs h.1)

plain_decimal : (g : ℕ) → g < 65536 → Plain (decimal g)
plain_decimal g h = plain_digits (decimal g) (decimal_is_IsNumeral g (omega arith)).0.1

hex_plain : (d : ℕ) → d < 16 → (33 ≤ hex_char d) × (hex_char d ≤ 126)
hex_plain d h = (grind (arith, nat_tests), grind (arith, nat_tests))

plain_hex : (k n : ℕ) → Plain (hex_text k n)
plain_hex zero n = tt
plain_hex (suc k) n = plain_append (hex_text k (n / 16)) (hex_char (n % 16) ∷ []) (plain_hex k (n / 16)) (hex_plain (n % 16) (omega arith), tt)

plain_one : (b : ℕ) → 33 ≤ b → b ≤ 126 → Plain (b ∷ [])
plain_one b l h = ((l, h), tt)

-- four plain fields are a line of text
plain_text : (a b c d : List ℕ) → Plain a → Plain b → Plain c → Plain d → length a + length b + length c + length d ≤ 61 → is_text (joined a b c d) ≡ true
plain_text a b c d pa pb pc pd short =
    let e : printable d ≡ true = ap printable (sym (append-nil d)) ∙ plain_printable d [] pd refl in
    let p : printable (joined a b c d) ≡ true = plain_printable a _ pa (plain_printable b _ pb (plain_printable c _ pc e)) in
    let l : length (joined a b c d) ≤ 64 = simp length-append (omega arith) in
    and_from _ _ (le-leb (length (joined a b c d)) 64 l) p

-- ---- the round trip

-- the numbers of a cycle that has a line
abbrev pub Writable : Cycle → Type 0
Writable (Load g a d) = (g < 65536) × (a < 1048576) × (d < 256)
Writable (Read g a) = (g < 65536) × (a < 1048576)
Writable (Wait g) = g < 65536

pub reads_back : (x : Cycle) → Writable x → value_line standard_order (text_of x) ≡ Ok x
unfolding text_of
reads_back (Load g a d) h =
    let n = short_decimal g h.0 in
    let pg = plain_decimal g h.0 in
    let pa = plain_hex 5 a in
    let pd = plain_hex 2 d in
    let la = length-hex 5 a in
    let ld = length-hex 2 d in
    reads_as standard_order (text_of (Load g a d)) (76 ∷ []) (decimal g) (hex_text 5 a) (hex_text 2 d) (Load g a d)
    (plain_text (76 ∷ []) (decimal g) (hex_text 5 a) (hex_text 2 d) (plain_one 76 (omega arith) (omega arith)) pg pa pd (omega arith))
    (record {
      line = refl;
      first = (omega arith, plain_spaceless (76 ∷ []) (plain_one 76 (omega arith) (omega arith)));
      second = (n.0, plain_spaceless (decimal g) pg);
      third = (omega arith, plain_spaceless (hex_text 5 a) pa);
      fourth = (omega arith, plain_spaceless (hex_text 2 d) pd);
    })
    (refl, gap_back g h.0, address_back a h.1, data_back d h.2)
reads_back (Read g a) h =
    let n = short_decimal g h.0 in
    let pg = plain_decimal g h.0 in
    let pa = plain_hex 5 a in
    let la = length-hex 5 a in
    let dash = plain_one 45 (omega arith) (omega arith) in
    reads_as standard_order (text_of (Read g a)) (82 ∷ []) (decimal g) (hex_text 5 a) (45 ∷ []) (Read g a)
    (plain_text (82 ∷ []) (decimal g) (hex_text 5 a) (45 ∷ []) (plain_one 82 (omega arith) (omega arith)) pg pa dash (omega arith))
    (record {
      line = refl;
      first = (omega arith, plain_spaceless (82 ∷ []) (plain_one 82 (omega arith) (omega arith)));
      second = (n.0, plain_spaceless (decimal g) pg);
      third = (omega arith, plain_spaceless (hex_text 5 a) pa);
      fourth = (omega arith, plain_spaceless (45 ∷ []) dash);
    })
    (refl, gap_back g h.0, address_back a h.1, refl)
reads_back (Wait g) h =
    let n = short_decimal g h in
    let pg = plain_decimal g h in
    let dash = plain_one 45 (omega arith) (omega arith) in
    reads_as standard_order (text_of (Wait g)) (87 ∷ []) (decimal g) (45 ∷ []) (45 ∷ []) (Wait g)
    (plain_text (87 ∷ []) (decimal g) (45 ∷ []) (45 ∷ []) (plain_one 87 (omega arith) (omega arith)) pg dash dash (omega arith))
    (record {
      line = refl;
      first = (omega arith, plain_spaceless (87 ∷ []) (plain_one 87 (omega arith) (omega arith)));
      second = (n.0, plain_spaceless (decimal g) pg);
      third = (omega arith, plain_spaceless (45 ∷ []) dash);
      fourth = (omega arith, plain_spaceless (45 ∷ []) dash);
    })
    (refl, gap_back g h, refl, refl)

-- a cycle whose gap and data fit their types, and whose address is not too high
pub written_reads : (x : Cycle) → gap_of x ≤ 65535 → data_of x < 256 → too_high x ≡ false → value_line standard_order (text_of x) ≡ Ok x
written_reads (Load g a d) hg hd h = let l = ltb-false 1048575 a h in reads_back (Load g a d) (omega arith, omega arith, hd)
written_reads (Read g a) hg hd h = let l = ltb-false 1048575 a h in reads_back (Read g a) (omega arith, omega arith)
written_reads (Wait g) hg hd h = reads_back (Wait g) (omega arith)
