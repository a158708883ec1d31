-- A page laid over a filling, and a sector written byte by byte. Assumes nothing.
use Rattle.std.proofs.Common.{◌≡◌, ℕ, zero, suc, ◌+◌, ◌-◌, ◌*◌, ◌<◌, ◌≤◌, List, ◌∷◌, ◌++◌, length, get_or, take, drop, set, None, Option, unwrap_or, sym, refl, ap, ◌∙◌, subst, add-zero, add-one, arith, take-take}
use lib.Seq.{paste, paste-suc, length_paste_head, take-append-add}
use Rattle.std.proofs.lemmas.List.{get_or-append_right, get_or-take, get_or-drop, drop-take}
use Rattle.bus.specs.Outcomes.{programmed, with_sector}
use Rattle.array.specs.Filling.{fill_from}
use Rattle.bus.specs.Sizes.{length-programmed}
use Rattle.bus.proofs.Pages.{get_or-programmed}
use Rattle.array.specs.Sizes.{length-fill}

pub get_or-fill : (h : ℕ → ℕ) (bytes : List ℕ) (at n i : ℕ) → i < n → get_or (fill_from h bytes at n) i 0 ≡ h (get_or bytes (at + i) 0)
unfolding fill_from
get_or-fill h bytes at zero i k = absurd (omega arith)
get_or-fill h bytes at (suc n) zero k = rw add-zero
get_or-fill h bytes at (suc n) (suc i) k = get_or-fill h bytes (at + 1) n i (omega arith) ∙ ap (λ (j : ℕ). h (get_or bytes j 0)) (let e : at + 1 + i ≡ at + suc i = omega arith in e)

-- the filling of a place that the cut leaves whole
pub fill_take : (h : ℕ → ℕ) (bytes : List ℕ) (m at n : ℕ) → at + n ≤ m → fill_from h (take m bytes) at n ≡ fill_from h bytes at n
unfolding fill_from
fill_take h bytes m at zero k = refl
fill_take h bytes m at (suc n) k =
    ap (λ (x : ℕ). h x ∷ fill_from h (take m bytes) (at + 1) n) (get_or-take m bytes at 0 (omega arith))
    ∙ ap (λ (xs : List ℕ). h (get_or bytes at 0) ∷ xs) (fill_take h bytes m (at + 1) n (omega arith))

-- the byte after those that are written is as it was
pub not_yet : (bytes : List ℕ) (base : ℕ) (row : List ℕ) (i : ℕ) → base ≤ length bytes → i ≤ length row → get_or (paste bytes base row i) (base + i) 0 ≡ get_or bytes (base + i) 0
not_yet bytes base row i h k =
    let z : base + i - (base + i) ≡ 0 = omega arith in
    get_or-append_right (take base bytes ++ take i row) (drop (base + i) bytes) (base + i) (base + i) 0 (length_paste_head bytes base row i h k) (omega arith)
    ∙ ap (λ (j : ℕ). get_or (drop (base + i) bytes) j 0) z ∙ get_or-drop (base + i) bytes 0 0 ∙ ap (λ (j : ℕ). get_or bytes j 0) (add-zero (base + i))

module _ (h : ℕ → ℕ) (bytes : List ℕ) (base : ℕ) (page : List (Option ℕ)) where
  pub row_length : length (programmed page (fill_from h bytes base 128)) ≡ 128
  row_length = length-programmed page (fill_from h bytes base 128) ∙ length-fill h bytes base 128

  -- one byte more of a page is written
  pub row_more : (i v : ℕ) → i < 128 → base + 128 ≤ length bytes → unwrap_or (get_or page i None) (h (get_or bytes (base + i) 0)) ≡ v →
      set (paste bytes base (programmed page (fill_from h bytes base 128)) i) (base + i) v ≡ paste bytes base (programmed page (fill_from h bytes base 128)) (i + 1)
  row_more i v k f e =
      let m = length-fill h bytes base 128 in
      let n = row_length in
      let r = get_or-programmed page (fill_from h bytes base 128) i 0 (omega arith)
      ∙ ap (unwrap_or (get_or page i None)) (get_or-fill h bytes base 128 i k) ∙ e in
      let w : i < length (programmed page (fill_from h bytes base 128)) = omega arith in
      rw (← r, add-one) (paste-suc bytes base (programmed page (fill_from h bytes base 128)) i 0 (omega arith) w)

-- a paste inside a cut
cut_paste : (mem : List ℕ) (at : ℕ) (row : List ℕ) (k : ℕ) → length row ≡ 128 → at + 128 + k ≤ length mem →
    take (at + 128 + k) (paste mem at row 128) ≡ paste (take (at + 128 + k) mem) at row 128
cut_paste mem at row k rl fits =
    let front : length (take at mem ++ take 128 row) ≡ at + 128 = length_paste_head mem at row 128 (omega arith) (omega arith) in
    let e : take (at + 128 + k) (paste mem at row 128) ≡ take at mem ++ take 128 row ++ take k (drop (at + 128) mem) =
    ap (λ (j : ℕ). take (j + k) (paste mem at row 128)) (sym front) ∙ take-append-add (take at mem ++ take 128 row) (drop (at + 128) mem) k in
    let a = take-take at (at + 128 + k) mem (omega arith) in
    let b = drop-take (at + 128) k mem in
    e ∙ sym (rw (a, b))

pub whole_row : (h : ℕ → ℕ) (mem mem' : List ℕ) (m m' r : ℕ) (page : List (Option ℕ)) → 128 * r + 128 ≤ m → m ≤ length mem → m' ≡ m →
    mem' ≡ paste mem (128 * r) (programmed page (fill_from h mem (128 * r) 128)) 128 →
    take m' mem' ≡ with_sector (take m mem) r (programmed page (fill_from h (take m mem) (128 * r) 128))
whole_row h mem mem' m m' r page low high same e =
    let k = m - (128 * r + 128) in
    let z : 128 * r + 128 + k ≡ m = omega arith in
    let row = programmed page (fill_from h mem (128 * r) 128) in
    let cut = subst (λ (j : ℕ). take j (paste mem (128 * r) row 128) ≡ paste (take j mem) (128 * r) row 128) z (cut_paste mem (128 * r) row k (row_length h mem (128 * r) page) (omega arith)) in
    ap (λ (j : ℕ). take j mem') same ∙ ap (take m) e ∙ cut
    ∙ ap (λ (fs : List ℕ). with_sector (take m mem) r (programmed page fs)) (sym (fill_take h mem m (128 * r) 128 low))
