-- A line as text, and its fields.
use Rattle.std.specs.Prelude.{◌≡◌, ℕ, ◌<◌, Bool, true, false, cond, ◌&&◌, List, [], ◌∷◌, ◌++◌, length, ◌==◌, ◌≢◌, nat_le, nat_lt}

-- bytes that are all printable: 32 to 126
abbrev pub printable : List ℕ → Bool
printable [] = true
printable (b ∷ s) = (nat_le 32 b && nat_le b 126) && printable s

-- the bytes of a line: at most 64, all printable
abbrev pub is_text : List ℕ → Bool
is_text s = nat_le (length s) 64 && printable s

-- a byte more in front of the first part
abbrev pub grown : ℕ → List (List ℕ) → List (List ℕ)
grown b [] = (b ∷ []) ∷ []
grown b (p ∷ ps) = (b ∷ p) ∷ ps

-- the parts of a line between its spaces
abbrev pub parts : List ℕ → List (List ℕ)
parts [] = [] ∷ []
parts (b ∷ s) = cond (b == 32) ([] ∷ parts s) (grown b (parts s))

abbrev pub filled : List ℕ → Bool
filled p = nat_lt 0 (length p)

-- four fields with single spaces between: four parts, none of them empty
abbrev pub are_four : List (List ℕ) → Bool
are_four [] = false
are_four (a ∷ []) = false
are_four (a ∷ (b ∷ [])) = false
are_four (a ∷ (b ∷ (c ∷ []))) = false
are_four (a ∷ (b ∷ (c ∷ (d ∷ [])))) = filled a && (filled b && (filled c && filled d))
are_four (a ∷ (b ∷ (c ∷ (d ∷ (e ∷ ps))))) = false

-- a line of four fields with single spaces between
abbrev pub joined : List ℕ → List ℕ → List ℕ → List ℕ → List ℕ
joined a b c d = a ++ (32 ∷ (b ++ (32 ∷ (c ++ (32 ∷ d)))))

-- bytes without a space
abbrev pub NoSpace : List ℕ → Type 0
NoSpace [] = Unit {0}
NoSpace (b ∷ s) = (b ≢ 32) × NoSpace s

-- a field: at least one byte, and no space
abbrev pub IsField : List ℕ → Type 0
IsField p = (0 < length p) × NoSpace p

-- the line s is these four fields with single spaces between
pub record FourFields (s a b c d : List ℕ) : Type 0 where
  pub line : s ≡ joined a b c d
  pub first : IsField a
  pub second : IsField b
  pub third : IsField c
  pub fourth : IsField d
