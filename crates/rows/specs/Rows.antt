-- What a store is, and what may change of it.
use Rattle.std.specs.Prelude.{◌≡◌, ℕ, ◌<◌, ◌≤◌, Bool, List, length, ◌≢◌, slice_index}

-- A row. What layers add to stores maps rows to rows, so that a property that a row gains one day passes through
-- them as it is.
pub record Row : Type 0 where
  -- the bytes that it shows
  pub shown : List ℕ
  pub locked : Bool
  -- its address among the rows of all the stores at the bottom
  pub home : ℕ
  -- how bytes that are written to it lie there
  pub laid : List ℕ → List ℕ

pub record Rows : Type 0 where
  pub count : ℕ
  -- of the rows from count on nothing is told to a caller
  pub row : ℕ → Row
  -- the bytes that lie at each address at the bottom
  pub bottom : ℕ → List ℕ

-- What holds of every store at any time.
pub record Lawful (m : Rows) : Type 0 where
  pub few : m.count ≤ 1048576
  -- a row has 128 bytes, each below 256
  pub whole : (r : ℕ) → r < m.count → length (m.row r).shown ≡ 128
  pub bytes : (r i : ℕ) → r < m.count → slice_index (m.row r).shown i < 256
  -- no two rows lie at one address
  pub apart : (r s : ℕ) → r < m.count → s < m.count → (m.row r).home ≡ (m.row s).home → r ≡ s
  -- what lies at a row's address is what it shows, as it lies there
  pub lies : (r : ℕ) → r < m.count → m.bottom (m.row r).home ≡ (m.row r).laid (m.row r).shown

-- the row with other bytes to show
abbrev pub showing : List ℕ → Row → Row
showing b x = record { shown = b; locked = x.locked; home = x.home; laid = x.laid }

-- Nothing changed.
pub record Kept (m m' : Rows) : Type 0 where
  pub count : m'.count ≡ m.count
  pub row : (r : ℕ) → m'.row r ≡ m.row r
  pub bottom : (a : ℕ) → m'.bottom a ≡ m.bottom a

-- One row took the bytes b, and nothing else changed, here or below.
pub record Stored (m m' : Rows) (row : ℕ) (b : List ℕ) : Type 0 where
  pub count : m'.count ≡ m.count
  pub here : m'.row row ≡ showing b (m.row row)
  pub other : (r : ℕ) → (r ≢ row) → m'.row r ≡ m.row r
  pub landed : m'.bottom (m.row row).home ≡ (m.row row).laid b
  pub apart : (a : ℕ) → (a ≢ (m.row row).home) → m'.bottom a ≡ m.bottom a
