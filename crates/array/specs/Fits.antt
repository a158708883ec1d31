-- How many sectors a memory can have. Assumes nothing.
use Rattle.std.specs.Prelude.{ℕ, ◌*◌, ◌<◌, ◌≤◌}

-- none or 256 to 8,192 sectors, for which the memory has room
abbrev pub Fit : ℕ → ℕ → Type 0
Fit n room = (n ≤ 8192) × (128 * n ≤ room) × (0 < n → 256 ≤ n)
