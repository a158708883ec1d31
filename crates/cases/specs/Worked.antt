-- Worked cases at the edges of the rules: what the definitions compute, and what is expected. Assumes nothing.
use Rattle.std.specs.Prelude.{ℕ, ◌*◌, Bool, cond, List, [], ◌∷◌, ◌++◌, map, length, take, drop, replicate, Ok, Err, codes}
use Rattle.bus.specs.declared.call.Call.{Call}
use Rattle.bus.specs.declared.call.Call.TheVariants as Calls
use Rattle.bus.specs.Meaning.{Phase, rest, opened, cycle, Chip}
use Rattle.bus.specs.Codes.{at, kind}
use Rattle.bus.specs.Outcomes.{outcome_of}
use Rattle.bus.specs.History.{Answer}
use Rattle.bus.specs.Refusals.{bus_number}
use Rattle.bus.specs.Words.{outcome_word}
use Rattle.kinds.specs.Style.{steady_style, steady_times}
use Rattle.array.specs.Meaning.{new_state}
use Rattle.chip.specs.Meaning.{new_chip}
use Rattle.parts.specs.Runs.{answers_by, chip_by}

-- new steady parts: the bench part full of zeros, and the AT29C010A with any bytes
abbrev bench : Chip
bench = new_chip steady_style 256 0x00 (new_state (replicate 32768 0))

abbrev at29c010a : List ℕ → Chip
at29c010a bytes = new_chip steady_style 1024 0xD5 (new_state bytes)

-- a load: address, data, gap
abbrev load : ℕ → ℕ → ℕ → Call
load a b gap = Calls.Load (at a b) gap

-- an answer as a number: 0 accepted, or the refusal's number
abbrev number : Answer → ℕ
number (Ok r) = 0
number (Err e) = bus_number e

-- the answers of a steady part with this cycle time
abbrev answers : ℕ → Chip → List Call → List ℕ
answers time c xs = map number (answers_by steady_style xs (steady_times time) c)

abbrev after : ℕ → Chip → List Call → Chip
after time c xs = chip_by steady_style xs (steady_times time) c

-- how many of its first seven loads the open period has, and its result as it stands
abbrev loads_in : Phase → List ℕ
loads_in rest = []
loads_in (opened s p age) = length p.head ∷ []
loads_in (cycle e t) = []

abbrev loads : Chip → List ℕ
loads c = loads_in c.phase

abbrev result_in : ℕ → Phase → List ℕ
result_in n rest = []
result_in n (opened s p age) = outcome_word (outcome_of n s (kind n p) p.loaded)
result_in n (cycle e t) = []

abbrev result : Chip → List ℕ
result c = result_in c.sectors c.phase

abbrev sector : ℕ → Chip → List ℕ
sector r c = take 128 (drop (128 * r) c.settled.bytes)

abbrev flag : Bool → List ℕ
flag b = cond b 1 0 ∷ []

abbrev unlocked : List Call
unlocked = load 0x5555 0xAA 1 ∷ (load 0x2AAA 0x55 1 ∷ [])

abbrev coded_head : List Call
coded_head = unlocked ++ (load 0x5555 0xA0 1 ∷ [])

-- a period and its cycle, which locks the upper boot block of the AT29C010A
abbrev lock_high : List Call
lock_high =
    unlocked ++ (load 0x5555 0x80 1 ∷ (unlocked ++ (load 0x5555 0x40 1 ∷ (load 131071 0xFF 1 ∷ (Calls.Wait 10151 ∷ [])))))

abbrev pub computed : List ℕ → List (List ℕ)
computed bytes =
    -- a load at age 150 joins; at 151, with cycle time 2, it gets 2
    answers 2 bench (load 0x80 0x11 0 ∷ (load 0x81 0x22 150 ∷ []))
    ∷ (loads (after 2 bench (load 0x80 0x11 0 ∷ (load 0x81 0x22 150 ∷ [])))
    ∷ (answers 2 bench (load 0x80 0x11 0 ∷ (load 0x81 0x22 151 ∷ []))
    -- with cycle time 10,000, after a wait of 151, a load with gap 9,999 is accepted, with 9,998 it gets 2
    ∷ (answers 10000 bench (load 0x80 0x11 0 ∷ (Calls.Wait 151 ∷ (load 0x100 0x33 9999 ∷ [])))
    ∷ (answers 10000 bench (load 0x80 0x11 0 ∷ (Calls.Wait 151 ∷ (load 0x100 0x33 9998 ∷ [])))
    -- AA at 5555 alone, unprotected: sector 170 holds it and 127 bytes FF
    ∷ (sector 170 (after 2 bench (load 0x5555 0xAA 0 ∷ []))
    -- the coded head alone: empty, protection on
    ∷ (result (after 2 bench coded_head)
    ∷ (flag (after 2 bench coded_head).settled.protected
    -- AA, 55, then 90: 3; D555 counts as 5555
    ∷ (answers 2 bench (unlocked ++ (load 0x5555 0x90 1 ∷ []))
    ∷ (answers 2 (at29c010a bytes) (load 0xD555 0xAA 0 ∷ (load 0xAAAA 0x55 1 ∷ (load 0xD555 0x90 1 ∷ [])))
    -- on the AT29C010A address 131,071 is inside, 131,072 gets 1
    ∷ (answers 2 (at29c010a bytes) (load 131071 0x00 0 ∷ [])
    ∷ (answers 2 (at29c010a bytes) (load 131072 0x00 0 ∷ [])
    -- its upper block locked: sector 959 takes a write, sector 960 is locked
    ∷ (flag (after 10000 (at29c010a bytes) lock_high).settled.high_locked
    ∷ (result (after 10000 (at29c010a bytes) (lock_high ++ (load (959 * 128) 0x11 1 ∷ [])))
    ∷ (result (after 10000 (at29c010a bytes) (lock_high ++ (load (960 * 128) 0x11 1 ∷ [])))
    ∷ []))))))))))))))

abbrev pub expected : List (List ℕ)
expected =
    (0 ∷ (0 ∷ []))
    ∷ ((2 ∷ [])
    ∷ ((0 ∷ (2 ∷ []))
    ∷ ((0 ∷ (0 ∷ (0 ∷ [])))
    ∷ ((0 ∷ (0 ∷ (2 ∷ [])))
    ∷ ((replicate 85 0xFF ++ (0xAA ∷ replicate 42 0xFF))
    ∷ (codes "empty"
    ∷ ((1 ∷ [])
    ∷ ((0 ∷ (0 ∷ (3 ∷ [])))
    ∷ ((0 ∷ (0 ∷ (3 ∷ [])))
    ∷ ((0 ∷ [])
    ∷ ((1 ∷ [])
    ∷ ((1 ∷ [])
    ∷ (codes "written"
    ∷ (codes "locked"
    ∷ []))))))))))))))
