-- Slots of the wheel: which list the pair of a moment is filed in, seen from a base.
use Rattle.std.specs.Prelude.{ℕ, zero, suc, ◌+◌, ◌*◌, ◌/◌, ◌%◌, ◌^◌, ◌==◌, ltb, cond}

-- the list of the pairs that were due before the base when they came
abbrev pub late : ℕ
late = 256

-- the list of pairs that are to be filed anew
abbrev pub loose : ℕ
loose = 257

-- how long a slot of a level is, in ticks
abbrev pub span : (level : ℕ) → ℕ
span level = 64 ^ level

-- the list of a level's slot; slots are counted from moment 0 on
abbrev pub list_of : (level place : ℕ) → ℕ
list_of level place = 64 * level + place % 64

-- the list that a pair is filed in
unfoldable pub slot : (base due : ℕ) → ℕ
slot base due = cond (ltb due base) late
    (cond (due / 64 == base / 64) (due % 64)
    (cond (due / 4096 == base / 4096) (64 + due / 64 % 64)
    (cond (due / 262144 == base / 262144) (128 + due / 4096 % 64)
    (192 + due / 262144 % 64))))

-- the first slot of a level, from the base on, that can hold a pair
abbrev pub start_of : (level base : ℕ) → ℕ
start_of zero base = base
start_of (suc level) base = base / span (suc level) + 1
