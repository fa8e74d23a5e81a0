-- A shared word: the period in the high 24 bits, the events in the low 40.
use Rattle.std.specs.Prelude.{ℕ, ◌+◌, ◌*◌, ◌/◌, ◌%◌, ◌^◌}
use Rattle.wbt_flex.specs.declared.half.Half.{Half}

-- the period of a word
abbrev pub period_of : (word : ℕ) → ℕ
period_of word = word / 2 ^ 40

-- the events of a word, at that period
abbrev pub events_of : (word : ℕ) → ℕ
events_of word = word % 2 ^ 40

-- the word with this period and these events, where they are fewer than 2^40
abbrev pub word_of : (period events : ℕ) → ℕ
word_of period events = period * 2 ^ 40 + events

-- the word as events at a period
abbrev pub half_of : (word : ℕ) → Half
half_of word = record { period = period_of word; events = events_of word }
