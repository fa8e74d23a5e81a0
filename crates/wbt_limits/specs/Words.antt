-- The two words of a domain's limits. The sequence word has a sequence in its high 32 bits and the hard limit in its low 32;
-- the thresh word has the threshold in its high 32 bits and the background threshold in its low 32.
use Rattle.std.specs.Prelude.{ℕ, ◌+◌, ◌*◌, ◌/◌, ◌%◌, ◌^◌}
use Rattle.wbt_num.specs.declared.limits.Limits.{Limits}

-- the sequence word
abbrev pub sequence_word_of : (sequence hard : ℕ) → ℕ
sequence_word_of sequence hard = sequence * 2 ^ 32 + hard

-- the thresh word of limits
abbrev pub thresh_word_of : (limits : Limits) → ℕ
thresh_word_of limits = limits.thresh * 2 ^ 32 + limits.bg

-- the sequence in a sequence word
abbrev pub sequence_in : (sequence_word : ℕ) → ℕ
sequence_in sequence_word = sequence_word / 2 ^ 32

-- the limits in the two words
abbrev pub limits_in : (sequence_word thresh_word : ℕ) → Limits
limits_in sequence_word thresh_word = record {
  thresh = thresh_word / 2 ^ 32;
  bg = thresh_word % 2 ^ 32;
  hard = sequence_word % 2 ^ 32;
}
