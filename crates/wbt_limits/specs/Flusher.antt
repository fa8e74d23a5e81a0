-- How much a flusher writes at once.
use Rattle.std.specs.Prelude.{ℕ, ◌+◌, ◌*◌, ◌/◌, min}

-- What its device writes in half a second on average, at most an eighth of the hard limit that the flusher loaded last,
-- and then up to the next multiple of 1024 pages, one at least. The average is in pages a second.
abbrev pub chunk_of : (avg hard : ℕ) → ℕ
chunk_of avg hard = (min (avg / 2) (hard / 8) + 1024) / 1024 * 1024
