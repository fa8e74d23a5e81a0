-- The words of the commands that run over threads, and the line of a bulk run.
use Rattle.std.specs.Prelude.{◌≡◌, ◌⊎◌, ℕ, ◌≤◌, List, [], ◌∷◌, ◌++◌, length, map, codes, string_bytes}
use Rattle.std.specs.Fmt.{decimal}
use Rattle.wbt_num.specs.declared.most.TheConstants.{MOST_PAGES}
use Rattle.wbt_trace.specs.declared.bulk.TheConstants.{LEAST_BULK_PAGES}
use Rattle.wbt_journal.specs.Text.{done_of, fresh_of}
use Rattle.wbt_journal.specs.declared.journal.Journal.{Journal}
use Rattle.wbt_top_plain.specs.Top.{IsWord}
use Rattle.wbt_top_plain.specs.declared.status.Words.{Words}

-- ---- the words

-- the words are `run` alone
abbrev pub IsRun : (words : Words) → Type 0
IsRun words = IsWord (codes "run") words

-- a number of pages that a bulk run may have
pub record IsBulkSize (n : ℕ) : Type 0 where
  pub enough : LEAST_BULK_PAGES ≤ n
  pub few : n ≤ MOST_PAGES

-- `bulk`, and such a number as a trace spells it
pub record IsBulk (n : ℕ) (words : Words) : Type 0 where
  pub spelled : map string_bytes words.list ≡ codes "bulk" ∷ decimal n ∷ []
  pub size : IsBulkSize n

-- the words of a command that runs over threads
abbrev pub RunsThreads : (words : Words) → Type 0
RunsThreads words = IsRun words ⊎ ((n : ℕ) × IsBulk n words)

-- ---- the text

-- the line of a bulk run of n pages: how many writes were fresh, how many pages were completed, and how many are left
abbrev pub bulk_line : (n dirtied cleaned left : ℕ) → List ℕ
bulk_line n dirtied cleaned left =
    codes "bulk " ++ decimal n ++ codes " dirtied " ++ decimal dirtied ++ codes " cleaned " ++ decimal cleaned ++ codes " left " ++ decimal left ++ codes "\n"

-- that line, counted in a journal
abbrev pub bulk_text : (n : ℕ) (j : Journal) → List ℕ
bulk_text n j = bulk_line n (fresh_of j.cpus) (done_of j.cpus) (length j.left)
