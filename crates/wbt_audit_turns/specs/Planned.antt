-- The pages that one task writes.
use Rattle.std.specs.Prelude.{ℕ, ◌+◌, ◌<◌, ◌≤◌, ◌≡◌, Bool, true, false, ◌==◌, List, [], ◌∷◌, ◌++◌, length, drop, All, get_or}
use Rattle.wbt_num.specs.declared.most.TheConstants.{MOST_PAGES}
use Rattle.wbt_journal.specs.Machine.{numbers}
use Rattle.wbt_audit_turns.specs.declared.plan.Span.{Span}

-- the pages of a task along a part
pub record TaskPages : Type 0 where
  -- all pages that the task writes, in order
  pub all : List ℕ
  -- those that it has still to write
  pub left : List ℕ

-- the pages of actions, in order
abbrev pub pages_of_spans : (spans : List Span) → List ℕ
pages_of_spans [] = []
pages_of_spans (span ∷ spans) = numbers span.first span.pages ++ pages_of_spans spans

-- whether a page is the first of those that are left
abbrev pub is_next : (page : ℕ) (left : List ℕ) → Bool
is_next page [] = false
is_next page (next ∷ more) = next == page

-- the pages that are left after one is written, or isn't
abbrev pub left_after : (written : Bool) (left : List ℕ) → List ℕ
left_after false left = left
left_after true left = drop 1 left

-- an action has pages, and each is one that a trace may have
pub record IsSpan (span : Span) : Type 0 where
  pub some : 1 ≤ span.pages
  pub there : span.first + span.pages ≤ MOST_PAGES

-- the first page of the span at a place is written, if there is one
abbrev pub no_span : Span
no_span = record { first = 0; pages = 0 }

-- a place among a task's actions, with how many pages of that action are written
pub record IsPlan (spans : List Span) (span written : ℕ) : Type 0 where
  pub each : All IsSpan spans
  pub at_most : span ≤ length spans
  pub within : span < length spans → written < (get_or spans span no_span).pages
  pub none : length spans ≤ span → written ≡ 0
