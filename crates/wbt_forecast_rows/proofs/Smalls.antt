-- How large tallies get.
use Rattle.std.proofs.Common.{ℕ, ◌+◌, ◌≤◌, List, [], ◌∷◌, length, map, All, arith}
use Rattle.std.proofs.lemmas.List.Sums.{count_by-le-length}
use Rattle.std.proofs.lemmas.List.Elements.{All-head, All-tail, All-cons}
use Rattle.wbt_replay_order.proofs.Common.{Trace, Entry}
use Rattle.wbt_forecast_rows.specs.Counts.{is_dirtied_in, is_written_in, is_write_by}
use Rattle.wbt_forecast_rows.specs.Small.{IsSmallContext, IsSmallDomain, IsSmallTask}
use Rattle.wbt_forecast_rows.specs.Tally.{by_number, context_after, task_after_entries, domain_again, no_pages, no_work}
use Rattle.wbt_forecast_rows.specs.declared.tally.ContextTally.{ContextTally}
use Rattle.wbt_forecast_rows.specs.declared.tally.DomainTally.{DomainTally}
use Rattle.wbt_forecast_rows.specs.declared.tally.TaskTally.{TaskTally}
use Rattle.wbt_forecast_rows.proofs.Numbered.{all_by_number, all_more}

pub context_small : (trace : Trace) (entries : List Entry) (most context : ℕ) (t : ContextTally) → IsSmallContext most t
    → IsSmallContext (most + length entries) (context_after trace entries context t)
context_small trace entries most context t small = record {
  dirtied = omega (arith, small.dirtied, count_by-le-length (is_dirtied_in trace context) entries);
  written = omega (arith, small.written, count_by-le-length (is_written_in trace context) entries);
}

pub contexts_small : (trace : Trace) (entries : List Entry) (most : ℕ) (tallies : List ContextTally) → All (IsSmallContext most) tallies
    → All (IsSmallContext (most + length entries)) (by_number (context_after trace entries) 0 tallies)
contexts_small trace entries most tallies small =
    all_by_number (IsSmallContext most) (IsSmallContext (most + length entries)) (context_after trace entries) 0 tallies
    (context_small trace entries most) small

pub contexts_less : (least most : ℕ) (tallies : List ContextTally) → least ≤ most → All (IsSmallContext least) tallies → All (IsSmallContext most) tallies
contexts_less least most tallies less small =
    all_more (IsSmallContext least) (IsSmallContext most) tallies
    (λ t s. record { dirtied = omega (arith, s.dirtied, less); written = omega (arith, s.written, less) }) small

pub task_small : (entries : List Entry) (most task : ℕ) (t : TaskTally) → IsSmallTask most t
    → IsSmallTask (most + length entries) (task_after_entries entries task t)
task_small entries most task t small = record {
  pages = omega (arith, small.pages, count_by-le-length (is_write_by task) entries);
  checks = omega (arith, small.checks);
  pauses = omega (arith, small.pauses);
  ticks = omega (arith, small.ticks);
}

pub tasks_small : (entries : List Entry) (most : ℕ) (tallies : List TaskTally) → All (IsSmallTask most) tallies
    → All (IsSmallTask (most + length entries)) (by_number (task_after_entries entries) 0 tallies)
tasks_small entries most tallies small =
    all_by_number (IsSmallTask most) (IsSmallTask (most + length entries)) (task_after_entries entries) 0 tallies
    (task_small entries most) small

pub task_less : (least most : ℕ) (t : TaskTally) → least ≤ most → IsSmallTask least t → IsSmallTask most t
task_less least most t less small = record {
  pages = omega (arith, small.pages, less);
  checks = omega (arith, small.checks, less);
  pauses = omega (arith, small.pauses, less);
  ticks = omega (arith, small.ticks, less);
}

pub tasks_less : (least most : ℕ) (tallies : List TaskTally) → least ≤ most → All (IsSmallTask least) tallies → All (IsSmallTask most) tallies
tasks_less least most tallies less small = all_more (IsSmallTask least) (IsSmallTask most) tallies (λ t s. task_less least most t less s) small

pub domains_less : (least most : ℕ) (tallies : List DomainTally) → least ≤ most → All (IsSmallDomain least) tallies → All (IsSmallDomain most) tallies
domains_less least most tallies less small =
    all_more (IsSmallDomain least) (IsSmallDomain most) tallies (λ t s. record { count = omega (arith, s.count, less) }) small

-- ---- cleared

pub domains_cleared : (most : ℕ) (tallies : List DomainTally) → All (IsSmallDomain most) tallies → All (IsSmallDomain most) (map domain_again tallies)
domains_cleared most [] small = λ k d less. absurd (omega (arith, less))
domains_cleared most (t ∷ tallies) small =
    All-cons (IsSmallDomain most) (domain_again t) (map domain_again tallies)
    (record { count = (All-head (IsSmallDomain most) t tallies small).count })
    (domains_cleared most tallies (All-tail (IsSmallDomain most) t tallies small))

pub contexts_cleared : (most : ℕ) (tallies : List ContextTally) → All (IsSmallContext most) (map (λ (t : ContextTally). no_pages) tallies)
contexts_cleared most [] = λ k d less. absurd (omega (arith, less))
contexts_cleared most (t ∷ tallies) =
    All-cons (IsSmallContext most) no_pages (map (λ (t : ContextTally). no_pages) tallies) (record { dirtied = omega arith; written = omega arith })
    (contexts_cleared most tallies)

pub tasks_cleared : (most : ℕ) (tallies : List TaskTally) → All (IsSmallTask most) (map (λ (t : TaskTally). no_work) tallies)
tasks_cleared most [] = λ k d less. absurd (omega (arith, less))
tasks_cleared most (t ∷ tallies) =
    All-cons (IsSmallTask most) no_work (map (λ (t : TaskTally). no_work) tallies)
    (record { pages = omega arith; checks = omega arith; pauses = omega arith; ticks = omega arith })
    (tasks_cleared most tallies)
