-- What the lines of strict devices are made of: what each check read fits, and a tally of the pages of each context.
use Rattle.std.specs.Prelude.{◌≡◌, ℕ, ◌*◌, ◌<◌, ◌≤◌, max, ℤ, pos, ◌+ℤ◌, unsigned_abs, List, length, get_or, drop, All, IfSome}
use Rattle.wbt_counter.specs.History.{at_least_zero}
use Rattle.wbt_trace.specs.declared.trace.Trace.{Trace}
use Rattle.wbt_journal.specs.declared.entry.CheckEntry.{CheckEntry}
use Rattle.wbt_journal.specs.declared.step.StepEntry.{StepEntry}
use Rattle.wbt_replay_moves.specs.Kept.Fit.{IsLine}
use Rattle.wbt_replay_moves.specs.declared.state.Cpu.{Cpu}
use Rattle.wbt_replay_order.specs.declared.tally.Tally.{Tally}
use Rattle.wbt_replay_order.specs.Definition.Strict.{most_from, most_pages, part_among, part_used}

-- ---- what checks read

-- a check's context is there, and what it read of its domains is in range
pub record CheckFits (trace : Trace) (check : CheckEntry) : Type 0 where
  pub context : check.context < length trace.contexts
  pub global : IsLine check.global
  pub cgroup : IfSome check.cgroup IsLine

-- each check of each CPU fits
abbrev pub ChecksFit : (trace : Trace) (cpus : List Cpu) → Type 0
ChecksFit trace cpus = All (λ c. All (CheckFits trace) c.checks) cpus

-- ---- tallies

-- the tally of a context before the first step
abbrev pub no_tally : Tally
no_tally = record { pages = pos 0; most = 0 }

-- a tally of a context after a step that changes its pages
abbrev pub tallied : (change : ℤ) (tally : Tally) → Tally
tallied change tally = record { pages = tally.pages +ℤ change; most = max tally.most (at_least_zero (tally.pages +ℤ change)) }

-- The tally of a context after so many of these steps.
pub record IsTally (context : ℕ) (steps : List StepEntry) (made : ℕ) (tally : Tally) : Type 0 where
  pub reaches : max tally.most (most_from context tally.pages (drop made steps)) ≡ most_pages context steps
  pub had : at_least_zero tally.pages ≤ tally.most
  pub near : unsigned_abs tally.pages ≤ 128 * made

-- the tallies of so many contexts after so many of these steps
abbrev pub AreTallies : (contexts : ℕ) (steps : List StepEntry) (made : ℕ) (tallies : List Tally) → Type 0
AreTallies contexts steps made tallies = (length tallies ≡ contexts) × ((k : ℕ) → k < contexts → IsTally k steps made (get_or tallies k no_tally))

-- the most pages of each context
abbrev pub AreMost : (contexts : ℕ) (steps : List StepEntry) (tallies : List Tally) → Type 0
AreMost contexts steps tallies = (length tallies ≡ contexts) × ((k : ℕ) → k < contexts → (get_or tallies k no_tally).most ≡ most_pages k steps)

-- ---- parts

-- the greatest parts of so many contexts, with these checks besides
abbrev pub WithChecks : (trace : Trace) (checks : List CheckEntry) (before after : List ℕ) → Type 0
WithChecks trace checks before after =
    (length after ≡ length before) × ((k : ℕ) → get_or after k 0 ≡ max (get_or before k 0) (part_among trace k checks))

-- those that the CPUs' checks use
abbrev pub AreParts : (trace : Trace) (cpus : List Cpu) (parts : List ℕ) → Type 0
AreParts trace cpus parts = (length parts ≡ length trace.contexts) × ((k : ℕ) → get_or parts k 0 ≡ part_used trace k cpus)
