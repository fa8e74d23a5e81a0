-- The run of one page, worked out.
use Rattle.std.proofs.Common.{◌≡◌, ℕ, zero, suc, ◌<◌, ◌≤◌, Some, [], refl, ap, subst, arith, Option, None}
use Rattle.wbt_run_laws.proofs.Common.{domain_batch, context_batch, global_threshold, threshold, background_below, thresholds_of, halvings, log2, first, page_after, ended, new_writer, new_cpu, cpu_step, cpu_after, NotedSince, one_trace, one_setting, one_end, one_last, one_first, one_notes, first_shown, part_at, NoneFailed}
use Rattle.wbt_grant.specs.Kinds.{AreAllowed}
use Rattle.wbt_grant.specs.Laws.{Holds}
use Rattle.wbt_grant.specs.State.{opening}
use Rattle.wbt_grant.proofs.Tests.{tests_are_right}
use Rattle.wbt_grant.proofs.Whole.{always_holds}
use Rattle.wbt_journal.specs.Checks.{NoneDue}
use Rattle.wbt_journal.specs.declared.journal.Ending.TheVariants as ending
use Rattle.wbt_run_laws.specs.Closed.{Closed, NotedNothing}
use Rattle.wbt_run_laws.specs.OnePage.{one_steps, one_journal, one_side, OnePageIsWorked}
use Rattle.wbt_run_laws.specs.Worked.{NoneWaits, AllWritten}
use Rattle.wbt_run_laws.proofs.Small.{small_is_lawful, small_is_throttle, small_is_setting, small_opens, no_notes}
use Rattle.wbt_run_laws.proofs.OneClean.{second_since}
use Rattle.wbt_run_laws.proofs.OneJoined.{one_timed, one_tell, one_passes}
use Rattle.wbt_run_laws.proofs.OneWrite.{first_since}

-- ---- the table

one_allowed : AreAllowed one_setting one_steps (opening one_setting)
unfolding domain_batch context_batch log2 halvings
one_allowed = tests_are_right one_setting one_steps (opening one_setting) refl

one_holds : Holds one_setting one_end
one_holds = always_holds one_setting one_steps (small_is_setting 2 1 1 1 (omega arith) (omega arith) (omega arith) (omega arith) (omega arith) (omega arith) (omega arith)) one_allowed

one_closed : Closed one_trace one_setting one_end (λ cpu. one_end.cpu cpu) one_end.timer []
unfolding domain_batch context_batch log2 halvings
one_closed = record { cpus_are = λ cpu less. refl; timer_is = refl; holds = one_holds; left_is = refl }

-- ---- turns

one_each : (cpu : ℕ) → cpu < 2 → NotedSince one_trace 1 cpu (part_at one_journal cpu) (first_shown one_trace one_setting.firsts) (one_last cpu) (one_first cpu) (one_notes cpu)
one_each zero less = first_since
one_each (suc zero) less = second_since
one_each (suc (suc cpu)) less = absurd (omega arith)

-- ---- the whole

one_none_failed : NoneFailed one_trace one_last
one_none_failed zero zero less low = refl
one_none_failed (suc cpu) zero less low = refl
one_none_failed cpu (suc flusher) less low = absurd (omega arith)

one_none_waits : NoneWaits one_trace one_last
one_none_waits zero flusher less = refl
one_none_waits (suc cpu) zero less = refl
one_none_waits (suc cpu) (suc flusher) less = refl

abbrev or_zero : Option ℕ → ℕ
or_zero None = 0
or_zero (Some n) = n

one_written_all : AllWritten one_trace one_last
one_written_all zero cpu on = subst (λ (n : ℕ). 1 ≤ (one_last n).written 0) (ap or_zero on) (omega arith)
one_written_all (suc task) cpu on = absurd (none on)
  where
    none : ◌≡◌ {A = Option ℕ} None (Some cpu) → ⊥
    none is = cc

one_none_due : (cpu : ℕ) → cpu < 2 → NoneDue ending.Done (one_side cpu)
unfolding first page_after ended new_writer new_cpu cpu_step cpu_after thresholds_of threshold global_threshold background_below
one_none_due zero less = (refl, tt)
one_none_due (suc cpu) less = (refl, tt)

noted_nothing : (cpu : ℕ) → cpu < 2 → NotedNothing (one_first cpu)
noted_nothing zero less = record { shares = no_notes; kept = λ domain context. refl }
noted_nothing (suc cpu) less = record { shares = no_notes; kept = λ domain context. refl }

pub one_worked : OnePageIsWorked
one_worked = record {
  lawful = small_is_lawful 2 1 1 1 (omega arith) (omega arith) (omega arith) (omega arith) (omega arith) (omega arith) (omega arith);
  throttle = small_is_throttle 2 1 1 1 (omega arith) (omega arith) (omega arith) (omega arith) (omega arith) (omega arith) (omega arith);
  parts = refl;
  names = ((refl, (refl, refl)), ((refl, (refl, refl)), tt));
  timer_is = refl;
  since = one_each;
  timer_since = one_timed;
  opens = small_opens 2 1 1 1 (omega arith) (omega arith) (omega arith) (omega arith) (omega arith) (omega arith) (omega arith);
  timer_opens = record { published = refl; lines = refl; shares = λ domain. refl };
  noted_nothing = noted_nothing;
  closed = one_closed;
  shares_tell = one_tell;
  passes_tell = one_passes;
  ended = (one_none_failed, one_written_all, one_none_waits, refl);
  none_due = one_none_due;
}
