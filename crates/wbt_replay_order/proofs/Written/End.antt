-- Where a sound run has ended and isn't cut off, every page of every write is told.
use Rattle.std.proofs.Common.{◌≡◌, ℕ, ◌<◌, ◌≤◌, Bool, true, false, not, List, [], ◌++◌, length, flat_map, All, refl, sym, ◌∙◌, ap, subst, arith, true≢false}
use Rattle.std.proofs.lemmas.List.{append-nil}
use Rattle.std.proofs.lemmas.List.Elements.{All-head}
use Rattle.wbt_replay_order.proofs.Common.{Trace, pages_of_task, State, no_task, cpu_of, task_of, Whose, ReplayWork, Todo, HasEnded, most_moves, state_at, last_state, ending_of, journal_of, task_cpu, Facts, Sound, IsWhose, WorkFits, is_running}
use Rattle.wbt_journal.specs.declared.journal.Ending.TheVariants as ending
use Rattle.wbt_replay_moves.specs.declared.state.ReplayWork.TheVariants as work
use Rattle.wbt_replay_order.specs.Claims.Complete.{written_by}
use Rattle.wbt_replay_order.proofs.Facts.Lists.{none_counts}
use Rattle.wbt_replay_order.proofs.Facts.Over.{not_cut, all_over}
use Rattle.wbt_replay_order.proofs.Written.Same.{pages_of, told_by}
use Rattle.wbt_replay_order.proofs.Written.Whole.{WritesFit, all_there}

-- in a sound state a write that comes next fits
pub writes_fit : (trace : Trace) (s : State) → Sound trace s → WritesFit trace s.cpus s.tasks
writes_fit trace s sound cpu task rest less is of =
    let holds = sound.holds in
    let there : cpu < trace.cpus = omega (arith, less, holds.cpus.many) in
    let some : 1 ≤ length (cpu_of cpu s).todo = omega (arith, ap (λ (ts : List Todo). length ts) is) in
    let mine = subst (λ (w : Whose). IsWhose trace cpu w) of ((holds.cpus.each cpu there).whose some) in (
      omega (arith, mine.there, holds.tasks.many),
      mine.cpu_is,
      λ inode page pages works at.
          (All-head (WorkFits trace task) (work.Write inode page pages) works (subst (All (WorkFits trace task)) at (holds.tasks.each task mine.there).works)).some,
    )

-- ---- the end

not_running : (b : Bool) → not b ≡ false → b ≡ true
not_running true is = refl
not_running false is = absurd (true≢false is)

pub ending_is : (trace : Trace) → (journal_of trace).ending ≡ ending_of (last_state trace)
unfolding journal_of
ending_is trace = refl

module _ (trace : Trace) (facts : Facts trace) (sound : (moves : ℕ) → Sound trace (state_at trace moves)) (ended : HasEnded trace)
    (done : (journal_of trace).ending ≡ ending.Done) where
  pub all_ended : (task : ℕ) → task < length trace.tasks → (task_of task (last_state trace)).ended ≡ true
  all_ended task less =
      let s : State = last_state trace in
      let holds = (sound most_moves).holds in
      let cut = not_cut s (sym (ending_is trace) ∙ done) in
      let running : s.running ≡ 0 = (all_over s ended.0 cut.0 (λ all. omega (arith, all, cut.1, holds.cpus.many, facts.some_cpu))).0 in
      not_running (task_of task s).ended (none_counts is_running no_task s.tasks (sym holds.counted.tasks ∙ running) task (omega (arith, less, holds.tasks.many)))

  pub all_written : (task : ℕ) → task < length trace.tasks → written_by task (last_state trace) trace ≡ pages_of_task trace task
  all_written task less =
      let s : State = last_state trace in
      let holds = (sound most_moves).holds in
      let none : (task_of task s).works ≡ [] = (holds.tasks.each task less).ended (all_ended task less) in
      sym (append-nil (told_by task (cpu_of (task_cpu trace task) s)))
      ∙ ap (λ (ws : List ReplayWork). told_by task (cpu_of (task_cpu trace task) s) ++ flat_map pages_of ws) (sym none)
      ∙ all_there trace (λ moves. writes_fit trace (state_at trace moves) (sound moves)) most_moves task less
