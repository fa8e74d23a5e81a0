-- The run of a trace is followed, where its states are sound and it ends.
use Rattle.std.proofs.Common.{◌≡◌, ℕ, ◌<◌, ◌≤◌, true, false, length, sym, subst, arith}
use Rattle.wbt_replay_order.proofs.Common.{Trace, Setting, IsSetting, State, IsFollowed, setting_of, writers_in, writer_at, opening, advance, is_ended, last_state, most_moves, Facts, Sound}
use Rattle.wbt_replay_order.proofs.Growth.Most.{most_kept}
use Rattle.wbt_replay_path.proofs.Follow.Moving.{Fits, advance_moves}
use Rattle.wbt_replay_path.proofs.Follow.Opening.{opening_follows, setting_firsts}
use Rattle.wbt_replay_path.proofs.Follow.Path.{followed_until}
use Rattle.wbt_replay_path.proofs.Follow.Reaching.{ranges_of}
use Rattle.wbt_replay_path.proofs.Follow.Setting.{suits_of}

-- The setting has room for the page steps and the sequences of as many steps.
pub record TakesSteps (setting : Setting) (most : ℕ) : Type 0 where
  pub page_steps : most ≤ setting.page_steps
  pub last_sequence : most < setting.last_sequence

-- what a sound state of a run for whose steps there is room has for its next move
pub fits_of : (trace : Trace) (setting : Setting) (s : State) → Sound trace s → TakesSteps setting s.most → Fits trace setting s
fits_of trace setting s sound takes = record {
  ranges = ranges_of trace setting s sound takes.page_steps takes.last_sequence;
  placed = λ i less.
      let its = sound.holds.cpus.each i less in
      record { jobs = its.jobs; tasks = its.tasks; next = its.next; next_task = its.next_task; items = its.todo };
  timer = sound.holds.timer.todo;
}

-- there is room for the steps of a replay
opening_takes : (trace : Trace) → TakesSteps (setting_of trace) (opening trace).most
unfolding opening setting_of
opening_takes trace = record { page_steps = omega arith; last_sequence = omega arith }

takes_on : (trace : Trace) (s : State) → TakesSteps (setting_of trace) s.most → TakesSteps (setting_of trace) (advance trace s).most
takes_on trace s takes = subst (TakesSteps (setting_of trace)) (sym (most_kept trace s)) takes

module _ (trace : Trace) (facts : Facts trace) (is : IsSetting (setting_of trace))
    (pairs : (w : ℕ) → w < length (writers_in trace) → ((writer_at trace w).task < length trace.tasks) × ((writer_at trace w).context < length trace.contexts))
    (Q : State → Type 0) (sound : (s : State) → Q s → Sound trace s) (first : Q (opening trace))
    (keeps : (s : State) → is_ended s ≡ false → Q s → Q (advance trace s)) (over : is_ended (last_state trace) ≡ true) where
  pub followed : IsFollowed trace
  followed =
      let suits = suits_of trace facts (λ w less. (pairs w less).1) is in
      followed_until trace suits is (λ s. Q s × TakesSteps (setting_of trace) s.most)
      (λ s q. (fits_of trace (setting_of trace) s (sound s q.0) q.1).ranges) (first, opening_takes trace)
      (λ s going q. (keeps s going q.0, takes_on trace s q.1))
      (λ s t q rule h. advance_moves trace (setting_of trace) suits facts t rule s (fits_of trace (setting_of trace) s (sound s q.0) q.1) h)
      (opening_follows trace (setting_of trace) suits (setting_firsts trace) pairs) most_moves over
