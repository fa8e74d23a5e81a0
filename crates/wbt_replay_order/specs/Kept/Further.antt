-- Whether a run may be let make as many steps more as a replay may have: then no moment comes too late, and each count finds room.
use Rattle.std.specs.Prelude.{ℕ, ◌+◌, ◌-◌, ◌*◌, max, Bool, ◌&&◌, nat_le, unsigned_abs, List, [], ◌∷◌, length}
use Rattle.std.specs.List.{list_all}
use Rattle.wbt_num.specs.declared.most.TheConstants.{MOST_STEPS}
use Rattle.wbt_counter.specs.declared.counter.Count.{Count}
use Rattle.wbt_replay_moves.specs.Definition.State.{State}
use Rattle.wbt_replay_moves.specs.declared.state.Domain.{Domain}
use Rattle.wbt_replay_moves.specs.declared.state.Flusher.{Flusher}
use Rattle.wbt_replay_moves.specs.declared.state.ReplayTask.{ReplayTask}
use Rattle.wbt_replay_moves.specs.declared.state.Writeback.{Writeback}
use Rattle.wbt_replay_order.specs.Kept.Horizon.{latest, most_ever, reserve, step_ticks, until_of}
use Rattle.wbt_replay_order.specs.Kept.Sound.{most_counted}

-- the latest of a moment and of those until which the tasks rest
abbrev pub after_rests : (moment : ℕ) (tasks : List ReplayTask) → ℕ
after_rests moment [] = moment
after_rests moment (t ∷ ts) = after_rests (max moment t.rest) ts

-- the latest of a moment and of those that the flushers wait for
abbrev pub after_waits : (moment : ℕ) (flushers : List Flusher) → ℕ
after_waits moment [] = moment
after_waits moment (f ∷ fs) = after_waits (max moment (until_of f.phase)) fs

-- the latest moment of a state: this one, or one that a task, a flusher or the timer waits for
abbrev pub latest_moment : (s : State) → ℕ
latest_moment s = after_waits (after_rests (max s.now s.timer.next) s.tasks) s.flushers

-- After all that is still to come, and as many steps more, no moment is too late.
abbrev pub moments_fit : (s : State) → Bool
moments_fit s = nat_le (latest_moment s + reserve s + step_ticks * MOST_STEPS) latest

-- how many steps may still be made with as many more
abbrev pub left_further : (s : State) → ℕ
left_further s = s.most - length s.steps + MOST_STEPS

-- The count finds room for the folds of so many steps.
abbrev pub takes_folds : (steps : ℕ) (count : Count) → Bool
takes_folds steps count = nat_le (unsigned_abs count.value + 512 * steps) most_counted

-- each shared count finds room for the folds of the steps that may still be made with as many more
abbrev pub counts_fit : (s : State) → Bool
counts_fit s =
    list_all (λ (d : Domain). takes_folds (left_further s) d.count) s.domains
    && list_all (λ (w : Writeback). takes_folds (left_further s) w.count) s.contexts

-- The run may be let make as many steps more as a replay may have.
abbrev pub fits_further : (s : State) → Bool
fits_further s = nat_le (s.most + MOST_STEPS) most_ever && (moments_fit s && counts_fit s)
