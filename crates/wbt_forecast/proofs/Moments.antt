-- The latest moment of a state in range.
use Rattle.std.proofs.Common.{ℕ, suc, ◌+◌, ◌-◌, ◌≤◌, max, List, [], ◌∷◌, get_or, arith}
use Rattle.wbt_replay_order.proofs.Common.{State, no_flusher, no_task, Flusher, ReplayTask, after_rests, after_waits, latest_moment, latest, reserve, until_of}
use Rattle.wbt_replay_order.specs.Kept.Horizon.{horizon}

rests_within : (most moment : ℕ) (ts : List ReplayTask) → moment ≤ most → ((k : ℕ) → (get_or ts k no_task).rest ≤ most) → after_rests moment ts ≤ most
rests_within most moment [] first each = first
rests_within most moment (t ∷ ts) first each =
    let here = each 0 in rests_within most (max moment t.rest) ts (omega (arith, first, here)) (λ k. each (suc k))

waits_within : (most moment : ℕ) (fs : List Flusher) → moment ≤ most → ((k : ℕ) → until_of (get_or fs k no_flusher).phase ≤ most) → after_waits moment fs ≤ most
waits_within most moment [] first each = first
waits_within most moment (f ∷ fs) first each =
    let here = each 0 in waits_within most (max moment (until_of f.phase)) fs (omega (arith, first, here)) (λ k. each (suc k))

-- with all that is still to come it isn't too late
pub soon_enough : (s : State) → horizon 0 s → latest_moment s + reserve s ≤ latest
soon_enough s h =
    let most = latest - reserve s in
    let first : max s.now s.timer.next ≤ most = omega (arith, h.clock, h.timer) in
    let rests = rests_within most (max s.now s.timer.next) s.tasks first (λ k. (let here = h.rest k in omega (arith, here))) in
    let waits = waits_within most (after_rests (max s.now s.timer.next) s.tasks) s.flushers rests (λ k. (let here = h.until k in omega (arith, here))) in
    omega (arith, waits, h.clock)
