-- What is known of a CPU that takes the next item of its turn.
use Rattle.std.proofs.Common.{◌≡◌, ℕ, ◌+◌, ◌<◌, false, List, ◌∷◌, length, ap, subst, arith}
use Rattle.std.proofs.lemmas.List.{get_or-set_same}
use Rattle.std.specs.List.{list_any}
use Rattle.wbt_replay_order.proofs.Common.{Trace, Setting, State, no_cpu, cpu_of, Cpu, Todo, Suits, Tidy, AreLoads, resumes, is_closing, debts_in, FollowsCpu, Follows, Moves, Ranges, IsTurnOf}
use Rattle.wbt_grant.specs.State as throttle
use Rattle.wbt_replay_order.proofs.Frames.Others.{IsTurnOn, stepping}
use Rattle.wbt_replay_order.proofs.Frames.Quiet.{skips}

-- the step relation is followed up to a turn of CPU i, of which the item x is next and the items ts come behind it
pub record AtNext (trace : Trace) (setting : Setting) (i : ℕ) (s : State) (t : throttle.State) : Type 0 where
  pub there : i < length s.cpus
  pub on_cpu : i < setting.cpus
  pub turns : (j : ℕ) → j < trace.cpus → IsTurnOn trace j (cpu_of j s)
  pub same_turn : (ts : List Todo) → (cpu_of i (stepping i ts s)).turn.whose ≡ (cpu_of i s).turn.whose
  pub whose_on : (x : Todo) (ts : List Todo) → (cpu_of i s).todo ≡ x ∷ ts → IsTurnOf trace i (cpu_of i s).turn.whose
  pub opened : (x : Todo) (ts : List Todo) → (cpu_of i s).todo ≡ x ∷ ts
      → FollowsCpu trace setting i (record (cpu_of i s) { todo = x ∷ ts }) s.tasks s.flushers (t.cpu i) (λ y. t.own y i)
  -- an item that does nothing here is passed over
  pub skipped : (x : Todo) (ts : List Todo) → (cpu_of i s).todo ≡ x ∷ ts → ((k g : ℕ) → AreLoads k g (x ∷ ts) → ⊥) → debts_in (x ∷ ts) ≡ debts_in ts
      → resumes ts ≡ false → Tidy ts → list_any is_closing ts ≡ list_any is_closing (x ∷ ts) → Moves trace setting s.steps (stepping i ts s) t

pub at_next : (trace : Trace) (setting : Setting) → Suits trace setting → (i : ℕ) → i < trace.cpus → (s : State) (t : throttle.State) → Ranges trace setting s
    → Follows trace setting s t → AtNext trace setting i s t
at_next trace setting suits i less s t ranges h =
    let there : i < length s.cpus = omega (arith, less, ranges.cpus) in
    let turns : ((j : ℕ) → j < trace.cpus → IsTurnOn trace j (cpu_of j s)) = λ j inside. ranges.turn_is j inside in
    record {
      there = there;
      on_cpu = omega (arith, less, suits.cpus);
      turns = turns;
      same_turn = λ ts. ap (λ (c : Cpu). c.turn.whose) (get_or-set_same s.cpus i (record (cpu_of i s) { todo = ts; made = (cpu_of i s).made + 1 }) no_cpu there);
      whose_on = λ x ts is. ranges.turn_is i less (omega (arith, ap length is));
      opened = λ x ts is. subst (λ (l : List Todo). FollowsCpu trace setting i (record (cpu_of i s) { todo = l }) s.tasks s.flushers (t.cpu i) (λ y. t.own y i)) is (h.cpu i less);
      skipped = λ x ts is. skips trace setting suits i s t there turns h less x ts is;
    }
