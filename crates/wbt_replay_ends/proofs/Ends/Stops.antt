-- A CPU that is stopped leaves less to be done.
use Rattle.std.proofs.Common.{◌≡◌, ℕ, ◌+◌, ◌<◌, ◌≤◌, Bool, true, false, cond, length, refl, ap, arith}
use Rattle.std.proofs.lemmas.List.Sums.{sum_by-set}
use Rattle.wbt_replay_order.proofs.Common.{Trace, State, no_cpu, cpu_of, Cpu, todo_ahead, is_halted, stop, IsPaid, cpu_cost, work_left, Ending}
use Rattle.wbt_replay_order.specs.declared.chance.Ahead.TheVariants as next
use Rattle.wbt_replay_order.proofs.Facts.Lists.{set_each}
use Rattle.wbt_replay_ends.proofs.Ends.Items.{Ahead}
use Rattle.wbt_replay_ends.proofs.Ends.Paces.{paced_stop, unspent}
use Rattle.wbt_replay_ends.proofs.Ends.Turning.{Turning}

module _ (trace : Trace) (s : State) (at : Turning trace s) (h : Ending trace s) (i : ℕ) (there : i < length s.cpus) (going : (cpu_of i s).stopped ≡ false)
    (live : s.spent ≡ false) (over : is_halted trace.halt (cpu_of i s).made ≡ true) (due : todo_ahead (cpu_of i s).todo ≡ next.Step) where
  halted : Cpu
  halted = record (cpu_of i s) { stopped = true }

  stop_kept : Ending trace (stop i s)
  unfolding halted
  stop_kept = record {
    paid = λ j. set_each (λ k (c : Cpu). IsPaid c.todo) s.cpus i halted no_cpu there (h.paid i) (λ k n. h.paid k) j;
    timer_paid = h.timer_paid;
    paced = paced_stop trace.halt s.steps s.cpus h.paced i there halted refl over due;
    spent = unspent trace (stop i s) live;
  }

  stop_work : work_left (stop i s) + 1 ≤ work_left s
  unfolding work_left halted
  stop_work =
      let changed = sum_by-set (cpu_cost s.tasks) s.cpus i halted no_cpu there in
      let was = ap {A = Bool} {B = ℕ} (λ b. cond b 0 1) going in
      omega (arith, changed, was)

  pub stop_ahead : Ahead trace s (stop i s)
  stop_ahead = record { less = stop_work; kept = stop_kept }
