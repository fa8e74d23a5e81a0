-- A context is weighed: of the CPU its turn alone changes.
use Rattle.std.proofs.Common.{ℕ, ◌<◌, ◌||◌, refl, arith}
use Rattle.wbt_replay_order.proofs.Common.{Trace, State, cpu_of, weighed_by, is_over_by_itself, weigh, Cpu, ReplayTurn, Facts, IsClosed}
use Rattle.wbt_replay_ranges.proofs.Sound.Counters.{changed_done, room_as}
use Rattle.wbt_replay_ranges.proofs.Sound.Going.{Going}
use Rattle.wbt_replay_ranges.proofs.Sound.Own.{Free, Done, room_free}

module _ (trace : Trace) (facts : Facts trace) (i : ℕ) (less : i < trace.cpus) where
  pub weigh_done : (k : ℕ) (s : State) → Going trace i 0 0 s → Free trace i 0 s → IsClosed trace s.flushers i (cpu_of i s) → Done trace i (weigh trace i k s)
  weigh_done k s g free closed =
      let c : Cpu = cpu_of i s in
      let turn : ReplayTurn = record c.turn { over = c.turn.over || is_over_by_itself (weighed_by trace k c s) } in
      let h = g.holds.cpus.each i less in
      let t = h.turn in
      changed_done trace facts i less turn c.todo c.local c.own_domains c.own_contexts c.entries c.checks c.estimates 0 0 s g
      (record { began = t.began; global = t.global; cgroup = t.cgroup; global_count = t.global_count; cgroup_count = t.cgroup_count; context_count = t.context_count })
      refl free.whose refl refl h.since (omega arith) h.todo h.in_order (g.holds.agreed i less).items (omega arith) closed
      (room_as trace facts i less c turn c.entries c.checks c.estimates (room_free trace c free.fits.others free.room))
