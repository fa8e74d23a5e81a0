-- A CPU that is stopped follows the step relation as before.
use Rattle.std.proofs.Common.{ℕ, ◌<◌, true, ℤ, List, refl, arith}
use Rattle.wbt_replay_order.proofs.Common.{Trace, Counter, Setting, CpuRecord, State, cpu_of, with_cpu, Cpu, Flusher, ReplayTask, Suits, FollowsCpu, Follows, Ranges}
use Rattle.wbt_grant.specs.State as throttle
use Rattle.wbt_replay_order.proofs.Frames.Quiet.{same_shared, plainly, all_same}

abbrev pub stopped : (c : Cpu) → Cpu
stopped c = record c { stopped = true }

module _ (trace : Trace) (setting : Setting) (suits : Suits trace setting) (i : ℕ) where
  stopped_follows : (c : Cpu) (tasks : List ReplayTask) (flushers : List Flusher) (r : CpuRecord) (own : Counter → ℤ)
      → FollowsCpu trace setting i c tasks flushers r own → FollowsCpu trace setting i (stopped c) tasks flushers r own
  stopped_follows c tasks flushers r own f = record {
    own_is = f.own_is;
    events = f.events;
    folds = f.folds;
    founds = f.founds;
    readings = f.readings;
    triples = f.triples;
    debts = f.debts;
    tidy = f.tidy;
    looked = f.looked;
    scanning = f.scanning;
    held = f.held;
    paced = f.paced;
    left = f.left;
    checked = f.checked;
    check = λ task at decides.
        let q = f.check task at decides in
        record { writer = q.writer; loads = q.loads; readings = q.readings; holds = q.holds; behind = q.behind; keeps = q.keeps };
  }

  pub stop_follows : (s : State) (t : throttle.State) → i < trace.cpus → Ranges trace setting s → Follows trace setting s t
      → Follows trace setting (with_cpu i (stopped (cpu_of i s)) s) t
  stop_follows s t less ranges h =
      let s2 : State = with_cpu i (stopped (cpu_of i s)) s in
      plainly trace setting suits i (stopped (cpu_of i s)) (t.cpu i) s t s2 t (omega (arith, less, ranges.cpus)) ranges.turn_is h refl
      (same_shared s s2 refl) refl (record { here = refl; others = λ j n. refl }) (λ j x n. refl) (λ j n. all_same trace j s.tasks s.flushers) h.marks
      (stopped_follows (cpu_of i s) s.tasks s.flushers (t.cpu i) (λ x. t.own x i) (h.cpu i less))
