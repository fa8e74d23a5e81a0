-- What a sound state gives of its things, whatever its CPUs are.
use Rattle.std.proofs.Common.{ℕ, ◌^◌, ◌<◌, ◌≤◌, List, length, arith, Option, None, Some}
use Rattle.std.specs.List.{sum_by}
use Rattle.std.proofs.lemmas.List.Elements.{All-weaker}
use Rattle.wbt_replay_order.proofs.Common.{Trace, State, cpu_of, flusher_of, domain_of, writeback_of, no_context, queue_of, context_of, context_at, group_of, flusher_device, ReadFits, FlyingFits, Cpu, ReplayPhase, ReplayTurn, Facts, IsPageOf, latest, Sound, IsAt, IsTurn, written_of, AreQueued, WheelFits}
use Rattle.wbt_rules.specs.Things.{end_of}
use Rattle.wbt_replay_moves.specs.Kept.Fit.{IsCpus, HasInode, HasContext, HasFlusher, IsPart, TurnFits, HoldsLimits, EstimateFits, TakenFits, ScanningFits, TestFits, QueueFits, NoticeFits}
use Rattle.wbt_replay_moves.specs.declared.state.ReplayPhase.TheVariants as phase
use Rattle.wbt_replay_order.proofs.Lists.Numbered.{sum_part}
use Rattle.wbt_expiry.specs.Waiting.{Waiting as Wheel}

module _ (trace : Trace) (facts : Facts trace) (s : State) (sound : Sound trace s) where
  pub cpus_fit : IsCpus trace
  cpus_fit = (facts.some_cpu, omega (arith, facts.few_cpus))

  pub moment_fits : s.now ≤ latest
  moment_fits = let h = sound.holds.horizon.clock in omega (arith, h)

  -- pages that were written
  written_few : sum_by written_of s.contexts ≤ 2 ^ 39
  written_few = omega (arith, sound.holds.written.total, sound.holds.few, sound.holds.long)

  -- ---- contexts

  pub context_fits : (k : ℕ) → k < length trace.contexts → HasContext trace k (length s.contexts) (length s.domains)
  context_fits k less =
      let device = facts.context_device k less in
      let group = facts.context_group k less in
      record {
        there = less;
        kept = omega (arith, less, sound.holds.contexts.many);
        device = device;
        least_share = (facts.shares (context_at trace k).device device).0;
        share = (facts.shares (context_at trace k).device device).1;
        group = omega (arith, group, sound.holds.domains.many);
        global = omega (arith, sound.holds.domains.many);
        least = facts.least;
      }

  pub part_fits : (k : ℕ) → k < length trace.contexts → IsPart (domain_of 0 s).events (writeback_of k s).part
  part_fits k less = record {
    period = (sound.holds.contexts.each k less).part;
    few = omega (arith, sound.holds.written.part k, written_few);
    few_in_all = omega (arith, sound.holds.written.events 0, written_few);
  }

  pub cgroup_part_fits : (k : ℕ) → k < length trace.contexts → IsPart (domain_of (group_of trace k) s).events (writeback_of k s).cgroup_part
  cgroup_part_fits k less = record {
    period = (sound.holds.contexts.each k less).cgroup_part;
    few = omega (arith, sound.holds.written.cgroup_part k, written_few);
    few_in_all = omega (arith, sound.holds.written.events (group_of trace k), written_few);
  }

  pub written_fits : (k : ℕ) → k < length trace.contexts → (writeback_of k s).written ≤ 2 ^ 39
  written_fits k less = let part = sum_part written_of s.contexts k no_context (omega (arith, less, sound.holds.contexts.many)) in omega (arith, part, written_few)

  turn_fits : (turn : ReplayTurn) → IsTurn s.now turn → TurnFits turn
  turn_fits turn h = record { global = h.global; cgroup = h.cgroup; count = h.context_count; began = omega (arith, h.began, moment_fits) }

  -- ---- inodes

  pub inode_fits : (n : ℕ) → n < length trace.inodes → HasInode trace n (length s.marks) (length s.queues)
  inode_fits n less = record {
    there = less;
    mark = omega (arith, less, sound.holds.marks);
    context = facts.inode_context n less;
    queue = omega (arith, facts.inode_device n less, sound.holds.queues.many);
  }

  pub end_few : (n : ℕ) → n < length trace.inodes → end_of trace n < 2 ^ 32
  end_few n less = omega (arith, facts.inode_end n less, facts.few_pages)

  pub page_fits : (n p : ℕ) → IsPageOf trace n p → p < s.pages
  page_fits n p h = omega (arith, h.before_end, facts.inode_end n h.there, sound.holds.pages)

  -- ---- flushers

  pub flusher_there : (f : ℕ) → f < length trace.flushers → f < length s.flushers
  flusher_there f less = omega (arith, less, sound.holds.flushers.many)

  pub flusher_fits : (f : ℕ) → f < length trace.flushers → HasFlusher trace f (length s.flushers) (length s.queues)
  flusher_fits f less =
      let device = facts.flusher_device_is f less in
      let rate = facts.rate (flusher_device trace f) device in
      record { there = flusher_there f less; line = less; device = device; queue = omega (arith, device, sound.holds.queues.many); rate = omega (arith, rate) }

  -- ---- what a CPU holds

  module _ (i : ℕ) (here : i < trace.cpus) where
    pub holds_global : HoldsLimits 0 (cpu_of i s)
    holds_global = let h = sound.holds.cpus.each i here in record { there = omega (arith, h.many_held); lawful = h.held 0 }

    pub holds_cgroup : (k : ℕ) → k < length trace.contexts → HoldsLimits (group_of trace k) (cpu_of i s)
    holds_cgroup k less =
        let h = sound.holds.cpus.each i here in
        let group = facts.context_group k less in
        record { there = omega (arith, group, h.many_held); lawful = h.held (group_of trace k) }

  -- ---- what a turn reads, and what a flusher is at, where CPUs are these

  module _ (cs : List Cpu) where
    pub read_fits : (k : ℕ) → k < length trace.contexts → (turn : ReplayTurn) → IsTurn s.now turn → ReadFits trace k turn (record s { cpus = cs })
    read_fits k less turn h = record {
      here = context_fits k less;
      estimate = (sound.holds.contexts.each k less).estimate;
      part = part_fits k less;
      cgroup_part = cgroup_part_fits k less;
      loads = turn_fits turn h;
    }

    pub estimate_fits : (k : ℕ) → k < length trace.contexts → (turn : ReplayTurn) → IsTurn s.now turn → EstimateFits trace k turn (record s { cpus = cs })
    estimate_fits k less turn h = record { reads = read_fits k less turn h; few = omega (arith, written_fits k less) }

    module _ (f : ℕ) (less : f < length trace.flushers) where
      -- each inode of the queue of its device may be noticed
      pub test_fits : TestFits trace f (record s { cpus = cs })
      test_fits = record { here = flusher_fits f less; queue = by_wheel (flusher_of f s).wheel (sound.holds.flushers.each f).wheel }
        where
          d : ℕ
          d = flusher_device trace f

          by_wheel : (wheel : Option Wheel) → WheelFits trace wheel → QueueFits trace (queue_of d s) wheel
          by_wheel None fits = tt
          by_wheel (Some list) fits =
              All-weaker (AreQueued trace d) (NoticeFits trace list.inodes)
              (λ n its.
              let context = facts.inode_context n its.there in
              record { there = its.there; context = context; below = omega (arith, its.there, fits.inodes); soon = facts.soon (context_of trace n) context }) (queue_of d s) (sound.holds.queues.each d)

      pub taken_fits : (p : ReplayPhase) → IsAt trace (flusher_of f s).batch p → TakenFits trace f (record s { cpus = cs }) p
      taken_fits (phase.Idle until kept) h = tt
      taken_fits (phase.Taken n) h = (
        inode_fits n h.1,
        omega (arith, facts.inode_context n h.1, sound.holds.contexts.many),
        flusher_fits f less,
        omega (arith, h.1, ((sound.holds.flushers.each f).places less).many),
      )
      taken_fits (phase.Scanning scan) h = tt
      taken_fits (phase.Flying n pages until) h = tt
      taken_fits phase.Finished h = tt

      pub scanning_fits : (p : ReplayPhase) → IsAt trace (flusher_of f s).batch p → ScanningFits trace f (record s { cpus = cs }) p
      scanning_fits (phase.Idle until kept) h = tt
      scanning_fits (phase.Taken n) h = tt
      scanning_fits (phase.Scanning scan) h = record {
        here = flusher_fits f less;
        there = h.there;
        place = omega (arith, h.there, ((sound.holds.flushers.each f).places less).many);
        start = h.start;
        passed = h.within;
        batch = omega (arith, h.behind, h.within, h.pages_is, end_few scan.inode h.there);
        moment = omega (arith, moment_fits);
      }
      scanning_fits (phase.Flying n pages until) h = tt
      scanning_fits phase.Finished h = tt

      pub flying_fits : (p : ReplayPhase) → IsAt trace (flusher_of f s).batch p → FlyingFits trace f (record s { cpus = cs }) p
      flying_fits (phase.Idle until kept) h = tt
      flying_fits (phase.Taken n) h = tt
      flying_fits (phase.Scanning scan) h = tt
      flying_fits (phase.Flying n pages until) h =
          let k : ℕ = context_of trace n in
          let here = facts.inode_context n h.there in
          record {
            there = h.there;
            context = context_fits k here;
            batch = All-weaker (IsPageOf trace n) (λ p. p < s.pages) (page_fits n) (flusher_of f s).batch h.ours;
            written = omega (arith, written_fits k here, h.few, facts.few_pages);
            few = omega (arith, h.few, facts.few_pages);
            part = part_fits k here;
            cgroup_part = cgroup_part_fits k here;
          }
      flying_fits phase.Finished h = tt
