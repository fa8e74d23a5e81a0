-- A check decides on numbers in the range of the control law, and each moment of a run comes before 2 ^ 62.
use Rattle.std.proofs.Common.{ℕ, zero, suc, ◌-◌, ◌/◌, ◌^◌, ◌<◌, ◌≤◌, ℤ, pos, negsuc, unsigned_abs, List, length, Option, IfSome, arith}
use Rattle.std.proofs.Math.Nat.{div-le_self}
use Rattle.wbt_num.specs.Limits.{IsLawful}
use Rattle.wbt_replay_order.proofs.Common.{at_least_zero, Estimate, fraction_of, Half, Decision, group_of, new_writer, Trace, cgroup_line, check_of, writer_in, State, domain_of, task_of, writeback_of, Actor, Cpu, ReplayTurn, Stretch, Facts, IsTurn, Sound, most_counted}
use Rattle.wbt_estimate.specs.Estimate.{IsSound}
use Rattle.wbt_flex.specs.Proportions.{fraction_at}
use Rattle.wbt_pause.specs.Reads.{IsCounted}
use Rattle.wbt_journal.specs.Checks.{IsInRange, IsPart, IsRate, IsRead}
use Rattle.wbt_replay_moves.specs.Definition.Check.{line_of}
use Rattle.wbt_replay_moves.specs.declared.state.Load.{Load}
use Rattle.wbt_replay_order.proofs.Facts.Things.{cgroup_part_fits, moment_fits, part_fits}

-- ---- what was read

below : (m n most : ℕ) → m ≤ n → n < most → m < most
below m n most up_to less = omega (arith, up_to, less)

part_of : (period num events : ℕ) → num < 2 ^ 40 → events < 2 ^ 40 → IsPart (fraction_at period num events)
part_of period num events few few_in_all = record { some = omega arith; within = omega arith; few = omega (arith, few, few_in_all) }

share_fits : (part whole : Half) → part.events < 2 ^ 40 → whole.events < 2 ^ 40 → IsPart (fraction_of part whole)
share_fits part whole few few_in_all =
    let times : ℕ = 2 ^ (whole.period - part.period) in
    part_of whole.period (part.events / times) whole.events (below (part.events / times) part.events (2 ^ 40) (div-le_self part.events times) few) few_in_all

line_read : (d : ℕ) (load : Load) (part : Half) (s : State) → IsLawful load.limits → part.events < 2 ^ 40 → (domain_of d s).events.events < 2 ^ 40 → IsRead (line_of d load part s)
line_read d load part s lawful few few_in_all = record { limits = lawful; share = share_fits part (domain_of d s).events few few_in_all }

cgroup_read : (group k : ℕ) (turn : ReplayTurn) (s : State) → IsLawful turn.cgroup.limits → (writeback_of k s).cgroup_part.events < 2 ^ 40 → (domain_of group s).events.events < 2 ^ 40
    → IfSome (cgroup_line group k turn s) IsRead
cgroup_read zero k turn s lawful few few_in_all = tt
cgroup_read (suc cgroup) k turn s lawful few few_in_all = line_read (suc cgroup) turn.cgroup (writeback_of k s).cgroup_part s lawful few few_in_all

reads_few : (n : ℤ) (most : ℕ) → unsigned_abs n ≤ most → at_least_zero n ≤ most
reads_few (pos n) most few = few
reads_few (negsuc n) most few = omega arith

pages_few : (n : ℤ) → unsigned_abs n ≤ most_counted → at_least_zero n < 2 ^ 33
pages_few n few = let reads = reads_few n most_counted few in omega (arith, reads)

sound_rate : (e : Estimate) → IsSound e → IsRate e
sound_rate e sound = record { usable = record { average = sound.average; ratelimit = sound.ratelimit.0 }; ratelimit = sound.ratelimit.1 }

-- ---- a sound state

module _ (trace : Trace) (facts : Facts trace) (s : State) (sound : Sound trace s) where
  pub early : (moment : ℕ) → moment ≤ s.now → moment < 2 ^ 62
  early moment by_now = let now = moment_fits trace facts s sound in omega (arith, by_now, now)

  counted_few : (task k : ℕ) → task < length trace.tasks → k < length trace.contexts → IsCounted (writer_in k (task_of task s)).task
  counted_few task k there less =
      let h = sound.holds.tasks.each task there in
      let fit = h.fit k (new_writer 0) (omega (arith, less, h.writers)) in
      record { dirtied = omega (arith, fit.dirtied, sound.holds.few, sound.holds.long); allowance = omega (arith, fit.allowance) }

  -- a check of a task of this state, whatever it decides
  pub check_in_range : (orders : List Stretch) (rotation : Option Actor) (cs : List Cpu) (task k : ℕ) → task < length trace.tasks → k < length trace.contexts
      → (turn : ReplayTurn) → IsTurn s.now turn → (decision : Decision)
      → IsInRange (check_of trace task k turn decision (record s { orders = orders; rotation = rotation; cpus = cs })) (writeback_of k s).estimate (writer_in k (task_of task s)).task
  check_in_range orders rotation cs task k there less turn its decision =
      let u : State = record s { orders = orders; rotation = rotation; cpus = cs } in
      let part = part_fits trace facts s sound k less in
      let cgroup_part = cgroup_part_fits trace facts s sound k less in
      record {
        global = line_read 0 turn.global (writeback_of k s).part u its.global part.few part.few_in_all;
        cgroup = cgroup_read (group_of trace k) k turn u its.cgroup cgroup_part.few cgroup_part.few_in_all;
        pages = pages_few turn.context.value its.context_count;
        rate = sound_rate (writeback_of k s).estimate (sound.holds.contexts.each k less).estimate;
        counted = counted_few task k there less;
        moment = early s.now (omega arith);
      }
