-- What each check of a run read fits: its limits are lawful, and its fractions in range.
use Rattle.std.proofs.Common.{◌≡◌, ℕ, zero, suc, ◌-◌, ◌/◌, ◌^◌, ◌<◌, ◌≤◌, List, [], ◌∷◌, All, sym, subst, arith, ◌+◌}
use Rattle.std.specs.Prelude.{IfSome}
use Rattle.std.proofs.Math.Nat.{div-le_self}
use Rattle.std.proofs.lemmas.List.{get_or_default}
use Rattle.std.proofs.lemmas.List.Elements.{All-nil, All-cons}
use Rattle.wbt_replay_order.proofs.Common.{fraction_of, Half, CheckEntry, group_of, Trace, cgroup_line, State, no_cpu, cpu_of, domain_of, writeback_of, ReadFits, Cpu, ReplayTurn, AreDecided, EachFrom, IsDecided, most_moves, state_at, last_state, Facts, Sound, ChecksFit}
use Rattle.wbt_num.specs.Limits.{IsLawful}
use Rattle.wbt_replay_moves.specs.Kept.Fit.{IsFraction, IsLine, IsPart}
use Rattle.wbt_replay_order.specs.Kept.Strict.{CheckFits}
use Rattle.wbt_replay_order.proofs.Facts.Things.{read_fits}

fraction_fits : (whole part : Half) → IsPart whole part → IsFraction (fraction_of part whole)
fraction_fits whole part h =
    let fewer : part.events / 2 ^ (whole.period - part.period) ≤ part.events = div-le_self part.events (2 ^ (whole.period - part.period)) in
    record { num = omega arith; den = omega arith; few = omega (arith, fewer, h.few, h.few_in_all) }

group_fits : (g k : ℕ) (turn : ReplayTurn) (s : State) → IsLawful turn.cgroup.limits → IsPart (domain_of g s).events (writeback_of k s).cgroup_part
    → IfSome (cgroup_line g k turn s) IsLine
group_fits zero k turn s lawful part = tt
group_fits (suc g) k turn s lawful part = record { limits = lawful; share = fraction_fits (domain_of (suc g) s).events (writeback_of k s).cgroup_part part }

module _ (trace : Trace) (facts : Facts trace) (sound : (moves : ℕ) → Sound trace (state_at trace moves)) where
  check_fits : (s : State) (i place : ℕ) (check : CheckEntry) → i < trace.cpus → IsDecided trace s i place check → CheckFits trace check
  check_fits s i place check less h =
      let first : State = state_at trace h.asked.moves in
      let turn : ReplayTurn = (cpu_of i first).turn in
      let reads : ReadFits trace check.context turn first =
      read_fits trace facts first (sound h.asked.moves) first.cpus check.context h.context turn ((sound h.asked.moves).holds.cpus.each i less).turn in
      subst (CheckFits trace) (sym h.asked.printed) (record {
        context = h.context;
        global = record { limits = reads.loads.global; share = fraction_fits (domain_of 0 first).events (writeback_of check.context first).part reads.part };
        cgroup = group_fits (group_of trace check.context) check.context turn first reads.loads.cgroup reads.cgroup_part;
      })

  each_fits : (s : State) (i place : ℕ) (checks : List CheckEntry) → i < trace.cpus → EachFrom (IsDecided trace s i) place checks → All (CheckFits trace) checks
  each_fits s i place [] less h = All-nil (CheckFits trace)
  each_fits s i place (check ∷ checks) less h =
      All-cons (CheckFits trace) check checks (check_fits s i place check less h.0) (each_fits s i (suc place) checks less (subst (λ (n : ℕ). EachFrom (IsDecided trace s i) n checks) (let next : place + 1 ≡ suc place = omega arith in next) h.1))

  pub checks_fit : AreDecided trace → ChecksFit trace (last_state trace).cpus
  checks_fit decided i d less =
      let here : i < trace.cpus = omega (arith, less, (sound most_moves).holds.cpus.many) in
      subst (λ (c : Cpu). All (CheckFits trace) c.checks) (get_or_default (last_state trace).cpus i no_cpu d less)
      (each_fits (last_state trace) i 0 (cpu_of i (last_state trace)).checks here (decided i here))
