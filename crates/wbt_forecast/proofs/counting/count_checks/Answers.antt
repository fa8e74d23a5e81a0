use Rattle.std.proofs.Common.{◌≡◌, ℕ, ◌+◌, List, length, take, get_or, sym, ◌∙◌, ap, ap₂, subst, arith}
use Rattle.std.proofs.lemmas.List.{take_all}
use Rattle.wbt_replay_order.proofs.Common.{CheckEntry, Cpu}
use Rattle.wbt_forecast_rows.specs.Small.{AreSmall}
use Rattle.wbt_forecast_rows.specs.Tally.{Tallies, after_checks}
use Rattle.wbt_forecast_rows.specs.declared.tally.TheConstants.{MOST_TOLD}
use Rattle.wbt_forecast.specs.Kept.{all_checks}
use Rattle.wbt_forecast.proofs.Telling.Lists.{checks_at, checks_next, checks_none, checks_on, checks_part, small_less}
use Rattle.wbt_forecast.proofs.counting.count_checks.Goals as goal

pub loop-cpu-init : goal.loop-cpu-init
loop-cpu-init c = record {
  value = sym (checks_none c.args.interval.now);
  small = λ most small. (let same : most ≡ most + 0 = omega arith in subst (λ (n : ℕ). AreSmall n c.args.interval.now) same small);
}

pub count_checks-requires-clause-small : goal.count_checks-requires-clause-small
count_checks-requires-clause-small c =
    let told = length (all_checks (take c.loop-cpu.cpu-index c.args.cpus.now)) in
    small_less (c.requires.small.0 + told) MOST_TOLD c.loop-cpu.interval
    (omega (arith, c.requires.small.2, checks_part c.args.cpus.now c.loop-cpu.cpu-index))
    (c.loop-cpu.invariant.small c.requires.small.0 c.requires.small.1)

pub count_checks-requires-clause-few : goal.count_checks-requires-clause-few
count_checks-requires-clause-few c =
    let i = c.loop-cpu.cpu-index in
    let long = ap (λ (l : List CheckEntry). length l) (c.as_slice.ensures ∙ ap (λ (x : Cpu). x.checks) c.cpu-item.is) in
    let next = checks_at c.args.cpus.now i c.cpu-item.result c.loop-cpu-test.true in
    omega (arith, c.requires.small.2, long, next, checks_part c.args.cpus.now (i + 1))

pub loop-cpu-preserved : goal.loop-cpu-preserved
loop-cpu-preserved c =
    let cs = c.args.cpus.now in
    let i = c.loop-cpu.cpu-index in
    let item = c.cpu-item.result in
    let t = c.args.interval.now in
    let own = c.as_slice.ensures ∙ ap (λ (x : Cpu). x.checks) c.cpu-item.is in
    let long = ap (λ (l : List CheckEntry). length l) own in
    record {
      value = c.count_checks.ensures.value
          ∙ (ap₂ (λ (l : List CheckEntry) (u : Tallies). after_checks l u) own c.loop-cpu.invariant.value
          ∙ (checks_on (all_checks (take i cs)) (get_or cs i item).checks t
          ∙ ap (λ (l : List CheckEntry). after_checks l t) (sym (checks_next cs i item c.loop-cpu-test.true))));
      small = λ most small. (
          let next = checks_at cs i item c.loop-cpu-test.true in
          let same : most + length (all_checks (take i cs)) + length c.as_slice.result.now ≡ most + length (all_checks (take (i + 1) cs)) = omega (arith, next, long) in
          subst (λ (n : ℕ). AreSmall n c.count_checks.new.self) same
          (c.count_checks.ensures.small (most + length (all_checks (take i cs))) (c.loop-cpu.invariant.small most small))
          );
    }

pub returns-clause-small : goal.returns-clause-small
returns-clause-small c = λ most small.
    subst (λ (l : List Cpu). AreSmall (most + length (all_checks l)) c.loop-cpu.interval)
    (take_all c.loop-cpu.cpu-index c.args.cpus.now c.loop-cpu-test.false) (c.loop-cpu.invariant.small most small)
