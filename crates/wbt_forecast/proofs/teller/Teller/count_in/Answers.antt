use Rattle.std.proofs.Common.{◌≡◌, ℕ, ◌+◌, ◌-◌, List, length, ap, subst, arith}
use Rattle.wbt_forecast_rows.specs.Small.{AreSmall}
use Rattle.wbt_replay_order.proofs.Common.{seen, Cpu}
use Rattle.wbt_forecast.specs.Kept.{all_checks, all_entries, told_since}
use Rattle.wbt_forecast.proofs.Telling.Lists.{told_is}
use Rattle.wbt_forecast.proofs.teller.Teller.count_in.Goals as goal

pub count_entries-requires-clause-small : goal.count_entries-requires-clause-small
count_entries-requires-clause-small c =
    let s = seen c.args.self.now.machine in
    let most = c.requires.room.most in
    let more = c.made_steps-made.result - c.args.self.now.counted in
    let long = ap (λ (l : List Cpu). length (all_entries l)) c.deref.ensures.value in (
      most + more,
      c.count_steps.ensures.small most c.requires.room.tallies,
      omega (arith, c.requires.room.room, c.made_steps-made.ensures, long, told_is s.cpus),
    )

pub count_checks-requires : goal.count_checks-requires
count_checks-requires c =
    let s = seen c.args.self.now.machine in
    let most = c.requires.room.most in
    let more = c.made_steps-made.result - c.args.self.now.counted in
    let entries = length (all_entries c.deref.result.now) in
    let long = ap (λ (l : List Cpu). length (all_entries l)) c.deref.ensures.value in
    let checks = ap (λ (l : List Cpu). length (all_checks l)) c.deref-2.ensures.value in
    record {
      small = (
        most + more + entries,
        c.count_entries.ensures.small (most + more) (c.count_steps.ensures.small most c.requires.room.tallies),
        omega (arith, c.requires.room.room, c.made_steps-made.ensures, long, checks, told_is s.cpus),
      );
    }

pub sum_up-requires : goal.sum_up-requires
sum_up-requires c =
    let s = seen c.args.self.now.machine in
    let long = ap (λ (l : List Cpu). length (all_entries l)) c.deref-3.ensures.value in
    record { small = (c.requires.room.most, c.requires.room.totals, omega (arith, c.requires.room.room, long, told_is s.cpus)) }

pub returns-clause-small : goal.returns-clause-small
returns-clause-small c = λ most small.
    let s = seen c.args.self.now.machine in
    let counted = c.args.self.now.counted in
    let more = c.made_steps-made.result - counted in
    let entries = length (all_entries c.deref.result.now) in
    let checks = length (all_checks c.deref-2.result.now) in
    let long = ap (λ (l : List Cpu). length (all_entries l)) c.deref.ensures.value in
    let alike = ap (λ (l : List Cpu). length (all_checks l)) c.deref-2.ensures.value in
    let same : most + more + entries + checks ≡ most + told_since counted s = omega (arith, c.made_steps-made.ensures, long, alike, told_is s.cpus) in
    subst (λ (n : ℕ). AreSmall n c.count_checks.new.interval) same
    (c.count_checks.ensures.small (most + more + entries) (c.count_entries.ensures.small (most + more) (c.count_steps.ensures.small most small)))
