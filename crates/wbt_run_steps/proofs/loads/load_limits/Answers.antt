-- What a load of limits came to, by its answer.
use Rattle.std.proofs.Common.{ℕ, false, Result, Ok, Err, refl, subst}
use Rattle.std.specs.Prelude.{IfOk, OnErr}
use Rattle.wbt_num.specs.Limits.{IsLawful}
use Rattle.wbt_kit.proofs.Common.{cpu_for, setting, Holds, Triple}
use Rattle.wbt_kit.specs.declared.kit.Seats.{Seats}
use Rattle.wbt_run_steps.specs.Loads.{LoadsLimits, LoadsSome}
use Rattle.wbt_run_steps.specs.Records.{OnlyCpu}
use Rattle.wbt_run_steps.specs.Steps.{IsStopped}
use Rattle.wbt_run_steps.proofs.Logging.{limits_cut, limits_loaded}
use Rattle.wbt_run_steps.proofs.Loading.{asked_by, loads_by, may_load, seats_after, some_by}
use Rattle.wbt_run_steps.proofs.loads.load_limits.Goals as goal

pub load_limits-loaded-requires : goal.load_limits-loaded-requires
load_limits-loaded-requires g c = record {
  seat = c.requires.seats.cpu;
  there = c.requires.domain;
  held = may_load (setting c.args.kit.now.throttle.layout) c.args.who c.args.seats.now.cpu c.requires.held.no_timer c.requires.held.held;
}

if_both : {A E : Type 0} (P Q : A → Type 0) (r : Result A E) → IfOk r (λ a. P a × Q a) → IfOk r P × IfOk r Q
if_both P Q (Ok a) is = (is.0, is.1)
if_both P Q (Err e) is = (tt, tt)

on_both : {A E : Type 0} (P Q : Type 0) (r : Result A E) → OnErr r (P × Q) → OnErr r P × OnErr r Q
on_both P Q (Ok a) is = (tt, tt)
on_both P Q (Err e) is = (is.0, is.1)

pub returns : goal.returns
returns g c =
    let kit = c.args.kit.now in
    let set' = setting kit.throttle.layout in
    let who = c.args.who in
    let old = c.args.seats.now in
    let new : Seats = record { cpu = c.load_limits-loaded.new.seat; share = old.share; est = old.est; queue = old.queue } in
    let said = g.G.Gate.said c.args.gate.now in
    let tells = said (cpu_for set' who) in
    let only : OnlyCpu old new = record { share = refl; est = refl; queue = refl } in
    let loaded = c.load_limits-loaded.result in
    let t = c.load_limits-loaded.ensures in
    let held = c.held_by.result in
    let loads = if_both (λ (x : Triple). IsLawful x.limits) (λ (x : Triple). LoadsLimits kit c.args.cpu who c.args.domain x old new) held
    (loads_by kit who c.args.cpu c.requires.its c.args.domain tells old new c.requires.held only loaded held c.held_by.ensures t) in
    let some = on_both (LoadsSome kit c.args.cpu c.args.domain old new) (Holds new.cpu.cpus (cpu_for set' who) (λ r. tells r.steps false)) held
    (some_by kit who c.args.cpu c.requires.its c.args.domain tells old new c.requires.held only loaded held c.held_by.ensures t) in
    record {
      seats = seats_after kit who c.args.cpu c.requires.its c.args.domain tells old new c.requires.held only loaded c.requires.seats t;
      lawful = loads.0;
      loads = loads.1;
      part = some.0;
      stopped = subst (λ (i : ℕ). OnErr held (IsStopped i said new)) c.requires.its some.1;
      asked = asked_by kit who c.args.cpu c.requires.its c.args.domain tells old new c.requires.held only said loaded refl t;
      kinds = limits_loaded kit c.args.cpu who c.args.domain held old new loads.1;
      cut = limits_cut kit c.args.cpu c.args.domain held old new some.0;
    }
