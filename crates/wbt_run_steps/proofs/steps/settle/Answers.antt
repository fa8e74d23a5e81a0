use Rattle.std.proofs.Common.{refl, sym, ap, ◌∙◌, subst, arith}
use Rattle.wbt_kit.proofs.Common.{CpuJournal}
use Rattle.wbt_kit.specs.declared.kit.Seats.{Seats}
use Rattle.wbt_run_steps.specs.Pens.{with_fold}
use Rattle.wbt_run_steps.specs.Steps.{Settled}
use Rattle.wbt_run_steps.proofs.Paying.{settles}
use Rattle.wbt_run_steps.proofs.steps.settle.Goals as goal

pub returns : goal.returns
returns g c =
    let new : Seats = record { cpu = c.settle-settled.new.seat; share = c.args.seats.now.share; est = c.args.seats.now.est; queue = c.args.seats.now.queue } in
    let s = settles c.args.cpu c.args.kit.now (g.G.Gate.said c.args.gate.now) c.settle-settled.result c.args.seats.now new c.args.pen.now.log
    c.requires.seats c.requires.held (record { share = refl; est = refl; queue = refl }) c.requires.owed c.settle-settled.ensures in
    let log = c.tell_fold-3.ensures.log ∙ ap (with_fold c.settle-settled.result.third) (c.tell_fold-2.ensures.log ∙ ap (with_fold c.settle-settled.result.second) c.tell_fold.ensures.log) in
    let a = c.tell_fold.ensures.room in
    let b = c.tell_fold-2.ensures.room in
    let d = c.tell_fold-3.ensures.room in
    record {
      seats = s.seats;
      settled = subst (λ (l : CpuJournal). Settled c.args.cpu c.args.kit.now (g.G.Gate.said c.args.gate.now) c.settle-settled.result.all c.args.seats.now new c.args.pen.now.log l) (sym log) s.settled;
      asked = s.asked;
      kinds = s.kinds;
      room = omega arith;
      checks = c.tell_fold-3.ensures.checks ∙ c.tell_fold-2.ensures.checks ∙ c.tell_fold.ensures.checks;
      estimates = c.tell_fold-3.ensures.estimates ∙ c.tell_fold-2.ensures.estimates ∙ c.tell_fold.ensures.estimates;
    }
