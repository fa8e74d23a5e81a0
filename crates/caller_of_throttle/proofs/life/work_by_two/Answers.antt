use Rattle.std.proofs.Common.{ℕ, sym, ap, subst}
use Rattle.caller_of_throttle.specs.declared.worker.Part.{Part}
use Rattle.caller_of_throttle.specs.Work.{IsBack, Worked}
use Rattle.caller_of_throttle.proofs.Parting.{both_back}
use Rattle.caller_of_throttle.proofs.life.work_by_two.Goals as goal

pub returns : goal.returns
returns g c = let e = c.join-first.ensures in let t = c.args.throttle.now in let first = c.join-first.result.0 in let second = c.join-first.result.1 in
    subst (IsBack t) (sym c.join.ensures) (both_back t c.args.one c.args.two first second c.requires
    (subst (λ (i : ℕ). Worked t i c.args.one first) (ap (λ (p : Part). p.cpu) c.part-low.ensures) e.first)
    (subst (λ (i : ℕ). Worked t i c.args.two second) (ap (λ (p : Part). p.cpu) c.part-high.ensures) e.second))
