use Rattle.std.proofs.Common.{ℕ, subst}
use Rattle.wbt_table.specs.Seat.{as_cpu}
use Rattle.wbt_run_steps.proofs.steps.may_step.Goals as goal

pub steps-requires : goal.steps-requires
steps-requires g c = let h = c.requires.held in record { held = as_cpu h.0 h.1 }

pub returns : goal.returns
returns g c = let h = c.requires.held in
    (h.0, h.1, subst (λ (n : ℕ). g.G.Gate.said c.args.gate.now c.args.cpu n c.may_step.result) (c.steps.ensures.cpu h.0 h.1) c.may_step.ensures)
