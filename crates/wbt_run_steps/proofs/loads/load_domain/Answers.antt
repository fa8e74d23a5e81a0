-- One load after the other.
use Rattle.std.proofs.Common.{ℕ, inl, inr, refl, subst}
use Rattle.wbt_kit.proofs.Common.{Domain, setting}
use Rattle.wbt_grant.specs.Kinds as kind
use Rattle.wbt_turns.specs.Words.{counts}
use Rattle.wbt_run_steps.specs.Kinds.{StepsAs, loads_of_limits}
use Rattle.wbt_run_steps.proofs.Gating.{asked_more, asked_once, once_made}
use Rattle.wbt_run_steps.proofs.Logging.{as_more, part_first, part_longer}
use Rattle.wbt_run_steps.proofs.Loading.{held_cpu, holds_after, on_err}
use Rattle.wbt_run_steps.proofs.loads.load_domain.Goals as goal

pub may_step-requires : goal.may_step-requires
may_step-requires g c =
    let kit = c.args.hands.now.kit.now in
    record {
      held = held_cpu kit c.args.who c.args.cpu c.load_limits.new.seats c.requires.its
          (holds_after kit c.args.who c.args.cpu c.requires.its c.args.domain c.in_ok-held.held c.args.seats.now c.load_limits.new.seats c.requires.held c.in_ok-held.ensures.loads);
    }

pub load_count-count-requires : goal.load_count-count-requires
load_count-count-requires g c = record {
  seats = c.load_limits.ensures.seats;
  held = holds_after c.args.hands.now.kit.now c.args.who c.args.cpu c.requires.its c.args.domain c.in_ok-held.held c.args.seats.now c.load_limits.new.seats c.requires.held c.in_ok-held.ensures.loads;
  counter = c.requires.domain;
}

pub returns-in_err-held-clause-part : goal.returns-in_err-held-clause-part
returns-in_err-held-clause-part g c = on_err _ _ (inl c.in_err-held.ensures.part)

pub returns-then-not-may_step-clause-part : goal.returns-then-not-may_step-clause-part
returns-then-not-may_step-clause-part g c = inr (c.in_ok-held.held, c.in_ok-held.ensures.loads)

pub returns-clause-loads : goal.returns-clause-loads
returns-clause-loads g c = record {
  domain_is = refl;
  between = c.load_limits.new.seats;
  limits = c.in_ok-held.ensures.loads;
  count = c.load_count-count.ensures.loads;
}

pub returns-clause-asked : goal.returns-clause-asked
returns-clause-asked g c =
    let kit = c.args.hands.now.kit.now in
    let said = g.G.Gate.said c.args.hands.now.gate.now in
    let s1 = c.load_limits.new.seats in
    let n = c.load_count-count in
    let held = holds_after kit c.args.who c.args.cpu c.requires.its c.args.domain c.in_ok-held.held c.args.seats.now s1 c.requires.held c.in_ok-held.ensures.loads in
    asked_more c.args.cpu said c.args.seats.now s1 n.new.seats c.load_limits.ensures.asked
    (asked_once c.args.cpu said c.may_step.result s1 n.new.seats c.may_step.ensures c.if-not-may_step.false
    (once_made (setting kit.throttle.layout) (kind.count c.args.who (Domain c.args.domain)) n.ensures.loads.found c.args.cpu s1 n.new.seats c.requires.its
    (held_cpu kit c.args.who c.args.cpu s1 c.requires.its held) n.ensures.loads.makes))

pub returns-in_err-held-clause-cut : goal.returns-in_err-held-clause-cut
returns-in_err-held-clause-cut g c = on_err _ _ (part_longer c.args.cpu loads_of_limits (counts 1) c.args.seats.now c.load_limits.new.seats c.in_err-held.ensures.cut)

pub returns-then-not-may_step-clause-cut : goal.returns-then-not-may_step-clause-cut
returns-then-not-may_step-clause-cut g c = part_first c.args.cpu loads_of_limits (counts 1) c.args.seats.now c.load_limits.new.seats c.in_ok-held.ensures.kinds

pub returns-clause-kinds : goal.returns-clause-kinds
returns-clause-kinds g c =
    let s1 = c.load_limits.new.seats in
    let n = c.load_count-count in
    as_more c.args.cpu loads_of_limits (counts 1) c.args.seats.now s1 n.new.seats c.in_ok-held.ensures.kinds
    (subst (λ (cpu : ℕ). StepsAs cpu (counts 1) s1 n.new.seats) c.requires.its n.ensures.kinds)
