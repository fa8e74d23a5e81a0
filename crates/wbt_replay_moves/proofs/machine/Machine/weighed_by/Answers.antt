use Rattle.std.proofs.Common.{◌≤◌, IfSome, Option, sym, subst}
use Rattle.wbt_position.specs.declared.ratio.DomainRead.{DomainRead}
use Rattle.wbt_replay_moves.proofs.Parts.{read_is_within}
use Rattle.wbt_replay_moves.proofs.machine.Machine.weighed_by.Goals as goal
use Rattle.wbt_replay_moves.proofs.machine.Machine.weighed_by.Goals.{in-None, in-Some}

pub returns-clause-parts : goal.returns-clause-parts
returns-clause-parts c =
    let trace = c.args.trace.now in
    let most = c.requires.fits.reads.here.share in (
      read_is_within trace c.args.context c.held_line.result c.read_for-global.result c.read_for-global.ensures.value most,
      elim c.match-held_in_group.branch [
        | in-None w ↦ subst (λ (o : Option DomainRead). IfSome o (λ domain. domain.wb_thresh ≤ domain.limits.thresh)) (sym w.cgroup-is) tt
        | in-Some w ↦ subst (λ (o : Option DomainRead). IfSome o (λ domain. domain.wb_thresh ≤ domain.limits.thresh)) (sym w.cgroup-is)
            (read_is_within trace c.args.context w.in-Some.line w.read_for.result w.read_for.ensures.value most)
      ],
    )
