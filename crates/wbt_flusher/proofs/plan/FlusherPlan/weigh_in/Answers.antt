use Rattle.std.proofs.Common.{refl, ap, ◌∙◌}
use Rattle.wbt_kit.proofs.Common.{Limits}
use Rattle.wbt_rules.specs.Strict.{is_over_own}
use Rattle.wbt_flusher.specs.Weighs.{is_over_part}
use Rattle.wbt_flusher.proofs.Weighing.{held_before}
use Rattle.wbt_flusher.proofs.plan.FlusherPlan.weigh_in.Goals as goal

pub returns-clause-weighs : goal.returns-clause-weighs
returns-clause-weighs c log written =
    let plan = c.args.self.now in
    let r = c.read_share-fraction in
    let h = c.held_limits-held in
    record {
      fraction = r.result;
      reads = r.ensures.reads;
      only = r.ensures.only_share;
      holds = record { only = r.ensures.only_tallies; tallies = r.ensures.holds };
      told = refl;
      over_is = c.is_over_own.ensures.value ∙ ap (is_over_own c.args.reading) c.part_read-read.ensures.value
          ∙ ap (λ (l : Limits). is_over_part plan l r.result c.args.reading) (held_before plan c.args.kit.now c.args.domain h.result c.args.seats.now r.new.seats r.ensures.only_share.cpu h.ensures.held);
    }
