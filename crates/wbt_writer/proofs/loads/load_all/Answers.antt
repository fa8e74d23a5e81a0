use Rattle.std.proofs.Common.{◌++◌}
use Rattle.wbt_writer.proofs.Common.{Context, count, setting, one, domain_steps, asked_more}
use Rattle.wbt_grant.specs.declared.who.Who.TheVariants.{Writer}
use Rattle.wbt_run_steps.proofs.Making.{domain_made, each_more, part_made, some_before, some_behind}
use Rattle.wbt_writer.specs.Loads.{group_steps}
use Rattle.wbt_writer.proofs.Erring.{on_err}
use Rattle.wbt_writer.proofs.Loading.{all_by, some_more}
use Rattle.wbt_writer.proofs.Reading.{domain_loaded, may_load, part_loaded}
use Rattle.wbt_writer.proofs.loads.load_all.Goals as goal

pub load_domain-requires : goal.load_domain-requires
load_domain-requires g c = record {
  seats = c.requires.fits.seats_are;
  its = c.requires.writer.1;
  held = may_load c.args.cpu c.args.hands.now.kit.now c.args.writer c.args.seats.now c.requires.fits c.requires.writer;
  domain = c.requires.some;
}

pub load_group-requires-clause-fits : goal.load_group-requires-clause-fits
load_group-requires-clause-fits g c = (domain_loaded c.args.cpu c.args.hands.now.kit.now c.args.writer 0 c.in_ok-global.global c.args.seats.now c.load_domain.new.seats
    c.requires.fits c.requires.writer.1 c.in_ok-global.ensures.loads).fits

pub returns-in_err-global-clause-fits : goal.returns-in_err-global-clause-fits
returns-in_err-global-clause-fits g c = (part_loaded c.args.cpu c.args.hands.now.kit.now c.args.writer 0 c.args.seats.now c.load_domain.new.seats
    c.requires.fits c.in_err-global.ensures.part).fits

pub returns-in_err-global-clause-some_loaded : goal.returns-in_err-global-clause-some_loaded
returns-in_err-global-clause-some_loaded g c = on_err _ _ (part_loaded c.args.cpu c.args.hands.now.kit.now c.args.writer 0 c.args.seats.now c.load_domain.new.seats
    c.requires.fits c.in_err-global.ensures.part).some

pub returns-in_err-group-clause-some_loaded : goal.returns-in_err-group-clause-some_loaded
returns-in_err-group-clause-some_loaded g c =
    let global = domain_loaded c.args.cpu c.args.hands.now.kit.now c.args.writer 0 c.in_ok-global.global c.args.seats.now c.load_domain.new.seats
    c.requires.fits c.requires.writer.1 c.in_ok-global.ensures.loads in on_err _ _
    (some_more (setting c.args.hands.now.kit.now.throttle.layout) c.args.cpu _ _ c.args.seats.now _ _ global.loaded.loaded c.in_err-group.ensures.some_loaded)

pub returns-in_err-count-clause-some_loaded : goal.returns-in_err-count-clause-some_loaded
returns-in_err-count-clause-some_loaded g c =
    let global = domain_loaded c.args.cpu c.args.hands.now.kit.now c.args.writer 0 c.in_ok-global.global c.args.seats.now c.load_domain.new.seats
    c.requires.fits c.requires.writer.1 c.in_ok-global.ensures.loads in on_err _ _
    (some_more (setting c.args.hands.now.kit.now.throttle.layout) c.args.cpu _ _ c.args.seats.now _ _ global.loaded.loaded
    (some_more (setting c.args.hands.now.kit.now.throttle.layout) c.args.cpu _ _ _ _ _ c.in_ok-group.ensures.loaded.loaded c.in_err-count.ensures.some_loaded))

pub returns-clause-loaded : goal.returns-clause-loaded
returns-clause-loaded g c =
    let global = domain_loaded c.args.cpu c.args.hands.now.kit.now c.args.writer 0 c.in_ok-global.global c.args.seats.now c.load_domain.new.seats
    c.requires.fits c.requires.writer.1 c.in_ok-global.ensures.loads in
    all_by (setting c.args.hands.now.kit.now.throttle.layout) c.args.cpu c.args.writer c.args.context c.args.group _ c.args.seats.now _ _ _
    c.in_ok-global.ensures.loads.domain_is global.loaded c.in_ok-group.ensures.loaded c.in_ok-count.ensures.loaded

pub returns-in_err-group-clause-asked : goal.returns-in_err-group-clause-asked
returns-in_err-group-clause-asked g c =
    asked_more c.args.cpu (g.G.Gate.said c.args.hands.now.gate.now) c.args.seats.now c.load_domain.new.seats c.load_group.new.seats c.load_domain.ensures.asked c.load_group.ensures.asked

pub returns-in_err-count-clause-asked : goal.returns-in_err-count-clause-asked
returns-in_err-count-clause-asked g c =
    asked_more c.args.cpu (g.G.Gate.said c.args.hands.now.gate.now) c.args.seats.now c.load_group.new.seats c.load_context.new.seats
    (asked_more c.args.cpu (g.G.Gate.said c.args.hands.now.gate.now) c.args.seats.now c.load_domain.new.seats c.load_group.new.seats c.load_domain.ensures.asked c.load_group.ensures.asked)
    c.load_context.ensures.asked

pub returns-clause-asked : goal.returns-clause-asked
returns-clause-asked g c =
    asked_more c.args.cpu (g.G.Gate.said c.args.hands.now.gate.now) c.args.seats.now c.load_group.new.seats c.load_context.new.seats
    (asked_more c.args.cpu (g.G.Gate.said c.args.hands.now.gate.now) c.args.seats.now c.load_domain.new.seats c.load_group.new.seats c.load_domain.ensures.asked c.load_group.ensures.asked)
    c.load_context.ensures.asked

pub returns-in_err-global-clause-part : goal.returns-in_err-global-clause-part
returns-in_err-global-clause-part g c = on_err _ _ (some_before c.args.hands.now.kit.now c.args.cpu (domain_steps c.args.cpu (Writer c.args.writer) 0) (group_steps c.args.cpu c.args.writer c.args.group ++ one (count (Writer c.args.writer) (Context c.args.context))) c.args.seats.now c.load_domain.new.seats
    (part_made c.args.hands.now.kit.now c.args.cpu (Writer c.args.writer) 0 c.args.seats.now c.load_domain.new.seats c.in_err-global.ensures.part))

pub returns-in_err-group-clause-part : goal.returns-in_err-group-clause-part
returns-in_err-group-clause-part g c = on_err _ _ (some_behind c.args.hands.now.kit.now c.args.cpu (domain_steps c.args.cpu (Writer c.args.writer) 0) (group_steps c.args.cpu c.args.writer c.args.group ++ one (count (Writer c.args.writer) (Context c.args.context))) c.args.seats.now c.load_domain.new.seats c.load_group.new.seats
    (domain_made c.args.hands.now.kit.now c.args.cpu (Writer c.args.writer) c.requires.writer.1 0 c.in_ok-global.global c.args.seats.now c.load_domain.new.seats c.in_ok-global.ensures.loads)
    (some_before c.args.hands.now.kit.now c.args.cpu (group_steps c.args.cpu c.args.writer c.args.group) (one (count (Writer c.args.writer) (Context c.args.context))) c.load_domain.new.seats c.load_group.new.seats c.in_err-group.ensures.part))

pub returns-in_err-count-clause-part : goal.returns-in_err-count-clause-part
returns-in_err-count-clause-part g c = on_err _ _ (some_behind c.args.hands.now.kit.now c.args.cpu (domain_steps c.args.cpu (Writer c.args.writer) 0) (group_steps c.args.cpu c.args.writer c.args.group ++ one (count (Writer c.args.writer) (Context c.args.context))) c.args.seats.now c.load_domain.new.seats c.load_context.new.seats
    (domain_made c.args.hands.now.kit.now c.args.cpu (Writer c.args.writer) c.requires.writer.1 0 c.in_ok-global.global c.args.seats.now c.load_domain.new.seats c.in_ok-global.ensures.loads)
    (some_behind c.args.hands.now.kit.now c.args.cpu (group_steps c.args.cpu c.args.writer c.args.group) (one (count (Writer c.args.writer) (Context c.args.context))) c.load_domain.new.seats c.load_group.new.seats c.load_context.new.seats c.in_ok-group.ensures.made c.in_err-count.ensures.part))

pub returns-clause-made : goal.returns-clause-made
returns-clause-made g c = each_more c.args.hands.now.kit.now c.args.cpu (domain_steps c.args.cpu (Writer c.args.writer) 0) (group_steps c.args.cpu c.args.writer c.args.group ++ one (count (Writer c.args.writer) (Context c.args.context))) c.args.seats.now c.load_domain.new.seats c.load_context.new.seats
    (domain_made c.args.hands.now.kit.now c.args.cpu (Writer c.args.writer) c.requires.writer.1 0 c.in_ok-global.global c.args.seats.now c.load_domain.new.seats c.in_ok-global.ensures.loads)
    (each_more c.args.hands.now.kit.now c.args.cpu (group_steps c.args.cpu c.args.writer c.args.group) (one (count (Writer c.args.writer) (Context c.args.context))) c.load_domain.new.seats c.load_group.new.seats c.load_context.new.seats c.in_ok-group.ensures.made c.in_ok-count.ensures.made)
