use Rattle.std.proofs.Common.{[]}
use Rattle.wbt_writer.proofs.Common.{setting, count, Context, asked_none, asked_once, once_made, one}
use Rattle.wbt_writer.proofs.Loading.{loaded_none}
use Rattle.wbt_writer.proofs.Reading.{context_loaded, may_load}
use Rattle.wbt_writer.proofs.loads.load_context.Goals as goal
use Rattle.wbt_grant.specs.declared.who.Who.TheVariants.{Writer}
use Rattle.std.proofs.Common.{arith, refl}
use Rattle.wbt_run_steps.proofs.Making.{count_made, some_none}

pub load_count-count-requires : goal.load_count-count-requires
load_count-count-requires g c = record {
  seats = c.requires.fits.seats_are;
  held = may_load c.args.cpu c.args.hands.now.kit.now c.args.writer c.args.seats.now c.requires.fits c.requires.writer;
  counter = c.requires.context.0;
}

pub returns-then-not-may_step-clause-some_loaded : goal.returns-then-not-may_step-clause-some_loaded
returns-then-not-may_step-clause-some_loaded g c = record { loads = []; triples = []; loaded = loaded_none (setting c.args.hands.now.kit.now.throttle.layout) c.args.cpu c.args.seats.now }

pub returns-clause-fits : goal.returns-clause-fits
returns-clause-fits g c =
    (context_loaded c.args.cpu c.args.hands.now.kit.now c.args.writer c.args.context c.load_count-count.result c.args.seats.now c.load_count-count.new.seats
    c.requires.fits c.requires.writer.1 c.requires.context.1 c.load_count-count.ensures.loads).fits

pub returns-clause-loaded : goal.returns-clause-loaded
returns-clause-loaded g c =
    (context_loaded c.args.cpu c.args.hands.now.kit.now c.args.writer c.args.context c.load_count-count.result c.args.seats.now c.load_count-count.new.seats
    c.requires.fits c.requires.writer.1 c.requires.context.1 c.load_count-count.ensures.loads).loaded

pub returns-then-not-may_step-clause-asked : goal.returns-then-not-may_step-clause-asked
returns-then-not-may_step-clause-asked g c = asked_none c.args.cpu (g.G.Gate.said c.args.hands.now.gate.now) c.args.seats.now c.args.seats.now refl

pub returns-clause-asked : goal.returns-clause-asked
returns-clause-asked g c =
    let n = c.load_count-count in
    asked_once c.args.cpu (g.G.Gate.said c.args.hands.now.gate.now) c.may_step.result c.args.seats.now n.new.seats c.may_step.ensures c.if-not-may_step.false
    (once_made (setting c.args.hands.now.kit.now.throttle.layout) (count (Writer c.args.writer) (Context c.args.context)) n.ensures.loads.found c.args.cpu c.args.seats.now n.new.seats
    c.requires.writer.1 c.requires.fits.held n.ensures.loads.makes)

pub returns-then-not-may_step-clause-part : goal.returns-then-not-may_step-clause-part
returns-then-not-may_step-clause-part g c = some_none c.args.hands.now.kit.now c.args.cpu (one (count (Writer c.args.writer) (Context c.args.context))) c.args.seats.now (omega arith)

pub returns-clause-made : goal.returns-clause-made
returns-clause-made g c = count_made c.args.hands.now.kit.now c.args.cpu (Writer c.args.writer) c.requires.writer.1 (Context c.args.context) c.load_count-count.result c.args.seats.now c.load_count-count.new.seats c.load_count-count.ensures.loads
