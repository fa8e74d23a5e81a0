use Rattle.std.proofs.Common.{[], List, eq-eqb, ne_eqb, eqb, refl, subst, sym}
use Rattle.std.proofs.lemmas.Bool.{cond-false, cond-true}
use Rattle.wbt_writer.proofs.Common.{setting, MakesEach, MakesSome, domain_steps, asked_none}
use Rattle.wbt_kit.proofs.Common.{Step}
use Rattle.wbt_grant.specs.declared.who.Who.TheVariants.{Writer}
use Rattle.wbt_run_steps.proofs.Making.{domain_made, each_none, part_made}
use Rattle.wbt_writer.proofs.Erring.{on_err}
use Rattle.wbt_writer.proofs.Loading.{some_group}
use Rattle.wbt_writer.proofs.Reading.{domain_loaded, may_load, part_loaded}
use Rattle.wbt_writer.proofs.loads.load_group.Goals as goal

pub load_domain-requires : goal.load_domain-requires
load_domain-requires g c = record {
  seats = c.requires.fits.seats_are;
  its = c.requires.writer.1;
  held = may_load c.args.cpu c.args.hands.now.kit.now c.args.writer c.args.seats.now c.requires.fits c.requires.writer;
  domain = c.requires.group;
}

pub returns-in_err-load-clause-fits : goal.returns-in_err-load-clause-fits
returns-in_err-load-clause-fits g c = (part_loaded c.args.cpu c.args.hands.now.kit.now c.args.writer c.args.group c.args.seats.now c.load_domain.new.seats
    c.requires.fits c.in_err-load.ensures.part).fits

pub returns-in_err-load-clause-some_loaded : goal.returns-in_err-load-clause-some_loaded
returns-in_err-load-clause-some_loaded g c = on_err _ _ (part_loaded c.args.cpu c.args.hands.now.kit.now c.args.writer c.args.group c.args.seats.now c.load_domain.new.seats
    c.requires.fits c.in_err-load.ensures.part).some

pub returns-clause-fits : goal.returns-clause-fits
returns-clause-fits g c = (domain_loaded c.args.cpu c.args.hands.now.kit.now c.args.writer c.args.group c.in_ok-load.load c.args.seats.now c.load_domain.new.seats
    c.requires.fits c.requires.writer.1 c.in_ok-load.ensures.loads).fits

pub returns-clause-loaded : goal.returns-clause-loaded
returns-clause-loaded g c = some_group (setting c.args.hands.now.kit.now.throttle.layout) c.args.cpu c.args.writer c.args.group c.in_ok-load.load c.args.seats.now c.load_domain.new.seats
    c.if-group-eq0.false c.in_ok-load.ensures.loads.domain_is
    (domain_loaded c.args.cpu c.args.hands.now.kit.now c.args.writer c.args.group c.in_ok-load.load c.args.seats.now c.load_domain.new.seats
    c.requires.fits c.requires.writer.1 c.in_ok-load.ensures.loads).loaded

pub returns-then-group-eq0-clause-asked : goal.returns-then-group-eq0-clause-asked
returns-then-group-eq0-clause-asked g c = asked_none c.args.cpu (g.G.Gate.said c.args.hands.now.gate.now) c.args.seats.now c.args.seats.now refl

pub returns-then-group-eq0-clause-made : goal.returns-then-group-eq0-clause-made
returns-then-group-eq0-clause-made g c = subst (λ (l : List Step). MakesEach c.args.hands.now.kit.now c.args.cpu l c.args.seats.now c.args.seats.now)
    (sym (cond-true (eqb c.args.group 0) [] (domain_steps c.args.cpu (Writer c.args.writer) c.args.group) (eq-eqb c.args.group 0 c.if-group-eq0.true))) (each_none c.args.hands.now.kit.now c.args.cpu c.args.seats.now)

pub returns-in_err-load-clause-part : goal.returns-in_err-load-clause-part
returns-in_err-load-clause-part g c = on_err _ _ (subst (λ (l : List Step). MakesSome c.args.hands.now.kit.now c.args.cpu l c.args.seats.now c.load_domain.new.seats)
    (sym (cond-false (eqb c.args.group 0) [] (domain_steps c.args.cpu (Writer c.args.writer) c.args.group) (ne_eqb c.args.group 0 c.if-group-eq0.false)))
    (part_made c.args.hands.now.kit.now c.args.cpu (Writer c.args.writer) c.args.group c.args.seats.now c.load_domain.new.seats c.in_err-load.ensures.part))

pub returns-clause-made : goal.returns-clause-made
returns-clause-made g c = subst (λ (l : List Step). MakesEach c.args.hands.now.kit.now c.args.cpu l c.args.seats.now c.load_domain.new.seats)
    (sym (cond-false (eqb c.args.group 0) [] (domain_steps c.args.cpu (Writer c.args.writer) c.args.group) (ne_eqb c.args.group 0 c.if-group-eq0.false)))
    (domain_made c.args.hands.now.kit.now c.args.cpu (Writer c.args.writer) c.requires.writer.1 c.args.group c.in_ok-load.load c.args.seats.now c.load_domain.new.seats c.in_ok-load.ensures.loads)
