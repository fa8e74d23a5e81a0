use Rattle.std.proofs.Common.{ℕ, ◌<◌, [], ◌∷◌, ap, refl, subst}
use Rattle.wbt_flusher.proofs.Common.{Domain, Triple, load_of, triple_of, DomainLoad}
use Rattle.wbt_flusher.proofs.Fitting.{loaded_domain, loaded_limits, loaded_part, may_load}
use Rattle.wbt_flusher.proofs.Loading.{count_loaded, limits_loaded, loaded_more}
use Rattle.wbt_flusher.proofs.plan.FlusherPlan.read.Goals as goal

pub load_domain-requires : goal.load_domain-requires
load_domain-requires g c = record {
  seats = c.requires.fits.seats_are;
  its = refl;
  held = may_load c.args.self.now c.args.hands.now.kit.now c.args.seats.now c.requires.suits c.requires.fits;
  domain = subst (λ (n : ℕ). c.args.domain < n) c.requires.suits.domains_are c.requires.domain;
}

pub returns-in-Err-clause-goes : goal.returns-in-Err-clause-goes
returns-in-Err-clause-goes g c = (loaded_part c.args.self.now c.args.hands.now.kit.now c.args.domain c.args.seats.now c.load_domain.new.seats c.requires.fits c.in-Err.ensures.part).goes

pub returns-in-Err-clause-fits : goal.returns-in-Err-clause-fits
returns-in-Err-clause-fits g c = (loaded_part c.args.self.now c.args.hands.now.kit.now c.args.domain c.args.seats.now c.load_domain.new.seats c.requires.fits c.in-Err.ensures.part).fits

pub returns-in-Err-clause-debts : goal.returns-in-Err-clause-debts
returns-in-Err-clause-debts g c = (loaded_part c.args.self.now c.args.hands.now.kit.now c.args.domain c.args.seats.now c.load_domain.new.seats c.requires.fits c.in-Err.ensures.part).debts

pub returns-in-Ok-clause-goes : goal.returns-in-Ok-clause-goes
returns-in-Ok-clause-goes g c =
    (loaded_domain c.args.self.now c.args.hands.now.kit.now c.args.domain c.args.seats.now c.load_domain.new.seats c.requires.fits c.in-Ok.load c.in-Ok.ensures.loads).goes

pub returns-in-Ok-clause-fits : goal.returns-in-Ok-clause-fits
returns-in-Ok-clause-fits g c =
    (loaded_domain c.args.self.now c.args.hands.now.kit.now c.args.domain c.args.seats.now c.load_domain.new.seats c.requires.fits c.in-Ok.load c.in-Ok.ensures.loads).fits

pub returns-in-Ok-clause-debts : goal.returns-in-Ok-clause-debts
returns-in-Ok-clause-debts g c =
    (loaded_domain c.args.self.now c.args.hands.now.kit.now c.args.domain c.args.seats.now c.load_domain.new.seats c.requires.fits c.in-Ok.load c.in-Ok.ensures.loads).debts

pub returns-in-Ok-clause-reads : goal.returns-in-Ok-clause-reads
returns-in-Ok-clause-reads g c =
    let plan = c.args.self.now in
    let kit = c.args.hands.now.kit.now in
    let s0 = c.args.seats.now in
    let s2 = c.load_domain.new.seats in
    let load = c.in-Ok.load in
    let loads = c.in-Ok.ensures.loads in
    let limits : Triple = record { version = load.version; limits = load.limits } in
    let fits = (loaded_limits plan kit s0 loads.between c.requires.fits c.args.domain limits loads.limits).fits in
    let here : DomainLoad = record { domain = c.args.domain; version = load.version; limits = load.limits; count = load.count } in
    record {
      load = here;
      domain_is = refl;
      read_is = ap (λ (n : ℕ). record { limits = load.limits; dirty = n }) c.reading.ensures;
      loaded = loaded_more plan [] (load_of here ∷ []) (triple_of here ∷ []) [] s0 loads.between s2
          (limits_loaded plan kit s0 loads.between c.requires.fits c.args.domain limits loads.limits)
          (count_loaded plan kit loads.between s2 fits (Domain c.args.domain) load.count loads.count);
    }
