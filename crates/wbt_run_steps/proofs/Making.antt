-- Steps one after another.
use Rattle.std.proofs.Common.{◌≡◌, ℕ, ◌<◌, inl, inr, List, [], ◌∷◌, ◌++◌, length, map, refl, sym, ap, ◌∙◌, subst, arith, append_assoc}
use Rattle.std.proofs.lemmas.List.{length-append, map-append}
use Rattle.wbt_kit.proofs.Common.{Count, Counter, Domain, Step, count, first, limits, middle, cpu_for, maker_of, record_after, Setting, CpuRecord, Who, IsCutLoad, Made, record_of, at_once, after_first, after_middle, setting, put_record, Makes}
use Rattle.wbt_kit.specs.declared.kit.Kit.{Kit}
use Rattle.wbt_kit.specs.declared.kit.Seats.{Seats}
use Rattle.wbt_table.proofs.Granting.{put_there}
use Rattle.wbt_table.proofs.Paying.{both_logged, one_logged, still_logged}
use Rattle.wbt_table.proofs.Seating.{changes_twice}
use Rattle.wbt_run_steps.specs.Loads.{LoadsCount, LoadsDomain, LoadsPart}
use Rattle.wbt_run_steps.specs.Made.{MakesEach, MakesSome, MakesThese, domain_steps}
use Rattle.wbt_run_steps.specs.Records.{OnlyCpu}
use Rattle.wbt_run_steps.specs.declared.loads.DomainLoad.{DomainLoad}

record_append : (set : Setting) (a b : List Made) (r : CpuRecord) → record_of set (a ++ b) r ≡ record_of set b (record_of set a r)
record_append set [] b r = refl
record_append set (m ∷ a) b r = record_append set a b (record_after set m.step m.found r)

pub only_more : (old mid new : Seats) → OnlyCpu old mid → OnlyCpu mid new → OnlyCpu old new
only_more old mid new p q = record { share = q.share ∙ p.share; est = q.est ∙ p.est; queue = q.queue ∙ p.queue }

abbrev pub step_in : (made : Made) → Step
step_in made = made.step

module _ (kit : Kit) (cpu : ℕ) where
  abbrev set' : Setting
  set' = setting kit.throttle.layout

  -- ---- steps with what they found

  pub these_none : (seats : Seats) → MakesThese kit cpu [] seats seats
  these_none seats = record {
    becomes = record { table = refl; layout = refl; timer = refl; cpus = λ r has. put_there seats.cpu.cpus cpu r has };
    logs = still_logged set' cpu seats.cpu;
    only = record { share = refl; est = refl; queue = refl };
  }

  pub these_more : (a b : List Made) (old mid new : Seats) → MakesThese kit cpu a old mid → MakesThese kit cpu b mid new → MakesThese kit cpu (a ++ b) old new
  these_more a b old mid new p q =
      let both = changes_twice cpu (record_of set' a) (record_of set' b) old.cpu mid.cpu new.cpu p.becomes q.becomes in
      record {
        becomes = record {
          table = both.table;
          layout = both.layout;
          timer = both.timer;
          cpus = λ r has. both.cpus r has ∙ ap (λ (x : CpuRecord). put_record cpu x old.cpu.cpus) (sym (record_append set' a b r));
        };
        logs = both_logged set' cpu a b old.cpu mid.cpu new.cpu p.logs q.logs;
        only = only_more old mid new p.only q.only;
      }

  pub these_one : (step : Step) (n : ℕ) (old new : Seats) → maker_of set' step ≡ cpu → Makes set' step n old.cpu new.cpu → OnlyCpu old new
      → MakesThese kit cpu (record { step = step; found = n } ∷ []) old new
  these_one step n old new its makes only =
      subst (λ (c : ℕ). MakesThese kit c (record { step = step; found = n } ∷ []) old new) its (record {
        becomes = makes.changes;
        logs = one_logged set' (maker_of set' step) step n [] old.cpu new.cpu new.cpu makes.logs (still_logged set' (maker_of set' step) new.cpu);
        only = only;
      })

  -- ---- just these steps

  pub each_none : (seats : Seats) → MakesEach kit cpu [] seats seats
  each_none seats = record { made = []; steps_are = refl; makes = these_none seats }

  pub each_more : (a b : List Step) (old mid new : Seats) → MakesEach kit cpu a old mid → MakesEach kit cpu b mid new → MakesEach kit cpu (a ++ b) old new
  each_more a b old mid new p q = record {
    made = p.made ++ q.made;
    steps_are = map-append step_in p.made q.made ∙ (λ i. p.steps_are i ++ q.steps_are i);
    makes = these_more p.made q.made old mid new p.makes q.makes;
  }

  -- some of the later ones, after all of the first
  pub some_behind : (a b : List Step) (old mid new : Seats) → MakesEach kit cpu a old mid → MakesSome kit cpu b mid new → MakesSome kit cpu (a ++ b) old new
  some_behind a b old mid new p q = record {
    made = a ++ q.made;
    left = q.left;
    whole = ap (λ (l : List Step). a ++ l) q.whole ∙ sym (append_assoc a q.made q.left);
    some_left = q.some_left;
    makes = each_more a q.made old mid new p q.makes;
  }

  -- some of the first ones
  pub some_before : (a b : List Step) (old new : Seats) → MakesSome kit cpu a old new → MakesSome kit cpu (a ++ b) old new
  some_before a b old new p = record {
    made = p.made;
    left = p.left ++ b;
    whole = ap (λ (l : List Step). l ++ b) p.whole ∙ append_assoc p.made p.left b;
    some_left = (let some = p.some_left in let both = length-append p.left b in omega arith);
    makes = p.makes;
  }

  pub some_none : (steps : List Step) (seats : Seats) → 0 < length steps → MakesSome kit cpu steps seats seats
  some_none steps seats some = record { made = []; left = steps; whole = refl; some_left = some; makes = each_none seats }

  -- ---- loads

  module _ (who : Who) (its : cpu_for set' who ≡ cpu) where
    pub count_made : (x : Counter) (c : Count) (old new : Seats) → LoadsCount kit who x c old new → MakesEach kit cpu (count who x ∷ []) old new
    count_made x c old new loads = record {
      made = record { step = count who x; found = loads.found } ∷ [];
      steps_are = refl;
      makes = these_one (count who x) loads.found old new its loads.makes loads.only;
    }

    pub domain_made : (domain : ℕ) (load : DomainLoad) (old new : Seats) → LoadsDomain kit cpu who domain load old new
        → MakesEach kit cpu (domain_steps cpu who domain) old new
    domain_made domain load old new loads =
        each_more (first cpu domain ∷ middle cpu domain ∷ limits who domain ∷ []) (count who (Domain domain) ∷ []) old loads.between new
        (record { made = _; steps_are = refl; makes = loads.limits.makes })
        (count_made (Domain domain) load.count loads.between new loads.count)

  -- some of the steps that load limits are some of those that load a domain
  cut_made : (who : Who) (domain : ℕ) (made : List Made) (old new : Seats) → IsCutLoad cpu domain made → MakesThese kit cpu made old new
      → MakesSome kit cpu (domain_steps cpu who domain) old new
  cut_made who domain made old new (at_once is) makes = record {
    made = [];
    left = domain_steps cpu who domain;
    whole = refl;
    some_left = omega arith;
    makes = record { made = made; steps_are = ap (map step_in) is; makes = makes };
  }
  cut_made who domain made old new (after_first n is) makes = record {
    made = first cpu domain ∷ [];
    left = middle cpu domain ∷ limits who domain ∷ count who (Domain domain) ∷ [];
    whole = refl;
    some_left = omega arith;
    makes = record { made = made; steps_are = ap (map step_in) is; makes = makes };
  }
  cut_made who domain made old new (after_middle n m is) makes = record {
    made = first cpu domain ∷ middle cpu domain ∷ [];
    left = limits who domain ∷ count who (Domain domain) ∷ [];
    whole = refl;
    some_left = omega arith;
    makes = record { made = made; steps_are = ap (map step_in) is; makes = makes };
  }

  pub part_made : (who : Who) (domain : ℕ) (old new : Seats) → LoadsPart kit cpu who domain old new → MakesSome kit cpu (domain_steps cpu who domain) old new
  part_made who domain old new (inl some) = cut_made who domain some.made old new some.cut some.makes
  part_made who domain old new (inr all) = record {
    made = first cpu domain ∷ middle cpu domain ∷ limits who domain ∷ [];
    left = count who (Domain domain) ∷ [];
    whole = refl;
    some_left = omega arith;
    makes = record { made = _; steps_are = refl; makes = all.1.makes };
  }
