-- Single loads of a writer, as seats show them.
use Rattle.std.proofs.Common.{◌≡◌, ℕ, ◌<◌, inl, inr, [], ◌∷◌, length, refl, sym, ap, ◌∙◌, subst}
use Rattle.wbt_writer.proofs.Common.{Count, Counter, Domain, count, record_after, Setting, held_of, CpuRecord, setting, Has, Changes, Triple, Context, Kit, Seats, held_as, DomainLoad, record_is, Fits, record_in, Gets, LoadedSome}
use Rattle.wbt_kit.proofs.Common.{version_in, NoneAhead, record_of, whole_load}
use Rattle.wbt_grant.specs.declared.who.Who.TheVariants.{Writer}
use Rattle.wbt_run_steps.specs.Loads.{HoldsLoader, LoadsCount, LoadsDomain, LoadsLimits, LoadsPart, LoadsSome}
use Rattle.wbt_writer.specs.Loads.{LoadedContext, LoadedCount, LoadedDomain, LoadedLimits}
use Rattle.wbt_writer.proofs.Changing.{Changed, changed}
use Rattle.wbt_writer.proofs.Loading.{context_by, count_by, domain_by, gets_cut, limits_by}

pub record LimitsLoaded (cpu : ℕ) (kit : Kit) (w d : ℕ) (triple : Triple) (old new : Seats) : Type 0 where
  pub fits : Fits cpu kit new
  pub loaded : LoadedLimits (setting kit.throttle.layout) cpu w d triple old new

pub record CountLoaded (cpu : ℕ) (kit : Kit) (w d : ℕ) (c : Count) (old new : Seats) : Type 0 where
  pub fits : Fits cpu kit new
  pub loaded : LoadedCount (setting kit.throttle.layout) cpu w d c old new

pub record ContextLoaded (cpu : ℕ) (kit : Kit) (w k : ℕ) (c : Count) (old new : Seats) : Type 0 where
  pub fits : Fits cpu kit new
  pub loaded : LoadedContext (setting kit.throttle.layout) cpu w k c old new

pub record DomainLoaded (cpu : ℕ) (kit : Kit) (w : ℕ) (load : DomainLoad) (old new : Seats) : Type 0 where
  pub fits : Fits cpu kit new
  pub loaded : LoadedDomain (setting kit.throttle.layout) cpu w load old new

pub record PartLoaded (cpu : ℕ) (kit : Kit) (old new : Seats) : Type 0 where
  pub fits : Fits cpu kit new
  pub some : LoadedSome (setting kit.throttle.layout) cpu old new

-- no version is ahead of that of the CPU's record
newest_in : (cpu : ℕ) (kit : Kit) (x : Counter) (version : ℕ) (seats : Seats) → Fits cpu kit seats → ((r : CpuRecord) → Has seats.cpu.cpus cpu r → NoneAhead version x r) → NoneAhead version x (record_in cpu seats)
newest_in cpu kit x version seats fits newest = subst (NoneAhead version x) (sym (record_is seats.cpu.cpus cpu fits.held.0 fits.held.1)) (newest fits.held.0 fits.held.1)

module _ (cpu : ℕ) (kit : Kit) (w : ℕ) where
  abbrev set' : Setting
  set' = setting kit.throttle.layout

  -- its CPU is held
  pub may_load : (seats : Seats) → Fits cpu kit seats → (w < length kit.throttle.layout.writers) × (set'.seat w ≡ cpu) → HoldsLoader kit (Writer w) seats
  may_load seats fits own = record { no_timer = refl; held = (own.0, (fits.held.0, subst (λ (i : ℕ). Has seats.cpu.cpus i fits.held.0) (sym own.1) fits.held.1)) }

  pub limits_loaded : (d : ℕ) (triple : Triple) (old new : Seats) → Fits cpu kit old → LoadsLimits kit cpu (Writer w) d triple old new → LimitsLoaded cpu kit w d triple old new
  limits_loaded d triple old new fits loads =
      let f = record_of set' (whole_load (Writer w) cpu d loads.first loads.thresh loads.second) in
      let by : Changed cpu kit f old new = changed cpu kit f old new fits loads.makes.only loads.makes.becomes in
      let now = loads.held in
      let held : held_of set' d (record_in cpu new).triples ≡ held_as d triple =
      ap (λ (r : CpuRecord). held_of set' d r.triples) (record_is new.cpu.cpus cpu now.0 now.1) ∙ now.2 in
      record { fits = by.fits; loaded = limits_by set' cpu w d loads.first loads.thresh loads.second triple old new by.on by.becomes held }

  none_ahead : (x : Counter) (c : Count) (old new : Seats) → Fits cpu kit old → set'.seat w ≡ cpu → (loads : LoadsCount kit (Writer w) x c old new) → NoneAhead (version_in loads.found) x (record_in cpu old)
  none_ahead x c old new fits its loads = newest_in cpu kit x (version_in loads.found) old fits
      (λ r has. subst (λ (v : ℕ). NoneAhead v x r) (ap (λ (z : Count). z.version) loads.is_found) (loads.newest r (subst (λ (i : ℕ). Has old.cpu.cpus i r) (sym its) has)))

  pub count_loaded : (d : ℕ) (c : Count) (old new : Seats) → Fits cpu kit old → set'.seat w ≡ cpu → LoadsCount kit (Writer w) (Domain d) c old new → CountLoaded cpu kit w d c old new
  count_loaded d c old new fits its loads =
      let f = record_after set' (count (Writer w) (Domain d)) loads.found in
      let by : Changed cpu kit f old new = changed cpu kit f old new fits loads.only (subst (λ (i : ℕ). Changes i f old.cpu new.cpu) its loads.makes.changes) in
      record { fits = by.fits; loaded = count_by set' cpu w loads.found old new by.on d c loads.is_found (none_ahead (Domain d) c old new fits its loads) by.becomes }

  pub context_loaded : (k : ℕ) (c : Count) (old new : Seats) → Fits cpu kit old → set'.seat w ≡ cpu → set'.works_in w ≡ k → LoadsCount kit (Writer w) (Context k) c old new
      → ContextLoaded cpu kit w k c old new
  context_loaded k c old new fits its works loads =
      let f = record_after set' (count (Writer w) (Context k)) loads.found in
      let by : Changed cpu kit f old new = changed cpu kit f old new fits loads.only (subst (λ (i : ℕ). Changes i f old.cpu new.cpu) its loads.makes.changes) in
      record { fits = by.fits; loaded = context_by set' cpu w loads.found old new by.on k c works loads.is_found (none_ahead (Context k) c old new fits its loads) by.becomes }

  pub domain_loaded : (d : ℕ) (load : DomainLoad) (old new : Seats) → Fits cpu kit old → set'.seat w ≡ cpu → LoadsDomain kit cpu (Writer w) d load old new → DomainLoaded cpu kit w load old new
  domain_loaded d load old new fits its loads =
      let mid = loads.between in
      let triple : Triple = record { version = load.version; limits = load.limits } in
      let limits_here : LoadsLimits kit cpu (Writer w) load.domain triple old mid = subst (λ (n : ℕ). LoadsLimits kit cpu (Writer w) n triple old mid) (sym loads.domain_is) loads.limits in
      let count_here : LoadsCount kit (Writer w) (Domain load.domain) load.count mid new = subst (λ (n : ℕ). LoadsCount kit (Writer w) (Domain n) load.count mid new) (sym loads.domain_is) loads.count in
      let l = limits_loaded load.domain triple old mid fits limits_here in
      let k = count_loaded load.domain load.count mid new l.fits its count_here in
      record { fits = k.fits; loaded = domain_by set' cpu w load old mid new l.loaded k.loaded }

  -- where the gate stopped it
  some_loaded : (d : ℕ) (old new : Seats) → Fits cpu kit old → LoadsSome kit cpu d old new → PartLoaded cpu kit old new
  some_loaded d old new fits loads =
      let f = record_of set' loads.made in
      let by : Changed cpu kit f old new = changed cpu kit f old new fits loads.makes.only loads.makes.becomes in
      record {
        fits = by.fits;
        some = record {
          loads = [];
          triples = [];
          loaded = record {
            on = by.on;
            gets = subst (λ (r : CpuRecord). Gets set' [] [] (record_in cpu old) r) (sym by.becomes) (gets_cut set' cpu d loads.made (record_in cpu old) loads.cut);
          };
        };
      }

  pub part_loaded : (d : ℕ) (old new : Seats) → Fits cpu kit old → LoadsPart kit cpu (Writer w) d old new → PartLoaded cpu kit old new
  part_loaded d old new fits (inl some) = some_loaded d old new fits some
  part_loaded d old new fits (inr all) =
      let l = limits_loaded d all.0 old new fits all.1 in
      record { fits = l.fits; some = record { loads = []; triples = held_as d all.0 ∷ []; loaded = l.loaded.loaded } }
