-- What a flusher knows of its trace suits the kit, and it fits its CPU's part.
use Rattle.std.proofs.Common.{◌≡◌, ⊎_elim, ℕ, zero, suc, ◌+◌, ◌<◌, ◌≤◌, List, [], ◌∷◌, length, get_or, slice_get, Some, None, refl, sym, ap, ◌∙◌, subst, arith, eqb-true, false}
use Rattle.std.proofs.lemmas.Bool.{cases_lt}
use Rattle.std.proofs.lemmas.List.{get_or-map, get_or_past, length-map}
use Rattle.std.proofs.lemmas.Option.{get_or_from_slice_get}
use mathlib.Core.Option.{some-injective, some-ne-none}
use Rattle.wbt_kit.proofs.Common.{no_record, CpuRecord, MOST_PAGE_STEPS, opening, with_right, Known, Cpus, Has, none_some, IsLawful, least_shares, Context, FlusherLine, Trace, domains, pages, first_estimates, flusher_device, IsKitOf, layout_of, homes_of, first_cpu}
use Rattle.wbt_trace.specs.Lawful.{IsDevice, IsFlusher}
use Rattle.wbt_rules.specs.Things.{first_flusher}
use Rattle.wbt_kit.specs.declared.kit.Kit.{Kit}
use Rattle.wbt_kit.proofs.Laid.{firsts_long}
use Rattle.wbt_flusher.specs.Did.{IsMeasured}
use Rattle.wbt_flusher.specs.Plans.{IsPlan, IsPlanOf, Suits}
use Rattle.wbt_flusher.specs.Sights.{completions, held_cpus}
use Rattle.wbt_flusher.specs.declared.plan.FlusherPlan.{FlusherPlan}
use Rattle.wbt_run_seats.specs.Opened.{PlanSuits, FlusherFits, FlusherHasRooms}
use Rattle.wbt_run_seats.specs.Parts.{owner_of}
use Rattle.wbt_run_seats.proofs.Firsts.{first_held, first_has_totals, first_knows}
use Rattle.wbt_run_seats.proofs.Opening.{kit_is_opened, enough_pages, home_there}
use Rattle.wbt_run_seats.proofs.Plans.{no_inode, inode_is, page_lies, ends_within, leads_there}

-- ---- look-ups

-- what stands at a number of a list
pub found_there : {X : Type 0} (xs : List X) (k : ℕ) (x d : X) → slice_get xs k ≡ Some x → (k < length xs) × (get_or xs k d ≡ x)
found_there [] k x d e = absurd (none_is e)
  where
    none_is : None ≡ Some x → ⊥
    none_is f = cc
found_there (y ∷ xs) zero x d e = (omega arith, (let f = e in cc))
found_there (y ∷ xs) (suc k) x d e = let rest = found_there xs k x d e in (omega (arith, rest.0), rest.1)

abbrev no_context : Context
no_context = record { device = 0; domain = 0; expire = None; estimate = None }

-- ---- the plan

module _ (trace : Trace) (now : ℕ) (lawful : IsLawful trace) (kit : Kit) (is : IsKitOf trace now kit) (plan : FlusherPlan) (of : IsPlanOf trace plan)
    (has_pages : plan.pages ≡ pages trace) (has_totals : length kit.shares.homes ≤ kit.shares.totals.contexts) where
  -- the plan by its trace, and the kit by its
  abbrev plain : FlusherPlan
  plain = record {
    flusher = plan.flusher;
    cpu = plan.cpu;
    device = plan.device;
    leads = plan.leads;
    ages = plan.ages;
    domains = domains trace;
    pages = pages trace;
    inodes = trace.inodes;
    contexts = trace.contexts;
    shares = plan.shares;
    least_shares = least_shares trace.devices;
  }

  same_plan : plain ≡ plan
  same_plan = λ i. record {
    flusher = plan.flusher;
    cpu = plan.cpu;
    device = plan.device;
    leads = plan.leads;
    ages = plan.ages;
    domains = sym of.domains_are i;
    pages = sym has_pages i;
    inodes = sym of.inodes i;
    contexts = sym of.contexts i;
    shares = plan.shares;
    least_shares = sym of.least i;
  }

  abbrev named : Kit
  named = record kit { throttle = record kit.throttle { layout = layout_of trace now }; shares = record kit.shares { homes = homes_of trace } }

  same_kit : named ≡ kit
  same_kit = λ i. record kit { throttle = record kit.throttle { layout = sym is.layout i }; shares = record kit.shares { homes = sym is.homes i } }

  its_line : (plan.flusher < length trace.flushers) × (get_or trace.flushers plan.flusher (record { device = 0; cpu = 0 }) ≡ record { device = plan.device; cpu = plan.cpu })
  its_line = found_there trace.flushers plan.flusher (record { device = plan.device; cpu = plan.cpu }) (record { device = 0; cpu = 0 }) of.line

  its_flusher : (plan.device < length trace.devices) × (plan.cpu < trace.cpus)
  its_flusher = subst (IsFlusher (length trace.devices) trace.cpus) its_line.1 (lawful.within.flushers plan.flusher (record { device = 0; cpu = 0 }) its_line.0)

  its_device : IsDevice plan.shares
  its_device =
      let there = found_there trace.devices plan.device plan.shares (record { rate = 0; min = 0; max = 0; strict = false; chunk = None; cyclic = false }) of.shares in
      subst IsDevice there.1 (lawful.within.devices.each plan.device (record { rate = 0; min = 0; max = 0; strict = false; chunk = None; cyclic = false }) there.0)

  is_plan : IsPlan plain
  is_plan = record {
    some_domain = omega arith;
    few_domains = omega (arith, lawful.within.few_cgroups);
    few_contexts = lawful.within.few_contexts;
    groups = λ context less. let in_range = (lawful.within.contexts context no_context less).1 in omega arith;
    contexts = λ inode less. (lawful.within.inodes.each inode no_inode less).0;
    pages = λ inode less. omega (arith, ends_within 0 trace.inodes inode no_inode lawful.within.inodes.firsts less, enough_pages trace now lawful);
    some_page = λ inode less. omega (arith, (lawful.within.inodes.each inode no_inode less).1);
    few_pages = lawful.within.inodes.total;
    few_inodes = omega (arith, lawful.within.inodes.few);
    expires = λ context less. (lawful.within.contexts context no_context less).2;
    shares = its_device.shares;
    chunk = its_device.chunk;
    least = lawful.within.devices.shares;
  }

  suits_named : Suits plain named
  suits_named =
      let opened = kit_is_opened trace now kit lawful is in
      let long = length-map trace.contexts (λ (c : Context). c.domain) in
      record {
        plan_is = is_plan;
        cpu = its_flusher.1;
        domains_are = sym (firsts_long trace now (domains trace));
        shared_domains = sym is.domains_are;
        contexts_are = sym long;
        homes_are = sym long;
        groups = λ context less. get_or-map (λ (c : Context). c.domain) trace.contexts context no_context 0 less;
        totals = subst (λ (l : List ℕ). length l ≤ kit.shares.totals.contexts) is.homes has_totals;
        published = sym is.contexts_are;
        inodes_are = sym (length-map trace.inodes _);
        pages_are = sym (enough_pages trace now lawful);
        its_pages = λ inode page less from to. inode_is 0 trace.inodes inode page no_inode lawful.within.inodes.firsts less from to;
        no_others = λ inode page less low lies.
            let there = page_lies 0 trace.inodes page lawful.within.inodes.firsts (omega arith) (omega (arith, enough_pages trace now lawful)) in (
              subst (λ (k : ℕ). (get_or trace.inodes k no_inode).first ≤ page) lies (there.from no_inode),
              subst (λ (k : ℕ). page < (get_or trace.inodes k no_inode).first + (get_or trace.inodes k no_inode).pages) lies (there.to no_inode),
            );
        counted = λ page less. omega (arith, home_there trace now lawful page less, long);
        counted_in = λ context less.
            let domain = lawful.within.contexts context no_context (omega (arith, long)) in
            let same = get_or-map (λ (c : Context). c.domain) trace.contexts context no_context 0 (omega (arith, long)) in
            omega (arith, domain.1, same, firsts_long trace now (domains trace));
        few_page_steps = omega arith;
        device = omega (arith, its_flusher.0, opened.devices_are);
      }

  pub its_suits : Suits plan kit
  its_suits = subst (λ (p : FlusherPlan). Suits p kit) same_plan (subst (λ (k : Kit). Suits plain k) same_kit suits_named)

pub plan_suits : PlanSuits
plan_suits trace now kit first plan lawful is seats are of has_pages = (
  its_suits trace now lawful kit is plan of has_pages (first_has_totals kit first seats are),
  record {
    plan_is = of;
    throttle = (kit_is_opened trace now kit lawful is).throttle;
    firsts = is.firsts ∙ ap (first_estimates trace) (sym is.moment);
  },
)

-- ---- its CPU's part

owner_is : (trace : Trace) (now : ℕ) (kit : Kit) (plan : FlusherPlan) (context : ℕ) → IsKitOf trace now kit → IsPlanOf trace plan → IsMeasured plan context
    → context < length kit.published.names → owner_of kit context ≡ plan.cpu
owner_is trace now kit plan context is of measured low =
    let there : context < length trace.contexts = omega (arith, is.contexts_are) in
    let its : flusher_device trace plan.flusher ≡ plan.device = ap (λ (l : FlusherLine). l.device) (get_or_from_slice_get trace.flushers plan.flusher (record { device = plan.device; cpu = plan.cpu }) (record { device = 0; cpu = 0 }) of.line) in
    let device = ap (λ (l : List Context). (get_or l context no_context).device) (sym of.contexts) ∙ measured.of_device in
    ap (λ (l : List ℕ). get_or l context 0) is.owners
    ∙ get_or-map (λ (c : Context). first_cpu c.device trace.flushers) trace.contexts context no_context 0 there
    ∙ ap (λ (d : ℕ). first_cpu d trace.flushers) device
    ∙ leads_there plan.device 0 plan.flusher plan.cpu trace.flushers of.line (ap (λ (d : ℕ). first_flusher d 0 trace.flushers) (sym its) ∙ eqb-true _ _ (sym of.leads ∙ measured.leads) ∙ (let n : plan.flusher ≡ 0 + plan.flusher = omega arith in n))

pub flusher_fits : FlusherFits
flusher_fits trace now kit first part plan lawful is are of part_is = record {
  seats_are = part_is.seats_are;
  held = part_is.holds.held;
  publishes = λ context measured. ⊎_elim
      (λ low. ap (λ (k : Known). k.publishes) (part_is.owned context low (owner_is trace now kit plan context is of measured low) ∙ ap with_right (first_knows kit first context are low)))
      (λ high. ap (λ (k : Known). k.publishes) (get_or_past part.est.known context opening (omega (arith, part_is.seats_are.each_context))))
      (cases_lt context (length kit.published.names));
}

-- ---- rooms

none_held : (l : Cpus) → ((c : ℕ) (r : CpuRecord) → Has l c r → ⊥) → held_cpus l ≡ 0
none_held [] none = refl
none_held (None ∷ l) none = none_held l (λ c r has. none (suc c) r has)
none_held (Some q ∷ l) none = absurd (none 0 q refl)

pub one_held : (l : Cpus) (c : ℕ) (r : CpuRecord) → Has l c r → ((d : ℕ) (q : CpuRecord) → Has l d q → d ≡ c) → held_cpus l ≡ 1
one_held [] c r has alone = absurd (some-ne-none (Some r) (sym has))
one_held (None ∷ l) zero r has alone = absurd (none_some r (some-injective None (Some r) has))
one_held (Some q ∷ l) zero r has alone = let rest = none_held l (λ d p there. let e = alone (suc d) p there in absurd (omega arith)) in omega arith
one_held (None ∷ l) (suc c) r has alone = one_held l c r has (λ d q there. let e = alone (suc d) q there in omega arith)
one_held (Some q ∷ l) (suc c) r has alone = let e = alone 0 q refl in absurd (omega arith)

same_record : (l : Cpus) (c : ℕ) (q r : CpuRecord) → Has l c q → Has l c r → q ≡ r
same_record l c q r hasq hasr = let e = some-injective _ _ (sym hasq ∙ hasr) in cc

done_nothing : completions no_record ≤ 0
done_nothing = omega arith

pub flusher_has_rooms : FlusherHasRooms
flusher_has_rooms trace now kit first part plan work lawful is seats are of part_is owes =
    let line = found_there trace.flushers plan.flusher (record { device = plan.device; cpu = plan.cpu }) (record { device = 0; cpu = 0 }) of.line in
    let there = subst (IsFlusher (length trace.devices) trace.cpus) line.1 (lawful.within.flushers plan.flusher (record { device = 0; cpu = 0 }) line.0) in
    let held = part_is.same no_record (first_held trace now kit first is seats are plan.cpu there.1) in
    let alone = part_is.holds.alone in
    let one = one_held part.cpu.cpus plan.cpu no_record held alone in
    let is_record = λ (c : ℕ) (r : CpuRecord) (has : Has part.cpu.cpus c r). same_record part.cpu.cpus plan.cpu no_record r held (subst (λ (n : ℕ). Has part.cpu.cpus n r) (alone c r has) has) in
    let has_totals = first_has_totals kit first seats are in
    let many = ap (λ (l : List Context). length l) of.contexts in
    let homes = ap (λ (l : List ℕ). length l) is.homes in
    let long = length-map trace.contexts (λ (c : Context). c.domain) in
    record {
      counted = record {
        each = λ c r has. subst (λ (x : CpuRecord). completions x ≤ x.page_steps) (is_record c r has) done_nothing;
        few = λ c r has. subst (λ (x : CpuRecord). x.page_steps ≤ MOST_PAGE_STEPS) (is_record c r has) (omega arith);
      };
      rooms = λ domain low.
          let nothing = owes.shares domain low in
          let room = part_is.rooms domain (omega (arith, low, of.domains_are, is.domains_are)) in
          omega arith;
      totals = λ context low.
          let nothing = owes.totals context low in
          let room = part_is.totals context (omega (arith, low, many, homes, long, has_totals)) in
          omega arith;
    }
