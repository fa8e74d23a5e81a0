-- Whatever lines lead to can be decided.
use Rattle.std.proofs.Common.{◌≡◌, inl, inr, ℕ, ◌+◌, ◌^◌, ◌==◌, ◌||◌, Bool, true, false, nat_lt, if◌then◌else◌, List, [], ◌∷◌, length, Result, Ok, Err, IfOk, refl, subst, arith}
use Rattle.wbt_num.specs.Limits.{IsLawful}
use Rattle.wbt_num.specs.declared.limits.TheConstants.{MAX_LIMIT}
use Rattle.wbt_position.specs.declared.ratio.DomainRead.{DomainRead}
use Rattle.wbt_text.specs.Reading.{Lead, Ends}
use Rattle.wbt_trace_text.specs.declared.fault.TraceFault.{TraceFault}
use Rattle.wbt_trace_text.specs.declared.fault.TraceFault.TheVariants as fault
use Rattle.wbt_trace_text.proofs.Tests.{left_off, right_off, not_below, not_none}
use Rattle.wbt_law.specs.Accept.{law_with, with_cpus, with_cap, with_now, with_task, with_estimate, with_context, domain_from, is_out_of_range, put_global, put_cgroup, and_next, unless}
use Rattle.wbt_law.specs.Draft.{start, rates_of}
use Rattle.wbt_law.specs.Law.{IsDecidable}
use Rattle.wbt_law.specs.Reading.{laws, IsAnswer}
use Rattle.wbt_law.specs.Rows.{may_end, next}
use Rattle.wbt_law.specs.declared.accept.Refusal.{Refusal}
use Rattle.wbt_law.specs.declared.accept.Refusal.TheVariants.{OutOfRange}
use Rattle.wbt_law.specs.declared.input.Draft.{Draft}
use Rattle.wbt_law.specs.declared.input.LawInput.{LawInput}
use Rattle.wbt_law.specs.declared.place.Place.{Place}
use Rattle.wbt_law.specs.declared.place.Place.TheVariants as place

-- a law in range can be decided
unless_fits : (b : Bool) (law : LawInput) → (b ≡ false → IsDecidable law) → IfOk (unless b law) (λ l. IsDecidable l)
unless_fits true law fits = tt
unless_fits false law fits = fits refl

cpus_fit : (ns : List ℕ) (law : LawInput) → IsDecidable law → IfOk (with_cpus ns law) (λ l. IsDecidable l)
cpus_fit [] law fits = tt
cpus_fit (n ∷ m ∷ ns) law fits = tt
cpus_fit (n ∷ []) law fits = unless_fits (n == 0 || nat_lt 64 n) (record law { reads = record law.reads { cpus = n } }) (λ off. record {
  reads = record {
    limits = fits.reads.limits;
    pages = fits.reads.pages;
    cpus = (not_none n (left_off (n == 0) (nat_lt 64 n) off), not_below 64 n (right_off (n == 0) (nat_lt 64 n) off));
    cap = fits.reads.cap;
  };
  estimate = fits.estimate;
  task = fits.task;
  moment = fits.moment;
})

cap_fits : (ns : List ℕ) (law : LawInput) → IsDecidable law → IfOk (with_cap ns law) (λ l. IsDecidable l)
cap_fits [] law fits = tt
cap_fits (n ∷ m ∷ ns) law fits = tt
cap_fits (n ∷ []) law fits = unless_fits (n == 0 || nat_lt 1024 n) (record law { reads = record law.reads { cap = n } }) (λ off. record {
  reads = record { limits = fits.reads.limits; pages = fits.reads.pages; cpus = fits.reads.cpus; cap = not_none n (left_off (n == 0) (nat_lt 1024 n) off) };
  estimate = fits.estimate;
  task = fits.task;
  moment = fits.moment;
})

now_fits : (ns : List ℕ) (law : LawInput) → IsDecidable law → IfOk (with_now ns law) (λ l. IsDecidable l)
now_fits [] law fits = tt
now_fits (n ∷ m ∷ ns) law fits = tt
now_fits (n ∷ []) law fits = unless_fits (nat_lt (10 ^ 15) n) (record law { now = n }) (λ off. record {
  reads = fits.reads;
  estimate = fits.estimate;
  task = fits.task;
  moment = omega (arith, not_below (10 ^ 15) n off);
})

task_fits : (ns : List ℕ) (law : LawInput) → IsDecidable law → IfOk (with_task ns law) (λ l. IsDecidable l)
task_fits [] law fits = tt
task_fits (a ∷ []) law fits = tt
task_fits (a ∷ b ∷ []) law fits = tt
task_fits (a ∷ b ∷ w ∷ n ∷ ns) law fits = tt
task_fits (a ∷ b ∷ w ∷ []) law fits =
    let x : Bool = nat_lt (2 ^ 34) a in
    let y : Bool = nat_lt (2 ^ 34) b in
    let z : Bool = nat_lt (10 ^ 15) w in
    unless_fits (x || y || z) (record law { task = record { nr_dirtied = a; nr_dirtied_pause = b; paused_when = w } }) (λ off. record {
      reads = fits.reads;
      estimate = fits.estimate;
      task = record {
        dirtied = omega (arith, not_below (2 ^ 34) a (left_off x y (left_off (x || y) z off)));
        allowance = omega (arith, not_below (2 ^ 34) b (right_off x y (left_off (x || y) z off)));
      };
      moment = fits.moment;
    })

estimate_fits : (ns : List ℕ) (law : LawInput) → IsDecidable law → IfOk (with_estimate ns law) (λ l. IsDecidable l)
estimate_fits [] law fits = tt
estimate_fits (a ∷ []) law fits = tt
estimate_fits (a ∷ r ∷ n ∷ ns) law fits = tt
estimate_fits (a ∷ r ∷ []) law fits =
    let w : Bool = a == 0 in
    let x : Bool = nat_lt (2 ^ 40) a in
    let y : Bool = r == 0 in
    let z : Bool = nat_lt (2 ^ 40) r in
    unless_fits (w || x || y || z) (record law { estimate = rates_of a r }) (λ off.
    let first = left_off (w || x) y (left_off (w || x || y) z off) in
    record {
      reads = fits.reads;
      estimate = record {
        average = (not_none a (left_off w x first), omega (arith, not_below (2 ^ 40) a (right_off w x first)));
        ratelimit = not_none r (right_off (w || x) y (left_off (w || x || y) z off));
      };
      task = fits.task;
      moment = fits.moment;
    })

context_fits : (ns : List ℕ) (law : LawInput) → IsDecidable law → IfOk (with_context ns law) (λ l. IsDecidable l)
context_fits [] law fits = tt
context_fits (n ∷ m ∷ ns) law fits = tt
context_fits (n ∷ []) law fits = unless_fits (nat_lt (2 ^ 23) n) (record law { reads = record law.reads { wb_dirty = n } }) (λ off. record {
  reads = record { limits = fits.reads.limits; pages = omega (arith, not_below (2 ^ 23) n off); cpus = fits.reads.cpus; cap = fits.reads.cap };
  estimate = fits.estimate;
  task = fits.task;
  moment = fits.moment;
})

lawful_or : (b : Bool) (d : DomainRead) → (b ≡ false → IsLawful d.limits) → IfOk (if b then Err OutOfRange else Ok d) (λ k. IsLawful k.limits)
lawful_or true d lawful = tt
lawful_or false d lawful = lawful refl

in_order : (d : DomainRead) → is_out_of_range d ≡ false → IsLawful d.limits
in_order d off =
    let v : Bool = nat_lt d.limits.thresh d.limits.bg in
    let w : Bool = nat_lt d.limits.hard d.limits.thresh in
    let x : Bool = nat_lt MAX_LIMIT d.limits.hard in
    let y : Bool = nat_lt (2 ^ 23) d.dirty in
    let z : Bool = nat_lt MAX_LIMIT d.wb_thresh in
    let three = left_off (v || w || x) y (left_off (v || w || x || y) z off) in
    record {
      bg_below_thresh = not_below d.limits.thresh d.limits.bg (left_off v w (left_off (v || w) x three));
      thresh_below_hard = not_below d.limits.hard d.limits.thresh (right_off v w (left_off (v || w) x three));
      hard_in_range = not_below MAX_LIMIT d.limits.hard (right_off (v || w) x three);
    }

domain_lawful : (ns : List ℕ) → IfOk (domain_from ns) (λ k. IsLawful k.limits)
domain_lawful [] = tt
domain_lawful (a ∷ []) = tt
domain_lawful (a ∷ b ∷ []) = tt
domain_lawful (a ∷ b ∷ h ∷ []) = tt
domain_lawful (a ∷ b ∷ h ∷ d ∷ []) = tt
domain_lawful (a ∷ b ∷ h ∷ d ∷ w ∷ n ∷ ns) = tt
domain_lawful (a ∷ b ∷ h ∷ d ∷ w ∷ []) =
    let domain : DomainRead = record { limits = record { thresh = a; bg = b; hard = h }; dirty = d; wb_thresh = w } in
    lawful_or (is_out_of_range domain) domain (in_order domain)

global_fits : (r : Result DomainRead Refusal) (law : LawInput) → IfOk r (λ k. IsLawful k.limits) → IsDecidable law → IfOk (put_global law r) (λ l. IsDecidable l)
global_fits (Err why) law lawful fits = tt
global_fits (Ok d) law lawful fits = record {
  reads = record { limits = (lawful, fits.reads.limits.1); pages = fits.reads.pages; cpus = fits.reads.cpus; cap = fits.reads.cap };
  estimate = fits.estimate;
  task = fits.task;
  moment = fits.moment;
}

cgroup_fits : (r : Result DomainRead Refusal) (law : LawInput) → IfOk r (λ k. IsLawful k.limits) → IsDecidable law → IfOk (put_cgroup law r) (λ l. IsDecidable l)
cgroup_fits (Err why) law lawful fits = tt
cgroup_fits (Ok d) law lawful fits = record {
  reads = record { limits = (fits.reads.limits.0, lawful); pages = fits.reads.pages; cpus = fits.reads.cpus; cap = fits.reads.cap };
  estimate = fits.estimate;
  task = fits.task;
  moment = fits.moment;
}

law_fits : (at : Place) (ns : List ℕ) (law : LawInput) → IsDecidable law → IfOk (law_with at ns law) (λ l. IsDecidable l)
law_fits place.Cpus ns law fits = cpus_fit ns law fits
law_fits place.Cap ns law fits = cap_fits ns law fits
law_fits place.Now ns law fits = now_fits ns law fits
law_fits place.Task ns law fits = task_fits ns law fits
law_fits place.Estimate ns law fits = estimate_fits ns law fits
law_fits place.Context ns law fits = context_fits ns law fits
law_fits place.Global ns law fits = global_fits (domain_from ns) law (domain_lawful ns) fits
law_fits place.Cgroup ns law fits = cgroup_fits (domain_from ns) law (domain_lawful ns) fits
law_fits place.Over ns law fits = tt

next_fits : (at : Place) (r : Result LawInput Refusal) (e : Draft) → IfOk r (λ l. IsDecidable l) → and_next at r ≡ Ok e → IsDecidable e.law
next_fits at (Err why) e fits is = absurd (cc is)
next_fits at (Ok law) e fits is =
    let same : record { place = next at; law = law } ≡ e = cc is in subst (λ (d : Draft). IsDecidable d.law) same fits

lead_fits : (lines : List (List ℕ)) (s : Draft) (text : List ℕ) (t : Draft) (rest : List ℕ) → Lead laws lines s text t rest → IsDecidable s.law → IsDecidable t.law
lead_fits [] s text t rest lead fits = subst (λ (d : Draft). IsDecidable d.law) lead.0 fits
lead_fits (ns ∷ lines) s text t rest lead fits =
    lead_fits lines lead.2 lead.1 t rest lead.6 (next_fits s.place (law_with s.place ns s.law) lead.2 (law_fits s.place ns s.law fits) lead.5)

start_fits : IsDecidable start.law
start_fits = record {
  reads = record {
    limits = (record { bg_below_thresh = omega arith; thresh_below_hard = omega arith; hard_in_range = omega arith }, tt);
    pages = omega arith;
    cpus = (omega arith, omega arith);
    cap = omega arith;
  };
  estimate = record { average = (omega arith, omega arith); ratelimit = omega arith };
  task = record { dirtied = omega arith; allowance = omega arith };
  moment = omega arith;
}

whole_fits : (b : Bool) (law end : LawInput) (f : TraceFault) → Ok law ≡ (if b then Ok end else Err f) → IsDecidable end → IsDecidable law
whole_fits true law end f is fits = let same : end ≡ law = cc is in subst (λ (l : LawInput). IsDecidable l) same fits
whole_fits false law end f is fits = absurd (cc is)

ends_fit : (count : ℕ) (s : Draft) (rest : List ℕ) (law : LawInput) → Ends laws count s rest (Ok law) → IsDecidable s.law → IsDecidable law
ends_fit count s rest law (inl whole) fits = whole_fits (may_end s.place) law s.law (fault.BadLine (count + 1)) whole.1 fits
ends_fit count s rest law (inr (inl none)) fits = absurd (cc (none.2))
ends_fit count s rest law (inr (inr refused)) fits = absurd (cc (refused.7))

pub answer_fits : (text : List ℕ) (law : LawInput) → IsAnswer text (Ok law) → IsDecidable law
answer_fits text law is = ends_fit (length is.0) is.1 is.2 law is.4 (lead_fits is.0 start text is.1 is.2 is.3 start_fits)
