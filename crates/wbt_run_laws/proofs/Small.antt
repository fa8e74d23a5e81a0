-- What two small runs have in common, and lemmas to work them out.
use Rattle.std.proofs.Common.{◌≡◌, ℕ, zero, suc, ◌+◌, ◌^◌, ◌<◌, ◌≤◌, Bool, true, false, ◌&&◌, ◌||◌, cond, eqb, leb, ltb, Some, None, List, [], ◌∷◌, count_by, All, sym, refl, ap, ◌∙◌, subst, arith}
use Rattle.std.proofs.lemmas.Bool.{cond-true, cond-false, le-leb, lt-ltb}
use Rattle.std.proofs.lemmas.List.Elements.{All-nil, All-cons}
use Rattle.std.proofs.lemmas.List.Sums.{sum_by-cons}
use mathlib.Core.Option.{some, some-injective, some-ne-none}
use lib.ListN.{get_elem?}
use Rattle.std.proofs.Common.{ne_eqb, IsTrue}
use Rattle.wbt_run_laws.proofs.Common.{words_follow, is_same, one_if, Counter, Fold, Reading, first_at, Estimate, Note, no_record, global_threshold, threshold, background_below, thresholds_of, IsCounted, Task, first_one, first_version, Trace, pages, of_first}
use Rattle.wbt_counter.specs.History.{at_least_zero}
use Rattle.wbt_counter.specs.declared.counter.Count.{Count}
use Rattle.wbt_estimate.specs.Estimate.{IsSound}
use Rattle.wbt_grant.specs.Laws.{NoneAhead}
use Rattle.wbt_grant.specs.Setting.{IsSetting}
use Rattle.wbt_grant.proofs.Example as example
use Rattle.wbt_published.specs.Publishing.{IsRising}
use Rattle.wbt_trace.specs.Lawful.{IsLawful, IsDevice, IsCgroup, IsContext, IsInode, IsTask, HasPace, IsFlusher, IsAction, IsOrder}
use Rattle.wbt_trace.specs.Lawful.{has_flusher}
use Rattle.wbt_journal.specs.Checks.{IsInRange}
use Rattle.wbt_journal.specs.Machine.{page_context}
use Rattle.wbt_journal.specs.Timer.{HasThresholds}
use Rattle.wbt_run_laws.specs.Closed.{OpensWith}
use Rattle.wbt_run_laws.specs.Small.{first_limits, small_trace, small_setting, free_check}
use Rattle.wbt_run_laws.specs.Throttle.{writer_at, IsThrottleOf}
use Rattle.wbt_run_laws.proofs.Lists.{and_both, or_right}

pub one_of : {A : Type 0} (P : A → Type 0) (x : A) → P x → All P (x ∷ [])
one_of P x p = All-cons P x [] p (All-nil P)

pub two_of : {A : Type 0} (P : A → Type 0) (x y : A) → P x → P y → All P (x ∷ y ∷ [])
two_of P x y p q = All-cons P x (y ∷ []) p (one_of P y q)

-- ---- a check

-- one that lets its writer go on decides on numbers in range
pub free_in_range : (now left : ℕ) (count : Count) (task : Task) → now < 2 ^ 62 → at_least_zero count.value < 2 ^ 33 → IsCounted task → IsInRange (free_check now left count) (first_at 1) task
unfolding first_at
free_in_range now left count task early few counted = record {
  global = record {
    limits = record { bg_below_thresh = omega arith; thresh_below_hard = omega arith; hard_in_range = omega arith };
    share = record { some = omega arith; within = omega arith; few = omega arith };
  };
  cgroup = tt;
  pages = few;
  rate = record { usable = record { average = (omega arith, omega arith); ratelimit = omega arith }; ratelimit = omega arith };
  counted = counted;
  moment = early;
}

-- ---- the machine

module _ (cpus cap size on : ℕ) (some_cpus : 1 ≤ cpus) (few_cpus : cpus ≤ 64) (some_cap : 1 ≤ cap) (few_cap : cap ≤ 1024) (some_size : 1 ≤ size) (few : size ≤ 1000) (there : on < cpus) where
  has_flusher_of : (device : ℕ) → device < 1 → IsTrue (has_flusher device (small_trace cpus cap size on).flushers)
  has_flusher_of zero less = refl
  has_flusher_of (suc device) less = absurd (omega arith)

  pub small_is_lawful : IsLawful (small_trace cpus cap size on)
  small_is_lawful = record {
    within = record {
      cpus = few_cpus;
      cap = (some_cap, few_cap);
      settings = record { ratio = omega arith; bg_ratio = omega arith; bytes = omega arith; bg_bytes = omega arith };
      avail = (refl, omega arith, omega arith, tt);
      few_avail = omega arith;
      devices = record { each = one_of IsDevice (record { rate = 100; min = 0; max = 100; strict = false; chunk = None; cyclic = false }) (record { rate = (omega arith, omega arith); shares = (omega arith, omega arith); chunk = tt }); shares = omega arith; few = omega arith };
      cgroups = All-nil IsCgroup;
      few_cgroups = omega arith;
      contexts = one_of (IsContext 1 0) (record { device = 0; domain = 0; expire = None; estimate = None }) (omega arith, omega arith, tt, tt);
      few_contexts = omega arith;
      inodes = record { each = one_of (IsInode 1) (record { context = 0; first = 0; pages = size }) (omega arith, some_size); firsts = (refl, tt); total = omega arith; few = omega arith };
      tasks = one_of (IsTask cpus) (record { cpu = 0; pace = None }) (omega arith);
      few_tasks = omega arith;
      paces = one_of HasPace (record { cpu = 0; pace = None }) tt;
      flushers = one_of (IsFlusher 1 cpus) (record { device = 0; cpu = on }) (omega arith, there);
      few_flushers = omega arith;
      actions = one_of (IsAction 1 (record { context = 0; first = 0; pages = size } ∷ [])) _ (omega arith, omega arith, some_size, omega arith);
      few_actions = omega arith;
      few_writers = omega arith;
      order = All-nil (IsOrder cpus);
      few_orders = omega arith;
      halt = tt;
    };
    whole = record { cpus = some_cpus; avail = omega arith; flushers = has_flusher_of };
  }

  abbrev trace : Trace
  trace = small_trace cpus cap size on

  home_of : (page : ℕ) → page < size → page_context trace page ≡ Some 0
  home_of page less = cond-true (leb 0 page && ltb page (0 + size)) (Some 0) None (and_both (leb 0 page) (ltb page (0 + size)) (le-leb 0 page (omega arith)) (lt-ltb page (0 + size) (omega arith)))

  works_in_first : (w : ℕ) → w < 1 → 0 ≡ (writer_at trace w).context
  works_in_first zero less = refl
  works_in_first (suc w) less = absurd (omega arith)

  pages_are : pages trace ≡ size
  pages_are = omega arith

  pub small_is_throttle : IsThrottleOf trace (small_setting trace)
  small_is_throttle = record {
    cpus = refl;
    cap = refl;
    contexts_are = refl;
    pages_are = refl;
    writers_are = refl;
    groups = λ context. refl;
    homes = λ page less. home_of page (subst (λ (n : ℕ). page < n) pages_are less);
    homes_are = λ page less. omega arith;
    works_in = works_in_first;
  }

  pub small_is_setting : IsSetting (small_setting trace)
  small_is_setting = record {
    some_cpu = some_cpus;
    few_cpus = few_cpus;
    some_cap = some_cap;
    last_even = omega arith;
    few_pages = let e = pages_are in omega arith;
    homes = λ p less. omega arith;
    seats = λ w less. omega arith;
    firsts_lawful = λ d. record { bg_below_thresh = omega arith; thresh_below_hard = omega arith; hard_in_range = omega arith };
    words_hold = λ book p less. (words_follow (book p)).holds;
    sequences_hold = example.small_is_setting.sequences_hold;
    limits_hold = example.small_is_setting.limits_hold;
    unseal_adds = example.small_is_setting.unseal_adds;
  }

  thresholds_are : (domain : ℕ) → domain < 1 → HasThresholds trace 1 domain first_limits
  unfolding global_threshold threshold background_below thresholds_of
  thresholds_are zero less = record { thresh = refl; background = refl }
  thresholds_are (suc domain) less = absurd (omega arith)

  pub small_opens : OpensWith trace 1 (small_setting trace).firsts
  small_opens = record { thresholds = thresholds_are; hards = λ domain less. refl }

-- ---- versions that are ahead of nothing

pub none_in : (version : ℕ) (x : Counter) → NoneAhead version x no_record
none_in version x = record {
  folds_behind = All-nil (λ (f : Fold). is_same x f.counter ≡ true → f.version ≤ version);
  readings_behind = All-nil (λ (q : Reading). is_same x q.counter ≡ true → q.version ≤ version);
}

-- a version of 0, or a period of 0, is never ahead
pub zero_is_behind : (other : Bool) (n : ℕ) → (other || leb 0 n) ≡ true
zero_is_behind other n = or_right other (leb 0 n) (le-leb 0 n (omega arith))

-- ---- writes of the first task

abbrev pub zeros : (count : ℕ) (older : List ℕ) → List ℕ
zeros zero older = older
zeros (suc count) older = 0 ∷ zeros count older

pub own_zeros : (count : ℕ) (older : List ℕ) → count_by (λ by. eqb by 0) older ≡ 0 → count_by (λ by. eqb by 0) (zeros count older) ≡ count
own_zeros zero older none = none
own_zeros (suc count) older none = let rest = own_zeros count older none in let first = sum_by-cons (λ (by : ℕ). cond (eqb by 0) 1 0) 0 (zeros count older) in omega arith

pub other_zeros : (task count : ℕ) (older : List ℕ) → count_by (λ by. eqb by (suc task)) older ≡ 0 → count_by (λ by. eqb by (suc task)) (zeros count older) ≡ 0
other_zeros task zero older none = none
other_zeros task (suc count) older none =
    let rest = other_zeros task count older none in
    let first = sum_by-cons (λ (by : ℕ). cond (eqb by (suc task)) 1 0) 0 (zeros count older) in
    let another : one_if (eqb 0 (suc task)) ≡ 0 = cond-false (eqb 0 (suc task)) 1 0 (ne_eqb 0 (suc task) (λ e. omega arith)) in omega arith

-- ---- estimates

pub first_is_sound : IsSound first_one
unfolding first_at
first_is_sound = record { bandwidth = omega arith; average = (omega arith, omega arith); ratelimit = (omega arith, omega arith); balanced = omega arith; moment = omega arith; version = omega arith }

first_place : (place : ℕ) (e : Estimate) → get_elem? (first_one ∷ []) place ≡ some e → (first_one ≡ e) × (place ≡ 0)
first_place zero e is = (some-injective first_one e is, refl)
first_place (suc place) e is = absurd (some-ne-none e (sym is))

pub first_rises : IsRising (first_one ∷ [])
first_rises = record {
  first = refl;
  by_version = λ place e is. let at = first_place place e is in sym (ap (λ (x : Estimate). x.version) at.0) ∙ first_version 0 ∙ sym at.1;
  sound = λ place e is. subst IsSound (first_place place e is).0 first_is_sound;
}

-- ---- notes

pub no_notes : (domain : ℕ) → of_first {A = List Note} [] [] domain ≡ []
no_notes zero = refl
no_notes (suc domain) = refl
