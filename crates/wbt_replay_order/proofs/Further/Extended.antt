-- A state that fits further steps stays in range where as many more may be made as a replay may have.
use Rattle.std.proofs.Common.{◌≡◌, ℕ, zero, suc, ◌+◌, ◌-◌, ◌*◌, ◌<◌, ◌≤◌, max, true, leb, unsigned_abs, List, [], ◌∷◌, length, get_or, ⊎_elim, ap, arith}
use Rattle.std.proofs.lemmas.Bool.{and_parts, cases_lt}
use Rattle.std.proofs.lemmas.Bool.Decides.{nat_tests}
use Rattle.std.proofs.lemmas.List.{get_or_past}
use Rattle.std.proofs.lemmas.List.Sums.{AllPass-from_list_all}
use Rattle.wbt_replay_order.proofs.Common.{MOST_STEPS, Count, Trace, extended, State, no_context, no_domain, no_flusher, no_task, domain_of, writeback_of, Domain, Flusher, ReplayTask, Writeback, after_rests, after_waits, fits_further, latest_moment, latest, most_ever, reserve, step_ticks, until_of, Sound, Holds, HasRoom, IsCount, IsDomain, IsContext, most_counted}
use Rattle.wbt_replay_order.specs.Kept.Further.{counts_fit, left_further, moments_fit, takes_folds}
use Rattle.wbt_replay_order.specs.Kept.Horizon.{MomentsAreWithin}

-- ---- the latest moment

rests_from : (moment : ℕ) (ts : List ReplayTask) → moment ≤ after_rests moment ts
rests_from moment [] = omega arith
rests_from moment (t ∷ ts) = let rest = rests_from (max moment t.rest) ts in omega (arith, rest)

rest_among : (moment : ℕ) (ts : List ReplayTask) (k : ℕ) → (get_or ts k no_task).rest ≤ after_rests moment ts
rest_among moment [] k = omega arith
rest_among moment (t ∷ ts) zero = let rest = rests_from (max moment t.rest) ts in omega (arith, rest)
rest_among moment (t ∷ ts) (suc k) = rest_among (max moment t.rest) ts k

waits_from : (moment : ℕ) (fs : List Flusher) → moment ≤ after_waits moment fs
waits_from moment [] = omega arith
waits_from moment (f ∷ fs) = let rest = waits_from (max moment (until_of f.phase)) fs in omega (arith, rest)

wait_among : (moment : ℕ) (fs : List Flusher) (k : ℕ) → until_of (get_or fs k no_flusher).phase ≤ after_waits moment fs
wait_among moment [] k = omega arith
wait_among moment (f ∷ fs) zero = let rest = waits_from (max moment (until_of f.phase)) fs in omega (arith, rest)
wait_among moment (f ∷ fs) (suc k) = wait_among (max moment (until_of f.phase)) fs k

-- ---- the tests

is_within : (n m : ℕ) → leb n m ≡ true → n ≤ m
is_within n m e = grind (arith, nat_tests)

module _ (trace : Trace) (s : State) (fits : fits_further s ≡ true) (h : Holds trace 0 0 s) where
  tests : (moments_fit s ≡ true) × (counts_fit s ≡ true)
  tests = and_parts (moments_fit s) (counts_fit s) (and_parts _ _ fits).1

  few : s.most + MOST_STEPS ≤ most_ever
  few = is_within (s.most + MOST_STEPS) most_ever (and_parts _ _ fits).0

  soon : latest_moment s + reserve s + step_ticks * MOST_STEPS ≤ latest
  soon = is_within (latest_moment s + reserve s + step_ticks * MOST_STEPS) latest tests.0

  -- ---- counts

  takes : (count : Count) → takes_folds (left_further s) count ≡ true → unsigned_abs count.value + 512 * left_further s ≤ most_counted
  takes count e = is_within (unsigned_abs count.value + 512 * left_further s) most_counted e

  domain_takes : (d : ℕ) → d < length s.domains → unsigned_abs (domain_of d s).count.value + 512 * left_further s ≤ most_counted
  domain_takes d less =
      takes (domain_of d s).count
      (AllPass-from_list_all (λ (x : Domain). takes_folds (left_further s) x.count) s.domains (and_parts _ _ tests.1).0 d no_domain less)

  context_takes : (k : ℕ) → k < length s.contexts → unsigned_abs (writeback_of k s).count.value + 512 * left_further s ≤ most_counted
  context_takes k less =
      takes (writeback_of k s).count
      (AllPass-from_list_all (λ (x : Writeback). takes_folds (left_further s) x.count) s.contexts (and_parts _ _ tests.1).1 k no_context less)

  -- no number of steps that are left is too great
  any_takes : 512 * left_further s ≤ most_counted
  any_takes = let first = domain_takes 0 (omega (arith, h.domains.many)) in omega (arith, first)

  counted : (count : Count) → IsCount s.most (length s.steps) count → unsigned_abs count.value + 512 * left_further s ≤ most_counted
      → IsCount (s.most + MOST_STEPS) (length s.steps) count
  counted count is takes' = record { version = is.version; value = omega (arith, takes', h.few) }

  domain_fits : (d : ℕ) → IsDomain (s.most + MOST_STEPS) (length s.steps) (domain_of d s)
  domain_fits d = let is = h.domains.each d in record {
    limits = is.limits;
    sequence = is.sequence;
    under_peak = is.under_peak;
    peak = is.peak;
    count = ⊎_elim
        (λ less. counted (domain_of d s).count is.count (domain_takes d less))
        (λ past.
        let none : unsigned_abs (domain_of d s).count.value ≡ 0 = ap (λ (x : Domain). unsigned_abs x.count.value) (get_or_past s.domains d no_domain past) in
        counted (domain_of d s).count is.count (omega (arith, none, any_takes)))
        (cases_lt d (length s.domains));
    period = is.period;
  }

  context_fits : (k : ℕ) → k < length trace.contexts → IsContext trace (s.most + MOST_STEPS) (length s.steps) s.now s.domains k (writeback_of k s)
  context_fits k less = let is = h.contexts.each k less in record {
    count = counted (writeback_of k s).count is.count (context_takes k (omega (arith, less, h.contexts.many)));
    estimate = is.estimate;
    estimated = is.estimated;
    part = is.part;
    cgroup_part = is.cgroup_part;
  }

  -- ---- moments

  more_left : s.most + MOST_STEPS - length s.steps ≡ s.most - length s.steps + MOST_STEPS
  more_left = omega (arith, h.few)

  moments : MomentsAreWithin (reserve (extended s) + 0) s.now s.timer.next s.tasks s.flushers
  moments =
      let rests = rests_from (max s.now s.timer.next) s.tasks in
      let waits = waits_from (after_rests (max s.now s.timer.next) s.tasks) s.flushers in
      record {
        clock = omega (arith, soon, more_left, rests, waits);
        timer = omega (arith, soon, more_left, rests, waits);
        rest = λ t. (let rest = rest_among (max s.now s.timer.next) s.tasks t in omega (arith, soon, more_left, rest, waits));
        until = λ f. (let until = wait_among (after_rests (max s.now s.timer.next) s.tasks) s.flushers f in omega (arith, soon, more_left, until));
      }

  -- ---- the state

  further : Holds trace 0 0 (extended s)
  further = record {
    pages = h.pages;
    few = omega (arith, h.few);
    long = few;
    domains = record { many = h.domains.many; each = domain_fits };
    contexts = record { many = h.contexts.many; each = context_fits };
    written = h.written;
    marks = h.marks;
    queues = h.queues;
    tasks = h.tasks;
    dirtied = h.dirtied;
    flushers = h.flushers;
    cpus = h.cpus;
    agreed = h.agreed;
    counted = h.counted;
    orders = h.orders;
    timer = h.timer;
    horizon = moments;
  }

-- A sound state that fits further steps stays sound where they may be made.
pub extended_sound : (trace : Trace) (s : State) → fits_further s ≡ true → Sound trace s → Sound trace (extended s)
extended_sound trace s fits sound = record { holds = further trace s fits sound.holds; closed = sound.closed }

-- and its own numbers have as much room
pub extended_room : (trace : Trace) (s : State) → HasRoom trace s → HasRoom trace (extended s)
extended_room trace s h = record { own = h.own }
