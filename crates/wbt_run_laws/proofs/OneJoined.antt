-- The timer's turn and the joined notes of the run of one page.
use Rattle.std.proofs.Common.{◌≡◌, ℕ, zero, suc, ◌+◌, ◌<◌, true, false, cond, List, [], ◌∷◌, ◌++◌, Contains, inl, sym, refl, ap, ◌∙◌, subst, arith, Bool}
use mathlib.Core.Option.{some, some-injective, some-ne-none}
use lib.ListN.{get_elem?}
use Rattle.wbt_run_laws.proofs.Common.{domain_batch, context_batch, total, first_at, Estimate, begun, Falls, added_at, Note, global_threshold, threshold, background_below, thresholds_of, halvings, log2, first_one, IsAmong, first_version, onto, one_trace, one_first, one_notes, of_first, period_line, begun_at_once, AreInOrder, TimerSince}
use Rattle.std.proofs.lemmas.List.Elements.{Contains-append_left, Contains-append_right}
use Rattle.wbt_estimate.specs.Estimate.{IsSound}
use Rattle.wbt_flex.specs.Eager.{halved}
use Rattle.wbt_fraction.specs.Laws.{AllBelow}
use Rattle.wbt_fraction.specs.Notes.{additions, periods, InTime, IsPast, MayStand, IsHistory, IsComplete}
use Rattle.wbt_fraction.specs.Sums.{total as weigh}
use Rattle.wbt_fraction.specs.Numbers.{number, latest, start_of}
use Rattle.wbt_published.specs.Publishing.{IsComplete as KnowsAll}
use Rattle.wbt_run_laws.specs.Closed.{SharesTell, PassesTell}
use Rattle.wbt_run_laws.specs.OnePage.{second_estimate, one_ticked, one_read, one_added, one_begun, one_timer, one_run}
use Rattle.wbt_run_laws.specs.Small.{timer_opened}
use Rattle.wbt_run_laws.specs.Ticks.{has_line}
use Rattle.wbt_run_laws.proofs.OneClean.{off}
use Rattle.wbt_run_laws.proofs.Sharing.{nothing_in_order}
use Rattle.wbt_run_laws.proofs.Small.{two_of, first_is_sound}

-- ---- the timer

begins_once : (domain : ℕ) → begun_at_once (of_first one_begun [] domain) ≡ onto (period_line domain) one_ticked (begun_at_once [])
unfolding begun
begins_once zero = refl
begins_once (suc domain) = ap (λ (b : Bool). cond b (1 ∷ []) [] ++ []) (sym (off domain))

begun_order : (domain : ℕ) → AreInOrder (of_first one_begun [] domain)
unfolding begun Falls AllBelow
begun_order zero = record { some = (omega arith, tt); falls = (tt, tt) }
begun_order (suc domain) = nothing_in_order

timer_adds : (domain context : ℕ) → weigh (added_at (suc context)) (of_first one_begun [] domain) ≡ weigh (added_at (suc context)) []
unfolding weigh
timer_adds zero context = refl
timer_adds (suc domain) context = refl

pub one_timed : TimerSince one_trace 1 0 one_ticked (timer_opened one_trace) one_timer
unfolding domain_batch context_batch log2 halvings thresholds_of threshold global_threshold background_below
one_timed = record {
  published = refl;
  peaks = record { raised = record { domain = 0; hard = 39 }; fate = has_line } ∷ [];
  raised = refl;
  told_are = refl;
  stops_are = refl;
  causes = (tt, tt);
  follow = record {
    allowed = ((omega arith, record { thresh = refl; background = refl }, (omega arith, omega arith)), (record { opened = refl; named = refl }, tt));
    reached = refl;
  };
  begun_are = begins_once;
  in_order = λ domain order. begun_order domain;
  adds_none = timer_adds;
}

-- ---- joined notes

abbrev all_notes : List Note
all_notes = one_begun ++ one_added ++ one_read

one_history : IsHistory all_notes
unfolding IsHistory additions periods InTime IsPast MayStand number latest start_of halved
one_history = (
  record { number_is = refl; stamped = omega arith; in_time = refl },
  (omega arith, omega arith, omega arith),
  (record { number_is = refl; stamped = omega arith; in_time = refl }, tt, (record { number_is = refl; stamped = omega arith; in_time = refl }, tt, (record { number_is = refl; stamped = omega arith; in_time = inl refl }, tt, (record { number_is = refl; stamped = omega arith; in_time = inl refl }, tt, (record { number_is = refl; stamped = omega arith; in_time = refl }, tt, (record { number_is = refl; stamped = omega arith; in_time = refl }, tt, (record { number_is = refl; stamped = omega arith; in_time = inl refl }, tt, (record { number_is = refl; stamped = omega arith; in_time = refl }, tt, tt)))))))),
)

one_complete : (domain : ℕ) → domain < 1 → IsComplete (of_first all_notes [] domain)
one_complete zero low = record { history = all_notes; same = λ h. refl; lawful = one_history }
one_complete (suc domain) low = absurd (omega arith)

one_sums : (domain : ℕ) → domain < 1 → (h : Note → ℕ) → weigh h (of_first all_notes [] domain) ≡ total 2 (λ cpu. weigh h ((one_notes cpu).shares domain)) + weigh h (of_first one_begun [] domain)
unfolding weigh
one_sums zero low h = omega arith
one_sums (suc domain) low h = absurd (omega arith)

one_have : (cpu domain : ℕ) → cpu < 2 → domain < 1 → (note : Note) → Contains ((one_notes cpu).shares domain) note → Contains (of_first all_notes [] domain) note
one_have zero zero less low note has = Contains-append_right (one_begun ++ one_added) one_read note has
one_have (suc cpu) zero less low note has = Contains-append_left (one_begun ++ one_added) one_read note (Contains-append_right one_begun one_added note has)
one_have cpu (suc domain) less low note has = absurd (omega arith)

one_begin : (domain : ℕ) → domain < 1 → begun (of_first all_notes [] domain) ≡ begun (of_first one_begun [] domain)
unfolding begun
one_begin zero low = refl
one_begin (suc domain) low = absurd (omega arith)

pub one_tell : SharesTell one_trace one_notes one_timer.shares (of_first all_notes [])
one_tell = record { complete = one_complete; weights = one_sums; have = one_have; begun_are = one_begin }

second_is_sound : IsSound second_estimate
second_is_sound = record { bandwidth = omega arith; average = (omega arith, omega arith); ratelimit = (omega arith, omega arith); balanced = omega arith; moment = omega arith; version = omega arith }

abbrev all_estimates : List Estimate
all_estimates = first_one ∷ second_estimate ∷ []

by_version : (place : ℕ) (e : Estimate) → get_elem? all_estimates place ≡ some e → e.version ≡ place
by_version zero e is = ap (λ (x : Estimate). x.version) (sym (some-injective first_one e is)) ∙ first_version 0
by_version (suc zero) e is = ap (λ (x : Estimate). x.version) (sym (some-injective second_estimate e is))
by_version (suc (suc place)) e is = absurd (some-ne-none e (sym is))

all_sound : (place : ℕ) (e : Estimate) → get_elem? all_estimates place ≡ some e → IsSound e
all_sound zero e is = subst IsSound (some-injective first_one e is) first_is_sound
all_sound (suc zero) e is = subst IsSound (some-injective second_estimate e is) second_is_sound
all_sound (suc (suc place)) e is = absurd (some-ne-none e (sym is))

first_among : IsAmong all_estimates first_one
unfolding first_at
first_among = refl

pub one_passes : PassesTell one_trace one_run.publisher one_first one_notes one_run.all_known
one_passes = record {
  publishers = λ context low. omega arith;
  publishes = publishes;
  opens = opens;
  no_other = no_other;
  complete = complete;
  all_are = same;
  have = have;
}
  where
    publishes : (context : ℕ) → context < 1 → ((one_first 1).estimates context).publishes ≡ true
    publishes zero low = refl
    publishes (suc context) low = absurd (omega arith)

    opens : (context : ℕ) → context < 1 → ((one_first 1).estimates context).all ≡ first_one ∷ []
    opens zero low = refl
    opens (suc context) low = absurd (omega arith)

    no_other : (cpu context : ℕ) → cpu < 2 → context < 1 → (cpu ≡ 1 → ⊥) → ((one_first cpu).estimates context).publishes ≡ false
    no_other zero zero less low other = refl
    no_other zero (suc context) less low other = absurd (omega arith)
    no_other (suc zero) context less low other = absurd (other refl)
    no_other (suc (suc cpu)) context less low other = absurd (omega arith)

    complete : (context : ℕ) → context < 1 → KnowsAll (one_run.all_known context)
    complete zero low = record { rising = record { first = refl; by_version = by_version; sound = all_sound }; read = two_of (IsAmong all_estimates) first_one first_one first_among first_among }
    complete (suc context) low = absurd (omega arith)

    same : (context : ℕ) → context < 1 → (one_run.all_known context).all ≡ ((one_notes 1).estimates context).all
    same zero low = refl
    same (suc context) low = absurd (omega arith)

    have : (cpu context : ℕ) → cpu < 2 → context < 1 → (note : Estimate) → Contains ((one_notes cpu).estimates context).reads note → Contains (one_run.all_known context).reads note
    have zero zero less low note has = Contains-append_left (first_one ∷ []) (first_one ∷ []) note has
    have (suc cpu) zero less low note has = Contains-append_left (first_one ∷ []) (first_one ∷ []) note has
    have cpu (suc context) less low note has = absurd (omega arith)
