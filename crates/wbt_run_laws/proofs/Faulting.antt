-- A flusher's faults are those of its own that stand, and it has failed where these are as many as it may have.
use Rattle.std.proofs.Common.{◌≡◌, ℕ, ◌+◌, Bool, true, false, ◌&&◌, cond, eqb, nat_le, Option, None, Some, IfSome, List, [], ◌∷◌, count_by, sym, refl, ap, ◌∙◌, subst, arith, eqb-true, eq-eqb}
use Rattle.std.proofs.lemmas.Bool.{cond_both}
use Rattle.std.proofs.lemmas.List.Sums.{sum_by-cons}
use Rattle.wbt_run_laws.proofs.Common.{one_if, Flight, effect, of_part, ToldFlusher, MayMove, moved, Told, Along, after, flusher_after, FliesInTurn}
use Rattle.wbt_rules.specs.declared.moments.TheConstants.{MOST_FAULTS}
use Rattle.wbt_journal.specs.Effects.{Move, takes, flies, lands, fails, gives_back}
use Rattle.wbt_journal.specs.Flights.{ToldPhase, scanning, flying, returning, failed, emptied, returned, taken, flown, landed, given_back, faulted, Hands}
use Rattle.wbt_journal.specs.Leaves.{is_failure, is_fault, is_fault_of}
use Rattle.wbt_run_laws.specs.Phases.{is_failed, FailsWithItsLast, FaultsAreCounted, FaultShows, OwnFaultsAreAll}

pub and_true : (b : Bool) → b ≡ (b && true)
and_true true = refl
and_true false = refl

pub and_false : (b : Bool) → false ≡ (b && false)
and_false true = refl
and_false false = refl

-- ---- how many

counts_none : (n : ℕ) → n ≡ n + 0
counts_none n = omega arith

faulted_counts : (faults pages : ℕ) (phase : ToldPhase) → Hands pages phase → (faulted faults phase).faults ≡ faults + 1
faulted_counts faults pages (scanning held) may = refl
faulted_counts faults pages (flying held) may = absurd may
faulted_counts faults pages (returning held) may = absurd may
faulted_counts faults pages failed may = absurd may

moved_counts : (move : Move) (is : ToldFlusher) → MayMove move is.phase → (moved move is).faults ≡ is.faults + cond (is_failure move) 1 0
moved_counts (takes page) is may = counts_none is.faults
moved_counts (flies pages now until) is may = counts_none is.faults
moved_counts (lands page) is may = counts_none is.faults
moved_counts (fails pages) is may = faulted_counts is.faults pages is.phase may
moved_counts (gives_back page absorbed) is may = counts_none is.faults

own_counts : (own : Bool) (move : Move) (is : ToldFlusher) → (own ≡ true → MayMove move is.phase)
    → (cond own (moved move is) is).faults ≡ is.faults + cond (is_failure move && own) 1 0
own_counts true move is may = moved_counts move is (may refl) ∙ ap (λ (b : Bool). is.faults + cond b 1 0) (and_true (is_failure move))
own_counts false move is may = counts_none is.faults ∙ ap (λ (b : Bool). is.faults + cond b 1 0) (and_false (is_failure move))

flight_counts : (flusher : ℕ) (is : ToldFlusher) (part : Option Flight) → IfSome part (λ (flight : Flight). flight.flusher ≡ flusher → MayMove flight.move is.phase)
    → (of_part is (λ (flight : Flight). cond (eqb flight.flusher flusher) (moved flight.move is) is) part).faults
    ≡ is.faults + cond (of_part false (λ (flight : Flight). is_failure flight.move && eqb flight.flusher flusher) part) 1 0
flight_counts flusher is None may = counts_none is.faults
flight_counts flusher is (Some flight) may = own_counts (eqb flight.flusher flusher) flight.move is (λ own. may (eqb-true flight.flusher flusher own))

along_counts : (flusher : ℕ) (is : ToldFlusher) (added : List Told) → Along (FliesInTurn flusher) (flusher_after flusher) is added
    → (after (flusher_after flusher) is added).faults ≡ is.faults + count_by (is_fault_of flusher) added
along_counts flusher is [] along = counts_none is.faults
along_counts flusher is (e ∷ added) along =
    let first = flight_counts flusher is (effect e).flight along.0 in
    let rest = along_counts flusher (flusher_after flusher is e) added along.1 in
    let both = sum_by-cons (λ (x : Told). cond (is_fault_of flusher x) 1 0) e added in omega arith

pub faults_counted : FaultsAreCounted
faults_counted flusher old new added flew = ap (λ (is : ToldFlusher). is.faults) (sym flew.reached) ∙ along_counts flusher old added flew.allowed

-- ---- whether it has failed

not_emptied : (pages : List ℕ) → is_failed (emptied pages) ≡ false
not_emptied [] = refl
not_emptied (page ∷ pages) = refl

not_returned : (pages : List ℕ) → is_failed (returned pages) ≡ false
not_returned [] = refl
not_returned (page ∷ pages) = refl

taken_same : (page : ℕ) (phase : ToldPhase) → is_failed (taken page phase) ≡ is_failed phase
taken_same page (scanning pages) = refl
taken_same page (flying pages) = refl
taken_same page (returning pages) = refl
taken_same page failed = refl

flown_same : (phase : ToldPhase) → is_failed (flown phase) ≡ is_failed phase
flown_same (scanning pages) = not_emptied pages
flown_same (flying pages) = refl
flown_same (returning pages) = refl
flown_same failed = refl

landed_same : (phase : ToldPhase) → is_failed (landed phase) ≡ is_failed phase
landed_same (scanning pages) = refl
landed_same (flying []) = refl
landed_same (flying (page ∷ pages)) = not_emptied pages
landed_same (returning pages) = refl
landed_same failed = refl

given_same : (phase : ToldPhase) → is_failed (given_back phase) ≡ is_failed phase
given_same (scanning pages) = refl
given_same (flying pages) = refl
given_same (returning []) = refl
given_same (returning (page ∷ pages)) = not_returned pages
given_same failed = refl

fails_if : (last : Bool) (pages : List ℕ) → is_failed (cond last failed (returned pages)) ≡ last
fails_if true pages = refl
fails_if false pages = not_returned pages

faulted_last : (faults : ℕ) (phase : ToldPhase) → is_failed phase ≡ nat_le MOST_FAULTS faults → FailsWithItsLast (faulted faults phase)
faulted_last faults (scanning pages) last = fails_if (nat_le MOST_FAULTS (faults + 1)) pages
faulted_last faults (flying pages) last = last
faulted_last faults (returning pages) last = last
faulted_last faults failed last = last

moved_last : (move : Move) (is : ToldFlusher) → FailsWithItsLast is → FailsWithItsLast (moved move is)
moved_last (takes page) is last = taken_same page is.phase ∙ last
moved_last (flies pages now until) is last = flown_same is.phase ∙ last
moved_last (lands page) is last = landed_same is.phase ∙ last
moved_last (fails pages) is last = faulted_last is.faults is.phase last
moved_last (gives_back page absorbed) is last = given_same is.phase ∙ last

flight_last : (flusher : ℕ) (is : ToldFlusher) (part : Option Flight) → FailsWithItsLast is
    → FailsWithItsLast (of_part is (λ (flight : Flight). cond (eqb flight.flusher flusher) (moved flight.move is) is) part)
flight_last flusher is None last = last
flight_last flusher is (Some flight) last = cond_both (eqb flight.flusher flusher) (moved flight.move is) is FailsWithItsLast (λ own. moved_last flight.move is last) (λ other. last)

along_last : (flusher : ℕ) (is : ToldFlusher) (added : List Told) → FailsWithItsLast is → FailsWithItsLast (after (flusher_after flusher) is added)
along_last flusher is [] last = last
along_last flusher is (e ∷ added) last = along_last flusher (flusher_after flusher is e) added (flight_last flusher is (effect e).flight last)

pub fault_shows : FaultShows
fault_shows flusher old new added flew last = subst FailsWithItsLast flew.reached (along_last flusher old added last)

-- ---- in its own turns

flight_own : (flusher : ℕ) (part : Option Flight) → IfSome part (λ (flight : Flight). flight.flusher ≡ flusher)
    → of_part false (λ (flight : Flight). is_failure flight.move) part ≡ of_part false (λ (flight : Flight). is_failure flight.move && eqb flight.flusher flusher) part
flight_own flusher None own = refl
flight_own flusher (Some flight) own = and_true (is_failure flight.move) ∙ ap (λ (b : Bool). is_failure flight.move && b) (sym (eq-eqb flight.flusher flusher own))

pub own_faults : OwnFaultsAreAll
own_faults flusher [] own = refl
own_faults flusher (e ∷ added) own =
    let same = ap one_if (flight_own flusher (effect e).flight own.0.flight) in
    let rest = own_faults flusher added own.1 in
    let all = sum_by-cons (λ (x : Told). cond (is_fault x) 1 0) e added in
    let its = sum_by-cons (λ (x : Told). cond (is_fault_of flusher x) 1 0) e added in omega arith
