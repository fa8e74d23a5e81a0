-- How parts of a turn end it.
use Rattle.std.proofs.Common.{Contains, true≢false, ◌≡◌, ℕ, ◌<◌, ◌≤◌, Bool, true, false, not, ◌&&◌, cond, List, [], ◌∷◌, Option, Some, None, IfSome, inl, inr, sym, refl, ap, ◌∙◌, subst, arith}
use Rattle.wbt_flusher.proofs.Common.{Each, effect, Told, CpuJournal, EstEntry, Scan, MOST_FAULTS, IsPlain, IsOfFlusher, Kit, Seats, Turn, Stepped, Resting, Done, Halted, Faulted, Spent, NoMemory, OnlyQueue, OnlyDevice, Goes, GoesKept, Went, IsReady, FlusherAnswers, wait_of, Moments, no_moments, Fits, HasRooms, KeepsDebts, IsTimed, OwesNothing, Sight, sight, HasLists, HoldsPages, IsSteady, IsPhase, IsScan, KeepsPlace, OnlyWaiting}
use Rattle.wbt_flusher.specs.Answers.{IsOpen, IsLeft, Steps, Ends, EndsBy, Acts, AreTold, HasCome, Rests, TurnAnswers}
use Rattle.wbt_flusher.specs.Looks.{HasPassed}
use Rattle.wbt_flusher.specs.declared.plan.FlusherPlan.{FlusherPlan}
use Rattle.wbt_flusher.specs.declared.work.Phase.{Phase}
use Rattle.wbt_flusher.specs.declared.work.Flight.{Flight}
use Rattle.wbt_flusher.specs.declared.work.Return.{Return}
use Rattle.wbt_flusher.specs.declared.work.Phase.TheVariants.{Idle, Scanning, Flying, Returning, Failed}
use Rattle.wbt_flusher.specs.declared.work.FlusherWork.{FlusherWork}
use Rattle.wbt_flusher.proofs.Going.{went_more, kept_more, ready_went, owes_still, holds_went, rooms_went, goes_nowhere}
use Rattle.wbt_flusher.proofs.Keeping.{queue_quiet, debts_same, place_goes}

pub steps_by : (plan : FlusherPlan) (kit : Kit) (moments : Moments) (old new : Sight) → Went plan kit moments old new → IsReady plan kit old.work old.seats → IsSteady plan new.work → OwesNothing plan new.seats → Steps plan kit moments old new
steps_by plan kit moments old new went ready steady owes = record { went = went; ready = ready_went plan kit moments old new went ready steady owes }

-- ---- a flusher that hasn't failed

abbrev is_failed : (p : Phase) → Bool
is_failed (Idle until kept) = false
is_failed (Scanning scan) = false
is_failed (Flying flight) = false
is_failed (Returning giving) = false
is_failed Failed = true

pub idle_stands : (p : Phase) (until : ℕ) (kept : Bool) → p ≡ Idle until kept → p ≡ Failed → ⊥
idle_stands p until kept is fails = true≢false (sym (ap is_failed fails) ∙ ap is_failed is)

pub scan_stands : (p : Phase) (scan : Scan) → p ≡ Scanning scan → p ≡ Failed → ⊥
scan_stands p scan is fails = true≢false (sym (ap is_failed fails) ∙ ap is_failed is)

pub flight_stands : (p : Phase) (flight : Flight) → p ≡ Flying flight → p ≡ Failed → ⊥
flight_stands p flight is fails = true≢false (sym (ap is_failed fails) ∙ ap is_failed is)

pub return_stands : (p : Phase) (giving : Return) → p ≡ Returning giving → p ≡ Failed → ⊥
return_stands p giving is fails = true≢false (sym (ap is_failed fails) ∙ ap is_failed is)

-- ---- ends

-- a flusher that is idle, without a batch, is steady
pub idle_steady : (plan : FlusherPlan) (work : FlusherWork) (until : ℕ) (kept : Bool) → HasLists plan work → work.phase ≡ Idle until kept → work.batch.items ≡ [] → work.faults < MOST_FAULTS → IsSteady plan work
idle_steady plan work until kept lists at none few = record { lists = lists; phase = subst (λ (p : Phase). IsPhase plan work.batch.items p) (sym at) none; few_faults = few }

-- what ended a turn ends it after calls before it
module _ (plan : FlusherPlan) (kit : Kit) (moments : Moments) (said : ℕ → ℕ → Bool → Type 0) (old mid new : Sight) (first : Went plan kit moments old mid) where
  steps_after : Steps plan kit moments mid new → Steps plan kit moments old new
  steps_after steps = record { went = went_more plan kit moments old mid new first steps.went; ready = steps.ready }

  pub ends_after : (drain : Bool) (risen : Type 0) (answer : Turn) → Ends plan kit drain moments said risen answer mid new → Ends plan kit drain moments said risen answer old new
  ends_after drain risen Stepped ends = steps_after ends
  ends_after drain risen Done ends = record { steps = steps_after ends.steps; in_drain = ends.in_drain; idle = ends.idle; none_wait = ends.none_wait; none_listed = ends.none_listed; empty = ends.empty; whole = ends.whole }
  ends_after drain risen Halted ends = record { went = went_more plan kit moments old mid new first ends.went; stands = ends.stands; stopped = ends.stopped }
  ends_after drain risen Faulted ends = record {
    went = went_more plan kit moments old mid new first ends.went;
    cause = ends.cause;
    failed = ends.failed;
    eighth = ends.eighth;
    holds = ends.holds;
    rooms = ends.rooms;
    owes_none = ends.owes_none;
  }
  ends_after drain risen Spent ends = record { steps = steps_after ends.steps; none_left = ends.none_left }
  ends_after drain risen (Resting now until) ends = absurd ends
  ends_after drain risen NoMemory ends = absurd ends

-- an end that can't come from the disk, or from the drain, is one that could
pub ends_weaker : (plan : FlusherPlan) (kit : Kit) (moments : Moments) (said : ℕ → ℕ → Bool → Type 0) (risen : Type 0) (answer : Turn) (old new : Sight)
    → Ends plan kit false moments said risen answer old new → (drain : Bool) → Ends plan kit drain moments said risen answer old new
ends_weaker plan kit moments said risen Stepped old new ends drain = ends
ends_weaker plan kit moments said risen Done old new ends drain = absurd (true≢false (sym ends.in_drain))
ends_weaker plan kit moments said risen Halted old new ends drain = ends
ends_weaker plan kit moments said risen Faulted old new ends drain = ends
ends_weaker plan kit moments said risen Spent old new ends drain = ends
ends_weaker plan kit moments said risen (Resting now until) old new ends drain = absurd ends
ends_weaker plan kit moments said risen NoMemory old new ends drain = absurd ends

-- a turn that did something waits for nothing
pub ends_at_once : (plan : FlusherPlan) (kit : Kit) (drain : Bool) (moments : Moments) (said : ℕ → ℕ → Bool → Type 0) (risen : Type 0) (answer : Turn) (old new : Sight) (now until : ℕ)
    → Ends plan kit drain moments said risen answer old new → answer ≡ Resting now until → ⊥
ends_at_once plan kit drain moments said risen answer old new now until ends is = subst (λ (t : Turn). Ends plan kit drain moments said risen t old new) is ends

-- outside the drain it isn't done
pub ends_undone : (plan : FlusherPlan) (kit : Kit) (moments : Moments) (said : ℕ → ℕ → Bool → Type 0) (risen : Type 0) (answer : Turn) (old new : Sight)
    → Ends plan kit false moments said risen answer old new → answer ≡ Done → ⊥
ends_undone plan kit moments said risen answer old new ends is =
    let by = subst (λ (t : Turn). Ends plan kit false moments said risen t old new) is ends in true≢false (sym by.in_drain)

-- what a turn that waits for nothing answers
pub answers_by : (plan : FlusherPlan) (kit : Kit) (drain : Bool) (told : ℕ → Type 0) (said : ℕ → ℕ → Bool → Type 0) (risen : Type 0) (answer : Turn) (old new : Sight) (moments : Moments)
    → AreTold told moments → (drain ≡ true → moments.estimates ≡ []) → HasCome told (wait_of drain old.work.phase) → Ends plan kit drain moments said risen answer old new
    → TurnAnswers plan kit drain told said risen answer old new
answers_by plan kit drain told said risen Stepped old new moments all none come ends = record { moments = moments; all_told = all; none_in_drain = none; come = come; does = ends }
answers_by plan kit drain told said risen Done old new moments all none come ends = record { moments = moments; all_told = all; none_in_drain = none; come = come; does = ends }
answers_by plan kit drain told said risen Halted old new moments all none come ends = record { moments = moments; all_told = all; none_in_drain = none; come = come; does = ends }
answers_by plan kit drain told said risen Faulted old new moments all none come ends = record { moments = moments; all_told = all; none_in_drain = none; come = come; does = ends }
answers_by plan kit drain told said risen Spent old new moments all none come ends = record { moments = moments; all_told = all; none_in_drain = none; come = come; does = ends }
answers_by plan kit drain told said risen (Resting now until) old new moments all none come ends = absurd ends
answers_by plan kit drain told said risen NoMemory old new moments all none come ends = absurd ends

-- what was left is left
pub left_more : (old mid new : Sight) → IsLeft old mid → IsLeft mid new → IsLeft old new
left_more old mid new p q = record {
  phase = q.phase ∙ p.phase;
  batch = q.batch ∙ p.batch;
  faults = q.faults ∙ p.faults;
  hard = q.hard ∙ p.hard;
  tallies = q.tallies ∙ p.tallies;
  wheel = q.wheel ∙ p.wheel;
  places = q.places ∙ p.places;
  cpu = q.cpu ∙ p.cpu;
  share = q.share ∙ p.share;
  est = q.est ∙ p.est;
  log = q.log ∙ p.log;
}

-- a turn answers so after its inodes were put
module _ (plan : FlusherPlan) (kit : Kit) (drain : Bool) (told : ℕ → Type 0) (said : ℕ → ℕ → Bool → Type 0) (risen : Type 0) (old mid new : Sight)
    (first : (moments : Moments) → Went plan kit moments old mid) (left : IsLeft old mid) where
  acts_after : (answer : Turn) → Acts drain told (wait_of drain mid.work.phase) (λ moments. Ends plan kit drain moments said risen answer mid new)
      → Acts drain told (wait_of drain old.work.phase) (λ moments. Ends plan kit drain moments said risen answer old new)
  acts_after answer acts = record {
    moments = acts.moments;
    all_told = acts.all_told;
    none_in_drain = acts.none_in_drain;
    come = subst (λ (p : Phase). HasCome told (wait_of drain p)) left.phase acts.come;
    does = ends_after plan kit acts.moments said old mid new (first acts.moments) drain risen answer acts.does;
  }

  pub answers_after : (answer : Turn) → TurnAnswers plan kit drain told said risen answer mid new → TurnAnswers plan kit drain told said risen answer old new
  answers_after Stepped acts = acts_after Stepped acts
  answers_after Done acts = acts_after Done acts
  answers_after Halted acts = acts_after Halted acts
  answers_after Faulted acts = acts_after Faulted acts
  answers_after Spent acts = acts_after Spent acts
  answers_after (Resting now until) rests = record {
    was_told = rests.was_told;
    until_is = rests.until_is ∙ ap (wait_of drain) left.phase;
    later = rests.later;
    steps = record { went = went_more plan kit no_moments old mid new (first no_moments) rests.steps.went; ready = rests.steps.ready };
    left = left_more old mid new left rests.left;
  }
  answers_after NoMemory none = absurd none

pub as_answers : (plan : FlusherPlan) (kit : Kit) (drain : Bool) (told : ℕ → Type 0) (said : ℕ → ℕ → Bool → Type 0) (risen : Type 0) (answer : Turn) (old new : Sight)
    → TurnAnswers plan kit drain told said risen answer old new → FlusherAnswers plan kit drain told said risen answer old new
as_answers plan kit drain told said risen Stepped old new acts = acts
as_answers plan kit drain told said risen Done old new acts = acts
as_answers plan kit drain told said risen Halted old new acts = acts
as_answers plan kit drain told said risen Faulted old new acts = acts
as_answers plan kit drain told said risen Spent old new acts = acts
as_answers plan kit drain told said risen (Resting now until) old new rests = rests
as_answers plan kit drain told said risen NoMemory old new none = absurd none

-- a turn that asks nothing of the disk
pub answers_risen : (plan : FlusherPlan) (kit : Kit) (drain : Bool) (told : ℕ → Type 0) (said : ℕ → ℕ → Bool → Type 0) (risen : Type 0) (answer : Turn) (old new : Sight)
    → TurnAnswers plan kit drain told said ⊥ answer old new → TurnAnswers plan kit drain told said risen answer old new
answers_risen plan kit drain told said risen Stepped old new acts = acts
answers_risen plan kit drain told said risen Done old new acts = acts
answers_risen plan kit drain told said risen Halted old new acts = acts
answers_risen plan kit drain told said risen Faulted old new acts = absurd acts.does.cause
answers_risen plan kit drain told said risen Spent old new acts = acts
answers_risen plan kit drain told said risen (Resting now until) old new rests = rests
answers_risen plan kit drain told said risen NoMemory old new none = absurd none

-- a flusher that gives a batch back waits for nothing
pub returning_answers : (plan : FlusherPlan) (kit : Kit) (drain : Bool) (told : ℕ → Type 0) (said : ℕ → ℕ → Bool → Type 0) (answer : Turn) (old new : Sight) (giving : Return) → old.work.phase ≡ Returning giving
    → Ends plan kit drain no_moments said ⊥ answer old new → TurnAnswers plan kit drain told said ⊥ answer old new
returning_answers plan kit drain told said answer old new giving at ends =
    answers_by plan kit drain told said ⊥ answer old new no_moments (record { batches = tt; estimates = tt }) (λ drains. refl) (inl (ap (wait_of drain) at)) ends

-- without a moment there is no estimate
none_timed : (moments : List ℕ) (estimate : Option EstEntry) → moments ≡ [] → IfSome estimate (λ (est : EstEntry). Contains moments est.estimate.at) → estimate ≡ None
none_timed moments None none at = refl
none_timed moments (Some est) none at = let has = subst (λ (l : List ℕ). Contains l est.estimate.at) none at in let low = has.1 in absurd (omega arith)

-- in the drain no entry tells a check or an estimate
plain_one : (flusher : ℕ) (moments : Moments) (e : Told) → moments.estimates ≡ [] → IsOfFlusher flusher e → IsTimed moments e → IsPlain e
plain_one flusher moments e none of at = record { no_check = of.no_check; no_estimate = none_timed moments.estimates (effect e).estimate none at.estimate }

pub plain_all : (flusher : ℕ) (moments : Moments) (added : List Told) → moments.estimates ≡ [] → Each (IsOfFlusher flusher) added → Each (IsTimed moments) added → Each IsPlain added
plain_all flusher moments [] none of at = tt
plain_all flusher moments (e ∷ added) none of at = (plain_one flusher moments e none of.0 at.0, plain_all flusher moments added none of.1 at.1)

-- ---- what stays ready

pub steady_same : (plan : FlusherPlan) (was is : FlusherWork) → HasLists plan is → is.phase ≡ was.phase → is.batch.items ≡ was.batch.items → is.faults ≡ was.faults → IsSteady plan was → IsSteady plan is
steady_same plan was is lists at claims faults steady = record {
  lists = lists;
  phase = subst (λ (z : List ℕ × Phase). IsPhase plan z.0 z.1) (λ i. (sym claims i, sym at i)) steady.phase;
  few_faults = subst (λ (n : ℕ). n < MOST_FAULTS) (sym faults) steady.few_faults;
}

pub ready_queue : (plan : FlusherPlan) (kit : Kit) (work : FlusherWork) (old new : Seats) → IsReady plan kit work old → Fits plan kit new → OnlyQueue old new
    → OnlyDevice plan.device old.queue new.queue → IsReady plan kit work new
ready_queue plan kit work old new ready fits queue device =
    let log : CpuJournal = record { entries = []; checks = []; estimates = [] } in
    ready_went plan kit no_moments (sight work old log None) (sight work new log None) (queue_quiet plan kit old new fits queue device no_moments work log None) ready ready.steady
    (owes_still plan old new (debts_same plan old new queue.cpu) ready.owes_none)

-- a bare flusher became idle
pub idles : (plan : FlusherPlan) (kit : Kit) (seats : Seats) (was is : FlusherWork) (until : ℕ) (kept : Bool) (moments : Moments) (log : CpuJournal) (written : Option ℕ) → IsReady plan kit was seats → was.batch.items ≡ []
    → is ≡ record was { phase = Idle until kept } → HasLists plan is → Went plan kit moments (sight was seats log written) (sight is seats log written)
    → Steps plan kit moments (sight was seats log written) (sight is seats log written)
idles plan kit seats was is until kept moments log written ready none same lists went =
    steps_by plan kit moments (sight was seats log written) (sight is seats log written) went ready
    (idle_steady plan is until kept lists (ap (λ (w : FlusherWork). w.phase) same) (ap (λ (w : FlusherWork). w.batch.items) same ∙ none) (subst (λ (w : FlusherWork). w.faults < MOST_FAULTS) (sym same) ready.steady.few_faults)) ready.owes_none

pub told_none : (told : ℕ → Type 0) → AreTold told no_moments
told_none told = record { batches = tt; estimates = tt }

-- ready where holds, rooms and debts are known
pub steps_from : (plan : FlusherPlan) (kit : Kit) (moments : Moments) (old new : Sight) → Went plan kit moments old new → HoldsPages plan old.work old.seats → HasRooms plan old.work old.seats → IsSteady plan new.work → OwesNothing plan new.seats
    → Steps plan kit moments old new
steps_from plan kit moments old new went holds rooms steady owes = record {
  went = went;
  ready = record { fits = went.fits; steady = steady; holds = holds_went plan kit moments old new went holds; rooms = rooms_went plan kit moments old new went rooms; owes_none = owes };
}

-- a scan without a batch became idle
pub idled : (plan : FlusherPlan) (kit : Kit) (seats : Seats) (was is : FlusherWork) (until : ℕ) (kept : Bool) (scan : Scan) (moments : Moments) (log : CpuJournal) (written : Option ℕ) → IsOpen plan kit scan was seats → was.batch.items ≡ []
    → is ≡ record was { phase = Idle until kept } → HasLists plan is → Went plan kit moments (sight was seats log written) (sight is seats log written)
    → Steps plan kit moments (sight was seats log written) (sight is seats log written)
idled plan kit seats was is until kept scan moments log written open' none same lists went =
    steps_from plan kit moments (sight was seats log written) (sight is seats log written) went open'.holds open'.rooms
    (idle_steady plan is until kept lists (ap (λ (w : FlusherWork). w.phase) same) (ap (λ (w : FlusherWork). w.batch.items) same ∙ none) (subst (λ (w : FlusherWork). w.faults < MOST_FAULTS) (sym same) open'.few_faults)) open'.owes_none

-- ---- waiting

pub wait_idle : (drain : Bool) (phase : Phase) (until : ℕ) (kept dropped : Bool) → phase ≡ Idle until kept → dropped ≡ (drain && not kept) → wait_of drain phase ≡ cond dropped 0 until
wait_idle drain phase until kept dropped at is = ap (wait_of drain) at ∙ ap (λ (b : Bool). cond b 0 until) (sym is)

pub come_dropped : (told : ℕ → Type 0) (drain : Bool) (phase : Phase) (until : ℕ) (kept dropped : Bool) → phase ≡ Idle until kept → dropped ≡ (drain && not kept) → dropped ≡ true → HasCome told (wait_of drain phase)
come_dropped told drain phase until kept dropped at is drops = inl (wait_idle drain phase until kept dropped at is ∙ ap (λ (b : Bool). cond b 0 until) drops)

pub wait_kept : (drain : Bool) (phase : Phase) (until : ℕ) (kept dropped : Bool) → phase ≡ Idle until kept → dropped ≡ (drain && not kept) → dropped ≡ false → wait_of drain phase ≡ until
wait_kept drain phase until kept dropped at is stays = wait_idle drain phase until kept dropped at is ∙ ap (λ (b : Bool). cond b 0 until) stays

pub come_by : (told : ℕ → Type 0) (wait until now : ℕ) → wait ≡ until → told now → until ≤ now → HasCome told wait
come_by told wait until now same was_told come = inr (now, was_told, (omega arith))

-- nothing changed
pub left_same : (s : Sight) → IsLeft s s
left_same s = record { phase = refl; batch = refl; faults = refl; hard = refl; tallies = refl; wheel = refl; places = refl; cpu = refl; share = refl; est = refl; log = refl }

pub rests_here : (plan : FlusherPlan) (kit : Kit) (drain : Bool) (told : ℕ → Type 0) (now until : ℕ) (work : FlusherWork) (seats : Seats) (log : CpuJournal) (written : Option ℕ) → IsReady plan kit work seats
    → told now → until ≡ wait_of drain work.phase → now < until → Rests plan kit drain told now until (sight work seats log written) (sight work seats log written)
rests_here plan kit drain told now until work seats log written ready was_told is later =
    let s = sight work seats log written in
    record {
      was_told = was_told;
      until_is = is;
      later = later;
      steps = record { went = goes_nowhere plan kit seats ready.fits no_moments work log written; ready = ready };
      left = left_same s;
    }

pub and_left : (a b : Bool) → (a && not b) ≡ true → a ≡ true
and_left true b is = refl
and_left false b is = absurd (true≢false (sym is))

pub and_not_right : (a b : Bool) → (a && not b) ≡ true → b ≡ false
and_not_right true true is = absurd (true≢false (sym is))
and_not_right true false is = refl
and_not_right false b is = absurd (true≢false (sym is))

-- ---- parts that make moments known

pub stepped_ends : (plan : FlusherPlan) (kit : Kit) (moments : Moments) (said : ℕ → ℕ → Bool → Type 0) (risen : Type 0) (answer : Turn) (old mid new : Sight) → answer ≡ Stepped
    → Went plan kit moments old mid → Steps plan kit moments mid new → Ends plan kit false moments said risen answer old new
stepped_ends plan kit moments said risen answer old mid new is first steps =
    subst (λ (t : Turn). Ends plan kit false moments said risen t old new) (sym is) (record { went = went_more plan kit moments old mid new first steps.went; ready = steps.ready })

pub ends_by_after : (plan : FlusherPlan) (kit : Kit) (told : ℕ → Type 0) (said : ℕ → ℕ → Bool → Type 0) (risen : Type 0) (answer : Turn) (old mid new : Sight) → ((moments : Moments) → Went plan kit moments old mid)
    → EndsBy told (λ moments. Ends plan kit false moments said risen answer mid new) → EndsBy told (λ moments. Ends plan kit false moments said risen answer old new)
ends_by_after plan kit told said risen answer old mid new first by = record {
  moments = by.moments;
  all_told = by.all_told;
  estimates_none = by.estimates_none;
  does = ends_after plan kit by.moments said old mid new (first by.moments) false risen answer by.does;
}

pub answers_scan : (plan : FlusherPlan) (kit : Kit) (drain : Bool) (told : ℕ → Type 0) (said : ℕ → ℕ → Bool → Type 0) (risen : Type 0) (answer : Turn) (old new : Sight) → wait_of drain old.work.phase ≡ 0
    → EndsBy told (λ moments. Ends plan kit false moments said risen answer old new) → TurnAnswers plan kit drain told said risen answer old new
answers_scan plan kit drain told said risen answer old new none by =
    answers_by plan kit drain told said risen answer old new by.moments by.all_told (λ drains. by.estimates_none) (inl none) (ends_weaker plan kit by.moments said risen answer old new by.does drain)

-- a scan stays open
pub opens_still : (plan : FlusherPlan) (kit : Kit) (scan : Scan) (old new : Seats) (was is : FlusherWork) → IsOpen plan kit scan was old → GoesKept plan kit old new was is → HasLists plan is → OnlyWaiting plan was is → KeepsDebts plan old new
    → IsOpen plan kit scan is new
opens_still plan kit scan old new was is open' goes lists only debts =
    let log : CpuJournal = record { entries = []; checks = []; estimates = [] } in
    let s = sight was old log None in
    let t = sight is new log None in
    let went = goes no_moments log None in
    record {
      fits = went.fits;
      lists = lists;
      phase = only.phase ∙ open'.phase;
      few_faults = subst (λ (n : ℕ). n < MOST_FAULTS) (sym only.faults) open'.few_faults;
      stands = subst (λ (l : List ℕ). IsScan plan l scan) (sym (λ i. (only.batch i).items)) open'.stands;
      holds = holds_went plan kit no_moments s t went open'.holds;
      rooms = rooms_went plan kit no_moments s t went open'.rooms;
      owes_none = owes_still plan old new debts open'.owes_none;
    }

-- also where its place is kept
pub opens_kept : (plan : FlusherPlan) (kit : Kit) (scan : Scan) (seats : Seats) (was is : FlusherWork) → IsOpen plan kit scan was seats → KeepsPlace plan scan was is → HasLists plan is → IsOpen plan kit scan is seats
opens_kept plan kit scan seats was is open' keeps lists =
    let log : CpuJournal = record { entries = []; checks = []; estimates = [] } in
    let s = sight was seats log None in
    let t = sight is seats log None in
    let went = place_goes plan kit scan seats was is open'.fits keeps no_moments log None in
    record {
      fits = open'.fits;
      lists = lists;
      phase = keeps.phase ∙ open'.phase;
      few_faults = subst (λ (n : ℕ). n < MOST_FAULTS) (sym keeps.faults) open'.few_faults;
      stands = subst (λ (l : List ℕ). IsScan plan l scan) (sym (λ i. (keeps.batch i).items)) open'.stands;
      holds = holds_went plan kit no_moments s t went open'.holds;
      rooms = rooms_went plan kit no_moments s t went open'.rooms;
      owes_none = open'.owes_none;
    }

-- the mark of its inode may have been set, and its place is kept
pub record KeptOpen (plan : FlusherPlan) (kit : Kit) (scan : Scan) (old new : Seats) (was is : FlusherWork) : Type 0 where
  pub goes : GoesKept plan kit old new was is
  pub opened : IsOpen plan kit scan is new
  pub batch : is.batch.items ≡ was.batch.items
  pub faults : is.faults ≡ was.faults

pub kept_open : (plan : FlusherPlan) (kit : Kit) (scan : Scan) (old new : Seats) (was mid is : FlusherWork) → IsOpen plan kit scan was old → GoesKept plan kit old new was mid → HasLists plan mid → OnlyWaiting plan was mid → KeepsDebts plan old new
    → KeepsPlace plan scan mid is → HasLists plan is → KeptOpen plan kit scan old new was is
kept_open plan kit scan old new was mid is open' goes lists only debts keeps lists' =
    let still = opens_still plan kit scan old new was mid open' goes lists only debts in
    record {
      goes = kept_more plan kit old new new was mid is goes (place_goes plan kit scan new mid is still.fits keeps);
      opened = opens_kept plan kit scan new mid is still keeps lists';
      batch = (λ i. (keeps.batch i).items) ∙ (λ i. (only.batch i).items);
      faults = keeps.faults ∙ only.faults;
    }

-- and opens where a page was passed
pub opens_by : (plan : FlusherPlan) (kit : Kit) (scan next : Scan) (old new : Seats) (was is : FlusherWork) (before behind : CpuJournal) → IsReady plan kit was old → Goes plan kit old new before behind was is → HasLists plan is
    → HasPassed plan scan next was is → KeepsDebts plan old new → IsOpen plan kit next is new
opens_by plan kit scan next old new was is before behind ready goes lists passes debts =
    let s = sight was old before None in
    let t = sight is new behind None in
    let went = goes no_moments None in
    record {
      fits = went.fits;
      lists = lists;
      phase = passes.phase;
      few_faults = subst (λ (n : ℕ). n < MOST_FAULTS) (sym passes.faults) ready.steady.few_faults;
      stands = passes.stands;
      holds = holds_went plan kit no_moments s t went ready.holds;
      rooms = rooms_went plan kit no_moments s t went ready.rooms;
      owes_none = owes_still plan old new debts ready.owes_none;
    }
