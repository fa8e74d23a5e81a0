-- What turns say of writeback by age, from what they did.
use Rattle.std.proofs.Common.{◌≡◌, ℕ, zero, suc, ◌≤◌, Bool, true, false, true≢false, cond, eqb, ltb, ◌||◌, ◌&&◌, ◌⊎◌, List, [], ◌∷◌, length, Contains, Option, Some, None, IfSome, inl, inr, sym, refl, ap, ◌∙◌, subst, arith, eqb-true}
use Rattle.std.proofs.lemmas.Bool.{ltb-false, ltb-true}
use Rattle.wbt_flusher.proofs.Common.{AreInOrder, Waiting, Due, Trace, effect, Told, CpuJournal, Logged, Worker, logged_nothing, Kit, Turn, Stepped, Resting, Done, Halted, Faulted, Spent, NoMemory, HasWheel, pairs_of, FlusherAnswers, Did, IsTimed, Moments, no_moments, Sight, list_by, MeasuresBefore, WeighsBefore, DomainLoad}
use Rattle.wbt_kit.proofs.Common.{at_least_zero, Wait, of_part, MayWait, waited, opening}
use Rattle.wbt_expiry.specs.Kept.{NoneDue}
use Rattle.wbt_expiry.specs.Waiting.{ComesBefore, Each, comes_before, with_pair}
use Rattle.wbt_expiry.proofs.Sorting.{each_put}
use Rattle.wbt_journal.specs.Each as journal
use Rattle.wbt_journal.specs.Effects.{WaitMove, notices, ages, takes_first}
use Rattle.wbt_journal.specs.Waits.{MayAge, noticed_pair, without_first}
use Rattle.wbt_journal.specs.Walk.{Along}
use Rattle.wbt_run_laws.specs.Notes.{no_fraction}
use Rattle.wbt_run_laws.specs.Shown.{ShownFlusher, first_shown}
use Rattle.wbt_run_laws.specs.Waits.{WaitsInTurn, list_after}
use Rattle.wbt_run_laws.specs.Worker.{empty_log}
use Rattle.wbt_flusher.specs.Aged.{EntryIsInTime, IsIdleTurn, IsInTime, MoveIsInTime, WritesForAge, WritesInTime, WritesWhatIsDue}
use Rattle.wbt_flusher.specs.Ageing.{RestsByAge, ScansByAge, TakesByAge, as_it_is_over, for_its_age}
use Rattle.wbt_flusher.specs.Answers.{AreTold}
use Rattle.wbt_flusher.specs.Did.{waited_at}
use Rattle.wbt_flusher.specs.Reads as reads
use Rattle.wbt_flusher.specs.Reads.{Measures, MeasuresAll, is_another, is_first, is_updated, is_young}
use Rattle.wbt_flusher.specs.Took.{Decides, FlusherTook, Took, by_age, drains, flies, is_calm, is_over, returns, scans, tests}
use Rattle.wbt_flusher.specs.Weighs as weighs
use Rattle.wbt_flusher.specs.Weighs.{WeighsAll, WeighsInGroup, WeighsNext, has_none, has_one, is_weighed, weighs_each, weighs_none}
use Rattle.wbt_flusher.specs.declared.background.Read.{Read}
use Rattle.wbt_flusher.specs.declared.work.FlusherWork.{FlusherWork}
use Rattle.wbt_flusher.specs.declared.work.Phase.{Phase}
use Rattle.wbt_flusher.specs.declared.work.Phase.TheVariants.{Idle, Scanning, Flying, Returning, Failed}
use Rattle.wbt_flusher.specs.declared.plan.FlusherPlan.{FlusherPlan}
use Rattle.wbt_flusher.proofs.Acting.{own_flusher_is}
use Rattle.wbt_flusher.proofs.Ending.{told_none}

-- ---- a list that rises by moments

-- none is due before one that stands before it
unfoldable Rises : (pairs : List Due) → Type 0
Rises [] = Unit {0}
Rises (pair ∷ pairs) = Each (λ other. pair.due ≤ other.due) pairs × Rises pairs

each_weaker : (P Q : Due → Type 0) → ((pair : Due) → P pair → Q pair) → (pairs : List Due) → Each P pairs → Each Q pairs
each_weaker P Q weaker [] all = tt
each_weaker P Q weaker (pair ∷ pairs) all = (weaker pair all.0, each_weaker P Q weaker pairs all.1)

not_later : (pair other : Due) → ComesBefore pair other → pair.due ≤ other.due
not_later pair other (inl less) = omega arith
not_later pair other (inr same) = let at = same.0 in omega arith

rises : (pairs : List Due) → AreInOrder pairs → Rises pairs
unfolding AreInOrder Rises
rises [] order = tt
rises (pair ∷ pairs) order = (each_weaker (λ other. _) (λ other. pair.due ≤ other.due) (λ other is. not_later pair other is.0) pairs order.0, rises pairs order.1)

-- by the test of which comes first
before_by : (pair other : Due) → comes_before pair other ≡ true → pair.due ≤ other.due
before_by pair other is = by (ltb pair.due other.due) refl is
  where
    and_left : (a b : Bool) → (a && b) ≡ true → a ≡ true
    and_left true b is = refl
    and_left false b is = absurd (true≢false (sym is))

    by : (b : Bool) → ltb pair.due other.due ≡ b → (b || (eqb pair.due other.due && ltb pair.inode other.inode)) ≡ true → pair.due ≤ other.due
    by true less is = let low = ltb-true pair.due other.due less in omega arith
    by false less is = let same = eqb-true pair.due other.due (and_left (eqb pair.due other.due) (ltb pair.inode other.inode) is) in omega arith

after_by : (pair other : Due) → comes_before pair other ≡ false → other.due ≤ pair.due
after_by pair other is = by (ltb pair.due other.due) refl is
  where
    by : (b : Bool) → ltb pair.due other.due ≡ b → (b || (eqb pair.due other.due && ltb pair.inode other.inode)) ≡ false → other.due ≤ pair.due
    by true less is = absurd (true≢false is)
    by false less is = ltb-false pair.due other.due less

rises_put : (pair : Due) (pairs : List Due) → Rises pairs → Rises (with_pair pair pairs)
unfolding Rises with_pair
rises_put pair [] up = (tt, tt)
rises_put pair (o ∷ l) up = elim (comes_before pair o) as (λ b. comes_before pair o ≡ b → Rises (with_pair pair (o ∷ l))) [
  | true ↦ λ e.
      let low = before_by pair o e in
      rw (e, with_pair) ((low, each_weaker (λ other. o.due ≤ other.due) (λ other. pair.due ≤ other.due) (λ other more. omega arith) l up.0), up)
  | false ↦ λ e.
      let low = after_by pair o e in
      rw (e, with_pair) (each_put (λ other. o.due ≤ other.due) pair l low up.0, rises_put pair l up.1)
] refl

rises_rest : (pairs : List Due) → Rises pairs → Rises (without_first pairs)
unfolding Rises
rises_rest [] up = tt
rises_rest (pair ∷ pairs) up = up.1

rises_after : (trace : Trace) (move : WaitMove) (pairs : List Due) → Rises pairs → Rises (waited trace move pairs)
rises_after trace (notices inode since) pairs up = rises_put (noticed_pair trace inode since) pairs up
rises_after trace (ages inode due now) pairs up = rises_rest pairs up
rises_after trace (takes_first inode) pairs up = rises_rest pairs up

-- ---- along what a turn told

has_it : (P : ℕ → Type 0) (xs : List ℕ) (x : ℕ) → journal.Each P xs → Contains xs x → P x
has_it P [] x all has = let low = has.1 in absurd (omega arith)
has_it P (y ∷ ys) x all (zero, low, is) = subst P is all.0
has_it P (y ∷ ys) x all (suc k, low, is) = has_it P ys x all.1 (k, (omega arith), is)

first_in_time : (told : ℕ → Type 0) (inode due now : ℕ) (pairs : List Due) → told now → MayAge inode due now pairs → Rises pairs → IsInTime told inode due now pairs
unfolding Rises
first_in_time told inode due now [] was may up = absurd may.first
first_in_time told inode due now (pair ∷ rest) was may up = record {
  was_told = was;
  by_now = may.by_now;
  rest = rest;
  first = λ i. record { due = may.moment i; inode = may.first i } ∷ rest;
  none_before = (let same = may.moment in omega arith, each_weaker (λ other. pair.due ≤ other.due) (λ other. due ≤ other.due) (λ other less. let same = may.moment in omega arith) rest up.0);
}

module _ (told : ℕ → Type 0) (moments : List ℕ) (all : journal.Each told moments) (trace : Trace) (flusher : ℕ) where
  move_in_time : (move : WaitMove) (pairs : List Due) → MayWait trace flusher move pairs → IfSome (waited_at move) (λ now. Contains moments now) → Rises pairs → MoveIsInTime told move pairs
  move_in_time (ages inode due now) pairs may has up = first_in_time told inode due now pairs (has_it told moments now all has) may up
  move_in_time (notices inode since) pairs may has up = tt
  move_in_time (takes_first inode) pairs may has up = tt

  one_in_time : (part : Option Wait) (pairs : List Due) → IfSome part (λ (wait : Wait). wait.flusher ≡ flusher → MayWait trace flusher wait.move pairs)
      → IfSome part (λ (wait : Wait). IfSome (waited_at wait.move) (λ now. Contains moments now)) → Rises pairs → IfSome part (λ (wait : Wait). wait.flusher ≡ flusher → MoveIsInTime told wait.move pairs)
  one_in_time None pairs may has up = tt
  one_in_time (Some wait) pairs may has up = λ own. move_in_time wait.move pairs (may own) has up

  rises_one : (part : Option Wait) (pairs : List Due) → Rises pairs → Rises (of_part pairs (λ (wait : Wait). cond (eqb wait.flusher flusher) (waited trace wait.move pairs) pairs) part)
  rises_one None pairs up = up
  rises_one (Some wait) pairs up = by (eqb wait.flusher flusher)
    where
      by : (b : Bool) → Rises (cond b (waited trace wait.move pairs) pairs)
      by true = rises_after trace wait.move pairs up
      by false = up

  all_in_time : (pairs : List Due) (added : List Told) → Along (WaitsInTurn trace flusher) (list_after trace flusher) pairs added
      → journal.Each (λ (e : Told). IfSome (effect e).wait (λ (wait : Wait). IfSome (waited_at wait.move) (λ now. Contains moments now))) added → Rises pairs
      → Along (EntryIsInTime told flusher) (list_after trace flusher) pairs added
  all_in_time pairs [] may timed up = tt
  all_in_time pairs (e ∷ added) may timed up = (
    one_in_time (effect e).wait pairs may.0 timed.0 up,
    all_in_time (list_after trace flusher pairs e) added may.1 timed.1 (rises_one (effect e).wait pairs up),
  )

-- of any worker
no_worker : (trace : Trace) → Worker
no_worker trace = record {
  shown = first_shown trace (λ domain. record { thresh = 0; bg = 0; hard = 0 });
  notes = record { shares = λ domain. []; kept = λ domain context. no_fraction; estimates = λ context. opening };
  log = empty_log;
}

-- of one turn
module _ (plan : FlusherPlan) (kit : Kit) (told : ℕ → Type 0) (old new : Sight) (order : AreInOrder (list_by old.work)) where
  in_time_by : (moments : Moments) → AreTold told moments → Did plan kit moments old new → WritesInTime plan kit told old new
  in_time_by moments all did = record {
    added = did.added;
    logged = did.logged;
    in_time = λ trace work.
        let turn = (did.turn trace work (no_worker trace)).turn in
        all_in_time told moments.estimates all.estimates trace plan.flusher (list_by old.work) did.added
        (subst (λ (l : List Due). Along (WaitsInTurn trace plan.flusher) (list_after trace plan.flusher) l did.added) (ap (λ (is : ShownFlusher). is.waits) (own_flusher_is plan (no_worker trace) old)) turn.waited.allowed)
        (timed_waits moments did.added did.moments) (rises (list_by old.work) order);
  }
    where
      timed_waits : (moments : Moments) (added : List Told) → journal.Each (IsTimed moments) added
          → journal.Each (λ (e : Told). IfSome (effect e).wait (λ (wait : Wait). IfSome (waited_at wait.move) (λ now. Contains moments.estimates now))) added
      timed_waits moments [] timed = tt
      timed_waits moments (e ∷ added) timed = (timed.0.wait, timed_waits moments added timed.1)

  pub writes_in_time : (drain : Bool) (said : ℕ → ℕ → Bool → Type 0) (risen : Type 0) (answer : Turn) → FlusherAnswers plan kit drain told said risen answer old new → WritesInTime plan kit told old new
  writes_in_time drain said risen Stepped acts = in_time_by acts.moments acts.all_told acts.does.went.did
  writes_in_time drain said risen Done acts = in_time_by acts.moments acts.all_told acts.does.steps.went.did
  writes_in_time drain said risen Halted acts = in_time_by acts.moments acts.all_told acts.does.went.did
  writes_in_time drain said risen Faulted acts = in_time_by acts.moments acts.all_told acts.does.went.did
  writes_in_time drain said risen Spent acts = in_time_by acts.moments acts.all_told acts.does.steps.went.did
  writes_in_time drain said risen (Resting now until) rests = in_time_by no_moments (told_none told) rests.steps.went.did
  writes_in_time drain said risen NoMemory none = record {
    added = [];
    logged = subst (λ (l : CpuJournal). Logged [] old.log l) (sym none.left.log) (logged_nothing old.log);
    in_time = λ trace work. tt;
  }

-- a wheel's list is in order
pub wheel_order : (plan : FlusherPlan) (wheel : Option Waiting) → HasWheel plan wheel → AreInOrder (pairs_of wheel)
unfolding AreInOrder
wheel_order plan None its = tt
wheel_order plan (Some waiting) its = its.order

-- ---- the tests of an idle flusher leave its wheel

module _ (plan : FlusherPlan) (kit : Kit) where
  measures_one : (now : ℕ) (global : Read) (context : ℕ) (old new : Sight) → Measures plan kit now global context old new → new.work.wheel ≡ old.work.wheel
  measures_one now global context old new (reads.is_elsewhere of same) = ap (λ (s : Sight). s.work.wheel) same
  measures_one now global context old new (is_young of young) = ap (λ (w : FlusherWork). w.wheel) young.work
  measures_one now global context old new (is_updated of updates) = updates.holds.only.wheel

  measures_some : (now : ℕ) (global : Read) (context : ℕ) (old new : Sight) → MeasuresBefore plan kit now global context old new → new.work.wheel ≡ old.work.wheel
  measures_some now global zero old new same = ap (λ (s : Sight). s.work.wheel) same
  measures_some now global (suc context) old new (mid, before, one) = measures_one now global context mid new one ∙ measures_some now global context old mid before

  measures_wheel : (now : ℕ) (global : Read) (old new : Sight) → MeasuresAll plan kit now global old new → new.work.wheel ≡ old.work.wheel
  measures_wheel now global old new (is_first leads before) = measures_some now global (length plan.contexts) old new before
  measures_wheel now global old new (is_another leads same) = ap (λ (s : Sight). s.work.wheel) same

  weighs_group : (context reading : ℕ) (over : Bool) (old new : Sight) → WeighsInGroup plan kit context reading over old new → new.work.wheel ≡ old.work.wheel
  weighs_group context reading over old new (has_none none is same) = ap (λ (s : Sight). s.work.wheel) same
  weighs_group context reading over old new (has_one some weighs) = weighs.holds.only.wheel

  weighs_one : (context : ℕ) (over : Bool) (old new : Sight) → WeighsNext plan kit context over old new → new.work.wheel ≡ old.work.wheel
  weighs_one context over old new (weighs.is_elsewhere of is same) = ap (λ (s : Sight). s.work.wheel) same
  weighs_one context over old new (is_weighed of one) =
      let both = one.weighs in
      weighs_group context (at_least_zero one.count.value) both.in_group both.between new both.group ∙ both.global.holds.only.wheel

  weighs_some : (context : ℕ) (over : Bool) (old new : Sight) → WeighsBefore plan kit context over old new → new.work.wheel ≡ old.work.wheel
  weighs_some zero over old new same = ap (λ (s : Sight). s.work.wheel) same.1
  weighs_some (suc context) over old new (mid, before, last, weighed, one, is) = weighs_one context last mid new one ∙ weighs_some context before old mid weighed

  weighs_wheel : (over : Bool) (old new : Sight) → WeighsAll plan kit over old new → new.work.wheel ≡ old.work.wheel
  weighs_wheel over old new (weighs_each strict before) = weighs_some (length plan.contexts) over old new before
  weighs_wheel over old new (weighs_none strict is same) = ap (λ (s : Sight). s.work.wheel) same

-- ---- what is due is written

abbrev is_idle : (phase : Phase) → Bool
is_idle (Idle until kept) = true
is_idle (Scanning scan) = false
is_idle (Flying flight) = false
is_idle (Returning giving) = false
is_idle Failed = false

apart : (phase : Phase) (until : ℕ) (kept : Bool) (other : Phase) → phase ≡ Idle until kept → phase ≡ other → is_idle other ≡ false → ⊥
apart phase until kept other idle is not_idle = true≢false (sym (ap is_idle idle) ∙ ap is_idle is ∙ not_idle)

module _ (plan : FlusherPlan) (kit : Kit) (told : ℕ → Type 0) where
  writes_by : (now : ℕ) (over : Bool) (noticed new : Sight) → ScansByAge plan kit now over noticed new ⊎ RestsByAge now over noticed new → (NoneDue now (list_by noticed.work) → ⊥) → WritesForAge plan kit now noticed new
  writes_by now over noticed new (inl begun) some = by begun.takes
    where
      by : TakesByAge plan now over begun.inode noticed begun.taken → WritesForAge plan kit now noticed new
      by (for_its_age takes) = record { inode = begun.inode; taken = begun.taken; takes = takes; begins = begun.begins; log = begun.log }
      by (as_it_is_over none so takes) = absurd (some none)
  writes_by now over noticed new (inr rests) some = absurd (some rests.none_due)

  decides_due : (now : ℕ) (loads : List DomainLoad) (own : Bool) (old tested new : Sight) → told now → plan.ages ≡ true → tested.work.wheel ≡ old.work.wheel → Decides plan kit now loads own tested new
      → WritesWhatIsDue plan kit told old new
  decides_due now loads own old tested new was ageing same (is_calm none calm own' seats log work) = absurd (true≢false (sym ageing ∙ none))
  decides_due now loads own old tested new was ageing same (is_over none any takes) = absurd (true≢false (sym ageing ∙ none))
  decides_due now loads own old tested new was ageing same (by_age so over over_is does) = record {
    now = now;
    was_told = was;
    tested = tested;
    same_list = same;
    noticed = does.noticed;
    notices = does.notices;
    writes = writes_by now over does.noticed new does.does;
  }

  took_due : (drain : Bool) (said : ℕ → ℕ → Bool → Type 0) (old new : Sight) → IsIdleTurn plan drain old → Took plan kit drain told said old new → WritesWhatIsDue plan kit told old new
  took_due drain said old new idle (tests t) =
      decides_due t.now (t.tests.tested.global ∷ t.tests.tested.others) t.tests.own old t.tests.weighed new t.was_told idle.ageing
      (weighs_wheel plan kit t.tests.own t.tests.measured t.tests.weighed t.tests.weighs ∙ measures_wheel plan kit t.now t.tests.test.global _ t.tests.measured t.tests.measures) t.tests.decides
  took_due drain said old new idle (drains d) = absurd (true≢false (sym d.in_drain ∙ idle.outside))
  took_due drain said old new idle (scans s) = absurd (apart old.work.phase idle.until idle.kept (Scanning s.scan) idle.phase s.phase refl)
  took_due drain said old new idle (flies f) = absurd (apart old.work.phase idle.until idle.kept (Flying f.flight) idle.phase f.phase refl)
  took_due drain said old new idle (returns r) = absurd (apart old.work.phase idle.until idle.kept (Returning r.giving) idle.phase r.phase refl)

  pub writes_what_is_due : (drain : Bool) (said : ℕ → ℕ → Bool → Type 0) (old new : Sight) → FlusherTook plan kit drain told said old new → IsIdleTurn plan drain old → WritesWhatIsDue plan kit told old new
  writes_what_is_due drain said old new took idle =
      let left = took.left in
      let due = took_due drain said took.put new (record { outside = idle.outside; ageing = idle.ageing; until = idle.until; kept = idle.kept; phase = left.phase ∙ idle.phase }) took.took in
      record {
        now = due.now;
        was_told = due.was_told;
        tested = due.tested;
        same_list = due.same_list ∙ left.wheel;
        noticed = due.noticed;
        notices = due.notices;
        writes = due.writes;
      }
