-- At a moment of a run the events of a CPU's part lead to a side that stands as its tasks do: what moves make of that.
use Rattle.std.proofs.Common.{◌≡◌, ◌≢◌, ℕ, zero, suc, ◌<◌, Bool, true, false, List, [], ◌∷◌, ◌++◌, length, map, Option, Some, None, IfSome, refl, sym, ◌∙◌, ap, subst}
use Rattle.std.specs.List.{list_any}
use Rattle.std.proofs.lemmas.List.{append-nil, map-append}
use mathlib.Core.Logic.{dite}
use native.Mathlib.Decide.{ℕ_discrete}
use Rattle.wbt_replay_order.proofs.Common.{Estimate, first_estimate, CpuLocal, Trace, nth_estimate, DecidesBy, IsQuiet, effect, of_part, estimate_in, estimates_of, tells, ratelimit_pages, item, ends, Side, is_own_task, Told, Along, CheckEntry, Walked, flat_append, walked_more, State, cpu_of, task_of, Cpu, opening_moment, is_end}
use Rattle.wbt_journal.specs.Checks.{MayCheck, Stands, is_judged}
use Rattle.wbt_journal.specs.Effects.{Write}
use Rattle.wbt_journal.specs.Items.{begins}
use Rattle.wbt_journal.specs.Lawful.{item_of_event, items_among}
use Rattle.wbt_journal.specs.Side.{Event, first_side, side_after, side_after_check, side_after_write}
use Rattle.wbt_journal.proofs.Parting.{along_more}
use Rattle.wbt_run_laws.proofs.Walking.{along_weaker}
use Rattle.wbt_replay_moves.specs.declared.state.Whose.TheVariants as whose
use Rattle.wbt_replay_points.proofs.Lawful.Estimating.{publisher, estimates_on}
use Rattle.wbt_replay_points.proofs.Lawful.Points.{task_on}
use Rattle.wbt_replay_points.proofs.Lawful.Same.{told_of, task_view, EndsLater, GoesOn}
use Rattle.wbt_replay_points.proofs.Lawful.Siding.{View, is_waiting}
use Rattle.wbt_replay_points.proofs.Lawful.Standing.{StandsAs, others_stand}

-- ---- a CPU's events

-- a check names its estimate among these, and decides by it
abbrev pub DecidesNamed : (trace : Trace) (among : ℕ → List Estimate) (s : Side) (check : CheckEntry) → Type 0
DecidesNamed trace among s check = (check.context < length trace.contexts) × DecidesBy trace s check (nth_estimate check.estimate (first_estimate trace check.context opening_moment ∷ among check.context))

abbrev pub DecidesAmong : (trace : Trace) (among : ℕ → List Estimate) (s : Side) (event : Event) → Type 0
DecidesAmong trace among s (item (begins cpu)) = Unit {0}
DecidesAmong trace among s (item (tells cpu e)) = IfSome (effect e).check (DecidesNamed trace among s)
DecidesAmong trace among s (ends task) = Unit {0}

abbrev pub goes : (trace : Trace) (s : Side) (event : Event) → Side
goes trace s event = side_after trace opening_moment s event

-- events of what the CPU told, which lead to the side
pub record LeadsTo (trace : Trace) (cpu : ℕ) (among : ℕ → List Estimate) (told : List Told) (s : Side) : Type 0 where
  pub events : List Event
  pub are : items_among events ≡ map (tells cpu) told
  pub decide : Along (DecidesAmong trace among) (goes trace) (first_side trace) events
  pub walked : Walked (Stands trace) (goes trace) (first_side trace) events s

-- ---- estimates that were added

pub record IsLonger {A : Type 0} (old new : List A) : Type 0 where
  pub more : List A
  pub is : new ≡ old ++ more

pub nth_more : (n : ℕ) (old more : List Estimate) (e : Estimate) → nth_estimate n old ≡ Some e → nth_estimate n (old ++ more) ≡ Some e
nth_more n [] more e is = absurd (cc is)
nth_more zero (x ∷ old) more e is = is
nth_more (suc n) (x ∷ old) more e is = nth_more n old more e is

decides_longer : (trace : Trace) (s : Side) (check : CheckEntry) (old new : List Estimate) → IsLonger old new
    → DecidesBy trace s check (nth_estimate check.estimate (first_estimate trace check.context opening_moment ∷ old)) → DecidesBy trace s check (nth_estimate check.estimate (first_estimate trace check.context opening_moment ∷ new))
decides_longer trace s check old new longer decides = by_found (nth_estimate check.estimate (first_estimate trace check.context opening_moment ∷ old)) refl decides
  where
    by_found : (found : Option Estimate) → nth_estimate check.estimate (first_estimate trace check.context opening_moment ∷ old) ≡ found → DecidesBy trace s check found
        → DecidesBy trace s check (nth_estimate check.estimate (first_estimate trace check.context opening_moment ∷ new))
    by_found None is by = absurd by
    by_found (Some e) is by =
        subst (DecidesBy trace s check)
        (sym (ap (λ (l : List Estimate). nth_estimate check.estimate (first_estimate trace check.context opening_moment ∷ l)) longer.is ∙ nth_more check.estimate (first_estimate trace check.context opening_moment ∷ old) longer.more e is)) by

still_decides : (trace : Trace) (old new : ℕ → List Estimate) → ((k : ℕ) → IsLonger (old k) (new k)) → (s : Side) (event : Event) → DecidesAmong trace old s event → DecidesAmong trace new s event
still_decides trace old new longer s (item (begins cpu)) is = tt
still_decides trace old new longer s (ends task) is = tt
still_decides trace old new longer s (item (tells cpu e)) is = by_check (effect e).check is
  where
    by_check : (which : Option CheckEntry) → IfSome which (DecidesNamed trace old s) → IfSome which (DecidesNamed trace new s)
    by_check None h = tt
    by_check (Some check) h = (h.0, decides_longer trace s check (old check.context) (new check.context) (longer check.context) h.1)

-- events more
pub leads_on : (trace : Trace) (cpu : ℕ) (old new : ℕ → List Estimate) (told added told2 : List Told) (s s2 : Side) (events : List Event) → ((k : ℕ) → IsLonger (old k) (new k)) → told2 ≡ told ++ added
    → items_among events ≡ map (tells cpu) added → Along (DecidesAmong trace new) (goes trace) s events → Walked (Stands trace) (goes trace) s events s2 → LeadsTo trace cpu old told s → LeadsTo trace cpu new told2 s2
leads_on trace cpu old new told added told2 s s2 events longer grew are decide walked h = record {
  events = h.events ++ events;
  are = flat_append item_of_event h.events events ∙ (λ i. h.are i ++ are i) ∙ sym (map-append (tells cpu) told added) ∙ ap (map (tells cpu)) (sym grew);
  decide = along_more (DecidesAmong trace new) (goes trace) (first_side trace) h.events events
      (along_weaker (DecidesAmong trace old) (DecidesAmong trace new) (goes trace) (still_decides trace old new longer) (first_side trace) h.events h.decide)
      (subst (λ (x : Side). Along (DecidesAmong trace new) (goes trace) x events) (sym h.walked.reached) decide);
  walked = walked_more (Stands trace) (goes trace) (first_side trace) s s2 h.events events h.walked walked;
}

-- ---- the state

abbrev pub views : (s : State) (t : ℕ) → View
views s t = task_view (task_of t s)

abbrev pub among : (trace : Trace) (s : State) (k : ℕ) → List Estimate
among trace s k = estimates_on k (cpu_of (publisher trace k) s)

pub record HasSide (trace : Trace) (i : ℕ) (s : State) : Type 0 where
  pub side : Side
  pub stands : StandsAs trace i (cpu_of i s).local (views s) side
  pub leads : LeadsTo trace i (among trace s) (told_of (cpu_of i s)) side
  -- a task waits for its end in its turn alone
  pub turn : (t : ℕ) → is_own_task trace i t ≡ true → is_waiting trace t (views s t) ≡ true → ((cpu_of i s).turn.whose ≡ whose.Task t) × (list_any is_end (cpu_of i s).todo ≡ true)
  pub later : EndsLater (cpu_of i s).todo

pub record HasSides (trace : Trace) (s : State) : Type 0 where
  pub rate : s.ratelimit_pages ≡ ratelimit_pages trace opening_moment
  pub each : (i : ℕ) → i < trace.cpus → HasSide trace i s

-- ---- moves

-- a CPU's own task is no other's
pub one_cpu : (trace : Trace) (i j t : ℕ) → is_own_task trace i t ≡ true → is_own_task trace j t ≡ true → i ≡ j
one_cpu trace i j t mine theirs = sym (task_on trace i t mine).cpu_is ∙ (task_on trace j t theirs).cpu_is

-- no other task of a CPU waits in a task's turn
pub alone_in : (trace : Trace) (i task : ℕ) (s : State) → HasSide trace i s → (cpu_of i s).turn.whose ≡ whose.Task task → (t : ℕ) → is_own_task trace i t ≡ true → t ≢ task → is_waiting trace t (views s t) ≡ false
alone_in trace i task s h turn t mine other = is_false (is_waiting trace t (views s t)) (λ waits. other (same_task (sym (h.turn t mine waits).0 ∙ turn)))
  where
    is_false : (b : Bool) → (b ≡ true → ⊥) → b ≡ false
    is_false true none = absurd (none refl)
    is_false false none = refl

    same_task : whose.Task t ≡ whose.Task task → t ≡ task
    same_task e = cc e

-- the estimates told where each CPU told more
pub among_longer : (trace : Trace) (s u : State) → ((i : ℕ) → IsLonger (told_of (cpu_of i s)) (told_of (cpu_of i u))) → (k : ℕ) → IsLonger (among trace s k) (among trace u k)
among_longer trace s u grew k =
    let p : ℕ = publisher trace k in
    record { more = estimates_of k (grew p).more; is = ap (estimates_of k) (grew p).is ∙ flat_append (estimate_in k) (told_of (cpu_of p s)) (grew p).more }

pub same_longer : {A : Type 0} (old new : List A) → new ≡ old → IsLonger old new
same_longer old new same = record { more = []; is = same ∙ sym (append-nil old) }

-- one CPU that tells and counts what it did, where its tasks are as they were
pub still_side : (trace : Trace) (i : ℕ) (s u : State) → ((k : ℕ) → IsLonger (among trace s k) (among trace u k)) → told_of (cpu_of i u) ≡ told_of (cpu_of i s) → (cpu_of i u).local ≡ (cpu_of i s).local
    → ((t : ℕ) → is_own_task trace i t ≡ true → views u t ≡ views s t) → GoesOn (cpu_of i s) (cpu_of i u) → HasSide trace i s → HasSide trace i u
still_side trace i s u longer told local same goes_on h = record {
  side = h.side;
  stands = others_stand trace i (cpu_of i u).local (views s) (views u) h.side same (subst (λ (l : CpuLocal). StandsAs trace i l (views s) h.side) (sym local) h.stands);
  leads = leads_on trace i (among trace s) (among trace u) (told_of (cpu_of i s)) [] (told_of (cpu_of i u)) h.side h.side [] longer (told ∙ sym (append-nil (told_of (cpu_of i s)))) refl tt (record { allowed = tt; reached = refl }) h.leads;
  turn = λ t mine waits. let was = h.turn t mine (ap (is_waiting trace t) (sym (same t mine)) ∙ waits) in (goes_on.whose ∙ was.0, goes_on.ends was.1);
  later = goes_on.later h.later;
}

module _ (trace : Trace) (s u : State) (rate : u.ratelimit_pages ≡ s.ratelimit_pages) where
  -- nothing is told
  pub sides_stay : ((i : ℕ) → told_of (cpu_of i u) ≡ told_of (cpu_of i s)) → ((i : ℕ) → (cpu_of i u).local ≡ (cpu_of i s).local) → ((t : ℕ) → views u t ≡ views s t) → ((i : ℕ) → GoesOn (cpu_of i s) (cpu_of i u))
      → HasSides trace s → HasSides trace u
  sides_stay told local same goes_on h = record {
    rate = rate ∙ h.rate;
    each = λ i less. still_side trace i s u (λ k. same_longer (among trace s k) (among trace u k) (ap (estimates_of k) (told (publisher trace k)))) (told i) (local i) (λ t mine. same t) (goes_on i) (h.each i less);
  }

  -- one CPU does something, by events, and the others are as they were
  module _ (j : ℕ) (added : List Told) (told : told_of (cpu_of j u) ≡ told_of (cpu_of j s) ++ added) (others : (i : ℕ) → i ≢ j → cpu_of i u ≡ cpu_of i s) where
    grew : (i : ℕ) → IsLonger (told_of (cpu_of i s)) (told_of (cpu_of i u))
    grew i = dite (ℕ_discrete i j)
        (λ same. record {
          more = added;
          is = ap (λ (n : ℕ). told_of (cpu_of n u)) same ∙ told ∙ ap (λ (n : ℕ). told_of (cpu_of n s) ++ added) (sym same);
        })
        (λ other. same_longer (told_of (cpu_of i s)) (told_of (cpu_of i u)) (ap told_of (others i other)))

    pub longer_then : (k : ℕ) → IsLonger (among trace s k) (among trace u k)
    longer_then = among_longer trace s u grew

    pub sides_move : ((t : ℕ) → is_own_task trace j t ≡ false → views u t ≡ views s t) → (HasSide trace j s → HasSide trace j u) → HasSides trace s → HasSides trace u
    sides_move same own h = record {
      rate = rate ∙ h.rate;
      each = λ i less. dite (ℕ_discrete i j)
          (λ is. subst (λ (n : ℕ). HasSide trace n u) (sym is) (own (subst (λ (n : ℕ). HasSide trace n s) is (h.each i less))))
          (λ other.
          let is : cpu_of i u ≡ cpu_of i s = others i other in
          still_side trace i s u longer_then (ap told_of is) (ap (λ (c : Cpu). c.local) is)
          (λ t mine. same t (not_theirs t (λ theirs. other (one_cpu trace i j t mine theirs))))
          (subst (GoesOn (cpu_of i s)) (sym is) (record { whose = refl; ends = λ has. has; later = λ l. l })) (h.each i less));
    }
      where
        not_theirs : (t : ℕ) → (is_own_task trace j t ≡ true → ⊥) → is_own_task trace j t ≡ false
        not_theirs t none = by_test (is_own_task trace j t) none
          where
            by_test : (b : Bool) → (b ≡ true → ⊥) → b ≡ false
            by_test true n = absurd (n refl)
            by_test false n = refl

    -- by entries and ends of tasks that lead to a side
    pub side_by : (h : HasSide trace j s) (side : Side) (events : List Event) → items_among events ≡ map (tells j) added → Along (DecidesAmong trace (among trace u)) (goes trace) h.side events
        → Walked (Stands trace) (goes trace) h.side events side → StandsAs trace j (cpu_of j u).local (views u) side
        → ((t : ℕ) → is_own_task trace j t ≡ true → is_waiting trace t (views u t) ≡ true → ((cpu_of j u).turn.whose ≡ whose.Task t) × (list_any is_end (cpu_of j u).todo ≡ true))
        → EndsLater (cpu_of j u).todo → HasSide trace j u
    side_by h side events are decide walked stands turn later = record {
      side = side;
      stands = stands;
      leads = leads_on trace j (among trace s) (among trace u) (told_of (cpu_of j s)) added (told_of (cpu_of j u)) h.side side events longer_then told are decide walked h.leads;
      turn = turn;
      later = later;
    }

-- an entry that is no write and no check leaves the side as it is
module _ (trace : Trace) (j : ℕ) (tale : Told) (write : (effect tale).write ≡ None) (check : (effect tale).check ≡ None) where
  entry_side : (s : Side) → goes trace s (item (tells j tale)) ≡ s
  entry_side s =
      ap (of_part (of_part s (side_after_check trace opening_moment j s) (effect tale).check) (side_after_write trace opening_moment j s)) write
      ∙ ap (of_part s (side_after_check trace opening_moment j s)) check

  entry_stands : (s : Side) → Stands trace s (item (tells j tale))
  entry_stands s = record {
    write = subst (λ (which : Option Write). IfSome which (λ (w : Write). is_judged trace j w.task w.page ≡ true → IsQuiet trace s w.task)) (sym write) tt;
    check = subst (λ (which : Option CheckEntry). IfSome which (λ (c : CheckEntry). is_own_task trace j c.task ≡ true → MayCheck trace s c)) (sym check) tt;
  }

  entry_decides : (a : ℕ → List Estimate) (s : Side) → DecidesAmong trace a s (item (tells j tale))
  entry_decides a s = subst (λ (which : Option CheckEntry). IfSome which (DecidesNamed trace a s)) (sym check) tt

  -- a CPU tells it, and counts what it did
  pub entered : (s u : State) → u.ratelimit_pages ≡ s.ratelimit_pages → told_of (cpu_of j u) ≡ told_of (cpu_of j s) ++ tale ∷ [] → ((i : ℕ) → i ≢ j → cpu_of i u ≡ cpu_of i s)
      → (cpu_of j u).local ≡ (cpu_of j s).local → GoesOn (cpu_of j s) (cpu_of j u) → ((t : ℕ) → views u t ≡ views s t) → HasSides trace s → HasSides trace u
  entered s u rate told others local goes_on same h =
      sides_move trace s u rate j (tale ∷ []) told others (λ t theirs. same t)
      (λ own. side_by trace s u rate j (tale ∷ []) told others own own.side (item (tells j tale) ∷ []) refl (entry_decides (among trace u) own.side, tt)
      (record { allowed = (entry_stands own.side, tt); reached = entry_side own.side })
      (others_stand trace j (cpu_of j u).local (views s) (views u) own.side (λ t mine. same t) (subst (λ (l : CpuLocal). StandsAs trace j l (views s) own.side) (sym local) own.stands))
      (λ t mine waits. let was = own.turn t mine (ap (is_waiting trace t) (sym (same t)) ∙ waits) in (goes_on.whose ∙ was.0, goes_on.ends was.1))
      (goes_on.later own.later)) h
