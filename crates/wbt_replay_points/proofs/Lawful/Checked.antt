-- At each moment of a run a check stands in the journal wherever one was due, and nowhere else, and decides as was due.
use Rattle.std.proofs.Common.{inl, inr, ◌≡◌, ℕ, zero, suc, ◌+◌, ◌<◌, Bool, true, false, ◌||◌, ◌&&◌, not, eqb, List, [], ◌∷◌, length, map, flat_map, get_or, All, Option, Some, None, IfSome, refl, sym, ◌∙◌, ap, subst, arith, eq-eqb, eqb-true, true≢false, ⊎_elim}
use Rattle.std.proofs.lemmas.Bool.{cases_Bool, cond-true}
use Rattle.std.proofs.lemmas.List.{get_or-replicate, length-replicate, nil_from_length}
use Rattle.wbt_replay_order.proofs.Common.{Estimate, pace_of, first_estimate, context_of, first, new_writer, CpuLocal, Due, Writer, TaskLine, Trace, nth_estimate, DecidesBy, Each, effect, tells, EachPart, page_context, pages_of_task, rests_last, item, ends, Side, TaskState, all_writers, is_empty, is_not_due, is_own_task, Told, told, CheckEntry, joined, told_is, writer_of, State, no_cpu, no_task, cpu_of, task_of, has_nothing, Cpu, ReplayTask, ReplayWork, opening, opening_moment, works_of, first_cpu, first_cpus, first_task, first_tasks, is_ended, part_of, state_at, last_state, ending_of, journal_of, Facts, IsPageOf, Sound, WorkFits, rests_at_end}
use Rattle.wbt_task.specs.History.{new_cpu}
use Rattle.wbt_task.specs.declared.allowance.Due.TheVariants as due
use Rattle.wbt_journal.specs.Checks.{named_estimate, NoneDue}
use Rattle.wbt_journal.specs.Items.{begins}
use Rattle.wbt_journal.specs.Lawful.{ChecksAreRight, DecidesEvent, HasChecks}
use Rattle.wbt_journal.specs.Side.{Event, first_side, first_state, first_states}
use Rattle.wbt_journal.specs.declared.journal.Ending.{Ending}
use Rattle.wbt_journal.specs.declared.journal.Ending.TheVariants as ending
use Rattle.wbt_run_laws.proofs.Walking.{along_weaker}
use Rattle.wbt_replay_order.proofs.Growth.Runs.{run_none, run_last, run_stays}
use Rattle.wbt_replay_order.proofs.Facts.Lists.{either}
use Rattle.wbt_replay_points.proofs.Lawful.Estimated as estimated
use Rattle.wbt_replay_points.proofs.Lawful.Estimated.{HasEstimates}
use Rattle.wbt_replay_points.proofs.Lawful.Logged.{HasLogs}
use Rattle.wbt_replay_points.proofs.Lawful.Numbers.{at_place, named_back}
use Rattle.wbt_replay_points.proofs.Lawful.Points.{each_told}
use Rattle.wbt_replay_points.proofs.Lawful.Same.{told_of, task_view, EndsLater}
use Rattle.wbt_replay_points.proofs.Lawful.Sides.{DecidesNamed, DecidesAmong, goes, views, among, HasSides}
use Rattle.wbt_replay_points.proofs.Lawful.Siding.{View, IsView, SideAt, is_done, is_gone, is_waiting, name, task_there, writer_in, writers_in}
use Rattle.wbt_replay_points.proofs.Lawful.Standing.{StandsAs, others_stand}
use Rattle.wbt_replay_order.proofs.Outset.Numbered.{numbered_at}
use Rattle.wbt_replay_order.proofs.Outset.Sound.{repeated}
use Rattle.wbt_replay_order.proofs.Outset.Tasks.{last_is}
use Rattle.wbt_replay_order.proofs.Written.Same.{pages_of, to_write}
use Rattle.wbt_replay_order.proofs.Written.Whole.{all_actions}
use Rattle.wbt_replay_points.proofs.Lawful.Checking.{goes_on}
use Rattle.wbt_replay_points.proofs.Lawful.Waits.{goes_on_task}

-- ---- the opening

-- a new writer has counted nothing, and no check of it is due
plain_writer : (cap : ℕ) → ((new_writer cap).task.nr_dirtied ≡ 0) × ((new_writer cap).due ≡ due.No)
unfolding new_writer first
plain_writer cap = (refl, refl)

module _ (trace : Trace) (fits : (t : ℕ) → All (WorkFits trace t) (works_of trace t trace.actions)) where
  abbrev first_of : (t : ℕ) → ReplayTask
  first_of t = first_task trace (pace_of trace t) (works_of trace t trace.actions)

  abbrev first_view : (t : ℕ) → View
  first_view t = task_view (first_of t)

  first_writer : (t k : ℕ) → ((writer_in k (first_view t)).task.nr_dirtied ≡ 0) × ((writer_in k (first_view t)).due ≡ due.No)
  first_writer t k =
      repeated (λ (w : Writer). (w.task.nr_dirtied ≡ 0) × (w.due ≡ due.No)) (length trace.contexts) k (new_writer trace.cap) (new_writer 0) (plain_writer trace.cap) (plain_writer 0)

  -- its pages are the trace's
  first_pages : (t : ℕ) → to_write (first_of t) ≡ pages_of_task trace t
  first_pages t = all_actions trace t trace.actions

  last_of : (t : ℕ) → rests_at_end false (works_of trace t trace.actions) ≡ rests_last trace t
  last_of t = last_is trace t false trace.actions

  no_works : (t : ℕ) → (first_of t).ended ≡ true → works_of trace t trace.actions ≡ []
  no_works t is = nil_from_length (works_of trace t trace.actions) (eqb-true (length (works_of trace t trace.actions)) 0 is)

  first_is : (t : ℕ) → IsView trace t (first_view t)
  first_is t = record {
    wide = length-replicate (length trace.contexts) (new_writer trace.cap);
    alone = λ k is. absurd (cc (sym is ∙ (first_writer t k).1));
    others = λ k none. first_writer t k;
    ended = λ over. (ap (λ (ws : List ReplayWork). is_empty (flat_map pages_of ws)) (no_works t over), (first_writer t 0).1);
  }

  -- none waits for its end
  first_goes : (t : ℕ) → is_waiting trace t (first_view t) ≡ false
  first_goes t = by_end (eqb (length (works_of trace t trace.actions)) 0) refl
    where
      some_work : (works : List ReplayWork) (d : Due) → eqb (length works) 0 ≡ false → has_nothing works d ≡ false
      some_work [] d is = absurd (true≢false (sym (eq-eqb 0 0 refl) ∙ is))
      some_work (w ∷ works) d is = refl

      by_end : (b : Bool) → eqb (length (works_of trace t trace.actions)) 0 ≡ b → is_waiting trace t (first_view t) ≡ false
      by_end true over = ap (λ (b : Bool). not b && is_done trace t (first_view t)) over
      by_end false going =
          goes_on_task trace t (first_of t) (some_work (works_of trace t trace.actions) (writer_of (first_of t)).due going) (fits t) (λ writes. last_of t ∙ writes)

  -- what the side has of it
  first_gone : (t : ℕ) → (not (rests_last trace t) && is_empty (pages_of_task trace t)) ≡ is_gone trace t (first_view t)
  first_gone t = by_end (eqb (length (works_of trace t trace.actions)) 0) refl
    where
      and_true : (a b : Bool) → b ≡ true → (a && b) ≡ a
      and_true true b is = is
      and_true false b is = refl

      quiet : is_not_due (writer_of (first_of t)).due ≡ true
      quiet = ap is_not_due (first_writer t 0).1

      done : is_done trace t (first_view t) ≡ (not (rests_last trace t) && is_empty (pages_of_task trace t))
      done =
          ap (λ (b : Bool). not (rests_last trace t) && b) (and_true (is_empty (to_write (first_of t))) (is_not_due (writer_of (first_of t)).due) quiet)
          ∙ ap (λ (l : List ℕ). not (rests_last trace t) && is_empty l) (first_pages t)

      by_end : (b : Bool) → eqb (length (works_of trace t trace.actions)) 0 ≡ b → (not (rests_last trace t) && is_empty (pages_of_task trace t)) ≡ is_gone trace t (first_view t)
      by_end true over =
          let none = no_works t over in
          let writes : rests_last trace t ≡ false = sym (last_of t) ∙ ap (rests_at_end false) none in
          let empty : is_empty (pages_of_task trace t) ≡ true = ap is_empty (sym (first_pages t)) ∙ ap (λ (ws : List ReplayWork). is_empty (flat_map pages_of ws)) none in
          ap (λ (b : Bool). not b && is_empty (pages_of_task trace t)) writes ∙ empty ∙ sym (ap (λ (b : Bool). b || is_done trace t (first_view t)) over)
      by_end false going = sym done ∙ sym (ap (λ (b : Bool). b || is_done trace t (first_view t)) going)

  first_state_is : (k n : ℕ) (lines : List TaskLine) (d : TaskState) → n < length lines → get_or (first_states trace k lines) n d ≡ first_state trace (k + n)
  first_state_is k n [] d less = absurd (omega (arith, less))
  first_state_is k zero (line ∷ lines) d less = ap (first_state trace) (let e : k ≡ k + 0 = omega arith in e)
  first_state_is k (suc n) (line ∷ lines) d less = first_state_is (suc k) n lines d (omega (arith, less)) ∙ ap (first_state trace) (let e : suc k + n ≡ k + suc n = omega arith in e)

  many_states : (k : ℕ) (lines : List TaskLine) → length (first_states trace k lines) ≡ length lines
  many_states k [] = refl
  many_states k (line ∷ lines) = ap suc (many_states (suc k) lines)

  module _ (cpu : ℕ) where
    first_at_side : SideAt trace cpu (record { since_check = 0; leaks = 0 }) first_view (λ t. is_gone trace t (first_view t)) (first_side trace)
    unfolding new_cpu
    first_at_side = record {
      many = many_states 0 trace.tasks;
      long = length-replicate (length (all_writers trace)) (new_writer trace.cap);
      tasks = λ t own.
          first_state_is 0 t trace.tasks _ (task_there trace cpu t own) ∙ ap (first_state trace) (let e : 0 + t ≡ t = omega arith in e)
          ∙ (λ i. record { todo = length (sym (first_pages t) i); has_ended = first_gone t i });
      writers = λ n less own.
          let back = named_back (writers_in trace) (name trace n).task (name trace n).context 0 (length trace.tasks) (length trace.contexts) (at_place (all_writers trace) n less) in
          get_or-replicate (length (all_writers trace)) n (new_writer trace.cap) (new_writer 0) less
          ∙ sym (either (λ (w : Writer). w ≡ new_writer trace.cap) (is_gone trace (name trace n).task (first_view (name trace n).task)) (new_writer trace.cap) (writer_in (name trace n).context (first_view (name trace n).task)) (λ gone. refl)
          (λ stays. get_or-replicate (length trace.contexts) (name trace n).context (new_writer trace.cap) (new_writer 0) back.context));
      strangers = λ n less theirs. ap (λ (w : Writer). w.due) (get_or-replicate (length (all_writers trace)) n (new_writer trace.cap) (new_writer 0) less) ∙ (plain_writer trace.cap).1;
      local_is = refl;
    }

    first_stands : StandsAs trace cpu (record { since_check = 0; leaks = 0 }) first_view (first_side trace)
    first_stands = record {
      views = λ t own. first_is t;
      counted = record { since_check = 0; leaks = 0 };
      at = first_at_side;
      calm = λ none. refl;
      waits = λ t own is. absurd (true≢false (sym is ∙ first_goes t));
    }

  pub first_sides : HasSides trace (opening trace)
  unfolding opening
  first_sides = record {
    rate = refl;
    each = λ i less.
        let here : get_or (first_cpus trace trace.cpus) i no_cpu ≡ first_cpu trace i = numbered_at (first_cpus trace) (first_cpu trace) no_cpu refl (λ n. refl) trace.cpus i less in
        let view : (t : ℕ) → is_own_task trace i t ≡ true → views (opening trace) t ≡ first_view t =
        λ t own. ap task_view (numbered_at (first_tasks trace) first_of no_task refl (λ n. refl) (length trace.tasks) t (task_there trace i t own)) in
        record {
          side = first_side trace;
          stands = subst (λ (l : CpuLocal). StandsAs trace i l (views (opening trace)) (first_side trace)) (sym (ap (λ (c : Cpu). c.local) here))
              (others_stand trace i (record { since_check = 0; leaks = 0 }) first_view (views (opening trace)) (first_side trace) view (first_stands i));
          leads = record {
            events = [];
            are = sym (ap (λ (c : Cpu). map (tells i) (told_of c)) here);
            decide = tt;
            walked = record { allowed = tt; reached = refl };
          };
          turn = λ t own waits. absurd (true≢false (sym waits ∙ ap (is_waiting trace t) (view t own) ∙ first_goes t));
          later = subst (λ (c : Cpu). EndsLater c.todo) (sym here) tt;
        };
  }

  -- ---- each moment

  module _ (facts : Facts trace) (pages_there : (inode page : ℕ) → IsPageOf trace inode page → page_context trace page ≡ Some (context_of trace inode)) (sound : (moves : ℕ) → Sound trace (state_at trace moves)) where
    both_at : (moves : ℕ) → HasEstimates trace (state_at trace moves) × HasSides trace (state_at trace moves)
    both_at zero =
        subst (λ (s : State). HasEstimates trace s × HasSides trace s) (sym (run_none trace 0 (opening trace) refl)) (estimated.first_estimates trace facts, first_sides)
    both_at (suc m) = ⊎_elim
        (λ over. subst (λ (s : State). HasEstimates trace s × HasSides trace s) (sym (run_stays trace m (suc m) (opening trace) (omega arith) over)) (both_at m))
        (λ going. subst (λ (s : State). HasEstimates trace s × HasSides trace s) (sym (run_last trace m (suc m) (opening trace) (omega arith) going)) (goes_on trace facts pages_there (state_at trace m) (sound m) (both_at m)))
        (cases_Bool (is_ended (state_at trace m)))

    pub sides_at : (moves : ℕ) → HasSides trace (state_at trace moves)
    sides_at moves = (both_at moves).1

-- ---- the journal

each_of : {A : Type 0} (P : A → Type 0) (l : List A) (d : A) → ((n : ℕ) → n < length l → P (get_or l n d)) → Each P l
each_of P [] d all = tt
each_of P (x ∷ l) d all = (all 0 (omega arith), each_of P l d (λ n less. all (suc n) (omega (arith, less))))

module _ (trace : Trace) (facts : Facts trace) (sides : HasSides trace (last_state trace)) (estimates : HasEstimates trace (last_state trace)) (logs : HasLogs trace (last_state trace)) (seats : length (last_state trace).cpus ≡ trace.cpus)
    (all_ended : ending_of (last_state trace) ≡ ending.Done → (task : ℕ) → task < length trace.tasks → (task_of task (last_state trace)).ended ≡ true) where
  abbrev s : State
  s = last_state trace

  abbrev parts : List (List Told)
  parts = map told (map part_of s.cpus)

  -- where all tasks have ended no check is due
  none_due : (i : ℕ) (less : i < trace.cpus) → ending_of s ≡ ending.Done → Each (λ (w : Writer). w.due ≡ due.No) (sides.each i less).side.cpu.writers
  none_due i less done =
      let own = sides.each i less in
      each_of (λ (w : Writer). w.due ≡ due.No) own.side.cpu.writers (new_writer 0)
      (λ n low.
      let named : n < length (all_writers trace) = (let long = own.stands.at.long in omega (arith, low, long)) in
      let t : ℕ = (name trace n).task in
      elim (cases_Bool (is_own_task trace i t)) [
        | inl mine ↦
            ap (λ (w : Writer). w.due)
            (own.stands.at.writers n named mine
            ∙ cond-true (is_gone trace t (views s t)) (new_writer trace.cap) (writer_in (name trace n).context (views s t)) (ap (λ (b : Bool). b || is_done trace t (views s t)) (all_ended done t (task_there trace i t mine))))
            ∙ (plain_writer trace.cap).1
        | inr theirs ↦ own.stands.at.strangers n named theirs
      ])

  -- a check names its estimate among all that are told
  names_it : (x : Side) (event : Event) → DecidesAmong trace (among trace s) x event → DecidesEvent trace opening_moment (joined parts) x event
  names_it x (item (begins cpu)) by = tt
  names_it x (ends task) by = tt
  names_it x (item (tells cpu e)) by = by_check (effect e).check by
    where
      by_check : (which : Option CheckEntry) → IfSome which (DecidesNamed trace (among trace s) x)
          → IfSome which (λ (check : CheckEntry). is_own_task trace cpu check.task ≡ true → DecidesBy trace x check (named_estimate trace opening_moment (joined parts) check))
      by_check None h = tt
      by_check (Some check) h = λ owns.
          subst (λ (l : List Estimate). DecidesBy trace x check (nth_estimate check.estimate (first_estimate trace check.context opening_moment ∷ l))) (sym (estimated.all_of trace facts estimates logs seats check.context h.0)) h.1

  has_checks : (c : ℕ) → c < length s.cpus → HasChecks trace opening_moment (joined parts) (ending_of s) c (told_of (cpu_of c s))
  has_checks c low =
      let less : c < trace.cpus = omega (arith, low, seats) in
      let own = sides.each c less in (
        own.leads.events,
        record {
          are = own.leads.are;
          decide = along_weaker (DecidesAmong trace (among trace s)) (DecidesEvent trace opening_moment (joined parts)) (goes trace) names_it (first_side trace) own.leads.events own.leads.decide;
          stand = own.leads.walked.allowed;
          none_missing = subst (NoneDue (ending_of s)) (sym own.leads.walked.reached) (by_ending (ending_of s) own.side (λ done. none_due c less done));
        },
      )
    where
      by_ending : (end : Ending) (x : Side) → (end ≡ ending.Done → Each (λ (w : Writer). w.due ≡ due.No) x.cpu.writers) → NoneDue end x
      by_ending ending.Done x none = none refl
      by_ending ending.Halted x none = tt
      by_ending ending.Spent x none = tt
      by_ending ending.Faulted x none = tt

  pub checks_right : ChecksAreRight trace (journal_of trace)
  unfolding journal_of
  checks_right =
      subst (λ (n : ℕ). EachPart (HasChecks trace n (flat_map told (map part_of s.cpus)) (ending_of s)) 0 parts) (sym (estimated.opened_is trace facts estimates logs seats))
      (subst (λ (es : List Told). EachPart (HasChecks trace opening_moment es (ending_of s)) 0 parts) (sym (told_is (map part_of s.cpus)))
      (each_told trace logs seats (HasChecks trace opening_moment (joined parts) (ending_of s)) has_checks))
