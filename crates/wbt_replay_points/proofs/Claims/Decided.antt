-- Each check of a run was decided by the law, of what it prints and an estimate that was published.
use Rattle.std.proofs.Common.{◌≡◌, ℕ, zero, suc, ◌+◌, ◌<◌, ◌≤◌, ◌⊎◌, inl, inr, List, [], ◌∷◌, ◌++◌, length, get_or, Contains, refl, sym, ◌∙◌, ap, subst, arith, length-append, Option, Some, None, ⊎_elim, Bool}
use Rattle.std.proofs.Math.ListN.{set}
use Rattle.std.proofs.lemmas.Bool.{cases_Bool, cases_lt}
use Rattle.std.proofs.lemmas.List.{get_or_past, get_or_append_left, get_or_push, get_or-set_same, get_or-set_other, length-set}
use Rattle.std.proofs.lemmas.List.Elements.{Contains-push, Contains-append_left}
use mathlib.Core.Logic.{dite}
use native.Mathlib.Decide.{ℕ_discrete}
use Rattle.wbt_replay_order.proofs.Common.{Trace, update_of, Estimate, after_period, Half, CheckEntry, DomainLine, EstEntry, first_estimate, is_strict, decision_for, Decision, Reads, writer_of, writer_in, decision_at, check_of, cgroup_line, decide_for, checked, estimated, estimate, estimate_to, sample_of, make_timer_step, make_timer_move, State, no_cpu, no_task, no_context, cpu_of, with_cpu, task_of, domain_of, writeback_of, group_of, begin_timer, with_timer, load, peak, unseal, thresh, publish, period, period_to, is_time, periods, Cpu, Domain, ReplayTask, ReplayTurn, Writeback, TimerSilent, TimerStep, TimerTodo, Todo, IsDecided, EachFrom, AreDecided, opening, opening_moment, first_cpu, first_cpus, first_context, first_contexts, is_ended, most_moves, state_at}
use Rattle.wbt_pause.proofs.Deciding.{longest_within_200}
use Rattle.wbt_strict.proofs.Deciding.{pauses_within_longest}
use Rattle.wbt_pause.specs.declared.reads.Task.{Task as Numbers}
use Rattle.wbt_replay_moves.specs.Definition.Check.{reads_of}
use Rattle.wbt_task.specs.declared.allowance.Due.TheVariants as due
use Rattle.wbt_replay_moves.specs.declared.state.Whose.TheVariants as whose
use Rattle.wbt_replay_moves.specs.declared.todo.Silent.TheVariants as move
use Rattle.wbt_replay_moves.specs.declared.todo.TimerSilent.TheVariants as silent
use Rattle.wbt_replay_moves.specs.declared.todo.TimerStep.TheVariants as step
use Rattle.wbt_replay_moves.specs.declared.todo.TimerTodo.TheVariants as timer_todo
use Rattle.wbt_replay_moves.specs.declared.todo.Todo.TheVariants as todo
use Rattle.wbt_replay_order.specs.Claims.Decided.{IsPublished, WasAsked}
use Rattle.wbt_replay_order.proofs.Facts.Lists.{either}
use Rattle.wbt_replay_order.proofs.Growth.Advancing.{advance_keeps}
use Rattle.wbt_replay_order.proofs.Growth.Runs.{run_none, run_last, run_stays}
use Rattle.wbt_replay_order.proofs.Growth.Quiet.{Quiet, same_at, quiet_cpu}
use Rattle.wbt_replay_order.proofs.Outset.Numbered.{numbered_length, numbered_at}

-- ---- estimates that were published

-- what was published in one state is so in another
abbrev pub StaysPublished : (s u : State) → Type 0
StaysPublished s u = (i : ℕ) (e : EstEntry) → Contains (cpu_of i s).estimates e → Contains (cpu_of i u).estimates e

published_on : (trace : Trace) (s u : State) → StaysPublished s u → (context : ℕ) (e : Estimate)
    → (e ≡ first_estimate trace context opening_moment) ⊎ IsPublished s trace.cpus context e → (e ≡ first_estimate trace context opening_moment) ⊎ IsPublished u trace.cpus context e
published_on trace s u stays context e = ⊎_elim (λ first. inl first)
    (λ there. inr (there.0, there.1, stays there.0 (record { context = context; estimate = e }) there.2))

decided_on : (trace : Trace) (s u : State) → StaysPublished s u → (i place : ℕ) (check : CheckEntry) → IsDecided trace s i place check → IsDecided trace u i place check
decided_on trace s u stays i place check h = record {
  context = h.context;
  estimate = h.estimate;
  numbers = h.numbers;
  asked = h.asked;
  named = record { version = h.named.version; told = published_on trace s u stays check.context h.estimate h.named.told };
  decision = h.decision;
  pause = h.pause;
}

all_decided_on : (trace : Trace) (s u : State) → StaysPublished s u → (i place : ℕ) (checks : List CheckEntry) → EachFrom (IsDecided trace s i) place checks
    → EachFrom (IsDecided trace u i) place checks
all_decided_on trace s u stays i place [] all = tt
all_decided_on trace s u stays i place (check ∷ checks) all = (decided_on trace s u stays i place check all.0, all_decided_on trace s u stays i (place + 1) checks all.1)

-- with one item more
from_push : {A : Type 0} (P : ℕ → A → Type 0) (place : ℕ) (xs : List A) (x : A) (last : ℕ) → last ≡ place + length xs → EachFrom P place xs → P last x → EachFrom P place (xs ++ x ∷ [])
from_push P place [] x last is all here = (subst (λ (n : ℕ). P n x) (let at : last ≡ place = omega (arith, is) in at) here, tt)
from_push P place (y ∷ xs) x last is all here = (all.0, from_push P (place + 1) xs x last (omega (arith, is)) all.1 here)

-- ---- what a run keeps

pub record HasDecided (trace : Trace) (s : State) : Type 0 where
  pub seats : length s.cpus ≡ trace.cpus
  pub places : length s.contexts ≡ length trace.contexts
  pub told : (k : ℕ) → k < length trace.contexts
      → ((writeback_of k s).estimate ≡ first_estimate trace k opening_moment) ⊎ IsPublished s trace.cpus k (writeback_of k s).estimate
  pub decided : (i : ℕ) → i < trace.cpus → EachFrom (IsDecided trace s i) 0 (cpu_of i s).checks

-- a check that is decided next is due, in a context that there is
abbrev pub ChecksFit : (contexts : ℕ) (cpus : List Cpu) (tasks : List ReplayTask) → Type 0
ChecksFit contexts cpus tasks = (cpu task : ℕ) (rest : List Todo) → cpu < length cpus → (get_or cpus cpu no_cpu).todo ≡ todo.Silent move.Decide ∷ rest
    → (get_or cpus cpu no_cpu).turn.whose ≡ whose.Task task
    → ((get_or tasks task no_task).context < contexts) × ((writer_of (get_or tasks task no_task)).due ≡ due.Check)

-- a move begins with what a state has
pub record IsFrom (first : State) (now : ℕ) (domains : List Domain) (cpus : List Cpu) (tasks : List ReplayTask) (contexts : List Writeback) : Type 0 where
  pub now_is : now ≡ first.now
  pub domains_are : domains ≡ first.domains
  pub cpus_are : cpus ≡ first.cpus
  pub tasks_are : tasks ≡ first.tasks
  pub contexts_are : contexts ≡ first.contexts

abbrev pub CanDecide : (trace : Trace) (moves now : ℕ) (domains : List Domain) (cpus : List Cpu) (tasks : List ReplayTask) (contexts : List Writeback) → Type 0
CanDecide trace moves now domains cpus tasks contexts =
    ChecksFit (length trace.contexts) cpus tasks × IsFrom (state_at trace moves) now domains cpus tasks contexts

module _ (trace : Trace) where
  -- the same CPUs and contexts
  kept_by : (s u : State) → u.cpus ≡ s.cpus → u.contexts ≡ s.contexts → HasDecided trace s → HasDecided trace u
  kept_by s u cpus contexts h =
      let stays : StaysPublished s u = λ i e there. subst (λ (cs : List Cpu). Contains (get_or cs i no_cpu).estimates e) (sym cpus) there in
      record {
        seats = ap (λ (cs : List Cpu). length cs) cpus ∙ h.seats;
        places = ap (λ (ws : List Writeback). length ws) contexts ∙ h.places;
        told = λ k less.
            let same : (writeback_of k u).estimate ≡ (writeback_of k s).estimate = ap (λ (ws : List Writeback). (get_or ws k no_context).estimate) contexts in
            subst (λ (e : Estimate). (e ≡ first_estimate trace k opening_moment) ⊎ IsPublished u trace.cpus k e) (sym same)
            (published_on trace s u stays k (writeback_of k s).estimate (h.told k less));
        decided = λ i less.
            all_decided_on trace s u stays i 0 (cpu_of i u).checks
            (subst (λ (cs : List Cpu). EachFrom (IsDecided trace s i) 0 (get_or cs i no_cpu).checks) (sym cpus) (h.decided i less));
      }

  framed : (s u : State) → Quiet s u → HasDecided trace s → HasDecided trace u
  framed s u quiet h =
      let stays : StaysPublished s u = λ i e there. subst (λ (es : List EstEntry). Contains es e) (sym (quiet.estimates i)) there in
      record {
        seats = quiet.seats ∙ h.seats;
        places = quiet.places ∙ h.places;
        told = λ k less.
            subst (λ (e : Estimate). (e ≡ first_estimate trace k opening_moment) ⊎ IsPublished u trace.cpus k e) (sym (quiet.estimate k))
            (published_on trace s u stays k (writeback_of k s).estimate (h.told k less));
        decided = λ i less.
            all_decided_on trace s u stays i 0 (cpu_of i u).checks
            (subst (λ (cs : List CheckEntry). EachFrom (IsDecided trace s i) 0 cs) (sym (quiet.checks i)) (h.decided i less));
      }

  -- ---- a check

  short : (strict : Bool) (reads : Reads) (e : Estimate) (numbers : Numbers) (now : ℕ) → (decision_for strict reads e numbers now).pause ≤ 200
  short strict reads e numbers now = omega (arith, pauses_within_longest strict reads e numbers now, longest_within_200 reads.wb_dirty e.avg)

  decides_now : (cpu task context : ℕ) (s : State) → cpu < trace.cpus → context < length trace.contexts
      → WasAsked trace cpu (length (cpu_of cpu s).checks) (check_of trace task context (cpu_of cpu s).turn (decision_at trace context (task_of task s) (cpu_of cpu s).turn s) s)
      (writeback_of context s).estimate (writer_in context (task_of task s)).task
      → HasDecided trace s → HasDecided trace (decide_for trace cpu task context s)
  decides_now cpu task context s there fits asked h =
      let turn : ReplayTurn = (cpu_of cpu s).turn in
      let t : ReplayTask = task_of task s in
      let decision : Decision = decision_at trace context t turn s in
      let check : CheckEntry = check_of trace task context turn decision s in
      let c : Cpu = checked check (cpu_of cpu s) in
      let u : State = decide_for trace cpu task context s in
      let less : cpu < length s.cpus = omega (arith, there, h.seats) in
      let stays : StaysPublished s u = λ i e was.
      subst (λ (es : List EstEntry). Contains es e) (sym (same_at (λ (x : Cpu). x.estimates) s.cpus cpu c no_cpu refl i)) was in
      let this : IsDecided trace s cpu (length (cpu_of cpu s).checks) check = record {
        context = fits;
        estimate = (writeback_of context s).estimate;
        numbers = (writer_in context t).task;
        asked = asked;
        named = record { version = refl; told = h.told context fits };
        decision = refl;
        pause = short (is_strict trace context) (reads_of trace context turn s) (writeback_of context s).estimate (writer_in context t).task s.now;
      } in
      record {
        seats = length-set s.cpus cpu c ∙ h.seats;
        places = h.places;
        told = λ k k_less. published_on trace s u stays k (writeback_of k s).estimate (h.told k k_less);
        decided = λ i i_less. dite (ℕ_discrete i cpu)
            (λ here.
            let new : (cpu_of cpu u).checks ≡ (cpu_of cpu s).checks ++ check ∷ [] = ap (λ (x : Cpu). x.checks) (get_or-set_same s.cpus cpu c no_cpu less) in
            subst (λ (n : ℕ). EachFrom (IsDecided trace u n) 0 (cpu_of n u).checks) (sym here)
            (subst (λ (cs : List CheckEntry). EachFrom (IsDecided trace u cpu) 0 cs) (sym new)
            (all_decided_on trace s u stays cpu 0 ((cpu_of cpu s).checks ++ check ∷ [])
            (from_push (IsDecided trace s cpu) 0 (cpu_of cpu s).checks check (length (cpu_of cpu s).checks) (omega arith) (h.decided cpu there) this))))
            (λ apart.
            let same : (cpu_of i u).checks ≡ (cpu_of i s).checks = ap (λ (x : Cpu). x.checks) (get_or-set_other s.cpus cpu i c no_cpu apart) in
            subst (λ (cs : List CheckEntry). EachFrom (IsDecided trace u i) 0 cs) (sym same) (all_decided_on trace s u stays i 0 (cpu_of i s).checks (h.decided i i_less)));
      }

  -- the line of a cgroup reads the domains and the contexts
  same_line : (group context : ℕ) (turn : ReplayTurn) (s u : State) → s.domains ≡ u.domains → s.contexts ≡ u.contexts
      → cgroup_line group context turn s ≡ cgroup_line group context turn u
  same_line zero context turn s u domains contexts = refl
  same_line (suc cgroup) context turn s u domains contexts =
      ap (λ (ds : List Domain). cgroup_line (suc cgroup) context turn (record s { domains = ds })) domains
      ∙ ap (λ (ws : List Writeback). cgroup_line (suc cgroup) context turn (record s { domains = u.domains; contexts = ws })) contexts

  -- what the check reads is what the run had at a moment
  was_asked : (moves cpu task context place : ℕ) (decision : Decision) (turn : ReplayTurn) (s : State) → turn ≡ (cpu_of cpu (state_at trace moves)).turn
      → length (cpu_of cpu (state_at trace moves)).checks ≡ place → (cpu_of cpu (state_at trace moves)).turn.whose ≡ whose.Task task
      → (rest : List Todo) → (cpu_of cpu (state_at trace moves)).todo ≡ todo.Silent move.Decide ∷ rest → (task_of task (state_at trace moves)).context ≡ context
      → s.now ≡ (state_at trace moves).now → s.domains ≡ (state_at trace moves).domains → s.tasks ≡ (state_at trace moves).tasks
      → s.contexts ≡ (state_at trace moves).contexts → (writer_in context (task_of task s)).due ≡ due.Check
      → WasAsked trace cpu place (check_of trace task context turn decision s) (writeback_of context s).estimate (writer_in context (task_of task s)).task
  was_asked moves cpu task context place decision turn s turn_is before whose_is rest next context_is now_is domains_are tasks_are contexts_are is_due =
      let first : State = state_at trace moves in
      record {
        moves = moves;
        checks_before = before;
        rest = rest;
        decided_next = next;
        turn = whose_is;
        context = context_is;
        check_was_due = subst (λ (ts : List ReplayTask). (writer_in context (get_or ts task no_task)).due ≡ due.Check) tasks_are is_due;
        printed =
            ap (λ (x : ReplayTurn). check_of trace task context x decision s) turn_is
            ∙ ap (λ (n : ℕ). check_of trace task context (cpu_of cpu first).turn decision (record s { now = n })) now_is
            ∙ ap (λ (ds : List Domain). check_of trace task context (cpu_of cpu first).turn decision (record s { now = first.now; domains = ds })) domains_are
            ∙ ap (λ (ws : List Writeback). check_of trace task context (cpu_of cpu first).turn decision (record s { now = first.now; domains = first.domains; contexts = ws })) contexts_are
            ∙ ap (λ (l : Option DomainLine). record (check_of trace task context (cpu_of cpu first).turn decision first) { cgroup = l })
            (same_line (group_of trace context) context (cpu_of cpu first).turn (record s { now = first.now; domains = first.domains; contexts = first.contexts }) first refl refl);
        estimate_was = ap (λ (ws : List Writeback). (get_or ws context no_context).estimate) (sym contexts_are);
        numbers_were = ap (λ (ts : List ReplayTask). (writer_in context (get_or ts task no_task)).task) (sym tasks_are);
      }

  decides : (moves cpu task : ℕ) (rest : List Todo) (s : State) → cpu < length s.cpus → (cpu_of cpu s).todo ≡ todo.Silent move.Decide ∷ rest
      → (cpu_of cpu s).turn.whose ≡ whose.Task task → CanDecide trace moves s.now s.domains s.cpus s.tasks s.contexts → HasDecided trace s
      → HasDecided trace (decide_for trace cpu task (task_of task s).context (with_cpu cpu (record (cpu_of cpu s) { todo = rest }) s))
  decides moves cpu task rest s there is of can h =
      let c : Cpu = record (cpu_of cpu s) { todo = rest } in
      let v : State = with_cpu cpu c s in
      let context : ℕ = (task_of task s).context in
      let fits = can.0 cpu task rest there is of in
      let same_checks : (cpu_of cpu v).checks ≡ (cpu_of cpu s).checks = same_at (λ (x : Cpu). x.checks) s.cpus cpu c no_cpu refl cpu in
      decides_now cpu task context v (omega (arith, there, h.seats)) fits.0
      (was_asked moves cpu task context (length (cpu_of cpu v).checks) (decision_at trace context (task_of task v) (cpu_of cpu v).turn v) (cpu_of cpu v).turn v
      (same_at (λ (x : Cpu). x.turn) s.cpus cpu c no_cpu refl cpu ∙ ap (λ (cs : List Cpu). (get_or cs cpu no_cpu).turn) can.1.cpus_are)
      (ap (λ (cs : List Cpu). length (get_or cs cpu no_cpu).checks) (sym can.1.cpus_are) ∙ ap (λ (cs : List CheckEntry). length cs) (sym same_checks))
      (ap (λ (cs : List Cpu). (get_or cs cpu no_cpu).turn.whose) (sym can.1.cpus_are) ∙ of)
      rest (ap (λ (cs : List Cpu). (get_or cs cpu no_cpu).todo) (sym can.1.cpus_are) ∙ is)
      (ap (λ (ts : List ReplayTask). (get_or ts task no_task).context) (sym can.1.tasks_are))
      can.1.now_is can.1.domains_are can.1.tasks_are can.1.contexts_are fits.1)
      (framed s v (quiet_cpu cpu c s refl refl (λ n. n)) h)

  -- ---- an estimate

  publishes : (cpu context : ℕ) (e : Estimate) (s : State) → cpu < length s.cpus → HasDecided trace s → HasDecided trace (estimate_to cpu context (Some e) s)
  publishes cpu context e s less h =
      let est : EstEntry = record { context = context; estimate = e } in
      let c : Cpu = estimated est (cpu_of cpu s) in
      let w : Writeback = record (writeback_of context s) { estimate = e } in
      let u : State = estimate_to cpu context (Some e) s in
      let here : (cpu_of cpu u).estimates ≡ (cpu_of cpu s).estimates ++ est ∷ [] = ap (λ (x : Cpu). x.estimates) (get_or-set_same s.cpus cpu c no_cpu less) in
      let stays : StaysPublished s u = λ i x was. dite (ℕ_discrete i cpu)
      (λ same.
      subst (λ (n : ℕ). Contains (cpu_of n u).estimates x) (sym same)
      (subst (λ (es : List EstEntry). Contains es x) (sym here)
      (Contains-append_left (cpu_of cpu s).estimates (est ∷ []) x (subst (λ (n : ℕ). Contains (cpu_of n s).estimates x) same was))))
      (λ apart. subst (λ (y : Cpu). Contains y.estimates x) (sym (get_or-set_other s.cpus cpu i c no_cpu apart)) was) in
      record {
        seats = length-set s.cpus cpu c ∙ h.seats;
        places = length-set s.contexts context w ∙ h.places;
        told = λ k k_less. dite (ℕ_discrete k context)
            (λ same.
            let new : (writeback_of k u).estimate ≡ e =
            ap (λ (n : ℕ). (get_or (set s.contexts context w) n no_context).estimate) same
            ∙ ap (λ (x : Writeback). x.estimate) (get_or-set_same s.contexts context w no_context (omega (arith, same, k_less, h.places))) in
            let published : IsPublished u trace.cpus context e =
            (cpu, omega (arith, less, h.seats), subst (λ (es : List EstEntry). Contains es est) (sym here) (Contains-push (cpu_of cpu s).estimates est)) in
            subst (λ (x : Estimate). (x ≡ first_estimate trace k opening_moment) ⊎ IsPublished u trace.cpus k x) (sym new)
            (inr (subst (λ (n : ℕ). IsPublished u trace.cpus n e) (sym same) published)))
            (λ apart.
            let old : (writeback_of k u).estimate ≡ (writeback_of k s).estimate = ap (λ (x : Writeback). x.estimate) (get_or-set_other s.contexts context k w no_context apart) in
            subst (λ (x : Estimate). (x ≡ first_estimate trace k opening_moment) ⊎ IsPublished u trace.cpus k x) (sym old)
            (published_on trace s u stays k (writeback_of k s).estimate (h.told k k_less)));
        decided = λ i i_less.
            let same : (cpu_of i u).checks ≡ (cpu_of i s).checks = same_at (λ (x : Cpu). x.checks) s.cpus cpu c no_cpu refl i in
            subst (λ (cs : List CheckEntry). EachFrom (IsDecided trace u i) 0 cs) (sym same) (all_decided_on trace s u stays i 0 (cpu_of i s).checks (h.decided i i_less));
      }

  estimates : (cpu context : ℕ) (s : State) → cpu < length s.cpus → HasDecided trace s → HasDecided trace (estimate trace cpu context s)
  estimates cpu context s less h = by_found (update_of (writeback_of context s).estimate (sample_of trace context (cpu_of cpu s).turn s))
    where
      by_found : (found : Option Estimate) → HasDecided trace (estimate_to cpu context found s)
      by_found None = h
      by_found (Some e) = publishes cpu context e s less h

  -- ---- the timer

  times : (item : TimerStep) (rest : List TimerTodo) (s : State) → s.timer.todo ≡ timer_todo.Step item ∷ rest → HasDecided trace s
      → HasDecided trace (make_timer_step trace item (with_timer (record s.timer { todo = rest }) s))
  unfolding make_timer_step
  times (step.Count domain) rest s is h = kept_by s (load trace domain (with_timer (record s.timer { todo = rest }) s)) refl refl h
  times (step.Peak domain) rest s is h = kept_by s (peak domain (with_timer (record s.timer { todo = rest }) s)) refl refl h
  times (step.Unseal domain) rest s is h = kept_by s (unseal domain (with_timer (record s.timer { todo = rest }) s)) refl refl h
  times (step.Thresh domain) rest s is h = kept_by s (thresh (with_timer (record s.timer { todo = rest }) s)) refl refl h
  times (step.Publish domain) rest s is h = kept_by s (publish domain (with_timer (record s.timer { todo = rest }) s)) refl refl h

  of_period : (domain : ℕ) (s : State) → HasDecided trace s → HasDecided trace (period domain s)
  of_period domain s h =
      either (HasDecided trace) (is_time s.timer) (period_to domain (periods s.timer) (after_period (domain_of domain s).events (periods s.timer)) s) s
      (λ time. by_found (after_period (domain_of domain s).events (periods s.timer))) (λ early. h)
    where
      by_found : (found : Option Half) → HasDecided trace (period_to domain (periods s.timer) found s)
      by_found None = h
      by_found (Some events) = kept_by s (period_to domain (periods s.timer) (Some events) s) refl refl h

  passes : (item : TimerSilent) (rest : List TimerTodo) (s : State) → s.timer.todo ≡ timer_todo.Silent item ∷ rest → HasDecided trace s
      → HasDecided trace (make_timer_move item (with_timer (record s.timer { todo = rest }) s))
  unfolding make_timer_move
  passes (silent.Period domain) rest s is h =
      let u = with_timer (record s.timer { todo = rest }) s in of_period domain u (kept_by s u refl refl h)
  passes silent.Rest rest s is h = kept_by s _ refl refl h

  begins : (s : State) → HasDecided trace s → HasDecided trace (begin_timer s)
  begins s h = kept_by s (begin_timer s) refl refl h

  -- ---- the opening, and each moment

  many_first : (n : ℕ) → length (first_cpus trace n) ≡ n
  many_first zero = refl
  many_first (suc n) = omega (arith, length-append (first_cpus trace n) (first_cpu trace n ∷ []), many_first n)

  no_checks : (n i : ℕ) → (get_or (first_cpus trace n) i no_cpu).checks ≡ []
  no_checks n i = ⊎_elim
      (λ less. ap (λ (c : Cpu). c.checks) (first_cpu_of n i less))
      (λ past. ap (λ (c : Cpu). c.checks) (get_or_past (first_cpus trace n) i no_cpu (omega (arith, past, many_first n))))
      (cases_lt i n)
    where
      first_cpu_of : (n i : ℕ) → i < n → get_or (first_cpus trace n) i no_cpu ≡ first_cpu trace i
      first_cpu_of zero i less = absurd (omega (arith, less))
      first_cpu_of (suc n) i less = ⊎_elim
          (λ before. get_or_append_left (first_cpus trace n) (first_cpu trace n ∷ []) no_cpu i (omega (arith, before, many_first n)) ∙ first_cpu_of n i before)
          (λ last.
          let same : n ≡ i = omega (arith, last, less) in
          get_or_push (first_cpus trace n) (first_cpu trace n) no_cpu i (many_first n ∙ same) ∙ ap (first_cpu trace) same)
          (cases_lt i n)

  opening_decided : HasDecided trace (opening trace)
  unfolding opening
  opening_decided = record {
    seats = many_first trace.cpus;
    places = numbered_length (first_contexts trace) (first_context trace) no_context refl (λ n. refl) (length trace.contexts);
    told = λ k less. inl (ap (λ (w : Writeback). w.estimate) (numbered_at (first_contexts trace) (first_context trace) no_context refl (λ n. refl) (length trace.contexts) k less));
    decided = λ i less. subst (λ (cs : List CheckEntry). EachFrom (IsDecided trace (opening trace) i) 0 cs) (sym (no_checks trace.cpus i)) tt;
  }

  -- where each check that is decided next fits, at each moment
  module _ (fits : (moves : ℕ) → ChecksFit (length trace.contexts) (state_at trace moves).cpus (state_at trace moves).tasks) where
    pub decided_at : (moves : ℕ) → HasDecided trace (state_at trace moves)
    decided_at zero = subst (HasDecided trace) (sym (run_none trace 0 (opening trace) refl)) opening_decided
    decided_at (suc m) = ⊎_elim
        (λ over. subst (HasDecided trace) (sym (run_stays trace m (suc m) (opening trace) (omega arith) over)) (decided_at m))
        (λ going.
        subst (HasDecided trace) (sym (run_last trace m (suc m) (opening trace) (omega arith) going))
        (advance_keeps trace (HasDecided trace) framed (CanDecide trace m) (decides m) estimates times passes begins
        (state_at trace m) (fits m, record { now_is = refl; domains_are = refl; cpus_are = refl; tasks_are = refl; contexts_are = refl }) (decided_at m)))
        (cases_Bool (is_ended (state_at trace m)))

    pub are_decided : AreDecided trace
    are_decided i less = (decided_at most_moves).decided i less
