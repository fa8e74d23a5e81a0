-- A move makes one step at most.
use Rattle.std.proofs.Common.{◌≡◌, ℕ, ◌⊎◌, inl, inr, Bool, true, cond, eqb, List, [], ◌∷◌, ◌++◌, get_or, refl, ◌∙◌, ap, Option, Some, None}
use Rattle.wbt_replay_order.proofs.Common.{Trace, is_claimable, shared_word, Counter, Estimate, update_of, StepEntry, decide_by, fold, estimate_to, sample_of, complete_by, complete_in, complete_first, unmark_by, unmark_in, make_step, make_move, look_by, look_in, looked_at, claim_by, claim_in, claim_now, State, cpu_of, flusher_of, task_of, with_task, writeback_of, page_of, context_of, passed_page, dirty_by, dirty_next, dirty_page, dirty_fresh, mark, ReplayPhase, Whose, ReplayWork, Silent, Step, TimerTodo, apply, Change, move_keeps}
use Rattle.wbt_counter.specs.declared.counter.Counter.TheVariants.{Domain as ofDomain, Context as ofContext}
use Rattle.wbt_replay_moves.specs.Definition.Writer.{marked}
use Rattle.wbt_replay_moves.specs.declared.state.ReplayPhase.TheVariants as phase
use Rattle.wbt_replay_moves.specs.declared.state.Whose.TheVariants as whose
use Rattle.wbt_replay_moves.specs.declared.state.ReplayWork.TheVariants as work
use Rattle.wbt_replay_moves.specs.declared.todo.Silent.TheVariants as silent
use Rattle.wbt_replay_moves.specs.declared.todo.Step.TheVariants as step
use Rattle.wbt_replay_moves.specs.declared.todo.TimerStep.TheVariants as timer_step
use Rattle.wbt_replay_moves.specs.declared.todo.TimerTodo.TheVariants as timer_todo
use Rattle.wbt_replay_changes.specs.Change as change
use Rattle.wbt_replay_changes.specs.Plain.{IsSilent}
use Rattle.wbt_replay_order.proofs.Facts.Lists.{either}

-- ---- steps before, and now

-- the timer raises the peak of this domain next
abbrev pub RaisesNext : (domain : ℕ) (todos : List TimerTodo) → Type 0
RaisesNext domain [] = ⊥
RaisesNext domain (timer_todo.Step (timer_step.Peak of) ∷ more) = of ≡ domain
RaisesNext domain (timer_todo.Step (timer_step.Count of) ∷ more) = ⊥
RaisesNext domain (timer_todo.Step (timer_step.Unseal of) ∷ more) = ⊥
RaisesNext domain (timer_todo.Step (timer_step.Thresh of) ∷ more) = ⊥
RaisesNext domain (timer_todo.Step (timer_step.Publish of) ∷ more) = ⊥
RaisesNext domain (timer_todo.Silent item ∷ more) = ⊥

-- one step more, made by this actor, which names the global domain or that of the peak that the timer raised next
pub record OneMore (actor : ℕ) (before now : List StepEntry) (todos : List TimerTodo) : Type 0 where
  pub entry : StepEntry
  pub is : now ≡ before ++ entry ∷ []
  pub who : entry.who ≡ actor
  pub domain : (entry.domain ≡ 0) ⊎ RaisesNext entry.domain todos

abbrev pub Grew : (actor : ℕ) (before now : List StepEntry) (todos : List TimerTodo) → Type 0
Grew actor before now todos = (now ≡ before) ⊎ OneMore actor before now todos

-- after a move that makes a step at most, and after one that makes none
abbrev pub Steps : (actor : ℕ) (s u : State) → Type 0
Steps actor s u = Grew actor s.steps u.steps s.timer.todo

abbrev pub Silently : (s u : State) → Type 0
Silently s u = u.steps ≡ s.steps

pub one_step : (actor : ℕ) (before : List StepEntry) (e : StepEntry) (todos : List TimerTodo) → e.who ≡ actor → e.domain ≡ 0 → Grew actor before (before ++ e ∷ []) todos
one_step actor before e todos who global = inr (record { entry = e; is = refl; who = who; domain = inl global })

-- of two that are silent
pub both_silent : (s : State) (b : Bool) (x y : State) → Silently s x → Silently s y → Silently s (cond b x y)
both_silent s b x y p q = either (Silently s) b x y (λ t. p) (λ t. q)

-- a step after what is silent
then_step : (actor : ℕ) (s u v : State) (e : StepEntry) → v.steps ≡ u.steps ++ e ∷ [] → e.who ≡ actor → e.domain ≡ 0 → Silently s u → Steps actor s v
then_step actor s u v e is who global same = inr (record { entry = e; is = is ∙ ap (λ (l : List StepEntry). l ++ e ∷ []) same; who = who; domain = inl global })

-- ---- steps of a CPU

grew_page : (trace : Trace) (cpu task inode page : ℕ) (s : State) → Steps cpu s (dirty_page trace cpu task inode page s)
grew_page trace cpu task inode page s =
    either (Steps cpu s) (s.book page).dirty _ (dirty_fresh trace cpu task inode page s) (λ known. one_step cpu s.steps _ s.timer.todo refl refl) (λ fresh. one_step cpu s.steps _ s.timer.todo refl refl)

grew_next : (trace : Trace) (cpu task : ℕ) (works : List ReplayWork) (s : State) → Steps cpu s (dirty_next trace cpu task works s)
grew_next trace cpu task [] s = inl refl
grew_next trace cpu task (work.Rest ticks ∷ works) s = inl refl
grew_next trace cpu task (work.Write inode page pages ∷ works) s =
    grew_page trace cpu task inode page (with_task task (passed_page inode page pages works (task_of task s)) s)

grew_dirty : (trace : Trace) (cpu : ℕ) (w : Whose) (s : State) → Steps cpu s (dirty_by trace cpu w s)
grew_dirty trace cpu (whose.Task task) s = grew_next trace cpu task (task_of task s).works s
grew_dirty trace cpu (whose.Flusher flusher) s = inl refl

grew_fold : (cpu : ℕ) (x : Counter) (s : State) → Steps cpu s (fold cpu x s)
grew_fold cpu (ofDomain d) s = one_step cpu s.steps _ s.timer.todo refl refl
grew_fold cpu (ofContext k) s = one_step cpu s.steps _ s.timer.todo refl refl

grew_unmark_in : (trace : Trace) (cpu flusher : ℕ) (p : ReplayPhase) (s : State) → Steps cpu s (unmark_in trace cpu flusher p s)
grew_unmark_in trace cpu flusher (phase.Taken inode) s = one_step cpu s.steps _ s.timer.todo refl refl
grew_unmark_in trace cpu flusher (phase.Idle until kept) s = inl refl
grew_unmark_in trace cpu flusher (phase.Scanning scan) s = inl refl
grew_unmark_in trace cpu flusher (phase.Flying inode pages until) s = inl refl
grew_unmark_in trace cpu flusher phase.Finished s = inl refl

grew_unmark : (trace : Trace) (cpu : ℕ) (w : Whose) (s : State) → Steps cpu s (unmark_by trace cpu w s)
grew_unmark trace cpu (whose.Flusher flusher) s = grew_unmark_in trace cpu flusher (flusher_of flusher s).phase s
grew_unmark trace cpu (whose.Task task) s = inl refl

grew_look_in : (cpu flusher : ℕ) (p : ReplayPhase) (s : State) → Steps cpu s (look_in cpu flusher p s)
grew_look_in cpu flusher (phase.Scanning scan) s =
    let u = looked_at cpu flusher scan (s.book (page_of scan)) s in
    then_step cpu s u (look_in cpu flusher (phase.Scanning scan) s) _ refl refl refl (both_silent s (is_claimable (s.book (page_of scan))) _ _ refl refl)
grew_look_in cpu flusher (phase.Taken inode) s = inl refl
grew_look_in cpu flusher (phase.Idle until kept) s = inl refl
grew_look_in cpu flusher (phase.Flying inode pages until) s = inl refl
grew_look_in cpu flusher phase.Finished s = inl refl

grew_look : (cpu : ℕ) (w : Whose) (s : State) → Steps cpu s (look_by cpu w s)
grew_look cpu (whose.Flusher flusher) s = grew_look_in cpu flusher (flusher_of flusher s).phase s
grew_look cpu (whose.Task task) s = inl refl

grew_claim_in : (cpu flusher word : ℕ) (p : ReplayPhase) (s : State) → Steps cpu s (claim_in cpu flusher word p s)
grew_claim_in cpu flusher word (phase.Scanning scan) s =
    let found = claim_now cpu flusher scan s in
    then_step cpu s (cond (eqb (shared_word s.book (page_of scan)) word) found s) (claim_in cpu flusher word (phase.Scanning scan) s) _ refl refl refl
    (both_silent s (eqb (shared_word s.book (page_of scan)) word) found s refl refl)
grew_claim_in cpu flusher word (phase.Taken inode) s = inl refl
grew_claim_in cpu flusher word (phase.Idle until kept) s = inl refl
grew_claim_in cpu flusher word (phase.Flying inode pages until) s = inl refl
grew_claim_in cpu flusher word phase.Finished s = inl refl

grew_claim : (cpu word : ℕ) (w : Whose) (s : State) → Steps cpu s (claim_by cpu word w s)
grew_claim cpu word (whose.Flusher flusher) s = grew_claim_in cpu flusher word (flusher_of flusher s).phase s
grew_claim cpu word (whose.Task task) s = inl refl

grew_first : (trace : Trace) (cpu flusher context : ℕ) (batch : List ℕ) (s : State) → Steps cpu s (complete_first trace cpu flusher context batch s)
grew_first trace cpu flusher context [] s = inl refl
grew_first trace cpu flusher context (page ∷ pages) s = one_step cpu s.steps _ s.timer.todo refl refl

grew_complete_in : (trace : Trace) (cpu flusher : ℕ) (p : ReplayPhase) (s : State) → Steps cpu s (complete_in trace cpu flusher p s)
grew_complete_in trace cpu flusher (phase.Flying inode pages until) s = grew_first trace cpu flusher (context_of trace inode) (flusher_of flusher s).batch s
grew_complete_in trace cpu flusher (phase.Taken inode) s = inl refl
grew_complete_in trace cpu flusher (phase.Idle until kept) s = inl refl
grew_complete_in trace cpu flusher (phase.Scanning scan) s = inl refl
grew_complete_in trace cpu flusher phase.Finished s = inl refl

grew_complete : (trace : Trace) (cpu : ℕ) (w : Whose) (s : State) → Steps cpu s (complete_by trace cpu w s)
grew_complete trace cpu (whose.Flusher flusher) s = grew_complete_in trace cpu flusher (flusher_of flusher s).phase s
grew_complete trace cpu (whose.Task task) s = inl refl

grew_mark : (trace : Trace) (cpu inode : ℕ) (s : State) → Steps cpu s (mark trace cpu inode s)
grew_mark trace cpu inode s = then_step cpu s (marked trace inode s) (mark trace cpu inode s) _ refl refl refl (both_silent s (get_or s.marks inode true) s _ refl refl)

pub grew_step : (trace : Trace) (cpu : ℕ) (item : Step) (s : State) → Steps cpu s (make_step trace cpu item s)
unfolding make_step
grew_step trace cpu step.Dirty s = grew_dirty trace cpu (cpu_of cpu s).turn.whose s
grew_step trace cpu (step.Add counter change) s = one_step cpu s.steps _ s.timer.todo refl refl
grew_step trace cpu (step.Fold counter) s = grew_fold cpu counter s
grew_step trace cpu (step.Clear counter) s = one_step cpu s.steps _ s.timer.todo refl refl
grew_step trace cpu (step.Mark inode) s = grew_mark trace cpu inode s
grew_step trace cpu (step.First domain) s = one_step cpu s.steps _ s.timer.todo refl refl
grew_step trace cpu (step.Middle domain) s = one_step cpu s.steps _ s.timer.todo refl refl
grew_step trace cpu (step.Limits domain) s = one_step cpu s.steps _ s.timer.todo refl refl
grew_step trace cpu (step.Count counter) s = one_step cpu s.steps _ s.timer.todo refl refl
grew_step trace cpu step.Unmark s = grew_unmark trace cpu (cpu_of cpu s).turn.whose s
grew_step trace cpu step.Look s = grew_look cpu (cpu_of cpu s).turn.whose s
grew_step trace cpu (step.Claim word) s = grew_claim cpu word (cpu_of cpu s).turn.whose s
grew_step trace cpu step.Complete s = grew_complete trace cpu (cpu_of cpu s).turn.whose s

-- ---- silent moves

silent_decide : (trace : Trace) (cpu : ℕ) (w : Whose) (s : State) → Silently s (decide_by trace cpu w s)
silent_decide trace cpu (whose.Task task) s = refl
silent_decide trace cpu (whose.Flusher flusher) s = refl

silent_estimate : (cpu context : ℕ) (found : Option Estimate) (s : State) → Silently s (estimate_to cpu context found s)
silent_estimate cpu context None s = refl
silent_estimate cpu context (Some e) s = refl

pub silent_change : (trace : Trace) (s : State) (one : Change) → IsSilent one s → Silently s (apply trace one s)
silent_change trace s (change.stepped who kind) h = absurd h
silent_change trace s (change.dirtied cpu task inode page works) h = absurd h
silent_change trace s (change.completed cpu flusher context page left) h = absurd h
silent_change trace s (change.raised domain hard) h = absurd h
silent_change trace s (change.folded cpu (ofDomain d)) h = refl
silent_change trace s (change.folded cpu (ofContext k)) h = refl
silent_change trace s other h = refl

pub then_silent : (s u v : State) → Silently s u → Silently u v → Silently s v
then_silent s u v h k = k ∙ h

pub silent_move : (trace : Trace) (cpu : ℕ) (item : Silent) (s : State) → Silently s (make_move trace cpu item s)
unfolding make_move
silent_move trace cpu silent.Decide s = silent_decide trace cpu (cpu_of cpu s).turn.whose s
silent_move trace cpu (silent.Estimate context) s =
    silent_estimate cpu context (update_of (writeback_of context s).estimate (sample_of trace context (cpu_of cpu s).turn s)) s
silent_move trace cpu other s = move_keeps trace Silently (λ u. refl) then_silent (silent_change trace) cpu other s tt
