-- Each step of a CPU's turn: its kind, and what it puts down.
use Rattle.std.proofs.Common.{◌≡◌, inl, inr, ℕ, ◌<◌, true, false, eqb, ℤ, pos, negsuc, ◌+ℤ◌, unsigned_abs, List, [], ◌∷◌, ◌++◌, length, get_or, refl, ◌∙◌, ap, ⊎_elim}
use Rattle.std.proofs.lemmas.List.{append-nil}
use Rattle.wbt_replay_order.proofs.Common.{is_claimable, shared_word, Counter, StepKind, batch_of, StepEntry, page_of, context_of, group_of, Trace, add, fold, clear, own_of, with_own, do_next, log_at, owed_to, complete_by, complete_in, complete_first, unmark_by, unmark_in, make_step, look_by, look_in, claim_by, claim_in, claim_now, State, cpu_of, with_cpu, flusher_of, task_of, with_event, with_task, plain_step, passed_page, count_page, dirty_by, dirty_next, dirty_page, dirty_fresh, mark, Cpu, ReplayPhase, ReplayWork, Whose, Step, Todo}
use Rattle.wbt_book.specs.declared.event.Event.TheVariants as event
use Rattle.wbt_counter.specs.declared.counter.Counter.TheVariants.{Domain as ofDomain, Context as ofContext}
use Rattle.wbt_grant.specs.declared.who.StepKind.TheVariants as kind
use Rattle.wbt_journal.specs.declared.entry.Entry.TheVariants as entry
use Rattle.wbt_replay_moves.specs.declared.state.ReplayPhase.TheVariants as phase
use Rattle.wbt_replay_moves.specs.declared.state.ReplayWork.TheVariants as work
use Rattle.wbt_replay_moves.specs.declared.state.Whose.TheVariants as whose
use Rattle.wbt_replay_moves.specs.declared.todo.Silent.TheVariants as silent
use Rattle.wbt_replay_moves.specs.declared.todo.Step.TheVariants as step
use Rattle.wbt_replay_moves.specs.declared.todo.Todo.TheVariants as todo
use Rattle.wbt_replay_order.proofs.Facts.Lists.{either}
use Rattle.wbt_replay_turns.proofs.Words.Language.{StepRuns, Runs, Yields, one_of, single, split_owed}
use Rattle.wbt_replay_turns.proofs.Words.Todos.{Todos, as_before, then_cpu, then_next, then_log, then_quiet}

-- The CPU made no step, or one that leaves these items to be done first.
pub data Does (i : ℕ) (item : Step) (s u : State) : Type 0 where
  nothing : u.steps ≡ s.steps → Does i item s u
  does : (items : List Todo) (k : StepKind) (e : StepEntry) → u.steps ≡ s.steps ++ e ∷ [] → e.who ≡ i → e.kind ≡ k → Yields (todo.Step item) items (k ∷ [])
      → Todos i (items ++ (cpu_of i s).todo) s u → Does i item s u

-- ---- what is put down

-- nothing
after_none : (k : StepKind) (word : List StepKind) → word ≡ [] → k ∷ word ≡ k ∷ []
after_none k word is = ap (λ (l : List StepKind). k ∷ l) is

-- a fold and its clear
after_folded : (x : Counter) (word : List StepKind) → Runs (todo.Step (step.Fold x) ∷ todo.Step (step.Clear x) ∷ []) word → word ≡ kind.Fold ∷ kind.Clear ∷ []
after_folded x word h =
    let a = one_of (todo.Step (step.Fold x)) kind.Fold (λ w is. is) (todo.Step (step.Clear x) ∷ []) word h in
    a.2 ∙ ap (λ (l : List StepKind). kind.Fold ∷ l) (single (todo.Step (step.Clear x)) a.0 a.1)

-- events, and a mark
after_fresh : (change : ℤ) (context group inode : ℕ) (word : List StepKind) → Runs (owed_to change context group (todo.Step (step.Mark inode))) word
    → StepRuns step.Dirty (kind.Dirty ∷ word)
after_fresh change context group inode word h = ⊎_elim
    (λ two. inr (two.0, inl two.2, ap (λ (l : List StepKind). kind.Dirty ∷ l) (two.4 ∙ ap (λ (l : List StepKind). two.0 ++ l) two.3)))
    (λ three. inr (three.0, inr three.2, ap (λ (l : List StepKind). kind.Dirty ∷ l) (three.4 ∙ ap (λ (l : List StepKind). three.0 ++ l) three.3)))
    (split_owed change context group (todo.Step (step.Mark inode)) word h)

-- events, and the end of a flight
after_complete : (change : ℤ) (context group : ℕ) (word : List StepKind) → Runs (owed_to change context group (todo.Silent silent.Land)) word
    → StepRuns step.Complete (kind.Complete ∷ word)
after_complete change context group word h = ⊎_elim
    (λ two. (two.0, inl two.2, ap (λ (l : List StepKind). kind.Complete ∷ l) (two.4 ∙ (ap (λ (l : List StepKind). two.0 ++ l) two.3 ∙ append-nil two.0))))
    (λ three. (three.0, inr three.2, ap (λ (l : List StepKind). kind.Complete ∷ l) (three.4 ∙ (ap (λ (l : List StepKind). three.0 ++ l) three.3 ∙ append-nil three.0))))
    (split_owed change context group (todo.Silent silent.Land) word h)

module _ (trace : Trace) (i : ℕ) (s : State) (there : i < length s.cpus) where
  abbrev left : List Todo
  left = (cpu_of i s).todo

  -- the CPU alone is changed, and nothing is put down
  plain : (item : Step) (k : StepKind) (c : Cpu) → c.todo ≡ left → ((w : List StepKind) → w ≡ [] → StepRuns item (k ∷ w)) → Does i item s (plain_step i k (with_cpu i c s))
  plain item k c is yields = does [] k _ refl refl refl yields (then_quiet i s there left s c (as_before i s) is)

  -- ---- counters

  own_todo : (x : Counter) (n : ℤ) (c : Cpu) → (with_own x n c).todo ≡ c.todo
  own_todo (ofDomain d) n c = refl
  own_todo (ofContext k) n c = refl

  does_add : (x : Counter) (change : ℤ) → Does i (step.Add x change) s (add trace i x change s)
  does_add x change =
      let n : ℤ = own_of x (cpu_of i s) +ℤ change in
      let c : Cpu = with_own x n (cpu_of i s) in
      let items : List Todo = todo.Step (step.Fold x) ∷ todo.Step (step.Clear x) ∷ [] in
      either (λ (d : Cpu). Does i (step.Add x change) s (plain_step i kind.Add (with_cpu i d s))) (eqb (unsigned_abs n) (batch_of trace x)) _ _
      (λ full. does items kind.Add _ refl refl refl (λ w h. inr (ap (λ (l : List StepKind). kind.Add ∷ l) (after_folded x w h)))
      (then_cpu i s there left (items ++ left) s (do_next items c) (as_before i s) (ap (λ (l : List Todo). items ++ l) (own_todo x n (cpu_of i s)))))
      (λ room. plain (step.Add x change) kind.Add c (own_todo x n (cpu_of i s)) (λ w h. inl (after_none kind.Add w h)))

  does_fold : (x : Counter) → Does i (step.Fold x) s (fold i x s)
  does_fold (ofDomain d) = does [] kind.Fold _ refl refl refl (λ w h. after_none kind.Fold w h) (then_quiet i s there left s _ (as_before i s) refl)
  does_fold (ofContext k) = does [] kind.Fold _ refl refl refl (λ w h. after_none kind.Fold w h) (then_quiet i s there left s _ (as_before i s) refl)

  does_clear : (x : Counter) → Does i (step.Clear x) s (clear i x s)
  does_clear x = plain (step.Clear x) kind.Clear (with_own x (pos 0) (cpu_of i s)) (own_todo x (pos 0) (cpu_of i s)) (λ w h. after_none kind.Clear w h)

  -- ---- a write

  does_mark : (inode : ℕ) → Does i (step.Mark inode) s (mark trace i inode s)
  does_mark inode =
      either (λ (u : State). Does i (step.Mark inode) s (plain_step i kind.Mark u)) (get_or s.marks inode true) s _
      (λ is. does [] kind.Mark _ refl refl refl (λ w h. after_none kind.Mark w h) (as_before i s))
      (λ new. does [] kind.Mark _ refl refl refl (λ w h. after_none kind.Mark w h) (as_before i s))

-- ---- steps of a flusher, and a write

module _ (trace : Trace) (i : ℕ) (s : State) (there : i < length s.cpus) where
  does_fresh : (task inode page : ℕ) → Does i step.Dirty s (dirty_fresh trace i task inode page s)
  does_fresh task inode page =
      let context : ℕ = context_of trace inode in
      let u = count_page i task context (with_event (event.Dirty page) page s) in
      let v = log_at i (entry.Write task page true) u in
      let items = owed_to (pos 1) context (group_of trace context) (todo.Step (step.Mark inode)) in
      let h = then_quiet i s there (cpu_of i s).todo (with_event (event.Dirty page) page s) _ (as_before i s) refl in
      does items kind.Dirty _ refl refl refl (λ w r. after_fresh (pos 1) context (group_of trace context) inode w r)
      (then_next i s there (cpu_of i s).todo items v (then_log i s there (cpu_of i s).todo (entry.Write task page true) u h))

  does_page : (task inode page : ℕ) → Does i step.Dirty s (dirty_page trace i task inode page s)
  does_page task inode page =
      either (Does i step.Dirty s) (s.book page).dirty _ (dirty_fresh trace i task inode page s)
      (λ known. does [] kind.Dirty _ refl refl refl (λ w h. inl (after_none kind.Dirty w h)) (then_log i s there (cpu_of i s).todo (entry.Write task page false) s (as_before i s)))
      (λ fresh. does_fresh task inode page)

  does_look_in : (f : ℕ) (p : ReplayPhase) → Does i step.Look s (look_in i f p s)
  does_look_in f (phase.Scanning scan) =
      either (λ (u : State). Does i step.Look s (plain_step i kind.Look u)) (is_claimable (s.book (page_of scan))) _ _
      (λ can. does (todo.Step (step.Claim (shared_word s.book (page_of scan))) ∷ []) kind.Look _ refl refl refl
      (λ w h. let is = single (todo.Step (step.Claim (shared_word s.book (page_of scan)))) w h in (w, inr is, refl))
      (then_next i s there (cpu_of i s).todo (todo.Step (step.Claim (shared_word s.book (page_of scan))) ∷ []) s (as_before i s)))
      (λ no. does (todo.Silent silent.Close ∷ []) kind.Look _ refl refl refl
      (λ w h. (w, inl (single (todo.Silent silent.Close) w h), refl))
      (then_next i s there (cpu_of i s).todo (todo.Silent silent.Close ∷ []) s (as_before i s)))
  does_look_in f (phase.Taken inode) = nothing refl
  does_look_in f (phase.Idle until kept) = nothing refl
  does_look_in f (phase.Flying inode pages until) = nothing refl
  does_look_in f phase.Finished = nothing refl

  does_claim_in : (f word : ℕ) (p : ReplayPhase) → Does i (step.Claim word) s (claim_in i f word p s)
  does_claim_in f word (phase.Scanning scan) =
      either (λ (v : State). Does i (step.Claim word) s (plain_step i kind.Claim v)) (eqb (shared_word s.book (page_of scan)) word) (claim_now i f scan s) s
      (λ hit. does (todo.Silent silent.Close ∷ []) kind.Claim _ refl refl refl
      (λ w h. (w, single (todo.Silent silent.Close) w h, refl))
      (then_next i s there (cpu_of i s).todo (todo.Silent silent.Close ∷ []) (log_at i (entry.Claimed f (page_of scan)) s) (then_log i s there (cpu_of i s).todo (entry.Claimed f (page_of scan)) s (as_before i s))))
      (λ missed. does [] kind.Claim _ refl refl refl (λ w h. (w, inl h, refl)) (as_before i s))
  does_claim_in f word (phase.Taken inode) = nothing refl
  does_claim_in f word (phase.Idle until kept) = nothing refl
  does_claim_in f word (phase.Flying inode pages until) = nothing refl
  does_claim_in f word phase.Finished = nothing refl

  does_unmark_in : (f : ℕ) (p : ReplayPhase) → Does i step.Unmark s (unmark_in trace i f p s)
  does_unmark_in f (phase.Taken inode) = does [] kind.Unmark _ refl refl refl (λ w h. after_none kind.Unmark w h) (as_before i s)
  does_unmark_in f (phase.Idle until kept) = nothing refl
  does_unmark_in f (phase.Scanning scan) = nothing refl
  does_unmark_in f (phase.Flying inode pages until) = nothing refl
  does_unmark_in f phase.Finished = nothing refl

  does_first : (f context : ℕ) (batch : List ℕ) → Does i step.Complete s (complete_first trace i f context batch s)
  does_first f context [] = nothing refl
  does_first f context (page ∷ pages) =
      let items = owed_to (negsuc 0) context (group_of trace context) (todo.Silent silent.Land) in
      does items kind.Complete _ refl refl refl (λ w h. after_complete (negsuc 0) context (group_of trace context) w h)
      (then_next i s there (cpu_of i s).todo items (log_at i (entry.Done f page) s) (then_log i s there (cpu_of i s).todo (entry.Done f page) s (as_before i s)))

  does_complete_in : (f : ℕ) (p : ReplayPhase) → Does i step.Complete s (complete_in trace i f p s)
  does_complete_in f (phase.Flying inode pages until) = does_first f (context_of trace inode) (flusher_of f s).batch
  does_complete_in f (phase.Taken inode) = nothing refl
  does_complete_in f (phase.Idle until kept) = nothing refl
  does_complete_in f (phase.Scanning scan) = nothing refl
  does_complete_in f phase.Finished = nothing refl

  -- ---- whose turn it is

  does_look : (w : Whose) → Does i step.Look s (look_by i w s)
  does_look (whose.Flusher f) = does_look_in f (flusher_of f s).phase
  does_look (whose.Task t) = nothing refl

  does_claim : (word : ℕ) (w : Whose) → Does i (step.Claim word) s (claim_by i word w s)
  does_claim word (whose.Flusher f) = does_claim_in f word (flusher_of f s).phase
  does_claim word (whose.Task t) = nothing refl

  does_unmark : (w : Whose) → Does i step.Unmark s (unmark_by trace i w s)
  does_unmark (whose.Flusher f) = does_unmark_in f (flusher_of f s).phase
  does_unmark (whose.Task t) = nothing refl

  does_complete : (w : Whose) → Does i step.Complete s (complete_by trace i w s)
  does_complete (whose.Flusher f) = does_complete_in f (flusher_of f s).phase
  does_complete (whose.Task t) = nothing refl

module _ (trace : Trace) (i : ℕ) (s : State) (there : i < length s.cpus) where
  does_next : (task : ℕ) (works : List ReplayWork) → Does i step.Dirty s (dirty_next trace i task works s)
  does_next task [] = nothing refl
  does_next task (work.Rest ticks ∷ works) = nothing refl
  does_next task (work.Write inode page pages ∷ works) =
      as_of (does_page trace i (with_task task (passed_page inode page pages works (task_of task s)) s) there task inode page)
    where
      as_of : {u : State} → Does i step.Dirty (with_task task (passed_page inode page pages works (task_of task s)) s) u → Does i step.Dirty s u
      as_of (nothing same) = nothing same
      as_of (does items k e steps by is yields todos) = does items k e steps by is yields todos

  does_dirty : (w : Whose) → Does i step.Dirty s (dirty_by trace i w s)
  does_dirty (whose.Task task) = does_next task (task_of task s).works
  does_dirty (whose.Flusher f) = nothing refl

  pub does_step : (item : Step) → Does i item s (make_step trace i item s)
  unfolding make_step
  does_step step.Dirty = does_dirty (cpu_of i s).turn.whose
  does_step (step.Add x change) = does_add trace i s there x change
  does_step (step.Fold x) = does_fold trace i s there x
  does_step (step.Clear x) = does_clear trace i s there x
  does_step (step.Mark inode) = does_mark trace i s there inode
  does_step (step.First d) = plain trace i s there (step.First d) kind.First _ refl (λ w h. after_none kind.First w h)
  does_step (step.Middle d) = does [] kind.Middle _ refl refl refl (λ w h. after_none kind.Middle w h) (as_before i s)
  does_step (step.Limits d) = plain trace i s there (step.Limits d) kind.Limits _ refl (λ w h. after_none kind.Limits w h)
  does_step (step.Count x) = plain trace i s there (step.Count x) kind.Count _ refl (λ w h. after_none kind.Count w h)
  does_step step.Unmark = does_unmark trace i s there (cpu_of i s).turn.whose
  does_step step.Look = does_look trace i s there (cpu_of i s).turn.whose
  does_step (step.Claim word) = does_claim trace i s there word (cpu_of i s).turn.whose
  does_step step.Complete = does_complete trace i s there (cpu_of i s).turn.whose
