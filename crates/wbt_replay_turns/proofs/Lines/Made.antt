-- A step of a CPU's turn leaves as it was how many steps each CPU has made.
use Rattle.std.proofs.Common.{◌≡◌, ℕ, true, eqb, ℤ, pos, negsuc, ◌+ℤ◌, unsigned_abs, List, [], ◌∷◌, length, get_or, refl, ◌∙◌}
use Rattle.std.proofs.lemmas.List.{length-set}
use Rattle.wbt_replay_order.proofs.Common.{is_claimable, shared_word, Counter, batch_of, Entry, page_of, context_of, group_of, Scan, Trace, add, fold, clear, added, own_of, with_own, log_at, then_do, owed_to, complete_by, complete_in, complete_first, unmark_by, unmark_in, make_step, look_by, look_in, claim_by, claim_in, claim_now, State, no_cpu, cpu_of, with_cpu, flusher_of, task_of, with_event, with_task, passed_page, count_page, dirty_by, dirty_next, dirty_page, dirty_fresh, mark, Cpu, ReplayPhase, ReplayWork, Whose, Step, Todo}
use Rattle.wbt_book.specs.declared.event.Event.TheVariants as event
use Rattle.wbt_counter.specs.declared.counter.Counter.TheVariants.{Domain as ofDomain, Context as ofContext}
use Rattle.wbt_journal.specs.declared.entry.Entry.TheVariants as entry
use Rattle.wbt_replay_moves.specs.declared.state.ReplayPhase.TheVariants as phase
use Rattle.wbt_replay_moves.specs.declared.state.ReplayWork.TheVariants as work
use Rattle.wbt_replay_moves.specs.declared.state.Whose.TheVariants as whose
use Rattle.wbt_replay_moves.specs.declared.todo.Silent.TheVariants as silent
use Rattle.wbt_replay_moves.specs.declared.todo.Step.TheVariants as step
use Rattle.wbt_replay_moves.specs.declared.todo.Todo.TheVariants as todo
use Rattle.wbt_replay_order.proofs.Facts.Lists.{either}
use Rattle.wbt_replay_order.proofs.Growth.Quiet.{same_at}

-- as many CPUs, each of which has made as many steps
pub record SameMadeIn (cpus more : List Cpu) : Type 0 where
  pub many : length more ≡ length cpus
  pub made : (i : ℕ) → (get_or more i no_cpu).made ≡ (get_or cpus i no_cpu).made

abbrev pub SameMade : (s u : State) → Type 0
SameMade s u = SameMadeIn s.cpus u.cpus

still : (s : State) → SameMade s s
still s = record { many = refl; made = λ i. refl }

then_so : (s u v : State) → SameMade s u → SameMade u v → SameMade s v
then_so s u v h k = record { many = k.many ∙ h.many; made = λ i. k.made i ∙ h.made i }

at_cpu : (cpu : ℕ) (c : Cpu) (s : State) → c.made ≡ (cpu_of cpu s).made → SameMade s (with_cpu cpu c s)
at_cpu cpu c s same = record { many = length-set s.cpus cpu c; made = same_at (λ (x : Cpu). x.made) s.cpus cpu c no_cpu same }

-- ---- counters

own_made : (x : Counter) (n : ℤ) (c : Cpu) → (with_own x n c).made ≡ c.made
own_made (ofDomain d) n c = refl
own_made (ofContext k) n c = refl

added_made : (batch : ℕ) (x : Counter) (n : ℤ) (c : Cpu) → (added batch x n c).made ≡ c.made
added_made batch x n c = either (λ (y : Cpu). y.made ≡ c.made) (eqb (unsigned_abs n) batch) _ _ (λ full. own_made x n c) (λ room. own_made x n c)

made_add : (trace : Trace) (cpu : ℕ) (x : Counter) (change : ℤ) (s : State) → SameMade s (add trace cpu x change s)
made_add trace cpu x change s =
    at_cpu cpu (added (batch_of trace x) x (own_of x (cpu_of cpu s) +ℤ change) (cpu_of cpu s)) s
    (added_made (batch_of trace x) x (own_of x (cpu_of cpu s) +ℤ change) (cpu_of cpu s))

made_fold : (cpu : ℕ) (x : Counter) (s : State) → SameMade s (fold cpu x s)
made_fold cpu (ofDomain d) s = at_cpu cpu _ s refl
made_fold cpu (ofContext k) s = at_cpu cpu _ s refl

made_clear : (cpu : ℕ) (x : Counter) (s : State) → SameMade s (clear cpu x s)
made_clear cpu x s = at_cpu cpu (with_own x (pos 0) (cpu_of cpu s)) s (own_made x (pos 0) (cpu_of cpu s))

-- ---- changes of a CPU alone

made_do : (cpu : ℕ) (items : List Todo) (s : State) → SameMade s (then_do cpu items s)
made_do cpu items s = at_cpu cpu _ s refl

made_log : (cpu : ℕ) (e : Entry) (s : State) → SameMade s (log_at cpu e s)
made_log cpu e s = at_cpu cpu _ s refl

-- ---- a write

made_fresh : (trace : Trace) (cpu task inode page : ℕ) (s : State) → SameMade s (dirty_fresh trace cpu task inode page s)
made_fresh trace cpu task inode page s =
    let context = context_of trace inode in
    let u = count_page cpu task context (with_event (event.Dirty page) page s) in
    let v = log_at cpu (entry.Write task page true) u in
    let items = owed_to (pos 1) context (group_of trace context) (todo.Step (step.Mark inode)) in
    then_so s v (then_do cpu items v) (then_so s u v (at_cpu cpu _ s refl) (made_log cpu (entry.Write task page true) u)) (made_do cpu items v)

made_page : (trace : Trace) (cpu task inode page : ℕ) (s : State) → SameMade s (dirty_page trace cpu task inode page s)
made_page trace cpu task inode page s =
    either (SameMade s) (s.book page).dirty _ (dirty_fresh trace cpu task inode page s) (λ known. at_cpu cpu _ s refl) (λ fresh. made_fresh trace cpu task inode page s)

made_next : (trace : Trace) (cpu task : ℕ) (works : List ReplayWork) (s : State) → SameMade s (dirty_next trace cpu task works s)
made_next trace cpu task [] s = still s
made_next trace cpu task (work.Rest ticks ∷ works) s = still s
made_next trace cpu task (work.Write inode page pages ∷ works) s =
    made_page trace cpu task inode page (with_task task (passed_page inode page pages works (task_of task s)) s)

made_dirty : (trace : Trace) (cpu : ℕ) (w : Whose) (s : State) → SameMade s (dirty_by trace cpu w s)
made_dirty trace cpu (whose.Task task) s = made_next trace cpu task (task_of task s).works s
made_dirty trace cpu (whose.Flusher flusher) s = still s

made_mark : (trace : Trace) (cpu inode : ℕ) (s : State) → SameMade s (mark trace cpu inode s)
made_mark trace cpu inode s = either (SameMade s) (get_or s.marks inode true) s _ (λ is. still s) (λ new. still s)

-- ---- a flusher

made_unmark_in : (trace : Trace) (cpu flusher : ℕ) (p : ReplayPhase) (s : State) → SameMade s (unmark_in trace cpu flusher p s)
made_unmark_in trace cpu flusher (phase.Taken inode) s = still s
made_unmark_in trace cpu flusher (phase.Idle until kept) s = still s
made_unmark_in trace cpu flusher (phase.Scanning scan) s = still s
made_unmark_in trace cpu flusher (phase.Flying inode pages until) s = still s
made_unmark_in trace cpu flusher phase.Finished s = still s

made_unmark : (trace : Trace) (cpu : ℕ) (w : Whose) (s : State) → SameMade s (unmark_by trace cpu w s)
made_unmark trace cpu (whose.Flusher flusher) s = made_unmark_in trace cpu flusher (flusher_of flusher s).phase s
made_unmark trace cpu (whose.Task task) s = still s

made_look_in : (cpu flusher : ℕ) (p : ReplayPhase) (s : State) → SameMade s (look_in cpu flusher p s)
made_look_in cpu flusher (phase.Scanning scan) s =
    either (SameMade s) (is_claimable (s.book (page_of scan))) _ _ (λ can. at_cpu cpu _ s refl) (λ no. at_cpu cpu _ s refl)
made_look_in cpu flusher (phase.Taken inode) s = still s
made_look_in cpu flusher (phase.Idle until kept) s = still s
made_look_in cpu flusher (phase.Flying inode pages until) s = still s
made_look_in cpu flusher phase.Finished s = still s

made_look : (cpu : ℕ) (w : Whose) (s : State) → SameMade s (look_by cpu w s)
made_look cpu (whose.Flusher flusher) s = made_look_in cpu flusher (flusher_of flusher s).phase s
made_look cpu (whose.Task task) s = still s

made_claim_now : (cpu flusher : ℕ) (scan : Scan) (s : State) → SameMade s (claim_now cpu flusher scan s)
made_claim_now cpu flusher scan s =
    let u = log_at cpu (entry.Claimed flusher (page_of scan)) s in
    then_so s u (then_do cpu (todo.Silent silent.Close ∷ []) u) (made_log cpu (entry.Claimed flusher (page_of scan)) s) (made_do cpu (todo.Silent silent.Close ∷ []) u)

made_claim_in : (cpu flusher word : ℕ) (p : ReplayPhase) (s : State) → SameMade s (claim_in cpu flusher word p s)
made_claim_in cpu flusher word (phase.Scanning scan) s =
    either (SameMade s) (eqb (shared_word s.book (page_of scan)) word) (claim_now cpu flusher scan s) s (λ same. made_claim_now cpu flusher scan s) (λ other. still s)
made_claim_in cpu flusher word (phase.Taken inode) s = still s
made_claim_in cpu flusher word (phase.Idle until kept) s = still s
made_claim_in cpu flusher word (phase.Flying inode pages until) s = still s
made_claim_in cpu flusher word phase.Finished s = still s

made_claim : (cpu word : ℕ) (w : Whose) (s : State) → SameMade s (claim_by cpu word w s)
made_claim cpu word (whose.Flusher flusher) s = made_claim_in cpu flusher word (flusher_of flusher s).phase s
made_claim cpu word (whose.Task task) s = still s

made_first : (trace : Trace) (cpu flusher context : ℕ) (batch : List ℕ) (s : State) → SameMade s (complete_first trace cpu flusher context batch s)
made_first trace cpu flusher context [] s = still s
made_first trace cpu flusher context (page ∷ pages) s =
    let u = log_at cpu (entry.Done flusher page) s in
    let items = owed_to (negsuc 0) context (group_of trace context) (todo.Silent silent.Land) in
    then_so s u (then_do cpu items u) (made_log cpu (entry.Done flusher page) s) (made_do cpu items u)

made_complete_in : (trace : Trace) (cpu flusher : ℕ) (p : ReplayPhase) (s : State) → SameMade s (complete_in trace cpu flusher p s)
made_complete_in trace cpu flusher (phase.Flying inode pages until) s = made_first trace cpu flusher (context_of trace inode) (flusher_of flusher s).batch s
made_complete_in trace cpu flusher (phase.Taken inode) s = still s
made_complete_in trace cpu flusher (phase.Idle until kept) s = still s
made_complete_in trace cpu flusher (phase.Scanning scan) s = still s
made_complete_in trace cpu flusher phase.Finished s = still s

made_complete : (trace : Trace) (cpu : ℕ) (w : Whose) (s : State) → SameMade s (complete_by trace cpu w s)
made_complete trace cpu (whose.Flusher flusher) s = made_complete_in trace cpu flusher (flusher_of flusher s).phase s
made_complete trace cpu (whose.Task task) s = still s

pub made_step : (trace : Trace) (cpu : ℕ) (item : Step) (s : State) → SameMade s (make_step trace cpu item s)
unfolding make_step
made_step trace cpu step.Dirty s = made_dirty trace cpu (cpu_of cpu s).turn.whose s
made_step trace cpu (step.Add counter change) s = made_add trace cpu counter change s
made_step trace cpu (step.Fold counter) s = made_fold cpu counter s
made_step trace cpu (step.Clear counter) s = made_clear cpu counter s
made_step trace cpu (step.Mark inode) s = made_mark trace cpu inode s
made_step trace cpu (step.First domain) s = at_cpu cpu _ s refl
made_step trace cpu (step.Middle domain) s = still s
made_step trace cpu (step.Limits domain) s = at_cpu cpu _ s refl
made_step trace cpu (step.Count counter) s = at_cpu cpu _ s refl
made_step trace cpu step.Unmark s = made_unmark trace cpu (cpu_of cpu s).turn.whose s
made_step trace cpu step.Look s = made_look cpu (cpu_of cpu s).turn.whose s
made_step trace cpu (step.Claim word) s = made_claim cpu word (cpu_of cpu s).turn.whose s
made_step trace cpu step.Complete s = made_complete trace cpu (cpu_of cpu s).turn.whose s
