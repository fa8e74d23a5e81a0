-- Where all tasks have ended and all flushers are finished nothing waits: no page is dirty or under writeback.
use Rattle.std.proofs.Common.{◌≡◌, ℕ, zero, suc, ◌+◌, ◌<◌, ◌≤◌, Bool, true, false, not, cond, eqb, List, [], ◌∷◌, length, get_or, count_by, All, refl, sym, ◌∙◌, ap, arith}
use Rattle.std.proofs.lemmas.Bool.{false_from_ne_true}
use Rattle.std.proofs.lemmas.List.Sums.{get_or-le-sum_by}
use Rattle.std.specs.List.{list_any}
use Rattle.wbt_replay_order.proofs.Common.{Trace, Bits, Book, clean, page_word, times_in, has_inode, State, no_cpu, no_task, cpu_of, task_of, flusher_of, queue_of, device_of, flusher_cpu, ReplayJob, ReplayPhase, Whose, Todo, is_finished, job_at, left_from, Facts, IsPageOf, Sound, IsAt, IsWhose, is_running, is_stopped, is_at_work, working_on, Agrees, is_mark_of, is_end, is_hand_over, AreBefore, IsTakeable, IsAwaited, Waiting, queued, listed, taken, takeable, scanned, owed}
use Rattle.wbt_replay_moves.specs.declared.state.ReplayJob.TheVariants as job
use Rattle.wbt_replay_moves.specs.declared.state.ReplayPhase.TheVariants as phase
use Rattle.wbt_replay_moves.specs.declared.state.Whose.TheVariants as whose
use Rattle.wbt_replay_moves.specs.declared.todo.Step.TheVariants as step
use Rattle.wbt_replay_moves.specs.declared.todo.Todo.TheVariants as todo
use Rattle.wbt_replay_moves.specs.declared.todo.Silent.TheVariants as silent
use Rattle.wbt_replay_order.specs.Kept.Waiting.{IsHeld}
use Rattle.wbt_replay_order.proofs.Facts.Lists.{none_counts}
use Rattle.wbt_replay_ends.proofs.Waiting.Performs.{an_end, a_hand_over, scanning_works}

-- ---- lists

some_there : (n : ℕ) (xs : List ℕ) → 1 ≤ times_in n xs → 1 ≤ length xs
some_there n [] some = absurd (omega (arith, some))
some_there n (x ∷ xs) some = omega arith

before_end : (trace : Trace) (task n : ℕ) (ts : List Todo) → AreBefore trace (whose.Task task) ts → list_any (is_mark_of n) ts ≡ true → list_any is_end ts ≡ true
before_end trace task n [] h some = absurd (cc some)
before_end trace task n (todo.Step (step.Mark m) ∷ ts) h some = h.0
before_end trace task n (todo.Step item ∷ ts) h some = before_end trace task n ts h.1 some
before_end trace task n (todo.Silent silent.End ∷ ts) h some = refl
before_end trace task n (todo.Silent item ∷ ts) h some = before_end trace task n ts h.1 some

before_hand_over : (trace : Trace) (f n : ℕ) (ts : List Todo) → AreBefore trace (whose.Flusher f) ts → list_any (is_mark_of n) ts ≡ true → list_any is_hand_over ts ≡ true
before_hand_over trace f n [] h some = absurd (cc some)
before_hand_over trace f n (todo.Step (step.Mark m) ∷ ts) h some = h.0.1
before_hand_over trace f n (todo.Step item ∷ ts) h some = before_hand_over trace f n ts h.1 some
before_hand_over trace f n (todo.Silent silent.HandOver ∷ ts) h some = refl
before_hand_over trace f n (todo.Silent item ∷ ts) h some = before_hand_over trace f n ts h.1 some

none_listed : (n : ℕ) → has_inode n [] ≡ false
unfolding has_inode
none_listed n = refl

has_mark : (n : ℕ) (ts : List Todo) → list_any (is_mark_of n) ts ≡ true → 1 ≤ length ts
has_mark n [] some = absurd (cc some)
has_mark n (t ∷ ts) some = omega arith

finished_empty : (trace : Trace) (batch : List ℕ) (p : ReplayPhase) → IsAt trace batch p → is_finished p ≡ true → batch ≡ []
finished_empty trace batch phase.Finished h over = h
finished_empty trace batch (phase.Idle until kept) h over = absurd (cc over)
finished_empty trace batch (phase.Taken n) h over = absurd (cc over)
finished_empty trace batch (phase.Scanning scan) h over = absurd (cc over)
finished_empty trace batch (phase.Flying n pages until) h over = absurd (cc over)

-- clean pages aren't left
pub none_left : (n page : ℕ) (book : Book) → ((p : ℕ) → page ≤ p → p < page + n → book p ≡ clean) → left_from n page book ≡ []
none_left zero page book all = refl
none_left (suc n) page book all =
    let here : eqb (page_word (book page)) 0 ≡ true = ap (λ (b : Bits). eqb (page_word b) 0) (all page (omega arith) (omega arith)) in
    let rest = none_left n (page + 1) book (λ p low high. all p (omega (arith, low)) (omega (arith, high))) in
    ap (λ (b : Bool). cond b (left_from n (page + 1) book) ((record { page = page; word = page_word (book page) }) ∷ left_from n (page + 1) book)) here ∙ rest

-- ---- the end

module _ (trace : Trace) (facts : Facts trace) (s : State) (sound : Sound trace s) (w : Waiting trace s) (drained : s.running ≡ 0) (over : s.working ≡ 0) (going : s.stopped ≡ 0) where
  none_at_work : (i : ℕ) → i < trace.cpus → count_by (is_at_work s.flushers) (cpu_of i s).jobs ≡ 0
  none_at_work i less =
      let there : i < length s.cpus = omega (arith, less, sound.holds.cpus.many) in
      let live : (cpu_of i s).stopped ≡ false = none_counts is_stopped no_cpu s.cpus (sym sound.holds.counted.cpus ∙ going) i there in
      let part = get_or-le-sum_by (working_on s.flushers) s.cpus i no_cpu there in
      let zero_on : working_on s.flushers (cpu_of i s) ≡ 0 = omega (arith, part, sound.holds.counted.flushers, over) in
      sym (ap (λ (b : Bool). cond b 0 (count_by (is_at_work s.flushers) (cpu_of i s).jobs)) live) ∙ zero_on

  pub all_finished : (f : ℕ) → f < length trace.flushers → is_finished (flusher_of f s).phase ≡ true
  all_finished f there =
      let i : ℕ = flusher_cpu trace f in
      let less : i < trace.cpus = facts.flusher_cpu_is f there in
      let found = facts.flusher_job f there in
      let jobs = (sound.holds.cpus.each i less).jobs in
      let at : job_at found.0 (cpu_of i s) ≡ job.Flusher f = ap (λ (js : List ReplayJob). get_or js found.0 job.Writer) jobs ∙ found.2 in
      not_working (is_finished (flusher_of f s).phase)
      (ap (is_at_work s.flushers) (sym at) ∙ none_counts (is_at_work s.flushers) job.Writer (cpu_of i s).jobs (none_at_work i less) found.0 (omega (arith, found.1, ap (λ (js : List ReplayJob). length js) jobs)))
    where
      not_working : (b : Bool) → not b ≡ false → b ≡ true
      not_working true e = refl
      not_working false e = absurd (cc e)

  works_not : (f : ℕ) → f < length trace.flushers → is_finished (flusher_of f s).phase ≡ false → ⊥
  works_not f there works = cc (sym (all_finished f there) ∙ works)

  no_take : (n : ℕ) → n < length trace.inodes → IsTakeable trace s n → ⊥
  no_take n less (queued some) =
      let serves = w.served (device_of trace n) (facts.inode_device n less) (some_there n (queue_of (device_of trace n) s) some) in
      works_not serves.flusher serves.there serves.works
  no_take n less (listed f there some) = cc (sym some ∙ ap (has_inode n) (w.emptied f there (all_finished f there)) ∙ none_listed n)
  no_take n less (taken f there at) = works_not f there (ap is_finished at)

  no_mark : (i n : ℕ) → i < trace.cpus → list_any (is_mark_of n) (cpu_of i s).todo ≡ true → ⊥
  no_mark i n less some =
      by_whose (cpu_of i s).turn.whose ((sound.holds.cpus.each i less).whose (has_mark n (cpu_of i s).todo some)) (w.turns i less) (sound.holds.agreed i less).items
    where
      ended_not : (b : Bool) → b ≡ false → not b ≡ false → ⊥
      ended_not b e f = cc (sym f ∙ ap not e)

      by_whose : (x : Whose) → IsWhose trace i x → AreBefore trace x (cpu_of i s).todo → All (Agrees trace s.tasks s.flushers x) (cpu_of i s).todo → ⊥
      by_whose (whose.Task task) on h agree =
          ended_not (task_of task s).ended (an_end trace s.tasks s.flushers task (cpu_of i s).todo (before_end trace task n (cpu_of i s).todo h some) agree)
          (none_counts is_running no_task s.tasks (sym sound.holds.counted.tasks ∙ drained) task (omega (arith, on.there, sound.holds.tasks.many)))
      by_whose (whose.Flusher f) on h agree =
          works_not f on.there (scanning_works (flusher_of f s).phase (a_hand_over trace s.tasks s.flushers f (cpu_of i s).todo (before_hand_over trace f n (cpu_of i s).todo h some) agree))

  no_wait : (n p : ℕ) → n < length trace.inodes → IsAwaited trace s n p → ⊥
  no_wait n p less (takeable h) = no_take n less h
  no_wait n p less (scanned f scan there at its behind still) = works_not f there (ap is_finished at)
  no_wait n p less (owed i there some) = no_mark i n there some

  pub none_dirty : (n p : ℕ) → IsPageOf trace n p → (s.book p).dirty ≡ false
  none_dirty n p here = false_from_ne_true (s.book p).dirty (λ is. no_wait n p here.there (w.dirty n p here is))

  pub none_flying : (p : ℕ) → (s.book p).writeback ≡ false
  none_flying p = false_from_ne_true (s.book p).writeback (λ is. no_batch (w.flying p is))
    where
      no_batch : IsHeld trace s p → ⊥
      no_batch h =
          omega (arith, h.some, ap (times_in p) (finished_empty trace (flusher_of h.flusher s).batch (flusher_of h.flusher s).phase (sound.holds.flushers.each h.flusher).phase (all_finished h.flusher h.there)))
