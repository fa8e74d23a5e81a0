-- Each silent move of a CPU's turn: what it puts down.
use Rattle.std.proofs.Common.{◌⊎◌, inl, inr, ℕ, zero, suc, ◌+◌, ◌<◌, ◌||◌, Bool, false, eqb, ltb, List, [], ◌∷◌, ◌++◌, length, Option, Some, None, refl, ◌∙◌, ap, ⊎_elim}
use Rattle.wbt_replay_order.proofs.Common.{update_of, Estimate, fraction_of, may_be_added, StepKind, context_of, group_of, flusher_device, max_share, FLUSHER_REST, Trace, decide_by, writer_of, log_at, then_do, estimate_to, sample_of, land_by, land_in, landed, share, share_now, share_group, part_in, with_written, take_or_rest, rest_until, test_by, with_hard, noticed, age, tested_by, take_now, make_move, close_by, close_in, close_items, is_scan_over, keep_place, hand_over_by, hand_over_in, land_empty, State, cpu_of, flusher_of, task_of, domain_of, writeback_of, queue_of, in_phase, end_by, end_now, has_nothing, ReplayPhase, ReplayTurn, Whose, Silent, Todo}
use Rattle.wbt_expiry.specs.Waiting.{Waiting as Wheel}
use Rattle.wbt_grant.specs.declared.who.StepKind.TheVariants as kind
use Rattle.wbt_journal.specs.declared.entry.Entry.TheVariants as entry
use Rattle.wbt_replay_moves.specs.declared.state.ReplayPhase.TheVariants as phase
use Rattle.wbt_replay_moves.specs.declared.state.Whose.TheVariants as whose
use Rattle.wbt_replay_moves.specs.declared.todo.Silent.TheVariants as silent
use Rattle.wbt_replay_moves.specs.declared.todo.Step.TheVariants as step
use Rattle.wbt_replay_moves.specs.declared.todo.Todo.TheVariants as todo
use Rattle.wbt_replay_order.proofs.Facts.Ages.{noticed_kept, aged_kept}
use Rattle.wbt_replay_order.proofs.Facts.Lists.{either}
use Rattle.wbt_turns.specs.Words.{MayMark}
use Rattle.wbt_replay_turns.proofs.Words.Language.{Runs, Yields, one_of, single}
use Rattle.wbt_replay_turns.proofs.Words.Todos.{Todos, as_before, then_next, then_log, then_quiet}

-- what a silent move leaves to be done first
pub record Leaves (i : ℕ) (item : Silent) (s u : State) : Type 0 where
  pub items : List Todo
  pub yields : Yields (todo.Silent item) items []
  pub todos : Todos i (items ++ (cpu_of i s).todo) s u

module _ (trace : Trace) (i : ℕ) (s : State) (there : i < length s.cpus) where
  abbrev left : List Todo
  left = (cpu_of i s).todo

  abbrev Same : (u : State) → Type 0
  Same u = Todos i left s u

  -- ---- moves that put nothing down

  same_decide : (w : Whose) → Same (decide_by trace i w s)
  same_decide (whose.Task task) = then_quiet i s there left s _ (as_before i s) refl
  same_decide (whose.Flusher f) = as_before i s

  same_end : (w : Whose) → Same (end_by i w s)
  same_end (whose.Task task) =
      either Same (has_nothing (task_of task s).works (writer_of (task_of task s)).due) (end_now i task s) s
      (λ ends. then_quiet i s there left s _ (as_before i s) refl) (λ more. as_before i s)
  same_end (whose.Flusher f) = as_before i s

  same_estimate : (context : ℕ) (found : Option Estimate) → Same (estimate_to i context found s)
  same_estimate context None = as_before i s
  same_estimate context (Some e) = then_quiet i s there left s _ (as_before i s) refl

  same_hand_over_in : (f : ℕ) (p : ReplayPhase) → Same (hand_over_in trace i f p s)
  same_hand_over_in f (phase.Scanning scan) =
      either Same (eqb (length (flusher_of f s).batch) 0) (land_empty f scan.noted s) _ (λ none. as_before i s)
      (λ some. then_log i s there left _ s (as_before i s))
  same_hand_over_in f (phase.Taken inode) = as_before i s
  same_hand_over_in f (phase.Idle until kept) = as_before i s
  same_hand_over_in f (phase.Flying inode pages until) = as_before i s
  same_hand_over_in f phase.Finished = as_before i s

  same_hand_over : (w : Whose) → Same (hand_over_by trace i w s)
  same_hand_over (whose.Flusher f) = same_hand_over_in f (flusher_of f s).phase
  same_hand_over (whose.Task task) = as_before i s

  same_share : (domain context n : ℕ) (u : State) → Same u → Same (share trace i domain context n u)
  same_share domain context n u h =
      either Same (may_be_added (fraction_of (part_in domain (writeback_of context u)) (domain_of domain u).events) (max_share trace context))
      (share_now i domain context n u) u (λ may. then_log i s there left (entry.Share domain context n) u h) (λ full. h)

  same_share_group : (group context n : ℕ) (u : State) → Same u → Same (share_group trace i group context n u)
  same_share_group zero context n u h = h
  same_share_group (suc cgroup) context n u h = same_share (suc cgroup) context n u h

  same_land_in : (f : ℕ) (p : ReplayPhase) → Same (land_in trace i f p s)
  same_land_in f (phase.Flying inode pages until) =
      let context : ℕ = context_of trace inode in
      let u = with_written context pages (in_phase f (phase.Idle 0 false) s) in
      either Same (eqb (length (flusher_of f s).batch) 0) (landed trace i f context pages s) s
      (λ none. same_share_group (group_of trace context) context pages (share trace i 0 context pages u) (same_share 0 context pages u (as_before i s)))
      (λ some. as_before i s)
  same_land_in f (phase.Taken inode) = as_before i s
  same_land_in f (phase.Idle until kept) = as_before i s
  same_land_in f (phase.Scanning scan) = as_before i s
  same_land_in f phase.Finished = as_before i s

  same_land : (w : Whose) → Same (land_by trace i w s)
  same_land (whose.Flusher f) = same_land_in f (flusher_of f s).phase
  same_land (whose.Task task) = as_before i s

  -- ---- the end of a test: the mark of an inode is cleared next, or nothing is

  abbrev May : (u : State) → Type 0
  May u = Same u ⊎ Todos i (todo.Step step.Unmark ∷ left) s u

  takes : (f inode : ℕ) (u : State) → Same u → May (take_now i f inode u)
  takes f inode u h = inr (then_next i s there left (todo.Step step.Unmark ∷ []) u h)

  take_or_rests : (f until : ℕ) (numbers : List ℕ) (u : State) → Same u → May (take_or_rest trace i f until numbers u)
  take_or_rests f until [] u h = inl h
  take_or_rests f until (inode ∷ inodes) u h = takes f inode u h

  ages : (f now : ℕ) (over : Bool) (u : State) → Same u → May (age trace i f now over u)
  ages f now over u h =
      let v = noticed trace i f now u in
      let same : Same v = noticed_kept trace i f now Same (λ w k. k) (λ w n ns is waits k. k) (λ w n ns is new k. then_log i s there left (entry.Noticed f n now) w k) u h in
      aged_kept i f now over v May (inl same)
      (λ pair pairs is by_now. takes f pair.inode (log_at i (entry.Aged f pair.inode pair.due now) v) (then_log i s there left (entry.Aged f pair.inode pair.due now) v same))
      (λ pair pairs is. takes f pair.inode (log_at i (entry.Taken f pair.inode) v) (then_log i s there left (entry.Taken f pair.inode) v same))

  tested : (f : ℕ) (turn : ReplayTurn) (wheel : Option Wheel) (u : State) → Same u → May (tested_by trace i f turn wheel u)
  tested f turn None u h =
      either May turn.over (take_or_rest trace i f (turn.began + FLUSHER_REST) (queue_of (flusher_device trace f) u) u) (rest_until f (turn.began + FLUSHER_REST) u)
      (λ over. take_or_rests f (turn.began + FLUSHER_REST) (queue_of (flusher_device trace f) u) u h) (λ under. inl h)
  tested f turn (Some w) u h = ages f turn.began turn.over u h

  may_test : (turn : ReplayTurn) (w : Whose) → May (test_by trace i turn w s)
  may_test turn (whose.Flusher f) = tested f turn (flusher_of f s).wheel (with_hard f turn.global.limits.hard s) (as_before i s)
  may_test turn (whose.Task task) = inl (as_before i s)

  -- ---- the close

  close_runs : (inode : ℕ) (again : Bool) (word : List StepKind) → Runs (close_items inode again) word → MayMark word
  close_runs inode again word =
      either (λ (l : List Todo). Runs l word → MayMark word) again _ _
      (λ yes h.
      let a = one_of (todo.Step (step.Mark inode)) kind.Mark (λ w is. is) (todo.Silent silent.HandOver ∷ []) word h in
      inr (a.2 ∙ ap (λ (l : List StepKind). kind.Mark ∷ l) (single (todo.Silent silent.HandOver) a.0 a.1)))
      (λ no h. inl (single (todo.Silent silent.HandOver) word h))

  leaves_close_in : (f : ℕ) (p : ReplayPhase) → Leaves i silent.Close s (close_in trace i f p s)
  leaves_close_in f (phase.Scanning scan) =
      let again : Bool = scan.noted || ltb scan.passed scan.pages in
      let items : List Todo = close_items scan.inode again in
      either (Leaves i silent.Close s) (is_scan_over scan (length (flusher_of f s).batch)) (then_do i items (keep_place trace f scan s)) s
      (λ over. record { items = items; yields = λ w h. close_runs scan.inode again w h; todos = then_next i s there left items s (as_before i s) })
      (λ more. record { items = []; yields = λ w h. inl h; todos = as_before i s })
  leaves_close_in f (phase.Taken inode) = record { items = []; yields = λ w h. inl h; todos = as_before i s }
  leaves_close_in f (phase.Idle until kept) = record { items = []; yields = λ w h. inl h; todos = as_before i s }
  leaves_close_in f (phase.Flying inode pages until) = record { items = []; yields = λ w h. inl h; todos = as_before i s }
  leaves_close_in f phase.Finished = record { items = []; yields = λ w h. inl h; todos = as_before i s }

  leaves_close : (w : Whose) → Leaves i silent.Close s (close_by trace i w s)
  leaves_close (whose.Flusher f) = leaves_close_in f (flusher_of f s).phase
  leaves_close (whose.Task task) = record { items = []; yields = λ w h. inl h; todos = as_before i s }

  -- ---- a move

  pub leaves : (item : Silent) → Leaves i item s (make_move trace i item s)
  unfolding make_move
  leaves silent.Decide = record { items = []; yields = λ w h. h; todos = same_decide (cpu_of i s).turn.whose }
  leaves silent.End = record { items = []; yields = λ w h. h; todos = same_end (cpu_of i s).turn.whose }
  leaves (silent.Estimate context) = record {
    items = [];
    yields = λ w h. h;
    todos = same_estimate context (update_of (writeback_of context s).estimate (sample_of trace context (cpu_of i s).turn s));
  }
  leaves (silent.Weigh context) = record { items = []; yields = λ w h. h; todos = then_quiet i s there left s _ (as_before i s) refl }
  leaves silent.Test = ⊎_elim
      (λ same. record { items = []; yields = λ w h. inl h; todos = same })
      (λ taken. record { items = todo.Step step.Unmark ∷ []; yields = λ w h. inr (single (todo.Step step.Unmark) w h); todos = taken })
      (may_test (cpu_of i s).turn (cpu_of i s).turn.whose)
  leaves silent.Close = leaves_close (cpu_of i s).turn.whose
  leaves silent.HandOver = record { items = []; yields = λ w h. h; todos = same_hand_over (cpu_of i s).turn.whose }
  leaves silent.Land = record { items = []; yields = λ w h. h; todos = same_land (cpu_of i s).turn.whose }
