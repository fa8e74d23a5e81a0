-- Writes and completions keep what the steps of a run tell of its counts, and so does each item of a turn.
use Rattle.std.proofs.Common.{◌≡◌, ℕ, ◌+◌, ◌<◌, ◌≤◌, Bool, true, false, cond, eqb, eq-eqb, ne_eqb, eqb-true, ℤ, pos, negsuc, ◌+ℤ◌, List, [], ◌∷◌, length, map, set, get_or, All, refl, sym, ◌∙◌, ap, subst, arith, ⊎_elim}
use Rattle.std.specs.List.{sum_by}
use Rattle.std.proofs.lemmas.Bool.{cases_lt, cond-true, cond-false}
use Rattle.std.proofs.lemmas.Int.{ints}
use Rattle.std.proofs.lemmas.List.{get_or_past}
use Rattle.std.proofs.lemmas.List.Elements.{All-head}
use mathlib.Core.Logic.{dite}
use native.Mathlib.Decide.{ℕ_discrete}
use Rattle.wbt_replay_order.proofs.Common.{bits_after, places, times_in, one_if, Trace, Entry, context_of, group_of, do_next, logged, log_at, owed_to, owe_at, make_step, make_move, State, no_cpu, no_flusher, cpu_of, with_cpu, flusher_of, with_flusher, task_of, with_event, counted_local, count_page, without_page, Cpu, Flusher, ReplayPhase, ReplayWork, Whose, Silent, Step, Todo, setting_of, IsPageOf, Suits, IsAt, IsWhose, WorkFits, passes, apply, apply_all, Change, step_changes, move_changes, look_changes, claim_changes, complete_changes, by_task, by_flusher, where_scanning, where_flying, write_changes, dirty_changes, moves_are_changes}
use Rattle.wbt_book.specs.declared.event.Event.TheVariants as event
use Rattle.wbt_grant.specs.declared.who.StepKind.TheVariants as kind
use Rattle.wbt_journal.specs.declared.entry.Entry.TheVariants as entry
use Rattle.wbt_replay_moves.specs.declared.state.ReplayPhase.TheVariants as phase
use Rattle.wbt_replay_moves.specs.declared.state.ReplayWork.TheVariants as work
use Rattle.wbt_replay_moves.specs.declared.state.Whose.TheVariants as whose
use Rattle.wbt_replay_moves.specs.declared.todo.Silent.TheVariants as silent
use Rattle.wbt_replay_moves.specs.declared.todo.Step.TheVariants as step
use Rattle.wbt_replay_moves.specs.declared.todo.Todo.TheVariants as todo
use Rattle.wbt_replay_order.proofs.Facts.Lists.{either}
use Rattle.wbt_replay_changes.specs.Change as change
use Rattle.wbt_replay_changes.specs.ChangeOf.Flusher.{batch_changes}
use Rattle.wbt_forecast_run.proofs.Counts.Booked.{IsBooked, IsSeated, held_set, put_bit, page_counts}
use Rattle.wbt_forecast_run.proofs.Counts.Looks.{IsTurnsOwn, booked_after, by_plain, own, none, taken, whose_is, look_booked, claim_booked}
use Rattle.wbt_forecast_run.proofs.Counts.Plain.{step_plain, move_plain}
use Rattle.wbt_forecast_run.proofs.Counts.Quiet.{is_claim, NoClaims, none_more, batch_in, Frames, frames_on, quiet_cpu, frames_cpu, frames_flusher, ArePlain}

-- ---- what a page owes

owed_none : (change : ℤ) (context group : ℕ) (last : Todo) → is_claim last ≡ false → NoClaims (owed_to change context group last)
owed_none change context group last quiet =
    either NoClaims (eqb group 0) _ _ (λ global. (refl, (refl, (quiet, tt)))) (λ also. (refl, (refl, (refl, (quiet, tt)))))

module _ (trace : Trace) (suits : Suits trace (setting_of trace)) (s : State) (seats : IsSeated trace s) (h : IsBooked trace s) (i : ℕ) (t : Todo) (rest : List Todo)
    (is : (cpu_of i s).todo ≡ t ∷ rest) (c : Cpu) (c_turn : c.turn ≡ (cpu_of i s).turn) (c_todo : c.todo ≡ rest) where
  abbrev y : State
  y = with_cpu i c s

  abbrev V : Whose
  V = (cpu_of i y).turn.whose

  plainly : (changes : List Change) → ArePlain i V changes → IsBooked trace (apply_all trace changes y)
  plainly = by_plain trace suits s seats h i t rest is c c_turn c_todo

  unclaimed : NoClaims (cpu_of i y).todo
  unclaimed = none trace suits s seats h i t rest is c c_turn c_todo

  owned : IsTurnsOwn trace i V
  owned = own trace suits s seats h i t rest is c c_turn c_todo

  framed : Frames i V s y
  framed = taken trace suits s seats h i t rest is c c_turn c_todo

  -- the event of a page is told and owed by the CPU, after the rest of the move
  module _ (a : State) (frames_a : Frames i V y a) (none_a : NoClaims (cpu_of i a).todo) (told : Entry) (change : ℤ) (context : ℕ) (last : Todo) (quiet : is_claim last ≡ false) where
    abbrev b : State
    b = log_at i told a

    abbrev d : State
    d = owe_at i change context (group_of trace context) last b

    owed_frames : (u : State) → u.flushers ≡ d.flushers → u.cpus ≡ d.cpus → Frames i V s u
    owed_frames u flushers cpus =
        let q_b : Frames i V a b = frames_cpu trace i V a b (logged told (cpu_of i a)) refl refl in
        let q_d : Frames i V b d = frames_cpu trace i V b d (do_next (owed_to change context (group_of trace context) last) (cpu_of i b)) refl refl in
        let q_u : Frames i V d u = record {
          cpus = λ j other. ap (λ (cs : List Cpu). get_or cs j no_cpu) cpus;
          phases = λ g other. ap (λ (fs : List Flusher). (get_or fs g no_flusher).phase) flushers;
        } in
        frames_on i V s y u framed (frames_on i V y a u frames_a (frames_on i V a b u q_b (frames_on i V b d u q_d q_u)))

    owed_unclaimed : (u : State) → u.cpus ≡ d.cpus → NoClaims (cpu_of i u).todo
    owed_unclaimed u cpus =
        let none_b = (quiet_cpu trace i V a b (logged told (cpu_of i a)) refl refl refl refl (λ n. n)).own none_a in
        let none_d = (quiet_cpu trace i V b d (do_next (owed_to change context (group_of trace context) last) (cpu_of i b)) refl refl refl refl
        (none_more (owed_to change context (group_of trace context) last) (cpu_of i b).todo (owed_none change context (group_of trace context) last quiet))).own none_b in
        subst (λ (cs : List Cpu). NoClaims (get_or cs i no_cpu).todo) (sym cpus) none_d

  -- ---- a write

  module _ (task inode page pages : ℕ) (more : List ReplayWork) (turn_is : V ≡ whose.Task task) (works : (task_of task s).works ≡ work.Write inode page pages ∷ more) where
    write_page : IsPageOf trace inode page
    write_page =
        let on = subst (IsWhose trace i) turn_is (whose_is trace suits s seats h i t rest is c c_turn c_todo) in
        (All-head (WorkFits trace task) (work.Write inode page pages) more (subst (All (WorkFits trace task)) works (seats.works task on.there))).first

    dirtied_booked : (y.book page).dirty ≡ false → IsBooked trace (apply trace (change.dirtied i task inode page (without_page inode page pages more)) y)
    dirtied_booked clean =
        let context = context_of trace inode in
        let m = with_event (event.Dirty page) page (passes task (without_page inode page pages more) y) in
        let a = count_page i task context m in
        let u = apply trace (change.dirtied i task inode page (without_page inode page pages more)) y in
        let counted : Cpu = record (cpu_of i m) { local = counted_local m.ratelimit_pages context (cpu_of i m).local (task_of task m) } in
        let frames_a : Frames i V y a = frames_cpu trace i V y a counted refl refl in
        let none_a : NoClaims (cpu_of i a).todo = (quiet_cpu trace i V m a counted refl refl refl refl (λ n. n)).own unclaimed in
        let told = entry.Write task page true in
        let last = todo.Step (step.Mark inode) in
        let bits = bits_after (event.Dirty page) (y.book page) in
        let more_places : pos (places bits) ≡ pos (places (y.book page)) +ℤ pos 1 = omega (arith, ints, ap one_if clean) in
        booked_after trace s seats h i V owned u (owed_frames a frames_a none_a told (pos 1) context last refl u refl refl)
        (owed_unclaimed a frames_a none_a told (pos 1) context last refl u refl)
        (page_counts trace suits inode page write_page y.book bits y.steps _ (pos 1) refl refl more_places h.counts)
        (λ k. h.held k ∙ sym (put_bit y.book page bits k ∙ same_if (eqb k page) (one_if (y.book page).writeback) (one_if (y.book k).writeback)
        (λ yes. ap (λ (n : ℕ). one_if (y.book n).writeback) (sym (eqb-true k page yes)))))
      where
        same_if : (b : Bool) (n m : ℕ) → (b ≡ true → n ≡ m) → cond b n m ≡ m
        same_if true n m same = same refl
        same_if false n m same = refl

  write_booked : (task : ℕ) (works : List ReplayWork) → V ≡ whose.Task task → (task_of task s).works ≡ works
      → IsBooked trace (apply_all trace (write_changes trace i task works y) y)
  write_booked task [] turn_is at = plainly [] tt
  write_booked task (work.Rest ticks ∷ more) turn_is at = plainly [] tt
  write_booked task (work.Write inode page pages ∷ more) turn_is at =
      either (λ (changes : List Change). IsBooked trace (apply_all trace changes y)) (y.book page).dirty
      (change.rewrote i task page (without_page inode page pages more) ∷ change.stepped i kind.Dirty ∷ [])
      (change.dirtied i task inode page (without_page inode page pages more) ∷ [])
      (λ already. plainly (change.rewrote i task page (without_page inode page pages more) ∷ change.stepped i kind.Dirty ∷ []) (refl, (tt, tt)))
      (λ clean. dirtied_booked task inode page pages more turn_is at clean)

  -- ---- a completion

  module _ (f inode pages until page : ℕ) (left : List ℕ) (turn_is : V ≡ whose.Flusher f) (at : (flusher_of f y).phase ≡ phase.Flying inode pages until)
      (batch : (flusher_of f y).batch ≡ page ∷ left) where
    flight_there : f < length y.flushers
    flight_there = ⊎_elim (λ less. less)
        (λ past. absurd (let none_at : phase.Finished ≡ phase.Flying inode pages until = ap (λ (g : Flusher). g.phase) (sym (get_or_past y.flushers f no_flusher past)) ∙ at in cc none_at))
        (cases_lt f (length y.flushers))

    flight_page : IsPageOf trace inode page
    flight_page =
        let at' = subst (IsAt trace (flusher_of f y).batch) at (seats.at f) in
        All-head (IsPageOf trace inode) page left (subst (All (IsPageOf trace inode)) batch at'.ours)

    abbrev g : Flusher
    g = record (flusher_of f y) { batch = left }

    sums : (k : ℕ) → sum_by (times_in k) (map batch_in (set y.flushers f g)) + (one_if (eqb k page) + times_in k left) ≡ one_if (y.book k).writeback + times_in k left
    sums k = ap (λ (l : List ℕ). sum_by (times_in k) (map batch_in (set y.flushers f g)) + times_in k l) (sym batch)
        ∙ (held_set k f g y.flushers flight_there ∙ ap (λ (n : ℕ). n + times_in k left) (h.held k))

    flying : (y.book page).writeback ≡ true
    flying = by_bit (y.book page).writeback (let own_page : one_if (eqb page page) ≡ 1 = ap one_if (eq-eqb page page refl) in let all = sums page in omega (arith, all, own_page))
      where
        by_bit : (b : Bool) → 1 ≤ one_if b → b ≡ true
        by_bit true some = refl
        by_bit false some = absurd (omega (arith, some))

    completed_booked : IsBooked trace (apply trace (change.completed i f (context_of trace inode) page left) y)
    completed_booked =
        let context = context_of trace inode in
        let m = with_flusher f g y in
        let a = with_event (event.Complete page) page m in
        let u = apply trace (change.completed i f context page left) y in
        let frames_a : Frames i V y a = frames_flusher trace i V y a f g turn_is refl refl in
        let told = entry.Done f page in
        let last = todo.Silent silent.Land in
        let bits = bits_after (event.Complete page) (y.book page) in
        let fewer_places : pos (places bits) ≡ pos (places (y.book page)) +ℤ negsuc 0 = omega (arith, ints, ap one_if flying) in
        booked_after trace s seats h i V owned u (owed_frames a frames_a unclaimed told (negsuc 0) context last refl u refl refl)
        (owed_unclaimed a frames_a unclaimed told (negsuc 0) context last refl u refl)
        (page_counts trace suits inode page flight_page y.book bits y.steps _ (negsuc 0) refl refl fewer_places h.counts)
        (λ k.
        let all = sums k in
        let bit = put_bit y.book page bits k in
        dite (ℕ_discrete k page)
        (λ here.
        let yes : eqb k page ≡ true = eq-eqb k page here in
        let one : one_if (eqb k page) ≡ 1 = ap one_if yes in
        let was : one_if (y.book k).writeback ≡ 1 = ap (λ (n : ℕ). one_if (y.book n).writeback) here ∙ ap one_if flying in
        let now : cond (eqb k page) 0 (one_if (y.book k).writeback) ≡ 0 = cond-true (eqb k page) 0 (one_if (y.book k).writeback) yes in
        omega (arith, all, bit, one, was, now))
        (λ other.
        let no : eqb k page ≡ false = ne_eqb k page other in
        let zero' : one_if (eqb k page) ≡ 0 = ap one_if no in
        let now : cond (eqb k page) 0 (one_if (y.book k).writeback) ≡ one_if (y.book k).writeback = cond-false (eqb k page) 0 (one_if (y.book k).writeback) no in
        omega (arith, all, bit, zero', now)))

  batch_booked : (f inode pages until : ℕ) (batch : List ℕ) → V ≡ whose.Flusher f → (flusher_of f y).phase ≡ phase.Flying inode pages until
      → (flusher_of f y).batch ≡ batch → IsBooked trace (apply_all trace (batch_changes i f (context_of trace inode) batch) y)
  batch_booked f inode pages until [] turn_is at all = plainly [] tt
  batch_booked f inode pages until (page ∷ left) turn_is at all = completed_booked f inode pages until page left turn_is at all

  -- ---- by whose turn it is

  dirty_by_turn : (v : Whose) → V ≡ v → IsBooked trace (apply_all trace (by_task (dirty_changes trace i) v y) y)
  dirty_by_turn (whose.Task task) turn_is = write_booked task (task_of task s).works turn_is refl
  dirty_by_turn (whose.Flusher f) turn_is = plainly [] tt

  look_in_phase : (f : ℕ) (p : ReplayPhase) → V ≡ whose.Flusher f → (flusher_of f y).phase ≡ p → IsBooked trace (apply_all trace (where_scanning (look_changes i) f p y) y)
  look_in_phase f (phase.Scanning scan) turn_is at = look_booked trace suits s seats h i t rest is c c_turn c_todo f scan turn_is at
  look_in_phase f (phase.Taken inode) turn_is at = plainly [] tt
  look_in_phase f (phase.Idle until kept) turn_is at = plainly [] tt
  look_in_phase f (phase.Flying inode pages until) turn_is at = plainly [] tt
  look_in_phase f phase.Finished turn_is at = plainly [] tt

  look_by_turn : (v : Whose) → V ≡ v → IsBooked trace (apply_all trace (by_flusher (where_scanning (look_changes i)) v y) y)
  look_by_turn (whose.Flusher f) turn_is = look_in_phase f (flusher_of f y).phase turn_is refl
  look_by_turn (whose.Task task) turn_is = plainly [] tt

  claim_in_phase : (word f : ℕ) (p : ReplayPhase) → t ≡ todo.Step (step.Claim word) → V ≡ whose.Flusher f → (flusher_of f y).phase ≡ p
      → IsBooked trace (apply_all trace (where_scanning (claim_changes i word) f p y) y)
  claim_in_phase word f (phase.Scanning scan) t_is turn_is at = claim_booked trace suits s seats h i t rest is c c_turn c_todo f scan turn_is at word t_is
  claim_in_phase word f (phase.Taken inode) t_is turn_is at = plainly [] tt
  claim_in_phase word f (phase.Idle until kept) t_is turn_is at = plainly [] tt
  claim_in_phase word f (phase.Flying inode pages until) t_is turn_is at = plainly [] tt
  claim_in_phase word f phase.Finished t_is turn_is at = plainly [] tt

  claim_by_turn : (word : ℕ) (v : Whose) → t ≡ todo.Step (step.Claim word) → V ≡ v
      → IsBooked trace (apply_all trace (by_flusher (where_scanning (claim_changes i word)) v y) y)
  claim_by_turn word (whose.Flusher f) t_is turn_is = claim_in_phase word f (flusher_of f y).phase t_is turn_is refl
  claim_by_turn word (whose.Task task) t_is turn_is = plainly [] tt

  complete_in_phase : (f : ℕ) (p : ReplayPhase) → V ≡ whose.Flusher f → (flusher_of f y).phase ≡ p
      → IsBooked trace (apply_all trace (where_flying (complete_changes trace i) f p y) y)
  complete_in_phase f (phase.Flying inode pages until) turn_is at = batch_booked f inode pages until (flusher_of f y).batch turn_is at refl
  complete_in_phase f (phase.Scanning scan) turn_is at = plainly [] tt
  complete_in_phase f (phase.Taken inode) turn_is at = plainly [] tt
  complete_in_phase f (phase.Idle until kept) turn_is at = plainly [] tt
  complete_in_phase f phase.Finished turn_is at = plainly [] tt

  complete_by_turn : (v : Whose) → V ≡ v → IsBooked trace (apply_all trace (by_flusher (where_flying (complete_changes trace i)) v y) y)
  complete_by_turn (whose.Flusher f) turn_is = complete_in_phase f (flusher_of f y).phase turn_is refl
  complete_by_turn (whose.Task task) turn_is = plainly [] tt

  -- ---- the items

  step_changes_booked : (item : Step) → t ≡ todo.Step item → IsBooked trace (apply_all trace (step_changes trace i item y) y)
  step_changes_booked step.Dirty t_is = dirty_by_turn V refl
  step_changes_booked step.Look t_is = look_by_turn V refl
  step_changes_booked (step.Claim word) t_is = claim_by_turn word V t_is refl
  step_changes_booked step.Complete t_is = complete_by_turn V refl
  step_changes_booked (step.Add x n) t_is = plainly (step_changes trace i (step.Add x n) y) (step_plain trace i (step.Add x n) y (λ on. on))
  step_changes_booked (step.Fold x) t_is = plainly (step_changes trace i (step.Fold x) y) (step_plain trace i (step.Fold x) y (λ on. on))
  step_changes_booked (step.Clear x) t_is = plainly (step_changes trace i (step.Clear x) y) (step_plain trace i (step.Clear x) y (λ on. on))
  step_changes_booked (step.Mark inode) t_is = plainly (step_changes trace i (step.Mark inode) y) (step_plain trace i (step.Mark inode) y (λ on. on))
  step_changes_booked (step.First k) t_is = plainly (step_changes trace i (step.First k) y) (step_plain trace i (step.First k) y (λ on. on))
  step_changes_booked (step.Middle k) t_is = plainly (step_changes trace i (step.Middle k) y) (step_plain trace i (step.Middle k) y (λ on. on))
  step_changes_booked (step.Limits k) t_is = plainly (step_changes trace i (step.Limits k) y) (step_plain trace i (step.Limits k) y (λ on. on))
  step_changes_booked (step.Count x) t_is = plainly (step_changes trace i (step.Count x) y) (step_plain trace i (step.Count x) y (λ on. on))
  step_changes_booked step.Unmark t_is = plainly (step_changes trace i step.Unmark y) (step_plain trace i step.Unmark y (λ on. on))

  pub step_booked : (item : Step) → t ≡ todo.Step item → IsBooked trace (make_step trace i item y)
  step_booked item t_is = subst (IsBooked trace) (sym ((moves_are_changes trace).steps i item y)) (step_changes_booked item t_is)

  pub move_booked : (item : Silent) → IsBooked trace (make_move trace i item y)
  move_booked item =
      subst (IsBooked trace) (sym ((moves_are_changes trace).moves i item y)) (plainly (move_changes trace i item y) (move_plain trace i item y))
