-- Marks of inodes follow the step relation.
use Rattle.std.proofs.Common.{◌≡◌, ℕ, ◌+◌, ◌<◌, true, false, cond, eqb, List, ◌∷◌, length, get_or, refl, sym, ◌∙◌, ap, subst, arith, eqb-true, ⊎_elim}
use Rattle.std.proofs.Math.ListN.{set}
use Rattle.std.proofs.lemmas.Bool.{cases_Bool, cond-true, cond-false}
use Rattle.std.proofs.lemmas.List.{get_or_default}
use Rattle.wbt_replay_order.proofs.Common.{Trace, put_changes, CpuRecord, one_if, Setting, scan_of, unmark_of, unmark_in, unmark_by, State, cpu_of, flusher_of, plain_step, inode_of, device_of, device_at, flusher_device, mark, Cpu, Flusher, ReplayPhase, Whose, Todo, Facts, IsFlusherOn, Suits, ScansInside, FollowsCpu, Follows, Moves, by, Ranges, IsTurnOf, IsInside}
use Rattle.wbt_grant.specs.declared.who.StepKind.TheVariants as kind
use Rattle.wbt_grant.specs.declared.who.Word.TheVariants as word
use Rattle.wbt_grant.specs.State as throttle
use Rattle.wbt_grant.specs.Kinds as relation
use Rattle.wbt_grant.specs.Record as made
use Rattle.wbt_replay_moves.specs.Definition.Idle.{start_of, unmark}
use Rattle.wbt_replay_moves.specs.Definition.State.{queued}
use Rattle.wbt_rules.proofs.Places.{page_inside}
use Rattle.wbt_replay_moves.specs.declared.state.ReplayPhase.TheVariants as phase
use Rattle.wbt_replay_moves.specs.declared.state.Whose.TheVariants as whose
use Rattle.wbt_replay_moves.specs.declared.todo.Step.TheVariants as item
use Rattle.wbt_replay_moves.specs.declared.todo.Todo.TheVariants as todo
use Rattle.wbt_replay_order.proofs.Facts.Lists.{either}
use Rattle.wbt_replay_order.proofs.Frames.Others.{stepping}
use Rattle.wbt_replay_path.proofs.Follow.Held.{batched_same}
use Rattle.wbt_replay_order.proofs.Lists.Places.{get_set}
use Rattle.wbt_replay_path.proofs.Follow.Pages.{flushers_elsewhere, scans_on}
use Rattle.wbt_replay_path.proofs.Follow.Next.{AtNext, at_next}
use Rattle.wbt_replay_order.proofs.Frames.Quiet.{same_shared, plainly, all_same, no_check, calm}

module _ (trace : Trace) (setting : Setting) (suits : Suits trace setting) (i : ℕ) (less : i < trace.cpus) (s : State) (t : throttle.State)
    (facts : Facts trace) (ranges : Ranges trace setting s) (h : Follows trace setting s t) where
  next : AtNext trace setting i s t
  next = at_next trace setting suits i less s t ranges h

  module _ (ts : List Todo) where
    abbrev c1 : Cpu
    c1 = record (cpu_of i s) { todo = ts; made = (cpu_of i s).made + 1 }

    abbrev s1 : State
    s1 = stepping i ts s

    -- ---- a mark

    module _ (n : ℕ) (is : (cpu_of i s).todo ≡ todo.Step (item.Mark n) ∷ ts) (known : n < length trace.inodes) where
      abbrev f0 : FollowsCpu trace setting i (record (cpu_of i s) { todo = todo.Step (item.Mark n) ∷ ts }) s.tasks s.flushers (t.cpu i) (λ x. t.own x i)
      f0 = next.opened (todo.Step (item.Mark n)) ts is

      abbrev r2 : CpuRecord
      r2 = made.stepped kind.Mark (word.Inode n) (one_if (t.marked n)) (made.mark_paid setting n (t.cpu i))

      inside : n < length s.marks
      inside = omega (arith, known, ranges.marks)

      mark_here : FollowsCpu trace setting i c1 s.tasks s.flushers r2 (λ x. t.own x i)
      mark_here = record {
        own_is = f0.own_is;
        events = f0.events;
        folds = f0.folds;
        founds = f0.founds;
        readings = f0.readings;
        triples = f0.triples;
        debts = f0.debts;
        tidy = f0.tidy.1;
        looked = calm setting _ _ ts _ f0.tidy.0.claims;
        scanning = f0.scanning;
        held = f0.held;
        paced = omega (arith, f0.paced);
        left = f0.left;
        checked = f0.checked;
        check = λ m same decides. absurd (no_check trace setting i (cpu_of i s) s.tasks s.flushers (t.cpu i) (λ y. t.own y i) (h.cpu i less) (todo.Step (item.Mark n)) ts is (λ a b none. none) m same decides);
      }

      pub marks : Moves trace setting s.steps (mark trace i n s1) t
      marks = either (λ q. Moves trace setting s.steps (plain_step i kind.Mark q) t) (get_or s.marks n true) _ _
          (λ stands.
          by (relation.mark i n) refl (record { cpu_is = next.on_cpu }) refl
          (plainly trace setting suits i c1 r2 s t (plain_step i kind.Mark s1) (relation.after setting (relation.mark i n) t) next.there next.turns h
          refl (same_shared s (plain_step i kind.Mark s1) refl) refl (put_changes t.cpu i r2) (λ j x m. refl) (λ j m. all_same trace j s.tasks s.flushers)
          (λ m fits. ⊎_elim
          (λ e. cond-true (eqb m n) true (t.marked m) e
          ∙ sym (ap (λ (l : ℕ). get_or s.marks l false) (eqb-true m n e) ∙ (get_or_default s.marks n false true inside ∙ stands)))
          (λ e. cond-false (eqb m n) true (t.marked m) e ∙ h.marks m fits)
          (cases_Bool (eqb m n)))
          mark_here))
          (λ clear.
          let s2 : State = plain_step i kind.Mark (queued (device_of trace n) n (record s1 { marks = set s.marks n true })) in
          by (relation.mark i n) refl (record { cpu_is = next.on_cpu }) refl
          (plainly trace setting suits i c1 r2 s t s2 (relation.after setting (relation.mark i n) t) next.there next.turns h
          refl (same_shared s s2 refl) refl (put_changes t.cpu i r2) (λ j x m. refl) (λ j m. all_same trace j s.tasks s.flushers)
          (λ m fits. ap (cond (eqb m n) true) (h.marks m fits) ∙ sym (get_set s.marks n m true false inside))
          mark_here))

    -- ---- a mark that is cleared

    module _ (is : (cpu_of i s).todo ≡ todo.Step item.Unmark ∷ ts) where
      abbrev u0 : FollowsCpu trace setting i (record (cpu_of i s) { todo = todo.Step item.Unmark ∷ ts }) s.tasks s.flushers (t.cpu i) (λ x. t.own x i)
      u0 = next.opened (todo.Step item.Unmark) ts is

      unmark_skipped : Moves trace setting s.steps s1 t
      unmark_skipped = next.skipped (todo.Step item.Unmark) ts is (λ a b none. none) refl u0.tidy.0.claims u0.tidy.1 refl

      of_moves : (f : ℕ) → IsFlusherOn trace i f → (cpu_of i s).turn.whose ≡ whose.Flusher f → (n : ℕ) → (flusher_of f s).phase ≡ phase.Taken n
          → Moves trace setting s.steps (unmark_of trace i f n s1) t
      of_moves f on turn n at =
          let known : n < length trace.inodes = subst (IsInside trace (flusher_of f s).batch) at (ranges.flusher f on.there) in
          let r2 : CpuRecord = made.stepped kind.Unmark (word.Inode n) (one_if (t.marked n)) (made.owing_rescans setting n (t.cpu i)) in
          let s2 : State = unmark_of trace i f n s1 in
          let v : Flusher = record (flusher_of f s) { phase = scan_of trace f n s1 } in
          let f_there : f < length s.flushers = omega (arith, on.there, ranges.flushers) in
          let below = ranges.places f on.there n known in
          let low : start_of trace f n s1 < (inode_of trace n).pages =
          either (λ (k : ℕ). k < (inode_of trace n).pages) (device_at trace (flusher_device trace f)).cyclic (get_or (flusher_of f s).places n 0) 0 (λ goes. below) (λ stays. omega (arith, below)) in
          let at_first = page_inside (inode_of trace n).first (inode_of trace n).pages (start_of trace f n s1) 0 low in
          let first : ScansInside trace v.phase = record { there = known; after_first = at_first.0; before_end = at_first.1 } in
          by (relation.unmark i n) refl (record { cpu_is = next.on_cpu }) refl
          (plainly trace setting suits i c1 r2 s t s2 (relation.after setting (relation.unmark i n) t) next.there next.turns h
          refl (same_shared s s2 refl) refl (put_changes t.cpu i r2) (λ j x m. refl)
          (λ j other. record { same_tasks = λ k e. refl; same_flushers = flushers_elsewhere trace i j f s.flushers v on.cpu_is other })
          (λ m fits. ap (cond (eqb m n) false) (h.marks m fits) ∙ sym (get_set s.marks n m false false (omega (arith, known, ranges.marks))))
          (record {
            own_is = u0.own_is;
            events = u0.events;
            folds = u0.folds;
            founds = u0.founds;
            readings = u0.readings;
            triples = u0.triples;
            debts = u0.debts;
            tidy = u0.tidy.1;
            looked = calm setting _ _ ts _ u0.tidy.0.claims;
            scanning = scans_on trace setting i _ c1 s.tasks s.flushers (t.cpu i) (λ x. t.own x i) f v u0 turn f_there (λ closing. first);
            held = λ p. u0.held p ∙ sym (batched_same trace s.flushers f v i p f_there refl);
            paced = omega (arith, u0.paced);
            left = u0.left;
            checked = u0.checked;
            check = λ m same decides. absurd (no_check trace setting i (cpu_of i s) s.tasks s.flushers (t.cpu i) (λ y. t.own y i) (h.cpu i less) (todo.Step item.Unmark) ts is (λ a b none. none) m same decides);
          }))

      in_moves : (f : ℕ) → IsFlusherOn trace i f → (cpu_of i s).turn.whose ≡ whose.Flusher f → (at : ReplayPhase) → (flusher_of f s).phase ≡ at
          → Moves trace setting s.steps (unmark_in trace i f at s1) t
      in_moves f on turn (phase.Idle until kept) at = unmark_skipped
      in_moves f on turn (phase.Taken inode) at = of_moves f on turn inode at
      in_moves f on turn (phase.Scanning scan) at = unmark_skipped
      in_moves f on turn (phase.Flying inode pages until) at = unmark_skipped
      in_moves f on turn phase.Finished at = unmark_skipped

      by_moves : (whose : Whose) → (cpu_of i s).turn.whose ≡ whose → IsTurnOf trace i whose → Moves trace setting s.steps (unmark_by trace i whose s1) t
      by_moves (whose.Task task) turn on = unmark_skipped
      by_moves (whose.Flusher f) turn on = in_moves f on turn (flusher_of f s).phase refl

      pub unmarks : Moves trace setting s.steps (unmark trace i s1) t
      unmarks = subst (λ (w : Whose). Moves trace setting s.steps (unmark_by trace i w s1) t) (sym (next.same_turn ts))
          (by_moves (cpu_of i s).turn.whose refl (next.whose_on (todo.Step item.Unmark) ts is))
