-- Completions follow the step relation.
use Rattle.std.proofs.Common.{◌≡◌, ℕ, ◌+◌, ◌<◌, negsuc, List, [], ◌∷◌, ◌++◌, length, All, refl, sym, ◌∙◌, ap, subst, arith}
use Rattle.std.proofs.lemmas.List.Elements.{All-head}
use Rattle.std.specs.List.{list_any}
use Rattle.wbt_replay_order.proofs.Common.{Trace, put, put_changes, Event, Book, bits_after, times_in, CpuRecord, Setting, page_now, do_next, logged, owed_to, complete_page, complete_first, complete_in, complete_by, State, no_cpu, cpu_of, flusher_of, with_flusher, context_of, group_of, Cpu, Flusher, ReplayPhase, Whose, Todo, change_entry, is_decide, IsPageOf, IsFlusherOn, Suits, Tidy, ScansInside, OwesNothing, debts_in, FollowsCpu, Follows, Moves, by, Ranges, IsTurnOf, IsInside}
use Rattle.wbt_book.specs.declared.event.Event.TheVariants as event
use Rattle.wbt_grant.specs.declared.who.StepKind.TheVariants as kind
use Rattle.wbt_grant.specs.declared.who.Word.TheVariants as word
use Rattle.wbt_grant.specs.State as throttle
use Rattle.wbt_grant.specs.Kinds as relation
use Rattle.wbt_grant.specs.Record as made
use Rattle.wbt_journal.specs.declared.entry.Entry.TheVariants as entry
use Rattle.wbt_replay_moves.specs.Definition.Flight.{complete}
use Rattle.wbt_replay_moves.specs.declared.state.ReplayPhase.TheVariants as phase
use Rattle.wbt_replay_moves.specs.declared.state.Whose.TheVariants as whose
use Rattle.wbt_replay_moves.specs.declared.todo.Silent.TheVariants as silent
use Rattle.wbt_replay_moves.specs.declared.todo.Step.TheVariants as item
use Rattle.wbt_replay_moves.specs.declared.todo.Todo.TheVariants as todo
use Rattle.wbt_replay_path.proofs.Follow.Debts.{none_owed}
use Rattle.wbt_replay_order.proofs.Frames.Others.{one_cpu, stepping}
use Rattle.wbt_replay_path.proofs.Follow.Held.{let_go_one, is_one, batched_here, owing, owed_append, owed_looked, owed_decides, owed_debts, owed_tidy}
use Rattle.wbt_replay_order.proofs.Lists.Places.{thrice}
use Rattle.wbt_replay_path.proofs.Follow.Next.{AtNext, at_next}
use Rattle.wbt_replay_order.proofs.Frames.Quiet.{no_check}
use Rattle.wbt_replay_path.proofs.Follow.Tells.{events_more, folds_more, founds_more}
use Rattle.wbt_replay_path.proofs.Follow.Pages.{flushers_elsewhere, scans_on}

module _ (trace : Trace) (setting : Setting) (suits : Suits trace setting) (i : ℕ) (less : i < trace.cpus) (s : State) (t : throttle.State)
    (ranges : Ranges trace setting s) (h : Follows trace setting s t) where
  next : AtNext trace setting i s t
  next = at_next trace setting suits i less s t ranges h

  module _ (ts : List Todo) where
    abbrev c1 : Cpu
    c1 = record (cpu_of i s) { todo = ts; made = (cpu_of i s).made + 1 }

    abbrev s1 : State
    s1 = stepping i ts s

    -- ---- a completion

    complete_skipped : (is : (cpu_of i s).todo ≡ todo.Step item.Complete ∷ ts) → Moves trace setting s.steps s1 t
    complete_skipped is = let f = subst Tidy is (h.cpu i less).tidy in next.skipped (todo.Step item.Complete) ts is (λ a b none. none) refl f.0.claims f.1 refl

    module _ (is : (cpu_of i s).todo ≡ todo.Step item.Complete ∷ ts) (room : length s.steps < s.most) (f : ℕ) (on : IsFlusherOn trace i f)
        (turn : (cpu_of i s).turn.whose ≡ whose.Flusher f) (inode pages until : ℕ) (at : (flusher_of f s).phase ≡ phase.Flying inode pages until) where
      abbrev d0 : FollowsCpu trace setting i (record (cpu_of i s) { todo = todo.Step item.Complete ∷ ts }) s.tasks s.flushers (t.cpu i) (λ x. t.own x i)
      d0 = next.opened (todo.Step item.Complete) ts is

      completes_on : f < length s.flushers
      completes_on = omega (arith, on.there, ranges.flushers)

      page_moves : (page : ℕ) (rest : List ℕ) → (flusher_of f s).batch ≡ page ∷ rest
          → Moves trace setting s.steps (complete_page trace i f (context_of trace inode) page (with_flusher f (record (flusher_of f s) { batch = rest }) s1)) t
      page_moves page rest batch =
          let k : ℕ = context_of trace inode in
          let g : ℕ = group_of trace k in
          let v : Flusher = record (flusher_of f s) { batch = rest } in
          let s2 : State = complete_page trace i f k page (with_flusher f v s1) in
          let its : All (IsPageOf trace inode) (flusher_of f s).batch = subst (IsInside trace (flusher_of f s).batch) at (ranges.flusher f on.there) in
          let inside : IsPageOf trace inode page = All-head (IsPageOf trace inode) page rest (subst (All (IsPageOf trace inode)) batch its) in
          let home : setting.home page ≡ k = suits.home inode page inside in
          let items : List Todo = owed_to (negsuc 0) k g (todo.Silent silent.Land) in
          let log : Cpu → Cpu = λ c. logged (entry.Done f page) c in
          let then : Cpu → Cpu = λ c. do_next items c in
          let c2 : Cpu = then (log c1) in
          let q2 : CpuRecord = made.stepped kind.Complete (word.Page page) (page_now setting page t) (made.page_stepped (made.completed setting page (t.cpu i))) in
          let t2 : throttle.State = relation.after setting (relation.complete i page) t in
          let behind : OwesNothing (todo.Silent silent.Land ∷ ts) = record { debts = d0.tidy.0.debts; claims = refl } in
          let items_are : c2.todo ≡ owing (negsuc 0) k g (todo.Silent silent.Land ∷ ts) = owed_append (negsuc 0) k g (todo.Silent silent.Land) ts in
          let held_is = λ (q : ℕ). batched_here trace s.flushers f v i q on.cpu_is on.there completes_on in
          let batch_is = λ (q : ℕ). ap (times_in q) batch in
          let holds : 0 < times_in page (t.cpu i).held = omega (arith, d0.held page, held_is page, batch_is page, is_one page) in
          by (relation.complete i page) refl
          (record {
            cpu_is = next.on_cpu;
            page_is = suits.page inode page inside;
            holds_it = holds;
            ready = record {
              owes_none = none_owed _ (d0.debts ∙ d0.tidy.0.debts);
              step_left = omega (arith, d0.paced, ranges.made i less, room, ranges.page_steps);
            };
          })
          (ap (λ (n : ℕ). s.steps ++ change_entry i kind.Complete n (negsuc 0) ∷ []) (sym home))
          (one_cpu trace setting suits i c2 q2 s s2 t t2 next.there next.turns h (record {
            cpus = thrice log then s.cpus i c1 no_cpu next.there;
            record_is = put_changes t.cpu i q2;
            owns = λ j y other. refl;
            others = λ j other. record { same_tasks = λ n e. refl; same_flushers = flushers_elsewhere trace i j f s.flushers v on.cpu_is other };
            here = record {
              own_is = d0.own_is;
              events = ap (λ (l : List Event). event.Complete page ∷ l) d0.events ∙ sym (events_more [] (cpu_of i s).entries (entry.Done f page));
              folds = d0.folds ∙ sym (folds_more [] (cpu_of i s).entries (entry.Done f page));
              founds = d0.founds ∙ sym (founds_more [] (cpu_of i s).entries (entry.Done f page));
              readings = d0.readings;
              triples = d0.triples;
              debts = owed_debts trace setting suits page k (negsuc 0) (todo.Silent silent.Land ∷ ts) home behind.debts ∙ sym (ap debts_in items_are);
              tidy = subst Tidy (sym items_are) (owed_tidy (negsuc 0) k g (todo.Silent silent.Land ∷ ts) behind (d0.tidy.0, d0.tidy.1));
              looked = owed_looked setting _ _ (negsuc 0) k g (todo.Silent silent.Land) ts _;
              scanning = scans_on trace setting i _ c2 s.tasks s.flushers (t.cpu i) (λ x. t.own x i) f v d0 turn completes_on (λ closing. subst (ScansInside trace) (sym at) tt);
              held = λ q. let gone = let_go_one page q (t.cpu i).held holds in omega (arith, d0.held q, gone, held_is q, batch_is q);
              paced = omega (arith, d0.paced);
              left = d0.left;
              checked = d0.checked;
              check = λ n same decides. absurd (no_check trace setting i (cpu_of i s) s.tasks s.flushers (t.cpu i) (λ y. t.own y i) (h.cpu i less) (todo.Step item.Complete) ts is (λ a b none. none) n same
                  (sym (owed_decides (negsuc 0) k g (todo.Silent silent.Land ∷ ts)) ∙ (ap (list_any is_decide) (sym items_are) ∙ decides)));
            };
            book = ap (λ (book : Book). put book page (bits_after (event.Complete page) (book page))) h.book;
            marks = h.marks;
            versions = h.versions;
            values = h.values;
            published = h.published;
            peak = h.peak;
            timer = refl;
            timer_record = refl;
          }))

      complete_first_moves : (batch : List ℕ) → (flusher_of f s).batch ≡ batch → Moves trace setting s.steps (complete_first trace i f (context_of trace inode) batch s1) t
      complete_first_moves [] batch = complete_skipped is
      complete_first_moves (page ∷ rest) batch = page_moves page rest batch

    module _ (is : (cpu_of i s).todo ≡ todo.Step item.Complete ∷ ts) (room : length s.steps < s.most) where
      complete_in_moves : (f : ℕ) → IsFlusherOn trace i f → (cpu_of i s).turn.whose ≡ whose.Flusher f → (at : ReplayPhase)
          → (flusher_of f s).phase ≡ at → Moves trace setting s.steps (complete_in trace i f at s1) t
      complete_in_moves f on turn (phase.Idle until kept) at = complete_skipped is
      complete_in_moves f on turn (phase.Taken inode) at = complete_skipped is
      complete_in_moves f on turn (phase.Scanning scan) at = complete_skipped is
      complete_in_moves f on turn (phase.Flying inode pages until) at = complete_first_moves is room f on turn inode pages until at (flusher_of f s).batch refl
      complete_in_moves f on turn phase.Finished at = complete_skipped is

      complete_by_moves : (whose : Whose) → (cpu_of i s).turn.whose ≡ whose → IsTurnOf trace i whose → Moves trace setting s.steps (complete_by trace i whose s1) t
      complete_by_moves (whose.Task task) turn on = complete_skipped is
      complete_by_moves (whose.Flusher f) turn on = complete_in_moves f on turn (flusher_of f s).phase refl

      pub completes : Moves trace setting s.steps (complete trace i s1) t
      completes = subst (λ (x : Whose). Moves trace setting s.steps (complete_by trace i x s1) t) (sym (next.same_turn ts))
          (complete_by_moves (cpu_of i s).turn.whose refl (next.whose_on (todo.Step item.Complete) ts is))
