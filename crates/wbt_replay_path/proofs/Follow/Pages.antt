-- Looks and claims follow the step relation.
use Rattle.std.proofs.Common.{◌≡◌, ◌≢◌, ℕ, ◌+◌, ◌<◌, true, false, ◌&&◌, ◌||◌, eqb, List, [], ◌∷◌, ◌++◌, length, get_or, refl, sym, ◌∙◌, ap, subst, arith}
use Rattle.std.proofs.Math.ListN.{set}
use Rattle.std.proofs.lemmas.Bool.{cond-true, cond-false}
use Rattle.std.proofs.lemmas.List.{get_or-set_same, get_or-set_other}
use Rattle.std.specs.List.{list_any}
use mathlib.Core.Logic.{dite}
use native.Mathlib.Decide.{ℕ_discrete}
use Rattle.wbt_replay_order.proofs.Common.{Trace, put, put_changes, Event, Book, Bits, is_claimable, bits_after, times_in, shared_word, bits_at, word_holds_page, CpuRecord, Setting, page_now, last_found, do_next, logged, looked_at, look_in, look_by, claim_now, claim_in, claim_by, State, no_cpu, no_flusher, cpu_of, flusher_of, plain_step, flusher_cpu, Scan, Cpu, Flusher, ReplayPhase, Whose, Todo, readings_told, HasTriples, AreAmong, IsPageOf, IsFlusherOn, Suits, Tidy, ScansInside, is_closing, bared, FollowsCpu, Follows, Moves, by, Ranges, IsTurnOf}
use Rattle.wbt_book.specs.declared.event.Event.TheVariants as event
use Rattle.wbt_grant.specs.declared.who.StepKind.TheVariants as kind
use Rattle.wbt_grant.specs.declared.who.Word.TheVariants as word
use Rattle.wbt_grant.specs.State as throttle
use Rattle.wbt_grant.specs.State.{writer_in as record_of}
use Rattle.wbt_grant.specs.Kinds as relation
use Rattle.wbt_grant.specs.Kinds.{claim_step, MayClaim}
use Rattle.wbt_grant.specs.Record as made
use Rattle.wbt_journal.specs.declared.entry.Entry.TheVariants as entry
use Rattle.wbt_replay_moves.specs.Definition.Scan.{look, claim}
use Rattle.wbt_rules.specs.Places.{page_of as next_page}
use Rattle.wbt_replay_moves.specs.declared.state.ReplayPhase.TheVariants as phase
use Rattle.wbt_replay_moves.specs.declared.state.Whose.TheVariants as whose
use Rattle.wbt_replay_moves.specs.declared.todo.Silent.TheVariants as silent
use Rattle.wbt_replay_moves.specs.declared.todo.Step.TheVariants as item
use Rattle.wbt_replay_moves.specs.declared.todo.Todo.TheVariants as todo
use Rattle.wbt_replay_order.specs.Kept.Following.{HasLooked, page_in, page_of}
use Rattle.wbt_replay_order.proofs.Facts.Lists.{either, twice}
use Rattle.wbt_replay_order.proofs.Frames.Others.{one_cpu, stepping, same_flusher}
use Rattle.wbt_replay_path.proofs.Follow.Held.{batched_here, batched_same, one_more_in, looked_kept}
use Rattle.wbt_replay_order.proofs.Lists.Places.{thrice}
use Rattle.wbt_replay_path.proofs.Follow.Next.{AtNext, at_next}
use Rattle.wbt_replay_order.proofs.Frames.Quiet.{same_shared, plainly, all_same, no_check, calm}
use Rattle.wbt_replay_path.proofs.Follow.Tells.{events_more, folds_more, founds_more}

-- a flusher of another CPU is another flusher
pub flushers_elsewhere : (trace : Trace) (i j f : ℕ) (flushers : List Flusher) (v : Flusher) → flusher_cpu trace f ≡ i → j ≢ i → (k : ℕ) → flusher_cpu trace k ≡ j
    → get_or (set flushers f v) k no_flusher ≡ get_or flushers k no_flusher
flushers_elsewhere trace i j f flushers v on other k at = get_or-set_other flushers f k v no_flusher (λ e. other (sym at ∙ (ap (flusher_cpu trace) e ∙ on)))

-- Of the flushers of a CPU whose turn it is that of, one changes.
pub scans_on : (trace : Trace) (setting : Setting) (i : ℕ) (c c2 : Cpu) (tasks : _) (flushers : List Flusher) (r : CpuRecord) (own : _) (f : ℕ) (v : Flusher)
    → FollowsCpu trace setting i c tasks flushers r own → c.turn.whose ≡ whose.Flusher f → f < length flushers
    → ((c2.turn.whose ≡ whose.Flusher f → list_any is_closing c2.todo ≡ false) → ScansInside trace v.phase)
    → (g : ℕ) → IsFlusherOn trace i g → (c2.turn.whose ≡ whose.Flusher g → list_any is_closing c2.todo ≡ false)
    → ScansInside trace (get_or (set flushers f v) g no_flusher).phase
scans_on trace setting i c c2 tasks flushers r own f v h turn less here g on closing = dite (ℕ_discrete g f)
    (λ e. subst (λ (x : Flusher). ScansInside trace x.phase)
    (sym (ap (λ (n : ℕ). get_or (set flushers f v) n no_flusher) e ∙ get_or-set_same flushers f v no_flusher less))
    (here (λ q. closing (q ∙ ap whose.Flusher (sym e)))))
    (λ n. subst (λ (x : Flusher). ScansInside trace x.phase) (sym (get_or-set_other flushers f g v no_flusher n))
    (h.scanning g on (λ q. absurd (n (same_flusher g f (sym q ∙ turn))))))

module _ (trace : Trace) (setting : Setting) (suits : Suits trace setting) (i : ℕ) (less : i < trace.cpus) (s : State) (t : throttle.State)
    (ranges : Ranges trace setting s) (h : Follows trace setting s t) where
  next : AtNext trace setting i s t
  next = at_next trace setting suits i less s t ranges h

  module _ (ts : List Todo) where
    abbrev c1 : Cpu
    c1 = record (cpu_of i s) { todo = ts; made = (cpu_of i s).made + 1 }

    abbrev s1 : State
    s1 = stepping i ts s

    -- ---- a look

    module _ (is : (cpu_of i s).todo ≡ todo.Step item.Look ∷ ts) (f : ℕ) (on : IsFlusherOn trace i f) (turn : (cpu_of i s).turn.whose ≡ whose.Flusher f)
        (scan : Scan) (at : (flusher_of f s).phase ≡ phase.Scanning scan) where
      abbrev f0 : FollowsCpu trace setting i (record (cpu_of i s) { todo = todo.Step item.Look ∷ ts }) s.tasks s.flushers (t.cpu i) (λ x. t.own x i)
      f0 = next.opened (todo.Step item.Look) ts is

      flusher_there : f < length s.flushers
      flusher_there = omega (arith, on.there, ranges.flushers)

      inside : IsPageOf trace scan.inode (next_page scan)
      inside = subst (ScansInside trace) at (f0.scanning f on (λ e. f0.tidy.1))

      page_is : page_of (cpu_of i s).turn.whose s.flushers ≡ next_page scan
      page_is = ap (λ (w : Whose). page_of w s.flushers) turn ∙ ap page_in at

      abbrev r2 : CpuRecord
      r2 = made.stepped kind.Look (word.Page (next_page scan)) (page_now setting (next_page scan) t) (made.looked setting (next_page scan) (t.book (next_page scan)) (t.cpu i))

      look_moves : Moves trace setting s.steps (plain_step i kind.Look (looked_at i f scan (s.book (next_page scan)) s1)) t
      look_moves = either (λ q. Moves trace setting s.steps (plain_step i kind.Look q) t) (is_claimable (s.book (next_page scan))) _ _
          (λ found.
          let s2 : State = plain_step i kind.Look (looked_at i f scan (record { dirty = true; writeback = false }) s1) in
          let w : ℕ = shared_word s.book (next_page scan) in
          let write : Cpu → Cpu = λ c. do_next (todo.Step (item.Claim w) ∷ []) c in
          let kept = looked_kept setting (next_page scan) (t.book (next_page scan)) (t.cpu i) in
          by (relation.look i (next_page scan)) refl (record { cpu_is = next.on_cpu; page_is = suits.page scan.inode (next_page scan) inside }) refl
          (plainly trace setting suits i (write c1) r2 s t s2 (relation.after setting (relation.look i (next_page scan)) t) next.there next.turns h
          (twice write s.cpus i c1 no_cpu next.there) (same_shared s s2 refl) refl (put_changes t.cpu i r2) (λ j x n. refl) (λ j n. all_same trace j s.tasks s.flushers) h.marks
          (record {
            own_is = f0.own_is;
            events = kept.events ∙ f0.events;
            folds = kept.folds ∙ f0.folds;
            founds = kept.founds ∙ f0.founds;
            readings = subst (AreAmong (readings_told [] (cpu_of i s).checks)) (sym kept.readings) f0.readings;
            triples = subst (HasTriples trace setting (cpu_of i s).checks (cpu_of i s).held) (sym kept.triples) f0.triples;
            debts = ap bared kept.debts ∙ f0.debts;
            tidy = f0.tidy;
            looked = subst (λ (p : ℕ). HasLooked p w r2.last) (sym page_is)
                (record { at = (refl, refl); found = suits.word t.book (next_page scan) ∙ ap (λ (b : Book). shared_word b (next_page scan)) h.book; claimable = ap is_claimable (word_holds_page s.book (next_page scan)) ∙ found });
            scanning = f0.scanning;
            held = λ p. ap (times_in p) kept.held ∙ f0.held p;
            paced = omega (arith, f0.paced, kept.page_steps);
            left = λ v known seat free. ap (λ l. (record_of setting v l).left) kept.writers ∙ f0.left v known seat free;
            checked = f0.checked;
            check = λ n same decides. absurd (no_check trace setting i (cpu_of i s) s.tasks s.flushers (t.cpu i) (λ y. t.own y i) (h.cpu i less) (todo.Step item.Look) ts is (λ a b none. none) n same decides);
          })))
          (λ missed.
          let b : Bits = s.book (next_page scan) in
          let v : Flusher = record (flusher_of f s) { phase = phase.Scanning (record scan { passed = scan.passed + 1; noted = scan.noted || (b.dirty && b.writeback) }) } in
          let write : Cpu → Cpu = λ c. do_next (todo.Silent silent.Close ∷ []) c in
          let s2 : State = plain_step i kind.Look (record s { cpus = set (set s.cpus i c1) i (write (get_or (set s.cpus i c1) i no_cpu)); flushers = set s.flushers f v }) in
          let kept = looked_kept setting (next_page scan) (t.book (next_page scan)) (t.cpu i) in
          by (relation.look i (next_page scan)) refl (record { cpu_is = next.on_cpu; page_is = suits.page scan.inode (next_page scan) inside }) refl
          (plainly trace setting suits i (write c1) r2 s t s2 (relation.after setting (relation.look i (next_page scan)) t) next.there next.turns h
          (twice write s.cpus i c1 no_cpu next.there) (same_shared s s2 refl) refl (put_changes t.cpu i r2) (λ j x n. refl)
          (λ j other. record { same_tasks = λ k e. refl; same_flushers = flushers_elsewhere trace i j f s.flushers v on.cpu_is other }) h.marks
          (record {
            own_is = f0.own_is;
            events = kept.events ∙ f0.events;
            folds = kept.folds ∙ f0.folds;
            founds = kept.founds ∙ f0.founds;
            readings = subst (AreAmong (readings_told [] (cpu_of i s).checks)) (sym kept.readings) f0.readings;
            triples = subst (HasTriples trace setting (cpu_of i s).checks (cpu_of i s).held) (sym kept.triples) f0.triples;
            debts = ap bared kept.debts ∙ f0.debts;
            tidy = (f0.tidy.0, f0.tidy.2);
            looked = tt;
            scanning = scans_on trace setting i _ (write c1) s.tasks s.flushers (t.cpu i) (λ x. t.own x i) f v f0 turn flusher_there (λ closing. absurd (cc (closing turn)));
            held = λ p. ap (times_in p) kept.held ∙ (f0.held p ∙ sym (batched_same trace s.flushers f v i p flusher_there refl));
            paced = omega (arith, f0.paced, kept.page_steps);
            left = λ u known seat free. ap (λ l. (record_of setting u l).left) kept.writers ∙ f0.left u known seat free;
            checked = f0.checked;
            check = λ n same decides. absurd (no_check trace setting i (cpu_of i s) s.tasks s.flushers (t.cpu i) (λ y. t.own y i) (h.cpu i less) (todo.Step item.Look) ts is (λ a b none. none) n same decides);
          })))

    look_skipped : (is : (cpu_of i s).todo ≡ todo.Step item.Look ∷ ts) → Moves trace setting s.steps s1 t
    look_skipped is = let f = subst Tidy is (h.cpu i less).tidy in next.skipped (todo.Step item.Look) ts is (λ a b none. none) refl f.0.claims f.2 refl

    look_in_moves : (is : (cpu_of i s).todo ≡ todo.Step item.Look ∷ ts) (f : ℕ) → IsFlusherOn trace i f → (cpu_of i s).turn.whose ≡ whose.Flusher f → (at : ReplayPhase)
        → (flusher_of f s).phase ≡ at → Moves trace setting s.steps (look_in i f at s1) t
    look_in_moves is f on turn (phase.Idle until kept) at = look_skipped is
    look_in_moves is f on turn (phase.Taken inode) at = look_skipped is
    look_in_moves is f on turn (phase.Scanning scan) at = look_moves is f on turn scan at
    look_in_moves is f on turn (phase.Flying inode pages until) at = look_skipped is
    look_in_moves is f on turn phase.Finished at = look_skipped is

    look_by_moves : (is : (cpu_of i s).todo ≡ todo.Step item.Look ∷ ts) (whose : Whose) → (cpu_of i s).turn.whose ≡ whose → IsTurnOf trace i whose → Moves trace setting s.steps (look_by i whose s1) t
    look_by_moves is (whose.Task task) turn on = look_skipped is
    look_by_moves is (whose.Flusher f) turn on = look_in_moves is f on turn (flusher_of f s).phase refl

    pub looks : (cpu_of i s).todo ≡ todo.Step item.Look ∷ ts → Moves trace setting s.steps (look i s1) t
    looks is = subst (λ (w : Whose). Moves trace setting s.steps (look_by i w s1) t) (sym (next.same_turn ts))
        (look_by_moves is (cpu_of i s).turn.whose refl (next.whose_on (todo.Step item.Look) ts is))

    -- ---- a claim

    module _ (w : ℕ) (is : (cpu_of i s).todo ≡ todo.Step (item.Claim w) ∷ ts) (f : ℕ) (on : IsFlusherOn trace i f) (turn : (cpu_of i s).turn.whose ≡ whose.Flusher f)
        (scan : Scan) (at : (flusher_of f s).phase ≡ phase.Scanning scan) where
      abbrev k0 : FollowsCpu trace setting i (record (cpu_of i s) { todo = todo.Step (item.Claim w) ∷ ts }) s.tasks s.flushers (t.cpu i) (λ x. t.own x i)
      k0 = next.opened (todo.Step (item.Claim w)) ts is

      claims_on : f < length s.flushers
      claims_on = omega (arith, on.there, ranges.flushers)

      claims_inside : IsPageOf trace scan.inode (next_page scan)
      claims_inside = subst (ScansInside trace) at (k0.scanning f on (λ e. k0.tidy.1))

      has_looked : HasLooked (next_page scan) w (t.cpu i).last
      has_looked = subst (λ (p : ℕ). HasLooked p w (t.cpu i).last) (ap (λ (x : Whose). page_of x s.flushers) turn ∙ ap page_in at) k0.looked

      may_claim : MayClaim setting i (next_page scan) (t.cpu i)
      may_claim = record {
        cpu_is = next.on_cpu;
        page_is = suits.page scan.inode (next_page scan) claims_inside;
        looked = has_looked.at;
        found_claimable = ap is_claimable (suits.bits (last_found (t.cpu i).last) (next_page scan))
            ∙ (ap (λ (n : ℕ). is_claimable (bits_at n (next_page scan))) has_looked.found ∙ has_looked.claimable);
      }

      claim_test : eqb (page_now setting (next_page scan) t) (last_found (t.cpu i).last) ≡ eqb (shared_word s.book (next_page scan)) w
      claim_test = ap (λ (n : ℕ). eqb n (last_found (t.cpu i).last)) (suits.word t.book (next_page scan) ∙ ap (λ (b : Book). shared_word b (next_page scan)) h.book)
          ∙ ap (eqb (shared_word s.book (next_page scan))) has_looked.found

      missed_moves : eqb (shared_word s.book (next_page scan)) w ≡ false → Moves trace setting s.steps (plain_step i kind.Claim s1) t
      missed_moves missed =
          let s2 : State = plain_step i kind.Claim s1 in
          let q2 : CpuRecord = claim_step setting (next_page scan) t (t.cpu i) in
          let t2 : throttle.State = relation.with_record i q2 t in
          by (relation.claim i (next_page scan)) refl may_claim refl
          (subst (Follows trace setting s2) (sym (cond-false (eqb (page_now setting (next_page scan) t) (last_found (t.cpu i).last)) _ t2 (claim_test ∙ missed)))
          (plainly trace setting suits i c1 q2 s t s2 t2 next.there next.turns h
          refl (same_shared s s2 refl) refl (put_changes t.cpu i q2) (λ j x n. refl) (λ j n. all_same trace j s.tasks s.flushers) h.marks
          (record {
            own_is = k0.own_is;
            events = k0.events;
            folds = k0.folds;
            founds = k0.founds;
            readings = k0.readings;
            triples = k0.triples;
            debts = k0.debts;
            tidy = k0.tidy.2;
            looked = calm setting _ _ ts _ k0.tidy.0.claims;
            scanning = k0.scanning;
            held = k0.held;
            paced = omega (arith, k0.paced);
            left = k0.left;
            checked = k0.checked;
            check = λ n same decides. absurd (no_check trace setting i (cpu_of i s) s.tasks s.flushers (t.cpu i) (λ y. t.own y i) (h.cpu i less) (todo.Step (item.Claim w)) ts is (λ a b none. none) n same decides);
          })))

      hit_moves : eqb (shared_word s.book (next_page scan)) w ≡ true → Moves trace setting s.steps (plain_step i kind.Claim (claim_now i f scan s1)) t
      hit_moves found =
          let s2 : State = plain_step i kind.Claim (claim_now i f scan s1) in
          let q2 : CpuRecord = claim_step setting (next_page scan) t (made.claimed (next_page scan) (t.cpu i)) in
          let t2 : throttle.State = relation.with_event (event.Claim (next_page scan)) (next_page scan) (relation.with_record i q2 t) in
          let v : Flusher = record (flusher_of f s) { phase = phase.Scanning (record scan { passed = scan.passed + 1 }); batch = (flusher_of f s).batch ++ next_page scan ∷ [] } in
          let log : Cpu → Cpu = λ c. logged (entry.Claimed f (next_page scan)) c in
          let then : Cpu → Cpu = λ c. do_next (todo.Silent silent.Close ∷ []) c in
          by (relation.claim i (next_page scan)) refl may_claim refl
          (subst (Follows trace setting s2) (sym (cond-true (eqb (page_now setting (next_page scan) t) (last_found (t.cpu i).last)) t2 _ (claim_test ∙ found)))
          (one_cpu trace setting suits i (then (log c1)) q2 s s2 t t2 next.there next.turns h (record {
            cpus = thrice log then s.cpus i c1 no_cpu next.there;
            record_is = put_changes t.cpu i q2;
            owns = λ j y other. refl;
            others = λ j other. record { same_tasks = λ k e. refl; same_flushers = flushers_elsewhere trace i j f s.flushers v on.cpu_is other };
            here = record {
              own_is = k0.own_is;
              events = ap (λ (l : List Event). event.Claim (next_page scan) ∷ l) k0.events ∙ sym (events_more [] (cpu_of i s).entries (entry.Claimed f (next_page scan)));
              folds = k0.folds ∙ sym (folds_more [] (cpu_of i s).entries (entry.Claimed f (next_page scan)));
              founds = k0.founds ∙ sym (founds_more [] (cpu_of i s).entries (entry.Claimed f (next_page scan)));
              readings = k0.readings;
              triples = k0.triples;
              debts = k0.debts;
              tidy = (k0.tidy.0, k0.tidy.2);
              looked = tt;
              scanning = scans_on trace setting i _ (then (log c1)) s.tasks s.flushers (t.cpu i) (λ x. t.own x i) f v k0 turn claims_on (λ closing. absurd (cc (closing turn)));
              held = λ q.
                  let change = batched_here trace s.flushers f v i q on.cpu_is on.there claims_on in
                  let grown = one_more_in (next_page scan) q (flusher_of f s).batch in
                  omega (arith, k0.held q, change, grown);
              paced = omega (arith, k0.paced);
              left = k0.left;
              checked = k0.checked;
              check = λ n same decides. absurd (no_check trace setting i (cpu_of i s) s.tasks s.flushers (t.cpu i) (λ y. t.own y i) (h.cpu i less) (todo.Step (item.Claim w)) ts is (λ a b none. none) n same decides);
            };
            book = ap (λ (book : Book). put book (next_page scan) (bits_after (event.Claim (next_page scan)) (book (next_page scan)))) h.book;
            marks = h.marks;
            versions = h.versions;
            values = h.values;
            published = h.published;
            peak = h.peak;
            timer = refl;
            timer_record = refl;
          })))

      claim_moves : Moves trace setting s.steps (claim_in i f w (phase.Scanning scan) s1) t
      claim_moves = either (λ q. Moves trace setting s.steps (plain_step i kind.Claim q) t) (eqb (shared_word s.book (next_page scan)) w) _ _ hit_moves missed_moves

    claim_skipped : (w : ℕ) (is : (cpu_of i s).todo ≡ todo.Step (item.Claim w) ∷ ts) → Moves trace setting s.steps s1 t
    claim_skipped w is = let f = subst Tidy is (h.cpu i less).tidy in next.skipped (todo.Step (item.Claim w)) ts is (λ a b none. none) refl f.0.claims f.2 refl

    claim_in_moves : (w : ℕ) (is : (cpu_of i s).todo ≡ todo.Step (item.Claim w) ∷ ts) (f : ℕ) → IsFlusherOn trace i f → (cpu_of i s).turn.whose ≡ whose.Flusher f → (at : ReplayPhase)
        → (flusher_of f s).phase ≡ at → Moves trace setting s.steps (claim_in i f w at s1) t
    claim_in_moves w is f on turn (phase.Idle until kept) at = claim_skipped w is
    claim_in_moves w is f on turn (phase.Taken inode) at = claim_skipped w is
    claim_in_moves w is f on turn (phase.Scanning scan) at = claim_moves w is f on turn scan at
    claim_in_moves w is f on turn (phase.Flying inode pages until) at = claim_skipped w is
    claim_in_moves w is f on turn phase.Finished at = claim_skipped w is

    claim_by_moves : (w : ℕ) (is : (cpu_of i s).todo ≡ todo.Step (item.Claim w) ∷ ts) (whose : Whose) → (cpu_of i s).turn.whose ≡ whose → IsTurnOf trace i whose → Moves trace setting s.steps (claim_by i w whose s1) t
    claim_by_moves w is (whose.Task task) turn on = claim_skipped w is
    claim_by_moves w is (whose.Flusher f) turn on = claim_in_moves w is f on turn (flusher_of f s).phase refl

    pub claims : (w : ℕ) → (cpu_of i s).todo ≡ todo.Step (item.Claim w) ∷ ts → Moves trace setting s.steps (claim i w s1) t
    claims w is = subst (λ (x : Whose). Moves trace setting s.steps (claim_by i w x s1) t) (sym (next.same_turn ts))
        (claim_by_moves w is (cpu_of i s).turn.whose refl (next.whose_on (todo.Step (item.Claim w)) ts is))
