-- Looks and claims keep what the steps of a run tell of its counts.
use Rattle.std.proofs.Common.{◌≡◌, ◌≢◌, ℕ, ◌+◌, ◌<◌, ◌&&◌, true, false, true≢false, cond, eqb, eq-eqb, ne_eqb, eqb-true, pos, List, [], ◌∷◌, ◌++◌, length, map, set, length-set, refl, sym, ◌∙◌, ap, subst, arith, ⊎_elim}
use Rattle.std.specs.List.{sum_by}
use Rattle.std.proofs.lemmas.Bool.{cases_lt, cond-true, cond-false}
use Rattle.std.proofs.lemmas.List.{get_or-set_same, get_or_past}
use mathlib.Core.Logic.{dite}
use native.Mathlib.Decide.{ℕ_discrete}
use Rattle.wbt_replay_order.proofs.Common.{Book, is_claimable, bits_after, places, times_in, shared_word, bits_at, word_holds_page, put, one_if, domain_count, Trace, page_of, Scan, do_next, logged, log_at, State, no_cpu, no_flusher, cpu_of, with_cpu, flusher_of, with_flusher, with_event, Cpu, Flusher, Whose, Todo, setting_of, IsPageOf, IsFlusherOn, Suits, IsAt, IsWhose, apply_all, Change, look_changes, claim_changes}
use Rattle.wbt_book.specs.declared.event.Event.TheVariants as event
use Rattle.wbt_grant.specs.declared.who.StepKind.TheVariants as kind
use Rattle.wbt_journal.specs.declared.entry.Entry.TheVariants as entry
use Rattle.wbt_replay_moves.specs.declared.state.ReplayPhase.TheVariants as phase
use Rattle.wbt_replay_moves.specs.declared.state.Whose.TheVariants as whose
use Rattle.wbt_replay_moves.specs.declared.todo.Silent.TheVariants as silent
use Rattle.wbt_replay_moves.specs.declared.todo.Step.TheVariants as step
use Rattle.wbt_replay_moves.specs.declared.todo.Todo.TheVariants as todo
use Rattle.wbt_replay_order.proofs.Facts.Lists.{either}
use Rattle.wbt_replay_order.proofs.Facts.Scans.{scan_page}
use Rattle.wbt_replay_changes.specs.Change as change
use Rattle.wbt_replay_changes.specs.Change.Cpu as cpu_change
use Rattle.wbt_replay_changes.specs.Change.Flusher as flusher_change
use Rattle.wbt_forecast_rows.specs.Counts.{homes_of, count_after}
use Rattle.wbt_forecast_run.proofs.Counts.Booked.{IsBooked, IsSeated, behind_first, rest_none, some_todo, seat_there, times_push, held_set, put_bit, claimable_dirty, same_counts}
use Rattle.wbt_forecast_run.proofs.Counts.Quiet.{NoClaims, plain_count, batch_in, Still, Frames, Quietly, still_on, frames_on, quiet_cpu, frames_cpu, frames_flusher, ArePlain, all_quiet}

-- ---- a move of one CPU

-- the turn's flusher is the CPU's
abbrev pub IsTurnsOwn : (trace : Trace) (i : ℕ) (w : Whose) → Type 0
IsTurnsOwn trace i w = (f : ℕ) → w ≡ whose.Flusher f → IsFlusherOn trace i f

module _ (trace : Trace) (s : State) (seats : IsSeated trace s) (h : IsBooked trace s) (i : ℕ) (w : Whose) (turn : IsTurnsOwn trace i w) where
  -- another CPU's claim stands
  claim_stands : (u : State) → Frames i w s u → (j : ℕ) → j ≢ i → (f word : ℕ) (rest : List Todo) (scan : Scan)
      → (cpu_of j u).todo ≡ todo.Step (step.Claim word) ∷ rest → (cpu_of j u).turn.whose ≡ whose.Flusher f → (flusher_of f u).phase ≡ phase.Scanning scan
      → is_claimable (bits_at word (page_of scan)) ≡ true
  claim_stands u frames j other f word rest scan is of at =
      let same = frames.cpus j other in
      let was : (cpu_of j s).todo ≡ todo.Step (step.Claim word) ∷ rest = ap (λ (c : Cpu). c.todo) (sym same) ∙ is in
      let whose_was : (cpu_of j s).turn.whose ≡ whose.Flusher f = ap (λ (c : Cpu). c.turn.whose) (sym same) ∙ of in
      let some = some_todo (todo.Step (step.Claim word)) rest (cpu_of j s).todo was in
      let there : j < trace.cpus = omega (arith, seat_there s.cpus j some, seats.many) in
      let on : IsFlusherOn trace j f = subst (IsWhose trace j) whose_was (seats.turns j there some) in
      let apart : w ≢ whose.Flusher f = λ e. other (sym on.cpu_is ∙ (turn f e).cpu_is) in
      h.claims j f word rest scan was whose_was (sym (frames.phases f apart) ∙ at)

  behind_stands : (u : State) → Frames i w s u → (j : ℕ) → j ≢ i → NoClaims (behind_first (cpu_of j u).todo)
  behind_stands u frames j other = subst (λ (c : Cpu). NoClaims (behind_first c.todo)) (sym (frames.cpus j other)) (h.behind j)

  no_claim : (word : ℕ) (rest todos : List Todo) → todos ≡ todo.Step (step.Claim word) ∷ rest → NoClaims todos → ⊥
  no_claim word rest todos is none = true≢false (subst NoClaims is none).0

  -- The move's own CPU has no claim to do after it.
  pub booked_after : (u : State) → Frames i w s u → NoClaims (cpu_of i u).todo
      → ((d : ℕ) → count_after (homes_of trace) d (pos 0) u.steps ≡ pos (domain_count (setting_of trace) u.book d))
      → ((p : ℕ) → sum_by (times_in p) (map batch_in u.flushers) ≡ one_if (u.book p).writeback) → IsBooked trace u
  booked_after u frames none counts held = record {
    counts = counts;
    held = held;
    claims = λ j f word rest scan is of at. dite (ℕ_discrete j i)
        (λ here. absurd (no_claim word rest (cpu_of i u).todo (ap (λ (k : ℕ). (cpu_of k u).todo) (sym here) ∙ is) none))
        (λ other. claim_stands u frames j other f word rest scan is of at);
    behind = λ j. dite (ℕ_discrete j i)
        (λ here. subst (λ (k : ℕ). NoClaims (behind_first (cpu_of k u).todo)) (sym here) (rest_none (cpu_of i u).todo none))
        (λ other. behind_stands u frames j other);
  }

  pub still_after : (u : State) → Still trace s u → Frames i w s u → NoClaims (cpu_of i u).todo → IsBooked trace u
  still_after u still frames none =
      booked_after u frames none
      (λ d. still.counts d ∙ (h.counts d ∙ ap (λ (b : Book). pos (domain_count (setting_of trace) b d)) (sym still.book)))
      (λ p. ap (sum_by (times_in p)) still.batches ∙ (h.held p ∙ ap (λ (b : Book). one_if (b p).writeback) (sym still.book)))

-- ---- an item was taken

module _ (trace : Trace) (suits : Suits trace (setting_of trace)) (s : State) (seats : IsSeated trace s) (h : IsBooked trace s) (i : ℕ) (t : Todo) (rest : List Todo)
    (is : (cpu_of i s).todo ≡ t ∷ rest) (c : Cpu) (c_turn : c.turn ≡ (cpu_of i s).turn) (c_todo : c.todo ≡ rest) where
  abbrev pub x : State
  x = with_cpu i c s

  abbrev pub W : Whose
  W = (cpu_of i x).turn.whose

  pub there : i < length s.cpus
  there = seat_there s.cpus i (some_todo t rest (cpu_of i s).todo is)

  pub c_is : cpu_of i x ≡ c
  c_is = get_or-set_same s.cpus i c no_cpu there

  pub w_is : W ≡ (cpu_of i s).turn.whose
  w_is = ap (λ (d : Cpu). d.turn.whose) c_is ∙ ap (λ u. u.whose) c_turn

  pub whose_is : IsWhose trace i W
  whose_is = subst (IsWhose trace i) (sym w_is) (seats.turns i (omega (arith, there, seats.many)) (some_todo t rest (cpu_of i s).todo is))

  pub own : IsTurnsOwn trace i W
  own f e = subst (IsWhose trace i) e whose_is

  pub none : NoClaims (cpu_of i x).todo
  none = subst (λ (d : Cpu). NoClaims d.todo) (sym c_is) (subst NoClaims (sym c_todo) (subst (λ (l : List Todo). NoClaims (behind_first l)) is (h.behind i)))

  pub taken : Frames i W s x
  taken = frames_cpu trace i W s x c refl refl

  pub by_quiet : (u : State) → Quietly trace i W x u → IsBooked trace u
  by_quiet u q =
      still_after trace s seats h i W own u
      (still_on trace s x u (record { book = refl; batches = refl; counts = λ d. refl }) q.still)
      (frames_on i W s x u taken q.frames) (q.own none)

  pub by_plain : (changes : List Change) → ArePlain i W changes → IsBooked trace (apply_all trace changes x)
  by_plain changes plain = by_quiet (apply_all trace changes x) (all_quiet trace i W changes x plain)

  pub stays : IsBooked trace x
  stays = by_plain [] tt

  -- ---- a look

  module _ (f : ℕ) (scan : Scan) (turn_is : W ≡ whose.Flusher f) (at : (flusher_of f x).phase ≡ phase.Scanning scan) where
    abbrev word_now : ℕ
    word_now = shared_word x.book (page_of scan)

    looked : is_claimable (x.book (page_of scan)) ≡ true
        → IsBooked trace (apply_all trace (change.of_cpu i (cpu_change.planned (todo.Step (step.Claim word_now) ∷ [])) ∷ change.stepped i kind.Look ∷ []) x)
    looked can =
        let u = apply_all trace (change.of_cpu i (cpu_change.planned (todo.Step (step.Claim word_now) ∷ [])) ∷ change.stepped i kind.Look ∷ []) x in
        let d : Cpu = do_next (todo.Step (step.Claim word_now) ∷ []) (cpu_of i x) in
        let d_is : cpu_of i u ≡ d = get_or-set_same x.cpus i d no_cpu (omega (arith, there, length-set s.cpus i c)) in
        let frames = frames_on i W s x u taken (frames_cpu trace i W x u d refl refl) in
        record {
          counts = λ k. plain_count (homes_of trace) k x.steps _ refl ∙ h.counts k;
          held = h.held;
          claims = λ j g word more scan' todo_is of at'. dite (ℕ_discrete j i)
              (λ here.
              let list : todo.Step (step.Claim word_now) ∷ (cpu_of i x).todo ≡ todo.Step (step.Claim word) ∷ more =
              ap (λ (e : Cpu). e.todo) (sym d_is) ∙ (ap (λ (k : ℕ). (cpu_of k u).todo) (sym here) ∙ todo_is) in
              let whose_of : whose.Flusher f ≡ whose.Flusher g =
              sym turn_is ∙ (ap (λ (e : Cpu). e.turn.whose) (sym d_is) ∙ (ap (λ (k : ℕ). (cpu_of k u).turn.whose) (sym here) ∙ of)) in
              let same_flusher : f ≡ g = cc whose_of in
              let same_phase : phase.Scanning scan ≡ phase.Scanning scan' = sym at ∙ (ap (λ (k : ℕ). (flusher_of k x).phase) same_flusher ∙ at') in
              let same_scan : scan ≡ scan' = cc same_phase in
              let same_word : word_now ≡ word = cc list in
              subst (λ (q : Scan). is_claimable (bits_at word (page_of q)) ≡ true) same_scan
              (subst (λ (n : ℕ). is_claimable (bits_at n (page_of scan)) ≡ true) same_word
              (ap is_claimable (word_holds_page x.book (page_of scan)) ∙ can)))
              (λ other. claim_stands trace s seats h i W own u frames j other g word more scan' todo_is of at');
          behind = λ j. dite (ℕ_discrete j i)
              (λ here. subst (λ (k : ℕ). NoClaims (behind_first (cpu_of k u).todo)) (sym here) (subst (λ (e : Cpu). NoClaims (behind_first e.todo)) (sym d_is) none))
              (λ other. behind_stands trace s seats h i W own u frames j other);
        }

    pub look_booked : IsBooked trace (apply_all trace (look_changes i f scan x) x)
    look_booked = either (λ (changes : List Change). IsBooked trace (apply_all trace changes x)) (is_claimable (x.book (page_of scan))) _ _ looked
        (λ cannot. by_plain
        (change.of_flusher f (flusher_change.passed scan ((x.book (page_of scan)).dirty && (x.book (page_of scan)).writeback))
        ∷ change.of_cpu i (cpu_change.planned (todo.Silent silent.Close ∷ [])) ∷ change.stepped i kind.Look ∷ [])
        (turn_is, ((refl, (refl, tt)), (tt, tt))))

    -- ---- a claim

    scan_there : f < length x.flushers
    scan_there = ⊎_elim (λ less. less)
        (λ past. absurd (let none_at : phase.Finished ≡ phase.Scanning scan = ap (λ (g : Flusher). g.phase) (sym (get_or_past x.flushers f no_flusher past)) ∙ at in cc none_at))
        (cases_lt f (length x.flushers))

    claim_page : IsPageOf trace scan.inode (page_of scan)
    claim_page = let at' = subst (IsAt trace (flusher_of f x).batch) at (seats.at f) in scan_page trace scan at'.there at'.first_is at'.pages_is at'.start

    claimed_booked : (word : ℕ) → t ≡ todo.Step (step.Claim word) → shared_word x.book (page_of scan) ≡ word
        → IsBooked trace (apply_all trace (change.claimed i f scan ∷ change.of_cpu i (cpu_change.planned (todo.Silent silent.Close ∷ [])) ∷ change.stepped i kind.Claim ∷ []) x)
    claimed_booked word t_is word_is =
        let p = page_of scan in
        let g : Flusher = record (flusher_of f x) { phase = phase.Scanning (record scan { passed = scan.passed + 1 }); batch = (flusher_of f x).batch ++ p ∷ [] } in
        let a = with_flusher f g (with_event (event.Claim p) p x) in
        let b = log_at i (entry.Claimed f p) a in
        let more : List Change = change.of_cpu i (cpu_change.planned (todo.Silent silent.Close ∷ [])) ∷ change.stepped i kind.Claim ∷ [] in
        let u = apply_all trace more b in
        let q = all_quiet trace i W more b ((refl, (refl, tt)), (tt, tt)) in
        let was : (cpu_of i s).todo ≡ todo.Step (step.Claim word) ∷ rest = is ∙ ap (λ (y : Todo). y ∷ rest) t_is in
        let can : is_claimable (bits_at word p) ≡ true = h.claims i f word rest scan was (sym w_is ∙ turn_is) at in
        let bits : is_claimable (x.book p) ≡ true = ap is_claimable (sym (word_holds_page x.book p) ∙ ap (λ (n : ℕ). bits_at n p) word_is) ∙ can in
        let dirty = claimable_dirty (x.book p) bits in
        let places_same : places (bits_after (event.Claim p) (x.book p)) ≡ places (x.book p) =
        omega (arith, ap one_if dirty.0, ap one_if dirty.1) in
        let frames_a : Frames i W x a = frames_flusher trace i W x a f g turn_is refl refl in
        let frames_b : Frames i W a b = frames_cpu trace i W a b (logged (entry.Claimed f p) (cpu_of i a)) refl refl in
        let frames = frames_on i W s x u taken (frames_on i W x a u frames_a (frames_on i W a b u frames_b q.frames)) in
        let none_b : NoClaims (cpu_of i b).todo = (quiet_cpu trace i W a b (logged (entry.Claimed f p) (cpu_of i a)) refl refl refl refl (λ n. n)).own none in
        booked_after trace s seats h i W own u frames (q.own none_b)
        (λ d. q.still.counts d ∙ (h.counts d
        ∙ (ap pos (sym (same_counts trace suits scan.inode p claim_page x.book (bits_after (event.Claim p) (x.book p)) places_same d))
        ∙ ap (λ (k : Book). pos (domain_count (setting_of trace) k d)) (sym q.still.book))))
        (λ k.
        let sums = held_set k f g x.flushers scan_there in
        let push = times_push k p (flusher_of f x).batch in
        let before = h.held k in
        let bit = put_bit x.book p (bits_after (event.Claim p) (x.book p)) k in
        let new : sum_by (times_in k) (map batch_in (set x.flushers f g)) ≡ one_if (put x.book p (bits_after (event.Claim p) (x.book p)) k).writeback =
        dite (ℕ_discrete k p)
        (λ here.
        let yes : eqb k p ≡ true = eq-eqb k p here in
        let one : one_if (eqb k p) ≡ 1 = ap one_if yes in
        let was_none : one_if (x.book k).writeback ≡ 0 = ap (λ (n : ℕ). one_if (x.book n).writeback) here ∙ ap one_if dirty.1 in
        let now_one : cond (eqb k p) 1 (one_if (x.book k).writeback) ≡ 1 = cond-true (eqb k p) 1 (one_if (x.book k).writeback) yes in
        omega (arith, sums, push, before, bit, one, was_none, now_one))
        (λ other.
        let no : eqb k p ≡ false = ne_eqb k p other in
        let zero' : one_if (eqb k p) ≡ 0 = ap one_if no in
        let same' : cond (eqb k p) 1 (one_if (x.book k).writeback) ≡ one_if (x.book k).writeback = cond-false (eqb k p) 1 (one_if (x.book k).writeback) no in
        omega (arith, sums, push, before, bit, zero', same')) in
        ap (sum_by (times_in k)) q.still.batches ∙ (new ∙ ap (λ (l : Book). one_if (l k).writeback) (sym q.still.book)))

    pub claim_booked : (word : ℕ) → t ≡ todo.Step (step.Claim word) → IsBooked trace (apply_all trace (claim_changes i word f scan x) x)
    claim_booked word t_is = either (λ (changes : List Change). IsBooked trace (apply_all trace changes x)) (eqb (shared_word x.book (page_of scan)) word) _ _
        (λ same. claimed_booked word t_is (eqb-true (shared_word x.book (page_of scan)) word same))
        (λ other. by_plain (change.stepped i kind.Claim ∷ []) (tt, tt))
