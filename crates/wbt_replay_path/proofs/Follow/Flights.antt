-- The flight of a batch, and its landing, leave the step relation where it is.
use Rattle.std.proofs.Common.{◌≡◌, ℕ, zero, suc, ◌+◌, ◌<◌, true, false, cond, eqb, List, ◌∷◌, length, refl, sym, ◌∙◌, ap, subst, arith}
use Rattle.std.proofs.Math.ListN.{set}
use Rattle.std.proofs.lemmas.List.{set-get_or}
use Rattle.wbt_replay_order.proofs.Common.{Trace, aged, fraction_of, may_be_added, Half, Setting, part_in, share, share_group, with_written, landed, land_in, land_by, FLUSHER_REST, fly, hand_over_in, hand_over_by, done_at, State, no_flusher, cpu_of, flusher_of, domain_of, with_domain, writeback_of, with_writeback, in_phase, flusher_device, context_of, group_of, max_share, Scan, Cpu, Domain, Flusher, ReplayPhase, ReplayTask, Writeback, Whose, Silent, Todo, IsFlusherOn, Suits, ScansInside, AreLoads, FollowsCpu, Follows, Moves, Ranges, IsTurnOf}
use Rattle.wbt_flex.specs.Proportions.{added}
use Rattle.wbt_grant.specs.State as throttle
use Rattle.wbt_journal.specs.declared.entry.Entry.TheVariants as entry
use Rattle.wbt_replay_moves.specs.Definition.Flight.{with_part, land}
use Rattle.wbt_replay_moves.specs.Definition.Scan.{hand_over}
use Rattle.wbt_rules.specs.Things.{rate_of}
use Rattle.wbt_replay_moves.specs.declared.state.ReplayPhase.TheVariants as phase
use Rattle.wbt_replay_moves.specs.declared.state.Whose.TheVariants as whose
use Rattle.wbt_replay_moves.specs.declared.todo.Silent.TheVariants as silent
use Rattle.wbt_replay_moves.specs.declared.todo.Todo.TheVariants as todo
use Rattle.wbt_replay_order.proofs.Facts.Lists.{either}
use Rattle.wbt_replay_path.proofs.Follow.Alike.{Alike, alike_log, alike_context, alike_domain}
use Rattle.wbt_replay_order.proofs.Frames.Others.{popped}
use Rattle.wbt_replay_order.proofs.Frames.Quiet.{same_shared, calm}
use Rattle.wbt_replay_path.proofs.Follow.Silents as silents

part_count : (d : ℕ) (part : Half) (w : Writeback) → (with_part d part w).count ≡ w.count
part_count zero part w = refl
part_count (suc d) part w = refl

-- ---- shares

module _ (trace : Trace) (i : ℕ) (base : Cpu) (s : State) (there : i < length s.cpus) where
  share_alike : (d k n : ℕ) (s2 : State) → Alike i base s s2 → Alike i base s (share trace i d k n s2)
  share_alike d k n s2 al = either (Alike i base s)
      (may_be_added (fraction_of (part_in d (writeback_of k s2)) (domain_of d s2).events) (max_share trace k)) _ _
      (λ more.
      let q : Domain = domain_of d s2 in
      let w : Writeback = writeback_of k s2 in
      let part : Half = added (aged (part_in d w) q.events.period) n in
      let s3 : State = with_domain d (record q { events = added q.events n }) s2 in
      alike_log i base s there (with_writeback k (with_part d part w) s3) (entry.Share d k n) (record { no_event = λ older. refl; no_fold = λ older. refl; no_found = λ older. refl })
      (alike_context i base s there s3 k (with_part d part w) (part_count d part w)
      (alike_domain i base s there s2 d (record q { events = added q.events n }) refl refl refl al)))
      (λ none. al)

  group_alike : (g k n : ℕ) (s2 : State) → Alike i base s s2 → Alike i base s (share_group trace i g k n s2)
  group_alike zero k n s2 al = al
  group_alike (suc g) k n s2 al = share_alike (suc g) k n s2 al

abbrev things : (s : State) → List ReplayTask × List Flusher
things s = (s.tasks, s.flushers)

share_keeps : (trace : Trace) (i d k n : ℕ) (s : State) → things (share trace i d k n s) ≡ things s
share_keeps trace i d k n s = either (λ r. things r ≡ things s) (may_be_added (fraction_of (part_in d (writeback_of k s)) (domain_of d s).events) (max_share trace k)) _ _
    (λ more. refl) (λ none. refl)

group_keeps : (trace : Trace) (i g k n : ℕ) (s : State) → things (share_group trace i g k n s) ≡ things s
group_keeps trace i zero k n s = refl
group_keeps trace i (suc g) k n s = share_keeps trace i (suc g) k n s

module _ (trace : Trace) (setting : Setting) (suits : Suits trace setting) (i : ℕ) (less : i < trace.cpus) (s : State) (t : throttle.State)
    (ranges : Ranges trace setting s) (h : Follows trace setting s t) where
  there : i < length s.cpus
  there = omega (arith, less, ranges.cpus)

  module _ (x : Silent) (ts : List Todo) (is : (cpu_of i s).todo ≡ todo.Silent x ∷ ts) (quiet : (k g : ℕ) → AreLoads k g (todo.Silent x ∷ ts) → ⊥) where
    abbrev f0 : FollowsCpu trace setting i (record (cpu_of i s) { todo = todo.Silent x ∷ ts }) s.tasks s.flushers (t.cpu i) (λ x. t.own x i)
    f0 = subst (λ (l : List Todo). FollowsCpu trace setting i (record (cpu_of i s) { todo = l }) s.tasks s.flushers (t.cpu i) (λ x. t.own x i)) is (h.cpu i less)

    -- the flusher becomes another one with the same batch, and the turn goes on
    becomes : (f : ℕ) → IsFlusherOn trace i f → (cpu_of i s).turn.whose ≡ whose.Flusher f → (v : Flusher) (s2 : State)
        → Alike i (record (cpu_of i s) { todo = ts }) s s2 → things s2 ≡ (s.tasks, set s.flushers f v) → v.batch ≡ (flusher_of f s).batch → ScansInside trace v.phase
        → Moves trace setting s.steps s2 t
    becomes f on turn v s2 al things_are batch inside =
        silents.turn_moves trace setting suits i less s t ranges h x ts is quiet f on turn ts v s2 al (ap (λ q. q.0) things_are) (ap (λ q. q.1) things_are) batch refl f0.tidy.1
        (λ p found r. calm setting p found ts r f0.tidy.0.claims) (λ closing. inside)

    -- or it stays
    remains : (f : ℕ) → IsFlusherOn trace i f → (cpu_of i s).turn.whose ≡ whose.Flusher f → ScansInside trace (flusher_of f s).phase → Moves trace setting s.steps (popped i ts s) t
    remains f on turn inside =
        becomes f on turn (flusher_of f s) (popped i ts s)
        (record { becomes = record (cpu_of i s) { todo = ts }; cpus = refl; same = refl; shared = same_shared s (popped i ts s) refl; marks = refl; steps = refl })
        (ap (λ (l : List Flusher). (s.tasks, l)) (sym (set-get_or s.flushers f no_flusher))) refl inside

    abbrev start : Cpu
    start = record (cpu_of i s) { todo = ts }

    abbrev s1 : State
    s1 = popped i ts s

    now_at : (f : ℕ) (p : ReplayPhase) → Alike i start s (in_phase f p s1)
    now_at f p = record { becomes = start; cpus = refl; same = refl; shared = same_shared s (in_phase f p s1) refl; marks = refl; steps = refl }

  -- ---- the batch goes to the disk

  module _ (ts : List Todo) (is : (cpu_of i s).todo ≡ todo.Silent silent.HandOver ∷ ts) where
    hand_at_moves : (f : ℕ) → IsFlusherOn trace i f → (cpu_of i s).turn.whose ≡ whose.Flusher f → (scan : Scan)
        → Moves trace setting s.steps (hand_over_in trace i f (phase.Scanning scan) (popped i ts s)) t
    hand_at_moves f on turn scan =
        let pages : ℕ = length (flusher_of f s).batch in
        let s0 : State = popped i ts s in
        either (λ r. Moves trace setting s.steps r t) (eqb pages 0) _ _
        (λ none.
        let p : ReplayPhase = cond scan.noted (phase.Idle (s.now + FLUSHER_REST) true) (phase.Idle 0 false) in
        becomes silent.HandOver ts is (λ a b none. none) f on turn (record (flusher_of f s) { phase = p }) (in_phase f p s0)
        (now_at silent.HandOver ts is (λ a b none. none) f p) refl refl
        (either (ScansInside trace) scan.noted (phase.Idle (s.now + FLUSHER_REST) true) (phase.Idle 0 false) (λ e. tt) (λ e. tt)))
        (λ some.
        let until : ℕ = done_at s.now pages (rate_of trace (flusher_device trace f)) in
        let p : ReplayPhase = phase.Flying scan.inode pages until in
        becomes silent.HandOver ts is (λ a b none. none) f on turn (record (flusher_of f s) { phase = p }) (fly i f scan.inode pages until s0)
        (alike_log i _ s there (in_phase f p s0) (entry.Batch f pages s.now until) (record { no_event = λ older. refl; no_fold = λ older. refl; no_found = λ older. refl })
        (now_at silent.HandOver ts is (λ a b none. none) f p)) refl refl tt)

    hand_in_moves : (f : ℕ) → IsFlusherOn trace i f → (cpu_of i s).turn.whose ≡ whose.Flusher f → (at : ReplayPhase) → (flusher_of f s).phase ≡ at
        → Moves trace setting s.steps (hand_over_in trace i f at (popped i ts s)) t
    hand_in_moves f on turn (phase.Idle until kept) at = remains silent.HandOver ts is (λ a b none. none) f on turn (subst (ScansInside trace) (sym at) tt)
    hand_in_moves f on turn (phase.Taken inode) at = remains silent.HandOver ts is (λ a b none. none) f on turn (subst (ScansInside trace) (sym at) tt)
    hand_in_moves f on turn (phase.Scanning scan) at = hand_at_moves f on turn scan
    hand_in_moves f on turn (phase.Flying inode pages until) at = remains silent.HandOver ts is (λ a b none. none) f on turn (subst (ScansInside trace) (sym at) tt)
    hand_in_moves f on turn phase.Finished at = remains silent.HandOver ts is (λ a b none. none) f on turn (subst (ScansInside trace) (sym at) tt)

    hand_by_moves : (whose : Whose) → (cpu_of i s).turn.whose ≡ whose → IsTurnOf trace i whose → Moves trace setting s.steps (hand_over_by trace i whose (popped i ts s)) t
    hand_by_moves (whose.Task task) turn on = silents.by_task trace setting suits i less s t ranges h silent.HandOver ts is (λ a b none. none) task turn
    hand_by_moves (whose.Flusher f) turn on = hand_in_moves f on turn (flusher_of f s).phase refl

    pub hand_over_moves : Moves trace setting s.steps (hand_over trace i (popped i ts s)) t
    hand_over_moves = subst (λ (w : Whose). Moves trace setting s.steps (hand_over_by trace i w (popped i ts s)) t)
        (sym (silents.same_turn trace setting suits i less s t ranges h silent.HandOver ts is (λ a b none. none)))
        (hand_by_moves (cpu_of i s).turn.whose refl (silents.whose_on trace setting suits i less s t ranges h silent.HandOver ts is (λ a b none. none)))

  -- ---- the batch is counted in

  module _ (ts : List Todo) (is : (cpu_of i s).todo ≡ todo.Silent silent.Land ∷ ts) where
    abbrev l0 : FollowsCpu trace setting i (record (cpu_of i s) { todo = todo.Silent silent.Land ∷ ts }) s.tasks s.flushers (t.cpu i) (λ x. t.own x i)
    l0 = f0 silent.Land ts is (λ a b none. none)

    lands : (f : ℕ) → IsFlusherOn trace i f → (cpu_of i s).turn.whose ≡ whose.Flusher f → (k n : ℕ) → Moves trace setting s.steps (landed trace i f k n (popped i ts s)) t
    lands f on turn k n =
        let s0 : State = popped i ts s in
        let p : ReplayPhase = phase.Idle 0 false in
        let a : State = in_phase f p s0 in
        let b : State = with_written k n a in
        let first = now_at silent.Land ts is (λ a b none. none) f p in
        let second = alike_context i _ s there a k (record (writeback_of k a) { written = (writeback_of k a).written + n }) refl first in
        let third = share_alike trace i _ s there 0 k n b second in
        becomes silent.Land ts is (λ a b none. none) f on turn (record (flusher_of f s) { phase = p }) (landed trace i f k n s0)
        (group_alike trace i _ s there (group_of trace k) k n (share trace i 0 k n b) third)
        (group_keeps trace i (group_of trace k) k n (share trace i 0 k n b) ∙ share_keeps trace i 0 k n b) refl tt

    land_in_moves : (f : ℕ) → IsFlusherOn trace i f → (cpu_of i s).turn.whose ≡ whose.Flusher f → (at : ReplayPhase) → (flusher_of f s).phase ≡ at
        → Moves trace setting s.steps (land_in trace i f at (popped i ts s)) t
    land_in_moves f on turn (phase.Idle until kept) at = remains silent.Land ts is (λ a b none. none) f on turn (subst (ScansInside trace) (sym at) tt)
    land_in_moves f on turn (phase.Taken inode) at = remains silent.Land ts is (λ a b none. none) f on turn (subst (ScansInside trace) (sym at) tt)
    land_in_moves f on turn (phase.Scanning scan) at = silents.passed trace setting suits i less s t ranges h silent.Land ts is (λ a b none. none) l0.scanning
    land_in_moves f on turn (phase.Flying inode pages until) at = either (λ r. Moves trace setting s.steps r t) (eqb (length (flusher_of f s).batch) 0) _ _
        (λ none. lands f on turn (context_of trace inode) pages)
        (λ some. remains silent.Land ts is (λ a b none. none) f on turn (subst (ScansInside trace) (sym at) tt))
    land_in_moves f on turn phase.Finished at = remains silent.Land ts is (λ a b none. none) f on turn (subst (ScansInside trace) (sym at) tt)

    land_by_moves : (whose : Whose) → (cpu_of i s).turn.whose ≡ whose → IsTurnOf trace i whose → Moves trace setting s.steps (land_by trace i whose (popped i ts s)) t
    land_by_moves (whose.Task task) turn on = silents.by_task trace setting suits i less s t ranges h silent.Land ts is (λ a b none. none) task turn
    land_by_moves (whose.Flusher f) turn on = land_in_moves f on turn (flusher_of f s).phase refl

    pub land_moves : Moves trace setting s.steps (land trace i (popped i ts s)) t
    land_moves = subst (λ (w : Whose). Moves trace setting s.steps (land_by trace i w (popped i ts s)) t)
        (sym (silents.same_turn trace setting suits i less s t ranges h silent.Land ts is (λ a b none. none)))
        (land_by_moves (cpu_of i s).turn.whose refl (silents.whose_on trace setting suits i less s t ranges h silent.Land ts is (λ a b none. none)))
