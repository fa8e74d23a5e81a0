-- At each moment of a run each entry of a CPU's part is its own, and each of its flushers claims, hands over and completes in turn.
use Rattle.std.proofs.Common.{◌⊎◌, ◌≡◌, ◌≢◌, ℕ, zero, suc, ◌+◌, ◌<◌, ◌≤◌, Bool, true, false, nat_lt, List, [], ◌∷◌, ◌++◌, length, get_or, Some, refl, sym, ◌∙◌, ap, subst, arith, ⊎_elim}
use Rattle.std.proofs.Math.ListN.{set}
use Rattle.std.proofs.lemmas.Bool.{cases_Bool, lt-ltb}
use Rattle.std.proofs.lemmas.List.{get_or-set_same, get_or-set_other}
use Rattle.wbt_book.specs.declared.event.Event.TheVariants as event
use Rattle.wbt_replay_order.proofs.Common.{Counter, Estimate, context_of, group_of, flusher_cpu, page_of, Scan, Trace, has_page, cgroup_reads, Each, Move, WaitMove, notices, ages, takes_first, ToldPhase, ToldFlusher, scanning, new_flusher, MayMove, domains, page_context, Told, told_entry, CheckEntry, DomainLine, Entry, EstEntry, decision_at, check_of, global_line, cgroup_line, decide_for, counted, fold, logged, log_at, own_of, checked, estimated, estimate_to, complete_page, share_now, claim_now, fly, State, no_cpu, no_flusher, cpu_of, with_cpu, task_of, flusher_of, with_flusher, domain_of, with_domain, writeback_of, with_writeback, count_of, with_count, with_event, with_waiting, end_now, Cpu, Flusher, ReplayPhase, ReplayTurn, Writeback, opening, first_cpu, first_cpus, first_flusher, first_flushers, advance, is_ended, state_at, Facts, IsPageOf, IsFlusherOn, IsTaskOn, Sound, IsCounter}
use Rattle.wbt_counter.specs.declared.counter.Counter.TheVariants.{Domain as ofDomain, Context as ofContext}
use Rattle.wbt_journal.specs.Effects.{takes, flies, lands}
use Rattle.wbt_journal.specs.Flights.{moved}
use Rattle.wbt_journal.specs.Machine.{has_counter}
use Rattle.wbt_journal.specs.Told.{checked as check_told, estimated as est_told, claimed as claimed_told, batch as batch_told, done as done_told}
use Rattle.wbt_journal.specs.declared.entry.Entry.TheVariants as entry
use Rattle.wbt_run_laws.specs.Phases.{Flew}
use Rattle.wbt_replay_moves.specs.declared.state.ReplayPhase.TheVariants as phase
use Rattle.wbt_replay_order.proofs.Growth.Quiet.{same_at, is_name}
use Rattle.wbt_replay_order.proofs.Growth.Runs.{run_none, run_last, run_stays}
use Rattle.wbt_replay_order.proofs.Outset.Numbered.{numbered_all}
use Rattle.wbt_replay_points.proofs.Lawful.Plainly.{steps_seen, moves_seen, see_turn}
use Rattle.wbt_replay_points.proofs.Lawful.Now.{DecidesNow, EndsNow, ScansNow, CompletesNow, EstimatesNow, entry_of, ListsNow}
use Rattle.wbt_replay_points.proofs.Lawful.Leaving.{KnownWrites, FreshWrites, alone, over_known, over_fresh, over_step, over_move}
use Rattle.wbt_replay_points.proofs.Lawful.Logs.{own_flusher, own_task, IsInOrder, IsTold, told_logged, order_logged, told_checked, order_checked, told_estimated, order_estimated, AreLogged, logs_stay, logs_more, one_flight}
use Rattle.wbt_replay_points.proofs.Lawful.Same.{log_of, told_of, phase_at, told_phase, unfailed, told_flusher, Hidden}
use Rattle.wbt_replay_points.proofs.Lawful.Walk.{advance_seen, starts_of}
use Rattle.wbt_expiry.specs.Waiting.{Waiting as Wheel}

abbrev pub HasLogs : (trace : Trace) (s : State) → Type 0
HasLogs trace s = AreLogged trace s.cpus s.flushers

module _ (trace : Trace) (facts : Facts trace) (pages_there : (inode page : ℕ) → IsPageOf trace inode page → has_page (page_context trace page) ≡ true) where
  abbrev Goes : (s u : State) → Type 0
  Goes s u = HasLogs trace s → HasLogs trace u

  hide : (s u : State) → Hidden s u → Goes s u
  hide s u hidden h = logs_stay trace s.cpus u.cpus s.flushers u.flushers hidden.0.parts hidden.0.phases h

  thens : (s u v : State) → Goes s u → Goes u v → Goes s v
  thens s u v p q h = q (p h)

  -- a CPU changes in what isn't told
  quietly : (cpu : ℕ) (c : Cpu) (s : State) → log_of c ≡ log_of (cpu_of cpu s) → Goes s (with_cpu cpu c s)
  quietly cpu c s same h = logs_stay trace s.cpus (set s.cpus cpu c) s.flushers s.flushers (same_at log_of s.cpus cpu c no_cpu same) (λ f. refl) h

  -- one entry that no flusher's walk sees
  logs : (cpu : ℕ) (e : Entry) (s : State) → cpu < length s.cpus → is_name e ≡ false → Each (IsTold trace cpu) (told_entry (cpu_of cpu s).checks (cpu_of cpu s).estimates e)
      → ((f : ℕ) (p : ToldFlusher) → Flew f p (told_entry (cpu_of cpu s).checks (cpu_of cpu s).estimates e) p) → Goes s (log_at cpu e s)
  logs cpu e s there none own unseen h =
      logs_more trace s.cpus s.flushers s.flushers cpu (logged e (cpu_of cpu s)) (told_entry (cpu_of cpu s).checks (cpu_of cpu s).estimates e) there
      (told_logged e (cpu_of cpu s)) (order_logged e (cpu_of cpu s) none (h.order cpu)) own (λ f on. unseen f (told_flusher (flusher_of f s))) (λ i f apart on. refl) h

  counter_there : (x : Counter) → IsCounter trace x → has_counter trace x ≡ true
  counter_there (ofDomain d) less = lt-ltb d (domains trace) less
  counter_there (ofContext k) less = lt-ltb k (length trace.contexts) less

  folds : (cpu : ℕ) (x : Counter) (s : State) → cpu < length s.cpus → IsCounter trace x → Goes s (fold cpu x s)
  folds cpu (ofDomain d) s there fit =
      logs cpu (entry.Folded (record { counter = ofDomain d; version = (count_of (ofDomain d) s).version + 1; delta = own_of (ofDomain d) (cpu_of cpu s) })) (with_count (ofDomain d) (counted (own_of (ofDomain d) (cpu_of cpu s)) (count_of (ofDomain d) s)) s) there refl
      ((record { write = tt; fold = counter_there (ofDomain d) fit; check = tt; flight = tt; share = tt; estimate = tt; wait = tt }, (refl, refl)), tt) (λ f p. record { allowed = (tt, tt); reached = refl })
  folds cpu (ofContext k) s there fit =
      logs cpu (entry.Folded (record { counter = ofContext k; version = (count_of (ofContext k) s).version + 1; delta = own_of (ofContext k) (cpu_of cpu s) })) (with_count (ofContext k) (counted (own_of (ofContext k) (cpu_of cpu s)) (count_of (ofContext k) s)) s) there refl
      ((record { write = tt; fold = counter_there (ofContext k) fit; check = tt; flight = tt; share = tt; estimate = tt; wait = tt }, (refl, refl)), tt) (λ f p. record { allowed = (tt, tt); reached = refl })

  -- ---- writes

  wrote : (cpu task page : ℕ) (is_fresh : Bool) (s : State) → cpu < length s.cpus → IsTaskOn trace cpu task → Goes s (log_at cpu (entry.Write task page is_fresh) s)
  wrote cpu task page is_fresh s there on =
      logs cpu (entry.Write task page is_fresh) s there refl
      ((record { write = own_task trace cpu task on; fold = tt; check = tt; flight = tt; share = tt; estimate = tt; wait = tt }, (refl, refl)), tt) (λ f p. record { allowed = (tt, tt); reached = refl })

  abbrev part : (cpus : List Cpu) (flushers : List Flusher) (contexts : List Writeback) → Type 0
  part cpus flushers contexts = AreLogged trace cpus flushers

  knowns : KnownWrites trace Goes
  knowns = over_known trace (alone part) quietly wrote

  freshes : FreshWrites trace Goes
  freshes = over_fresh trace (alone part) quietly wrote

  -- ---- flights

  -- a flusher of the CPU moves, and the CPU tells it
  flight : (cpu f : ℕ) (v : Flusher) (e : Entry) (told : Told) (move : Move) (s : State) → cpu < length s.cpus → IsFlusherOn trace cpu f → is_name e ≡ false
      → told_entry (cpu_of cpu s).checks (cpu_of cpu s).estimates e ≡ told ∷ [] → Each (IsTold trace cpu) (told ∷ [])
      → ((g : ℕ) (old new other_old other_new : ToldFlusher) → MayMove move old.phase → new ≡ moved move old → (g ≡ f → (other_old ≡ old) × (other_new ≡ new)) → (g ≢ f → other_new ≡ other_old)
      → Flew g other_old (told ∷ []) other_new)
      → MayMove move (told_phase (flusher_of f s)) → told_flusher v ≡ moved move (told_flusher (flusher_of f s)) → f < length s.flushers
      → HasLogs trace s → AreLogged trace (set s.cpus cpu (logged e (cpu_of cpu s))) (set s.flushers f v)
  flight cpu f v e told move s there on none tells own flies_on may becomes known h =
      logs_more trace s.cpus s.flushers (set s.flushers f v) cpu (logged e (cpu_of cpu s)) (told ∷ []) there
      (told_logged e (cpu_of cpu s) ∙ ap (λ (l : List Told). told_of (cpu_of cpu s) ++ l) tells) (order_logged e (cpu_of cpu s) none (h.order cpu)) own
      (λ g its. flies_on g (told_flusher (flusher_of f s)) (told_flusher v) (told_flusher (flusher_of g s)) (told_flusher (get_or (set s.flushers f v) g no_flusher)) may becomes
      (λ same. (
        ap (λ (n : ℕ). told_flusher (flusher_of n s)) same,
        ap (λ (n : ℕ). told_flusher (get_or (set s.flushers f v) n no_flusher)) same ∙ ap told_flusher (get_or-set_same s.flushers f v no_flusher known),
      ))
      (λ apart. ap told_flusher (get_or-set_other s.flushers f g v no_flusher apart)))
      (λ i g apart its. ap told_flusher (get_or-set_other s.flushers f g v no_flusher (λ same. apart (sym its.cpu_is ∙ ap (λ (n : ℕ). flusher_cpu trace n) same ∙ on.cpu_is))))
      h

  -- the batch gets the page that was claimed
  claims : (cpu f : ℕ) (scan : Scan) (s : State) → ScansNow trace cpu f scan s → IsPageOf trace scan.inode (page_of scan) → Goes s (claim_now cpu f scan s)
  claims cpu f scan s now page h =
      let batch : List ℕ = (flusher_of f s).batch in
      let v : Flusher = record (flusher_of f s) { phase = phase.Scanning (record scan { passed = scan.passed + 1 }); batch = batch ++ page_of scan ∷ [] } in
      let e : Entry = entry.Claimed f (page_of scan) in
      let old : told_phase (flusher_of f s) ≡ scanning batch = ap (phase_at batch) now.at in
      let w : State = log_at cpu e (with_flusher f v (with_event (event.Claim (page_of scan)) (page_of scan) s)) in
      quietly cpu _ w refl
      (flight cpu f v e (claimed_told f (page_of scan)) (takes (page_of scan)) s now.there now.on refl refl
      ((record { write = tt; fold = tt; check = tt; flight = record { own = own_flusher trace cpu f now.on; page = pages_there scan.inode (page_of scan) page; chunk = tt }; share = tt; estimate = tt; wait = tt }, (refl, refl)), tt)
      (λ g a b other_old other_new may is own apart. one_flight f g (takes (page_of scan)) (claimed_told f (page_of scan)) a b refl may is other_old other_new own apart)
      (subst (MayMove (takes (page_of scan))) (sym old) tt) (sym (ap (λ (p : ToldPhase). moved (takes (page_of scan)) (unfailed p)) old)) now.known h)

  flies_off : (cpu f : ℕ) (scan : Scan) (until : ℕ) (s : State) → ScansNow trace cpu f scan s → length (flusher_of f s).batch ≢ 0 → Goes s (fly cpu f scan.inode (length (flusher_of f s).batch) until s)
  flies_off cpu f scan until s now some h =
      let batch : List ℕ = (flusher_of f s).batch in
      let n : ℕ = length batch in
      let v : Flusher = record (flusher_of f s) { phase = phase.Flying scan.inode n until } in
      let e : Entry = entry.Batch f n s.now until in
      let old : told_phase (flusher_of f s) ≡ scanning batch = ap (phase_at batch) now.at in
      let many : 1 ≤ n = (let not_none : n ≢ 0 = some in omega (arith, not_none)) in
      flight cpu f v e (batch_told f n s.now until) (flies n s.now until) s now.there now.on refl refl
      ((record { write = tt; fold = tt; check = tt; flight = record { own = own_flusher trace cpu f now.on; page = tt; chunk = now.within }; share = tt; estimate = tt; wait = tt }, (refl, refl)), tt)
      (λ g a b other_old other_new may is own apart. one_flight f g (flies n s.now until) (batch_told f n s.now until) a b refl may is other_old other_new own apart)
      (subst (MayMove (flies n s.now until)) (sym old) (many, refl)) (sym (ap (λ (p : ToldPhase). moved (flies n s.now until) (unfailed p)) old)) now.known h

  completes : (cpu f inode page : ℕ) (pages : List ℕ) (s : State) → CompletesNow trace cpu f inode page pages s
      → Goes s (complete_page trace cpu f (context_of trace inode) page (with_flusher f (record (flusher_of f s) { batch = pages }) s))
  completes cpu f inode page pages s now h =
      let v : Flusher = record (flusher_of f s) { batch = pages } in
      let e : Entry = entry.Done f page in
      let fly_is : (flusher_of f s).phase ≡ phase.Flying inode now.flies.0 now.flies.1 = now.flies.2 in
      let context : ℕ = context_of trace inode in
      let w : State = log_at cpu e (with_event (event.Complete page) page (with_flusher f v s)) in
      quietly cpu _ w refl
      (flight cpu f v e (done_told f page) (lands page) s now.there now.on refl refl
      ((record { write = tt; fold = tt; check = tt; flight = record { own = own_flusher trace cpu f now.on; page = pages_there inode page now.page_is; chunk = tt }; share = tt; estimate = tt; wait = tt }, (refl, refl)), tt)
      (λ g a b other_old other_new may is own apart. one_flight f g (lands page) (done_told f page) a b refl may is other_old other_new own apart)
      (subst (MayMove (lands page)) (sym now.at) refl)
      (ap (λ (p : ReplayPhase). unfailed (phase_at pages p)) fly_is ∙ sym (ap (λ (p : ToldPhase). moved (lands page) (unfailed p)) now.at)) now.known h)

  -- a flusher's list moves, which changes nothing of its phase
  lists : (cpu f : ℕ) (move : WaitMove) (list : Wheel) (s : State) → ListsNow trace cpu f move list s → Goes s (log_at cpu (entry_of f move) (with_waiting f list s))
  lists cpu f move list s now h =
      let v : Flusher = record (flusher_of f s) { wheel = Some list } in
      let u : State = with_waiting f list s in
      let same : HasLogs trace u = logs_stay trace s.cpus s.cpus s.flushers u.flushers (λ i. refl) (same_at told_phase s.flushers f v no_flusher refl) h in
      by_move move u now.there same
    where
      by_move : (move : WaitMove) (u : State) → cpu < length u.cpus → HasLogs trace u → HasLogs trace (log_at cpu (entry_of f move) u)
      by_move (notices inode since) u there =
          logs cpu (entry.Noticed f inode since) u there refl
          ((record { write = tt; fold = tt; check = tt; flight = tt; share = tt; estimate = tt; wait = own_flusher trace cpu f now.on }, (refl, refl)), tt)
          (λ g p. record { allowed = (tt, tt); reached = refl })
      by_move (ages inode moment aged_at) u there =
          logs cpu (entry.Aged f inode moment aged_at) u there refl
          ((record { write = tt; fold = tt; check = tt; flight = tt; share = tt; estimate = tt; wait = own_flusher trace cpu f now.on }, (refl, refl)), tt)
          (λ g p. record { allowed = (tt, tt); reached = refl })
      by_move (takes_first inode) u there =
          logs cpu (entry.Taken f inode) u there refl
          ((record { write = tt; fold = tt; check = tt; flight = tt; share = tt; estimate = tt; wait = own_flusher trace cpu f now.on }, (refl, refl)), tt)
          (λ g p. record { allowed = (tt, tt); reached = refl })

  shares : (cpu d k n : ℕ) (s : State) → cpu < length s.cpus → d < domains trace → k < length trace.contexts → (d ≡ 0) ⊎ (d ≡ group_of trace k) → Goes s (share_now cpu d k n s)
  shares cpu d k n s there inside known its =
      logs cpu (entry.Share d k n) (with_writeback k (writeback_of k (share_now cpu d k n s)) (with_domain d (record (domain_of d s) { events = (domain_of d (share_now cpu d k n s)).events }) s)) there refl
      ((record { write = tt; fold = tt; check = tt; flight = tt; share = record { domain_named = lt-ltb d (domains trace) inside; context_named = lt-ltb k (length trace.contexts) known }; estimate = tt; wait = tt }, (refl, refl)), tt)
      (λ f p. record { allowed = (tt, tt); reached = refl })

  ends : (cpu task : ℕ) (s : State) → EndsNow trace cpu task s → Goes s (end_now cpu task s)
  ends cpu task s now = quietly cpu _ s refl

  -- ---- checks and estimates

  each_read : (group context : ℕ) (turn : ReplayTurn) (s : State) → group < domains trace → Each (λ (read : DomainLine). nat_lt read.domain (domains trace) ≡ true) (global_line context turn s ∷ cgroup_reads (cgroup_line group context turn s))
  each_read zero context turn s inside = (lt-ltb 0 (domains trace) inside, tt)
  each_read (suc cgroup) context turn s inside = (lt-ltb 0 (domains trace) (omega arith), (lt-ltb (suc cgroup) (domains trace) inside, tt))

  decides : (cpu task : ℕ) (s : State) → DecidesNow trace cpu task s → Goes s (decide_for trace cpu task (task_of task s).context s)
  decides cpu task s now h =
      let k : ℕ = (task_of task s).context in
      let c : Cpu = cpu_of cpu s in
      let check : CheckEntry = check_of trace task k c.turn (decision_at trace k (task_of task s) c.turn s) s in
      let group : group_of trace k < domains trace = omega (arith, facts.context_group k now.context_there) in
      logs_more trace s.cpus s.flushers s.flushers cpu (checked check c) (check_told check ∷ []) now.there (told_checked check c (h.order cpu)) (order_checked check c (h.order cpu)) (
        (
          record {
            write = tt;
            fold = tt;
            check = record { own = own_task trace cpu task now.on; context = lt-ltb k (length trace.contexts) now.context_there; each_domain = each_read (group_of trace k) k c.turn s group };
            flight = tt;
            share = tt;
            estimate = tt;
            wait = tt;
          },
          (refl, refl),
        ),
        tt,
      )
      (λ f on. record { allowed = (tt, tt); reached = refl }) (λ i f apart on. refl) h

  estimates : (cpu f k : ℕ) (e : Estimate) (s : State) → EstimatesNow trace cpu f k s → Goes s (estimate_to cpu k (Some e) s)
  estimates cpu f k e s now h =
      let c : Cpu = cpu_of cpu s in
      let est : EstEntry = record { context = k; estimate = e } in
      logs_more trace s.cpus s.flushers s.flushers cpu (estimated est c) (est_told est ∷ []) now.there (told_estimated est c (h.order cpu)) (order_estimated est c (h.order cpu))
      ((record { write = tt; fold = tt; check = tt; flight = tt; share = tt; estimate = lt-ltb k (length trace.contexts) now.context_there; wait = tt }, (refl, refl)), tt)
      (λ g on. record { allowed = (tt, tt); reached = refl }) (λ i g apart on. refl) h

  -- ---- a move

  module _ (s0 : State) (sound : Sound trace s0) where
    goes_on : Goes s0 (advance trace s0)
    goes_on =
        advance_seen trace Goes hide thens s0 (starts_of trace facts s0 sound)
        (λ orders rotation i below ts x is. steps_seen trace facts Goes hide thens (λ cpu c s told local. quietly cpu c s told) folds knowns freshes claims flies_off completes lists shares ends decides (λ cpu f k e s now is. estimates cpu f k e s now) s0 sound orders rotation i below ts x is)
        (λ orders rotation i below ts x is. moves_seen trace facts Goes hide thens (λ cpu c s told local. quietly cpu c s told) folds knowns freshes claims flies_off completes lists shares ends decides (λ cpu f k e s now is. estimates cpu f k e s now) s0 sound orders rotation i below ts x is)
        (see_turn trace facts Goes hide thens (λ cpu c s told local. quietly cpu c s told) folds knowns freshes claims flies_off completes lists shares ends decides (λ cpu f k e s now is. estimates cpu f k e s now))
        (λ orders rotation ts x is. over_step trace part s0 orders rotation ts x)
        (λ orders rotation ts x is. over_move trace part s0 orders rotation ts x)
        (λ orders rotation none late h. h)

  -- ---- the opening, and each moment

  first_flown : AreLogged trace (first_cpus trace trace.cpus) (first_flushers trace (length trace.flushers))
  first_flown = record {
    order = numbered_all (first_cpus trace) (first_cpu trace) no_cpu refl (λ n. refl) (λ j c. IsInOrder c) (λ j. (refl, refl)) (λ j. (refl, refl)) trace.cpus;
    own = numbered_all (first_cpus trace) (first_cpu trace) no_cpu refl (λ n. refl) (λ j c. Each (IsTold trace j) (told_of c)) (λ j. tt) (λ j. tt) trace.cpus;
    flown = λ j g on.
        subst (λ (p : ToldPhase). Flew g new_flusher (told_of (get_or (first_cpus trace trace.cpus) j no_cpu)) (unfailed p))
        (sym (numbered_all (first_flushers trace) (first_flusher trace) no_flusher refl (λ n. refl) (λ n v. told_phase v ≡ scanning []) (λ n. refl) (λ n. refl) (length trace.flushers) g))
        (numbered_all (first_cpus trace) (first_cpu trace) no_cpu refl (λ n. refl) (λ n c. Flew g new_flusher (told_of c) new_flusher) (λ n. record { allowed = tt; reached = refl }) (λ n. record { allowed = tt; reached = refl }) trace.cpus j);
  }

  first_logs : HasLogs trace (opening trace)
  unfolding opening
  first_logs = first_flown

  module _ (sound : (moves : ℕ) → Sound trace (state_at trace moves)) where
    pub logged_at : (moves : ℕ) → HasLogs trace (state_at trace moves)
    logged_at zero = subst (HasLogs trace) (sym (run_none trace 0 (opening trace) refl)) first_logs
    logged_at (suc m) = ⊎_elim
        (λ over. subst (HasLogs trace) (sym (run_stays trace m (suc m) (opening trace) (omega arith) over)) (logged_at m))
        (λ going. subst (HasLogs trace) (sym (run_last trace m (suc m) (opening trace) (omega arith) going)) (goes_on (state_at trace m) (sound m) (logged_at m)))
        (cases_Bool (is_ended (state_at trace m)))
