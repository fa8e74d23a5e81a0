-- At each moment of a run the estimates of a context are told by one CPU and follow one another, and checks name them.
use Rattle.std.proofs.Common.{◌≡◌, ◌≢◌, ℕ, zero, suc, ◌+◌, ◌<◌, ◌≤◌, Bool, true, false, eqb, nat_lt, List, [], ◌∷◌, ◌++◌, length, map, get_or, Some, IfSome, refl, sym, ◌∙◌, ap, subst, arith, eq-eqb, ne_eqb, true≢false, ⊎_elim}
use Rattle.std.proofs.Math.ListN.{set}
use Rattle.std.proofs.lemmas.Bool.{cases_Bool, cases_lt, lt-ltb, cond-false, ltb-true}
use Rattle.std.proofs.lemmas.List.{length-set, length-map}
use Rattle.wbt_replay_order.proofs.Common.{Count, Counter, update_of, Estimate, aged, Half, context_of, context_at, first_estimate, page_of, Scan, Trace, Each, effect, WaitMove, notices, ages, takes_first, Told, told_entry, InOrder, told, CheckEntry, Entry, EstEntry, decision_at, check_of, decide_for, fold, counted, logged, log_at, own_of, checked, estimated, estimate_to, sample_of, complete_page, share_now, claim_now, fly, State, no_cpu, no_flusher, cpu_of, with_cpu, task_of, flusher_of, with_flusher, domain_of, writeback_of, with_writeback, count_of, no_context, with_waiting, end_now, Cpu, Flusher, opening, first_cpu, first_cpus, first_flusher, first_flushers, first_context, first_contexts, opening_moment, advance, is_ended, state_at, last_state, part_of, journal_of, most_moves, IsTaskOn, Facts, IsPageOf, Sound, is_measured, tells, items_from, OfPart, estimate_in, estimates_of, opened_at, parts_back, is_check, newer, items_told, Walks, Walked, each_append, each_weaker, joined, told_is, each_item, each_joined, walks_silent, Writeback, FlusherLine, Along}
use Rattle.wbt_counter.specs.declared.counter.Counter.TheVariants.{Domain as ofDomain, Context as ofContext}
use Rattle.wbt_flex.specs.Proportions.{added}
use Rattle.wbt_rules.specs.Things.{first_flusher as leader}
use Rattle.wbt_rules.proofs.Openings.{first_version}
use Rattle.wbt_journal.specs.Machine.{contexts}
use Rattle.wbt_journal.specs.Told.{checked as check_told, estimated as est_told, claimed as claimed_told, batch as batch_told, done as done_told, wrote as wrote_told, folded as folded_told, share as share_told, noticed as noticed_told, aged as aged_told, took as took_told}
use Rattle.wbt_journal.specs.declared.entry.Entry.TheVariants as entry
use Rattle.wbt_replay_moves.specs.declared.state.ReplayPhase.TheVariants as phase
use Rattle.wbt_replay_order.specs.Definition.Opening.{measures_of}
use Rattle.wbt_replay_order.proofs.Growth.Quiet.{same_at, is_name}
use Rattle.wbt_replay_order.proofs.Growth.Runs.{run_none, run_last, run_stays}
use Rattle.wbt_replay_order.proofs.Facts.Lists.{either}
use Rattle.wbt_replay_order.proofs.Outset.Numbered.{numbered_length, numbered_all, numbered_at}
use Rattle.wbt_replay_points.proofs.Lawful.Plainly.{steps_seen, moves_seen, see_turn}
use Rattle.wbt_replay_points.proofs.Lawful.Now.{DecidesNow, EndsNow, ScansNow, CompletesNow, EstimatesNow, entry_of, ListsNow}
use Rattle.wbt_replay_points.proofs.Lawful.Leaving.{KnownWrites, FreshWrites, alone, over_known, over_fresh, over_step, over_move}
use Rattle.wbt_replay_points.proofs.Lawful.Logs.{IsInOrder, told_logged, order_logged, told_checked, order_checked, told_estimated, order_estimated, IsTold}
use Rattle.wbt_replay_points.proofs.Lawful.Same.{log_of, told_of, Hidden}
use Rattle.wbt_replay_points.proofs.Lawful.Walk.{advance_seen, starts_of}
use Rattle.wbt_journal.specs.Lawful.{EstimatesAreUp, NamesAreOfEstimates, NamesStayNew}
use Rattle.wbt_journal.specs.Estimates.{EstimatesFollow, estimates_after, NamesEstimate, ChecksNameEstimates, NamesGoOn, names_after, Follows}
use Rattle.wbt_run_laws.specs.Notes.{HasNamed}
use Rattle.wbt_run_laws.proofs.Entering.{check_names_seen, others_name_none}
use Rattle.wbt_replay_order.proofs.Growth.Afresh.{told_in}
use Rattle.wbt_replay_points.proofs.Claims.Peaks.{peaks_at}
use Rattle.wbt_replay_points.proofs.Lawful.Timing.{opened_first}
use Rattle.wbt_replay_points.proofs.Lawful.Logged.{HasLogs}
use Rattle.wbt_replay_points.proofs.Lawful.Points.{each_told}
use Rattle.wbt_replay_points.proofs.Lawful.Estimating.{publisher, publishes, follows_update, estimates_on, IsNamedIn, known_of, known_none, HasNames, AreEstimated, names_on, estimated_other, estimated_next, follow_parts, only_part}
use Rattle.wbt_replay_points.proofs.Lawful.Told.{OfCheck, told_checks}
use Rattle.wbt_replay_points.proofs.Claims.Sums.{part_at}
use Rattle.wbt_expiry.specs.Waiting.{Waiting as Wheel}

abbrev pub HasEstimates : (trace : Trace) (s : State) → Type 0
HasEstimates trace s = AreEstimated trace s.cpus s.flushers s.contexts

abbrev estimate_at : (ks : List Writeback) (k : ℕ) → Estimate
estimate_at ks k = (get_or ks k no_context).estimate

module _ (trace : Trace) (facts : Facts trace) where
  abbrev Goes : (s u : State) → Type 0
  Goes s u = HasEstimates trace s → HasEstimates trace u

  -- the same logs and estimates
  stays : (cpus cpus2 : List Cpu) (flushers flushers2 : List Flusher) (ks ks2 : List Writeback) → ((i : ℕ) → log_of (get_or cpus2 i no_cpu) ≡ log_of (get_or cpus i no_cpu))
      → ((f : ℕ) → (get_or flushers2 f no_flusher).measures ≡ (get_or flushers f no_flusher).measures) → length ks2 ≡ length ks
      → ((k : ℕ) → estimate_at ks2 k ≡ estimate_at ks k) → AreEstimated trace cpus flushers ks → AreEstimated trace cpus2 flushers2 ks2
  stays cpus cpus2 flushers flushers2 ks ks2 logs measures places same h =
      let told : (i k : ℕ) → estimates_on k (get_or cpus2 i no_cpu) ≡ estimates_on k (get_or cpus i no_cpu) =
      λ i k. ap (λ (q : List Entry × List CheckEntry × List EstEntry). estimates_of k (told_in q.1 q.2 q.0)) (logs i) in
      let up : (k : ℕ) → (estimate_at ks k).version ≤ (estimate_at ks2 k).version = λ k. (let now = ap (λ (e : Estimate). e.version) (same k) in omega (arith, now)) in
      record {
        order = λ i. subst (λ (q : List Entry × List CheckEntry × List EstEntry). InOrder (length q.1) (length q.2) 0 0 q.0) (sym (logs i)) (h.order i);
        places = places ∙ h.places;
        measures = λ f less. measures f ∙ h.measures f less;
        silent = λ i k other. told i k ∙ h.silent i k other;
        chain = λ k less.
            subst (λ (l : List Estimate). Walked Follows newer (first_estimate trace k opening_moment) l (estimate_at ks2 k)) (sym (told (publisher trace k) k))
            (subst (λ (e : Estimate). Walked Follows newer (first_estimate trace k opening_moment) (estimates_on k (get_or cpus (publisher trace k) no_cpu)) e) (sym (same k)) (h.chain k less));
        version = λ k less. ap (λ (e : Estimate). e.version) (same k) ∙ h.version k less ∙ ap (λ (l : List Estimate). length l) (sym (told (publisher trace k) k));
        named = λ i. subst (λ (q : List Entry × List CheckEntry × List EstEntry). Each (IsNamedIn trace ks2) q.1) (sym (logs i))
            (each_weaker (IsNamedIn trace ks) (IsNamedIn trace ks2) (λ check is. (is.0, (let more = up check.context in omega (arith, is.1, more)))) (get_or cpus i no_cpu).checks (h.named i));
        names = λ i.
            names_on i (get_or cpus2 i no_cpu) ks ks2 up
            (subst (λ (q : List Entry × List CheckEntry × List EstEntry). Walks HasNamed NamesGoOn names_after known_none (items_told i (told_in q.1 q.2 q.0)) (known_of ks)) (sym (logs i)) (h.names i));
      }

  pub hide : (s u : State) → Hidden s u → Goes s u
  hide s u hidden h =
      let same = hidden.0 in
      stays s.cpus u.cpus s.flushers u.flushers s.contexts u.contexts same.parts same.measured same.places (λ k. ap (λ (q : Half × Half × Estimate). q.2) (same.noted k)) h

  thens : (s u v : State) → Goes s u → Goes u v → Goes s v
  thens s u v p q h = q (p h)

  -- a CPU changes in what isn't told
  pub quietly : (cpu : ℕ) (c : Cpu) (s : State) → log_of c ≡ log_of (cpu_of cpu s) → Goes s (with_cpu cpu c s)
  quietly cpu c s same h = stays s.cpus (set s.cpus cpu c) s.flushers s.flushers s.contexts s.contexts (same_at log_of s.cpus cpu c no_cpu same) (λ f. refl) refl (λ k. refl) h

  -- a flusher changes in what isn't measured
  flusher_on : (f : ℕ) (v : Flusher) (s : State) → v.measures ≡ (flusher_of f s).measures → Goes s (with_flusher f v s)
  flusher_on f v s same h = stays s.cpus s.cpus s.flushers (set s.flushers f v) s.contexts s.contexts (λ i. refl) (same_at (λ (x : Flusher). x.measures) s.flushers f v no_flusher same) refl (λ k. refl) h

  context_on : (k : ℕ) (w : Writeback) (s : State) → w.estimate ≡ (writeback_of k s).estimate → Goes s (with_writeback k w s)
  context_on k w s same h =
      stays s.cpus s.cpus s.flushers s.flushers s.contexts (set s.contexts k w) (λ i. refl) (λ f. refl) (length-set s.contexts k w) (same_at (λ (x : Writeback). x.estimate) s.contexts k w no_context same) h

  -- one entry that is neither a check nor an estimate
  logs : (cpu : ℕ) (e : Entry) (tale : Told) (s : State) → cpu < length s.cpus → is_name e ≡ false → told_entry (cpu_of cpu s).checks (cpu_of cpu s).estimates e ≡ tale ∷ []
      → is_check tale ≡ false → ((k : ℕ) → estimate_in k tale ≡ []) → Goes s (log_at cpu e s)
  logs cpu e tale s there none is no_check no_estimate h =
      estimated_other trace s.cpus s.flushers s.contexts h cpu (logged e (cpu_of cpu s)) tale there
      (told_logged e (cpu_of cpu s) ∙ ap (λ (l : List Told). told_of (cpu_of cpu s) ++ l) is) (order_logged e (cpu_of cpu s) none (h.order cpu)) no_estimate
      (others_name_none cpu tale (known_of s.contexts) (known_of s.contexts) no_check (λ k. omega arith)) (λ each. each)

  pub folds : (cpu : ℕ) (x : Counter) (s : State) → cpu < length s.cpus → Goes s (fold cpu x s)
  folds cpu (ofDomain d) s there h =
      logs cpu (entry.Folded (record { counter = ofDomain d; version = (count_of (ofDomain d) s).version + 1; delta = own_of (ofDomain d) (cpu_of cpu s) })) (folded_told _) s there refl refl refl (λ k. refl) h
  folds cpu (ofContext k) s there h =
      let n : Count = counted (own_of (ofContext k) (cpu_of cpu s)) (count_of (ofContext k) s) in
      let u : State = with_writeback k (record (writeback_of k s) { count = n }) s in
      logs cpu (entry.Folded (record { counter = ofContext k; version = (count_of (ofContext k) s).version + 1; delta = own_of (ofContext k) (cpu_of cpu s) })) (folded_told _) u there refl refl refl (λ m. refl)
      (context_on k (record (writeback_of k s) { count = n }) s refl h)

  wrote : (cpu task page : ℕ) (is_fresh : Bool) (s : State) → cpu < length s.cpus → IsTaskOn trace cpu task → Goes s (log_at cpu (entry.Write task page is_fresh) s)
  wrote cpu task page is_fresh s there on = logs cpu (entry.Write task page is_fresh) (wrote_told task page is_fresh) s there refl refl refl (λ k. refl)

  abbrev part : (cpus : List Cpu) (flushers : List Flusher) (contexts : List Writeback) → Type 0
  part cpus flushers contexts = AreEstimated trace cpus flushers contexts

  pub knowns : KnownWrites trace Goes
  knowns = over_known trace (alone part) quietly wrote

  pub freshes : FreshWrites trace Goes
  freshes = over_fresh trace (alone part) quietly wrote

  pub claims : (cpu f : ℕ) (scan : Scan) (s : State) → ScansNow trace cpu f scan s → IsPageOf trace scan.inode (page_of scan) → Goes s (claim_now cpu f scan s)
  claims cpu f scan s now page h =
      let v : Flusher = record (flusher_of f s) { phase = phase.Scanning (record scan { passed = scan.passed + 1 }); batch = (flusher_of f s).batch ++ page_of scan ∷ [] } in
      let u : State = with_flusher f v s in
      let w : State = log_at cpu (entry.Claimed f (page_of scan)) u in
      quietly cpu _ w refl (logs cpu (entry.Claimed f (page_of scan)) (claimed_told f (page_of scan)) u now.there refl refl refl (λ k. refl) (flusher_on f v s refl h))

  pub flies_off : (cpu f : ℕ) (scan : Scan) (until : ℕ) (s : State) → ScansNow trace cpu f scan s → length (flusher_of f s).batch ≢ 0 → Goes s (fly cpu f scan.inode (length (flusher_of f s).batch) until s)
  flies_off cpu f scan until s now some h =
      let n : ℕ = length (flusher_of f s).batch in
      let v : Flusher = record (flusher_of f s) { phase = phase.Flying scan.inode n until } in
      logs cpu (entry.Batch f n s.now until) (batch_told f n s.now until) (with_flusher f v s) now.there refl refl refl (λ k. refl) (flusher_on f v s refl h)

  pub completes : (cpu f inode page : ℕ) (pages : List ℕ) (s : State) → CompletesNow trace cpu f inode page pages s
      → Goes s (complete_page trace cpu f (context_of trace inode) page (with_flusher f (record (flusher_of f s) { batch = pages }) s))
  completes cpu f inode page pages s now h =
      let v : Flusher = record (flusher_of f s) { batch = pages } in
      let u : State = with_flusher f v s in
      quietly cpu _ (log_at cpu (entry.Done f page) u) refl (logs cpu (entry.Done f page) (done_told f page) u now.there refl refl refl (λ k. refl) (flusher_on f v s refl h))

  pub lists : (cpu f : ℕ) (move : WaitMove) (list : Wheel) (s : State) → ListsNow trace cpu f move list s → Goes s (log_at cpu (entry_of f move) (with_waiting f list s))
  lists cpu f move list s now h = by_move move (flusher_on f (record (flusher_of f s) { wheel = Some list }) s refl h)
    where
      by_move : (move : WaitMove) → Goes (with_waiting f list s) (log_at cpu (entry_of f move) (with_waiting f list s))
      by_move (notices inode since) = logs cpu (entry.Noticed f inode since) (noticed_told f inode since) (with_waiting f list s) now.there refl refl refl (λ k. refl)
      by_move (ages inode moment aged_at) = logs cpu (entry.Aged f inode moment aged_at) (aged_told f inode moment aged_at) (with_waiting f list s) now.there refl refl refl (λ k. refl)
      by_move (takes_first inode) = logs cpu (entry.Taken f inode) (took_told f inode) (with_waiting f list s) now.there refl refl refl (λ k. refl)

  pub ends : (cpu task : ℕ) (s : State) → EndsNow trace cpu task s → Goes s (end_now cpu task s)
  ends cpu task s now = quietly cpu _ s refl

  pub shares : (cpu d k n : ℕ) (s : State) → cpu < length s.cpus → Goes s (share_now cpu d k n s)
  shares cpu zero k n s there h =
      let w : Writeback = record (writeback_of k s) { part = added (aged (writeback_of k s).part (domain_of 0 s).events.period) n } in
      logs cpu (entry.Share 0 k n) (share_told 0 k n) (with_writeback k w s) there refl refl refl (λ m. refl) (context_on k w s refl h)
  shares cpu (suc c) k n s there h =
      let w : Writeback = record (writeback_of k s) { cgroup_part = added (aged (writeback_of k s).cgroup_part (domain_of (suc c) s).events.period) n } in
      logs cpu (entry.Share (suc c) k n) (share_told (suc c) k n) (with_writeback k w s) there refl refl refl (λ m. refl) (context_on k w s refl h)

  pub decides : (cpu task : ℕ) (s : State) → DecidesNow trace cpu task s → Goes s (decide_for trace cpu task (task_of task s).context s)
  decides cpu task s now h =
      let k : ℕ = (task_of task s).context in
      let c : Cpu = cpu_of cpu s in
      let check : CheckEntry = check_of trace task k c.turn (decision_at trace k (task_of task s) c.turn s) s in
      estimated_other trace s.cpus s.flushers s.contexts h cpu (checked check c) (check_told check) now.there (told_checked check c (h.order cpu)) (order_checked check c (h.order cpu)) (λ m. refl)
      (check_names_seen cpu check (known_of s.contexts) (known_of s.contexts) (record { no_older = omega arith; seen_now = omega arith; none_falls = λ m. omega arith }))
      (λ each. each_append (IsNamedIn trace s.contexts) c.checks (check ∷ []) each ((now.context_there, omega arith), tt))

  pub estimates : (cpu f k : ℕ) (e : Estimate) (s : State) → EstimatesNow trace cpu f k s → update_of (writeback_of k s).estimate (sample_of trace k (cpu_of cpu s).turn s) ≡ Some e
      → Goes s (estimate_to cpu k (Some e) s)
  estimates cpu f k e s now is h =
      let c : Cpu = cpu_of cpu s in
      let est : EstEntry = record { context = k; estimate = e } in
      let w : Writeback = record (writeback_of k s) { estimate = e } in
      let measured : is_measured k (measures_of trace f) ≡ true = subst (λ (l : List ℕ). is_measured k l ≡ true) (h.measures f now.on.there) now.measured in
      let own : cpu ≡ publisher trace k = sym (publishes trace f k measured ∙ now.on.cpu_is) in
      estimated_next trace s.cpus s.flushers s.contexts h cpu (estimated est c) k e w now.there now.context_there own (told_estimated est c (h.order cpu)) (order_estimated est c (h.order cpu)) refl
      (follows_update (writeback_of k s).estimate e (sample_of trace k (cpu_of cpu s).turn s) is) refl

  -- ---- a move

  module _ (s0 : State) (sound : Sound trace s0) where
    goes_on : Goes s0 (advance trace s0)
    goes_on =
        advance_seen trace Goes hide thens s0 (starts_of trace facts s0 sound)
        (λ orders rotation i below ts x is. steps_seen trace facts Goes hide thens (λ cpu c s told local. quietly cpu c s told) (λ cpu x s there fit. folds cpu x s there) knowns freshes claims flies_off completes lists (λ cpu d k n s there inside known its. shares cpu d k n s there) ends decides estimates s0 sound orders rotation i below ts x is)
        (λ orders rotation i below ts x is. moves_seen trace facts Goes hide thens (λ cpu c s told local. quietly cpu c s told) (λ cpu x s there fit. folds cpu x s there) knowns freshes claims flies_off completes lists (λ cpu d k n s there inside known its. shares cpu d k n s there) ends decides estimates s0 sound orders rotation i below ts x is)
        (see_turn trace facts Goes hide thens (λ cpu c s told local. quietly cpu c s told) (λ cpu x s there fit. folds cpu x s there) knowns freshes claims flies_off completes lists (λ cpu d k n s there inside known its. shares cpu d k n s there) ends decides estimates)
        (λ orders rotation ts x is. over_step trace part s0 orders rotation ts x)
        (λ orders rotation ts x is. over_move trace part s0 orders rotation ts x)
        (λ orders rotation none late h. h)

  -- ---- the opening, and each moment

  pub first_estimates : HasEstimates trace (opening trace)
  unfolding opening
  first_estimates =
      let n : ℕ = length trace.contexts in
      let none : (i k : ℕ) → estimates_on k (get_or (first_cpus trace trace.cpus) i no_cpu) ≡ [] =
      λ i k. numbered_all (first_cpus trace) (first_cpu trace) no_cpu refl (λ j. refl) (λ j c. estimates_on k c ≡ []) (λ j. refl) (λ j. refl) trace.cpus i in
      let first : (k : ℕ) → k < n → estimate_at (first_contexts trace n) k ≡ first_estimate trace k opening_moment =
      λ k less. ap (λ (w : Writeback). w.estimate) (numbered_at (first_contexts trace) (first_context trace) no_context refl (λ j. refl) n k less) in
      record {
        order = numbered_all (first_cpus trace) (first_cpu trace) no_cpu refl (λ j. refl) (λ j c. IsInOrder c) (λ j. (refl, refl)) (λ j. (refl, refl)) trace.cpus;
        places = numbered_length (first_contexts trace) (first_context trace) no_context refl (λ j. refl) n;
        measures = λ f less. ap (λ (v : Flusher). v.measures) (numbered_at (first_flushers trace) (first_flusher trace) no_flusher refl (λ j. refl) (length trace.flushers) f less);
        silent = λ i k other. none i k;
        chain = λ k less.
            subst (λ (l : List Estimate). Walked Follows newer (first_estimate trace k opening_moment) l (estimate_at (first_contexts trace n) k)) (sym (none (publisher trace k) k))
            (record { allowed = tt; reached = sym (first k less) });
        version = λ k less. ap (λ (e : Estimate). e.version) (first k less) ∙ first_version trace k opening_moment ∙ ap (λ (l : List Estimate). length l) (sym (none (publisher trace k) k));
        named = numbered_all (first_cpus trace) (first_cpu trace) no_cpu refl (λ j. refl) (λ j c. Each (IsNamedIn trace (first_contexts trace n)) c.checks) (λ j. tt) (λ j. tt) trace.cpus;
        names = numbered_all (first_cpus trace) (first_cpu trace) no_cpu refl (λ j. refl) (λ j c. HasNames j c (first_contexts trace n)) (λ j. none_named) (λ j. none_named) trace.cpus;
      }
    where
      none_named : Walks HasNamed NamesGoOn names_after known_none [] (known_of (first_contexts trace (length trace.contexts)))
      none_named = walks_silent HasNamed NamesGoOn names_after known_none (known_of (first_contexts trace (length trace.contexts))) [] tt (λ seen has k version low. has k version (omega arith))

  module _ (sound : (moves : ℕ) → Sound trace (state_at trace moves)) where
    pub estimated_at : (moves : ℕ) → HasEstimates trace (state_at trace moves)
    estimated_at zero = subst (HasEstimates trace) (sym (run_none trace 0 (opening trace) refl)) first_estimates
    estimated_at (suc m) = ⊎_elim
        (λ over. subst (HasEstimates trace) (sym (run_stays trace m (suc m) (opening trace) (omega arith) over)) (estimated_at m))
        (λ going. subst (HasEstimates trace) (sym (run_last trace m (suc m) (opening trace) (omega arith) going)) (goes_on (state_at trace m) (sound m) (estimated_at m)))
        (cases_Bool (is_ended (state_at trace m)))

-- ---- the journal

module _ (trace : Trace) (facts : Facts trace) (estimates : HasEstimates trace (last_state trace)) (logs : HasLogs trace (last_state trace)) (seats : length (last_state trace).cpus ≡ trace.cpus) where
  abbrev s : State
  s = last_state trace

  abbrev parts : List (List Told)
  parts = map told (map part_of s.cpus)

  many : length parts ≡ length s.cpus
  many = length-map (map part_of s.cpus) told ∙ length-map s.cpus part_of

  -- all that is told of a context's estimates its publisher tells
  pub all_of : (k : ℕ) → k < length trace.contexts → estimates_of k (joined parts) ≡ estimates_on k (cpu_of (publisher trace k) s)
  all_of k less =
      let p : ℕ = publisher trace k in
      let there : p < length s.cpus = omega (arith, publisher_there k less, seats) in
      only_part (estimate_in k) parts p (omega (arith, there, many))
      (λ c low other.
      let here : c < length s.cpus = omega (arith, low, many) in
      ap (estimates_of k) (part_at s.cpus c here) ∙ estimates.silent c k other)
      ∙ ap (estimates_of k) (part_at s.cpus p there)
    where
      publisher_there : (n : ℕ) → n < length trace.contexts → publisher trace n < trace.cpus
      publisher_there n low =
          let man = facts.manned (context_at trace n).device (facts.context_device n low) in
          let leads = leads_there (context_at trace n).device 0 trace.flushers man.0 man.1 man.2 in
          facts.flusher_cpu_is (leader (context_at trace n).device 0 trace.flushers) (omega (arith, leads))
        where
          leads_there : (device number : ℕ) (lines : List FlusherLine) (f : ℕ) → f < length lines → (get_or lines f (record { device = 0; cpu = 0 })).device ≡ device → leader device number lines < number + length lines
          leads_there device number [] f low2 is = absurd (omega (arith, low2))
          leads_there device number (line ∷ lines) zero low2 is = either (λ (x : ℕ). x < number + length (line ∷ lines)) (eqb line.device device) number (leader device (number + 1) lines) (λ yes. omega arith)
              (λ no. absurd (true≢false (sym (eq-eqb line.device device is) ∙ no)))
          leads_there device number (line ∷ lines) (suc f) low2 is = either (λ (x : ℕ). x < number + length (line ∷ lines)) (eqb line.device device) number (leader device (number + 1) lines) (λ yes. omega arith)
              (λ no. (let rest = leads_there device (number + 1) lines f (omega (arith, low2)) is in omega (arith, rest)))

  named_all : Each (λ (e : Told). IfSome (effect e).estimate (λ (est : EstEntry). nat_lt est.context (contexts trace) ≡ true)) (joined parts)
  named_all =
      each_joined (λ (e : Told). IfSome (effect e).estimate (λ (est : EstEntry). nat_lt est.context (contexts trace) ≡ true)) parts (λ c less.
      let low : c < length s.cpus = omega (arith, less, many) in
      subst (Each (λ (e : Told). IfSome (effect e).estimate (λ (est : EstEntry). nat_lt est.context (contexts trace) ≡ true))) (sym (part_at s.cpus c low))
      (each_weaker (IsTold trace c) (λ (e : Told). IfSome (effect e).estimate (λ (est : EstEntry). nat_lt est.context (contexts trace) ≡ true)) (λ e is. is.0.estimate) (told_of (cpu_of c s)) (logs.own c)))

  no_estimates : (k : ℕ) (es : List Told) → Each (λ (e : Told). IfSome (effect e).estimate (λ (est : EstEntry). nat_lt est.context (contexts trace) ≡ true)) es → length trace.contexts ≤ k → estimates_of k es ≡ []
  no_estimates k [] named past = refl
  no_estimates k (est_told est ∷ es) named past =
      let low : est.context < length trace.contexts = ltb-true est.context (length trace.contexts) named.0 in
      ap (λ (l : List Estimate). l ++ estimates_of k es) (cond-false (eqb est.context k) (est.estimate ∷ []) [] (ne_eqb est.context k (λ e. omega (arith, e, low, past))))
      ∙ no_estimates k es named.1 past
  no_estimates k (other ∷ es) named past = no_estimates k es named.1 past

  pub opened_is : opened_at s.timer.entries ≡ opening_moment
  opened_is =
      let begun = (peaks_at trace most_moves).begun in
      ap opened_at begun.is ∙ opened_first trace (length trace.cgroups) begun.rest

  pub estimates_up : EstimatesAreUp trace (journal_of trace)
  unfolding journal_of
  estimates_up =
      subst (λ (n : ℕ). Along (EstimatesFollow trace n) estimates_after [] (items_from 0 parts)) (sym opened_is)
      (follow_parts trace opening_moment 0 parts [] named_all (λ k. ⊎_elim
      (λ less. subst (λ (l : List Estimate). Along Follows newer (first_estimate trace k opening_moment) l) (sym (all_of k less)) (estimates.chain k less).allowed)
      (λ past. subst (λ (l : List Estimate). Along Follows newer (first_estimate trace k opening_moment) l) (sym (no_estimates k (joined parts) named_all past)) tt)
      (cases_lt k (length trace.contexts))))

  pub named_right : NamesAreOfEstimates trace (journal_of trace)
  unfolding journal_of
  named_right =
      subst (λ (es : List Told). Each (ChecksNameEstimates trace es) (items_from 0 parts)) (sym (told_is (map part_of s.cpus)))
      (each_item (ChecksNameEstimates trace (joined parts)) (λ c. tt) 0 parts
      (each_told trace logs seats (λ c part. Each (λ (e : Told). ChecksNameEstimates trace (joined parts) (tells c e)) part) (λ c low.
      let cpu : Cpu = cpu_of c s in
      each_weaker (OfCheck (NamesEstimate trace (joined parts))) (λ (e : Told). ChecksNameEstimates trace (joined parts) (tells c e)) (λ e is. is) (told_of cpu)
      (told_checks (NamesEstimate trace (joined parts)) cpu.checks cpu.estimates cpu.entries
      (each_weaker (IsNamedIn trace s.contexts) (NamesEstimate trace (joined parts))
      (λ check is.
      let version = estimates.version check.context is.0 in
      let all = ap (λ (l : List Estimate). length l) (all_of check.context is.0) in
      record { named = lt-ltb check.context (length trace.contexts) is.0; within = omega (arith, is.1, version, all) })
      cpu.checks (estimates.named c))))))

  pub names_new : NamesStayNew (journal_of trace)
  unfolding journal_of
  names_new =
      parts_back NamesGoOn names_after [] (λ seen cpu. refl) (λ seen cpu. tt) [] 0 parts
      (each_told trace logs seats (OfPart NamesGoOn names_after []) (λ c low. (estimates.names c).allowed [] (λ k version late. refl)))
