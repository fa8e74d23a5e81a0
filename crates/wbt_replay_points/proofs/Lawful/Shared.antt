-- At each moment of a run the fractions that checks print are of periods that the domain has had, and of no more than was counted in.
use Rattle.std.proofs.Common.{eq-eqb, ◌⊎◌, ◌≡◌, ◌≢◌, ℕ, zero, suc, ◌+◌, ◌<◌, ◌≤◌, Bool, true, false, cond, eqb, ◌&&◌, ◌/◌, ◌^◌, All, List, [], ◌∷◌, ◌++◌, length, map, get_or, Option, Some, None, refl, sym, ◌∙◌, ap, subst, arith, length-append, ⊎_elim}
use Rattle.std.proofs.Math.ListN.{set}
use Rattle.std.proofs.lemmas.Bool.{cases_Bool, cond-true}
use Rattle.std.proofs.lemmas.List.{get_or-set_same, get_or-set_other, length-set}
use mathlib.Core.Logic.{dite}
use native.Mathlib.Decide.{ℕ_discrete}
use Rattle.wbt_replay_order.proofs.Common.{Count, Counter, Estimate, after_period, aged, fraction_of, Half, context_of, group_of, page_of, Scan, Trace, reads_of, cgroup_reads, Each, domains, Told, told_entry, InOrder, told, CheckEntry, DomainLine, Entry, EstEntry, decision_at, check_of, global_line, cgroup_line, decide_for, fold, counted, do_next, logged, log_at, own_of, checked, estimated, estimate_to, complete_page, share_now, make_timer_step, make_timer_move, claim_now, fly, State, no_cpu, cpu_of, with_cpu, task_of, flusher_of, with_flusher, domain_of, with_domain, writeback_of, with_writeback, count_of, no_domain, no_context, with_waiting, with_timer, load, period, period_to, periods, is_time, end_now, Cpu, ReplayTurn, Actor, Stretch, TimerSilent, TimerStep, TimerTodo, Flusher, opening, first_cpu, first_cpus, first_context, first_contexts, first_domain, first_domains, first_entries, first_limits, opening_moment, advance, is_ended, state_at, last_state, part_of, journal_of, IsTaskOn, Facts, IsPageOf, Sound, TimerItemFits, tells, items_from, OfPart, TimerEntry, parts_back, is_check, items_told, Walks, and_both, each_append, each_weaker, each_both, joined, told_is, each_item, walks_silent, Domain, Timer, Writeback, WaitMove, notices, ages, takes_first}
use Rattle.wbt_counter.specs.declared.counter.Counter.TheVariants.{Domain as ofDomain, Context as ofContext}
use Rattle.wbt_flex.specs.Proportions.{added, may_age}
use Rattle.wbt_journal.specs.Told.{checked as check_told, estimated as est_told, claimed as claimed_told, batch as batch_told, done as done_told, wrote as wrote_told, folded as folded_told, share as share_told, noticed as noticed_told, aged as aged_told, took as took_told}
use Rattle.wbt_journal.specs.declared.entry.Entry.TheVariants as entry
use Rattle.wbt_replay_moves.specs.declared.todo.TimerSilent.TheVariants as timer_silent
use Rattle.wbt_replay_moves.specs.declared.todo.TimerStep.TheVariants as timer_step
use Rattle.wbt_replay_moves.specs.declared.todo.Silent.TheVariants as silent
use Rattle.wbt_replay_moves.specs.declared.todo.Todo.TheVariants as todo
use Rattle.wbt_replay_moves.specs.declared.todo.TimerTodo.TheVariants as timer_todo
use Rattle.wbt_replay_order.proofs.Growth.Quiet.{same_at, is_name}
use Rattle.wbt_replay_order.proofs.Growth.Runs.{run_none, run_last, run_stays}
use Rattle.wbt_replay_order.proofs.Facts.Lists.{either}
use Rattle.wbt_replay_order.proofs.Outset.Numbered.{numbered_length, numbered_all}
use Rattle.wbt_replay_points.proofs.Lawful.Plainly.{steps_seen, moves_seen, see_turn}
use Rattle.wbt_replay_points.proofs.Lawful.Now.{DecidesNow, EndsNow, ScansNow, CompletesNow, EstimatesNow, entry_of, ListsNow}
use Rattle.wbt_replay_points.proofs.Lawful.Leaving.{KnownWrites, FreshWrites, over_known, over_fresh}
use Rattle.wbt_replay_points.proofs.Lawful.Logs.{IsInOrder, told_logged, order_logged, told_checked, order_checked, told_estimated, order_estimated, IsTold}
use Rattle.wbt_replay_points.proofs.Lawful.Same.{log_of, told_of, Hidden, noted_of}
use Rattle.wbt_replay_order.proofs.Walk.{turned}
use Rattle.wbt_replay_points.proofs.Lawful.Walk.{advance_seen, starts_of}
use Rattle.std.proofs.lemmas.List.Elements.{All-head}
use Rattle.std.proofs.lemmas.List.Sums.{sum_by-cons, sum_by-append}
use Rattle.std.proofs.lemmas.Nat.{shr_le}
use Rattle.wbt_journal.specs.Lawful.{FractionsAreOfShares, PeriodsStayNew}
use Rattle.wbt_journal.specs.Reads.{added_by, added_to, IsFraction, FractionsAreOfPeriods, PeriodsGoOn, periods_after}
use Rattle.wbt_run_laws.specs.Notes.{KeepsPeriods}
use Rattle.wbt_run_laws.proofs.Entering.{check_reads_kept}
use Rattle.wbt_replay_order.proofs.Growth.Afresh.{told_in}
use Rattle.wbt_replay_points.proofs.Claims.Peaks.{first_domain_of}
use Rattle.wbt_replay_points.proofs.Lawful.Logged.{HasLogs}
use Rattle.wbt_replay_points.proofs.Lawful.Points.{each_told}
use Rattle.wbt_replay_points.proofs.Lawful.Sharing.{last_period, last_limits, added_on, added_all, same_sums, added_more, IsPrinted, IsPrintedIn, kept_none, kept_of, HasRead, AreShared, printed_on, read_on, shared_more, shared_other, shared_limits, shared_periods, printed_line}
use Rattle.wbt_replay_points.proofs.Lawful.Told.{OfCheck, told_checks}
use Rattle.wbt_expiry.specs.Waiting.{Waiting as Wheel}

abbrev pub HasShares : (trace : Trace) (s : State) → Type 0
HasShares trace s = AreShared trace s.cpus s.domains s.contexts s.timer.entries

module _ (trace : Trace) (facts : Facts trace) where
  abbrev Goes : (s u : State) → Type 0
  Goes s u = HasShares trace s → HasShares trace u

  -- the same logs, periods and parts
  stays : (cpus cpus2 : List Cpu) (ds ds2 : List Domain) (ks ks2 : List Writeback) (entries : List TimerEntry) → length cpus2 ≡ length cpus
      → ((i : ℕ) → log_of (get_or cpus2 i no_cpu) ≡ log_of (get_or cpus i no_cpu)) → length ds2 ≡ length ds
      → ((d : ℕ) → (get_or ds2 d no_domain).events ≡ (get_or ds d no_domain).events) → length ks2 ≡ length ks
      → ((k : ℕ) → noted_of (get_or ks2 k no_context) ≡ noted_of (get_or ks k no_context)) → AreShared trace cpus ds ks entries → AreShared trace cpus2 ds2 ks2 entries
  stays cpus cpus2 ds ds2 ks ks2 entries seats logs many events places noted h =
      let same : (d k : ℕ) → added_all d k cpus2 ≡ added_all d k cpus =
      λ d k. same_sums (added_on d k) no_cpu cpus cpus2 seats (λ i. ap (λ (q : List Entry × List CheckEntry × List EstEntry). added_to d k (told_in q.1 q.2 q.0)) (logs i)) in
      record {
        order = λ i. subst (λ (q : List Entry × List CheckEntry × List EstEntry). InOrder (length q.1) (length q.2) 0 0 q.0) (sym (logs i)) (h.order i);
        many = many ∙ h.many;
        places = places ∙ h.places;
        periods_are = λ d less. ap (λ (q : Half). q.period) (events d) ∙ h.periods_are d less;
        part = λ k. (let now = ap (λ (q : Half × Half × Estimate). q.0.events) (noted k) in omega (arith, now, h.part k, same 0 k));
        cgroup_part = λ k. (let now = ap (λ (q : Half × Half × Estimate). q.1.events) (noted k) in omega (arith, now, h.cgroup_part k, same (group_of trace k) k));
        printed = λ i. subst (λ (q : List Entry × List CheckEntry × List EstEntry). Each (IsPrintedIn cpus2 entries) q.1) (sym (logs i))
            (printed_on cpus cpus2 entries entries (λ d k. omega (arith, same d k)) (λ d q had. had) (get_or cpus i no_cpu).checks (h.printed i));
        read = λ i.
            read_on i (get_or cpus2 i no_cpu) ds ds2 (λ d. (let now = ap (λ (q : Half). q.period) (events d) in omega (arith, now)))
            (subst (λ (q : List Entry × List CheckEntry × List EstEntry). Walks KeepsPeriods PeriodsGoOn periods_after kept_none (items_told i (told_in q.1 q.2 q.0)) (kept_of ds)) (sym (logs i)) (h.read i));
      }

  hide : (s u : State) → Hidden s u → Goes s u
  hide s u hidden h =
      let same = hidden.0 in
      subst (λ (t : Timer). AreShared trace u.cpus u.domains u.contexts t.entries) (sym hidden.1)
      (stays s.cpus u.cpus s.domains u.domains s.contexts u.contexts s.timer.entries same.seats same.parts same.many same.events same.places same.noted h)

  thens : (s u v : State) → Goes s u → Goes u v → Goes s v
  thens s u v p q h = q (p h)

  -- a CPU changes in what isn't told
  quietly : (cpu : ℕ) (c : Cpu) (s : State) → log_of c ≡ log_of (cpu_of cpu s) → Goes s (with_cpu cpu c s)
  quietly cpu c s same h =
      stays s.cpus (set s.cpus cpu c) s.domains s.domains s.contexts s.contexts s.timer.entries (length-set s.cpus cpu c) (same_at log_of s.cpus cpu c no_cpu same) refl (λ d. refl) refl (λ k. refl) h

  -- one entry that is no check
  logs : (cpu : ℕ) (e : Entry) (tale : Told) (s : State) → cpu < length s.cpus → is_name e ≡ false → told_entry (cpu_of cpu s).checks (cpu_of cpu s).estimates e ≡ tale ∷ []
      → is_check tale ≡ false → Goes s (log_at cpu e s)
  logs cpu e tale s there none is no_check h =
      shared_other trace s.cpus s.domains s.contexts s.timer.entries h cpu (logged e (cpu_of cpu s)) tale there
      (told_logged e (cpu_of cpu s) ∙ ap (λ (l : List Told). told_of (cpu_of cpu s) ++ l) is) (order_logged e (cpu_of cpu s) none (h.order cpu)) no_check refl

  folds : (cpu : ℕ) (x : Counter) (s : State) → cpu < length s.cpus → Goes s (fold cpu x s)
  folds cpu (ofDomain d) s there h =
      let n : Count = counted (own_of (ofDomain d) (cpu_of cpu s)) (count_of (ofDomain d) s) in
      let u : State = with_domain d (record (domain_of d s) { count = n }) s in
      logs cpu (entry.Folded (record { counter = ofDomain d; version = (count_of (ofDomain d) s).version + 1; delta = own_of (ofDomain d) (cpu_of cpu s) })) (folded_told _) u there refl refl refl
      (stays s.cpus s.cpus s.domains u.domains s.contexts s.contexts s.timer.entries refl (λ i. refl) (length-set s.domains d _) (same_at (λ (q : Domain). q.events) s.domains d (record (domain_of d s) { count = n }) no_domain refl) refl (λ k. refl) h)
  folds cpu (ofContext k) s there h =
      let n : Count = counted (own_of (ofContext k) (cpu_of cpu s)) (count_of (ofContext k) s) in
      let u : State = with_writeback k (record (writeback_of k s) { count = n }) s in
      logs cpu (entry.Folded (record { counter = ofContext k; version = (count_of (ofContext k) s).version + 1; delta = own_of (ofContext k) (cpu_of cpu s) })) (folded_told _) u there refl refl refl
      (stays s.cpus s.cpus s.domains s.domains s.contexts u.contexts s.timer.entries refl (λ i. refl) refl (λ d. refl) (length-set s.contexts k _) (same_at noted_of s.contexts k (record (writeback_of k s) { count = n }) no_context refl) h)

  wrote : (cpu task page : ℕ) (is_fresh : Bool) (s : State) → cpu < length s.cpus → IsTaskOn trace cpu task → Goes s (log_at cpu (entry.Write task page is_fresh) s)
  wrote cpu task page is_fresh s there on = logs cpu (entry.Write task page is_fresh) (wrote_told task page is_fresh) s there refl refl refl

  abbrev part : (cpus : List Cpu) (flushers : List Flusher) (domains : List Domain) (contexts : List Writeback) (entries : List TimerEntry) → Type 0
  part cpus flushers domains contexts entries = AreShared trace cpus domains contexts entries

  knowns : KnownWrites trace Goes
  knowns = over_known trace part quietly wrote

  freshes : FreshWrites trace Goes
  freshes = over_fresh trace part quietly wrote

  claims : (cpu f : ℕ) (scan : Scan) (s : State) → ScansNow trace cpu f scan s → IsPageOf trace scan.inode (page_of scan) → Goes s (claim_now cpu f scan s)
  claims cpu f scan s now page h =
      let w : State = log_at cpu (entry.Claimed f (page_of scan)) s in
      quietly cpu (do_next (todo.Silent silent.Close ∷ []) (cpu_of cpu w)) w refl (logs cpu (entry.Claimed f (page_of scan)) (claimed_told f (page_of scan)) s now.there refl refl refl h)

  flies_off : (cpu f : ℕ) (scan : Scan) (until : ℕ) (s : State) → ScansNow trace cpu f scan s → length (flusher_of f s).batch ≢ 0 → Goes s (fly cpu f scan.inode (length (flusher_of f s).batch) until s)
  flies_off cpu f scan until s now some = logs cpu (entry.Batch f (length (flusher_of f s).batch) s.now until) (batch_told f (length (flusher_of f s).batch) s.now until) s now.there refl refl refl

  completes : (cpu f inode page : ℕ) (pages : List ℕ) (s : State) → CompletesNow trace cpu f inode page pages s
      → Goes s (complete_page trace cpu f (context_of trace inode) page (with_flusher f (record (flusher_of f s) { batch = pages }) s))
  completes cpu f inode page pages s now h =
      quietly cpu _ (log_at cpu (entry.Done f page) s) refl (logs cpu (entry.Done f page) (done_told f page) s now.there refl refl refl h)

  lists : (cpu f : ℕ) (move : WaitMove) (list : Wheel) (s : State) → ListsNow trace cpu f move list s → Goes s (log_at cpu (entry_of f move) (with_waiting f list s))
  lists cpu f (notices inode since) list s now = logs cpu (entry.Noticed f inode since) (noticed_told f inode since) s now.there refl refl refl
  lists cpu f (ages inode moment aged_at) list s now = logs cpu (entry.Aged f inode moment aged_at) (aged_told f inode moment aged_at) s now.there refl refl refl
  lists cpu f (takes_first inode) list s now = logs cpu (entry.Taken f inode) (took_told f inode) s now.there refl refl refl

  ends : (cpu task : ℕ) (s : State) → EndsNow trace cpu task s → Goes s (end_now cpu task s)
  ends cpu task s now = quietly cpu _ s refl

  estimates : (cpu f k : ℕ) (e : Estimate) (s : State) → EstimatesNow trace cpu f k s → Goes s (estimate_to cpu k (Some e) s)
  estimates cpu f k e s now h =
      let c : Cpu = cpu_of cpu s in
      let est : EstEntry = record { context = k; estimate = e } in
      let w : Writeback = record (writeback_of k s) { estimate = e } in
      let h2 = shared_other trace s.cpus s.domains s.contexts s.timer.entries h cpu (estimated est c) (est_told est) now.there (told_estimated est c (h.order cpu)) (order_estimated est c (h.order cpu)) refl refl in
      record {
        order = h2.order;
        many = h2.many;
        places = length-set s.contexts k w ∙ h2.places;
        periods_are = h2.periods_are;
        part = λ n. (let now_is = ap (λ (q : Half). q.events) (same_at (λ (x : Writeback). x.part) s.contexts k w no_context refl n) in omega (arith, now_is, h2.part n));
        cgroup_part = λ n. (let now_is = ap (λ (q : Half). q.events) (same_at (λ (x : Writeback). x.cgroup_part) s.contexts k w no_context refl n) in omega (arith, now_is, h2.cgroup_part n));
        printed = h2.printed;
        read = h2.read;
      }

  -- ---- shares

  share_by : (d k n : ℕ) → added_by d k (share_told d k n) ≡ n
  share_by d k n = cond-true (eqb d d && eqb k k) n 0 (and_both (eqb d d) (eqb k k) (eq-eqb d d refl) (eq-eqb k k refl))

  -- a part and its domain get the batch: where the parts have no more than was counted in then
  with_batch : (cpu d k n : ℕ) (w : Writeback) (s : State) → cpu < length s.cpus → HasShares trace s
      → ((m : ℕ) → (get_or (set s.contexts k w) m no_context).part.events ≤ added_all 0 m (set s.cpus cpu (logged (entry.Share d k n) (cpu_of cpu s))))
      → ((m : ℕ) → (get_or (set s.contexts k w) m no_context).cgroup_part.events ≤ added_all (group_of trace m) m (set s.cpus cpu (logged (entry.Share d k n) (cpu_of cpu s))))
      → AreShared trace (set s.cpus cpu (logged (entry.Share d k n) (cpu_of cpu s))) (set s.domains d (record (domain_of d s) { events = added (domain_of d s).events n })) (set s.contexts k w) s.timer.entries
  with_batch cpu d k n w s there h part cgroup_part =
      let e : Entry = entry.Share d k n in
      let v : Domain = record (domain_of d s) { events = added (domain_of d s).events n } in
      let stay : (b : ℕ) → (get_or (set s.domains d v) b no_domain).events.period ≡ (get_or s.domains b no_domain).events.period =
      same_at (λ (q : Domain). q.events.period) s.domains d v no_domain refl in
      let h2 = shared_other trace s.cpus s.domains s.contexts s.timer.entries h cpu (logged e (cpu_of cpu s)) (share_told d k n) there (told_logged e (cpu_of cpu s)) (order_logged e (cpu_of cpu s) refl (h.order cpu)) refl refl in
      record {
        order = h2.order;
        many = length-set s.domains d v ∙ h2.many;
        places = length-set s.contexts k w ∙ h2.places;
        periods_are = λ b less. stay b ∙ h2.periods_are b less;
        part = part;
        cgroup_part = cgroup_part;
        printed = h2.printed;
        read = λ i. read_on i (get_or (set s.cpus cpu (logged e (cpu_of cpu s))) i no_cpu) s.domains (set s.domains d v) (λ b. (let same = stay b in omega (arith, same))) (h2.read i);
      }

  grown : (cpu d k n : ℕ) (s : State) → cpu < length s.cpus → (b m : ℕ)
      → added_all b m (set s.cpus cpu (logged (entry.Share d k n) (cpu_of cpu s))) ≡ added_all b m s.cpus + added_by b m (share_told d k n)
  grown cpu d k n s there b m = added_more b m s.cpus cpu (logged (entry.Share d k n) (cpu_of cpu s)) (share_told d k n) there (told_logged (entry.Share d k n) (cpu_of cpu s))

  shares : (cpu d k n : ℕ) (s : State) → cpu < length s.cpus → d < domains trace → k < length trace.contexts → (d ≡ 0) ⊎ (d ≡ group_of trace k) → Goes s (share_now cpu d k n s)
  shares cpu zero k n s there inside known its h =
      let w0 : Writeback = writeback_of k s in
      let period : ℕ = (domain_of 0 s).events.period in
      let w : Writeback = record w0 { part = added (aged w0.part period) n } in
      let place : k < length s.contexts = omega (arith, known, h.places) in
      with_batch cpu 0 k n w s there h
      (λ m. dite (ℕ_discrete m k)
      (λ same.
      let now : (get_or (set s.contexts k w) m no_context).part.events ≡ (aged w0.part period).events + n =
      ap (λ (b : ℕ). (get_or (set s.contexts k w) b no_context).part.events) same ∙ ap (λ (x : Writeback). x.part.events) (get_or-set_same s.contexts k w no_context place) in
      let small : (aged w0.part period).events ≤ w0.part.events = shr_le w0.part.events _ in
      let more = grown cpu 0 k n s there 0 k in
      let own = share_by 0 k n in
      let total : added_all 0 m (set s.cpus cpu (logged (entry.Share 0 k n) (cpu_of cpu s))) ≡ added_all 0 k (set s.cpus cpu (logged (entry.Share 0 k n) (cpu_of cpu s))) =
      ap (λ (b : ℕ). added_all 0 b (set s.cpus cpu (logged (entry.Share 0 k n) (cpu_of cpu s)))) same in
      omega (arith, now, small, more, own, total, h.part k))
      (λ apart.
      let now = ap (λ (x : Writeback). x.part.events) (get_or-set_other s.contexts k m w no_context apart) in
      let more = grown cpu 0 k n s there 0 m in omega (arith, now, more, h.part m)))
      (λ m.
      let now = ap (λ (q : Half). q.events) (same_at (λ (x : Writeback). x.cgroup_part) s.contexts k w no_context refl m) in
      let more = grown cpu 0 k n s there (group_of trace m) m in omega (arith, now, more, h.cgroup_part m))
  shares cpu (suc c) k n s there inside known its h =
      let d : ℕ = suc c in
      let group : d ≡ group_of trace k = ⊎_elim (λ none. absurd (omega (arith, none))) (λ is. is) its in
      let w0 : Writeback = writeback_of k s in
      let period : ℕ = (domain_of d s).events.period in
      let w : Writeback = record w0 { cgroup_part = added (aged w0.cgroup_part period) n } in
      let place : k < length s.contexts = omega (arith, known, h.places) in
      with_batch cpu d k n w s there h
      (λ m.
      let now = ap (λ (q : Half). q.events) (same_at (λ (x : Writeback). x.part) s.contexts k w no_context refl m) in
      let more = grown cpu d k n s there 0 m in omega (arith, now, more, h.part m))
      (λ m. dite (ℕ_discrete m k)
      (λ same.
      let now : (get_or (set s.contexts k w) m no_context).cgroup_part.events ≡ (aged w0.cgroup_part period).events + n =
      ap (λ (b : ℕ). (get_or (set s.contexts k w) b no_context).cgroup_part.events) same ∙ ap (λ (x : Writeback). x.cgroup_part.events) (get_or-set_same s.contexts k w no_context place) in
      let small : (aged w0.cgroup_part period).events ≤ w0.cgroup_part.events = shr_le w0.cgroup_part.events _ in
      let more = grown cpu d k n s there d k in
      let own = share_by d k n in
      let few : w0.cgroup_part.events ≤ added_all d k s.cpus = subst (λ (b : ℕ). w0.cgroup_part.events ≤ added_all b k s.cpus) (sym group) (h.cgroup_part k) in
      let total : added_all (group_of trace m) m (set s.cpus cpu (logged (entry.Share d k n) (cpu_of cpu s))) ≡ added_all d k (set s.cpus cpu (logged (entry.Share d k n) (cpu_of cpu s))) =
      ap (λ (b : ℕ). added_all (group_of trace b) b (set s.cpus cpu (logged (entry.Share d k n) (cpu_of cpu s)))) same
      ∙ ap (λ (b : ℕ). added_all b k (set s.cpus cpu (logged (entry.Share d k n) (cpu_of cpu s)))) (sym group) in
      omega (arith, now, small, more, own, total, few))
      (λ apart.
      let now = ap (λ (x : Writeback). x.cgroup_part.events) (get_or-set_other s.contexts k m w no_context apart) in
      let more = grown cpu d k n s there (group_of trace m) m in omega (arith, now, more, h.cgroup_part m)))

  -- ---- checks

  each_line : (P : DomainLine → Type 0) (group context : ℕ) (turn : ReplayTurn) (s : State) → P (global_line context turn s)
      → ((c : ℕ) → group ≡ suc c → P (record { domain = suc c; triple = turn.cgroup.version; limits = turn.cgroup.limits; count = turn.cgroup.count; share = fraction_of (writeback_of context s).cgroup_part (domain_of (suc c) s).events }))
      → Each P (global_line context turn s ∷ cgroup_reads (cgroup_line group context turn s))
  each_line P zero context turn s global cgroup = (global, tt)
  each_line P (suc c) context turn s global cgroup = (global, (cgroup c refl, tt))

  decides : (cpu task : ℕ) (s : State) → DecidesNow trace cpu task s → Goes s (decide_for trace cpu task (task_of task s).context s)
  decides cpu task s now h =
      let k : ℕ = (task_of task s).context in
      let c : Cpu = cpu_of cpu s in
      let g : ℕ = group_of trace k in
      let check : CheckEntry = check_of trace task k c.turn (decision_at trace k (task_of task s) c.turn s) s in
      let inside : g < domains trace = omega (arith, facts.context_group k now.context_there) in
      let cpus2 : List Cpu = set s.cpus cpu (checked check c) in
      let more : (d m : ℕ) → added_all d m s.cpus ≤ added_all d m cpus2 =
      λ d m. (let grows = added_more d m s.cpus cpu (checked check c) (check_told check) now.there (told_checked check c (h.order cpu)) in omega (arith, grows)) in
      let reads : Each (IsPrinted cpus2 s.timer.entries k) (reads_of check) =
      each_line (IsPrinted cpus2 s.timer.entries k) g k c.turn s
      (printed_line trace s.cpus s.domains s.contexts s.timer.entries h 0 k (writeback_of k s).part (global_line k c.turn s) cpus2 (omega arith) refl refl (h.part k) (more 0 k))
      (λ b is. printed_line trace s.cpus s.domains s.contexts s.timer.entries h (suc b) k (writeback_of k s).cgroup_part _ cpus2 (omega (arith, inside, is)) refl refl
      (subst (λ (n : ℕ). (writeback_of k s).cgroup_part.events ≤ added_all n k s.cpus) is (h.cgroup_part k)) (more (suc b) k)) in
      let kept : Each (λ (read : DomainLine). read.share.period ≡ (kept_of s.domains read.domain k).period) (reads_of check) =
      each_line (λ (read : DomainLine). read.share.period ≡ (kept_of s.domains read.domain k).period) g k c.turn s refl (λ b is. refl) in
      shared_more trace s.cpus s.domains s.contexts s.timer.entries h cpu (checked check c) (check_told check) now.there (told_checked check c (h.order cpu)) (order_checked check c (h.order cpu))
      (check_reads_kept cpu check (kept_of s.domains) (kept_of s.domains)
      (record {
        no_earlier = each_weaker (λ (read : DomainLine). read.share.period ≡ (kept_of s.domains read.domain k).period) (λ (read : DomainLine). (kept_of s.domains read.domain k).period ≤ read.share.period) (λ read is. omega (arith, is)) (reads_of check) kept;
        kept_now = each_weaker (λ (read : DomainLine). read.share.period ≡ (kept_of s.domains read.domain k).period) (λ (read : DomainLine). read.share.period ≤ (kept_of s.domains read.domain k).period) (λ read is. omega (arith, is)) (reads_of check) kept;
        none_falls = λ d m. omega arith;
      }))
      (λ each. each_append (IsPrintedIn cpus2 s.timer.entries) c.checks (check ∷ []) each (reads, tt))

  -- ---- a move

  module _ (s0 : State) (sound : Sound trace s0) where
    module _ (orders : List Stretch) (rotation : Option Actor) (ts : List TimerTodo) where
      abbrev m : State
      m = with_timer (record s0.timer { todo = ts }) (turned orders rotation s0)

      loads : (d : ℕ) → Goes s0 (load trace d m)
      loads zero h = h
      loads (suc c) h = h

      -- a domain changes, but not its proportions
      domain_stays : (d : ℕ) (v : Domain) (entries : List TimerEntry) → v.events ≡ (domain_of d s0).events → AreShared trace s0.cpus s0.domains s0.contexts entries → AreShared trace s0.cpus (set s0.domains d v) s0.contexts entries
      domain_stays d v entries same h =
          stays s0.cpus s0.cpus s0.domains (set s0.domains d v) s0.contexts s0.contexts entries refl (λ i. refl) (length-set s0.domains d v) (same_at (λ (q : Domain). q.events) s0.domains d v no_domain same) refl (λ k. refl) h

      times : (x : TimerStep) → Goes s0 (make_timer_step trace x m)
      unfolding make_timer_step
      times (timer_step.Count d) h = loads d h
      times (timer_step.Peak d) h = domain_stays d _ s0.timer.entries refl h
      times (timer_step.Unseal d) h = domain_stays d _ s0.timer.entries refl h
      times (timer_step.Thresh d) h = h
      times (timer_step.Publish d) h = domain_stays d _ _ refl (shared_limits trace s0.cpus s0.domains s0.contexts s0.timer.entries h d s0.timer.began s0.timer.limits)

      period_is : (global : Half) (k : ℕ) (e : Half) → after_period global k ≡ Some e → e.period ≡ global.period + k
      period_is global k e is = by_test (may_age global.events global.period k) is
        where
          by_test : (b : Bool) → cond b (Some (record { period = global.period + k; events = global.events / 2 ^ k })) None ≡ Some e → e.period ≡ global.period + k
          by_test true same = ap (λ (o : Option Half). period_in o) (sym same)
            where
              period_in : (o : Option Half) → ℕ
              period_in None = 0
              period_in (Some x) = x.period
          by_test false same = absurd (cc same)

      of_period : (d : ℕ) → d < domains trace → Goes s0 (period d m)
      of_period d less h =
          either (HasShares trace) (is_time m.timer) (period_to d (periods m.timer) (after_period (domain_of d m).events (periods m.timer)) m) m
          (λ time. by_found (after_period (domain_of d m).events (periods m.timer)) refl) (λ early. h)
        where
          by_found : (found : Option Half) → after_period (domain_of d s0).events (periods m.timer) ≡ found → HasShares trace (period_to d (periods m.timer) found m)
          by_found None is = h
          by_found (Some e) is =
              shared_periods trace s0.cpus s0.domains s0.contexts s0.timer.entries h d (periods m.timer) (record (domain_of d s0) { events = e }) less (period_is (domain_of d s0).events (periods m.timer) e is)

      passes : (x : TimerSilent) → s0.timer.todo ≡ timer_todo.Silent x ∷ ts → Goes s0 (make_timer_move x m)
      unfolding make_timer_move
      passes (timer_silent.Period d) is h = of_period d (All-head (TimerItemFits trace) (timer_todo.Silent (timer_silent.Period d)) ts (subst (All (TimerItemFits trace)) is sound.holds.timer.todo)) h
      passes timer_silent.Rest is h = h

    goes_on : Goes s0 (advance trace s0)
    goes_on =
        advance_seen trace Goes hide thens s0 (starts_of trace facts s0 sound)
        (λ orders rotation i below ts x is. steps_seen trace facts Goes hide thens (λ cpu c s told local. quietly cpu c s told) (λ cpu x s there fit. folds cpu x s there) knowns freshes claims flies_off completes lists shares ends decides (λ cpu f k e s now is. estimates cpu f k e s now) s0 sound orders rotation i below ts x is)
        (λ orders rotation i below ts x is. moves_seen trace facts Goes hide thens (λ cpu c s told local. quietly cpu c s told) (λ cpu x s there fit. folds cpu x s there) knowns freshes claims flies_off completes lists shares ends decides (λ cpu f k e s now is. estimates cpu f k e s now) s0 sound orders rotation i below ts x is)
        (see_turn trace facts Goes hide thens (λ cpu c s told local. quietly cpu c s told) (λ cpu x s there fit. folds cpu x s there) knowns freshes claims flies_off completes lists shares ends decides (λ cpu f k e s now is. estimates cpu f k e s now))
        (λ orders rotation ts x is. times orders rotation ts x)
        (λ orders rotation ts x is. passes orders rotation ts x is)
        (λ orders rotation none late h. h)

  -- ---- the opening, and each moment

  no_periods : (n d : ℕ) → last_period d 0 (first_entries trace n) ≡ 0
  no_periods zero d = refl
  no_periods (suc n) d = last_limits d 0 (first_entries trace n) n opening_moment (first_limits trace n) ∙ no_periods n d

  many_first : (n : ℕ) → length (first_domains trace n) ≡ n
  many_first zero = refl
  many_first (suc n) = omega (arith, length-append (first_domains trace n) (first_domain (first_limits trace n) ∷ []), many_first n)

  first_shares : HasShares trace (opening trace)
  unfolding opening
  first_shares =
      let n : ℕ = length trace.contexts in
      record {
        order = numbered_all (first_cpus trace) (first_cpu trace) no_cpu refl (λ j. refl) (λ j c. IsInOrder c) (λ j. (refl, refl)) (λ j. (refl, refl)) trace.cpus;
        many = many_first (domains trace);
        places = numbered_length (first_contexts trace) (first_context trace) no_context refl (λ j. refl) n;
        periods_are = λ d less. ap (λ (q : Domain). q.events.period) (first_domain_of trace (domains trace) d less) ∙ sym (no_periods (domains trace) d);
        part = numbered_all (first_contexts trace) (first_context trace) no_context refl (λ j. refl) (λ k w. w.part.events ≤ added_all 0 k (first_cpus trace trace.cpus)) (λ k. omega arith) (λ k. omega arith) n;
        cgroup_part = numbered_all (first_contexts trace) (first_context trace) no_context refl (λ j. refl) (λ k w. w.cgroup_part.events ≤ added_all (group_of trace k) k (first_cpus trace trace.cpus)) (λ k. omega arith) (λ k. omega arith) n;
        printed = numbered_all (first_cpus trace) (first_cpu trace) no_cpu refl (λ j. refl) (λ j c. Each (IsPrintedIn (first_cpus trace trace.cpus) (first_entries trace (domains trace))) c.checks) (λ j. tt) (λ j. tt) trace.cpus;
        read = numbered_all (first_cpus trace) (first_cpu trace) no_cpu refl (λ j. refl) (λ j c. HasRead j c (first_domains trace (domains trace)))
            (λ j. none_read j) (λ j. none_read j) trace.cpus;
      }
    where
      none_read : (j : ℕ) → Walks KeepsPeriods PeriodsGoOn periods_after kept_none [] (kept_of (first_domains trace (domains trace)))
      none_read j = walks_silent KeepsPeriods PeriodsGoOn periods_after kept_none (kept_of (first_domains trace (domains trace))) [] tt (λ seen keeps d k period low. keeps d k period (omega arith))

  module _ (sound : (moves : ℕ) → Sound trace (state_at trace moves)) where
    pub shared_at : (moves : ℕ) → HasShares trace (state_at trace moves)
    shared_at zero = subst (HasShares trace) (sym (run_none trace 0 (opening trace) refl)) first_shares
    shared_at (suc m) = ⊎_elim
        (λ over. subst (HasShares trace) (sym (run_stays trace m (suc m) (opening trace) (omega arith) over)) (shared_at m))
        (λ going. subst (HasShares trace) (sym (run_last trace m (suc m) (opening trace) (omega arith) going)) (goes_on (state_at trace m) (sound m) (shared_at m)))
        (cases_Bool (is_ended (state_at trace m)))

-- ---- the journal

fraction_is : (trace : Trace) (entries : List TimerEntry) (s : State) (context : ℕ) (read : DomainLine) → IsPrinted s.cpus entries context read → IsFraction entries (joined (map told (map part_of s.cpus))) context read
fraction_is trace entries s context read is = record {
  some_whole = is.some_whole;
  at_most_whole = is.at_most_whole;
  of_period = is.of_period;
  of_added = subst (λ (n : ℕ). read.share.num ≤ n) (sym (added_joined read.domain context s.cpus)) is.of_added;
}
  where
    added_joined : (d k : ℕ) (cpus : List Cpu) → added_to d k (joined (map told (map part_of cpus))) ≡ added_all d k cpus
    added_joined d k [] = refl
    added_joined d k (c ∷ cpus) =
        let rest = added_joined d k cpus in
        omega (arith, rest, sum_by-append (added_by d k) (told (part_of c)) (joined (map told (map part_of cpus))), sum_by-cons (added_on d k) c cpus)

module _ (trace : Trace) (shares : HasShares trace (last_state trace)) (logs : HasLogs trace (last_state trace)) (seats : length (last_state trace).cpus ≡ trace.cpus) where
  abbrev s : State
  s = last_state trace

  fractions_in : (c : ℕ) → Each (λ (e : Told). FractionsAreOfPeriods trace s.timer.entries (joined (map told (map part_of s.cpus))) (tells c e)) (told_of (cpu_of c s))
  fractions_in c =
      let cpu : Cpu = cpu_of c s in
      let all : List Told = joined (map told (map part_of s.cpus)) in
      let fraction = λ (check : CheckEntry). Each (IsFraction s.timer.entries all check.context) (reads_of check) in
      let checks = told_checks fraction cpu.checks cpu.estimates cpu.entries
      (each_weaker (IsPrintedIn s.cpus s.timer.entries) fraction
      (λ check each. each_weaker (IsPrinted s.cpus s.timer.entries check.context) (IsFraction s.timer.entries all check.context) (fraction_is trace s.timer.entries s check.context) (reads_of check) each) cpu.checks (shares.printed c)) in
      each_weaker (λ (e : Told). OfCheck fraction e × IsTold trace c e) (λ (e : Told). FractionsAreOfPeriods trace s.timer.entries all (tells c e))
      (λ e both. record { check = both.0; share = both.1.0.share }) (told_of cpu)
      (each_both (OfCheck fraction) (IsTold trace c) (told_of cpu) checks (logs.own c))

  pub fractions_right : FractionsAreOfShares trace (journal_of trace)
  unfolding journal_of
  fractions_right =
      subst (λ (es : List Told). Each (FractionsAreOfPeriods trace s.timer.entries es) (items_from 0 (map told (map part_of s.cpus)))) (sym (told_is (map part_of s.cpus)))
      (each_item (FractionsAreOfPeriods trace s.timer.entries (joined (map told (map part_of s.cpus)))) (λ c. tt) 0 (map told (map part_of s.cpus))
      (each_told trace logs seats (λ c part. Each (λ (e : Told). FractionsAreOfPeriods trace s.timer.entries (joined (map told (map part_of s.cpus))) (tells c e)) part) (λ c low. fractions_in c)))

  pub periods_new : PeriodsStayNew (journal_of trace)
  unfolding journal_of
  periods_new =
      parts_back PeriodsGoOn periods_after [] (λ seen cpu. refl) (λ seen cpu. tt) [] 0 (map told (map part_of s.cpus))
      (each_told trace logs seats (OfPart PeriodsGoOn periods_after []) (λ c low. (shares.read c).allowed [] (λ d k period late. refl)))
