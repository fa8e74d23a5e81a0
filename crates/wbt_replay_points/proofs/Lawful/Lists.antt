-- At each moment of a run the notices and the takes that a CPU tells of a flusher lead to the list that the flusher has.
use Rattle.std.proofs.Common.{◌≡◌, ◌≢◌, ℕ, zero, suc, ◌+◌, ◌<◌, Bool, true, false, cond, eqb, List, [], ◌∷◌, ◌++◌, length, map, get_or, is_some, Option, Some, None, IfSome, refl, sym, ◌∙◌, ap, subst, arith, ⊎_elim, eq-eqb, ne_eqb, true≢false}
use Rattle.std.proofs.Math.ListN.{set}
use Rattle.std.proofs.lemmas.Bool.{cases_Bool, cond-true, cond-false}
use Rattle.std.proofs.lemmas.List.{get_or-set_same, get_or-set_other, length-map}
use mathlib.Core.Logic.{dite}
use native.Mathlib.Decide.{ℕ_discrete}
use Rattle.wbt_replay_order.proofs.Common.{Counter, Estimate, is_ageing, context_of, flusher_cpu, flusher_device, page_of, Scan, Trace, Each, WaitMove, notices, ages, takes_first, effect, of_part, is_own_flusher, tells, OfPart, WaitsAreOwn, Told, told, told_entry, Along, CheckEntry, Entry, EstEntry, parts_back, IsOwn, each_weaker, each_item, walked_more, decision_at, check_of, decide_for, counted, fold, logged, log_at, own_of, checked, estimated, estimate_to, complete_page, share_now, claim_now, fly, State, no_cpu, no_flusher, cpu_of, with_cpu, task_of, flusher_of, with_flusher, waiting_of, with_waiting, count_of, with_count, end_now, Cpu, Flusher, Writeback, opening, first_cpu, first_cpus, first_flusher, first_flushers, advance, is_ended, part_of, state_at, last_state, journal_of, IsTaskOn, Facts, IsPageOf, IsFlusherOn, Sound, pairs_in, AgedWereDue}
use Rattle.wbt_counter.specs.declared.counter.Counter.TheVariants.{Domain as ofDomain, Context as ofContext}
use Rattle.wbt_expiry.specs.Waiting.{Waiting as Wheel}
use Rattle.wbt_expiry.specs.declared.due.Due.{Due}
use Rattle.wbt_journal.specs.Effects.{Effect, Wait, of_wait}
use Rattle.wbt_journal.specs.Lawful.{WaitsAreInOrder}
use Rattle.wbt_journal.specs.Told.{wrote as wrote_told, folded as folded_told, checked as check_told, estimated as est_told, claimed as claimed_told, batch as batch_told, done as done_told, share as share_told, noticed as noticed_told, aged as aged_told, took as took_told}
use Rattle.wbt_journal.specs.Waits.{MayWait, waited, without_first, first_lists, Waits, WaitsOnOwn, lists_after}
use Rattle.wbt_journal.specs.declared.entry.Entry.TheVariants as entry
use Rattle.wbt_run_laws.specs.Waits.{list_after, WaitsInTurn, Waited}
use Rattle.wbt_run_laws.proofs.Effects.{if_weaker}
use Rattle.wbt_run_laws.proofs.Waiting.{all_wait, first_list}
use Rattle.wbt_replay_moves.specs.declared.state.ReplayPhase.TheVariants as phase
use Rattle.wbt_replay_order.proofs.Growth.Quiet.{same_at, is_name}
use Rattle.wbt_replay_order.proofs.Growth.Runs.{run_none, run_last, run_stays}
use Rattle.wbt_replay_order.proofs.Growth.Afresh.{told_in}
use Rattle.wbt_replay_order.proofs.Outset.Numbered.{numbered_all}
use Rattle.wbt_replay_order.proofs.Outset.Wheels.{first_empty, first_ageing}
use Rattle.wbt_replay_points.proofs.Lawful.Logged.{HasLogs}
use Rattle.wbt_replay_points.proofs.Lawful.Leaving.{KnownWrites, FreshWrites, alone, over_known, over_fresh, over_step, over_move}
use Rattle.wbt_replay_points.proofs.Lawful.Logs.{own_flusher, IsInOrder, told_logged, order_logged, told_checked, order_checked, told_estimated, order_estimated}
use Rattle.wbt_replay_points.proofs.Lawful.Now.{DecidesNow, EndsNow, ScansNow, CompletesNow, EstimatesNow, entry_of, Becomes, ListsNow}
use Rattle.wbt_replay_points.proofs.Lawful.Plainly.{steps_seen, moves_seen, see_turn}
use Rattle.wbt_replay_points.proofs.Lawful.Points.{each_told, owns, flusher_on}
use Rattle.wbt_replay_points.proofs.Lawful.Same.{log_of, told_of, listed_of, Hidden}
use Rattle.wbt_replay_points.proofs.Lawful.Walk.{starts_of, advance_seen}
use Rattle.wbt_replay_order.specs.Claims.Ages.{AgedWasDue, and_then}
use Rattle.wbt_replay_points.proofs.Claims.Ages.{part_due}

-- ---- the state of the lists

-- what a CPU tells of a flusher's list leads to the list that it has
abbrev pub IsWaited : (trace : Trace) (f : ℕ) (c : Cpu) (v : Flusher) → Type 0
IsWaited trace f c v = Waited trace f [] (told_of c) (pairs_in v)

pub record AreWaited (trace : Trace) (cpus : List Cpu) (flushers : List Flusher) : Type 0 where
  pub order : (i : ℕ) → IsInOrder (get_or cpus i no_cpu)
  pub waited : (i f : ℕ) → IsFlusherOn trace i f → IsWaited trace f (get_or cpus i no_cpu) (get_or flushers f no_flusher)
  -- a flusher that has a list is one of an ageing device
  pub ageing : (f : ℕ) → is_some (get_or flushers f no_flusher).wheel ≡ true → is_ageing trace (flusher_device trace f) ≡ true

abbrev pub HasLists : (trace : Trace) (s : State) → Type 0
HasLists trace s = AreWaited trace s.cpus s.flushers

-- the same logs and lists
lists_stay : (trace : Trace) (cpus cpus2 : List Cpu) (flushers flushers2 : List Flusher) → ((i : ℕ) → log_of (get_or cpus2 i no_cpu) ≡ log_of (get_or cpus i no_cpu))
    → ((f : ℕ) → listed_of (get_or flushers2 f no_flusher) ≡ listed_of (get_or flushers f no_flusher)) → AreWaited trace cpus flushers → AreWaited trace cpus2 flushers2
lists_stay trace cpus cpus2 flushers flushers2 logs lists h = record {
  order = λ i. subst (λ (q : List Entry × List CheckEntry × List EstEntry). IsInOrder (record no_cpu { entries = q.0; checks = q.1; estimates = q.2 })) (sym (logs i)) (h.order i);
  waited = λ i f on.
      subst (λ (p : Bool × List Due). Waited trace f [] (told_of (get_or cpus2 i no_cpu)) p.1) (sym (lists f))
      (subst (λ (q : List Entry × List CheckEntry × List EstEntry). Waited trace f [] (told_in q.1 q.2 q.0) (pairs_in (get_or flushers f no_flusher))) (sym (logs i)) (h.waited i f on));
  ageing = λ f some. h.ageing f (ap (λ (p : Bool × List Due). p.0) (sym (lists f)) ∙ some);
}

-- one CPU tells more
lists_more : (trace : Trace) (cpus : List Cpu) (flushers flushers2 : List Flusher) (cpu : ℕ) (c : Cpu) (added : List Told) → cpu < length cpus
    → told_of c ≡ told_of (get_or cpus cpu no_cpu) ++ added → IsInOrder c
    → ((f : ℕ) → IsFlusherOn trace cpu f → Waited trace f (pairs_in (get_or flushers f no_flusher)) added (pairs_in (get_or flushers2 f no_flusher)))
    → ((i f : ℕ) → i ≢ cpu → IsFlusherOn trace i f → pairs_in (get_or flushers2 f no_flusher) ≡ pairs_in (get_or flushers f no_flusher))
    → ((f : ℕ) → is_some (get_or flushers2 f no_flusher).wheel ≡ true → is_ageing trace (flusher_device trace f) ≡ true)
    → AreWaited trace cpus flushers → AreWaited trace (set cpus cpu c) flushers2
lists_more trace cpus flushers flushers2 cpu c added there told order more others ageing h = record {
  order = λ i. dite (ℕ_discrete i cpu)
      (λ same. subst (λ (n : ℕ). IsInOrder (get_or (set cpus cpu c) n no_cpu)) (sym same) (subst IsInOrder (sym (get_or-set_same cpus cpu c no_cpu there)) order))
      (λ apart. subst IsInOrder (sym (get_or-set_other cpus cpu i c no_cpu apart)) (h.order i));
  waited = λ i f on. dite (ℕ_discrete i cpu)
      (λ same.
      let here : IsFlusherOn trace cpu f = subst (λ (n : ℕ). IsFlusherOn trace n f) same on in
      subst (λ (n : ℕ). IsWaited trace f (get_or (set cpus cpu c) n no_cpu) (get_or flushers2 f no_flusher)) (sym same)
      (subst (λ (x : Cpu). IsWaited trace f x (get_or flushers2 f no_flusher)) (sym (get_or-set_same cpus cpu c no_cpu there))
      (subst (λ (l : List Told). Waited trace f [] l (pairs_in (get_or flushers2 f no_flusher))) (sym told)
      (walked_more (WaitsInTurn trace f) (list_after trace f) [] (pairs_in (get_or flushers f no_flusher)) (pairs_in (get_or flushers2 f no_flusher)) (told_of (get_or cpus cpu no_cpu)) added
      (h.waited cpu f here) (more f here)))))
      (λ apart.
      subst (λ (x : Cpu). IsWaited trace f x (get_or flushers2 f no_flusher)) (sym (get_or-set_other cpus cpu i c no_cpu apart))
      (subst (λ (l : List Due). Waited trace f [] (told_of (get_or cpus i no_cpu)) l) (sym (others i f apart on)) (h.waited i f on)));
  ageing = ageing;
}

-- ---- one entry

-- an entry that tells nothing of a list
unseen : (trace : Trace) (f : ℕ) (pairs : List Due) (e : Told) → (effect e).wait ≡ None → Waited trace f pairs (e ∷ []) pairs
unseen trace f pairs e none = record {
  allowed = (subst (λ (o : Option Wait). IfSome o (λ (wait : Wait). wait.flusher ≡ f → MayWait trace f wait.move pairs)) (sym none) tt, tt);
  reached = ap (λ (o : Option Wait). of_part pairs (λ (wait : Wait). cond (eqb wait.flusher f) (waited trace wait.move pairs) pairs) o) none;
}

-- a move of a flusher's list: its own walk goes on, and the others' don't see it
one_wait : (trace : Trace) (f g : ℕ) (move : WaitMove) (e : Told) (old new : List Due) → effect e ≡ of_wait f move → MayWait trace f move old → new ≡ waited trace move old
    → (other_old other_new : List Due) → (g ≡ f → (other_old ≡ old) × (other_new ≡ new)) → (g ≢ f → other_new ≡ other_old) → Waited trace g other_old (e ∷ []) other_new
one_wait trace f g move e old new is may becomes other_old other_new own apart = record {
  allowed = (
    subst (λ (o : Option Wait). IfSome o (λ (wait : Wait). wait.flusher ≡ g → MayWait trace g wait.move other_old)) (sym (ap (λ (q : Effect). q.wait) is))
        (λ same. subst (λ (n : ℕ). MayWait trace n move other_old) same (subst (MayWait trace f move) (sym (own (sym same)).0) may)),
    tt,
  );
  reached = ap (λ (q : Effect). list_then q.wait) is ∙ dite (ℕ_discrete g f)
      (λ same. cond-true (eqb f g) (waited trace move other_old) other_old (eq-eqb f g (sym same)) ∙ ap (waited trace move) (own same).0 ∙ sym becomes ∙ sym (own same).1)
      (λ other. cond-false (eqb f g) (waited trace move other_old) other_old (ne_eqb f g (λ e2. other (sym e2))) ∙ sym (apart other));
}
  where
    list_then : (which : Option Wait) → List Due
    list_then which = of_part other_old (λ (wait : Wait). cond (eqb wait.flusher g) (waited trace wait.move other_old) other_old) which

-- what a move makes of the list is what is asked of it, where the device is ageing
may_wait : (trace : Trace) (f : ℕ) (move : WaitMove) (old new : List Due) → is_ageing trace (flusher_device trace f) ≡ true → Becomes trace f move old new → MayWait trace f move old × (new ≡ waited trace move old)
may_wait trace f (notices inode since) old new ageing h = (record { there = h.0; device = h.1; ageing = ageing; moment = h.2; new = h.3 }, h.4)
may_wait trace f (ages inode moment now) old new ageing h = (
  record {
    first = subst (λ (l : List Due). MayWait trace f (takes_first inode) l) (sym h.0) refl;
    moment = (subst (λ (l : List Due). MayWait trace f (ages inode moment now) l) (sym h.0) (record { first = refl; moment = refl; by_now = h.1 })).moment;
    by_now = h.1;
  },
  sym (ap without_first h.0),
)
may_wait trace f (takes_first inode) old new ageing h = (subst (λ (l : List Due). MayWait trace f (takes_first inode) l) (sym h.1) refl, sym (ap without_first h.1))

abbrev told_move : (f : ℕ) (move : WaitMove) → Told
told_move f (notices inode since) = noticed_told f inode since
told_move f (ages inode moment now) = aged_told f inode moment now
told_move f (takes_first inode) = took_told f inode

move_told : (checks : List CheckEntry) (ests : List EstEntry) (f : ℕ) (move : WaitMove) → told_entry checks ests (entry_of f move) ≡ told_move f move ∷ []
move_told checks ests f (notices inode since) = refl
move_told checks ests f (ages inode moment now) = refl
move_told checks ests f (takes_first inode) = refl

names_none : (f : ℕ) (move : WaitMove) → is_name (entry_of f move) ≡ false
names_none f (notices inode since) = refl
names_none f (ages inode moment now) = refl
names_none f (takes_first inode) = refl

move_effect : (f : ℕ) (move : WaitMove) → effect (told_move f move) ≡ of_wait f move
move_effect f (notices inode since) = refl
move_effect f (ages inode moment now) = refl
move_effect f (takes_first inode) = refl

module _ (trace : Trace) (facts : Facts trace) where
  abbrev Goes : (s u : State) → Type 0
  Goes s u = HasLists trace s → HasLists trace u

  hide : (s u : State) → Hidden s u → Goes s u
  hide s u hidden h = lists_stay trace s.cpus u.cpus s.flushers u.flushers hidden.0.parts hidden.0.listed h

  thens : (s u v : State) → Goes s u → Goes u v → Goes s v
  thens s u v p q h = q (p h)

  -- a CPU changes in what isn't told
  quietly : (cpu : ℕ) (c : Cpu) (s : State) → log_of c ≡ log_of (cpu_of cpu s) → Goes s (with_cpu cpu c s)
  quietly cpu c s same h = lists_stay trace s.cpus (set s.cpus cpu c) s.flushers s.flushers (same_at log_of s.cpus cpu c no_cpu same) (λ f. refl) h

  -- a flusher changes, but not its list
  flusher_with : (f : ℕ) (v : Flusher) (s : State) → listed_of v ≡ listed_of (flusher_of f s) → Goes s (with_flusher f v s)
  flusher_with f v s same h = lists_stay trace s.cpus s.cpus s.flushers (set s.flushers f v) (λ i. refl) (same_at listed_of s.flushers f v no_flusher same) h

  -- one entry that tells nothing of a list
  tells_more : (cpu : ℕ) (c : Cpu) (tale : Told) (s : State) → cpu < length s.cpus → told_of c ≡ told_of (cpu_of cpu s) ++ tale ∷ [] → IsInOrder c → (effect tale).wait ≡ None → Goes s (with_cpu cpu c s)
  tells_more cpu c tale s there told order none h =
      lists_more trace s.cpus s.flushers s.flushers cpu c (tale ∷ []) there told order (λ f on. unseen trace f (pairs_in (flusher_of f s)) tale none) (λ i f apart on. refl) h.ageing h

  logs : (cpu : ℕ) (e : Entry) (tale : Told) (s : State) → cpu < length s.cpus → is_name e ≡ false → told_entry (cpu_of cpu s).checks (cpu_of cpu s).estimates e ≡ tale ∷ [] → (effect tale).wait ≡ None → Goes s (log_at cpu e s)
  logs cpu e tale s there named is none h =
      tells_more cpu (logged e (cpu_of cpu s)) tale s there (told_logged e (cpu_of cpu s) ∙ ap (λ (l : List Told). told_of (cpu_of cpu s) ++ l) is) (order_logged e (cpu_of cpu s) named (h.order cpu)) none h

  folds : (cpu : ℕ) (x : Counter) (s : State) → cpu < length s.cpus → Goes s (fold cpu x s)
  folds cpu (ofDomain d) s there =
      logs cpu (entry.Folded (record { counter = ofDomain d; version = (count_of (ofDomain d) s).version + 1; delta = own_of (ofDomain d) (cpu_of cpu s) })) (folded_told _)
      (with_count (ofDomain d) (counted (own_of (ofDomain d) (cpu_of cpu s)) (count_of (ofDomain d) s)) s) there refl refl refl
  folds cpu (ofContext k) s there =
      logs cpu (entry.Folded (record { counter = ofContext k; version = (count_of (ofContext k) s).version + 1; delta = own_of (ofContext k) (cpu_of cpu s) })) (folded_told _)
      (with_count (ofContext k) (counted (own_of (ofContext k) (cpu_of cpu s)) (count_of (ofContext k) s)) s) there refl refl refl

  wrote : (cpu task page : ℕ) (is_fresh : Bool) (s : State) → cpu < length s.cpus → IsTaskOn trace cpu task → Goes s (log_at cpu (entry.Write task page is_fresh) s)
  wrote cpu task page is_fresh s there on = logs cpu (entry.Write task page is_fresh) (wrote_told task page is_fresh) s there refl refl refl

  abbrev part : (cpus : List Cpu) (flushers : List Flusher) (contexts : List Writeback) → Type 0
  part cpus flushers contexts = AreWaited trace cpus flushers

  knowns : KnownWrites trace Goes
  knowns = over_known trace (alone part) quietly wrote

  freshes : FreshWrites trace Goes
  freshes = over_fresh trace (alone part) quietly wrote

  claims : (cpu f : ℕ) (scan : Scan) (s : State) → ScansNow trace cpu f scan s → IsPageOf trace scan.inode (page_of scan) → Goes s (claim_now cpu f scan s)
  claims cpu f scan s now page h =
      let v : Flusher = record (flusher_of f s) { phase = phase.Scanning (record scan { passed = scan.passed + 1 }); batch = (flusher_of f s).batch ++ page_of scan ∷ [] } in
      let u : State = with_flusher f v s in
      quietly cpu _ (log_at cpu (entry.Claimed f (page_of scan)) u) refl (logs cpu (entry.Claimed f (page_of scan)) (claimed_told f (page_of scan)) u now.there refl refl refl (flusher_with f v s refl h))

  flies_off : (cpu f : ℕ) (scan : Scan) (until : ℕ) (s : State) → ScansNow trace cpu f scan s → length (flusher_of f s).batch ≢ 0 → Goes s (fly cpu f scan.inode (length (flusher_of f s).batch) until s)
  flies_off cpu f scan until s now some h =
      let n : ℕ = length (flusher_of f s).batch in
      let v : Flusher = record (flusher_of f s) { phase = phase.Flying scan.inode n until } in
      logs cpu (entry.Batch f n s.now until) (batch_told f n s.now until) (with_flusher f v s) now.there refl refl refl (flusher_with f v s refl h)

  completes : (cpu f inode page : ℕ) (pages : List ℕ) (s : State) → CompletesNow trace cpu f inode page pages s
      → Goes s (complete_page trace cpu f (context_of trace inode) page (with_flusher f (record (flusher_of f s) { batch = pages }) s))
  completes cpu f inode page pages s now h =
      let v : Flusher = record (flusher_of f s) { batch = pages } in
      let u : State = with_flusher f v s in
      quietly cpu _ (log_at cpu (entry.Done f page) u) refl (logs cpu (entry.Done f page) (done_told f page) u now.there refl refl refl (flusher_with f v s refl h))

  -- a flusher's list moves, and the CPU tells it
  moves : (cpu f : ℕ) (move : WaitMove) (list : Wheel) (s : State) → ListsNow trace cpu f move list s → Goes s (log_at cpu (entry_of f move) (with_waiting f list s))
  moves cpu f move list s now h =
      let v : Flusher = record (flusher_of f s) { wheel = Some list } in
      let c : Cpu = cpu_of cpu s in
      let e : Entry = entry_of f move in
      let may = may_wait trace f move (waiting_of f s).pairs list.pairs (h.ageing f now.some) now.becomes in
      lists_more trace s.cpus s.flushers (set s.flushers f v) cpu (logged e c) (told_move f move ∷ []) now.there
      (told_logged e c ∙ ap (λ (l : List Told). told_of c ++ l) (move_told c.checks c.estimates f move)) (order_logged e c (names_none f move) (h.order cpu))
      (λ g its. one_wait trace f g move (told_move f move) (waiting_of f s).pairs list.pairs (move_effect f move) may.0 may.1 (pairs_in (flusher_of g s)) (pairs_in (get_or (set s.flushers f v) g no_flusher))
      (λ same. (
        ap (λ (n : ℕ). pairs_in (flusher_of n s)) same,
        ap (λ (n : ℕ). pairs_in (get_or (set s.flushers f v) n no_flusher)) same ∙ ap pairs_in (get_or-set_same s.flushers f v no_flusher now.known),
      ))
      (λ apart. ap pairs_in (get_or-set_other s.flushers f g v no_flusher apart)))
      (λ i g apart its. ap pairs_in (get_or-set_other s.flushers f g v no_flusher (λ same. apart (sym its.cpu_is ∙ ap (λ (n : ℕ). flusher_cpu trace n) same ∙ now.on.cpu_is))))
      (λ g some. dite (ℕ_discrete g f)
      (λ same. ap (λ (n : ℕ). is_ageing trace (flusher_device trace n)) same ∙ h.ageing f now.some)
      (λ apart. h.ageing g (ap (λ (x : Flusher). is_some x.wheel) (sym (get_or-set_other s.flushers f g v no_flusher apart)) ∙ some)))
      h

  shares : (cpu d k n : ℕ) (s : State) → cpu < length s.cpus → Goes s (share_now cpu d k n s)
  shares cpu zero k n s there = logs cpu (entry.Share 0 k n) (share_told 0 k n) s there refl refl refl
  shares cpu (suc c) k n s there = logs cpu (entry.Share (suc c) k n) (share_told (suc c) k n) s there refl refl refl

  ends : (cpu task : ℕ) (s : State) → EndsNow trace cpu task s → Goes s (end_now cpu task s)
  ends cpu task s now = quietly cpu _ s refl

  decides : (cpu task : ℕ) (s : State) → DecidesNow trace cpu task s → Goes s (decide_for trace cpu task (task_of task s).context s)
  decides cpu task s now h =
      let k : ℕ = (task_of task s).context in
      let c : Cpu = cpu_of cpu s in
      let check : CheckEntry = check_of trace task k c.turn (decision_at trace k (task_of task s) c.turn s) s in
      tells_more cpu (checked check c) (check_told check) s now.there (told_checked check c (h.order cpu)) (order_checked check c (h.order cpu)) refl h

  estimates : (cpu f k : ℕ) (e : Estimate) (s : State) → EstimatesNow trace cpu f k s → Goes s (estimate_to cpu k (Some e) s)
  estimates cpu f k e s now h =
      let c : Cpu = cpu_of cpu s in
      let est : EstEntry = record { context = k; estimate = e } in
      tells_more cpu (estimated est c) (est_told est) s now.there (told_estimated est c (h.order cpu)) (order_estimated est c (h.order cpu)) refl h

  -- ---- a move

  module _ (s0 : State) (sound : Sound trace s0) where
    goes_on : Goes s0 (advance trace s0)
    goes_on =
        advance_seen trace Goes hide thens s0 (starts_of trace facts s0 sound)
        (λ orders rotation i below ts x is. steps_seen trace facts Goes hide thens (λ cpu c s told local. quietly cpu c s told) (λ cpu x s there fit. folds cpu x s there) knowns freshes claims flies_off completes moves (λ cpu d k n s there inside known its. shares cpu d k n s there) ends decides (λ cpu f k e s now is. estimates cpu f k e s now) s0 sound orders rotation i below ts x is)
        (λ orders rotation i below ts x is. moves_seen trace facts Goes hide thens (λ cpu c s told local. quietly cpu c s told) (λ cpu x s there fit. folds cpu x s there) knowns freshes claims flies_off completes moves (λ cpu d k n s there inside known its. shares cpu d k n s there) ends decides (λ cpu f k e s now is. estimates cpu f k e s now) s0 sound orders rotation i below ts x is)
        (see_turn trace facts Goes hide thens (λ cpu c s told local. quietly cpu c s told) (λ cpu x s there fit. folds cpu x s there) knowns freshes claims flies_off completes moves (λ cpu d k n s there inside known its. shares cpu d k n s there) ends decides (λ cpu f k e s now is. estimates cpu f k e s now))
        (λ orders rotation ts x is. over_step trace part s0 orders rotation ts x)
        (λ orders rotation ts x is. over_move trace part s0 orders rotation ts x)
        (λ orders rotation none late h. h)

  -- ---- the opening, and each moment

  first_waited : AreWaited trace (first_cpus trace trace.cpus) (first_flushers trace (length trace.flushers))
  first_waited = record {
    order = numbered_all (first_cpus trace) (first_cpu trace) no_cpu refl (λ n. refl) (λ j c. IsInOrder c) (λ j. (refl, refl)) (λ j. (refl, refl)) trace.cpus;
    waited = λ j g on.
        subst (λ (l : List Due). Waited trace g [] (told_of (get_or (first_cpus trace trace.cpus) j no_cpu)) l)
        (sym (numbered_all (first_flushers trace) (first_flusher trace) no_flusher refl (λ n. refl) (λ n v. pairs_in v ≡ []) (λ n. first_empty trace n) (λ n. refl) (length trace.flushers) g))
        (numbered_all (first_cpus trace) (first_cpu trace) no_cpu refl (λ n. refl) (λ n c. Waited trace g [] (told_of c) []) (λ n. record { allowed = tt; reached = refl }) (λ n. record { allowed = tt; reached = refl }) trace.cpus j);
    ageing = numbered_all (first_flushers trace) (first_flusher trace) no_flusher refl (λ n. refl) (λ n v. is_some v.wheel ≡ true → is_ageing trace (flusher_device trace n) ≡ true)
        (λ n some. first_ageing trace n some) (λ n some. absurd (cc some)) (length trace.flushers);
  }

  first_lists_of : HasLists trace (opening trace)
  unfolding opening
  first_lists_of = first_waited

  module _ (sound : (moves : ℕ) → Sound trace (state_at trace moves)) where
    pub waited_at : (moves : ℕ) → HasLists trace (state_at trace moves)
    waited_at zero = subst (HasLists trace) (sym (run_none trace 0 (opening trace) refl)) first_lists_of
    waited_at (suc m) = ⊎_elim
        (λ over. subst (HasLists trace) (sym (run_stays trace m (suc m) (opening trace) (omega arith) over)) (waited_at m))
        (λ going. subst (HasLists trace) (sym (run_last trace m (suc m) (opening trace) (omega arith) going)) (goes_on (state_at trace m) (sound m) (waited_at m)))
        (cases_Bool (is_ended (state_at trace m)))

-- ---- the points

-- the walk of a flusher of another CPU sees none of the part's entries
strangers : (trace : Trace) (cpu f : ℕ) (pairs : List Due) (part : List Told) → (IsFlusherOn trace cpu f → ⊥) → Each (IsOwn trace cpu) part → Along (WaitsInTurn trace f) (list_after trace f) pairs part
strangers trace cpu f pairs [] other own = tt
strangers trace cpu f pairs (e ∷ part) other own = (
  if_weaker (λ (wait : Wait). is_own_flusher trace cpu wait.flusher ≡ true) (λ (wait : Wait). wait.flusher ≡ f → MayWait trace f wait.move pairs)
      (λ wait its same. absurd (other (flusher_on trace cpu f (subst (λ (n : ℕ). is_own_flusher trace cpu n ≡ true) same its)))) (effect e).wait own.0.wait,
  strangers trace cpu f (list_after trace f pairs e) part other own.1,
)

module _ (trace : Trace) (logs : HasLogs trace (last_state trace)) (lists : HasLists trace (last_state trace)) (seats : length (last_state trace).cpus ≡ trace.cpus) where
  abbrev s : State
  s = last_state trace

  abbrev first : List (List Due)
  first = first_lists trace.flushers

  -- each flusher's list along each part
  in_turn : (c f : ℕ) → Along (WaitsInTurn trace f) (list_after trace f) [] (told_of (cpu_of c s))
  in_turn c f = by_own (is_own_flusher trace c f) refl (owns trace c (told_of (cpu_of c s)) (logs.own c))
    where
      by_own : (b : Bool) → is_own_flusher trace c f ≡ b → Each (IsOwn trace c) (told_of (cpu_of c s)) → Along (WaitsInTurn trace f) (list_after trace f) [] (told_of (cpu_of c s))
      by_own true is own = (lists.waited c f (flusher_on trace c f is)).allowed
      by_own false is own = strangers trace c f [] (told_of (cpu_of c s)) (λ its. true≢false (sym (own_flusher trace c f its) ∙ is)) own

  waits : (c : ℕ) → OfPart (Waits trace) (lists_after trace) first c (told_of (cpu_of c s))
  waits c =
      let part : List Told = told_of (cpu_of c s) in
      all_wait trace c first part (length-map trace.flushers _) (owns trace c part (logs.own c))
      (λ f. subst (λ (l : List Due). Along (WaitsInTurn trace f) (list_after trace f) l part) (sym (first_list trace.flushers f)) (in_turn c f))

  pub waits_in_order : WaitsAreInOrder trace (journal_of trace)
  unfolding journal_of
  waits_in_order =
      parts_back (Waits trace) (lists_after trace) first (λ seen cpu. refl) (λ seen cpu. tt) first 0 (map told (map part_of s.cpus))
      (each_told trace logs seats (OfPart (Waits trace) (lists_after trace) first) (λ c low. waits c))

  pub waits_own : WaitsAreOwn trace (journal_of trace)
  unfolding journal_of
  waits_own =
      each_item (WaitsOnOwn trace) (λ c. tt) 0 (map told (map part_of s.cpus))
      (each_told trace logs seats (λ c part. Each (λ (e : Told). WaitsOnOwn trace (tells c e)) part)
      (λ c low. each_weaker (IsOwn trace c) (λ (e : Told). WaitsOnOwn trace (tells c e)) (λ e own. own.wait) (told_of (cpu_of c s)) (owns trace c (told_of (cpu_of c s)) (logs.own c))))

  pub aged_due : AgedWereDue trace (journal_of trace)
  unfolding journal_of
  aged_due = each_told trace logs seats (λ c part. Along (AgedWasDue trace) and_then [] part) (λ c low. part_due trace (told_of (cpu_of c s)) (λ f. in_turn c f))
