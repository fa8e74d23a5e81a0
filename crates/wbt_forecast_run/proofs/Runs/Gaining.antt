-- How much each change tells: a step, an entry or a check, and an inode that is queued, which may be noticed later.
use Rattle.std.proofs.Common.{◌≡◌, ℕ, ◌+◌, ◌-◌, ◌≤◌, ◌<◌, true, false, pos, negsuc, List, [], ◌∷◌, ◌++◌, length, set, get_or, refl, sym, ◌∙◌, ap, arith, ⊎_elim}
use Rattle.std.specs.List.{sum_by}
use Rattle.std.proofs.lemmas.Bool.{cases_lt}
use Rattle.std.proofs.lemmas.List.{get_or_past, set_past, length_push}
use Rattle.wbt_replay_order.proofs.Common.{Context, Trace, CheckEntry, Entry, StepEntry, context_of, device_of, flusher_device, group_of, checked, log_at, owe_at, State, no_cpu, cpu_of, flusher_of, with_flusher, queue_of, with_queue, with_event, periods, count_page, Cpu, cpu_after, passes, apply, apply_all, Change}
use Rattle.wbt_counter.specs.declared.counter.Counter.TheVariants.{Domain}
use Rattle.wbt_book.specs.declared.event.Event.TheVariants as event
use Rattle.wbt_journal.specs.declared.entry.Entry.TheVariants as entry
use Rattle.wbt_replay_moves.specs.declared.todo.Silent.TheVariants as silent
use Rattle.wbt_replay_moves.specs.declared.todo.Step.TheVariants as step
use Rattle.wbt_replay_moves.specs.declared.todo.Todo.TheVariants as todo
use Rattle.wbt_replay_order.proofs.Lists.Numbered.{sum_set}
use Rattle.wbt_replay_changes.specs.Change as change
use Rattle.wbt_forecast_run.proofs.Runs.Growing.{cpu_told}

-- ---- what is counted

-- how many entries and checks a CPU has
abbrev pub told_by : (c : Cpu) → ℕ
told_by c = length c.entries + length c.checks

-- how many inodes a queue has
abbrev pub waiting_in : (queue : List ℕ) → ℕ
waiting_in queue = length queue

-- how many steps, entries and checks a state has, and inodes that may still be noticed
abbrev pub told_or_queued : (s : State) → ℕ
told_or_queued s = length s.steps + sum_by told_by s.cpus + sum_by waiting_in s.queues

-- a state has so many more at most
abbrev pub Gains : (count : ℕ) (s u : State) → Type 0
Gains count s u = told_or_queued u ≤ told_or_queued s + count

cpus_gain : (cs : List Cpu) (i : ℕ) (c : Cpu) (count : ℕ) → told_by c ≤ told_by (get_or cs i no_cpu) + count
    → sum_by told_by (set cs i c) ≤ sum_by told_by cs + count
cpus_gain cs i c count few = ⊎_elim
    (λ less. let sums = sum_set told_by cs i c no_cpu less in omega (arith, sums, few))
    (λ past. let same = ap (sum_by told_by) (set_past cs i c past) in omega (arith, same))
    (cases_lt i (length cs))

queue_there : (qs : List (List ℕ)) (d n : ℕ) (ns : List ℕ) → get_or qs d [] ≡ n ∷ ns → d < length qs
queue_there qs d n ns is = ⊎_elim (λ less. less) (λ past. absurd (cc (sym (get_or_past qs d [] past) ∙ is))) (cases_lt d (length qs))

-- an inode fewer waits
queue_less : (qs : List (List ℕ)) (d n : ℕ) (ns : List ℕ) → get_or qs d [] ≡ n ∷ ns → sum_by waiting_in (set qs d ns) + 1 ≡ sum_by waiting_in qs
queue_less qs d n ns is =
    let sums = sum_set waiting_in qs d ns [] (queue_there qs d n ns is) in
    let long = ap (λ (q : List ℕ). length q) is in
    omega (arith, sums, long)

-- one more waits
queue_more : (qs : List (List ℕ)) (d n : ℕ) → sum_by waiting_in (set qs d (get_or qs d [] ++ n ∷ [])) ≤ sum_by waiting_in qs + 1
queue_more qs d n = ⊎_elim
    (λ less. let sums = sum_set waiting_in qs d (get_or qs d [] ++ n ∷ []) [] less in let long = length_push (get_or qs d []) n in omega (arith, sums, long))
    (λ past. let same = ap (sum_by waiting_in) (set_past qs d (get_or qs d [] ++ n ∷ []) past) in omega (arith, same))
    (cases_lt d (length qs))

-- ---- changes

pub gains_same : (s u : State) → u.steps ≡ s.steps → u.cpus ≡ s.cpus → u.queues ≡ s.queues → Gains 0 s u
gains_same s u steps cpus queues =
    omega (arith, ap (λ (l : List StepEntry). length l) steps, ap (sum_by told_by) cpus, ap (sum_by waiting_in) queues)

gains_step : (s u : State) (e : StepEntry) → u.steps ≡ s.steps ++ e ∷ [] → u.cpus ≡ s.cpus → u.queues ≡ s.queues → Gains 1 s u
gains_step s u e steps cpus queues =
    let long = ap (λ (l : List StepEntry). length l) steps in
    omega (arith, long, length_push s.steps e, ap (sum_by told_by) cpus, ap (sum_by waiting_in) queues)

gains_cpu : (count : ℕ) (s u : State) (i : ℕ) (c : Cpu) → told_by c ≤ told_by (cpu_of i s) + count → u.steps ≡ s.steps → u.cpus ≡ set s.cpus i c
    → u.queues ≡ s.queues → Gains count s u
gains_cpu count s u i c few steps cpus queues =
    let sums = cpus_gain s.cpus i c count few in
    omega (arith, sums, ap (λ (l : List StepEntry). length l) steps, ap (sum_by told_by) cpus, ap (sum_by waiting_in) queues)

-- how much a change tells, with what it queues
abbrev pub weight : (one : Change) → ℕ
weight (change.stepped who kind) = 1
weight (change.rewrote cpu task page works) = 1
weight (change.dirtied cpu task inode page works) = 2
weight (change.marked inode) = 1
weight (change.checked cpu check) = 2
weight (change.folded cpu x) = 1
weight (change.estimated cpu context estimate) = 1
weight (change.took_due cpu flusher now pair left) = 1
weight (change.took_first cpu flusher pair left) = 1
weight (change.claimed cpu flusher scan) = 1
weight (change.flew cpu flusher inode pages until) = 1
weight (change.completed cpu flusher context page left) = 2
weight (change.shared cpu domain context pages) = 1
weight (change.raised domain hard) = 1
weight other = 0

-- no inode leaves a queue by it
abbrev pub LeavesQueues : (one : Change) → Type 0
LeavesQueues (change.took flusher inode left) = ⊥
LeavesQueues (change.noticed cpu flusher inode since left) = ⊥
LeavesQueues (change.dropped flusher left) = ⊥
LeavesQueues other = Unit {0}

-- a CPU logs one entry more
logs : (s u : State) (i : ℕ) (c : Cpu) (e : Entry) → u.steps ≡ s.steps → u.cpus ≡ set s.cpus i c → u.queues ≡ s.queues
    → c.entries ≡ (cpu_of i s).entries ++ e ∷ [] → c.checks ≡ (cpu_of i s).checks → Gains 1 s u
logs s u i c e steps cpus queues entries checks =
    let more = ap (λ (l : List Entry). length l) entries ∙ length_push (cpu_of i s).entries e in
    let same = ap (λ (l : List CheckEntry). length l) checks in
    gains_cpu 1 s u i c (omega (arith, more, same)) steps cpus queues

-- it tells nothing
pub quiet : (s u : State) (i : ℕ) (c : Cpu) → u.steps ≡ s.steps → u.cpus ≡ set s.cpus i c → u.queues ≡ s.queues
    → c.entries ≡ (cpu_of i s).entries → c.checks ≡ (cpu_of i s).checks → Gains 0 s u
quiet s u i c steps cpus queues entries checks =
    gains_cpu 0 s u i c (omega (arith, ap (λ (l : List Entry). length l) entries, ap (λ (l : List CheckEntry). length l) checks)) steps cpus queues

module _ (trace : Trace) (s : State) where
  pub change_gains : (one : Change) → LeavesQueues one → Gains (weight one) s (apply trace one s)
  change_gains (change.stepped who kind) stays = gains_step s (apply trace (change.stepped who kind) s) _ refl refl refl
  change_gains (change.of_cpu i one) stays =
      let told = cpu_told trace s i one in quiet s (apply trace (change.of_cpu i one) s) i (cpu_after trace one s (cpu_of i s)) refl refl refl told.0 told.1
  change_gains (change.of_task task one) stays = gains_same s (apply trace (change.of_task task one) s) refl refl refl
  change_gains (change.of_flusher flusher one) stays = gains_same s (apply trace (change.of_flusher flusher one) s) refl refl refl
  change_gains (change.of_timer one) stays = gains_same s (apply trace (change.of_timer one) s) refl refl refl
  change_gains (change.rewrote i task page works) stays = logs s (apply trace (change.rewrote i task page works) s) i _ (entry.Write task page false) refl refl refl refl refl
  change_gains (change.dirtied i task inode page works) stays =
      let context = context_of trace inode in
      let counted = count_page i task context (with_event (event.Dirty page) page (passes task works s)) in
      let told = log_at i (entry.Write task page true) counted in
      let owes = owe_at i (pos 1) context (group_of trace context) (todo.Step (step.Mark inode)) told in
      let a : Gains 0 s counted = quiet s counted i _ refl refl refl refl refl in
      let b : Gains 1 counted told = logs counted told i _ (entry.Write task page true) refl refl refl refl refl in
      let c : Gains 0 told owes = quiet told owes i _ refl refl refl refl refl in
      let d : Gains 1 owes (apply trace (change.dirtied i task inode page works) s) = gains_step owes (apply trace (change.dirtied i task inode page works) s) _ refl refl refl in
      omega (arith, a, b, c, d)
  change_gains (change.marked inode) stays = let more = queue_more s.queues (device_of trace inode) inode in omega (arith, more)
  change_gains (change.checked i check) stays =
      let c : Cpu = checked check (cpu_of i s) in
      let entries = length_push (cpu_of i s).entries (entry.Check (length (cpu_of i s).checks)) in
      let checks = length_push (cpu_of i s).checks check in
      gains_cpu 2 s (apply trace (change.checked i check) s) i c (omega (arith, entries, checks)) refl refl refl
  change_gains (change.ended i task) stays = quiet s (apply trace (change.ended i task) s) i _ refl refl refl refl refl
  change_gains (change.folded i (Domain d)) stays = logs s (apply trace (change.folded i (Domain d)) s) i _ _ refl refl refl refl refl
  change_gains (change.folded i (Context k)) stays = logs s (apply trace (change.folded i (Context k)) s) i _ _ refl refl refl refl refl
  change_gains (change.estimated i context estimate) stays = logs s (apply trace (change.estimated i context estimate) s) i _ _ refl refl refl refl refl
  change_gains (change.took flusher inode left) stays = absurd stays
  change_gains (change.took_due i flusher now pair left) stays = logs s (apply trace (change.took_due i flusher now pair left) s) i _ _ refl refl refl refl refl
  change_gains (change.took_first i flusher pair left) stays = logs s (apply trace (change.took_first i flusher pair left) s) i _ _ refl refl refl refl refl
  change_gains (change.noticed i flusher inode since left) stays = absurd stays
  change_gains (change.dropped flusher left) stays = absurd stays
  change_gains (change.finished flusher) stays = gains_same s (apply trace (change.finished flusher) s) refl refl refl
  change_gains (change.unmarked flusher scan) stays = gains_same s (apply trace (change.unmarked flusher scan) s) refl refl refl
  change_gains (change.claimed i flusher scan) stays = logs s (apply trace (change.claimed i flusher scan) s) i _ _ refl refl refl refl refl
  change_gains (change.flew i flusher inode pages until) stays = logs s (apply trace (change.flew i flusher inode pages until) s) i _ _ refl refl refl refl refl
  change_gains (change.completed i flusher context page left) stays =
      let taken = with_event (event.Complete page) page (with_flusher flusher (record (flusher_of flusher s) { batch = left }) s) in
      let told = log_at i (entry.Done flusher page) taken in
      let owes = owe_at i (negsuc 0) context (group_of trace context) (todo.Silent silent.Land) told in
      let b : Gains 1 s told = logs s told i _ (entry.Done flusher page) refl refl refl refl refl in
      let c : Gains 0 told owes = quiet told owes i _ refl refl refl refl refl in
      let d : Gains 1 owes (apply trace (change.completed i flusher context page left) s) = gains_step owes (apply trace (change.completed i flusher context page left) s) _ refl refl refl in
      omega (arith, b, c, d)
  change_gains (change.landed flusher context pages) stays = gains_same s (apply trace (change.landed flusher context pages) s) refl refl refl
  change_gains (change.shared i domain context pages) stays = logs s (apply trace (change.shared i domain context pages) s) i _ _ refl refl refl refl refl
  change_gains (change.raised domain hard) stays = gains_step s (apply trace (change.raised domain hard) s) _ refl refl refl
  change_gains (change.unsealed domain) stays = gains_same s (apply trace (change.unsealed domain) s) refl refl refl
  change_gains (change.published domain) stays = gains_same s (apply trace (change.published domain) s) refl refl refl
  change_gains (change.renewed domain periods events) stays = gains_same s (apply trace (change.renewed domain periods events) s) refl refl refl

  -- an inode leaves its queue, and is told or not
  pub took_gains : (f n : ℕ) (ns : List ℕ) → queue_of (flusher_device trace f) s ≡ n ∷ ns → Gains 0 s (apply trace (change.took f n ns) s)
  took_gains f n ns is = let fewer = queue_less s.queues (flusher_device trace f) n ns is in omega (arith, fewer)

  pub dropped_gains : (f n : ℕ) (ns : List ℕ) → queue_of (flusher_device trace f) s ≡ n ∷ ns → Gains 0 s (apply trace (change.dropped f ns) s)
  dropped_gains f n ns is = let fewer = queue_less s.queues (flusher_device trace f) n ns is in omega (arith, fewer)

  pub noticed_gains : (i f n since : ℕ) (ns : List ℕ) → queue_of (flusher_device trace f) s ≡ n ∷ ns → Gains 0 s (apply trace (change.noticed i f n since ns) s)
  noticed_gains i f n since ns is =
      let fewer = queue_less s.queues (flusher_device trace f) n ns is in
      let a = with_queue (flusher_device trace f) ns s in
      let b : Gains 1 a (apply trace (change.noticed i f n since ns) s) =
      logs a (apply trace (change.noticed i f n since ns) s) i _ (entry.Noticed f n since) refl refl refl refl refl in
      omega (arith, fewer, b)

-- ---- lists of changes

-- a list of changes gains so much at most, from each state
abbrev pub AreLight : (count : ℕ) (changes : List Change) → Type 0
AreLight count [] = Unit {0}
AreLight count (first ∷ more) = LeavesQueues first × ((weight first ≤ count) × AreLight (count - weight first) more)

pub light_gains : (trace : Trace) (count : ℕ) (changes : List Change) (s : State) → AreLight count changes → Gains count s (apply_all trace changes s)
light_gains trace count [] s light = omega arith
light_gains trace count (first ∷ more) s light =
    let here = change_gains trace s first light.0 in
    let rest = light_gains trace (count - weight first) more (apply trace first s) light.1.1 in
    omega (arith, here, rest, light.1.0)
