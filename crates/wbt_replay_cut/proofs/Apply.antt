-- A change makes of the cut state the cut of what it makes of the whole one.
use Rattle.std.proofs.Common.{◌≡◌, ℕ, zero, suc, ◌+◌, ◌==◌, Bool, true, false, cond, ℤ, pos, ◌+ℤ◌, unsigned_abs, fold, List, [], ◌∷◌, set, refl, ap}
use Rattle.wbt_replay_order.proofs.Common.{Trace, Count, Counter, Context, batch_of, Entry, EstEntry, StepEntry, page_of, context_of, counted, fold_of, word_of, holds, count_kept, do_next, do_last, at_turn, logged, checked, estimated, own_of, with_own, added, State, cpu_of, with_cpu, task_of, domain_of, writeback_of, over_noted, counted_local, counted_page, leaked, Cpu, Todo, passes, apply, apply_all, Change, CpuChange, FlusherChange}
use Rattle.wbt_counter.specs.declared.counter.Counter.TheVariants.{Domain}
use Rattle.wbt_grant.specs.declared.who.StepKind.TheVariants as kind
use Rattle.wbt_journal.specs.declared.entry.Entry.TheVariants as entry
use Rattle.wbt_journal.specs.declared.timer.TimerEntry.TheVariants as timer_entry
use Rattle.wbt_replay_changes.specs.Change as change
use Rattle.wbt_replay_changes.specs.Change.Cpu as cpu_change
use Rattle.wbt_replay_changes.specs.Change.Flusher as flusher_change
use Rattle.wbt_replay_changes.specs.Change.Timer.{TimerChange}
use Rattle.wbt_replay_changes.specs.Change.Timer as timer_change
use Rattle.wbt_replay_cut.specs.Cut.{Told, renamed, cut, IsWithin}
use Rattle.wbt_replay_cut.proofs.Lists.{cut_at, cpus_stay}
use Rattle.wbt_replay_cut.proofs.Parts.{CutSteps, CutCpu, CutCpus, CutTimer, IsCut, KeepsCpu, Keeps, pushed, timer_grows, logs, checks, publishes, becomes, still, made, whole, onto, steps_of, cpus_of, timer_of}

-- ---- one CPU

module _ (told : Told) where
  either_cpu : {i : ℕ} {c d x y : Cpu} (b : Bool) → CutCpu told i c x → CutCpu told i d y → CutCpu told i (cond b c d) (cond b x y)
  either_cpu true h k = h
  either_cpu false h k = k

  -- the CPU does these next
  plans : (i : ℕ) (items : List Todo) → KeepsCpu told i (do_next items)
  plans i items c w = still told i _ w

  -- an event is added to its own number
  adds : (trace : Trace) (i : ℕ) (x : Counter) (n : ℤ) → KeepsCpu told i (λ c. added (batch_of trace x) x (own_of x c +ℤ n) c)
  adds trace i (Domain k) n c w =
      either_cpu (unsigned_abs (own_of (Domain k) c +ℤ n) == batch_of trace (Domain k)) (still told i _ w) (still told i _ w)
  adds trace i (Context k) n c w =
      either_cpu (unsigned_abs (own_of (Context k) c +ℤ n) == batch_of trace (Context k)) (still told i _ w) (still told i _ w)

  -- its own number is folded
  folds : (x : Counter) (count : Count) (i : ℕ) → KeepsCpu told i (fold_of x count)
  folds (Domain k) count i c w =
      logs told i (entry.Folded (record { counter = Domain k; version = count.version + 1; delta = own_of (Domain k) c })) refl c w
  folds (Context k) count i c w =
      logs told i (entry.Folded (record { counter = Context k; version = count.version + 1; delta = own_of (Context k) c })) refl c w

-- ---- a change

module _ (trace : Trace) (told : Told) (s : State) (w : IsWithin told s) where
  st : CutSteps told s.steps (cut told s).steps
  st = steps_of told s w

  cs : CutCpus told s.cpus (cut told s).cpus
  cs = cpus_of told s w

  tm : CutTimer told s.timer (cut told s).timer
  tm = timer_of told s w

  -- a CPU logs an entry that names neither a check nor an estimate
  log : (cpu : ℕ) (e : Entry) → e ≡ renamed (told.checks cpu) (told.estimates cpu) e
      → CutCpus told (set s.cpus cpu (logged e (cpu_of cpu s))) (set (cut told s).cpus cpu (logged e (cpu_of cpu (cut told s))))
  log cpu e is = becomes told cpu (logged e) (logs told cpu e is) cs

  -- a CPU alone changes
  turns : (cpu : ℕ) (f : Cpu → Cpu) → KeepsCpu told cpu f
      → IsCut told (with_cpu cpu (f (cpu_of cpu s)) s) (with_cpu cpu (f (cpu_of cpu (cut told s))) (cut told s))
  turns cpu f keeps = made told st (becomes told cpu f keeps cs) tm refl

  cpu_cut : (cpu : ℕ) (one : CpuChange) → IsCut told (apply trace (change.of_cpu cpu one) s) (apply trace (change.of_cpu cpu one) (cut told s))
  cpu_cut cpu (cpu_change.began whose) = turns cpu (at_turn whose s.now) (λ c. still told cpu _)
  cpu_cut cpu (cpu_change.planned items) = turns cpu (do_next items) (λ c. still told cpu _)
  cpu_cut cpu (cpu_change.appended items) = turns cpu (do_last items) (λ c. still told cpu _)
  cpu_cut cpu (cpu_change.added x n) = turns cpu (λ c. added (batch_of trace x) x (own_of x c +ℤ n) c) (adds told trace cpu x n)
  cpu_cut cpu (cpu_change.cleared (Domain k)) = turns cpu (with_own (Domain k) (pos 0)) (λ c. still told cpu _)
  cpu_cut cpu (cpu_change.cleared (Context k)) = turns cpu (with_own (Context k) (pos 0)) (λ c. still told cpu _)
  cpu_cut cpu (cpu_change.found k) = turns cpu (λ c. record c { turn = record c.turn { found = word_of (domain_of k s) } }) (λ c. still told cpu _)
  cpu_cut cpu (cpu_change.held k) = turns cpu (holds k (domain_of k s)) (λ c. still told cpu _)
  cpu_cut cpu (cpu_change.read (Domain k)) =
      turns cpu (λ c. record c { turn = count_kept (Domain k) (domain_of k s).count c.turn }) (λ c. still told cpu _)
  cpu_cut cpu (cpu_change.read (Context k)) =
      turns cpu (λ c. record c { turn = count_kept (Context k) (writeback_of k s).count c.turn }) (λ c. still told cpu _)
  cpu_cut cpu (cpu_change.weighed over) = turns cpu (over_noted over) (λ c. still told cpu _)

  flusher_cut : (flusher : ℕ) (one : FlusherChange)
      → IsCut told (apply trace (change.of_flusher flusher one) s) (apply trace (change.of_flusher flusher one) (cut told s))
  flusher_cut flusher (flusher_change.idled until kept) = whole told _ w
  flusher_cut flusher (flusher_change.passed scan again) = whole told _ w
  flusher_cut flusher (flusher_change.placed scan) = whole told _ w
  flusher_cut flusher (flusher_change.limited hard) = whole told _ w
  flusher_cut flusher (flusher_change.told now) = whole told _ w

  timer_cut : (one : TimerChange) → IsCut told (apply trace (change.of_timer one) s) (apply trace (change.of_timer one) (cut told s))
  timer_cut timer_change.began = whole told _ w
  timer_cut (timer_change.read zero reading) = whole told _ w
  timer_cut (timer_change.read (suc cgroup) reading) = whole told _ w
  timer_cut timer_change.rested = whole told _ w

  pub apply_cut : (one : Change) → IsCut told (apply trace one s) (apply trace one (cut told s))
  apply_cut (change.stepped who kind) = made told (pushed told _ _ refl st) cs tm refl
  apply_cut (change.of_cpu cpu one) = cpu_cut cpu one
  apply_cut (change.of_task task one) = whole told _ w
  apply_cut (change.of_flusher flusher one) = flusher_cut flusher one
  apply_cut (change.of_timer one) = timer_cut one
  apply_cut (change.rewrote cpu task page works) = made told st (log cpu (entry.Write task page false) refl) tm refl
  apply_cut (change.dirtied cpu task inode page works) =
      let context = context_of trace inode in
      let t = task_of task (passes task works s) in
      let u = apply trace (change.dirtied cpu task inode page works) (cut told s) in
      let f : Cpu → Cpu = λ c. record c { local = counted_local s.ratelimit_pages context c.local t } in
      made told (pushed told _ _ refl st)
      (becomes told cpu (do_next _) (plans told cpu _)
      (becomes told cpu (logged (entry.Write task page true)) (logs told cpu (entry.Write task page true) refl)
      (becomes told cpu f (λ c. still told cpu _) cs))) tm
      (ap (λ (c : Cpu). record u { tasks = set (passes task works s).tasks task (counted_page s.ratelimit_pages context c.local t) }) (cut_at told s.cpus cpu))
  apply_cut (change.marked inode) = whole told _ w
  apply_cut (change.checked cpu check) = made told st (becomes told cpu (checked check) (checks told cpu check) cs) tm refl
  apply_cut (change.ended cpu task) =
      let f : Cpu → Cpu = λ c. record c { local = fold leaked c.local (task_of task s).writers } in
      made told st (becomes told cpu f (λ c. still told cpu _) cs) tm refl
  apply_cut (change.folded cpu (Domain k)) =
      let u = apply trace (change.folded cpu (Domain k)) (cut told s) in
      let d = domain_of k s in
      made told st (becomes told cpu (fold_of (Domain k) d.count) (folds told (Domain k) d.count cpu) cs) tm
      (ap (λ (c : Cpu). record u { domains = set s.domains k (record d { count = counted (own_of (Domain k) c) d.count }) }) (cut_at told s.cpus cpu))
  apply_cut (change.folded cpu (Context k)) =
      let u = apply trace (change.folded cpu (Context k)) (cut told s) in
      let x = writeback_of k s in
      made told st (becomes told cpu (fold_of (Context k) x.count) (folds told (Context k) x.count cpu) cs) tm
      (ap (λ (c : Cpu). record u { contexts = set s.contexts k (record x { count = counted (own_of (Context k) c) x.count }) }) (cut_at told s.cpus cpu))
  apply_cut (change.estimated cpu context estimate) =
      let est : EstEntry = record { context = context; estimate = estimate } in
      made told st (becomes told cpu (estimated est) (publishes told cpu est) cs) tm refl
  apply_cut (change.took flusher inode left) = whole told _ w
  apply_cut (change.took_due cpu flusher now pair left) = made told st (log cpu (entry.Aged flusher pair.inode pair.due now) refl) tm refl
  apply_cut (change.took_first cpu flusher pair left) = made told st (log cpu (entry.Taken flusher pair.inode) refl) tm refl
  apply_cut (change.noticed cpu flusher inode since left) = made told st (log cpu (entry.Noticed flusher inode since) refl) tm refl
  apply_cut (change.dropped flusher left) = whole told _ w
  apply_cut (change.finished flusher) = whole told _ w
  apply_cut (change.unmarked flusher scan) = whole told _ w
  apply_cut (change.claimed cpu flusher scan) = made told st (log cpu (entry.Claimed flusher (page_of scan)) refl) tm refl
  apply_cut (change.flew cpu flusher inode pages until) = made told st (log cpu (entry.Batch flusher pages s.now until) refl) tm refl
  apply_cut (change.completed cpu flusher context page left) =
      made told (pushed told _ _ refl st)
      (becomes told cpu (do_next _) (plans told cpu _) (log cpu (entry.Done flusher page) refl)) tm refl
  apply_cut (change.landed flusher context pages) = whole told _ w
  apply_cut (change.shared cpu domain context pages) = made told st (log cpu (entry.Share domain context pages) refl) tm refl
  apply_cut (change.raised domain hard) =
      let peak : ℕ → StepEntry = λ n. record { who = n; kind = kind.Peak; context = 0; change = pos 0; domain = domain; peak = hard } in
      made told (pushed told _ _ (ap peak (cpus_stay told s.cpus)) st) cs tm refl
  apply_cut (change.unsealed domain) = whole told _ w
  apply_cut (change.published domain) = made told st cs (timer_grows told (timer_entry.Limits domain s.timer.began s.timer.limits) s.timer w.timer) refl
  apply_cut (change.renewed domain periods events) = made told st cs (timer_grows told (timer_entry.Period domain periods) s.timer w.timer) refl

module _ (trace : Trace) (told : Told) where
  -- and so do any number of changes
  pub all_cut : (changes : List Change) → Keeps told (apply_all trace changes)
  all_cut [] s w = whole told s w
  all_cut (first ∷ more) s w = onto told (apply_all trace more) (all_cut more) (apply_cut trace told s w first)
