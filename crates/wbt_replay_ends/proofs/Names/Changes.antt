-- What a change logs that changes no count names what is there, and so does what a turn begins with.
use Rattle.std.proofs.Common.{◌≡◌, ℕ, eqb, ℤ, pos, ◌+ℤ◌, unsigned_abs, fold, set, refl}
use Rattle.wbt_replay_order.proofs.Common.{Counter, Context, batch_of, Entry, page_of, Trace, logged, own_of, with_own, added, make_step, make_move, begin_turn, State, cpu_of, task_of, leaked, Cpu, Whose, Silent, Step, cpu_after, apply, Change, CpuChange, IsPlainMove, turn_keeps, move_keeps, uncounted, PartNamesInOrder}
use Rattle.wbt_counter.specs.declared.counter.Counter.TheVariants.{Domain}
use Rattle.wbt_journal.specs.declared.entry.Entry.TheVariants as entry
use Rattle.wbt_replay_changes.specs.Change as change
use Rattle.wbt_replay_changes.specs.Change.Cpu as cpu_change
use Rattle.wbt_replay_changes.specs.Plain.{IsUncounted, IsUncountedStep}
use Rattle.wbt_replay_changes.proofs.Keeping.{uncounted_keeps}
use Rattle.wbt_replay_order.proofs.Facts.Lists.{either}
use Rattle.wbt_replay_ends.proofs.Names.Logs.{Logs, logged_named, quiet_logs, entry_logs, alone_logs, NamesNone}

own_named : (x : Counter) (n : ℤ) (c : Cpu) → PartNamesInOrder c → PartNamesInOrder (with_own x n c)
own_named (Domain d) n c h = h
own_named (Context k) n c h = h

added_named : (batch : ℕ) (x : Counter) (n : ℤ) (c : Cpu) → PartNamesInOrder c → PartNamesInOrder (added batch x n c)
added_named batch x n c h = either PartNamesInOrder (eqb (unsigned_abs n) batch) _ _ (λ full. own_named x n c h) (λ room. own_named x n c h)

module _ (trace : Trace) (s : State) where
  named_after : (one : CpuChange) (c : Cpu) → PartNamesInOrder c → PartNamesInOrder (cpu_after trace one s c)
  named_after (cpu_change.added x n) c h = added_named (batch_of trace x) x (own_of x c +ℤ n) c h
  named_after (cpu_change.cleared x) c h = own_named x (pos 0) c h
  named_after other c h = h

  -- a CPU logs an entry that names none
  tells : (i : ℕ) (e : Entry) (r : State) → r.cpus ≡ set s.cpus i (logged e (cpu_of i s)) → r.steps ≡ s.steps → NamesNone e → Logs trace s r
  tells i e r cpus steps none = entry_logs trace s r i (logged e (cpu_of i s)) cpus (logged_named e (cpu_of i s) none) steps

  logs_change : (one : Change) → IsUncounted one s → Logs trace s (apply trace one s)
  logs_change (change.stepped who kind) h = alone_logs trace s (apply trace (change.stepped who kind) s) who kind refl refl
  logs_change (change.of_cpu i one) h =
      entry_logs trace s (apply trace (change.of_cpu i one) s) i (cpu_after trace one s (cpu_of i s)) refl (named_after one (cpu_of i s)) refl
  logs_change (change.rewrote i task page works) h = absurd h
  logs_change (change.dirtied i task inode page works) h = absurd h
  logs_change (change.checked i check) h = absurd h
  logs_change (change.ended i task) h =
      entry_logs trace s (apply trace (change.ended i task) s) i (record (cpu_of i s) { local = fold leaked (cpu_of i s).local (task_of task s).writers })
      refl (λ k. k) refl
  logs_change (change.folded i (Domain d)) h = tells i (entry.Folded _) (apply trace (change.folded i (Domain d)) s) refl refl (λ a b. (refl, refl))
  logs_change (change.folded i (Context k)) h = tells i (entry.Folded _) (apply trace (change.folded i (Context k)) s) refl refl (λ a b. (refl, refl))
  logs_change (change.estimated i context estimate) h = absurd h
  logs_change (change.took_due i f now pair left) h =
      tells i (entry.Aged f pair.inode pair.due now) (apply trace (change.took_due i f now pair left) s) refl refl (λ a b. (refl, refl))
  logs_change (change.took_first i f pair left) h =
      tells i (entry.Taken f pair.inode) (apply trace (change.took_first i f pair left) s) refl refl (λ a b. (refl, refl))
  logs_change (change.noticed i f inode since left) h =
      tells i (entry.Noticed f inode since) (apply trace (change.noticed i f inode since left) s) refl refl (λ a b. (refl, refl))
  logs_change (change.claimed i f scan) h = tells i (entry.Claimed f (page_of scan)) (apply trace (change.claimed i f scan) s) refl refl (λ a b. (refl, refl))
  logs_change (change.flew i f inode pages until) h =
      tells i (entry.Batch f pages s.now until) (apply trace (change.flew i f inode pages until) s) refl refl (λ a b. (refl, refl))
  logs_change (change.completed i f context page left) h = absurd h
  logs_change (change.shared i d k pages) h = tells i (entry.Share d k pages) (apply trace (change.shared i d k pages) s) refl refl (λ a b. (refl, refl))
  logs_change (change.raised d hard) h = absurd h
  logs_change other h = quiet_logs trace s (apply trace other s) refl refl

module _ (trace : Trace) (i : ℕ) where
  pub turn_logs : (w : Whose) (s : State) → Logs trace s (begin_turn trace i w s)
  turn_logs = turn_keeps trace (Logs trace) (λ s h. h) (λ s u v p q h. q (p h)) (λ s one h. logs_change trace s one (uncounted one s h)) i

  pub plain_move_logs : (item : Silent) (s : State) → IsPlainMove item → Logs trace s (make_move trace i item s)
  plain_move_logs = move_keeps trace (Logs trace) (λ s h. h) (λ s u v p q h. q (p h)) (λ s one h. logs_change trace s one (uncounted one s h)) i

  pub uncounted_step_logs : (item : Step) (s : State) → IsUncountedStep item → Logs trace s (make_step trace i item s)
  uncounted_step_logs = uncounted_keeps trace (Logs trace) (λ s h. h) (λ s u v p q h. q (p h)) (logs_change trace) i
