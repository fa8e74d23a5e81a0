-- The check of a task is decided.
use Rattle.std.proofs.Common.{◌≡◌, ◌≢◌, ℕ, ◌+◌, ◌^◌, ◌<◌, ◌≤◌, max, Bool, true, false, cond, eqb, [], ◌∷◌, ◌++◌, length, refl, sym, ◌∙◌, ap, arith}
use Rattle.std.specs.List.{sum_by}
use Rattle.std.proofs.Math.ListN.{set}
use Rattle.std.proofs.lemmas.List.{length-set}
use Rattle.std.proofs.lemmas.List.Elements.{All-set, All-get_or}
use Rattle.wbt_replay_order.proofs.Common.{at_least_zero, CheckEntry, Decision, Reads, is_strict, context_at, device_at, decision_for, new_writer, checked_writer, Writer, Trace, writer_in, writer_of, global_line, check_of, told_task, decide_so, decide_for, State, cpu_of, task_of, writeback_of, ReplayTask, Facts, IsTaskOn, silent_ticks, IsClosed, IsTask, WriterFits, dirtied_of, dirtied_by}
use Rattle.wbt_journal.specs.declared.entry.Entry.TheVariants as entry
use Rattle.wbt_pause.proofs.Deciding.{longest_within_200}
use Rattle.wbt_pause.specs.declared.decision.Kind.{Kind}
use Rattle.wbt_pause.specs.declared.decision.Kind.TheVariants.{Exempt, Free as IsFree, Go, Wait}
use Rattle.wbt_rules.proofs.Parts.{part_is_within}
use Rattle.wbt_strict.proofs.Deciding.{counts_no_more, leaves_within_cap, pauses_within_longest}
use Rattle.wbt_task.specs.History.{due_again}
use Rattle.wbt_task.specs.declared.allowance.Due.TheVariants as due
use Rattle.wbt_trace.specs.Sofar.{least_shares}
use Rattle.wbt_replay_moves.specs.Definition.Check.{reads_of}
use Rattle.wbt_replay_moves.specs.declared.state.Whose.TheVariants as whose
use Rattle.wbt_replay_ranges.proofs.Sound.Allowances.{allowance_small}
use Rattle.wbt_replay_ranges.proofs.Sound.FlusherTurn.{turn_task}
use Rattle.wbt_replay_ranges.proofs.Sound.Going.{Going}
use Rattle.wbt_replay_order.proofs.Lists.Numbered.{is_there, set_all, sum_set}
use Rattle.wbt_replay_ranges.proofs.Sound.Own.{Free, Done, done_free, logged_going, logged_free, logged_whose}

-- ---- writers

pub new_is_not_due : (new_writer 0).due ≡ due.No
unfolding new_writer
new_is_not_due = refl

-- the writer of a context whose check is due is there
pub due_there : (k : ℕ) (t : ReplayTask) → (writer_in k t).due ≡ due.Check → k < length t.writers
due_there k t h = is_there t.writers k (new_writer 0) (λ e. let other : due.No ≡ due.Check = sym new_is_not_due ∙ (ap (λ (w : Writer). w.due) (sym e) ∙ h) in absurd (cc other))

again_no : (kind : Kind) → due_again kind ≡ due.No → kind ≢ Wait
again_no IsFree h e = absurd (cc e)
again_no Go h e = absurd (cc e)
again_no Exempt h e = absurd (cc e)
again_no Wait h e = absurd (cc h)

-- pages that the task's writers count, where one of them counts no more than before
pub dirtied_less : (t : ReplayTask) (k : ℕ) (w : Writer) → k < length t.writers → w.task.nr_dirtied ≤ (writer_in k t).task.nr_dirtied → (x : ReplayTask) → x.ended ≡ t.ended → x.writers ≡ set t.writers k w → dirtied_of x ≤ dirtied_of t
dirtied_less t k w there less x ends writers = by_end x.ended t.ended ends
  where
    sum_less : sum_by dirtied_by x.writers ≤ sum_by dirtied_by t.writers
    sum_less = let e = sum_set dirtied_by t.writers k w (new_writer 0) there in let f : sum_by dirtied_by x.writers ≡ sum_by dirtied_by (set t.writers k w) = ap (sum_by dirtied_by) writers in omega (arith, e, f, less)

    by_end : (a b : Bool) → a ≡ b → cond a 0 (sum_by dirtied_by x.writers) ≤ cond b 0 (sum_by dirtied_by t.writers)
    by_end true true e = omega arith
    by_end true false e = omega arith
    by_end false true e = absurd (cc e)
    by_end false false e = sum_less

module _ (trace : Trace) (facts : Facts trace) (i : ℕ) (less : i < trace.cpus) where
  -- A task's turn closes no flusher.
  pub task_closed : (k : ℕ) (s : State) → (cpu_of i s).turn.whose ≡ whose.Task k → IsClosed trace s.flushers i (cpu_of i s)
  task_closed k s turn f on e none = let other : whose.Task k ≡ whose.Flusher f = sym turn ∙ e in absurd (cc other)

  module _ (k : ℕ) (s : State) (on : IsTaskOn trace i k) (turn : (cpu_of i s).turn.whose ≡ whose.Task k) (is_due : (writer_of (task_of k s)).due ≡ due.Check) where
    told_fits : (d : Decision) → Going trace i 0 silent_ticks s → d.task.nr_dirtied ≤ (writer_of (task_of k s)).task.nr_dirtied → d.task.nr_dirtied_pause ≤ 2 ^ 42 → d.left ≤ trace.cap → (d.kind ≢ Wait → 1 ≤ d.left)
        → IsTask trace (length s.steps) k (told_task s.now (task_of k s).context d (task_of k s))
    told_fits d g fewer allowance left some =
        let t : ReplayTask = task_of k s in
        let h = g.holds.tasks.each k on.there in
        let there = due_there t.context t is_due in
        let old : WriterFits trace (length s.steps) (writer_of t) = All-get_or (WriterFits trace (length s.steps)) t.writers t.context (new_writer 0) there h.fit in
        record {
          works = h.works;
          context = h.context;
          writers = length-set t.writers t.context (checked_writer d) ∙ h.writers;
          fit = All-set (WriterFits trace (length s.steps)) t.writers t.context (checked_writer d)
              (record { dirtied = omega (arith, fewer, old.dirtied); allowance = allowance; left = left; some_left = λ e. some (again_no d.kind e) }) h.fit;
          due = set_all (λ j (w : Writer). w.due ≡ due.Check → j ≡ t.context) t.writers t.context (checked_writer d) (new_writer 0) (λ e. refl) h.due;
          ended = h.ended;
          last = h.last;
          pace = h.pace;
          since = h.since;
        }

    rest_small : (n now pause rest : ℕ) → pause ≤ n → cond (eqb pause 0) rest (now + pause) ≤ max rest (now + n)
    rest_small n now pause rest h = cut (eqb pause 0)
      where
        cut : (b : Bool) → cond b rest (now + pause) ≤ max rest (now + n)
        cut true = omega arith
        cut false = omega (arith, h)

    so_done : (d : Decision) → Going trace i 0 silent_ticks s → Free trace i 2 s → d.task.nr_dirtied ≤ (writer_of (task_of k s)).task.nr_dirtied → d.task.nr_dirtied_pause ≤ 2 ^ 42 → d.left ≤ trace.cap → (d.kind ≢ Wait → 1 ≤ d.left)
        → d.pause ≤ silent_ticks → Done trace i (decide_so trace i k (task_of k s).context d s)
    so_done d g free fewer allowance left some pause =
        let t : ReplayTask = task_of k s in
        let x : ReplayTask = told_task s.now t.context d t in
        let there = due_there t.context t is_due in
        let m = turn_task trace facts i less k x 0 0 silent_ticks 0 silent_ticks s on turn g free (told_fits d g fewer allowance left some) refl
        (let l = dirtied_less t t.context (checked_writer d) there fewer x refl refl in omega (arith, l)) (omega arith)
        (rest_small silent_ticks s.now d.pause t.rest pause) (omega arith) in
        let y : State = record s { tasks = set s.tasks k x } in
        let check : CheckEntry = check_of trace k t.context (cpu_of i s).turn d s in
        let es = (cpu_of i s).entries ++ entry.Check (length (cpu_of i s).checks) ∷ [] in
        let cs = (cpu_of i s).checks ++ check ∷ [] in
        let logged = logged_going trace facts i less es cs (cpu_of i s).estimates 0 0 y m.going in
        let lfree = logged_free trace facts i less es cs (cpu_of i s).estimates 2 0 0 y m.going m.free in
        let z : State = record y { cpus = set y.cpus i (record (cpu_of i s) { entries = es; checks = cs }) } in
        done_free trace i 2 z logged (task_closed k z (logged_whose trace facts i less es cs (cpu_of i s).estimates 0 0 y m.going ∙ turn)) lfree

    pub decide_done : Going trace i 0 silent_ticks s → Free trace i 2 s → Done trace i (decide_for trace i k (task_of k s).context s)
    decide_done g free =
        let t : ReplayTask = task_of k s in
        let h = g.holds.tasks.each k on.there in
        let there = due_there t.context t is_due in
        let at : t.context < length trace.contexts = omega (arith, there, h.writers) in
        let old : WriterFits trace (length s.steps) (writer_of t) = All-get_or (WriterFits trace (length s.steps)) t.writers t.context (new_writer 0) there h.fit in
        let reads : Reads = reads_of trace t.context (cpu_of i s).turn s in
        let estimate = (writeback_of t.context s).estimate in
        let sound = (g.holds.contexts.each t.context at).estimate in
        let strict = is_strict trace t.context in
        let device = (context_at trace t.context).device in
        let line = global_line t.context (cpu_of i s).turn s in
        let part = part_is_within (device_at trace device) (least_shares trace.devices) line.limits line.share (at_least_zero line.count.value) (facts.shares device (facts.context_device t.context at)).1 in
        let leaves = leaves_within_cap strict reads estimate (writer_of t).task s.now facts.some_cap in
        let lawful = (g.holds.cpus.each i less).turn.global in
        let few = g.holds.few in
        let long = g.holds.long in
        let pause = pauses_within_longest strict reads estimate (writer_of t).task s.now in
        let longest = longest_within_200 reads.wb_dirty estimate.avg in
        so_done (decision_for strict reads estimate (writer_of t).task s.now) g free (counts_no_more strict reads estimate (writer_of t).task s.now)
        (allowance_small (writer_of t).task s.now (omega (arith, old.dirtied, few, long)) old.allowance reads estimate lawful part sound.ratelimit.1 strict)
        leaves.0 leaves.1 (omega (arith, pause, longest))
