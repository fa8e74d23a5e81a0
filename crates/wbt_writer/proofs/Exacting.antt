-- A turn of a CPU's writers from state to state.
use Rattle.std.proofs.Common.{◌≡◌, ℕ, suc, ◌+◌, ◌<◌, Bool, true, false, List, length, get_or, set, refl, sym, ap, ◌∙◌, subst, arith, eq-eqb, eqb-true, true≢false}
use Rattle.std.proofs.lemmas.List.{get_or-set_same, length-set}
use Rattle.wbt_writer.proofs.Common.{mark, CpuJournal, setting, Makes, Seated, Fresh, Trace, Kit, Seats, Stepped, Resting, Done, Halted, Spent, no_task, task_at, Sight, sight, OnlyPuts}
use Rattle.wbt_kit.specs.declared.turn.Turn.{Turn}
use Rattle.wbt_kit.specs.declared.turn.Turn.TheVariants.{Faulted, NoMemory}
use Rattle.wbt_queue.specs.Passes as queue
use Rattle.wbt_run_steps.specs.Inodes.{MarksInode as Marked}
use Rattle.wbt_writer.specs.Answers.{Goes}
use Rattle.wbt_writer.specs.Exact.{DirtiesPage, FinishTook, IsFirstFrom, MarksInode, PutsBefore, PutsInode, PutsNext, PutsWaiting, TakesSome, TakesTurn, TookBy, WriteTook, WriterTakes, WritesNone, after_its_page, was_clean}
use Rattle.wbt_writer.specs.declared.task.TaskPlace.{TaskPlace}
use Rattle.wbt_writer.specs.declared.tasks.Tasks.{Tasks}
use Rattle.wbt_writer.specs.declared.work.WriterWork.{WriterWork}
use Rattle.wbt_writer.specs.declared.write.Wrote.{Wrote}
use Rattle.wbt_writer.specs.declared.write.Wrote.TheVariants as wrote_it
use Rattle.wbt_writer.proofs.Going.{with_tasks}

-- ---- queues

pub puts_more : (trace : Trace) (kit : Kit) (k : ℕ) (old mid new : queue.Seats) (was between is : List Bool) → PutsBefore trace kit k old mid was between → PutsNext trace kit k mid new between is
    → PutsBefore trace kit (k + 1) old new was is
puts_more trace kit k old mid new was between is before next =
    let last : suc k ≡ k + 1 = omega arith in
    subst (λ (n : ℕ). PutsBefore trace kit n old new was is) last (mid, between, before, next)

pub puts_waiting : (trace : Trace) (kit : Kit) (was is : WriterWork) (old new : Seats) (log : CpuJournal) → OnlyPuts was is old new
    → PutsBefore trace kit (length trace.inodes) old.queue new.queue was.waiting.items is.waiting.items → PutsWaiting trace kit (sight was old log) (sight is new log)
puts_waiting trace kit was is old new log only puts = record {
  puts = puts;
  tasks = only.tasks;
  fractions = only.fractions;
  cpu = only.cpu;
  share = only.share;
  est = only.est;
  log = refl;
}

-- ---- a mark

pub marks_put : (trace : Trace) (kit : Kit) (cpu inode : ℕ) (clear : Bool) (old mid new : Seats) (was is : WriterWork) (m : Marked kit cpu inode clear old mid) → clear ≡ true → OnlyPuts was is mid new
    → PutsInode trace kit inode mid.queue new.queue was.waiting.items is.waiting.items → MarksInode trace kit cpu inode old new was.waiting.items is.waiting.items
marks_put trace kit cpu inode clear old mid new was is m some only puts = record {
  found = m.found;
  makes = subst (λ (s : Seated). Makes (setting kit.throttle.layout) (mark cpu inode) m.found old.cpu s) (sym only.cpu) m.makes;
  puts = λ none. subst (λ (q : queue.Seats). PutsInode trace kit inode q new.queue was.waiting.items is.waiting.items) m.only.queue puts;
  puts_none = λ other. absurd (other (eqb-true m.found 0 (sym m.is_clear ∙ some)));
  share = only.share ∙ m.only.share;
  est = only.est ∙ m.only.est;
}

pub marks_alone : (trace : Trace) (kit : Kit) (cpu inode : ℕ) (clear : Bool) (old new : Seats) (waiting : List Bool) (m : Marked kit cpu inode clear old new) → clear ≡ false
    → MarksInode trace kit cpu inode old new waiting waiting
marks_alone trace kit cpu inode clear old new waiting m none = record {
  found = m.found;
  makes = m.makes;
  puts = λ found. absurd (true≢false (sym (eq-eqb m.found 0 found) ∙ sym m.is_clear ∙ none));
  puts_none = λ other. (m.only.queue, refl);
  share = m.only.share;
  est = m.only.est;
}

-- ---- a rest

-- a task that stands at another action, rests until a moment, and has ended or not
pub rests_at : (x t : TaskPlace) (a until : ℕ) (ended : Bool) → x ≡ record t { at = a; rest = until; ended = ended } → x ≡ record t { at = x.at; rest = until; ended = x.ended }
rests_at x t a until ended is = subst (λ (y : TaskPlace). y ≡ record t { at = y.at; rest = until; ended = y.ended }) (sym is) refl

pub next_at : (trace : Trace) (task a : ℕ) (was t x : TaskPlace) → was ≡ t → x.at ≡ a → IsFirstFrom trace task (was.at + 1) a → IsFirstFrom trace task (t.at + 1) x.at
next_at trace task a was t x same at first = subst (λ (z : ℕ × ℕ). IsFirstFrom trace task (z.0 + 1) z.1) (λ i. ((same i).at, sym at i)) first

-- the last of two puts of a task stands
pub put_here : (a b d : Tasks) (task : ℕ) (x y : TaskPlace) → b.tasks.items ≡ set a.tasks.items task x → d.tasks.items ≡ set b.tasks.items task y → task < length a.tasks.items → task_at d task ≡ y
put_here a b d task x y one two there =
    let long : length b.tasks.items ≡ length a.tasks.items = ap (λ (l : List TaskPlace). length l) one ∙ length-set a.tasks.items task x in
    ap (λ (l : List TaskPlace). get_or l task no_task) two ∙ get_or-set_same b.tasks.items task y no_task (omega arith)

-- ---- a write

pub write_took : (trace : Trace) (kit : Kit) (cpu task inode page : ℕ) (said : ℕ → ℕ → Bool → Type 0) (old mid new : Sight) (answer : Wrote) → DirtiesPage trace kit task inode page Fresh old mid
    → FinishTook trace kit cpu inode said answer mid new → WriteTook trace kit cpu task inode page said answer old new
write_took trace kit cpu task inode page said old mid new wrote_it.Fresh d f = was_clean mid d f
write_took trace kit cpu task inode page said old mid new wrote_it.Stopped d f = after_its_page mid d f
write_took trace kit cpu task inode page said old mid new wrote_it.Already d f = absurd f
write_took trace kit cpu task inode page said old mid new wrote_it.Spent d f = absurd f

-- ---- a task's turn

module _ (told : ℕ → Type 0) (said : ℕ → ℕ → Bool → Type 0) (trace : Trace) (kit : Kit) (cpu task now : ℕ) (work : WriterWork) (seats : Seats) (log : CpuJournal) (mid : Tasks) (only : mid ≡ record work.tasks { next = task + 1 })
    (goes : Goes told work.tasks now task) (new : Sight) where
  pub takes : TakesTurn trace kit now cpu task said (sight (with_tasks work mid) seats log) new → TookBy told said trace kit cpu Stepped (sight work seats log) new
  takes turn = (now, task, goes, subst (λ (s : Tasks). TakesTurn trace kit now cpu task said (sight (with_tasks work s) seats log) new) only turn)

  pub takes_some : TakesSome trace kit cpu task said (sight (with_tasks work mid) seats log) new → TookBy told said trace kit cpu Halted (sight work seats log) new
  takes_some turn = (now, task, goes, subst (λ (s : Tasks). TakesSome trace kit cpu task said (sight (with_tasks work s) seats log) new) only turn)

  pub takes_none : WritesNone trace task (sight (with_tasks work mid) seats log) new → TookBy told said trace kit cpu Spent (sight work seats log) new
  takes_none turn = (now, task, goes, subst (λ (s : Tasks). WritesNone trace task (sight (with_tasks work s) seats log) new) only turn)

-- ---- the turn

pub took_after : (told : ℕ → Type 0) (said : ℕ → ℕ → Bool → Type 0) (trace : Trace) (kit : Kit) (cpu : ℕ) (answer : Turn) (old put new : Sight) → PutsWaiting trace kit old put → TookBy told said trace kit cpu answer put new
    → WriterTakes told said trace kit cpu answer old new
took_after told said trace kit cpu Stepped old put new puts took = record { put = put; puts = puts; took = took }
took_after told said trace kit cpu (Resting now until) old put new puts took = record { put = put; puts = puts; took = took }
took_after told said trace kit cpu Done old put new puts took = record { put = put; puts = puts; took = took }
took_after told said trace kit cpu Halted old put new puts took = record { put = put; puts = puts; took = took }
took_after told said trace kit cpu Spent old put new puts took = record { put = put; puts = puts; took = took }
took_after told said trace kit cpu NoMemory old put new puts took = absurd took
took_after told said trace kit cpu Faulted old put new puts took = absurd took
