-- A turn of a CPU's writers: what was put before a task's turn.
use Rattle.std.proofs.Common.{◌≡◌, ℕ, Bool, List, [], get_or, length, refl, sym, ap, subst}
use Rattle.wbt_fraction.specs.Several as fraction
use Rattle.wbt_writer.proofs.Common.{Told, CpuJournal, Seated, Trace, Kit, Seats, Stepped, Resting, Done, Halted, Spent, Turned, AllEnded, AreAt, Sight, no_fractions, sight, Did, OnlyPuts, LinesRead, IsCheck}
use Rattle.wbt_kit.specs.declared.turn.Turn.{Turn}
use Rattle.wbt_kit.specs.declared.turn.Turn.TheVariants.{Faulted, NoMemory}
use Rattle.wbt_published.specs.Passes as est
use Rattle.wbt_writer.specs.Answers.{HasMemory, Idles, WriterAnswers}
use Rattle.wbt_writer.specs.Choice.{IsChosen}
use Rattle.wbt_writer.specs.Took.{Took, checks, rests, writes_already, writes_fresh}
use Rattle.wbt_writer.specs.declared.choose.Chosen.TheVariants as chosen
use Rattle.wbt_writer.specs.declared.tasks.Tasks.{Tasks}
use Rattle.wbt_writer.specs.declared.work.Fractions.{Fractions}
use Rattle.wbt_writer.specs.declared.work.WriterWork.{WriterWork}
use Rattle.wbt_writer.proofs.Marking.{puts_do}
use Rattle.wbt_writer.proofs.Noting.{did_more}
use Rattle.wbt_writer.proofs.Over.{all_done}
use Rattle.wbt_writer.proofs.Writing.{does_none}

module _ (told : ℕ → Type 0) (said : ℕ → ℕ → Bool → Type 0) (trace : Trace) (kit : Kit) (cpu : ℕ) (was is : WriterWork) (old mid : Seats) (log : CpuJournal) (puts : OnlyPuts was is old mid) where
  abbrev opened : ℕ
  opened = kit.published.moment

  -- as it was, but for queues, and for which inodes wait
  abbrev put_sight : (tasks : Tasks) (cpus : Seated) (parts : fraction.Seats) (pass : est.Seats) → Sight
  put_sight tasks cpus parts pass = sight (record { tasks = tasks; fractions = is.fractions; waiting = is.waiting }) (record { cpu = cpus; share = parts; est = pass; queue = mid.queue }) log

  abbrev between : Sight
  between = put_sight was.tasks old.cpu old.share old.est

  is_between : put_sight is.tasks mid.cpu mid.share mid.est ≡ between
  is_between = ap (λ (z : Tasks × Seated × fraction.Seats × est.Seats). put_sight z.0 z.1 z.2 z.3) (λ i. (puts.tasks i, puts.cpu i, puts.share i, puts.est i))

  check_from : (task : ℕ) (added : List Told) (new : Sight) → IsCheck trace kit cpu task added between new → IsCheck trace kit cpu task added (sight was old log) new
  check_from task added new c = record {
    check = c.check;
    added_is = c.added_is;
    its_task = c.its_task;
    its_context = c.its_context;
    due = c.due;
    readings = c.readings;
    triples = c.triples;
    holds = c.holds;
    fractions = subst (λ (l : List Fractions). LinesRead c.check.context (record { global = c.check.global; cgroup = c.check.cgroup }) (get_or l c.check.context no_fractions) old.share new.seats.share) puts.fractions c.fractions;
    estimate = c.estimate;
    named = c.named;
    estimated = c.estimated;
    decision = c.decision;
    rests = c.rests;
  }

  took_from : (now task : ℕ) (added : List Told) (new : Sight) → Took trace kit now cpu task added between new → Took trace kit now cpu task added (sight was old log) new
  took_from now task added new (checks c) = checks (check_from task added new c)
  took_from now task added new (rests r) = rests (record { ticks = r.ticks; its_job = r.its_job; none_told = r.none_told; cpu = r.cpu; share = r.share; est = r.est; rests = r.rests })
  took_from now task added new (writes_already w) = writes_already (record { inode = w.inode; page = w.page; its_job = w.its_job; added_is = w.added_is })
  took_from now task added new (writes_fresh w) = writes_fresh (record {
    inode = w.inode;
    page = w.page;
    its_job = w.its_job;
    folds = w.folds;
    added_is = w.added_is;
    each_fold = w.each_fold;
    before_mark = w.before_mark;
    marks = w.marks;
  })

  idles_from : (new : Sight) → Idles between new → Idles (sight was old log) new
  idles_from new i = record { cpu = i.cpu; share = i.share; est = i.est; log = i.log }

  answers_from : (answer : Turn) (added : List Told) (new : Sight) → HasMemory answer → WriterAnswers told said trace cpu kit answer added between new → WriterAnswers told said trace cpu kit answer added (sight was old log) new
  answers_from Stepped added new memory a = (a.0, a.1, a.2, took_from a.0 a.1 added new a.3)
  answers_from (Resting now until) added new memory a = (a.0, a.1, idles_from new a.2, a.3)
  answers_from Done added new memory a = (a.0, a.1, idles_from new a.2, a.3, a.4)
  answers_from Halted added new memory a = a
  answers_from Spent added new memory a = (a.0, a.1, a.2, a.3, idles_from new a.4, a.5)
  answers_from NoMemory added new memory a = absurd memory
  answers_from Faulted added new memory a = absurd a

  pub turned_from : (answer : Turn) (new : Sight) → HasMemory answer → Turned told said trace cpu kit answer (sight is mid log) new → Turned told said trace cpu kit answer (sight was old log) new
  turned_from answer new memory t = record {
    moments = t.moments;
    were_told = t.were_told;
    added = t.added;
    did = did_more trace opened cpu t.moments [] t.added (sight was old log) (sight is mid log) new (puts_do trace opened cpu was is old mid log puts t.moments) t.did;
    holds = t.holds;
    answers = answers_from answer t.added new memory (subst (λ (s : Sight). WriterAnswers told said trace cpu kit answer t.added s new) is_between t.answers);
  }

  -- ---- no task may begin

  idle : Idles (sight was old log) (sight is mid log)
  idle = record { cpu = puts.cpu; share = puts.share; est = puts.est; log = refl }

  pub turned_done : AreAt trace cpu kit is mid → (now : ℕ) → IsChosen is.tasks now chosen.Done → Turned told said trace cpu kit Done (sight was old log) (sight is mid log)
  turned_done at now none = record {
    moments = [];
    were_told = tt;
    added = [];
    did = puts_do trace opened cpu was is old mid log puts [];
    holds = tt;
    answers = (now, subst (λ (s : Tasks). IsChosen s now chosen.Done) puts.tasks none, idle, puts.tasks, all_done trace is.tasks at.is_work.lawful at.is_work.tasks at.is_work.over none);
  }

  -- all had ended before
  pub turned_ended : AreAt trace cpu kit is mid → AllEnded was.tasks 0 (length was.tasks.tasks.items) → Turned told said trace cpu kit Done (sight was old log) (sight is mid log)
  turned_ended at all = turned_done at 0 (subst (λ (s : Tasks). AllEnded s 0 (length s.tasks.items)) (sym puts.tasks) all)

  pub turned_resting : (now until : ℕ) → told now → IsChosen is.tasks now (chosen.Resting until) → Turned told said trace cpu kit (Resting now until) (sight was old log) (sight is mid log)
  turned_resting now until was_told all = record {
    moments = [];
    were_told = tt;
    added = [];
    did = puts_do trace opened cpu was is old mid log puts [];
    holds = tt;
    answers = (was_told, subst (λ (s : Tasks). IsChosen s now (chosen.Resting until)) puts.tasks all, idle, puts.tasks);
  }

-- ---- there was no memory

pub turned_none : (told : ℕ → Type 0) (said : ℕ → ℕ → Bool → Type 0) (trace : Trace) (kit : Kit) (cpu : ℕ) (work : WriterWork) (seats : Seats) (before behind : CpuJournal) → behind ≡ before
    → Turned told said trace cpu kit NoMemory (sight work seats before) (sight work seats behind)
turned_none told said trace kit cpu work seats before behind same = record {
  moments = [];
  were_told = tt;
  added = [];
  did = subst (λ (l : CpuJournal). Did trace kit.published.moment cpu [] [] (sight work seats before) (sight work seats l)) (sym same) (does_none trace kit.published.moment cpu work seats before []);
  holds = tt;
  answers = ap (λ (l : CpuJournal). sight work seats l) same;
}
