-- What holds of a task, of its writer and of their context.
use Rattle.std.proofs.Common.{◌≡◌, ℕ, ◌<◌, true, eqb, [], ◌∷◌, length, get_or, Option, Some, None, refl, sym, ap, ◌∙◌, subst, arith, eq-eqb, ne_eqb, true≢false, nat_lt}
use Rattle.std.proofs.lemmas.Bool.{cond-false, cond-true, lt-ltb, ltb-true}
use Rattle.std.proofs.lemmas.List.Elements.{All-get_or}
use Rattle.wbt_writer.proofs.Common.{is_due, cgroup_reads, Each, context_domain, contexts, all_writers, is_own_task, number_of, CheckEntry, DomainLine, context_at, writer_of, IsLawful, Trace, Kit, Seats, Due, IsTaskOf, cpu_of, is_due_at, no_name, side_of, task_at, AreAt, IsGoing, IsGroup, DomainLoad, HasGroupLine}
use Rattle.wbt_kit.proofs.Common.{domains, Context}
use Rattle.wbt_journal.specs.Checks.{MayCheck, domains_asked, domains_read, due_of}
use Rattle.wbt_task.specs.declared.allowance.Due.TheVariants as due
use Rattle.wbt_trace.specs.Lawful.{IsContext}
use Rattle.wbt_trace.specs.declared.writers.Writer.{Writer as Name}
use Rattle.wbt_run_laws.specs.Owns.{IsOwnCheck}
use Rattle.wbt_writer.specs.declared.task.TaskPlace.{TaskPlace}
use Rattle.wbt_writer.specs.declared.work.WriterWork.{WriterWork}
use Rattle.wbt_writer.proofs.Pairs.{its_pair}
use Rattle.wbt_writer.proofs.Settling.{and_left, and_right}
use Rattle.wbt_writer.proofs.Sharing.{IsGroupLine}

-- ---- contexts

pub domain_below : (trace : Trace) → IsLawful trace → (k : ℕ) → k < contexts trace → context_domain trace k < domains trace
domain_below trace lawful k there =
    let none : Context = record { device = 0; domain = 0; expire = None; estimate = None } in
    let at : IsContext (length trace.devices) (length trace.cgroups) (get_or trace.contexts k none) = All-get_or (IsContext (length trace.devices) (length trace.cgroups)) trace.contexts k none there lawful.within.contexts in
    let low = at.1 in omega arith

pub device_below : (trace : Trace) → IsLawful trace → (k : ℕ) → k < contexts trace → (context_at trace k).device < length trace.devices
device_below trace lawful k there =
    let none : Context = record { device = 0; domain = 0; expire = None; estimate = None } in
    (All-get_or (IsContext (length trace.devices) (length trace.cgroups)) trace.contexts k none there lawful.within.contexts).0

-- ---- a writer whose check is due

due_check : (d : Due) → is_due d ≡ true → d ≡ due.Check
due_check due.Check is = refl
due_check due.No is = absurd (true≢false (sym is))

module _ (trace : Trace) (cpu : ℕ) (kit : Kit) (work : WriterWork) (seats : Seats) (at : AreAt trace cpu kit work seats) (task : ℕ) (going : IsGoing trace work.tasks task)
    (is_due_now : is_due_at (cpu_of work.tasks) (task_at work.tasks task).writer ≡ true) where
  abbrev t : TaskPlace
  t = task_at work.tasks task

  pub inside : t.writer < length work.tasks.writers.items
  inside = ltb-true t.writer (length work.tasks.writers.items) (and_left (nat_lt t.writer (length work.tasks.writers.items)) (is_due (writer_of (cpu_of work.tasks) t.writer).due) is_due_now)

  pub its_due : (writer_of (cpu_of work.tasks) t.writer).due ≡ due.Check
  its_due = due_check (writer_of (cpu_of work.tasks) t.writer).due (and_right (nat_lt t.writer (length work.tasks.writers.items)) (is_due (writer_of (cpu_of work.tasks) t.writer).due) is_due_now)

  its : IsTaskOf trace (cpu_of work.tasks) task t
  its = at.is_work.tasks.counted.each task going.there

  pub among : t.writer < length (all_writers trace)
  among = let long = at.is_work.tasks.counted.as_long in let low = inside in omega arith

  pub number_is : number_of trace task t.context ≡ t.writer
  number_is = its.last.number inside

  pub its_own : get_or (all_writers trace) t.writer no_name ≡ record { task = task; context = t.context }
  its_own = its.last.its_own inside

  pub context_there : t.context < contexts trace
  context_there = subst (λ (w : Name). w.context < contexts trace) its_own (its_pair trace at.is_work.lawful t.writer among).1

  pub is_own : is_own_task trace cpu task ≡ true
  is_own = sym (at.its.own task going.there) ∙ going.own

  pub own_check : (check : CheckEntry) → check.task ≡ task → check.context ≡ t.context → check.global.domain ≡ 0 → IsGroupLine (context_domain trace t.context) check.cgroup → IsOwnCheck trace cpu check
  own_check check task_is context_is zero_is group_is = record {
    own = ap (is_own_task trace cpu) task_is ∙ is_own;
    context = lt-ltb check.context (contexts trace) (let there = context_there in omega arith);
    each_domain = (lt-ltb check.global.domain (domains trace) (omega arith), rest check.cgroup group_is);
  }
    where
      rest : (line : Option DomainLine) → IsGroupLine (context_domain trace t.context) line → Each (λ (read : DomainLine). nat_lt read.domain (domains trace) ≡ true) (cgroup_reads line)
      rest None is = tt
      rest (Some line) is = (lt-ltb line.domain (domains trace) (let low = domain_below trace at.is_work.lawful t.context context_there in let same = is.1 in omega arith), tt)

  pub may_check : (check : CheckEntry) → check.task ≡ task → check.context ≡ t.context → check.global.domain ≡ 0 → IsGroupLine (context_domain trace t.context) check.cgroup → MayCheck trace (side_of work.tasks) check
  may_check check task_is context_is zero_is group_is = record {
    is_due = ap (λ (z : ℕ × ℕ). due_of trace (side_of work.tasks) z.0 z.1) (λ i. (task_is i, context_is i)) ∙ ap (λ (n : ℕ). (writer_of (cpu_of work.tasks) n).due) number_is ∙ its_due;
    global = zero_is;
    cgroup = asked check.cgroup group_is ∙ ap (domains_asked trace) (sym context_is);
  }
    where
      asked : (line : Option DomainLine) → IsGroupLine (context_domain trace t.context) line → domains_read line ≡ domains_asked trace t.context
      asked None is = sym (cond-true (eqb (context_domain trace t.context) 0) [] (context_domain trace t.context ∷ []) (eq-eqb (context_domain trace t.context) 0 is))
      asked (Some line) is = ap (λ (d : ℕ). d ∷ []) is.1 ∙ sym (cond-false (eqb (context_domain trace t.context) 0) [] (context_domain trace t.context ∷ []) (ne_eqb (context_domain trace t.context) 0 is.0))

-- the line is the cgroup's, as the load is
pub group_line_is : (group : ℕ) (load : Option DomainLoad) (line : Option DomainLine) → IsGroup group load → HasGroupLine load line → IsGroupLine group line
group_line_is group None None is has = is
group_line_is group None (Some line) is has = absurd has
group_line_is group (Some load) None is has = absurd has
group_line_is group (Some load) (Some line) is has = (is.0, has.domain ∙ is.1)
