-- The first faults of decisions, and of where checks stand.
use Rattle.std.proofs.Common.{◌≡◌, ℕ, ◌==◌, ◌^◌, Bool, true, false, List, [], ◌∷◌, Option, Some, None, IfSome, refl, sym, ◌∙◌, ap}
use Rattle.std.specs.Bool.{Decides}
use Rattle.std.proofs.lemmas.Bool.Decides.{Decides-and, Decides-eqb}
use Rattle.wbt_counter.specs.History.{at_least_zero}
use Rattle.wbt_estimate.specs.declared.estimate.Estimate.{Estimate}
use Rattle.wbt_flex.specs.declared.share.Fraction.{Fraction}
use Rattle.wbt_num.specs.Limits.{IsLawful as AreLawful}
use Rattle.wbt_num.specs.declared.limits.Limits.{Limits}
use Rattle.wbt_num.specs.declared.limits.TheConstants.{MAX_LIMIT}
use Rattle.wbt_pause.specs.Reads.{IsCounted}
use Rattle.wbt_pause.specs.declared.decision.Decision.{Decision}
use Rattle.wbt_pause.specs.declared.decision.Kind.{Kind}
use Rattle.wbt_pause.specs.declared.decision.Kind.TheVariants as kind
use Rattle.wbt_pause.specs.declared.reads.Task.{Task}
use Rattle.wbt_task.specs.History.{writer_of}
use Rattle.wbt_task.specs.declared.allowance.Due.{Due}
use Rattle.wbt_task.specs.declared.allowance.Due.TheVariants as due
use Rattle.wbt_task.specs.declared.history.Writer.{Writer}
use Rattle.wbt_trace.specs.declared.trace.Trace.{Trace}
use Rattle.wbt_journal.specs.declared.entry.CheckEntry.{CheckEntry}
use Rattle.wbt_journal.specs.declared.entry.DomainLine.{DomainLine}
use Rattle.wbt_journal.specs.declared.journal.Ending.{Ending}
use Rattle.wbt_journal.specs.declared.journal.Ending.TheVariants as ending
use Rattle.wbt_journal.specs.Checks.{DecidesBy, IsInRange, IsPart, IsRate, IsRead, are_lawful, decides_by, is_counted, is_in_range, is_part, is_rate, is_read, task_numbers, same_kind, same_bool, same_task, same_decision, asked_by, named_estimate, asked_fault, decision_fault, domains_read, domains_asked, same_numbers, is_due, due_of, IsQuiet, MayCheck, may_check, is_judged, StandsItem, due_fault, undue_fault, stands_fault, NoneDue, none_due, is_writer_quiet}
use Rattle.wbt_journal.specs.Checks as checks
use Rattle.wbt_journal.specs.Estimates.{decision_at}
use Rattle.wbt_journal.specs.Effects.{Write, effect}
use Rattle.wbt_journal.specs.Items.{Item, begins, tells}
use Rattle.wbt_journal.specs.Side.{Side, is_not_due, is_quiet, is_none_due, is_own_task, numbers_of}
use Rattle.wbt_journal.specs.Told.{Told}
use Rattle.wbt_journal.specs.Walk.{Tells}
use Rattle.wbt_journal.proofs.Faults.{like, is_true, is_le, is_less, is_given, always, test_tells, tells_like, both_tell, part_decides, part_tells, all_decides}

-- ---- tests of equality

kind_there : (a b : Kind) → same_kind a b ≡ true → a ≡ b
kind_there kind.Free kind.Free is = refl
kind_there kind.Free kind.Go is = cc
kind_there kind.Free kind.Exempt is = cc
kind_there kind.Free kind.Wait is = cc
kind_there kind.Go kind.Free is = cc
kind_there kind.Go kind.Go is = refl
kind_there kind.Go kind.Exempt is = cc
kind_there kind.Go kind.Wait is = cc
kind_there kind.Exempt kind.Free is = cc
kind_there kind.Exempt kind.Go is = cc
kind_there kind.Exempt kind.Exempt is = refl
kind_there kind.Exempt kind.Wait is = cc
kind_there kind.Wait kind.Free is = cc
kind_there kind.Wait kind.Go is = cc
kind_there kind.Wait kind.Exempt is = cc
kind_there kind.Wait kind.Wait is = refl

kind_self : (a : Kind) → same_kind a a ≡ true
kind_self kind.Free = refl
kind_self kind.Go = refl
kind_self kind.Exempt = refl
kind_self kind.Wait = refl

kind_decides : (a b : Kind) → Decides (same_kind a b) (a ≡ b)
kind_decides a b = (kind_there a b, λ is. ap (same_kind a) (sym is) ∙ kind_self a)

bool_there : (a b : Bool) → same_bool a b ≡ true → a ≡ b
bool_there true true is = refl
bool_there true false is = cc
bool_there false true is = cc
bool_there false false is = refl

bool_self : (a : Bool) → same_bool a a ≡ true
bool_self true = refl
bool_self false = refl

bool_decides : (a b : Bool) → Decides (same_bool a b) (a ≡ b)
bool_decides a b = (bool_there a b, λ is. ap (same_bool a) (sym is) ∙ bool_self a)

task_decides : (a b : Task) → Decides (same_task a b) (a ≡ b)
task_decides a b = like (same_task a b)
    (Decides-and _ _ (Decides-eqb a.nr_dirtied b.nr_dirtied) (Decides-and _ _ (Decides-eqb a.nr_dirtied_pause b.nr_dirtied_pause) (Decides-eqb a.paused_when b.paused_when)))
    (λ p. λ i. record { nr_dirtied = p.0 i; nr_dirtied_pause = p.1.0 i; paused_when = p.1.1 i })
    (λ is. ((λ i. (is i).nr_dirtied), ((λ i. (is i).nr_dirtied_pause), (λ i. (is i).paused_when))))

decision_decides : (a b : Decision) → Decides (same_decision a b) (a ≡ b)
decision_decides a b = like (same_decision a b)
    (Decides-and _ _ (kind_decides a.kind b.kind) (Decides-and _ _ (Decides-eqb a.pause b.pause) (Decides-and _ _ (Decides-eqb a.left b.left)
    (Decides-and _ _ (task_decides a.task b.task) (bool_decides a.exceeded b.exceeded)))))
    (λ p. λ i. record { kind = p.0 i; pause = p.1.0 i; left = p.1.1.0 i; task = p.1.1.1.0 i; exceeded = p.1.1.1.1 i })
    (λ is. ((λ i. (is i).kind), ((λ i. (is i).pause), ((λ i. (is i).left), ((λ i. (is i).task), (λ i. (is i).exceeded))))))

-- ---- decisions

lawful_decides : (limits : Limits) → Decides (are_lawful limits) (AreLawful limits)
lawful_decides limits = like (are_lawful limits)
    (Decides-and _ _ (is_le limits.bg limits.thresh) (Decides-and _ _ (is_le limits.thresh limits.hard) (is_le limits.hard MAX_LIMIT)))
    (λ p. record { bg_below_thresh = p.0; thresh_below_hard = p.1.0; hard_in_range = p.1.1 })
    (λ is. (is.bg_below_thresh, (is.thresh_below_hard, is.hard_in_range)))

share_decides : (share : Fraction) → Decides (is_part share) (IsPart share)
share_decides share = like (is_part share)
    (Decides-and _ _ (is_le 1 share.den) (Decides-and _ _ (is_le share.num share.den) (is_less share.den (2 ^ 41))))
    (λ p. record { some = p.0; within = p.1.0; few = p.1.1 }) (λ is. (is.some, (is.within, is.few)))

read_decides : (read : DomainLine) → Decides (is_read read) (IsRead read)
read_decides read = like (is_read read) (Decides-and _ _ (lawful_decides read.limits) (share_decides read.share))
    (λ p. record { limits = p.0; share = p.1 }) (λ is. (is.limits, is.share))

rate_decides : (estimate : Estimate) → Decides (is_rate estimate) (IsRate estimate)
rate_decides estimate = like (is_rate estimate)
    (Decides-and _ _ (is_le 1 estimate.avg) (Decides-and _ _ (is_less estimate.avg (2 ^ 44))
    (Decides-and _ _ (is_le 1 estimate.ratelimit) (is_less estimate.ratelimit (2 ^ 44)))))
    (λ p. record { usable = record { average = (p.0, p.1.0); ratelimit = p.1.1.0 }; ratelimit = p.1.1.1 })
    (λ is. (is.usable.average.0, (is.usable.average.1, (is.usable.ratelimit, is.ratelimit))))

counted_decides : (task : Task) → Decides (is_counted task) (IsCounted task)
counted_decides task = like (is_counted task)
    (Decides-and _ _ (is_less task.nr_dirtied (2 ^ 52)) (is_less task.nr_dirtied_pause (2 ^ 52)))
    (λ p. record { dirtied = p.0; allowance = p.1 }) (λ is. (is.dirtied, is.allowance))

range_decides : (check : CheckEntry) (estimate : Estimate) (task : Task) → Decides (is_in_range check estimate task) (IsInRange check estimate task)
range_decides check estimate task = like (is_in_range check estimate task)
    (Decides-and _ _ (read_decides check.global) (Decides-and _ _ (part_decides is_read IsRead read_decides check.cgroup)
    (Decides-and _ _ (is_less (at_least_zero check.count.value) (2 ^ 33)) (Decides-and _ _ (rate_decides estimate)
    (Decides-and _ _ (counted_decides task) (is_less check.now (2 ^ 62)))))))
    (λ p. record { global = p.0; cgroup = p.1.0; pages = p.1.1.0; rate = p.1.1.1.0; counted = p.1.1.1.1.0; moment = p.1.1.1.1.1 })
    (λ is. (is.global, (is.cgroup, (is.pages, (is.rate, (is.counted, is.moment))))))

by_decides : (trace : Trace) (s : Side) (check : CheckEntry) (named : Option Estimate) → Decides (decides_by trace s check named) (DecidesBy trace s check named)
by_decides trace s check None = ((λ is. cc), λ none. absurd none)
by_decides trace s check (Some estimate) = like (decides_by trace s check (Some estimate))
    (Decides-and _ _ (range_decides check estimate (task_numbers trace s check)) (decision_decides check.decision (asked_by trace s check estimate)))
    (λ p. record { in_range = p.0; asked = p.1 }) (λ is. (is.in_range, is.asked))

pub decision_tells : (trace : Trace) (opened : ℕ) (all : List Told) (s : Side) (item : Item) → Tells (decision_fault trace opened all s item) (checks.Decides trace opened all s item)
decision_tells trace opened all s (begins cpu) = always
decision_tells trace opened all s (tells cpu entry) =
    part_tells (asked_fault trace opened all s cpu) (λ (check : CheckEntry). is_own_task trace cpu check.task ≡ true → DecidesBy trace s check (named_estimate trace opened all check))
    (λ check. test_tells _ (decision_at check) (is_given (is_own_task trace cpu check.task) _ (by_decides trace s check (named_estimate trace opened all check)))) (effect entry).check

-- ---- where checks stand

due_there : (now : Due) → is_due now ≡ true → now ≡ due.Check
due_there due.Check is = refl
due_there due.No is = cc

due_decides : (now : Due) → Decides (is_due now) (now ≡ due.Check)
due_decides now = (due_there now, λ is. ap is_due is)

quiet_there : (now : Due) → is_not_due now ≡ true → now ≡ due.No
quiet_there due.No is = refl
quiet_there due.Check is = cc

quiet_decides : (now : Due) → Decides (is_not_due now) (now ≡ due.No)
quiet_decides now = (quiet_there now, λ is. ap is_not_due is)

none_decides : (trace : Trace) (s : Side) (task : ℕ) → Decides (is_none_due trace s task) (IsQuiet trace s task)
none_decides trace s task = all_decides (is_quiet s) (λ number. (writer_of s.cpu number).due ≡ due.No) (λ number. quiet_decides (writer_of s.cpu number).due) (numbers_of trace task)

numbers_there : (ms ns : List ℕ) → same_numbers ms ns ≡ true → ms ≡ ns
numbers_there [] [] is = refl
numbers_there [] (n ∷ ns) is = cc
numbers_there (m ∷ ms) [] is = cc
numbers_there (m ∷ ms) (n ∷ ns) is =
    let parts = (Decides-and (m == n) (same_numbers ms ns) (Decides-eqb m n) (numbers_there ms ns, λ same. both_same ms ns same)).0 is in
    (λ i. parts.0 i ∷ parts.1 i)
  where
    self : (ms : List ℕ) → same_numbers ms ms ≡ true
    self [] = refl
    self (m ∷ ms) = (Decides-and (m == m) (same_numbers ms ms) (Decides-eqb m m) (is_true (same_numbers ms ms))).1 (refl, self ms)

    both_same : (ms ns : List ℕ) → ms ≡ ns → same_numbers ms ns ≡ true
    both_same ms ns same = ap (same_numbers ms) (sym same) ∙ self ms

numbers_self : (ms : List ℕ) → same_numbers ms ms ≡ true
numbers_self [] = refl
numbers_self (m ∷ ms) = (Decides-and (m == m) (same_numbers ms ms) (Decides-eqb m m) (is_true (same_numbers ms ms))).1 (refl, numbers_self ms)

numbers_decide : (ms ns : List ℕ) → Decides (same_numbers ms ns) (ms ≡ ns)
numbers_decide ms ns = (numbers_there ms ns, λ is. ap (same_numbers ms) (sym is) ∙ numbers_self ms)

check_decides : (trace : Trace) (s : Side) (check : CheckEntry) → Decides (may_check trace s check) (MayCheck trace s check)
check_decides trace s check = like (may_check trace s check)
    (Decides-and _ _ (due_decides (due_of trace s check.task check.context))
    (Decides-and _ _ (Decides-eqb check.global.domain 0) (numbers_decide (domains_read check.cgroup) (domains_asked trace check.context))))
    (λ p. record { is_due = p.0; global = p.1.0; cgroup = p.1.1 })
    (λ m. (m.is_due, (m.global, m.cgroup)))

pub stands_tells : (trace : Trace) (s : Side) (item : Item) → Tells (stands_fault trace s item) (StandsItem trace s item)
stands_tells trace s (begins cpu) = always
stands_tells trace s (tells cpu entry) = tells_like _
    (both_tell _ _
    (part_tells (due_fault trace s cpu) (λ (write : Write). is_judged trace cpu write.task write.page ≡ true → IsQuiet trace s write.task)
    (λ write. test_tells _ 0 (is_given (is_judged trace cpu write.task write.page) _ (none_decides trace s write.task))) (effect entry).write)
    (part_tells (undue_fault trace s cpu) (λ (check : CheckEntry). is_own_task trace cpu check.task ≡ true → MayCheck trace s check)
    (λ check. test_tells _ (decision_at check) (is_given (is_own_task trace cpu check.task) _ (check_decides trace s check))) (effect entry).check))
    (λ both. record { write = both.0; check = both.1 })
    (λ stands. (stands.write, stands.check))

-- ---- at the end

writer_decides : (writer : Writer) → Decides (is_writer_quiet writer) (writer.due ≡ due.No)
writer_decides writer = quiet_decides writer.due

pub missing_decides : (end : Ending) (s : Side) → Decides (none_due end s) (NoneDue end s)
missing_decides ending.Done s = all_decides is_writer_quiet (λ (writer : Writer). writer.due ≡ due.No) writer_decides s.cpu.writers
missing_decides other s = ((λ is. tt), λ p. refl)
