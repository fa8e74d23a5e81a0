-- Single steps and entries along the walks.
use Rattle.std.proofs.Common.{◌≡◌, ◌≢◌, ℕ, ◌+◌, ◌≤◌, true, ◌&&◌, cond, eqb, List, [], ◌∷◌, ◌++◌, slice_get, sym, refl, ap, ◌∙◌, subst, arith, eq-eqb, ne_eqb, None}
use Rattle.std.specs.List.{list_all}
use Rattle.std.proofs.lemmas.Bool.{cond-true, cond-false, eqb-true}
use Rattle.std.proofs.lemmas.List.Sums.{sum_by-cons}
use mathlib.Core.Logic.{dite}
use native.Mathlib.Decide.{ℕ_discrete}
use Rattle.wbt_run_laws.proofs.Common.{one_if, Fraction, CpuRecord, Known, Trace, reads_of, Each, Flight, Write, effect, NamesGoOn, names_after, tells, writes_after, PeriodsGoOn, periods_after, is_own_task, Told, CheckEntry, DomainLine, HasNamed, KeepsPeriods, IsOwn, IsOwnCheck, IsOwnFlight, HaveWritten, items_told}
use Rattle.wbt_counter.proofs.Sums.{put_same}
use Rattle.wbt_grant.specs.Seats.{maker_of, found_by, record_after}
use Rattle.wbt_grant.proofs.Seats.{record_is_known}
use Rattle.wbt_journal.specs.Estimates.{Named, is_no_newer}
use Rattle.wbt_journal.specs.Pages.{NamesPage, PagesAreNext, Writes}
use Rattle.wbt_journal.specs.Reads.{Period, periods_read, is_no_later, is_new_enough}
use Rattle.wbt_run_laws.specs.Entries.{RecordBecomes, WriteIsNext, OthersWriteNone, NoneFalls, CheckNamesSeen, OthersNameNone, CheckReadsKept, OthersReadNone}
use Rattle.wbt_run_laws.proofs.Effects.{none_of, if_none, if_weaker, part_none}
use Rattle.wbt_run_laws.proofs.Lists.{and_both, list_all_append, each_weaker, both_true, not_ahead}
use Rattle.wbt_run_laws.proofs.Walking.{IsSilent, walks_silent}

pub record_becomes : RecordBecomes
record_becomes set step s ok rule allowed by =
    let i = maker_of set step in
    ap (λ (cpu : ℕ → CpuRecord). cpu i) (record_is_known set step s ok rule allowed by).cpus ∙ put_same s.cpu i (record_after set step (found_by set step s) (s.cpu i))

-- ---- writes

written_more : (task : ℕ) (old new : ℕ → ℕ) (tasks : List ℕ) → new task ≡ old task + 1 → ((t : ℕ) → t ≢ task → new t ≡ old t) → HaveWritten old tasks → HaveWritten new (task ∷ tasks)
written_more task old new tasks one others have t =
    let first = sum_by-cons (λ (by : ℕ). cond (eqb by t) 1 0) task tasks in
    let before = have t in
    dite (ℕ_discrete t task)
    (λ is. let own : one_if (eqb task t) ≡ 1 = cond-true (eqb task t) 1 0 (eq-eqb task t (sym is)) in
    let now : new t ≡ old t + 1 = subst (λ (k : ℕ). new k ≡ old k + 1) (sym is) one in omega arith)
    (λ not. let other : t ≢ task = not in
    let none : one_if (eqb task t) ≡ 0 = cond-false (eqb task t) 1 0 (ne_eqb task t (λ e. other (sym e))) in
    let now = others t other in omega arith)

pub write_is_next : WriteIsNext
write_is_next trace cpu task page fresh old new writes = record {
  allowed = λ tasks have. (record { write = record { own = writes.own; next = ap (slice_get _) (have task) ∙ writes.next }; check = tt; flight = tt }, tt);
  reached = λ tasks have. written_more task old new tasks writes.one_more writes.others have;
}

-- the walk of writes doesn't see an entry of the CPU's own that is none
pub writes_silent : (trace : Trace) (cpu : ℕ) (e : Told) → (effect e).write ≡ None → IsOwn trace cpu e → IsSilent (PagesAreNext trace) writes_after (tells cpu e)
writes_silent trace cpu e none own tasks = (
  record {
    write = if_none (λ (write : Write). Writes trace tasks cpu write.task write.page) (effect e).write none;
    check = if_weaker (IsOwnCheck trace cpu) (λ (check : CheckEntry). is_own_task trace cpu check.task ≡ true) (λ check is. is.own) (effect e).check own.check;
    flight = if_weaker (IsOwnFlight trace cpu) (λ (flight : Flight). NamesPage trace flight.move) (λ flight is. is.page) (effect e).flight own.flight;
  },
  part_none tasks (λ (write : Write). write.task ∷ tasks) (effect e).write none,
)

pub others_write_none : OthersWriteNone
others_write_none trace cpu e written none own = walks_silent HaveWritten (PagesAreNext trace) writes_after written written (items_told cpu (e ∷ []))
    (writes_silent trace cpu e (none_of (effect e).write none) own, tt) (λ tasks have. have)

-- ---- names

still_named : (old new : ℕ → Known) → NoneFalls old new → (seen : List Named) → HasNamed old seen → HasNamed new seen
still_named old new falls seen has context version low = has context version (let more = falls context in omega arith)

pub check_names_seen : CheckNamesSeen
check_names_seen cpu check old new names = record {
  allowed = λ seen has. (has check.context check.estimate names.no_older, tt);
  reached = λ seen has context version low. and_both (is_no_newer context version (record { context = check.context; version = check.estimate })) (list_all (is_no_newer context version) seen)
      (not_ahead (eqb check.context context) check.estimate version
      (λ is. let now = subst (λ (k : ℕ). check.estimate ≤ (new k).seen) (eqb-true check.context context is) names.seen_now in omega arith))
      (still_named old new names.none_falls seen has context version low);
}

-- and that of names no entry without a check
pub names_silent : (cpu : ℕ) (e : Told) → (effect e).check ≡ None → IsSilent NamesGoOn names_after (tells cpu e)
names_silent cpu e none seen = (
  if_none (λ (check : CheckEntry). list_all (is_no_newer check.context check.estimate) seen ≡ true) (effect e).check none,
  part_none seen (λ (check : CheckEntry). record { context = check.context; version = check.estimate } ∷ seen) (effect e).check none,
)

pub others_name_none : OthersNameNone
others_name_none cpu e old new none falls = walks_silent HasNamed NamesGoOn names_after old new (items_told cpu (e ∷ []))
    (names_silent cpu e (none_of (effect e).check none), tt) (still_named old new falls)

-- ---- periods

reads_behind : (context domain of period : ℕ) (new : ℕ → ℕ → Fraction) → (new domain of).period ≤ period → (reads : List DomainLine)
    → Each (λ (read : DomainLine). read.share.period ≤ (new read.domain context).period) reads → list_all (is_no_later domain of period) (periods_read context reads) ≡ true
reads_behind context domain of period new low [] kept = refl
reads_behind context domain of period new low (read ∷ reads) kept =
    and_both (is_no_later domain of period (record { domain = read.domain; context = context; period = read.share.period })) (list_all (is_no_later domain of period) (periods_read context reads))
    (not_ahead (eqb read.domain domain && eqb context of) read.share.period period
    (λ is. let both = both_true (eqb read.domain domain) (eqb context of) is in
    let now = subst (λ (k : ℕ). read.share.period ≤ (new k of).period) (eqb-true read.domain domain both.0)
    (subst (λ (k : ℕ). read.share.period ≤ (new read.domain k).period) (eqb-true context of both.1) kept.0) in omega arith))
    (reads_behind context domain of period new low reads kept.1)

pub check_reads_kept : CheckReadsKept
check_reads_kept cpu check old new reads = record {
  allowed = λ seen keeps. (
    each_weaker (λ (read : DomainLine). (old read.domain check.context).period ≤ read.share.period) (λ (read : DomainLine). is_new_enough seen check.context read ≡ true)
        (λ read low. keeps read.domain check.context read.share.period low) (reads_of check) reads.no_earlier,
    tt,
  );
  reached = λ seen keeps domain context period low. list_all_append (is_no_later domain context period) (periods_read check.context (reads_of check)) seen
      (reads_behind check.context domain context period new low (reads_of check) reads.kept_now)
      (keeps domain context period (let more = reads.none_falls domain context in omega arith));
}

-- nor does the walk of periods
pub periods_silent : (cpu : ℕ) (e : Told) → (effect e).check ≡ None → IsSilent PeriodsGoOn periods_after (tells cpu e)
periods_silent cpu e none seen = (
  if_none (λ (check : CheckEntry). Each (λ (read : DomainLine). is_new_enough seen check.context read ≡ true) (reads_of check)) (effect e).check none,
  ap (λ (l : List Period). l ++ seen) (part_none [] (λ (check : CheckEntry). periods_read check.context (reads_of check)) (effect e).check none),
)

pub others_read_none : OthersReadNone
others_read_none cpu e kept none = walks_silent KeepsPeriods PeriodsGoOn periods_after kept kept (items_told cpu (e ∷ []))
    (periods_silent cpu e (none_of (effect e).check none), tt) (λ seen keeps. keeps)
