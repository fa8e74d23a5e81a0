-- What each kind of step does, told once: who makes it and on which word, what becomes of its maker's record, and where that
-- record allows it.
use Rattle.std.specs.Prelude.{◌≡◌, ℕ, ◌+◌, Bool, true, false, cond, not, ◌==◌, nat_lt, nat_le, ◌&&◌, Option, Some, None, ℤ, ◌+ℤ◌}
use Rattle.wbt_counter.specs.declared.counter.Counter.{Counter}
use Rattle.wbt_counter.specs.Word.{version_in, count_in}
use Rattle.wbt_counter.specs.Addends.{local_in}
use Rattle.wbt_counter.specs.Account.{amount}
use Rattle.wbt_counter.specs.Counters.{debt_to}
use Rattle.wbt_counter.specs.Recorded as counter
use Rattle.wbt_book.specs.Book.{is_claimable}
use Rattle.wbt_book.specs.Ledger.{times_in}
use Rattle.wbt_grant.specs.declared.who.StepKind.{StepKind}
use Rattle.wbt_grant.specs.declared.who.StepKind.TheVariants as kind
use Rattle.wbt_grant.specs.declared.who.Word.{Word}
use Rattle.wbt_grant.specs.declared.who.Word.TheVariants as word
use Rattle.wbt_grant.specs.declared.who.Who.{Who}
use Rattle.wbt_grant.specs.declared.who.Who.TheVariants.{Writer, Cpu, Timer}
use Rattle.wbt_grant.specs.declared.record.CpuRecord.{CpuRecord}
use Rattle.wbt_grant.specs.declared.record.TimerRecord.{TimerRecord}
use Rattle.wbt_grant.specs.Setting.{Setting, batch_of}
use Rattle.wbt_grant.specs.State.{State, account_of, writer_at, found_of, stage_of, is_sealed, sequence_of}
use Rattle.wbt_grant.specs.Bound.{is_let_through}
use Rattle.wbt_grant.specs.Record
use Rattle.wbt_grant.specs.Kinds.{Step, add, fold, clear, count, dirty, look, claim, complete, back, peak, unseal, thresh, publish, first, middle, limits, mark, unmark, grant, last_found, last_raised, has_sequence, has_both, IsWho, MayAdd, MayFold, MayClear, MayDirty, MayLook, MayClaim, MayComplete, MayGiveBack, MayUnseal, MayThresh, MayPublish, MayFirst, MayMiddle, MayLimits, MayMark, MayGrant}
use Rattle.wbt_grant.specs.Conditions.{is_event, is_fold_due, is_clear_due, is_who, is_ready, looked_at, at_most, is_loader, is_drafted, is_lawful}

-- whether that is the timer
abbrev pub is_timer : (who : Who) → Bool
is_timer (Writer w) = false
is_timer (Cpu i) = false
is_timer Timer = true

-- the CPU that makes a step for whom
abbrev pub cpu_for : (set : Setting) (who : Who) → ℕ
cpu_for set (Writer w) = set.seat w
cpu_for set (Cpu i) = i
cpu_for set Timer = 0

-- the CPU's own number of a counter, which its record tells
abbrev pub own_told : (set : Setting) (x : Counter) (r : CpuRecord) → ℤ
own_told set x r = counter.own_told (account_of set x r)

-- what each kind of step makes of its CPU's record, by the number that it found

-- the event that is owed is in the own number: where that reaches the batch a fold is owed, else nothing
abbrev pub add_record : (set : Setting) (x : Counter) (found : ℕ) (r : CpuRecord) → CpuRecord
add_record set x found r = Record.stepped kind.Add (word.Own x) found
    (Record.added (batch_of set x) x (local_in found +ℤ amount (debt_to x r.debts)) r)

-- the fold made the version after the one that it found, and its number is to be cleared
abbrev pub fold_record : (set : Setting) (x : Counter) (found : ℕ) (r : CpuRecord) → CpuRecord
fold_record set x found r = Record.stepped kind.Fold (word.Shared x) found
    (Record.folded x (version_in found + 1) (own_told set x r) r)

-- what was folded is cleared, and nothing is owed to the counter
abbrev pub clear_record : (x : Counter) (found : ℕ) (r : CpuRecord) → CpuRecord
clear_record x found r = Record.stepped kind.Clear (word.Own x) found (Record.cleared x r)

-- the version and the count in the shared word are loaded, for a writer or for the CPU
abbrev pub count_record : (set : Setting) (who : Who) (x : Counter) (found : ℕ) (r : CpuRecord) → CpuRecord
count_record set who x found r = Record.stepped kind.Count (word.Shared x) found
    (Record.counted set who x (version_in found) (count_in found) r)

-- a page that is dirty already gives no event
abbrev pub dirty_record : (set : Setting) (w p found : ℕ) (r : CpuRecord) → CpuRecord
dirty_record set w p found r = Record.stepped kind.Dirty (word.Page p) found
    (Record.page_stepped (cond (set.coding.page_bits found p).dirty (Record.found_already p r) (Record.dirtied set w p r)))

-- a page that can't be claimed is passed; of one with both bits the mark is owed
abbrev pub look_record : (set : Setting) (p found : ℕ) (r : CpuRecord) → CpuRecord
look_record set p found r = Record.stepped kind.Look (word.Page p) found (Record.looked set p (set.coding.page_bits found p) r)

-- a claim is made where it found the number that the look had found
abbrev pub claim_record : (p found : ℕ) (r : CpuRecord) → CpuRecord
claim_record p found r = Record.stepped kind.Claim (word.Page p) found (cond (found == last_found r.last) (Record.claimed p r) r)

-- the page is completed, in a page step
abbrev pub complete_record : (set : Setting) (p found : ℕ) (r : CpuRecord) → CpuRecord
complete_record set p found r = Record.stepped kind.Complete (word.Page p) found (Record.page_stepped (Record.completed set p r))

-- a page is given back where the number is the one that the look had found
abbrev pub back_record : (set : Setting) (p found : ℕ) (r : CpuRecord) → CpuRecord
back_record set p found r = Record.stepped kind.Back (word.Page p) found (cond (found == last_found r.last)
    (Record.page_stepped (Record.given_back set p (set.coding.page_bits found p).dirty r)) r)

-- the sequence word is found, which begins a load
abbrev pub first_record : (d found : ℕ) (r : CpuRecord) → CpuRecord
first_record d found r = Record.stepped kind.First (word.Sequence d) found (Record.found_first d found r)

-- the thresh word is found beside it
abbrev pub middle_record : (d found : ℕ) (r : CpuRecord) → CpuRecord
middle_record d found r = Record.stepped kind.Middle (word.Thresh d) found (Record.found_middle d found r)

-- the sequence word is found once more, which ends the load
abbrev pub limits_record : (set : Setting) (who : Who) (d found : ℕ) (r : CpuRecord) → CpuRecord
limits_record set who d found r = Record.stepped kind.Limits (word.Sequence d) found (Record.limited set who d found r)

-- the CPU owes the inode nothing any more
abbrev pub mark_record : (set : Setting) (n found : ℕ) (r : CpuRecord) → CpuRecord
mark_record set n found r = Record.stepped kind.Mark (word.Inode n) found (Record.mark_paid set n r)

-- each page of the inode is owed a rescan
abbrev pub unmark_record : (set : Setting) (n found : ℕ) (r : CpuRecord) → CpuRecord
unmark_record set n found r = Record.stepped kind.Unmark (word.Inode n) found (Record.owing_rescans set n r)

-- the kind of an atomic step, and the word on which it is made
pub record Access : Type 0 where
  pub kind : StepKind
  pub word : Word

-- what a step does, and where it may be made: laws of all kinds read these fields
pub record StepEffect : Type 1 where
  pub maker : Who  -- a writer makes its steps on its CPU
  pub access : Option Access  -- a grant is no step, and has none
  -- the record of the CPU, or of the timer, that makes it, after it, by the number that it found in its word
  pub record_after : (set : Setting) (found : ℕ) (r : CpuRecord) → CpuRecord
  pub timer_after : (found : ℕ) (r : TimerRecord) → TimerRecord
  -- where the record of a CPU allows it, where the timer's does, and the test of both, which computes
  pub RecordAllows : (set : Setting) (r : CpuRecord) → Type 0
  pub TimerAllows : (set : Setting) (r : TimerRecord) → Type 0
  pub may : (set : Setting) (s : State) → Bool
  -- whether the CPU's record tells no more after it: no fold, event, page step, page found dirty, reading or limits
  pub is_untold : (found : ℕ) (r : CpuRecord) → Bool

-- what no kind does; each kind tells where it differs
abbrev pub no_effect : StepEffect
no_effect = record {
  maker = Timer;
  access = None;
  record_after = λ set found r. r;
  timer_after = λ found r. r;
  RecordAllows = λ set r. ⊥;
  TimerAllows = λ set r. ⊥;
  may = λ set s. false;
  is_untold = λ found r. true;
}

-- an atomic step of this kind on this word
abbrev pub on : (kind : StepKind) (word : Word) → Option Access
on kind word = Some (record { kind = kind; word = word })

-- the row of each kind of step, and of a grant
abbrev pub effect : (step : Step) → StepEffect
effect (add i x) = record no_effect {
  maker = Cpu i;
  access = on kind.Add (word.Own x);
  record_after = λ set found r. add_record set x found r;
  RecordAllows = λ set r. MayAdd set i x r;
  may = λ set s. nat_lt i set.cpus && is_event (debt_to x (s.cpu i).debts);
}
effect (fold i x) = record no_effect {
  maker = Cpu i;
  access = on kind.Fold (word.Shared x);
  record_after = λ set found r. fold_record set x found r;
  RecordAllows = λ set r. MayFold set i x r;
  may = λ set s. nat_lt i set.cpus && is_fold_due (debt_to x (s.cpu i).debts);
  is_untold = λ found r. false;
}
effect (clear i x) = record no_effect {
  maker = Cpu i;
  access = on kind.Clear (word.Own x);
  record_after = λ set found r. clear_record x found r;
  RecordAllows = λ set r. MayClear set i x r;
  may = λ set s. nat_lt i set.cpus && is_clear_due (debt_to x (s.cpu i).debts);
}
effect (count who x) = record no_effect {
  maker = who;
  access = on kind.Count (word.Shared x);
  record_after = λ set found r. count_record set who x found r;
  timer_after = λ found r. Record.timer_stepped kind.Count (word.Shared x) found
      (Record.timer_counted x (version_in found) (count_in found) r);
  RecordAllows = λ set r. IsWho set who;
  TimerAllows = λ set r. is_timer who ≡ true;
  may = λ set s. is_who set who;
  is_untold = λ found r. false;
}
effect (dirty w p) = record no_effect {
  maker = Writer w;
  access = on kind.Dirty (word.Page p);
  record_after = λ set found r. dirty_record set w p found r;
  RecordAllows = λ set r. MayDirty set w p r;
  may = λ set s. nat_lt w set.writers && (nat_lt p set.pages && (set.home p == set.works_in w &&
      (nat_lt 0 (writer_at set s.cpu w).left && is_ready set (set.seat w) s)));
  is_untold = λ found r. false;
}
effect (look i p) = record no_effect {
  maker = Cpu i;
  access = on kind.Look (word.Page p);
  record_after = λ set found r. look_record set p found r;
  RecordAllows = λ set r. MayLook set i p;
  may = λ set s. nat_lt i set.cpus && nat_lt p set.pages;
}
effect (claim i p) = record no_effect {
  maker = Cpu i;
  access = on kind.Claim (word.Page p);
  record_after = λ set found r. claim_record p found r;
  RecordAllows = λ set r. MayClaim set i p r;
  may = λ set s. nat_lt i set.cpus && (nat_lt p set.pages &&
      (looked_at p (s.cpu i).last && is_claimable (set.coding.page_bits (last_found (s.cpu i).last) p)));
  is_untold = λ found r. not (found == last_found r.last);
}
effect (complete i p) = record no_effect {
  maker = Cpu i;
  access = on kind.Complete (word.Page p);
  record_after = λ set found r. complete_record set p found r;
  RecordAllows = λ set r. MayComplete set i p r;
  may = λ set s. nat_lt i set.cpus && (nat_lt p set.pages && (nat_lt 0 (times_in p (s.cpu i).held) && is_ready set i s));
  is_untold = λ found r. false;
}
effect (back i p) = record no_effect {
  maker = Cpu i;
  access = on kind.Back (word.Page p);
  record_after = λ set found r. back_record set p found r;
  RecordAllows = λ set r. MayGiveBack set i p r;
  may = λ set s. nat_lt i set.cpus && (nat_lt p set.pages &&
      (looked_at p (s.cpu i).last && (nat_lt 0 (times_in p (s.cpu i).held) && is_ready set i s)));
  is_untold = λ found r. not (found == last_found r.last);
}
effect (peak d hard) = record no_effect {
  maker = Timer;
  access = on kind.Peak (word.Peak d);
  timer_after = λ found r. Record.timer_stepped kind.Peak (word.Peak d) found (Record.raising d hard r);
  TimerAllows = λ set r. Unit {0};
  may = λ set s. true;
}
effect (unseal d) = record no_effect {
  maker = Timer;
  access = on kind.Unseal (word.Sequence d);
  timer_after = λ found r. Record.timer_stepped kind.Unseal (word.Sequence d) found (Record.unsealing d r);
  TimerAllows = λ set r. MayUnseal set d r;
  may = λ set s. is_sealed (stage_of d s.timer.drafts) && nat_lt (sequence_of s.timer d) set.last_sequence;
}
effect (thresh d triple) = record no_effect {
  maker = Timer;
  access = on kind.Thresh (word.Thresh d);
  timer_after = λ found r. Record.timer_stepped kind.Thresh (word.Thresh d) found (Record.drafting d triple r);
  TimerAllows = λ set r. MayThresh d triple r;
  may = λ set s. not (is_sealed (stage_of d s.timer.drafts)) && (is_lawful triple && at_most triple.hard (last_raised d s.timer.raised));
}
effect (publish d triple) = record no_effect {
  maker = Timer;
  access = on kind.Publish (word.Sequence d);
  timer_after = λ found r. Record.timer_stepped kind.Publish (word.Sequence d) found (Record.publishing d triple r);
  TimerAllows = λ set r. MayPublish d triple r;
  may = λ set s. is_drafted triple (stage_of d s.timer.drafts);
}
effect (first i d) = record no_effect {
  maker = Cpu i;
  access = on kind.First (word.Sequence d);
  record_after = λ set found r. first_record d found r;
  RecordAllows = λ set r. MayFirst set i;
  may = λ set s. nat_lt i set.cpus;
}
effect (middle i d) = record no_effect {
  maker = Cpu i;
  access = on kind.Middle (word.Thresh d);
  record_after = λ set found r. middle_record d found r;
  RecordAllows = λ set r. MayMiddle set i d r;
  may = λ set s. nat_lt i set.cpus && has_sequence (found_of d (s.cpu i).loading);
}
effect (limits who d) = record no_effect {
  maker = who;
  access = on kind.Limits (word.Sequence d);
  record_after = λ set found r. limits_record set who d found r;
  RecordAllows = λ set r. MayLimits set who d r;
  may = λ set s. is_loader set who && has_both (found_of d (s.cpu (cpu_for set who)).loading);
  is_untold = λ found r. false;
}
effect (mark i n) = record no_effect {
  maker = Cpu i;
  access = on kind.Mark (word.Inode n);
  record_after = λ set found r. mark_record set n found r;
  RecordAllows = λ set r. MayMark set i;
  may = λ set s. nat_lt i set.cpus;
}
effect (unmark i n) = record no_effect {
  maker = Cpu i;
  access = on kind.Unmark (word.Inode n);
  record_after = λ set found r. unmark_record set n found r;
  RecordAllows = λ set r. MayMark set i;
  may = λ set s. nat_lt i set.cpus;
}
effect (grant w pages) = record no_effect {
  maker = Writer w;
  record_after = λ set found r. Record.granted w pages r;
  RecordAllows = λ set r. MayGrant set w pages r;
  may = λ set s. nat_lt w set.writers && (nat_le 1 pages && (nat_le pages set.cap &&
      (is_let_through set 0 (writer_at set s.cpu w) && is_let_through set (set.group (set.works_in w)) (writer_at set s.cpu w))));
}
