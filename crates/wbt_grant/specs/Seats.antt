-- What is known of a step from the record of the CPU or of the timer that makes it, and from the number that it finds in its word.
-- Who holds such a record knows by this where a step may be made and what becomes of the record, without the state.
use Rattle.std.specs.Prelude.{ℕ, Bool, Option, Some, None, List}
use Rattle.wbt_counter.specs.declared.record.Fold.{Fold}
use Rattle.wbt_counter.specs.declared.record.Reading.{Reading}
use Rattle.wbt_counter.specs.Sums.{one_if}
use Rattle.wbt_book.specs.declared.event.Event.{Event}
use Rattle.wbt_grant.specs.declared.who.Word.{Word}
use Rattle.wbt_grant.specs.declared.who.Word.TheVariants as word
use Rattle.wbt_grant.specs.declared.record.DomainLimits.{DomainLimits}
use Rattle.wbt_grant.specs.declared.record.CpuRecord.{CpuRecord}
use Rattle.wbt_grant.specs.declared.record.TimerRecord.{TimerRecord}
use Rattle.wbt_grant.specs.Setting.{Setting}
use Rattle.wbt_grant.specs.State.{State}
use Rattle.wbt_grant.specs.Kinds.{Step, own_now, shared_now, page_now, sequence_now, thresh_now}
use Rattle.wbt_grant.specs.Effects.{Access, effect}
pub use Rattle.wbt_grant.specs.Effects.{is_timer, cpu_for, own_told, add_record, fold_record, clear_record, count_record, dirty_record, look_record, claim_record, complete_record, back_record, first_record, middle_record, limits_record, mark_record, unmark_record}

-- who makes a step: the timer, or the CPU of this number

-- whether the timer makes it
abbrev pub is_by_timer : (step : Step) → Bool
is_by_timer step = is_timer (effect step).maker

-- the CPU that makes it; 0, which says nothing, where the timer does
abbrev pub maker_of : (set : Setting) (step : Step) → ℕ
maker_of set step = cpu_for set (effect step).maker

-- the number in a word, of which the CPU i has its own
abbrev pub number_in : (set : Setting) (i : ℕ) (word : Word) (s : State) → ℕ
number_in set i (word.Shared x) s = shared_now x s
number_in set i (word.Own x) s = own_now x i s
number_in set i (word.Page p) s = page_now set p s
number_in set i (word.Sequence d) s = sequence_now set d s
number_in set i (word.Thresh d) s = thresh_now set d s
number_in set i (word.Peak d) s = s.peak d
number_in set i (word.Inode n) s = one_if (s.marked n)

-- the number that a step finds in its word; a grant is no step, and finds none
abbrev pub found_at : (set : Setting) (i : ℕ) (access : Option Access) (s : State) → ℕ
found_at set i None s = 0
found_at set i (Some access) s = number_in set i access.word s

-- the number that a step finds in its word, whoever makes it
abbrev pub found_by : (set : Setting) (step : Step) (s : State) → ℕ
found_by set step s = found_at set (maker_of set step) (effect step).access s

-- the record of the CPU that makes a step, after it
abbrev pub record_after : (set : Setting) (step : Step) (found : ℕ) (r : CpuRecord) → CpuRecord
record_after set step found r = (effect step).record_after set found r

-- the timer's record, after a step of its own
abbrev pub timer_after : (step : Step) (found : ℕ) (r : TimerRecord) → TimerRecord
timer_after step found r = (effect step).timer_after found r

-- where the record of a CPU allows a step, and where the timer's does
abbrev pub RecordAllows : (set : Setting) (step : Step) (r : CpuRecord) → Type 0
RecordAllows set step r = (effect step).RecordAllows set r

-- where the record of the timer allows it
abbrev pub TimerAllows : (set : Setting) (step : Step) (r : TimerRecord) → Type 0
TimerAllows set step r = (effect step).TimerAllows set r

-- what a CPU's record tells of what the CPU did and loaded
pub record Told : Type 0 where
  pub folds : List Fold
  pub events : List Event
  pub found_dirty : List ℕ
  pub page_steps : ℕ
  pub readings : List Reading
  pub triples : List DomainLimits

-- what is told in a CPU's record
abbrev pub told_in : (r : CpuRecord) → Told
told_in r = record {
  folds = r.folds;
  events = r.events;
  found_dirty = r.found_dirty;
  page_steps = r.page_steps;
  readings = r.readings;
  triples = r.triples;
}

-- whether it tells just as much after a step that found this number
abbrev pub is_untold : (step : Step) (found : ℕ) (r : CpuRecord) → Bool
is_untold step found r = (effect step).is_untold found r
