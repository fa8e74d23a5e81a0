-- What is known of a step from the record of its maker and the number that it finds.
use Rattle.std.proofs.Common.{ℕ, List, All, sym, ap, ◌∙◌, subst, arith}
use Rattle.std.proofs.lemmas.List.Elements.{All-weaker}
use Rattle.wbt_counter.specs.declared.record.Reading.{Reading}
use Rattle.wbt_counter.specs.Sums.{put}
use Rattle.wbt_counter.specs.History.{WasRead}
use Rattle.wbt_counter.proofs.Sums.{put_other}
use Rattle.wbt_grant.specs.declared.who.Who.TheVariants.{Writer, Cpu, Timer}
use Rattle.wbt_grant.specs.declared.record.CpuRecord.{CpuRecord}
use Rattle.wbt_grant.specs.Setting.{Setting}
use Rattle.wbt_grant.specs.State.{State}
use Rattle.wbt_grant.specs.Rule.{Rule}
use Rattle.wbt_grant.specs.Seats.{maker_of}
use Rattle.wbt_grant.specs.SeatLaws.{MayIsKnown, TimerMayIsKnown, RecordIsKnown, TimerIsKnown, OthersStay, UntoldTellsNoMore, CountIsFresh, IsRecordedSum, ReadingsAreSums}
use Rattle.wbt_grant.specs.Laws.{NoneAhead, AreBehind}
use Rattle.wbt_grant.proofs.Known.{known, of_cpu, of_timer}
use Rattle.wbt_grant.proofs.Whole.{load_is_fresh, timer_is_fresh}
pub use Rattle.wbt_grant.proofs.Told.{own_is_told, folds_are_recorded, words_are_read}

pub may_is_known : MayIsKnown
may_is_known set step s by = (of_cpu set step s by).allowed

pub timer_may_is_known : TimerMayIsKnown
timer_may_is_known set step s by = (of_timer set step s by).allowed

pub record_is_known : RecordIsKnown
record_is_known set step s ok rule may by =
    let its = of_cpu set step s by in
    record { cpus = its.cpus ∙ ap (λ (r : CpuRecord). put s.cpu (maker_of set step) r) (its.becomes ok rule may); timer = its.timer }

pub timer_is_known : TimerIsKnown
timer_is_known set step s ok rule by =
    let its = of_timer set step s by in
    record { cpus = its.cpus; timer = its.becomes ok rule }

pub others_stay : OthersStay
others_stay set step s = (
  λ by. let its = of_cpu set step s by in
      (λ j n. ap (λ (f : ℕ → CpuRecord). f j) its.cpus ∙ put_other s.cpu (maker_of set step) its.new j n, its.timer),
  λ by j. ap (λ (f : ℕ → CpuRecord). f j) (of_timer set step s by).cpus,
)

pub untold_tells_no_more : UntoldTellsNoMore
untold_tells_no_more set step = (known set step).untold

pub count_is_fresh : CountIsFresh
count_is_fresh set s ok rule (Writer w) x =
    subst (λ (v : ℕ). NoneAhead v x (s.cpu (set.seat w))) (sym ((words_are_read set s ok rule).versions x)) (load_is_fresh set s rule (set.seat w) x)
count_is_fresh set s ok rule (Cpu i) x =
    subst (λ (v : ℕ). NoneAhead v x (s.cpu i)) (sym ((words_are_read set s ok rule).versions x)) (load_is_fresh set s rule i x)
count_is_fresh set s ok rule Timer x =
    subst (λ (v : ℕ). AreBehind v x s.timer.readings) (sym ((words_are_read set s ok rule).versions x)) ((timer_is_fresh set s rule).0 x)

-- readings, as the records of all CPUs tell them

module _ (set : Setting) (s : State) (rule : Rule set s) where
  is_recorded : (q : Reading) → WasRead (s.folds q.counter) q.version q.value → IsRecordedSum set s.cpu q
  is_recorded q was =
      let tell = folds_are_recorded set s rule q.counter in
      let ahead = was.not_ahead in
      let all = tell.all in
      record { version = omega arith; value = was.its_sum ∙ tell.sums q.version }

  all_recorded : (readings : List Reading) → All (λ q. WasRead (s.folds q.counter) q.version q.value) readings
      → All (λ q. IsRecordedSum set s.cpu q) readings
  all_recorded readings were = All-weaker (λ (q : Reading). WasRead (s.folds q.counter) q.version q.value)
      (λ (q : Reading). IsRecordedSum set s.cpu q) is_recorded readings were

pub readings_are_sums : ReadingsAreSums
readings_are_sums set s rule = (
  λ i. all_recorded set s rule (s.cpu i).readings (rule.readings i).were_read,
  all_recorded set s rule s.timer.readings rule.timer_readings.were_read,
)
