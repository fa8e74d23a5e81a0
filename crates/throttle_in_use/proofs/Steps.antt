-- A seat that loaded limits, or published some, still may.
use Rattle.std.proofs.Common.{◌≡◌, ℕ, Bool, List, Some, ap, ◌∙◌}
use Rattle.wbt_num.specs.declared.limits.Limits.{Limits}
use Rattle.wbt_grant.specs.declared.record.CpuRecord.{CpuRecord}
use Rattle.wbt_grant.specs.declared.record.TimerRecord.{TimerRecord}
use Rattle.wbt_grant.specs.declared.who.Who.TheVariants.{Cpu}
use Rattle.wbt_table.specs.Calls.{LoadsLimits, Made, MakesAll, Puts, record_of, timer_of, whole_load}
use Rattle.wbt_table.specs.Layout.{setting}
use Rattle.wbt_table.specs.Rule.{Has}
use Rattle.wbt_table.specs.Seat.{Shape, Seated}
use Rattle.wbt_table.specs.declared.answer.Loaded.{Loaded}
use Rattle.wbt_table.specs.declared.answer.Loaded.TheVariants as loaded
use Rattle.wbt_table.specs.declared.answer.Put.{Put}
use Rattle.wbt_table.specs.declared.answer.Put.TheVariants as put
use Rattle.wbt_table.proofs.Seating.{has_changed}
use Rattle.throttle_in_use.specs.Seats.{Loads, Ticks}

module _ (throttle : Shape) (said : ℕ → Bool → Type 0) (old new : Seated) where
  module _ (c : ℕ) (was : Loads throttle c old) where
    made_all : (made : List Made) → MakesAll (setting throttle.layout) c said made old new → Loads throttle c new
    made_all made makes = record {
      at = record { table = makes.0.table ∙ was.at.table; layout = makes.0.layout ∙ was.at.layout };
      there = was.there;
      known = was.known;
      held = (record_of (setting throttle.layout) made was.held.0, has_changed c (record_of (setting throttle.layout) made) old new was.held.0 makes.0 was.held.1);
    }

    pub loads_still : (answer : Loaded) → LoadsLimits (setting throttle.layout) (Cpu c) 0 said answer old new → Loads throttle c new
    loads_still (loaded.Fresh triple) t = made_all (whole_load (Cpu c) c 0 t.0 t.1 t.0) t.6
    loads_still (loaded.Again held n k) t = made_all (whole_load (Cpu c) c 0 n t.0 k) t.4
    loads_still loaded.Stopped t = made_all t.0 t.3

  pub ticks_still : Ticks throttle old → (limits : Limits) (answer : Put) → Puts (setting throttle.layout) 0 limits said answer old new → Ticks throttle new
  ticks_still was limits put.Done t = record {
    at = record { table = t.1.table ∙ was.at.table; layout = t.1.layout ∙ was.at.layout };
    there = was.there;
    timer = (timer_of t.0 was.timer.0, (t.1.timer was.timer.0 was.timer.1).0);
  }
  ticks_still was limits put.Stopped t = record {
    at = record { table = t.1.table ∙ was.at.table; layout = t.1.layout ∙ was.at.layout };
    there = was.there;
    timer = (timer_of t.0 was.timer.0, (t.1.timer was.timer.0 was.timer.1).0);
  }
  ticks_still was limits put.Last t = record {
    at = record { table = ap (λ (s : Seated). s.table) t.0 ∙ was.at.table; layout = ap (λ (s : Seated). s.layout) t.0 ∙ was.at.layout };
    there = was.there;
    timer = (was.timer.0, ap (λ (s : Seated). s.timer) t.0 ∙ was.timer.1);
  }
