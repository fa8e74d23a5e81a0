-- What a seat keeps of limits: what each CPU that it holds loaded last, and the timer's sequences.
use Rattle.std.specs.Prelude.{◌≡◌, ℕ, ◌+◌, ◌*◌, ◌/◌, ◌%◌, ◌<◌, ◌≤◌, List, length, get_or, Option, Some}
use Rattle.wbt_num.specs.Limits.{IsLawful}
use Rattle.wbt_num.specs.declared.limits.Limits.{Limits}
use Rattle.wbt_num.specs.declared.limits.TheConstants.{LAST_SEQUENCE}
use Rattle.wbt_grant.specs.declared.record.DomainLimits.{DomainLimits}
use Rattle.wbt_grant.specs.declared.record.CpuRecord.{CpuRecord}
use Rattle.wbt_grant.specs.declared.record.TimerRecord.{TimerRecord}
use Rattle.wbt_grant.specs.State.{held_of, sequence_of}
use Rattle.wbt_table.specs.declared.layout.Layout.{Layout}
use Rattle.wbt_table.specs.declared.answer.Triple.{Triple}
use Rattle.wbt_table.specs.Layout.{setting, domains, no_limits}
use Rattle.wbt_table.specs.declared.held.HeldLimits.{HeldLimits}
use Rattle.wbt_table.specs.Rule.{Cpus, Has, Sat}
use Rattle.wbt_table.specs.Seat.{States, IsSeat}

-- the first limits of a domain have the version 0
abbrev pub first_triple : (limits : Limits) → Triple
first_triple limits = record { version = 0; limits = limits }

-- what stands for a number of which nothing is kept
abbrev pub no_triple : Triple
no_triple = first_triple no_limits

-- limits as an answer tells them
abbrev pub triple_of : (limits : DomainLimits) → Triple
triple_of limits = record { version = limits.version; limits = limits.limits }

-- the number under which the limits of a CPU and a domain are kept
abbrev pub triple_number : (key : Layout) (c d : ℕ) → ℕ
triple_number key c d = c * domains key + d

-- for each CPU that is held, and each domain, the limits that its record holds; all are lawful
pub record KeepsTriples (key : Layout) (triples : List Triple) (cpus : Cpus) : Type 0 where
  pub long : length triples ≡ key.cpus * domains key
  pub each : (k : ℕ) (r : CpuRecord) → k < key.cpus * domains key → Has cpus (k / domains key) r
      → get_or triples k no_triple ≡ triple_of (held_of (setting key) (k % domains key) r.triples)
  pub lawful : (k : ℕ) → k < key.cpus * domains key → IsLawful (get_or triples k no_triple).limits

-- for each domain the sequence that the timer's record tells, where it is held
pub record KeepsSequences (key : Layout) (sequences : List ℕ) (timer : Option TimerRecord) : Type 0 where
  pub long : length sequences ≡ domains key
  pub each : (d : ℕ) (r : TimerRecord) → d < domains key → timer ≡ Some r → get_or sequences d 0 ≡ sequence_of r d
  pub few : (d : ℕ) → d < domains key → get_or sequences d 0 ≤ LAST_SEQUENCE

-- all that the code keeps beside the seat's place
pub record IsKept (me : Sat) (states : States) (lefts : List ℕ) (held : HeldLimits) (timer : Option ℕ) : Type 0 where
  pub seat : IsSeat me states lefts timer
  pub triples : KeepsTriples me.0.layout held.triples.items me.0.cpus
  pub sequences : KeepsSequences me.0.layout held.sequences.items me.0.timer
