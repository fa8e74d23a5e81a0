-- What the rounds of a worker made of it.
use Rattle.std.specs.Prelude.{ℕ, Bool, Option}
use Rattle.atomic_table.specs.Seated.{TableId}
use Rattle.wbt_kit.specs.declared.kit.Kit.{Kit}
use Rattle.wbt_run_worker.specs.Answers.{ComesOut, Goes}
use Rattle.wbt_run_worker.specs.Course.{HasRun, stance_of}
use Rattle.wbt_run_worker.specs.Team.{team_of}
use Rattle.wbt_run_worker.specs.Voices.{HasSpoken, Speaks}
use Rattle.wbt_run_worker.specs.Went.{StandsStay}
use Rattle.wbt_run_worker.specs.declared.side.End.{End}
use Rattle.wbt_run_worker.specs.declared.worker.Worker.{Worker}

-- Its side went on by rounds, on its seats, and it spoke meanwhile, until the side ended so; or it hasn't ended.
pub record HasMadeRounds {D : Type 0} (signals : TableId) (told : ℕ → Type 0) (said : ℕ → ℕ → Bool → Type 0) (written : D → Option ℕ) (faults : D → ℕ) (kit : Kit) (end : Option End) (old new : Worker D)
    : Type 0 where
  pub goes : Goes told old.side.writers.trace old.side.writers.cpu kit (team_of written faults old.side) (team_of written faults new.side) old.seats new.seats
  pub stands : StandsStay old.side.posts.items new.side.posts.items
  pub comes : ComesOut said old.side.writers.trace old.side.writers.cpu kit end (team_of written faults old.side) (team_of written faults new.side) new.seats
  pub run : HasRun told said kit end (stance_of written faults old.side old.seats) (stance_of written faults new.side new.seats)
  pub speaks : Speaks signals new.writes end old.voice new.voice

-- And once its side has ended it left.
pub record HasComeOut {D : Type 0} (signals : TableId) (told : ℕ → Type 0) (said : ℕ → ℕ → Bool → Type 0) (written : D → Option ℕ) (faults : D → ℕ) (kit : Kit) (end : Option End) (old new : Worker D)
    : Type 0 where
  pub goes : Goes told old.side.writers.trace old.side.writers.cpu kit (team_of written faults old.side) (team_of written faults new.side) old.seats new.seats
  pub stands : StandsStay old.side.posts.items new.side.posts.items
  pub comes : ComesOut said old.side.writers.trace old.side.writers.cpu kit end (team_of written faults old.side) (team_of written faults new.side) new.seats
  pub run : HasRun told said kit end (stance_of written faults old.side old.seats) (stance_of written faults new.side new.seats)
  pub speaks : HasSpoken signals new.writes end old.voice new.voice
