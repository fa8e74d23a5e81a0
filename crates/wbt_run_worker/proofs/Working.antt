-- A worker so far: rounds, one after another.
use Rattle.std.proofs.Common.{◌≡◌, ℕ, Bool, false}
use Rattle.wbt_run_worker.proofs.Common.{Kit, Seats, Trace, EndsSo, Goes, HaveEnded, IsSide, Team}
use Rattle.wbt_run_worker.specs.Answers.{RoundAnswers}
use Rattle.wbt_run_worker.specs.declared.round.Round.{Round}
use Rattle.wbt_run_worker.specs.declared.round.Round.TheVariants as round
use Rattle.wbt_run_worker.specs.declared.side.End.{End}
use Rattle.wbt_run_worker.proofs.Going.{as_named, ends_since, goes_more, goes_nowhere, own_side}

pub record Works (told : ℕ → Type 0) (trace : Trace) (cpu : ℕ) (kit : Kit) (old new : Team) (seats seats' : Seats) : Type 0 where
  pub goes : Goes told trace cpu kit old new seats seats'
  pub side : IsSide trace cpu kit new seats'

module _ (told : ℕ → Type 0) (said : ℕ → ℕ → Bool → Type 0) (trace : Trace) (cpu : ℕ) (kit : Kit) where
  pub works_now : (team : Team) (seats : Seats) → IsSide trace cpu kit team seats → Works told trace cpu kit team team seats seats
  works_now team seats side = record { goes = goes_nowhere told trace cpu kit team seats side; side = side }

  module _ (a b c : Team) (s t u : Seats) (works : Works told trace cpu kit a b s t) (goes : Goes told b.desk.trace b.desk.cpu kit b c t u) where
    pub next_side : IsSide b.desk.trace b.desk.cpu kit b t
    next_side = own_side trace cpu kit b t works.side

    pub goes_so : Goes told trace cpu kit a c s u
    goes_so = goes_more told trace cpu kit a b c s t u works.goes goes

    named : (answer : Round) → RoundAnswers said b.desk.trace b.desk.cpu kit answer b c t u → RoundAnswers said trace cpu kit answer b c t u
    named answer answers = as_named (λ (x : Trace) (y : ℕ). RoundAnswers said x y kit answer b c t u) trace cpu kit b t works.side.stands answers

    pub stepped_so : RoundAnswers said b.desk.trace b.desk.cpu kit round.Stepped b c t u → Works told trace cpu kit a c s u
    stepped_so answers = record { goes = goes_so; side = named round.Stepped answers }

    pub idle_so : (ticks : ℕ) (writes : Bool) → RoundAnswers said b.desk.trace b.desk.cpu kit (round.Idle ticks writes) b c t u → Works told trace cpu kit a c s u
    idle_so ticks writes answers = let all = named (round.Idle ticks writes) answers in record { goes = goes_so; side = all.0 }

    -- all tasks have ended where nobody writes
    pub ended_so : (ticks : ℕ) (writes : Bool) → RoundAnswers said b.desk.trace b.desk.cpu kit (round.Idle ticks writes) b c t u → writes ≡ false
        → IsSide trace cpu kit c u × HaveEnded trace c
    ended_so ticks writes answers nobody = let all = named (round.Idle ticks writes) answers in (all.0, all.2 nobody)

    pub ends_so : (end : End) → RoundAnswers said b.desk.trace b.desk.cpu kit (round.Ends end) b c t u → EndsSo said trace cpu kit end a c u
    ends_so end answers = ends_since told said trace cpu kit a b c s t u works.goes end (named (round.Ends end) answers)
