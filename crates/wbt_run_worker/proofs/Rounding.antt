-- A round so far: idle turns, one after another.
use Rattle.std.proofs.Common.{◌≡◌, ℕ, Bool, true, false, true≢false}
use Rattle.wbt_run_worker.proofs.Common.{Kit, Seats, Trace, CutsOff, Goes, JobAnswers, HaveEnded, IsSide, Team, Idled}
use Rattle.wbt_run_worker.specs.declared.round.JobOutcome.{JobOutcome}
use Rattle.wbt_run_worker.specs.declared.round.JobOutcome.TheVariants as job
use Rattle.wbt_run_worker.specs.declared.side.End.{End}
use Rattle.wbt_run_worker.proofs.Going.{as_named, cut_since, ended_still, goes_more, goes_nowhere, idled_more, idled_now, own_side}

pub record SoFar (told : ℕ → Type 0) (trace : Trace) (cpu : ℕ) (kit : Kit) (old new : Team) (seats seats' : Seats) (writes : Bool) : Type 0 where
  pub goes : Goes told trace cpu kit old new seats seats'
  pub side : IsSide trace cpu kit new seats'
  pub idled : Idled old new seats seats'
  pub ended : writes ≡ false → HaveEnded trace new

module _ (told : ℕ → Type 0) (said : ℕ → ℕ → Bool → Type 0) (trace : Trace) (cpu : ℕ) (kit : Kit) where
  pub so_far_now : (team : Team) (seats : Seats) → IsSide trace cpu kit team seats → SoFar told trace cpu kit team team seats seats true
  so_far_now team seats side = record {
    goes = goes_nowhere told trace cpu kit team seats side;
    side = side;
    idled = idled_now team seats;
    ended = λ e. absurd (true≢false e);
  }

  module _ (a b c : Team) (s t u : Seats) (writes : Bool) (sofar : SoFar told trace cpu kit a b s t writes)
      (goes : Goes told b.desk.trace b.desk.cpu kit b c t u) where
    pub next_side : IsSide b.desk.trace b.desk.cpu kit b t
    next_side = own_side trace cpu kit b t sofar.side

    pub goes_so : Goes told trace cpu kit a c s u
    goes_so = goes_more told trace cpu kit a b c s t u sofar.goes goes

    named : (answer : JobOutcome) → JobAnswers said b.desk.trace b.desk.cpu kit answer b c t u → JobAnswers said trace cpu kit answer b c t u
    named answer answers = as_named (λ (x : Trace) (y : ℕ). JobAnswers said x y kit answer b c t u) trace cpu kit b t sofar.side.stands answers

    pub stepped_so : JobAnswers said b.desk.trace b.desk.cpu kit job.Stepped b c t u → IsSide trace cpu kit c u
    stepped_so answers = named job.Stepped answers

    pub rested_so : (ticks : ℕ) → JobAnswers said b.desk.trace b.desk.cpu kit (job.Resting ticks) b c t u → SoFar told trace cpu kit a c s u writes
    rested_so ticks answers =
        let both = named (job.Resting ticks) answers in
        record {
          goes = goes_so;
          side = both.0;
          idled = idled_more a b c s t u sofar.idled both.1;
          ended = λ e. ended_still trace b c t u both.1 (sofar.ended e);
        }

    pub over_so : JobAnswers said b.desk.trace b.desk.cpu kit job.Over b c t u → SoFar told trace cpu kit a c s u false
    over_so answers =
        let all = named job.Over answers in
        record { goes = goes_so; side = all.0; idled = idled_more a b c s t u sofar.idled all.1; ended = λ e. all.2 }

    pub ends_so : (end : End) → JobAnswers said b.desk.trace b.desk.cpu kit (job.Ends end) b c t u → CutsOff said trace cpu kit end a c s u
    ends_so end answers = cut_since told said trace cpu kit a b c s t u sofar.goes end sofar.idled (named (job.Ends end) answers)
