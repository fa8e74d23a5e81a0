-- A round so far: jobs that had nothing to do, one after another.
use Rattle.std.proofs.Common.{◌≡◌, ℕ, ◌+◌, ◌≤◌, Bool, true, false, min, Option, List, [], ◌∷◌, ◌++◌, length, refl, sym, ap, ◌∙◌, subst, arith}
use Rattle.wbt_run_worker.proofs.Common.{Kit, Seats, Trace, HasNothingToDo, StandsStill, taker, JobTakes, JobWaits, Team, seen, team_of}
use Rattle.wbt_run_worker.specs.Rotation.{AllWait, job_after, least_rest, next_job, none_is_over}
use Rattle.wbt_run_worker.specs.Rounds.{ComesTo, NoneGoes, OneGoes, TakeTurns}
use Rattle.wbt_run_worker.specs.declared.round.JobOutcome.{JobOutcome}
use Rattle.wbt_run_worker.specs.declared.round.JobOutcome.TheVariants as job_said
use Rattle.wbt_run_worker.specs.declared.round.TheConstants.{MOST_REST}
use Rattle.wbt_run_worker.specs.declared.side.CpuSide.{CpuSide}
use Rattle.wbt_run_worker.specs.declared.side.Job.{Job}
use Rattle.wbt_run_worker.specs.declared.side.Post.{Post}
use Rattle.wbt_run_worker.proofs.Lists.{long_map}
use Rattle.wbt_run_worker.proofs.Waiting.{as_many, still_both, still_now, waits_before}

-- ---- one answer more

longer : (answers : List JobOutcome) (last : JobOutcome) → length (answers ++ last ∷ []) ≡ length answers + 1
longer [] last = refl
longer (a ∷ answers) last = let rest = longer answers last in omega arith

after_more : (flushers : ℕ) (first : Job) (answers : List JobOutcome) (last : JobOutcome)
    → job_after flushers first (length (answers ++ last ∷ [])) ≡ next_job flushers (job_after flushers first (length answers))
after_more flushers first [] last = refl
after_more flushers first (a ∷ answers) last = after_more flushers (next_job flushers first) answers last

all_wait_more : (told : ℕ → Type 0) (trace : Trace) (team : Team) (first : Job) (answers : List JobOutcome) (last : JobOutcome)
    → AllWait told trace team first answers → HasNothingToDo told trace team (taker (length team.posts) (job_after (length team.posts) first (length answers))) last
    → AllWait told trace team first (answers ++ last ∷ [])
all_wait_more told trace team first [] last all one = (one, tt)
all_wait_more told trace team first (a ∷ answers) last all one =
    (all.0, all_wait_more told trace team (next_job (length team.posts) first) answers last all.1 one)

-- and one turn more
turns_more : (told : ℕ → Type 0) (said : ℕ → ℕ → Bool → Type 0) (kit : Kit) (flushers : ℕ) (first : Job) (answers : List JobOutcome) (last : JobOutcome) (a b c : Team) (s t u : Seats)
    → TakeTurns told said kit flushers first answers a b s t → JobTakes told said kit (job_after flushers first (length answers)) last b c t u
    → TakeTurns told said kit flushers first (answers ++ last ∷ []) a c s u
turns_more told said kit flushers first [] last a b c s t u all one =
    (c, u, subst (λ (z : Team × Seats). JobTakes told said kit first last z.0 c z.1 u) (λ i. (all.0 i, all.1 i)) one, (refl, refl))
turns_more told said kit flushers first (x ∷ answers) last a b c s t u all one =
    (all.0, all.1, all.2, turns_more told said kit flushers (next_job flushers first) answers last all.0 b c all.1 t u all.3 one)

min_turned : (m n : ℕ) → min m n ≡ min n m
min_turned m n = omega arith

min_both : (a b c : ℕ) → min a (min b c) ≡ min (min a b) c
min_both a b c = omega arith

least_more : (answers : List JobOutcome) (ticks : ℕ) → least_rest (answers ++ job_said.Resting ticks ∷ []) ≡ min (least_rest answers) ticks
least_more [] ticks = min_turned ticks MOST_REST
least_more (job_said.Stepped ∷ answers) ticks = least_more answers ticks
least_more (job_said.Resting other ∷ answers) ticks = ap (λ (n : ℕ). min other n) (least_more answers ticks) ∙ min_both other (least_rest answers) ticks
least_more (job_said.Over ∷ answers) ticks = least_more answers ticks
least_more (job_said.Ends end ∷ answers) ticks = least_more answers ticks

least_still : (answers : List JobOutcome) → least_rest (answers ++ job_said.Over ∷ []) ≡ least_rest answers
least_still [] = refl
least_still (job_said.Stepped ∷ answers) = least_still answers
least_still (job_said.Resting other ∷ answers) = ap (λ (n : ℕ). min other n) (least_still answers)
least_still (job_said.Over ∷ answers) = least_still answers
least_still (job_said.Ends end ∷ answers) = least_still answers

over_still : (answers : List JobOutcome) (ticks : ℕ) → none_is_over (answers ++ job_said.Resting ticks ∷ []) ≡ none_is_over answers
over_still [] ticks = refl
over_still (job_said.Stepped ∷ answers) ticks = over_still answers ticks
over_still (job_said.Resting other ∷ answers) ticks = over_still answers ticks
over_still (job_said.Over ∷ answers) ticks = refl
over_still (job_said.Ends end ∷ answers) ticks = over_still answers ticks

over_now : (answers : List JobOutcome) → none_is_over (answers ++ job_said.Over ∷ []) ≡ false
over_now [] = refl
over_now (job_said.Stepped ∷ answers) = over_now answers
over_now (job_said.Resting other ∷ answers) = over_now answers
over_now (job_said.Over ∷ answers) = refl
over_now (job_said.Ends end ∷ answers) = over_now answers

-- ---- of a side's flushers

module _ {D : Type 0} (written : D → Option ℕ) (faults : D → ℕ) (side : CpuSide D) where
  as_long : length (team_of written faults side).posts ≡ length side.posts.items
  as_long = long_map (λ (post : Post D). seen written faults post) side.posts.items

  pub as_team : (job : Job) → next_job (length side.posts.items) job ≡ next_job (length (team_of written faults side).posts) job
  as_team job = ap (λ (n : ℕ). next_job n job) (sym as_long)

  pub few_so : (count : ℕ) → count ≤ length side.posts.items → count ≤ length (team_of written faults side).posts
  few_so count few = let long = as_long in omega arith

  pub all_so : (count : ℕ) → count ≡ length side.posts.items + 1 → count ≡ length (team_of written faults side).posts + 1
  all_so count all = let long = as_long in omega arith

-- ---- so many jobs

pub record Passing (told : ℕ → Type 0) (said : ℕ → ℕ → Bool → Type 0) (kit : Kit) (first job : Job) (count ticks : ℕ) (writes : Bool) (old new : Team) (seats seats' : Seats) : Type 0 where
  pub answers : List JobOutcome
  pub counted : length answers ≡ count
  pub comes : ComesTo told said kit first job answers old new seats seats'
  pub ticks_are : ticks ≡ least_rest answers
  pub writes_are : writes ≡ none_is_over answers

module _ (told : ℕ → Type 0) (said : ℕ → ℕ → Bool → Type 0) (kit : Kit) (first : Job) where
  pub passing_now : (team : Team) (seats : Seats) → Passing told said kit first first 0 MOST_REST true team team seats seats
  passing_now team seats = record {
    answers = [];
    counted = refl;
    comes = record { waits = tt; job_is = refl; still = still_now team seats; turns = (refl, refl) };
    ticks_are = refl;
    writes_are = refl;
  }

  module _ (job next : Job) (count ticks : ℕ) (writes : Bool) (a b c : Team) (s t u : Seats)
      (passing : Passing told said kit first job count ticks writes a b s t) where
    comes_on : (outcome : JobOutcome) → next ≡ next_job (length b.posts) job
        → HasNothingToDo told b.desk.trace b (taker (length b.posts) job) outcome → StandsStill b c t u → JobTakes told said kit job outcome b c t u
        → ComesTo told said kit first next (passing.answers ++ outcome ∷ []) a c s u
    comes_on outcome next_is waits still takes = let comes = passing.comes in record {
      waits = all_wait_more told a.desk.trace a first passing.answers outcome comes.waits
          (subst (λ (j : Job). HasNothingToDo told a.desk.trace a (taker (length a.posts) j) outcome) comes.job_is (waits_before told a b s t comes.still job outcome waits));
      job_is = next_is ∙ ap (λ (n : ℕ). next_job n job) (as_many a.posts b.posts comes.still.flushers)
          ∙ ap (λ (j : Job). next_job (length a.posts) j) comes.job_is ∙ sym (after_more (length a.posts) first passing.answers outcome);
      still = still_both a b c s t u comes.still still;
      turns = turns_more told said kit (length a.posts) first passing.answers outcome a b c s t u comes.turns
          (subst (λ (j : Job). JobTakes told said kit j outcome b c t u) comes.job_is takes);
    }

    pub passing_rested : {ticks' : ℕ} {writes' : Bool} → (rest : ℕ) → next ≡ next_job (length b.posts) job → JobWaits told job (job_said.Resting rest) b c t u
        → JobTakes told said kit job (job_said.Resting rest) b c t u → ticks' ≡ min ticks rest → writes' ≡ writes → Passing told said kit first next (count + 1) ticks' writes' a c s u
    passing_rested rest next_is waits takes ticks_so writes_so = record {
      answers = passing.answers ++ job_said.Resting rest ∷ [];
      counted = longer passing.answers (job_said.Resting rest) ∙ ap (λ (n : ℕ). n + 1) passing.counted;
      comes = comes_on (job_said.Resting rest) next_is waits.0 waits.1 takes;
      ticks_are = ticks_so ∙ ap (λ (n : ℕ). min n rest) passing.ticks_are ∙ sym (least_more passing.answers rest);
      writes_are = writes_so ∙ passing.writes_are ∙ sym (over_still passing.answers rest);
    }

    pub passing_over : {ticks' : ℕ} {writes' : Bool} → next ≡ next_job (length b.posts) job → JobWaits told job job_said.Over b c t u
        → JobTakes told said kit job job_said.Over b c t u → ticks' ≡ ticks → writes' ≡ false → Passing told said kit first next (count + 1) ticks' writes' a c s u
    passing_over next_is waits takes ticks_so writes_so = record {
      answers = passing.answers ++ job_said.Over ∷ [];
      counted = longer passing.answers job_said.Over ∙ ap (λ (n : ℕ). n + 1) passing.counted;
      comes = comes_on job_said.Over next_is waits.0 waits.1 takes;
      ticks_are = ticks_so ∙ passing.ticks_are ∙ sym (least_still passing.answers);
      writes_are = writes_so ∙ sym (over_now passing.answers);
    }

    -- ---- where the round ends

    pub one_goes : (outcome : JobOutcome) → count ≤ length a.posts → JobTakes told said kit job outcome b c t u
        → OneGoes told said kit first job outcome a c s u
    one_goes outcome few takes = record {
      answers = passing.answers;
      few = let counted = passing.counted in omega arith;
      before = b;
      seats_before = t;
      comes = passing.comes;
      takes = takes;
    }

    pub goes_after : next ≡ next_job (length b.posts) job → next ≡ next_job (length a.posts) job
    goes_after next_is = next_is ∙ ap (λ (n : ℕ). next_job n job) (as_many a.posts b.posts passing.comes.still.flushers)

  pub none_goes : {ticks : ℕ} {writes : Bool} → (job : Job) (count : ℕ) (a b : Team) (s t : Seats) → Passing told said kit first job count ticks writes a b s t
      → count ≡ length a.posts + 1 → NoneGoes told said kit first ticks writes a b s t
  none_goes job count a b s t passing all = record {
    answers = passing.answers;
    all = passing.counted ∙ all;
    job = job;
    comes = passing.comes;
    ticks_are = passing.ticks_are;
    writes_are = passing.writes_are;
  }
