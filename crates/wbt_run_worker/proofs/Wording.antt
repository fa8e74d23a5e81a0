-- The steps of a CPU's turns: those of whole turns, and where its side was halted perhaps of a last one that was cut off.
use Rattle.std.proofs.Common.{◌≡◌, ℕ, Bool, Some, List, [], ◌∷◌, ◌++◌, refl, sym, ap, ◌∙◌, subst}
use Rattle.wbt_run_worker.proofs.Common.{StepKind, Each, Kit, Seats, Turn, Steps, StepsInTurn, IsCutOff, IsTurn, IsWhole, job_by, HasRun, Team, AreWordsBy}
use Rattle.wbt_kit.specs.declared.turn.Turn.TheVariants as turn
use Rattle.wbt_run_steps.specs.Kinds.{CutsTurn, StepsAs, TakesTurn}
use Rattle.wbt_run_steps.proofs.Logging.{cut_whole, none_as, steps_behind, steps_more, steps_still}
use Rattle.wbt_table.specs.Layout.{domains}
use Rattle.wbt_turns.specs.Words.{IsCut}
use Rattle.wbt_turns.proofs.Following.{cut_more, whole_more, whole_none}
use Rattle.wbt_run_worker.specs.Course.{AreRounds, EndBy, GoesOn, IsLast, Stance}
use Rattle.wbt_run_worker.specs.Rounds.{ComesTo, OneGoes}
use Rattle.wbt_run_worker.specs.declared.round.JobOutcome.{JobOutcome}
use Rattle.wbt_run_worker.specs.declared.round.JobOutcome.TheVariants as job_said
use Rattle.wbt_run_worker.specs.declared.round.Round.{Round}
use Rattle.wbt_run_worker.specs.declared.round.Round.TheVariants as round
use Rattle.wbt_run_worker.specs.declared.side.End.{End}
use Rattle.wbt_run_worker.specs.declared.side.End.TheVariants.{Ended, Halted, Faulted, Spent, Refused, Stopped}
use Rattle.wbt_run_worker.specs.declared.side.Job.{Job}
use Rattle.wbt_run_worker.proofs.Coursing.{IsRound}

-- ---- a turn, by its answer

module _ (domains cpu : ℕ) (old new : Seats) where
  -- one that wasn't halted is whole
  pub whole_turn : (answer : Turn) → (job_by answer ≡ job_said.Ends Halted → ⊥) → StepsInTurn domains cpu answer old new → TakesTurn domains cpu old new
  whole_turn turn.Stepped not steps = steps
  whole_turn (turn.Resting now until) not steps = steps
  whole_turn turn.Done not steps = steps
  whole_turn turn.Halted not steps = absurd (not refl)
  whole_turn turn.Faulted not steps = steps
  whole_turn turn.Spent not steps = steps
  whole_turn turn.NoMemory not steps = steps

  -- and any is whole or was cut off
  pub cut_turn : (answer : Turn) → StepsInTurn domains cpu answer old new → CutsTurn domains cpu old new
  cut_turn turn.Stepped steps = cut_whole cpu (IsTurn domains) old new steps
  cut_turn (turn.Resting now until) steps = cut_whole cpu (IsTurn domains) old new steps
  cut_turn turn.Done steps = cut_whole cpu (IsTurn domains) old new steps
  cut_turn turn.Halted steps = steps
  cut_turn turn.Faulted steps = cut_whole cpu (IsTurn domains) old new steps
  cut_turn turn.Spent steps = cut_whole cpu (IsTurn domains) old new steps
  cut_turn turn.NoMemory steps = cut_whole cpu (IsTurn domains) old new steps

-- ---- rounds

not_stepped : job_said.Stepped ≡ job_said.Ends Halted → ⊥
not_stepped e = cc

abbrev end_in : JobOutcome → End
end_in (job_said.Ends end) = end
end_in other = Ended

not_so : (end : End) → (end ≡ Halted → ⊥) → job_said.Ends end ≡ job_said.Ends Halted → ⊥
not_so end not e = not (ap end_in e)

faulted_not : Faulted ≡ Halted → ⊥
faulted_not e = cc

spent_not : Spent ≡ Halted → ⊥
spent_not e = cc

refused_not : Refused ≡ Halted → ⊥
refused_not e = cc

module _ (told : ℕ → Type 0) (said : ℕ → ℕ → Bool → Type 0) (kit : Kit) (cpu : ℕ) where
  abbrev pub Word : List StepKind → Type 0
  Word = IsTurn (domains kit.throttle.layout)

  -- jobs that have nothing to do make no step
  nothing_made : (first job : Job) (answers : List JobOutcome) (old new : Team) (seats seats' : Seats) → ComesTo told said kit first job answers old new seats seats' → StepsAs cpu [] seats seats'
  nothing_made first job answers old new seats seats' comes = none_as cpu seats seats' comes.still.idled.cpu

  module _ (first job : Job) (outcome : JobOutcome) (old new : Team) (seats seats' : Seats) (one : OneGoes told said kit first job outcome old new seats seats') (at : old.desk.cpu ≡ cpu) where
    at_before : one.before.desk.cpu ≡ cpu
    at_before = one.comes.still.cpu ∙ at

    at_after : new.desk.cpu ≡ cpu
    at_after = one.takes.cpu ∙ at_before

    its_steps : StepsInTurn (domains kit.throttle.layout) cpu one.takes.answer one.seats_before seats'
    its_steps = subst (λ (c : ℕ). StepsInTurn (domains kit.throttle.layout) c one.takes.answer one.seats_before seats') at_before one.takes.steps

    none_before : StepsAs cpu [] seats one.seats_before
    none_before = nothing_made first job one.answers old one.before seats one.seats_before one.comes

    one_whole : (outcome ≡ job_said.Ends Halted → ⊥) → Steps cpu Word seats seats'
    one_whole not = steps_behind cpu Word seats one.seats_before seats' none_before
        (whole_turn (domains kit.throttle.layout) cpu one.seats_before seats' one.takes.answer (λ e. not (one.takes.told_so ∙ e)) its_steps)

    one_cut : Steps cpu (IsCut Word) seats seats'
    one_cut = steps_behind cpu (IsCut Word) seats one.seats_before seats' none_before
        (cut_turn (domains kit.throttle.layout) cpu one.seats_before seats' one.takes.answer its_steps)

  -- the steps between two stances are whole turns, and the CPU is the same
  record SoFar (old new : Stance) : Type 0 where
    steps : Steps cpu (IsWhole Word) old.seats new.seats
    at : new.team.desk.cpu ≡ cpu

  so_far_now : (s : Stance) → s.team.desk.cpu ≡ cpu → SoFar s s
  so_far_now s at = record { steps = ([], whole_none Word, none_as cpu s.seats s.seats refl); at = at }

  one_more : (a b c : Stance) → SoFar a b → Steps cpu Word b.seats c.seats → Steps cpu (IsWhole Word) a.seats c.seats
  one_more a b c so one = steps_more cpu (IsWhole Word) Word (IsWhole Word) a.seats b.seats c.seats (whole_more Word) so.steps one

  -- after a round that another may follow
  goes_on : (answer : Round) (a b c : Stance) → SoFar a b → IsRound told said kit answer b c → GoesOn answer → SoFar a c
  goes_on round.Stepped a b c so r goes = record {
    steps = one_more a b c so (one_whole b.next r.0 job_said.Stepped b.team c.team b.seats c.seats r.1 so.at not_stepped);
    at = at_after b.next r.0 job_said.Stepped b.team c.team b.seats c.seats r.1 so.at;
  }
  goes_on (round.Idle ticks writes) a b c so r goes = record {
    steps = steps_still cpu (IsWhole Word) a.seats b.seats c.seats so.steps (nothing_made b.next r.0.job r.0.answers b.team c.team b.seats c.seats r.0.comes);
    at = r.0.comes.still.cpu ∙ so.at;
  }
  goes_on (round.Ends end) a b c so r goes = absurd goes

  all_go : (rounds : List Round) (a b c : Stance) → SoFar a b → AreRounds told said kit rounds b c → Each GoesOn rounds → SoFar a c
  all_go [] a b c so are each = subst (λ (s : Stance). SoFar a s) (sym are) so
  all_go (r ∷ rounds) a b c so are each = all_go rounds a are.0 c (goes_on r a b are.0 so are.1 each.0) are.2 each.1

  -- the last of some rounds
  parted : (before : List Round) (last : Round) (a c : Stance) → AreRounds told said kit (before ++ last ∷ []) a c
      → (mid : Stance) × AreRounds told said kit before a mid × IsRound told said kit last mid c
  parted [] last a c are = (a, refl, subst (λ (s : Stance). IsRound told said kit last a s) (sym are.2) are.1)
  parted (r ∷ before) last a c are = let rest = parted before last are.0 c are.2 in (rest.0, (are.0, are.1, rest.1), rest.2)

  -- where a round cut the side off otherwise than by the gate, its last turn was whole
  ends_whole : (end : End) (a b c : Stance) → SoFar a b → IsRound told said kit (round.Ends end) b c → (end ≡ Halted → ⊥) → Steps cpu (IsWhole Word) a.seats c.seats
  ends_whole end a b c so r not = one_more a b c so (one_whole b.next r.0 (job_said.Ends end) b.team c.team b.seats c.seats r.1 so.at (not_so end not))

  ends_cut : (a b c : Stance) → SoFar a b → IsRound told said kit (round.Ends Halted) b c → Steps cpu (IsCutOff Word) a.seats c.seats
  ends_cut a b c so r = steps_more cpu (IsWhole Word) (IsCut Word) (IsCutOff Word) a.seats b.seats c.seats (cut_more Word) so.steps
      (one_cut b.next r.0 (job_said.Ends Halted) b.team c.team b.seats c.seats r.1 so.at)

  -- an idle one makes no step
  ends_idle : (last : Round) (a b c : Stance) → SoFar a b → IsRound told said kit last b c → IsLast Ended last → Steps cpu (IsWhole Word) a.seats c.seats
  ends_idle round.Stepped a b c so r last = absurd last
  ends_idle (round.Idle ticks writes) a b c so r last = (goes_on (round.Idle ticks writes) a b c so r tt).steps
  ends_idle (round.Ends end) a b c so r last = absurd last

  module _ (a c : Stance) (at : a.team.desk.cpu ≡ cpu) where
    before_last : (rounds before : List Round) (last : Round) → AreRounds told said kit rounds a c → rounds ≡ before ++ last ∷ [] → Each GoesOn before
        → (mid : Stance) × SoFar a mid × IsRound told said kit last mid c
    before_last rounds before last are is each =
        let all = parted before last a c (subst (λ (l : List Round). AreRounds told said kit l a c) is are) in
        (all.0, all_go before a a all.0 (so_far_now a at) all.1 each, all.2)

    cut_by : (end : End) (rounds : List Round) → AreRounds told said kit rounds a c → (end ≡ Halted → ⊥) → (before : List Round) (last : Round) → rounds ≡ before ++ last ∷ []
        → Each GoesOn before → last ≡ round.Ends end → Steps cpu (IsWhole Word) a.seats c.seats
    cut_by end rounds are not before last is each it =
        let all = before_last rounds before last are is each in
        ends_whole end a all.0 c all.1 (subst (λ (r : Round). IsRound told said kit r all.0 c) it all.2) not

    turns_by : (end : End) (rounds : List Round) → AreRounds told said kit rounds a c → EndBy (Some end) rounds → Steps cpu (AreWordsBy Word end) a.seats c.seats
    turns_by Ended rounds are e =
        let all = before_last rounds e.0 e.1 are e.2 e.3 in
        ends_idle e.1 a all.0 c all.1 all.2 e.4
    turns_by Halted rounds are e =
        let all = before_last rounds e.0 e.1 are e.2 e.3 in
        ends_cut a all.0 c all.1 (subst (λ (r : Round). IsRound told said kit r all.0 c) e.4 all.2)
    turns_by Faulted rounds are e = cut_by Faulted rounds are faulted_not e.0 e.1 e.2 e.3 e.4
    turns_by Spent rounds are e = cut_by Spent rounds are spent_not e.0 e.1 e.2 e.3 e.4
    turns_by Refused rounds are e = cut_by Refused rounds are refused_not e.0 e.1 e.2 e.3 e.4
    turns_by Stopped rounds are each = (all_go rounds a a c (so_far_now a at) are each).steps

    -- the CPU's turns, from the first to the last
    pub run_steps : (end : End) → HasRun told said kit (Some end) a c → Steps cpu (AreWordsBy Word end) a.seats c.seats
    run_steps end run = turns_by end run.rounds run.are run.ends
