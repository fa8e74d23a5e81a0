-- What a CPU's log tells of its steps, after more of them.
use Rattle.std.proofs.Common.{◌≡◌, inl, inr, ℕ, List, [], ◌∷◌, refl, sym, ◌∙◌, subst}
use lib.ListN.{get_elem?}
use Rattle.wbt_run_worker.proofs.Common.{StepKind, Seats, Turn, Steps, StepsInTurn, kinds_in, job_by, AreWordsBy, IsCutOff, IsTurn, IsWhole}
use Rattle.wbt_kit.specs.declared.turn.Turn.TheVariants as turn
use Rattle.wbt_run_steps.specs.Kinds.{CutsTurn, TakesTurn}
use Rattle.wbt_run_worker.specs.declared.side.End.{End}
use Rattle.wbt_run_worker.specs.declared.side.End.TheVariants.{Ended, Halted, Faulted, Spent, Refused, Stopped}
use Rattle.wbt_turns.specs.Words.{AreCut, AreWhole, IsCut}
use Rattle.wbt_turns.specs.Words.IsTurn.{rests}
use Rattle.wbt_turns.proofs.Following.{cut_more, cut_none, whole_more}
use Rattle.wbt_run_drain.specs.Turned.{end_by}
use Rattle.wbt_run_drain.specs.Words.{IsLook, IsTurnOrLook, TellsTurns}

module _ (n cpu : ℕ) where
  abbrev pub Word : List StepKind → Type 0
  Word = IsTurnOrLook n cpu

  -- words of turns are words of turns and looks
  each_so : (words : List (List StepKind)) (word : List StepKind) → AreWhole (IsTurn n) words word → AreWhole Word words word
  each_so [] word is = is
  each_so (first ∷ words) word are = (inl are.0, (are.1.0, are.1.1, each_so words are.1.0 are.1.2))

  each_cut : (words : List (List StepKind)) (word : List StepKind) → AreCut (IsTurn n) words word → AreCut Word words word
  each_cut [] word cut = (cut.0, inl cut.1)
  each_cut (first ∷ words) word are = (inl are.0, (are.1.0, are.1.1, each_cut words are.1.0 are.1.2))

  whole_so : (word : List StepKind) → IsWhole (IsTurn n) word → IsWhole Word word
  whole_so word whole = record { words = whole.words; are = each_so whole.words word whole.are }

  pub turns_or_looks : (end : End) (word : List StepKind) → AreWordsBy (IsTurn n) end word → AreWordsBy Word end word
  turns_or_looks Ended word are = whole_so word are
  turns_or_looks Halted word are = record { words = are.words; are = each_cut are.words word are.are }
  turns_or_looks Faulted word are = whole_so word are
  turns_or_looks Spent word are = whole_so word are
  turns_or_looks Refused word are = whole_so word are
  turns_or_looks Stopped word are = whole_so word are

  -- at least the last one may be cut off
  whole_cut_off : (word : List StepKind) → IsWhole Word word → IsCutOff Word word
  whole_cut_off word whole = cut_none Word [] word (inl (rests (inl refl))) whole

  pub may_be_cut : (end : End) (word : List StepKind) → AreWordsBy Word end word → IsCutOff Word word
  may_be_cut Ended word are = whole_cut_off word are
  may_be_cut Halted word are = are
  may_be_cut Faulted word are = whole_cut_off word are
  may_be_cut Spent word are = whole_cut_off word are
  may_be_cut Refused word are = whole_cut_off word are
  may_be_cut Stopped word are = whole_cut_off word are

  -- another CPU made steps
  pub tells_else : (end : End) (old new : Seats) → get_elem? new.cpu.logs cpu ≡ get_elem? old.cpu.logs cpu → TellsTurns n cpu end old → TellsTurns n cpu end new
  tells_else end old new same tells = (tells.0, same ∙ tells.1, tells.2)

  module _ (old new : Seats) (tells : TellsTurns n cpu Ended old) where
    -- a word more
    tells_more : Steps cpu Word old new → TellsTurns n cpu Ended new
    tells_more steps = let after = steps.2.logs tells.0 tells.1 in
        (after.0, after.1, subst (IsWhole Word) (sym after.2) (whole_more Word (kinds_in tells.0) steps.0 tells.2 steps.1))

    tells_cut : Steps cpu (IsCut Word) old new → TellsTurns n cpu Halted new
    tells_cut steps = let after = steps.2.logs tells.0 tells.1 in
        (after.0, after.1, subst (IsCutOff Word) (sym after.2) (cut_more Word (kinds_in tells.0) steps.0 tells.2 steps.1))

    pub looks_more : Steps cpu (IsLook cpu) old new → TellsTurns n cpu Ended new
    looks_more steps = tells_more (steps.0, inr steps.1, steps.2)

    turn_more : TakesTurn n cpu old new → TellsTurns n cpu Ended new
    turn_more steps = tells_more (steps.0, inl steps.1, steps.2)

    turn_cut : CutsTurn n cpu old new → TellsTurns n cpu Halted new
    turn_cut steps = tells_cut (steps.0, (steps.1.0, inl steps.1.1), steps.2)

    -- a turn more, by its answer
    pub turned_more : (answer : Turn) → StepsInTurn n cpu answer old new → TellsTurns n cpu (end_by (job_by answer) Ended) new
    turned_more turn.Stepped steps = turn_more steps
    turned_more (turn.Resting now until) steps = turn_more steps
    turned_more turn.Done steps = turn_more steps
    turned_more turn.Halted steps = turn_cut steps
    turned_more turn.Faulted steps = turn_more steps
    turned_more turn.Spent steps = turn_more steps
    turned_more turn.NoMemory steps = turn_more steps

-- a turn leaves the logs of others as they were
pub others_stay : (n cpu : ℕ) (answer : Turn) (old new : Seats) → StepsInTurn n cpu answer old new → (other : ℕ) → (other ≡ cpu → ⊥)
    → get_elem? new.cpu.logs other ≡ get_elem? old.cpu.logs other
others_stay n cpu turn.Stepped old new steps other ne = steps.2.others other ne
others_stay n cpu (turn.Resting now until) old new steps other ne = steps.2.others other ne
others_stay n cpu turn.Done old new steps other ne = steps.2.others other ne
others_stay n cpu turn.Halted old new steps other ne = steps.2.others other ne
others_stay n cpu turn.Faulted old new steps other ne = steps.2.others other ne
others_stay n cpu turn.Spent old new steps other ne = steps.2.others other ne
others_stay n cpu turn.NoMemory old new steps other ne = steps.2.others other ne

pub timer_stays : (n cpu : ℕ) (answer : Turn) (old new : Seats) → StepsInTurn n cpu answer old new → new.cpu.timer_log ≡ old.cpu.timer_log
timer_stays n cpu turn.Stepped old new steps = steps.2.timer
timer_stays n cpu (turn.Resting now until) old new steps = steps.2.timer
timer_stays n cpu turn.Done old new steps = steps.2.timer
timer_stays n cpu turn.Halted old new steps = steps.2.timer
timer_stays n cpu turn.Faulted old new steps = steps.2.timer
timer_stays n cpu turn.Spent old new steps = steps.2.timer
timer_stays n cpu turn.NoMemory old new steps = steps.2.timer
