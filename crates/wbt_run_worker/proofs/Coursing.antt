-- A worker's rounds so far, one after another.
use Rattle.std.proofs.Common.{◌≡◌, ℕ, Bool, false, Option, Some, None, List, [], ◌∷◌, ◌++◌, refl, sym, ap, ◌∙◌, subst, append_assoc}
use Rattle.wbt_run_worker.proofs.Common.{Each, Kit, HasRun}
use Rattle.wbt_run_worker.specs.Course.{AreRounds, EndBy, GoesOn, Stance}
use Rattle.wbt_run_worker.specs.Rounds.{Rotates}
use Rattle.wbt_run_worker.specs.declared.round.Round.{Round}
use Rattle.wbt_run_worker.specs.declared.round.Round.TheVariants as round
use Rattle.wbt_run_worker.specs.declared.side.End.{End}
use Rattle.wbt_run_worker.specs.declared.side.End.TheVariants.{Ended, Halted, Faulted, Spent, Refused, Stopped}

module _ (told : ℕ → Type 0) (said : ℕ → ℕ → Bool → Type 0) (kit : Kit) where
  abbrev pub IsRound : (answer : Round) (old new : Stance) → Type 0
  IsRound answer old new = Rotates told said kit answer old.next new.next old.team new.team old.seats new.seats

  round_more : (rounds : List Round) (last : Round) (a b c : Stance) → AreRounds told said kit rounds a b → IsRound last b c → AreRounds told said kit (rounds ++ last ∷ []) a c
  round_more [] last a b c are one = (c, subst (λ (s : Stance). IsRound last s c) are one, refl)
  round_more (r ∷ rounds) last a b c are one = (are.0, are.1, round_more rounds last are.0 b c are.2 one)

  -- rounds after which there may be another
  pub record SoMany (old new : Stance) : Type 0 where
    pub rounds : List Round
    pub are : AreRounds told said kit rounds old new
    pub each : Each GoesOn rounds

  each_more : (rounds : List Round) (last : Round) → Each GoesOn rounds → GoesOn last → Each GoesOn (rounds ++ last ∷ [])
  each_more [] last each one = (one, tt)
  each_more (r ∷ rounds) last each one = (each.0, each_more rounds last each.1 one)

  pub none_yet : (s : Stance) → SoMany s s
  none_yet s = record { rounds = []; are = refl; each = tt }

  pub one_more : (answer : Round) (a b c : Stance) → SoMany a b → IsRound answer b c → GoesOn answer → SoMany a c
  one_more answer a b c many one goes = record {
    rounds = many.rounds ++ answer ∷ [];
    are = round_more many.rounds answer a b c many.are one;
    each = each_more many.rounds answer many.each goes;
  }

  pub stopped_after : (a b : Stance) → SoMany a b → HasRun told said kit (Some Stopped) a b
  stopped_after a b many = record { rounds = many.rounds; are = many.are; ends = many.each }

  pub not_yet : (a b : Stance) → SoMany a b → HasRun told said kit None a b
  not_yet a b many = record { rounds = many.rounds; are = many.are; ends = many.each }

  -- rounds after rounds
  all_more : (rounds more : List Round) (a b c : Stance) → AreRounds told said kit rounds a b → AreRounds told said kit more b c → AreRounds told said kit (rounds ++ more) a c
  all_more [] more a b c are then = subst (λ (s : Stance). AreRounds told said kit more s c) are then
  all_more (r ∷ rounds) more a b c are then = (are.0, are.1, all_more rounds more are.0 b c are.2 then)

  each_both : (rounds more : List Round) → Each GoesOn rounds → Each GoesOn more → Each GoesOn (rounds ++ more)
  each_both [] more each then = then
  each_both (r ∷ rounds) more each then = (each.0, each_both rounds more each.1 then)

  ends_both : (end : Option End) (rounds more : List Round) → Each GoesOn rounds → EndBy end more → EndBy end (rounds ++ more)
  ends_both None rounds more each then = each_both rounds more each then
  ends_both (Some Stopped) rounds more each then = each_both rounds more each then
  ends_both (Some Ended) rounds more each then = (rounds ++ then.0, then.1, ap (λ (l : List Round). rounds ++ l) then.2 ∙ sym (append_assoc rounds then.0 (then.1 ∷ [])), each_both rounds then.0 each then.3, then.4)
  ends_both (Some Halted) rounds more each then = (rounds ++ then.0, then.1, ap (λ (l : List Round). rounds ++ l) then.2 ∙ sym (append_assoc rounds then.0 (then.1 ∷ [])), each_both rounds then.0 each then.3, then.4)
  ends_both (Some Faulted) rounds more each then = (rounds ++ then.0, then.1, ap (λ (l : List Round). rounds ++ l) then.2 ∙ sym (append_assoc rounds then.0 (then.1 ∷ [])), each_both rounds then.0 each then.3, then.4)
  ends_both (Some Spent) rounds more each then = (rounds ++ then.0, then.1, ap (λ (l : List Round). rounds ++ l) then.2 ∙ sym (append_assoc rounds then.0 (then.1 ∷ [])), each_both rounds then.0 each then.3, then.4)
  ends_both (Some Refused) rounds more each then = (rounds ++ then.0, then.1, ap (λ (l : List Round). rounds ++ l) then.2 ∙ sym (append_assoc rounds then.0 (then.1 ∷ [])), each_both rounds then.0 each then.3, then.4)

  pub run_on : (end : Option End) (a b c : Stance) → HasRun told said kit None a b → HasRun told said kit end b c → HasRun told said kit end a c
  run_on end a b c p q = record {
    rounds = p.rounds ++ q.rounds;
    are = all_more p.rounds q.rounds a b c p.are q.are;
    ends = ends_both end p.rounds q.rounds p.ends q.ends;
  }

  pub ended_after : (ticks : ℕ) (writes : Bool) (a b c : Stance) → SoMany a b → IsRound (round.Idle ticks writes) b c → writes ≡ false → HasRun told said kit (Some Ended) a c
  ended_after ticks writes a b c many one none_writes = record {
    rounds = many.rounds ++ round.Idle ticks writes ∷ [];
    are = round_more many.rounds (round.Idle ticks writes) a b c many.are one;
    ends = (many.rounds, round.Idle ticks writes, refl, many.each, none_writes);
  }

  cut_by : (end : End) (rounds : List Round) → (end ≡ Ended → ⊥) → (end ≡ Stopped → ⊥) → Each GoesOn rounds → EndBy (Some end) (rounds ++ round.Ends end ∷ [])
  cut_by Ended rounds not_ended not_stopped each = absurd (not_ended refl)
  cut_by Halted rounds not_ended not_stopped each = (rounds, round.Ends Halted, refl, each, refl)
  cut_by Faulted rounds not_ended not_stopped each = (rounds, round.Ends Faulted, refl, each, refl)
  cut_by Spent rounds not_ended not_stopped each = (rounds, round.Ends Spent, refl, each, refl)
  cut_by Refused rounds not_ended not_stopped each = (rounds, round.Ends Refused, refl, each, refl)
  cut_by Stopped rounds not_ended not_stopped each = absurd (not_stopped refl)

  pub cut_after : (end : End) (a b c : Stance) → SoMany a b → IsRound (round.Ends end) b c → (end ≡ Ended → ⊥) → (end ≡ Stopped → ⊥) → HasRun told said kit (Some end) a c
  cut_after end a b c many one not_ended not_stopped = record {
    rounds = many.rounds ++ round.Ends end ∷ [];
    are = round_more many.rounds (round.Ends end) a b c many.are one;
    ends = cut_by end many.rounds not_ended not_stopped many.each;
  }
