-- A worker's rounds so far, with one more, and how they end.
use Rattle.std.proofs.Common.{◌≡◌, ℕ, Bool, false, cond, Option, Some, None, refl, sym, subst}
use Rattle.wbt_run_worker.proofs.Common.{TableId, Known, Kit, Seats, CutsOff, Goes, IsSide, team_of, StandsStay}
use Rattle.wbt_run_worker.specs.Answers.{RoundAnswers}
use Rattle.wbt_run_worker.specs.Course.{stance_of}
use Rattle.wbt_run_worker.specs.MadeRounds.{HasComeOut, HasMadeRounds}
use Rattle.wbt_run_worker.specs.Voices.{HasLeft, MaySpeak, Speaks}
use Rattle.wbt_run_worker.specs.declared.round.Round.{Round}
use Rattle.wbt_run_worker.specs.declared.round.Round.TheVariants as round
use Rattle.wbt_run_worker.specs.declared.side.CpuSide.{CpuSide}
use Rattle.wbt_run_worker.specs.declared.side.End.{End}
use Rattle.wbt_run_worker.specs.declared.side.End.TheVariants.{Ended, Stopped}
use Rattle.wbt_run_worker.specs.declared.worker.Worker.{Worker}
use Rattle.wbt_run_worker.proofs.Coursing.{IsRound, SoMany, cut_after, ended_after, none_yet, not_yet, one_more, stopped_after}
use Rattle.wbt_run_worker.proofs.Going.{stands_more}
use Rattle.wbt_run_worker.proofs.Speaking.{speaks_looked, speaks_now}
use Rattle.wbt_run_worker.proofs.Working.{Works, ended_so, ends_so, goes_so, idle_so, stepped_so, works_now}

module _ {D : Type 0} (signals : TableId) (told : ℕ → Type 0) (said : ℕ → ℕ → Bool → Type 0) (written : D → Option ℕ) (faults : D → ℕ) (kit : Kit) where
  -- the rounds of a worker so far
  pub record SoFar (first worker : Worker D) : Type 0 where
    pub works : Works told first.side.writers.trace first.side.writers.cpu kit (team_of written faults first.side) (team_of written faults worker.side) first.seats worker.seats
    pub stands : StandsStay first.side.posts.items worker.side.posts.items
    pub rounds : SoMany told said kit (stance_of written faults first.side first.seats) (stance_of written faults worker.side worker.seats)
    pub speaks : Speaks signals worker.writes None first.voice worker.voice

  -- what a round made of a side and its seats, by its answer
  pub record Made (answer : Round) (old new : CpuSide D) (seats seats' : Seats) : Type 0 where
    pub goes : Goes told old.writers.trace old.writers.cpu kit (team_of written faults old) (team_of written faults new) seats seats'
    pub stands : StandsStay old.posts.items new.posts.items
    pub answers : RoundAnswers said old.writers.trace old.writers.cpu kit answer (team_of written faults old) (team_of written faults new) seats seats'
    pub rotates : IsRound told said kit answer (stance_of written faults old seats) (stance_of written faults new seats')

  pub none_so_far : (worker : Worker D) → IsSide worker.side.writers.trace worker.side.writers.cpu kit (team_of written faults worker.side) worker.seats → MaySpeak signals worker.writes worker.voice → SoFar worker worker
  none_so_far worker side may = record {
    works = works_now told said worker.side.writers.trace worker.side.writers.cpu kit (team_of written faults worker.side) worker.seats side;
    stands = refl;
    rounds = none_yet told said kit (stance_of written faults worker.side worker.seats);
    speaks = speaks_now signals worker.writes worker.voice may;
  }

  module _ (first worker : Worker D) (so_far : SoFar first worker) where
    -- it listened for the bell
    pub listened : (heard : Bool) (voice : Known) → voice ≡ record worker.voice { heard = heard; notes = voice.notes } → Speaks signals worker.writes None first.voice voice
    listened heard voice is = speaks_looked signals worker.writes heard first.voice worker.voice voice so_far.speaks is

    pub stopped_there : (voice : Known) → Speaks signals worker.writes (Some Stopped) first.voice voice → HasMadeRounds signals told said written faults kit (Some Stopped) first (record worker { voice = voice })
    stopped_there voice speaks = record {
      goes = so_far.works.goes;
      stands = so_far.stands;
      comes = so_far.works.side;
      run = stopped_after told said kit (stance_of written faults first.side first.seats) (stance_of written faults worker.side worker.seats) so_far.rounds;
      speaks = speaks;
    }

    pub left_there : (voice : Known) → Speaks signals worker.writes None first.voice voice → HasMadeRounds signals told said written faults kit None first (record worker { voice = voice })
    left_there voice speaks = record {
      goes = so_far.works.goes;
      stands = so_far.stands;
      comes = so_far.works.side;
      run = not_yet told said kit (stance_of written faults first.side first.seats) (stance_of written faults worker.side worker.seats) so_far.rounds;
      speaks = speaks;
    }

    module _ (side : CpuSide D) (seats : Seats) (writes : Bool) (voice : Known) where
      abbrev next : Worker D
      next = record worker { side = side; seats = seats; writes = writes; voice = voice }

      module _ (answer : Round) (made : Made answer worker.side side worker.seats seats) where
        went_on : Goes told first.side.writers.trace first.side.writers.cpu kit (team_of written faults first.side) (team_of written faults side) first.seats seats
        went_on = goes_so told said first.side.writers.trace first.side.writers.cpu kit (team_of written faults first.side) (team_of written faults worker.side) (team_of written faults side)
            first.seats worker.seats seats so_far.works made.goes

        stood : StandsStay first.side.posts.items side.posts.items
        stood = stands_more first.side.posts.items worker.side.posts.items side.posts.items so_far.stands made.stands

      pub stepped_there : Made round.Stepped worker.side side worker.seats seats → Speaks signals writes None first.voice voice → SoFar first next
      stepped_there made speaks = record {
        works = stepped_so told said first.side.writers.trace first.side.writers.cpu kit (team_of written faults first.side) (team_of written faults worker.side) (team_of written faults side)
            first.seats worker.seats seats so_far.works made.goes made.answers;
        stands = stood round.Stepped made;
        rounds = one_more told said kit round.Stepped (stance_of written faults first.side first.seats) (stance_of written faults worker.side worker.seats) (stance_of written faults side seats) so_far.rounds made.rotates tt;
        speaks = speaks;
      }

      module _ (ticks : ℕ) (writes_still : Bool) (made : Made (round.Idle ticks writes_still) worker.side side worker.seats seats) where
        pub rested_there : Speaks signals writes None first.voice voice → SoFar first next
        rested_there speaks = record {
          works = idle_so told said first.side.writers.trace first.side.writers.cpu kit (team_of written faults first.side) (team_of written faults worker.side) (team_of written faults side)
              first.seats worker.seats seats so_far.works made.goes ticks writes_still made.answers;
          stands = stood (round.Idle ticks writes_still) made;
          rounds = one_more told said kit (round.Idle ticks writes_still) (stance_of written faults first.side first.seats) (stance_of written faults worker.side worker.seats) (stance_of written faults side seats)
              so_far.rounds made.rotates tt;
          speaks = speaks;
        }

        pub ended_there : writes_still ≡ false → Speaks signals writes (Some Ended) first.voice voice → HasMadeRounds signals told said written faults kit (Some Ended) first next
        ended_there nobody speaks = record {
          goes = went_on (round.Idle ticks writes_still) made;
          stands = stood (round.Idle ticks writes_still) made;
          comes = ended_so told said first.side.writers.trace first.side.writers.cpu kit (team_of written faults first.side) (team_of written faults worker.side) (team_of written faults side)
              first.seats worker.seats seats so_far.works made.goes ticks writes_still made.answers nobody;
          run = ended_after told said kit ticks writes_still (stance_of written faults first.side first.seats) (stance_of written faults worker.side worker.seats) (stance_of written faults side seats)
              so_far.rounds made.rotates nobody;
          speaks = speaks;
        }

      module _ (end : End) (made : Made (round.Ends end) worker.side side worker.seats seats) where
        not_so : (other : End) → end ≡ other → CutsOff said worker.side.writers.trace worker.side.writers.cpu kit other (team_of written faults worker.side) (team_of written faults side) worker.seats seats
        not_so other is = subst (λ (e : End). CutsOff said worker.side.writers.trace worker.side.writers.cpu kit e (team_of written faults worker.side) (team_of written faults side) worker.seats seats) is made.answers

        pub cuts_off : (end ≡ Ended → ⊥) × (end ≡ Stopped → ⊥)
        cuts_off = ((λ is. not_so Ended is), λ is. not_so Stopped is)

        pub cut_there : Speaks signals writes (Some end) first.voice voice → HasMadeRounds signals told said written faults kit (Some end) first next
        cut_there speaks = record {
          goes = went_on (round.Ends end) made;
          stands = stood (round.Ends end) made;
          comes = ends_so told said first.side.writers.trace first.side.writers.cpu kit (team_of written faults first.side) (team_of written faults worker.side) (team_of written faults side)
              first.seats worker.seats seats so_far.works made.goes end made.answers;
          run = cut_after told said kit end (stance_of written faults first.side first.seats) (stance_of written faults worker.side worker.seats) (stance_of written faults side seats)
              so_far.rounds made.rotates cuts_off.0 cuts_off.1;
          speaks = speaks;
        }

  -- whether it is to be served in turn, and how its side ended, were then put down
  pub came_out : (end : Option End) (first worker : Worker D) (in_turn : Bool) (last : End) (voice : Known) → cond in_turn None (Some last) ≡ end → HasLeft end worker.voice voice
      → HasMadeRounds signals told said written faults kit end first worker
      → HasComeOut signals told said written faults kit (cond in_turn None (Some last)) first (record worker { in_turn = in_turn; side = record worker.side { end = last }; voice = voice })
  came_out end first worker in_turn last voice is left made =
      let m = subst (λ (e : Option End). HasMadeRounds signals told said written faults kit e first worker) (sym is) made in
      record {
        goes = m.goes;
        stands = m.stands;
        comes = m.comes;
        run = m.run;
        speaks = record { last = worker.voice; speaks = m.speaks; left = subst (λ (e : Option End). HasLeft e worker.voice voice) (sym is) left };
      }
