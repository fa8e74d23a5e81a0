-- What the workers and the timer leave, from their first turns on.
use Rattle.std.proofs.Common.{◌≡◌, ℕ, zero, suc, ◌≤◌, Bool, true, false, cond, List, [], ◌∷◌, ◌++◌, length, get_or, Option, refl, sym, ap, ◌∙◌, subst, arith, length-append}
use Rattle.wbt_run_seats.specs.Opened.{IsFirstLeft}
use Rattle.wbt_run_seats.proofs.Firsts.{left_is_first}
use Rattle.wbt_run_worker.proofs.Common.{kit_is_opened, TimerRecord, domains, TimerEntry, AreSeatsOf, HasTimer, IsKitOf, known_of, IsLawful, Trace, TableId, Each, Kit, Seats, MayTick, Ticks, IsCutOff, IsTimerTurn, SeatsStay, Known}
use Rattle.wbt_published.specs.Passes.{Seats as EstPass}
use Rattle.wbt_run_worker.specs.declared.worker.Worker.{Worker}
use Rattle.wbt_run_worker.proofs.Going.{own_side}
use Rattle.wbt_table.specs.Layout.{domains as limits_of}
use Rattle.wbt_turns.proofs.Following.{timer_turns_follow}
use Rattle.wbt_run_worker.specs.TimerTurns.{StepsSo}
use Rattle.wbt_timer.specs.Kinds.{HasSealed}
use Rattle.wbt_timer.proofs.Made.{sealed_at_first}
use Rattle.wbt_timer.specs.Side.{Side, first_side, first_sides, ticked}
use Rattle.wbt_timer.specs.declared.side.DomainSide.{DomainSide}
use Rattle.wbt_run_drain.specs.Standing.{AreStanding}
use Rattle.wbt_run_drain.specs.Words.{TimerTellsTurns}
use Rattle.wbt_run_beside.specs.Beside.{AllHaveWorked, AllMayWork, team_in}
use Rattle.wbt_run_worker.proofs.Lists.{each_at}
use Rattle.wbt_run_first.specs.Voiced.{IsVoiced}
use Rattle.wbt_run_together.specs.Gather.{AllAtKit, CameTogether, sides_of}
use Rattle.wbt_run_first.specs.Seated.{AreSeated, HasTicked, IsFirstTimer, MakeAll, PublishesNone}
use Rattle.wbt_run_together.proofs.Worked as worked
use Rattle.wbt_run_together.proofs.Gathered.{AreTaken, all_standing, makes_all, timer_log_there, timer_there}

-- all sides stand, all notes are told to be there once they come together, and the timer's record is there
pub record Comes {D : Type 0} (told : ℕ → Type 0) (said : ℕ → ℕ → Bool → Type 0) (written : D → Option ℕ) (faults : D → ℕ) (trace : Trace) (kit : Kit) (done : List (Worker D))
    (after all : Seats) : Type 0 where
  pub standing : AreStanding told said written faults trace kit (sides_of done) all
  pub complete : MakeAll kit after.share all.share
  pub timer : all.cpu.timer ≡ after.cpu.timer
  pub timer_log : all.cpu.timer_log ≡ after.cpu.timer_log

sides_long : (trace : Trace) (now count : ℕ) → length (first_sides trace now count) ≡ count
sides_long trace now zero = refl
sides_long trace now (suc n) = let before = sides_long trace now n in omega (arith, length-append (first_sides trace now n) (first_side trace now n ∷ []))

pub came_at : {D : Type 0} (kit : Kit) (done : List (Worker D)) (mid : Seats) → CameTogether kit done mid → AreSeatsOf kit mid
came_at kit [] mid came = absurd came
came_at kit (one ∷ more) mid came = came.seats_are

module _ {D : Type 0} (told : ℕ → Type 0) (said : ℕ → ℕ → Bool → Type 0) (written : D → Option ℕ) (faults : D → ℕ) (trace : Trace) (now : ℕ) (kit : Kit)
    (lawful : IsLawful trace) (is : IsKitOf trace now kit) (old : List (Worker D)) (left : Seats) (seated : AreSeated written faults trace now kit old left) where
  -- each may take turns
  pub all_may : (signals : TableId) → Each (IsVoiced signals) old → AllMayWork signals written faults kit old
  all_may signals voiced n other less =
      let worker = get_or old n other in
      let its = each_at (IsVoiced signals) old n other less voiced in record {
        side = own_side trace n kit (team_in written faults worker) worker.seats (seated.workers_are.each n other (omega (arith, seated.workers_are.many))).side;
        voice = record {
          its = ap (λ (known : Known). known.signals) its.voice;
          leave = ap (λ (known : Known). known.writes) its.voice ∙ sym (ap (λ (b : Bool). cond b 1 0) its.writes);
          there = ap (λ (known : Known). known.there) its.voice;
        };
      }

  pub some_work : 1 ≤ length old
  some_work = omega (arith, lawful.whole.cpus, seated.workers_are.many)

  left_first : IsFirstLeft trace kit left
  left_first = left_is_first trace now kit seated.first left lawful is seated.are_first seated.left_is

  pub all_at : (done : List (Worker D)) → length done ≡ length old → AllHaveWorked told said written faults kit old done → AllAtKit kit done
  all_at done many worked_all n other less =
      (worked.goes told said written faults trace now kit seated.first n (get_or old n other) (get_or done n other)
      (seated.workers_are.each n other (omega (arith, many, seated.workers_are.many))) (worked_all n other (omega (arith, many)))).stands.fits.seats_are

  pub comes : (done : List (Worker D)) (mid after all : Seats) → length done ≡ length old → AllHaveWorked told said written faults kit old done → CameTogether kit done mid
      → SeatsStay left after → AreSeatsOf kit after → ((r : TimerRecord) × HasTimer r after) → AreTaken kit after mid all
      → Comes told said written faults trace kit done after all
  comes [] mid after all many worked_all came stay after_at timer taken = absurd came
  comes (one ∷ more) mid after all many worked_all came stay after_at timer taken = record {
    standing = all_standing told said written faults trace now kit lawful is seated.first left seated.first_at seated.are_first seated.left_is old seated.workers_are one more worked_all many
        mid after all came stay after_at timer taken;
    complete = makes_all told said written faults trace now kit lawful is seated.first left seated.first_at seated.are_first seated.left_is old seated.workers_are one more worked_all many
        mid after all came stay after_at timer taken;
    timer_log = timer_log_there told said written faults trace now kit lawful is seated.first left seated.first_at seated.are_first seated.left_is old seated.workers_are one more worked_all many
        mid after all came stay after_at timer taken;
    timer = timer_there told said written faults trace now kit lawful is seated.first left seated.first_at seated.are_first seated.left_is old seated.workers_are one more worked_all many
        mid after all came stay after_at timer taken;
  }

  -- ---- the timer

  pub may_begin : (side : Side) (log : List TimerEntry) → IsFirstTimer trace now side log → MayTick kit side left
  may_begin side log begins =
      let opens = kit_is_opened trace now kit lawful is in
      let long = ap (λ (l : List DomainSide). length l) begins.is_first.domains_are ∙ sides_long trace now (domains trace) in
      record {
        there = record { counted = long ∙ sym opens.limits_are; shared = long ∙ sym opens.domains_are };
        seats_are = seated.left_is.seats_are;
        held = (left_first.timer.0, left_first.timer.1);
      }

  -- no publication is under way, and its log is empty
  pub left_sealed : HasSealed left
  left_sealed = let h = sealed_at_first kit seated.first seated.are_first in (h.0, seated.left_is.timer ∙ h.1, h.2)

  tells : (halted : Bool) (after : Seats) → StepsSo (limits_of kit.throttle.layout) halted left after → TimerTellsTurns (limits_of kit.throttle.layout) after
  tells false after so =
      let log = so.0.2.logs [] (seated.left_is.timer_log ∙ seated.are_first.cpu.timer_log) in
      (log.0, log.1, subst (IsCutOff (IsTimerTurn (limits_of kit.throttle.layout))) (sym log.2) ((timer_turns_follow (limits_of kit.throttle.layout)).ended so.0.0 so.0.1))
  tells true after so =
      let log = so.2.logs [] (seated.left_is.timer_log ∙ seated.are_first.cpu.timer_log) in
      (log.0, log.1, subst (IsCutOff (IsTimerTurn (limits_of kit.throttle.layout))) (sym log.2) so.1)

  pub has_ticked : (side side' : Side) (log log' : List TimerEntry) (after all : Seats) (halted : Bool) → IsFirstTimer trace now side log → Ticks told side side' left after log log'
      → StepsSo (limits_of kit.throttle.layout) halted left after → all.cpu.timer_log ≡ after.cpu.timer_log → all.cpu.timer ≡ after.cpu.timer → HasTicked told trace now kit log' after.share all
  has_ticked side side' log log' after all halted begins ticks steps log_there there =
      let w = ticks.went trace now left_first.timer.0 begins.its left_first.timer.1 in
      record {
        last = ticked w.0 side' after.share;
        worked = record {
          left = left;
          is_left = left_first;
          first = left_first.timer.0;
          first_held = left_first.timer.1;
          side = side;
          is_first = begins.is_first;
          ticks = w.2.added;
          logged = w.2.logged ∙ ap (λ (l : List TimerEntry). l ++ w.2.added) begins.logged;
          stops = ticks.stops;
          since = w.2.since;
          held = there ∙ w.1;
        };
        shares = λ domain. refl;
        ticks = ticks.added;
        logged = ticks.logged ∙ ap (λ (l : List TimerEntry). l ++ ticks.added) begins.logged;
        moments = ticks.moments;
        turns = let its = tells halted after steps in (its.0, log_there ∙ its.1, its.2);
      }

  pub publishes_none : (est : EstPass) (after : Seats) → est ≡ after.est → SeatsStay left after → PublishesNone trace est
  publishes_none est after same stay context low =
      ap (λ (e : EstPass). (known_of context e).publishes) (same ∙ stay.est)
      ∙ left_first.publishes_none context (omega (arith, low, (kit_is_opened trace now kit lawful is).contexts_are))
