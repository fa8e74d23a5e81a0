-- The timer is ready at the opening, and after each of its turns.
use Rattle.std.proofs.Common.{◌≡◌, ℕ, List, length, sym, ap, ◌∙◌, subst}
use Rattle.wbt_grant.specs.State.{opening}
use Rattle.wbt_kit.proofs.Common.{Trace, domains, TimerEntry, setting, Layout, AreSeatsOf}
use Rattle.wbt_table.specs.Layout as table
use Rattle.wbt_kit.specs.declared.kit.Kit.{Kit}
use Rattle.wbt_kit.specs.declared.kit.Seats.{Seats}
use Rattle.wbt_kit.specs.declared.turn.Turn.{Turn}
use Rattle.wbt_kit.specs.declared.turn.Turn.TheVariants.{Stepped, Resting, Done, Halted, Faulted, Spent, NoMemory}
use Rattle.wbt_kit.proofs.Laid.{firsts_long}
use Rattle.wbt_timer.specs.Ready.{IsReady, IsReadyFirst}
use Rattle.wbt_timer.specs.Side.{Side, IsTimerOf}
use Rattle.wbt_timer.specs.Turn.{TimerAnswers, TimerHalts, TimerRests, TimerSteps}
use Rattle.wbt_timer.specs.declared.side.DomainSide.{DomainSide}
use Rattle.wbt_timer.proofs.Lines.{with_long}
use Rattle.wbt_timer.proofs.Opened.{sides_long}

pub ready_at_first : IsReadyFirst
ready_at_first trace now kit side seats is seats_are first its opened =
    let long : length side.domains ≡ domains trace = ap (λ (l : List DomainSide). length l) opened.domains_are ∙ sides_long trace now (domains trace) in
    record {
      its = its;
      domains_are = long ∙ sym (ap (λ (k : Layout). table.domains k) is.layout ∙ firsts_long trace now (domains trace));
      shared_are = long ∙ sym is.domains_are;
      seats_are = seats_are;
      timer = ((opening (setting seats.cpu.layout)).timer, first.cpu.timer);
    }

its_machine : (trace : Trace) (old new : Side) → new.machine ≡ old.machine → IsTimerOf trace old → IsTimerOf trace new
its_machine trace old new same its = record {
  settings = ap (λ (t : Trace). t.settings) same ∙ its.settings;
  avail = ap (λ (t : Trace). t.avail) same ∙ its.avail;
  cgroups = ap (λ (t : Trace). t.cgroups) same ∙ its.cgroups;
}

module _ (trace : Trace) (kit : Kit) (old new : Side) (seats seats' : Seats) (log log' : List TimerEntry) (ready : IsReady trace kit old seats) where
  rested : TimerRests old new seats seats' log log' → IsReady trace kit new seats'
  rested rests = subst (λ (z : Side × Seats). IsReady trace kit z.0 z.1) (λ i. (sym rests.side i, sym rests.seats_are i)) ready

  stepped : (now : ℕ) → AreSeatsOf kit seats' → TimerSteps now old new seats seats' log log' → IsReady trace kit new seats'
  stepped now seats_are steps =
      let to = steps.turn trace ready.timer.0 ready.its ready.timer.1 in
      let turn = to.2 in
      record {
        its = its_machine trace old new turn.machine ready.its;
        domains_are = turn.many ∙ ready.domains_are;
        shared_are = turn.many ∙ ready.shared_are;
        seats_are = seats_are;
        timer = (to.0, to.1);
      }

  halted : (now : ℕ) → AreSeatsOf kit seats' → TimerHalts now old new seats seats' log log' → IsReady trace kit new seats'
  halted now seats_are halts =
      let to = halts.turn trace ready.timer.0 ready.its ready.timer.1 in
      let part = to.2 in
      let many : length new.domains ≡ length old.domains = ap (λ (l : List DomainSide). length l) part.domains_are ∙ with_long now part.outcomes old.domains in
      record {
        its = its_machine trace old new part.machine ready.its;
        domains_are = many ∙ ready.domains_are;
        shared_are = many ∙ ready.shared_are;
        seats_are = seats_are;
        timer = (to.0, to.1);
      }

  pub ready_after : (told : ℕ → Type 0) (answer : Turn) → AreSeatsOf kit seats' → TimerAnswers told answer old new seats seats' log log' → IsReady trace kit new seats'
  ready_after told (Resting now until) seats_are answers = rested answers.3
  ready_after told Stepped seats_are answers = stepped answers.0 seats_are answers.3
  ready_after told NoMemory seats_are answers = rested answers.3
  ready_after told Done seats_are answers = absurd answers
  ready_after told Halted seats_are answers = halted answers.0 seats_are answers.3
  ready_after told Faulted seats_are answers = absurd answers
  ready_after told Spent seats_are answers = absurd answers
