-- The timer's turns, one after another.
use Rattle.std.proofs.Common.{◌≡◌, ℕ, suc, ◌+◌, ◌≤◌, List, [], ◌∷◌, ◌++◌, length, sym, refl, ap, ◌∙◌, subst, append_assoc, append-nil, arith}
use Rattle.wbt_run_worker.proofs.Common.{TimerRecord, Limits, Each, TimerEntry, AreSeatsOf, HasTimer, Trace, after, Kit, Seats, Turn, SeatsStay, each_append, MayTick, Ticks}
use Rattle.wbt_kit.proofs.Common.{DomainLimits, Put, Done, Stopped, Last}
use Rattle.wbt_journal.specs.declared.timer.TimerEntry.TheVariants as timer
use Rattle.wbt_kit.specs.declared.turn.Turn.TheVariants.{Stepped, Resting, Done, Halted, Faulted, Spent, NoMemory}
use Rattle.wbt_timer.specs.Ready.{IsReady}
use Rattle.wbt_timer.specs.Side.{IsTimerOf, Side}
use Rattle.wbt_timer.specs.Turn.{Outcome, TimerAnswers, TimerHalts, TimerSteps, TimerRests, line_for, lines_from}
use Rattle.wbt_timer.specs.declared.side.DomainSide.{DomainSide}
use Rattle.wbt_timer.proofs.Lines.{with_long}
use Rattle.wbt_timer.proofs.Since.{all_published}
use Rattle.wbt_run_laws.specs.Ticks.{published_after}
use Rattle.wbt_run_laws.proofs.Walking.{after_append}
use Rattle.wbt_run_laws.proofs.Working.{timer_went_nowhere, timer_went_on}
use Rattle.wbt_run_worker.specs.Ticking.{LimitsAreTold, ticking}

pub stays_now : (seats : Seats) → SeatsStay seats seats
stays_now seats = record { table = refl; layout = refl; cpus = refl; logs = refl; totals = refl; stakes = λ domain. refl; rooms = λ domain. refl; est = refl; queue = refl }

pub stays_more : (old mid new : Seats) → SeatsStay old mid → SeatsStay mid new → SeatsStay old new
stays_more old mid new p q = record {
  table = q.table ∙ p.table;
  layout = q.layout ∙ p.layout;
  cpus = q.cpus ∙ p.cpus;
  logs = q.logs ∙ p.logs;
  totals = q.totals ∙ p.totals;
  stakes = λ domain. q.stakes domain ∙ p.stakes domain;
  rooms = λ domain. q.rooms domain ∙ p.rooms domain;
  est = q.est ∙ p.est;
  queue = q.queue ∙ p.queue;
}

-- ---- moments

lengthens : (es : List TimerEntry) (older : List DomainLimits) → length older ≤ length (after published_after older es)
lengthens [] older = omega arith
lengthens (timer.Limits domain now limits ∷ es) older = let more = lengthens es (published_after older (timer.Limits domain now limits)) in omega arith
lengthens (timer.Period domain k ∷ es) older = lengthens es older

-- entries that publish nothing tell no limits
pub quiet : (told : ℕ → Type 0) (es : List TimerEntry) (older : List DomainLimits) → after published_after older es ≡ older → Each (LimitsAreTold told) es
quiet told [] older same = tt
quiet told (timer.Limits domain now limits ∷ es) older same =
    absurd (let more = lengthens es (published_after older (timer.Limits domain now limits)) in let n = ap length same in omega arith)
quiet told (timer.Period domain k ∷ es) older same = (tt, quiet told es older same)

line_timed : (told : ℕ → Type 0) (put : Put) (domain now : ℕ) (limits : Limits) → told now → Each (LimitsAreTold told) (line_for put domain now limits)
line_timed told Done domain now limits was = (was, tt)
line_timed told Stopped domain now limits was = tt
line_timed told Last domain now limits was = tt

lines_timed : (told : ℕ → Type 0) (now domain : ℕ) (outcomes : List Outcome) → told now → Each (LimitsAreTold told) (lines_from now domain outcomes)
lines_timed told now domain [] was = tt
lines_timed told now domain (one ∷ more) was =
    each_append (LimitsAreTold told) (line_for one.put domain now one.limits) (lines_from now (suc domain) more) (line_timed told one.put domain now one.limits was) (lines_timed told now (suc domain) more was)

-- ---- turns

pub ticks_now : (told : ℕ → Type 0) (side : Side) (seats : Seats) (log : List TimerEntry) → Ticks told side side seats seats log log
ticks_now told side seats log = record {
  machine = refl;
  many = refl;
  stay = stays_now seats;
  added = [];
  logged = sym (append-nil log);
  moments = tt;
  stops = 0;
  went = λ trace opened r of has. (r, has, timer_went_nowhere trace opened (ticking r side seats log));
}

is_timer_still : (trace : Trace) (old new : Side) → new.machine ≡ old.machine → IsTimerOf trace old → IsTimerOf trace new
is_timer_still trace old new same of = record {
  settings = ap (λ (m : Trace). m.settings) same ∙ of.settings;
  avail = ap (λ (m : Trace). m.avail) same ∙ of.avail;
  cgroups = ap (λ (m : Trace). m.cgroups) same ∙ of.cgroups;
}

pub ticks_more : (told : ℕ → Type 0) (a b c : Side) (s t u : Seats) (l m n : List TimerEntry) → Ticks told a b s t l m → Ticks told b c t u m n → Ticks told a c s u l n
ticks_more told a b c s t u l m n p q = record {
  machine = q.machine ∙ p.machine;
  many = q.many ∙ p.many;
  stay = stays_more s t u p.stay q.stay;
  added = p.added ++ q.added;
  logged = q.logged ∙ ap (λ (x : List TimerEntry). x ++ q.added) p.logged ∙ append_assoc l p.added q.added;
  moments = each_append (LimitsAreTold told) p.added q.added p.moments q.moments;
  stops = p.stops + q.stops;
  went = λ trace opened r of has. let one = p.went trace opened r of has in let two = q.went trace opened one.0 (is_timer_still trace a b p.machine of) one.1 in
      (two.0, two.1, timer_went_on trace opened p.stops q.stops (ticking r a s l) (ticking one.0 b t m) (ticking two.0 c u n) one.2 two.2);
}

-- a turn of a timer that rests, or is refused memory
pub rests_tick : (told : ℕ → Type 0) (old new : Side) (seats seats' : Seats) (log log' : List TimerEntry) → TimerRests old new seats seats' log log'
    → Ticks told old new seats seats' log log'
rests_tick told old new seats seats' log log' rests =
    subst (λ (s : Side). Ticks told old s seats seats' log log') (sym rests.side)
    (subst (λ (s : Seats). Ticks told old old seats s log log') (sym rests.seats_are)
    (subst (λ (l : List TimerEntry). Ticks told old old seats seats log l) (sym rests.log_is) (ticks_now told old seats log)))

-- a whole turn
pub steps_tick : (told : ℕ → Type 0) (now : ℕ) (old new : Side) (seats seats' : Seats) (log log' : List TimerEntry) → told now
    → (r : TimerRecord) → HasTimer r seats → TimerSteps now old new seats seats' log log' → Ticks told old new seats seats' log log'
steps_tick told now old new seats seats' log log' was r has steps =
    let own : IsTimerOf old.machine old = record { settings = refl; avail = refl; cgroups = refl } in
    let t = steps.turn old.machine r own has in
    let turn = t.2 in
    let since = t.3 0 in
    let lines : List TimerEntry = lines_from now 0 turn.outcomes in
    let added_are : steps.added ≡ lines ++ turn.periods = turn.added_are ∙ ap (λ (l : List TimerEntry). l ++ turn.periods) turn.publishes.lines_are in
    let same : after published_after (after published_after r.published lines) turn.periods ≡ after published_after r.published lines =
    sym (after_append published_after r.published lines turn.periods)
    ∙ ap (after published_after r.published) (sym added_are) ∙ sym since.published ∙ turn.publishes.published ∙ all_published 0 now turn.outcomes r.published in
    record {
      machine = turn.machine;
      many = turn.many;
      stay = steps.stay;
      added = steps.added;
      logged = steps.logged;
      moments = subst (λ (es : List TimerEntry). Each (LimitsAreTold told) es) (sym added_are)
          (each_append (LimitsAreTold told) lines turn.periods (lines_timed told now 0 turn.outcomes was) (quiet told turn.periods (after published_after r.published lines) same));
      stops = 0;
      went = λ trace opened q of holds. let one = steps.turn trace q of holds in
          (one.0, one.1, record { added = steps.added; logged = steps.logged; since = one.3 opened });
    }

-- one that the gate stopped
pub halts_tick : (told : ℕ → Type 0) (now : ℕ) (old new : Side) (seats seats' : Seats) (log log' : List TimerEntry) → told now
    → (r : TimerRecord) → HasTimer r seats → TimerHalts now old new seats seats' log log' → Ticks told old new seats seats' log log'
halts_tick told now old new seats seats' log log' was r has halts =
    let own : IsTimerOf old.machine old = record { settings = refl; avail = refl; cgroups = refl } in
    let part = (halts.turn old.machine r own has).2 in
    record {
      machine = part.machine;
      many = ap (λ (l : List DomainSide). length l) part.domains_are ∙ with_long now part.outcomes old.domains;
      stay = halts.stay;
      added = halts.added;
      logged = halts.logged;
      moments = subst (λ (es : List TimerEntry). Each (LimitsAreTold told) es) (sym part.publishes.lines_are)
          (lines_timed told now 0 (part.outcomes ++ record { limits = part.limits; put = Stopped } ∷ []) was);
      stops = 1;
      went = λ trace opened q of holds. let one = halts.turn trace q of holds in
          (one.0, one.1, record { added = halts.added; logged = halts.logged; since = one.3 opened });
    }

-- it may take the next one
pub may_tick : (told : ℕ → Type 0) (kit : Kit) (old new : Side) (seats seats' : Seats) (log log' : List TimerEntry) → MayTick kit old seats
    → Ticks told old new seats seats' log log' → AreSeatsOf kit seats' → IsTimerOf old.machine old → MayTick kit new seats'
may_tick told kit old new seats seats' log log' may ticks at own =
    let one = ticks.went old.machine 0 may.held.0 own may.held.1 in
    record {
      there = record { counted = ticks.many ∙ may.there.counted; shared = ticks.many ∙ may.there.shared };
      seats_are = at;
      held = (one.0, one.1);
    }

-- any answer
pub answers_tick : (told : ℕ → Type 0) (kit : Kit) (answer : Turn) (old new : Side) (seats seats' : Seats) (log log' : List TimerEntry) → MayTick kit old seats
    → TimerAnswers told answer old new seats seats' log log' → Ticks told old new seats seats' log log'
answers_tick told kit Stepped old new seats seats' log log' may a = steps_tick told a.0 old new seats seats' log log' a.1 may.held.0 may.held.1 a.3
answers_tick told kit (Resting now until) old new seats seats' log log' may a = rests_tick told old new seats seats' log log' a.3
answers_tick told kit Done old new seats seats' log log' may a = absurd a
answers_tick told kit Halted old new seats seats' log log' may a = halts_tick told a.0 old new seats seats' log log' a.1 may.held.0 may.held.1 a.3
answers_tick told kit Faulted old new seats seats' log log' may a = absurd a
answers_tick told kit Spent old new seats seats' log log' may a = absurd a
answers_tick told kit NoMemory old new seats seats' log log' may a = rests_tick told old new seats seats' log log' a.3

pub own_machine : (side : Side) → IsTimerOf side.machine side
own_machine side = record { settings = refl; avail = refl; cgroups = refl }

-- the turns so far with one more, and that the next may follow
pub goes_on : (told : ℕ → Type 0) (kit : Kit) (answer : Turn) (a b c : Side) (s t u : Seats) (l m n : List TimerEntry)
    → MayTick kit b t → Ticks told a b s t l m → TimerAnswers told answer b c t u m n → AreSeatsOf kit u
    → MayTick kit c u × Ticks told a c s u l n
goes_on told kit answer a b c s t u l m n may before answers at =
    let one = answers_tick told kit answer b c t u m n may answers in
    (may_tick told kit b c t u m n may one at (own_machine b), ticks_more told a b c s t u l m n before one)

-- a timer that was ready is
pub ready_still : (told : ℕ → Type 0) (kit : Kit) (trace : Trace) (old new : Side) (seats seats' : Seats) (log log' : List TimerEntry)
    → Ticks told old new seats seats' log log' → MayTick kit new seats' → IsReady trace kit old seats → IsReady trace kit new seats'
ready_still told kit trace old new seats seats' log log' ticks may was = record {
  its = is_timer_still trace old new ticks.machine was.its;
  domains_are = may.there.counted;
  shared_are = may.there.shared;
  seats_are = may.seats_are;
  timer = may.held;
}
