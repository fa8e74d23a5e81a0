-- A turn of the timer: for each domain it finds the limits, raises the peak, and publishes them in three steps. Then it begins new periods of
-- the proportions where it is time.
use Rattle.std.specs.Prelude.{ℕ, zero, suc, ◌+◌, max, Bool, if◌then◌else◌, nat_le, pos, Option, Some, None, List, [], ◌∷◌, ◌++◌, length}
use Rattle.wbt_trace.specs.declared.trace.Trace.{Trace}
use Rattle.wbt_counter.specs.History.{at_least_zero}
use Rattle.wbt_flex.specs.Proportions.{after_period}
use Rattle.wbt_flex.specs.declared.half.Half.{Half}
use Rattle.wbt_grant.specs.declared.who.StepKind.TheVariants as kind
use Rattle.wbt_rules.specs.Thresholds.{limits_after, thresholds_at}
use Rattle.wbt_rules.specs.Moments.{next_period, periods_by}
use Rattle.wbt_rules.specs.declared.moments.TheConstants.{TIMER_REST}
use Rattle.wbt_journal.specs.declared.timer.TimerEntry.{TimerEntry}
use Rattle.wbt_journal.specs.declared.timer.TimerEntry.TheVariants as entry
use Rattle.wbt_replay_moves.specs.Definition.State.{State, domain_of, with_domain, plain_step}
use Rattle.wbt_replay_moves.specs.declared.state.Timer.{Timer}
use Rattle.wbt_replay_moves.specs.declared.todo.TimerTodo.{TimerTodo}
use Rattle.wbt_replay_moves.specs.declared.todo.TimerTodo.TheVariants as todo
use Rattle.wbt_replay_moves.specs.declared.todo.TimerSilent.TheVariants as silent
use Rattle.wbt_replay_moves.specs.declared.todo.TimerStep.TheVariants as step

-- the timer's number among those who make steps
abbrev pub timer_number : (s : State) → ℕ
timer_number s = length s.cpus

-- the state with this timer
abbrev pub with_timer : (timer : Timer) (s : State) → State
with_timer timer s = record s { timer = timer }

-- ---- the limits of a domain

-- The reading of the global domain is kept for the cgroups.
abbrev pub reads_global : (domain reading : ℕ) (timer : Timer) → Timer
reads_global zero reading timer = record timer { global = reading }
reads_global (suc cgroup) reading timer = timer

-- the timer finds a domain's limits by its reading and the hard limit before
abbrev pub finds : (trace : Trace) (domain before reading : ℕ) (timer : Timer) → Timer
finds trace domain before reading timer = record timer {
  limits = limits_after (thresholds_at trace timer.began domain timer.global reading) before reading;
}

-- Count: the limits are those of the turn's first moment and of the readings of this turn.
abbrev pub load : (trace : Trace) (domain : ℕ) (s : State) → State
load trace domain s =
    let reading = at_least_zero (domain_of domain s).count.value in
    plain_step (timer_number s) kind.Count
    (with_timer (finds trace domain (domain_of domain s).limits.hard reading (reads_global domain reading s.timer)) s)

-- a step was made that may raise a domain's peak to this hard limit
abbrev pub raised : (domain hard : ℕ) (s : State) → State
raised domain hard s = record s {
  steps = s.steps ++ (record { who = timer_number s; kind = kind.Peak; context = 0; change = pos 0; domain = domain; peak = hard }) ∷ [];
}

-- the domain's peak is raised to the hard limit that is to be published, where it is less
abbrev pub peak : (domain : ℕ) (s : State) → State
peak domain s =
    raised domain s.timer.limits.hard
    (with_domain domain (record (domain_of domain s) { peak = max (domain_of domain s).peak s.timer.limits.hard }) s)

-- The limits are published under a sequence, which is odd from the first of three steps to the last. The second writes the thresh word.
abbrev pub sequenced : (domain : ℕ) (s : State) → State
sequenced domain s = with_domain domain (record (domain_of domain s) { sequence = (domain_of domain s).sequence + 1 }) s

-- the first of the three steps: the sequence becomes odd
abbrev pub unseal : (domain : ℕ) (s : State) → State
unseal domain s = plain_step (timer_number s) kind.Unseal (sequenced domain s)

-- the second of the three steps: the thresh word is written
abbrev pub thresh : (s : State) → State
thresh s = plain_step (timer_number s) kind.Thresh s

-- the timer with a further entry in its part of the journal
abbrev pub timer_logged : (e : TimerEntry) (timer : Timer) → Timer
timer_logged e timer = record timer { entries = timer.entries ++ e ∷ [] }

-- the last of the three steps: the sequence becomes even, and the limits stand published
abbrev pub publish : (domain : ℕ) (s : State) → State
publish domain s =
    plain_step (timer_number s) kind.Publish
    (with_timer (timer_logged (entry.Limits domain s.timer.began s.timer.limits) s.timer)
    (with_domain domain (record (domain_of domain s) { limits = s.timer.limits; sequence = (domain_of domain s).sequence + 1 }) s))

-- ---- periods

-- whether it is time for a period, and how many have come by the turn
abbrev pub is_time : (timer : Timer) → Bool
is_time timer = nat_le timer.period timer.began

-- how many periods have come by the turn
abbrev pub periods : (timer : Timer) → ℕ
periods timer = periods_by timer.began timer.period

-- a domain gets its events after these periods, which go into the journal; where they were refused nothing changes
abbrev pub period_to : (domain k : ℕ) (found : Option Half) (s : State) → State
period_to domain k None s = s
period_to domain k (Some events) s =
    with_timer (timer_logged (entry.Period domain k) s.timer) (with_domain domain (record (domain_of domain s) { events = events }) s)

-- a domain's periods begin where it is time
abbrev pub period : (domain : ℕ) (s : State) → State
period domain s =
    if is_time s.timer
    then period_to domain (periods s.timer) (after_period (domain_of domain s).events (periods s.timer)) s
    else s

-- The next turn comes `TIMER_REST` ticks after this one's moment. A period that was refused moves the next one too.
abbrev pub rested : (timer : Timer) → Timer
rested timer = record timer {
  next = timer.began + TIMER_REST;
  period = next_period timer.began timer.period;
}

-- the silent move that ends the timer's turn
abbrev pub rest : (s : State) → State
rest s = with_timer (rested s.timer) s

-- ---- what a turn begins with

-- the steps of so many domains, from one on
unfoldable pub domain_turns : (count domain : ℕ) → List TimerTodo
domain_turns zero domain = []
domain_turns (suc count) domain =
    todo.Step (step.Count domain) ∷ todo.Step (step.Peak domain)
    ∷ todo.Step (step.Unseal domain) ∷ todo.Step (step.Thresh domain) ∷ todo.Step (step.Publish domain) ∷ domain_turns count (domain + 1)

-- the silent moves for periods of so many domains, from one on
unfoldable pub domain_periods : (count domain : ℕ) → List TimerTodo
domain_periods zero domain = []
domain_periods (suc count) domain = todo.Silent (silent.Period domain) ∷ domain_periods count (domain + 1)

-- all items of a turn of the timer: the domains' limits, their periods, and the rest
abbrev pub turn_items : (domains : ℕ) → List TimerTodo
turn_items domains = domain_turns domains 0 ++ domain_periods domains 0 ++ todo.Silent silent.Rest ∷ []

-- the timer begins a turn
abbrev pub begin_timer : (s : State) → State
begin_timer s = with_timer (record s.timer { todo = s.timer.todo ++ turn_items (length s.domains); began = s.now }) s
