-- A turn of the timer.
use Rattle.std.specs.Prelude.{◌≡◌, ℕ, suc, ◌+◌, ◌*◌, ◌<◌, ◌≤◌, Bool, true, false, pos, List, [], ◌∷◌, ◌++◌, length, map, get_or, slice_set}
use Rattle.wbt_num.specs.declared.limits.Limits.{Limits}
use Rattle.wbt_num.specs.declared.limits.TheConstants.{LAST_SEQUENCE}
use Rattle.wbt_grant.specs.State.{version_of}
use Rattle.wbt_trace.specs.declared.trace.Trace.{Trace}
use Rattle.wbt_counter.specs.History.{at_least_zero}
use Rattle.wbt_counter.specs.declared.counter.Count.{Count}
use Rattle.wbt_counter.specs.declared.counter.Counter.TheVariants.{Domain}
use Rattle.wbt_counter.specs.declared.record.Reading.{Reading}
use Rattle.wbt_fraction.specs.Seat.{Seated as ShareSeat, Begins, Lost}
use Rattle.wbt_fraction.specs.Several.{no_seat, KeepsStakes, KeepsRooms, Seats as ShareSeats}
use Rattle.wbt_fraction.specs.declared.domain.note.Note.{Note}
use Rattle.wbt_fraction.specs.declared.domain.words.Again.{Again}
use Rattle.wbt_grant.specs.declared.record.DomainLimits.{DomainLimits}
use Rattle.wbt_grant.specs.declared.record.Raised.{Raised}
use Rattle.wbt_grant.specs.declared.record.TimerRecord.{TimerRecord}
use Rattle.wbt_journal.specs.Machine.{domains}
use Rattle.wbt_journal.specs.Timer.{LastLine, is_opening}
use Rattle.wbt_journal.specs.declared.timer.TimerEntry.{TimerEntry}
use Rattle.wbt_journal.specs.declared.timer.TimerEntry.TheVariants.{Limits as LimitsLine, Period as PeriodLine}
use Rattle.wbt_kit.specs.Kit.{HasTimer}
use Rattle.wbt_kit.specs.declared.kit.Seats.{Seats}
use Rattle.wbt_kit.specs.declared.turn.Turn.{Turn}
use Rattle.wbt_kit.specs.declared.turn.Turn.TheVariants.{Stepped, Resting, Halted, NoMemory}
use Rattle.wbt_rules.specs.Moments.{next_period, periods_by}
use Rattle.wbt_rules.specs.Thresholds.{thresholds_at, limits_after}
use Rattle.wbt_run_laws.specs.Ticks.{TimerSince}
use Rattle.wbt_table.specs.declared.answer.Put.{Put}
use Rattle.wbt_table.specs.declared.answer.Put.TheVariants.{Done, Stopped, Last}
use Rattle.wbt_journal.specs.Each.{Each}
use Rattle.wbt_timer.specs.Side.{Side, IsTimerOf, next_of, ticked}
use Rattle.wbt_timer.specs.declared.side.DomainSide.{DomainSide}

-- ---- limits, by the counts that were loaded in this turn

-- a count before its first fold
abbrev pub no_count : Count
no_count = record { version = 0; value = pos 0 }

-- what the timer keeps of a domain that isn't there
abbrev pub no_side : DomainSide
no_side = record { hard = 0; at = 0; owed = 0 }

-- how many pages a count reads; one below zero reads none
abbrev pub pages_read : (count : Count) → ℕ
pages_read count = at_least_zero count.value

-- how many pages the global domain reads, whose count comes first
abbrev pub global_in : (counts : List Count) → ℕ
global_in counts = pages_read (get_or counts 0 no_count)

-- the limits of a domain by its count, after a hard limit
abbrev pub limits_by : (trace : Trace) (now domain global before : ℕ) (count : Count) → Limits
limits_by trace now domain global before count = limits_after (thresholds_at trace now domain global (pages_read count)) before (pages_read count)

-- of the domains from one on, one for each count
abbrev pub limits_each : (trace : Trace) (now domain global : ℕ) (sides : List DomainSide) (counts : List Count) → List Limits
limits_each trace now domain global sides [] = []
limits_each trace now domain global [] (count ∷ counts) = []
limits_each trace now domain global (s ∷ sides) (count ∷ counts) =
    limits_by trace now domain global s.hard count ∷ limits_each trace now (suc domain) global sides counts

-- limits that were found, and what their publication came to
pub record Outcome : Type 0 where
  pub limits : Limits
  pub put : Put

-- the limits that were found, domain by domain
abbrev pub limits_of : (outcomes : List Outcome) → List Limits
limits_of outcomes = map (λ (o : Outcome). o.limits) outcomes

-- the gate stopped no publication
abbrev pub is_through : (put : Put) → Bool
is_through Done = true
is_through Stopped = false
is_through Last = true

-- the gate stopped none of these publications
abbrev pub AreThrough : (outcomes : List Outcome) → Type 0
AreThrough outcomes = Each (λ (o : Outcome). is_through o.put ≡ true) outcomes

-- the lines of those that were published
abbrev pub line_for : (put : Put) (domain now : ℕ) (limits : Limits) → List TimerEntry
line_for Done domain now limits = LimitsLine domain now limits ∷ []
line_for Stopped domain now limits = []
line_for Last domain now limits = []

-- the lines of those that were published, of domains from one on
abbrev pub lines_from : (now domain : ℕ) (outcomes : List Outcome) → List TimerEntry
lines_from now domain [] = []
lines_from now domain (one ∷ more) = line_for one.put domain now one.limits ++ lines_from now (suc domain) more

-- what is then published: limits get the next version of their domain
abbrev pub published_by : (put : Put) (domain : ℕ) (limits : Limits) (older : List DomainLimits) → List DomainLimits
published_by Done domain limits older = record { domain = domain; version = suc (version_of domain older); limits = limits } ∷ older
published_by Stopped domain limits older = older
published_by Last domain limits older = older

-- what is published after all of them, the newest first, of domains from one on
abbrev pub published_from : (domain : ℕ) (outcomes : List Outcome) (older : List DomainLimits) → List DomainLimits
published_from domain [] older = older
published_from domain (one ∷ more) older = published_from (suc domain) more (published_by one.put domain one.limits older)

-- the peaks that were raised for all of them
abbrev pub raised_from : (domain : ℕ) (outcomes : List Outcome) (older : List Raised) → List Raised
raised_from domain [] older = older
raised_from domain (one ∷ more) older = raised_from (suc domain) more (record { domain = domain; hard = one.limits.hard } ∷ older)

-- Last comes just where the last version of the domain stands
abbrev pub IsLastPut : (put : Put) (domain : ℕ) (older : List DomainLimits) → Type 0
IsLastPut Done domain older = Unit {0}
IsLastPut Stopped domain older = Unit {0}
IsLastPut Last domain older = LAST_SEQUENCE ≤ 2 * version_of domain older

-- each that was left out as the last version has its cause, of domains from one on
abbrev pub AreLast : (domain : ℕ) (outcomes : List Outcome) (older : List DomainLimits) → Type 0
AreLast domain [] older = Unit {0}
AreLast domain (one ∷ more) older = IsLastPut one.put domain older × AreLast (suc domain) more (published_by one.put domain one.limits older)

-- the readings of so many counts, the newest first, on top of what was there
abbrev pub read_from : (domain : ℕ) (counts : List Count) (older : List Reading) → List Reading
read_from domain [] older = older
read_from domain (count ∷ counts) older =
    read_from (suc domain) counts (record { counter = Domain domain; version = count.version; value = count.value } ∷ older)

-- the hard limits that are then the last published ones, and since when
abbrev pub side_after : (put : Put) (now : ℕ) (limits : Limits) (s : DomainSide) → DomainSide
side_after Done now limits s = record s { hard = limits.hard; at = now }
side_after Stopped now limits s = s
side_after Last now limits s = s

-- what the timer keeps of the domains after these publications
abbrev pub with_limits : (now : ℕ) (outcomes : List Outcome) (sides : List DomainSide) → List DomainSide
with_limits now [] sides = sides
with_limits now (one ∷ more) [] = []
with_limits now (one ∷ more) (s ∷ sides) = side_after one.put now one.limits s ∷ with_limits now more sides

-- ---- periods

-- some periods of a domain were to begin at once: what its seat noted, how many are still owed, and the line
pub data Tries (domain k : ℕ) (old new : ShareSeat) (owed : ℕ) (added : List TimerEntry) : Type 0 where
  none : k ≡ 0 → new ≡ old → owed ≡ 0 → added ≡ [] → Tries domain k old new owed added
  begun : 1 ≤ k → Begins k true old new → owed ≡ 0 → added ≡ PeriodLine domain k ∷ [] → Tries domain k old new owed added
  refused : 1 ≤ k → Begins k false old new → owed ≡ 0 → added ≡ [] → Tries domain k old new owed added
  came_between : (again : Again) → 1 ≤ k → Lost k again old new → owed ≡ k → added ≡ [] → Tries domain k old new owed added

-- the seat at a domain's shares
abbrev pub seat_at : (domain : ℕ) (share : ShareSeats) → ShareSeat
seat_at domain share = get_or share.domains domain no_seat

-- what was noted of a domain's shares, the newest first
abbrev pub noted : (share : ShareSeats) (domain : ℕ) → List Note
noted share domain = (seat_at domain share).notes

-- ---- steps

-- the gate said false to the timer, which has made so many steps
abbrev pub IsTimerStopped : (said : ℕ → Bool → Type 0) (seats : Seats) → Type 0
IsTimerStopped said seats = (r : TimerRecord) × HasTimer r seats × said r.steps false

-- nothing of the seats changed but what their CPU seat has
pub record SeatsKept (old new : Seats) : Type 0 where
  pub table : new.cpu.table ≡ old.cpu.table
  pub layout : new.cpu.layout ≡ old.cpu.layout
  pub cpus : new.cpu.cpus ≡ old.cpu.cpus
  pub logs : new.cpu.logs ≡ old.cpu.logs
  pub share : new.share ≡ old.share
  pub est : new.est ≡ old.est
  pub queue : new.queue ≡ old.queue

-- a count was loaded
abbrev pub reading_of : (domain : ℕ) (count : Count) → Reading
reading_of domain count = record { counter = Domain domain; version = count.version; value = count.value }

-- what became of the timer's record: its readings, the limits that it published, and the peaks that it raised
pub record Became (readings : List Reading) (published : List DomainLimits) (raised : List Raised) (new : Seats) : Type 0 where
  pub held : TimerRecord
  pub has : HasTimer held new
  pub readings_are : held.readings ≡ readings
  pub published_are : held.published ≡ published
  pub raised_are : held.raised ≡ raised

-- a domain's count was loaded, and nothing else changed but the timer's record
pub record Counted (domain : ℕ) (count : Count) (old new : Seats) : Type 0 where
  pub kept : SeatsKept old new
  pub became : (r : TimerRecord) → HasTimer r old → Became (reading_of domain count ∷ r.readings) r.published r.raised new

-- a peak was raised to the hard limit, and the limits were published, unless the gate stopped that or the last sequence stands already
pub record Published (domain : ℕ) (limits : Limits) (put : Put) (old new : Seats) : Type 0 where
  pub kept : SeatsKept old new
  pub became : (r : TimerRecord) → HasTimer r old
      → Became r.readings (published_by put domain limits r.published) (record { domain = domain; hard = limits.hard } ∷ r.raised) new
  pub last : (r : TimerRecord) → HasTimer r old → IsLastPut put domain r.published

-- that of the first domains, in order, where the global one reads so many pages
pub record PublishedEach (machine : Trace) (now global : ℕ) (outcomes : List Outcome) (sides sides' : List DomainSide) (old new : Seats) (log log' : List TimerEntry) : Type 0 where
  pub counts : List Count
  pub each_domain : length counts ≡ length outcomes
  pub global_is : global ≡ global_in counts
  pub limits_are : limits_of outcomes ≡ limits_each machine now 0 (global_in counts) sides counts
  pub kept : SeatsKept old new
  pub sides_are : sides' ≡ with_limits now outcomes sides
  pub logged : log' ≡ log ++ lines_from now 0 outcomes
  pub became : (r : TimerRecord) → HasTimer r old
      → Became (read_from 0 counts r.readings) (published_from 0 outcomes r.published) (raised_from 0 outcomes r.raised) new
  pub lasts : (r : TimerRecord) → HasTimer r old → AreLast 0 outcomes r.published

-- so with the first so many, of which none was stopped
pub record PublishedFirst (machine : Trace) (now done global : ℕ) (sides sides' : List DomainSide) (old new : Seats) (log log' : List TimerEntry) : Type 0 where
  pub outcomes : List Outcome
  pub each_domain : length outcomes ≡ done
  pub through : AreThrough outcomes
  pub published : PublishedEach machine now global outcomes sides sides' old new log log'

-- or with some, of which the gate stopped the last
pub record PublishedSome (machine : Trace) (now global : ℕ) (sides sides' : List DomainSide) (old new : Seats) (log log' : List TimerEntry) : Type 0 where
  pub outcomes : List Outcome
  pub some : length outcomes < length sides
  pub through : AreThrough outcomes
  pub limits : Limits
  pub published : PublishedEach machine now global (outcomes ++ record { limits = limits; put = Stopped } ∷ []) sides sides' old new log log'

-- nothing of the seats changed but the notes of shares
pub record SharesTried (old new : Seats) : Type 0 where
  pub cpu : new.cpu ≡ old.cpu
  pub totals : new.share.totals ≡ old.share.totals
  pub stakes : KeepsStakes old.share.domains new.share.domains
  pub rooms : KeepsRooms old.share.domains new.share.domains
  pub est : new.est ≡ old.est
  pub queue : new.queue ≡ old.queue

-- the periods of one domain
pub record Tried (domain k owed : ℕ) (old new : Seats) (log log' : List TimerEntry) : Type 0 where
  pub kept : SharesTried old new
  pub mid : ShareSeat
  pub domains_are : new.share.domains ≡ slice_set old.share.domains domain mid
  pub added : List TimerEntry
  pub tries : Tries domain k (seat_at domain old.share) mid owed added
  pub logged : log' ≡ log ++ added

-- those of the first so many domains
pub record TriedEach (come done : ℕ) (sides sides' : List DomainSide) (old new : Seats) (log log' : List TimerEntry) : Type 0 where
  pub kept : SharesTried old new
  pub periods : List TimerEntry
  pub logged : log' ≡ log ++ periods
  pub many : length sides' ≡ length sides
  pub hards : (domain : ℕ) → (get_or sides' domain no_side).hard ≡ (get_or sides domain no_side).hard
  pub ats : (domain : ℕ) → (get_or sides' domain no_side).at ≡ (get_or sides domain no_side).at
  pub each : (domain : ℕ) → domain < done → (added : List TimerEntry)
      × Tries domain ((get_or sides domain no_side).owed + come) (seat_at domain old.share) (seat_at domain new.share) (get_or sides' domain no_side).owed added
  pub later : (domain : ℕ) → done ≤ domain → (seat_at domain new.share ≡ seat_at domain old.share) × (get_or sides' domain no_side ≡ get_or sides domain no_side)
  pub since : (trace : Trace) (opened : ℕ) (r : TimerRecord) (lines : List LastLine) → is_opening trace lines ≡ false → done ≤ domains trace
      → TimerSince trace opened 0 periods (record { held = r; lines = lines; shares = noted old.share }) (record { held = r; lines = lines; shares = noted new.share })

-- ---- the turn

-- what the timer keeps of a domain
abbrev pub side_at : (domain : ℕ) (side : Side) → DomainSide
side_at domain side = get_or side.domains domain no_side

-- For each of the first domains in order a count was loaded, a peak raised, and limits published, of the moment, of the counts of this turn, and
-- of the hard limits before; those that were published have their lines.
pub record TimerPublishes (trace : Trace) (now : ℕ) (outcomes : List Outcome) (old : Side) (r r' : TimerRecord) (lines : List TimerEntry) : Type 0 where
  pub counts : List Count
  pub each_domain : length counts ≡ length outcomes
  pub limits_are : limits_of outcomes ≡ limits_each trace now 0 (global_in counts) old.domains counts
  pub readings : r'.readings ≡ read_from 0 counts r.readings
  pub published : r'.published ≡ published_from 0 outcomes r.published
  pub raised : r'.raised ≡ raised_from 0 outcomes r.raised
  pub lasts : AreLast 0 outcomes r.published
  pub lines_are : lines ≡ lines_from now 0 outcomes

-- So it was with all domains, and none was stopped. Then the periods that had come, and those that were owed, were tried domain by domain. The
-- next turn comes by this moment, and the next periods by the clock, whatever became of these.
pub record TimerTurn (trace : Trace) (now : ℕ) (old new : Side) (r r' : TimerRecord) (share share' : ShareSeats) (added : List TimerEntry) : Type 0 where
  pub outcomes : List Outcome
  pub all : length outcomes ≡ length old.domains
  pub through : AreThrough outcomes
  pub lines : List TimerEntry
  pub publishes : TimerPublishes trace now outcomes old r r' lines
  pub hards : (domain : ℕ) → (side_at domain new).hard ≡ (get_or (with_limits now outcomes old.domains) domain no_side).hard
  -- the lines of the limits come first, and then those of the periods that began
  pub periods : List TimerEntry
  pub added_are : added ≡ lines ++ periods
  pub tried : (domain : ℕ) → domain < length old.domains → (line : List TimerEntry)
      × Tries domain ((side_at domain old).owed + periods_by now old.period) (seat_at domain share) (seat_at domain share') (side_at domain new).owed line
  pub last : new.last ≡ now
  pub period : new.period ≡ next_period now old.period
  pub many : length new.domains ≡ length old.domains
  pub machine : new.machine ≡ old.machine

-- or with some, of which the gate stopped the last; no periods were tried
pub record TimerPart (trace : Trace) (now : ℕ) (old new : Side) (r r' : TimerRecord) (added : List TimerEntry) : Type 0 where
  pub outcomes : List Outcome
  pub some : length outcomes < length old.domains
  pub through : AreThrough outcomes
  pub limits : Limits
  pub publishes : TimerPublishes trace now (outcomes ++ record { limits = limits; put = Stopped } ∷ []) old r r' added
  pub domains_are : new.domains ≡ with_limits now outcomes old.domains
  pub last : new.last ≡ now
  pub period : new.period ≡ old.period
  pub machine : new.machine ≡ old.machine

-- the turn did nothing
pub record TimerRests (old new : Side) (seats seats' : Seats) (log log' : List TimerEntry) : Type 0 where
  pub side : new ≡ old
  pub seats_are : seats' ≡ seats
  pub log_is : log' ≡ log

-- nothing of the seats changed but the timer's record, its log, and the notes of shares
pub record SeatsStay (seats seats' : Seats) : Type 0 where
  pub table : seats'.cpu.table ≡ seats.cpu.table
  pub layout : seats'.cpu.layout ≡ seats.cpu.layout
  pub cpus : seats'.cpu.cpus ≡ seats.cpu.cpus
  pub logs : seats'.cpu.logs ≡ seats.cpu.logs
  pub totals : seats'.share.totals ≡ seats.share.totals
  pub stakes : KeepsStakes seats.share.domains seats'.share.domains
  pub rooms : KeepsRooms seats.share.domains seats'.share.domains
  pub est : seats'.est ≡ seats.est
  pub queue : seats'.queue ≡ seats.queue

-- a whole turn at a moment, of the timer of a trace; and so it goes on with the turns before it: the gate stopped it behind no peak
pub record TimerSteps (now : ℕ) (old new : Side) (seats seats' : Seats) (log log' : List TimerEntry) : Type 0 where
  pub added : List TimerEntry
  pub logged : log' ≡ log ++ added
  pub stay : SeatsStay seats seats'
  pub turn : (trace : Trace) (r : TimerRecord) → IsTimerOf trace old → HasTimer r seats
      → (r' : TimerRecord) × HasTimer r' seats' × TimerTurn trace now old new r r' seats.share seats'.share added
      × ((opened : ℕ) → TimerSince trace opened 0 added (ticked r old seats.share) (ticked r' new seats'.share))

-- a turn that the gate stopped, behind one peak
pub record TimerHalts (now : ℕ) (old new : Side) (seats seats' : Seats) (log log' : List TimerEntry) : Type 0 where
  pub added : List TimerEntry
  pub logged : log' ≡ log ++ added
  pub stay : SeatsStay seats seats'
  pub share : seats'.share ≡ seats.share
  pub turn : (trace : Trace) (r : TimerRecord) → IsTimerOf trace old → HasTimer r seats
      → (r' : TimerRecord) × HasTimer r' seats' × TimerPart trace now old new r r' added
      × ((opened : ℕ) → TimerSince trace opened 1 added (ticked r old seats.share) (ticked r' new seats'.share))

-- what the turn answers: that it rests exactly where its next moment comes after the one that the clock told
abbrev pub TimerAnswers : (told : ℕ → Type 0) (answer : Turn) (old new : Side) (seats seats' : Seats) (log log' : List TimerEntry) → Type 0
TimerAnswers told (Resting now until) old new seats seats' log log' =
    told now × (until ≡ next_of old) × (now < until) × TimerRests old new seats seats' log log'
TimerAnswers told Stepped old new seats seats' log log' =
    (now : ℕ) × told now × (next_of old ≤ now) × TimerSteps now old new seats seats' log log'
TimerAnswers told Halted old new seats seats' log log' =
    (now : ℕ) × told now × (next_of old ≤ now) × TimerHalts now old new seats seats' log log'
TimerAnswers told NoMemory old new seats seats' log log' =
    (now : ℕ) × told now × (next_of old ≤ now) × TimerRests old new seats seats' log log'
TimerAnswers told other old new seats seats' log log' = ⊥
