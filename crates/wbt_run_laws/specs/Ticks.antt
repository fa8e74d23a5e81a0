-- What a turn of the timer says of its record, its lines and its notes.
use Rattle.std.specs.Prelude.{◌≡◌, ℕ, suc, ◌+◌, ◌*◌, ◌<◌, ◌≤◌, ◌==◌, if◌then◌else◌, List, [], ◌∷◌, ◌++◌, map, flat_map}
use Rattle.wbt_counter.specs.Sums.{one_if}
use Rattle.wbt_num.specs.declared.limits.TheConstants.{LAST_SEQUENCE}
use Rattle.wbt_fraction.specs.Laws.{begun, Falls}
use Rattle.wbt_fraction.specs.Notes.{added_at}
use Rattle.wbt_fraction.specs.Sums.{total as weigh}
use Rattle.wbt_fraction.specs.declared.domain.note.Note.{Note}
use Rattle.wbt_grant.specs.State.{version_of}
use Rattle.wbt_grant.specs.declared.record.DomainLimits.{DomainLimits}
use Rattle.wbt_grant.specs.declared.record.Raised.{Raised}
use Rattle.wbt_grant.specs.declared.record.TimerRecord.{TimerRecord}
use Rattle.wbt_trace.specs.declared.trace.Trace.{Trace}
use Rattle.wbt_journal.specs.Each.{Each}
use Rattle.wbt_journal.specs.Timer.{LastLine, TimerGoesOn, lines_after}
use Rattle.wbt_journal.specs.declared.timer.TimerEntry.{TimerEntry}
use Rattle.wbt_journal.specs.declared.timer.TimerEntry.TheVariants as timer
use Rattle.wbt_journal.specs.Walk.{after}
use Rattle.wbt_run_laws.specs.Grew.{onto}
use Rattle.wbt_run_laws.specs.Walks.{Walked}

-- what is known of the timer between two turns
pub record Ticked : Type 0 where
  pub held : TimerRecord
  pub lines : List LastLine  -- the last limits of each domain
  pub shares : (domain : ℕ) → List Note  -- of steps on the domain's words, the newest first

-- what is published after a line, the newest first: a line of limits publishes the next version of its domain
abbrev pub published_after : (published : List DomainLimits) (entry : TimerEntry) → List DomainLimits
published_after published (timer.Limits domain now limits) =
    record { domain = domain; version = suc (version_of domain published); limits = limits } ∷ published
published_after published (timer.Period domain k) = published

-- the peak that was raised for the limits of a line
abbrev pub peak_for : (entry : TimerEntry) → List Raised
peak_for (timer.Limits domain now limits) = record { domain = domain; hard = limits.hard } ∷ []
peak_for (timer.Period domain k) = []

-- what became of the limits for which a peak was raised: they were published, and have a line; the gate stopped their publication; or their domain has
-- its last version
pub data Fate : Type 0 where
  has_line : Fate
  gate_stopped : Fate
  last_version : Fate

-- a raised peak, and what became of its limits
pub record Peak : Type 0 where
  pub raised : Raised
  pub fate : Fate

-- the peak that was raised
abbrev pub raised_by : (peak : Peak) → List Raised
raised_by peak = peak.raised ∷ []

-- it has a line
abbrev pub told_so : (fate : Fate) (raised : Raised) → List Raised
told_so has_line raised = raised ∷ []
told_so other raised = []

-- the peak, where its limits have a line
abbrev pub told_by : (peak : Peak) → List Raised
told_by peak = told_so peak.fate peak.raised

-- how often the gate stopped the timer behind a peak
abbrev pub one_stop : (fate : Fate) → ℕ
one_stop gate_stopped = 1
one_stop other = 0

-- how often the gate stopped the timer behind these peaks
abbrev pub stops_in : (peaks : List Peak) → ℕ
stops_in [] = 0
stops_in (peak ∷ peaks) = one_stop peak.fate + stops_in peaks

-- the last version of its domain stands, where that is why it has no line
abbrev pub IsLastBy : (fate : Fate) (domain : ℕ) (published : List DomainLimits) → Type 0
IsLastBy last_version domain published = LAST_SEQUENCE ≤ 2 * version_of domain published
IsLastBy other domain published = Unit {0}

-- where a peak has no line because its domain has had its last version, that version stands published
abbrev pub HasItsCause : (published : List DomainLimits) (peak : Peak) → Type 0
HasItsCause published peak = IsLastBy peak.fate peak.raised.domain published

-- how often a domain's peak was raised
abbrev pub times_raised : (domain : ℕ) (raised : List Raised) → ℕ
times_raised domain [] = 0
times_raised domain (peak ∷ raised) = one_if (domain == peak.domain) + times_raised domain raised

-- how many periods of a domain begin
abbrev pub period_line : (domain : ℕ) (entry : TimerEntry) → List ℕ
period_line domain (timer.Limits of now limits) = []
period_line domain (timer.Period of k) = if of == domain then k ∷ [] else []

-- how many periods began at once, each time; the newest first
abbrev pub begun_at_once : (notes : List Note) → List ℕ
begun_at_once notes = map (λ (b : ℕ × ℕ). b.1) (begun notes)

-- each time some periods began, and in the order of the notes
pub record AreInOrder (notes : List Note) : Type 0 where
  pub some : Each (λ (k : ℕ). 1 ≤ k) (begun_at_once notes)
  pub falls : Falls (begun notes)

-- Limits are told just as they were published, and each peak just as it was raised, but those of a domain that has had its last version, and one
-- for each time that the gate stopped the timer behind it. Lines follow those before them, and periods are told just as they began.
pub record TimerSince (trace : Trace) (opened stops : ℕ) (added : List TimerEntry) (old new : Ticked) : Type 0 where
  pub published : new.held.published ≡ after published_after old.held.published added
  pub peaks : List Peak  -- all that were raised, the first first
  pub raised : new.held.raised ≡ onto raised_by peaks old.held.raised
  pub told_are : flat_map told_by peaks ≡ flat_map peak_for added
  pub stops_are : stops_in peaks ≡ stops
  pub causes : Each (HasItsCause new.held.published) peaks
  pub follow : Walked (TimerGoesOn trace opened) lines_after old.lines added new.lines
  pub begun_are : (domain : ℕ) → begun_at_once (new.shares domain) ≡ onto (period_line domain) added (begun_at_once (old.shares domain))
  pub in_order : (domain : ℕ) → AreInOrder (old.shares domain) → AreInOrder (new.shares domain)
  -- the timer adds nothing to a part
  pub adds_none : (domain context : ℕ) → weigh (added_at (suc context)) (new.shares domain) ≡ weigh (added_at (suc context)) (old.shares domain)

-- ---- laws

-- without a turn of the timer all stays as it is
abbrev pub TimerSinceNow : Type 0
TimerSinceNow = (trace : Trace) (opened : ℕ) (ticked : Ticked) → TimerSince trace opened 0 [] ticked ticked

-- turns of the timer compose, and the stops of the gate add up
abbrev pub TimerSinceMore : Type 0
TimerSinceMore = (trace : Trace) (opened m n : ℕ) (a b : List TimerEntry) (old mid new : Ticked)
    → TimerSince trace opened m a old mid → TimerSince trace opened n b mid new → TimerSince trace opened (m + n) (a ++ b) old new

-- where the gate stopped the timer behind no peak, and no domain has its last version, each raised peak is told
abbrev pub PeaksAreTold : Type 0
PeaksAreTold = (trace : Trace) (opened : ℕ) (added : List TimerEntry) (old new : Ticked) → TimerSince trace opened 0 added old new
    → ((domain : ℕ) → 2 * version_of domain new.held.published < LAST_SEQUENCE) → new.held.raised ≡ onto peak_for added old.held.raised

-- few peaks stand behind no line: a domain that hasn't its last version has a version for each raised peak, but for one at each stop of the gate
abbrev pub FewPeaksHaveNoLine : Type 0
FewPeaksHaveNoLine = (trace : Trace) (opened stops : ℕ) (added : List TimerEntry) (old new : Ticked) → TimerSince trace opened stops added old new
    → (domain : ℕ) → 2 * version_of domain new.held.published < LAST_SEQUENCE
    → times_raised domain new.held.raised + version_of domain old.held.published
    ≤ times_raised domain old.held.raised + version_of domain new.held.published + stops
