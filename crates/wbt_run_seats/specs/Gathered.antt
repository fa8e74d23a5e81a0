-- What CPUs and the timer noted, brought together: as if each had noted it on one seat.
use Rattle.std.specs.Prelude.{◌≡◌, ◌≢◌, ℕ, ◌+◌, ◌<◌, ◌≤◌, true, false, List, [], length, get_or, Contains}
use Rattle.wbt_counter.specs.Sums.{total, put}
use Rattle.wbt_estimate.specs.declared.estimate.Estimate.{Estimate}
use Rattle.wbt_fraction.specs.Laws.{begun}
use Rattle.wbt_fraction.specs.Notes.{IsComplete}
use Rattle.wbt_fraction.specs.Several.{stakes_in, AllJoined, IsSeatOf, KeepsStakes, Seats as ShareSeats}
use Rattle.wbt_fraction.specs.Sums.{total as weigh}
use Rattle.wbt_fraction.specs.declared.domain.note.Note.{Note}
use Rattle.wbt_published.specs.Passes.{known_of, all_joined, Seats as EstPass}
use Rattle.wbt_published.specs.Publishing.{IsComplete as KnowsAll}
use Rattle.wbt_published.specs.declared.known.Known.{Known}
use Rattle.wbt_trace.specs.declared.trace.Trace.{Trace}
use Rattle.wbt_journal.specs.Each.{Each}
use Rattle.wbt_journal.specs.Machine.{domains, contexts}
use Rattle.wbt_journal.specs.Told.{Told}
use Rattle.wbt_run_laws.specs.Closed.{SharesTell, PassesTell}
use Rattle.wbt_run_laws.specs.Elsewhere.{IsPlain, with_shares}
use Rattle.wbt_run_laws.specs.Notes.{Notes, SharesGrew, EstimatesGrew}
use Rattle.wbt_kit.specs.Kit.{AreSeatsOf, AreFirst}
use Rattle.wbt_kit.specs.declared.kit.Kit.{Kit}
use Rattle.wbt_kit.specs.declared.kit.Seats.{Seats}
use Rattle.wbt_run_seats.specs.Opened.{IsFirstPart, first_notes}
use Rattle.wbt_run_seats.specs.Parts.{noted, owner_of, IsLeft}
use Rattle.wbt_run_seats.specs.Together.{AreTogether}

-- ---- notes

-- these notes of shares are, together, those of the first so many CPUs and of the timer, who alone began periods
pub record SharesGathered (trace : Trace) (cpus : ℕ) (notes : ℕ → Notes) (timer all : (domain : ℕ) → List Note) : Type 0 where
  pub weights : (domain : ℕ) → domain < domains trace → (h : Note → ℕ)
      → weigh h (all domain) ≡ total cpus (λ cpu. weigh h ((notes cpu).shares domain)) + weigh h (timer domain)
  pub have : (cpu domain : ℕ) → cpu < cpus → domain < domains trace → (note : Note) → Contains ((notes cpu).shares domain) note → Contains (all domain) note
  pub begun_are : (domain : ℕ) → domain < domains trace → begun (all domain) ≡ begun (timer domain)

-- what is known of each context is what its publisher knows, where this is one of the first so many CPUs, with all that they read
pub record PassesGathered (trace : Trace) (cpus : ℕ) (publisher : (context : ℕ) → ℕ) (notes : ℕ → Notes) (all : (context : ℕ) → Known) : Type 0 where
  pub published : (context : ℕ) → context < contexts trace → publisher context < cpus
      → ((all context).publishes ≡ true) × ((all context).all ≡ ((notes (publisher context)).estimates context).all)
  pub others : (context : ℕ) → context < contexts trace → cpus ≤ publisher context → (all context).publishes ≡ false
  pub have : (cpu context : ℕ) → cpu < cpus → context < contexts trace → (note : Estimate)
      → Contains ((notes cpu).estimates context).reads note → Contains (all context).reads note

-- a seat at the shares and a pass to the estimates have what the first so many CPUs noted, and the timer
pub record AreGatheredIn (trace : Trace) (cpus : ℕ) (publisher : (context : ℕ) → ℕ) (notes : ℕ → Notes) (timer : (domain : ℕ) → List Note) (share : ShareSeats) (est : EstPass) : Type 0 where
  pub shares : SharesGathered trace cpus notes timer (λ domain. noted share domain)
  pub passes : PassesGathered trace cpus publisher notes (λ context. known_of context est)

-- and so do seats
abbrev pub AreGathered : (trace : Trace) (cpus : ℕ) (publisher : (context : ℕ) → ℕ) (notes : ℕ → Notes) (timer : (domain : ℕ) → List Note) (seats : Seats) → Type 0
AreGathered trace cpus publisher notes timer seats = AreGatheredIn trace cpus publisher notes timer seats.share seats.est

-- nothing was noted of any domain
abbrev pub no_notes : (domain : ℕ) → List Note
no_notes domain = []

-- a CPU's notes: what its seats have; no period that it began; the right to publish just for its own contexts
pub record AreNotesOf (trace : Trace) (publisher : (context : ℕ) → ℕ) (cpu : ℕ) (notes : Notes) (seats : Seats) : Type 0 where
  pub shares : (domain : ℕ) → notes.shares domain ≡ noted seats.share domain
  pub estimates : (context : ℕ) → notes.estimates context ≡ known_of context seats.est
  pub begins_none : (domain : ℕ) → begun (notes.shares domain) ≡ []
  pub publishes : (context : ℕ) → context < contexts trace → publisher context ≡ cpu → (notes.estimates context).publishes ≡ true
  pub no_other : (context : ℕ) → context < contexts trace → publisher context ≢ cpu → (notes.estimates context).publishes ≡ false

-- one stake at each domain
abbrev pub HasOneStake : (kit : Kit) (seats : Seats) → Type 0
HasOneStake kit seats = (domain : ℕ) → domain < length kit.shares.domains → stakes_in domain seats.share.domains ≡ 1

-- ---- how they are gathered

-- notes that grew from those of a first part are such
abbrev pub GrownAreNotes : Type 0
GrownAreNotes = (trace : Trace) (kit : Kit) (firsts : List Estimate) (cpu : ℕ) (added : List Told) (first seats : Seats) (notes : Notes) → length kit.published.names ≡ contexts trace
    → IsFirstPart kit cpu first → SharesGrew cpu added (first_notes first) notes → EstimatesGrew firsts cpu added (first_notes first) notes
    → ((domain : ℕ) → notes.shares domain ≡ noted seats.share domain) → ((context : ℕ) → notes.estimates context ≡ known_of context seats.est)
    → AreNotesOf trace (owner_of kit) cpu notes seats

-- the seats of CPU 0 have what the first CPU noted
abbrev pub FirstIsGathered : Type 0
FirstIsGathered = (trace : Trace) (publisher : (context : ℕ) → ℕ) (notes : ℕ → Notes) (seats : Seats) → AreNotesOf trace publisher 0 (notes 0) seats
    → AreGathered trace 1 publisher notes no_notes seats

-- seats of the timer have what it noted alone, where they publish for no context
abbrev pub TimerIsGathered : Type 0
TimerIsGathered = (trace : Trace) (publisher : (context : ℕ) → ℕ) (notes : ℕ → Notes) (seats : Seats)
    → ((context : ℕ) → context < contexts trace → (known_of context seats.est).publishes ≡ false) → AreGathered trace 0 publisher notes (λ domain. noted seats.share domain) seats

-- seats that take in those of the next CPUs in order have what these noted too
abbrev pub MoreAreGathered : Type 0
MoreAreGathered = (trace : Trace) (kit : Kit) (cpus : ℕ) (publisher : (context : ℕ) → ℕ) (notes : ℕ → Notes) (timer : (domain : ℕ) → List Note) (old new : Seats) (parts : List Seats)
    → length kit.published.names ≡ contexts trace → AreGathered trace cpus publisher notes timer old → AreTogether kit old parts new
    → ((n : ℕ) (other : Seats) → n < length parts → AreNotesOf trace publisher (cpus + n) (notes (cpus + n)) (get_or parts n other))
    → AreGathered trace (cpus + length parts) publisher notes timer new

-- a turn on gathered seats that tells neither a check nor an estimate may be taken as a turn of its CPU
abbrev pub MovedAreGathered : Type 0
MovedAreGathered = (trace : Trace) (firsts : List Estimate) (cpus cpu : ℕ) (publisher : (context : ℕ) → ℕ) (notes : ℕ → Notes) (timer : (domain : ℕ) → List Note) (old new : Seats) (added : List Told) (before behind : Notes)
    → AreGathered trace cpus publisher notes timer old → cpu < cpus → (grew : SharesGrew cpu added before behind) → EstimatesGrew firsts cpu added before behind → Each IsPlain added
    → ((domain : ℕ) → before.shares domain ≡ noted old.share domain) → ((domain : ℕ) → behind.shares domain ≡ noted new.share domain)
    → ((context : ℕ) → before.estimates context ≡ known_of context old.est) → ((context : ℕ) → behind.estimates context ≡ known_of context new.est)
    → AreGathered trace cpus publisher (put notes cpu (with_shares (notes cpu) (λ domain. (grew.longer domain).more))) timer new

-- the timer's notes that take in those of all CPUs are what all noted
abbrev pub TimerTakesIn : Type 0
TimerTakesIn = (trace : Trace) (cpus : ℕ) (publisher : (context : ℕ) → ℕ) (notes : ℕ → Notes) (share from new : ShareSeats) (est came both : EstPass)
    → contexts trace ≤ length est.known → contexts trace ≤ length came.known → ((context : ℕ) → context < contexts trace → (known_of context est).publishes ≡ false)
    → AreGatheredIn trace cpus publisher notes no_notes from came → AllJoined share.domains from.domains new.domains → both ≡ record est { known = all_joined est.known came.known }
    → AreGatheredIn trace cpus publisher notes (λ domain. noted share domain) new both

-- Where the parts of all CPUs kept their stakes, and what was left of the first seats kept its own, the notes that come together last
-- are all that were ever made.
abbrev pub AllNotesComeTogether : Type 0
AllNotesComeTogether = (kit : Kit) (first left one mid : Seats) (others : List Seats) (timer cpus new : ShareSeats) → AreSeatsOf kit first → AreFirst kit first
    → IsLeft kit (1 + length others) first left → KeepsStakes left.share.domains timer.domains → HasOneStake kit one
    → ((n : ℕ) (other : Seats) → n < length others → HasOneStake kit (get_or others n other)) → AreTogether kit one others mid
    → KeepsStakes mid.share.domains cpus.domains → AllJoined timer.domains cpus.domains new.domains → IsSeatOf kit.shares new
    → (domain : ℕ) → domain < length kit.shares.domains → IsComplete (noted new domain)

-- ---- what is told then

-- for a run: all notes of shares are complete where the seats have all stakes, and what is known of estimates is where they publish
abbrev pub GatheredTell : Type 0
GatheredTell = (trace : Trace) (kit : Kit) (notes : ℕ → Notes) (first : ℕ → Seats) (timer : (domain : ℕ) → List Note) (seats : Seats) → length kit.published.names ≡ contexts trace
    → ((context : ℕ) → context < contexts trace → owner_of kit context < trace.cpus)
    → ((cpu : ℕ) → cpu < trace.cpus → IsFirstPart kit cpu (first cpu))
    → AreGathered trace trace.cpus (owner_of kit) notes timer seats
    → ((domain : ℕ) → domain < domains trace → IsComplete (noted seats.share domain))
    → ((context : ℕ) → context < contexts trace → (known_of context seats.est).publishes ≡ true → KnowsAll (known_of context seats.est))
    → SharesTell trace notes timer (λ domain. noted seats.share domain)
    × PassesTell trace (owner_of kit) (λ cpu. first_notes (first cpu)) notes (λ context. known_of context seats.est)
