-- What an entry does, whatever its kind. Laws read these parts and take no kind apart: a kind that does none of this needs one row here.
use Rattle.std.specs.Prelude.{ℕ, Bool, true, false, if◌then◌else◌, Option, Some, None, List, [], ◌∷◌}
use Rattle.wbt_book.specs.declared.event.Event.{Event}
use Rattle.wbt_book.specs.declared.event.Event.TheVariants.{Dirty, Claim, Complete, Redirty, Absorb}
use Rattle.wbt_counter.specs.declared.record.Fold.{Fold}
use Rattle.wbt_journal.specs.declared.entry.CheckEntry.{CheckEntry}
use Rattle.wbt_journal.specs.declared.entry.EstEntry.{EstEntry}
use Rattle.wbt_journal.specs.Told.{Told, wrote, folded, checked, claimed, batch, done, share, estimated, fault, gave_back, noticed, aged, took}

-- a task wrote a page, which was clean before where it is fresh
pub record Write : Type 0 where
  pub task : ℕ
  pub page : ℕ
  pub fresh : Bool

-- what a flusher did
pub data Move : Type 0 where
  -- it claimed a page
  takes : (page : ℕ) → Move
  -- it handed this many pages to its disk at a moment, which has written them at another
  flies : (pages now until : ℕ) → Move
  -- it completed a page
  lands : (page : ℕ) → Move
  -- its disk failed to write this many pages
  fails : (pages : ℕ) → Move
  -- it gave a page back, which was absorbed or is dirty again
  gives_back : (page : ℕ) (absorbed : Bool) → Move

-- a move of a flusher, by the flusher's number
pub record Flight : Type 0 where
  pub flusher : ℕ
  pub move : Move

-- what a flusher did with its waiting list
pub data WaitMove : Type 0 where
  -- it noticed an inode at a moment
  notices : (inode since : ℕ) → WaitMove
  -- it took an inode for its age, which was due at a moment, at another
  ages : (inode due now : ℕ) → WaitMove
  -- it took an inode, due or not
  takes_first : (inode : ℕ) → WaitMove

-- a move of a flusher's waiting list, by the flusher's number
pub record Wait : Type 0 where
  pub flusher : ℕ
  pub move : WaitMove

-- this many pages were counted in for a context in a domain
pub record Share : Type 0 where
  pub domain : ℕ
  pub context : ℕ
  pub n : ℕ

-- the parts of what an entry does, each of which may be absent
pub record Effect : Type 0 where
  pub write : Option Write
  pub fold : Option Fold
  pub check : Option CheckEntry
  pub flight : Option Flight
  pub share : Option Share
  pub estimate : Option EstEntry
  pub wait : Option Wait

-- none of these parts
abbrev pub no_effect : Effect
no_effect = record { write = None; fold = None; check = None; flight = None; share = None; estimate = None; wait = None }

-- a flusher's move, and no other part
abbrev pub of_flight : (flusher : ℕ) (move : Move) → Effect
of_flight flusher move = record no_effect { flight = Some (record { flusher = flusher; move = move }) }

-- a move of a flusher's waiting list, and no other part
abbrev pub of_wait : (flusher : ℕ) (move : WaitMove) → Effect
of_wait flusher move = record no_effect { wait = Some (record { flusher = flusher; move = move }) }

-- what each kind of entry does
abbrev pub effect : (entry : Told) → Effect
effect (wrote task page fresh) = record no_effect { write = Some (record { task = task; page = page; fresh = fresh }) }
effect (folded fold) = record no_effect { fold = Some fold }
effect (checked check) = record no_effect { check = Some check }
effect (claimed flusher page) = of_flight flusher (takes page)
effect (batch flusher pages now until) = of_flight flusher (flies pages now until)
effect (done flusher page) = of_flight flusher (lands page)
effect (share domain context n) = record no_effect { share = Some (record { domain = domain; context = context; n = n }) }
effect (estimated est) = record no_effect { estimate = Some est }
effect (fault flusher pages) = of_flight flusher (fails pages)
effect (gave_back flusher page absorbed) = of_flight flusher (gives_back page absorbed)
effect (noticed flusher inode since) = of_wait flusher (notices inode since)
effect (aged flusher inode due now) = of_wait flusher (ages inode due now)
effect (took flusher inode) = of_wait flusher (takes_first inode)

-- ---- events of pages

-- the page event of a flusher's move; a batch and a fault have none
abbrev pub event_of_move : (move : Move) → Option Event
event_of_move (takes page) = Some (Claim page)
event_of_move (lands page) = Some (Complete page)
event_of_move (gives_back page absorbed) = Some (if absorbed then Absorb page else Redirty page)
event_of_move other = None

-- the page event of a flusher's move, where there is one
abbrev pub event_of_flight : (flight : Option Flight) → Option Event
event_of_flight None = None
event_of_flight (Some flight) = event_of_move flight.move

-- a write of a clean page dirties it
abbrev pub event_by : (write : Option Write) (flight : Option Flight) → Option Event
event_by None flight = event_of_flight flight
event_by (Some write) flight = if write.fresh then Some (Dirty write.page) else None

-- the page event of an entry
abbrev pub event_of : (entry : Told) → Option Event
event_of entry = event_by (effect entry).write (effect entry).flight

-- the page that a write found dirty, where there is a write and it did
abbrev pub found_by : (write : Option Write) → Option ℕ
found_by None = None
found_by (Some write) = if write.fresh then None else Some write.page

-- the page of a write that found it dirty
abbrev pub found_of : (entry : Told) → Option ℕ
found_of entry = found_by (effect entry).write

-- whether a page event completes a page
abbrev pub is_completion : (event : Option Event) → Bool
is_completion None = false
is_completion (Some (Complete page)) = true
is_completion (Some other) = false

-- the page, which was under writeback, no longer is: it was completed or given back
abbrev pub is_release : (event : Option Event) → Bool
is_release None = false
is_release (Some (Dirty page)) = false
is_release (Some (Claim page)) = false
is_release (Some other) = true

-- ---- moments

-- the moment at which a flusher handed pages to its disk
abbrev pub moment_of : (move : Move) → Option ℕ
moment_of (flies pages now until) = Some now
moment_of other = None

-- how many pages it handed
abbrev pub handed_by : (move : Move) → ℕ
handed_by (flies pages now until) = pages
handed_by other = 0

-- ---- parts that may be there

-- a list of the part where it is there, and an empty one where it isn't
abbrev pub listed : {A : Type 0} (part : Option A) → List A
listed None = []
listed (Some x) = x ∷ []

-- what a part gives, or something else where it isn't there
abbrev pub of_part : {A B : Type 0} (none : B) (some : A → B) (part : Option A) → B
of_part none some None = none
of_part none some (Some x) = some x
