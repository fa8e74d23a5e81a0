-- How often entries dirtied, claimed and released each page.
use Rattle.std.specs.Prelude.{◌≡◌, ℕ, ◌+◌, ◌<◌, Bool, ◌&&◌, ◌==◌, if◌then◌else◌, Option, List, length, get_or, count_by}
use Rattle.wbt_book.specs.declared.event.Event.{Event}
use Rattle.wbt_book.specs.declared.event.Event.TheVariants.{Dirty, Claim, Complete, Redirty, Absorb}
use Rattle.wbt_journal.specs.declared.journal.Left.{Left}
use Rattle.wbt_journal.specs.Effects.{of_part}
use Rattle.wbt_journal.specs.Leaves.{dirties, claims, completes, redirties, absorbs, left_dirty, left_writeback}
use Rattle.wbt_journal.specs.Text.{is_left_dirty, is_left_writeback}
use Rattle.wbt_journal.specs.Told.{Told}
use Rattle.wbt_audit_turns.specs.declared.ledger.Tally.{Tally}
use Rattle.wbt_audit_turns.specs.Worked.{one_if_so}

-- the tally of a page of which nothing was told
abbrev pub nothing : Tally
nothing = record { dirtied = 0; cleaned = 0; claimed = 0; released = 0 }

-- the sum of two tallies
abbrev pub plus : (a b : Tally) → Tally
plus a b = record { dirtied = a.dirtied + b.dirtied; cleaned = a.cleaned + b.cleaned; claimed = a.claimed + b.claimed; released = a.released + b.released }

-- ---- by an event

-- the page of an event
abbrev pub page_of_event : (event : Event) → ℕ
page_of_event (Dirty page) = page
page_of_event (Claim page) = page
page_of_event (Complete page) = page
page_of_event (Redirty page) = page
page_of_event (Absorb page) = page

-- a page that is given back dirty is released and dirtied
abbrev pub tally_of_event : (event : Event) → Tally
tally_of_event (Dirty page) = record { dirtied = 1; cleaned = 0; claimed = 0; released = 0 }
tally_of_event (Claim page) = record { dirtied = 0; cleaned = 1; claimed = 1; released = 0 }
tally_of_event (Complete page) = record { dirtied = 0; cleaned = 0; claimed = 0; released = 1 }
tally_of_event (Redirty page) = record { dirtied = 1; cleaned = 0; claimed = 0; released = 1 }
tally_of_event (Absorb page) = record { dirtied = 0; cleaned = 0; claimed = 0; released = 1 }

-- the tally of a page with an event, of this page or another
abbrev pub with_event : (tally : Tally) (page : ℕ) (event : Event) → Tally
with_event tally page event = if page_of_event event == page then plus tally (tally_of_event event) else tally

-- the tally of a page with an event, where there is one
abbrev pub with_events : (tally : Tally) (page : ℕ) (event : Option Event) → Tally
with_events tally page event = of_part tally (with_event tally page) event

-- ---- by entries

-- how often these entries dirtied, claimed and released a page
abbrev pub tally_of : (entries : List Told) (page : ℕ) → Tally
tally_of entries page = record {
  dirtied = count_by (dirties page) entries + count_by (redirties page) entries;
  cleaned = count_by (claims page) entries;
  claimed = count_by (claims page) entries;
  released = count_by (completes page) entries + count_by (redirties page) entries + count_by (absorbs page) entries;
}

-- each page's tally, with that of the entries to come, is what all entries tell of it
abbrev pub Tallied : (tallies : List Tally) (rest all : List Told) → Type 0
Tallied tallies rest all =
    (page : ℕ) → page < length tallies → plus (get_or tallies page nothing) (tally_of rest page) ≡ tally_of all page

-- ---- by what is left

-- what is left of a page: one that is dirty counts as claimed, and one under writeback as released
abbrev pub tally_of_left : (left : List Left) (page : ℕ) → Tally
tally_of_left left page = record { dirtied = 0; cleaned = left_dirty page left; claimed = 0; released = left_writeback page left }

-- the tally of one page that is left
abbrev pub tally_of_one : (left : Left) → Tally
tally_of_one left = record { dirtied = 0; cleaned = one_if_so (is_left_dirty left); claimed = 0; released = one_if_so (is_left_writeback left) }

-- as often claimed as dirtied, and released as claimed
abbrev pub is_balanced : (tally : Tally) → Bool
is_balanced tally = tally.dirtied == tally.cleaned && tally.claimed == tally.released
