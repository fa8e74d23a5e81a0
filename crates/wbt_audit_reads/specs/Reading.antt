-- What the code of the point on triples keeps.
use Rattle.std.specs.Prelude.{◌≡◌, ℕ, Bool, false, ◌&&◌, ◌==◌, nat_le, Option, Some, None, List, ◌++◌, get_or}
use Rattle.wbt_counter.specs.declared.record.Fold.{Fold}
use Rattle.wbt_num.specs.declared.limits.Limits.{Limits}
use Rattle.wbt_trace.specs.declared.trace.Trace.{Trace}
use Rattle.wbt_journal.specs.Counts.{CountsAreSums, reads_of}
use Rattle.wbt_journal.specs.Items.{Item, tells}
use Rattle.wbt_journal.specs.Machine.{domains}
use Rattle.wbt_journal.specs.Reads.{are_limits, triple_fault, triples_after, triples_of}
use Rattle.wbt_journal.specs.Walk.{first_failed}
use Rattle.wbt_journal.specs.declared.entry.CheckEntry.{CheckEntry}
use Rattle.wbt_journal.specs.declared.entry.DomainLine.{DomainLine}
use Rattle.wbt_journal.specs.declared.timer.TimerEntry.{TimerEntry}
use Rattle.wbt_journal.specs.declared.timer.TimerEntry.TheVariants as timer
use Rattle.wbt_audit_walk.specs.Acts.{told_of}
use Rattle.wbt_audit_walk.specs.declared.act.Act.{Act}
use Rattle.wbt_audit_walk.specs.declared.places.Places.{Places}
use Rattle.wbt_audit_reads.specs.declared.triples.Triples.{Triples}
use Rattle.wbt_audit_reads.specs.Folding.{AreOf}
use Rattle.wbt_audit_walk.specs.Newest.{AreNewest}
use Rattle.wbt_audit_walk.specs.Places.{below}
use Rattle.wbt_audit_walk.specs.Rows.{row_of, cell, push_cell}
use Rattle.wbt_audit_walk.specs.Walking.{Judges}

-- the place of a domain in a row of the trace's domains
abbrev pub place_by : (places : Places) (domain : ℕ) → Option ℕ
place_by places domain = below places.domains domain

-- by domain there are the triples that the entries tell
abbrev pub ArePublished : (places : Places) (entries : List TimerEntry) (published : List (List Limits)) → Type 0
ArePublished places entries published = (domain p : ℕ) → place_by places domain ≡ Some p → row_of published p ≡ triples_of domain entries

-- one triple more at a domain's place
abbrev pub triple_more_at : (place : Option ℕ) (limits : Limits) (published : List (List Limits)) → List (List Limits)
triple_more_at None limits published = published
triple_more_at (Some place) limits published = push_cell published place limits

-- the triples after an entry of the timer
abbrev pub one_triple_more : (places : Places) (entry : TimerEntry) (published : List (List Limits)) → List (List Limits)
one_triple_more places (timer.Limits domain now limits) published = triple_more_at (place_by places domain) limits published
one_triple_more places (timer.Period domain k) published = published

-- by domain there is the newest triple that the CPU has read
abbrev pub AreSeen : (trace : Trace) (seen : List DomainLine) (newest : List ℕ) → Type 0
AreSeen trace seen newest =
    AreNewest (λ (x y : ℕ). y == x) (below (domains trace)) (λ (r : DomainLine). r.domain) (λ (r : DomainLine). r.triple) (domains trace) seen newest

-- the code keeps the triples that were published, and the newest read
pub record KeepsTriples (trace : Trace) (entries : List TimerEntry) (kept : Triples) (seen : List DomainLine) : Type 0 where
  pub places : AreOf trace kept.places
  pub published : ArePublished kept.places entries kept.published
  pub newest : AreSeen trace seen kept.newest

-- whether a read's limits are the triple that it names
abbrev pub published_at : (kept : Triples) (place : ℕ) (read : DomainLine) → Bool
published_at kept place read = are_limits read.limits (cell kept.published place read.triple)

-- and no older than what was seen
abbrev pub test_at : (kept : Triples) (place : Option ℕ) (read : DomainLine) → Bool
test_at kept None read = false
test_at kept (Some place) read = published_at kept place read && nat_le (get_or kept.newest place 0) read.triple

-- whether what was read of a domain passes the test
abbrev pub test : (kept : Triples) (read : DomainLine) → Bool
test kept read = test_at kept (place_by kept.places read.domain) read

-- the first line of a check whose triple fails the test
abbrev pub check_fault : (kept : Triples) (check : CheckEntry) → Option ℕ
check_fault kept check = first_failed (test kept) 0 (reads_of check)

-- what is kept when these are read besides
abbrev pub Sees : (old new : Triples) (reads : List DomainLine) → Type 0
Sees old new reads =
    (trace : Trace) (entries : List TimerEntry) (seen : List DomainLine) → KeepsTriples trace entries old seen → KeepsTriples trace entries new (reads ++ seen)

-- of an item whose counts are sums, so that the domains that it names are there
abbrev pub JudgesTriples : (old new : Triples) (item : Item) (found : Option ℕ) → Type 0
JudgesTriples old new item found =
    (trace : Trace) (all : List Fold) (entries : List TimerEntry) → CountsAreSums trace all item
    → Judges (triple_fault entries) triples_after (KeepsTriples trace entries old) (KeepsTriples trace entries new) item found

-- the same of an act
abbrev pub JudgesTriple : (old new : Triples) (act : Act) (found : Option ℕ) → Type 0
JudgesTriple old new act found = (cpu : ℕ) → JudgesTriples old new (tells cpu (told_of act)) found

-- what a check's triples are judged to be, and what is kept after them
abbrev pub JudgesCheck : (old new : Triples) (check : CheckEntry) (found : Option ℕ) → Type 0
JudgesCheck old new check found = (found ≡ check_fault old check) × (found ≡ None → Sees old new (reads_of check))
