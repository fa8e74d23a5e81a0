-- There are the triples that the entries so far tell.
use Rattle.std.proofs.Common.{◌≡◌, length, take}
use Rattle.wbt_audit_reads.specs.Reading.{ArePublished}
use Rattle.wbt_audit_reads.proofs.triples.published_by.Given as goal

abbrev pub invariant-loop-entry : goal.invariant-loop-entry
invariant-loop-entry l = record {
  room : length l.published ≡ l.places.domains;
  are : ArePublished l.places (take l.entry-index l.timer) l.published;
}
