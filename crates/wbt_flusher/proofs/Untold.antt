-- Entries that tell no step of a CPU leave its record.
use Rattle.std.proofs.Common.{ℕ, [], ◌∷◌, refl, arith}
use Rattle.wbt_flusher.proofs.Common.{CpuRecord, share, EstEntry, Grew, items_told, gained_none, longer_none, walks_silent}
use Rattle.wbt_journal.specs.Counts.{CountsAreFresh, versions_after}
use Rattle.wbt_journal.specs.Told.{batch, estimated, fault}
use Rattle.wbt_run_laws.specs.Grew.{HasSeen}

pub batch_grows : (flusher pages now until : ℕ) (r : CpuRecord) → Grew (batch flusher pages now until ∷ []) r r
batch_grows flusher pages now until r = record {
  folds = refl;
  events = refl;
  found_dirty = refl;
  readings = gained_none r.readings;
  triples = longer_none r.triples;
  fresh = λ cpu. walks_silent HasSeen CountsAreFresh versions_after r r (items_told cpu (batch flusher pages now until ∷ [])) ((λ s. (tt, refl)), tt) (λ s has. has);
  page_steps = omega arith;
}

pub fault_grows : (flusher pages : ℕ) (r : CpuRecord) → Grew (fault flusher pages ∷ []) r r
fault_grows flusher pages r = record {
  folds = refl;
  events = refl;
  found_dirty = refl;
  readings = gained_none r.readings;
  triples = longer_none r.triples;
  fresh = λ cpu. walks_silent HasSeen CountsAreFresh versions_after r r (items_told cpu (fault flusher pages ∷ [])) ((λ s. (tt, refl)), tt) (λ s has. has);
  page_steps = omega arith;
}

pub share_grows : (domain context n : ℕ) (r : CpuRecord) → Grew (share domain context n ∷ []) r r
share_grows domain context n r = record {
  folds = refl;
  events = refl;
  found_dirty = refl;
  readings = gained_none r.readings;
  triples = longer_none r.triples;
  fresh = λ cpu. walks_silent HasSeen CountsAreFresh versions_after r r (items_told cpu (share domain context n ∷ [])) ((λ s. (tt, refl)), tt) (λ s has. has);
  page_steps = omega arith;
}

pub estimate_grows : (est : EstEntry) (r : CpuRecord) → Grew (estimated est ∷ []) r r
estimate_grows est r = record {
  folds = refl;
  events = refl;
  found_dirty = refl;
  readings = gained_none r.readings;
  triples = longer_none r.triples;
  fresh = λ cpu. walks_silent HasSeen CountsAreFresh versions_after r r (items_told cpu (estimated est ∷ [])) ((λ s. (tt, refl)), tt) (λ s has. has);
  page_steps = omega arith;
}
