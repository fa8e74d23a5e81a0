-- What each kind of step makes of the record of its CPU, as growth by its entry or by none.
use Rattle.std.specs.Prelude.{◌≡◌, ℕ, ◌+◌, true, not, ◌==◌, List, [], ◌∷◌, ◌++◌, map}
use Rattle.wbt_counter.specs.Word.{version_in, count_in}
use Rattle.wbt_counter.specs.declared.counter.Counter.{Counter}
use Rattle.wbt_counter.specs.declared.record.Fold.{Fold}
use Rattle.wbt_grant.specs.Kinds.{Step, last_found, fold, count, dirty, claim, complete, back, limits}
use Rattle.wbt_grant.specs.Laws.{NoneAhead}
use Rattle.wbt_grant.specs.Seats.{own_told, record_after, is_untold}
use Rattle.wbt_grant.specs.Setting.{Setting}
use Rattle.wbt_grant.specs.declared.record.CpuRecord.{CpuRecord}
use Rattle.wbt_grant.specs.declared.who.Who.{Who}
use Rattle.wbt_journal.specs.Counts.{Load, loads_of}
use Rattle.wbt_journal.specs.Each.{Each}
use Rattle.wbt_journal.specs.Told.{wrote, folded, checked, claimed, done, gave_back}
use Rattle.wbt_journal.specs.declared.entry.CheckEntry.{CheckEntry}
use Rattle.wbt_run_laws.specs.Grew.{reading_of, Gained, Grew}
use Rattle.wbt_run_laws.specs.Notes.{Longer}

-- ---- steps that no entry tells at once

-- Loads of a check are gathered until its entry names them: these counts were loaded in this order, each no older than what the record had,
-- limits may have been loaded, and nothing changed that an entry would tell.
pub record Gathered (loads : List Load) (old new : CpuRecord) : Type 0 where
  pub folds : new.folds ≡ old.folds
  pub events : new.events ≡ old.events
  pub found_dirty : new.found_dirty ≡ old.found_dirty
  pub page_steps : new.page_steps ≡ old.page_steps
  pub readings : Gained (map reading_of loads) old.readings new.readings
  pub limits : Longer old.triples new.triples
  pub fresh : Each (λ load. NoneAhead load.count.version load.counter old) loads

-- loads are gathered one after another
abbrev pub GatheredMore : Type 0
GatheredMore = (a b : List Load) (old mid new : CpuRecord) → Gathered a old mid → Gathered b mid new → Gathered (a ++ b) old new

-- where no check is told, loads and other steps without an entry are growth by nothing
abbrev pub UntoldGrows : Type 0
UntoldGrows = (loads : List Load) (old new : CpuRecord) → Gathered loads old new → Grew [] old new

-- a check's loads, in the order of its lines, are growth by its entry
abbrev pub CheckGrows : Type 0
CheckGrows = (check : CheckEntry) (old new : CpuRecord) → Gathered (loads_of check) old new → Grew (checked check ∷ []) old new

-- ---- each kind of step, by what it found

-- the fold that a step makes of the CPU's own number, by the word that was found
abbrev pub fold_made : (set : Setting) (x : Counter) (found : ℕ) (r : CpuRecord) → Fold
fold_made set x found r = record { counter = x; version = version_in found + 1; delta = own_told set x r }

-- the count that a load found in a counter's word
abbrev pub load_made : (x : Counter) (found : ℕ) → Load
load_made x found = record { counter = x; count = record { version = version_in found; value = count_in found } }

-- what each kind of step makes of a CPU's record, by the word that it found
pub record EachStepGrows (set : Setting) (found : ℕ) (r : CpuRecord) : Type 0 where
  -- additions, clears, looks, marks and grants, the first two loads of limits, and what misses of claims and of giving back, are untold: no entry
  -- tells them
  pub untold : (step : Step) → is_untold step found r ≡ true → Gathered [] r (record_after set step found r)
  -- a load is told by a check's entry, or by none
  pub counts : (who : Who) (x : Counter) → NoneAhead (version_in found) x r
      → Gathered (load_made x found ∷ []) r (record_after set (count who x) found r)
  -- and what is held after the third load of limits, whether or not they were read whole
  pub loads_limits : (who : Who) (d : ℕ) → Gathered [] r (record_after set (limits who d) found r)
  -- each of these has its entry
  pub folds : (i : ℕ) (x : Counter) → Grew (folded (fold_made set x found r) ∷ []) r (record_after set (fold i x) found r)
  pub dirties : (w task p : ℕ)
      → Grew (wrote task p (not (set.coding.page_bits found p).dirty) ∷ []) r (record_after set (dirty w p) found r)
  pub claims : (i flusher p : ℕ) → (found == last_found r.last) ≡ true
      → Grew (claimed flusher p ∷ []) r (record_after set (claim i p) found r)
  pub completes : (i flusher p : ℕ) → Grew (done flusher p ∷ []) r (record_after set (complete i p) found r)
  pub backs : (i flusher p : ℕ) → (found == last_found r.last) ≡ true
      → Grew (gave_back flusher p (set.coding.page_bits found p).dirty ∷ []) r (record_after set (back i p) found r)

-- so it is in each setting, for each word and each record
abbrev pub StepsGrow : Type 0
StepsGrow = (set : Setting) (found : ℕ) (r : CpuRecord) → EachStepGrows set found r
