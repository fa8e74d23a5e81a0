-- What a CPU notes of shares and of estimates, and what its entries tell of it.
use Rattle.std.specs.Prelude.{◌≡◌, ℕ, suc, ◌+◌, ◌≤◌, ◌⊎◌, true, false, IfSome, List, [], ◌∷◌, ◌++◌, Contains}
use Rattle.std.specs.List.{list_all}
use Rattle.wbt_estimate.specs.declared.estimate.Estimate.{Estimate}
use Rattle.wbt_flex.specs.Proportions.{fraction_of}
use Rattle.wbt_flex.specs.declared.share.Fraction.{Fraction}
use Rattle.wbt_fraction.specs.Laws.{begun}
use Rattle.wbt_fraction.specs.Notes.{added_at}
use Rattle.wbt_fraction.specs.Sums.{total as weigh}
use Rattle.wbt_fraction.specs.Words.{period_of, half_of}
use Rattle.wbt_fraction.specs.declared.domain.note.Note.{Note}
use Rattle.wbt_fraction.specs.declared.domain.note.Note.TheVariants.{Found}
use Rattle.wbt_published.specs.Known.{first_in, first_one}
use Rattle.wbt_published.specs.declared.known.Known.{Known}
use Rattle.wbt_journal.specs.Counts.{reads_of}
use Rattle.wbt_journal.specs.Each.{Each}
use Rattle.wbt_journal.specs.Effects.{effect}
use Rattle.wbt_journal.specs.Estimates.{Named, Follows, is_no_newer, NamesGoOn, names_after, estimates_of}
use Rattle.wbt_journal.specs.Reads.{Period, is_no_later, added_to, PeriodsGoOn, periods_after}
use Rattle.wbt_journal.specs.Told.{Told}
use Rattle.wbt_journal.specs.declared.entry.CheckEntry.{CheckEntry}
use Rattle.wbt_journal.specs.Walk.{after}
use Rattle.wbt_run_laws.specs.Walks.{items_told, Walks}

-- what a CPU notes
pub record Notes : Type 0 where
  pub shares : (domain : ℕ) → List Note  -- of steps on the domain's words, the newest first
  pub kept : (domain context : ℕ) → Fraction  -- that the CPU's writers read last
  pub estimates : (context : ℕ) → Known  -- what its pass knows

-- the fraction before the first read
abbrev pub no_fraction : Fraction
no_fraction = record { period = 0; num = 0; den = 1 }

-- a list that got more at its front
pub record Longer {A : Type 0} (old new : List A) : Type 0 where
  pub more : List A
  pub longer : new ≡ more ++ old

-- ---- fractions

-- the fraction of two words that these notes found: the part's, and the domain's of no earlier period
pub record WasRead (notes : List Note) (context : ℕ) (fraction : Fraction) : Type 0 where
  pub part : ℕ
  pub whole : ℕ
  pub found_part : Contains notes (Found (suc context) part)
  pub found_whole : Contains notes (Found 0 whole)
  pub behind : period_of part ≤ period_of whole
  pub value : fraction ≡ fraction_of (half_of part) (half_of whole)

-- a fraction that a CPU may keep: the one before the first read, or one that these notes found
abbrev pub IsKept : (notes : List Note) (context : ℕ) (fraction : Fraction) → Type 0
IsKept notes context fraction = (fraction ≡ no_fraction) ⊎ WasRead notes context fraction

-- each kept fraction is such
abbrev pub AreKept : (notes : Notes) → Type 0
AreKept notes = (domain context : ℕ) → IsKept (notes.shares domain) context (notes.kept domain context)

-- and so is each fraction of a check
abbrev pub TellsKept : (shares : ℕ → List Note) (entry : Told) → Type 0
TellsKept shares entry = IfSome (effect entry).check (λ (check : CheckEntry). Each (λ read. IsKept (shares read.domain) check.context read.share) (reads_of check))

-- these periods were read, and none of them is after that of the fraction that is kept
abbrev pub KeepsPeriods : (kept : ℕ → ℕ → Fraction) (seen : List Period) → Type 0
KeepsPeriods kept seen = (domain context period : ℕ) → (kept domain context).period ≤ period → list_all (is_no_later domain context period) seen ≡ true

-- the notes of shares got more at their front, as the entries tell
pub record SharesGrew (cpu : ℕ) (added : List Told) (old new : Notes) : Type 0 where
  pub longer : (domain : ℕ) → Longer (old.shares domain) (new.shares domain)
  -- what was added to the parts is told
  pub adds : (domain context : ℕ)
      → weigh (added_at (suc context)) (new.shares domain) ≡ weigh (added_at (suc context)) (old.shares domain) + added_to domain context added
  -- no CPU begins a period
  pub begins_none : (domain : ℕ) → begun (new.shares domain) ≡ begun (old.shares domain)
  pub kept : AreKept old → AreKept new
  pub fractions : AreKept old → Each (TellsKept new.shares) added
  pub periods : Walks KeepsPeriods PeriodsGoOn periods_after old.kept (items_told cpu added) new.kept

-- ---- estimates

-- the later one
abbrev pub newer : (old new : Estimate) → Estimate
newer old new = new

-- the newest estimate of a context that begins with this one, of all that the pass knows
pub record IsNewest (first : Estimate) (known : Known) (newest : Estimate) : Type 0 where
  pub later : List Estimate
  pub all_are : known.all ≡ first_one ∷ later
  pub newest_is : newest ≡ after newer first later

-- these versions were named, and none of them is above what the pass has seen
abbrev pub HasNamed : (estimates : ℕ → Known) (seen : List Named) → Type 0
HasNamed estimates seen = (context version : ℕ) → (estimates context).seen ≤ version → list_all (is_no_newer context version) seen ≡ true

-- what is published for a context that begins with this estimate
pub record IsTold (first : Estimate) (told : List Estimate) (old new : Known) : Type 0 where
  pub right : new.publishes ≡ old.publishes
  pub published : old.publishes ≡ true → new.all ≡ old.all ++ told
  pub silent : old.publishes ≡ false → told ≡ []
  pub follow : Walks (IsNewest first) Follows newer old told new
  pub reads : (note : Estimate) → Contains old.reads note → Contains new.reads note

-- for each context, of which these are the first estimates
pub record EstimatesGrew (firsts : List Estimate) (cpu : ℕ) (added : List Told) (old new : Notes) : Type 0 where
  pub each : (context : ℕ) → IsTold (first_in firsts context) (estimates_of context added) (old.estimates context) (new.estimates context)
  pub names : Walks HasNamed NamesGoOn names_after old.estimates (items_told cpu added) new.estimates
