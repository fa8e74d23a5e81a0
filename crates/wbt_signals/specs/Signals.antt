-- Signals: a bell's word, which is 0 until it is rung, and two counts of workers: those that still write, and those that are still there.
use Rattle.std.specs.Prelude.{◌≡◌, ◌≢◌, ℕ, ◌+◌, ◌-◌, ◌^◌, ◌≤◌, ◌==◌, Bool, true, false, not, ◌||◌, List, [], ◌∷◌, length, slice_index}
use mathlib.Core.Option.{some}
use lib.ListN.{get_elem?}
use Rattle.atomic_table.specs.Seated.{TableId}
use Rattle.atomic_table.specs.Table.{State, Me, Step}
use Rattle.wbt_signals.specs.declared.rule.Act.TheVariants.{Ring, Listen, Stop, Count, Leave, Look}
use Rattle.wbt_signals.specs.declared.rule.Note.{Note}
use Rattle.wbt_signals.specs.declared.rule.View.{View}
use Rattle.wbt_signals.specs.History.{IsHistory, IsNoted, Owned, AreOwned, history_of, notes_of, many, merged, rings, stops, leaves}

-- a number of each view, added up
unfoldable pub total : (of : View → ℕ) (views : List View) → ℕ
total of [] = 0
total of (view ∷ more) = of view + total of more

-- the stakes of all voices, which are 2^32 together
abbrev pub all_stakes : (views : List View) → ℕ
all_stakes views = total (λ view. view.stakes) views

-- how often all voices together rang the bell
abbrev pub all_rings : (views : List View) → ℕ
all_rings views = total (λ view. view.rings) views

-- of how many workers all voices together may still say that they write no more
abbrev pub all_writes : (views : List View) → ℕ
all_writes views = total (λ view. view.writes) views

-- of how many workers they may still say that they leave
abbrev pub all_there : (views : List View) → ℕ
all_there views = total (λ view. view.there) views

-- a voice with no stake never did anything, and speaks for no worker; any other knows of how many workers the signals are; where one heard the
-- bell that is rung, where it found that nobody writes nobody does, and where it found that all have left nobody is there
pub record Fits (workers bell writers there : ℕ) (view : View) : Type 0 where
  pub poor : view.stakes ≡ 0 → (view.rings ≡ 0) × (view.writes ≡ 0) × (view.there ≡ 0) × (view.notes ≡ [])
  pub known : 1 ≤ view.stakes → view.workers ≡ workers
  pub heard : view.heard ≡ true → bell ≢ 0
  pub quiet : view.quiet ≡ true → writers ≡ 0
  pub gone : view.gone ≡ true → there ≡ 0

-- so it is with each voice
abbrev pub AllFit : (workers bell writers there : ℕ) (views : List View) → Type 0
AllFit workers bell writers there [] = Unit {0}
AllFit workers bell writers there (view ∷ more) = Fits workers bell writers there view × AllFit workers bell writers there more

-- The views tell one history of all operations: each voice has its own of them, and each of them is had by one voice.
pub record HasHistory (workers : ℕ) (views : List View) : Type 0 where
  pub past : List Owned
  pub lawful : IsHistory workers (history_of past)
  pub rings : all_rings views ≡ many rings (history_of past)
  pub stops : all_writes views + many stops (history_of past) ≡ workers
  pub leaves : all_there views + many leaves (history_of past) ≡ workers
  pub owned : AreOwned (length views) past
  pub theirs : (id : ℕ) (view : View) → get_elem? views id ≡ some view → view.notes ≡ notes_of id past

-- What holds between any two steps of any threads: the bell was rung exactly where a voice rang it, and the counts are those of the workers of
-- which nobody said that they write no more, and that they leave. So is the history of all operations.
pub record Kept (workers : ℕ) (s : State (Unit {0}) View) : Type 0 where
  pub three : length s.words ≡ 3
  pub rung : slice_index s.words 0 ≢ 0 → 1 ≤ all_rings s.views
  pub rang : 1 ≤ all_rings s.views → slice_index s.words 0 ≢ 0
  pub writers : slice_index s.words 1 ≡ all_writes s.views
  pub there : slice_index s.words 2 ≡ all_there s.views
  pub staked : all_stakes s.views ≡ 2 ^ 32
  pub fits : AllFit workers (slice_index s.words 0) (slice_index s.words 1) (slice_index s.words 2) s.views
  pub history : HasHistory workers s.views

-- the first voice has all stakes, and speaks for all workers
abbrev pub first_view : (workers : ℕ) → View
first_view workers = record {
  stakes = 2 ^ 32;
  workers = workers;
  rings = 0;
  heard = false;
  writes = workers;
  quiet = false;
  there = workers;
  gone = false;
  notes = [];
}

-- ---- steps

-- a voice at the words
abbrev pub Sat : Type 0
Sat = Me (Unit {0}) View

-- the voice rang the bell once more
abbrev pub Rang : (step : Step (Unit {0})) (old : Sat) (found : ℕ) (new : Sat) → Type 0
Rang step old found new = (new ≡ (record old.0 { rings = old.0.rings + 1; notes = new.0.notes }, old.1))
    × IsNoted old.0.workers Ring old.0.notes new.0.notes

-- it hears the bell exactly where that was rung, and so it does where it rang or heard it before; with all stakes it rang what it hears
abbrev pub Listened : (step : Step (Unit {0})) (old : Sat) (found : ℕ) (new : Sat) → Type 0
Listened step old found new = (new ≡ (record old.0 { heard = not (found == 0); notes = new.0.notes }, old.1))
    × IsNoted old.0.workers (Listen (not (found == 0))) old.0.notes new.0.notes × (old.0.heard ≡ true → not (found == 0) ≡ true)
    × (1 ≤ old.0.rings → not (found == 0) ≡ true) × (not (found == 0) ≡ true → old.0.stakes ≡ 2 ^ 32 → 1 ≤ old.0.rings)

-- the voice said of one of its workers that it writes no more
abbrev pub Stopped : (step : Step (Unit {0})) (old : Sat) (found : ℕ) (new : Sat) → Type 0
Stopped step old found new = (new ≡ (record old.0 { writes = old.0.writes - 1; notes = new.0.notes }, old.1))
    × IsNoted old.0.workers Stop old.0.notes new.0.notes

-- it is quiet exactly where the count is 0, and then it was said of all workers for which this voice spoke; with all stakes that is enough
abbrev pub Counted : (step : Step (Unit {0})) (old : Sat) (found : ℕ) (new : Sat) → Type 0
Counted step old found new = (new ≡ (record old.0 { quiet = found == 0; notes = new.0.notes }, old.1))
    × IsNoted old.0.workers (Count (found == 0)) old.0.notes new.0.notes × (old.0.quiet ≡ true → (found == 0) ≡ true)
    × ((found == 0) ≡ true → old.0.writes ≡ 0) × (old.0.stakes ≡ 2 ^ 32 → old.0.writes ≡ 0 → (found == 0) ≡ true)

-- the voice said of one of its workers that it leaves
abbrev pub Left : (step : Step (Unit {0})) (old : Sat) (found : ℕ) (new : Sat) → Type 0
Left step old found new = (new ≡ (record old.0 { there = old.0.there - 1; notes = new.0.notes }, old.1))
    × IsNoted old.0.workers Leave old.0.notes new.0.notes

-- all have left exactly where the count is 0, and then those did for which this voice spoke; with all stakes that is enough
abbrev pub Looked : (step : Step (Unit {0})) (old : Sat) (found : ℕ) (new : Sat) → Type 0
Looked step old found new = (new ≡ (record old.0 { gone = found == 0; notes = new.0.notes }, old.1))
    × IsNoted old.0.workers (Look (found == 0)) old.0.notes new.0.notes × (old.0.gone ≡ true → (found == 0) ≡ true)
    × ((found == 0) ≡ true → old.0.there ≡ 0) × (old.0.stakes ≡ 2 ^ 32 → old.0.there ≡ 0 → (found == 0) ≡ true)

-- nothing changed; a voice with all stakes that heard rang, and has noted all that was done
abbrev pub Learned : (step : Step (Unit {0})) (old : Sat) (found : ℕ) (new : Sat) → Type 0
Learned step old found new = (new ≡ (old.0, old.1)) × (old.0.heard ≡ true → old.0.stakes ≡ 2 ^ 32 → 1 ≤ old.0.rings)
    × (old.0.quiet ≡ true → old.0.writes ≡ 0) × (old.0.gone ≡ true → old.0.there ≡ 0)
    × (old.0.stakes ≡ 2 ^ 32 → IsHistory old.0.workers old.0.notes)

-- ---- splits and joins

-- the old voice: it has one stake less, and speaks for one worker less
abbrev pub left_view : (view : View) → View
left_view view = record view { stakes = view.stakes - 1; writes = view.writes - 1; there = view.there - 1 }

-- the new voice: it has one stake, speaks for one worker, and did nothing yet
abbrev pub right_view : (view : View) → View
right_view view = record {
  stakes = 1;
  workers = view.workers;
  rings = 0;
  heard = false;
  writes = 1;
  quiet = false;
  there = 1;
  gone = false;
  notes = [];
}

-- one voice after it took in another: it has what both had, with their notes in one order
abbrev pub joined : (view other : View) → View
joined view other = record {
  stakes = view.stakes + other.stakes;
  workers = view.workers;
  rings = view.rings + other.rings;
  heard = view.heard || other.heard;
  writes = view.writes + other.writes;
  quiet = view.quiet || other.quiet;
  there = view.there + other.there;
  gone = view.gone || other.gone;
  notes = merged view.notes other.notes;
}

-- what is left of a voice that another took in
abbrev pub spent : View
spent = record { stakes = 0; workers = 0; rings = 0; heard = false; writes = 0; quiet = false; there = 0; gone = false; notes = [] }

-- ---- voices as contracts see them

-- a voice, with the signals that it is of
pub record Known : Type 0 where
  pub signals : TableId
  pub stakes : ℕ
  pub workers : ℕ
  pub rings : ℕ
  pub heard : Bool
  pub writes : ℕ
  pub quiet : Bool
  pub there : ℕ
  pub gone : Bool
  pub notes : List Note

-- what a voice of these signals knows
abbrev pub known_by : (signals : TableId) (view : View) → Known
known_by signals view = record {
  signals = signals;
  stakes = view.stakes;
  workers = view.workers;
  rings = view.rings;
  heard = view.heard;
  writes = view.writes;
  quiet = view.quiet;
  there = view.there;
  gone = view.gone;
  notes = view.notes;
}

-- the first voice of signals of so many workers
abbrev pub first_voice : (signals : TableId) (workers : ℕ) → Known
first_voice signals workers = known_by signals (first_view workers)

-- a new one, and the one that it is split off
abbrev pub new_voice : (signals : TableId) (workers : ℕ) → Known
new_voice signals workers = record {
  signals = signals;
  stakes = 1;
  workers = workers;
  rings = 0;
  heard = false;
  writes = 1;
  quiet = false;
  there = 1;
  gone = false;
  notes = [];
}

-- the old voice after a new one is split off
abbrev pub left_voice : (voice : Known) → Known
left_voice voice = record voice { stakes = voice.stakes - 1; writes = voice.writes - 1; there = voice.there - 1 }

-- one voice after it took in another
abbrev pub both_voices : (into from : Known) → Known
both_voices into from = record {
  signals = into.signals;
  stakes = into.stakes + from.stakes;
  workers = into.workers;
  rings = into.rings + from.rings;
  heard = into.heard || from.heard;
  writes = into.writes + from.writes;
  quiet = into.quiet || from.quiet;
  there = into.there + from.there;
  gone = into.gone || from.gone;
  notes = merged into.notes from.notes;
}
