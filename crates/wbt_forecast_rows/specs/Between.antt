-- What happened between two states of a run, of which nothing was forgotten.
use Rattle.std.specs.Prelude.{◌≡◌, List, [], ◌∷◌, ◌++◌, length, map, drop}
use Rattle.wbt_journal.specs.declared.entry.CheckEntry.{CheckEntry}
use Rattle.wbt_journal.specs.declared.entry.Entry.{Entry}
use Rattle.wbt_journal.specs.declared.step.StepEntry.{StepEntry}
use Rattle.wbt_replay_moves.specs.Definition.State.{State}
use Rattle.wbt_replay_moves.specs.declared.state.Cpu.{Cpu}

-- ---- lists that grow at their ends

-- what a list has behind an earlier one
abbrev pub gained : {A : Type 0} (earlier later : List A) → List A
gained earlier later = drop (length earlier) later

-- what each of some lists has behind an earlier one, that of the first list first
abbrev pub all_gained : {A : Type 0} (earlier later : List (List A)) → List A
all_gained earlier [] = []
all_gained [] (list ∷ later) = list ++ all_gained [] later
all_gained (before ∷ earlier) (list ∷ later) = gained before list ++ all_gained earlier later

-- a list begins with an earlier one
abbrev pub HasGrown : {A : Type 0} (earlier later : List A) → Type 0
HasGrown earlier later = earlier ++ gained earlier later ≡ later

-- there are as many lists, and each begins with the earlier one
abbrev pub HaveGrown : {A : Type 0} (earlier later : List (List A)) → Type 0
HaveGrown [] [] = Unit {0}
HaveGrown [] (list ∷ later) = ⊥
HaveGrown (before ∷ earlier) [] = ⊥
HaveGrown (before ∷ earlier) (list ∷ later) = HasGrown before list × HaveGrown earlier later

-- ---- states

-- the entries that each CPU has written
abbrev pub entries_of : (cpus : List Cpu) → List (List Entry)
entries_of cpus = map (λ c. c.entries) cpus

-- the checks that each CPU has written
abbrev pub checks_of : (cpus : List Cpu) → List (List CheckEntry)
checks_of cpus = map (λ c. c.checks) cpus

-- the steps that were made between two states
abbrev pub steps_between : (first last : State) → List StepEntry
steps_between first last = gained first.steps last.steps

-- the entries that CPUs wrote between two states, those of CPU 0 first
abbrev pub entries_between : (first last : State) → List Entry
entries_between first last = all_gained (entries_of first.cpus) (entries_of last.cpus)

-- the checks that CPUs made between two states, those of CPU 0 first
abbrev pub checks_between : (first last : State) → List CheckEntry
checks_between first last = all_gained (checks_of first.cpus) (checks_of last.cpus)

-- One state comes after another: steps, entries and checks have only grown at their ends.
pub record IsAfter (first last : State) : Type 0 where
  pub steps : HasGrown first.steps last.steps
  pub entries : HaveGrown (entries_of first.cpus) (entries_of last.cpus)
  pub checks : HaveGrown (checks_of first.cpus) (checks_of last.cpus)
