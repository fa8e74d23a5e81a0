-- What the sums of a run's journal say.
use Rattle.std.specs.Prelude.{◌≡◌, ℕ, ◌+◌, ◌≤◌, Bool, true, false, List, [], sum_by, count_by}
use Rattle.wbt_book.specs.declared.event.Event.{Event}
use Rattle.wbt_book.specs.declared.event.Event.TheVariants.{Absorb}
use Rattle.wbt_journal.specs.Effects.{event_of, of_part}
use Rattle.wbt_journal.specs.Text.{done_of, fresh_of}
use Rattle.wbt_journal.specs.Told.{Told, told}
use Rattle.wbt_journal.specs.declared.entry.CpuJournal.{CpuJournal}
use Rattle.wbt_journal.specs.declared.journal.Journal.{Journal}
use Rattle.wbt_run_drain.specs.Teams.{handed_over}

-- an entry that gives a page back which was dirty again
abbrev pub absorbs_one : (event : Event) → Bool
absorbs_one (Absorb page) = true
absorbs_one other = false

-- whether an entry gives a page back which was dirty again
abbrev pub is_absorption : (entry : Told) → Bool
is_absorption entry = of_part false absorbs_one (event_of entry)

-- how many dirtyings were absorbed
abbrev pub absorbed_of : (parts : List CpuJournal) → ℕ
absorbed_of parts = sum_by (λ (part : CpuJournal). count_by is_absorption (told part)) parts

-- The disks wrote every page that was completed. Where no page is left, they wrote no other, and each dirtying was completed or absorbed.
pub record AddsUp (j : Journal) : Type 0 where
  pub handed : done_of j.cpus ≤ handed_over j.cpus
  pub cleaned : j.left ≡ [] → fresh_of j.cpus ≡ done_of j.cpus + absorbed_of j.cpus
  pub no_more : j.left ≡ [] → handed_over j.cpus ≡ done_of j.cpus
