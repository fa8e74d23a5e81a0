-- Allowances at numbers that were worked out by hand.
use Rattle.std.proofs.Common.{◌≡◌, ℕ, List, [], ◌∷◌, true, false, refl}
use Rattle.wbt_pause.specs.declared.decision.Decision.{Decision}
use Rattle.wbt_pause.specs.declared.decision.Kind.{Kind}
use Rattle.wbt_pause.specs.declared.decision.Kind.TheVariants.{Go, Wait}
use Rattle.wbt_pause.specs.declared.reads.Task.{Task}
use Rattle.wbt_task.specs.declared.allowance.CpuLocal.{CpuLocal}
use Rattle.wbt_task.specs.declared.allowance.Due.TheVariants.{Check, No}
use Rattle.wbt_task.specs.Allowance.{ended, first, page_after}
use Rattle.wbt_task.specs.declared.history.Event.{Event}
use Rattle.wbt_task.specs.declared.history.Event.TheVariants.{Checked, Ended, Wrote}
use Rattle.wbt_task.specs.declared.history.Writer.{Writer}
use Rattle.wbt_task.specs.Counts.{checks_due_in, counted, is_due}
use Rattle.wbt_task.specs.History.{cpu_after, cpu_step, new_cpu, new_writer}

abbrev local : (since leaks : ℕ) → CpuLocal
local since leaks = record { since_check = since; leaks = leaks }

abbrev writer : (dirtied allowance : ℕ) → Task
writer dirtied allowance = record { nr_dirtied = dirtied; nr_dirtied_pause = allowance; paused_when = 0 }

pub five_leaks_are_taken : page_after (local 0 5) first 31 false 1000 ≡ record { local = local 1 0; task = writer 6 32; due = No }
unfolding page_after first
five_leaks_are_taken = refl

pub sixteen_of_a_cpu : page_after (local 15 9) (writer 3 32) 31 false 16 ≡ record { local = local 0 9; task = writer 4 32; due = Check }
unfolding page_after
sixteen_of_a_cpu = refl

pub eight_of_a_marked_writer : page_after (local 3 0) (writer 7 32) 31 true 1000 ≡ record { local = local 0 0; task = writer 8 32; due = Check }
unfolding page_after
eight_of_a_marked_writer = refl

pub no_page_left : page_after (local 3 0) (writer 3 32) 0 false 1000 ≡ record { local = local 4 0; task = writer 4 32; due = Check }
unfolding page_after
no_page_left = refl

-- ---- histories of a CPU with two writers, where a check is due after 16 fresh writes and cap is 9

abbrev with : (dirtied allowance left : ℕ) → Writer
with dirtied allowance left = record { task = writer dirtied allowance; left = left; exceeded = false; due = No }

-- a writer dirties a page and ends, and the other takes it along with its own
abbrev goes_over : List Event
goes_over = Wrote 0 ∷ Ended 0 ∷ Wrote 1 ∷ []

pub a_page_goes_over : cpu_after 16 9 (new_cpu 9 2) goes_over ≡ record { local = local 2 0; writers = with 0 32 9 ∷ with 2 32 8 ∷ [] }
unfolding cpu_after cpu_step new_cpu new_writer page_after ended first
a_page_goes_over = refl

-- a check with its writer's new numbers
abbrev decision : (kind : Kind) (left : ℕ) (task : Task) → Decision
decision kind left task = record { kind = kind; pause = 5; left = left; task = task; exceeded = true }

-- it waits, and is asked again; then it goes on, marked, with one page of two left
abbrev asks_twice : List Event
asks_twice = Wrote 0 ∷ Checked 0 (decision Wait 0 (writer 0 0)) ∷ Checked 0 (decision Go 2 (writer 0 40)) ∷ Wrote 0 ∷ []

pub a_page_is_left : cpu_after 1 9 (new_cpu 9 1) asks_twice ≡ record {
  local = local 0 0;
  writers = record { task = writer 1 40; left = 1; exceeded = true; due = Check } ∷ [];
}
unfolding cpu_after cpu_step new_cpu new_writer page_after first
a_page_is_left = refl

pub every_second_is_due : checks_due_in 2 9 (new_cpu 9 2) (Wrote 0 ∷ Wrote 1 ∷ Wrote 0 ∷ Wrote 1 ∷ []) ≡ 2
unfolding checks_due_in is_due cpu_step new_cpu new_writer page_after first
every_second_is_due = refl

pub two_are_counted : counted (cpu_after 16 9 (new_cpu 9 2) goes_over) ≡ 2
unfolding cpu_after cpu_step new_cpu new_writer page_after ended first
two_are_counted = refl
