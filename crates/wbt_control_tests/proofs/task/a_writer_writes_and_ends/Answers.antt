use Rattle.std.proofs.Common.{◌≡◌, ◌∷◌, [], List, All, length, lit<, rules, subst, sym}
use Rattle.wbt_task.specs.declared.history.Event.{Event}
use Rattle.wbt_task.specs.declared.history.Event.TheVariants.{Ended, Wrote}
use Rattle.wbt_task.specs.declared.history.Writer.{Writer}
use Rattle.wbt_task.specs.Allowance.{first}
use Rattle.wbt_task.specs.Counts.{Settles}
use Rattle.wbt_task.specs.History.{Along, Cpu, HasRoom, IsOfWriter, cpu_step, new_writer}
use Rattle.wbt_task.proofs.Leaving.{room_is_kept}
use Rattle.wbt_control_tests.proofs.task.a_writer_writes_and_ends.Goals as goal

abbrev one_writer : (writer : Writer) → Cpu
one_writer writer = record { local = record { since_check = 0; leaks = 0 }; writers = writer ∷ [] }

abbrev events : List Event
events = Wrote 0 ∷ Ended 0 ∷ []

there : All (IsOfWriter 1) events
there = search rules

settles : Along Settles 16 9 (one_writer (new_writer 9)) events
unfolding Along
settles = (tt, (tt, tt))

has_room : (writer : Writer) → writer ≡ new_writer 9 → Along HasRoom 16 9 (one_writer writer) events
unfolding new_writer first
has_room writer is =
    subst (λ w. Along HasRoom 16 9 (one_writer w) events) (sym is)
    (room_is_kept 16 9 (one_writer (new_writer 9)) events there settles (lit< tt) (lit< tt))

pub run-requires-clause-room : goal.run-requires-clause-room
run-requires-clause-room g c = has_room c.new_writer.result c.new_writer.ensures
