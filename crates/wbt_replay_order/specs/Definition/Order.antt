-- The order of a run: who makes the next move, and when the run ends.
use Rattle.std.specs.Prelude.{ℕ, zero, suc, ◌+◌, ◌-◌, min, Bool, true, false, not, ◌&&◌, ◌||◌, if◌then◌else◌, ◌==◌, nat_le, nat_lt, List, [], ◌∷◌, length, get_or, count_by, Option, Some, None}
use Rattle.wbt_trace.specs.declared.trace.Trace.{Trace}
use Rattle.wbt_rules.specs.Flusher.{has_landed}
use Rattle.wbt_replay_moves.specs.Definition.Perform.{make_step, make_move, make_timer_step, make_timer_move, begin_turn}
use Rattle.wbt_replay_moves.specs.Definition.State.{State, cpu_of, with_cpu, task_of, flusher_of, is_drained}
use Rattle.wbt_replay_moves.specs.Definition.Timer.{begin_timer, with_timer}
use Rattle.wbt_replay_moves.specs.declared.state.Actor.{Actor}
use Rattle.wbt_replay_moves.specs.declared.state.Actor.TheVariants as actor
use Rattle.wbt_replay_moves.specs.declared.state.Cpu.{Cpu}
use Rattle.wbt_replay_moves.specs.declared.state.Flusher.{Flusher}
use Rattle.wbt_replay_moves.specs.declared.state.ReplayJob.{ReplayJob}
use Rattle.wbt_replay_moves.specs.declared.state.ReplayJob.TheVariants as job
use Rattle.wbt_replay_moves.specs.declared.state.ReplayPhase.{ReplayPhase}
use Rattle.wbt_replay_moves.specs.declared.state.ReplayPhase.TheVariants as phase
use Rattle.wbt_replay_moves.specs.declared.state.Stretch.{Stretch}
use Rattle.wbt_replay_moves.specs.declared.state.Stretch.TheVariants as stretch
use Rattle.wbt_replay_moves.specs.declared.state.ReplayTask.{ReplayTask}
use Rattle.wbt_replay_moves.specs.declared.state.Whose.TheVariants as whose
use Rattle.wbt_replay_moves.specs.declared.todo.Step.{Step}
use Rattle.wbt_replay_moves.specs.declared.todo.TimerStep.{TimerStep}
use Rattle.wbt_replay_moves.specs.declared.todo.TimerTodo.{TimerTodo}
use Rattle.wbt_replay_moves.specs.declared.todo.TimerTodo.TheVariants as timer_todo
use Rattle.wbt_replay_moves.specs.declared.todo.Todo.{Todo}
use Rattle.wbt_replay_moves.specs.declared.todo.Todo.TheVariants as todo
use Rattle.wbt_replay_order.specs.declared.chance.Ahead.{Ahead}
use Rattle.wbt_replay_order.specs.declared.chance.Ahead.TheVariants as ahead
use Rattle.wbt_replay_order.specs.declared.chance.Chance.{Chance}
use Rattle.wbt_replay_order.specs.declared.chance.Chance.TheVariants as chance

-- ---- numbers that go round

-- the number after this one, where so many go round
abbrev pub after : (count n : ℕ) → ℕ
after count n = if nat_lt (n + 1) count then n + 1 else 0

-- ---- what comes next in a turn

-- what comes next in a turn of a CPU: a step, a silent move, or nothing
abbrev pub todo_ahead : (todos : List Todo) → Ahead
todo_ahead [] = ahead.Nothing
todo_ahead (todo.Step step ∷ more) = ahead.Step
todo_ahead (todo.Silent item ∷ more) = ahead.Silent

-- what comes next in the timer's turn
abbrev pub timer_todo_ahead : (todos : List TimerTodo) → Ahead
timer_todo_ahead [] = ahead.Nothing
timer_todo_ahead (timer_todo.Step step ∷ more) = ahead.Step
timer_todo_ahead (timer_todo.Silent item ∷ more) = ahead.Silent

-- A stopped CPU makes no move any more, nor does the timer in the drain.
abbrev pub cpu_ahead : (c : Cpu) → Ahead
cpu_ahead c = if c.stopped then ahead.Nothing else todo_ahead c.todo

-- what the timer does next
abbrev pub timer_ahead : (s : State) → Ahead
timer_ahead s = if is_drained s then ahead.Nothing else timer_todo_ahead s.timer.todo

-- what an actor does next in its turn
abbrev pub ahead_of : (actor : Actor) (s : State) → Ahead
ahead_of (actor.Cpu cpu) s = cpu_ahead (cpu_of cpu s)
ahead_of actor.Timer s = timer_ahead s

-- ---- which turn can begin

-- A task takes a turn where it hasn't ended and its rest has.
abbrev pub is_task_ready : (now : ℕ) (t : ReplayTask) → Bool
is_task_ready now t = not t.ended && nat_le t.rest now

-- A flusher takes one where its rest or flight has ended. In the drain it drops a rest that isn't kept.
abbrev pub is_phase_ready : (phase : ReplayPhase) (drained : Bool) (now : ℕ) → Bool
is_phase_ready (phase.Idle until kept) drained now = nat_le until now || (drained && not kept)
is_phase_ready (phase.Taken inode) drained now = true
is_phase_ready (phase.Scanning scan) drained now = true
is_phase_ready (phase.Flying inode pages until) drained now = has_landed until now
is_phase_ready phase.Finished drained now = false

-- the turn of the first task that is ready, of those of so many places from one on
unfoldable pub task_turn : (job : ℕ) (tasks : List ℕ) (s : State) (tries place : ℕ) → Chance
task_turn job tasks s zero place = chance.Nothing
task_turn job tasks s (suc tries) place =
    elim (is_task_ready s.now (task_of (get_or tasks place 0) s)) [
      | true ↦ chance.Begins job place
      | false ↦ task_turn job tasks s tries (after (length tasks) place)
    ]

-- the turn that a job can begin, which has a place among the CPU's
abbrev pub job_turn : (c : Cpu) (s : State) (place : ℕ) (job : ReplayJob) → Chance
job_turn c s place job.Writer = task_turn place c.tasks s (length c.tasks) c.next_task
job_turn c s place (job.Flusher flusher) =
    if is_phase_ready (flusher_of flusher s).phase (is_drained s) s.now then chance.Begins place 0 else chance.Nothing

-- a CPU's job by its place
abbrev pub job_at : (n : ℕ) (c : Cpu) → ReplayJob
job_at n c = get_or c.jobs n job.Writer

-- whether an actor can do nothing
abbrev pub is_nothing : (chance : Chance) → Bool
is_nothing chance.Nothing = true
is_nothing chance.GoesOn = false
is_nothing (chance.Begins job place) = false
is_nothing chance.TimerBegins = false

-- the turn of the first job that can begin one, of those of so many places from one on
unfoldable pub seek_job : (c : Cpu) (s : State) (tries place : ℕ) → Chance
seek_job c s zero place = chance.Nothing
seek_job c s (suc tries) place =
    elim (is_nothing (job_turn c s place (job_at place c))) [
      | true ↦ seek_job c s tries (after (length c.jobs) place)
      | false ↦ job_turn c s place (job_at place c)
    ]

-- from the job after that of the CPU's last turn
abbrev pub cpu_turn : (c : Cpu) (s : State) → Chance
cpu_turn c s = if c.stopped then chance.Nothing else seek_job c s (length c.jobs) c.next

-- the timer can begin a turn once its wait is over, but not in the drain
abbrev pub timer_turn : (s : State) → Chance
timer_turn s = if not (is_drained s) && nat_le s.timer.next s.now then chance.TimerBegins else chance.Nothing

-- the turn that an actor can begin
abbrev pub turn_at : (actor : Actor) (s : State) → Chance
turn_at (actor.Cpu cpu) s = cpu_turn (cpu_of cpu s) s
turn_at actor.Timer s = timer_turn s

-- ---- a move of an actor

-- No further step may be made.
abbrev pub is_full : (s : State) → Bool
is_full s = nat_le s.most (length s.steps)

-- the run's steps are spent
abbrev pub spend : (s : State) → State
spend s = record s { spent = true }

-- A CPU that has made so many steps makes no more.
abbrev pub is_halted : (halt : Option ℕ) (made : ℕ) → Bool
is_halted None made = false
is_halted (Some most) made = nat_le most made

-- whether a flusher is finished
abbrev pub is_finished : (phase : ReplayPhase) → Bool
is_finished phase.Finished = true
is_finished (phase.Idle until kept) = false
is_finished (phase.Taken inode) = false
is_finished (phase.Scanning scan) = false
is_finished (phase.Flying inode pages until) = false

-- the job is a flusher that isn't finished
abbrev pub is_working : (s : State) (job : ReplayJob) → Bool
is_working s job.Writer = false
is_working s (job.Flusher flusher) = not (is_finished (flusher_of flusher s).phase)

-- The CPU is stopped, with its flushers: it had a step to make.
abbrev pub stop : (cpu : ℕ) (s : State) → State
stop cpu s = record (with_cpu cpu (record (cpu_of cpu s) { stopped = true }) s) {
  stopped = s.stopped + 1;
  working = s.working - count_by (is_working s) (cpu_of cpu s).jobs;
}

-- a CPU makes its next step; it stops instead at its halt number, and where no step is left the run is spent
abbrev pub step_or_stop : (trace : Trace) (cpu : ℕ) (step : Step) (rest : List Todo) (s : State) → State
step_or_stop trace cpu step rest s =
    if is_halted trace.halt (cpu_of cpu s).made then stop cpu s
    else (if is_full s then spend s
    else make_step trace cpu step (with_cpu cpu (record (cpu_of cpu s) { todo = rest; made = (cpu_of cpu s).made + 1 }) s))

-- a CPU makes the next move of its turn, a step or a silent move
abbrev pub cpu_on : (trace : Trace) (cpu : ℕ) (todos : List Todo) (s : State) → State
cpu_on trace cpu [] s = s
cpu_on trace cpu (todo.Step step ∷ rest) s = step_or_stop trace cpu step rest s
cpu_on trace cpu (todo.Silent item ∷ rest) s = make_move trace cpu item (with_cpu cpu (record (cpu_of cpu s) { todo = rest }) s)

-- the timer makes its next step; where no step is left the run is spent
abbrev pub timer_step_or_end : (trace : Trace) (step : TimerStep) (rest : List TimerTodo) (s : State) → State
timer_step_or_end trace step rest s =
    if is_full s then spend s else make_timer_step trace step (with_timer (record s.timer { todo = rest }) s)

-- the timer makes the next move of its turn, a step or a silent move
abbrev pub timer_on : (trace : Trace) (todos : List TimerTodo) (s : State) → State
timer_on trace [] s = s
timer_on trace (timer_todo.Step step ∷ rest) s = timer_step_or_end trace step rest s
timer_on trace (timer_todo.Silent item ∷ rest) s = make_timer_move item (with_timer (record s.timer { todo = rest }) s)

-- The actor makes the next move of its turn.
abbrev pub go_on : (trace : Trace) (actor : Actor) (s : State) → State
go_on trace (actor.Cpu cpu) s = cpu_on trace cpu (cpu_of cpu s).todo s
go_on trace actor.Timer s = timer_on trace s.timer.todo s

-- A CPU begins a turn of a job, after which the next one is sought; the writer side likewise one of a task.
abbrev pub begin_job : (trace : Trace) (cpu place : ℕ) (job : ReplayJob) (c : Cpu) (s : State) → State
begin_job trace cpu place job.Writer c s =
    begin_turn trace cpu (whose.Task (get_or c.tasks place 0))
    (with_cpu cpu (record c { next_task = after (length c.tasks) place }) s)
begin_job trace cpu place (job.Flusher flusher) c s = begin_turn trace cpu (whose.Flusher flusher) (with_cpu cpu c s)

-- The timer has no jobs.
abbrev pub begin : (trace : Trace) (actor : Actor) (job place : ℕ) (s : State) → State
begin trace (actor.Cpu cpu) job place s =
    begin_job trace cpu place (job_at job (cpu_of cpu s)) (record (cpu_of cpu s) { next = after (length (cpu_of cpu s).jobs) job }) s
begin trace actor.Timer job place s = s

-- ---- the order lines

-- the state with these order lines still to follow
abbrev pub with_orders : (orders : List Stretch) (s : State) → State
with_orders orders s = record s { orders = orders }

-- The line's actor begins a turn. Where it can't, the line is done.
abbrev pub begin_or_drop : (trace : Trace) (actor : Actor) (found : Chance) (more : List Stretch) (s : State) → State
begin_or_drop trace actor chance.Nothing more s = with_orders more s
begin_or_drop trace actor chance.GoesOn more s = go_on trace actor s
begin_or_drop trace actor (chance.Begins job place) more s = begin trace actor job place s
begin_or_drop trace actor chance.TimerBegins more s = begin_timer s

-- After its steps the line is done, but what follows the last one without a step is still done.
abbrev pub follow : (trace : Trace) (actor : Actor) (steps : ℕ) (next : Ahead) (more : List Stretch) (s : State) → State
follow trace actor steps ahead.Silent more s = go_on trace actor s
follow trace actor zero ahead.Step more s = with_orders more s
follow trace actor (suc steps) ahead.Step more s = go_on trace actor (with_orders (stretch.Steps actor steps ∷ more) s)
follow trace actor zero ahead.Nothing more s = with_orders more s
follow trace actor (suc steps) ahead.Nothing more s = begin_or_drop trace actor (turn_at actor s) more s

-- ---- the clock

-- the least moment after this one among those that were found and one more
abbrev pub sooner : (now : ℕ) (found : Option ℕ) (until : ℕ) → Option ℕ
sooner now None until = if nat_lt now until then Some until else None
sooner now (Some moment) until = if nat_lt now until then Some (min until moment) else Some moment

-- A task's rest ends, unless it has ended itself; a flusher's rest or flight ends; the timer's wait ends, unless all tasks have.
abbrev pub task_sooner : (now : ℕ) (found : Option ℕ) (t : ReplayTask) → Option ℕ
task_sooner now found t = if t.ended then found else sooner now found t.rest

-- the sooner of a moment that was found and the end of a flusher's rest or flight
abbrev pub phase_sooner : (now : ℕ) (found : Option ℕ) (phase : ReplayPhase) → Option ℕ
phase_sooner now found (phase.Idle until kept) = sooner now found until
phase_sooner now found (phase.Taken inode) = found
phase_sooner now found (phase.Scanning scan) = found
phase_sooner now found (phase.Flying inode pages until) = sooner now found until
phase_sooner now found phase.Finished = found

-- the sooner of a moment that was found and the ends of the tasks' rests
unfoldable pub tasks_sooner : (now : ℕ) (found : Option ℕ) (tasks : List ReplayTask) → Option ℕ
tasks_sooner now found [] = found
tasks_sooner now found (t ∷ ts) = tasks_sooner now (task_sooner now found t) ts

-- the sooner of a moment that was found and the ends of the flushers' rests and flights
unfoldable pub flushers_sooner : (now : ℕ) (found : Option ℕ) (flushers : List Flusher) → Option ℕ
flushers_sooner now found [] = found
flushers_sooner now found (f ∷ fs) = flushers_sooner now (phase_sooner now found f.phase) fs

-- the sooner of a moment that was found and the end of the timer's wait
abbrev pub timer_sooner : (s : State) (found : Option ℕ) → Option ℕ
timer_sooner s found = if is_drained s then found else sooner s.now found s.timer.next

-- the next moment at which a rest, a flight or the timer's wait ends; none where nothing is waited for
abbrev pub next_moment : (s : State) → Option ℕ
next_moment s = timer_sooner s (flushers_sooner s.now (tasks_sooner s.now None s.tasks) s.flushers)

-- Then it is nobody's turn, and the rotation starts again with CPU 0.
abbrev pub at_moment : (found : Option ℕ) (s : State) → State
at_moment None s = s
at_moment (Some moment) s = record s { now = moment; rotation = None }

-- the clock moves to the next moment at which something ends, if there is one
abbrev pub move_clock : (s : State) → State
move_clock s = at_moment (next_moment s) s

-- ---- the rotation

-- who has a place in the rotation: the CPUs by number, and then the timer
abbrev pub actor_at : (place : ℕ) (s : State) → Actor
actor_at place s = if nat_lt place (length s.cpus) then actor.Cpu place else actor.Timer

-- The place that comes after a turn. After the timer's, and where it was nobody's, CPU 0 comes.
abbrev pub place_after : (turn : Option Actor) (s : State) → ℕ
place_after None s = 0
place_after (Some (actor.Cpu cpu)) s = if nat_lt cpu (length s.cpus) then cpu + 1 else 0
place_after (Some actor.Timer) s = 0

-- what an actor can do whose turn comes
abbrev pub chance_by : (next : Ahead) (actor : Actor) (s : State) → Chance
chance_by ahead.Step actor s = chance.GoesOn
chance_by ahead.Silent actor s = chance.GoesOn
chance_by ahead.Nothing actor s = turn_at actor s

-- what an actor can do now
abbrev pub chance_of : (actor : Actor) (s : State) → Chance
chance_of actor s = chance_by (ahead_of actor s) actor s

-- an actor does what it can
abbrev pub take : (trace : Trace) (actor : Actor) (found : Chance) (s : State) → State
take trace actor chance.Nothing s = s
take trace actor chance.GoesOn s = go_on trace actor s
take trace actor (chance.Begins job place) s = begin trace actor job place s
take trace actor chance.TimerBegins s = begin_timer s

-- It is the actor's turn in the rotation.
abbrev pub take_turn : (trace : Trace) (actor : Actor) (s : State) → State
take_turn trace actor s = take trace actor (chance_of actor s) (record s { rotation = Some actor })

-- The first actor that can has its turn, of those at so many places from one on. Where none can, the clock moves to the next
-- moment at which something ends.
unfoldable pub seek_turn : (trace : Trace) (tries place : ℕ) (s : State) → State
seek_turn trace zero place s = move_clock s
seek_turn trace (suc tries) place s =
    elim (is_nothing (chance_of (actor_at place s) s)) [
      | true ↦ seek_turn trace tries (after (length s.cpus + 1) place) s
      | false ↦ take_turn trace (actor_at place s) s
    ]

-- the next actor in the rotation has its turn, or the clock moves
abbrev pub next_turn : (trace : Trace) (s : State) → State
next_turn trace s = seek_turn trace (length s.cpus + 1) (place_after s.rotation s) s

-- An actor finishes its turn before the next one has its own.
abbrev pub finish_turn : (trace : Trace) (actor : Actor) (next : Ahead) (s : State) → State
finish_turn trace actor ahead.Step s = go_on trace actor s
finish_turn trace actor ahead.Silent s = go_on trace actor s
finish_turn trace actor ahead.Nothing s = next_turn trace s

-- the rotation goes on: the actor whose turn it is finishes it, or the next one has its turn
abbrev pub rotate_from : (trace : Trace) (turn : Option Actor) (s : State) → State
rotate_from trace None s = next_turn trace s
rotate_from trace (Some actor) s = finish_turn trace actor (ahead_of actor s) s

-- a move by rotation
abbrev pub rotate : (trace : Trace) (s : State) → State
rotate trace s = rotate_from trace s.rotation s

-- ---- runs

-- The clock moves by so many ticks.
abbrev pub tick : (ticks : ℕ) (more : List Stretch) (s : State) → State
tick ticks more s = record s { now = s.now + ticks; orders = more }

-- one move by the first order line, or by rotation where no line is left
abbrev pub advance_by : (trace : Trace) (orders : List Stretch) (s : State) → State
advance_by trace [] s = rotate trace s
advance_by trace (stretch.Tick ticks ∷ more) s = tick ticks more s
advance_by trace (stretch.Steps actor steps ∷ more) s = follow trace actor steps (ahead_of actor s) more s

-- one move: first by the order lines, then by rotation
abbrev pub advance : (trace : Trace) (s : State) → State
advance trace s = advance_by trace s.orders s

-- No further step may be made; or every CPU is stopped; or all tasks have ended, and the flushers of all other CPUs are finished.
abbrev pub is_ended : (s : State) → Bool
is_ended s = s.spent || (s.stopped == length s.cpus || (s.running == 0 && s.working == 0))

-- at most so many moves
unfoldable pub run : (trace : Trace) (n : ℕ) (s : State) → State
run trace zero s = s
run trace (suc n) s = elim (is_ended s) [ true ↦ s | false ↦ run trace n (advance trace s) ]
