-- Workers of CPUs beside each other.
use Rattle.std.specs.Prelude.{◌≡◌, ℕ, ◌<◌, Bool, true, false, List, length, get_or, Option, Some}
use Rattle.atomic_table.specs.Seated.{TableId}
use Rattle.wbt_kit.specs.declared.kit.Kit.{Kit}
use Rattle.wbt_run_worker.specs.Answers.{ComesOut, EndsSo, Goes}
use Rattle.wbt_run_worker.specs.Course.{HasRun, Stance, end_of, stance_of}
use Rattle.wbt_run_worker.specs.Side.{IsSide}
use Rattle.wbt_run_worker.specs.Team.{Team, team_of}
use Rattle.wbt_run_worker.specs.Voices.{HasSpoken, MaySpeak}
use Rattle.wbt_run_worker.specs.Went.{StandsStay}
use Rattle.wbt_run_worker.specs.declared.worker.Worker.{Worker}
use Rattle.wbt_trace.specs.declared.trace.Trace.{Trace}

-- the CPU's writers and flushers, as contracts see them
abbrev pub team_in : {D : Type 0} (written : D → Option ℕ) (faults : D → ℕ) (worker : Worker D) → Team
team_in {D} written faults worker = team_of written faults worker.side

-- the trace of a worker
abbrev pub trace_in : {D : Type 0} (worker : Worker D) → Trace
trace_in {D} worker = worker.side.writers.trace

-- the CPU of a worker
abbrev pub cpu_in : {D : Type 0} (worker : Worker D) → ℕ
cpu_in {D} worker = worker.side.writers.cpu

-- the worker may take turns, and speak by the signals
pub record MayWork {D : Type 0} (signals : TableId) (written : D → Option ℕ) (faults : D → ℕ) (kit : Kit) (worker : Worker D) : Type 0 where
  pub side : IsSide (trace_in worker) (cpu_in worker) kit (team_in written faults worker) worker.seats
  pub voice : MaySpeak signals worker.writes worker.voice

-- where a worker stands between two turns: its team and its seats
abbrev pub stance_in : {D : Type 0} (written : D → Option ℕ) (faults : D → ℕ) (worker : Worker D) → Stance
stance_in written faults worker = stance_of written faults worker.side worker.seats

-- it took turns so far, until its side ended, or until it was to be served in turn
pub record HasGone {D : Type 0} (signals : TableId) (told : ℕ → Type 0) (said : ℕ → ℕ → Bool → Type 0) (written : D → Option ℕ) (faults : D → ℕ) (kit : Kit) (old new : Worker D)
    : Type 0 where
  pub goes : Goes told (trace_in old) (cpu_in old) kit (team_in written faults old) (team_in written faults new) old.seats new.seats
  pub stands : StandsStay old.side.posts.items new.side.posts.items
  pub comes : ComesOut said (trace_in old) (cpu_in old) kit (end_of new) (team_in written faults old) (team_in written faults new) new.seats
  pub run : HasRun told said kit (end_of new) (stance_in written faults old) (stance_in written faults new)
  pub speaks : HasSpoken signals new.writes (end_of new) old.voice new.voice

-- and its side has ended
pub record HasWorked {D : Type 0} (told : ℕ → Type 0) (said : ℕ → ℕ → Bool → Type 0) (written : D → Option ℕ) (faults : D → ℕ) (kit : Kit) (old new : Worker D)
    : Type 0 where
  pub goes : Goes told (trace_in old) (cpu_in old) kit (team_in written faults old) (team_in written faults new) old.seats new.seats
  pub stands : StandsStay old.side.posts.items new.side.posts.items
  pub ends : EndsSo said (trace_in old) (cpu_in old) kit new.side.end (team_in written faults old) (team_in written faults new) new.seats
  pub run : HasRun told said kit (Some new.side.end) (stance_in written faults old) (stance_in written faults new)
  pub speaks : HasSpoken old.voice.signals new.writes (Some new.side.end) old.voice new.voice

-- the worker's side has ended: it needn't be served in turn
abbrev pub HasEnded : {D : Type 0} (worker : Worker D) → Type 0
HasEnded worker = worker.in_turn ≡ false

-- a worker that is to be served in turn may go on
abbrev pub MayGoOn : {D : Type 0} (signals : TableId) (written : D → Option ℕ) (faults : D → ℕ) (kit : Kit) (worker : Worker D) → Type 0
MayGoOn {D} signals written faults kit worker = worker.in_turn ≡ true → MayWork signals written faults kit worker

-- it went on where it was to be served; else its side had ended, and nothing was done
pub record HasGoneOn {D : Type 0} (signals : TableId) (told : ℕ → Type 0) (said : ℕ → ℕ → Bool → Type 0) (written : D → Option ℕ) (faults : D → ℕ) (kit : Kit) (old new : Worker D)
    : Type 0 where
  pub went : old.in_turn ≡ true → HasGone signals told said written faults kit old new
  pub stays : old.in_turn ≡ false → new ≡ old

-- each of these may so, and each of these did so
abbrev pub AllMay : {W : Type 0} (may : W → Type 0) (workers : List W) → Type 0
AllMay {W} may workers = (n : ℕ) (other : W) → n < length workers → may (get_or workers n other)

-- each of these did so, by what it was and what it is
abbrev pub AllDid : {W : Type 0} (did : W → W → Type 0) (old new : List W) → Type 0
AllDid {W} did old new = (n : ℕ) (other : W) → n < length old → did (get_or old n other) (get_or new n other)

-- each worker may take turns, and each took turns until its side ended
abbrev pub AllMayWork : {D : Type 0} (signals : TableId) (written : D → Option ℕ) (faults : D → ℕ) (kit : Kit) (workers : List (Worker D)) → Type 0
AllMayWork {D} signals written faults kit workers = AllMay (λ (worker : Worker D). MayWork signals written faults kit worker) workers

-- each worker took turns until its side ended, or until it was to be served in turn
abbrev pub AllHaveGone : {D : Type 0} (signals : TableId) (told : ℕ → Type 0) (said : ℕ → ℕ → Bool → Type 0) (written : D → Option ℕ) (faults : D → ℕ) (kit : Kit) (old new : List (Worker D)) → Type 0
AllHaveGone {D} signals told said written faults kit old new = AllDid (λ (before behind : Worker D). HasGone signals told said written faults kit before behind) old new

-- each worker took turns until its side ended
abbrev pub AllHaveWorked : {D : Type 0} (told : ℕ → Type 0) (said : ℕ → ℕ → Bool → Type 0) (written : D → Option ℕ) (faults : D → ℕ) (kit : Kit) (old new : List (Worker D)) → Type 0
AllHaveWorked {D} told said written faults kit old new = AllDid (λ (before behind : Worker D). HasWorked told said written faults kit before behind) old new
