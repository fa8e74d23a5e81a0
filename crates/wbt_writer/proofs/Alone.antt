-- Loads that no check tells, and other calls that tell nothing.
use Rattle.std.proofs.Common.{◌≡◌, ℕ, ◌≤◌, List, [], refl, sym, ap, subst}
use Rattle.wbt_writer.proofs.Common.{MOST_PAGE_STEPS, times_in, Setting, Side, side_after, CpuJournal, Trace, Seats, Grew, SideWalked, Wrote, side_of, written_of, record_in, sight, Does, Keeps, LoadedSome, OnTable}
use Rattle.wbt_kit.proofs.Common.{writes_after}
use Rattle.wbt_fraction.specs.Several as fraction
use Rattle.wbt_journal.specs.Checks.{Stands}
use Rattle.wbt_journal.specs.Pages.{PagesAreNext}
use Rattle.wbt_run_laws.specs.Shown.{HaveWritten}
use Rattle.wbt_run_laws.proofs.Logging.{logged_nothing}
use Rattle.wbt_run_laws.proofs.Stepping.{untold_grows}
use Rattle.wbt_run_laws.proofs.Walking.{walked_none, walks_none}
use Rattle.wbt_queue.specs.Passes as queue
use Rattle.wbt_writer.specs.declared.work.WriterWork.{WriterWork}
use Rattle.wbt_writer.proofs.Acting.{does_act}

-- nothing was told, and no task went on
pub walked_nothing : (trace : Trace) (opened cpu : ℕ) (s : Side) → SideWalked trace opened cpu s [] s
walked_nothing trace opened cpu s = record { events = []; are = refl; walked = walked_none (Stands trace) (side_after trace opened) s }

pub wrote_nothing : (trace : Trace) (cpu : ℕ) (written : ℕ → ℕ) → Wrote trace cpu written [] written
wrote_nothing trace cpu written = walks_none HaveWritten (PagesAreNext trace) writes_after written

pub keeps_table : (cpu : ℕ) (old new : Seats) → OnTable cpu old new → (record_in cpu new).held ≡ (record_in cpu old).held
    → ((page : ℕ) → 1 ≤ times_in page (record_in cpu new).owed_rescans → 1 ≤ times_in page (record_in cpu old).owed_rescans) → (record_in cpu new).page_steps ≡ (record_in cpu old).page_steps → Keeps cpu old new
keeps_table cpu old new on held rescans steps = record {
  apart = on.apart;
  held = held;
  rescans = rescans;
  stakes = λ d. ap (λ (s : fraction.Seats). fraction.stakes_in d s.domains) on.share;
  rooms = λ d. ap (λ (s : fraction.Seats). fraction.room_in d s.domains) on.share;
  totals = ap (λ (s : fraction.Seats). s.totals) on.share;
  queues = λ d. ap (λ (s : queue.Seats). (queue.known_of d s).stakes) on.queue;
  few = λ low. subst (λ (n : ℕ). n ≤ MOST_PAGE_STEPS) (sym steps) low;
}

-- a call that tells nothing, and after which tasks and fractions are as they were
pub tells_nothing : (trace : Trace) (opened cpu : ℕ) (was is : WriterWork) (old new : Seats) (log : CpuJournal) → side_of is.tasks ≡ side_of was.tasks → written_of is.tasks ≡ written_of was.tasks
    → is.fractions.items ≡ was.fractions.items → Grew [] (record_in cpu old) (record_in cpu new) → new.share ≡ old.share → new.est ≡ old.est → Keeps cpu old new → Does trace opened cpu [] (sight was old log) (sight is new log)
tells_nothing trace opened cpu was is old new log side written fractions grew share_is est_is keeps = does_act trace opened cpu [] (sight was old log) (sight is new log) (record {
  quiet = tt;
  logged = logged_nothing log;
  grew = grew;
  side = record {
    events = [];
    are = refl;
    walked = record { allowed = tt; reached = sym side };
  };
  events_quiet = tt;
  wrote = subst (λ (w : ℕ → ℕ). Wrote trace cpu (written_of was.tasks) [] w) (sym written) (wrote_nothing trace cpu (written_of was.tasks));
  own = tt;
  share = share_is;
  est = est_is;
  fractions = fractions;
  keeps = keeps;
})

-- some loads
pub loads_alone : (trace : Trace) (opened cpu : ℕ) (set : Setting) (work : WriterWork) (old new : Seats) (log : CpuJournal) → LoadedSome set cpu old new → Does trace opened cpu [] (sight work old log) (sight work new log)
loads_alone trace opened cpu set work old new log some =
    let gets = some.loaded.gets in
    tells_nothing trace opened cpu work work old new log refl refl refl (untold_grows some.loads (record_in cpu old) (record_in cpu new) gets.gathered)
    some.loaded.on.share some.loaded.on.est
    (keeps_table cpu old new some.loaded.on gets.held (λ page owes. subst (λ (l : List ℕ). 1 ≤ times_in page l) gets.rescans owes) gets.gathered.page_steps)
