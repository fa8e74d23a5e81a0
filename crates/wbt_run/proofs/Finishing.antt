-- From where the sides of all CPUs stand, with all notes together: the workers have worked as a lawful journal asks.
use Rattle.std.proofs.Common.{◌≡◌, ℕ, zero, suc, ◌<◌, ◌≤◌, min, Bool, true, false, List, [], ◌∷◌, ◌++◌, get_or, Option, Ok, sym, ap, ◌∙◌, subst}
use Rattle.std.proofs.Math.Path.{fun_ext}
use Rattle.wbt_run_worker.proofs.Common.{AreGathered, noted, owner_of, Each, contexts, domains, CpuJournal, Ending, TimerEntry, AreSeatsOf, IsKitOf, Limits, known_of, setting, Has, HasLog, Logged, Seated, Layout, IsLawful, Trace, Kit, Seats, IsTold, record_of, kit_is_opened, kinds_in, IsCutOff, IsTimerTurn, Notes, Shown}
use Rattle.wbt_run_seats.specs.Gathered.{no_notes}
use Rattle.wbt_kit.proofs.Common.{AllJoined, KeepsStakes, Note, first_limits, AreAllTaken}
use Rattle.wbt_fraction.specs.Several.{Seats as ShareSeats}
use Rattle.wbt_io.specs.Faults.{last_count}
use Rattle.wbt_journal.specs.Told.{told as told_by}
use Rattle.wbt_journal.specs.declared.journal.Ending.TheVariants as ending
use Rattle.wbt_published.specs.Publishing.{IsComplete as KnowsAll}
use Rattle.wbt_queue.specs.Passes as queue
use Rattle.wbt_run_worker.specs.Ticking.{LimitsAreTold as IsToldLine}
use Rattle.wbt_run_worker.specs.declared.side.CpuSide.{CpuSide}
use Rattle.wbt_table.specs.Layout.{domains as limits_of}
use Rattle.wbt_run_laws.specs.Closed.{first_lines, opening_lines}
use Rattle.wbt_run_drain.specs.Whole.{CpusWorked, EndingHasCause, HaveWorked, NoneIsDue, NotesTogether, TimerWorked}
use Rattle.wbt_run_drain.specs.Ends.{EndingIs, HaveEnded}
use Rattle.wbt_run_drain.specs.Standing.{AreAllCleaned, AreAllDone, AreStanding, WasStopped}
use Rattle.wbt_run_drain.specs.Teams.{logs_of}
use Rattle.wbt_run_drain.specs.Words.{IsTurnOrLook}
use Rattle.wbt_run_drain.proofs.Wording.{may_be_cut}
use Rattle.wbt_run_drain.proofs.Aged.{none_age}
use Rattle.wbt_run_drain.proofs.Queued.{nothing_waits}
use Rattle.wbt_run.specs.Finished.{HasFinished}
use Rattle.wbt_run.specs.Running.{AreHalted, HaveTakenTurns, TellMoments}
use Rattle.wbt_run_first.specs.Seated.{HasTicked, MakeAll}
use Rattle.wbt_run.proofs.Causes.{all_faults, eight_told, have_ended, last, none_failed, side_at, some_failed, some_spent}
use Rattle.wbt_run.proofs.Pausing.{all_pause_short}
use Rattle.wbt_run.proofs.Told.{all_written, are_cleaned, are_halted, none_due, none_waits}

-- ---- moments

all_joined : (P : TimerEntry → Type 0) (some more : List TimerEntry) → Each P some → Each P more → Each P (some ++ more)
all_joined P [] more one two = two
all_joined P (e ∷ some) more one two = (one.0, all_joined P some more one.1 two)

logs_told : {D : Type 0} (told : ℕ → Type 0) (sides : List (CpuSide D)) → Each (λ (side : CpuSide D). Each (IsTold told) (told_by side.log)) sides
    → Each (λ (log : CpuJournal). Each (IsTold told) (told_by log)) (logs_of sides)
logs_told told [] all = tt
logs_told told (side ∷ sides) all = (all.0, logs_told told sides all.1)

-- ---- the whole

-- what stands, what the timer did, and what came of the notes
pub record Comes {D : Type 0} (told : ℕ → Type 0) (said : ℕ → ℕ → Bool → Type 0) (written : D → Option ℕ) (faults : D → ℕ) (trace : Trace) (now : ℕ) (kit : Kit)
    (sides : List (CpuSide D)) (lines : List TimerEntry) (timer : ShareSeats) (before cleaned behind : Seats) : Type 0 where
  pub lawful : IsLawful trace
  pub moment : told now
  pub of : IsKitOf trace now kit
  pub standing : AreStanding told said written faults trace kit sides cleaned
  pub ticked : HasTicked told trace now kit lines timer before
  pub makes_all : MakeAll kit timer before.share
  pub stakes : KeepsStakes before.share.domains cleaned.share.domains
  pub same_timer : cleaned.cpu.timer ≡ before.cpu.timer
  pub same_timer_log : cleaned.cpu.timer_log ≡ before.cpu.timer_log
  pub records : behind.cpu ≡ cleaned.cpu
  pub queue : behind.queue ≡ cleaned.queue
  pub behind_at : AreSeatsOf kit behind
  pub joined : AllJoined timer.domains cleaned.share.domains behind.share.domains
  pub gathered : (notes : ℕ → Notes) → AreGathered trace trace.cpus (owner_of kit) notes no_notes cleaned → AreGathered trace trace.cpus (owner_of kit) notes (λ domain. noted timer domain) behind
  pub known : (context : ℕ) → context < contexts trace → (known_of context behind.est).publishes ≡ true → KnowsAll (known_of context behind.est)

-- each limit of the opening is of its moment
first_told : (told : ℕ → Type 0) (now : ℕ) (firsts : ℕ → Limits) (domain count : ℕ) → told now → Each (IsToldLine told) (first_lines firsts now domain count)
first_told told now firsts domain zero moment = tt
first_told told now firsts domain (suc count) moment = (moment, first_told told now firsts (suc domain) count moment)

module _ {D : Type 0} (told : ℕ → Type 0) (said : ℕ → ℕ → Bool → Type 0) (written : D → Option ℕ) (faults : D → ℕ) (trace : Trace) (now : ℕ) (kit : Kit)
    (sides : List (CpuSide D)) (lines : List TimerEntry) (timer : ShareSeats) (before cleaned behind : Seats)
    (comes : Comes told said written faults trace now kit sides lines timer before cleaned behind) where
  abbrev shown : ℕ → Shown
  shown = last told said written faults trace kit sides cleaned comes.standing

  abbrev notes : ℕ → Notes
  notes = comes.standing.told_all.notes

  cpus : CpusWorked trace now kit (logs_of sides) comes.standing.told_all.first shown notes behind
  cpus =
      let it = subst (λ (n : ℕ). CpusWorked trace n kit (logs_of sides) comes.standing.told_all.first shown notes cleaned) comes.of.moment comes.standing.told_all.together.cpus in
      record {
        many = it.many;
        each = it.each;
        firsts = it.firsts;
        held = λ cpu less. subst (λ (s : Seated). Has s.cpus cpu (shown cpu).held) (sym comes.records) (it.held cpu less);
      }

  timer_worked : TimerWorked trace now kit lines comes.ticked.last behind
  timer_worked =
      let it = comes.ticked.worked in
      record {
        left = it.left;
        is_left = it.is_left;
        first = it.first;
        first_held = it.first_held;
        side = it.side;
        is_first = it.is_first;
        ticks = it.ticks;
        logged = it.logged;
        stops = it.stops;
        since = it.since;
        held = ap (λ (s : Seated). s.timer) comes.records ∙ comes.same_timer ∙ it.held;
      }

  together : NotesTogether trace kit notes comes.ticked.last.shares behind
  together = record {
    gathered = subst (λ (f : (domain : ℕ) → List Note). AreGathered trace trace.cpus (owner_of kit) notes f behind) (sym (fun_ext comes.ticked.shares))
        (comes.gathered notes comes.standing.told_all.together.gathered);
    complete = λ domain less. comes.makes_all cleaned.share behind.share comes.stakes comes.joined comes.behind_at.share domain (subst (λ (n : ℕ). domain < n) (sym comes.of.domains_are) less);
    known = comes.known;
  }

  module _ (all_done : HaveEnded sides → AreAllDone sides) (all_clean : HaveEnded sides → AreAllCleaned trace cleaned) where
    ends_so : (ended : Ending) → EndingIs sides (Ok ended) → EndingHasCause trace shown ended
    ends_so ending.Faulted is = some_failed told said written faults trace kit sides cleaned comes.standing is.0
    ends_so ending.Spent is = (
      none_failed told said written faults trace kit sides cleaned comes.standing is.1,
      some_spent told said written faults trace kit sides cleaned comes.standing (ap (λ (l : Layout). (setting l).page_steps) comes.of.layout) is.0,
    )
    ends_so ending.Halted is = none_failed told said written faults trace kit sides cleaned comes.standing is.3
    ends_so ending.Done is =
        let all = have_ended told said written faults trace kit sides cleaned comes.standing is.0 is.1 is.2 is.3 is.4 in (
          none_failed told said written faults trace kit sides cleaned comes.standing is.3,
          all_written told said written faults trace kit sides cleaned comes.standing all comes.lawful,
          none_waits told said written faults trace kit sides cleaned comes.standing all
              (none_age told said written faults trace kit sides cleaned comes.standing all (all_done all)),
          are_cleaned told said written faults trace kit sides cleaned comes.standing all (all_clean all),
        )

    due_none : (ended : Ending) → EndingIs sides (Ok ended) → NoneIsDue trace shown ended
    due_none ending.Faulted is cpu less = tt
    due_none ending.Spent is cpu less = tt
    due_none ending.Halted is cpu less = tt
    due_none ending.Done is cpu less =
        none_due told said written faults trace kit sides cleaned comes.standing (have_ended told said written faults trace kit sides cleaned comes.standing is.0 is.1 is.2 is.3 is.4) cpu less

    pub have_worked : (ended : Ending) → EndingIs sides (Ok ended) → HaveWorked trace now kit (logs_of sides) lines ended behind
    have_worked ended is = record {
      first = comes.standing.told_all.first;
      last = shown;
      notes = notes;
      ticks = comes.ticked.last;
      cpus = cpus;
      timer_is = timer_worked;
      together = together;
      ends = ends_so ended is;
      none_due = due_none ended is;
    }

  moments : TellMoments told (logs_of sides) lines
  moments = record {
    cpus = logs_told told sides comes.standing.moments;
    timer = subst (Each (IsToldLine told)) (sym comes.ticked.logged)
        (all_joined (IsToldLine told) (opening_lines trace now (first_limits trace now)) comes.ticked.ticks (first_told told now (first_limits trace now) 0 (domains trace) comes.moment) comes.ticked.moments);
  }

  -- the records are the same
  stopped_behind : (cpu : ℕ) → WasStopped said cpu cleaned → WasStopped said cpu behind
  stopped_behind cpu was = record {
    steps = was.steps;
    answer = was.answer;
    made = subst (λ (s : Seated). min was.steps last_count ≤ (record_of cpu s.cpus).steps) (sym comes.records) was.made;
  }

  halted_behind : AreHalted said trace cleaned (logs_of sides) → AreHalted said trace behind (logs_of sides)
  halted_behind are = record {
    cpu = are.cpu;
    there = are.there;
    stopped = stopped_behind are.cpu are.stopped;
    each = λ task of on few. stopped_behind of (are.each task of on few);
  }

  -- their logs are the same
  cpu_turns : (cpu : ℕ) → cpu < trace.cpus → (log : List Logged) × HasLog behind.cpu.logs cpu log × IsCutOff (IsTurnOrLook (domains trace) cpu) (kinds_in log)
  cpu_turns cpu less =
      let n : ℕ = limits_of kit.throttle.layout in
      let other : CpuSide D = (side_at told said written faults trace kit sides cleaned comes.standing cpu less).side in
      let tells = comes.standing.turns cpu other less in (
        tells.0,
        subst (λ (s : Seated). HasLog s.logs cpu tells.0) (sym comes.records) tells.1,
        subst (λ (m : ℕ). IsCutOff (IsTurnOrLook m cpu) (kinds_in tells.0)) (kit_is_opened trace now kit comes.lawful comes.of).limits_are
            (may_be_cut n cpu (get_or sides cpu other).end (kinds_in tells.0) tells.2),
      )

  took_turns : HaveTakenTurns trace behind
  took_turns = record {
    cpus = cpu_turns;
    timer = let its = comes.ticked.turns in (
      its.0,
      ap (λ (s : Seated). s.timer_log) comes.records ∙ comes.same_timer_log ∙ its.1,
      subst (λ (m : ℕ). IsCutOff (IsTimerTurn m) (kinds_in its.0)) (kit_is_opened trace now kit comes.lawful comes.of).limits_are its.2,
    );
  }

  -- where the timer was refused memory nothing was cleaned, and nothing is said of how it ended
  pub finished : (refused : Bool) → (refused ≡ false → (HaveEnded sides → AreAllDone sides) × (HaveEnded sides → AreAllCleaned trace cleaned))
      → HasFinished told said written faults trace now kit sides lines refused behind
  finished refused cleans = record {
    worked = λ ended is not. have_worked (cleans not).0 (cleans not).1 ended is;
    pauses = all_pause_short trace now kit (logs_of sides) comes.standing.told_all.first shown notes behind cpus;
    moments = moments;
    disks = comes.standing.disks;
    failures = all_faults told said written faults trace kit sides cleaned comes.standing;
    faulted = λ is. eight_told told said written faults trace kit sides cleaned comes.standing is.0;
    halted = λ is. halted_behind (are_halted told said written faults trace kit sides cleaned comes.standing comes.lawful is);
    emptied = λ is not device low.
        let all = have_ended told said written faults trace kit sides cleaned comes.standing is.0 is.1 is.2 is.3 is.4 in
        subst AreAllTaken (sym (ap (λ (s : queue.Seats). queue.known_of device s) comes.queue))
        (nothing_waits told said written faults trace kit sides cleaned comes.standing ((cleans not).0 all) device low);
    turns = took_turns;
  }
