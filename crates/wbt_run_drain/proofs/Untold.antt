-- Steps that no entry tells leave the sides of all CPUs standing where they stood.
use Rattle.std.proofs.Common.{◌≡◌, inl, ℕ, ◌<◌, ◌≤◌, Bool, List, [], get_or, Option, refl, sym, ap, ◌∙◌, subst, arith, append-nil}
use mathlib.Core.Logic.{dite}
use lib.ListN.{get_elem?}
use native.Mathlib.Decide.{ℕ_discrete}
use Rattle.wbt_run_worker.proofs.Common.{absorbs, completes, dirties, times, total_same, CpuRecord, contexts, domains, Told, AreSeatsOf, HasCpu, HasNoPageSteps, HoldsAll, setting, Layout, Has, Seated, Trace, first_notes, owner_of, Kit, Seats, Team, owed_in, owed_totals, IsApart, firsts_of, record_of, record_is, Grew, NotedSince, Shown, first_shown, noted_more, noted_now}
use Rattle.wbt_run_seats.specs.Gathered.{AreGatheredIn}
use Rattle.wbt_fraction.specs.Several as fraction
use Rattle.wbt_journal.specs.Told.{told as told_by}
use Rattle.wbt_published.specs.Passes as est
use Rattle.wbt_run_worker.specs.declared.side.CpuSide.{CpuSide}
use Rattle.wbt_run_worker.specs.declared.side.End.{End}
use Rattle.wbt_run_worker.specs.declared.side.End.TheVariants.{Ended}
use Rattle.wbt_run_worker.proofs.Backing.{Grown, backed_still}
use Rattle.wbt_run_worker.proofs.Lists.{each_at}
use Rattle.std.specs.List.{sum_by}
use Rattle.wbt_run_steps.specs.Inodes.{OnlyQueue}
use Rattle.wbt_queue.specs.Passes.{known_of}
use Rattle.wbt_run_steps.specs.Queues.{PutsMore}
use Rattle.wbt_run_steps.proofs.Logging.{none_as}
use Rattle.wbt_table.specs.Layout.{domains as limits_of}
use Rattle.wbt_run_laws.proofs.Growing.{by_nothing}
use Rattle.wbt_run_drain.specs.Whole.{CpuWorked, log_at}
use Rattle.wbt_run_drain.specs.Standing.{AreQueued, AreStanding, HaveTold, IsCleanedIn, TellTurns, WentOn}
use Rattle.wbt_run_drain.specs.Ends.{HasEnded, HaveEnded}
use Rattle.wbt_run_drain.specs.Words.{TellsTurns}
use Rattle.wbt_run_drain.specs.Swept.{IsUntold, StepsUntold}
use Rattle.wbt_run_drain.specs.Teams.{logs_of, shown_at, teams_of}
use Rattle.wbt_run_drain.proofs.Cleaned.{held_all}
use Rattle.wbt_run_drain.proofs.Elsewhere.{KeepsSide, side_still}
use Rattle.wbt_run_drain.proofs.Wording.{looks_more, tells_else}

untold_same : (r : CpuRecord) → IsUntold r r
untold_same r = record {
  grew = by_nothing r;
  made = omega arith;
  held = refl;
  debts = refl;
  rescans = λ page owes. owes;
  marks = λ inode owes. owes;
}

-- a put is no step
pub put_untold : (kit : Kit) (old new : Seats) (r : CpuRecord) → HasCpu 0 r old → OnlyQueue old new → AreSeatsOf kit new → StepsUntold 0 kit old new
put_untold kit old new r has only are =
    let here : Has old.cpu.cpus 0 (record_of 0 old.cpu.cpus) = subst (λ (q : CpuRecord). Has old.cpu.cpus 0 q) (sym (record_is old.cpu.cpus 0 r has)) has in
    record {
      seats_are = are;
      has = subst (λ (s : Seated). Has s.cpus 0 (record_of 0 s.cpus)) (sym only.cpu) here;
      apart = subst (λ (s : Seated). IsApart 0 old.cpu s) (sym only.cpu) (record { others = λ c q other had. had; no_more = λ c q other had. had; timer = refl; layout = refl });
      steps = subst (λ (s : Seated). IsUntold (record_of 0 old.cpu.cpus) (record_of 0 s.cpus)) (sym only.cpu) (untold_same (record_of 0 old.cpu.cpus));
      kinds = ([], inl refl, none_as 0 old new only.cpu);
      share = only.share;
      est = only.est;
    }

-- and no log tells one
pub turns_put : {D : Type 0} (trace : Trace) (kit : Kit) (sides : List (CpuSide D)) (old new : Seats) → OnlyQueue old new → TellTurns kit trace.cpus sides old
    → TellTurns kit trace.cpus sides new
turns_put {D} trace kit sides old new only turns cpu other less =
    tells_else (limits_of kit.throttle.layout) cpu (get_or sides cpu other).end old new (ap (λ (s : Seated). get_elem? s.logs cpu) only.cpu) (turns cpu other less)

module _ {D : Type 0} (told : ℕ → Type 0) (said : ℕ → ℕ → Bool → Type 0) (written : D → Option ℕ) (faults : D → ℕ) (trace : Trace) (kit : Kit)
    (sides : List (CpuSide D)) (stepper : ℕ) (old new : Seats) (cpus_are : kit.throttle.layout.cpus ≡ trace.cpus) (there : stepper < trace.cpus)
    (untold : StepsUntold stepper kit old new) (stands : AreStanding told said written faults trace kit sides old) where
  abbrev was : ℕ → CpuRecord
  was cpu = record_of cpu old.cpu.cpus

  abbrev is : ℕ → CpuRecord
  is cpu = record_of cpu new.cpu.cpus

  -- ---- records

  had : (cpu : ℕ) → cpu < trace.cpus → HasCpu cpu (was cpu) old
  had = held_all told said written faults trace kit sides old cpus_are stands

  has : (cpu : ℕ) → cpu < trace.cpus → HasCpu cpu (is cpu) new
  has cpu less = dite (ℕ_discrete cpu stepper)
      (λ same. subst (λ (k : ℕ). HasCpu k (is k) new) (sym same) untold.has)
      (λ other. let h = untold.apart.others cpu (was cpu) other (had cpu less) in
      subst (λ (r : CpuRecord). HasCpu cpu r new) (sym (record_is new.cpu.cpus cpu (was cpu) h)) h)

  steps : (cpu : ℕ) → cpu < trace.cpus → IsUntold (was cpu) (is cpu)
  steps cpu less = dite (ℕ_discrete cpu stepper)
      (λ same. subst (λ (k : ℕ). IsUntold (was k) (is k)) (sym same) untold.steps)
      (λ other. let h = untold.apart.others cpu (was cpu) other (had cpu less) in
      subst (λ (r : CpuRecord). IsUntold (was cpu) r) (sym (record_is new.cpu.cpus cpu (was cpu) h)) (untold_same (was cpu)))

  all_held : HoldsAll new.cpu
  all_held = record {
    cpus = λ cpu less.
        let many : new.cpu.layout.cpus ≡ trace.cpus = ap (λ l. l.cpus) untold.seats_are.cpu.layout ∙ cpus_are in
        (is cpu, has cpu (subst (λ (n : ℕ). cpu < n) many less));
    timer = (stands.all_held.timer.0, untold.apart.timer ∙ stands.all_held.timer.1);
  }

  -- ---- sides

  spent_still : (cpu : ℕ) → cpu < trace.cpus → HasNoPageSteps (setting kit.throttle.layout) cpu old.cpu → HasNoPageSteps (setting kit.throttle.layout) cpu new.cpu
  spent_still cpu less spent =
      let same : was cpu ≡ spent.0 = record_is old.cpu.cpus cpu spent.0 spent.1 in
      let before : kit.throttle.layout.page_steps ≤ (was cpu).page_steps = subst (λ (r : CpuRecord). kit.throttle.layout.page_steps ≤ r.page_steps) (sym same) spent.2 in
      let grew = (steps cpu less).grew.page_steps in
      (is cpu, has cpu less, omega arith)

  keeps : (cpu : ℕ) → cpu < trace.cpus → KeepsSide cpu kit old new
  keeps cpu less = let it = steps cpu less in record {
    made = it.made;
    held = it.held;
    debts = it.debts;
    rescans = it.rescans;
    marks = it.marks;
    spent = spent_still cpu less;
    right = λ context. ap (λ (pass : est.Seats). (est.known_of context pass).publishes) untold.est;
  }

  -- ---- what they told

  abbrev teams : List Team
  teams = teams_of written faults sides

  abbrev before : HaveTold trace kit teams (logs_of sides) old
  before = stands.told_all

  abbrev last : ℕ → Shown
  last cpu = record (before.last cpu) { held = is cpu }

  module _ (cpu : ℕ) (less : cpu < trace.cpus) where
    abbrev opened : ℕ
    opened = kit.published.moment

    worked : CpuWorked trace opened cpu (before.first cpu) (log_at (logs_of sides) cpu) (before.last cpu) (before.notes cpu)
    worked = before.together.cpus.each cpu less

    now : NotedSince trace opened cpu [] (before.last cpu) (before.last cpu) (before.notes cpu) (before.notes cpu)
    now = noted_now trace opened cpu (before.last cpu) (before.notes cpu)

    grown_here : Grew [] (before.last cpu).held (is cpu)
    grown_here = subst (λ (r : CpuRecord). Grew [] r (is cpu)) (record_is old.cpu.cpus cpu (before.last cpu).held (before.together.cpus.held cpu less)) (steps cpu less).grew

    noted : NotedSince trace opened cpu [] (before.last cpu) (last cpu) (before.notes cpu) (before.notes cpu)
    noted = record {
      since = record {
        grew = grown_here;
        held = grown_here.triples;
        firsts_stay = refl;
        side = now.since.side;
        wrote = now.since.wrote;
        flew = now.since.flew;
        waited = now.since.waited;
        own = tt;
      };
      shares = now.shares;
      estimates = now.estimates;
      decided = now.decided;
    }

    worked_still : CpuWorked trace opened cpu (before.first cpu) (log_at (logs_of sides) cpu) (last cpu) (before.notes cpu)
    worked_still = record {
      names = worked.names;
      since = subst (λ (es : List Told). NotedSince trace opened cpu es (first_shown trace (firsts_of (before.first cpu))) (last cpu) (first_notes (before.first cpu)) (before.notes cpu))
          (append-nil (told_by (log_at (logs_of sides) cpu)))
          (noted_more trace opened cpu (told_by (log_at (logs_of sides) cpu)) [] (first_shown trace (firsts_of (before.first cpu))) (before.last cpu) (last cpu) (first_notes (before.first cpu))
          (before.notes cpu) (before.notes cpu) worked.since noted);
    }

  told_still : HaveTold trace kit teams (logs_of sides) new
  told_still = record {
    first = before.first;
    last = last;
    notes = before.notes;
    shows = λ cpu other less. ap (λ (s : Shown). record s { held = is cpu }) (before.shows cpu other less)
        ∙ ap (λ (key : Layout). record (shown_at trace cpu (get_or teams cpu other) new) { firsts = (setting key).firsts }) (stands.seats_are.cpu.layout ∙ sym untold.seats_are.cpu.layout);
    together = record {
      cpus = record {
        many = before.together.cpus.many;
        each = worked_still;
        firsts = before.together.cpus.firsts;
        held = has;
      };
      gathered = subst (λ (s : fraction.Seats). AreGatheredIn trace trace.cpus (owner_of kit) before.notes (λ domain. []) s new.est) (sym untold.share)
          (subst (λ (s : est.Seats). AreGatheredIn trace trace.cpus (owner_of kit) before.notes (λ domain. []) old.share s) (sym untold.est) before.together.gathered);
    };
  }

  -- ---- all of it

  grown : Grown stepper [] old new
  grown = record {
    long = stands.seats_are.each_cpu ∙ sym untold.seats_are.each_cpu;
    had = (was stepper, had stepper there);
    has = (is stepper, untold.has);
    apart = untold.apart;
    of_writers = tt;
    grew = untold.steps.grew;
    few = λ low. let same = untold.steps.grew.page_steps in omega arith;
    rooms = λ domain. ap (λ (s : fraction.Seats). fraction.room_in domain s.domains) untold.share;
    totals = ap (λ (s : fraction.Seats). s.totals) untold.share;
  }

  -- where no side was halted the steps are words after those that each log told
  pub turns_still : HaveEnded sides → TellTurns kit trace.cpus sides new
  turns_still ended cpu other less =
      let end_is : (get_or sides cpu other).end ≡ Ended = (each_at HasEnded sides cpu other (omega (arith, less, stands.many)) ended).ended in
      let n : ℕ = limits_of kit.throttle.layout in
      let tells : TellsTurns n cpu Ended old = subst (λ (e : End). TellsTurns n cpu e old) end_is (stands.turns cpu other less) in
      subst (λ (e : End). TellsTurns n cpu e new) (sym end_is) (dite (ℕ_discrete cpu stepper)
      (λ same. subst (λ (k : ℕ). TellsTurns n k Ended new) (sym same) (looks_more n stepper old new (subst (λ (k : ℕ). TellsTurns n k Ended old) same tells) untold.kinds))
      (λ ne. tells_else n cpu Ended old new (untold.kinds.2.others cpu ne) tells))

  pub still_standing : AreQueued written faults trace kit sides new → TellTurns kit trace.cpus sides new → AreStanding told said written faults trace kit sides new
  still_standing queued turns = record {
    many = stands.many;
    seats_are = untold.seats_are;
    all_held = all_held;
    told_all = told_still;
    each = λ cpu other less. side_still said written faults trace cpu kit (get_or sides cpu other) old new (keeps cpu less) (stands.each cpu other less);
    backed = backed_still stepper [] old new grown (domains trace) (contexts trace) (λ domain. sum_by (λ (team : Team). owed_in team.posts domain) teams)
        (λ context. sum_by (λ (team : Team). owed_totals team.posts context) teams) stands.backed;
    moments = stands.moments;
    disks = stands.disks;
    queued = queued;
    turns = turns;
  }

  cleaned_still : (page : ℕ) → IsCleanedIn trace old page → IsCleanedIn trace new page
  cleaned_still page cleaned =
      let a = total_same trace.cpus (λ cpu. times (dirties page) (is cpu).events) (λ cpu. times (dirties page) (was cpu).events)
      (λ cpu less. ap (λ events. times (dirties page) events) (steps cpu less).grew.events) in
      let b = total_same trace.cpus (λ cpu. times (completes page) (is cpu).events) (λ cpu. times (completes page) (was cpu).events)
      (λ cpu less. ap (λ events. times (completes page) events) (steps cpu less).grew.events) in
      let c = total_same trace.cpus (λ cpu. times (absorbs page) (is cpu).events) (λ cpu. times (absorbs page) (was cpu).events)
      (λ cpu less. ap (λ events. times (absorbs page) events) (steps cpu less).grew.events) in
      omega arith

  pub went_untold : ((device : ℕ) → PutsMore (known_of device old.queue) (known_of device new.queue)) → WentOn trace sides sides old new
  went_untold puts = record {
    desks = refl;
    timer = untold.apart.timer;
    timer_log = untold.kinds.2.timer;
    stakes = λ domain. ap (λ (s : fraction.Seats). fraction.stakes_in domain s.domains) untold.share;
    total_stakes = ap (λ (s : fraction.Seats). s.totals.stakes) untold.share;
    cleaned = cleaned_still;
    stopped = λ none_stopped. none_stopped;
    puts = puts;
  }
