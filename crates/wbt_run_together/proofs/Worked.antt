-- What one worker did, from its first turn on.
use Rattle.std.proofs.Common.{◌≡◌, ⊎_elim, ℕ, zero, suc, ◌-◌, ◌<◌, ◌≤◌, Bool, List, [], ◌∷◌, ◌++◌, length, replicate, Option, Some, None, unwrap_or, refl, sym, ap, ◌∙◌, subst, arith}
use mathlib.Core.Option.{some}
use lib.ListN.{get_elem?}
use Rattle.std.specs.List.{count_by, sum_by}
use Rattle.std.proofs.lemmas.List.Sums.{sum_by-cons}
use Rattle.std.specs.Option.{IfSome}
use Rattle.std.proofs.lemmas.Bool.{cases_eq}
use Rattle.wbt_run_worker.proofs.Common.{first_estimates, HasRisenBy, Grows, Each, is_fault, contexts, NamesInOrder, Told, CpuJournal, AreFirst, HasLog, Seated, Logged, Trace, first_notes, owner_of, handed, Kit, Seats, EndsSo, Goes, Steps, IsTurn, AreWordsBy, Seen, failed_in, worker_of, written_by, AreStill, IsTold, Notes}
use Rattle.wbt_kit.proofs.Common.{Logs}
use Rattle.wbt_run_seats.specs.Gathered.{AreNotesOf, HasOneStake}
use Rattle.wbt_run_seats.specs.Parts.{HoldsOnly}
use Rattle.wbt_run_seats.proofs.Gathering.{grown_are_notes}
use Rattle.wbt_run_seats.proofs.Logs.{IsOwnLog}
use Rattle.wbt_run_seats.proofs.Staking.{HasOneOfEach, part_has_one}
use Rattle.wbt_journal.specs.Told.{told as told_by}
use Rattle.wbt_run_steps.specs.Kinds.{LogsAfter}
use Rattle.wbt_table.specs.Calls.{IsFirst}
use Rattle.wbt_table.specs.Layout.{domains as limits_of}
use Rattle.wbt_run_worker.specs.declared.worker.Worker.{Worker}
use Rattle.wbt_run_worker.proofs.Going.{as_named}
use Rattle.wbt_run_worker.proofs.Wording.{run_steps}
use Rattle.wbt_run_laws.specs.Notes.{EstimatesGrew, SharesGrew}
use Rattle.wbt_run_laws.specs.Worker as turns
use Rattle.wbt_run_laws.specs.Worker.{WholeLog}
use Rattle.wbt_run_laws.proofs.Working.{log_is_whole}
use Rattle.wbt_run_drain.specs.Standing.{FaultsAreTold}
use Rattle.wbt_run_drain.specs.Teams.{worker_there}
use Rattle.wbt_run_drain.specs.Words.{IsTurnOrLook, TellsTurns}
use Rattle.wbt_run_drain.proofs.Wording.{turns_or_looks}
use Rattle.wbt_run_first.specs.Back.{IsNothing}
use Rattle.wbt_run_beside.specs.Beside.{HasWorked, stance_in, team_in}
use Rattle.wbt_run_first.specs.Lent.{IsFirstPost, IsFirstWorker, first_worker}
use Rattle.wbt_run_first.proofs.Giving.{posts_nothing}
use Rattle.wbt_run_together.proofs.There.{went_there}

-- before the first turn a CPU's log is empty
pub first_log_of : (seat : Seated) → IsFirst seat → (c : ℕ) → c < seat.layout.cpus → HasLog seat.logs c []
first_log_of seat first c low = ap (λ (logs : Logs). get_elem? logs c) first.logs ∙ empty_at seat.layout.cpus c low
  where
    empty_at : (n c : ℕ) → c < n → get_elem? (replicate {A = Option (List Logged)} n (Some [])) c ≡ some (Some [])
    empty_at zero c low = absurd (omega arith)
    empty_at (suc n) zero low = refl
    empty_at (suc n) (suc c) low = empty_at n c (omega arith)

-- what its notes are to the laws of turns
abbrev pub worker_by : {D : Type 0} (written : D → Option ℕ) (faults : D → ℕ) (trace : Trace) (cpu : ℕ) (worker : Worker D) → turns.Worker
worker_by {D} written faults trace cpu worker = worker_of trace cpu (team_in written faults worker) worker.seats

-- disks that had written nothing have written just so many pages
told_just : (by : ℕ) (before now : Option ℕ) → IsNothing before → Grows (Some by) before now → IfSome now (λ n. n ≡ by)
told_just by before None none grows = tt
told_just by before (Some total) none grows =
    let nothing : grows.1 ≡ 0 = subst IsNothing grows.3 none in
    let same : by ≡ grows.0 = ap (λ (o : Option ℕ). unwrap_or o 0) grows.2 in
    omega (arith, grows.4)

-- flushers that count no failure, at disks that have no fault, count no more than these do after turns
none_failed : (trace : Trace) (cpu : ℕ) (posts : List Seen) → Each (IsFirstPost trace cpu) posts → failed_in posts ≡ 0
none_failed trace cpu [] each = refl
none_failed trace cpu (p ∷ posts) each =
    sum_by-cons (λ (q : Seen). q.work.faults) p posts ∙ (let here = each.0.counts_none in let rest = none_failed trace cpu posts each.1 in omega arith)

counted_one : (m n a b : ℕ) → m ≡ 0 → a ≡ 0 → HasRisenBy (n - m) a b → HasRisenBy n 0 b
counted_one m n a b none faultless risen = omega (arith, none, faultless, risen)

all_counted : (trace : Trace) (cpu : ℕ) (old new : List Seen) → Each (IsFirstPost trace cpu) old → AreStill old new → Each (λ (p : Seen). HasRisenBy p.work.faults 0 p.faults) new
all_counted trace cpu [] [] each still = tt
all_counted trace cpu [] (q ∷ new) each still = absurd still
all_counted trace cpu (p ∷ old) [] each still = absurd still
all_counted trace cpu (p ∷ old) (q ∷ new) each still = (
  counted_one p.work.faults q.work.faults p.faults q.faults each.0.counts_none each.0.faultless still.0.risen,
  all_counted trace cpu old new each.1 still.1,
)

module _ {D : Type 0} (told : ℕ → Type 0) (said : ℕ → ℕ → Bool → Type 0) (written : D → Option ℕ) (faults : D → ℕ) (trace : Trace) (now : ℕ) (kit : Kit) (first : Seats) (cpu : ℕ) (old new : Worker D)
    (is_first : IsFirstWorker written faults trace now kit first cpu old) (worked : HasWorked told said written faults kit old new) where
  pub goes : Goes told trace cpu kit (team_in written faults old) (team_in written faults new) old.seats new.seats
  goes = as_named (λ (t : Trace) (c : ℕ). Goes told t c kit (team_in written faults old) (team_in written faults new) old.seats new.seats) trace cpu kit
      (team_in written faults old) old.seats is_first.side.stands worked.goes

  pub ends : EndsSo said trace cpu kit new.side.end (team_in written faults old) (team_in written faults new) new.seats
  ends = as_named (λ (t : Trace) (c : ℕ). EndsSo said t c kit new.side.end (team_in written faults old) (team_in written faults new) new.seats) trace cpu kit
      (team_in written faults old) old.seats is_first.side.stands worked.ends

  -- ---- seats

  pub holds_only : HoldsOnly cpu new.seats
  holds_only = record {
    held = goes.stands.fits.held;
    alone = λ c r has. ⊎_elim (λ is. is) (λ ne. is_first.part.holds.alone c r (goes.went.keeps.apart.no_more c r ne has)) (cases_eq c cpu);
    no_timer = goes.went.keeps.apart.timer ∙ is_first.part.holds.no_timer;
  }

  -- its own log tells its turns, and it has no other
  cpu_is : (team_in written faults old).desk.cpu ≡ cpu
  cpu_is = is_first.side.stands.desk.cpu_is

  steps : Steps cpu (AreWordsBy (IsTurn (limits_of kit.throttle.layout)) new.side.end) old.seats new.seats
  steps = run_steps told said kit cpu (stance_in written faults old) (stance_in written faults new) cpu_is new.side.end worked.run

  module _ (are : AreFirst kit first) (low : cpu < first.cpu.layout.cpus) where
    after : LogsAfter cpu steps.0 [] new.seats
    after = steps.2.logs [] (is_first.part.log [] (first_log_of first.cpu are.cpu cpu low))

    pub tells_turns : TellsTurns (limits_of kit.throttle.layout) cpu new.side.end new.seats
    tells_turns = (
      after.0,
      after.1,
      subst (AreWordsBy (IsTurnOrLook (limits_of kit.throttle.layout) cpu) new.side.end) (sym after.2) (turns_or_looks (limits_of kit.throttle.layout) cpu new.side.end steps.0 steps.1),
    )

    pub own_log : (logs : ℕ → List Logged) → HasLog new.seats.cpu.logs cpu (logs cpu) → IsOwnLog logs first.cpu.layout.cpus cpu new.seats.cpu
    own_log logs has = record {
      own = has;
      none = λ c ne less. steps.2.others c ne ∙ is_first.part.no_log c [] ne (first_log_of first.cpu are.cpu c less);
      no_timer = steps.2.timer ∙ is_first.part.no_timer_log;
    }

  pub one_stake : HasOneStake kit new.seats
  one_stake domain low = goes.went.keeps.stakes domain ∙ is_first.part.stakes domain low

  pub one_of_each : AreFirst kit first → cpu ≤ 64 → HasOneOfEach kit new.seats
  one_of_each are few device low = goes.went.keeps.queues device ∙ part_has_one kit cpu first old.seats are few is_first.part device low

  -- ---- the log

  went : turns.Went trace kit.published.moment cpu (first_worker trace old.seats) (worker_there trace (worker_by written faults trace cpu new))
  went = subst (λ (w : turns.Worker). turns.Went trace kit.published.moment cpu w (worker_there trace (worker_by written faults trace cpu new))) is_first.worker_is
      (went_there trace kit.published.moment cpu (worker_by written faults trace cpu old) (worker_by written faults trace cpu new) goes.went.went)

  pub whole : WholeLog trace kit.published.moment cpu (first_worker trace old.seats) (worker_there trace (worker_by written faults trace cpu new))
  whole = log_is_whole trace kit.published.moment cpu (first_worker trace old.seats) (worker_there trace (worker_by written faults trace cpu new)) refl went

  log_first : old.side.log ≡ turns.empty_log
  log_first = is_first.is_first.team.log

  all_told : told_by new.side.log ≡ goes.went.went.added
  all_told =
      goes.went.went.logged.tells (subst NamesInOrder (sym log_first) (refl, refl))
      ∙ ap (λ (log : CpuJournal). told_by log ++ goes.went.went.added) log_first

  pub moments : Each (IsTold told) (told_by new.side.log)
  moments = subst (λ (l : List Told). Each (IsTold told) l) (sym all_told) goes.went.moments

  pub disks : IfSome (written_by (team_in written faults new).posts) (λ n. n ≡ sum_by handed (told_by new.side.log))
  disks = told_just (sum_by handed (told_by new.side.log)) (written_by (team_in written faults old).posts) (written_by (team_in written faults new).posts)
      (posts_nothing trace cpu (team_in written faults old).posts is_first.is_first.team.posts.each)
      (subst (λ (l : List Told). Grows (Some (sum_by handed l)) (written_by (team_in written faults old).posts) (written_by (team_in written faults new).posts)) (sym all_told)
      goes.went.disks)

  abbrev firsts : List Seen
  firsts = (team_in written faults old).posts

  abbrev lasts : List Seen
  lasts = (team_in written faults new).posts

  pub tells : FaultsAreTold lasts new.side.log
  tells = record {
    faults =
        let none = none_failed trace cpu firsts is_first.is_first.team.posts.each in
        let more = goes.went.faults in
        let all = ap (count_by is_fault) all_told in
        omega (arith, none, more, all);
    each = all_counted trace cpu firsts lasts is_first.is_first.team.posts.each goes.went.still;
  }

  -- ---- notes

  pub notes_are : length kit.published.names ≡ contexts trace → AreNotesOf trace (owner_of kit) cpu (worker_by written faults trace cpu new).notes new.seats
  notes_are many =
      let same : (worker_by written faults trace cpu old).notes ≡ first_notes old.seats = ap (λ (w : turns.Worker). w.notes) is_first.worker_is in
      let notes = (worker_by written faults trace cpu new).notes in
      grown_are_notes trace kit (first_estimates trace kit.published.moment) cpu goes.went.went.added old.seats new.seats notes many is_first.first_part
      (subst (λ (n : Notes). SharesGrew cpu goes.went.went.added n notes) same goes.went.went.since.shares)
      (subst (λ (n : Notes). EstimatesGrew (first_estimates trace kit.published.moment) cpu goes.went.went.added n notes) same goes.went.went.since.estimates)
      (λ domain. refl) (λ context. refl)
