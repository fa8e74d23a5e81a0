-- A turn of one of a CPU's flushers as a turn of their CPU's side.
use Rattle.std.proofs.Common.{◌≡◌, ◌≢◌, ℕ, ◌+◌, ◌<◌, ◌==◌, if◌then◌else◌, Bool, List, [], length, set, get_or, Some, IfSome, Contains, refl, sym, ap, ◌∙◌, subst, arith, eq-eqb}
use Rattle.std.specs.List.{count_by, sum_by}
use Rattle.wbt_flusher.specs.Answers as flusher
use Rattle.wbt_run_worker.proofs.Common.{FlusherAnswers, IsUntouched, Moments, handed, no_moments, waited_at, Suits, sight, IsSteady, CpuRecord, Grows, Each, Flight, Wait, effect, moment_of, is_fault, Told, CheckEntry, CpuJournal, EstEntry, known_of, first_estimates, setting, Layout, Has, Trace, Kit, Seats, IsApart, record_of, Grew, NotedFlusherTurn, IsOfFlusher, Flew, ShownFlusher, Waited, Worker, if_none, if_weaker, Goes, IsPost, IsSide, Stands, Seen, Team, flusher_at, worker_of, IsStill, IsTold, TeamWent}
use Rattle.wbt_flusher.specs.Answers.{IsLeft}
use Rattle.wbt_flusher.specs.Did as flusher_did
use Rattle.wbt_flusher.specs.Sights as sights
use Rattle.wbt_kit.proofs.Common.{writer_in, WriterRecord}
use Rattle.wbt_run_laws.specs.Notes.{EstimatesGrew, SharesGrew}
use Rattle.wbt_run_laws.specs.Owns.{IsOwn}
use Rattle.wbt_run_laws.proofs.Faulting.{faults_counted, own_faults}
use Rattle.wbt_run_laws.proofs.Noting.{noted_of_flusher}
use Rattle.wbt_writer.specs.Desk as desk
use Rattle.wbt_run_worker.proofs.Flushing.{backed_after, post_at, posted_after, ready_at, steady_after}
use Rattle.wbt_run_worker.proofs.Lists.{each_and, each_at, has_it}
use Rattle.wbt_run_worker.proofs.Posts.{IsLater, chosen, failed_set, flushers_now, flushers_other, flushers_own, still_by, still_set, stand_at, written_set}

-- a moment of these was told
told_so : (told : ℕ → Type 0) (moments : Moments) → flusher.AreTold told moments → (number : ℕ) (entry : Told) → IsOfFlusher number entry
    → flusher_did.IsTimed moments entry → IsTold told entry
told_so told moments all number entry of timed = record {
  check = if_none (λ (check : CheckEntry). told check.now) (effect entry).check of.no_check;
  batch = if_weaker (λ (flight : Flight). IfSome (moment_of flight.move) (Contains moments.batches)) (λ (flight : Flight). IfSome (moment_of flight.move) told)
      (λ flight. if_weaker (Contains moments.batches) told (λ now has. has_it told moments.batches now all.batches has) (moment_of flight.move)) (effect entry).flight timed.batch;
  estimate = if_weaker (λ (est : EstEntry). Contains moments.estimates est.estimate.at) (λ (est : EstEntry). told est.estimate.at)
      (λ est has. has_it told moments.estimates est.estimate.at all.estimates has) (effect entry).estimate timed.estimate;
  wait = if_weaker (λ (wait : Wait). IfSome (waited_at wait.move) (Contains moments.estimates)) (λ (wait : Wait). IfSome (waited_at wait.move) told)
      (λ wait. if_weaker (Contains moments.estimates) told (λ now has. has_it told moments.estimates now all.estimates has) (waited_at wait.move)) (effect entry).wait timed.wait;
}

module _ (told : ℕ → Type 0) (said : ℕ → ℕ → Bool → Type 0) (kit : Kit) (old : Team) (k : ℕ) (d q : Seen) (seats seats' : Seats) (log' : CpuJournal)
    (there : k < length old.posts) (is : get_or old.posts k d ≡ d) (same : q.plan ≡ d.plan) (later : IsLater d q)
    (side : IsSide old.desk.trace old.desk.cpu kit old seats) where
  abbrev new : Team
  new = record { desk = old.desk; posts = set old.posts k q; log = log' }

  abbrev cpu : ℕ
  cpu = old.desk.cpu

  abbrev trace : Trace
  trace = old.desk.trace

  abbrev base : Worker
  base = worker_of trace cpu old seats

  abbrev n : ℕ
  n = d.plan.flusher

  mine : IsPost trace cpu kit seats.est d
  mine = subst (λ (p : Seen). IsPost trace cpu kit seats.est p) is (post_at trace cpu kit old.posts k d seats there side.stands.posted)

  same_plan : q.plan ≡ (get_or old.posts k d).plan
  same_plan = same ∙ ap (λ (p : Seen). p.plan) (sym is)

  -- what it requires
  pub may_turn : flusher.IsReady d.plan kit d.work seats
  may_turn = subst (λ (p : Seen). flusher.IsReady p.plan kit p.work seats) is
      (ready_at trace cpu kit old.posts k d seats there side.stands.posted side.stands.fits.seats_are side.stands.fits.held side.writers.owes_nothing
      (each_at (λ (p : Seen). IsSteady p.plan p.work) old.posts k d there side.steady.each) side.stands.backed)

  pub plan_suits : Suits d.plan kit
  plan_suits = mine.suits

  -- it is the CPU's
  pub same_cpu : d.plan.cpu ≡ cpu
  same_cpu = mine.cpu_is

  module _ (moments : Moments) (all_told : flusher.AreTold told moments)
      (went : flusher.Went d.plan kit moments (sight d.work seats old.log d.written) (sight q.work seats' log' q.written)) where
    abbrev added : List Told
    added = went.did.added

    its_turn : NotedFlusherTurn trace kit.published.moment d.plan.cpu n added (sights.shown_of d.plan base (sight d.work seats old.log d.written))
        (sights.shown_of d.plan base (sight q.work seats' log' q.written)) (sights.notes_of base (sight d.work seats old.log d.written))
        (sights.notes_of base (sight q.work seats' log' q.written))
    its_turn = went.did.turn trace mine.its base

    -- where it stands, and where the others do
    was_at : (if n == n then stand_at d else flusher_at old.posts n) ≡ flusher_at old.posts n
    was_at = chosen (n == n) (stand_at d) (flusher_at old.posts n) (eq-eqb n n refl)
        ∙ sym (subst (λ (p : Seen). flusher_at old.posts p.plan.flusher ≡ stand_at p) is (flushers_own old.posts k d there side.stands.posted.apart))

    is_at : (if n == n then stand_at q else flusher_at old.posts n) ≡ flusher_at new.posts n
    is_at = chosen (n == n) (stand_at q) (flusher_at old.posts n) (eq-eqb n n refl)
        ∙ sym (subst (λ (p : Seen). flusher_at new.posts p.plan.flusher ≡ stand_at q) is (flushers_now old.posts k d q there same_plan side.stands.posted.apart))

    noted : NotedFlusherTurn trace kit.published.moment cpu n added (worker_of trace cpu old seats).shown (worker_of trace cpu new seats').shown
        (worker_of trace cpu old seats).notes (worker_of trace cpu new seats').notes
    noted = record {
      turn = record {
        grew = subst (λ (c : ℕ). Grew added (record_of c seats.cpu.cpus) (record_of c seats'.cpu.cpus)) mine.cpu_is its_turn.turn.grew;
        flew = subst (λ (f : ShownFlusher). Flew n (flusher_at old.posts n).told added f.told) is_at
            (subst (λ (f : ShownFlusher). Flew n f.told added (if n == n then stand_at q else flusher_at old.posts n).told) was_at its_turn.turn.flew);
        waited = subst (λ (f : ShownFlusher). Waited trace n (flusher_at old.posts n).waits added f.waits) is_at
            (subst (λ (f : ShownFlusher). Waited trace n f.waits added (if n == n then stand_at q else flusher_at old.posts n).waits) was_at its_turn.turn.waited);
        own = subst (λ (c : ℕ). Each (IsOwn trace c) added) mine.cpu_is its_turn.turn.own;
        of_flusher = its_turn.turn.of_flusher;
        others_stay = λ g other. flushers_other old.posts k d q g same_plan (subst (λ (p : Seen). g ≢ p.plan.flusher) (sym is) other);
        side_stays = refl;
        firsts_stay = ap (λ (k : Layout). (setting k).firsts) went.did.apart.layout;
        written_stays = λ task. refl;
      };
      shares = subst (λ (c : ℕ). SharesGrew c added (worker_of trace cpu old seats).notes (worker_of trace cpu new seats').notes) mine.cpu_is its_turn.shares;
      estimates = subst (λ (c : ℕ). EstimatesGrew (first_estimates trace kit.published.moment) c added (worker_of trace cpu old seats).notes (worker_of trace cpu new seats').notes) mine.cpu_is
          its_turn.estimates;
    }

    -- it counts the faults that it tells
    faults_now : q.work.faults ≡ d.work.faults + count_by is_fault added
    faults_now =
        let counted = faults_counted n (if n == n then stand_at d else flusher_at old.posts n).told (if n == n then stand_at q else flusher_at old.posts n).told added its_turn.turn.flew in
        let was : (if n == n then stand_at d else flusher_at old.posts n).told.faults ≡ d.work.faults
        = ap (λ (f : ShownFlusher). f.told.faults) (chosen (n == n) (stand_at d) (flusher_at old.posts n) (eq-eqb n n refl)) in
        let now : (if n == n then stand_at q else flusher_at old.posts n).told.faults ≡ q.work.faults
        = ap (λ (f : ShownFlusher). f.told.faults) (chosen (n == n) (stand_at q) (flusher_at old.posts n) (eq-eqb n n refl)) in
        let own = own_faults n added its_turn.turn.of_flusher in
        omega (arith, counted, was, now, own)

    flusher_went : TeamWent told trace cpu kit old new seats seats'
    flusher_went = record {
      went = record {
        added = added;
        logged = went.did.logged;
        since = noted_of_flusher trace kit.published.moment cpu n added (worker_of trace cpu old seats).shown (worker_of trace cpu new seats').shown
            (worker_of trace cpu old seats).notes (worker_of trace cpu new seats').notes noted;
      };
      moments = each_and (IsOfFlusher n) (flusher_did.IsTimed moments) (IsTold told) (told_so told moments all_told n) added noted.turn.of_flusher went.did.moments;
      disks = written_set (Some (sum_by handed added)) old.posts k d q there
          (subst (λ (p : Seen). Grows (Some (sum_by handed added)) p.written q.written) (sym is) went.did.pages);
      faults = failed_set (count_by is_fault added) old.posts k d q there (faults_now ∙ ap (λ (p : Seen). p.work.faults + count_by is_fault added) (sym is));
      still = still_set old.posts k d q (subst (λ (p : Seen). IsStill p q) (sym is) (still_by d q same later));
      keeps = record {
        apart = subst (λ (c : ℕ). IsApart c seats.cpu seats'.cpu) mine.cpu_is went.did.apart;
        stakes = went.did.stakes;
        total_stakes = went.did.total_stakes;
        queues = went.queue.stakes;
      };
    }

    went_at : flusher.Went (get_or old.posts k d).plan kit moments (sight (get_or old.posts k d).work seats old.log (get_or old.posts k d).written)
        (sight q.work seats' log' q.written)
    went_at = subst (λ (p : Seen). flusher.Went p.plan kit moments (sight p.work seats old.log p.written) (sight q.work seats' log' q.written)) (sym is) went

    has_cpu : (r : CpuRecord) × Has seats'.cpu.cpus cpu r
    has_cpu = (went.fits.held.0, subst (λ (c : ℕ). Has seats'.cpu.cpus c went.fits.held.0) mine.cpu_is went.fits.held.1)

    right : (context : ℕ) → (known_of context seats'.est).publishes ≡ (known_of context seats.est).publishes
    right context = (its_turn.estimates.each context).right

    flusher_stand : Stands trace cpu kit new seats'
    flusher_stand = record {
      desk = side.stands.desk;
      fits = record { seats_are = went.fits.seats_are; held = has_cpu };
      posted = posted_after trace cpu kit old.posts k d q base moments seats seats' old.log log' there same_plan side.stands.posted went_at right;
      backed = backed_after trace cpu kit old.posts k d q base moments seats seats' old.log log' there same_plan side.stands.posted went_at side.stands.backed;
    }

    pub flusher_goes : Goes told trace cpu kit old new seats seats'
    flusher_goes = record { went = flusher_went; stands = flusher_stand }

    writers_same : (record_of cpu seats'.cpu.cpus).writers ≡ (record_of cpu seats.cpu.cpus).writers
    writers_same = subst (λ (c : ℕ). (record_of c seats'.cpu.cpus).writers ≡ (record_of c seats.cpu.cpus).writers) mine.cpu_is went.did.writers

    writers_ready : flusher.IsReady d.plan kit q.work seats' → desk.IsReady old.desk kit seats'
    writers_ready ready = record {
      at_kit = side.writers.at_kit;
      fits = record { seats_are = went.fits.seats_are; held = has_cpu };
      owes_nothing = subst (λ (c : ℕ). (record_of c seats'.cpu.cpus).debts ≡ []) mine.cpu_is ready.owes_none;
      lefts = record {
        each = λ w less on going no.
            ap (λ (all : List WriterRecord). (writer_in (setting kit.throttle.layout) w all).left) writers_same ∙ side.writers.lefts.each w less on going no;
      };
      have_read = noted.shares.kept side.writers.have_read;
    }

    pub side_after : flusher.IsReady d.plan kit q.work seats' → IsSide trace cpu kit new seats'
    side_after ready = record {
      stands = flusher_stand;
      writers = writers_ready ready;
      steady = steady_after trace cpu kit old.posts k d q base moments seats seats' old.log log' there same_plan side.stands.posted went_at
          (subst (λ (p : Seen). IsSteady p.plan q.work) (sym is) ready.steady) side.steady;
    }
