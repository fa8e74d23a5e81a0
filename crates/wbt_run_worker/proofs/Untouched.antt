-- A turn of a flusher that did nothing, as memory was refused.
use Rattle.std.proofs.Common.{◌≡◌, ⊎_elim, ℕ, ◌+◌, ◌<◌, false, [], length, set, get_or, All, Some, refl, sym, ap, ◌∙◌, subst, arith}
use Rattle.std.proofs.lemmas.List.Sums.{sum_by-set}
use Rattle.wbt_flusher.specs.Ages.{HasWheel, pairs_of}
use Rattle.wbt_run_worker.proofs.Common.{IsUntouched, Suits, OwesMark, OwesRescan, owing, owing_total, phase_by, pages_by, sight, IsPhase, IsSteady, FlusherPlan, Phase, Grows, times_in, CpuJournal, Trace, Kit, Seats, NotedSince, Flew, ShownFlusher, Waited, noted_now, Goes, IsPost, IsSide, Stands, AnyOf, Seen, Team, claimed_by, owed_by, owed_total, flusher_at, worker_of, IsStill, TeamWent}
use Rattle.wbt_flusher.specs.Did as flusher_did
use Rattle.wbt_flusher.specs.Plans.{IsWork}
use Rattle.wbt_flusher.specs.Turns.{AreProper, ArePlaces}
use Rattle.wbt_run_laws.proofs.Logging.{logged_nothing}
use Rattle.wbt_run_worker.proofs.Flushing.{post_at}
use Rattle.wbt_run_worker.proofs.Lists.{each_at, each_set}
use Rattle.wbt_run_worker.proofs.Posts.{IsLater, any_here, any_still, apart_set, failed_set, flushers_same, grows_nothing, still_by, still_set, stand_at, written_set}

seats_same : (a b : Seats) → b.cpu ≡ a.cpu → b.share ≡ a.share → b.est ≡ a.est → b.queue ≡ a.queue → b ≡ a
seats_same a b cpu share est queue =
    ap (λ c. record b { cpu = c }) cpu ∙ ap (λ s. record b { cpu = a.cpu; share = s }) share
    ∙ ap (λ e. record b { cpu = a.cpu; share = a.share; est = e }) est ∙ ap (λ q. record a { queue = q }) queue

module _ (told : ℕ → Type 0) (kit : Kit) (old : Team) (k : ℕ) (d q : Seen) (seats seats' : Seats) (log' : CpuJournal)
    (there : k < length old.posts) (is : get_or old.posts k d ≡ d) (same : q.plan ≡ d.plan) (later : IsLater d q)
    (side : IsSide old.desk.trace old.desk.cpu kit old seats)
    (none : IsUntouched (sight d.work seats old.log d.written) (sight q.work seats' log' q.written)) where
  abbrev cpu : ℕ
  cpu = old.desk.cpu

  abbrev trace : Trace
  trace = old.desk.trace

  abbrev new : Team
  new = record { desk = old.desk; posts = set old.posts k q; log = old.log }

  stands_same : stand_at q ≡ stand_at d
  stands_same =
      let phase_same : phase_by q.work.batch.items q.work.phase ≡ phase_by d.work.batch.items d.work.phase
      = ap (λ b. phase_by b q.work.phase) none.left.batch ∙ ap (λ (phase : Phase). phase_by d.work.batch.items phase) none.left.phase in
      λ i. record { told = record { phase = phase_same i; faults = none.left.faults i }; waits = pairs_of (none.left.wheel i) }

  claimed_same : (page : ℕ) → claimed_by page q ≡ claimed_by page d
  claimed_same page = ap (λ b. times_in page (pages_by b q.work.phase)) none.left.batch
      ∙ ap (λ (phase : Phase). times_in page (pages_by d.work.batch.items phase)) none.left.phase

  owed_same : (domain : ℕ) → owed_by domain q ≡ owed_by domain d
  owed_same domain = ap (λ (plan : FlusherPlan). owing plan domain q.work) same
      ∙ ap (λ t. owing d.plan domain (record q.work { tallies = t })) none.left.tallies
      ∙ ap (λ (phase : Phase). owing d.plan domain (record d.work { phase = phase })) none.left.phase

  total_same : (context : ℕ) → owed_total context q ≡ owed_total context d
  total_same context = ap (λ (plan : FlusherPlan). owing_total plan context q.work) same
      ∙ ap (λ t. owing_total d.plan context (record q.work { tallies = t })) none.left.tallies
      ∙ ap (λ (phase : Phase). owing_total d.plan context (record d.work { phase = phase })) none.left.phase

  same_plan : q.plan ≡ (get_or old.posts k d).plan
  same_plan = same ∙ ap (λ (p : Seen). p.plan) (sym is)

  mine : IsPost trace cpu kit seats.est (get_or old.posts k d)
  mine = post_at trace cpu kit old.posts k d seats there side.stands.posted

  flushers_are : (g : ℕ) → flusher_at new.posts g ≡ flusher_at old.posts g
  flushers_are g = flushers_same old.posts k d q g same_plan (stands_same ∙ ap stand_at (sym is))

  now : NotedSince trace kit.published.moment cpu [] (worker_of trace cpu old seats).shown (worker_of trace cpu old seats).shown
      (worker_of trace cpu old seats).notes (worker_of trace cpu old seats).notes
  now = noted_now trace kit.published.moment cpu (worker_of trace cpu old seats).shown (worker_of trace cpu old seats).notes

  went : TeamWent told trace cpu kit old new seats seats
  went = record {
    went = record {
      added = [];
      logged = logged_nothing old.log;
      since = record {
        since = record {
          grew = now.since.grew;
          side = now.since.side;
          wrote = now.since.wrote;
          flew = λ g. subst (λ (f : ShownFlusher). Flew g (flusher_at old.posts g).told [] f.told) (sym (flushers_are g)) (now.since.flew g);
          waited = λ g. subst (λ (f : ShownFlusher). Waited trace g (flusher_at old.posts g).waits [] f.waits) (sym (flushers_are g)) (now.since.waited g);
          own = tt;
          held = now.since.held;
          firsts_stay = now.since.firsts_stay;
        };
        shares = now.shares;
        estimates = now.estimates;
        decided = now.decided;
      };
    };
    moments = tt;
    disks = written_set (Some 0) old.posts k d q there
        (subst (λ (p : Seen). Grows (Some 0) p.written q.written) (sym is) (subst (λ w. Grows (Some 0) d.written w) (sym none.written) (grows_nothing d.written)));
    faults = failed_set 0 old.posts k d q there (none.left.faults ∙ ap (λ (p : Seen). p.work.faults) (sym is) ∙ (let e : (get_or old.posts k d).work.faults ≡ (get_or old.posts k d).work.faults + 0 = omega arith in e));
    still = still_set old.posts k d q (subst (λ (p : Seen). IsStill p q) (sym is) (still_by d q same later));
    keeps = record {
      apart = record { others = λ c r other has. has; no_more = λ c r other has. has; timer = refl; layout = refl };
      stakes = λ domain. refl;
      total_stakes = refl;
      queues = λ device. refl;
    };
  }

  stand : Stands trace cpu kit new seats
  stand = record {
    desk = side.stands.desk;
    fits = side.stands.fits;
    posted = record {
      each = each_set (IsPost trace cpu kit seats.est) old.posts k q side.stands.posted.each (record {
        its = subst (λ (plan : FlusherPlan). IsWork trace plan kit) (sym same_plan) mine.its;
        suits = subst (λ (plan : FlusherPlan). Suits plan kit) (sym same_plan) mine.suits;
        cpu_is = ap (λ (plan : FlusherPlan). plan.cpu) same_plan ∙ mine.cpu_is;
        publishes = λ context measured. mine.publishes context (subst (λ (plan : FlusherPlan). flusher_did.IsMeasured plan context) same_plan measured);
      });
      apart = apart_set old.posts k d q there same_plan side.stands.posted.apart;
      held = λ page.
          let all = side.stands.posted.held page in
          let sums = sum_by-set (claimed_by page) old.posts k q d there in
          let one : claimed_by page q ≡ claimed_by page (get_or old.posts k d) = claimed_same page ∙ ap (claimed_by page) (sym is) in
          omega arith;
    };
    backed = record {
      counted = side.stands.backed.counted;
      rooms = λ domain less.
          let all = side.stands.backed.rooms domain less in
          let sums = sum_by-set (owed_by domain) old.posts k q d there in
          let one : owed_by domain q ≡ owed_by domain (get_or old.posts k d) = owed_same domain ∙ ap (owed_by domain) (sym is) in
          omega arith;
      totals = λ context less.
          let all = side.stands.backed.totals context less in
          let sums = sum_by-set (owed_total context) old.posts k q d there in
          let one : owed_total context q ≡ owed_total context (get_or old.posts k d) = total_same context ∙ ap (owed_total context) (sym is) in
          omega arith;
    };
  }

  steady_was : IsSteady d.plan d.work
  steady_was = subst (λ (p : Seen). IsSteady p.plan p.work) is (each_at (λ (p : Seen). IsSteady p.plan p.work) old.posts k d there side.steady.each)

  steady_is : IsSteady q.plan q.work
  steady_is = subst (λ (plan : FlusherPlan). IsSteady plan q.work) (sym same) (record {
    lists = record {
      proper = subst (λ t. All AreProper t.items) (sym none.left.tallies) steady_was.lists.proper;
      tallies = ap (λ t. length t.items) none.left.tallies ∙ steady_was.lists.tallies;
      waiting = ap (λ w. length w.items) none.waiting ∙ steady_was.lists.waiting;
      none_wait = λ nobody inode. ap (λ w. get_or w.items inode false) none.waiting ∙ steady_was.lists.none_wait (sym none.some_wait ∙ nobody) inode;
      wheel = subst (HasWheel d.plan) (sym none.left.wheel) steady_was.lists.wheel;
      places = subst (λ v. ArePlaces d.plan v.items) (sym none.left.places) steady_was.lists.places;
    };
    phase = subst (λ b. IsPhase d.plan b q.work.phase) (sym none.left.batch)
        (subst (λ (phase : Phase). IsPhase d.plan d.work.batch.items phase) (sym none.left.phase) steady_was.phase);
    few_faults = omega (arith, none.left.faults, steady_was.few_faults);
  })

  moved : (P : Seen → Type 0) → (P d → P q) → AnyOf P old.posts → AnyOf P new.posts
  moved P so any = ⊎_elim (λ (still : AnyOf P new.posts). still)
      (λ (it : P (get_or old.posts k d)). any_here P old.posts k q there (so (subst P is it))) (any_still P old.posts k d q any)

  side_now : IsSide trace cpu kit new seats
  side_now = record {
    stands = stand;
    writers = side.writers;
    steady = record {
      each = each_set (λ (p : Seen). IsSteady p.plan p.work) old.posts k q side.steady.each steady_is;
      rescans = λ page owed. moved (λ (r : Seen). OwesRescan r.plan r.work.phase page)
          (λ it. subst (λ (plan : FlusherPlan). OwesRescan plan q.work.phase page) (sym same) (subst (λ (phase : Phase). OwesRescan d.plan phase page) (sym none.left.phase) it))
          (side.steady.rescans page owed);
      marks = λ inode owed. moved (λ (r : Seen). OwesMark r.work.phase inode)
          (λ it. subst (λ (phase : Phase). OwesMark phase inode) (sym none.left.phase) it) (side.steady.marks inode owed);
    };
  }

  seats_are : seats' ≡ seats
  seats_are = seats_same seats seats' none.left.cpu none.left.share none.left.est none.queue

  pub untouched_goes : Goes told trace cpu kit old (record { desk = old.desk; posts = set old.posts k q; log = log' }) seats seats'
  untouched_goes =
      subst (λ (s : Seats). Goes told trace cpu kit old (record { desk = old.desk; posts = set old.posts k q; log = log' }) seats s) (sym seats_are)
      (subst (λ (l : CpuJournal). Goes told trace cpu kit old (record { desk = old.desk; posts = set old.posts k q; log = l }) seats seats) (sym none.left.log)
      (record { went = went; stands = stand }))

  pub untouched_side : IsSide trace cpu kit (record { desk = old.desk; posts = set old.posts k q; log = log' }) seats'
  untouched_side =
      subst (λ (s : Seats). IsSide trace cpu kit (record { desk = old.desk; posts = set old.posts k q; log = log' }) s) (sym seats_are)
      (subst (λ (l : CpuJournal). IsSide trace cpu kit (record { desk = old.desk; posts = set old.posts k q; log = l }) seats) (sym none.left.log) side_now)
