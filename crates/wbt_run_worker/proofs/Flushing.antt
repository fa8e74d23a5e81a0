-- A turn of one of a CPU's flushers as a turn of all of them.
use Rattle.std.proofs.Common.{◌≡◌, ⊎_elim, ℕ, ◌+◌, ◌<◌, ◌≤◌, List, [], length, set, get_or, sym, ap, ◌∙◌, subst, arith}
use Rattle.std.proofs.lemmas.List.Sums.{sum_by-set}
use Rattle.wbt_run_worker.proofs.Common.{times_in, CpuRecord, contexts, domains, CpuJournal, AreSeatsOf, known_of, Has, Trace, AreBacked, Moments, handed, Suits, OwesMark, OwesRescan, owing, owing_total, pages_by, sight, IsSteady, FlusherPlan, Kit, Seats, record_of, Worker, ArePosted, IsPost, AnyOf, Seen, claimed_by, owed_by, owed_in, owed_total, owed_totals}
use Rattle.wbt_flusher.specs.Answers as flusher
use Rattle.wbt_flusher.specs.Did as flusher_did
use Rattle.wbt_flusher.specs.Did.{HasRooms}
use Rattle.wbt_flusher.specs.Plans.{IsWork}
use Rattle.wbt_flusher.specs.Sights as sights
use Rattle.wbt_run_worker.specs.Side.{AreSteady}
use Rattle.wbt_run_worker.proofs.Lists.{at_most, each_at, each_set}
use Rattle.wbt_run_worker.proofs.Posts.{any_here, any_still, apart_set}
use Rattle.wbt_run_worker.proofs.Writing.{posts_still}

-- ---- before a turn

module _ (trace : Trace) (cpu : ℕ) (kit : Kit) (posts : List Seen) (k : ℕ) (d : Seen) (seats : Seats) (there : k < length posts)
    (posted : ArePosted trace cpu kit posts seats) where
  pub post_at : IsPost trace cpu kit seats.est (get_or posts k d)
  post_at = each_at (IsPost trace cpu kit seats.est) posts k d there posted.each

  pub rooms_at : AreBacked (domains trace) (contexts trace) (owed_in posts) (owed_totals posts) seats → HasRooms (get_or posts k d).plan (get_or posts k d).work seats
  rooms_at backed = record {
    counted = backed.counted;
    rooms = λ domain less.
        let all = backed.rooms domain (subst (λ (n : ℕ). domain < n) post_at.its.plan_is.domains_are less) in
        let one = at_most (owed_by domain) posts k d there in
        omega arith;
    totals = λ context less.
        let all = backed.totals context (subst (λ (n : ℕ). context < n) (ap length post_at.its.plan_is.contexts) less) in
        let one = at_most (owed_total context) posts k d there in
        omega arith;
  }

  -- it is ready
  pub ready_at : AreSeatsOf kit seats → ((r : CpuRecord) × Has seats.cpu.cpus cpu r) → (record_of cpu seats.cpu.cpus).debts ≡ []
      → IsSteady (get_or posts k d).plan (get_or posts k d).work
      → AreBacked (domains trace) (contexts trace) (owed_in posts) (owed_totals posts) seats → flusher.IsReady (get_or posts k d).plan kit (get_or posts k d).work seats
  ready_at seats_are held owes steady backed =
      let own = sym post_at.cpu_is in
      record {
        fits = record { seats_are = seats_are; held = (held.0, subst (λ (c : ℕ). Has seats.cpu.cpus c held.0) own held.1); publishes = post_at.publishes };
        steady = steady;
        holds = λ page. subst (λ (c : ℕ). claimed_by page (get_or posts k d) ≤ times_in page (record_of c seats.cpu.cpus).held) own
            (let one = at_most (claimed_by page) posts k d there in let all = posted.held page in omega arith);
        rooms = rooms_at backed;
        owes_none = subst (λ (c : ℕ). (record_of c seats.cpu.cpus).debts ≡ []) own owes;
      }

-- ---- after it

module _ (trace : Trace) (cpu : ℕ) (kit : Kit) (posts : List Seen) (k : ℕ) (d q : Seen) (base : Worker) (moments : Moments) (seats seats' : Seats) (log log' : CpuJournal)
    (there : k < length posts) (same : q.plan ≡ (get_or posts k d).plan) (posted : ArePosted trace cpu kit posts seats)
    (went : flusher.Went (get_or posts k d).plan kit moments (sight (get_or posts k d).work seats log (get_or posts k d).written) (sight q.work seats' log' q.written)) where
  abbrev p : Seen
  p = get_or posts k d

  abbrev posts' : List Seen
  posts' = set posts k q

  mine : IsPost trace cpu kit seats.est p
  mine = post_at trace cpu kit posts k d seats there posted

  -- the pages that the CPU holds, of its own number
  held_by : (c : ℕ) → p.plan.cpu ≡ c → (page : ℕ) → times_in page (record_of c seats'.cpu.cpus).held + claimed_by page p
      ≡ times_in page (record_of c seats.cpu.cpus).held + claimed_by page q
  held_by c is page = subst (λ (n : ℕ). times_in page (record_of n seats'.cpu.cpus).held + claimed_by page p
      ≡ times_in page (record_of n seats.cpu.cpus).held + claimed_by page q) is (went.did.held page)

  pub posted_after : ((context : ℕ) → (known_of context seats'.est).publishes ≡ (known_of context seats.est).publishes) → ArePosted trace cpu kit posts' seats'
  posted_after right = record {
    each = posts_still trace cpu kit seats.est seats'.est posts' right
        (each_set (IsPost trace cpu kit seats.est) posts k q posted.each (record {
          its = subst (λ (plan : FlusherPlan). IsWork trace plan kit) (sym same) mine.its;
          suits = subst (λ (plan : FlusherPlan). Suits plan kit) (sym same) mine.suits;
          cpu_is = ap (λ (plan : FlusherPlan). plan.cpu) same ∙ mine.cpu_is;
          publishes = λ context measured. mine.publishes context (subst (λ (plan : FlusherPlan). flusher_did.IsMeasured plan context) same measured);
        }));
    apart = apart_set posts k d q there same posted.apart;
    held = λ page.
        let all = posted.held page in
        let both = held_by cpu mine.cpu_is page in
        let sums = sum_by-set (claimed_by page) posts k q d there in
        omega arith;
  }

  owed_now : (domain : ℕ) → owed_in posts' domain + owing p.plan domain p.work ≡ owed_in posts domain + owing p.plan domain q.work
  owed_now domain = sum_by-set (owed_by domain) posts k q d there ∙ ap (λ (plan : FlusherPlan). owed_in posts domain + owing plan domain q.work) same

  total_now : (context : ℕ) → owed_totals posts' context + owing_total p.plan context p.work ≡ owed_totals posts context + owing_total p.plan context q.work
  total_now context = sum_by-set (owed_total context) posts k q d there ∙ ap (λ (plan : FlusherPlan). owed_totals posts context + owing_total plan context q.work) same

  pub backed_after : AreBacked (domains trace) (contexts trace) (owed_in posts) (owed_totals posts) seats
      → AreBacked (domains trace) (contexts trace) (owed_in posts') (owed_totals posts') seats'
  backed_after backed = record {
    counted = went.cpus.counted backed.counted;
    rooms = λ domain less.
        let before = backed.rooms domain less in
        let now = went.did.rooms domain (subst (λ (n : ℕ). domain < n) (sym mine.its.plan_is.domains_are) less) in
        let sums = owed_now domain in
        let many : sights.held_cpus seats'.cpu.cpus ≡ sights.held_cpus seats.cpu.cpus = went.cpus.as_many in
        omega arith;
    totals = λ context less.
        let before = backed.totals context less in
        let now = went.did.totals context (subst (λ (n : ℕ). context < n) (sym (ap length mine.its.plan_is.contexts)) less) in
        let sums = total_now context in
        let many : sights.held_cpus seats'.cpu.cpus ≡ sights.held_cpus seats.cpu.cpus = went.cpus.as_many in
        omega arith;
  }

  pub steady_after : IsSteady p.plan q.work → AreSteady cpu posts seats → AreSteady cpu posts' seats'
  steady_after one steady = record {
    each = each_set (λ (r : Seen). IsSteady r.plan r.work) posts k q steady.each (subst (λ (plan : FlusherPlan). IsSteady plan q.work) (sym same) one);
    rescans = λ page owed.
        let P : Seen → Type 0 = λ (r : Seen). OwesRescan r.plan r.work.phase page in
        ⊎_elim
        (λ (its : OwesRescan p.plan q.work.phase page). any_here P posts k q there (subst (λ (plan : FlusherPlan). OwesRescan plan q.work.phase page) (sym same) its))
        (λ (was : (1 ≤ times_in page (record_of p.plan.cpu seats.cpu.cpus).owed_rescans) × (OwesRescan p.plan p.work.phase page → ⊥)).
        ⊎_elim (λ (still : AnyOf P posts'). still) (λ (it : P p). absurd (was.1 it))
        (any_still P posts k d q (steady.rescans page (subst (λ (c : ℕ). 1 ≤ times_in page (record_of c seats.cpu.cpus).owed_rescans) mine.cpu_is was.0))))
        (went.did.rescans page (subst (λ (c : ℕ). 1 ≤ times_in page (record_of c seats'.cpu.cpus).owed_rescans) (sym mine.cpu_is) owed));
    marks = λ inode owed.
        let P : Seen → Type 0 = λ (r : Seen). OwesMark r.work.phase inode in
        ⊎_elim
        (λ (its : OwesMark q.work.phase inode). any_here P posts k q there its)
        (λ (was : (1 ≤ times_in inode (record_of p.plan.cpu seats.cpu.cpus).owed_marks) × (OwesMark p.work.phase inode → ⊥)).
        ⊎_elim (λ (still : AnyOf P posts'). still) (λ (it : P p). absurd (was.1 it))
        (any_still P posts k d q (steady.marks inode (subst (λ (c : ℕ). 1 ≤ times_in inode (record_of c seats.cpu.cpus).owed_marks) mine.cpu_is was.0))))
        (went.did.marks inode (subst (λ (c : ℕ). 1 ≤ times_in inode (record_of c seats'.cpu.cpus).owed_marks) (sym mine.cpu_is) owed));
  }
