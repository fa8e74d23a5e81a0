-- A turn of the writers as a turn of their CPU's side.
use Rattle.std.proofs.Common.{◌≡◌, ℕ, Bool, List, length, Some, IfSome, Contains, sym, ap, ◌∙◌, subst, arith}
use Rattle.wbt_run_worker.proofs.Common.{times_in, Grows, Each, Flight, Wait, effect, moment_of, contexts, domains, Told, CheckEntry, CpuJournal, EstEntry, known_of, HasNoPageSteps, setting, Seated, Trace, waited_at, IsPhase, IsSteady, Phase, Failed, Kit, Seats, Turn, if_none, if_weaker, each_weaker, Desk, Tasks, Goes, JobAnswers, job_by, HaveEnded, IsPost, IsSide, Stands, Seen, Team, owed_in, owed_totals, flusher_at, worker_of, written_by, Idled, IsTold, TeamWent}
use Rattle.wbt_kit.proofs.Common.{TotalSeated}
use Rattle.wbt_kit.specs.declared.turn.Turn.TheVariants as turn
use Rattle.wbt_published.specs.Passes as est
use Rattle.wbt_run_laws.specs.Owns.{IsOfWriters}
use Rattle.wbt_run_laws.specs.Noted.{NotedWriterTurn}
use Rattle.wbt_run_laws.proofs.Noting.{noted_of_writers}
use Rattle.wbt_writer.specs.Answers.{Idles, MayGoOn, Turned, WriterAnswers}
use Rattle.wbt_writer.specs.Choice.{AllEnded}
use Rattle.wbt_writer.specs.Desk.{Fits, IsAtKit, IsReady, Sight, sight}
use Rattle.wbt_writer.specs.Over.{IsAllDone}
use Rattle.wbt_writer.specs.Did.{IsTimed, OwesNoMore}
use Rattle.wbt_run_worker.specs.Side.{NoneFailed}
use Rattle.wbt_run_worker.proofs.Backing.{Grown, backed_still, no_faults, none_handed}
use Rattle.wbt_run_worker.proofs.Lists.{each_and, has_it}
use Rattle.wbt_run_worker.proofs.Posts.{grows_nothing, still_same}

-- a moment of these was told
told_so : (told : ℕ → Type 0) (moments : List ℕ) → Each told moments → (entry : Told) → IsOfWriters entry → IsTimed moments entry → IsTold told entry
told_so told moments all entry of timed = record {
  check = if_weaker (λ (check : CheckEntry). Contains moments check.now) (λ (check : CheckEntry). told check.now)
      (λ check has. has_it told moments check.now all has) (effect entry).check timed;
  batch = if_none (λ (flight : Flight). IfSome (moment_of flight.move) told) (effect entry).flight of.no_flight;
  estimate = if_none (λ (est : EstEntry). told est.estimate.at) (effect entry).estimate of.no_estimate;
  wait = if_none (λ (wait : Wait). IfSome (waited_at wait.move) told) (effect entry).wait of.no_wait;
}

-- a flusher that stands where it may hasn't failed
not_failed : (p : Seen) → IsSteady p.plan p.work → p.work.phase ≡ Failed → ⊥
not_failed p steady failed = subst (λ (phase : Phase). IsPhase p.plan p.work.batch.items phase) failed steady.phase

pub none_failed : (posts : List Seen) → Each (λ (p : Seen). IsSteady p.plan p.work) posts → NoneFailed posts
none_failed posts steady = each_weaker (λ (p : Seen). IsSteady p.plan p.work) (λ (p : Seen). p.work.phase ≡ Failed → ⊥) not_failed posts steady

-- posts with another pass, which publishes for what it did
pub posts_still : (trace : Trace) (cpu : ℕ) (kit : Kit) (old new : est.Seats) (posts : List Seen)
    → ((context : ℕ) → (known_of context new).publishes ≡ (known_of context old).publishes) → Each (IsPost trace cpu kit old) posts → Each (IsPost trace cpu kit new) posts
posts_still trace cpu kit old new posts right all = each_weaker (IsPost trace cpu kit old) (IsPost trace cpu kit new)
    (λ p post. record { its = post.its; suits = post.suits; cpu_is = post.cpu_is; publishes = λ context measured. right context ∙ post.publishes context measured }) posts all

module _ (told : ℕ → Type 0) (said : ℕ → ℕ → Bool → Type 0) (kit : Kit) (answer : Turn) (old : Team) (desk : Desk) (log : CpuJournal) (seats seats' : Seats)
    (side : IsSide old.desk.trace old.desk.cpu kit old seats) (fixed : (desk.trace ≡ old.desk.trace) × (desk.cpu ≡ old.desk.cpu))
    (at_kit : IsAtKit desk kit) (fits : Fits desk.cpu kit seats')
    (turned : Turned told said old.desk.trace old.desk.cpu kit answer (sight old.desk.work seats old.log) (sight desk.work seats' log)) where
  abbrev new : Team
  new = record { desk = desk; posts = old.posts; log = log }

  abbrev cpu : ℕ
  cpu = old.desk.cpu

  abbrev trace : Trace
  trace = old.desk.trace

  noted : NotedWriterTurn trace kit.published.moment cpu turned.added (worker_of trace cpu old seats).shown (worker_of trace cpu new seats').shown
      (worker_of trace cpu old seats).notes (worker_of trace cpu new seats').notes
  noted = turned.did.turn (flusher_at old.posts)

  pub writers_went : TeamWent told trace cpu kit old new seats seats'
  writers_went = record {
    went = record {
      added = turned.added;
      logged = turned.did.logged;
      since = noted_of_writers trace kit.published.moment cpu turned.added (worker_of trace cpu old seats).shown (worker_of trace cpu new seats').shown
          (worker_of trace cpu old seats).notes (worker_of trace cpu new seats').notes noted;
    };
    moments = each_and IsOfWriters (IsTimed turned.moments) (IsTold told) (told_so told turned.moments turned.were_told) turned.added noted.turn.of_writers turned.did.moments;
    disks = subst (λ (n : ℕ). Grows (Some n) (written_by old.posts) (written_by old.posts)) (sym (none_handed turned.added noted.turn.of_writers))
        (grows_nothing (written_by old.posts));
    faults = let none = no_faults turned.added noted.turn.of_writers in omega (arith, none);
    still = still_same old.posts;
    keeps = record {
      apart = turned.did.keeps.apart;
      stakes = turned.did.keeps.stakes;
      total_stakes = ap (λ (t : TotalSeated). t.stakes) turned.did.keeps.totals;
      queues = turned.did.keeps.queues;
    };
  }

  fits_now : Fits cpu kit seats'
  fits_now = subst (λ (c : ℕ). Fits c kit seats') fixed.1 fits

  grown : Grown cpu turned.added seats seats'
  grown = record {
    long = side.stands.fits.seats_are.each_cpu ∙ sym fits_now.seats_are.each_cpu;
    had = side.stands.fits.held;
    has = fits_now.held;
    apart = turned.did.keeps.apart;
    of_writers = noted.turn.of_writers;
    grew = noted.turn.grew;
    few = turned.did.keeps.few;
    rooms = turned.did.keeps.rooms;
    totals = turned.did.keeps.totals;
  }

  pub writers_stand : Stands trace cpu kit new seats'
  writers_stand = record {
    desk = record { trace_is = fixed.0; cpu_is = fixed.1; at_kit = at_kit };
    fits = fits_now;
    posted = record {
      each = posts_still trace cpu kit seats.est seats'.est old.posts (λ context. (noted.estimates.each context).right) side.stands.posted.each;
      apart = side.stands.posted.apart;
      held = λ page. ap (times_in page) turned.did.keeps.held ∙ side.stands.posted.held page;
    };
    backed = backed_still cpu turned.added seats seats' grown (domains trace) (contexts trace) (owed_in old.posts) (owed_totals old.posts) side.stands.backed;
  }

  pub writers_goes : Goes told trace cpu kit old new seats seats'
  writers_goes = record { went = writers_went; stands = writers_stand }

  -- where they may go on
  pub side_still : IsReady desk kit seats' → OwesNoMore desk.cpu seats seats' → IsSide trace cpu kit new seats'
  side_still ready owes = record {
    stands = writers_stand;
    writers = ready;
    steady = record {
      each = side.steady.each;
      rescans = λ page owed. side.steady.rescans page (turned.did.keeps.rescans page owed);
      marks = λ inode owed. side.steady.marks inode (subst (λ (c : ℕ). OwesNoMore c seats seats') fixed.1 owes inode owed);
    };
  }

  ended_now : desk.work.tasks ≡ old.desk.work.tasks → AllEnded old.desk.work.tasks 0 (length old.desk.work.tasks.tasks.items) → IsAllDone trace desk.work.tasks
      → HaveEnded trace new
  ended_now same ended over = record { all = subst (λ (t : Tasks). AllEnded t 0 (length t.tasks.items)) (sym same) ended; done = over }

  idled : Idles (sight old.desk.work seats old.log) (sight desk.work seats' log) → desk.work.tasks ≡ old.desk.work.tasks → Idled old new seats seats'
  idled idles same = record { tasks = same; cpu = idles.cpu; share = idles.share; est = idles.est; log = idles.log }

  still_spent : seats'.cpu ≡ seats.cpu → HasNoPageSteps (setting kit.throttle.layout) cpu seats.cpu → HasNoPageSteps (setting kit.throttle.layout) cpu seats'.cpu
  still_spent same none = subst (λ (s : Seated). HasNoPageSteps (setting kit.throttle.layout) cpu s) (sym same) none

  pub untouched : sight desk.work seats' log ≡ sight old.desk.work seats old.log → Idled old new seats seats'
  untouched e = record {
    tasks = ap (λ (s : Sight). s.work.tasks) e;
    cpu = ap (λ (s : Sight). s.seats.cpu) e;
    share = ap (λ (s : Sight). s.seats.share) e;
    est = ap (λ (s : Sight). s.seats.est) e;
    log = ap (λ (s : Sight). s.log) e;
  }

  pub writers_answer_by : (a : Turn) → WriterAnswers told said trace cpu kit a turned.added (sight old.desk.work seats old.log) (sight desk.work seats' log)
      → MayGoOn a kit old.desk desk seats seats' → JobAnswers said trace cpu kit (job_by a) old new seats seats'
  writers_answer_by turn.Stepped answers may = side_still may.0 may.1
  writers_answer_by (turn.Resting now until) answers may = (side_still may.0 may.1, idled answers.2 answers.3)
  writers_answer_by turn.Done answers may = (side_still may.0 may.1, idled answers.2 answers.3, ended_now answers.3 answers.1 answers.4)
  writers_answer_by turn.Halted answers may = (answers.3, none_failed old.posts side.steady.each)
  writers_answer_by turn.Faulted answers may = absurd answers
  writers_answer_by turn.Spent answers may = (side_still may.0 may.1, still_spent answers.4.cpu answers.3)
  writers_answer_by turn.NoMemory answers may = (side_still may.0 may.1, untouched answers)
