-- Turns of a CPU's side, one after another.
use Rattle.std.proofs.Common.{ℕ, Bool, cond, List, [], ◌++◌, Some, refl, sym, ◌∙◌, subst, arith}
use Rattle.std.specs.List.{sum_by}
use Rattle.std.proofs.lemmas.List.Sums.{sum_by-append}
use Rattle.wbt_run_worker.proofs.Common.{handed, Grows, is_fault, Told, Trace, Kit, Seats, each_append, noted_more, noted_now, Tasks, CutsOff, EndsSo, Goes, HaveEnded, IsSide, Stands, Team, worker_of, written_by, Idled, IsTold, StandsStay, TeamWent}
use Rattle.wbt_run_steps.proofs.Changing.{apart_more}
use Rattle.wbt_run_laws.proofs.Logging.{logged_both, logged_nothing}
use Rattle.wbt_run_worker.specs.Side.{HasEnded}
use Rattle.wbt_run_worker.specs.declared.side.End.{End}
use Rattle.wbt_run_worker.specs.declared.side.End.TheVariants.{Ended, Halted, Faulted, Spent, Refused, Stopped}
use Rattle.wbt_run_worker.specs.declared.side.Post.{Post}
use Rattle.wbt_run_worker.proofs.Posts.{faulted_since, grows_more, grows_nothing, still_more, still_same}

-- ---- of its own trace and CPU

pub own_side : (trace : Trace) (cpu : ℕ) (kit : Kit) (team : Team) (seats : Seats) → IsSide trace cpu kit team seats → IsSide team.desk.trace team.desk.cpu kit team seats
own_side trace cpu kit team seats side =
    subst (λ (t : Trace). IsSide t team.desk.cpu kit team seats) (sym side.stands.desk.trace_is)
    (subst (λ (c : ℕ). IsSide trace c kit team seats) (sym side.stands.desk.cpu_is) side)

-- what holds of its own trace and CPU, where these are others by name
pub as_named : (P : Trace → ℕ → Type 0) (trace : Trace) (cpu : ℕ) (kit : Kit) (team : Team) (seats : Seats) → Stands trace cpu kit team seats
    → P team.desk.trace team.desk.cpu → P trace cpu
as_named P trace cpu kit team seats stands own =
    subst (λ (t : Trace). P t cpu) stands.desk.trace_is (subst (λ (c : ℕ). P team.desk.trace c) stands.desk.cpu_is own)

-- ---- one after another

module _ (told : ℕ → Type 0) (trace : Trace) (cpu : ℕ) (kit : Kit) where
  pub went_nowhere : (team : Team) (seats : Seats) → TeamWent told trace cpu kit team team seats seats
  went_nowhere team seats = record {
    went = record {
      added = [];
      logged = logged_nothing team.log;
      since = noted_now trace kit.published.moment cpu (worker_of trace cpu team seats).shown (worker_of trace cpu team seats).notes;
    };
    moments = tt;
    disks = grows_nothing (written_by team.posts);
    faults = omega arith;
    still = still_same team.posts;
    keeps = record {
      apart = record { others = λ c r other has. has; no_more = λ c r other has. has; timer = refl; layout = refl };
      stakes = λ domain. refl;
      total_stakes = refl;
      queues = λ device. refl;
    };
  }

  pub went_on : (a b c : Team) (s t u : Seats) → TeamWent told trace cpu kit a b s t → TeamWent told trace cpu kit b c t u → TeamWent told trace cpu kit a c s u
  went_on a b c s t u p q = record {
    went = record {
      added = p.went.added ++ q.went.added;
      logged = logged_both p.went.added q.went.added a.log b.log c.log p.went.logged q.went.logged;
      since = noted_more trace kit.published.moment cpu p.went.added q.went.added
          (worker_of trace cpu a s).shown (worker_of trace cpu b t).shown (worker_of trace cpu c u).shown
          (worker_of trace cpu a s).notes (worker_of trace cpu b t).notes (worker_of trace cpu c u).notes p.went.since q.went.since;
    };
    moments = each_append (IsTold told) p.went.added q.went.added p.moments q.moments;
    disks = subst (λ (n : ℕ). Grows (Some n) (written_by a.posts) (written_by c.posts)) (sym (sum_by-append handed p.went.added q.went.added))
        (grows_more (sum_by handed p.went.added) (sum_by handed q.went.added) (written_by a.posts) (written_by b.posts) (written_by c.posts) p.disks q.disks);
    faults = let both = sum_by-append (λ (e : Told). cond (is_fault e) 1 0) p.went.added q.went.added in omega (arith, p.faults, q.faults, both);
    still = still_more a.posts b.posts c.posts p.still q.still;
    keeps = record {
      apart = apart_more cpu s.cpu t.cpu u.cpu p.keeps.apart q.keeps.apart;
      stakes = λ domain. q.keeps.stakes domain ∙ p.keeps.stakes domain;
      total_stakes = q.keeps.total_stakes ∙ p.keeps.total_stakes;
      queues = λ device. q.keeps.queues device ∙ p.keeps.queues device;
    };
  }

  pub goes_nowhere : (team : Team) (seats : Seats) → IsSide trace cpu kit team seats → Goes told trace cpu kit team team seats seats
  goes_nowhere team seats side = record { went = went_nowhere team seats; stands = side.stands }

  pub goes_on : (a b c : Team) (s t u : Seats) → Goes told trace cpu kit a b s t → Goes told trace cpu kit b c t u → Goes told trace cpu kit a c s u
  goes_on a b c s t u p q = record { went = went_on a b c s t u p.went q.went; stands = q.stands }

  -- the same with a turn of the trace and of the CPU that the side has then
  pub goes_more : (a b c : Team) (s t u : Seats) → Goes told trace cpu kit a b s t → Goes told b.desk.trace b.desk.cpu kit b c t u → Goes told trace cpu kit a c s u
  goes_more a b c s t u p q =
      goes_on a b c s t u p (as_named (λ (x : Trace) (y : ℕ). Goes told x y kit b c t u) trace cpu kit b t p.stands q)

-- ---- idle turns

pub stands_more : {D : Type 0} → (a b c : List (Post D)) → StandsStay a b → StandsStay b c → StandsStay a c
stands_more {D} a b c first then = then ∙ first

pub idled_now : (team : Team) (seats : Seats) → Idled team team seats seats
idled_now team seats = record { tasks = refl; cpu = refl; share = refl; est = refl; log = refl }

pub idled_more : (a b c : Team) (s t u : Seats) → Idled a b s t → Idled b c t u → Idled a c s u
idled_more a b c s t u p q = record {
  tasks = q.tasks ∙ p.tasks;
  cpu = q.cpu ∙ p.cpu;
  share = q.share ∙ p.share;
  est = q.est ∙ p.est;
  log = q.log ∙ p.log;
}

pub ended_still : (trace : Trace) (a b : Team) (s t : Seats) → Idled a b s t → HaveEnded trace a → HaveEnded trace b
ended_still trace a b s t idled ended = subst (λ (tasks : Tasks). HasEnded trace tasks) (sym idled.tasks) ended

-- ---- ends since an earlier moment

module _ (told : ℕ → Type 0) (said : ℕ → ℕ → Bool → Type 0) (trace : Trace) (cpu : ℕ) (kit : Kit) (a b c : Team) (s t u : Seats)
    (before : Goes told trace cpu kit a b s t) where
  pub cut_since : (end : End) → Idled a b s t → CutsOff said trace cpu kit end b c t u → CutsOff said trace cpu kit end a c s u
  cut_since Ended idled cut = cut
  cut_since Halted idled cut = cut
  cut_since Faulted idled cut = faulted_since a.posts b.posts c.posts before.went.still cut
  cut_since Spent idled cut = cut
  cut_since Refused idled cut = (cut.0, idled_more a b c s t u idled cut.1)
  cut_since Stopped idled cut = cut

  pub ends_since : (end : End) → CutsOff said trace cpu kit end b c t u → EndsSo said trace cpu kit end a c u
  ends_since Ended cut = absurd cut
  ends_since Halted cut = cut
  ends_since Faulted cut = faulted_since a.posts b.posts c.posts before.went.still cut
  ends_since Spent cut = cut
  ends_since Refused cut = cut.0
  ends_since Stopped cut = absurd cut
