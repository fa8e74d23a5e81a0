-- Where the side of a CPU stands after its worker's turns, on seats that have its record.
use Rattle.std.proofs.Common.{◌≡◌, inl, inr, ⊎_elim, ℕ, ◌≤◌, Bool, true, List, [], ◌∷◌, length, get_or, Option, refl, sym, ap, ◌∙◌, subst, arith}
use Rattle.wbt_run_worker.proofs.Common.{IsPhase, IsSteady, FlusherPlan, Phase, Failed, CpuRecord, times_in, Each, known_of, setting, Has, Trace, Kit, Seats, EndsSo, ArePosted, IsPost, IsSide, Stands, AnyOf, Seen, Team, seen, team_of, IsFaulted, StandsStay, record_of, IsStopped, record_is}
use Rattle.wbt_kit.proofs.Common.{Holds}
use Rattle.wbt_run_worker.specs.Went.{AnyFaulted}
use Rattle.wbt_run_worker.specs.declared.side.CpuSide.{CpuSide}
use Rattle.wbt_run_worker.specs.declared.side.End.{End}
use Rattle.wbt_run_worker.specs.declared.side.End.TheVariants.{Ended, Halted, Faulted, Spent, Refused, Stopped}
use Rattle.wbt_run_worker.specs.declared.side.Post.{Post}
use Rattle.wbt_run_worker.specs.declared.side.Stand.{Stand}
use Rattle.wbt_run_worker.specs.declared.side.Stand.TheVariants.{Open, Done, Out}
use Rattle.wbt_run_drain.specs.Standing.{EndsBy, FaultsAreTold, SideGoesOn, HasFailed, NotHalted, OutBy, SideStands, StandsSo, WasStopped}
use Rattle.wbt_run_drain.specs.Teams.{posts_of}
use Rattle.wbt_run_first.specs.Lent.{IsOpen}

-- ---- flushers

each_post : (P Q : Seen → Type 0) → ((p : Seen) → P p → Q p) → (posts : List Seen) → Each P posts → Each Q posts
each_post P Q h [] all = tt
each_post P Q h (p ∷ posts) all = (h p all.0, each_post P Q h posts all.1)

none_such : (P Q : Seen → Type 0) → ((p : Seen) → P p → Q p → ⊥) → (posts : List Seen) → Each P posts → AnyOf Q posts → ⊥
none_such P Q h [] all any = any
none_such P Q h (p ∷ posts) all any = ⊎_elim (λ (it : Q p). h p all.0 it) (λ (more : AnyOf Q posts). none_such P Q h posts all.1 more) any

-- one that stands where it may has not failed
failed_not : (plan : FlusherPlan) (batch : List ℕ) (phase : Phase) → IsPhase plan batch phase → phase ≡ Failed → ⊥
failed_not plan batch phase may is = subst (IsPhase plan batch) is may

-- where a disk failed for the eighth time its flusher has failed
has_failed : (old new : List Seen) → AnyFaulted old new → AnyOf HasFailed new
has_failed [] new any = absurd any
has_failed (p ∷ old) [] any = absurd any
has_failed (p ∷ old) (q ∷ new) any = ⊎_elim
    (λ (it : IsFaulted p q). inl (record { failed = it.failed; eighth = it.eighth }))
    (λ (more : AnyFaulted old new). inr (has_failed old new more)) any

-- ---- where they stand

abbrev IsOpenStand : Stand → Type 0
IsOpenStand Open = Unit {0}
IsOpenStand Done = ⊥
IsOpenStand (Out end) = ⊥

open_is_not_out : (end : End) → Open ≡ Out end → ⊥
open_is_not_out end is = subst IsOpenStand is tt

abbrev rest_of : List Stand → List Stand
rest_of [] = []
rest_of (x ∷ xs) = xs

module _ {D : Type 0} where
  -- each stands open that stood open
  pub still_open : (old new : List (Post D)) → Each IsOpen old → StandsStay old new → Each (λ (post : Post D). post.stand ≡ Open) new
  still_open [] [] opens stay = tt
  still_open [] (q ∷ new) opens stay = absurd (let n = ap (λ (l : List Stand). length l) stay in omega arith)
  still_open (p ∷ old) [] opens stay = absurd (let n = ap (λ (l : List Stand). length l) stay in omega arith)
  still_open (p ∷ old) (q ∷ new) opens stay =
      (ap (λ (l : List Stand). get_or l 0 Open) stay ∙ opens.0.stands, still_open old new opens.1 (ap rest_of stay))

  open_posts : (P : Post D → Type 0) → ((post : Post D) → post.stand ≡ Open → P post) → (posts : List (Post D)) → Each (λ (post : Post D). post.stand ≡ Open) posts → Each P posts
  open_posts P h [] all = tt
  open_posts P h (p ∷ posts) all = (h p all.0, open_posts P h posts all.1)

  open_steady : (said : ℕ → ℕ → Bool → Type 0) (written : D → Option ℕ) (faults : D → ℕ) (cpu : ℕ) (kit : Kit) (seats : Seats) (posts : List (Post D))
      → Each (λ (post : Post D). post.stand ≡ Open) posts → Each (λ (p : Seen). IsSteady p.plan p.work) (posts_of written faults posts)
      → Each (λ (post : Post D). StandsSo said cpu kit seats post.stand (seen written faults post)) posts
  open_steady said written faults cpu kit seats [] opens steady = tt
  open_steady said written faults cpu kit seats (p ∷ posts) opens steady = (
    subst (λ (stand : Stand). StandsSo said cpu kit seats stand (seen written faults p)) (sym opens.0) steady.0,
    open_steady said written faults cpu kit seats posts opens.1 steady.1,
  )

-- ---- the side

-- these seats have the CPU's record as the others have it, and publish where these do
pub record HasOf (cpu : ℕ) (own all : Seats) : Type 0 where
  pub came : (r : CpuRecord) → Has own.cpu.cpus cpu r → Has all.cpu.cpus cpu r
  pub same : record_of cpu all.cpu.cpus ≡ record_of cpu own.cpu.cpus
  pub rights : (context : ℕ) → (known_of context own.est).publishes ≡ true → (known_of context all.est).publishes ≡ true

module _ {D : Type 0} (said : ℕ → ℕ → Bool → Type 0) (written : D → Option ℕ) (faults : D → ℕ) (trace : Trace) (cpu : ℕ) (kit : Kit) (own all : Seats) (has : HasOf cpu own all) where
  pub posted_there : (posts : List Seen) → ArePosted trace cpu kit posts own → ArePosted trace cpu kit posts all
  posted_there posts posted = record {
    each = each_post (IsPost trace cpu kit own.est) (IsPost trace cpu kit all.est)
        (λ p is. record { its = is.its; suits = is.suits; cpu_is = is.cpu_is; publishes = λ context measured. has.rights context (is.publishes context measured) }) posts posted.each;
    apart = posted.apart;
    held = λ page. ap (λ (r : CpuRecord). times_in page r.held) has.same ∙ posted.held page;
  }

  held_there : (P : CpuRecord → Type 0) → Holds own.cpu.cpus cpu P → Holds all.cpu.cpus cpu P
  held_there P holds = (holds.0, has.came holds.0 holds.1, holds.2)

  module _ (side : CpuSide D) (old : Team) (opens : Each (λ (post : Post D). post.stand ≡ Open) side.posts.items) where
    abbrev new_team : Team
    new_team = team_of written faults side

    goes_there : EndsSo said trace cpu kit Ended old new_team own → SideGoesOn said written faults trace cpu kit side all
    goes_there ends = record {
      ended = ends.1;
      owes_nothing = ap (λ (r : CpuRecord). r.debts) has.same ∙ (subst (λ (c : ℕ). (record_of c own.cpu.cpus).debts ≡ []) ends.0.stands.desk.cpu_is ends.0.writers.owes_nothing);
      each = open_steady said written faults cpu kit all side.posts.items opens ends.0.steady.each;
      none_halted = open_posts NotHalted (λ post is_open is_out. open_is_not_out Halted (sym is_open ∙ is_out)) side.posts.items opens;
      rescans = λ page some. ends.0.steady.rescans page (subst (λ (r : CpuRecord). 1 ≤ times_in page r.owed_rescans) has.same some);
      marks = λ inode some. ends.0.steady.marks inode (subst (λ (r : CpuRecord). 1 ≤ times_in inode r.owed_marks) has.same some);
    }

    stopped_there : IsStopped cpu said own → WasStopped said cpu all
    stopped_there stopped =
        let is = ap (λ (r : CpuRecord). r.steps) (record_is all.cpu.cpus cpu stopped.0 (has.came stopped.0 stopped.1)) in
        record { steps = stopped.0.steps; answer = stopped.2; made = omega arith }

    ends_there : (end : End) → EndsSo said trace cpu kit end old new_team own → EndsBy said written faults trace cpu kit end side all
    ends_there Ended ends = goes_there ends
    ends_there Halted ends = stopped_there ends.0
    ends_there Faulted ends = has_failed old.posts new_team.posts ends
    ends_there Spent ends = held_there (λ (r : CpuRecord). (setting kit.throttle.layout).page_steps ≤ r.page_steps) ends.1
    ends_there Refused ends = tt
    ends_there Stopped ends = tt

    abbrev IsFailed : Seen → Type 0
    IsFailed p = p.work.phase ≡ Failed

    steady_none : IsSide trace cpu kit new_team own → AnyOf IsFailed new_team.posts → ⊥
    steady_none is any = none_such (λ (p : Seen). IsSteady p.plan p.work) IsFailed (λ p steady is_failed. failed_not p.plan p.work.batch.items p.work.phase steady.phase is_failed) new_team.posts is.steady.each any

    none_failed : (end : End) → EndsSo said trace cpu kit end old new_team own → AnyOf IsFailed new_team.posts → end ≡ Faulted
    none_failed Ended ends any = absurd (steady_none ends.0 any)
    none_failed Halted ends any = absurd (none_such (λ (p : Seen). IsFailed p → ⊥) IsFailed (λ p not is. not is) new_team.posts ends.1 any)
    none_failed Faulted ends any = refl
    none_failed Spent ends any = absurd (steady_none ends.0 any)
    none_failed Refused ends any = absurd (steady_none ends any)
    none_failed Stopped ends any = absurd (steady_none ends any)

    pub side_stands : Stands trace cpu kit new_team own → EndsSo said trace cpu kit side.end old new_team own → FaultsAreTold new_team.posts side.log
        → SideStands said written faults trace cpu kit side all
    side_stands stands ends tells = record {
      desk = stands.desk;
      posted = posted_there new_team.posts stands.posted;
      ends = ends_there side.end ends;
      outs = open_posts (λ (post : Post D). (end : End) → post.stand ≡ Out end → OutBy said cpu kit all end (seen written faults post))
          (λ post is_open end is_out. absurd (open_is_not_out end (sym is_open ∙ is_out))) side.posts.items opens;
      failed = λ any. inl (none_failed side.end ends any);
      told = tells;
    }
