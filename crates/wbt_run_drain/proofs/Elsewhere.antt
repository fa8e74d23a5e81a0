-- Sides of CPUs of which the seats keep what they have.
use Rattle.std.proofs.Common.{◌≡◌, ℕ, ◌≤◌, Bool, List, Option, min, refl, ap, ◌∙◌, subst, arith}
use Rattle.wbt_run_worker.proofs.Common.{times_in, CpuRecord, known_of, HasNoPageSteps, setting, Trace, Kit, Seats, ArePosted, Seen, seen, record_of, each_weaker}
use Rattle.wbt_io.specs.Faults.{last_count}
use Rattle.wbt_run_worker.specs.declared.side.CpuSide.{CpuSide}
use Rattle.wbt_run_worker.specs.declared.side.End.{End}
use Rattle.wbt_run_worker.specs.declared.side.End.TheVariants.{Ended, Halted, Faulted, Spent, Refused, Stopped}
use Rattle.wbt_run_worker.specs.declared.side.Post.{Post}
use Rattle.wbt_run_worker.specs.declared.side.Stand.{Stand}
use Rattle.wbt_run_worker.specs.declared.side.Stand.TheVariants.{Open, Done, Out}
use Rattle.wbt_run_worker.proofs.Writing.{posts_still}
use Rattle.wbt_run_drain.specs.Standing.{EndsBy, SideGoesOn, OutBy, SideStands, StandsSo, WasStopped}
use Rattle.wbt_run_drain.specs.Teams.{posts_of}

-- ---- why flushers are out, where a CPU that is spent stays so

module _ (said : ℕ → ℕ → Bool → Type 0) (cpu : ℕ) (kit : Kit) (seats seats' : Seats)
    (spent : HasNoPageSteps (setting kit.throttle.layout) cpu seats.cpu → HasNoPageSteps (setting kit.throttle.layout) cpu seats'.cpu) where
  pub out_still : (end : End) (p : Seen) → (end ≡ Halted → WasStopped said cpu seats → WasStopped said cpu seats') → OutBy said cpu kit seats end p → OutBy said cpu kit seats' end p
  out_still Halted p stopped out = stopped refl out
  out_still Faulted p stopped out = out
  out_still Spent p stopped out = spent out
  out_still Refused p stopped out = tt
  out_still Ended p stopped out = out
  out_still Stopped p stopped out = out

  pub stands_still : (stand : Stand) (p : Seen) → (stand ≡ Out Halted → WasStopped said cpu seats → WasStopped said cpu seats') → StandsSo said cpu kit seats stand p
      → StandsSo said cpu kit seats' stand p
  stands_still Open p stopped so = so
  stands_still Done p stopped so = so
  stands_still (Out end) p stopped so = out_still end p (λ is. stopped (ap (λ (e : End). Out e) is)) so

-- ---- other CPUs

-- the seats keep the CPU's record, and publish for the same contexts
pub record KeepsCpu (cpu : ℕ) (old new : Seats) : Type 0 where
  pub same : record_of cpu new.cpu.cpus ≡ record_of cpu old.cpu.cpus
  pub spent : (kit : Kit) → HasNoPageSteps (setting kit.throttle.layout) cpu old.cpu → HasNoPageSteps (setting kit.throttle.layout) cpu new.cpu
  pub right : (context : ℕ) → (known_of context new.est).publishes ≡ (known_of context old.est).publishes

-- The CPU has made no fewer steps. It holds its pages still, and owes counters what it owed, and no rescan or mark that it didn't owe. It stays
-- spent, and publishes for the same contexts.
pub record KeepsSide (cpu : ℕ) (kit : Kit) (old new : Seats) : Type 0 where
  pub made : min (record_of cpu old.cpu.cpus).steps last_count ≤ (record_of cpu new.cpu.cpus).steps
  pub held : (record_of cpu new.cpu.cpus).held ≡ (record_of cpu old.cpu.cpus).held
  pub debts : (record_of cpu new.cpu.cpus).debts ≡ (record_of cpu old.cpu.cpus).debts
  pub rescans : (page : ℕ) → 1 ≤ times_in page (record_of cpu new.cpu.cpus).owed_rescans → 1 ≤ times_in page (record_of cpu old.cpu.cpus).owed_rescans
  pub marks : (inode : ℕ) → 1 ≤ times_in inode (record_of cpu new.cpu.cpus).owed_marks → 1 ≤ times_in inode (record_of cpu old.cpu.cpus).owed_marks
  pub spent : HasNoPageSteps (setting kit.throttle.layout) cpu old.cpu → HasNoPageSteps (setting kit.throttle.layout) cpu new.cpu
  pub right : (context : ℕ) → (known_of context new.est).publishes ≡ (known_of context old.est).publishes

pub keeps_side : (cpu : ℕ) (kit : Kit) (old new : Seats) → KeepsCpu cpu old new → KeepsSide cpu kit old new
keeps_side cpu kit old new keeps = record {
  made = (let same = ap (λ (r : CpuRecord). r.steps) keeps.same in omega arith);
  held = ap (λ (r : CpuRecord). r.held) keeps.same;
  debts = ap (λ (r : CpuRecord). r.debts) keeps.same;
  rescans = λ page owed. subst (λ (r : CpuRecord). 1 ≤ times_in page r.owed_rescans) keeps.same owed;
  marks = λ inode owed. subst (λ (r : CpuRecord). 1 ≤ times_in inode r.owed_marks) keeps.same owed;
  spent = keeps.spent kit;
  right = keeps.right;
}

module _ {D : Type 0} (said : ℕ → ℕ → Bool → Type 0) (written : D → Option ℕ) (faults : D → ℕ) (trace : Trace) (cpu : ℕ) (kit : Kit) (side : CpuSide D) (seats seats' : Seats)
    (keeps : KeepsSide cpu kit seats seats') where
  posted_still : (posts : List Seen) → ArePosted trace cpu kit posts seats → ArePosted trace cpu kit posts seats'
  posted_still posts posted = record {
    each = posts_still trace cpu kit seats.est seats'.est posts keeps.right posted.each;
    apart = posted.apart;
    held = λ page. ap (times_in page) keeps.held ∙ posted.held page;
  }

  stopped_still : WasStopped said cpu seats → WasStopped said cpu seats'
  stopped_still was = record { steps = was.steps; answer = was.answer; made = (let before = was.made in let since = keeps.made in omega arith) }

  goes_still : SideGoesOn said written faults trace cpu kit side seats → SideGoesOn said written faults trace cpu kit side seats'
  goes_still goes = record {
    ended = goes.ended;
    owes_nothing = keeps.debts ∙ goes.owes_nothing;
    each = each_weaker (λ (post : Post D). StandsSo said cpu kit seats post.stand (seen written faults post))
        (λ (post : Post D). StandsSo said cpu kit seats' post.stand (seen written faults post))
        (λ post so. stands_still said cpu kit seats seats' keeps.spent post.stand (seen written faults post) (λ is. stopped_still) so) side.posts.items goes.each;
    none_halted = goes.none_halted;
    rescans = λ page owed. goes.rescans page (keeps.rescans page owed);
    marks = λ inode owed. goes.marks inode (keeps.marks inode owed);
  }

  ends_still : (end : End) → EndsBy said written faults trace cpu kit end side seats → EndsBy said written faults trace cpu kit end side seats'
  ends_still Ended ends = goes_still ends
  ends_still Halted ends = stopped_still ends
  ends_still Faulted ends = ends
  ends_still Spent ends = keeps.spent ends
  ends_still Refused ends = tt
  ends_still Stopped ends = tt

  pub side_still : SideStands said written faults trace cpu kit side seats → SideStands said written faults trace cpu kit side seats'
  side_still stands = record {
    desk = stands.desk;
    posted = posted_still (posts_of written faults side.posts.items) stands.posted;
    ends = ends_still side.end stands.ends;
    outs = each_weaker (λ (post : Post D). (end : End) → post.stand ≡ Out end → OutBy said cpu kit seats end (seen written faults post))
        (λ (post : Post D). (end : End) → post.stand ≡ Out end → OutBy said cpu kit seats' end (seen written faults post))
        (λ post outs end out. out_still said cpu kit seats seats' keeps.spent end (seen written faults post) (λ is. stopped_still) (outs end out)) side.posts.items stands.outs;
    failed = stands.failed;
    told = stands.told;
  }
