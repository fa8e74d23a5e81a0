-- How a turn was cut off.
use Rattle.std.proofs.Common.{◌≡◌, ℕ, ◌+◌, ◌<◌, ◌≤◌, Bool, List, [], ◌∷◌, map, length, Option, Some, None, refl, sym, subst, arith}
use Rattle.std.specs.Prelude.{IfNone}
use Rattle.wbt_flusher.proofs.Common.{CpuJournal, Kit, Seats, Turn, Faulted, OnlyQueue, load_of, triple_of, ReadOthers, IsInode, Sight, sight, OnlyWaiting, PutsBefore}
use Rattle.wbt_queue.specs.Order.{HasTaken}
use Rattle.wbt_queue.specs.Passes as queue
use Rattle.wbt_flusher.specs.Answers.{IsSameWork, TurnAnswers}
use Rattle.wbt_flusher.specs.Cut.{AfterPuts, LosesInode, ReadsPart, ReadsSome}
use Rattle.wbt_flusher.specs.Loads.{ReadDomain}
use Rattle.wbt_flusher.specs.declared.background.Read.{Read}
use Rattle.wbt_flusher.specs.declared.background.Test.{Test}
use Rattle.wbt_flusher.specs.declared.plan.FlusherPlan.{FlusherPlan}
use Rattle.wbt_flusher.specs.declared.work.FlusherWork.{FlusherWork}
use Rattle.wbt_flusher.proofs.Ending.{left_more}
use Rattle.wbt_flusher.proofs.Loading.{loaded_more, loaded_none}

-- ---- domains, not all of them

pub some_first : (plan : FlusherPlan) (kit : Kit) (old new : Seats) → 1 ≤ plan.domains → ReadsPart plan kit 0 old new → ReadsSome plan kit 0 old new
some_first plan kit old new some part = record { loads = []; in_order = tt; some_left = omega arith; between = old; loaded = loaded_none plan old; part = part }

pub some_others : (plan : FlusherPlan) (kit : Kit) (domain : ℕ) (global : Read) (over : Bool) (old mid new : Seats) → domain < plan.domains → ReadOthers plan domain global over old mid
    → ReadsPart plan kit domain mid new → ReadsSome plan kit 1 old new
some_others plan kit domain global over old mid new less others part =
    let many = others.each in
    let at : domain ≡ 1 + length others.others = omega arith in
    record {
      loads = others.others;
      in_order = others.in_order;
      some_left = omega arith;
      between = mid;
      loaded = others.loaded;
      part = subst (λ (n : ℕ). ReadsPart plan kit n mid new) at part;
    }

pub some_after : (plan : FlusherPlan) (kit : Kit) (global : Read) (answer : Option Test) (old mid new : Seats) → ReadDomain plan 0 global old mid → IfNone answer (ReadsSome plan kit 1 mid new)
    → IfNone answer (ReadsSome plan kit 0 old new)
some_after plan kit global (Some test) old mid new reads some = tt
some_after plan kit global None old mid new reads some =
    let load = reads.load in
    let left = some.some_left in
    record {
      loads = load ∷ some.loads;
      in_order = (reads.domain_is, some.in_order);
      some_left = omega arith;
      between = some.between;
      loaded = loaded_more plan (load_of load ∷ []) (map load_of some.loads) (triple_of load ∷ []) (map triple_of some.loads) old mid some.between reads.loaded some.loaded;
      part = subst (λ (n : ℕ). ReadsPart plan kit n some.between new) (let at : 1 + length some.loads ≡ 0 + length (load ∷ some.loads) = omega arith in at) some.part;
    }

-- ---- an inode that was taken and not scanned

pub loses : (plan : FlusherPlan) (inode : ℕ) (old mid new : Seats) (was is : FlusherWork) (log : CpuJournal) (written : Option ℕ)
    → HasTaken (queue.known_of plan.device old.queue) inode (queue.known_of plan.device mid.queue) → OnlyQueue old mid → (is ≡ was) × (new ≡ mid) × IsInode plan inode
    → LosesInode plan (sight was old log written) (sight is new log written)
loses plan inode old mid new was is log written taken only left = record {
  inode = inode;
  its = left.2;
  taken = subst (λ (s : Seats). HasTaken (queue.known_of plan.device old.queue) inode (queue.known_of plan.device s.queue)) (sym left.1) taken;
  only = subst (λ (s : Seats). OnlyQueue old s) (sym left.1) only;
  work = left.0;
  told = refl;
}

-- ---- turns

-- one that asks nothing of the disk doesn't fail
pub no_fault : (plan : FlusherPlan) (kit : Kit) (drain : Bool) (told : ℕ → Type 0) (said : ℕ → ℕ → Bool → Type 0) (answer : Turn) (old new : Sight) → answer ≡ Faulted
    → TurnAnswers plan kit drain told said ⊥ answer old new → ⊥
no_fault plan kit drain told said answer old new is answers =
    let acts = subst (λ (t : Turn). TurnAnswers plan kit drain told said ⊥ t old new) is answers in acts.does.cause

-- memory was taken, and inodes that waited were put, and then this was done
pub after_puts : (plan : FlusherPlan) (kit : Kit) (Does : Sight → Sight → Type 0) (was reserved work : FlusherWork) (old seats : Seats) (before pen : CpuJournal) (written : Option ℕ) (new : Sight)
    → IsSameWork was reserved → pen ≡ before → OnlyWaiting plan reserved work → OnlyQueue old seats
    → PutsBefore plan kit (length plan.inodes) old.queue seats.queue reserved.waiting.items work.waiting.items work.some_wait
    → Does (sight work seats pen written) new → AfterPuts plan kit Does (sight was old before written) new
after_puts plan kit Does was reserved work old seats before pen written new s log o q puts does = record {
  put = sight work seats pen written;
  left = left_more (sight was old before written) (sight reserved old pen written) (sight work seats pen written)
      (record { phase = s.phase; batch = s.batch; faults = s.faults; hard = s.hard; tallies = s.tallies; wheel = s.wheel; places = s.places; cpu = refl; share = refl; est = refl; log = log })
      (record { phase = o.phase; batch = λ i. (o.batch i).items; faults = o.faults; hard = o.hard; tallies = o.tallies; wheel = o.wheel; places = o.places; cpu = q.cpu; share = q.share; est = q.est; log = refl });
  puts = subst (λ (l : List Bool). PutsBefore plan kit (length plan.inodes) old.queue seats.queue l work.waiting.items work.some_wait) (λ i. (s.waiting i).items) puts;
  does = does;
}
