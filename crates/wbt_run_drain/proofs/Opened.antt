-- The flushers of a device are turned again, one after another, on one CPU after another.
use Rattle.std.proofs.Common.{◌≡◌, ◌≢◌, ℕ, ◌+◌, ◌<◌, ◌≤◌, List, length, get_or, set, refl, sym, ap, ◌∙◌, subst, arith, eq-eqb, ne_eqb, length-set, get_or-set_other, get_or-set_same}
use mathlib.Core.Logic.{dite}
use native.Mathlib.Decide.{ℕ_discrete}
use Rattle.wbt_run_worker.specs.declared.side.CpuSide.{CpuSide}
use Rattle.wbt_run_worker.specs.declared.side.Post.{Post}
use Rattle.wbt_run_worker.specs.declared.side.Stand.TheVariants.{Open}
use Rattle.wbt_kit.proofs.Common.{same_default}
use Rattle.wbt_run_drain.specs.Swept.{AreReopened, IsReopened, reopened}
use Rattle.wbt_run_drain.proofs.Reopening.{reopens, stays_so}
use Rattle.wbt_run_drain.proofs.Sofar.{sofar, sofar_at, sofar_set, sofar_skip}

-- ---- the flushers of a CPU

module _ {D : Type 0} (device : ℕ) (old now : List (Post D)) (i : ℕ) (so_far : now ≡ sofar (reopened device) old i) where
  at_is : (d : Post D) → get_or now i d ≡ get_or old i d
  at_is d = ap (λ (l : List (Post D)). get_or l i d) so_far ∙ sofar_at (reopened device) old i d

  pub opens_next : (d e : Post D) → i < length now → (get_or now i d).flusher.plan.device ≡ device
      → set now i (record (get_or now i e) { stand = Open }) ≡ sofar (reopened device) old (i + 1)
  opens_next d e there its =
      let was = get_or old i e in
      let is : was.flusher.plan.device ≡ device = ap (λ (p : Post D). p.flusher.plan.device) (sym (at_is e) ∙ same_default now i e d there) ∙ its in
      let opened : record (get_or now i e) { stand = Open } ≡ reopened device was =
      ap (λ (p : Post D). record p { stand = Open }) (at_is e) ∙ sym (reopens device was (eq-eqb was.flusher.plan.device device is)) in
      ap (λ (p : Post D). set now i p) opened ∙ ap (λ (l : List (Post D)). set l i (reopened device was)) so_far ∙ sofar_set (reopened device) old i e

  pub skips_next : (d : Post D) → ((get_or now i d).flusher.plan.device ≡ device → ⊥) → now ≡ sofar (reopened device) old (i + 1)
  skips_next d other =
      let was = get_or old i d in
      let not : was.flusher.plan.device ≢ device = λ same. other (ap (λ (p : Post D). p.flusher.plan.device) (at_is d) ∙ same) in
      so_far ∙ sofar_skip (reopened device) old i d (stays_so device was (ne_eqb was.flusher.plan.device device not))

-- ---- of one CPU after another

-- those of the first so many CPUs are
pub record OpenedTo {D : Type 0} (device : ℕ) (old new : List (CpuSide D)) (cpus : ℕ) : Type 0 where
  pub many : length new ≡ length old
  pub opened : (cpu : ℕ) (other : CpuSide D) → cpu < cpus → IsReopened device (get_or old cpu other) (get_or new cpu other)
  pub rest : (cpu : ℕ) (other : CpuSide D) → cpus ≤ cpu → get_or new cpu other ≡ get_or old cpu other

module _ {D : Type 0} (device : ℕ) where
  pub opened_none : (sides : List (CpuSide D)) → OpenedTo device sides sides 0
  opened_none sides = record {
    many = refl;
    opened = λ cpu other less. absurd (omega arith);
    rest = λ cpu other past. refl;
  }

  pub opened_next : (old new : List (CpuSide D)) (cpu : ℕ) (side : CpuSide D) → cpu < length new → OpenedTo device old new cpu
      → ((other : CpuSide D) → IsReopened device (get_or new cpu other) side) → OpenedTo device old (set new cpu side) (cpu + 1)
  opened_next old new cpu side there so_far it = record {
    many = length-set new cpu side ∙ so_far.many;
    opened = λ i other less. dite (ℕ_discrete i cpu)
        (λ same. subst (λ (k : ℕ). IsReopened device (get_or old k other) (get_or (set new cpu side) k other)) (sym same)
        (subst (λ (x : CpuSide D). IsReopened device (get_or old cpu other) x) (sym (get_or-set_same new cpu side other there))
        (subst (λ (x : CpuSide D). IsReopened device x side) (so_far.rest cpu other (omega arith)) (it other))))
        (λ apart. subst (λ (x : CpuSide D). IsReopened device (get_or old i other) x) (sym (get_or-set_other new cpu i side other apart))
        (so_far.opened i other (let ne : i ≢ cpu = apart in omega arith)));
    rest = λ i other past. get_or-set_other new cpu i side other (λ same. omega arith) ∙ so_far.rest i other (omega arith);
  }

  pub opened_all : (old new : List (CpuSide D)) (cpus : ℕ) → length old ≤ cpus → OpenedTo device old new cpus → AreReopened device old new
  opened_all old new cpus past so_far = record { many = so_far.many; each = λ cpu other less. so_far.opened cpu other (omega arith) }
