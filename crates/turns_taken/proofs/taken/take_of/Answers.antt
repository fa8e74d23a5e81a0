use Rattle.std.proofs.Common.{◌≡◌, ◌<◌, ◌==◌, ℕ, List, [], ◌∷◌, Option, false, length, sym, ◌∙◌, subst, arith, true≢false}
use Rattle.wbt_kit.specs.declared.kit.Kit.{Kit}
use Rattle.wbt_kit.specs.declared.kit.Seats.{Seats}
use Rattle.wbt_run_worker.specs.Side.{IsSide}
use Rattle.wbt_run_worker.specs.Team.{team_of}
use Rattle.wbt_run_worker.specs.declared.worker.Worker.{Worker}
use Rattle.wbt_run_first.specs.Lent.{IsFirstWorker}
use Rattle.wbt_trace.specs.declared.trace.Trace.{Trace}
use Rattle.turns_taken.proofs.taken.take_of.Goals as goal

some_there : {A : Type 0} (xs : List A) → (length xs == 0) ≡ false → 0 < length xs
some_there [] is = absurd (true≢false is)
some_there (x ∷ xs) is = omega arith

-- the side of a first worker is that of its own trace and CPU
own_side : {D : Type 0} (written : D → Option ℕ) (faults : D → ℕ) (trace : Trace) (now cpu : ℕ) {kit : Kit} {first : Seats} (x y : Worker D)
    → IsFirstWorker written faults trace now kit first cpu y → y ≡ x → IsSide x.side.writers.trace x.side.writers.cpu kit (team_of written faults x.side) x.seats
own_side written faults trace now cpu {kit} {first} x y worker is =
    let its = subst (λ (z : Worker _). IsFirstWorker written faults trace now kit first cpu z) is worker in
    let desk = its.is_first.team.desk in
    subst (λ (z : Trace × ℕ). IsSide z.0 z.1 kit (team_of written faults x.side) x.seats) (λ i. (sym desk.trace_is i, sym desk.cpu_is i)) its.side

pub make_moves-requires : goal.make_moves-requires
make_moves-requires g c =
    let made = c.in_ok-workers.ensures.made in
    let all = c.in_ok-workers.workers.items in
    let w = c.index_mut.result.now in
    let some : 0 < length all = subst (λ (l : List (Worker g.row.R-D.Denot)). 0 < length l) c.as_slice.ensures.value (some_there c.as_slice.result.now (sym c.is_empty.ensures ∙ c.if-not-is_empty.true)) in
    let many = made.many in
    record { side = own_side g.R.D.Disk.written g.R.D.Disk.faults c.args.trace.now 1 0 w _ (made.each 0 w (omega arith)) (sym c.index_mut.ensures.value) }
