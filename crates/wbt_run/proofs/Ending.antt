-- Who was told to stop, from the end of the workers to that of the run.
use Rattle.std.proofs.Common.{◌≡◌, ◌⊎◌, ⊎_elim, ℕ, suc, ◌<◌, Bool, true, false, true≢false, List, [], ◌∷◌, length, get_or, Option, sym, ◌∙◌, subst, arith}
use Rattle.wbt_run_worker.proofs.Common.{Each, Trace, Kit, Seats, each_weaker, seen}
use Rattle.wbt_run_worker.specs.declared.side.CpuSide.{CpuSide}
use Rattle.wbt_run_worker.specs.declared.side.End.{End}
use Rattle.wbt_run_worker.specs.declared.side.End.TheVariants.{Ended, Faulted, Spent, Refused, Stopped}
use Rattle.wbt_run_worker.specs.declared.side.Post.{Post}
use Rattle.wbt_run_worker.specs.declared.side.Stand.TheVariants.{Out}
use Rattle.wbt_run_worker.proofs.Lists.{each_at}
use Rattle.wbt_run_drain.specs.Ends.{Any, EndsSo, HasCauseToStop, HasEnded, HaveEnded, IsOut, SomeEnds}
use Rattle.wbt_run_drain.specs.Standing.{AreStanding, NoneStopped, OutBy}
use Rattle.wbt_run_first.specs.Voiced.{OutForCause, StopsForCause}
use Rattle.wbt_run.proofs.Causes.{each_of}

module _ {D : Type 0} where
  -- the drain tells none to stop
  pub stops_after : (old new : List (CpuSide D)) (refused : Bool) → StopsForCause refused old → (NoneStopped old → NoneStopped new) → NoneStopped old ⊎ (new ≡ old)
      → StopsForCause refused new
  stops_after old new refused stops went comes = ⊎_elim
      (λ (none_stopped : NoneStopped old) (cpu : ℕ) (other : CpuSide D) less is. absurd (went none_stopped cpu other less is))
      (λ (same : new ≡ old). subst (λ (l : List (CpuSide D)). StopsForCause refused l) (sym same) stops) comes

  pub none_stopped : (sides : List (CpuSide D)) → HaveEnded sides → NoneStopped sides
  none_stopped sides ended cpu other less is = let e : Ended ≡ Stopped = sym (each_at HasEnded sides cpu other less ended).ended ∙ is in absurd (cc e)

  out_not : (posts : List (Post D)) → Each (λ (post : Post D). post.stand ≡ Out Stopped → ⊥) posts → Any (IsOut Stopped) posts → ⊥
  out_not [] none any = any
  out_not (post ∷ more) none any = ⊎_elim (λ (is : IsOut Stopped post). none.0 is) (λ (rest : Any (IsOut Stopped) more). out_not more none.1 rest) any

  -- a place where one was told to stop
  record IsStoppedAt (sides : List (CpuSide D)) : Type 0 where
    cpu : ℕ
    side : CpuSide D
    there : cpu < length sides
    stopped : (other : CpuSide D) → (get_or sides cpu other).end ≡ Stopped

  stopped_at : (sides : List (CpuSide D)) → OutForCause sides → SomeEnds Stopped sides → IsStoppedAt sides
  stopped_at [] outs any = absurd any
  stopped_at (side ∷ more) outs any = ⊎_elim
      (λ (here : EndsSo Stopped side). ⊎_elim
      (λ (is : side.end ≡ Stopped). record { cpu = 0; side = side; there = omega arith; stopped = λ other. is })
      (λ (out : Any (IsOut Stopped) side.posts.items). absurd (out_not side.posts.items outs.0 out)) here)
      (λ (there : SomeEnds Stopped more). let rest = stopped_at more outs.1 there in let low = rest.there in
      record { cpu = suc rest.cpu; side = rest.side; there = omega arith; stopped = rest.stopped }) any

  pub has_cause : (sides : List (CpuSide D)) (refused : Bool) → StopsForCause refused sides → OutForCause sides → refused ≡ false → HasCauseToStop sides
  has_cause sides refused stops outs not_refused some =
      let at = stopped_at sides outs some in
      ⊎_elim (λ (was : refused ≡ true). absurd (true≢false (sym was ∙ not_refused))) (λ (other : SomeEnds Refused sides ⊎ (SomeEnds Faulted sides ⊎ SomeEnds Spent sides)). other)
      (stops at.cpu at.side at.there (at.stopped at.side))

  -- ---- flushers

  pub out_for_cause : (told : ℕ → Type 0) (said : ℕ → ℕ → Bool → Type 0) (written : D → Option ℕ) (faults : D → ℕ) (trace : Trace) (kit : Kit) (sides : List (CpuSide D)) (seats : Seats)
      → AreStanding told said written faults trace kit sides seats → OutForCause sides
  out_for_cause told said written faults trace kit sides seats standing = each_of (λ (side : CpuSide D). Each (λ (post : Post D). post.stand ≡ Out Stopped → ⊥) side.posts.items) sides
      (λ k side less is.
      each_weaker (λ (post : Post D). (end : End) → post.stand ≡ Out end → OutBy said k kit seats end (seen written faults post)) (λ (post : Post D). post.stand ≡ Out Stopped → ⊥)
      (λ post cause is_out. cause Stopped is_out) side.posts.items
      (subst (λ (s : CpuSide D). Each (λ (post : Post D). (end : End) → post.stand ≡ Out end → OutBy said k kit seats end (seen written faults post)) s.posts.items) (is side)
      (standing.each k side (subst (λ (n : ℕ). k < n) standing.many less)).outs))
