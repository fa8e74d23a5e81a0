-- Where each flusher is done no inode waits for its age.
use Rattle.std.proofs.Common.{◌≡◌, ℕ, suc, ◌<◌, Bool, List, [], ◌∷◌, length, get_or, Option, subst, arith}
use Rattle.wbt_run_worker.proofs.Common.{list_by, Each, Trace, Kit, Seats, seen}
use Rattle.wbt_run_worker.specs.declared.side.CpuSide.{CpuSide}
use Rattle.wbt_run_worker.specs.declared.side.End.{End}
use Rattle.wbt_run_worker.specs.declared.side.Post.{Post}
use Rattle.wbt_run_worker.specs.declared.side.Stand.{Stand}
use Rattle.wbt_run_worker.specs.declared.side.Stand.TheVariants.{Done}
use Rattle.wbt_run_worker.proofs.Lists.{each_at}
use Rattle.wbt_run_drain.specs.Ends.{HasEnded, HaveEnded}
use Rattle.wbt_run_drain.specs.Standing.{AreAllDone, AreStanding, EndsBy, NoneWaitsForAge, StandsSo}

each_by : {A : Type 0} (P : A → Type 0) (xs : List A) → ((k : ℕ) (d : A) → k < length xs → P (get_or xs k d)) → Each P xs
each_by P [] all = tt
each_by P (x ∷ xs) all = (all 0 x (omega arith), each_by P xs (λ k d less. all (suc k) d (omega arith)))

module _ {D : Type 0} (told : ℕ → Type 0) (said : ℕ → ℕ → Bool → Type 0) (written : D → Option ℕ) (faults : D → ℕ) (trace : Trace) (kit : Kit)
    (sides : List (CpuSide D)) (seats : Seats) (stands : AreStanding told said written faults trace kit sides seats) (ended : HaveEnded sides) (done : AreAllDone sides) where
  abbrev NoneWaits : (post : Post D) → Type 0
  NoneWaits post = list_by post.flusher.work ≡ []

  in_posts : (cpu : ℕ) (posts : List (Post D)) → Each (λ (post : Post D). StandsSo said cpu kit seats post.stand (seen written faults post)) posts
      → Each (λ (post : Post D). post.stand ≡ Done) posts → Each NoneWaits posts
  in_posts cpu [] so all = tt
  in_posts cpu (x ∷ xs) so all =
      let here = subst (λ (stand : Stand). StandsSo said cpu kit seats stand (seen written faults x)) all.0 so.0 in
      (here.2, in_posts cpu xs so.1 all.1)

  in_side : (cpu : ℕ) (d : CpuSide D) → cpu < length sides → Each NoneWaits (get_or sides cpu d).posts.items
  in_side cpu d less =
      let side = get_or sides cpu d in
      let its = stands.each cpu d (subst (λ (n : ℕ). cpu < n) stands.many less) in
      let end = each_at HasEnded sides cpu d less ended in
      let goes = subst (λ (e : End). EndsBy said written faults trace cpu kit e side seats) end.ended its.ends in
      in_posts cpu side.posts.items goes.each (each_at (λ (s : CpuSide D). Each (λ (post : Post D). post.stand ≡ Done) s.posts.items) sides cpu d less done)

  pub none_age : NoneWaitsForAge sides
  none_age = each_by (λ (side : CpuSide D). Each NoneWaits side.posts.items) sides in_side
