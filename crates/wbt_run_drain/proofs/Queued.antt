-- What is known of the devices' queues, before a turn of a flusher and after it.
use Rattle.std.proofs.Common.{◌≡◌, inl, inr, ⊎_elim, ℕ, zero, suc, ◌^◌, ◌<◌, Bool, true, List, [], ◌∷◌, length, get_or, set, Option, sym, ap, ◌∙◌, subst, arith}
use Rattle.std.proofs.lemmas.List.{map-set}
use mathlib.Core.Logic.{dite}
use native.Mathlib.Decide.{ℕ_discrete}
use Rattle.wbt_run_worker.proofs.Common.{FlusherAnswers, Sight, FlusherPlan, HasRisen, Each, Trace, Kit, Seats, Turn, job_by, AnyOf, Seen, Team, team_of}
use Rattle.wbt_kit.proofs.Common.{AreAllTaken}
use Rattle.wbt_kit.specs.declared.turn.Turn.TheVariants as turn
use Rattle.wbt_queue.specs.Passes as queue
use Rattle.wbt_queue.specs.Passes.{known_of}
use Rattle.wbt_run_steps.specs.Queues.{OnlyDevice}
use Rattle.wbt_run_worker.specs.declared.round.JobOutcome.{JobOutcome}
use Rattle.wbt_run_worker.specs.declared.side.CpuSide.{CpuSide}
use Rattle.wbt_run_worker.specs.declared.side.End.{End}
use Rattle.wbt_run_worker.specs.declared.side.Post.{Post}
use Rattle.wbt_run_worker.specs.declared.side.Stand.{Stand}
use Rattle.wbt_run_worker.specs.declared.side.Stand.TheVariants.{Open, Done, Out}
use Rattle.wbt_run_worker.proofs.Lists.{map_at}
use Rattle.wbt_run_drain.specs.Ends.{Any}
use Rattle.wbt_run_drain.specs.Standing.{AreAllDone, AreDoneAt, AreQueued, AreStanding, HasFlusher, NothingWaits}
use Rattle.wbt_run_drain.specs.Teams.{teams_of}
use Rattle.wbt_run_drain.specs.Turned.{stand_by}
use Rattle.wbt_run_drain.proofs.Showing.{in_sides}
use Rattle.wbt_run_drain.proofs.Taking.{TakesTurn, before, behind_is, d, new, old, q, same_plan, went}

-- ---- lists of which one item changes

module _ {A : Type 0} (P : A → Type 0) where
  any_changed : (xs : List A) (i : ℕ) (x e : A) → (P (get_or xs i e) → P x) → Any P xs → Any P (set xs i x)
  any_changed [] i x e h any = any
  any_changed (a ∷ xs) zero x e h any = ⊎_elim (λ (here : P a). inl (h here)) (λ (more : Any P xs). inr more) any
  any_changed (a ∷ xs) (suc i) x e h any = ⊎_elim (λ (here : P a). inl here) (λ (more : Any P xs). inr (any_changed xs i x e h more)) any

  -- what each item is now the one that changed is, and each was before, where that was it too
  each_here : (xs : List A) (i : ℕ) (x : A) → i < length xs → Each P (set xs i x) → P x
  each_here [] i x there each = absurd (omega arith)
  each_here (a ∷ xs) zero x there each = each.0
  each_here (a ∷ xs) (suc i) x there each = each_here xs i x (omega arith) each.1

  each_back : (xs : List A) (i : ℕ) (x e : A) → P (get_or xs i e) → Each P (set xs i x) → Each P xs
  each_back [] i x e was each = tt
  each_back (a ∷ xs) zero x e was each = (was, each.1)
  each_back (a ∷ xs) (suc i) x e was each = (each.0, each_back xs i x e was each.1)

  each_so : (Q : A → Type 0) → ((x : A) → Q x → P x) → (xs : List A) → Each Q xs → Each P xs
  each_so Q h [] each = tt
  each_so Q h (a ∷ xs) each = (h a each.0, each_so Q h xs each.1)

any_of_changed : (P : Seen → Type 0) (xs : List Seen) (i : ℕ) (x e : Seen) → (P (get_or xs i e) → P x) → AnyOf P xs → AnyOf P (set xs i x)
any_of_changed P [] i x e h any = any
any_of_changed P (a ∷ xs) zero x e h any = ⊎_elim (λ (here : P a). inl (h here)) (λ (more : AnyOf P xs). inr more) any
any_of_changed P (a ∷ xs) (suc i) x e h any = ⊎_elim (λ (here : P a). inl here) (λ (more : AnyOf P xs). inr (any_of_changed P xs i x e h more)) any

-- ---- one that is done

open_isnt_done : Open ≡ Done → ⊥
open_isnt_done e = cc

out_isnt_done : (end : End) → Out end ≡ Done → ⊥
out_isnt_done end e = cc

-- a flusher that is done after its turn found its queue empty
by_done : (plan : FlusherPlan) (kit : Kit) (told : ℕ → Type 0) (said : ℕ → ℕ → Bool → Type 0) (risen : Type 0) (t : Turn) (first last : Sight) → stand_by (job_by t) Open ≡ Done
    → FlusherAnswers plan kit true told said risen t first last → (known_of plan.device last.seats.queue).stakes ≡ 2 ^ 32 → AreAllTaken (known_of plan.device last.seats.queue)
by_done plan kit told said risen turn.Stepped first last is answers all = absurd (open_isnt_done is)
by_done plan kit told said risen (turn.Resting now until) first last is answers all = absurd (open_isnt_done is)
by_done plan kit told said risen turn.Done first last is answers all = answers.does.whole all
by_done plan kit told said risen turn.Halted first last is answers all = absurd (out_isnt_done _ is)
by_done plan kit told said risen turn.Faulted first last is answers all = absurd (out_isnt_done _ is)
by_done plan kit told said risen turn.Spent first last is answers all = absurd (out_isnt_done _ is)
by_done plan kit told said risen turn.NoMemory first last is answers all = absurd (out_isnt_done _ is)

-- ---- all of them

-- where each flusher is done each number was taken
pub nothing_waits : {D : Type 0} (told : ℕ → Type 0) (said : ℕ → ℕ → Bool → Type 0) (written : D → Option ℕ) (faults : D → ℕ) (trace : Trace) (kit : Kit) (sides : List (CpuSide D))
    (seats : Seats) → AreStanding told said written faults trace kit sides seats → AreAllDone sides → NothingWaits trace seats
nothing_waits {D} told said written faults trace kit sides seats stands done device low =
    let Its = λ (post : Post D). post.flusher.plan.device ≡ device → post.stand ≡ Done in
    let IsDone = λ (post : Post D). post.stand ≡ Done in
    stands.queued.emptied device low
    (each_so (λ (side : CpuSide D). Each Its side.posts.items) (λ (side : CpuSide D). Each IsDone side.posts.items)
    (λ side all. each_so Its IsDone (λ post is its. is) side.posts.items all) sides done)

-- where the passes stay
pub queued_same : {D : Type 0} (written : D → Option ℕ) (faults : D → ℕ) (trace : Trace) (kit : Kit) (sides : List (CpuSide D)) (first last : Seats) → last.queue ≡ first.queue
    → AreQueued written faults trace kit sides first → AreQueued written faults trace kit sides last
queued_same written faults trace kit sides first last same queued = record {
  stakes = λ device low. ap (λ (s : queue.Seats). (known_of device s).stakes) same ∙ queued.stakes device low;
  many = queued.many;
  flushers = queued.flushers;
  emptied = λ device low done. subst AreAllTaken (sym (ap (known_of device) same)) (queued.emptied device low done);
}

-- where a device's queue got or gave numbers, one of whose flushers isn't done
pub queued_put : {D : Type 0} (written : D → Option ℕ) (faults : D → ℕ) (trace : Trace) (kit : Kit) (sides : List (CpuSide D)) (first last : Seats) (device : ℕ)
    → OnlyDevice device first.queue last.queue → (device < length trace.devices → AreDoneAt device sides → ⊥) → AreQueued written faults trace kit sides first
    → AreQueued written faults trace kit sides last
queued_put written faults trace kit sides first last device only goes_on queued = record {
  stakes = λ x low. only.stakes x ∙ queued.stakes x low;
  many = queued.many;
  flushers = queued.flushers;
  emptied = λ x low done. dite (ℕ_discrete x device)
      (λ same. absurd (goes_on (subst (λ (n : ℕ). n < length trace.devices) same low) (subst (λ (n : ℕ). AreDoneAt n sides) same done)))
      (λ other. subst AreAllTaken (sym (only.others x other)) (queued.emptied x low done));
}

-- ---- a turn

module _ {D : Type 0} {told : ℕ → Type 0} {said : ℕ → ℕ → Bool → Type 0} {written : D → Option ℕ} {faults : D → ℕ} {trace : Trace} {kit : Kit} {sides : List (CpuSide D)}
    {c at : ℕ} {answer : JobOutcome} {side side' : CpuSide D} {seats seats' : Seats} (t : TakesTurn told said written faults trace kit sides c at answer side side' seats seats') where
  abbrev sides' : List (CpuSide D)
  sides' = set sides c side'

  abbrev device : ℕ
  device = (d t).plan.device

  abbrev was : AreQueued written faults trace kit sides seats
  was = t.standing.queued

  abbrev team : CpuSide D → Team
  team s = team_of written faults s

  -- its flushers are the same
  flushers_now : (x : ℕ) → HasFlusher x (teams_of written faults sides) → HasFlusher x (teams_of written faults sides')
  flushers_now x has =
      let Its = λ (p : Seen). p.plan.device ≡ x in
      let Has = λ (team : Team). AnyOf Its team.posts in
      let mine : get_or (teams_of written faults sides) c (team side) ≡ team side = map_at team sides c side ∙ ap team t.side_is in
      subst (HasFlusher x) (sym (map-set team sides c side'))
      (any_changed Has (teams_of written faults sides) c (team side') (team side)
      (λ had. subst (AnyOf Its) (sym (behind_is t))
      (any_of_changed Its (before t) at (q t) (d t) (λ its. ap (λ (plan : FlusherPlan). plan.device) (same_plan t) ∙ its) (subst Has mine had))) has)

  abbrev Its : (x : ℕ) (post : Post D) → Type 0
  Its x post = post.flusher.plan.device ≡ x → post.stand ≡ Done

  posts_now : (x : ℕ) → AreDoneAt x sides' → Each (Its x) (set side.posts.items at t.turned.is)
  posts_now x done = subst (Each (Its x)) t.turned.posts (each_here (λ (s : CpuSide D). Each (Its x) s.posts.items) sides c side' (in_sides t) done)

  its_stand : (x : ℕ) → x ≡ device → AreDoneAt x sides' → t.turned.is.stand ≡ Done
  its_stand x same done = each_here (Its x) side.posts.items at t.turned.is t.post_there (posts_now x done) (ap (λ (plan : FlusherPlan). plan.device) t.turned.plan ∙ sym same)

  -- a flusher of another device doesn't matter
  done_before : (x : ℕ) → (x ≡ device → ⊥) → AreDoneAt x sides' → AreDoneAt x sides
  done_before x other done =
      let here : Its x (get_or side.posts.items at t.turned.was) = subst (Its x) (sym t.turned.was_there) (λ its. absurd (other (sym its))) in
      let mine : Each (Its x) side.posts.items = each_back (Its x) side.posts.items at t.turned.is t.turned.was here (posts_now x done) in
      each_back (λ (s : CpuSide D). Each (Its x) s.posts.items) sides c side' side (subst (λ (s : CpuSide D). Each (Its x) s.posts.items) (sym t.side_is) mine) done

  emptied_now : (x : ℕ) → x < length trace.devices → AreDoneAt x sides' → AreAllTaken (known_of x seats'.queue)
  emptied_now x low done = dite (ℕ_discrete x device)
      (λ same.
      let stands : stand_by (job_by t.turned.turn) Open ≡ Done =
      subst (λ (z : JobOutcome × Stand). stand_by z.0 z.1 ≡ Done) (λ i. (t.turned.answer_is i, t.opened i)) (sym t.turned.stands ∙ its_stand x same done) in
      let all : (known_of device seats'.queue).stakes ≡ 2 ^ 32 =
      (went t).queue.stakes device ∙ was.stakes device (subst (λ (n : ℕ). n < length kit.queues.sizes) same (subst (λ (n : ℕ). x < n) (sym was.many) low)) in
      subst (λ (n : ℕ). AreAllTaken (known_of n seats'.queue)) (sym same)
      (by_done (d t).plan kit told said (HasRisen (d t).faults (q t).faults) t.turned.turn (old t) (new t) stands t.turned.answers all))
      (λ other. subst AreAllTaken (sym ((went t).queue.others x other)) (was.emptied x low (done_before x other done)))

  pub queued_now : AreQueued written faults trace kit sides' seats'
  queued_now = record {
    stakes = λ x low. (went t).queue.stakes x ∙ was.stakes x low;
    many = was.many;
    flushers = λ x low. flushers_now x (was.flushers x low);
    emptied = emptied_now;
  }
