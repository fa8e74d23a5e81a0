-- The side whose flusher took a turn, after it.
use Rattle.std.proofs.Common.{◌≡◌, ◌⊎◌, inl, inr, ⊎_elim, ℕ, ◌≤◌, Bool, true, false, List, [], ◌∷◌, get_or, set, Option, refl, sym, ap, ◌∙◌, subst, arith}
use Rattle.wbt_run_worker.proofs.Common.{times_in, CpuRecord, HasRisen, Each, HasNoPageSteps, setting, Has, Trace, FlusherAnswers, OwesMark, OwesRescan, IsSteady, FlusherPlan, Failed, Kit, Seats, Turn, job_by, IsDesk, AnyOf, Seen, seen, record_of, IsStopped, record_is, each_weaker, Desk}
use Rattle.wbt_flusher.specs.Did.{OwesNothing}
use Rattle.wbt_kit.specs.declared.turn.Turn.TheVariants as turn
use Rattle.wbt_run_worker.specs.Side.{HasEnded as HasTeamEnded}
use Rattle.wbt_run_worker.specs.declared.round.JobOutcome.{JobOutcome}
use Rattle.wbt_run_worker.specs.declared.side.CpuSide.{CpuSide}
use Rattle.wbt_run_worker.specs.declared.side.End.{End}
use Rattle.wbt_run_worker.specs.declared.side.End.TheVariants.{Ended, Faulted, Halted, Spent}
use Rattle.wbt_run_worker.specs.declared.side.Post.{Post}
use Rattle.wbt_run_worker.specs.declared.side.Stand.{Stand}
use Rattle.wbt_run_worker.specs.declared.side.Stand.TheVariants.{Open, Out}
use Rattle.wbt_run_worker.proofs.Lists.{each_set}
use Rattle.wbt_run_worker.proofs.Posts.{any_here as seen_here, any_still as seen_still}
use Rattle.wbt_run_drain.specs.Ends.{Any, EndsSo, IsOut}
use Rattle.wbt_run_drain.specs.Standing.{EndsBy, SideGoesOn, NotHalted, OutBy, SideStands, StandsSo, WasStopped}
use Rattle.wbt_run_drain.specs.Teams.{posts_of}
use Rattle.wbt_run_drain.specs.Turned.{end_by, stand_by}
use Rattle.wbt_run_drain.proofs.Anyone.{any_before, any_here, any_still}
use Rattle.wbt_run_drain.proofs.Answered.{stands_up}
use Rattle.wbt_run_drain.proofs.Elsewhere.{out_still, stands_still}
use Rattle.wbt_run_drain.proofs.Summing.{faults_told_now}
use Rattle.wbt_run_drain.proofs.Taking.{TakesTurn, d, q, before, behind, behind_is, goes, new, old, is_seen, mine, posted_now, ready, stands, still_spent, there, went}

open_isnt_out : (end : End) → Open ≡ Out end → ⊥
open_isnt_out end e = cc

ended_isnt_faulted : Ended ≡ Faulted → ⊥
ended_isnt_faulted e = cc

out_faulted : Out Faulted ≡ Out Halted → ⊥
out_faulted e = cc

out_spent : Out Spent ≡ Out Halted → ⊥
out_spent e = cc

each_both : {A : Type 0} (P Q : A → Type 0) (items : List A) → Each P items → Each Q items → Each (λ x. P x × Q x) items
each_both P Q [] p q = tt
each_both P Q (x ∷ xs) p q = ((p.0, q.0), each_both P Q xs p.1 q.1)

module _ {D : Type 0} {told : ℕ → Type 0} {said : ℕ → ℕ → Bool → Type 0} {written : D → Option ℕ} {faults : D → ℕ} {trace : Trace} {kit : Kit} {sides : List (CpuSide D)}
    {c at : ℕ} {answer : JobOutcome} {side side' : CpuSide D} {seats seats' : Seats} (t : TakesTurn told said written faults trace kit sides c at answer side side' seats seats') where
  abbrev Answers : (a : Turn) → Type 0
  Answers a = FlusherAnswers (d t).plan kit true told said (HasRisen (d t).faults (q t).faults) a (old t) (new t)

  -- ---- where the flusher stands

  steady_now : IsSteady (d t).plan (q t).work → IsSteady (q t).plan (q t).work
  steady_now steady = subst (λ (plan : FlusherPlan). IsSteady plan (q t).work) (sym t.turned.plan) steady

  was_stopped : IsStopped (d t).plan.cpu said seats' → WasStopped said c seats'
  was_stopped stopped =
      let has = subst (λ (n : ℕ). Has seats'.cpu.cpus n stopped.0) (mine t).cpu_is stopped.1 in
      let is = ap (λ (r : CpuRecord). r.steps) (record_is seats'.cpu.cpus c stopped.0 has) in
      record { steps = stopped.0.steps; answer = subst (λ (n : ℕ). said n stopped.0.steps false) (mine t).cpu_is stopped.2; made = omega arith }

  is_spent : HasNoPageSteps (setting kit.throttle.layout) (d t).plan.cpu seats'.cpu → HasNoPageSteps (setting kit.throttle.layout) c seats'.cpu
  is_spent none = subst (λ (n : ℕ). HasNoPageSteps (setting kit.throttle.layout) n seats'.cpu) (mine t).cpu_is none

  stand_by_answer : (a : Turn) → Answers a → StandsSo said c kit seats' (stand_by (job_by a) Open) (q t)
  stand_by_answer turn.Stepped a = steady_now a.does.ready.steady
  stand_by_answer (turn.Resting now until) a = steady_now a.steps.ready.steady
  stand_by_answer turn.Done a = (steady_now a.does.steps.ready.steady, a.does.idle, a.does.none_listed)
  stand_by_answer turn.Halted a = was_stopped a.does.stopped
  stand_by_answer turn.Faulted a = record { failed = a.does.failed; eighth = a.does.eighth }
  stand_by_answer turn.Spent a = is_spent a.does.none_left
  stand_by_answer turn.NoMemory a = tt

  stand_is : t.turned.is.stand ≡ stand_by (job_by t.turned.turn) Open
  stand_is = t.turned.stands ∙ ap (λ (s : Stand). stand_by answer s) t.opened ∙ ap (λ (j : JobOutcome). stand_by j Open) t.turned.answer_is

  stands_now : StandsSo said c kit seats' t.turned.is.stand (q t)
  stands_now = subst (λ (s : Stand). StandsSo said c kit seats' s (q t)) (sym stand_is) (stand_by_answer t.turned.turn t.turned.answers)

  -- ---- all flushers of the side

  abbrev Stands : (s : Seats) (post : Post D) → Type 0
  Stands s post = StandsSo said c kit s post.stand (seen written faults post)

  abbrev IsOutBy : (s : Seats) (post : Post D) → Type 0
  IsOutBy s post = (end : End) → post.stand ≡ Out end → OutBy said c kit s end (seen written faults post)

  -- those that stood so before the turn, of which none was halted
  abbrev Both : (P : Post D → Type 0) (post : Post D) → Type 0
  Both P post = P post × NotHalted post

  each_stands : Each (Stands seats') side'.posts.items
  each_stands = subst (λ (posts : List (Post D)). Each (Stands seats') posts) (sym t.turned.posts) (each_set (Stands seats') side.posts.items at t.turned.is
      (each_weaker (Both (Stands seats)) (Stands seats')
      (λ post so. stands_still said c kit seats seats' (still_spent t) post.stand (seen written faults post) (λ is. absurd (so.1 is)) so.0) side.posts.items
      (each_both (Stands seats) NotHalted side.posts.items (goes t).each (goes t).none_halted))
      stands_now)

  each_out : Each (IsOutBy seats') side'.posts.items
  each_out = subst (λ (posts : List (Post D)). Each (IsOutBy seats') posts) (sym t.turned.posts) (each_set (IsOutBy seats') side.posts.items at t.turned.is
      (each_weaker (Both (IsOutBy seats)) (IsOutBy seats')
      (λ post outs end out. out_still said c kit seats seats' (still_spent t) end (seen written faults post) (λ is. absurd (outs.1 (out ∙ ap (λ (e : End). Out e) is))) (outs.0 end out))
      side.posts.items (each_both (IsOutBy seats) NotHalted side.posts.items (stands t).outs (goes t).none_halted))
      (λ end out. subst (λ (s : Stand). StandsSo said c kit seats' s (q t)) out stands_now))

  -- what is owed, one of them owes
  owes_one : (P : Seen → Type 0) → (P (q t) ⊎ (AnyOf P (before t) × (P (d t) → ⊥))) → AnyOf P (posts_of written faults side'.posts.items)
  owes_one P one = subst (λ (posts : List Seen). AnyOf P posts) (sym (behind_is t)) (⊎_elim
      (λ (its : P (q t)). seen_here P (before t) at (q t) (there t) its)
      (λ (other : AnyOf P (before t) × (P (d t) → ⊥)).
      ⊎_elim (λ (still : AnyOf P (behind t)). still) (λ (it : P (get_or (before t) at (d t))). absurd (other.1 (subst P (is_seen t) it)))
      (seen_still P (before t) at (d t) (q t) other.0)) one)

  -- the answer doesn't put the flusher out as halted
  abbrev Stays : (a : Turn) → Type 0
  Stays a = stand_by (job_by a) Open ≡ Out Halted → ⊥

  goes_on : Stays t.turned.turn → OwesNothing (d t).plan seats' → SideGoesOn said written faults trace c kit side' seats'
  goes_on stays owes = record {
    ended = subst (λ (desk : Desk). HasTeamEnded trace desk.work.tasks) (sym t.turned.writers) (goes t).ended;
    owes_nothing = subst (λ (n : ℕ). (record_of n seats'.cpu.cpus).debts ≡ []) (mine t).cpu_is owes;
    each = each_stands;
    none_halted = subst (λ (posts : List (Post D)). Each NotHalted posts) (sym t.turned.posts)
        (each_set NotHalted side.posts.items at t.turned.is (goes t).none_halted (λ out. stays (sym stand_is ∙ out)));
    rescans = λ page owed. owes_one (λ (p : Seen). OwesRescan p.plan p.work.phase page) (⊎_elim
        (λ (its : OwesRescan (d t).plan (q t).work.phase page). inl (subst (λ (plan : FlusherPlan). OwesRescan plan (q t).work.phase page) (sym t.turned.plan) its))
        (λ (was : (1 ≤ times_in page (record_of (d t).plan.cpu seats.cpu.cpus).owed_rescans) × (OwesRescan (d t).plan (d t).work.phase page → ⊥)).
        inr ((goes t).rescans page (subst (λ (n : ℕ). 1 ≤ times_in page (record_of n seats.cpu.cpus).owed_rescans) (mine t).cpu_is was.0), was.1))
        ((went t).did.rescans page (subst (λ (n : ℕ). 1 ≤ times_in page (record_of n seats'.cpu.cpus).owed_rescans) (sym (mine t).cpu_is) owed)));
    marks = λ inode owed. owes_one (λ (p : Seen). OwesMark p.work.phase inode) (⊎_elim
        (λ (its : OwesMark (q t).work.phase inode). inl its)
        (λ (was : (1 ≤ times_in inode (record_of (d t).plan.cpu seats.cpu.cpus).owed_marks) × (OwesMark (d t).work.phase inode → ⊥)).
        inr ((goes t).marks inode (subst (λ (n : ℕ). 1 ≤ times_in inode (record_of n seats.cpu.cpus).owed_marks) (mine t).cpu_is was.0), was.1))
        ((went t).did.marks inode (subst (λ (n : ℕ). 1 ≤ times_in inode (record_of n seats'.cpu.cpus).owed_marks) (sym (mine t).cpu_is) owed)));
  }

  -- ---- how the side ended

  stays_by : (a : Turn) → t.turned.turn ≡ a → Stays a → Stays t.turned.turn
  stays_by a is stays = subst Stays (sym is) stays

  ends_by_answer : (a : Turn) → t.turned.turn ≡ a → Answers a → EndsBy said written faults trace c kit (end_by (job_by a) Ended) side' seats'
  ends_by_answer turn.Stepped is a = goes_on (stays_by turn.Stepped is (λ e. cc)) a.does.ready.owes_none
  ends_by_answer (turn.Resting now until) is a = goes_on (stays_by (turn.Resting now until) is (λ e. cc)) a.steps.ready.owes_none
  ends_by_answer turn.Done is a = goes_on (stays_by turn.Done is (λ e. cc)) a.does.steps.ready.owes_none
  ends_by_answer turn.Halted is a = was_stopped a.does.stopped
  ends_by_answer turn.Faulted is a = goes_on (stays_by turn.Faulted is out_faulted) a.does.owes_none
  ends_by_answer turn.Spent is a = goes_on (stays_by turn.Spent is out_spent) a.does.steps.ready.owes_none
  ends_by_answer turn.NoMemory is a = tt

  end_is : side'.end ≡ end_by (job_by t.turned.turn) Ended
  end_is = t.turned.ends ∙ ap (λ (e : End). end_by answer e) t.ended ∙ ap (λ (j : JobOutcome). end_by j Ended) t.turned.answer_is

  ends_now : EndsBy said written faults trace c kit side'.end side' seats'
  ends_now = subst (λ (e : End). EndsBy said written faults trace c kit e side' seats') (sym end_is) (ends_by_answer t.turned.turn refl t.turned.answers)

  -- ---- one that has failed is told as such

  abbrev HasFailedNow : (p : Seen) → Type 0
  HasFailedNow p = p.work.phase ≡ Failed

  fails_by_answer : (a : Turn) → Answers a → HasFailedNow (q t) → stand_by (job_by a) Open ≡ Out Faulted
  fails_by_answer turn.Stepped a failed = absurd (stands_up (d t).plan (q t).work.batch.items (q t).work.phase a.does.ready.steady.phase failed)
  fails_by_answer (turn.Resting now until) a failed = absurd (stands_up (d t).plan (q t).work.batch.items (q t).work.phase a.steps.ready.steady.phase failed)
  fails_by_answer turn.Done a failed = absurd (stands_up (d t).plan (q t).work.batch.items (q t).work.phase a.does.steps.ready.steady.phase failed)
  fails_by_answer turn.Halted a failed = absurd (a.does.stands failed)
  fails_by_answer turn.Faulted a failed = refl
  fails_by_answer turn.Spent a failed = absurd (stands_up (d t).plan (q t).work.batch.items (q t).work.phase a.does.steps.ready.steady.phase failed)
  fails_by_answer turn.NoMemory a failed =
      absurd (stands_up (d t).plan (d t).work.batch.items (d t).work.phase (ready t).steady.phase (sym a.left.phase ∙ failed))

  told_so : Any (IsOut Faulted) (set side.posts.items at t.turned.is) → EndsSo Faulted side'
  told_so any = inr (subst (λ (posts : List (Post D)). Any (IsOut Faulted) posts) (sym t.turned.posts) any)

  failed_now : AnyOf HasFailedNow (posts_of written faults side'.posts.items) → EndsSo Faulted side'
  failed_now any = ⊎_elim
      (λ (was : AnyOf HasFailedNow (before t)). ⊎_elim
      (λ (it : side.end ≡ Faulted). absurd (ended_isnt_faulted (sym t.ended ∙ it)))
      (λ (outs : Any (IsOut Faulted) side.posts.items). ⊎_elim
      (λ (still : Any (IsOut Faulted) (set side.posts.items at t.turned.is)). told_so still)
      (λ (it : (get_or side.posts.items at t.turned.was).stand ≡ Out Faulted).
      absurd (open_isnt_out Faulted (sym t.opened ∙ ap (λ (p : Post D). p.stand) (sym t.turned.was_there) ∙ it)))
      (any_still (IsOut Faulted) side.posts.items at t.turned.was t.turned.is outs))
      ((stands t).failed was))
      (λ (its : HasFailedNow (q t)). told_so (any_here (IsOut Faulted) side.posts.items at t.turned.is t.post_there (stand_is ∙ fails_by_answer t.turned.turn t.turned.answers its)))
      (any_before HasFailedNow (before t) at (q t) (subst (λ (posts : List Seen). AnyOf HasFailedNow posts) (behind_is t) any))

  -- ---- all of it

  pub side_now : SideStands said written faults trace c kit side' seats'
  side_now = record {
    desk = subst (λ (desk : Desk). IsDesk trace c kit desk) (sym t.turned.writers) (stands t).desk;
    posted = posted_now t;
    ends = ends_now;
    outs = each_out;
    failed = failed_now;
    told = faults_told_now t;
  }
