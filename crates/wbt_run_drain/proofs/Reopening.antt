-- Flushers that are done may be turned again: the sides of all CPUs stand as they stood.
use Rattle.std.proofs.Common.{◌≡◌, ⊎_elim, ℕ, suc, ◌<◌, Bool, true, false, ◌==◌, if◌then◌else◌, List, [], ◌∷◌, length, map, get_or, Option, refl, sym, ap, ◌∙◌, subst, arith, eq-eqb, ne_eqb}
use mathlib.Core.Logic.{dite}
use native.Mathlib.Decide.{ℕ_discrete}
use Rattle.std.specs.List.{sum_by}
use Rattle.std.specs.Prelude.{IfSome}
use Rattle.wbt_run_worker.proofs.Common.{Each, contexts, domains, CpuJournal, Trace, AreBacked, Failed, Kit, Seats, OwesMark, OwesRescan, puts_none, ArePosted, IsDesk, AnyOf, Seen, Team, owed_in, owed_totals, seen, team_of, IsTold, Desk}
use Rattle.wbt_journal.specs.Told.{told as told_by}
use Rattle.wbt_queue.specs.Passes.{known_of}
use Rattle.wbt_run_worker.specs.Side.{HaveEnded as TeamHasEnded}
use Rattle.wbt_run_worker.specs.declared.side.CpuSide.{CpuSide}
use Rattle.wbt_run_worker.specs.declared.side.End.{End}
use Rattle.wbt_run_worker.specs.declared.side.End.TheVariants.{Faulted}
use Rattle.wbt_run_worker.specs.declared.side.Post.{Post}
use Rattle.wbt_run_worker.specs.declared.side.Stand.{Stand}
use Rattle.wbt_run_worker.specs.declared.side.Stand.TheVariants.{Open, Done, Out}
use Rattle.wbt_run_worker.proofs.Lists.{each_at}
use Rattle.wbt_table.specs.Layout.{domains as limits_of}
use Rattle.wbt_run_drain.specs.Ends.{Any, EndsSo, HasEnded, HaveEnded, IsOut}
use Rattle.wbt_run_drain.specs.Standing.{AreAllDone, AreDoneAt, AreQueued, AreStanding, HasFlusher, EndsBy, FaultsAreTold, SideGoesOn, HaveTold, NotHalted, OutBy, SideStands, StandsSo, WentOn}
use Rattle.wbt_run_drain.specs.Swept.{AreReopened, IsReopened, reopened}
use Rattle.wbt_run_drain.specs.Words.{TellsTurns}
use Rattle.wbt_run_drain.specs.Teams.{handed_over, logs_of, posts_of, teams_of, written_by_all}

-- ---- lists

-- lists whose items are alike at each place
alike : {A B : Type 0} (f : A → B) (xs ys : List A) → length ys ≡ length xs → ((i : ℕ) (d : A) → i < length xs → f (get_or ys i d) ≡ f (get_or xs i d)) → map f ys ≡ map f xs
alike f [] [] many each = refl
alike f [] (y ∷ ys) many each = absurd (omega arith)
alike f (x ∷ xs) [] many each = absurd (omega arith)
alike f (x ∷ xs) (y ∷ ys) many each =
    let here = each 0 x (omega arith) in
    let rest = alike f xs ys (omega arith) (λ i d less. each (suc i) d (omega arith)) in
    λ i. here i ∷ rest i

-- ---- a post

module _ {D : Type 0} (device : ℕ) where
  -- it is open, or stands as it stood
  either : (b : Bool) (post : Post D) (P : Post D → Type 0) → P (record post { stand = Open }) → P post → P (if b then record post { stand = Open } else post)
  either true post P at_open as_was = at_open
  either false post P at_open as_was = as_was

  by_either : (post : Post D) (P : Post D → Type 0) → P (record post { stand = Open }) → P post → P (reopened device post)
  by_either post P at_open as_was = either (post.flusher.plan.device == device) post P at_open as_was

  -- the device's is open
  pub reopens : (post : Post D) → (post.flusher.plan.device == device) ≡ true → reopened device post ≡ record post { stand = Open }
  reopens post is = ap (λ (b : Bool). if b then record post { stand = Open } else post) is

  pub stays_so : (post : Post D) → (post.flusher.plan.device == device) ≡ false → reopened device post ≡ post
  stays_so post is = ap (λ (b : Bool). if b then record post { stand = Open } else post) is

module _ {D : Type 0} (device : ℕ) (written : D → Option ℕ) (faults : D → ℕ) where
  seen_same : (post : Post D) → seen written faults (reopened device post) ≡ seen written faults post
  seen_same post = by_either device post (λ (q : Post D). seen written faults q ≡ seen written faults post) refl refl

  posts_same : (posts : List (Post D)) → posts_of written faults (map (reopened device) posts) ≡ posts_of written faults posts
  posts_same [] = refl
  posts_same (x ∷ xs) = let here = seen_same x in let rest = posts_same xs in λ i. here i ∷ rest i

  team_same : (old new : CpuSide D) → IsReopened device old new → team_of written faults new ≡ team_of written faults old
  team_same old new again =
      let posts : posts_of written faults new.posts.items ≡ posts_of written faults old.posts.items =
      ap (λ (l : List (Post D)). posts_of written faults l) again.posts ∙ posts_same old.posts.items in
      λ i. record { desk = again.writers i; posts = posts i; log = again.log i }

-- ---- a side whose flushers are done

none_out : {D : Type 0} (end : End) (posts : List (Post D)) → Each (λ (post : Post D). post.stand ≡ Done) posts → Any (IsOut end) posts → ⊥
none_out end [] done any = any
none_out end (x ∷ xs) done any = ⊎_elim (λ (out : IsOut end x). let is = done.0 in cc) (λ (more : Any (IsOut end) xs). none_out end xs done.1 more) any

module _ {D : Type 0} (said : ℕ → ℕ → Bool → Type 0) (written : D → Option ℕ) (faults : D → ℕ) (trace : Trace) (cpu : ℕ) (kit : Kit) (seats : Seats) (device : ℕ) where
  abbrev So : Post D → Type 0
  So post = StandsSo said cpu kit seats post.stand (seen written faults post)

  abbrev HasCause : Post D → Type 0
  HasCause post = (end : End) → post.stand ≡ Out end → OutBy said cpu kit seats end (seen written faults post)

  open_so : (post : Post D) → post.stand ≡ Done → So post → So (reopened device post)
  open_so post done so =
      let here = subst (λ (stand : Stand). StandsSo said cpu kit seats stand (seen written faults post)) done so in
      by_either device post So here.0 so

  open_cause : (post : Post D) → HasCause post → HasCause (reopened device post)
  open_cause post cause = by_either device post HasCause (λ end out. absurd (let e = out in cc)) cause

  opens : (posts : List (Post D)) → Each (λ (post : Post D). post.stand ≡ Done) posts → Each So posts → Each So (map (reopened device) posts)
  opens [] done so = tt
  opens (x ∷ xs) done so = (open_so x done.0 so.0, opens xs done.1 so.1)

  causes : (posts : List (Post D)) → Each HasCause posts → Each HasCause (map (reopened device) posts)
  causes [] each = tt
  causes (x ∷ xs) each = (open_cause x each.0, causes xs each.1)

  none_halted : (posts : List (Post D)) → Each (λ (post : Post D). post.stand ≡ Done) posts → Each NotHalted (map (reopened device) posts)
  none_halted [] done = tt
  none_halted (x ∷ xs) done = (by_either device x NotHalted (λ e. cc) (λ e. let is = done.0 in cc), none_halted xs done.1)

  module _ (old new : CpuSide D) (again : IsReopened device old new) (has : HasEnded old) (done : Each (λ (post : Post D). post.stand ≡ Done) old.posts.items)
      (it : SideStands said written faults trace cpu kit old seats) where
    goes : SideGoesOn said written faults trace cpu kit old seats
    goes = subst (λ (end : End). EndsBy said written faults trace cpu kit end old seats) has.ended it.ends

    posts_are : posts_of written faults new.posts.items ≡ posts_of written faults old.posts.items
    posts_are = ap (λ (t : Team). t.posts) (team_same device written faults old new again)

    goes_again : SideGoesOn said written faults trace cpu kit new seats
    goes_again = record {
      ended = subst (λ (t : Team). TeamHasEnded trace t) (sym (team_same device written faults old new again)) goes.ended;
      owes_nothing = goes.owes_nothing;
      each = subst (λ (l : List (Post D)). Each So l) (sym again.posts) (opens old.posts.items done goes.each);
      none_halted = subst (λ (l : List (Post D)). Each NotHalted l) (sym again.posts) (none_halted old.posts.items done);
      rescans = λ page owes. subst (λ (l : List Seen). AnyOf (λ (p : Seen). OwesRescan p.plan p.work.phase page) l) (sym posts_are) (goes.rescans page owes);
      marks = λ inode owes. subst (λ (l : List Seen). AnyOf (λ (p : Seen). OwesMark p.work.phase inode) l) (sym posts_are) (goes.marks inode owes);
    }

    not_faulted : EndsSo Faulted old → ⊥
    not_faulted ends = ⊎_elim (λ (is : old.end ≡ Faulted). let e = has.ended in cc) (λ (any : Any (IsOut Faulted) old.posts.items). none_out Faulted old.posts.items done any) ends

    pub side_again : SideStands said written faults trace cpu kit new seats
    side_again = record {
      desk = subst (λ (desk : Desk). IsDesk trace cpu kit desk) (sym again.writers) it.desk;
      posted = subst (λ (l : List Seen). ArePosted trace cpu kit l seats) (sym posts_are) it.posted;
      ends = subst (λ (end : End). EndsBy said written faults trace cpu kit end new seats) (sym (again.end ∙ has.ended)) goes_again;
      outs = subst (λ (l : List (Post D)). Each HasCause l) (sym again.posts) (causes old.posts.items it.outs);
      failed = λ any. absurd (not_faulted (it.failed (subst (λ (l : List Seen). AnyOf (λ (p : Seen). p.work.phase ≡ Failed) l) posts_are any)));
      told = subst (λ (l : CpuJournal). FaultsAreTold (posts_of written faults new.posts.items) l) (sym again.log)
          (subst (λ (l : List Seen). FaultsAreTold l old.log) (sym posts_are) it.told);
    }

-- ---- queues

module _ {D : Type 0} (device : ℕ) (written : D → Option ℕ) (faults : D → ℕ) where
  abbrev Its : (x : ℕ) (post : Post D) → Type 0
  Its x post = post.flusher.plan.device ≡ x → post.stand ≡ Done

  -- the device's flushers aren't done
  open_again : (posts : List (Post D)) → Each (Its device) (map (reopened device) posts) → AnyOf (λ (p : Seen). p.plan.device ≡ device) (posts_of written faults posts) → ⊥
  open_again [] each any = any
  open_again (p ∷ posts) each any = ⊎_elim
      (λ (its : p.flusher.plan.device ≡ device).
      let opened = reopens device p (eq-eqb p.flusher.plan.device device its) in
      let done : (record p { stand = Open }).stand ≡ Done = subst (Its device) opened each.0 its in
      let e : Open ≡ Done = done in absurd (let no = e in cc))
      (λ (more : AnyOf (λ (p : Seen). p.plan.device ≡ device) (posts_of written faults posts)). open_again posts each.1 more) any

  pub not_done : (old new : List (CpuSide D)) → length new ≡ length old
      → ((cpu : ℕ) (other : CpuSide D) → cpu < length old → IsReopened device (get_or old cpu other) (get_or new cpu other)) → AreDoneAt device new
      → HasFlusher device (teams_of written faults old) → ⊥
  not_done [] new many each done has = has
  not_done (x ∷ xs) [] many each done has = absurd (omega arith)
  not_done (x ∷ xs) (y ∷ ys) many each done has = ⊎_elim
      (λ (here : AnyOf (λ (p : Seen). p.plan.device ≡ device) (posts_of written faults x.posts.items)).
      open_again x.posts.items (subst (Each (Its device)) (each 0 x (omega arith)).posts done.0) here)
      (λ (more : HasFlusher device (teams_of written faults xs)). not_done xs ys (omega arith) (λ cpu other less. each (suc cpu) other (omega arith)) done.1 more) has

  -- those of another device stand as they stood
  still_done : (x : ℕ) → (x ≡ device → ⊥) → (posts : List (Post D)) → Each (Its x) (map (reopened device) posts) → Each (Its x) posts
  still_done x other [] each = tt
  still_done x other (p ∷ posts) each = (
    λ its. subst (Its x) (stays_so device p (ne_eqb p.flusher.plan.device device (λ same. other (sym its ∙ same)))) each.0 its,
    still_done x other posts each.1,
  )

  done_before : (x : ℕ) → (x ≡ device → ⊥) → (old new : List (CpuSide D)) → length new ≡ length old
      → ((cpu : ℕ) (other : CpuSide D) → cpu < length old → IsReopened device (get_or old cpu other) (get_or new cpu other)) → AreDoneAt x new → AreDoneAt x old
  done_before x other [] new many each done = tt
  done_before x other (s ∷ xs) [] many each done = absurd (omega arith)
  done_before x other (s ∷ xs) (y ∷ ys) many each done = (
    still_done x other s.posts.items (subst (Each (Its x)) (each 0 s (omega arith)).posts done.0),
    done_before x other xs ys (omega arith) (λ cpu e less. each (suc cpu) e (omega arith)) done.1,
  )

-- ---- all of them

module _ {D : Type 0} (told : ℕ → Type 0) (said : ℕ → ℕ → Bool → Type 0) (written : D → Option ℕ) (faults : D → ℕ) (trace : Trace) (kit : Kit) (device : ℕ)
    (old new : List (CpuSide D)) (seats : Seats) (again : AreReopened device old new) (stands : AreStanding told said written faults trace kit old seats)
    (ended : HaveEnded old) (done : AreAllDone old) where
  teams_are : teams_of written faults new ≡ teams_of written faults old
  teams_are = alike (λ (side : CpuSide D). team_of written faults side) old new again.many
      (λ cpu other less. team_same device written faults (get_or old cpu other) (get_or new cpu other) (again.each cpu other less))

  logs_are : logs_of new ≡ logs_of old
  logs_are = alike (λ (side : CpuSide D). side.log) old new again.many (λ cpu other less. (again.each cpu other less).log)

  told_logs : (l : List (CpuSide D)) → Each (λ (side : CpuSide D). Each (IsTold told) (told_by side.log)) l → Each (λ (log : CpuJournal). Each (IsTold told) (told_by log)) (logs_of l)
  told_logs [] each = tt
  told_logs (x ∷ xs) each = (each.0, told_logs xs each.1)

  told_sides : (l : List (CpuSide D)) → Each (λ (log : CpuJournal). Each (IsTold told) (told_by log)) (logs_of l) → Each (λ (side : CpuSide D). Each (IsTold told) (told_by side.log)) l
  told_sides [] each = tt
  told_sides (x ∷ xs) each = (each.0, told_sides xs each.1)

  -- the device has a flusher, which is turned again
  pub goes_on : device < length trace.devices → AreDoneAt device new → ⊥
  goes_on low all_done = not_done device written faults old new again.many again.each all_done (stands.queued.flushers device low)

  queued_again : AreQueued written faults trace kit new seats
  queued_again = record {
    stakes = stands.queued.stakes;
    many = stands.queued.many;
    flushers = λ x low. subst (HasFlusher x) (sym teams_are) (stands.queued.flushers x low);
    emptied = λ x low all_done. dite (ℕ_discrete x device)
        (λ same. absurd (goes_on (subst (λ (n : ℕ). n < length trace.devices) same low) (subst (λ (n : ℕ). AreDoneAt n new) same all_done)))
        (λ other. stands.queued.emptied x low (done_before device written faults x other old new again.many again.each all_done));
  }

  pub stand_again : AreStanding told said written faults trace kit new seats
  stand_again = record {
    many = again.many ∙ stands.many;
    seats_are = stands.seats_are;
    all_held = stands.all_held;
    told_all = subst (λ (teams : List Team). HaveTold trace kit teams (logs_of new) seats) (sym teams_are)
        (subst (λ (logs : List CpuJournal). HaveTold trace kit (teams_of written faults old) logs seats) (sym logs_are) stands.told_all);
    each = λ cpu other less.
        let there : cpu < length old = subst (λ (n : ℕ). cpu < n) (sym stands.many) less in
        side_again said written faults trace cpu kit seats device (get_or old cpu other) (get_or new cpu other) (again.each cpu other there)
        (each_at HasEnded old cpu other there ended) (each_at (λ (side : CpuSide D). Each (λ (post : Post D). post.stand ≡ Done) side.posts.items) old cpu other there done)
        (stands.each cpu other less);
    backed = subst (λ (teams : List Team). AreBacked (domains trace) (contexts trace) (λ domain. sum_by (λ (team : Team). owed_in team.posts domain) teams)
        (λ context. sum_by (λ (team : Team). owed_totals team.posts context) teams) seats) (sym teams_are) stands.backed;
    moments = told_sides new (subst (λ (logs : List CpuJournal). Each (λ (log : CpuJournal). Each (IsTold told) (told_by log)) logs) (sym logs_are) (told_logs old stands.moments));
    disks = subst (λ (teams : List Team). IfSome (written_by_all teams) (λ total. total ≡ handed_over (logs_of new))) (sym teams_are)
        (subst (λ (logs : List CpuJournal). IfSome (written_by_all (teams_of written faults old)) (λ total. total ≡ handed_over logs)) (sym logs_are) stands.disks);
    queued = queued_again;
    turns = λ cpu other less.
        let there : cpu < length old = subst (λ (n : ℕ). cpu < n) (sym stands.many) less in
        subst (λ (e : End). TellsTurns (limits_of kit.throttle.layout) cpu e seats) (sym (again.each cpu other there).end) (stands.turns cpu other less);
  }

  pub went_again : WentOn trace old new seats seats
  went_again = record {
    desks = alike (λ (side : CpuSide D). side.writers) old new again.many (λ cpu other less. (again.each cpu other less).writers);
    timer = refl;
    timer_log = refl;
    stakes = λ domain. refl;
    total_stakes = refl;
    cleaned = λ page cleaned. cleaned;
    puts = λ x. puts_none (known_of x seats.queue) (known_of x seats.queue) refl;
    stopped = λ none_stopped cpu other less is.
        let there : cpu < length old = subst (λ (n : ℕ). cpu < n) again.many less in
        none_stopped cpu other there (sym (again.each cpu other there).end ∙ is);
  }
