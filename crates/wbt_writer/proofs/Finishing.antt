-- What follows a write of a clean page: folds are told, and the inode is marked.
use Rattle.std.proofs.Common.{◌≡◌, ℕ, ◌≤◌, Bool, true, List, [], append-nil, refl, sym, ◌∙◌, subst, arith}
use Rattle.std.proofs.lemmas.Bool.{lt-ltb}
use Rattle.wbt_writer.proofs.Common.{times_in, Counter, Domain, tells, contexts, item, side_after, Told, CpuJournal, HasCounter, Trace, Context, Kit, Seats, IsStopped, IsOwn, SideWalked, Wrote, each_map, side_of, written_of, AreAt, OwesNothing, sight, Does, CutOff}
use Rattle.wbt_kit.proofs.Common.{Fold, domains, writes_after, folded}
use Rattle.wbt_journal.specs.Checks.{Stands}
use Rattle.wbt_journal.specs.Machine.{has_counter}
use Rattle.wbt_journal.specs.Pages.{PagesAreNext}
use Rattle.wbt_run_laws.specs.Shown.{HaveWritten}
use Rattle.wbt_run_laws.specs.Walks.{items_told}
use Rattle.wbt_run_laws.proofs.Lists.{each_weaker}
use Rattle.wbt_run_laws.proofs.Turning.{as_events, as_items}
use Rattle.wbt_run_laws.proofs.Walking.{IsSilent, walked_silent, walks_silent}
use Rattle.wbt_writer.specs.Desk.{Suits}
use Rattle.wbt_writer.specs.Settles.{IsFoldAt}
use Rattle.wbt_writer.specs.Writes.{Finished, Marked}
use Rattle.wbt_writer.specs.declared.work.WriterWork.{WriterWork}
use Rattle.wbt_writer.proofs.Acting.{IsQuietEntry, IsQuietEvent, does_act}
use Rattle.wbt_writer.proofs.Alone.{keeps_table}
use Rattle.wbt_writer.proofs.Noting.{does_more}
use Rattle.wbt_writer.proofs.Paid.{Pays}

-- ---- a fold

-- what holds of each fold of a counter that there is
by_fold : (kit : Kit) (P : Told → Type 0) → ((fold : Fold) → HasCounter kit.throttle.layout fold.counter → P (folded fold)) → (e : Told) → IsFoldAt kit e → P e
by_fold kit P is e at = subst P (sym at.told) (is at.fold at.counter)

fold_quiet : (kit : Kit) (e : Told) → IsFoldAt kit e → IsQuietEntry e
fold_quiet kit = by_fold kit IsQuietEntry (λ fold there. record { of_writers = record { no_flight = refl; no_share = refl; no_estimate = refl; no_wait = refl }; no_check = refl })

own_counter : (trace : Trace) (kit : Kit) → Suits trace kit → (x : Counter) → HasCounter kit.throttle.layout x → has_counter trace x ≡ true
own_counter trace kit suits (Domain d) low = lt-ltb d (domains trace) (let is = suits.domains_are in omega arith)
own_counter trace kit suits (Context k) low = lt-ltb k (contexts trace) (let is = suits.throttle.contexts_are in omega arith)

fold_own : (trace : Trace) (kit : Kit) (cpu : ℕ) → Suits trace kit → (e : Told) → IsFoldAt kit e → IsOwn trace cpu e
fold_own trace kit cpu suits = by_fold kit (IsOwn trace cpu) (λ fold there. record {
  write = tt;
  fold = own_counter trace kit suits fold.counter there;
  check = tt;
  flight = tt;
  share = tt;
  estimate = tt;
  wait = tt;
})

-- the walks of tasks don't see it
fold_silent : (trace : Trace) (opened cpu : ℕ) (kit : Kit) (e : Told) → IsFoldAt kit e → IsSilent (Stands trace) (side_after trace opened) (item (tells cpu e))
fold_silent trace opened cpu kit = by_fold kit (λ (e : Told). IsSilent (Stands trace) (side_after trace opened) (item (tells cpu e)))
    (λ fold there s. (record { write = tt; check = tt }, refl))

fold_writes_none : (trace : Trace) (cpu : ℕ) (kit : Kit) (e : Told) → IsFoldAt kit e → IsSilent (PagesAreNext trace) writes_after (tells cpu e)
fold_writes_none trace cpu kit = by_fold kit (λ (e : Told). IsSilent (PagesAreNext trace) writes_after (tells cpu e))
    (λ fold there tasks. (record { write = tt; check = tt; flight = tt }, refl))

fold_event : (cpu : ℕ) (kit : Kit) (e : Told) → IsFoldAt kit e → IsQuietEvent (item (tells cpu e))
fold_event cpu kit = by_fold kit (λ (e : Told). IsQuietEvent (item (tells cpu e))) (λ fold there trace opened known s. tt)

-- ---- what was paid

module _ (trace : Trace) (kit : Kit) (cpu : ℕ) (work : WriterWork) (old mid : Seats) (before behind : CpuJournal) (at : AreAt trace cpu kit work old) (p : Pays cpu kit old mid before behind) where
  abbrev opened : ℕ
  opened = kit.published.moment

  abbrev silent_side : SideWalked trace opened cpu (side_of work.tasks) p.added (side_of work.tasks)
  silent_side = record {
    events = as_events cpu p.added;
    are = as_items cpu p.added;
    walked = walked_silent (Stands trace) (side_after trace opened) (side_of work.tasks) (as_events cpu p.added)
        (each_map (IsSilent (Stands trace) (side_after trace opened)) (λ (e : Told). item (tells cpu e)) p.added
        (each_weaker (IsFoldAt kit) (λ (e : Told). IsSilent (Stands trace) (side_after trace opened) (item (tells cpu e))) (fold_silent trace opened cpu kit) p.added p.folds));
  }

  silent_pages : Wrote trace cpu (written_of work.tasks) p.added (written_of work.tasks)
  silent_pages = walks_silent HaveWritten (PagesAreNext trace) writes_after (written_of work.tasks) (written_of work.tasks) (items_told cpu p.added)
      (each_map (IsSilent (PagesAreNext trace) writes_after) (tells cpu) p.added
      (each_weaker (IsFoldAt kit) (λ (e : Told). IsSilent (PagesAreNext trace) writes_after (tells cpu e)) (fold_writes_none trace cpu kit) p.added p.folds))
      (λ tasks have. have)

  pub pays_do : Does trace kit.published.moment cpu p.added (sight work old before) (sight work mid behind)
  pays_do = does_act trace opened cpu p.added (sight work old before) (sight work mid behind) (record {
    quiet = each_weaker (IsFoldAt kit) IsQuietEntry (fold_quiet kit) p.added p.folds;
    logged = p.logged;
    grew = p.grew;
    side = silent_side;
    events_quiet = each_map IsQuietEvent (λ (e : Told). item (tells cpu e)) p.added
        (each_weaker (IsFoldAt kit) (λ (e : Told). IsQuietEvent (item (tells cpu e))) (fold_event cpu kit) p.added p.folds);
    wrote = silent_pages;
    own = each_weaker (IsFoldAt kit) (IsOwn trace cpu) (fold_own trace kit cpu at.suits) p.added p.folds;
    share = p.on.share;
    est = p.on.est;
    fractions = refl;
    keeps = keeps_table cpu old mid p.on p.held (λ page owes. subst (λ (l : List ℕ). 1 ≤ times_in page l) p.rescans owes) p.page_steps;
  })

  pub cut_off : (said : ℕ → ℕ → Bool → Type 0) → IsStopped cpu said mid → CutOff trace cpu kit.published.moment said (sight work old before) (sight work mid behind)
  cut_off said stopped = record { added = p.added; does = pays_do; stopped = stopped }

  pub finished : (inode : ℕ) (is : WriterWork) (new : Seats) → OwesNothing cpu mid → Marked trace kit cpu inode work is mid new → Finished trace kit cpu inode (sight work old before) (sight is new behind)
  finished inode is new paid marked = record {
    folds = p.added;
    each_fold = p.folds;
    does = subst (λ (l : List Told). Does trace opened cpu l (sight work old before) (sight is new behind)) (append-nil p.added)
        (does_more trace opened cpu p.added [] (sight work old before) (sight work mid behind) (sight is new behind) pays_do (marked.does behind));
    paid = marked.debts ∙ paid;
    marks_paid = λ i owes. let m = marked.paid i owes in (m.0, subst (λ (l : List ℕ). 1 ≤ times_in i l) p.marks m.1);
    before_mark = mid;
    marks = marked.marks;
    writers = marked.writers ∙ p.writers;
    tasks = marked.tasks;
    fractions = marked.fractions;
    share = marked.share ∙ p.on.share;
    est = marked.est ∙ p.on.est;
  }
