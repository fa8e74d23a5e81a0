-- What the flusher's CPU owes to counters is paid, and told.
use Rattle.std.proofs.Common.{◌≡◌, ℕ, false, true, List, Some, inl, inr, ⊎_elim, ◌≤◌, sym, refl, ap, ◌∙◌, subst, arith}
use Rattle.std.specs.Prelude.{Bool}
use Rattle.wbt_flusher.proofs.Common.{times_in, times, CpuRecord, Grows, HasCounter, CpuJournal, IsPlain, IsOwn, IsOfFlusher, FliesInTurn, flusher_after, IsSilent, walked_silent, Kit, Seats, Settled, record_is, only_same, IsTimed, Fits, OwesNothing, Suits, sight, is_completion, list_by}
use Rattle.wbt_kit.proofs.Common.{Fold}
use Rattle.wbt_run_steps.specs.Steps.{tells_folds}
use Rattle.wbt_run_steps.proofs.Telling.{each_fold, each_fold_of}
use Rattle.wbt_flusher.specs.Answers.{GoesTold}
use Rattle.wbt_flusher.specs.Did.{IsStopped}
use Rattle.wbt_flusher.specs.declared.plan.FlusherPlan.{FlusherPlan}
use Rattle.wbt_flusher.proofs.Acting.{did_act, on_cpu, rescan_or, mark_or}
use Rattle.wbt_flusher.proofs.Changing.{changed}
use Rattle.wbt_flusher.proofs.Fitting.{fits_cpu}
use Rattle.wbt_flusher.proofs.Going.{keeps_changed}
use Rattle.wbt_flusher.proofs.Noting.{grows_none}
use Rattle.wbt_flusher.proofs.Telling.{folds_add_none, folds_hand_none, counter_is_own}
use Rattle.wbt_flusher.proofs.Waiting.{TellsNoWait, list_kept}

pub record Settled' (plan : FlusherPlan) (kit : Kit) (said : ℕ → ℕ → Bool → Type 0) (all : Bool) (old new : Seats) (before behind : CpuJournal) : Type 0 where
  pub fits : Fits plan kit new
  pub goes : GoesTold plan kit old new before behind
  pub paid : all ≡ true → OwesNothing plan new
  pub stopped : all ≡ false → IsStopped plan said new

pub settles : (plan : FlusherPlan) (kit : Kit) (said : ℕ → ℕ → Bool → Type 0) (all : Bool) (old new : Seats) (before behind : CpuJournal) → Suits plan kit → Fits plan kit old
    → Settled plan.cpu kit said all old new before behind → Settled' plan kit said all old new before behind
settles plan kit said all old new before behind suits fits by =
    let r = by.was in
    let r' = by.is in
    let now = changed plan.cpu (λ (q : CpuRecord). r') old.cpu new.cpu r by.becomes by.had in
    let folds = by.folds in
    let fits' = fits_cpu plan kit old new (λ (q : CpuRecord). r') fits by.becomes by.only in
    record {
      fits = fits';
      goes = λ told work written.
          let s = sight work old before written in
          let t = sight work new behind written in
          record {
            fits = fits';
            cpus = keeps_changed plan.cpu r r' old.cpu new.cpu now by.had (ap (times is_completion) by.stays.events) by.stays.page_steps;
            queue = only_same plan.device old.queue new.queue by.only.queue;
            did = did_act plan kit told s t (record {
              added = tells_folds folds;
              of_flusher = each_fold (IsOfFlusher plan.flusher) (λ f. record { no_write = refl; no_check = refl; flight = tt; wait = tt }) folds;
              plain = each_fold IsPlain (λ f. record { no_check = refl; no_estimate = refl }) folds;
              adds_none = λ domain context. folds_add_none domain context folds;
              logged = by.logged;
              own = λ trace is. each_fold_of (IsOwn trace plan.cpu) (λ (f : Fold). HasCounter kit.throttle.layout f.counter) (λ f there. record { write = tt; fold = counter_is_own trace plan kit suits is f.counter there; check = tt; flight = tt; share = tt; estimate = tt; wait = tt }) folds by.there;
              moments = each_fold (IsTimed told) (λ f. record { batch = tt; estimate = tt; wait = tt }) folds;
              pages = subst (λ (n : ℕ). Grows (Some n) written written) (sym (folds_hand_none folds)) (grows_none written);
              flew = walked_silent (FliesInTurn plan.flusher) (flusher_after plan.flusher) _ (tells_folds folds) (each_fold (IsSilent (FliesInTurn plan.flusher) (flusher_after plan.flusher)) (λ f p. (tt, refl)) folds);
              waited = λ trace is. list_kept trace plan.flusher (tells_folds folds) (list_by work) (list_by work) (each_fold TellsNoWait (λ f. refl) folds) refl;
              apart = now.apart;
              share = by.only.share;
              est = by.only.est;
              on_record = on_cpu plan (tells_folds folds) s t r r' by.had now.has (record {
                grew = by.grew;
                writers = by.stays.writers;
                held = λ page. let same = ap (times_in page) by.stays.held in omega arith;
                rescans = λ page owes. ⊎_elim (λ own. inl own)
                    (λ other. inr (subst (λ (l : List ℕ). 1 ≤ times_in page l) by.stays.rescans owes, other)) (rescan_or plan work.phase page);
                marks = λ inode owes. ⊎_elim (λ own. inl own)
                    (λ other. inr (subst (λ (l : List ℕ). 1 ≤ times_in inode l) by.stays.marks owes, other)) (mark_or work.phase inode);
                completed = now.completed;
                owing_is = λ domain is. let events = ap (times is_completion) by.stays.events in omega arith;
                total_is = λ context is. let events = ap (times is_completion) by.stays.events in omega arith;
              });
            });
          };
      paid = λ is. ap (λ (q : CpuRecord). q.debts) (record_is new.cpu.cpus plan.cpu r' now.has) ∙ by.paid is;
      stopped = λ is. (r', now.has, by.stopped is);
    }
