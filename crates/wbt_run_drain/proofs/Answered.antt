-- What a flusher's turn in the drain did, whatever it answered.
use Rattle.std.proofs.Common.{◌≡◌, ℕ, Bool, true, false, [], length, get_or, All, refl, sym, ap, ◌∙◌, subst, arith}
use Rattle.wbt_flusher.specs.Ages.{HasWheel}
use Rattle.wbt_run_worker.proofs.Common.{FlusherAnswers, IsReady, IsUntouched, Went, Moments, no_moments, Sight, sight, IsPhase, IsSteady, FlusherPlan, Phase, Failed, Kit, Seats, Turn}
use Rattle.wbt_flusher.specs.Answers.{AreTold}
use Rattle.wbt_flusher.specs.Did.{OwesNothing}
use Rattle.wbt_flusher.specs.Turns.{AreProper, ArePlaces}
use Rattle.wbt_flusher.proofs.Going.{goes_kept, ready_went}
use Rattle.wbt_flusher.proofs.Keeping.{kept_by}
use Rattle.wbt_kit.specs.declared.turn.Turn.TheVariants as turn
use Rattle.wbt_run_worker.specs.Answers.{WaitsOn}

-- It made calls, at moments that were told, of which none is an estimate's.
pub record Drains (told : ℕ → Type 0) (plan : FlusherPlan) (kit : Kit) (old new : Sight) : Type 0 where
  pub moments : Moments
  pub all_told : AreTold told moments
  pub none_estimated : moments.estimates ≡ []
  pub went : Went plan kit moments old new

none_told : (told : ℕ → Type 0) → AreTold told no_moments
none_told told = record { batches = tt; estimates = tt }

-- one that stands where it may hasn't failed
pub stands_up : (plan : FlusherPlan) (batch : _) (phase : Phase) → IsPhase plan batch phase → phase ≡ Failed → ⊥
stands_up plan batch phase is failed = subst (λ (p : Phase). IsPhase plan batch p) failed is

-- ---- where nothing was done

module _ (plan : FlusherPlan) (kit : Kit) (old new : Sight) (ready : IsReady plan kit old.work old.seats) (none : IsUntouched old new) where
  seats_same : new.seats ≡ old.seats
  seats_same =
      ap (λ c. record new.seats { cpu = c }) none.left.cpu ∙ ap (λ s. record new.seats { cpu = old.seats.cpu; share = s }) none.left.share
      ∙ ap (λ e. record new.seats { cpu = old.seats.cpu; share = old.seats.share; est = e }) none.left.est ∙ ap (λ q. record old.seats { queue = q }) none.queue

  sight_same : sight new.work old.seats old.log old.written ≡ new
  sight_same = λ i. record { work = new.work; seats = sym seats_same i; log = sym none.left.log i; written = sym none.written i }

  pub untouched_went : Went plan kit no_moments old new
  untouched_went = subst (λ (s : Sight). Went plan kit no_moments old s) sight_same
      (goes_kept plan kit old.seats old.work new.work ready.fits
      (kept_by plan old.seats old.work new.work none.left.phase none.left.batch none.left.faults (ap (λ t. t.items) none.left.tallies) none.left.wheel) no_moments old.log old.written)

  untouched_steady : IsSteady plan new.work
  untouched_steady = record {
    lists = record {
      proper = subst (λ t. All AreProper t.items) (sym none.left.tallies) ready.steady.lists.proper;
      tallies = ap (λ t. length t.items) none.left.tallies ∙ ready.steady.lists.tallies;
      waiting = ap (λ w. length w.items) none.waiting ∙ ready.steady.lists.waiting;
      none_wait = λ nobody inode. ap (λ w. get_or w.items inode false) none.waiting ∙ ready.steady.lists.none_wait (sym none.some_wait ∙ nobody) inode;
      wheel = subst (HasWheel plan) (sym none.left.wheel) ready.steady.lists.wheel;
      places = subst (λ v. ArePlaces plan v.items) (sym none.left.places) ready.steady.lists.places;
    };
    phase = subst (λ b. IsPhase plan b new.work.phase) (sym none.left.batch) (subst (λ (p : Phase). IsPhase plan old.work.batch.items p) (sym none.left.phase) ready.steady.phase);
    few_faults = omega (arith, none.left.faults, ready.steady.few_faults);
  }

  pub untouched_ready : IsReady plan kit new.work new.seats
  untouched_ready = ready_went plan kit no_moments old new untouched_went ready untouched_steady (subst (λ (s : Seats). OwesNothing plan s) (sym seats_same) ready.owes_none)

-- ---- by the answer

module _ (told : ℕ → Type 0) (said : ℕ → ℕ → Bool → Type 0) (risen : Type 0) (plan : FlusherPlan) (kit : Kit) (old new : Sight) where
  abbrev Answers : (a : Turn) → Type 0
  Answers a = FlusherAnswers plan kit true told said risen a old new

  pub drains : IsReady plan kit old.work old.seats → (a : Turn) → Answers a → Drains told plan kit old new
  drains ready turn.Stepped a = record { moments = a.moments; all_told = a.all_told; none_estimated = a.none_in_drain refl; went = a.does.went }
  drains ready (turn.Resting now until) a = record { moments = no_moments; all_told = none_told told; none_estimated = refl; went = a.steps.went }
  drains ready turn.Done a = record { moments = a.moments; all_told = a.all_told; none_estimated = a.none_in_drain refl; went = a.does.steps.went }
  drains ready turn.Halted a = record { moments = a.moments; all_told = a.all_told; none_estimated = a.none_in_drain refl; went = a.does.went }
  drains ready turn.Faulted a = record { moments = a.moments; all_told = a.all_told; none_estimated = a.none_in_drain refl; went = a.does.went }
  drains ready turn.Spent a = record { moments = a.moments; all_told = a.all_told; none_estimated = a.none_in_drain refl; went = a.does.steps.went }
  drains ready turn.NoMemory a = record { moments = no_moments; all_told = none_told told; none_estimated = refl; went = untouched_went plan kit old new ready a }

  -- it waits for no moment that has passed
  pub waits_on : (a : Turn) → Answers a → WaitsOn a
  waits_on turn.Stepped a = tt
  waits_on (turn.Resting now until) a = let less = a.later in omega arith
  waits_on turn.Done a = tt
  waits_on turn.Halted a = tt
  waits_on turn.Faulted a = tt
  waits_on turn.Spent a = tt
  waits_on turn.NoMemory a = tt
