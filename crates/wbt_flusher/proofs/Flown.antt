-- A flight between its pages.
use Rattle.std.proofs.Common.{◌≡◌, ℕ, ◌+◌, ◌<◌, List, [], ◌∷◌, length, eqb, false, true≢false, None, sym, refl, subst, arith}
use Rattle.wbt_flusher.proofs.Common.{CpuJournal, Kit, Seats, Goes, IsReady, no_moments, Fits, AreOwed, HasRooms, sight, HoldsPages, IsFlight, IsPhase, IsSteady}
use Rattle.wbt_flusher.specs.Answers.{IsDown}
use Rattle.wbt_flusher.specs.declared.plan.FlusherPlan.{FlusherPlan}
use Rattle.wbt_flusher.specs.declared.work.Flight.{Flight}
use Rattle.wbt_flusher.specs.declared.work.Phase.{Phase}
use Rattle.wbt_flusher.specs.declared.work.Phase.TheVariants.{Flying}
use Rattle.wbt_flusher.specs.declared.work.FlusherWork.{FlusherWork}
use Rattle.wbt_flusher.proofs.Going.{holds_went, rooms_went}

pub flight_of : (plan : FlusherPlan) (work : FlusherWork) (flight : Flight) → IsSteady plan work → work.phase ≡ Flying flight → IsFlight plan work.batch.items flight
flight_of plan work flight steady at = subst (λ (p : Phase). IsPhase plan work.batch.items p) at steady.phase

pub comes_down : (plan : FlusherPlan) (kit : Kit) (old new : Seats) (was is : FlusherWork) (before behind : CpuJournal) (flight : Flight) → IsReady plan kit was old → was.phase ≡ Flying flight
    → Goes plan kit old new before behind was is → is ≡ record was { phase = Flying (record flight { landed = flight.landed + 1 }) } → Fits plan kit new → AreOwed plan kit new
    → IsDown plan kit (record flight { landed = flight.landed + 1 }) is new
comes_down plan kit old new was is before behind flight ready at goes next fits owed =
    let f = flight_of plan was flight ready.steady at in
    let some = f.some_left in
    let lists = ready.steady.lists in
    subst (λ (w : FlusherWork). IsDown plan kit (record flight { landed = flight.landed + 1 }) w new) (sym next) (record {
      fits = fits;
      lists = record { proper = lists.proper; tallies = lists.tallies; waiting = lists.waiting; none_wait = lists.none_wait; wheel = lists.wheel; places = lists.places };
      phase = refl;
      few_faults = ready.steady.few_faults;
      inode = f.inode;
      landed = omega arith;
      pages = f.pages;
      few = f.few;
      holds = subst (λ (w : FlusherWork). HoldsPages plan w new) next (holds_went plan kit no_moments (sight was old before None) (sight is new behind None) (goes no_moments None) ready.holds);
      rooms = subst (λ (w : FlusherWork). HasRooms plan w new) next (rooms_went plan kit no_moments (sight was old before None) (sight is new behind None) (goes no_moments None) ready.rooms);
      owed = owed;
    })

-- pages of it are left
pub still_flies : (plan : FlusherPlan) (kit : Kit) (flight : Flight) (work : FlusherWork) (seats : Seats) → IsDown plan kit flight work seats → flight.landed < length work.batch.items → IsSteady plan work
still_flies plan kit flight work seats down some = record {
  lists = down.lists;
  phase = subst (λ (p : Phase). IsPhase plan work.batch.items p) (sym down.phase) (record { inode = down.inode; some_left = some; pages = down.pages; few = down.few });
  few_faults = down.few_faults;
}

pub none_there : (xs : List ℕ) → length xs ≡ 0 → xs ≡ []
none_there [] is = refl
none_there (x ∷ xs) is = absurd (omega arith)

pub some_there : (xs : List ℕ) → eqb (length xs) 0 ≡ false → 0 < length xs
some_there [] is = absurd (true≢false is)
some_there (x ∷ xs) is = omega arith
