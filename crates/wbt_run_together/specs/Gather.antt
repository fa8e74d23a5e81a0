-- Workers in parts: their sides, and their seats together.
use Rattle.std.specs.Prelude.{ℕ, ◌<◌, List, [], ◌∷◌, length, map, get_or}
use Rattle.wbt_run_seats.specs.Together.{AreTogether}
use Rattle.wbt_kit.specs.Kit.{AreSeatsOf}
use Rattle.wbt_kit.specs.declared.kit.Kit.{Kit}
use Rattle.wbt_kit.specs.declared.kit.Seats.{Seats}
use Rattle.wbt_run_worker.specs.declared.side.CpuSide.{CpuSide}
use Rattle.wbt_run_worker.specs.declared.worker.Worker.{Worker}

-- the seats of workers, in order
abbrev pub seats_of : {D : Type 0} (workers : List (Worker D)) → List Seats
seats_of {D} workers = map (λ (worker : Worker D). worker.seats) workers

-- the sides of workers, in order
abbrev pub sides_of : {D : Type 0} (workers : List (Worker D)) → List (CpuSide D)
sides_of {D} workers = map (λ (worker : Worker D). worker.side) workers

-- each has seats at the kit
abbrev pub AllAtKit : {D : Type 0} (kit : Kit) (workers : List (Worker D)) → Type 0
AllAtKit {D} kit workers = (n : ℕ) (other : Worker D) → n < length workers → AreSeatsOf kit (get_or workers n other).seats

-- these are the first worker's seats, which took in those of the others
abbrev pub CameTogether : {D : Type 0} (kit : Kit) (workers : List (Worker D)) (seats : Seats) → Type 0
CameTogether kit [] seats = ⊥
CameTogether kit (worker ∷ more) seats = AreTogether kit worker.seats (seats_of more) seats
