-- What contracts see of the cells and of a pass.
use Rattle.std.specs.Prelude.{◌≡◌, ℕ, ◌==◌, List, [], ◌∷◌, map, get_or}
use Rattle.atomic_table.specs.Seated.{TableId}
use Rattle.crossbeam_utils.specs.declared.atomic.seq_cell.Doing.{Doing}
use Rattle.crossbeam_utils.specs.declared.atomic.seq_cell.Wide.{Wide}
use Rattle.wbt_estimate.specs.declared.estimate.Estimate.{Estimate}
use Rattle.wbt_published.specs.declared.known.Known.{Known}
use Rattle.wbt_published.specs.declared.rule.Stored.{Stored}
use Rattle.wbt_published.specs.Known.{opening, left_with, handed_on, knows_both}

-- one context's cell of a pass, and what the pass knows of it
pub record Seat : Type 0 where
  pub name : TableId
  pub known : Known

-- the cells by context, the moment at which they were made, and the estimates that they began with
pub record Cells : Type 0 where
  pub moment : ℕ
  pub firsts : List Estimate
  pub names : List TableId

-- a pass by context: of which cell it is, and what it knows of its estimates
pub record Seats : Type 0 where
  pub names : List TableId
  pub known : List Known

-- which cells these are
abbrev pub cell_names : {Q A : Type 0} → (cells : List (Wide Stored (Doing Stored Known) Q 8 A)) → List TableId
cell_names cells = map (λ cell. cell.table.shared.table_id) cells

-- which cells the seats of a pass are of
abbrev pub names_of : (seats : List Seat) → List TableId
names_of seats = map (λ (seat : Seat). seat.name) seats

-- what a pass knows, by context
abbrev pub known_by : (seats : List Seat) → List Known
known_by seats = map (λ (seat : Seat). seat.known) seats

-- the pass is one of these cells
abbrev pub IsPassOf : (cells : Cells) (pass : Seats) → Type 0
IsPassOf cells pass = pass.names ≡ cells.names

-- what the pass knows of the context's estimates
abbrev pub known_of : (context : ℕ) (pass : Seats) → Known
known_of context pass = get_or pass.known context opening

-- the old pass and the new one, where the right to publish went to the new one for each context that this owner has
abbrev pub all_left : (owners : List ℕ) (owner : ℕ) (known : List Known) → List Known
all_left [] owner known = []
all_left (o ∷ owners) owner [] = []
all_left (o ∷ owners) owner (k ∷ known) = left_with (o == owner) k ∷ all_left owners owner known

-- the new pass, by context
abbrev pub all_handed : (owners : List ℕ) (owner : ℕ) (known : List Known) → List Known
all_handed [] owner known = []
all_handed (o ∷ owners) owner [] = []
all_handed (o ∷ owners) owner (k ∷ known) = handed_on (o == owner) k ∷ all_handed owners owner known

-- for each context what one pass knows together with what another does
abbrev pub all_joined : (into from : List Known) → List Known
all_joined [] from = []
all_joined (one ∷ more) [] = []
all_joined (one ∷ more) (other ∷ others) = knows_both one other ∷ all_joined more others
