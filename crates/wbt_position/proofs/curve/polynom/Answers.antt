use Rattle.std.proofs.Common.{rules}
use Rattle.std.specs.Int.{w128}
use Rattle.std.proofs.lemmas.Int.{to_z-of_z}
use Rattle.wbt_position.specs.Polynom.{polynom_value}
use Rattle.wbt_position.proofs.Cubes.{cube_fits, cube_small}
use Rattle.wbt_position.proofs.curve.polynom.Goals as goal

pub scaled-cube-requires : goal.scaled-cube-requires
scaled-cube-requires c =
    let x = to_z-of_z w128 c.distance-x.result (search rules) in
    let square = to_z-of_z w128 c.scaled-square.result (search rules) in
    cube_fits _ _ _ _ square x c.distance-x.ensures.bounded c.scaled-square.ensures.bounded

pub cut-requires : goal.cut-requires
cut-requires c =
    let x = to_z-of_z w128 c.distance-x.result (search rules) in
    let square = to_z-of_z w128 c.scaled-square.result (search rules) in
    let cube = to_z-of_z w128 c.scaled-cube.result (search rules) in
    cube_small _ _ _ _ _ _ cube square x c.distance-x.ensures.bounded c.scaled-square.ensures.bounded c.scaled-cube.ensures.bounded

pub returns-clause-value : goal.returns-clause-value
unfolding polynom_value
returns-clause-value c =
    let x = to_z-of_z w128 c.distance-x.result (search rules) in
    let square = to_z-of_z w128 c.scaled-square.result (search rules) in
    let cube = to_z-of_z w128 c.scaled-cube.result (search rules) in
    cc
