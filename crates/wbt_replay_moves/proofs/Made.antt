-- How many steps were made, and one more.
use Rattle.std.proofs.Common.{◌≡◌, ◌+◌, [], ◌∷◌, ◌++◌, length, replicate, sym, arith}
use Rattle.std.proofs.lemmas.List.{append_assoc, length-append, length-replicate}
use Rattle.wbt_journal.specs.declared.step.StepEntry.{StepEntry}
use Rattle.wbt_replay_moves.specs.Definition.State.{no_step}
use Rattle.wbt_replay_moves.specs.Steps.{Made, steps_of}

-- those that were forgotten, and those that are kept
pub made_count : (made : Made) → length (steps_of made) ≡ made.forgotten + length made.kept
made_count made =
    let many = length-append (replicate made.forgotten no_step) made.kept in
    let front = length-replicate made.forgotten no_step in
    omega (arith, many, front)

-- A step that is kept comes after all others.
pub made_more : (made : Made) (x : StepEntry) → steps_of (record made { kept = made.kept ++ x ∷ [] }) ≡ steps_of made ++ x ∷ []
made_more made x = sym (append_assoc (replicate made.forgotten no_step) made.kept (x ∷ []))
