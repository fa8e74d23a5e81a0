use Rattle.std.proofs.Common.{◌≡◌, [], take, flat_map}
use Rattle.wbt_audit_walk.proofs.Common.{told_entry}
use Rattle.wbt_audit_walk.proofs.walk.first_act.Given as goal

-- the entries so far told nothing
abbrev pub invariant-loop-place : goal.invariant-loop-place
invariant-loop-place l = flat_map (told_entry l.fn.checks l.fn.estimates) (take l.place l.fn.entries) ≡ []
