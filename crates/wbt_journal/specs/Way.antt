-- Text on its way to a sink, in pieces.
use Rattle.std.specs.Prelude.{◌≡◌, ℕ, ◌≤◌, Bool, true, false, List, ◌++◌, Option}
use Rattle.std.specs.Io.KnownBytes.{append_known}
use Rattle.wbt_io.specs.Faults.{HasRisen}
use Rattle.wbt_io.specs.Told.{GainsPart}

-- the bytes of the piece that is collected, and whether the sink has failed
pub record Collected : Type 0 where
  pub piece : List ℕ
  pub failed : Bool

-- that, with the bytes that the sink holds where it tells them, and its count of faults
pub record Way : Type 0 where
  pub held : Option (List ℕ)
  pub faults : ℕ
  pub out : Collected

-- a way of its three parts
abbrev pub way : (held : Option (List ℕ)) (faults : ℕ) (out : Collected) → Way
way held faults out = record { held = held; faults = faults; out = out }

-- Behind the piece some bytes were put: a part of both has gone to the sink and the rest is collected; or the sink failed on
-- the way, and holds a part of them; or it had failed, and nothing more was written
abbrev pub PutsBy : (had_failed has_failed : Bool) (bytes : List ℕ) (old new : Way) → Type 0
PutsBy false false bytes old new = (gone : List ℕ) × (new.held ≡ append_known old.held gone) × (gone ++ new.out.piece ≡ old.out.piece ++ bytes)
PutsBy false true bytes old new = GainsPart old.held new.held (old.out.piece ++ bytes) × HasRisen old.faults new.faults
PutsBy true false bytes old new = ⊥
PutsBy true true bytes old new = new.held ≡ old.held

-- bytes were put on the way, and the sink's count of faults hasn't fallen
pub record Puts (bytes : List ℕ) (old new : Way) : Type 0 where
  pub put : PutsBy old.out.failed new.out.failed bytes old new
  pub later : old.faults ≤ new.faults
