-- What holds of passes, whatever they know.
use Rattle.std.specs.Prelude.{◌≡◌, ℕ, List, length}
use Rattle.wbt_published.specs.declared.known.Known.{Known}
use Rattle.wbt_published.specs.Passes.{all_left, all_handed, all_joined}

-- a pass that was split and then takes in the new one again knows what it knew
abbrev pub SplitIsUndone : Type 0
SplitIsUndone = (owners : List ℕ) (owner : ℕ) (known : List Known) → length owners ≡ length known
    → all_joined (all_left owners owner known) (all_handed owners owner known) ≡ known
