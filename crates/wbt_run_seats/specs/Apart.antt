-- Seats at the shares and the estimates of a kit.
use Rattle.std.specs.Prelude.{◌≡◌, length}
use Rattle.wbt_fraction.specs.Several.{IsSeatOf}
use Rattle.wbt_published.specs.Passes.{IsPassOf}
use Rattle.wbt_kit.specs.declared.kit.Kit.{Kit}
use Rattle.wbt_run_seats.specs.declared.apart.Apart.{Apart}

-- they are seats at the kit
pub record IsApart (kit : Kit) (apart : Apart) : Type 0 where
  pub share : IsSeatOf kit.shares apart.share
  pub est : IsPassOf kit.published apart.est
  pub each_context : length apart.est.known ≡ length kit.published.names
