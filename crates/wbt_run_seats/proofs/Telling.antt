-- What gathered notes tell of a run.
use Rattle.std.proofs.Common.{refl, sym, arith}
use Rattle.wbt_run_seats.specs.Gathered.{GatheredTell}

pub gathered_tell : GatheredTell
gathered_tell trace kit notes first timer seats many owners firsts gathered complete knows = (
  record { complete = complete; weights = gathered.shares.weights; have = gathered.shares.have; begun_are = gathered.shares.begun_are },
  record {
    publishers = owners;
    publishes = λ context low. ((firsts _ (owners context low)).publishes context (omega (arith, many)) refl).0;
    opens = λ context low. ((firsts _ (owners context low)).publishes context (omega (arith, many)) refl).1;
    no_other = λ cpu context less low other. (firsts cpu less).no_other context (omega (arith, many)) (λ e. other (sym e));
    complete = λ context low. knows context low (gathered.passes.published context low (owners context low)).0;
    all_are = λ context low. (gathered.passes.published context low (owners context low)).1;
    have = gathered.passes.have;
  },
)
