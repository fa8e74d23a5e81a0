-- Grants after readings, worked out.
use Rattle.std.proofs.Common.{refl, sym, true≢false}
use Rattle.wbt_num.specs.Arithmetic.{halvings, log2}
use Rattle.wbt_counter.specs.Batch.{domain_batch, context_batch}
use Rattle.wbt_grant.specs.State.{opening}
use Rattle.wbt_grant.specs.Kinds.{grant, run}
use Rattle.wbt_grant.specs.Example.{small}
use Rattle.wbt_grant.proofs.Tests.{tests_are_right, may_is_allowed}
use Rattle.wbt_strict.specs.Example.{checked, strict_steps, StrictGrants}

pub strict_grants : StrictGrants
unfolding domain_batch context_batch log2 halvings
strict_grants = record {
  may_be_made = tests_are_right small strict_steps (opening small) refl;
  are_strict = (tt, (tt, (tt, (tt, (tt, (tt, (tt, (tt, (λ e. refl, tt)))))))));
  its_bound = refl;
  may_be_made_without = may_is_allowed small (grant 0 4) (run small checked (opening small)) refl;
  is_not_strict = λ h. true≢false (sym (h refl));
}
