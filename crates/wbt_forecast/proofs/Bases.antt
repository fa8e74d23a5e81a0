-- No domain's bound without its peak is great.
use Rattle.std.proofs.Common.{ℕ, zero, suc, ◌*◌, ◌^◌, ◌<◌, ◌≤◌, List, [], ◌∷◌, ◌++◌, count_by, get_or, arith, mul-le-mul}
use Rattle.std.proofs.lemmas.List.{length-map}
use Rattle.std.proofs.lemmas.List.Sums.{count_by-le-length}
use Rattle.wbt_replay_order.proofs.Common.{domain_batch, context_batch, Context, group_of, writers_of, Trace, setting_of, base_of, bases_of, writer_homes, Facts}
use Rattle.wbt_counter.specs.Batch.{stat_error}
use Rattle.wbt_counter.specs.declared.counter.Counter.TheVariants.{Domain}
use Rattle.wbt_grant.proofs.Ranges.{batch_fits}
use Rattle.wbt_trace.specs.declared.trace.Context.{Context as ContextValue}
use Rattle.wbt_trace.specs.declared.writers.Writer.{Writer}
use Rattle.wbt_replay_order.specs.Definition.Run.{is_inside}

module _ (trace : Trace) (facts : Facts trace) where
  domain_fits : domain_batch trace.cpus ≤ 128
  unfolding setting_of
  domain_fits = batch_fits (setting_of trace) (Domain 0) facts.few_cpus

  context_fits : context_batch trace.cpus ≤ 128
  unfolding setting_of
  context_fits = batch_fits (setting_of trace) (Context 0) facts.few_cpus

  base_fits : (d : ℕ) → base_of trace d < 2 ^ 23
  base_fits d =
      let homes = length-map (writers_of trace.inodes trace.actions) (λ (w : Writer). group_of trace w.context) in
      let writers : count_by (is_inside d) (writer_homes trace) ≤ 1024 =
      omega (arith, count_by-le-length (is_inside d) (writer_homes trace), homes, facts.few_writers) in
      let contexts : count_by (λ (c : ContextValue). is_inside d c.domain) trace.contexts ≤ 64 =
      omega (arith, count_by-le-length (λ (c : ContextValue). is_inside d c.domain) trace.contexts, facts.few_contexts) in
      let folds : trace.cpus * domain_batch trace.cpus ≤ 64 * 128 = mul-le-mul facts.few_cpus domain_fits in
      let caps = mul-le-mul writers facts.small_cap in
      let error : trace.cpus * context_batch trace.cpus ≤ 64 * 128 = mul-le-mul facts.few_cpus context_fits in
      let twice : 2 * stat_error trace.cpus ≤ 2 * (64 * 128) = omega (arith, error) in
      let errors = mul-le-mul twice contexts in
      omega (arith, folds, caps, errors)

  small_more : (xs : List ℕ) (x : ℕ) → ((d : ℕ) → get_or xs d 0 < 2 ^ 23) → x < 2 ^ 23 → (d : ℕ) → get_or (xs ++ x ∷ []) d 0 < 2 ^ 23
  small_more [] x small less zero = less
  small_more [] x small less (suc d) = omega arith
  small_more (y ∷ xs) x small less zero = small 0
  small_more (y ∷ xs) x small less (suc d) = small_more xs x (λ e. small (suc e)) less d

  -- each bound without its peak is below 2^23 pages
  pub bases_small : (n d : ℕ) → get_or (bases_of trace n) d 0 < 2 ^ 23
  bases_small zero d = omega arith
  bases_small (suc n) d = small_more (bases_of trace n) (base_of trace n) (bases_small n) (base_fits n) d
