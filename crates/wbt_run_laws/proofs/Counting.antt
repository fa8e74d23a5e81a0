-- The points of folds and of counts.
use Rattle.std.proofs.Common.{◌≡◌, ℕ, ◌<◌, true, nat_lt, List, [], ◌∷◌, ◌++◌, length, flat_map, unsigned_abs, sym, ap, ◌∙◌, subst, arith}
use Rattle.std.proofs.lemmas.List.{length-map}
use Rattle.wbt_run_laws.proofs.Common.{domain_batch, context_batch, Counter, Fold, Reading, Setting, no_record, CpuRecord, Trace, fold_in, reads_of, Each, effect, tells, items_from, parts_of, all_told, Told, told, CheckEntry, DomainLine, Journal, onto, Grew, limits_in, WereHeld, IsOwn, IsOwnCheck, part_at, Run, Worked}
use Rattle.wbt_counter.specs.declared.counter.Counter.TheVariants as counter
use Rattle.wbt_grant.specs.SeatLaws.{IsRecordedSum}
use Rattle.wbt_grant.specs.Setting.{batch_of}
use Rattle.wbt_grant.proofs.Seats.{readings_are_sums}
use Rattle.wbt_journal.specs.Counts.{Load, folds_in, loads_in, loads_of, read_loads, IsSum, CountsAreSums}
use Rattle.wbt_journal.specs.Laws.{IsFullFold, VersionsAreOnce}
use Rattle.wbt_journal.specs.Machine as machine
use Rattle.wbt_journal.proofs.Folding.{once_is_up}
use Rattle.wbt_run_laws.specs.Grew.{reading_of, readings_in}
use Rattle.wbt_run_laws.specs.Laws.{WorkedFoldsAreUp, WorkedCountsSumFolds}
use Rattle.wbt_run_laws.proofs.Effects.{each_listed, each_told, if_weaker}
use Rattle.wbt_run_laws.proofs.Folding.{record_full, many_folds, versions_once, sums_are}
use Rattle.wbt_run_laws.proofs.Lists.{each_append, each_weaker, each_both, each_unmap, each_flat, each_into, gained_each, each_front, each_rest}
use Rattle.wbt_run_laws.proofs.Parts.{joined, told_is, each_cpu, each_joined, each_item}

module _ (trace : Trace) (j : Journal) (r : Run) (w : Worked trace j r) where
  pub set_cpus : r.set.cpus ≡ trace.cpus
  set_cpus = w.throttle.cpus

  pub many : length (parts_of j) ≡ r.set.cpus
  many = length-map j.cpus told ∙ w.parts ∙ sym set_cpus

  pub all_is : all_told j ≡ joined (parts_of j)
  all_is = told_is j.cpus

  pub below : (c : ℕ) → c < r.set.cpus → c < trace.cpus
  below c less = subst (λ (n : ℕ). c < n) set_cpus less

  pub in_parts : (c : ℕ) → c < length (parts_of j) → c < trace.cpus
  in_parts c less = subst (λ (n : ℕ). c < n) (many ∙ set_cpus) less

  -- the closed table's record of a CPU grew by its part
  pub record_grew : (c : ℕ) → c < trace.cpus → Grew (part_at j c) no_record (r.closed.cpu c)
  record_grew c less = subst (λ (q : CpuRecord). Grew (part_at j c) no_record q) (sym (w.closed.cpus_are c less)) (w.since c less).since.grew

  pub folds_are : (c : ℕ) → c < r.set.cpus → (r.closed.cpu c).folds ≡ onto fold_in (part_at j c) []
  folds_are c less = (record_grew c (below c less)).folds

  -- checks tell limits that it held
  pub record_held : (c : ℕ) → c < trace.cpus → WereHeld r.set.firsts (flat_map limits_in (part_at j c)) [] (r.closed.cpu c).triples
  record_held c less = subst (λ (q : CpuRecord). WereHeld r.set.firsts (flat_map limits_in (part_at j c)) [] q.triples) (sym (w.closed.cpus_are c less)) (w.since c less).since.held

  -- each entry is its CPU's own
  pub own_part : (c : ℕ) → c < trace.cpus → Each (IsOwn trace c) (part_at j c)
  own_part c less = (w.since c less).since.own

-- ---- folds

batch_same : (trace : Trace) (set : Setting) → set.cpus ≡ trace.cpus → (x : Counter) → batch_of set x ≡ machine.batch_of trace x
batch_same trace set same (counter.Domain domain) = ap domain_batch same
batch_same trace set same (counter.Context context) = ap context_batch same

own_folds : (trace : Trace) (c : ℕ) (e : Told) → IsOwn trace c e → Each (λ (f : Fold). machine.has_counter trace f.counter ≡ true) (fold_in e)
own_folds trace c e own = each_listed (λ (f : Fold). machine.has_counter trace f.counter ≡ true) (effect e).fold own.fold

-- what holds of each fold of a record holds of each that its part tells
told_from : {A : Type 0} (P : A → Type 0) (tell : Told → List A) (es : List Told) (older : List A) → Each P (onto tell es older) → Each P (flat_map tell es) × Each P older
told_from P tell [] older each = (tt, each)
told_from P tell (e ∷ es) older each =
    let rest = told_from P tell es (tell e ++ older) each in
    (each_append P (tell e) (flat_map tell es) (each_front P (tell e) older rest.1) rest.0, each_rest P (tell e) older rest.1)

pub folds_up : WorkedFoldsAreUp
folds_up trace j r w =
    let parts : List (List Told) = parts_of j in
    let holds = w.closed.holds in
    let full = λ (f : Fold). unsigned_abs f.delta ≡ batch_of r.set f.counter in
    let named = λ (f : Fold). machine.has_counter trace f.counter ≡ true in
    once_is_up trace j
    (subst (λ (es : List Told). VersionsAreOnce (folds_in es)) (sym (all_is trace j r w)) (versions_once r.set r.closed holds.records_tell holds.rule parts (many trace j r w) (folds_are trace j r w)))
    (subst (λ (es : List Told). Each (IsFullFold trace) (folds_in es)) (sym (all_is trace j r w))
    (each_into (IsFullFold trace) fold_in (joined parts)
    (each_joined (λ (e : Told). Each (IsFullFold trace) (fold_in e)) parts (λ c less.
    let low = in_parts trace j r w c less in
    let record_of = record_full r.set r.closed holds.records_tell holds.rule parts (many trace j r w) (folds_are trace j r w) c in
    let told_full = (told_from full fold_in (part_at j c) [] (subst (Each full) (record_grew trace j r w c low).folds record_of)).0 in
    each_weaker (λ (e : Told). Each full (fold_in e) × IsOwn trace c e) (λ (e : Told). Each (IsFullFold trace) (fold_in e))
    (λ e both. each_weaker (λ (f : Fold). full f × named f) (IsFullFold trace) (λ f is. record { named = is.1; full = is.0 ∙ batch_same trace r.set (set_cpus trace j r w) f.counter }) (fold_in e)
    (each_both full named (fold_in e) both.0 (own_folds trace c e both.1)))
    (part_at j c) (each_both (λ (e : Told). Each full (fold_in e)) (IsOwn trace c) (part_at j c) (each_flat full fold_in (part_at j c) told_full) (own_part trace j r w c low))))))

-- ---- counts

read_named : (trace : Trace) (reads : List DomainLine) → Each (λ (read : DomainLine). nat_lt read.domain (machine.domains trace) ≡ true) reads
    → Each (λ (load : Load). machine.has_counter trace load.counter ≡ true) (read_loads reads)
read_named trace [] named = tt
read_named trace (read ∷ reads) named = (named.0, read_named trace reads named.1)

own_loads : (trace : Trace) (c : ℕ) (e : Told) → IsOwn trace c e → Each (λ (load : Load). machine.has_counter trace load.counter ≡ true) (loads_in e)
own_loads trace c e own =
    let named = λ (load : Load). machine.has_counter trace load.counter ≡ true in
    each_told named loads_of (effect e).check
    (if_weaker (IsOwnCheck trace c) (λ (check : CheckEntry). Each named (loads_of check))
    (λ check is. each_append named (read_loads (reads_of check)) (record { counter = counter.Context check.context; count = check.count } ∷ []) (read_named trace (reads_of check) is.each_domain) (is.context, tt))
    (effect e).check own.check)

pub counts_sum : WorkedCountsSumFolds
counts_sum trace j r w =
    let parts : List (List Told) = parts_of j in
    let holds = w.closed.holds in
    let all : List Fold = folds_in (joined parts) in
    let sums = λ (q : Reading). IsRecordedSum r.set r.closed.cpu q in
    let named = λ (load : Load). machine.has_counter trace load.counter ≡ true in
    let is_sum = λ (load : Load). sums (reading_of load) in
    subst (λ (es : List Told). Each (CountsAreSums trace (folds_in es)) (items_from 0 parts)) (sym (all_is trace j r w))
    (each_item (CountsAreSums trace all) (λ c. tt) 0 parts
    (each_cpu (λ c part. Each (λ (e : Told). CountsAreSums trace all (tells c e)) part) parts (λ c less.
    let low = in_parts trace j r w c less in
    let read = gained_each sums (flat_map readings_in (part_at j c)) [] (r.closed.cpu c).readings (record_grew trace j r w c low).readings ((readings_are_sums r.set r.closed holds.rule).0 c) in
    let each : Each (λ (e : Told). Each sums (readings_in e)) (part_at j c) = each_flat sums readings_in (part_at j c) read in
    each_weaker (λ (e : Told). Each sums (readings_in e) × IsOwn trace c e) (λ (e : Told). CountsAreSums trace all (tells c e))
    (λ e both. each_weaker (λ (load : Load). is_sum load × named load) (IsSum trace all)
    (λ load is. record {
      named = is.1;
      within = let bound = is.0.version in let folds = many_folds r.set r.closed holds.records_tell holds.rule parts (many trace j r w) (folds_are trace j r w) load.counter in omega arith;
      sum = is.0.value ∙ sums_are r.set r.closed holds.records_tell holds.rule parts (many trace j r w) (folds_are trace j r w) load.counter load.count.version;
    }) (loads_in e)
    (each_both is_sum named (loads_in e) (each_unmap sums reading_of (loads_in e) both.0) (own_loads trace c e both.1)))
    (part_at j c) (each_both (λ (e : Told). Each sums (readings_in e)) (IsOwn trace c) (part_at j c) each (own_part trace j r w c low)))))
