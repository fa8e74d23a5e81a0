-- The first faults of folds, counts, triples, fractions and estimates.
use Rattle.std.proofs.Common.{◌≡◌, ℕ, ◌+◌, ◌-◌, ◌==◌, true, ◌&&◌, nat_lt, List, length, refl, unsigned_abs}
use Rattle.std.specs.Bool.{Decides}
use Rattle.std.specs.List.{list_all, list_any}
use Rattle.std.proofs.lemmas.Bool.Decides.{Decides-and, Decides-eqb, Decides-int_eq}
use Rattle.wbt_counter.specs.declared.record.Fold.{Fold}
use Rattle.wbt_estimate.specs.Bandwidth.{average_after, bandwidth_after}
use Rattle.wbt_estimate.specs.declared.estimate.Estimate.{Estimate}
use Rattle.wbt_trace.specs.declared.trace.Trace.{Trace}
use Rattle.wbt_journal.specs.declared.entry.CheckEntry.{CheckEntry}
use Rattle.wbt_journal.specs.declared.entry.DomainLine.{DomainLine}
use Rattle.wbt_journal.specs.declared.entry.EstEntry.{EstEntry}
use Rattle.wbt_journal.specs.declared.timer.TimerEntry.{TimerEntry}
use Rattle.wbt_journal.specs.Counts.{IsFold, is_fold, is_version, of_counter, FoldsUp, fold_fault, Load, IsSum, is_sum, sum_to, Version, is_fresh_count, loads_in, reads_of, CountsAreSums, CountsAreFresh, count_fault}
use Rattle.wbt_journal.specs.Estimates.{Follows, follows, newest_of, IsNext, EstimatesFollow, Named, is_no_newer, NamesEstimate, ChecksNameEstimates, NamesGoOn, Sight, decision_at, next_fault, name_fault, estimate_fault, estimates_of}
use Rattle.wbt_journal.specs.Each.{Each}
use Rattle.wbt_journal.specs.Effects.{Share, effect}
use Rattle.wbt_journal.specs.Items.{Item, begins, tells}
use Rattle.wbt_journal.specs.Machine.{batch_of, has_counter, domains, contexts}
use Rattle.wbt_journal.specs.Reads.{reads_in, is_published, is_new, TriplesArePublished, TriplesGoOn, triple_fault, IsFraction, is_fraction, periods_from, added_to, Period, is_new_enough, IsShare, FractionsAreOfPeriods, PeriodsGoOn, read_fault, share_fault, fraction_fault}
use Rattle.wbt_journal.specs.Told.{Told}
use Rattle.wbt_journal.specs.Walk.{Tells, unless}
use Rattle.wbt_journal.proofs.Faults.{like, is_true, is_false, is_le, always, test_tells, tells_like, both_tell, part_tells, some_both, both_some, list_tells, each_both, each_one}

-- ---- folds

fold_decides : (trace : Trace) (all seen : List Fold) (fold : Fold) → Decides (is_fold trace all seen fold) (IsFold trace all seen fold)
fold_decides trace all seen fold = like (is_fold trace all seen fold)
    (Decides-and _ _ (is_true (has_counter trace fold.counter)) (Decides-and _ _ (Decides-eqb (unsigned_abs fold.delta) (batch_of trace fold.counter))
    (Decides-and _ _ (is_le 1 fold.version) (Decides-and _ _ (is_le fold.version (length (of_counter fold.counter all))) (is_false (list_any (is_version fold.counter fold.version) seen))))))
    (λ p. record { named = p.0; full = p.1.0; some = p.1.1.0; within = p.1.1.1.0; new = p.1.1.1.1 })
    (λ f. (f.named, (f.full, (f.some, (f.within, f.new)))))

pub fold_tells : (trace : Trace) (all seen : List Fold) (item : Item) → Tells (fold_fault trace all seen item) (FoldsUp trace all seen item)
fold_tells trace all seen (begins cpu) = always
fold_tells trace all seen (tells cpu entry) =
    part_tells (λ fold. unless (is_fold trace all seen fold) 0) (IsFold trace all seen) (λ fold. test_tells (is_fold trace all seen fold) 0 (fold_decides trace all seen fold)) (effect entry).fold

-- ---- counts

sum_decides : (trace : Trace) (all : List Fold) (load : Load) → Decides (is_sum trace all load) (IsSum trace all load)
sum_decides trace all load = like (is_sum trace all load)
    (Decides-and _ _ (is_true (has_counter trace load.counter)) (Decides-and _ _ (is_le load.count.version (length (of_counter load.counter all)))
    (Decides-int_eq load.count.value (sum_to load.count.version (of_counter load.counter all)))))
    (λ p. record { named = p.0; within = p.1.0; sum = p.1.1 })
    (λ s. (s.named, (s.within, s.sum)))

count_by : (trace : Trace) (all : List Fold) (seen : List Version) (load : Load) → Decides (is_sum trace all load && is_fresh_count seen load) (IsSum trace all load × (is_fresh_count seen load ≡ true))
count_by trace all seen load = Decides-and (is_sum trace all load) (is_fresh_count seen load) (sum_decides trace all load) (is_true (is_fresh_count seen load))

pub count_tells : (trace : Trace) (all : List Fold) (seen : List Version) (item : Item) → Tells (count_fault trace all seen item) (CountsAreSums trace all item × CountsAreFresh seen item)
count_tells trace all seen (begins cpu) = record { holds = λ is. (tt, tt); none = λ p. refl }
count_tells trace all seen (tells cpu entry) = tells_like _
    (list_tells (λ load. is_sum trace all load && is_fresh_count seen load) (λ load. IsSum trace all load × (is_fresh_count seen load ≡ true)) (count_by trace all seen) 0 (loads_in entry))
    (each_both (IsSum trace all) (λ load. is_fresh_count seen load ≡ true) (loads_in entry))
    (λ both. each_one (IsSum trace all) (λ load. is_fresh_count seen load ≡ true) (loads_in entry) both.0 both.1)

-- ---- triples and fractions

triple_by : (entries : List TimerEntry) (seen : List DomainLine) (read : DomainLine)
    → Decides (is_published entries read && is_new seen read) ((is_published entries read ≡ true) × (is_new seen read ≡ true))
triple_by entries seen read = Decides-and (is_published entries read) (is_new seen read) (is_true (is_published entries read)) (is_true (is_new seen read))

pub triple_tells : (entries : List TimerEntry) (seen : List DomainLine) (item : Item) → Tells (triple_fault entries seen item) (TriplesArePublished entries item × TriplesGoOn seen item)
triple_tells entries seen (begins cpu) = record { holds = λ is. (tt, tt); none = λ p. refl }
triple_tells entries seen (tells cpu entry) = tells_like _
    (list_tells (λ read. is_published entries read && is_new seen read) (λ read. (is_published entries read ≡ true) × (is_new seen read ≡ true)) (triple_by entries seen) 0 (reads_in entry))
    (each_both (λ read. is_published entries read ≡ true) (λ read. is_new seen read ≡ true) (reads_in entry))
    (λ both. each_one (λ read. is_published entries read ≡ true) (λ read. is_new seen read ≡ true) (reads_in entry) both.0 both.1)

fraction_decides : (entries : List TimerEntry) (all : List Told) (context : ℕ) (read : DomainLine) → Decides (is_fraction entries all context read) (IsFraction entries all context read)
fraction_decides entries all context read = like (is_fraction entries all context read)
    (Decides-and _ _ (is_le 1 read.share.den) (Decides-and _ _ (is_le read.share.num read.share.den)
    (Decides-and _ _ (is_true (list_any (λ period. period == read.share.period) (periods_from read.domain 0 entries))) (is_le read.share.num (added_to read.domain context all)))))
    (λ p. record { some_whole = p.0; at_most_whole = p.1.0; of_period = p.1.1.0; of_added = p.1.1.1 })
    (λ f. (f.some_whole, (f.at_most_whole, (f.of_period, f.of_added))))

fraction_by : (entries : List TimerEntry) (all : List Told) (seen : List Period) (context : ℕ) (read : DomainLine)
    → Decides (is_fraction entries all context read && is_new_enough seen context read) (IsFraction entries all context read × (is_new_enough seen context read ≡ true))
fraction_by entries all seen context read =
    Decides-and (is_fraction entries all context read) (is_new_enough seen context read) (fraction_decides entries all context read) (is_true (is_new_enough seen context read))

share_tells : (trace : Trace) (share : Share) → Tells (share_fault trace share) (IsShare trace share.domain share.context)
share_tells trace share = tells_like _
    (test_tells (nat_lt share.domain (domains trace) && nat_lt share.context (contexts trace)) 0
    (Decides-and _ _ (is_true (nat_lt share.domain (domains trace))) (is_true (nat_lt share.context (contexts trace)))))
    (λ p. record { domain_named = p.0; context_named = p.1 })
    (λ s. (s.domain_named, s.context_named))

-- each fraction that a check read is one, and is of no earlier period than those before
abbrev AreFractions : (entries : List TimerEntry) (all : List Told) (check : CheckEntry) → Type 0
AreFractions entries all check = Each (IsFraction entries all check.context) (reads_of check)

abbrev AreNewEnough : (seen : List Period) (check : CheckEntry) → Type 0
AreNewEnough seen check = Each (λ read. is_new_enough seen check.context read ≡ true) (reads_of check)

read_tells : (entries : List TimerEntry) (all : List Told) (seen : List Period) (check : CheckEntry) → Tells (read_fault entries all seen check) (AreFractions entries all check × AreNewEnough seen check)
read_tells entries all seen check = tells_like _
    (list_tells (λ read. is_fraction entries all check.context read && is_new_enough seen check.context read)
    (λ read. IsFraction entries all check.context read × (is_new_enough seen check.context read ≡ true)) (fraction_by entries all seen check.context) 0 (reads_of check))
    (each_both (IsFraction entries all check.context) (λ read. is_new_enough seen check.context read ≡ true) (reads_of check))
    (λ both. each_one (IsFraction entries all check.context) (λ read. is_new_enough seen check.context read ≡ true) (reads_of check) both.0 both.1)

pub fraction_tells : (trace : Trace) (entries : List TimerEntry) (all : List Told) (seen : List Period) (item : Item)
    → Tells (fraction_fault trace entries all seen item) (FractionsAreOfPeriods trace entries all item × PeriodsGoOn seen item)
fraction_tells trace entries all seen (begins cpu) = record { holds = λ is. (tt, tt); none = λ p. refl }
fraction_tells trace entries all seen (tells cpu entry) = tells_like _
    (both_tell _ _
    (part_tells (read_fault entries all seen) (λ check. AreFractions entries all check × AreNewEnough seen check) (read_tells entries all seen) (effect entry).check)
    (part_tells (share_fault trace) (λ share. IsShare trace share.domain share.context) (share_tells trace) (effect entry).share))
    (λ both. let reads = some_both (AreFractions entries all) (AreNewEnough seen) (effect entry).check both.0 in (record { check = reads.0; share = both.1 }, reads.1))
    (λ both. (both_some (AreFractions entries all) (AreNewEnough seen) (effect entry).check both.0.check both.1, both.0.share))

-- ---- estimates

follows_decides : (old new : Estimate) → Decides (follows old new) (Follows old new)
follows_decides old new = like (follows old new)
    (Decides-and _ _ (Decides-eqb new.version (old.version + 1)) (Decides-and _ _ (is_le (old.at + 200) new.at)
    (Decides-and _ _ (Decides-eqb new.bw (bandwidth_after old.bw new.written_stamp old.written_stamp (new.at - old.at)))
    (Decides-eqb new.avg (average_after old.avg old.bw new.bw (new.at - old.at))))))
    (λ p. record { version = p.0; later = p.1.0; bandwidth = p.1.1.0; average = p.1.1.1 })
    (λ f. (f.version, (f.later, (f.bandwidth, f.average))))

-- what an item says of estimates: published ones follow, checks name them, and names don't go back
abbrev pub Estimating : Trace → (opened : ℕ) → (all : List Told) → Sight → Item → Type 0
Estimating trace opened all s item = EstimatesFollow trace opened s.estimates item × (ChecksNameEstimates trace all item × NamesGoOn s.names item)

est_tells : (trace : Trace) (opened : ℕ) (seen : List EstEntry) (est : EstEntry) → Tells (next_fault trace opened seen est) (IsNext trace opened seen est)
est_tells trace opened seen est = tells_like _
    (test_tells _ 0 (Decides-and _ _ (is_true (nat_lt est.context (contexts trace))) (follows_decides (newest_of trace opened est.context seen) est.estimate)))
    (λ p. record { named = p.0; follows_last = p.1 })
    (λ n. (n.named, n.follows_last))

abbrev AreNoNewer : (names : List Named) (check : CheckEntry) → Type 0
AreNoNewer names check = list_all (is_no_newer check.context check.estimate) names ≡ true

named_tells : (trace : Trace) (all : List Told) (names : List Named) (check : CheckEntry) → Tells (name_fault trace all names check) (NamesEstimate trace all check × AreNoNewer names check)
named_tells trace all names check = tells_like _
    (test_tells _ (decision_at check) (Decides-and _ _ (is_true (nat_lt check.context (contexts trace)))
    (Decides-and _ _ (is_le check.estimate (length (estimates_of check.context all))) (is_true (list_all (is_no_newer check.context check.estimate) names)))))
    (λ p. (record { named = p.0; within = p.1.0 }, p.1.1))
    (λ n. (n.0.named, (n.0.within, n.1)))

pub estimate_tells : (trace : Trace) (opened : ℕ) (all : List Told) (s : Sight) (item : Item) → Tells (estimate_fault trace opened all s item) (Estimating trace opened all s item)
estimate_tells trace opened all s (begins cpu) = record { holds = λ is. (tt, (tt, tt)); none = λ p. refl }
estimate_tells trace opened all s (tells cpu entry) = tells_like _
    (both_tell _ _
    (part_tells (next_fault trace opened s.estimates) (IsNext trace opened s.estimates) (est_tells trace opened s.estimates) (effect entry).estimate)
    (part_tells (name_fault trace all s.names) (λ check. NamesEstimate trace all check × AreNoNewer s.names check) (named_tells trace all s.names) (effect entry).check))
    (λ both. (both.0, some_both (NamesEstimate trace all) (AreNoNewer s.names) (effect entry).check both.1))
    (λ both. (both.0, both_some (NamesEstimate trace all) (AreNoNewer s.names) (effect entry).check both.1.0 both.1.1))
