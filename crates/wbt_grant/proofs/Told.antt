-- What records and words tell.
use Rattle.std.proofs.Common.{◌≡◌, ℕ, ◌^◌, length, ℤ, pos, ◌+ℤ◌, unsigned_abs, sym, ap, ◌∙◌, arith}
use Rattle.std.proofs.lemmas.Int.{ints}
use Rattle.wbt_counter.specs.declared.counter.Counter.{Counter}
use Rattle.wbt_counter.specs.Account.{IsCounter}
use Rattle.wbt_counter.specs.History.{folds_by, sum_of}
use Rattle.wbt_counter.specs.Counters.{folds_of}
use Rattle.wbt_counter.specs.Recorded.{sum_up_to}
use Rattle.wbt_counter.specs.Word.{IsPackable, packed, version_in, count_in}
use Rattle.wbt_counter.proofs.Sums.{total_same, total_ℤ_same}
use Rattle.wbt_counter.proofs.WordLaws.{own_is_near, near_has_room, own_word_holds}
use Rattle.wbt_counter.proofs.Recorded as recorded
use Rattle.wbt_grant.specs.Setting.{Setting, batch_of}
use Rattle.wbt_grant.specs.State.{State, exact_count, account_of}
use Rattle.wbt_grant.specs.Rule.{Rule}
use Rattle.wbt_grant.specs.SeatLaws.{WordsAreRead, OwnIsTold, FoldsAreRecorded}
use Rattle.wbt_grant.proofs.Reading.{sequence_tells, limits_tell}
use Rattle.wbt_grant.proofs.Ranges.{batch_fits, sum_has_room}

law_of : (set : Setting) (s : State) (x : Counter) → Rule set s
    → IsCounter (batch_of set x) set.cpus (exact_count set s.book x) (s.folds x) (s.own x) (λ i. account_of set x (s.cpu i))
law_of set s x rule = rule.counted.each x

pub own_is_told : OwnIsTold
own_is_told set s rule i x =
    let accounts = λ (j : ℕ). account_of set x (s.cpu j) in
    let law = law_of set s x rule in
    let batch : ℕ = batch_of set x in
    let exact : ℕ = exact_count set s.book x in
    record {
      told = recorded.own_is_told batch set.cpus exact (s.folds x) (s.own x) accounts law i;
      near = own_is_near batch set.cpus exact (s.folds x) (s.own x) accounts law i;
      units = λ a owes. recorded.events_are_units batch set.cpus exact (s.folds x) (s.own x) accounts law i a owes;
    }

pub folds_are_recorded : FoldsAreRecorded
folds_are_recorded set s rule x =
    let law = law_of set s x rule in
    let made = λ (i : ℕ). folds_of x (s.cpu i).folds in
    record {
      all = total_same set.cpus (λ i. length (made i)) (λ i. length (folds_by i (s.folds x))) (λ i less. ap length (law.recorded i))
          ∙ recorded.folds_are_all (batch_of set x) set.cpus (s.folds x) law.are_folds;
      sums = λ v. recorded.sums_are_recorded (batch_of set x) set.cpus (s.folds x) law.are_folds v
          ∙ total_ℤ_same set.cpus (λ i. sum_up_to v (folds_by i (s.folds x))) (λ i. sum_up_to v (made i))
          (λ i less. ap (sum_up_to v) (sym (law.recorded i)));
    }

-- The parts of a shared word tell the version and the sum, whatever the version.
unpacked : (version : ℕ) (count : ℤ) → IsPackable count → (version_in (packed version count) ≡ version) × (count_in (packed version count) ≡ count)
unpacked version count fits =
    let low = fits.not_too_low in let high = fits.not_too_high in let n : ℕ = unsigned_abs (count +ℤ pos (2 ^ 23)) in
    let is : pos n ≡ count +ℤ pos (2 ^ 23) = omega (arith, ints) in
    (omega (arith, ints), omega (arith, ints))

pub words_are_read : WordsAreRead
words_are_read set s ok rule = record {
  versions = λ x. (unpacked (length (s.folds x)) (sum_of (s.folds x)) (sum_has_room set s ok rule x)).0;
  sums = λ x. (unpacked (length (s.folds x)) (sum_of (s.folds x)) (sum_has_room set s ok rule x)).1;
  own = λ x i. let small = batch_fits set x ok.few_cpus in
      own_word_holds (s.own x i) (near_has_room (batch_of set x) (s.own x i) (omega arith) (own_is_told set s rule i x).near);
  sequences = sequence_tells set s ok rule;
  limits = limits_tell set s ok rule;
  pages = λ p l. ok.words_hold s.book p l;
}
