-- The folds and the counts of a journal, by the records of all CPUs.
use Rattle.std.proofs.Common.{◌≡◌, ℕ, suc, ◌+◌, ◌<◌, Bool, true, false, cond, ◌&&◌, nat_lt, nat_le, ◌==◌, eqb, List, [], ◌∷◌, length, count_by, get_or, All, ℤ, pos, ◌+ℤ◌, unsigned_abs, sym, refl, ap, ◌∙◌, subst, arith}
use Rattle.std.proofs.lemmas.Bool.{cond_both, cond-true}
use Rattle.std.proofs.lemmas.Int.{ints}
use Rattle.std.proofs.lemmas.List.Elements.{All-nil, All-cons, All-head, All-tail}
use Rattle.std.proofs.lemmas.List.Sums.{sum_by-cons, length-filter}
use Rattle.wbt_run_laws.proofs.Common.{is_same, total, one_if, Counter, Fold, total_same, Setting, fold_in, Each, Told, onto}
use Rattle.wbt_counter.specs.Counters.{folds_of}
use Rattle.wbt_counter.specs.History.{History, folds_by, times_made, AreFolds}
use Rattle.wbt_counter.specs.Recorded.{sum_up_to, recorded_sum}
use Rattle.wbt_counter.proofs.Debts.{is_same-itself}
use Rattle.wbt_counter.proofs.Sums.{total_ℤ_same}
use Rattle.wbt_grant.specs.Setting.{batch_of}
use Rattle.wbt_grant.specs.State.{State}
use Rattle.wbt_grant.specs.Laws.{RecordsTell}
use Rattle.wbt_grant.specs.Rule.{Rule}
use Rattle.wbt_grant.proofs.Seats.{folds_are_recorded}
use Rattle.wbt_journal.specs.Counts.{folds_in, of_counter, is_version, sum_to}
use Rattle.wbt_journal.specs.Laws.{VersionsAreOnce}
use Rattle.wbt_run_laws.proofs.Parts.{joined, weigh, records_sum, records_weigh}

-- ---- measures of folds

times_by : (same : Bool) (x : Counter) (v : ℕ) (fold : Fold) (older : List Fold) → same ≡ is_same x fold.counter
    → times_made v (cond same ((fold.version, fold.delta) ∷ folds_of x older) (folds_of x older)) ≡ one_if (same && (fold.version == v)) + times_made v (folds_of x older)
times_by true x v fold older is = refl
times_by false x v fold older is = omega arith

pub times_is : (x : Counter) (v : ℕ) (folds : List Fold) → times_made v (folds_of x folds) ≡ count_by (is_version x v) folds
times_is x v [] = refl
times_is x v (fold ∷ older) =
    let first = times_by (is_same x fold.counter) x v fold older refl in
    let more = times_is x v older in
    let counted = sum_by-cons (λ (f : Fold). cond (is_version x v f) 1 0) fold older in omega arith

length_by : (same : Bool) (m : ℕ × ℤ) (rest : List (ℕ × ℤ)) → length (cond same (m ∷ rest) rest) ≡ cond same 1 0 + length rest
length_by true m rest = omega arith
length_by false m rest = omega arith

pub length_is : (x : Counter) (folds : List Fold) → length (folds_of x folds) ≡ count_by (λ (f : Fold). is_same x f.counter) folds
length_is x [] = refl
length_is x (fold ∷ older) =
    let first = length_by (is_same x fold.counter) (fold.version, fold.delta) (folds_of x older) in
    let more = length_is x older in
    let counted = sum_by-cons (λ (f : Fold). cond (is_same x f.counter) 1 0) fold older in omega arith

-- what a fold adds to the sum of a counter up to a version
abbrev pub up_to : (x : Counter) (v : ℕ) (fold : Fold) → ℤ
up_to x v fold = cond (is_same x fold.counter) (cond (nat_le fold.version v) fold.delta (pos 0)) (pos 0)

recorded_by : (same : Bool) (v n : ℕ) (delta : ℤ) (rest : List (ℕ × ℤ)) → sum_up_to v (cond same ((n, delta) ∷ rest) rest) ≡ cond same (cond (nat_le n v) delta (pos 0)) (pos 0) +ℤ sum_up_to v rest
recorded_by true v n delta rest = refl
recorded_by false v n delta rest = omega (arith, ints)

recorded_is : (x : Counter) (v : ℕ) (folds : List Fold) → sum_up_to v (folds_of x folds) ≡ weigh (up_to x v) folds
recorded_is x v [] = refl
recorded_is x v (fold ∷ older) = recorded_by (is_same x fold.counter) v fold.version fold.delta (folds_of x older) ∙ ap (λ (z : ℤ). up_to x v fold +ℤ z) (recorded_is x v older)

within_by : (behind : Bool) (delta rest : ℤ) → cond behind (delta +ℤ rest) rest ≡ cond behind delta (pos 0) +ℤ rest
within_by true delta rest = refl
within_by false delta rest = omega (arith, ints)

told_by : (same : Bool) (v : ℕ) (fold : Fold) (rest : List Fold) → sum_to v (cond same (fold ∷ rest) rest) ≡ cond same (cond (nat_le fold.version v) fold.delta (pos 0)) (pos 0) +ℤ sum_to v rest
told_by true v fold rest = within_by (nat_le fold.version v) fold.delta (sum_to v rest)
told_by false v fold rest = omega (arith, ints)

told_is : (x : Counter) (v : ℕ) (folds : List Fold) → sum_to v (of_counter x folds) ≡ weigh (up_to x v) folds
told_is x v [] = refl
told_is x v (fold ∷ older) = told_by (is_same x fold.counter) v fold (of_counter x older) ∙ ap (λ (z : ℤ). up_to x v fold +ℤ z) (told_is x v older)

-- ---- each fold of a record moves a batch

by_full : (batch cpus i : ℕ) (folds : History) → AreFolds batch cpus folds → All (λ (m : ℕ × ℤ). unsigned_abs m.1 ≡ batch) (folds_by i folds)
by_full batch cpus i [] are = All-nil (λ (m : ℕ × ℤ). unsigned_abs m.1 ≡ batch)
by_full batch cpus i (fold ∷ older) are =
    let P = λ (m : ℕ × ℤ). unsigned_abs m.1 ≡ batch in
    let rest = by_full batch cpus i older are.2 in
    cond_both (eqb fold.0 i) ((suc (length older), fold.1) ∷ folds_by i older) (folds_by i older) (λ (l : List (ℕ × ℤ)). All P l)
    (λ t. All-cons P (suc (length older), fold.1) (folds_by i older) are.1 rest) (λ t. rest)

of_each : (P : Counter → ℤ → Type 0) (folds : List Fold) → ((x : Counter) → All (λ (m : ℕ × ℤ). P x m.1) (folds_of x folds)) → Each (λ (f : Fold). P f.counter f.delta) folds
of_each P [] each = tt
of_each P (fold ∷ older) each = (
  (let x = fold.counter in All-head (λ (m : ℕ × ℤ). P x m.1) (fold.version, fold.delta) (folds_of x older)
      (subst (λ (l : List (ℕ × ℤ)). All (λ (m : ℕ × ℤ). P x m.1) l)
      (cond-true (is_same x fold.counter) ((fold.version, fold.delta) ∷ folds_of x older) (folds_of x older) (is_same-itself x)) (each x))),
  of_each P older (λ x. cond_both (is_same x fold.counter) ((fold.version, fold.delta) ∷ folds_of x older) (folds_of x older)
      (λ (l : List (ℕ × ℤ)). All (λ (m : ℕ × ℤ). P x m.1) l → All (λ (m : ℕ × ℤ). P x m.1) (folds_of x older))
      (λ t all. All-tail (λ (m : ℕ × ℤ). P x m.1) (fold.version, fold.delta) (folds_of x older) all) (λ t all. all) (each x)),
)

-- ---- of the parts of a run whose records these are

module _ (set : Setting) (s : State) (tell : RecordsTell set s) (rule : Rule set s) (parts : List (List Told)) (many : length parts ≡ set.cpus)
    (are : (c : ℕ) → c < set.cpus → (s.cpu c).folds ≡ onto fold_in (get_or parts c []) []) where
  pub record_full : (c : ℕ) → Each (λ (f : Fold). unsigned_abs f.delta ≡ batch_of set f.counter) (s.cpu c).folds
  record_full c = of_each (λ x delta. unsigned_abs delta ≡ batch_of set x) (s.cpu c).folds
      (λ x. subst (λ (l : List (ℕ × ℤ)). All (λ (m : ℕ × ℤ). unsigned_abs m.1 ≡ batch_of set x) l) (sym (tell.folds_recorded x c))
      (by_full (batch_of set x) set.cpus c (s.folds x) (tell.folds_full x)))

  -- as many folds as the counters' histories have
  pub many_folds : (x : Counter) → length (of_counter x (folds_in (joined parts))) ≡ total set.cpus (λ c. length (folds_of x (s.cpu c).folds))
  many_folds x =
      length-filter (λ (f : Fold). is_same x f.counter) (folds_in (joined parts))
      ∙ records_sum fold_in (λ (f : Fold). cond (is_same x f.counter) 1 0) set.cpus parts (λ c. (s.cpu c).folds) many are
      ∙ total_same set.cpus (λ c. count_by (λ (f : Fold). is_same x f.counter) (s.cpu c).folds) (λ c. length (folds_of x (s.cpu c).folds)) (λ c less. sym (length_is x (s.cpu c).folds))

  pub versions_once : VersionsAreOnce (folds_in (joined parts))
  versions_once x v =
      let history = folds_are_recorded set s rule x in
      ap (λ (n : ℕ). one_if (nat_lt 0 v && nat_le v n)) (many_folds x ∙ history.all)
      ∙ sym (tell.versions_once x v)
      ∙ total_same set.cpus (λ c. times_made v (folds_of x (s.cpu c).folds)) (λ c. count_by (is_version x v) (s.cpu c).folds) (λ c less. times_is x v (s.cpu c).folds)
      ∙ sym (records_sum fold_in (λ (f : Fold). cond (is_version x v f) 1 0) set.cpus parts (λ c. (s.cpu c).folds) many are)

  -- what all records sum to is what the journal's folds sum to
  pub sums_are : (x : Counter) (v : ℕ) → recorded_sum set.cpus v (λ c. folds_of x (s.cpu c).folds) ≡ sum_to v (of_counter x (folds_in (joined parts)))
  sums_are x v =
      total_ℤ_same set.cpus (λ c. sum_up_to v (folds_of x (s.cpu c).folds)) (λ c. weigh (up_to x v) (s.cpu c).folds) (λ c less. recorded_is x v (s.cpu c).folds)
      ∙ sym (records_weigh fold_in (up_to x v) set.cpus parts (λ c. (s.cpu c).folds) many are)
      ∙ sym (told_is x v (folds_in (joined parts)))
