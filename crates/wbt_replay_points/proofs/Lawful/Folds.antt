-- The folds of the journal count up over all CPUs, each of a counter that there is.
use Rattle.std.proofs.Common.{◌≡◌, ℕ, ◌<◌, ◌≤◌, true, cond, List, [], ◌∷◌, ◌++◌, length, map, count_by, get_or, flat_map, unsigned_abs, refl, sym, ◌∙◌, ap, subst, arith, append_assoc, ⊎_elim}
use Rattle.std.proofs.lemmas.Bool.{cases_lt, cond-true, lt-ltb}
use Rattle.std.proofs.lemmas.List.{get_or_past}
use Rattle.std.proofs.lemmas.List.Sums.{sum_by-cons, sum_by-append, length-filter}
use Rattle.wbt_replay_order.proofs.Common.{Trace, is_same, Counter, Fold, is_same-itself, IsSetting, fold_in, Each, Told, onto, each_append, each_weaker, each_both, joined, told_is, each_joined, State, no_domain, no_context, count_of, Domain, Writeback, AreDecided, IsFollowed, setting_of, most_moves, part_of, last_state, journal_of, Facts, Sound}
use Rattle.wbt_counter.specs.declared.counter.Counter.TheVariants as counter
use Rattle.wbt_grant.specs.Setting as setting
use Rattle.wbt_grant.proofs.Seats.{folds_are_recorded}
use Rattle.wbt_journal.specs.Counts.{folds_in}
use Rattle.wbt_journal.specs.Laws.{IsFullFold, VersionsAreOnce}
use Rattle.wbt_journal.specs.Lawful.{FoldsAreUp}
use Rattle.wbt_journal.specs.Machine as machine
use Rattle.wbt_journal.proofs.Folding.{once_is_up}
use Rattle.wbt_run_laws.proofs.Folding.{record_full, many_folds, versions_once}
use Rattle.wbt_run_laws.proofs.Lists.{each_front, each_rest, each_flat, each_into}
use Rattle.wbt_replay_points.proofs.Claims.Counted.{state_of, rule_at}
use Rattle.wbt_replay_points.proofs.Claims.Sums as sums

-- each fold of a list is one of its counter
abbrev OfItsOwn : (all : List Fold) (f : Fold) → Type 0
OfItsOwn all f = 1 ≤ count_by (λ (g : Fold). is_same f.counter g.counter) all

counted_in : (before more : List Fold) → Each (OfItsOwn (before ++ more)) more
counted_in before [] = tt
counted_in before (f ∷ more) =
    let one : Fold → ℕ = λ (g : Fold). cond (is_same f.counter g.counter) 1 0 in
    let both = sum_by-append one before (f ∷ more) in
    let first = sum_by-cons one f more in
    let itself : one f ≡ 1 = cond-true (is_same f.counter f.counter) 1 0 (is_same-itself f.counter) in (
      omega (arith, both, first, itself),
      subst (λ (l : List Fold). Each (OfItsOwn l) more) (append_assoc before (f ∷ []) more) (counted_in (before ++ f ∷ []) more),
    )

-- what holds of each fold of a record holds of each that its part tells
told_from : (P : Fold → Type 0) (es : List Told) (older : List Fold) → Each P (onto fold_in es older) → Each P (flat_map fold_in es) × Each P older
told_from P [] older each = (tt, each)
told_from P (e ∷ es) older each =
    let rest = told_from P es (fold_in e ++ older) each in
    (each_append P (fold_in e) (flat_map fold_in es) (each_front P (fold_in e) older rest.1) rest.0, each_rest P (fold_in e) older rest.1)

same_batch : (trace : Trace) (x : Counter) → setting.batch_of (setting_of trace) x ≡ machine.batch_of trace x
unfolding setting_of
same_batch trace (counter.Domain d) = refl
same_batch trace (counter.Context k) = refl

module _ (trace : Trace) (facts : Facts trace) (ok : IsSetting (setting_of trace)) (followed : IsFollowed trace) (decided : AreDecided trace) (sound : Sound trace (last_state trace)) where
  abbrev s : State
  s = last_state trace

  abbrev parts : List (List Told)
  parts = sums.parts trace facts ok followed decided sound.holds.cpus.many

  abbrev all : List Fold
  all = folds_in (joined parts)

  -- a counter that has folds is there
  counter_there : (x : Counter) → 1 ≤ (count_of x s).version → machine.has_counter trace x ≡ true
  counter_there (counter.Domain d) some = ⊎_elim
      (λ less. lt-ltb d (machine.domains trace) (omega (arith, less, sound.holds.domains.many)))
      (λ past.
      let none : (count_of (counter.Domain d) s).version ≡ 0 = ap (λ (q : Domain). q.count.version) (get_or_past s.domains d no_domain past) in
      absurd (omega (arith, some, none)))
      (cases_lt d (length s.domains))
  counter_there (counter.Context k) some = ⊎_elim
      (λ less. lt-ltb k (length trace.contexts) (omega (arith, less, sound.holds.contexts.many)))
      (λ past.
      let none : (count_of (counter.Context k) s).version ≡ 0 = ap (λ (q : Writeback). q.count.version) (get_or_past s.contexts k no_context past) in
      absurd (omega (arith, some, none)))
      (cases_lt k (length s.contexts))

  named : (f : Fold) → OfItsOwn all f → machine.has_counter trace f.counter ≡ true
  named f some =
      let x : Counter = f.counter in
      let as_many = many_folds (setting_of trace) (state_of trace followed most_moves) (sums.tell trace facts ok followed decided sound.holds.cpus.many) (rule_at trace ok followed most_moves) parts
      (sums.many trace facts ok followed decided sound.holds.cpus.many) (sums.folds_are trace facts ok followed decided sound.holds.cpus.many) x in
      let history = (folds_are_recorded (setting_of trace) (state_of trace followed most_moves) (rule_at trace ok followed most_moves) x).all in
      let shown = (followed.made most_moves).1.shows.versions x in
      let counted = length-filter (λ (g : Fold). is_same x g.counter) all in
      counter_there x (omega (arith, some, as_many, history, shown, counted))

  full_in : (c : ℕ) → c < length parts → Each (λ (e : Told). Each (λ (f : Fold). unsigned_abs f.delta ≡ machine.batch_of trace f.counter) (fold_in e)) (get_or parts c [])
  full_in c less =
      let full = λ (f : Fold). unsigned_abs f.delta ≡ setting.batch_of (setting_of trace) f.counter in
      let full_here = λ (f : Fold). unsigned_abs f.delta ≡ machine.batch_of trace f.counter in
      let many = sums.many trace facts ok followed decided sound.holds.cpus.many in
      let low : c < (setting_of trace).cpus = subst (λ (n : ℕ). c < n) many less in
      let of_record = record_full (setting_of trace) (state_of trace followed most_moves) (sums.tell trace facts ok followed decided sound.holds.cpus.many) (rule_at trace ok followed most_moves) parts
      many (sums.folds_are trace facts ok followed decided sound.holds.cpus.many) c in
      let told_full = (told_from full (get_or parts c []) [] (subst (Each full) (sums.folds_are trace facts ok followed decided sound.holds.cpus.many c low) of_record)).0 in
      each_flat full_here fold_in (get_or parts c [])
      (each_weaker full full_here (λ f is. is ∙ same_batch trace f.counter) (flat_map fold_in (get_or parts c [])) told_full)

  pub folds_up : FoldsAreUp trace (journal_of trace)
  unfolding journal_of
  folds_up =
      let full_here = λ (f : Fold). unsigned_abs f.delta ≡ machine.batch_of trace f.counter in
      let at = told_is (map part_of s.cpus) in
      let once = versions_once (setting_of trace) (state_of trace followed most_moves) (sums.tell trace facts ok followed decided sound.holds.cpus.many) (rule_at trace ok followed most_moves) parts
      (sums.many trace facts ok followed decided sound.holds.cpus.many) (sums.folds_are trace facts ok followed decided sound.holds.cpus.many) in
      let full = each_into full_here fold_in (joined parts) (each_joined (λ (e : Told). Each full_here (fold_in e)) parts full_in) in
      let each = each_weaker (λ (f : Fold). full_here f × OfItsOwn all f) (IsFullFold trace) (λ f is. record { named = named f is.1; full = is.0 }) all
      (each_both full_here (OfItsOwn all) all full (counted_in [] all)) in
      once_is_up trace (journal_of trace)
      (subst (λ (es : List Told). VersionsAreOnce (folds_in es)) (sym at) once)
      (subst (λ (es : List Told). Each (IsFullFold trace) (folds_in es)) (sym at) each)
