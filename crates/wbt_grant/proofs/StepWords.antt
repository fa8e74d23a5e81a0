-- A step on a counter is one addition to its word, or one subtraction.
use Rattle.std.proofs.Common.{◌≡◌, ◌≢◌, ℕ, suc, ◌<◌, false, ◌⊎◌, ◌^◌, ◌∷◌, length, ℤ, sym, ap, ◌∙◌, subst, arith, ⊎_elim}
use Rattle.std.proofs.lemmas.Bool.{cases_Bool, cond-true, cond-false}
use Rattle.wbt_num.specs.declared.limits.Limits.{Limits}
use Rattle.wbt_counter.specs.declared.counter.Counter.{Counter}
use Rattle.wbt_counter.specs.Sums.{put}
use Rattle.wbt_counter.specs.Word.{packed, own_word, IsPackable}
use Rattle.wbt_counter.specs.Account.{amount, to_clear}
use Rattle.wbt_counter.specs.Addends.{HasRoom, fold_addend, word_plus}
use Rattle.wbt_counter.specs.Counters.{is_same, put_counter, debt_to}
use Rattle.wbt_counter.specs.History.{History, sum_of}
use Rattle.wbt_counter.proofs.Sums.{put_same, put_other}
use Rattle.wbt_counter.proofs.Debts.{is_same-true, is_same-itself}
use Rattle.wbt_counter.proofs.WordLaws.{near_has_room, own_adds, own_takes, fold_follows}
use Rattle.wbt_grant.specs.Setting.{Setting, IsSetting, batch_of}
use Rattle.wbt_grant.specs.State.{State, stage_of, is_sealed, sequence_of, standing_of}
use Rattle.wbt_grant.specs.Kinds.{add, fold, clear, shared_now, local_after, local_left, after}
use Rattle.wbt_grant.specs.Rule.{Rule}
use Rattle.wbt_grant.specs.StepWords.{AddIsAddition, FoldIsAddition, ClearIsSubtraction, UnsealIsAddition, ThreshIsSwap, PublishIsSwap}
use Rattle.wbt_grant.proofs.Sequences.{sequence_unsealed, sequence_drafted, sequence_published, standing_unsealed, standing_drafted, standing_published}
use Rattle.wbt_grant.proofs.Ranges.{batch_fits, words_have_room}
use Rattle.wbt_grant.proofs.CounterSteps.{add_keeps, fold_keeps, clear_keeps}
use Rattle.wbt_grant.proofs.Seats.{own_is_told}

at_itself : {A : Type 0} (f : Counter → A) (x : Counter) (v : A) → put_counter f x v x ≡ v
at_itself f x v = cond-true (is_same x x) v (f x) (is_same-itself x)

-- the own number of a counter and of a CPU changes
module _ (own : Counter → ℕ → ℤ) (x : Counter) (i : ℕ) (local : ℤ) where
  changed : Counter → ℕ → ℤ
  changed = put_counter own x (put (own x) i local)

  own_here : changed x i ≡ local
  unfolding changed
  own_here = ap (λ (c : ℕ → ℤ). c i) (at_itself own x (put (own x) i local)) ∙ put_same (own x) i local

  own_others : (y : Counter) (j : ℕ) → ((is_same y x ≡ false) ⊎ (j ≢ i)) → changed y j ≡ own y j
  unfolding changed
  own_others y j = ⊎_elim
      (λ t. ap (λ (c : ℕ → ℤ). c j) (cond-false (is_same y x) (put (own x) i local) (own y) t))
      (λ n. ⊎_elim
      (λ t. ap (λ (c : ℕ → ℤ). c j) (cond-true (is_same y x) (put (own x) i local) (own y) t)
      ∙ (put_other (own x) i local j n ∙ ap (λ (z : Counter). own z j) (sym (is_same-true y x t))))
      (λ t. ap (λ (c : ℕ → ℤ). c j) (cond-false (is_same y x) (put (own x) i local) (own y) t))
      (cases_Bool (is_same y x)))

-- an own number has room in its word
roomy : (set : Setting) (s : State) → IsSetting set → Rule set s → (i : ℕ) (x : Counter) → HasRoom (s.own x i)
roomy set s ok rule i x =
    let small = batch_fits set x ok.few_cpus in
    near_has_room (batch_of set x) (s.own x i) (omega arith) (own_is_told set s rule i x).near

pub add_is_addition : AddIsAddition
unfolding changed
add_is_addition set i x s ok rule may =
    let new : State = after set (add i x) s in
    let local : ℤ = local_after i x s in
    let at : new.own x i ≡ local = own_here s.own x i local in
    let room : HasRoom local = subst HasRoom at (roomy set new ok (add_keeps set i x s ok rule may) i x) in
    record {
      here = ap own_word at ∙ sym (own_adds (s.own x i) (amount (debt_to x (s.cpu i).debts)) (roomy set s ok rule i x) room);
      others = λ y j other. ap own_word (own_others s.own x i local y j other);
    }

pub clear_is_subtraction : ClearIsSubtraction
unfolding changed
clear_is_subtraction set i x s ok rule may =
    let new : State = after set (clear i x) s in
    let local : ℤ = local_left i x s in
    let at : new.own x i ≡ local = own_here s.own x i local in
    let room : HasRoom local = subst HasRoom at (roomy set new ok (clear_keeps set i x s ok rule may) i x) in
    record {
      here = ap own_word at ∙ sym (own_takes (s.own x i) (to_clear (debt_to x (s.cpu i).debts)) (roomy set s ok rule i x) room);
      others = λ y j other. ap own_word (own_others s.own x i local y j other);
    }

pub fold_is_addition : FoldIsAddition
fold_is_addition set i x s ok fit rule may =
    let new : State = after set (fold i x) s in
    let delta : ℤ = s.own x i in
    let longer : History = (i, delta) ∷ s.folds x in
    let word_of = λ (h : History). packed (length h) (sum_of h) in
    let at : new.folds x ≡ longer = at_itself s.folds x longer in
    let before = words_have_room set s ok fit rule x in
    let room = words_have_room set new ok fit (fold_keeps set i x s ok rule may) x in
    let few : length longer < 2 ^ 40 = subst (λ (h : History). length h < 2 ^ 40) at room.0 in
    let fits : IsPackable (sum_of longer) = subst (λ (h : History). IsPackable (sum_of h)) at room.1 in
    let told = (own_is_told set s rule i x).told in
    record {
      here = ap word_of at ∙ (sym (fold_follows (s.folds x) i delta few before.1 fits)
          ∙ ap (λ (z : ℤ). word_plus (shared_now x s) (fold_addend z)) told);
      others = λ y n. ap word_of (cond-false (is_same y x) longer (s.folds y) n);
    }

-- ---- a publication

pub unseal_is_addition : UnsealIsAddition
unseal_is_addition set d s ok may =
    let new = sequence_unsealed s.published s.timer d may.sealed in
    let same = standing_unsealed s.published s.timer d may.sealed in
    record {
      here = ap (λ (f : ℕ → ℕ). set.coding.sequence_word (f d) (s.published d).hard) new
          ∙ (ap (λ (q : ℕ). set.coding.sequence_word q (s.published d).hard) (put_same (sequence_of s.timer) d (suc (sequence_of s.timer d)))
          ∙ ok.unseal_adds (sequence_of s.timer d) (s.published d).hard);
      others = λ e n. ap (λ (f : ℕ → ℕ). set.coding.sequence_word (f e) (s.published e).hard) new
          ∙ ap (λ (q : ℕ). set.coding.sequence_word q (s.published e).hard) (put_other (sequence_of s.timer) d (suc (sequence_of s.timer d)) e n);
      thresh_words = λ e. ap (λ (f : ℕ → Limits). set.coding.thresh_word (f e)) same;
    }

pub thresh_is_swap : ThreshIsSwap
thresh_is_swap set d triple s may =
    let new = standing_drafted s.published s.timer d triple in
    let same = sequence_drafted s.published s.timer d triple may.unsealed in
    record {
      here = ap (λ (f : ℕ → Limits). set.coding.thresh_word (f d)) new ∙ ap set.coding.thresh_word (put_same (standing_of s.published s.timer) d triple);
      others = λ e n. ap (λ (f : ℕ → Limits). set.coding.thresh_word (f e)) new
          ∙ ap set.coding.thresh_word (put_other (standing_of s.published s.timer) d triple e n);
      sequence_words = λ e. ap (λ (f : ℕ → ℕ). set.coding.sequence_word (f e) (s.published e).hard) same;
    }

pub publish_is_swap : PublishIsSwap
publish_is_swap set d triple s may =
    let unsealed : is_sealed (stage_of d s.timer.drafts) ≡ false = ap is_sealed may.in_hand in
    let new = sequence_published s.published s.timer d triple unsealed in
    let same = standing_published s.published s.timer d triple may.in_hand in
    let q : ℕ = suc (sequence_of s.timer d) in
    record {
      here = ap (λ (f : ℕ → ℕ). set.coding.sequence_word (f d) (put s.published d triple d).hard) new
          ∙ (ap (λ (n : ℕ). set.coding.sequence_word n (put s.published d triple d).hard) (put_same (sequence_of s.timer) d q)
          ∙ ap (λ (l : Limits). set.coding.sequence_word q l.hard) (put_same s.published d triple));
      others = λ e n. ap (λ (f : ℕ → ℕ). set.coding.sequence_word (f e) (put s.published d triple e).hard) new
          ∙ (ap (λ (m : ℕ). set.coding.sequence_word m (put s.published d triple e).hard) (put_other (sequence_of s.timer) d q e n)
          ∙ ap (λ (l : Limits). set.coding.sequence_word (sequence_of s.timer e) l.hard) (put_other s.published d triple e n));
      thresh_words = λ e. ap (λ (f : ℕ → Limits). set.coding.thresh_word (f e)) same;
    }
