-- What each step on a counter makes of its word: one addition or subtraction of numbers that its maker's record tells. And what
-- each step of a publication makes of the two words of a domain's limits.
use Rattle.std.specs.Prelude.{◌≡◌, ◌≢◌, ℕ, suc, ◌+◌, ◌^◌, false, ◌⊎◌}
use Rattle.wbt_num.specs.declared.limits.Limits.{Limits}
use Rattle.wbt_counter.specs.declared.counter.Counter.{Counter}
use Rattle.wbt_counter.specs.Account.{amount, to_clear}
use Rattle.wbt_counter.specs.Addends.{addend_of, fold_addend, word_plus, word_minus}
use Rattle.wbt_counter.specs.Counters.{is_same, debt_to}
use Rattle.wbt_grant.specs.Setting.{Setting, IsSetting, FitsWords}
use Rattle.wbt_grant.specs.State.{State, sequence_of}
use Rattle.wbt_grant.specs.Kinds.{add, fold, clear, unseal, thresh, publish, own_now, shared_now, sequence_now, thresh_now, Allowed, after}
use Rattle.wbt_grant.specs.Rule.{Rule}
use Rattle.wbt_grant.specs.Seats.{own_told}

-- one own word becomes another, and no other own word changes
pub record OwnBecomes (x : Counter) (i word : ℕ) (s new : State) : Type 0 where
  pub here : own_now x i new ≡ word
  pub others : (y : Counter) (j : ℕ) → ((is_same y x ≡ false) ⊎ (j ≢ i)) → own_now y j new ≡ own_now y j s

-- one shared word becomes another, and no other shared word changes
pub record SharedBecomes (x : Counter) (word : ℕ) (s new : State) : Type 0 where
  pub here : shared_now x new ≡ word
  pub others : (y : Counter) → is_same y x ≡ false → shared_now y new ≡ shared_now y s

-- the event that is owed is added to the own word
abbrev pub AddIsAddition : Type 0
AddIsAddition = (set : Setting) (i : ℕ) (x : Counter) (s : State) → IsSetting set → Rule set s → Allowed set (add i x) s
    → OwnBecomes x i (word_plus (own_now x i s) (addend_of (amount (debt_to x (s.cpu i).debts)))) s (after set (add i x) s)

-- one version and the own number are added to the shared word, at once, where so few steps are made that the word counts them
abbrev pub FoldIsAddition : Type 0
FoldIsAddition = (set : Setting) (i : ℕ) (x : Counter) (s : State) → IsSetting set → FitsWords set → Rule set s → Allowed set (fold i x) s
    → SharedBecomes x (word_plus (shared_now x s) (fold_addend (own_told set x (s.cpu i)))) s (after set (fold i x) s)

-- just the number that was folded is taken from the own word
abbrev pub ClearIsSubtraction : Type 0
ClearIsSubtraction = (set : Setting) (i : ℕ) (x : Counter) (s : State) → IsSetting set → Rule set s → Allowed set (clear i x) s
    → OwnBecomes x i (word_minus (own_now x i s) (addend_of (to_clear (debt_to x (s.cpu i).debts)))) s (after set (clear i x) s)

-- the sequence word of one domain becomes another; no other sequence word changes, and no thresh word
pub record SequenceBecomes (set : Setting) (d word : ℕ) (s new : State) : Type 0 where
  pub here : sequence_now set d new ≡ word
  pub others : (e : ℕ) → e ≢ d → sequence_now set e new ≡ sequence_now set e s
  pub thresh_words : (e : ℕ) → thresh_now set e new ≡ thresh_now set e s

-- the thresh word of one domain becomes another; no other thresh word changes, and no sequence word
pub record ThreshBecomes (set : Setting) (d word : ℕ) (s new : State) : Type 0 where
  pub here : thresh_now set d new ≡ word
  pub others : (e : ℕ) → e ≢ d → thresh_now set e new ≡ thresh_now set e s
  pub sequence_words : (e : ℕ) → sequence_now set e new ≡ sequence_now set e s

-- one is added to the sequence, and the hard limit stays
abbrev pub UnsealIsAddition : Type 0
UnsealIsAddition = (set : Setting) (d : ℕ) (s : State) → IsSetting set → Allowed set (unseal d) s
    → SequenceBecomes set d (sequence_now set d s + 2 ^ 32) s (after set (unseal d) s)

-- the thresh word becomes that of the limits
abbrev pub ThreshIsSwap : Type 0
ThreshIsSwap = (set : Setting) (d : ℕ) (triple : Limits) (s : State) → Allowed set (thresh d triple) s
    → ThreshBecomes set d (set.coding.thresh_word triple) s (after set (thresh d triple) s)

-- the sequence word becomes that of the next sequence, which is even, and of the hard limit in hand
abbrev pub PublishIsSwap : Type 0
PublishIsSwap = (set : Setting) (d : ℕ) (triple : Limits) (s : State) → Allowed set (publish d triple) s
    → SequenceBecomes set d (set.coding.sequence_word (suc (sequence_of s.timer d)) triple.hard) s (after set (publish d triple) s)
