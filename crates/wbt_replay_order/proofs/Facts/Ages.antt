-- An idle turn of a flusher of an ageing device, one change after another: what each of them keeps is kept by all.
use Rattle.std.proofs.Common.{◌≡◌, ℕ, zero, suc, ◌+◌, ◌≤◌, Bool, true, false, leb, List, [], ◌∷◌, refl, arith}
use Rattle.std.proofs.lemmas.Bool.Decides.{nat_tests}
use Rattle.wbt_replay_order.proofs.Common.{has_inode, flusher_device, FLUSHER_REST, Trace, rest_until, take_first, tell, note, notice_all, noticed, State, waiting_of, queue_of, with_queue}
use Rattle.wbt_expiry.specs.declared.due.Due.{Due}
use Rattle.wbt_replay_moves.specs.Definition.Idle.{take_due, notice_from, take_aged, age_so}
use Rattle.wbt_replay_order.proofs.Facts.Lists.{either}

up_to : (a b : ℕ) → leb a b ≡ true → a ≤ b
up_to a b is = grind (arith, nat_tests)

-- ---- notices

module _ (trace : Trace) (cpu f now : ℕ) (P : State → Type 0)
    (tells : (s : State) → P s → P (tell f now s))
    (drops : (s : State) (n : ℕ) (ns : List ℕ) → queue_of (flusher_device trace f) s ≡ n ∷ ns → has_inode n (waiting_of f s).pairs ≡ true → P s
    → P (with_queue (flusher_device trace f) ns s))
    (notes : (s : State) (n : ℕ) (ns : List ℕ) → queue_of (flusher_device trace f) s ≡ n ∷ ns → has_inode n (waiting_of f s).pairs ≡ false → P s
    → P (note trace cpu f n now (with_queue (flusher_device trace f) ns s))) where
  from_kept : (s : State) (numbers : List ℕ) → queue_of (flusher_device trace f) s ≡ numbers → P s → P (notice_from trace cpu f now numbers s)
  from_kept s [] is h = h
  from_kept s (n ∷ ns) is h =
      let u : State = with_queue (flusher_device trace f) ns s in
      either P (has_inode n (waiting_of f u).pairs) u (note trace cpu f n now u) (λ waits. drops s n ns is waits h) (λ new. notes s n ns is new h)

  all_kept : (most : ℕ) (s : State) → P s → P (notice_all trace cpu f now most s)
  unfolding notice_all
  all_kept zero s h = h
  all_kept (suc most) s h = all_kept most (notice_from trace cpu f now (queue_of (flusher_device trace f) s) s) (from_kept s (queue_of (flusher_device trace f) s) refl h)

  pub noticed_kept : (s : State) → P s → P (noticed trace cpu f now s)
  noticed_kept s h = all_kept 64 (tell f now s) (tells s h)

-- ---- a take, or a rest

-- of what the list of a flusher begins with
pub aged_kept : (cpu f now : ℕ) (over : Bool) (s : State) (Q : State → Type 0) → Q (rest_until f (now + FLUSHER_REST) s)
    → ((pair : Due) (pairs : List Due) → (waiting_of f s).pairs ≡ pair ∷ pairs → pair.due ≤ now → Q (take_due cpu f now pair pairs s))
    → ((pair : Due) (pairs : List Due) → (waiting_of f s).pairs ≡ pair ∷ pairs → Q (take_first cpu f pair pairs s))
    → Q (age_so cpu f now over s)
aged_kept cpu f now over s Q rests due first = by_pairs (waiting_of f s).pairs refl
  where
    by_pairs : (pairs : List Due) → (waiting_of f s).pairs ≡ pairs → Q (take_aged cpu f now over pairs s)
    by_pairs [] is = rests
    by_pairs (pair ∷ pairs) is =
        either Q (leb pair.due now) _ _
        (λ by_now. due pair pairs is (up_to pair.due now by_now))
        (λ later. either Q over _ _ (λ yes. first pair pairs is) (λ no. rests))
