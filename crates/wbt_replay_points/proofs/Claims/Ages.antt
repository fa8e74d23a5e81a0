-- What is taken for its age was noticed before, and was due.
use Rattle.std.proofs.Common.{◌≡◌, ℕ, zero, suc, cond, eqb, List, [], ◌∷◌, Contains, refl, sym, ◌∙◌, ap, subst, eq-eqb, ne_eqb}
use Rattle.std.proofs.lemmas.Bool.{cond-true, cond-false}
use Rattle.std.proofs.lemmas.List.Elements.{Contains-push, Contains-append_left}
use mathlib.Core.Logic.{dite}
use native.Mathlib.Decide.{ℕ_discrete}
use Rattle.wbt_replay_order.proofs.Common.{with_pair, each_put, due_after, Trace, Told, Along}
use Rattle.wbt_expiry.specs.Waiting.{Each as EachPair}
use Rattle.wbt_expiry.specs.declared.due.Due.{Due}
use Rattle.wbt_journal.specs.Told.{wrote, folded, checked, claimed, batch, done, share, estimated, fault, gave_back, noticed, aged, took}
use Rattle.wbt_journal.specs.Waits.{noticed_pair, without_first, MayAge}
use Rattle.wbt_run_laws.specs.Waits.{list_after, WaitsInTurn}
use Rattle.wbt_replay_order.specs.Claims.Ages.{WasDue, AgedWasDue, and_then}

-- ---- the pairs of a flusher's list

-- an inode that waits was noticed
abbrev IsNoticed : (trace : Trace) (f : ℕ) (before : List Told) (pair : Due) → Type 0
IsNoticed trace f before pair = (since : ℕ) × Contains before (noticed f pair.inode since) × (pair.due ≡ due_after trace pair.inode since)

abbrev AreNoticed : (trace : Trace) (f : ℕ) (before : List Told) (pairs : List Due) → Type 0
AreNoticed trace f before pairs = EachPair (IsNoticed trace f before) pairs

still : (trace : Trace) (f : ℕ) (before : List Told) (e : Told) (pairs : List Due) → AreNoticed trace f before pairs → AreNoticed trace f (and_then before e) pairs
still trace f before e [] h = tt
still trace f before e (pair ∷ pairs) h =
    ((h.0.0, Contains-append_left before (e ∷ []) (noticed f pair.inode h.0.0) h.0.1, h.0.2), still trace f before e pairs h.1)

rest_of : (trace : Trace) (f : ℕ) (before : List Told) (pairs : List Due) → AreNoticed trace f before pairs → AreNoticed trace f before (without_first pairs)
rest_of trace f before [] h = tt
rest_of trace f before (pair ∷ pairs) h = h.1

one_more : (trace : Trace) (f inode since : ℕ) (before : List Told) (pairs : List Due) → AreNoticed trace f before pairs
    → AreNoticed trace f (and_then before (noticed f inode since)) (with_pair (noticed_pair trace inode since) pairs)
one_more trace f inode since before pairs h =
    each_put (IsNoticed trace f (and_then before (noticed f inode since))) (noticed_pair trace inode since) pairs
    (since, Contains-push before (noticed f inode since), refl) (still trace f before (noticed f inode since) pairs h)

-- the pair that stands first
first_due : (trace : Trace) (f inode due now : ℕ) (before : List Told) (pairs : List Due) → MayAge inode due now pairs → AreNoticed trace f before pairs → WasDue trace f inode due now before
first_due trace f inode due now before [] may h = absurd may.first
first_due trace f inode due now before (pair ∷ pairs) may h = record {
  since = h.0.0;
  told = subst (λ (n : ℕ). Contains before (noticed f n h.0.0)) may.first h.0.1;
  moment = sym may.moment ∙ h.0.2 ∙ ap (λ (n : ℕ). due_after trace n h.0.0) may.first;
  by_now = may.by_now;
}

-- ---- along a part

-- what is claimed of one flusher's entries
abbrev OfFlusher : (trace : Trace) (f : ℕ) (before : List Told) (e : Told) → Type 0
OfFlusher trace f before (aged flusher inode due now) = flusher ≡ f → WasDue trace flusher inode due now before
OfFlusher trace f before other = Unit {0}

-- the list of the flusher after a move of another, which isn't seen
either_list : (trace : Trace) (g f : ℕ) (before : List Told) (new old : List Due) → (g ≡ f → AreNoticed trace f before new) → AreNoticed trace f before old → AreNoticed trace f before (cond (eqb g f) new old)
either_list trace g f before new old own kept = dite (ℕ_discrete g f)
    (λ same. subst (AreNoticed trace f before) (sym (cond-true (eqb g f) new old (eq-eqb g f same))) (own same))
    (λ apart. subst (AreNoticed trace f before) (sym (cond-false (eqb g f) new old (ne_eqb g f apart))) kept)

one_entry : (trace : Trace) (f : ℕ) (before : List Told) (pairs : List Due) (e : Told) → WaitsInTurn trace f pairs e → AreNoticed trace f before pairs
    → OfFlusher trace f before e × AreNoticed trace f (and_then before e) (list_after trace f pairs e)
one_entry trace f before pairs (wrote t p fresh) may h = (tt, still trace f before (wrote t p fresh) pairs h)
one_entry trace f before pairs (folded fold) may h = (tt, still trace f before (folded fold) pairs h)
one_entry trace f before pairs (checked check) may h = (tt, still trace f before (checked check) pairs h)
one_entry trace f before pairs (claimed g p) may h = (tt, still trace f before (claimed g p) pairs h)
one_entry trace f before pairs (batch g n now until) may h = (tt, still trace f before (batch g n now until) pairs h)
one_entry trace f before pairs (done g p) may h = (tt, still trace f before (done g p) pairs h)
one_entry trace f before pairs (share zero k n) may h = (tt, still trace f before (share zero k n) pairs h)
one_entry trace f before pairs (share (suc d) k n) may h = (tt, still trace f before (share (suc d) k n) pairs h)
one_entry trace f before pairs (estimated est) may h = (tt, still trace f before (estimated est) pairs h)
one_entry trace f before pairs (fault g n) may h = (tt, still trace f before (fault g n) pairs h)
one_entry trace f before pairs (gave_back g p absorbed) may h = (tt, still trace f before (gave_back g p absorbed) pairs h)
one_entry trace f before pairs (noticed g inode since) may h = (
  tt,
  either_list trace g f (and_then before (noticed g inode since)) (with_pair (noticed_pair trace inode since) pairs) pairs
      (λ same. subst (λ (n : ℕ). AreNoticed trace f (and_then before (noticed n inode since)) (with_pair (noticed_pair trace inode since) pairs)) (sym same) (one_more trace f inode since before pairs h))
      (still trace f before (noticed g inode since) pairs h),
)
one_entry trace f before pairs (aged g inode due now) may h = (
  λ same. subst (λ (n : ℕ). WasDue trace n inode due now before) (sym same) (first_due trace f inode due now before pairs (may same) h),
  either_list trace g f (and_then before (aged g inode due now)) (without_first pairs) pairs
      (λ same. still trace f before (aged g inode due now) (without_first pairs) (rest_of trace f before pairs h))
      (still trace f before (aged g inode due now) pairs h),
)
one_entry trace f before pairs (took g inode) may h = (
  tt,
  either_list trace g f (and_then before (took g inode)) (without_first pairs) pairs
      (λ same. still trace f before (took g inode) (without_first pairs) (rest_of trace f before pairs h))
      (still trace f before (took g inode) pairs h),
)

of_flusher : (trace : Trace) (f : ℕ) (before : List Told) (pairs : List Due) (part : List Told) → Along (WaitsInTurn trace f) (list_after trace f) pairs part → AreNoticed trace f before pairs
    → Along (OfFlusher trace f) and_then before part
of_flusher trace f before pairs [] may h = tt
of_flusher trace f before pairs (e ∷ part) may h =
    let one = one_entry trace f before pairs e may.0 h in
    (one.0, of_flusher trace f (and_then before e) (list_after trace f pairs e) part may.1 one.1)

of_each : (trace : Trace) (before : List Told) (e : Told) → ((f : ℕ) → OfFlusher trace f before e) → AgedWasDue trace before e
of_each trace before (wrote t p fresh) h = tt
of_each trace before (folded fold) h = tt
of_each trace before (checked check) h = tt
of_each trace before (claimed g p) h = tt
of_each trace before (batch g n now until) h = tt
of_each trace before (done g p) h = tt
of_each trace before (share d k n) h = tt
of_each trace before (estimated est) h = tt
of_each trace before (fault g n) h = tt
of_each trace before (gave_back g p absorbed) h = tt
of_each trace before (noticed g inode since) h = tt
of_each trace before (aged g inode due now) h = h g refl
of_each trace before (took g inode) h = tt

-- each flusher's list along the part shows it
pub aged_due : (trace : Trace) (before : List Told) (part : List Told) → ((f : ℕ) → Along (OfFlusher trace f) and_then before part) → Along (AgedWasDue trace) and_then before part
aged_due trace before [] h = tt
aged_due trace before (e ∷ part) h = (of_each trace before e (λ f. (h f).0), aged_due trace (and_then before e) part (λ f. (h f).1))

pub part_due : (trace : Trace) (part : List Told) → ((f : ℕ) → Along (WaitsInTurn trace f) (list_after trace f) [] part) → Along (AgedWasDue trace) and_then [] part
part_due trace part may = aged_due trace [] part (λ f. of_flusher trace f [] [] part (may f) tt)
