-- All waiting lists of a CPU along its part, from the walk of each.
use Rattle.std.proofs.Common.{◌≡◌, ℕ, zero, suc, ◌<◌, true, false, Bool, cond, eqb, nat_lt, Option, None, Some, IfSome, List, [], ◌∷◌, length, set, sym, refl, ◌∙◌, ap, subst, eq-eqb, ne_eqb, true≢false, ltb-true}
use Rattle.std.proofs.lemmas.Bool.{cond-true, cond-false}
use Rattle.std.proofs.lemmas.List.{get_or-set_same, get_or-set_other, length-set}
use mathlib.Core.Logic.{dite}
use native.Mathlib.Decide.{ℕ_discrete}
use Rattle.wbt_run_laws.proofs.Common.{Due, Trace, Each, effect, of_part, Told, Along, after, IsOwn, list_after, WaitsInTurn, items_told}
use Rattle.wbt_rules.specs.Things as things
use Rattle.wbt_trace.specs.declared.trace.FlusherLine.{FlusherLine}
use Rattle.wbt_journal.specs.Effects.{Wait}
use Rattle.wbt_journal.specs.Flights.{is_own_flusher}
use Rattle.wbt_journal.specs.Side.{is_on}
use Rattle.wbt_journal.specs.Waits.{MayWait, waited, first_lists, list_of, WaitsBy, lists_by, lists_after_told, Waits, lists_after}

-- each list is empty at first
pub first_list : (lines : List FlusherLine) (f : ℕ) → list_of (first_lists lines) f ≡ []
first_list [] f = refl
first_list (x ∷ xs) zero = refl
first_list (x ∷ xs) (suc f) = first_list xs f

-- a CPU's flusher is there
there_by : (b : Bool) (cpu of : ℕ) → is_on cpu (cond b (Some of) None) ≡ true → b ≡ true
there_by true cpu of own = refl
there_by false cpu of own = absurd (true≢false (sym own))

own_there : (trace : Trace) (cpu f : ℕ) → is_own_flusher trace cpu f ≡ true → f < length trace.flushers
own_there trace cpu f own = ltb-true f (length trace.flushers) (there_by (nat_lt f (length trace.flushers)) cpu (things.flusher_cpu trace f) own)

-- the list of a flusher that there is changes, and no other
changed : (lists : List (List Due)) (f g : ℕ) (new : List Due) → f < length lists → list_of (set lists f new) g ≡ cond (eqb f g) new (list_of lists g)
changed lists f g new there = dite (ℕ_discrete g f)
    (λ is. subst (λ (k : ℕ). list_of (set lists f new) k ≡ cond (eqb f k) new (list_of lists k)) (sym is)
    (get_or-set_same lists f new [] there ∙ sym (cond-true (eqb f f) new (list_of lists f) (eq-eqb f f refl))))
    (λ other. get_or-set_other lists f g new [] other ∙ sym (cond-false (eqb f g) new (list_of lists g) (ne_eqb f g (λ e. other (sym e)))))

-- and so a move of it shows in its own list alone
moved_at : (trace : Trace) (lists : List (List Due)) (wait : Wait) (g : ℕ) → wait.flusher < length lists
    → list_of (lists_by trace lists wait) g ≡ cond (eqb wait.flusher g) (waited trace wait.move (list_of lists g)) (list_of lists g)
moved_at trace lists wait g there = changed lists wait.flusher g (waited trace wait.move (list_of lists wait.flusher)) there
    ∙ dite (ℕ_discrete wait.flusher g)
    (λ is. ap (λ (k : ℕ). cond (eqb wait.flusher g) (waited trace wait.move (list_of lists k)) (list_of lists g)) is)
    (λ other. cond-false (eqb wait.flusher g) (waited trace wait.move (list_of lists wait.flusher)) (list_of lists g) (ne_eqb wait.flusher g other)
    ∙ sym (cond-false (eqb wait.flusher g) (waited trace wait.move (list_of lists g)) (list_of lists g) (ne_eqb wait.flusher g other)))

module _ (trace : Trace) (cpu : ℕ) (lists : List (List Due)) (many : length lists ≡ length trace.flushers) where
  -- a move may come where its own list's walk lets it
  one_waits : (part : Option Wait) → IfSome part (λ (wait : Wait). is_own_flusher trace cpu wait.flusher ≡ true)
      → ((g : ℕ) → IfSome part (λ (wait : Wait). wait.flusher ≡ g → MayWait trace g wait.move (list_of lists g))) → IfSome part (WaitsBy trace cpu lists)
  one_waits None own each = tt
  one_waits (Some wait) own each = λ is. each wait.flusher refl

  -- what becomes of a list by it
  one_reaches : (part : Option Wait) → IfSome part (λ (wait : Wait). is_own_flusher trace cpu wait.flusher ≡ true) → (g : ℕ)
      → list_of (of_part lists (lists_by trace lists) part) g
      ≡ of_part (list_of lists g) (λ (wait : Wait). cond (eqb wait.flusher g) (waited trace wait.move (list_of lists g)) (list_of lists g)) part
  one_reaches None own g = refl
  one_reaches (Some wait) own g = moved_at trace lists wait g (subst (λ (n : ℕ). wait.flusher < n) (sym many) (own_there trace cpu wait.flusher own))

  -- and each list's walk goes on after it
  all_go_on : (part : Option Wait) (more : List Told) → IfSome part (λ (wait : Wait). is_own_flusher trace cpu wait.flusher ≡ true)
      → ((g : ℕ) → Along (WaitsInTurn trace g) (list_after trace g) (of_part (list_of lists g) (λ (wait : Wait). cond (eqb wait.flusher g) (waited trace wait.move (list_of lists g)) (list_of lists g)) part) more)
      → (g : ℕ) → Along (WaitsInTurn trace g) (list_after trace g) (list_of (of_part lists (lists_by trace lists) part) g) more
  all_go_on part more own each g = subst (λ (pairs : List Due). Along (WaitsInTurn trace g) (list_after trace g) pairs more) (sym (one_reaches part own g)) (each g)

  as_many : (part : Option Wait) → length (of_part lists (lists_by trace lists) part) ≡ length trace.flushers
  as_many None = many
  as_many (Some wait) = length-set lists wait.flusher (waited trace wait.move (list_of lists wait.flusher)) ∙ many

pub all_wait : (trace : Trace) (cpu : ℕ) (lists : List (List Due)) (part : List Told) → length lists ≡ length trace.flushers → Each (IsOwn trace cpu) part
    → ((f : ℕ) → Along (WaitsInTurn trace f) (list_after trace f) (list_of lists f) part) → Along (Waits trace) (lists_after trace) lists (items_told cpu part)
all_wait trace cpu lists [] many own each = tt
all_wait trace cpu lists (e ∷ part) many own each = (
  one_waits trace cpu lists many (effect e).wait own.0.wait (λ f. (each f).0),
  all_wait trace cpu (lists_after_told trace lists e) part (as_many trace cpu lists many (effect e).wait) own.1
      (all_go_on trace cpu lists many (effect e).wait part own.0.wait (λ f. (each f).1)),
)

-- at last each list is what its own walk reaches
pub all_reach : (trace : Trace) (cpu : ℕ) (lists : List (List Due)) (part : List Told) → length lists ≡ length trace.flushers → Each (IsOwn trace cpu) part
    → (f : ℕ) → list_of (after (lists_after trace) lists (items_told cpu part)) f ≡ after (list_after trace f) (list_of lists f) part
all_reach trace cpu lists [] many own f = refl
all_reach trace cpu lists (e ∷ part) many own f =
    all_reach trace cpu (lists_after_told trace lists e) part (as_many trace cpu lists many (effect e).wait) own.1 f
    ∙ ap (λ (pairs : List Due). after (list_after trace f) pairs part) (one_reaches trace cpu lists many (effect e).wait own.0.wait f)
