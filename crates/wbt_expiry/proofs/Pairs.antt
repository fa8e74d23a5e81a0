-- The waiting list that filed pairs stand for: how it is read, and what becomes of it after each call.
use Rattle.std.proofs.Common.{◌≡◌, ◌≢◌, ◌<◌, ◌≤◌, ◌^◌, ◌∙◌, ℕ, zero, suc, Bool, true, false, List, [], ◌∷◌, length, set, ltb, replicate, sym, refl, ap, inl, inr, arith, length-set, get_or-set_same, get_or-set_other, subst}
use Rattle.std.proofs.lemmas.List.{length-replicate, get_or-replicate, get_or_past}
use Rattle.std.proofs.lemmas.Bool.{cases_lt, true≢false}
use Rattle.std.specs.Prelude.{Option, None, Some, IfSome, MatchOption}
use Rattle.wbt_expiry.specs.declared.due.Due.{Due}
use Rattle.wbt_expiry.specs.Lists.{home, no_list, due_of, IsUpTo}
use Rattle.wbt_expiry.specs.Waiting.{with_pair, has_inode, ComesBefore, AreInOrder, pair_of, waiting}
use Rattle.wbt_expiry.specs.Filed.{is_in, SameWait, IsNoneDue, FirstTaken, AreFiled}
use Rattle.wbt_expiry.specs.Kept.{pairs_of, TakesFirst}
use Rattle.wbt_expiry.proofs.Sorting.{waits_none, each_waiting, first_of_all, has_waiting, in_order, same_waiting, more_waits}
use Rattle.wbt_expiry.proofs.Filing.{waits, is_waiting, waits_not}
use Rattle.wbt_expiry.proofs.Moving.{in_range, home_same, home_other}

-- ---- what the list says

-- The list has an inode exactly where it is in one of the wheel's lists.
pub has_pair :
    (dues homes : List ℕ) (pairs : List Due) (inode : ℕ) (told : Bool) → pairs_of dues homes ≡ pairs → inode < length dues
    → is_in homes inode ≡ told → has_inode inode pairs ≡ told
has_pair dues homes pairs inode told are low is =
    ap (has_inode inode) (sym are) ∙ has_waiting (due_of dues) (is_in homes) inode (length dues) low ∙ is

pub pairs_in_order : (dues homes : List ℕ) → AreInOrder (pairs_of dues homes)
pairs_in_order dues homes = in_order (due_of dues) (is_in homes) (length dues)

-- It is empty where no inode waits.
none_waits : (due : ℕ → ℕ) (is_in : ℕ → Bool) (n : ℕ) → ((i : ℕ) → i < n → is_in i ≡ false) → waiting due is_in n ≡ []
unfolding waiting
none_waits due is_in zero none = refl
none_waits due is_in (suc n) none = waits_none due is_in n (none n (omega arith)) ∙ none_waits due is_in n (λ i low. none i (omega arith))

pub no_pairs : (dues : List ℕ) (n : ℕ) → pairs_of dues (replicate n no_list) ≡ []
no_pairs dues n = none_waits (due_of dues) (is_in (replicate n no_list)) (length dues) (λ i low. waits_not (replicate n no_list) i (out i))
  where
    out : (i : ℕ) → no_list ≤ home (replicate n no_list) i
    out i = elim (cases_lt i n) [
      | inl within ↦ omega (arith, get_or-replicate n i no_list no_list within)
      | inr past ↦ omega (arith, get_or_past (replicate n no_list) i no_list (omega (arith, past, length-replicate n no_list)))
    ]

-- ---- a pair is put

-- The same inodes wait where nothing was filed anew.
pub all_wait : (homes : List ℕ) → SameWait homes homes
all_wait homes = record { lengths = refl; same = λ inode. refl }

pub pairs_put :
    (dues homes mid new_dues new : List ℕ) (inode due list : ℕ) → SameWait homes mid → new_dues ≡ set dues inode due → new ≡ set mid inode list
    → list < no_list → length dues ≡ length homes → inode < length dues → is_in homes inode ≡ false
    → pairs_of new_dues new ≡ with_pair (record { due = due; inode = inode }) (pairs_of dues homes)
pairs_put dues homes mid new_dues new inode due list same dues_are homes_are low lengths within out =
    let long : length new_dues ≡ length dues = ap length dues_are ∙ length-set dues inode due in
    let here : due_of new_dues inode ≡ due = ap (λ (ds : List ℕ). due_of ds inode) dues_are ∙ get_or-set_same dues inode due 0 within in
    let inside : inode < length mid = omega (arith, within, lengths, same.lengths) in
    let now : home new inode ≡ list = ap (λ (hs : List ℕ). home hs inode) homes_are ∙ home_same mid inode list inside in
    ap (waiting (due_of new_dues) (is_in new)) long
    ∙ more_waits (due_of dues) (due_of new_dues) (is_in homes) (is_in new) inode (length dues) within out
    (waits new inode (omega (arith, now, low)))
    (λ i apart. ap (λ (hs : List ℕ). is_in hs i) homes_are ∙ ap (λ (h : ℕ). ltb h no_list) (home_other mid inode list i apart) ∙ same.same i)
    (λ i apart waits. ap (λ (ds : List ℕ). due_of ds i) dues_are ∙ get_or-set_other dues inode i due 0 apart)
    ∙ ap (λ (d : ℕ). with_pair (record { due = d; inode = inode }) (pairs_of dues homes)) here

-- ---- the first pair is taken

-- An inode isn't behind another: its pair comes before the other's.
before_other : (dues : List ℕ) (inode other : ℕ) → other ≢ inode → IsUpTo dues inode other → ComesBefore (pair_of (due_of dues) inode) (pair_of (due_of dues) other)
before_other dues inode other apart (inl earlier) = inl earlier
before_other dues inode other apart (inr same) = inr (same.0, omega (arith, same.1, apart))

takes_first :
    (to : ℕ) (dues old new : List ℕ) (taken : Option Due) → length dues ≡ length old
    → MatchOption taken (IsNoneDue to dues old × SameWait old new) (FirstTaken to dues old new)
    → TakesFirst to (pairs_of dues old) (pairs_of dues new) taken
takes_first to dues old new None lengths told = (
  each_waiting (due_of dues) (is_in old) (λ pair. to < pair.due) (length dues) (λ i low is. told.0 i (is_waiting old i is)),
  same_waiting (due_of dues) (due_of dues) (is_in old) (is_in new) (length dues) (λ i low. told.1.same i) (λ i low is. refl),
)
takes_first to dues old new (Some pair) lengths told =
    let taken = told.1 in
    let gone : is_in new pair.inode ≡ false = waits_not new pair.inode taken.gone in
    let others : (i : ℕ) → is_in new i ≡ true → i ≢ pair.inode = λ i is same. true≢false (sym is ∙ ap (is_in new) same ∙ gone) in
    let all : pairs_of dues old ≡ with_pair (pair_of (due_of dues) pair.inode) (pairs_of dues new) =
    more_waits (due_of dues) (due_of dues) (is_in new) (is_in old) pair.inode (length dues)
    (omega (arith, lengths, in_range old pair.inode taken.waited)) gone (waits old pair.inode taken.waited)
    (λ i apart. sym (taken.others i apart)) (λ i apart is. refl) in
    let first : with_pair (pair_of (due_of dues) pair.inode) (pairs_of dues new) ≡ pair_of (due_of dues) pair.inode ∷ pairs_of dues new =
    first_of_all (pair_of (due_of dues) pair.inode) (pairs_of dues new)
    (each_waiting (due_of dues) (is_in new) (ComesBefore (pair_of (due_of dues) pair.inode)) (length dues)
    (λ i low is. before_other dues pair.inode i (others i is)
    (taken.first i (is_waiting old i (sym (taken.others i (others i is)) ∙ is))))) in (
      told.0,
      all ∙ first ∙ ap (λ (d : ℕ). record { due = d; inode = pair.inode } ∷ pairs_of dues new) (sym taken.due),
    )

-- The same where the pairs and the due moments are told otherwise.
pub next_taken :
    (to : ℕ) (dues old new_dues new : List ℕ) (pairs : List Due) (taken : Option Due) → pairs_of dues old ≡ pairs → new_dues ≡ dues → length dues ≡ length old
    → MatchOption taken (IsNoneDue to dues old × SameWait old new) (FirstTaken to dues old new)
    → TakesFirst to pairs (pairs_of new_dues new) taken
next_taken to dues old new_dues new pairs taken are same lengths told =
    subst (λ (ps : List Due). TakesFirst to ps (pairs_of new_dues new) taken) are
    (subst (λ (ds : List ℕ). TakesFirst to (pairs_of dues old) (pairs_of ds new) taken) (sym same) (takes_first to dues old new taken lengths told))

-- The first pair was taken, or there was none and there is none.
abbrev TakesAny : (old new : List Due) (taken : Option Due) → Type 0
TakesAny old new taken = MatchOption taken ((old ≡ []) × (new ≡ [])) (λ pair. old ≡ pair ∷ new)

-- Where no moment is too late for it, the first pair is taken, if there is one.
takes_any :
    (to base : ℕ) (dues old new : List ℕ) (taken : Option Due) → AreFiled base dues old → 2 ^ 63 ≤ to
    → MatchOption taken (IsNoneDue to dues old × SameWait old new) (FirstTaken to dues old new)
    → TakesAny (pairs_of dues old) (pairs_of dues new) taken
takes_any to base dues old new None filed far told =
    let empty : pairs_of dues old ≡ [] = none_waits (due_of dues) (is_in old) (length dues)
    (λ i low. waits_not old i (elim (cases_lt (home old i) no_list) [
      | inl is ↦ absurd (omega (arith, far, told.0 i is, filed.due_early i is))
      | inr out ↦ out
    ])) in
    (empty, (takes_first to dues old new None filed.lengths told).1 ∙ empty)
takes_any to base dues old new (Some pair) filed far told = (takes_first to dues old new (Some pair) filed.lengths told).1

pub first_taken :
    (to base : ℕ) (dues old new_dues new : List ℕ) (pairs : List Due) (taken : Option Due) → pairs_of dues old ≡ pairs → new_dues ≡ dues
    → AreFiled base dues old → 2 ^ 63 ≤ to
    → MatchOption taken (IsNoneDue to dues old × SameWait old new) (FirstTaken to dues old new)
    → TakesAny pairs (pairs_of new_dues new) taken
first_taken to base dues old new_dues new pairs taken are same filed far told =
    subst (λ (ps : List Due). TakesAny ps (pairs_of new_dues new) taken) are
    (subst (λ (ds : List ℕ). TakesAny (pairs_of dues old) (pairs_of ds new) taken) (sym same) (takes_any to base dues old new taken filed far told))

-- What is taken is an inode that there is.
pub taken_inode :
    (to : ℕ) (dues old new : List ℕ) (inodes : ℕ) (result : Option Due) → length dues ≡ inodes → length dues ≡ length old
    → MatchOption result (IsNoneDue to dues old × SameWait old new) (FirstTaken to dues old new) → IfSome result (λ pair. pair.inode < inodes)
taken_inode to dues old new inodes None many lengths is = tt
taken_inode to dues old new inodes (Some pair) many lengths is = let low = in_range old pair.inode is.1.waited in omega arith
