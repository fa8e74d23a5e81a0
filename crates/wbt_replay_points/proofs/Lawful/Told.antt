-- What holds of each check or estimate of a CPU's part holds of each entry that tells one; and where pages and tasks of a trace are.
use Rattle.std.proofs.Common.{◌≡◌, ℕ, zero, suc, ◌+◌, ◌<◌, ◌≤◌, Bool, true, false, ◌&&◌, cond, leb, ltb, List, [], ◌∷◌, flat_map, get_or, Option, Some, None, IfSome, refl, sym, ◌∙◌, ap, arith, le-leb}
use Rattle.std.specs.List.{slice_get}
use Rattle.std.proofs.lemmas.Bool.{cond-true, cond-false}
use Rattle.std.proofs.lemmas.Bool.Decides.{nat_tests}
use Rattle.std.proofs.lemmas.List.Sums.{sum_by-cons}
use Rattle.wbt_replay_order.proofs.Common.{AreFirsts, pages_in, Inode, Each, effect, context_among, Told, one_checked, one_estimated, told_entry, CheckEntry, Entry, EstEntry, each_append}
use Rattle.wbt_journal.specs.declared.entry.Entry.TheVariants as entry
use Rattle.wbt_replay_order.specs.Claims.Setting.{inode_from}
use Rattle.wbt_replay_order.proofs.Facts.Inodes.{no_inode}
use Rattle.wbt_replay_order.proofs.Facts.Lists.{either}

-- ---- checks

-- what holds of each item of a list holds of that at a place
pub each_slice : {A : Type 0} (R : A → Type 0) (xs : List A) (place : ℕ) → Each R xs → IfSome (slice_get xs place) R
each_slice R [] place each = tt
each_slice R (x ∷ xs) zero each = each.0
each_slice R (x ∷ xs) (suc place) each = each_slice R xs place each.1

abbrev pub OfCheck : (Q : CheckEntry → Type 0) (e : Told) → Type 0
OfCheck Q e = IfSome (effect e).check Q

pub told_checks : (Q : CheckEntry → Type 0) (checks : List CheckEntry) (ests : List EstEntry) (entries : List Entry) → Each Q checks
    → Each (OfCheck Q) (flat_map (told_entry checks ests) entries)
told_checks Q checks ests [] each = tt
told_checks Q checks ests (entry.Check place ∷ entries) each =
    each_append (OfCheck Q) (one_checked (slice_get checks place)) (flat_map (told_entry checks ests) entries)
    (by_check (slice_get checks place) (each_slice Q checks place each)) (told_checks Q checks ests entries each)
  where
    by_check : (which : Option CheckEntry) → IfSome which Q → Each (OfCheck Q) (one_checked which)
    by_check None has = tt
    by_check (Some check) has = (has, tt)
told_checks Q checks ests (entry.Est place ∷ entries) each =
    each_append (OfCheck Q) (one_estimated (slice_get ests place)) (flat_map (told_entry checks ests) entries)
    (by_est (slice_get ests place)) (told_checks Q checks ests entries each)
  where
    by_est : (which : Option EstEntry) → Each (OfCheck Q) (one_estimated which)
    by_est None = tt
    by_est (Some est) = (tt, tt)
told_checks Q checks ests (entry.Folded fold ∷ entries) each = (tt, told_checks Q checks ests entries each)
told_checks Q checks ests (entry.Write task page fresh ∷ entries) each = (tt, told_checks Q checks ests entries each)
told_checks Q checks ests (entry.Claimed flusher page ∷ entries) each = (tt, told_checks Q checks ests entries each)
told_checks Q checks ests (entry.Batch flusher pages now until ∷ entries) each = (tt, told_checks Q checks ests entries each)
told_checks Q checks ests (entry.Done flusher page ∷ entries) each = (tt, told_checks Q checks ests entries each)
told_checks Q checks ests (entry.Share domain context n ∷ entries) each = (tt, told_checks Q checks ests entries each)
told_checks Q checks ests (entry.Fault flusher pages ∷ entries) each = (tt, told_checks Q checks ests entries each)
told_checks Q checks ests (entry.Back flusher page absorbed ∷ entries) each = (tt, told_checks Q checks ests entries each)
told_checks Q checks ests (entry.Noticed flusher inode since ∷ entries) each = (tt, told_checks Q checks ests entries each)
told_checks Q checks ests (entry.Aged flusher inode due now ∷ entries) each = (tt, told_checks Q checks ests entries each)
told_checks Q checks ests (entry.Taken flusher inode ∷ entries) each = (tt, told_checks Q checks ests entries each)

-- ---- pages

-- a page is of the context of the inode that has it
pub context_is : (n number page : ℕ) (is : List Inode) → AreFirsts n is → n ≤ page → page < n + pages_in is
    → (k : ℕ) → inode_from page number is ≡ number + k → context_among page is ≡ Some (get_or is k no_inode).context
context_is n number page [] firsts low high k at = absurd (omega arith)
context_is n number page (i ∷ is) firsts low high k at =
    by_page (λ more within m place. context_is (n + i.pages) (number + 1) page is firsts.1 more within m place) (ltb page (i.first + i.pages)) refl
  where
    front : leb i.first page ≡ true
    front = le-leb i.first page (omega (arith, firsts.0, low))

    InRest : Type 0
    InRest = n + i.pages ≤ page → page < n + i.pages + pages_in is → (m : ℕ) → inode_from page (number + 1) is ≡ number + 1 + m
        → context_among page is ≡ Some (get_or is m no_inode).context

    by_page : InRest → (b : Bool) → ltb page (i.first + i.pages) ≡ b → context_among page (i ∷ is) ≡ Some (get_or (i ∷ is) k no_inode).context
    by_page in_rest true here =
        let place : number ≡ number + k = sym (cond-true (ltb page (i.first + i.pages)) number (inode_from page (number + 1) is) here) ∙ at in
        let none : 0 ≡ k = omega (arith, place) in
        ap (λ (b : Bool). cond (b && ltb page (i.first + i.pages)) (Some i.context) (context_among page is)) front
        ∙ cond-true (ltb page (i.first + i.pages)) (Some i.context) (context_among page is) here
        ∙ ap (λ (m : ℕ). Some (get_or (i ∷ is) m no_inode).context) none
    by_page in_rest false later =
        let above : i.first + i.pages ≤ page = past page (i.first + i.pages) later in
        let place : inode_from page (number + 1) is ≡ number + k = sym (cond-false (ltb page (i.first + i.pages)) number (inode_from page (number + 1) is) later) ∙ at in
        let total = sum_by-cons (λ (x : Inode). x.pages) i is in
        let more : n + i.pages ≤ page = omega (arith, above, firsts.0) in
        let within : page < n + i.pages + pages_in is = omega (arith, high, total) in
        ap (λ (b : Bool). cond (b && ltb page (i.first + i.pages)) (Some i.context) (context_among page is)) front
        ∙ cond-false (ltb page (i.first + i.pages)) (Some i.context) (context_among page is) later
        ∙ by_place (in_rest more within) k (from_least (number + 1) page is) place
      where
        past : (a b : ℕ) → ltb a b ≡ false → b ≤ a
        past a b is = grind (arith, nat_tests)

        from_least : (m p : ℕ) (js : List Inode) → m ≤ inode_from p m js
        from_least m p [] = omega arith
        from_least m p (j ∷ js) = either (λ (x : ℕ). m ≤ x) (ltb p (j.first + j.pages)) m (inode_from p (m + 1) js) (λ yes. omega arith) (λ no. let rest = from_least (m + 1) p js in omega (arith, rest))

        by_place : ((m : ℕ) → inode_from page (number + 1) is ≡ number + 1 + m → context_among page is ≡ Some (get_or is m no_inode).context)
            → (m : ℕ) → number + 1 ≤ inode_from page (number + 1) is → inode_from page (number + 1) is ≡ number + m → context_among page is ≡ Some (get_or (i ∷ is) m no_inode).context
        by_place in_them zero least place = absurd (omega (arith, least, place))
        by_place in_them (suc m) least place = in_them m (omega (arith, place))
