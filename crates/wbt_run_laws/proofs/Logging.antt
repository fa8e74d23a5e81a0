-- A log with entries more tells what it told, and then these.
use Rattle.std.proofs.Common.{◌≡◌, ℕ, zero, suc, ◌+◌, ◌<◌, ◌≤◌, true, List, [], ◌∷◌, ◌++◌, length, flat_map, slice_get, Option, Some, sym, refl, ap, ◌∙◌, subst, arith, append_assoc, append-nil, true≢false}
use Rattle.std.proofs.lemmas.List.{length-append}
use Rattle.wbt_run_laws.proofs.Common.{Told, told, CheckEntry, EstEntry}
use Rattle.wbt_journal.specs.Told.{one_checked, one_estimated, told_entry, InOrder}
use Rattle.wbt_journal.specs.declared.entry.Entry.{Entry}
use Rattle.wbt_journal.specs.declared.entry.Entry.TheVariants as entry
use Rattle.wbt_run_laws.specs.Log.{is_plain, LoggedNothing, LoggedBoth, LoggedEntry, LoggedCheck, LoggedEstimate}
use Rattle.wbt_run_laws.proofs.Lists.{flat_append}

pub logged_nothing : LoggedNothing
logged_nothing log = record { names = λ is. is; tells = λ is. sym (append-nil (told log)) }

pub logged_both : LoggedBoth
logged_both a b old mid new p q = record {
  names = λ is. q.names (p.names is);
  tells = λ is. q.tells (p.names is) ∙ ap (λ (l : List Told). l ++ b) (p.tells is) ∙ append_assoc (told old) a b;
}

-- ---- places

-- names in order don't pass the ends of their lists
not_past : (checks estimates check est : ℕ) (entries : List Entry) → InOrder checks estimates check est entries → (check ≤ checks) × (est ≤ estimates)
not_past checks estimates check est [] is = let a = is.0 in let b = is.1 in (omega arith, omega arith)
not_past checks estimates check est (entry.Check place ∷ more) is = let rest = not_past checks estimates (check + 1) est more is.1 in let low = rest.0 in (omega arith, rest.1)
not_past checks estimates check est (entry.Est place ∷ more) is = let rest = not_past checks estimates check (est + 1) more is.1 in let low = rest.1 in (rest.0, omega arith)
not_past checks estimates check est (other ∷ more) is = not_past checks estimates check est more is

-- a longer list has the same at its first places
at_front : {A : Type 0} (xs ys : List A) (place : ℕ) → place < length xs → slice_get (xs ++ ys) place ≡ slice_get xs place
at_front [] ys place less = absurd (omega arith)
at_front (x ∷ xs) ys zero less = refl
at_front (x ∷ xs) ys (suc place) less = at_front xs ys place (omega arith)

at_end : {A : Type 0} (xs : List A) (x : A) → slice_get (xs ++ x ∷ []) (length xs) ≡ Some x
at_end [] x = refl
at_end (y ∷ xs) x = at_end xs x

-- two pairs of lists that have the same wherever names in order name
module _ (checks more_checks : List CheckEntry) (estimates more_estimates : List EstEntry)
    (same_checks : (place : ℕ) → place < length checks → slice_get more_checks place ≡ slice_get checks place)
    (same_estimates : (place : ℕ) → place < length estimates → slice_get more_estimates place ≡ slice_get estimates place) where
  told_same : (check est : ℕ) (entries : List Entry) → InOrder (length checks) (length estimates) check est entries
      → flat_map (told_entry more_checks more_estimates) entries ≡ flat_map (told_entry checks estimates) entries
  told_same check est [] is = refl
  told_same check est (entry.Check place ∷ more) is =
      let bound = (not_past (length checks) (length estimates) (check + 1) est more is.1).0 in
      let low : place < length checks = let e = is.0 in omega arith in
      ap (λ (which : Option CheckEntry). one_checked which ++ flat_map (told_entry more_checks more_estimates) more) (same_checks place low)
      ∙ ap (λ (l : List Told). one_checked (slice_get checks place) ++ l) (told_same (check + 1) est more is.1)
  told_same check est (entry.Est place ∷ more) is =
      let bound = (not_past (length checks) (length estimates) check (est + 1) more is.1).1 in
      let low : place < length estimates = let e = is.0 in omega arith in
      ap (λ (which : Option EstEntry). one_estimated which ++ flat_map (told_entry more_checks more_estimates) more) (same_estimates place low)
      ∙ ap (λ (l : List Told). one_estimated (slice_get estimates place) ++ l) (told_same check (est + 1) more is.1)
  told_same check est (other ∷ more) is = ap (λ (l : List Told). told_entry checks estimates other ++ l) (told_same check est more is)

-- ---- names in order, with one entry more

-- an entry after those in order, which leads from the ends of the lists to these
more_in_order : (checks estimates more_checks more_estimates check est : ℕ) (entries last : List Entry) → InOrder more_checks more_estimates checks estimates last
    → InOrder checks estimates check est entries → InOrder more_checks more_estimates check est (entries ++ last)
more_in_order checks estimates mc me check est [] last end is =
    subst (λ (n : ℕ). InOrder mc me n est last) (sym is.0) (subst (λ (n : ℕ). InOrder mc me checks n last) (sym is.1) end)
more_in_order checks estimates mc me check est (entry.Check place ∷ more) last end is = (is.0, more_in_order checks estimates mc me (check + 1) est more last end is.1)
more_in_order checks estimates mc me check est (entry.Est place ∷ more) last end is = (is.0, more_in_order checks estimates mc me check (est + 1) more last end is.1)
more_in_order checks estimates mc me check est (other ∷ more) last end is = more_in_order checks estimates mc me check est more last end is

plain_end : (checks estimates : ℕ) (e : Entry) → is_plain e ≡ true → InOrder checks estimates checks estimates (e ∷ [])
plain_end checks estimates (entry.Check place) is = absurd (true≢false (sym is))
plain_end checks estimates (entry.Est place) is = absurd (true≢false (sym is))
plain_end checks estimates other is = (refl, refl)

plain_told : (checks : List CheckEntry) (estimates : List EstEntry) (e : Entry) → is_plain e ≡ true → told_entry checks estimates e ++ [] ≡ told_entry [] [] e
plain_told checks estimates (entry.Check place) is = absurd (true≢false (sym is))
plain_told checks estimates (entry.Est place) is = absurd (true≢false (sym is))
plain_told checks estimates other is = refl

pub logged_entry : LoggedEntry
logged_entry e log plain = record {
  names = λ is. more_in_order (length log.checks) (length log.estimates) (length log.checks) (length log.estimates) 0 0 log.entries (e ∷ [])
      (plain_end (length log.checks) (length log.estimates) e plain) is;
  tells = λ is. flat_append (told_entry log.checks log.estimates) log.entries (e ∷ [])
      ∙ ap (λ (l : List Told). told log ++ l) (plain_told log.checks log.estimates e plain);
}

pub one_longer : {A : Type 0} (xs : List A) (x : A) → length (xs ++ x ∷ []) ≡ length xs + 1
one_longer xs x = length-append xs (x ∷ [])

pub logged_check : LoggedCheck
logged_check check log =
    let checks : List CheckEntry = log.checks ++ check ∷ [] in
    record {
      names = λ is. more_in_order (length log.checks) (length log.estimates) (length checks) (length log.estimates) 0 0 log.entries (entry.Check (length log.checks) ∷ [])
          (refl, (sym (one_longer log.checks check), refl)) is;
      tells = λ is. flat_append (told_entry checks log.estimates) log.entries (entry.Check (length log.checks) ∷ [])
          ∙ ap (λ (l : List Told). l ++ (one_checked (slice_get checks (length log.checks)) ++ []))
          (told_same log.checks checks log.estimates log.estimates (λ place less. at_front log.checks (check ∷ []) place less) (λ place less. refl) 0 0 log.entries is)
          ∙ ap (λ (which : Option CheckEntry). told log ++ (one_checked which ++ [])) (at_end log.checks check);
    }

pub logged_estimate : LoggedEstimate
logged_estimate est log =
    let estimates : List EstEntry = log.estimates ++ est ∷ [] in
    record {
      names = λ is. more_in_order (length log.checks) (length log.estimates) (length log.checks) (length estimates) 0 0 log.entries (entry.Est (length log.estimates) ∷ [])
          (refl, (refl, sym (one_longer log.estimates est))) is;
      tells = λ is. flat_append (told_entry log.checks estimates) log.entries (entry.Est (length log.estimates) ∷ [])
          ∙ ap (λ (l : List Told). l ++ (one_estimated (slice_get estimates (length log.estimates)) ++ []))
          (told_same log.checks log.checks log.estimates estimates (λ place less. refl) (λ place less. at_front log.estimates (est ∷ []) place less) 0 0 log.entries is)
          ∙ ap (λ (which : Option EstEntry). told log ++ (one_estimated which ++ [])) (at_end log.estimates est);
    }
