-- What calls on shares and estimates note.
use Rattle.std.proofs.Common.{◌≡◌, ◌≢◌, ℕ, zero, suc, ◌+◌, ◌≤◌, cond, eqb, List, [], ◌∷◌, ◌++◌, length, map, Contains, inl, inr, ⊎_elim, sym, refl, ap, ◌∙◌, subst, arith, append-nil, eq-eqb, ne_eqb, true≢false}
use Rattle.std.proofs.lemmas.Bool.{cond_both, cond-true, cond-false, eqb-true, eqb-false}
use Rattle.std.proofs.lemmas.List.Elements.{Contains-append_left}
use mathlib.Core.Option.{some, some-injective}
use lib.ListN.{get_elem?}
use Rattle.wbt_run_laws.proofs.Common.{Estimate, Fraction, begun, Falls, added_at, Note, Found, Added, Period, first_one, Known, first_version, Each, Follows, after, IsKept, newer, IsNewest, begun_at_once, AreInOrder}
use Rattle.wbt_fraction.specs.Laws.{AllBelow}
use Rattle.wbt_fraction.specs.Notes.{reach_of, NoneAfter}
use Rattle.wbt_fraction.specs.Sums.{total as weigh}
use Rattle.wbt_fraction.specs.Seat.{Ready}
use Rattle.wbt_fraction.specs.Words.{period_of}
use Rattle.wbt_published.specs.Known.{note_of}
use Rattle.wbt_published.proofs.Places.{note_other}
use Rattle.wbt_run_laws.specs.Calls.{AreFound, LooksAddNone, AddIsNoted, ReadMayBeKept, BeginIsNoted, ReadTellsNothing, PublishIsTold, ReadIsNewest}
use Rattle.wbt_run_laws.proofs.Lists.{here, there}
use Rattle.wbt_run_laws.proofs.Walking.{after_append}

-- ---- loads

found_weigh : (context : ℕ) (more older : List Note) → AreFound more → weigh (added_at (suc context)) (more ++ older) ≡ weigh (added_at (suc context)) older
unfolding weigh
found_weigh context [] older found = refl
found_weigh context (Found at word ∷ more) older found = let rest = found_weigh context more older found in omega arith
found_weigh context (Added at word n ∷ more) older found = absurd found
found_weigh context (Period word k ∷ more) older found = absurd found

found_begun : (more older : List Note) → AreFound more → begun (more ++ older) ≡ begun older
unfolding begun
found_begun [] older found = refl
found_begun (Found at word ∷ more) older found = found_begun more older found
found_begun (Added at word n ∷ more) older found = absurd found
found_begun (Period word k ∷ more) older found = absurd found

pub looks_add_none : LooksAddNone
looks_add_none more old new found looks = record {
  longer = record { more = more; longer = looks.notes };
  adds = λ context. let same = ap (weigh (added_at (suc context))) looks.notes in let none = found_weigh context more old.notes found in omega arith;
  begins_none = ap begun looks.notes ∙ found_begun more old.notes found;
}

-- ---- additions

ready_found : (part : ℕ) (looks : List Note) → Ready part looks → AreFound looks
ready_found part looks ready = ⊎_elim (λ now. subst AreFound (sym now.1) tt) (λ behind. subst AreFound (sym behind.1) tt) ready.2

-- an addition to a part, and then to its domain
added_weigh : (of context n in_domain in_part : ℕ) (looks older : List Note) → AreFound looks
    → weigh (added_at (suc of)) (Added 0 in_domain n ∷ Added (suc context) in_part n ∷ looks ++ older) ≡ weigh (added_at (suc of)) older + cond (eqb context of) n 0
unfolding weigh
added_weigh of context n in_domain in_part looks older found =
    let rest = found_weigh of looks older found in
    let domain : cond (eqb 0 (suc of)) n 0 ≡ 0 = cond-false (eqb 0 (suc of)) n 0 (ne_eqb 0 (suc of) (λ e. omega arith)) in
    let part : cond (eqb (suc context) (suc of)) n 0 ≡ cond (eqb context of) n 0 = cond_both (eqb context of) n 0 (λ (m : ℕ). cond (eqb (suc context) (suc of)) n 0 ≡ m)
    (λ is. cond-true (eqb (suc context) (suc of)) n 0 (eq-eqb (suc context) (suc of) (ap suc (eqb-true context of is))))
    (λ not. cond-false (eqb (suc context) (suc of)) n 0 (ne_eqb (suc context) (suc of) (λ e. eqb-false context of not (omega arith)))) in omega arith

added_begun : (in_domain in_part context n : ℕ) (looks older : List Note) → AreFound looks → begun (Added 0 in_domain n ∷ Added (suc context) in_part n ∷ looks ++ older) ≡ begun older
unfolding begun
added_begun in_domain in_part context n looks older found = found_begun looks older found

pub add_is_noted : AddIsNoted
add_is_noted context n old new adds =
    let found = ready_found context adds.looks adds.ready in
    record {
      longer = record { more = Added 0 adds.in_domain n ∷ Added (suc context) adds.in_part n ∷ adds.looks; longer = adds.notes };
      adds = λ of. ap (weigh (added_at (suc of))) adds.notes ∙ added_weigh of context n adds.in_domain adds.in_part adds.looks old.notes found;
      begins_none = ap begun adds.notes ∙ added_begun adds.in_domain adds.in_part context n adds.looks old.notes found;
    }

-- ---- reads

none_after_has : (period : ℕ) (notes : List Note) (note : Note) → NoneAfter period notes → Contains notes note → reach_of note ≤ period
unfolding NoneAfter
none_after_has period [] note none has = let low = has.1 in absurd (omega arith)
none_after_has period (x ∷ xs) note none (zero, low, is) = subst (λ (n : Note). reach_of n ≤ period) is none.0
none_after_has period (x ∷ xs) note none (suc k, low, is) = none_after_has period xs note none.1 (k, (omega arith), is)

kept_before : (period context : ℕ) (notes : List Note) (before : Fraction) → NoneAfter period notes → IsKept notes context before → before.period ≤ period
kept_before period context notes before none (inl first) = let at = ap (λ (f : Fraction). f.period) first in omega arith
kept_before period context notes before none (inr was) =
    let at = ap (λ (f : Fraction). f.period) was.value in
    let low = none_after_has period notes (Found 0 was.whole) none was.found_whole in omega arith

pub read_may_be_kept : ReadMayBeKept
read_may_be_kept context fraction old new reads =
    let second : Note = Found 0 reads.second in
    let part : Note = Found (suc context) reads.word in
    let first : Note = Found 0 reads.first in
    let notes = sym reads.looks.notes in
    record {
      was_read = record {
        part = reads.word;
        whole = reads.first;
        found_part = subst (λ (l : List Note). Contains l part) notes (there second part (part ∷ first ∷ old.notes) (here part (first ∷ old.notes)));
        found_whole = subst (λ (l : List Note). Contains l first) notes (there second first (part ∷ first ∷ old.notes) (there part first (first ∷ old.notes) (here first old.notes)));
        behind = reads.behind;
        value = reads.value;
      };
      no_earlier = λ before kept. kept_before fraction.period context old.notes before reads.newest kept;
    }

-- ---- periods

all_below : (period : ℕ) (notes : List Note) → NoneAfter period notes → Each (λ (k : ℕ). 1 ≤ k) (begun_at_once notes) → AllBelow period (begun notes)
unfolding NoneAfter begun AllBelow
all_below period [] none each = tt
all_below period (Found at word ∷ older) none each = all_below period older none.1 each
all_below period (Added at word n ∷ older) none each = all_below period older none.1 each
all_below period (Period word k ∷ older) none each = ((let reach = none.0 in let one = each.0 in omega arith), all_below period older none.1 each.1)

begin_found : (first k : ℕ) (older : List Note) → begun (Period first k ∷ Found 0 first ∷ older) ≡ (first, k) ∷ begun older
unfolding begun
begin_found first k older = refl

more_in_order : (first k : ℕ) (older : List Note) → 1 ≤ k → NoneAfter (period_of first) older → AreInOrder older → AreInOrder (Period first k ∷ Found 0 first ∷ older)
unfolding begun Falls
more_in_order first k older one none order = record { some = (one, order.some); falls = (all_below (period_of first) older none order.some, order.falls) }

pub begin_is_noted : BeginIsNoted
begin_is_noted k old new one begins = record {
  begun_are = ap begun_at_once begins.told.1.notes ∙ ap (map (λ (b : ℕ × ℕ). b.1)) (begin_found begins.first k old.notes);
  in_order = λ order. subst AreInOrder (sym begins.told.1.notes) (more_in_order begins.first k old.notes one begins.newest order);
}

-- ---- estimates

pub read_tells_nothing : ReadTellsNothing
read_tells_nothing first known estimate = record {
  right = refl;
  published = λ is. sym (append-nil known.all);
  silent = λ is. refl;
  follow = record { allowed = λ s stands. tt; reached = λ s stands. record { later = stands.later; all_are = stands.all_are; newest_is = stands.newest_is } };
  reads = λ note has. Contains-append_left known.reads (note_of estimate ∷ []) note has;
}

abbrev pub tail_of : List Estimate → List Estimate
tail_of [] = []
tail_of (x ∷ xs) = xs

-- the newest is fixed by all that is known
one_newest : (first : Estimate) (known : Known) (a b : Estimate) → IsNewest first known a → IsNewest first known b → a ≡ b
one_newest first known a b p q = p.newest_is ∙ ap (after newer first) (ap tail_of (sym p.all_are ∙ q.all_are)) ∙ sym q.newest_is

pub publish_is_told : PublishIsTold
publish_is_told first known newest estimate publishes is follows = record {
  right = refl;
  published = λ is_right. refl;
  silent = λ none. absurd (true≢false (sym publishes ∙ none));
  follow = record {
    allowed = λ s stands. (subst (λ (e : Estimate). Follows e estimate) (one_newest first known newest s is stands) follows, tt);
    reached = λ s stands. record {
      later = stands.later ++ estimate ∷ [];
      all_are = ap (λ (l : List Estimate). l ++ estimate ∷ []) stands.all_are;
      newest_is = sym (after_append newer first stands.later (estimate ∷ []));
    };
  };
  reads = λ note has. has;
}

version_of : (e : Estimate) → (note_of e).version ≡ e.version
version_of e = cond_both (eqb e.version 0) first_one e (λ (n : Estimate). n.version ≡ e.version) (λ is. first_version 0 ∙ sym (eqb-true e.version 0 is)) (λ not. refl)

at_end : (xs : List Estimate) (x : Estimate) → get_elem? (xs ++ x ∷ []) (length xs) ≡ some x
at_end [] x = refl
at_end (y ∷ xs) x = at_end xs x

pub read_is_newest : ReadIsNewest
read_is_newest first known estimate complete newest begins = by newest.0 newest.1
  where
    by : (before : List Estimate) → known.all ≡ before ++ note_of estimate ∷ [] → IsNewest first known estimate
    by [] is =
        let at : note_of estimate ≡ first_one = some-injective (note_of estimate) first_one (ap (λ (l : List Estimate). get_elem? l 0) (sym is) ∙ complete.rising.first) in
        let zero_version = sym (version_of estimate) ∙ ap (λ (e : Estimate). e.version) at ∙ first_version 0 in
        record { later = []; all_are = is ∙ ap (λ (e : Estimate). e ∷ []) at; newest_is = begins zero_version }
    by (x ∷ before) is =
        let at : x ≡ first_one = some-injective x first_one (ap (λ (l : List Estimate). get_elem? l 0) (sym is) ∙ complete.rising.first) in
        let version = complete.rising.by_version (suc (length before)) (note_of estimate) (ap (λ (l : List Estimate). get_elem? l (suc (length before))) is ∙ at_end before (note_of estimate)) in
        let some_version : estimate.version ≢ 0 = λ none. (let same = version_of estimate in omega arith) in
        let same : note_of estimate ≡ estimate = note_other estimate some_version in
        record {
          later = before ++ note_of estimate ∷ [];
          all_are = is ∙ ap (λ (e : Estimate). e ∷ before ++ note_of estimate ∷ []) at;
          newest_is = sym (after_append newer first before (note_of estimate ∷ []) ∙ same);
        }
