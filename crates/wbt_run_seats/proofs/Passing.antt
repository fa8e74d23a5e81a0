-- What is known of estimates comes together.
use Rattle.std.proofs.Common.{◌≡◌, ◌≢◌, ℕ, suc, ◌+◌, ◌<◌, Bool, true, false, cond, if◌then◌else◌, ◌==◌, ◌||◌, List, [], ◌∷◌, ◌++◌, length, get_or, Contains, refl, sym, ap, ap₂, ◌∙◌, subst, arith}
use Rattle.std.proofs.lemmas.List.Elements.{Contains-append_left, Contains-append_right}
use mathlib.Core.Logic.{dite}
use native.Mathlib.Decide.{ℕ_discrete}
use Rattle.wbt_kit.proofs.Common.{Estimate, knows_both, known_of, Known, Trace, Each, effect, estimates_of, contexts, Told, EstEntry}
use Rattle.wbt_run_laws.specs.Elsewhere.{IsPlain}
use Rattle.wbt_run_laws.specs.Notes.{Notes, IsTold}
use Rattle.wbt_run_laws.proofs.Effects.{part_none}
use Rattle.wbt_kit.specs.declared.kit.Seats.{Seats}
use Rattle.wbt_run_seats.specs.Gathered.{PassesGathered, AreNotesOf}
use Rattle.wbt_run_seats.specs.Together.{known_with}

-- ---- estimates

-- who publishes has all of it, and who doesn't takes it over
both_all : (b c : Bool) (mine theirs : List Estimate) → b ≡ false → cond b theirs mine ≡ mine
both_all b c mine theirs is = ap (λ (t : Bool). cond t theirs mine) is

or_first : (a b : Bool) → a ≡ true → (a || b) ≡ true
or_first a b is = ap (λ (t : Bool). t || b) is

pub or_second : (a b : Bool) → b ≡ true → (a || b) ≡ true
or_second true b is = refl
or_second false b is = is

pub or_neither : (a b : Bool) → a ≡ false → b ≡ false → (a || b) ≡ false
or_neither a b one other = ap₂ (λ (s t : Bool). s || t) one other

module _ (trace : Trace) (publisher : (context : ℕ) → ℕ) (notes : ℕ → Notes) where
  pub passes_same : (cpus : ℕ) (all known : (context : ℕ) → Known) → ((context : ℕ) → context < contexts trace → known context ≡ all context)
      → PassesGathered trace cpus publisher notes all → PassesGathered trace cpus publisher notes known
  passes_same cpus all known same before = record {
    published = λ context low less. let was = before.published context low less in
        (ap (λ (k : Known). k.publishes) (same context low) ∙ was.0, ap (λ (k : Known). k.all) (same context low) ∙ was.1);
    others = λ context low more. ap (λ (k : Known). k.publishes) (same context low) ∙ before.others context low more;
    have = λ cpu context less low note has. subst (λ (k : Known). Contains k.reads note) (sym (same context low)) (before.have cpu context less low note has);
  }

  pub passes_more : (cpus : ℕ) (all more : (context : ℕ) → Known) → PassesGathered trace cpus publisher notes all
      → ((context : ℕ) → (notes cpus).estimates context ≡ more context)
      → ((context : ℕ) → context < contexts trace → publisher context ≡ cpus → (more context).publishes ≡ true)
      → ((context : ℕ) → context < contexts trace → publisher context ≢ cpus → (more context).publishes ≡ false)
      → PassesGathered trace (suc cpus) publisher notes (λ context. knows_both (all context) (more context))
  passes_more cpus all more before are right none = record {
    published = λ context low less. dite (ℕ_discrete (publisher context) cpus)
        (λ last.
        let yes = right context low last in (
          or_second (all context).publishes (more context).publishes yes,
          ap (λ (t : Bool). cond t (more context).all (all context).all) yes ∙ ap (λ (k : Known). k.all) (sym (are context))
              ∙ ap (λ (k : ℕ). ((notes k).estimates context).all) (sym last),
        ))
        (λ other.
        let q : publisher context ≢ cpus = other in
        let was = before.published context low (omega arith) in (
          or_first (all context).publishes (more context).publishes was.0,
          ap (λ (t : Bool). cond t (more context).all (all context).all) (none context low other) ∙ was.1,
        ));
    others = λ context low high. or_neither (all context).publishes (more context).publishes (before.others context low (omega arith)) (none context low (λ e. omega arith));
    have = λ cpu context less low note has. dite (ℕ_discrete cpu cpus)
        (λ last. Contains-append_right (all context).reads (more context).reads note
        (subst (λ (k : Known). Contains k.reads note) (are context) (subst (λ (k : ℕ). Contains ((notes k).estimates context).reads note) last has)))
        (λ other. Contains-append_left (all context).reads (more context).reads note (before.have cpu context (let q : cpu ≢ cpus = other in omega arith) low note has));
  }

  pub passes_first : (all : (context : ℕ) → Known) → ((context : ℕ) → context < contexts trace → (all context).publishes ≡ false) → PassesGathered trace 0 publisher notes all
  passes_first all none = record {
    published = λ context low less. absurd (omega arith);
    others = λ context low high. none context low;
    have = λ cpu context less. absurd (omega arith);
  }

pub passes_along : (trace : Trace) (notes : ℕ → Notes) (publisher : (context : ℕ) → ℕ) (parts : List Seats) (cpus : ℕ) (all : (context : ℕ) → Known)
    → PassesGathered trace cpus publisher notes all → ((n : ℕ) (other : Seats) → n < length parts → AreNotesOf trace publisher (cpus + n) (notes (cpus + n)) (get_or parts n other))
    → PassesGathered trace (cpus + length parts) publisher notes (λ context. known_with context parts (all context))
passes_along trace notes publisher [] cpus all before each = subst (λ (n : ℕ). PassesGathered trace n publisher notes all) (omega arith) before
passes_along trace notes publisher (part ∷ parts) cpus all before each =
    let first : AreNotesOf trace publisher cpus (notes cpus) part = subst (λ (n : ℕ). AreNotesOf trace publisher n (notes n) part) (let n : cpus + 0 ≡ cpus = omega arith in n) (each 0 part (omega arith)) in
    subst (λ (n : ℕ). PassesGathered trace n publisher notes (λ context. known_with context (part ∷ parts) (all context))) (omega arith)
    (passes_along trace notes publisher parts (suc cpus) (λ context. knows_both (all context) (known_of context part.est))
    (passes_more trace publisher notes cpus all (λ context. known_of context part.est) before first.estimates
    (λ context low is. ap (λ (k : Known). k.publishes) (sym (first.estimates context)) ∙ first.publishes context low is)
    (λ context low other. ap (λ (k : Known). k.publishes) (sym (first.estimates context)) ∙ first.no_other context low other))
    (λ n other less. subst (λ (k : ℕ). AreNotesOf trace publisher k (notes k) (get_or parts n other)) (omega arith) (each (suc n) other (omega arith))))

-- ---- entries that tell neither a check nor an estimate

pub tells_none : (context : ℕ) (added : List Told) → Each IsPlain added → estimates_of context added ≡ []
tells_none context [] plain = refl
tells_none context (e ∷ added) plain =
    ap (λ (l : List Estimate). l ++ estimates_of context added) (part_none [] (λ (est : EstEntry). if est.context == context then est.estimate ∷ [] else []) (effect e).estimate plain.0.no_estimate)
    ∙ tells_none context added plain.1

pub all_stays : (first : Estimate) (told : List Estimate) (old new : Known) → told ≡ [] → IsTold first told old new → old.publishes ≡ true → new.all ≡ old.all
all_stays first told old new none is right = is.published right ∙ ap (λ (l : List Estimate). old.all ++ l) none ∙ nil old.all
  where
    nil : (xs : List Estimate) → xs ++ [] ≡ xs
    nil [] = refl
    nil (x ∷ xs) = ap (λ (l : List Estimate). x ∷ l) (nil xs)
