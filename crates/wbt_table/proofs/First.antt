-- The first seat: it holds all, and nothing is done yet.
use Rattle.std.proofs.Common.{◌≡◌, ℕ, zero, suc, ◌*◌, ◌/◌, ◌%◌, ◌<◌, min, List, [], ◌∷◌, All, length, get_or, replicate, Some, sym, refl, ap, ◌∙◌, subst, arith}
use mathlib.Core.Option.{some, some-ne-none}
use lib.ListN.{get_elem?}
use Rattle.std.proofs.lemmas.List.{length-replicate, get_or-replicate}
use Rattle.wbt_table.proofs.Common.{CpuRecord, no_record, writer_in, held_of, opening, KeepsSequences, IsKept, first_triple, no_triple, triple_of, setting, domains, no_limits, Cpus, Has, first_view, Keeps, Agrees, with_grants, IsSeat, IsLawful}
use Rattle.wbt_table.specs.declared.answer.Triple.{Triple}
use Rattle.wbt_table.specs.declared.held.HeldLimits.{HeldLimits}
use Rattle.wbt_table.specs.declared.layout.Layout.{Layout}
use Rattle.wbt_table.specs.Calls.{no_state}
use Rattle.wbt_table.proofs.Seating.{some_is}
use Rattle.wbt_table.proofs.Living.{at_replicate}
use Rattle.wbt_table.proofs.Opening.{lawful_at}
use Rattle.wbt_table.proofs.Triples.{sequences_after}

pub shown_first : (n : ℕ) → with_grants (replicate n (Some no_state)) (replicate n (Some no_record)) ≡ replicate n (Some no_record)
shown_first zero = refl
shown_first (suc n) = ap (λ (l : Cpus). Some no_record ∷ l) (shown_first n)

-- what stands at a place of one such list stands there in the other
module _ {A B : Type 0} where
  same_place : (n : ℕ) (x y : A) (z : B) (c : ℕ) → get_elem? (replicate n x) c ≡ some y → get_elem? (replicate n z) c ≡ some z
  same_place zero x y z c e = absurd (some-ne-none y (sym e))
  same_place (suc n) x y z zero e = refl
  same_place (suc n) x y z (suc c) e = same_place n x y z c e

first_keeps : (key : Layout) (c : ℕ) → Keeps key c no_state no_record
first_keeps key c = record {
  steps = refl;
  page_steps = refl;
  debts = refl;
  first = tt;
  second = tt;
  third = tt;
  no_group = λ e. refl;
  grants = tt;
}

first_agrees : (key : Layout) → Agrees key (replicate key.cpus (Some no_state)) (replicate key.cpus (Some no_record))
first_agrees key = let n : ℕ = key.cpus in record {
  long = length-replicate n (Some no_state);
  as_long = length-replicate n (Some no_record) ∙ sym (length-replicate n (Some no_state));
  kept = λ c r has. let is : no_record ≡ r = some_is no_record r (at_replicate n (Some no_record) (Some r) c has) in (
    no_state,
    same_place n (Some no_record) (Some r) (Some no_state) c has,
    subst (Keeps key c no_state) is (first_keeps key c),
  );
  known = λ c s knows. (no_record, same_place n (Some no_state) (Some s) (Some no_record) c knows);
}

pub first_seat : (key : Layout) (left : ℕ) → left ≡ min 32 key.cap
    → IsSeat (first_view key, []) (replicate key.cpus (Some no_state)) (replicate (length key.writers) left) (Some 0)
first_seat key left is = record {
  slots = refl;
  agrees = first_agrees key;
  keeps_timer = refl;
  keeps_lefts = record {
    long = length-replicate (length key.writers) left;
    each = λ w r less has. let has' : Has (replicate key.cpus (Some no_record)) ((setting key).seat w) r = subst (λ (l : Cpus). Has l ((setting key).seat w) r) (shown_first key.cpus) has in
        let same : no_record ≡ r = some_is no_record r (at_replicate key.cpus (Some no_record) (Some r) ((setting key).seat w) has') in
        get_or-replicate (length key.writers) w left 0 (let n = length-replicate (length key.writers) left in omega arith) ∙ is
        ∙ ap (λ (x : CpuRecord). (writer_in (setting key) w x.writers).left) same;
  };
}

first_sequences : (key : Layout) → KeepsSequences key (replicate (domains key) 0) (first_view key).timer
first_sequences key = let long = length-replicate {A = ℕ} (domains key) 0 in
    sequences_after key (replicate (domains key) 0) (opening (setting key)).timer long
    (λ d less. get_or-replicate (domains key) d 0 0 (omega arith)) (λ d less. omega arith)

-- each CPU holds the first limits of each domain, and each sequence is 0
pub first_kept : (key : Layout) (left : ℕ) (held : HeldLimits) → left ≡ min 32 key.cap → length held.triples.items ≡ key.cpus * domains key
    → ((k : ℕ) → k < key.cpus * domains key → get_or held.triples.items k no_triple ≡ first_triple (get_or key.firsts (k % domains key) no_limits))
    → held.sequences.items ≡ replicate (domains key) 0 → All IsLawful key.firsts
    → IsKept (first_view key, []) (replicate key.cpus (Some no_state)) (replicate (length key.writers) left) held (Some 0)
first_kept key left held is long first sequences lawful = record {
  seat = first_seat key left is;
  triples = record {
    long = long;
    each = λ k r less has. let same : no_record ≡ r = some_is no_record r (at_replicate key.cpus (Some no_record) (Some r) (k / domains key) has) in
        first k less ∙ ap (λ (x : CpuRecord). triple_of (held_of (setting key) (k % domains key) x.triples)) same;
    lawful = λ k less. subst (λ (t : Triple). IsLawful t.limits) (sym (first k less)) (lawful_at key.firsts (k % domains key) lawful);
  };
  sequences = subst (λ (l : List ℕ). KeepsSequences key l (first_view key).timer) (sym sequences) (first_sequences key);
}
