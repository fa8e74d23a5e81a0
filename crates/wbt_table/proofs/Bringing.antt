-- What two seats keep of limits, when they are brought together.
use Rattle.std.proofs.Common.{◌≡◌, ℕ, ◌/◌, ◌<◌, List, [], length, get_or, Option, Some, None, sym, ◌∙◌, subst, arith, ⊎_elim}
use Rattle.wbt_table.proofs.Common.{TimerRecord, IsLawful, IsKept, KeepsSequences, KeepsTriples, no_triple, domains, Cpus, Sat, both_of, merged, or_else, Agrees, IsSeat, KeepsTimer, States}
use Rattle.wbt_table.specs.declared.answer.Triple.{Triple}
use Rattle.wbt_table.specs.declared.held.HeldLimits.{HeldLimits}
use Rattle.wbt_table.specs.declared.layout.Layout.{Layout}
use Rattle.wbt_table.specs.declared.state.CpuState.{CpuState}
use Rattle.wbt_table.proofs.Joining.{Taken, either_is, merged_cases, none_there, seat_joined}
use Rattle.wbt_table.proofs.Lists.{at_read}

-- the limits of all CPUs that the second seat holds were taken over
pub record TriplesTaken (key : Layout) (states : States) (first from now : List Triple) : Type 0 where
  pub long : length now ≡ length first
  pub taken : (k : ℕ) → k < length first → (s : CpuState) → get_or states (k / domains key) None ≡ Some s → get_or now k no_triple ≡ get_or from k no_triple
  pub others : (k : ℕ) → k < length first → get_or states (k / domains key) None ≡ None → get_or now k no_triple ≡ get_or first k no_triple

triples_joined : (key : Layout) (ys : States) (cpus cpus' : Cpus) (first from now : List Triple) → length cpus ≡ length cpus' → Agrees key ys cpus' → KeepsTriples key first cpus → KeepsTriples key from cpus'
    → TriplesTaken key ys first from now → KeepsTriples key now (merged cpus cpus')
triples_joined key ys cpus cpus' first from now same agrees mine theirs t = record {
  long = t.long ∙ mine.long;
  each = λ k r less has.
      let c : ℕ = k / domains key in
      let inside : k < length first = (let long = mine.long in omega arith) in ⊎_elim
      (λ h. let u = agrees.kept c r h in t.taken k inside u.0 (at_read ys c (Some u.0) u.1 None) ∙ theirs.each k r less h)
      (λ h. let none = none_there ys cpus' c (sym agrees.as_long) (λ s e. agrees.known c s e) h.0 in
      t.others k inside (at_read ys c None none None) ∙ mine.each k r less h.1)
      (merged_cases cpus cpus' c r same has);
  lawful = λ k less.
      let inside : k < length first = (let long = mine.long in omega arith) in ⊎_elim
      (λ none. subst (λ (x : Triple). IsLawful x.limits) (sym (t.others k inside none)) (mine.lawful k less))
      (λ some. subst (λ (x : Triple). IsLawful x.limits) (sym (t.taken k inside some.0 some.1)) (theirs.lawful k less))
      (either_is (get_or ys (k / domains key) None));
}

-- the sequences are those of the seat that holds the timer
abbrev pub sequences_by : (theirs : Option ℕ) (mine others : List ℕ) → List ℕ
sequences_by None mine others = mine
sequences_by (Some steps) mine others = others

sequences_joined : (key : Layout) (timer : Option ℕ) (u v : Option TimerRecord) (mine others : List ℕ) → KeepsTimer timer v → KeepsSequences key mine u → KeepsSequences key others v
    → KeepsSequences key (sequences_by timer mine others) (or_else u v)
sequences_joined key None u None mine others keeps a b = a
sequences_joined key None u (Some r) mine others keeps a b = absurd keeps
sequences_joined key (Some steps) u None mine others keeps a b = absurd keeps
sequences_joined key (Some steps) u (Some r) mine others keeps a b = b

pub kept_joined : (key : Layout) (me me' : Sat) (xs ys : States) (lefts from now : List ℕ) (held held' joined : HeldLimits) (timer timer' : Option ℕ) → me.0.layout ≡ key → me'.0.layout ≡ key
    → IsKept me xs lefts held timer → IsKept me' ys from held' timer' → Taken key ys lefts from now → TriplesTaken key ys held.triples.items held'.triples.items joined.triples.items
    → joined.sequences.items ≡ sequences_by timer' held.sequences.items held'.sequences.items
    → IsKept (both_of me.0 me'.0, []) (merged xs ys) now joined (or_else timer timer')
kept_joined key me me' xs ys lefts from now held held' joined timer timer' at at' a b lefts_taken taken sequences =
    let agrees : Agrees key xs me.0.cpus = subst (λ (k : Layout). Agrees k xs me.0.cpus) at a.seat.agrees in
    let agrees' : Agrees key ys me'.0.cpus = subst (λ (k : Layout). Agrees k ys me'.0.cpus) at' b.seat.agrees in
    record {
      seat = seat_joined key me me' xs ys lefts from now timer timer' at at' a.seat b.seat lefts_taken;
      triples = subst (λ (k : Layout). KeepsTriples k joined.triples.items (merged me.0.cpus me'.0.cpus)) (sym at)
          (triples_joined key ys me.0.cpus me'.0.cpus held.triples.items held'.triples.items joined.triples.items (agrees.as_long ∙ agrees.long ∙ sym (agrees'.as_long ∙ agrees'.long)) agrees'
          (subst (λ (k : Layout). KeepsTriples k held.triples.items me.0.cpus) at a.triples)
          (subst (λ (k : Layout). KeepsTriples k held'.triples.items me'.0.cpus) at' b.triples) taken);
      sequences = subst (λ (k : Layout). KeepsSequences k joined.sequences.items (or_else me.0.timer me'.0.timer)) (sym at)
          (subst (λ (l : List ℕ). KeepsSequences key l (or_else me.0.timer me'.0.timer)) (sym sequences)
          (sequences_joined key timer' me.0.timer me'.0.timer held.sequences.items held'.sequences.items b.seat.keeps_timer
          (subst (λ (k : Layout). KeepsSequences k held.sequences.items me.0.timer) at a.sequences)
          (subst (λ (k : Layout). KeepsSequences k held'.sequences.items me'.0.timer) at' b.sequences)));
    }
