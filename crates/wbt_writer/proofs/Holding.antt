-- Limits that a CPU holds while it loads them.
use Rattle.std.proofs.Common.{◌≡◌, ◌≢◌, ◌⊎◌, inl, inr, ℕ, eqb, List, [], ◌∷◌, ◌++◌, map, flat_map, Option, Some, None, Contains, arith, refl, sym, ap, ◌∙◌, subst, eq-eqb, ne_eqb}
use Rattle.std.specs.Prelude.{IfSome}
use Rattle.std.proofs.lemmas.Bool.{cond-true, cond-false, cond_both}
use Rattle.wbt_writer.proofs.Common.{record_after, Setting, held_of, CpuRecord, DomainLimits, reads_of, Each, Told, CheckEntry, setting, Triple, Kit, Seats, IsHeld, WereHeld, limits_in, limits_of, Longer, held_as, triple_of, DomainLoad, record_in, IsTimed, IsGroup, group_triples}
use Rattle.wbt_kit.proofs.Common.{Limits, limits, is_whole, read_triple, found_of, newest_of, Who, effect, of_part}
use Rattle.wbt_writer.specs.Answers.{AreHeld}
use Rattle.wbt_writer.specs.Loads.{HoldsEach}

module _ (firsts : ℕ → Limits) where
  -- ---- one after another

  pub holds_more : (a b old mid new : List DomainLimits) → HoldsEach firsts a old mid → HoldsEach firsts b mid new → HoldsEach firsts (a ++ b) old new
  holds_more [] b old mid new p q = subst (λ (l : List DomainLimits). HoldsEach firsts b l new) p q
  holds_more (t ∷ a) b old mid new p q = (p.0, p.1, p.2, holds_more a b p.0 mid new p.3 q)

  longer_by : (t : DomainLimits) (old mid : List DomainLimits) → (mid ≡ t ∷ old) ⊎ (mid ≡ old) → Longer old mid
  longer_by t old mid (inl is) = record { more = t ∷ []; longer = is }
  longer_by t old mid (inr is) = record { more = []; longer = is }

  pub were_held : (told old new : List DomainLimits) → HoldsEach firsts told old new → WereHeld firsts told old new
  were_held [] old new p = record { more = []; longer = p }
  were_held (t ∷ told) old new p = (p.0, longer_by t old p.0 p.1, p.2, were_held told p.0 new p.3)

  -- ---- a load of one domain, and what is held of others

  holds_last : (t : DomainLimits) (old new : List DomainLimits) → HoldsEach firsts (t ∷ []) old new → IsHeld firsts new t
  holds_last t old new p = subst (λ (l : List DomainLimits). IsHeld firsts l t) (sym p.3) p.2

  holds_still : (u t : DomainLimits) (old mid : List DomainLimits) → u.domain ≢ t.domain → (mid ≡ t ∷ old) ⊎ (mid ≡ old) → IsHeld firsts old u → IsHeld firsts mid u
  holds_still u t old mid other (inl is) held =
      subst (λ (l : List DomainLimits). IsHeld firsts l u) (sym is) (cond-false (eqb u.domain t.domain) t (newest_of u.domain (firsts u.domain) old) (ne_eqb u.domain t.domain other) ∙ held)
  holds_still u t old mid other (inr is) held = subst (λ (l : List DomainLimits). IsHeld firsts l u) (sym is) held

  -- the global domain's, and those of the cgroup where there is one
  pub all_hold : (group : ℕ) (global : DomainLoad) (load : Option DomainLoad) (old mid new : List DomainLimits) → global.domain ≡ 0 → IsGroup group load
      → HoldsEach firsts (triple_of global ∷ []) old mid → HoldsEach firsts (group_triples load) mid new → Each (IsHeld firsts new) (triple_of global ∷ group_triples load)
  all_hold group global None old mid new zero_is its p q = (subst (λ (l : List DomainLimits). IsHeld firsts l (triple_of global)) (sym q) (holds_last (triple_of global) old mid p), tt)
  all_hold group global (Some load) old mid new zero_is its p q = (
    subst (λ (l : List DomainLimits). IsHeld firsts l (triple_of global)) (sym q.3)
        (holds_still (triple_of global) (triple_of load) mid q.0 (λ e. its.0 (sym its.1 ∙ sym e ∙ zero_is)) q.1 (holds_last (triple_of global) old mid p)),
    (holds_last (triple_of load) mid new q, tt),
  )

-- ---- the last step of a load

module _ (set : Setting) (who : Who) (d n : ℕ) (triple : Triple) (r : CpuRecord) where
  pub holds_loaded : held_of set d (record_after set (limits who d) n r).triples ≡ held_as d triple
      → HoldsEach set.firsts (held_as d triple ∷ []) r.triples (record_after set (limits who d) n r).triples
  holds_loaded = cond_both (is_whole set (found_of d r.loading) n) (read_triple set d (found_of d r.loading) n ∷ r.triples) r.triples
      (λ (l : List DomainLimits). held_of set d l ≡ held_as d triple → HoldsEach set.firsts (held_as d triple ∷ []) r.triples l)
      (λ whole held. (
        read_triple set d (found_of d r.loading) n ∷ r.triples,
        inl (ap (λ (t : DomainLimits). t ∷ r.triples)
            (sym (cond-true (eqb d d) (read_triple set d (found_of d r.loading) n) (held_of set d r.triples) (eq-eqb d d refl)) ∙ held)),
        held,
        refl,
      ))
      (λ not held. (r.triples, inr refl, held, refl))

-- ---- entries that are no checks tell nothing that is held

none_from : (P : DomainLimits → Type 0) (check : Option CheckEntry) (rest : List DomainLimits) → IfSome check (λ (c : CheckEntry). Contains [] c.now) → Each P rest
    → Each P (map limits_of (of_part [] reads_of check) ++ rest)
none_from P None rest none each = each
none_from P (Some c) rest none each = absurd (let low = none.1 in omega arith)

none_told : (P : DomainLimits → Type 0) (added : List Told) → Each (IsTimed []) added → Each P (flat_map limits_in added)
none_told P [] none = tt
none_told P (e ∷ added) none = none_from P (effect e).check (flat_map limits_in added) none.0 (none_told P added none.1)

pub none_to_hold : (kit : Kit) (cpu : ℕ) (added : List Told) (seats : Seats) → Each (IsTimed []) added → AreHeld kit cpu added seats
none_to_hold kit cpu added seats none = none_told (IsHeld (setting kit.throttle.layout).firsts (record_in cpu seats).triples) added none
