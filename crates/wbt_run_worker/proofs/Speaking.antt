-- What a worker has said so far.
use Rattle.std.proofs.Common.{◌≡◌, inl, inr, ⊎_elim, ℕ, ◌+◌, ◌-◌, ◌≤◌, Bool, true, false, cond, Option, Some, None, refl, sym, ap, ◌∙◌, subst, arith}
use Rattle.wbt_run_worker.proofs.Common.{TableId, Known, HasSpoken, TimerSpeaks}
use Rattle.wbt_run_worker.specs.Voices.{HasWritten, MaySpeak, SaysSo, Speaks, rings_for}
use Rattle.wbt_run_worker.specs.declared.side.End.{End}
use Rattle.wbt_run_worker.specs.declared.side.End.TheVariants.{Ended, Halted, Faulted, Spent, Refused, Stopped}

module _ (signals : TableId) where
  pub speaks_now : (writes : Bool) (voice : Known) → MaySpeak signals writes voice → Speaks signals writes None voice voice
  speaks_now writes voice may = record { may = may; stakes = refl; says = refl; written = tt }

  says_more : (end : Option End) (a b c : Known) → b.rings ≡ a.rings → SaysSo end b c → SaysSo end a c
  says_more None a b c same says = says ∙ same
  says_more (Some end) a b c same says = (says.0 ∙ ap (λ (n : ℕ). n + rings_for end) same, says.1, says.2)

  pub speaks_more : (w w' : Bool) (end : Option End) (a b c : Known) → Speaks signals w None a b → Speaks signals w' end b c → Speaks signals w' end a c
  speaks_more w w' end a b c p q = record { may = q.may; stakes = q.stakes ∙ p.stakes; says = says_more end a b c p.says q.says; written = q.written }

  -- it looked whether the bell was rung
  pub speaks_looked : (w heard : Bool) (a b c : Known) → Speaks signals w None a b → c ≡ record b { heard = heard; notes = c.notes } → Speaks signals w None a c
  speaks_looked w heard a b c p is = record {
    may = record { its = ap (λ (v : Known). v.signals) is ∙ p.may.its; leave = ap (λ (v : Known). v.writes) is ∙ p.may.leave; there = ap (λ (v : Known). v.there) is ∙ p.may.there };
    stakes = ap (λ (v : Known). v.stakes) is ∙ p.stakes;
    says = ap (λ (v : Known). v.rings) is ∙ p.says;
    written = tt;
  }

  not_ended : Stopped ≡ Ended → ⊥
  not_ended e = absurd (cc e)

  not_stopped : Ended ≡ Stopped → ⊥
  not_stopped e = absurd (cc e)

  pub speaks_stopped : (w heard : Bool) (a b c : Known) → Speaks signals w None a b → c ≡ record b { heard = heard; notes = c.notes } → heard ≡ true → Speaks signals w (Some Stopped) a c
  speaks_stopped w heard a b c p is rung = let q = speaks_looked w heard a b c p is in record {
    may = q.may;
    stakes = q.stakes;
    says = (
      (let same = q.says in omega arith),
      (λ _. ap (λ (v : Known). v.heard) is ∙ rung),
      λ e. absurd (not_ended e),
    );
    written = tt;
  }

  pub speaks_ended : (w : Bool) (a b : Known) → Speaks signals w None a b → b.quiet ≡ true → w ≡ false → Speaks signals w (Some Ended) a b
  speaks_ended w a b p quiet written = record {
    may = p.may;
    stakes = p.stakes;
    says = ((let same = p.says in omega arith), (λ e. absurd (not_stopped e)), λ _. quiet);
    written = written;
  }

  -- it said once that its worker writes no more
  pub may_true : (writes : Bool) (voice : Known) → writes ≡ true → MaySpeak signals writes voice → 1 ≤ voice.writes
  may_true writes voice is may = let n : voice.writes ≡ 1 = may.leave ∙ ap (λ (b : Bool). cond b 1 0) is in omega arith

  pub speaks_written : (writes : Bool) (a b : Known) → writes ≡ true → MaySpeak signals writes a → b ≡ record a { writes = a.writes - 1; notes = b.notes } → Speaks signals false None a b
  speaks_written writes a b so may is = record {
    may = record {
      its = ap (λ (v : Known). v.signals) is ∙ may.its;
      leave = let l : a.writes ≡ 1 = may.leave ∙ ap (λ (w : Bool). cond w 1 0) so in let n : b.writes ≡ a.writes - 1 = ap (λ (v : Known). v.writes) is in omega arith;
      there = ap (λ (v : Known). v.there) is ∙ may.there;
    };
    stakes = ap (λ (v : Known). v.stakes) is;
    says = ap (λ (v : Known). v.rings) is;
    written = tt;
  }

  pub speaks_none : (writes : Bool) (a : Known) → writes ≡ false → MaySpeak signals writes a → Speaks signals false None a a
  speaks_none writes a so may = speaks_now false a (subst (λ (w : Bool). MaySpeak signals w a) so may)

  pub speaks_quiet : (w quiet : Bool) (a b c : Known) → Speaks signals w None a b → c ≡ record b { quiet = quiet; notes = c.notes } → Speaks signals w None a c
  speaks_quiet w quiet a b c p is = record {
    may = record { its = ap (λ (v : Known). v.signals) is ∙ p.may.its; leave = ap (λ (v : Known). v.writes) is ∙ p.may.leave; there = ap (λ (v : Known). v.there) is ∙ p.may.there };
    stakes = ap (λ (v : Known). v.stakes) is ∙ p.stakes;
    says = ap (λ (v : Known). v.rings) is ∙ p.says;
    written = tt;
  }

  has_written : (end : End) → HasWritten (Some end) false
  has_written Ended = refl
  has_written Halted = refl
  has_written Faulted = refl
  has_written Spent = refl
  has_written Refused = refl
  has_written Stopped = tt

  -- it rang the bell
  speaks_rung : (end : End) (a b c : Known) → Speaks signals false None a b → c ≡ record b { rings = b.rings + 1; notes = c.notes } → rings_for end ≡ 1
      → (end ≡ Stopped → ⊥) → (end ≡ Ended → ⊥) → Speaks signals false (Some end) a c
  speaks_rung end a b c p is one stops ended = record {
    may = record { its = ap (λ (v : Known). v.signals) is ∙ p.may.its; leave = ap (λ (v : Known). v.writes) is ∙ p.may.leave; there = ap (λ (v : Known). v.there) is ∙ p.may.there };
    stakes = ap (λ (v : Known). v.stakes) is ∙ p.stakes;
    says = (
      (let n = ap (λ (v : Known). v.rings) is in let same = p.says in omega (arith, n, same, one)),
      (λ e. absurd (stops e)),
      λ e. absurd (ended e),
    );
    written = has_written end;
  }

  speaks_silent : (end : End) (a b : Known) → Speaks signals false None a b → rings_for end ≡ 0 → (end ≡ Stopped → ⊥) → (end ≡ Ended → ⊥)
      → Speaks signals false (Some end) a b
  speaks_silent end a b p none_ stops ended = record {
    may = p.may;
    stakes = p.stakes;
    says = ((let same = p.says in omega (arith, same, none_)), (λ e. absurd (stops e)), λ e. absurd (ended e));
    written = has_written end;
  }

  pub speaks_quiet_after : (writes quiet : Bool) (a b c : Known) → writes ≡ false → Speaks signals false None a b → c ≡ record b { quiet = quiet; notes = c.notes }
      → Speaks signals writes None a c
  speaks_quiet_after writes quiet a b c so p is = subst (λ (w : Bool). Speaks signals w None a c) (sym so) (speaks_quiet false quiet a b c p is)

  rings_once : (end : End) → (end ≡ Halted → ⊥) → (end ≡ Ended → ⊥) → (end ≡ Stopped → ⊥) → rings_for end ≡ 1
  rings_once Ended halted ended stopped = absurd (ended refl)
  rings_once Halted halted ended stopped = absurd (halted refl)
  rings_once Faulted halted ended stopped = refl
  rings_once Spent halted ended stopped = refl
  rings_once Refused halted ended stopped = refl
  rings_once Stopped halted ended stopped = absurd (stopped refl)

  pub speaks_cut : (writes : Bool) (end : End) (a b c : Known) → writes ≡ false → Speaks signals false None a b → c ≡ record b { rings = b.rings + 1; notes = c.notes }
      → (end ≡ Halted → ⊥) → (end ≡ Ended → ⊥) × (end ≡ Stopped → ⊥) → Speaks signals writes (Some end) a c
  speaks_cut writes end a b c so p is halted cut = subst (λ (w : Bool). Speaks signals w (Some end) a c) (sym so)
      (speaks_rung end a b c p is (rings_once end halted cut.0 cut.1) cut.1 cut.0)

  halted_only : (end : End) → end ≡ Halted → (rings_for end ≡ 0) × (end ≡ Stopped → ⊥) × (end ≡ Ended → ⊥)
  halted_only end is = (
    ap (λ (e : End). rings_for e) is,
    (λ stopped. let no : Stopped ≡ Halted = sym stopped ∙ is in absurd (cc no)),
    λ ended. let no : Ended ≡ Halted = sym ended ∙ is in absurd (cc no),
  )

  pub speaks_halted : (writes : Bool) (end : End) (a b : Known) → writes ≡ false → Speaks signals false None a b → end ≡ Halted → Speaks signals writes (Some end) a b
  speaks_halted writes end a b so p is = let only = halted_only end is in
      subst (λ (w : Bool). Speaks signals w (Some end) a b) (sym so) (speaks_silent end a b p only.0 only.1 only.2)

  -- ---- once it has left, or hasn't

  pub spoke_still : (writes : Bool) (a b : Known) → HasSpoken signals writes None a b → Speaks signals writes None a b
  spoke_still writes a b p = subst (λ (v : Known). Speaks signals writes None a v) (sym p.left) p.speaks

  pub spoken_more : (w w' : Bool) (end : Option End) (a b c : Known) → HasSpoken signals w None a b → HasSpoken signals w' end b c → HasSpoken signals w' end a c
  spoken_more w w' end a b c p q = record { last = q.last; speaks = speaks_more w w' end a b q.last (spoke_still w a b p) q.speaks; left = q.left }

  -- ---- the timer

  pub timer_looked_for : (refused gone : Bool) (b c : Known) → b.signals ≡ signals → c ≡ record b { gone = gone; notes = c.notes } → TimerSpeaks signals refused refused b c
  timer_looked_for refused gone b c its is = record {
    its = ap (λ (v : Known). v.signals) is ∙ its;
    stakes = ap (λ (v : Known). v.stakes) is;
    writes = ap (λ (v : Known). v.writes) is;
    there = ap (λ (v : Known). v.there) is;
    rings = inl (ap (λ (v : Known). v.rings) is, refl);
  }

  pub timer_now : (refused : Bool) (voice : Known) → voice.signals ≡ signals → TimerSpeaks signals refused refused voice voice
  timer_now refused voice its = record { its = its; stakes = refl; writes = refl; there = refl; rings = inl (refl, refl) }

  pub timer_more : (r s t : Bool) (a b c : Known) → TimerSpeaks signals r s a b → TimerSpeaks signals s t b c → TimerSpeaks signals r t a c
  timer_more r s t a b c p q = record {
    its = q.its;
    stakes = q.stakes ∙ p.stakes;
    writes = q.writes ∙ p.writes;
    there = q.there ∙ p.there;
    rings = ⊎_elim
        (λ (same : (c.rings ≡ b.rings) × (t ≡ s)). ⊎_elim
        (λ (was : (b.rings ≡ a.rings) × (s ≡ r)). inl (same.0 ∙ was.0, same.1 ∙ was.1))
        (λ (refused : s ≡ true). inr (same.1 ∙ refused)) p.rings)
        (λ (refused : t ≡ true). inr refused) q.rings;
  }

  pub timer_looked : (refused quiet : Bool) (b c : Known) → b.signals ≡ signals → c ≡ record b { quiet = quiet; notes = c.notes } → TimerSpeaks signals refused refused b c
  timer_looked refused quiet b c its is = record {
    its = ap (λ (v : Known). v.signals) is ∙ its;
    stakes = ap (λ (v : Known). v.stakes) is;
    writes = ap (λ (v : Known). v.writes) is;
    there = ap (λ (v : Known). v.there) is;
    rings = inl (ap (λ (v : Known). v.rings) is, refl);
  }

  -- it was refused memory, and rang
  pub timer_refused : (was : Bool) (a b : Known) → a.signals ≡ signals → b ≡ record a { rings = a.rings + 1; notes = b.notes } → TimerSpeaks signals was true a b
  timer_refused was a b its rang = record {
    its = ap (λ (v : Known). v.signals) rang ∙ its;
    stakes = ap (λ (v : Known). v.stakes) rang;
    writes = ap (λ (v : Known). v.writes) rang;
    there = ap (λ (v : Known). v.there) rang;
    rings = inr refl;
  }
