-- The moves of which the list is made: a writer loads the count and is granted a cap; it dirties a page; its CPU pays the counters, and folds.
use Rattle.std.proofs.Common.{◌≡◌, ◌≢◌, ℕ, suc, ◌+◌, ◌-◌, ◌<◌, ◌≤◌, Bool, true, false, cond, eqb, leb, List, [], ◌∷◌, length, All, ℤ, pos, ◌+ℤ◌, ◌-ℤ◌, unsigned_abs, sym, refl, ap, ◌∙◌, subst, arith, eqb-true, le-leb, ⊎_elim}
use Rattle.std.proofs.lemmas.Int.{ints}
use Rattle.std.proofs.lemmas.Bool.{cases_Bool, cond_both, cond-true, cond-false, or_left, or_cases}
use Rattle.std.proofs.lemmas.List.Elements.{All-head, All-tail}
use Rattle.wbt_num.specs.declared.limits.Limits.{Limits}
use Rattle.wbt_counter.specs.declared.counter.Counter.{Counter}
use Rattle.wbt_counter.specs.declared.counter.Counter.TheVariants.{Domain, Context}
use Rattle.wbt_counter.specs.declared.record.Debt.{Debt}
use Rattle.wbt_counter.specs.declared.record.Debt.TheVariants.{Event as OwesEvent, FoldDue, ClearDue}
use Rattle.wbt_counter.specs.declared.record.Owed.{Owed}
use Rattle.wbt_counter.specs.Batch.{domain_batch, context_batch, stat_error}
use Rattle.wbt_counter.specs.Counters.{put_counter, debt_to, with_debt, without_debt}
use Rattle.wbt_counter.specs.Account.{amount, to_clear}
use Rattle.wbt_counter.specs.History.{History, sum_of, reading_of, at_least_zero}
use Rattle.wbt_counter.specs.Sums.{put}
use Rattle.wbt_counter.specs.Through.{fits}
use Rattle.wbt_counter.proofs.Sums.{put_same, put_other, put_each}
use Rattle.wbt_book.specs.declared.event.Event.TheVariants as event
use Rattle.wbt_book.specs.Book.{Bits, bits_after}
use Rattle.wbt_book.specs.Counts.{places}
use Rattle.wbt_grant.specs.declared.who.StepKind.TheVariants as kind
use Rattle.wbt_grant.specs.declared.who.Word.TheVariants as word
use Rattle.wbt_grant.specs.declared.who.Who.TheVariants.{Writer}
use Rattle.wbt_grant.specs.declared.record.DomainLimits.{DomainLimits}
use Rattle.wbt_grant.specs.declared.record.CpuRecord.{CpuRecord}
use Rattle.wbt_grant.specs.declared.record.TimerRecord.{TimerRecord}
use Rattle.wbt_grant.specs.declared.record.WriterRecord.{WriterRecord}
use Rattle.wbt_grant.specs.Setting.{Setting, IsSetting, is_inside, batch_of}
use Rattle.wbt_grant.specs.State.{State, holding, writer_at, held_of, found_of}
use Rattle.wbt_grant.specs.Bound.{is_let_through}
use Rattle.wbt_grant.specs.Record
use Rattle.wbt_grant.specs.Kinds.{Step, add, fold, clear, count, dirty, first, middle, limits, grant, Allowed, after, with_record, with_event, dirty_step, sequence_now, thresh_now, shared_now, own_now, local_after, local_left, has_sequence, has_both}
use Rattle.wbt_grant.specs.Rule.{WasPublished, as_first, by_timer, Rule}
use Rattle.wbt_grant.proofs.Entries.{writer_number, writers_same, writers_changed}
use Rattle.wbt_grant.proofs.Frames.{exact_shift}
use Rattle.wbt_grant.proofs.Whole.{step_keeps}
use Rattle.wbt_attained.specs.Alone.{alone, hard_limit, all_pages, IsAlone}
use Rattle.wbt_attained.proofs.Setting.{is_setting}
use Rattle.wbt_attained.proofs.At.{Goes, step_on, At, same_at, recorded, rewritten}

-- where nothing was published, what a CPU holds are the first limits
held_are_first : (set : Setting) (d : ℕ) (triples : List DomainLimits) → All (λ x. WasPublished set [] x.domain x.version x.limits) triples
    → (held_of set d triples).limits ≡ set.firsts d
held_are_first set d [] all = refl
held_are_first set d (new ∷ older) all =
    let rest = held_are_first set d older (All-tail (λ (x : DomainLimits). WasPublished set [] x.domain x.version x.limits) new older all) in
    let this : WasPublished set [] new.domain new.version new.limits =
    All-head (λ (x : DomainLimits). WasPublished set [] x.domain x.version x.limits) new older all in
    let of_first : WasPublished set [] new.domain new.version new.limits → new.limits ≡ set.firsts new.domain = λ was. first_of was in
    cond_both (eqb d new.domain) new (held_of set d older) (λ (x : DomainLimits). x.limits ≡ set.firsts d)
    (λ t. first_of this ∙ ap set.firsts (sym (eqb-true d new.domain t))) (λ t. rest)
  where
    first_of : WasPublished set [] new.domain new.version new.limits → new.limits ≡ set.firsts new.domain
    first_of (as_first zero_is same) = same
    first_of (by_timer none) = absurd (let less = none.1 in omega arith)

-- what is put in the place of another changes as if the other had not been there
pub put_twice : {A : Type 0} (g f : ℕ → A) (i : ℕ) (v : A) → ((j : ℕ) → j ≢ i → g j ≡ f j) → (j : ℕ) → put g i v j ≡ put f i v j
put_twice {A} g f i v same = put_each g i v (λ j x. x ≡ put f i v j) (sym (put_same f i v)) (λ j other. same j other ∙ sym (put_other f i v j other))

-- both counters of a page are owed an event, or the domain's alone
abbrev pub both_owed : List Owed
both_owed = record { counter = Context 0; debt = OwesEvent (pos 1) } ∷ record { counter = Domain 0; debt = OwesEvent (pos 1) } ∷ []

abbrev pub domain_owed : List Owed
domain_owed = record { counter = Domain 0; debt = OwesEvent (pos 1) } ∷ []

abbrev pub fold_owed : List Owed
fold_owed = record { counter = Domain 0; debt = FoldDue } ∷ []

module _ (cpus batches cap : ℕ) (is : IsAlone cpus batches cap) (Q : State → Type 0) where
  ok : IsSetting (alone cpus batches cap)
  ok = is_setting cpus batches cap is

  -- a state that a step leads to keeps the rule
  kept : (n f : ℕ) (a l : ℕ → ℕ) (o : ℕ → List Owed) (s : State) → At (alone cpus batches cap) n f a l o s → (step : Step)
      → Allowed (alone cpus batches cap) step s → Rule (alone cpus batches cap) (after (alone cpus batches cap) step s)
  kept n f a l o s at step may = step_keeps (alone cpus batches cap) step s ok at.rule may

  -- The writer of the CPU c loads the limits and the count of the domain, is let through, and has the cap left.
  module _ (n f : ℕ) (a : ℕ → ℕ) (o : ℕ → List Owed) (c : ℕ) (less : c < cpus) where
    let_through : (d : ℕ) → is_inside (alone cpus batches cap) d 0 ≡ true → d ≡ 0
    let_through d inside = ⊎_elim (λ t. eqb-true d 0 t) (λ t. eqb-true d 0 t) (or_cases (eqb d 0) (eqb d 0) inside)

    granted_at : (l : ℕ → ℕ) (s : State) → At (alone cpus batches cap) n f a l o s
        → is_let_through (alone cpus batches cap) 0 (writer_at (alone cpus batches cap) s.cpu c) ≡ true
        → ((m : ℕ → ℕ) (t : State) → At (alone cpus batches cap) n f a m o t → ((i : ℕ) → m i ≡ put l c cap i) → Goes (alone cpus batches cap) Q t)
        → Goes (alone cpus batches cap) Q s
    granted_at l s at through next =
        let set : Setting = alone cpus batches cap in
        let may : Allowed set (grant c cap) s = record {
          writer_is = less;
          at_least_one = is.some_cap;
          at_most_cap = omega arith;
          let_through = λ d inside. subst (λ (e : ℕ). is_let_through set e (writer_at set s.cpu c) ≡ true) (sym (let_through d inside)) through;
        } in
        let r : CpuRecord = Record.granted c cap (s.cpu c) in
        step_on set Q s (grant c cap) may
        (next (put l c cap) (with_record c r s)
        (rewritten set n f a l o s at c r c cap (holding c cap) (kept n f a l o s at (grant c cap) may) refl refl refl refl refl refl) (λ i. refl))

    pub refilled : (l : ℕ → ℕ) (s : State) → At (alone cpus batches cap) n f a l o s → f ≤ hard_limit cpus batches
        → ((t : State) → At (alone cpus batches cap) n f a (put l c cap) o t → Goes (alone cpus batches cap) Q t) → Goes (alone cpus batches cap) Q s
    refilled l s at low next =
        let set : Setting = alone cpus batches cap in
        let n1 : ℕ = sequence_now set 0 s in
        let r1 : CpuRecord = Record.stepped kind.First (word.Sequence 0) n1 (Record.found_first 0 n1 (s.cpu c)) in
        let s1 : State = with_record c r1 s in
        let may1 : Allowed set (first c 0) s = record { cpu_is = less } in
        let at1 = recorded set n f a l o s at c r1 (kept n f a l o s at (first c 0) may1) refl refl refl in
        let found1 = ap (λ (r : CpuRecord). found_of 0 r.loading) (put_same s.cpu c r1) in
        let n2 : ℕ = thresh_now set 0 s1 in
        let r2 : CpuRecord = Record.stepped kind.Middle (word.Thresh 0) n2 (Record.found_middle 0 n2 (s1.cpu c)) in
        let s2 : State = with_record c r2 s1 in
        let may2 : Allowed set (middle c 0) s1 = record { cpu_is = less; first_found = ap has_sequence found1 } in
        let at2 = recorded set n f a l o s1 at1 c r2 (kept n f a l o s1 at1 (middle c 0) may2) refl refl refl in
        let found2 = ap (λ (r : CpuRecord). found_of 0 r.loading) (put_same s1.cpu c r2) ∙ ap (Record.beside n2) found1 in
        let n3 : ℕ = sequence_now set 0 s2 in
        let triples : List DomainLimits = Record.triples_after set 0 n3 (s2.cpu c) in
        let held : Limits = (held_of set 0 triples).limits in
        let x3 : WriterRecord = Record.keeping_limits 0 held (writer_at set s2.cpu c) in
        let r3 : CpuRecord = Record.stepped kind.Limits (word.Sequence 0) n3 (Record.limited set (Writer c) 0 n3 (s2.cpu c)) in
        let s3 : State = with_record c r3 s2 in
        let may3 : Allowed set (limits (Writer c) 0) s2 = record { loader = less; both_found = ap has_both found2 } in
        let its3 : x3.writer ≡ c = writer_number set c (s2.cpu c).writers in
        let at3 = rewritten set n f a l o s2 at2 c r3 c (l c) x3 (kept n f a l o s2 at2 (limits (Writer c) 0) may3) refl refl refl its3 refl (at2.left c less) in
        let writer3 = ap (λ (g : ℕ → WriterRecord). g c) (writers_changed set s2.cpu c r3 c x3 refl its3 refl) ∙ put_same (writer_at set s2.cpu) c x3 in
        let published : s3.timer.published ≡ [] = ap (λ (x : TimerRecord). x.published) at3.timer in
        let all : All (λ x. WasPublished set [] x.domain x.version x.limits) triples =
        subst (λ (p : List DomainLimits). All (λ x. WasPublished set p x.domain x.version x.limits) triples) published
        (subst (λ (r : CpuRecord). All (λ x. WasPublished set s3.timer.published x.domain x.version x.limits) r.triples) (put_same s2.cpu c r3)
        (at3.rule.limits.were_published c)) in
        let held_hard : held.hard ≡ hard_limit cpus batches = ap (λ (x : Limits). x.hard) (held_are_first set 0 triples all) in
        let n4 : ℕ = reading_of (s3.folds (Domain 0)) in
        let reads : n4 ≡ f = ap at_least_zero at3.folded in
        let x4 : WriterRecord = Record.keeping_reading set c (Domain 0) n4 (writer_at set s3.cpu c) in
        let r4 : CpuRecord = Record.stepped kind.Count (word.Shared (Domain 0)) (shared_now (Domain 0) s3)
        (Record.counted set (Writer c) (Domain 0) (length (s3.folds (Domain 0))) (sum_of (s3.folds (Domain 0))) (s3.cpu c)) in
        let s4 : State = with_record c r4 s3 in
        let may4 : Allowed set (count (Writer c) (Domain 0)) s3 = less in
        let its4 : x4.writer ≡ c = writer_number set c (s3.cpu c).writers in
        let l3 : ℕ → ℕ = put l c (l c) in
        let at4 = rewritten set n f a l3 o s3 at3 c r4 c (l3 c) x4 (kept n f a l3 o s3 at3 (count (Writer c) (Domain 0)) may4) refl refl refl its4 refl (at3.left c less) in
        let writer4 = ap (λ (g : ℕ → WriterRecord). g c) (writers_changed set s3.cpu c r4 c x4 refl its4 refl) ∙ put_same (writer_at set s3.cpu) c x4 in
        let through : is_let_through set 0 (writer_at set s4.cpu c) ≡ true =
        ap (is_let_through set 0) writer4
        ∙ ap (λ (x : WriterRecord). is_let_through set 0 (Record.keeping_reading set c (Domain 0) n4 x)) writer3
        ∙ or_left (leb n4 held.hard) (fits (stat_error cpus) x3.context_reading) (le-leb n4 held.hard (omega arith)) in
        step_on set Q s (first c 0) may1 (step_on set Q s1 (middle c 0) may2 (step_on set Q s2 (limits (Writer c) 0) may3
        (step_on set Q s3 (count (Writer c) (Domain 0)) may4
        (granted_at (put l3 c (l3 c)) s4 at4 through (λ m t there are. next t
        (same_at set n f a m o t a (put l c cap) o (λ i fits. refl)
        (λ i fits. are i ∙ put_twice (put l3 c (l3 c)) l c cap (λ j other. put_other l3 c (l3 c) j other ∙ put_other l c (l c) j other) i)
        (λ i fits. refl) there))))))

  -- Its writer dirties the next page.
  dirtied : (n f : ℕ) (a l : ℕ → ℕ) (o : ℕ → List Owed) (c : ℕ) → c < cpus → (s : State) → At (alone cpus batches cap) n f a l o s
      → o c ≡ [] → 0 < l c → n < all_pages cpus batches cap
      → ((t : State) → At (alone cpus batches cap) (n + 1) f a (put l c (l c - 1)) (put o c both_owed) t → Goes (alone cpus batches cap) Q t)
      → Goes (alone cpus batches cap) Q s
  dirtied n f a l o c less s at none some page next =
      let set : Setting = alone cpus batches cap in
      let lefts = at.left c less in
      let few = at.steps c in
      let as_fresh = at.fresh n (omega arith) in
      let may : Allowed set (dirty c n) s = record {
        writer_is = less;
        page_is = page;
        its_context = refl;
        some_left = omega arith;
        ready = record { owes_none = at.owed c less ∙ none; step_left = omega arith };
      } in
      let clean_now : (s.book n).dirty ≡ false = ap (λ (b : Bits). b.dirty) as_fresh in
      let r : CpuRecord = dirty_step set c n s (Record.dirtied set c n (s.cpu c)) in
      let b : Bits = bits_after (event.Dirty n) (s.book n) in
      let t : State = with_event (event.Dirty n) n (with_record c r s) in
      let x : WriterRecord = holding c ((writer_at set s.cpu c).left - 1) in
      let is_t = cond-false (s.book n).dirty (with_record c (dirty_step set c n s (Record.found_already n (s.cpu c))) s) t clean_now in
      let shift = exact_shift set s.book n b page (omega arith) (Domain 0) in
      let before : places (s.book n) ≡ 0 = ap places as_fresh in
      let later : places b ≡ 1 = ap (λ (z : Bits). places (bits_after (event.Dirty n) z)) as_fresh in
      let counted = at.counted in
      let there : At set (n + 1) f a (put l c (l c - 1)) (put o c both_owed) t = record {
        rule = subst (λ (z : State). Rule set z) is_t (kept n f a l o s at (dirty c n) may);
        fresh = λ p more. put_other s.book n b p (λ e. let h : suc n ≤ p = omega (arith, more) in omega (arith, e, h)) ∙ at.fresh p (omega (arith, more));
        counted = omega arith;
        own = at.own;
        folded = at.folded;
        left = λ v fits. ap (λ (g : ℕ → WriterRecord). (g v).left) (writers_changed set s.cpu c r c x refl refl refl)
            ∙ put_each (writer_at set s.cpu) c x (λ j y. j < cpus → y.left ≡ put l c (l c - 1) j)
            (λ within. ap (λ (k : ℕ). k - 1) lefts ∙ sym (put_same l c (l c - 1)))
            (λ j other within. at.left j within ∙ sym (put_other l c (l c - 1) j other)) v fits;
        owed = put_each s.cpu c r (λ j y. j < cpus → y.debts ≡ put o c both_owed j) (λ within. sym (put_same o c both_owed))
            (λ j other within. at.owed j within ∙ sym (put_other o c both_owed j other));
        steps = put_each s.cpu c r (λ j y. y.page_steps ≤ n + 1) (omega arith) (λ j other. let h = at.steps j in omega arith);
        timer = at.timer;
      } in
      step_on set Q s (dirty c n) may (subst (λ (z : State). Goes set Q z) (sym is_t) (next t there))

  -- a step of the CPU c on counters alone
  module _ (n f : ℕ) (a l : ℕ → ℕ) (o : ℕ → List Owed) (c : ℕ) (less : c < cpus) (s : State) (at : At (alone cpus batches cap) n f a l o s) where
    moved : (r : CpuRecord) (own : Counter → ℕ → ℤ) (folds : Counter → History) (g : ℕ) (b : ℕ → ℕ) (owes : List Owed)
        → Rule (alone cpus batches cap) (record s { cpu = put s.cpu c r; own = own; folds = folds }) → r.page_steps ≡ (s.cpu c).page_steps
        → r.writers ≡ (s.cpu c).writers → r.debts ≡ owes → sum_of (folds (Domain 0)) ≡ pos g
        → ((i : ℕ) → i < cpus → own (Domain 0) i ≡ pos (b i))
        → At (alone cpus batches cap) n g b l (put o c owes) (record s { cpu = put s.cpu c r; own = own; folds = folds })
    moved r own folds g b owes rule steps writers debts sum owns = let set : Setting = alone cpus batches cap in record {
      rule = rule;
      fresh = at.fresh;
      counted = at.counted;
      own = owns;
      folded = sum;
      left = λ w fits. ap (λ (h : ℕ → WriterRecord). (h w).left) (writers_same set s.cpu c r writers) ∙ at.left w fits;
      owed = put_each s.cpu c r (λ j y. j < cpus → y.debts ≡ put o c owes j) (λ within. debts ∙ sym (put_same o c owes))
          (λ j other within. at.owed j within ∙ sym (put_other o c owes j other));
      steps = put_each s.cpu c r (λ j y. y.page_steps ≤ n) (let few = at.steps c in omega arith) (λ j other. at.steps j);
      timer = at.timer;
    }

    Next : ℕ → (ℕ → ℕ) → List Owed → Type 0
    Next g b owes = (t : State) → At (alone cpus batches cap) n g b l (put o c owes) t → Goes (alone cpus batches cap) Q t

    added_to : (x : Counter) (owes : List Owed) (b : ℕ → ℕ) → debt_to x (s.cpu c).debts ≡ OwesEvent (pos 1)
        → Record.debts_added (batch_of (alone cpus batches cap) x) x (local_after c x s) (s.cpu c).debts ≡ owes
        → ((i : ℕ) → i < cpus → put_counter s.own x (put (s.own x) c (local_after c x s)) (Domain 0) i ≡ pos (b i))
        → Next f b owes → Goes (alone cpus batches cap) Q s
    unfolding Next
    added_to x owes b owed debts owns next =
        let set : Setting = alone cpus batches cap in
        let may : Allowed set (add c x) s = record { cpu_is = less; event_owed = owed ∙ sym (ap (λ (z : Debt). OwesEvent (amount z)) owed) } in
        let local : ℤ = local_after c x s in
        let r : CpuRecord = Record.stepped kind.Add (word.Own x) (own_now x c s) (Record.added (batch_of set x) x local (s.cpu c)) in
        step_on set Q s (add c x) may (next (after set (add c x) s)
        (moved r (put_counter s.own x (put (s.own x) c local)) s.folds f b owes (kept n f a l o s at (add c x) may) refl refl debts at.folded owns))

    folded_by_it : (x : Counter) (owes : List Owed) (g : ℕ) → debt_to x (s.cpu c).debts ≡ FoldDue
        → with_debt x (ClearDue (s.own x c)) (s.cpu c).debts ≡ owes
        → sum_of (put_counter s.folds x ((c, s.own x c) ∷ s.folds x) (Domain 0)) ≡ pos g
        → Next g a owes → Goes (alone cpus batches cap) Q s
    unfolding Next
    folded_by_it x owes g owed debts sum next =
        let set : Setting = alone cpus batches cap in
        let may : Allowed set (fold c x) s = record { cpu_is = less; fold_owed = owed } in
        let r : CpuRecord = Record.stepped kind.Fold (word.Shared x) (shared_now x s) (Record.folded x (suc (length (s.folds x))) (s.own x c) (s.cpu c)) in
        step_on set Q s (fold c x) may (next (after set (fold c x) s)
        (moved r s.own (put_counter s.folds x ((c, s.own x c) ∷ s.folds x)) g a owes (kept n f a l o s at (fold c x) may) refl refl debts sum at.own))

    cleared_by_it : (x : Counter) (owes : List Owed) (b : ℕ → ℕ) (d : ℤ) → debt_to x (s.cpu c).debts ≡ ClearDue d
        → without_debt x (s.cpu c).debts ≡ owes
        → ((i : ℕ) → i < cpus → put_counter s.own x (put (s.own x) c (local_left c x s)) (Domain 0) i ≡ pos (b i))
        → Next f b owes → Goes (alone cpus batches cap) Q s
    unfolding Next
    cleared_by_it x owes b d owed debts owns next =
        let set : Setting = alone cpus batches cap in
        let may : Allowed set (clear c x) s = record { cpu_is = less; clear_owed = owed ∙ sym (ap (λ (z : Debt). ClearDue (to_clear z)) owed) } in
        let local : ℤ = local_left c x s in
        let r : CpuRecord = Record.stepped kind.Clear (word.Own x) (own_now x c s) (Record.cleared x (s.cpu c)) in
        step_on set Q s (clear c x) may (next (after set (clear c x) s)
        (moved r (put_counter s.own x (put (s.own x) c local)) s.folds f b owes (kept n f a l o s at (clear c x) may) refl refl debts at.folded owns))

  -- how the list goes on, where at the end other debts of the CPU c stand
  Owing : (n f : ℕ) (a l : ℕ → ℕ) (o : ℕ → List Owed) (c : ℕ) (owes : List Owed) → Type 0
  Owing n f a l o c owes = (m : ℕ → List Owed) (t : State) → At (alone cpus batches cap) n f a l m t → ((i : ℕ) → m i ≡ put o c owes i)
      → Goes (alone cpus batches cap) Q t

  module _ (n f : ℕ) (a l : ℕ → ℕ) (c : ℕ) (less : c < cpus) where
    -- what is owed to the context's counter is paid, and a fold of it made where it is due
    context_cleared : (o : ℕ → List Owed) (s : State) (d : ℤ) → At (alone cpus batches cap) n f a l o s
        → o c ≡ record { counter = Context 0; debt = ClearDue d } ∷ domain_owed → Owing n f a l o c domain_owed → Goes (alone cpus batches cap) Q s
    unfolding Next Owing
    context_cleared o s d at owes next =
        let debts = at.owed c less ∙ owes in
        cleared_by_it n f a l o c less s at (Context 0) domain_owed a d (ap (debt_to (Context 0)) debts) (ap (without_debt (Context 0)) debts) at.own
        (λ t there. next (put o c domain_owed) t there (λ i. refl))

    context_folded : (o : ℕ → List Owed) (s : State) → At (alone cpus batches cap) n f a l o s
        → o c ≡ record { counter = Context 0; debt = FoldDue } ∷ domain_owed → Owing n f a l o c domain_owed → Goes (alone cpus batches cap) Q s
    unfolding Next Owing
    context_folded o s at owes next =
        let debts = at.owed c less ∙ owes in
        let owing : List Owed = record { counter = Context 0; debt = ClearDue (s.own (Context 0) c) } ∷ domain_owed in
        folded_by_it n f a l o c less s at (Context 0) owing f (ap (debt_to (Context 0)) debts)
        (ap (with_debt (Context 0) (ClearDue (s.own (Context 0) c))) debts) at.folded
        (λ t there. context_cleared (put o c owing) t (s.own (Context 0) c) there (put_same o c owing)
        (λ m u here are. next m u here (λ i. are i ∙ put_twice (put o c owing) o c domain_owed (put_other o c owing) i)))

    paid_context : (o : ℕ → List Owed) (s : State) → At (alone cpus batches cap) n f a l o s → o c ≡ both_owed → Owing n f a l o c domain_owed
        → Goes (alone cpus batches cap) Q s
    unfolding Next Owing
    paid_context o s at owes next =
        let debts = at.owed c less ∙ owes in
        let local : ℤ = local_after c (Context 0) s in
        let batch : ℕ = context_batch cpus in
        let due : Bool = eqb (unsigned_abs local) batch in
        let owing : List Owed = Record.debts_added batch (Context 0) local both_owed in
        added_to n f a l o c less s at (Context 0) owing a (ap (debt_to (Context 0)) debts) (ap (Record.debts_added batch (Context 0) local) debts) at.own
        (λ t there. ⊎_elim
        (λ yes. context_folded (put o c owing) t there
        (put_same o c owing ∙ cond-true due (with_debt (Context 0) FoldDue both_owed) (without_debt (Context 0) both_owed) yes)
        (λ m u here are. next m u here (λ i. are i ∙ put_twice (put o c owing) o c domain_owed (put_other o c owing) i)))
        (λ no. next (put o c owing) t there
        (λ i. ap (λ (x : List Owed). put o c x i) (cond-false due (with_debt (Context 0) FoldDue both_owed) (without_debt (Context 0) both_owed) no)))
        (cases_Bool due))

  -- what the CPU c owes to the domain's counter when its own number has come to k: a fold, where that is a batch
  abbrev pub owed_at : (k : ℕ) → List Owed
  owed_at k = cond (eqb k (domain_batch cpus)) fold_owed []

  module _ (n f : ℕ) (a l : ℕ → ℕ) (o : ℕ → List Owed) (c : ℕ) (less : c < cpus) (s : State) (at : At (alone cpus batches cap) n f a l o s) where
    paid_domain : o c ≡ domain_owed
        → ((t : State) → At (alone cpus batches cap) n f (put a c (a c + 1)) l (put o c (owed_at (a c + 1))) t → Goes (alone cpus batches cap) Q t)
        → Goes (alone cpus batches cap) Q s
    unfolding Next
    paid_domain owes next =
        let debts = at.owed c less ∙ owes in
        let owns = at.own c less in
        let owed = ap (debt_to (Domain 0)) debts in
        let local : local_after c (Domain 0) s ≡ pos (a c + 1) =
        ap (λ (z : ℤ). s.own (Domain 0) c +ℤ z) (ap amount owed) ∙ ap (λ (z : ℤ). z +ℤ pos 1) owns ∙ omega (arith, ints) in
        added_to n f a l o c less s at (Domain 0) (owed_at (a c + 1)) (put a c (a c + 1)) owed
        (ap (λ (z : ℤ). Record.debts_added (domain_batch cpus) (Domain 0) z (s.cpu c).debts) local
        ∙ ap (Record.debts_added (domain_batch cpus) (Domain 0) (pos (a c + 1))) debts)
        (λ i fits. put_each (s.own (Domain 0)) c (local_after c (Domain 0) s) (λ j z. j < cpus → z ≡ pos (put a c (a c + 1) j))
        (λ within. local ∙ ap pos (sym (put_same a c (a c + 1)))) (λ j other within. at.own j within ∙ ap pos (sym (put_other a c (a c + 1) j other))) i fits)
        next

    -- its own number is folded, and cleared
    domain_cleared : (k : ℕ) → a c ≡ k → o c ≡ record { counter = Domain 0; debt = ClearDue (pos k) } ∷ []
        → ((t : State) → At (alone cpus batches cap) n f (put a c 0) l (put o c []) t → Goes (alone cpus batches cap) Q t)
        → Goes (alone cpus batches cap) Q s
    unfolding Next
    domain_cleared k same owes next =
        let debts = at.owed c less ∙ owes in
        let owns = at.own c less ∙ ap pos same in
        let owed = ap (debt_to (Domain 0)) debts in
        let local : local_left c (Domain 0) s ≡ pos 0 =
        ap (λ (z : ℤ). s.own (Domain 0) c -ℤ z) (ap to_clear owed) ∙ ap (λ (z : ℤ). z -ℤ pos k) owns ∙ omega (arith, ints) in
        cleared_by_it n f a l o c less s at (Domain 0) [] (put a c 0) (pos k) owed (ap (without_debt (Domain 0)) debts)
        (λ i fits. put_each (s.own (Domain 0)) c (local_left c (Domain 0) s) (λ j z. j < cpus → z ≡ pos (put a c 0 j))
        (λ within. local ∙ ap pos (sym (put_same a c 0))) (λ j other within. at.own j within ∙ ap pos (sym (put_other a c 0 j other))) i fits)
        next

  pub flushed : (n f : ℕ) (a l : ℕ → ℕ) (o : ℕ → List Owed) (c : ℕ) → c < cpus → (s : State) → At (alone cpus batches cap) n f a l o s → o c ≡ fold_owed
      → ((m : ℕ → List Owed) (t : State) → At (alone cpus batches cap) n (a c + f) (put a c 0) l m t → ((i : ℕ) → m i ≡ put o c [] i) → Goes (alone cpus batches cap) Q t)
      → Goes (alone cpus batches cap) Q s
  unfolding Next
  flushed n f a l o c less s at owes next =
      let debts = at.owed c less ∙ owes in
      let owns = at.own c less in
      let owing : List Owed = record { counter = Domain 0; debt = ClearDue (pos (a c)) } ∷ [] in
      folded_by_it n f a l o c less s at (Domain 0) owing (a c + f) (ap (debt_to (Domain 0)) debts)
      (ap (λ (z : ℤ). with_debt (Domain 0) (ClearDue z) (s.cpu c).debts) owns ∙ ap (with_debt (Domain 0) (ClearDue (pos (a c)))) debts)
      (ap (λ (z : ℤ). z +ℤ sum_of (s.folds (Domain 0))) owns ∙ ap (λ (z : ℤ). pos (a c) +ℤ z) at.folded ∙ omega (arith, ints))
      (λ t there. domain_cleared n (a c + f) a l (put o c owing) c less t there (a c) refl (put_same o c owing)
      (λ u here. next (put (put o c owing) c []) u here (λ i. put_twice (put o c owing) o c [] (put_other o c owing) i)))

  -- One page more by the CPU c, whose writer has pages left.
  pub spent : (n f : ℕ) (a l : ℕ → ℕ) (o : ℕ → List Owed) (c : ℕ) → c < cpus → (s : State) → At (alone cpus batches cap) n f a l o s → o c ≡ []
      → 0 < l c → n < all_pages cpus batches cap
      → ((q : ℕ → List Owed) (t : State) → At (alone cpus batches cap) (n + 1) f (put a c (a c + 1)) (put l c (l c - 1)) q t
      → ((i : ℕ) → q i ≡ put o c (owed_at (a c + 1)) i) → Goes (alone cpus batches cap) Q t)
      → Goes (alone cpus batches cap) Q s
  unfolding Owing
  spent n f a l o c less s at none some page next =
      let m : ℕ → ℕ = put l c (l c - 1) in
      dirtied n f a l o c less s at none some page (λ t2 at2.
      paid_context (n + 1) f a m c less (put o c both_owed) t2 at2 (put_same o c both_owed) (λ q t3 at3 are.
      paid_domain (n + 1) f a m q c less t3 at3 (are c ∙ put_same (put o c both_owed) c domain_owed) (λ t4 at4.
      next (put q c (owed_at (a c + 1))) t4 at4 (put_twice q o c (owed_at (a c + 1))
      (λ j other. are j ∙ put_other (put o c both_owed) c domain_owed j other ∙ put_other o c both_owed j other)))))

  -- One page more by the CPU c, whose writer is granted a cap before it.
  pub wrote : (n f : ℕ) (a l : ℕ → ℕ) (o : ℕ → List Owed) (c : ℕ) → c < cpus → (s : State) → At (alone cpus batches cap) n f a l o s → o c ≡ []
      → f ≤ hard_limit cpus batches → n < all_pages cpus batches cap
      → ((m : ℕ → ℕ) (q : ℕ → List Owed) (t : State) → At (alone cpus batches cap) (n + 1) f (put a c (a c + 1)) m q t
      → ((i : ℕ) → q i ≡ put o c (owed_at (a c + 1)) i) → Goes (alone cpus batches cap) Q t)
      → Goes (alone cpus batches cap) Q s
  wrote n f a l o c less s at none low page next =
      let some = is.some_cap in
      let given = put_same l c cap in
      refilled n f a o c less l s at low (λ t1 at1. spent n f a (put l c cap) o c less t1 at1 none (omega arith) page
      (λ q t at2 are. next (put (put l c cap) c (put l c cap c - 1)) q t at2 are))
