-- Pages that are held or wait in batches, and what a page's event owes.
use Rattle.std.proofs.Common.{◌≡◌, ◌≢◌, ℕ, ◌+◌, ◌<◌, Bool, true, false, cond, not, eqb, ℤ, List, [], ◌∷◌, ◌++◌, length, get_or, map, refl, sym, ◌∙◌, ap, subst, arith, eq-eqb, ne_eqb}
use Rattle.std.proofs.Math.ListN.{set}
use Rattle.std.proofs.lemmas.Bool.{cond-true, cond-false}
use Rattle.std.proofs.lemmas.List.{get_or-set_same, get_or-set_other}
use Rattle.std.specs.List.{list_any}
use mathlib.Core.Logic.{dite}
use native.Mathlib.Decide.{ℕ_discrete}
use Rattle.wbt_replay_order.proofs.Common.{Trace, Counter, Owed, without_debt, one_if, total_same, Bits, times_in, CpuRecord, Setting, times_in-append, owed_to, no_flusher, flusher_cpu, group_of, Flusher, Todo, is_decide, Suits, Tidy, Looked, OwesNothing, bared, debts_in, is_closing, batch_on, batched, Found}
use Rattle.wbt_counter.specs.declared.counter.Counter.TheVariants.{Domain as ofDomain, Context as ofContext}
use Rattle.wbt_counter.specs.declared.record.Debt.TheVariants.{Event as OwesEvent}
use Rattle.wbt_counter.proofs.Sums.{total_change}
use Rattle.wbt_book.specs.Ledger.{let_go}
use Rattle.wbt_grant.specs.Setting.{counters_of}
use Rattle.wbt_grant.specs.Record as made
use Rattle.wbt_replay_moves.specs.declared.todo.Step.TheVariants as item
use Rattle.wbt_replay_moves.specs.declared.todo.Todo.TheVariants as todo
use Rattle.wbt_replay_order.proofs.Facts.Lists.{either}

-- ---- letting go

gone_here : (p q : ℕ) (rest : List ℕ) (b : Bool) → (0 < times_in p rest → times_in p (let_go p rest) + 1 ≡ times_in p rest)
    → 0 < one_if b + times_in p rest → (b ≡ false → eqb p q ≡ false)
    → times_in p (cond b rest (q ∷ let_go p rest)) + 1 ≡ one_if b + times_in p rest
gone_here p q rest true more some other = omega arith
gone_here p q rest false more some other =
    let none : one_if (eqb p q) ≡ 0 = ap one_if (other refl) in let fewer = more (omega arith) in omega arith

one_fewer : (p : ℕ) (held : List ℕ) → 0 < times_in p held → times_in p (let_go p held) + 1 ≡ times_in p held
one_fewer p [] some = absurd (omega arith)
one_fewer p (q ∷ rest) some = gone_here p q rest (eqb p q) (one_fewer p rest) some (λ e. e)

others_stay : (p q : ℕ) (held : List ℕ) → q ≢ p → times_in q (let_go p held) ≡ times_in q held
others_stay p q [] n = refl
others_stay p q (x ∷ xs) n = dite (ℕ_discrete p x)
    (λ e. let t : eqb p x ≡ true = eq-eqb p x e in
    let ne : q ≢ x = λ h. n (h ∙ sym e) in
    let none : one_if (eqb q x) ≡ 0 = ap one_if (ne_eqb q x ne) in
    subst (λ (b : Bool). times_in q (cond b xs (x ∷ let_go p xs)) ≡ one_if (eqb q x) + times_in q xs) (sym t) (omega arith))
    (λ e. let t : eqb p x ≡ false = ne_eqb p x e in let more = others_stay p q xs n in
    subst (λ (b : Bool). times_in q (cond b xs (x ∷ let_go p xs)) ≡ one_if (eqb q x) + times_in q xs) (sym t) (omega arith))

pub let_go_one : (p q : ℕ) (held : List ℕ) → 0 < times_in p held → times_in q (let_go p held) + one_if (eqb q p) ≡ times_in q held
let_go_one p q held some = dite (ℕ_discrete q p)
    (λ e. let here : one_if (eqb q p) ≡ 1 = ap one_if (eq-eqb q p e) in
    let fewer : times_in q (let_go p held) + 1 ≡ times_in q held = subst (λ (k : ℕ). times_in k (let_go p held) + 1 ≡ times_in k held) (sym e) (one_fewer p held some) in
    omega arith)
    (λ n. let none : one_if (eqb q p) ≡ 0 = ap one_if (ne_eqb q p n) in let same = others_stay p q held n in omega arith)

pub is_one : (p : ℕ) → one_if (eqb p p) ≡ 1
is_one p = ap one_if (eq-eqb p p refl)

-- ---- batches

module _ (trace : Trace) (flushers : List Flusher) (f : ℕ) (v : Flusher) where
  -- a flusher changes that isn't the CPU's
  pub batched_other : (i j p : ℕ) → flusher_cpu trace f ≡ i → j ≢ i → batched trace j (set flushers f v) p ≡ batched trace j flushers p
  batched_other i j p on other = total_same (length trace.flushers) (batch_on trace j (set flushers f v) p) (batch_on trace j flushers p)
      (λ k less. dite (ℕ_discrete k f)
      (λ e.
      let no : eqb (flusher_cpu trace k) j ≡ false = ne_eqb (flusher_cpu trace k) j (λ q. other (sym q ∙ (ap (flusher_cpu trace) e ∙ on))) in
      cond-false (eqb (flusher_cpu trace k) j) _ 0 no ∙ sym (cond-false (eqb (flusher_cpu trace k) j) _ 0 no))
      (λ n. ap (λ (x : Flusher). cond (eqb (flusher_cpu trace k) j) (times_in p x.batch) 0) (get_or-set_other flushers f k v no_flusher n)))

  -- one of the CPU's does
  pub batched_here : (i p : ℕ) → flusher_cpu trace f ≡ i → f < length trace.flushers → f < length flushers
      → batched trace i (set flushers f v) p + times_in p (get_or flushers f no_flusher).batch ≡ batched trace i flushers p + times_in p v.batch
  batched_here i p on line there =
      let yes : eqb (flusher_cpu trace f) i ≡ true = eq-eqb (flusher_cpu trace f) i on in
      let change = total_change (length trace.flushers) (batch_on trace i (set flushers f v) p) (batch_on trace i flushers p) f line
      (λ k n. ap (λ (x : Flusher). cond (eqb (flusher_cpu trace k) i) (times_in p x.batch) 0) (get_or-set_other flushers f k v no_flusher n)) in
      let old = cond-true (eqb (flusher_cpu trace f) i) (times_in p (get_or flushers f no_flusher).batch) 0 yes in
      let now : batch_on trace i (set flushers f v) p f ≡ times_in p v.batch = cond-true (eqb (flusher_cpu trace f) i) (times_in p (get_or (set flushers f v) f no_flusher).batch) 0 yes ∙
      ap (λ (x : Flusher). times_in p x.batch) (get_or-set_same flushers f v no_flusher there) in
      omega (arith, change, old, now)

  -- its batch stays
  pub batched_same : (i p : ℕ) → f < length flushers → v.batch ≡ (get_or flushers f no_flusher).batch → batched trace i (set flushers f v) p ≡ batched trace i flushers p
  batched_same i p there same = total_same (length trace.flushers) (batch_on trace i (set flushers f v) p) (batch_on trace i flushers p)
      (λ k less. ap (λ (l : List ℕ). cond (eqb (flusher_cpu trace k) i) (times_in p l) 0)
      (dite (ℕ_discrete k f)
      (λ e. ap (λ (m : ℕ). (get_or (set flushers f v) m no_flusher).batch) e ∙ (ap (λ (x : Flusher). x.batch) (get_or-set_same flushers f v no_flusher there) ∙
      (same ∙ ap (λ (m : ℕ). (get_or flushers m no_flusher).batch) (sym e))))
      (λ n. ap (λ (x : Flusher). x.batch) (get_or-set_other flushers f k v no_flusher n))))

-- a page at the end
pub one_more_in : (p q : ℕ) (xs : List ℕ) → times_in q (xs ++ p ∷ []) ≡ times_in q xs + one_if (eqb q p)
one_more_in p q xs = omega (arith, times_in-append q xs (p ∷ []))

pub record SameDeeds (r q : CpuRecord) : Type 0 where
  pub debts : q.debts ≡ r.debts
  pub writers : q.writers ≡ r.writers
  pub held : q.held ≡ r.held
  pub page_steps : q.page_steps ≡ r.page_steps
  pub events : q.events ≡ r.events
  pub folds : q.folds ≡ r.folds
  pub founds : q.found_dirty ≡ r.found_dirty
  pub readings : q.readings ≡ r.readings
  pub triples : q.triples ≡ r.triples

pub looked_kept : (setting : Setting) (p : ℕ) (bits : Bits) (r : CpuRecord) → SameDeeds r (made.looked setting p bits r)
looked_kept setting p bits r = by_bits bits.dirty bits.writeback
  where
    by_bits : (d w : Bool) → SameDeeds r (made.looked setting p (record { dirty = d; writeback = w }) r)
    by_bits true true = record { debts = refl; writers = refl; held = refl; page_steps = refl; events = refl; folds = refl; founds = refl; readings = refl; triples = refl }
    by_bits true false = record { debts = refl; writers = refl; held = refl; page_steps = refl; events = refl; folds = refl; founds = refl; readings = refl; triples = refl }
    by_bits false true = record { debts = refl; writers = refl; held = refl; page_steps = refl; events = refl; folds = refl; founds = refl; readings = refl; triples = refl }
    by_bits false false = record { debts = refl; writers = refl; held = refl; page_steps = refl; events = refl; folds = refl; founds = refl; readings = refl; triples = refl }

-- ---- what a page's event owes

abbrev owes : (a : ℤ) (x : Counter) → Owed
owes a x = record { counter = x; debt = OwesEvent a }

-- the events that are owed, and then these items
abbrev pub owing : (a : ℤ) (k g : ℕ) (after : List Todo) → List Todo
owing a k g after = todo.Step (item.Add (ofContext k) a) ∷ todo.Step (item.Add (ofDomain 0) a) ∷ cond (eqb g 0) after (todo.Step (item.Add (ofDomain g) a) ∷ after)

pub owed_append : (a : ℤ) (k g : ℕ) (last : Todo) (ts : List Todo) → owed_to a k g last ++ ts ≡ owing a k g (last ∷ ts)
owed_append a k g last ts = by_group (eqb g 0)
  where
    context_owed : Todo
    context_owed = todo.Step (item.Add (ofContext k) a)

    domain_owed : ℕ → Todo
    domain_owed d = todo.Step (item.Add (ofDomain d) a)

    by_group : (b : Bool) → cond b (context_owed ∷ domain_owed 0 ∷ last ∷ []) (context_owed ∷ domain_owed 0 ∷ domain_owed g ∷ last ∷ []) ++ ts
        ≡ context_owed ∷ domain_owed 0 ∷ cond b (last ∷ ts) (domain_owed g ∷ last ∷ ts)
    by_group true = refl
    by_group false = refl

-- none of them is a claim
pub owed_looked : (set : Setting) (page : ℕ) (found : Found) (a : ℤ) (k g : ℕ) (last : Todo) (ts : List Todo) (r : CpuRecord) → Looked set page found (owed_to a k g last ++ ts) r
owed_looked set page found a k g last ts r = subst (λ (l : List Todo). Looked set page found l r) (sym (owed_append a k g last ts)) tt

pub owed_decides : (a : ℤ) (k g : ℕ) (after : List Todo) → list_any is_decide (owing a k g after) ≡ list_any is_decide after
owed_decides a k g after = either (λ (l : List Todo). list_any is_decide l ≡ list_any is_decide after) (eqb g 0) after (todo.Step (item.Add (ofDomain g) a) ∷ after) (λ e. refl) (λ e. refl)

pub owed_closes : (a : ℤ) (k g : ℕ) (after : List Todo) → list_any is_closing (owing a k g after) ≡ list_any is_closing after
owed_closes a k g after = either (λ (l : List Todo). list_any is_closing l ≡ list_any is_closing after) (eqb g 0) after (todo.Step (item.Add (ofDomain g) a) ∷ after) (λ e. refl) (λ e. refl)

pub owed_debts : (trace : Trace) (setting : Setting) → Suits trace setting → (p k : ℕ) (a : ℤ) (after : List Todo) → setting.home p ≡ k → debts_in after ≡ []
    → bared (made.debts_of setting p a) ≡ debts_in (owing a k (group_of trace k) after)
owed_debts trace setting suits p k a after home none =
    ap (λ (m : ℕ). bared (map (owes a) (counters_of setting m))) home
    ∙ (ap (λ (g : ℕ). bared (map (owes a) (ofContext k ∷ ofDomain 0 ∷ cond (eqb g 0) [] (ofDomain g ∷ [])))) (suits.group k)
    ∙ by_group (eqb (group_of trace k) 0))
  where
    by_group : (b : Bool) → bared (map (owes a) (ofContext k ∷ ofDomain 0 ∷ cond b [] (ofDomain (group_of trace k) ∷ [])))
        ≡ debts_in (todo.Step (item.Add (ofContext k) a) ∷ todo.Step (item.Add (ofDomain 0) a) ∷ cond b after (todo.Step (item.Add (ofDomain (group_of trace k)) a) ∷ after))
    by_group true = ap (λ (l : List Owed). owes a (ofContext k) ∷ owes a (ofDomain 0) ∷ l) (sym none)
    by_group false = ap (λ (l : List Owed). owes a (ofContext k) ∷ owes a (ofDomain 0) ∷ owes a (ofDomain (group_of trace k)) ∷ l) (sym none)

pub owed_tidy : (a : ℤ) (k g : ℕ) (after : List Todo) → OwesNothing after → Tidy after → Tidy (owing a k g after)
owed_tidy a k g after none tidy = either
    (λ (l : List Todo). Tidy (todo.Step (item.Add (ofContext k) a) ∷ todo.Step (item.Add (ofDomain 0) a) ∷ l)) (eqb g 0) after (todo.Step (item.Add (ofDomain g) a) ∷ after)
    (λ yes. (
      record { debts = ap (λ (l : List Owed). owes a (ofDomain 0) ∷ without_debt (ofContext k) l) none.debts ∙ ap (λ (l : List Owed). owes a (ofDomain 0) ∷ l) (sym none.debts); claims = refl },
      (record { debts = ap (without_debt (ofDomain 0)) none.debts ∙ sym none.debts; claims = none.claims }, tidy),
    ))
    (λ no.
    let away : eqb 0 g ≡ false = ne_eqb 0 g (λ e. absurd (cc (sym no ∙ eq-eqb g 0 (sym e)))) in
    let g_owed : Owed = owes a (ofDomain g) in (
      record {
        debts = ap (λ (l : List Owed). owes a (ofDomain 0) ∷ g_owed ∷ without_debt (ofContext k) l) none.debts
            ∙ ap (λ (l : List Owed). owes a (ofDomain 0) ∷ g_owed ∷ l) (sym none.debts);
        claims = refl;
      },
      (
        record {
          debts = ap (λ (b : Bool). cond (not b) (g_owed ∷ without_debt (ofDomain 0) (debts_in after)) (without_debt (ofDomain 0) (debts_in after))) away
              ∙ (ap (λ (l : List Owed). g_owed ∷ without_debt (ofDomain 0) l) none.debts ∙ ap (λ (l : List Owed). g_owed ∷ l) (sym none.debts));
          claims = refl;
        },
        (record { debts = ap (without_debt (ofDomain g)) none.debts ∙ sym none.debts; claims = none.claims }, tidy),
      ),
    ))
