-- The moves again and again: rounds of one CPU up to the hard limit, then a batch that each CPU holds, a grant to each writer, and the caps.
use Rattle.std.proofs.Common.{◌≡◌, ◌≢◌, ℕ, zero, suc, ◌+◌, ◌-◌, ◌*◌, ◌<◌, ◌≤◌, eqb, List, [], sym, refl, ap, ◌∙◌, subst, arith, eq-eqb, ne_eqb, suc-mul}
use mathlib.Core.Logic.{dite}
use native.Mathlib.Decide.{ℕ_discrete}
use Rattle.std.proofs.lemmas.Bool.{cond-true, cond-false}
use Rattle.wbt_counter.specs.declared.record.Owed.{Owed}
use Rattle.wbt_counter.specs.Batch.{domain_batch}
use Rattle.wbt_counter.specs.Sums.{put}
use Rattle.wbt_counter.proofs.Sums.{put_same, put_other}
use Rattle.wbt_grant.specs.State.{State}
use Rattle.wbt_attained.specs.Alone.{alone, hard_limit, all_pages, IsAlone}
use Rattle.wbt_attained.proofs.At.{Goes, At}
use Rattle.wbt_attained.proofs.Moves.{fold_owed, owed_at, refilled, flushed, spent, wrote}

module _ (cpus batches cap : ℕ) (is : IsAlone cpus batches cap) (Q : State → Type 0) where
  batch : ℕ
  batch = domain_batch cpus

  -- two functions differ at c alone
  Elsewhere : {A : Type 0} (c : ℕ) (old new : ℕ → A) → Type 0
  Elsewhere c old new = (i : ℕ) → i ≢ c → new i ≡ old i

  nothing_owed : (k : ℕ) → k < domain_batch cpus → owed_at cpus batches cap is Q k ≡ []
  nothing_owed k less = cond-false (eqb k (domain_batch cpus)) fold_owed [] (ne_eqb k (domain_batch cpus) (λ e. omega (arith, e, less)))

  all_owed : owed_at cpus batches cap is Q (domain_batch cpus) ≡ fold_owed
  all_owed = cond-true (eqb (domain_batch cpus) (domain_batch cpus)) fold_owed [] (eq-eqb (domain_batch cpus) (domain_batch cpus) refl)

  -- what the list goes on from: so many pages, and what the CPU c has and owes
  Further : (n f x : ℕ) (c : ℕ) (a : ℕ → ℕ) (o : ℕ → List Owed) (owes : List Owed) → Type 0
  Further n f x c a o owes = (b m : ℕ → ℕ) (q : ℕ → List Owed) (t : State) → At (alone cpus batches cap) n f b m q t → b c ≡ x → q c ≡ owes
      → Elsewhere c a b → Elsewhere c o q → Goes (alone cpus batches cap) Q t

  -- k pages by the CPU c, up to its batch
  writes : (f c : ℕ) → c < cpus → f ≤ hard_limit cpus batches → (k n x : ℕ) (a l : ℕ → ℕ) (o : ℕ → List Owed) (s : State)
      → At (alone cpus batches cap) n f a l o s → a c ≡ x → o c ≡ owed_at cpus batches cap is Q x → x + k ≤ domain_batch cpus
      → n + k ≤ all_pages cpus batches cap → Further (n + k) f (x + k) c a o (owed_at cpus batches cap is Q (x + k)) → Goes (alone cpus batches cap) Q s
  unfolding Further Elsewhere
  writes f c less low zero n x a l o s at own owes few pages next =
      let same_n : n ≡ n + 0 = omega arith in
      let same_x : x ≡ x + 0 = omega arith in
      next a l o s (subst (λ (k : ℕ). At (alone cpus batches cap) k f a l o s) same_n at) (own ∙ same_x) (owes ∙ ap (owed_at cpus batches cap is Q) same_x)
      (λ i other. refl) (λ i other. refl)
  writes f c less low (suc k) n x a l o s at own owes few pages next =
      let next_x : a c + 1 ≡ x + 1 = omega arith in
      let n_on : (n + 1) + k ≡ n + suc k = omega arith in
      let x_on : (x + 1) + k ≡ x + suc k = omega arith in
      wrote cpus batches cap is Q n f a l o c less s at (owes ∙ nothing_owed x (omega arith)) low (omega arith)
      (λ m q t there are. writes f c less low k (n + 1) (x + 1) (put a c (a c + 1)) m q t there (put_same a c (a c + 1) ∙ next_x)
      (are c ∙ put_same o c (owed_at cpus batches cap is Q (a c + 1)) ∙ ap (owed_at cpus batches cap is Q) next_x) (omega arith) (omega arith)
      (λ b m2 q2 u here owns owing others more.
      next b m2 q2 u (subst (λ (j : ℕ). At (alone cpus batches cap) j f b m2 q2 u) n_on here) (owns ∙ x_on) (owing ∙ ap (owed_at cpus batches cap is Q) x_on)
      (λ i other. others i other ∙ put_other a c (a c + 1) i other)
      (λ i other. more i other ∙ are i ∙ put_other o c (owed_at cpus batches cap is Q (a c + 1)) i other)))

  -- a batch by the CPU c
  whole_batch : (f c : ℕ) → c < cpus → f ≤ hard_limit cpus batches → (n : ℕ) (a l : ℕ → ℕ) (o : ℕ → List Owed) (s : State)
      → At (alone cpus batches cap) n f a l o s → a c ≡ 0 → o c ≡ [] → 0 < domain_batch cpus → n + domain_batch cpus ≤ all_pages cpus batches cap
      → Further (n + domain_batch cpus) f (domain_batch cpus) c a o fold_owed → Goes (alone cpus batches cap) Q s
  unfolding Further Elsewhere
  whole_batch f c less low n a l o s at own owes some pages next =
      let whole : 0 + domain_batch cpus ≡ domain_batch cpus = omega arith in
      writes f c less low (domain_batch cpus) n 0 a l o s at own (owes ∙ sym (nothing_owed 0 some)) (omega arith) pages
      (λ b m q t there owns owing others more. next b m q t there (owns ∙ whole) (owing ∙ ap (owed_at cpus batches cap is Q) whole ∙ all_owed) others more)

  -- j batches by the CPU c, each folded, so that all of them can be read
  rounds : (c : ℕ) → c < cpus → 0 < domain_batch cpus → (j n f : ℕ) (a l : ℕ → ℕ) (o : ℕ → List Owed) (s : State)
      → At (alone cpus batches cap) n f a l o s → a c ≡ 0 → o c ≡ [] → f + j * domain_batch cpus ≤ hard_limit cpus batches
      → n + j * domain_batch cpus ≤ all_pages cpus batches cap
      → Further (n + j * domain_batch cpus) (f + j * domain_batch cpus) 0 c a o [] → Goes (alone cpus batches cap) Q s
  unfolding Further Elsewhere
  rounds c less some zero n f a l o s at own owes low pages next =
      let same_n : n ≡ n + 0 * domain_batch cpus = omega arith in
      let same_f : f ≡ f + 0 * domain_batch cpus = omega arith in
      next a l o s (subst (λ (k : ℕ). At (alone cpus batches cap) k (f + 0 * domain_batch cpus) a l o s) same_n
      (subst (λ (k : ℕ). At (alone cpus batches cap) n k a l o s) same_f at)) own owes (λ i other. refl) (λ i other. refl)
  rounds c less some (suc j) n f a l o s at own owes low pages next =
      let d : ℕ = domain_batch cpus in
      let more : suc j * d ≡ j * d + d = suc-mul j d in
      let n_on : (n + d) + j * d ≡ n + suc j * d = omega arith in
      whole_batch f c less (omega arith) n a l o s at own owes some (omega arith)
      (λ b m q t there owns owing others others_owe.
      let folds : b c + f ≡ d + f = omega arith in
      let f_on : (b c + f) + j * d ≡ f + suc j * d = omega arith in
      flushed cpus batches cap is Q (n + d) f b m q c less t there owing (λ q2 u here are.
      rounds c less some j (n + d) (b c + f) (put b c 0) m q2 u here (put_same b c 0) (are c ∙ put_same q c []) (omega arith) (omega arith)
      (λ b3 m3 q3 v last owns3 owing3 others3 owe3.
      next b3 m3 q3 v (subst (λ (k : ℕ). At (alone cpus batches cap) k (f + suc j * d) b3 m3 q3 v) n_on
      (subst (λ (k : ℕ). At (alone cpus batches cap) ((n + d) + j * d) k b3 m3 q3 v) f_on last)) owns3 owing3
      (λ i other. others3 i other ∙ put_other b c 0 i other ∙ others i other)
      (λ i other. owe3 i other ∙ are i ∙ put_other q c [] i other ∙ others_owe i other))))

  -- how the list goes on where each CPU holds a batch, which it has not folded
  Holding : (n f : ℕ) → Type 0
  Holding n f = (b m : ℕ → ℕ) (q : ℕ → List Owed) (t : State) → At (alone cpus batches cap) n f b m q t
      → ((i : ℕ) → i < cpus → (b i ≡ domain_batch cpus) × (q i ≡ fold_owed)) → Goes (alone cpus batches cap) Q t

  -- the CPUs from k on each come to hold one
  holds : (f : ℕ) → f ≤ hard_limit cpus batches → 0 < domain_batch cpus → (r k n : ℕ) → k + r ≡ cpus → (a l : ℕ → ℕ) (o : ℕ → List Owed) (s : State)
      → At (alone cpus batches cap) n f a l o s → ((i : ℕ) → i < k → (a i ≡ domain_batch cpus) × (o i ≡ fold_owed))
      → ((i : ℕ) → k ≤ i → i < cpus → (a i ≡ 0) × (o i ≡ [])) → n + r * domain_batch cpus ≤ all_pages cpus batches cap
      → Holding (n + r * domain_batch cpus) f → Goes (alone cpus batches cap) Q s
  unfolding Holding Further Elsewhere
  holds f low some zero k n all a l o s at hold rest pages next =
      let same_n : n ≡ n + 0 * domain_batch cpus = omega arith in
      next a l o s (subst (λ (j : ℕ). At (alone cpus batches cap) j f a l o s) same_n at) (λ i less. hold i (omega arith))
  holds f low some (suc r) k n all a l o s at hold rest pages next =
      let d : ℕ = domain_batch cpus in
      let less : k < cpus = omega arith in
      let more : suc r * d ≡ r * d + d = suc-mul r d in
      let n_on : (n + d) + r * d ≡ n + suc r * d = omega arith in
      let here = rest k (omega arith) less in
      whole_batch f k less low n a l o s at here.0 here.1 some (omega arith) (λ b m q t there owns owing others owe.
      holds f low some r (suc k) (n + d) (omega (arith, all)) b m q t there
      (λ i before. dite (ℕ_discrete i k)
      (λ e. (subst (λ (j : ℕ). b j ≡ d) (sym e) owns, subst (λ (j : ℕ). q j ≡ fold_owed) (sym e) owing))
      (λ ne. let h : i ≢ k = ne in let was = hold i (omega (arith, before, h)) in (others i ne ∙ was.0, owe i ne ∙ was.1)))
      (λ i later fits. let was = rest i (omega (arith, later)) fits in
      let ne : i ≢ k = λ e. omega (arith, later, e) in (others i ne ∙ was.0, owe i ne ∙ was.1))
      (omega arith)
      (λ b2 m2 q2 u at2 held. next b2 m2 q2 u (subst (λ (j : ℕ). At (alone cpus batches cap) j f b2 m2 q2 u) n_on at2) held))

  -- the writers from k on are each granted a cap
  grants : (f n : ℕ) (a : ℕ → ℕ) (o : ℕ → List Owed) → f ≤ hard_limit cpus batches → (r k : ℕ) → k + r ≡ cpus → (l : ℕ → ℕ) (s : State)
      → At (alone cpus batches cap) n f a l o s → ((i : ℕ) → i < k → l i ≡ cap)
      → ((m : ℕ → ℕ) (t : State) → At (alone cpus batches cap) n f a m o t → ((i : ℕ) → i < cpus → m i ≡ cap) → Goes (alone cpus batches cap) Q t)
      → Goes (alone cpus batches cap) Q s
  grants f n a o low zero k all l s at have next = next l s at (λ i less. have i (omega arith))
  grants f n a o low (suc r) k all l s at have next =
      refilled cpus batches cap is Q n f a o k (omega arith) l s at low (λ t there.
      grants f n a o low r (suc k) (omega (arith, all)) (put l k cap) t there
      (λ i before. dite (ℕ_discrete i k) (λ e. ap (put l k cap) e ∙ put_same l k cap)
      (λ ne. let h : i ≢ k = ne in put_other l k cap i ne ∙ have i (omega (arith, before, h)))) next)

  -- how the list goes on, whatever the CPU c has and owes
  Anyhow : (n : ℕ) (c : ℕ) (a l : ℕ → ℕ) (o : ℕ → List Owed) → Type 0
  Anyhow n c a l o = (g : ℕ) (b m : ℕ → ℕ) (q : ℕ → List Owed) (t : State) → At (alone cpus batches cap) n g b m q t
      → Elsewhere c a b → Elsewhere c l m → Elsewhere c o q → Goes (alone cpus batches cap) Q t

  -- the writer of the CPU c dirties j of the pages that it has left
  uses : (c : ℕ) → c < cpus → (j n f x : ℕ) (a l : ℕ → ℕ) (o : ℕ → List Owed) (s : State) → At (alone cpus batches cap) n f a l o s
      → l c ≡ j → a c ≡ x → x < domain_batch cpus → o c ≡ [] → n + j ≤ all_pages cpus batches cap → Anyhow (n + j) c a l o
      → Goes (alone cpus batches cap) Q s
  unfolding Anyhow Elsewhere
  uses c less zero n f x a l o s at lefts own under owes pages next =
      let same_n : n ≡ n + 0 = omega arith in
      next f a l o s (subst (λ (k : ℕ). At (alone cpus batches cap) k f a l o s) same_n at) (λ i other. refl) (λ i other. refl) (λ i other. refl)
  uses c less (suc j) n f x a l o s at lefts own under owes pages next =
      let d : ℕ = domain_batch cpus in
      let n_on : (n + 1) + j ≡ n + suc j = omega arith in
      let next_x : a c + 1 ≡ x + 1 = omega arith in
      let lower : l c - 1 ≡ j = omega arith in
      spent cpus batches cap is Q n f a l o c less s at owes (omega arith) (omega arith) (λ q t there are.
      let owing : q c ≡ owed_at cpus batches cap is Q (x + 1) = are c ∙ put_same o c (owed_at cpus batches cap is Q (a c + 1)) ∙ ap (owed_at cpus batches cap is Q) next_x in
      let others : Elsewhere c o q = λ i other. are i ∙ put_other o c (owed_at cpus batches cap is Q (a c + 1)) i other in
      dite (ℕ_discrete (x + 1) d)
      (λ e. flushed cpus batches cap is Q (n + 1) f (put a c (a c + 1)) (put l c (l c - 1)) q c less t there
      (owing ∙ ap (owed_at cpus batches cap is Q) e ∙ all_owed) (λ q2 u here are2.
      uses c less j (n + 1) (put a c (a c + 1) c + f) 0 (put (put a c (a c + 1)) c 0) (put l c (l c - 1)) q2 u here
      (put_same l c (l c - 1) ∙ lower) (put_same (put a c (a c + 1)) c 0) (omega (arith, e)) (are2 c ∙ put_same q c []) (omega arith)
      (λ g b m q3 v last ea el eo. next g b m q3 v (subst (λ (k : ℕ). At (alone cpus batches cap) k g b m q3 v) n_on last)
      (λ i other. ea i other ∙ put_other (put a c (a c + 1)) c 0 i other ∙ put_other a c (a c + 1) i other)
      (λ i other. el i other ∙ put_other l c (l c - 1) i other)
      (λ i other. eo i other ∙ are2 i ∙ put_other q c [] i other ∙ others i other))))
      (λ ne. let h : x + 1 ≢ d = ne in
      uses c less j (n + 1) f (x + 1) (put a c (a c + 1)) (put l c (l c - 1)) q t there
      (put_same l c (l c - 1) ∙ lower) (put_same a c (a c + 1) ∙ next_x) (omega (arith, h, under)) (owing ∙ nothing_owed (x + 1) (omega (arith, h, under))) (omega arith)
      (λ g b m q3 v last ea el eo. next g b m q3 v (subst (λ (k : ℕ). At (alone cpus batches cap) k g b m q3 v) n_on last)
      (λ i other. ea i other ∙ put_other a c (a c + 1) i other)
      (λ i other. el i other ∙ put_other l c (l c - 1) i other)
      (λ i other. eo i other ∙ others i other))))

  -- the CPUs from k on each fold what they hold, and their writers dirty a cap
  caps : 0 < domain_batch cpus → (r k n f : ℕ) → k + r ≡ cpus → (a l : ℕ → ℕ) (o : ℕ → List Owed) (s : State) → At (alone cpus batches cap) n f a l o s
      → ((i : ℕ) → k ≤ i → i < cpus → (o i ≡ fold_owed) × (l i ≡ cap)) → n + r * cap ≤ all_pages cpus batches cap
      → ((g : ℕ) (b m : ℕ → ℕ) (q : ℕ → List Owed) (t : State) → At (alone cpus batches cap) (n + r * cap) g b m q t → Goes (alone cpus batches cap) Q t)
      → Goes (alone cpus batches cap) Q s
  unfolding Anyhow Elsewhere
  caps some zero k n f all a l o s at have pages next =
      let same_n : n ≡ n + 0 * cap = omega arith in
      next f a l o s (subst (λ (j : ℕ). At (alone cpus batches cap) j f a l o s) same_n at)
  caps some (suc r) k n f all a l o s at have pages next =
      let less : k < cpus = omega arith in
      let more : suc r * cap ≡ r * cap + cap = suc-mul r cap in
      let n_on : (n + cap) + r * cap ≡ n + suc r * cap = omega arith in
      let here = have k (omega arith) less in
      flushed cpus batches cap is Q n f a l o k less s at here.0 (λ q t there are.
      uses k less cap n (a k + f) 0 (put a k 0) l q t there here.1 (put_same a k 0) some (are k ∙ put_same o k []) (omega arith)
      (λ g b m q2 u at2 ea el eo.
      caps some r (suc k) (n + cap) g (omega (arith, all)) b m q2 u at2
      (λ i later fits. let ne : i ≢ k = λ e. omega (arith, later, e) in let was = have i (omega (arith, later)) fits in
      (eo i ne ∙ are i ∙ put_other o k [] i ne ∙ was.0, el i ne ∙ was.1))
      (omega arith)
      (λ g3 b3 m3 q3 v at3. next g3 b3 m3 q3 v (subst (λ (j : ℕ). At (alone cpus batches cap) j g3 b3 m3 q3 v) n_on at3))))

  -- all of it, from a state without pages
  pub all_of_it : 0 < domain_batch cpus → (l : ℕ → ℕ) (s : State) → At (alone cpus batches cap) 0 0 (λ i. 0) l (λ i. []) s
      → ((g : ℕ) (b m : ℕ → ℕ) (q : ℕ → List Owed) (t : State) → At (alone cpus batches cap) (all_pages cpus batches cap) g b m q t → Goes (alone cpus batches cap) Q t)
      → Goes (alone cpus batches cap) Q s
  unfolding Further Elsewhere Holding
  all_of_it some l s at next =
      let d : ℕ = domain_batch cpus in
      let n1 : 0 + batches * d ≡ hard_limit cpus batches = omega arith in
      rounds 0 is.some_cpu some batches 0 0 (λ i. 0) l (λ i. []) s at refl refl (omega arith) (omega arith) (λ a m o t at1 own owes others owe.
      holds (0 + batches * d) (omega arith) some cpus 0 (0 + batches * d) (omega arith) a m o t at1 (λ i none. absurd (omega (arith, none)))
      (λ i k fits. dite (ℕ_discrete i 0)
      (λ e. (subst (λ (j : ℕ). a j ≡ 0) (sym e) own, subst (λ (j : ℕ). o j ≡ []) (sym e) owes)) (λ ne. (others i ne, owe i ne)))
      (omega arith) (λ a2 m2 o2 t2 at2 held.
      grants (0 + batches * d) ((0 + batches * d) + cpus * d) a2 o2 (omega arith) cpus 0 (omega arith) m2 t2 at2 (λ i none. absurd (omega (arith, none)))
      (λ m3 t3 at3 full.
      caps some cpus 0 ((0 + batches * d) + cpus * d) (0 + batches * d) (omega arith) a2 m3 o2 t3 at3 (λ i k fits. ((held i fits).1, full i fits)) (omega arith)
      (λ g b m4 q t4 at4.
      let whole : ((0 + batches * d) + cpus * d) + cpus * cap ≡ all_pages cpus batches cap = omega arith in
      next g b m4 q t4 (subst (λ (k : ℕ). At (alone cpus batches cap) k g b m4 q t4) whole at4)))))
