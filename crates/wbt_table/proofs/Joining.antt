-- What one seat takes over from another, and what it shows then.
use Rattle.std.proofs.Common.{◌≡◌, ◌≢◌, ℕ, zero, suc, ◌+◌, ◌<◌, ◌≤◌, ◌⊎◌, List, [], ◌∷◌, length, get_or, set, Option, Some, None, sym, refl, ap, ◌∙◌, subst, inl, inr, ⊎_elim, arith, length-set, get_or-set_same, get_or-set_other}
use mathlib.Core.Option.{some, some-injective, some-ne-none}
use mathlib.Core.Logic.{dite}
use native.Mathlib.Decide.{ℕ_discrete}
use lib.ListN.{get_elem?}
use Rattle.wbt_table.proofs.Common.{CpuRecord, TimerRecord, setting, Cpus, Has, Sat, or_else, merged, both_of, TableId, States, Knows, Agrees, with_grant, with_grants, KeepsLefts, KeepsTimer, IsSeat, seated}
use Rattle.wbt_table.specs.declared.layout.Layout.{Layout}
use Rattle.wbt_table.specs.declared.state.CpuState.{CpuState}
use Rattle.wbt_table.specs.Calls.{joined_seat}
use Rattle.wbt_table.proofs.Lists.{at_less, at_read}
use Rattle.wbt_table.proofs.Seating.{none_some, known_at, shown_at}

-- the first n places of a list follow those of another
module _ {X Y : Type 0} (f : X → Y → Y) where
  abbrev pub followed : (n : ℕ) (xs : List X) (ys : List Y) → List Y
  followed zero xs ys = ys
  followed (suc n) [] ys = ys
  followed (suc n) (x ∷ xs) [] = []
  followed (suc n) (x ∷ xs) (y ∷ ys) = f x y ∷ followed n xs ys

  pub length-followed : (n : ℕ) (xs : List X) (ys : List Y) → length (followed n xs ys) ≡ length ys
  length-followed zero xs ys = refl
  length-followed (suc n) [] ys = refl
  length-followed (suc n) (x ∷ xs) [] = refl
  length-followed (suc n) (x ∷ xs) (y ∷ ys) = ap suc (length-followed n xs ys)

  -- a place that isn't among them is as it was
  pub followed_yet : (n : ℕ) (xs : List X) (ys : List Y) (k : ℕ) → n ≤ k → get_elem? (followed n xs ys) k ≡ get_elem? ys k
  followed_yet zero xs ys k l = refl
  followed_yet (suc n) [] ys k l = refl
  followed_yet (suc n) (x ∷ xs) [] k l = refl
  followed_yet (suc n) (x ∷ xs) (y ∷ ys) zero l = absurd (omega arith)
  followed_yet (suc n) (x ∷ xs) (y ∷ ys) (suc k) l = followed_yet n xs ys k (omega arith)

  follows_next : (n : ℕ) (xs : List X) (ys : List Y) (x : X) (y : Y) → get_elem? xs n ≡ some x → get_elem? ys n ≡ some y
      → set (followed n xs ys) n (f x y) ≡ followed (suc n) xs ys
  follows_next n [] ys x y here there = absurd (some-ne-none x (sym here))
  follows_next n (u ∷ xs) [] x y here there = absurd (some-ne-none y (sym there))
  follows_next zero (u ∷ xs) (v ∷ ys) x y here there = λ i. f (some-injective x u (sym here) i) (some-injective y v (sym there) i) ∷ ys
  follows_next (suc n) (u ∷ xs) (v ∷ ys) x y here there = ap (λ (l : List Y). f u v ∷ l) (follows_next n xs ys x y here there)

  follows_same : (n : ℕ) (xs : List X) (ys : List Y) (x : X) → get_elem? xs n ≡ some x → ((y : Y) → f x y ≡ y) → followed (suc n) xs ys ≡ followed n xs ys
  follows_same n [] ys x here same = absurd (some-ne-none x (sym here))
  follows_same zero (u ∷ xs) [] x here same = refl
  follows_same (suc n) (u ∷ xs) [] x here same = refl
  follows_same zero (u ∷ xs) (v ∷ ys) x here same = λ i. (ap (λ (z : X). f z v) (some-injective u x here) ∙ same v) i ∷ ys
  follows_same (suc n) (u ∷ xs) (v ∷ ys) x here same = ap (λ (l : List Y). f u v ∷ l) (follows_same n xs ys x here same)

  pub one_follows : (n : ℕ) (xs : List X) (ys : List Y) (x : X) (y : Y) → get_elem? xs n ≡ some x → get_elem? ys n ≡ some y
      → set (followed n xs ys) n (f x y) ≡ followed (n + 1) xs ys
  one_follows n xs ys x y here there = let next : suc n ≡ n + 1 = omega arith in follows_next n xs ys x y here there ∙ ap (λ (m : ℕ). followed m xs ys) next

  pub none_follows : (n : ℕ) (xs : List X) (ys : List Y) (x : X) → get_elem? xs n ≡ some x → ((y : Y) → f x y ≡ y) → followed n xs ys ≡ followed (n + 1) xs ys
  none_follows n xs ys x here same = let next : suc n ≡ n + 1 = omega arith in sym (follows_same n xs ys x here same) ∙ ap (λ (m : ℕ). followed m xs ys) next

-- a list has something at each place before its end
pub there : {A : Type 0} (l : List A) (k : ℕ) → k < length l → (a : A) × (get_elem? l k ≡ some a)
there [] k less = absurd (omega arith)
there (x ∷ xs) zero less = (x, refl)
there (x ∷ xs) (suc k) less = there xs k (omega arith)

module _ {A : Type 0} where
  -- what is taken over from y to x
  abbrev pub taking : (y x : Option A) → Option A
  taking y x = or_else x y

  pub length-merged : (xs ys : List (Option A)) → length (merged xs ys) ≡ length xs
  length-merged [] ys = refl
  length-merged (x ∷ xs) [] = refl
  length-merged (x ∷ xs) (y ∷ ys) = ap suc (length-merged xs ys)

  pub all_taken : (xs ys : List (Option A)) (n : ℕ) → length xs ≡ length ys → length ys ≤ n → followed taking n ys xs ≡ merged xs ys
  all_taken [] [] zero same long = refl
  all_taken [] [] (suc n) same long = refl
  all_taken [] (y ∷ ys) n same long = absurd (omega arith)
  all_taken (x ∷ xs) [] n same long = absurd (omega arith)
  all_taken (x ∷ xs) (y ∷ ys) zero same long = absurd (omega arith)
  all_taken (x ∷ xs) (y ∷ ys) (suc n) same long = ap (λ (l : List (Option A)). or_else x y ∷ l) (all_taken xs ys n (omega arith) (omega arith))

  pub merged_there : (xs ys : List (Option A)) (k : ℕ) (s : A) → length xs ≡ length ys → get_elem? ys k ≡ some (Some s) → get_elem? (merged xs ys) k ≡ some (Some s)
  merged_there xs [] k s same e = absurd (some-ne-none (Some s) (sym e))
  merged_there [] (y ∷ ys) k s same e = absurd (omega arith)
  merged_there (x ∷ xs) (y ∷ ys) zero s same e = ap (λ (z : Option A). some (or_else x z)) (some-injective y (Some s) e)
  merged_there (x ∷ xs) (y ∷ ys) (suc k) s same e = merged_there xs ys k s (omega arith) e

  pub merged_else : (xs ys : List (Option A)) (k : ℕ) → get_elem? ys k ≡ some None → get_elem? (merged xs ys) k ≡ get_elem? xs k
  merged_else [] ys k e = refl
  merged_else (x ∷ xs) [] k e = absurd (some-ne-none None (sym e))
  merged_else (x ∷ xs) (y ∷ ys) zero e = ap (λ (z : Option A). some (or_else x z)) (some-injective y None e)
  merged_else (x ∷ xs) (y ∷ ys) (suc k) e = merged_else xs ys k e

  first_cases : (x y : Option A) (s : A) → or_else x y ≡ Some s → (y ≡ Some s) ⊎ ((y ≡ None) × (x ≡ Some s))
  first_cases x (Some t) s e = inl e
  first_cases x None s e = inr (refl, e)

  pub merged_cases : (xs ys : List (Option A)) (k : ℕ) (s : A) → length xs ≡ length ys → get_elem? (merged xs ys) k ≡ some (Some s)
      → (get_elem? ys k ≡ some (Some s)) ⊎ ((get_elem? ys k ≡ some None) × (get_elem? xs k ≡ some (Some s)))
  merged_cases [] ys k s same e = absurd (some-ne-none (Some s) (sym e))
  merged_cases (x ∷ xs) [] k s same e = absurd (omega arith)
  merged_cases (x ∷ xs) (y ∷ ys) zero s same e = ⊎_elim (λ h. inl (ap some h)) (λ t. inr (ap some t.0, ap some t.1)) (first_cases x y s (some-injective (or_else x y) (Some s) e))
  merged_cases (x ∷ xs) (y ∷ ys) (suc k) s same e = merged_cases xs ys k s (omega arith) e

pub either_is : {A : Type 0} (x : Option A) → (x ≡ None) ⊎ ((s : A) × (x ≡ Some s))
either_is None = inl refl
either_is (Some s) = inr (s, refl)

-- the first of two lists has nothing where the second has nothing
module _ {A B : Type 0} where
  pub none_there : (xs : List (Option A)) (ys : List (Option B)) (k : ℕ) → length xs ≡ length ys
      → ((s : A) → get_elem? xs k ≡ some (Some s) → (q : B) × (get_elem? ys k ≡ some (Some q))) → get_elem? ys k ≡ some None → get_elem? xs k ≡ some None
  none_there xs ys k same known e = let less = at_less ys k None e in let t = there xs k (omega arith) in ⊎_elim
      (λ h. t.1 ∙ ap some h)
      (λ h. let q = known h.0 (t.1 ∙ ap some h.1) in absurd (none_some q.0 (some-injective None (Some q.0) (sym e ∙ q.1))))
      (either_is t.0)

shown_first : (x y : Option CpuState) (u v : Option CpuRecord) → ((q : CpuRecord) → v ≡ Some q → (s : CpuState) × (y ≡ Some s))
    → ((s : CpuState) → y ≡ Some s → (q : CpuRecord) × (v ≡ Some q)) → with_grant (or_else x y) (or_else u v) ≡ or_else (with_grant x u) (with_grant y v)
shown_first x None u None kept known = refl
shown_first x None u (Some q) kept known = let t = kept q refl in absurd (none_some t.0 t.1)
shown_first x (Some s) u None kept known = let t = known s refl in absurd (none_some t.0 t.1)
shown_first x (Some s) u (Some q) kept known = refl

-- a joined seat shows what both showed
pub shown_joined : (xs ys : States) (us vs : Cpus) → length xs ≡ length ys → length us ≡ length xs → length vs ≡ length ys
    → ((d : ℕ) (q : CpuRecord) → Has vs d q → (s : CpuState) × Knows ys d s) → ((d : ℕ) (s : CpuState) → Knows ys d s → (q : CpuRecord) × Has vs d q)
    → with_grants (merged xs ys) (merged us vs) ≡ merged (with_grants xs us) (with_grants ys vs)
shown_joined [] [] [] [] a b c kept known = refl
shown_joined [] [] [] (v ∷ vs) a b c kept known = absurd (omega arith)
shown_joined [] [] (u ∷ us) vs a b c kept known = absurd (omega arith)
shown_joined [] (y ∷ ys) us vs a b c kept known = absurd (omega arith)
shown_joined (x ∷ xs) [] us vs a b c kept known = absurd (omega arith)
shown_joined (x ∷ xs) (y ∷ ys) [] vs a b c kept known = absurd (omega arith)
shown_joined (x ∷ xs) (y ∷ ys) (u ∷ us) [] a b c kept known = absurd (omega arith)
shown_joined (x ∷ xs) (y ∷ ys) (u ∷ us) (v ∷ vs) a b c kept known =
    let first = shown_first x y u v
    (λ q e. let t = kept 0 q (ap some e) in (t.0, some-injective y (Some t.0) t.1))
    (λ s e. let t = known 0 s (ap some e) in (t.0, some-injective v (Some t.0) t.1)) in
    let rest = shown_joined xs ys us vs (omega arith) (omega arith) (omega arith) (λ d q h. kept (suc d) q h) (λ d s h. known (suc d) s h) in
    λ i. first i ∷ rest i

pub length-shown : (xs : States) (ys : Cpus) → length ys ≡ length xs → length (with_grants xs ys) ≡ length ys
length-shown [] ys same = refl
length-shown (x ∷ xs) [] same = refl
length-shown (x ∷ xs) (y ∷ ys) same = ap suc (length-shown xs ys (omega arith))

-- the first i writers have what they are to have: those of the CPUs that are taken over what `from` says
pub record TakenTo (key : Layout) (i : ℕ) (states : States) (first from now : List ℕ) : Type 0 where
  pub long : length now ≡ length first
  pub taken : (w : ℕ) → w < i → (s : CpuState) → get_or states ((setting key).seat w) None ≡ Some s → get_or now w 0 ≡ get_or from w 0
  pub others : (w : ℕ) → w < i → get_or states ((setting key).seat w) None ≡ None → get_or now w 0 ≡ get_or first w 0
  pub rest : (w : ℕ) → i ≤ w → get_or now w 0 ≡ get_or first w 0

module _ (key : Layout) (states : States) (first from : List ℕ) where
  pub none_taken : TakenTo key 0 states first from first
  none_taken = record {
    long = refl;
    taken = λ w less s e. absurd (omega arith);
    others = λ w less e. absurd (omega arith);
    rest = λ w more. refl;
  }

  one_more : (P : ℕ → Type 0) (i k : ℕ) → ((j : ℕ) → j < i → P j) → P i → k < suc i → P k
  one_more P i k below here h = dite (ℕ_discrete k i) (λ e. subst P (sym e) here) (λ n. below k (omega arith))

  pub takes_one : (i : ℕ) (now : List ℕ) (s : CpuState) → i < length first → get_or states ((setting key).seat i) None ≡ Some s
      → TakenTo key i states first from now → TakenTo key (suc i) states first from (set now i (get_or from i 0))
  takes_one i now s less is t = let long = t.long in let now' : List ℕ = set now i (get_or from i 0) in
      let here : get_or now' i 0 ≡ get_or from i 0 = get_or-set_same now i (get_or from i 0) 0 (omega arith) in
      let else_ : (w : ℕ) → w ≢ i → get_or now' w 0 ≡ get_or now w 0 = λ w ne. get_or-set_other now i w (get_or from i 0) 0 ne in record {
        long = length-set now i (get_or from i 0) ∙ t.long;
        taken = λ w l. one_more (λ v. (s : CpuState) → get_or states ((setting key).seat v) None ≡ Some s → get_or now' v 0 ≡ get_or from v 0) i w
            (λ v m s e. else_ v (λ q. omega arith) ∙ t.taken v m s e) (λ s e. here) l;
        others = λ w l. one_more (λ v. get_or states ((setting key).seat v) None ≡ None → get_or now' v 0 ≡ get_or first v 0) i w
            (λ v m e. else_ v (λ q. omega arith) ∙ t.others v m e) (λ e. absurd (none_some s (sym e ∙ is))) l;
        rest = λ w l. else_ w (λ q. omega arith) ∙ t.rest w (omega arith);
      }

  pub passes_one : (i : ℕ) (now : List ℕ) → get_or states ((setting key).seat i) None ≡ None → TakenTo key i states first from now → TakenTo key (suc i) states first from now
  passes_one i now is t = record {
    long = t.long;
    taken = λ w l. one_more (λ v. (s : CpuState) → get_or states ((setting key).seat v) None ≡ Some s → get_or now v 0 ≡ get_or from v 0) i w
        t.taken (λ s e. absurd (none_some s (sym is ∙ e))) l;
    others = λ w l. one_more (λ v. get_or states ((setting key).seat v) None ≡ None → get_or now v 0 ≡ get_or first v 0) i w t.others (λ e. t.rest i (omega arith)) l;
    rest = λ w l. t.rest w (omega arith);
  }

-- the same for all of them
pub record Taken (key : Layout) (states : States) (first from now : List ℕ) : Type 0 where
  pub long : length now ≡ length first
  pub taken : (w : ℕ) → w < length key.writers → (s : CpuState) → get_or states ((setting key).seat w) None ≡ Some s → get_or now w 0 ≡ get_or from w 0
  pub others : (w : ℕ) → w < length key.writers → get_or states ((setting key).seat w) None ≡ None → get_or now w 0 ≡ get_or first w 0

timer_joined : (x y : Option ℕ) (u v : Option TimerRecord) → KeepsTimer x u → KeepsTimer y v → KeepsTimer (or_else x y) (or_else u v)
timer_joined x None u None p q = p
timer_joined x None u (Some r) p q = absurd q
timer_joined x (Some n) u None p q = absurd q
timer_joined x (Some n) u (Some r) p q = q

module _ (key : Layout) (me me' : Sat) (xs ys : States) (lefts from now : List ℕ) (timer timer' : Option ℕ) (at : me.0.layout ≡ key) (at' : me'.0.layout ≡ key)
    (a : IsSeat me xs lefts timer) (b : IsSeat me' ys from timer') where
  agrees : Agrees key xs me.0.cpus
  agrees = subst (λ (k : Layout). Agrees k xs me.0.cpus) at a.agrees

  agrees' : Agrees key ys me'.0.cpus
  agrees' = subst (λ (k : Layout). Agrees k ys me'.0.cpus) at' b.agrees

  same_states : length xs ≡ length ys
  same_states = agrees.long ∙ sym agrees'.long

  same_cpus : length me.0.cpus ≡ length me'.0.cpus
  same_cpus = agrees.as_long ∙ same_states ∙ sym agrees'.as_long

  pub shown_both : with_grants (merged xs ys) (merged me.0.cpus me'.0.cpus) ≡ merged (with_grants xs me.0.cpus) (with_grants ys me'.0.cpus)
  shown_both = shown_joined xs ys me.0.cpus me'.0.cpus same_states agrees.as_long agrees'.as_long (λ d q h. let t = agrees'.kept d q h in (t.0, t.1)) agrees'.known

  same_shown : length (with_grants xs me.0.cpus) ≡ length (with_grants ys me'.0.cpus)
  same_shown = length-shown xs me.0.cpus agrees.as_long ∙ same_cpus ∙ sym (length-shown ys me'.0.cpus agrees'.as_long)

  agrees_both : Agrees key (merged xs ys) (merged me.0.cpus me'.0.cpus)
  agrees_both = record {
    long = length-merged xs ys ∙ agrees.long;
    as_long = length-merged me.0.cpus me'.0.cpus ∙ agrees.as_long ∙ sym (length-merged xs ys);
    kept = λ c r has. ⊎_elim
        (λ h. let t = agrees'.kept c r h in (t.0, merged_there xs ys c t.0 same_states t.1, t.2))
        (λ h. let t = agrees.kept c r h.1 in let none = none_there ys me'.0.cpus c (sym agrees'.as_long) (λ s e. agrees'.known c s e) h.0 in
        (t.0, merged_else xs ys c none ∙ t.1, t.2))
        (merged_cases me.0.cpus me'.0.cpus c r same_cpus has);
    known = λ c s knows. ⊎_elim
        (λ h. let t = agrees'.known c s h in (t.0, merged_there me.0.cpus me'.0.cpus c t.0 same_cpus t.1))
        (λ h. let t = agrees.known c s h.1 in
        let none = none_there me'.0.cpus ys c agrees'.as_long (λ q e. let k = agrees'.kept c q e in (k.0, k.1)) h.0 in
        (t.0, merged_else me.0.cpus me'.0.cpus c none ∙ t.1))
        (merged_cases xs ys c s same_states knows);
  }

  -- and keeps what it shows
  pub seat_joined : Taken key ys lefts from now → IsSeat (both_of me.0 me'.0, []) (merged xs ys) now (or_else timer timer')
  seat_joined t = record {
    slots = refl;
    agrees = subst (λ (k : Layout). Agrees k (merged xs ys) (merged me.0.cpus me'.0.cpus)) (sym at) agrees_both;
    keeps_timer = timer_joined timer timer' me.0.timer me'.0.timer a.keeps_timer b.keeps_timer;
    keeps_lefts = subst (λ (z : Layout × Cpus). KeepsLefts z.0 now z.1) (λ i. (sym at i, sym shown_both i)) (record {
      long = t.long ∙ subst (λ (k : Layout). length lefts ≡ length k.writers) at a.keeps_lefts.long;
      each = λ w r less has. let d : ℕ = (setting key).seat w in
          let mine = subst (λ (k : Layout). KeepsLefts k lefts (with_grants xs me.0.cpus)) at a.keeps_lefts in
          let theirs = subst (λ (k : Layout). KeepsLefts k from (with_grants ys me'.0.cpus)) at' b.keeps_lefts in ⊎_elim
          (λ h. let k = known_at ys me'.0.cpus d r (λ e q g. let u = agrees'.kept e q g in (u.0, u.1)) h in
          t.taken w less k.state (at_read ys d (Some k.state) k.knows None) ∙ theirs.each w r less h)
          (λ h. let none = none_there ys (with_grants ys me'.0.cpus) d (sym (length-shown ys me'.0.cpus agrees'.as_long ∙ agrees'.as_long))
          (λ s e. let q = agrees'.known d s e in (_, shown_at ys me'.0.cpus d s q.0 e q.1)) h.0 in
          t.others w less (at_read ys d None none None) ∙ mine.each w r less h.1)
          (merged_cases (with_grants xs me.0.cpus) (with_grants ys me'.0.cpus) d r same_shown has);
    });
  }

  pub seen_joined : (table table' : TableId) → seated table (both_of me.0 me'.0, []) (merged xs ys) ≡ joined_seat (seated table me xs) (seated table' me' ys)
  seen_joined table table' = λ i. record { table = table; layout = me.0.layout; cpus = shown_both i; timer = or_else me.0.timer me'.0.timer; logs = merged me.0.logs me'.0.logs; timer_log = or_else me.0.timer_log me'.0.timer_log }
