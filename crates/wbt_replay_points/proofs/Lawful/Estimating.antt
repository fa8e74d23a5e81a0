-- The estimates of a context are told by one CPU, follow one another, and are those that checks name; with one entry more.
use Rattle.std.proofs.Common.{◌⊎◌, inl, inr, ◌≡◌, ◌≢◌, ℕ, zero, suc, ◌+◌, ◌<◌, ◌≤◌, Bool, true, false, ◌||◌, cond, eqb, eqb-true, nat_lt, ltb, List, [], ◌∷◌, ◌++◌, length, get_or, map, flat_map, Some, None, IfSome, refl, sym, ◌∙◌, ap, subst, arith, eq-eqb, ne_eqb, true≢false, length-append, append-nil, ⊎_elim}
use Rattle.std.proofs.Math.ListN.{set}
use Rattle.std.proofs.lemmas.Bool.{cond-true, cond-false}
use Rattle.std.proofs.lemmas.Bool.Decides.{nat_tests}
use Rattle.std.proofs.lemmas.List.{get_or-set_same, get_or-set_other, length-set, map-append}
use mathlib.Core.Logic.{dite}
use native.Mathlib.Decide.{ℕ_discrete}
use Rattle.wbt_replay_order.proofs.Common.{updated, update_of, Estimate, first_estimate, context_at, flusher_cpu, flusher_device, Trace, Each, effect, estimate_in, estimates_of, tells, items_from, Told, Along, CheckEntry, EstEntry, newer, items_told, Walked, Walks, each_weaker, flat_append, joined, walked_more, walks_silent, no_cpu, no_flusher, no_context, Cpu, Flusher, Writeback, opening_moment, is_measured}
use Rattle.wbt_estimate.specs.Estimate.{elapsed_since}
use Rattle.wbt_estimate.specs.declared.estimate.Sample.{Sample}
use Rattle.wbt_published.specs.declared.known.Known.{Known}
use Rattle.wbt_rules.specs.Things.{first_flusher, leads}
use Rattle.wbt_trace.specs.declared.trace.Context.{Context}
use Rattle.wbt_journal.specs.Estimates.{Follows, newest_of, EstimatesFollow, estimates_after, NamesGoOn, names_after}
use Rattle.wbt_journal.specs.Items.{Item}
use Rattle.wbt_journal.specs.Machine.{contexts}
use Rattle.wbt_journal.specs.Told.{estimated as est_told}
use Rattle.wbt_run_laws.specs.Notes.{HasNamed}
use Rattle.wbt_run_laws.proofs.Entering.{others_name_none}
use Rattle.wbt_run_laws.proofs.Walking.{walks_more}
use Rattle.wbt_replay_order.specs.Definition.Opening.{contexts_from, measures_of}
use Rattle.wbt_replay_points.proofs.Lawful.Logs.{IsInOrder}
use Rattle.wbt_replay_points.proofs.Lawful.Same.{told_of}

-- ---- who updates the estimates of a context

-- the CPU of the first flusher of its device
abbrev pub publisher : (trace : Trace) (context : ℕ) → ℕ
publisher trace context = flusher_cpu trace (first_flusher (context_at trace context).device 0 trace.flushers)

abbrev no_line : Context
no_line = record { device = 0; domain = 0; expire = None; estimate = None }

measured_more : (k : ℕ) (xs : List ℕ) (x : ℕ) → is_measured k (xs ++ x ∷ []) ≡ true → (is_measured k xs ≡ true) ⊎ (x ≡ k)
measured_more k [] x is = by (eqb x k) refl is
  where
    by : (b : Bool) → eqb x k ≡ b → (b || false) ≡ true → (is_measured k [] ≡ true) ⊎ (x ≡ k)
    by true at found = inr (eqb-true x k at)
    by false at found = absurd (true≢false (sym found))
measured_more k (y ∷ xs) x is = by (eqb y k) (measured_more k xs x) is
  where
    by : (b : Bool) → (is_measured k (xs ++ x ∷ []) ≡ true → (is_measured k xs ≡ true) ⊎ (x ≡ k)) → (b || is_measured k (xs ++ x ∷ [])) ≡ true → ((b || is_measured k xs) ≡ true) ⊎ (x ≡ k)
    by true rest found = inl refl
    by false rest found = rest found

-- those that a device's flusher updates are of its device
of_device : (all : List Context) (device number : ℕ) (lines : List Context) (known : List ℕ) → ((j : ℕ) → get_or all (number + j) no_line ≡ get_or lines j no_line)
    → ((k : ℕ) → is_measured k known ≡ true → (get_or all k no_line).device ≡ device) → (k : ℕ) → is_measured k (contexts_from device number lines known) ≡ true → (get_or all k no_line).device ≡ device
of_device all device number [] known at each k is = each k is
of_device all device number (c ∷ cs) known at each k is =
    of_device all device (number + 1) cs (cond (eqb c.device device) (known ++ number ∷ []) known)
    (λ j. (let place : number + 1 + j ≡ number + suc j = omega arith in ap (λ (n : ℕ). get_or all n no_line) place) ∙ at (suc j))
    (λ n. by_device (eqb c.device device) refl n) k is
  where
    by_device : (b : Bool) → eqb c.device device ≡ b → (n : ℕ) → is_measured n (cond b (known ++ number ∷ []) known) ≡ true → (get_or all n no_line).device ≡ device
    by_device true own n found = ⊎_elim (λ before. each n before)
        (λ last.
        let place : n ≡ number + 0 = omega (arith, last) in
        ap (λ (m : ℕ). (get_or all m no_line).device) place ∙ ap (λ (x : Context). x.device) (at 0) ∙ eqb-true c.device device own)
        (measured_more n known number found)
    by_device false other n found = each n found

none_measured : (k : ℕ) → is_measured k [] ≡ true → ⊥
none_measured k is = true≢false (sym is)

-- a context that a flusher updates is published by the flusher's CPU
pub publishes : (trace : Trace) (f k : ℕ) → is_measured k (measures_of trace f) ≡ true → publisher trace k ≡ flusher_cpu trace f
publishes trace f k is = by_lead (leads trace f) refl is
  where
    by_lead : (b : Bool) → leads trace f ≡ b → is_measured k (cond b (contexts_from (flusher_device trace f) 0 trace.contexts []) []) ≡ true → publisher trace k ≡ flusher_cpu trace f
    by_lead false not_first found = absurd (none_measured k found)
    by_lead true first found =
        let device = of_device trace.contexts (flusher_device trace f) 0 trace.contexts [] (λ j. (let place : 0 + j ≡ j = omega arith in ap (λ (n : ℕ). get_or trace.contexts n no_line) place))
        (λ n none. absurd (none_measured n none)) k found in
        ap (λ (d : ℕ). flusher_cpu trace (first_flusher d 0 trace.flushers)) device
        ∙ ap (flusher_cpu trace) (eqb-true (first_flusher (flusher_device trace f) 0 trace.flushers) f first)

-- ---- one estimate after another

pub follows_update : (old new : Estimate) (sample : Sample) → update_of old sample ≡ Some new → Follows old new
unfolding update_of updated
follows_update old new sample is = by_age (ltb (elapsed_since old sample) 200) refl is
  where
    some_is : (a b : Estimate) → Some a ≡ Some b → a ≡ b
    some_is a b e = cc

    by_age : (b : Bool) → ltb (elapsed_since old sample) 200 ≡ b → cond b None (Some (updated old sample)) ≡ Some new → Follows old new
    by_age true young found = absurd cc
    by_age false aged found =
        let same : updated old sample ≡ new = some_is (updated old sample) new found in
        let enough : 200 ≤ elapsed_since old sample = grind (arith, nat_tests) in
        subst (Follows old) same
        (record { version = refl; later = omega (arith, enough); bandwidth = refl; average = refl })

-- ---- the state of estimates

abbrev pub estimates_on : (k : ℕ) (c : Cpu) → List Estimate
estimates_on k c = estimates_of k (told_of c)

abbrev pub IsNamedIn : (trace : Trace) (ks : List Writeback) (check : CheckEntry) → Type 0
IsNamedIn trace ks check = (check.context < length trace.contexts) × (check.estimate ≤ (get_or ks check.context no_context).estimate.version)

-- what has been named, at most the newest
abbrev pub known_of : (ks : List Writeback) (k : ℕ) → Known
known_of ks k = record { publishes = false; all = []; reads = []; seen = (get_or ks k no_context).estimate.version }

abbrev pub known_none : (k : ℕ) → Known
known_none k = record { publishes = false; all = []; reads = []; seen = 0 }

abbrev pub HasNames : (cpu : ℕ) (c : Cpu) (ks : List Writeback) → Type 0
HasNames cpu c ks = Walks HasNamed NamesGoOn names_after known_none (items_told cpu (told_of c)) (known_of ks)

pub record AreEstimated (trace : Trace) (cpus : List Cpu) (flushers : List Flusher) (ks : List Writeback) : Type 0 where
  pub order : (i : ℕ) → IsInOrder (get_or cpus i no_cpu)
  pub places : length ks ≡ length trace.contexts
  pub measures : (f : ℕ) → f < length trace.flushers → (get_or flushers f no_flusher).measures ≡ measures_of trace f
  pub silent : (i k : ℕ) → i ≢ publisher trace k → estimates_on k (get_or cpus i no_cpu) ≡ []
  pub chain : (k : ℕ) → k < length trace.contexts
      → Walked Follows newer (first_estimate trace k opening_moment) (estimates_on k (get_or cpus (publisher trace k) no_cpu)) (get_or ks k no_context).estimate
  pub version : (k : ℕ) → k < length trace.contexts → (get_or ks k no_context).estimate.version ≡ length (estimates_on k (get_or cpus (publisher trace k) no_cpu))
  pub named : (i : ℕ) → Each (IsNamedIn trace ks) (get_or cpus i no_cpu).checks
  pub names : (i : ℕ) → HasNames i (get_or cpus i no_cpu) ks

-- no version falls
named_on : (trace : Trace) (ks ks2 : List Writeback) → ((k : ℕ) → (get_or ks k no_context).estimate.version ≤ (get_or ks2 k no_context).estimate.version)
    → (checks : List CheckEntry) → Each (IsNamedIn trace ks) checks → Each (IsNamedIn trace ks2) checks
named_on trace ks ks2 up checks each = each_weaker (IsNamedIn trace ks) (IsNamedIn trace ks2) (λ check is. (is.0, omega (arith, is.1, up check.context))) checks each

pub names_on : (cpu : ℕ) (c : Cpu) (ks ks2 : List Writeback) → ((k : ℕ) → (get_or ks k no_context).estimate.version ≤ (get_or ks2 k no_context).estimate.version) → HasNames cpu c ks → HasNames cpu c ks2
names_on cpu c ks ks2 up names =
    subst (λ (items : List Item). Walks HasNamed NamesGoOn names_after known_none items (known_of ks2)) (append-nil (items_told cpu (told_of c)))
    (walks_more HasNamed NamesGoOn names_after known_none (known_of ks) (known_of ks2) (items_told cpu (told_of c)) [] names
    (walks_silent HasNamed NamesGoOn names_after (known_of ks) (known_of ks2) [] tt (λ seen has k version low. has k version (omega (arith, low, up k)))))

-- an entry more
names_more : (cpu : ℕ) (c c2 : Cpu) (ks ks2 : List Writeback) (e : Told) → told_of c2 ≡ told_of c ++ e ∷ [] → Walks HasNamed NamesGoOn names_after (known_of ks) (items_told cpu (e ∷ [])) (known_of ks2)
    → HasNames cpu c ks → HasNames cpu c2 ks2
names_more cpu c c2 ks ks2 e told one names =
    subst (λ (l : List Told). Walks HasNamed NamesGoOn names_after known_none (items_told cpu l) (known_of ks2)) (sym told)
    (subst (λ (items : List Item). Walks HasNamed NamesGoOn names_after known_none items (known_of ks2)) (sym (map-append (tells cpu) (told_of c) (e ∷ [])))
    (walks_more HasNamed NamesGoOn names_after known_none (known_of ks) (known_of ks2) (items_told cpu (told_of c)) (items_told cpu (e ∷ [])) names one))

estimates_more : (k : ℕ) (c c2 : Cpu) (e : Told) → told_of c2 ≡ told_of c ++ e ∷ [] → estimates_on k c2 ≡ estimates_on k c ++ estimate_in k e
estimates_more k c c2 e told =
    ap (estimates_of k) told ∙ flat_append (estimate_in k) (told_of c) (e ∷ []) ∙ ap (λ (l : List Estimate). estimates_on k c ++ l) (append-nil (estimate_in k e))

module _ (trace : Trace) (cpus : List Cpu) (flushers : List Flusher) (ks : List Writeback) (h : AreEstimated trace cpus flushers ks) where
  -- a CPU tells an entry that is no estimate, and has these checks then
  pub estimated_other : (cpu : ℕ) (c : Cpu) (e : Told) → cpu < length cpus → told_of c ≡ told_of (get_or cpus cpu no_cpu) ++ e ∷ [] → IsInOrder c → ((k : ℕ) → estimate_in k e ≡ [])
      → Walks HasNamed NamesGoOn names_after (known_of ks) (items_told cpu (e ∷ [])) (known_of ks)
      → (Each (IsNamedIn trace ks) (get_or cpus cpu no_cpu).checks → Each (IsNamedIn trace ks) c.checks)
      → AreEstimated trace (set cpus cpu c) flushers ks
  estimated_other cpu c e there told order none names checks =
      let same : (i k : ℕ) → estimates_on k (get_or (set cpus cpu c) i no_cpu) ≡ estimates_on k (get_or cpus i no_cpu) =
      λ i k. dite (ℕ_discrete i cpu)
      (λ at.
      ap (λ (n : ℕ). estimates_on k (get_or (set cpus cpu c) n no_cpu)) at ∙ ap (estimates_on k) (get_or-set_same cpus cpu c no_cpu there)
      ∙ estimates_more k (get_or cpus cpu no_cpu) c e told ∙ ap (λ (l : List Estimate). estimates_on k (get_or cpus cpu no_cpu) ++ l) (none k)
      ∙ append-nil (estimates_on k (get_or cpus cpu no_cpu)) ∙ ap (λ (n : ℕ). estimates_on k (get_or cpus n no_cpu)) (sym at))
      (λ apart. ap (estimates_on k) (get_or-set_other cpus cpu i c no_cpu apart)) in
      record {
        order = λ i. dite (ℕ_discrete i cpu)
            (λ at. subst (λ (n : ℕ). IsInOrder (get_or (set cpus cpu c) n no_cpu)) (sym at) (subst IsInOrder (sym (get_or-set_same cpus cpu c no_cpu there)) order))
            (λ apart. subst IsInOrder (sym (get_or-set_other cpus cpu i c no_cpu apart)) (h.order i));
        places = h.places;
        measures = h.measures;
        silent = λ i k other. same i k ∙ h.silent i k other;
        chain = λ k less. subst (λ (l : List Estimate). Walked Follows newer (first_estimate trace k opening_moment) l (get_or ks k no_context).estimate) (sym (same (publisher trace k) k)) (h.chain k less);
        version = λ k less. h.version k less ∙ ap (λ (l : List Estimate). length l) (sym (same (publisher trace k) k));
        named = λ i. dite (ℕ_discrete i cpu)
            (λ at. subst (λ (n : ℕ). Each (IsNamedIn trace ks) (get_or (set cpus cpu c) n no_cpu).checks) (sym at)
            (subst (λ (x : Cpu). Each (IsNamedIn trace ks) x.checks) (sym (get_or-set_same cpus cpu c no_cpu there)) (checks (h.named cpu))))
            (λ apart. subst (λ (x : Cpu). Each (IsNamedIn trace ks) x.checks) (sym (get_or-set_other cpus cpu i c no_cpu apart)) (h.named i));
        names = λ i. dite (ℕ_discrete i cpu)
            (λ at. subst (λ (n : ℕ). HasNames n (get_or (set cpus cpu c) n no_cpu) ks) (sym at)
            (subst (λ (x : Cpu). HasNames cpu x ks) (sym (get_or-set_same cpus cpu c no_cpu there)) (names_more cpu (get_or cpus cpu no_cpu) c ks ks e told names (h.names cpu))))
            (λ apart. subst (λ (x : Cpu). HasNames i x ks) (sym (get_or-set_other cpus cpu i c no_cpu apart)) (h.names i));
      }

  -- the publisher tells the context's next estimate
  pub estimated_next : (cpu : ℕ) (c : Cpu) (k : ℕ) (e : Estimate) (w : Writeback) → cpu < length cpus → k < length trace.contexts → cpu ≡ publisher trace k
      → told_of c ≡ told_of (get_or cpus cpu no_cpu) ++ est_told (record { context = k; estimate = e }) ∷ [] → IsInOrder c → c.checks ≡ (get_or cpus cpu no_cpu).checks
      → Follows (get_or ks k no_context).estimate e → w.estimate ≡ e → AreEstimated trace (set cpus cpu c) flushers (set ks k w)
  estimated_next cpu c k e w there less own told order checks follows is =
      let est : Told = est_told (record { context = k; estimate = e }) in
      let ks2 : List Writeback = set ks k w in
      let place : k < length ks = omega (arith, less, h.places) in
      let at_k : (get_or ks2 k no_context).estimate ≡ e = ap (λ (x : Writeback). x.estimate) (get_or-set_same ks k w no_context place) ∙ is in
      let at_other : (n : ℕ) → n ≢ k → (get_or ks2 n no_context).estimate ≡ (get_or ks n no_context).estimate = λ n apart. ap (λ (x : Writeback). x.estimate) (get_or-set_other ks k n w no_context apart) in
      let up : (n : ℕ) → (get_or ks n no_context).estimate.version ≤ (get_or ks2 n no_context).estimate.version =
      λ n. dite (ℕ_discrete n k)
      (λ same.
      let now : (get_or ks2 n no_context).estimate.version ≡ e.version = ap (λ (m : ℕ). (get_or ks2 m no_context).estimate.version) same ∙ ap (λ (x : Estimate). x.version) at_k in
      let was : (get_or ks n no_context).estimate.version ≡ (get_or ks k no_context).estimate.version = ap (λ (m : ℕ). (get_or ks m no_context).estimate.version) same in
      omega (arith, now, was, follows.version))
      (λ apart. let now = ap (λ (x : Estimate). x.version) (at_other n apart) in omega (arith, now)) in
      let here : estimate_in k est ≡ e ∷ [] = cond-true (eqb k k) (e ∷ []) [] (eq-eqb k k refl) in
      let mine : estimates_on k (get_or (set cpus cpu c) cpu no_cpu) ≡ estimates_on k (get_or cpus cpu no_cpu) ++ e ∷ [] =
      ap (estimates_on k) (get_or-set_same cpus cpu c no_cpu there) ∙ estimates_more k (get_or cpus cpu no_cpu) c est told ∙ ap (λ (l : List Estimate). estimates_on k (get_or cpus cpu no_cpu) ++ l) here in
      let mine_at : estimates_on k (get_or (set cpus cpu c) (publisher trace k) no_cpu) ≡ estimates_on k (get_or cpus (publisher trace k) no_cpu) ++ e ∷ [] =
      subst (λ (n : ℕ). estimates_on k (get_or (set cpus cpu c) n no_cpu) ≡ estimates_on k (get_or cpus n no_cpu) ++ e ∷ []) own mine in
      let others : (i n : ℕ) → n ≢ k → estimates_on n (get_or (set cpus cpu c) i no_cpu) ≡ estimates_on n (get_or cpus i no_cpu) =
      λ i n apart. dite (ℕ_discrete i cpu)
      (λ at.
      ap (λ (m : ℕ). estimates_on n (get_or (set cpus cpu c) m no_cpu)) at ∙ ap (estimates_on n) (get_or-set_same cpus cpu c no_cpu there)
      ∙ estimates_more n (get_or cpus cpu no_cpu) c est told
      ∙ ap (λ (l : List Estimate). estimates_on n (get_or cpus cpu no_cpu) ++ l) (cond-false (eqb k n) (e ∷ []) [] (ne_eqb k n (λ same. apart (sym same))))
      ∙ append-nil (estimates_on n (get_or cpus cpu no_cpu)) ∙ ap (λ (m : ℕ). estimates_on n (get_or cpus m no_cpu)) (sym at))
      (λ elsewhere. ap (estimates_on n) (get_or-set_other cpus cpu i c no_cpu elsewhere)) in
      record {
        order = λ i. dite (ℕ_discrete i cpu)
            (λ at. subst (λ (n : ℕ). IsInOrder (get_or (set cpus cpu c) n no_cpu)) (sym at) (subst IsInOrder (sym (get_or-set_same cpus cpu c no_cpu there)) order))
            (λ apart. subst IsInOrder (sym (get_or-set_other cpus cpu i c no_cpu apart)) (h.order i));
        places = length-set ks k w ∙ h.places;
        measures = h.measures;
        silent = λ i n other. dite (ℕ_discrete n k)
            (λ same.
            let elsewhere : i ≢ cpu = λ at. other (at ∙ own ∙ ap (publisher trace) (sym same)) in
            ap (estimates_on n) (get_or-set_other cpus cpu i c no_cpu elsewhere) ∙ h.silent i n other)
            (λ apart. others i n apart ∙ h.silent i n other);
        chain = λ n low. dite (ℕ_discrete n k)
            (λ same.
            subst (λ (m : ℕ). Walked Follows newer (first_estimate trace m opening_moment) (estimates_on m (get_or (set cpus cpu c) (publisher trace m) no_cpu)) (get_or ks2 m no_context).estimate) (sym same)
            (subst (λ (l : List Estimate). Walked Follows newer (first_estimate trace k opening_moment) l (get_or ks2 k no_context).estimate) (sym mine_at)
            (subst (λ (x : Estimate). Walked Follows newer (first_estimate trace k opening_moment) (estimates_on k (get_or cpus (publisher trace k) no_cpu) ++ e ∷ []) x) (sym at_k)
            (walked_more Follows newer (first_estimate trace k opening_moment) (get_or ks k no_context).estimate e (estimates_on k (get_or cpus (publisher trace k) no_cpu)) (e ∷ []) (h.chain k less)
            (record { allowed = (follows, tt); reached = refl })))))
            (λ apart.
            subst (λ (l : List Estimate). Walked Follows newer (first_estimate trace n opening_moment) l (get_or ks2 n no_context).estimate) (sym (others (publisher trace n) n apart))
            (subst (λ (x : Estimate). Walked Follows newer (first_estimate trace n opening_moment) (estimates_on n (get_or cpus (publisher trace n) no_cpu)) x) (sym (at_other n apart)) (h.chain n low)));
        version = λ n low. dite (ℕ_discrete n k)
            (λ same.
            let now : (get_or ks2 n no_context).estimate.version ≡ e.version = ap (λ (m : ℕ). (get_or ks2 m no_context).estimate.version) same ∙ ap (λ (x : Estimate). x.version) at_k in
            let long : length (estimates_on n (get_or (set cpus cpu c) (publisher trace n) no_cpu)) ≡ length (estimates_on k (get_or cpus (publisher trace k) no_cpu) ++ e ∷ []) =
            ap (λ (m : ℕ). length (estimates_on m (get_or (set cpus cpu c) (publisher trace m) no_cpu))) same ∙ ap (λ (l : List Estimate). length l) mine_at in
            omega (arith, now, long, length-append (estimates_on k (get_or cpus (publisher trace k) no_cpu)) (e ∷ []), h.version k less, follows.version))
            (λ apart. ap (λ (x : Estimate). x.version) (at_other n apart) ∙ h.version n low ∙ ap (λ (l : List Estimate). length l) (sym (others (publisher trace n) n apart)));
        named = λ i. dite (ℕ_discrete i cpu)
            (λ at. subst (λ (n : ℕ). Each (IsNamedIn trace ks2) (get_or (set cpus cpu c) n no_cpu).checks) (sym at)
            (subst (λ (x : Cpu). Each (IsNamedIn trace ks2) x.checks) (sym (get_or-set_same cpus cpu c no_cpu there))
            (subst (Each (IsNamedIn trace ks2)) (sym checks) (named_on trace ks ks2 up (get_or cpus cpu no_cpu).checks (h.named cpu)))))
            (λ apart. subst (λ (x : Cpu). Each (IsNamedIn trace ks2) x.checks) (sym (get_or-set_other cpus cpu i c no_cpu apart)) (named_on trace ks ks2 up (get_or cpus i no_cpu).checks (h.named i)));
        names = λ i. dite (ℕ_discrete i cpu)
            (λ at. subst (λ (n : ℕ). HasNames n (get_or (set cpus cpu c) n no_cpu) ks2) (sym at)
            (subst (λ (x : Cpu). HasNames cpu x ks2) (sym (get_or-set_same cpus cpu c no_cpu there))
            (names_more cpu (get_or cpus cpu no_cpu) c ks ks2 est told (others_name_none cpu est (known_of ks) (known_of ks2) refl up) (h.names cpu))))
            (λ apart. subst (λ (x : Cpu). HasNames i x ks2) (sym (get_or-set_other cpus cpu i c no_cpu apart)) (names_on i (get_or cpus i no_cpu) ks ks2 up (h.names i)));
      }

-- ---- along all parts

module _ (trace : Trace) (opened : ℕ) where
  abbrev AllFollow : (seen : List EstEntry) (es : List Told) → Type 0
  AllFollow seen es = (k : ℕ) → Along Follows newer (newest_of trace opened k seen) (estimates_of k es)

  abbrev IsThere : (e : Told) → Type 0
  IsThere e = IfSome (effect e).estimate (λ (est : EstEntry). nat_lt est.context (contexts trace) ≡ true)

  follow_part : (cpu : ℕ) (part more : List Told) (rest : List Item) (seen : List EstEntry)
      → ((then_seen : List EstEntry) → AllFollow then_seen more → Along (EstimatesFollow trace opened) estimates_after then_seen rest)
      → Each IsThere part → AllFollow seen (part ++ more) → Along (EstimatesFollow trace opened) estimates_after seen (map (tells cpu) part ++ rest)
  follow_part cpu [] more rest seen then_rest there all = then_rest seen all
  follow_part cpu (est_told est ∷ part) more rest seen then_rest there all = (
    record {
      named = there.0;
      follows_last = (subst (λ (l : List Estimate). Along Follows newer (newest_of trace opened est.context seen) (l ++ estimates_of est.context (part ++ more)))
          (cond-true (eqb est.context est.context) (est.estimate ∷ []) [] (eq-eqb est.context est.context refl)) (all est.context)).0;
    },
    follow_part cpu part more rest (est ∷ seen) then_rest there.1 (λ k. by_context k (eqb est.context k) (all k)),
  )
    where
      by_context : (k : ℕ) (b : Bool) → Along Follows newer (newest_of trace opened k seen) (cond b (est.estimate ∷ []) [] ++ estimates_of k (part ++ more))
          → Along Follows newer (cond b est.estimate (newest_of trace opened k seen)) (estimates_of k (part ++ more))
      by_context k true along = along.1
      by_context k false along = along
  follow_part cpu (other ∷ part) more rest seen then_rest there all = (tt, follow_part cpu part more rest seen then_rest there.1 all)

  pub follow_parts : (cpu : ℕ) (parts : List (List Told)) (seen : List EstEntry) → Each IsThere (joined parts) → AllFollow seen (joined parts)
      → Along (EstimatesFollow trace opened) estimates_after seen (items_from cpu parts)
  follow_parts cpu [] seen there all = tt
  follow_parts cpu (part ∷ parts) seen there all =
      let split = each_split part (joined parts) there in
      (tt, follow_part cpu part (joined parts) (items_from (cpu + 1) parts) seen (λ then_seen rest. follow_parts (cpu + 1) parts then_seen split.1 rest) split.0 all)
    where
      each_split : (xs ys : List Told) → Each IsThere (xs ++ ys) → Each IsThere xs × Each IsThere ys
      each_split [] ys each = (tt, each)
      each_split (x ∷ xs) ys each = let more = each_split xs ys each.1 in ((each.0, more.0), more.1)

-- where one part alone tells something, all parts tell just that
pub silent_parts : {A : Type 0} (tell : Told → List A) (parts : List (List Told)) → ((c : ℕ) → c < length parts → flat_map tell (get_or parts c []) ≡ []) → flat_map tell (joined parts) ≡ []
silent_parts tell [] none = refl
silent_parts {A} tell (part ∷ parts) none =
    flat_append tell part (joined parts) ∙ ap (λ (l : List A). l ++ flat_map tell (joined parts)) (none 0 (omega arith)) ∙ silent_parts tell parts (λ c less. none (suc c) (omega (arith, less)))

pub only_part : {A : Type 0} (tell : Told → List A) (parts : List (List Told)) (p : ℕ) → p < length parts → ((c : ℕ) → c < length parts → c ≢ p → flat_map tell (get_or parts c []) ≡ [])
    → flat_map tell (joined parts) ≡ flat_map tell (get_or parts p [])
only_part tell [] p less none = absurd (omega (arith, less))
only_part {A} tell (part ∷ parts) zero less none =
    flat_append tell part (joined parts)
    ∙ ap (λ (l : List A). flat_map tell part ++ l) (silent_parts tell parts (λ c low. none (suc c) (omega (arith, low)) (λ e. omega (arith, e)))) ∙ append-nil (flat_map tell part)
only_part {A} tell (part ∷ parts) (suc p) less none =
    flat_append tell part (joined parts)
    ∙ ap (λ (l : List A). l ++ flat_map tell (joined parts)) (none 0 (omega arith) (λ e. omega (arith, e)))
    ∙ only_part tell parts p (omega (arith, less)) (λ c low other. none (suc c) (omega (arith, low)) (λ e. other (omega (arith, e))))
