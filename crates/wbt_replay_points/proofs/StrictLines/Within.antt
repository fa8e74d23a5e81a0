-- Each context of a strict device has at most as many pages as its line's bound says, at each moment of a run.
use Rattle.std.proofs.Common.{◌≡◌, ℕ, zero, suc, ◌+◌, ◌-◌, ◌<◌, ◌≤◌, max, Bool, true, false, cond, eqb, ℤ, pos, List, [], ◌∷◌, ◌++◌, length, map, take, All, Contains, refl, sym, ◌∙◌, ap, subst, arith, ⊎_elim}
use Rattle.std.proofs.lemmas.Bool.{cases_Bool, cases_lt}
use Rattle.std.proofs.lemmas.List.{append-nil}
use Rattle.std.proofs.lemmas.List.Elements.{All-nil, All-push, Contains-push, Contains-append_left}
use Rattle.wbt_replay_order.proofs.Common.{Trace, at_least_zero, total, one_if, Book, clean, total_nothing, if_nothing, opening_keeps, AreAllowed, Setting, IsSetting, context_count, greatest_reading, StepEntry, State, is_strict, IsFollowed, setting_of, writers_in, writer_at, opening, advance, is_ended, most_moves, state_at, last_state, journal_of, pages_after, most_pages, part_used}
use Rattle.wbt_trace.specs.declared.writers.Writer.{Writer}
use Rattle.wbt_grant.specs.Kinds.{Step, after, run}
use Rattle.wbt_grant.specs.State as throttle
use Rattle.wbt_strict.proofs.Bounding.{strict_is_bounded}
use Rattle.wbt_strict.specs.Bound.{strict_bound}
use Rattle.wbt_strict.specs.Rule.{AreStrict, writers_in_context}
use Rattle.wbt_journal.specs.declared.journal.StrictLine.{StrictLine}
use Rattle.wbt_replay_order.specs.Claims.Path.{tells}
use Rattle.wbt_replay_order.specs.Claims.Strict.{exact_pages, IsWithin, StaysWithinStrict}
use Rattle.wbt_replay_order.specs.Definition.Strict.{most_from, writers_with, bound_with, line_for, lines_of}
use Rattle.wbt_replay_points.proofs.Claims.Columns.{pages_at, pages_follow}
use Rattle.wbt_replay_points.proofs.Claims.Counted.{are_homes, counted_by_number, counted_map}
use Rattle.wbt_replay_order.proofs.Growth.Growing.{Grew}
use Rattle.wbt_replay_order.proofs.Growth.Grown.{advance_grows, no_steps}
use Rattle.wbt_replay_order.proofs.Growth.Runs.{run_last, run_stays}
use Rattle.wbt_replay_points.proofs.StrictLines.Growing.{uses_more}

-- ---- the most of some steps, with one more

most_more : (k : ℕ) (pages : ℤ) (steps : List StepEntry) (e : StepEntry)
    → most_from k pages (steps ++ e ∷ []) ≡ max (most_from k pages steps) (at_least_zero (pages_at k pages (steps ++ e ∷ [])))
most_more k pages [] e = omega arith
most_more k pages (x ∷ steps) e = omega (arith, most_more k (pages_after k x pages) steps e)

-- ---- steps of the relation

strict_take : (set : Setting) (k most n : ℕ) (steps : List Step) (t : throttle.State) → AreStrict set k most steps t → AreStrict set k most (take n steps) t
strict_take set k most zero steps t all = tt
strict_take set k most (suc n) [] t all = tt
strict_take set k most (suc n) (x ∷ steps) t all = (all.0, strict_take set k most n steps (after set x t) all.1)

no_pages : (set : Setting) (k : ℕ) → context_count set (λ p. clean) k ≡ 0
no_pages set k = total_nothing set.pages (λ p. cond (eqb (set.home p) k) 0 0) (λ p. if_nothing (eqb (set.home p) k) 0 refl)

-- the bound is that of the relation
same_bound : (trace : Trace) (k part : ℕ) → strict_bound part (setting_of trace).cpus (writers_in_context (setting_of trace) k) (setting_of trace).cap ≡ bound_with trace k part
unfolding setting_of
same_bound trace k part =
    let writers : total (length (writers_in trace)) (λ w. one_if (eqb (writer_at trace w).context k)) ≡ writers_with trace k =
    counted_by_number (λ (w : Writer). eqb w.context k) (record { task = 0; context = 0 }) (writers_in trace)
    ∙ sym (counted_map (λ (c : ℕ). eqb c k) (λ (w : Writer). w.context) (writers_in trace)) in
    ap (λ (n : ℕ). strict_bound part trace.cpus n trace.cap) writers

same_cpus : (trace : Trace) → (setting_of trace).cpus ≡ trace.cpus
unfolding setting_of
same_cpus trace = refl

module _ (trace : Trace) (ok : IsSetting (setting_of trace)) (followed : IsFollowed trace) (over : is_ended (last_state trace) ≡ true) where
  -- ---- the moments after the last

  stays_over : (j n : ℕ) → n ≡ j + most_moves → state_at trace n ≡ last_state trace
  stays_over zero n sum = let same : n ≡ most_moves = omega (arith, sum) in ap (state_at trace) same
  stays_over (suc j) n sum =
      let behind = stays_over j (j + most_moves) refl in
      run_stays trace (j + most_moves) n (opening trace) (omega (arith, sum)) (ap is_ended behind ∙ over) ∙ behind

  -- what each moment up to the last has, each has
  at_each : (P : State → Type 0) → ((m : ℕ) → m ≤ most_moves → P (state_at trace m)) → (m : ℕ) → P (state_at trace m)
  at_each P up m = ⊎_elim
      (λ early. up m (omega (arith, early)))
      (λ late. subst P (sym (stays_over (m - most_moves) m (omega (arith, late)))) (up most_moves (omega arith)))
      (cases_lt m most_moves)

  module _ (k : ℕ) where
    abbrev exact : (moves : ℕ) → ℕ
    exact moves = exact_pages trace moves k

    -- the steps so far tell the exact count
    exact_is : (moves : ℕ) → pages_at k (pos 0) (state_at trace moves).steps ≡ pos (exact moves)
    exact_is moves =
        let set : Setting = setting_of trace in
        let start : throttle.State = throttle.opening set in
        let made = followed.made moves in
        let steps : List Step = take made.0 followed.steps in
        ap (λ (es : List StepEntry). pages_at k (pos 0) es) (sym made.1.told)
        ∙ ap (λ (n : ℕ). pages_at k (pos n) (tells set steps start)) (sym (no_pages set k))
        ∙ pages_follow set (map (λ c. c.domain) trace.contexts) (are_homes trace ok) ok k steps start (opening_keeps set ok) made.1.allowed
        ∙ ap (λ (b : Book). pos (context_count set b k)) made.1.shows.book

    -- ---- the most is that of the moments

    record IsMost (n : ℕ) : Type 0 where
      at_most : (m : ℕ) → m ≤ n → exact m ≤ most_pages k (state_at trace n).steps
      reached : (m : ℕ) × (exact m ≡ most_pages k (state_at trace n).steps)

    most_same : (n : ℕ) → (state_at trace (suc n)).steps ≡ (state_at trace n).steps → IsMost n → IsMost (suc n)
    most_same n same h =
        let most : most_pages k (state_at trace (suc n)).steps ≡ most_pages k (state_at trace n).steps = ap (most_pages k) same in
        let pages : pos (exact (suc n)) ≡ pos (exact n) = sym (exact_is (suc n)) ∙ ap (λ (es : List StepEntry). pages_at k (pos 0) es) same ∙ exact_is n in
        let equal : exact (suc n) ≡ exact n = ap at_least_zero pages in
        record {
          at_most = λ m inside. ⊎_elim
              (λ before. omega (arith, h.at_most m (omega (arith, before)), most))
              (λ last.
              let now : exact m ≡ exact (suc n) = ap exact (let is : m ≡ suc n = omega (arith, inside, last) in is) in
              omega (arith, now, equal, h.at_most n (omega arith), most))
              (cases_lt m (suc n));
          reached = (h.reached.0, h.reached.1 ∙ sym most);
        }

    most_grown : (n : ℕ) (e : StepEntry) → (state_at trace (suc n)).steps ≡ (state_at trace n).steps ++ e ∷ [] → IsMost n → IsMost (suc n)
    most_grown n e more h =
        let before : List StepEntry = (state_at trace n).steps in
        let here : at_least_zero (pages_at k (pos 0) (before ++ e ∷ [])) ≡ exact (suc n) =
        ap (λ (es : List StepEntry). at_least_zero (pages_at k (pos 0) es)) (sym more) ∙ ap at_least_zero (exact_is (suc n)) in
        let most : most_pages k (state_at trace (suc n)).steps ≡ max (most_pages k before) (exact (suc n)) =
        ap (most_pages k) more ∙ most_more k (pos 0) before e ∙ ap (max (most_pages k before)) here in
        record {
          at_most = λ m inside. ⊎_elim
              (λ early. omega (arith, h.at_most m (omega (arith, early)), most))
              (λ last.
              let now : exact m ≡ exact (suc n) = ap exact (let is : m ≡ suc n = omega (arith, inside, last) in is) in
              omega (arith, now, most))
              (cases_lt m (suc n));
          reached = ⊎_elim
              (λ less. let same : max (most_pages k before) (exact (suc n)) ≡ exact (suc n) = omega (arith, less) in (suc n, sym (most ∙ same)))
              (λ no_less. let same : max (most_pages k before) (exact (suc n)) ≡ most_pages k before = omega (arith, no_less) in (h.reached.0, h.reached.1 ∙ sym (most ∙ same)))
              (cases_lt (most_pages k before) (exact (suc n)));
        }

    most_first : IsMost 0
    most_first =
        let none : most_pages k (state_at trace 0).steps ≡ 0 = ap (most_pages k) (no_steps trace) in
        let pages : exact 0 ≡ 0 = ap at_least_zero (sym (exact_is 0) ∙ ap (λ (es : List StepEntry). pages_at k (pos 0) es) (no_steps trace)) in
        record {
          at_most = λ m inside. let now : exact m ≡ exact 0 = ap exact (let is : m ≡ 0 = omega (arith, inside) in is) in omega (arith, now, pages);
          reached = (0, pages ∙ sym none);
        }

    most_next : (n : ℕ) (actor : ℕ) → Grew actor (state_at trace n).steps (state_at trace (suc n)).steps (state_at trace n).timer.todo → IsMost n → IsMost (suc n)
    most_next n actor grew h = ⊎_elim (λ same. most_same n same h) (λ one. most_grown n one.entry one.is h) grew

    is_most : (n : ℕ) → IsMost n
    is_most zero = most_first
    is_most (suc n) = ⊎_elim
        (λ ended. most_same n (ap (λ (s : State). s.steps) (run_stays trace n (suc n) (opening trace) (omega arith) ended)) (is_most n))
        (λ going.
        let more = advance_grows trace (state_at trace n) in
        let next : state_at trace (suc n) ≡ advance trace (state_at trace n) = run_last trace n (suc n) (opening trace) (omega arith) going in
        most_next n more.0 (subst (λ (s : State). Grew more.0 (state_at trace n).steps s.steps (state_at trace n).timer.todo) (sym next) more.1) (is_most n))
        (cases_Bool (is_ended (state_at trace n)))

    -- ---- the bound

    abbrev part : ℕ
    part = part_used trace k (last_state trace).cpus

    used_at_each : (m : ℕ) → part_used trace k (state_at trace m).cpus ≤ part
    used_at_each = at_each (λ (s : State). part_used trace k s.cpus ≤ part)
        (λ m inside.
        let sum : (most_moves - m) + m ≡ most_moves = omega (arith, inside) in
        subst (λ (n : ℕ). part_used trace k (state_at trace m).cpus ≤ part_used trace k (state_at trace n).cpus) sum (uses_more trace k m (most_moves - m)))

    bounded : is_strict trace k ≡ true → (moves : ℕ) → exact moves ≤ bound_with trace k part
    bounded strict moves =
        let set : Setting = setting_of trace in
        let start : throttle.State = throttle.opening set in
        let made = followed.made moves in
        let steps : List Step = take made.0 followed.steps in
        let all : AreStrict set k (greatest_reading part set.cpus) followed.steps start =
        subst (λ (n : ℕ). AreStrict set k (greatest_reading part n) followed.steps start) (sym (same_cpus trace)) (followed.strict k part strict used_at_each) in
        let within = strict_is_bounded set k part steps [] ok (subst (λ (l : List Step). AreAllowed set l start) (sym (append-nil steps)) made.1.allowed)
        (subst (λ (l : List Step). AreStrict set k (greatest_reading part set.cpus) l start) (sym (append-nil steps)) (strict_take set k (greatest_reading part set.cpus) made.0 followed.steps start all)) in
        let book : context_count set (run set steps start).book k ≡ exact moves = ap (λ (b : Book). context_count set b k) made.1.shows.book in
        omega (arith, within, book, same_bound trace k part)

    -- ---- its line

    line_within : k < length trace.contexts → is_strict trace k ≡ true → IsWithin trace (line_for trace (last_state trace).steps (last_state trace).cpus k)
    line_within less strict =
        let most = is_most most_moves in
        record {
          context = less;
          strict = strict;
          at_most = at_each (λ (s : State). context_count (setting_of trace) s.book k ≤ most_pages k (last_state trace).steps) most.at_most;
          reached = most.reached;
          bounded = omega (arith, most.reached.1, bounded strict most.reached.0);
        }

  -- ---- all lines

  abbrev line : (k : ℕ) → StrictLine
  line k = line_for trace (last_state trace).steps (last_state trace).cpus k

  abbrev lines : (n : ℕ) → List StrictLine
  lines n = lines_of trace (last_state trace).steps (last_state trace).cpus n

  lines_within : (n : ℕ) → n ≤ length trace.contexts → All (IsWithin trace) (lines n)
  lines_within zero few = All-nil (IsWithin trace)
  lines_within (suc n) few = by_kind (lines_within n (omega (arith, few))) (is_strict trace n) refl
    where
      by_kind : All (IsWithin trace) (lines n) → (b : Bool) → is_strict trace n ≡ b → All (IsWithin trace) (cond b (lines n ++ line n ∷ []) (lines n))
      by_kind before true strict = All-push (IsWithin trace) (lines n) (line n) before (line_within n (omega (arith, few)) strict)
      by_kind before false other = before

  line_among : (k n : ℕ) → k < n → is_strict trace k ≡ true → Contains (lines n) (line k)
  line_among k zero less strict = absurd (omega (arith, less))
  line_among k (suc n) less strict = ⊎_elim
      (λ before. by_kind (is_strict trace n) (line_among k n before strict))
      (λ last.
      let same : k ≡ n = omega (arith, less, last) in
      subst (λ (b : Bool). Contains (cond b (lines n ++ line n ∷ []) (lines n)) (line k))
      (sym (ap (is_strict trace) (sym same) ∙ strict))
      (subst (λ (i : ℕ). Contains (lines n ++ line i ∷ []) (line k)) same (Contains-push (lines n) (line k))))
      (cases_lt k n)
    where
      by_kind : (b : Bool) → Contains (lines n) (line k) → Contains (cond b (lines n ++ line n ∷ []) (lines n)) (line k)
      by_kind true there = Contains-append_left (lines n) (line n ∷ []) (line k) there
      by_kind false there = there

  pub stays_within : StaysWithinStrict trace
  unfolding journal_of
  stays_within = record {
    lines = lines_within (length trace.contexts) (omega arith);
    each = λ k less strict. line_among k (length trace.contexts) less strict;
  }
