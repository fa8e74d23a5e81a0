-- What the journal's text prints of a run that is followed: the exact count of each domain, within the bound beside it.
use Rattle.std.proofs.Common.{◌≡◌, ℕ, zero, suc, ◌+◌, ◌<◌, ◌≤◌, Bool, cond, eqb, ◌||◌, ℤ, pos, List, [], ◌∷◌, ◌++◌, length, map, take, get_or, count_by, refl, sym, ◌∙◌, ap, subst, arith, eq-eqb, ne_eqb, length-append, append_assoc, ⊎_elim, None}
use Rattle.std.proofs.lemmas.Int.{ints}
use Rattle.std.proofs.lemmas.Bool.{cases_lt, cond-true, cond-false}
use Rattle.std.proofs.lemmas.List.Sums.{sum_by-cons}
use Rattle.std.specs.List.{slice_get}
use mathlib.Core.Logic.{dite}
use native.Mathlib.Decide.{ℕ_discrete}
use Rattle.wbt_trace.specs.declared.trace.Context.{Context}
use Rattle.wbt_replay_order.proofs.Common.{Trace, total, one_if, total_nothing, Book, clean, Rule, Setting, IsSetting, is_inside, domain_count, context_count, if_nothing, opening_keeps, always_holds, domains, is_some_of, StepEntry, TimerEntry, State, domain_of, context_of, group_of, IsBounded, IsCounted, PrintsBound, IsBoundedCloser, IsFollowed, setting_of, inode_with, writers_in, writer_at, first_limits, first_entries, opening_moment, most_moves, state_at, last_state, base_of, bases_of, writer_homes, journal_of}
use Rattle.wbt_trace.specs.declared.writers.Writer.{Writer}
use Rattle.wbt_grant.specs.Bound.{bound}
use Rattle.wbt_grant.specs.Formula.{fixed_bound}
use Rattle.wbt_grant.specs.Kinds as relation
use Rattle.wbt_grant.specs.Kinds.{Step}
use Rattle.wbt_grant.specs.State as throttle
use Rattle.wbt_grant.proofs.Bounding.{peak_bounds}
use Rattle.wbt_journal.specs.Steps.{first_hard, first_columns, columns_after}
use Rattle.wbt_journal.specs.declared.columns.Column.{Column}
use Rattle.wbt_journal.specs.declared.timer.TimerEntry.TheVariants as entry
use Rattle.wbt_replay_order.specs.Claims.Bound.{columns_at, printed_after, bound_in, ArePrinted, AreWithin, AreWithinAfter, exact_counts, bounds_at}
use Rattle.wbt_replay_order.specs.Claims.Path.{tells}
use Rattle.wbt_replay_order.specs.Definition.Run as replay
use Rattle.wbt_replay_points.proofs.Claims.Columns.{column_in, columns_in, AreHomes, columns_follow, line_at}
use Rattle.wbt_replay_order.proofs.Growth.Grown.{was_past}
use Rattle.wbt_replay_points.proofs.Claims.Peaks.{peaks_at}

-- ---- the columns before the first step

-- an empty book has no pages
no_pages : (set : Setting) (d : ℕ) → domain_count set (λ p. clean) d ≡ 0
no_pages set d = total_nothing set.contexts (λ k. cond (is_inside set d k) (context_count set (λ p. clean) k) 0)
    (λ k. if_nothing (is_inside set d k) (context_count set (λ p. clean) k)
    (total_nothing set.pages (λ p. cond (eqb (set.home p) k) 0 0) (λ p. if_nothing (eqb (set.home p) k) 0 refl)))

-- the first hard limit is that of the first limits, which come first
not_before : (trace : Trace) (n d : ℕ) (rest : List TimerEntry) → n ≤ d → first_hard d (first_entries trace n ++ rest) ≡ first_hard d rest
not_before trace zero d rest later = refl
not_before trace (suc n) d rest later =
    let e : TimerEntry = entry.Limits n opening_moment (first_limits trace n) in
    ap (first_hard d) (append_assoc (first_entries trace n) (e ∷ []) rest)
    ∙ not_before trace n d (e ∷ rest) (omega (arith, later))
    ∙ cond-false (eqb n d) (first_limits trace n).hard (first_hard d rest) (ne_eqb n d (λ is. omega (arith, is, later)))

first_hard_is : (trace : Trace) (n d : ℕ) (rest : List TimerEntry) → d < n → first_hard d (first_entries trace n ++ rest) ≡ (first_limits trace d).hard
first_hard_is trace zero d rest less = absurd (omega (arith, less))
first_hard_is trace (suc n) d rest less =
    let e : TimerEntry = entry.Limits n opening_moment (first_limits trace n) in
    ap (first_hard d) (append_assoc (first_entries trace n) (e ∷ []) rest)
    ∙ ⊎_elim
    (λ before. first_hard_is trace n d (e ∷ rest) before)
    (λ last.
    let same : n ≡ d = omega (arith, last, less) in
    not_before trace n d (e ∷ rest) (omega (arith, last))
    ∙ cond-true (eqb n d) (first_limits trace n).hard (first_hard d rest) (eq-eqb n d same)
    ∙ ap (λ (k : ℕ). (first_limits trace k).hard) same)
    (cases_lt d n)

pub many_bases : (trace : Trace) (n : ℕ) → length (bases_of trace n) ≡ n
many_bases trace zero = refl
many_bases trace (suc n) = omega (arith, length-append (bases_of trace n) (base_of trace n ∷ []), many_bases trace n)

-- a column more, at the end
columns_push : (d : ℕ) (entries : List TimerEntry) (bases : List ℕ) (base : ℕ)
    → first_columns d entries (bases ++ base ∷ [])
    ≡ first_columns d entries bases ++ (record { count = pos 0; base = base; peak = first_hard (d + length bases) entries }) ∷ []
columns_push d entries [] base =
    ap (λ (n : ℕ). (record { count = pos 0; base = base; peak = first_hard n entries }) ∷ []) (let e : d ≡ d + 0 = omega arith in e)
columns_push d entries (b ∷ bases) base =
    ap (λ (cs : List Column). (record { count = pos 0; base = b; peak = first_hard d entries }) ∷ cs)
    (columns_push (d + 1) entries bases base
    ∙ ap (λ (n : ℕ). first_columns (d + 1) entries bases ++ (record { count = pos 0; base = base; peak = first_hard n entries }) ∷ [])
    (let e : (d + 1) + length bases ≡ d + suc (length bases) = omega arith in e))

in_push : (set : Setting) (base : ℕ → ℕ) (t : throttle.State) (d n : ℕ)
    → columns_in set base t d (suc n) ≡ columns_in set base t d n ++ column_in set base t (d + n) ∷ []
in_push set base t d zero = ap (λ (k : ℕ). column_in set base t k ∷ []) (let e : d ≡ d + 0 = omega arith in e)
in_push set base t d (suc n) =
    ap (λ (cs : List Column). column_in set base t d ∷ cs)
    (in_push set base t (d + 1) n
    ∙ ap (λ (k : ℕ). columns_in set base t (d + 1) n ++ column_in set base t k ∷ []) (let e : (d + 1) + n ≡ d + suc n = omega arith in e))

in_first : (set : Setting) (base : ℕ → ℕ) (t : throttle.State) (n : ℕ) → columns_in set base t 0 (suc n) ≡ columns_in set base t 0 n ++ column_in set base t n ∷ []
in_first set base t n =
    in_push set base t 0 n ∙ ap (λ (k : ℕ). columns_in set base t 0 n ++ column_in set base t k ∷ []) (let e : 0 + n ≡ n = omega arith in e)

-- the first limits of the setting are those of the trace
firsts_are : (trace : Trace) (d : ℕ) → (throttle.opening (setting_of trace)).peak d ≡ (first_limits trace d).hard
unfolding setting_of
firsts_are trace d = refl

columns_first : (trace : Trace) (entries : List TimerEntry) (n : ℕ) → ((d : ℕ) → d < n → first_hard d entries ≡ (first_limits trace d).hard)
    → first_columns 0 entries (bases_of trace n) ≡ columns_in (setting_of trace) (base_of trace) (throttle.opening (setting_of trace)) 0 n
columns_first trace entries zero firsts = refl
columns_first trace entries (suc n) firsts =
    let set : Setting = setting_of trace in
    let start : throttle.State = throttle.opening set in
    let place : 0 + length (bases_of trace n) ≡ n = omega (arith, many_bases trace n) in
    let peak : first_hard (0 + length (bases_of trace n)) entries ≡ start.peak n =
    ap (λ (k : ℕ). first_hard k entries) place ∙ firsts n (omega arith) ∙ sym (firsts_are trace n) in
    columns_push 0 entries (bases_of trace n) (base_of trace n)
    ∙ ap (λ (cs : List Column). cs ++ (record { count = pos 0; base = base_of trace n; peak = first_hard (0 + length (bases_of trace n)) entries }) ∷ [])
    (columns_first trace entries n (λ d less. firsts d (omega (arith, less))))
    ∙ ap (λ (k : ℕ). columns_in set (base_of trace) start 0 n ++ (record { count = pos 0; base = base_of trace n; peak = k }) ∷ []) peak
    ∙ ap (λ (k : ℕ). columns_in set (base_of trace) start 0 n ++ (record { count = pos k; base = base_of trace n; peak = start.peak n }) ∷ []) (sym (no_pages set n))
    ∙ sym (in_first set (base_of trace) start n)

-- ---- homes

turned : (a b : ℕ) → eqb a b ≡ eqb b a
turned a b = dite (ℕ_discrete a b) (λ e. eq-eqb a b e ∙ sym (eq-eqb b a (sym e))) (λ e. ne_eqb a b e ∙ sym (ne_eqb b a (λ q. e (sym q))))

home_at : (contexts : List Context) (k d : ℕ) → k < length contexts
    → is_some_of d (slice_get (map (λ c. c.domain) contexts) k) ≡ eqb d (get_or contexts k (record { device = 0; domain = 0; expire = None; estimate = None })).domain
home_at [] k d less = absurd (omega (arith, less))
home_at (c ∷ contexts) zero d less = turned c.domain d
home_at (c ∷ contexts) (suc k) d less = home_at contexts k d (omega (arith, less))

pub are_homes : (trace : Trace) → IsSetting (setting_of trace) → AreHomes (setting_of trace) (map (λ c. c.domain) trace.contexts)
unfolding setting_of
are_homes trace ok p d less =
    ap (λ (b : Bool). eqb d 0 || b) (home_at trace.contexts (context_of trace (inode_with trace p)) d (ok.homes p less))

-- ---- writers and contexts of a domain

total_front : (n : ℕ) (f : ℕ → ℕ) → total (suc n) f ≡ f 0 + total n (λ k. f (suc k))
total_front zero f = omega arith
total_front (suc n) f = let before = total_front n f in omega (arith, before)

pub counted_by_number : {A : Type 0} (P : A → Bool) (d : A) (xs : List A) → total (length xs) (λ w. one_if (P (get_or xs w d))) ≡ count_by P xs
counted_by_number P d [] = refl
counted_by_number P d (x ∷ xs) =
    let front = total_front (length xs) (λ w. one_if (P (get_or (x ∷ xs) w d))) in
    omega (arith, front, counted_by_number P d xs, sum_by-cons (λ y. cond (P y) 1 0) x xs)

pub counted_map : {A B : Type 0} (P : B → Bool) (f : A → B) (xs : List A) → count_by P (map f xs) ≡ count_by (λ x. P (f x)) xs
counted_map P f [] = refl
counted_map P f (x ∷ xs) = omega (arith, counted_map P f xs, sum_by-cons (λ y. cond (P y) 1 0) (f x) (map f xs), sum_by-cons (λ y. cond (P (f y)) 1 0) x xs)

-- the relation's bound of a domain is the peak with the base that is printed
pub same_bound : (trace : Trace) (hard : ℕ → ℕ) (d : ℕ) → bound (setting_of trace) hard d ≡ base_of trace d + hard d
unfolding setting_of
same_bound trace hard d =
    let set : Setting = setting_of trace in
    let writers : total (length (writers_in trace)) (λ w. one_if (is_inside set d (writer_at trace w).context)) ≡ count_by (replay.is_inside d) (writer_homes trace) =
    counted_by_number (λ (w : Writer). replay.is_inside d (group_of trace w.context)) (record { task = 0; context = 0 }) (writers_in trace)
    ∙ sym (counted_map (replay.is_inside d) (λ (w : Writer). group_of trace w.context) (writers_in trace)) in
    let contexts : total (length trace.contexts) (λ k. one_if (is_inside set d k)) ≡ count_by (λ c. replay.is_inside d c.domain) trace.contexts =
    counted_by_number (λ (c : Context). replay.is_inside d c.domain) (record { device = 0; domain = 0; expire = None; estimate = None }) trace.contexts in
    ap (λ (n : ℕ). hard d + fixed_bound trace.cpus n trace.cap (total (length trace.contexts) (λ k. one_if (is_inside set d k)))) writers
    ∙ ap (λ (n : ℕ). hard d + fixed_bound trace.cpus (count_by (replay.is_inside d) (writer_homes trace)) trace.cap n) contexts
    ∙ omega arith

-- ---- what is read of the columns

map_push : {A B : Type 0} (f : A → B) (xs : List A) (x : A) → map f (xs ++ x ∷ []) ≡ map f xs ++ f x ∷ []
map_push f [] x = refl
map_push {A} {B} f (y ∷ xs) x = ap (λ (l : List B). f y ∷ l) (map_push f xs x)

counts_are : (trace : Trace) (t : throttle.State) (book : Book) → t.book ≡ book → (n : ℕ)
    → map (λ c. c.count) (columns_in (setting_of trace) (base_of trace) t 0 n) ≡ exact_counts trace book n
counts_are trace t book same zero = refl
counts_are trace t book same (suc n) =
    ap (λ (cs : List Column). map (λ c. c.count) cs) (in_first (setting_of trace) (base_of trace) t n)
    ∙ map_push (λ (c : Column). c.count) (columns_in (setting_of trace) (base_of trace) t 0 n) (column_in (setting_of trace) (base_of trace) t n)
    ∙ ap (λ (l : List ℤ). l ++ pos (domain_count (setting_of trace) t.book n) ∷ []) (counts_are trace t book same n)
    ∙ ap (λ (b : Book). exact_counts trace book n ++ pos (domain_count (setting_of trace) b n) ∷ []) same

bounds_are : (trace : Trace) (t : throttle.State) (s : State) (n : ℕ) → ((d : ℕ) → d < n → t.peak d ≡ (domain_of d s).peak)
    → map bound_in (columns_in (setting_of trace) (base_of trace) t 0 n) ≡ bounds_at trace s n
bounds_are trace t s zero same = refl
bounds_are trace t s (suc n) same =
    let set : Setting = setting_of trace in
    ap (λ (cs : List Column). map bound_in cs) (in_first set (base_of trace) t n)
    ∙ map_push bound_in (columns_in set (base_of trace) t 0 n) (column_in set (base_of trace) t n)
    ∙ ap (λ (l : List ℕ). l ++ (base_of trace n + t.peak n) ∷ []) (bounds_are trace t s n (λ d less. same d (omega (arith, less))))
    ∙ ap (λ (k : ℕ). bounds_at trace s n ++ (base_of trace n + k) ∷ []) (same n (omega arith))
    ∙ ap (λ (k : ℕ). bounds_at trace s n ++ k ∷ []) (sym (same_bound trace (λ d. (domain_of d s).peak) n))

within_bounds : (trace : Trace) (t : throttle.State) → Rule (setting_of trace) t → (d n : ℕ) → AreWithin (columns_in (setting_of trace) (base_of trace) t d n)
within_bounds trace t rule d zero = tt
within_bounds trace t rule d (suc n) =
    let few = peak_bounds (setting_of trace) t rule d in
    let same = same_bound trace t.peak d in
    (omega (arith, ints, few, same), within_bounds trace t rule (d + 1) n)

within_all : (homes : List ℕ) (columns : List Column) (steps : List StepEntry) → ((k : ℕ) → k < length steps → AreWithin (columns_at homes columns (take (suc k) steps)))
    → AreWithinAfter homes columns steps
within_all homes columns [] all = tt
within_all homes columns (x ∷ steps) all =
    (all 0 (omega arith), within_all homes (columns_after homes 0 x columns) steps (λ k less. all (suc k) (omega (arith, less))))

-- ---- runs that are followed

-- the state of the relation at a moment
abbrev pub state_of : (trace : Trace) (followed : IsFollowed trace) (moves : ℕ) → throttle.State
state_of trace followed moves = relation.run (setting_of trace) (take (followed.made moves).0 followed.steps) (throttle.opening (setting_of trace))

module _ (trace : Trace) (ok : IsSetting (setting_of trace)) (followed : IsFollowed trace) where
  pub rule_at : (moves : ℕ) → Rule (setting_of trace) (state_of trace followed moves)
  rule_at moves =
      let made = followed.made moves in (always_holds (setting_of trace) (take made.0 followed.steps) ok made.1.allowed).rule

  first_is : first_columns 0 (journal_of trace).timer (journal_of trace).bases
      ≡ columns_in (setting_of trace) (base_of trace) (throttle.opening (setting_of trace)) 0 (domains trace)
  unfolding journal_of
  first_is =
      let begun = (peaks_at trace most_moves).begun in
      columns_first trace (last_state trace).timer.entries (domains trace)
      (λ d less. ap (first_hard d) begun.is ∙ first_hard_is trace (domains trace) d begun.rest less)

  homes_are : (journal_of trace).homes ≡ map (λ c. c.domain) trace.contexts
  unfolding journal_of
  homes_are = refl

  pub printed_is : (moves : ℕ) → printed_after (journal_of trace) (state_at trace moves).steps
      ≡ columns_in (setting_of trace) (base_of trace) (state_of trace followed moves) 0 (domains trace)
  printed_is moves =
      let set : Setting = setting_of trace in
      let start : throttle.State = throttle.opening set in
      let made = followed.made moves in
      let steps : List Step = take made.0 followed.steps in
      let told : tells set steps start ≡ (state_at trace moves).steps = made.1.told in
      ap (λ (hs : List ℕ). columns_at hs (first_columns 0 (journal_of trace).timer (journal_of trace).bases) (state_at trace moves).steps) homes_are
      ∙ ap (λ (cs : List Column). columns_at (map (λ c. c.domain) trace.contexts) cs (state_at trace moves).steps) first_is
      ∙ ap (λ (es : List StepEntry). columns_at (map (λ c. c.domain) trace.contexts) (columns_in set (base_of trace) start 0 (domains trace)) es) (sym told)
      ∙ columns_follow set (map (λ c. c.domain) trace.contexts) (are_homes trace ok) ok (base_of trace) (domains trace) steps start (opening_keeps set ok) made.1.allowed

  lines_printed : ArePrinted (journal_of trace)
  lines_printed k step is =
      line_at (length (journal_of trace).cpus) (journal_of trace).homes (first_columns 0 (journal_of trace).timer (journal_of trace).bases) (journal_of trace).steps k step is

  pub counted : IsCounted trace
  counted = record {
    always = λ moves.
        ap (λ (cs : List Column). map (λ c. c.count) cs) (printed_is moves)
        ∙ counts_are trace (state_of trace followed moves) (state_at trace moves).book (followed.made moves).1.shows.book (domains trace);
    past = was_past trace;
    printed = lines_printed;
  }

  pub prints_bound : PrintsBound trace
  prints_bound moves =
      ap (λ (cs : List Column). map bound_in cs) (printed_is moves)
      ∙ bounds_are trace (state_of trace followed moves) (state_at trace moves) (domains trace) (λ d less. (followed.made moves).1.shows.peak d less)

  pub bounded_closer : IsBoundedCloser trace
  bounded_closer moves d less =
      let set : Setting = setting_of trace in
      let made = followed.made moves in
      let holds = always_holds set (take made.0 followed.steps) ok made.1.allowed in
      let few = holds.bounded_closer d in
      let low = holds.hard_under_peak d in
      let peak = made.1.shows.peak d less in
      let book = ap (λ (b : Book). domain_count set b d) made.1.shows.book in
      omega (arith, few, low, peak, book)

  printed_within : (moves : ℕ) → AreWithin (printed_after (journal_of trace) (state_at trace moves).steps)
  printed_within moves = subst AreWithin (sym (printed_is moves)) (within_bounds trace (state_of trace followed moves) (rule_at moves) 0 (domains trace))

  pub bounded : IsBounded (journal_of trace)
  unfolding journal_of
  bounded =
      let homes : List ℕ = (journal_of trace).homes in
      let columns : List Column = first_columns 0 (journal_of trace).timer (journal_of trace).bases in
      within_all homes columns (last_state trace).steps (λ k less.
      let past = was_past trace k less in
      let next : k + 1 ≡ suc k = omega arith in
      subst (λ (steps : List StepEntry). AreWithin (columns_at homes columns steps)) (past.1 ∙ ap (λ (n : ℕ). take n (last_state trace).steps) next) (printed_within past.0))
