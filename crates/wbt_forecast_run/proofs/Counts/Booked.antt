-- What the steps of a run tell of its counts is kept by each item of a turn: each page is claimed once, by a flusher that holds it.
use Rattle.std.proofs.Common.{◌≡◌, ℕ, zero, suc, ◌+◌, ◌<◌, ◌≤◌, ◌&&◌, not, Bool, true, false, cond, eqb, ℤ, pos, ◌+ℤ◌, List, [], ◌∷◌, ◌++◌, length, map, set, get_or, All, refl, sym, ◌∙◌, ap, arith, ⊎_elim}
use Rattle.std.specs.List.{sum_by}
use Rattle.std.proofs.lemmas.Bool.{cases_lt}
use Rattle.std.proofs.lemmas.Int.{ints}
use Rattle.std.proofs.lemmas.List.{get_or_past}
use Rattle.std.proofs.lemmas.List.Sums.{sum_by-cons}
use Rattle.wbt_replay_order.proofs.Common.{Bits, Book, is_claimable, places, times_in, bits_at, put, one_if, is_inside, domain_count, Trace, is_in, StepEntry, page_of, context_of, Scan, State, no_cpu, no_flusher, no_task, Cpu, Flusher, ReplayTask, Todo, setting_of, first_cpu, IsPageOf, Suits, Sound, IsAt, IsWhose, WorkFits}
use Rattle.wbt_counter.specs.declared.counter.Counter.TheVariants.{Domain}
use Rattle.wbt_grant.proofs.Frames.{exact_shift}
use Rattle.wbt_replay_moves.specs.declared.state.ReplayPhase.TheVariants as phase
use Rattle.wbt_replay_moves.specs.declared.state.Whose.TheVariants as whose
use Rattle.wbt_replay_moves.specs.declared.todo.Step.TheVariants as step
use Rattle.wbt_replay_moves.specs.declared.todo.Todo.TheVariants as todo
use Rattle.wbt_replay_points.proofs.Claims.Counted.{are_homes}
use Rattle.wbt_forecast_rows.specs.Counts.{homes_of, count_after}
use Rattle.wbt_forecast_run.proofs.Counts.Quiet.{NoClaims, count_more, batch_in}

-- ---- what is kept

-- the items after the first
abbrev pub behind_first : (todos : List Todo) → List Todo
behind_first [] = []
behind_first (t ∷ more) = more

-- The steps tell the counts; a page is under writeback where a flusher holds it, and one does; and a claim is next where its word can be
-- claimed, and never later.
pub record BookedIn (trace : Trace) (book : Book) (steps : List StepEntry) (fs : List Flusher) (cs : List Cpu) : Type 0 where
  pub counts : (d : ℕ) → count_after (homes_of trace) d (pos 0) steps ≡ pos (domain_count (setting_of trace) book d)
  pub held : (p : ℕ) → sum_by (times_in p) (map batch_in fs) ≡ one_if (book p).writeback
  pub claims : (j f word : ℕ) (rest : List Todo) (scan : Scan) → (get_or cs j no_cpu).todo ≡ todo.Step (step.Claim word) ∷ rest
      → (get_or cs j no_cpu).turn.whose ≡ whose.Flusher f → (get_or fs f no_flusher).phase ≡ phase.Scanning scan
      → is_claimable (bits_at word (page_of scan)) ≡ true
  pub behind : (j : ℕ) → NoClaims (behind_first (get_or cs j no_cpu).todo)

abbrev pub IsBooked : (trace : Trace) (s : State) → Type 0
IsBooked trace s = BookedIn trace s.book s.steps s.flushers s.cpus

-- Each turn is of a task or a flusher of its CPU, and what they are at fits the trace.
pub record Seats (trace : Trace) (ts : List ReplayTask) (fs : List Flusher) (cs : List Cpu) : Type 0 where
  pub many : length cs ≡ trace.cpus
  pub flushers : length fs ≡ length trace.flushers
  pub turns : (j : ℕ) → j < trace.cpus → 1 ≤ length (get_or cs j no_cpu).todo → IsWhose trace j (get_or cs j no_cpu).turn.whose
  pub jobs : (j : ℕ) → j < trace.cpus → (get_or cs j no_cpu).jobs ≡ (first_cpu trace j).jobs
  pub next : (j : ℕ) → j < trace.cpus → 1 ≤ length (get_or cs j no_cpu).jobs → (get_or cs j no_cpu).next < length (get_or cs j no_cpu).jobs
  pub works : (t : ℕ) → t < length trace.tasks → All (WorkFits trace t) (get_or ts t no_task).works
  pub at : (f : ℕ) → IsAt trace (get_or fs f no_flusher).batch (get_or fs f no_flusher).phase

abbrev pub IsSeated : (trace : Trace) (s : State) → Type 0
IsSeated trace s = Seats trace s.tasks s.flushers s.cpus

pub seats_of : (trace : Trace) (s : State) → Sound trace s → IsSeated trace s
seats_of trace s sound =
    let h = sound.holds in
    record {
      many = h.cpus.many;
      flushers = h.flushers.many;
      turns = λ j less. (h.cpus.each j less).whose;
      jobs = λ j less. (h.cpus.each j less).jobs;
      next = λ j less. (h.cpus.each j less).next;
      works = λ t less. (h.tasks.each t less).works;
      at = λ f. (h.flushers.each f).phase;
    }

-- ---- numbers

pub rest_none : (todos : List Todo) → NoClaims todos → NoClaims (behind_first todos)
rest_none [] none = tt
rest_none (t ∷ more) none = none.1

pub some_todo : (t : Todo) (more : List Todo) (todos : List Todo) → todos ≡ t ∷ more → 1 ≤ length todos
some_todo t more todos is = omega (arith, ap (λ (l : List Todo). length l) is)

-- who has an item is there
pub seat_there : (cs : List Cpu) (j : ℕ) → 1 ≤ length (get_or cs j no_cpu).todo → j < length cs
seat_there cs j some = ⊎_elim (λ less. less)
    (λ past. absurd (omega (arith, some, ap (λ (c : Cpu). length c.todo) (get_or_past cs j no_cpu past))))
    (cases_lt j (length cs))

pub times_push : (q p : ℕ) (xs : List ℕ) → times_in q (xs ++ p ∷ []) ≡ times_in q xs + one_if (eqb q p)
times_push q p [] = omega arith
times_push q p (x ∷ xs) = let rest = times_push q p xs in omega (arith, rest)

pub held_set : (p g : ℕ) (f : Flusher) (fs : List Flusher) → g < length fs
    → sum_by (times_in p) (map batch_in (set fs g f)) + times_in p (get_or fs g no_flusher).batch ≡ sum_by (times_in p) (map batch_in fs) + times_in p f.batch
held_set p g f [] less = absurd (omega (arith, less))
held_set p zero f (x ∷ fs) less =
    omega (arith, sum_by-cons (times_in p) f.batch (map batch_in fs), sum_by-cons (times_in p) x.batch (map batch_in fs))
held_set p (suc g) f (x ∷ fs) less =
    let rest = held_set p g f fs (omega (arith, less)) in
    omega (arith, rest, sum_by-cons (times_in p) x.batch (map batch_in (set fs g f)), sum_by-cons (times_in p) x.batch (map batch_in fs))

-- where none is changed by the test, or by so many
changed : (b : Bool) (n m x y : ℕ) (a : ℤ) → n + cond b x 0 ≡ m + cond b y 0 → pos y ≡ pos x +ℤ a → pos m +ℤ cond b a (pos 0) ≡ pos n
changed true n m x y a shift more = omega (arith, ints, shift, more)
changed false n m x y a shift more = omega (arith, ints, shift)

same_under : (b : Bool) (n m x : ℕ) → n + cond b x 0 ≡ m + cond b x 0 → n ≡ m
same_under true n m x shift = omega (arith, shift)
same_under false n m x shift = omega (arith, shift)

-- ---- the bits of a page

-- what a bit of the page becomes, of all pages
pub put_bit : (book : Book) (p : ℕ) (b : Bits) (q : ℕ) → one_if (put book p b q).writeback ≡ cond (eqb q p) (one_if b.writeback) (one_if (book q).writeback)
put_bit book p b q = by_test (eqb q p)
  where
    by_test : (t : Bool) → one_if (cond t b (book q)).writeback ≡ cond t (one_if b.writeback) (one_if (book q).writeback)
    by_test true = refl
    by_test false = refl

pub claimable_dirty : (b : Bits) → is_claimable b ≡ true → (b.dirty ≡ true) × (b.writeback ≡ false)
claimable_dirty b = by_bits b.dirty b.writeback
  where
    by_bits : (d w : Bool) → (d && not w) ≡ true → (d ≡ true) × (w ≡ false)
    by_bits true false is = (refl, refl)
    by_bits true true is = absurd (cc is)
    by_bits false w is = absurd (cc is)

-- ---- counts

module _ (trace : Trace) (suits : Suits trace (setting_of trace)) (n p : ℕ) (page : IsPageOf trace n p) where
  home_there : (setting_of trace).home p < (setting_of trace).contexts
  home_there = suits.setting_is.homes p (suits.page n p page)

  -- A step that changes the page's places tells it with the page's context.
  pub page_counts : (book : Book) (b : Bits) (steps : List StepEntry) (e : StepEntry) (a : ℤ) → e.context ≡ context_of trace n → e.change ≡ a
      → pos (places b) ≡ pos (places (book p)) +ℤ a
      → ((d : ℕ) → count_after (homes_of trace) d (pos 0) steps ≡ pos (domain_count (setting_of trace) book d))
      → (d : ℕ) → count_after (homes_of trace) d (pos 0) (steps ++ e ∷ []) ≡ pos (domain_count (setting_of trace) (put book p b) d)
  page_counts book b steps e a context change more counts d =
      let set' = setting_of trace in
      let home = suits.home n p page in
      let shift = exact_shift set' book p b (suits.page n p page) home_there (Domain d) in
      let inside : is_in (homes_of trace) e.context d ≡ is_inside set' d (set'.home p) =
      ap (λ (k : ℕ). is_in (homes_of trace) k d) (context ∙ sym home) ∙ are_homes trace suits.setting_is p d (suits.page n p page) in
      count_more (homes_of trace) d (pos 0) steps (e ∷ [])
      ∙ (ap (λ (z : ℤ). z +ℤ cond (is_in (homes_of trace) e.context d) e.change (pos 0)) (counts d)
      ∙ (ap (λ (z : ℤ). pos (domain_count set' book d) +ℤ cond (is_in (homes_of trace) e.context d) z (pos 0)) change
      ∙ (ap (λ (t : Bool). pos (domain_count set' book d) +ℤ cond t a (pos 0)) inside
      ∙ changed (is_inside set' d (set'.home p)) (domain_count set' (put book p b) d) (domain_count set' book d) (places (book p)) (places b) a shift more)))

  -- A page whose places are as many changes no count.
  pub same_counts : (book : Book) (b : Bits) → places b ≡ places (book p) → (d : ℕ) → domain_count (setting_of trace) (put book p b) d ≡ domain_count (setting_of trace) book d
  same_counts book b same d =
      let set' = setting_of trace in
      let shift = exact_shift set' book p b (suits.page n p page) home_there (Domain d) in
      same_under (is_inside set' d (set'.home p)) (domain_count set' (put book p b) d) (domain_count set' book d) (places (book p))
      (shift ∙ ap (λ (k : ℕ). domain_count set' book d + cond (is_inside set' d (set'.home p)) k 0) same)
