-- The tasks of the opening, one action after another.
use Rattle.std.proofs.Common.{◌≡◌, ◌≢◌, ◌⊎◌, inl, inr, ℕ, zero, suc, ◌+◌, ◌<◌, ◌≤◌, cond, eqb, List, [], ◌∷◌, ◌++◌, length, get_or, set, map, take, drop, None, refl, sym, ◌∙◌, ap, arith, ⊎_elim, length-append, append-nil, eq-eqb, ne_eqb}
use Rattle.std.proofs.lemmas.Bool.{cases_eq, cond-true, cond-false}
use Rattle.std.proofs.lemmas.Grind.{flat_map-append}
use Rattle.std.proofs.lemmas.List.{ext_get_or, get_or_append_left, get_or_push, get_or-set_same, get_or-set_other, length-set, length-map, length-take, length-drop, map-append, take_more, take_all, drop_more}
use Rattle.wbt_replay_order.proofs.Common.{Action, TaskLine, Trace, pace_of, no_task, inode_of, ReplayTask, ReplayWork, first_task, first_tasks, work_of, works_of, ended_idle}
use Rattle.wbt_trace.specs.declared.trace.Action.TheVariants as action
use Rattle.wbt_replay_moves.specs.declared.state.ReplayWork.TheVariants as work
use Rattle.wbt_replay_order.specs.Kept.Opens.{ActionFits, doing, does_too, put_work, task_with}

abbrev no_line : TaskLine
no_line = record { cpu = 0; pace = None }

-- so many tasks, with what they do by these actions
abbrev pub tasks_doing : (trace : Trace) (actions : List Action) (n : ℕ) → List ReplayTask
tasks_doing trace actions zero = []
tasks_doing trace actions (suc n) = tasks_doing trace actions n ++ task_with trace (pace_of trace n) (works_of trace n actions) ∷ []

pub many_doing : (trace : Trace) (actions : List Action) (n : ℕ) → length (tasks_doing trace actions n) ≡ n
many_doing trace actions zero = refl
many_doing trace actions (suc n) =
    let is = many_doing trace actions n in
    omega (arith, is, length-append (tasks_doing trace actions n) (task_with trace (pace_of trace n) (works_of trace n actions) ∷ []))

-- a task that does nothing so far, with the pace of its line
abbrev idle_by : (trace : Trace) (line : TaskLine) → ReplayTask
idle_by trace line = task_with trace line.pace []

doing_none : (trace : Trace) (n : ℕ) → n ≤ length trace.tasks → tasks_doing trace [] n ≡ map (idle_by trace) (take n trace.tasks)
doing_none trace zero less = refl
doing_none trace (suc n) less =
    let line : TaskLine = get_or trace.tasks n no_line in
    ap (λ (l : List ReplayTask). l ++ idle_by trace line ∷ []) (doing_none trace n (omega (arith, less)))
    ∙ sym (map-append (idle_by trace) (take n trace.tasks) (line ∷ []))
    ∙ ap (map (idle_by trace)) (sym (take_more trace.tasks n no_line (omega (arith, less))))
    ∙ ap (λ (k : ℕ). map (idle_by trace) (take k trace.tasks)) (let e : n + 1 ≡ suc n = omega arith in e)

pub doing_nothing : (trace : Trace) → tasks_doing trace [] (length trace.tasks) ≡ map (idle_by trace) trace.tasks
doing_nothing trace =
    doing_none trace (length trace.tasks) (omega arith) ∙ ap (map (idle_by trace)) (take_all (length trace.tasks) trace.tasks (omega arith))

task_at : (trace : Trace) (actions : List Action) (n m : ℕ) (d : ReplayTask) → m < n → get_or (tasks_doing trace actions n) m d ≡ task_with trace (pace_of trace m) (works_of trace m actions)
task_at trace actions zero m d less = absurd (omega (arith, less))
task_at trace actions (suc n) m d less =
    let many = many_doing trace actions n in
    let last = task_with trace (pace_of trace n) (works_of trace n actions) in
    ⊎_elim
    (λ (same : m ≡ n). get_or_push (tasks_doing trace actions n) last d m (many ∙ sym same) ∙ ap (λ (k : ℕ). task_with trace (pace_of trace k) (works_of trace k actions)) (sym same))
    (λ (other : m ≢ n).
    let before : m < n = omega (arith, less, other) in
    get_or_append_left (tasks_doing trace actions n) (last ∷ []) d m (omega (arith, many, before)) ∙ task_at trace actions n m d before)
    (cases_eq m n)

-- ---- an action more

-- what it is to a task, where it is this work of another task or of this one
work_is : (trace : Trace) (k m : ℕ) (w : ReplayWork) → cond (eqb k m) (w ∷ []) [] ≡ cond (eqb m k) (w ∷ []) []
work_is trace k m w = ⊎_elim
    (λ (same : m ≡ k). cond-true (eqb k m) (w ∷ []) [] (eq-eqb k m (sym same)) ∙ sym (cond-true (eqb m k) (w ∷ []) [] (eq-eqb m k same)))
    (λ (other : m ≢ k). cond-false (eqb k m) (w ∷ []) [] (ne_eqb k m (λ e. other (sym e))) ∙ sym (cond-false (eqb m k) (w ∷ []) [] (ne_eqb m k other)))
    (cases_eq m k)

module _ (trace : Trace) (actions : List Action) (n k : ℕ) (less : k < n) (w : ReplayWork) (a : Action)
    (is : (m : ℕ) → work_of trace m a ≡ cond (eqb m k) (w ∷ []) []) where
  more_works : (m : ℕ) → works_of trace m (actions ++ a ∷ []) ≡ works_of trace m actions ++ cond (eqb m k) (w ∷ []) []
  more_works m = flat_map-append (work_of trace m) actions (a ∷ []) ∙ ap (λ (l : List ReplayWork). works_of trace m actions ++ l) (append-nil (work_of trace m a) ∙ is m)

  there : k < length (tasks_doing trace actions n)
  there = omega (arith, less, many_doing trace actions n)

  after_at : (m : ℕ) → m < n → get_or (doing k w (tasks_doing trace actions n)) m no_task ≡ get_or (tasks_doing trace (actions ++ a ∷ []) n) m no_task
  after_at m below = by_place (cases_eq m k)
    where
      later : get_or (tasks_doing trace (actions ++ a ∷ []) n) m no_task ≡ task_with trace (pace_of trace m) (works_of trace m actions ++ cond (eqb m k) (w ∷ []) [])
      later = task_at trace (actions ++ a ∷ []) n m no_task below ∙ ap (task_with trace (pace_of trace m)) (more_works m)

      by_place : (m ≡ k) ⊎ (m ≢ k) → get_or (doing k w (tasks_doing trace actions n)) m no_task ≡ get_or (tasks_doing trace (actions ++ a ∷ []) n) m no_task
      by_place (inl same) =
          ap (λ (j : ℕ). get_or (doing k w (tasks_doing trace actions n)) j no_task) same
          ∙ get_or-set_same (tasks_doing trace actions n) k (does_too w (get_or (tasks_doing trace actions n) k no_task)) no_task there
          ∙ ap (does_too w) (task_at trace actions n k no_task less)
          ∙ ap (λ (j : ℕ). task_with trace (pace_of trace j) (works_of trace j actions ++ w ∷ [])) (sym same)
          ∙ ap (λ (l : List ReplayWork). task_with trace (pace_of trace m) (works_of trace m actions ++ l)) (sym (cond-true (eqb m k) (w ∷ []) [] (eq-eqb m k same)))
          ∙ sym later
      by_place (inr other) =
          get_or-set_other (tasks_doing trace actions n) k m (does_too w (get_or (tasks_doing trace actions n) k no_task)) no_task other
          ∙ task_at trace actions n m no_task below
          ∙ ap (task_with trace (pace_of trace m)) (sym (append-nil (works_of trace m actions)))
          ∙ ap (λ (l : List ReplayWork). task_with trace (pace_of trace m) (works_of trace m actions ++ l)) (sym (cond-false (eqb m k) (w ∷ []) [] (ne_eqb m k other)))
          ∙ sym later

  put_one : doing k w (tasks_doing trace actions n) ≡ tasks_doing trace (actions ++ a ∷ []) n
  put_one =
      let before = many_doing trace actions n in
      let after = many_doing trace (actions ++ a ∷ []) n in
      let same = length-set (tasks_doing trace actions n) k (does_too w (get_or (tasks_doing trace actions n) k no_task)) in
      ext_get_or no_task (doing k w (tasks_doing trace actions n)) (tasks_doing trace (actions ++ a ∷ []) n) (omega (arith, before, after, same))
      (λ m below. after_at m (omega (arith, below, same, before)))

pub put_more : (trace : Trace) (actions : List Action) (a : Action) → ActionFits trace a
    → put_work trace a (tasks_doing trace actions (length trace.tasks)) ≡ tasks_doing trace (actions ++ a ∷ []) (length trace.tasks)
put_more trace actions (action.Write task inode from pages) fits =
    let w = work.Write inode ((inode_of trace inode).first + from) pages in
    put_one trace actions (length trace.tasks) task fits.0 w (action.Write task inode from pages) (λ m. work_is trace task m w)
put_more trace actions (action.Rest task ticks) fits =
    put_one trace actions (length trace.tasks) task fits (work.Rest ticks) (action.Rest task ticks) (λ m. work_is trace task m (work.Rest ticks))

-- ---- tasks without actions end

pub ended_are_first : (trace : Trace) (n : ℕ) → map ended_idle (tasks_doing trace trace.actions n) ≡ first_tasks trace n
ended_are_first trace zero = refl
ended_are_first trace (suc n) =
    map-append ended_idle (tasks_doing trace trace.actions n) (task_with trace (pace_of trace n) (works_of trace n trace.actions) ∷ [])
    ∙ ap (λ (l : List ReplayTask). l ++ first_task trace (pace_of trace n) (works_of trace n trace.actions) ∷ []) (ended_are_first trace n)

-- a list of which the first places are done, and the next one
pub many_done : (f : ReplayTask → ReplayTask) (xs : List ReplayTask) (k : ℕ) → k ≤ length xs → length (map f (take k xs) ++ drop k xs) ≡ length xs
many_done f xs k less =
    let front = length-map (take k xs) f in
    omega (arith, less, front, length-take k xs, length-drop k xs, length-append (map f (take k xs)) (drop k xs))

pub next_here : (f : ReplayTask → ReplayTask) (xs : List ReplayTask) (k : ℕ) (d : ReplayTask) → k < length xs → get_or (map f (take k xs) ++ drop k xs) k d ≡ get_or xs k d
next_here f xs k d less =
    let done = map f (take k xs) in
    ap (λ (l : List ReplayTask). get_or (done ++ l) k d) (drop_more xs k d less) ∙ at_end done (get_or xs k d) (drop (k + 1) xs) k many
  where
    many : length (map f (take k xs)) ≡ k
    many = let front = length-map (take k xs) f in omega (arith, less, front, length-take k xs)

    at_end : (ys : List ReplayTask) (y : ReplayTask) (zs : List ReplayTask) (j : ℕ) → length ys ≡ j → get_or (ys ++ y ∷ zs) j d ≡ y
    at_end [] y zs zero same = refl
    at_end [] y zs (suc j) same = absurd (omega (arith, same))
    at_end (x ∷ ys) y zs zero same = absurd (omega (arith, same))
    at_end (x ∷ ys) y zs (suc j) same = at_end ys y zs j (omega (arith, same))

pub next_done : (f : ReplayTask → ReplayTask) (xs : List ReplayTask) (k : ℕ) (d v : ReplayTask) → k < length xs → v ≡ f (get_or xs k d)
    → set (map f (take k xs) ++ drop k xs) k v ≡ map f (take (k + 1) xs) ++ drop (k + 1) xs
next_done f xs k d v less is =
    let done = map f (take k xs) in
    let many : length done ≡ k = length-map (take k xs) f ∙ short in
    let next : drop k xs ≡ get_or xs k d ∷ drop (k + 1) xs = drop_more xs k d less in
    ap (λ (l : List ReplayTask). set (done ++ l) k v) next ∙ put_at done k v (get_or xs k d) (drop (k + 1) xs) many
    ∙ ap (λ (y : ReplayTask). done ++ y ∷ drop (k + 1) xs) is
    ∙ sym (ap (λ (l : List ReplayTask). map f l ++ drop (k + 1) xs) (take_more xs k d less) ∙ ap (λ (l : List ReplayTask). l ++ drop (k + 1) xs) (map-append f (take k xs) (get_or xs k d ∷ []))
    ∙ pushed done (f (get_or xs k d)) (drop (k + 1) xs))
  where
    short : length (take k xs) ≡ k
    short = omega (arith, less, length-take k xs)

    pushed : (ys : List ReplayTask) (y : ReplayTask) (zs : List ReplayTask) → (ys ++ y ∷ []) ++ zs ≡ ys ++ y ∷ zs
    pushed [] y zs = refl
    pushed (x ∷ ys) y zs = ap (λ (l : List ReplayTask). x ∷ l) (pushed ys y zs)

    put_at : (ys : List ReplayTask) (j : ℕ) (y x : ReplayTask) (zs : List ReplayTask) → length ys ≡ j → set (ys ++ x ∷ zs) j y ≡ ys ++ y ∷ zs
    put_at [] zero y x zs same = refl
    put_at [] (suc j) y x zs same = absurd (omega (arith, same))
    put_at (z ∷ ys) zero y x zs same = absurd (omega (arith, same))
    put_at (z ∷ ys) (suc j) y x zs same = ap (λ (l : List ReplayTask). z ∷ l) (put_at ys j y x zs (omega (arith, same)))
