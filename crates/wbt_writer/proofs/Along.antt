-- A task passes pages and rests: what it still writes goes on.
use Rattle.std.proofs.Common.{◌≡◌, ◌≢◌, ℕ, zero, suc, ◌+◌, ◌-◌, ◌<◌, ◌≤◌, Bool, true, false, cond, eqb, leb, Option, Some, None, IfSome, List, [], ◌∷◌, ◌++◌, length, flat_map, drop, get_or, slice_get, refl, sym, ap, ◌∙◌, subst, arith, eq-eqb, ne_eqb}
use Rattle.std.proofs.lemmas.Bool.{cond-true, cond-false}
use Rattle.std.proofs.lemmas.Bool.Decides.{nat_tests}
use Rattle.std.proofs.lemmas.List.Elements.{All-get_or}
use Rattle.std.proofs.lemmas.List.{drop_more, drop_all, drop-drop, drop-append-le}
use Rattle.std.proofs.lemmas.Option.{slice_get_within, get_or_from_slice_get, slice_get-get_or}
use Rattle.wbt_writer.proofs.Common.{pages_of_action, pages_of_task, pace_of, since_after, IsLawful, Action, Write, Rest, Inode, Pace, Trace, MOST_PAGES, Skips, IsAlong, HasPage, first_page}
use Rattle.wbt_journal.specs.Machine.{numbers, rests_after}
use Rattle.wbt_rules.specs.Pace.{pause_of}
use Rattle.wbt_trace.specs.Lawful.{HasPace, IsAction, IsPace}
use Rattle.wbt_writer.specs.declared.task.TaskPlace.{TaskPlace}
use Rattle.wbt_writer.specs.Ahead.{by_of, pages_in, pages_from, ahead, IsUnderWay, ComesNext}
use Rattle.wbt_writer.specs.declared.task.Next.TheVariants as next
use Rattle.std.proofs.lemmas.List.Sums.{get_or-le-sum_by}
use Rattle.wbt_trace.specs.declared.ranges.TheConstants.{MOST_COUNT}

-- ---- lists

pub drop_found : {A : Type 0} (xs : List A) (i : ℕ) (x : A) → slice_get xs i ≡ Some x → drop i xs ≡ x ∷ drop (i + 1) xs
drop_found xs i x is = drop_more xs i x (slice_get_within xs i x is) ∙ ap (λ y. y ∷ drop (i + 1) xs) (get_or_from_slice_get xs i x x is)

-- a list from its second item on
pub drop_next : {A : Type 0} (n : ℕ) (xs more : List A) (x : A) → drop n xs ≡ x ∷ more → drop (n + 1) xs ≡ more
drop_next n xs more x is = sym (drop-drop 1 n xs) ∙ ap (λ ys. drop 1 ys) is

pub length_numbers : (from count : ℕ) → length (numbers from count) ≡ count
length_numbers from zero = refl
length_numbers from (suc count) = ap suc (length_numbers (from + 1) count)

numbers_at : (from count n : ℕ) → n < count → drop n (numbers from count) ≡ (from + n) ∷ drop (suc n) (numbers from count)
numbers_at from zero n less = absurd (omega arith)
numbers_at from (suc count) zero less = ap (λ k. k ∷ numbers (from + 1) count) (let e : from ≡ from + 0 = omega arith in e)
numbers_at from (suc count) (suc n) less =
    numbers_at (from + 1) count n (omega arith) ∙ ap (λ k. k ∷ drop (suc n) (numbers (from + 1) count)) (let e : from + 1 + n ≡ from + suc n = omega arith in e)

numbers_from : (from count n : ℕ) → n < count → drop n (numbers from count) ≡ (from + n) ∷ drop (n + 1) (numbers from count)
numbers_from from count n less = numbers_at from count n less ∙ ap (λ k. (from + n) ∷ drop k (numbers from count)) (let e : suc n ≡ n + 1 = omega arith in e)

-- what a slice's place has, of the list that the slice is
abbrev no_action : Action
no_action = Write 0 0 0 0

pub found_in : (xs ys : List Action) → xs ≡ ys → (i : ℕ) (x : Action) → i < length xs → get_or xs i no_action ≡ x → slice_get ys i ≡ Some x
found_in xs ys same i x less is = subst (λ zs. slice_get zs i ≡ Some x) same (slice_get-get_or xs i no_action less ∙ ap Some is)

-- and how many pages it writes
pub pages_found : (xs ys : List Action) → xs ≡ ys → (i task inode from pages count : ℕ) → slice_get ys i ≡ Some (Write task inode from pages)
    → count ≡ pages_in (get_or xs i no_action) → count ≡ pages
pages_found xs ys same i task inode from pages count is found = found
    ∙ ap (λ zs. pages_in (get_or zs i no_action)) same ∙ ap pages_in (get_or_from_slice_get ys i (Write task inode from pages) no_action is)

-- ---- actions of others

pub others_none : (inodes : List Inode) (task : ℕ) (action : Action) → by_of action ≢ task → pages_of_action inodes task action ≡ []
others_none inodes task (Write by inode from pages) other = cond-false (eqb by task) _ _ (ne_eqb by task other)
others_none inodes task (Rest by ticks) other = refl

pub others_rest_none : (task : ℕ) (so_far : Bool) (action : Action) (more : List Action) → by_of action ≢ task → rests_after task so_far (action ∷ more) ≡ rests_after task so_far more
others_rest_none task so_far (Write by inode from pages) more other = ap (λ b. rests_after task b more) (cond-false (eqb by task) false so_far (ne_eqb by task other))
others_rest_none task so_far (Rest by ticks) more other = ap (λ b. rests_after task b more) (cond-false (eqb by task) true so_far (ne_eqb by task other))

pub skips_none : (task at : ℕ) (actions : List Action) → Skips task at at actions
skips_none task at actions = record { pages = λ inodes. refl; rests = λ so_far. refl }

pub skips_one : (task from at : ℕ) (actions : List Action) (action : Action) → Skips task from at actions → slice_get actions at ≡ Some action
    → by_of action ≢ task → Skips task from (at + 1) actions
skips_one task from at actions action so_far is other =
    let e = drop_found actions at action is in
    record {
      pages = λ inodes. so_far.pages inodes ∙ ap (flat_map (pages_of_action inodes task)) e
          ∙ ap (λ (front : List ℕ). front ++ flat_map (pages_of_action inodes task) (drop (at + 1) actions)) (others_none inodes task action other);
      rests = λ b. so_far.rests b ∙ ap (rests_after task b) e ∙ others_rest_none task b action (drop (at + 1) actions) other;
    }

pub skips_more : (task from at by : ℕ) (xs ys : List Action) → xs ≡ ys → Skips task from at ys → at < length xs → by ≡ by_of (get_or xs at no_action)
    → by ≢ task → Skips task from (at + 1) ys
skips_more task from at by xs ys same so_far less is other =
    skips_one task from at ys (get_or xs at no_action) so_far (found_in xs ys same at (get_or xs at no_action) less refl) (λ e. other (is ∙ e))

-- where an action of the task comes, what came before tells nothing
own_rests : (task : ℕ) (a b : Bool) (action : Action) (more : List Action) → by_of action ≡ task → rests_after task a (action ∷ more) ≡ rests_after task b (action ∷ more)
own_rests task a b (Write by inode from pages) more own =
    ap (λ c. rests_after task c more) (cond-true (eqb by task) false a (eq-eqb by task own) ∙ sym (cond-true (eqb by task) false b (eq-eqb by task own)))
own_rests task a b (Rest by ticks) more own =
    ap (λ c. rests_after task c more) (cond-true (eqb by task) true a (eq-eqb by task own) ∙ sym (cond-true (eqb by task) true b (eq-eqb by task own)))

-- ---- where a task stands

pub is_action : (trace : Trace) → IsLawful trace → (at : ℕ) (action : Action) → slice_get trace.actions at ≡ Some action
    → IsAction (length trace.tasks) trace.inodes action
is_action trace lawful at action is = subst (IsAction (length trace.tasks) trace.inodes) (get_or_from_slice_get trace.actions at action action is)
    (lawful.within.actions at action (slice_get_within trace.actions at action is))

pub begins : (trace : Trace) → IsLawful trace → (task at : ℕ) (action : Action) → slice_get trace.actions at ≡ Some action → by_of action ≡ task → IsUnderWay task 0 action
begins trace lawful task at (Write by inode from pages) is own = (own, let some = (is_action trace lawful at (Write by inode from pages) is).2 in omega arith)
begins trace lawful task at (Rest by ticks) is own = (own, refl)

-- so does what comes after others' actions
pub rests_from : (trace : Trace) (task from to : ℕ) (a : Bool) (last : Bool) → Skips task from to trace.actions → ((action : Action) → slice_get trace.actions to ≡ Some action → by_of action ≡ task)
    → rests_after task a (drop from trace.actions) ≡ last → (b : Bool) → to < length trace.actions → rests_after task b (drop to trace.actions) ≡ last
rests_from trace task from to a last skips own is b less =
    let d : Action = Rest 0 0 in
    let action = get_or trace.actions to d in
    let there : slice_get trace.actions to ≡ Some action = slice_get-get_or trace.actions to d less in
    let e = drop_found trace.actions to action there in
    ap (rests_after task b) e ∙ own_rests task b a action (drop (to + 1) trace.actions) (own action there) ∙ sym (ap (rests_after task a) e) ∙ sym (skips.rests a) ∙ is

-- ---- the task's pace

is_pace : (trace : Trace) → IsLawful trace → (task : ℕ) → task < length trace.tasks → IfSome (pace_of trace task) IsPace
is_pace trace lawful task there = All-get_or HasPace trace.tasks task (record { cpu = 0; pace = None }) there lawful.within.paces

-- after a page more, before which it doesn't rest
since_fits : (pace : Option Pace) (since : ℕ) → IfSome pace IsPace → pause_of pace since ≡ None → since_after pace since ≤ MOST_PAGES
since_fits None since is none = omega arith
since_fits (Some pace) since is none = cut (leb pace.pages since) none (λ e. grind (arith, nat_tests))
  where
    cut : (b : Bool) → cond b (Some pace.ticks) None ≡ None → (b ≡ false → since < pace.pages) → since + 1 ≤ MOST_PAGES
    cut true e f = cc e
    cut false e f = let less = f refl in let most = is.pages.1 in omega (arith, less, most)

-- for which it rests no longer than a trace may say
pause_fits : (pace : Option Pace) (since ticks : ℕ) → IfSome pace IsPace → pause_of pace since ≡ Some ticks → ticks ≤ MOST_COUNT
pause_fits None since ticks is rests = cc rests
pause_fits (Some pace) since ticks is rests = cut (leb pace.pages since) rests
  where
    same : (a b : ℕ) → Some a ≡ Some b → a ≡ b
    same a b e = cc e

    cut : (b : Bool) → cond b (Some pace.ticks) None ≡ Some ticks → ticks ≤ MOST_COUNT
    cut true e = let ticks_are = same pace.ticks ticks e in let most = is.ticks.1 in omega (arith, ticks_are, most)
    cut false e = cc e

-- ---- what passing makes of it

module _ (trace : Trace) (task : ℕ) (t : TaskPlace) (along : IsAlong trace task t) where
  abbrev actions : List Action
  actions = trace.actions

  -- the pages of an action under way, and those after it
  pub from_write : (inode from pages : ℕ) → slice_get actions t.at ≡ Some (Write task inode from pages)
      → pages_from trace task t.at ≡ numbers (first_page trace inode + from) pages ++ pages_from trace task (t.at + 1)
  from_write inode from pages is =
      ap (flat_map (pages_of_action trace.inodes task)) (drop_found actions t.at (Write task inode from pages) is)
      ∙ ap (λ (front : List ℕ). front ++ pages_from trace task (t.at + 1)) (cond-true (eqb task task) _ _ (eq-eqb task task refl))

  pub not_over : (inode from pages : ℕ) → slice_get actions t.at ≡ Some (Write task inode from pages) → t.done < pages
  not_over inode from pages is = (along.under_way (Write task inode from pages) is).1

  pub ahead_write : (inode from pages : ℕ) → slice_get actions t.at ≡ Some (Write task inode from pages)
      → ahead trace task t ≡ (first_page trace inode + (from + t.done)) ∷ (drop (t.done + 1) (numbers (first_page trace inode + from) pages) ++ pages_from trace task (t.at + 1))
  ahead_write inode from pages is =
      let first = first_page trace inode + from in
      let less = not_over inode from pages is in
      let long = length_numbers first pages in
      ap (drop t.done) (from_write inode from pages is)
      ∙ drop-append-le t.done (numbers first pages) (pages_from trace task (t.at + 1)) (omega arith)
      ∙ ap (λ (ps : List ℕ). ps ++ pages_from trace task (t.at + 1)) (numbers_from first pages t.done less)
      ∙ ap (λ (p : ℕ). p ∷ (drop (t.done + 1) (numbers first pages) ++ pages_from trace task (t.at + 1))) (let e : first_page trace inode + from + t.done ≡ first_page trace inode + (from + t.done) = omega arith in e)

  tail_of : (inode from pages : ℕ) → List ℕ
  tail_of inode from pages = drop (t.done + 1) (numbers (first_page trace inode + from) pages) ++ pages_from trace task (t.at + 1)

  -- one page less is ahead
  still_next : (p : ℕ) (tail : List ℕ) → ahead trace task t ≡ p ∷ tail → drop (t.written + 1) (pages_of_task trace task) ≡ tail
  still_next p tail is = drop_next t.written (pages_of_task trace task) tail p (sym along.still ∙ is)

  pub some_left : (p : ℕ) (tail : List ℕ) → ahead trace task t ≡ p ∷ tail → t.todo ≡ length tail + 1
  some_left p tail is = let e : t.todo ≡ suc (length tail) = along.todo ∙ ap length is in omega arith

  is_counted : IsLawful trace → (inode from pages : ℕ) → slice_get actions t.at ≡ Some (Write task inode from pages) → pause_of (pace_of trace task) t.since ≡ None
      → since_after (pace_of trace task) t.since ≤ MOST_PAGES
  is_counted lawful inode from pages is none = since_fits (pace_of trace task) t.since (is_pace trace lawful task (is_action trace lawful t.at (Write task inode from pages) is).0) none

  pub within : IsLawful trace → (inode from pages since : ℕ) → slice_get actions t.at ≡ Some (Write task inode from pages) → pause_of (pace_of trace task) t.since ≡ None
      → since ≡ since_after (pace_of trace task) t.since → t.done + 1 < pages → IsAlong trace task (record t { done = t.done + 1; written = t.written + 1; todo = t.todo - 1; since = since })
  within lawful inode from pages since is no_pause since_is less =
      let a = ahead_write inode from pages is in
      let tail = drop (t.done + 1) (numbers (first_page trace inode + from) pages) ++ pages_from trace task (t.at + 1) in
      let now : drop (t.done + 1) (pages_from trace task t.at) ≡ tail = drop_next t.done (pages_from trace task t.at) tail _ a in
      let one = some_left _ tail a in
      record {
        still = now ∙ sym (still_next _ tail a);
        todo = (let e : t.todo - 1 ≡ length tail = omega arith in e) ∙ ap length (sym now);
        few = let few = along.few in omega arith;
        place = along.place;
        under_way = λ action there. same_action action there;
        rests = along.rests;
        last_is = along.last_is;
        since = let few = is_counted lawful inode from pages is no_pause in omega arith;
      }
    where
      same_action : (action : Action) → slice_get actions t.at ≡ Some action → IsUnderWay task (t.done + 1) action
      same_action action there = subst (IsUnderWay task (t.done + 1)) (sym (get_or_from_slice_get actions t.at (Write task inode from pages) action is) ∙ get_or_from_slice_get actions t.at action action there) (refl, less)

  pub over : IsLawful trace → (inode from pages to since : ℕ) → slice_get actions t.at ≡ Some (Write task inode from pages) → pause_of (pace_of trace task) t.since ≡ None
      → since ≡ since_after (pace_of trace task) t.since → pages ≤ t.done + 1
      → to ≤ length actions → ((action : Action) → slice_get actions to ≡ Some action → by_of action ≡ task) → Skips task (t.at + 1) to actions
      → IsAlong trace task (record t { at = to; done = 0; written = t.written + 1; todo = t.todo - 1; since = since })
  over lawful inode from pages to since is no_pause since_is last in_range own skips =
      let a = ahead_write inode from pages is in
      let first = first_page trace inode + from in
      let tail = drop (t.done + 1) (numbers first pages) ++ pages_from trace task (t.at + 1) in
      let long = length_numbers first pages in
      let none : drop (t.done + 1) (numbers first pages) ≡ [] = drop_all (t.done + 1) (numbers first pages) (omega arith) in
      let now : pages_from trace task to ≡ tail = sym (skips.pages trace.inodes) ∙ sym (ap (λ (ps : List ℕ). ps ++ pages_from trace task (t.at + 1)) none) in
      let one = some_left _ tail a in
      record {
        still = now ∙ sym (still_next _ tail a);
        todo = (let e : t.todo - 1 ≡ length tail = omega arith in e) ∙ ap length (sym now);
        few = let few = along.few in omega arith;
        place = in_range;
        under_way = λ action there. begins trace lawful task to action there (own action there);
        rests = rests_from trace task (t.at + 1) to false t.rests_last skips own
            (sym (ap (λ c. rests_after task c (drop (t.at + 1) actions)) (cond-true (eqb task task) false true (eq-eqb task task refl)))
            ∙ sym (ap (rests_after task true) (drop_found actions t.at (Write task inode from pages) is)) ∙ along.rests true (slice_get_within actions t.at _ is));
        last_is = along.last_is;
        since = let few = is_counted lawful inode from pages is no_pause in omega arith;
      }

  pub no_rest_behind : (inode from pages to : ℕ) → slice_get actions t.at ≡ Some (Write task inode from pages) → Skips task (t.at + 1) to actions
      → length actions ≤ to → t.rests_last ≡ false
  no_rest_behind inode from pages to is skips past =
      sym (sym (ap (λ c. rests_after task c (drop (t.at + 1) actions)) (cond-true (eqb task task) false true (eq-eqb task task refl)))
      ∙ sym (ap (rests_after task true) (drop_found actions t.at (Write task inode from pages) is)) ∙ along.rests true (slice_get_within actions t.at _ is))
      ∙ skips.rests false ∙ ap (rests_after task false) (drop_all to actions past)

  -- ---- a rest

  from_rest : (ticks : ℕ) → slice_get actions t.at ≡ Some (Rest task ticks) → pages_from trace task t.at ≡ pages_from trace task (t.at + 1)
  from_rest ticks is = ap (flat_map (pages_of_action trace.inodes task)) (drop_found actions t.at (Rest task ticks) is)

  pub not_begun : (ticks : ℕ) → slice_get actions t.at ≡ Some (Rest task ticks) → t.done ≡ 0
  not_begun ticks is = (along.under_way (Rest task ticks) is).1

  rests_behind : (ticks : ℕ) → slice_get actions t.at ≡ Some (Rest task ticks) → rests_after task true (drop (t.at + 1) actions) ≡ t.rests_last
  rests_behind ticks is = sym (ap (λ c. rests_after task c (drop (t.at + 1) actions)) (cond-true (eqb task task) true true (eq-eqb task task refl)))
      ∙ sym (ap (rests_after task true) (drop_found actions t.at (Rest task ticks) is)) ∙ along.rests true (slice_get_within actions t.at _ is)

  ahead_rest : (ticks to : ℕ) → slice_get actions t.at ≡ Some (Rest task ticks) → Skips task (t.at + 1) to actions
      → ahead trace task t ≡ drop t.done (pages_from trace task to)
  ahead_rest ticks to is skips = ap (drop t.done) (from_rest ticks is ∙ skips.pages trace.inodes)

  pub rested : IsLawful trace → (ticks to : ℕ) → slice_get actions t.at ≡ Some (Rest task ticks)
      → to ≤ length actions → ((action : Action) → slice_get actions to ≡ Some action → by_of action ≡ task) → Skips task (t.at + 1) to actions
      → IsAlong trace task (record t { at = to })
  rested lawful ticks to is in_range own skips = record {
    still = sym (ahead_rest ticks to is skips) ∙ along.still;
    todo = along.todo ∙ ap length (ahead_rest ticks to is skips);
    few = along.few;
    place = in_range;
    under_way = λ action there. subst (λ (d : ℕ). IsUnderWay task d action) (sym (not_begun ticks is)) (begins trace lawful task to action there (own action there));
    rests = rests_from trace task (t.at + 1) to true t.rests_last skips own (rests_behind ticks is);
    last_is = along.last_is;
    since = along.since;
  }

  pub rests_at_last : (ticks to : ℕ) → slice_get actions t.at ≡ Some (Rest task ticks) → Skips task (t.at + 1) to actions → length actions ≤ to → t.rests_last ≡ true
  rests_at_last ticks to is skips past = sym (rests_behind ticks is) ∙ skips.rests true ∙ ap (rests_after task true) (drop_all to actions past)

  pub none_left : (ticks to : ℕ) → slice_get actions t.at ≡ Some (Rest task ticks) → Skips task (t.at + 1) to actions → length actions ≤ to → t.todo ≡ 0
  none_left ticks to is skips past = along.todo ∙ ap length (ahead_rest ticks to is skips
      ∙ ap (λ (rest : List Action). drop t.done (flat_map (pages_of_action trace.inodes task) rest)) (drop_all to actions past) ∙ drop_all t.done [] (omega arith))

-- ---- what comes next

pub found_own : (trace : Trace) (task : ℕ) (t : TaskPlace) (along : IsAlong trace task t) (action : Action) → slice_get trace.actions t.at ≡ Some action → by_of action ≡ task
found_own trace task t along (Write by inode from pages) is = (along.under_way (Write by inode from pages) is).0
found_own trace task t along (Rest by ticks) is = (along.under_way (Rest by ticks) is).0

page_next : (trace : Trace) (task : ℕ) (t : TaskPlace) → IsAlong trace task t → IsLawful trace → (by inode from pages : ℕ)
    → slice_get trace.actions t.at ≡ Some (Write by inode from pages) → HasPage trace inode (from + t.done)
page_next trace task t along lawful by inode from pages is =
    let own = found_own trace task t along (Write by inode from pages) is in
    let there = subst (λ (b : ℕ). slice_get trace.actions t.at ≡ Some (Write b inode from pages)) own is in
    let action = is_action trace lawful t.at (Write by inode from pages) is in
    let less = not_over trace task t along inode from pages there in
    record { inode_is = action.1; page_is = let fits = action.3 in omega arith }

-- there is a task that writes
pub is_there : (trace : Trace) → IsLawful trace → (task : ℕ) (t : TaskPlace) → IsAlong trace task t → (by inode from pages : ℕ)
    → slice_get trace.actions t.at ≡ Some (Write by inode from pages) → task < length trace.tasks
is_there trace lawful task t along by inode from pages is =
    subst (λ (b : ℕ). b < length trace.tasks) (found_own trace task t along (Write by inode from pages) is) (is_action trace lawful t.at (Write by inode from pages) is).0

pub next_write : (trace : Trace) (task : ℕ) (t : TaskPlace) → IsAlong trace task t → IsLawful trace → (by inode from pages : ℕ)
    → slice_get trace.actions t.at ≡ Some (Write by inode from pages) → pause_of (pace_of trace task) t.since ≡ None → ComesNext trace task t (next.Write inode (from + t.done))
next_write trace task t along lawful by inode from pages is none =
    let there = subst (λ (b : ℕ). slice_get trace.actions t.at ≡ Some (Write b inode from pages)) (found_own trace task t along (Write by inode from pages) is) is in
    ((page_next trace task t along lawful by inode from pages is, _, ahead_write trace task t along inode from pages there), (from, pages, there), none)

pub next_pause : (trace : Trace) (task : ℕ) (t : TaskPlace) → IsAlong trace task t → (by inode from pages ticks : ℕ)
    → slice_get trace.actions t.at ≡ Some (Write by inode from pages) → pause_of (pace_of trace task) t.since ≡ Some ticks → ComesNext trace task t (next.Pause ticks)
next_pause trace task t along by inode from pages ticks is pause =
    (pause, (inode, from, pages, subst (λ (b : ℕ). slice_get trace.actions t.at ≡ Some (Write b inode from pages)) (found_own trace task t along (Write by inode from pages) is) is))

pub pause_is_short : (trace : Trace) → IsLawful trace → (task : ℕ) (t : TaskPlace) (ticks : ℕ) → task < length trace.tasks → ComesNext trace task t (next.Pause ticks) → ticks ≤ MOST_COUNT
pause_is_short trace lawful task t ticks there comes = pause_fits (pace_of trace task) t.since ticks (is_pace trace lawful task there) comes.0

pub next_rest : (trace : Trace) (task : ℕ) (t : TaskPlace) → IsAlong trace task t → (by ticks : ℕ)
    → slice_get trace.actions t.at ≡ Some (Rest by ticks) → ComesNext trace task t (next.Rest ticks)
next_rest trace task t along by ticks is =
    subst (λ (b : ℕ). slice_get trace.actions t.at ≡ Some (Rest b ticks)) (found_own trace task t along (Rest by ticks) is) is

pub page_fits : (trace : Trace) → IsLawful trace → (task : ℕ) (t : TaskPlace) → IsAlong trace task t → (by inode from pages : ℕ)
    → slice_get trace.actions t.at ≡ Some (Write by inode from pages) → from + t.done < MOST_PAGES
page_fits trace lawful task t along by inode from pages is =
    let page = page_next trace task t along lawful by inode from pages is in
    let at_most = get_or-le-sum_by (λ (i : Inode). i.pages) trace.inodes inode (record { context = 0; first = 0; pages = 0 }) page.inode_is in
    let all = lawful.within.inodes.total in let less = page.page_is in omega arith
