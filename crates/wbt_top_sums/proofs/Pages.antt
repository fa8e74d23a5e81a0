-- The pages that a journal of a lawful trace tells are pages that there are, and writes are of tasks that there are.
use Rattle.std.proofs.Common.{◌≡◌, ℕ, zero, suc, ◌+◌, ◌<◌, ◌≤◌, ◌⊎◌, inl, inr, Bool, true, false, ◌&&◌, ◌==◌, cond, if◌then◌else◌, ltb, leb, Option, Some, None, IfSome, List, [], ◌∷◌, ◌++◌, length, map, get_or, flat_map, refl, sym, subst, arith, All, true≢false}
use Rattle.std.proofs.lemmas.Bool.{cases_Bool, cond-true, cond-false, ltb-true}
use Rattle.std.proofs.lemmas.List.Sums.{sum_by-cons}
use Rattle.std.proofs.lemmas.Option.{slice_get_within}
use Rattle.std.specs.List.{slice_get}
use Rattle.wbt_book.specs.declared.event.Event.{Event}
use Rattle.wbt_book.specs.declared.event.Event.TheVariants.{Dirty, Claim, Complete, Redirty, Absorb}
use Rattle.wbt_trace.specs.Lawful.{AreFirsts, IsAction, IsLawful}
use Rattle.wbt_trace.specs.Sofar.{inode_at, pages_in}
use Rattle.wbt_trace.specs.declared.trace.Action.{Action}
use Rattle.wbt_trace.specs.declared.trace.Action.TheVariants as action
use Rattle.wbt_trace.specs.declared.trace.Inode.{Inode}
use Rattle.wbt_trace.specs.declared.trace.TaskLine.{TaskLine}
use Rattle.wbt_trace.specs.declared.trace.Trace.{Trace}
use Rattle.wbt_journal.specs.Checks.{has_page}
use Rattle.wbt_journal.specs.Each.{Each}
use Rattle.wbt_journal.specs.Effects.{Flight, Move, Write, takes, flies, lands, fails, gives_back, effect, event_by, event_of, event_of_flight, event_of_move}
use Rattle.wbt_journal.specs.Items.{Item, tells, items_from}
use Rattle.wbt_journal.specs.Machine.{context_among, cpu_of_task, page_context, pages, numbers, pages_of_action, pages_of_task}
use Rattle.wbt_journal.specs.Pages.{NamesPage, PagesAreNext, Writes, writes_after}
use Rattle.wbt_journal.specs.Side.{is_on}
use Rattle.wbt_journal.specs.Told.{Told}
use Rattle.wbt_journal.specs.Walk.{Along}

-- ---- pages of inodes

-- a page that has a context is one of these inodes'
in_inodes : (n page : ℕ) (inodes : List Inode) → AreFirsts n inodes → has_page (context_among page inodes) ≡ true → page < n + pages_in inodes
in_inodes n page [] firsts has = absurd (cc has)
in_inodes n page (i ∷ inodes) firsts has =
    let sum = sum_by-cons (λ (x : Inode). x.pages) i inodes in
    by_test (leb i.first page) (ltb page (i.first + i.pages)) (λ inside. let low = ltb-true page (i.first + i.pages) inside in omega (arith, low, firsts.0, sum))
    (λ later. let rest = in_inodes (n + i.pages) page inodes firsts.1 later in omega (arith, rest, sum)) has
  where
    by_test : (from to : Bool) → (to ≡ true → page < n + pages_in (i ∷ inodes)) → (has_page (context_among page inodes) ≡ true → page < n + pages_in (i ∷ inodes))
        → has_page (cond (from && to) (Some i.context) (context_among page inodes)) ≡ true → page < n + pages_in (i ∷ inodes)
    by_test true true inside later has = inside refl
    by_test true false inside later has = later has
    by_test false to inside later has = later has

-- the pages of an inode end before those of all do
ends_by : (n k : ℕ) (d : Inode) (inodes : List Inode) → AreFirsts n inodes → k < length inodes → (get_or inodes k d).first + (get_or inodes k d).pages ≤ n + pages_in inodes
ends_by n k d [] firsts low = absurd (omega arith)
ends_by n zero d (i ∷ inodes) firsts low = omega (arith, firsts.0, sum_by-cons (λ (x : Inode). x.pages) i inodes)
ends_by n (suc k) d (i ∷ inodes) firsts low =
    let rest = ends_by (n + i.pages) k d inodes firsts.1 (omega arith) in omega (arith, rest, sum_by-cons (λ (x : Inode). x.pages) i inodes)

-- ---- pages of tasks

abbrev Below : (n page : ℕ) → Type 0
Below n page = page < n

numbers_below : (n from count : ℕ) → from + count ≤ n → Each (Below n) (numbers from count)
numbers_below n from zero low = tt
numbers_below n from (suc count) low = (omega arith, numbers_below n (from + 1) count (omega arith))

both_below : (n : ℕ) (a b : List ℕ) → Each (Below n) a → Each (Below n) b → Each (Below n) (a ++ b)
both_below n [] b first second = second
both_below n (x ∷ a) b first second = (first.0, both_below n a b first.1 second)

found_below : (n k page : ℕ) (xs : List ℕ) → Each (Below n) xs → slice_get xs k ≡ Some page → page < n
found_below n k page [] each is = absurd (cc is)
found_below n zero page (x ∷ xs) each is = let same : x ≡ page = cc is in omega (arith, same, each.0)
found_below n (suc k) page (x ∷ xs) each is = found_below n k page xs each.1 is

module _ (inodes : List Inode) (firsts : AreFirsts 0 inodes) (task : ℕ) where
  action_below : (tasks : ℕ) (action : Action) → IsAction tasks inodes action → Each (Below (pages_in inodes)) (pages_of_action inodes task action)
  action_below tasks (action.Rest by ticks) is = tt
  action_below tasks (action.Write by inode from count) is = by_test (cases_Bool (by == task))
    where
      by_test : ((by == task) ≡ true) ⊎ ((by == task) ≡ false) → Each (Below (pages_in inodes)) (pages_of_action inodes task (action.Write by inode from count))
      by_test (inl own) = subst (Each (Below (pages_in inodes))) (sym (cond-true (by == task) (numbers ((inode_at inode inodes).first + from) count) [] own))
          (numbers_below (pages_in inodes) ((inode_at inode inodes).first + from) count (let ends = ends_by 0 inode (record { context = 0; first = 0; pages = 0 }) inodes firsts is.1 in let within = is.3 in omega (arith, ends, within)))
      by_test (inr other) = subst (Each (Below (pages_in inodes))) (sym (cond-false (by == task) (numbers ((inode_at inode inodes).first + from) count) [] other)) tt

  actions_below : (tasks : ℕ) (actions : List Action) → All (IsAction tasks inodes) actions → Each (Below (pages_in inodes)) (flat_map (pages_of_action inodes task) actions)
  actions_below tasks [] all = tt
  actions_below tasks (a ∷ actions) all =
      both_below (pages_in inodes) (pages_of_action inodes task a) (flat_map (pages_of_action inodes task) actions)
      (action_below tasks a (all 0 a (omega arith)))
      (actions_below tasks actions (λ k d less. all (suc k) d (omega arith)))

-- ---- pages of entries

-- the page of an event
abbrev pub page_in : (event : Event) → ℕ
page_in (Dirty page) = page
page_in (Claim page) = page
page_in (Complete page) = page
page_in (Redirty page) = page
page_in (Absorb page) = page

abbrev pub HasPages : (n : ℕ) (entry : Told) → Type 0
HasPages n entry = IfSome (event_of entry) (λ event. page_in event < n)

abbrev pub HasTask : (n : ℕ) (entry : Told) → Type 0
HasTask n entry = IfSome (effect entry).write (λ (write : Write). write.task < n)

module _ (trace : Trace) (lawful : IsLawful trace) where
  task_below : (task k page : ℕ) → slice_get (pages_of_task trace task) k ≡ Some page → page < pages trace
  task_below task k page is = found_below (pages trace) k page (pages_of_task trace task)
      (actions_below trace.inodes lawful.within.inodes.firsts task (length trace.tasks) trace.actions lawful.within.actions) is

  there : (page : ℕ) → has_page (page_context trace page) ≡ true → page < pages trace
  there page has = let low = in_inodes 0 page trace.inodes lawful.within.inodes.firsts has in omega (arith, low)

  task_there : (cpu task : ℕ) (which : Option TaskLine) → slice_get trace.tasks task ≡ which → is_on cpu (cpu_of_task which) ≡ true → task < length trace.tasks
  task_there cpu task None at own = absurd (true≢false (sym own))
  task_there cpu task (Some line) at own = slice_get_within trace.tasks task line at

  abbrev IsThere : (event : Event) → Type 0
  IsThere event = page_in event < pages trace

  move_there : (move : Move) → NamesPage trace move → IfSome (event_of_move move) IsThere
  move_there (takes page) names = there page names
  move_there (lands page) names = there page names
  move_there (flies count now until) names = tt
  move_there (fails count) names = tt
  move_there (gives_back page true) names = there page names
  move_there (gives_back page false) names = there page names

  flight_there : (flight : Option Flight) → IfSome flight (λ (f : Flight). NamesPage trace f.move) → IfSome (event_of_flight flight) IsThere
  flight_there None names = tt
  flight_there (Some flight) names = move_there flight.move names

  write_there : (page : ℕ) (fresh : Bool) → page < pages trace → IfSome (if fresh then Some (Dirty page) else None) IsThere
  write_there page true low = low
  write_there page false low = tt

  module _ (cpu : ℕ) (tasks : List ℕ) where
    abbrev IsNext : (write : Write) → Type 0
    IsNext write = Writes trace tasks cpu write.task write.page

    event_there : (write : Option Write) (flight : Option Flight) → IfSome write IsNext → IfSome flight (λ (f : Flight). NamesPage trace f.move) → IfSome (event_by write flight) IsThere
    event_there None flight next names = flight_there flight names
    event_there (Some write) flight next names = write_there write.page write.fresh (task_below write.task _ write.page next.next)

    writer_there : (write : Option Write) → IfSome write IsNext → IfSome write (λ (w : Write). w.task < length trace.tasks)
    writer_there None next = tt
    writer_there (Some write) next = task_there cpu write.task (slice_get trace.tasks write.task) refl next.own

  pub record Walked (part : List Told) (rest : List Item) : Type 0 where
    pub pages : Each (HasPages (pages trace)) part
    pub tasks : Each (HasTask (length trace.tasks)) part
    pub last : List ℕ
    pub goes_on : Along (PagesAreNext trace) writes_after last rest

  pub walk : (cpu : ℕ) (tasks : List ℕ) (part : List Told) (rest : List Item) → Along (PagesAreNext trace) writes_after tasks (map (tells cpu) part ++ rest) → Walked part rest
  walk cpu tasks [] rest along = record { pages = tt; tasks = tt; last = tasks; goes_on = along }
  walk cpu tasks (e ∷ part) rest along =
      let w = walk cpu (writes_after tasks (tells cpu e)) part rest along.1 in
      record {
        pages = (event_there cpu tasks (effect e).write (effect e).flight along.0.write along.0.flight, w.pages);
        tasks = (writer_there cpu tasks (effect e).write along.0.write, w.tasks);
        last = w.last;
        goes_on = w.goes_on;
      }

  pub all_have_tasks : (cpu : ℕ) (tasks : List ℕ) (lists : List (List Told)) → Along (PagesAreNext trace) writes_after tasks (items_from cpu lists)
      → Each (Each (HasTask (length trace.tasks))) lists
  all_have_tasks cpu tasks [] along = tt
  all_have_tasks cpu tasks (part ∷ parts) along =
      let w = walk cpu [] part (items_from (cpu + 1) parts) along.1 in
      (w.tasks, all_have_tasks (cpu + 1) w.last parts w.goes_on)

  pub all_have_pages : (cpu : ℕ) (tasks : List ℕ) (lists : List (List Told)) → Along (PagesAreNext trace) writes_after tasks (items_from cpu lists) → Each (Each (HasPages (pages trace))) lists
  all_have_pages cpu tasks [] along = tt
  all_have_pages cpu tasks (part ∷ parts) along =
      let w = walk cpu [] part (items_from (cpu + 1) parts) along.1 in
      (w.pages, all_have_pages (cpu + 1) w.last parts w.goes_on)
