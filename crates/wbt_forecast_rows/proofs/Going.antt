-- Tallies and totals of states that come one after another, and the row that is made of tallies.
use Rattle.std.proofs.Common.{◌≡◌, ℕ, zero, suc, ◌+◌, ◌<◌, max, Bool, true, false, nat_lt, ◌≤◌, ℤ, pos, ◌+ℤ◌, List, [], ◌∷◌, ◌++◌, length, map, filter, replicate, get_or, refl, sym, ap, ◌∙◌, arith}
use Rattle.std.specs.List.{sum_by, count_by}
use Rattle.std.proofs.lemmas.Bool.Decides.{nat_tests}
use Rattle.std.proofs.lemmas.List.Sums.{sum_by-cons}
use Rattle.wbt_replay_order.proofs.Common.{at_least_zero, Book, domain_count, Trace, domains, numbers, change_in, is_fresh, is_done, Entry, StepEntry, State, Cpu, setting_of, base_of, bases_of, part_of}
use Rattle.wbt_journal.specs.declared.entry.CpuJournal.{CpuJournal}
use Rattle.wbt_forecast_rows.specs.Between.{IsAfter, HaveGrown, gained, all_gained, entries_of, steps_between, entries_between, checks_between}
use Rattle.wbt_forecast_rows.specs.Counts.{homes_of, count_after, most_after}
use Rattle.wbt_forecast_rows.specs.Forecast.{totals_of}
use Rattle.wbt_forecast_rows.specs.Laws.{AreExact}
use Rattle.wbt_forecast_rows.specs.Rows.{exact_count, interval_of, interval_row, domain_row, has_row}
use Rattle.wbt_forecast_rows.specs.Tally.{Tallies, by_number, domain_after, context_after, task_after_entries, task_after_checks, after_all, domain_at, domain_again, tallies_at, first_tallies, tallied, cleared, no_pages, no_work, domain_told, context_told, task_told, row_told, totals_after}
use Rattle.wbt_forecast_rows.specs.declared.forecast.Totals.{Totals}
use Rattle.wbt_forecast_rows.specs.declared.rows.ContextRow.{ContextRow}
use Rattle.wbt_forecast_rows.specs.declared.rows.DomainRow.{DomainRow}
use Rattle.wbt_forecast_rows.specs.declared.rows.IntervalRow.{IntervalRow}
use Rattle.wbt_forecast_rows.specs.declared.rows.TaskRow.{TaskRow}
use Rattle.wbt_forecast_rows.specs.declared.tally.ContextTally.{ContextTally}
use Rattle.wbt_forecast_rows.specs.declared.tally.DomainTally.{DomainTally}
use Rattle.wbt_forecast_rows.specs.declared.tally.TaskTally.{TaskTally}
use Rattle.wbt_forecast_rows.proofs.Adding.{add_up}
use Rattle.wbt_forecast_rows.proofs.Counting.{count_by-append, max_again, same_context, same_domain, same_task}
use Rattle.wbt_forecast_rows.proofs.Gaining.{gained_more}
use Rattle.wbt_forecast_rows.proofs.Numbered.{of_numbers, same_numbers}

-- ---- tallies of an interval, by number

abbrev domain_so_far : (trace : Trace) (first last : State) (domain : ℕ) → DomainTally
domain_so_far trace first last domain = domain_after (homes_of trace) (steps_between first last) domain (domain_at trace first domain)

abbrev context_so_far : (trace : Trace) (first last : State) (context : ℕ) → ContextTally
context_so_far trace first last context = context_after trace (entries_between first last) context no_pages

abbrev task_so_far : (first last : State) (task : ℕ) → TaskTally
task_so_far first last task = task_after_checks (checks_between first last) task (task_after_entries (entries_between first last) task no_work)

same_tallies : (a b : Tallies) → a.domains ≡ b.domains → a.contexts ≡ b.contexts → a.tasks ≡ b.tasks → a ≡ b
same_tallies a b domains_is contexts_is tasks_is =
    ap (λ (x : List DomainTally). record b { domains = x; contexts = a.contexts; tasks = a.tasks }) domains_is
    ∙ ap (λ (x : List ContextTally). record b { contexts = x; tasks = a.tasks }) contexts_is
    ∙ ap (λ (x : List TaskTally). record b { tasks = x }) tasks_is

abbrev so_far : (trace : Trace) (first last : State) → Tallies
so_far trace first last = record {
  domains = map (domain_so_far trace first last) (numbers 0 (domains trace));
  contexts = map (context_so_far trace first last) (numbers 0 (length trace.contexts));
  tasks = map (task_so_far first last) (numbers 0 (length trace.tasks));
}

tallied_so : (trace : Trace) (first last : State) → tallied trace first last ≡ so_far trace first last
tallied_so trace first last =
    same_tallies (tallied trace first last) (so_far trace first last)
    (of_numbers (domain_at trace first) (domain_after (homes_of trace) (steps_between first last)) 0 (domains trace))
    (of_numbers (λ context. no_pages) (context_after trace (entries_between first last)) 0 (length trace.contexts))
    (ap (by_number (task_after_checks (checks_between first last)) 0)
    (of_numbers (λ task. no_work) (task_after_entries (entries_between first last)) 0 (length trace.tasks))
    ∙ of_numbers (λ task. task_after_entries (entries_between first last) task no_work) (task_after_checks (checks_between first last)) 0 (length trace.tasks))

-- ---- tallies go on

count_append : (homes : List ℕ) (domain : ℕ) (count : ℤ) (xs ys : List StepEntry)
    → count_after homes domain count (xs ++ ys) ≡ count_after homes domain (count_after homes domain count xs) ys
count_append homes domain count [] ys = refl
count_append homes domain count (x ∷ xs) ys = count_append homes domain (count +ℤ change_in homes domain x) xs ys

most_append : (homes : List ℕ) (domain : ℕ) (count : ℤ) (xs ys : List StepEntry)
    → most_after homes domain count (xs ++ ys) ≡ max (most_after homes domain count xs) (most_after homes domain (count_after homes domain count xs) ys)
most_append homes domain count [] ys = omega arith
most_append homes domain count (x ∷ xs) ys =
    let next : ℤ = count +ℤ change_in homes domain x in
    ap (max (at_least_zero next)) (most_append homes domain next xs ys)
    ∙ sym (max_again (at_least_zero next) (most_after homes domain next xs) (most_after homes domain (count_after homes domain next xs) ys))

domain_on : (homes : List ℕ) (domain : ℕ) (t : DomainTally) (xs ys : List StepEntry)
    → domain_after homes (xs ++ ys) domain t ≡ domain_after homes ys domain (domain_after homes xs domain t)
domain_on homes domain t xs ys =
    same_domain _ _ (count_append homes domain t.count xs ys)
    (ap (max t.most) (most_append homes domain t.count xs ys)
    ∙ sym (max_again t.most (most_after homes domain t.count xs) (most_after homes domain (count_after homes domain t.count xs) ys)))

domains_on : (trace : Trace) (first mid last : State) → IsAfter first mid → IsAfter mid last → (domain : ℕ)
    → domain_so_far trace first last domain ≡ domain_after (homes_of trace) (steps_between mid last) domain (domain_so_far trace first mid domain)
domains_on trace first mid last one two domain =
    ap (λ steps. domain_after (homes_of trace) steps domain (domain_at trace first domain)) (gained_more first.steps mid.steps last.steps one.steps two.steps)
    ∙ domain_on (homes_of trace) domain (domain_at trace first domain) (steps_between first mid) (steps_between mid last)

contexts_on : (trace : Trace) (first mid last : State) → IsAfter first mid → IsAfter mid last → (context : ℕ)
    → context_so_far trace first last context ≡ context_after trace (entries_between mid last) context (context_so_far trace first mid context)
contexts_on trace first mid last one two context =
    let up = add_up trace first mid last one two in
    same_context _ _ (omega (arith, up.dirtied context)) (omega (arith, up.written context))

tasks_on : (trace : Trace) (first mid last : State) → IsAfter first mid → IsAfter mid last → (task : ℕ)
    → task_so_far first last task
    ≡ task_after_checks (checks_between mid last) task (task_after_entries (entries_between mid last) task (task_so_far first mid task))
tasks_on trace first mid last one two task =
    let up = add_up trace first mid last one two in
    same_task _ _ (omega (arith, up.pages task)) (omega (arith, up.checks task)) (omega (arith, up.pauses task)) (omega (arith, up.ticks task))
    (omega (arith, up.longest task))

pub tallies_on : (trace : Trace) (first mid last : State) → IsAfter first mid → IsAfter mid last
    → tallied trace first last ≡ after_all trace mid last (tallied trace first mid)
tallies_on trace first mid last one two =
    tallied_so trace first last
    ∙ same_tallies (so_far trace first last) (after_all trace mid last (so_far trace first mid))
    (same_numbers _ _ 0 (domains trace) (λ d low high. domains_on trace first mid last one two d)
    ∙ sym (of_numbers (domain_so_far trace first mid) (domain_after (homes_of trace) (steps_between mid last)) 0 (domains trace)))
    (same_numbers _ _ 0 (length trace.contexts) (λ w low high. contexts_on trace first mid last one two w)
    ∙ sym (of_numbers (context_so_far trace first mid) (context_after trace (entries_between mid last)) 0 (length trace.contexts)))
    (same_numbers _ _ 0 (length trace.tasks) (λ t low high. tasks_on trace first mid last one two t)
    ∙ sym (ap (by_number (task_after_checks (checks_between mid last)) 0)
    (of_numbers (task_so_far first mid) (task_after_entries (entries_between mid last)) 0 (length trace.tasks))
    ∙ of_numbers (λ task. task_after_entries (entries_between mid last) task (task_so_far first mid task)) (task_after_checks (checks_between mid last)) 0
    (length trace.tasks)))
    ∙ ap (after_all trace mid last) (sym (tallied_so trace first mid))

-- ---- where the next interval begins

map_numbers : {A B : Type 0} (h : A → B) (f : ℕ → A) (n count : ℕ) → map h (map f (numbers n count)) ≡ map (λ i. h (f i)) (numbers n count)
map_numbers h f n zero = refl
map_numbers h f n (suc count) = ap (λ rest. h (f n) ∷ rest) (map_numbers h f (n + 1) count)

pub tallies_again : (trace : Trace) (first last next : State) → AreExact trace first last → next.book ≡ last.book
    → cleared (tallied trace first last) ≡ tallies_at trace next
tallies_again trace first last next exact same =
    ap cleared (tallied_so trace first last)
    ∙ same_tallies (cleared (so_far trace first last)) (tallies_at trace next)
    (map_numbers domain_again (domain_so_far trace first last) 0 (domains trace)
    ∙ same_numbers _ _ 0 (domains trace) (λ d low high.
    same_domain (domain_again (domain_so_far trace first last d)) (domain_at trace next d)
    (exact d (omega (arith, high)) ∙ ap (λ (book : Book). pos (domain_count (setting_of trace) book d)) (sym same)) refl))
    (map_numbers (λ tally. no_pages) (context_so_far trace first last) 0 (length trace.contexts))
    (map_numbers (λ tally. no_work) (task_so_far first last) 0 (length trace.tasks))

copies : {A : Type 0} (x : A) (n count : ℕ) → map (λ i. x) (numbers n count) ≡ replicate count x
copies x n zero = refl
copies x n (suc count) = ap (λ rest. x ∷ rest) (copies x (n + 1) count)

pub tallies_first : (trace : Trace) (first : State) → ((domain : ℕ) → domain < domains trace → exact_count trace first domain ≡ 0)
    → tallies_at trace first ≡ first_tallies trace
tallies_first trace first none =
    same_tallies (tallies_at trace first) (first_tallies trace)
    (same_numbers (domain_at trace first) (λ d. record { count = pos 0; most = 0 }) 0 (domains trace)
    (λ d low high. same_domain _ _ (ap pos (none d (omega (arith, high)))) refl)
    ∙ copies (record { count = pos 0; most = 0 }) 0 (domains trace))
    (copies no_pages 0 (length trace.contexts))
    (copies no_work 0 (length trace.tasks))

-- ---- the row

get_pushed : (xs : List ℕ) (x i : ℕ) → i < length xs → get_or (xs ++ x ∷ []) i 0 ≡ get_or xs i 0
get_pushed [] x i less = absurd (omega arith)
get_pushed (y ∷ xs) x zero less = refl
get_pushed (y ∷ xs) x (suc i) less = get_pushed xs x i (omega arith)

get_last : (xs : List ℕ) (x : ℕ) → get_or (xs ++ x ∷ []) (length xs) 0 ≡ x
get_last [] x = refl
get_last (y ∷ xs) x = get_last xs x

length_pushed : (xs : List ℕ) (x : ℕ) → length (xs ++ x ∷ []) ≡ length xs + 1
length_pushed [] x = refl
length_pushed (y ∷ xs) x = let rest = length_pushed xs x in omega (arith, rest)

bases_long : (trace : Trace) (n : ℕ) → length (bases_of trace n) ≡ n
bases_long trace zero = refl
bases_long trace (suc n) = let rest = bases_long trace n in omega (arith, rest, length_pushed (bases_of trace n) (base_of trace n))

base_in : (trace : Trace) (n i : ℕ) (b : Bool) → i < suc n → (i < n → get_or (bases_of trace n) i 0 ≡ base_of trace i) → nat_lt i n ≡ b
    → get_or (bases_of trace n ++ base_of trace n ∷ []) i 0 ≡ base_of trace i
base_in trace n i true less later is =
    let low : i < n = grind (arith, nat_tests, is) in
    get_pushed (bases_of trace n) (base_of trace n) i (omega (arith, low, bases_long trace n)) ∙ later low
base_in trace n i false less later is =
    let high : n ≤ i = grind (arith, nat_tests, is) in
    let last : i ≡ n = omega (arith, high, less) in
    let at : i ≡ length (bases_of trace n) = omega (arith, last, bases_long trace n) in
    ap (λ (k : ℕ). get_or (bases_of trace n ++ base_of trace n ∷ []) k 0) at ∙ get_last (bases_of trace n) (base_of trace n) ∙ ap (base_of trace) (sym last)

pub base_at : (trace : Trace) (n i : ℕ) → i < n → get_or (bases_of trace n) i 0 ≡ base_of trace i
base_at trace zero i less = absurd (omega arith)
base_at trace (suc n) i less = base_in trace n i (nat_lt i n) less (λ low. base_at trace n i low) refl

same_domain_row : (a b : DomainRow) → a.domain ≡ b.domain → a.count ≡ b.count → a.most ≡ b.most → a.hard ≡ b.hard → a.bound ≡ b.bound → a ≡ b
same_domain_row a b domain_is count_is most_is hard_is bound_is =
    ap (λ (x : ℕ). record b { domain = x; count = a.count; most = a.most; hard = a.hard; bound = a.bound }) domain_is
    ∙ ap (λ (x : ℕ). record b { count = x; most = a.most; hard = a.hard; bound = a.bound }) count_is
    ∙ ap (λ (x : ℕ). record b { most = x; hard = a.hard; bound = a.bound }) most_is
    ∙ ap (λ (x : ℕ). record b { hard = x; bound = a.bound }) hard_is
    ∙ ap (λ (x : ℕ). record b { bound = x }) bound_is

same_row : (a b : IntervalRow) → a.number ≡ b.number → a.domains ≡ b.domains → a.contexts ≡ b.contexts → a.tasks ≡ b.tasks → a ≡ b
same_row a b number_is domains_is contexts_is tasks_is =
    ap (λ (x : ℕ). record b { number = x; domains = a.domains; contexts = a.contexts; tasks = a.tasks }) number_is
    ∙ ap (λ (x : List DomainRow). record b { domains = x; contexts = a.contexts; tasks = a.tasks }) domains_is
    ∙ ap (λ (x : List ContextRow). record b { contexts = x; tasks = a.tasks }) contexts_is
    ∙ ap (λ (x : List TaskRow). record b { tasks = x }) tasks_is

same_context_row : (a b : ContextRow) → a.context ≡ b.context → a.dirtied ≡ b.dirtied → a.written ≡ b.written → a.bandwidth ≡ b.bandwidth
    → a.average ≡ b.average → a.ratelimit ≡ b.ratelimit → a ≡ b
same_context_row a b context_is dirtied_is written_is bandwidth_is average_is ratelimit_is =
    ap (λ (x : ℕ). record b { context = x; dirtied = a.dirtied; written = a.written; bandwidth = a.bandwidth; average = a.average; ratelimit = a.ratelimit }) context_is
    ∙ ap (λ (x : ℕ). record b { dirtied = x; written = a.written; bandwidth = a.bandwidth; average = a.average; ratelimit = a.ratelimit }) dirtied_is
    ∙ ap (λ (x : ℕ). record b { written = x; bandwidth = a.bandwidth; average = a.average; ratelimit = a.ratelimit }) written_is
    ∙ ap (λ (x : ℕ). record b { bandwidth = x; average = a.average; ratelimit = a.ratelimit }) bandwidth_is
    ∙ ap (λ (x : ℕ). record b { average = x; ratelimit = a.ratelimit }) average_is
    ∙ ap (λ (x : ℕ). record b { ratelimit = x }) ratelimit_is

same_task_row : (a b : TaskRow) → a.task ≡ b.task → a.pages ≡ b.pages → a.checks ≡ b.checks → a.pauses ≡ b.pauses
    → a.ticks ≡ b.ticks → a.longest ≡ b.longest → a ≡ b
same_task_row a b task_is pages_is checks_is pauses_is ticks_is longest_is =
    ap (λ (x : ℕ). record b { task = x; pages = a.pages; checks = a.checks; pauses = a.pauses; ticks = a.ticks; longest = a.longest }) task_is
    ∙ ap (λ (x : ℕ). record b { pages = x; checks = a.checks; pauses = a.pauses; ticks = a.ticks; longest = a.longest }) pages_is
    ∙ ap (λ (x : ℕ). record b { checks = x; pauses = a.pauses; ticks = a.ticks; longest = a.longest }) checks_is
    ∙ ap (λ (x : ℕ). record b { pauses = x; ticks = a.ticks; longest = a.longest }) pauses_is
    ∙ ap (λ (x : ℕ). record b { ticks = x; longest = a.longest }) ticks_is
    ∙ ap (λ (x : ℕ). record b { longest = x }) longest_is

domain_rows_told : (trace : Trace) (first last : State) → AreExact trace first last → (d : ℕ) → d < domains trace
    → domain_told (bases_of trace (domains trace)) last.domains d (domain_so_far trace first last d) ≡ domain_row trace first last d
domain_rows_told trace first last exact d less =
    same_domain_row _ _ refl (ap at_least_zero (exact d less)) (omega arith) refl (omega (arith, base_at trace (domains trace) d less))

pub row_so : (trace : Trace) (every : ℕ) (first last : State) → AreExact trace first last
    → row_told (interval_of every last) (bases_of trace (domains trace)) last.domains last.contexts (tallied trace first last) ≡ interval_row trace every first last
row_so trace every first last exact =
    let bases = bases_of trace (domains trace) in
    ap (row_told (interval_of every last) bases last.domains last.contexts) (tallied_so trace first last)
    ∙ same_row (row_told (interval_of every last) bases last.domains last.contexts (so_far trace first last)) (interval_row trace every first last) refl
    (of_numbers (domain_so_far trace first last) (domain_told bases last.domains) 0 (domains trace)
    ∙ same_numbers _ _ 0 (domains trace) (λ d low high. domain_rows_told trace first last exact d (omega (arith, high))))
    (of_numbers (context_so_far trace first last) (context_told last.contexts) 0 (length trace.contexts)
    ∙ same_numbers _ _ 0 (length trace.contexts) (λ w low high. same_context_row _ _ refl (omega arith) (omega arith) refl refl refl))
    (ap (filter has_row) (of_numbers (task_so_far first last) task_told 0 (length trace.tasks)
    ∙ same_numbers _ _ 0 (length trace.tasks)
    (λ t low high. same_task_row _ _ refl (omega arith) (omega arith) (omega arith) (omega arith) (omega arith))))

-- ---- totals

-- what is counted of all that some CPUs have told
told_more : (p : Entry → Bool) (before after : List Cpu) → HaveGrown (entries_of before) (entries_of after)
    → sum_by (λ (part : CpuJournal). count_by p part.entries) (map part_of after)
    ≡ sum_by (λ (part : CpuJournal). count_by p part.entries) (map part_of before) + count_by p (all_gained (entries_of before) (entries_of after))
told_more p [] [] grown = refl
told_more p [] (c ∷ after) grown = absurd grown
told_more p (b ∷ before) [] grown = absurd grown
told_more p (b ∷ before) (c ∷ after) grown =
    let rest = told_more p before after grown.1 in
    let now = sum_by-cons (λ (part : CpuJournal). count_by p part.entries) (part_of c) (map part_of after) in
    let then = sum_by-cons (λ (part : CpuJournal). count_by p part.entries) (part_of b) (map part_of before) in
    let own : count_by p c.entries ≡ count_by p b.entries + count_by p (gained b.entries c.entries) =
    ap (count_by p) (sym grown.0) ∙ count_by-append p b.entries (gained b.entries c.entries) in
    let both = count_by-append p (gained b.entries c.entries) (all_gained (entries_of before) (entries_of after)) in
    omega (arith, rest, now, then, own, both)

same_totals : (a b : Totals) → a.dirtied ≡ b.dirtied → a.cleaned ≡ b.cleaned → a ≡ b
same_totals a b dirtied_is cleaned_is =
    ap (λ (x : ℕ). record b { dirtied = x; cleaned = a.cleaned }) dirtied_is
    ∙ ap (λ (x : ℕ). record b { cleaned = x }) cleaned_is

pub totals_on : (first last : State) → IsAfter first last → totals_of last ≡ totals_after (entries_between first last) (totals_of first)
totals_on first last is =
    same_totals _ _ (told_more is_fresh first.cpus last.cpus is.entries) (told_more is_done first.cpus last.cpus is.entries)
