-- What a run leaves: the ledger of each page, the bound of each domain, and the ending.
use Rattle.std.specs.Prelude.{◌≡◌, ℕ, zero, suc, ◌+◌, ◌<◌, ◌≤◌, max, Bool, true, false, ◌&&◌, ◌||◌, not, ◌==◌, nat_le, if◌then◌else◌, Option, Some, None, is_some, IfSome, List, [], ◌∷◌, length, sum_by, count_by}
use Rattle.std.specs.List.{list_any}
use Rattle.wbt_book.specs.declared.event.Event.{Event}
use Rattle.wbt_book.specs.declared.event.Event.TheVariants.{Dirty, Claim, Complete, Redirty, Absorb}
use Rattle.wbt_grant.specs.Formula.{fixed_bound}
use Rattle.wbt_rules.specs.declared.moments.TheConstants.{MOST_FAULTS}
use Rattle.wbt_num.specs.declared.most.TheConstants.{MOST_PAGE_STEPS}
use Rattle.wbt_trace.specs.declared.trace.Context.{Context}
use Rattle.wbt_trace.specs.declared.trace.TaskLine.{TaskLine}
use Rattle.wbt_trace.specs.declared.trace.Trace.{Trace}
use Rattle.wbt_trace.specs.declared.writers.Writer.{Writer}
use Rattle.wbt_journal.specs.declared.journal.Ending.{Ending}
use Rattle.wbt_journal.specs.declared.journal.Ending.TheVariants as ending
use Rattle.wbt_journal.specs.declared.journal.Left.{Left}
use Rattle.wbt_journal.specs.declared.timer.TimerEntry.{TimerEntry}
use Rattle.wbt_journal.specs.declared.timer.TimerEntry.TheVariants as timer
use Rattle.wbt_journal.specs.Machine.{context_domain, page_context, pages, domains, pages_of_task}
use Rattle.wbt_journal.specs.Checks.{has_page}
use Rattle.wbt_journal.specs.Side.{all_writers}
use Rattle.wbt_journal.specs.Text.{is_left_dirty, is_left_writeback}
use Rattle.wbt_journal.specs.Effects.{Flight, Move, Write, fails, effect, event_of, found_of, is_release, of_part}
use Rattle.wbt_journal.specs.Told.{Told}

-- ---- the ledger

-- whether an event dirties the page
abbrev pub is_dirtying : (page : ℕ) (event : Event) → Bool
is_dirtying page (Dirty of) = of == page
is_dirtying page other = false

-- whether an event claims the page
abbrev pub is_claim : (page : ℕ) (event : Event) → Bool
is_claim page (Claim of) = of == page
is_claim page other = false

-- whether an event completes the page
abbrev pub is_completing : (page : ℕ) (event : Event) → Bool
is_completing page (Complete of) = of == page
is_completing page other = false

-- whether an event gives the page back as dirty again
abbrev pub is_redirtying : (page : ℕ) (event : Event) → Bool
is_redirtying page (Redirty of) = of == page
is_redirtying page other = false

-- whether an event gives the page back as absorbed by a later dirtying
abbrev pub is_absorbing : (page : ℕ) (event : Event) → Bool
is_absorbing page (Absorb of) = of == page
is_absorbing page other = false

-- by its page event an entry dirties, claims or completes a page, or gives it back: as dirty again, or as absorbed
abbrev pub dirties : (page : ℕ) (entry : Told) → Bool
dirties page entry = of_part false (is_dirtying page) (event_of entry)

-- whether an entry claims the page
abbrev pub claims : (page : ℕ) (entry : Told) → Bool
claims page entry = of_part false (is_claim page) (event_of entry)

-- whether an entry completes the page
abbrev pub completes : (page : ℕ) (entry : Told) → Bool
completes page entry = of_part false (is_completing page) (event_of entry)

-- whether an entry gives the page back as dirty again
abbrev pub redirties : (page : ℕ) (entry : Told) → Bool
redirties page entry = of_part false (is_redirtying page) (event_of entry)

-- whether an entry gives the page back as absorbed
abbrev pub absorbs : (page : ℕ) (entry : Told) → Bool
absorbs page entry = of_part false (is_absorbing page) (event_of entry)

-- a page that a write found dirty was dirtied by a write among these entries
abbrev pub WasDirtied : (entries : List Told) (entry : Told) → Type 0
WasDirtied entries entry = IfSome (found_of entry) (λ page. 1 ≤ count_by (dirties page) entries)

-- how often the page is left dirty
abbrev pub left_dirty : (page : ℕ) (left : List Left) → ℕ
left_dirty page left = count_by (λ l. l.page == page && is_left_dirty l) left

-- how often the page is left under writeback
abbrev pub left_writeback : (page : ℕ) (left : List Left) → ℕ
left_writeback page left = count_by (λ l. l.page == page && is_left_writeback l) left

-- a page that was dirtied was completed, or it is left dirty or under writeback
abbrev pub WasCompleted : (entries : List Told) (left : List Left) (page : ℕ) → Type 0
WasCompleted entries left page =
    1 ≤ count_by (dirties page) entries → 1 ≤ count_by (completes page) entries + left_dirty page left + left_writeback page left

-- a page was claimed as often as it was dirtied, also by giving it back, but for one where it is left dirty; and completed or given
-- back as often as it was claimed, but for one where it is left under writeback
pub record IsEven (entries : List Told) (left : List Left) (page : ℕ) : Type 0 where
  pub claimed_all : count_by (dirties page) entries + count_by (redirties page) entries ≡ count_by (claims page) entries + left_dirty page left
  pub released_all : count_by (claims page) entries
      ≡ count_by (completes page) entries + count_by (redirties page) entries + count_by (absorbs page) entries + left_writeback page left

-- decides whether the ledger of a page is even
abbrev pub is_even : (entries : List Told) (left : List Left) (page : ℕ) → Bool
is_even entries left page =
    count_by (dirties page) entries + count_by (redirties page) entries == count_by (claims page) entries + left_dirty page left
    && count_by (claims page) entries
    == count_by (completes page) entries + count_by (redirties page) entries + count_by (absorbs page) entries + left_writeback page left

-- the ledger of each page below a number is even
abbrev pub IsEvenBelow : (entries : List Told) (left : List Left) (pages : ℕ) → Type 0
IsEvenBelow entries left pages = (page : ℕ) → page < pages → IsEven entries left page

-- decides whether the ledger of each page below a number is even
abbrev pub is_even_below : (entries : List Told) (left : List Left) (pages : ℕ) → Bool
is_even_below entries left zero = true
is_even_below entries left (suc pages) = is_even entries left pages && is_even_below entries left pages

-- pages that are left stand in order, each once, and are dirty or under writeback
abbrev pub LeftFrom : (page : ℕ) (lefts : List Left) → Type 0
LeftFrom page [] = Unit {0}
LeftFrom page (left ∷ more) = (page ≤ left.page) × (1 ≤ left.word) × (left.word ≤ 3) × LeftFrom (left.page + 1) more

-- decides whether the pages that are left stand in order from a page on, each once, dirty or under writeback
abbrev pub is_left_from : (page : ℕ) (lefts : List Left) → Bool
is_left_from page [] = true
is_left_from page (left ∷ more) = nat_le page left.page && (nat_le 1 left.word && (nat_le left.word 3 && is_left_from (left.page + 1) more))

-- a page that is left is one that there is
abbrev pub is_page : (trace : Trace) (left : Left) → Bool
is_page trace left = has_page (page_context trace left.page)

-- ---- the bound

-- the hard limit that an entry publishes for a domain; 0 where it publishes none
abbrev pub hard_in : (domain : ℕ) (entry : TimerEntry) → ℕ
hard_in domain (timer.Limits of now limits) = if of == domain then limits.hard else 0
hard_in domain (timer.Period of k) = 0

-- the greatest hard limit of a domain's lines
abbrev pub peak_of : (domain : ℕ) (entries : List TimerEntry) → ℕ
peak_of domain [] = 0
peak_of domain (entry ∷ more) = max (hard_in domain entry) (peak_of domain more)

-- whether a context is in a domain; each is in the global one
abbrev pub is_inside : (domain of : ℕ) → Bool
is_inside domain of = domain == 0 || of == domain

-- whether the context of a page, where it has one, is in a domain
abbrev pub page_inside : (trace : Trace) (domain : ℕ) (which : Option ℕ) → Bool
page_inside trace domain None = false
page_inside trace domain (Some context) = is_inside domain (context_domain trace context)

-- what a page that is left counts in a domain: one where it is dirty, and one where it is under writeback
abbrev pub pages_of_left : (trace : Trace) (domain : ℕ) (left : Left) → ℕ
pages_of_left trace domain left =
    if page_inside trace domain (page_context trace left.page)
    then (if is_left_dirty left then 1 else 0) + (if is_left_writeback left then 1 else 0) else 0

-- the dirty pages of a domain and those under writeback, by what is left
abbrev pub count_of : (trace : Trace) (domain : ℕ) (left : List Left) → ℕ
count_of trace domain left = sum_by (pages_of_left trace domain) left

-- the number of writers whose contexts are in a domain
abbrev pub writers_in : (trace : Trace) (domain : ℕ) → ℕ
writers_in trace domain = count_by (λ (writer : Writer). is_inside domain (context_domain trace writer.context)) (all_writers trace)

-- the number of contexts in a domain
abbrev pub contexts_in : (trace : Trace) (domain : ℕ) → ℕ
contexts_in trace domain = count_by (λ (context : Context). is_inside domain context.domain) trace.contexts

-- a domain's bound in pages: its greatest hard limit and the fixed part of the machine and its writers
abbrev pub bound_of : (trace : Trace) (entries : List TimerEntry) (domain : ℕ) → ℕ
bound_of trace entries domain = peak_of domain entries + fixed_bound trace.cpus (writers_in trace domain) trace.cap (contexts_in trace domain)

-- each domain below a number has no more pages left than its bound
abbrev pub IsBounded : (trace : Trace) (entries : List TimerEntry) (left : List Left) (domains : ℕ) → Type 0
IsBounded trace entries left domains = (domain : ℕ) → domain < domains → count_of trace domain left ≤ bound_of trace entries domain

-- decides whether each domain below a number has no more pages left than its bound
abbrev pub is_bounded : (trace : Trace) (entries : List TimerEntry) (left : List Left) (domains : ℕ) → Bool
is_bounded trace entries left zero = true
is_bounded trace entries left (suc domains) = nat_le (count_of trace domains left) (bound_of trace entries domains) && is_bounded trace entries left domains

-- ---- the ending

-- whether a move tells that the disk failed to write a batch
abbrev pub is_failure : (move : Move) → Bool
is_failure (fails pages) = true
is_failure other = false

-- whether an entry tells that a disk failed to write a batch
abbrev pub is_fault : (entry : Told) → Bool
is_fault entry = of_part false (λ (flight : Flight). is_failure flight.move) (effect entry).flight

-- the disk of this flusher failed
abbrev pub is_fault_of : (flusher : ℕ) (entry : Told) → Bool
is_fault_of flusher entry = of_part false (λ (flight : Flight). is_failure flight.move && flight.flusher == flusher) (effect entry).flight

-- it did so as often as it may; in a lawful journal no flusher has more faults
abbrev pub has_failed : (entries : List Told) (flusher : ℕ) → Bool
has_failed entries flusher = nat_le MOST_FAULTS (count_by (is_fault_of flusher) entries)

-- one of the flushers below a number has failed
abbrev pub some_failed : (entries : List Told) (flushers : ℕ) → Bool
some_failed entries zero = false
some_failed entries (suc flushers) = has_failed entries flushers || some_failed entries flushers

-- some flusher of the trace has failed
abbrev pub a_flusher_failed : (trace : Trace) (entries : List Told) → Bool
a_flusher_failed trace entries = some_failed entries (length trace.flushers)

-- a write, and the completion of a page or that it is given back
abbrev pub is_page_step : (entry : Told) → Bool
is_page_step entry = is_some (effect entry).write || is_release (event_of entry)

-- whether a part has the most page steps that a CPU makes
abbrev pub has_all_steps : (part : List Told) → Bool
has_all_steps part = nat_le MOST_PAGE_STEPS (count_by is_page_step part)

-- whether an entry is a write of the task
abbrev pub writes_of : (task : ℕ) (entry : Told) → Bool
writes_of task entry = of_part false (λ (write : Write). write.task == task) (effect entry).write

-- every task from a number on wrote all its pages
abbrev pub WroteAll : (trace : Trace) (entries : List Told) (task : ℕ) (lines : List TaskLine) → Type 0
WroteAll trace entries task [] = Unit {0}
WroteAll trace entries task (line ∷ lines) =
    (length (pages_of_task trace task) ≤ count_by (writes_of task) entries) × WroteAll trace entries (task + 1) lines

-- decides whether every task from a number on wrote all its pages
abbrev pub wrote_all : (trace : Trace) (entries : List Told) (task : ℕ) (lines : List TaskLine) → Bool
wrote_all trace entries task [] = true
wrote_all trace entries task (line ∷ lines) = nat_le (length (pages_of_task trace task)) (count_by (writes_of task) entries) && wrote_all trace entries (task + 1) lines

-- a run is done where every page of every action was written and nothing is left; it is spent only where a CPU made all its page
-- steps; and it is faulted exactly where a flusher has as many faults as it may have
abbrev pub EndsBy : (trace : Trace) (parts : List (List Told)) (entries : List Told) (left : List Left) (ending : Ending)
    → Type 0
EndsBy trace parts entries left ending.Done = (a_flusher_failed trace entries ≡ false) × WroteAll trace entries 0 trace.tasks × (left ≡ [])
EndsBy trace parts entries left ending.Halted = a_flusher_failed trace entries ≡ false
EndsBy trace parts entries left ending.Spent = (a_flusher_failed trace entries ≡ false) × (list_any has_all_steps parts ≡ true)
EndsBy trace parts entries left ending.Faulted = a_flusher_failed trace entries ≡ true

-- whether no page is left
abbrev pub is_nothing : (lefts : List Left) → Bool
is_nothing [] = true
is_nothing (left ∷ more) = false

-- decides whether the journal's ending is right
abbrev pub ends_by : (trace : Trace) (parts : List (List Told)) (entries : List Told) (left : List Left) (ending : Ending)
    → Bool
ends_by trace parts entries left ending.Done = not (a_flusher_failed trace entries) && (wrote_all trace entries 0 trace.tasks && is_nothing left)
ends_by trace parts entries left ending.Halted = not (a_flusher_failed trace entries)
ends_by trace parts entries left ending.Spent = not (a_flusher_failed trace entries) && list_any has_all_steps parts
ends_by trace parts entries left ending.Faulted = a_flusher_failed trace entries
