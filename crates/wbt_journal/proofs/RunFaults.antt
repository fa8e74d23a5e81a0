-- The first faults of the timer, of pages written, of flushers, and of what is left.
use Rattle.std.proofs.Common.{◌≡◌, ℕ, zero, suc, ◌+◌, ◌-◌, ◌/◌, ◌≤◌, Bool, true, false, ◌&&◌, nat_le, nat_lt, List, [], ◌∷◌, length, count_by, slice_get, Option, Some, None, refl, ◌∙◌, ap, if◌then◌else◌}
use Rattle.std.specs.Bool.{Decides}
use Rattle.std.specs.List.{list_any}
use Rattle.std.proofs.lemmas.Bool.Decides.{Decides-and, Decides-eqb, Decides-below_and}
use Rattle.wbt_limits.specs.declared.domain.Pair.{Pair}
use Rattle.wbt_num.specs.declared.limits.Limits.{Limits}
use Rattle.wbt_trace.specs.declared.trace.Cgroup.{Cgroup}
use Rattle.wbt_trace.specs.declared.trace.TaskLine.{TaskLine}
use Rattle.wbt_trace.specs.declared.trace.Trace.{Trace}
use Rattle.wbt_journal.specs.declared.journal.Ending.{Ending}
use Rattle.wbt_journal.specs.declared.journal.Ending.TheVariants as ending
use Rattle.wbt_journal.specs.declared.journal.Left.{Left}
use Rattle.wbt_journal.specs.declared.timer.TimerEntry.{TimerEntry}
use Rattle.wbt_journal.specs.declared.timer.TimerEntry.TheVariants as timer
use Rattle.wbt_journal.specs.Checks.{has_page}
use Rattle.wbt_journal.specs.Estimates.{decision_at}
use Rattle.wbt_journal.specs.Flights.{ToldPhase, ToldFlusher, scanning, flying, returning, failed, Scans, scans, Hands, hands, Lands, is_landing, GivesBack, is_giving_back, MayMove, may_move, MeetsChunk, meets_chunk, flusher_of, is_own_flusher, FliesBy, flies_by, FliesTold, flies_told, Flies, flight_fault}
use Rattle.wbt_journal.specs.Effects.{Flight, Move, Write, takes, flies, lands, fails, gives_back, effect, of_part}
use Rattle.wbt_journal.specs.Items.{Item, begins, tells}
use Rattle.wbt_journal.specs.Leaves.{dirties, claims, completes, redirties, absorbs, left_dirty, left_writeback, IsEven, is_even, IsEvenBelow, is_even_below, LeftFrom, is_left_from, IsBounded, is_bounded, count_of, bound_of, WroteAll, wrote_all, writes_of, a_flusher_failed, has_all_steps, EndsBy, ends_by, is_nothing}
use Rattle.wbt_journal.specs.Machine.{domains, pages_of_task, page_context}
use Rattle.wbt_rules.specs.Flusher.{IsWithinChunk, is_within_chunk, chunk_at}
use Rattle.wbt_rules.specs.Thresholds.{global_at, cgroup_with}
use Rattle.wbt_journal.specs.Pages.{is_at, next_page, page_of, NamesPage, Writes, PagesAreNext, write_fault, task_fault, move_fault, page_fault}
use Rattle.wbt_journal.specs.Side.{is_own_task}
use Rattle.wbt_journal.specs.Timer.{AreThresholds, are_thresholds, IsGlobal, is_global, IsCgroup, is_cgroup, HasThresholds, has_thresholds, HardBy, hard_by, LastLine, Opens, opens, LineFollows, line_follows, LimitsBy, limits_by, is_opening, MayBegin, TimerGoesOn, timer_fault}
use Rattle.wbt_journal.specs.Told.{Told}
use Rattle.wbt_journal.specs.Waits.{WaitsOnOwn}
use Rattle.wbt_journal.specs.declared.entry.CheckEntry.{CheckEntry}
use Rattle.wbt_journal.specs.Verdict.{turn_fault}
use Rattle.wbt_journal.specs.Walk.{Tells, unless}
use Rattle.wbt_journal.proofs.WaitFaults.{stranger_tells}
use Rattle.wbt_journal.proofs.Faults.{like, is_true, is_false, is_le, always, test_tells, tells_like, both_tell, part_tells, part_decides}

-- ---- the timer

global_decides : (pair : Pair) (limits : Limits) → Decides (is_global pair limits) (IsGlobal pair limits)
global_decides pair limits = like (is_global pair limits)
    (Decides-and _ _ (Decides-eqb limits.thresh pair.thresh) (Decides-eqb limits.bg pair.bg))
    (λ p. record { thresh = p.0; background = p.1 }) (λ g. (g.thresh, g.background))

thresholds_decide : (low high bg : ℕ) (limits : Limits) → Decides (are_thresholds low high bg limits) (AreThresholds low high bg limits)
thresholds_decide low high bg limits = like (are_thresholds low high bg limits)
    (Decides-and _ _ (is_le low limits.thresh) (Decides-and _ _ (is_le limits.thresh high) (is_le limits.bg bg)))
    (λ p. record { at_least = p.0; at_most = p.1.0; background = p.1.1 }) (λ t. (t.at_least, (t.at_most, t.background)))

cgroup_decides : (trace : Trace) (now : ℕ) (cgroup : Option Cgroup) (limits : Limits) → Decides (is_cgroup trace now cgroup limits) (IsCgroup trace now cgroup limits)
cgroup_decides trace now None limits = ((λ is. cc), λ none. absurd none)
cgroup_decides trace now (Some cgroup) limits =
    thresholds_decide (cgroup_with trace now cgroup.filepages).thresh (cgroup_with trace now (cgroup.filepages + cgroup.headroom)).thresh limits.thresh limits

has_decides : (trace : Trace) (now domain : ℕ) (limits : Limits) → Decides (has_thresholds trace now domain limits) (HasThresholds trace now domain limits)
has_decides trace now zero limits = global_decides (global_at trace now) limits
has_decides trace now (suc cgroup) limits = cgroup_decides trace now (slice_get trace.cgroups cgroup) limits

hard_decides : (at_least : Bool) (before thresh hard : ℕ) → Decides (hard_by at_least before thresh hard) (HardBy at_least before thresh hard)
hard_decides true before thresh hard = Decides-and _ _ (is_le hard before) (is_le before (hard + (before - thresh) / 32))
hard_decides false before thresh hard = Decides-eqb hard thresh

opens_decides : (trace : Trace) (opened : ℕ) (lines : List LastLine) (domain now : ℕ) (limits : Limits) → Decides (opens trace opened lines domain now limits) (Opens trace opened lines domain now limits)
opens_decides trace opened lines domain now limits = like (opens trace opened lines domain now limits)
    (Decides-and _ _ (Decides-eqb domain (length lines)) (Decides-and _ _ (Decides-eqb now opened)
    (Decides-and _ _ (has_decides trace now domain limits) (Decides-eqb limits.hard limits.thresh))))
    (λ p. record { next = p.0; at_once = p.1.0; thresholds = p.1.1.0; hard = p.1.1.1 })
    (λ o. (o.next, (o.at_once, (o.thresholds, o.hard))))

follows_decides : (trace : Trace) (before : Option LastLine) (domain now : ℕ) (limits : Limits) → Decides (line_follows trace before domain now limits) (LineFollows trace before domain now limits)
follows_decides trace None domain now limits = ((λ is. cc), λ none. absurd none)
follows_decides trace (Some before) domain now limits = like (line_follows trace (Some before) domain now limits)
    (Decides-and _ _ (is_le (before.now + 200) now) (Decides-and _ _ (has_decides trace now domain limits) (hard_decides (nat_le limits.thresh before.hard) before.hard limits.thresh limits.hard)))
    (λ p. (p.0, p.1.0, p.1.1)) (λ f. (f.0, (f.1, f.2)))

limits_decides : (is_opening : Bool) (trace : Trace) (opened : ℕ) (lines : List LastLine) (domain now : ℕ) (limits : Limits)
    → Decides (limits_by is_opening trace opened lines domain now limits) (LimitsBy is_opening trace opened lines domain now limits)
limits_decides true trace opened lines domain now limits = opens_decides trace opened lines domain now limits
limits_decides false trace opened lines domain now limits = follows_decides trace (slice_get lines domain) domain now limits

begin_by : (opening named : Bool) → (if opening then false else named) ≡ true → (opening ≡ false) × (named ≡ true)
begin_by true named is = cc
begin_by false named is = (refl, is)

begin_back : (opening named : Bool) → opening ≡ false → named ≡ true → (if opening then false else named) ≡ true
begin_back opening named closed there = ap (λ o. if o then false else named) closed ∙ there

begin_decides : (trace : Trace) (lines : List LastLine) (domain : ℕ) → Decides (if is_opening trace lines then false else nat_lt domain (domains trace)) (MayBegin trace lines domain)
begin_decides trace lines domain = (
  (λ is. let p = begin_by (is_opening trace lines) (nat_lt domain (domains trace)) is in record { opened = p.0; named = p.1 }),
  (λ b. begin_back (is_opening trace lines) (nat_lt domain (domains trace)) b.opened b.named),
)

pub timer_tells : (trace : Trace) (opened : ℕ) (lines : List LastLine) (entry : TimerEntry) → Tells (timer_fault trace opened lines entry) (TimerGoesOn trace opened lines entry)
timer_tells trace opened lines (timer.Limits domain now limits) = test_tells _ 0 (limits_decides (is_opening trace lines) trace opened lines domain now limits)
timer_tells trace opened lines (timer.Period domain k) = test_tells _ 0 (begin_decides trace lines domain)

-- ---- pages

at_there : (page : ℕ) (o : Option ℕ) → is_at page o ≡ true → o ≡ Some page
at_there page None is = cc
at_there page (Some at) is = ap Some ((Decides-eqb at page).0 is)

at_decides : (page : ℕ) (o : Option ℕ) → Decides (is_at page o) (o ≡ Some page)
at_decides page o = (at_there page o, λ is. ap (is_at page) is ∙ (Decides-eqb page page).1 refl)

writes_decides : (trace : Trace) (tasks : List ℕ) (cpu task page : ℕ) → Decides (is_own_task trace cpu task && is_at page (next_page trace tasks task)) (Writes trace tasks cpu task page)
writes_decides trace tasks cpu task page = like (is_own_task trace cpu task && is_at page (next_page trace tasks task))
    (Decides-and _ _ (is_true (is_own_task trace cpu task)) (at_decides page (next_page trace tasks task)))
    (λ p. record { own = p.0; next = p.1 }) (λ w. (w.own, w.next))

move_tells : (trace : Trace) (move : Move) → Tells (of_part None (λ page. unless (has_page (page_context trace page)) 0) (page_of move)) (NamesPage trace move)
move_tells trace move = part_tells (λ page. unless (has_page (page_context trace page)) 0) (λ page. has_page (page_context trace page) ≡ true)
    (λ page. test_tells _ 0 (is_true (has_page (page_context trace page)))) (page_of move)

pub page_tells : (trace : Trace) (tasks : List ℕ) (item : Item) → Tells (page_fault trace tasks item) (PagesAreNext trace tasks item)
page_tells trace tasks (begins cpu) = always
page_tells trace tasks (tells cpu entry) = tells_like _
    (both_tell _ _
    (part_tells (write_fault trace tasks cpu) (λ (write : Write). Writes trace tasks cpu write.task write.page)
    (λ write. test_tells _ 0 (writes_decides trace tasks cpu write.task write.page)) (effect entry).write)
    (both_tell _ _
    (part_tells (task_fault trace cpu) (λ (check : CheckEntry). is_own_task trace cpu check.task ≡ true)
    (λ check. test_tells _ (decision_at check) (is_true (is_own_task trace cpu check.task))) (effect entry).check)
    (part_tells (move_fault trace) (λ (flight : Flight). NamesPage trace flight.move) (λ flight. move_tells trace flight.move) (effect entry).flight)))
    (λ all. record { write = all.0; check = all.1.0; flight = all.1.1 })
    (λ names. (names.write, (names.check, names.flight)))

-- ---- flushers

scans_decides : (phase : ToldPhase) → Decides (scans phase) (Scans phase)
scans_decides (scanning pages) = ((λ is. tt), λ p. refl)
scans_decides other = ((λ is. cc), λ none. absurd none)

hands_decides : (count : ℕ) (phase : ToldPhase) → Decides (hands count phase) (Hands count phase)
hands_decides count (scanning pages) = Decides-and _ _ (is_le 1 count) (Decides-eqb count (length pages))
hands_decides count other = ((λ is. cc), λ none. absurd none)

lands_decides : (page : ℕ) (phase : ToldPhase) → Decides (is_landing page phase) (Lands page phase)
lands_decides page (flying (next ∷ pages)) = Decides-eqb next page
lands_decides page (flying []) = ((λ is. cc), λ none. absurd none)
lands_decides page (scanning pages) = ((λ is. cc), λ none. absurd none)
lands_decides page (returning pages) = ((λ is. cc), λ none. absurd none)
lands_decides page failed = ((λ is. cc), λ none. absurd none)

back_decides : (page : ℕ) (phase : ToldPhase) → Decides (is_giving_back page phase) (GivesBack page phase)
back_decides page (returning (next ∷ pages)) = Decides-eqb next page
back_decides page (returning []) = ((λ is. cc), λ none. absurd none)
back_decides page (scanning pages) = ((λ is. cc), λ none. absurd none)
back_decides page (flying pages) = ((λ is. cc), λ none. absurd none)
back_decides page failed = ((λ is. cc), λ none. absurd none)

move_decides : (move : Move) (phase : ToldPhase) → Decides (may_move move phase) (MayMove move phase)
move_decides (takes page) phase = scans_decides phase
move_decides (flies pages now until) phase = hands_decides pages phase
move_decides (lands page) phase = lands_decides page phase
move_decides (fails pages) phase = hands_decides pages phase
move_decides (gives_back page absorbed) phase = back_decides page phase

within_decides : (chunk : Option ℕ) (pages : ℕ) → Decides (is_within_chunk chunk pages) (IsWithinChunk chunk pages)
within_decides None pages = ((λ is. tt), λ p. refl)
within_decides (Some most) pages = is_le pages most

chunk_decides : (chunk : Option ℕ) (move : Move) → Decides (meets_chunk chunk move) (MeetsChunk chunk move)
chunk_decides chunk (takes page) = ((λ is. tt), λ p. refl)
chunk_decides chunk (flies pages now until) = within_decides chunk pages
chunk_decides chunk (lands page) = ((λ is. tt), λ p. refl)
chunk_decides chunk (fails pages) = within_decides chunk pages
chunk_decides chunk (gives_back page absorbed) = ((λ is. tt), λ p. refl)

flies_decides : (trace : Trace) (cpu : ℕ) (flushers : List ToldFlusher) (entry : Told) → Decides (flies_told trace cpu flushers entry) (FliesTold trace cpu flushers entry)
flies_decides trace cpu flushers entry = part_decides (flies_by trace cpu flushers) (FliesBy trace cpu flushers)
    (λ flight. like (flies_by trace cpu flushers flight)
    (Decides-and _ _ (is_true (is_own_flusher trace cpu flight.flusher))
    (Decides-and _ _ (move_decides flight.move (flusher_of flushers flight.flusher).phase) (chunk_decides (chunk_at trace flight.flusher) flight.move)))
    (λ p. (p.0, p.1.0, p.1.1)) (λ f. (f.0, (f.1, f.2)))) (effect entry).flight

flight_tells : (trace : Trace) (flushers : List ToldFlusher) (item : Item) → Tells (flight_fault trace flushers item) (Flies trace flushers item)
flight_tells trace flushers (begins cpu) = always
flight_tells trace flushers (tells cpu entry) = test_tells _ 0 (flies_decides trace cpu flushers entry)

pub turn_tells : (trace : Trace) (flushers : List ToldFlusher) (item : Item) → Tells (turn_fault trace flushers item) (WaitsOnOwn trace item × Flies trace flushers item)
turn_tells trace flushers item = both_tell _ _ (stranger_tells trace item) (flight_tells trace flushers item)

-- ---- what is left

even_decides : (entries : List Told) (left : List Left) (page : ℕ) → Decides (is_even entries left page) (IsEven entries left page)
even_decides entries left page = like (is_even entries left page)
    (Decides-and _ _ (Decides-eqb (count_by (dirties page) entries + count_by (redirties page) entries) (count_by (claims page) entries + left_dirty page left))
    (Decides-eqb (count_by (claims page) entries) (count_by (completes page) entries + count_by (redirties page) entries + count_by (absorbs page) entries + left_writeback page left)))
    (λ p. record { claimed_all = p.0; released_all = p.1 }) (λ e. (e.claimed_all, e.released_all))

pub ledger_decides : (entries : List Told) (left : List Left) (pages : ℕ) → Decides (is_even_below entries left pages) (IsEvenBelow entries left pages)
ledger_decides entries left pages = Decides-below_and (is_even entries left) (IsEven entries left) (is_even_below entries left) (even_decides entries left) refl (λ n. refl) pages

pub left_decides : (page : ℕ) (left : List Left) → Decides (is_left_from page left) (LeftFrom page left)
left_decides page [] = ((λ is. tt), λ p. refl)
left_decides page (left ∷ more) = like (is_left_from page (left ∷ more))
    (Decides-and _ _ (is_le page left.page) (Decides-and _ _ (is_le 1 left.word) (Decides-and _ _ (is_le left.word 3) (left_decides (left.page + 1) more))))
    (λ p. (p.0, p.1.0, p.1.1.0, p.1.1.1)) (λ l. (l.0, (l.1, (l.2, l.3))))

pub bound_decides : (trace : Trace) (entries : List TimerEntry) (left : List Left) (domains : ℕ) → Decides (is_bounded trace entries left domains) (IsBounded trace entries left domains)
bound_decides trace entries left domains =
    Decides-below_and (λ domain. nat_le (count_of trace domain left) (bound_of trace entries domain)) (λ domain. count_of trace domain left ≤ bound_of trace entries domain)
    (is_bounded trace entries left) (λ domain. is_le (count_of trace domain left) (bound_of trace entries domain)) refl (λ n. refl) domains

-- ---- the ending

wrote_decides : (trace : Trace) (entries : List Told) (task : ℕ) (lines : List TaskLine) → Decides (wrote_all trace entries task lines) (WroteAll trace entries task lines)
wrote_decides trace entries task [] = ((λ is. tt), λ p. refl)
wrote_decides trace entries task (line ∷ lines) =
    Decides-and _ _ (is_le (length (pages_of_task trace task)) (count_by (writes_of task) entries)) (wrote_decides trace entries (task + 1) lines)

nothing_there : (left : List Left) → is_nothing left ≡ true → left ≡ []
nothing_there [] is = refl
nothing_there (left ∷ more) is = cc

nothing_decides : (left : List Left) → Decides (is_nothing left) (left ≡ [])
nothing_decides left = (nothing_there left, λ is. ap is_nothing is)

pub ending_decides : (trace : Trace) (parts : List (List Told)) (entries : List Told) (left : List Left) (end : Ending) → Decides (ends_by trace parts entries left end) (EndsBy trace parts entries left end)
ending_decides trace parts entries left ending.Done = like (ends_by trace parts entries left ending.Done)
    (Decides-and _ _ (is_false (a_flusher_failed trace entries)) (Decides-and _ _ (wrote_decides trace entries 0 trace.tasks) (nothing_decides left)))
    (λ p. (p.0, p.1.0, p.1.1)) (λ e. (e.0, (e.1, e.2)))
ending_decides trace parts entries left ending.Halted = is_false (a_flusher_failed trace entries)
ending_decides trace parts entries left ending.Spent = Decides-and _ _ (is_false (a_flusher_failed trace entries)) (is_true (list_any has_all_steps parts))
ending_decides trace parts entries left ending.Faulted = is_true (a_flusher_failed trace entries)
