-- The run of eight pages, worked out.
use Rattle.std.proofs.Common.{◌≡◌, ℕ, zero, suc, ◌+◌, ◌^◌, ◌<◌, ◌≤◌, true, eqb, leb, not, ◌&&◌, ◌||◌, Some, pos, List, [], ◌∷◌, map, ◌++◌, flat_map, count_by, slice_get, All, Contains, inl, sym, refl, ap, ◌∙◌, subst, arith}
use Rattle.std.specs.List.{list_all}
use Rattle.std.proofs.lemmas.Bool.{ltb-true}
use Rattle.std.proofs.lemmas.List.Elements.{All-head}
use Rattle.wbt_run_laws.proofs.Common.{domain_batch, context_batch, is_same, Fold, Reading, first_at, Estimate, total, Note, no_record, global_threshold, threshold, background_below, thresholds_of, halvings, log2, IsCounted, Task, first_in, first_one, IsAmong, first_version, first_estimates, first, page_after, ended, new_writer, new_cpu, cpu_step, cpu_after, CountsAreFresh, versions_after, is_behind, effect, pages_of_task, Side, first_side, side_after, TimerGoesOn, lines_after, after, HasSeen, Grew, limits_in, WereHeld, NotedSince, SharesGrew, IsTold, EstimatesGrew, IsOwn, first_shown, HaveWritten, SideWalked, of_first, knows, knows_nothing, TimerSince, items_told, Walks, part_at, NoneFailed}
use Rattle.wbt_counter.specs.declared.counter.Counter.TheVariants.{Context, Domain}
use Rattle.wbt_fraction.specs.Notes.{IsHistory}
use Rattle.wbt_fraction.specs.Sums.{total as weigh}
use Rattle.wbt_grant.specs.Kinds.{AreAllowed}
use Rattle.wbt_grant.specs.Laws.{Holds}
use Rattle.wbt_grant.specs.State.{opening}
use Rattle.wbt_grant.proofs.Tests.{tests_are_right}
use Rattle.wbt_grant.proofs.Whole.{always_holds}
use Rattle.wbt_pause.specs.Decision.{decided, decision_of}
use Rattle.wbt_published.specs.Publishing.{IsComplete as KnowsAll}
use Rattle.wbt_published.proofs.Places.{note_first}
use Rattle.wbt_rules.specs.Strict.{is_strict}
use Rattle.wbt_strict.specs.Decision.{decision_for}
use Rattle.wbt_journal.specs.Checks.{IsQuiet, StandsTold, task_numbers}
use Rattle.wbt_journal.specs.Pages.{NamesPages, next_page}
use Rattle.wbt_journal.specs.Told.{folded, checked}
use Rattle.wbt_run_laws.specs.Closed.{Closed, SharesTell, PassesTell}
use Rattle.wbt_run_laws.specs.EightPages.{eight_trace, eight_setting, eight_steps, eight_end, eight_check, eight_fold, eight_numbers, wrote_page, eight_told, told_event, eight_events, eight_journal, eight_last, eight_timer, eight_run, EightPagesAreWorked}
use Rattle.wbt_run_laws.specs.Owns.{IsOfWriters}
use Rattle.wbt_run_laws.specs.Shown.{Wrote}
use Rattle.wbt_run_laws.specs.Small.{timer_opened}
use Rattle.wbt_run_laws.specs.Ticks.{gate_stopped}
use Rattle.wbt_run_laws.proofs.Lists.{and_both, here, not_ahead}
use Rattle.wbt_run_laws.proofs.Noting.{noted_of_writers}
use Rattle.wbt_run_laws.proofs.Small.{one_of, free_in_range, small_is_lawful, small_is_throttle, small_is_setting, small_opens, none_in, zero_is_behind, zeros, own_zeros, other_zeros, first_rises, no_notes}
use Rattle.wbt_run_laws.proofs.Walking.{walked_none}

-- ---- the table

eight_allowed : AreAllowed eight_setting eight_steps (opening eight_setting)
unfolding domain_batch context_batch log2 halvings
eight_allowed = tests_are_right eight_setting eight_steps (opening eight_setting) refl

eight_holds : Holds eight_setting eight_end
eight_holds = always_holds eight_setting eight_steps (small_is_setting 1 8 8 0 (omega arith) (omega arith) (omega arith) (omega arith) (omega arith) (omega arith) (omega arith)) eight_allowed

eight_closed : Closed eight_trace eight_setting eight_end (λ cpu. eight_end.cpu cpu) eight_end.timer eight_journal.left
unfolding domain_batch context_batch log2 halvings
eight_closed = record { cpus_are = λ cpu less. refl; timer_is = refl; holds = eight_holds; left_is = refl }

-- ---- the part

-- what the record has after the part
eight_folds : (eight_end.cpu 0).folds ≡ eight_fold ∷ []
unfolding domain_batch context_batch log2 halvings
eight_folds = refl

abbrev domain_reading : Reading
domain_reading = record { counter = Domain 0; version = 0; value = pos 0 }

abbrev context_reading : Reading
context_reading = record { counter = Context 0; version = 1; value = pos 8 }

eight_readings : (eight_end.cpu 0).readings ≡ context_reading ∷ domain_reading ∷ []
unfolding domain_batch context_batch log2 halvings
eight_readings = refl

-- the check's loads are as new as the fold before it
eight_fresh : (cpu : ℕ) → Walks HasSeen CountsAreFresh versions_after no_record (items_told cpu eight_told) (eight_end.cpu 0)
eight_fresh cpu = record {
  allowed = λ seen has. (tt, (tt, (tt, (tt, (tt, (tt, (tt, (tt, (tt, ((and_both (is_behind (Domain 0) 0 (record { counter = Context 0; version = 1 })) (list_all (is_behind (Domain 0) 0) seen) refl (has 0 (Domain 0) (none_in 0 (Domain 0))), (and_both (is_behind (Context 0) 1 (record { counter = Context 0; version = 1 })) (list_all (is_behind (Context 0) 1) seen) refl (has 1 (Context 0) (none_in 1 (Context 0))), tt)), tt))))))))));
  reached = λ seen has version x none.
      let F = λ (f : Fold). is_same x f.counter ≡ true → f.version ≤ version in
      let folds = subst (λ (l : List Fold). All F l) eight_folds none.folds_behind in
      let made = not_ahead (is_same x (Context 0)) 1 version (All-head F eight_fold [] folds) in
      let rest = has version x (none_in version x) in
      and_both (not (is_same x (Domain 0)) || leb 0 version) _ (zero_is_behind (not (is_same x (Domain 0))) version)
      (and_both (not (is_same x (Context 0)) || leb 1 version) _ made (and_both (not (is_same x (Context 0)) || leb 1 version) (list_all (is_behind x version) seen) made rest));
}

eight_grew : Grew eight_told no_record (eight_end.cpu 0)
unfolding domain_batch context_batch log2 halvings
eight_grew = record {
  folds = refl;
  events = refl;
  found_dirty = refl;
  readings = record { more = (eight_end.cpu 0).readings; longer = refl; told_in_order = inl (refl, inl (refl, tt)) };
  triples = record { more = (eight_end.cpu 0).triples; longer = refl };
  fresh = eight_fresh;
  page_steps = refl;
}

eight_held : WereHeld eight_setting.firsts (flat_map limits_in eight_told) [] (eight_end.cpu 0).triples
unfolding domain_batch context_batch log2 halvings
eight_held = ([], record { more = []; longer = refl }, refl, record { more = []; longer = refl })

write_stands : (page : ℕ) (s : Side) → IsQuiet eight_trace s 0 → StandsTold eight_trace s 0 (effect (wrote_page page))
write_stands page s quiet = record { write = λ judged. quiet; check = tt }

eight_side : SideWalked eight_trace 1 0 (first_shown eight_trace eight_setting.firsts).side eight_told (eight_last 0).side
unfolding first page_after ended new_writer new_cpu cpu_step cpu_after thresholds_of threshold global_threshold background_below
eight_side = record {
  events = eight_events;
  are = refl;
  walked = record {
    allowed = (write_stands 0 _ (refl, tt), (write_stands 1 _ (refl, tt), (write_stands 2 _ (refl, tt), (write_stands 3 _ (refl, tt), (write_stands 4 _ (refl, tt), (write_stands 5 _ (refl, tt), (write_stands 6 _ (refl, tt), (write_stands 7 _ (refl, tt), (record { write = tt; check = tt }, (record { write = tt; check = λ own. record { is_due = refl; global = refl; cgroup = refl } }, tt))))))))));
    reached = refl;
  };
}

names_next : (page : ℕ) (tasks : List ℕ) → next_page eight_trace tasks 0 ≡ Some page → NamesPages eight_trace tasks 0 (effect (wrote_page page))
names_next page tasks next = record { write = record { own = refl; next = next }; check = tt; flight = tt }

next_of : (page : ℕ) (tasks : List ℕ) → count_by (λ by. eqb by 0) tasks ≡ 0 → slice_get (pages_of_task eight_trace 0) page ≡ Some page → next_page eight_trace (zeros page tasks) 0 ≡ Some page
next_of page tasks none is = ap (slice_get (pages_of_task eight_trace 0)) (own_zeros page tasks none) ∙ is

written_by : (tasks : List ℕ) → HaveWritten (λ task. 0) tasks → (task : ℕ) → count_by (λ by. eqb by task) (zeros 8 tasks) ≡ of_first 8 0 task
written_by tasks have zero = own_zeros 8 tasks (have 0)
written_by tasks have (suc task) = other_zeros task 8 tasks (have (suc task))

eight_wrote : Wrote eight_trace 0 (λ task. 0) eight_told (of_first 8 0)
eight_wrote = record {
  allowed = λ tasks have.
      let next = λ (page : ℕ) (is : slice_get (pages_of_task eight_trace 0) page ≡ Some page). names_next page (zeros page tasks) (next_of page tasks (have 0) is) in
      (next 0 refl, (next 1 refl, (next 2 refl, (next 3 refl, (next 4 refl, (next 5 refl, (next 6 refl, (next 7 refl, (record { write = tt; check = tt; flight = tt }, (record { write = tt; check = refl; flight = tt }, tt))))))))));
  reached = λ tasks have. written_by tasks have;
}

own_write : (page : ℕ) → IsOwn eight_trace 0 (wrote_page page)
own_write page = record { write = refl; fold = tt; check = tt; flight = tt; share = tt; estimate = tt; wait = tt }

own_fold : IsOwn eight_trace 0 (folded eight_fold)
own_fold = record { write = tt; fold = refl; check = tt; flight = tt; share = tt; estimate = tt; wait = tt }

own_check : IsOwn eight_trace 0 (checked eight_check)
own_check = record { write = tt; fold = tt; check = record { own = refl; context = refl; each_domain = (refl, tt) }; flight = tt; share = tt; estimate = tt; wait = tt }

of_write : (page : ℕ) → IsOfWriters (wrote_page page)
of_write page = record { no_flight = refl; no_share = refl; no_estimate = refl; no_wait = refl }

-- ---- notes

eight_shares : SharesGrew 0 eight_told (eight_run.first_notes 0) (eight_run.notes 0)
eight_shares = record {
  longer = λ domain. record { more = []; longer = refl };
  adds = λ domain context. omega arith;
  begins_none = λ domain. refl;
  kept = λ kept. kept;
  fractions = λ kept. (tt, (tt, (tt, (tt, (tt, (tt, (tt, (tt, (tt, ((inl refl, tt), tt))))))))));
  periods = record {
    allowed = λ seen keeps. (tt, (tt, (tt, (tt, (tt, (tt, (tt, (tt, (tt, ((keeps 0 0 0 (omega arith), tt), tt))))))))));
    reached = λ seen keeps domain context period late. and_both (not (eqb 0 domain && eqb 0 context) || leb 0 period) _ (zero_is_behind (not (eqb 0 domain && eqb 0 context)) period) (keeps domain context period late);
  };
}

none_seen : (context version : ℕ) → (of_first (knows true (first_one ∷ []) [] 0) knows_nothing context).seen ≤ version
none_seen zero version = omega arith
none_seen (suc context) version = omega arith

eight_told_for : (context : ℕ) → IsTold (first_in (first_estimates eight_trace 1) context) [] ((eight_run.first_notes 0).estimates context) ((eight_run.notes 0).estimates context)
eight_told_for zero = record {
  right = refl;
  published = λ is. refl;
  silent = λ is. refl;
  follow = record { allowed = λ s stands. tt; reached = λ s stands. record { later = stands.later; all_are = stands.all_are; newest_is = stands.newest_is } };
  reads = λ note has. absurd (let low = has.1 in omega arith);
}
eight_told_for (suc context) = record {
  right = refl;
  published = λ is. refl;
  silent = λ is. refl;
  follow = record { allowed = λ s stands. tt; reached = λ s stands. stands };
  reads = λ note has. has;
}

eight_estimates : EstimatesGrew (first_estimates eight_trace 1) 0 eight_told (eight_run.first_notes 0) (eight_run.notes 0)
eight_estimates = record {
  each = eight_told_for;
  names = record {
    allowed = λ seen named. (tt, (tt, (tt, (tt, (tt, (tt, (tt, (tt, (tt, (named 0 0 (omega arith), tt))))))))));
    reached = λ seen named context version late. and_both (not (eqb 0 context) || leb 0 version) _ (zero_is_behind (not (eqb 0 context)) version) (named context version (none_seen context version));
  };
}

-- the writer's numbers where its check comes
abbrev eight_task : Task
eight_task = task_numbers eight_trace (after (side_after eight_trace 1) (first_side eight_trace) (map told_event (map wrote_page eight_numbers ++ folded eight_fold ∷ []))) eight_check

eight_counted : IsCounted eight_task
unfolding first page_after ended new_writer new_cpu cpu_step cpu_after thresholds_of threshold global_threshold background_below
eight_counted = record { dirtied = ltb-true eight_task.nr_dirtied (2 ^ 52) refl; allowance = ltb-true eight_task.nr_dirtied_pause (2 ^ 52) refl }

eight_since : NotedSince eight_trace 1 0 eight_told (first_shown eight_trace eight_setting.firsts) (eight_last 0) (eight_run.first_notes 0) (eight_run.notes 0)
unfolding first_at is_strict decision_for decision_of decided log2 halvings first page_after ended new_writer new_cpu cpu_step cpu_after thresholds_of threshold global_threshold background_below eight_side
eight_since = noted_of_writers eight_trace 1 0 eight_told (first_shown eight_trace eight_setting.firsts) (eight_last 0) (eight_run.first_notes 0) (eight_run.notes 0) (record {
  turn = record {
    grew = eight_grew;
    held = eight_held;
    firsts_stay = refl;
    side = eight_side;
    wrote = eight_wrote;
    own = (own_write 0, (own_write 1, (own_write 2, (own_write 3, (own_write 4, (own_write 5, (own_write 6, (own_write 7, (own_fold, (own_check, tt))))))))));
    of_writers = (of_write 0, (of_write 1, (of_write 2, (of_write 3, (of_write 4, (of_write 5, (of_write 6, (of_write 7, (record { no_flight = refl; no_share = refl; no_estimate = refl; no_wait = refl }, (record { no_flight = refl; no_share = refl; no_estimate = refl; no_wait = refl }, tt))))))))));
    flushers_stay = λ flusher. refl;
  };
  shares = eight_shares;
  estimates = eight_estimates;
  decided = (tt, (tt, (tt, (tt, (tt, (tt, (tt, (tt, (tt, (record { estimate = first_at 1; named = first_version 1; was_read = subst (λ (e : Estimate). Contains (first_one ∷ []) e) (sym (note_first (first_at 1) (first_version 1))) (here first_one []); first = λ is. refl; in_range = free_in_range 2 4 eight_check.count eight_task (omega arith) (omega arith) eight_counted; decision = refl }, tt))))))))));
})

-- ---- the timer

eight_timed : TimerSince eight_trace 1 1 [] (timer_opened eight_trace) eight_timer
unfolding domain_batch context_batch log2 halvings
eight_timed = record {
  published = refl;
  peaks = record { raised = record { domain = 0; hard = 39 }; fate = gate_stopped } ∷ [];
  raised = refl;
  told_are = refl;
  stops_are = refl;
  causes = (tt, tt);
  follow = walked_none (TimerGoesOn eight_trace 1) lines_after (timer_opened eight_trace).lines;
  begun_are = λ domain. refl;
  in_order = λ domain is. is;
  adds_none = λ domain context. refl;
}

-- ---- the whole

eight_none_failed : NoneFailed eight_trace eight_last
eight_none_failed cpu zero less low = refl
eight_none_failed cpu (suc flusher) less low = absurd (omega arith)

eight_each : (cpu : ℕ) → cpu < 1 → NotedSince eight_trace 1 cpu (part_at eight_journal cpu) (first_shown eight_trace eight_setting.firsts) (eight_last cpu) (eight_run.first_notes cpu) (eight_run.notes cpu)
eight_each zero less = eight_since
eight_each (suc cpu) less = absurd (omega arith)

eight_sums : (domain : ℕ) → domain < 1 → (h : Note → ℕ) → weigh h [] ≡ total 1 (λ cpu. weigh h ((eight_run.notes cpu).shares domain)) + weigh h []
unfolding weigh
eight_sums zero low h = refl
eight_sums (suc domain) low h = absurd (omega arith)

eight_have : (cpu domain : ℕ) → cpu < 1 → domain < 1 → (note : Note) → Contains ((eight_run.notes cpu).shares domain) note → Contains [] note
eight_have cpu zero less low note has = has
eight_have cpu (suc domain) less low note has = absurd (omega arith)

eight_tell : SharesTell eight_trace eight_run.notes (timer_opened eight_trace).shares (λ domain. [])
unfolding IsHistory
eight_tell = record {
  complete = λ domain low. record { history = []; same = λ h. refl; lawful = tt };
  weights = eight_sums;
  have = eight_have;
  begun_are = λ domain low. refl;
}

first_among : IsAmong (first_one ∷ []) first_one
unfolding first_at
first_among = refl

eight_passes : PassesTell eight_trace eight_run.publisher eight_run.first_notes eight_run.notes eight_run.all_known
eight_passes = record {
  publishers = λ context low. omega arith;
  publishes = publishes;
  opens = opens;
  no_other = λ cpu context less low other. absurd (other (omega arith));
  complete = complete;
  all_are = same;
  have = have;
}
  where
    publishes : (context : ℕ) → context < 1 → ((eight_run.first_notes 0).estimates context).publishes ≡ true
    publishes zero low = refl
    publishes (suc context) low = absurd (omega arith)

    opens : (context : ℕ) → context < 1 → ((eight_run.first_notes 0).estimates context).all ≡ first_one ∷ []
    opens zero low = refl
    opens (suc context) low = absurd (omega arith)

    complete : (context : ℕ) → context < 1 → KnowsAll (eight_run.all_known context)
    complete zero low = record { rising = first_rises; read = one_of (IsAmong (first_one ∷ [])) first_one first_among }
    complete (suc context) low = absurd (omega arith)

    same : (context : ℕ) → context < 1 → (eight_run.all_known context).all ≡ ((eight_run.notes 0).estimates context).all
    same zero low = refl
    same (suc context) low = absurd (omega arith)

    have : (cpu context : ℕ) → cpu < 1 → context < 1 → (note : Estimate) → Contains ((eight_run.notes cpu).estimates context).reads note → Contains (eight_run.all_known context).reads note
    have cpu zero less low note has = has
    have cpu (suc context) less low note has = absurd (omega arith)

pub eight_worked : EightPagesAreWorked
eight_worked = record {
  lawful = small_is_lawful 1 8 8 0 (omega arith) (omega arith) (omega arith) (omega arith) (omega arith) (omega arith) (omega arith);
  throttle = small_is_throttle 1 8 8 0 (omega arith) (omega arith) (omega arith) (omega arith) (omega arith) (omega arith) (omega arith);
  parts = refl;
  names = ((refl, (refl, refl)), tt);
  timer_is = refl;
  since = eight_each;
  timer_since = eight_timed;
  opens = small_opens 1 8 8 0 (omega arith) (omega arith) (omega arith) (omega arith) (omega arith) (omega arith) (omega arith);
  timer_opens = record { published = refl; lines = refl; shares = λ domain. refl };
  noted_nothing = λ cpu less. record { shares = no_notes; kept = λ domain context. refl };
  closed = eight_closed;
  shares_tell = eight_tell;
  passes_tell = eight_passes;
  ended = eight_none_failed;
  none_due = λ cpu less. tt;
}
