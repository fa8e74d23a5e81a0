-- The writer's turns of the run of one page.
use Rattle.std.proofs.Common.{◌≡◌, ℕ, zero, suc, ◌+◌, ◌^◌, ◌≤◌, true, false, eqb, leb, not, ◌&&◌, ◌||◌, pos, List, [], ◌∷◌, ◌++◌, flat_map, count_by, slice_get, Contains, inl, inr, sym, refl, ap, subst, arith}
use Rattle.std.specs.List.{list_all}
use Rattle.std.proofs.lemmas.Bool.{ltb-true}
use Rattle.wbt_run_laws.proofs.Common.{domain_batch, context_batch, is_same, Reading, first_at, Estimate, begun, added_at, Found, no_record, global_threshold, threshold, background_below, thresholds_of, halvings, log2, IsCounted, Task, first_in, first_one, first_version, first_estimates, first, page_after, ended, new_writer, new_cpu, cpu_step, cpu_after, CountsAreFresh, versions_after, is_behind, pages_of_task, first_side, item, side_after, tells, HasSeen, Grew, limits_in, WereHeld, NotedSince, SharesGrew, IsTold, EstimatesGrew, one_trace, one_setting, one_end, one_last, one_first, one_notes, IsOwn, first_shown, HaveWritten, SideWalked, of_first, knows, knows_nothing, items_told, Walks}
use Rattle.wbt_counter.specs.declared.counter.Counter.TheVariants.{Context, Domain}
use Rattle.wbt_fraction.specs.Sums.{total as weigh}
use Rattle.wbt_fraction.specs.Words.{word_of}
use Rattle.wbt_pause.specs.Decision.{decided, decision_of}
use Rattle.wbt_published.proofs.Places.{note_first}
use Rattle.wbt_rules.specs.Strict.{is_strict}
use Rattle.wbt_strict.specs.Decision.{decision_for}
use Rattle.wbt_journal.specs.Checks.{task_numbers}
use Rattle.wbt_journal.specs.Told.{wrote, checked}
use Rattle.wbt_run_laws.specs.OnePage.{one_check, one_writes, one_events, one_side, one_read}
use Rattle.wbt_run_laws.specs.Shown.{Wrote}
use Rattle.wbt_run_laws.proofs.Lists.{and_both, here, there}
use Rattle.wbt_run_laws.proofs.Noting.{noted_of_writers}
use Rattle.wbt_run_laws.proofs.Small.{free_in_range, none_in, zero_is_behind, zeros, own_zeros, other_zeros}

abbrev domain_reading : Reading
domain_reading = record { counter = Domain 0; version = 0; value = pos 0 }

abbrev context_reading : Reading
context_reading = record { counter = Context 0; version = 0; value = pos 0 }

-- ---- the writer's turns

write_fresh : (cpu : ℕ) → Walks HasSeen CountsAreFresh versions_after no_record (items_told cpu one_writes) (one_end.cpu 0)
write_fresh cpu = record {
  allowed = λ seen has. (tt, ((has 0 (Domain 0) (none_in 0 (Domain 0)), (has 0 (Context 0) (none_in 0 (Context 0)), tt)), tt));
  reached = λ seen has version x none.
      and_both (not (is_same x (Domain 0)) || leb 0 version) _ (zero_is_behind (not (is_same x (Domain 0))) version)
      (and_both (not (is_same x (Context 0)) || leb 0 version) (list_all (is_behind x version) seen) (zero_is_behind (not (is_same x (Context 0))) version) (has version x (none_in version x)));
}

write_grew : Grew one_writes no_record (one_end.cpu 0)
unfolding domain_batch context_batch log2 halvings
write_grew = record {
  folds = refl;
  events = refl;
  found_dirty = refl;
  readings = record { more = (one_end.cpu 0).readings; longer = refl; told_in_order = inl (refl, inl (refl, tt)) };
  triples = record { more = (one_end.cpu 0).triples; longer = refl };
  fresh = write_fresh;
  page_steps = refl;
}

write_held : WereHeld one_setting.firsts (flat_map limits_in one_writes) [] (one_end.cpu 0).triples
unfolding domain_batch context_batch log2 halvings
write_held = ((one_end.cpu 0).triples, record { more = (one_end.cpu 0).triples; longer = refl }, refl, record { more = []; longer = refl })

write_side : SideWalked one_trace 1 0 (first_shown one_trace one_setting.firsts).side one_writes (one_side 0)
unfolding first page_after ended new_writer new_cpu cpu_step cpu_after thresholds_of threshold global_threshold background_below
write_side = record {
  events = one_events;
  are = refl;
  walked = record { allowed = (record { write = λ judged. (refl, tt); check = tt }, (record { write = tt; check = λ own. record { is_due = refl; global = refl; cgroup = refl } }, tt)); reached = refl };
}

written_by : (tasks : List ℕ) → HaveWritten (λ task. 0) tasks → (task : ℕ) → count_by (λ by. eqb by task) (zeros 1 tasks) ≡ of_first 1 0 task
written_by tasks have zero = own_zeros 1 tasks (have 0)
written_by tasks have (suc task) = other_zeros task 1 tasks (have (suc task))

write_wrote : Wrote one_trace 0 (λ task. 0) one_writes (of_first 1 0)
write_wrote = record {
  allowed = λ tasks have. (record { write = record { own = refl; next = ap (slice_get (pages_of_task one_trace 0)) (have 0) }; check = tt; flight = tt }, (record { write = tt; check = refl; flight = tt }, tt));
  reached = λ tasks have. written_by tasks have;
}

own_write : IsOwn one_trace 0 (wrote 0 0 true)
own_write = record { write = refl; fold = tt; check = tt; flight = tt; share = tt; estimate = tt; wait = tt }

own_check : IsOwn one_trace 0 (checked one_check)
own_check = record { write = tt; fold = tt; check = record { own = refl; context = refl; each_domain = (refl, tt) }; flight = tt; share = tt; estimate = tt; wait = tt }

-- ---- what the CPUs note of shares

-- the words of the domain and of the part before anything is added
abbrev empty_domain : ℕ
empty_domain = word_of 0 1

abbrev empty_part : ℕ
empty_part = word_of 0 0

read_adds : (domain context : ℕ) → weigh (added_at (suc context)) (of_first one_read [] domain) ≡ weigh (added_at (suc context)) (of_first [] [] domain) + 0
unfolding weigh
read_adds zero context = refl
read_adds (suc domain) context = refl

read_begins : (domain : ℕ) → begun (of_first one_read [] domain) ≡ begun (of_first [] [] domain)
unfolding begun
read_begins zero = refl
read_begins (suc domain) = refl

read_whole : Contains one_read (Found 0 empty_domain)
read_whole = here (Found 0 empty_domain) (Found 1 empty_part ∷ Found 0 empty_domain ∷ [])

read_part : Contains one_read (Found 1 empty_part)
read_part = there (Found 0 empty_domain) (Found 1 empty_part) (Found 1 empty_part ∷ Found 0 empty_domain ∷ []) (here (Found 1 empty_part) (Found 0 empty_domain ∷ []))

write_shares : SharesGrew 0 one_writes (one_first 0) (one_notes 0)
write_shares = record {
  longer = λ domain. record { more = of_first one_read [] domain; longer = longer domain };
  adds = read_adds;
  begins_none = read_begins;
  kept = λ kept domain context. inl refl;
  fractions = λ kept. (tt, ((inr (record { part = empty_part; whole = empty_domain; found_part = read_part; found_whole = read_whole; behind = omega arith; value = refl }), tt), tt));
  periods = record {
    allowed = λ seen keeps. (tt, ((keeps 0 0 0 (omega arith), tt), tt));
    reached = λ seen keeps domain context period late. and_both (not (eqb 0 domain && eqb 0 context) || leb 0 period) _ (zero_is_behind (not (eqb 0 domain && eqb 0 context)) period) (keeps domain context period late);
  };
}
  where
    longer : (domain : ℕ) → of_first one_read [] domain ≡ of_first one_read [] domain ++ of_first [] [] domain
    longer zero = refl
    longer (suc domain) = refl

-- ---- and of estimates

write_told : (context : ℕ) → IsTold (first_in (first_estimates one_trace 1) context) [] ((one_first 0).estimates context) ((one_notes 0).estimates context)
write_told zero = record {
  right = refl;
  published = λ is. refl;
  silent = λ is. refl;
  follow = record { allowed = λ s stands. tt; reached = λ s stands. record { later = stands.later; all_are = stands.all_are; newest_is = stands.newest_is } };
  reads = λ note has. absurd (let low = has.1 in omega arith);
}
write_told (suc context) = record {
  right = refl;
  published = λ is. refl;
  silent = λ is. refl;
  follow = record { allowed = λ s stands. tt; reached = λ s stands. stands };
  reads = λ note has. has;
}

none_seen : (context version : ℕ) → (of_first (knows false [] [] 0) knows_nothing context).seen ≤ version
none_seen zero version = omega arith
none_seen (suc context) version = omega arith

write_estimates : EstimatesGrew (first_estimates one_trace 1) 0 one_writes (one_first 0) (one_notes 0)
write_estimates = record {
  each = write_told;
  names = record {
    allowed = λ seen named. (tt, (named 0 0 (omega arith), tt));
    reached = λ seen named context version late. and_both (not (eqb 0 context) || leb 0 version) _ (zero_is_behind (not (eqb 0 context)) version) (named context version (none_seen context version));
  };
}

-- the writer's numbers where its check comes
abbrev one_task : Task
one_task = task_numbers one_trace (side_after one_trace 1 (first_side one_trace) (item (tells 0 (wrote 0 0 true)))) one_check

one_counted : IsCounted one_task
unfolding first page_after ended new_writer new_cpu cpu_step cpu_after thresholds_of threshold global_threshold background_below
one_counted = record { dirtied = ltb-true one_task.nr_dirtied (2 ^ 52) refl; allowance = ltb-true one_task.nr_dirtied_pause (2 ^ 52) refl }

pub first_since : NotedSince one_trace 1 0 one_writes (first_shown one_trace one_setting.firsts) (one_last 0) (one_first 0) (one_notes 0)
unfolding first_at is_strict decision_for decision_of decided log2 halvings first page_after ended new_writer new_cpu cpu_step cpu_after thresholds_of threshold global_threshold background_below write_side
first_since = noted_of_writers one_trace 1 0 one_writes (first_shown one_trace one_setting.firsts) (one_last 0) (one_first 0) (one_notes 0) (record {
  turn = record {
    grew = write_grew;
    held = write_held;
    firsts_stay = refl;
    side = write_side;
    wrote = write_wrote;
    own = (own_write, (own_check, tt));
    of_writers = (record { no_flight = refl; no_share = refl; no_estimate = refl; no_wait = refl }, (record { no_flight = refl; no_share = refl; no_estimate = refl; no_wait = refl }, tt));
    flushers_stay = λ flusher. refl;
  };
  shares = write_shares;
  estimates = write_estimates;
  decided = (tt, (record { estimate = first_at 1; named = first_version 1; was_read = subst (λ (e : Estimate). Contains (first_one ∷ []) e) (sym (note_first (first_at 1) (first_version 1))) (here first_one []); first = λ is. refl; in_range = free_in_range 2 1 one_check.count one_task (omega arith) (omega arith) one_counted; decision = refl }, tt));
})
