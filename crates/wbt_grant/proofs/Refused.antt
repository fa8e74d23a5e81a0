-- Steps that may not be made.
use Rattle.std.proofs.Common.{◌≡◌, ℕ, true, false, eqb, List, refl, sym, ◌∙◌, subst, eqb-true, true≢false}
use Rattle.std.proofs.lemmas.Bool.{and_parts}
use Rattle.wbt_num.specs.Arithmetic.{halvings, log2}
use Rattle.wbt_counter.specs.Batch.{domain_batch, context_batch}
use Rattle.wbt_counter.specs.Sums.{put}
use Rattle.wbt_counter.proofs.Sums.{put_same}
use Rattle.wbt_grant.specs.declared.who.Who.{Who}
use Rattle.wbt_grant.specs.declared.who.Who.TheVariants.{Writer, Cpu, Timer}
use Rattle.wbt_grant.specs.declared.record.CpuRecord.{CpuRecord}
use Rattle.wbt_grant.specs.Setting.{Setting}
use Rattle.wbt_grant.specs.State.{State, opening}
use Rattle.wbt_grant.specs.Kinds.{Step, IsLookAt, after, run}
use Rattle.wbt_grant.specs.Effects.{effect}
use Rattle.wbt_grant.specs.Seats.{is_timer, cpu_for, maker_of}
use Rattle.wbt_grant.specs.Conditions.{looked_at}
use Rattle.wbt_grant.specs.Tests.{may, all_may}
use Rattle.wbt_grant.specs.Example.{small}
use Rattle.wbt_grant.specs.Refused.{is_step, is_for, is_by, looks_at, GrantNeedsLoads, ClaimNeedsItsLook, BackNeedsItsLook, Refuses, CounterStepsAreRefused, PageStepsAreRefused, LimitStepsAreRefused, GrantsAreRefused}
use Rattle.wbt_grant.proofs.Conditions.{decides_look}
use Rattle.wbt_grant.proofs.Known.{of_cpu}
use Rattle.wbt_grant.proofs.Tests.{tests_decide, tests_are_right}

pub grant_needs_loads : GrantNeedsLoads
grant_needs_loads set s w pages nothing no_reading can =
    true≢false (sym (rw no_reading at (rw nothing at (can.let_through 0 refl))))

-- the last step of the CPU j, which is the CPU i, wasn't a look at the page
not_looked : (cpu : ℕ → CpuRecord) (i j p : ℕ) (r : CpuRecord) → eqb j i ≡ true → looked_at p r.last ≡ false
    → IsLookAt p (put cpu j r i).last → ⊥
not_looked cpu i j p r same not seen =
    let its : IsLookAt p (put cpu j r j).last = subst (λ (n : ℕ). IsLookAt p (put cpu j r n).last) (sym (eqb-true j i same)) seen in
    true≢false (sym (decides_look p r.last (subst (λ (x : CpuRecord). IsLookAt p x.last) (put_same cpu j r) its)) ∙ not)

-- who makes the steps of the CPU i
made_for : (set : Setting) (i : ℕ) (who : Who) → is_for set i who ≡ true → (is_timer who ≡ false) × (eqb (cpu_for set who) i ≡ true)
made_for set i (Writer w) by = (refl, by)
made_for set i (Cpu j) by = (refl, by)
made_for set i Timer by = absurd (true≢false (sym by))

looked_before : (set : Setting) (s : State) (i p : ℕ) (step : Step) → is_by set i step ≡ true → looks_at p step ≡ false
    → IsLookAt p ((after set step s).cpu i).last → ⊥
looked_before set s i p step by not seen =
    let parts = and_parts (is_step (effect step).access) (is_for set i (effect step).maker) by in
    let mine = made_for set i (effect step).maker parts.1 in
    let its = of_cpu set step s mine.0 in
    not_looked s.cpu i (maker_of set step) p its.new mine.1 (its.named p parts.0 ∙ not)
    (subst (λ (f : ℕ → CpuRecord). IsLookAt p (f i).last) its.cpus seen)

pub claim_needs_its_look : ClaimNeedsItsLook
claim_needs_its_look set s i p step by not can = looked_before set s i p step by not can.looked

pub back_needs_its_look : BackNeedsItsLook
back_needs_its_look set s i p step by not can = looked_before set s i p step by not can.looked

-- by the tests, which compute
refuses : (before : List Step) (step : Step) → all_may small before (opening small) ≡ true
    → may small step (run small before (opening small)) ≡ false → Refuses before step
refuses before step can not = record {
  reached = tests_are_right small before (opening small) can;
  refused = λ may_be. true≢false (sym (tests_decide small step (run small before (opening small)) may_be) ∙ not);
}

pub counter_steps_are_refused : CounterStepsAreRefused
unfolding domain_batch context_batch log2 halvings
counter_steps_are_refused = record {
  add_with_nothing_owed = refuses _ _ refl refl;
  add_again = refuses _ _ refl refl;
  add_by_another_cpu = refuses _ _ refl refl;
  add_to_another_counter = refuses _ _ refl refl;
  fold_with_none_due = refuses _ _ refl refl;
  fold_again = refuses _ _ refl refl;
  fold_by_another_cpu = refuses _ _ refl refl;
  clear_with_none_due = refuses _ _ refl refl;
  clear_before_the_fold = refuses _ _ refl refl;
  clear_again = refuses _ _ refl refl;
  count_for_no_writer = refuses _ _ refl refl;
  count_for_no_cpu = refuses _ _ refl refl;
}

pub page_steps_are_refused : PageStepsAreRefused
unfolding domain_batch context_batch log2 halvings
page_steps_are_refused = record {
  dirty_by_no_writer = refuses _ _ refl refl;
  dirty_of_no_page = refuses _ _ refl refl;
  dirty_in_another_context = refuses _ _ refl refl;
  dirty_while_a_counter_is_owed = refuses _ _ refl refl;
  dirty_with_no_page_left = refuses _ _ refl refl;
  look_by_no_cpu = refuses _ _ refl refl;
  look_at_no_page = refuses _ _ refl refl;
  claim_without_a_look = refuses _ _ refl refl;
  claim_after_another_step = refuses _ _ refl refl;
  claim_of_another_page = refuses _ _ refl refl;
  claim_by_another_cpu = refuses _ _ refl refl;
  claim_again = refuses _ _ refl refl;
  claim_of_a_clean_page = refuses _ _ refl refl;
  claim_under_writeback = refuses _ _ refl refl;
  complete_of_a_page_not_held = refuses _ _ refl refl;
  complete_by_another_cpu = refuses _ _ refl refl;
  complete_while_a_counter_is_owed = refuses _ _ refl refl;
  complete_again = refuses _ _ refl refl;
  complete_of_a_page_given_back = refuses _ _ refl refl;
  back_without_a_look = refuses _ _ refl refl;
  back_after_another_step = refuses _ _ refl refl;
  back_of_another_page = refuses _ _ refl refl;
  back_of_no_page = refuses _ _ refl refl;
  back_of_a_page_not_held = refuses _ _ refl refl;
  back_by_another_cpu = refuses _ _ refl refl;
  back_while_a_counter_is_owed = refuses _ _ refl refl;
  back_of_a_completed_page = refuses _ _ refl refl;
  back_again = refuses _ _ refl refl;
}

pub limit_steps_are_refused : LimitStepsAreRefused
unfolding domain_batch context_batch log2 halvings
limit_steps_are_refused = record {
  unseal_again = refuses _ _ refl refl;
  thresh_without_a_raise = refuses _ _ refl refl;
  thresh_above_the_raised_peak = refuses _ _ refl refl;
  thresh_after_a_lower_raise = refuses _ _ refl refl;
  thresh_raised_for_another_domain = refuses _ _ refl refl;
  thresh_of_unlawful_limits = refuses _ _ refl refl;
  thresh_under_an_even_sequence = refuses _ _ refl refl;
  thresh_unsealed_for_another_domain = refuses _ _ refl refl;
  publish_without_a_thresh = refuses _ _ refl refl;
  publish_of_other_limits = refuses _ _ refl refl;
  publish_for_another_domain = refuses _ _ refl refl;
  publish_again = refuses _ _ refl refl;
  first_by_no_cpu = refuses _ _ refl refl;
  middle_without_a_first = refuses _ _ refl refl;
  middle_by_another_cpu = refuses _ _ refl refl;
  middle_of_another_domain = refuses _ _ refl refl;
  limits_without_a_middle = refuses _ _ refl refl;
  limits_by_another_cpu = refuses _ _ refl refl;
  limits_of_another_domain = refuses _ _ refl refl;
  limits_again = refuses _ _ refl refl;
  limits_for_no_writer = refuses _ _ refl refl;
  limits_for_the_timer = refuses _ _ refl refl;
  mark_by_no_cpu = refuses _ _ refl refl;
  unmark_by_no_cpu = refuses _ _ refl refl;
}

pub grants_are_refused : GrantsAreRefused
unfolding domain_batch context_batch log2 halvings
grants_are_refused = record {
  without_loads = refuses _ _ refl refl;
  with_limits_alone = refuses _ _ refl refl;
  with_a_reading_before_its_limits = refuses _ _ refl refl;
  with_loads_for_the_cpu = refuses _ _ refl refl;
  after_the_loads_were_used = refuses _ _ refl refl;
  after_a_page_was_dirtied = refuses _ _ refl refl;
  with_loads_of_one_domain = refuses _ _ refl refl;
  of_no_pages = refuses _ _ refl refl;
  above_the_cap = refuses _ _ refl refl;
  to_no_writer = refuses _ _ refl refl;
  above_the_hard_limit = refuses _ _ refl refl;
}
