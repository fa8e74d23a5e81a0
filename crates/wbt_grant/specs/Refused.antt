-- Steps that may not be made: laws, and for each kind of step and for grants examples in the small throttle. Raising a peak
-- has none, since it may always be made.
use Rattle.std.specs.Prelude.{◌≡◌, ℕ, Bool, true, false, ◌==◌, ◌&&◌, Option, Some, None, List, [], ◌∷◌, ◌++◌}
use Rattle.wbt_num.specs.declared.limits.Limits.{Limits}
use Rattle.wbt_counter.specs.declared.counter.Counter.TheVariants.{Domain, Context}
use Rattle.wbt_grant.specs.declared.who.Who.{Who}
use Rattle.wbt_grant.specs.declared.who.Who.TheVariants.{Writer, Cpu, Timer}
use Rattle.wbt_grant.specs.Setting.{Setting}
use Rattle.wbt_grant.specs.State.{State, writer_at, opening}
use Rattle.wbt_grant.specs.Kinds.{Step, add, fold, clear, count, dirty, look, claim, complete, back, peak, unseal, thresh, publish, first, middle, limits, mark, unmark, grant, Allowed, after, run, AreAllowed}
use Rattle.wbt_grant.specs.Effects.{Access, effect}
use Rattle.wbt_grant.specs.Conditions.{is_look, is_page}
use Rattle.wbt_grant.specs.Tests.{may}
use Rattle.wbt_grant.specs.Example.{small, eight, nine, load, publication, one_page, four_pages, sixteen_pages, redirtied_page}

-- a step that may be made passes its test, so that one that fails it may not
abbrev pub TestsDecide : Type 0
TestsDecide = (set : Setting) (step : Step) (s : State) → Allowed set step s → may set step s ≡ true

-- a writer that keeps no loads gets no grant
abbrev pub GrantNeedsLoads : Type 0
GrantNeedsLoads = (set : Setting) (s : State) (w pages : ℕ) → (writer_at set s.cpu w).kept ≡ []
    → (writer_at set s.cpu w).context_reading ≡ None → Allowed set (grant w pages) s → ⊥

-- whether the CPU i makes a step, whether it is made for whom, and whether it is a look at the page p; a grant is no step
abbrev pub is_step : (access : Option Access) → Bool
is_step None = false
is_step (Some access) = true

-- whether an access is a look at the page p
abbrev pub is_look_at : (p : ℕ) (access : Option Access) → Bool
is_look_at p None = false
is_look_at p (Some access) = is_look access.kind && is_page p access.word

-- whether its maker is the CPU i, or a writer of this CPU
abbrev pub is_for : (set : Setting) (i : ℕ) (who : Who) → Bool
is_for set i (Writer w) = set.seat w == i
is_for set i (Cpu j) = j == i
is_for set i Timer = false

-- whether the CPU i makes the step; a grant is none
abbrev pub is_by : (set : Setting) (i : ℕ) (step : Step) → Bool
is_by set i step = is_step (effect step).access && is_for set i (effect step).maker

-- whether the step is a look at the page p, by whatever CPU
abbrev pub looks_at : (p : ℕ) (step : Step) → Bool
looks_at p step = is_look_at p (effect step).access

-- a claim needs its look right before it: after every other step of the CPU it may not be made
abbrev pub ClaimNeedsItsLook : Type 0
ClaimNeedsItsLook = (set : Setting) (s : State) (i p : ℕ) (step : Step) → is_by set i step ≡ true → looks_at p step ≡ false
    → Allowed set (claim i p) (after set step s) → ⊥

-- and so does giving a page back
abbrev pub BackNeedsItsLook : Type 0
BackNeedsItsLook = (set : Setting) (s : State) (i p : ℕ) (step : Step) → is_by set i step ≡ true → looks_at p step ≡ false
    → Allowed set (back i p) (after set step s) → ⊥

-- in the small throttle: each of some steps may be made from the opening on, and then the other may not
pub record Refuses (before : List Step) (step : Step) : Type 0 where
  pub reached : AreAllowed small before (opening small)
  pub refused : Allowed small step (run small before (opening small)) → ⊥

-- sixteen pages are dirtied, and the context's fold is due
abbrev pub sixteen_unfolded : List Step
sixteen_unfolded = four_pages 0 ++ four_pages 8 ++ four_pages 16 ++ four_pages 24

-- all pages of a context are dirtied, with which the domain's counter tells 32, above its hard limit of 8
abbrev pub all_pages : List Step
all_pages = sixteen_pages ++ clear 0 (Context 0) ∷ four_pages 32 ++ four_pages 40 ++ four_pages 48 ++ four_pages 56
    ++ fold 0 (Domain 0) ∷ clear 0 (Domain 0) ∷ []

-- the second CPU looks at the page 0, which the first one dirtied
abbrev pub second_cpu_looks : List Step
second_cpu_looks = one_page 0 ++ look 1 0 ∷ []

-- it claims the page, and so holds it
abbrev pub second_cpu_claims : List Step
second_cpu_claims = second_cpu_looks ++ claim 1 0 ∷ []

-- it completes the page, and pays what it owes
abbrev pub second_cpu_completes : List Step
second_cpu_completes = second_cpu_claims ++ complete 1 0 ∷ add 1 (Context 0) ∷ add 1 (Domain 0) ∷ []

-- the first writer loads what a grant needs
abbrev pub loads : List Step
loads = load (Writer 0) 0 0 ++ count (Writer 0) (Domain 0) ∷ []

-- new limits of the whole machine are in hand
abbrev pub in_hand : List Step
in_hand = peak 0 9 ∷ unseal 0 ∷ thresh 0 nine ∷ []

-- limits of which the threshold is above the hard limit
abbrev pub unlawful : Limits
unlawful = record { thresh = 9; bg = 4; hard = 8 }

-- steps on counters: no CPU pays what it doesn't owe, pays twice or pays for another, and no load is for a writer or a CPU that isn't there
pub record CounterStepsAreRefused : Type 0 where
  pub add_with_nothing_owed : Refuses [] (add 0 (Context 0))
  pub add_again : Refuses (one_page 0) (add 0 (Context 0))
  pub add_by_another_cpu : Refuses (dirty 0 0 ∷ []) (add 1 (Context 0))
  pub add_to_another_counter : Refuses (dirty 0 0 ∷ []) (add 0 (Context 1))
  pub fold_with_none_due : Refuses (one_page 0) (fold 0 (Context 0))
  pub fold_again : Refuses sixteen_pages (fold 0 (Context 0))
  pub fold_by_another_cpu : Refuses sixteen_unfolded (fold 1 (Context 0))
  pub clear_with_none_due : Refuses [] (clear 0 (Context 0))
  pub clear_before_the_fold : Refuses sixteen_unfolded (clear 0 (Context 0))
  pub clear_again : Refuses (sixteen_pages ++ clear 0 (Context 0) ∷ []) (clear 0 (Context 0))
  pub count_for_no_writer : Refuses [] (count (Writer 2) (Domain 0))
  pub count_for_no_cpu : Refuses [] (count (Cpu 2) (Domain 0))

-- steps on pages: a writer needs a page left, a claim its look and a claimable page, a completion and giving back a page that is held
pub record PageStepsAreRefused : Type 0 where
  pub dirty_by_no_writer : Refuses [] (dirty 2 0)
  pub dirty_of_no_page : Refuses [] (dirty 0 64)
  pub dirty_in_another_context : Refuses [] (dirty 0 1)
  pub dirty_while_a_counter_is_owed : Refuses (dirty 0 0 ∷ add 0 (Context 0) ∷ []) (dirty 0 2)
  pub dirty_with_no_page_left : Refuses (one_page 0 ++ one_page 2 ++ one_page 4 ++ one_page 6) (dirty 0 8)
  pub look_by_no_cpu : Refuses [] (look 2 0)
  pub look_at_no_page : Refuses [] (look 0 64)
  pub claim_without_a_look : Refuses (one_page 0) (claim 1 0)
  pub claim_after_another_step : Refuses (second_cpu_looks ++ mark 1 0 ∷ []) (claim 1 0)
  pub claim_of_another_page : Refuses (one_page 0 ++ one_page 2 ++ look 1 0 ∷ []) (claim 1 2)
  pub claim_by_another_cpu : Refuses second_cpu_looks (claim 0 0)
  pub claim_again : Refuses second_cpu_claims (claim 1 0)
  pub claim_of_a_clean_page : Refuses (look 1 0 ∷ []) (claim 1 0)
  pub claim_under_writeback : Refuses (second_cpu_claims ++ one_page 0 ++ look 1 0 ∷ []) (claim 1 0)
  pub complete_of_a_page_not_held : Refuses second_cpu_looks (complete 1 0)
  pub complete_by_another_cpu : Refuses second_cpu_claims (complete 0 0)
  pub complete_while_a_counter_is_owed : Refuses (second_cpu_claims ++ dirty 1 1 ∷ []) (complete 1 0)
  pub complete_again : Refuses second_cpu_completes (complete 1 0)
  pub complete_of_a_page_given_back : Refuses redirtied_page (complete 1 0)
  pub back_without_a_look : Refuses second_cpu_claims (back 1 0)
  pub back_after_another_step : Refuses (second_cpu_claims ++ look 1 0 ∷ mark 1 0 ∷ []) (back 1 0)
  pub back_of_another_page : Refuses (second_cpu_claims ++ look 1 2 ∷ []) (back 1 0)
  pub back_of_no_page : Refuses second_cpu_claims (back 1 64)
  pub back_of_a_page_not_held : Refuses second_cpu_looks (back 1 0)
  pub back_by_another_cpu : Refuses (second_cpu_claims ++ look 0 0 ∷ []) (back 0 0)
  pub back_while_a_counter_is_owed : Refuses (second_cpu_claims ++ dirty 1 1 ∷ look 1 0 ∷ []) (back 1 0)
  pub back_of_a_completed_page : Refuses (second_cpu_completes ++ look 1 0 ∷ []) (back 1 0)
  pub back_again : Refuses (redirtied_page ++ look 1 0 ∷ []) (back 1 0)

-- publications and loads of limits keep to the order of their steps; and marks are set and cleared by CPUs that there are
pub record LimitStepsAreRefused : Type 0 where
  pub unseal_again : Refuses (unseal 0 ∷ []) (unseal 0)
  pub thresh_without_a_raise : Refuses (unseal 0 ∷ []) (thresh 0 eight)
  pub thresh_above_the_raised_peak : Refuses (peak 0 8 ∷ unseal 0 ∷ []) (thresh 0 nine)
  pub thresh_after_a_lower_raise : Refuses (peak 0 9 ∷ peak 0 8 ∷ unseal 0 ∷ []) (thresh 0 nine)
  pub thresh_raised_for_another_domain : Refuses (peak 1 9 ∷ unseal 0 ∷ []) (thresh 0 nine)
  pub thresh_of_unlawful_limits : Refuses (peak 0 9 ∷ unseal 0 ∷ []) (thresh 0 unlawful)
  pub thresh_under_an_even_sequence : Refuses (peak 0 9 ∷ []) (thresh 0 nine)
  pub thresh_unsealed_for_another_domain : Refuses (peak 0 9 ∷ unseal 1 ∷ []) (thresh 0 nine)
  pub publish_without_a_thresh : Refuses (peak 0 9 ∷ unseal 0 ∷ []) (publish 0 nine)
  pub publish_of_other_limits : Refuses in_hand (publish 0 eight)
  pub publish_for_another_domain : Refuses in_hand (publish 1 nine)
  pub publish_again : Refuses (publication 0 nine) (publish 0 nine)
  pub first_by_no_cpu : Refuses [] (first 2 0)
  pub middle_without_a_first : Refuses [] (middle 0 0)
  pub middle_by_another_cpu : Refuses (first 0 0 ∷ []) (middle 1 0)
  pub middle_of_another_domain : Refuses (first 0 1 ∷ []) (middle 0 0)
  pub limits_without_a_middle : Refuses (first 0 0 ∷ []) (limits (Writer 0) 0)
  pub limits_by_another_cpu : Refuses (first 0 0 ∷ middle 0 0 ∷ []) (limits (Writer 1) 0)
  pub limits_of_another_domain : Refuses (first 0 0 ∷ middle 0 0 ∷ []) (limits (Writer 0) 1)
  pub limits_again : Refuses (load (Writer 0) 0 0) (limits (Writer 0) 0)
  pub limits_for_no_writer : Refuses [] (limits (Writer 2) 0)
  pub limits_for_the_timer : Refuses (first 0 0 ∷ middle 0 0 ∷ []) (limits Timer 0)
  pub mark_by_no_cpu : Refuses [] (mark 2 0)
  pub unmark_by_no_cpu : Refuses [] (unmark 2 0)

-- grants: they need fresh loads of each domain that let the writer through, and are of one page at least and of a cap at most
pub record GrantsAreRefused : Type 0 where
  pub without_loads : Refuses [] (grant 0 1)
  pub with_limits_alone : Refuses (load (Writer 0) 0 0) (grant 0 1)
  pub with_a_reading_before_its_limits : Refuses (count (Writer 0) (Domain 0) ∷ load (Writer 0) 0 0) (grant 0 1)
  pub with_loads_for_the_cpu : Refuses (load (Cpu 0) 0 0 ++ count (Cpu 0) (Domain 0) ∷ []) (grant 0 1)
  pub after_the_loads_were_used : Refuses (loads ++ grant 0 4 ∷ []) (grant 0 1)
  pub after_a_page_was_dirtied : Refuses (loads ++ one_page 0) (grant 0 1)
  pub with_loads_of_one_domain : Refuses (load (Writer 1) 1 0 ++ count (Writer 1) (Domain 0) ∷ []) (grant 1 1)
  pub of_no_pages : Refuses loads (grant 0 0)
  pub above_the_cap : Refuses loads (grant 0 5)
  pub to_no_writer : Refuses loads (grant 2 1)
  pub above_the_hard_limit : Refuses (all_pages ++ loads) (grant 0 1)
