-- What a task has still to do: one that has more doesn't wait for its end; and the estimate that was told last.
use Rattle.std.proofs.Common.{◌≡◌, ℕ, zero, suc, ◌≤◌, Bool, true, false, ◌&&◌, not, List, [], ◌∷◌, ◌++◌, length, flat_map, All, Some, refl, sym, ap, arith, true≢false}
use Rattle.std.proofs.lemmas.List.Elements.{All-head, All-tail}
use Rattle.wbt_replay_order.proofs.Common.{Estimate, Due, Trace, nth_estimate, numbers, rests_last, is_empty, is_not_due, newer, writer_of, has_nothing, ReplayTask, ReplayWork, WorkFits, rests_at_end}
use Rattle.wbt_task.specs.declared.allowance.Due.TheVariants as due
use Rattle.wbt_journal.specs.Walk.{after}
use Rattle.wbt_replay_moves.specs.declared.state.ReplayWork.TheVariants as work
use Rattle.wbt_replay_points.proofs.Lawful.Same.{task_view}
use Rattle.wbt_replay_points.proofs.Lawful.Siding.{is_done, is_waiting}
use Rattle.wbt_replay_order.proofs.Written.Same.{pages_of, to_write}

pub nothing_tells : (works : List ReplayWork) (d : Due) → has_nothing works d ≡ true → (works ≡ []) × (d ≡ due.No)
nothing_tells [] due.No is = (refl, refl)
nothing_tells [] due.Check is = absurd (true≢false (sym is))
nothing_tells (w ∷ works) d is = absurd (true≢false (sym is))

pub last_named : (e : Estimate) (l : List Estimate) → nth_estimate (length l) (e ∷ l) ≡ Some (after newer e l)
last_named e [] = refl
last_named e (x ∷ l) = last_named x l

module _ (trace : Trace) where
  some_page : (works : List ReplayWork) (task : ℕ) → All (WorkFits trace task) works → rests_at_end true works ≡ false → is_empty (flat_map pages_of works) ≡ false
  some_page [] task fits is = absurd (true≢false is)
  some_page (work.Rest ticks ∷ works) task fits is = some_page works task (All-tail (WorkFits trace task) (work.Rest ticks) works fits) is
  some_page (work.Write inode page pages ∷ works) task fits is =
      by_pages pages (All-head (WorkFits trace task) (work.Write inode page pages) works fits).some
    where
      by_pages : (n : ℕ) → 1 ≤ n → is_empty (numbers page n ++ flat_map pages_of works) ≡ false
      by_pages zero low = absurd (omega (arith, low))
      by_pages (suc n) low = refl

  and_no : (a b : Bool) → b ≡ false → (a && b) ≡ false
  and_no true b is = is
  and_no false b is = refl

  and_not : (a b : Bool) → a ≡ false → (a && b) ≡ false
  and_not a b is = ap (λ (c : Bool). c && b) is

  pub goes_on_task : (task : ℕ) (t : ReplayTask) → has_nothing t.works (writer_of t).due ≡ false → All (WorkFits trace task) t.works → (rests_last trace task ≡ false → rests_at_end false t.works ≡ false)
      → is_waiting trace task (task_view t) ≡ false
  goes_on_task task t some fits last = and_no (not t.ended) (is_done trace task (task_view t)) (by_rests (rests_last trace task) refl)
    where
      is_left : (works : List ReplayWork) (d : Due) → has_nothing works d ≡ false → All (WorkFits trace task) works → rests_at_end false works ≡ false → (is_empty (flat_map pages_of works) && is_not_due d) ≡ false
      is_left works due.Check some2 fits2 last2 = and_no (is_empty (flat_map pages_of works)) false refl
      is_left [] due.No some2 fits2 last2 = absurd (true≢false some2)
      is_left (work.Rest ticks ∷ works) due.No some2 fits2 last2 =
          and_not (is_empty (flat_map pages_of works)) true (some_page works task (All-tail (WorkFits trace task) (work.Rest ticks) works fits2) last2)
      is_left (work.Write inode page pages ∷ works) due.No some2 fits2 last2 =
          and_not (is_empty (numbers page pages ++ flat_map pages_of works)) true (some_page (work.Write inode page pages ∷ works) task fits2 last2)

      by_rests : (b : Bool) → rests_last trace task ≡ b → is_done trace task (task_view t) ≡ false
      by_rests true rests = and_not (not (rests_last trace task)) (is_empty (to_write t) && is_not_due (writer_of t).due) (ap not rests)
      by_rests false writes = and_no (not (rests_last trace task)) (is_empty (to_write t) && is_not_due (writer_of t).due) (is_left t.works (writer_of t).due some fits (last writes))
