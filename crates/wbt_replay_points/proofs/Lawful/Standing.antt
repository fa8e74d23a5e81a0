-- A CPU's side stands as its tasks do: what a move makes of a task, its entry makes of the side.
use Rattle.std.proofs.Common.{◌≡◌, ◌≢◌, ℕ, ◌<◌, Bool, true, false, ◌||◌, ◌&&◌, not, cond, eqb, List, [], ◌∷◌, length, get_or, refl, sym, ◌∙◌, ap, subst, arith, eq-eqb, ne_eqb, true≢false}
use Rattle.std.specs.List.{fold}
use Rattle.std.proofs.Math.ListN.{set}
use Rattle.std.proofs.lemmas.Bool.{cond-true, cond-false}
use Rattle.std.proofs.lemmas.List.{get_or-set_other, length-set}
use mathlib.Core.Logic.{dite}
use native.Mathlib.Decide.{ℕ_discrete}
use Rattle.wbt_replay_order.proofs.Common.{Decision, ended, new_writer, wrote_page, wrote_writer, checked_writer, CpuLocal, Writer, is_writer, Trace, IsQuiet, ratelimit_pages, rests_last, Side, TaskState, all_writers, is_empty, is_not_due, is_own_task, end_task, settle, with_page, write_fresh, check_by}
use Rattle.wbt_task.specs.History.{writer_of}
use Rattle.wbt_task.specs.declared.allowance.Due.TheVariants as due
use Rattle.wbt_journal.specs.Checks.{MayEnd, due_of}
use Rattle.wbt_journal.specs.Side.{number_of}
use Rattle.wbt_replay_points.proofs.Lawful.Numbers.{HasNumber}
use Rattle.wbt_replay_points.proofs.Lawful.Siding.{View, writer_in, last_writer, is_done, is_waiting, is_gone, writers_in, IsView, SideAt, name, due_there, quiet, due_number, its_writer, fresh, checked, page_less, ends, settled}

-- what a CPU counts where these writers end
abbrev pub leaked_by : (local : CpuLocal) (ws : List Writer) → CpuLocal
leaked_by local ws = fold (λ (before : CpuLocal) (w : Writer). ended before w.task) local ws

-- It shows the CPU's tasks. A task that is done, but hasn't ended, has ended there, and the CPU's count is ahead by that.
pub record StandsAs (trace : Trace) (cpu : ℕ) (local : CpuLocal) (view : ℕ → View) (s : Side) : Type 0 where
  pub views : (t : ℕ) → is_own_task trace cpu t ≡ true → IsView trace t (view t)
  pub counted : CpuLocal
  pub at : SideAt trace cpu counted view (λ t. is_gone trace t (view t)) s
  pub calm : ((t : ℕ) → is_own_task trace cpu t ≡ true → is_waiting trace t (view t) ≡ false) → counted ≡ local
  pub waits : (t : ℕ) → is_own_task trace cpu t ≡ true → is_waiting trace t (view t) ≡ true → counted ≡ leaked_by local (view t).1

-- ---- tests

and_no : (a b : Bool) → b ≡ false → (a && b) ≡ false
and_no true b is = is
and_no false b is = refl

both_no : (a b : Bool) → a ≡ false → b ≡ false → (a || b) ≡ false
both_no a b p q = ap (λ (c : Bool). c || b) p ∙ q

no_both : due.No ≡ due.Check → ⊥
no_both e = cc e

is_false : (b : Bool) → (b ≡ true → ⊥) → b ≡ false
is_false true none = absurd (none refl)
is_false false none = refl

-- ---- one view changes

abbrev put : (view : ℕ → View) (task : ℕ) (v : View) (t : ℕ) → View
put view task v t = cond (eqb t task) v (view t)

put_same : (view : ℕ → View) (task : ℕ) (v : View) → put view task v task ≡ v
put_same view task v = cond-true (eqb task task) v (view task) (eq-eqb task task refl)

put_other : (view : ℕ → View) (task : ℕ) (v : View) (t : ℕ) → t ≢ task → put view task v t ≡ view t
put_other view task v t other = cond-false (eqb t task) v (view t) (ne_eqb t task other)

-- the same shown by other views
same_side : (trace : Trace) (cpu : ℕ) (local : CpuLocal) (view view2 : ℕ → View) (gone gone2 : ℕ → Bool) (s : Side) → ((t : ℕ) → is_own_task trace cpu t ≡ true → (view2 t).0 ≡ (view t).0)
    → ((t : ℕ) → is_own_task trace cpu t ≡ true → (view2 t).1 ≡ (view t).1) → ((t : ℕ) → is_own_task trace cpu t ≡ true → gone2 t ≡ gone t) → SideAt trace cpu local view gone s → SideAt trace cpu local view2 gone2 s
same_side trace cpu local view view2 gone gone2 s pages writers same at = record {
  many = at.many;
  long = at.long;
  tasks = λ t mine. at.tasks t mine ∙ (λ i. record { todo = length (sym (pages t mine) i); has_ended = sym (same t mine) i });
  writers = λ n less mine. at.writers n less mine
      ∙ (λ i. cond (sym (same (name trace n).task mine) i) (new_writer trace.cap) (get_or (sym (writers (name trace n).task mine) i) (name trace n).context (new_writer 0)));
  strangers = at.strangers;
  local_is = at.local_is;
}

-- other views of tasks of other CPUs
pub others_stand : (trace : Trace) (cpu : ℕ) (local : CpuLocal) (view view2 : ℕ → View) (s : Side) → ((t : ℕ) → is_own_task trace cpu t ≡ true → view2 t ≡ view t) → StandsAs trace cpu local view s
    → StandsAs trace cpu local view2 s
others_stand trace cpu local view view2 s same at = record {
  views = λ t mine. subst (IsView trace t) (sym (same t mine)) (at.views t mine);
  counted = at.counted;
  at = same_side trace cpu at.counted view view2 (λ t. is_gone trace t (view t)) (λ t. is_gone trace t (view2 t)) s (λ t mine. ap (λ (v : View). v.0) (same t mine)) (λ t mine. ap (λ (v : View). v.1) (same t mine))
      (λ t mine. ap (is_gone trace t) (same t mine)) at.at;
  calm = λ none. at.calm (λ t mine. ap (is_waiting trace t) (sym (same t mine)) ∙ none t mine);
  waits = λ t mine is. at.waits t mine (ap (is_waiting trace t) (sym (same t mine)) ∙ is) ∙ ap (λ (v : View). leaked_by local v.1) (sym (same t mine));
}

module _ (trace : Trace) (opened cpu task : ℕ) (own : is_own_task trace cpu task ≡ true) (local : CpuLocal) (view : ℕ → View) (s : Side) (at : StandsAs trace cpu local view s)
    (alone : (t : ℕ) → is_own_task trace cpu t ≡ true → t ≢ task → is_waiting trace t (view t) ≡ false) where
  abbrev gone : (t : ℕ) → Bool
  gone t = is_gone trace t (view t)

  its : IsView trace task (view task)
  its = at.views task own

  -- where the task isn't done no task waits
  counted_is : is_waiting trace task (view task) ≡ false → at.counted ≡ local
  counted_is none = at.calm (λ t mine. dite (ℕ_discrete t task) (λ same. ap (λ (x : ℕ). is_waiting trace x (view x)) same ∙ none) (λ other. alone t mine other))

  its_side : is_waiting trace task (view task) ≡ false → SideAt trace cpu local view gone s
  its_side none = subst (λ (l : CpuLocal). SideAt trace cpu l view gone s) (counted_is none) at.at

  -- ---- the task changed, and ends where it is done

  module _ (local2 : CpuLocal) (view2 : ℕ → View) (others : (t : ℕ) → t ≢ task → view2 t ≡ view t) (s2 : Side) (of : IsView trace task (view2 task)) (not_ended : (view2 task).3 ≡ false) (going : gone task ≡ false)
      (side : SideAt trace cpu local2 view2 gone s2) where
    done_is : is_waiting trace task (view2 task) ≡ is_done trace task (view2 task)
    done_is = ap (λ (b : Bool). not b && is_done trace task (view2 task)) not_ended

    settles : StandsAs trace cpu local2 view2 (settle trace opened task s2)
    settles = record {
      views = λ t mine. dite (ℕ_discrete t task) (λ same. subst (λ (x : ℕ). IsView trace x (view2 x)) (sym same) of) (λ other. subst (IsView trace t) (sym (others t other)) (at.views t mine));
      counted = cond (is_done trace task (view2 task)) (leaked_by local2 (view2 task).1) local2;
      at = settled trace opened cpu task own local2 view2 gone s2 side (λ t. is_gone trace t (view2 t)) (λ t other. ap (is_gone trace t) (others t other)) going of
          (ap (λ (b : Bool). b || is_done trace task (view2 task)) not_ended);
      calm = λ none. cond-false (is_done trace task (view2 task)) (leaked_by local2 (view2 task).1) local2 (sym done_is ∙ none task own);
      waits = λ t mine is. dite (ℕ_discrete t task)
          (λ same.
          cond-true (is_done trace task (view2 task)) (leaked_by local2 (view2 task).1) local2 (sym done_is ∙ ap (λ (x : ℕ). is_waiting trace x (view2 x)) (sym same) ∙ is)
          ∙ ap (λ (x : ℕ). leaked_by local2 (view2 x).1) (sym same))
          (λ other. absurd (true≢false (sym is ∙ ap (is_waiting trace t) (others t other) ∙ alone t mine other)));
    }

  -- ---- a page

  module _ (page : ℕ) (rest : List ℕ) (pages : (view task).0 ≡ page ∷ rest) (free : (last_writer (view task)).due ≡ due.No) where
    pub not_ended_yet : (view task).3 ≡ false
    not_ended_yet = is_false (view task).3 (λ over. true≢false (sym (its.ended over).0 ∙ ap is_empty pages))

    not_done_yet : is_done trace task (view task) ≡ false
    not_done_yet = ap (λ (l : List ℕ). not (rests_last trace task) && (is_empty l && is_not_due (last_writer (view task)).due)) pages ∙ and_no (not (rests_last trace task)) false refl

    still : gone task ≡ false
    still = both_no (view task).3 (is_done trace task (view task)) not_ended_yet not_done_yet

    none_waits : is_waiting trace task (view task) ≡ false
    none_waits = and_no (not (view task).3) (is_done trace task (view task)) not_done_yet

    -- no check of the task is due
    pub writes_quietly : IsQuiet trace s task
    writes_quietly = quiet trace opened cpu task own at.counted view gone s at.at its still free

    -- a page that was dirty already
    pub known_stands : (view2 : ℕ → View) → ((t : ℕ) → t ≢ task → view2 t ≡ view t) → view2 task ≡ (rest, (view task).1, (view task).2, (view task).3)
        → StandsAs trace cpu local view2 (settle trace opened task (with_page task s))
    known_stands view2 others is =
        let v : View = (rest, (view task).1, (view task).2, (view task).3) in
        let of : IsView trace task v = record { wide = its.wide; alone = its.alone; others = its.others; ended = λ over. absurd (true≢false (sym over ∙ not_ended_yet)) } in
        settles local view2 others (with_page task s) (subst (IsView trace task) (sym is) of) (ap (λ (x : View). x.3) is ∙ not_ended_yet) still
        (page_less trace opened cpu task own local view gone s (its_side none_waits) view2 others page (pages ∙ ap (λ (x : View). page ∷ x.0) (sym is)) (ap (λ (x : View). x.1) is))

    -- a fresh one
    module _ (k : ℕ) (writer : is_writer task k (writers_in trace) ≡ true) (inside : k < length trace.contexts) where
      abbrev old : Writer
      old = writer_in k (view task)

      abbrev wrote : Writer
      wrote = wrote_writer (wrote_page (ratelimit_pages trace opened) local old) old

      abbrev then_local : CpuLocal
      then_local = (wrote_page (ratelimit_pages trace opened) local old).local

      there : k < length (view task).1
      there = (let wide = its.wide in omega (arith, inside, wide))

      pub fresh_stands : (view2 : ℕ → View) → ((t : ℕ) → t ≢ task → view2 t ≡ view t) → view2 task ≡ (rest, set (view task).1 k wrote, k, (view task).3)
          → StandsAs trace cpu then_local view2 (settle trace opened task (with_page task (write_fresh trace opened task k s)))
      fresh_stands view2 others is =
          let v : View = (rest, set (view task).1 k wrote, k, (view task).3) in
          let m : View = ((view task).0, set (view task).1 k wrote, k, (view task).3) in
          let mid : ℕ → View = put view task m in
          let mid_is : mid task ≡ m = put_same view task m in
          let of : IsView trace task v = record {
            wide = length-set (view task).1 k wrote ∙ its.wide;
            alone = λ j is_due. dite (ℕ_discrete j k) (λ same. same)
                (λ other.
                let was : (writer_in j (view task)).due ≡ due.Check = ap (λ (w : Writer). w.due) (sym (get_or-set_other (view task).1 k j wrote (new_writer 0) other)) ∙ is_due in
                absurd (no_both (sym free ∙ ap (λ (x : ℕ). (writer_in x (view task)).due) (sym (its.alone j was)) ∙ was)));
            others = λ j none.
                let other : j ≢ k = λ same. true≢false (sym (ap (λ (x : ℕ). is_writer task x (writers_in trace)) same ∙ writer) ∙ none) in
                let now : writer_in j v ≡ writer_in j (view task) = get_or-set_other (view task).1 k j wrote (new_writer 0) other in
                (ap (λ (w : Writer). w.task.nr_dirtied) now ∙ (its.others j none).0, ap (λ (w : Writer). w.due) now ∙ (its.others j none).1);
            ended = λ over. absurd (true≢false (sym over ∙ not_ended_yet));
          } in
          let one = fresh trace opened cpu task own local view gone s (its_side none_waits) mid (put_other view task m) (ap (λ (x : View). x.0) mid_is) still k writer there its.wide (ap (λ (x : View). x.1) mid_is) in
          settles then_local view2 others (with_page task (write_fresh trace opened task k s)) (subst (IsView trace task) (sym is) of) (ap (λ (x : View). x.3) is ∙ not_ended_yet) still
          (page_less trace opened cpu task own then_local mid gone (write_fresh trace opened task k s) one view2 (λ t other. others t other ∙ sym (put_other view task m t other)) page
          (ap (λ (x : View). x.0) mid_is ∙ pages ∙ ap (λ (x : View). page ∷ x.0) (sym is)) (ap (λ (x : View). x.1) is ∙ sym (ap (λ (x : View). x.1) mid_is)))

  -- ---- a check

  module _ (is_due : (last_writer (view task)).due ≡ due.Check) where
    abbrev k : ℕ
    k = (view task).2

    not_over : (view task).3 ≡ false
    not_over = is_false (view task).3 (λ over. no_both (sym (its.ended over).1 ∙ is_due))

    not_done : is_done trace task (view task) ≡ false
    not_done = and_no (not (rests_last trace task)) (is_empty (view task).0 && is_not_due (last_writer (view task)).due)
        (and_no (is_empty (view task).0) (is_not_due (last_writer (view task)).due) (ap is_not_due is_due))

    on : gone task ≡ false
    on = both_no (view task).3 (is_done trace task (view task)) not_over not_done

    calmly : is_waiting trace task (view task) ≡ false
    calmly = and_no (not (view task).3) (is_done trace task (view task)) not_done

    its_number : HasNumber task k 0 (all_writers trace)
    its_number = due_number trace opened cpu task own at.counted view gone s at.at its on is_due

    -- the side has its writer
    pub checked_writer_is : writer_of s.cpu (number_of trace task k) ≡ last_writer (view task)
    checked_writer_is =
        let number = its_number.number in
        ap (writer_of s.cpu) (let e : number_of trace task k ≡ its_number.place = omega (arith, number) in e) ∙ its_writer trace opened cpu task own at.counted view gone s at.at k its_number on

    pub check_is_due : due_of trace s task k ≡ due.Check
    check_is_due = ap (λ (w : Writer). w.due) checked_writer_is ∙ is_due

    its_context : is_writer task k (writers_in trace) ≡ true
    its_context = by_test (is_writer task k (writers_in trace)) refl
      where
        by_test : (b : Bool) → is_writer task k (writers_in trace) ≡ b → is_writer task k (writers_in trace) ≡ true
        by_test true is = is
        by_test false none = absurd (no_both (sym (its.others k none).1 ∙ is_due))

    pub check_stands : (decision : Decision) (view2 : ℕ → View) → ((t : ℕ) → t ≢ task → view2 t ≡ view t)
        → view2 task ≡ ((view task).0, set (view task).1 k (checked_writer decision), k, (view task).3) → StandsAs trace cpu local view2 (settle trace opened task (check_by trace opened task k decision s))
    check_stands decision view2 others is =
        let w : Writer = checked_writer decision in
        let v : View = ((view task).0, set (view task).1 k w, k, (view task).3) in
        let of : IsView trace task v = record {
          wide = length-set (view task).1 k w ∙ its.wide;
          alone = λ j due_now. dite (ℕ_discrete j k) (λ same. same)
              (λ other. its.alone j (ap (λ (x : Writer). x.due) (sym (get_or-set_other (view task).1 k j w (new_writer 0) other)) ∙ due_now));
          others = λ j none.
              let other : j ≢ k = λ same. true≢false (sym (ap (λ (x : ℕ). is_writer task x (writers_in trace)) same ∙ its_context) ∙ none) in
              let now : writer_in j v ≡ writer_in j (view task) = get_or-set_other (view task).1 k j w (new_writer 0) other in
              (ap (λ (x : Writer). x.task.nr_dirtied) now ∙ (its.others j none).0, ap (λ (x : Writer). x.due) now ∙ (its.others j none).1);
          ended = λ over. absurd (true≢false (sym over ∙ not_over));
        } in
        settles local view2 others (check_by trace opened task k decision s) (subst (IsView trace task) (sym is) of) (ap (λ (x : View). x.3) is ∙ not_over) on
        (checked trace opened cpu task own local view gone s (its_side calmly) view2 others (ap (λ (x : View). x.0) is) on k its_context (due_there k (view task) is_due) its.wide decision (ap (λ (x : View). x.1) is))

  -- ---- the end

  module _ (not_over : (view task).3 ≡ false) (none : (view task).0 ≡ []) (free : (last_writer (view task)).due ≡ due.No) (view2 : ℕ → View) (others : (t : ℕ) → t ≢ task → view2 t ≡ view t)
      (is : view2 task ≡ ((view task).0, (view task).1, (view task).2, true)) where
    its_end : (t : ℕ) → is_own_task trace cpu t ≡ true → IsView trace t (view2 t)
    its_end t mine = dite (ℕ_discrete t task)
        (λ same. subst (λ (x : ℕ). IsView trace x (view2 x)) (sym same)
        (subst (IsView trace task) (sym is) (record { wide = its.wide; alone = its.alone; others = its.others; ended = λ over. (ap is_empty none, free) })))
        (λ other. subst (IsView trace t) (sym (others t other)) (at.views t mine))

    same_pages : (t : ℕ) → (view2 t).0 ≡ (view t).0
    same_pages t = dite (ℕ_discrete t task) (λ same. ap (λ (x : ℕ). (view2 x).0) same ∙ ap (λ (v : View). v.0) is ∙ ap (λ (x : ℕ). (view x).0) (sym same)) (λ other. ap (λ (v : View). v.0) (others t other))

    same_writers : (t : ℕ) → (view2 t).1 ≡ (view t).1
    same_writers t = dite (ℕ_discrete t task) (λ same. ap (λ (x : ℕ). (view2 x).1) same ∙ ap (λ (v : View). v.1) is ∙ ap (λ (x : ℕ). (view x).1) (sym same)) (λ other. ap (λ (v : View). v.1) (others t other))

    -- no task waits then
    no_wait : (t : ℕ) → is_own_task trace cpu t ≡ true → is_waiting trace t (view2 t) ≡ true → ⊥
    no_wait t mine waiting = dite (ℕ_discrete t task)
        (λ same. true≢false (sym waiting ∙ ap (λ (x : ℕ). is_waiting trace x (view2 x)) same ∙ ap (λ (b : Bool). not b && is_done trace task (view2 task)) (ap (λ (v : View). v.3) is)))
        (λ other. true≢false (sym waiting ∙ ap (is_waiting trace t) (others t other) ∙ alone t mine other))

    ended_now : is_gone trace task (view2 task) ≡ true
    ended_now = ap (λ (b : Bool). b || is_done trace task (view2 task)) (ap (λ (v : View). v.3) is)

    done_where : rests_last trace task ≡ false → is_done trace task (view task) ≡ true
    done_where writes =
        ap (λ (b : Bool). not b && (is_empty (view task).0 && is_not_due (last_writer (view task)).due)) writes
        ∙ ap (λ (l : List ℕ). is_empty l && is_not_due (last_writer (view task)).due) none ∙ ap is_not_due free

    -- the side had it ended
    pub end_stands : rests_last trace task ≡ false → StandsAs trace cpu (leaked_by local (view task).1) view2 s
    end_stands writes =
        let done = done_where writes in
        let waited : is_waiting trace task (view task) ≡ true = ap (λ (b : Bool). not b && is_done trace task (view task)) not_over ∙ done in
        let count = at.waits task own waited in
        record {
          views = its_end;
          counted = at.counted;
          at = same_side trace cpu at.counted view view2 gone (λ t. is_gone trace t (view2 t)) s (λ t mine. same_pages t) (λ t mine. same_writers t)
              (λ t mine. dite (ℕ_discrete t task)
              (λ same. ap (λ (x : ℕ). is_gone trace x (view2 x)) same ∙ ended_now
              ∙ sym (ap (λ (x : ℕ). is_gone trace x (view x)) same ∙ ap (λ (b : Bool). b || is_done trace task (view task)) not_over ∙ done))
              (λ other. ap (is_gone trace t) (others t other))) at.at;
          calm = λ all. count;
          waits = λ t mine waiting. absurd (no_wait t mine waiting);
        }

    -- it rests last, and is taken as ended now
    module _ (rests : rests_last trace task ≡ true) where
      never : is_done trace task (view task) ≡ false
      never = ap (λ (b : Bool). not b && (is_empty (view task).0 && is_not_due (last_writer (view task)).due)) rests

      going : gone task ≡ false
      going = both_no (view task).3 (is_done trace task (view task)) not_over never

      pub may_end : MayEnd trace s task
      may_end = record {
        rests = rests;
        wrote_all = ap (λ (x : TaskState). x.todo) (at.at.tasks task own) ∙ ap (λ (l : List ℕ). length l) none;
        quiet = quiet trace opened cpu task own at.counted view gone s at.at its going free;
        not_ended = ap (λ (x : TaskState). x.has_ended) (at.at.tasks task own) ∙ going;
      }

      pub rest_stands : StandsAs trace cpu (leaked_by local (view task).1) view2 (end_task trace opened task s)
      rest_stands =
          let count : SideAt trace cpu local view gone s = its_side (and_no (not (view task).3) (is_done trace task (view task)) never) in
          let gone2 : ℕ → Bool = λ t. is_gone trace t (view2 t) in
          record {
            views = its_end;
            counted = leaked_by local (view task).1;
            at = same_side trace cpu (leaked_by local (view task).1) view view2 gone2 gone2 (end_task trace opened task s) (λ t mine. same_pages t) (λ t mine. same_writers t) (λ t mine. refl)
                (ends trace opened cpu task own local view gone s count gone2 ended_now (λ t other. ap (is_gone trace t) (others t other)) going its);
            calm = λ all. refl;
            waits = λ t mine waiting. absurd (no_wait t mine waiting);
          }
