-- The first item leaves the list of what a CPU has to do, and the move is under way; the move is done.
use Rattle.std.proofs.Common.{◌≡◌, ℕ, ◌+◌, ◌<◌, ◌≤◌, false, List, [], ◌∷◌, ◌++◌, length, All, refl, sym, ◌∙◌, ap, subst, arith, length-append}
use Rattle.std.proofs.Math.ListN.{set}
use Rattle.std.proofs.lemmas.List.Elements.{All-head, All-tail}
use mathlib.Core.Logic.{dite}
use native.Mathlib.Decide.{ℕ_discrete}
use Rattle.std.specs.Prelude.{unsigned_abs}
use Rattle.wbt_replay_order.proofs.Common.{Counter, Context, Trace, batch_of, own_of, State, cpu_of, Cpu, Todo, Facts, silent_ticks, step_ticks, credit_in, Sound, HasRoom, IsClosed, IsRoom, IsWhose, ItemFits, AreInOrder, AreOthers, Settles, settles_next, is_settling, floor_of, Agrees, closes_in}
use Rattle.wbt_counter.specs.declared.counter.Counter.TheVariants.{Domain}
use Rattle.wbt_replay_moves.specs.declared.todo.Step.TheVariants as step
use Rattle.wbt_replay_moves.specs.declared.todo.Todo.TheVariants as todo
use Rattle.wbt_replay_order.specs.Kept.Turns.{closes}
use Rattle.wbt_replay_ranges.proofs.Sound.Counters.{Ready, ReadyToWrite, write_ticks, with_step, credit_few}
use Rattle.wbt_replay_ranges.proofs.Sound.Frames.{cpu_going}
use Rattle.wbt_replay_ranges.proofs.Sound.Going.{Going, step_going, spare_going}
use Rattle.wbt_replay_ranges.proofs.Sound.Own.{Fits, Free, Done, is_set, changed, changed_cpu, changed_agreed}

-- ---- lists

others_rest : (t : Todo) (ts : List Todo) → is_settling t ≡ false → Settles (t ∷ ts) → AreOthers ts
others_rest (todo.Step (step.Fold x)) ts e h = absurd (cc e)
others_rest (todo.Step (step.Clear x)) ts e h = absurd (cc e)
others_rest (todo.Step step.Dirty) ts e h = h
others_rest (todo.Step (step.Add counter change)) ts e h = h
others_rest (todo.Step (step.Mark inode)) ts e h = h
others_rest (todo.Step (step.First domain)) ts e h = h
others_rest (todo.Step (step.Middle domain)) ts e h = h
others_rest (todo.Step (step.Limits domain)) ts e h = h
others_rest (todo.Step (step.Count counter)) ts e h = h
others_rest (todo.Step step.Unmark) ts e h = h
others_rest (todo.Step step.Look) ts e h = h
others_rest (todo.Step (step.Claim word)) ts e h = h
others_rest (todo.Step step.Complete) ts e h = h
others_rest (todo.Silent item) ts e h = h

none_next : (x : Counter) (t : Todo) (ts : List Todo) → is_settling t ≡ false → settles_next x (t ∷ ts) ≡ false
none_next x (todo.Step (step.Fold y)) ts e = absurd (cc e)
none_next x (todo.Step (step.Clear y)) ts e = absurd (cc e)
none_next x (todo.Step step.Dirty) ts e = refl
none_next x (todo.Step (step.Add counter change)) ts e = refl
none_next x (todo.Step (step.Mark inode)) ts e = refl
none_next x (todo.Step (step.First domain)) ts e = refl
none_next x (todo.Step (step.Middle domain)) ts e = refl
none_next x (todo.Step (step.Limits domain)) ts e = refl
none_next x (todo.Step (step.Count counter)) ts e = refl
none_next x (todo.Step step.Unmark) ts e = refl
none_next x (todo.Step step.Look) ts e = refl
none_next x (todo.Step (step.Claim word)) ts e = refl
none_next x (todo.Step step.Complete) ts e = refl
none_next x (todo.Silent item) ts e = refl

module _ (trace : Trace) (facts : Facts trace) (i : ℕ) (less : i < trace.cpus) where
  -- ---- a move begins, and is done

  pub start_going : (s : State) → Sound trace s → HasRoom trace s → (cpu_of i s).stopped ≡ false → Going trace i 0 0 s
  start_going s sound room live = record {
    holds = sound.holds;
    live = live;
    closed = λ j n l. sound.closed j l;
    room = λ j n l. room.own j l;
  }

  pub is_done : (s : State) → Done trace i s → Sound trace s × HasRoom trace s
  is_done s d = (
    record {
      holds = d.going.holds;
      closed = λ j l. dite (ℕ_discrete j i) (λ e. subst (λ (n : ℕ). IsClosed trace s.flushers n (cpu_of n s)) (sym e) d.closed) (λ n. d.going.closed j n l);
    },
    record { own = λ j l. dite (ℕ_discrete j i) (λ e. subst (λ (n : ℕ). IsRoom trace (cpu_of n s)) (sym e) d.room) (λ n. d.going.room j n l) },
  )

  -- ---- the first item

  module _ (s : State) (sound : Sound trace s) (room : HasRoom trace s) (live : (cpu_of i s).stopped ≡ false) (t : Todo) (ts : List Todo) (first : (cpu_of i s).todo ≡ t ∷ ts) where
    fits_all : All (ItemFits trace) (t ∷ ts)
    fits_all = subst (All (ItemFits trace)) first (sound.holds.cpus.each i less).todo

    order_all : AreInOrder (t ∷ ts)
    order_all = subst AreInOrder first (sound.holds.cpus.each i less).in_order

    agree_all : All (Agrees trace s.tasks s.flushers (cpu_of i s).turn.whose) (t ∷ ts)
    agree_all = subst (All (Agrees trace s.tasks s.flushers (cpu_of i s).turn.whose)) first (sound.holds.agreed i less).items

    whose_is : IsWhose trace i (cpu_of i s).turn.whose
    whose_is = (sound.holds.cpus.each i less).whose (omega (arith, ap length first))

    credit_is : credit_in (cpu_of i s).todo ≡ credit_in (t ∷ ts)
    credit_is = ap credit_in first

    -- the state after the item
    pub item_fits : ItemFits trace t
    item_fits = All-head (ItemFits trace) t ts fits_all

    -- what is left of the list, with more ticks or steps to spare
    pop_going : (made e t0 t1 : ℕ) (x : State) → Going trace i e t0 x → cpu_of i x ≡ cpu_of i s → x.tasks ≡ s.tasks → x.flushers ≡ s.flushers → made ≤ length x.steps → credit_in ts + t1 ≤ credit_in (t ∷ ts) + t0
        → Going trace i e t1 (record x { cpus = set x.cpus i (record (cpu_of i x) { todo = ts; made = made }) })
    pop_going made e t0 t1 x g same tasks flushers few credit =
        let c : Cpu = cpu_of i x in
        let h = g.holds.cpus.each i less in
        let a = g.holds.agreed i less in
        let todo' : c.todo ≡ t ∷ ts = ap (λ (d : Cpu). d.todo) same ∙ first in
        let all = subst (All (ItemFits trace)) todo' h.todo in
        let order = subst AreInOrder todo' h.in_order in
        let agree = subst (All (Agrees trace x.tasks x.flushers c.turn.whose)) todo' a.items in
        let was : credit_in c.todo ≡ credit_in (t ∷ ts) = ap credit_in todo' in
        cpu_going trace facts i less (changed c c.turn ts c.local c.own_domains c.own_contexts c.entries c.checks c.estimates made) e e t0 t1 x g
        (changed_cpu trace facts i less (length x.steps) x.now c c.turn ts c.local c.own_domains c.own_contexts c.entries c.checks c.estimates made h h.turn (λ l. h.whose (omega (arith, ap length todo'))) (All-tail (ItemFits trace) t ts all) order.1 refl refl h.since few)
        (changed_agreed trace facts i less x c c.turn ts c.local c.own_domains c.own_contexts c.entries c.checks c.estimates made a refl (All-tail (Agrees trace x.tasks x.flushers c.turn.whose) t ts agree))
        refl (omega arith) (omega (arith, was, credit)) (omega arith)

    -- a step may be made
    pub pop_ready_to_write : length s.steps < s.most → ReadyToWrite trace i (record s { cpus = set s.cpus i (record (cpu_of i s) { todo = ts; made = (cpu_of i s).made + 1 }) })
    pop_ready_to_write few x =
        let one : length (s.steps ++ x ∷ []) ≡ length s.steps + 1 = length-append s.steps (x ∷ []) in
        let g = step_going trace i 0 0 (s.steps ++ x ∷ []) s (start_going s sound room live) one (omega (arith, one, few)) in
        let made = (sound.holds.cpus.each i less).made in
        let small = credit_few ts in
        pop_going ((cpu_of i s).made + 1) 1 step_ticks write_ticks (with_step x s) g refl refl refl (omega (arith, one, made)) (omega (arith, small))

    pub pop_ready : length s.steps < s.most → Ready trace i (record s { cpus = set s.cpus i (record (cpu_of i s) { todo = ts; made = (cpu_of i s).made + 1 }) })
    pop_ready few x = spare_going trace i 1 1 write_ticks silent_ticks _ (omega arith) (omega arith) (pop_ready_to_write few x)

    -- a silent move is under way
    pub pop_silent : (ticks : ℕ) → credit_in ts + ticks ≤ credit_in (t ∷ ts) → Going trace i 0 ticks (record s { cpus = set s.cpus i (record (cpu_of i s) { todo = ts }) })
    pop_silent ticks credit = pop_going (cpu_of i s).made 0 0 ticks s (start_going s sound room live) refl refl refl (sound.holds.cpus.each i less).made (omega (arith, credit))

    module _ (made : ℕ) where
      pub same : cpu_of i (record s { cpus = set s.cpus i (record (cpu_of i s) { todo = ts; made = made }) }) ≡ record (cpu_of i s) { todo = ts; made = made }
      same = is_set trace facts i less (record (cpu_of i s) { todo = ts; made = made }) 0 0 s (start_going s sound room live)

      own_as : (x : Counter) → own_of x (record (cpu_of i s) { todo = ts; made = made }) ≡ own_of x (cpu_of i s)
      own_as (Domain d) = refl
      own_as (Context k) = refl

      pub pop_whose : (cpu_of i (record s { cpus = set s.cpus i (record (cpu_of i s) { todo = ts; made = made }) })).turn.whose ≡ (cpu_of i s).turn.whose
      pop_whose = ap (λ (c : Cpu). c.turn.whose) same

      pub pop_is_whose : IsWhose trace i (cpu_of i (record s { cpus = set s.cpus i (record (cpu_of i s) { todo = ts; made = made }) })).turn.whose
      pop_is_whose = subst (λ (c : Cpu). IsWhose trace i c.turn.whose) (sym same) whose_is

      pub pop_agrees : Agrees trace s.tasks s.flushers (cpu_of i (record s { cpus = set s.cpus i (record (cpu_of i s) { todo = ts; made = made }) })).turn.whose t
      pop_agrees = subst (λ (c : Cpu). Agrees trace s.tasks s.flushers c.turn.whose t) (sym same) (All-head (Agrees trace s.tasks s.flushers (cpu_of i s).turn.whose) t ts agree_all)

      pub pop_since : (cpu_of i (record s { cpus = set s.cpus i (record (cpu_of i s) { todo = ts; made = made }) })).local.since_check ≤ length s.steps
      pop_since = subst (λ (c : Cpu). c.local.since_check ≤ length s.steps) (sym same) (sound.holds.cpus.each i less).since

      pub pop_free : is_settling t ≡ false → Free trace i (floor_of t) (record s { cpus = set s.cpus i (record (cpu_of i s) { todo = ts; made = made }) })
      pop_free other =
          let r = room.own i less in
          let settles : Settles (t ∷ ts) = subst Settles first r.settles in
          record {
            whose = pop_is_whose;
            fits = subst (λ (c : Cpu). Fits trace s.tasks s.flushers c.turn.whose (floor_of t) c.todo) (sym same) (record {
              fit = All-tail (ItemFits trace) t ts fits_all;
              order = order_all.1;
              from = order_all.0;
              agree = All-tail (Agrees trace s.tasks s.flushers (cpu_of i s).turn.whose) t ts agree_all;
              others = others_rest t ts other settles;
            });
            room = λ x. subst (λ (c : Cpu). unsigned_abs (own_of x c) < batch_of trace x) (sym same) (subst (λ n. unsigned_abs n < batch_of trace x) (sym (own_as x))
                (r.room x (subst (λ (todos : List Todo). settles_next x todos ≡ false) (sym first) (none_next x t ts other))));
          }

      pub pop_closed : closes t ≡ false → IsClosed trace s.flushers i (cpu_of i (record s { cpus = set s.cpus i (record (cpu_of i s) { todo = ts; made = made }) }))
      pop_closed goes_on = subst (IsClosed trace s.flushers i) (sym same) (λ f on e none. sound.closed i less f on e (ap closes_in first ∙ stays t ts goes_on none))
        where
          stays : (t : Todo) (ts : List Todo) → closes t ≡ false → closes_in ts ≡ false → closes_in (t ∷ ts) ≡ false
          stays t ts a b = cc (a, b)

      -- where the item is a fold or a clear
      pub pop_room : ((x : Counter) → settles_next x ts ≡ false → settles_next x (t ∷ ts) ≡ false) → Settles ts → IsRoom trace (cpu_of i (record s { cpus = set s.cpus i (record (cpu_of i s) { todo = ts; made = made }) }))
      pop_room next settles =
          let r = room.own i less in
          subst (IsRoom trace) (sym same) (record {
            settles = settles;
            most = λ x. subst (λ n. unsigned_abs n ≤ batch_of trace x) (sym (own_as x)) (r.most x);
            room = λ x e. subst (λ n. unsigned_abs n < batch_of trace x) (sym (own_as x)) (r.room x (subst (λ (todos : List Todo). settles_next x todos ≡ false) (sym first) (next x e)));
          })

      pub pop_own : (x : Counter) → settles_next x (t ∷ ts) ≡ false → unsigned_abs (own_of x (cpu_of i (record s { cpus = set s.cpus i (record (cpu_of i s) { todo = ts; made = made }) }))) < batch_of trace x
      pop_own x e = subst (λ (c : Cpu). unsigned_abs (own_of x c) < batch_of trace x) (sym same) (subst (λ n. unsigned_abs n < batch_of trace x) (sym (own_as x))
          ((room.own i less).room x (subst (λ (todos : List Todo). settles_next x todos ≡ false) (sym first) e)))

      pub pop_settles : Settles (t ∷ ts)
      pop_settles = subst Settles first (room.own i less).settles

      pub pop_todo : (P : List Todo → Type 0) → P ts → P (cpu_of i (record s { cpus = set s.cpus i (record (cpu_of i s) { todo = ts; made = made }) })).todo
      pop_todo P h = subst (λ (c : Cpu). P c.todo) (sym same) h
