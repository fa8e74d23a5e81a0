-- What a sound state says of the item that a CPU performs next, and the state without it.
use Rattle.std.proofs.Common.{◌≡◌, ℕ, ◌<◌, ◌≤◌, Bool, true, false, not, cond, List, [], ◌∷◌, length, get_or, All, refl, sym, ◌∙◌, ap, subst, arith}
use Rattle.std.proofs.lemmas.List.{get_or-set_same, length-set}
use Rattle.std.proofs.lemmas.List.Elements.{All-head, All-tail}
use Rattle.std.specs.List.{list_any}
use Rattle.wbt_replay_order.proofs.Common.{Trace, State, no_cpu, no_task, no_flusher, cpu_of, with_cpu, Cpu, Flusher, ReplayPhase, ReplayTask, ReplayTurn, Whose, Todo, is_finished, Facts, IsFlusherOn, IsTaskOn, IsWhose, is_running, Agrees, IsScanning, AreFrom, AreInOrder, is_mark_of, is_end, is_hand_over, AreBefore, Waiting}
use Rattle.wbt_replay_moves.specs.declared.state.ReplayPhase.TheVariants as phase
use Rattle.wbt_replay_moves.specs.declared.state.Whose.TheVariants as whose
use Rattle.wbt_replay_moves.specs.declared.todo.Silent.TheVariants as silent
use Rattle.wbt_replay_moves.specs.declared.todo.Todo.TheVariants as todo
use Rattle.wbt_replay_order.proofs.Lists.Todos.{pop_alike}
use Rattle.wbt_replay_ends.proofs.Waiting.Needs.{Needs}
use Rattle.wbt_replay_ends.proofs.Waiting.Still.{cpu_stays}

-- ---- lists

-- an end, or a hand over, among items that agree
pub an_end : (trace : Trace) (tasks : List ReplayTask) (fs : List Flusher) (task : ℕ) (ts : List Todo) → list_any is_end ts ≡ true → All (Agrees trace tasks fs (whose.Task task)) ts
    → (get_or tasks task no_task).ended ≡ false
an_end trace tasks fs task [] some agree = absurd (cc some)
an_end trace tasks fs task (todo.Silent silent.End ∷ ts) some agree = All-head (Agrees trace tasks fs (whose.Task task)) (todo.Silent silent.End) ts agree
an_end trace tasks fs task (todo.Silent silent.Decide ∷ ts) some agree = an_end trace tasks fs task ts some (All-tail (Agrees trace tasks fs (whose.Task task)) (todo.Silent silent.Decide) ts agree)
an_end trace tasks fs task (todo.Silent (silent.Estimate k) ∷ ts) some agree = an_end trace tasks fs task ts some (All-tail (Agrees trace tasks fs (whose.Task task)) (todo.Silent (silent.Estimate k)) ts agree)
an_end trace tasks fs task (todo.Silent (silent.Weigh k) ∷ ts) some agree = an_end trace tasks fs task ts some (All-tail (Agrees trace tasks fs (whose.Task task)) (todo.Silent (silent.Weigh k)) ts agree)
an_end trace tasks fs task (todo.Silent silent.Test ∷ ts) some agree = an_end trace tasks fs task ts some (All-tail (Agrees trace tasks fs (whose.Task task)) (todo.Silent silent.Test) ts agree)
an_end trace tasks fs task (todo.Silent silent.Close ∷ ts) some agree = an_end trace tasks fs task ts some (All-tail (Agrees trace tasks fs (whose.Task task)) (todo.Silent silent.Close) ts agree)
an_end trace tasks fs task (todo.Silent silent.HandOver ∷ ts) some agree = an_end trace tasks fs task ts some (All-tail (Agrees trace tasks fs (whose.Task task)) (todo.Silent silent.HandOver) ts agree)
an_end trace tasks fs task (todo.Silent silent.Land ∷ ts) some agree = an_end trace tasks fs task ts some (All-tail (Agrees trace tasks fs (whose.Task task)) (todo.Silent silent.Land) ts agree)
an_end trace tasks fs task (todo.Step item ∷ ts) some agree = an_end trace tasks fs task ts some (All-tail (Agrees trace tasks fs (whose.Task task)) (todo.Step item) ts agree)

pub a_hand_over : (trace : Trace) (tasks : List ReplayTask) (fs : List Flusher) (f : ℕ) (ts : List Todo) → list_any is_hand_over ts ≡ true → All (Agrees trace tasks fs (whose.Flusher f)) ts
    → IsScanning (get_or fs f no_flusher).phase
a_hand_over trace tasks fs f [] some agree = absurd (cc some)
a_hand_over trace tasks fs f (todo.Silent silent.HandOver ∷ ts) some agree = All-head (Agrees trace tasks fs (whose.Flusher f)) (todo.Silent silent.HandOver) ts agree
a_hand_over trace tasks fs f (todo.Silent silent.End ∷ ts) some agree = a_hand_over trace tasks fs f ts some (All-tail (Agrees trace tasks fs (whose.Flusher f)) (todo.Silent silent.End) ts agree)
a_hand_over trace tasks fs f (todo.Silent silent.Decide ∷ ts) some agree = a_hand_over trace tasks fs f ts some (All-tail (Agrees trace tasks fs (whose.Flusher f)) (todo.Silent silent.Decide) ts agree)
a_hand_over trace tasks fs f (todo.Silent (silent.Estimate k) ∷ ts) some agree = a_hand_over trace tasks fs f ts some (All-tail (Agrees trace tasks fs (whose.Flusher f)) (todo.Silent (silent.Estimate k)) ts agree)
a_hand_over trace tasks fs f (todo.Silent (silent.Weigh k) ∷ ts) some agree = a_hand_over trace tasks fs f ts some (All-tail (Agrees trace tasks fs (whose.Flusher f)) (todo.Silent (silent.Weigh k)) ts agree)
a_hand_over trace tasks fs f (todo.Silent silent.Test ∷ ts) some agree = a_hand_over trace tasks fs f ts some (All-tail (Agrees trace tasks fs (whose.Flusher f)) (todo.Silent silent.Test) ts agree)
a_hand_over trace tasks fs f (todo.Silent silent.Close ∷ ts) some agree = a_hand_over trace tasks fs f ts some (All-tail (Agrees trace tasks fs (whose.Flusher f)) (todo.Silent silent.Close) ts agree)
a_hand_over trace tasks fs f (todo.Silent silent.Land ∷ ts) some agree = a_hand_over trace tasks fs f ts some (All-tail (Agrees trace tasks fs (whose.Flusher f)) (todo.Silent silent.Land) ts agree)
a_hand_over trace tasks fs f (todo.Step item ∷ ts) some agree = a_hand_over trace tasks fs f ts some (All-tail (Agrees trace tasks fs (whose.Flusher f)) (todo.Step item) ts agree)

-- no hand over comes after an item that changes what its flusher is at
pub none_later : (ts : List Todo) → AreFrom 2 ts → list_any is_hand_over ts ≡ false
none_later [] h = refl
none_later (todo.Silent silent.HandOver ∷ ts) h = absurd (omega (arith, h.0))
none_later (todo.Silent silent.End ∷ ts) h = none_later ts h.1
none_later (todo.Silent silent.Decide ∷ ts) h = none_later ts h.1
none_later (todo.Silent (silent.Estimate k) ∷ ts) h = none_later ts h.1
none_later (todo.Silent (silent.Weigh k) ∷ ts) h = none_later ts h.1
none_later (todo.Silent silent.Test ∷ ts) h = none_later ts h.1
none_later (todo.Silent silent.Close ∷ ts) h = none_later ts h.1
none_later (todo.Silent silent.Land ∷ ts) h = none_later ts h.1
none_later (todo.Step item ∷ ts) h = none_later ts h.1

pub scanning_works : (p : ReplayPhase) → IsScanning p → is_finished p ≡ false
scanning_works (phase.Scanning scan) h = refl
scanning_works (phase.Idle until kept) h = absurd h
scanning_works (phase.Taken n) h = absurd h
scanning_works (phase.Flying n pages until) h = absurd h
scanning_works phase.Finished h = absurd h

pub one_runs : (t : ReplayTask) → t.ended ≡ false → 1 ≤ cond (is_running t) 1 0
one_runs t e = omega (arith, ap {B = ℕ} (λ (b : Bool). cond (not b) 1 0) e)

module _ (trace : Trace) (facts : Facts trace) (i : ℕ) (less : i < trace.cpus) (s : State) (needs : Needs trace s) (w : Waiting trace s) (t : Todo) (rest : List Todo)
    (is : (cpu_of i s).todo ≡ t ∷ rest) where
  pub seats : length s.cpus ≡ trace.cpus
  seats = needs.cpus.many

  pub mine : IsWhose trace i (cpu_of i s).turn.whose
  mine = (needs.cpus.each i less).whose (omega (arith, ap (λ (ts : List Todo). length ts) is))

  pub agree : (x : Whose) → (cpu_of i s).turn.whose ≡ x → All (Agrees trace s.tasks s.flushers x) (t ∷ rest)
  agree x of = subst (λ (y : Whose). All (Agrees trace s.tasks s.flushers y) (t ∷ rest)) of (subst (All (Agrees trace s.tasks s.flushers (cpu_of i s).turn.whose)) is (needs.agreed i less).items)

  pub in_order : AreInOrder (t ∷ rest)
  in_order = subst AreInOrder is (needs.cpus.each i less).in_order

  pub before : (x : Whose) → (cpu_of i s).turn.whose ≡ x → AreBefore trace x (t ∷ rest)
  before x of = subst (λ (y : Whose). AreBefore trace y (t ∷ rest)) of (subst (AreBefore trace (cpu_of i s).turn.whose) is (w.turns i less))

  -- ---- the item leaves the list

  module _ (c : Cpu) (turn : c.turn ≡ (cpu_of i s).turn) (list : c.todo ≡ rest) where
    abbrev pub left : State
    left = with_cpu i c s

    pub here : cpu_of i left ≡ c
    here = get_or-set_same s.cpus i c no_cpu (omega (arith, less, seats))

    pub seats_left : length left.cpus ≡ trace.cpus
    seats_left = length-set s.cpus i c ∙ seats

    pub whose_is : (cpu_of i left).turn.whose ≡ (cpu_of i s).turn.whose
    whose_is = ap (λ (d : Cpu). d.turn.whose) here ∙ ap (λ (x : ReplayTurn). x.whose) turn

    pub todo_is : (cpu_of i left).todo ≡ rest
    todo_is = ap (λ (d : Cpu). d.todo) here ∙ list

    pub left_waits : ((n : ℕ) → is_mark_of n t ≡ false) → Waiting trace left
    left_waits none = cpu_stays trace i c s left w (pop_alike trace t rest (cpu_of i s) c none is (ap (λ (x : ReplayTurn). x.whose) turn) list) refl (omega arith) refl refl refl refl

    -- what the turn's owner does
    pub by_owner : (F : Whose → State) → ((task : ℕ) → (cpu_of i s).turn.whose ≡ whose.Task task → IsTaskOn trace i task → Waiting trace (F (whose.Task task)))
        → ((f : ℕ) → (cpu_of i s).turn.whose ≡ whose.Flusher f → IsFlusherOn trace i f → Waiting trace (F (whose.Flusher f))) → Waiting trace (F (cpu_of i left).turn.whose)
    by_owner F task flusher = subst (λ (x : Whose). Waiting trace (F x)) (sym whose_is) (by_whose (cpu_of i s).turn.whose refl mine)
      where
        by_whose : (x : Whose) → (cpu_of i s).turn.whose ≡ x → IsWhose trace i x → Waiting trace (F x)
        by_whose (whose.Task k) of on = task k of on
        by_whose (whose.Flusher f) of on = flusher f of on
