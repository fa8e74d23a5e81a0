-- What the CPU that makes a move still has to do, in the midst of the move and after it.
use Rattle.std.proofs.Common.{◌≡◌, ℕ, ◌+◌, ◌<◌, ◌≤◌, false, ℤ, unsigned_abs, List, [], ◌∷◌, ◌++◌, length, All, refl, sym, ◌∙◌, ap, subst, arith}
use Rattle.std.proofs.Math.ListN.{set}
use Rattle.std.proofs.lemmas.List.{get_or-set_same}
use Rattle.std.proofs.lemmas.List.Elements.{All-nil, All-cons}
use Rattle.wbt_replay_order.proofs.Common.{Counter, Context, CheckEntry, Entry, EstEntry, CpuLocal, Trace, batch_of, own_of, State, cpu_of, flusher_of, no_cpu, Cpu, Flusher, ReplayTask, ReplayTurn, Whose, Todo, Facts, IsFlusherOn, credit_in, IsClosed, IsRoom, IsTurn, IsCpu, IsWhose, IsAgreed, ItemFits, AreFrom, AreInOrder, AreOthers, Settles, is_settling, floor_of, rank_of, Agrees, IsOpen, closes_in}
use Rattle.wbt_counter.specs.declared.counter.Counter.TheVariants.{Domain}
use Rattle.wbt_replay_moves.specs.declared.state.Whose.TheVariants as whose
use Rattle.wbt_replay_moves.specs.declared.todo.Step.TheVariants as step
use Rattle.wbt_replay_moves.specs.declared.todo.Todo.TheVariants as todo
use Rattle.wbt_replay_ranges.proofs.Sound.Going.{Going}
use Rattle.wbt_replay_ranges.proofs.Sound.Frames.{cpu_going}

-- ---- lists of items

-- items that the CPU may do, none of which is a fold or a clear, and which come to so much
pub record Fits (trace : Trace) (ts : List ReplayTask) (fs : List Flusher) (w : Whose) (least : ℕ) (todos : List Todo) : Type 0 where
  pub fit : All (ItemFits trace) todos
  pub order : AreInOrder todos
  pub from : AreFrom least todos
  pub agree : All (Agrees trace ts fs w) todos
  pub others : AreOthers todos

pub from_less : (m n : ℕ) (todos : List Todo) → m ≤ n → AreFrom n todos → AreFrom m todos
from_less m n [] l h = tt
from_less m n (t ∷ todos) l h = (omega (arith, h.0, l), from_less m n todos l h.1)

pub fits_nil : (trace : Trace) (ts : List ReplayTask) (fs : List Flusher) (w : Whose) (least : ℕ) → Fits trace ts fs w least []
fits_nil trace ts fs w least = record { fit = All-nil (ItemFits trace); order = tt; from = tt; agree = All-nil (Agrees trace ts fs w); others = tt }

-- an item more in front
pub push : (trace : Trace) (ts : List ReplayTask) (fs : List Flusher) (w : Whose) (n m : ℕ) (t : Todo) (todos : List Todo) → Fits trace ts fs w n todos
    → ItemFits trace t → Agrees trace ts fs w t → is_settling t ≡ false → floor_of t ≤ n → m ≤ n → m ≤ rank_of t → Fits trace ts fs w m (t ∷ todos)
push trace ts fs w n m t todos h fits agrees other floor less rank = record {
  fit = All-cons (ItemFits trace) t todos fits h.fit;
  order = (from_less (floor_of t) n todos floor h.from, h.order);
  from = (rank, from_less m n todos less h.from);
  agree = All-cons (Agrees trace ts fs w) t todos agrees h.agree;
  others = (other, h.others);
}

pub fits_less : (trace : Trace) (ts : List ReplayTask) (fs : List Flusher) (w : Whose) (m n : ℕ) (todos : List Todo) → m ≤ n → Fits trace ts fs w n todos → Fits trace ts fs w m todos
fits_less trace ts fs w m n todos l h = record { fit = h.fit; order = h.order; from = from_less m n todos l h.from; agree = h.agree; others = h.others }

-- Without a fold or a clear no own number is settled next.
pub settles_others : (todos : List Todo) → AreOthers todos → Settles todos
settles_others [] h = tt
settles_others (todo.Step (step.Fold x) ∷ more) h = absurd (cc (h.0))
settles_others (todo.Step (step.Clear x) ∷ more) h = absurd (cc (h.0))
settles_others (todo.Step step.Dirty ∷ more) h = h.1
settles_others (todo.Step (step.Add counter change) ∷ more) h = h.1
settles_others (todo.Step (step.Mark inode) ∷ more) h = h.1
settles_others (todo.Step (step.First domain) ∷ more) h = h.1
settles_others (todo.Step (step.Middle domain) ∷ more) h = h.1
settles_others (todo.Step (step.Limits domain) ∷ more) h = h.1
settles_others (todo.Step (step.Count counter) ∷ more) h = h.1
settles_others (todo.Step step.Unmark ∷ more) h = h.1
settles_others (todo.Step step.Look ∷ more) h = h.1
settles_others (todo.Step (step.Claim word) ∷ more) h = h.1
settles_others (todo.Step step.Complete ∷ more) h = h.1
settles_others (todo.Silent item ∷ more) h = h.1

-- ---- the CPU

pub record Free (trace : Trace) (i least : ℕ) (s : State) : Type 0 where
  pub whose : IsWhose trace i (cpu_of i s).turn.whose
  pub fits : Fits trace s.tasks s.flushers (cpu_of i s).turn.whose least (cpu_of i s).todo
  pub room : (x : Counter) → unsigned_abs (own_of x (cpu_of i s)) < batch_of trace x

-- The move is done.
pub record Done (trace : Trace) (i : ℕ) (s : State) : Type 0 where
  pub going : Going trace i 0 0 s
  pub closed : IsClosed trace s.flushers i (cpu_of i s)
  pub room : IsRoom trace (cpu_of i s)

pub room_free : (trace : Trace) (c : Cpu) → AreOthers c.todo → ((x : Counter) → unsigned_abs (own_of x c) < batch_of trace x) → IsRoom trace c
room_free trace c others less = record {
  settles = settles_others c.todo others;
  most = λ x. let l = less x in omega (arith, l);
  room = λ x e. less x;
}

-- where the CPU's own turn stands as it did
pub done_free : (trace : Trace) (i least : ℕ) (s : State) → Going trace i 0 0 s → IsClosed trace s.flushers i (cpu_of i s) → Free trace i least s → Done trace i s
done_free trace i least s g closed f = record { going = g; closed = closed; room = room_free trace (cpu_of i s) f.fits.others f.room }

-- ---- the CPU changes

-- what a move makes of a CPU
abbrev pub changed : (c : Cpu) (turn : ReplayTurn) (todos : List Todo) (local : CpuLocal) (ds ks : List ℤ) (es : List Entry) (cs : List CheckEntry) (xs : List EstEntry) (made : ℕ) → Cpu
changed c turn todos local ds ks es cs xs made = record c {
  turn = turn;
  todo = todos;
  local = local;
  own_domains = ds;
  own_contexts = ks;
  entries = es;
  checks = cs;
  estimates = xs;
  made = made;
}

module _ (trace : Trace) (facts : Facts trace) (i : ℕ) (less : i < trace.cpus) where
  pub changed_cpu : (n now : ℕ) (c : Cpu) (turn : ReplayTurn) (todos : List Todo) (local : CpuLocal) (ds ks : List ℤ) (es : List Entry) (cs : List CheckEntry) (xs : List EstEntry) (made : ℕ)
      → IsCpu trace n now i c → IsTurn now turn → (1 ≤ length todos → IsWhose trace i turn.whose) → All (ItemFits trace) todos → AreInOrder todos
      → length ds ≡ length c.own_domains → length ks ≡ length c.own_contexts → local.since_check ≤ n → made ≤ n → IsCpu trace n now i (changed c turn todos local ds ks es cs xs made)
  changed_cpu n now c turn todos local ds ks es cs xs made h t w fit order dl kl since few = record {
    jobs = h.jobs;
    tasks = h.tasks;
    next = h.next;
    next_task = h.next_task;
    turn = t;
    whose = w;
    todo = fit;
    in_order = order;
    own_domains = dl ∙ h.own_domains;
    own_contexts = kl ∙ h.own_contexts;
    many_held = h.many_held;
    held = h.held;
    since = since;
    made = few;
  }

  pub changed_agreed : (s : State) (c : Cpu) (turn : ReplayTurn) (todos : List Todo) (local : CpuLocal) (ds ks : List ℤ) (es : List Entry) (cs : List CheckEntry) (xs : List EstEntry) (made : ℕ)
      → IsAgreed trace s.tasks s.flushers i c → turn.whose ≡ c.turn.whose → All (Agrees trace s.tasks s.flushers c.turn.whose) todos
      → IsAgreed trace s.tasks s.flushers i (changed c turn todos local ds ks es cs xs made)
  changed_agreed s c turn todos local ds ks es cs xs made h same agree = record {
    items = subst (λ (w : Whose). All (Agrees trace s.tasks s.flushers w) todos) (sym same) agree;
    others = λ f on n. h.others f on (λ e. n (same ∙ e));
  }

  -- the CPU's entries alone grow
  pub logged_going : (es : List Entry) (cs : List CheckEntry) (xs : List EstEntry) (e t : ℕ) (s : State) → Going trace i e t s
      → Going trace i e t (record s { cpus = set s.cpus i (record (cpu_of i s) { entries = es; checks = cs; estimates = xs }) })
  logged_going es cs xs e t s g =
      let c : Cpu = cpu_of i s in
      let h = g.holds.cpus.each i less in
      cpu_going trace facts i less (changed c c.turn c.todo c.local c.own_domains c.own_contexts es cs xs c.made) e e t t s g
      (changed_cpu (length s.steps) s.now c c.turn c.todo c.local c.own_domains c.own_contexts es cs xs c.made h h.turn h.whose h.todo h.in_order refl refl h.since h.made)
      (changed_agreed s c c.turn c.todo c.local c.own_domains c.own_contexts es cs xs c.made (g.holds.agreed i less) refl (g.holds.agreed i less).items)
      refl (omega arith) (omega arith) (omega arith)

  -- A CPU that was set is that CPU.
  pub is_set : (c : Cpu) (e t : ℕ) (s : State) → Going trace i e t s → cpu_of i (record s { cpus = set s.cpus i c }) ≡ c
  is_set c e t s g = get_or-set_same s.cpus i c no_cpu (omega (arith, g.holds.cpus.many, less))

  pub logged_whose : (es : List Entry) (cs : List CheckEntry) (xs : List EstEntry) (e t : ℕ) (s : State) → Going trace i e t s
      → (cpu_of i (record s { cpus = set s.cpus i (record (cpu_of i s) { entries = es; checks = cs; estimates = xs }) })).turn.whose ≡ (cpu_of i s).turn.whose
  logged_whose es cs xs e t s g = ap (λ (d : Cpu). d.turn.whose) (is_set (record (cpu_of i s) { entries = es; checks = cs; estimates = xs }) e t s g)

  -- with other entries it is as free
  pub logged_free : (es : List Entry) (cs : List CheckEntry) (xs : List EstEntry) (least e t : ℕ) (s : State) → Going trace i e t s → Free trace i least s
      → Free trace i least (record s { cpus = set s.cpus i (record (cpu_of i s) { entries = es; checks = cs; estimates = xs }) })
  logged_free es cs xs least e t s g f =
      let c : Cpu = record (cpu_of i s) { entries = es; checks = cs; estimates = xs } in
      let same = sym (is_set c e t s g) in
      record {
        whose = subst (λ (d : Cpu). IsWhose trace i d.turn.whose) same f.whose;
        fits = subst (λ (d : Cpu). Fits trace s.tasks s.flushers d.turn.whose least d.todo) same f.fits;
        room = λ x. subst (λ (d : Cpu). unsigned_abs (own_of x d) < batch_of trace x) same (room_same x);
      }
    where
      room_same : (x : Counter) → unsigned_abs (own_of x (record (cpu_of i s) { entries = es; checks = cs; estimates = xs })) < batch_of trace x
      room_same x = subst (λ (n : ℤ). unsigned_abs n < batch_of trace x) (own_same x) (f.room x)
        where
          own_same : (x : Counter) → own_of x (cpu_of i s) ≡ own_of x (record (cpu_of i s) { entries = es; checks = cs; estimates = xs })
          own_same x = elim x as (λ y. own_of y (cpu_of i s) ≡ own_of y (record (cpu_of i s) { entries = es; checks = cs; estimates = xs })) [ Domain d ↦ refl | Context k ↦ refl ]

  -- with other counts of its writers too
  pub local_free : (local : CpuLocal) (es : List Entry) (least e t : ℕ) (s : State) → Going trace i e t s → Free trace i least s
      → Free trace i least (record s { cpus = set s.cpus i (record (cpu_of i s) { local = local; entries = es }) })
  local_free local es least e t s g f =
      let c : Cpu = record (cpu_of i s) { local = local; entries = es } in
      let same = sym (is_set c e t s g) in
      record {
        whose = subst (λ (d : Cpu). IsWhose trace i d.turn.whose) same f.whose;
        fits = subst (λ (d : Cpu). Fits trace s.tasks s.flushers d.turn.whose least d.todo) same f.fits;
        room = λ x. subst (λ (d : Cpu). unsigned_abs (own_of x d) < batch_of trace x) same (room_same x);
      }
    where
      room_same : (x : Counter) → unsigned_abs (own_of x (record (cpu_of i s) { local = local; entries = es })) < batch_of trace x
      room_same (Domain d) = f.room (Domain d)
      room_same (Context k) = f.room (Context k)

  -- the CPU does these next, and the move is done
  pub do_done : (items : List Todo) (e t n m : ℕ) (s : State) → Going trace i e t s → Free trace i n s
      → Fits trace s.tasks s.flushers (cpu_of i s).turn.whose m (items ++ (cpu_of i s).todo)
      → credit_in (items ++ (cpu_of i s).todo) ≤ credit_in (cpu_of i s).todo + t
      → ((f : ℕ) → IsFlusherOn trace i f → (cpu_of i s).turn.whose ≡ whose.Flusher f → closes_in (items ++ (cpu_of i s).todo) ≡ false → IsOpen trace (flusher_of f s))
      → Done trace i (record s { cpus = set s.cpus i (record (cpu_of i s) { todo = items ++ (cpu_of i s).todo }) })
  do_done items e t n m s g f fits credit opens =
      let c : Cpu = cpu_of i s in
      let todos : List Todo = items ++ c.todo in
      let d : Cpu = record c { todo = todos } in
      let h = g.holds.cpus.each i less in
      let same = sym (is_set d e t s g) in
      record {
        going = cpu_going trace facts i less d e 0 t 0 s g
            (changed_cpu (length s.steps) s.now c c.turn todos c.local c.own_domains c.own_contexts c.entries c.checks c.estimates c.made h h.turn (λ _. f.whose) fits.fit fits.order refl refl h.since h.made)
            (changed_agreed s c c.turn todos c.local c.own_domains c.own_contexts c.entries c.checks c.estimates c.made (g.holds.agreed i less) refl fits.agree)
            refl (omega arith) (omega (arith, credit)) (omega arith);
        closed = subst (IsClosed trace s.flushers i) same opens;
        room = subst (IsRoom trace) same (room_free trace d fits.others (λ x. own_less x));
      }
    where
      own_less : (x : Counter) → unsigned_abs (own_of x (record (cpu_of i s) { todo = items ++ (cpu_of i s).todo })) < batch_of trace x
      own_less x = subst (λ (n : ℤ). unsigned_abs n < batch_of trace x) (own_same x) (f.room x)
        where
          own_same : (x : Counter) → own_of x (cpu_of i s) ≡ own_of x (record (cpu_of i s) { todo = items ++ (cpu_of i s).todo })
          own_same x = elim x as (λ y. own_of y (cpu_of i s) ≡ own_of y (record (cpu_of i s) { todo = items ++ (cpu_of i s).todo })) [ Domain d ↦ refl | Context k ↦ refl ]
