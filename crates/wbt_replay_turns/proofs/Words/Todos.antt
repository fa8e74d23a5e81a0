-- What CPUs have to do after a change: one has these items, and the others what they had.
use Rattle.std.proofs.Common.{◌≡◌, ◌≢◌, ℕ, ◌<◌, List, ◌++◌, length, get_or, refl, ◌∙◌, ap, arith}
use Rattle.std.proofs.lemmas.List.{length-set, get_or-set_same, get_or-set_other}
use Rattle.wbt_replay_order.proofs.Common.{Entry, do_next, do_last, logged, then_do, do_last_at, log_at, State, no_cpu, cpu_of, with_cpu, Cpu, Todo}

pub record Becomes (i : ℕ) (todos : List Todo) (cpus more : List Cpu) : Type 0 where
  pub many : length more ≡ length cpus
  pub here : (get_or more i no_cpu).todo ≡ todos
  pub others : (j : ℕ) → j ≢ i → (get_or more j no_cpu).todo ≡ (get_or cpus j no_cpu).todo

-- of the CPUs of two states
abbrev pub Todos : (i : ℕ) (todos : List Todo) (s u : State) → Type 0
Todos i todos s u = Becomes i todos s.cpus u.cpus

pub as_before : (i : ℕ) (s : State) → Todos i (cpu_of i s).todo s s
as_before i s = record { many = refl; here = refl; others = λ j n. refl }

module _ (i : ℕ) (s : State) (there : i < length s.cpus) where
  -- the CPU is changed
  pub then_cpu : (todos more : List Todo) (u : State) (c : Cpu) → Todos i todos s u → c.todo ≡ more → Todos i more s (with_cpu i c u)
  then_cpu todos more u c h is = record {
    many = length-set u.cpus i c ∙ h.many;
    here = ap (λ (d : Cpu). d.todo) (get_or-set_same u.cpus i c no_cpu (omega (arith, there, h.many))) ∙ is;
    others = λ j n. ap (λ (d : Cpu). d.todo) (get_or-set_other u.cpus i j c no_cpu n) ∙ h.others j n;
  }

  pub then_next : (todos items : List Todo) (u : State) → Todos i todos s u → Todos i (items ++ todos) s (then_do i items u)
  then_next todos items u h = then_cpu todos (items ++ todos) u (do_next items (cpu_of i u)) h (ap (λ (l : List Todo). items ++ l) h.here)

  pub then_last : (todos items : List Todo) (u : State) → Todos i todos s u → Todos i (todos ++ items) s (do_last_at i items u)
  then_last todos items u h = then_cpu todos (todos ++ items) u (do_last items (cpu_of i u)) h (ap (λ (l : List Todo). l ++ items) h.here)

  pub then_log : (todos : List Todo) (e : Entry) (u : State) → Todos i todos s u → Todos i todos s (log_at i e u)
  then_log todos e u h = then_cpu todos todos u (logged e (cpu_of i u)) h h.here

  -- the CPU is changed, but not what it has to do
  pub then_quiet : (todos : List Todo) (u : State) (c : Cpu) → Todos i todos s u → c.todo ≡ (cpu_of i u).todo → Todos i todos s (with_cpu i c u)
  then_quiet todos u c h is = then_cpu todos todos u c h (is ∙ h.here)
