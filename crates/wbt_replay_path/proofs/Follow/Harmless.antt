-- Items with which a turn may begin: nothing is owed, claimed, decided or closed among them.
use Rattle.std.proofs.Common.{◌≡◌, ℕ, zero, suc, ◌+◌, false, List, [], ◌∷◌, ◌++◌, length, refl, sym, subst, ◌∙◌}
use Rattle.std.proofs.lemmas.List.{append_assoc}
use Rattle.std.specs.List.{list_any}
use Rattle.wbt_replay_order.proofs.Common.{Counter, Context, domain_loads, measure, measures_of, weighs_of, State, flusher_of, Todo, is_decide, Tidy, OwesNothing, resumes, is_closing, debts_in}
use Rattle.wbt_counter.specs.declared.counter.Counter.TheVariants.{Domain}
use Rattle.wbt_replay_moves.specs.declared.todo.Silent.TheVariants as silent
use Rattle.wbt_replay_moves.specs.declared.todo.Step.TheVariants as item
use Rattle.wbt_replay_moves.specs.declared.todo.Todo.TheVariants as todo
use Rattle.wbt_replay_order.proofs.Facts.Lists.{either}

pub record Harmless (items : List Todo) : Type 0 where
  pub debts : debts_in items ≡ []
  pub claims : resumes items ≡ false
  pub decides : list_any is_decide items ≡ false
  pub closes : list_any is_closing items ≡ false
  pub tidy : Tidy items

pub behind : (items : List Todo) → Harmless items → OwesNothing items
behind items h = record { debts = h.debts; claims = h.claims }

pub nothing : Harmless []
nothing = record { debts = refl; claims = refl; decides = refl; closes = refl; tidy = tt }

-- the three loads of a domain's limits, before an item that isn't resumed
pub load_first : (d : ℕ) (items : List Todo) → Harmless items → Harmless (todo.Step (item.First d) ∷ todo.Step (item.Middle d) ∷ todo.Step (item.Limits d) ∷ items)
load_first d items h = record {
  debts = h.debts;
  claims = refl;
  decides = h.decides;
  closes = h.closes;
  tidy = (refl, h.debts, (refl, h.debts, (behind items h, h.tidy)));
}

pub count_first : (x : Counter) (items : List Todo) → Harmless items → Harmless (todo.Step (item.Count x) ∷ items)
count_first x items h = record { debts = h.debts; claims = refl; decides = h.decides; closes = h.closes; tidy = (behind items h, h.tidy) }

pub estimate_first : (k : ℕ) (items : List Todo) → Harmless items → Harmless (todo.Silent (silent.Estimate k) ∷ items)
estimate_first k items h = record { debts = h.debts; claims = refl; decides = h.decides; closes = h.closes; tidy = (behind items h, h.tidy) }

pub weigh_first : (k : ℕ) (items : List Todo) → Harmless items → Harmless (todo.Silent (silent.Weigh k) ∷ items)
weigh_first k items h = record { debts = h.debts; claims = refl; decides = h.decides; closes = h.closes; tidy = (behind items h, h.tidy) }

pub only_test : Harmless (todo.Silent silent.Test ∷ [])
only_test = record { debts = refl; claims = refl; decides = refl; closes = refl; tidy = (behind [] nothing, tt) }

pub only_end : Harmless (todo.Silent silent.End ∷ [])
only_end = record { debts = refl; claims = refl; decides = refl; closes = refl; tidy = (behind [] nothing, tt) }

pub write_first : Harmless (todo.Step item.Dirty ∷ todo.Silent silent.End ∷ [])
write_first = record { debts = refl; claims = refl; decides = refl; closes = refl; tidy = (behind (todo.Silent silent.End ∷ []) only_end, only_end.tidy) }

pub only_unmark : Harmless (todo.Step item.Unmark ∷ [])
only_unmark = record { debts = refl; claims = refl; decides = refl; closes = refl; tidy = (behind [] nothing, tt) }

pub only_look : Harmless (todo.Step item.Look ∷ [])
only_look = record { debts = refl; claims = refl; decides = refl; closes = refl; tidy = (behind [] nothing, refl, tt) }

pub only_complete : Harmless (todo.Step item.Complete ∷ [])
only_complete = record { debts = refl; claims = refl; decides = refl; closes = refl; tidy = (behind [] nothing, tt) }

-- ---- the items of a test

loads_before : (n d : ℕ) (items : List Todo) → Harmless items → Harmless (domain_loads n d ++ items)
unfolding domain_loads
loads_before zero d items h = h
loads_before (suc n) d items h =
    load_first d _ (count_first (Domain d) _ (loads_before n (d + 1) items h))

measure_before : (k : ℕ) (s : State) (items : List Todo) → Harmless items → Harmless (measure k s ++ items)
measure_before k s items h = either (λ l. Harmless (l ++ items)) _ (todo.Step (item.Count (Context k)) ∷ todo.Silent (silent.Estimate k) ∷ []) []
    (λ old. count_first (Context k) _ (estimate_first k items h)) (λ new. h)

measures_before : (ks : List ℕ) (s : State) (items : List Todo) → Harmless items → Harmless (measures_of ks s ++ items)
unfolding measures_of
measures_before [] s items h = h
measures_before (k ∷ ks) s items h =
    rw (append_assoc (measure k s) (measures_of ks s) items) (measure_before k s (measures_of ks s ++ items) (measures_before ks s items h))

weighs_before : (ks : List ℕ) (items : List Todo) → Harmless items → Harmless (weighs_of ks ++ items)
unfolding weighs_of
weighs_before [] items h = h
weighs_before (k ∷ ks) items h = count_first (Context k) _ (weigh_first k _ (weighs_before ks items h))

-- The loads, the estimates, the weighings and the test, which come after what there is.
abbrev pub test_items : (f : ℕ) (s : State) (ts : List Todo) → List Todo
test_items f s ts =
    ts ++ domain_loads (length s.domains) 0 ++ measures_of (flusher_of f s).measures s ++ weighs_of (flusher_of f s).weighs ++ todo.Silent silent.Test ∷ []

pub test_is_harmless : (f : ℕ) (s : State) → Harmless (test_items f s [])
test_is_harmless f s =
    let last : List Todo = todo.Silent silent.Test ∷ [] in
    let loads : List Todo = domain_loads (length s.domains) 0 in
    let contexts : List Todo = measures_of (flusher_of f s).measures s in
    let weighs : List Todo = weighs_of (flusher_of f s).weighs in
    subst Harmless (sym (append_assoc (loads ++ contexts) weighs last ∙ append_assoc loads contexts (weighs ++ last)))
    (loads_before (length s.domains) 0 (contexts ++ (weighs ++ last))
    (measures_before (flusher_of f s).measures s (weighs ++ last) (weighs_before (flusher_of f s).weighs last only_test)))
