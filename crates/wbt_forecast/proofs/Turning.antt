-- Sums over lists, one item more; and a list whose first items go behind the others.
use Rattle.std.proofs.Common.{◌≡◌, ℕ, ◌+◌, ◌<◌, ◌≤◌, List, [], ◌∷◌, ◌++◌, length, take, drop, get_or, refl, sym, ◌∙◌, ap, arith, append_assoc, append-nil, take-append-drop}
use Rattle.std.specs.List.{sum_by}
use Rattle.std.proofs.lemmas.List.{drop_more, take_more, take_all, drop_all}
use Rattle.std.proofs.lemmas.List.Sums.{sum_by-append, sum_by-cons}
use Rattle.wbt_num.specs.Front.{first}
use Rattle.wbt_replay_order.proofs.Common.{TimerTodo, Todo, credit_in, timer_credit}
use Rattle.wbt_replay_moves.specs.declared.todo.TimerTodo.TheVariants as timer_todo
use Rattle.wbt_replay_moves.specs.declared.todo.Todo.TheVariants as todo
use Rattle.wbt_forecast.specs.Ticks.{credit_at, timer_credit_at}

-- ---- sums

-- an item more
pub sum_next : {A : Type 0} (f : A → ℕ) (xs : List A) (i : ℕ) (d : A) → i < length xs
    → sum_by f (take (i + 1) xs) ≡ sum_by f (take i xs) + f (get_or xs i d)
sum_next f xs i d less =
    let parts = ap (sum_by f) (take_more xs i d less) ∙ sum_by-append f (take i xs) (get_or xs i d ∷ []) in
    let one = sum_by-cons f (get_or xs i d) [] in
    let none : sum_by f [] ≡ 0 = refl in
    omega (arith, parts, one, none)

-- the first items have no greater sum than all
pub sum_part : {A : Type 0} (f : A → ℕ) (xs : List A) (i : ℕ) → sum_by f (take i xs) ≤ sum_by f xs
sum_part f xs i =
    let parts = sym (sum_by-append f (take i xs) (drop i xs)) ∙ ap (sum_by f) (take-append-drop i xs) in
    omega (arith, parts)

pub sum_to : {A : Type 0} (f : A → ℕ) (xs : List A) (i : ℕ) (d : A) → i < length xs → sum_by f (take i xs) + f (get_or xs i d) ≤ sum_by f xs
sum_to f xs i d less = let next = sum_next f xs i d less in let part = sum_part f xs (i + 1) in omega (arith, next, part)

pub sum_all : {A : Type 0} (f : A → ℕ) (xs : List A) (i : ℕ) → length xs ≤ i → sum_by f (take i xs) ≡ sum_by f xs
sum_all f xs i past = ap (sum_by f) (take_all i xs past)

-- ---- turns

-- the list in which so many of the first items stand behind the others
abbrev pub turned : {A : Type 0} (i : ℕ) (xs : List A) → List A
turned i xs = drop i xs ++ take i xs

pub turned_first : {A : Type 0} (xs : List A) (i : ℕ) (d : A) → i < length xs → turned i xs ≡ get_or xs i d ∷ (drop (i + 1) xs ++ take i xs)
turned_first xs i d less = ap (λ l. l ++ take i xs) (drop_more xs i d less)

pub turned_more : {A : Type 0} (xs : List A) (i : ℕ) (d : A) → i < length xs → (drop (i + 1) xs ++ take i xs) ++ get_or xs i d ∷ [] ≡ turned (i + 1) xs
turned_more xs i d less =
    append_assoc (drop (i + 1) xs) (take i xs) (get_or xs i d ∷ []) ∙ ap (λ l. drop (i + 1) xs ++ l) (sym (take_more xs i d less))

pub turned_none : {A : Type 0} (xs : List A) → xs ≡ turned 0 xs
turned_none xs = sym (append-nil xs)

pub turned_all : {A : Type 0} (xs : List A) (i : ℕ) → length xs ≤ i → turned i xs ≡ xs
turned_all xs i past = ap (λ l. l ++ take i xs) (drop_all i xs past) ∙ take_all i xs past

-- ---- what was paid

pub credit_first : (todos : List Todo) → credit_in todos ≡ credit_at (first todos)
credit_first [] = refl
credit_first (todo.Step item ∷ more) = refl
credit_first (todo.Silent item ∷ more) = refl

pub timer_credit_first : (todos : List TimerTodo) → timer_credit todos ≡ timer_credit_at (first todos)
timer_credit_first [] = refl
timer_credit_first (timer_todo.Step item ∷ more) = refl
timer_credit_first (timer_todo.Silent item ∷ more) = refl
