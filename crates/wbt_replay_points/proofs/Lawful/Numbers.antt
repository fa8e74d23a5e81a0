-- The writers of a trace by number: each pair of a task and a context has its own, and what a task's writers come to together.
use Rattle.std.proofs.Common.{◌≡◌, ◌≢◌, ℕ, zero, suc, ◌+◌, ◌<◌, ◌≤◌, Bool, true, false, ◌||◌, ◌&&◌, cond, eqb, List, [], ◌∷◌, ◌++◌, length, get_or, All, refl, sym, ◌∙◌, ap, subst, arith, eq-eqb, ne_eqb, eqb-true, true≢false}
use Rattle.std.specs.List.{list_any, sum_by}
use Rattle.std.proofs.lemmas.Bool.{cond-true, cond-false, or_left, or_right}
use Rattle.std.proofs.lemmas.List.Elements.{All-nil, All-cons}
use Rattle.std.proofs.lemmas.List.Folds.{list_any-append}
use Rattle.std.proofs.lemmas.List.Sums.{sum_by-append, sum_by-cons}
use Rattle.wbt_task.specs.Counts.{AreApart}
use Rattle.wbt_replay_order.proofs.Common.{is_writer}
use Rattle.wbt_trace.specs.WriterList.{writers_of_task, writers_from}
use Rattle.wbt_trace.specs.declared.writers.Writer.{Writer as Name}
use Rattle.wbt_journal.specs.Side.{number_from, numbers_from}
use Rattle.wbt_replay_order.proofs.Facts.Lists.{either}

abbrev pub pair : (task context : ℕ) → Name
pair task context = record { task = task; context = context }

abbrev pub no_name : Name
no_name = pair 0 0

abbrev pub is_pair : (task context : ℕ) (w : Name) → Bool
is_pair task context w = eqb w.task task && eqb w.context context

-- ---- pairs

and_is : (a b : Bool) → a ≡ true → b ≡ true → (a && b) ≡ true
and_is a b p q = ap (λ (c : Bool). c && b) p ∙ q

left_is : (a b : Bool) → (a && b) ≡ true → a ≡ true
left_is true b is = refl
left_is false b is = absurd (true≢false (sym is))

right_is : (a b : Bool) → (a && b) ≡ true → b ≡ true
right_is true b is = is
right_is false b is = absurd (true≢false (sym is))

not_left : (a b : Bool) → a ≡ false → (a && b) ≡ false
not_left a b is = ap (λ (c : Bool). c && b) is

not_right : (a b : Bool) → b ≡ false → (a && b) ≡ false
not_right true b is = is
not_right false b is = refl

neither : (a b : Bool) → a ≡ false → b ≡ false → (a || b) ≡ false
neither a b p q = ap (λ (c : Bool). c || b) p ∙ q

pub its_pair : (task context : ℕ) (w : Name) → is_pair task context w ≡ true → w ≡ pair task context
its_pair task context w is = λ i. pair (eqb-true w.task task (left_is (eqb w.task task) (eqb w.context context) is) i) (eqb-true w.context context (right_is (eqb w.task task) (eqb w.context context) is) i)

pair_is : (task context : ℕ) → is_pair task context (pair task context) ≡ true
pair_is task context = and_is (eqb task task) (eqb context context) (eq-eqb task task refl) (eq-eqb context context refl)

apart_pair : (a b t c : ℕ) → is_pair a b (pair t c) ≡ false → pair t c ≢ pair a b
apart_pair a b t c none same = true≢false (sym (ap (is_pair a b) same ∙ pair_is a b) ∙ none)

-- ---- the number of a pair

-- a writer's number is its place
pub record HasNumber (task context k : ℕ) (ws : List Name) : Type 0 where
  pub place : ℕ
  pub number : number_from task context k ws ≡ k + place
  pub there : place < length ws
  pub name : get_or ws place no_name ≡ pair task context

pub has_number : (task context k : ℕ) (ws : List Name) → is_writer task context ws ≡ true → HasNumber task context k ws
has_number task context k [] is = absurd (true≢false (sym is))
has_number task context k (w ∷ ws) is = by_head (has_number task context (k + 1) ws) (is_pair task context w) refl
  where
    by_head : (is_writer task context ws ≡ true → HasNumber task context (k + 1) ws) → (b : Bool) → is_pair task context w ≡ b → HasNumber task context k (w ∷ ws)
    by_head later true here = record {
      place = 0;
      number = cond-true (is_pair task context w) k (number_from task context (k + 1) ws) here ∙ (let e : k ≡ k + 0 = omega arith in e);
      there = omega arith;
      name = its_pair task context w here;
    }
    by_head later false other =
        let rest = later (sym (ap (λ (c : Bool). c || is_writer task context ws) other) ∙ is) in
        record {
          place = suc rest.place;
          number = cond-false (is_pair task context w) k (number_from task context (k + 1) ws) other ∙ (let at = rest.number in omega (arith, at));
          there = (let low = rest.there in omega (arith, low));
          name = rest.name;
        }

-- none stands twice
abbrev pub StandOnce : (ws : List Name) → Type 0
StandOnce [] = Unit {0}
StandOnce (w ∷ ws) = (is_writer w.task w.context ws ≡ false) × StandOnce ws

pub at_place : (ws : List Name) (n : ℕ) → n < length ws → is_writer (get_or ws n no_name).task (get_or ws n no_name).context ws ≡ true
at_place [] n less = absurd (omega (arith, less))
at_place (w ∷ ws) zero less = or_left (is_pair w.task w.context w) (is_writer w.task w.context ws) (pair_is w.task w.context)
at_place (w ∷ ws) (suc n) less =
    let x : Name = get_or ws n no_name in
    or_right (is_pair x.task x.context w) (is_writer x.task x.context ws) (at_place ws n (omega (arith, less)))

-- and a place's number is the place
pub number_back : (k : ℕ) (ws : List Name) → StandOnce ws → (n : ℕ) → n < length ws → number_from (get_or ws n no_name).task (get_or ws n no_name).context k ws ≡ k + n
number_back k [] once n less = absurd (omega (arith, less))
number_back k (w ∷ ws) once zero less =
    cond-true (is_pair w.task w.context w) k (number_from w.task w.context (k + 1) ws) (pair_is w.task w.context) ∙ (let e : k ≡ k + 0 = omega arith in e)
number_back k (w ∷ ws) once (suc n) less =
    let x : Name = get_or ws n no_name in
    let low : n < length ws = omega (arith, less) in
    let rest = number_back (k + 1) ws once.1 n low in
    cond-false (is_pair x.task x.context w) k (number_from x.task x.context (k + 1) ws) (by_head (is_pair x.task x.context w) refl)
    ∙ omega (arith, rest)
  where
    by_head : (b : Bool) → is_pair (get_or ws n no_name).task (get_or ws n no_name).context w ≡ b → is_pair (get_or ws n no_name).task (get_or ws n no_name).context w ≡ false
    by_head false other = other
    by_head true here =
        let same : w ≡ get_or ws n no_name = its_pair (get_or ws n no_name).task (get_or ws n no_name).context w here in
        absurd (true≢false (sym (ap (λ (x : Name). is_writer x.task x.context ws) same ∙ at_place ws n (omega (arith, less))) ∙ once.0))

-- ---- the writers in order

module _ (all : List Name) where
  past_context : (a b t c n : ℕ) → b < c → is_writer a b (writers_of_task t c n all) ≡ false
  past_context a b t c zero low = refl
  past_context a b t c (suc n) low = either (λ (ws : List Name). is_writer a b ws ≡ false) (is_writer t c all) _ _
      (λ is. neither (is_pair a b (pair t c)) (is_writer a b (writers_of_task t (suc c) n all)) (not_right (eqb t a) (eqb c b) (ne_eqb c b (λ e. omega (arith, e, low)))) (past_context a b t (suc c) n (omega (arith, low))))
      (λ not_one. past_context a b t (suc c) n (omega (arith, low)))

  other_task : (a b t c n : ℕ) → t ≢ a → is_writer a b (writers_of_task t c n all) ≡ false
  other_task a b t c zero other = refl
  other_task a b t c (suc n) other = either (λ (ws : List Name). is_writer a b ws ≡ false) (is_writer t c all) _ _
      (λ is. neither (is_pair a b (pair t c)) (is_writer a b (writers_of_task t (suc c) n all)) (not_left (eqb t a) (eqb c b) (ne_eqb t a other)) (other_task a b t (suc c) n other))
      (λ not_one. other_task a b t (suc c) n other)

  past_task : (a b t m contexts : ℕ) → a < t → is_writer a b (writers_from t m contexts all) ≡ false
  past_task a b t zero contexts low = refl
  past_task a b t (suc m) contexts low =
      list_any-append (is_pair a b) (writers_of_task t 0 contexts all) (writers_from (suc t) m contexts all)
      ∙ neither (is_writer a b (writers_of_task t 0 contexts all)) (is_writer a b (writers_from (suc t) m contexts all)) (other_task a b t 0 contexts (λ e. omega (arith, e, low))) (past_task a b (suc t) m contexts (omega (arith, low)))

  once_before : (t c n : ℕ) (rest : List Name) → ((b : ℕ) → is_writer t b rest ≡ false) → StandOnce rest → StandOnce (writers_of_task t c n all ++ rest)
  once_before t c zero rest none once = once
  once_before t c (suc n) rest none once = either (λ (ws : List Name). StandOnce (ws ++ rest)) (is_writer t c all) _ _
      (λ is. (
        list_any-append (is_pair t c) (writers_of_task t (suc c) n all) rest
            ∙ neither (is_writer t c (writers_of_task t (suc c) n all)) (is_writer t c rest) (past_context t c t (suc c) n (omega arith)) (none c),
        once_before t (suc c) n rest none once,
      ))
      (λ not_one. once_before t (suc c) n rest none once)

  pub stand_once : (t m contexts : ℕ) → StandOnce (writers_from t m contexts all)
  stand_once t zero contexts = tt
  stand_once t (suc m) contexts = once_before t 0 contexts (writers_from (suc t) m contexts all) (λ b. past_task t b (suc t) m contexts (omega arith)) (stand_once (suc t) m contexts)

  -- ---- who is there

  its_there : (t c k n : ℕ) → is_writer t c all ≡ true → k ≤ c → c < k + n → is_writer t c (writers_of_task t k n all) ≡ true
  its_there t c k zero is low high = absurd (omega (arith, low, high))
  its_there t c k (suc n) is low high = either (λ (ws : List Name). is_writer t c ws ≡ true) (is_writer t k all) _ _
      (λ here. by_place (λ after. its_there t c (suc k) n is after (omega (arith, high))) (eqb k c) refl)
      (λ not_one. its_there t c (suc k) n is (later not_one) (omega (arith, high)))
    where
      later : is_writer t k all ≡ false → suc k ≤ c
      later none = by_same (eqb k c) refl
        where
          by_same : (b : Bool) → eqb k c ≡ b → suc k ≤ c
          by_same true same = absurd (true≢false (sym (ap (λ (x : ℕ). is_writer t x all) (eqb-true k c same) ∙ is) ∙ none))
          by_same false other = (let apart : k ≢ c = λ e. true≢false (sym (eq-eqb k c e) ∙ other) in omega (arith, low, apart))

      by_place : (suc k ≤ c → is_writer t c (writers_of_task t (suc k) n all) ≡ true) → (b : Bool) → eqb k c ≡ b → is_writer t c (pair t k ∷ writers_of_task t (suc k) n all) ≡ true
      by_place rest true same = or_left (is_pair t c (pair t k)) (is_writer t c (writers_of_task t (suc k) n all)) (and_is (eqb t t) (eqb k c) (eq-eqb t t refl) same)
      by_place rest false other = or_right (is_pair t c (pair t k)) (is_writer t c (writers_of_task t (suc k) n all))
          (rest (let apart : k ≢ c = λ e. true≢false (sym (eq-eqb k c e) ∙ other) in omega (arith, low, apart)))

  pub is_there : (t c k m contexts : ℕ) → is_writer t c all ≡ true → k ≤ t → t < k + m → c < contexts → is_writer t c (writers_from k m contexts all) ≡ true
  is_there t c k zero contexts is low high inside = absurd (omega (arith, low, high))
  is_there t c k (suc m) contexts is low high inside =
      list_any-append (is_pair t c) (writers_of_task k 0 contexts all) (writers_from (suc k) m contexts all) ∙ by_task (λ after. is_there t c (suc k) m contexts is after (omega (arith, high)) inside) (eqb k t) refl
    where
      by_task : (suc k ≤ t → is_writer t c (writers_from (suc k) m contexts all) ≡ true) → (b : Bool) → eqb k t ≡ b → (is_writer t c (writers_of_task k 0 contexts all) || is_writer t c (writers_from (suc k) m contexts all)) ≡ true
      by_task rest true same = or_left _ (is_writer t c (writers_from (suc k) m contexts all))
          (subst (λ (n : ℕ). is_writer t c (writers_of_task n 0 contexts all) ≡ true) (sym (eqb-true k t same)) (its_there t c 0 contexts is (omega arith) (omega (arith, inside))))
      by_task rest false other = or_right (is_writer t c (writers_of_task k 0 contexts all)) _
          (rest (let apart : k ≢ t = λ e. true≢false (sym (eq-eqb k t e) ∙ other) in omega (arith, low, apart)))

  pub record IsNamed (t c tasks contexts : ℕ) : Type 0 where
    pub task : t < tasks
    pub context : c < contexts
    pub writer : is_writer t c all ≡ true

  its_back : (a b t k n : ℕ) → is_writer a b (writers_of_task t k n all) ≡ true → (a ≡ t) × (b < k + n) × (is_writer a b all ≡ true)
  its_back a b t k zero is = absurd (true≢false (sym is))
  its_back a b t k (suc n) is = by_first (is_writer t k all) refl (its_back a b t (suc k) n)
    where
      Found : Type 0
      Found = (a ≡ t) × (b < k + suc n) × (is_writer a b all ≡ true)

      more : (a ≡ t) × (b < suc k + n) × (is_writer a b all ≡ true) → Found
      more found = (found.0, omega (arith, found.1), found.2)

      by_pair : is_writer t k all ≡ true → (is_writer a b (writers_of_task t (suc k) n all) ≡ true → (a ≡ t) × (b < suc k + n) × (is_writer a b all ≡ true)) → (c : Bool) → is_pair a b (pair t k) ≡ c
          → (c || is_writer a b (writers_of_task t (suc k) n all)) ≡ true → Found
      by_pair here rest true same found =
          let task : t ≡ a = eqb-true t a (left_is (eqb t a) (eqb k b) same) in
          let context : k ≡ b = eqb-true k b (right_is (eqb t a) (eqb k b) same) in
          (sym task, omega (arith, context), ap (λ (x : ℕ). is_writer x b all) (sym task) ∙ ap (λ (x : ℕ). is_writer t x all) (sym context) ∙ here)
      by_pair here rest false other found = more (rest found)

      by_first : (c : Bool) → is_writer t k all ≡ c → (is_writer a b (writers_of_task t (suc k) n all) ≡ true → (a ≡ t) × (b < suc k + n) × (is_writer a b all ≡ true)) → Found
      by_first true here rest =
          by_pair here rest (is_pair a b (pair t k)) refl
          (sym (ap (is_writer a b) (cond-true (is_writer t k all) (pair t k ∷ writers_of_task t (suc k) n all) (writers_of_task t (suc k) n all) here)) ∙ is)
      by_first false none rest =
          more (rest (sym (ap (is_writer a b) (cond-false (is_writer t k all) (pair t k ∷ writers_of_task t (suc k) n all) (writers_of_task t (suc k) n all) none)) ∙ is))

  pub named_back : (a b k m contexts : ℕ) → is_writer a b (writers_from k m contexts all) ≡ true → IsNamed a b (k + m) contexts
  named_back a b k zero contexts is = absurd (true≢false (sym is))
  named_back a b k (suc m) contexts is =
      by_part (named_back a b (suc k) m contexts) (is_writer a b (writers_of_task k 0 contexts all)) refl (sym (list_any-append (is_pair a b) (writers_of_task k 0 contexts all) (writers_from (suc k) m contexts all)) ∙ is)
    where
      by_part : (is_writer a b (writers_from (suc k) m contexts all) ≡ true → IsNamed a b (suc k + m) contexts) → (c : Bool) → is_writer a b (writers_of_task k 0 contexts all) ≡ c → (c || is_writer a b (writers_from (suc k) m contexts all)) ≡ true → IsNamed a b (k + suc m) contexts
      by_part rest true here found = let back = its_back a b k 0 contexts here in record { task = omega (arith, back.0); context = omega (arith, back.1); writer = back.2 }
      by_part rest false other found = let back = rest found in record { task = omega (arith, back.task); context = back.context; writer = back.writer }

-- ---- the numbers of a task

numbers_low : (t k low : ℕ) (ws : List Name) → low < k → All (λ other. other ≢ low) (numbers_from t k ws)
numbers_low t k low [] less = All-nil (λ other. other ≢ low)
numbers_low t k low (w ∷ ws) less = either (All (λ other. other ≢ low)) (eqb w.task t) _ _
    (λ its. All-cons (λ other. other ≢ low) k (numbers_from t (k + 1) ws) (λ e. omega (arith, e, less)) (numbers_low t (k + 1) low ws (omega (arith, less))))
    (λ other. numbers_low t (k + 1) low ws (omega (arith, less)))

pub numbers_apart : (t k : ℕ) (ws : List Name) → AreApart (numbers_from t k ws)
unfolding AreApart
numbers_apart t k [] = tt
numbers_apart t k (w ∷ ws) = either AreApart (eqb w.task t) _ _
    (λ its. (numbers_low t (k + 1) k ws (omega arith), numbers_apart t (k + 1) ws))
    (λ other. numbers_apart t (k + 1) ws)

-- whether a number is one of the task's
pub number_is_its : (t k : ℕ) (ws : List Name) (n : ℕ) → n < length ws → list_any (λ m. eqb m (k + n)) (numbers_from t k ws) ≡ eqb (get_or ws n no_name).task t
number_is_its t k [] n less = absurd (omega (arith, less))
number_is_its t k (w ∷ ws) zero less = by_task (eqb w.task t) refl
  where
    none_low : (j : ℕ) (vs : List Name) → k + 0 < j → list_any (λ m. eqb m (k + 0)) (numbers_from t j vs) ≡ false
    none_low j [] low = refl
    none_low j (v ∷ vs) low = either (λ (l : List ℕ). list_any (λ m. eqb m (k + 0)) l ≡ false) (eqb v.task t) _ _
        (λ its. neither (eqb j (k + 0)) _ (ne_eqb j (k + 0) (λ e. omega (arith, e, low))) (none_low (j + 1) vs (omega (arith, low))))
        (λ other. none_low (j + 1) vs (omega (arith, low)))

    by_task : (b : Bool) → eqb w.task t ≡ b → list_any (λ m. eqb m (k + 0)) (numbers_from t k (w ∷ ws)) ≡ eqb w.task t
    by_task true its =
        ap (list_any (λ m. eqb m (k + 0))) (cond-true (eqb w.task t) (k ∷ numbers_from t (k + 1) ws) (numbers_from t (k + 1) ws) its)
        ∙ or_left (eqb k (k + 0)) _ (eq-eqb k (k + 0) (omega arith)) ∙ sym its
    by_task false other =
        ap (list_any (λ m. eqb m (k + 0))) (cond-false (eqb w.task t) (k ∷ numbers_from t (k + 1) ws) (numbers_from t (k + 1) ws) other)
        ∙ none_low (k + 1) ws (omega arith) ∙ sym other
number_is_its t k (w ∷ ws) (suc n) less =
    either (λ (l : List ℕ). list_any (λ m. eqb m (k + suc n)) l ≡ eqb (get_or ws n no_name).task t) (eqb w.task t) _ _
    (λ its. ap (λ (b : Bool). b || list_any (λ m. eqb m (k + suc n)) (numbers_from t (k + 1) ws)) (ne_eqb k (k + suc n) (λ e. omega (arith, e))) ∙ rest (number_is_its t (k + 1) ws n (omega (arith, less))))
    (λ other. rest (number_is_its t (k + 1) ws n (omega (arith, less))))
  where
    rest : list_any (λ m. eqb m (k + 1 + n)) (numbers_from t (k + 1) ws) ≡ eqb (get_or ws n no_name).task t → list_any (λ m. eqb m (k + suc n)) (numbers_from t (k + 1) ws) ≡ eqb (get_or ws n no_name).task t
    rest is = subst (λ (x : ℕ). list_any (λ m. eqb m x) (numbers_from t (k + 1) ws) ≡ eqb (get_or ws n no_name).task t) (let e : k + 1 + n ≡ k + suc n = omega arith in e) is

-- ---- what a task's writers come to

abbrev pub of_task : (t : ℕ) (G : Name → ℕ) (w : Name) → ℕ
of_task t G w = cond (eqb w.task t) (G w) 0

pub sum_numbers : (F : ℕ → ℕ) (G : Name → ℕ) (t k : ℕ) (ws : List Name) → ((n : ℕ) → n < length ws → (get_or ws n no_name).task ≡ t → F (k + n) ≡ G (get_or ws n no_name))
    → sum_by F (numbers_from t k ws) ≡ sum_by (of_task t G) ws
sum_numbers F G t k [] same = refl
sum_numbers F G t k (w ∷ ws) same =
    by_task (sum_numbers F G t (k + 1) ws (λ n less its. ap F (let e : k + 1 + n ≡ k + suc n = omega arith in e) ∙ same (suc n) (omega (arith, less)) its)) (eqb w.task t) refl
  where
    by_task : sum_by F (numbers_from t (k + 1) ws) ≡ sum_by (of_task t G) ws → (b : Bool) → eqb w.task t ≡ b → sum_by F (numbers_from t k (w ∷ ws)) ≡ sum_by (of_task t G) (w ∷ ws)
    by_task rest true its =
        let first : F k ≡ G w = ap F (let e : k ≡ k + 0 = omega arith in e) ∙ same 0 (omega arith) (eqb-true w.task t its) in
        let whole : of_task t G w ≡ G w = cond-true (eqb w.task t) (G w) 0 its in
        let list = ap (sum_by F) (cond-true (eqb w.task t) (k ∷ numbers_from t (k + 1) ws) (numbers_from t (k + 1) ws) its) in
        let left = sum_by-cons F k (numbers_from t (k + 1) ws) in
        let right = sum_by-cons (of_task t G) w ws in
        omega (arith, first, whole, list, left, right, rest)
    by_task rest false other =
        let whole : of_task t G w ≡ 0 = cond-false (eqb w.task t) (G w) 0 other in
        let list = ap (sum_by F) (cond-false (eqb w.task t) (k ∷ numbers_from t (k + 1) ws) (numbers_from t (k + 1) ws) other) in
        let right = sum_by-cons (of_task t G) w ws in
        omega (arith, whole, list, right, rest)

-- the sum of so many numbers, from one on
abbrev pub sum_from : (D : ℕ → ℕ) (k n : ℕ) → ℕ
sum_from D k zero = 0
sum_from D k (suc n) = D k + sum_from D (suc k) n

module _ (all : List Name) (t : ℕ) (G : Name → ℕ) where
  none_of : (a c n : ℕ) → a ≢ t → sum_by (of_task t G) (writers_of_task a c n all) ≡ 0
  none_of a c zero other = refl
  none_of a c (suc n) other = either (λ (ws : List Name). sum_by (of_task t G) ws ≡ 0) (is_writer a c all) _ _
      (λ is.
      let first : of_task t G (pair a c) ≡ 0 = cond-false (eqb a t) (G (pair a c)) 0 (ne_eqb a t other) in
      let sum = sum_by-cons (of_task t G) (pair a c) (writers_of_task a (suc c) n all) in
      let rest = none_of a (suc c) n other in omega (arith, first, sum, rest))
      (λ not_one. none_of a (suc c) n other)

  none_later : (a m contexts : ℕ) → t < a → sum_by (of_task t G) (writers_from a m contexts all) ≡ 0
  none_later a zero contexts low = refl
  none_later a (suc m) contexts low =
      let sum = sum_by-append (of_task t G) (writers_of_task a 0 contexts all) (writers_from (suc a) m contexts all) in
      let first = none_of a 0 contexts (λ e. omega (arith, e, low)) in
      let rest = none_later (suc a) m contexts (omega (arith, low)) in
      omega (arith, sum, first, rest)

  module _ (D : ℕ → ℕ) (writers : (c : ℕ) → is_writer t c all ≡ true → G (pair t c) ≡ D c) (others : (c : ℕ) → is_writer t c all ≡ false → D c ≡ 0) where
    all_of : (c n : ℕ) → sum_by (of_task t G) (writers_of_task t c n all) ≡ sum_from D c n
    all_of c zero = refl
    all_of c (suc n) = either (λ (ws : List Name). sum_by (of_task t G) ws ≡ D c + sum_from D (suc c) n) (is_writer t c all) _ _
        (λ is.
        let first : of_task t G (pair t c) ≡ G (pair t c) = cond-true (eqb t t) (G (pair t c)) 0 (eq-eqb t t refl) in
        let sum = sum_by-cons (of_task t G) (pair t c) (writers_of_task t (suc c) n all) in
        let rest = all_of (suc c) n in
        let own = writers c is in omega (arith, first, sum, rest, own))
        (λ not_one. let rest = all_of (suc c) n in let own = others c not_one in omega (arith, rest, own))

    pub sum_of_task : (k m contexts : ℕ) → k ≤ t → t < k + m → sum_by (of_task t G) (writers_from k m contexts all) ≡ sum_from D 0 contexts
    sum_of_task k zero contexts low high = absurd (omega (arith, low, high))
    sum_of_task k (suc m) contexts low high = by_task (λ after. sum_of_task (suc k) m contexts after (omega (arith, high))) (eqb k t) refl
      where
        sum : sum_by (of_task t G) (writers_from k (suc m) contexts all) ≡ sum_by (of_task t G) (writers_of_task k 0 contexts all) + sum_by (of_task t G) (writers_from (suc k) m contexts all)
        sum = sum_by-append (of_task t G) (writers_of_task k 0 contexts all) (writers_from (suc k) m contexts all)

        by_task : (suc k ≤ t → sum_by (of_task t G) (writers_from (suc k) m contexts all) ≡ sum_from D 0 contexts) → (b : Bool) → eqb k t ≡ b
            → sum_by (of_task t G) (writers_from k (suc m) contexts all) ≡ sum_from D 0 contexts
        by_task later true same =
            let at : k ≡ t = eqb-true k t same in
            let first : sum_by (of_task t G) (writers_of_task k 0 contexts all) ≡ sum_from D 0 contexts = ap (λ (x : ℕ). sum_by (of_task t G) (writers_of_task x 0 contexts all)) at ∙ all_of 0 contexts in
            let rest = none_later (suc k) m contexts (omega (arith, at)) in
            omega (arith, sum, first, rest)
        by_task later false other =
            let apart : k ≢ t = λ e. true≢false (sym (eq-eqb k t e) ∙ other) in
            let first = none_of k 0 contexts apart in
            let rest = later (omega (arith, low, apart)) in
            omega (arith, sum, first, rest)

-- the sum over a list, by places
pub sum_places : {A : Type 0} (f : A → ℕ) (d : A) (xs : List A) → sum_by f xs ≡ sum_from (λ n. f (get_or xs n d)) 0 (length xs)
sum_places {A} f d [] = refl
sum_places {A} f d (x ∷ xs) =
    let sum = sum_by-cons f x xs in
    let rest = sum_places f d xs in
    let moved = shifted (λ n. f (get_or (x ∷ xs) n d)) 0 (length xs) in
    omega (arith, sum, rest, moved)
  where
    shifted : (D : ℕ → ℕ) (k n : ℕ) → sum_from (λ m. D (suc m)) k n ≡ sum_from D (suc k) n
    shifted D k zero = refl
    shifted D k (suc n) = ap (λ (r : ℕ). D (suc k) + r) (shifted D (suc k) n)
