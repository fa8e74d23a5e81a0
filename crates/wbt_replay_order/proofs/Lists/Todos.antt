-- Lists of what a CPU has to do: items that neither write, nor mark, nor hand over, come to them or leave them.
use Rattle.std.proofs.Common.{◌≡◌, ℕ, Bool, true, false, ◌||◌, List, [], ◌∷◌, ◌++◌, refl, sym, ◌∙◌, ap, subst}
use Rattle.std.specs.List.{list_any}
use Rattle.wbt_replay_order.proofs.Common.{Trace, Cpu, Whose, Todo, is_mark_of, is_end, is_hand_over, owes_mark, IsStillOpen, AreBefore}
use Rattle.wbt_replay_moves.specs.declared.state.Whose.TheVariants as whose
use Rattle.wbt_replay_moves.specs.declared.todo.Silent.TheVariants as silent
use Rattle.wbt_replay_moves.specs.declared.todo.Step.TheVariants as step
use Rattle.wbt_replay_moves.specs.declared.todo.Todo.TheVariants as todo
use Rattle.wbt_replay_order.specs.Kept.Waiting.{is_calm, MarksBefore, IsBefore}

-- All neither write, nor mark, nor hand over.
abbrev pub AreCalm : List Todo → Type 0
AreCalm [] = Unit {0}
AreCalm (t ∷ ts) = (is_calm t ≡ true) × AreCalm ts

-- ---- one item

calm_mark : (n : ℕ) (t : Todo) → is_calm t ≡ true → is_mark_of n t ≡ false
calm_mark n (todo.Step (step.Mark inode)) e = absurd (cc e)
calm_mark n (todo.Step item) e = refl
calm_mark n (todo.Silent item) e = refl

calm_hand : (t : Todo) → is_calm t ≡ true → is_hand_over t ≡ false
calm_hand (todo.Silent silent.HandOver) e = absurd (cc e)
calm_hand (todo.Silent item) e = refl
calm_hand (todo.Step item) e = refl

calm_before : (trace : Trace) (w : Whose) (t : Todo) (more : List Todo) → is_calm t ≡ true → IsBefore trace w t more
calm_before trace w (todo.Step (step.Mark inode)) more e = absurd (cc e)
calm_before trace w (todo.Step step.Dirty) more e = absurd (cc e)
calm_before trace w (todo.Step item) more e = tt
calm_before trace w (todo.Silent item) more e = tt

-- ---- lists

pub any_left : (p : Todo → Bool) (xs ys : List Todo) → list_any p xs ≡ true → list_any p (xs ++ ys) ≡ true
any_left p [] ys e = absurd (cc e)
any_left p (x ∷ xs) ys e = by_test (p x) (any_left p xs ys) e
  where
    by_test : (b : Bool) → (list_any p xs ≡ true → list_any p (xs ++ ys) ≡ true) → (b || list_any p xs) ≡ true → (b || list_any p (xs ++ ys)) ≡ true
    by_test true later e = refl
    by_test false later e = later e

pub none_both : (p : Todo → Bool) (xs ys : List Todo) → list_any p xs ≡ false → list_any p ys ≡ false → list_any p (xs ++ ys) ≡ false
none_both p [] ys e none = none
none_both p (x ∷ xs) ys e none = by_test (p x) (λ rest. none_both p xs ys rest none) e
  where
    by_test : (b : Bool) → (list_any p xs ≡ false → list_any p (xs ++ ys) ≡ false) → (b || list_any p xs) ≡ false → (b || list_any p (xs ++ ys)) ≡ false
    by_test true later e = absurd (cc e)
    by_test false later e = later e

pub mark_push : (n : ℕ) (xs ys : List Todo) → AreCalm xs → list_any (is_mark_of n) (xs ++ ys) ≡ list_any (is_mark_of n) ys
mark_push n [] ys calm = refl
mark_push n (x ∷ xs) ys calm = ap (λ (b : Bool). b || list_any (is_mark_of n) (xs ++ ys)) (calm_mark n x calm.0) ∙ mark_push n xs ys calm.1

pub hand_push : (xs ys : List Todo) → AreCalm xs → list_any is_hand_over (xs ++ ys) ≡ list_any is_hand_over ys
hand_push [] ys calm = refl
hand_push (x ∷ xs) ys calm = ap (λ (b : Bool). b || list_any is_hand_over (xs ++ ys)) (calm_hand x calm.0) ∙ hand_push xs ys calm.1

pub before_push : (trace : Trace) (w : Whose) (xs ys : List Todo) → AreCalm xs → AreBefore trace w ys → AreBefore trace w (xs ++ ys)
before_push trace w [] ys calm h = h
before_push trace w (x ∷ xs) ys calm h = (calm_before trace w x (xs ++ ys) calm.0, before_push trace w xs ys calm.1 h)

marks_longer : (trace : Trace) (w : Whose) (n : ℕ) (more ys : List Todo) → MarksBefore trace w n more → MarksBefore trace w n (more ++ ys)
marks_longer trace (whose.Task task) n more ys h = any_left is_end more ys h
marks_longer trace (whose.Flusher f) n more ys h = (h.0, any_left is_hand_over more ys h.1)

before_longer : (trace : Trace) (w : Whose) (t : Todo) (more ys : List Todo) → IsBefore trace w t more → IsBefore trace w t (more ++ ys)
before_longer trace w (todo.Step (step.Mark inode)) more ys h = marks_longer trace w inode more ys h
before_longer trace w (todo.Step step.Dirty) more ys h = any_left is_end more ys h
before_longer trace w (todo.Step item) more ys h = tt
before_longer trace w (todo.Silent item) more ys h = tt

pub before_last : (trace : Trace) (w : Whose) (xs ys : List Todo) → AreBefore trace w xs → AreBefore trace w ys → AreBefore trace w (xs ++ ys)
before_last trace w [] ys h k = k
before_last trace w (x ∷ xs) ys h k = (before_longer trace w x xs ys h.0, before_last trace w xs ys h.1 k)

pub calm_all : (trace : Trace) (w : Whose) (xs : List Todo) → AreCalm xs → AreBefore trace w xs
calm_all trace w [] calm = tt
calm_all trace w (x ∷ xs) calm = (calm_before trace w x xs calm.0, calm_all trace w xs calm.1)

pub calm_both : (xs ys : List Todo) → AreCalm xs → AreCalm ys → AreCalm (xs ++ ys)
calm_both [] ys h k = k
calm_both (x ∷ xs) ys h k = (h.0, calm_both xs ys h.1 k)

-- ---- what is the same to whatever waits, where a CPU changes

pub record Alike (trace : Trace) (c d : Cpu) : Type 0 where
  pub owes : (n : ℕ) → owes_mark n c ≡ true → owes_mark n d ≡ true
  pub opens : (g : ℕ) → IsStillOpen g c → IsStillOpen g d
  pub before : AreBefore trace c.turn.whose c.todo → AreBefore trace d.turn.whose d.todo

pub same_alike : (trace : Trace) (c d : Cpu) → d.turn.whose ≡ c.turn.whose → d.todo ≡ c.todo → Alike trace c d
same_alike trace c d whose list = record {
  owes = λ n some. ap (λ (l : List Todo). list_any (is_mark_of n) l) list ∙ some;
  opens = λ g still ours. ap (λ (l : List Todo). list_any is_hand_over l) list ∙ still (sym whose ∙ ours);
  before = λ h. subst (λ (w : Whose). AreBefore trace w d.todo) (sym whose) (subst (AreBefore trace c.turn.whose) (sym list) h);
}

pub push_alike : (trace : Trace) (xs : List Todo) (c d : Cpu) → AreCalm xs → d.turn.whose ≡ c.turn.whose → d.todo ≡ xs ++ c.todo → Alike trace c d
push_alike trace xs c d calm whose list = record {
  owes = λ n some. ap (λ (l : List Todo). list_any (is_mark_of n) l) list ∙ (mark_push n xs c.todo calm ∙ some);
  opens = λ g still ours. ap (λ (l : List Todo). list_any is_hand_over l) list ∙ (hand_push xs c.todo calm ∙ still (sym whose ∙ ours));
  before = λ h. subst (λ (w : Whose). AreBefore trace w d.todo) (sym whose) (subst (AreBefore trace c.turn.whose) (sym list) (before_push trace c.turn.whose xs c.todo calm h));
}

calm_none : (xs : List Todo) → AreCalm xs → list_any is_hand_over xs ≡ false
calm_none [] calm = refl
calm_none (x ∷ xs) calm = ap (λ (b : Bool). b || list_any is_hand_over xs) (calm_hand x calm.0) ∙ calm_none xs calm.1

pub last_alike : (trace : Trace) (xs : List Todo) (c d : Cpu) → AreCalm xs → d.turn.whose ≡ c.turn.whose → d.todo ≡ c.todo ++ xs → Alike trace c d
last_alike trace xs c d calm whose list = record {
  owes = λ n some. ap (λ (l : List Todo). list_any (is_mark_of n) l) list ∙ any_left (is_mark_of n) c.todo xs some;
  opens = λ g still ours. ap (λ (l : List Todo). list_any is_hand_over l) list ∙ none_both is_hand_over c.todo xs (still (sym whose ∙ ours)) (calm_none xs calm);
  before = λ h. subst (λ (w : Whose). AreBefore trace w d.todo) (sym whose)
      (subst (AreBefore trace c.turn.whose) (sym list) (before_last trace c.turn.whose c.todo xs h (calm_all trace c.turn.whose xs calm)));
}

-- the first item leaves, which isn't a mark
pub pop_alike : (trace : Trace) (t : Todo) (rest : List Todo) (c d : Cpu) → ((n : ℕ) → is_mark_of n t ≡ false) → c.todo ≡ t ∷ rest → d.turn.whose ≡ c.turn.whose → d.todo ≡ rest
    → Alike trace c d
pop_alike trace t rest c d none is whose list = record {
  owes = λ n some. ap (λ (l : List Todo). list_any (is_mark_of n) l) list ∙ (sym (ap (λ (l : List Todo). list_any (is_mark_of n) l) is ∙ ap (λ (b : Bool). b || list_any (is_mark_of n) rest) (none n)) ∙ some);
  opens = λ g still ours. ap (λ (l : List Todo). list_any is_hand_over l) list
      ∙ not_first (is_hand_over t) (list_any is_hand_over rest) (sym (ap (λ (l : List Todo). list_any is_hand_over l) is) ∙ still (sym whose ∙ ours));
  before = λ h. subst (λ (w : Whose). AreBefore trace w d.todo) (sym whose) (subst (AreBefore trace c.turn.whose) (sym list) (subst (AreBefore trace c.turn.whose) is h).1);
}
  where
    not_first : (a b : Bool) → (a || b) ≡ false → b ≡ false
    not_first true b e = absurd (cc e)
    not_first false b e = e

-- Another turn begins where nothing is to be done.
pub turn_alike : (trace : Trace) (c d : Cpu) → c.todo ≡ [] → d.todo ≡ [] → Alike trace c d
turn_alike trace c d none list = record {
  owes = λ n some. absurd (cc (sym some ∙ ap (λ (l : List Todo). list_any (is_mark_of n) l) none));
  opens = λ g still ours. ap (λ (l : List Todo). list_any is_hand_over l) list;
  before = λ h. subst (AreBefore trace d.turn.whose) (sym list) tt;
}
