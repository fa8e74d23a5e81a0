-- The writers of a trace: the pair of each write is among them, and each of them is that of a task.
use Rattle.std.proofs.Common.{◌≡◌, ℕ, suc, ◌<◌, Bool, true, false, ◌&&◌, ◌||◌, eqb, List, [], ◌∷◌, ◌++◌, length, get_or, All, refl, ◌∙◌, ap, arith, eq-eqb, eqb-true}
use Rattle.std.proofs.lemmas.Bool.{and_parts}
use Rattle.std.proofs.lemmas.List.Elements.{All-nil, All-cons, All-head, All-tail}
use Rattle.wbt_replay_order.proofs.Common.{IsAction, writers_after, is_writer, Action, Write, Rest, Inode}
use Rattle.wbt_trace.specs.Sofar.{inode_at}
use Rattle.wbt_trace.specs.WriterList.{with_writer}
use Rattle.wbt_trace.specs.declared.writers.Writer.{Writer}
use Rattle.wbt_replay_order.proofs.Facts.Lists.{all_push, either}

-- ---- a pair that is a writer has a place

abbrev pub no_writer : Writer
no_writer = record { task = 0; context = 0 }

pub record HasPlace (task context : ℕ) (ws : List Writer) : Type 0 where
  pub place : ℕ
  pub less : place < length ws
  pub task_is : (get_or ws place no_writer).task ≡ task
  pub context_is : (get_or ws place no_writer).context ≡ context

pub has_place : (task context : ℕ) (ws : List Writer) → is_writer task context ws ≡ true → HasPlace task context ws
has_place task context [] is = absurd (cc is)
has_place task context (w ∷ ws) is = by_head (has_place task context ws) (eqb w.task task && eqb w.context context) refl is
  where
    by_head : (is_writer task context ws ≡ true → HasPlace task context ws) → (b : Bool) → (eqb w.task task && eqb w.context context) ≡ b → (b || is_writer task context ws) ≡ true → HasPlace task context (w ∷ ws)
    by_head behind true here found = record {
      place = 0;
      less = omega arith;
      task_is = eqb-true w.task task (and_parts (eqb w.task task) (eqb w.context context) here).0;
      context_is = eqb-true w.context context (and_parts (eqb w.task task) (eqb w.context context) here).1;
    }
    by_head behind false other found =
        let rest = behind found in
        record { place = suc rest.place; less = omega (arith, rest.less); task_is = rest.task_is; context_is = rest.context_is }

-- ---- a writer stays one

still_writer : (task context : ℕ) (ws : List Writer) (w : Writer) → is_writer task context ws ≡ true → is_writer task context (ws ++ w ∷ []) ≡ true
still_writer task context [] w is = absurd (cc is)
still_writer task context (v ∷ ws) w is = by_head (still_writer task context ws w) (eqb v.task task && eqb v.context context) is
  where
    by_head : (is_writer task context ws ≡ true → is_writer task context (ws ++ w ∷ []) ≡ true) → (b : Bool) → (b || is_writer task context ws) ≡ true → (b || is_writer task context (ws ++ w ∷ [])) ≡ true
    by_head behind true found = refl
    by_head behind false found = behind found

stays_with : (task context other at : ℕ) (ws : List Writer) → is_writer task context ws ≡ true → is_writer task context (with_writer other at ws) ≡ true
stays_with task context other at ws is =
    either (λ l. is_writer task context l ≡ true) (is_writer other at ws) ws (ws ++ (record { task = other; context = at }) ∷ [])
    (λ known. is) (λ new. still_writer task context ws (record { task = other; context = at }) is)

last_is_writer : (task context : ℕ) (ws : List Writer) → is_writer task context (ws ++ (record { task = task; context = context }) ∷ []) ≡ true
last_is_writer task context [] =
    let same = eq-eqb task task refl in
    let at = eq-eqb context context refl in
    ap (λ b. (b && eqb context context) || false) same ∙ ap (λ b. b || false) at
last_is_writer task context (v ∷ ws) = by_head (last_is_writer task context ws) (eqb v.task task && eqb v.context context)
  where
    by_head : is_writer task context (ws ++ (record { task = task; context = context }) ∷ []) ≡ true → (b : Bool) → (b || is_writer task context (ws ++ (record { task = task; context = context }) ∷ [])) ≡ true
    by_head behind true = refl
    by_head behind false = behind

puts : (task context : ℕ) (ws : List Writer) → is_writer task context (with_writer task context ws) ≡ true
puts task context ws =
    either (λ l. is_writer task context l ≡ true) (is_writer task context ws) ws (ws ++ (record { task = task; context = context }) ∷ [])
    (λ known. known) (λ new. last_is_writer task context ws)

stays : (task context : ℕ) (ws : List Writer) (inodes : List Inode) (actions : List Action) → is_writer task context ws ≡ true → is_writer task context (writers_after ws inodes actions) ≡ true
stays task context ws inodes [] is = is
stays task context ws inodes (Write other inode from pages ∷ actions) is =
    let at = (inode_at inode inodes).context in
    stays task context (with_writer other at ws) inodes actions (stays_with task context other at ws is)
stays task context ws inodes (Rest other ticks ∷ actions) is = stays task context ws inodes actions is

-- the action's pair is one of the writers
abbrev pub HasWriter : List Writer → List Inode → Action → Type 0
HasWriter ws inodes (Write task inode from pages) = is_writer task (inode_at inode inodes).context ws ≡ true
HasWriter ws inodes (Rest task ticks) = Unit {0}

pub all_stand : (ws : List Writer) (inodes : List Inode) (actions : List Action) → All (HasWriter (writers_after ws inodes actions) inodes) actions
all_stand ws inodes [] = All-nil (HasWriter ws inodes)
all_stand ws inodes (Write task inode from pages ∷ actions) =
    let at = (inode_at inode inodes).context in
    let all = writers_after (with_writer task at ws) inodes actions in
    All-cons (HasWriter all inodes) (Write task inode from pages) actions (stays task at (with_writer task at ws) inodes actions (puts task at ws))
    (all_stand (with_writer task at ws) inodes actions)
all_stand ws inodes (Rest task ticks ∷ actions) =
    All-cons (HasWriter (writers_after ws inodes actions) inodes) (Rest task ticks) actions tt (all_stand ws inodes actions)

-- ---- each writer is one of an action

abbrev pub IsPair : (tasks contexts : ℕ) (w : Writer) → Type 0
IsPair tasks contexts w = (w.task < tasks) × (w.context < contexts)

pub pairs_of_writers : (tasks contexts : ℕ) (ws : List Writer) (inodes : List Inode) (actions : List Action)
    → ((n : ℕ) → n < length inodes → (inode_at n inodes).context < contexts) → All (IsPair tasks contexts) ws
    → All (IsAction tasks inodes) actions → All (IsPair tasks contexts) (writers_after ws inodes actions)
pairs_of_writers tasks contexts ws inodes [] there each all = each
pairs_of_writers tasks contexts ws inodes (Write task inode from pages ∷ actions) there each all =
    let at = (inode_at inode inodes).context in
    let w : Writer = record { task = task; context = at } in
    let this = All-head (IsAction tasks inodes) (Write task inode from pages) actions all in
    let more = either (All (IsPair tasks contexts)) (is_writer task at ws) ws (ws ++ w ∷ []) (λ known. each)
    (λ new. all_push (IsPair tasks contexts) ws w each (this.0, there inode this.1)) in
    pairs_of_writers tasks contexts (with_writer task at ws) inodes actions there more (All-tail (IsAction tasks inodes) (Write task inode from pages) actions all)
pairs_of_writers tasks contexts ws inodes (Rest task ticks ∷ actions) there each all =
    pairs_of_writers tasks contexts ws inodes actions there each (All-tail (IsAction tasks inodes) (Rest task ticks) actions all)
