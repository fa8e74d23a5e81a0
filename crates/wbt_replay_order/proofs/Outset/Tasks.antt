-- The tasks at the opening: what they write is in range, and how long they rest together.
use Rattle.std.proofs.Common.{◌≡◌, ℕ, ◌+◌, ◌*◌, ◌^◌, ◌≤◌, Bool, true, false, cond, eqb, List, [], ◌∷◌, ◌++◌, length, flat_map, sum_by, All, refl, subst, arith, eqb-true}
use Rattle.std.proofs.lemmas.List.Elements.{All-nil, All-cons, All-append, All-head, All-tail}
use Rattle.std.proofs.lemmas.List.Sums.{sum_by-append}
use Rattle.wbt_replay_order.proofs.Common.{total, total_same, total_nothing, IsLawful, IsAction, is_writer, Action, Write, Rest, Trace, inode_of, context_of, ReplayWork, writers_in, work_of, works_of, rest_of, WorkFits, rests_at_end}
use Rattle.wbt_counter.proofs.Sums.{total_sum}
use Rattle.wbt_journal.specs.Machine.{rests_after}
use Rattle.wbt_replay_moves.specs.declared.state.ReplayWork.TheVariants as work
use Rattle.wbt_replay_order.proofs.Facts.Lists.{either}
use Rattle.wbt_replay_order.proofs.Facts.Pairs.{HasWriter, all_stand}
use Rattle.wbt_replay_order.proofs.Outset.Numbered.{one_part_most}

-- ---- what is written is in range

abbrev Fits : (trace : Trace) (a : Action) → Type 0
Fits trace a = IsAction (length trace.tasks) trace.inodes a × HasWriter (writers_in trace) trace.inodes a

work_fits : (trace : Trace) (task : ℕ) (a : Action) → Fits trace a → All (WorkFits trace task) (work_of trace task a)
work_fits trace task (Write writer inode from pages) fits =
    let w : ReplayWork = work.Write inode ((inode_of trace inode).first + from) pages in
    either (All (WorkFits trace task)) (eqb writer task) (w ∷ []) []
    (λ is.
    let same : writer ≡ task = eqb-true writer task is in
    All-cons (WorkFits trace task) w [] (record {
      some = fits.0.2;
      first = record { there = fits.0.1; after_first = omega arith; before_end = omega (arith, fits.0.2, fits.0.3) };
      last = record { there = fits.0.1; after_first = omega arith; before_end = omega (arith, fits.0.2, fits.0.3) };
      writer = subst (λ (n : ℕ). is_writer n (context_of trace inode) (writers_in trace) ≡ true) same fits.1;
    }) (All-nil (WorkFits trace task)))
    (λ other. All-nil (WorkFits trace task))
work_fits trace task (Rest sleeper ticks) fits =
    either (All (WorkFits trace task)) (eqb sleeper task) (work.Rest ticks ∷ []) []
    (λ is. All-cons (WorkFits trace task) (work.Rest ticks) [] (omega (arith, fits.0.1.1)) (All-nil (WorkFits trace task)))
    (λ other. All-nil (WorkFits trace task))

works_fit_of : (trace : Trace) (task : ℕ) (actions : List Action) → All (IsAction (length trace.tasks) trace.inodes) actions
    → All (HasWriter (writers_in trace) trace.inodes) actions → All (WorkFits trace task) (flat_map (work_of trace task) actions)
works_fit_of trace task [] all stand = All-nil (WorkFits trace task)
works_fit_of trace task (a ∷ actions) all stand =
    All-append (WorkFits trace task) (work_of trace task a) (flat_map (work_of trace task) actions)
    (work_fits trace task a (All-head (IsAction (length trace.tasks) trace.inodes) a actions all, All-head (HasWriter (writers_in trace) trace.inodes) a actions stand))
    (works_fit_of trace task actions (All-tail (IsAction (length trace.tasks) trace.inodes) a actions all) (All-tail (HasWriter (writers_in trace) trace.inodes) a actions stand))

pub works_fit : (trace : Trace) → IsLawful trace → (task : ℕ) → All (WorkFits trace task) (works_of trace task trace.actions)
works_fit trace lawful task = works_fit_of trace task trace.actions lawful.within.actions (all_stand [] trace.inodes trace.actions)

-- ---- whether the last is a rest

pub last_is : (trace : Trace) (task : ℕ) (none : Bool) (actions : List Action) → rests_at_end none (flat_map (work_of trace task) actions) ≡ rests_after task none actions
last_is trace task none [] = refl
last_is trace task none (Write writer inode from pages ∷ actions) = by_writer (λ b. last_is trace task b actions) (eqb writer task)
  where
    by_writer : ((b : Bool) → rests_at_end b (flat_map (work_of trace task) actions) ≡ rests_after task b actions) → (own : Bool)
        → rests_at_end none (cond own (work.Write inode ((inode_of trace inode).first + from) pages ∷ []) [] ++ flat_map (work_of trace task) actions) ≡ rests_after task (cond own false none) actions
    by_writer rest true = rest false
    by_writer rest false = rest none
last_is trace task none (Rest sleeper ticks ∷ actions) = by_sleeper (λ b. last_is trace task b actions) (eqb sleeper task)
  where
    by_sleeper : ((b : Bool) → rests_at_end b (flat_map (work_of trace task) actions) ≡ rests_after task b actions) → (own : Bool)
        → rests_at_end none (cond own (work.Rest ticks ∷ []) [] ++ flat_map (work_of trace task) actions) ≡ rests_after task (cond own true none) actions
    by_sleeper rest true = rest true
    by_sleeper rest false = rest none

-- ---- how long all rest

rests_in : (trace : Trace) (a : Action) (task : ℕ) → ℕ
rests_in trace a task = sum_by rest_of (work_of trace task a)

one_rests : (trace : Trace) (n : ℕ) (a : Action) → IsAction (length trace.tasks) trace.inodes a → total n (λ t. sum_by rest_of (work_of trace t a)) ≤ 2 ^ 40
one_rests trace n (Write writer inode from pages) is =
    omega (arith, total_nothing n (λ t. sum_by rest_of (work_of trace t (Write writer inode from pages))) (λ t. by_writer (eqb writer t)))
  where
    by_writer : (b : Bool) → sum_by rest_of (cond b (work.Write inode ((inode_of trace inode).first + from) pages ∷ []) []) ≡ 0
    by_writer true = refl
    by_writer false = refl
one_rests trace n (Rest sleeper ticks) is =
    omega (
      arith,
      total_same n (λ t. sum_by rest_of (work_of trace t (Rest sleeper ticks))) (λ t. cond (eqb sleeper t) ticks 0) (λ t less. by_sleeper (eqb sleeper t)),
      one_part_most n sleeper ticks,
      is.1.1,
    )
  where
    by_sleeper : (b : Bool) → sum_by rest_of (cond b (work.Rest ticks ∷ []) []) ≡ cond b ticks 0
    by_sleeper true = omega arith
    by_sleeper false = refl

rests_of_actions : (trace : Trace) (n : ℕ) (actions : List Action) → All (IsAction (length trace.tasks) trace.inodes) actions
    → total n (λ t. sum_by rest_of (flat_map (work_of trace t) actions)) ≤ length actions * 2 ^ 40
rests_of_actions trace n [] all = omega (arith, total_nothing n (λ t. 0) (λ t. refl))
rests_of_actions trace n (a ∷ actions) all =
    let split = total_same n (λ t. sum_by rest_of (work_of trace t a ++ flat_map (work_of trace t) actions))
    (λ t. sum_by rest_of (work_of trace t a) + sum_by rest_of (flat_map (work_of trace t) actions))
    (λ t less. sum_by-append rest_of (work_of trace t a) (flat_map (work_of trace t) actions)) in
    let both = total_sum n (λ t. sum_by rest_of (work_of trace t a)) (λ t. sum_by rest_of (flat_map (work_of trace t) actions)) in
    let this = one_rests trace n a (All-head (IsAction (length trace.tasks) trace.inodes) a actions all) in
    let rest = rests_of_actions trace n actions (All-tail (IsAction (length trace.tasks) trace.inodes) a actions all) in
    omega (arith, split, both, this, rest)

pub all_rests : (trace : Trace) → IsLawful trace → (n : ℕ) → total n (λ t. sum_by rest_of (works_of trace t trace.actions)) ≤ length trace.actions * 2 ^ 40
all_rests trace lawful n = rests_of_actions trace n trace.actions lawful.within.actions
