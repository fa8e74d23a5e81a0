-- The search for the next turn goes on.
use Rattle.std.proofs.Common.{◌≡◌, ℕ, ◌+◌, ◌<◌, ◌≤◌, inl, inr, Bool, true, false, ◌&&◌, cond, nat_le, min, Option, Some, None, length, refl, sym, ap, ◌∙◌, subst, arith, true≢false}
use Rattle.std.proofs.lemmas.Bool.{cases_Bool, leb-true, leb-false}
use Rattle.wbt_writer.proofs.Common.{AllEnded, task_at}
use Rattle.wbt_writer.specs.Choice.{AllRest, HasLeast, IsChosen, IsFirst, IsLeast, IsOpen, end_of, is_open, sooner_of}
use Rattle.wbt_writer.specs.declared.choose.Chosen.TheVariants as chosen
use Rattle.wbt_writer.specs.declared.task.TaskPlace.{TaskPlace}
use Rattle.wbt_writer.specs.declared.tasks.Tasks.{Tasks}

-- two ranges, one after the other
pub all_rest_both : (s : Tasks) (now a b d : ℕ) → AllRest s now a b → AllRest s now b d → AllRest s now a d
all_rest_both s now a b d p q task from to is = elim (cases_Bool (nat_le b task)) [
  | inl behind ↦ q task (leb-true _ _ behind) to is
  | inr before ↦ p task from (let less = leb-false _ _ before in omega arith) is
]

ended_both : (s : Tasks) (a b d : ℕ) → AllEnded s a b → AllEnded s b d → AllEnded s a d
ended_both s a b d p q task from to = elim (cases_Bool (nat_le b task)) [
  | inl behind ↦ q task (leb-true _ _ behind) to
  | inr before ↦ p task from (let less = leb-false _ _ before in omega arith)
]

least_before : (s : Tasks) (a b d until : ℕ) → b ≤ d → IsLeast s a b until → AllEnded s b d → IsLeast s a d until
least_before s a b d until wide least ended = record {
  task = least.task;
  inside = (least.inside.0, let less = least.inside.1 in omega arith);
  open_still = least.open_still;
  ends = least.ends;
  at_most = λ other from to is. elim (cases_Bool (nat_le b other)) [
    | inl behind ↦ absurd (true≢false (sym is ∙ ended other (leb-true _ _ behind) to))
    | inr before ↦ least.at_most other from (let less = leb-false _ _ before in omega arith) is
  ];
}

least_behind : (s : Tasks) (a b d until : ℕ) → a ≤ b → AllEnded s a b → IsLeast s b d until → IsLeast s a d until
least_behind s a b d until wide ended least = record {
  task = least.task;
  inside = ((let more = least.inside.0 in omega arith), least.inside.1);
  open_still = least.open_still;
  ends = least.ends;
  at_most = λ other from to is. elim (cases_Bool (nat_le b other)) [
    | inl behind ↦ least.at_most other (leb-true _ _ behind) to is
    | inr before ↦ absurd (true≢false (sym is ∙ ended other from (let less = leb-false _ _ before in omega arith)))
  ];
}

least_both : (s : Tasks) (a b d one other : ℕ) → a ≤ b → b ≤ d → IsLeast s a b one → IsLeast s b d other → IsLeast s a d (min one other)
least_both s a b d one other front back p q = elim (cases_Bool (nat_le one other)) [
  | inl first ↦ let le = leb-true _ _ first in subst (IsLeast s a d) (let e : one ≡ min one other = omega arith in e) (record {
    task = p.task;
    inside = (p.inside.0, let less = p.inside.1 in omega arith);
    open_still = p.open_still;
    ends = p.ends;
    at_most = λ k from to is. elim (cases_Bool (nat_le b k)) [
      | inl behind ↦ (let more = q.at_most k (leb-true _ _ behind) to is in omega arith)
      | inr before ↦ p.at_most k from (let less = leb-false _ _ before in omega arith) is
    ];
  })
  | inr second ↦ let lt = leb-false _ _ second in subst (IsLeast s a d) (let e : other ≡ min one other = omega arith in e) (record {
    task = q.task;
    inside = ((let more = q.inside.0 in omega arith), q.inside.1);
    open_still = q.open_still;
    ends = q.ends;
    at_most = λ k from to is. elim (cases_Bool (nat_le b k)) [
      | inl behind ↦ q.at_most k (leb-true _ _ behind) to is
      | inr before ↦ (let more = p.at_most k from (let less = leb-false _ _ before in omega arith) is in omega arith)
    ];
  })
]

pub has_both : (s : Tasks) (a b d : ℕ) (one other : Option ℕ) → a ≤ b → b ≤ d → HasLeast s a b one → HasLeast s b d other → HasLeast s a d (sooner_of one other)
has_both s a b d None None front back p q = ended_both s a b d p q
has_both s a b d None (Some until) front back p q = least_behind s a b d until front p q
has_both s a b d (Some until) None front back p q = least_before s a b d until back p q
has_both s a b d (Some one) (Some other) front back p q = least_both s a b d one other front back p q

-- one task that isn't ready
module _ (s : Tasks) (now at : ℕ) (waits : (is_open (task_at s at) && nat_le (task_at s at).rest now) ≡ false) where
  only : (k : ℕ) → at ≤ k → k < at + 1 → k ≡ at
  only k from to = omega arith

  pub one_rests : AllRest s now at (at + 1)
  one_rests k from to is = subst (λ j. now < (task_at s j).rest) (sym (only k from to)) (later (subst (λ j. IsOpen (task_at s j)) (only k from to) is))
    where
      later : IsOpen (task_at s at) → now < (task_at s at).rest
      later is_so = let e = sym (ap (λ b. b && nat_le (task_at s at).rest now) is_so) ∙ waits in leb-false _ _ e

  pub one_ends : HasLeast s at (at + 1) (end_of (task_at s at))
  one_ends = by_open (is_open (task_at s at)) refl
    where
      by_open : (b : Bool) → is_open (task_at s at) ≡ b → HasLeast s at (at + 1) (cond b (Some (task_at s at).rest) None)
      by_open true is = record {
        task = at;
        inside = (omega arith, omega arith);
        open_still = is;
        ends = refl;
        at_most = λ k from to so. subst (λ j. (task_at s at).rest ≤ (task_at s j).rest) (sym (only k from to)) (omega arith);
      }
      by_open false is = λ k from to. subst (λ j. is_open (task_at s j) ≡ false) (sym (only k from to)) is

-- ---- one task that is ready

left_of : (a b : Bool) → (a && b) ≡ true → a ≡ true
left_of true b is = refl
left_of false b is = is

right_of : (a b : Bool) → (a && b) ≡ true → b ≡ true
right_of true b is = is
right_of false b is = absurd (true≢false (sym is))

pub is_first : (s : Tasks) (now from to at : ℕ) (x : TaskPlace) → from ≤ at → at < to → AllRest s now from at → x ≡ task_at s at → (is_open x && nat_le x.rest now) ≡ true → IsFirst s now from to at
is_first s now from to at x inside below before same ready = record {
  inside = (inside, below);
  before = before;
  open_still = subst IsOpen same (left_of (is_open x) (nat_le x.rest now) ready);
  rested = subst (λ (y : TaskPlace). y.rest ≤ now) same (leb-true _ _ (right_of (is_open x) (nat_le x.rest now) ready));
}

-- ---- whether all have ended

goes_on : (s : Tasks) (task : ℕ) → task < length s.tasks.items → IsOpen (task_at s task) → AllEnded s 0 (length s.tasks.items) → ⊥
goes_on s task there still all = true≢false (sym still ∙ all task (omega arith) there)

-- one may begin
pub goes_on_next : (s : Tasks) (now task : ℕ) → s.next ≤ length s.tasks.items → IsChosen s now (chosen.Task task) → AllEnded s 0 (length s.tasks.items) → ⊥
goes_on_next s now task low (inl behind) all = goes_on s task behind.inside.1 behind.open_still all
goes_on_next s now task low (inr before) all = goes_on s task (let less = before.1.inside.1 in omega arith) before.1.open_still all

-- one rests
pub goes_on_later : (s : Tasks) (now until : ℕ) → IsChosen s now (chosen.Resting until) → AllEnded s 0 (length s.tasks.items) → ⊥
goes_on_later s now until rests all = goes_on s rests.1.task rests.1.inside.1 rests.1.open_still all
