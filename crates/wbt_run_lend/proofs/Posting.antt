-- Posts and sides that are made one after another.
use Rattle.std.proofs.Common.{◌≡◌, ⊎_elim, ℕ, zero, suc, ◌+◌, ◌<◌, ◌≤◌, Bool, true, false, if◌then◌else◌, List, [], ◌∷◌, ◌++◌, length, map, drop, get_or, Option, refl, sym, ap, ◌∙◌, subst, arith, eq-eqb, ne_eqb}
use Rattle.std.proofs.lemmas.Bool.{cases_lt}
use Rattle.wbt_flusher.specs.Ages.{first_wheel, pairs_of}
use Rattle.wbt_run_worker.proofs.Common.{list_by, FlusherPlan, Each, FlusherLine, Trace, Seen, Team, seen, team_of}
use Rattle.wbt_flusher.specs.declared.work.FlusherWork.{FlusherWork}
use Rattle.wbt_run_seats.proofs.Fitting.{found_there}
use Rattle.wbt_run_worker.specs.declared.side.CpuSide.{CpuSide}
use Rattle.wbt_run_worker.specs.declared.side.Post.{Post}
use Rattle.wbt_run_drain.specs.Teams.{posts_of, teams_of}
use Rattle.wbt_run_first.specs.Lent.{IsFirstPost, numbers_on}
use Rattle.wbt_run_drain.proofs.Found.{here, all_gone}

module _ {A : Type 0} where
  pub each_push : (P : A → Type 0) (xs : List A) (x : A) → Each P xs → P x → Each P (xs ++ x ∷ [])
  each_push P [] x all one = (one, tt)
  each_push P (y ∷ ys) x all one = (all.0, each_push P ys x all.1 one)

  pub at_push : (P : ℕ → A → Type 0) (xs : List A) (x : A) (n : ℕ) → length xs ≡ n → ((k : ℕ) (d : A) → k < n → P k (get_or xs k d)) → P n x
      → (k : ℕ) (d : A) → k < n + 1 → P k (get_or (xs ++ x ∷ []) k d)
  at_push P xs x n many all one k d less = ⊎_elim
      (λ low. subst (P k) (sym (left xs k d (omega arith))) (all k d low))
      (λ high. subst (λ (m : ℕ). P m (get_or (xs ++ x ∷ []) m d)) (let e : n ≡ k = omega arith in e) (subst (P n) (sym (last xs n d many)) one))
      (cases_lt k n)
    where
      left : (ys : List A) (k : ℕ) (d : A) → k < length ys → get_or (ys ++ x ∷ []) k d ≡ get_or ys k d
      left [] k d less = absurd (omega arith)
      left (y ∷ ys) zero d less = refl
      left (y ∷ ys) (suc k) d less = left ys k d (omega arith)

      last : (ys : List A) (m : ℕ) (d : A) → length ys ≡ m → get_or (ys ++ x ∷ []) m d ≡ x
      last [] zero d e = refl
      last [] (suc m) d e = absurd (omega arith)
      last (y ∷ ys) zero d e = absurd (omega arith)
      last (y ∷ ys) (suc m) d e = last ys m d (omega arith)

-- ---- the numbers of flushers

numbers_go : (cpu i : ℕ) (lines : List FlusherLine) (line : FlusherLine) → line ≡ get_or lines i line → i < length lines → line.cpu ≡ cpu
    → numbers_on cpu i (drop i lines) ≡ i ∷ numbers_on cpu (i + 1) (drop (i + 1) lines)
numbers_go cpu i lines line is less same =
    ap (numbers_on cpu i) (here lines i line is less)
    ∙ ap (λ (b : Bool). if b then i ∷ numbers_on cpu (i + 1) (drop (i + 1) lines) else numbers_on cpu (i + 1) (drop (i + 1) lines)) (eq-eqb line.cpu cpu same)

pub numbers_stay : (cpu i : ℕ) (lines : List FlusherLine) (line : FlusherLine) → line ≡ get_or lines i line → i < length lines → (line.cpu ≡ cpu → ⊥)
    → numbers_on cpu i (drop i lines) ≡ numbers_on cpu (i + 1) (drop (i + 1) lines)
numbers_stay cpu i lines line is less other =
    ap (numbers_on cpu i) (here lines i line is less)
    ∙ ap (λ (b : Bool). if b then i ∷ numbers_on cpu (i + 1) (drop (i + 1) lines) else numbers_on cpu (i + 1) (drop (i + 1) lines)) (ne_eqb line.cpu cpu other)

pub numbers_end : (cpu i : ℕ) (lines : List FlusherLine) → length lines ≤ i → numbers_on cpu i (drop i lines) ≡ []
numbers_end cpu i lines less = ap (numbers_on cpu i) (all_gone lines i less)

module _ {D : Type 0} (written : D → Option ℕ) (faults : D → ℕ) where
  abbrev pub numbers_in : (posts : List (Post D)) → List ℕ
  numbers_in posts = map (λ (p : Seen). p.plan.flusher) (posts_of written faults posts)

  push_number : (posts : List (Post D)) (post : Post D) (rest : List ℕ) → numbers_in (posts ++ post ∷ []) ++ rest ≡ numbers_in posts ++ (post.flusher.plan.flusher ∷ rest)
  push_number [] post rest = refl
  push_number (p ∷ posts) post rest = ap (λ (l : List ℕ). p.flusher.plan.flusher ∷ l) (push_number posts post rest)

  pub more_numbers : (cpu i : ℕ) (lines : List FlusherLine) (line : FlusherLine) (posts : List (Post D)) (post : Post D) (all : List ℕ) → line ≡ get_or lines i line → i < length lines
      → line.cpu ≡ cpu → post.flusher.plan.flusher ≡ i → numbers_in posts ++ numbers_on cpu i (drop i lines) ≡ all
      → numbers_in (posts ++ post ∷ []) ++ numbers_on cpu (i + 1) (drop (i + 1) lines) ≡ all
  more_numbers cpu i lines line posts post all is less same number sofar =
      push_number posts post (numbers_on cpu (i + 1) (drop (i + 1) lines))
      ∙ ap (λ (n : ℕ). numbers_in posts ++ (n ∷ numbers_on cpu (i + 1) (drop (i + 1) lines))) number
      ∙ ap (λ (l : List ℕ). numbers_in posts ++ l) (sym (numbers_go cpu i lines line is less same)) ∙ sofar

  pub push_post : (P : Seen → Type 0) (posts : List (Post D)) (post : Post D) → Each P (posts_of written faults posts) → P (seen written faults post)
      → Each P (posts_of written faults (posts ++ post ∷ []))
  push_post P [] post all one = (one, tt)
  push_post P (p ∷ posts) post all one = (all.0, push_post P posts post all.1 one)

  pub push_side : (P : Team → Type 0) (sides : List (CpuSide D)) (side : CpuSide D) → Each P (teams_of written faults sides) → P (team_of written faults side)
      → Each P (teams_of written faults (sides ++ side ∷ []))
  push_side P [] side all one = (one, tt)
  push_side P (p ∷ sides) side all one = (all.0, push_side P sides side all.1 one)

-- a flusher whose line names the CPU
pub its_cpu : (trace : Trace) (cpu number : ℕ) (line : FlusherLine) (p : Seen) → line ≡ get_or trace.flushers number line → line.cpu ≡ cpu → p.plan.flusher ≡ number
    → IsFirstPost trace p.plan.cpu p → IsFirstPost trace cpu p
its_cpu trace cpu number line p is same flusher is_first =
    let found = found_there trace.flushers p.plan.flusher (record { device = p.plan.device; cpu = p.plan.cpu }) line is_first.of.line in
    let lines = is ∙ ap (λ (n : ℕ). get_or trace.flushers n line) (sym flusher) ∙ found.1 in
    let cpu_is : p.plan.cpu ≡ cpu = sym (ap (λ (l : FlusherLine). l.cpu) lines) ∙ same in
    subst (λ (c : ℕ). IsFirstPost trace c p) cpu_is is_first

-- what stands at a place that there is, whatever stands for others
pub line_at : (lines : List FlusherLine) (i : ℕ) (d e : FlusherLine) → i < length lines → get_or lines i d ≡ get_or lines i e
line_at [] i d e less = absurd (omega arith)
line_at (line ∷ lines) zero d e less = refl
line_at (line ∷ lines) (suc i) d e less = line_at lines i d e (omega arith)

-- ---- the wheel

-- no inode waits in a wheel before the first turn
pub none_waits_first : (plan : FlusherPlan) (opened : ℕ) (work : FlusherWork) → work.wheel ≡ first_wheel plan opened → list_by work ≡ []
none_waits_first plan opened work first = ap pairs_of first ∙ empty plan.ages
  where
    empty : (ages : Bool) → pairs_of (first_wheel (record plan { ages = ages }) opened) ≡ []
    empty true = refl
    empty false = refl
