-- Each device has a flusher among those of all CPUs, and none of them is done before the drain.
use Rattle.std.proofs.Common.{◌≡◌, inl, inr, ⊎_elim, ℕ, zero, suc, ◌+◌, ◌<◌, Bool, true, false, ◌==◌, ◌||◌, if◌then◌else◌, true≢false, List, [], ◌∷◌, length, map, get_or, Option, refl, sym, ap, ◌∙◌, arith, eq-eqb, ne_eqb}
use Rattle.std.specs.List.{list_any}
use Rattle.std.specs.Prelude.{IsTrue}
use Rattle.std.proofs.lemmas.Bool.{cases_eq}
use Rattle.std.proofs.lemmas.Option.{get_or_from_slice_get}
use Rattle.wbt_run_worker.proofs.Common.{Each, IsLawful, FlusherLine, Trace, AnyOf, Seen, AreStill}
use Rattle.wbt_run_worker.specs.declared.side.CpuSide.{CpuSide}
use Rattle.wbt_run_worker.specs.declared.side.Post.{Post}
use Rattle.wbt_run_worker.specs.declared.side.Stand.TheVariants.{Open, Done}
use Rattle.wbt_trace.specs.Lawful.{has_flusher}
use Rattle.wbt_run_drain.specs.Ends.{Any}
use Rattle.wbt_run_drain.specs.Standing.{AreDoneAt, HasFlusher}
use Rattle.wbt_run_drain.specs.Teams.{posts_of, teams_of}
use Rattle.wbt_run_first.specs.Lent.{AreFirstPosts, IsFirstPost, numbers_on}

abbrev nobody : FlusherLine
nobody = record { device = 0; cpu = 0 }

-- ---- a device's line

record IsServed (device : ℕ) (lines : List FlusherLine) : Type 0 where
  place : ℕ
  there : place < length lines
  its : (other : FlusherLine) → (get_or lines place other).device ≡ device

served : (device : ℕ) (lines : List FlusherLine) → IsTrue (has_flusher device lines) → IsServed device lines
served device [] has = absurd (true≢false (sym has))
served device (line ∷ lines) has = elim (cases_eq line.device device) [
  | inl same ↦ record { place = 0; there = omega arith; its = λ other. same }
  | inr other ↦
      let rest = served device lines (sym (ap (λ (b : Bool). b || list_any (λ (l : FlusherLine). l.device == device) lines) (ne_eqb line.device device other)) ∙ has) in
      let low = rest.there in
      record { place = suc rest.place; there = omega arith; its = rest.its }
]

-- ---- a CPU's flushers

any_more : (P Q : Seen → Type 0) → ((p : Seen) → P p → Q p) → (posts : List Seen) → AnyOf P posts → AnyOf Q posts
any_more P Q h [] any = any
any_more P Q h (p ∷ posts) any = ⊎_elim (λ (here : P p). inl (h p here)) (λ (more : AnyOf P posts). inr (any_more P Q h posts more)) any

abbrev number_of : Seen → ℕ
number_of p = p.plan.flusher

first_is : (posts : List Seen) (number : ℕ) (rest : List ℕ) → map number_of posts ≡ number ∷ rest → AnyOf (λ (p : Seen). p.plan.flusher ≡ number + 0) posts
first_is [] number rest are = absurd (let n = ap (λ (l : List ℕ). length l) are in omega arith)
first_is (p ∷ posts) number rest are = inl (let first : p.plan.flusher ≡ number = cc in omega arith)

later : (number place : ℕ) (rest : List ℕ) (posts : List Seen)
    → ((some : List Seen) → map number_of some ≡ rest → AnyOf (λ (p : Seen). p.plan.flusher ≡ number + suc place) some)
    → (b : Bool) → map number_of posts ≡ (if b then number ∷ rest else rest) → AnyOf (λ (p : Seen). p.plan.flusher ≡ number + suc place) posts
later number place rest posts hyp false are = hyp posts are
later number place rest [] hyp true are = absurd (let n = ap (λ (l : List ℕ). length l) are in omega arith)
later number place rest (p ∷ posts) hyp true are = let rest_are : map number_of posts ≡ rest = cc in inr (hyp posts rest_are)

numbered : (cpu number : ℕ) (lines : List FlusherLine) (posts : List Seen) → map number_of posts ≡ numbers_on cpu number lines → (place : ℕ) → place < length lines
    → ((other : FlusherLine) → (get_or lines place other).cpu ≡ cpu) → AnyOf (λ (p : Seen). p.plan.flusher ≡ number + place) posts
numbered cpu number [] posts are place there its = absurd (omega arith)
numbered cpu number (line ∷ lines) posts are zero there its =
    first_is posts number (numbers_on cpu (number + 1) lines)
    (are ∙ ap (λ (b : Bool). if b then number ∷ numbers_on cpu (number + 1) lines else numbers_on cpu (number + 1) lines) (eq-eqb line.cpu cpu (its line)))
numbered cpu number (line ∷ lines) posts are (suc place) there its =
    later number place (numbers_on cpu (number + 1) lines) posts
    (λ some is. any_more (λ (p : Seen). p.plan.flusher ≡ (number + 1) + place) (λ (p : Seen). p.plan.flusher ≡ number + suc place) (λ p at. omega arith) some
    (numbered cpu (number + 1) lines some is place (omega arith) its))
    (line.cpu == cpu) are

its_device : (trace : Trace) (cpu place device : ℕ) → (get_or trace.flushers place nobody).device ≡ device → (posts : List Seen) → Each (IsFirstPost trace cpu) posts
    → AnyOf (λ (p : Seen). p.plan.flusher ≡ 0 + place) posts → AnyOf (λ (p : Seen). p.plan.device ≡ device) posts
its_device trace cpu place device its [] firsts any = any
its_device trace cpu place device its (p ∷ posts) firsts any = ⊎_elim
    (λ (here : p.plan.flusher ≡ 0 + place).
    let at : p.plan.flusher ≡ place = omega arith in
    let line : FlusherLine = record { device = p.plan.device; cpu = p.plan.cpu } in
    let said = get_or_from_slice_get trace.flushers p.plan.flusher line nobody firsts.0.of.line in
    inl (sym (ap (λ (l : FlusherLine). l.device) said) ∙ ap (λ (n : ℕ). (get_or trace.flushers n nobody).device) at ∙ its))
    (λ (more : AnyOf (λ (q : Seen). q.plan.flusher ≡ 0 + place) posts). inr (its_device trace cpu place device its posts firsts.1 more)) any

-- a CPU has it
pub record ServesFirst (trace : Trace) (device : ℕ) : Type 0 where
  pub cpu : ℕ
  pub there : cpu < trace.cpus
  pub serves : (posts : List Seen) → AreFirstPosts trace cpu posts → AnyOf (λ (p : Seen). p.plan.device ≡ device) posts

pub serves_first : (trace : Trace) → IsLawful trace → (device : ℕ) → device < length trace.devices → ServesFirst trace device
serves_first trace lawful device low =
    let is = served device trace.flushers (lawful.whole.flushers device low) in
    let cpu = (get_or trace.flushers is.place nobody).cpu in
    record {
      cpu = cpu;
      there = (lawful.within.flushers is.place nobody is.there).1;
      serves = λ posts firsts. its_device trace cpu is.place device (is.its nobody) posts firsts.each
          (numbered cpu 0 trace.flushers posts firsts.numbers is.place is.there (λ other. ap (λ (l : FlusherLine). l.cpu) (same_at trace.flushers is.place other is.there)));
    }
  where
    same_at : (lines : List FlusherLine) (k : ℕ) (other : FlusherLine) → k < length lines → get_or lines k other ≡ get_or lines k nobody
    same_at [] k other less = absurd (omega arith)
    same_at (line ∷ lines) zero other less = refl
    same_at (line ∷ lines) (suc k) other less = same_at lines k other (omega arith)

-- and has it still after its turns
pub still_serves : (device : ℕ) (old new : List Seen) → AreStill old new → AnyOf (λ (p : Seen). p.plan.device ≡ device) old → AnyOf (λ (p : Seen). p.plan.device ≡ device) new
still_serves device [] [] still any = any
still_serves device [] (q ∷ new) still any = absurd any
still_serves device (p ∷ old) [] still any = absurd still
still_serves device (p ∷ old) (q ∷ new) still any = ⊎_elim
    (λ (here : p.plan.device ≡ device). inl (ap (λ plan. plan.device) still.0.plan ∙ here))
    (λ (more : AnyOf (λ (p : Seen). p.plan.device ≡ device) old). inr (still_serves device old new still.1 more)) any

-- ---- all CPUs

pub any_at : {A : Type 0} (P : A → Type 0) (xs : List A) (k : ℕ) (d : A) → k < length xs → P (get_or xs k d) → Any P xs
any_at P [] k d less is = absurd (omega arith)
any_at P (x ∷ xs) zero d less is = inl is
any_at P (x ∷ xs) (suc k) d less is = inr (any_at P xs k d (omega arith) is)

module _ {D : Type 0} (written : D → Option ℕ) (faults : D → ℕ) (device : ℕ) where
  none_done : (posts : List (Post D)) → Each (λ (post : Post D). post.stand ≡ Open) posts → Each (λ (post : Post D). post.flusher.plan.device ≡ device → post.stand ≡ Done) posts
      → AnyOf (λ (p : Seen). p.plan.device ≡ device) (posts_of written faults posts) → ⊥
  none_done [] opens done any = any
  none_done (p ∷ posts) opens done any = ⊎_elim
      (λ (here : p.flusher.plan.device ≡ device). let e : Open ≡ Done = sym opens.0 ∙ done.0 here in absurd (let no = e in cc))
      (λ (more : AnyOf (λ (q : Seen). q.plan.device ≡ device) (posts_of written faults posts)). none_done posts opens.1 done.1 more) any

  pub not_yet_done : (sides : List (CpuSide D)) → Each (λ (side : CpuSide D). Each (λ (post : Post D). post.stand ≡ Open) side.posts.items) sides → AreDoneAt device sides
      → HasFlusher device (teams_of written faults sides) → ⊥
  not_yet_done [] opens done has = has
  not_yet_done (side ∷ sides) opens done has = ⊎_elim
      (λ (here : AnyOf (λ (p : Seen). p.plan.device ≡ device) (posts_of written faults side.posts.items)). none_done side.posts.items opens.0 done.0 here)
      (λ (more : HasFlusher device (teams_of written faults sides)). not_yet_done sides opens.1 done.1 more) has
