-- The state after all grants that are pending, which has each record as a seat shows it.
use Rattle.std.proofs.Common.{◌≡◌, ◌≢◌, ℕ, zero, suc, ◌<◌, ◌≤◌, Bool, Option, Some, None, sym, refl, ap, ◌∙◌, subst, arith}
use mathlib.Core.Logic.{dite}
use native.Mathlib.Decide.{ℕ_discrete}
use Rattle.wbt_table.proofs.Common.{put, put_same, CpuRecord, Setting, IsSetting, State, granted, Step, MayGrant, after, Rule, step_keeps, Cpus, Has, given, MayGive}
use Rattle.wbt_counter.proofs.Sums.{put_other}
use Rattle.wbt_grant.specs.Kinds as kinds
use Rattle.wbt_table.specs.declared.rule.Granted.{Granted}
use Rattle.wbt_table.proofs.Turning.{one_record}

-- the state after the grant of one CPU
record GaveOne (set' : Setting) (c : ℕ) (grants : Option Granted) (s : State) : Type 0 where
  pub state : State
  pub rule : Rule set' state
  pub here : state.cpu c ≡ given grants (s.cpu c)
  pub others : (j : ℕ) → j ≢ c → state.cpu j ≡ s.cpu j
  pub timer : state.timer ≡ s.timer
  pub marked : ◌≡◌ {A = ℕ → Bool} state.marked s.marked

gives_one : (set' : Setting) (c : ℕ) (grants : Option Granted) (s : State) → IsSetting set' → Rule set' s → MayGive set' c grants (s.cpu c)
    → GaveOne set' c grants s
gives_one set' c None s ok rule may = record { state = s; rule = rule; here = refl; others = λ j ne. refl; timer = refl; marked = refl }
gives_one set' c (Some g) s ok rule may =
    let t : Step = kinds.grant g.writer g.left in
    let allowed : MayGrant set' g.writer g.left (s.cpu (set'.seat g.writer)) = subst (λ (i : ℕ). MayGrant set' g.writer g.left (s.cpu i)) (sym may.0) may.1 in
    let puts : ◌≡◌ {A = ℕ → CpuRecord} (after set' t s).cpu (put s.cpu c (granted g.writer g.left (s.cpu c))) =
    λ j. put s.cpu (may.0 j) (granted g.writer g.left (s.cpu (may.0 j))) in record {
      state = after set' t s;
      rule = step_keeps set' t s ok rule allowed;
      here = (λ i. puts i c) ∙ put_same s.cpu c (granted g.writer g.left (s.cpu c));
      others = λ j ne. (λ i. puts i j) ∙ put_other s.cpu c (granted g.writer g.left (s.cpu c)) j ne;
      timer = refl;
      marked = refl;
    }

-- what a state has of a CPU becomes what is shown of it by a grant that may be made
pub record Pending (set' : Setting) (shown : Cpus) (s : State) (c : ℕ) : Type 0 where
  pub record' : CpuRecord
  pub has : Has shown c record'
  pub grants : Option Granted
  pub may : MayGive set' c grants (s.cpu c)
  pub with_it : given grants (s.cpu c) ≡ record'

-- the state after the grants of the first n CPUs
pub record GaveAll (set' : Setting) (shown : Cpus) (s : State) (n : ℕ) : Type 0 where
  pub state : State
  pub rule : Rule set' state
  pub given_each : (c : ℕ) (r : CpuRecord) → c < n → Has shown c r → state.cpu c ≡ r
  pub others : (c : ℕ) → n ≤ c → state.cpu c ≡ s.cpu c
  pub timer : state.timer ≡ s.timer
  pub marked : ◌≡◌ {A = ℕ → Bool} state.marked s.marked

pub gives_all : (set' : Setting) (shown : Cpus) (s : State) (n : ℕ) → IsSetting set' → Rule set' s → ((c : ℕ) → c < n → Pending set' shown s c)
    → GaveAll set' shown s n
gives_all set' shown s zero ok rule each = record {
  state = s;
  rule = rule;
  given_each = λ c r less has. absurd (omega arith);
  others = λ c more. refl;
  timer = refl;
  marked = refl;
}
gives_all set' shown s (suc n) ok rule each =
    let before = gives_all set' shown s n ok rule (λ c less. each c (omega arith)) in
    let last = each n (omega arith) in
    let same : before.state.cpu n ≡ s.cpu n = before.others n (omega arith) in
    let gave = gives_one set' n last.grants before.state ok before.rule (subst (MayGive set' n last.grants) (sym same) last.may) in record {
      state = gave.state;
      rule = gave.rule;
      given_each = λ c r less has. dite (ℕ_discrete c n)
          (λ e. ap gave.state.cpu e ∙ gave.here ∙ ap (given last.grants) same ∙ last.with_it
          ∙ one_record shown n last.record' r last.has (subst (λ (i : ℕ). Has shown i r) e has))
          (λ ne. gave.others c ne ∙ before.given_each c r (let differ : c ≢ n = ne in omega arith) has);
      others = λ c more. gave.others c (λ e. omega arith) ∙ before.others c (omega arith);
      timer = gave.timer ∙ before.timer;
      marked = gave.marked ∙ before.marked;
    }
