-- A mark that was clear, where nobody owed the inode anything: none of its pages was dirty.
use Rattle.std.proofs.Common.{◌≡◌, ◌↔◌, ℕ, zero, suc, ◌<◌, Bool, true, false, not, eqb, IsTrue, IsBitSet, List, Option, None, true≢false, sym, refl, ap, ◌∙◌, subst, arith}
use mathlib.Core.Logic.{dite}
use native.Mathlib.Decide.{ℕ_discrete}
use Rattle.wbt_table.proofs.Common.{TableId, one_if, times_in, CpuRecord, Setting, mark, setting, Has, given, MayGive, Sat, Found, Turned, turn, Seated, States, Knows, IsSeat, seated}
use Rattle.wbt_grant.proofs.Whole.{unmarked_is_clean}
use Rattle.wbt_table.specs.declared.layout.Layout.{Layout}
use Rattle.wbt_table.specs.declared.state.CpuState.{CpuState}
use Rattle.wbt_table.specs.Calls.{HoldsAll, HasRecords, OwesInodeNothing, HasNoDirtyPage}
use Rattle.wbt_table.proofs.Calling.{state_here, record_here, cpu_here}
use Rattle.wbt_table.proofs.Pending.{Pending, gives_all}

-- a mark that reads 0 is clear
reads_clear : (b : Bool) (n : ℕ) → one_if b ≡ n → n ≡ 0 → b ≡ false
reads_clear true n is zero' = absurd (omega arith)
reads_clear false n is zero' = refl

-- the lowest bit of such a number tells it
pub number_tells : (n : ℕ) (b : Bool) → n < 2 → (IsTrue b ↔ IsBitSet n 0) → not b ≡ eqb n 0
number_tells zero true less is = absurd (is.0 refl refl)
number_tells zero false less is = refl
number_tells (suc zero) true less is = refl
number_tells (suc zero) false less is = absurd (true≢false (sym (is.1 (λ e. let h : 1 ≡ 0 = e in omega arith))))
number_tells (suc (suc n)) b less is = absurd (omega arith)

-- a mark's number
told_by_number : (b : Bool) (n : ℕ) → one_if b ≡ n → n < 2
told_by_number true n is = omega arith
told_by_number false n is = omega arith

module _ (key : Layout) (table : TableId) (me me' : Sat) (states : States) (lefts : List ℕ) (timer : Option ℕ) (old : Seated)
    (view : seated table me states ≡ old) (at : old.layout ≡ key) (seat : IsSeat me states lefts timer) (c : ℕ) (r : CpuRecord) (has : Has old.cpus c r)
    (s : CpuState) (knows : Knows states c s) (n found : ℕ) (turned : Turned (turn key (mark c n) s.grants) found me me') where
  -- the state that the mark was found in
  pub found_here : Found (turn key (mark c n) s.grants) found (record_here key table me states lefts timer old view at seat c r has s knows).record' me.0
  found_here = let k = record_here key table me states lefts timer old view at seat c r has s knows in turned.found k.record' k.has

  pub mark_is_small : found < 2
  mark_is_small = let f = found_here in told_by_number (f.state.marked n) found f.found_is

  pending : HoldsAll old → (j : ℕ) → j < key.cpus → Pending (setting key) old.cpus found_here.state j
  pending all j less =
      let set' : Setting = setting key in
      let f = found_here in
      let k = record_here key table me states lefts timer old view at seat c r has s knows in
      let t = all.cpus j (let e = ap (λ (z : Layout). z.cpus) at in omega arith) in
      let w = state_here key table me states lefts timer old view at seat j t.0 t.1 in
      let q = record_here key table me states lefts timer old view at seat j t.0 t.1 w.0 w.1 in
      dite (ℕ_discrete j c)
      (λ e. record {
        record' = r;
        has = subst (λ (i : ℕ). Has old.cpus i r) (sym e) has;
        grants = None;
        may = tt;
        with_it = ap f.state.cpu e ∙ f.record_is ∙ k.with_it;
      })
      (λ ne. let same : f.state.cpu j ≡ q.record' = f.others j q.record' ne q.has in record {
        record' = t.0;
        has = t.1;
        grants = w.0.grants;
        may = subst (MayGive set' j w.0.grants) (sym same) q.keeps.grants;
        with_it = ap (given w.0.grants) same ∙ q.with_it;
      })

  pub clean_here : HoldsAll old → OwesInodeNothing (setting key) n old → found ≡ 0 → HasNoDirtyPage (setting key) n old
  clean_here all nothing clear =
      let set' : Setting = setting key in
      let f = found_here in
      let gave = gives_all set' old.cpus f.state key.cpus f.lawful f.rule (pending all) in
      let each : (j : ℕ) → j < key.cpus → (q : CpuRecord) × Has old.cpus j q = λ j less. all.cpus j (let e = ap (λ (z : Layout). z.cpus) at in omega arith) in
      let records : HasRecords old gave.state = record {
        cpus = λ i q hasq. let w = state_here key table me states lefts timer old view at seat i q hasq in
            gave.given_each i q (cpu_here key table me states lefts timer old view at seat i q hasq w.0 w.1) hasq;
        timer = λ q is. gave.timer ∙ f.timer q (ap (λ (z : Seated). z.timer) view ∙ is);
      } in record {
        state = gave.state;
        rule = gave.rule;
        records = records;
        clean = unmarked_is_clean set' gave.state n gave.rule ((λ i. gave.marked i n) ∙ reads_clear (f.state.marked n) found f.found_is clear)
            (λ i less. let t = each i less in ap (λ (z : CpuRecord). times_in n z.owed_marks) (records.cpus i t.0 t.1) ∙ nothing.no_mark i t.0 t.1)
            (λ i p less its. let t = each i less in ap (λ (z : CpuRecord). times_in p z.owed_rescans) (records.cpus i t.0 t.1) ∙ nothing.no_rescan i p t.0 t.1 its);
      }
