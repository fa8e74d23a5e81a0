-- What a completion leaves of its CPU's record.
use Rattle.std.proofs.Common.{◌≡◌, ℕ, ◌+◌, ◌<◌, List, length, Option, negsuc, sym, refl, ap, ◌∙◌, subst, arith}
use Rattle.wbt_table.proofs.Common.{TableId, CpuRecord, Setting, complete, one_more, record_after, setting, IsLayout, Has, Sat, Turned, turn, IsReady, Seated, Keeps, States, Knows, IsSeat, seated, put_state, page_stepped, CanComplete, owing_event}
use Rattle.wbt_grant.specs.Kinds.{MayComplete}
use Rattle.wbt_table.specs.declared.layout.Layout.{Layout}
use Rattle.wbt_table.specs.declared.state.CpuState.{CpuState}
use Rattle.wbt_table.proofs.Seating.{lefts_stay}
use Rattle.wbt_table.proofs.Keeping.{given_same, given_steps}
use Rattle.wbt_table.proofs.Calling.{record_here, cpu_here, lefts_here, step_seat}
use Rattle.wbt_table.proofs.Owing.{keeps_owing}

module _ (key : Layout) (table : TableId) (me : Sat) (states : States) (lefts : List ℕ) (timer : Option ℕ) (old : Seated)
    (view : seated table me states ≡ old) (at : old.layout ≡ key) (seat : IsSeat me states lefts timer) (p c : ℕ)
    (r : CpuRecord) (has : Has old.cpus c r) (can : CanComplete (setting key) p r) (s : CpuState) (knows : Knows states c s) where
  pub page_steps_here : s.page_steps ≡ r.page_steps
  page_steps_here = let k = record_here key table me states lefts timer old view at seat c r has s knows in
      k.keeps.page_steps ∙ sym (given_same s.grants k.record').page_steps ∙ ap (λ (z : CpuRecord). z.page_steps) k.with_it

  pub steps_here : s.steps ≡ r.steps
  steps_here = let k = record_here key table me states lefts timer old view at seat c r has s knows in
      k.keeps.steps ∙ sym (given_steps s.grants k.record') ∙ ap (λ (z : CpuRecord). z.steps) k.with_it

  pub ready_here : s.page_steps < key.page_steps → IsReady key (complete c p) s.grants me.0.cpus
  ready_here less = let k = record_here key table me states lefts timer old view at seat c r has s knows in let told = page_steps_here in (
    k.record',
    k.has,
    (
      k.keeps.grants,
      subst (MayComplete (setting key) c p) (sym k.with_it) record {
        cpu_is = cpu_here key table me states lefts timer old view at seat c r has s knows;
        page_is = can.page_is;
        holds_it = can.holds_it;
        ready = record { owes_none = can.owes_none; step_left = omega arith };
      },
    ),
  )

  pub complete_seat : (me' : Sat) (n : ℕ) → Turned (turn key (complete c p) s.grants) n me me' → IsLayout key → (states' : States) (k : ℕ)
      → states' ≡ put_state c (owing_event (setting key) k (negsuc 0) (page_stepped s)) states → k ≡ (setting key).home p → k < length key.contexts
      → IsSeat me' states' lefts timer
  complete_seat me' n turned ok states' k puts home there =
      let set' : Setting = setting key in
      let after : CpuRecord = record_after set' (complete c p) n r in
      let keeps : Keeps key c (owing_event set' k (negsuc 0) (page_stepped s)) after = keeps_owing key c (page_stepped s) after k p (negsuc 0) ok refl there
      (sym home) (ap one_more steps_here) (ap (λ (m : ℕ). m + 1) page_steps_here) refl refl in
      subst (λ (l : States). IsSeat me' l lefts timer) (sym puts)
      (step_seat key table me states lefts timer old view at seat c r has me' (complete c p) n refl s (owing_event set' k (negsuc 0) (page_stepped s)) knows turned refl keeps lefts
      (lefts_stay key lefts old.cpus c r after (lefts_here key table me states lefts timer old view at seat c r has) has (λ v. refl)))
