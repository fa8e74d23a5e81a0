-- What a dirtying leaves of its CPU's record, by whether the page was dirty.
use Rattle.std.proofs.Common.{◌≡◌, ℕ, ◌+◌, ◌-◌, ◌<◌, true, false, List, length, get_or, set, Option, None, pos, sym, refl, ap, ◌∙◌, subst, arith}
use Rattle.wbt_table.proofs.Common.{TableId, bits_at, CpuRecord, Setting, writer_in, holding, dirty, one_more, with_writer, own_told, setting, no_writer, IsLayout, Has, put_record, given, MayGive, Sat, Turned, turn, IsReady, Seated, Makes, Keeps, KeepsLefts, States, Knows, IsSeat, seated, put_state, CanDirty, owing_event}
use Rattle.std.proofs.lemmas.Bool.{cond-true, cond-false}
use Rattle.wbt_grant.specs.declared.who.StepKind.TheVariants as kind
use Rattle.wbt_grant.specs.declared.who.Word.TheVariants as word
use Rattle.wbt_grant.specs.Kinds.{MayDirty}
use Rattle.wbt_grant.specs.Record.{stepped, page_stepped, dirtied, found_already}
use Rattle.wbt_grant.specs.Seats.{dirty_record}
use Rattle.wbt_table.specs.declared.layout.Layout.{Layout}
use Rattle.wbt_table.specs.declared.state.CpuState.{CpuState}
use Rattle.wbt_table.specs.Seat.{page_stepped as paged}
use Rattle.wbt_table.proofs.Lists.{same_default}
use Rattle.wbt_table.proofs.Seating.{lefts_stay}
use Rattle.wbt_table.proofs.Keeping.{given_same, given_steps, own_same}
use Rattle.wbt_table.proofs.Calling.{record_here, lefts_here, step_seat, step_makes}
use Rattle.wbt_table.proofs.Owing.{keeps_owing, keeps_paged, lefts_change}

abbrev pub already : (p n : ℕ) (r : CpuRecord) → CpuRecord
already p n r = stepped kind.Dirty (word.Page p) n (page_stepped (found_already p r))

abbrev pub fresh : (key : Layout) (w p n : ℕ) (r : CpuRecord) → CpuRecord
fresh key w p n r = stepped kind.Dirty (word.Page p) n (page_stepped (dirtied (setting key) w p r))

pub is_already : (key : Layout) (w p n : ℕ) (r : CpuRecord) → (bits_at n p).dirty ≡ true → dirty_record (setting key) w p n r ≡ already p n r
is_already key w p n r t = ap (λ (z : CpuRecord). stepped kind.Dirty (word.Page p) n (page_stepped z)) (cond-true (bits_at n p).dirty (found_already p r) (dirtied (setting key) w p r) t)

pub is_fresh : (key : Layout) (w p n : ℕ) (r : CpuRecord) → (bits_at n p).dirty ≡ false → dirty_record (setting key) w p n r ≡ fresh key w p n r
is_fresh key w p n r t = ap (λ (z : CpuRecord). stepped kind.Dirty (word.Page p) n (page_stepped z)) (cond-false (bits_at n p).dirty (found_already p r) (dirtied (setting key) w p r) t)

module _ (key : Layout) (table : TableId) (me : Sat) (states : States) (lefts : List ℕ) (timer : Option ℕ) (old : Seated)
    (view : seated table me states ≡ old) (at : old.layout ≡ key) (seat : IsSeat me states lefts timer) (w p c : ℕ) (is : c ≡ (setting key).seat w)
    (r : CpuRecord) (has : Has old.cpus c r) (can : CanDirty (setting key) w p r) (s : CpuState) (knows : Knows states c s) where
  pub page_steps_here : s.page_steps ≡ r.page_steps
  page_steps_here = let k = record_here key table me states lefts timer old view at seat c r has s knows in
      k.keeps.page_steps ∙ sym (given_same s.grants k.record').page_steps ∙ ap (λ (z : CpuRecord). z.page_steps) k.with_it

  steps_here : s.steps ≡ r.steps
  steps_here = let k = record_here key table me states lefts timer old view at seat c r has s knows in
      k.keeps.steps ∙ sym (given_steps s.grants k.record') ∙ ap (λ (z : CpuRecord). z.steps) k.with_it

  pub ready_here : s.page_steps < key.page_steps → IsReady key (dirty w p) s.grants me.0.cpus
  ready_here less = let k = record_here key table me states lefts timer old view at seat c r has s knows in let told = page_steps_here in (
    k.record',
    subst (λ (n : ℕ). Has me.0.cpus n k.record') is k.has,
    (
      subst (λ (n : ℕ). MayGive (setting key) n s.grants k.record') is k.keeps.grants,
      subst (MayDirty (setting key) w p) (sym k.with_it) record {
        writer_is = can.writer_is;
        page_is = can.page_is;
        its_context = can.its_context;
        some_left = can.some_left;
        ready = record { owes_none = can.owes_none; step_left = omega arith };
      },
    ),
  )

  module _ (me' : Sat) (n : ℕ) (turned : Turned (turn key (dirty w p) s.grants) n me me') where
    -- the page was dirty already
    pub already_seat : (states' : States) → states' ≡ put_state c (paged s) states → (bits_at n p).dirty ≡ true → IsSeat me' states' lefts timer
    already_seat states' puts t =
        let k = record_here key table me states lefts timer old view at seat c r has s knows in
        let set' : Setting = setting key in
        let after : CpuRecord = already p n r in
        let becomes = is_already key w p n r t in
        let same = given_same s.grants k.record' in
        let keeps : Keeps key c (paged s) after = keeps_paged key c s k.record' after k.keeps
        (ap one_more (sym (ap (λ (z : CpuRecord). z.steps) k.with_it) ∙ given_steps s.grants k.record'))
        (ap (λ (m : ℕ). m + 1) (sym (ap (λ (z : CpuRecord). z.page_steps) k.with_it) ∙ same.page_steps))
        (sym (ap (λ (z : CpuRecord). z.debts) k.with_it) ∙ same.debts)
        (λ x. sym (ap (own_told set' x) k.with_it) ∙ own_same set' x k.record' (given s.grants k.record') same) in
        subst (λ (l : States). IsSeat me' l lefts timer) (sym puts)
        (step_seat key table me states lefts timer old view at seat c r has me' (dirty w p) n is s (paged s) knows turned refl
        (subst (λ (z : CpuRecord). Keeps key c (paged s) z) (sym becomes) keeps) lefts
        (subst (λ (z : CpuRecord). KeepsLefts key lefts (put_record c z old.cpus)) (sym becomes)
        (lefts_stay key lefts old.cpus c r after (lefts_here key table me states lefts timer old view at seat c r has) has (λ v. refl))))

    -- it wasn't: events are owed to its counters, and the writer has a page less left
    pub fresh_seat : IsLayout key → (states' : States) (k left : ℕ) → states' ≡ put_state c (owing_event (setting key) k (pos 1) (paged s)) states → k ≡ (setting key).works_in w → left ≡ get_or lefts w left
        → (bits_at n p).dirty ≡ false → IsSeat me' states' (set lefts w (left - 1)) timer
    fresh_seat ok states' k left puts context left_is t =
        let set' : Setting = setting key in
        let after : CpuRecord = fresh key w p n r in
        let becomes = is_fresh key w p n r t in
        let kept = lefts_here key table me states lefts timer old view at seat c r has in
        let told : left ≡ (writer_in set' w r.writers).left = left_is ∙ same_default lefts w left 0 (let long = kept.long in let less = can.writer_is in omega arith) ∙ kept.each w r can.writer_is (subst (λ (m : ℕ). Has old.cpus m r) is has) in
        let there : k < length key.contexts = subst (λ (m : ℕ). m < length key.contexts) (sym context) (ok.writers_in_contexts w no_writer can.writer_is) in
        let keeps : Keeps key c (owing_event set' k (pos 1) (paged s)) after = keeps_owing key c (paged s) after k p (pos 1) ok refl there
        (can.its_context ∙ sym context) (ap one_more steps_here) (ap (λ (m : ℕ). m + 1) page_steps_here) refl refl in
        subst (λ (l : States). IsSeat me' l (set lefts w (left - 1)) timer) (sym puts)
        (step_seat key table me states lefts timer old view at seat c r has me' (dirty w p) n is s (owing_event set' k (pos 1) (paged s)) knows turned refl
        (subst (λ (z : CpuRecord). Keeps key c (owing_event set' k (pos 1) (paged s)) z) (sym becomes) keeps) (set lefts w (left - 1))
        (subst (λ (z : CpuRecord). KeepsLefts key (set lefts w (left - 1)) (put_record c z old.cpus)) (sym becomes)
        (lefts_change key lefts old.cpus c w (left - 1) r after kept has (sym is) can.writer_is
        (ap (λ (m : ℕ). with_writer (holding w (m - 1)) r.writers) (sym told)))))

    -- what contracts see
    pub dirty_changes : (s' : CpuState) → s'.grants ≡ None → (states' : States) → states' ≡ put_state c s' states → (table' : TableId) → table' ≡ table
        → Makes (setting key) (dirty w p) n old (seated table' me' states')
    dirty_changes s' bare states' puts table' same = subst (λ (l : States). Makes (setting key) (dirty w p) n old (seated table' me' l)) (sym puts)
        (step_makes key table me states lefts timer old view at seat c r has me' (dirty w p) n is s s' knows turned bare table' same)
