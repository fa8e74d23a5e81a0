-- What giving a page back leaves of its CPU's record: where the exchange missed, where the page wasn't dirty, and where it was.
use Rattle.std.proofs.Common.{◌≡◌, ◌≢◌, ℕ, ◌+◌, ◌<◌, Bool, true, false, cond, eqb, List, length, Option, None, ℤ, negsuc, sym, refl, ap, ◌∙◌, subst, eq-eqb, ne_eqb}
use Rattle.wbt_table.proofs.Common.{TableId, Counter, net, bits_at, CpuRecord, WriterRecord, Setting, covers, writer_in, back, last_found, one_more, own_told, setting, IsLayout, Has, put_record, given, Sat, Turned, turn, IsReady, Seated, Makes, Keeps, KeepsLefts, States, Knows, IsSeat, seated, put_state, owing_event}
use Rattle.wbt_counter.specs.Recorded as counter
use Rattle.wbt_grant.specs.declared.who.StepKind.TheVariants as kind
use Rattle.wbt_grant.specs.declared.who.Word.TheVariants as word
use Rattle.wbt_grant.specs.State.{account_of}
use Rattle.wbt_grant.specs.Record.{stepped, page_stepped, absorbed, redirtied, given_back}
use Rattle.wbt_grant.specs.Seats.{back_record}
use Rattle.wbt_grant.proofs.Counts.{zero_more}
use Rattle.wbt_table.specs.declared.layout.Layout.{Layout}
use Rattle.wbt_table.specs.declared.state.CpuState.{CpuState}
use Rattle.wbt_table.specs.Seat.{stepped as kept_step, page_stepped as paged}
use Rattle.wbt_table.specs.Calls.{CanGiveBack}
use Rattle.wbt_table.proofs.Seating.{lefts_stay}
use Rattle.wbt_table.proofs.Keeping.{given_same, given_steps, own_same, keeps_step}
use Rattle.wbt_table.proofs.Calling.{record_here, cpu_here, ready_by, lefts_here, step_seat, step_makes}
use Rattle.wbt_table.proofs.Completing.{page_steps_here, steps_here}
use Rattle.wbt_table.proofs.Owing.{keeps_owing, keeps_paged}

abbrev pub miss : (p n : ℕ) (r : CpuRecord) → CpuRecord
miss p n r = stepped kind.Back (word.Page p) n r

abbrev pub redirty : (key : Layout) (p n : ℕ) (r : CpuRecord) → CpuRecord
redirty key p n r = stepped kind.Back (word.Page p) n (page_stepped (redirtied (setting key) p r))

abbrev pub absorb : (key : Layout) (p n : ℕ) (r : CpuRecord) → CpuRecord
absorb key p n r = stepped kind.Back (word.Page p) n (page_stepped (absorbed (setting key) p r))

-- the record by whether the exchange was made, and whether the page was dirty
abbrev by_tests : (key : Layout) (p n : ℕ) (r : CpuRecord) (hits was_dirty : Bool) → CpuRecord
by_tests key p n r hits was_dirty = stepped kind.Back (word.Page p) n (cond hits (page_stepped (given_back (setting key) p was_dirty r)) r)

pub is_miss : (key : Layout) (p n : ℕ) (r : CpuRecord) → eqb n (last_found r.last) ≡ false → back_record (setting key) p n r ≡ miss p n r
is_miss key p n r misses = ap (λ (b : Bool). by_tests key p n r b (bits_at n p).dirty) misses

pub is_redirty : (key : Layout) (p n : ℕ) (r : CpuRecord) → eqb n (last_found r.last) ≡ true → (bits_at n p).dirty ≡ false
    → back_record (setting key) p n r ≡ redirty key p n r
is_redirty key p n r hits clean = ap (λ (b : Bool). by_tests key p n r b (bits_at n p).dirty) hits ∙ ap (by_tests key p n r true) clean

pub is_absorb : (key : Layout) (p n : ℕ) (r : CpuRecord) → eqb n (last_found r.last) ≡ true → (bits_at n p).dirty ≡ true
    → back_record (setting key) p n r ≡ absorb key p n r
is_absorb key p n r hits dirty = ap (λ (b : Bool). by_tests key p n r b (bits_at n p).dirty) hits ∙ ap (by_tests key p n r true) dirty

-- an event that changes no count changes no own number
redirty_own : (key : Layout) (p n : ℕ) (r : CpuRecord) (x : Counter) → own_told (setting key) x (redirty key p n r) ≡ own_told (setting key) x r
redirty_own key p n r x = let z : ℤ = net (λ q. covers (setting key) x ((setting key).home q)) r.events in
    ap (λ (y : ℤ). counter.own_told (record (account_of (setting key) x r) { net = y })) (zero_more z)

module _ (key : Layout) (table : TableId) (me : Sat) (states : States) (lefts : List ℕ) (timer : Option ℕ) (old : Seated)
    (view : seated table me states ≡ old) (at : old.layout ≡ key) (seat : IsSeat me states lefts timer) (p found c : ℕ)
    (r : CpuRecord) (has : Has old.cpus c r) (can : CanGiveBack (setting key) p found r) (s : CpuState) (knows : Knows states c s) where
  pub ready_here : IsReady key (back c p) s.grants me.0.cpus
  ready_here = ready_by key table me states lefts timer old view at seat c r has s knows (back c p) refl record {
    cpu_is = cpu_here key table me states lefts timer old view at seat c r has s knows;
    page_is = can.can.page_is;
    looked = can.looked;
    holds_it = can.can.holds_it;
    ready = record { owes_none = can.can.owes_none; step_left = can.step_left };
  }

  module _ (me' : Sat) (n : ℕ) (turned : Turned (turn key (back c p) s.grants) n me me') (states' : States) where
    misses : n ≢ found → eqb n (last_found r.last) ≡ false
    misses ne = ne_eqb n (last_found r.last) (λ e. ne (e ∙ can.found_is))

    hits : n ≡ found → eqb n (last_found r.last) ≡ true
    hits e = eq-eqb n (last_found r.last) (e ∙ sym can.found_is)

    -- the kept numbers after a step that leaves what each writer has
    left : (s' : CpuState) (after : CpuRecord) → s'.grants ≡ None → back_record (setting key) p n r ≡ after → Keeps key c s' after
        → after.writers ≡ r.writers → states' ≡ put_state c s' states → IsSeat me' states' lefts timer
    left s' after bare becomes keeps same puts =
        subst (λ (l : States). IsSeat me' l lefts timer) (sym puts)
        (step_seat key table me states lefts timer old view at seat c r has me' (back c p) n refl s s' knows turned bare
        (subst (λ (z : CpuRecord). Keeps key c s' z) (sym becomes) keeps) lefts
        (subst (λ (z : CpuRecord). KeepsLefts key lefts (put_record c z old.cpus)) (sym becomes)
        (lefts_stay key lefts old.cpus c r after (lefts_here key table me states lefts timer old view at seat c r has) has
        (λ v. ap (λ (ws : List WriterRecord). (writer_in (setting key) v ws).left) same))))

    -- the word had changed
    pub missed_seat : states' ≡ put_state c (kept_step s) states → n ≢ found → IsSeat me' states' lefts timer
    missed_seat puts ne =
        let set' : Setting = setting key in
        let k = record_here key table me states lefts timer old view at seat c r has s knows in
        let after : CpuRecord = miss p n r in
        let same = given_same s.grants k.record' in
        left (kept_step s) after refl (is_miss key p n r (misses ne))
        (keeps_step key c s k.record' after k.keeps
        (ap one_more (sym (ap (λ (z : CpuRecord). z.steps) k.with_it) ∙ given_steps s.grants k.record'))
        (sym (ap (λ (z : CpuRecord). z.page_steps) k.with_it) ∙ same.page_steps)
        (sym (ap (λ (z : CpuRecord). z.debts) k.with_it) ∙ same.debts)
        (λ x. sym (ap (own_told set' x) k.with_it) ∙ own_same set' x k.record' (given s.grants k.record') same))
        refl puts

    -- the page wasn't dirty
    pub redirtied_seat : states' ≡ put_state c (paged s) states → n ≡ found → (bits_at n p).dirty ≡ false → IsSeat me' states' lefts timer
    redirtied_seat puts e clean =
        let set' : Setting = setting key in
        let k = record_here key table me states lefts timer old view at seat c r has s knows in
        let after : CpuRecord = redirty key p n r in
        let same = given_same s.grants k.record' in
        left (paged s) after refl (is_redirty key p n r (hits e) clean)
        (keeps_paged key c s k.record' after k.keeps
        (ap one_more (sym (ap (λ (z : CpuRecord). z.steps) k.with_it) ∙ given_steps s.grants k.record'))
        (ap (λ (m : ℕ). m + 1) (sym (ap (λ (z : CpuRecord). z.page_steps) k.with_it) ∙ same.page_steps))
        (sym (ap (λ (z : CpuRecord). z.debts) k.with_it) ∙ same.debts)
        (λ x. redirty_own key p n r x ∙ (sym (ap (own_told set' x) k.with_it) ∙ own_same set' x k.record' (given s.grants k.record') same)))
        refl puts

    -- it was: an event is owed to each of its counters
    pub absorbed_seat : IsLayout key → (k : ℕ) → states' ≡ put_state c (owing_event (setting key) k (negsuc 0) (paged s)) states
        → k ≡ (setting key).home p → k < length key.contexts → n ≡ found → (bits_at n p).dirty ≡ true → IsSeat me' states' lefts timer
    absorbed_seat ok k puts home there e dirty =
        let set' : Setting = setting key in
        let after : CpuRecord = absorb key p n r in
        left (owing_event set' k (negsuc 0) (paged s)) after refl (is_absorb key p n r (hits e) dirty)
        (keeps_owing key c (paged s) after k p (negsuc 0) ok refl there (sym home)
        (ap one_more (steps_here key table me states lefts timer old view at seat p c r has can.can s knows))
        (ap (λ (m : ℕ). m + 1) (page_steps_here key table me states lefts timer old view at seat p c r has can.can s knows)) refl refl)
        refl puts

    -- what contracts see
    pub back_makes : (s' : CpuState) → s'.grants ≡ None → states' ≡ put_state c s' states → (table' : TableId) → table' ≡ table
        → Makes (setting key) (back c p) n old (seated table' me' states')
    back_makes s' bare puts table' same = subst (λ (l : States). Makes (setting key) (back c p) n old (seated table' me' l)) (sym puts)
        (step_makes key table me states lefts timer old view at seat c r has me' (back c p) n refl s s' knows turned bare table' same)
