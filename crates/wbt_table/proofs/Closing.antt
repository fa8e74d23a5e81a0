-- What a closed throttle tells.
use Rattle.std.proofs.Common.{◌≡◌, ℕ, zero, suc, ◌/◌, ◌%◌, ◌^◌, eqb, ◌<◌, ◌≤◌, ℤ, pos, ◌+ℤ◌, ◌-ℤ◌, List, [], ◌∷◌, length, Option, Some, None, sym, refl, ap, ◌∙◌, subst, arith}
use mathlib.Core.Option.{some}
use lib.ListN.{get_elem?}
use Rattle.atomic_table.specs.Table as table
use Rattle.wbt_table.proofs.Common.{TableId, Counter, amount, to_clear, local_in, debt_to, one_if, bits_at, CpuRecord, Setting, batch_of, setting, HasCounter, own_at, Cpus, Has, Kept, Sat, Seated, States, with_grant, with_grants, debts_in, IsSeat, seated, Counted, OwnFits, word_at, LogsGrant}
use Rattle.wbt_counter.specs.Word.{count_in}
use Rattle.wbt_counter.proofs.Sums.{total_ℤ_same}
use Rattle.wbt_counter.proofs.WordLaws.{own_word_fits, near_has_room}
use Rattle.wbt_book.specs.Book.{page_word, bits_in}
use Rattle.wbt_grant.specs.State.{exact_count}
use Rattle.wbt_grant.specs.SeatLaws.{WordsTell}
use Rattle.wbt_grant.proofs.Ranges.{batch_fits}
use Rattle.wbt_grant.proofs.Seats.{words_are_read, own_is_told}
use Rattle.wbt_grant.proofs.Whole.{rule_holds}
use Rattle.wbt_table.specs.declared.layout.Layout.{Layout}
use Rattle.wbt_table.specs.declared.rule.View.{View}
use Rattle.wbt_table.specs.declared.state.CpuState.{CpuState}
use Rattle.wbt_table.specs.Calls.{HasRecords}
use Rattle.wbt_table.specs.Census.{kept_state, debt_at, found_count, Closes}
use Rattle.wbt_table.proofs.Lists.{at_read}
use Rattle.wbt_table.proofs.Keeping.{given_same}
use Rattle.wbt_table.proofs.Calling.{state_here, record_here}
use Rattle.wbt_table.proofs.Joining.{followed}
use Rattle.wbt_table.proofs.Logging.{are_allowed, runs_to, GivenTo}

-- two bits as a number are the last two of the number that tells them
one_back : (n : ℕ) → n < 2 → one_if (eqb n 1) ≡ n
one_back zero less = refl
one_back (suc zero) less = refl
one_back (suc (suc n)) less = absurd (omega arith)

pub bits_coded : (n : ℕ) → page_word (bits_in n) ≡ n % 4
bits_coded n = let low = one_back (n % 2) (omega arith) in let high = one_back (n / 2 % 2) (omega arith) in omega arith

-- after all grants that are pending the view is what is shown
pub all_given : (xs : States) (ys : Cpus) (n : ℕ) → length ys ≡ length xs → length xs ≤ n → followed with_grant n xs ys ≡ with_grants xs ys
all_given [] [] zero same long = refl
all_given [] [] (suc n) same long = refl
all_given [] (y ∷ ys) n same long = absurd (omega arith)
all_given (x ∷ xs) [] n same long = absurd (omega arith)
all_given (x ∷ xs) (y ∷ ys) zero same long = absurd (omega arith)
all_given (x ∷ xs) (y ∷ ys) (suc n) same long = ap (λ (l : Cpus). with_grant x y ∷ l) (all_given xs ys n (omega arith) (omega arith))

module _ (key : Layout) (s : table.State (Unit {0}) View) (kept : Kept key s) where
  -- an own word has room for any number that an own word is to hold
  pub own_fits : OwnFits key s.words
  own_fits x i h l = let set' : Setting = setting key in let n : ℤ = kept.state.own x i in
      let small = batch_fits set' x kept.lawful.few_cpus in
      let fits = own_word_fits n (near_has_room (batch_of set' x) n (omega arith) (own_is_told set' kept.state kept.rule i x).near) in
      subst (λ (m : ℕ). m < 2 ^ 33) (sym (kept.shows.own.each x i h l)) fits

module _ (seat : Seated) (tag : TableId) (me : Sat) (states : States) (lefts : List ℕ) (timer : Option ℕ) (view : seated tag me states ≡ seat) (is : IsSeat me states lefts timer)
    (s : table.State (Unit {0}) View) (kept : Kept seat.layout s) (id : ℕ) (v : View) (at : get_elem? s.views id ≡ some v)
    (cpus : v.cpus ≡ with_grants states me.0.cpus) (timer_is : v.timer ≡ me.0.timer) (logs_are : (n : ℕ) × GivenTo n me.0.logs v.logs) (timer_logs : v.timer_log ≡ me.0.timer_log) where
  records : HasRecords seat kept.state
  records = record {
    cpus = λ i r has. (kept.seated id i v r at (subst (λ (l : Cpus). Has l i r) (sym (cpus ∙ ap (λ (z : Seated). z.cpus) view)) has)).1;
    timer = λ r t. (kept.timed id v r at (timer_is ∙ ap (λ (z : Seated). z.timer) view ∙ t)).1;
  }

  tells : WordsTell (setting seat.layout) kept.state
  tells = words_are_read (setting seat.layout) kept.state kept.lawful kept.rule

  debts : (i : ℕ) (r : CpuRecord) (x : Counter) → Has seat.cpus i r → debt_at (record { layout = seat.layout; words = s.words; states = states }) i x ≡ debt_to x r.debts
  debts i r x has =
      let k = state_here seat.layout tag me states lefts timer seat view refl is i r has in
      let q = record_here seat.layout tag me states lefts timer seat view refl is i r has k.0 k.1 in
      ap (λ (z : Option CpuState). debt_to x (debts_in (kept_state z))) (at_read states i (Some k.0) k.1 None)
      ∙ ap (debt_to x) (sym q.keeps.debts ∙ sym (given_same k.0.grants q.record').debts ∙ ap (λ (z : CpuRecord). z.debts) q.with_it)

  exact : ((i : ℕ) → i < seat.layout.cpus → (r : CpuRecord) × Has seat.cpus i r) → (x : Counter) → HasCounter seat.layout x
      → pos (exact_count (setting seat.layout) kept.state.book x) ≡ found_count (record { layout = seat.layout; words = s.words; states = states }) x
  exact all x h =
      let n : ℕ = seat.layout.cpus in
      let c : Counted = record { layout = seat.layout; words = s.words; states = states } in
      let sum = sym (ap count_in (kept.shows.shared.each x h) ∙ tells.sums x) in
      let own = total_ℤ_same n (kept.state.own x) (λ i. local_in (word_at c (own_at seat.layout x i))) (λ i l. sym (ap local_in (kept.shows.own.each x i h l) ∙ tells.own x i)) in
      let same : (i : ℕ) → i < n → debt_to x (kept.state.cpu i).debts ≡ debt_at c i x = λ i l. let t = all i l in
      ap (λ (z : CpuRecord). debt_to x z.debts) (records.cpus i t.0 t.1) ∙ sym (debts i t.0 x t.1) in
      let events = total_ℤ_same n (λ i. amount (debt_to x (kept.state.cpu i).debts)) (λ i. amount (debt_at c i x)) (λ i l. ap amount (same i l)) in
      let clears = total_ℤ_same n (λ i. to_clear (debt_to x (kept.state.cpu i).debts)) (λ i. to_clear (debt_at c i x)) (λ i l. ap to_clear (same i l)) in
      (rule_holds (setting seat.layout) kept.state kept.rule).count_found x ∙ (λ i. ((sum i +ℤ own i) +ℤ events i) -ℤ clears i)

  pub closes : Closes seat (record { layout = seat.layout; words = s.words; states = states })
  closes = record {
    state = kept.state;
    past = kept.past;
    are_made = kept.are_made;
    allowed = are_allowed (setting seat.layout) kept.past kept.are_made;
    runs = kept.state_is ∙ sym (runs_to (setting seat.layout) kept.past);
    logs = λ i log has.
        let t = logs_are.1.given i log (ap (λ (z : Seated). get_elem? z.logs i) view ∙ has) in
        let is = (kept.told id i v t.0 at t.1).1 in
        (t.2.0, subst (LogsGrant t.2.0 log) (sym is) t.2.1);
    timer_log = λ log has. (kept.timer_told id v log at (timer_logs ∙ ap (λ (z : Seated). z.timer_log) view ∙ has)).1;
    records = records;
    holds = rule_holds (setting seat.layout) kept.state kept.rule;
    layout = refl;
    long = kept.long;
    shows = kept.shows;
    pages = λ p l. ap (λ (n : ℕ). bits_at n p) (kept.shows.pages.each p l) ∙ tells.pages p l;
    debts = debts;
    exact = exact;
  }
