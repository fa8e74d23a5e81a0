-- A page that is claimed was held by nobody, and one that is held is under writeback.
use Rattle.std.proofs.Common.{◌≡◌, ℕ, zero, suc, ◌<◌, true, false, not, Bool, ◌&&◌, ◌||◌, cond, Option, sym, refl, ap, ◌∙◌, subst, arith, true≢false}
use Rattle.std.proofs.lemmas.Bool.{cond_both}
use Rattle.wbt_table.proofs.Common.{Bits, bits_at, times_in, look, claim, last_found, looked, owing_mark, passed, Setting, CpuRecord, setting, Found, given, turn}
use Rattle.wbt_book.specs.Book.{is_claimable}
use Rattle.wbt_book.proofs.Ledgers.{held_is_under_writeback}
use Rattle.wbt_grant.specs.State.{deeds_of}
use Rattle.wbt_table.specs.declared.rule.Granted.{Granted}
use Rattle.wbt_table.specs.declared.layout.Layout.{Layout}
use Rattle.wbt_table.specs.declared.rule.View.{View}

not_both : (dirty under : Bool) → (dirty && not under) ≡ true → under ≡ true → ⊥
not_both true true claimable is = true≢false (sym claimable)
not_both true false claimable is = true≢false (sym is)
not_both false under claimable is = true≢false (sym claimable)

none_of : (n : ℕ) → (0 < n → ⊥) → n ≡ 0
none_of zero never = refl
none_of (suc n) never = absurd (never (omega arith))

pub unheld_found : (key : Layout) (i p n : ℕ) (grants : Option Granted) (q r : CpuRecord) (v : View) → given grants q ≡ r → n ≡ last_found r.last
    → Found (turn key (claim i p) grants) n q v → times_in p r.held ≡ 0
unheld_found key i p n grants q r v with_it is found =
    let set' = setting key in
    let s = found.state in
    let may = found.allowed in
    let same : s.cpu i ≡ r = found.record_is ∙ with_it in
    let word = ap (λ (z : CpuRecord). last_found z.last) same ∙ sym is ∙ sym found.found_is in
    let bits : is_claimable (s.book p) ≡ true =
    sym (ap is_claimable (ap (λ (w : ℕ). set'.coding.page_bits w p) word ∙ found.lawful.words_hold s.book p may.page_is)) ∙ may.found_claimable in
    none_of (times_in p r.held) (λ some. not_both (s.book p).dirty (s.book p).writeback bits
    (held_is_under_writeback set'.cpus s.book (λ j. deeds_of (s.cpu j)) i p found.rule.ledger may.cpu_is
    (subst (λ (z : CpuRecord). 0 < times_in p z.held) (sym same) some)))

pub held_found : (key : Layout) (i p n : ℕ) (grants : Option Granted) (q r : CpuRecord) (v : View) → given grants q ≡ r
    → Found (turn key (look i p) grants) n q v → 0 < times_in p r.held → (bits_at n p).writeback ≡ true
held_found key i p n grants q r v with_it found some =
    let set' = setting key in
    let s = found.state in
    let may = found.allowed in
    let same : s.cpu i ≡ r = found.record_is ∙ with_it in
    ap (λ (w : ℕ). (set'.coding.page_bits w p).writeback) (sym found.found_is)
    ∙ ap (λ (b : Bits). b.writeback) (found.lawful.words_hold s.book p may.page_is)
    ∙ held_is_under_writeback set'.cpus s.book (λ j. deeds_of (s.cpu j)) i p found.rule.ledger may.cpu_is
    (subst (λ (z : CpuRecord). 0 < times_in p z.held) (sym same) some)

-- a look lets go of no page
pub look_holds : (set' : Setting) (p : ℕ) (bits : Bits) (r : CpuRecord) → (looked set' p bits r).held ≡ r.held
look_holds set' p bits r =
    let holds = λ (z : CpuRecord). z.held ≡ r.held in
    cond_both (bits.dirty && bits.writeback) (owing_mark (set'.inode p) (passed p r)) (cond (not bits.dirty || bits.writeback) (passed p r) r) holds
    (λ both. refl) (λ one. cond_both (not bits.dirty || bits.writeback) (passed p r) r holds (λ is. refl) (λ no'. refl))
