-- The words of the steps on pages.
use Rattle.std.proofs.Common.{◌≡◌, ℕ, Bool, true, false, cond, eqb, eqb-true, Option, Some, None, get_or, set, bit_or, bit_and, sym, refl, ap, ◌∙◌, subst}
use prog.Atomic.{either}
use Rattle.std.proofs.lemmas.Bool.{cond_both}
use Rattle.wbt_table.proofs.Common.{put, Bits, all_but, CpuRecord, Setting, State, dirty, look, claim, complete, back, last_found, after, setting, page_at, Shows, given}
use Rattle.wbt_book.specs.declared.event.Event.TheVariants as event
use Rattle.wbt_book.specs.Book.{given_back, bits_after}
use Rattle.wbt_book.specs.PageWords.{dirty_mask, writeback_mask, shared_word, back_in, word_after}
use Rattle.wbt_book.proofs.PageWords.{event_follows}
use Rattle.wbt_grant.specs.Record
use Rattle.wbt_grant.specs.Kinds.{page_now, with_record, with_event, dirty_step, claim_step, event_back, back_step}
use Rattle.wbt_table.specs.declared.layout.Layout.{Layout}
use Rattle.wbt_table.specs.declared.rule.Granted.{Granted}
use Rattle.wbt_table.proofs.Showing.{put_again, page_shown, shows_parts, load_shown}
use Rattle.wbt_table.proofs.Turning.{Moves}

either_cond : (b : Bool) (x y : ℕ) → either b x y ≡ cond b x y
either_cond true x y = refl
either_cond false x y = refl

-- what a page that is given back comes to, dirty or not
back_bits : (p : ℕ) (bits : Bits) (was_dirty : Bool) → bits_after (cond was_dirty (event.Absorb p) (event.Redirty p)) bits ≡ given_back
back_bits p bits true = refl
back_bits p bits false = refl

-- a grant changes no last step
pub last_given : (grants : Option Granted) (r : CpuRecord) (n : ℕ) → last_found r.last ≡ n → last_found (given grants r).last ≡ n
last_given None r n is = is
last_given (Some g) r n is = is

module _ (key : Layout) where
  pub look_moves : (i p : ℕ) (r : CpuRecord) → Moves key (look i p) r (page_at p) (λ n. n)
  look_moves i p r words s ok fit rule shows long may at = (
    sym (shows.pages.each p may.page_is),
    load_shown key words s (after (setting key) (look i p) s) (page_at p) shows refl refl refl refl refl refl,
  )

  pub dirty_moves : (w p : ℕ) (r : CpuRecord) → Moves key (dirty w p) r (page_at p) (λ n. bit_or n (dirty_mask p))
  dirty_moves w p r words s ok fit rule shows long may at =
      let set' : Setting = setting key in
      let c : ℕ = set'.seat w in
      let n : ℕ = get_or words (page_at p) 0 in
      let v : ℕ = bit_or n (dirty_mask p) in
      let shown : n ≡ shared_word s.book p = shows.pages.each p may.page_is in
      let b : Bits = bits_after (event.Dirty p) (s.book p) in
      let word : v ≡ shared_word (put s.book p b) p = ap (λ (m : ℕ). bit_or m (dirty_mask p)) shown ∙ event_follows s.book (event.Dirty p) in
      let mid : State = record s { book = put s.book p b } in
      let there = page_shown key words s ok shows long p v b may.page_is word in
      let x : State = with_record c (dirty_step set' c p s (Record.found_already p (s.cpu c))) s in
      let y : State = with_event (event.Dirty p) p (with_record c (dirty_step set' c p s (Record.dirtied set' w p (s.cpu c))) s) in (
        sym shown,
        cond_both (s.book p).dirty x y (λ (z : State). Shows key (set words (page_at p) v) z)
            (λ t. shows_parts key (set words (page_at p) v) mid x there
            (sym (put_again s.book p b (λ j. record { dirty = sym t j; writeback = (s.book p).writeback }))) refl refl refl refl refl)
            (λ t. shows_parts key (set words (page_at p) v) mid y there refl refl refl refl refl refl),
      )

  pub complete_moves : (i p : ℕ) (r : CpuRecord) → Moves key (complete i p) r (page_at p) (λ n. bit_and n (all_but (writeback_mask p)))
  complete_moves i p r words s ok fit rule shows long may at =
      let set' : Setting = setting key in
      let n : ℕ = get_or words (page_at p) 0 in
      let v : ℕ = bit_and n (all_but (writeback_mask p)) in
      let shown : n ≡ shared_word s.book p = shows.pages.each p may.page_is in
      let b : Bits = bits_after (event.Complete p) (s.book p) in
      let word : v ≡ shared_word (put s.book p b) p = ap (λ (m : ℕ). bit_and m (all_but (writeback_mask p))) shown ∙ event_follows s.book (event.Complete p) in
      let mid : State = record s { book = put s.book p b } in (
        sym shown,
        shows_parts key (set words (page_at p) v) mid (after set' (complete i p) s)
            (page_shown key words s ok shows long p v b may.page_is word) refl refl refl refl refl refl,
      )

  -- a hit is the claim, and a miss leaves the word
  pub claim_moves : (i p found : ℕ) (r : CpuRecord) → last_found r.last ≡ found
      → Moves key (claim i p) r (page_at p) (λ n. either (eqb n found) (word_after (event.Claim p) found) n)
  claim_moves i p found r is words s ok fit rule shows long may at =
      let set' : Setting = setting key in
      let n : ℕ = get_or words (page_at p) 0 in
      let shown : n ≡ shared_word s.book p = shows.pages.each p may.page_is in
      let now : last_found (s.cpu i).last ≡ found = ap (λ (y : CpuRecord). last_found y.last) at ∙ is in
      let b : Bits = bits_after (event.Claim p) (s.book p) in
      let hit : State = with_event (event.Claim p) p (with_record i (claim_step set' p s (Record.claimed p (s.cpu i))) s) in
      let miss : State = with_record i (claim_step set' p s (s.cpu i)) s in
      let mid : State = record s { book = put s.book p b } in
      let test : eqb (page_now set' p s) (last_found (s.cpu i).last) ≡ eqb n found = λ j. eqb (sym shown j) (now j) in
      let v : ℕ = either (eqb n found) (word_after (event.Claim p) found) n in (
        sym shown,
        cond_both (eqb (page_now set' p s) (last_found (s.cpu i).last)) hit miss (λ (z : State). Shows key (set words (page_at p) v) z)
            (λ t. let hits : eqb n found ≡ true = sym test ∙ t in
            let same : n ≡ found = eqb-true n found hits in
            let word : v ≡ shared_word (put s.book p b) p = ap (λ (c : Bool). either c (word_after (event.Claim p) found) n) hits
            ∙ ap (word_after (event.Claim p)) (sym same ∙ shown) ∙ event_follows s.book (event.Claim p) in
            shows_parts key (set words (page_at p) v) mid hit (page_shown key words s ok shows long p v b may.page_is word) refl refl refl refl refl refl)
            (λ t. let misses : eqb n found ≡ false = sym test ∙ t in
            let word : v ≡ n = ap (λ (c : Bool). either c (word_after (event.Claim p) found) n) misses in
            subst (λ (m : ℕ). Shows key (set words (page_at p) m) miss) (sym word) (load_shown key words s miss (page_at p) shows refl refl refl refl refl refl)),
      )

  -- a hit gives the page back, and a miss leaves the word
  pub back_moves : (i p found : ℕ) (r : CpuRecord) → last_found r.last ≡ found
      → Moves key (back i p) r (page_at p) (λ n. either (eqb n found) (back_in found p) n)
  back_moves i p found r is words s ok fit rule shows long may at =
      let set' : Setting = setting key in
      let n : ℕ = get_or words (page_at p) 0 in
      let shown : n ≡ shared_word s.book p = shows.pages.each p may.page_is in
      let now : last_found (s.cpu i).last ≡ found = ap (λ (y : CpuRecord). last_found y.last) at ∙ is in
      let b : Bits = given_back in
      let hit : State = with_event (event_back p (s.book p)) p (with_record i
      (back_step set' p s (Record.page_stepped (Record.given_back set' p (s.book p).dirty (s.cpu i)))) s) in
      let miss : State = with_record i (back_step set' p s (s.cpu i)) s in
      let mid : State = record s { book = put s.book p b } in
      let test : eqb (page_now set' p s) (last_found (s.cpu i).last) ≡ eqb n found = λ j. eqb (sym shown j) (now j) in
      let v : ℕ = either (eqb n found) (back_in found p) n in (
        sym shown,
        cond_both (eqb (page_now set' p s) (last_found (s.cpu i).last)) hit miss (λ (z : State). Shows key (set words (page_at p) v) z)
            (λ t. let hits : eqb n found ≡ true = sym test ∙ t in
            let same : n ≡ found = eqb-true n found hits in
            let word : v ≡ shared_word (put s.book p b) p = ap (λ (c : Bool). either c (back_in found p) n) hits
            ∙ ap (λ (m : ℕ). back_in m p) (sym same ∙ shown) ∙ event_follows s.book (event.Redirty p) in
            shows_parts key (set words (page_at p) v) mid hit (page_shown key words s ok shows long p v b may.page_is word)
            (ap (λ (y : Bits). put s.book p y) (back_bits p (s.book p) (s.book p).dirty)) refl refl refl refl refl)
            (λ t. let misses : eqb n found ≡ false = sym test ∙ t in
            let word : v ≡ n = ap (λ (c : Bool). either c (back_in found p) n) misses in
            subst (λ (m : ℕ). Shows key (set words (page_at p) m) miss) (sym word) (load_shown key words s miss (page_at p) shows refl refl refl refl refl refl)),
      )
