-- The words of the steps on marks.
use Rattle.std.proofs.Common.{◌≡◌, ℕ, ◌<◌, Bool, true, false, length, get_or, set, bit_or, bit_and, sym, refl, ap, ◌∙◌}
use Rattle.wbt_table.proofs.Common.{put, one_if, all_but, CpuRecord, Setting, State, mark, unmark, after, setting, mark_at}
use Rattle.wbt_table.specs.declared.layout.Layout.{Layout}
use Rattle.wbt_table.proofs.Showing.{mark_shown, shows_parts}
use Rattle.wbt_table.proofs.Turning.{Moves}

-- a mark's word with the mark put in, or taken out
set_in : (b : Bool) → bit_or (one_if b) 1 ≡ one_if true
set_in true = refl
set_in false = refl

taken_out : (b : Bool) → bit_and (one_if b) (all_but 1) ≡ one_if false
taken_out true = refl
taken_out false = refl

module _ (key : Layout) where
  pub mark_moves : (i n : ℕ) (r : CpuRecord) → n < length key.inodes → Moves key (mark i n) r (mark_at key n) (λ m. bit_or m 1)
  mark_moves i n r there words s ok fit rule shows long may at =
      let set' : Setting = setting key in
      let m : ℕ = get_or words (mark_at key n) 0 in
      let shown : m ≡ one_if (s.marked n) = shows.marks.each n there in
      let word : bit_or m 1 ≡ one_if true = ap (λ (k : ℕ). bit_or k 1) shown ∙ set_in (s.marked n) in
      let mid : State = record s { marked = put s.marked n true } in (
        sym shown,
        shows_parts key (set words (mark_at key n) (bit_or m 1)) mid (after set' (mark i n) s)
            (mark_shown key words s ok shows long n (bit_or m 1) true there word) refl refl refl refl refl refl,
      )

  pub unmark_moves : (i n : ℕ) (r : CpuRecord) → n < length key.inodes → Moves key (unmark i n) r (mark_at key n) (λ m. bit_and m (all_but 1))
  unmark_moves i n r there words s ok fit rule shows long may at =
      let set' : Setting = setting key in
      let m : ℕ = get_or words (mark_at key n) 0 in
      let shown : m ≡ one_if (s.marked n) = shows.marks.each n there in
      let word : bit_and m (all_but 1) ≡ one_if false = ap (λ (k : ℕ). bit_and k (all_but 1)) shown ∙ taken_out (s.marked n) in
      let mid : State = record s { marked = put s.marked n false } in (
        sym shown,
        shows_parts key (set words (mark_at key n) (bit_and m (all_but 1))) mid (after set' (unmark i n) s)
            (mark_shown key words s ok shows long n (bit_and m (all_but 1)) false there word) refl refl refl refl refl refl,
      )
