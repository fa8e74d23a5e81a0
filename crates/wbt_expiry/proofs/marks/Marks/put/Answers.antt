use Rattle.std.proofs.Common.{◌*◌, ◌^◌, ◌%◌, ◌/◌, ℕ, List, get_or, set, arith, subst, bit_or, bit_and}
use Rattle.std.proofs.lemmas.Nat.Bits.{bit_at_set_same, bit_at_set_other, bit_at_clear_same, bit_at_clear_other}
use Rattle.std.specs.Int.{bit_not, w64}
use Rattle.wbt_expiry.specs.Marks.{IsMarked}
use Rattle.wbt_expiry.proofs.Marking.{put_in}
use Rattle.wbt_expiry.proofs.marks.Marks.put.Goals as goal

pub returns-then-is_set : goal.returns-then-is_set
returns-then-is_set c =
    let words = c.self.inside.words in
    let word : ℕ = get_or words (c.args.list / 64) 0 in
    let set_bit = put_in words c.args.list (bit_or word (1 * 2 ^ (c.args.list % 64) % 2 ^ 64)) 1 c.self.invariant c.requires
    (bit_at_set_same w64 word (c.args.list % 64) (omega arith))
    (λ i within apart. bit_at_set_other w64 word (c.args.list % 64) (omega arith) i apart) in
    rw c.if-is_set.true (subst (λ (old : List ℕ). IsMarked old (set words (c.args.list / 64) (bit_or word (1 * 2 ^ (c.args.list % 64) % 2 ^ 64))) c.args.list 1) c.self.view_is set_bit)

pub returns-else-is_set : goal.returns-else-is_set
returns-else-is_set c =
    let words = c.self.inside.words in
    let word : ℕ = get_or words (c.args.list / 64) 0 in
    let clear_bit = put_in words c.args.list (bit_and word (bit_not w64 (1 * 2 ^ (c.args.list % 64) % 2 ^ 64))) 0 c.self.invariant c.requires
    (bit_at_clear_same w64 word (c.args.list % 64) (omega arith))
    (λ i within apart. bit_at_clear_other w64 word (c.args.list % 64) (omega arith) i within apart) in
    rw c.if-is_set.false (subst (λ (old : List ℕ). IsMarked old (set words (c.args.list / 64) (bit_and word (bit_not w64 (1 * 2 ^ (c.args.list % 64) % 2 ^ 64)))) c.args.list 0) c.self.view_is clear_bit)
