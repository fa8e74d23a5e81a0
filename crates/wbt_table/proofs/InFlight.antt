-- What tests know of marks that a CPU owes.
use Rattle.std.proofs.Common.{◌≡◌, ℕ, ◌<◌, ◌/◌, ◌%◌, ◌^◌, Bool, true, cond, not, ◌&&◌, ◌||◌, eqb, refl, ap, sym, ◌∙◌, subst, arith, eq-eqb}
use Rattle.wbt_table.proofs.Common.{Bits, times_in, bits_at, CpuRecord, Setting, mark, looked, passed, owing_mark, record_after, setting, Holds, Shape, Seated, Makes, looked_at}
use Rattle.wbt_book.specs.PageWords.{shift_of, bits_of}
use Rattle.wbt_grant.specs.Seats.{mark_record}
use Rattle.wbt_grant.proofs.Entries.{times_in-filter}
use Rattle.wbt_grant.proofs.Inodes.{is_first}
use Rattle.wbt_table.specs.declared.layout.Layout.{Layout}
use Rattle.wbt_table.specs.declared.answer.Claim.TheVariants.{NotDirty}
use Rattle.wbt_table.specs.Calls.{Claims}
use Rattle.wbt_table.specs.Callers.{StepsFor}
use Rattle.wbt_table.proofs.Seating.{has_changed}

-- a mark pays the inode's
pub mark_pays : (set' : Setting) (n found : ℕ) (r : CpuRecord) → times_in n (mark_record set' n found r).owed_marks ≡ 0
mark_pays set' n found r = times_in-filter n (λ m. not (eqb m n)) r.owed_marks
    ∙ ap (λ (b : Bool). cond (not b) (times_in n r.owed_marks) 0) (eq-eqb n n refl)

pub marked_owes_none : (t : Shape) (set' : Setting) (c n found : ℕ) (old new : Seated) → StepsFor t c old → Makes set' (mark c n) found old new
    → Holds new.cpus c (λ r. times_in n r.owed_marks ≡ 0)
marked_owes_none t set' c n found old new steps makes = let r : CpuRecord = steps.held.0 in
    (mark_record set' n found r, has_changed c (record_after set' (mark c n) found) old new r makes.changes steps.held.1, mark_pays set' n found r)

-- the number 3 tells both bits
both_bits : (word p : ℕ) → bits_of word p ≡ 3 → ((bits_at word p).dirty && (bits_at word p).writeback) ≡ true
both_bits word p is =
    let m : ℕ = word / 2 ^ shift_of p in
    let low : m % 2 ≡ 1 = omega arith in
    let high : m / 2 % 2 ≡ 1 = omega arith in
    λ i. eq-eqb (m % 2) 1 low i && eq-eqb (m / 2 % 2) 1 high i

pub look_owes : (key : Layout) (c p n : ℕ) (r : CpuRecord) → bits_of n p ≡ 3 → 0 < times_in ((setting key).inode p) (looked_at (setting key) c p n r).owed_marks
look_owes key c p n r is =
    let set' : Setting = setting key in
    let bits : Bits = bits_at n p in
    let m : ℕ = set'.inode p in
    let same : looked set' p bits r ≡ owing_mark m (passed p r) =
    ap (λ (b : Bool). cond b (owing_mark m (passed p r)) (cond (not bits.dirty || bits.writeback) (passed p r) r)) (both_bits n p is) in
    subst (λ (z : CpuRecord). 0 < times_in m z.owed_marks) (sym same) (is_first m (times_in m r.owed_marks))

pub passing_owes : (t : Shape) (key : Layout) (c p : ℕ) (said : ℕ → Bool → Type 0) (word : ℕ) (old new : Seated) → StepsFor t c old
    → Claims (setting key) c p said (NotDirty word) old new → word ≡ 3 → Holds new.cpus c (λ r. 0 < times_in ((setting key).inode p) r.owed_marks)
passing_owes t key c p said word old new steps claims is = let r : CpuRecord = steps.held.0 in let n : ℕ = claims.0 in
    (looked_at (setting key) c p n r, has_changed c (looked_at (setting key) c p n) old new r claims.3 steps.held.1, look_owes key c p n r (sym claims.1 ∙ is))
