-- A seat whose CPU gave a page back, or tried to.
use Rattle.std.proofs.Common.{◌≡◌, ◌≢◌, ℕ, ◌<◌, Bool, true, false, cond, eqb, List, sym, refl, subst, eq-eqb, ne_eqb}
use Rattle.wbt_book.specs.Book.{Bits}
use Rattle.wbt_book.specs.Ledger.{times_in}
use Rattle.wbt_book.specs.PageWords.{bits_at}
use Rattle.wbt_grant.specs.declared.record.CpuRecord.{CpuRecord}
use Rattle.wbt_grant.specs.Setting.{Setting}
use Rattle.wbt_grant.specs.Record.{page_stepped, given_back}
use Rattle.wbt_grant.specs.Seats.{look_record}
use Rattle.wbt_grant.proofs.Inodes.{is_first}
use Rattle.wbt_table.specs.declared.answer.Back.{Back}
use Rattle.wbt_table.specs.declared.answer.Back.TheVariants.{Redirtied, Absorbed, Missed, Stopped}
use Rattle.wbt_table.specs.declared.layout.Layout.{Layout}
use Rattle.wbt_table.specs.Calls.{GivesBack, IsCutBack, at_once, after_look, back_steps, Made, MakesAll, record_of}
use Rattle.wbt_table.specs.Callers.{StepsFor, HasClaimed}
use Rattle.wbt_table.specs.Layout.{setting}
use Rattle.wbt_table.specs.Rule.{Has, Holds}
use Rattle.wbt_table.specs.Seat.{Shape, Seated}
use Rattle.wbt_table.proofs.Seating.{has_changed}
use Rattle.wbt_table.proofs.Trying.{after_changes}
use Rattle.wbt_table.proofs.Unheld.{look_holds}
use Rattle.throttle_in_use.specs.Seats.{Leaves}

module _ (key : Layout) (c p : ℕ) (r : CpuRecord) where
  -- a page that is dirty once more: its inode's mark is owed
  redirtied_owes : (n : ℕ) → (bits_at n p).dirty ≡ false → 0 < times_in ((setting key).inode p) (record_of (setting key) (back_steps c p n n) r).owed_marks
  redirtied_owes n clean =
      let set' : Setting = setting key in
      let m : ℕ = set'.inode p in
      let looked : CpuRecord = look_record set' p n r in
      subst (λ (z : Bool × Bool). 0 < times_in m (cond z.0 (page_stepped (given_back set' p z.1 looked)) looked).owed_marks)
      (λ i. (sym (eq-eqb n n refl) i, sym clean i)) (is_first m (times_in m looked.owed_marks))

  look_keeps : (n : ℕ) → 0 < times_in p r.held → 0 < times_in p (look_record (setting key) p n r).held
  look_keeps n some = subst (λ (l : List ℕ). 0 < times_in p l) (sym (look_holds (setting key) p (bits_at n p) r)) some

  -- a page whose word changed is held still
  missed_holds : (n m : ℕ) → n ≢ m → 0 < times_in p r.held → 0 < times_in p (record_of (setting key) (back_steps c p n m) r).held
  missed_holds n m differ some =
      let set' : Setting = setting key in
      let looked : CpuRecord = look_record set' p n r in
      let bits : Bits = bits_at m p in
      subst (λ (b : Bool). 0 < times_in p (cond b (page_stepped (given_back set' p bits.dirty looked)) looked).held)
      (sym (ne_eqb m n (λ e. differ (sym e)))) (look_keeps n some)

  -- and so is one of a CPU that was stopped
  stopped_holds : (made : List Made) → IsCutBack c p made → 0 < times_in p r.held → 0 < times_in p (record_of (setting key) made r).held
  stopped_holds made (at_once is) some = subst (λ (l : List Made). 0 < times_in p (record_of (setting key) l r).held) (sym is) some
  stopped_holds made (after_look n under is) some = subst (λ (l : List Made). 0 < times_in p (record_of (setting key) l r).held) (sym is) (look_keeps n some)

module _ (t : Shape) (c p : ℕ) (said : ℕ → Bool → Type 0) (old new : Seated) where
  steps_made : StepsFor t c old → (made : List Made) → MakesAll (setting t.layout) c said made old new → StepsFor t c new
  steps_made steps made makes = after_changes t c (record_of (setting t.layout) made) old new steps makes.0

  pub backs_keep : StepsFor t c old → (answer : Back) → GivesBack (setting t.layout) c p said answer old new → StepsFor t c new
  backs_keep steps Redirtied gives = steps_made steps (back_steps c p gives.0 gives.0) gives.3
  backs_keep steps Absorbed gives = steps_made steps (back_steps c p gives.0 gives.0) gives.3
  backs_keep steps (Missed n m) gives = steps_made steps (back_steps c p n m) gives.2
  backs_keep steps Stopped gives = steps_made steps gives.0 gives.3

  record_made : (r : CpuRecord) → Has old.cpus c r → (made : List Made) → MakesAll (setting t.layout) c said made old new → (P : CpuRecord → Type 0)
      → P (record_of (setting t.layout) made r) → Holds new.cpus c P
  record_made r has made makes P is = (record_of (setting t.layout) made r, has_changed c (record_of (setting t.layout) made) old new r makes.0 has, is)

  pub backs_leave : HasClaimed c p old → (answer : Back) → GivesBack (setting t.layout) c p said answer old new → Leaves (setting t.layout) c p answer new
  backs_leave mine Redirtied gives = record_made mine.0 mine.1 (back_steps c p gives.0 gives.0) gives.3
      (λ r. 0 < times_in ((setting t.layout).inode p) r.owed_marks) (redirtied_owes t.layout c p mine.0 gives.0 gives.1)
  backs_leave mine Absorbed gives = tt
  backs_leave mine (Missed n m) gives = record_made mine.0 mine.1 (back_steps c p n m) gives.2 (λ r. 0 < times_in p r.held)
      (missed_holds t.layout c p mine.0 n m gives.0 mine.2)
  backs_leave mine Stopped gives = record_made mine.0 mine.1 gives.0 gives.3 (λ r. 0 < times_in p r.held)
      (stopped_holds t.layout c p mine.0 gives.0 gives.1 mine.2)
