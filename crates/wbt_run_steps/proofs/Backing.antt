-- What giving a page back makes of the record of its CPU: the look at it, and the exchange.
use Rattle.std.proofs.Common.{◌≡◌, ◌≢◌, ℕ, Bool, true, false, not, ◌&&◌, ◌||◌, cond, eqb, List, [], ◌∷◌, filter, negsuc, refl, sym, ap, ◌∙◌, subst, eq-eqb, ne_eqb, true≢false}
use Rattle.std.proofs.lemmas.Bool.{cond-true, cond-false}
use Rattle.wbt_book.specs.Book.{Bits}
use Rattle.wbt_book.specs.Ledger.{let_go}
use Rattle.wbt_kit.proofs.Common.{bits_at, look, record_after, Setting, CpuRecord, Made, record_of, setting, Holds, has_changed, CpuJournal, AreSeatsOf}
use Rattle.wbt_grant.specs.Kinds.{back}
use Rattle.wbt_grant.specs.Record
use Rattle.wbt_grant.specs.declared.who.StepKind.TheVariants as kind
use Rattle.wbt_grant.specs.declared.who.Word.TheVariants as word
use Rattle.wbt_table.specs.Calls.{CanComplete, GivesBack as Answers, IsCutBack, MakesAll, back_steps}
use Rattle.wbt_table.specs.Calls.IsCutBack.{at_once, after_look}
use Rattle.wbt_table.specs.declared.answer.Back.{Back}
use Rattle.wbt_table.specs.declared.answer.Back.TheVariants.{Redirtied, Absorbed, Missed, Stopped}
use Rattle.wbt_journal.specs.Told.{gave_back}
use Rattle.wbt_journal.specs.declared.entry.Entry.TheVariants as entry
use Rattle.wbt_run_laws.specs.Grew.{Grew}
use Rattle.wbt_run_laws.specs.Log.{with_entry}
use Rattle.wbt_run_laws.proofs.Growing.{by_both}
use Rattle.wbt_run_laws.proofs.Stepping.{untold_grows, steps_grow}
use Rattle.wbt_kit.specs.declared.kit.Kit.{Kit}
use Rattle.wbt_kit.specs.declared.kit.Seats.{Seats}
use Rattle.wbt_run_steps.specs.Backs.{AnswersBack, Came, GivesBack, HaltsBack, Kept, MissesBack, Returned, TellsBack, and_one}
use Rattle.wbt_run_steps.specs.Backs.HaltsBack.{before_its_look, after_its_look}
use Rattle.wbt_run_steps.specs.Gate.{AskedBeforeEach}
use Rattle.wbt_run_steps.specs.Kinds.{StepsToGiveBack}
use Rattle.wbt_run_steps.specs.Made.{MakesThese}
use Rattle.wbt_run_steps.specs.Records.{OnlyCpu}
use Rattle.wbt_run_steps.proofs.Changing.{seats_stay}
use Rattle.wbt_run_steps.proofs.Gating.{asked_these}
use Rattle.wbt_run_steps.proofs.Logging.{cut_back_left, kinds_made, made_as}

-- ---- a look at a page under writeback

looked_under : (d w : Bool) (a b r : CpuRecord) → w ≡ true → cond (d && w) a (cond (not d || w) b r) ≡ cond d a b
looked_under true true a b r is = refl
looked_under false true a b r is = refl
looked_under d false a b r is = absurd (true≢false (sym is))

module _ (set : Setting) (c p n : ℕ) (r : CpuRecord) where
  abbrev bits : Bits
  bits = set.coding.page_bits n p

  abbrev at_look : CpuRecord
  at_look = record_after set (look c p) n r

  -- the record after it, by whether the page is dirty again
  abbrev under : (dirty : Bool) → CpuRecord
  under dirty = Record.stepped kind.Look (word.Page p) n (cond dirty (Record.owing_mark (set.inode p) (Record.passed p r)) (Record.passed p r))

  under_is : bits.writeback ≡ true → at_look ≡ under bits.dirty
  under_is writeback = ap (λ (q : CpuRecord). Record.stepped kind.Look (word.Page p) n q)
      (looked_under bits.dirty bits.writeback (Record.owing_mark (set.inode p) (Record.passed p r)) (Record.passed p r) r writeback)

  look_grew : Grew [] r at_look
  look_grew = untold_grows [] r at_look ((steps_grow set n r).untold (look c p) refl)

  record KeptParts (dirty : Bool) (is : CpuRecord) : Type 0 where
    held : is.held ≡ r.held
    debts : is.debts ≡ r.debts
    marks : is.owed_marks ≡ and_one dirty (set.inode p) r.owed_marks
    rescans : is.owed_rescans ≡ filter (λ q. not (eqb q p)) r.owed_rescans
    writers : is.writers ≡ r.writers

  kept_parts : (dirty : Bool) → KeptParts dirty (under dirty)
  kept_parts true = record { held = refl; debts = refl; marks = refl; rescans = refl; writers = refl }
  kept_parts false = record { held = refl; debts = refl; marks = refl; rescans = refl; writers = refl }

  kept_by : (is : CpuRecord) → Grew [] r is → KeptParts bits.dirty is → Kept set p bits.dirty r is
  kept_by is grew parts = record { grew = grew; held = parts.held; debts = parts.debts; marks = parts.marks; rescans = parts.rescans; writers = parts.writers }

  pub kept_look : bits.writeback ≡ true → Kept set p bits.dirty r at_look
  kept_look writeback = kept_by at_look look_grew (subst (KeptParts bits.dirty) (sym (under_is writeback)) (kept_parts bits.dirty))

  -- ---- the exchange finds another word

  abbrev at_miss : (m : ℕ) → CpuRecord
  at_miss m = record_after set (back c p) m at_look

  missed_is : (m : ℕ) → n ≢ m → at_miss m ≡ Record.stepped kind.Back (word.Page p) m at_look
  missed_is m other = ap (λ (q : CpuRecord). Record.stepped kind.Back (word.Page p) m q)
      (cond-false (eqb m n) (Record.page_stepped (Record.given_back set p (set.coding.page_bits m p).dirty at_look)) at_look (ne_eqb m n (λ same. other (sym same))))

  pub kept_miss : (m : ℕ) → n ≢ m → bits.writeback ≡ true → Kept set p bits.dirty r (at_miss m)
  kept_miss m other writeback = kept_by (at_miss m)
      (by_both [] [] r at_look (at_miss m) look_grew (untold_grows [] at_look (at_miss m) ((steps_grow set m at_look).untold (back c p) (ap not (ne_eqb m n (λ same. other (sym same)))))))
      (subst (KeptParts bits.dirty) (sym (missed_is m other ∙ ap (λ (q : CpuRecord). Record.stepped kind.Back (word.Page p) m q) (under_is writeback)))
      (let parts = kept_parts bits.dirty in record { held = parts.held; debts = parts.debts; marks = parts.marks; rescans = parts.rescans; writers = parts.writers }))

  -- ---- it finds the same

  abbrev at_back : CpuRecord
  at_back = record_after set (back c p) n at_look

  abbrev given : (dirty : Bool) → CpuRecord
  given dirty = Record.stepped kind.Back (word.Page p) n (Record.page_stepped (Record.given_back set p dirty (under dirty)))

  given_is : bits.writeback ≡ true → at_back ≡ given bits.dirty
  given_is writeback = ap (λ (q : CpuRecord). Record.stepped kind.Back (word.Page p) n q)
      (cond-true (eqb n n) (Record.page_stepped (Record.given_back set p bits.dirty at_look)) at_look (eq-eqb n n refl)
      ∙ ap (λ (q : CpuRecord). Record.page_stepped (Record.given_back set p bits.dirty q)) (under_is writeback))

  record GivenParts (absorbed : Bool) (is : CpuRecord) : Type 0 where
    held : is.held ≡ let_go p r.held
    debts : is.debts ≡ cond absorbed (Record.debts_of set p (negsuc 0)) r.debts
    marks : is.owed_marks ≡ set.inode p ∷ r.owed_marks
    rescans : is.owed_rescans ≡ filter (λ q. not (eqb q p)) r.owed_rescans
    writers : is.writers ≡ r.writers

  given_parts : (absorbed : Bool) → GivenParts absorbed (given absorbed)
  given_parts true = record { held = refl; debts = refl; marks = refl; rescans = refl; writers = refl }
  given_parts false = record { held = refl; debts = refl; marks = refl; rescans = refl; writers = refl }

  given_grew : (flusher : ℕ) → Grew (gave_back flusher p bits.dirty ∷ []) r at_back
  given_grew flusher = by_both [] (gave_back flusher p bits.dirty ∷ []) r at_look at_back look_grew ((steps_grow set n at_look).backs c flusher p (eq-eqb n n refl))

  pub returned : (flusher : ℕ) (absorbed : Bool) → bits.dirty ≡ absorbed → bits.writeback ≡ true → Returned set flusher p absorbed r at_back
  returned flusher absorbed dirty writeback =
      let parts : GivenParts absorbed at_back = subst (GivenParts absorbed) (sym (given_is writeback ∙ ap given dirty)) (given_parts absorbed) in
      record {
        grew = subst (λ (b : Bool). Grew (gave_back flusher p b ∷ []) r at_back) dirty (given_grew flusher);
        held = parts.held;
        debts = parts.debts;
        marks = parts.marks;
        rescans = parts.rescans;
        writers = parts.writers;
      }

-- ---- of seats

module _ (kit : Kit) (cpu flusher page : ℕ) (said : ℕ → ℕ → Bool → Type 0) (old new : Seats) (before behind : CpuJournal)
    (holds : Holds old.cpu.cpus cpu (CanComplete (setting kit.throttle.layout) page)) (only : OnlyCpu old new) where
  abbrev set' : Setting
  set' = setting kit.throttle.layout

  abbrev All : (made : List Made) → Type 0
  All made = MakesAll set' cpu (said cpu) made old.cpu new.cpu

  these : (made : List Made) → All made → MakesThese kit cpu made old new
  these made all = record { becomes = all.0; logs = all.1; only = only }

  came : (P : CpuRecord → CpuRecord → Type 0) (made : List Made) → All made → P holds.0 (record_of set' made holds.0) → Came cpu P old new
  came P made all is = record {
    was = holds.0;
    is = record_of set' made holds.0;
    had = holds.1;
    has = has_changed cpu (record_of set' made) old.cpu new.cpu holds.0 all.0 holds.1;
    came = is;
  }

  gives : (absorbed : Bool) (n : ℕ) → (bits_at n page).dirty ≡ absorbed → (bits_at n page).writeback ≡ true → All (back_steps cpu page n n)
      → behind ≡ with_entry (entry.Back flusher page absorbed) before → GivesBack kit cpu flusher page absorbed old new before behind
  gives absorbed n dirty writeback all told = record {
    word = n;
    was_dirty = dirty;
    was_writeback = writeback;
    makes = these (back_steps cpu page n n) all;
    returned = came (Returned set' flusher page absorbed) (back_steps cpu page n n) all (returned set' cpu page n holds.0 flusher absorbed dirty writeback);
    told = told;
  }

  misses : (n m : ℕ) → n ≢ m → (bits_at n page).writeback ≡ true → All (back_steps cpu page n m) → behind ≡ before → MissesBack kit cpu page n m old new before behind
  misses n m other writeback all told = record {
    changed = other;
    was_writeback = writeback;
    makes = these (back_steps cpu page n m) all;
    kept = came (Kept set' page (bits_at n page).dirty) (back_steps cpu page n m) all (kept_miss set' cpu page n holds.0 m other writeback);
    told = told;
  }

  halts : (made : List Made) → IsCutBack cpu page made → All made → HaltsBack kit cpu page old new
  halts made (at_once is) all = before_its_look (came (λ was now. now ≡ was) made all (ap (λ (m : List Made). record_of set' m holds.0) is))
  halts made (after_look n writeback is) all = after_its_look n writeback
      (came (Kept set' page (bits_at n page).dirty) made all
      (subst (λ (m : List Made). Kept set' page (bits_at n page).dirty holds.0 (record_of set' m holds.0)) (sym is) (kept_look set' cpu page n holds.0 writeback)))

  -- all that an answer tells
  pub answers_by : (answer : Back) → Answers set' cpu page (said cpu) answer old.cpu new.cpu → TellsBack flusher page answer before behind
      → AnswersBack kit cpu flusher page said answer old new before behind
  answers_by Redirtied t told = gives false t.0 t.1 t.2 t.3 told
  answers_by Absorbed t told = gives true t.0 t.1 t.2 t.3 told
  answers_by (Missed n m) t told = misses n m t.0 t.1 t.2 told
  answers_by Stopped t told = record { made = t.0; cut = t.1; makes = these t.0 t.3; halts = halts t.0 t.1 t.3; stopped = t.2; told = told }

  made_by : (answer : Back) → Answers set' cpu page (said cpu) answer old.cpu new.cpu → (made : List Made) × All made
  made_by Redirtied t = (back_steps cpu page t.0 t.0, t.3)
  made_by Absorbed t = (back_steps cpu page t.0 t.0, t.3)
  made_by (Missed n m) t = (back_steps cpu page n m, t.2)
  made_by Stopped t = (t.0, t.3)

  pub seats_after : (answer : Back) → AreSeatsOf kit old → Answers set' cpu page (said cpu) answer old.cpu new.cpu → AreSeatsOf kit new
  seats_after answer at t = let m = made_by answer t in seats_stay kit cpu (record_of set' m.0) old new holds.0 at holds.1 m.1.0 only

  pub asked_by : (answer : Back) → Answers set' cpu page (said cpu) answer old.cpu new.cpu → AskedBeforeEach cpu said old new
  asked_by answer t = let m = made_by answer t in asked_these cpu said set' m.0 old new (holds.0, holds.1) m.1.0 m.1.2

  pub kinds_by : (answer : Back) → Answers set' cpu page (said cpu) answer old.cpu new.cpu → StepsToGiveBack cpu answer old new
  kinds_by Redirtied t = made_as cpu set' (back_steps cpu page t.0 t.0) old new t.3.1
  kinds_by Absorbed t = made_as cpu set' (back_steps cpu page t.0 t.0) old new t.3.1
  kinds_by (Missed n m) t = made_as cpu set' (back_steps cpu page n m) old new t.2.1
  kinds_by Stopped t = (kinds_made t.0, cut_back_left cpu page t.0 t.1, made_as cpu set' t.0 old new t.3.1)
