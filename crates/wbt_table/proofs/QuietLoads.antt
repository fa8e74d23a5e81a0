-- Loads of limits and counts: they leave debts, and what writers have left, alone; and what each tells.
use Rattle.std.proofs.Common.{◌≡◌, ℕ, min, false, true≢false, eqb, eqb-true, List, Option, Some, None, sym, refl, ap, ◌∙◌, subst}
use Rattle.std.proofs.lemmas.Bool.{cond_both}
use Rattle.wbt_table.proofs.Common.{Limits, Counter, Domain, Context, version_in, Who, Writer, Cpu, Timer, CpuRecord, TimerRecord, WriterRecord, Setting, State, holding, writer_in, held_of, count, with_writer, cpu_for, own_told, Found, given, turn, setting}
use Rattle.wbt_grant.specs.Laws.{NoneAhead, AreBehind}
use Rattle.wbt_grant.specs.Record.{keeping_reading, keeping_limits, writers_counted, writers_limited, triples_after}
use Rattle.wbt_grant.specs.Seats.{is_timer, count_record, first_record, middle_record, limits_record}
use Rattle.wbt_grant.specs.SeatLaws.{IsFresh}
use Rattle.wbt_grant.proofs.Entries.{entry_of-with, writer_number}
use Rattle.wbt_grant.proofs.Seats.{count_is_fresh}
use Rattle.wbt_table.specs.declared.layout.Layout.{Layout}
use Rattle.wbt_table.specs.declared.rule.View.{View}
use Rattle.wbt_table.specs.declared.rule.Granted.{Granted}
use Rattle.wbt_table.specs.Rule.{TimerFound}
use Rattle.wbt_table.proofs.Keeping.{own_same}
use Rattle.wbt_table.proofs.Calling.{Quiet}

-- a writer's record changes, but for what it has left
module _ (set' : Setting) (w : ℕ) (x : WriterRecord) (writers : List WriterRecord) (its : x.writer ≡ (writer_in set' w writers).writer)
    (left : x.left ≡ (writer_in set' w writers).left) where
  lefts_same : (v : ℕ) → (writer_in set' v (with_writer x writers)).left ≡ (writer_in set' v writers).left
  lefts_same v = ap (λ (y : WriterRecord). y.left) (entry_of-with (λ (y : WriterRecord). y.writer) (holding v (min 32 set'.cap)) v x writers)
      ∙ cond_both (eqb v x.writer) x (writer_in set' v writers) (λ (y : WriterRecord). y.left ≡ (writer_in set' v writers).left)
      (λ t. left ∙ ap (λ (u : ℕ). (writer_in set' u writers).left) (sym (eqb-true v x.writer t ∙ its ∙ writer_number set' w writers)))
      (λ t. refl)

module _ (set' : Setting) (n : ℕ) (writers : List WriterRecord) where
  lefts_counted : (who : Who) (x : Counter) (v : ℕ) → (writer_in set' v (writers_counted set' who x n writers)).left ≡ (writer_in set' v writers).left
  lefts_counted (Writer w) (Domain d) v = lefts_same set' w (keeping_reading set' w (Domain d) n (writer_in set' w writers)) writers refl refl v
  lefts_counted (Writer w) (Context k) v =
      let y : WriterRecord = writer_in set' w writers in
      let z : WriterRecord = record y { context_reading = Some n } in
      lefts_same set' w (keeping_reading set' w (Context k) n y) writers
      (cond_both (eqb (set'.works_in w) k) z y (λ (u : WriterRecord). u.writer ≡ y.writer) (λ t. refl) (λ t. refl))
      (cond_both (eqb (set'.works_in w) k) z y (λ (u : WriterRecord). u.left ≡ y.left) (λ t. refl) (λ t. refl)) v
  lefts_counted (Cpu i) x v = refl
  lefts_counted Timer x v = refl

lefts_limited : (set' : Setting) (d : ℕ) (triple : Limits) (writers : List WriterRecord) (who : Who) (v : ℕ)
    → (writer_in set' v (writers_limited set' who d triple writers)).left ≡ (writer_in set' v writers).left
lefts_limited set' d triple writers (Writer w) v = lefts_same set' w (keeping_limits d triple (writer_in set' w writers)) writers refl refl v
lefts_limited set' d triple writers (Cpu i) v = refl
lefts_limited set' d triple writers Timer v = refl

-- the record has the same debts, and what tells its own numbers
module _ (set' : Setting) (r : CpuRecord) where
  loaded_same : (r' : CpuRecord) → r'.page_steps ≡ r.page_steps → r'.events ≡ r.events → r'.debts ≡ r.debts → r'.folds ≡ r.folds
      → (x : Counter) → own_told set' x r' ≡ own_told set' x r
  loaded_same r' page_steps events debts folds x = own_same set' x r r' record { page_steps = page_steps; events = events; debts = debts; folds = folds }

pub count_quiet : (set' : Setting) (who : Who) (x : Counter) (n : ℕ) (r : CpuRecord) → Quiet set' r (count_record set' who x n r)
count_quiet set' who x n r = record {
  steps = refl;
  page_steps = refl;
  debts = refl;
  own = loaded_same set' r (count_record set' who x n r) refl refl refl refl;
  lefts = lefts_counted set' _ r.writers who x;
}

pub first_quiet : (set' : Setting) (d n : ℕ) (r : CpuRecord) → Quiet set' r (first_record d n r)
first_quiet set' d n r = record {
  steps = refl;
  page_steps = refl;
  debts = refl;
  own = loaded_same set' r (first_record d n r) refl refl refl refl;
  lefts = λ w. refl;
}

pub middle_quiet : (set' : Setting) (d n : ℕ) (r : CpuRecord) → Quiet set' r (middle_record d n r)
middle_quiet set' d n r = record {
  steps = refl;
  page_steps = refl;
  debts = refl;
  own = loaded_same set' r (middle_record d n r) refl refl refl refl;
  lefts = λ w. refl;
}

pub limits_quiet : (set' : Setting) (who : Who) (d n : ℕ) (r : CpuRecord) → Quiet set' r (limits_record set' who d n r)
limits_quiet set' who d n r = record {
  steps = refl;
  page_steps = refl;
  debts = refl;
  own = loaded_same set' r (limits_record set' who d n r) refl refl refl refl;
  lefts = lefts_limited set' d (held_of set' d (triples_after set' d n r)).limits r.writers who;
}

-- no version that the record has is after the one that a load found
fresh_here : (set' : Setting) (who : Who) (version : ℕ) (x : Counter) (s : State) → is_timer who ≡ false → IsFresh set' who version x s
    → NoneAhead version x (s.cpu (cpu_for set' who))
fresh_here set' (Writer w) version x s by fresh = fresh
fresh_here set' (Cpu i) version x s by fresh = fresh
fresh_here set' Timer version x s by fresh = absurd (true≢false by)

pub newest_found : (key : Layout) (who : Who) (x : Counter) (n : ℕ) (grants : Option Granted) (q r : CpuRecord) (v : View) → is_timer who ≡ false
    → given grants q ≡ r → Found (turn key (count who x) grants) n q v → NoneAhead (version_in n) x r
newest_found key who x n grants q r v by with_it found =
    subst (λ (z : ℕ × CpuRecord). NoneAhead (version_in z.0) x z.1) (λ i. (found.found_is i, (found.record_is ∙ with_it) i))
    (fresh_here (setting key) who _ x found.state by (count_is_fresh (setting key) found.state found.lawful found.rule who x))

pub newest_by_timer : (key : Layout) (x : Counter) (n : ℕ) (r : TimerRecord) (v : View) → TimerFound (turn key (count Timer x) None) n r v
    → AreBehind (version_in n) x r.readings
newest_by_timer key x n r v found =
    subst (λ (z : ℕ × TimerRecord). AreBehind (version_in z.0) x z.1.readings) (λ i. (found.found_is i, found.record_is i))
    (count_is_fresh (setting key) found.state found.lawful found.rule Timer x)
