-- What is printed after steps of the relation that are told: a column of each domain, with its exact count and its peak.
use Rattle.std.proofs.Common.{◌≡◌, ℕ, zero, suc, ◌+◌, ◌<◌, max, Bool, true, false, ◌&&◌, cond, eqb, ℤ, pos, negsuc, ◌+ℤ◌, List, [], ◌∷◌, ◌++◌, take, refl, sym, ◌∙◌, ap, subst, arith, Some, eq-eqb, ne_eqb, eqb-true}
use Rattle.std.proofs.lemmas.Int.{ints}
use Rattle.std.proofs.lemmas.Bool.{cond-true, cond-false}
use Rattle.std.specs.List.{slice_get}
use mathlib.Core.Logic.{dite}
use native.Mathlib.Decide.{ℕ_discrete}
use Rattle.wbt_replay_order.proofs.Common.{put, one_if, Context, Book, Bits, is_claimable, bits_after, places, grant, page_now, last_found, AreAllowed, Rule, Setting, IsSetting, is_inside, context_count, domain_count, deeds_of, StepKind, is_in, change_in, StepEntry, pages_after, entries_of, plain_entry, change_entry}
use Rattle.wbt_counter.specs.declared.counter.Counter.TheVariants.{Domain}
use Rattle.wbt_book.specs.declared.event.Event.TheVariants as event
use Rattle.wbt_book.proofs.Ledgers as ledgers
use Rattle.wbt_grant.specs.Kinds.{Step, add, fold, clear, count, dirty, look, claim, complete, back, peak, unseal, thresh, publish, first, middle, limits, mark, unmark, with_record, with_event, dirty_step, after, run, Allowed, event_back, back_step, MayDirty, MayClaim, MayComplete, MayGiveBack}
use Rattle.wbt_grant.specs.Record
use Rattle.wbt_grant.specs.State as throttle
use Rattle.wbt_grant.proofs.Frames.{exact_shift}
use Rattle.wbt_grant.proofs.Whole.{step_keeps}
use Rattle.wbt_grant.specs.declared.who.StepKind.TheVariants as kind
use Rattle.wbt_grant.specs.declared.who.Who.TheVariants.{Writer, Cpu, Timer}
use Rattle.wbt_journal.specs.Steps.{raised, columns_after, step_line, step_lines}
use Rattle.wbt_journal.specs.declared.columns.Column.{Column}
use Rattle.wbt_replay_order.specs.Claims.Bound.{columns_at}
use Rattle.wbt_replay_order.proofs.Facts.Lists.{either}
use Rattle.wbt_replay_order.specs.Claims.Path.{tells}

-- the column of a domain in a state of the relation, and those of so many domains from one on
abbrev pub column_in : (set : Setting) (base : ℕ → ℕ) (t : throttle.State) (d : ℕ) → Column
column_in set base t d = record { count = pos (domain_count set t.book d); base = base d; peak = t.peak d }

abbrev pub columns_in : (set : Setting) (base : ℕ → ℕ) (t : throttle.State) (d n : ℕ) → List Column
columns_in set base t d zero = []
columns_in set base t d (suc n) = column_in set base t d ∷ columns_in set base t (d + 1) n

-- the homes tell in which domains a page's context is
abbrev pub AreHomes : (set : Setting) (homes : List ℕ) → Type 0
AreHomes set homes = (p d : ℕ) → p < set.pages → is_in homes (set.home p) d ≡ is_inside set d (set.home p)

-- ---- one step, one domain

-- An entry tells what becomes of each context's pages, and of each domain's count and peak.
pub record Tells (set : Setting) (homes : List ℕ) (e : StepEntry) (t u : throttle.State) : Type 0 where
  pub pages : (k : ℕ) → pages_after k e (pos (context_count set t.book k)) ≡ pos (context_count set u.book k)
  pub count : (d : ℕ) → pos (domain_count set t.book d) +ℤ change_in homes d e ≡ pos (domain_count set u.book d)
  pub peak : (d : ℕ) → max (t.peak d) (raised e.kind e.domain d e.peak) ≡ u.peak d

columns_step : (set : Setting) (homes : List ℕ) (base : ℕ → ℕ) (e : StepEntry) (t u : throttle.State) → Tells set homes e t u → (d n : ℕ)
    → columns_after homes d e (columns_in set base t d n) ≡ columns_in set base u d n
columns_step set homes base e t u told d zero = refl
columns_step set homes base e t u told d (suc n) =
    let rest = columns_step set homes base e t u told (d + 1) n in
    ap (λ (z : ℤ). (record { count = z; base = base d; peak = max (t.peak d) (raised e.kind e.domain d e.peak) }) ∷ columns_after homes (d + 1) e (columns_in set base t (d + 1) n)) (told.count d)
    ∙ ap (λ (k : ℕ). (record { count = pos (domain_count set u.book d); base = base d; peak = k }) ∷ columns_after homes (d + 1) e (columns_in set base t (d + 1) n)) (told.peak d)
    ∙ ap (λ (cs : List Column). column_in set base u d ∷ cs) rest

-- a change that is none
nothing_more : (n : ℕ) (b : Bool) → pos n +ℤ cond b (pos 0) (pos 0) ≡ pos n
nothing_more n true = omega (arith, ints)
nothing_more n false = omega (arith, ints)

nothing_here : (n : ℕ) (b : Bool) → cond b (pos n +ℤ pos 0) (pos n) ≡ pos n
nothing_here n true = omega (arith, ints)
nothing_here n false = refl

-- a step that changes no count and raises no peak
quiet : (set : Setting) (homes : List ℕ) (who : ℕ) (k : StepKind) (t u : throttle.State) → u.book ≡ t.book → u.peak ≡ t.peak
    → ((d : ℕ) → raised k 0 d 0 ≡ 0) → Tells set homes (plain_entry who k) t u
quiet set homes who k t u book peaks none = record {
  pages = λ c. nothing_here (context_count set t.book c) (eqb 0 c) ∙ ap (λ (b : Book). pos (context_count set b c)) (sym book);
  count = λ d. nothing_more (domain_count set t.book d) (is_in homes 0 d) ∙ ap (λ (b : Book). pos (domain_count set b d)) (sym book);
  peak = λ d. let same : u.peak d ≡ t.peak d = ap (λ (f : ℕ → ℕ). f d) peaks in omega (arith, none d, same);
}

-- a step on a page that changes its places
changed : (b : Bool) (n m x y : ℕ) (a : ℤ) → n + cond b x 0 ≡ m + cond b y 0 → pos y ≡ pos x +ℤ a → pos m +ℤ cond b a (pos 0) ≡ pos n
changed true n m x y a shift more = omega (arith, ints, shift, more)
changed false n m x y a shift more = omega (arith, ints, shift)

moved : (b : Bool) (n m x y : ℕ) (a : ℤ) → n + cond b x 0 ≡ m + cond b y 0 → pos y ≡ pos x +ℤ a → cond b (pos m +ℤ a) (pos m) ≡ pos n
moved true n m x y a shift more = omega (arith, ints, shift, more)
moved false n m x y a shift more = omega (arith, ints, shift)

on_page : (set : Setting) (homes : List ℕ) (home : AreHomes set homes) (ok : IsSetting set) (who p : ℕ) (k : StepKind) (a : ℤ) (b : Bits) (t u : throttle.State)
    → p < set.pages → u.book ≡ put t.book p b → u.peak ≡ t.peak → pos (places b) ≡ pos (places (t.book p)) +ℤ a
    → ((d : ℕ) → raised k 0 d 0 ≡ 0) → Tells set homes (change_entry who k (set.home p) a) t u
on_page set homes home ok who p k a b t u less book peaks more none = record {
  pages = λ c.
      let shift = exact_shift set t.book p b less (ok.homes p less) (Context c) in
      moved (eqb (set.home p) c) (context_count set (put t.book p b) c) (context_count set t.book c) (places (t.book p)) (places b) a shift more
      ∙ ap (λ (f : Book). pos (context_count set f c)) (sym book);
  count = λ d.
      let shift = exact_shift set t.book p b less (ok.homes p less) (Domain d) in
      ap (λ (c : Bool). pos (domain_count set t.book d) +ℤ cond c a (pos 0)) (home p d less)
      ∙ changed (is_inside set d (set.home p)) (domain_count set (put t.book p b) d) (domain_count set t.book d) (places (t.book p)) (places b) a shift more
      ∙ ap (λ (f : Book). pos (domain_count set f d)) (sym book);
  peak = λ d. let same : u.peak d ≡ t.peak d = ap (λ (f : ℕ → ℕ). f d) peaks in omega (arith, none d, same);
}

-- a step on a page that doesn't
same_places : (set : Setting) (homes : List ℕ) (ok : IsSetting set) (who p : ℕ) (k : StepKind) (b : Bits) (t u : throttle.State)
    → p < set.pages → u.book ≡ put t.book p b → u.peak ≡ t.peak → places b ≡ places (t.book p)
    → ((d : ℕ) → raised k 0 d 0 ≡ 0) → Tells set homes (plain_entry who k) t u
same_places set homes ok who p k b t u less book peaks same none = record {
  pages = λ c.
      let shift = exact_shift set t.book p b less (ok.homes p less) (Context c) in
      let on = ap (λ (n : ℕ). cond (eqb (set.home p) c) n 0) same in
      let count : context_count set t.book c ≡ context_count set (put t.book p b) c = omega (arith, shift, on) in
      nothing_here (context_count set t.book c) (eqb 0 c) ∙ ap pos count ∙ ap (λ (f : Book). pos (context_count set f c)) (sym book);
  count = λ d.
      let shift = exact_shift set t.book p b less (ok.homes p less) (Domain d) in
      let on = ap (λ (n : ℕ). cond (is_inside set d (set.home p)) n 0) same in
      let count : domain_count set t.book d ≡ domain_count set (put t.book p b) d = omega (arith, shift, on) in
      nothing_more (domain_count set t.book d) (is_in homes 0 d) ∙ ap pos count ∙ ap (λ (f : Book). pos (domain_count set f d)) (sym book);
  peak = λ d. let is : u.peak d ≡ t.peak d = ap (λ (f : ℕ → ℕ). f d) peaks in omega (arith, none d, is);
}

raises : (t : throttle.State) (of hard d : ℕ) → max (t.peak d) (raised kind.Peak of d hard) ≡ put t.peak of (max (t.peak of) hard) d
raises t of hard d = dite (ℕ_discrete d of)
    (λ here.
    ap (λ (b : Bool). max (t.peak d) (cond b hard 0)) (eq-eqb of d (sym here))
    ∙ ap (λ (k : ℕ). max (t.peak k) hard) here
    ∙ sym (cond-true (eqb d of) (max (t.peak of) hard) (t.peak d) (eq-eqb d of here)))
    (λ apart.
    let none : raised kind.Peak of d hard ≡ 0 = cond-false (eqb of d) hard 0 (ne_eqb of d (λ e. apart (sym e))) in
    let same : max (t.peak d) (raised kind.Peak of d hard) ≡ t.peak d = omega (arith, none) in
    same ∙ sym (cond-false (eqb d of) (max (t.peak of) hard) (t.peak d) (ne_eqb d of apart)))

-- ---- each kind of step

same_columns : (set : Setting) (base : ℕ → ℕ) (t u : throttle.State) → u.book ≡ t.book → u.peak ≡ t.peak → (d n : ℕ)
    → columns_in set base t d n ≡ columns_in set base u d n
same_columns set base t u book peaks d zero = refl
same_columns set base t u book peaks d (suc n) =
    ap (λ (f : Book). (record { count = pos (domain_count set f d); base = base d; peak = t.peak d }) ∷ columns_in set base t (d + 1) n) (sym book)
    ∙ ap (λ (f : ℕ → ℕ). (record { count = pos (domain_count set u.book d); base = base d; peak = f d }) ∷ columns_in set base t (d + 1) n) (sym peaks)
    ∙ ap (λ (cs : List Column). column_in set base u d ∷ cs) (same_columns set base t u book peaks (d + 1) n)

-- A step's entry tells it, or the step has none and changes neither the book nor a peak.
abbrev pub AreTold : (set : Setting) (homes : List ℕ) (entries : List StepEntry) (t u : throttle.State) → Type 0
AreTold set homes [] t u = (u.book ≡ t.book) × (u.peak ≡ t.peak)
AreTold set homes (e ∷ []) t u = Tells set homes e t u
AreTold set homes (e ∷ f ∷ more) t u = ⊥

told_columns : (set : Setting) (homes : List ℕ) (base : ℕ → ℕ) (entries : List StepEntry) (t u : throttle.State) → AreTold set homes entries t u → (n : ℕ)
    → columns_at homes (columns_in set base t 0 n) entries ≡ columns_in set base u 0 n
told_columns set homes base [] t u same n = same_columns set base t u same.0 same.1 0 n
told_columns set homes base (e ∷ []) t u told n = columns_step set homes base e t u told 0 n
told_columns set homes base (e ∷ f ∷ more) t u told n = absurd told

-- what a write of a page makes that is dirty already, and one that isn't
abbrev already : (set : Setting) (w p : ℕ) (t : throttle.State) → throttle.State
already set w p t = with_record (set.seat w) (dirty_step set (set.seat w) p t (Record.found_already p (t.cpu (set.seat w)))) t

abbrev newly : (set : Setting) (w p : ℕ) (t : throttle.State) → throttle.State
newly set w p t = with_event (event.Dirty p) p (with_record (set.seat w) (dirty_step set (set.seat w) p t (Record.dirtied set w p (t.cpu (set.seat w)))) t)

module _ (set : Setting) (homes : List ℕ) (home : AreHomes set homes) (ok : IsSetting set) (t : throttle.State) (rule : Rule set t) where
  fresh : (w p : ℕ) → MayDirty set w p (t.cpu (set.seat w)) → (t.book p).dirty ≡ false → (u : throttle.State)
      → u.book ≡ put t.book p (bits_after (event.Dirty p) (t.book p)) → u.peak ≡ t.peak
      → Tells set homes (change_entry (set.seat w) kind.Dirty (set.home p) (pos 1)) t u
  fresh w p may clean u book peaks =
      let none : one_if (t.book p).dirty ≡ 0 = ap one_if clean in
      on_page set homes home ok (set.seat w) p kind.Dirty (pos 1) (bits_after (event.Dirty p) (t.book p)) t u may.page_is book peaks
      (omega (arith, ints, none)) (λ d. refl)

  claimed : (i p : ℕ) → MayClaim set i p (t.cpu i) → page_now set p t ≡ last_found (t.cpu i).last → (u : throttle.State)
      → u.book ≡ put t.book p (bits_after (event.Claim p) (t.book p)) → u.peak ≡ t.peak → Tells set homes (plain_entry i kind.Claim) t u
  claimed i p may as_found u book peaks =
      let is : set.coding.page_bits (last_found (t.cpu i).last) p ≡ t.book p = ap (λ (n : ℕ). set.coding.page_bits n p)
      (sym as_found) ∙ ok.words_hold t.book p may.page_is in
      let can : is_claimable (t.book p) ≡ true = ap is_claimable (sym is) ∙ may.found_claimable in
      let both = ledgers.claimable_bits (t.book p).dirty (t.book p).writeback can in
      same_places set homes ok i p kind.Claim (bits_after (event.Claim p) (t.book p)) t u may.page_is book peaks
      (omega (arith, both.0, both.1)) (λ d. refl)

  completed : (i p : ℕ) → MayComplete set i p (t.cpu i)
      → Tells set homes (change_entry i kind.Complete (set.home p) (negsuc 0)) t (after set (complete i p) t)
  completed i p may =
      let under : one_if (t.book p).writeback ≡ 1 = ap one_if
      (ledgers.held_is_under_writeback set.cpus t.book (λ j. deeds_of (t.cpu j)) i p rule.ledger may.cpu_is may.holds_it) in
      on_page set homes home ok i p kind.Complete (negsuc 0) (bits_after (event.Complete p) (t.book p)) t (after set (complete i p) t) may.page_is refl refl
      (omega (arith, ints, under)) (λ d. refl)

  -- a page that is given back stays dirty, and where it was dirty it leaves one of its two places
  given_back : (i p : ℕ) → MayGiveBack set i p (t.cpu i) → (b : Bool) → (t.book p).dirty ≡ b → (u : throttle.State)
      → u.book ≡ put t.book p (bits_after (event_back p (t.book p)) (t.book p)) → u.peak ≡ t.peak
      → Tells set homes (cond b (change_entry i kind.Back (set.home p) (negsuc 0)) (plain_entry i kind.Back)) t u
  given_back i p may true is u book peaks =
      let under : one_if (t.book p).writeback ≡ 1 = ap one_if
      (ledgers.held_is_under_writeback set.cpus t.book (λ j. deeds_of (t.cpu j)) i p rule.ledger may.cpu_is may.holds_it) in
      let dirty : one_if (t.book p).dirty ≡ 1 = ap one_if is in
      on_page set homes home ok i p kind.Back (negsuc 0) (bits_after (event.Absorb p) (t.book p)) t u may.page_is
      (book ∙ ap (λ (c : Bool). put t.book p (bits_after (cond c (event.Absorb p) (event.Redirty p)) (t.book p))) is) peaks
      (omega (arith, ints, under, dirty)) (λ d. refl)
  given_back i p may false is u book peaks =
      let under : one_if (t.book p).writeback ≡ 1 = ap one_if
      (ledgers.held_is_under_writeback set.cpus t.book (λ j. deeds_of (t.cpu j)) i p rule.ledger may.cpu_is may.holds_it) in
      let clean : one_if (t.book p).dirty ≡ 0 = ap one_if is in
      same_places set homes ok i p kind.Back (bits_after (event.Redirty p) (t.book p)) t u may.page_is
      (book ∙ ap (λ (c : Bool). put t.book p (bits_after (cond c (event.Absorb p) (event.Redirty p)) (t.book p))) is) peaks
      (omega (arith, under, clean)) (λ d. refl)

  -- and where its word is another one than the look had found nothing changes
  backs : (i p : ℕ) → MayGiveBack set i p (t.cpu i)
      → Tells set homes (cond (eqb (page_now set p t) (last_found (t.cpu i).last) && (t.book p).dirty) (change_entry i kind.Back (set.home p) (negsuc 0)) (plain_entry i kind.Back)) t (after set (back i p) t)
  backs i p may = by_word (eqb (page_now set p t) (last_found (t.cpu i).last))
    where
      made : throttle.State
      made = with_event (event_back p (t.book p)) p (with_record i (back_step set p t (Record.page_stepped (Record.given_back set p (t.book p).dirty (t.cpu i)))) t)

      missed : throttle.State
      missed = with_record i (back_step set p t (t.cpu i)) t

      by_word : (b : Bool) → Tells set homes (cond (b && (t.book p).dirty) (change_entry i kind.Back (set.home p) (negsuc 0)) (plain_entry i kind.Back)) t (cond b made missed)
      by_word true = given_back i p may (t.book p).dirty refl made refl refl
      by_word false = quiet set homes i kind.Back t missed refl refl (λ d. refl)

  quietly : (step : Step) (who : ℕ) (k : StepKind) → (after set step t).book ≡ t.book → (after set step t).peak ≡ t.peak
      → ((d : ℕ) → raised k 0 d 0 ≡ 0) → Tells set homes (plain_entry who k) t (after set step t)
  quietly step who k book peaks none = quiet set homes who k t (after set step t) book peaks none

  step_tells : (step : Step) → Allowed set step t → AreTold set homes (entries_of set step t) t (after set step t)
  step_tells (add i x) may = quietly (add i x) i kind.Add refl refl (λ k. refl)
  step_tells (fold i x) may = quietly (fold i x) i kind.Fold refl refl (λ k. refl)
  step_tells (clear i x) may = quietly (clear i x) i kind.Clear refl refl (λ k. refl)
  step_tells (count (Writer w) x) may = quietly (count (Writer w) x) (set.seat w) kind.Count refl refl (λ k. refl)
  step_tells (count (Cpu i) x) may = quietly (count (Cpu i) x) i kind.Count refl refl (λ k. refl)
  step_tells (count Timer x) may = quietly (count Timer x) set.cpus kind.Count refl refl (λ k. refl)
  step_tells (dirty w p) may = by_bit (t.book p).dirty refl
    where
      by_bit : (b : Bool) → (t.book p).dirty ≡ b
          → Tells set homes (cond (t.book p).dirty (plain_entry (set.seat w) kind.Dirty) (change_entry (set.seat w) kind.Dirty (set.home p) (pos 1))) t (after set (dirty w p) t)
      by_bit true is = subst (λ (c : Bool). Tells set homes (cond c (plain_entry (set.seat w) kind.Dirty) (change_entry (set.seat w) kind.Dirty (set.home p) (pos 1))) t (cond c (already set w p t) (newly set w p t))) (sym is)
          (quiet set homes (set.seat w) kind.Dirty t (already set w p t) refl refl (λ d. refl))
      by_bit false is = subst (λ (c : Bool). Tells set homes (cond c (plain_entry (set.seat w) kind.Dirty) (change_entry (set.seat w) kind.Dirty (set.home p) (pos 1))) t (cond c (already set w p t) (newly set w p t))) (sym is)
          (fresh w p may is (newly set w p t) refl refl)
  step_tells (look i p) may = quietly (look i p) i kind.Look refl refl (λ k. refl)
  step_tells (claim i p) may =
      either (Tells set homes (plain_entry i kind.Claim) t) (eqb (page_now set p t) (last_found (t.cpu i).last)) _ _
      (λ found. claimed i p may (eqb-true (page_now set p t) (last_found (t.cpu i).last) found) _ refl refl)
      (λ other. quiet set homes i kind.Claim t _ refl refl (λ d. refl))
  step_tells (complete i p) may = completed i p may
  step_tells (back i p) may = backs i p may
  step_tells (peak d hard) may = record {
    pages = λ c. nothing_here (context_count set t.book c) (eqb 0 c);
    count = λ k. nothing_more (domain_count set t.book k) (is_in homes 0 k);
    peak = λ k. raises t d hard k;
  }
  step_tells (unseal d) may = quietly (unseal d) set.cpus kind.Unseal refl refl (λ k. refl)
  step_tells (thresh d triple) may = quietly (thresh d triple) set.cpus kind.Thresh refl refl (λ k. refl)
  step_tells (publish d triple) may = quietly (publish d triple) set.cpus kind.Publish refl refl (λ k. refl)
  step_tells (first i d) may = quietly (first i d) i kind.First refl refl (λ k. refl)
  step_tells (middle i d) may = quietly (middle i d) i kind.Middle refl refl (λ k. refl)
  step_tells (limits (Writer w) d) may = quietly (limits (Writer w) d) (set.seat w) kind.Limits refl refl (λ k. refl)
  step_tells (limits (Cpu i) d) may = quietly (limits (Cpu i) d) i kind.Limits refl refl (λ k. refl)
  step_tells (limits Timer d) may = quietly (limits Timer d) set.cpus kind.Limits refl refl (λ k. refl)
  step_tells (mark i m) may = quietly (mark i m) i kind.Mark refl refl (λ k. refl)
  step_tells (unmark i m) may = quietly (unmark i m) i kind.Unmark refl refl (λ k. refl)
  step_tells (grant w pages) may = (refl, refl)

  step_columns : (base : ℕ → ℕ) (n : ℕ) (step : Step) → Allowed set step t
      → columns_at homes (columns_in set base t 0 n) (entries_of set step t) ≡ columns_in set base (after set step t) 0 n
  step_columns base n step may = told_columns set homes base (entries_of set step t) t (after set step t) (step_tells step may) n

-- ---- steps one after another

columns_at_append : (homes : List ℕ) (columns : List Column) (before more : List StepEntry)
    → columns_at homes columns (before ++ more) ≡ columns_at homes (columns_at homes columns before) more
columns_at_append homes columns [] more = refl
columns_at_append homes columns (e ∷ before) more = columns_at_append homes (columns_after homes 0 e columns) before more

pub columns_follow : (set : Setting) (homes : List ℕ) → AreHomes set homes → IsSetting set → (base : ℕ → ℕ) (n : ℕ) (steps : List Step) (t : throttle.State)
    → Rule set t → AreAllowed set steps t → columns_at homes (columns_in set base t 0 n) (tells set steps t) ≡ columns_in set base (run set steps t) 0 n
columns_follow set homes home ok base n [] t rule allowed = refl
columns_follow set homes home ok base n (step ∷ steps) t rule allowed =
    columns_at_append homes (columns_in set base t 0 n) (entries_of set step t) (tells set steps (after set step t))
    ∙ ap (λ (cs : List Column). columns_at homes cs (tells set steps (after set step t))) (step_columns set homes home ok t rule base n step allowed.0)
    ∙ columns_follow set homes home ok base n steps (after set step t) (step_keeps set step t ok rule allowed.0) allowed.1

-- the pages of a context after steps, where it begins with so many
abbrev pub pages_at : (k : ℕ) (pages : ℤ) (steps : List StepEntry) → ℤ
pages_at k pages [] = pages
pages_at k pages (e ∷ steps) = pages_at k (pages_after k e pages) steps

pages_at_append : (k : ℕ) (pages : ℤ) (before more : List StepEntry) → pages_at k pages (before ++ more) ≡ pages_at k (pages_at k pages before) more
pages_at_append k pages [] more = refl
pages_at_append k pages (e ∷ before) more = pages_at_append k (pages_after k e pages) before more

told_pages : (set : Setting) (homes : List ℕ) (k : ℕ) (entries : List StepEntry) (t u : throttle.State) → AreTold set homes entries t u
    → pages_at k (pos (context_count set t.book k)) entries ≡ pos (context_count set u.book k)
told_pages set homes k [] t u same = ap (λ (b : Book). pos (context_count set b k)) (sym same.0)
told_pages set homes k (e ∷ []) t u told = told.pages k
told_pages set homes k (e ∷ f ∷ more) t u told = absurd told

pub pages_follow : (set : Setting) (homes : List ℕ) → AreHomes set homes → IsSetting set → (k : ℕ) (steps : List Step) (t : throttle.State)
    → Rule set t → AreAllowed set steps t → pages_at k (pos (context_count set t.book k)) (tells set steps t) ≡ pos (context_count set (run set steps t).book k)
pages_follow set homes home ok k [] t rule allowed = refl
pages_follow set homes home ok k (step ∷ steps) t rule allowed =
    pages_at_append k (pos (context_count set t.book k)) (entries_of set step t) (tells set steps (after set step t))
    ∙ ap (λ (z : ℤ). pages_at k z (tells set steps (after set step t)))
    (told_pages set homes k (entries_of set step t) t (after set step t) (step_tells set homes home ok t rule step allowed.0))
    ∙ pages_follow set homes home ok k steps (after set step t) (step_keeps set step t ok rule allowed.0) allowed.1

-- ---- the lines

line_of : (cpus : ℕ) (homes : List ℕ) (number : ℕ) (columns : List Column) (steps : List StepEntry) (k : ℕ) (step : StepEntry) → slice_get steps k ≡ Some step
    → slice_get (step_lines cpus homes number columns steps) k ≡ Some (step_line cpus (number + k) step (columns_at homes columns (take (suc k) steps)))
line_of cpus homes number columns [] k step is = cc
line_of cpus homes number columns (x ∷ steps) zero step is =
    let same : x ≡ step = cc in
    let here : number ≡ number + 0 = omega arith in
    ap (λ (y : StepEntry). Some (step_line cpus number y (columns_after homes 0 x columns))) same
    ∙ ap (λ (n : ℕ). Some (step_line cpus n step (columns_after homes 0 x columns))) here
line_of cpus homes number columns (x ∷ steps) (suc k) step is =
    let next : number + 1 + k ≡ number + suc k = omega arith in
    line_of cpus homes (number + 1) (columns_after homes 0 x columns) steps k step is
    ∙ ap (λ (n : ℕ). Some (step_line cpus n step (columns_at homes (columns_after homes 0 x columns) (take (suc k) steps)))) next

-- the line of each step, by its place
pub line_at : (cpus : ℕ) (homes : List ℕ) (columns : List Column) (steps : List StepEntry) (k : ℕ) (step : StepEntry) → slice_get steps k ≡ Some step
    → slice_get (step_lines cpus homes 1 columns steps) k ≡ Some (step_line cpus (k + 1) step (columns_at homes columns (take (k + 1) steps)))
line_at cpus homes columns steps k step is =
    let number : 1 + k ≡ k + 1 = omega arith in
    let place : suc k ≡ k + 1 = omega arith in
    line_of cpus homes 1 columns steps k step is
    ∙ ap (λ (n : ℕ). Some (step_line cpus n step (columns_at homes columns (take (suc k) steps)))) number
    ∙ ap (λ (n : ℕ). Some (step_line cpus (k + 1) step (columns_at homes columns (take n steps)))) place
