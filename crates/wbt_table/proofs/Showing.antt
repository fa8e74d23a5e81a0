-- A word changes as its part of the state does, and the other parts show what they showed.
use Rattle.std.proofs.Common.{◌≡◌, ◌≢◌, ℕ, ◌+◌, ◌<◌, ◌≤◌, Bool, List, length, get_or, set, ℤ, sym, refl, ap, ◌∙◌, subst, arith, get_or-set_same, get_or-set_other, ⊎_elim}
use Rattle.std.proofs.Math.Path.{fun_ext}
use mathlib.Core.Logic.{dite}
use native.Mathlib.Decide.{ℕ_discrete}
use Rattle.std.proofs.lemmas.Bool.{cond-true, cond-false, cases_Bool}
use Rattle.std.proofs.lemmas.List.{set-get_or}
use Rattle.wbt_table.proofs.Common.{Counter, packed, own_word, is_same, put, one_if, Bits, IsSetting, State, sequence_now, setting, domains, HasCounter, limits_from, width, page_at, mark_at, shared_at, own_at, sequence_at, thresh_at, peak_at, Shows}
use Rattle.wbt_counter.specs.History.{History, sum_of}
use Rattle.wbt_counter.specs.Counters.{put_counter}
use Rattle.wbt_counter.proofs.Sums.{put_each}
use Rattle.wbt_counter.proofs.Debts.{is_same-true}
use Rattle.wbt_book.specs.Book.{Book}
use Rattle.wbt_book.specs.PageWords.{word_of, shared_word}
use Rattle.wbt_book.proofs.PageWords.{word_holds_neighbours, other_words_stay}
use Rattle.wbt_grant.specs.Kinds.{thresh_now}
use Rattle.wbt_grant.specs.StepWords.{SequenceBecomes, ThreshBecomes}
use Rattle.wbt_table.specs.declared.layout.Layout.{Layout}
use Rattle.wbt_table.specs.Layout.{inodes_from, peaks_from}
use Rattle.wbt_table.specs.Rule.{ShowsPages, ShowsMarks, ShowsShared, ShowsOwn, LimitWords, limit_words, ShowsLimits, ShowsPeaks}
use Rattle.wbt_table.proofs.Places.{page_inside, shared_inside, own_inside, shared_apart, own_apart, own_other}

-- nothing changes where a value is put again
pub put_again : {A : Type 0} (f : ℕ → A) (i : ℕ) (v : A) → v ≡ f i → ◌≡◌ {A = ℕ → A} (put f i v) f
put_again f i v e = fun_ext (λ j. put_each f i v (λ k x. x ≡ f k) e (λ k n. refl) j)

module _ (key : Layout) (words : List ℕ) where
  -- one entry of a part changes, at its place
  pages_put : (book : Book) (p v : ℕ) (b : Bits) → ShowsPages key words book → page_at p < length words
      → v ≡ shared_word (put book p b) p → ShowsPages key (set words (page_at p) v) (put book p b)
  pages_put book p v b old within is = record {
    each = λ q l. dite (ℕ_discrete (word_of q) (word_of p))
        (λ e. ap (λ (m : ℕ). get_or (set words (page_at p) v) (1 + m) 0) e ∙ get_or-set_same words (page_at p) v 0 within ∙ is
        ∙ sym (word_holds_neighbours (put book p b) p q e).one_word)
        (λ d. let ne : page_at q ≢ page_at p = λ e. d (omega arith) in
        get_or-set_other words (page_at p) (page_at q) v 0 ne ∙ old.each q l ∙ sym (other_words_stay book p q b d));
  }

  marks_put : (marked : ℕ → Bool) (n : ℕ) (b : Bool) (v : ℕ) → ShowsMarks key words marked → mark_at key n < length words
      → v ≡ one_if b → ShowsMarks key (set words (mark_at key n) v) (put marked n b)
  marks_put marked n b v old within is = record {
    each = put_each marked n b
        (λ m y. m < length key.inodes → get_or (set words (mark_at key n) v) (mark_at key m) 0 ≡ one_if y)
        (λ l. get_or-set_same words (mark_at key n) v 0 within ∙ is)
        (λ m d l. get_or-set_other words (mark_at key n) (mark_at key m) v 0 (λ e. d (omega arith)) ∙ old.each m l);
  }

  shared_put : (folds : Counter → History) (x : Counter) (h : History) (v : ℕ) → ShowsShared key words folds → HasCounter key x
      → shared_at key x < length words → v ≡ packed (length h) (sum_of h) → ShowsShared key (set words (shared_at key x) v) (put_counter folds x h)
  shared_put folds x h v old there within is = record {
    each = λ y has. ⊎_elim
        (λ t. let same : y ≡ x = is_same-true y x t in
        ap (λ (q : Counter). get_or (set words (shared_at key x) v) (shared_at key q) 0) same ∙ get_or-set_same words (shared_at key x) v 0 within ∙ is
        ∙ ap (λ (g : History). packed (length g) (sum_of g)) (sym (cond-true (is_same y x) h (folds y) t)))
        (λ t. get_or-set_other words (shared_at key x) (shared_at key y) v 0 (shared_apart key x y there has t) ∙ old.each y has
        ∙ ap (λ (g : History). packed (length g) (sum_of g)) (sym (cond-false (is_same y x) h (folds y) t)))
        (cases_Bool (is_same y x));
  }

  own_put : (own : Counter → ℕ → ℤ) (x : Counter) (i : ℕ) (z : ℤ) (v : ℕ) → ShowsOwn key words own → HasCounter key x
      → own_at key x i < length words → v ≡ own_word z → ShowsOwn key (set words (own_at key x i) v) (put_counter own x (put (own x) i z))
  own_put own x i z v old there within is = record {
    each = λ y j has l. ⊎_elim
        (λ t. let same : y ≡ x = is_same-true y x t in
        ap (λ (q : Counter). get_or (set words (own_at key x i) v) (own_at key q j) 0) same
        ∙ put_each (own x) i z (λ k w. k < key.cpus → get_or (set words (own_at key x i) v) (own_at key x k) 0 ≡ own_word w)
        (λ m. get_or-set_same words (own_at key x i) v 0 within ∙ is)
        (λ k d m. get_or-set_other words (own_at key x i) (own_at key x k) v 0 (own_other key x i k there d) ∙ old.each x k there m) j l
        ∙ ap (λ (f : ℕ → ℤ). own_word (f j)) (sym (cond-true (is_same y x) (put (own x) i z) (own y) t)))
        (λ t. get_or-set_other words (own_at key x i) (own_at key y j) v 0 (own_apart key x y i j there has t) ∙ old.each y j has l
        ∙ ap (λ (f : ℕ → ℤ). own_word (f j)) (sym (cond-false (is_same y x) (put (own x) i z) (own y) t)))
        (cases_Bool (is_same y x));
  }

  peaks_put : (peak : ℕ → ℕ) (d h v : ℕ) → ShowsPeaks key words peak → peak_at key d < length words
      → v ≡ h → ShowsPeaks key (set words (peak_at key d) v) (put peak d h)
  peaks_put peak d h v old within is = record {
    each = put_each peak d h
        (λ m y. m < domains key → get_or (set words (peak_at key d) v) (peak_at key m) 0 ≡ y)
        (λ l. get_or-set_same words (peak_at key d) v 0 within ∙ is)
        (λ m n l. get_or-set_other words (peak_at key d) (peak_at key m) v 0 (λ e. n (omega arith)) ∙ old.each m l);
  }

-- the word k changes, which isn't in a part
module _ (key : Layout) (words : List ℕ) (s : State) (ok : IsSetting (setting key)) (old : Shows key words s) (k v : ℕ) where
  first_stays : 0 < k → get_or (set words k v) 0 0 ≡ 0
  first_stays l = get_or-set_other words k 0 v 0 (λ e. omega arith) ∙ old.first

  pages_stay : inodes_from key ≤ k → ShowsPages key (set words k v) s.book
  pages_stay far = record {
    each = λ q l. let inside = page_inside key q ok l in get_or-set_other words k (page_at q) v 0 (λ e. omega arith) ∙ old.pages.each q l;
  }

  marks_stay : ((n : ℕ) → n < length key.inodes → mark_at key n ≢ k) → ShowsMarks key (set words k v) s.marked
  marks_stay apart = record { each = λ n l. get_or-set_other words k (mark_at key n) v 0 (apart n l) ∙ old.marks.each n l }

  shared_stay : ((x : Counter) → HasCounter key x → shared_at key x ≢ k) → ShowsShared key (set words k v) s.folds
  shared_stay apart = record { each = λ x h. get_or-set_other words k (shared_at key x) v 0 (apart x h) ∙ old.shared.each x h }

  own_stay : ((x : Counter) (i : ℕ) → HasCounter key x → i < key.cpus → own_at key x i ≢ k) → ShowsOwn key (set words k v) s.own
  own_stay apart = record { each = λ x i h l. get_or-set_other words k (own_at key x i) v 0 (apart x i h l) ∙ old.own.each x i h l }

  limits_stay : ((d : ℕ) → d < domains key → (sequence_at key d ≢ k) × (thresh_at key d ≢ k)) → ShowsLimits key (set words k v) (limit_words key s)
  limits_stay apart = record {
    sequence_words = λ d l. get_or-set_other words k (sequence_at key d) v 0 (apart d l).0 ∙ old.limits.sequence_words d l;
    thresh_words = λ d l. get_or-set_other words k (thresh_at key d) v 0 (apart d l).1 ∙ old.limits.thresh_words d l;
  }

  peaks_stay : ((d : ℕ) → d < domains key → peak_at key d ≢ k) → ShowsPeaks key (set words k v) s.peak
  peaks_stay apart = record { each = λ d l. get_or-set_other words k (peak_at key d) v 0 (apart d l) ∙ old.peaks.each d l }

-- One word of a part becomes what a step makes of it: then the words show the state after the step
module _ (key : Layout) (words : List ℕ) (s : State) (ok : IsSetting (setting key)) (old : Shows key words s) (long : length words ≡ width key) where
  pub page_shown : (p v : ℕ) (b : Bits) → p < (setting key).pages → v ≡ shared_word (put s.book p b) p
      → Shows key (set words (page_at p) v) (record s { book = put s.book p b })
  page_shown p v b l is = let inside = page_inside key p ok l in let k : ℕ = page_at p in record {
    first = first_stays key words s ok old k v (omega arith);
    pages = pages_put key words s.book p v b old.pages (omega arith) is;
    marks = marks_stay key words s ok old k v (λ m less e. omega arith);
    shared = shared_stay key words s ok old k v (λ y has e. omega arith);
    own = own_stay key words s ok old k v (λ y j has less e. omega arith);
    limits = limits_stay key words s ok old k v (λ m less. (λ e. omega arith, λ e. omega arith));
    peaks = peaks_stay key words s ok old k v (λ m less e. omega arith);
  }

  pub mark_shown : (n v : ℕ) (b : Bool) → n < length key.inodes → v ≡ one_if b
      → Shows key (set words (mark_at key n) v) (record s { marked = put s.marked n b })
  mark_shown n v b l is = let k : ℕ = mark_at key n in record {
    first = first_stays key words s ok old k v (omega arith);
    pages = pages_stay key words s ok old k v (omega arith);
    marks = marks_put key words s.marked n b v old.marks (omega arith) is;
    shared = shared_stay key words s ok old k v (λ y has e. omega arith);
    own = own_stay key words s ok old k v (λ y j has less e. omega arith);
    limits = limits_stay key words s ok old k v (λ m less. (λ e. omega arith, λ e. omega arith));
    peaks = peaks_stay key words s ok old k v (λ m less e. omega arith);
  }

  pub shared_shown : (x : Counter) (h : History) (v : ℕ) → HasCounter key x → v ≡ packed (length h) (sum_of h)
      → Shows key (set words (shared_at key x) v) (record s { folds = put_counter s.folds x h })
  shared_shown x h v there is = let inside = shared_inside key x there in let k : ℕ = shared_at key x in record {
    first = first_stays key words s ok old k v (omega arith);
    pages = pages_stay key words s ok old k v (omega arith);
    marks = marks_stay key words s ok old k v (λ m less e. omega arith);
    shared = shared_put key words s.folds x h v old.shared there (omega arith) is;
    own = own_stay key words s ok old k v (λ y j has less e. omega arith);
    limits = limits_stay key words s ok old k v (λ m less. (λ e. omega arith, λ e. omega arith));
    peaks = peaks_stay key words s ok old k v (λ m less e. omega arith);
  }

  pub own_shown : (x : Counter) (i : ℕ) (z : ℤ) (v : ℕ) → HasCounter key x → i < key.cpus → v ≡ own_word z
      → Shows key (set words (own_at key x i) v) (record s { own = put_counter s.own x (put (s.own x) i z) })
  own_shown x i z v there l is = let inside = own_inside key x i there l in let k : ℕ = own_at key x i in record {
    first = first_stays key words s ok old k v (omega arith);
    pages = pages_stay key words s ok old k v (omega arith);
    marks = marks_stay key words s ok old k v (λ m less e. omega arith);
    shared = shared_stay key words s ok old k v (λ y has e. let in_y = shared_inside key y has in omega arith);
    own = own_put key words s.own x i z v old.own there (omega arith) is;
    limits = limits_stay key words s ok old k v (λ m less. (λ e. omega arith, λ e. omega arith));
    peaks = peaks_stay key words s ok old k v (λ m less e. omega arith);
  }

  -- the sequence word or the thresh word of a domain changes: the state after that has the same other parts
  module _ (z : State) (d v : ℕ) (less : d < domains key) (book : ◌≡◌ {A = ℕ → Bits} z.book s.book) (marked : ◌≡◌ {A = ℕ → Bool} z.marked s.marked)
      (folds : ◌≡◌ {A = Counter → History} z.folds s.folds) (own : ◌≡◌ {A = Counter → ℕ → ℤ} z.own s.own)
      (peak : ◌≡◌ {A = ℕ → ℕ} z.peak s.peak) where
    limits_change : (k : ℕ) → limits_from key ≤ k → k < peaks_from key → ShowsLimits key (set words k v) (limit_words key z) → Shows key (set words k v) z
    limits_change k low high new = record {
      first = first_stays key words s ok old k v (omega arith);
      pages = subst (ShowsPages key (set words k v)) (sym book) (pages_stay key words s ok old k v (omega arith));
      marks = subst (ShowsMarks key (set words k v)) (sym marked) (marks_stay key words s ok old k v (λ m less e. omega arith));
      shared = subst (ShowsShared key (set words k v)) (sym folds) (shared_stay key words s ok old k v (λ y has e. let in_y = shared_inside key y has in omega arith));
      own = subst (ShowsOwn key (set words k v)) (sym own) (own_stay key words s ok old k v (λ y j has less e. let in_y = own_inside key y j has less in omega arith));
      limits = new;
      peaks = subst (ShowsPeaks key (set words k v)) (sym peak) (peaks_stay key words s ok old k v (λ m less e. omega arith));
    }

    pub sequence_shown : SequenceBecomes (setting key) d v s z → Shows key (set words (sequence_at key d) v) z
    sequence_shown becomes = let k : ℕ = sequence_at key d in limits_change k (omega arith) (omega arith) record {
      sequence_words = λ e l. dite (ℕ_discrete e d)
          (λ is. subst (λ (n : ℕ). get_or (set words k v) (sequence_at key n) 0 ≡ sequence_now (setting key) n z) (sym is)
          (get_or-set_same words k v 0 (omega arith) ∙ sym becomes.here))
          (λ n. get_or-set_other words k (sequence_at key e) v 0 (λ is. n (omega arith)) ∙ (old.limits.sequence_words e l ∙ sym (becomes.others e n)));
      thresh_words = λ e l. get_or-set_other words k (thresh_at key e) v 0 (λ is. omega arith) ∙ (old.limits.thresh_words e l ∙ sym (becomes.thresh_words e));
    }

    pub thresh_shown : ThreshBecomes (setting key) d v s z → Shows key (set words (thresh_at key d) v) z
    thresh_shown becomes = let k : ℕ = thresh_at key d in limits_change k (omega arith) (omega arith) record {
      sequence_words = λ e l. get_or-set_other words k (sequence_at key e) v 0 (λ is. omega arith) ∙ (old.limits.sequence_words e l ∙ sym (becomes.sequence_words e));
      thresh_words = λ e l. dite (ℕ_discrete e d)
          (λ is. subst (λ (n : ℕ). get_or (set words k v) (thresh_at key n) 0 ≡ thresh_now (setting key) n z) (sym is)
          (get_or-set_same words k v 0 (omega arith) ∙ sym becomes.here))
          (λ n. get_or-set_other words k (thresh_at key e) v 0 (λ is. n (omega arith)) ∙ (old.limits.thresh_words e l ∙ sym (becomes.others e n)));
    }

  pub peak_shown : (d hard v : ℕ) → d < domains key → v ≡ hard
      → Shows key (set words (peak_at key d) v) (record s { peak = put s.peak d hard })
  peak_shown d hard v l is = let k : ℕ = peak_at key d in record {
    first = first_stays key words s ok old k v (omega arith);
    pages = pages_stay key words s ok old k v (omega arith);
    marks = marks_stay key words s ok old k v (λ m less e. omega arith);
    shared = shared_stay key words s ok old k v (λ y has e. let in_y = shared_inside key y has in omega arith);
    own = own_stay key words s ok old k v (λ y j has less e. let in_y = own_inside key y j has less in omega arith);
    limits = limits_stay key words s ok old k v (λ m less. (λ e. omega arith, λ e. omega arith));
    peaks = peaks_put key words s.peak d hard v old.peaks (omega arith) is;
  }

-- words show the parts of a state alone: what records say doesn't matter
pub shows_parts : (key : Layout) (words : List ℕ) (s z : State) → Shows key words s
    → ◌≡◌ {A = ℕ → Bits} z.book s.book → ◌≡◌ {A = ℕ → Bool} z.marked s.marked → ◌≡◌ {A = Counter → History} z.folds s.folds
    → ◌≡◌ {A = Counter → ℕ → ℤ} z.own s.own → ◌≡◌ {A = ℕ → LimitWords} (limit_words key z) (limit_words key s) → ◌≡◌ {A = ℕ → ℕ} z.peak s.peak → Shows key words z
shows_parts key words s z old book marked folds own limits peak = record {
  first = old.first;
  pages = subst (ShowsPages key words) (sym book) old.pages;
  marks = subst (ShowsMarks key words) (sym marked) old.marks;
  shared = subst (ShowsShared key words) (sym folds) old.shared;
  own = subst (ShowsOwn key words) (sym own) old.own;
  limits = subst (ShowsLimits key words) (sym limits) old.limits;
  peaks = subst (ShowsPeaks key words) (sym peak) old.peaks;
}

-- a load leaves the words
pub load_shown : (key : Layout) (words : List ℕ) (s z : State) (k : ℕ) → Shows key words s
    → ◌≡◌ {A = ℕ → Bits} z.book s.book → ◌≡◌ {A = ℕ → Bool} z.marked s.marked → ◌≡◌ {A = Counter → History} z.folds s.folds
    → ◌≡◌ {A = Counter → ℕ → ℤ} z.own s.own → ◌≡◌ {A = ℕ → LimitWords} (limit_words key z) (limit_words key s) → ◌≡◌ {A = ℕ → ℕ} z.peak s.peak
    → Shows key (set words k (get_or words k 0)) z
load_shown key words s z k old book marked folds own limits peak =
    subst (λ (ws : List ℕ). Shows key ws z) (sym (set-get_or words k 0)) (shows_parts key words s z old book marked folds own limits peak)
