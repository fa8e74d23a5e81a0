-- The bound of each domain.
use Rattle.std.proofs.Common.{◌≡◌, ℕ, zero, suc, ◌+◌, ◌<◌, ◌≤◌, max, Bool, true, ◌||◌, cond, eqb, Some, List, [], ◌∷◌, length, count_by, get_or, slice_get, sym, refl, ap, ◌∙◌, subst, arith, eq-eqb, None}
use Rattle.std.proofs.lemmas.Bool.{cond_both, cond-true, eqb-true}
use Rattle.std.proofs.lemmas.List.Sums.{sum_by-cons}
use Rattle.wbt_book.specs.Book.{Bits, Book, page_word, bits_in}
use Rattle.wbt_book.specs.Counts.{places}
use Rattle.wbt_run_laws.proofs.Common.{words_follow, total, one_if, total_same, Setting, DomainLimits, Limits, Trace, Each, domains, contexts, pages, Journal, TimerEntry, left_from, Run, Worked}
use Rattle.wbt_counter.proofs.Sums.{total_sum, total_change, total_nothing}
use Rattle.wbt_grant.specs.Bound.{greatest_hard}
use Rattle.wbt_grant.specs.Formula.{fixed_bound}
use Rattle.wbt_grant.specs.Setting as setting
use Rattle.wbt_grant.specs.State.{domain_count}
use Rattle.wbt_grant.proofs.Bounding.{if_nothing, if_sum}
use Rattle.wbt_trace.specs.declared.trace.Context.{Context}
use Rattle.wbt_trace.specs.declared.writers.Writer.{Writer}
use Rattle.wbt_journal.specs.Leaves.{is_inside, page_inside, pages_of_left, count_of, peak_of, writers_in, contexts_in}
use Rattle.wbt_journal.specs.Machine.{page_context, context_domain}
use Rattle.wbt_journal.specs.Reads.{triple_in, triples_of}
use Rattle.wbt_journal.specs.Side.{all_writers}
use Rattle.wbt_journal.specs.declared.timer.TimerEntry.TheVariants as timer
use Rattle.wbt_run_laws.specs.Laws.{WorkedLeftIsBounded}
use Rattle.wbt_run_laws.specs.Throttle.{writer_at, IsThrottleOf}
use Rattle.wbt_run_laws.proofs.Lefts.{eqb_turned, left_sum}
use Rattle.wbt_run_laws.proofs.Lists.{each_append, each_weaker}
use Rattle.wbt_run_laws.proofs.Triples.{IsLine, first_is, published_are}
use Rattle.wbt_run_laws.proofs.Parts.{total_front}

-- ---- the greatest hard limit

abbrev IsBelow : (d most : ℕ) (t : DomainLimits) → Type 0
IsBelow d most t = eqb d t.domain ≡ true → t.limits.hard ≤ most

-- no line of a domain has a greater one
lines_below : (d : ℕ) (entries : List TimerEntry) → Each (λ (limits : Limits). limits.hard ≤ peak_of d entries) (triples_of d entries)
lines_below d [] = tt
lines_below d (timer.Limits of now limits ∷ entries) =
    let rest = peak_of d entries in
    let hard = cond (eqb of d) limits.hard 0 in
    each_append (λ (l : Limits). l.hard ≤ max hard rest) (triple_in d (timer.Limits of now limits)) (triples_of d entries)
    (cond_both (eqb of d) (limits ∷ []) [] (Each (λ (l : Limits). l.hard ≤ max hard rest))
    (λ is. ((let own : hard ≡ limits.hard = cond-true (eqb of d) limits.hard 0 is in omega arith), tt)) (λ not. tt))
    (each_weaker (λ (l : Limits). l.hard ≤ rest) (λ (l : Limits). l.hard ≤ max hard rest) (λ l low. omega arith) (triples_of d entries) (lines_below d entries))
lines_below d (timer.Period of k ∷ entries) =
    each_weaker (λ (l : Limits). l.hard ≤ peak_of d entries) (λ (l : Limits). l.hard ≤ max 0 (peak_of d entries)) (λ l low. omega arith) (triples_of d entries) (lines_below d entries)

-- what holds of each of a list holds of the one at a place
at_place : {A : Type 0} (P : A → Type 0) (xs : List A) (k : ℕ) (x : A) → Each P xs → slice_get xs k ≡ Some x → P x
at_place P [] k x each is = cc
at_place P (y ∷ xs) zero x each is = subst P (some-same is) each.0
  where
    some-same : Some y ≡ Some x → y ≡ x
    some-same e = cc
at_place P (y ∷ xs) (suc k) x each is = at_place P xs k x each.1 is

line_below : (d : ℕ) (entries : List TimerEntry) (t : DomainLimits) → IsLine entries t → IsBelow d (peak_of d entries) t
line_below d entries t line is =
    let e : d ≡ t.domain = eqb-true d t.domain is in
    at_place (λ (limits : Limits). limits.hard ≤ peak_of d entries) (triples_of d entries) t.version t.limits (lines_below d entries)
    (ap (λ (of : ℕ). slice_get (triples_of of entries) t.version) e ∙ line)

greatest_below : (set : Setting) (d most : ℕ) (published : List DomainLimits) → (set.firsts d).hard ≤ most → Each (IsBelow d most) published → greatest_hard set published d ≤ most
greatest_below set d most [] first each = first
greatest_below set d most (t ∷ older) first each =
    let rest = greatest_below set d most older first each.1 in
    cond_both (eqb d t.domain) (max t.limits.hard (greatest_hard set older d)) (greatest_hard set older d) (λ (n : ℕ). n ≤ most)
    (λ is. let here = each.0 is in omega arith) (λ not. rest)

-- ---- counts

or_same : (a b c : Bool) → b ≡ c → (a || b) ≡ (a || c)
or_same a b c same = ap (λ (x : Bool). a || x) same

inside_same : (trace : Trace) (set : Setting) (d k : ℕ) → set.group k ≡ context_domain trace k → setting.is_inside set d k ≡ is_inside d (context_domain trace k)
inside_same trace set d k same = or_same (eqb d 0) (eqb d (set.group k)) (eqb (context_domain trace k) d) (ap (eqb d) same ∙ eqb_turned d (context_domain trace k))

-- one summand alone, where it counts
one_inside : (m c v : ℕ) (b : ℕ → Bool) → c < m → total m (λ k. cond (b k) (cond (eqb c k) v 0) 0) ≡ cond (b c) v 0
one_inside m c v b less =
    let change = total_change m (λ k. cond (b k) (cond (eqb c k) v 0) 0) (λ k. 0) c less
    (λ k other. if_nothing (b k) (cond (eqb c k) v 0) (cond_both (eqb c k) v 0 (λ (n : ℕ). n ≡ 0) (λ is. absurd (other (sym (eqb-true c k is)))) (λ not. refl))) in
    let none = total_nothing m (λ k. 0) (λ k. refl) in
    let here : cond (b c) (cond (eqb c c) v 0) 0 ≡ cond (b c) v 0 = ap (λ (n : ℕ). cond (b c) n 0) (cond-true (eqb c c) v 0 (eq-eqb c c refl)) in omega arith

-- contexts by pages are pages by contexts
exchanged : (m n : ℕ) (home : ℕ → ℕ) (b : ℕ → Bool) (f : ℕ → ℕ) → ((p : ℕ) → p < n → home p < m)
    → total m (λ k. cond (b k) (total n (λ p. cond (eqb (home p) k) (f p) 0)) 0) ≡ total n (λ p. cond (b (home p)) (f p) 0)
exchanged m zero home b f homes = total_nothing m (λ k. cond (b k) 0 0) (λ k. if_nothing (b k) 0 refl)
exchanged m (suc n) home b f homes =
    let rest = exchanged m n home b f (λ p less. homes p (omega arith)) in
    let split = total_same m (λ k. cond (b k) (total n (λ p. cond (eqb (home p) k) (f p) 0) + cond (eqb (home n) k) (f n) 0) 0)
    (λ k. cond (b k) (total n (λ p. cond (eqb (home p) k) (f p) 0)) 0 + cond (b k) (cond (eqb (home n) k) (f n) 0) 0)
    (λ k less. if_sum (b k) (total n (λ p. cond (eqb (home p) k) (f p) 0)) (cond (eqb (home n) k) (f n) 0)) in
    let both = total_sum m (λ k. cond (b k) (total n (λ p. cond (eqb (home p) k) (f p) 0)) 0) (λ k. cond (b k) (cond (eqb (home n) k) (f n) 0) 0) in
    let last = one_inside m (home n) (f n) b (homes n (omega arith)) in omega arith

-- a list's items that pass a test, place by place
count_at : {A : Type 0} (p : A → Bool) (d : A) (xs : List A) → count_by p xs ≡ total (length xs) (λ i. one_if (p (get_or xs i d)))
count_at p d [] = refl
count_at p d (x ∷ xs) =
    let rest = count_at p d xs in
    let front = total_front (length xs) (λ i. one_if (p (get_or (x ∷ xs) i d))) in
    let counted = sum_by-cons (λ y. one_if (p y)) x xs in omega arith

module _ (trace : Trace) (set : Setting) (throttle : IsThrottleOf trace set) where
  writers_same : (d : ℕ) → setting.writers_of set d ≡ writers_in trace d
  writers_same d =
      let at = λ (i : ℕ). one_if (is_inside d (context_domain trace (writer_at trace i).context)) in
      ap (λ (n : ℕ). total n (λ w. one_if (setting.is_inside set d (set.works_in w)))) throttle.writers_are
      ∙ total_same (length (all_writers trace)) (λ w. one_if (setting.is_inside set d (set.works_in w))) at
      (λ w less. ap one_if (inside_same trace set d (set.works_in w) (throttle.groups (set.works_in w)) ∙ ap (λ (k : ℕ). is_inside d (context_domain trace k)) (throttle.works_in w less)))
      ∙ sym (count_at (λ (writer : Writer). is_inside d (context_domain trace writer.context)) (record { task = 0; context = 0 }) (all_writers trace))

  contexts_same : (d : ℕ) → setting.contexts_of set d ≡ contexts_in trace d
  contexts_same d =
      ap (λ (n : ℕ). total n (λ k. one_if (setting.is_inside set d k))) throttle.contexts_are
      ∙ total_same (contexts trace) (λ k. one_if (setting.is_inside set d k)) (λ k. one_if (is_inside d (context_domain trace k)))
      (λ k less. ap one_if (inside_same trace set d k (throttle.groups k)))
      ∙ sym (count_at (λ (c : Context). is_inside d c.domain) (record { device = 0; domain = 0; expire = None; estimate = None }) trace.contexts)

  fixed_same : (d : ℕ) → fixed_bound set.cpus (setting.writers_of set d) set.cap (setting.contexts_of set d) ≡ fixed_bound trace.cpus (writers_in trace d) trace.cap (contexts_in trace d)
  fixed_same d =
      ap (λ (n : ℕ). fixed_bound n (setting.writers_of set d) set.cap (setting.contexts_of set d)) throttle.cpus
      ∙ ap (λ (n : ℕ). fixed_bound trace.cpus n set.cap (setting.contexts_of set d)) (writers_same d)
      ∙ ap (λ (n : ℕ). fixed_bound trace.cpus (writers_in trace d) n (setting.contexts_of set d)) throttle.cap
      ∙ ap (λ (n : ℕ). fixed_bound trace.cpus (writers_in trace d) trace.cap n) (contexts_same d)

  -- the pages of a left page, by its word
  page_by : (d p : ℕ) (bits : Bits) (word : ℕ) → p < pages trace → bits_in word ≡ bits
      → pages_of_left trace d (record { page = p; word = word }) ≡ cond (setting.is_inside set d (set.home p)) (places bits) 0
  page_by d p bits word less is =
      ap (λ (b : Bool). cond b (one_if (bits_in word).dirty + one_if (bits_in word).writeback) 0) (ap (page_inside trace d) (throttle.homes p less) ∙ sym (inside_same trace set d (set.home p) (throttle.groups (set.home p))))
      ∙ ap (λ (b : Bits). cond (setting.is_inside set d (set.home p)) (places b) 0) is

  count_same : (book : Book) (d : ℕ) → count_of trace d (left_from book 0 (pages trace)) ≡ domain_count set book d
  count_same book d =
      left_sum (pages_of_left trace d) book 0 (pages trace) (λ q. if_nothing (page_inside trace d (page_context trace q)) 0 refl)
      ∙ total_same (pages trace) (λ i. pages_of_left trace d (record { page = 0 + i; word = page_word (book (0 + i)) })) (λ p. cond (setting.is_inside set d (set.home p)) (places (book p)) 0)
      (λ i less. ap (λ (k : ℕ). pages_of_left trace d (record { page = k; word = page_word (book k) })) (let e : 0 + i ≡ i = omega arith in e)
      ∙ page_by d i (book i) (page_word (book i)) less (words_follow (book i)).holds)
      ∙ sym (exchanged (contexts trace) (pages trace) set.home (setting.is_inside set d) (λ p. places (book p)) throttle.homes_are)
      ∙ sym (ap (λ (m : ℕ). total m (λ k. cond (setting.is_inside set d k) (total (pages trace) (λ p. cond (eqb (set.home p) k) (places (book p)) 0)) 0)) throttle.contexts_are)
      ∙ sym (ap (λ (n : ℕ). total set.contexts (λ k. cond (setting.is_inside set d k) (total n (λ p. cond (eqb (set.home p) k) (places (book p)) 0)) 0)) throttle.pages_are)

module _ (trace : Trace) (j : Journal) (r : Run) (w : Worked trace j r) where
  peak_is : (d : ℕ) → d < domains trace → greatest_hard r.set r.closed.timer.published d ≤ peak_of d j.timer
  peak_is d less =
      let most = peak_of d j.timer in
      greatest_below r.set d most r.closed.timer.published
      (line_below d j.timer (record { domain = d; version = 0; limits = r.set.firsts d }) (first_is trace j r w d less) (eq-eqb d d refl))
      (each_weaker (λ (t : DomainLimits). t.domain < domains trace → IsLine j.timer t) (IsBelow d most)
      (λ t line is. line_below d j.timer t (line (subst (λ (of : ℕ). of < domains trace) (eqb-true d t.domain is) less)) is)
      r.closed.timer.published (published_are trace j r w))

pub left_is_bounded : WorkedLeftIsBounded
left_is_bounded trace j r w d less =
    let same = count_same trace r.set w.throttle r.closed.book d in
    let is = ap (count_of trace d) w.closed.left_is in
    let bounded = w.closed.holds.bounded d in
    let peak = peak_is trace j r w d less in
    let fixed = fixed_same trace r.set w.throttle d in omega arith
