-- No domain has more pages left than its bound, with the greatest hard limit that the timer has printed.
use Rattle.std.proofs.Common.{◌≡◌, ℕ, zero, suc, ◌+◌, ◌<◌, ◌≤◌, max, Bool, true, false, ◌||◌, cond, eqb, List, [], ◌∷◌, ◌++◌, length, map, take, All, Option, sum_by, count_by, refl, sym, ◌∙◌, ap, subst, arith, append_assoc, eq-eqb, ne_eqb, eqb-true, ⊎_elim}
use Rattle.std.proofs.Math.Path.{fun_ext}
use Rattle.std.proofs.lemmas.Bool.{cond-true, cond-false, cases_eq}
use Rattle.std.proofs.lemmas.List.Elements.{All-nil, All-cons}
use Rattle.std.proofs.lemmas.List.Sums.{sum_by-cons}
use Rattle.wbt_replay_order.proofs.Common.{Limits, IsLawful, writers_of, Trace, Bits, Book, page_word, places, total, one_if, total_same, total_nothing, Setting, IsSetting, domain_count, version_of, DomainLimits, if_nothing, always_holds, LeftIsBounded, domains, page_context, pages, Left, TimerEntry, context_of, group_of, eqb_turned, all_rest, each_of_all, State, IsFollowed, setting_of, inode_with, first_limits, first_entries, opening_moment, most_moves, last_state, left_from, base_of, writer_homes, journal_of, Sound}
use Rattle.wbt_trace.specs.declared.trace.Context.{Context}
use Rattle.wbt_trace.specs.declared.writers.Writer.{Writer}
use Rattle.wbt_trace.proofs.InOrder.{counts_stay}
use Rattle.wbt_book.specs.Book.{bits_in}
use Rattle.wbt_book.proofs.Words.{words_follow}
use Rattle.wbt_counter.proofs.Sums.{total_change}
use Rattle.wbt_grant.specs.Bound.{greatest_hard}
use Rattle.wbt_grant.specs.Formula.{fixed_bound}
use Rattle.wbt_grant.specs.Laws.{Holds}
use Rattle.wbt_grant.specs.Setting as setting
use Rattle.wbt_grant.specs.State as throttle
use Rattle.wbt_journal.specs.Leaves.{is_inside, page_inside, pages_of_left, count_of, peak_of, writers_in, contexts_in}
use Rattle.wbt_journal.specs.Machine.{context_domain}
use Rattle.wbt_journal.specs.Walk.{after}
use Rattle.wbt_journal.specs.declared.timer.TimerEntry.TheVariants as timer
use Rattle.wbt_run_laws.specs.Ticks.{published_after}
use Rattle.wbt_replay_order.specs.Definition.Run as replay
use Rattle.wbt_replay_points.proofs.Claims.Counted.{state_of, same_bound}
use Rattle.wbt_replay_order.proofs.Facts.Lists.{either}
use Rattle.wbt_replay_points.proofs.Lawful.Ledger.{page_context_is}

-- ---- sums

total_front : (n : ℕ) (f : ℕ → ℕ) → total (suc n) f ≡ f 0 + total n (λ k. f (suc k))
total_front zero f = omega arith
total_front (suc n) f = let before = total_front n f in omega (arith, before)

-- pages by contexts, where each page's context is there
by_contexts : (m n : ℕ) (home : ℕ → ℕ) (b : ℕ → Bool) (f : ℕ → ℕ) → ((p : ℕ) → p < n → home p < m)
    → total m (λ k. cond (b k) (total n (λ p. cond (eqb (home p) k) (f p) 0)) 0) ≡ total n (λ p. cond (b (home p)) (f p) 0)
by_contexts m zero home b f homes = total_nothing m (λ k. cond (b k) 0 0) (λ k. if_nothing (b k) 0 refl)
by_contexts m (suc n) home b f homes =
    let h : ℕ = home n in
    let of : ℕ → ℕ = λ k. total n (λ p. cond (eqb (home p) k) (f p) 0) in
    let old : ℕ → ℕ = λ k. cond (b k) (of k) 0 in
    let new : ℕ → ℕ = λ k. cond (b k) (of k + cond (eqb h k) (f n) 0) 0 in
    let rest = by_contexts m n home b f (λ p less. homes p (omega (arith, less))) in
    let change = total_change m new old h (homes n (omega arith))
    (λ k other. ap (λ (x : ℕ). cond (b k) x 0) (let nothing = cond-false (eqb h k) (f n) 0 (ne_eqb h k (λ e. other (sym e))) in let same : of k + cond (eqb h k) (f n) 0 ≡ of k = omega (arith, nothing) in same)) in
    let here : new h ≡ old h + cond (b h) (f n) 0 = by_test (b h) (of h) (cond (eqb h h) (f n) 0) (f n) (cond-true (eqb h h) (f n) 0 (eq-eqb h h refl)) in
    omega (arith, rest, change, here)
  where
    by_test : (t : Bool) (x y z : ℕ) → y ≡ z → cond t (x + y) 0 ≡ cond t x 0 + cond t z 0
    by_test true x y z is = omega (arith, is)
    by_test false x y z is = refl

-- what the pages that are left weigh, page by page, where a word of 0 weighs nothing
left_weighs : (w : Left → ℕ) (book : Book) (n p : ℕ) → ((q : ℕ) → w (record { page = q; word = 0 }) ≡ 0)
    → sum_by w (left_from n p book) ≡ total n (λ i. w (record { page = p + i; word = page_word (book (p + i)) }))
left_weighs w book zero p none = refl
left_weighs w book (suc n) p none =
    let at : ℕ → ℕ = λ k. w (record { page = k; word = page_word (book k) }) in
    let rest = left_weighs w book n (p + 1) none in
    let front = total_front n (λ i. at (p + i)) in
    let first : at (p + 0) ≡ at p = ap at (let e : p + 0 ≡ p = omega arith in e) in
    let later = total_same n (λ i. at (p + 1 + i)) (λ i. at (p + suc i)) (λ i less. ap at (let e : p + 1 + i ≡ p + suc i = omega arith in e)) in
    let here : sum_by w (left_from (suc n) p book) ≡ at p + sum_by w (left_from n (p + 1) book) =
    either (λ (l : List Left). sum_by w l ≡ at p + sum_by w (left_from n (p + 1) book)) (eqb (page_word (book p)) 0) _ _
    (λ empty. (let nothing : at p ≡ 0 = ap (λ (v : ℕ). w (record { page = p; word = v })) (eqb-true (page_word (book p)) 0 empty) ∙ none p in omega (arith, nothing)))
    (λ some. sum_by-cons w (record { page = p; word = page_word (book p) }) (left_from n (p + 1) book)) in
    omega (arith, rest, front, first, later, here)

-- ---- hard limits

abbrev IsBelow : (d most : ℕ) (t : DomainLimits) → Type 0
IsBelow d most t = eqb d t.domain ≡ true → t.limits.hard ≤ most

-- no publication of a domain has a greater one than the greatest that lines tell
below_lines : (d most : ℕ) (entries : List TimerEntry) (older : List DomainLimits) → peak_of d entries ≤ most → All (IsBelow d most) older → All (IsBelow d most) (after published_after older entries)
below_lines d most [] older few all = all
below_lines d most (timer.Limits of now limits ∷ entries) older few all =
    let new : DomainLimits = record { domain = of; version = suc (version_of of older); limits = limits } in
    below_lines d most entries (new ∷ older) (omega (arith, few))
    (All-cons (IsBelow d most) new older
    (λ is. (let own : cond (eqb of d) limits.hard 0 ≡ limits.hard = cond-true (eqb of d) limits.hard 0 (eqb_turned of d ∙ is) in omega (arith, own, few))) all)
below_lines d most (timer.Period of k ∷ entries) older few all = below_lines d most entries older (omega (arith, few)) all

-- lines behind others count
peak_behind : (d : ℕ) (before entries : List TimerEntry) → peak_of d entries ≤ peak_of d (before ++ entries)
peak_behind d [] entries = omega arith
peak_behind d (timer.Limits of now limits ∷ before) entries = let rest = peak_behind d before entries in omega (arith, rest)
peak_behind d (timer.Period of k ∷ before) entries = let rest = peak_behind d before entries in omega (arith, rest)

first_below : (trace : Trace) (d n : ℕ) (entries : List TimerEntry) → d < n → (first_limits trace d).hard ≤ peak_of d (first_entries trace n ++ entries)
first_below trace d zero entries less = absurd (omega (arith, less))
first_below trace d (suc n) entries less =
    let last : TimerEntry = timer.Limits n opening_moment (first_limits trace n) in
    subst (λ (l : List TimerEntry). (first_limits trace d).hard ≤ peak_of d l) (sym (append_assoc (first_entries trace n) (last ∷ []) entries))
    (⊎_elim
    (λ (same : d ≡ n).
    let own : cond (eqb n d) (first_limits trace n).hard 0 ≡ (first_limits trace n).hard = cond-true (eqb n d) (first_limits trace n).hard 0 (eq-eqb n d (sym same)) in
    let its : (first_limits trace d).hard ≡ (first_limits trace n).hard = ap (λ (k : ℕ). (first_limits trace k).hard) same in
    let behind = peak_behind d (first_entries trace n) (last ∷ entries) in
    omega (arith, own, its, behind))
    (λ apart. first_below trace d n (last ∷ entries) (omega (arith, less, apart)))
    (cases_eq d n))

greatest_below : (set : Setting) (d most : ℕ) (published : List DomainLimits) → (set.firsts d).hard ≤ most → All (IsBelow d most) published → greatest_hard set published d ≤ most
greatest_below set d most [] first all = first
greatest_below set d most (t ∷ older) first all =
    let each = each_of_all (IsBelow d most) (t ∷ older) all in
    let rest = greatest_below set d most older first (all_rest (IsBelow d most) (t ∷ []) older all) in
    either (λ (n : ℕ). n ≤ most) (eqb d t.domain) (max t.limits.hard (greatest_hard set older d)) (greatest_hard set older d)
    (λ is. (let here = each.0 is in omega (arith, here, rest))) (λ not. rest)

-- ---- the bound's fixed part

inside_same : (d group : ℕ) → replay.is_inside d group ≡ is_inside d group
inside_same d group = ap (λ (x : Bool). eqb d 0 || x) (eqb_turned d group)

counted_map : {A B : Type 0} (P : B → Bool) (f : A → B) (xs : List A) → count_by P (map f xs) ≡ count_by (λ x. P (f x)) xs
counted_map P f [] = refl
counted_map P f (x ∷ xs) = omega (arith, counted_map P f xs, sum_by-cons (λ y. cond (P y) 1 0) (f x) (map f xs), sum_by-cons (λ y. cond (P (f y)) 1 0) x xs)

module _ (trace : Trace) (lawful : IsLawful trace) where
  writers_same : (d : ℕ) → count_by (replay.is_inside d) (writer_homes trace) ≡ writers_in trace d
  writers_same d =
      counted_map (replay.is_inside d) (λ (w : Writer). group_of trace w.context) (writers_of trace.inodes trace.actions)
      ∙ ap (λ (test : Writer → Bool). count_by test (writers_of trace.inodes trace.actions)) (fun_ext (λ (w : Writer). inside_same d (group_of trace w.context)))
      ∙ sym (counts_stay (length trace.tasks) (length trace.contexts) trace.inodes trace.actions lawful.within.inodes.each lawful.within.actions (λ (w : Writer). is_inside d (context_domain trace w.context)))

  contexts_same : (d : ℕ) → count_by (λ (c : Context). replay.is_inside d c.domain) trace.contexts ≡ contexts_in trace d
  contexts_same d = ap (λ (test : Context → Bool). count_by test trace.contexts) (fun_ext (λ (c : Context). inside_same d c.domain))

  fixed_same : (d : ℕ) → base_of trace d ≡ fixed_bound trace.cpus (writers_in trace d) trace.cap (contexts_in trace d)
  fixed_same d =
      ap (λ (n : ℕ). fixed_bound trace.cpus n trace.cap (count_by (λ (c : Context). replay.is_inside d c.domain) trace.contexts)) (writers_same d)
      ∙ ap (fixed_bound trace.cpus (writers_in trace d) trace.cap) (contexts_same d)

  -- ---- what is left

  weight_of : (d : ℕ) (book : Book) (p : ℕ) → p < pages trace
      → pages_of_left trace d (record { page = p; word = page_word (book p) }) ≡ cond (is_inside d (group_of trace (context_of trace (inode_with trace p)))) (places (book p)) 0
  weight_of d book p less =
      ap (λ (o : Option ℕ). cond (page_inside trace d o) (one_if (bits_in (page_word (book p))).dirty + one_if (bits_in (page_word (book p))).writeback) 0) (page_context_is trace lawful p less)
      ∙ ap (λ (b : Bits). cond (is_inside d (group_of trace (context_of trace (inode_with trace p)))) (places b) 0) (words_follow (book p)).holds

  module _ (ok : IsSetting (setting_of trace)) (followed : IsFollowed trace) (sound : Sound trace (last_state trace)) where
    abbrev s : State
    s = last_state trace

    abbrev t : throttle.State
    t = state_of trace followed most_moves

    holds : Holds (setting_of trace) t
    holds = let made = followed.made most_moves in always_holds (setting_of trace) (take made.0 followed.steps) ok made.1.allowed

    -- the relation's count of a domain
    count_is : (d : ℕ) (book : Book) → domain_count (setting_of trace) book d ≡ total (pages trace) (λ p. cond (is_inside d (group_of trace (context_of trace (inode_with trace p)))) (places (book p)) 0)
    unfolding setting_of
    count_is d book =
        by_contexts (length trace.contexts) (pages trace) (λ p. context_of trace (inode_with trace p)) (setting.is_inside (setting_of trace) d) (λ p. places (book p)) ok.homes
        ∙ total_same (pages trace) _ _ (λ p less. ap (λ (b : Bool). cond b (places (book p)) 0) (ap (λ (x : Bool). eqb d 0 || x) (eqb_turned d (group_of trace (context_of trace (inode_with trace p))))))

    left_count : (d : ℕ) → count_of trace d (left_from s.pages 0 s.book) ≡ domain_count (setting_of trace) s.book d
    left_count d =
        left_weighs (pages_of_left trace d) s.book s.pages 0 (λ q. if_nothing (page_inside trace d (page_context trace q)) 0 refl)
        ∙ ap (λ (n : ℕ). total n (λ i. pages_of_left trace d (record { page = 0 + i; word = page_word (s.book (0 + i)) }))) sound.holds.pages
        ∙ total_same (pages trace) (λ i. pages_of_left trace d (record { page = 0 + i; word = page_word (s.book (0 + i)) }))
        (λ p. cond (is_inside d (group_of trace (context_of trace (inode_with trace p)))) (places (s.book p)) 0)
        (λ i less. ap (λ (k : ℕ). pages_of_left trace d (record { page = k; word = page_word (s.book k) })) (let e : 0 + i ≡ i = omega arith in e) ∙ weight_of d s.book i less)
        ∙ sym (count_is d s.book)

    firsts_are : (d : ℕ) → (setting_of trace).firsts d ≡ first_limits trace d
    unfolding setting_of
    firsts_are d = refl

    peak_is : (d : ℕ) → d < domains trace → greatest_hard (setting_of trace) t.timer.published d ≤ peak_of d s.timer.entries
    peak_is d less =
        let most : ℕ = peak_of d s.timer.entries in
        let lines = (followed.made most_moves).1.shows.lines in
        let later = peak_behind d (first_entries trace (domains trace)) lines.later in
        let same = ap (peak_of d) lines.entries_are in
        let hard = ap (λ (l : Limits). l.hard) (firsts_are d) in
        let small = first_below trace d (domains trace) lines.later less in
        greatest_below (setting_of trace) d most t.timer.published (omega (arith, hard, small, same))
        (subst (All (IsBelow d most)) (sym lines.published_are) (below_lines d most lines.later [] (omega (arith, later, same)) (All-nil (IsBelow d most))))

    pub left_bounded : LeftIsBounded trace (journal_of trace)
    unfolding journal_of
    left_bounded d less =
        let left = left_count d in
        let book = ap (λ (b : Book). domain_count (setting_of trace) b d) (followed.made most_moves).1.shows.book in
        let bounded = holds.bounded d in
        let bound = same_bound trace (greatest_hard (setting_of trace) t.timer.published) d in
        let peak = peak_is d less in
        let fixed = fixed_same d in
        omega (arith, left, book, bounded, bound, peak, fixed)
