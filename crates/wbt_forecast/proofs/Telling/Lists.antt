-- What is counted of several lists, one after another.
use Rattle.std.proofs.Common.{◌≡◌, ℕ, zero, suc, ◌+◌, ◌-◌, ◌<◌, ◌≤◌, List, [], ◌∷◌, ◌++◌, length, take, drop, get_or, replicate, refl, sym, ◌∙◌, ap, ap₂, arith, append-nil, length-append}
use Rattle.std.specs.List.{sum_by}
use Rattle.std.proofs.lemmas.Grind.{flat_map-append}
use Rattle.std.proofs.lemmas.List.{length-replicate, take_more}
use Rattle.std.proofs.lemmas.List.Sums.{count_by-le-length, sum_by-cons}
use Rattle.wbt_replay_order.proofs.Common.{Trace, change_in, is_fresh, is_done, CheckEntry, Entry, StepEntry, at_least_zero, no_step, steps_of, Cpu}
use Rattle.std.proofs.Common.{ℤ, ◌+ℤ◌, max}
use Rattle.wbt_forecast_rows.specs.Counts.{count_after, homes_of, most_after}
use Rattle.wbt_forecast_rows.specs.Small.{AreSmall, AreSmallTotals}
use Rattle.wbt_forecast_rows.specs.Tally.{Tallies, after_checks, after_entries, after_steps, context_after, domain_after, task_after_checks, task_after_entries, totals_after}
use Rattle.wbt_forecast_rows.specs.declared.forecast.Totals.{Totals}
use Rattle.wbt_forecast_rows.specs.declared.tally.DomainTally.{DomainTally}
use Rattle.wbt_forecast_rows.proofs.Counting.{context_more, count_by-append, max_again, same_context, same_domain, same_task, task_more_checks, task_more_entries}
use Rattle.wbt_forecast_rows.proofs.Numbered.{none_by_number, same_by_number, twice_by_number}
use Rattle.wbt_forecast_rows.proofs.Smalls.{contexts_less, domains_less, tasks_less}
use Rattle.wbt_replay_moves.specs.Steps.{Made}
use Rattle.wbt_forecast.specs.Kept.{all_checks, all_entries, told_by}

-- ---- how large tallies get

pub small_less : (least most : ℕ) (t : Tallies) → least ≤ most → AreSmall least t → AreSmall most t
small_less least most t less small = record {
  domains = domains_less least most t.domains less small.domains;
  contexts = contexts_less least most t.contexts less small.contexts;
  tasks = tasks_less least most t.tasks less small.tasks;
}

pub totals_less : (least most : ℕ) (t : Totals) → least ≤ most → AreSmallTotals least t → AreSmallTotals most t
totals_less least most t less small = record { dirtied = omega (arith, small.dirtied, less); cleaned = omega (arith, small.cleaned, less) }

pub totals_grow : (entries : List Entry) (most : ℕ) (t : Totals) → AreSmallTotals most t → AreSmallTotals (most + length entries) (totals_after entries t)
totals_grow entries most t small = record {
  dirtied = omega (arith, small.dirtied, count_by-le-length is_fresh entries);
  cleaned = omega (arith, small.cleaned, count_by-le-length is_done entries);
}

-- ---- one list after another

count_on : (homes : List ℕ) (domain : ℕ) (count : ℤ) (xs ys : List StepEntry)
    → count_after homes domain count (xs ++ ys) ≡ count_after homes domain (count_after homes domain count xs) ys
count_on homes domain count [] ys = refl
count_on homes domain count (x ∷ xs) ys = count_on homes domain (count +ℤ change_in homes domain x) xs ys

most_on : (homes : List ℕ) (domain : ℕ) (count : ℤ) (xs ys : List StepEntry)
    → most_after homes domain count (xs ++ ys) ≡ max (most_after homes domain count xs) (most_after homes domain (count_after homes domain count xs) ys)
most_on homes domain count [] ys = omega arith
most_on homes domain count (x ∷ xs) ys =
    let next : ℤ = count +ℤ change_in homes domain x in
    ap (max (at_least_zero next)) (most_on homes domain next xs ys)
    ∙ sym (max_again (at_least_zero next) (most_after homes domain next xs) (most_after homes domain (count_after homes domain next xs) ys))

domain_on : (homes : List ℕ) (xs ys : List StepEntry) (domain : ℕ) (t : DomainTally)
    → domain_after homes ys domain (domain_after homes xs domain t) ≡ domain_after homes (xs ++ ys) domain t
domain_on homes xs ys domain t =
    same_domain _ _ (sym (count_on homes domain t.count xs ys))
    (max_again t.most (most_after homes domain t.count xs) (most_after homes domain (count_after homes domain t.count xs) ys)
    ∙ sym (ap (max t.most) (most_on homes domain t.count xs ys)))

pub steps_on : (trace : Trace) (xs ys : List StepEntry) (t : Tallies) → after_steps trace ys (after_steps trace xs t) ≡ after_steps trace (xs ++ ys) t
steps_on trace xs ys t =
    ap (λ l. record t { domains = l })
    (twice_by_number (domain_after (homes_of trace) xs) (domain_after (homes_of trace) ys) 0 t.domains
    ∙ same_by_number _ _ 0 t.domains (λ i x. domain_on (homes_of trace) xs ys i x))

pub entries_on : (trace : Trace) (xs ys : List Entry) (t : Tallies) → after_entries trace ys (after_entries trace xs t) ≡ after_entries trace (xs ++ ys) t
entries_on trace xs ys t =
    ap₂ (λ a b. record t { contexts = a; tasks = b })
    (twice_by_number (context_after trace xs) (context_after trace ys) 0 t.contexts
    ∙ same_by_number _ _ 0 t.contexts (λ i x. context_more trace xs ys i x))
    (twice_by_number (task_after_entries xs) (task_after_entries ys) 0 t.tasks
    ∙ same_by_number _ _ 0 t.tasks (λ i x. task_more_entries xs ys i x))

pub checks_on : (xs ys : List CheckEntry) (t : Tallies) → after_checks ys (after_checks xs t) ≡ after_checks (xs ++ ys) t
checks_on xs ys t =
    ap (λ l. record t { tasks = l })
    (twice_by_number (task_after_checks xs) (task_after_checks ys) 0 t.tasks
    ∙ same_by_number _ _ 0 t.tasks (λ i x. task_more_checks xs ys i x))

same_totals : (a b : Totals) → a.dirtied ≡ b.dirtied → a.cleaned ≡ b.cleaned → a ≡ b
same_totals a b dirtied cleaned = λ i. record { dirtied = dirtied i; cleaned = cleaned i }

pub totals_on : (xs ys : List Entry) (t : Totals) → totals_after ys (totals_after xs t) ≡ totals_after (xs ++ ys) t
totals_on xs ys t = same_totals _ _ (omega (arith, count_by-append is_fresh xs ys)) (omega (arith, count_by-append is_done xs ys))

-- ---- nothing

same_tallies : (a b : Tallies) → a.domains ≡ b.domains → a.contexts ≡ b.contexts → a.tasks ≡ b.tasks → a ≡ b
same_tallies a b ds cs ts = λ i. record { domains = ds i; contexts = cs i; tasks = ts i }

pub steps_none : (trace : Trace) (t : Tallies) → after_steps trace [] t ≡ t
steps_none trace t = same_tallies _ _
    (none_by_number (domain_after (homes_of trace) []) 0 t.domains (λ d x low high. same_domain _ _ refl (omega arith))) refl refl

pub entries_none : (trace : Trace) (t : Tallies) → after_entries trace [] t ≡ t
entries_none trace t = same_tallies _ _ refl
    (none_by_number (context_after trace []) 0 t.contexts (λ k x low high. same_context _ _ (omega arith) (omega arith)))
    (none_by_number (task_after_entries []) 0 t.tasks (λ k x low high. same_task _ _ (omega arith) refl refl refl refl))

pub checks_none : (t : Tallies) → after_checks [] t ≡ t
checks_none t = same_tallies _ _ refl refl
    (none_by_number (task_after_checks []) 0 t.tasks (λ k x low high. same_task _ _ refl (omega arith) (omega arith) (omega arith) (omega arith)))

-- ---- the CPUs, one more

pub entries_next : (cs : List Cpu) (i : ℕ) (d : Cpu) → i < length cs → all_entries (take (i + 1) cs) ≡ all_entries (take i cs) ++ (get_or cs i d).entries
entries_next cs i d less =
    ap all_entries (take_more cs i d less)
    ∙ (flat_map-append (λ (c : Cpu). c.entries) (take i cs) (get_or cs i d ∷ [])
    ∙ ap (λ l. all_entries (take i cs) ++ l) (append-nil (get_or cs i d).entries))

pub checks_next : (cs : List Cpu) (i : ℕ) (d : Cpu) → i < length cs → all_checks (take (i + 1) cs) ≡ all_checks (take i cs) ++ (get_or cs i d).checks
checks_next cs i d less =
    ap all_checks (take_more cs i d less)
    ∙ (flat_map-append (λ (c : Cpu). c.checks) (take i cs) (get_or cs i d ∷ [])
    ∙ ap (λ l. all_checks (take i cs) ++ l) (append-nil (get_or cs i d).checks))

-- the first CPUs have told no more than all
pub entries_part : (cs : List Cpu) (i : ℕ) → length (all_entries (take i cs)) ≤ length (all_entries cs)
entries_part [] i = let none : length (all_entries (take i [])) ≡ 0 = nothing i in omega (arith, none)
  where
    nothing : (k : ℕ) → length (all_entries (take k [])) ≡ 0
    nothing zero = refl
    nothing (suc k) = refl
entries_part (c ∷ cs) zero = omega arith
entries_part (c ∷ cs) (suc i) =
    let rest = entries_part cs i in
    omega (arith, rest, length-append c.entries (all_entries (take i cs)), length-append c.entries (all_entries cs))

pub checks_part : (cs : List Cpu) (i : ℕ) → length (all_checks (take i cs)) ≤ length (all_checks cs)
checks_part [] i = let none : length (all_checks (take i [])) ≡ 0 = nothing i in omega (arith, none)
  where
    nothing : (k : ℕ) → length (all_checks (take k [])) ≡ 0
    nothing zero = refl
    nothing (suc k) = refl
checks_part (c ∷ cs) zero = omega arith
checks_part (c ∷ cs) (suc i) =
    let rest = checks_part cs i in
    omega (arith, rest, length-append c.checks (all_checks (take i cs)), length-append c.checks (all_checks cs))

pub entries_at : (cs : List Cpu) (i : ℕ) (d : Cpu) → i < length cs
    → length (all_entries (take (i + 1) cs)) ≡ length (all_entries (take i cs)) + length (get_or cs i d).entries
entries_at cs i d less = ap (λ (l : List Entry). length l) (entries_next cs i d less) ∙ length-append (all_entries (take i cs)) (get_or cs i d).entries

pub checks_at : (cs : List Cpu) (i : ℕ) (d : Cpu) → i < length cs
    → length (all_checks (take (i + 1) cs)) ≡ length (all_checks (take i cs)) + length (get_or cs i d).checks
checks_at cs i d less = ap (λ (l : List CheckEntry). length l) (checks_next cs i d less) ∙ length-append (all_checks (take i cs)) (get_or cs i d).checks

-- what the CPUs have told is entries and checks
pub told_is : (cs : List Cpu) → sum_by told_by cs ≡ length (all_entries cs) + length (all_checks cs)
told_is [] = refl
told_is (c ∷ cs) =
    let rest = told_is cs in
    omega (arith, rest, sum_by-cons told_by c cs, length-append c.entries (all_entries cs), length-append c.checks (all_checks cs))

-- ---- steps that were forgotten

made_is : (m : Made) → length (steps_of m) ≡ m.forgotten + length m.kept
made_is m = length-append (replicate m.forgotten no_step) m.kept ∙ ap (λ (n : ℕ). n + length m.kept) (length-replicate m.forgotten no_step)

kept_last : (forgotten counted : ℕ) (kept : List StepEntry) → forgotten ≤ counted
    → drop counted (replicate forgotten no_step ++ kept) ≡ drop (counted - forgotten) kept
kept_last zero counted kept less = let e : counted ≡ counted - 0 = omega arith in ap (λ (n : ℕ). drop n kept) e
kept_last (suc forgotten) zero kept less = absurd (omega (arith, less))
kept_last (suc forgotten) (suc counted) kept less =
    let e : counted - forgotten ≡ suc counted - suc forgotten = omega arith in
    kept_last forgotten counted kept (omega (arith, less)) ∙ ap (λ (n : ℕ). drop n kept) e

forgotten_first : (forgotten counted : ℕ) (kept : List StepEntry) → counted ≤ forgotten
    → drop counted (replicate forgotten no_step ++ kept) ≡ replicate (forgotten - counted) no_step ++ kept
forgotten_first forgotten zero kept less = let e : forgotten ≡ forgotten - 0 = omega arith in ap (λ (n : ℕ). replicate n no_step ++ kept) e
forgotten_first zero (suc counted) kept less = absurd (omega (arith, less))
forgotten_first (suc forgotten) (suc counted) kept less =
    let e : forgotten - counted ≡ suc forgotten - suc counted = omega arith in
    forgotten_first forgotten counted kept (omega (arith, less)) ∙ ap (λ (n : ℕ). replicate n no_step ++ kept) e

-- The steps after so many are the last of those that are kept, where these are as many.
pub last_steps : (m : Made) (counted more : ℕ) → more ≡ length (steps_of m) - counted → counted ≤ length (steps_of m) → more ≤ length m.kept
    → drop (length m.kept - more) m.kept ≡ drop counted (steps_of m)
last_steps m counted more is within few =
    let made = made_is m in
    let same : length m.kept - more ≡ counted - m.forgotten = omega (arith, made, is, within, few) in
    ap (λ (n : ℕ). drop n m.kept) same ∙ sym (kept_last m.forgotten counted m.kept (omega (arith, made, is, within, few)))

-- and else some that were forgotten come first
pub first_steps : (m : Made) (counted more : ℕ) → more ≡ length (steps_of m) - counted → counted ≤ length (steps_of m) → length m.kept < more
    → replicate (more - length m.kept) no_step ++ m.kept ≡ drop counted (steps_of m)
first_steps m counted more is within many =
    let made = made_is m in
    let same : more - length m.kept ≡ m.forgotten - counted = omega (arith, made, is, within, many) in
    ap (λ (n : ℕ). replicate n no_step ++ m.kept) same ∙ sym (forgotten_first m.forgotten counted m.kept (omega (arith, made, is, within, many)))

pub one_more : (n : ℕ) → replicate n no_step ++ no_step ∷ [] ≡ replicate (n + 1) no_step
one_more zero = refl
one_more (suc n) = let e : suc (n + 1) ≡ suc n + 1 = omega arith in ap (λ l. no_step ∷ l) (one_more n) ∙ ap (λ (k : ℕ). replicate k no_step) e
