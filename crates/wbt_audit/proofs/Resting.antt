-- Tasks that rest last, and how many tasks a CPU has.
use Rattle.std.proofs.Common.{◌≡◌, ℕ, ◌+◌, ◌<◌, ◌≤◌, Bool, true, false, ◌&&◌, ◌==◌, nat_le, cond, Option, Some, All, List, ◌∷◌, count_by, drop, get_or, length, replicate, refl, sym, ap, ◌∙◌, subst, arith, None}
use Rattle.std.proofs.lemmas.List.{drop_all, drop_more, get_or-replicate}
use Rattle.std.proofs.lemmas.List.Sums.{sum_by-cons}
use Rattle.wbt_trace.specs.Lawful.{IsTask}
use Rattle.wbt_audit_walk.proofs.Common.{TaskLine, Trace}
use Rattle.wbt_audit.specs.Audited.{is_unsettled, tasks_on, unsettled_from}
use Rattle.wbt_audit_turns.specs.Worked.{one_if_so}

-- ---- tasks of a CPU

abbrev is_of : (cpu : ℕ) (task : TaskLine) → Bool
is_of cpu task = task.cpu == cpu

zero_plus : (n : ℕ) → 0 + n ≡ n
zero_plus n = omega arith

pub none_counted : (trace : Trace) (counts : List ℕ) → counts ≡ replicate (length counts) 0 → (cpu : ℕ) → cpu < length counts
    → get_or counts cpu 0 + count_by (is_of cpu) trace.tasks ≡ tasks_on trace cpu
none_counted trace counts are cpu low =
    let at : get_or counts cpu 0 ≡ 0 = ap (λ (l : List ℕ). get_or l cpu 0) are ∙ get_or-replicate {A = ℕ} (length counts) cpu 0 0 low in
    ap (λ (n : ℕ). n + count_by (is_of cpu) trace.tasks) at ∙ zero_plus (count_by (is_of cpu) trace.tasks)

cond_is : (b : Bool) → cond b 1 0 ≡ one_if_so b
cond_is true = refl
cond_is false = refl

three : (new old one rest before whole : ℕ) → new ≡ old + one → before ≡ one + rest → old + before ≡ whole → new + rest ≡ whole
three new old one rest before whole p q r = omega arith

pub one_counted : (trace : Trace) (now : List TaskLine) (i : ℕ) (d : TaskLine) (old new : List ℕ) → now ≡ trace.tasks → i < length now → length new ≡ length old
    → ((cpu : ℕ) → cpu < length old → get_or new cpu 0 ≡ get_or old cpu 0 + one_if_so ((get_or now i d).cpu == cpu))
    → ((cpu : ℕ) → cpu < length old → get_or old cpu 0 + count_by (is_of cpu) (drop i trace.tasks) ≡ tasks_on trace cpu)
    → (cpu : ℕ) → cpu < length new → get_or new cpu 0 + count_by (is_of cpu) (drop (i + 1) trace.tasks) ≡ tasks_on trace cpu
one_counted trace now i d old new same less count is before cpu low =
    let below : cpu < length old = omega arith in
    let there : i < length trace.tasks = omega (arith, ap length same) in
    let a = get_or now i d in
    let here : get_or trace.tasks i d ≡ a = ap (λ (l : List TaskLine). get_or l i d) (sym same) in
    let cut : drop i trace.tasks ≡ a ∷ drop (i + 1) trace.tasks = drop_more trace.tasks i d there ∙ ap (λ (x : TaskLine). x ∷ drop (i + 1) trace.tasks) here in
    three (get_or new cpu 0) (get_or old cpu 0) (one_if_so (a.cpu == cpu)) (count_by (is_of cpu) (drop (i + 1) trace.tasks)) (count_by (is_of cpu) (drop i trace.tasks))
    (tasks_on trace cpu) (is cpu below)
    (ap (λ (l : List TaskLine). count_by (is_of cpu) l) cut ∙ sum_by-cons (λ (x : TaskLine). cond (is_of cpu x) 1 0) a (drop (i + 1) trace.tasks)
    ∙ ap (λ (n : ℕ). n + count_by (is_of cpu) (drop (i + 1) trace.tasks)) (cond_is (a.cpu == cpu)))
    (before cpu below)

plus_zero : (n m whole : ℕ) → m ≡ 0 → n + m ≡ whole → n ≡ whole
plus_zero n m whole none is = omega arith

pub all_counted : (trace : Trace) (now : List TaskLine) (i : ℕ) (counts first : List ℕ) → now ≡ trace.tasks → length now ≤ i → length counts ≡ length first
    → ((cpu : ℕ) → cpu < length counts → get_or counts cpu 0 + count_by (is_of cpu) (drop i trace.tasks) ≡ tasks_on trace cpu)
    → (cpu : ℕ) → cpu < length first → get_or counts cpu 0 ≡ tasks_on trace cpu
all_counted trace now i counts first same past count is cpu low =
    let below : cpu < length counts = omega arith in
    let end : length trace.tasks ≤ i = omega (arith, ap length same) in
    let none : count_by (is_of cpu) (drop i trace.tasks) ≡ 0 = ap (λ (l : List TaskLine). count_by (is_of cpu) l) (drop_all i trace.tasks end) in
    plus_zero (get_or counts cpu 0) (count_by (is_of cpu) (drop i trace.tasks)) (tasks_on trace cpu) none (is cpu below)

-- ---- the least task that is unsettled

abbrev from_here : (trace : Trace) (i : ℕ) (test : Bool) → Option ℕ
from_here trace i test = elim test [ true ↦ Some i | false ↦ unsettled_from trace (i + 1) (drop (i + 1) trace.tasks) ]

pub unsettled_on : (trace : Trace) (now : List TaskLine) (i : ℕ) (d : TaskLine) (test : Bool) (whole : Option ℕ) → now ≡ trace.tasks → i < length now
    → is_unsettled trace i (get_or now i d).cpu ≡ test → unsettled_from trace i (drop i trace.tasks) ≡ whole
    → ◌≡◌ {A = Option ℕ} (elim test [ true ↦ Some i | false ↦ unsettled_from trace (i + 1) (drop (i + 1) trace.tasks) ]) whole
unsettled_on trace now i d test whole same less is before =
    let there : i < length trace.tasks = omega (arith, ap length same) in
    let here : get_or trace.tasks i d ≡ get_or now i d = ap (λ (l : List TaskLine). get_or l i d) (sym same) in
    let cut : drop i trace.tasks ≡ get_or now i d ∷ drop (i + 1) trace.tasks = drop_more trace.tasks i d there ∙ ap (λ (x : TaskLine). x ∷ drop (i + 1) trace.tasks) here in
    ap (from_here trace i) (sym is) ∙ sym (ap (unsettled_from trace i) cut) ∙ before

abbrev pub no_line : TaskLine
no_line = record { cpu = 0; pace = None }

pub cpu_low : (trace : Trace) (now : List TaskLine) (i : ℕ) (d : TaskLine) → now ≡ trace.tasks → i < length now → All (IsTask trace.cpus) trace.tasks
    → (get_or now i d).cpu < trace.cpus
cpu_low trace now i d same low are =
    let there : i < length trace.tasks = omega (arith, ap length same) in
    subst (λ (l : List TaskLine). (get_or l i d).cpu < trace.cpus) (sym same) (are i d there)

pub same_test : (result test a b : Bool) (n m : ℕ) → result ≡ (a && nat_le 2 n) → a ≡ b → n ≡ m → result ≡ test → (b && nat_le 2 m) ≡ test
same_test result test a b n m is p q answer = sym (ap (λ (x : Bool). x && nat_le 2 n) p ∙ ap (λ (k : ℕ). b && nat_le 2 k) q) ∙ sym is ∙ answer
