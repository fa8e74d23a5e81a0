-- The layout of a lawful trace is one.
use Rattle.std.proofs.Common.{◌≡◌, ℕ, zero, suc, ◌+◌, ◌<◌, ◌≤◌, ◌^◌, max, Bool, true, false, if◌then◌else◌, List, [], ◌∷◌, ◌++◌, All, length, map, get_or, refl, sym, ap, ◌∙◌, subst, arith, length-append, None}
use Rattle.std.proofs.lemmas.List.{length-map}
use Rattle.std.proofs.lemmas.List.Elements.{All-nil}
use Rattle.std.proofs.lemmas.List.Sums.{sum_by-cons}
use Rattle.wbt_num.specs.Limits.{IsLawful as AreLawful}
use Rattle.wbt_kit.proofs.Common.{MOST_PAGES, first_lawful, IsLawful, AreFirsts, Context, Inode, Trace, domains, first_estimates, first_limits, pages_in, Place, all_writers, place_of, homes_of, layout_of, few_writers}
use Rattle.wbt_num.specs.declared.most.TheConstants.{MOST_WRITERS, MOST_CONTEXTS}
use Rattle.wbt_trace.specs.Lawful.{IsContext, IsInode, writers_of}
use Rattle.wbt_trace.specs.Sofar.{pages_in as trace_pages}
use Rattle.wbt_trace.specs.WriterList.{is_writer}
use Rattle.wbt_trace.specs.declared.writers.Writer.{Writer}
use Rattle.wbt_published.specs.Known.{IsFirst}
use Rattle.wbt_rules.proofs.Openings.{by_version, by_sound}
use Rattle.wbt_rules.specs.First.{first_by}
use Rattle.wbt_rules.specs.Thresholds.{DomainFits}
use Rattle.wbt_table.specs.Layout.{IsLayout, AreInOrder}
use Rattle.wbt_table.specs.declared.layout.Writer.{Writer as Seat}
use Rattle.wbt_trace.specs.WriterList.{writers_from, writers_of_task}
use Rattle.wbt_kit.specs.Opening.{firsts_of, seated, sizes_of, inodes_on}

-- ---- lists

module _ {X : Type 0} where
  pub all_so : (P Q : X → Type 0) → ((x : X) → P x → Q x) → (xs : List X) → All P xs → All Q xs
  all_so P Q so xs all k d low = so (get_or xs k d) (all k d low)

  pub all_pushed : (P : X → Type 0) (xs : List X) (y : X) → All P xs → P y → All P (xs ++ y ∷ [])
  all_pushed P [] y all here zero d low = here
  all_pushed P [] y all here (suc k) d low = absurd (omega arith)
  all_pushed P (x ∷ xs) y all here zero d low = all zero x (omega arith)
  all_pushed P (x ∷ xs) y all here (suc k) d low = all_pushed P xs y (λ j e l. all (suc j) e (omega arith)) here k d (omega arith)

  pub all_both : (P : X → Type 0) (xs ys : List X) → All P xs → All P ys → All P (xs ++ ys)
  all_both P [] ys all more k d low = more k d low
  all_both P (x ∷ xs) ys all more zero d low = all zero x (omega arith)
  all_both P (x ∷ xs) ys all more (suc k) d low = all_both P xs ys (λ j e l. all (suc j) e (omega arith)) more k d (omega arith)

  pub all_first : (P : X → Type 0) (x : X) (xs : List X) → P x → All P xs → All P (x ∷ xs)
  all_first P x xs here all zero d low = here
  all_first P x xs here all (suc k) d low = all k d (omega arith)

pub all_mapped : {X Y : Type 0} (P : X → Type 0) (Q : Y → Type 0) (f : X → Y) → ((x : X) → P x → Q (f x)) → (xs : List X) → All P xs → All Q (map f xs)
all_mapped P Q f so [] all k d low = absurd (omega arith)
all_mapped P Q f so (x ∷ xs) all zero d low = so x (all zero x (omega arith))
all_mapped P Q f so (x ∷ xs) all (suc k) d low = all_mapped P Q f so xs (λ j e l. all (suc j) e (omega arith)) k d (omega arith)

-- ---- limits

pub firsts_long : (trace : Trace) (now n : ℕ) → length (firsts_of trace now n) ≡ n
firsts_long trace now zero = refl
firsts_long trace now (suc n) = let before = firsts_long trace now n in omega (arith, length-append (firsts_of trace now n) (first_limits trace now n ∷ []))

pub firsts_lawful : (trace : Trace) (now n : ℕ) → All AreLawful (firsts_of trace now n)
firsts_lawful trace now zero = All-nil AreLawful
firsts_lawful trace now (suc n) = all_pushed AreLawful (firsts_of trace now n) (first_limits trace now n) (firsts_lawful trace now n) (first_lawful trace now n)

-- ---- domains

-- each domain of a lawful trace has the numbers of its cgroup in range
pub domain_fits : (trace : Trace) → IsLawful trace → (d : ℕ) → d < domains trace → DomainFits trace d
domain_fits trace lawful zero less = tt
domain_fits trace lawful (suc cgroup) less =
    let there : cgroup < length trace.cgroups = omega (arith, less) in
    let group = lawful.within.cgroups cgroup (record { filepages = 0; headroom = 0 }) there in
    (there, omega (arith, group.0), omega (arith, group.1))

-- ---- inodes

pub pages_same : (inodes : List Inode) → pages_in (map place_of inodes) ≡ trace_pages inodes
pages_same [] = refl
pages_same (i ∷ more) = ap (λ (n : ℕ). i.pages + n) (pages_same more) ∙ sym (sum_by-cons (λ (j : Inode). j.pages) i more)

pub places_in_order : (n : ℕ) (inodes : List Inode) → AreFirsts n inodes → AreInOrder n (map place_of inodes)
places_in_order n [] firsts = tt
places_in_order n (i ∷ more) firsts = (firsts.0, places_in_order (n + i.pages) more firsts.1)

-- ---- writers

-- the pair is of a task and a context that there are
abbrev pub IsPair : (tasks contexts : ℕ) (w : Writer) → Type 0
IsPair tasks contexts w = (w.task < tasks) × (w.context < contexts)

abbrev IsOf : (task contexts : ℕ) (w : Writer) → Type 0
IsOf task contexts w = (w.task ≡ task) × (w.context < contexts)

one_in_range : (b : Bool) (task c most : ℕ) (more : List Writer) → c < most → All (IsOf task most) more
    → All (IsOf task most) (if b then record { task = task; context = c } ∷ more else more)
one_in_range true task c most more less all = all_first (IsOf task most) (record { task = task; context = c }) more (refl, less) all
one_in_range false task c most more less all = all

task_in_range : (task c n most : ℕ) (ws : List Writer) → c + n ≡ most → All (IsOf task most) (writers_of_task task c n ws)
task_in_range task c zero most ws is = All-nil (IsOf task most)
task_in_range task c (suc n) most ws is =
    one_in_range (is_writer task c ws) task c most (writers_of_task task (suc c) n ws) (omega (arith, is)) (task_in_range task (suc c) n most ws (omega (arith, is)))

pub writers_in_range : (task n most contexts : ℕ) (ws : List Writer) → task + n ≡ most → All (IsPair most contexts) (writers_from task n contexts ws)
writers_in_range task zero most contexts ws is = All-nil (IsPair most contexts)
writers_in_range task (suc n) most contexts ws is =
    all_both (IsPair most contexts) (writers_of_task task 0 contexts ws) (writers_from (suc task) n contexts ws)
    (all_so (IsOf task contexts) (IsPair most contexts) (λ x its. (omega (arith, its.0, is), its.1)) (writers_of_task task 0 contexts ws) (task_in_range task 0 contexts contexts ws (omega arith)))
    (writers_in_range (suc task) n most contexts ws (omega (arith, is)))

-- ---- the layout

module _ (trace : Trace) (now : ℕ) (lawful : IsLawful trace) where
  pub pairs : All (IsPair (length trace.tasks) (length trace.contexts)) (all_writers trace)
  pairs = writers_in_range 0 (length trace.tasks) (length trace.tasks) (length trace.contexts) (writers_of trace.inodes trace.actions) (omega arith)

  few : length (all_writers trace) ≤ MOST_WRITERS
  few = few_writers trace lawful

  pub is_layout : IsLayout (layout_of trace now)
  is_layout = record {
    some_cpu = lawful.whole.cpus;
    few_cpus = lawful.within.cpus;
    some_cap = lawful.within.cap.0;
    small_cap = lawful.within.cap.1;
    some_page_step = omega arith;
    few_page_steps = omega arith;
    some_domain = omega (arith, firsts_long trace now (domains trace));
    few_domains = omega (arith, firsts_long trace now (domains trace), lawful.within.few_cgroups);
    firsts_lawful = firsts_lawful trace now (domains trace);
    few_contexts = omega (arith, length-map trace.contexts (λ (c : Context). c.domain), lawful.within.few_contexts);
    contexts_in_domains = all_mapped (IsContext (length trace.devices) (length trace.cgroups)) (λ (d : ℕ). d < length (firsts_of trace now (domains trace))) (λ (c : Context). c.domain)
        (λ c is. omega (arith, is.1, firsts_long trace now (domains trace))) trace.contexts lawful.within.contexts;
    few_inodes = omega (arith, length-map trace.inodes place_of, lawful.within.inodes.few);
    few_pages = subst (λ (n : ℕ). n ≤ MOST_PAGES) (sym (pages_same trace.inodes)) lawful.within.inodes.total;
    inodes_in_order = places_in_order 0 trace.inodes lawful.within.inodes.firsts;
    inodes_in_contexts = all_mapped (IsInode (length trace.contexts)) (λ (p : Place). p.context < length (homes_of trace)) place_of
        (λ i is. omega (arith, is.0, length-map trace.contexts (λ (c : Context). c.domain))) trace.inodes lawful.within.inodes.each;
    few_writers = omega (arith, length-map (all_writers trace) (seated trace), few);
    writers_on_cpus = all_mapped (IsPair (length trace.tasks) (length trace.contexts)) (λ (w : Seat). w.cpu < trace.cpus) (seated trace)
        (λ w is. lawful.within.tasks w.task (record { cpu = 0; pace = None }) is.0) (all_writers trace) pairs;
    writers_in_contexts = all_mapped (IsPair (length trace.tasks) (length trace.contexts)) (λ (w : Seat). w.context < length (homes_of trace)) (seated trace)
        (λ w is. omega (arith, is.1, length-map trace.contexts (λ (c : Context). c.domain))) (all_writers trace) pairs;
  }

  -- ---- shares and queues

  pub homes_fit : (length (homes_of trace) ≤ MOST_CONTEXTS) × All (λ (home : ℕ). home < domains trace) (homes_of trace)
  homes_fit = (
    omega (arith, length-map trace.contexts (λ (c : Context). c.domain), lawful.within.few_contexts),
    all_mapped (IsContext (length trace.devices) (length trace.cgroups)) (λ (home : ℕ). home < domains trace) (λ (c : Context). c.domain)
        (λ c is. omega (arith, is.1)) trace.contexts lawful.within.contexts,
  )

-- each queue holds some number
pub sizes_some : (trace : Trace) (n : ℕ) → All (λ (size : ℕ). 1 ≤ size) (sizes_of trace n)
sizes_some trace zero = All-nil (λ (size : ℕ). 1 ≤ size)
sizes_some trace (suc n) = all_pushed (λ (size : ℕ). 1 ≤ size) (sizes_of trace n) (max (inodes_on trace n) 1) (sizes_some trace n) (omega arith)

-- the estimates that the contexts begin with are first ones
pub firsts_fit : (trace : Trace) (now : ℕ) → IsLawful trace → now < 2 ^ 62 → All IsFirst (first_estimates trace now)
firsts_fit trace now lawful less =
    all_mapped (IsContext (length trace.devices) (length trace.cgroups)) IsFirst (λ (c : Context). first_by c.estimate now)
    (λ c is. (by_version c.estimate now, by_sound c.estimate now is.3 less)) trace.contexts lawful.within.contexts
