-- Moves that leave the timer, the peaks, the checks and the estimates as they are.
use Rattle.std.proofs.Common.{◌≡◌, ℕ, ◌+◌, Bool, true, false, true≢false, List, [], ◌∷◌, ◌++◌, length, map, get_or, refl, sym, ◌∙◌, ap, subst, ⊎_elim}
use Rattle.std.proofs.Math.ListN.{set}
use Rattle.std.proofs.lemmas.Bool.{cases_lt}
use Rattle.std.proofs.lemmas.List.{get_or-set_same, get_or-set_other, set_past, length-set}
use mathlib.Core.Logic.{dite}
use native.Mathlib.Decide.{ℕ_discrete}
use Rattle.wbt_replay_order.proofs.Common.{Version, CountsAreFresh, versions_after, tells, InOrder, told_entry, Along, CheckEntry, EstEntry, Entry, State, no_cpu, no_domain, no_context, cpu_of, with_cpu, domain_of, with_domain, writeback_of, with_writeback, Cpu, Domain, Timer, Writeback}
use Rattle.wbt_journal.specs.declared.entry.Entry.TheVariants as entry
use Rattle.wbt_replay_order.proofs.Growth.Afresh.{told_in, FreshIn, seen_in, fresh_logged}

-- The entries of the CPU's part name its checks and estimates, each once, in order, and along them no count is older than what the CPU
-- had seen.
abbrev pub HasNames : (c : Cpu) → Type 0
HasNames c = InOrder (length c.checks) (length c.estimates) 0 0 c.entries × FreshIn (told_in c.checks c.estimates c.entries)

-- of the timer, the domains, the CPUs, the contexts and the steps that may be made of two states
pub record QuietIn (clock clock' : Timer) (domains domains' : List Domain) (cpus cpus' : List Cpu) (contexts contexts' : List Writeback)
    (most most' : ℕ) : Type 0 where
  pub timer : clock' ≡ clock
  pub peaks : (d : ℕ) → (get_or domains' d no_domain).peak ≡ (get_or domains d no_domain).peak
  pub many : length domains' ≡ length domains
  pub seats : length cpus' ≡ length cpus
  pub places : length contexts' ≡ length contexts
  pub checks : (i : ℕ) → (get_or cpus' i no_cpu).checks ≡ (get_or cpus i no_cpu).checks
  pub estimates : (i : ℕ) → (get_or cpus' i no_cpu).estimates ≡ (get_or cpus i no_cpu).estimates
  pub names : (i : ℕ) → HasNames (get_or cpus i no_cpu) → HasNames (get_or cpus' i no_cpu)
  pub estimate : (k : ℕ) → (get_or contexts' k no_context).estimate ≡ (get_or contexts k no_context).estimate
  pub limit : most' ≡ most

-- This state is that one in all of them.
abbrev pub Quiet : (s u : State) → Type 0
Quiet s u = QuietIn s.timer u.timer s.domains u.domains s.cpus u.cpus s.contexts u.contexts s.most u.most

pub still : (s : State) → Quiet s s
still s = record {
  timer = refl;
  peaks = λ d. refl;
  many = refl;
  seats = refl;
  places = refl;
  checks = λ i. refl;
  estimates = λ i. refl;
  names = λ i h. h;
  estimate = λ k. refl;
  limit = refl;
}

pub then_still : (s u v : State) → Quiet s u → Quiet u v → Quiet s v
then_still s u v h k = record {
  timer = k.timer ∙ h.timer;
  peaks = λ d. k.peaks d ∙ h.peaks d;
  many = k.many ∙ h.many;
  seats = k.seats ∙ h.seats;
  places = k.places ∙ h.places;
  checks = λ i. k.checks i ∙ h.checks i;
  estimates = λ i. k.estimates i ∙ h.estimates i;
  names = λ i n. k.names i (h.names i n);
  estimate = λ n. k.estimate n ∙ h.estimate n;
  limit = k.limit ∙ h.limit;
}

-- one place of a list is changed, but not what a function reads of it
pub same_at : {A B : Type 0} (f : A → B) (xs : List A) (i : ℕ) (x d : A) → f x ≡ f (get_or xs i d) → (j : ℕ) → f (get_or (set xs i x) j d) ≡ f (get_or xs j d)
same_at {A} f xs i x d same j = dite (ℕ_discrete j i)
    (λ here. ⊎_elim
    (λ less. ap (λ (n : ℕ). f (get_or (set xs i x) n d)) here ∙ ap f (get_or-set_same xs i x d less) ∙ same ∙ ap (λ (n : ℕ). f (get_or xs n d)) (sym here))
    (λ past. ap (λ (l : List A). f (get_or l j d)) (set_past xs i x past))
    (cases_lt i (length xs)))
    (λ apart. ap f (get_or-set_other xs i j x d apart))

-- an entry that names nothing comes to them
abbrev pub is_name : (e : Entry) → Bool
is_name (entry.Check place) = true
is_name (entry.Est place) = true
is_name other = false

pub names_stay : (checks estimates check est : ℕ) (entries : List Entry) (e : Entry) → is_name e ≡ false → InOrder checks estimates check est entries
    → InOrder checks estimates check est (entries ++ e ∷ [])
names_stay checks estimates check est [] (entry.Check place) none h = absurd (true≢false none)
names_stay checks estimates check est [] (entry.Est place) none h = absurd (true≢false none)
names_stay checks estimates check est [] other none h = h
names_stay checks estimates check est (entry.Check place ∷ more) e none h = (h.0, names_stay checks estimates (check + 1) est more e none h.1)
names_stay checks estimates check est (entry.Est place ∷ more) e none h = (h.0, names_stay checks estimates check (est + 1) more e none h.1)
names_stay checks estimates check est (other ∷ more) e none h = names_stay checks estimates check est more e none h

-- and tells no count
loads_none : (checks : List CheckEntry) (ests : List EstEntry) (e : Entry) → is_name e ≡ false → (seen : List Version)
    → Along CountsAreFresh versions_after seen (map (tells 0) (told_entry checks ests e))
loads_none checks ests (entry.Check place) none seen = absurd (true≢false none)
loads_none checks ests (entry.Est place) none seen = absurd (true≢false none)
loads_none checks ests other none seen = (tt, tt)

pub log_names : (e : Entry) (c : Cpu) → is_name e ≡ false → HasNames c
    → InOrder (length c.checks) (length c.estimates) 0 0 (c.entries ++ e ∷ []) × FreshIn (told_in c.checks c.estimates (c.entries ++ e ∷ []))
log_names e c none h = (
  names_stay (length c.checks) (length c.estimates) 0 0 c.entries e none h.0,
  fresh_logged c.checks c.estimates c.entries e h.1 (loads_none c.checks c.estimates e none (seen_in (told_in c.checks c.estimates c.entries))),
)

pub names_at : (xs : List Cpu) (cpu : ℕ) (c : Cpu) → (HasNames (get_or xs cpu no_cpu) → HasNames c) → (i : ℕ) → HasNames (get_or xs i no_cpu) → HasNames (get_or (set xs cpu c) i no_cpu)
names_at xs cpu c keeps i h = dite (ℕ_discrete i cpu)
    (λ here. ⊎_elim
    (λ less.
    subst (λ (n : ℕ). HasNames (get_or (set xs cpu c) n no_cpu)) (sym here)
    (subst HasNames (sym (get_or-set_same xs cpu c no_cpu less)) (keeps (subst (λ (n : ℕ). HasNames (get_or xs n no_cpu)) here h))))
    (λ past. subst (λ (l : List Cpu). HasNames (get_or l i no_cpu)) (sym (set_past xs cpu c past)) h)
    (cases_lt cpu (length xs)))
    (λ apart. subst HasNames (sym (get_or-set_other xs cpu i c no_cpu apart)) h)

pub quiet_cpu : (cpu : ℕ) (c : Cpu) (s : State) → c.checks ≡ (cpu_of cpu s).checks → c.estimates ≡ (cpu_of cpu s).estimates
    → (HasNames (cpu_of cpu s) → HasNames c) → Quiet s (with_cpu cpu c s)
quiet_cpu cpu c s checks estimates names = record {
  timer = refl;
  peaks = λ d. refl;
  many = refl;
  seats = length-set s.cpus cpu c;
  places = refl;
  checks = same_at (λ (x : Cpu). x.checks) s.cpus cpu c no_cpu checks;
  estimates = same_at (λ (x : Cpu). x.estimates) s.cpus cpu c no_cpu estimates;
  names = names_at s.cpus cpu c names;
  estimate = λ k. refl;
  limit = refl;
}

pub quiet_domain : (domain : ℕ) (d : Domain) (s : State) → d.peak ≡ (domain_of domain s).peak → Quiet s (with_domain domain d s)
quiet_domain domain d s peak = record {
  timer = refl;
  peaks = same_at (λ (x : Domain). x.peak) s.domains domain d no_domain peak;
  many = length-set s.domains domain d;
  seats = refl;
  places = refl;
  checks = λ i. refl;
  estimates = λ i. refl;
  names = λ i h. h;
  estimate = λ k. refl;
  limit = refl;
}

pub quiet_writeback : (context : ℕ) (w : Writeback) (s : State) → w.estimate ≡ (writeback_of context s).estimate → Quiet s (with_writeback context w s)
quiet_writeback context w s estimate = record {
  timer = refl;
  peaks = λ d. refl;
  many = refl;
  seats = refl;
  places = length-set s.contexts context w;
  checks = λ i. refl;
  estimates = λ i. refl;
  names = λ i h. h;
  estimate = same_at (λ (x : Writeback). x.estimate) s.contexts context w no_context estimate;
  limit = refl;
}
