-- A part of the journal with one more entry, and steps with one more step, name what is there.
use Rattle.std.proofs.Common.{◌≡◌, inl, inr, ℕ, zero, suc, ◌+◌, ◌<◌, ℤ, pos, List, [], ◌∷◌, ◌++◌, length, get_or, refl, sym, ◌∙◌, subst, arith}
use Rattle.std.proofs.Math.ListN.{set}
use Rattle.std.proofs.lemmas.List.{length-append, append-nil}
use Rattle.wbt_replay_order.proofs.Common.{StepKind, Each, domains, InOrder, CheckEntry, Entry, EstEntry, StepEntry, Trace, logged, checked, estimated, State, no_cpu, cpu_of, Cpu, IsAtHome, PartNamesInOrder, Naming}
use Rattle.wbt_journal.specs.declared.entry.Entry.TheVariants as entry

-- ---- one entry more

-- an entry that names neither a check nor an estimate
abbrev pub NamesNone : (e : Entry) → Type 0
NamesNone e = (checks estimates : ℕ) → InOrder checks estimates checks estimates (e ∷ [])

more_entry : (checks estimates check est : ℕ) (entries : List Entry) (e : Entry) → NamesNone e → InOrder checks estimates check est entries → InOrder checks estimates check est (entries ++ e ∷ [])
more_entry checks estimates check est [] e none h =
    subst (λ (n : ℕ). InOrder checks estimates n est (e ∷ [])) (sym h.0) (subst (λ (n : ℕ). InOrder checks estimates checks n (e ∷ [])) (sym h.1) (none checks estimates))
more_entry checks estimates check est (entry.Check place ∷ more) e none h = (h.0, more_entry checks estimates (check + 1) est more e none h.1)
more_entry checks estimates check est (entry.Est place ∷ more) e none h = (h.0, more_entry checks estimates check (est + 1) more e none h.1)
more_entry checks estimates check est (other ∷ more) e none h = more_entry checks estimates check est more e none h

more_check : (checks longer estimates check est : ℕ) (entries : List Entry) → longer ≡ checks + 1 → InOrder checks estimates check est entries
    → InOrder longer estimates check est (entries ++ entry.Check checks ∷ [])
more_check checks longer estimates check est [] is h = (sym h.0, ((let next : check + 1 ≡ longer = omega (arith, is, h.0) in next), h.1))
more_check checks longer estimates check est (entry.Check place ∷ more) is h = (h.0, more_check checks longer estimates (check + 1) est more is h.1)
more_check checks longer estimates check est (entry.Est place ∷ more) is h = (h.0, more_check checks longer estimates check (est + 1) more is h.1)
more_check checks longer estimates check est (other ∷ more) is h = more_check checks longer estimates check est more is h

more_estimate : (checks estimates longer check est : ℕ) (entries : List Entry) → longer ≡ estimates + 1 → InOrder checks estimates check est entries
    → InOrder checks longer check est (entries ++ entry.Est estimates ∷ [])
more_estimate checks estimates longer check est [] is h = (sym h.1, (h.0, (let next : est + 1 ≡ longer = omega (arith, is, h.1) in next)))
more_estimate checks estimates longer check est (entry.Check place ∷ more) is h = (h.0, more_estimate checks estimates longer (check + 1) est more is h.1)
more_estimate checks estimates longer check est (entry.Est place ∷ more) is h = (h.0, more_estimate checks estimates longer check (est + 1) more is h.1)
more_estimate checks estimates longer check est (other ∷ more) is h = more_estimate checks estimates longer check est more is h

pub logged_named : (e : Entry) (c : Cpu) → NamesNone e → PartNamesInOrder c → PartNamesInOrder (logged e c)
logged_named e c none h = more_entry (length c.checks) (length c.estimates) 0 0 c.entries e none h

pub checked_named : (check : CheckEntry) (c : Cpu) → PartNamesInOrder c → PartNamesInOrder (checked check c)
checked_named check c h = more_check (length c.checks) (length (c.checks ++ check ∷ [])) (length c.estimates) 0 0 c.entries (length-append c.checks (check ∷ [])) h

pub estimated_named : (est : EstEntry) (c : Cpu) → PartNamesInOrder c → PartNamesInOrder (estimated est c)
estimated_named est c h = more_estimate (length c.checks) (length c.estimates) (length (c.estimates ++ est ∷ [])) 0 0 c.entries (length-append c.estimates (est ∷ [])) h

-- ---- one CPU changed, and steps more

set_all : {A : Type 0} (P : A → Type 0) (xs : List A) (i : ℕ) (x d : A) → P x → ((j : ℕ) → P (get_or xs j d)) → (j : ℕ) → P (get_or (set xs i x) j d)
set_all P [] i x d here each j = each j
set_all P (y ∷ xs) zero x d here each zero = here
set_all P (y ∷ xs) zero x d here each (suc j) = each (suc j)
set_all P (y ∷ xs) (suc i) x d here each zero = each 0
set_all P (y ∷ xs) (suc i) x d here each (suc j) = set_all P xs i x d here (λ k. each (suc k)) j

each_append : {A : Type 0} (P : A → Type 0) (xs ys : List A) → Each P xs → Each P ys → Each P (xs ++ ys)
each_append P [] ys h k = k
each_append P (x ∷ xs) ys h k = (h.0, each_append P xs ys h.1 k)

abbrev pub AreHome : (trace : Trace) (steps : List StepEntry) → Type 0
AreHome trace steps = Each (IsAtHome (length trace.contexts) (domains trace)) steps

-- What a state names stays so in the next.
abbrev pub Logs : (trace : Trace) (s r : State) → Type 0
Logs trace s r = Naming trace s → Naming trace r

-- a step that changes no count
pub plain_home : (trace : Trace) (s : StepEntry) → s.change ≡ pos 0 → s.domain ≡ 0 → AreHome trace (s ∷ [])
plain_home trace s none global = ((inl none, omega (arith, global)), tt)

pub change_home : (trace : Trace) (s : StepEntry) → s.context < length trace.contexts → s.domain ≡ 0 → AreHome trace (s ∷ [])
change_home trace s there global = ((inr there, omega (arith, global)), tt)

pub cpu_logs : (trace : Trace) (s r : State) (i : ℕ) (c : Cpu) (new : List StepEntry) → r.cpus ≡ set s.cpus i c → (PartNamesInOrder (cpu_of i s) → PartNamesInOrder c) → r.steps ≡ s.steps ++ new → AreHome trace new
    → Logs trace s r
cpu_logs trace s r i c new cpus keeps steps home h = record {
  named = λ j. subst (λ (l : List Cpu). PartNamesInOrder (get_or l j no_cpu)) (sym cpus)
      (set_all PartNamesInOrder s.cpus i c no_cpu (keeps (h.named i)) h.named j);
  steps = subst (AreHome trace) (sym steps) (each_append (IsAtHome (length trace.contexts) (domains trace)) s.steps new h.steps home);
}

pub same_logs : (trace : Trace) (s r : State) (new : List StepEntry) → r.cpus ≡ s.cpus → r.steps ≡ s.steps ++ new → AreHome trace new → Logs trace s r
same_logs trace s r new cpus steps home h = record {
  named = λ j. subst (λ (l : List Cpu). PartNamesInOrder (get_or l j no_cpu)) (sym cpus) (h.named j);
  steps = subst (AreHome trace) (sym steps) (each_append (IsAtHome (length trace.contexts) (domains trace)) s.steps new h.steps home);
}

-- neither entries nor steps
pub quiet_logs : (trace : Trace) (s r : State) → r.cpus ≡ s.cpus → r.steps ≡ s.steps → Logs trace s r
quiet_logs trace s r cpus steps = same_logs trace s r [] cpus (steps ∙ sym (append-nil s.steps)) tt

pub entry_logs : (trace : Trace) (s r : State) (i : ℕ) (c : Cpu) → r.cpus ≡ set s.cpus i c → (PartNamesInOrder (cpu_of i s) → PartNamesInOrder c) → r.steps ≡ s.steps → Logs trace s r
entry_logs trace s r i c cpus keeps steps = cpu_logs trace s r i c [] cpus keeps (steps ∙ sym (append-nil s.steps)) tt

-- ---- one step more

abbrev pub step_entry : (actor : ℕ) (kind : StepKind) (context : ℕ) (change : ℤ) → StepEntry
step_entry actor kind context change = record { who = actor; kind = kind; context = context; change = change; domain = 0; peak = 0 }

abbrev pub plain_entry : (actor : ℕ) (kind : StepKind) → StepEntry
plain_entry actor kind = step_entry actor kind 0 (pos 0)

-- a plain step of a CPU that changes
pub plain_logs : (trace : Trace) (s r : State) (i : ℕ) (c : Cpu) (kind : StepKind) → r.cpus ≡ set s.cpus i c → r.steps ≡ s.steps ++ plain_entry i kind ∷ []
    → (PartNamesInOrder (cpu_of i s) → PartNamesInOrder c) → Logs trace s r
plain_logs trace s r i c kind cpus steps keeps = cpu_logs trace s r i c (plain_entry i kind ∷ []) cpus keeps steps (plain_home trace (plain_entry i kind) refl refl)

-- a plain step, where no CPU changes
pub alone_logs : (trace : Trace) (s r : State) (i : ℕ) (kind : StepKind) → r.cpus ≡ s.cpus → r.steps ≡ s.steps ++ plain_entry i kind ∷ [] → Logs trace s r
alone_logs trace s r i kind cpus steps = same_logs trace s r (plain_entry i kind ∷ []) cpus steps (plain_home trace (plain_entry i kind) refl refl)

-- a step of a CPU that changes the count of a context of the trace
pub change_logs : (trace : Trace) (s r : State) (i : ℕ) (c : Cpu) (kind : StepKind) (context : ℕ) (change : ℤ) → context < length trace.contexts → r.cpus ≡ set s.cpus i c
    → r.steps ≡ s.steps ++ step_entry i kind context change ∷ [] → (PartNamesInOrder (cpu_of i s) → PartNamesInOrder c) → Logs trace s r
change_logs trace s r i c kind context change there cpus steps keeps =
    cpu_logs trace s r i c (step_entry i kind context change ∷ []) cpus keeps steps (change_home trace (step_entry i kind context change) there refl)
