-- What the numbers of a line say at its place. A line is refused by the lowest fault that it has.
use Rattle.std.specs.Prelude.{ℕ, Bool, ◌||◌, if◌then◌else◌, ◌==◌, nat_lt, List, [], ◌∷◌, Some, Result, Ok, Err}
use Rattle.wbt_num.specs.declared.limits.TheConstants.{MAX_LIMIT}
use Rattle.wbt_num.specs.declared.most.TheConstants.{MOST_CAP, MOST_CPUS}
use Rattle.wbt_position.specs.declared.ratio.DomainRead.{DomainRead}
use Rattle.wbt_law.specs.Draft.{rates_of}
use Rattle.wbt_law.specs.Rows.{next}
use Rattle.wbt_law.specs.declared.accept.Refusal.{Refusal}
use Rattle.wbt_law.specs.declared.accept.TheConstants.{MOST_DIRTIED, MOST_DIRTY, MOST_MOMENT, MOST_RATE}
use Rattle.wbt_law.specs.declared.accept.Refusal.TheVariants.{BadLine, OutOfRange}
use Rattle.wbt_law.specs.declared.input.Draft.{Draft}
use Rattle.wbt_law.specs.declared.input.LawInput.{LawInput}
use Rattle.wbt_law.specs.declared.place.Place.{Place}
use Rattle.wbt_law.specs.declared.place.Place.TheVariants as place

-- a line with a number out of its range is refused
abbrev pub unless : (out_of_range : Bool) (law : LawInput) → Result LawInput Refusal
unless out_of_range law = if out_of_range then Err OutOfRange else Ok law

-- at least one CPU
abbrev pub with_cpus : (ns : List ℕ) (law : LawInput) → Result LawInput Refusal
with_cpus (cpus ∷ []) law = unless (cpus == 0 || nat_lt MOST_CPUS cpus) (record law { reads = record law.reads { cpus = cpus } })
with_cpus ns law = Err BadLine

-- at least one page left
abbrev pub with_cap : (ns : List ℕ) (law : LawInput) → Result LawInput Refusal
with_cap (cap ∷ []) law = unless (cap == 0 || nat_lt MOST_CAP cap) (record law { reads = record law.reads { cap = cap } })
with_cap ns law = Err BadLine

-- the moment of the check
abbrev pub with_now : (ns : List ℕ) (law : LawInput) → Result LawInput Refusal
with_now (now ∷ []) law = unless (nat_lt MOST_MOMENT now) (record law { now = now })
with_now ns law = Err BadLine

-- the writer's dirtied pages and allowance, and the moment at which its last pause ended
abbrev pub with_task : (ns : List ℕ) (law : LawInput) → Result LawInput Refusal
with_task (dirtied ∷ allowance ∷ when ∷ []) law =
    unless (nat_lt MOST_DIRTIED dirtied || nat_lt MOST_DIRTIED allowance || nat_lt MOST_MOMENT when)
    (record law { task = record { nr_dirtied = dirtied; nr_dirtied_pause = allowance; paused_when = when } })
with_task ns law = Err BadLine

-- the average bandwidth and the rate limit, each at least 1
abbrev pub with_estimate : (ns : List ℕ) (law : LawInput) → Result LawInput Refusal
with_estimate (avg ∷ ratelimit ∷ []) law =
    unless (avg == 0 || nat_lt MOST_RATE avg || ratelimit == 0 || nat_lt MOST_RATE ratelimit) (record law { estimate = rates_of avg ratelimit })
with_estimate ns law = Err BadLine

-- the dirty pages of the context
abbrev pub with_context : (ns : List ℕ) (law : LawInput) → Result LawInput Refusal
with_context (pages ∷ []) law = unless (nat_lt MOST_DIRTY pages) (record law { reads = record law.reads { wb_dirty = pages } })
with_context ns law = Err BadLine

-- background threshold, threshold, hard limit and the greatest limit in this order, and the dirty pages
abbrev pub is_out_of_range : (domain : DomainRead) → Bool
is_out_of_range domain =
    nat_lt domain.limits.thresh domain.limits.bg || nat_lt domain.limits.hard domain.limits.thresh || nat_lt MAX_LIMIT domain.limits.hard
    || nat_lt MOST_DIRTY domain.dirty || nat_lt MAX_LIMIT domain.wb_thresh

-- the domain, unless a number of it is out of its range
abbrev pub in_range : (domain : DomainRead) → Result DomainRead Refusal
in_range domain = if is_out_of_range domain then Err OutOfRange else Ok domain

-- a domain, as the numbers of its line tell it
abbrev pub domain_from : (ns : List ℕ) → Result DomainRead Refusal
domain_from (thresh ∷ bg ∷ hard ∷ dirty ∷ wb_thresh ∷ []) =
    in_range (record { limits = record { thresh = thresh; bg = bg; hard = hard }; dirty = dirty; wb_thresh = wb_thresh })
domain_from ns = Err BadLine

-- the first domain, as the global one
abbrev pub put_global : (law : LawInput) (read : Result DomainRead Refusal) → Result LawInput Refusal
put_global law (Ok domain) = Ok (record law { reads = record law.reads { global = domain } })
put_global law (Err why) = Err why

-- the first domain, by the numbers of its line
abbrev pub with_global : (ns : List ℕ) (law : LawInput) → Result LawInput Refusal
with_global ns law = put_global law (domain_from ns)

-- the second domain, as the cgroup's
abbrev pub put_cgroup : (law : LawInput) (read : Result DomainRead Refusal) → Result LawInput Refusal
put_cgroup law (Ok domain) = Ok (record law { reads = record law.reads { cgroup = Some domain } })
put_cgroup law (Err why) = Err why

-- the second domain, by the numbers of its line
abbrev pub with_cgroup : (ns : List ℕ) (law : LawInput) → Result LawInput Refusal
with_cgroup ns law = put_cgroup law (domain_from ns)

-- what a line of these numbers adds at its place; after the second domain no line stands
abbrev pub law_with : (at : Place) (ns : List ℕ) (law : LawInput) → Result LawInput Refusal
law_with place.Cpus ns law = with_cpus ns law
law_with place.Cap ns law = with_cap ns law
law_with place.Now ns law = with_now ns law
law_with place.Task ns law = with_task ns law
law_with place.Estimate ns law = with_estimate ns law
law_with place.Context ns law = with_context ns law
law_with place.Global ns law = with_global ns law
law_with place.Cgroup ns law = with_cgroup ns law
law_with place.Over ns law = Err BadLine

-- one line more
abbrev pub and_next : (at : Place) (read : Result LawInput Refusal) → Result Draft Refusal
and_next at (Ok law) = Ok (record { place = next at; law = law })
and_next at (Err why) = Err why

-- the draft after a line of these numbers
abbrev pub accept : (ns : List ℕ) (draft : Draft) → Result Draft Refusal
accept ns draft = and_next draft.place (law_with draft.place ns draft.law)
