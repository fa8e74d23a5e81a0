-- Whose part is read along a walk; and waiting lists before anything was read.
use Rattle.std.proofs.Common.{◌≡◌, ℕ, zero, suc, ◌+◌, ◌<◌, ◌≤◌, ◌⊎◌, inl, inr, true, nat_lt, true≢false, arith, Option, Some, None, List, [], ◌∷◌, ◌++◌, length, map, get_or, refl, sym, ap, ◌∙◌, subst}
use Rattle.std.proofs.lemmas.Bool.{cond-false, cases_lt, le-ltb}
use Rattle.wbt_expiry.specs.Waiting.{Waiting}
use Rattle.wbt_rules.specs.Things as things
use Rattle.wbt_trace.specs.declared.trace.FlusherLine.{FlusherLine}
use Rattle.wbt_audit_walk.proofs.Common.{Trace, is_on, Item, tells, items_from, Told, first_lists, item_of}
use Rattle.wbt_journal.specs.Flights.{is_own_flusher}
use Rattle.wbt_audit_turns.specs.Waited.{AreOf, IsOf, Keep, wheel_at}
use Rattle.wbt_audit_walk.specs.Walks.{item_by}
use Rattle.wbt_audit_walk.specs.declared.act.Act.{Act}
use Rattle.wbt_audit_walk.specs.declared.walk.Step.{Step}

part_of : (cpu : ℕ) (part : List Told) (more : List Item) → AreOf cpu more → AreOf cpu (map (tells cpu) part ++ more)
part_of cpu [] more are = are
part_of cpu (entry ∷ part) more are = (refl, part_of cpu part more are)

pub all_of : (of cpu : ℕ) (parts : List (List Told)) → AreOf of (items_from cpu parts)
all_of of cpu [] = tt
all_of of cpu (part ∷ parts) = part_of cpu part (items_from (cpu + 1) parts) (all_of cpu (cpu + 1) parts)

-- the first item is of the CPU, or begins the part of another; what comes after it is of that one
next_by : (cpu of : ℕ) (act : Option Act) (more : List Item) → AreOf cpu (item_by of act ∷ more) → IsOf cpu (item_by of act) × AreOf of more
next_by cpu of None more are = (tt, are)
next_by cpu of (Some act) more are = (are.0, subst (λ c. AreOf c more) (sym are.0) are.1)

pub next_of : (cpu : ℕ) (step : Step) (items more : List Item) → items ≡ item_of step ∷ more → AreOf cpu items → IsOf cpu (item_of step) × AreOf step.cpu more
next_of cpu step items more is are = next_by cpu step.cpu step.act more (subst (AreOf cpu) is are)

none_wait : (lines : List FlusherLine) (flusher : ℕ) → get_or (first_lists lines) flusher [] ≡ []
none_wait [] flusher = refl
none_wait (line ∷ lines) zero = refl
none_wait (line ∷ lines) (suc flusher) = none_wait lines flusher

own_is_there : (trace : Trace) (cpu flusher : ℕ) → is_own_flusher trace cpu flusher ≡ true → flusher < length trace.flushers
own_is_there trace cpu flusher own = by (cases_lt flusher (length trace.flushers))
  where
    by : (flusher < length trace.flushers) ⊎ (length trace.flushers ≤ flusher) → flusher < length trace.flushers
    by (inl less) = less
    by (inr past) = absurd (true≢false (sym own ∙ ap (is_on cpu) (cond-false (nat_lt flusher (length trace.flushers)) (Some (things.flusher_cpu trace flusher)) None (le-ltb flusher (length trace.flushers) past))))

lists_long : (lines : List FlusherLine) → length (first_lists lines) ≡ length lines
lists_long [] = refl
lists_long (line ∷ lines) = ap suc (lists_long lines)

pub first_kept : (trace : Trace) (cpu : ℕ) (wheels : List Waiting) → ((flusher : ℕ) → flusher < length trace.flushers → (wheel_at wheels flusher).pairs ≡ [])
    → Keep trace cpu wheels (first_lists trace.flushers)
first_kept trace cpu wheels empty = record {
  long = lists_long trace.flushers;
  each = λ flusher own. empty flusher (own_is_there trace cpu flusher own) ∙ sym (none_wait trace.flushers flusher);
}

-- what holds of each wheel, where one more is put behind them
pub pushed : (P : Waiting → Type 0) (ws : List Waiting) (w : Waiting) → ((k : ℕ) → k < length ws → P (wheel_at ws k)) → P w → (k : ℕ) → k < length ws + 1 → P (wheel_at (ws ++ w ∷ []) k)
pushed P [] w all here zero less = here
pushed P [] w all here (suc k) less = absurd (omega arith)
pushed P (x ∷ ws) w all here zero less = all 0 (omega arith)
pushed P (x ∷ ws) w all here (suc k) less = pushed P ws w (λ j l. all (suc j) (omega arith)) here k (omega arith)
