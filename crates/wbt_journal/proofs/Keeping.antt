-- The end of a step's line is kept where a step changes no column.
use Rattle.std.proofs.Common.{◌≡◌, ℕ, ◌+◌, max, Bool, true, false, if◌then◌else◌, ℤ, pos, ◌+ℤ◌, List, [], ◌∷◌, ◌++◌, refl, sym, ◌∙◌, ap, append_assoc, append-nil, arith}
use Rattle.std.proofs.Math.IntN.{+ℤ_idr}
use Rattle.std.specs.Fmt.{signed_decimal}
use Rattle.wbt_grant.specs.declared.who.StepKind.{StepKind}
use Rattle.wbt_grant.specs.declared.who.StepKind.TheVariants as kind
use Rattle.wbt_journal.specs.declared.columns.Column.{Column}
use Rattle.wbt_journal.specs.declared.step.StepEntry.{StepEntry}
use Rattle.wbt_journal.specs.Kept.{MayStay}
use Rattle.wbt_journal.specs.Pieces.{column_text}
use Rattle.wbt_journal.specs.Steps.{is_in, change_in, raised, column_after, columns_after}

-- ---- what stays

no_change : (inside : Bool) (change : ℤ) → change ≡ pos 0 → (if inside then change else pos 0) ≡ pos 0
no_change true change none = none
no_change false change none = refl

column_stays : (homes : List ℕ) (domain : ℕ) (step : StepEntry) (column : Column) → step.change ≡ pos 0 → raised step.kind step.domain domain step.peak ≡ 0
    → column_after homes domain step column ≡ column
column_stays homes domain step column none low =
    ap (λ (n : ℕ). record { count = column.count +ℤ change_in homes domain step; base = column.base; peak = max column.peak n }) low
    ∙ ap (λ (z : ℤ). record { count = column.count +ℤ z; base = column.base; peak = max column.peak 0 }) (no_change (is_in homes step.context domain) step.change none)
    ∙ ap (λ (z : ℤ). record { count = z; base = column.base; peak = max column.peak 0 }) (+ℤ_idr column.count)
    ∙ ap (λ (n : ℕ). record { count = column.count; base = column.base; peak = n }) (omega arith)

columns_stay : (homes : List ℕ) (domain : ℕ) (step : StepEntry) (columns : List Column) → step.change ≡ pos 0 → ((d : ℕ) → raised step.kind step.domain d step.peak ≡ 0)
    → columns_after homes domain step columns ≡ columns
columns_stay homes domain step [] none low = refl
columns_stay homes domain step (column ∷ columns) none low =
    ap (λ c. c ∷ columns_after homes (domain + 1) step columns) (column_stays homes domain step column none (low domain))
    ∙ ap (λ cs. column ∷ cs) (columns_stay homes (domain + 1) step columns none low)

raises_none : (k : StepKind) (of domain peak : ℕ) → (k ≡ kind.Peak → ⊥) → raised k of domain peak ≡ 0
raises_none kind.Peak of domain peak other = absurd (other refl)
raises_none k of domain peak other = refl

pub stays : (step : StepEntry) → (step.kind ≡ kind.Peak → ⊥) → step.change ≡ pos 0 → MayStay step
stays step other none = λ homes domain columns. columns_stay homes domain step columns none (λ d. raises_none step.kind step.domain d step.peak other)

-- ---- what is put

two_texts : (front a b : List ℕ) → (front ++ a) ++ b ≡ front ++ (a ++ (b ++ []))
two_texts front a b = append_assoc front a b ∙ ap (λ t. front ++ (a ++ t)) (sym (append-nil b))

-- the two numbers of a column after other text
pub one_column : (front : List ℕ) (column : Column) → (front ++ 32 ∷ signed_decimal column.count) ++ 32 ∷ signed_decimal (pos (column.base + column.peak)) ≡ front ++ column_text column
one_column front column =
    two_texts front (32 ∷ signed_decimal column.count) (32 ∷ signed_decimal (pos (column.base + column.peak)))
