-- Texts of lists of lines.
use Rattle.std.proofs.Common.{◌≡◌, ℕ, ◌+◌, ◌<◌, ◌≤◌, List, [], ◌∷◌, ◌++◌, length, get_or, drop, flat_map, map, refl, sym, ◌∙◌, ap, append_assoc, append-nil, arith}
use Rattle.std.proofs.lemmas.Grind.{flat_map-append}
use Rattle.std.proofs.lemmas.List.{drop_more, drop_all}
use Rattle.wbt_journal.specs.declared.columns.Column.{Column}
use Rattle.wbt_journal.specs.declared.entry.Entry.{Entry}
use Rattle.wbt_journal.specs.declared.entry.CheckEntry.{CheckEntry}
use Rattle.wbt_journal.specs.declared.entry.EstEntry.{EstEntry}
use Rattle.wbt_journal.specs.declared.entry.CpuJournal.{CpuJournal}
use Rattle.wbt_journal.specs.declared.field.Field.{Field}
use Rattle.wbt_journal.specs.declared.journal.Journal.{Journal}
use Rattle.wbt_journal.specs.declared.journal.Left.{Left}
use Rattle.wbt_journal.specs.declared.journal.StrictLine.{StrictLine}
use Rattle.wbt_journal.specs.declared.timer.TimerEntry.{TimerEntry}
use Rattle.wbt_journal.specs.declared.step.StepEntry.{StepEntry}
use Rattle.wbt_journal.specs.declared.word.Word.TheVariants as word
use Rattle.wbt_journal.specs.Line.{Line, line, num, field_text, fields_text, line_text, lines_text}
use Rattle.wbt_journal.specs.Lines.{read_line, cgroup_lines, count_line, decision_line, check_lines, told_lines, timer_line, cpu_lines, left_line, strict_line, ending_line}
use Rattle.wbt_journal.specs.Steps.{column_fields, columns_after, first_columns, step_line, step_lines, steps_part}
use Rattle.wbt_journal.specs.Pieces.{timer_text, left_text, strict_text, entry_text, cpu_text, column_text, parts_text}
use Rattle.wbt_journal.specs.Text.{census_line, totals_line, end_lines, journal_lines, journal_text}
use Rattle.wbt_journal.specs.Told.{told, told_entry}

pub lines_more : (ls ms : List Line) → lines_text (ls ++ ms) ≡ lines_text ls ++ lines_text ms
lines_more ls ms = flat_map-append line_text ls ms

-- the lines of a check, one after another
pub check_text : (check : CheckEntry)
    → line_text (read_line check.global) ++ (lines_text (cgroup_lines check.cgroup) ++ (line_text (count_line check) ++ line_text (decision_line check)))
    ≡ lines_text (check_lines check)
check_text check =
    ap (λ t. line_text (read_line check.global) ++ t)
    (ap (λ t. lines_text (cgroup_lines check.cgroup) ++ (line_text (count_line check) ++ t)) (sym (append-nil (line_text (decision_line check))))
    ∙ sym (lines_more (cgroup_lines check.cgroup) (count_line check ∷ decision_line check ∷ [])))

-- ---- steps

fields_flat : (columns : List Column) → fields_text (flat_map column_fields columns) ≡ flat_map column_text columns
fields_flat [] = refl
fields_flat (column ∷ columns) =
    flat_map-append (λ field. 32 ∷ field_text field) (column_fields column) (flat_map column_fields columns)
    ∙ ap (λ t. column_text column ++ t) (fields_flat columns)

-- a word, three fields, columns and the end of the line
pub step_text : (first : List Field) (word : List ℕ) (columns : List Column)
    → word ++ (fields_text first ++ (flat_map column_text columns ++ 10 ∷ [])) ≡ word ++ (fields_text (first ++ flat_map column_fields columns) ++ 10 ∷ [])
step_text first word columns =
    ap (λ t. word ++ t) (sym (append_assoc (fields_text first) (flat_map column_text columns) (10 ∷ []))
    ∙ ap (λ t. t ++ 10 ∷ []) (sym (flat_map-append (λ field. 32 ∷ field_text field) first (flat_map column_fields columns)
    ∙ ap (λ t. fields_text first ++ t) (fields_flat columns))))

-- one more step of those that are left
pub steps_step : (cpus : ℕ) (homes : List ℕ) (front : List ℕ) (columns columns' : List Column) (steps : List StepEntry) (i : ℕ) (d : StepEntry) → i < length steps
    → columns' ≡ columns_after homes 0 (get_or steps i d) columns
    → (front ++ line_text (step_line cpus (i + 1) (get_or steps i d) columns')) ++ lines_text (step_lines cpus homes (i + 1 + 1) columns' (drop (i + 1) steps))
    ≡ front ++ lines_text (step_lines cpus homes (i + 1) columns (drop i steps))
steps_step cpus homes front columns columns' steps i d less is =
    append_assoc front (line_text (step_line cpus (i + 1) (get_or steps i d) columns')) (lines_text (step_lines cpus homes (i + 1 + 1) columns' (drop (i + 1) steps)))
    ∙ ap (λ cs. front ++ (line_text (step_line cpus (i + 1) (get_or steps i d) cs) ++ lines_text (step_lines cpus homes (i + 1 + 1) cs (drop (i + 1) steps)))) is
    ∙ ap (λ rest. front ++ lines_text (step_lines cpus homes (i + 1) columns rest)) (sym (drop_more steps i d less))

pub steps_over : (cpus : ℕ) (homes : List ℕ) (front : List ℕ) (columns : List Column) (steps : List StepEntry) (i : ℕ) → length steps ≤ i
    → front ≡ front ++ lines_text (step_lines cpus homes (i + 1) columns (drop i steps))
steps_over cpus homes front columns steps i past =
    sym (ap (λ rest. front ++ lines_text (step_lines cpus homes (i + 1) columns rest)) (drop_all i steps past) ∙ append-nil front)

pub some_steps : (cpus : ℕ) (homes : List ℕ) (columns : List Column) (steps : List StepEntry) → 1 ≤ length steps
    → line_text (line word.Steps []) ++ lines_text (step_lines cpus homes 1 columns steps) ≡ lines_text (steps_part cpus homes columns steps)
some_steps cpus homes columns [] some = absurd (omega (arith, some))
some_steps cpus homes columns (step ∷ steps) some = refl

-- ---- the parts of the CPUs

told_flat : (checks : List CheckEntry) (estimates : List EstEntry) (entries : List Entry)
    → lines_text (flat_map told_lines (flat_map (told_entry checks estimates) entries)) ≡ flat_map (entry_text checks estimates) entries
told_flat checks estimates [] = refl
told_flat checks estimates (entry ∷ entries) =
    ap lines_text (flat_map-append told_lines (told_entry checks estimates entry) (flat_map (told_entry checks estimates) entries))
    ∙ lines_more (flat_map told_lines (told_entry checks estimates entry)) (flat_map told_lines (flat_map (told_entry checks estimates) entries))
    ∙ ap (λ t. entry_text checks estimates entry ++ t) (told_flat checks estimates entries)

cpus_head : (cpu : ℕ) (part : CpuJournal) (parts : List CpuJournal)
    → lines_text (cpu_lines cpu (part ∷ parts)) ≡ cpu_text cpu part.checks part.estimates part.entries ++ lines_text (cpu_lines (cpu + 1) parts)
cpus_head cpu part parts =
    ap (λ t. line_text (line word.Cpu (num cpu ∷ [])) ++ t)
    (lines_more (flat_map told_lines (told part)) (cpu_lines (cpu + 1) parts)
    ∙ ap (λ t. t ++ lines_text (cpu_lines (cpu + 1) parts)) (told_flat part.checks part.estimates part.entries))
    ∙ sym (append_assoc (line_text (line word.Cpu (num cpu ∷ []))) (flat_map (entry_text part.checks part.estimates) part.entries) (lines_text (cpu_lines (cpu + 1) parts)))

pub cpus_step : (front : List ℕ) (parts : List CpuJournal) (i : ℕ) (part : CpuJournal) → part ≡ get_or parts i part → i < length parts
    → (front ++ cpu_text i part.checks part.estimates part.entries) ++ lines_text (cpu_lines (i + 1) (drop (i + 1) parts)) ≡ front ++ lines_text (cpu_lines i (drop i parts))
cpus_step front parts i part is less =
    append_assoc front (cpu_text i part.checks part.estimates part.entries) (lines_text (cpu_lines (i + 1) (drop (i + 1) parts)))
    ∙ ap (λ t. front ++ t) (sym (ap (λ rest. lines_text (cpu_lines i rest)) (drop_more parts i part less) ∙ cpus_head i (get_or parts i part) (drop (i + 1) parts)
    ∙ ap (λ p. cpu_text i p.checks p.estimates p.entries ++ lines_text (cpu_lines (i + 1) (drop (i + 1) parts))) (sym is)))

pub cpus_over : (front : List ℕ) (parts : List CpuJournal) (i : ℕ) → length parts ≤ i → front ≡ front ++ lines_text (cpu_lines i (drop i parts))
cpus_over front parts i past = sym (ap (λ rest. front ++ lines_text (cpu_lines i rest)) (drop_all i parts past) ∙ append-nil front)

-- ---- the whole

lines_map : {A : Type 0} (l : A → Line) (xs : List A) → lines_text (map l xs) ≡ flat_map (λ x. line_text (l x)) xs
lines_map l [] = refl
lines_map l (x ∷ xs) = ap (λ t. line_text (l x) ++ t) (lines_map l xs)

-- the lines of strict devices, and the last line
last_lines : (j : Journal) → flat_map strict_text j.strict ++ line_text (ending_line j.ending) ≡ lines_text (map strict_line j.strict ++ ending_line j.ending ∷ [])
last_lines j =
    ap (λ t. flat_map strict_text j.strict ++ t) (sym (append-nil (line_text (ending_line j.ending))))
    ∙ ap (λ t. t ++ lines_text (ending_line j.ending ∷ [])) (sym (lines_map strict_line j.strict))
    ∙ sym (lines_more (map strict_line j.strict) (ending_line j.ending ∷ []))

pub whole : (j : Journal) (columns : List Column) → columns ≡ first_columns 0 j.timer j.bases
    → parts_text j.timer (lines_text (cpu_lines 0 j.cpus)) (lines_text (steps_part (length j.cpus) j.homes columns j.steps)) j.left
    (line_text (census_line j.left) ++ (line_text (totals_line j.cpus) ++ (flat_map strict_text j.strict ++ line_text (ending_line j.ending))))
    ≡ journal_text j
unfolding journal_lines
whole j columns is =
    let start = line_text (line word.Timer []) in
    let ends = line_text (census_line j.left) ++ (line_text (totals_line j.cpus) ++ (flat_map strict_text j.strict ++ line_text (ending_line j.ending))) in
    let cpus = cpu_lines 0 j.cpus in
    let steps = steps_part (length j.cpus) j.homes (first_columns 0 j.timer j.bases) j.steps in
    let lefts = map left_line j.left in
    let ending : ends ≡ lines_text (end_lines j) = ap (λ t. line_text (census_line j.left) ++ (line_text (totals_line j.cpus) ++ t)) (last_lines j) in
    append_assoc start (flat_map timer_text j.timer) _
    ∙ ap (λ t. start ++ t) (
    ap (λ cs. flat_map timer_text j.timer ++ (lines_text cpus ++ (lines_text (steps_part (length j.cpus) j.homes cs j.steps) ++ (flat_map left_text j.left ++ ends)))) is
    ∙ ap (λ t. flat_map timer_text j.timer ++ (lines_text cpus ++ (lines_text steps ++ t))) (ap (λ t. flat_map left_text j.left ++ t) ending ∙ ap (λ t. t ++ lines_text (end_lines j)) (sym (lines_map left_line j.left)) ∙ sym (lines_more lefts (end_lines j)))
    ∙ ap (λ t. flat_map timer_text j.timer ++ (lines_text cpus ++ t)) (sym (lines_more steps (lefts ++ end_lines j)))
    ∙ ap (λ t. flat_map timer_text j.timer ++ t) (sym (lines_more cpus (steps ++ (lefts ++ end_lines j))))
    ∙ ap (λ t. t ++ lines_text (cpus ++ (steps ++ (lefts ++ end_lines j)))) (sym (lines_map timer_line j.timer))
    ∙ sym (lines_more (map timer_line j.timer) (cpus ++ (steps ++ (lefts ++ end_lines j)))))

-- the same of lists that are the journal's
pub whole_of : (j : Journal) (timer : List TimerEntry) (cpus : List CpuJournal) (homes : List ℕ) (steps : List StepEntry) (left : List Left) (strict : List StrictLine) (columns : List Column)
    → timer ≡ j.timer → cpus ≡ j.cpus → homes ≡ j.homes → steps ≡ j.steps → left ≡ j.left → strict ≡ j.strict → columns ≡ first_columns 0 j.timer j.bases
    → parts_text timer (lines_text (cpu_lines 0 cpus)) (lines_text (steps_part (length cpus) homes columns steps)) left
    (line_text (census_line left) ++ (line_text (totals_line cpus) ++ (flat_map strict_text strict ++ line_text (ending_line j.ending))))
    ≡ journal_text j
whole_of j timer cpus homes steps left strict columns t c h s l m is =
    let same : parts_text timer (lines_text (cpu_lines 0 cpus)) (lines_text (steps_part (length cpus) homes columns steps)) left
    (line_text (census_line left) ++ (line_text (totals_line cpus) ++ (flat_map strict_text strict ++ line_text (ending_line j.ending))))
    ≡ parts_text j.timer (lines_text (cpu_lines 0 j.cpus)) (lines_text (steps_part (length j.cpus) j.homes columns j.steps)) j.left
    (line_text (census_line j.left) ++ (line_text (totals_line j.cpus) ++ (flat_map strict_text j.strict ++ line_text (ending_line j.ending))))
    = λ i. parts_text (t i) (lines_text (cpu_lines 0 (c i))) (lines_text (steps_part (length (c i)) (h i) columns (s i))) (l i)
    (line_text (census_line (l i)) ++ (line_text (totals_line (c i)) ++ (flat_map strict_text (m i) ++ line_text (ending_line j.ending)))) in
    same ∙ whole j columns is
