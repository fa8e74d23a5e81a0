-- Entries of folds: what holds of each, and what the log tells.
use Rattle.std.proofs.Common.{List, [], ◌∷◌, ◌++◌, Option, Some, None, sym, refl, ap, ◌∙◌, subst}
use Rattle.std.proofs.lemmas.List.{map-append}
use Rattle.wbt_kit.proofs.Common.{Fold, Settled, Each, Told, folded, CpuJournal}
use Rattle.wbt_table.specs.Calls.{told_fold}
use Rattle.wbt_journal.specs.declared.entry.Entry.TheVariants as entry
use Rattle.wbt_run_laws.specs.Log.{Logged}
use Rattle.wbt_run_laws.proofs.Logging.{logged_nothing, logged_both, logged_entry}
use Rattle.wbt_run_steps.specs.Pens.{with_fold}
use Rattle.wbt_run_steps.specs.Steps.{tells_folds}
use Rattle.wbt_run_steps.proofs.Settling.{in_order}

pub each_fold : (P : Told → Type 0) → ((f : Fold) → P (folded f)) → (folds : List Fold) → Each P (tells_folds folds)
each_fold P every [] = tt
each_fold P every (f ∷ folds) = (every f, each_fold P every folds)

pub each_fold_of : (P : Told → Type 0) (Q : Fold → Type 0) → ((f : Fold) → Q f → P (folded f)) → (folds : List Fold) → Each Q folds → Each P (tells_folds folds)
each_fold_of P Q every [] of = tt
each_fold_of P Q every (f ∷ folds) of = (every f of.0, each_fold_of P Q every folds of.1)

fold_logged : (which : Option Fold) (log : CpuJournal) → Logged (tells_folds (told_fold which)) log (with_fold which log)
fold_logged None log = logged_nothing log
fold_logged (Some f) log = logged_entry (entry.Folded f) log refl

pub folds_logged : (settled : Settled) (log : CpuJournal) → Logged (tells_folds (in_order settled)) log (with_fold settled.third (with_fold settled.second (with_fold settled.first log)))
folds_logged settled log =
    let a = told_fold settled.first in
    let b = told_fold settled.second in
    let c = told_fold settled.third in
    let one = with_fold settled.first log in
    let two = with_fold settled.second one in
    let three = with_fold settled.third two in
    subst (λ (l : List Told). Logged l log three)
    (ap (λ (l : List Told). tells_folds a ++ l) (sym (map-append (λ (f : Fold). folded f) b c)) ∙ sym (map-append (λ (f : Fold). folded f) a (b ++ c)))
    (logged_both (tells_folds a) (tells_folds b ++ tells_folds c) log one three (fold_logged settled.first log)
    (logged_both (tells_folds b) (tells_folds c) one two three (fold_logged settled.second one) (fold_logged settled.third two)))
