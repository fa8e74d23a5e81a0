-- A word is fixed by its text, which is of letters alone.
use Rattle.std.proofs.Common.{◌≡◌, ℕ, ◌≤◌, Bool, true, false, ◌&&◌, leb, List, [], ◌∷◌, Option, Some, None, refl, sym, ◌∙◌, ap, arith, codes, bytes_eq, if◌then◌else◌}
use Rattle.std.proofs.lemmas.Bool.Decides.{nat_tests}
use Rattle.wbt_journal.specs.declared.word.Word.{Word}
use Rattle.wbt_journal.specs.declared.word.Word.TheVariants as word
use Rattle.wbt_journal.specs.Word.{word_text}

-- no byte is below this
abbrev pub From : (low : ℕ) → List ℕ → Type 0
From low [] = Unit {0}
From low (x ∷ xs) = (low ≤ x) × From low xs

abbrev is_from : (low : ℕ) → List ℕ → Bool
is_from low [] = true
is_from low (x ∷ xs) = leb low x && is_from low xs

both : (low x : ℕ) (b : Bool) → (leb low x && b) ≡ true → (low ≤ x) × (b ≡ true)
both low x true is = (grind (arith, nat_tests), refl)
both low x false is = grind (arith, nat_tests)

tested : (low : ℕ) (xs : List ℕ) → is_from low xs ≡ true → From low xs
tested low [] is = tt
tested low (x ∷ xs) is = let parts = both low x (is_from low xs) is in (parts.0, tested low xs parts.1)

pub lower : (low high : ℕ) (xs : List ℕ) → low ≤ high → From high xs → From low xs
lower low high [] less all = tt
lower low high (x ∷ xs) less all = (omega (arith, less, all.0), lower low high xs less all.1)

are_letters : (a : Word) → is_from 97 (word_text a) ≡ true
are_letters word.Timer = refl
are_letters word.Limits = refl
are_letters word.Period = refl
are_letters word.Cpu = refl
are_letters word.Write = refl
are_letters word.Fold = refl
are_letters word.Read = refl
are_letters word.Count = refl
are_letters word.Check = refl
are_letters word.Claim = refl
are_letters word.Batch = refl
are_letters word.Done = refl
are_letters word.Share = refl
are_letters word.Est = refl
are_letters word.Fault = refl
are_letters word.Steps = refl
are_letters word.Step = refl
are_letters word.Left = refl
are_letters word.Census = refl
are_letters word.Totals = refl
are_letters word.Strict = refl
are_letters word.End = refl
are_letters word.Fresh = refl
are_letters word.Already = refl
are_letters word.Free = refl
are_letters word.Go = refl
are_letters word.Exempt = refl
are_letters word.Wait = refl
are_letters word.Dirty = refl
are_letters word.Writeback = refl
are_letters word.Both = refl
are_letters word.Halted = refl
are_letters word.Spent = refl
are_letters word.Faulted = refl
are_letters word.Add = refl
are_letters word.Clear = refl
are_letters word.Complete = refl
are_letters word.Peak = refl
are_letters word.Unseal = refl
are_letters word.Thresh = refl
are_letters word.Publish = refl
are_letters word.First = refl
are_letters word.Middle = refl
are_letters word.Mark = refl
are_letters word.Unmark = refl
are_letters word.Look = refl
are_letters word.Back = refl
are_letters word.Absorbed = refl
are_letters word.Notice = refl
are_letters word.Age = refl
are_letters word.Take = refl

pub letters : (a : Word) → From 97 (word_text a)
letters a = tested 97 (word_text a) (are_letters a)

-- past spaces and line feeds
pub word_solid : (a : Word) → From 33 (word_text a)
word_solid a = lower 33 97 (word_text a) (omega arith) (letters a)

-- the word of a text
abbrev word_from : List ℕ → Option Word
word_from t =
    if bytes_eq t (codes "timer") then Some word.Timer else (
    if bytes_eq t (codes "limits") then Some word.Limits else (
    if bytes_eq t (codes "period") then Some word.Period else (
    if bytes_eq t (codes "cpu") then Some word.Cpu else (
    if bytes_eq t (codes "write") then Some word.Write else (
    if bytes_eq t (codes "fold") then Some word.Fold else (
    if bytes_eq t (codes "read") then Some word.Read else (
    if bytes_eq t (codes "count") then Some word.Count else (
    if bytes_eq t (codes "check") then Some word.Check else (
    if bytes_eq t (codes "claim") then Some word.Claim else (
    if bytes_eq t (codes "batch") then Some word.Batch else (
    if bytes_eq t (codes "done") then Some word.Done else (
    if bytes_eq t (codes "share") then Some word.Share else (
    if bytes_eq t (codes "est") then Some word.Est else (
    if bytes_eq t (codes "fault") then Some word.Fault else (
    if bytes_eq t (codes "steps") then Some word.Steps else (
    if bytes_eq t (codes "step") then Some word.Step else (
    if bytes_eq t (codes "left") then Some word.Left else (
    if bytes_eq t (codes "census") then Some word.Census else (
    if bytes_eq t (codes "totals") then Some word.Totals else (
    if bytes_eq t (codes "strict") then Some word.Strict else (
    if bytes_eq t (codes "end") then Some word.End else (
    if bytes_eq t (codes "fresh") then Some word.Fresh else (
    if bytes_eq t (codes "already") then Some word.Already else (
    if bytes_eq t (codes "free") then Some word.Free else (
    if bytes_eq t (codes "go") then Some word.Go else (
    if bytes_eq t (codes "exempt") then Some word.Exempt else (
    if bytes_eq t (codes "wait") then Some word.Wait else (
    if bytes_eq t (codes "dirty") then Some word.Dirty else (
    if bytes_eq t (codes "writeback") then Some word.Writeback else (
    if bytes_eq t (codes "both") then Some word.Both else (
    if bytes_eq t (codes "halted") then Some word.Halted else (
    if bytes_eq t (codes "spent") then Some word.Spent else (
    if bytes_eq t (codes "faulted") then Some word.Faulted else (
    if bytes_eq t (codes "add") then Some word.Add else (
    if bytes_eq t (codes "clear") then Some word.Clear else (
    if bytes_eq t (codes "complete") then Some word.Complete else (
    if bytes_eq t (codes "peak") then Some word.Peak else (
    if bytes_eq t (codes "unseal") then Some word.Unseal else (
    if bytes_eq t (codes "thresh") then Some word.Thresh else (
    if bytes_eq t (codes "publish") then Some word.Publish else (
    if bytes_eq t (codes "first") then Some word.First else (
    if bytes_eq t (codes "middle") then Some word.Middle else (
    if bytes_eq t (codes "mark") then Some word.Mark else (
    if bytes_eq t (codes "unmark") then Some word.Unmark else (
    if bytes_eq t (codes "look") then Some word.Look else (
    if bytes_eq t (codes "back") then Some word.Back else (
    if bytes_eq t (codes "absorbed") then Some word.Absorbed else (
    if bytes_eq t (codes "notice") then Some word.Notice else (
    if bytes_eq t (codes "age") then Some word.Age else (
    if bytes_eq t (codes "take") then Some word.Take else (
    None)))))))))))))))))))))))))))))))))))))))))))))))))))

word_again : (a : Word) → word_from (word_text a) ≡ Some a
word_again word.Timer = refl
word_again word.Limits = refl
word_again word.Period = refl
word_again word.Cpu = refl
word_again word.Write = refl
word_again word.Fold = refl
word_again word.Read = refl
word_again word.Count = refl
word_again word.Check = refl
word_again word.Claim = refl
word_again word.Batch = refl
word_again word.Done = refl
word_again word.Share = refl
word_again word.Est = refl
word_again word.Fault = refl
word_again word.Steps = refl
word_again word.Step = refl
word_again word.Left = refl
word_again word.Census = refl
word_again word.Totals = refl
word_again word.Strict = refl
word_again word.End = refl
word_again word.Fresh = refl
word_again word.Already = refl
word_again word.Free = refl
word_again word.Go = refl
word_again word.Exempt = refl
word_again word.Wait = refl
word_again word.Dirty = refl
word_again word.Writeback = refl
word_again word.Both = refl
word_again word.Halted = refl
word_again word.Spent = refl
word_again word.Faulted = refl
word_again word.Add = refl
word_again word.Clear = refl
word_again word.Complete = refl
word_again word.Peak = refl
word_again word.Unseal = refl
word_again word.Thresh = refl
word_again word.Publish = refl
word_again word.First = refl
word_again word.Middle = refl
word_again word.Mark = refl
word_again word.Unmark = refl
word_again word.Look = refl
word_again word.Back = refl
word_again word.Absorbed = refl
word_again word.Notice = refl
word_again word.Age = refl
word_again word.Take = refl

some_once : {A : Type 0} (a b : A) → Some a ≡ Some b → a ≡ b
some_once a b is = cc

pub word_once : (a b : Word) → word_text a ≡ word_text b → a ≡ b
word_once a b is = some_once a b (sym (word_again a) ∙ ap word_from is ∙ word_again b)
