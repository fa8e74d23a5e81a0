-- A CPU's part is made of what it tells, one by one.
use Rattle.std.proofs.Common.{◌≡◌, ℕ, ◌+◌, suc, List, [], ◌∷◌, ◌++◌, length, slice_get, Option, Some, refl, sym, ◌∙◌, ap, arith, append_assoc, length-append, zero-add}
use Rattle.std.proofs.lemmas.List.{append-nil}
use Rattle.wbt_journal.specs.declared.entry.Entry.{Entry}
use Rattle.wbt_journal.specs.declared.entry.Entry.TheVariants as entry
use Rattle.wbt_journal.specs.declared.entry.CheckEntry.{CheckEntry}
use Rattle.wbt_journal.specs.declared.entry.EstEntry.{EstEntry}
use Rattle.wbt_journal.specs.declared.entry.CpuJournal.{CpuJournal}
use Rattle.wbt_journal_reader.specs.declared.row.Row.TheVariants as row
use Rattle.wbt_journal_reader.specs.Rows.{IsPlainRow}
use Rattle.wbt_journal.specs.Told.{Told, wrote, folded, checked, claimed, batch, done, share, estimated, fault, gave_back, noticed, aged, took, one_checked, one_estimated, told, InOrder, NamesInOrder}
use Rattle.wbt_journal.proofs.OnePart.{entries_from, checks_of, estimates_of, all_told}

-- the part that tells this
abbrev pub part_of : (ts : List Told) → CpuJournal
part_of ts = record { entries = entries_from 0 0 ts; checks = checks_of ts; estimates = estimates_of ts }

-- what an entry tells that names no check and no estimate
abbrev pub told_of : (e : Entry) → Told
told_of (entry.Write t p b) = wrote t p b
told_of (entry.Folded f) = folded f
told_of (entry.Check place) = took 0 0
told_of (entry.Claimed f p) = claimed f p
told_of (entry.Batch f n now until) = batch f n now until
told_of (entry.Done f p) = done f p
told_of (entry.Share d w n) = share d w n
told_of (entry.Est place) = took 0 0
told_of (entry.Fault f n) = fault f n
told_of (entry.Back f p b) = gave_back f p b
told_of (entry.Noticed f i since) = noticed f i since
told_of (entry.Aged f i due now) = aged f i due now
told_of (entry.Taken f i) = took f i

-- ---- one more at the end

later : (c k : ℕ) → (c + 1) + k ≡ c + suc k
later c k = omega arith

none_yet : (c : ℕ) → c ≡ c + 0
none_yet c = omega arith

entries_snoc : (c e : ℕ) (ts : List Told) (x : Told) → entries_from c e (ts ++ x ∷ []) ≡ entries_from c e ts ++ entries_from (c + length (checks_of ts)) (e + length (estimates_of ts)) (x ∷ [])
entries_snoc c e [] x = (λ i. entries_from (none_yet c i) (none_yet e i) (x ∷ []))
entries_snoc c e (checked y ∷ more) x =
    ap (λ (l : List Entry). entry.Check c ∷ l) (entries_snoc (c + 1) e more x ∙ ap (λ (k : ℕ). entries_from (c + 1) e more ++ entries_from k (e + length (estimates_of more)) (x ∷ [])) (later c (length (checks_of more))))
entries_snoc c e (estimated y ∷ more) x =
    ap (λ (l : List Entry). entry.Est e ∷ l) (entries_snoc c (e + 1) more x ∙ ap (λ (k : ℕ). entries_from c (e + 1) more ++ entries_from (c + length (checks_of more)) k (x ∷ [])) (later e (length (estimates_of more))))
entries_snoc c e (other ∷ more) x = ap (λ (l : List Entry). entries_from c e (other ∷ []) ++ l) (entries_snoc c e more x)

checks_snoc : (ts : List Told) (x : Told) → checks_of (ts ++ x ∷ []) ≡ checks_of ts ++ checks_of (x ∷ [])
checks_snoc [] x = refl
checks_snoc (checked y ∷ more) x = ap (λ (l : List CheckEntry). y ∷ l) (checks_snoc more x)
checks_snoc (other ∷ more) x = checks_snoc more x

estimates_snoc : (ts : List Told) (x : Told) → estimates_of (ts ++ x ∷ []) ≡ estimates_of ts ++ estimates_of (x ∷ [])
estimates_snoc [] x = refl
estimates_snoc (estimated y ∷ more) x = ap (λ (l : List EstEntry). y ∷ l) (estimates_snoc more x)
estimates_snoc (other ∷ more) x = estimates_snoc more x

same_part : (p q : CpuJournal) → p.entries ≡ q.entries → p.checks ≡ q.checks → p.estimates ≡ q.estimates → p ≡ q
same_part p q a b c = (λ i. record { entries = a i; checks = b i; estimates = c i })

pub part_entry : (ts : List Told) (e : Entry) → IsPlainRow (row.Entry e) → part_of (ts ++ told_of e ∷ []) ≡ record (part_of ts) { entries = (part_of ts).entries ++ e ∷ [] }
part_entry ts (entry.Check place) plain = absurd plain
part_entry ts (entry.Est place) plain = absurd plain
part_entry ts other plain = same_part (part_of (ts ++ told_of other ∷ [])) (record (part_of ts) { entries = (part_of ts).entries ++ other ∷ [] })
    (entries_snoc 0 0 ts (told_of other)) (checks_snoc ts (told_of other) ∙ append-nil (checks_of ts)) (estimates_snoc ts (told_of other) ∙ append-nil (estimates_of ts))

pub part_check : (ts : List Told) (c : CheckEntry) → part_of (ts ++ checked c ∷ [])
    ≡ record (part_of ts) { entries = (part_of ts).entries ++ entry.Check (length (part_of ts).checks) ∷ []; checks = (part_of ts).checks ++ c ∷ [] }
part_check ts c = same_part (part_of (ts ++ checked c ∷ [])) (record (part_of ts) { entries = (part_of ts).entries ++ entry.Check (length (part_of ts).checks) ∷ []; checks = (part_of ts).checks ++ c ∷ [] })
    (entries_snoc 0 0 ts (checked c) ∙ ap (λ (k : ℕ). entries_from 0 0 ts ++ entry.Check k ∷ []) (zero-add (length (checks_of ts)))) (checks_snoc ts (checked c)) (estimates_snoc ts (checked c) ∙ append-nil (estimates_of ts))

pub part_estimate : (ts : List Told) (x : EstEntry) → part_of (ts ++ estimated x ∷ [])
    ≡ record (part_of ts) { entries = (part_of ts).entries ++ entry.Est (length (part_of ts).estimates) ∷ []; estimates = (part_of ts).estimates ++ x ∷ [] }
part_estimate ts x = same_part (part_of (ts ++ estimated x ∷ [])) (record (part_of ts) { entries = (part_of ts).entries ++ entry.Est (length (part_of ts).estimates) ∷ []; estimates = (part_of ts).estimates ++ x ∷ [] })
    (entries_snoc 0 0 ts (estimated x) ∙ ap (λ (k : ℕ). entries_from 0 0 ts ++ entry.Est k ∷ []) (zero-add (length (estimates_of ts)))) (checks_snoc ts (estimated x) ∙ append-nil (checks_of ts)) (estimates_snoc ts (estimated x))

-- ---- a part tells what it is made of

slice_mid : {A : Type 0} (ps : List A) (x : A) (rest : List A) → slice_get (ps ++ x ∷ rest) (length ps) ≡ Some x
slice_mid [] x rest = refl
slice_mid (p ∷ ps) x rest = slice_mid ps x rest

got : {A : Type 0} (cs ps : List A) (x : A) (rest : List A) (c : ℕ) → cs ≡ ps ++ x ∷ rest → c ≡ length ps → slice_get cs c ≡ Some x
got cs ps x rest c is at = (λ i. slice_get (is i) (at i)) ∙ slice_mid ps x rest

one_past : {A : Type 0} (ps : List A) (x : A) (c : ℕ) → c ≡ length ps → c + 1 ≡ length (ps ++ x ∷ [])
one_past ps x c at = omega (arith, at, length-append ps (x ∷ []))

moved : {A : Type 0} (cs ps : List A) (x : A) (rest : List A) → cs ≡ ps ++ x ∷ rest → cs ≡ (ps ++ x ∷ []) ++ rest
moved cs ps x rest is = is ∙ sym (append_assoc ps (x ∷ []) rest)

told_from : (cs ps : List CheckEntry) (es qs : List EstEntry) (c e : ℕ) (ts : List Told) → cs ≡ ps ++ checks_of ts → es ≡ qs ++ estimates_of ts → c ≡ length ps → e ≡ length qs
    → all_told cs es (entries_from c e ts) ≡ ts
told_from cs ps es qs c e [] a b at on = refl
told_from cs ps es qs c e (checked x ∷ more) a b at on =
    ap (λ (o : Option CheckEntry). one_checked o ++ all_told cs es (entries_from (c + 1) e more)) (got cs ps x (checks_of more) c a at)
    ∙ ap (λ (l : List Told). checked x ∷ l) (told_from cs (ps ++ x ∷ []) es qs (c + 1) e more (moved cs ps x (checks_of more) a) b (one_past ps x c at) on)
told_from cs ps es qs c e (estimated x ∷ more) a b at on =
    ap (λ (o : Option EstEntry). one_estimated o ++ all_told cs es (entries_from c (e + 1) more)) (got es qs x (estimates_of more) e b on)
    ∙ ap (λ (l : List Told). estimated x ∷ l) (told_from cs ps es (qs ++ x ∷ []) c (e + 1) more a (moved es qs x (estimates_of more) b) at (one_past qs x e on))
told_from cs ps es qs c e (other ∷ more) a b at on = ap (λ (l : List Told). other ∷ l) (told_from cs ps es qs c e more a b at on)

ended : {A : Type 0} (cs ps : List A) (c : ℕ) → cs ≡ ps ++ [] → c ≡ length ps → c ≡ length cs
ended cs ps c is at = at ∙ ap length (sym (append-nil ps) ∙ sym is)

names_from : (cs ps : List CheckEntry) (es qs : List EstEntry) (c e : ℕ) (ts : List Told) → cs ≡ ps ++ checks_of ts → es ≡ qs ++ estimates_of ts → c ≡ length ps → e ≡ length qs
    → InOrder (length cs) (length es) c e (entries_from c e ts)
names_from cs ps es qs c e [] a b at on = (ended cs ps c a at, ended es qs e b on)
names_from cs ps es qs c e (checked x ∷ more) a b at on =
    (refl, names_from cs (ps ++ x ∷ []) es qs (c + 1) e more (moved cs ps x (checks_of more) a) b (one_past ps x c at) on)
names_from cs ps es qs c e (estimated x ∷ more) a b at on =
    (refl, names_from cs ps es (qs ++ x ∷ []) c (e + 1) more a (moved es qs x (estimates_of more) b) at (one_past qs x e on))
names_from cs ps es qs c e (other ∷ more) a b at on = names_from cs ps es qs c e more a b at on

pub told_again : (ts : List Told) → told (part_of ts) ≡ ts
told_again ts = told_from (checks_of ts) [] (estimates_of ts) [] 0 0 ts refl refl refl refl

pub names_again : (ts : List Told) → NamesInOrder (part_of ts)
names_again ts = names_from (checks_of ts) [] (estimates_of ts) [] 0 0 ts refl refl refl refl
