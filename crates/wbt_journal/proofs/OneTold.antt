-- What a CPU's part tells is fixed by its lines.
use Rattle.std.proofs.Common.{◌≡◌, ℕ, ◌≤◌, zero, suc, ℤ, pos, negsuc, Bool, true, false, List, [], ◌∷◌, ◌++◌, Option, Some, None, refl, sym, ◌∙◌, ap, arith, inl, inr, ◌⊎◌}
use Rattle.std.proofs.lemmas.Bool.{cases_eq}
use Rattle.wbt_counter.specs.declared.counter.Counter.{Counter}
use Rattle.wbt_counter.specs.declared.counter.Counter.TheVariants as counter
use Rattle.wbt_pause.specs.declared.decision.Kind.{Kind}
use Rattle.wbt_pause.specs.declared.decision.Kind.TheVariants as kind
use Rattle.wbt_journal.specs.declared.entry.CheckEntry.{CheckEntry}
use Rattle.wbt_journal.specs.declared.entry.DomainLine.{DomainLine}
use Rattle.wbt_journal.specs.declared.field.Field.{Field}
use Rattle.wbt_journal.specs.declared.field.Field.TheVariants.{Name, Int, Domain, Context}
use Rattle.wbt_journal.specs.declared.journal.Ending.{Ending}
use Rattle.wbt_journal.specs.declared.journal.Ending.TheVariants as ending
use Rattle.wbt_journal.specs.declared.word.Word.{Word}
use Rattle.wbt_journal.specs.declared.word.Word.TheVariants as word
use Rattle.wbt_journal.specs.Line.{Line, line, num}
use Rattle.wbt_journal.specs.Lines.{counter_field, fresh_field, back_field, kind_field, bits_field, ending_field, read_line, cgroup_lines, count_line, decision_line, told_lines}
use Rattle.wbt_journal.specs.Told.{Told, wrote, folded, checked, claimed, batch, done, share, estimated, fault, gave_back, noticed, aged, took, marked_as}
use Rattle.wbt_journal.specs.Plain.{unmarked, MarkedBy}
use Rattle.wbt_journal.proofs.OneItem.{first_place, Stands}

-- ---- fields back

abbrev num_of : Field → ℕ
num_of (Int (pos n)) = n
num_of (Int (negsuc n)) = 0
num_of (Domain n) = n
num_of (Context n) = n
num_of (Name a) = 0

abbrev pub at : ℕ → List Field → Field
at i [] = num 0
at zero (f ∷ fs) = f
at (suc i) (f ∷ fs) = at i fs

abbrev pub number : ℕ → List Field → ℕ
number i fs = num_of (at i fs)

abbrev whole : Field → ℤ
whole (Int z) = z
whole f = pos 0

abbrev counter_of : Field → Counter
counter_of (Domain d) = counter.Domain d
counter_of f = counter.Context (num_of f)

counter_again : (c : Counter) → counter_of (counter_field c) ≡ c
counter_again (counter.Domain d) = refl
counter_again (counter.Context c) = refl

abbrev pub word_of : Field → Word
word_of (Name a) = a
word_of f = word.Timer

abbrev fresh_of : Word → Bool
fresh_of word.Fresh = true
fresh_of a = false

fresh_again : (b : Bool) → fresh_of (word_of (fresh_field b)) ≡ b
fresh_again true = refl
fresh_again false = refl

abbrev absorbed_of : Word → Bool
absorbed_of word.Absorbed = true
absorbed_of a = false

back_again : (b : Bool) → absorbed_of (word_of (back_field b)) ≡ b
back_again true = refl
back_again false = refl

abbrev kind_of : Word → Kind
kind_of word.Free = kind.Free
kind_of word.Go = kind.Go
kind_of word.Exempt = kind.Exempt
kind_of a = kind.Wait

kind_again : (k : Kind) → kind_of (word_of (kind_field k)) ≡ k
kind_again kind.Free = refl
kind_again kind.Go = refl
kind_again kind.Exempt = refl
kind_again kind.Wait = refl

abbrev pub ending_of : Word → Ending
ending_of word.Done = ending.Done
ending_of word.Halted = ending.Halted
ending_of word.Spent = ending.Spent
ending_of a = ending.Faulted

pub ending_again : (e : Ending) → ending_of (word_of (ending_field e)) ≡ e
ending_again ending.Done = refl
ending_again ending.Halted = refl
ending_again ending.Spent = refl
ending_again ending.Faulted = refl

abbrev pub bits_of : Word → ℕ
bits_of word.Dirty = 1
bits_of word.Writeback = 2
bits_of a = 3

pub bits_again : (n : ℕ) → 1 ≤ n → n ≤ 3 → bits_of (word_of (bits_field n)) ≡ n
bits_again n low high = elim (three n low high) [
  | inl one ↦ ap (λ k. bits_of (word_of (bits_field k))) one ∙ sym one
  | inr more ↦ elim more [
    | inl two ↦ ap (λ k. bits_of (word_of (bits_field k))) two ∙ sym two
    | inr both ↦ ap (λ k. bits_of (word_of (bits_field k))) both ∙ sym both
  ]
]
  where
    three : (n : ℕ) → 1 ≤ n → n ≤ 3 → (n ≡ 1) ⊎ ((n ≡ 2) ⊎ (n ≡ 3))
    three n low high = elim (cases_eq n 1) [
      | inl one ↦ inl one
      | inr other ↦ elim (cases_eq n 2) [
        | inl two ↦ inr (inl two)
        | inr more ↦ inr (inr (omega (arith, low, high, other, more)))
      ]
    ]

-- ---- lines back

abbrev read_from : List Field → DomainLine
read_from fs = record {
  domain = number 0 fs;
  triple = number 1 fs;
  limits = record { thresh = number 2 fs; bg = number 3 fs; hard = number 4 fs };
  count = record { version = number 5 fs; value = whole (at 6 fs) };
  share = record { period = number 7 fs; num = number 8 fs; den = number 9 fs };
}

read_again : (d : DomainLine) → read_from (read_line d).fields ≡ d
read_again d = refl

abbrev made : DomainLine → Option DomainLine → List Field → List Field → CheckEntry
made global cgroup cs ds = record {
  task = number 0 ds;
  context = number 1 ds;
  now = number 2 ds;
  global = global;
  cgroup = cgroup;
  count = record { version = number 1 cs; value = whole (at 2 cs) };
  estimate = number 3 ds;
  decision = record {
    kind = kind_of (word_of (at 4 ds));
    pause = number 5 ds;
    left = number 6 ds;
    task = record { nr_dirtied = number 7 ds; nr_dirtied_pause = number 8 ds; paused_when = number 9 ds };
    exceeded = false;
  };
}

abbrev pub first_line : List Line → Line
first_line [] = line word.Timer []
first_line (l ∷ ls) = l

abbrev pub behind : List Line → List Line
behind [] = []
behind (l ∷ ls) = ls

abbrev is_read : Word → Bool
is_read word.Read = true
is_read a = false

-- the check whose first line this is, and the lines after it
abbrev check_by : Bool → Line → List Line → CheckEntry × List Line
check_by true g ls = (made (read_from g.fields) (Some (read_from (first_line ls).fields)) (first_line (behind ls)).fields (first_line (behind (behind ls))).fields, behind (behind (behind ls)))
check_by false g ls = (made (read_from g.fields) None (first_line ls).fields (first_line (behind ls)).fields, behind (behind ls))

abbrev check_from : Line → List Line → CheckEntry × List Line
check_from g ls = check_by (is_read (first_line ls).word) g ls

abbrev lines_of : CheckEntry → Option DomainLine → List Line
lines_of c cgroup = cgroup_lines cgroup ++ count_line c ∷ decision_line c ∷ []

abbrev with : CheckEntry → Option DomainLine → CheckEntry
with c cgroup = record (marked_as false c) { cgroup = cgroup }

again_with : (c : CheckEntry) (cgroup : Option DomainLine) (r : List Line) → check_from (read_line c.global) (lines_of c cgroup ++ r) ≡ (with c cgroup, r)
again_with c None r = λ i. (record (with c None) { global = read_again c.global i; decision = record (with c None).decision { kind = kind_again c.decision.kind i } }, r)
again_with c (Some d) r = λ i. (record (with c (Some (read_again d i))) { global = read_again c.global i; decision = record (with c (Some d)).decision { kind = kind_again c.decision.kind i } }, r)

-- ---- entries back

abbrev clear : Told → Told
clear (checked c) = checked (with c c.cgroup)
clear other = other

abbrev told_by : Word → Line → List Line → Told × List Line
told_by word.Write l ls = (wrote (number 0 l.fields) (number 1 l.fields) (fresh_of (word_of (at 2 l.fields))), ls)
told_by word.Fold l ls = (folded (record { counter = counter_of (at 0 l.fields); version = number 1 l.fields; delta = whole (at 2 l.fields) }), ls)
told_by word.Read l ls = let c = check_from l ls in (checked c.0, c.1)
told_by word.Claim l ls = (claimed (number 0 l.fields) (number 1 l.fields), ls)
told_by word.Batch l ls = (batch (number 0 l.fields) (number 1 l.fields) (number 2 l.fields) (number 3 l.fields), ls)
told_by word.Done l ls = (done (number 0 l.fields) (number 1 l.fields), ls)
told_by word.Share l ls = (share (number 0 l.fields) (number 1 l.fields) (number 2 l.fields), ls)
told_by word.Est l ls = (
  estimated (record {
    context = number 0 l.fields;
    estimate = record {
      version = number 1 l.fields;
      bw = number 2 l.fields;
      avg = number 3 l.fields;
      ratelimit = number 4 l.fields;
      balanced = number 5 l.fields;
      written_stamp = number 6 l.fields;
      dirtied_stamp = number 7 l.fields;
      at = number 8 l.fields;
    };
  }),
  ls,
)
told_by word.Notice l ls = (noticed (number 0 l.fields) (number 1 l.fields) (number 2 l.fields), ls)
told_by word.Age l ls = (aged (number 0 l.fields) (number 1 l.fields) (number 2 l.fields) (number 3 l.fields), ls)
told_by word.Take l ls = (took (number 0 l.fields) (number 1 l.fields), ls)
told_by word.Back l ls = (gave_back (number 0 l.fields) (number 1 l.fields) (absorbed_of (word_of (at 2 l.fields))), ls)
told_by a l ls = (fault (number 0 l.fields) (number 1 l.fields), ls)

abbrev told_from : List Line → Told × List Line
told_from ls = told_by (first_line ls).word (first_line ls) (behind ls)

told_again : (a : Told) (r : List Line) → told_from (told_lines a ++ r) ≡ (clear a, r)
told_again (wrote t p fresh) r = λ i. (wrote t p (fresh_again fresh i), r)
told_again (folded f) r = λ i. (folded (record { counter = counter_again f.counter i; version = f.version; delta = f.delta }), r)
told_again (checked c) r = ap (λ (x : CheckEntry × List Line). let y : Told × List Line = (checked x.0, x.1) in y) (again_with c c.cgroup r)
told_again (claimed f p) r = refl
told_again (batch f n now until) r = refl
told_again (done f p) r = refl
told_again (share d a n) r = refl
told_again (estimated e) r = refl
told_again (fault f n) r = refl
told_again (noticed f i since) r = refl
told_again (aged f i due now) r = refl
told_again (took f i) r = refl
told_again (gave_back f p absorbed) r = λ i. (gave_back f p (back_again absorbed i), r)

checked_once : (c d : CheckEntry) → checked c ≡ checked d → c ≡ d
checked_once c d is = cc

marks_once : (rule : CheckEntry → Bool) (c d : CheckEntry) → c.decision.exceeded ≡ rule (unmarked c) → d.decision.exceeded ≡ rule (unmarked d) → with c c.cgroup ≡ with d d.cgroup → c ≡ d
unfolding unmarked
marks_once rule c d p q is =
    let field : c.decision.exceeded ≡ d.decision.exceeded = p ∙ ap rule is ∙ sym q in
    (λ i. record {
      task = (is i).task;
      context = (is i).context;
      now = (is i).now;
      global = (is i).global;
      cgroup = (is i).cgroup;
      count = (is i).count;
      estimate = (is i).estimate;
      decision = record { kind = (is i).decision.kind; pause = (is i).decision.pause; left = (is i).decision.left; task = (is i).decision.task; exceeded = field i };
    })

abbrev IsOther : Told → Type 0
IsOther (checked c) = ⊥
IsOther a = Unit {0}

clear_plain : (a : Told) → IsOther a → clear a ≡ a
clear_plain (checked c) plain = absurd plain
clear_plain other plain = refl

not_checked : (a : Told) (c : CheckEntry) → IsOther a → a ≡ checked c → ⊥
not_checked (checked d) c plain is = plain
not_checked other c plain is = cc

plain_once : (a b : Told) → IsOther a → clear a ≡ clear b → a ≡ b
plain_once a (checked c) plain is = absurd (not_checked a (with c c.cgroup) plain (sym (clear_plain a plain) ∙ is))
plain_once a other plain is = sym (clear_plain a plain) ∙ is

clear_once : (rule : CheckEntry → Bool) (a b : Told) → MarkedBy rule a → MarkedBy rule b → clear a ≡ clear b → a ≡ b
clear_once rule (checked c) b p q is = by_check b q is
  where
    by_check : (b : Told) → MarkedBy rule b → checked (with c c.cgroup) ≡ clear b → checked c ≡ b
    by_check (checked d) q is = ap checked (marks_once rule c d p q (checked_once (with c c.cgroup) (with d d.cgroup) is))
    by_check other q is = cc
clear_once rule other b p q is = plain_once other b tt is

first_of : {A B : Type 0} (a b : A) (r s : B) → (let x : A × B = (a, r) in x) ≡ (b, s) → (a ≡ b) × (r ≡ s)
first_of a b r s is = ((λ i. (is i).0), (λ i. (is i).1))

told_once : (rule : CheckEntry → Bool) (a b : Told) (r s : List Line) → MarkedBy rule a → MarkedBy rule b → told_lines a ++ r ≡ told_lines b ++ s → (a ≡ b) × (r ≡ s)
told_once rule a b r s p q is =
    let both = first_of (clear a) (clear b) r s (sym (told_again a r) ∙ ap told_from is ∙ told_again b s) in
    (clear_once rule a b p q both.0, both.1)

told_begins : (a : Told) (r : List Line) → first_place (told_lines a ++ r) ≡ 3
told_begins (checked c) r = refl
told_begins other r = refl

pub told_stands : (rule : CheckEntry → Bool) → Stands 3 told_lines (MarkedBy rule)
told_stands rule = record { begins = told_begins; once = told_once rule }
