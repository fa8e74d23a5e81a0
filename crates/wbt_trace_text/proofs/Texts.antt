-- Texts of lines, part after part.
use Rattle.std.proofs.Common.{◌≡◌, ℕ, List, [], ◌∷◌, ◌++◌, refl, sym, ◌∙◌, ap, append_assoc}
use Rattle.wbt_trace_text.specs.Writing.{line_text, lines_text, numbered, strict_lines, chunk_lines, cyclic_lines, expire_lines, estimate_lines, pace_lines}
use Rattle.wbt_trace_text.specs.declared.line.Line.{Line}
use Rattle.wbt_trace.specs.declared.trace.Context.{Context}
use Rattle.wbt_trace.specs.declared.trace.Device.{Device}
use Rattle.wbt_trace.specs.declared.trace.TaskLine.{TaskLine}

pub lines_text_append : (ks ls : List Line) → lines_text (ks ++ ls) ≡ lines_text ks ++ lines_text ls
lines_text_append [] ls = refl
lines_text_append (k ∷ ks) ls =
    ap (λ (t : List ℕ). line_text k ++ 10 ∷ t) (lines_text_append ks ls) ∙ sym (append_assoc (line_text k) (10 ∷ lines_text ks) (lines_text ls))

-- The text is an old text with these lines behind it.
pub record Has (old text : List ℕ) (lines : List Line) : Type 0 where
  pub is : text ≡ old ++ lines_text lines

-- one part more
pub join : (old t u : List ℕ) (before part : List Line) → Has old t before → u ≡ t ++ lines_text part → Has old u (before ++ part)
join old t u before part has put = record {
  is = put ∙ ap (λ (l : List ℕ). l ++ lines_text part) has.is ∙ append_assoc old (lines_text before) (lines_text part) ∙ ap (λ (l : List ℕ). old ++ l) (sym (lines_text_append before part));
}

-- the things of one sort more
pub join_things : {T : Type 0} (line_of : ℕ → T → Line) (n : ℕ) (xs ys : List T) (old t u : List ℕ) (before : List Line) → xs ≡ ys → Has old t before → u ≡ t ++ lines_text (numbered line_of n xs) → Has old u (before ++ numbered line_of n ys)
join_things {T} line_of n xs ys old t u before same is put = join old t u before (numbered line_of n ys) is (put ∙ ap (λ (zs : List T). t ++ lines_text (numbered line_of n zs)) same)

-- the strict ones of devices more
pub join_stricts : (xs ys : List Device) (old t u : List ℕ) (before : List Line) → xs ≡ ys → Has old t before → u ≡ t ++ lines_text (strict_lines 0 xs) → Has old u (before ++ strict_lines 0 ys)
join_stricts xs ys old t u before same is put = join old t u before (strict_lines 0 ys) is (put ∙ ap (λ (zs : List Device). t ++ lines_text (strict_lines 0 zs)) same)

-- the lines of when inodes of contexts are due more
pub join_expires : (xs ys : List Context) (old t u : List ℕ) (before : List Line) → xs ≡ ys → Has old t before → u ≡ t ++ lines_text (expire_lines 0 xs) → Has old u (before ++ expire_lines 0 ys)
join_expires xs ys old t u before same is put = join old t u before (expire_lines 0 ys) is (put ∙ ap (λ (zs : List Context). t ++ lines_text (expire_lines 0 zs)) same)

-- the lines of devices' chunks more
pub join_chunks : (xs ys : List Device) (old t u : List ℕ) (before : List Line) → xs ≡ ys → Has old t before → u ≡ t ++ lines_text (chunk_lines 0 xs) → Has old u (before ++ chunk_lines 0 ys)
join_chunks xs ys old t u before same is put = join old t u before (chunk_lines 0 ys) is (put ∙ ap (λ (zs : List Device). t ++ lines_text (chunk_lines 0 zs)) same)

-- the lines of those devices whose scans go round more
pub join_cyclics : (xs ys : List Device) (old t u : List ℕ) (before : List Line) → xs ≡ ys → Has old t before → u ≡ t ++ lines_text (cyclic_lines 0 xs) → Has old u (before ++ cyclic_lines 0 ys)
join_cyclics xs ys old t u before same is put = join old t u before (cyclic_lines 0 ys) is (put ∙ ap (λ (zs : List Device). t ++ lines_text (cyclic_lines 0 zs)) same)

-- the lines of contexts' first estimates more
pub join_estimates : (xs ys : List Context) (old t u : List ℕ) (before : List Line) → xs ≡ ys → Has old t before → u ≡ t ++ lines_text (estimate_lines 0 xs) → Has old u (before ++ estimate_lines 0 ys)
join_estimates xs ys old t u before same is put = join old t u before (estimate_lines 0 ys) is (put ∙ ap (λ (zs : List Context). t ++ lines_text (estimate_lines 0 zs)) same)

-- the lines of when tasks rest between their pages more
pub join_paces : (xs ys : List TaskLine) (old t u : List ℕ) (before : List Line) → xs ≡ ys → Has old t before → u ≡ t ++ lines_text (pace_lines 0 xs) → Has old u (before ++ pace_lines 0 ys)
join_paces xs ys old t u before same is put = join old t u before (pace_lines 0 ys) is (put ∙ ap (λ (zs : List TaskLine). t ++ lines_text (pace_lines 0 zs)) same)
