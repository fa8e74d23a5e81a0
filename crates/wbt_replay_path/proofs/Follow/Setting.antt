-- The setting of a trace suits its run.
use Rattle.std.proofs.Common.{◌≡◌, ℕ, zero, suc, ◌+◌, ◌*◌, ◌%◌, ◌^◌, ◌<◌, ◌≤◌, Bool, true, false, ◌&&◌, ◌||◌, eqb, List, [], ◌∷◌, ◌++◌, length, get_or, refl, sym, ◌∙◌, ap, arith, eq-eqb, true≢false, ⊎_elim, length-append}
use Rattle.std.proofs.lemmas.Bool.{cases_lt, or_right}
use Rattle.std.proofs.lemmas.List.{get_or_append_left, get_or_push}
use Rattle.wbt_replay_order.proofs.Common.{writers_after, is_writer, Action, Write, Rest, Inode, Trace, MAX_LIMIT, IsSetting, context_of, writers_in, writer_at, setting_of, Facts, Suits}
use Rattle.wbt_trace.specs.Sofar.{inode_at}
use Rattle.wbt_trace.specs.WriterList.{with_writer}
use Rattle.wbt_trace.specs.declared.writers.Writer.{Writer}
use Rattle.wbt_limits.specs.Words.{sequence_word_of}
use Rattle.wbt_replay_order.proofs.Facts.Lists.{either}

-- ---- a pair is a writer once

abbrev no_writer : Writer
no_writer = record { task = 0; context = 0 }

-- the writers of two places are one pair
record IsPair (ws : List Writer) (v w : ℕ) : Type 0 where
  pub task : (get_or ws v no_writer).task ≡ (get_or ws w no_writer).task
  pub context : (get_or ws v no_writer).context ≡ (get_or ws w no_writer).context

abbrev AreOnce : (ws : List Writer) → Type 0
AreOnce ws = (v w : ℕ) → v < length ws → w < length ws → IsPair ws v w → v ≡ w

stands : (task context : ℕ) (ws : List Writer) (v : ℕ) → v < length ws → (get_or ws v no_writer).task ≡ task → (get_or ws v no_writer).context ≡ context
    → is_writer task context ws ≡ true
stands task context [] v less same at = absurd (omega (arith, less))
stands task context (w ∷ ws) zero less same at =
    ap (λ (b : Bool). (b && eqb w.context context) || is_writer task context ws) (eq-eqb w.task task same)
    ∙ ap (λ (b : Bool). b || is_writer task context ws) (eq-eqb w.context context at)
stands task context (w ∷ ws) (suc v) less same at =
    or_right (eqb w.task task && eqb w.context context) (is_writer task context ws) (stands task context ws v (omega (arith, less)) same at)

module _ (task context : ℕ) (ws : List Writer) (once : AreOnce ws) (new : is_writer task context ws ≡ false) where
  abbrev w : Writer
  w = record { task = task; context = context }

  before : (v : ℕ) → v < length ws → get_or (ws ++ w ∷ []) v no_writer ≡ get_or ws v no_writer
  before v less = get_or_append_left ws (w ∷ []) no_writer v less

  last : (v : ℕ) → length ws ≡ v → get_or (ws ++ w ∷ []) v no_writer ≡ w
  last v is = get_or_push ws w no_writer v is

  -- an earlier one isn't the last one
  differs : {P : Type 0} (v u : ℕ) → v < length ws → length ws ≡ u → IsPair (ws ++ w ∷ []) v u → P
  differs v u less is same =
      let yes = stands task context ws v less
      (ap (λ (x : Writer). x.task) (sym (before v less)) ∙ (same.task ∙ ap (λ (x : Writer). x.task) (last u is)))
      (ap (λ (x : Writer). x.context) (sym (before v less)) ∙ (same.context ∙ ap (λ (x : Writer). x.context) (last u is))) in
      absurd (true≢false (sym yes ∙ new))

  pushed_once : AreOnce (ws ++ w ∷ [])
  pushed_once v u less more same =
      let size = length-append ws (w ∷ []) in
      ⊎_elim
      (λ first. ⊎_elim
      (λ second. once v u first second (record {
        task = ap (λ (x : Writer). x.task) (sym (before v first)) ∙ (same.task ∙ ap (λ (x : Writer). x.task) (before u second));
        context = ap (λ (x : Writer). x.context) (sym (before v first)) ∙ (same.context ∙ ap (λ (x : Writer). x.context) (before u second));
      }))
      (λ past. differs v u first (omega (arith, past, more, size)) same)
      (cases_lt u (length ws)))
      (λ past. ⊎_elim
      (λ second. differs u v second (omega (arith, past, less, size)) (record { task = sym same.task; context = sym same.context }))
      (λ also. omega (arith, past, also, less, more, size))
      (cases_lt u (length ws)))
      (cases_lt v (length ws))

with_once : (task context : ℕ) (ws : List Writer) → AreOnce ws → AreOnce (with_writer task context ws)
with_once task context ws once =
    either AreOnce (is_writer task context ws) ws (ws ++ (record { task = task; context = context }) ∷ []) (λ known. once) (λ new. pushed_once task context ws once new)

all_once : (ws : List Writer) (inodes : List Inode) (actions : List Action) → AreOnce ws → AreOnce (writers_after ws inodes actions)
all_once ws inodes [] once = once
all_once ws inodes (Write task inode from pages ∷ actions) once =
    let at = (inode_at inode inodes).context in
    all_once (with_writer task at ws) inodes actions (with_once task at ws once)
all_once ws inodes (Rest task ticks ∷ actions) once = all_once ws inodes actions once

writers_once : (trace : Trace) → AreOnce (writers_in trace)
writers_once trace = all_once [] trace.inodes trace.actions (λ v w less more same. absurd (omega (arith, less)))

-- ---- the setting

-- the hard limit of a sequence word
one_hard : (q h : ℕ) → h ≤ MAX_LIMIT → h ≡ sequence_word_of q h % 2 ^ 32
one_hard q h low = sym (let again : (q * 2 ^ 32 + h) % 2 ^ 32 ≡ h = omega (arith, low) in again)

-- where each writer is one in a context of the trace
pub suits_of : (trace : Trace) → Facts trace → ((w : ℕ) → w < length (writers_in trace) → (writer_at trace w).context < length trace.contexts)
    → IsSetting (setting_of trace) → Suits trace (setting_of trace)
unfolding setting_of
suits_of trace facts in_contexts is = record {
  cpus = refl;
  cap = refl;
  contexts = refl;
  group = λ k. refl;
  pages = refl;
  page = λ n p page. omega (arith, page.before_end, facts.inode_end n page.there);
  home = λ n p page. ap (context_of trace) (facts.inode_is n p page);
  writers = refl;
  seat = λ w. refl;
  works_in = λ w. refl;
  writer_context = in_contexts;
  once = λ v w less more task context. writers_once trace v w less more (record { task = task; context = context });
  writer_is = facts.writer_is;
  setting_is = is;
  word = λ book p. refl;
  bits = λ word p. refl;
  hard_once = λ q h p g low high same. one_hard q h low ∙ (ap (λ (w : ℕ). w % 2 ^ 32) same ∙ sym (one_hard p g high));
}
