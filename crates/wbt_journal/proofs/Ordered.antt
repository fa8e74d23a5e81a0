-- Steps of the loops that put writers in order.
use Rattle.std.proofs.Common.{◌≡◌, ℕ, suc, ◌+◌, ◌-◌, ◌<◌, Bool, true, false, if◌then◌else◌, List, [], ◌∷◌, ◌++◌, append_assoc, refl, sym, ap, ◌∙◌, arith}
use Rattle.std.proofs.lemmas.List.{append-nil}
use Rattle.wbt_trace.specs.Lawful.{writers_after}
use Rattle.wbt_trace.specs.WriterList.{is_writer}
use Rattle.wbt_trace.specs.declared.trace.Action.{Action}
use Rattle.wbt_trace.specs.declared.trace.Action.TheVariants.{Write, Rest}
use Rattle.wbt_trace.specs.declared.trace.Inode.{Inode}
use Rattle.wbt_trace.specs.declared.writers.Writer.{Writer}
use Rattle.wbt_trace.specs.WriterList.{writers_from, writers_of_task}

-- one context more, which is a writer's, or isn't
pub with_context : (ws : List Writer) (task c n : ℕ) (known : List Writer) → c < n → is_writer task c known ≡ true
    → (ws ++ (record { task = task; context = c }) ∷ []) ++ writers_of_task task (c + 1) (n - (c + 1)) known ≡ ws ++ writers_of_task task c (n - c) known
with_context ws task c n known less is =
    let w : Writer = record { task = task; context = c } in
    let more : List Writer = writers_of_task task (suc c) (n - suc c) known in
    let next : c + 1 ≡ suc c = omega arith in
    let left : n - c ≡ suc (n - suc c) = omega arith in
    ap (λ (k : ℕ). (ws ++ w ∷ []) ++ writers_of_task task k (n - k) known) next
    ∙ append_assoc ws (w ∷ []) more
    ∙ ap (λ (b : Bool). ws ++ (if b then w ∷ more else more)) (sym is)
    ∙ ap (λ (k : ℕ). ws ++ writers_of_task task c k known) (sym left)

pub without_context : (ws : List Writer) (task c n : ℕ) (known : List Writer) → c < n → is_writer task c known ≡ false
    → ws ++ writers_of_task task (c + 1) (n - (c + 1)) known ≡ ws ++ writers_of_task task c (n - c) known
without_context ws task c n known less is =
    let w : Writer = record { task = task; context = c } in
    let more : List Writer = writers_of_task task (suc c) (n - suc c) known in
    let next : c + 1 ≡ suc c = omega arith in
    let left : n - c ≡ suc (n - suc c) = omega arith in
    ap (λ (k : ℕ). ws ++ writers_of_task task k (n - k) known) next
    ∙ ap (λ (b : Bool). ws ++ (if b then w ∷ more else more)) (sym is)
    ∙ ap (λ (k : ℕ). ws ++ writers_of_task task c k known) (sym left)

pub no_context : (ws : List Writer) (task c n : ℕ) (known : List Writer) → n - c ≡ 0 → ws ++ writers_of_task task c (n - c) known ≡ ws
no_context ws task c n known none = ap (λ (k : ℕ). ws ++ writers_of_task task c k known) none ∙ append-nil ws

-- one task more
pub with_task : (ws : List Writer) (task n contexts : ℕ) (known : List Writer) → task < n
    → (ws ++ writers_of_task task 0 contexts known) ++ writers_from (task + 1) (n - (task + 1)) contexts known ≡ ws ++ writers_from task (n - task) contexts known
with_task ws task n contexts known less =
    let next : task + 1 ≡ suc task = omega arith in
    let left : n - task ≡ suc (n - suc task) = omega arith in
    ap (λ (k : ℕ). (ws ++ writers_of_task task 0 contexts known) ++ writers_from k (n - k) contexts known) next
    ∙ append_assoc ws (writers_of_task task 0 contexts known) (writers_from (suc task) (n - suc task) contexts known)
    ∙ ap (λ (k : ℕ). ws ++ writers_from task k contexts known) (sym left)

pub no_task : (ws : List Writer) (task n contexts : ℕ) (known : List Writer) → n - task ≡ 0 → ws ++ writers_from task (n - task) contexts known ≡ ws
no_task ws task n contexts known none = ap (λ (k : ℕ). ws ++ writers_from task k contexts known) none ∙ append-nil ws

-- actions one after another
pub one_action : (known : List Writer) (inodes : List Inode) (a : Action) (more : List Action)
    → writers_after (writers_after known inodes (a ∷ [])) inodes more ≡ writers_after known inodes (a ∷ more)
one_action known inodes (Write task inode from pages) more = refl
one_action known inodes (Rest task ticks) more = refl
