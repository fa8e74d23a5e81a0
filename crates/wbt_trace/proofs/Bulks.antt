-- The trace of a bulk run is lawful.
use Rattle.std.proofs.Common.{◌≡◌, ℕ, zero, suc, ◌+◌, ◌%◌, ◌<◌, ◌≤◌, nat_lt, [], ◌∷◌, if◌then◌else◌, IsTrue, refl, arith}
use Rattle.std.specs.List.{All}
use Rattle.std.proofs.lemmas.List.Elements.{All-cons, All-nil}
use Rattle.wbt_trace.specs.Bulk.{bulk_trace, bulk_inodes, bulk_write, disk, pages_of}
use Rattle.wbt_trace.specs.Lawful.{IsLawful, AreInodes, IsInode, IsDevice, IsContext, HasPace, IsTask, IsFlusher, IsAction, IsCgroup, IsOrder}
use Rattle.wbt_trace.specs.Lawful.{has_flusher}
use Rattle.wbt_trace.specs.Sofar.{pages_in}

-- one where a page of those that are over comes to the i-th inode
abbrev over : (i r : ℕ) → ℕ
over i r = if nat_lt i r then 1 else 0

all_over : (r : ℕ) → r < 4 → over 0 r + over 1 r + over 2 r + over 3 r ≡ r
all_over zero less = refl
all_over (suc zero) less = refl
all_over (suc (suc zero)) less = refl
all_over (suc (suc (suc zero))) less = refl
all_over (suc (suc (suc (suc r)))) less = omega (arith, less)

some : (n i : ℕ) → 4 ≤ n → 1 ≤ pages_of n i
some n i enough = let k = over i (n % 4) in omega arith

-- the four inodes have n pages together
together : (n : ℕ) → pages_of n 0 + pages_of n 1 + pages_of n 2 + pages_of n 3 ≡ n
together n =
    let less : n % 4 < 4 = omega arith in
    let sum = all_over (n % 4) less in omega arith

pub bulk_has_pages : (n : ℕ) → pages_in (bulk_trace n).inodes ≡ n
bulk_has_pages n = let total = together n in omega arith

two : {A : Type 0} (P : A → Type 0) (a b : A) → P a → P b → All P (a ∷ b ∷ [])
two {A} P a b first second = All-cons P a (b ∷ []) first (All-cons P b [] second (All-nil P))

four : {A : Type 0} (P : A → Type 0) (a b c d : A) → P a → P b → P c → P d → All P (a ∷ b ∷ c ∷ d ∷ [])
four {A} P a b c d first second third fourth = All-cons P a (b ∷ c ∷ d ∷ []) first (All-cons P b (c ∷ d ∷ []) second (two P c d third fourth))

inodes_are : (n : ℕ) → 4 ≤ n → n ≤ 2097152 → AreInodes 2 (bulk_inodes n)
inodes_are n enough few =
    let total = together n in record {
      each = four (IsInode 2) _ _ _ _ (omega arith, some n 0 enough) (omega arith, some n 1 enough) (omega arith, some n 2 enough) (omega arith, some n 3 enough);
      firsts = (refl, (omega arith, (omega arith, (omega arith, tt))));
      total = omega arith;
      few = omega arith;
    }

action_is : (n i : ℕ) → 4 ≤ n → i < 4 → pages_of n i ≤ pages_of n i → IsAction 4 (bulk_inodes n) (bulk_write n i)
action_is n zero enough less same = (omega arith, omega arith, some n 0 enough, omega arith)
action_is n (suc zero) enough less same = (omega arith, omega arith, some n 1 enough, omega arith)
action_is n (suc (suc zero)) enough less same = (omega arith, omega arith, some n 2 enough, omega arith)
action_is n (suc (suc (suc zero))) enough less same = (omega arith, omega arith, some n 3 enough, omega arith)
action_is n (suc (suc (suc (suc i)))) enough less same = omega (arith, less)

disk_is : IsDevice disk
disk_is = record { rate = (omega arith, omega arith); shares = (omega arith, omega arith); chunk = tt }

-- The trace of a bulk run of 4 to 2097152 pages is lawful.
pub bulk_is_lawful : (n : ℕ) → 4 ≤ n → n ≤ 2097152 → IsLawful (bulk_trace n)
bulk_is_lawful n enough few = record {
  within = record {
    cpus = omega arith;
    cap = (omega arith, omega arith);
    settings = record { ratio = omega arith; bg_ratio = omega arith; bytes = omega arith; bg_bytes = omega arith };
    avail = (refl, omega arith, omega arith, tt);
    few_avail = omega arith;
    devices = record { each = two IsDevice disk disk disk_is disk_is; shares = omega arith; few = omega arith };
    cgroups = All-nil IsCgroup;
    few_cgroups = omega arith;
    contexts = two (IsContext 2 0) _ _ (omega arith, omega arith, tt, tt) (omega arith, omega arith, tt, tt);
    few_contexts = omega arith;
    inodes = inodes_are n enough few;
    tasks = four (IsTask 4) _ _ _ _ (omega arith) (omega arith) (omega arith) (omega arith);
    few_tasks = omega arith;
    paces = four HasPace _ _ _ _ tt tt tt tt;
    flushers = two (IsFlusher 2 4) _ _ (omega arith, omega arith) (omega arith, omega arith);
    few_flushers = omega arith;
    actions = four (IsAction 4 (bulk_inodes n)) _ _ _ _ (action_is n 0 enough (omega arith) (omega arith)) (action_is n 1 enough (omega arith) (omega arith)) (action_is n 2 enough (omega arith) (omega arith)) (action_is n 3 enough (omega arith) (omega arith));
    few_actions = omega arith;
    few_writers = omega arith;
    order = All-nil (IsOrder 4);
    few_orders = omega arith;
    halt = tt;
  };
  whole = record {
    cpus = omega arith;
    avail = omega arith;
    flushers = flushers_are;
  };
}
  where
    flushers_are : (device : ℕ) → device < 2 → IsTrue (has_flusher device (record { device = 0; cpu = 2 } ∷ record { device = 1; cpu = 3 } ∷ []))
    flushers_are zero less = refl
    flushers_are (suc zero) less = refl
    flushers_are (suc (suc device)) less = grind (arith)
