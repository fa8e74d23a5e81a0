-- Writers and pages of a machine.
use Rattle.std.proofs.Common.{◌≡◌, ℕ, zero, suc, ◌+◌, ◌*◌, ◌/◌, ◌^◌, ◌<◌, ◌≤◌, [], ◌∷◌, All, length, get_or, cond, nat_lt, Bool, true, false, sym, refl, ap, ◌∙◌, subst, arith}
use mathlib.Core.Logic.{dite}
use native.Mathlib.Decide.{ℕ_discrete}
use Rattle.std.proofs.lemmas.List.{length_push, get_or_push, get_or_append_left}
use Rattle.std.proofs.lemmas.List.Elements.{All-nil, All-cons, All-push}
use Rattle.std.proofs.lemmas.Nat.{div_below, div-mul-add, mul-add-lt}
use Rattle.wbt_num.specs.declared.limits.Limits.{Limits}
use Rattle.wbt_num.specs.Limits.{IsLawful}
use Rattle.wbt_table.specs.declared.layout.Layout.{Layout}
use Rattle.wbt_table.specs.declared.layout.Place.{Place}
use Rattle.wbt_table.specs.declared.layout.Writer.{Writer}
use Rattle.wbt_table.specs.Layout.{setting, IsLayout, no_writer, no_place}
use Rattle.wbt_table.specs.Callers.{MayWrite}
use Rattle.caller_of_throttle.specs.declared.worker.Part.{Part}
use Rattle.caller_of_throttle.specs.Machine.{writers_of, machine_of}
use Rattle.caller_of_throttle.specs.Work.{IsPart, IsLoader}

pub length_writers : (each n : ℕ) → length (writers_of each n) ≡ n
length_writers each zero = refl
length_writers each (suc n) = let e = length_push (writers_of each n) (record { cpu = n / each; context = 0 }) in
    let l = length_writers each n in omega arith

pub writer_is : (each n w : ℕ) → w < n → get_or (writers_of each n) w no_writer ≡ record { cpu = w / each; context = 0 }
writer_is each zero w less = absurd (omega arith)
writer_is each (suc n) w less = let new : Writer = record { cpu = n / each; context = 0 } in let l = length_writers each n in
    dite (ℕ_discrete w n)
    (λ e. subst (λ (v : ℕ). get_or (writers_of each (suc n)) v no_writer ≡ record { cpu = v / each; context = 0 }) (sym e)
    (get_or_push (writers_of each n) new no_writer n l))
    (λ ne. get_or_append_left (writers_of each n) (new ∷ []) no_writer w (omega arith) ∙ writer_is each n w (omega arith))

on_cpus : (each cpus n : ℕ) → 0 < each → n ≤ cpus * each → All (λ (w : Writer). w.cpu < cpus) (writers_of each n)
on_cpus each cpus zero some fits = All-nil (λ (w : Writer). w.cpu < cpus)
on_cpus each cpus (suc n) some fits = All-push (λ (w : Writer). w.cpu < cpus) (writers_of each n) (record { cpu = n / each; context = 0 })
    (on_cpus each cpus n some (omega arith)) (div_below n each cpus some (omega arith))

in_context : (each n : ℕ) → All (λ (w : Writer). w.context < 1) (writers_of each n)
in_context each zero = All-nil (λ (w : Writer). w.context < 1)
in_context each (suc n) = All-push (λ (w : Writer). w.context < 1) (writers_of each n) (record { cpu = n / each; context = 0 }) (in_context each n) (omega arith)

-- a list of one
one : {A : Type 0} (P : A → Type 0) (a : A) → P a → All P (a ∷ [])
one P a is = All-cons P a [] is (All-nil P)

pub is_layout : (cpus each pages : ℕ) → 1 ≤ cpus → cpus ≤ 64 → 0 < each → cpus * each ≤ 1024 → pages ≤ 2097152 → IsLayout (machine_of cpus each pages)
is_layout cpus each pages some few some' few' most = let long = length_writers each (cpus * each) in record {
  some_cpu = some;
  few_cpus = few;
  some_cap = omega arith;
  small_cap = omega arith;
  some_page_step = omega arith;
  few_page_steps = omega arith;
  some_domain = omega arith;
  few_domains = omega arith;
  firsts_lawful = one (λ (l : Limits). IsLawful l) (record { thresh = 100; bg = 50; hard = 100 }) (record { bg_below_thresh = omega arith; thresh_below_hard = omega arith; hard_in_range = omega arith });
  few_contexts = omega arith;
  contexts_in_domains = one (λ (d : ℕ). d < 1) 0 (omega arith);
  few_inodes = omega arith;
  few_pages = omega arith;
  inodes_in_order = (refl, tt);
  inodes_in_contexts = one (λ (p : Place). p.context < 1) (record { context = 0; first = 0; pages = pages }) (omega arith);
  few_writers = omega arith;
  writers_on_cpus = on_cpus each cpus (cpus * each) some' (omega arith);
  writers_in_contexts = in_context each (cpus * each);
}

-- the one inode's context is 0, and so is that of no place
its_context : (b : Bool) (pages : ℕ) → (get_or (record { context = 0; first = 0; pages = pages } ∷ []) (cond b 0 1) no_place).context ≡ 0
its_context false pages = refl
its_context true pages = refl

module _ (cpus each pages c : ℕ) (some : 0 < each) (less : c < cpus) where
  writer_less : (k : ℕ) → k < each → c * each + k < cpus * each
  writer_less k small = let e = mul-add-lt c each k cpus less small in omega arith

  its_record : (k : ℕ) → k < each → get_or (writers_of each (cpus * each)) (c * each + k) no_writer ≡ record { cpu = c; context = 0 }
  its_record k small = writer_is each (cpus * each) (c * each + k) (writer_less k small)
      ∙ ap (λ (i : ℕ). record { cpu = i; context = 0 }) (div-mul-add c each k small)

  pub may_write : (k p : ℕ) → k < each → p < pages → MayWrite (machine_of cpus each pages) c (c * each + k) p
  may_write k p small inside = let long = length_writers each (cpus * each) in let w = writer_less k small in record {
    there = omega arith;
    seat = ap (λ (z : Writer). z.cpu) (its_record k small);
    page = omega arith;
    home = its_context (nat_lt p (0 + pages)) pages ∙ sym (ap (λ (z : Writer). z.context) (its_record k small));
  }

  pub is_part : (first n : ℕ) → n ≤ each * 32 → first + n ≤ pages → pages ≤ 2097152 → c * each + n / 32 < 2 ^ 32
      → IsPart (machine_of cpus each pages) (record { cpu = c; writer = c * each; first = first; pages = n })
  is_part first n fits inside most small = record {
    few = omega arith;
    small = omega arith;
    writers_fit = small;
    may_write = λ i l. may_write (i / 32) (first + i) (div_below i 32 each (omega arith) (omega arith)) (omega arith);
  }

  pub is_loader : IsLoader (machine_of cpus each pages) c (c * each)
  is_loader = let e : c * each + 0 ≡ c * each = omega arith in
      let long = length_writers each (cpus * each) in let l = writer_less 0 some in record {
        there = omega arith;
        seat = subst (λ (i : ℕ). (setting (machine_of cpus each pages)).seat i ≡ c) e (ap (λ (z : Writer). z.cpu) (its_record 0 some));
        domain = omega arith;
        context = omega arith;
      }

-- the part of a CPU with one writer
pub life_part : (key : Layout) (part : Part) (c : ℕ) → key ≡ machine_of 2 1 4096 → part ≡ record { cpu = c; writer = c; first = c * 32; pages = 32 } → c ≤ 1 → IsPart key part
life_part key part c is is' small = let one : c * 1 ≡ c = omega arith in
    subst (λ (z : Layout × Part). IsPart z.0 z.1) (λ i. (sym is i, (ap (λ (w : ℕ). record { cpu = c; writer = w; first = c * 32; pages = 32 }) one ∙ sym is') i))
    (is_part 2 1 4096 c (omega arith) (omega arith) (c * 32) 32 (omega arith) (omega arith) (omega arith) (omega arith))
