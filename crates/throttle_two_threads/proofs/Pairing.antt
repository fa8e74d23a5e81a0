-- Both CPUs of the throttle, apart and together again.
use Rattle.std.proofs.Common.{◌≡◌, ℕ, Some, sym, ap, ◌∙◌, subst, arith}
use Rattle.wbt_grant.specs.State.{opening}
use Rattle.wbt_table.specs.declared.layout.Layout.{Layout}
use Rattle.wbt_table.specs.Layout.{setting}
use Rattle.wbt_table.specs.Seat.{Shape, Seated, IsAt}
use Rattle.wbt_table.specs.Calls.{joined_seat, IsFirst}
use Rattle.caller_of_throttle.specs.Machine.{machine_of}
use Rattle.caller_of_throttle.specs.Work.{IsSplit, IsPair, IsBack, Worked}
use Rattle.caller_of_throttle.proofs.Parting.{both_back}

module _ (t : Shape) (all one two : Seated) (key : t.layout ≡ machine_of 2 1 4096) (at : IsAt t all) (is : IsFirst all) (split : IsSplit t 1 all one two) where
  cpus : t.layout.cpus ≡ 2
  cpus = ap (λ (l : Layout). l.cpus) key

  is_pair : IsPair t one two
  is_pair = record {
    layout = key;
    first = record { at = split.left.at; held = split.left.each 0 (omega arith) };
    second = split.right;
    first_long = split.left.long ∙ cpus;
    second_long = split.long ∙ cpus;
    first_timer = split.timer ∙ is.timer ∙ ap (λ (l : Layout). Some (opening (setting l)).timer) (at.layout ∙ key);
    second_timer = split.no_timer;
  }

  pub is_back : (i j : ℕ) (first second back : Seated) → i ≡ 0 → j ≡ 1 → Worked t i one first → Worked t j two second → back ≡ joined_seat first second → IsBack t back
  is_back i j first second back low high worked other joined = subst (IsBack t) (sym joined) (both_back t one two first second is_pair
      (subst (λ (n : ℕ). Worked t n one first) low worked)
      (subst (λ (n : ℕ). Worked t n two second) high other))
