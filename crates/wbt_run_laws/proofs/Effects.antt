-- Parts of an entry's effect, which are there or not.
use Rattle.std.proofs.Common.{◌≡◌, false, List, [], Option, Some, None, is_some, IfSome, sym, refl, ap, subst, true≢false}
use Rattle.wbt_run_laws.proofs.Common.{Each, of_part}
use Rattle.wbt_journal.specs.Effects.{listed}

-- ---- parts that aren't there

pub none_of : {A : Type 0} (part : Option A) → is_some part ≡ false → part ≡ None
none_of None is = refl
none_of (Some x) is = absurd (true≢false is)

pub if_none : {A : Type 0} (P : A → Type 0) (part : Option A) → part ≡ None → IfSome part P
if_none {A} P part none = subst (λ (o : Option A). IfSome o P) (sym none) tt

pub part_none : {A B : Type 0} (none : B) (some : A → B) (part : Option A) → part ≡ None → of_part none some part ≡ none
part_none none some part is = ap (of_part none some) is

-- ---- what holds of a part

pub if_any : {A : Type 0} (P : A → Type 0) (part : Option A) → ((x : A) → P x) → IfSome part P
if_any P None all = tt
if_any P (Some x) all = all x

pub if_weaker : {A : Type 0} (P Q : A → Type 0) → ((x : A) → P x → Q x) → (part : Option A) → IfSome part P → IfSome part Q
if_weaker P Q h None has = tt
if_weaker P Q h (Some x) has = h x has

pub if_both : {A : Type 0} (P Q : A → Type 0) (part : Option A) → IfSome part P → IfSome part Q → IfSome part (λ x. P x × Q x)
if_both P Q None p q = tt
if_both P Q (Some x) p q = (p, q)

-- ---- parts as lists

pub each_listed : {A : Type 0} (P : A → Type 0) (part : Option A) → IfSome part P → Each P (listed part)
each_listed P None has = tt
each_listed P (Some x) has = (has, tt)

pub if_listed : {A : Type 0} (P : A → Type 0) (part : Option A) → Each P (listed part) → IfSome part P
if_listed P None each = tt
if_listed P (Some x) each = each.0

-- what each part of a kind tells
pub each_told : {A B : Type 0} (P : B → Type 0) (tell : A → List B) (part : Option A) → IfSome part (λ x. Each P (tell x)) → Each P (of_part [] tell part)
each_told P tell None has = tt
each_told P tell (Some x) has = has

pub if_told : {A B : Type 0} (P : B → Type 0) (tell : A → List B) (part : Option A) → Each P (of_part [] tell part) → IfSome part (λ x. Each P (tell x))
if_told P tell None each = tt
if_told P tell (Some x) each = each
