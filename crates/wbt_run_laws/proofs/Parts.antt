-- What all parts of a journal tell, and what each tells.
use Rattle.std.proofs.Common.{◌≡◌, ℕ, zero, suc, ◌+◌, ◌<◌, ◌≤◌, List, [], ◌∷◌, ◌++◌, length, map, flat_map, sum_by, get_or, ℤ, pos, ◌+ℤ◌, refl, ap, ◌∙◌, subst, arith}
use Rattle.std.proofs.lemmas.Int.{ints}
use Rattle.std.proofs.lemmas.List.Sums.{sum_by-append}
use Rattle.wbt_run_laws.proofs.Common.{total, total_same, Each, Item, begins, tells, items_from, Told, told, onto, items_told}
use Rattle.wbt_counter.specs.Sums.{total_ℤ}
use Rattle.wbt_counter.proofs.Sums.{total_ℤ_same}
use Rattle.wbt_journal.specs.declared.entry.CpuJournal.{CpuJournal}
use Rattle.wbt_journal.specs.Lawful.{EachPart}
use Rattle.wbt_run_laws.proofs.Lists.{each_append, each_map, flat_append}

abbrev pub joined : (parts : List (List Told)) → List Told
joined parts = flat_map (λ (part : List Told). part) parts

pub told_is : (cpus : List CpuJournal) → flat_map told cpus ≡ joined (map told cpus)
told_is [] = refl
told_is (cpu ∷ cpus) = ap (λ (l : List Told). told cpu ++ l) (told_is cpus)

-- ---- what holds of each part

each_part : (P : ℕ → List Told → Type 0) (cpu : ℕ) (parts : List (List Told)) → ((c : ℕ) → c < length parts → P (cpu + c) (get_or parts c [])) → EachPart P cpu parts
each_part P cpu [] each = tt
each_part P cpu (part ∷ parts) each = (
  subst (λ (n : ℕ). P n part) (let e : cpu + 0 ≡ cpu = omega arith in e) (each 0 (omega arith)),
  each_part P (cpu + 1) parts (λ c less. subst (λ (n : ℕ). P n (get_or parts c [])) (let e : cpu + suc c ≡ cpu + 1 + c = omega arith in e) (each (suc c) (omega arith))),
)

pub each_cpu : (P : ℕ → List Told → Type 0) (parts : List (List Told)) → ((c : ℕ) → c < length parts → P c (get_or parts c [])) → EachPart P 0 parts
each_cpu P parts each = each_part P 0 parts (λ c less. subst (λ (n : ℕ). P n (get_or parts c [])) (let e : c ≡ 0 + c = omega arith in e) (each c less))

pub each_joined : (P : Told → Type 0) (parts : List (List Told)) → ((c : ℕ) → c < length parts → Each P (get_or parts c [])) → Each P (joined parts)
each_joined P [] each = tt
each_joined P (part ∷ parts) each = each_append P part (joined parts) (each 0 (omega arith)) (each_joined P parts (λ c less. each (suc c) (omega arith)))

pub each_item : (P : Item → Type 0) → ((cpu : ℕ) → P (begins cpu)) → (cpu : ℕ) (parts : List (List Told)) → EachPart (λ c part. Each (λ (e : Told). P (tells c e)) part) cpu parts → Each P (items_from cpu parts)
each_item P begun cpu [] each = tt
each_item P begun cpu (part ∷ parts) each = (begun cpu, each_append P (items_told cpu part) (items_from (cpu + 1) parts) (each_map P (tells cpu) part each.0) (each_item P begun (cpu + 1) parts each.1))

-- ---- sums over what they tell

pub total_front : (n : ℕ) (f : ℕ → ℕ) → total (suc n) f ≡ f 0 + total n (λ i. f (suc i))
total_front zero f = omega arith
total_front (suc n) f = let rest = total_front n f in omega arith

total_ℤ_front : (n : ℕ) (f : ℕ → ℤ) → total_ℤ (suc n) f ≡ f 0 +ℤ total_ℤ n (λ i. f (suc i))
total_ℤ_front zero f = omega (arith, ints)
total_ℤ_front (suc n) f = let rest = total_ℤ_front n f in omega (arith, ints)

-- sums that may be below zero
abbrev pub weigh : {A : Type 0} → (A → ℤ) → List A → ℤ
weigh w [] = pos 0
weigh w (x ∷ xs) = w x +ℤ weigh w xs

pub weigh_append : {A : Type 0} (w : A → ℤ) (xs ys : List A) → weigh w (xs ++ ys) ≡ weigh w xs +ℤ weigh w ys
weigh_append w [] ys = omega (arith, ints)
weigh_append w (x ∷ xs) ys = let rest = weigh_append w xs ys in omega (arith, ints)

module _ {E A : Type 0} (tell : E → List A) where
  pub sum_onto : (w : A → ℕ) (es : List E) (older : List A) → sum_by w (onto tell es older) ≡ sum_by w (flat_map tell es) + sum_by w older
  sum_onto w [] older = omega arith
  sum_onto w (e ∷ es) older =
      let rest = sum_onto w es (tell e ++ older) in
      let first = sum_by-append w (tell e) older in
      let both = sum_by-append w (tell e) (flat_map tell es) in omega arith

  pub weigh_onto : (w : A → ℤ) (es : List E) (older : List A) → weigh w (onto tell es older) ≡ weigh w (flat_map tell es) +ℤ weigh w older
  weigh_onto w [] older = omega (arith, ints)
  weigh_onto w (e ∷ es) older =
      let rest = weigh_onto w es (tell e ++ older) in
      let first = weigh_append w (tell e) older in
      let both = weigh_append w (tell e) (flat_map tell es) in omega (arith, ints)

-- a sum over all entries, part by part
pub entries_sum : (w : Told → ℕ) (parts : List (List Told)) → sum_by w (joined parts) ≡ total (length parts) (λ c. sum_by w (get_or parts c []))
entries_sum w [] = refl
entries_sum w (part ∷ parts) =
    let rest = entries_sum w parts in
    let front = total_front (length parts) (λ c. sum_by w (get_or (part ∷ parts) c [])) in
    let both = sum_by-append w part (joined parts) in omega arith

module _ {A : Type 0} (tell : Told → List A) where
  parts_sum : (w : A → ℕ) (parts : List (List Told)) → sum_by w (flat_map tell (joined parts)) ≡ total (length parts) (λ c. sum_by w (flat_map tell (get_or parts c [])))
  parts_sum w [] = refl
  parts_sum w (part ∷ parts) =
      let rest = parts_sum w parts in
      let front = total_front (length parts) (λ c. sum_by w (flat_map tell (get_or (part ∷ parts) c []))) in
      let both = ap (sum_by w) (flat_append tell part (joined parts)) ∙ sum_by-append w (flat_map tell part) (flat_map tell (joined parts)) in omega arith

  parts_weigh : (w : A → ℤ) (parts : List (List Told)) → weigh w (flat_map tell (joined parts)) ≡ total_ℤ (length parts) (λ c. weigh w (flat_map tell (get_or parts c [])))
  parts_weigh w [] = refl
  parts_weigh w (part ∷ parts) =
      let rest = parts_weigh w parts in
      let front = total_ℤ_front (length parts) (λ c. weigh w (flat_map tell (get_or (part ∷ parts) c []))) in
      let both = ap (weigh w) (flat_append tell part (joined parts)) ∙ weigh_append w (flat_map tell part) (flat_map tell (joined parts)) in omega (arith, ints)

  -- all parts weigh what the records weigh that grew by them from nothing
  pub records_sum : (w : A → ℕ) (n : ℕ) (parts : List (List Told)) (record_of : ℕ → List A) → length parts ≡ n → ((c : ℕ) → c < n → record_of c ≡ onto tell (get_or parts c []) [])
      → sum_by w (flat_map tell (joined parts)) ≡ total n (λ c. sum_by w (record_of c))
  records_sum w n parts record_of many are =
      parts_sum w parts ∙ ap (λ (m : ℕ). total m (λ c. sum_by w (flat_map tell (get_or parts c [])))) many
      ∙ total_same n (λ c. sum_by w (flat_map tell (get_or parts c []))) (λ c. sum_by w (record_of c))
      (λ c less. let is = ap (sum_by w) (are c less) in let told_it = sum_onto tell w (get_or parts c []) [] in omega arith)

  pub records_weigh : (w : A → ℤ) (n : ℕ) (parts : List (List Told)) (record_of : ℕ → List A) → length parts ≡ n → ((c : ℕ) → c < n → record_of c ≡ onto tell (get_or parts c []) [])
      → weigh w (flat_map tell (joined parts)) ≡ total_ℤ n (λ c. weigh w (record_of c))
  records_weigh w n parts record_of many are =
      parts_weigh w parts ∙ ap (λ (m : ℕ). total_ℤ m (λ c. weigh w (flat_map tell (get_or parts c [])))) many
      ∙ total_ℤ_same n (λ c. weigh w (flat_map tell (get_or parts c []))) (λ c. weigh w (record_of c))
      (λ c less. let is = ap (weigh w) (are c less) in let told_it = weigh_onto tell w (get_or parts c []) [] in omega (arith, ints))

-- the sum over a part is at most that over all
pub part_at_most : (w : Told → ℕ) (parts : List (List Told)) (c : ℕ) → c < length parts → sum_by w (get_or parts c []) ≤ sum_by w (joined parts)
part_at_most w [] c less = absurd (omega arith)
part_at_most w (part ∷ parts) zero less = let both = sum_by-append w part (joined parts) in omega arith
part_at_most w (part ∷ parts) (suc c) less = let both = sum_by-append w part (joined parts) in let rest = part_at_most w parts c (omega arith) in omega arith
