-- The entries of one part, where an entry is added, and where entries change their owner.
use Rattle.std.proofs.Common.{◌≡◌, ◌≢◌, ℕ, zero, suc, ◌⊎◌, Bool, true, false, cond, eqb, ◌&&◌, List, [], ◌∷◌, ◌++◌, map, sym, refl, ap, ap₂, ◌∙◌, inl, inr, eq-eqb, ne_eqb}
use mathlib.Core.Option.{some, some-injective, some-ne-none}
use lib.ListN.{get_elem?}
use Rattle.wbt_queue.specs.Order.{Entry, inodes_of, stands_in, those_of}

-- an entry of this part of this pass
abbrev pub entry_of : (pass part inode : ℕ) → Entry
entry_of pass part inode = record { inode = inode; pass = pass; part = part }

and_false : (a : Bool) → a && false ≡ false
and_false true = refl
and_false false = refl

pub stands-same : (pass part : ℕ) (entry : Entry) → pass ≡ entry.pass → part ≡ entry.part → stands_in pass part entry ≡ true
stands-same pass part entry p k = ap₂ (λ (a b : Bool). a && b) (eq-eqb pass entry.pass p) (eq-eqb part entry.part k)

pub stands-other : (pass part : ℕ) (entry : Entry) → (pass ≢ entry.pass) ⊎ (part ≢ entry.part) → stands_in pass part entry ≡ false
stands-other pass part entry (inl n) = ap (λ (a : Bool). a && eqb part entry.part) (ne_eqb pass entry.pass n)
stands-other pass part entry (inr n) = ap (λ (b : Bool). eqb pass entry.pass && b) (ne_eqb part entry.part n) ∙ and_false (eqb pass entry.pass)

-- one entry more

one_more : (b : Bool) (x : ℕ) (l m : List ℕ) → l ≡ m ++ cond b (x ∷ []) [] → (c : Bool) (y : ℕ) → cond c (y ∷ l) l ≡ cond c (y ∷ m) m ++ cond b (x ∷ []) []
one_more b x l m e true y = ap (λ (k : List ℕ). y ∷ k) e
one_more b x l m e false y = e

alone : (b : Bool) (x : ℕ) → cond b (x ∷ []) [] ≡ [] ++ cond b (x ∷ []) []
alone true x = refl
alone false x = refl

those-snoc : (pass part : ℕ) (entries : List Entry) (entry : Entry) → those_of pass part (entries ++ entry ∷ []) ≡ those_of pass part entries ++ cond (stands_in pass part entry) (entry.inode ∷ []) []
those-snoc pass part [] entry = alone (stands_in pass part entry) entry.inode
those-snoc pass part (e ∷ es) entry = one_more (stands_in pass part entry) entry.inode (those_of pass part (es ++ entry ∷ [])) (those_of pass part es) (those-snoc pass part es entry) (stands_in pass part e) e.inode

append_nothing : (l : List ℕ) → l ++ [] ≡ l
append_nothing [] = refl
append_nothing (x ∷ xs) = ap (λ (k : List ℕ). x ∷ k) (append_nothing xs)

pub those-mine : (pass part inode : ℕ) (entries : List Entry) → those_of pass part (entries ++ entry_of pass part inode ∷ []) ≡ those_of pass part entries ++ inode ∷ []
those-mine pass part inode entries = those-snoc pass part entries (entry_of pass part inode) ∙ ap (λ (b : Bool). those_of pass part entries ++ cond b (inode ∷ []) []) (stands-same pass part (entry_of pass part inode) refl refl)

pub those-others : (pass part : ℕ) (entries : List Entry) (entry : Entry) → (pass ≢ entry.pass) ⊎ (part ≢ entry.part) → those_of pass part (entries ++ entry ∷ []) ≡ those_of pass part entries
those-others pass part entries entry n = those-snoc pass part entries entry ∙ ap (λ (b : Bool). those_of pass part entries ++ cond b (entry.inode ∷ []) []) (stands-other pass part entry n) ∙ append_nothing (those_of pass part entries)

-- no entry is of this part, or all are

pub those-none : (pass part : ℕ) (entries : List Entry) → ((i : ℕ) (e : Entry) → get_elem? entries i ≡ some e → (pass ≢ e.pass) ⊎ (part ≢ e.part)) → those_of pass part entries ≡ []
those-none pass part [] other = refl
those-none pass part (x ∷ xs) other = ap (λ (b : Bool). cond b (x.inode ∷ those_of pass part xs) (those_of pass part xs)) (stands-other pass part x (other 0 x refl)) ∙ those-none pass part xs (λ i e there. other (suc i) e there)

pub those-all : (pass part : ℕ) (entries : List Entry) → ((i : ℕ) (e : Entry) → get_elem? entries i ≡ some e → (pass ≡ e.pass) × (part ≡ e.part)) → those_of pass part entries ≡ inodes_of entries
those-all pass part [] same = refl
those-all pass part (x ∷ xs) same = let s = same 0 x refl in ap (λ (b : Bool). cond b (x.inode ∷ those_of pass part xs) (those_of pass part xs)) (stands-same pass part x s.0 s.1)
    ∙ ap (λ (l : List ℕ). x.inode ∷ l) (those-all pass part xs (λ i e there. same (suc i) e there))

-- each entry gets another owner, and keeps its inode number

pub inodes-map : (f : Entry → Entry) → ((e : Entry) → (f e).inode ≡ e.inode) → (entries : List Entry) → inodes_of (map f entries) ≡ inodes_of entries
inodes-map f same [] = refl
inodes-map f same (x ∷ xs) = ap₂ (λ (a : ℕ) (l : List ℕ). a ∷ l) (same x) (inodes-map f same xs)

pub those-map : (pass part old_pass old_part : ℕ) (f : Entry → Entry) → ((e : Entry) → (f e).inode ≡ e.inode) → (entries : List Entry) → ((i : ℕ) (e : Entry) → get_elem? entries i ≡ some e → stands_in pass part (f e) ≡ stands_in old_pass old_part e)
    → those_of pass part (map f entries) ≡ those_of old_pass old_part entries
those-map pass part old_pass old_part f same [] tests = refl
those-map pass part old_pass old_part f same (x ∷ xs) tests = let rest = those-map pass part old_pass old_part f same xs (λ i e there. tests (suc i) e there) in λ z. cond (tests 0 x refl z) (same x z ∷ rest z) (rest z)

pub at_map : (f : Entry → Entry) (entries : List Entry) (i : ℕ) (e : Entry) → get_elem? (map f entries) i ≡ some e → (d : Entry) × (get_elem? entries i ≡ some d) × (f d ≡ e)
at_map f [] i e there = absurd (some-ne-none e (sym there))
at_map f (x ∷ xs) zero e there = (x, refl, some-injective (f x) e there)
at_map f (x ∷ xs) (suc i) e there = at_map f xs i e there
