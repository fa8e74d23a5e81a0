-- Where pages and contexts of a trace lie in its kit.
use Rattle.std.proofs.Common.{◌≡◌, ⊎_elim, ℕ, zero, suc, ◌+◌, ◌<◌, ◌≤◌, Bool, true, false, cond, ◌&&◌, eqb, ltb, leb, List, [], ◌∷◌, All, length, map, get_or, slice_get, Some, refl, sym, ap, ◌∙◌, subst, arith, le-leb, eq-eqb}
use Rattle.std.proofs.lemmas.Bool.{cases_lt, lt-ltb, le-ltb}
use Rattle.wbt_kit.proofs.Common.{AreFirsts, FlusherLine, Inode, pages_in, Place, place_of, first_cpu}
use Rattle.wbt_journal.specs.Machine.{context_among}
use Rattle.wbt_table.specs.Layout.{inode_at, no_place}
use Rattle.wbt_rules.specs.Things.{first_flusher}

-- ---- inodes, which lie one after the other

abbrev pub no_inode : Inode
no_inode = record { context = 0; first = 0; pages = 0 }

abbrev pub places : (inodes : List Inode) → List Place
places inodes = map place_of inodes

pub firsts_from : (n : ℕ) (inodes : List Inode) (k : ℕ) (d : Inode) → AreFirsts n inodes → k < length inodes → n ≤ (get_or inodes k d).first
firsts_from n [] k d firsts less = absurd (omega arith)
firsts_from n (i ∷ inodes) zero d firsts less = omega (arith, firsts.0)
firsts_from n (i ∷ inodes) (suc k) d firsts less = let rest = firsts_from (n + i.pages) inodes k d firsts.1 (omega arith) in omega arith

pub ends_within : (n : ℕ) (inodes : List Inode) (k : ℕ) (d : Inode) → AreFirsts n inodes → k < length inodes
    → (get_or inodes k d).first + (get_or inodes k d).pages ≤ n + pages_in (places inodes)
ends_within n [] k d firsts less = absurd (omega arith)
ends_within n (i ∷ inodes) zero d firsts less = omega (arith, firsts.0)
ends_within n (i ∷ inodes) (suc k) d firsts less = let rest = ends_within (n + i.pages) inodes k d firsts.1 (omega arith) in omega arith

at_here : (page : ℕ) (i : Inode) (inodes : List Inode) → page < i.first + i.pages → inode_at page (places (i ∷ inodes)) ≡ 0
at_here page i inodes low = ap (λ (b : Bool). cond b 0 (suc (inode_at page (places inodes)))) (lt-ltb page (i.first + i.pages) low)

at_later : (page : ℕ) (i : Inode) (inodes : List Inode) → i.first + i.pages ≤ page → inode_at page (places (i ∷ inodes)) ≡ suc (inode_at page (places inodes))
at_later page i inodes high = ap (λ (b : Bool). cond b 0 (suc (inode_at page (places inodes)))) (le-ltb page (i.first + i.pages) high)

-- a page of an inode is in it
pub inode_is : (n : ℕ) (inodes : List Inode) (k page : ℕ) (d : Inode) → AreFirsts n inodes → k < length inodes → (get_or inodes k d).first ≤ page
    → page < (get_or inodes k d).first + (get_or inodes k d).pages → inode_at page (places inodes) ≡ k
inode_is n [] k page d firsts less from to = absurd (omega arith)
inode_is n (i ∷ inodes) zero page d firsts less from to = at_here page i inodes to
inode_is n (i ∷ inodes) (suc k) page d firsts less from to =
    let high = firsts_from (n + i.pages) inodes k d firsts.1 (omega arith) in
    at_later page i inodes (omega (arith, firsts.0)) ∙ ap suc (inode_is (n + i.pages) inodes k page d firsts.1 (omega arith) from to)

-- each page has an inode, in which it lies
pub record LiesIn (inodes : List Inode) (page k : ℕ) : Type 0 where
  pub there : k < length inodes
  pub from : (d : Inode) → (get_or inodes k d).first ≤ page
  pub to : (d : Inode) → page < (get_or inodes k d).first + (get_or inodes k d).pages
  pub context : context_among page inodes ≡ Some (get_or (places inodes) k no_place).context

lies_here : (page : ℕ) (i : Inode) (inodes : List Inode) → i.first ≤ page → page < i.first + i.pages → LiesIn (i ∷ inodes) page 0
lies_here page i inodes from to = record {
  there = omega arith;
  from = λ d. from;
  to = λ d. to;
  context = ap (λ (b : Bool). cond (b && ltb page (i.first + i.pages)) (Some i.context) (context_among page inodes)) (le-leb i.first page from)
      ∙ ap (λ (b : Bool). cond b (Some i.context) (context_among page inodes)) (lt-ltb page (i.first + i.pages) to);
}

neither : (a b : Bool) → b ≡ false → (a && b) ≡ false
neither true b is = is
neither false b is = refl

lies_later : (page k : ℕ) (i : Inode) (inodes : List Inode) → i.first + i.pages ≤ page → LiesIn inodes page k → LiesIn (i ∷ inodes) page (suc k)
lies_later page k i inodes high lies = record {
  there = let low = lies.there in omega arith;
  from = λ d. lies.from d;
  to = λ d. lies.to d;
  context = ap (λ (b : Bool). cond b (Some i.context) (context_among page inodes)) (neither (leb i.first page) (ltb page (i.first + i.pages)) (le-ltb page (i.first + i.pages) high)) ∙ lies.context;
}

pub page_lies : (n : ℕ) (inodes : List Inode) (page : ℕ) → AreFirsts n inodes → n ≤ page → page < n + pages_in (places inodes) → LiesIn inodes page (inode_at page (places inodes))
page_lies n [] page firsts from to = absurd (omega arith)
page_lies n (i ∷ inodes) page firsts from to = ⊎_elim
    (λ low. subst (LiesIn (i ∷ inodes) page) (sym (at_here page i inodes low)) (lies_here page i inodes (omega (arith, firsts.0)) low))
    (λ high. subst (LiesIn (i ∷ inodes) page) (sym (at_later page i inodes high))
    (lies_later page (inode_at page (places inodes)) i inodes high (page_lies (n + i.pages) inodes page firsts.1 (omega (arith, firsts.0, high)) (omega arith))))
    (cases_lt page (i.first + i.pages))

-- ---- flushers

-- a device's first flusher is on the CPU that publishes for its contexts
pub leads_there : (device number flusher cpu : ℕ) (flushers : List FlusherLine) → slice_get flushers flusher ≡ Some (record { device = device; cpu = cpu })
    → first_flusher device number flushers ≡ number + flusher → first_cpu device flushers ≡ cpu
leads_there device number flusher cpu [] line first = absurd (let e = line in cc)
leads_there device number zero cpu (f ∷ flushers) line first =
    let wanted : FlusherLine = record { device = device; cpu = cpu } in
    let same : f ≡ wanted = (let e = line in cc) in
    ap (λ (l : FlusherLine). first_cpu device (l ∷ flushers)) same ∙ ap (λ (b : Bool). cond b cpu (first_cpu device flushers)) (eq-eqb device device refl)
leads_there device number (suc flusher) cpu (f ∷ flushers) line first =
    (elim (eqb f.device device) as (λ b. eqb f.device device ≡ b → cond b f.cpu (first_cpu device flushers) ≡ cpu) [
      | true ↦ λ is. absurd (let e = ap (λ (c : Bool). cond c number (first_flusher device (number + 1) flushers)) (sym is) ∙ first in omega arith)
      | false ↦ λ is. leads_there device (number + 1) flusher cpu flushers line
          (ap (λ (c : Bool). cond c number (first_flusher device (number + 1) flushers)) (sym is) ∙ first ∙ (let n : number + suc flusher ≡ (number + 1) + flusher = omega arith in n))
    ]) refl

-- the CPU of a device's first flusher is one that there is
pub first_cpu_there : (device devices cpus : ℕ) (flushers : List FlusherLine) → 1 ≤ cpus → All (λ (f : FlusherLine). (f.device < devices) × (f.cpu < cpus)) flushers
    → first_cpu device flushers < cpus
first_cpu_there device devices cpus [] some all = omega arith
first_cpu_there device devices cpus (f ∷ flushers) some all =
    elim (eqb f.device device) as (λ b. cond b f.cpu (first_cpu device flushers) < cpus) [
      | true ↦ (all 0 f (omega arith)).1
      | false ↦ first_cpu_there device devices cpus flushers some (λ k d less. all (suc k) d (omega arith))
    ]
