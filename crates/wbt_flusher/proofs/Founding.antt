-- What a lawful trace says of a flusher.
use Rattle.std.proofs.Common.{zero, suc, ◌≡◌, ℕ, ◌+◌, ◌-◌, ◌<◌, ◌≤◌, List, [], ◌∷◌, length, get_or, Some, sym, refl, ap, ◌∙◌, subst, arith}
use Rattle.std.specs.Prelude.{replicate, slice_index_or, None, IfSome}
use Rattle.std.proofs.lemmas.List.{length-replicate}
use Rattle.std.proofs.lemmas.List.Sums.{sum_by-cons}
use Rattle.std.proofs.lemmas.Option.{slice_get-get_or}
use Rattle.wbt_flusher.proofs.Common.{domains, Context, Device, FlusherLine, Trace, IsPlan, IsPlanOf, context_at, ArePlaces}
use Rattle.wbt_kit.proofs.Common.{IsLawful, AreFirsts, least_shares, Inode}
use Rattle.wbt_trace.specs.Lawful.{IsChunk, IsExpire}
use Rattle.wbt_trace.specs.Sofar.{pages_in}
use Rattle.wbt_rules.specs.Age.{is_ageing}
use Rattle.wbt_rules.specs.Things.{leads}
use Rattle.wbt_flusher.specs.declared.plan.FlusherPlan.{FlusherPlan}

-- ---- inodes

pages_more : (x : Inode) (l : List Inode) → pages_in (x ∷ l) ≡ x.pages + pages_in l
pages_more x l = sum_by-cons (λ (i : Inode). i.pages) x l

last_ends : (l : List Inode) (n : ℕ) (d : Inode) → 0 < length l → AreFirsts n l → (get_or l (length l - 1) d).first + (get_or l (length l - 1) d).pages ≡ n + pages_in l
last_ends [] n d some firsts = absurd (omega arith)
last_ends (x ∷ []) n d some firsts = let first = firsts.0 in let whole = pages_more x [] in omega arith
last_ends (x ∷ y ∷ l) n d some firsts =
    let rest = last_ends (y ∷ l) (n + x.pages) d (omega arith) firsts.1 in
    let at : length (x ∷ y ∷ l) - 1 ≡ suc (length (y ∷ l) - 1) = omega arith in
    let whole = pages_more x (y ∷ l) in
    subst (λ (k : ℕ). (get_or (x ∷ y ∷ l) k d).first + (get_or (x ∷ y ∷ l) k d).pages ≡ n + pages_in (x ∷ y ∷ l)) (sym at) (rest ∙ (omega arith))

pub at_last : (s l : List Inode) (inode : Inode) → s ≡ l → 0 < length s → AreFirsts 0 l → ((d : Inode) → inode ≡ get_or s (length s - 1) d) → inode.first + inode.pages ≡ pages_in l
at_last s l inode same some firsts at =
    let ends : (get_or s (length s - 1) inode).first + (get_or s (length s - 1) inode).pages ≡ 0 + pages_in s = last_ends s 0 inode some (subst (λ (z : List Inode). AreFirsts 0 z) (sym same) firsts) in
    let none : 0 + pages_in s ≡ pages_in s = omega arith in
    ap (λ (i : Inode). i.first + i.pages) (at inode) ∙ ends ∙ none ∙ ap pages_in same

-- each inode ends where there are pages
each_ends : (l : List Inode) (n i : ℕ) (d : Inode) → i < length l → AreFirsts n l → (get_or l i d).first + (get_or l i d).pages ≤ n + pages_in l
each_ends [] n i d less firsts = absurd (omega arith)
each_ends (x ∷ l) n zero d less firsts = let first = firsts.0 in let whole = pages_more x l in let is : get_or (x ∷ l) 0 d ≡ x = refl in
    subst (λ (y : Inode). y.first + y.pages ≤ n + pages_in (x ∷ l)) (sym is) (omega arith)
each_ends (x ∷ l) n (suc i) d less firsts = let rest = each_ends l (n + x.pages) i d (omega arith) firsts.1 in let whole = pages_more x l in let is : get_or (x ∷ l) (suc i) d ≡ get_or l i d = refl in
    subst (λ (y : Inode). y.first + y.pages ≤ n + pages_in (x ∷ l)) (sym is) (omega arith)

-- ---- places

-- an inode's first place is its first page
pub first_places : (plan : FlusherPlan) (places : List ℕ) → IsPlan plan → places ≡ replicate (length plan.inodes) 0 → ArePlaces plan places
first_places plan places is none = record {
  many = ap (λ (l : List ℕ). length l) none ∙ length-replicate {A = ℕ} (length plan.inodes) 0;
  below = λ inode there. let at = ap (λ (l : List ℕ). get_or l inode 0) none ∙ first_of_all 0 (length plan.inodes) inode in let some = is.some_page inode there in omega arith;
}
  where
    first_of_all : (z n inode : ℕ) → get_or (replicate n z) inode z ≡ z
    first_of_all z zero inode = refl
    first_of_all z (suc n) zero = refl
    first_of_all z (suc n) (suc inode) = first_of_all z n inode

-- ---- the plan

module _ (trace : Trace) (plan : FlusherPlan) (lawful : IsLawful trace) (inodes : plan.inodes ≡ trace.inodes) (contexts : plan.contexts ≡ trace.contexts) (domains_are : plan.domains ≡ length trace.cgroups + 1)
    (least : plan.least_shares ≡ least_shares trace.devices) where
  no_inode : Inode
  no_inode = record { context = 0; first = 0; pages = 0 }

  pub lawful_plan : (d : Device) → plan.device < length trace.devices → plan.shares ≡ slice_index_or trace.devices plan.device d → plan.pages ≡ pages_in trace.inodes → IsPlan plan
  lawful_plan d there shares pages =
      let w = lawful.within in
      let many : length plan.inodes ≡ length trace.inodes = ap (λ (l : List Inode). length l) inodes in
      let many_contexts : length plan.contexts ≡ length trace.contexts = ap (λ (l : List Context). length l) contexts in
      let few = w.few_cgroups in
      let few_inodes = w.inodes.few in
      let total = w.inodes.total in
      let of_device = w.devices.each plan.device d there in
      let least_is = w.devices.shares in
      record {
        some_domain = omega arith;
        few_domains = omega arith;
        few_contexts = let few_contexts = w.few_contexts in omega arith;
        groups = λ context less.
            let of = w.contexts context (record { device = 0; domain = 0; expire = None; estimate = None }) (omega arith) in
            let at : context_at plan context ≡ get_or trace.contexts context (record { device = 0; domain = 0; expire = None; estimate = None }) = ap (λ (l : List Context). get_or l context (record { device = 0; domain = 0; expire = None; estimate = None })) contexts in
            let low : (context_at plan context).domain ≤ length trace.cgroups = subst (λ (x : Context). x.domain ≤ length trace.cgroups) (sym at) of.1 in
            omega arith;
        contexts = λ inode less.
            let of = w.inodes.each inode (record { context = 0; first = 0; pages = 0 }) (omega arith) in
            subst (λ (l : List Inode). (get_or l inode (record { context = 0; first = 0; pages = 0 })).context < length plan.contexts) (sym inodes) (let low = of.0 in omega arith);
        pages = λ inode less.
            subst (λ (l : List Inode). (get_or l inode (record { context = 0; first = 0; pages = 0 })).first + (get_or l inode (record { context = 0; first = 0; pages = 0 })).pages ≤ plan.pages) (sym inodes)
            (let ends = each_ends trace.inodes 0 inode (record { context = 0; first = 0; pages = 0 }) (omega arith) w.inodes.firsts in omega arith);
        some_page = λ inode less.
            let of = w.inodes.each inode (record { context = 0; first = 0; pages = 0 }) (omega arith) in
            subst (λ (l : List Inode). (get_or l inode (record { context = 0; first = 0; pages = 0 })).first < (get_or l inode (record { context = 0; first = 0; pages = 0 })).first + (get_or l inode (record { context = 0; first = 0; pages = 0 })).pages) (sym inodes)
            (let some = of.1 in omega arith);
        few_pages = omega arith;
        few_inodes = omega arith;
        expires = λ context less.
            let of = w.contexts context (record { device = 0; domain = 0; expire = None; estimate = None }) (omega arith) in
            let at : context_at plan context ≡ get_or trace.contexts context (record { device = 0; domain = 0; expire = None; estimate = None }) = ap (λ (l : List Context). get_or l context (record { device = 0; domain = 0; expire = None; estimate = None })) contexts in
            subst (λ (x : Context). IfSome x.expire IsExpire) (sym at) of.2;
        shares = subst (λ (s : Device). (s.min ≤ s.max) × (s.max ≤ 100)) (sym shares) of_device.shares;
        chunk = subst (λ (s : Device). IfSome s.chunk IsChunk) (sym shares) of_device.chunk;
        least = omega arith;
      }

  pub traced_plan : (d : FlusherLine) (e : Device) → plan.flusher < length trace.flushers → plan.device ≡ (slice_index_or trace.flushers plan.flusher d).device → plan.cpu ≡ (slice_index_or trace.flushers plan.flusher d).cpu
      → plan.leads ≡ leads trace plan.flusher → plan.ages ≡ is_ageing trace plan.device → plan.device < length trace.devices → plan.shares ≡ slice_index_or trace.devices plan.device e → IsPlanOf trace plan
  traced_plan d e there device cpu first ages device_there shares = record {
    line = slice_get-get_or trace.flushers plan.flusher d there ∙ (λ i. Some (record { device = sym device i; cpu = sym cpu i }));
    leads = first;
    ages = ages;
    domains_are = let one : length trace.cgroups + 1 ≡ domains trace = omega arith in domains_are ∙ one;
    inodes = inodes;
    contexts = contexts;
    shares = slice_get-get_or trace.devices plan.device e device_there ∙ ap (λ (x : Device). Some x) (sym shares);
    least = least;
  }
