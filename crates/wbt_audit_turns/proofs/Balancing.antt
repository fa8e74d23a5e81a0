-- How the tallies of pages follow the entries and what is left.
use Rattle.std.proofs.Common.{◌≡◌, ℕ, zero, suc, ◌+◌, ◌<◌, ◌≤◌, Bool, true, false, ◌&&◌, ◌==◌, cond, Option, Some, None, List, [], ◌∷◌, length, get_or, take, replicate, count_by, refl, sym, ap, ◌∙◌, subst, arith}
use Rattle.std.specs.List.{list_all}
use Rattle.std.proofs.lemmas.List.{get_or-replicate, length-replicate, take_all}
use Rattle.std.proofs.lemmas.List.Folds.{list_all_more}
use Rattle.std.proofs.lemmas.List.Sums.{sum_by-cons}
use Rattle.wbt_book.specs.declared.event.Event.{Event}
use Rattle.wbt_book.specs.declared.event.Event.TheVariants.{Dirty, Claim, Complete, Redirty, Absorb}
use Rattle.wbt_audit_walk.proofs.Common.{Left, of_part, is_even_below, Told}
use Rattle.wbt_journal.specs.Effects.{event_of}
use Rattle.wbt_journal.specs.Leaves.{is_dirtying, is_claim, is_completing, is_redirtying, is_absorbing, dirties, claims, completes, redirties, absorbs, left_dirty, left_writeback}
use Rattle.wbt_audit_turns.specs.declared.ledger.Tally.{Tally}
use Rattle.wbt_audit_turns.specs.Balanced.{nothing, plus, with_events, tally_of_event, tally_of, tally_of_left, Tallied, is_balanced}

tally_is : (a b c d e f g h : ℕ) → a ≡ e → b ≡ f → c ≡ g → d ≡ h
    → ◌≡◌ {A = Tally} (record { dirtied = a; cleaned = b; claimed = c; released = d }) (record { dirtied = e; cleaned = f; claimed = g; released = h })
tally_is a b c d e f g h p q r s = cc

plus_nothing : (t : Tally) → plus t nothing ≡ t
plus_nothing t = tally_is (t.dirtied + 0) (t.cleaned + 0) (t.claimed + 0) (t.released + 0) t.dirtied t.cleaned t.claimed t.released (omega arith) (omega arith) (omega arith) (omega arith)

nothing_plus : (t : Tally) → plus nothing t ≡ t
nothing_plus t = tally_is (0 + t.dirtied) (0 + t.cleaned) (0 + t.claimed) (0 + t.released) t.dirtied t.cleaned t.claimed t.released (omega arith) (omega arith) (omega arith) (omega arith)

plus_plus : (a b c : Tally) → plus (plus a b) c ≡ plus a (plus b c)
plus_plus a b c =
    tally_is (a.dirtied + b.dirtied + c.dirtied) (a.cleaned + b.cleaned + c.cleaned) (a.claimed + b.claimed + c.claimed) (a.released + b.released + c.released)
    (a.dirtied + (b.dirtied + c.dirtied)) (a.cleaned + (b.cleaned + c.cleaned)) (a.claimed + (b.claimed + c.claimed)) (a.released + (b.released + c.released))
    (omega arith) (omega arith) (omega arith) (omega arith)

-- ---- entries

abbrev one : (test : Bool) → ℕ
one test = cond test 1 0

-- what one event tells of a page
abbrev tally_by : (page : ℕ) (event : Option Event) → Tally
tally_by page event = record {
  dirtied = one (of_part false (is_dirtying page) event) + one (of_part false (is_redirtying page) event);
  cleaned = one (of_part false (is_claim page) event);
  claimed = one (of_part false (is_claim page) event);
  released = one (of_part false (is_completing page) event) + one (of_part false (is_redirtying page) event) + one (of_part false (is_absorbing page) event);
}

four : (a b c d w x y z : ℕ) → a ≡ w + x → b ≡ y + z → a + b ≡ w + y + (x + z)
four a b c d w x y z p q = omega arith

six : (a b c u v w x y z : ℕ) → a ≡ u + v → b ≡ w + x → c ≡ y + z → a + b + c ≡ u + w + y + (v + x + z)
six a b c u v w x y z p q r = omega arith

told_first : (entry : Told) (rest : List Told) (page : ℕ) → tally_of (entry ∷ rest) page ≡ plus (tally_by page (event_of entry)) (tally_of rest page)
told_first entry rest page =
    let d = sum_by-cons (λ (e : Told). cond (dirties page e) 1 0) entry rest in
    let r = sum_by-cons (λ (e : Told). cond (redirties page e) 1 0) entry rest in
    let c = sum_by-cons (λ (e : Told). cond (claims page e) 1 0) entry rest in
    let o = sum_by-cons (λ (e : Told). cond (completes page e) 1 0) entry rest in
    let a = sum_by-cons (λ (e : Told). cond (absorbs page e) 1 0) entry rest in
    tally_is (count_by (dirties page) (entry ∷ rest) + count_by (redirties page) (entry ∷ rest)) (count_by (claims page) (entry ∷ rest)) (count_by (claims page) (entry ∷ rest))
    (count_by (completes page) (entry ∷ rest) + count_by (redirties page) (entry ∷ rest) + count_by (absorbs page) (entry ∷ rest))
    (one (dirties page entry) + one (redirties page entry) + (count_by (dirties page) rest + count_by (redirties page) rest))
    (one (claims page entry) + count_by (claims page) rest)
    (one (claims page entry) + count_by (claims page) rest)
    (one (completes page entry) + one (redirties page entry) + one (absorbs page entry) + (count_by (completes page) rest + count_by (redirties page) rest + count_by (absorbs page) rest))
    (four (count_by (dirties page) (entry ∷ rest)) (count_by (redirties page) (entry ∷ rest)) 0 0 (one (dirties page entry)) (count_by (dirties page) rest) (one (redirties page entry)) (count_by (redirties page) rest) d r)
    c c
    (six (count_by (completes page) (entry ∷ rest)) (count_by (redirties page) (entry ∷ rest)) (count_by (absorbs page) (entry ∷ rest))
    (one (completes page entry)) (count_by (completes page) rest) (one (redirties page entry)) (count_by (redirties page) rest) (one (absorbs page entry)) (count_by (absorbs page) rest) o r a)

if_dirty : (t : Tally) (b : Bool) → cond b (plus t (tally_of_event (Dirty 0))) t ≡ plus t (record { dirtied = one b + 0; cleaned = 0; claimed = 0; released = 0 })
if_dirty t true = refl
if_dirty t false = sym (plus_nothing t)

if_claim : (t : Tally) (b : Bool) → cond b (plus t (tally_of_event (Claim 0))) t ≡ plus t (record { dirtied = 0; cleaned = one b; claimed = one b; released = 0 })
if_claim t true = refl
if_claim t false = sym (plus_nothing t)

if_complete : (t : Tally) (b : Bool) → cond b (plus t (tally_of_event (Complete 0))) t ≡ plus t (record { dirtied = 0; cleaned = 0; claimed = 0; released = one b + 0 + 0 })
if_complete t true = refl
if_complete t false = sym (plus_nothing t)

if_redirty : (t : Tally) (b : Bool) → cond b (plus t (tally_of_event (Redirty 0))) t ≡ plus t (record { dirtied = 0 + one b; cleaned = 0; claimed = 0; released = 0 + one b + 0 })
if_redirty t true = refl
if_redirty t false = sym (plus_nothing t)

if_absorb : (t : Tally) (b : Bool) → cond b (plus t (tally_of_event (Absorb 0))) t ≡ plus t (record { dirtied = 0; cleaned = 0; claimed = 0; released = 0 + 0 + one b })
if_absorb t true = refl
if_absorb t false = sym (plus_nothing t)

event_adds : (t : Tally) (page : ℕ) (event : Option Event) → with_events t page event ≡ plus t (tally_by page event)
event_adds t page None = sym (plus_nothing t)
event_adds t page (Some (Dirty of)) = if_dirty t (of == page)
event_adds t page (Some (Claim of)) = if_claim t (of == page)
event_adds t page (Some (Complete of)) = if_complete t (of == page)
event_adds t page (Some (Redirty of)) = if_redirty t (of == page)
event_adds t page (Some (Absorb of)) = if_absorb t (of == page)

-- an entry is told
pub entered : (old new : List Tally) (entry : Told) (rest all : List Told) → length new ≡ length old → Tallied old (entry ∷ rest) all
    → ((page : ℕ) → page < length old → get_or new page nothing ≡ with_events (get_or old page nothing) page (event_of entry)) → Tallied new rest all
entered old new entry rest all same before is page low =
    let below : page < length old = omega arith in
    let t = get_or old page nothing in
    rw (is page below, event_adds t page (event_of entry))
    (plus_plus t (tally_by page (event_of entry)) (tally_of rest page) ∙ ap (plus t) (sym (told_first entry rest page)) ∙ before page below)

pub none_entered : (pages : ℕ) (all : List Told) → Tallied (replicate pages nothing) all all
none_entered pages all page low =
    let below : page < pages = omega (arith, length-replicate {A = Tally} pages nothing) in
    rw (get_or-replicate {A = Tally} pages page nothing nothing below) (nothing_plus (tally_of all page))

pub all_entered : (tallies : List Tally) (all : List Told) → Tallied tallies [] all → (page : ℕ) → page < length tallies → get_or tallies page nothing ≡ tally_of all page
all_entered tallies all are page low = sym (plus_nothing (get_or tallies page nothing)) ∙ are page low

-- ---- balance

swap_and : (a b : Bool) → (a && b) ≡ (b && a)
swap_and true true = refl
swap_and true false = refl
swap_and false true = refl
swap_and false false = refl

module _ (tallies : List Tally) (all : List Told) (left : List Left)
    (is : (page : ℕ) → page < length tallies → get_or tallies page nothing ≡ plus (tally_of all page) (tally_of_left left page)) where
  one_even : (page : ℕ) → page < length tallies → is_balanced (get_or tallies page nothing) ≡
      (count_by (dirties page) all + count_by (redirties page) all == count_by (claims page) all + left_dirty page left
      && count_by (claims page) all == count_by (completes page) all + count_by (redirties page) all + count_by (absorbs page) all + left_writeback page left)
  one_even page low =
      let d : count_by (dirties page) all + count_by (redirties page) all + 0 ≡ count_by (dirties page) all + count_by (redirties page) all = omega arith in
      let c : count_by (claims page) all + 0 ≡ count_by (claims page) all = omega arith in
      rw (is page low, d, c)

  even_to : (n : ℕ) → n ≤ length tallies → list_all is_balanced (take n tallies) ≡ is_even_below all left n
  even_to zero low = refl
  even_to (suc n) low =
      let next : suc n ≡ n + 1 = omega arith in
      ap (λ (k : ℕ). list_all is_balanced (take k tallies)) next
      ∙ list_all_more is_balanced tallies n nothing (omega arith)
      ∙ swap_and (list_all is_balanced (take n tallies)) (is_balanced (get_or tallies n nothing))
      ∙ ap (λ (b : Bool). b && list_all is_balanced (take n tallies)) (one_even n (omega arith))
      ∙ ap (λ (b : Bool). (count_by (dirties n) all + count_by (redirties n) all == count_by (claims n) all + left_dirty n left
      && count_by (claims n) all == count_by (completes n) all + count_by (redirties n) all + count_by (absorbs n) all + left_writeback n left) && b) (even_to n (omega arith))

  pub all_even : (pages : ℕ) → length tallies ≡ pages → list_all is_balanced tallies ≡ is_even_below all left pages
  all_even pages count =
      ap (λ (l : List Tally). list_all is_balanced l) (sym (take_all (length tallies) tallies (omega arith))) ∙ even_to (length tallies) (omega arith) ∙ ap (is_even_below all left) count

pub begun : (tallies : List Tally) (all rest : List Told) → tallies ≡ replicate (length tallies) nothing → rest ≡ all → Tallied tallies rest all
begun tallies all rest none same =
    subst (λ (l : List Tally). Tallied l rest all) (sym none) (subst (λ (es : List Told). Tallied (replicate (length tallies) nothing) es all) (sym same) (none_entered (length tallies) all))

pub even_at : (before tallies : List Tally) (all : List Told) (left : List Left) → Tallied before [] all → length tallies ≡ length before
    → ((page : ℕ) → page < length before → get_or tallies page nothing ≡ plus (get_or before page nothing) (tally_of_left left page))
    → (pages : ℕ) → length before ≡ pages → list_all is_balanced tallies ≡ is_even_below all left pages
even_at before tallies all left are same is pages count =
    all_even tallies all left
    (λ page low. let below : page < length before = omega arith in
    is page below ∙ ap (λ (t : Tally). plus t (tally_of_left left page)) (all_entered before all are page below))
    pages (same ∙ count)
