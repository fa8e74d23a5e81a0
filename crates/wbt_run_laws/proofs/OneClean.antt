-- The flusher's turns of the run of one page.
use Rattle.std.proofs.Common.{◌≡◌, ℕ, zero, suc, ◌+◌, ◌≤◌, true, false, cond, eqb, ◌&&◌, List, [], ◌∷◌, ◌++◌, inl, sym, refl, ap, ◌∙◌, subst, arith, ne_eqb, Bool, true≢false}
use Rattle.wbt_run_laws.proofs.Common.{domain_batch, context_batch, one_if, first_at, Estimate, begun, added_at, no_record, halvings, log2, first_in, first_one, first_estimates, Follows, estimates_of, after, Grew, NotedSince, SharesGrew, newer, IsNewest, IsTold, EstimatesGrew, one_trace, one_setting, one_end, one_last, one_first, one_notes, IsOwn, first_shown, of_first, knows, knows_nothing}
use Rattle.wbt_fraction.specs.Sums.{total as weigh}
use Rattle.wbt_journal.specs.Reads.{added_to}
use Rattle.wbt_journal.specs.Told.{claimed, batch, done, share, estimated, fault, gave_back}
use Rattle.wbt_run_laws.specs.OnePage.{second_estimate, one_cleans, one_added}
use Rattle.wbt_run_laws.proofs.Noting.{noted_of_flusher}
use Rattle.wbt_run_laws.proofs.Small.{none_in}
use Rattle.wbt_run_laws.proofs.Calling.{tail_of}

clean_grew : Grew one_cleans no_record (one_end.cpu 1)
unfolding domain_batch context_batch log2 halvings
clean_grew = record {
  folds = refl;
  events = refl;
  found_dirty = refl;
  readings = record { more = (one_end.cpu 1).readings; longer = refl; told_in_order = tt };
  triples = record { more = (one_end.cpu 1).triples; longer = refl };
  fresh = λ cpu. record { allowed = λ seen has. (tt, (tt, (tt, (tt, (tt, (tt, (tt, (tt, tt)))))))); reached = λ seen has version x none. has version x (none_in version x) };
  page_steps = refl;
}

-- the first of things is no later one
pub off : (n : ℕ) → eqb 0 (suc n) ≡ false
off n = ne_eqb 0 (suc n) (λ e. omega arith)

off_part : (n : ℕ) → eqb 1 (suc (suc n)) ≡ false
off_part n = ne_eqb 1 (suc (suc n)) (λ e. omega arith)

share_by : (domain context : ℕ) → weigh (added_at (suc context)) (of_first one_added [] domain) ≡ weigh (added_at (suc context)) (of_first [] [] domain) + added_to domain context one_cleans
unfolding weigh
share_by zero zero = refl
share_by zero (suc context) =
    let here : one_if (eqb 1 (suc (suc context))) ≡ 0 = ap one_if (off_part context) in
    let domain : one_if (eqb 0 (suc (suc context))) ≡ 0 = ap one_if (off (suc context)) in
    let told : one_if (eqb 0 (suc context)) ≡ 0 = ap one_if (off context) in omega arith
share_by (suc domain) context = let told = ap (λ (b : Bool). one_if (b && eqb 0 context)) (off domain) in omega arith

clean_begins : (domain : ℕ) → begun (of_first one_added [] domain) ≡ begun (of_first [] [] domain)
unfolding begun
clean_begins zero = refl
clean_begins (suc domain) = refl

clean_longer : (domain : ℕ) → of_first one_added [] domain ≡ of_first one_added [] domain ++ of_first [] [] domain
clean_longer zero = refl
clean_longer (suc domain) = refl

clean_shares : SharesGrew 1 one_cleans (one_first 1) (one_notes 1)
clean_shares = record {
  longer = λ domain. record { more = of_first one_added [] domain; longer = clean_longer domain };
  adds = share_by;
  begins_none = clean_begins;
  kept = λ kept domain context. inl refl;
  fractions = λ kept. (tt, (tt, (tt, (tt, (tt, (tt, (tt, (tt, tt))))))));
  periods = record { allowed = λ seen keeps. (tt, (tt, (tt, (tt, (tt, (tt, (tt, (tt, tt)))))))); reached = λ seen keeps domain context period late. keeps domain context period late };
}

-- the second estimate follows the first
second_follows : Follows (first_at 1) second_estimate
unfolding first_at
second_follows = record { version = refl; later = omega arith; bandwidth = refl; average = refl }

newest_is_first : (s : Estimate) → IsNewest (first_at 1) (knows true (first_one ∷ []) [] 0) s → s ≡ first_at 1
newest_is_first s stands = stands.newest_is ∙ ap (after newer (first_at 1)) (sym (ap tail_of stands.all_are))

none_told : (context : ℕ) → estimates_of (suc context) one_cleans ≡ []
none_told context = ap (λ (b : Bool). cond b (second_estimate ∷ []) [] ++ []) (off context)

clean_told : (context : ℕ) → IsTold (first_in (first_estimates one_trace 1) context) (estimates_of context one_cleans) ((one_first 1).estimates context) ((one_notes 1).estimates context)
clean_told zero = record {
  right = refl;
  published = λ is. refl;
  silent = λ is. absurd (true≢false is);
  follow = record {
    allowed = λ s stands. (subst (λ (e : Estimate). Follows e second_estimate) (sym (newest_is_first s stands)) second_follows, tt);
    reached = λ s stands. record { later = second_estimate ∷ []; all_are = refl; newest_is = refl };
  };
  reads = λ note has. absurd (let low = has.1 in omega arith);
}
clean_told (suc context) = subst (λ (l : List Estimate). IsTold (first_in (first_estimates one_trace 1) (suc context)) l knows_nothing knows_nothing) (sym (none_told context)) (record {
  right = refl;
  published = λ is. refl;
  silent = λ is. refl;
  follow = record { allowed = λ s stands. tt; reached = λ s stands. stands };
  reads = λ note has. has;
})

none_published : (context version : ℕ) → (of_first (knows true (first_one ∷ []) [] 0) knows_nothing context).seen ≤ version
none_published zero version = omega arith
none_published (suc context) version = omega arith

clean_estimates : EstimatesGrew (first_estimates one_trace 1) 1 one_cleans (one_first 1) (one_notes 1)
clean_estimates = record {
  each = clean_told;
  names = record { allowed = λ seen named. (tt, (tt, (tt, (tt, (tt, (tt, (tt, (tt, tt)))))))); reached = λ seen named context version late. named context version (none_published context version) };
}

-- each is the CPU's own by its one part
own_estimate : IsOwn one_trace 1 (estimated (record { context = 0; estimate = second_estimate }))
own_estimate = record { write = tt; fold = tt; check = tt; flight = tt; share = tt; estimate = refl; wait = tt }

own_claim : IsOwn one_trace 1 (claimed 0 0)
own_claim = record { write = tt; fold = tt; check = tt; flight = record { own = refl; page = refl; chunk = tt }; share = tt; estimate = tt; wait = tt }

own_fault : IsOwn one_trace 1 (fault 0 1)
own_fault = record { write = tt; fold = tt; check = tt; flight = record { own = refl; page = tt; chunk = tt }; share = tt; estimate = tt; wait = tt }

own_back : IsOwn one_trace 1 (gave_back 0 0 false)
own_back = record { write = tt; fold = tt; check = tt; flight = record { own = refl; page = refl; chunk = tt }; share = tt; estimate = tt; wait = tt }

own_batch : IsOwn one_trace 1 (batch 0 1 1202 1203)
own_batch = record { write = tt; fold = tt; check = tt; flight = record { own = refl; page = tt; chunk = tt }; share = tt; estimate = tt; wait = tt }

own_done : IsOwn one_trace 1 (done 0 0)
own_done = record { write = tt; fold = tt; check = tt; flight = record { own = refl; page = refl; chunk = tt }; share = tt; estimate = tt; wait = tt }

own_share : IsOwn one_trace 1 (share 0 0 1)
own_share = record { write = tt; fold = tt; check = tt; flight = tt; share = record { domain_named = refl; context_named = refl }; estimate = tt; wait = tt }

others_same : (g : ℕ) → (g ≡ 0 → ⊥) → (one_last 1).flushers g ≡ (first_shown one_trace one_setting.firsts).flushers g
others_same zero other = absurd (other refl)
others_same (suc g) other = refl

pub second_since : NotedSince one_trace 1 1 one_cleans (first_shown one_trace one_setting.firsts) (one_last 1) (one_first 1) (one_notes 1)
second_since = noted_of_flusher one_trace 1 1 0 one_cleans (first_shown one_trace one_setting.firsts) (one_last 1) (one_first 1) (one_notes 1) (record {
  turn = record {
    grew = clean_grew;
    firsts_stay = refl;
    flew = record { allowed = (tt, (λ is. tt, (λ is. (omega arith, refl), (λ is. refl, (λ is. tt, (λ is. (omega arith, refl), (λ is. refl, (tt, tt)))))))); reached = refl };
    waited = record { allowed = (tt, (tt, (tt, (tt, (tt, (tt, (tt, (tt, tt)))))))); reached = refl };
    own = (own_estimate, (own_claim, (own_fault, (own_back, (own_claim, (own_batch, (own_done, (own_share, tt))))))));
    of_flusher = (record { no_write = refl; no_check = refl; flight = tt; wait = tt }, (record { no_write = refl; no_check = refl; flight = refl; wait = tt }, (record { no_write = refl; no_check = refl; flight = refl; wait = tt }, (record { no_write = refl; no_check = refl; flight = refl; wait = tt }, (record { no_write = refl; no_check = refl; flight = refl; wait = tt }, (record { no_write = refl; no_check = refl; flight = refl; wait = tt }, (record { no_write = refl; no_check = refl; flight = refl; wait = tt }, (record { no_write = refl; no_check = refl; flight = tt; wait = tt }, tt))))))));
    others_stay = others_same;
    side_stays = refl;
    written_stays = λ task. refl;
  };
  shares = clean_shares;
  estimates = clean_estimates;
})
