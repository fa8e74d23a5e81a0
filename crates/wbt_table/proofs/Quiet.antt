-- The kinds of step that leave debts and what writers have left alone.
use Rattle.std.proofs.Common.{◌≡◌, ℕ, cond, eqb, List, ℤ, refl, ap}
use Rattle.std.proofs.lemmas.Bool.{cond_both}
use Rattle.wbt_table.proofs.Common.{Counter, net, CpuRecord, WriterRecord, Setting, covers, writer_in, last_found, one_more, claimed, own_told, look_record}
use Rattle.wbt_counter.specs.Recorded as counter
use Rattle.wbt_grant.proofs.Counts.{zero_more}
use Rattle.wbt_grant.specs.State.{account_of}
use Rattle.wbt_grant.specs.Seats.{claim_record}
use Rattle.wbt_table.proofs.Keeping.{own_same, look_same, look_steps, look_writers}
use Rattle.wbt_table.proofs.Calling.{Quiet}

pub look_quiet : (set' : Setting) (p n : ℕ) (r : CpuRecord) → Quiet set' r (look_record set' p n r)
look_quiet set' p n r = let same = look_same set' p n r in record {
  steps = look_steps set' p n r;
  page_steps = same.page_steps;
  debts = same.debts;
  own = λ x. own_same set' x r (look_record set' p n r) same;
  lefts = λ w. ap (λ (ws : List WriterRecord). (writer_in set' w ws).left) (look_writers set' p n r);
}

-- a claim, whether it hits or misses
module _ (set' : Setting) (p : ℕ) (r : CpuRecord) where
  claim_each : (n : ℕ) (P : CpuRecord → Type 0) → P (claimed p r) → P r → P (cond (eqb n (last_found r.last)) (claimed p r) r)
  claim_each n P a b = cond_both (eqb n (last_found r.last)) (claimed p r) r P (λ t. a) (λ t. b)

  claimed_own : (x : Counter) → own_told set' x (claimed p r) ≡ own_told set' x r
  claimed_own x = let z : ℤ = net (λ q. covers set' x (set'.home q)) r.events in
      ap (λ (y : ℤ). counter.own_told (record (account_of set' x r) { net = y })) (zero_more z)

pub claim_quiet : (set' : Setting) (p n : ℕ) (r : CpuRecord) → Quiet set' r (claim_record p n r)
claim_quiet set' p n r = record {
  steps = claim_each set' p r n (λ z. one_more z.steps ≡ one_more r.steps) refl refl;
  page_steps = claim_each set' p r n (λ z. z.page_steps ≡ r.page_steps) refl refl;
  debts = claim_each set' p r n (λ z. z.debts ≡ r.debts) refl refl;
  own = λ x. claim_each set' p r n (λ z. own_told set' x z ≡ own_told set' x r) (claimed_own set' p r x) refl;
  lefts = λ w. claim_each set' p r n (λ z. (writer_in set' w z.writers).left ≡ (writer_in set' w r.writers).left) refl refl;
}
