-- Limits that are read whole are those that stand published.
use Rattle.std.proofs.Common.{◌≡◌, ℕ, ◌/◌, ◌≤◌, true, ap, ◌∙◌, subst}
use Rattle.std.proofs.lemmas.List.Elements.{All-weaker}
use Rattle.wbt_num.specs.declared.limits.Limits.{Limits}
use Rattle.wbt_grant.specs.declared.record.DomainLimits.{DomainLimits}
use Rattle.wbt_grant.specs.declared.record.Finding.{Finding}
use Rattle.wbt_grant.specs.Setting.{Setting, IsSetting}
use Rattle.wbt_grant.specs.State.{State, found_of, stage_of, is_sealed, version_of, sequence_of}
use Rattle.wbt_grant.specs.Record.{thresh_found}
use Rattle.wbt_grant.specs.Kinds.{sequence_now, thresh_now}
use Rattle.wbt_grant.specs.Rule.{Rule}
use Rattle.wbt_grant.specs.SeatLaws.{LimitsAreWhole}
use Rattle.wbt_grant.proofs.Sequences.{whole_found, sealed_at, half_sequence, standing_sealed}

module _ (set : Setting) (s : State) (ok : IsSetting set) (rule : Rule set s) (d : ℕ) where
  -- the sequence word tells the sequence
  pub sequence_tells : set.coding.sequence_in (sequence_now set d s) ≡ sequence_of s.timer d
  sequence_tells = ok.sequences_hold (sequence_of s.timer d) (s.published d).hard (rule.limits.lawful d).hard_in_range

  -- and under an even one both words tell the published limits
  pub limits_tell : is_sealed (stage_of d s.timer.drafts) ≡ true
      → set.coding.limits_in (sequence_now set d s) (thresh_now set d s) ≡ s.published d
  limits_tell sealed =
      ap (λ (l : Limits). set.coding.limits_in (sequence_now set d s) (set.coding.thresh_word l))
      (standing_sealed (stage_of d s.timer.drafts) (s.published d) sealed)
      ∙ ok.limits_hold (sequence_of s.timer d) (s.published d) (rule.limits.lawful d)

pub limits_are_whole : LimitsAreWhole
limits_are_whole set s ok rule i d t =
    let n : ℕ = sequence_now set d s in
    let found : Finding = found_of d (s.cpu i).loading in
    let its = sequence_tells set s ok rule d in
    let both = whole_found set found (sequence_of s.timer d) (thresh_now set d s) n (rule.sequences.as_found i d) its t in
    let sealed = sealed_at (stage_of d s.timer.drafts) (version_of d s.timer.published) both.0 in
    let version : set.coding.sequence_in n / 2 ≡ version_of d s.timer.published
    = ap (λ (q : ℕ). q / 2) its ∙ half_sequence (stage_of d s.timer.drafts) (version_of d s.timer.published) sealed in
    let limits : set.coding.limits_in n (thresh_found found) ≡ s.published d
    = ap (set.coding.limits_in n) both.1 ∙ limits_tell set s ok rule d sealed in
    record {
      sealed = sealed;
      published = ap (λ (v : ℕ). record { domain = d; version = v; limits = set.coding.limits_in n (thresh_found found) }) version
          ∙ ap (λ (l : Limits). record { domain = d; version = version_of d s.timer.published; limits = l }) limits;
      fresh = All-weaker (λ (x : DomainLimits). x.version ≤ version_of x.domain s.timer.published)
          (λ (x : DomainLimits). x.domain ≡ d → x.version ≤ version_of d s.timer.published)
          (λ x less is. subst (λ (e : ℕ). x.version ≤ version_of e s.timer.published) is less) (s.cpu i).triples (rule.sequences.none_ahead i);
    }
