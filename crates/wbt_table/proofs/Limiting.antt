-- The words of the steps on limits and peaks.
use Rattle.std.proofs.Common.{◌≡◌, ℕ, suc, ◌+◌, ◌%◌, ◌^◌, ◌<◌, max, get_or, set, sym, refl, ap, ◌∙◌, subst, arith}
use Rattle.wbt_table.proofs.Common.{Limits, thresh_word_of, put, Who, Writer, Cpu, Timer, CpuRecord, TimerRecord, State, sequence_of, peak, unseal, thresh, publish, first, middle, limits, sequence_now, after, setting, domains, sequence_at, thresh_at, peak_at}
use Rattle.wbt_limits.specs.Words.{sequence_word_of}
use Rattle.wbt_grant.specs.StepWords.{SequenceBecomes}
use Rattle.wbt_grant.proofs.StepWords.{unseal_is_addition, thresh_is_swap, publish_is_swap}
use Rattle.wbt_table.specs.declared.layout.Layout.{Layout}
use Rattle.wbt_table.proofs.Showing.{sequence_shown, thresh_shown, peak_shown, shows_parts, load_shown}
use Rattle.wbt_table.proofs.Turning.{Moves}
use Rattle.wbt_table.proofs.Ticking.{TimerMoves}

module _ (key : Layout) where
  -- the three loads
  pub first_moves : (i d : ℕ) (r : CpuRecord) → d < domains key → Moves key (first i d) r (sequence_at key d) (λ n. n)
  first_moves i d r there words s ok fit rule shows long may at = (
    sym (shows.limits.sequence_words d there),
    load_shown key words s (after (setting key) (first i d) s) (sequence_at key d) shows refl refl refl refl refl refl,
  )

  pub middle_moves : (i d : ℕ) (r : CpuRecord) → d < domains key → Moves key (middle i d) r (thresh_at key d) (λ n. n)
  middle_moves i d r there words s ok fit rule shows long may at = (
    sym (shows.limits.thresh_words d there),
    load_shown key words s (after (setting key) (middle i d) s) (thresh_at key d) shows refl refl refl refl refl refl,
  )

  pub limits_moves : (who : Who) (d : ℕ) (r : CpuRecord) → d < domains key → Moves key (limits who d) r (sequence_at key d) (λ n. n)
  limits_moves (Writer w) d r there words s ok fit rule shows long may at = (
    sym (shows.limits.sequence_words d there),
    load_shown key words s (after (setting key) (limits (Writer w) d) s) (sequence_at key d) shows refl refl refl refl refl refl,
  )
  limits_moves (Cpu i) d r there words s ok fit rule shows long may at = (
    sym (shows.limits.sequence_words d there),
    load_shown key words s (after (setting key) (limits (Cpu i) d) s) (sequence_at key d) shows refl refl refl refl refl refl,
  )
  limits_moves Timer d r there words s ok fit rule shows long may at = absurd may

  pub peak_moves : (d hard : ℕ) (r : TimerRecord) → d < domains key → TimerMoves key (peak d hard) r (peak_at key d) (λ n. max n hard)
  peak_moves d hard r there words s ok fit rule shows long may at =
      let n : ℕ = get_or words (peak_at key d) 0 in
      let shown : n ≡ s.peak d = shows.peaks.each d there in
      let v : ℕ = max (s.peak d) hard in
      let mid : State = record s { peak = put s.peak d v } in (
        sym shown,
        shows_parts key (set words (peak_at key d) (max n hard)) mid (after (setting key) (peak d hard) s)
            (peak_shown key words s ok shows long d v (max n hard) there (ap (λ (m : ℕ). max m hard) shown))
            refl refl refl refl refl refl,
      )

  -- the three steps of a publication
  pub unseal_moves : (d : ℕ) (r : TimerRecord) → d < domains key → TimerMoves key (unseal d) r (sequence_at key d) (λ n. (n + 2 ^ 32) % 2 ^ 64)
  unseal_moves d r there words s ok fit rule shows long may at =
      let n : ℕ = get_or words (sequence_at key d) 0 in
      let z : State = after (setting key) (unseal d) s in
      let shown : n ≡ sequence_now (setting key) d s = shows.limits.sequence_words d there in
      let room = may.room in
      let high = (rule.limits.lawful d).hard_in_range in
      let no_wrap : sequence_now (setting key) d s + 2 ^ 32 ≡ (n + 2 ^ 32) % 2 ^ 64 = omega arith in (
        sym shown,
        sequence_shown key words s ok shows long z d ((n + 2 ^ 32) % 2 ^ 64) there refl refl refl refl refl
            (subst (λ (v : ℕ). SequenceBecomes (setting key) d v s z) no_wrap (unseal_is_addition (setting key) d s ok may)),
      )

  pub thresh_moves : (d : ℕ) (triple : Limits) (r : TimerRecord) → d < domains key
      → TimerMoves key (thresh d triple) r (thresh_at key d) (λ n. thresh_word_of triple)
  thresh_moves d triple r there words s ok fit rule shows long may at = (
    sym (shows.limits.thresh_words d there),
    thresh_shown key words s ok shows long (after (setting key) (thresh d triple) s) d (thresh_word_of triple) there refl refl refl refl refl
        (thresh_is_swap (setting key) d triple s may),
  )

  pub publish_moves : (d : ℕ) (triple : Limits) (r : TimerRecord) (q : ℕ) → d < domains key → q ≡ suc (sequence_of r d)
      → TimerMoves key (publish d triple) r (sequence_at key d) (λ n. sequence_word_of q triple.hard)
  publish_moves d triple r q there is words s ok fit rule shows long may at =
      let z : State = after (setting key) (publish d triple) s in
      let next : suc (sequence_of s.timer d) ≡ q = ap (λ (t : TimerRecord). suc (sequence_of t d)) at ∙ sym is in (
        sym (shows.limits.sequence_words d there),
        sequence_shown key words s ok shows long z d (sequence_word_of q triple.hard) there refl refl refl refl refl
            (subst (λ (m : ℕ). SequenceBecomes (setting key) d (sequence_word_of m triple.hard) s z) next (publish_is_swap (setting key) d triple s may)),
      )
