-- The places that a flusher keeps.
use Rattle.std.proofs.Common.{◌≡◌, ℕ, false, set, List, sym, ap, ◌∙◌}
use Rattle.std.proofs.lemmas.Bool.{cond-false}
use Rattle.std.proofs.lemmas.List.{set-get_or}
use Rattle.wbt_trace.specs.declared.trace.Trace.{Trace}
use Rattle.wbt_rules.specs.Places.{place_after}
use Rattle.wbt_rules.specs.Things.{device_at, flusher_device}
use Rattle.wbt_rules.specs.declared.scan.Scan.{Scan}
use Rattle.wbt_replay_moves.specs.Definition.Scan.{keep_place}
use Rattle.wbt_replay_moves.specs.Definition.State.{State, no_flusher, flusher_of, with_flusher}
use Rattle.wbt_replay_moves.specs.declared.state.Flusher.{Flusher}

-- Where the flusher's device isn't cyclic none changes.
pub stays_placed : (trace : Trace) (flusher : ℕ) (scan : Scan) (s : State)
    → (device_at trace (flusher_device trace flusher)).cyclic ≡ false → s ≡ keep_place trace flusher scan s
stays_placed trace flusher scan s straight =
    let places : List ℕ = (flusher_of flusher s).places in
    let put : List ℕ = set places scan.inode (place_after scan.pages scan.start scan.passed) in
    sym (ap (λ (l : List ℕ). with_flusher flusher (record (flusher_of flusher s) { places = l }) s)
    (cond-false (device_at trace (flusher_device trace flusher)).cyclic put places straight)
    ∙ ap (λ (l : List Flusher). record s { flushers = l }) (set-get_or s.flushers flusher no_flusher))
