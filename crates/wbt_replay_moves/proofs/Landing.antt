-- A batch that landed is counted in: its last part, where the context has a cgroup.
use Rattle.std.proofs.Common.{◌≡◌, ◌≢◌, ℕ, zero, suc, false, ap, ◌∙◌, refl}
use Rattle.wbt_trace.specs.declared.trace.Trace.{Trace}
use Rattle.wbt_replay_moves.specs.Definition.Flight.{landed, share, share_group, with_written}
use Rattle.wbt_replay_moves.specs.Definition.State.{State, in_phase}
use Rattle.wbt_rules.specs.Things.{group_of}
use Rattle.wbt_replay_moves.specs.declared.state.ReplayPhase.TheVariants as phase

shares_group : (trace : Trace) (cpu group context n : ℕ) (s : State) → group ≢ 0
    → share trace cpu group context n s ≡ share_group trace cpu group context n s
shares_group trace cpu zero context n s some = absurd (some refl)
shares_group trace cpu (suc cgroup) context n s some = refl

pub lands : (trace : Trace) (cpu flusher context n group : ℕ) (s s1 s2 s3 : State) → group ≢ 0 → group ≡ group_of trace context
    → s1 ≡ in_phase flusher (phase.Idle 0 false) s → s2 ≡ with_written context n s1 → s3 ≡ share trace cpu 0 context n s2
    → share trace cpu group context n s3 ≡ landed trace cpu flusher context n s
lands trace cpu flusher context n group s s1 s2 s3 some is is1 is2 is3 =
    shares_group trace cpu group context n s3 some
    ∙ ap (λ (g : ℕ). share_group trace cpu g context n s3) is
    ∙ ap (share_group trace cpu (group_of trace context) context n)
    (is3 ∙ ap (share trace cpu 0 context n) (is2 ∙ ap (with_written context n) is1))
