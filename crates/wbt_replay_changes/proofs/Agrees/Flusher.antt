-- A flusher's turn that scans or flies.
use Rattle.std.proofs.Common.{ℕ, zero, suc, Bool, true, false, eqb, List, [], ◌∷◌, length, refl}
use Rattle.wbt_book.specs.Book.{is_claimable}
use Rattle.wbt_book.specs.PageWords.{shared_word}
use Rattle.wbt_flex.specs.Proportions.{fraction_of, may_be_added}
use Rattle.wbt_grant.specs.declared.who.StepKind.TheVariants as kind
use Rattle.wbt_rules.specs.Places.{page_of}
use Rattle.wbt_rules.specs.Things.{context_of, group_of, max_share}
use Rattle.wbt_replay_moves.specs.Definition.Flight.{part_in, share, share_group, landed, complete_first, complete_in, complete_by, land_in, land_by}
use Rattle.wbt_replay_moves.specs.Definition.Scan.{is_scan_over, look_in, look_by, claim_in, claim_by, close_in, close_by, land_empty, hand_over_in, hand_over_by}
use Rattle.wbt_replay_moves.specs.declared.state.ReplayPhase.{ReplayPhase}
use Rattle.wbt_replay_moves.specs.declared.state.ReplayPhase.TheVariants as phase
use Rattle.wbt_replay_moves.specs.declared.state.Whose.{Whose}
use Rattle.wbt_replay_moves.specs.declared.state.Whose.TheVariants as whose
use Rattle.wbt_trace.specs.declared.trace.Trace.{Trace}
use Rattle.wbt_replay_moves.specs.Definition.State.{State, flusher_of, domain_of, writeback_of}
use Rattle.wbt_replay_changes.specs.Apply.{apply}
use Rattle.wbt_replay_changes.specs.Change.{Change}
use Rattle.wbt_replay_changes.specs.Change as change
use Rattle.wbt_replay_changes.specs.ChangeOf.Flusher.{look_changes, claim_changes, close_changes, empty_changes, hand_over_changes, batch_changes, complete_changes, share_changes, group_changes, landed_changes, land_changes}
use Rattle.wbt_replay_changes.specs.ChangeOf.Where.{by_flusher, where_scanning, where_flying}
use Rattle.wbt_replay_changes.proofs.Agrees.Choice.{IsMade, chosen, stepped_either, followed}

-- ---- a scan

module _ (trace : Trace) (cpu : ℕ) (s : State) where
  look_in_agrees : (f : ℕ) (p : ReplayPhase) → IsMade trace s (where_scanning (look_changes cpu) f p s) (look_in cpu f p s)
  look_in_agrees f (phase.Scanning scan) = stepped_either trace s cpu kind.Look (is_claimable (s.book (page_of scan))) _ _ _ _ refl refl
  look_in_agrees f (phase.Idle until kept) = refl
  look_in_agrees f (phase.Taken inode) = refl
  look_in_agrees f (phase.Flying inode pages until) = refl
  look_in_agrees f phase.Finished = refl

  pub look_agrees : (w : Whose) → IsMade trace s (by_flusher (where_scanning (look_changes cpu)) w s) (look_by cpu w s)
  look_agrees (whose.Flusher f) = look_in_agrees f (flusher_of f s).phase
  look_agrees (whose.Task task) = refl

  claim_in_agrees : (word f : ℕ) (p : ReplayPhase) → IsMade trace s (where_scanning (claim_changes cpu word) f p s) (claim_in cpu f word p s)
  claim_in_agrees word f (phase.Scanning scan) =
      stepped_either trace s cpu kind.Claim (eqb (shared_word s.book (page_of scan)) word) _ _ _ _ refl refl
  claim_in_agrees word f (phase.Idle until kept) = refl
  claim_in_agrees word f (phase.Taken inode) = refl
  claim_in_agrees word f (phase.Flying inode pages until) = refl
  claim_in_agrees word f phase.Finished = refl

  pub claim_agrees : (word : ℕ) (w : Whose) → IsMade trace s (by_flusher (where_scanning (claim_changes cpu word)) w s) (claim_by cpu word w s)
  claim_agrees word (whose.Flusher f) = claim_in_agrees word f (flusher_of f s).phase
  claim_agrees word (whose.Task task) = refl

  close_in_agrees : (f : ℕ) (p : ReplayPhase) → IsMade trace s (where_scanning (close_changes cpu) f p s) (close_in trace cpu f p s)
  close_in_agrees f (phase.Scanning scan) = chosen trace s (is_scan_over scan (length (flusher_of f s).batch)) _ _ _ _ refl refl
  close_in_agrees f (phase.Idle until kept) = refl
  close_in_agrees f (phase.Taken inode) = refl
  close_in_agrees f (phase.Flying inode pages until) = refl
  close_in_agrees f phase.Finished = refl

  pub close_agrees : (w : Whose) → IsMade trace s (by_flusher (where_scanning (close_changes cpu)) w s) (close_by trace cpu w s)
  close_agrees (whose.Flusher f) = close_in_agrees f (flusher_of f s).phase
  close_agrees (whose.Task task) = refl

  empty_agrees : (f : ℕ) (noted : Bool) → IsMade trace s (empty_changes f noted s) (land_empty f noted s)
  empty_agrees f true = refl
  empty_agrees f false = refl

  hand_over_in_agrees : (f : ℕ) (p : ReplayPhase) → IsMade trace s (where_scanning (hand_over_changes trace cpu) f p s) (hand_over_in trace cpu f p s)
  hand_over_in_agrees f (phase.Scanning scan) =
      chosen trace s (eqb (length (flusher_of f s).batch) 0) _ _ _ _ (empty_agrees f scan.noted) refl
  hand_over_in_agrees f (phase.Idle until kept) = refl
  hand_over_in_agrees f (phase.Taken inode) = refl
  hand_over_in_agrees f (phase.Flying inode pages until) = refl
  hand_over_in_agrees f phase.Finished = refl

  pub hand_over_agrees : (w : Whose) → IsMade trace s (by_flusher (where_scanning (hand_over_changes trace cpu)) w s) (hand_over_by trace cpu w s)
  hand_over_agrees (whose.Flusher f) = hand_over_in_agrees f (flusher_of f s).phase
  hand_over_agrees (whose.Task task) = refl

-- ---- a flight

module _ (trace : Trace) (cpu : ℕ) where
  batch_agrees : (f context : ℕ) (batch : List ℕ) (s : State) → IsMade trace s (batch_changes cpu f context batch) (complete_first trace cpu f context batch s)
  batch_agrees f context [] s = refl
  batch_agrees f context (page ∷ pages) s = refl

  complete_in_agrees : (s : State) (f : ℕ) (p : ReplayPhase) → IsMade trace s (where_flying (complete_changes trace cpu) f p s) (complete_in trace cpu f p s)
  complete_in_agrees s f (phase.Flying inode pages until) = batch_agrees f (context_of trace inode) (flusher_of f s).batch s
  complete_in_agrees s f (phase.Idle until kept) = refl
  complete_in_agrees s f (phase.Taken inode) = refl
  complete_in_agrees s f (phase.Scanning scan) = refl
  complete_in_agrees s f phase.Finished = refl

  pub complete_agrees : (s : State) (w : Whose) → IsMade trace s (by_flusher (where_flying (complete_changes trace cpu)) w s) (complete_by trace cpu w s)
  complete_agrees s (whose.Flusher f) = complete_in_agrees s f (flusher_of f s).phase
  complete_agrees s (whose.Task task) = refl

  share_agrees : (domain context n : ℕ) (s : State) → IsMade trace s (share_changes trace cpu domain context n s) (share trace cpu domain context n s)
  share_agrees domain context n s =
      chosen trace s (may_be_added (fraction_of (part_in domain (writeback_of context s)) (domain_of domain s).events) (max_share trace context)) _ _ _ _ refl refl

  group_agrees : (group context n : ℕ) (s : State) → IsMade trace s (group_changes trace cpu group context n s) (share_group trace cpu group context n s)
  group_agrees zero context n s = refl
  group_agrees (suc cgroup) context n s = share_agrees (suc cgroup) context n s

  landed_agrees : (f context n : ℕ) (s : State) → IsMade trace s (landed_changes trace cpu f context n s) (landed trace cpu f context n s)
  landed_agrees f context n s =
      let u = apply trace (change.landed f context n) s in
      followed trace u (share trace cpu 0 context n u) (share_changes trace cpu 0 context n u)
      (group_changes trace cpu (group_of trace context) context n) (share_group trace cpu (group_of trace context) context n)
      (share_agrees 0 context n u) (group_agrees (group_of trace context) context n)

  land_in_agrees : (s : State) (f : ℕ) (p : ReplayPhase) → IsMade trace s (where_flying (land_changes trace cpu) f p s) (land_in trace cpu f p s)
  land_in_agrees s f (phase.Flying inode pages until) =
      chosen trace s (eqb (length (flusher_of f s).batch) 0) _ _ _ _ (landed_agrees f (context_of trace inode) pages s) refl
  land_in_agrees s f (phase.Idle until kept) = refl
  land_in_agrees s f (phase.Taken inode) = refl
  land_in_agrees s f (phase.Scanning scan) = refl
  land_in_agrees s f phase.Finished = refl

  pub land_agrees : (s : State) (w : Whose) → IsMade trace s (by_flusher (where_flying (land_changes trace cpu)) w s) (land_by trace cpu w s)
  land_agrees s (whose.Flusher f) = land_in_agrees s f (flusher_of f s).phase
  land_agrees s (whose.Task task) = refl
