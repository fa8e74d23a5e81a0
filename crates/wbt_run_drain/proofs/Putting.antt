-- Which inodes the sweep puts into queues, one after another.
use Rattle.std.proofs.Common.{◌≡◌, ◌⊎◌, inl, inr, ⊎_elim, ℕ, suc, ◌+◌, [], ◌∷◌, ◌++◌, refl, sym, ap, ◌∙◌, subst, append_assoc, arith}
use Rattle.wbt_run_worker.proofs.Common.{Kit, Trace}
use Rattle.wbt_kit.proofs.Common.{HasPut, Held, size_of}
use Rattle.wbt_queue.specs.Passes.{Seats as Passes, known_of}
use Rattle.wbt_queue.specs.declared.known.Known.{Known}
use Rattle.wbt_rules.specs.Things.{device_of}
use Rattle.wbt_run_steps.specs.Queues.{PutsMore}
use Rattle.wbt_run_drain.specs.Swept.{IsNextPut, WasPut, WasPutTimes, WerePut}

module _ (kit : Kit) (device inode : ℕ) where
  -- it was put, or the queue was full, and then flushers put more
  pub next_put : (old mid new : Passes) → HasPut (known_of device old) inode (known_of device mid) ⊎ Held (size_of device kit.queues) (known_of device old)
      → PutsMore (known_of device mid) (known_of device new) → IsNextPut kit device inode old new
  next_put old mid new queued more = ⊎_elim
      (λ (put : HasPut (known_of device old) inode (known_of device mid)).
      inl (more.puts, more.after ∙ ap (λ (k : Known). k.own.puts ++ more.puts) put.0 ∙ append_assoc (known_of device old).own.puts (inode ∷ []) more.puts))
      (λ (full : Held (size_of device kit.queues) (known_of device old)). inr full) queued

  -- where nothing becomes of the queues
  pub put_still : (times : ℕ) (old mid new : Passes) → new ≡ mid → WasPutTimes times kit device inode old mid → WasPutTimes times kit device inode old new
  put_still times old mid new same were = subst (λ (pass : Passes). WasPutTimes times kit device inode old pass) (sym same) were

module _ (trace : Trace) (kit : Kit) (inode : ℕ) where
  pub not_put : (pass : Passes) → WasPut trace kit inode pass pass
  not_put pass = (0, refl)

  -- a look, which leaves the queues
  pub put_looked : (old mid new : Passes) → new ≡ mid → WasPut trace kit inode old mid → WasPut trace kit inode old new
  put_looked old mid new same were = (were.0, put_still kit (device_of trace inode) inode were.0 old mid new same were.1)

  -- it was marked, and put
  pub put_marked : (device : ℕ) → device ≡ device_of trace inode → (old mid new : Passes) → WasPut trace kit inode old mid → IsNextPut kit device inode mid new → WasPut trace kit inode old new
  put_marked device its old mid new were next =
      let once_more : WasPutTimes (suc were.0) kit (device_of trace inode) inode old new = (mid, were.1, subst (λ (d : ℕ). IsNextPut kit d inode mid new) its next) in
      (suc were.0, once_more)

  -- the next inode
  pub put_next : (old mid new : Passes) → WerePut inode trace kit old mid → WasPut trace kit inode mid new → WerePut (inode + 1) trace kit old new
  put_next old mid new were next =
      let next_one : suc inode ≡ inode + 1 = omega arith in
      let all : WerePut (suc inode) trace kit old new = (mid, were, next) in
      subst (λ (n : ℕ). WerePut n trace kit old new) next_one all
