-- The lists of flushers at the opening: there is one where a device is ageing, and no inode waits.
use Rattle.std.proofs.Common.{◌≡◌, ℕ, true, [], is_some, unwrap_or, Option, None, refl}
use Rattle.wbt_expiry.specs.Waiting.{Waiting as Wheel}
use Rattle.wbt_replay_order.proofs.Common.{is_ageing, flusher_device, Trace, no_waiting, first_flusher, pairs_in, AreListed}
use Rattle.wbt_replay_order.proofs.Facts.Lists.{either}

pub first_empty : (trace : Trace) (f : ℕ) → pairs_in (first_flusher trace f) ≡ []
first_empty trace f = either (λ (wheel : Option Wheel). (unwrap_or wheel no_waiting).pairs ≡ []) (is_ageing trace (flusher_device trace f)) _ None (λ ages. refl) (λ other. refl)

pub first_listed : (trace : Trace) (f : ℕ) → AreListed trace f (pairs_in (first_flusher trace f))
first_listed trace f =
    either (λ (wheel : Option Wheel). AreListed trace f (unwrap_or wheel no_waiting).pairs) (is_ageing trace (flusher_device trace f)) _ None (λ ages. tt) (λ other. tt)

pub first_ageing : (trace : Trace) (f : ℕ) → is_some (first_flusher trace f).wheel ≡ true → is_ageing trace (flusher_device trace f) ≡ true
first_ageing trace f = either (λ (wheel : Option Wheel). is_some wheel ≡ true → is_ageing trace (flusher_device trace f) ≡ true) (is_ageing trace (flusher_device trace f)) _ None
    (λ ages some. ages) (λ other some. absurd (cc some))
