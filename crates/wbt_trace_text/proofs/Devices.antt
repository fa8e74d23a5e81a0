-- Devices, and which of them are strict.
use Rattle.std.proofs.Common.{◌≡◌, ℕ, zero, suc, true, false, Some, None, List, [], ◌∷◌, ◌++◌, length, refl, sym, ◌∙◌, ap, arith}
use Rattle.std.proofs.lemmas.List.Sums.{sum_by-cons}
use Rattle.wbt_trace.specs.Sofar.{least_shares, device_at, with_strict, with_chunk, with_cyclic}
use Rattle.wbt_trace.specs.declared.trace.Device.{Device}

pub same_length : (d : ℕ) (devices : List Device) → length (with_strict d devices) ≡ length devices
same_length d [] = refl
same_length zero (x ∷ xs) = refl
same_length (suc d) (x ∷ xs) = ap suc (same_length d xs)

pub same_shares : (d : ℕ) (devices : List Device) → least_shares (with_strict d devices) ≡ least_shares devices
same_shares d [] = refl
same_shares zero (x ∷ xs) =
    let of = λ (y : Device). y.min in sum_by-cons of (record x { strict = true }) xs ∙ sym (sum_by-cons of x xs)
same_shares (suc d) (x ∷ xs) =
    let of = λ (y : Device). y.min in omega (arith, sum_by-cons of x (with_strict d xs), sum_by-cons of x xs, same_shares d xs)

pub chunk_length : (d pages : ℕ) (devices : List Device) → length (with_chunk d pages devices) ≡ length devices
chunk_length d pages [] = refl
chunk_length zero pages (x ∷ xs) = refl
chunk_length (suc d) pages (x ∷ xs) = ap suc (chunk_length d pages xs)

pub chunk_shares : (d pages : ℕ) (devices : List Device) → least_shares (with_chunk d pages devices) ≡ least_shares devices
chunk_shares d pages [] = refl
chunk_shares zero pages (x ∷ xs) =
    let of = λ (y : Device). y.min in sum_by-cons of (record x { chunk = Some pages }) xs ∙ sym (sum_by-cons of x xs)
chunk_shares (suc d) pages (x ∷ xs) =
    let of = λ (y : Device). y.min in omega (arith, sum_by-cons of x (with_chunk d pages xs), sum_by-cons of x xs, chunk_shares d pages xs)

pub cyclic_length : (d : ℕ) (devices : List Device) → length (with_cyclic d devices) ≡ length devices
cyclic_length d [] = refl
cyclic_length zero (x ∷ xs) = refl
cyclic_length (suc d) (x ∷ xs) = ap suc (cyclic_length d xs)

pub cyclic_shares : (d : ℕ) (devices : List Device) → least_shares (with_cyclic d devices) ≡ least_shares devices
cyclic_shares d [] = refl
cyclic_shares zero (x ∷ xs) =
    let of = λ (y : Device). y.min in sum_by-cons of (record x { cyclic = true }) xs ∙ sym (sum_by-cons of x xs)
cyclic_shares (suc d) (x ∷ xs) =
    let of = λ (y : Device). y.min in omega (arith, sum_by-cons of x (with_cyclic d xs), sum_by-cons of x xs, cyclic_shares d xs)

-- a device as its own line says it, as that and its strict line say it, and as these and its chunk's line say it
abbrev pub plain : Device → Device
plain d = record d { strict = false; chunk = None; cyclic = false }

abbrev pub unchunked : Device → Device
unchunked d = record d { chunk = None; cyclic = false }

abbrev pub straight : Device → Device
straight d = record d { cyclic = false }

pub plain_is : (x : Device) → x.strict ≡ false → plain x ≡ unchunked x
plain_is x is = λ i. record x { strict = sym is i; chunk = None; cyclic = false }

pub unchunked_is : (x : Device) → x.chunk ≡ None → unchunked x ≡ straight x
unchunked_is x is = λ i. record x { chunk = sym is i; cyclic = false }

pub straight_is : (x : Device) → x.cyclic ≡ false → straight x ≡ x
straight_is x is = λ i. record x { cyclic = sym is i }

pub at_front : (front : List Device) (x : Device) (more : List Device) → device_at (length front) (front ++ x ∷ more) ≡ x
at_front [] x more = refl
at_front (y ∷ front) x more = at_front front x more

-- its strict line makes it what it was
pub made_strict : (front : List Device) (x : Device) (more : List Device) → x.strict ≡ true → with_strict (length front) (front ++ plain x ∷ more) ≡ front ++ unchunked x ∷ more
made_strict [] x more is = λ i. record x { strict = sym is i; chunk = None; cyclic = false } ∷ more
made_strict (y ∷ front) x more is = ap (λ (l : List Device). y ∷ l) (made_strict front x more is)

-- and its chunk's line
pub made_chunk : (front : List Device) (x : Device) (more : List Device) (pages : ℕ) → x.chunk ≡ Some pages → with_chunk (length front) pages (front ++ unchunked x ∷ more) ≡ front ++ straight x ∷ more
made_chunk [] x more pages is = λ i. record x { chunk = sym is i; cyclic = false } ∷ more
made_chunk (y ∷ front) x more pages is = ap (λ (l : List Device). y ∷ l) (made_chunk front x more pages is)

-- and its cyclic line
pub made_cyclic : (front : List Device) (x : Device) (more : List Device) → x.cyclic ≡ true → with_cyclic (length front) (front ++ straight x ∷ more) ≡ front ++ x ∷ more
made_cyclic [] x more is = λ i. record x { cyclic = sym is i } ∷ more
made_cyclic (y ∷ front) x more is = ap (λ (l : List Device). y ∷ l) (made_cyclic front x more is)
