-- The order of slots: of two pairs filed from one base, the one of the earlier slot is due earlier.
use Rattle.std.proofs.Common.{◌≡◌, ◌≢◌, ◌<◌, ◌≤◌, ◌+◌, ◌*◌, ◌/◌, ◌%◌, ◌⊎◌, ℕ, zero, suc, true, false, leb, eqb, sym, refl, ◌∙◌, inl, inr, ⊎_elim, arith}
use Rattle.std.proofs.lemmas.Bool.Decides.{eqb_tells, leb_tells, nat_tests}
use Rattle.wbt_expiry.specs.Slots.{slot, span, list_of, start_of}

-- ---- where a pair is filed

at_late : (b d : ℕ) → d < b → slot b d ≡ 256
unfolding slot
at_late b d low = grind (arith, nat_tests)

at_0 : (b d : ℕ) → b ≤ d → d / 64 ≡ b / 64 → slot b d ≡ d % 64
unfolding slot
at_0 b d low same = grind (arith, nat_tests)

at_1 : (b d : ℕ) → b ≤ d → b / 64 < d / 64 → d / 4096 ≡ b / 4096 → slot b d ≡ 64 + d / 64 % 64
unfolding slot
at_1 b d low above same = grind (arith, nat_tests)

at_2 : (b d : ℕ) → b ≤ d → b / 4096 < d / 4096 → d / 262144 ≡ b / 262144 → slot b d ≡ 128 + d / 4096 % 64
unfolding slot
at_2 b d low above same = grind (arith, nat_tests)

at_3 : (b d : ℕ) → b ≤ d → b / 262144 < d / 262144 → slot b d ≡ 192 + d / 262144 % 64
unfolding slot
at_3 b d low above = grind (arith, nat_tests)

abbrev InLate : (b d s : ℕ) → Type 0
InLate b d s = (d < b) × (s ≡ 256)

abbrev In0 : (b d s : ℕ) → Type 0
In0 b d s = (b ≤ d) × (d / 64 ≡ b / 64) × (s ≡ d % 64)

abbrev In1 : (b d s : ℕ) → Type 0
In1 b d s = (b ≤ d) × (b / 64 < d / 64) × (d / 4096 ≡ b / 4096) × (s ≡ 64 + d / 64 % 64)

abbrev In2 : (b d s : ℕ) → Type 0
In2 b d s = (b ≤ d) × (b / 4096 < d / 4096) × (d / 262144 ≡ b / 262144) × (s ≡ 128 + d / 4096 % 64)

abbrev In3 : (b d s : ℕ) → Type 0
In3 b d s = (b ≤ d) × (b / 262144 < d / 262144) × (s ≡ 192 + d / 262144 % 64)

abbrev InSome : (b d s : ℕ) → Type 0
InSome b d s = InLate b d s ⊎ (In0 b d s ⊎ (In1 b d s ⊎ (In2 b d s ⊎ In3 b d s)))

pub less_or : (m n : ℕ) → (m < n) ⊎ (n ≤ m)
less_or m n = ⊎_elim (λ (e : (leb n m ≡ true) × (n ≤ m)). inr e.1) (λ (e : (leb n m ≡ false) × (m < n)). inl e.1) (leb_tells n m)

in_some : (b d : ℕ) → InSome b d (slot b d)
in_some b d = ⊎_elim (λ (low : d < b). inl (low, at_late b d low))
    (λ (from : b ≤ d). inr (⊎_elim (λ (above : b / 64 < d / 64). inr (⊎_elim (λ (above1 : b / 4096 < d / 4096). inr (⊎_elim (λ (above2 : b / 262144 < d / 262144). inr (from, above2, at_3 b d from above2))
    (λ (same2 : d / 262144 ≤ b / 262144). inl (from, above1, omega arith, at_2 b d from above1 (omega arith)))
    (less_or (b / 262144) (d / 262144))))
    (λ (same1 : d / 4096 ≤ b / 4096). inl (from, above, omega arith, at_1 b d from above (omega arith)))
    (less_or (b / 4096) (d / 4096))))
    (λ (same : d / 64 ≤ b / 64). inl (from, omega arith, at_0 b d from (omega arith)))
    (less_or (b / 64) (d / 64))))
    (less_or d b)

late_of : (b d s : ℕ) → InSome b d s → s ≡ 256 → d < b
late_of b d s (inl l) is = l.0
late_of b d s (inr (inl l)) is = absurd (omega arith)
late_of b d s (inr (inr (inl l))) is = absurd (omega arith)
late_of b d s (inr (inr (inr (inl l)))) is = absurd (omega arith)
late_of b d s (inr (inr (inr (inr l)))) is = absurd (omega arith)

other_of : (b d s : ℕ) → InSome b d s → s ≢ 256 → (b ≤ d) × (s < 256)
other_of b d s (inl l) not = absurd (not l.1)
other_of b d s (inr (inl l)) not = (l.0, omega arith)
other_of b d s (inr (inr (inl l))) not = (l.0, omega arith)
other_of b d s (inr (inr (inr (inl l)))) not = (l.0, omega arith)
other_of b d s (inr (inr (inr (inr l)))) not = (l.0, omega arith)

-- A pair of the late list is due before the base, and any other pair isn't.
pub late_before_base : (b d : ℕ) → slot b d ≡ 256 → d < b
late_before_base b d is = late_of b d (slot b d) (in_some b d) is

pub other_from_base : (b d : ℕ) → slot b d ≢ 256 → (b ≤ d) × (slot b d < 256)
other_from_base b d not = other_of b d (slot b d) (in_some b d) not

pub slot_below : (b d : ℕ) → slot b d < 257
slot_below b d = ⊎_elim (λ (e : (eqb (slot b d) 256 ≡ true) × (slot b d ≡ 256)). let is : slot b d ≡ 256 = e.1 in omega arith)
    (λ (e : (eqb (slot b d) 256 ≡ false) × (slot b d ≢ 256)). let below = other_from_base b d e.1 in omega arith) (eqb_tells (slot b d) 256)

-- ---- levels

-- A moment is filed at a level.
abbrev pub AtLevel : (level b d : ℕ) → Type 0
AtLevel zero b d = (b ≤ d) × (d / 64 ≡ b / 64)
AtLevel (suc zero) b d = (b / 64 < d / 64) × (d / 4096 ≡ b / 4096)
AtLevel (suc (suc zero)) b d = (b / 4096 < d / 4096) × (d / 262144 ≡ b / 262144)
AtLevel (suc (suc (suc level))) b d = (b / 262144 < d / 262144) × (d / 262144 ≤ b / 262144 + 64)

-- A moment is filed at a higher level.
abbrev pub AboveLevel : (level b d : ℕ) → Type 0
AboveLevel zero b d = b / 64 < d / 64
AboveLevel (suc zero) b d = b / 4096 < d / 4096
AboveLevel (suc (suc zero)) b d = b / 262144 < d / 262144
AboveLevel (suc (suc (suc level))) b d = 1 ≤ 0

at_level_of : (level b d s : ℕ) → level < 4 → InSome b d s → d / 262144 ≤ b / 262144 + 64 → 64 * level ≤ s → s < 64 * level + 64 → AtLevel level b d × (s ≡ list_of level (d / span level))
at_level_of level b d s range (inl l) near low high = absurd (omega arith)
at_level_of zero b d s range (inr (inl l)) near low high = ((l.0, l.1), omega arith)
at_level_of (suc level) b d s range (inr (inl l)) near low high = absurd (omega arith)
at_level_of zero b d s range (inr (inr (inl l))) near low high = absurd (omega arith)
at_level_of (suc zero) b d s range (inr (inr (inl l))) near low high = ((l.1, l.2), l.3)
at_level_of (suc (suc level)) b d s range (inr (inr (inl l))) near low high = absurd (omega arith)
at_level_of zero b d s range (inr (inr (inr (inl l)))) near low high = absurd (omega arith)
at_level_of (suc zero) b d s range (inr (inr (inr (inl l)))) near low high = absurd (omega arith)
at_level_of (suc (suc zero)) b d s range (inr (inr (inr (inl l)))) near low high = ((l.1, l.2), l.3)
at_level_of (suc (suc (suc level))) b d s range (inr (inr (inr (inl l)))) near low high = absurd (omega arith)
at_level_of zero b d s range (inr (inr (inr (inr l)))) near low high = absurd (omega arith)
at_level_of (suc zero) b d s range (inr (inr (inr (inr l)))) near low high = absurd (omega arith)
at_level_of (suc (suc zero)) b d s range (inr (inr (inr (inr l)))) near low high = absurd (omega arith)
at_level_of (suc (suc (suc zero))) b d s range (inr (inr (inr (inr l)))) near low high = ((l.1, near), l.2)
at_level_of (suc (suc (suc (suc level)))) b d s range (inr (inr (inr (inr l)))) near low high = absurd (omega arith)

above_level_of : (level b d s : ℕ) → level < 4 → InSome b d s → 64 * level + 64 ≤ s → s < 256 → AboveLevel level b d
above_level_of level b d s range (inl l) low high = absurd (omega arith)
above_level_of level b d s range (inr (inl l)) low high = absurd (omega arith)
above_level_of zero b d s range (inr (inr (inl l))) low high = l.1
above_level_of (suc level) b d s range (inr (inr (inl l))) low high = absurd (omega arith)
above_level_of zero b d s range (inr (inr (inr (inl l)))) low high = omega arith
above_level_of (suc zero) b d s range (inr (inr (inr (inl l)))) low high = l.1
above_level_of (suc (suc level)) b d s range (inr (inr (inr (inl l)))) low high = absurd (omega arith)
above_level_of zero b d s range (inr (inr (inr (inr l)))) low high = omega arith
above_level_of (suc zero) b d s range (inr (inr (inr (inr l)))) low high = omega arith
above_level_of (suc (suc zero)) b d s range (inr (inr (inr (inr l)))) low high = omega arith
above_level_of (suc (suc (suc level))) b d s range (inr (inr (inr (inr l)))) low high = omega arith

pub at_level : (level b d : ℕ) → level < 4 → d / 262144 ≤ b / 262144 + 64 → 64 * level ≤ slot b d → slot b d < 64 * level + 64 → AtLevel level b d × (slot b d ≡ list_of level (d / span level))
at_level level b d range near low high = at_level_of level b d (slot b d) range (in_some b d) near low high

pub above_level : (level b d : ℕ) → level < 4 → 64 * level + 64 ≤ slot b d → slot b d < 256 → AboveLevel level b d
above_level level b d range low high = above_level_of level b d (slot b d) range (in_some b d) low high

-- The pairs of a level are in 64 slots from there on.
pub in_window : (level b d : ℕ) → level < 4 → AtLevel level b d → (start_of level b ≤ d / span level) × (d / span level < start_of level b + 64)
in_window zero b d range at = (omega arith, omega arith)
in_window (suc zero) b d range at = (omega arith, omega arith)
in_window (suc (suc zero)) b d range at = (omega arith, omega arith)
in_window (suc (suc (suc zero))) b d range at = (omega arith, omega arith)
in_window (suc (suc (suc (suc level)))) b d range at = absurd (omega arith)

-- ---- the order of slots

-- A slot's pairs are due from its first moment on.
pub opens : (level p d : ℕ) → level < 4 → p ≤ d / span level → p * span level ≤ d
opens zero p d range from = omega arith
opens (suc zero) p d range from = omega arith
opens (suc (suc zero)) p d range from = omega arith
opens (suc (suc (suc zero))) p d range from = omega arith
opens (suc (suc (suc (suc level)))) p d range from = absurd (omega arith)

-- A slot's pairs are due before the next one's first moment.
pub closes : (level p d : ℕ) → level < 4 → d / span level ≡ p → d < (p + 1) * span level
closes zero p d range is = omega arith
closes (suc zero) p d range is = omega arith
closes (suc (suc zero)) p d range is = omega arith
closes (suc (suc (suc zero))) p d range is = omega arith
closes (suc (suc (suc (suc level)))) p d range is = absurd (omega arith)

pub within : (level p d : ℕ) → level < 4 → p * span level ≤ d → d < (p + 1) * span level → d / span level ≡ p
within zero p d range from to = omega arith
within (suc zero) p d range from to = omega arith
within (suc (suc zero)) p d range from to = omega arith
within (suc (suc (suc zero))) p d range from to = omega arith
within (suc (suc (suc (suc level)))) p d range from to = absurd (omega arith)

-- Pairs of a higher level are due later.
pub higher_later : (level b d e : ℕ) → level < 4 → AtLevel level b d → AboveLevel level b e → d / span level + 1 ≤ e / span level
higher_later zero b d e range at above = omega arith
higher_later (suc zero) b d e range at above = omega arith
higher_later (suc (suc zero)) b d e range at above = omega arith
higher_later (suc (suc (suc zero))) b d e range at above = absurd (omega arith)
higher_later (suc (suc (suc (suc level)))) b d e range at above = absurd (omega arith)

-- ---- a new base in the first slot that isn't empty

-- What is later in the level stays where it is.
pub stays_at : (level b n d e : ℕ) → 0 < level → level < 4 → AtLevel level b d → n / span level ≡ d / span level → AtLevel level b e → d / span level < e / span level → slot n e ≡ slot b e
stays_at zero b n d e some range at is other later = absurd (omega arith)
stays_at (suc zero) b n d e some range at is other later = at_1 n e (omega arith) (omega arith) (omega arith) ∙ sym (at_1 b e (omega arith) (omega arith) (omega arith))
stays_at (suc (suc zero)) b n d e some range at is other later = at_2 n e (omega arith) (omega arith) (omega arith) ∙ sym (at_2 b e (omega arith) (omega arith) (omega arith))
stays_at (suc (suc (suc zero))) b n d e some range at is other later = at_3 n e (omega arith) (omega arith) ∙ sym (at_3 b e (omega arith) (omega arith))
stays_at (suc (suc (suc (suc level)))) b n d e some range at is other later = absurd (omega arith)

-- What is in a higher level stays where it is.
stays_above_in : (level b n d e s : ℕ) → 0 < level → level < 4 → AtLevel level b d → n / span level ≡ d / span level → AboveLevel level b e → InSome b e s → slot n e ≡ s
stays_above_in zero b n d e s some range at is above place = absurd (omega arith)
stays_above_in (suc zero) b n d e s some range at is above (inl l) = absurd (omega arith)
stays_above_in (suc zero) b n d e s some range at is above (inr (inl l)) = absurd (omega arith)
stays_above_in (suc zero) b n d e s some range at is above (inr (inr (inl l))) = absurd (omega arith)
stays_above_in (suc zero) b n d e s some range at is above (inr (inr (inr (inl l)))) = at_2 n e (omega arith) (omega arith) (omega arith) ∙ sym l.3
stays_above_in (suc zero) b n d e s some range at is above (inr (inr (inr (inr l)))) = at_3 n e (omega arith) (omega arith) ∙ sym l.2
stays_above_in (suc (suc zero)) b n d e s some range at is above (inl l) = absurd (omega arith)
stays_above_in (suc (suc zero)) b n d e s some range at is above (inr (inl l)) = absurd (omega arith)
stays_above_in (suc (suc zero)) b n d e s some range at is above (inr (inr (inl l))) = absurd (omega arith)
stays_above_in (suc (suc zero)) b n d e s some range at is above (inr (inr (inr (inl l)))) = absurd (omega arith)
stays_above_in (suc (suc zero)) b n d e s some range at is above (inr (inr (inr (inr l)))) = at_3 n e (omega arith) (omega arith) ∙ sym l.2
stays_above_in (suc (suc (suc zero))) b n d e s some range at is above place = absurd (omega arith)
stays_above_in (suc (suc (suc (suc level)))) b n d e s some range at is above place = absurd (omega arith)

pub stays_above : (level b n d e : ℕ) → 0 < level → level < 4 → AtLevel level b d → n / span level ≡ d / span level → AboveLevel level b e → slot n e ≡ slot b e
stays_above level b n d e some range at is above = stays_above_in level b n d e (slot b e) some range at is above (in_some b e)

-- What was in the slot comes into a lower level.
lower_in : (level n e s : ℕ) → 0 < level → level < 4 → n ≤ e → n / span level ≡ e / span level → InSome n e s → s < 64 * level
lower_in zero n e s some range from is place = absurd (omega arith)
lower_in (suc level) n e s some range from is (inl l) = absurd (omega arith)
lower_in (suc level) n e s some range from is (inr (inl l)) = omega arith
lower_in (suc zero) n e s some range from is (inr (inr (inl l))) = absurd (omega arith)
lower_in (suc (suc level)) n e s some range from is (inr (inr (inl l))) = omega arith
lower_in (suc zero) n e s some range from is (inr (inr (inr (inl l)))) = absurd (omega arith)
lower_in (suc (suc zero)) n e s some range from is (inr (inr (inr (inl l)))) = absurd (omega arith)
lower_in (suc (suc (suc level))) n e s some range from is (inr (inr (inr (inl l)))) = omega arith
lower_in (suc zero) n e s some range from is (inr (inr (inr (inr l)))) = absurd (omega arith)
lower_in (suc (suc zero)) n e s some range from is (inr (inr (inr (inr l)))) = absurd (omega arith)
lower_in (suc (suc (suc zero))) n e s some range from is (inr (inr (inr (inr l)))) = absurd (omega arith)
lower_in (suc (suc (suc (suc level)))) n e s some range from is (inr (inr (inr (inr l)))) = absurd (omega arith)

pub lower : (level n e : ℕ) → 0 < level → level < 4 → n ≤ e → n / span level ≡ e / span level → slot n e < 64 * level
lower level n e some range from is = lower_in level n e (slot n e) some range from is (in_some n e)

-- A slot's first moment is in it.
pub opens_in : (level p : ℕ) → level < 4 → p * span level / span level ≡ p
opens_in zero p range = omega arith
opens_in (suc zero) p range = omega arith
opens_in (suc (suc zero)) p range = omega arith
opens_in (suc (suc (suc zero))) p range = omega arith
opens_in (suc (suc (suc (suc level)))) p range = absurd (omega arith)

-- The new base isn't before the old one.
pub new_base : (level b n d : ℕ) → 0 < level → level < 4 → AtLevel level b d → n / span level ≡ d / span level → b ≤ n
new_base zero b n d some range at is = absurd (omega arith)
new_base (suc zero) b n d some range at is = omega arith
new_base (suc (suc zero)) b n d some range at is = omega arith
new_base (suc (suc (suc zero))) b n d some range at is = omega arith
new_base (suc (suc (suc (suc level)))) b n d some range at is = absurd (omega arith)

-- Two slots of a level's window are the same list only where they are the same slot.
pub same_slot : (level start p q : ℕ) → list_of level p ≡ list_of level q → start ≤ p → p < start + 64 → start ≤ q → q < start + 64 → p ≡ q
same_slot level start p q is p_from p_to q_from q_to = omega arith

pub span_positive : (level : ℕ) → level < 4 → 0 < span level
span_positive zero range = omega arith
span_positive (suc zero) range = omega arith
span_positive (suc (suc zero)) range = omega arith
span_positive (suc (suc (suc zero))) range = omega arith
span_positive (suc (suc (suc (suc level)))) range = absurd (omega arith)

pub start_of_higher : (level b : ℕ) → level ≢ 0 → start_of level b ≡ b / span level + 1
start_of_higher zero b some = absurd (some refl)
start_of_higher (suc level) b some = refl
