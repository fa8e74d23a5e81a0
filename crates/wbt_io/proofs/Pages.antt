-- What is told of pages over several calls, and where the faults of a disk go.
use Rattle.std.proofs.Common.{◌≡◌, ℕ, ◌+◌, ◌≤◌, Option, Some, None, IfSome, arith, refl}
use Rattle.wbt_io.specs.Faults.{HasRisen, more}
use Rattle.wbt_io.specs.Pages.{Grows}

-- where nothing was written the number stands
pub grows_none : (now : Option ℕ) → Grows (Some 0) now now
grows_none None = tt
grows_none (Some pages) = (0, pages, refl, refl, omega (arith))

-- what was written in two calls
pub grows_more : (first second : ℕ) (before between now : Option ℕ) → Grows (Some first) before between → Grows (Some second) between now → Grows (Some (first + second)) before now
grows_more first second before None None one two = tt
grows_more first second before (Some pages) None one two = tt
grows_more first second before None (Some total) one two = absurd (cc two.3)
grows_more first second before (Some pages) (Some total) one two =
    let first_is : first ≡ one.0 = cc one.2 in
    let second_is : second ≡ two.0 = cc two.2 in
    let between_is : pages ≡ two.1 = cc two.3 in
    (first + second, one.1, refl, one.3, omega (arith, first_is, second_is, between_is, one.4, two.4))

-- a disk that was lent and given back brings its rack the pages that were written meanwhile
pub given_back : (written : ℕ) (lent disk before now : Option ℕ) → IfSome lent (λ pages. pages ≡ 0) → Grows (Some written) lent disk → Grows disk before now → Grows (Some written) before now
given_back written lent disk before None new wrote gave = tt
given_back written lent None before (Some total) new wrote gave = absurd (cc gave.2)
given_back written None (Some pages) before (Some total) new wrote gave = absurd (cc wrote.3)
given_back written (Some first) (Some pages) before (Some total) new wrote gave =
    let written_is : written ≡ wrote.0 = cc wrote.2 in
    let first_is : first ≡ wrote.1 = cc wrote.3 in
    let pages_are : pages ≡ gave.0 = cc gave.2 in
    (written, gave.1, refl, gave.3, omega (arith, new, written_is, first_is, pages_are, wrote.4, gave.4))

-- a count that rose has risen from any earlier count to any later one
pub risen_within : (earlier before now later : ℕ) → earlier ≤ before → HasRisen before now → now ≤ later → HasRisen earlier later
risen_within earlier before now later from rose to = omega (arith, from, rose, to)

-- where the count of a disk that was lent rose, the count of the rack that takes it back rises
pub risen_by_disk : (disk before now : ℕ) → HasRisen 0 disk → now ≡ more disk before → HasRisen before now
risen_by_disk disk before now rose gave = omega (arith, rose, gave)
