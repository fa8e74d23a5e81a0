-- What a throttle is made for is a setting of the step relation, and its first words show the opening.
use Rattle.std.proofs.Common.{◌≡◌, ℕ, zero, suc, ◌+◌, ◌*◌, ◌-◌, ◌<◌, ◌≤◌, eqb, true≢false, nat_lt, false, List, [], ◌∷◌, ◌++◌, All, length, get_or, replicate, map, pos, sym, refl, ap, ◌∙◌, arith, ⊎_elim, length-append}
use Rattle.std.proofs.lemmas.Bool.{cond_both}
use Rattle.std.proofs.lemmas.List.{length-replicate, length-map, get_or_append_left, get_or-append_right, get_or-replicate, get_or-map}
use Rattle.wbt_table.proofs.Common.{Limits, IsLawful, thresh_word_of, packed, own_word, IsSetting, FitsWords, opening, pages_in, inode_at, no_place, no_writer, no_limits, setting, domains, counters, stride, width, page_at, mark_at, shared_at, own_at, sequence_at, thresh_at, peak_at, first_sequence_word, IsLayout, Shows}
use Rattle.wbt_limits.proofs.Rising.{sequence_in-word, limits_in-words}
use Rattle.wbt_book.specs.Book.{clean}
use Rattle.wbt_book.specs.PageWords.{packed_pages}
use Rattle.wbt_book.proofs.PageWords.{word_holds_page}
use Rattle.wbt_table.specs.declared.layout.Layout.{Layout}
use Rattle.wbt_table.specs.declared.layout.Place.{Place}
use Rattle.wbt_table.specs.declared.words.TheConstants.{SPARE_WORDS}
use Rattle.wbt_table.specs.Layout.{shared_from, opening_words, AreInOrder}
use Rattle.wbt_table.proofs.Places.{page_inside, shared_inside, own_inside}
use Rattle.std.proofs.lemmas.Bool.{cases_lt}
use borrow.Author.Tests.{lt-ltb}

-- each page's context is one that inodes have
home_inside : (inodes : List Place) (from p k : ℕ) → AreInOrder from inodes → All (λ (place : Place). place.context < k) inodes → from ≤ p
    → p < from + pages_in inodes → (get_or inodes (inode_at p inodes) no_place).context < k
home_inside [] from p k order all low high = absurd (omega arith)
home_inside (x ∷ xs) from p k order all low high = cond_both (nat_lt p (x.first + x.pages)) 0 (suc (inode_at p xs))
    (λ (i : ℕ). (get_or (x ∷ xs) i no_place).context < k)
    (λ t. all 0 no_place (omega arith))
    (λ t. let is = order.0 in
    home_inside xs (from + x.pages) p k order.1 (λ i d l. all (suc i) d (omega arith))
    (⊎_elim (λ less. absurd (let e = lt-ltb p (x.first + x.pages) less in cc)) (λ more. omega arith) (cases_lt p (x.first + x.pages))) (omega arith))

pub lawful_at : (firsts : List Limits) (d : ℕ) → All IsLawful firsts → IsLawful (get_or firsts d no_limits)
lawful_at [] d all = record { bg_below_thresh = omega arith; thresh_below_hard = omega arith; hard_in_range = omega arith }
lawful_at (x ∷ xs) zero all = all 0 x (omega arith)
lawful_at (x ∷ xs) (suc d) all = lawful_at xs d (λ i e l. all (suc i) e (omega arith))

pub lawful_setting : (key : Layout) → IsLayout key → IsSetting (setting key)
lawful_setting key ok = record {
  some_cpu = ok.some_cpu;
  few_cpus = ok.few_cpus;
  some_cap = ok.some_cap;
  last_even = omega arith;
  few_pages = ok.few_pages;
  homes = λ p l. home_inside key.inodes 0 p (length key.contexts) ok.inodes_in_order ok.inodes_in_contexts (omega arith) (omega arith);
  seats = λ w l. ok.writers_on_cpus w no_writer l;
  firsts_lawful = λ d. lawful_at key.firsts d ok.firsts_lawful;
  words_hold = λ book p l. word_holds_page book p;
  sequences_hold = sequence_in-word;
  limits_hold = limits_in-words;
  unseal_adds = λ sequence hard. omega arith;
}

-- the words count all steps that are made
pub words_fit : (key : Layout) → IsLayout key → FitsWords (setting key)
words_fit key ok = record { few_page_steps = ok.few_page_steps; few_sequences = omega arith }

clean_word : (n : ℕ) → packed_pages n (λ j. clean) ≡ 0
unfolding packed_pages
clean_word zero = refl
clean_word (suc n) = let rest = clean_word n in omega arith

-- words in seven pieces
module _ (a b c v w z : ℕ) (xs ts ys : List ℕ) where
  abbrev two : List ℕ
  two = replicate a 0 ++ replicate b v

  abbrev three : List ℕ
  three = two ++ replicate c w

  abbrev four : List ℕ
  four = three ++ xs

  abbrev five : List ℕ
  five = four ++ ts

  abbrev six : List ℕ
  six = five ++ ys

  abbrev pieces : List ℕ
  pieces = six ++ replicate z 0

  long_two : length two ≡ a + b
  long_two = length-append (replicate a 0) (replicate b v) ∙ (λ i. length-replicate {A = ℕ} a 0 i + length-replicate b v i)

  long_three : length three ≡ a + b + c
  long_three = length-append two (replicate c w) ∙ (λ i. long_two i + length-replicate c w i)

  long_four : length four ≡ a + b + c + length xs
  long_four = length-append three xs ∙ ap (λ (n : ℕ). n + length xs) long_three

  long_five : length five ≡ a + b + c + length xs + length ts
  long_five = length-append four ts ∙ ap (λ (n : ℕ). n + length ts) long_four

  long_six : length six ≡ a + b + c + length xs + length ts + length ys
  long_six = length-append five ys ∙ ap (λ (n : ℕ). n + length ys) long_five

  all_pieces : length pieces ≡ a + b + c + length xs + length ts + length ys + z
  all_pieces = length-append six (replicate z 0) ∙ (λ i. long_six i + length-replicate {A = ℕ} z 0 i)

  from_six : (k : ℕ) → k < a + b + c + length xs + length ts + length ys → get_or pieces k 0 ≡ get_or six k 0
  from_six k l = let n = long_six in get_or_append_left six (replicate z 0) 0 k (omega arith)

  from_five : (k : ℕ) → k < a + b + c + length xs + length ts → get_or pieces k 0 ≡ get_or five k 0
  from_five k l = let n = long_five in from_six k (omega arith) ∙ get_or_append_left five ys 0 k (omega arith)

  from_four : (k : ℕ) → k < a + b + c + length xs → get_or pieces k 0 ≡ get_or four k 0
  from_four k l = let n = long_four in from_five k (omega arith) ∙ get_or_append_left four ts 0 k (omega arith)

  from_three : (k : ℕ) → k < a + b + c → get_or pieces k 0 ≡ get_or three k 0
  from_three k l = let n = long_three in from_four k (omega arith) ∙ get_or_append_left three xs 0 k (omega arith)

  from_two : (k : ℕ) → k < a + b → get_or pieces k 0 ≡ get_or two k 0
  from_two k l = let n = long_two in from_three k (omega arith) ∙ get_or_append_left two (replicate c w) 0 k (omega arith)

  in_first : (k : ℕ) → k < a → get_or pieces k 0 ≡ 0
  in_first k l = let n = length-replicate {A = ℕ} a 0 in
      from_two k (omega arith) ∙ get_or_append_left (replicate a 0) (replicate b v) 0 k (omega arith) ∙ get_or-replicate a k 0 0 (omega arith)

  in_second : (k : ℕ) → a ≤ k → k < a + b → get_or pieces k 0 ≡ v
  in_second k m l = let n = length-replicate b v in
      from_two k l ∙ get_or-append_right (replicate a 0) (replicate b v) a k 0 (length-replicate {A = ℕ} a 0) m ∙ get_or-replicate b (k - a) v 0 (omega arith)

  in_third : (k : ℕ) → a + b ≤ k → k < a + b + c → get_or pieces k 0 ≡ w
  in_third k m l = let n = length-replicate c w in
      from_three k l ∙ get_or-append_right two (replicate c w) (a + b) k 0 long_two m ∙ get_or-replicate c (k - (a + b)) w 0 (omega arith)

  in_fourth : (k d : ℕ) → k ≡ a + b + c + d → d < length xs → get_or pieces k 0 ≡ get_or xs d 0
  in_fourth k d e l = from_four k (omega arith) ∙ get_or-append_right three xs (a + b + c) k 0 long_three (omega arith)
      ∙ ap (λ (i : ℕ). get_or xs i 0) (omega arith)

  in_fifth : (k d : ℕ) → k ≡ a + b + c + length xs + d → d < length ts → get_or pieces k 0 ≡ get_or ts d 0
  in_fifth k d e l = from_five k (omega arith) ∙ get_or-append_right four ts (a + b + c + length xs) k 0 long_four (omega arith)
      ∙ ap (λ (i : ℕ). get_or ts i 0) (omega arith)

  in_sixth : (k d : ℕ) → k ≡ a + b + c + length xs + length ts + d → d < length ys → get_or pieces k 0 ≡ get_or ys d 0
  in_sixth k d e l = from_six k (omega arith) ∙ get_or-append_right five ys (a + b + c + length xs + length ts) k 0 long_five (omega arith)
      ∙ ap (λ (i : ℕ). get_or ys i 0) (omega arith)

pub long_opening : (key : Layout) → length (opening_words key) ≡ width key
long_opening key =
    let all = all_pieces (shared_from key) (counters key + SPARE_WORDS) (key.cpus * stride key) (packed 0 (pos 0)) (own_word (pos 0)) SPARE_WORDS (map first_sequence_word key.firsts) (map thresh_word_of key.firsts) (map (λ (l : Limits). l.hard) key.firsts) in
    let n = length-map key.firsts first_sequence_word in let t = length-map key.firsts thresh_word_of in let m = length-map key.firsts (λ (l : Limits). l.hard) in all ∙ omega arith

pub opening_shown : (key : Layout) → IsLayout key → Shows key (opening_words key) (opening (setting key))
opening_shown key ok =
    let a : ℕ = shared_from key in
    let b : ℕ = counters key + SPARE_WORDS in
    let c : ℕ = key.cpus * stride key in
    let z : ℕ = SPARE_WORDS in
    let v : ℕ = packed 0 (pos 0) in
    let w : ℕ = own_word (pos 0) in
    let xs : List ℕ = map first_sequence_word key.firsts in
    let ts : List ℕ = map thresh_word_of key.firsts in
    let ys : List ℕ = map (λ (l : Limits). l.hard) key.firsts in
    let n : length xs ≡ domains key = length-map key.firsts first_sequence_word in
    let t : length ts ≡ domains key = length-map key.firsts thresh_word_of in
    let m : length ys ≡ domains key = length-map key.firsts (λ (l : Limits). l.hard) in
    let words : List ℕ = opening_words key in record {
      first = in_first a b c v w z xs ts ys 0 (omega arith);
      pages = record {
        each = λ p l. let inside = page_inside key p (lawful_setting key ok) l in in_first a b c v w z xs ts ys (page_at p) (omega arith) ∙ sym (clean_word 32);
      };
      marks = record { each = λ i l. in_first a b c v w z xs ts ys (mark_at key i) (omega arith) };
      shared = record { each = λ x h. let inside = shared_inside key x h in in_second a b c v w z xs ts ys (shared_at key x) (omega arith) (omega arith) };
      own = record { each = λ x i h l. let inside = own_inside key x i h l in in_third a b c v w z xs ts ys (own_at key x i) (omega arith) (omega arith) };
      limits = record {
        sequence_words = λ d l. in_fourth a b c v w z xs ts ys (sequence_at key d) d (omega arith) (omega arith) ∙ get_or-map first_sequence_word key.firsts d no_limits 0 l;
        thresh_words = λ d l. in_fifth a b c v w z xs ts ys (thresh_at key d) d (omega arith) (omega arith) ∙ get_or-map thresh_word_of key.firsts d no_limits 0 l;
      };
      peaks = record {
        each = λ d l. in_sixth a b c v w z xs ts ys (peak_at key d) d (omega arith) (omega arith) ∙ get_or-map (λ (limits : Limits). limits.hard) key.firsts d no_limits 0 l;
      };
    }

-- the last inode ends where all pages do
pub last_end : (inodes : List Place) (from i : ℕ) (d : Place) → AreInOrder from inodes → length inodes ≡ suc i
    → (get_or inodes i d).first + (get_or inodes i d).pages ≡ from + pages_in inodes
last_end [] from i d order long = absurd (omega arith)
last_end (x ∷ []) from zero d order long = let is = order.0 in omega arith
last_end (x ∷ []) from (suc i) d order long = absurd (omega arith)
last_end (x ∷ y ∷ more) from zero d order long = absurd (omega arith)
last_end (x ∷ y ∷ more) from (suc i) d order long = let rest = last_end (y ∷ more) (from + x.pages) i d order.1 (omega arith) in omega arith

pub some_length : (inodes : List Place) → eqb (length inodes) 0 ≡ false → length inodes ≡ suc (length inodes - 1)
some_length [] e = absurd (true≢false e)
some_length (x ∷ more) e = omega arith
