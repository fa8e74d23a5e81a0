-- A throttle whose pages share words.
use Rattle.std.proofs.Common.{◌≡◌, ℕ, ◌<◌, refl}
use Rattle.wbt_num.specs.Arithmetic.{halvings, log2}
use Rattle.wbt_counter.specs.Batch.{domain_batch, context_batch}
use Rattle.wbt_book.specs.Book.{Book}
use Rattle.wbt_book.specs.PageWords.{bits_at, packed_pages, shared_word}
use Rattle.wbt_book.proofs.PageWords.{word_holds_page}
use Rattle.wbt_grant.specs.State.{opening}
use Rattle.wbt_grant.specs.Example.{small}
use Rattle.wbt_grant.specs.SharedWords.{sharing, SharingIsSetting, claim_beside, NeighboursMakeClaimsMiss, back_beside, NeighboursMakeGivingBackMiss}
use Rattle.wbt_grant.proofs.Tests.{tests_are_right}

pub sharing_is_setting : SharingIsSetting
sharing_is_setting set is =
    let hold : (book : Book) (p : ℕ) → p < set.pages → bits_at (shared_word book p) p ≡ book p = λ book p less. word_holds_page book p in
    assumption (is, hold)

pub neighbours_make_claims_miss : NeighboursMakeClaimsMiss
unfolding packed_pages domain_batch context_batch log2 halvings
neighbours_make_claims_miss = record {
  may_be_made = tests_are_right (sharing small) (claim_beside 30) (opening (sharing small)) refl;
  misses = refl;
  holds_nothing = refl;
  may_be_made_too = tests_are_right (sharing small) (claim_beside 32) (opening (sharing small)) refl;
  hits_beside_the_next_word = refl;
  hits_in_a_word_of_its_own = refl;
}

pub neighbours_make_giving_back_miss : NeighboursMakeGivingBackMiss
unfolding packed_pages domain_batch context_batch log2 halvings
neighbours_make_giving_back_miss = record {
  may_be_made = tests_are_right (sharing small) (back_beside 30) (opening (sharing small)) refl;
  misses = refl;
  holds_it_still = refl;
  no_page_step = refl;
  may_be_made_too = tests_are_right (sharing small) (back_beside 32) (opening (sharing small)) refl;
  hits_beside_the_next_word = refl;
  hits_in_a_word_of_its_own = refl;
}
