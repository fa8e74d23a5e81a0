-- A throttle in which thirty-two pages share a word.
use Rattle.std.specs.Prelude.{◌≡◌, ℕ, true, false, List, [], ◌∷◌, ◌++◌}
use Rattle.wbt_book.specs.Book.{Bits, given_back}
use Rattle.wbt_book.specs.PageWords.{bits_at, shared_word}
use Rattle.wbt_grant.specs.Setting.{Setting, IsSetting}
use Rattle.wbt_grant.specs.State.{State, opening}
use Rattle.wbt_grant.specs.Kinds.{Step, dirty, look, claim, back, run, AreAllowed}
use Rattle.wbt_grant.specs.Example.{small, one_page}

-- the throttle with its pages in shared words
abbrev pub sharing : (set : Setting) → Setting
sharing set = record set {
  coding = record set.coding { page_word = shared_word; page_bits = bits_at };
}

-- it is one where the other is, since each word holds its pages
abbrev pub SharingIsSetting : Type 0
SharingIsSetting = (set : Setting) → IsSetting set → IsSetting (sharing set)

-- between a look at the page 0 and its claim another page is dirtied
abbrev pub claim_beside : (page : ℕ) → List Step
claim_beside page = one_page 0 ++ look 1 0 ∷ dirty 0 page ∷ claim 1 0 ∷ []

-- and the state after that
abbrev pub after_claim_beside : (set : Setting) (page : ℕ) → State
after_claim_beside set page = run set (claim_beside page) (opening set)

-- a page whose claim missed, and one whose claim hit
abbrev pub still_dirty : Bits
still_dirty = record { dirty = true; writeback = false }

-- the same page where its claim hit
abbrev pub under_writeback : Bits
under_writeback = record { dirty = false; writeback = true }

-- where the other page shares the word, the claim misses though its page is as it was; where it stands in the next word, or
-- each page has a word of its own, it hits
pub record NeighboursMakeClaimsMiss : Type 0 where
  pub may_be_made : AreAllowed (sharing small) (claim_beside 30) (opening (sharing small))
  pub misses : (after_claim_beside (sharing small) 30).book 0 ≡ still_dirty
  pub holds_nothing : ((after_claim_beside (sharing small) 30).cpu 1).held ≡ []
  pub may_be_made_too : AreAllowed (sharing small) (claim_beside 32) (opening (sharing small))
  pub hits_beside_the_next_word : (after_claim_beside (sharing small) 32).book 0 ≡ under_writeback
  pub hits_in_a_word_of_its_own : (after_claim_beside small 30).book 0 ≡ under_writeback

-- the claim hits, and between a look at the page 0 and its giving back another page is dirtied
abbrev pub back_beside : (page : ℕ) → List Step
back_beside page = one_page 0 ++ look 1 0 ∷ claim 1 0 ∷ look 1 0 ∷ dirty 0 page ∷ back 1 0 ∷ []

-- the state after that, with its pages in shared words or not
abbrev pub after_back_beside : (set : Setting) (page : ℕ) → State
after_back_beside set page = run set (back_beside page) (opening set)

-- so it is with giving a page back: where it misses, the CPU holds the page still, and has made no page step
pub record NeighboursMakeGivingBackMiss : Type 0 where
  pub may_be_made : AreAllowed (sharing small) (back_beside 30) (opening (sharing small))
  pub misses : (after_back_beside (sharing small) 30).book 0 ≡ under_writeback
  pub holds_it_still : ((after_back_beside (sharing small) 30).cpu 1).held ≡ 0 ∷ []
  pub no_page_step : ((after_back_beside (sharing small) 30).cpu 1).page_steps ≡ 0
  pub may_be_made_too : AreAllowed (sharing small) (back_beside 32) (opening (sharing small))
  pub hits_beside_the_next_word : (after_back_beside (sharing small) 32).book 0 ≡ given_back
  pub hits_in_a_word_of_its_own : (after_back_beside small 30).book 0 ≡ given_back
