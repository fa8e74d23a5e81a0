-- How the flushers of a walk are those of its definition.
use Rattle.std.proofs.Common.{◌≡◌, ℕ, ◌+◌, ◌<◌, Bool, true, false, None, List, [], ◌∷◌, ◌++◌, length, get_or, map, take, drop, set, replicate, refl, sym, ap, ◌∙◌, arith}
use Rattle.std.proofs.lemmas.List.{drop_more, length-replicate}
use Rattle.std.proofs.lemmas.List.Edits.{map_over_more}
use Rattle.wbt_trace.specs.declared.trace.FlusherLine.{FlusherLine}
use Rattle.wbt_audit_walk.proofs.Common.{Trace, ToldFlusher, ToldPhase, new_flusher, first_flushers, flushers_after, Item, turn_fault, unless, Judges}
use Rattle.wbt_journal.specs.Flights.{flying, returning, is_landing, is_giving_back, landed, given_back}
use Rattle.wbt_audit_turns.specs.Flown.{is_leaving, left_batch}

-- ---- flushers that do nothing yet

pub all_new : (flushers : List ToldFlusher) (lines : List FlusherLine) → length flushers ≡ length lines
    → map (λ (_flusher : ToldFlusher). new_flusher) flushers ≡ first_flushers lines
all_new [] [] same = refl
all_new [] (line ∷ lines) same = absurd (omega arith)
all_new (flusher ∷ flushers) [] same = absurd (omega arith)
all_new (flusher ∷ flushers) (line ∷ lines) same = ap (λ (more : List ToldFlusher). new_flusher ∷ more) (all_new flushers lines (omega arith))

repeated : (lines : List FlusherLine) → replicate (length lines) new_flusher ≡ first_flushers lines
repeated [] = refl
repeated (line ∷ lines) = ap (λ (more : List ToldFlusher). new_flusher ∷ more) (repeated lines)

pub none_flown : (flushers : List ToldFlusher) (lines : List FlusherLine) → flushers ≡ replicate (length lines) new_flusher → flushers ≡ first_flushers lines
none_flown flushers lines are = are ∙ repeated lines

pub count_flown : (flushers : List ToldFlusher) (lines : List FlusherLine) → flushers ≡ replicate (length lines) new_flusher → length flushers ≡ length lines
count_flown flushers lines are = ap length are ∙ length-replicate {A = ToldFlusher} (length lines) new_flusher

pub placed_new : (xs ys : List ToldFlusher) (i : ℕ) (item new : ToldFlusher) → i < length xs
    → ys ≡ map (λ (_flusher : ToldFlusher). new_flusher) (take i xs) ++ drop i xs → item ≡ get_or ys i item → new ≡ new_flusher
    → set ys i new ≡ map (λ (_flusher : ToldFlusher). new_flusher) (take (i + 1) xs) ++ drop (i + 1) xs
placed_new xs ys i item new low are is made = ap (set ys i) made ∙ map_over_more (λ (_flusher : ToldFlusher). new_flusher) xs ys i item low are is

-- ---- a step

passed : (may : Bool) → unless may 0 ≡ None → may ≡ true
passed true none = refl
passed false none = cc

pub judged : (trace : Trace) (old new : List ToldFlusher) (item : Item) (may : Bool) → turn_fault trace old item ≡ unless may 0
    → (may ≡ true → new ≡ flushers_after trace old item)
    → Judges (turn_fault trace) (flushers_after trace) (λ (s : List ToldFlusher). s ≡ old) (λ (s : List ToldFlusher). s ≡ new) item (unless may 0)
judged trace old new item may fault moved = λ s same. record {
  answer = ap (λ (l : List ToldFlusher). turn_fault trace l item) same ∙ fault;
  goes_on = λ none. ap (λ (l : List ToldFlusher). flushers_after trace l item) same ∙ sym (moved (passed may none));
}

-- ---- a page leaves a batch

landing : (page : ℕ) (pages : List ℕ) → is_leaving page (flying pages) ≡ is_landing page (flying pages)
landing page [] = refl
landing page (next ∷ pages) = refl

giving : (page : ℕ) (pages : List ℕ) → is_leaving page (returning pages) ≡ is_giving_back page (returning pages)
giving page [] = refl
giving page (next ∷ pages) = refl

some_more : (pages : List ℕ) (done : ℕ) → done < length pages → drop done pages ≡ get_or pages done 0 ∷ drop (done + 1) pages
some_more pages done low = drop_more pages done 0 low

landed_is : (pages : List ℕ) (done : ℕ) → done < length pages → left_batch (flying (drop done pages)) ≡ landed (flying (drop done pages))
landed_is pages done low = rw (some_more pages done low)

given_is : (pages : List ℕ) (done : ℕ) → done < length pages → left_batch (returning (drop done pages)) ≡ given_back (returning (drop done pages))
given_is pages done low = rw (some_more pages done low)

-- the same of a flusher whose phase this is

pub lands : (p : ToldPhase) (page : ℕ) (pages : List ℕ) → p ≡ flying pages → is_leaving page p ≡ is_landing page p
lands p page pages is = rw is (landing page pages)

pub gives : (p : ToldPhase) (page : ℕ) (pages : List ℕ) → p ≡ returning pages → is_leaving page p ≡ is_giving_back page p
gives p page pages is = rw is (giving page pages)

pub lands_on : (p : ToldPhase) (pages : List ℕ) (done : ℕ) → p ≡ flying (drop done pages) → done < length pages → left_batch p ≡ landed p
lands_on p pages done is low = rw is (landed_is pages done low)

pub gives_on : (p : ToldPhase) (pages : List ℕ) (done : ℕ) → p ≡ returning (drop done pages) → done < length pages → left_batch p ≡ given_back p
gives_on p pages done is low = rw is (given_is pages done low)
