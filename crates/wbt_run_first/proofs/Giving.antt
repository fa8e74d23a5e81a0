-- Pages and faults of a rack that takes disks back one after another.
use Rattle.std.proofs.Common.{◌≡◌, ℕ, ◌+◌, ◌≤◌, List, [], ◌∷◌, length, Option, Some, None, refl, sym, ap, ◌∙◌, subst, arith}
use Rattle.wbt_run_worker.proofs.Common.{HasRisenBy, Grows, Each, Trace, Seen, Team, both_told, faults_in, seen, team_of, written_by}
use Rattle.wbt_io.specs.Faults.{more}
use Rattle.std.proofs.lemmas.List.Sums.{sum_by-cons}
use Rattle.wbt_run_worker.specs.declared.side.CpuSide.{CpuSide}
use Rattle.wbt_run_worker.specs.declared.side.Post.{Post}
use Rattle.wbt_run_drain.specs.Teams.{faults_by_all, posts_of, teams_of, written_by_all}
use Rattle.wbt_run_first.specs.Back.{IsNothing, NotFallen, WereGiven}
use Rattle.wbt_run_first.specs.Lent.{IsFirstPost}

-- ---- pages

pub grows_none : (a : Option ℕ) → Grows (Some 0) a a
grows_none None = tt
grows_none (Some t) = (0, t, refl, refl, omega arith)

pub grows_both : (m n a b c : Option ℕ) → Grows m a b → Grows n b c → Grows (both_told m n) a c
grows_both m n a b None one two = tt
grows_both m n a b (Some t) one two =
    let first = subst (λ (o : Option ℕ). Grows m a o) two.3 one in
    let told : both_told m n ≡ Some (first.0 + two.0) = ap (λ (o : Option ℕ). both_told o n) first.2 ∙ ap (λ (o : Option ℕ). both_told (Some first.0) o) two.2 in
    (first.0 + two.0, first.1, told, first.3, let e = first.4 in let f = two.4 in omega arith)

-- ---- faults

pub fallen_not : (a : ℕ) → NotFallen a a
fallen_not a = record { least = omega arith }

pub fallen_none : (a b c : ℕ) → NotFallen a b → NotFallen b c → NotFallen a c
fallen_none a b c one two = record { least = omega (arith, one.least, two.least) }

pub not_fallen : (a b : ℕ) → a ≤ b → NotFallen a b
not_fallen a b less = record { least = omega arith }

pub fallen_by : (by a b : ℕ) → b ≡ more by a → NotFallen a b
fallen_by by a b e = record { least = omega (arith, e) }

risen_both : (m n a b c : ℕ) → HasRisenBy m a b → HasRisenBy n b c → HasRisenBy (m + n) a c
risen_both m n a b c one two = omega (arith, one, two)

risen_one : (by a b : ℕ) → b ≡ more by a → HasRisenBy by a b
risen_one by a b is = omega (arith, is)

risen_none : (a : ℕ) → HasRisenBy 0 a a
risen_none a = omega arith

-- disks that were given back leave no less
pub fallen_given : (by a b : ℕ) → HasRisenBy by a b → NotFallen a b
fallen_given by a b risen = record { least = omega (arith, risen) }

-- the count rose by as many as are told, where the disks that were given back count as many
pub risen_since : (told count a b c : ℕ) → NotFallen a b → HasRisenBy told 0 count → HasRisenBy count b c → HasRisenBy told a c
risen_since told count a b c not counted risen = omega (arith, not.least, counted, risen)

-- and by no more at least
pub risen_less : (least told a b : ℕ) → least ≤ told → HasRisenBy told a b → HasRisenBy least a b
risen_less least told a b less risen = omega (arith, less, risen)

-- ---- both

pub given_more : (m n : Option ℕ) (one two : ℕ) (a b c : Option ℕ) (x y z : ℕ) → WereGiven m one a b x y → WereGiven n two b c y z
    → WereGiven (both_told m n) (one + two) a c x z
given_more m n one two a b c x y z first then = record {
  written = grows_both m n a b c first.written then.written;
  risen = risen_both one two x y z first.risen then.risen;
}

-- ---- posts and sides

module _ {D : Type 0} (written : D → Option ℕ) (faults : D → ℕ) where
  abbrev pub PostsGiven : (posts : List (Post D)) (a b : Option ℕ) (x y : ℕ) → Type 0
  PostsGiven posts a b x y = WereGiven (written_by (posts_of written faults posts)) (faults_in (posts_of written faults posts)) a b x y

  abbrev pub SidesGiven : (sides : List (CpuSide D)) (a b : Option ℕ) (x y : ℕ) → Type 0
  SidesGiven sides a b x y = WereGiven (written_by_all (teams_of written faults sides)) (faults_by_all (teams_of written faults sides)) a b x y

  pub given_post : (post : Post D) (items rest : List (Post D)) (a b c : Option ℕ) (x y z : ℕ) → items ≡ post ∷ rest
      → Grows (written post.flusher.disk) a b → y ≡ more (faults post.flusher.disk) x → PostsGiven rest b c y z → PostsGiven items a c x z
  given_post post items rest a b c x y z are grows is more_given =
      let its = posts_of written faults rest in
      subst (λ (l : List (Post D)). PostsGiven l a c x z) (sym are)
      (subst (λ (n : ℕ). WereGiven (both_told (written post.flusher.disk) (written_by its)) n a c x z) (sym (sum_by-cons (λ (p : Seen). p.faults) (seen written faults post) its))
      (given_more (written post.flusher.disk) (written_by its) (faults post.flusher.disk) (faults_in its) a b c x y z (record { written = grows; risen = risen_one (faults post.flusher.disk) x y is }) more_given))

  pub given_side : (side : CpuSide D) (items rest : List (CpuSide D)) (a b c : Option ℕ) (x y z : ℕ) → items ≡ side ∷ rest
      → PostsGiven side.posts.items a b x y → SidesGiven rest b c y z → SidesGiven items a c x z
  given_side side items rest a b c x y z are one more_given =
      let its = posts_of written faults side.posts.items in
      let others = teams_of written faults rest in
      subst (λ (l : List (CpuSide D)). SidesGiven l a c x z) (sym are)
      (subst (λ (n : ℕ). WereGiven (both_told (written_by its) (written_by_all others)) n a c x z) (sym (sum_by-cons (λ (team : Team). faults_in team.posts) (team_of written faults side) others))
      (given_more (written_by its) (written_by_all others) (faults_in its) (faults_by_all others) a b c x y z one more_given))

  pub no_posts : (items : List (Post D)) (pages : Option ℕ) (count : ℕ) → length items ≡ 0 → PostsGiven items pages pages count count
  no_posts [] pages count none = record { written = grows_none pages; risen = risen_none count }
  no_posts (p ∷ items) pages count none = absurd (omega arith)

  pub no_sides : (items : List (CpuSide D)) (pages : Option ℕ) (count : ℕ) → length items ≡ 0 → SidesGiven items pages pages count count
  no_sides [] pages count none = record { written = grows_none pages; risen = risen_none count }
  no_sides (p ∷ items) pages count none = absurd (omega arith)

-- ---- disks that have written nothing

both_nothing : (m n : Option ℕ) → IsNothing m → IsNothing n → IsNothing (both_told m n)
both_nothing None n one two = tt
both_nothing (Some m) None one two = tt
both_nothing (Some m) (Some n) one two = omega arith

pub posts_nothing : (trace : Trace) (cpu : ℕ) (posts : List Seen) → Each (IsFirstPost trace cpu) posts → IsNothing (written_by posts)
posts_nothing trace cpu [] each = refl
posts_nothing trace cpu (p ∷ posts) each = both_nothing p.written (written_by posts) each.0.unwritten (posts_nothing trace cpu posts each.1)

pub teams_nothing : (teams : List Team) → Each (λ (team : Team). IsNothing (written_by team.posts)) teams → IsNothing (written_by_all teams)
teams_nothing [] each = refl
teams_nothing (t ∷ teams) each = both_nothing (written_by t.posts) (written_by_all teams) each.0 (teams_nothing teams each.1)

pub grows_nothing : (by a b : Option ℕ) → IsNothing by → Grows by a b → Grows (Some 0) a b
grows_nothing by a None none grows = tt
grows_nothing by a (Some t) none grows =
    let zero_is : grows.0 ≡ 0 = subst IsNothing grows.2 none in
    (0, grows.1, refl, grows.3, let e = grows.4 in omega arith)

pub grows_still : (a b c : Option ℕ) → Grows (Some 0) a b → Grows (Some 0) b c → Grows (Some 0) a c
grows_still a b c one two = grows_both (Some 0) (Some 0) a b c one two

pub grows_same : (a b : Option ℕ) → b ≡ a → Grows (Some 0) a b
grows_same a b same = subst (λ (o : Option ℕ). Grows (Some 0) a o) (sym same) (grows_none a)
