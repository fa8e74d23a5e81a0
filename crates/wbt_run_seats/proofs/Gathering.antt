-- Notes that come together: by one CPU more, by a turn that is taken as its CPU's, and by the timer's.
use Rattle.std.proofs.Common.{◌≡◌, ℕ, ◌+◌, Bool, true, cond, List, [], ◌∷◌, ◌++◌, length, Contains, refl, sym, ap, ◌∙◌, subst, arith}
use Rattle.std.proofs.Math.Path.{fun_ext}
use Rattle.std.proofs.lemmas.List.Elements.{Contains-append_left, Contains-append_right}
use Rattle.wbt_kit.proofs.Common.{begun, Note, first_in, knows_both, known_of, Known, estimates_of}
use Rattle.wbt_fraction.specs.Sums.{total as weigh}
use Rattle.wbt_fraction.proofs.Sums.{total_append}
use Rattle.wbt_published.specs.Passes.{Seats as EstPass}
use Rattle.wbt_published.proofs.Turns.{joined-at}
use Rattle.wbt_run_seats.specs.Gathered.{SharesGathered, no_notes, GrownAreNotes, FirstIsGathered, TimerIsGathered, MoreAreGathered, MovedAreGathered, TimerTakesIn}
use Rattle.wbt_run_seats.specs.Parts.{noted}
use Rattle.wbt_run_seats.specs.Together.{known_with}
use Rattle.wbt_run_seats.proofs.Shares.{joined_notes}
use Rattle.wbt_run_seats.proofs.Noting.{begun_append, none_begun, no_weight, nothing_more, shares_more, shares_first, shares_along, shares_moved, moved_known}
use Rattle.wbt_run_seats.proofs.Passing.{or_second, or_neither, passes_same, passes_first, passes_along, tells_none, all_stays}

pub grown_are_notes : GrownAreNotes
grown_are_notes trace kit firsts cpu added first seats notes many is shares estimates mine known = record {
  shares = mine;
  estimates = known;
  begins_none = λ domain. shares.begins_none domain ∙ ap begun (is.nothing.shares domain) ∙ none_begun;
  publishes = λ context low owner. (estimates.each context).right ∙ (is.publishes context (omega (arith, many)) owner).0;
  no_other = λ context low other. (estimates.each context).right ∙ is.no_other context (omega (arith, many)) other;
}

pub timer_is_gathered : TimerIsGathered
timer_is_gathered trace publisher notes seats none = record {
  shares = shares_first trace notes (λ domain. noted seats.share domain);
  passes = passes_first trace publisher notes (λ context. known_of context seats.est) none;
}

one_of_all : (xs : List Note) → xs ++ [] ≡ xs
one_of_all [] = refl
one_of_all (x ∷ xs) = ap (λ (l : List Note). x ∷ l) (one_of_all xs)

pub first_is_gathered : FirstIsGathered
first_is_gathered trace publisher notes seats are = record {
  shares = subst (SharesGathered trace 1 notes no_notes) (fun_ext (λ domain. one_of_all (noted seats.share domain)))
      (shares_more trace notes 0 no_notes no_notes (λ domain. noted seats.share domain) (shares_first trace notes no_notes) are.shares
      (λ domain. ap begun (sym (are.shares domain)) ∙ are.begins_none domain));
  passes = record {
    published = λ context low less.
        let same = are.estimates context in
        let is : publisher context ≡ 0 = omega arith in
        (ap (λ (k : Known). k.publishes) (sym same) ∙ are.publishes context low is, ap (λ (k : Known). k.all) (sym same) ∙ ap (λ (n : ℕ). ((notes n).estimates context).all) (sym is));
    others = λ context low high. ap (λ (k : Known). k.publishes) (sym (are.estimates context)) ∙ are.no_other context low (λ e. omega arith);
    have = λ cpu context less low note has.
        let is : cpu ≡ 0 = omega arith in
        subst (λ (k : Known). Contains k.reads note) (are.estimates context) (subst (λ (n : ℕ). Contains ((notes n).estimates context).reads note) is has);
  };
}

pub more_are_gathered : MoreAreGathered
more_are_gathered trace kit cpus publisher notes timer old new parts many before all each = record {
  shares = subst (SharesGathered trace (cpus + length parts) notes timer) (fun_ext (λ domain. sym (all.notes domain)))
      (shares_along trace notes publisher timer parts cpus (λ domain. noted old.share domain) before.shares each);
  passes = passes_same trace publisher notes (cpus + length parts) (λ context. known_with context parts (known_of context old.est)) (λ context. known_of context new.est)
      (λ context low. all.known context (omega (arith, many))) (passes_along trace notes publisher parts cpus (λ context. known_of context old.est) before.passes each);
}

pub timer_takes_in : TimerTakesIn
timer_takes_in trace cpus publisher notes mine from new est came both here there none before joined knows =
    let own = λ (domain : ℕ). noted mine domain in
    let more = λ (domain : ℕ). noted from domain in
    let is = joined_notes mine.domains from.domains new.domains joined in
    record {
      shares = record {
        weights = λ domain low h.
            let same = ap (λ (l : List Note). weigh h l) (is domain) in
            let sum = total_append h (more domain) (own domain) in
            let was = before.shares.weights domain low h in
            let nothing = no_weight h in
            omega arith;
        have = λ cpu domain less low note has. subst (λ (l : List Note). Contains l note) (sym (is domain))
            (Contains-append_left (more domain) (own domain) note (before.shares.have cpu domain less low note has));
        begun_are = λ domain low. ap begun (is domain) ∙ begun_append (more domain) (own domain)
            ∙ ap (λ (l : List (ℕ × ℕ)). l ++ begun (own domain)) (before.shares.begun_are domain low ∙ none_begun);
      };
      passes = passes_same trace publisher notes cpus (λ context. knows_both (known_of context est) (known_of context came)) (λ context. known_of context both)
          (λ context low. ap (λ (p : EstPass). known_of context p) knows ∙ joined-at est.known came.known context (omega arith) (omega arith))
          (record {
            published = λ context low less.
                let was = before.passes.published context low less in
                let here_known = known_of context est in
                let theirs = known_of context came in
                (or_second here_known.publishes theirs.publishes was.0, ap (λ (t : Bool). cond t theirs.all here_known.all) was.0 ∙ was.1);
            others = λ context low high. or_neither (known_of context est).publishes (known_of context came).publishes (none context low) (before.passes.others context low high);
            have = λ cpu context less low note has. Contains-append_right (known_of context est).reads (known_of context came).reads note (before.passes.have cpu context less low note has);
          });
    }

pub moved_are_gathered : MovedAreGathered
moved_are_gathered trace firsts cpus cpu publisher notes timer old new added before behind gathered less grew estimates plain old_shares new_shares old_known new_known =
    let more = λ (domain : ℕ). (grew.longer domain).more in
    let known = λ (context : ℕ). known_of context new.est in
    let told = λ (context : ℕ). estimates.each context in
    let had = gathered.passes in
    record {
      shares = shares_moved trace cpus cpu notes timer (λ domain. noted old.share domain) more (λ domain. noted new.share domain) gathered.shares less
          (λ domain. sym (new_shares domain) ∙ (grew.longer domain).longer ∙ ap (λ (l : List Note). more domain ++ l) (old_shares domain))
          (λ domain. nothing_more (begun (more domain)) (begun (before.shares domain)) (sym (begun_append (more domain) (before.shares domain)) ∙ ap begun (sym (grew.longer domain).longer) ∙ grew.begins_none domain));
      passes = record {
        published = λ context low low_publisher.
            let was = had.published context low low_publisher in
            let yes : (before.estimates context).publishes ≡ true = ap (λ (k : Known). k.publishes) (old_known context) ∙ was.0 in (
              ap (λ (k : Known). k.publishes) (sym (new_known context)) ∙ (told context).right ∙ yes,
              ap (λ (k : Known). k.all) (sym (new_known context)) ∙ all_stays (first_in firsts context) (estimates_of context added) (before.estimates context) (behind.estimates context) (tells_none context added plain) (told context) yes
                  ∙ ap (λ (k : Known). k.all) (old_known context) ∙ was.1 ∙ ap (λ (k : Known). k.all) (sym (moved_known notes cpu more (publisher context) context)),
            );
        others = λ context low high. ap (λ (k : Known). k.publishes) (sym (new_known context)) ∙ (told context).right ∙ ap (λ (k : Known). k.publishes) (old_known context) ∙ had.others context low high;
        have = λ k context low there note has. subst (λ (k : Known). Contains k.reads note) (new_known context) ((told context).reads note
            (subst (λ (k : Known). Contains k.reads note) (sym (old_known context)) (had.have k context low there note (subst (λ (x : Known). Contains x.reads note) (moved_known notes cpu more k context) has))));
      };
    }
