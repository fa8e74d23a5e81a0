use Rattle.std.proofs.Common.{◌≡◌, ◌++◌, ◌∷◌, [], ℕ, List, sym, ap, ap₂, ◌∙◌, subst, rules, arith, length, length-append}
use mathlib.Core.List.{map-append}
use Rattle.wbt_fraction.specs.Seat.{Seated, Shape}
use Rattle.wbt_fraction.specs.Several.{Fits, AllFirst, parts_of}
use Rattle.wbt_fraction.proofs.Fitting.{fits_length, fits_more, first_more, replicate_more}
use Rattle.wbt_fraction.proofs.several.Domains.make.Goals as goal

pub loop-n-preserved : goal.loop-n-preserved
loop-n-preserved c =
    let shares : Shape = c.in_ok-shares.shares in
    let seat : Seated = c.in_ok-shares.seat in
    let made = c.in_ok-shares.ensures in
    let i = c.loop-n.invariant in
    let ds : c.push.new.self.items ≡ c.loop-n.domains.items ++ shares ∷ [] = search rules in
    let ss : c.push-in-loop-n.new.self.items ≡ c.loop-n.seats.items ++ seat ∷ [] = search rules in record {
      parts = ap parts_of ds ∙ map-append (λ (s : Shape). s.parts) c.loop-n.domains.items (shares ∷ [])
          ∙ ap₂ (λ (a : List ℕ) (n : ℕ). a ++ n ∷ []) i.parts made.0 ∙ replicate_more c.loop-n._n c.args.parts;
      count = ap length ds ∙ (let n = i.count in omega (arith, length-append c.loop-n.domains.items (shares ∷ [])));
      fits = subst (λ (z : List Shape × List Seated). Fits z.0 z.1) (λ x. (sym ds x, sym ss x)) (fits_more c.loop-n.domains.items c.loop-n.seats.items shares seat i.fits made.1);
      first = subst AllFirst (sym ss) (first_more c.loop-n.seats.items seat i.first (made.2, made.3, made.4, made.5));
    }

pub returns-clause-count : goal.returns-clause-count
returns-clause-count c =
    let i = c.loop-n.invariant in
    let n = i.count in
    let end = c.loop-n-test.false in
    let most = c.loop-n.auto in
    let same = fits_length c.loop-n.domains.items c.loop-n.seats.items i.fits in
    (omega arith, omega arith)
