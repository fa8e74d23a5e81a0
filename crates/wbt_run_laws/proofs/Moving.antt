-- What was noted on a seat that was joined, as noted by one CPU.
use Rattle.std.proofs.Common.{◌≡◌, ℕ, suc, ◌≤◌, false, List, [], ◌∷◌, ◌++◌, length, sym, refl, ap, ◌∙◌, subst, arith, cond, eqb}
use Rattle.std.proofs.lemmas.List.{length-append}
use Rattle.wbt_run_laws.proofs.Common.{Estimate, begun, added_at, Note, Found, Added, Period, first_in, Known, Each, effect, NamesGoOn, names_after, estimates_of, tells, PeriodsGoOn, periods_after, Told, EstEntry, TellsKept, KeepsPeriods, HasNamed, IsTold, items_told}
use Rattle.wbt_fraction.specs.Sums.{total as weigh}
use Rattle.wbt_fraction.proofs.Sums.{total_append as weigh_append}
use Rattle.wbt_run_laws.specs.Elsewhere.{SharesMayMove, IsPlain, PlainEstimates}
use Rattle.wbt_run_laws.specs.Entries.{is_check}
use Rattle.wbt_run_laws.proofs.Effects.{none_of, if_none, part_none}
use Rattle.wbt_run_laws.proofs.Entering.{names_silent, periods_silent}
use Rattle.wbt_run_laws.proofs.Lists.{each_weaker, each_map}
use Rattle.wbt_run_laws.proofs.Noting.{AreReadsKept, kept_longer, told_none}
use Rattle.wbt_run_laws.proofs.Walking.{IsSilent, walks_silent}

-- ---- notes

begun_append : (more older : List Note) → begun (more ++ older) ≡ begun more ++ begun older
unfolding begun
begun_append [] older = refl
begun_append (Found at word ∷ more) older = begun_append more older
begun_append (Added at word n ∷ more) older = begun_append more older
begun_append (Period word k ∷ more) older = ap (λ (l : List (ℕ × ℕ)). (word, k) ∷ l) (begun_append more older)

empty_of : {A : Type 0} (xs : List A) → length xs ≡ 0 → xs ≡ []
empty_of [] is = refl
empty_of (x ∷ xs) is = absurd (omega arith)

nothing_more : {A : Type 0} (xs ys : List A) → xs ++ ys ≡ ys → xs ≡ []
nothing_more xs ys is = empty_of xs (let long = length-append xs ys in let same = ap length is in omega arith)

-- ---- entries without a check

keeps_none : (shares : ℕ → List Note) (e : Told) → is_check e ≡ false → TellsKept shares e
keeps_none shares e none = if_none (AreReadsKept shares) (effect e).check (none_of (effect e).check none)

pub shares_may_move : SharesMayMove
shares_may_move cpu added old new base grew none =
    let NoCheck = λ (e : Told). is_check e ≡ false in
    let more = λ (domain : ℕ). (grew.longer domain).more in
    record {
      longer = λ domain. record { more = more domain; longer = refl };
      adds = λ domain context.
          let h = added_at (suc context) in
          let there = weigh_append h (more domain) (old.shares domain) in
          let is = ap (weigh h) (grew.longer domain).longer in
          let adds = grew.adds domain context in
          let here = weigh_append h (more domain) (base.shares domain) in omega arith;
      begins_none = λ domain.
          let same = sym (ap begun (grew.longer domain).longer ∙ begun_append (more domain) (old.shares domain)) ∙ grew.begins_none domain in
          begun_append (more domain) (base.shares domain) ∙ ap (λ (l : List (ℕ × ℕ)). l ++ begun (base.shares domain)) (nothing_more (begun (more domain)) (begun (old.shares domain)) same);
      kept = λ kept domain context. kept_longer (base.shares domain) (more domain ++ base.shares domain) context (base.kept domain context) (record { more = more domain; longer = refl }) (kept domain context);
      fractions = λ kept. each_weaker NoCheck (TellsKept (λ domain. more domain ++ base.shares domain)) (keeps_none (λ domain. more domain ++ base.shares domain)) added none;
      periods = walks_silent KeepsPeriods PeriodsGoOn periods_after base.kept base.kept (items_told cpu added)
          (each_map (IsSilent PeriodsGoOn periods_after) (tells cpu) added (each_weaker NoCheck (λ (e : Told). IsSilent PeriodsGoOn periods_after (tells cpu e)) (λ e is. periods_silent cpu e (none_of (effect e).check is)) added none)) (λ s keeps. keeps);
    }

-- ---- entries without a check or an estimate

tells_none : (context : ℕ) (added : List Told) → Each IsPlain added → estimates_of context added ≡ []
tells_none context [] plain = refl
tells_none context (e ∷ added) plain =
    ap (λ (l : List Estimate). l ++ estimates_of context added) (part_none [] (λ (est : EstEntry). cond (eqb est.context context) (est.estimate ∷ []) []) (effect e).estimate plain.0.no_estimate)
    ∙ tells_none context added plain.1

pub plain_estimates : PlainEstimates
plain_estimates firsts cpu added old new plain same = record {
  each = λ context. subst (λ (l : List Estimate). IsTold (first_in firsts context) l (old.estimates context) (new.estimates context)) (sym (tells_none context added plain))
      (subst (λ (k : Known). IsTold (first_in firsts context) [] (old.estimates context) k) (sym (same context)) (told_none (first_in firsts context) (old.estimates context)));
  names = walks_silent HasNamed NamesGoOn names_after old.estimates new.estimates (items_told cpu added)
      (each_map (IsSilent NamesGoOn names_after) (tells cpu) added (each_weaker IsPlain (λ (e : Told). IsSilent NamesGoOn names_after (tells cpu e)) (λ e is. names_silent cpu e is.no_check) added plain))
      (λ s named context version low. named context version (subst (λ (k : Known). k.seen ≤ version) (same context) low));
}
