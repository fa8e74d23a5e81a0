-- The first estimate, a read, a publication and a look keep the rule.
use Rattle.std.proofs.Common.{◌≡◌, ℕ, zero, suc, ◌≤◌, true, List, [], ◌∷◌, ◌++◌, length, All, sym, refl, ap, ◌∙◌, subst, arith, le_refl, length-append}
use mathlib.Core.Option.{some, some-injective, some-ne-none}
use lib.ListN.{get_elem?}
use Rattle.std.proofs.lemmas.List.Elements.{All-nil}
use Rattle.crossbeam_utils.specs.Register.{Turns}
use Rattle.atomic_table.proofs.Lists.{set_again}
use Rattle.wbt_estimate.specs.declared.estimate.Estimate.{Estimate}
use Rattle.wbt_estimate.specs.Estimate.{IsSound}
use Rattle.wbt_published.specs.declared.known.Known.{Known}
use Rattle.wbt_published.specs.Known.{first_one, opening, after_read, after_publish, next_version}
use Rattle.wbt_published.specs.Publishing.{IsRising, IsAmong, Knows, IsPublished, IsComplete, HasRead, HasPublished, HasLearned}
use Rattle.wbt_published.proofs.Places.{each_set, first_version, last_version, not_newer, rising_more, among_more, All-snoc}

only_first : (place : ℕ) (e : Estimate) → get_elem? (first_one ∷ []) place ≡ some e → (place ≡ 0) × (first_one ≡ e)
only_first zero e there = (refl, some-injective first_one e there)
only_first (suc place) e there = absurd (some-ne-none e (sym there))

only_opening : (pass : ℕ) (known : Known) → get_elem? (opening ∷ []) pass ≡ some known → (pass ≡ 0) × (opening ≡ known)
only_opening zero known there = (refl, some-injective opening known there)
only_opening (suc pass) known there = absurd (some-ne-none known (sym there))

first_rising : IsSound first_one → IsRising (first_one ∷ [])
first_rising sound = record {
  first = refl;
  by_version = λ place d there. let t = only_first place d there in ap (λ (x : Estimate). x.version) (sym t.1) ∙ first_version 0 ∙ sym t.0;
  sound = λ place d there. subst IsSound (only_first place d there).1 sound;
}

pub opens : (e : Estimate) → e ≡ first_one → IsSound e → IsPublished (record { estimate = e }) (opening ∷ [])
opens e is sound = record {
  all = first_one ∷ [];
  before = [];
  newest = ap (λ (x : Estimate). x ∷ []) (sym is);
  rising = first_rising (subst IsSound is sound);
  publisher = 0;
  knows = λ pass known there. let t = only_opening pass known there in subst (λ (k : Known). Knows (first_one ∷ []) (record { estimate = e }) 0 pass k) t.1
      (record { publishes = λ _. (t.0, refl); read = All-nil (IsAmong (first_one ∷ [])); seen = omega arith });
}

pub opens_complete : IsSound first_one → IsComplete opening
opens_complete sound = record { rising = first_rising sound; read = All-nil (IsAmong (first_one ∷ [])) }

-- a pass that publishes knows all, and a pass whose notes are among all is complete
complete : (all : List Estimate) (known : Known) → IsRising all → known.all ≡ all → All (IsAmong all) known.reads → IsComplete known
complete all known rising is read = record { rising = subst IsRising (sym is) rising; read = subst (λ (l : List Estimate). All (IsAmong l) known.reads) (sym is) read }

pub reads_keep : (pass : ℕ) (known : Known) → Turns IsPublished pass known (λ x. x) HasRead
reads_keep pass known x views s at = let e : Estimate = x.estimate in let new : Known = after_read e known in let own = s.knows pass known at in let last = last_version s.all s.before e s.newest s.rising in
    let notes : All (IsAmong s.all) new.reads = All-snoc (IsAmong s.all) known.reads e own.read last.1 in (
      new,
      record {
        all = s.all;
        before = s.before;
        newest = s.newest;
        rising = s.rising;
        publisher = s.publisher;
        knows = each_set (λ j u. Knows s.all x s.publisher j u) views pass new (record { publishes = own.publishes; read = notes; seen = le_refl e.version }) (λ j u n there. s.knows j u there);
      },
      record {
        noted = refl;
        first = λ zero_is. some-injective e first_one (sym last.1 ∙ ap (λ (n : ℕ). get_elem? s.all n) zero_is ∙ s.rising.first);
        sound = s.rising.sound e.version e last.1;
        fresh = own.seen;
        fresh_notes = λ k d low. not_newer s.all s.before e _ s.newest s.rising (own.read k d low);
        newest = λ may. (s.before, (own.publishes may).1 ∙ s.newest);
        complete = λ may. complete s.all new s.rising (own.publishes may).1 notes;
      },
    )

pub learns_keep : (pass : ℕ) (known : Known) → Turns IsPublished pass known (λ x. x) HasLearned
learns_keep pass known x views s at = let own = s.knows pass known at in (
  known,
  subst (IsPublished x) (sym (set_again views pass known at)) s,
  record { same = refl; complete = λ may. complete s.all known s.rising (own.publishes may).1 own.read },
)

pub publishes_keep : (pass : ℕ) (known : Known) (e : Estimate) → known.publishes ≡ true → e.version ≡ next_version known → IsSound e → Turns IsPublished pass known (λ _. record { estimate = e }) HasPublished
publishes_keep pass known e may next sound x views s at = let new : Known = after_publish e known in let own = s.knows pass known at in let right = own.publishes may in
    let version : e.version ≡ length s.all = next ∙ ap length right.1 in let rising = rising_more s.all e s.rising version sound in let notes = among_more s.all known.reads e own.read in
    let older : x.estimate.version ≤ e.version = let v = (last_version s.all s.before x.estimate s.newest s.rising).0 in let n = ap length s.newest in let m = length-append s.before (x.estimate ∷ []) in omega arith in
    let all_is : new.all ≡ s.all ++ e ∷ [] = ap (λ (l : List Estimate). l ++ e ∷ []) right.1 in (
      new,
      record {
        all = s.all ++ e ∷ [];
        before = s.all;
        newest = refl;
        rising = rising;
        publisher = s.publisher;
        knows = each_set (λ j u. Knows (s.all ++ e ∷ []) (record { estimate = e }) s.publisher j u) views pass new (record { publishes = λ _. (right.0, all_is); read = notes; seen = le_refl e.version })
            (λ j u n there. let old = s.knows j u there in record { publishes = λ p. absurd (n ((old.publishes p).0 ∙ sym right.0)); read = among_more s.all u.reads e old.read; seen = let a = old.seen in omega arith });
      },
      record { noted = refl; complete = λ _. complete (s.all ++ e ∷ []) new rising all_is notes },
    )
