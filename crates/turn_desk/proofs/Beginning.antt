-- The rule at the start.
use Rattle.std.proofs.Common.{◌≡◌, ◌≢◌, ℕ, zero, suc, List, [], ◌∷◌, sym, refl, subst, inr, arith, Option, Some}
use Rattle.std.proofs.lemmas.List.Elements.{All-nil}
use mathlib.Core.Option.{some, some-injective, some-ne-none}
use lib.ListN.{get_elem?}
use Rattle.atomic_table.specs.Table.{opening}
use Rattle.turn_desk.specs.History.{entries_by}
use Rattle.turn_desk.specs.Rule.{Supplies, Moment, Fits, Kept}
use Rattle.turn_desk.specs.Inner.Opening.{first_view}
use Rattle.turn_desk.specs.declared.view.View.{View}
use Rattle.turn_desk.proofs.Lists.{All-more}
use Rattle.turn_desk.proofs.Known.{Known}

-- no history, no tickets, and all numbers with the first seat
abbrev at_start : (E : Type 0) → Moment E
at_start E = record { log = []; drawn = 0; served = 0; drawer = λ _. 0; owner = λ _. 0 }

module _ {E F : Type 0} (f : F) where
  first_fits : Fits (at_start E) 0 f (first_view f)
  first_fits =
      let apart : (n : ℕ) → Supplies (first_view {E = E} f) n → 0 ≢ n = λ n s e. let is = s.1 in omega arith in record {
        fixed = refl;
        seen = ([], refl);
        told = ([], refl);
        agrees = record {
          kin = All-more (λ k. entries_by k.0 (at_start E).log ≡ k.1) (0, []) [] refl (All-nil (λ k. entries_by k.0 (at_start E).log ≡ k.1));
          apart = (All-nil (λ k. k.0 ≢ 0), tt);
          supply = λ n s. (refl, All-more (λ k. k.0 ≢ n) (0, []) [] (apart n s) (All-nil (λ k. k.0 ≢ n)));
          stride = omega arith;
        };
        kin = All-more (λ k. (at_start E).owner k.0 ≡ 0) (0, []) [] refl (All-nil (λ k. (at_start E).owner k.0 ≡ 0));
        supply = λ n s. refl;
        ticket = omega arith;
      }

  only_the_first : (j : ℕ) (v : View E F) → get_elem? (first_view f ∷ []) j ≡ some v → Known (at_start E) f j v
  only_the_first zero v at = inr (subst (Fits (at_start E) 0 f) (some-injective (first_view f) v at) first_fits)
  only_the_first (suc j) v at = absurd (some-ne-none v (sym at))

module _ {R E F C P : Type 0} (fixed : R → F) (list : R → List E) (answers : F → List E → C → P → List E → Type 0) where
  pub starts : (gates : List ℕ) (room : R) → list room ≡ [] → Kept fixed list answers (fixed room) (opening (0 ∷ 0 ∷ 0 ∷ gates) (Some room ∷ []) (first_view (fixed room)))
  starts gates room empty = record {
    now = at_start E;
    legal = tt;
    gates = gates;
    words = refl;
    order = omega arith;
    parts = omega arith;
    home = λ _. (room, refl, (refl, empty));
    seats = only_the_first (fixed room);
    known = λ n has. absurd (has refl);
  }

  -- the same, if equations give the key and the slots
  pub starts_with : (gates : List ℕ) (about room : R) (slots : List (Option R)) → about ≡ room → slots ≡ Some room ∷ [] → list room ≡ []
      → Kept fixed list answers (fixed about) (opening (0 ∷ 0 ∷ 0 ∷ gates) slots (first_view (fixed about)))
  starts_with gates about room slots key laid empty =
      subst (λ (x : R × List (Option R)). Kept fixed list answers (fixed x.0) (opening (0 ∷ 0 ∷ 0 ∷ gates) x.1 (first_view (fixed x.0)))) (λ i. (sym key i, sym laid i)) (starts gates room empty)
