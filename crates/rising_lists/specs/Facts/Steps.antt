-- Loops over keys, each of which changes the lists.
use Rattle.std.proofs.Common.{◌≡◌, ◌+◌, ◌&&◌, ◌||◌, ◌<◌, ℕ, Bool, true, false, not, List, [], ◌∷◌, ◌++◌, length, take, drop, get_or, refl, sym, ap, ◌∙◌}
use Rattle.std.proofs.lemmas.List.{take_more, take-append-drop}
use Rattle.std.proofs.lemmas.List.Folds.{list_any-append}
use Rattle.std.specs.Ordering.{is_eq}
use Rattle.std.specs.declared.cmp.Ordering.{Ordering}
use Rattle.rising_lists.specs.Lists.{Gains, Lacks, Loses, SameLists, Table, has}
use Rattle.rising_lists.specs.Rising.{is_among}

pub next : {K : Type 0} (keys : List K) (i : ℕ) (x : K) → i < length keys → x ≡ get_or keys i x → take (i + 1) keys ≡ take i keys ++ x ∷ []
next keys i x within is = take_more keys i x within ∙ ap (λ z. take i keys ++ z ∷ []) (sym is)

module _ {K V : Type 0} (order : K → K → Ordering) (by_value : V → V → Ordering) (before middle after : Table K V) (keys : List K) (x : V) where
  pub Gains-more : Gains order by_value before middle keys x → (y : K) → Gains order by_value middle after (y ∷ []) x → Gains order by_value before after (keys ++ y ∷ []) x
  Gains-more f y g q v =
      g q v ∙ ap (λ b. ((is_eq (order q y) || false) && is_eq (by_value v x)) || b) (f q v)
      ∙ by (is_eq (order q y)) (is_eq (by_value v x)) (is_among order keys q) (has order by_value before q v)
      ∙ ap (λ b. (b && is_eq (by_value v x)) || has order by_value before q v) (sym (list_any-append (λ z. is_eq (order q z)) keys (y ∷ [])))
    where
      by : (a b c d : Bool) → (((a || false) && b) || ((c && b) || d)) ≡ (((c || (a || false)) && b) || d)
      by true true true d = refl
      by true true false d = refl
      by true false true d = refl
      by true false false d = refl
      by false true true d = refl
      by false true false d = refl
      by false false true d = refl
      by false false false d = refl

  pub Loses-more : Loses order by_value before middle keys x → (y : K) → Loses order by_value middle after (y ∷ []) x → Loses order by_value before after (keys ++ y ∷ []) x
  Loses-more f y g q v =
      g q v ∙ ap (λ b. not ((is_eq (order q y) || false) && is_eq (by_value v x)) && b) (f q v)
      ∙ by (is_eq (order q y)) (is_eq (by_value v x)) (is_among order keys q) (has order by_value before q v)
      ∙ ap (λ b. not (b && is_eq (by_value v x)) && has order by_value before q v) (sym (list_any-append (λ z. is_eq (order q z)) keys (y ∷ [])))
    where
      by : (a b c d : Bool) → (not ((a || false) && b) && (not (c && b) && d)) ≡ (not ((c || (a || false)) && b) && d)
      by true true true d = refl
      by true true false d = refl
      by true false true d = refl
      by true false false d = refl
      by false true true d = refl
      by false true false d = refl
      by false false true d = refl
      by false false false d = refl

  pub lacks_take : (i : ℕ) → Lacks order by_value before keys x → Lacks order by_value before (take i keys) x
  lacks_take i lacks q v =
      by (is_among order (take i keys) q) (is_among order (drop i keys) q) (is_eq (by_value v x)) (has order by_value before q v)
      (ap (λ b. (b && is_eq (by_value v x)) && has order by_value before q v) (sym parts) ∙ lacks q v)
    where
      parts : is_among order keys q ≡ (is_among order (take i keys) q || is_among order (drop i keys) q)
      parts = ap (λ ks. is_among order ks q) (sym (take-append-drop i keys)) ∙ list_any-append (λ z. is_eq (order q z)) (take i keys) (drop i keys)

      by : (a b c d : Bool) → (((a || b) && c) && d) ≡ false → ((a && c) && d) ≡ false
      by true b c d e = e
      by false b c d e = refl

  -- removing the added values restores the lists
  pub back : (failed : Table K V) → Lacks order by_value before keys x → Gains order by_value before middle keys x → SameLists order by_value middle failed → Loses order by_value failed after keys x
      → SameLists order by_value before after
  back failed lacks gains same loses q v =
      loses q v ∙ ap (λ b. not (is_among order keys q && is_eq (by_value v x)) && b) (same q v ∙ gains q v)
      ∙ by (is_among order keys q && is_eq (by_value v x)) (has order by_value before q v) (lacks q v)
    where
      by : (a d : Bool) → ((a && d) ≡ false) → (not a && (a || d)) ≡ d
      by true true e = absurd (cc)
      by true false e = refl
      by false d e = refl
