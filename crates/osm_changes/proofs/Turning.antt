-- Changes that are taken back one by one.
use Rattle.std.proofs.Common.{◌≡◌, ◌≢◌, ◌<◌, ◌≤◌, ◌+◌, ℕ, suc, zero, List, [], ◌∷◌, ◌++◌, length, take, drop, set, All, refl, get_or, sym, ap, ◌∙◌, arith, subst}
use Rattle.std.proofs.lemmas.List.Elements.{All-map}
use Rattle.osm_changes.specs.Prelude.{Change, IsRising, cell_of, changed_cells, taken_back, inverse, AreChanges}

module _ {A : Type 0} where
  prefix : (i : ℕ) (cs : List (Change A)) (d : Change A) → i < length cs
      → set (inverse (take i cs) ++ drop i cs) i (taken_back (get_or (inverse (take i cs) ++ drop i cs) i d)) ≡ inverse (take (i + 1) cs) ++ drop (i + 1) cs
  prefix i [] d h = absurd (omega (arith, h))
  prefix zero (c ∷ cs) d h = refl
  prefix (suc i) (c ∷ cs) d h = let e : suc i + 1 ≡ suc (i + 1) = omega arith in rw e (ap (λ rest. taken_back c ∷ rest) (prefix i cs d (omega (arith, h))))

  pub turned_one_more : (cs items : List (Change A)) (i : ℕ) (d : Change A) → i < length cs → items ≡ inverse (take i cs) ++ drop i cs
      → set items i (taken_back (get_or items i d)) ≡ inverse (take (i + 1) cs) ++ drop (i + 1) cs
  turned_one_more cs items i d h is = ap (λ xs. set xs i (taken_back (get_or xs i d))) is ∙ prefix i cs d h

  all_of : (i : ℕ) (cs : List (Change A)) → length cs ≤ i → inverse (take i cs) ++ drop i cs ≡ inverse cs
  all_of zero [] h = refl
  all_of (suc i) [] h = refl
  all_of zero (c ∷ cs) h = absurd (omega (arith, h))
  all_of (suc i) (c ∷ cs) h = ap (λ rest. taken_back c ∷ rest) (all_of i cs (omega (arith, h)))

  pub turned_all : (cs items : List (Change A)) (i : ℕ) → length cs ≤ i → items ≡ inverse (take i cs) ++ drop i cs → items ≡ inverse cs
  turned_all cs items i h is = is ∙ all_of i cs h

  same_cells : (cs : List (Change A)) → changed_cells (inverse cs) ≡ changed_cells cs
  same_cells [] = refl
  same_cells (c ∷ cs) = ap (λ rest. cell_of c ∷ rest) (same_cells cs)

  differ_back : (cs : List (Change A)) → All (λ (c : Change A). c.after ≢ c.before) cs → All (λ (c : Change A). c.after ≢ c.before) (inverse cs)
  differ_back cs h = All-map (λ (c : Change A). c.after ≢ c.before) taken_back cs (λ k d l e. h k d l (sym e))

  pub AreChanges-inverse : (cs : List (Change A)) → AreChanges cs → AreChanges (inverse cs)
  AreChanges-inverse cs h = record { rising = subst IsRising (sym (same_cells cs)) h.rising; differ = differ_back cs h.differ }
