-- The lists of a join, and the names whose rows it changes, one by one.
use Rattle.std.proofs.Common.{◌≡◌, ◌-◌, ◌++◌, ℕ, suc, Bool, List, [], ◌∷◌, Option, Some, None, length, take, drop, slice_get, All, refl, sym, ap, subst, ◌∙◌, arith, Bor, option_copied}
use Rattle.std.proofs.lemmas.List.Elements.{All-append, All-drop, All-take}
use Rattle.edit_topology.specs.Prelude.{last_or, option_eq, Name, is_same, AreNodes, meet_end_to_end}
use Rattle.osm_elements.specs.declared.name.Kind.TheVariants.{Node}

-- ---- the last of a list

pub last_is : {X : Type 0} (xs : List X) → slice_get xs (length xs - 1) ≡ last_or None xs
last_is [] = refl
last_is (x ∷ xs) = behind x xs
  where
    behind : {X : Type 0} (x : X) (xs : List X) → slice_get (x ∷ xs) (length (x ∷ xs) - 1) ≡ last_or (Some x) xs
    behind x [] = refl
    behind x (y ∷ ys) = let next : length (x ∷ y ∷ ys) - 1 ≡ suc (length (y ∷ ys) - 1) = omega arith in ap (slice_get (x ∷ y ∷ ys)) next ∙ behind y ys

-- the test whether the last of a list is the first of another, from the meanings of both
pub ends_meet : (E : Name → Name → Bool) → ((x y : Name) → E x y ≡ is_same x y) → (last begin : Option (Bor Name)) (one other : List Name)
    → option_copied last ≡ slice_get one (length one - 1) → option_copied begin ≡ slice_get other 0 → option_eq (λ (x y : Bor Name). E x.now y.now) last begin ≡ meet_end_to_end one other
ends_meet E ties last begin one other is its = by last begin ∙ (λ i. option_eq is_same ((is ∙ last_is one) i) (its i))
  where
    by : (a b : Option (Bor Name)) → option_eq (λ (x y : Bor Name). E x.now y.now) a b ≡ option_eq is_same (option_copied a) (option_copied b)
    by None None = refl
    by None (Some y) = refl
    by (Some x) None = refl
    by (Some x) (Some y) = ties x.now y.now

-- two lists of nodes together list nodes
pub nodes_of_both : (one other both : List Name) (n : ℕ) → AreNodes one → AreNodes other → both ≡ one ++ take n (drop 1 other) → AreNodes both
nodes_of_both one other both n h g is =
    subst (λ l. All (λ x. x.kind ≡ Node) l) (sym is)
    (All-append (λ x. x.kind ≡ Node) one (take n (drop 1 other)) h (All-take (λ x. x.kind ≡ Node) n (drop 1 other) (All-drop (λ x. x.kind ≡ Node) 1 other g)))
