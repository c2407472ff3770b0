-- Splits member by member.
use Rattle.std.proofs.Common.{◌≡◌, ◌+◌, ◌++◌, ℕ, suc, Bool, true, false, List, [], ◌∷◌, Some, length, map, slice_get, count_by, refl, cond, sym, ap, ◌∙◌, arith, find, filter}
use Rattle.std.proofs.lemmas.List.Sums.{sum_by-cons}
use Rattle.edit_topology.specs.Prelude.{Name, Member, is_same, member_pair, split_members}
use Rattle.edit_topology.specs.Inner.Splitting.{count_named, split_length}

-- the first match is the first of all matches
pub find_is_first : {X : Type 0} (p : X → Bool) (xs : List X) → find p xs ≡ slice_get (filter p xs) 0
find_is_first p [] = refl
find_is_first p (x ∷ xs) = by (p x) (find_is_first p xs)
  where
    by : (b : Bool) → find p xs ≡ slice_get (filter p xs) 0 → cond b (Some x) (find p xs) ≡ slice_get (cond b (x ∷ filter p xs) (filter p xs)) 0
    by true i = refl
    by false i = i

one_if : (w : Name) (r : Name × List ℕ) (rs : List (Name × List ℕ)) (b : Bool) → is_same w r.0 ≡ b → count_named w (r ∷ rs) ≡ cond b 1 0 + count_named w rs
one_if w r rs b e = sum_by-cons (λ s. cond (is_same w s.0) 1 0) r rs ∙ ap (λ c. cond c 1 0 + count_named w rs) e

-- the number of a relation's members after the split
pub length_split : (w v : Name) (members : List (Name × List ℕ)) → length (split_members w v members) ≡ split_length w members
length_split w v [] = refl
length_split w v (r ∷ rs) = by (is_same w r.0) refl (length_split w v rs)
  where
    by : (b : Bool) → is_same w r.0 ≡ b → length (split_members w v rs) ≡ split_length w rs → length (cond b (r ∷ (v, r.1) ∷ []) (r ∷ []) ++ split_members w v rs) ≡ suc (length rs) + count_named w (r ∷ rs)
    by true e i = omega (arith, i, one_if w r rs true e)
    by false e i = omega (arith, i, one_if w r rs false e)

pub count_pairs : {A : Type 0} (w : Name) (members : List (Member A)) → count_by (λ m. is_same w m.name) members ≡ count_named w (map member_pair members)
count_pairs w [] = refl
count_pairs w (m ∷ ms) =
    sum_by-cons (λ s. cond (is_same w s.name) 1 0) m ms ∙ ap (λ n. cond (is_same w m.name) 1 0 + n) (count_pairs w ms)
    ∙ sym (sum_by-cons (λ s. cond (is_same w s.0) 1 0) (member_pair m) (map member_pair ms))
