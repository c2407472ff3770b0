-- Purges, name by name.
use Rattle.std.proofs.Common.{◌≡◌, ◌<◌, ◌≤◌, ◌+◌, ℕ, suc, Bool, true, false, not, ◌&&◌, ◌||◌, List, [], ◌∷◌, ◌++◌, length, take, count_by, nat_lt, refl, cond, append-nil, get_or, sym, ap, ◌∙◌, arith, Ordering}
use Rattle.std.proofs.lemmas.Bool.Decides.{nat_tests}
use Rattle.std.proofs.lemmas.List.Sums.{length-filter, fold-append}
use Rattle.edit_simple.specs.Prelude.{insert_key, match_ordering, Name, name_cmp, Rows, is_same, is_among, with_name, name_set, row_at, nodes_of, without, falls_short, shorter, filter_more}
use Rattle.edit_simple.specs.Inner.Purging.{all_gone}

-- ---- lists without a name

below : (a b : ℕ) → a < b → nat_lt a b ≡ true
below a b h = grind (arith, nat_tests)

not_below : (a b : ℕ) → b ≤ a → nat_lt a b ≡ false
not_below a b h = grind (arith, nat_tests)

one_more : (a b : ℕ) → nat_lt (suc a) (suc b) ≡ nat_lt a b
one_more a b = by (nat_lt a b) refl
  where
    by : (t : Bool) → nat_lt a b ≡ t → nat_lt (suc a) (suc b) ≡ t
    by true e = grind (arith, nat_tests)
    by false e = grind (arith, nat_tests)

-- a list gets shorter without a name if and only if it contains the name
fewer : (x : Name) (xs : List Name) → nat_lt (length (without x xs)) (length xs) ≡ is_among xs x
fewer x [] = refl
fewer x (y ∷ ys) = by (is_same x y) (fewer x ys)
  where
    by : (b : Bool) → nat_lt (length (without x ys)) (length ys) ≡ is_among ys x
        → nat_lt (length (cond (not b) (y ∷ without x ys) (without x ys))) (length (y ∷ ys)) ≡ (b || is_among ys x)
    by true i = below (length (without x ys)) (length (y ∷ ys)) (omega (arith, shorter (λ n. not (is_same x n)) ys))
    by false i = one_more (length (without x ys)) (length ys) ∙ i

module _ (x : Name) (xs : List Name) (left : ℕ) (counted : left ≡ count_by (λ n. not (is_same x n)) xs) where
  left_is : left ≡ length (without x xs)
  left_is = counted ∙ sym (length-filter (λ n. not (is_same x n)) xs)

  pub cut : left < length xs → nat_lt left 2 ≡ falls_short x xs
  cut h =
      ap (λ n. nat_lt n 2) left_is
      ∙ ap (λ b. b && nat_lt (length (without x xs)) 2) (sym (sym (fewer x xs) ∙ ap (λ n. nat_lt n (length xs)) (sym left_is) ∙ below left (length xs) h))

  pub not_cut : length xs ≤ left → nat_lt left (length xs) ≡ falls_short x xs
  not_cut h =
      not_below left (length xs) h
      ∙ ap (λ b. b && nat_lt (length (without x xs)) 2) (sym (sym (fewer x xs) ∙ ap (λ n. nat_lt n (length xs)) (sym left_is) ∙ not_below left (length xs) h))

-- ---- the removed names

inserted : (x : Name) (xs : List Name) → insert_key name_cmp xs x ≡ with_name x xs
inserted x [] = refl
inserted x (y ∷ ys) = ap (λ l. match_ordering (name_cmp x y) (x ∷ y ∷ ys) (y ∷ ys) (y ∷ l)) (inserted x ys)

module _ {A : Type 0} (m : Rows A) (x : Name) (users : List Name) (i : ℕ) (u : Name) (h : i < length users) (is : u ≡ get_or users i u) where
  gone_next : name_set (all_gone m (take (i + 1) users) x) ≡ name_set (all_gone m (take i users) x ++ cond (falls_short x (nodes_of (row_at m u))) (u ∷ []) [])
  gone_next = ap (λ l. name_set (x ∷ l)) (filter_more (λ e. falls_short x (nodes_of (row_at m e))) users i u h is)

  -- one more user, which is removed
  pub gone_more : (cmp : Name → Name → Ordering) → cmp ≡ name_cmp → (keys more : List Name) → keys ≡ name_set (all_gone m (take i users) x) → more ≡ insert_key cmp keys u
      → true ≡ falls_short x (nodes_of (row_at m u)) → more ≡ name_set (all_gone m (take (i + 1) users) x)
  gone_more cmp by_name keys more before put goes =
      put ∙ ap (λ (c : Name → Name → Ordering). insert_key c keys u) by_name ∙ inserted u keys ∙ ap (with_name u) before
      ∙ sym (fold-append (λ set e. with_name e set) [] (all_gone m (take i users) x) (u ∷ []))
      ∙ ap (λ b. name_set (all_gone m (take i users) x ++ cond b (u ∷ []) [])) goes ∙ sym gone_next

  -- one more user, which stays
  pub gone_still : (keys : List Name) → keys ≡ name_set (all_gone m (take i users) x) → false ≡ falls_short x (nodes_of (row_at m u)) → keys ≡ name_set (all_gone m (take (i + 1) users) x)
  gone_still keys before stays =
      before ∙ ap name_set (sym (append-nil (all_gone m (take i users) x))) ∙ ap (λ b. name_set (all_gone m (take i users) x ++ cond b (u ∷ []) [])) stays ∙ sym gone_next
