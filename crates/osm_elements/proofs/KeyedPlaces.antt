-- The place of a key, and the rows after an edit there.
use Rattle.std.proofs.Common.{◌≡◌, ℕ, ◌<◌, ◌≤◌, List, [], ◌∷◌, map, set, length, Option, Some, None, Result, Ok, Err, MatchResult, refl, Bool, true, false, not, T, is_some, nat_eq, nat_lt, get_or, ap, sym, subst, ◌∙◌, arith, add-one, Less, Equal, Greater, insert, remove, is_lt}
use Rattle.std.proofs.lemmas.Result.{MatchResult-at_ok, MatchResult-at_err}
use Rattle.std.proofs.lemmas.Bool.Decides.{nat_tests}
use Rattle.osm_elements.specs.Prelude.{put, by_order, is_sorted, below_all, Keyed, TextFault, TooManyTags, both, first, second, find_below, without_below, below_less, below_equal, text_total, sorted_rows, keyed_pair, text_cmp, further, place, AreRows, set_refusal, value_at, without_key}

-- the key is at i: its value is found there, setting the value there is a put, and removing that row removes the key
pub record FoundAt {V A : Type 0} (key : List ℕ) (rows : List (Keyed V A)) (i : ℕ) : Type 0 where
  pub in_range : i < length rows
  pub value : (t : Keyed V A) → t ≡ get_or rows i t → value_at (map keyed_pair rows) key ≡ Some t.value
  pub puts : (value : V) (t : Keyed V A) → t ≡ get_or rows i t → map keyed_pair (set rows i (record { key = t.key; value = value })) ≡ put text_cmp key value (map keyed_pair rows)
  pub there : is_some (value_at (map keyed_pair rows) key) ≡ true
  pub gone : map keyed_pair (remove rows i) ≡ without_key (map keyed_pair rows) key

-- the key belongs at i: it is not found, and inserting a row there is a put
pub record GapAt {V A : Type 0} (key : List ℕ) (rows : List (Keyed V A)) (i : ℕ) : Type 0 where
  pub in_range : i ≤ length rows
  pub none : value_at (map keyed_pair rows) key ≡ None
  pub puts : (value : V) → map keyed_pair (insert rows i (record { key = key; value = value })) ≡ put text_cmp key value (map keyed_pair rows)
  pub gone : without_key (map keyed_pair rows) key ≡ map keyed_pair rows

abbrev pub PlaceTells : {V A : Type 0} → List ℕ → List (Keyed V A) → Result ℕ ℕ → Type 0
PlaceTells key rows r = MatchResult r (FoundAt key rows) (GapAt key rows)

module _ {V A : Type 0} (key : List ℕ) where
  further_tells : (t : Keyed V A) (rows : List (Keyed V A)) (r : Result ℕ ℕ) → text_cmp key t.key ≡ Greater → PlaceTells key rows r → PlaceTells key (t ∷ rows) (further 1 r)
  further_tells t rows (Ok i) above h = record {
    in_range = omega (arith, h.in_range);
    value = λ u here. rw above (h.value u (rw add-one at here));
    puts = λ v u here. rw (add-one, above) (ap (λ l. keyed_pair t ∷ l) (h.puts v u (rw add-one at here)));
    there = rw above h.there;
    gone = rw (add-one, above) (ap (λ l. keyed_pair t ∷ l) h.gone);
  }
  further_tells t rows (Err i) above h = record {
    in_range = omega (arith, h.in_range);
    none = rw above h.none;
    puts = λ v. rw (add-one, above) (ap (λ l. keyed_pair t ∷ l) (h.puts v));
    gone = rw above (ap (λ l. keyed_pair t ∷ l) h.gone);
  }

  here_tells : (t : Keyed V A) (rows : List (Keyed V A)) → T (below_all text_cmp t.key (map keyed_pair rows)) → text_cmp key t.key ≡ Equal → FoundAt key (t ∷ rows) 0
  here_tells t rows sorted same = record {
    in_range = omega arith;
    value = λ u here. rw same (ap (λ (r : Keyed V A). Some r.value) (sym here));
    puts = λ v u here. rw same (ap (λ (w : Keyed V A). (w.key, v) ∷ map keyed_pair rows) here);
    there = rw same refl;
    gone = rw same (sym (without_below text_cmp key (map keyed_pair rows) (below_equal text_cmp text_total key t.key (map keyed_pair rows) same sorted)));
  }

  below_tells : (t : Keyed V A) (rows : List (Keyed V A)) → T (below_all text_cmp t.key (map keyed_pair rows)) → text_cmp key t.key ≡ Less → GapAt key (t ∷ rows) 0
  below_tells t rows sorted less =
      let low : T (below_all text_cmp key (map keyed_pair (t ∷ rows))) = both _ _ (subst (λ o. T (is_lt o)) (sym less) tt) (below_less text_cmp text_total key t.key (map keyed_pair rows) less sorted) in
      record {
        in_range = omega arith;
        none = find_below text_cmp key (map keyed_pair (t ∷ rows)) low;
        puts = λ v. rw less refl;
        gone = without_below text_cmp key (map keyed_pair (t ∷ rows)) low;
      }

  pub place_tells : (rows : List (Keyed V A)) → T (is_sorted text_cmp (map keyed_pair rows)) → PlaceTells key rows (place key (map keyed_pair rows))
  place_tells [] sorted = record { in_range = omega arith; none = refl; puts = λ v. refl; gone = refl }
  place_tells (t ∷ rows) sorted =
      elim (text_cmp key t.key) as (λ o. text_cmp key t.key ≡ o → PlaceTells key (t ∷ rows) (by_order o (Err 0) (Ok 0) (further 1 (place key (map keyed_pair rows))))) [
        | Less ↦ λ below. below_tells t rows (first _ _ sorted) below
        | Equal ↦ λ same. here_tells t rows (first _ _ sorted) same
        | Greater ↦ λ above. further_tells t rows _ above (place_tells rows (second _ _ sorted))
      ] refl

-- the two cases of a key's place
module _ {V A : Type 0} (keeps : V → Bool) (key : List ℕ) (rows : List (Keyed V A)) (h : AreRows keeps (map keyed_pair rows)) (i : ℕ) where
  pub found_at : Ok i ≡ place key (map keyed_pair rows) → FoundAt key rows i
  found_at e = MatchResult-at_ok (FoundAt key rows) (GapAt key rows) i (sym e) (place_tells key rows (sorted_rows keeps (map keyed_pair rows) h))

  pub gap_at : Err i ≡ place key (map keyed_pair rows) → GapAt key rows i
  gap_at e = MatchResult-at_err (FoundAt key rows) (GapAt key rows) i (sym e) (place_tells key rows (sorted_rows keeps (map keyed_pair rows) h))

-- which refusal `set_refusal` names
module _ {V : Type 0} (key : List ℕ) (rows : List (List ℕ × V)) (some_key : nat_eq (length key) 0 ≡ false) where
  pub over_a_row : is_some (value_at rows key) ≡ true → set_refusal rows key ≡ None
  over_a_row there = rw (some_key, there) refl

  pub new_row : value_at rows key ≡ None → length rows < 1000 → set_refusal rows key ≡ None
  new_row none small = let t : nat_lt (length rows) 1000 ≡ true = grind (arith, nat_tests) in rw (some_key, none, t) refl

  pub full_refuses : value_at rows key ≡ None → 1000 ≤ length rows → set_refusal rows key ≡ Some TooManyTags
  full_refuses none full = let t : nat_lt (length rows) 1000 ≡ false = grind (arith, nat_tests) in rw (some_key, none, t) refl

-- a refusal that is none is no other refusal
pub not_refused : {X : Type 0} (r : Option TextFault) (e : TextFault) → r ≡ None → r ≡ Some e → X
not_refused r e none some = absurd (subst (λ o. T (not (is_some o))) (sym none ∙ some) tt)
