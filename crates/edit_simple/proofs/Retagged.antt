-- A retag in two passes leads to the same tags as a retag in one.
use Rattle.std.proofs.Common.{◌≡◌, ◌≤◌, ◌<◌, ◌+◌, ℕ, Bool, true, false, not, T, List, [], ◌∷◌, Option, Some, None, is_some, length, refl, cond, sym, ap, ◌∙◌, arith, fold, is_eq}
use Rattle.edit_simple.specs.Prelude.{tied_itself, IsAntisymmetric, slice_cmp-IsAntisymmetric, nat_cmp-IsAntisymmetric, put, is_sorted, below_all, find-put, find-where_key, is_sorted-put, is_sorted-where_key, length-put, same_entries, find, text_cmp, without_key, Pairs, first, second, find_below, text_total, longer-put, same, GivenTags, tagged, retagged, sorted_tagged}
use Rattle.edit_simple.specs.Inner.Retagging.{removed, valued, all_removed, all_valued}

antisymmetric : IsAntisymmetric text_cmp
antisymmetric = slice_cmp-IsAntisymmetric nat_cmp-IsAntisymmetric

told : (k q : List ℕ) → is_eq (text_cmp k q) ≡ true → k ≡ q
told k q e = antisymmetric k q (same (text_cmp k q) e)

itself : (k : List ℕ) → is_eq (text_cmp k k) ≡ true
itself k = ap is_eq (tied_itself text_total k)

turned : (k q : List ℕ) → is_eq (text_cmp q k) ≡ false → is_eq (text_cmp k q) ≡ false
turned k q e = by (is_eq (text_cmp k q)) refl
  where
    by : (b : Bool) → is_eq (text_cmp k q) ≡ b → b ≡ false
    by true t = absurd (cc (sym (itself q) ∙ ap (λ z. is_eq (text_cmp q z)) (sym (told k q t)) ∙ e))
    by false t = refl

abbrev Value : Type 0
Value = Option (List ℕ)

found-without : (tags : Pairs) (k q : List ℕ) → find text_cmp q (without_key tags k) ≡ cond (is_eq (text_cmp q k)) None (find text_cmp q tags)
found-without tags k q =
    find-where_key text_cmp (λ z. not (is_eq (text_cmp k z))) q (λ z e. ap (λ y. not (is_eq (text_cmp k y))) (sym (antisymmetric q z e))) tags ∙ by (is_eq (text_cmp q k)) refl
  where
    by : (b : Bool) → is_eq (text_cmp q k) ≡ b → cond (not (is_eq (text_cmp k q))) (find text_cmp q tags) None ≡ cond b None (find text_cmp q tags)
    by true e = ap (λ z. cond (not (is_eq (text_cmp k z))) (find text_cmp q tags) None) (told q k e) ∙ ap (λ b. cond (not b) (find text_cmp q tags) None) (itself k)
    by false e = ap (λ b. cond (not b) (find text_cmp q tags) None) (turned k q e)

-- the value at a key after the steps of one kind, given the value for the key and the value before
from_given : (Value → Value → Value) → Option Value → Value → Value
from_given F None old = old
from_given F (Some o) old = F o old

module _ (step : Pairs → List ℕ → Value → Pairs) (F : Value → Value → Value)
    (found : (t : Pairs) (k : List ℕ) (o : Value) (q : List ℕ) → find text_cmp q (step t k o) ≡ cond (is_eq (text_cmp q k)) (F o (find text_cmp q t)) (find text_cmp q t)) where
  found-fold : (given : GivenTags) → T (is_sorted text_cmp given) → (t : Pairs) (q : List ℕ)
      → find text_cmp q (fold (λ u g. step u g.0 g.1) t given) ≡ from_given F (find text_cmp q given) (find text_cmp q t)
  unfolding from_given
  found-fold [] h t q = refl
  found-fold (g ∷ gs) h t q =
      found-fold gs (second (below_all text_cmp g.0 gs) (is_sorted text_cmp gs) h) (step t g.0 g.1) q
      ∙ ap (from_given F (find text_cmp q gs)) (found t g.0 g.1 q) ∙ by (is_eq (text_cmp q g.0)) refl
    where
      by : (b : Bool) → is_eq (text_cmp q g.0) ≡ b → from_given F (find text_cmp q gs) (cond b (F g.1 (find text_cmp q t)) (find text_cmp q t)) ≡ from_given F (cond b (Some g.1) (find text_cmp q gs)) (find text_cmp q t)
      by true e =
          ap (λ o. from_given F o (F g.1 (find text_cmp q t)))
          (ap (λ z. find text_cmp z gs) (told q g.0 e) ∙ find_below text_cmp g.0 gs (first (below_all text_cmp g.0 gs) (is_sorted text_cmp gs) h))
      by false e = refl

module _ (step : Pairs → List ℕ → Value → Pairs) (keeps : (t : Pairs) (k : List ℕ) (o : Value) → T (is_sorted text_cmp t) → T (is_sorted text_cmp (step t k o))) where
  sorted-fold : (given : GivenTags) (t : Pairs) → T (is_sorted text_cmp t) → T (is_sorted text_cmp (fold (λ u g. step u g.0 g.1) t given))
  sorted-fold [] t h = h
  sorted-fold (g ∷ gs) t h = sorted-fold gs (step t g.0 g.1) (keeps t g.0 g.1 h)

sorted-without : (tags : Pairs) (key : List ℕ) → T (is_sorted text_cmp tags) → T (is_sorted text_cmp (without_key tags key))
sorted-without tags key h = is_sorted-where_key text_cmp (λ q. not (is_eq (text_cmp key q))) tags h

sorted-removed : (t : Pairs) (k : List ℕ) (o : Value) → T (is_sorted text_cmp t) → T (is_sorted text_cmp (removed t k o))
sorted-removed t k None h = sorted-without t k h
sorted-removed t k (Some v) h = h

sorted-valued : (t : Pairs) (k : List ℕ) (o : Value) → T (is_sorted text_cmp t) → T (is_sorted text_cmp (valued t k o))
sorted-valued t k None h = h
sorted-valued t k (Some v) h = is_sorted-put text_cmp text_total k v t h

pub sorted-all_removed : (given : GivenTags) (t : Pairs) → T (is_sorted text_cmp t) → T (is_sorted text_cmp (all_removed t given))
sorted-all_removed = sorted-fold removed sorted-removed

pub sorted-all_valued : (given : GivenTags) (t : Pairs) → T (is_sorted text_cmp t) → T (is_sorted text_cmp (all_valued t given))
sorted-all_valued = sorted-fold valued sorted-valued

-- the value after a step of each kind
now_given : Value → Value → Value
now_given o old = o

now_removed : Value → Value → Value
now_removed None old = None
now_removed (Some v) old = old

now_valued : Value → Value → Value
now_valued None old = old
now_valued (Some v) old = Some v

unchanged : (b : Bool) (o : Value) → o ≡ cond b o o
unchanged true o = refl
unchanged false o = refl

found-tagged : (t : Pairs) (k : List ℕ) (o : Value) (q : List ℕ) → find text_cmp q (tagged t k o) ≡ cond (is_eq (text_cmp q k)) (now_given o (find text_cmp q t)) (find text_cmp q t)
unfolding now_given
found-tagged t k None q = found-without t k q
found-tagged t k (Some v) q = find-put text_cmp text_total q k v t

found-removed : (t : Pairs) (k : List ℕ) (o : Value) (q : List ℕ) → find text_cmp q (removed t k o) ≡ cond (is_eq (text_cmp q k)) (now_removed o (find text_cmp q t)) (find text_cmp q t)
unfolding now_removed
found-removed t k None q = found-without t k q
found-removed t k (Some v) q = unchanged (is_eq (text_cmp q k)) (find text_cmp q t)

found-valued : (t : Pairs) (k : List ℕ) (o : Value) (q : List ℕ) → find text_cmp q (valued t k o) ≡ cond (is_eq (text_cmp q k)) (now_valued o (find text_cmp q t)) (find text_cmp q t)
unfolding now_valued
found-valued t k None q = unchanged (is_eq (text_cmp q k)) (find text_cmp q t)
found-valued t k (Some v) q = find-put text_cmp text_total q k v t

both_goes : (o : Option Value) (old : Value) → from_given now_valued o (from_given now_removed o old) ≡ from_given now_given o old
unfolding from_given now_given now_removed now_valued
both_goes None old = refl
both_goes (Some None) old = refl
both_goes (Some (Some v)) old = refl

pub two_goes : (given : GivenTags) (tags : Pairs) → T (is_sorted text_cmp given) → T (is_sorted text_cmp tags) → all_valued (all_removed tags given) given ≡ retagged tags given
two_goes given tags g h =
    same_entries text_cmp text_total antisymmetric (all_valued (all_removed tags given) given) (retagged tags given)
    (sorted-all_valued given (all_removed tags given) (sorted-all_removed given tags h)) (sorted-fold tagged sorted_tagged given tags h)
    (λ q. found-fold valued now_valued found-valued given g (all_removed tags given) q ∙ ap (from_given now_valued (find text_cmp q given)) (found-fold removed now_removed found-removed given g tags q)
    ∙ both_goes (find text_cmp q given) (find text_cmp q tags) ∙ sym (found-fold tagged now_given found-tagged given g tags q))

-- ---- the number of tags

longer-valued : (t : Pairs) (k : List ℕ) (o : Value) → T (is_sorted text_cmp t) → length t ≤ length (valued t k o)
longer-valued t k None h = omega arith
longer-valued t k (Some v) h = longer-put k v t h

-- setting values does not reduce the number of tags
longer-all_valued : (given : GivenTags) (t : Pairs) → T (is_sorted text_cmp t) → length t ≤ length (all_valued t given)
longer-all_valued [] t h = omega arith
longer-all_valued (g ∷ gs) t h = omega (arith, longer-valued t g.0 g.1 h, longer-all_valued gs (valued t g.0 g.1) (sorted-valued t g.0 g.1 h))

-- a new key added to 1,000 tags leaves more than 1,000 in the end
pub too_many_in_the_end : (key value : List ℕ) (rest : GivenTags) (t : Pairs) → T (is_sorted text_cmp t) → is_some (find text_cmp key t) ≡ false → 1000 ≤ length t
    → 1000 < length (all_valued (put text_cmp key value t) rest)
too_many_in_the_end key value rest t h new full =
    let one_more : length (put text_cmp key value t) ≡ length t + 1 = length-put text_cmp text_total key value t h ∙ ap (λ b. cond b (length t) (length t + 1)) new in
    omega (arith, full, one_more, longer-all_valued rest (put text_cmp key value t) (is_sorted-put text_cmp text_total key value t h))
