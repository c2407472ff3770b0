-- The united tags of two elements are valid tags. An element's tags united with themselves are unchanged.
use Rattle.std.proofs.Common.{sym, ap, ◌∙◌}
use Rattle.std.specs.Prelude.{◌≡◌, ℕ, Bool, true, false, not, ◌&&◌, T, List, [], ◌∷◌, Option, Some, None, length, nat_lt, refl, cond, option_map}
use Rattle.edit_simple.specs.Prelude.{nat_cmp-IsAntisymmetric, slice_cmp-IsAntisymmetric, put, is_sorted, below_all, is_sorted-put, find-put, same_entries, tied_itself, nat_list_cmp_total, is_eq, Rows, row_at, text_cmp, value_at, Pairs, is_tag, are_tags, is_same_text, first, second, find_below, same, first_true, second_true, is_sound, row_tags, most_tags, tags_put, tags_from, tags_sorted, tags_all, same_tags_itself, made_tags, fine}
use Rattle.osm_elements.specs.declared.name.Name.{Name}
use Rattle.osm_elements.specs.declared.element.Element.{Element}
use Rattle.edit_topology.specs.BothTags.{both_tags, is_another, conflict}
use Rattle.std.specs.List as lists

-- ---- united tags are tags

sorted_both : (others tags : Pairs) → T (is_sorted text_cmp tags) → T (is_sorted text_cmp (both_tags tags others))
sorted_both [] tags h = h
sorted_both (p ∷ ps) tags h = sorted_both ps (put text_cmp p.0 p.1 tags) (is_sorted-put text_cmp nat_list_cmp_total p.0 p.1 tags h)

all_both : (others tags : Pairs) → lists.list_all is_tag others ≡ true → lists.list_all is_tag tags ≡ true → lists.list_all is_tag (both_tags tags others) ≡ true
all_both [] tags g h = h
all_both (p ∷ ps) tags g h = all_both ps (put text_cmp p.0 p.1 tags) (second_true (is_tag p) (lists.list_all is_tag ps) g) (tags_put p.0 p.1 (first_true (is_tag p) (lists.list_all is_tag ps) g) tags h)

pub are_tags-both_tags : (tags others : Pairs) → are_tags tags ≡ true → are_tags others ≡ true → nat_lt most_tags (length (both_tags tags others)) ≡ false → are_tags (both_tags tags others) ≡ true
are_tags-both_tags tags others h g few = tags_from (both_tags tags others) (sorted_both others tags (tags_sorted tags h)) few (all_both others tags (tags_all others g) (tags_all tags h))

-- ---- tags united with themselves

pub same_keys : (x y : List ℕ) → is_eq (text_cmp x y) ≡ true → x ≡ y
same_keys x y e = slice_cmp-IsAntisymmetric nat_cmp-IsAntisymmetric x y (same (text_cmp x y) e)

pub same_text_itself : (s : List ℕ) → is_same_text s s ≡ true
same_text_itself s =
    first_true (is_same_text s s) (is_same_text s s) (first_true (is_same_text s s && is_same_text s s) true (same_tags_itself ((s, s) ∷ [])))

-- the tags have each of the others, with the same value
abbrev Has : Pairs → Pairs → Type 0
Has tags [] = Unit
Has tags (p ∷ ps) = (value_at tags p.0 ≡ Some p.1) × Has tags ps

-- a value that later tags have is the value among all tags
pub later : (e : List ℕ × List ℕ) (es : Pairs) → T (below_all text_cmp e.0 es) → (key value : List ℕ) → value_at es key ≡ Some value → value_at (e ∷ es) key ≡ Some value
later e es h key value is = by (is_eq (text_cmp key e.0)) refl
  where
    by : (b : Bool) → is_eq (text_cmp key e.0) ≡ b → cond b (Some e.1) (value_at es key) ≡ Some value
    by true t =
        let none : value_at es key ≡ None = ap (value_at es) (same_keys key e.0 t) ∙ find_below text_cmp e.0 es h in absurd (cc)
    by false t = is

has_later : (e : List ℕ × List ℕ) (es ps : Pairs) → T (below_all text_cmp e.0 es) → Has es ps → Has (e ∷ es) ps
has_later e es [] h has = tt
has_later e es (p ∷ ps) h has = (later e es h p.0 p.1 has.0, has_later e es ps h has.1)

has_itself : (tags : Pairs) → T (is_sorted text_cmp tags) → Has tags tags
has_itself [] h = tt
has_itself (e ∷ es) h = (
  ap (λ o. cond (is_eq o) (Some e.1) (value_at es e.0)) (tied_itself nat_list_cmp_total e.0),
  has_later e es es (first (below_all text_cmp e.0 es) (is_sorted text_cmp es) h) (has_itself es (second (below_all text_cmp e.0 es) (is_sorted text_cmp es) h)),
)

-- putting a tag that is there changes nothing
put_same : (tags : Pairs) (key value : List ℕ) → T (is_sorted text_cmp tags) → value_at tags key ≡ Some value → put text_cmp key value tags ≡ tags
put_same tags key value h is =
    same_entries text_cmp nat_list_cmp_total (slice_cmp-IsAntisymmetric nat_cmp-IsAntisymmetric) (put text_cmp key value tags) tags (is_sorted-put text_cmp nat_list_cmp_total key value tags h) h
    (λ q. find-put text_cmp nat_list_cmp_total q key value tags ∙ by q (is_eq (text_cmp q key)) refl)
  where
    by : (q : List ℕ) (b : Bool) → is_eq (text_cmp q key) ≡ b → cond b (Some value) (value_at tags q) ≡ value_at tags q
    by q true t = sym (ap (value_at tags) (same_keys q key t) ∙ is)
    by q false t = refl

both_same : (tags others : Pairs) → T (is_sorted text_cmp tags) → Has tags others → both_tags tags others ≡ tags
both_same tags [] h has = refl
both_same tags (p ∷ ps) h has = ap (λ t. both_tags t ps) (put_same tags p.0 p.1 h has.0) ∙ both_same tags ps h has.1

none_another : (tags others : Pairs) → Has others tags → conflict tags others ≡ None
none_another [] others has = refl
none_another (p ∷ ps) others has =
    ap (λ o. option_map (λ q. q.0) (cond (is_another o p.1) (Some p) (lists.find (λ q. is_another (value_at others q.0) q.1) ps))) has.0
    ∙ ap (λ b. option_map (λ q. q.0) (cond (not b) (Some p) (lists.find (λ q. is_another (value_at others q.0) q.1) ps))) (same_text_itself p.1)
    ∙ none_another ps others has.1

pub both_tags_same : (tags : Pairs) → are_tags tags ≡ true → both_tags tags tags ≡ tags
both_tags_same tags h = both_same tags tags (tags_sorted tags h) (has_itself tags (tags_sorted tags h))

pub no_conflict : (tags : Pairs) → are_tags tags ≡ true → conflict tags tags ≡ None
no_conflict tags h = none_another tags tags (has_itself tags (tags_sorted tags h))

module _ {A : Type 0} where
  pub are_tags-row_tags : (m : Rows A) → is_sound m ≡ true → (y : Name) → are_tags (row_tags (row_at m y)) ≡ true
  are_tags-row_tags m sound y = by (row_at m y) refl
    where
      by : (o : Option (Element A)) → row_at m y ≡ o → are_tags (row_tags o) ≡ true
      by None is = refl
      by (Some v) is = made_tags v (fine m sound y v is).made
