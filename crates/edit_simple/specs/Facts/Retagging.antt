-- An accepted retag keeps a sound map sound, and changes it.
use Rattle.std.proofs.Common.{sym, ap, ◌∙◌}
use Rattle.std.specs.Prelude.{◌≡◌, ◌≢◌, ℕ, Bool, true, false, not, ◌&&◌, T, List, [], ◌∷◌, Option, Some, None, is_some, length, nat_lt, nat_le, refl, ⊤, filter}
use Rattle.osm_drafts.specs.Prelude.{passes, list_all, is_eq, nat_list_cmp_total, put, is_sorted, is_sorted-put, is_sorted-where_key, latitude, longitude, tags_of, is_short, are_nodes, is_made, Rows, is_present, is_absent, are_members, row_at, text_cmp, Pairs, is_tag, are_tags, sorted_rows, each_row-put, each_row-filter, both_true, first_true, second_true, is_true, are_same_tags, are_same_names, is_sound, same_element}
use Rattle.osm_elements.specs.declared.name.Name.{Name}
use Rattle.osm_elements.specs.declared.element.Element.{Element}
use Rattle.osm_elements.specs.declared.element.Element.TheVariants.{Node, Way, Relation}
use Rattle.room_interface.specs.declared.refusal.Refusal.{Refusal}
use Rattle.room_interface.specs.declared.refusal.Refusal.TheVariants.{Absent, TooMany, Nothing}
use Rattle.edit_simple.specs.Checks.{first_that_holds}
use Rattle.edit_simple.specs.Contents.{row_tags, with_tags}
use Rattle.edit_simple.specs.Retag.{retag_checks, after_retag}
use Rattle.room_interface.specs.GivenTags.{GivenTags, is_given, are_given}
use Rattle.edit_simple.specs.Tagging.{tagged, retagged, most_tags}
use Rattle.edit_simple.specs.Facts.Checked.{nones, not_so, from_false}
use Rattle.edit_simple.specs.Facts.Lists.{at_least}
use Rattle.edit_simple.specs.Facts.Rewriting.{Fine, one_stays_sound, one_differs}

three : (a b c d : Bool) → (a && (b && c)) ≡ true → d ≡ true → (a && (b && d)) ≡ true
three true true c d h e = e
three true false c d h e = absurd (cc)
three false b c d h e = absurd (cc)

third : (a b c : Bool) → (a && (b && c)) ≡ true → c ≡ true
third true true c h = h
third true false c h = absurd (cc)
third false b c h = absurd (cc)

-- a put of a tag keeps the conditions of tags
pub tags_put : (key value : List ℕ) → is_tag (key, value) ≡ true → (tags : Pairs) → list_all is_tag tags ≡ true → list_all is_tag (put text_cmp key value tags) ≡ true
tags_put key value h tags all = is_true (list_all is_tag (put text_cmp key value tags)) (each_row-put is_short key value (passes (is_tag (key, value)) h) tags (passes (list_all is_tag tags) all))

tags_filter : (p : List ℕ × List ℕ → Bool) (tags : Pairs) → list_all is_tag tags ≡ true → list_all is_tag (filter p tags) ≡ true
tags_filter p tags all = is_true (list_all is_tag (filter p tags)) (each_row-filter is_short p tags (passes (list_all is_tag tags) all))

tags_tagged : (tags : Pairs) (key : List ℕ) (o : Option (List ℕ)) → is_given (key, o) ≡ true → list_all is_tag tags ≡ true → list_all is_tag (tagged tags key o) ≡ true
tags_tagged tags key None h all = tags_filter (λ p. not (is_eq (text_cmp key p.0))) tags all
tags_tagged tags key (Some value) h all = tags_put key value h tags all

pub sorted_tagged : (tags : Pairs) (key : List ℕ) (o : Option (List ℕ)) → T (is_sorted text_cmp tags) → T (is_sorted text_cmp (tagged tags key o))
sorted_tagged tags key None h = is_sorted-where_key text_cmp (λ q. not (is_eq (text_cmp key q))) tags h
sorted_tagged tags key (Some value) h = is_sorted-put text_cmp nat_list_cmp_total key value tags h

tags_retagged : (given : GivenTags) (tags : Pairs) → list_all is_given given ≡ true → list_all is_tag tags ≡ true → list_all is_tag (retagged tags given) ≡ true
tags_retagged [] tags g all = all
tags_retagged (h ∷ hs) tags g all = tags_retagged hs (tagged tags h.0 h.1) (second_true (is_given h) (list_all is_given hs) g) (tags_tagged tags h.0 h.1 (first_true (is_given h) (list_all is_given hs) g) all)

sorted_retagged : (given : GivenTags) (tags : Pairs) → T (is_sorted text_cmp tags) → T (is_sorted text_cmp (retagged tags given))
sorted_retagged [] tags h = h
sorted_retagged (g ∷ gs) tags h = sorted_retagged gs (tagged tags g.0 g.1) (sorted_tagged tags g.0 g.1 h)

-- tags are valid if they pass three tests
pub tags_from : (tags : Pairs) → T (is_sorted text_cmp tags) → nat_lt most_tags (length tags) ≡ false → list_all is_tag tags ≡ true → are_tags tags ≡ true
tags_from tags sorted few all =
    both_true (is_sorted text_cmp tags) (nat_le (length tags) 1000 && list_all is_tag tags) (is_true (is_sorted text_cmp tags) sorted)
    (both_true (nat_le (length tags) 1000) (list_all is_tag tags) (at_least most_tags (length tags) few) all)

pub tags_sorted : (tags : Pairs) → are_tags tags ≡ true → T (is_sorted text_cmp tags)
tags_sorted tags h = sorted_rows is_short tags (passes (are_tags tags) h)

pub tags_all : (tags : Pairs) → are_tags tags ≡ true → list_all is_tag tags ≡ true
tags_all tags h = third (is_sorted text_cmp tags) (nat_le (length tags) 1000) (list_all is_tag tags) h

are_tags-retagged : (given : GivenTags) (tags : Pairs) → are_given given ≡ true → are_tags tags ≡ true → nat_lt most_tags (length (retagged tags given)) ≡ false → are_tags (retagged tags given) ≡ true
are_tags-retagged given tags g h few =
    tags_from (retagged tags given) (sorted_retagged given tags (tags_sorted tags h)) few
    (tags_retagged given tags (third (is_sorted text_cmp given) (nat_le (length given) most_tags) (list_all is_given given) g) (tags_all tags h))

-- tags pass the test of equality with themselves
pub same_tags_itself : (tags : Pairs) → are_same_tags tags tags ≡ true
same_tags_itself tags = second_true (are_same_names [] []) (are_same_tags tags tags) (same_element {A = ⊤} (Way [] tags))

module _ {A : Type 0} where
  pub made_tags : (v : Element A) → is_made v ≡ true → are_tags (tags_of v) ≡ true
  made_tags (Node lat lon tags) h = third (is_some (latitude lat)) (is_some (longitude lon)) (are_tags tags) h
  made_tags (Way nodes tags) h = second_true (are_nodes nodes) (are_tags tags) h
  made_tags (Relation members tags) h = second_true (are_members members) (are_tags tags) h

  pub tags_of-with_tags : (f : Pairs → Pairs) (v : Element A) → tags_of (with_tags f v) ≡ f (tags_of v)
  tags_of-with_tags f (Node lat lon tags) = refl
  tags_of-with_tags f (Way nodes tags) = refl
  tags_of-with_tags f (Relation members tags) = refl

  -- a fine row with other valid tags is fine
  pub fine_tagged : (m : Rows A) (y : Name) (f : Pairs → Pairs) (v : Element A) → are_tags (f (tags_of v)) ≡ true → Fine m y v → Fine m y (with_tags f v)
  fine_tagged m y f (Node lat lon tags) t own = record {
    kind = own.kind;
    made = three (is_some (latitude lat)) (is_some (longitude lon)) (are_tags tags) (are_tags (f tags)) own.made t;
    lengthy = own.lengthy;
    refs = own.refs;
  }
  fine_tagged m y f (Way nodes tags) t own = record {
    kind = own.kind;
    made = both_true (are_nodes nodes) (are_tags (f tags)) (first_true (are_nodes nodes) (are_tags tags) own.made) t;
    lengthy = own.lengthy;
    refs = own.refs;
  }
  fine_tagged m y f (Relation members tags) t own = record {
    kind = own.kind;
    made = both_true (are_members members) (are_tags (f tags)) (first_true (are_members members) (are_tags tags) own.made) t;
    lengthy = own.lengthy;
    refs = own.refs;
  }

  pub is_there : (m : Rows A) (x : Name) → is_present m x ≡ true → (v : Element A) × (row_at m x ≡ Some v)
  is_there m x here = by (row_at m x) refl here
    where
      by : (o : Option (Element A)) → row_at m x ≡ o → is_some o ≡ true → (v : Element A) × (row_at m x ≡ Some v)
      by None e h = absurd (cc)
      by (Some v) e h = (v, e)

  pub retag_accepted : (m : Rows A) (x : Name) (given : GivenTags) → is_sound m ≡ true → are_given given ≡ true → first_that_holds (retag_checks m x given) ≡ None
      → (is_sound (after_retag m x given) ≡ true) × (after_retag m x given ≢ m)
  retag_accepted m x given sound given_well ok =
      (one_stays_sound m sound x (with_tags f) fits, one_differs m x (with_tags f) row.0 row.1 row_tags other)
    where
      f : Pairs → Pairs
      f tags = retagged tags given

      few : nat_lt most_tags (length (retagged (row_tags (row_at m x)) given)) ≡ false
      few = not_so {X = Refusal A} (nat_lt most_tags (length (retagged (row_tags (row_at m x)) given))) (TooMany x) (nones (retag_checks m x given) ok).1.0

      fits : (v : Element A) → row_at m x ≡ Some v → Fine m x v → Fine m x (with_tags f v)
      fits v is own =
          fine_tagged m x f v (are_tags-retagged given (tags_of v) given_well (made_tags v own.made) (ap (λ o. nat_lt most_tags (length (retagged (row_tags o) given))) (sym is) ∙ few)) own

      row : (v : Element A) × (row_at m x ≡ Some v)
      row = is_there m x (from_false (is_present m x) (not_so {X = Refusal A} (is_absent m x) (Absent x) (nones (retag_checks m x given) ok).0))

      other : row_tags (Some (with_tags f row.0)) ≢ row_tags (Some row.0)
      other e =
          let told : are_same_tags (row_tags (row_at m x)) (retagged (row_tags (row_at m x)) given) ≡ false = not_so {X = Refusal A} (are_same_tags (row_tags (row_at m x)) (retagged (row_tags (row_at m x)) given)) Nothing (nones (retag_checks m x given) ok).1.1.0 in
          cc (sym (same_tags_itself (tags_of row.0)) ∙ ap (are_same_tags (tags_of row.0)) (sym e ∙ tags_of-with_tags f row.0) ∙ ap (λ o. are_same_tags (row_tags o) (retagged (row_tags o) given)) (sym row.1) ∙ told)
