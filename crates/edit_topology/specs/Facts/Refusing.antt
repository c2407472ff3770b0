-- A split is refused as `TooMany` only for users of the way.
use Rattle.std.proofs.Common.{ap, ◌∙◌}
use Rattle.std.specs.Prelude.{◌≡◌, Bool, true, false, ◌&&◌, [], ◌∷◌, Some, length, map, nat_lt, refl, cond, filter}
use Rattle.edit_simple.specs.Prelude.{is_sorted, list_all, kind_of, is_made, Rows, is_among, is_kind, is_present, names_of, name_cmp, first_true, second_true, references, refers_to, is_sound, is_sound_row, is_of_length, most_members, members_of}
use Rattle.osm_elements.specs.declared.name.Name.{Name}
use Rattle.osm_elements.specs.declared.element.Element.{Element}
use Rattle.osm_elements.specs.declared.element.Element.TheVariants.{Node, Way, Relation}
use Rattle.edit_topology.specs.Split.{split_members, overfull}
use Rattle.edit_topology.specs.Facts.Lists.{not_more}
use Rattle.edit_topology.specs.Facts.Staying.{split_members_same}

module _ {A : Type 0} where
  -- two tests that agree on each row select the same rows
  same_left : (p q s : Name × Element A → Bool) → ((r : Name × Element A) → s r ≡ true → p r ≡ q r) → (es : Rows A) → list_all s es ≡ true → filter p es ≡ filter q es
  same_left p q s same [] h = refl
  same_left p q s same (r ∷ es) h =
      let own = same r (first_true (s r) (list_all s es) h) in
      let rest = same_left p q s same es (second_true (s r) (list_all s es) h) in
      λ j. cond (own j) (r ∷ rest j) (rest j)

  -- on a sound map, a relation that would get too long names w
  pub overfull_are_users : (m : Rows A) (w v : Name) → is_sound m ≡ true
      → overfull m w v ≡ names_of (filter (λ r. refers_to r.1 w && nat_lt most_members (length (split_members w v (members_of (Some r.1))))) m)
  overfull_are_users m w v sound =
      ap names_of (same_left over (λ r. refers_to r.1 w && over r) (λ r. is_sound_row m r.0 r.1) (λ r h. row r.1 (lengthy r h)) m (second_true (is_sorted name_cmp m) (list_all (λ r. is_sound_row m r.0 r.1) m) sound))
    where
      over : Name × Element A → Bool
      over r = nat_lt most_members (length (split_members w v (members_of (Some r.1))))

      lengthy : (r : Name × Element A) → is_sound_row m r.0 r.1 ≡ true → is_of_length r.1 ≡ true
      lengthy r h =
          let refs = list_all (is_present m) (references r.1) in
          first_true (is_of_length r.1) refs (second_true (is_made r.1) (is_of_length r.1 && refs) (second_true (is_kind (kind_of r.1) r.0.kind) (is_made r.1 && (is_of_length r.1 && refs)) h))

      row : (u : Element A) → is_of_length u ≡ true → nat_lt most_members (length (split_members w v (members_of (Some u)))) ≡ (refers_to u w && nat_lt most_members (length (split_members w v (members_of (Some u)))))
      row (Node lat lon tags) h = refl
      row (Way nodes tags) h = by (is_among nodes w)
        where
          by : (b : Bool) → false ≡ (b && false)
          by true = refl
          by false = refl
      row (Relation members tags) h = by (is_among (map (λ r. r.0) members) w) refl
        where
          by : (b : Bool) → is_among (map (λ r. r.0) members) w ≡ b → nat_lt most_members (length (split_members w v members)) ≡ (b && nat_lt most_members (length (split_members w v members)))
          by true e = refl
          by false e = ap (λ l. nat_lt most_members (length l)) (split_members_same w v members e) ∙ not_more (length members) most_members h
