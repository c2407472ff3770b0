-- An accepted move keeps a sound map sound, and changes it.
use Rattle.std.proofs.Common.{sym, ap, ◌∙◌}
use Rattle.std.specs.Prelude.{◌≡◌, ◌≢◌, ℤ, pos, ◌+ℤ◌, Bool, true, false, not, ◌&&◌, ◌||◌, List, [], ◌∷◌, Option, Some, None, is_some, length, nat_eq, refl, cond, ◌-ℤ◌, filter, option_map}
use Rattle.std.proofs.Math.IntN.{+ℤ-neg_ℤ_cancel, +ℤ_comm, +ℤ_idl}
use Rattle.osm_drafts.specs.Prelude.{list_any, int_eq, latitude, longitude, is_node, are_nodes, Rows, is_among, is_present, row_at, Pairs, are_tags, both_true, first_true, second_true, is_sound, found_passes, none_passes, sound_in_order}
use Rattle.osm_elements.specs.declared.name.Name.{Name}
use Rattle.osm_elements.specs.declared.name.Kind.{Kind}
use Rattle.osm_elements.specs.declared.element.Element.{Element}
use Rattle.osm_elements.specs.declared.element.Element.TheVariants.{Node, Way, Relation}
use Rattle.room_interface.specs.declared.refusal.Refusal.{Refusal}
use Rattle.room_interface.specs.declared.refusal.Refusal.TheVariants.{WrongKind, OutOfRange, Nothing}
use Rattle.edit_simple.specs.Checks.{first_that_holds}
use Rattle.edit_simple.specs.Kinds.{is_way, is_relation}
use Rattle.edit_simple.specs.Move.{is_moved, moved_by, moves, is_out_of_range, left_range, move_checks, after_move}
use Rattle.edit_simple.specs.Contents.{nodes_of}
use Rattle.edit_simple.specs.Facts.Checked.{nones, not_so, from_false, from_not, no_least}
use Rattle.edit_simple.specs.Facts.Deleting.{names_of_none}
use Rattle.edit_simple.specs.Facts.Kinds.{node_there, way_there}
use Rattle.edit_simple.specs.Facts.Lists.{or_left, or_right, first_false, second_false, is_among_own, none_left}
use Rattle.edit_simple.specs.Facts.Relisting.{all_present}
use Rattle.edit_simple.specs.Facts.Rewriting.{Fine, fine, each_stays_sound, each_rewrites, differs}
use Rattle.osm_elements.specs.declared.name.Kind.TheVariants as kinds

-- if a sum is equal to its first part, the second part is 0
pub no_distance : (z d : ℤ) → z +ℤ d ≡ z → d ≡ pos 0
no_distance z d e = sym (+ℤ-neg_ℤ_cancel d z) ∙ ap (λ t. t -ℤ z) (+ℤ_comm d z ∙ e ∙ sym (+ℤ_idl z)) ∙ +ℤ-neg_ℤ_cancel (pos 0) z

module _ {A : Type 0} where
  -- a moved row that does not leave the range is fine
  moved_fine : (m : Rows A) (y : Name) (dlat dlon : ℤ) (v : Element A) → Fine m y v → is_out_of_range (moved_by dlat dlon v) ≡ false → Fine m y (moved_by dlat dlon v)
  moved_fine m y dlat dlon (Node lat lon tags) f t =
      let both = from_false (is_some (latitude (lat +ℤ dlat)) && is_some (longitude (lon +ℤ dlon))) t in
      record {
        kind = f.kind;
        made = both_true (is_some (latitude (lat +ℤ dlat))) (is_some (longitude (lon +ℤ dlon)) && are_tags tags) (first_true (is_some (latitude (lat +ℤ dlat))) (is_some (longitude (lon +ℤ dlon))) both)
            (both_true (is_some (longitude (lon +ℤ dlon))) (are_tags tags) (second_true (is_some (latitude (lat +ℤ dlat))) (is_some (longitude (lon +ℤ dlon))) both)
            (second_true (is_some (longitude lon)) (are_tags tags) (second_true (is_some (latitude lat)) (is_some (longitude lon) && are_tags tags) f.made)));
        lengthy = refl;
        refs = f.refs;
      }
  moved_fine m y dlat dlon (Way nodes tags) f t = f
  moved_fine m y dlat dlon (Relation members tags) f t = f

  lat_of : ℤ → Option (Element A) → ℤ
  lat_of d (Some (Node lat lon tags)) = lat
  lat_of d o = d

  lon_of : ℤ → Option (Element A) → ℤ
  lon_of d (Some (Node lat lon tags)) = lon
  lon_of d o = d

  -- a node that is moved by a distance other than 0 changes
  pub elsewhere : (lat lon dlat dlon : ℤ) (tags : Pairs) → (int_eq dlat (pos 0) && int_eq dlon (pos 0)) ≡ false → ◌≢◌ {A = Option (Element A)} (Some (Node (lat +ℤ dlat) (lon +ℤ dlon) tags)) (Some (Node lat lon tags))
  unfolding lat_of lon_of
  elsewhere lat lon dlat dlon tags some e =
      let no_lat = no_distance lat dlat (ap (lat_of lat) e) in
      let no_lon = no_distance lon dlon (ap (lon_of lon) e) in
      let zero = both_true (int_eq dlat (pos 0)) (int_eq dlon (pos 0)) (ap (λ d. int_eq d (pos 0)) no_lat) (ap (λ d. int_eq d (pos 0)) no_lon) in
      cc (sym zero ∙ some)

  -- the first node of a way of a sound map
  first_node : (m : Rows A) (w : Name) (nodes : List Name) (tags : Pairs) → Fine m w (Way nodes tags)
      → (n : Name) × (is_node n.kind ≡ true) × (is_among nodes n ≡ true) × (is_present m n ≡ true)
  first_node m w [] tags f = absurd (cc (f.lengthy))
  first_node m w (n ∷ nodes) tags f = (
    n,
    first_true (is_node n.kind) (are_nodes nodes) (first_true (are_nodes (n ∷ nodes)) (are_tags tags) f.made),
    is_among_own n nodes,
    f.refs n (is_among_own n nodes),
  )

  -- a list of present names that is not empty and has no relation moves a node
  some_moved : (m : Rows A) (list : List Name) → is_sound m ≡ true → nat_eq (length list) 0 ≡ false
      → ((e : Name) → is_among list e ≡ true → is_present m e ≡ true) → ((e : Name) → is_among list e ≡ true → is_relation e.kind ≡ false)
      → (n : Name) × (is_node n.kind ≡ true) × (is_moved m list n ≡ true) × (is_present m n ≡ true)
  some_moved m [] sound full here kinds_ok = absurd (cc)
  some_moved m (e ∷ list) sound full here kinds_ok = by (is_node e.kind) refl (is_way e.kind) refl
    where
      own : is_among (e ∷ list) e ≡ true
      own = is_among_own e list

      no_other : (k : Kind) → is_node k ≡ false → is_way k ≡ false → is_relation k ≡ false → ⊥
      no_other kinds.Node n w r = cc
      no_other kinds.Way n w r = cc
      no_other kinds.Relation n w r = cc

      by : (b : Bool) → is_node e.kind ≡ b → (c : Bool) → is_way e.kind ≡ c → (n : Name) × (is_node n.kind ≡ true) × (is_moved m (e ∷ list) n ≡ true) × (is_present m n ≡ true)
      by true node c way = (
        e,
        node,
        both_true (is_node e.kind) (is_among (e ∷ list) e || list_any (λ w. is_among (nodes_of (row_at m w)) e) (e ∷ list)) node
            (or_left (is_among (e ∷ list) e) (list_any (λ w. is_among (nodes_of (row_at m w)) e) (e ∷ list)) own),
        here e own,
      )
      by false node true way =
          let row = way_there m e sound way (here e own) in
          let first = first_node m e row.0 row.1 (fine m sound e (Way row.0 row.1) row.2) in
          let n = first.0 in (
            n,
            first.1,
            both_true (is_node n.kind) (is_among (e ∷ list) n || list_any (λ w. is_among (nodes_of (row_at m w)) n) (e ∷ list)) first.1
                (or_right (is_among (e ∷ list) n) (list_any (λ w. is_among (nodes_of (row_at m w)) n) (e ∷ list))
                (or_left (is_among (nodes_of (row_at m e)) n) (list_any (λ w. is_among (nodes_of (row_at m w)) n) list) (ap (λ o. is_among (nodes_of o) n) row.2 ∙ first.2))),
            first.3,
          )
      by false node false way = absurd (no_other e.kind node way (kinds_ok e own))

  pub move_accepted : (m : Rows A) (list : List Name) (dlat dlon : ℤ) → is_sound m ≡ true → first_that_holds (move_checks m list dlat dlon) ≡ None
      → (is_sound (after_move m list dlat dlon) ≡ true) × (after_move m list dlat dlon ≢ m)
  move_accepted m list dlat dlon sound ok = (
    each_stays_sound m sound (moves m list dlat dlon) (λ y v is f. fits y v is f (is_moved m list y) refl),
    differs m (after_move m list dlat dlon) (λ y. option_map (moves m list dlat dlon y)) (each_rewrites m (sound_in_order m sound) (moves m list dlat dlon)) node.0 other,
  )
    where
      empty : left_range m list dlat dlon ≡ []
      empty = no_least {A = A} OutOfRange (left_range m list dlat dlon) (nones (move_checks m list dlat dlon) ok).1.1.0

      stays_in : (y : Name) (v : Element A) → row_at m y ≡ Some v → (is_moved m list y && is_out_of_range (moved_by dlat dlon v)) ≡ false
      stays_in y v is =
          let leaves = λ (r : Name × Element A). is_moved m list r.0 && is_out_of_range (moved_by dlat dlon r.1) in
          from_not (is_moved m list y && is_out_of_range (moved_by dlat dlon v))
          (found_passes (λ z u. not (is_moved m list z && is_out_of_range (moved_by dlat dlon u))) m (none_passes leaves m (names_of_none (filter leaves m) empty)) y v is)

      fits : (y : Name) (v : Element A) → row_at m y ≡ Some v → Fine m y v → (b : Bool) → is_moved m list y ≡ b → Fine m y (cond b (moved_by dlat dlon v) v)
      fits y v is f true t = moved_fine m y dlat dlon v f (ap (λ b. b && is_out_of_range (moved_by dlat dlon v)) (sym t) ∙ stays_in y v is)
      fits y v is f false t = f

      something : (nat_eq (length list) 0 || (int_eq dlat (pos 0) && int_eq dlon (pos 0))) ≡ false
      something = not_so {X = Refusal A} (nat_eq (length list) 0 || (int_eq dlat (pos 0) && int_eq dlon (pos 0))) Nothing (nones (move_checks m list dlat dlon) ok).1.1.1.0

      node : (n : Name) × (is_node n.kind ≡ true) × (is_moved m list n ≡ true) × (is_present m n ≡ true)
      node = some_moved m list sound (first_false (nat_eq (length list) 0) (int_eq dlat (pos 0) && int_eq dlon (pos 0)) something)
          (all_present m list (nones (move_checks m list dlat dlon) ok).1.0)
          (none_left (λ e. is_relation e.kind) list (no_least {A = A} WrongKind (filter (λ e. is_relation e.kind) list) (nones (move_checks m list dlat dlon) ok).0))

      other : option_map (moves m list dlat dlon node.0) (row_at m node.0) ≢ row_at m node.0
      other e =
          let row = node_there m node.0 sound node.1 node.3 in
          still row.0 row.1 row.2 row.3 e
        where
          still : (lat lon : ℤ) (tags : Pairs) → row_at m node.0 ≡ Some (Node lat lon tags) → option_map (moves m list dlat dlon node.0) (row_at m node.0) ≢ row_at m node.0
          still lat lon tags is e =
              elsewhere lat lon dlat dlon tags (second_false (nat_eq (length list) 0) (int_eq dlat (pos 0) && int_eq dlon (pos 0)) something)
              (ap (λ b. Some (cond b (moved_by dlat dlon (Node lat lon tags)) (Node lat lon tags))) (sym node.2) ∙ ap (option_map (moves m list dlat dlon node.0)) (sym is) ∙ e ∙ is)
