-- Lists that a way or a relation may have in a map.
use Rattle.std.proofs.Common.{subst}
use Rattle.std.specs.Prelude.{◌≡◌, ℕ, ℤ, Bool, true, false, not, ◌&&◌, List, [], Some, length, map, nat_le, refl, filter}
use Rattle.edit_simple.specs.Prelude.{are_nodes, Rows, is_among, is_present, names_of, are_members, row_at, Pairs, are_tags, both_true, first_true, second_true, most_nodes, most_members, found_passes, none_passes, names_of_none, Fine}
use Rattle.osm_elements.specs.declared.name.Name.{Name}
use Rattle.osm_elements.specs.declared.element.Element.{Element}
use Rattle.osm_elements.specs.declared.element.Element.TheVariants.{Node, Way, Relation}
use Rattle.edit_topology.specs.Facts.Lists.{from_not}

module _ {A : Type 0} where
  -- 2 to 2,000 nodes, all present
  pub record FitsWay (m : Rows A) (nodes : List Name) : Type 0 where
    pub made : are_nodes nodes ≡ true
    pub lengthy : (nat_le 2 (length nodes) && nat_le (length nodes) most_nodes) ≡ true
    pub refs : (e : Name) → is_among nodes e ≡ true → is_present m e ≡ true

  -- at most 32,000 members, all present
  pub record FitsRelation (m : Rows A) (members : List (Name × List ℕ)) : Type 0 where
    pub made : are_members members ≡ true
    pub lengthy : nat_le (length members) most_members ≡ true
    pub refs : (e : Name) → is_among (map (λ r. r.0) members) e ≡ true → is_present m e ≡ true

  pub way_fits : (m : Rows A) (y : Name) (nodes : List Name) (tags : Pairs) → Fine m y (Way nodes tags) → FitsWay m nodes
  way_fits m y nodes tags f = record { made = first_true (are_nodes nodes) (are_tags tags) f.made; lengthy = f.lengthy; refs = f.refs }

  pub relation_fits : (m : Rows A) (y : Name) (members : List (Name × List ℕ)) (tags : Pairs) → Fine m y (Relation members tags) → FitsRelation m members
  relation_fits m y members tags f = record { made = first_true (are_members members) (are_tags tags) f.made; lengthy = f.lengthy; refs = f.refs }

  -- a fine row stays fine with another list that fits, possibly in another map
  pub fine_node : (m n : Rows A) (y : Name) (lat lon : ℤ) (tags : Pairs) → Fine m y (Node lat lon tags) → Fine n y (Node lat lon tags)
  fine_node m n y lat lon tags f = record { kind = f.kind; made = f.made; lengthy = refl; refs = λ e i. absurd (cc) }

  pub fine_way : (m n : Rows A) (y : Name) (nodes list : List Name) (tags : Pairs) → Fine m y (Way nodes tags) → FitsWay n list → Fine n y (Way list tags)
  fine_way m n y nodes list tags f fits = record {
    kind = f.kind;
    made = both_true (are_nodes list) (are_tags tags) fits.made (second_true (are_nodes nodes) (are_tags tags) f.made);
    lengthy = fits.lengthy;
    refs = fits.refs;
  }

  pub fine_relation : (m n : Rows A) (y : Name) (members list : List (Name × List ℕ)) (tags : Pairs) → Fine m y (Relation members tags) → FitsRelation n list → Fine n y (Relation list tags)
  fine_relation m n y members list tags f fits = record {
    kind = f.kind;
    made = both_true (are_members list) (are_tags tags) fits.made (second_true (are_members members) (are_tags tags) f.made);
    lengthy = fits.lengthy;
    refs = fits.refs;
  }

  pub same_fine : (n : Rows A) (y : Name) (v u : Element A) → v ≡ u → Fine n y v → Fine n y u
  same_fine n y v u e f = subst (λ (z : Element A). Fine n y z) e f

  -- if no name has a row that passes a test, every row fails it
  pub none_named : (p : Name → Element A → Bool) (m : Rows A) → names_of (filter (λ r. p r.0 r.1) m) ≡ [] → (y : Name) (v : Element A) → row_at m y ≡ Some v → p y v ≡ false
  none_named p m none y v is =
      from_not (p y v) (found_passes (λ z u. not (p z u)) m (none_passes (λ r. p r.0 r.1) m (names_of_none (filter (λ r. p r.0 r.1) m) none)) y v is)
