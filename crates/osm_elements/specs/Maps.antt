-- Maps, each the list of its rows in name order, and lists of names. (OpenStreetMap wiki, "Elements": nodes, ways and
-- relations; each kind has its own ids.)
use Rattle.std.specs.Prelude.{Bool, not, List, [], ◌∷◌, Option, Some, None, is_some, map, nat_eq, fold, filter}
use Rattle.std.specs.List.{list_all, list_any}
use Rattle.std.specs.Ordering.{is_eq, match_ordering, ord_min}
use Rattle.osm_elements.specs.declared.name.Name.{Name}
use Rattle.osm_elements.specs.declared.name.Kind.{Kind}
use Rattle.osm_elements.specs.declared.element.Element.{Element}
use Rattle.osm_elements.specs.Elements.{kind_of}
use Rattle.osm_elements.specs.Names.{kind_rank}
use Rattle.osm_elements.specs.NameOrder.{name_cmp}
use Rattle.osm_elements.specs.Rows.{row_at}
use Rattle.rising_lists.specs.Rising.{is_rising}

-- a row is a name and an element
abbrev pub Rows : Type 0 → Type 0
Rows A = List (Name × Element A)

-- two names are the same
abbrev pub is_same : Name → Name → Bool
is_same a b = is_eq (name_cmp a b)

-- the list contains the name
abbrev pub is_among : List Name → Name → Bool
is_among names x = list_any (is_same x) names

-- two kinds are the same
abbrev pub is_kind : Kind → Kind → Bool
is_kind k j = nat_eq (kind_rank k) (kind_rank j)

-- a rising list with one more name, unless it is already there
abbrev pub with_name : Name → List Name → List Name
with_name x [] = x ∷ []
with_name x (y ∷ ys) = match_ordering (name_cmp x y) (x ∷ y ∷ ys) (y ∷ ys) (y ∷ with_name x ys)

-- the names strictly rise
abbrev pub are_rising : List Name → Bool
are_rising names = is_rising name_cmp names

-- the names of a list, rising, each once
abbrev pub name_set : List Name → List Name
name_set names = fold (λ set x. with_name x set) [] names

-- the lesser of a name and a second name, if there is one
abbrev pub lesser : Name → Option Name → Name
lesser x None = x
lesser x (Some y) = ord_min name_cmp x y

-- the least name of a list
abbrev pub least : List Name → Option Name
least [] = None
least (x ∷ xs) = Some (lesser x (least xs))

module _ {A : Type 0} where
  abbrev pub names_of : Rows A → List Name
  names_of m = map (λ r. r.0) m

  -- the map has the name
  abbrev pub is_present : Rows A → Name → Bool
  is_present m x = is_some (row_at m x)

  abbrev pub is_absent : Rows A → Name → Bool
  is_absent m x = not (is_present m x)

  -- the rows whose names are not x
  abbrev pub rows_but : Name → Rows A → Rows A
  rows_but x m = filter (λ r. not (is_same x r.0)) m

  -- each element is of its name's kind
  abbrev pub are_of_kinds : Rows A → Bool
  are_of_kinds m = list_all (λ r. is_kind (kind_of r.1) r.0.kind) m
