-- An accepted reverse, nodes or members keeps a sound map sound, and changes it.
use Rattle.std.proofs.Common.{sym, ap, ◌∙◌}
use Rattle.std.specs.Prelude.{◌≡◌, ◌≢◌, ℕ, true, false, not, ◌&&◌, List, [], Some, None, length, map, nat_lt, nat_le, reverse, ⊤, filter}
use Rattle.std.proofs.lemmas.List.{length-reverse}
use Rattle.osm_drafts.specs.Prelude.{is_node, are_nodes, Rows, is_among, is_present, is_absent, are_members, row_at, Pairs, are_tags, both_true, first_true, second_true, are_same_names, are_same_members, are_same_tags, is_sound, most_nodes, most_members, same_element}
use Rattle.osm_elements.specs.declared.name.Name.{Name}
use Rattle.osm_elements.specs.declared.element.Element.{Element}
use Rattle.room_interface.specs.declared.refusal.Refusal.{Refusal}
use Rattle.room_interface.specs.declared.refusal.Refusal.TheVariants.{Absent, WrongKind, TooFew, TooMany, Nothing}
use Rattle.edit_simple.specs.Checks.{first_that_holds, the_least}
use Rattle.edit_simple.specs.Kinds.{is_way, is_relation}
use Rattle.edit_simple.specs.Contents.{nodes_of, members_of, with_nodes, with_members}
use Rattle.edit_simple.specs.Reverse.{reverse_checks, after_reverse}
use Rattle.edit_simple.specs.Nodes.{nodes_checks, after_nodes}
use Rattle.edit_simple.specs.Members.{members_checks, after_members}
use Rattle.edit_simple.specs.Facts.Checked.{nones, not_so, from_false, no_least}
use Rattle.edit_simple.specs.Facts.Kinds.{way_there, relation_there}
use Rattle.edit_simple.specs.Facts.Lists.{at_least, all_listed, all_from, none_left, is_among-reverse}
use Rattle.edit_simple.specs.Facts.Rewriting.{Fine, one_stays_sound, one_differs}
use Rattle.osm_elements.specs.declared.element.Element.TheVariants as elements

-- a list passes the test of equality with itself
pub same_nodes_itself : (list : List Name) → are_same_names list list ≡ true
same_nodes_itself list = first_true (are_same_names list list) (are_same_tags [] []) (same_element {A = ⊤} (elements.Way list []))

pub same_members_itself : (list : List (Name × List ℕ)) → are_same_members list list ≡ true
same_members_itself list = first_true (are_same_members list list) (are_same_tags [] []) (same_element {A = ⊤} (elements.Relation list []))

module _ {A : Type 0} where
  -- if no listed name is absent, each is present
  pub all_present : (m : Rows A) (list : List Name) → the_least {A = A} Absent (filter (is_absent m) list) ≡ None → (e : Name) → is_among list e ≡ true → is_present m e ≡ true
  all_present m list none e i = from_false (is_present m e) (none_left (is_absent m) list (no_least {A = A} Absent (filter (is_absent m) list) none) e i)

  reversed : (m : Rows A) (y : Name) (v : Element A) → Fine m y v → Fine m y (with_nodes reverse v)
  reversed m y (elements.Node lat lon tags) f = f
  reversed m y (elements.Way nodes tags) f = record {
    kind = f.kind;
    made = both_true (are_nodes (reverse nodes)) (are_tags tags)
        (all_from (λ n. is_node n.kind) (reverse nodes) (λ e i. all_listed (λ n. is_node n.kind) nodes e (first_true (are_nodes nodes) (are_tags tags) f.made) (sym (is_among-reverse nodes e) ∙ i)))
        (second_true (are_nodes nodes) (are_tags tags) f.made);
    lengthy = ap (λ n. nat_le 2 n && nat_le n most_nodes) (length-reverse nodes) ∙ f.lengthy;
    refs = λ e i. f.refs e (sym (is_among-reverse nodes e) ∙ i);
  }
  reversed m y (elements.Relation members tags) f = f

  pub reverse_accepted : (m : Rows A) (w : Name) → is_sound m ≡ true → first_that_holds (reverse_checks m w) ≡ None → (is_sound (after_reverse m w) ≡ true) × (after_reverse m w ≢ m)
  reverse_accepted m w sound ok =
      (one_stays_sound m sound w (with_nodes reverse) (λ v is f. reversed m w v f), one_differs m w (with_nodes reverse) (elements.Way way.0 way.1) way.2 nodes_of turned)
    where
      way : (nodes : List Name) × (tags : Pairs) × (row_at m w ≡ Some (elements.Way nodes tags))
      way =
          way_there m w sound
          (from_false (is_way w.kind) (not_so {X = Refusal A} (not (is_way w.kind)) (WrongKind w) (nones (reverse_checks m w) ok).0))
          (from_false (is_present m w) (not_so {X = Refusal A} (is_absent m w) (Absent w) (nones (reverse_checks m w) ok).1.0))

      turned : reverse way.0 ≢ way.0
      turned e =
          let other : are_same_names (nodes_of (row_at m w)) (reverse (nodes_of (row_at m w))) ≡ false = not_so {X = Refusal A} (are_same_names (nodes_of (row_at m w)) (reverse (nodes_of (row_at m w)))) Nothing (nones (reverse_checks m w) ok).1.1.0 in
          cc (sym (same_nodes_itself way.0) ∙ ap (are_same_names way.0) (sym e) ∙ ap (λ o. are_same_names (nodes_of o) (reverse (nodes_of o))) (sym way.2) ∙ other)

  -- a way with an allowed list is fine
  pub listed : (m : Rows A) (y : Name) (list : List Name) → are_nodes list ≡ true → nat_lt (length list) 2 ≡ false → nat_lt most_nodes (length list) ≡ false
      → ((e : Name) → is_among list e ≡ true → is_present m e ≡ true) → (v : Element A) → Fine m y v → Fine m y (with_nodes (λ _. list) v)
  listed m y list made few many here (elements.Node lat lon tags) f = f
  listed m y list made few many here (elements.Way nodes tags) f = record {
    kind = f.kind;
    made = both_true (are_nodes list) (are_tags tags) made (second_true (are_nodes nodes) (are_tags tags) f.made);
    lengthy = both_true (nat_le 2 (length list)) (nat_le (length list) most_nodes) (at_least (length list) 2 few) (at_least most_nodes (length list) many);
    refs = here;
  }
  listed m y list made few many here (elements.Relation members tags) f = f

  pub nodes_accepted : (m : Rows A) (w : Name) (list : List Name) → is_sound m ≡ true → are_nodes list ≡ true → first_that_holds (nodes_checks m w list) ≡ None
      → (is_sound (after_nodes m w list) ≡ true) × (after_nodes m w list ≢ m)
  nodes_accepted m w list sound made ok = (
    one_stays_sound m sound w (with_nodes (λ _. list)) (λ v is f. listed m w list made
        (not_so {X = Refusal A} (nat_lt (length list) 2) (TooFew w) (nones (nodes_checks m w list) ok).1.1.0)
        (not_so {X = Refusal A} (nat_lt most_nodes (length list)) (TooMany w) (nones (nodes_checks m w list) ok).1.1.1.0)
        (all_present m list (nones (nodes_checks m w list) ok).1.1.1.1.0) v f),
    one_differs m w (with_nodes (λ _. list)) (elements.Way way.0 way.1) way.2 nodes_of other,
  )
    where
      way : (nodes : List Name) × (tags : Pairs) × (row_at m w ≡ Some (elements.Way nodes tags))
      way =
          way_there m w sound
          (from_false (is_way w.kind) (not_so {X = Refusal A} (not (is_way w.kind)) (WrongKind w) (nones (nodes_checks m w list) ok).0))
          (from_false (is_present m w) (not_so {X = Refusal A} (is_absent m w) (Absent w) (nones (nodes_checks m w list) ok).1.0))

      other : list ≢ way.0
      other e =
          let told : are_same_names (nodes_of (row_at m w)) list ≡ false = not_so {X = Refusal A} (are_same_names (nodes_of (row_at m w)) list) Nothing (nones (nodes_checks m w list) ok).1.1.1.1.1.0 in
          cc (sym (same_nodes_itself list) ∙ ap (λ l. are_same_names l list) e ∙ ap (λ o. are_same_names (nodes_of o) list) (sym way.2) ∙ told)

  membered : (m : Rows A) (y : Name) (list : List (Name × List ℕ)) → are_members list ≡ true → nat_lt most_members (length list) ≡ false
      → ((e : Name) → is_among (map (λ r. r.0) list) e ≡ true → is_present m e ≡ true) → (v : Element A) → Fine m y v → Fine m y (with_members (λ _. list) v)
  membered m y list made many here (elements.Node lat lon tags) f = f
  membered m y list made many here (elements.Way nodes tags) f = f
  membered m y list made many here (elements.Relation members tags) f = record {
    kind = f.kind;
    made = both_true (are_members list) (are_tags tags) made (second_true (are_members members) (are_tags tags) f.made);
    lengthy = at_least most_members (length list) many;
    refs = here;
  }

  pub members_accepted : (m : Rows A) (r : Name) (list : List (Name × List ℕ)) → is_sound m ≡ true → are_members list ≡ true → first_that_holds (members_checks m r list) ≡ None
      → (is_sound (after_members m r list) ≡ true) × (after_members m r list ≢ m)
  members_accepted m r list sound made ok = (
    one_stays_sound m sound r (with_members (λ _. list)) (λ v is f. membered m r list made
        (not_so {X = Refusal A} (nat_lt most_members (length list)) (TooMany r) (nones (members_checks m r list) ok).1.1.0)
        (all_present m (map (λ e. e.0) list) (nones (members_checks m r list) ok).1.1.1.0) v f),
    one_differs m r (with_members (λ _. list)) (elements.Relation relation.0 relation.1) relation.2 members_of other,
  )
    where
      relation : (members : List (Name × List ℕ)) × (tags : Pairs) × (row_at m r ≡ Some (elements.Relation members tags))
      relation =
          relation_there m r sound
          (from_false (is_relation r.kind) (not_so {X = Refusal A} (not (is_relation r.kind)) (WrongKind r) (nones (members_checks m r list) ok).0))
          (from_false (is_present m r) (not_so {X = Refusal A} (is_absent m r) (Absent r) (nones (members_checks m r list) ok).1.0))

      other : list ≢ relation.0
      other e =
          let told : are_same_members (members_of (row_at m r)) list ≡ false = not_so {X = Refusal A} (are_same_members (members_of (row_at m r)) list) Nothing (nones (members_checks m r list) ok).1.1.1.1.0 in
          cc (sym (same_members_itself list) ∙ ap (λ l. are_same_members l list) e ∙ ap (λ o. are_same_members (members_of o) list) (sym relation.2) ∙ told)
