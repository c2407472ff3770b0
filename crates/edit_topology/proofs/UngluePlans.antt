-- Plans of unglues: which rows change, and what they become.
use Rattle.std.proofs.Common.{◌≡◌, ◌++◌, ℕ, Bool, true, false, not, ◌||◌, ◌&&◌, ◌<◌, T, List, [], ◌∷◌, Option, Some, None, Ok, is_some, length, set, nat_lt, refl, append-nil, sym, ap, subst, ◌∙◌, arith, option_and_then, is_lt, nat_cmp, int_cmp, slice_get}
use Rattle.std.proofs.lemmas.Bool.Decides.{nat_tests}
use Rattle.std.proofs.lemmas.Option.{slice_get_within}
use Rattle.edit_topology.specs.Prelude.{then_some, ordering_then, Name, Element, Node, Way, Relation, is_node, Rows, is_same, kind_rank, row_at, Change, row_changes, differences, AreChanges, is_sound, AreChanges-row_changes, AreChanges-two_rows, BadPosition, first_that_holds, nodes_of, with_nodes, IsPlan, rest_decides, covering, told_node, told_way, unglue_checks, after_unglue, or_first, or_second, unglue_leaves, Unglues, unglues, standing, not_new, new_row, way_after}
use Rattle.osm_elements.specs.NameOrder.{name_cmp}
use Rattle.osm_refs.specs.Rising.{IsRising}
use Rattle.edit_topology.specs.Inner.Ungluing.{name_checks, node_standing}
use Rattle.osm_elements.specs.declared.name.Kind.TheVariants as kinds

-- a node's name comes before a way's
node_first : (v w : Name) → v.kind ≡ kinds.Node → w.kind ≡ kinds.Way → is_lt (name_cmp v w) ≡ true
unfolding name_cmp
node_first v w p q = λ i. is_lt (ordering_then (nat_cmp (kind_rank (p i)) (kind_rank (q i))) (int_cmp v.id w.id))

-- ---- checks in a row

less_test : (i n : ℕ) → i < n → nat_lt i n ≡ true
less_test i n l = grind (arith, nat_tests)

module _ {A : Type 0} where
  -- the changes of the new node come first
  pub first_fits : (v : Name) (node : Element A) (front : List (Change A)) → front ≡ [] → AreChanges (front ++ row_changes v None (Some node))
  first_fits v node front is = subst (λ cs. AreChanges (cs ++ row_changes v None (Some node))) (sym is) (AreChanges-row_changes v None (Some node))

  -- the changes of the way come after those of the new node
  pub second_fits : (v w : Name) (node unglued copy : Element A) → is_lt (name_cmp v w) ≡ true → (front : List (Change A)) → front ≡ row_changes v None (Some node)
      → AreChanges (front ++ row_changes w (Some copy) (Some unglued))
  second_fits v w node unglued copy lt front is =
      subst (λ cs. AreChanges (cs ++ row_changes w (Some copy) (Some unglued))) (sym is) (AreChanges-two_rows v w None (Some node) (Some copy) (Some unglued) lt)

  no_row : (o : Option (Element A)) → is_some o ≡ false → o ≡ None
  no_row None e = refl
  no_row (Some u) e = absurd (cc)

  module _ (m : Rows A) (w : Name) (i : ℕ) (v : Name) (way : Element A) (sound : is_sound m ≡ true) (named : first_that_holds (name_checks m w v) ≡ None) (row : row_at m w ≡ Some way) where
    abbrev n : Rows A
    n = after_unglue m w i v

    -- ---- the last check

    position : first_that_holds (unglue_checks m w i v) ≡ first_that_holds (then_some (not (nat_lt i (length (nodes_of (Some way))))) BadPosition ∷ [])
    position =
        rest_decides (name_checks m w v) (then_some (not (nat_lt i (length (nodes_of (row_at m w))))) BadPosition ∷ []) named
        ∙ ap (λ o. first_that_holds (then_some (not (nat_lt i (length (nodes_of o)))) BadPosition ∷ [])) row

    -- if no node is found, the position lies after the last
    beyond : (u : Element A) → row_at m w ≡ Some u → None ≡ node_standing m (nodes_of (Some u)) i → nat_lt i (length (nodes_of (Some u))) ≡ false
    beyond (Node lat lon tags) is none = grind (arith, nat_tests)
    beyond (Way nodes tags) is none = by (nat_lt i (length nodes)) refl
      where
        by : (b : Bool) → nat_lt i (length nodes) ≡ b → b ≡ false
        by true e = let s = standing m w nodes tags i sound is e in absurd (cc (none ∙ ap (option_and_then (row_at m)) s.at ∙ s.row))
        by false e = refl
    beyond (Relation members tags) is none = grind (arith, nat_tests)

    pub no_position : None ≡ node_standing m (nodes_of (Some way)) i → Some BadPosition ≡ first_that_holds (unglue_checks m w i v)
    no_position none = sym (position ∙ ap (λ b. first_that_holds (then_some (not b) BadPosition ∷ [])) (beyond way row none))

    -- if a node is found, the position is in the list
    pub within : (node : Element A) → Some node ≡ node_standing m (nodes_of (Some way)) i → i < length (nodes_of (Some way))
    within node found = by (slice_get (nodes_of (Some way)) i) refl found
      where
        by : (o : Option Name) → slice_get (nodes_of (Some way)) i ≡ o → Some node ≡ option_and_then (row_at m) o → i < length (nodes_of (Some way))
        by None e f = absurd (cc)
        by (Some x) e f = slice_get_within (nodes_of (Some way)) i x e

    -- ---- an accepted unglue

    module _ (node : Element A) (found : Some node ≡ node_standing m (nodes_of (Some way)) i) where
      pub accepted : first_that_holds (unglue_checks m w i v) ≡ None
      accepted = position ∙ ap (λ b. first_that_holds (then_some (not b) BadPosition ∷ [])) (less_test i (length (nodes_of (Some way))) (within node found))

      s : Unglues m w i v
      s = unglues m w i v sound accepted

      pub new_is_node : is_node v.kind ≡ true
      new_is_node = s.node_v

      pub in_order : is_lt (name_cmp v w) ≡ true
      in_order = node_first v w (told_node v.kind s.node_v) (told_way w.kind s.way_w)

      fresh : row_at m v ≡ None
      fresh = no_row (row_at m v) s.fresh

      new_node : row_at n v ≡ Some node
      new_node = new_row m w i v ∙ ap (λ o. option_and_then (row_at m) (slice_get (nodes_of o) i)) row ∙ sym found

      way_becomes : row_at n w ≡ Some (with_nodes (λ list. set list i v) way)
      way_becomes = way_after m w i v (not_new m w i v s) way row

      changes_are : row_changes v None (Some node) ++ row_changes w (Some way) (Some (with_nodes (λ list. set list i v) way)) ≡ differences m n
      changes_are =
          (λ j. row_changes v (sym fresh j) (sym new_node j) ++ row_changes w (sym row j) (sym way_becomes j))
          ∙ ap (λ cs. row_changes v (row_at m v) (row_at n v) ++ cs) (sym (append-nil (row_changes w (row_at m w) (row_at n w))))
          ∙ covering m n (v ∷ w ∷ []) rising
          (λ y out. unglue_leaves m w i v y (or_first (is_same y w) false (or_second (is_same y v) (is_same y w || false) out)) (or_first (is_same y v) (is_same y w || false) out))
        where
          rising : IsRising (v ∷ w ∷ [])
          rising = subst (λ b. T ((b && true) && true)) (sym in_order) tt

      pub unglue_planned : (after : Element A) → after ≡ with_nodes (λ list. set list i v) way → (cs : List (Change A))
          → cs ≡ row_changes v None (Some node) ++ row_changes w (Some way) (Some after) → IsPlan m (unglue_checks m w i v) n (Ok cs)
      unglue_planned after is cs e = (accepted, e ∙ ap (λ u. row_changes v None (Some node) ++ row_changes w (Some way) (Some u)) is ∙ changes_are)
