-- The facts of an accepted unglue, the rows after it, and that it keeps a sound map sound and changes it.
use Rattle.std.proofs.Common.{sym, ap, subst, ◌∙◌, arith, length-set}
use Rattle.std.specs.Prelude.{◌≡◌, ◌≢◌, ℕ, ℤ, zero, suc, Bool, true, false, not, ◌&&◌, ◌||◌, List, [], ◌∷◌, Some, None, is_some, length, set, nat_lt, nat_le, refl, cond, option_and_then, option_map, unwrap_or, slice_get}
use Rattle.std.proofs.lemmas.Bool.Decides.{nat_tests}
use Rattle.edit_simple.specs.Prelude.{is_node, Rows, is_same, is_among, is_kind, is_present, is_absent, row_at, AreInOrder, Pairs, same_names, is_eq-name_cmp_itself, is_sound, most_nodes, row_at-with_row, AreInOrder-with_row, sound_in_order, first_that_holds, is_way, nodes_of, with_nodes, each_row, at_name, Nones, nones, not_so, from_false, AreInOrder-each_row, row_at-each_row, way_there, node_there, told_node, all_listed, all_from, or_right, is_among_own, Fine, fine, fine_in, stays_sound, rewritten, still_there, differ_at}
use Rattle.osm_elements.specs.declared.name.Name.{Name}
use Rattle.osm_elements.specs.declared.element.Element.{Element}
use Rattle.osm_elements.specs.declared.element.Element.TheVariants.{Node, Way, Relation}
use Rattle.room_interface.specs.declared.refusal.Refusal.{Refusal}
use Rattle.room_interface.specs.declared.refusal.Refusal.TheVariants.{Absent, Present, WrongKind, BadPosition}
use Rattle.edit_topology.specs.Facts.Fitting.{FitsWay, way_fits, fine_way, same_fine}
use Rattle.edit_topology.specs.Unglue.{row_standing, unglue_checks, after_unglue}
use Rattle.osm_elements.specs.declared.name.Kind.TheVariants as kinds

-- ---- lists with one entry replaced

none_within : (i : ℕ) → nat_lt i 0 ≡ true → ⊥
none_within i h = grind (arith, nat_tests)

less : (i n : ℕ) → nat_lt (suc i) (suc n) ≡ true → nat_lt i n ≡ true
less i n h = grind (arith, nat_tests)

-- the entry at a position of the list
entry_at : (l : List Name) (i : ℕ) → nat_lt i (length l) ≡ true → (e : Name) × (slice_get l i ≡ Some e) × (is_among l e ≡ true)
entry_at [] i h = absurd (none_within i h)
entry_at (x ∷ xs) zero h = (x, refl, is_among_own x xs)
entry_at (x ∷ xs) (suc i) h = let rest = entry_at xs i (less i (length xs) h) in (rest.0, rest.1, or_right (is_same rest.0 x) (is_among xs rest.0) rest.2)

-- each name in the new list is the new entry, or was there before
among_set : (l : List Name) (i : ℕ) (v e : Name) → is_among (set l i v) e ≡ true → (is_same e v || is_among l e) ≡ true
among_set [] i v e h = absurd (cc)
among_set (x ∷ xs) zero v e h = by (is_same e v) h
  where
    by : (b : Bool) → (b || is_among xs e) ≡ true → (b || (is_same e x || is_among xs e)) ≡ true
    by true j = refl
    by false j = or_right (is_same e x) (is_among xs e) j
among_set (x ∷ xs) (suc i) v e h = by (is_same e x) (is_same e v) h (among_set xs i v e)
  where
    by : (b s : Bool) → (b || is_among (set xs i v) e) ≡ true → (is_among (set xs i v) e ≡ true → (s || is_among xs e) ≡ true) → (s || (b || is_among xs e)) ≡ true
    by b true j rest = refl
    by true false j rest = refl
    by false false j rest = rest j

-- the new list has the new entry
pub new_among : (l : List Name) (i : ℕ) (v : Name) → nat_lt i (length l) ≡ true → is_among (set l i v) v ≡ true
new_among [] i v h = absurd (none_within i h)
new_among (x ∷ xs) zero v h = is_among_own v xs
new_among (x ∷ xs) (suc i) v h = or_right (is_same v x) (is_among (set xs i v) v) (new_among xs i v (less i (length xs) h))

module _ {A : Type 0} where
  -- ---- what is true if an unglue is accepted

  -- a node at a position of a list, and its row
  pub record Standing (m : Rows A) (nodes : List Name) (i : ℕ) : Type 0 where
    pub name : Name
    pub at : slice_get nodes i ≡ Some name
    pub lat : ℤ
    pub lon : ℤ
    pub tags : Pairs
    pub row : row_at m name ≡ Some (Node lat lon tags)

  -- in a sound map, each position of a way has a node with a row
  pub standing : (m : Rows A) (w : Name) (nodes : List Name) (tags : Pairs) (i : ℕ) → is_sound m ≡ true → row_at m w ≡ Some (Way nodes tags) → nat_lt i (length nodes) ≡ true → Standing m nodes i
  standing m w nodes tags i sound is within =
      let its = entry_at nodes i within in
      let fits = way_fits m w nodes tags (fine m sound w (Way nodes tags) is) in
      let node = node_there m its.0 sound (all_listed (λ n. is_node n.kind) nodes its.0 fits.made its.2) (fits.refs its.0 its.2) in
      record { name = its.0; at = its.1; lat = node.0; lon = node.1; tags = node.2; row = node.3 }

  pub record Unglues (m : Rows A) (w : Name) (i : ℕ) (v : Name) : Type 0 where
    pub nodes : List Name
    pub tags : Pairs
    pub row : row_at m w ≡ Some (Way nodes tags)
    pub way_w : is_way w.kind ≡ true
    pub node_v : is_node v.kind ≡ true
    pub fresh : is_present m v ≡ false
    pub inside : nat_lt i (length nodes) ≡ true
    pub stood : Standing m nodes i

  pub unglues : (m : Rows A) (w : Name) (i : ℕ) (v : Name) → is_sound m ≡ true → first_that_holds (unglue_checks m w i v) ≡ None → Unglues m w i v
  unglues m w i v sound ok = record {
    nodes = way.0;
    tags = way.1;
    row = way.2;
    way_w = is;
    node_v = from_false (is_node v.kind) (not_so {X = Refusal A} (not (is_node v.kind)) (WrongKind v) none.1.0);
    fresh = not_so {X = Refusal A} (is_present m v) (Present v) none.1.1.1.0;
    inside = within;
    stood = standing m w way.0 way.1 i sound way.2 within;
  }
    where
      none : Nones (unglue_checks m w i v)
      none = nones (unglue_checks m w i v) ok

      is : is_way w.kind ≡ true
      is = from_false (is_way w.kind) (not_so {X = Refusal A} (not (is_way w.kind)) (WrongKind w) none.0)

      way : (nodes : List Name) × (tags : Pairs) × (row_at m w ≡ Some (Way nodes tags))
      way = way_there m w sound is (from_false (is_present m w) (not_so {X = Refusal A} (is_absent m w) (Absent w) none.1.1.0))

      within : nat_lt i (length way.0) ≡ true
      within = ap (λ o. nat_lt i (length (nodes_of o))) (sym way.2) ∙ from_false (nat_lt i (length (nodes_of (row_at m w)))) (not_so {X = Refusal A} (not (nat_lt i (length (nodes_of (row_at m w))))) BadPosition none.1.1.1.1.0)

  -- ---- the rows after it

  -- a row after the unglue, if it was there before
  abbrev pub unglue_row : Name → ℕ → Name → Name → Element A → Element A
  unglue_row w i v y u = at_name w (with_nodes (λ list. set list i v)) y u

  pub row_standing_is : (m : Rows A) (w : Name) (i : ℕ) (v : Name) (s : Unglues m w i v) → row_standing m w i ≡ row_at m s.stood.name
  row_standing_is m w i v s = ap (λ o. option_and_then (row_at m) (slice_get (nodes_of o) i)) s.row ∙ ap (option_and_then (row_at m)) s.stood.at

  pub row_at-after_unglue : (m : Rows A) (w : Name) (i : ℕ) (v y : Name) → row_at (after_unglue m w i v) y ≡ cond (is_same y v) (row_standing m w i) (option_map (unglue_row w i v y) (row_at m y))
  row_at-after_unglue m w i v y =
      row_at-with_row (each_row (unglue_row w i v) m) v (row_standing m w i) y ∙ ap (cond (is_same y v) (row_standing m w i)) (row_at-each_row (unglue_row w i v) m y)

  pub AreInOrder-after_unglue : (m : Rows A) (w : Name) (i : ℕ) (v : Name) → AreInOrder m → AreInOrder (after_unglue m w i v)
  AreInOrder-after_unglue m w i v h = AreInOrder-with_row (each_row (unglue_row w i v) m) v (row_standing m w i) (AreInOrder-each_row (unglue_row w i v) m h)

  -- w is not v, because w is present
  pub not_new : (m : Rows A) (w : Name) (i : ℕ) (v : Name) → Unglues m w i v → is_same w v ≡ false
  not_new m w i v s = by (is_same w v) refl
    where
      by : (b : Bool) → is_same w v ≡ b → b ≡ false
      by true e = absurd (cc (sym s.fresh ∙ ap (is_present m) (sym (same_names w v e)) ∙ ap is_some s.row))
      by false e = refl

  -- the row of v afterwards
  pub new_row : (m : Rows A) (w : Name) (i : ℕ) (v : Name) → row_at (after_unglue m w i v) v ≡ row_standing m w i
  new_row m w i v = row_at-after_unglue m w i v v ∙ ap (λ b. cond b (row_standing m w i) (option_map (unglue_row w i v v) (row_at m v))) (is_eq-name_cmp_itself v)

  -- the row of w afterwards
  pub way_after : (m : Rows A) (w : Name) (i : ℕ) (v : Name) → is_same w v ≡ false → (u : Element A) → row_at m w ≡ Some u → row_at (after_unglue m w i v) w ≡ Some (with_nodes (λ list. set list i v) u)
  way_after m w i v other u is =
      row_at-after_unglue m w i v w ∙ ap (λ b. cond b (row_standing m w i) (option_map (unglue_row w i v w) (row_at m w))) other
      ∙ ap (option_map (unglue_row w i v w)) is ∙ ap (λ b. Some (cond b (with_nodes (λ list. set list i v) u) u)) (is_eq-name_cmp_itself w)

  -- ---- the map after it is sound, and differs

  module _ (m : Rows A) (w : Name) (i : ℕ) (v : Name) (sound : is_sound m ≡ true) (s : Unglues m w i v) where
    abbrev n : Rows A
    n = after_unglue m w i v

    copied : row_standing m w i ≡ Some (Node s.stood.lat s.stood.lon s.stood.tags)
    copied = row_standing_is m w i v s ∙ s.stood.row

    there_new : is_present n v ≡ true
    there_new = ap is_some (new_row m w i v ∙ copied)

    more : (e : Name) → is_present m e ≡ true → is_present n e ≡ true
    more e here = ap is_some (row_at-after_unglue m w i v e) ∙ by (is_same e v)
      where
        by : (b : Bool) → is_some (cond b (row_standing m w i) (option_map (unglue_row w i v e) (row_at m e))) ≡ true
        by true = ap is_some copied
        by false = still_there (unglue_row w i v e) (row_at m e) ∙ here

    -- the list with v at position i
    set_fits : (nodes : List Name) → FitsWay m nodes → FitsWay n (set nodes i v)
    set_fits nodes f = record {
      made = all_from (λ z. is_node z.kind) (set nodes i v) (λ e j. of e (is_same e v) refl (among_set nodes i v e j));
      lengthy = ap (λ k. nat_le 2 k && nat_le k most_nodes) (length-set nodes i v) ∙ f.lengthy;
      refs = λ e j. there e (is_same e v) refl (among_set nodes i v e j);
    }
      where
        of : (e : Name) (b : Bool) → is_same e v ≡ b → (b || is_among nodes e) ≡ true → is_node e.kind ≡ true
        of e true t j = ap (λ (z : Name). is_node z.kind) (same_names e v t) ∙ s.node_v
        of e false t j = all_listed (λ z. is_node z.kind) nodes e f.made j

        there : (e : Name) (b : Bool) → is_same e v ≡ b → (b || is_among nodes e) ≡ true → is_present n e ≡ true
        there e true t j = ap (is_present n) (same_names e v t) ∙ there_new
        there e false t j = more e (f.refs e j)

    -- a way with v at position i; any other row is unchanged
    set_fine : (y : Name) (u : Element A) → Fine m y u → Fine n y (with_nodes (λ list. set list i v) u)
    set_fine y (Node lat lon tags) f = fine_in m n more y (Node lat lon tags) f
    set_fine y (Way nodes tags) f = fine_way m n y nodes (set nodes i v) tags f (set_fits nodes (way_fits m y nodes tags f))
    set_fine y (Relation members tags) f = fine_in m n more y (Relation members tags) f

    row_fine : (y : Name) (u : Element A) → Fine m y u → Fine n y (unglue_row w i v y u)
    row_fine y u f = by (is_same w y)
      where
        by : (b : Bool) → Fine n y (cond b (with_nodes (λ list. set list i v) u) u)
        by true = set_fine y u f
        by false = fine_in m n more y u f

    -- the new node has the element of the old one
    new_fine : Fine n v (Node s.stood.lat s.stood.lon s.stood.tags)
    new_fine =
        let old : Fine m s.stood.name (Node s.stood.lat s.stood.lon s.stood.tags) = fine m sound s.stood.name (Node s.stood.lat s.stood.lon s.stood.tags) s.stood.row in
        record { kind = ap (λ k. is_kind kinds.Node k) (told_node v.kind s.node_v); made = old.made; lengthy = old.lengthy; refs = λ e j. absurd (cc) }

    each_fine : (y : Name) (u : Element A) (b : Bool) → is_same y v ≡ b → cond b (row_standing m w i) (option_map (unglue_row w i v y) (row_at m y)) ≡ Some u → Fine n y u
    each_fine y u true t is = subst (λ (z : Name). Fine n z u) (sym (same_names y v t)) (same_fine n v (Node s.stood.lat s.stood.lon s.stood.tags) u (ap (λ o. unwrap_or o u) (sym copied ∙ is)) new_fine)
    each_fine y u false t is = let old = rewritten (unglue_row w i v y) (row_at m y) u is in same_fine n y (unglue_row w i v y old.0) u old.2 (row_fine y old.0 (fine m sound y old.0 old.1))

  pub unglue_accepted : (m : Rows A) (w : Name) (i : ℕ) (v : Name) → is_sound m ≡ true → first_that_holds (unglue_checks m w i v) ≡ None
      → (is_sound (after_unglue m w i v) ≡ true) × (after_unglue m w i v ≢ m)
  unglue_accepted m w i v sound ok =
      let s = unglues m w i v sound ok in (
        stays_sound m (after_unglue m w i v) (λ y o. cond (is_same y v) (row_standing m w i) (option_map (unglue_row w i v y) o))
            (record { in_order = AreInOrder-after_unglue m w i v (sound_in_order m sound); rows = row_at-after_unglue m w i v })
            (λ y u is. each_fine m w i v sound s y u (is_same y v) refl is),
        differ_at (after_unglue m w i v) m v (there_new m w i v sound s) s.fresh,
      )
