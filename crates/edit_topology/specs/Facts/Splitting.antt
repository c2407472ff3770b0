-- An accepted split keeps a sound map sound, and changes it.
use Rattle.std.proofs.Common.{sym, ap, subst, ◌∙◌, arith, length-drop}
use Rattle.std.specs.Prelude.{◌≡◌, ◌≢◌, ◌≤◌, ◌+◌, ◌-◌, ◌++◌, min, ℕ, Bool, true, false, not, ◌&&◌, ◌||◌, List, [], ◌∷◌, Some, None, is_some, length, nat_lt, nat_le, take, drop, map, refl, cond, option_map, unwrap_or}
use Rattle.std.proofs.lemmas.Bool.Decides.{nat_tests}
use Rattle.std.proofs.lemmas.List.{length-take}
use Rattle.edit_simple.specs.Prelude.{is_node, Rows, is_same, is_among, is_kind, is_present, is_absent, are_members, row_at, Pairs, is_long, same_names, is_eq-name_cmp_itself, row_at-put_row, AreInOrder-put_row, both_true, first_true, second_true, is_sound, most_nodes, most_members, sound_in_order, first_that_holds, is_way, nodes_of, members_of, row_tags, with_nodes, with_members, each_row, at_name, Nones, nones, not_so, from_false, no_least, AreInOrder-each_row, row_at-each_row, told_way, way_there, at_least, all_listed, all_from, Fine, fine, Rewrites, stays_sound, rewritten, still_there, at_one, differ_at}
use Rattle.osm_elements.specs.declared.name.Name.{Name}
use Rattle.osm_elements.specs.declared.element.Element.{Element}
use Rattle.osm_elements.specs.declared.element.Element.TheVariants.{Node, Way, Relation}
use Rattle.room_interface.specs.declared.refusal.Refusal.{Refusal}
use Rattle.room_interface.specs.declared.refusal.Refusal.TheVariants.{Absent, Present, WrongKind, BadPosition, TooMany}
use Rattle.edit_topology.specs.Split.{is_inside, split_members, overfull, split_checks, after_split, split_row, split_off}
use Rattle.edit_topology.specs.Facts.Fitting.{FitsWay, way_fits, relation_fits, fine_node, fine_way, fine_relation, same_fine, none_named}
use Rattle.edit_topology.specs.Facts.Lists.{or_cases, still_short, drop_within, take_within}
use Rattle.osm_elements.specs.declared.name.Kind.TheVariants as kinds

-- ---- the two lists

first_long : (i n t : ℕ) → t ≡ min (i + 1) n → (nat_lt 0 i && nat_lt (i + 1) n) ≡ true → nat_le 2 t ≡ true
first_long i n t e h = two (first_true (nat_lt 0 i) (nat_lt (i + 1) n) h) (second_true (nat_lt 0 i) (nat_lt (i + 1) n) h)
  where
    two : nat_lt 0 i ≡ true → nat_lt (i + 1) n ≡ true → nat_le 2 t ≡ true
    two p q = grind (arith, nat_tests)

first_short : (i n t : ℕ) → t ≡ min (i + 1) n → t ≤ n
first_short i n t e = omega arith

last_long : (i n d : ℕ) → d ≡ n - i → nat_lt (i + 1) n ≡ true → nat_le 2 d ≡ true
last_long i n d e h = grind (arith, nat_tests)

last_short : (i n d : ℕ) → d ≡ n - i → d ≤ n
last_short i n d e = omega arith

module _ {A : Type 0} where
  first_fits : (m : Rows A) (i : ℕ) (nodes : List Name) → FitsWay m nodes → is_inside i nodes ≡ true → FitsWay m (take (i + 1) nodes)
  first_fits m i nodes f inside = record {
    made = all_from (λ n. is_node n.kind) (take (i + 1) nodes) (λ e j. all_listed (λ n. is_node n.kind) nodes e f.made (take_within (i + 1) e nodes j));
    lengthy = both_true (nat_le 2 (length (take (i + 1) nodes))) (nat_le (length (take (i + 1) nodes)) most_nodes)
        (first_long i (length nodes) (length (take (i + 1) nodes)) (length-take (i + 1) nodes) inside)
        (still_short (length (take (i + 1) nodes)) (length nodes) most_nodes (first_short i (length nodes) (length (take (i + 1) nodes)) (length-take (i + 1) nodes)) (second_true (nat_le 2 (length nodes)) (nat_le (length nodes) most_nodes) f.lengthy));
    refs = λ e j. f.refs e (take_within (i + 1) e nodes j);
  }

  last_fits : (m : Rows A) (i : ℕ) (nodes : List Name) → FitsWay m nodes → is_inside i nodes ≡ true → FitsWay m (drop i nodes)
  last_fits m i nodes f inside = record {
    made = all_from (λ n. is_node n.kind) (drop i nodes) (λ e j. all_listed (λ n. is_node n.kind) nodes e f.made (drop_within i e nodes j));
    lengthy = both_true (nat_le 2 (length (drop i nodes))) (nat_le (length (drop i nodes)) most_nodes)
        (last_long i (length nodes) (length (drop i nodes)) (length-drop i nodes) (second_true (nat_lt 0 i) (nat_lt (i + 1) (length nodes)) inside))
        (still_short (length (drop i nodes)) (length nodes) most_nodes (last_short i (length nodes) (length (drop i nodes)) (length-drop i nodes)) (second_true (nat_le 2 (length nodes)) (nat_le (length nodes) most_nodes) f.lengthy));
    refs = λ e j. f.refs e (drop_within i e nodes j);
  }

-- ---- the members

split_within : (w v e : Name) (members : List (Name × List ℕ)) → is_among (map (λ r. r.0) (split_members w v members)) e ≡ true → (is_same e v || is_among (map (λ r. r.0) members) e) ≡ true
split_within w v e [] h = absurd (cc)
split_within w v e (r ∷ rs) h = by (is_same w r.0) h (is_same e v) refl (is_same e r.0) refl (split_within w v e rs)
  where
    names : List (Name × List ℕ) → List Name
    names l = map (λ r. r.0) l

    by : (b : Bool) → is_among (map (λ r. r.0) (cond b (r ∷ (v, r.1) ∷ []) (r ∷ []) ++ split_members w v rs)) e ≡ true → (s : Bool) → is_same e v ≡ s → (t : Bool) → is_same e r.0 ≡ t
        → (is_among (map (λ r. r.0) (split_members w v rs)) e ≡ true → (is_same e v || is_among (map (λ r. r.0) rs) e) ≡ true) → (s || (t || is_among (map (λ r. r.0) rs) e)) ≡ true
    by b i true p t q rest = refl
    by b i false p true q rest = refl
    by true i false p false q rest = ap (λ s. s || is_among (map (λ r. r.0) rs) e) (sym p)
        ∙ rest (ap (λ s. s || is_among (map (λ r. r.0) (split_members w v rs)) e) (sym p) ∙ ap (λ t. t || (is_same e v || is_among (map (λ r. r.0) (split_members w v rs)) e)) (sym q) ∙ i)
    by false i false p false q rest = ap (λ s. s || is_among (map (λ r. r.0) rs) e) (sym p) ∙ rest (ap (λ t. t || is_among (map (λ r. r.0) (split_members w v rs)) e) (sym q) ∙ i)

split_roles : (w v : Name) (members : List (Name × List ℕ)) → are_members members ≡ true → are_members (split_members w v members) ≡ true
split_roles w v [] h = refl
split_roles w v (r ∷ rs) h = by (is_same w r.0) (split_roles w v rs (second_true (not (is_long r.1)) (are_members rs) h))
  where
    own : not (is_long r.1) ≡ true
    own = first_true (not (is_long r.1)) (are_members rs) h

    by : (b : Bool) → are_members (split_members w v rs) ≡ true → are_members (cond b (r ∷ (v, r.1) ∷ []) (r ∷ []) ++ split_members w v rs) ≡ true
    by true i = both_true (not (is_long r.1)) (not (is_long r.1) && are_members (split_members w v rs)) own (both_true (not (is_long r.1)) (are_members (split_members w v rs)) own i)
    by false i = both_true (not (is_long r.1)) (are_members (split_members w v rs)) own i

module _ {A : Type 0} where
  -- what is true if a split is accepted
  pub record Splits (m : Rows A) (w : Name) (i : ℕ) (v : Name) : Type 0 where
    pub nodes : List Name
    pub tags : Pairs
    pub row : row_at m w ≡ Some (Way nodes tags)
    pub way_w : is_way w.kind ≡ true
    pub way_v : is_way v.kind ≡ true
    pub present : is_present m w ≡ true
    pub fresh : is_present m v ≡ false
    pub inside : is_inside i nodes ≡ true
    pub short : (y : Name) (u : Element A) → row_at m y ≡ Some u → nat_lt most_members (length (split_members w v (members_of (Some u)))) ≡ false

  pub splits : (m : Rows A) (w : Name) (i : ℕ) (v : Name) → is_sound m ≡ true → first_that_holds (split_checks m w i v) ≡ None → Splits m w i v
  splits m w i v sound ok = record {
    nodes = way.0;
    tags = way.1;
    row = way.2;
    way_w = is;
    way_v = from_false (is_way v.kind) (not_so {X = Refusal A} (not (is_way v.kind)) (WrongKind v) none.1.0);
    present = here;
    fresh = not_so {X = Refusal A} (is_present m v) (Present v) none.1.1.1.0;
    inside = ap (λ o. is_inside i (nodes_of o)) (sym way.2) ∙ from_false (is_inside i (nodes_of (row_at m w))) (not_so {X = Refusal A} (not (is_inside i (nodes_of (row_at m w)))) BadPosition none.1.1.1.1.0);
    short = none_named (λ y u. nat_lt most_members (length (split_members w v (members_of (Some u))))) m (no_least {A = A} TooMany (overfull m w v) none.1.1.1.1.1.0);
  }
    where
      none : Nones (split_checks m w i v)
      none = nones (split_checks m w i v) ok

      is : is_way w.kind ≡ true
      is = from_false (is_way w.kind) (not_so {X = Refusal A} (not (is_way w.kind)) (WrongKind w) none.0)

      here : is_present m w ≡ true
      here = from_false (is_present m w) (not_so {X = Refusal A} (is_absent m w) (Absent w) none.1.1.0)

      way : (nodes : List Name) × (tags : Pairs) × (row_at m w ≡ Some (Way nodes tags))
      way = way_there m w sound is here

  pub row_at-after_split : (m : Rows A) (w : Name) (i : ℕ) (v y : Name) → row_at (after_split m w i v) y ≡ cond (is_same y v) (Some (split_off m w i)) (option_map (split_row w i v y) (row_at m y))
  row_at-after_split m w i v y =
      row_at-put_row (each_row (split_row w i v) m) v (split_off m w i) y ∙ ap (cond (is_same y v) (Some (split_off m w i))) (row_at-each_row (split_row w i v) m y)

  pub split_rewrites : (m : Rows A) (w : Name) (i : ℕ) (v : Name) → is_sound m ≡ true
      → Rewrites m (after_split m w i v) (λ y o. cond (is_same y v) (Some (split_off m w i)) (option_map (split_row w i v y) o))
  split_rewrites m w i v sound = record {
    in_order = AreInOrder-put_row (each_row (split_row w i v) m) v (split_off m w i) (AreInOrder-each_row (split_row w i v) m (sound_in_order m sound));
    rows = row_at-after_split m w i v;
  }

  pub split_there : (m : Rows A) (w : Name) (i : ℕ) (v e : Name) → is_present m e ≡ true → is_present (after_split m w i v) e ≡ true
  split_there m w i v e here = ap is_some (row_at-after_split m w i v e) ∙ by (is_same e v)
    where
      by : (b : Bool) → is_some (cond b (Some (split_off m w i)) (option_map (split_row w i v e) (row_at m e))) ≡ true
      by true = refl
      by false = still_there (split_row w i v e) (row_at m e) ∙ here

  pub split_there_new : (m : Rows A) (w : Name) (i : ℕ) (v : Name) → is_present (after_split m w i v) v ≡ true
  split_there_new m w i v =
      ap is_some (row_at-after_split m w i v v ∙ ap (λ b. cond b (Some (split_off m w i)) (option_map (split_row w i v v) (row_at m v))) (is_eq-name_cmp_itself v))

  members_same : (f : List Name → List Name) (b : Bool) (u : Element A) → members_of (Some (cond b (with_nodes f u) u)) ≡ members_of (Some u)
  members_same f false u = refl
  members_same f true (Node lat lon tags) = refl
  members_same f true (Way nodes tags) = refl
  members_same f true (Relation members tags) = refl

  way_in : (m n : Rows A) (nodes : List Name) → ((e : Name) → is_present m e ≡ true → is_present n e ≡ true) → FitsWay m nodes → FitsWay n nodes
  way_in m n nodes more f = record { made = f.made; lengthy = f.lengthy; refs = λ e j. more e (f.refs e j) }

  pub split_accepted : (m : Rows A) (w : Name) (i : ℕ) (v : Name) → is_sound m ≡ true → first_that_holds (split_checks m w i v) ≡ None
      → (is_sound (after_split m w i v) ≡ true) × (after_split m w i v ≢ m)
  split_accepted m w i v sound ok =
      (stays_sound m n (λ y o. cond (is_same y v) (Some (split_off m w i)) (option_map (split_row w i v y) o)) (split_rewrites m w i v sound) (λ y u is. each y u (is_same y v) refl is), differ_at n m v (split_there_new m w i v) s.fresh)
    where
      n : Rows A
      n = after_split m w i v

      s : Splits m w i v
      s = splits m w i v sound ok

      more : (e : Name) → is_present m e ≡ true → is_present n e ≡ true
      more = split_there m w i v

      its : FitsWay m s.nodes
      its = way_fits m w s.nodes s.tags (fine m sound w (Way s.nodes s.tags) s.row)

      -- the new way
      new : Fine n v (split_off m w i)
      new = same_fine n v (Way (drop i s.nodes) s.tags) (split_off m w i) (sym (ap (λ o. Way (drop i (nodes_of o)) (row_tags o)) s.row))
          (fine_way m n v s.nodes (drop i s.nodes) s.tags (record { kind = ap (λ k. is_kind kinds.Way k) (told_way v.kind s.way_v); made = old.made; lengthy = old.lengthy; refs = old.refs }) (way_in m n (drop i s.nodes) more (last_fits m i s.nodes its s.inside)))
        where
          old : Fine m w (Way s.nodes s.tags)
          old = fine m sound w (Way s.nodes s.tags) s.row

      -- the row of w
      cut : (y : Name) (u : Element A) → row_at m w ≡ Some u → Fine m y u → Fine m y (with_nodes (take (i + 1)) u)
      cut y (Node lat lon tags) is f = f
      cut y (Way nodes tags) is f =
          fine_way m m y nodes (take (i + 1) nodes) tags f (first_fits m i nodes (way_fits m y nodes tags f) (ap (λ o. is_inside i (nodes_of o)) (sym is ∙ s.row) ∙ s.inside))
      cut y (Relation members tags) is f = f

      -- the members of a row
      lists : (y : Name) (u : Element A) → Fine m y u → nat_lt most_members (length (split_members w v (members_of (Some u)))) ≡ false → Fine n y (with_members (split_members w v) u)
      lists y (Node lat lon tags) f few = fine_node m n y lat lon tags f
      lists y (Way nodes tags) f few = fine_way m n y nodes nodes tags f (way_in m n nodes more (way_fits m y nodes tags f))
      lists y (Relation members tags) f few = fine_relation m n y members (split_members w v members) tags f (record {
        made = split_roles w v members (relation_fits m y members tags f).made;
        lengthy = at_least most_members (length (split_members w v members)) few;
        refs = λ e j. or_cases (is_same e v) (is_among (map (λ r. r.0) members) e) (is_present n e) (split_within w v e members j)
            (λ t. ap (is_present n) (same_names e v t) ∙ split_there_new m w i v) (λ t. more e (f.refs e t));
      })

      each : (y : Name) (u : Element A) (b : Bool) → is_same y v ≡ b → cond b (Some (split_off m w i)) (option_map (split_row w i v y) (row_at m y)) ≡ Some u → Fine n y u
      each y u true t is = subst (λ (z : Name). Fine n z u) (sym (same_names y v t)) (same_fine n v (split_off m w i) u (ap (λ o. unwrap_or o u) is) new)
      each y u false t is =
          let old = rewritten (split_row w i v y) (row_at m y) u is in
          let own = fine m sound y old.0 old.1 in
          same_fine n y (split_row w i v y old.0) u old.2
          (lists y (at_name w (with_nodes (take (i + 1))) y old.0) (at_one m w y (with_nodes (take (i + 1))) old.0 own (λ same. cut y old.0 (ap (row_at m) (same_names w y same) ∙ old.1) own))
          (ap (λ l. nat_lt most_members (length (split_members w v l))) (members_same (take (i + 1)) (is_same w y) old.0) ∙ s.short y old.0 old.1))
