-- An accepted purge keeps a sound map sound, and changes it.
use Rattle.std.proofs.Common.{sym, ap, subst, ◌∙◌, arith}
use Rattle.std.specs.Prelude.{◌≡◌, ◌≢◌, ◌≤◌, ℕ, Bool, true, false, not, ◌&&◌, ◌||◌, List, [], ◌∷◌, Some, None, is_some, length, map, nat_lt, nat_le, refl, cond, filter, option_map}
use Rattle.std.proofs.lemmas.Bool.Decides.{nat_tests}
use Rattle.osm_drafts.specs.Prelude.{list_all, find-where_key, is_sorted-where_key, name_cmp, is_node, are_nodes, Rows, is_same, is_among, is_present, is_absent, are_members, row_at, are_tags, is_long, name_cmp-IsAntisymmetric, same_names, is_eq-name_cmp_itself, row_at_is_find, both_true, first_true, second_true, is_among-passing, is_sound, most_nodes, most_members, sound_in_order}
use Rattle.osm_elements.specs.declared.name.Name.{Name}
use Rattle.osm_elements.specs.declared.element.Element.{Element}
use Rattle.room_interface.specs.declared.refusal.Refusal.{Refusal}
use Rattle.room_interface.specs.declared.refusal.Refusal.TheVariants.{Absent}
use Rattle.edit_simple.specs.Checks.{first_that_holds}
use Rattle.edit_simple.specs.Contents.{nodes_of}
use Rattle.edit_simple.specs.Purge.{without, falls_short, goes, what_is_left, purge_checks, after_purge}
use Rattle.edit_simple.specs.Facts.Checked.{nones, not_so, from_false, from_not}
use Rattle.edit_simple.specs.Facts.EachRow.{AreInOrder-each_row, row_at-each_row}
use Rattle.edit_simple.specs.Facts.Kinds.{node_there}
use Rattle.edit_simple.specs.Facts.Lists.{or_left, or_right, second_false, at_least, is_among_own, all_listed}
use Rattle.edit_simple.specs.Facts.Rewriting.{Fine, fine, Rewrites, stays_sound, rewritten, still_there, differ_at}
use Rattle.osm_elements.specs.declared.element.Element.TheVariants as elements

-- ---- filtered lists

pub shorter : {X : Type 0} (p : X → Bool) (xs : List X) → length (filter p xs) ≤ length xs
shorter p [] = omega arith
shorter p (x ∷ xs) = by (p x) (shorter p xs)
  where
    by : (b : Bool) → length (filter p xs) ≤ length xs → length (cond b (x ∷ filter p xs) (filter p xs)) ≤ length (x ∷ xs)
    by true i = omega arith
    by false i = omega arith

within : (n k most : ℕ) → n ≤ k → nat_le k most ≡ true → nat_le n most ≡ true
within n k most h e = grind (arith, nat_tests)

all_kept : {X : Type 0} (q p : X → Bool) (xs : List X) → list_all q xs ≡ true → list_all q (filter p xs) ≡ true
all_kept q p [] h = refl
all_kept q p (x ∷ xs) h = by (p x) (all_kept q p xs (second_true (q x) (list_all q xs) h))
  where
    by : (b : Bool) → list_all q (filter p xs) ≡ true → list_all q (cond b (x ∷ filter p xs) (filter p xs)) ≡ true
    by true i = both_true (q x) (list_all q (filter p xs)) (first_true (q x) (list_all q xs) h) i
    by false i = i

-- if all names pass, a filter keeps them all
pub all_left : (p : Name → Bool) (xs : List Name) → ((e : Name) → is_among xs e ≡ true → p e ≡ true) → filter p xs ≡ xs
all_left p [] h = refl
all_left p (x ∷ xs) h =
    ap (λ b. cond b (x ∷ filter p xs) (filter p xs)) (h x (is_among_own x xs)) ∙ ap (λ l. x ∷ l) (all_left p xs (λ e i. h e (or_right (is_same e x) (is_among xs e) i)))

-- a name that a list does not contain differs from each name in it
pub other_than : (x : Name) (xs : List Name) → is_among xs x ≡ false → (e : Name) → is_among xs e ≡ true → is_same x e ≡ false
other_than x xs none e i = by (is_same x e) refl
  where
    by : (b : Bool) → is_same x e ≡ b → b ≡ false
    by true s = absurd (cc (sym none ∙ ap (is_among xs) (same_names x e s) ∙ i))
    by false s = refl

-- a list that does not contain x stays the same without x
pub without_none : (x : Name) (xs : List Name) → is_among xs x ≡ false → without x xs ≡ xs
without_none x xs none = all_left (λ n. not (is_same x n)) xs (λ e i. ap not (other_than x xs none e i))

-- the names of the members that stay
pub names_left : (p : Name → Bool) (members : List (Name × List ℕ)) → map (λ r. r.0) (filter (λ r. p r.0) members) ≡ filter p (map (λ r. r.0) members)
names_left p [] = refl
names_left p (r ∷ members) = by (p r.0) (names_left p members)
  where
    by : (b : Bool) → map (λ r. r.0) (filter (λ r. p r.0) members) ≡ filter p (map (λ r. r.0) members)
        → map (λ r. r.0) (cond b (r ∷ filter (λ r. p r.0) members) (filter (λ r. p r.0) members)) ≡ cond b (r.0 ∷ filter p (map (λ r. r.0) members)) (filter p (map (λ r. r.0) members))
    by true i = ap (λ l. r.0 ∷ l) i
    by false i = i

module _ {A : Type 0} where
  -- ---- the rows after a purge

  -- the row at a name, among the rows whose names pass
  pub row_at-passing : (p : Name → Bool) (m : Rows A) (y : Name) → row_at (filter (λ r. p r.0) m) y ≡ cond (p y) (row_at m y) None
  row_at-passing p m y =
      row_at_is_find (filter (λ r. p r.0) m) y ∙ find-where_key name_cmp p y (λ z e. ap p (sym (name_cmp-IsAntisymmetric y z e))) m ∙ ap (λ o. cond (p y) o None) (sym (row_at_is_find m y))

  -- the row at a name after a purge
  pub row_at-after_purge : (m : Rows A) (x y : Name) → row_at (after_purge m x) y ≡ cond (goes m x y) None (option_map (what_is_left m x) (row_at m y))
  row_at-after_purge m x y =
      row_at-each_row (λ _ v. what_is_left m x v) (filter (λ r. not (goes m x r.0)) m) y ∙ ap (option_map (what_is_left m x)) (row_at-passing (λ z. not (goes m x z)) m y)
      ∙ by (goes m x y)
    where
      by : (b : Bool) → option_map (what_is_left m x) (cond (not b) (row_at m y) None) ≡ cond b None (option_map (what_is_left m x) (row_at m y))
      by true = refl
      by false = refl

  purge_rewrites : (m : Rows A) (x : Name) → is_sound m ≡ true → Rewrites m (after_purge m x) (λ y o. cond (goes m x y) None (option_map (what_is_left m x) o))
  purge_rewrites m x sound = record {
    in_order = AreInOrder-each_row (λ _ v. what_is_left m x v) (filter (λ r. not (goes m x r.0)) m) (is_sorted-where_key name_cmp (λ z. not (goes m x z)) m (sound_in_order m sound));
    rows = row_at-after_purge m x;
  }

  pub x_goes : (m : Rows A) (x : Name) → goes m x x ≡ true
  x_goes m x = or_left (is_same x x) (falls_short x (nodes_of (row_at m x))) (is_eq-name_cmp_itself x)

  -- a removed name has no row
  pub is_gone : (m : Rows A) (x e : Name) → goes m x e ≡ true → row_at (after_purge m x) e ≡ None
  is_gone m x e gone = row_at-after_purge m x e ∙ ap (λ b. cond b None (option_map (what_is_left m x) (row_at m e))) gone

  module _ (m : Rows A) (x : Name) (sound : is_sound m ≡ true) where
    -- a name that is not removed still has a row
    stands : (e : Name) → is_present m e ≡ true → goes m x e ≡ false → is_present (after_purge m x) e ≡ true
    stands e here stays =
        ap is_some (row_at-after_purge m x e ∙ ap (λ b. cond b None (option_map (what_is_left m x) (row_at m e))) stays) ∙ still_there (what_is_left m x) (row_at m e) ∙ here

    -- a node other than x is not removed
    node_stays : (e : Name) → is_node e.kind ≡ true → is_present m e ≡ true → is_same x e ≡ false → goes m x e ≡ false
    node_stays e node here other =
        let row = node_there m e sound node here in
        ap (λ o. is_same x e || falls_short x (nodes_of o)) row.3 ∙ ap (λ b. b || false) other

    left_fine : (y : Name) (v : Element A) → row_at m y ≡ Some v → goes m x y ≡ false → Fine m y v → Fine (after_purge m x) y (what_is_left m x v)
    left_fine y (elements.Node lat lon tags) is stays f = record { kind = f.kind; made = f.made; lengthy = refl; refs = λ e i. absurd (cc) }
    left_fine y (elements.Way nodes tags) is stays f = record {
      kind = f.kind;
      made = both_true (are_nodes (without x nodes)) (are_tags tags) (all_kept (λ n. is_node n.kind) (λ n. not (is_same x n)) nodes nodes_made) (second_true (are_nodes nodes) (are_tags tags) f.made);
      lengthy = both_true (nat_le 2 (length (without x nodes))) (nat_le (length (without x nodes)) most_nodes) (two (is_among nodes x) refl)
          (within (length (without x nodes)) (length nodes) most_nodes (shorter (λ n. not (is_same x n)) nodes) (second_true (nat_le 2 (length nodes)) (nat_le (length nodes) most_nodes) f.lengthy));
      refs = λ e i.
          let parts = sym (is_among-passing (λ n. not (is_same x n)) nodes e) ∙ i in
          let among = second_true (not (is_same x e)) (is_among nodes e) parts in
          stands e (f.refs e among)
          (node_stays e (all_listed (λ n. is_node n.kind) nodes e nodes_made among) (f.refs e among) (from_not (is_same x e) (first_true (not (is_same x e)) (is_among nodes e) parts)));
    }
      where
        nodes_made : are_nodes nodes ≡ true
        nodes_made = first_true (are_nodes nodes) (are_tags tags) f.made

        long : falls_short x nodes ≡ false
        long = second_false (is_same x y) (falls_short x nodes) (ap (λ o. is_same x y || falls_short x (nodes_of o)) (sym is) ∙ stays)

        two : (b : Bool) → is_among nodes x ≡ b → nat_le 2 (length (without x nodes)) ≡ true
        two true i = at_least (length (without x nodes)) 2 (ap (λ b. b && nat_lt (length (without x nodes)) 2) (sym i) ∙ long)
        two false i = ap (λ l. nat_le 2 (length l)) (without_none x nodes i) ∙ first_true (nat_le 2 (length nodes)) (nat_le (length nodes) most_nodes) f.lengthy
    left_fine y (elements.Relation members tags) is stays f = record {
      kind = f.kind;
      made = both_true (are_members (filter (λ r. not (goes m x r.0)) members)) (are_tags tags)
          (all_kept (λ r. not (is_long r.1)) (λ r. not (goes m x r.0)) members (first_true (are_members members) (are_tags tags) f.made)) (second_true (are_members members) (are_tags tags) f.made);
      lengthy = within (length (filter (λ r. not (goes m x r.0)) members)) (length members) most_members (shorter (λ r. not (goes m x r.0)) members) f.lengthy;
      refs = λ e i.
          let parts = sym (is_among-passing (λ n. not (goes m x n)) (map (λ r. r.0) members) e) ∙ ap (λ l. is_among l e) (sym (names_left (λ n. not (goes m x n)) members)) ∙ i in
          stands e (f.refs e (second_true (not (goes m x e)) (is_among (map (λ r. r.0) members) e) parts)) (from_not (goes m x e) (first_true (not (goes m x e)) (is_among (map (λ r. r.0) members) e) parts));
    }

    pub purge_sound : is_sound (after_purge m x) ≡ true
    purge_sound = stays_sound m (after_purge m x) (λ y o. cond (goes m x y) None (option_map (what_is_left m x) o)) (purge_rewrites m x sound) (λ y u is. by y u (goes m x y) refl is)
      where
        by : (y : Name) (u : Element A) (b : Bool) → goes m x y ≡ b → cond b None (option_map (what_is_left m x) (row_at m y)) ≡ Some u → Fine (after_purge m x) y u
        by y u true g is = absurd (cc)
        by y u false g is =
            let row = rewritten (what_is_left m x) (row_at m y) u is in
            subst (λ z. Fine (after_purge m x) y z) row.2 (left_fine y row.0 row.1 g (fine m sound y row.0 row.1))

  pub purge_accepted : (m : Rows A) (x : Name) → is_sound m ≡ true → first_that_holds (purge_checks m x) ≡ None → (is_sound (after_purge m x) ≡ true) × (after_purge m x ≢ m)
  purge_accepted m x sound ok = (purge_sound m x sound, λ e. differ_at m (after_purge m x) x here (ap is_some (is_gone m x x (x_goes m x))) (sym e))
    where
      here : is_present m x ≡ true
      here = from_false (is_present m x) (not_so {X = Refusal A} (is_absent m x) (Absent x) (nones (purge_checks m x) ok).0)
