-- An accepted merge keeps a sound map sound, and changes it.
use Rattle.std.proofs.Common.{sym, ap, ◌∙◌, arith}
use Rattle.std.specs.Prelude.{◌≡◌, ◌≢◌, ◌≤◌, suc, ℕ, Bool, true, false, ◌&&◌, ◌||◌, not, List, [], ◌∷◌, Some, None, length, nat_lt, nat_le, map, refl, cond}
use Rattle.std.proofs.lemmas.List.{length-map}
use Rattle.edit_simple.specs.Prelude.{dedup_from, tags_of, is_node, Rows, is_same, is_among, is_present, is_absent, row_at, Pairs, same_either_way, same_names, both_true, first_true, second_true, is_sound, most_nodes, most_members, first_that_holds, nodes_of, row_tags, with_nodes, with_tags, with_members, at_name, most_tags, Nones, nones, not_so, from_false, no_least, or_right, at_least, all_listed, all_from, fine_tagged, made_tags, Fine, fine, at_one}
use Rattle.osm_elements.specs.declared.name.Name.{Name}
use Rattle.osm_elements.specs.declared.element.Element.{Element}
use Rattle.osm_elements.specs.declared.element.Element.TheVariants.{Node, Way, Relation}
use Rattle.room_interface.specs.declared.refusal.Refusal.{Refusal}
use Rattle.room_interface.specs.declared.refusal.Refusal.TheVariants.{Absent, WrongKind, Same, TooFew, TooMany}
use Rattle.edit_topology.specs.BothTags.{both_tags}
use Rattle.edit_topology.specs.Merge.{without_doubled, merged_nodes, shrunk, merge_checks, after_merge, merge_row}
use Rattle.edit_topology.specs.Renaming.{renamed, renamed_members}
use Rattle.edit_topology.specs.Facts.BothTags.{are_tags-both_tags, are_tags-row_tags}
use Rattle.edit_topology.specs.Facts.EachBut.{each_but_there, each_but_accepted}
use Rattle.edit_topology.specs.Facts.Fitting.{way_fits, relation_fits, fine_node, fine_way, fine_relation, none_named}
use Rattle.edit_topology.specs.Facts.Lists.{or_cases, still_short, another_name}
use Rattle.edit_topology.specs.Facts.Renaming.{renamed_gone, renamed_within, names-renamed_members, are_members-renamed}

-- ---- the list

from_shorter : (same : Name → Name → Bool) (x : Name) (xs : List Name) → length (dedup_from same x xs) ≤ suc (length xs)
from_shorter same x [] = omega arith
from_shorter same x (z ∷ zs) = by (same z x) (from_shorter same x zs) (from_shorter same z zs)
  where
    by : (b : Bool) → length (dedup_from same x zs) ≤ suc (length zs) → length (dedup_from same z zs) ≤ suc (length zs) → length (cond b (dedup_from same x zs) (x ∷ dedup_from same z zs)) ≤ suc (suc (length zs))
    by true i k = omega arith
    by false i k = omega arith

-- each name that is left was there
from_within : (same : Name → Name → Bool) (e x : Name) (xs : List Name) → is_among (dedup_from same x xs) e ≡ true → (is_same e x || is_among xs e) ≡ true
from_within same e x [] h = h
from_within same e x (z ∷ zs) h = by (same z x) h (is_same e x) refl (from_within same e x zs) (from_within same e z zs)
  where
    by : (b : Bool) → is_among (cond b (dedup_from same x zs) (x ∷ dedup_from same z zs)) e ≡ true → (c : Bool) → is_same e x ≡ c
        → (is_among (dedup_from same x zs) e ≡ true → (is_same e x || is_among zs e) ≡ true) → (is_among (dedup_from same z zs) e ≡ true → (is_same e z || is_among zs e) ≡ true)
        → (c || (is_same e z || is_among zs e)) ≡ true
    by b f true t i k = refl
    by true f false t i k = or_right (is_same e z) (is_among zs e) (sym (ap (λ c. c || is_among zs e) t) ∙ i f)
    by false f false t i k = k (sym (ap (λ c. c || is_among (dedup_from same z zs) e) t) ∙ f)

undoubled_within : (k e : Name) (nodes : List Name) → is_among (without_doubled k nodes) e ≡ true → is_among nodes e ≡ true
undoubled_within k e [] h = h
undoubled_within k e (x ∷ xs) h = from_within (λ n before. is_same k n && is_same k before) e x xs h

undoubled_shorter : (k : Name) (nodes : List Name) → length (without_doubled k nodes) ≤ length nodes
undoubled_shorter k [] = omega arith
undoubled_shorter k (x ∷ xs) = from_shorter (λ n before. is_same k n && is_same k before) x xs

merged_within : (k g e : Name) (nodes : List Name) → is_among (merged_nodes k g nodes) e ≡ true → (is_same e k || is_among nodes e) ≡ true
merged_within k g e nodes h = by (is_among nodes g) h
  where
    by : (b : Bool) → is_among (cond b (without_doubled k (map (renamed g k) nodes)) nodes) e ≡ true → (is_same e k || is_among nodes e) ≡ true
    by true i = renamed_within g k e nodes (undoubled_within k e (map (renamed g k) nodes) i)
    by false i = or_right (is_same e k) (is_among nodes e) i

merged_shorter : (k g : Name) (nodes : List Name) → length (merged_nodes k g nodes) ≤ length nodes
merged_shorter k g nodes = by (is_among nodes g)
  where
    by : (b : Bool) → length (cond b (without_doubled k (map (renamed g k) nodes)) nodes) ≤ length nodes
    by true =
        let shorter = undoubled_shorter k (map (renamed g k) nodes) in
        let same : length (map (renamed g k) nodes) ≡ length nodes = length-map nodes (renamed g k) in
        omega arith
    by false = omega arith

-- the list no longer names g
merged_gone : (k g : Name) → is_same g k ≡ false → (nodes : List Name) → is_among (merged_nodes k g nodes) g ≡ false
merged_gone k g apart nodes = by (is_among nodes g) refl
  where
    left : (b : Bool) → is_among (without_doubled k (map (renamed g k) nodes)) g ≡ b → b ≡ false
    left true i = absurd (cc (sym (undoubled_within k g (map (renamed g k) nodes) i) ∙ renamed_gone g k apart nodes))
    left false i = refl

    by : (b : Bool) → is_among nodes g ≡ b → is_among (cond b (without_doubled k (map (renamed g k) nodes)) nodes) g ≡ false
    by true i = left (is_among (without_doubled k (map (renamed g k) nodes)) g) refl
    by false i = i

module _ {A : Type 0} where
  -- what is true if a merge is accepted
  pub record Merges (m : Rows A) (k g : Name) : Type 0 where
    pub node_k : is_node k.kind ≡ true
    pub node_g : is_node g.kind ≡ true
    pub apart : is_same k g ≡ false
    pub here_k : is_present m k ≡ true
    pub here_g : is_present m g ≡ true
    pub long : (y : Name) (u : Element A) → row_at m y ≡ Some u → (is_among (nodes_of (Some u)) g && nat_lt (length (merged_nodes k g (nodes_of (Some u)))) 2) ≡ false
    pub few : nat_lt most_tags (length (both_tags (row_tags (row_at m k)) (row_tags (row_at m g)))) ≡ false

  pub merges : (m : Rows A) (k g : Name) → first_that_holds (merge_checks m k g) ≡ None → Merges m k g
  merges m k g ok = record {
    node_k = from_false (is_node k.kind) (not_so {X = Refusal A} (not (is_node k.kind)) (WrongKind k) none.0);
    node_g = from_false (is_node g.kind) (not_so {X = Refusal A} (not (is_node g.kind)) (WrongKind g) none.1.0);
    apart = not_so {X = Refusal A} (is_same k g) (Same k) none.1.1.0;
    here_k = from_false (is_present m k) (not_so {X = Refusal A} (is_absent m k) (Absent k) none.1.1.1.0);
    here_g = from_false (is_present m g) (not_so {X = Refusal A} (is_absent m g) (Absent g) none.1.1.1.1.0);
    long = none_named (λ y u. is_among (nodes_of (Some u)) g && nat_lt (length (merged_nodes k g (nodes_of (Some u)))) 2) m (no_least {A = A} TooFew (shrunk m k g) none.1.1.1.1.1.0);
    few = not_so {X = Refusal A} (nat_lt most_tags (length (both_tags (row_tags (row_at m k)) (row_tags (row_at m g))))) (TooMany k) none.1.1.1.1.1.1.1.0;
  }
    where
      none : Nones (merge_checks m k g)
      none = nones (merge_checks m k g) ok

  nodes_same : (f : Pairs → Pairs) (b : Bool) (u : Element A) → nodes_of (Some (cond b (with_tags f u) u)) ≡ nodes_of (Some u)
  nodes_same f false u = refl
  nodes_same f true (Node lat lon tags) = refl
  nodes_same f true (Way nodes tags) = refl
  nodes_same f true (Relation members tags) = refl

  pub merge_accepted : (m : Rows A) (k g : Name) → is_sound m ≡ true → first_that_holds (merge_checks m k g) ≡ None → (is_sound (after_merge m k g) ≡ true) × (after_merge m k g ≢ m)
  merge_accepted m k g sound ok =
      each_but_accepted m g (merge_row m k g) sound s.here_g
      (λ y u is. lists y (at_name k (with_tags both) y u) (at_one m k y (with_tags both) u (fine m sound y u is) (λ same. tagged y u (ap (row_at m) (same_names k y same) ∙ is) (fine m sound y u is)))
      (ap (λ l. is_among l g && nat_lt (length (merged_nodes k g l)) 2) (nodes_same both (is_same k y) u) ∙ s.long y u is))
    where
      n : Rows A
      n = after_merge m k g

      s : Merges m k g
      s = merges m k g ok

      both : Pairs → Pairs
      both tags = both_tags tags (row_tags (row_at m g))

      -- the element of k
      tagged : (y : Name) (u : Element A) → row_at m k ≡ Some u → Fine m y u → Fine m y (with_tags both u)
      tagged y u is f =
          fine_tagged m y both u
          (are_tags-both_tags (tags_of u) (row_tags (row_at m g)) (made_tags u f.made) (are_tags-row_tags m sound g) (ap (λ o. nat_lt most_tags (length (both_tags (row_tags o) (row_tags (row_at m g))))) (sym is) ∙ s.few)) f

      there : (e : Name) → is_present m e ≡ true → is_same e g ≡ false → is_present n e ≡ true
      there = each_but_there m g (merge_row m k g)

      away : is_same g k ≡ false
      away = same_either_way g k ∙ s.apart

      -- the list of a row
      lists : (y : Name) (u : Element A) → Fine m y u → (is_among (nodes_of (Some u)) g && nat_lt (length (merged_nodes k g (nodes_of (Some u)))) 2) ≡ false
          → Fine n y (with_nodes (merged_nodes k g) (with_members (renamed_members g k) u))
      lists y (Node lat lon tags) f long = fine_node m n y lat lon tags f
      lists y (Way nodes tags) f long =
          let fits = way_fits m y nodes tags f in
          fine_way m n y nodes (merged_nodes k g nodes) tags f (record {
            made = all_from (λ z. is_node z.kind) (merged_nodes k g nodes) (λ e i. or_cases (is_same e k) (is_among nodes e) (is_node e.kind) (merged_within k g e nodes i)
                (λ t. ap (λ z. is_node z.kind) (same_names e k t) ∙ s.node_k) (all_listed (λ z. is_node z.kind) nodes e fits.made));
            lengthy = both_true (nat_le 2 (length (merged_nodes k g nodes))) (nat_le (length (merged_nodes k g nodes)) most_nodes) (two (is_among nodes g) refl)
                (still_short (length (merged_nodes k g nodes)) (length nodes) most_nodes (merged_shorter k g nodes) (second_true (nat_le 2 (length nodes)) (nat_le (length nodes) most_nodes) f.lengthy));
            refs = λ e i. there e
                (or_cases (is_same e k) (is_among nodes e) (is_present m e) (merged_within k g e nodes i) (λ t. ap (is_present m) (same_names e k t) ∙ s.here_k) (f.refs e))
                (another_name e g (merged_nodes k g nodes) i (merged_gone k g away nodes));
          })
        where
          two : (b : Bool) → is_among nodes g ≡ b → nat_le 2 (length (merged_nodes k g nodes)) ≡ true
          two true i = at_least (length (merged_nodes k g nodes)) 2 (ap (λ b. b && nat_lt (length (merged_nodes k g nodes)) 2) (sym i) ∙ long)
          two false i = ap (λ b. nat_le 2 (length (cond b (without_doubled k (map (renamed g k) nodes)) nodes))) i ∙ first_true (nat_le 2 (length nodes)) (nat_le (length nodes) most_nodes) f.lengthy
      lists y (Relation members tags) f long = fine_relation m n y members (renamed_members g k members) tags f (record {
        made = are_members-renamed g k members ∙ (relation_fits m y members tags f).made;
        lengthy = ap (λ l. nat_le l most_members) same ∙ f.lengthy;
        refs = λ e i. there e
            (or_cases (is_same e k) (is_among (map (λ r. r.0) members) e) (is_present m e) (renamed_within g k e (map (λ r. r.0) members) (sym (ap (λ l. is_among l e) (names-renamed_members g k members)) ∙ i))
            (λ t. ap (is_present m) (same_names e k t) ∙ s.here_k) (f.refs e))
            (another_name e g (map (λ r. r.0) (renamed_members g k members)) i (ap (λ l. is_among l g) (names-renamed_members g k members) ∙ renamed_gone g k away (map (λ r. r.0) members)));
      })
        where
          same : length (renamed_members g k members) ≡ length members
          same = length-map members (λ (e : Name × List ℕ). (renamed g k e.0, e.1))
