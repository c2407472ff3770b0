-- An accepted join keeps a sound map sound, and changes it.
use Rattle.std.proofs.Common.{sym, ap, subst, ◌∙◌, arith, length-append}
use Rattle.std.specs.Prelude.{◌≡◌, ◌≢◌, ◌≤◌, ◌&&◌, ℕ, Bool, true, false, not, ◌||◌, List, [], ◌∷◌, Option, Some, None, length, nat_lt, nat_le, drop, map, refl, cond, filter, zip}
use Rattle.std.proofs.lemmas.List.{length-map}
use Rattle.edit_simple.specs.Prelude.{tags_of, is_node, Rows, is_same, is_among, is_present, is_absent, are_members, row_at, Pairs, are_tags, is_long, is_same_text, is_among-append, same_either_way, same_names, both_true, first_true, second_true, is_sound, most_nodes, most_members, first_that_holds, is_way, nodes_of, row_tags, with_tags, with_members, at_name, most_tags, Nones, nones, not_so, from_false, told_way, way_there, or_right, at_least, all_listed, all_from, fine_tagged, made_tags, Fine, fine, at_one}
use Rattle.osm_elements.specs.declared.name.Name.{Name}
use Rattle.osm_elements.specs.declared.element.Element.{Element}
use Rattle.osm_elements.specs.declared.element.Element.TheVariants.{Node, Way, Relation}
use Rattle.room_interface.specs.declared.refusal.Refusal.{Refusal}
use Rattle.room_interface.specs.declared.refusal.Refusal.TheVariants.{Absent, WrongKind, Same, TooMany}
use Rattle.edit_topology.specs.BothTags.{both_tags}
use Rattle.edit_topology.specs.Join.{end_to_end, goes_on, kept_members, joined_members, join_checks, after_join, lengthened, join_row}
use Rattle.edit_topology.specs.Renaming.{renamed}
use Rattle.edit_topology.specs.Facts.BothTags.{are_tags-both_tags, are_tags-row_tags}
use Rattle.edit_topology.specs.Facts.EachBut.{each_but_there, each_but_accepted}
use Rattle.edit_topology.specs.Facts.Fitting.{FitsWay, way_fits, relation_fits, fine_node, fine_way, fine_relation}
use Rattle.edit_topology.specs.Facts.Lists.{or_cases, still_short, still_long, drop_within, another_name, another_kind}
use Rattle.edit_topology.specs.Facts.Renaming.{renamed_gone, renamed_within, names-renamed_members, are_members-renamed}

-- ---- the members

-- a member that does not go on from the one in front of it is kept
pub kept_on : (w v : Name) (before : Option (Name × List ℕ)) (r : Name × List ℕ) (rs : List (Name × List ℕ)) → goes_on w v before r ≡ false → kept_members w v before (r ∷ rs) ≡ r ∷ kept_members w v (Some r) rs
kept_on w v before r rs e =
    ap (λ b. map (λ p. p.1) (cond (not b) ((before, r) ∷ filter (λ p. not (goes_on w v p.0 p.1)) (zip (Some r ∷ map Some rs) rs)) (filter (λ p. not (goes_on w v p.0 p.1)) (zip (Some r ∷ map Some rs) rs)))) e

-- a member that goes on from the one in front of it is dropped
pub kept_off : (w v : Name) (before : Option (Name × List ℕ)) (r : Name × List ℕ) (rs : List (Name × List ℕ)) → goes_on w v before r ≡ true → kept_members w v before (r ∷ rs) ≡ kept_members w v (Some r) rs
kept_off w v before r rs e =
    ap (λ b. map (λ p. p.1) (cond (not b) ((before, r) ∷ filter (λ p. not (goes_on w v p.0 p.1)) (zip (Some r ∷ map Some rs) rs)) (filter (λ p. not (goes_on w v p.0 p.1)) (zip (Some r ∷ map Some rs) rs)))) e

-- a member that is not v goes on from no member
pub not_on : (w v : Name) (before : Option (Name × List ℕ)) (r : Name × List ℕ) → is_same v r.0 ≡ false → goes_on w v before r ≡ false
not_on w v None r h = refl
not_on w v (Some b) r h = ap (λ c. c && (is_same w b.0 && is_same_text b.1 r.1)) h

kept_shorter : (w v : Name) (before : Option (Name × List ℕ)) (members : List (Name × List ℕ)) → length (kept_members w v before members) ≤ length members
kept_shorter w v before [] = omega arith
kept_shorter w v before (r ∷ rs) = by (goes_on w v before r) refl (kept_shorter w v (Some r) rs)
  where
    by : (b : Bool) → goes_on w v before r ≡ b → length (kept_members w v (Some r) rs) ≤ length rs → length (kept_members w v before (r ∷ rs)) ≤ length (r ∷ rs)
    by true e i = let same = ap length (kept_off w v before r rs e) in omega arith
    by false e i = let same = ap length (kept_on w v before r rs e) in omega arith

kept_within : (w v e : Name) (before : Option (Name × List ℕ)) (members : List (Name × List ℕ)) → is_among (map (λ r. r.0) (kept_members w v before members)) e ≡ true → is_among (map (λ r. r.0) members) e ≡ true
kept_within w v e before [] h = h
kept_within w v e before (r ∷ rs) h = by (goes_on w v before r) refl (kept_within w v e (Some r) rs)
  where
    by : (b : Bool) → goes_on w v before r ≡ b → (is_among (map (λ s. s.0) (kept_members w v (Some r) rs)) e ≡ true → is_among (map (λ s. s.0) rs) e ≡ true) → (is_same e r.0 || is_among (map (λ s. s.0) rs) e) ≡ true
    by true t rest = or_right (is_same e r.0) (is_among (map (λ s. s.0) rs) e) (rest (sym (ap (λ l. is_among (map (λ s. s.0) l) e) (kept_off w v before r rs t)) ∙ h))
    by false t rest = either (is_same e r.0) (sym (ap (λ l. is_among (map (λ s. s.0) l) e) (kept_on w v before r rs t)) ∙ h)
      where
        either : (c : Bool) → (c || is_among (map (λ s. s.0) (kept_members w v (Some r) rs)) e) ≡ true → (c || is_among (map (λ s. s.0) rs) e) ≡ true
        either true i = refl
        either false i = rest i

kept_roles : (w v : Name) (before : Option (Name × List ℕ)) (members : List (Name × List ℕ)) → are_members members ≡ true → are_members (kept_members w v before members) ≡ true
kept_roles w v before [] h = refl
kept_roles w v before (r ∷ rs) h = by (goes_on w v before r) refl (kept_roles w v (Some r) rs (second_true (not (is_long r.1)) (are_members rs) h))
  where
    by : (b : Bool) → goes_on w v before r ≡ b → are_members (kept_members w v (Some r) rs) ≡ true → are_members (kept_members w v before (r ∷ rs)) ≡ true
    by true e i = ap are_members (kept_off w v before r rs e) ∙ i
    by false e i = ap are_members (kept_on w v before r rs e) ∙ both_true (not (is_long r.1)) (are_members (kept_members w v (Some r) rs)) (first_true (not (is_long r.1)) (are_members rs) h) i

pub joined_gone : (w v : Name) → is_same w v ≡ false → (members : List (Name × List ℕ)) → is_among (map (λ r. r.0) (joined_members w v members)) v ≡ false
joined_gone w v apart members =
    ap (λ l. is_among l v) (names-renamed_members v w (kept_members w v None members)) ∙ renamed_gone v w (same_either_way v w ∙ apart) (map (λ r. r.0) (kept_members w v None members))

joined_within : (w v e : Name) (members : List (Name × List ℕ)) → is_among (map (λ r. r.0) (joined_members w v members)) e ≡ true → (is_same e w || is_among (map (λ r. r.0) members) e) ≡ true
joined_within w v e members h =
    either (is_same e w) (renamed_within v w e (map (λ r. r.0) (kept_members w v None members)) (sym (ap (λ l. is_among l e) (names-renamed_members v w (kept_members w v None members))) ∙ h))
  where
    either : (c : Bool) → (c || is_among (map (λ r. r.0) (kept_members w v None members)) e) ≡ true → (c || is_among (map (λ r. r.0) members) e) ≡ true
    either true i = refl
    either false i = kept_within w v e None members i

joined_shorter : (w v : Name) (members : List (Name × List ℕ)) → length (joined_members w v members) ≤ length members
joined_shorter w v members =
    let same : length (joined_members w v members) ≡ length (kept_members w v None members) = length-map (kept_members w v None members) (λ (e : Name × List ℕ). (renamed v w e.0, e.1)) in
    let shorter = kept_shorter w v None members in
    omega arith

-- ---- the list

module _ {A : Type 0} where
  ends_fit : (m : Rows A) (nodes others : List Name) → FitsWay m nodes → FitsWay m others → nat_lt most_nodes (length (end_to_end nodes others)) ≡ false → FitsWay m (end_to_end nodes others)
  ends_fit m nodes others f g few = record {
    made = all_from (λ n. is_node n.kind) (end_to_end nodes others) (λ e i. or_cases (is_among nodes e) (is_among (drop 1 others) e) (is_node e.kind) (which e i)
        (all_listed (λ n. is_node n.kind) nodes e f.made) (λ j. all_listed (λ n. is_node n.kind) others e g.made (drop_within 1 e others j)));
    lengthy = both_true (nat_le 2 (length (end_to_end nodes others))) (nat_le (length (end_to_end nodes others)) most_nodes)
        (still_long (length nodes) (length (end_to_end nodes others)) 2 (let both = length-append nodes (drop 1 others) in omega arith) (first_true (nat_le 2 (length nodes)) (nat_le (length nodes) most_nodes) f.lengthy))
        (at_least most_nodes (length (end_to_end nodes others)) few);
    refs = λ e i. or_cases (is_among nodes e) (is_among (drop 1 others) e) (is_present m e) (which e i) (f.refs e) (λ j. g.refs e (drop_within 1 e others j));
  }
    where
      which : (e : Name) → is_among (end_to_end nodes others) e ≡ true → (is_among nodes e || is_among (drop 1 others) e) ≡ true
      which e i = sym (is_among-append e nodes (drop 1 others)) ∙ i

  -- what is true if a join is accepted
  pub record Joins (m : Rows A) (w v : Name) : Type 0 where
    pub others : List Name
    pub tags : Pairs
    pub row : row_at m v ≡ Some (Way others tags)
    pub way_w : is_way w.kind ≡ true
    pub way_v : is_way v.kind ≡ true
    pub apart : is_same w v ≡ false
    pub here_w : is_present m w ≡ true
    pub here_v : is_present m v ≡ true
    pub short : nat_lt most_nodes (length (end_to_end (nodes_of (row_at m w)) (nodes_of (row_at m v)))) ≡ false
    pub few : nat_lt most_tags (length (both_tags (row_tags (row_at m w)) (row_tags (row_at m v)))) ≡ false

  pub joins : (m : Rows A) (w v : Name) → is_sound m ≡ true → first_that_holds (join_checks m w v) ≡ None → Joins m w v
  joins m w v sound ok = record {
    others = way.0;
    tags = way.1;
    row = way.2;
    way_w = from_false (is_way w.kind) (not_so {X = Refusal A} (not (is_way w.kind)) (WrongKind w) none.0);
    way_v = is;
    apart = not_so {X = Refusal A} (is_same w v) (Same w) none.1.1.0;
    here_w = from_false (is_present m w) (not_so {X = Refusal A} (is_absent m w) (Absent w) none.1.1.1.0);
    here_v = here;
    short = not_so {X = Refusal A} (nat_lt most_nodes (length (end_to_end (nodes_of (row_at m w)) (nodes_of (row_at m v))))) (TooMany w) none.1.1.1.1.1.1.0;
    few = not_so {X = Refusal A} (nat_lt most_tags (length (both_tags (row_tags (row_at m w)) (row_tags (row_at m v))))) (TooMany w) none.1.1.1.1.1.1.1.1.0;
  }
    where
      none : Nones (join_checks m w v)
      none = nones (join_checks m w v) ok

      is : is_way v.kind ≡ true
      is = from_false (is_way v.kind) (not_so {X = Refusal A} (not (is_way v.kind)) (WrongKind v) none.1.0)

      here : is_present m v ≡ true
      here = from_false (is_present m v) (not_so {X = Refusal A} (is_absent m v) (Absent v) none.1.1.1.1.0)

      way : (nodes : List Name) × (tags : Pairs) × (row_at m v ≡ Some (Way nodes tags))
      way = way_there m v sound is here

  pub join_accepted : (m : Rows A) (w v : Name) → is_sound m ≡ true → first_that_holds (join_checks m w v) ≡ None → (is_sound (after_join m w v) ≡ true) × (after_join m w v ≢ m)
  join_accepted m w v sound ok =
      each_but_accepted m v (join_row m w v) sound j.here_v
      (λ y u is. lists y (at_name w (lengthened m v) y u) (at_one m w y (lengthened m v) u (fine m sound y u is) (λ same. longer y u (ap (row_at m) (same_names w y same) ∙ is) (fine m sound y u is))))
    where
      n : Rows A
      n = after_join m w v

      j : Joins m w v
      j = joins m w v sound ok

      -- the element of w
      longer : (y : Name) (u : Element A) → row_at m w ≡ Some u → Fine m y u → Fine m y (lengthened m v u)
      longer y u is f = by u is (fine_tagged m y both u tagged f)
        where
          both : Pairs → Pairs
          both tags = both_tags tags (row_tags (row_at m v))

          tagged : are_tags (both (tags_of u)) ≡ true
          tagged = are_tags-both_tags (tags_of u) (row_tags (row_at m v)) (made_tags u f.made) (are_tags-row_tags m sound v) (ap (λ o. nat_lt most_tags (length (both_tags (row_tags o) (row_tags (row_at m v))))) (sym is) ∙ j.few)

          by : (u : Element A) → row_at m w ≡ Some u → Fine m y (with_tags both u) → Fine m y (lengthened m v u)
          by (Node lat lon tags) is f = f
          by (Way nodes tags) is f =
              fine_way m m y nodes (end_to_end nodes (nodes_of (row_at m v))) (both tags) f
              (ends_fit m nodes (nodes_of (row_at m v)) (way_fits m y nodes (both tags) f)
              (subst (λ (o : Option (Element A)). FitsWay m (nodes_of o)) (sym j.row) (way_fits m v j.others j.tags (fine m sound v (Way j.others j.tags) j.row)))
              (ap (λ o. nat_lt most_nodes (length (end_to_end (nodes_of o) (nodes_of (row_at m v))))) (sym is) ∙ j.short))
          by (Relation members tags) is f = f

      there : (e : Name) → is_present m e ≡ true → is_same e v ≡ false → is_present n e ≡ true
      there = each_but_there m v (join_row m w v)

      -- the members of a row
      lists : (y : Name) (u : Element A) → Fine m y u → Fine n y (with_members (joined_members w v) u)
      lists y (Node lat lon tags) f = fine_node m n y lat lon tags f
      lists y (Way nodes tags) f =
          let fits = way_fits m y nodes tags f in
          fine_way m n y nodes nodes tags f (record {
            made = fits.made;
            lengthy = fits.lengthy;
            refs = λ e i. there e (f.refs e i) (another_kind is_node e v (all_listed (λ n. is_node n.kind) nodes e fits.made i) (ap is_node (told_way v.kind j.way_v)));
          })
      lists y (Relation members tags) f = fine_relation m n y members (joined_members w v members) tags f (record {
        made = are_members-renamed v w (kept_members w v None members) ∙ kept_roles w v None members (relation_fits m y members tags f).made;
        lengthy = still_short (length (joined_members w v members)) (length members) most_members (joined_shorter w v members) f.lengthy;
        refs = λ e i. there e
            (or_cases (is_same e w) (is_among (map (λ r. r.0) members) e) (is_present m e) (joined_within w v e members i) (λ t. ap (is_present m) (same_names e w t) ∙ j.here_w) (f.refs e))
            (another_name e v (map (λ r. r.0) (joined_members w v members)) i (joined_gone w v j.apart members));
      })
