-- A purge looks only at its footprint.
use Rattle.std.proofs.Common.{sym, ap, ◌∙◌}
use Rattle.std.specs.Prelude.{◌≡◌, ◌≢◌, ◌||◌, ℕ, Bool, true, false, not, List, [], ◌∷◌, Option, Some, None, is_some, length, nat_lt, map, refl, cond, filter, option_map}
use Rattle.std.proofs.lemmas.Bool.{and_left, or_from, or_parts, false_from_ne_true, true_from_ne_false}
use Rattle.edit_actions.specs.Prelude.{Rows, is_same, is_among, row_at, same_either_way, row_references, rest_at, half, is_sound, nodes_of, with_nodes, with_members, without, falls_short, goes, what_is_left, after_purge, is_among_own, without_none, row_at-after_purge, x_goes, is_gone, purge_sound, checks}
use Rattle.osm_changes.specs.Prelude.{same_names}
use Rattle.osm_elements.specs.declared.name.Name.{Name}
use Rattle.osm_elements.specs.declared.element.Element.{Element}
use Rattle.osm_elements.specs.declared.element.Element.TheVariants.{Node, Way, Relation}
use Rattle.osm_changes.specs.declared.part.Part.{Part}
use Rattle.osm_changes.specs.declared.part.Part.TheVariants.{Tags, Rest}
use Rattle.room_interface.specs.declared.action.Action.{Action}
use Rattle.room_interface.specs.declared.action.Action.TheVariants.{Purge}
use Rattle.edit_footprint.specs.Footprints.{writes_presence, reaches, footprint}
use Rattle.edit_footprint.specs.Facts.AcceptedAlike.{IsLocal, accepted_alike}
use Rattle.edit_footprint.specs.Facts.Agreeing.{same_row_of_owned, not_named}
use Rattle.edit_footprint.specs.Facts.Footprints.{owned_inside, presence_outside}
use Rattle.edit_footprint.specs.Facts.Halfwise.{keeps_nodes, keeps_members, keeps_both, tags_kept}
use Rattle.edit_footprint.specs.Facts.Halves.{same_nodes_of}
use Rattle.edit_footprint.specs.Facts.Naming.{named_there, none_of_nodes}
use Rattle.edit_footprint.specs.Facts.Reaching.{whole_reached}
use Rattle.edit_footprint.specs.Facts.Subjects.{first, another}

-- members of which none is removed
members_stay : (go : Name → Bool) (members : List (Name × List ℕ)) → ((e : Name) → go e ≡ true → is_among (map (λ r. r.0) members) e ≡ false) → filter (λ r. not (go r.0)) members ≡ members
members_stay go [] h = refl
members_stay go (r ∷ rs) h =
    ap (λ b. cond (not b) (r ∷ filter (λ s. not (go s.0)) rs) (filter (λ s. not (go s.0)) rs)) (false_from_ne_true (go r.0) (λ g. cc (sym (is_among_own r.0 (map (λ s. s.0) rs)) ∙ h r.0 g)))
    ∙ ap (λ l. r ∷ l) (members_stay go rs (λ e g. (or_parts _ _ (h e g)).1))

module _ {A : Type 0} where
  -- a row that is not removed and refers to nothing removed is unchanged
  purge_leaves : (m : Rows A) (x y : Name) → goes m x y ≡ false → ((e : Name) → goes m x e ≡ true → is_among (row_references (row_at m y)) e ≡ false) → row_at (after_purge m x) y ≡ row_at m y
  purge_leaves m x y stays unnamed = row_at-after_purge m x y ∙ ap (λ b. cond b None (option_map (what_is_left m x) (row_at m y))) stays ∙ by (row_at m y) unnamed
    where
      by : (o : Option (Element A)) → ((e : Name) → goes m x e ≡ true → is_among (row_references o) e ≡ false) → option_map (what_is_left m x) o ≡ o
      by None free = refl
      by (Some (Node lat lon tags)) free = refl
      by (Some (Way nodes tags)) free = ap (λ l. Some (Way l tags)) (without_none x nodes (free x (x_goes m x)))
      by (Some (Relation members tags)) free = ap (λ l. Some (Relation l tags)) (members_stay (goes m x) members free)

  -- a row that refers to a removed name changes, because nothing refers to this name afterwards
  purge_changes : (m : Rows A) (x e : Name) → is_sound m ≡ true → goes m x e ≡ true → (y : Name) → is_among (row_references (row_at m y)) e ≡ true → row_at (after_purge m x) y ≢ row_at m y
  purge_changes m x e sound go y named kept =
      let there = named_there (after_purge m x) (purge_sound m x sound) y e (ap (λ o. is_among (row_references o) e) kept ∙ named) in
      cc (sym there ∙ ap is_some (is_gone m x e go))

  -- the footprint writes the presence of each removed name
  gone_written : (m : Rows A) (x e : Name) → goes m x e ≡ true → writes_presence (footprint m (Purge x)) e ≡ true
  gone_written m x e go = true_from_ne_false (writes_presence (footprint m (Purge x)) e) (λ out. by out (row_at m e) (sym (presence_outside m (Purge x) e out) ∙ ap is_some (is_gone m x e go)) go)
    where
      other : writes_presence (footprint m (Purge x)) e ≡ false → is_same x e ≡ false
      other out = false_from_ne_true (is_same x e)
          (λ same. cc (sym (owned_inside m (Purge x) x (first x [])) ∙ ap (writes_presence (footprint m (Purge x))) (same_names x e same) ∙ out))

      by : writes_presence (footprint m (Purge x)) e ≡ false → (o : Option (Element A)) → is_some o ≡ false → (is_same x e || falls_short x (nodes_of o)) ≡ true → ⊥
      by out None is go = cc (sym go ∙ or_from (is_same x e) false (other out) refl)
      by out (Some v) is go = cc

  -- a name with a cell outside is not removed
  stays_outside : (m : Rows A) (x : Name) (p : Part) (y : Name) → reaches (footprint m (Purge x)) (record { name = y; part = p }) ≡ false → goes m x y ≡ false
  stays_outside m x p y out =
      false_from_ne_true (goes m x y) (λ go. cc (sym (whole_reached (footprint m (Purge x)) (record { name = y; part = p }) (gone_written m x y go)) ∙ out))

  -- a row that is not removed keeps its tags
  tags_stay : (m : Rows A) (x y : Name) → goes m x y ≡ false → half Tags (row_at (after_purge m x) y) ≡ half Tags (row_at m y)
  tags_stay m x y stays =
      ap (half Tags) (row_at-after_purge m x y ∙ ap (λ b. cond b None (option_map (what_is_left m x) (row_at m y))) stays)
      ∙ tags_kept (what_is_left m x) (keeps_both (with_nodes (without x)) (with_members left) (keeps_nodes (without x)) (keeps_members left)) (row_at m y)
    where
      left : List (Name × List ℕ) → List (Name × List ℕ)
      left members = filter (λ r. not (goes m x r.0)) members

  pub purge_local : (x : Name) → IsLocal {A = A} (Purge x)
  purge_local x m n sound sound_n ok agree =
      accepted_alike m n a agree (λ y o. ap (λ (go : Name → Bool). cond (go y) None (option_map (λ v. with_nodes (without x) (with_members (filter (λ r. not (go r.0))) v)) o)) same_goes)
      (λ y out. tags_stay n x y (ap (λ go. go y) same_goes ∙ stays_outside m x Tags y out))
      (λ y out. ap (half Rest) (purge_leaves n x y (ap (λ go. go y) same_goes ∙ stays_outside m x Rest y out) (λ e go. unnamed e (sym (ap (λ f. f e) same_goes) ∙ go) y out))) same ok
    where
      a : Action A
      a = Purge x

      -- a row whose rest is outside refers to nothing removed, because all rows that do change
      unnamed : (e : Name) → goes m x e ≡ true → (y : Name) → reaches (footprint m a) (rest_at y) ≡ false → is_among (row_references (row_at n y)) e ≡ false
      unnamed e go = not_named m n a agree sound sound_n e (gone_written m x e go) (purge_changes m x e sound go) (λ y out. tags_stay m x y (stays_outside m x Rest y out))

      -- the same names are removed from both maps
      same_goes : goes n x ≡ goes m x
      same_goes j y = by (reaches (footprint m a) (rest_at y)) refl j
        where
          by : (b : Bool) → reaches (footprint m a) (rest_at y) ≡ b → goes n x y ≡ goes m x y
          by true inside = ap (λ l. is_same x y || falls_short x l) (sym (same_nodes_of (row_at m y) (row_at n y) (agree.same_half (rest_at y) inside)))
          by false out =
              or_from (is_same x y) (falls_short x (nodes_of (row_at n y))) (same_either_way x y ∙ another m a Rest x y (first x []) out)
              (and_left (is_among (nodes_of (row_at n y)) x) (nat_lt (length (without x (nodes_of (row_at n y)))) 2) (none_of_nodes (row_at n y) x (unnamed x (x_goes m x) y out)))
              ∙ sym (stays_outside m x Rest y out)

      same : checks n a ≡ checks m a
      same = let row = same_row_of_owned m n a agree x (first x []) in rw (← row) refl
