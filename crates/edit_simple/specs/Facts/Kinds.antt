-- The rows of a sound map at names of a kind.
use Rattle.std.proofs.Common.{◌∙◌}
use Rattle.std.specs.Prelude.{◌≡◌, ℕ, ℤ, true, List, Option, Some, None, is_some, refl}
use Rattle.osm_drafts.specs.Prelude.{kind_of, is_node, Rows, is_kind, is_present, row_at, Pairs, is_sound}
use Rattle.osm_elements.specs.declared.name.Name.{Name}
use Rattle.osm_elements.specs.declared.name.Kind.{Kind}
use Rattle.osm_elements.specs.declared.element.Element.{Element}
use Rattle.osm_elements.specs.declared.element.Element.TheVariants.{Node, Way, Relation}
use Rattle.edit_simple.specs.Kinds.{is_way, is_relation}
use Rattle.edit_simple.specs.Facts.Rewriting.{fine}
use Rattle.osm_elements.specs.declared.name.Kind.TheVariants as kinds

pub told_kind : (k j : Kind) → is_kind k j ≡ true → k ≡ j
told_kind kinds.Node kinds.Node e = refl
told_kind kinds.Node kinds.Way e = absurd (cc)
told_kind kinds.Node kinds.Relation e = absurd (cc)
told_kind kinds.Way kinds.Node e = absurd (cc)
told_kind kinds.Way kinds.Way e = refl
told_kind kinds.Way kinds.Relation e = absurd (cc)
told_kind kinds.Relation kinds.Node e = absurd (cc)
told_kind kinds.Relation kinds.Way e = absurd (cc)
told_kind kinds.Relation kinds.Relation e = refl

pub told_node : (k : Kind) → is_node k ≡ true → k ≡ kinds.Node
told_node kinds.Node e = refl
told_node kinds.Way e = absurd (cc)
told_node kinds.Relation e = absurd (cc)

pub told_way : (k : Kind) → is_way k ≡ true → k ≡ kinds.Way
told_way kinds.Node e = absurd (cc)
told_way kinds.Way e = refl
told_way kinds.Relation e = absurd (cc)

pub told_relation : (k : Kind) → is_relation k ≡ true → k ≡ kinds.Relation
told_relation kinds.Node e = absurd (cc)
told_relation kinds.Way e = absurd (cc)
told_relation kinds.Relation e = refl

module _ {A : Type 0} where
  pub sound_kind : (m : Rows A) → is_sound m ≡ true → (y : Name) (v : Element A) → row_at m y ≡ Some v → kind_of v ≡ y.kind
  sound_kind m sound y v is = told_kind (kind_of v) y.kind (fine m sound y v is).kind

  pub node_there : (m : Rows A) (y : Name) → is_sound m ≡ true → is_node y.kind ≡ true → is_present m y ≡ true → (lat lon : ℤ) × (tags : Pairs) × (row_at m y ≡ Some (Node lat lon tags))
  node_there m y sound is here = by (row_at m y) refl here
    where
      by : (o : Option (Element A)) → row_at m y ≡ o → is_some o ≡ true → (lat lon : ℤ) × (tags : Pairs) × (row_at m y ≡ Some (Node lat lon tags))
      by None e h = absurd (cc)
      by (Some (Node lat lon tags)) e h = (lat, lon, tags, e)
      by (Some (Way nodes tags)) e h = let k : kinds.Way ≡ kinds.Node = sound_kind m sound y (Way nodes tags) e ∙ told_node y.kind is in absurd (cc)
      by (Some (Relation members tags)) e h = let k : kinds.Relation ≡ kinds.Node = sound_kind m sound y (Relation members tags) e ∙ told_node y.kind is in absurd (cc)

  pub way_there : (m : Rows A) (w : Name) → is_sound m ≡ true → is_way w.kind ≡ true → is_present m w ≡ true → (nodes : List Name) × (tags : Pairs) × (row_at m w ≡ Some (Way nodes tags))
  way_there m w sound is here = by (row_at m w) refl here
    where
      by : (o : Option (Element A)) → row_at m w ≡ o → is_some o ≡ true → (nodes : List Name) × (tags : Pairs) × (row_at m w ≡ Some (Way nodes tags))
      by None e h = absurd (cc)
      by (Some (Node lat lon tags)) e h = let k : kinds.Node ≡ kinds.Way = sound_kind m sound w (Node lat lon tags) e ∙ told_way w.kind is in absurd (cc)
      by (Some (Way nodes tags)) e h = (nodes, tags, e)
      by (Some (Relation members tags)) e h = let k : kinds.Relation ≡ kinds.Way = sound_kind m sound w (Relation members tags) e ∙ told_way w.kind is in absurd (cc)

  pub relation_there : (m : Rows A) (r : Name) → is_sound m ≡ true → is_relation r.kind ≡ true → is_present m r ≡ true → (members : List (Name × List ℕ)) × (tags : Pairs) × (row_at m r ≡ Some (Relation members tags))
  relation_there m r sound is here = by (row_at m r) refl here
    where
      by : (o : Option (Element A)) → row_at m r ≡ o → is_some o ≡ true → (members : List (Name × List ℕ)) × (tags : Pairs) × (row_at m r ≡ Some (Relation members tags))
      by None e h = absurd (cc)
      by (Some (Node lat lon tags)) e h = let k : kinds.Node ≡ kinds.Relation = sound_kind m sound r (Node lat lon tags) e ∙ told_relation r.kind is in absurd (cc)
      by (Some (Way nodes tags)) e h = let k : kinds.Way ≡ kinds.Relation = sound_kind m sound r (Way nodes tags) e ∙ told_relation r.kind is in absurd (cc)
      by (Some (Relation members tags)) e h = (members, tags, e)
