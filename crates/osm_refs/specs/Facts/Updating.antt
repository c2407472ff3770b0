-- A table in which the references of names are replaced, name by name.
use Rattle.std.proofs.Common.{sym, ap, ◌∙◌}
use Rattle.std.specs.Prelude.{◌≡◌, ◌||◌, Bool, true, false, cond, List, [], ◌∷◌, map, refl, fold}
use Rattle.osm_elements.specs.Prelude.{same_names, is_among, is_same}
use Rattle.osm_elements.specs.declared.name.Name.{Name}
use Rattle.osm_refs.specs.Facts.Tables.{IsTable, IsTable-referring, references_at-referring}
use Rattle.osm_refs.specs.Tables.{Table, references_at, referring}

module _ {C : Type 0} (name : C → Name) (becomes : C → List Name → List Name) where
  abbrev pub updated : Table → C → Table
  updated t c = referring t (name c) (becomes c (references_at t (name c)))

  abbrev pub updated_all : Table → List C → Table
  updated_all t cs = fold updated t cs

  -- the references of a name after all replacements
  abbrev pub becomes_at : List C → Name → List Name → List Name
  becomes_at [] q names = names
  becomes_at (c ∷ cs) q names = becomes_at cs q (cond (is_same q (name c)) (becomes c names) names)

  pub references_at-updated : (t : Table) (c : C) (q : Name) → references_at (updated t c) q ≡ cond (is_same q (name c)) (becomes c (references_at t q)) (references_at t q)
  references_at-updated t c q = references_at-referring t (name c) (becomes c (references_at t (name c))) q ∙ by (is_same q (name c)) refl
    where
      by : (b : Bool) → is_same q (name c) ≡ b → cond b (becomes c (references_at t (name c))) (references_at t q) ≡ cond b (becomes c (references_at t q)) (references_at t q)
      by true e = ap (λ x. becomes c (references_at t x)) (sym (same_names q (name c) e))
      by false e = refl

  pub references_at-updated_all : (t : Table) (cs : List C) (q : Name) → references_at (updated_all t cs) q ≡ becomes_at cs q (references_at t q)
  references_at-updated_all t [] q = refl
  references_at-updated_all t (c ∷ cs) q = references_at-updated_all (updated t c) cs q ∙ ap (becomes_at cs q) (references_at-updated t c q)

  pub IsTable-updated_all : (t : Table) (cs : List C) → IsTable t → IsTable (updated_all t cs)
  IsTable-updated_all t [] h = h
  IsTable-updated_all t (c ∷ cs) h = IsTable-updated_all (updated t c) cs (IsTable-referring t (name c) (becomes c (references_at t (name c))) h)

  -- a name that no replacement is about keeps its references
  pub untouched : (cs : List C) (q : Name) (names : List Name) → is_among (map name cs) q ≡ false → becomes_at cs q names ≡ names
  untouched [] q names e = refl
  untouched (c ∷ cs) q names e = by (is_same q (name c)) e (untouched cs q names)
    where
      by : (b : Bool) → (b || is_among (map name cs) q) ≡ false → (is_among (map name cs) q ≡ false → becomes_at cs q names ≡ names) → becomes_at cs q (cond b (becomes c names) names) ≡ names
      by true f rest = absurd (cc)
      by false f rest = rest f
