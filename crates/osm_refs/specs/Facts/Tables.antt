-- Tables whose names rise and whose rows are not empty. The references of all names determine such a table.
use Rattle.std.proofs.Common.{sym, ap, ◌∙◌}
use Rattle.std.specs.Prelude.{◌++◌, ◌≡◌, Bool, true, false, not, cond, T, List, [], ◌∷◌, None, unwrap_or, refl, filter}
use Rattle.osm_elements.specs.Prelude.{list_all, find-where_key, is_sorted-where_key, find, name_cmp, both, first, second, name_cmp_total, name_cmp-IsAntisymmetric, same_either_way, is_same, has_none}
use Rattle.osm_elements.specs.declared.name.Name.{Name}
use Rattle.osm_refs.specs.Tables.{Table, Note, references_at, referring, noted}
use Rattle.rising_lists.specs.Facts.Tables as tables

-- the names rise, and each row has a reference
abbrev pub IsTable : Table → Type 0
IsTable t = tables.IsTable name_cmp t

-- tables in which each name has the same references are equal
pub same_tables : (t u : Table) → IsTable t → IsTable u → ((q : Name) → references_at t q ≡ references_at u q) → t ≡ u
same_tables = tables.same_tables name_cmp name_cmp_total name_cmp-IsAntisymmetric

-- the references of each name after those of a name are replaced
pub references_at-referring : (t : Table) (x : Name) (names : List Name) (q : Name) → references_at (referring t x names) q ≡ cond (is_same q x) names (references_at t q)
references_at-referring t x [] q =
    ap (λ o. unwrap_or o []) (find-where_key name_cmp (λ z. not (is_same x z)) q (λ z e. ap (λ w. not (is_same x w)) (sym (name_cmp-IsAntisymmetric q z e))) t)
    ∙ by (is_same x q) (same_either_way q x)
  where
    by : (b : Bool) → is_same q x ≡ b → unwrap_or (cond (not b) (find name_cmp q t) None) [] ≡ cond (is_same q x) [] (references_at t q)
    by true e = ap (λ b. cond b [] (references_at t q)) (sym e)
    by false e = ap (λ b. cond b [] (references_at t q)) (sym e)
references_at-referring t x (y ∷ ys) q = tables.listed-put name_cmp name_cmp_total x (y ∷ ys) t q

all_have-filter : (p : Name → Bool) (t : Table) → T (list_all (λ r. not (has_none r.1)) t) → T (list_all (λ r. not (has_none r.1)) (filter (λ r. p r.0) t))
all_have-filter p [] h = tt
all_have-filter p (r ∷ t) h = by (p r.0) (all_have-filter p t (second _ _ h))
  where
    by : (b : Bool) → T (list_all (λ r. not (has_none r.1)) (filter (λ r. p r.0) t)) → T (list_all (λ r. not (has_none r.1)) (cond b (r ∷ filter (λ r. p r.0) t) (filter (λ r. p r.0) t)))
    by true i = both _ _ (first _ _ h) i
    by false i = i

pub IsTable-referring : (t : Table) (x : Name) (names : List Name) → IsTable t → IsTable (referring t x names)
IsTable-referring t x [] h = (is_sorted-where_key name_cmp (λ z. not (is_same x z)) t h.0, all_have-filter (λ z. not (is_same x z)) t h.1)
IsTable-referring t x (y ∷ ys) h = tables.IsTable-put name_cmp name_cmp_total x (y ∷ ys) t tt h

pub IsTable-noted : (t : Table) (notes : List Note) → IsTable t → IsTable (noted t notes)
IsTable-noted t [] h = h
IsTable-noted t (n ∷ notes) h = IsTable-noted (referring t n.0 n.1) notes (IsTable-referring t n.0 n.1 h)

-- a note at the end is entered last
pub noted-push : (t : Table) (notes : List Note) (n : Note) → noted t (notes ++ n ∷ []) ≡ referring (noted t notes) n.0 n.1
noted-push t [] n = refl
noted-push t (m ∷ notes) n = noted-push (referring t m.0 m.1) notes n
