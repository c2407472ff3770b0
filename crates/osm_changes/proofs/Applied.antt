-- A store after the rows of its changes are put and noted.
use Rattle.std.proofs.Common.{◌≡◌, not, T, List, map, sym, ap, subst, ◌∙◌, filter, fold}
use Rattle.osm_changes.specs.Prelude.{Rows, are_rising, AreInOrder, Table, table_of, IsRising-name_set, Change, RowAfter, changed, changed_names, with_rows_after}
use Rattle.osm_changes.specs.Inner.Applying.{is_new, rows_after, with_entered, NoneIsNew}
use Rattle.osm_changes.specs.Inner.References.{gained, lost, reference_change_of}
use Rattle.osm_changes.proofs.Applying.{leads_to_changed, none_is_new}
use Rattle.osm_changes.proofs.ReferencesEntered.{references_entered}
use Rattle.osm_changes.proofs.RowsEntered.{names_entered, names-rows_in, rising_filter}

module _ {A : Type 0} (m : Rows A) (cs : List (Change A)) (rs : List (RowAfter A)) (made : rs ≡ rows_after m cs) where
  pub names_rise : T (are_rising (names_entered rs))
  names_rise = subst (λ names. T (are_rising names))
      (sym (ap names_entered made ∙ names-rows_in (changed m cs) (changed_names cs)))
      (IsRising-name_set (map (λ (c : Change A). c.name) cs))

  module _ (others : List (RowAfter A)) (left : others ≡ filter (λ r. not (is_new m r)) rs) where
    pub others_rise : T (are_rising (names_entered others))
    others_rise = subst (λ l. T (are_rising (names_entered l))) (sym left)
        (rising_filter (λ r. not (is_new m r)) rs names_rise)

    module _ (order : AreInOrder m) (now : Rows A) (put : now ≡ fold with_entered m (filter (is_new m) rs)) where
      both_made : (P : Rows A → List (RowAfter A) → Type 0)
          → P (fold with_entered m (filter (is_new m) (rows_after m cs)))
          (filter (λ r. not (is_new m r)) (rows_after m cs)) → P now others
      both_made P h = subst (P now) (sym left) (subst (λ n. P n (filter (λ r. not (is_new m r)) rs)) (sym put)
          (subst (λ l. P (fold with_entered m (filter (is_new m) l)) (filter (λ r. not (is_new m r)) l)) (sym made) h))

      pub others_not_new : NoneIsNew now others
      others_not_new = both_made NoneIsNew (none_is_new m order cs)

      pub map_became : (next : Rows A) → next ≡ fold with_entered now others → next ≡ changed m cs
      map_became next replaced = replaced
          ∙ both_made (λ n l. fold with_entered n l ≡ changed m cs) (leads_to_changed m order cs)

  pub users_became : AreInOrder m → (u v : Table) → u ≡ fold gained (table_of m) (map (reference_change_of m) rs) → v ≡ fold lost u (map (reference_change_of m) rs) → v ≡ table_of (changed m cs)
  users_became order u v gains loses =
      loses ∙ ap (λ t. fold lost t (map (reference_change_of m) rs)) gains ∙ references_entered m order rs names_rise ∙ ap (λ l. table_of (fold with_entered m l)) made ∙ ap table_of (with_rows_after m cs)
