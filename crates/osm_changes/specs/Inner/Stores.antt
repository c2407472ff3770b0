-- The fields of a store.
use Rattle.std.specs.Prelude.{◌≡◌, true}
use Rattle.osm_refs.specs.Prelude.{Rows, Table, table_of}
use Rattle.osm_changes.specs.Sound.{is_sound}

-- the map is sound, and the users are those of the map
pub record IsStore {A : Type 0} (rows : Rows A) (users : Table) : Type 0 where
  pub sound : is_sound rows ≡ true
  pub users_are : users ≡ table_of rows
