-- Touches, each a name and an access to the element with this name, and lists of them. Two accesses conflict if they
-- are to the same part and one of them writes, as in: P. A. Bernstein, V. Hadzilacos, N. Goodman, Concurrency Control
-- and Recovery in Database Systems, 1987, section 1.3. (Touches are this project's.)
use Rattle.std.specs.Hash.{HashWrites, i64, u8}
use Rattle.std.specs.Prelude.{◌++◌, Bool, true, false, ℕ, List, [], ◌∷◌, cond, fold}
use Rattle.osm_changes.specs.Prelude.{is_eq, nat_cmp, Ordering, name_cmp, Cell}
use Rattle.osm_refs.specs.Prelude.{then_cmp, on, with_value}
use Rattle.rising_lists.specs.Rising.{is_among}
use Rattle.osm_elements.specs.declared.name.Name.{Name}
use Rattle.osm_changes.specs.declared.part.Part.{Part}
use Rattle.osm_changes.specs.declared.part.Part.TheVariants.{Tags, Rest}
use Rattle.edit_footprint.specs.declared.access.Access.{Access}
use Rattle.edit_footprint.specs.declared.access.Access.TheVariants.{ReadsPresence, WritesPresence, ReadsTags, WritesTags, ReadsRest, WritesRest}
use Rattle.rising_lists.specs.Rising as lists

-- a name, and an access to its element
pub record Touch : Type 0 where
  pub name : Name
  pub access : Access

abbrev pub access_rank : Access → ℕ
access_rank ReadsPresence = 0
access_rank WritesPresence = 1
access_rank ReadsTags = 2
access_rank WritesTags = 3
access_rank ReadsRest = 4
access_rank WritesRest = 5

abbrev pub reading : Part → Access
reading Tags = ReadsTags
reading Rest = ReadsRest

abbrev pub writing : Part → Access
writing Tags = WritesTags
writing Rest = WritesRest

-- the access that writes what an access reads or writes
abbrev pub writer : Access → Access
writer ReadsPresence = WritesPresence
writer WritesPresence = WritesPresence
writer ReadsTags = WritesTags
writer WritesTags = WritesTags
writer ReadsRest = WritesRest
writer WritesRest = WritesRest

-- the access that reads what an access reads or writes
abbrev pub reader : Access → Access
reader ReadsPresence = ReadsPresence
reader WritesPresence = ReadsPresence
reader ReadsTags = ReadsTags
reader WritesTags = ReadsTags
reader ReadsRest = ReadsRest
reader WritesRest = ReadsRest

abbrev pub is_write : Access → Bool
is_write ReadsPresence = false
is_write WritesPresence = true
is_write ReadsTags = false
is_write WritesTags = true
is_write ReadsRest = false
is_write WritesRest = true

abbrev pub presence_read : Name → Touch
presence_read x = record { name = x; access = ReadsPresence }

abbrev pub presence_written : Name → Touch
presence_written x = record { name = x; access = WritesPresence }

abbrev pub cell_read : Cell → Touch
cell_read c = record { name = c.name; access = reading c.part }

abbrev pub cell_written : Cell → Touch
cell_written c = record { name = c.name; access = writing c.part }

-- the touches that conflict with a touch: the one that writes the same, and if it writes, the one that reads the same
abbrev pub writer_of : Touch → Touch
writer_of t = record { name = t.name; access = writer t.access }

abbrev pub reader_of : Touch → Touch
reader_of t = record { name = t.name; access = reader t.access }

abbrev pub rivals : Touch → List Touch
rivals t = writer_of t ∷ cond (is_write t.access) (reader_of t ∷ []) []

-- touches are ordered by name, and those of a name by their access
abbrev pub touch_cmp : Touch → Touch → Ordering
touch_cmp = then_cmp (on (λ (t : Touch). t.name) name_cmp) (on (λ (t : Touch). access_rank t.access) nat_cmp)

abbrev pub is_same_touch : Touch → Touch → Bool
is_same_touch t u = is_eq (touch_cmp t u)

-- what a hash of a touch is fed: the id of its name, and its access
abbrev pub touch_input : Touch → HashWrites
touch_input t = i64 t.name.id ++ u8 (access_rank t.access)

-- the list contains the touch
abbrev pub does : List Touch → Touch → Bool
does touches t = is_among touch_cmp touches t

-- the touches of a list, rising, each once
abbrev pub touch_set : List Touch → List Touch
touch_set touches = fold (λ set t. with_value touch_cmp t set) [] touches

-- the touches strictly rise
abbrev pub IsFootprint : List Touch → Type 0
IsFootprint touches = lists.IsRising touch_cmp touches
