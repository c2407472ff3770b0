-- The search for the first entry after a number.
use Rattle.std.specs.Prelude.{ℕ, Option, Some, None, nat_lt, cond, find, if◌then◌else◌}
use Rattle.osm_elements.specs.declared.name.Name.{Name}
use Rattle.edit_footprint.specs.Touches.{Touch, is_write, writer_of, reader_of}
use Rattle.edit_footprint.specs.Holding.{Held, holding}

-- the sooner of two entries with their names; of the same entry, the first name
abbrev pub sooner : Option (ℕ × Name) → Option ℕ → Name → Option (ℕ × Name)
sooner first None x = first
sooner None (Some m) x = Some (m, x)
sooner (Some f) (Some m) x = if nat_lt m f.0 then Some (m, x) else Some f

-- the sooner of an entry and of those after seq that hold the touch t
abbrev pub sooner_holder : Held → Option (ℕ × Name) → Touch → ℕ → Option (ℕ × Name)
sooner_holder held first t seq = sooner first (find (nat_lt seq) (holding held t)) t.name

-- the sooner of an entry and of those after seq that hold a rival of the touch t
abbrev pub sooner_rival : Held → Option (ℕ × Name) → Touch → ℕ → Option (ℕ × Name)
sooner_rival held first t seq =
    let written = sooner_holder held first (writer_of t) seq in
    cond (is_write t.access) (sooner_holder held written (reader_of t) seq) written
