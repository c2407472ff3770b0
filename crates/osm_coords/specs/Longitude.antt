-- Longitudes, in ten-millionths of a degree. (OpenStreetMap API v0.6: from -180 to 180 degrees, kept to seven
-- decimals.)
use Rattle.std.specs.Prelude.{ℕ, ℤ, List, Option}
use Rattle.std.specs.Option.{option_and_then}
use Rattle.osm_coords.specs.Coordinate.{coordinate}
use Rattle.osm_coords.specs.Range.{value_within, IsWithin}

-- z is a longitude: from -180 to 180 degrees
abbrev pub IsLongitude : ℤ → Type 0
IsLongitude z = IsWithin 1800000000 z

-- z if it is a longitude, otherwise none
abbrev pub longitude : ℤ → Option ℤ
longitude z = value_within 1800000000 z

-- the longitude that a text denotes, if any
abbrev pub longitude_of : List ℕ → Option ℤ
longitude_of text = option_and_then longitude (coordinate text)
