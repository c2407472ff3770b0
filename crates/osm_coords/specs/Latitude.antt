-- Latitudes, in ten-millionths of a degree. (OpenStreetMap API v0.6: from -90 to 90 degrees, kept to seven decimals.)
use Rattle.std.specs.Prelude.{ℕ, ℤ, List, Option}
use Rattle.std.specs.Option.{option_and_then}
use Rattle.osm_coords.specs.Coordinate.{coordinate}
use Rattle.osm_coords.specs.Range.{value_within, IsWithin}

-- z is a latitude: from -90 to 90 degrees
abbrev pub IsLatitude : ℤ → Type 0
IsLatitude z = IsWithin 900000000 z

-- z if it is a latitude, otherwise none
abbrev pub latitude : ℤ → Option ℤ
latitude z = value_within 900000000 z

-- the latitude that a text denotes, if any
abbrev pub latitude_of : List ℕ → Option ℤ
latitude_of text = option_and_then latitude (coordinate text)
