-- Examples of the texts of coordinates, worked out by hand: the form from docs/PROTOCOL.md (`lat` and `lon` under
-- Fields), the ranges from OpenStreetMap API v0.6. `negsuc n` is -(n + 1).
use Rattle.std.specs.Prelude.{◌≡◌, ◌+ℤ◌, [], Some, None, pos, negsuc, codes}
use Rattle.osm_coords.specs.Coordinate.{coordinate}
use Rattle.osm_coords.specs.Latitude.{latitude, latitude_of}
use Rattle.osm_coords.specs.Longitude.{longitude, longitude_of}
use Rattle.osm_coords.specs.Written.{written}

-- a text denotes ten-millionths of a degree; zeros in front and after the decimals change nothing, and `-0` is 0
unfoldable pub texts_read : Type 0
texts_read =
    (coordinate (codes "0") ≡ Some (pos 0))
    × (coordinate (codes "-0") ≡ Some (pos 0))
    × (coordinate (codes "-000.0000000") ≡ Some (pos 0))
    × (coordinate (codes "-0.0000001") ≡ Some (negsuc 0))
    × (coordinate (codes "007.5") ≡ Some (pos 75000000))
    × (coordinate (codes "-7.50") ≡ Some (negsuc 74999999))
    × (coordinate (codes "12.3456789") ≡ Some (pos 123456789))
    × (coordinate (codes "1.05") ≡ Some (pos 10500000))
    × (coordinate (codes "180") ≡ Some (pos 1800000000))
    × (coordinate (codes "999.9999999") ≡ Some (pos 9999999999))

-- all else is refused: another sign, no digit or four in front of the point, none or eight after it, a space
unfoldable pub texts_refused : Type 0
texts_refused =
    (coordinate [] ≡ None)
    × (coordinate (codes "-") ≡ None)
    × (coordinate (codes "+1") ≡ None)
    × (coordinate (codes "--1") ≡ None)
    × (coordinate (codes "5.") ≡ None)
    × (coordinate (codes ".5") ≡ None)
    × (coordinate (codes ".") ≡ None)
    × (coordinate (codes "1.-5") ≡ None)
    × (coordinate (codes "1.2.3") ≡ None)
    × (coordinate (codes "0090") ≡ None)
    × (coordinate (codes "1.12345670") ≡ None)
    × (coordinate (codes " 5") ≡ None)
    × (coordinate (codes "5 ") ≡ None)
    × (coordinate (codes "5e1") ≡ None)

-- a latitude is from -90 to 90 degrees, and a longitude from -180 to 180; neither wraps
unfoldable pub ranges_kept : Type 0
ranges_kept =
    (latitude_of (codes "90") ≡ Some (pos 900000000))
    × (latitude_of (codes "-90.0000000") ≡ Some (negsuc 899999999))
    × (latitude_of (codes "90.0000001") ≡ None)
    × (latitude_of (codes "-90.0000001") ≡ None)
    × (longitude_of (codes "180.0000000") ≡ Some (pos 1800000000))
    × (longitude_of (codes "-180") ≡ Some (negsuc 1799999999))
    × (longitude_of (codes "180.0000001") ≡ None)
    × (longitude_of (codes "-180.0000001") ≡ None)
    × (longitude_of (codes "90.0000001") ≡ Some (pos 900000001))
    × (latitude (pos 899999999 +ℤ pos 1) ≡ Some (pos 900000000))
    × (latitude (pos 900000000 +ℤ pos 1) ≡ None)
    × (longitude (negsuc 1799999999 +ℤ negsuc 0) ≡ None)

-- seven decimals, and no needless zero in front; 0 has no sign
unfoldable pub texts_written : Type 0
texts_written =
    (written (pos 0) ≡ codes "0.0000000")
    × (written (negsuc 0) ≡ codes "-0.0000001")
    × (written (pos 123456789) ≡ codes "12.3456789")
    × (written (pos 75000000) ≡ codes "7.5000000")
    × (written (pos 1800000000) ≡ codes "180.0000000")
    × (written (negsuc 899999999) ≡ codes "-90.0000000")
