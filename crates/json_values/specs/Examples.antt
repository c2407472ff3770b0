-- Examples of objects, worked out by hand: an object's members in the order of a text, and the data that they make.
use Rattle.std.specs.Prelude.{◌≡◌, Some, None, codes, false, true}
use Rattle.json.specs.Json as json
use Rattle.json_values.specs.Views.{data_of}
use Rattle.serde_json.specs.Data.{Data, boolean, member, no_members, null, object}
use Rattle.serde_json.specs.Find.{get}

-- {"b":false,"a":true,"b":null}
abbrev pub twice_b : Data
twice_b =
    data_of (json.object (json.member (codes "b") (json.boolean false) (json.member (codes "a") (json.boolean true)
    (json.member (codes "b") json.null json.no_members))))

-- the last value of a key counts, and the keys are in order; other keys have none, and {} has no keys
unfoldable pub members_put : Type 0
members_put =
    (data_of (json.object json.no_members) ≡ object no_members)
    × (twice_b ≡ object (member (codes "a") (boolean true) (member (codes "b") null no_members)))
    × (get (codes "b") twice_b ≡ Some null)
    × (get (codes "a") twice_b ≡ Some (boolean true))
    × (get (codes "c") twice_b ≡ None)
