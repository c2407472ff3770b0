-- The text of a name, and the name that a text denotes, which are this project's.
use Rattle.std.specs.Prelude.{◌≢◌, ◌^◌, ◌&&◌, ℕ, Bool, true, false, not, T, List, [], ◌∷◌, Option, Some, None, ℤ, pos, negsuc, nat_eq, nat_lt, if◌then◌else◌, option_and_then}
use Rattle.std.specs.Fmt.{signed_decimal}
use Rattle.std.specs.Ordering.{int_eq}
use Rattle.std.specs.Cmp.Lexicographic.{pointwise}
use Rattle.std.specs.Str.Parse.{signed_digits_value}
use mathlib.Core.Path.{subst}
use Rattle.osm_elements.specs.declared.name.Name.{Name}
use Rattle.osm_elements.specs.declared.name.Kind.{Kind}
use Rattle.osm_elements.specs.declared.name.Kind.TheVariants.{Node, Way, Relation}
use Rattle.osm_elements.specs.Names.{letter_of}

-- the kind's letter and the id in decimal
abbrev pub name_text : Name → List ℕ
name_text n = letter_of n.kind ∷ signed_decimal n.id

pub not_zero : (i : ℤ) → T (not (int_eq i (pos 0))) → i ≢ pos 0
not_zero i t e = subst (λ z. T (not (int_eq z (pos 0)))) e t

-- the name of a kind and an id that is not 0
abbrev pub named : Kind → (i : ℤ) → T (not (int_eq i (pos 0))) → Name
named kind i t = record { kind = kind; id = i; not_zero = not_zero i t }

abbrev pub if_passed : {X : Type 0} (b : Bool) → (T b → X) → Option X
if_passed true f = Some (f tt)
if_passed false f = None

-- the name of a kind and an id, if the id is not 0
abbrev pub name_with : Kind → ℤ → Option Name
name_with kind i = if_passed (not (int_eq i (pos 0))) (named kind i)

-- an id fits an i64
abbrev pub is_id : ℤ → Bool
is_id (pos n) = nat_lt n (2 ^ 63)
is_id (negsuc n) = nat_lt n (2 ^ 63)

-- the id, if it fits an i64 and its decimal text is `digits`
abbrev pub if_written : List ℕ → ℤ → Option ℤ
if_written digits id = if is_id id && pointwise nat_eq digits (signed_decimal id) then Some id else None

-- the i64 with this decimal text, if any
abbrev pub id_of : List ℕ → Option ℤ
id_of digits = if_written digits (signed_digits_value 10 digits)

abbrev pub kind_of_letter : ℕ → Option Kind
kind_of_letter c =
    if nat_eq c 110 then Some Node
    else (if nat_eq c 119 then Some Way else (if nat_eq c 114 then Some Relation else None))

-- the name with this text, if any
abbrev pub name_of : List ℕ → Option Name
name_of [] = None
name_of (c ∷ digits) = option_and_then (λ kind. option_and_then (name_with kind) (id_of digits)) (kind_of_letter c)
