-- The data of a tree, beside what is found in the tree.
use Rattle.std.proofs.Common.{◌≡◌, ℕ, List, Option, Some, None, option_map, is_some, Bool, true, false, bytes_eq, cond, ◌&&◌, true≢false, refl, sym, ap, ◌∙◌}
use Rattle.std.specs.Prelude.{option_and_then}
use Rattle.std.proofs.lemmas.Slice.Eq.{bytes_eq-Decides}
use Rattle.json.specs.Find as trees
use Rattle.json.specs.Find.{later_or}
use Rattle.json.specs.Json as json
use Rattle.json_values.specs.Views.{data_of, items_data, members_data, number_or_infinite}
use Rattle.serde_json.proofs.Views.{get_member-put, get_member-put_other}
use Rattle.serde_json.specs.Data.{Num, Data, Items, Members, no_members, put, item, array, object, number}
use Rattle.serde_json.specs.Find.{as_bool, as_null, as_number, as_str, get, get_member}
use Rattle.serde_json.specs.Read.{number_of, of_json, of_items, of_members}

-- The data of a value that was found, or what was found otherwise.
abbrev or_else : Option json.Json → Option Data → Option Data
or_else None other = other
or_else (Some j) other = Some (data_of j)

or_else-nothing : (o : Option json.Json) → or_else o None ≡ option_map data_of o
or_else-nothing None = refl
or_else-nothing (Some j) = refl

put_member : (k l : List ℕ) (j : json.Json) (ms : Members) (b : Bool) → bytes_eq l k ≡ b → get_member k (put l (data_of j) ms) ≡ or_else (cond b (Some j) None) (get_member k ms)
put_member k l j ms true e = ap (λ n. get_member n (put l (data_of j) ms)) (sym ((bytes_eq-Decides l k).0 e)) ∙ get_member-put l (data_of j) ms
put_member k l j ms false e = get_member-put_other k l (data_of j) ms (λ same. true≢false (sym ((bytes_eq-Decides l k).1 (sym same)) ∙ e))

earlier : (o p : Option json.Json) (d e : Option Data) → d ≡ or_else p e → or_else o d ≡ or_else (later_or o p) e
earlier None p d e h = h
earlier (Some j) p d e h = refl

-- The last member with a key counts.
get_members : (k : List ℕ) (ms : json.Members) (found : Members) → get_member k (members_data ms found) ≡ or_else (trees.get_member k ms) (get_member k found)
get_members k json.no_members found = refl
get_members k (json.member l j ms) found =
    get_members k ms (put l (data_of j) found)
    ∙ earlier (trees.get_member k ms) (cond (bytes_eq l k) (Some j) None) _ (get_member k found) (put_member k l j found (bytes_eq l k) refl)

-- The value of a key.
pub get_is : (k : List ℕ) (j : json.Json) → option_map data_of (trees.get k j) ≡ get k (data_of j)
get_is k json.null = refl
get_is k (json.boolean b) = refl
get_is k (json.number s) = refl
get_is k (json.string s) = refl
get_is k (json.array js) = refl
get_is k (json.object ms) = sym (or_else-nothing (trees.get_member k ms)) ∙ sym (get_members k ms no_members)

pub str_is : (j : json.Json) → trees.as_str j ≡ as_str (data_of j)
str_is json.null = refl
str_is (json.boolean b) = refl
str_is (json.number s) = refl
str_is (json.string s) = refl
str_is (json.array js) = refl
str_is (json.object ms) = refl

pub bool_is : (j : json.Json) → trees.as_bool j ≡ as_bool (data_of j)
bool_is json.null = refl
bool_is (json.boolean b) = refl
bool_is (json.number s) = refl
bool_is (json.string s) = refl
bool_is (json.array js) = refl
bool_is (json.object ms) = refl

pub null_is : (j : json.Json) → trees.is_null j ≡ is_some (as_null (data_of j))
null_is json.null = refl
null_is (json.boolean b) = refl
null_is (json.number s) = refl
null_is (json.string s) = refl
null_is (json.array js) = refl
null_is (json.object ms) = refl

-- A whole number of a token is one of the data.
module _ {X : Type 0} (fits : Num → Option X) where
  whole_of : (s : List ℕ) (n : Option Num) → fits (number_or_infinite s None) ≡ None → option_and_then fits n ≡ fits (number_or_infinite s n)
  whole_of s None none = sym none
  whole_of s (Some x) none = refl

  pub whole_is : ((s : List ℕ) → fits (number_or_infinite s None) ≡ None) → (j : json.Json) → option_and_then fits (option_and_then number_of (trees.as_number j)) ≡ option_and_then fits (as_number (data_of j))
  whole_is none json.null = refl
  whole_is none (json.boolean b) = refl
  whole_is none (json.number s) = whole_of s (number_of s) (none s)
  whole_is none (json.string s) = refl
  whole_is none (json.array js) = refl
  whole_is none (json.object ms) = refl

-- What a tree converts to is its data.
number_is : (s : List ℕ) (n : Option Num) (d : Data) → option_map number n ≡ Some d → number (number_or_infinite s n) ≡ d
number_is s None d e = absurd (cc)
number_is s (Some x) d e = cc

array_is : (js : json.Items) (o : Option Items) (d : Data) → ((ds : Items) → o ≡ Some ds → items_data js ≡ ds) → option_map array o ≡ Some d → array (items_data js) ≡ d
array_is js None d inside e = absurd (cc)
array_is js (Some ds) d inside e = ap array (inside ds refl) ∙ cc

object_is : (ms : json.Members) (o : Option Members) (d : Data) → ((ds : Members) → o ≡ Some ds → members_data ms no_members ≡ ds) → option_map object o ≡ Some d → object (members_data ms no_members) ≡ d
object_is ms None d inside e = absurd (cc)
object_is ms (Some ds) d inside e = ap object (inside ds refl) ∙ cc

item_is : (j : json.Json) (js : json.Items) (o : Option Data) (p : Option Items) (ds : Items) → ((d : Data) → o ≡ Some d → data_of j ≡ d) → ((more : Items) → p ≡ Some more → items_data js ≡ more)
    → option_and_then (λ d. option_map (item d) p) o ≡ Some ds → item (data_of j) (items_data js) ≡ ds
item_is j js None p ds first rest e = absurd (cc)
item_is j js (Some d) None ds first rest e = absurd (cc)
item_is j js (Some d) (Some more) ds first rest e = ap (λ x. item x (items_data js)) (first d refl) ∙ ap (item d) (rest more refl) ∙ cc

member_is : (k : List ℕ) (j : json.Json) (ms : json.Members) (o : Option Data) (found ds : Members) → ((d : Data) → o ≡ Some d → data_of j ≡ d) → ((more : Members) → of_members ms more ≡ Some ds → members_data ms more ≡ ds)
    → option_and_then (λ d. of_members ms (put k d found)) o ≡ Some ds → members_data ms (put k (data_of j) found) ≡ ds
member_is k j ms None found ds first rest e = absurd (cc)
member_is k j ms (Some d) found ds first rest e = ap (λ x. members_data ms (put k x found)) (first d refl) ∙ rest (put k d found) e

mutual
  pub data_is : (j : json.Json) (d : Data) → of_json j ≡ Some d → data_of j ≡ d
  data_is json.null d e = cc
  data_is (json.boolean b) d e = cc
  data_is (json.number s) d e = number_is s (number_of s) d e
  data_is (json.string s) d e = cc
  data_is (json.array js) d e = array_is js (of_items js) d (λ ds is. items_is js ds is) e
  data_is (json.object ms) d e = object_is ms (of_members ms no_members) d (λ ds is. members_is ms no_members ds is) e

  items_is : (js : json.Items) (ds : Items) → of_items js ≡ Some ds → items_data js ≡ ds
  items_is json.no_items ds e = cc
  items_is (json.item j js) ds e = item_is j js (of_json j) (of_items js) ds (λ d is. data_is j d is) (λ more is. items_is js more is) e

  members_is : (ms : json.Members) (found ds : Members) → of_members ms found ≡ Some ds → members_data ms found ≡ ds
  members_is json.no_members found ds e = cc
  members_is (json.member k j ms) found ds e = member_is k j ms (of_json j) found ds (λ d is. data_is j d is) (λ more is. members_is ms more ds is) e

-- A tree converts or does not.
pub converts : (j : json.Json) (o : Option Data) → of_json j ≡ o → is_some o ≡ true → of_json j ≡ Some (data_of j)
converts j None is there = absurd (true≢false (sym there))
converts j (Some d) is there = is ∙ ap Some (sym (data_is j d is))

-- Whether members convert depends on no members before them.
same_found : (k : List ℕ) (o : Option Data) (ms : json.Members) (found other : Members) → ((f g : Members) → is_some (of_members ms f) ≡ is_some (of_members ms g))
    → is_some (option_and_then (λ d. of_members ms (put k d found)) o) ≡ is_some (option_and_then (λ d. of_members ms (put k d other)) o)
same_found k None ms found other rest = refl
same_found k (Some d) ms found other rest = rest (put k d found) (put k d other)

pub any_found : (ms : json.Members) (found other : Members) → is_some (of_members ms found) ≡ is_some (of_members ms other)
any_found json.no_members found other = refl
any_found (json.member k j ms) found other = same_found k (of_json j) ms found other (λ f g. any_found ms f g)

-- Members convert if the first one does and the others do.
member_converts : (k : List ℕ) (o : Option Data) (ms : json.Members) → is_some (option_and_then (λ d. of_members ms (put k d no_members)) o) ≡ (is_some o && is_some (of_members ms no_members))
member_converts k None ms = refl
member_converts k (Some d) ms = any_found ms (put k d no_members) no_members

pub members_convert : (k : List ℕ) (j : json.Json) (ms : json.Members) → is_some (of_members (json.member k j ms) no_members) ≡ (is_some (of_json j) && is_some (of_members ms no_members))
members_convert k j ms = member_converts k (of_json j) ms
