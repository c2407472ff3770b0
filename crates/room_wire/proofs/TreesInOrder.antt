-- In the tree of a text, each object has its keys in order, each once. A number that is marked as negative is below 0
-- and fits an i64.
use Rattle.std.proofs.Common.{◌≡◌, ◌<◌, ◌^◌, ◌&&◌, ℕ, zero, suc, pos, negsuc, neg_ℤ, Bool, true, false, cond, T, List, [], ◌∷◌, Option, Some, None, IfSome, nat_lt, nat_le, refl, Float, ap, subst, sym, arith, option_map, option_and_then, Ordering, Less, Equal, Greater}
use Rattle.std.proofs.lemmas.Bool.Decides.{nat_tests}
use Rattle.std.proofs.lemmas.Cmp.{nat_list_cmp_total}
use Rattle.serde_json.specs.Data.{Num, unsigned, negative, float, Data, null, boolean, number, string, array, object, Items, no_items, item, Members, no_members, member, put}
use Rattle.serde_json.specs.Find.{get, get_member}
use Rattle.serde_json.specs.Read.{read, of_json, of_items, of_members, number_of, max_depth}
use Rattle.json.specs.Lex.{tokens}
use Rattle.room_wire.specs.Prelude.{match_ordering, text_cmp}
use Rattle.room_wire.proofs.Found.{if_any, if_map, if_more, if_then}
use Rattle.std.specs.FinMap.Entries as entries
use Rattle.json.specs.Json as json

-- members as pairs of a key and a tree
abbrev pub pairs_of : Members → List (List ℕ × Data)
pairs_of no_members = []
pairs_of (member k d ms) = (k, d) ∷ pairs_of ms

-- a number that is read: if it is marked as negative, it is below 0
abbrev pub IsReadNumber : Num → Type 0
IsReadNumber (unsigned n) = Unit {0}
IsReadNumber (negative z) = (n : ℕ) × (z ≡ negsuc n) × (n < 2 ^ 63)
IsReadNumber (float x) = Unit {0}

abbrev mutual
  pub IsInOrder : Data → Type 0
  IsInOrder null = Unit {0}
  IsInOrder (boolean b) = Unit {0}
  IsInOrder (number n) = IsReadNumber n
  IsInOrder (string s) = Unit {0}
  IsInOrder (array ds) = AreInOrder ds
  IsInOrder (object ms) = T (entries.is_sorted text_cmp (pairs_of ms)) × HasInOrder ms

  pub AreInOrder : Items → Type 0
  AreInOrder no_items = Unit {0}
  AreInOrder (item d ds) = IsInOrder d × AreInOrder ds

  -- each member's tree is in order
  pub HasInOrder : Members → Type 0
  HasInOrder no_members = Unit {0}
  HasInOrder (member k d ms) = IsInOrder d × HasInOrder ms

pairs_of-choice : (o : Ordering) (k l : List ℕ) (d e : Data) (ms more : Members) → pairs_of more ≡ entries.put text_cmp k d (pairs_of ms)
    → pairs_of (match_ordering o (member k d (member l e ms)) (member l d ms) (member l e more)) ≡ entries.by_order o ((k, d) ∷ (l, e) ∷ pairs_of ms) ((l, d) ∷ pairs_of ms) ((l, e) ∷ entries.put text_cmp k d (pairs_of ms))
pairs_of-choice Less k l d e ms more h = refl
pairs_of-choice Equal k l d e ms more h = refl
pairs_of-choice Greater k l d e ms more h = ap (λ ps. (l, e) ∷ ps) h

pairs_of-put : (k : List ℕ) (d : Data) (ms : Members) → pairs_of (put k d ms) ≡ entries.put text_cmp k d (pairs_of ms)
pairs_of-put k d no_members = refl
pairs_of-put k d (member l e ms) = pairs_of-choice (text_cmp k l) k l d e ms (put k d ms) (pairs_of-put k d ms)

has_in_order_choice : (o : Ordering) (k l : List ℕ) (d e : Data) (ms more : Members) → IsInOrder d → IsInOrder e → HasInOrder ms → HasInOrder more
    → HasInOrder (match_ordering o (member k d (member l e ms)) (member l d ms) (member l e more))
has_in_order_choice Less k l d e ms more h g r s = (h, (g, r))
has_in_order_choice Equal k l d e ms more h g r s = (h, r)
has_in_order_choice Greater k l d e ms more h g r s = (g, s)

has_in_order_put : (k : List ℕ) (d : Data) (ms : Members) → IsInOrder d → HasInOrder ms → HasInOrder (put k d ms)
has_in_order_put k d no_members h r = (h, tt)
has_in_order_put k d (member l e ms) h r = has_in_order_choice (text_cmp k l) k l d e ms (put k d ms) h r.0 r.1 (has_in_order_put k d ms h r.1)

object_put : (k : List ℕ) (d : Data) (ms : Members) → IsInOrder d → IsInOrder (object ms) → IsInOrder (object (put k d ms))
object_put k d ms h r =
    (subst (λ ps. T (entries.is_sorted text_cmp ps)) (sym (pairs_of-put k d ms)) (entries.is_sorted-put text_cmp nat_list_cmp_total k d (pairs_of ms) r.0), has_in_order_put k d ms h r.1)

IsRead : Option Num → Type 0
IsRead o = IfSome o IsReadNumber

choice_read : (b : Bool) (n m : Option Num) → IsRead n → IsRead m → IsRead (cond b n m)
choice_read true n m h g = h
choice_read false n m h g = g

unsigned_read : (n : ℕ) → IsRead (Some (unsigned n))
unfolding IsRead
unsigned_read n = tt

float_read : (b : Bool) (x : Float) → IsRead (cond b (Some (float x)) None)
unfolding IsRead
float_read true x = tt
float_read false x = tt

negative_read : (n : ℕ) (b : Bool) (m : Option Num) → IsRead m → IsRead (cond (b && nat_lt 0 n && nat_le n (2 ^ 63)) (Some (negative (neg_ℤ (pos n)))) m)
unfolding IsRead
negative_read n false m h = h
negative_read zero true m h = h
negative_read (suc n) true m h = by (nat_lt 0 (suc n) && nat_le (suc n) (2 ^ 63)) refl
  where
    by : (b : Bool) → (nat_lt 0 (suc n) && nat_le (suc n) (2 ^ 63)) ≡ b → IfSome (cond b (Some (negative (negsuc n))) m) IsReadNumber
    by true e = (n, refl, grind (arith, nat_tests))
    by false e = h

number_of_read : (s : List ℕ) → IsRead (number_of s)
unfolding number_of
number_of_read s = search (choice_read, negative_read, float_read, unsigned_read)

number_read : (s : List ℕ) → IfSome (number_of s) IsReadNumber
unfolding IsRead
number_read s = number_of_read s

abbrev IsObject : Members → Type 0
IsObject ms = IsInOrder (object ms)

mutual
  in_order : (j : json.Json) → IfSome (of_json j) IsInOrder
  in_order json.null = tt
  in_order (json.boolean b) = tt
  in_order (json.number s) = if_map IsInOrder number (number_of s) (number_read s)
  in_order (json.string s) = tt
  in_order (json.array js) = if_map IsInOrder array (of_items js) (items_in_order js)
  in_order (json.object ms) = if_map IsInOrder object (of_members ms no_members) (members_in_order ms no_members (tt, tt))

  items_in_order : (js : json.Items) → IfSome (of_items js) AreInOrder
  items_in_order json.no_items = tt
  items_in_order (json.item j js) =
      if_then IsInOrder AreInOrder (of_json j) (λ d. option_map (item d) (of_items js)) (in_order j)
      (λ d h. if_map AreInOrder (item d) (of_items js) (if_more AreInOrder (λ ds. AreInOrder (item d ds)) (of_items js) (items_in_order js) (λ ds g. (h, g))))

  members_in_order : (js : json.Members) (found : Members) → IsObject found → IfSome (of_members js found) IsObject
  members_in_order json.no_members found h = h
  members_in_order (json.member k j js) found h =
      if_then IsInOrder IsObject (of_json j) (λ d. of_members js (put k d found)) (in_order j) (λ d g. members_in_order js (put k d found) (object_put k d found g h))

-- a tree that is read is in order
pub read_in_order : (text : List ℕ) → IfSome (read text) IsInOrder
read_in_order text =
    if_any IsInOrder (option_and_then (λ p. json.if_last p.0 p.1) (json.value max_depth (tokens text))) of_json in_order

member_choice : (o : Ordering) (found : Option Data) (e : Data) → IsInOrder e → IfSome found IsInOrder → IfSome (match_ordering o found (Some e) found) IsInOrder
member_choice Less found e h g = g
member_choice Equal found e h g = h
member_choice Greater found e h g = g

member_in_order : (k : List ℕ) (ms : Members) → HasInOrder ms → IfSome (get_member k ms) IsInOrder
member_in_order k no_members h = tt
member_in_order k (member l e ms) h = member_choice (text_cmp k l) (get_member k ms) e h.0 (member_in_order k ms h.1)

-- the value of a key in a tree that is in order
pub get_in_order : (k : List ℕ) (d : Data) → IsInOrder d → IfSome (get k d) IsInOrder
get_in_order k null h = tt
get_in_order k (boolean b) h = tt
get_in_order k (number n) h = tt
get_in_order k (string s) h = tt
get_in_order k (array ds) h = tt
get_in_order k (object ms) h = member_in_order k ms h.1
