-- The trees of values that are read.
use Rattle.std.proofs.Common.{◌≡◌, ◌<◌, ◌^◌, ◌&&◌, All, FitsSigned, ℕ, ℤ, pos, negsuc, Bool, true, false, not, cond, T, List, [], ◌∷◌, length, map, Option, Some, None, IfSome, nat_eq, nat_le, nat_lt, refl, ◌∙◌, ap, subst, sym, arith, option_map, option_and_then, int_eq, is_lt}
use Rattle.std.proofs.lemmas.Bool.Decides.{nat_tests}
use Rattle.std.proofs.lemmas.List.Elements.{All-cons, All-head, All-nil, All-tail}
use Rattle.serde_json.specs.Data.{Data, null, boolean, number, string, array, object, unsigned, negative, float, Items, no_items, item, Members as ObjectMembers, no_members, member}
use Rattle.serde_json.specs.Events.{members_len}
use Rattle.serde_json.specs.Find.{as_array, as_i64, as_number, as_object, as_str, as_u64, of_integer}
use Rattle.serde_json.specs.View.{items_of}
use Rattle.room_wire.specs.Prelude.{w64, list_all, pointwise, signed_decimal, signed_digits_value, Name, Kind, name_text-name_of, AreMembers, are_members, id_of, if_passed, if_written, is_id, kind_of_letter, name_of, name_with, named, text_cmp, is_long, is_none_or, HasId, entries_in, entries_of, entry_of, given_of, items_in, key_of, member_of, member_with, name_item, node_of, text_of, value_of, entry_members, id_tree, member_tree, name_tree, whole, given_tree}
use Rattle.room_wire.proofs.Found.{if_any, if_fails, if_found, if_map, if_more, if_passes, if_then}
use Rattle.room_wire.proofs.TreesInOrder.{AreInOrder, IsInOrder, pairs_of}
use Rattle.room_wire.proofs.ReadBackProofs.{is_entry, members_len-entry_members}
use Rattle.std.specs.FinMap.Entries as entries
use Rattle.osm_elements.specs.declared.name.Kind.TheVariants as kinds

-- a valid id fits an i64
fits-is_id : (id : ℤ) → is_id id ≡ true → FitsSigned w64 id
fits-is_id (pos n) t = record { sfits = grind (arith, nat_tests) }
fits-is_id (negsuc n) t = record { sfits = grind (arith, nat_tests) }

both_T : (a b : Bool) → T a → T b → T (a && b)
both_T true b p q = q
both_T false b p q = p

-- ---- the tree of a value that is found

pub string_found : (o : Option Data) → IfSome (option_and_then as_str o) (λ s. o ≡ Some (string s))
string_found None = tt
string_found (Some null) = tt
string_found (Some (boolean b)) = tt
string_found (Some (number n)) = tt
string_found (Some (string s)) = refl
string_found (Some (array ds)) = tt
string_found (Some (object ms)) = tt

pub array_found : (o : Option Data) → IfSome o IsInOrder → IfSome (option_and_then as_array o) (λ ds. (o ≡ Some (array ds)) × AreInOrder ds)
array_found None h = tt
array_found (Some null) h = tt
array_found (Some (boolean b)) h = tt
array_found (Some (number n)) h = tt
array_found (Some (string s)) h = tt
array_found (Some (array ds)) h = (refl, h)
array_found (Some (object ms)) h = tt

abbrev pub IsSorted : ObjectMembers → Type 0
IsSorted ms = T (entries.is_sorted text_cmp (pairs_of ms))

pub object_found : (o : Option Data) → IfSome o IsInOrder → IfSome (option_and_then as_object o) (λ ms. (o ≡ Some (object ms)) × IsSorted ms)
object_found None h = tt
object_found (Some null) h = tt
object_found (Some (boolean b)) h = tt
object_found (Some (number n)) h = tt
object_found (Some (string s)) h = tt
object_found (Some (array ds)) h = tt
object_found (Some (object ms)) h = (refl, h.0)

pub whole_found : (d : Data) → IfSome (option_and_then as_u64 (as_number d)) (λ n. d ≡ whole n)
whole_found null = tt
whole_found (boolean b) = tt
whole_found (number (unsigned n)) = refl
whole_found (number (negative z)) = tt
whole_found (number (float x)) = tt
whole_found (string s) = tt
whole_found (array ds) = tt
whole_found (object ms) = tt

abbrev pub IsInteger : Data → ℤ → Type 0
IsInteger d z = (d ≡ number (of_integer z)) × FitsSigned w64 z

small_found : (n : ℕ) → IfSome (cond (nat_lt n (2 ^ 63)) (Some (pos n)) None) (IsInteger (number (unsigned n)))
small_found n = if_passes (IsInteger (number (unsigned n))) (nat_lt n (2 ^ 63)) (Some (pos n)) (λ e. (refl, record { sfits = grind (arith, nat_tests) }))

below_zero : (z : ℤ) (n : ℕ) → z ≡ negsuc n → n < 2 ^ 63 → IsInteger (number (negative z)) z
below_zero z n e h = rw e (refl, record { sfits = h })

pub integer_found : (d : Data) → IsInOrder d → IfSome (option_and_then as_i64 (as_number d)) (IsInteger d)
integer_found null h = tt
integer_found (boolean b) h = tt
integer_found (number (unsigned n)) h = small_found n
integer_found (number (negative z)) (n, e, fits) = below_zero z n e fits
integer_found (number (float x)) h = tt
integer_found (string s) h = tt
integer_found (array ds) h = tt
integer_found (object ms) h = tt

-- ---- names

abbrev pub IsNamed : List ℕ → Name → Type 0
IsNamed text name = (string text ≡ name_tree name) × HasId name

written_id : (digits : List ℕ) (z : ℤ) → IfSome (if_written digits z) (λ id. is_id id ≡ true)
written_id digits z = by (is_id z) (pointwise nat_eq digits (signed_decimal z)) refl
  where
    by : (a b : Bool) → is_id z ≡ a → IfSome (cond (a && b) (Some z) None) (λ id. is_id id ≡ true)
    by true true e = e
    by true false e = tt
    by false b e = tt

passed_name : (P : Name → Type 0) (b : Bool) (f : T b → Name) → ((t : T b) → P (f t)) → IfSome (if_passed b f) P
passed_name P true f h = h tt
passed_name P false f h = tt

id_kept : (kind : Kind) (id : ℤ) → FitsSigned w64 id → IfSome (name_with kind id) HasId
id_kept kind id fits = passed_name HasId (not (int_eq id (pos 0))) (named kind id) (λ t. fits)

id_read : (text : List ℕ) → IfSome (name_of text) HasId
id_read [] = tt
id_read (c ∷ digits) =
    if_any HasId (kind_of_letter c) (λ kind. option_and_then (name_with kind) (id_of digits)) (λ kind.
    if_then (λ id. is_id id ≡ true) HasId (id_of digits) (name_with kind) (written_id digits (signed_digits_value 10 digits)) (λ id is. id_kept kind id (fits-is_id id is)))

pub name_found : (text : List ℕ) → IfSome (name_of text) (IsNamed text)
name_found text = if_found (IsNamed text) (name_of text) (λ n e. (ap string (name_text-name_of text n e), subst (λ o. IfSome o HasId) e (id_read text)))

pub name_item_found : (d : Data) → IfSome (name_item d) (λ n. (d ≡ name_tree n) × HasId n)
name_item_found null = tt
name_item_found (boolean b) = tt
name_item_found (number n) = tt
name_item_found (string s) = name_found s
name_item_found (array ds) = tt
name_item_found (object ms) = tt

-- ---- items

module _ {X : Type 0} (tree : X → Data) (reading : Data → Option X) (Keeps : X → Type 0) (each : (d : Data) → IsInOrder d → IfSome (reading d) (λ x. (d ≡ tree x) × Keeps x)) where
  pub items_found : (ds : Items) → AreInOrder ds → IfSome (items_in reading ds) (λ xs. (ds ≡ items_of (map tree xs)) × All Keeps xs)
  items_found no_items h = (refl, All-nil Keeps)
  items_found (item d ds) h =
      if_then (λ x. (d ≡ tree x) × Keeps x) _ (reading d) (λ x. option_map (λ xs. x ∷ xs) (items_in reading ds)) (each d h.0)
      (λ x here. if_map _ (λ xs. x ∷ xs) (items_in reading ds) (if_more (λ xs. (ds ≡ items_of (map tree xs)) × All Keeps xs) _ (items_in reading ds) (items_found ds h.1)
      (λ xs later. ((λ i. item (here.0 i) (later.0 i)), All-cons Keeps x xs here.1 later.1))))

abbrev pub IsNode : Name → Type 0
IsNode n = (n.kind ≡ kinds.Node) × HasId n

pub node_found : (d : Data) → IsInOrder d → IfSome (node_of d) (λ n. (d ≡ id_tree n) × IsNode n)
node_found d h =
    if_then (IsInteger d) _ (option_and_then as_i64 (as_number d)) (name_with kinds.Node) (integer_found d h)
    (λ z is. passed_name (λ n. (d ≡ id_tree n) × IsNode n) (not (int_eq z (pos 0))) (named kinds.Node z) (λ t. (is.0, (refl, is.1))))

text_found : (t : List ℕ) → IfSome (text_of t) (λ x. (t ≡ x) × T (not (is_long x)))
text_found t = if_fails (λ x. (t ≡ x) × T (not (is_long x))) (is_long t) (Some t) (λ e. (refl, subst (λ b. T (not b)) (sym e) tt))

pub value_found : (d : Data) → IfSome (value_of d) (λ v. (d ≡ string v) × T (not (is_long v)))
value_found null = tt
value_found (boolean b) = tt
value_found (number n) = tt
value_found (string s) = if_more (λ x. (s ≡ x) × T (not (is_long x))) _ (text_of s) (text_found s) (λ x h. (ap string h.0, h.1))
value_found (array ds) = tt
value_found (object ms) = tt

abbrev pub IsShort : Name × List ℕ → Type 0
IsShort m = HasId m.0 × T (not (is_long m.1))

pair_found : (d e : Data) → IfSome (member_with d e) (λ m. (array (item d (item e no_items)) ≡ member_tree m) × IsShort m)
pair_found d e =
    if_then (λ n. (d ≡ name_tree n) × HasId n) _ (name_item d) (λ name. option_map (λ role. (name, role)) (value_of e)) (name_item_found d)
    (λ n named. if_map _ (λ role. (n, role)) (value_of e) (if_more (λ v. (e ≡ string v) × T (not (is_long v))) _ (value_of e) (value_found e)
    (λ v role. ((λ i. array (item (named.0 i) (item (role.0 i) no_items))), (named.1, role.1)))))

pub member_found : (d : Data) → IfSome (member_of d) (λ m. (d ≡ member_tree m) × IsShort m)
member_found null = tt
member_found (boolean b) = tt
member_found (number n) = tt
member_found (string s) = tt
member_found (object ms) = tt
member_found (array no_items) = tt
member_found (array (item d no_items)) = tt
member_found (array (item d (item e no_items))) = pair_found d e
member_found (array (item d (item e (item f ds)))) = tt

pub roles_are_short : (ms : List (Name × List ℕ)) → All IsShort ms → AreMembers ms
roles_are_short [] h = tt
roles_are_short (m ∷ ms) h = both_T (not (is_long m.1)) (are_members ms) (All-head IsShort m ms h).1 (roles_are_short ms (All-tail IsShort m ms h))

-- ---- keys and values

abbrev are_entries : {V : Type 0} → (V → Bool) → List (List ℕ × V) → Bool
are_entries passes es = entries.is_sorted text_cmp es && (nat_le (length es) 1000 && list_all (is_entry passes) es)

module _ {V : Type 0} (tree : V → Data) (reading : Data → Option V) (passes : V → Bool) (each : (d : Data) → IfSome (reading d) (λ v. (d ≡ tree v) × T (passes v))) where
  all_below : (q : List ℕ) (es : List (List ℕ × V)) → entries.below_all text_cmp q (pairs_of (entry_members tree es)) ≡ entries.below_all text_cmp q es
  all_below q [] = refl
  all_below q (e ∷ es) = ap (λ b. is_lt (text_cmp q e.0) && b) (all_below q es)

  are_sorted : (es : List (List ℕ × V)) → entries.is_sorted text_cmp (pairs_of (entry_members tree es)) ≡ entries.is_sorted text_cmp es
  are_sorted [] = refl
  are_sorted (e ∷ es) = λ i. all_below e.0 es i && are_sorted es i

  entry_found : (k : List ℕ) (d : Data) → IfSome (entry_of reading k d) (λ e. (k ≡ e.0) × (d ≡ tree e.1) × T (is_entry passes e))
  entry_found k d =
      if_then (λ key. (k ≡ key) × T (not (nat_eq (length key) 0)) × T (not (is_long key))) _ (key_of k) (λ key. option_map (λ value. (key, value)) (reading d)) (key_found (nat_eq (length k) 0) (is_long k) refl refl)
      (λ key h. if_map _ (λ value. (key, value)) (reading d) (if_more (λ v. (d ≡ tree v) × T (passes v)) _ (reading d) (each d)
      (λ v g. (h.0, g.0, both_T (not (nat_eq (length key) 0)) _ h.1 (both_T (not (is_long key)) (passes v) h.2 g.1)))))
    where
      key_found : (a b : Bool) → nat_eq (length k) 0 ≡ a → is_long k ≡ b → IfSome (cond a None (cond b None (Some k))) (λ key. (k ≡ key) × T (not (nat_eq (length key) 0)) × T (not (is_long key)))
      key_found true b p q = tt
      key_found false true p q = tt
      key_found false false p q = (refl, subst (λ c. T (not c)) (sym p) tt, subst (λ c. T (not c)) (sym q) tt)

  entries_found : (ms : ObjectMembers) → IfSome (entries_in reading ms) (λ es. (ms ≡ entry_members tree es) × T (list_all (is_entry passes) es))
  entries_found no_members = (refl, tt)
  entries_found (member k d ms) =
      if_then (λ e. (k ≡ e.0) × (d ≡ tree e.1) × T (is_entry passes e)) _ (entry_of reading k d) (λ e. option_map (λ es. e ∷ es) (entries_in reading ms)) (entry_found k d)
      (λ e h. if_map _ (λ es. e ∷ es) (entries_in reading ms) (if_more (λ es. (ms ≡ entry_members tree es) × T (list_all (is_entry passes) es)) _ (entries_in reading ms) (entries_found ms)
      (λ es g. ((λ i. member (h.0 i) (h.1 i) (g.0 i)), both_T (is_entry passes e) (list_all (is_entry passes) es) h.2 g.1))))

  pub object_read : (ms : ObjectMembers) → IsSorted ms → IfSome (entries_of reading ms) (λ es. (object ms ≡ object (entry_members tree es)) × T (are_entries passes es))
  object_read ms sorted =
      if_passes _ (nat_le (members_len ms) 1000) (entries_in reading ms)
      (λ few. if_more (λ es. (ms ≡ entry_members tree es) × T (list_all (is_entry passes) es)) _ (entries_in reading ms) (entries_found ms) (λ es h. (
        ap object h.0,
        both_T (entries.is_sorted text_cmp es) _ (subst T (are_sorted es) (subst IsSorted h.0 sorted))
            (both_T (nat_le (length es) 1000) _ (subst T (sym few ∙ ap (λ m. nat_le (members_len m) 1000) h.0 ∙ ap (λ n. nat_le n 1000) (members_len-entry_members tree es)) tt) h.1),
      )))

pub given_found : (d : Data) → IfSome (given_of d) (λ g. (d ≡ given_tree g) × T (is_none_or (λ v. not (is_long v)) g))
given_found null = (refl, tt)
given_found (boolean b) = tt
given_found (number n) = tt
given_found (string s) = if_map _ Some (value_of (string s)) (value_found (string s))
given_found (array ds) = tt
given_found (object ms) = tt
