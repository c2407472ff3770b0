-- The written parts of an element are read back as the same parts.
use Rattle.std.proofs.Common.{◌≡◌, ◌<◌, ◌^◌, ◌&&◌, ℕ, suc, ℤ, pos, negsuc, List, [], ◌∷◌, length, map, Bool, true, false, not, cond, T, Option, Some, None, Result, Ok, All, FitsSigned, nat_lt, nat_le, nat_eq, refl, sym, ap, ◌∙◌, arith, option_map, option_and_then}
use Rattle.std.proofs.lemmas.Bool.Decides.{nat_tests}
use Rattle.serde_json.specs.Data.{Data, string}
use Rattle.serde_json.specs.Events.{members_len}
use Rattle.serde_json.specs.View.{items_of}
use Rattle.serde_json.specs.Find.{as_i64, of_integer}
use Rattle.room_wire.specs.Prelude.{list_all, is_sorted, w64, Name, name_of_text, name_with-some, name_of, name_text, name_with, AreMembers, are_members, AreNodes, text_cmp, Pairs, AreTagRows, is_long, is_none_or, AreGiven, GivenTags, Fault, HasId, node_of, nodes_in, member_of, members_in, names_in, entries_in, entries_of, value_of, tags_of, given_of, given_tags_of, id_tree, name_tree, member_tree, entry_members, tag_members, given_tree, is_true}
use Rattle.room_wire.specs.Reading.{◌>>=◌}
use Rattle.osm_elements.specs.declared.name.Kind.TheVariants as kinds

first_test : (a b : Bool) → T (a && b) → T a
first_test true b p = tt
first_test false b p = p

second_test : (a b : Bool) → T (a && b) → T b
second_test true b p = p
second_test false b p = absurd p

-- the written keys and values of an object are read back
by_tests : {V : Type 0} (a b c : Bool) (k : List ℕ) (o : Option V) (v : V) → T (not a && (not b && c)) → (T c → o ≡ Some v) → option_and_then {U = List ℕ × V} (λ key. option_map (λ value. (key, value)) o) (cond a None (cond b None (Some k))) ≡ Some (k, v)
by_tests true b c k o v p h = absurd p
by_tests false true c k o v p h = absurd p
by_tests false false true k o v p h = rw (h tt) refl
by_tests false false false k o v p h = absurd p

-- a key within its limits, with a value that passes the test
abbrev pub is_entry : {V : Type 0} → (V → Bool) → List ℕ × V → Bool
is_entry passes e = not (nat_eq (length e.0) 0) && (not (is_long e.0) && passes e.1)

pub members_len-entry_members : {V : Type 0} (tree : V → Data) (entries : List (List ℕ × V)) → members_len (entry_members tree entries) ≡ length entries
members_len-entry_members tree [] = refl
members_len-entry_members tree (e ∷ es) = ap suc (members_len-entry_members tree es)

module _ {V : Type 0} (tree : V → Data) (reading : Data → Option V) (passes : V → Bool) (back : (v : V) → T (passes v) → reading (tree v) ≡ Some v) where
  entries_in-entry_members : (entries : List (List ℕ × V)) → T (list_all (is_entry passes) entries) → entries_in reading (entry_members tree entries) ≡ Some entries
  entries_in-entry_members [] h = refl
  entries_in-entry_members (e ∷ es) h =
      let here = first_test (is_entry passes e) _ h in
      let later = second_test (is_entry passes e) _ h in
      rw (by_tests (nat_eq (length e.0) 0) (is_long e.0) (passes e.1) e.0 (reading (tree e.1)) e.1 here (back e.1), entries_in-entry_members es later) refl

  entries_back : (entries : List (List ℕ × V)) → T (nat_le (length entries) 1000 && list_all (is_entry passes) entries) → entries_of reading (entry_members tree entries) ≡ Some entries
  entries_back entries h =
      let few : nat_le (length entries) 1000 ≡ true = is_true (nat_le (length entries) 1000) (first_test (nat_le (length entries) 1000) _ h) in
      rw (members_len-entry_members tree entries, few) (entries_in-entry_members entries (second_test (nat_le (length entries) 1000) _ h))

value_back : (v : List ℕ) → T (not (is_long v)) → value_of (string v) ≡ Some v
value_back v = by (is_long v)
  where
    by : (b : Bool) → T (not b) → cond b None (Some v) ≡ Some v
    by true p = absurd p
    by false p = refl

pub tags_of-tag_members : (tags : Pairs) → AreTagRows tags → tags_of (tag_members tags) ≡ Some tags
tags_of-tag_members tags h = entries_back string value_of (λ v. not (is_long v)) value_back tags (second_test (is_sorted text_cmp tags) _ h)

given_back : (given : Option (List ℕ)) → T (is_none_or (λ v. not (is_long v)) given) → given_of (given_tree given) ≡ Some given
given_back None h = refl
given_back (Some v) h = ap (option_map Some) (value_back v h)

pub given_tags_of-given_tag_members : (given : GivenTags) → AreGiven given → given_tags_of (entry_members given_tree given) ≡ Some given
given_tags_of-given_tag_members given h = entries_back given_tree given_of (is_none_or (λ v. not (is_long v))) given_back given (second_test (is_sorted text_cmp given) _ h)

-- names
pub names_in-trees : (names : List Name) → All HasId names → names_in (items_of (map name_tree names)) ≡ Some names
names_in-trees [] f = refl
names_in-trees (n ∷ ns) f =
    let first = name_of_text n (f 0 n (omega arith)) in
    let rest = names_in-trees ns (λ k d l. f (suc k) d (omega arith)) in
    rw (first, rest) refl

-- nodes
pub as_i64-of_integer : (z : ℤ) → FitsSigned w64 z → as_i64 (of_integer z) ≡ Some z
as_i64-of_integer (pos n) f = let h : n < 2 ^ 63 = f.sfits in let t : nat_lt n (2 ^ 63) ≡ true = grind (arith, nat_tests) in rw t refl
as_i64-of_integer (negsuc n) f = refl

node_of-id_tree : (n : Name) → n.kind ≡ kinds.Node → HasId n → node_of (id_tree n) ≡ Some n
node_of-id_tree n kind f = ap (option_and_then (name_with kinds.Node)) (as_i64-of_integer n.id f) ∙ ap (λ k. name_with k n.id) (sym kind) ∙ name_with-some n

pub nodes_in-ids : (names : List Name) → AreNodes names → All HasId names → nodes_in (items_of (map id_tree names)) ≡ Some names
nodes_in-ids [] h f = refl
nodes_in-ids (n ∷ ns) h f =
    let first = node_of-id_tree n (h 0 n (omega arith)) (f 0 n (omega arith)) in
    let rest = nodes_in-ids ns (λ k d l. h (suc k) d (omega arith)) (λ k d l. f (suc k) d (omega arith)) in
    rw (first, rest) refl

-- members
short_role : (n : Name) (role : List ℕ) (o : Option Name) (a : Bool) → o ≡ Some n → a ≡ false → option_and_then {U = Name × List ℕ} (λ name. option_map (λ r. (name, r)) (cond a None (Some role))) o ≡ Some (n, role)
short_role n role o a h g = rw (h, g) refl

is_short : (a b : Bool) → T (not a && b) → a ≡ false
is_short true b p = absurd (first_test false b p)
is_short false b p = refl

member_of-member_tree : (m : Name × List ℕ) → is_long m.1 ≡ false → HasId m.0 → member_of (member_tree m) ≡ Some m
member_of-member_tree m short f = short_role m.0 m.1 (name_of (name_text m.0)) (is_long m.1) (name_of_text m.0 f) short

pub members_in-trees : (members : List (Name × List ℕ)) → AreMembers members → All (λ (m : Name × List ℕ). HasId m.0) members → members_in (items_of (map member_tree members)) ≡ Some members
members_in-trees [] h f = refl
members_in-trees (m ∷ ms) h f =
    let first = member_of-member_tree m (is_short (is_long m.1) (are_members ms) h) (f 0 m (omega arith)) in
    let rest = members_in-trees ms (second_test (not (is_long m.1)) (are_members ms) h) (λ k d l. f (suc k) d (omega arith)) in
    rw (first, rest) refl

-- steps that all succeed
pub two : {A B C : Type 0} (f : A → B → C) (r : Result A Fault) (s : Result B Fault) (a : A) (b : B) → r ≡ Ok a → s ≡ Ok b → (r >>= λ x. s >>= λ y. Ok (f x y)) ≡ Ok (f a b)
two f r s a b h g = rw (h, g) refl

pub three : {A B C D : Type 0} (f : A → B → C → D) (r : Result A Fault) (s : Result B Fault) (t : Result C Fault) (a : A) (b : B) (c : C) → r ≡ Ok a → s ≡ Ok b → t ≡ Ok c
    → (r >>= λ x. s >>= λ y. t >>= λ z. Ok (f x y z)) ≡ Ok (f a b c)
three f r s t a b c h g k = rw (h, g, k) refl
