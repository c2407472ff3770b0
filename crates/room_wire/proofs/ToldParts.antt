-- The parts of elements as they are written, and their trees (RFC 8259).
use Rattle.std.proofs.Common.{◌≡◌, ◌<◌, ◌^◌, ℕ, suc, ℤ, pos, negsuc, List, [], ◌∷◌, map, codes, T, FitsSigned, refl, sym, ap, subst, arith, option_map, is_lt}
use Rattle.json.proofs.Printed.Decimals.{IsNumber-decimal}
use Rattle.json.specs.Token.{number as number_token}
use Rattle.serde_json.proofs.Numbers.{number_of-decimal, number_of-negative}
use Rattle.serde_json.specs.Data.{Data, number, string}
use Rattle.serde_json.specs.Find.{of_integer}
use Rattle.room_wire.specs.Prelude.{signed_decimal, is_sorted, below_all, w64, Name, Element, text_cmp, Pairs, AreTagRows, element_tree, tag_members, whole}
use Rattle.room_wire.specs.Inner.Writing.{IsReadable, members_of, tree_tokens, under_tree}
use Rattle.room_wire.proofs.Written.{first_test, is_less, object_is_readable, put_first}
use Rattle.room_wire.proofs.Numerals.{IsNumber-negative}

-- numbers
pub whole_is_readable : (n : ℕ) → n < 2 ^ 64 → IsReadable (whole n)
whole_is_readable n h = record { same = ap (option_map number) (number_of-decimal n h); numbers = IsNumber-decimal n h }

pub integer_is_readable : (z : ℤ) → FitsSigned w64 z → IsReadable (number (of_integer z))
integer_is_readable (pos n) f = let h : n < 2 ^ 63 = f.sfits in whole_is_readable n (omega (arith, h))
integer_is_readable (negsuc n) f = let h : n < 2 ^ 63 = f.sfits in record { same = ap (option_map number) (number_of-negative n h); numbers = IsNumber-negative (suc n) (omega arith) (omega (arith, h)) }

pub integer_tokens : (z : ℤ) → number_token (signed_decimal z) ∷ [] ≡ tree_tokens (number (of_integer z))
integer_tokens (pos n) = refl
integer_tokens (negsuc n) = refl

-- tags
abbrev pub tag_member : List ℕ × List ℕ → List ℕ × Data
tag_member e = (e.0, string e.1)

pub tags_are_members : (tags : Pairs) → members_of (map tag_member tags) ≡ tag_members tags
tags_are_members [] = refl
tags_are_members (e ∷ es) = rw (tags_are_members es) refl

below_alike : (k : List ℕ) (tags : Pairs) → below_all text_cmp k (map tag_member tags) ≡ below_all text_cmp k tags
below_alike k [] = refl
below_alike k (e ∷ es) = rw (below_alike k es) refl

sorted_alike : (tags : Pairs) → is_sorted text_cmp (map tag_member tags) ≡ is_sorted text_cmp tags
sorted_alike [] = refl
sorted_alike (e ∷ es) = rw (below_alike e.0 es, sorted_alike es) refl

pub tags_rise : (tags : Pairs) → AreTagRows tags → T (is_sorted text_cmp (map tag_member tags))
tags_rise tags h = subst T (sym (sorted_alike tags)) (first_test _ _ h)

-- rows of a map
abbrev pub row_told : {A : Type 0} → Name × Element A → Data
row_told r = element_tree r.0 r.1

-- an id, and a tree under a word
pub under_is_readable : (id : ℕ) (word : List ℕ) (d : Data) → T (is_lt (text_cmp (codes "id") word)) → IsReadable (whole id) → IsReadable d → IsReadable (under_tree id word d)
under_is_readable id word d rises i h =
    object_is_readable ((codes "id", whole id) ∷ (word, d) ∷ []) (rw (is_less _ rises) tt) (put_first (λ m. IsReadable m.1) (codes "id", whole id) ((word, d) ∷ []) i (put_first (λ m. IsReadable m.1) (word, d) [] h (λ j e l. absurd (omega (arith, l)))))
