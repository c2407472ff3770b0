-- Arrays and objects that are written token by token (RFC 8259).
use Rattle.std.proofs.Common.{◌≡◌, ◌<◌, ◌≤◌, ◌+◌, ◌++◌, ℕ, zero, suc, List, [], ◌∷◌, length, take, drop, map, All, T, Bool, true, false, ◌&&◌, Some, refl, get_or, sym, ap, append_assoc, append-nil, subst, ◌∙◌, arith, Ordering, Less, Equal, Greater, nat_cmp, option_map, is_lt}
use Rattle.std.proofs.lemmas.List.{drop_more, take_all}
use Rattle.std.proofs.lemmas.Cmp.{nat_list_cmp_total}
use Rattle.json.specs.Token.{Token, begin_object, end_object, key}
use Rattle.json.specs.Tree.{ItemsHaveNumbers, MembersHaveNumbers, items_tokens, members_tokens as json_members_tokens}
use Rattle.serde_json.specs.Data.{Data, array, object, member, put}
use Rattle.serde_json.specs.Read.{of_json, of_items, of_members}
use Rattle.serde_json.specs.View.{items_of}
use Rattle.serde_json.specs.Written.{outline, items_outline, members_outline}
use Rattle.room_wire.specs.Prelude.{ordering_reverse, slice_cmp, is_sorted, below_all, text_cmp}
use Rattle.room_wire.specs.Inner.Writing.{IsReadable, members_of, members_tokens, tree_tokens}

-- ---- tokens

-- the tokens that are still to be written of an array or of an object, with the closing bracket
abbrev pub items_left : List Data → List Token
items_left ds = items_tokens (items_outline (items_of ds))

abbrev pub members_left : List (List ℕ × Data) → List Token
members_left ms = json_members_tokens (members_outline (members_of ms))

-- the opening bracket is written
pub opened : (old new : List Token) (t : Token) → new ≡ old ++ t ∷ [] → (left : List Token) → new ++ left ≡ old ++ t ∷ left
opened old new t is left = ap (λ ts. ts ++ left) is ∙ append_assoc old (t ∷ []) left

-- one item or one member is written
pub item_written : (old new whole : List Token) (d : Data) (ds : List Data) → new ≡ old ++ tree_tokens d → old ++ items_left (d ∷ ds) ≡ whole → new ++ items_left ds ≡ whole
item_written old new whole d ds is h = ap (λ ts. ts ++ items_left ds) is ∙ append_assoc old (tree_tokens d) (items_left ds) ∙ h

-- the members of an object, without its brackets
pub member_told : (old new whole : List Token) (m : List ℕ × Data) (ms : List (List ℕ × Data)) → new ≡ old ++ key m.0 ∷ tree_tokens m.1 → old ++ members_tokens (m ∷ ms) ≡ whole → new ++ members_tokens ms ≡ whole
member_told old new whole m ms is h = ap (λ ts. ts ++ members_tokens ms) is ∙ append_assoc old (key m.0 ∷ tree_tokens m.1) (members_tokens ms) ∙ h

pub then_members : (old middle new : List Token) (m : List ℕ × Data) (ms : List (List ℕ × Data)) → middle ≡ old ++ key m.0 ∷ tree_tokens m.1 → new ≡ middle ++ members_tokens ms → new ≡ old ++ members_tokens (m ∷ ms)
then_members old middle new m ms first rest = rest ∙ ap (λ ts. ts ++ members_tokens ms) first ∙ append_assoc old (key m.0 ∷ tree_tokens m.1) (members_tokens ms)

-- the brackets around the members
members_end : (ms : List (List ℕ × Data)) → members_tokens ms ++ end_object ∷ [] ≡ members_left ms
members_end [] = refl
members_end (m ∷ ms) = ap (λ ts. key m.0 ∷ ts) (append_assoc (tree_tokens m.1) (members_tokens ms) (end_object ∷ []) ∙ ap (λ ts. tree_tokens m.1 ++ ts) (members_end ms))

pub members_closed : (old : List Token) (ms : List (List ℕ × Data)) → old ++ begin_object ∷ (members_tokens ms ++ end_object ∷ []) ≡ old ++ tree_tokens (object (members_of ms))
members_closed old ms = ap (λ ts. old ++ begin_object ∷ ts) (members_end ms)

-- ---- what is read

pub items_same : (ds : List Data) → All IsReadable ds → of_items (items_outline (items_of ds)) ≡ Some (items_of ds)
items_same [] k = refl
items_same (d ∷ ds) k =
    let first : of_json (outline d) ≡ Some d = (k 0 d (omega arith)).same in
    let rest = items_same ds (λ i e l. k (suc i) e (omega (arith, l))) in
    rw (first, rest) refl

items_numbers : (ds : List Data) → All IsReadable ds → ItemsHaveNumbers (items_outline (items_of ds))
items_numbers [] k = tt
items_numbers (d ∷ ds) k = ((k 0 d (omega arith)).numbers, items_numbers ds (λ i e l. k (suc i) e (omega (arith, l))))

pub array_is_readable : (ds : List Data) → All IsReadable ds → IsReadable (array (items_of ds))
array_is_readable ds k = record { same = ap (option_map array) (items_same ds k); numbers = items_numbers ds k }

pub first_test : (a b : Bool) → T (a && b) → T a
first_test true b p = tt
first_test false b p = p

second_test : (a b : Bool) → T (a && b) → T b
second_test true b p = p
second_test false b p = absurd p

pub is_less : (o : Ordering) → T (is_lt o) → o ≡ Less
is_less Less p = refl
is_less Equal p = absurd p
is_less Greater p = absurd p

below_middle : (k : List ℕ) (done : List (List ℕ × Data)) (m : List ℕ × Data) (more : List (List ℕ × Data)) → T (below_all text_cmp k (done ++ m ∷ more)) → text_cmp k m.0 ≡ Less
below_middle k [] m more h = is_less _ (first_test _ _ h)
below_middle k (x ∷ done) m more h = below_middle k done m more (second_test _ _ h)

-- a member whose key is above the earlier keys goes last
put_last : (done : List (List ℕ × Data)) (m : List ℕ × Data) (more : List (List ℕ × Data)) → T (is_sorted text_cmp (done ++ m ∷ more)) → put m.0 m.1 (members_of done) ≡ members_of (done ++ m ∷ [])
put_last [] m more h = refl
put_last (x ∷ done) m more h =
    let above : slice_cmp nat_cmp m.0 x.0 ≡ Greater = nat_list_cmp_total.antisymm m.0 x.0 ∙ ap ordering_reverse (below_middle x.0 done m more (first_test _ _ h)) in
    rw above (ap (member x.0 x.1) (put_last done m more (second_test _ _ h)))

members_same : (done rest : List (List ℕ × Data)) → T (is_sorted text_cmp (done ++ rest)) → All (λ m. IsReadable m.1) rest
    → of_members (members_outline (members_of rest)) (members_of done) ≡ Some (members_of (done ++ rest))
members_same done [] h k = ap (λ ys. Some (members_of ys)) (sym (append-nil done))
members_same done (m ∷ ms) h k =
    let first : of_json (outline m.1) ≡ Some m.1 = (k 0 m (omega arith)).same in
    rw first (
    ap (of_members (members_outline (members_of ms))) (put_last done m ms h)
    ∙ members_same (done ++ m ∷ []) ms (subst (λ ys. T (is_sorted text_cmp ys)) (sym (append_assoc done (m ∷ []) ms)) h) (λ i e l. k (suc i) e (omega (arith, l)))
    ∙ ap (λ ys. Some (members_of ys)) (append_assoc done (m ∷ []) ms))

members_numbers : (ms : List (List ℕ × Data)) → All (λ m. IsReadable m.1) ms → MembersHaveNumbers (members_outline (members_of ms))
members_numbers [] k = tt
members_numbers (m ∷ ms) k = ((k 0 m (omega arith)).numbers, members_numbers ms (λ i e l. k (suc i) e (omega (arith, l))))

pub object_is_readable : (ms : List (List ℕ × Data)) → T (is_sorted text_cmp ms) → All (λ m. IsReadable m.1) ms → IsReadable (object (members_of ms))
object_is_readable ms h k = record { same = ap (option_map object) (members_same [] ms h k); numbers = members_numbers ms k }

-- ---- loops over a list, each item of which is written

module _ {X Y : Type 0} (f : X → Y) where
  -- the remaining list begins with the next item
  pub next_left : (xs : List X) (i : ℕ) (x : X) → i < length xs → x ≡ get_or xs i x → map f (drop i xs) ≡ f x ∷ map f (drop (i + 1) xs)
  next_left xs i x h is = ap (map f) (drop_more xs i x h ∙ ap (λ y. y ∷ drop (i + 1) xs) (sym is))

  all_mapped : (P : Y → Type 0) (xs : List X) → All (λ x. P (f x)) xs → All P (map f xs)
  all_mapped P [] a j d l = absurd (omega (arith, l))
  all_mapped P (x ∷ xs) a zero d l = a 0 x (omega arith)
  all_mapped P (x ∷ xs) a (suc j) d l = all_mapped P xs (λ n e m. a (suc n) e (omega (arith, m))) j d (omega (arith, l))

  -- what is true of all items is true of the mapped list
  pub all_given : (P : Y → Type 0) (xs : List X) (i : ℕ) → length xs ≤ i → All (λ x. P (f x)) (take i xs) → All P (map f xs)
  all_given P xs i h k = all_mapped P xs (subst (All (λ x. P (f x))) (take_all i xs h) k)

pub put_first : {Y : Type 0} (P : Y → Type 0) (y : Y) (ys : List Y) → P y → All P ys → All P (y ∷ ys)
put_first P y ys h k zero d l = h
put_first P y ys h k (suc i) d l = k i d (omega (arith, l))

-- the closing bracket is written
pub closed : (old inner new : List Token) (ts : List Token) (t : Token) → inner ≡ old ++ ts → new ≡ inner ++ t ∷ [] → new ≡ old ++ (ts ++ t ∷ [])
closed old inner new ts t is h = h ∙ ap (λ us. us ++ t ∷ []) is ∙ append_assoc old ts (t ∷ [])
