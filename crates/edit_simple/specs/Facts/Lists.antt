-- Tests over lists of names, and rests of lists.
use Rattle.std.proofs.Common.{sym, ap, ◌∙◌, arith, add-one}
use Rattle.std.specs.Prelude.{◌≡◌, ◌<◌, ◌+◌, ℕ, suc, Bool, true, false, ◌||◌, List, [], ◌∷◌, length, drop, nat_lt, nat_le, reverse, refl, cond, get_or, filter}
use Rattle.std.proofs.Math.Seq.{drop-cons}
use Rattle.std.proofs.lemmas.Bool.Decides.{nat_tests}
use Rattle.std.proofs.lemmas.List.{reverse-append}
use Rattle.room_interface.specs.Prelude.{list_all, is_same, is_among, is_among-append, same_names, is_eq-name_cmp_itself, both_true, first_true, second_true}
use Rattle.osm_elements.specs.declared.name.Name.{Name}

pub or_left : (a b : Bool) → a ≡ true → (a || b) ≡ true
or_left true b e = refl
or_left false b e = absurd (cc)

pub or_right : (a b : Bool) → b ≡ true → (a || b) ≡ true
or_right true b e = refl
or_right false b e = e

pub first_false : (a b : Bool) → (a || b) ≡ false → a ≡ false
first_false true b p = p
first_false false b p = refl

pub second_false : (a b : Bool) → (a || b) ≡ false → b ≡ false
second_false true b p = absurd (cc)
second_false false b p = p

or_false : (a : Bool) → (a || false) ≡ a
or_false true = refl
or_false false = refl

or_turned : (a b : Bool) → (a || b) ≡ (b || a)
or_turned true true = refl
or_turned true false = refl
or_turned false true = refl
or_turned false false = refl

-- a number that is not less is at least as great
pub at_least : (n k : ℕ) → nat_lt n k ≡ false → nat_le k n ≡ true
at_least n k e = grind (arith, nat_tests)

-- a list contains its first name
pub is_among_own : (x : Name) (xs : List Name) → is_among (x ∷ xs) x ≡ true
is_among_own x xs = or_left (is_same x x) (is_among xs x) (is_eq-name_cmp_itself x)

-- if all names of a list pass a test, each of them passes
pub all_listed : (p : Name → Bool) (names : List Name) (e : Name) → list_all p names ≡ true → is_among names e ≡ true → p e ≡ true
all_listed p [] e all i = absurd (cc)
all_listed p (x ∷ xs) e all i = by (is_same e x) refl i (all_listed p xs e (second_true (p x) (list_all p xs) all))
  where
    by : (b : Bool) → is_same e x ≡ b → (b || is_among xs e) ≡ true → (is_among xs e ≡ true → p e ≡ true) → p e ≡ true
    by true s j rest = ap p (same_names e x s) ∙ first_true (p x) (list_all p xs) all
    by false s j rest = rest j

-- if each name of a list passes a test, all pass
pub all_from : (p : Name → Bool) (names : List Name) → ((e : Name) → is_among names e ≡ true → p e ≡ true) → list_all p names ≡ true
all_from p [] h = refl
all_from p (x ∷ xs) h = both_true (p x) (list_all p xs) (h x (is_among_own x xs)) (all_from p xs (λ e i. h e (or_right (is_same e x) (is_among xs e) i)))

-- if a filter keeps no name, no name passes
pub none_left : (p : Name → Bool) (names : List Name) → filter p names ≡ [] → (e : Name) → is_among names e ≡ true → p e ≡ false
none_left p [] h e i = absurd (cc)
none_left p (x ∷ xs) h e i = by (p x) refl h (is_same e x) refl i (none_left p xs)
  where
    by : (b : Bool) → p x ≡ b → cond b (x ∷ filter p xs) (filter p xs) ≡ [] → (s : Bool) → is_same e x ≡ s → (s || is_among xs e) ≡ true
        → (filter p xs ≡ [] → (y : Name) → is_among xs y ≡ true → p y ≡ false) → p e ≡ false
    by true f g s t i rest = absurd (cc)
    by false f g true t i rest = ap p (same_names e x t) ∙ f
    by false f g false t i rest = rest g e i

pub is_among-reverse : (xs : List Name) (e : Name) → is_among (reverse xs) e ≡ is_among xs e
is_among-reverse [] e = refl
is_among-reverse (x ∷ xs) e =
    ap (λ l. is_among l e) (reverse-append (x ∷ []) xs) ∙ is_among-append e (reverse xs) (x ∷ [])
    ∙ ap (λ b. b || (is_same e x || false)) (is_among-reverse xs e) ∙ ap (λ b. is_among xs e || b) (or_false (is_same e x)) ∙ or_turned (is_among xs e) (is_same e x)

-- the rest of a list from a position on
pub drop_at : {X : Type 0} (xs : List X) (i : ℕ) (x : X) → i < length xs → x ≡ get_or xs i x → drop i xs ≡ x ∷ drop (i + 1) xs
drop_at xs i x h is = drop-cons xs i x h ∙ ap (λ y. y ∷ drop (suc i) xs) (sym is) ∙ ap (λ n. x ∷ drop n xs) (sym (add-one i))
