-- Parts of lists of names, and tests over them.
use Rattle.std.proofs.Common.{sym, ap, ◌∙◌, arith}
use Rattle.std.specs.Prelude.{◌≡◌, ◌≤◌, ℕ, zero, suc, Bool, true, false, not, ◌||◌, List, [], ◌∷◌, nat_lt, nat_le, take, drop, refl}
use Rattle.std.proofs.lemmas.Bool.Decides.{nat_tests}
use Rattle.edit_simple.specs.Prelude.{is_same, is_among, same_names, or_right}
use Rattle.osm_elements.specs.declared.name.Name.{Name}
use Rattle.osm_elements.specs.declared.name.Kind.{Kind}

pub from_not : (b : Bool) → not b ≡ true → b ≡ false
from_not true e = absurd (cc)
from_not false e = refl

pub or_cases : (a b c : Bool) → (a || b) ≡ true → (a ≡ true → c ≡ true) → (b ≡ true → c ≡ true) → c ≡ true
or_cases true b c h f g = f refl
or_cases false b c h f g = g h

-- if neither of two tests passes, the first fails
pub or_first : (a b : Bool) → (a || b) ≡ false → a ≡ false
or_first true b h = h
or_first false b h = refl

pub or_second : (a b : Bool) → (a || b) ≡ false → b ≡ false
or_second true b h = absurd (cc)
or_second false b h = h

-- a length within the limit does not exceed it
pub not_more : (n most : ℕ) → nat_le n most ≡ true → nat_lt most n ≡ false
not_more n most h = grind (arith, nat_tests)

-- a list that is no longer than a list within the limit is within the limit
pub still_short : (n k most : ℕ) → n ≤ k → nat_le k most ≡ true → nat_le n most ≡ true
still_short n k most h e = grind (arith, nat_tests)

-- a list that is no shorter than a list of the least length has the least length
pub still_long : (n k least : ℕ) → n ≤ k → nat_le least n ≡ true → nat_le least k ≡ true
still_long n k least h e = grind (arith, nat_tests)

pub drop_within : (n : ℕ) (e : Name) (list : List Name) → is_among (drop n list) e ≡ true → is_among list e ≡ true
drop_within zero e list h = h
drop_within (suc n) e [] h = h
drop_within (suc n) e (x ∷ xs) h = or_right (is_same e x) (is_among xs e) (drop_within n e xs h)

pub take_within : (n : ℕ) (e : Name) (list : List Name) → is_among (take n list) e ≡ true → is_among list e ≡ true
take_within zero e list h = absurd (cc)
take_within (suc n) e [] h = h
take_within (suc n) e (x ∷ xs) h = by (is_same e x) h (take_within n e xs)
  where
    by : (b : Bool) → (b || is_among (take n xs) e) ≡ true → (is_among (take n xs) e ≡ true → is_among xs e ≡ true) → (b || is_among xs e) ≡ true
    by true i rest = refl
    by false i rest = rest i

-- a name in a list differs from a name that is not in the list
pub another_name : (e x : Name) (list : List Name) → is_among list e ≡ true → is_among list x ≡ false → is_same e x ≡ false
another_name e x list i none = by (is_same e x) refl
  where
    by : (b : Bool) → is_same e x ≡ b → is_same e x ≡ false
    by true s = absurd (cc (sym i ∙ ap (is_among list) (same_names e x s) ∙ none))
    by false s = s

-- names differ if a test of their kinds has different results
pub another_kind : (p : Kind → Bool) (e x : Name) → p e.kind ≡ true → p x.kind ≡ false → is_same e x ≡ false
another_kind p e x one other = by (is_same e x) refl
  where
    by : (b : Bool) → is_same e x ≡ b → is_same e x ≡ false
    by true s = absurd (cc (sym one ∙ ap (λ z. p z.kind) (same_names e x s) ∙ other))
    by false s = s
