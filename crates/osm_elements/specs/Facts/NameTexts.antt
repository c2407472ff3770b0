-- A name has one text, and a text denotes the name that has it.
use Rattle.std.proofs.Common.{arith, sym, ap, subst, ◌∙◌}
use Rattle.std.specs.Prelude.{◌≡◌, ◌≢◌, ◌↔◌, ◌≤◌, ◌<◌, ◌^◌, ◌&&◌, ℕ, ℤ, pos, negsuc, neg_ℤ, suc, List, [], ◌∷◌, Option, Some, None, Bool, true, false, T, not, cond, MatchOption, IfNone, FitsSigned, nat_eq, refl, get_or, decimal, option_and_then, unwrap_or}
use lib.Signed.{mag}
use Prim.Native.Nat.{zero}
use Rattle.std.specs.Fmt.{signed_decimal}
use Rattle.std.specs.Int.{w64}
use Rattle.std.specs.Ordering.{int_eq, int_cmp, is_eq}
use Rattle.std.specs.FinMap.{int_cmp-IsAntisymmetric}
use Rattle.std.specs.declared.cmp.Ordering.{Ordering}
use Rattle.std.specs.declared.cmp.Ordering.TheVariants.{Less, Equal, Greater}
use Rattle.std.specs.Cmp.Lexicographic.{pointwise, bytes_decides}
use Rattle.std.specs.Str.Parse.{signed_digits_value, digits_value, starts_with_minus}
use Rattle.std.proofs.lemmas.Fmt.{decimal_is_IsNumeral, decimal_digit, first_decimal}
use Rattle.std.proofs.lemmas.Bool.Decides.{nat_tests}
use Rattle.osm_elements.specs.declared.name.Name.{Name}
use Rattle.osm_elements.specs.declared.name.Kind.{Kind}
use Rattle.osm_elements.specs.declared.name.Kind.TheVariants.{Node, Way, Relation}
use Rattle.osm_elements.specs.Names.{Splits, NoLetter, letter_of}
use Rattle.osm_elements.specs.Facts.Names.{same_name}
use Rattle.osm_elements.specs.NameTexts.{name_text, name_of, name_with, named, is_id, if_written, id_of, kind_of_letter, if_passed}

-- a kind's letter denotes the kind
pub kind_of_letter_of : (kind : Kind) → kind_of_letter (letter_of kind) ≡ Some kind
kind_of_letter_of Node = refl
kind_of_letter_of Way = refl
kind_of_letter_of Relation = refl

-- each i64 passes the test for an id
pub is_id-fits : (id : ℤ) → FitsSigned w64 id → is_id id ≡ true
is_id-fits (pos n) f = let h : n < 2 ^ 63 = f.sfits in grind (arith, nat_tests)
is_id-fits (negsuc n) f = let h : n < 2 ^ 63 = f.sfits in grind (arith, nat_tests)

pub mag_fits : (id : ℤ) → FitsSigned w64 id → mag id < 2 ^ 63
mag_fits (pos n) f = f.sfits
mag_fits (negsuc n) f = f.sfits

-- the digits of a number begin with no sign, and denote the number
first_digit : (n : ℕ) → n < 2 ^ 64 → 48 ≤ get_or (decimal n) 0 0
first_digit zero h = subst (λ l. 48 ≤ get_or l 0 0) (sym (decimal_digit 0 (omega arith))) (omega arith)
first_digit (suc n) h = let f = first_decimal (suc n) (omega arith) h in omega (arith, f)

unsigned_value : (ds : List ℕ) → starts_with_minus ds ≡ false → nat_eq (get_or ds 0 0) 43 ≡ false → signed_digits_value 10 ds ≡ pos (digits_value 10 ds)
unsigned_value ds m p = rw (m, p) refl

value_of_digits : (n : ℕ) → n < 2 ^ 63 → signed_digits_value 10 (decimal n) ≡ pos n
value_of_digits n h =
    let first = first_digit n (omega arith) in
    let no_minus : starts_with_minus (decimal n) ≡ false = grind (arith, nat_tests) in
    let no_plus : nat_eq (get_or (decimal n) 0 0) 43 ≡ false = grind (arith, nat_tests) in
    unsigned_value (decimal n) no_minus no_plus ∙ ap pos (decimal_is_IsNumeral n (omega arith)).1

pub signed_digits_value-signed_decimal : (id : ℤ) → FitsSigned w64 id → signed_digits_value 10 (signed_decimal id) ≡ id
signed_digits_value-signed_decimal (pos n) f = value_of_digits n f.sfits
signed_digits_value-signed_decimal (negsuc n) f = let h : n < 2 ^ 63 = f.sfits in ap (λ m. neg_ℤ (pos m)) (decimal_is_IsNumeral (suc n) (omega arith)).1

same_bytes : (xs ys : List ℕ) → xs ≡ ys → pointwise nat_eq xs ys ≡ true
same_bytes xs ys e = (bytes_decides xs ys).1 e

if_written-signed_decimal : (id : ℤ) → FitsSigned w64 id → if_written (signed_decimal id) id ≡ Some id
if_written-signed_decimal id f = rw (is_id-fits id f, same_bytes (signed_decimal id) (signed_decimal id) refl) refl

pub id_of-signed_decimal : (id : ℤ) → FitsSigned w64 id → id_of (signed_decimal id) ≡ Some id
id_of-signed_decimal id f = ap (if_written (signed_decimal id)) (signed_digits_value-signed_decimal id f) ∙ if_written-signed_decimal id f

-- `Name::new` returns the name of the kind and the id
passed : {X : Type 0} (b : Bool) (f : T b → X) (t : T b) → if_passed b f ≡ Some (f t)
passed true f t = refl
passed false f t = absurd t

apart : (id : ℤ) → id ≢ pos 0 → T (not (int_eq id (pos 0)))
apart id h = by (int_cmp id (pos 0)) refl
  where
    by : (o : Ordering) → int_cmp id (pos 0) ≡ o → T (not (is_eq o))
    by Less e = tt
    by Equal e = absurd (h (int_cmp-IsAntisymmetric id (pos 0) e))
    by Greater e = tt

pub name_with-some : (n : Name) → name_with n.kind n.id ≡ Some n
name_with-some n =
    let t = apart n.id n.not_zero in
    passed (not (int_eq n.id (pos 0))) (named n.kind n.id) t ∙ ap Some (same_name (named n.kind n.id t) n refl refl)

pub new_is : (kind : Kind) (id : ℤ) (r : Option Name) → MatchOption r (id ≡ pos 0) (λ n. (n.kind ≡ kind) × (n.id ≡ id)) → r ≡ name_with kind id
new_is kind id None none = sym (ap (name_with kind) none)
new_is kind id (Some n) same = sym (name_with-some n) ∙ (λ i. name_with (same.0 i) (same.1 i))

-- the name that a text denotes, by its letter and its digits
pub name_of-split : (text : List ℕ) (kind : Kind) (digits : List ℕ) → Splits text kind digits → name_of text ≡ option_and_then (name_with kind) (id_of digits)
name_of-split text kind digits e =
    ap name_of e ∙ ap (option_and_then (λ (k : Kind). option_and_then (name_with k) (id_of digits))) (kind_of_letter_of kind)

pub name_of_text : (n : Name) → FitsSigned w64 n.id → name_of (name_text n) ≡ Some n
name_of_text n f =
    name_of-split (name_text n) n.kind (signed_decimal n.id) refl
    ∙ ap (option_and_then (name_with n.kind)) (id_of-signed_decimal n.id f)
    ∙ name_with-some n

-- a text that begins with no kind's letter denotes no name
kind_of_letter-none : (c : ℕ) → ((kind : Kind) → c ≢ letter_of kind) → kind_of_letter c ≡ None
kind_of_letter-none c h =
    let n : nat_eq c 110 ≡ false = let p = h Node in grind (arith, nat_tests) in
    let w : nat_eq c 119 ≡ false = let p = h Way in grind (arith, nat_tests) in
    let r : nat_eq c 114 ≡ false = let p = h Relation in grind (arith, nat_tests) in
    rw (n, w, r) refl

pub name_of-no_letter : (text : List ℕ) → NoLetter text → name_of text ≡ None
name_of-no_letter [] h = refl
name_of-no_letter (c ∷ digits) h =
    ap (option_and_then (λ (k : Kind). option_and_then (name_with k) (id_of digits))) (kind_of_letter-none c (λ kind e. h kind digits (ap (λ b. b ∷ digits) e)))

-- a text that is not that of a name denotes no name
is_named : Option Name → Bool
is_named None = false
is_named (Some m) = true

not_none : {X : Type 0} (n : Name) → ◌≡◌ {A = Option Name} None (Some n) → X
unfolding is_named
not_none n e = absurd (subst (λ (o : Option Name). T (not (is_named o))) e tt)

pub no_name : (text : List ℕ) (r : Option Name) → r ≡ name_of text → IfNone r ((n : Name) → FitsSigned w64 n.id → text ≢ name_text n)
no_name text None e = λ n f p. not_none n (e ∙ ap name_of p ∙ name_of_text n f)
no_name text (Some m) e = tt

-- the name that a text denotes has that text
letter_of_found : (c : ℕ) (kind : Kind) → kind_of_letter c ≡ Some kind → c ≡ letter_of kind
letter_of_found c kind = by (nat_eq c 110) (nat_eq c 119) (nat_eq c 114) refl refl refl
  where
    by : (n w r : Bool) → nat_eq c 110 ≡ n → nat_eq c 119 ≡ w → nat_eq c 114 ≡ r → cond n (Some Node) (cond w (Some Way) (cond r (Some Relation) None)) ≡ Some kind → c ≡ letter_of kind
    by true w r p q s e = let h : c ≡ 110 = grind (arith, nat_tests) in h ∙ ap letter_of (ap (λ o. unwrap_or o Node) e)
    by false true r p q s e = let h : c ≡ 119 = grind (arith, nat_tests) in h ∙ ap letter_of (ap (λ o. unwrap_or o Way) e)
    by false false true p q s e = let h : c ≡ 114 = grind (arith, nat_tests) in h ∙ ap letter_of (ap (λ o. unwrap_or o Relation) e)
    by false false false p q s e = absurd (cc)

digits_of_written : (digits : List ℕ) (z id : ℤ) → if_written digits z ≡ Some id → digits ≡ signed_decimal id
digits_of_written digits z id = by (is_id z) (pointwise nat_eq digits (signed_decimal z)) refl
  where
    by : (b c : Bool) → pointwise nat_eq digits (signed_decimal z) ≡ c → cond (b && c) (Some z) None ≡ Some id → digits ≡ signed_decimal id
    by true true q e = (bytes_decides digits (signed_decimal z)).0 q ∙ ap signed_decimal (ap (λ o. unwrap_or o z) e)
    by true false q e = absurd (cc)
    by false c q e = absurd (cc)

parts_of_named : (kind : Kind) (id : ℤ) (n : Name) → name_with kind id ≡ Some n → (kind ≡ n.kind) × (id ≡ n.id)
parts_of_named kind id n = by (not (int_eq id (pos 0))) (named kind id) (λ _. (refl, refl))
  where
    by : (b : Bool) (f : T b → Name) → ((t : T b) → (kind ≡ (f t).kind) × (id ≡ (f t).id)) → if_passed b f ≡ Some n → (kind ≡ n.kind) × (id ≡ n.id)
    by true f h e = let same : f tt ≡ n = ap (λ o. unwrap_or o (f tt)) e in ((h tt).0 ∙ ap (λ m. m.kind) same, (h tt).1 ∙ ap (λ m. m.id) same)
    by false f h e = not_none n e

pub name_text-name_of : (text : List ℕ) (n : Name) → name_of text ≡ Some n → text ≡ name_text n
name_text-name_of [] n e = not_none n e
name_text-name_of (c ∷ digits) n e = by (kind_of_letter c) (id_of digits) refl refl e
  where
    by : (k : Option Kind) (i : Option ℤ) → kind_of_letter c ≡ k → id_of digits ≡ i → option_and_then (λ (kind : Kind). option_and_then (name_with kind) i) k ≡ Some n → c ∷ digits ≡ name_text n
    by None i p q e = not_none n e
    by (Some kind) None p q e = not_none n e
    by (Some kind) (Some id) p q e =
        let parts = parts_of_named kind id n e in
        let letter = letter_of_found c kind p ∙ ap letter_of parts.0 in
        let written = digits_of_written digits (signed_digits_value 10 digits) id q ∙ ap signed_decimal parts.1 in
        λ i. letter i ∷ written i

-- a text is read as a name if and only if it is the name's text
pub name_read_back : (text : List ℕ) (n : Name) → FitsSigned w64 n.id → (name_of text ≡ Some n) ↔ (text ≡ name_text n)
name_read_back text n f = (name_text-name_of text n, λ e. ap name_of e ∙ name_of_text n f)
