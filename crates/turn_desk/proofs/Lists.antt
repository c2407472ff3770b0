-- Lists: sums, entries under a number, beginnings, and legal histories.
use Rattle.std.proofs.Common.{◌≡◌, ◌≢◌, ◌⊎◌, ℕ, Bool, true, false, if◌then◌else◌, zero, suc, ◌+◌, ◌≤◌, ◌==◌, eq-eqb, ne_eqb, List, [], ◌∷◌, ◌++◌, length, set, sym, refl, ap, ◌∙◌, subst, ⊎_elim, inl, inr, arith, append_assoc, All}
use Rattle.std.proofs.lemmas.List.{append-nil, map-append}
use Rattle.std.proofs.lemmas.List.Elements.{All-append}
use mathlib.Core.Option.{some, some-injective, some-ne-none}
use lib.ListN.{get_elem?}
use Rattle.turn_desk.specs.History.{History, AreApart, IsAmong, entries, entries_by, BeginsWith, MayFollow, MayAllFollow, IsLegal}
use Rattle.turn_desk.specs.Rule.{total}

module _ {A : Type 0} where
  -- the sum after a change of one element
  pub total-set : (f : A → ℕ) (xs : List A) (i : ℕ) (x y : A) → get_elem? xs i ≡ some x → total f (set xs i y) + f x ≡ total f xs + f y
  total-set f [] i x y e = absurd (some-ne-none x (sym e))
  total-set f (z ∷ zs) zero x y e = let same : f z ≡ f x = ap f (some-injective z x e) in omega arith
  total-set f (z ∷ zs) (suc i) x y e = let later = total-set f zs i x y e in omega arith

  -- the sum of two lists, one after the other
  pub total-append : (f : A → ℕ) (xs ys : List A) → total f (xs ++ ys) ≡ total f xs + total f ys
  total-append f [] ys = omega arith
  total-append f (x ∷ xs) ys = let later = total-append f xs ys in omega arith

  -- an element of a list with x at its end is an element of the list, or x
  pub at_end : (xs : List A) (x y : A) (j : ℕ) → get_elem? (xs ++ x ∷ []) j ≡ some y → (get_elem? xs j ≡ some y) ⊎ ((j ≡ length xs) × (x ≡ y))
  at_end [] x y zero e = inr (refl, some-injective x y e)
  at_end [] x y (suc j) e = absurd (some-ne-none y (sym e))
  at_end (z ∷ xs) x y zero e = inl e
  at_end (z ∷ xs) x y (suc j) e = ⊎_elim (λ here. inl here) (λ t. inr (ap suc t.0, t.1)) (at_end xs x y j e)

  -- an element that is there can be replaced
  pub set_at : (xs : List A) (i : ℕ) (x y : A) → get_elem? xs i ≡ some x → get_elem? (set xs i y) i ≡ some y
  set_at [] i x y e = absurd (some-ne-none x (sym e))
  set_at (z ∷ zs) zero x y e = refl
  set_at (z ∷ zs) (suc i) x y e = set_at zs i x y e

  -- elements at two places are not more than the sum
  total-one : (f : A → ℕ) (xs : List A) (i : ℕ) (x : A) → get_elem? xs i ≡ some x → f x ≤ total f xs
  total-one f [] i x e = absurd (some-ne-none x (sym e))
  total-one f (z ∷ zs) zero x e = let same : f z ≡ f x = ap f (some-injective z x e) in omega arith
  total-one f (z ∷ zs) (suc i) x e = let later = total-one f zs i x e in omega arith

  pub total-two : (f : A → ℕ) (xs : List A) (i j : ℕ) (x y : A) → i ≢ j → get_elem? xs i ≡ some x → get_elem? xs j ≡ some y → f x + f y ≤ total f xs
  total-two f [] i j x y apart e d = absurd (some-ne-none x (sym e))
  total-two f (z ∷ zs) zero zero x y apart e d = absurd (apart refl)
  total-two f (z ∷ zs) zero (suc j) x y apart e d = let same : f z ≡ f x = ap f (some-injective z x e) in let later = total-one f zs j y d in omega arith
  total-two f (z ∷ zs) (suc i) zero x y apart e d = let same : f z ≡ f y = ap f (some-injective z y d) in let later = total-one f zs i x e in omega arith
  total-two f (z ∷ zs) (suc i) (suc j) x y apart e d = let later = total-two f zs i j x y (λ same. apart (ap suc same)) e d in omega arith

  -- facts about all elements of a list
  pub All-map : {P Q : A → Type 0} (xs : List A) → ((x : A) → P x → Q x) → All P xs → All Q xs
  All-map xs f all = λ k d below. f _ (all k d below)

  pub All-both : {P Q S : A → Type 0} (xs : List A) → ((x : A) → P x → Q x → S x) → All P xs → All Q xs → All S xs
  All-both xs f one two = λ k d below. f _ (one k d below) (two k d below)

  pub All-head : (P : A → Type 0) (x : A) (xs : List A) → All P (x ∷ xs) → P x
  All-head P x xs all = all 0 x (omega arith)

  pub All-tail : (P : A → Type 0) (x : A) (xs : List A) → All P (x ∷ xs) → All P xs
  All-tail P x xs all = λ k d below. all (suc k) d (omega arith)

  pub All-more : (P : A → Type 0) (x : A) (xs : List A) → P x → All P xs → All P (x ∷ xs)
  All-more P x xs here all zero d below = here
  All-more P x xs here all (suc k) d below = all k d (omega arith)

module _ {E : Type 0} where
  -- a number is among two lists if it is among one of them
  pub among_first : (n : ℕ) (ks ls : List (ℕ × List E)) → IsAmong n ks → IsAmong n (ks ++ ls)
  among_first n [] ls among = absurd among
  among_first n (k ∷ ks) ls (inl is) = inl is
  among_first n (k ∷ ks) ls (inr later) = inr (among_first n ks ls later)

  pub among_second : (n : ℕ) (ks ls : List (ℕ × List E)) → IsAmong n ls → IsAmong n (ks ++ ls)
  among_second n [] ls among = among
  among_second n (k ∷ ks) ls among = inr (among_second n ks ls among)

  chosen-append : (b : Bool) (x : E) (xs ys : List E) → (if b then x ∷ (xs ++ ys) else (xs ++ ys)) ≡ (if b then x ∷ xs else xs) ++ ys
  chosen-append true x xs ys = refl
  chosen-append false x xs ys = refl

  -- a new entry is under its own number, and under no other number
  pub entries_by-own : (n : ℕ) (e : E) (h : History E) → entries_by n (h ++ (n, e) ∷ []) ≡ entries_by n h ++ e ∷ []
  entries_by-own n e [] = rw (eq-eqb n n refl)
  entries_by-own n e (p ∷ h) = rw (entries_by-own n e h) (chosen-append (n == p.0) p.1 (entries_by n h) (e ∷ []))

  pub entries_by-other : (n m : ℕ) (e : E) (h : History E) → n ≢ m → entries_by n (h ++ (m, e) ∷ []) ≡ entries_by n h
  entries_by-other n m e [] other = rw (ne_eqb n m other)
  entries_by-other n m e (p ∷ h) other = rw (entries_by-other n m e h other)

  -- a new entry under none of the list's numbers changes none of their entries
  pub entries_by-others : (n : ℕ) (e : E) (h : History E) (ks : List (ℕ × List E)) → All (λ k. k.0 ≢ n) ks
      → All (λ k. entries_by k.0 h ≡ k.1) ks → All (λ k. entries_by k.0 (h ++ (n, e) ∷ []) ≡ k.1) ks
  entries_by-others n e h ks apart known = λ i d below. entries_by-other _ n e h (apart i d below) ∙ known i d below

  -- a history begins with itself; a longer history begins with all that the shorter one begins with
  pub starts_with_itself : (h : History E) → BeginsWith h h
  starts_with_itself h = ([], sym (append-nil h))

  pub starts_later : (h seen : History E) (p : ℕ × E) → BeginsWith h seen → BeginsWith (h ++ p ∷ []) seen
  starts_later h seen p start = (start.0 ++ p ∷ [], ap (λ l. l ++ p ∷ []) start.1 ∙ append_assoc seen start.0 (p ∷ []))

module _ {F E C P : Type 0} (answers : F → List E → C → P → List E → Type 0) (f : F) where
  follows-one_more : (before es : List E) (e : E) → MayAllFollow answers f before es → MayFollow answers f (before ++ es) e → MayAllFollow answers f before (es ++ e ∷ [])
  follows-one_more before [] e all may = (subst (λ l. MayFollow answers f l e) (append-nil before) may, tt)
  follows-one_more before (x ∷ es) e all may = (all.0, follows-one_more (before ++ x ∷ []) es e all.1 (subst (λ l. MayFollow answers f l e) (sym (append_assoc before (x ∷ []) es)) may))

  -- a legal history with an entry that may follow is legal
  pub legal-one_more : (h : History E) (n : ℕ) (e : E) → IsLegal answers f h → MayFollow answers f (entries h) e → IsLegal answers f (h ++ (n, e) ∷ [])
  legal-one_more h n e legal may = subst (MayAllFollow answers f []) (sym (map-append (λ (p : ℕ × E). p.1) h ((n, e) ∷ []))) (follows-one_more [] (entries h) e legal may)

module _ {E : Type 0} where
  -- the numbers of both lists are apart if those of each are, and none of one is one of the other
  pub apart-append : (xs ys : List (ℕ × List E)) → AreApart xs → AreApart ys → All (λ (k : ℕ × List E). All (λ (o : ℕ × List E). o.0 ≢ k.0) ys) xs → AreApart (xs ++ ys)
  apart-append [] ys one two cross = two
  apart-append (x ∷ xs) ys one two cross = (
    All-append (λ (o : ℕ × List E). o.0 ≢ x.0) xs ys one.0 (All-head (λ (k : ℕ × List E). All (λ (o : ℕ × List E). o.0 ≢ k.0) ys) x xs cross),
    apart-append xs ys one.1 two (All-tail (λ (k : ℕ × List E). All (λ (o : ℕ × List E). o.0 ≢ k.0) ys) x xs cross),
  )
