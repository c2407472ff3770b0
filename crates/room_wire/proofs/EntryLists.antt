-- Reading the entries of an object, member by member.
use Rattle.std.proofs.Common.{◌≡◌, ◌<◌, ◌≤◌, ℕ, suc, List, [], ◌∷◌, ◌++◌, length, Option, Some, None, Ok, Bool, cond, nat_eq, nat_le, true, false, refl, sym, ap, ◌∙◌, arith, append_assoc, append-nil, Bor, Ordering, nat_cmp, option_map, option_and_then, Less, Greater}
use Rattle.std.specs.List.Sorted.{IsStrictlySortedBy}
use Rattle.std.proofs.lemmas.Cmp.{nat_list_cmp_total}
use Rattle.serde_json.specs.Data.{Data, Members, no_members, member}
use Rattle.serde_json.specs.Events.{members_len}
use Rattle.std.proofs.lemmas.Bool.Decides.{nat_tests}
use Rattle.room_wire.specs.Prelude.{keys_of, AllByRecursion, slice_cmp, ordering_reverse, put, Entry, members_view, text_cmp, entry_of, entries_in, entries_of, is_long, Fault, or_fault}

module _ {V : Type 0} (reading : Data → Option V) where
  -- the entries that were read, followed by those of the remaining members
  abbrev pub with_front : List (List ℕ × V) → Members → Option (List (List ℕ × V))
  with_front front ms = option_map (λ ts. front ++ ts) (entries_in reading ms)

  one_more : (front : List (List ℕ × V)) (t : List ℕ × V) (rest : Option (List (List ℕ × V))) → option_map (λ ts. front ++ ts) (option_map (λ ts. t ∷ ts) rest) ≡ option_map (λ ts. (front ++ t ∷ []) ++ ts) rest
  one_more front t None = refl
  one_more front t (Some ts) = ap Some (sym (append_assoc front (t ∷ []) ts))

  pub entries_in-some : (front : List (List ℕ × V)) (t : List ℕ × V) (k : List ℕ) (d : Data) (ms : Members) → entry_of reading k d ≡ Some t → with_front front (member k d ms) ≡ with_front (front ++ t ∷ []) ms
  entries_in-some front t k d ms h = rw h (one_more front t (entries_in reading ms))

  pub entries_in-none : (front : List (List ℕ × V)) (k : List ℕ) (d : Data) (ms : Members) → entry_of reading k d ≡ None → with_front front (member k d ms) ≡ None
  entries_in-none front k d ms h = rw h refl

  pub entries_in-nil : (front : List (List ℕ × V)) → with_front front no_members ≡ Some front
  entries_in-nil front = ap Some (append-nil front)

module _ {V : Type 0} where
  -- the keys of the entries are those of the members
  abbrev pub SameKeys : List (List ℕ × V) → List Entry → Type 0
  SameKeys [] [] = Unit {0}
  SameKeys [] (e ∷ es) = ⊥
  SameKeys (t ∷ ts) [] = ⊥
  SameKeys (t ∷ ts) (e ∷ es) = (t.0 ≡ e.0.now) × SameKeys ts es

  pub same_keys_more : (tags : List (List ℕ × V)) (done : List Entry) (t : List ℕ × V) (e : Entry) → SameKeys tags done → t.0 ≡ e.0.now → SameKeys (tags ++ t ∷ []) (done ++ e ∷ [])
  same_keys_more [] [] t e h is = (is, tt)
  same_keys_more [] (x ∷ done) t e h is = absurd h
  same_keys_more (s ∷ tags) [] t e h is = absurd h
  same_keys_more (s ∷ tags) (x ∷ done) t e h is = (h.0, same_keys_more tags done t e h.1 is)

  pub same_keys_length : (tags : List (List ℕ × V)) (done : List Entry) → SameKeys tags done → length tags ≡ length done
  same_keys_length [] [] h = refl
  same_keys_length [] (x ∷ done) h = absurd h
  same_keys_length (s ∷ tags) [] h = absurd h
  same_keys_length (s ∷ tags) (x ∷ done) h = ap suc (same_keys_length tags done h.1)

-- the order of the texts that two keys borrow
abbrev pub key_cmp : Bor (List ℕ) → Bor (List ℕ) → Ordering
key_cmp k l = slice_cmp nat_cmp k.now l.now

below_middle : (k : Bor (List ℕ)) (done : List Entry) (e : Entry) (more : List Entry) → AllByRecursion (λ y. key_cmp k y ≡ Less) (keys_of (done ++ e ∷ more)) → key_cmp k e.0 ≡ Less
below_middle k [] e more h = h.0
below_middle k (x ∷ done) e more h = below_middle k done e more h.1

-- a key that is above the earlier keys goes last
pub put_last : {V : Type 0} (tags : List (List ℕ × V)) (done : List Entry) (e : Entry) (more : List Entry) (value : V) → SameKeys tags done → IsStrictlySortedBy key_cmp (keys_of (done ++ e ∷ more))
    → put text_cmp (e.0.now) value tags ≡ tags ++ (e.0.now, value) ∷ []
unfolding IsStrictlySortedBy
put_last [] done e more value same h = refl
put_last (t ∷ tags) [] e more value same h = absurd same
put_last (t ∷ tags) (x ∷ done) e more value same h =
    let above : text_cmp (e.0.now) t.0 ≡ Greater =
    ap (text_cmp (e.0.now)) same.0 ∙ nat_list_cmp_total.antisymm (e.0.now) (x.0.now) ∙ ap ordering_reverse (below_middle x.0 done e more h.0) in
    rw above (ap (λ ts. t ∷ ts) (put_last tags done e more value same.1 h.1))

-- there are as many members as entries
members_len-view : (es : List Entry) → members_len (members_view es) ≡ length es
members_len-view [] = refl
members_len-view (e ∷ es) = ap suc (members_len-view es)

-- a value that was found
pub or_fault_ok : {X : Type 0} (fault : Fault) (found : Option X) (x : X) → or_fault fault found ≡ Ok x → found ≡ Some x
or_fault_ok fault None x h = absurd (cc)
or_fault_ok fault (Some y) x h = cc

by_tests : {V : Type 0} (a b : Bool) (k : List ℕ) (v : Option V) (t : List ℕ × V) → option_and_then (λ key. option_map (λ value. (key, value)) v) (cond a None (cond b None (Some k))) ≡ Some t → t.0 ≡ k
by_tests true b k v t h = absurd (cc)
by_tests false true k v t h = absurd (cc)
by_tests false false k None t h = absurd (cc)
by_tests false false k (Some x) t h = let e : (k, x) ≡ t = cc in sym (ap (λ p. p.0) e)

few : (n : ℕ) (b : Bool) → n ≤ 1000 → nat_le n 1000 ≡ b → b ≡ true
few n true h e = refl
few n false h e = absurd (grind (arith, nat_tests))

many : (n : ℕ) (b : Bool) → 1000 < n → nat_le n 1000 ≡ b → b ≡ false
many n true h e = absurd (grind (arith, nat_tests))
many n false h e = refl

module _ {V : Type 0} (reading : Data → Option V) where
  -- an entry has the key from which it was read
  pub entry_of-key : (k : List ℕ) (d : Data) (t : List ℕ × V) → entry_of reading k d ≡ Some t → t.0 ≡ k
  entry_of-key k d t h = by_tests (nat_eq (length k) 0) (is_long k) k (reading d) t h

  pub entries_of-few : (es : List Entry) → length es ≤ 1000 → entries_of reading (members_view es) ≡ entries_in reading (members_view es)
  entries_of-few es h = rw (members_len-view es, few (length es) _ h refl) refl

  pub entries_of-many : (es : List Entry) → 1000 < length es → entries_of reading (members_view es) ≡ None
  entries_of-many es h = rw (members_len-view es, many (length es) _ h refl) refl
