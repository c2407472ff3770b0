-- The sound rows of a map, and the first row that is not sound.
use Rattle.std.proofs.Common.{sym, ap, subst, ◌∙◌, arith}
use Rattle.std.specs.Prelude.{◌≡◌, ◌&&◌, ◌++◌, ℕ, Bool, true, false, not, List, [], ◌∷◌, Some, None, is_some, length, nat_le, nat_lt, refl, cond, filter}
use Rattle.std.proofs.lemmas.Bool.Decides.{nat_tests}
use Rattle.osm_drafts.specs.Prelude.{then_some, tied_itself, Ordering, Less, Equal, Greater, below_all, is_sorted, list_all, is_eq, is_lt, ordering_reverse, kind_of, is_made, name_cmp, Rows, is_kind, is_present, is_same, are_of_kinds, AreInOrder, row_at, below_less, find_below, first, second, later_differs, name_cmp_total, is_eq-name_cmp_itself, row_at_is_find, same_names, both_true, first_true, second_true, is_true, references, is_of_length, is_sound, is_sound_row, most_members, most_nodes, sound_row}
use Rattle.osm_elements.specs.declared.name.Name.{Name}
use Rattle.osm_elements.specs.declared.element.Element.{Element}
use Rattle.osm_elements.specs.declared.element.Element.TheVariants.{Node, Way, Relation}
use Rattle.room_interface.specs.declared.refusal.Refusal.{Refusal}
use Rattle.room_interface.specs.declared.refusal.Refusal.TheVariants.{Absent, TooFew, TooMany}
use Rattle.edit_simple.specs.Checks.{first_that_holds, the_least}
use Rattle.edit_simple.specs.Create.{is_missing, is_too_long, is_too_short, list_checks}
use Rattle.edit_simple.specs.Facts.Checked.{no_least, nones, not_so}
use Rattle.edit_simple.specs.Facts.Creating.{long_enough}
use Rattle.edit_simple.specs.Facts.Lists.{all_from, none_left}
use Rattle.edit_simple.specs.Soundness.{IsFirstUnsound}

at_most : (n k : ℕ) → nat_le n k ≡ true → nat_lt k n ≡ false
at_most n k e = grind (arith, nat_tests)

some_one : {X : Type 0} (x y : X) → Some x ≡ Some y → x ≡ y
some_one x y e = cc

module _ {A : Type 0} where
  not_short : (v : Element A) → is_of_length v ≡ true → is_too_short v ≡ false
  not_short (Node lat lon tags) e = refl
  not_short (Way nodes tags) e = at_most 2 (length nodes) (first_true (nat_le 2 (length nodes)) (nat_le (length nodes) most_nodes) e)
  not_short (Relation members tags) e = refl

  not_long : (v : Element A) → is_of_length v ≡ true → is_too_long v ≡ false
  not_long (Node lat lon tags) e = refl
  not_long (Way nodes tags) e = at_most (length nodes) most_nodes (second_true (nat_le 2 (length nodes)) (nat_le (length nodes) most_nodes) e)
  not_long (Relation members tags) e = at_most (length members) most_members e

  none_missing : (m : Rows A) (x : Name) (names : List Name) → list_all (is_present m) names ≡ true → filter (is_missing m x) names ≡ []
  none_missing m x [] e = refl
  none_missing m x (y ∷ ys) e =
      ap (λ b. cond b (y ∷ filter (is_missing m x) ys) (filter (is_missing m x) ys)) (here (is_same x y) (is_present m y) (first_true (is_present m y) (list_all (is_present m) ys) e))
      ∙ none_missing m x ys (second_true (is_present m y) (list_all (is_present m) ys) e)
    where
      here : (s b : Bool) → b ≡ true → (not s && not b) ≡ false
      here true b t = refl
      here false true t = refl
      here false false t = absurd (cc)

  -- a sound row passes the checks of its list
  sound_passes : (m : Rows A) (x : Name) (v : Element A) → is_sound_row m x v ≡ true → first_that_holds (list_checks m x v) ≡ None
  sound_passes m x v sound =
      ap (λ b. first_that_holds (then_some b (TooFew x) ∷ then_some (is_too_long v) (TooMany x) ∷ the_least Absent (filter (is_missing m x) (references v)) ∷ [])) (not_short v lengthy)
      ∙ ap (λ b. first_that_holds (then_some b (TooMany x) ∷ the_least Absent (filter (is_missing m x) (references v)) ∷ [])) (not_long v lengthy)
      ∙ ap (λ names. first_that_holds (the_least {A = A} Absent names ∷ [])) (none_missing m x (references v) refs)
    where
      kept : (is_made v && (is_of_length v && list_all (is_present m) (references v))) ≡ true
      kept = second_true (is_kind (kind_of v) x.kind) (is_made v && (is_of_length v && list_all (is_present m) (references v))) sound

      listed : (is_of_length v && list_all (is_present m) (references v)) ≡ true
      listed = second_true (is_made v) (is_of_length v && list_all (is_present m) (references v)) kept

      lengthy : is_of_length v ≡ true
      lengthy = first_true (is_of_length v) (list_all (is_present m) (references v)) listed

      refs : list_all (is_present m) (references v) ≡ true
      refs = second_true (is_of_length v) (list_all (is_present m) (references v)) listed

  -- a row that fails a check is not sound
  pub refused_is_unsound : (m : Rows A) (x : Name) (v : Element A) (why : Refusal A) → first_that_holds (list_checks m x v) ≡ Some why → is_sound_row m x v ≡ false
  refused_is_unsound m x v why is = by (is_sound_row m x v) refl
    where
      by : (b : Bool) → is_sound_row m x v ≡ b → b ≡ false
      by true e = let passes = sound_passes m x v e in absurd (cc)
      by false e = refl

  -- a row of the map that passes the checks is sound, if it is of its name's kind and made
  passing_is_sound : (m : Rows A) (x : Name) (v : Element A) → is_present m x ≡ true → is_kind (kind_of v) x.kind ≡ true → is_made v ≡ true
      → first_that_holds (list_checks m x v) ≡ None → is_sound_row m x v ≡ true
  passing_is_sound m x v here kind made passes =
      both_true (is_kind (kind_of v) x.kind) (is_made v && (is_of_length v && list_all (is_present m) (references v))) kind
      (both_true (is_made v) (is_of_length v && list_all (is_present m) (references v)) made
      (both_true (is_of_length v) (list_all (is_present m) (references v)) lengthy refs))
    where
      lengthy : is_of_length v ≡ true
      lengthy = long_enough v (not_so {X = Refusal A} (is_too_short v) (TooFew x) (nones (list_checks m x v) passes).0) (not_so {X = Refusal A} (is_too_long v) (TooMany x) (nones (list_checks m x v) passes).1.0)

      there : (e : Name) → is_missing m x e ≡ false → is_present m e ≡ true
      there e h = by (is_same x e) refl (is_present m e) refl h
        where
          by : (s : Bool) → is_same x e ≡ s → (b : Bool) → is_present m e ≡ b → (not s && not b) ≡ false → is_present m e ≡ true
          by true t b p f = ap (is_present m) (sym (same_names x e t)) ∙ here
          by false t true p f = p
          by false t false p f = absurd (cc)

      refs : list_all (is_present m) (references v) ≡ true
      refs = all_from (is_present m) (references v)
          (λ e i. there e (none_left (is_missing m x) (references v) (no_least {A = A} Absent (filter (is_missing m x) (references v)) (nones (list_checks m x v) passes).1.1.0) e i))

  in_order_behind : (r : Name × Element A) (rs : Rows A) → AreInOrder (r ∷ rs) → AreInOrder rs
  in_order_behind r rs h = second (below_all name_cmp r.0 rs) (is_sorted name_cmp rs) h

  -- a row in the middle of a map in order is found under its name
  found : (done : Rows A) (x : Name) (v : Element A) (later : Rows A) → AreInOrder (done ++ (x, v) ∷ later) → row_at (done ++ (x, v) ∷ later) x ≡ Some v
  found [] x v later h = ap (λ b. cond b (Some v) (row_at later x)) (is_eq-name_cmp_itself x)
  found (r ∷ rs) x v later h =
      ap (λ b. cond b (Some r.1) (row_at (rs ++ (x, v) ∷ later) x)) (later_differs r rs x v later h)
      ∙ found rs x v later (in_order_behind r (rs ++ (x, v) ∷ later) h)

  -- if the earlier rows pass a test, each row with a lesser name passes it
  earlier_passes : (p : Name → Element A → Bool) (done : Rows A) (x : Name) (v : Element A) (later : Rows A) → AreInOrder (done ++ (x, v) ∷ later)
      → list_all (λ r. p r.0 r.1) done ≡ true → (y : Name) (w : Element A) → row_at (done ++ (x, v) ∷ later) y ≡ Some w → is_lt (name_cmp y x) ≡ true → p y w ≡ true
  earlier_passes p [] x v later h all y w is lesser = by (is_same y x) refl
    where
      below : row_at later y ≡ None
      below = row_at_is_find later y ∙ find_below name_cmp y later (below_less name_cmp name_cmp_total y x later (less (name_cmp y x) lesser) (first (below_all name_cmp x later) (is_sorted name_cmp later) h))
        where
          less : (o : Ordering) → is_lt o ≡ true → o ≡ Less
          less Less e = refl
          less Equal e = absurd (cc)
          less Greater e = absurd (cc)

      by : (b : Bool) → is_same y x ≡ b → p y w ≡ true
      by true e =
          let itself : is_lt (name_cmp x x) ≡ true = ap (λ z. is_lt (name_cmp z x)) (sym (same_names y x e)) ∙ lesser in
          let tied : is_lt (name_cmp x x) ≡ false = ap is_lt (tied_itself name_cmp_total x) in absurd (cc)
      by false e = let none : row_at ((x, v) ∷ later) y ≡ None = ap (λ b. cond b (Some v) (row_at later y)) e ∙ below in absurd (cc)
  earlier_passes p (r ∷ rs) x v later h all y w is lesser =
      by (is_same y r.0) refl (λ there. earlier_passes p rs x v later (in_order_behind r (rs ++ (x, v) ∷ later) h) (second_true (p r.0 r.1) (list_all (λ r. p r.0 r.1) rs) all) y w there lesser)
    where
      by : (b : Bool) → is_same y r.0 ≡ b → (row_at (rs ++ (x, v) ∷ later) y ≡ Some w → p y w ≡ true) → p y w ≡ true
      by true e rest =
          let same : r.1 ≡ w = some_one r.1 w (ap (λ b. cond b (Some r.1) (row_at (rs ++ (x, v) ∷ later) y)) (sym e) ∙ is) in
          ap (λ z. p z w) (same_names y r.0 e) ∙ ap (p r.0) (sym same) ∙ first_true (p r.0 r.1) (list_all (λ r. p r.0 r.1) rs) all
      by false e rest = rest (ap (λ b. cond b (Some r.1) (row_at (rs ++ (x, v) ∷ later) y)) (sym e) ∙ is)

  -- if all rows pass a test, so do the row in the middle and the rows up to it
  amidst : (p : Name × Element A → Bool) (done : Rows A) (r : Name × Element A) (later : Rows A) → list_all p (done ++ r ∷ later) ≡ true → p r ≡ true
  amidst p [] r later all = first_true (p r) (list_all p later) all
  amidst p (d ∷ ds) r later all = amidst p ds r later (second_true (p d) (list_all p (ds ++ r ∷ later)) all)

  one_more : (p : Name × Element A → Bool) (done : Rows A) (r : Name × Element A) → list_all p done ≡ true → p r ≡ true → list_all p (done ++ r ∷ []) ≡ true
  one_more p [] r all here = both_true (p r) true here refl
  one_more p (d ∷ ds) r all here =
      both_true (p d) (list_all p (ds ++ r ∷ [])) (first_true (p d) (list_all p ds) all) (one_more p ds r (second_true (p d) (list_all p ds) all) here)

  -- the rows so far are sound
  abbrev pub AreSound : Rows A → Rows A → Type 0
  AreSound m done = list_all (λ r. is_sound_row m r.0 r.1) done ≡ true

  -- one more row is sound
  pub sound_one_more : (m done : Rows A) (x : Name) (v : Element A) (later : Rows A) → AreInOrder m → are_of_kinds m ≡ true → m ≡ done ++ (x, v) ∷ later → is_made v ≡ true
      → first_that_holds (list_checks m x v) ≡ None → AreSound m done → AreSound m (done ++ (x, v) ∷ [])
  sound_one_more m done x v later order kinds is made passes all =
      one_more (λ r. is_sound_row m r.0 r.1) done (x, v) all
      (passing_is_sound m x v (ap is_some there) (amidst (λ r. is_kind (kind_of r.1) r.0.kind) done (x, v) later (ap are_of_kinds (sym is) ∙ kinds)) made passes)
    where
      there : row_at m x ≡ Some v
      there = ap (λ n. row_at n x) is ∙ found done x v later (subst (λ n. AreInOrder n) is order)

  -- the first row that is not sound
  pub first_unsound : (m done : Rows A) (x : Name) (v : Element A) (later : Rows A) (why : Refusal A) → AreInOrder m → m ≡ done ++ (x, v) ∷ later
      → first_that_holds (list_checks m x v) ≡ Some why → AreSound m done → IsFirstUnsound m x why
  first_unsound m done x v later why order is refused all = record {
    element = v;
    there = ap (λ n. row_at n x) is ∙ found done x v later in_order;
    unsound = refused_is_unsound m x v why refused;
    reason = refused;
    first = λ y w found_there lesser. earlier_passes (is_sound_row m) done x v later in_order all y w (ap (λ n. row_at n y) (sym is) ∙ found_there) lesser;
  }
    where
      in_order : AreInOrder (done ++ (x, v) ∷ later)
      in_order = subst (λ n. AreInOrder n) is order

  -- after the last row, the map is sound
  pub all_sound : (m done : Rows A) → AreInOrder m → done ≡ m → AreSound m done → is_sound m ≡ true
  all_sound m done order is all =
      both_true (is_sorted name_cmp m) (list_all (λ r. is_sound_row m r.0 r.1) m) (is_true (is_sorted name_cmp m) order) (ap (list_all (λ r. is_sound_row m r.0 r.1)) (sym is) ∙ all)

  -- the elements of a sound map are of their names' kinds
  pub sound_kinds : (m : Rows A) → is_sound m ≡ true → are_of_kinds m ≡ true
  sound_kinds m sound = by m (second_true (is_sorted name_cmp m) (list_all (λ r. is_sound_row m r.0 r.1) m) sound)
    where
      by : (rs : Rows A) → list_all (λ r. is_sound_row m r.0 r.1) rs ≡ true → are_of_kinds rs ≡ true
      by [] all = refl
      by (r ∷ rs) all =
          both_true (is_kind (kind_of r.1) r.0.kind) (are_of_kinds rs)
          (first_true (is_kind (kind_of r.1) r.0.kind) (is_made r.1 && (is_of_length r.1 && list_all (is_present m) (references r.1))) (first_true (is_sound_row m r.0 r.1) (list_all (λ r. is_sound_row m r.0 r.1) rs) all))
          (by rs (second_true (is_sound_row m r.0 r.1) (list_all (λ r. is_sound_row m r.0 r.1) rs) all))

  -- a map with a first unsound row is not sound
  pub unsound_map : (m : Rows A) (x : Name) (why : Refusal A) → IsFirstUnsound m x why → is_sound m ≡ false
  unsound_map m x why u = by (is_sound m) refl
    where
      by : (b : Bool) → is_sound m ≡ b → b ≡ false
      by true e = let sound = sound_row m e x u.element u.there in let not = u.unsound in absurd (cc)
      by false e = refl

  -- an unsound map has only one first unsound row, with only one reason
  pub one_fault : (m : Rows A) (x y : Name) (why other : Refusal A) → IsFirstUnsound m x why → IsFirstUnsound m y other → (x ≡ y) × (why ≡ other)
  one_fault m x y why other u o = by (name_cmp x y) refl
    where
      by : (r : Ordering) → name_cmp x y ≡ r → (x ≡ y) × (why ≡ other)
      by Less e = let sound = o.first x u.element u.there (ap is_lt e) in let not = u.unsound in absurd (cc)
      by Greater e =
          let turned : name_cmp y x ≡ Less = name_cmp_total.antisymm y x ∙ ap ordering_reverse e in
          let sound = u.first y o.element o.there (ap is_lt turned) in let not = o.unsound in absurd (cc)
      by Equal e =
          let same : x ≡ y = same_names x y (ap is_eq e) in
          let elements : u.element ≡ o.element = some_one u.element o.element (sym u.there ∙ ap (row_at m) same ∙ o.there) in
          (same, some_one why other (sym u.reason ∙ (λ i. first_that_holds (list_checks m (same i) (elements i))) ∙ o.reason))
