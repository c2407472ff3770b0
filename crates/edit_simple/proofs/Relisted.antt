-- The plans that give an element a new list.
use Rattle.std.proofs.Common.{◌≡◌, ◌≢◌, ◌≤◌, ◌⊎◌, ℕ, Bool, true, false, not, ◌&&◌, List, [], ◌∷◌, Option, Some, None, Result, Ok, Err, MatchResult, is_some, length, map, nat_lt, reverse, refl, cond, arith, inl, inr, sym, ap, ◌∙◌, filter, option_map}
use Rattle.std.proofs.lemmas.Bool.Decides.{nat_tests}
use Rattle.edit_simple.specs.Prelude.{then_some, Name, Element, Way, Relation, Rows, is_same, is_absent, is_present, least, row_at, Pairs, same_names, Change, row_changes, differences, are_same_names, are_same_members, is_sound, most_nodes, most_members, Refusal, WrongKind, Absent, TooFew, TooMany, Nothing, Memory, first_that_holds, is_missing, is_way, is_relation, members_checks, after_members, nodes_checks, after_nodes, nodes_of, members_of, with_nodes, with_members, IsNamed, IsPlan, reverse_checks, after_reverse, one_rewritten, way_there, relation_there, same_nodes_itself, same_members_itself}

-- the result of a test of a length
pub not_below : (n len k : ℕ) → n ≡ len → k ≤ n → false ≡ nat_lt len k
not_below n len k e h = grind (arith, nat_tests)

pub not_above : (n len k : ℕ) → n ≡ len → n ≤ k → false ≡ nat_lt k len
not_above n len k e h = grind (arith, nat_tests)

module _ {A : Type 0} where
  -- the result of changing one list
  abbrev pub Changed : Name → Bool → Element A → Element A → Result (List (Change A)) (Refusal A) → Type 0
  Changed x same v w r =
      MatchResult r (λ cs. (same ≡ false) × (cs ≡ row_changes x (Some v) (Some w))) (λ e. ((same ≡ true) × (e ≡ Nothing)) ⊎ (e ≡ Memory))

  -- a plan whose only remaining check is that the list changes
  pub changed_planned : (m n : Rows A) (checks : List (Option (Refusal A))) (x : Name) (same : Bool) (v w : Element A)
      → first_that_holds checks ≡ first_that_holds (then_some same Nothing ∷ []) → (same ≡ false → row_changes x (Some v) (Some w) ≡ differences m n)
      → (r : Result (List (Change A)) (Refusal A)) → Changed x same v w r → IsPlan m checks n r
  changed_planned m n checks x same v w left differs (Ok cs) h = (left ∙ ap (λ b. first_that_holds (then_some b Nothing ∷ [])) h.0, h.1 ∙ differs h.0)
  changed_planned m n checks x same v w left differs (Err e) (inl h) = inl (left ∙ ap (λ b. first_that_holds (then_some b Nothing ∷ [])) h.0 ∙ ap Some (sym h.1))
  changed_planned m n checks x same v w left differs (Err e) (inr h) = inr h

  pub changed_named : (checks : List (Option (Refusal A))) (same : Bool) → first_that_holds checks ≡ first_that_holds (then_some same Nothing ∷ [])
      → (r : Result (List (Change A)) (Refusal A)) → (same ≡ true → r ≡ Err Nothing) → IsNamed checks r
  changed_named checks true left r h e is = h refl ∙ ap Err (cc)
  changed_named checks false left r h e is = absurd (cc)

  nodes_apart : (nodes others : List Name) (t u : Pairs) → are_same_names nodes others ≡ false → ◌≢◌ {A = Option (Element A)} (Some (Way others t)) (Some (Way nodes u))
  nodes_apart nodes others t u other e = cc (sym (same_nodes_itself others) ∙ ap (λ o. are_same_names (nodes_of o) others) e ∙ other)

  members_apart : (members others : List (Name × List ℕ)) (t u : Pairs) → are_same_members members others ≡ false → ◌≢◌ {A = Option (Element A)} (Some (Relation others t)) (Some (Relation members u))
  members_apart members others t u other e = cc (sym (same_members_itself others) ∙ ap (λ o. are_same_members (members_of o) others) e ∙ other)

  -- if the map has x, a name is missing if and only if it is absent
  missing_is_absent : (m : Rows A) (x : Name) → is_present m x ≡ true → (names : List Name) → filter (is_missing m x) names ≡ filter (is_absent m) names
  missing_is_absent m x here [] = refl
  missing_is_absent m x here (y ∷ ys) = by (is_same x y) refl (missing_is_absent m x here ys)
    where
      here_too : is_same x y ≡ true → is_absent m y ≡ false
      here_too e = ap (λ z. not (is_present m z)) (sym (same_names x y e)) ∙ ap not here

      by : (s : Bool) → is_same x y ≡ s → filter (is_missing m x) ys ≡ filter (is_absent m) ys
          → cond (not s && is_absent m y) (y ∷ filter (is_missing m x) ys) (filter (is_missing m x) ys) ≡ cond (is_absent m y) (y ∷ filter (is_absent m) ys) (filter (is_absent m) ys)
      by true e i = i ∙ ap (λ b. cond b (y ∷ filter (is_absent m) ys) (filter (is_absent m) ys)) (sym (here_too e))
      by false e i = ap (λ l. cond (is_absent m y) (y ∷ l) l) i

  present_row : (m : Rows A) (x : Name) (v : Element A) → row_at m x ≡ Some v → is_present m x ≡ true
  present_row m x v is = ap is_some is

  -- ---- reverse

  -- the remaining check of a way that is there
  pub reverse_left : (m : Rows A) (w : Name) (nodes : List Name) (tags : Pairs) → is_way w.kind ≡ true → row_at m w ≡ Some (Way nodes tags)
      → first_that_holds (reverse_checks m w) ≡ first_that_holds {X = Refusal A} (then_some (are_same_names nodes (reverse nodes)) Nothing ∷ [])
  reverse_left m w nodes tags way is =
      λ i. first_that_holds (then_some (not (way i)) (WrongKind w) ∷ then_some (not (is_some (is i))) (Absent w) ∷ then_some (are_same_names (nodes_of (is i)) (reverse (nodes_of (is i)))) Nothing ∷ [])

  pub reverse_planned : (m : Rows A) (w : Name) (nodes turned : List Name) (tags : Pairs) → is_way w.kind ≡ true → row_at m w ≡ Some (Way nodes tags) → turned ≡ reverse nodes
      → (r : Result (List (Change A)) (Refusal A)) → Changed w (are_same_names nodes turned) (Way nodes tags) (Way turned tags) r → IsPlan m (reverse_checks m w) (after_reverse m w) r
  reverse_planned m w nodes turned tags way is e r h =
      changed_planned m (after_reverse m w) (reverse_checks m w) w (are_same_names nodes turned) (Way nodes tags) (Way turned tags) left differs r h
    where
      left : first_that_holds (reverse_checks m w) ≡ first_that_holds (then_some (are_same_names nodes turned) Nothing ∷ [])
      left =
          reverse_left m w nodes tags way is ∙ ap (λ l. first_that_holds (then_some (are_same_names nodes l) Nothing ∷ [])) (sym e)

      differs : are_same_names nodes turned ≡ false → row_changes w (Some (Way nodes tags)) (Some (Way turned tags)) ≡ differences m (after_reverse m w)
      differs other =
          ap (λ l. row_changes w (Some (Way nodes tags)) (Some (Way l tags))) e
          ∙ one_rewritten m w (with_nodes reverse) (Way nodes tags) is (nodes_apart nodes (reverse nodes) tags tags (ap (are_same_names nodes) (sym e) ∙ other))

  -- ---- nodes

  -- the remaining checks of a way that is there
  pub nodes_left : (m : Rows A) (w : Name) (list nodes : List Name) (tags : Pairs) → is_way w.kind ≡ true → row_at m w ≡ Some (Way nodes tags) → false ≡ nat_lt (length list) 2 → false ≡ nat_lt most_nodes (length list)
      → (o : Option Name) → o ≡ least (filter (is_missing m w) list)
      → first_that_holds (nodes_checks m w list) ≡ first_that_holds (option_map {T = Name} {U = Refusal A} Absent o ∷ then_some (are_same_names nodes list) Nothing ∷ [])
  nodes_left m w list nodes tags way is few many o e =
      λ i. first_that_holds (then_some (not (way i)) (WrongKind w) ∷ then_some (not (is_some (is i))) (Absent w) ∷ then_some (sym few i) (TooFew w) ∷ then_some (sym many i) (TooMany w)
      ∷ option_map Absent (names i) ∷ then_some (are_same_names (nodes_of (is i)) list) Nothing ∷ [])
    where
      names : least (filter (is_absent m) list) ≡ o
      names = ap least (sym (missing_is_absent m w (present_row m w (Way nodes tags) is) list)) ∙ sym e

  pub nodes_absent : (m : Rows A) (w : Name) (list nodes : List Name) (tags : Pairs) → is_way w.kind ≡ true → row_at m w ≡ Some (Way nodes tags) → false ≡ nat_lt (length list) 2 → false ≡ nat_lt most_nodes (length list)
      → (absent : Name) → Some absent ≡ least (filter (is_missing m w) list) → first_that_holds (nodes_checks m w list) ≡ Some (Absent absent)
  nodes_absent m w list nodes tags way is few many absent e = nodes_left m w list nodes tags way is few many (Some absent) e

  pub nodes_planned : (m : Rows A) (w : Name) (list nodes : List Name) (tags : Pairs) → is_way w.kind ≡ true → row_at m w ≡ Some (Way nodes tags) → false ≡ nat_lt (length list) 2 → false ≡ nat_lt most_nodes (length list)
      → None ≡ least (filter (is_missing m w) list)
      → (r : Result (List (Change A)) (Refusal A)) → Changed w (are_same_names nodes list) (Way nodes tags) (Way list tags) r → IsPlan m (nodes_checks m w list) (after_nodes m w list) r
  nodes_planned m w list nodes tags way is few many none r h =
      changed_planned m (after_nodes m w list) (nodes_checks m w list) w (are_same_names nodes list) (Way nodes tags) (Way list tags)
      (nodes_left m w list nodes tags way is few many None none)
      (λ other. one_rewritten m w (with_nodes (λ _. list)) (Way nodes tags) is (nodes_apart nodes list tags tags other)) r h

  -- ---- members

  pub members_left : (m : Rows A) (r : Name) (list members : List (Name × List ℕ)) (tags : Pairs) → is_relation r.kind ≡ true → row_at m r ≡ Some (Relation members tags) → false ≡ nat_lt most_members (length list)
      → (o : Option Name) → o ≡ least (filter (is_missing m r) (map (λ e. e.0) list))
      → first_that_holds (members_checks m r list) ≡ first_that_holds (option_map {T = Name} {U = Refusal A} Absent o ∷ then_some (are_same_members members list) Nothing ∷ [])
  members_left m r list members tags relation is many o e =
      λ i. first_that_holds (then_some (not (relation i)) (WrongKind r) ∷ then_some (not (is_some (is i))) (Absent r) ∷ then_some (sym many i) (TooMany r)
      ∷ option_map Absent (names i) ∷ then_some (are_same_members (members_of (is i)) list) Nothing ∷ [])
    where
      names : least (filter (is_absent m) (map (λ e. e.0) list)) ≡ o
      names = ap least (sym (missing_is_absent m r (present_row m r (Relation members tags) is) (map (λ e. e.0) list))) ∙ sym e

  pub members_absent : (m : Rows A) (r : Name) (list members : List (Name × List ℕ)) (tags : Pairs) → is_relation r.kind ≡ true → row_at m r ≡ Some (Relation members tags) → false ≡ nat_lt most_members (length list)
      → (absent : Name) → Some absent ≡ least (filter (is_missing m r) (map (λ e. e.0) list)) → first_that_holds (members_checks m r list) ≡ Some (Absent absent)
  members_absent m r list members tags relation is many absent e = members_left m r list members tags relation is many (Some absent) e

  pub members_planned : (m : Rows A) (r : Name) (list members : List (Name × List ℕ)) (tags : Pairs) → is_relation r.kind ≡ true → row_at m r ≡ Some (Relation members tags) → false ≡ nat_lt most_members (length list)
      → None ≡ least (filter (is_missing m r) (map (λ e. e.0) list))
      → (a : Result (List (Change A)) (Refusal A)) → Changed r (are_same_members members list) (Relation members tags) (Relation list tags) a → IsPlan m (members_checks m r list) (after_members m r list) a
  members_planned m r list members tags relation is many none a h =
      changed_planned m (after_members m r list) (members_checks m r list) r (are_same_members members list) (Relation members tags) (Relation list tags)
      (members_left m r list members tags relation is many None none)
      (λ other. one_rewritten m r (with_members (λ _. list)) (Relation members tags) is (members_apart members list tags tags other)) a h

  -- ---- the row at a name of a kind

  pub way_or_none : (m : Rows A) (w : Name) (v : Element A) → is_sound m ≡ true → true ≡ is_way w.kind → Some v ≡ row_at m w → ((nodes : List Name) (tags : Pairs) → v ≢ Way nodes tags) → ⊥
  way_or_none m w v sound way is apart =
      let there = way_there m w sound (sym way) (ap is_some (sym is)) in
      apart there.0 there.1 (inside v (Way there.0 there.1) (is ∙ there.2))
    where
      inside : (x y : Element A) → Some x ≡ Some y → x ≡ y
      inside x y e = cc

  pub relation_or_none : (m : Rows A) (r : Name) (v : Element A) → is_sound m ≡ true → true ≡ is_relation r.kind → Some v ≡ row_at m r → ((members : List (Name × List ℕ)) (tags : Pairs) → v ≢ Relation members tags) → ⊥
  relation_or_none m r v sound relation is apart =
      let there = relation_there m r sound (sym relation) (ap is_some (sym is)) in
      apart there.0 there.1 (inside v (Relation there.0 there.1) (is ∙ there.2))
    where
      inside : (x y : Element A) → Some x ≡ Some y → x ≡ y
      inside x y e = cc
