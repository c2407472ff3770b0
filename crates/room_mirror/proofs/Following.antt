-- A mirror that takes the news of a room in order.
use Rattle.std.proofs.Common.{◌≡◌, ◌≢◌, ◌+◌, ◌-◌, ◌≤◌, ◌++◌, ℕ, zero, suc, Bool, true, false, not, ◌||◌, List, [], ◌∷◌, None, Ok, All, length, drop, take, map, nat_eq, refl, sym, ap, subst, ◌∙◌, append_assoc, append-nil, length-append, length-drop, arith, fold}
use Rattle.std.proofs.lemmas.Bool.Decides.{nat_tests}
use Rattle.std.proofs.lemmas.List.{length-take-le, take-append-drop}
use Rattle.std.proofs.lemmas.List.Elements.{All-cons, All-nil}
use Rattle.std.proofs.lemmas.List.Sums.{fold-append}
use Rattle.std.proofs.Math.Seq.{take-add}
use Rattle.room_mirror.specs.Prelude.{then_some, list_all, Name, Rows, is_same, is_among, are_rising, is_among-name_set, same_names, both_true, is_true, IsRising-name_set, Change, half_at, AreChanges, AreFrom, cell_of, changed_names, row_after, with_row, half, is_same_row, is_sound, row_at-changed, equal_row, first_that_holds, or_right, is_among_own, Entry, News, IsJournal, news_row, news_of, news_behind, news, mirrored, Past, past, past_after, mapof, recorded_next, Gap, Mismatch, due_after, told_names, tells_another, fits, fault, mirror_of, taken_or, taken_in_turn}
use Rattle.osm_changes.specs.Changes.{changed}
use Rattle.osm_elements.specs.Rows.{row_at}

same_number : (n : ℕ) → nat_eq n n ≡ true
same_number n = grind (arith, nat_tests)

module _ {A : Type 0} where
  names_told : (k : Rows A) (names : List Name) → told_names (map (news_row k) names) ≡ names
  names_told k [] = refl
  names_told k (x ∷ xs) = ap (λ rest. x ∷ rest) (names_told k xs)

  -- a map has the rows of the names that it takes
  rows_taken : (k m : Rows A) (cs : List (Change A)) → ((x : Name) → row_at k x ≡ row_after cs x (row_at m x)) → (names : List Name) (n : Rows A)
      → mirrored n (map (news_row k) names) ≡ fold (λ n x. with_row n x (row_after cs x (row_at m x))) n names
  rows_taken k m cs is [] n = refl
  rows_taken k m cs is (x ∷ xs) n = rows_taken k m cs is xs (with_row n x (row_at k x)) ∙ ap (λ o. fold (λ n x. with_row n x (row_after cs x (row_at m x))) (with_row n x o) xs) (is x)

  mirrored_is : (m : Rows A) (cs : List (Change A)) → mirrored m (map (news_row (changed m cs)) (changed_names cs)) ≡ changed m cs
  mirrored_is m cs = rows_taken (changed m cs) m cs (row_at-changed m cs) (changed_names cs) m

  -- each cell has the half that its change leads to
  abbrev pub LeadTo : Rows A → List (Change A) → Type 0
  LeadTo n cs = All (λ (c : Change A). c.after ≡ half_at n (cell_of c)) cs

  -- each cell has the half that its change is from
  abbrev pub StartFrom : Rows A → List (Change A) → Type 0
  StartFrom m cs = All (λ (c : Change A). c.before ≡ half_at m (cell_of c)) cs

  -- a property of each change's name is a property of each changed name
  pub of_changed_names : (P : Name → Type 0) (cs : List (Change A)) → All (λ (c : Change A). P c.name) cs → (x : Name) → is_among (changed_names cs) x ≡ true → P x
  of_changed_names P cs each x there = in_names cs each (sym (is_among-name_set x (map (λ (c : Change A). c.name) cs)) ∙ there)
    where
      in_names : (cs : List (Change A)) → All (λ (c : Change A). P c.name) cs → is_among (map (λ (c : Change A). c.name) cs) x ≡ true → P x
      in_names [] each i = absurd (cc)
      in_names (c ∷ cs) each i = by (is_same x c.name) refl i (in_names cs (λ k d l. each (suc k) d (omega (arith, l))))
        where
          by : (b : Bool) → is_same x c.name ≡ b → (b || is_among (map (λ (c : Change A). c.name) cs) x) ≡ true → (is_among (map (λ (c : Change A). c.name) cs) x ≡ true → P x) → P x
          by true e i rest = subst P (sym (same_names x c.name e)) (each 0 c (omega arith))
          by false e i rest = rest i

  -- the rows of a changed name before and after the changes differ
  other_rows : (m n : Rows A) (cs : List (Change A)) → All (λ (c : Change A). c.after ≢ c.before) cs → StartFrom m cs → LeadTo n cs → All (λ (c : Change A). row_at n c.name ≢ row_at m c.name) cs
  other_rows m n [] differ from leads = All-nil (λ (c : Change A). row_at n c.name ≢ row_at m c.name)
  other_rows m n (c ∷ cs) differ from leads =
      All-cons (λ (c : Change A). row_at n c.name ≢ row_at m c.name) c cs (λ same. differ 0 c (omega arith) (leads 0 c (omega arith) ∙ ap (half c.part) same ∙ sym (from 0 c (omega arith))))
      (other_rows m n cs (λ k d l. differ (suc k) d (omega (arith, l))) (λ k d l. from (suc k) d (omega (arith, l))) (λ k d l. leads (suc k) d (omega (arith, l))))

  another : (m n : Rows A) (x : Name) → row_at n x ≢ row_at m x → tells_another m (news_row n x) ≡ true
  another m n x differ = by (is_same_row (row_at n x) (row_at m x)) refl
    where
      by : (b : Bool) → is_same_row (row_at n x) (row_at m x) ≡ b → not b ≡ true
      by true e = absurd (differ (equal_row (row_at n x) (row_at m x) e))
      by false e = refl

  others : (m n : Rows A) (names : List Name) → ((x : Name) → is_among names x ≡ true → row_at n x ≢ row_at m x) → list_all (tells_another m) (map (news_row n) names) ≡ true
  others m n [] differ = refl
  others m n (x ∷ xs) differ =
      both_true (tells_another m (news_row n x)) (list_all (tells_another m) (map (news_row n) xs)) (another m n x (differ x (is_among_own x xs)))
      (others m n xs (λ y i. differ y (or_right (is_same y x) (is_among xs y) i)))

  -- the changed names rise, each once
  pub names_rise : (cs : List (Change A)) → are_rising (changed_names cs) ≡ true
  names_rise cs = is_true (are_rising (changed_names cs)) (IsRising-name_set (map (λ (c : Change A). c.name) cs))

  -- the rows after changes from a map fit it
  fit : (m n : Rows A) (cs : List (Change A)) → AreChanges cs → AreFrom m cs → LeadTo n cs → fits m (map (news_row n) (changed_names cs)) ≡ true
  fit m n cs are from leads =
      both_true (are_rising (told_names (map (news_row n) (changed_names cs)))) (list_all (tells_another m) (map (news_row n) (changed_names cs)))
      (ap are_rising (names_told n (changed_names cs)) ∙ names_rise cs)
      (others m n (changed_names cs) (of_changed_names (λ x. row_at n x ≢ row_at m x) cs (other_rows m n cs are.differ from.before leads)))

  no_fault : (seq : ℕ) (m n : Rows A) (e : Entry A) (cs : List (Change A)) → AreChanges cs → AreFrom m cs → LeadTo n cs
      → fault (record { seq = seq; rows = m }) (record { seq = seq + 1; author = e.author; rows = map (news_row n) (changed_names cs) }) ≡ None
  no_fault seq m n e cs are from leads = λ i. first_that_holds (
      then_some (not (same_number (seq + 1) i)) (Gap (due_after seq) (seq + 1))
      ∷ then_some (not (fit m n cs are from leads i)) Mismatch
      ∷ [])

  -- an entry changes the map before it to the map after it
  pub record IsStep (base : Rows A) (i : List (Entry A)) (e : Entry A) : Type 0 where
    pub are : AreChanges (recorded_next (past base i) e.kind).changes
    pub from : AreFrom (mapof base i) (recorded_next (past base i) e.kind).changes
    pub leads : LeadTo (mapof base (i ++ e ∷ [])) (recorded_next (past base i) e.kind).changes

  -- each of the entries k, which come after the entries i, is such a step
  abbrev pub AreSteps : Rows A → List (Entry A) → List (Entry A) → Type 0
  AreSteps base i [] = Unit {0}
  AreSteps base i (e ∷ k) = IsStep base i e × AreSteps base (i ++ e ∷ []) k

  -- the map after one more entry
  mapof-next : (base : Rows A) (i : List (Entry A)) (e : Entry A) → mapof base (i ++ e ∷ []) ≡ changed (mapof base i) (recorded_next (past base i) e.kind).changes
  mapof-next base i e = ap (λ (p : Past A). p.map) (fold-append (λ (p : Past A) (e : Entry A). past_after p e.kind) (record { map = base; entries = [] }) i (e ∷ []))

  -- a mirror of entries takes the news of one more
  takes_one : (base : Rows A) (i : List (Entry A)) (e : Entry A) (later : List (News A)) → IsStep base i e
      → taken_in_turn (record { seq = length i; rows = mapof base i }) (news_of base i e ∷ later) ≡ taken_in_turn (record { seq = length i + 1; rows = mapof base (i ++ e ∷ []) }) later
  takes_one base i e later s =
      let cs = (recorded_next (past base i) e.kind).changes in
      let m = mapof base i in
      let n = mapof base (i ++ e ∷ []) in
      ap (λ o. taken_or o (taken_in_turn (record { seq = length i + 1; rows = mirrored m (map (news_row n) (changed_names cs)) }) later)) (no_fault (length i) m n e cs s.are s.from s.leads)
      ∙ ap (λ rows. taken_in_turn (record { seq = length i + 1; rows = rows }) later)
      (ap (λ k. mirrored m (map (news_row k) (changed_names cs))) (mapof-next base i e) ∙ mirrored_is m cs ∙ sym (mapof-next base i e))

  -- a mirror takes the news of several entries in order
  follows : (base : Rows A) (i : List (Entry A)) (d : ℕ) (k : List (Entry A)) → AreSteps base i k → d ≤ length k
      → taken_in_turn (record { seq = length i; rows = mapof base i }) (take d (news_behind base i k)) ≡ Ok (record { seq = length i + d; rows = mapof base (i ++ take d k) })
  follows base i zero k steps l = let same : length i ≡ length i + 0 = omega arith in (λ n. Ok (record { seq = same n; rows = mapof base (sym (append-nil i) n) }))
  follows base i (suc d) [] steps l = absurd (omega (arith, l))
  follows base i (suc d) (e ∷ k) steps l =
      let longer : length i + 1 ≡ length (i ++ e ∷ []) = sym (length-append i (e ∷ [])) in
      let number : length (i ++ e ∷ []) + d ≡ length i + suc d = omega (arith, longer) in
      let order : (i ++ e ∷ []) ++ take d k ≡ i ++ e ∷ take d k = append_assoc i (e ∷ []) (take d k) in
      takes_one base i e (take d (news_behind base (i ++ e ∷ []) k)) steps.0
      ∙ ap (λ n. taken_in_turn (record { seq = n; rows = mapof base (i ++ e ∷ []) }) (take d (news_behind base (i ++ e ∷ []) k))) longer
      ∙ follows base (i ++ e ∷ []) d k steps.1 (omega (arith, l))
      ∙ (λ n. Ok (record { seq = number n; rows = mapof base (order n) }))

  module _ (base : Rows A) (limit : ℕ) (j : List (Entry A)) (sound : is_sound base ≡ true) (legal : IsJournal base limit j)
      (are : (base : Rows A) (limit : ℕ) (i k : List (Entry A)) (e : Entry A) → is_sound base ≡ true → IsJournal base limit (i ++ e ∷ k) → AreChanges (recorded_next (past base i) e.kind).changes)
      (from : (base : Rows A) (limit : ℕ) (i k : List (Entry A)) (e : Entry A) → is_sound base ≡ true → IsJournal base limit (i ++ e ∷ k) → AreFrom (mapof base i) (recorded_next (past base i) e.kind).changes)
      (leads : (base : Rows A) (limit : ℕ) (i k : List (Entry A)) (e : Entry A) → is_sound base ≡ true → IsJournal base limit (i ++ e ∷ k) → LeadTo (mapof base (i ++ e ∷ [])) (recorded_next (past base i) e.kind).changes) where
    pub all_steps : (i k : List (Entry A)) → i ++ k ≡ j → AreSteps base i k
    all_steps i [] is = tt
    all_steps i (e ∷ k) is =
        let whole = subst (IsJournal base limit) (sym is) legal in (
          record { are = are base limit i k e sound whole; from = from base limit i k e sound whole; leads = leads base limit i k e sound whole },
          all_steps (i ++ e ∷ []) k (append_assoc i (e ∷ []) k ∙ is),
        )

    pub mirror_follows : (a b : ℕ) → a ≤ b → b ≤ length j → taken_in_turn (mirror_of base j a) (take (b - a) (news base j a)) ≡ Ok (mirror_of base j b)
    mirror_follows a b l m =
        let d = b - a in
        let number : a + d ≡ b = omega (arith, l) in
        let front : length (take a j) ≡ a = length-take-le a j (omega (arith, l, m)) in
        let rest : length (drop a j) ≡ length j - a = length-drop a j in
        let end : length (take a j) + d ≡ b = omega (arith, front, number) in
        ap (λ n. taken_in_turn (record { seq = n; rows = mapof base (take a j) }) (take d (news base j a))) (sym front)
        ∙ follows base (take a j) d (drop a j) (all_steps (take a j) (drop a j) (take-append-drop a j)) (omega (arith, l, m, rest))
        ∙ (λ n. Ok (record { seq = end n; rows = mapof base ((sym (take-add a d j) ∙ ap (λ k. take k j) number) n) }))
