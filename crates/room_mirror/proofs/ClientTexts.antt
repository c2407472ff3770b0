-- A client that reads a room's texts in order has the room's map.
use Rattle.std.proofs.Common.{◌≡◌, ◌≢◌, ◌&&◌, ◌+◌, ◌≤◌, ◌++◌, ℕ, zero, suc, true, List, [], ◌∷◌, Option, Some, None, All, IfSome, is_some, drop, length, map, take, refl, length-append, sym, ap, ap₂, subst, ◌∙◌, append_assoc, arith, option_and_then}
use Rattle.std.proofs.lemmas.List.{take-append-drop}
use Rattle.std.proofs.lemmas.List.Elements.{All-cons, All-nil}
use Rattle.std.proofs.Math.Seq.{take-append_seam}
use Rattle.room_mirror.specs.Prelude.{result_ok, below_all, is_sorted, Global, Name, Element, Rows, is_same, is_among, names_of, are_rising, name_cmp, Change, Half, half_at, cell_of, changed_names, there_by_half, is_true, sound_in_order, is_sound, or_right, is_among_own, Entry, News, NewsRow, Holds, news, news_behind, news_of, news_row, mapof, past, recorded_next, AreNews, IsNewsRow, IsUnder, IsWelcome, HasId, IsNumber, MirrorFault, IsBrought, IsReadBack, SpellNews, followed, taken, welcome_to, MirrorState, fault, taken_in_turn, taken_or, with_news}
use Rattle.osm_elements.specs.Rows.{row_at}
use Rattle.room_mirror.proofs.Following.{IsStep, AreSteps, LeadTo, StartFrom, names_rise, of_changed_names}
use Rattle.room_mirror.proofs.NamesKept.{HaveIds, ids_of_base, ids_of_map}
use Rattle.room_mirror.proofs.WholeRows.{map_rows, row_under}

-- a property of all items is a property of the first n items
pub all_front : {X : Type 0} (P : X → Type 0) (n : ℕ) (xs : List X) → All P xs → All P (take n xs)
all_front P zero xs h = All-nil P
all_front P (suc n) [] h = All-nil P
all_front P (suc n) (x ∷ xs) h = All-cons P x (take n xs) (h 0 x (omega arith)) (all_front P n xs (λ k d l. h (suc k) d (omega (arith, l))))

pub all_behind : {X : Type 0} (P : X → Type 0) (n : ℕ) (xs : List X) → All P xs → All P (drop n xs)
all_behind P zero xs h = h
all_behind P (suc n) [] h = All-nil P
all_behind P (suc n) (x ∷ xs) h = all_behind P n xs (λ k d l. h (suc k) d (omega (arith, l)))

-- the names of rows in order rise
below_names : (x : Name) (rows : Rows Global) → below_all name_cmp x (map (λ y. (y, tt {0})) (names_of rows)) ≡ below_all name_cmp x rows
below_names x [] = refl
below_names x (r ∷ rs) = rw (below_names x rs) refl

rising_names : (rows : Rows Global) → are_rising (names_of rows) ≡ is_sorted name_cmp rows
rising_names [] = refl
rising_names (r ∷ rs) = ap₂ (λ a b. a && b) (below_names r.0 rs) (rising_names rs)

-- a welcome to a sound map whose names have ids
pub is_welcome : (id n : ℕ) (m : Rows Global) → IsNumber id → n ≤ 9007199254740991 → is_sound m ≡ true → HaveIds m → IsWelcome (record { id = id; seq = n; rows = m })
is_welcome id n m number few sound ids = record {
  id = number;
  rising = rising_names m ∙ is_true (is_sorted name_cmp m) (sound_in_order m sound);
  rows = map_rows m ids sound;
  number = few;
}

-- the news of an entry that leads from a map whose names have ids to a sound map whose names have ids
module _ (m n : Rows Global) (before : HaveIds m) (after : HaveIds n) (sound : is_sound n ≡ true) where
  id_of : (c : Change Global) → c.after ≢ c.before → c.before ≡ half_at m (cell_of c) → c.after ≡ half_at n (cell_of c) → HasId c.name
  id_of c differ from leads = by c.before c.after refl refl
    where
      by : (h k : Option (Half Global)) → c.before ≡ h → c.after ≡ k → HasId c.name
      by (Some v) k e f = before c.name (there_by_half c.part (row_at m c.name) ∙ ap is_some (sym from ∙ e))
      by None (Some v) e f = after c.name (there_by_half c.part (row_at n c.name) ∙ ap is_some (sym leads ∙ f))
      by None None e f = absurd (differ (f ∙ sym e))

  ids_of : (cs : List (Change Global)) → All (λ (c : Change Global). c.after ≢ c.before) cs → StartFrom m cs → LeadTo n cs → All (λ (c : Change Global). HasId c.name) cs
  ids_of [] differ from leads = All-nil (λ (c : Change Global). HasId c.name)
  ids_of (c ∷ cs) differ from leads =
      All-cons (λ (c : Change Global). HasId c.name) c cs (id_of c (differ 0 c (omega arith)) (from 0 c (omega arith)) (leads 0 c (omega arith)))
      (ids_of cs (λ k d l. differ (suc k) d (omega (arith, l))) (λ k d l. from (suc k) d (omega (arith, l))) (λ k d l. leads (suc k) d (omega (arith, l))))

  element_under : (x : Name) → IfSome (row_at n x) (λ element. IsUnder x element)
  element_under x = by (row_at n x) refl
    where
      by : (o : Option (Element Global)) → row_at n x ≡ o → IfSome o (λ element. IsUnder x element)
      by None e = tt
      by (Some v) e = row_under n after sound x v e

  rows_read : (names : List Name) → ((x : Name) → is_among names x ≡ true → HasId x) → All (λ r. IsNewsRow r) (map (news_row n) names)
  rows_read [] ids = All-nil (λ (r : NewsRow Global). IsNewsRow r)
  rows_read (x ∷ xs) ids =
      All-cons (λ (r : NewsRow Global). IsNewsRow r) (news_row n x) (map (news_row n) xs) (ids x (is_among_own x xs), element_under x) (rows_read xs (λ y i. ids y (or_right (is_same y x) (is_among xs y) i)))

names_told : (n : Rows Global) (names : List Name) → map (λ (r : NewsRow Global). r.name) (map (news_row n) names) ≡ names
names_told n [] = refl
names_told n (x ∷ xs) = ap (λ rest. x ∷ rest) (names_told n xs)

module _ (base : Rows Global) (limit : ℕ) (j : List (Entry Global)) (few : length j ≤ 9007199254740991) (brought : All IsBrought j)
    (sound_at : (n : ℕ) → is_sound (mapof base (take n j)) ≡ true) (ids_at : (n : ℕ) → HaveIds (mapof base (take n j))) where
  -- the map after the first entries is sound, and its names have ids
  front : (i k : List (Entry Global)) → i ++ k ≡ j → take (length i) j ≡ i
  front i k is = ap (take (length i)) (sym is) ∙ take-append_seam i k

  sound_front : (i k : List (Entry Global)) → i ++ k ≡ j → is_sound (mapof base i) ≡ true
  sound_front i k is = subst (λ l. is_sound (mapof base l) ≡ true) (front i k is) (sound_at (length i))

  ids_front : (i k : List (Entry Global)) → i ++ k ≡ j → HaveIds (mapof base i)
  ids_front i k is = subst (λ l. HaveIds (mapof base l)) (front i k is) (ids_at (length i))

  -- the news of each entry can be read back
  news_fine : (i k : List (Entry Global)) (e : Entry Global) → i ++ e ∷ k ≡ j → IsStep base i e → IsBrought e → AreNews (news_of base i e)
  news_fine i k e is step b =
      let cs = (recorded_next (past base i) e.kind).changes in
      let n = mapof base (i ++ e ∷ []) in
      let whole : (i ++ e ∷ []) ++ k ≡ j = append_assoc i (e ∷ []) k ∙ is in
      let long : length i + length (e ∷ k) ≡ length j = sym (length-append i (e ∷ k)) ∙ ap length is in
      let names : map (λ (r : NewsRow Global). r.name) (map (news_row n) (changed_names cs)) ≡ changed_names cs = names_told n (changed_names cs) in
      record {
        author = b.0;
        rising = ap are_rising names ∙ names_rise cs;
        rows = rows_read (mapof base i) n (ids_front i (e ∷ k) is) (ids_front (i ++ e ∷ []) k whole) (sound_front (i ++ e ∷ []) k whole) (changed_names cs)
            (of_changed_names HasId cs (ids_of (mapof base i) n (ids_front i (e ∷ k) is) (ids_front (i ++ e ∷ []) k whole) (sound_front (i ++ e ∷ []) k whole) cs step.are.differ step.from.before step.leads));
        number = (omega arith, omega (arith, long, few));
      }

  pub all_fine : (i k : List (Entry Global)) → i ++ k ≡ j → AreSteps base i k → All IsBrought k → All (λ (n : News Global). AreNews n) (news_behind base i k)
  all_fine i [] is steps b = All-nil (λ (n : News Global). AreNews n)
  all_fine i (e ∷ k) is steps b =
      All-cons (λ (n : News Global). AreNews n) (news_of base i e) (news_behind base (i ++ e ∷ []) k)
      (news_fine i k e is steps.0 (b 0 e (omega arith)))
      (all_fine (i ++ e ∷ []) k (append_assoc i (e ∷ []) k ∙ is) steps.1 (λ k d l. b (suc k) d (omega (arith, l))))

-- the news and the welcomes of a room can be read back
module _ (base : Rows Global) (limit : ℕ) (j : List (Entry Global)) (ids : All HasId (names_of base)) (brought : All IsBrought j) (few : length j ≤ 9007199254740991)
    (holds : (n : ℕ) → Holds base limit (take n j)) where
  room_ids : (n : ℕ) → HaveIds (mapof base (take n j))
  room_ids n = ids_of_map base (take n j) (ids_of_base base ids) (all_front IsBrought n j brought) (holds n).replayed

  pub room_news : (a : ℕ) → AreSteps base (take a j) (drop a j) → All (λ (n : News Global). AreNews n) (news base j a)
  room_news a steps = all_fine base limit j few brought (λ n. (holds n).sound) room_ids (take a j) (drop a j) (take-append-drop a j) steps (all_behind IsBrought a j brought)

  pub room_welcome : (id a : ℕ) → IsNumber id → a ≤ length j → IsWelcome (welcome_to id base j a)
  room_welcome id a number l = is_welcome id a (mapof base (take a j)) number (omega (arith, l, few)) (holds a).sound (room_ids a)

-- texts that spell news lead to the same mirror as the news
pub followed_is : (s : MirrorState Global) (texts : List (List ℕ)) (ns : List (News Global)) → SpellNews texts ns → All IsReadBack ns → followed s texts ≡ result_ok (taken_in_turn s ns)
followed_is s [] [] spelled back = refl
followed_is s [] (n ∷ ns) spelled back = absurd spelled
followed_is s (text ∷ texts) [] spelled back = absurd spelled
followed_is s (text ∷ texts) (n ∷ ns) spelled back =
    ap (λ r. option_and_then (λ n. option_and_then (λ t. followed t texts) (taken s n (fault s n))) (result_ok r)) (back 0 n (omega arith) text spelled.0)
    ∙ by (fault s n) (followed_is (with_news s n) texts ns spelled.1 (λ k d l. back (suc k) d (omega (arith, l))))
  where
    by : (o : Option MirrorFault) → followed (with_news s n) texts ≡ result_ok (taken_in_turn (with_news s n) ns)
        → option_and_then (λ t. followed t texts) (taken s n o) ≡ result_ok (taken_or o (taken_in_turn (with_news s n) ns))
    by None later = later
    by (Some f) later = refl
