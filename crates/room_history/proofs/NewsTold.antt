-- The news that a room returns have the rows of its maps.
use Rattle.std.proofs.Common.{◌≡◌, ◌+◌, ◌++◌, ℕ, zero, suc, List, [], ◌∷◌, drop, length, map, take, refl, sym, ap, ◌∙◌, append_assoc, append-nil, length-append, fold}
use Rattle.room_history.specs.Prelude.{Name, Rows, changed_names, changed_row, Entry, News, news, news_behind, news_of, news_row, Past, Recorded, past, past_after, mapof, recorded_next}
use Rattle.osm_changes.specs.Changes.{changed}
use Rattle.room_history.specs.Inner.Telling.{kept_from, kept, told_from, told_row}
use Rattle.room_history.proofs.Appending.{past-append, mapof-append}

module _ {A : Type 0} where
  -- the records of entries after a past
  abbrev recorded_behind : Past A → List (Entry A) → List (Recorded A)
  recorded_behind p [] = []
  recorded_behind p (e ∷ k) = recorded_next p e.kind ∷ recorded_behind (past_after p e.kind) k

  abbrev past_from : Past A → List (Entry A) → Past A
  past_from p j = fold (λ (p : Past A) (e : Entry A). past_after p e.kind) p j

  -- the records of all entries in order
  recorded_in_turn : (p : Past A) (j : List (Entry A)) → (past_from p j).entries ≡ p.entries ++ recorded_behind p j
  recorded_in_turn p [] = sym (append-nil p.entries)
  recorded_in_turn p (e ∷ j) =
      recorded_in_turn (past_after p e.kind) j
      ∙ append_assoc p.entries (recorded_next p e.kind ∷ []) (recorded_behind (past_after p e.kind) j)

  -- rows of a map in the form of news
  rows_told : (m n : Rows A) (names : List Name) → map told_row (map (changed_row m n) names) ≡ map (news_row n) names
  rows_told m n [] = refl
  rows_told m n (x ∷ xs) = ap (λ rows. news_row n x ∷ rows) (rows_told m n xs)

  -- the news after more entries
  drop_behind : (base : Rows A) (from : ℕ) (i k : List (Entry A)) → drop from (news_behind base i k) ≡ news_behind base (i ++ take from k) (drop from k)
  drop_behind base zero i k = ap (λ l. news_behind base l k) (sym (append-nil i))
  drop_behind base (suc from) i [] = refl
  drop_behind base (suc from) i (e ∷ k) = drop_behind base from (i ++ e ∷ []) k ∙ ap (λ l. news_behind base l (drop from k)) (append_assoc i (e ∷ []) (take from k))

  told_behind : (base : Rows A) (i k : List (Entry A)) → told_from (length i + 1) k (kept_from (mapof base i) (recorded_behind (past base i) k)) ≡ news_behind base i k
  told_behind base i [] = refl
  told_behind base i (e ∷ k) =
      let p : Past A = past base i in
      let cs = (recorded_next p e.kind).changes in
      let longer : length i + 1 ≡ length (i ++ e ∷ []) = sym (length-append i (e ∷ [])) in
      let later : past_after p e.kind ≡ past base (i ++ e ∷ []) = sym (past-append base i e) in
      let new : News A = news_of base i e in
      ap (λ rows. record { seq = length i + 1; author = e.author; rows = rows } ∷ told_from ((length i + 1) + 1) k (kept_from (changed p.map cs) (recorded_behind (past_after p e.kind) k)))
      (rows_told p.map (changed p.map cs) (changed_names cs) ∙ ap (λ m. map (news_row m) (changed_names cs)) (sym (mapof-append base i e)))
      ∙ (λ n. new ∷ told_from (longer n + 1) k (kept_from (later n).map (recorded_behind (later n) k)))
      ∙ ap (λ ns. new ∷ ns) (told_behind base (i ++ e ∷ []) k)

  -- the news that a room returns
  pub news_told : (base : Rows A) (j : List (Entry A)) (from : ℕ) → drop from (told_from 1 j (kept base j)) ≡ news base j from
  news_told base j n =
      ap (λ rs. drop n (told_from 1 j (kept_from base rs))) (recorded_in_turn (record { map = base; entries = [] }) j)
      ∙ ap (drop n) (told_behind base [] j) ∙ drop_behind base n [] j
