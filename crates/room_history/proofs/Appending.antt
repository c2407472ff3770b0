-- The past of a journal, and its active entries, after one more entry.
use Rattle.std.proofs.Common.{◌≡◌, ◌+◌, ◌++◌, ℕ, suc, Bool, true, false, not, List, [], ◌∷◌, Some, length, refl, cond, nat_eq, sym, ap, ◌∙◌, append-nil, length-append, arith, filter, fold}
use Rattle.std.proofs.lemmas.List.Elements.{filter-append}
use Rattle.std.proofs.lemmas.List.Sums.{fold-append}
use Rattle.room_history.specs.Prelude.{Rows, AreInOrder, counted, changed-differences, after, AreInOrder-after, Author, is_same_author, Entry, EntryKind, Do, Undo, Redo, numbered, is_undo_of, is_work, standing, others, redos, redos_after, applied, Recorded, Past, past, past_after, mapof, recorded_of, recorded_next, action_at, done_again}
use Rattle.osm_changes.specs.Changes.{changed}
use Rattle.room_interface.specs.declared.edit.Edit.{Edit as Action}
use Rattle.room_history.proofs.Growing.{numbered_next, standing_from-append, new_number}

unfiltered : (ss : List ℕ) → filter (λ _. true) ss ≡ ss
unfiltered [] = refl
unfiltered (x ∷ ss) = ap (λ r. x ∷ r) (unfiltered ss)

module _ {A : Type 0} where
  -- the past of a longer journal
  pub past-append : (base : Rows A) (j : List (Entry A)) (e : Entry A) → past base (j ++ e ∷ []) ≡ past_after (past base j) e.kind
  past-append base j e = fold-append (λ (p : Past A) (e : Entry A). past_after p e.kind) (record { map = base; entries = [] }) j (e ∷ [])

  pub mapof-append : (base : Rows A) (j : List (Entry A)) (e : Entry A) → mapof base (j ++ e ∷ []) ≡ changed (mapof base j) (recorded_next (past base j) e.kind).changes
  mapof-append base j e = ap (λ (p : Past A). p.map) (past-append base j e)

  fold-kept : (p : Past A) (j : List (Entry A)) → length (fold (λ (p : Past A) (e : Entry A). past_after p e.kind) p j).entries ≡ length p.entries + length j
  fold-kept p [] = omega arith
  fold-kept p (e ∷ j) =
      let longer : length (p.entries ++ recorded_next p e.kind ∷ []) ≡ length p.entries + 1 = length-append p.entries (recorded_next p e.kind ∷ []) in
      fold-kept (past_after p e.kind) j ∙ omega (arith, longer)

  -- each entry has a record
  pub recorded_each : (base : Rows A) (j : List (Entry A)) → length (past base j).entries ≡ length j
  recorded_each base j = fold-kept (record { map = base; entries = [] }) j ∙ omega arith

  -- the record of the new entry
  pub recorded-last : (base : Rows A) (j : List (Entry A)) (e : Entry A) → numbered (past base (j ++ e ∷ [])).entries (suc (length j)) ≡ Some (recorded_next (past base j) e.kind)
  recorded-last base j e =
      ap (λ n. numbered (past base (j ++ e ∷ [])).entries (suc n)) (sym (recorded_each base j)) ∙ ap (λ (p : Past A). numbered p.entries (suc (length (past base j).entries))) (past-append base j e)
      ∙ numbered_next (past base j).entries (recorded_next (past base j) e.kind)

  -- the map after an entry whose record is an action's
  pub mapof-work : (base : Rows A) (j : List (Entry A)) (e : Entry A) (a : Action A) → AreInOrder (mapof base j) → recorded_next (past base j) e.kind ≡ recorded_of (mapof base j) a → mapof base (j ++ e ∷ []) ≡ after (mapof base j) a
  mapof-work base j e a here records =
      mapof-append base j e ∙ ap (λ (r : Recorded A). changed (mapof base j) r.changes) records ∙ changed-differences (mapof base j) (after (mapof base j) a) here (AreInOrder-after (mapof base j) a here)

  -- the record of a redo is that of the named entry's action on the current map
  pub recorded-redo : (base : Rows A) (j : List (Entry A)) (t : ℕ) (a : Action A) → action_at (past base j) t ≡ Some a → recorded_next (past base j) (Redo t) ≡ recorded_of (mapof base j) a
  recorded-redo base j t a acts = ap (done_again (mapof base j)) acts

  pub mapof-redo : (base : Rows A) (j : List (Entry A)) (e : Entry A) (t : ℕ) (a : Action A) → AreInOrder (mapof base j) → e.kind ≡ Redo t → action_at (past base j) t ≡ Some a → mapof base (j ++ e ∷ []) ≡ after (mapof base j) a
  mapof-redo base j e t a here k acts = mapof-work base j e a here (ap (recorded_next (past base j)) k ∙ recorded-redo base j t a acts)

  -- the active entries after an entry that does or redoes an action
  pub standing-work : (j : List (Entry A)) (e : Entry A) → is_work e.kind ≡ true → standing (j ++ e ∷ []) ≡ standing j ++ (1 + length j) ∷ []
  standing-work j e work = standing_from-append 1 j e ∙ by e.kind work
    where
      by : (k : EntryKind A) → is_work k ≡ true → filter (λ s. not (is_undo_of s k)) (standing j) ++ new_number k (1 + length j) ≡ standing j ++ (1 + length j) ∷ []
      by (Do a) h = ap (λ ss. ss ++ (1 + length j) ∷ []) (unfiltered (standing j))
      by (Undo s) h = absurd (cc)
      by (Redo t) h = ap (λ ss. ss ++ (1 + length j) ∷ []) (unfiltered (standing j))

  pub standing-do : (j : List (Entry A)) (e : Entry A) (a : Action A) → e.kind ≡ Do a → standing (j ++ e ∷ []) ≡ standing j ++ (1 + length j) ∷ []
  standing-do j e a k = standing-work j e (ap is_work k)

  pub standing-redo : (j : List (Entry A)) (e : Entry A) (t : ℕ) → e.kind ≡ Redo t → standing (j ++ e ∷ []) ≡ standing j ++ (1 + length j) ∷ []
  standing-redo j e t k = standing-work j e (ap is_work k)

  -- the active entries after an undo
  pub standing-undo : (j : List (Entry A)) (e : Entry A) (s : ℕ) → e.kind ≡ Undo s → standing (j ++ e ∷ []) ≡ others j s
  standing-undo j e s k =
      standing_from-append 1 j e ∙ ap (λ k. filter (λ t. not (is_undo_of t k)) (standing j) ++ new_number k (1 + length j)) k ∙ append-nil (filter (λ t. not (nat_eq t s)) (standing j))

  -- an author's redo stack after one more entry, its own or another's
  pub redos-append : (j : List (Entry A)) (e : Entry A) (author : Author) → redos (j ++ e ∷ []) author ≡ cond (is_same_author author e.author) (redos_after (redos j author) e.kind) (redos j author)
  redos-append j e author = ap (fold step []) (filter-append own j (e ∷ [])) ∙ by (own e)
    where
      own : Entry A → Bool
      own e = is_same_author author e.author

      step : List ℕ → Entry A → List ℕ
      step stack e = redos_after stack e.kind

      by : (b : Bool) → fold step [] (filter own j ++ cond b (e ∷ []) []) ≡ cond b (redos_after (redos j author) e.kind) (redos j author)
      by true = fold-append step [] (filter own j) (e ∷ [])
      by false = ap (fold step []) (append-nil (filter own j))

  -- the count of changes grows entry by entry
  pub applied-append : (base : Rows A) (j : List (Entry A)) (e : Entry A) → applied base (j ++ e ∷ []) ≡ counted (applied base j) (recorded_next (past base j) e.kind).changes
  applied-append base j e =
      ap (λ (p : Past A). fold (λ n (r : Recorded A). counted n r.changes) 0 p.entries) (past-append base j e)
      ∙ fold-append (λ n (r : Recorded A). counted n r.changes) 0 (past base j).entries (recorded_next (past base j) e.kind ∷ [])
