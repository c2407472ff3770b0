-- The names of a room's map have ids as in messages if those of its base and of its actions do.
use Rattle.std.proofs.Common.{◌≡◌, ◌||◌, ℕ, zero, suc, Bool, true, false, List, [], ◌∷◌, Option, Some, None, All, IfSome, is_some, is_none, cond, slice_get, refl, sym, ap, subst, ◌∙◌, arith, option_map, fold, option_and_then}
use Rattle.std.proofs.lemmas.List.Elements.{All-append, All-cons, All-nil}
use Rattle.room_mirror.specs.Prelude.{cons_option, Global, Name, Element, Rows, is_among, is_present, is_same, names_of, is_among-names_of, same_names, goes, join_row, merge_row, split_off, row_standing, Action, Create, Retag, Move, Reverse, Nodes, Members, Delete, Purge, Split, Join, Merge, Unglue, subject_names, Edit, One, Group, after_all, becomes, row_at-after, Entry, EntryKind, Do, Undo, Redo, IsReplayed, numbered, standing, Past, Recorded, actions_of, done_again, mapof, past, past_after, recorded_next, replay, taken_back, HasId, HasEditIds, HasIds, HasSubjectIds, AllHaveIds, IsBrought}
use Rattle.room_history.specs.Replays.{action_at}
use Rattle.osm_elements.specs.Rows.{row_at}
use Rattle.edit_actions.specs.After.{after}
use Rattle.edit_groups.specs.Edits as edits

first_false : (a : Bool) → (a || false) ≡ false → a ≡ false
first_false true e = absurd (cc)
first_false false e = refl

second_false : (a b : Bool) → (a || (b || false)) ≡ false → b ≡ false
second_false true b e = absurd (cc)
second_false false true e = absurd (cc)
second_false false false e = refl

not_chosen : {X : Type 0} (b : Bool) (o : Option X) → b ≡ false → cond b o None ≡ None
not_chosen true o e = absurd (cc)
not_chosen false o e = refl

none_chosen : {X : Type 0} (b : Bool) (o : Option X) → o ≡ None → cond b None o ≡ None
none_chosen true o e = refl
none_chosen false o e = e

-- a name without a row that is not a subject of the action has no row after it
none_of : (m : Rows Global) (y : Name) (a : Action Global) → is_among (subject_names a) y ≡ false → becomes m a y None ≡ None
none_of m y (Create x v) out = not_chosen (is_same y x) (Some v) (first_false (is_same y x) out)
none_of m y (Retag x given) out = refl
none_of m y (Move list dlat dlon) out = refl
none_of m y (Reverse w) out = refl
none_of m y (Nodes w list) out = refl
none_of m y (Members r list) out = refl
none_of m y (Delete x) out = none_chosen (is_same y x) None refl
none_of m y (Purge x) out = none_chosen (goes m x y) None refl
none_of m y (Split w i v) out = not_chosen (is_same y v) (Some (split_off m w i)) (second_false (is_same y w) (is_same y v) out)
none_of m y (Join w v) out = ap (option_map (join_row m w v y)) (none_chosen (is_same y v) None refl)
none_of m y (Merge k g) out = ap (option_map (merge_row m k g y)) (none_chosen (is_same y g) None refl)
none_of m y (Unglue w i v) out = not_chosen (is_same y v) (row_standing m w i) (second_false (is_same y w) (is_same y v) out)

-- each name of the map has an id
abbrev pub HaveIds : Rows Global → Type 0
HaveIds m = (y : Name) → is_present m y ≡ true → HasId y

among_has : (names : List Name) (y : Name) → All HasId names → is_among names y ≡ true → HasId y
among_has [] y h is = absurd (cc)
among_has (x ∷ xs) y h is = by (is_same y x) refl is (among_has xs y (λ k d l. h (suc k) d (omega (arith, l))))
  where
    by : (b : Bool) → is_same y x ≡ b → (b || is_among xs y) ≡ true → (is_among xs y ≡ true → HasId y) → HasId y
    by true e f later = subst HasId (sym (same_names y x e)) (h 0 x (omega arith))
    by false e f later = later f

pub ids_of_base : (m : Rows Global) → All HasId (names_of m) → HaveIds m
ids_of_base m h y there = among_has (names_of m) y h (is_among-names_of m y ∙ there)

ids_after : (m : Rows Global) (a : Action Global) → HaveIds m → HasIds a → HaveIds (after m a)
ids_after m a h s y there = by (row_at m y) refl (is_among (subject_names a) y) refl
  where
    by : (o : Option (Element Global)) → row_at m y ≡ o → (b : Bool) → is_among (subject_names a) y ≡ b → HasId y
    by (Some v) e b f = h y (ap is_some e)
    by None e true f = among_has (subject_names a) y s f
    by None e false f = let gone : row_at (after m a) y ≡ None = row_at-after m a y ∙ ap (becomes m a y) e ∙ none_of m y a f in absurd (cc (sym there ∙ ap is_some gone))

ids_after_all : (group : List (Action Global)) (m : Rows Global) → HaveIds m → AllHaveIds group → HaveIds (after_all m group)
ids_after_all [] m h s = h
ids_after_all (a ∷ rest) m h s = ids_after_all rest (after m a) (ids_after m a h s.0) s.1

ids_after_edit : (m : Rows Global) (e : Edit Global) → HaveIds m → HasEditIds e → HaveIds (edits.after m e)
ids_after_edit m (One a) h s = ids_after m a h s
ids_after_edit m (Group group) h s = ids_after_all group m h s

-- the subjects of each edit have ids
abbrev AreOfIds : List (Edit Global) → Type 0
AreOfIds [] = Unit {0}
AreOfIds (a ∷ rest) = HasEditIds a × AreOfIds rest

ids_replayed : (rest : List (Edit Global)) (m n : Rows Global) → HaveIds m → AreOfIds rest → replay m rest ≡ Some n → HaveIds n
ids_replayed [] m n h s is = let same : m ≡ n = cc in subst HaveIds same h
ids_replayed (a ∷ rest) m n h s is = by (is_none (edits.refusal m a)) is (ids_replayed rest (edits.after m a) n (ids_after_edit m a h s.0) s.1)
  where
    by : (b : Bool) → cond b (replay (edits.after m a) rest) None ≡ Some n → (replay (edits.after m a) rest ≡ Some n → HaveIds n) → HaveIds n
    by true e later = later e
    by false e later = absurd (cc)

-- the record of an entry has no action, or its subjects have ids
abbrev IsOfIds : Recorded Global → Type 0
IsOfIds r = IfSome r.action (λ a. HasEditIds a)

of_ids_at : (rs : List (Recorded Global)) (i : ℕ) → All IsOfIds rs → IfSome (option_and_then (λ (r : Recorded Global). r.action) (slice_get rs i)) (λ a. HasEditIds a)
of_ids_at [] i h = tt
of_ids_at (r ∷ rs) zero h = h 0 r (omega arith)
of_ids_at (r ∷ rs) (suc i) h = of_ids_at rs i (λ k d l. h (suc k) d (omega (arith, l)))

action_of_ids : (p : Past Global) (s : ℕ) → All IsOfIds p.entries → IfSome (action_at p s) (λ a. HasEditIds a)
action_of_ids p zero h = tt
action_of_ids p (suc i) h = of_ids_at p.entries i h

next_of_ids : (p : Past Global) (k : EntryKind Global) → All IsOfIds p.entries → HasSubjectIds k → IsOfIds (recorded_next p k)
next_of_ids p (Do a) h s = s
next_of_ids p (Undo t) h s = by (numbered p.entries t)
  where
    by : (o : Option (Recorded Global)) → IsOfIds (taken_back o)
    by None = tt
    by (Some r) = tt
next_of_ids p (Redo t) h s = by (action_at p t) (action_of_ids p t h)
  where
    by : (o : Option (Edit Global)) → IfSome o (λ a. HasEditIds a) → IsOfIds (done_again p.map o)
    by None f = tt
    by (Some a) f = f

recorded_of_ids : (p : Past Global) (j : List (Entry Global)) → All IsOfIds p.entries → All IsBrought j → All IsOfIds (fold (λ (p : Past Global) (e : Entry Global). past_after p e.kind) p j).entries
recorded_of_ids p [] h b = h
recorded_of_ids p (e ∷ j) h b =
    let here : IsBrought e = b 0 e (omega arith) in
    let r = recorded_next p e.kind in
    recorded_of_ids (past_after p e.kind) j
    (All-append IsOfIds p.entries (r ∷ []) h (All-cons IsOfIds r [] (next_of_ids p e.kind h here.1) (All-nil IsOfIds)))
    (λ k d l. b (suc k) d (omega (arith, l)))

actions_of_ids : (p : Past Global) (ss : List ℕ) → All IsOfIds p.entries → AreOfIds (actions_of p ss)
actions_of_ids p [] h = tt
actions_of_ids p (s ∷ ss) h = by (action_at p s) (action_of_ids p s h) (actions_of_ids p ss h)
  where
    by : (o : Option (Edit Global)) → IfSome o (λ a. HasEditIds a) → AreOfIds (actions_of p ss) → AreOfIds (cons_option o (actions_of p ss))
    by None f rest = rest
    by (Some a) f rest = (f, rest)

-- the names of the map that a journal leads to
pub ids_of_map : (base : Rows Global) (j : List (Entry Global)) → HaveIds base → All IsBrought j → IsReplayed base j → HaveIds (mapof base j)
ids_of_map base j h b replayed =
    let p = past base j in
    ids_replayed (actions_of p (standing j)) base (mapof base j) h
    (actions_of_ids p (standing j) (recorded_of_ids (record { map = base; entries = [] }) j (All-nil IsOfIds) b)) replayed
