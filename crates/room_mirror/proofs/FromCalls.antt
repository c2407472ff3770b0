-- What types keep, from their items; and the entries of calls.
use Rattle.std.proofs.Common.{◌≡◌, ◌+◌, ◌<◌, ◌⊎◌, ℕ, suc, List, [], ◌∷◌, Option, Some, None, All, IfSome, length, map, slice_get, take, true, ◌≤◌, inl, inr, get_or, sym, ap, subst, ◌∙◌, arith, option_map}
use Rattle.std.proofs.lemmas.List.Elements.{All-cons, All-more, All-nil, All-push}
use Rattle.std.proofs.lemmas.Option.{slice_get_cases}
use Rattle.room_mirror.specs.Prelude.{Global, Row, Name, Rows, is_among, is_same, names_of, is_among-names_of, row_pair, or_right, is_among_own, Action, Author, Call, Request, Entry, EntryKind, Undo, Redo, Reply, answer, answer_by, call_refusal, meant, last, numbered, redos, IsJournal, called, IsRun, IsStep, HasId, AllHaveIds, HasIds, HasRequestIds, HasSubjectIds, IsBrought, IsBroughtCall}
use Rattle.room_history.specs.Answers.{asked}
use Rattle.room_mirror.proofs.NamesKept.{HaveIds}
use Rattle.room_interface.specs.declared.call.Request.TheVariants as requests

-- the names of rows
pub ids_of_rows : (rows : List (Row Global)) → All (λ (r : Row Global). HasId r.name) rows → All HasId (names_of (map row_pair rows))
ids_of_rows [] h = All-nil HasId
ids_of_rows (r ∷ rs) h = All-cons HasId r.name (names_of (map row_pair rs)) (h 0 r (omega arith)) (ids_of_rows rs (λ k d l. h (suc k) d (omega (arith, l))))

pub all_have_ids : (group : List (Action Global)) → All HasIds group → AllHaveIds group
all_have_ids [] h = tt
all_have_ids (a ∷ rest) h = (h 0 a (omega arith), all_have_ids rest (λ k d l. h (suc k) d (omega (arith, l))))

-- the first items, and the next one by its number
pub one_more : {X : Type 0} (P : X → Type 0) (xs : List X) (i : ℕ) → i < length xs → All P (take i xs) → IfSome (numbered xs (i + 1)) P → All P (take (i + 1) xs)
one_more {X} P xs i l h p = by (slice_get_cases xs i).1
  where
    on : i + 1 ≡ suc i
    on = omega arith

    by : ((x : X) × (i < length xs) × (slice_get xs i ≡ Some x) × (get_or xs i x ≡ x)) ⊎ ((length xs ≤ i) × (slice_get xs i ≡ None)) → All P (take (i + 1) xs)
    by (inl (x, m, at, own)) = All-more P xs i x l h (subst P (sym own) (subst (λ o. IfSome o P) (ap (numbered xs) on ∙ at) p))
    by (inr (m, none)) = absurd (omega (arith, l, m))

-- the names of a map whose present names have ids
pub ids_of_names : (m : Rows Global) → HaveIds m → All HasId (names_of m)
ids_of_names m h = each (names_of m) (λ y there. h y (sym (is_among-names_of m y) ∙ there))
  where
    each : (names : List Name) → ((y : Name) → is_among names y ≡ true → HasId y) → All HasId names
    each [] f = All-nil HasId
    each (x ∷ xs) f = All-cons HasId x xs (f x (is_among_own x xs)) (each xs (λ y i. f y (or_right (is_same y x) (is_among xs y) i)))

-- the kind of entry that a request would append
meant_ids : (j : List (Entry Global)) (author : Author) (r : Request Global) → HasRequestIds r → IfSome (meant j author r) HasSubjectIds
meant_ids j author (requests.Do a since) h = h
meant_ids j author (requests.Undo s) h = by (asked j author s)
  where
    by : (o : Option ℕ) → IfSome (option_map Undo o) HasSubjectIds
    by None = tt
    by (Some t) = tt
meant_ids j author requests.Redo h = by (last (redos j author))
  where
    by : (o : Option ℕ) → IfSome (option_map Redo o) HasSubjectIds
    by None = tt
    by (Some t) = tt

module _ (base : Rows Global) (limit : ℕ) where
  -- a call's entry
  pub brought_answer : (j : List (Entry Global)) (c : Call Global) → All IsBrought j → IsBroughtCall c → All IsBrought (answer base limit j c).1
  brought_answer j c all h = by (call_refusal base limit j c) (meant j c.author c.request) (meant_ids j c.author c.request h.ids)
    where
      by : (o : Option (Reply Global)) (m : Option (EntryKind Global)) → IfSome m HasSubjectIds → All IsBrought (answer_by j c o m).1
      by (Some refused) m f = all
      by None None f = all
      by None (Some k) f = All-push IsBrought j (record { author = c.author; id = c.id; kind = k }) all (h.author, f)

  -- calls lead to the journal, and its entries can come from messages
  abbrev pub IsLed : List (Entry Global) → Type 0
  IsLed j = IsJournal base limit j × All IsBrought j

  pub led_step : (j k : List (Entry Global)) (c : Call Global) (r : Reply Global) → IsLed j → IsBroughtCall c → IsStep base limit j c r k → IsLed k
  led_step j k c r led h (inl is) = subst IsLed (sym (ap (λ p. p.1) is)) (called j c led.0 h.made, brought_answer j c led.1 h)
  led_step j k c r led h (inr (memory, is)) = subst IsLed (sym is) led

  pub led_run : (calls : List (Call Global)) (replies : List (Reply Global)) (j k : List (Entry Global)) → IsLed j → All IsBroughtCall calls → IsRun base limit j calls replies k → IsLed k
  led_run [] [] j k led h (holds, is) = subst IsLed (sym is) led
  led_run [] (r ∷ rs) j k led h run = absurd run
  led_run (c ∷ cs) [] j k led h run = absurd run
  led_run (c ∷ cs) (r ∷ rs) j k led h (holds, (next, step, rest)) =
      led_run cs rs next k (led_step j next c r led (h 0 c (omega arith)) step) (λ k d l. h (suc k) d (omega (arith, l))) rest
