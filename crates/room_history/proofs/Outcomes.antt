-- The outcome of a call: an accepted entry is appended, or a refusal leaves the journal unchanged.
use Rattle.std.proofs.Common.{◌≡◌, ◌⊎◌, ◌+◌, ◌++◌, ◌∷◌, ℕ, Bool, true, false, not, List, [], Option, Some, None, is_none, length, refl, nat_le, sym, ap, ◌∙◌, inl, inr, arith, length-append, option_map}
use Rattle.room_history.specs.Prelude.{then_some, Name, Rows, refusal, first_that_holds, EditRefusal, Author, Call, Request, Entry, EntryKind, Do, Undo, Redo, Reply, Done, Undid, Redid, Repeat, Full, NoSuch, NotYours, NotStanding, Refused, spent, conflict, meant, nothing_meant, undo_refusal, redo_refusal, changed_cells, recorded_next, kind_refusal, guarded_refusal, is_ahead, seen, changed_since, overwritten_since, meaning_refusal, accepted, with_entry, answer_by, answer, blocker, numbered, is_by, is_standing, Past, past, action_at}
use Rattle.room_interface.specs.declared.edit.Edit.{Edit as Action}
use Rattle.room_history.proofs.LastItems.{same_end}
use Rattle.room_interface.specs.declared.call.Request.TheVariants as requests

module _ {A : Type 0} where
  -- a reply to an accepted call
  abbrev pub is_acceptance : Reply A → Bool
  is_acceptance (Done seq) = true
  is_acceptance (Undid seq s) = true
  is_acceptance (Redid seq t) = true
  is_acceptance r = false

  -- a refusal is not a reply to an accepted call
  pub no_acceptance : (r q : Reply A) → is_acceptance r ≡ false → is_acceptance q ≡ true → r ≡ q → ⊥
  no_acceptance r q refused accepts e = let clash : true ≡ false = sym accepts ∙ ap is_acceptance (sym e) ∙ refused in absurd (cc)

  nothing_refused : (r : Request A) → is_acceptance (nothing_meant r) ≡ false
  nothing_refused (requests.Do a since) = refl
  nothing_refused (requests.Undo s) = refl
  nothing_refused requests.Redo = refl

  -- no check gives a reply to an accepted call
  abbrev pub Refuses : Option (Reply A) → Type 0
  Refuses None = Unit {0}
  Refuses (Some r) = is_acceptance r ≡ false

  action_refused : (o : Option (EditRefusal A)) → Refuses (option_map Refused o)
  action_refused None = tt
  action_refused (Some q) = refl

  undo_refused : (p : Past A) (j : List (Entry A)) (author : Author) (s : ℕ) → Refuses (undo_refusal p j author s)
  undo_refused p j author s = by (is_none (numbered j s)) (not (is_by author (numbered j s))) (not (is_standing j s)) (blocker p j s)
    where
      by : (a b c : Bool) (o : Option (ℕ × Name)) → Refuses (first_that_holds (then_some a NoSuch ∷ then_some b NotYours ∷ then_some c NotStanding ∷ option_map conflict o ∷ []))
      by true b c o = refl
      by false true c o = refl
      by false false true o = refl
      by false false false (Some b) = refl
      by false false false None = tt

  redo_refused : (m : Rows A) (o : Option (Action A)) → Refuses (redo_refusal m o)
  redo_refused m None = refl
  redo_refused m (Some a) = action_refused (refusal m a)

  kind_refused : (p : Past A) (j : List (Entry A)) (author : Author) (k : EntryKind A) → Refuses (kind_refusal p j author k)
  kind_refused p j author (Do a) = action_refused (refusal p.map a)
  kind_refused p j author (Undo s) = undo_refused p j author s
  kind_refused p j author (Redo t) = redo_refused p.map (action_at p t)

  -- if nothing refuses an entry, the map accepts it
  pub unguarded : (p : Past A) (j : List (Entry A)) (author : Author) (k : EntryKind A) (since : Option ℕ) → guarded_refusal p j author k since ≡ None → kind_refusal p j author k ≡ None
  unguarded p j author k None h = h
  unguarded p j author k (Some n) h = by (is_ahead j (Some n)) (kind_refusal p j author k) (option_map changed_since (overwritten_since author (Some n) (changed_cells (recorded_next p k).changes) j p.entries)) h
    where
      by : (b : Bool) (o q : Option (Reply A)) → first_that_holds (then_some b NoSuch ∷ o ∷ q ∷ []) ≡ None → o ≡ None
      by true o q e = absurd (cc)
      by false None q e = refl
      by false (Some r) q e = absurd (cc)

  pub guarded_refused : (p : Past A) (j : List (Entry A)) (author : Author) (k : EntryKind A) (since : Option ℕ) → Refuses (guarded_refusal p j author k since)
  guarded_refused p j author k None = kind_refused p j author k
  guarded_refused p j author k (Some n) = by (is_ahead j (Some n)) (kind_refusal p j author k) (kind_refused p j author k) (overwritten_since author (Some n) (changed_cells (recorded_next p k).changes) j p.entries)
    where
      by : (b : Bool) (o : Option (Reply A)) → Refuses o → (q : Option (ℕ × Name)) → Refuses (first_that_holds (then_some b NoSuch ∷ o ∷ option_map changed_since q ∷ []))
      by true o h q = refl
      by false (Some r) h q = h
      by false None h (Some b) = refl
      by false None h None = tt

  -- an appended entry that nothing refuses
  pub record Appended (base : Rows A) (j : List (Entry A)) (c : Call A) (step : Reply A × List (Entry A)) : Type 0 where
    pub kind : EntryKind A
    pub means : meant j c.author c.request ≡ Some kind
    pub passes : kind_refusal (past base j) j c.author kind ≡ None
    pub guarded : guarded_refusal (past base j) j c.author kind (seen c.request) ≡ None
    pub is : step ≡ (accepted (length j + 1) kind, with_entry j c.author c.id kind)

  -- a refusal, and the unchanged journal
  pub record Left (j : List (Entry A)) (step : Reply A × List (Entry A)) : Type 0 where
    pub refused : is_acceptance step.0 ≡ false
    pub same : step.1 ≡ j

  abbrev Outcome : Rows A → List (Entry A) → Call A → Reply A × List (Entry A) → Type 0
  Outcome base j c step = Appended base j c step ⊎ Left j step

  pub outcome : (base : Rows A) (limit : ℕ) (j : List (Entry A)) (c : Call A) → Outcome base j c (answer base limit j c)
  outcome base limit j c = by (spent j c.author c.id) (nat_le limit (length j)) (meant j c.author c.request) refl
    where
      of_kind : (k : EntryKind A) → meant j c.author c.request ≡ Some k → (o : Option (Reply A)) → guarded_refusal (past base j) j c.author k (seen c.request) ≡ o → Refuses o → Outcome base j c (answer_by j c (first_that_holds (o ∷ [])) (Some k))
      of_kind k means None passes refuses = inl (record { kind = k; means = means; passes = unguarded (past base j) j c.author k (seen c.request) passes; guarded = passes; is = refl })
      of_kind k means (Some r) passes refuses = inr (record { refused = refuses; same = refl })

      by : (o : Option ℕ) (full : Bool) (k : Option (EntryKind A)) → meant j c.author c.request ≡ k → Outcome base j c (answer_by j c (first_that_holds (option_map Repeat o ∷ then_some full Full ∷ meaning_refusal (past base j) j c k ∷ [])) k)
      by (Some n) full k means = inr (record { refused = refl; same = refl })
      by None true k means = inr (record { refused = refl; same = refl })
      by None false None means = inr (record { refused = nothing_refused c.request; same = refl })
      by None false (Some k) means = of_kind k means (guarded_refusal (past base j) j c.author k (seen c.request)) refl (guarded_refused (past base j) j c.author k (seen c.request))

  longer : (j : List (Entry A)) (e : Entry A) → j ≡ j ++ e ∷ [] → ⊥
  longer j e h = let n : length j ≡ length j + 1 = ap length h ∙ length-append j (e ∷ []) in omega (arith, n)

  -- if the journal got one entry longer, the entry is the call's, and nothing refuses it
  pub got_longer : (base : Rows A) (j : List (Entry A)) (c : Call A) (step : Reply A × List (Entry A)) (e : Entry A) → Outcome base j c step → step.1 ≡ j ++ e ∷ []
      → (a : Appended base j c step) × (e ≡ record { author = c.author; id = c.id; kind = a.kind })
  got_longer base j c step e (inl a) h = (a, sym (same_end j (record { author = c.author; id = c.id; kind = a.kind }) e (sym (ap (λ (p : Reply A × List (Entry A)). p.1) a.is) ∙ h)))
  got_longer base j c step e (inr l) h = absurd (longer j e (sym l.same ∙ h))
