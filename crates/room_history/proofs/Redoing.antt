-- A redo of an undo restores the room before the undo.
use Rattle.std.proofs.Common.{◌≡◌, ◌+◌, ◌++◌, ◌-◌, ℕ, Bool, true, false, List, [], ◌∷◌, Some, None, length, take, refl, cond, nat_le, sym, ap, subst, ◌∙◌, arith, length-append, option_map}
use Rattle.room_history.specs.Prelude.{AreInOrder, Rows, users, is_sound, sound_in_order, after, refusal, Author, is_same_author, Call, Entry, Undo, Redo, Reply, Undid, Redid, Refused, spent, meant, redo_refusal, kind_refusal, guarded_refusal, seen, meaning_refusal, with_entry, answer_by, answer, answers, IsRedoneAtOnce, standing, others, last, redos, redos_after, past, mapof, action_at}
use Rattle.room_interface.specs.declared.edit.Edit.{Edit as Action}
use Rattle.room_history.proofs.Appending.{mapof-redo, redos-append, standing-redo, standing-undo}
use Rattle.room_history.proofs.AtOnce.{same_author}
use Rattle.room_history.proofs.Deciding.{unspent}
use Rattle.room_history.proofs.Keeping.{undone_by}
use Rattle.room_history.proofs.LastItems.{last-append, all_but_last}
use Rattle.room_history.proofs.Leading.{IsLed, led_sound}
use Rattle.room_history.proofs.Outcomes.{outcome, got_longer}
use Rattle.room_history.proofs.Redoable.{action_stays}
use Rattle.room_history.proofs.RestLeft.{undoes}
use Rattle.room_history.proofs.TakingBack.{Undone}
use Rattle.room_interface.specs.declared.call.Request.TheVariants as requests

module _ {A : Type 0} (base : Rows A) (limit : ℕ) where
  -- a redo that is accepted
  pub redo_answered : (j : List (Entry A)) (c : Call A) (t : ℕ) (a : Action A) → spent j c.author c.id ≡ None → nat_le limit (length j) ≡ false → c.request ≡ requests.Redo → last (redos j c.author) ≡ Some t
      → action_at (past base j) t ≡ Some a → refusal (mapof base j) a ≡ None → answer base limit j c ≡ (Redid (length j + 1) t, with_entry j c.author c.id (Redo t))
  redo_answered j c t a fresh room asks top acts ok =
      unspent base limit j c fresh room ∙ ap (λ o. answer_by j c (meaning_refusal (past base j) j c o) o) (ap (meant j c.author) asks ∙ ap (option_map Redo) top)
      ∙ ap (λ r. answer_by j c (guarded_refusal (past base j) j c.author (Redo t) (seen r)) (Some (Redo t))) asks
      ∙ ap (λ o. answer_by j c o (Some (Redo t))) (ap (redo_refusal (mapof base j)) acts ∙ ap (option_map Refused) ok)

  -- the same map as another journal's, and the same redo stacks
  pub record IsBack (j k : List (Entry A)) : Type 0 where
    pub same_map : mapof base k ≡ mapof base j
    pub same_redos : (author : Author) → redos k author ≡ redos j author

  -- the redo pops what the undo pushed
  pushed_and_taken : (j : List (Entry A)) (u : Entry A) (s : ℕ) (k : List (Entry A)) (e : Entry A) (t : ℕ) → u.kind ≡ Undo s → e.kind ≡ Redo t → e.author ≡ u.author
      → ((author : Author) → redos k author ≡ redos (j ++ u ∷ []) author) → (author : Author) → redos (k ++ e ∷ []) author ≡ redos j author
  pushed_and_taken j u s k e t undo redo same before author =
      redos-append k e author ∙ ap (λ w. cond (is_same_author author w) (redos_after (redos k author) e.kind) (redos k author)) same
      ∙ ap (λ kind. cond (is_same_author author u.author) (redos_after (redos k author) kind) (redos k author)) redo
      ∙ ap (λ stack. cond (is_same_author author u.author) (take (length stack - 1) stack) stack) (before author ∙ redos-append j u author ∙ ap (λ kind. cond (is_same_author author u.author) (redos_after (redos j author) kind) (redos j author)) undo)
      ∙ by (is_same_author author u.author)
    where
      now : Bool → List ℕ
      now b = cond b (redos j author ++ s ∷ []) (redos j author)

      by : (b : Bool) → cond b (take (length (now b) - 1) (now b)) (now b) ≡ redos j author
      by true = all_but_last (redos j author) s
      by false = refl

  -- a redo of the undo u of s, in a later journal with the same map and the same redo stacks
  module _ (sound : is_sound base ≡ true) (j : List (Entry A)) (u : Entry A) (s : ℕ) (kind_is : u.kind ≡ Undo s) (un : Undone base j s u) (k : List (Entry A)) (back : IsBack (j ++ u ∷ []) k) where
    abbrev again : Call A → Entry A
    again c = record { author = c.author; id = c.id; kind = Redo s }

    top : (author : Author) → author ≡ u.author → last (redos k author) ≡ Some s
    top author mine =
        ap last (back.same_redos author ∙ redos-append j u author ∙ ap (λ b. cond b (redos_after (redos j author) u.kind) (redos j author)) (ap (is_same_author author) (sym mine) ∙ same_author author) ∙ ap (redos_after (redos j author)) kind_is)
        ∙ last-append (redos j author) s

    pub redone : (c : Call A) → c.author ≡ u.author → c.request ≡ requests.Redo → spent k c.author c.id ≡ None → nat_le limit (length k) ≡ false → action_at (past base k) s ≡ Some un.action
        → (answer base limit k c ≡ (Redid (length k + 1) s, with_entry k c.author c.id (Redo s))) × IsBack j (with_entry k c.author c.id (Redo s))
    redone c mine asks fresh room acts = (
      redo_answered k c s un.action fresh room asks (top c.author mine) acts (ap (λ m. refusal m un.action) back.same_map ∙ un.accepted),
      record {
        same_map = mapof-redo base k (again c) s un.action order refl acts ∙ ap (λ m. after m un.action) back.same_map ∙ un.before;
        same_redos = pushed_and_taken j u s k (again c) s kind_is refl mine back.same_redos;
      },
    )
      where
        order : AreInOrder (mapof base k)
        order = subst AreInOrder (sym back.same_map) (sound_in_order (mapof base (j ++ u ∷ [])) (led_sound base (j ++ u ∷ []) sound un.led))

  -- an accepted undo: its entry and its effect
  pub record Undoes (j : List (Entry A)) (c : Call A) (s : ℕ) (u : Entry A) : Type 0 where
    pub is : u ≡ record { author = c.author; id = c.id; kind = Undo s }
    pub did : Undone base j s u

  pub undo_found : is_sound base ≡ true → (j : List (Entry A)) → IsLed base j → (c : Call A) (n s : ℕ) (u : Entry A) → answer base limit j c ≡ (Undid n s, j ++ u ∷ []) → Undoes j c s u
  undo_found sound j led c n s u h =
      let got = got_longer base j c (answer base limit j c) u (outcome base limit j c) (ap (λ (p : Reply A × List (Entry A)). p.1) h) in
      let kind_is : got.0.kind ≡ Undo s = undoes got.0.kind (length j + 1) n s (ap (λ (p : Reply A × List (Entry A)). p.0) (sym got.0.is ∙ h)) in
      let is : u ≡ record { author = c.author; id = c.id; kind = Undo s } = got.1 ∙ ap (λ k. record { author = c.author; id = c.id; kind = k }) kind_is in
      let passes : kind_refusal (past base j) j u.author (Undo s) ≡ None = ap (λ (w : Entry A). kind_refusal (past base j) j w.author (Undo s)) is ∙ ap (kind_refusal (past base j) j c.author) (sym kind_is) ∙ got.0.passes in
      record { is = is; did = undone_by base sound j led u s (ap (λ (w : Entry A). w.kind) is) passes }

  pub is_redone_at_once : is_sound base ≡ true → (j : List (Entry A)) → IsLed base j → IsRedoneAtOnce base limit j
  is_redone_at_once sound j led undo s u between c h kept mine asks fresh room = (
    ap (λ (p : Reply A × List (Entry A)). p.0) step_is,
    same_map,
    λ x. ap (λ m. users m x) same_map,
    ap (λ (p : Reply A × List (Entry A)). standing p.1) step_is ∙ standing-redo k again s refl ∙ ap (λ ss. ss ++ (1 + length k) ∷ []) (standing-undo j u s kind_is) ∙ ap (λ n. others j s ++ n ∷ []) (omega (arith, size)),
    λ author. ap (λ (p : Reply A × List (Entry A)). redos p.1 author) step_is ∙ redo.1.same_redos author,
  )
    where
      k : List (Entry A)
      k = j ++ u ∷ []

      again : Entry A
      again = record { author = c.author; id = c.id; kind = Redo s }

      found : Undoes j undo s u
      found = undo_found sound j led undo (length j + 1) s u h

      kind_is : u.kind ≡ Undo s
      kind_is = ap (λ (w : Entry A). w.kind) found.is

      size : length k ≡ length j + 1
      size = length-append j (u ∷ [])

      redo : (answer base limit k c ≡ (Redid (length k + 1) s, with_entry k c.author c.id (Redo s))) × IsBack j (with_entry k c.author c.id (Redo s))
      redo = redone sound j u s kind_is found.did k (record { same_map = refl; same_redos = λ author. refl }) c (mine ∙ ap (λ (w : Entry A). w.author) (sym found.is)) asks fresh room
          (action_stays base j u s found.did.action found.did.acts)

      step_is : answer base limit (answers base limit k between).1 c ≡ (Redid (length j + 2) s, k ++ again ∷ [])
      step_is = ap (λ l. answer base limit l c) kept ∙ redo.0 ∙ ap (λ n. (Redid n s, k ++ again ∷ [])) (omega (arith, size))

      same_map : mapof base (answer base limit (answers base limit k between).1 c).1 ≡ mapof base j
      same_map = ap (λ (p : Reply A × List (Entry A)). mapof base p.1) step_is ∙ redo.1.same_map
