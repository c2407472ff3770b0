-- One more deed in the collections of the code.
use Rattle.std.proofs.Common.{◌≡◌, ◌<◌, Bool, true, false, cond, ℕ, List, [], ◌∷◌, ◌++◌, map, length, Option, Some, None, unwrap_or, refl, sym, ap, subst, ◌∙◌, option_map}
use Rattle.std.proofs.lemmas.List.{map-append}
use Rattle.room_stacks.specs.Prelude.{lookup, Author, Deed, Undid, is_same_author, doer, number, is_work, undoes, IsAboveAll, spent, standing, is_standing, redo, redo_after, works, Work, one_author, IsRising-push, IsRising-filter, IsRising-passing, below_numbers, is_work_of, stands, standing-work, standing-undid, redo-push, none_of_another}
use Rattle.room_stacks.specs.Inner.Lists.{Lists, IsRising, without, author_at, authors_of, has_room_at, standing_at, redo_at, IsRewritten}
use Rattle.room_stacks.specs.Inner.SpentIds.{Spent, AreNumbered, deed_of, deeds_of, is_key}
use Rattle.room_stacks.specs.Inner.Kept.{AreKept, IsKept, IsReady}
use Rattle.room_stacks.proofs.Numbering.{length-authors}
use Rattle.room_stacks.proofs.Spending.{deeds_more, numbered_more, unspent}

-- an author's active entries rise
pub standing_rises : (ds : List Deed) (q : Author) → IsRising (map number ds) → IsRising (standing ds q)
standing_rises ds q h = IsRising-filter (stands ds) (works ds q) (IsRising-passing (is_work_of q) ds h)

pub rises_more : (ds after : List Deed) (d : Deed) → after ≡ ds ++ d ∷ [] → IsRising (map number ds) → IsAboveAll (number d) ds → IsRising (map number after)
rises_more ds after d is h last =
    subst IsRising (sym (ap (map number) is ∙ map-append number ds (d ∷ []))) (IsRising-push (map number ds) (number d) h (below_numbers (number d) ds last))

module _ (deeds after : List Deed) (lists lists_after : Lists) (kept : AreKept deeds lists) where
  -- each author's redo stack after one more deed
  redo_more : (d : Deed) (stand : List ℕ) → after ≡ deeds ++ d ∷ [] → IsRewritten lists lists_after (doer d) stand (redo_after (redo_at lists (doer d)) d)
      → (q : Author) → redo_at lists_after q ≡ redo after q
  redo_more d stand is written q =
      written.redo_is q
      ∙ ap (λ ns. cond (is_same_author q (doer d)) (redo_after (redo_at lists (doer d)) d) ns) (kept.redo_kept q)
      ∙ by (is_same_author q (doer d)) refl
      ∙ sym (redo-push deeds q d)
      ∙ ap (λ (ds : List Deed). redo ds q) (sym is)
    where
      by : (b : Bool) → is_same_author q (doer d) ≡ b → cond b (redo_after (redo_at lists (doer d)) d) (redo deeds q) ≡ cond b (redo_after (redo deeds q) d) (redo deeds q)
      by true same = ap (λ ns. redo_after ns d) (kept.redo_kept (doer d) ∙ ap (λ (a : Author). redo deeds a) (sym (one_author q (doer d) same)))
      by false same = refl

  -- a deed that did an action, for the first time or again
  pub kept_work : (d : Deed) → is_work d ≡ true → ((s : ℕ) → undoes s d ≡ false) → IsAboveAll (number d) deeds → after ≡ deeds ++ d ∷ []
      → IsRewritten lists lists_after (doer d) (standing_at lists (doer d) ++ number d ∷ []) (redo_after (redo_at lists (doer d)) d) → AreKept after lists_after
  kept_work d work none last is written = record {
    rising = rises_more deeds after d is kept.rising last;
    standing_kept = λ q.
        written.standing_is q
        ∙ ap (λ ns. cond (is_same_author q (doer d)) (standing_at lists (doer d) ++ number d ∷ []) ns) (kept.standing_kept q)
        ∙ stand q (is_same_author q (doer d)) refl
        ∙ sym (standing-work deeds q d work none last)
        ∙ ap (λ (ds : List Deed). standing ds q) (sym is);
    redo_kept = redo_more d (standing_at lists (doer d) ++ number d ∷ []) is written;
  }
    where
      stand : (q : Author) (b : Bool) → is_same_author q (doer d) ≡ b
          → cond b (standing_at lists (doer d) ++ number d ∷ []) (standing deeds q) ≡ cond b (standing deeds q ++ number d ∷ []) (standing deeds q)
      stand q true same = ap (λ ns. ns ++ number d ∷ []) (kept.standing_kept (doer d) ∙ ap (λ (a : Author). standing deeds a) (sym (one_author q (doer d) same)))
      stand q false same = refl

  pub kept_undid : (author : Author) (id of seq : ℕ) → IsAboveAll seq deeds → is_standing deeds author of ≡ true → after ≡ deeds ++ Undid author id of seq ∷ []
      → IsRewritten lists lists_after author (without of (standing_at lists author)) (redo_at lists author ++ of ∷ []) → AreKept after lists_after
  kept_undid author id of seq last stood is written = record {
    rising = rises_more deeds after (Undid author id of seq) is kept.rising last;
    standing_kept = λ q.
        written.standing_is q
        ∙ ap (λ ns. cond (is_same_author q author) (without of (standing_at lists author)) ns) (kept.standing_kept q)
        ∙ stand q (is_same_author q author) refl
        ∙ sym (standing-undid deeds q author id of seq last)
        ∙ ap (λ (ds : List Deed). standing ds q) (sym is);
    redo_kept = redo_more (Undid author id of seq) (without of (standing_at lists author)) is written;
  }
    where
      stand : (q : Author) (b : Bool) → is_same_author q author ≡ b → cond b (without of (standing_at lists author)) (standing deeds q) ≡ without of (standing deeds q)
      stand q true same = ap (without of) (kept.standing_kept author ∙ ap (λ (a : Author). standing deeds a) (sym (one_author q author same)))
      stand q false other = sym (none_of_another deeds q author other kept.rising of stood)

-- the author who is ready, and its number
module _ (ready : Option ℕ) (ids : Spent) (lists : Lists) (kept : IsKept ready ids lists) (n : ℕ) (is : ready ≡ Some n)
    (author : Author) (who : option_map (author_at (authors_of lists)) ready ≡ Some author) where
  reserved : IsReady (Some n) ids lists
  reserved = subst (λ r. IsReady r ids lists) is kept.room

  pub known : n < length lists
  known = reserved.0

  pub spare : 0 < ids.room
  spare = reserved.1

  pub has_room : has_room_at lists (author_at (authors_of lists) n) ≡ true
  has_room = reserved.2

  within : n < length (authors_of lists)
  within = subst (λ k. n < k) (sym (length-authors lists)) known

  own : author_at (authors_of lists) n ≡ author
  own = ap (λ (o : Option Author). unwrap_or o []) (ap (option_map (author_at (authors_of lists))) (sym is) ∙ who)

  abbrev deeds : List Deed
  deeds = deeds_of (authors_of lists) ids.works

  pub is_no_key : (id : ℕ) → spent deeds author id ≡ None → lookup (is_key n id) ids.works ≡ None
  is_no_key id free = unspent (authors_of lists) author id n within own ids.works kept.numbered free

  pub standing_at_rises : IsRising (standing_at lists (author_at (authors_of lists) n))
  standing_at_rises = subst IsRising (sym (kept.kept.standing_kept (author_at (authors_of lists) n))) (standing_rises deeds (author_at (authors_of lists) n) kept.kept.rising)

  -- one more deed of this author
  module _ (ids_after : Spent) (lists_after : Lists) (id : ℕ) (w : Work) (put : ids_after.works ≡ ids.works ++ (record { id = id; author = n }, w) ∷ []) (same : authors_of lists_after ≡ authors_of lists) where
    abbrev after : List Deed
    after = deeds_of (authors_of lists_after) ids_after.works

    numbered_after : AreNumbered (authors_of lists_after) ids_after.works
    numbered_after = rw (same, put) (numbered_more (authors_of lists) id n w ids.works within kept.numbered)

    deeds_after : after ≡ deeds ++ deed_of author id w ∷ []
    deeds_after = rw (same, put) (deeds_more (authors_of lists) id n w ids.works within kept.numbered author own)

    pub entered_work : (d : Deed) → deed_of author id w ≡ d → is_work d ≡ true → ((s : ℕ) → undoes s d ≡ false) → IsAboveAll (number d) deeds → author ≡ doer d
        → IsRewritten lists lists_after (author_at (authors_of lists) n) (standing_at lists (author_at (authors_of lists) n) ++ number d ∷ []) (redo_after (redo_at lists (author_at (authors_of lists) n)) d)
        → IsKept None ids_after lists_after
    entered_work d made work none last doing written = record {
      numbered = numbered_after;
      kept = kept_work deeds after lists lists_after kept.kept d work none last (deeds_after ∙ ap (λ (e : Deed). deeds ++ e ∷ []) made)
          (subst (λ (a : Author). IsRewritten lists lists_after a (standing_at lists a ++ number d ∷ []) (redo_after (redo_at lists a) d)) (own ∙ doing) written);
      room = tt;
    }

    pub entered_undo : (of seq : ℕ) → deed_of author id w ≡ Undid author id of seq → IsAboveAll seq deeds → is_standing deeds author of ≡ true
        → IsRewritten lists lists_after (author_at (authors_of lists) n) (without of (standing_at lists (author_at (authors_of lists) n))) (redo_at lists (author_at (authors_of lists) n) ++ of ∷ [])
        → IsKept None ids_after lists_after
    entered_undo of seq made last stood written = record {
      numbered = numbered_after;
      kept = kept_undid deeds after lists lists_after kept.kept author id of seq last stood (deeds_after ∙ ap (λ (e : Deed). deeds ++ e ∷ []) made)
          (subst (λ (a : Author). IsRewritten lists lists_after a (without of (standing_at lists a)) (redo_at lists a ++ of ∷ [])) own written);
      room = tt;
    }
