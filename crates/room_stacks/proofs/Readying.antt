-- The collections after memory was reserved for an author.
use Rattle.std.proofs.Common.{◌≡◌, ◌≤◌, ◌<◌, ℕ, true, List, length, map, Option, Some, None, Result, Ok, Err, OnErr, refl, sym, ap, subst, ◌∙◌, arith, option_map}
use Rattle.room_stacks.specs.Prelude.{IsDistinct, Author, Deed, is_same_author, StacksState, number, standing, redo}
use Rattle.room_stacks.specs.Inner.Kept.{AreKept, IsKept, IsReady}
use Rattle.room_stacks.specs.Inner.Lists.{Lists, IsRising, author_at, authors_of, has_room_at, KeepsNumbers, KeepsRooms, SameStacks}
use Rattle.room_stacks.specs.Inner.SpentIds.{Spent, AreNumbered, deeds_of}
use Rattle.room_stacks.proofs.Numbering.{length-authors}
use Rattle.room_stacks.proofs.Spending.{deeds_kept}

pub on_err : {X E P : Type 0} (r : Result X E) → P → OnErr r P
on_err (Ok x) p = tt
on_err (Err e) p = p

module _ (ready : Option ℕ) (ids ids_after : Spent) (lists lists_after : Lists) (kept : IsKept ready ids lists) (works : ids_after.works ≡ ids.works) (room : ids.room ≤ ids_after.room)
    (numbers : KeepsNumbers (authors_of lists) (authors_of lists_after)) (distinct : IsDistinct is_same_author (authors_of lists_after))
    (same : SameStacks lists lists_after) (rooms : KeepsRooms lists lists_after) where
  pub deeds_same : deeds_of (authors_of lists_after) ids_after.works ≡ deeds_of (authors_of lists) ids.works
  deeds_same = ap (deeds_of (authors_of lists_after)) works ∙ deeds_kept (authors_of lists) (authors_of lists_after) numbers.same ids.works kept.numbered.within

  numbered : AreNumbered (authors_of lists_after) ids_after.works
  numbered = record {
    distinct = distinct;
    within = rw works (λ k d lt. let less = kept.numbered.within k d lt in let fits = numbers.fits in omega (arith, less, fits));
  }

  still_kept : AreKept (deeds_of (authors_of lists_after) ids_after.works) lists_after
  still_kept = record {
    rising = subst (λ (ds : List Deed). IsRising (map number ds)) (sym deeds_same) kept.kept.rising;
    standing_kept = λ q. same.standing q ∙ kept.kept.standing_kept q ∙ ap (λ (ds : List Deed). standing ds q) (sym deeds_same);
    redo_kept = λ q. same.redo q ∙ kept.kept.redo_kept q ∙ ap (λ (ds : List Deed). redo ds q) (sym deeds_same);
  }

  known : (n : ℕ) → n < length lists → n < length (authors_of lists)
  known n within = subst (λ k. n < k) (sym (length-authors lists)) within

  -- an author who was ready stays so
  stays_ready : (who : Option ℕ) → IsReady who ids lists → IsReady who ids_after lists_after
  stays_ready None h = tt
  stays_ready (Some n) h = (
    let fits = numbers.fits in let before = length-authors lists in let after = length-authors lists_after in let within = h.0 in omega (arith, fits, before, after, within),
    let had = h.1 in omega (arith, had, room),
    ap (λ (a : Author). has_room_at lists_after a) (numbers.same n (known n h.0)) ∙ rooms (author_at (authors_of lists) n) h.2,
  )

  pub stays : IsKept ready ids_after lists_after
  stays = record { numbered = numbered; kept = still_kept; room = stays_ready ready kept.room }

  same_ready : (who : Option ℕ) → IsReady who ids lists → option_map (author_at (authors_of lists_after)) who ≡ option_map (author_at (authors_of lists)) who
  same_ready None h = refl
  same_ready (Some n) h = ap Some (numbers.same n (known n h.0))

  abbrev seen : List Deed → Option Author → StacksState
  seen deeds who = record { deeds = deeds; ready = who }

  pub stays_seen : seen (deeds_of (authors_of lists_after) ids_after.works) (option_map (author_at (authors_of lists_after)) ready) ≡ seen (deeds_of (authors_of lists) ids.works) (option_map (author_at (authors_of lists)) ready)
  stays_seen = λ i. seen (deeds_same i) (same_ready ready kept.room i)

  -- the author with the number n is ready
  module _ (n : ℕ) (author : Author) (own : (n < length lists_after) × (author_at (authors_of lists_after) n ≡ author)) (has : 0 < ids_after.room) (reserved : has_room_at lists_after author ≡ true) where
    pub readied : IsKept (Some n) ids_after lists_after
    readied = record { numbered = numbered; kept = still_kept; room = (own.0, has, ap (λ (a : Author). has_room_at lists_after a) own.1 ∙ reserved) }

    pub readied_seen : seen (deeds_of (authors_of lists_after) ids_after.works) (Some (author_at (authors_of lists_after) n)) ≡ seen (deeds_of (authors_of lists) ids.works) (Some author)
    readied_seen = λ i. seen (deeds_same i) (Some (own.1 i))
