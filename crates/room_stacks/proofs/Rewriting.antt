-- The stacks after those of one author are replaced.
use Rattle.std.proofs.Common.{◌≡◌, Bool, true, false, cond, ℕ, zero, suc, List, [], ◌∷◌, map, slice_get, Option, Some, refl, sym, ap, ◌∙◌, option_map}
use Rattle.indexmap.specs.IndexMap.{IndexMap, with_value_at}
use Rattle.indexmap.proofs.CallerLemmas.{updates-with_value_at}
use Rattle.indexmap.proofs.MapLemmas.{Found-position, index-first}
use Rattle.indexmap.proofs.RemoveLemmas.{own_first}
use Rattle.room_stacks.specs.Prelude.{nat_list_eq_equiv, IsDistinct, Author, is_same_author, one_author}
use Rattle.room_stacks.specs.Inner.Lists.{Usable, Lists, author_at, authors_of, usable_at, standing_of, redo_of, has_room_of, standing_at, redo_at, has_room_at, SameStacks, KeepsRooms, IsRewritten}

pair_at : (lists : Lists) (n : ℕ) (u : Usable) → slice_get (map (λ e. e.1) lists) n ≡ Some u → slice_get lists n ≡ Some (author_at (authors_of lists) n, u)
pair_at [] n u e = absurd (cc)
pair_at (e ∷ es) zero u h = ap (option_map (λ v. (e.0, v))) h
pair_at (e ∷ es) (suc n) u h = pair_at es n u h

turned : (q author : Author) → is_same_author author q ≡ is_same_author q author
turned q author = nat_list_eq_equiv.symm author q

module _ (before after : Lists) (author : Author) (w : Usable) (at : (q : Author) → usable_at after q ≡ cond (is_same_author author q) (Some w) (usable_at before q)) where
  now : (q : Author) → usable_at after q ≡ cond (is_same_author q author) (Some w) (usable_at before q)
  now q = at q ∙ ap (λ b. cond b (Some w) (usable_at before q)) (turned q author)

  -- the value of f at each author's stacks
  module _ {X : Type 0} (f : Option Usable → X) where
    read : (q : Author) → f (usable_at after q) ≡ cond (is_same_author q author) (f (Some w)) (f (usable_at before q))
    read q = ap f (now q) ∙ by (is_same_author q author)
      where
        by : (b : Bool) → f (cond b (Some w) (usable_at before q)) ≡ cond b (f (Some w)) (f (usable_at before q))
        by true = refl
        by false = refl

    kept : f (Some w) ≡ f (usable_at before author) → (q : Author) → f (usable_at after q) ≡ f (usable_at before q)
    kept e q = read q ∙ by (is_same_author q author) refl
      where
        by : (b : Bool) → is_same_author q author ≡ b → cond b (f (Some w)) (f (usable_at before q)) ≡ f (usable_at before q)
        by true same = e ∙ ap (λ (a : Author). f (usable_at before a)) (sym (one_author q author same))
        by false same = refl

  rewritten : (standing redo : List ℕ) → w.standing ≡ standing → w.redo ≡ redo → IsRewritten before after author standing redo
  rewritten standing redo s r = record {
    standing_is = λ q. read standing_of q ∙ ap (λ ns. cond (is_same_author q author) ns (standing_at before q)) s;
    redo_is = λ q. read redo_of q ∙ ap (λ ns. cond (is_same_author q author) ns (redo_at before q)) r;
  }

  same_stacks : w.standing ≡ standing_at before author → w.redo ≡ redo_at before author → SameStacks before after
  same_stacks s r = record { standing = kept standing_of s; redo = kept redo_of r }

  keeps_rooms : (has_room_at before author ≡ true → w.has_room ≡ true) → KeepsRooms before after
  keeps_rooms stays q had = read has_room_of q ∙ by (is_same_author q author) refl
    where
      by : (b : Bool) → is_same_author q author ≡ b → cond b w.has_room (has_room_at before q) ≡ true
      by true same = stays (ap (λ (a : Author). has_room_at before a) (sym (one_author q author same)) ∙ had)
      by false same = had

  room_after : w.has_room ≡ true → has_room_at after author ≡ true
  room_after is = read has_room_of author ∙ ap (λ b. cond b w.has_room (has_room_at before author)) (nat_list_eq_equiv.refl author) ∙ is

-- the stacks u at the number n are replaced by w
module _ {S : Type 0} (m : IndexMap Author Usable S) (distinct : IsDistinct is_same_author (authors_of m.entries)) (n : ℕ) (u w : Usable) (at : Some u ≡ slice_get (map (λ e. e.1) m.entries) n) where
  abbrev author : Author
  author = author_at (authors_of m.entries) n

  abbrev after : Lists
  after = (with_value_at m n w).entries

  pair : slice_get m.entries n ≡ Some (author, u)
  pair = pair_at m.entries n u (sym at)

  found : usable_at m.entries author ≡ Some u
  found =
      let first = index-first (is_same_author author) m.entries n (own_first is_same_author nat_list_eq_equiv m.entries n author u distinct pair) in
      (Found-position (is_same_author author) m.entries n first).value ∙ sym at

  written : (q : Author) → usable_at after q ≡ cond (is_same_author author q) (Some w) (usable_at m.entries q)
  written = (updates-with_value_at m n w nat_list_eq_equiv distinct author u pair).0

  pub had_room : has_room_at m.entries author ≡ true → u.has_room ≡ true
  had_room had = sym (ap has_room_of found) ∙ had

  pub standing_of_number : standing_at m.entries author ≡ u.standing
  standing_of_number = ap standing_of found

  pub rewritten_at : (standing redo : List ℕ → List ℕ) → w.standing ≡ standing u.standing → w.redo ≡ redo u.redo
      → IsRewritten m.entries after author (standing (standing_at m.entries author)) (redo (redo_at m.entries author))
  rewritten_at standing redo s r = rewritten m.entries after author w written _ _ (s ∙ ap standing (sym standing_of_number)) (r ∙ ap (λ o. redo (redo_of o)) (sym found))

  pub same_stacks_at : w.standing ≡ u.standing → w.redo ≡ u.redo → SameStacks m.entries after
  same_stacks_at s r = same_stacks m.entries after author w written (s ∙ sym standing_of_number) (r ∙ ap redo_of (sym found))

  pub keeps_rooms_at : (u.has_room ≡ true → w.has_room ≡ true) → KeepsRooms m.entries after
  keeps_rooms_at stays = keeps_rooms m.entries after author w written (λ had. stays (had_room had))

  pub has_room_after : w.has_room ≡ true → has_room_at after author ≡ true
  has_room_after = room_after m.entries after author w written
