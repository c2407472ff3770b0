-- The numbers of authors.
use Rattle.std.proofs.Common.{◌≡◌, ◌<◌, ◌+◌, ◌++◌, false, ℕ, List, [], ◌∷◌, length, Option, Some, None, is_some, refl, sym, ap, ◌∙◌, arith, position}
use Rattle.std.proofs.lemmas.List.{get_or_append_left, get_or_push, length-append, length-map, map-append}
use Rattle.std.proofs.lemmas.List.Quantifiers.{position-Some}
use Rattle.indexmap.specs.IndexMap.{IndexMap, get, insert_entry, insert_index}
use Rattle.indexmap.proofs.CallerLemmas.{insert_entry-new}
use Rattle.indexmap.proofs.MapLemmas.{absent_from_lookup, or_len-absent}
use Rattle.room_stacks.specs.Prelude.{Author, is_same_author, one_author}
use Rattle.room_stacks.specs.Inner.Lists.{Usable, Lists, author_at, authors_of, KeepsNumbers}

pub length-authors : (lists : Lists) → length (authors_of lists) ≡ length lists
length-authors lists = length-map lists (λ e. e.0)

-- the number found for an author is its own
pub own_number : (authors : List Author) (author : Author) (n : ℕ) → position (is_same_author author) authors ≡ Some n → (n < length authors) × (author_at authors n ≡ author)
own_number authors author n found =
    let at = position-Some (is_same_author author) authors n [] found in
    (at.0, sym (one_author author (author_at authors n) at.1))

-- an author that is not known
module _ {S : Type 0} (m : IndexMap Author Usable S) (author : Author) (w : Usable) (unmet : is_some (get is_same_author m author) ≡ false) where
  none : (o : Option Usable) → is_some o ≡ false → o ≡ None
  none None h = refl
  none (Some u) h = absurd (cc)

  absent : get is_same_author m author ≡ None
  absent = none (get is_same_author m author) unmet

  -- it goes last
  goes_last : authors_of (insert_entry is_same_author m.entries author w) ≡ authors_of m.entries ++ author ∷ []
  goes_last = ap authors_of (insert_entry-new is_same_author m author w absent) ∙ map-append (λ e. e.0) m.entries ((author, w) ∷ [])

  pub keeps_numbers : KeepsNumbers (authors_of m.entries) (authors_of (insert_entry is_same_author m.entries author w))
  keeps_numbers = record {
    fits =
        let long : length (authors_of (insert_entry is_same_author m.entries author w)) ≡ length (authors_of m.entries) + 1 = ap length goes_last ∙ length-append (authors_of m.entries) (author ∷ []) in
        omega (arith, long);
    same = λ n within. ap (λ (all : List Author). author_at all n) goes_last ∙ get_or_append_left (authors_of m.entries) (author ∷ []) [] n within;
  }

  pub new_number : author_at (authors_of (insert_entry is_same_author m.entries author w)) (insert_index is_same_author m author) ≡ author
  new_number =
      let last : length (authors_of m.entries) ≡ insert_index is_same_author m author =
      length-authors m.entries ∙ sym (or_len-absent (is_same_author author) m.entries (absent_from_lookup (is_same_author author) m.entries absent)) in
      ap (λ (all : List Author). author_at all (insert_index is_same_author m author)) goes_last
      ∙ get_or_push (authors_of m.entries) author [] (insert_index is_same_author m author) last
