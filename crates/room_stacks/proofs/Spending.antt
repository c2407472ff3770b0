-- The deed that spent an id is found by its author's number and the id.
use Rattle.std.proofs.Common.{◌≡◌, ◌≢◌, ◌<◌, ◌≤◌, ◌&&◌, Bool, true, false, cond, ℕ, List, [], ◌∷◌, ◌++◌, length, Option, Some, None, refl, nat_eq, nat_lt, sym, ap, ◌∙◌, arith, position, find, All, option_map}
use Rattle.std.proofs.lemmas.Bool.Decides.{nat_tests}
use Rattle.std.proofs.lemmas.List.{map-append}
use Rattle.std.proofs.lemmas.List.Elements.{All-head, All-tail, All-push}
use Rattle.std.proofs.lemmas.Grind.{common_steps}
use Rattle.std.proofs.lemmas.List.Sums.{fails_before_first}
use Rattle.std.proofs.lemmas.Map.Made.{AllPairs-from_IsDistinct}
use Rattle.room_stacks.specs.Prelude.{bytes_decides, nat_list_eq_equiv, IsDistinct, position_or_len, lookup, Author, Deed, Spending, Work, is_same_author, number, spends, spent, and_false, one_author}
use Rattle.room_stacks.specs.declared.spent_ids.Work.TheVariants.{Did, Undid, Redid}
use Rattle.room_stacks.specs.Inner.Lists.{author_at}
use Rattle.room_stacks.specs.Inner.SpentIds.{AreNumbered, deed_of, deed_at, deeds_of, is_key, work_number}

-- each author number is an index of the list
abbrev pub AreWithin : List Author → List (Spending × Work) → Type 0
AreWithin authors es = All (λ e. e.0.author < length authors) es

apart : (n k : ℕ) → n ≢ k → nat_lt n k ≡ false → k < n
apart n k differ e = grind (arith, nat_tests)

below : (n k : ℕ) → nat_lt n k ≡ true → n < k
below n k e = grind (arith, nat_tests)

equal : (n k : ℕ) → nat_eq n k ≡ true → n ≡ k
equal n k e = grind (arith, nat_tests)

unequal : (n k : ℕ) → nat_eq n k ≡ false → n ≢ k
unequal n k e = grind (arith, nat_tests)

module _ (authors : List Author) where
  -- two numbers belong to two authors
  two_authors : IsDistinct is_same_author authors → (n k : ℕ) → n < length authors → k < length authors → n ≢ k → author_at authors n ≢ author_at authors k
  two_authors distinct n k first second differ = by (nat_lt n k) refl
    where
      pairs : (i j : ℕ) → i < j → j < length authors → author_at authors i ≢ author_at authors j
      pairs i j = AllPairs-from_IsDistinct {eq = is_same_author} bytes_decides authors distinct i j []

      by : (b : Bool) → nat_lt n k ≡ b → author_at authors n ≢ author_at authors k
      by true e = pairs n k (below n k e) second
      by false e = λ same. pairs k n (apart n k differ e) first (sym same)

  module _ (author : Author) where
    -- no other number is the author's
    same_number : IsDistinct is_same_author authors → (n : ℕ) → n < length authors → author_at authors n ≡ author → (k : ℕ) → k < length authors → nat_eq n k ≡ is_same_author author (author_at authors k)
    same_number distinct n place own k within = by (nat_eq n k) (is_same_author author (author_at authors k)) refl refl
      where
        by : (b c : Bool) → nat_eq n k ≡ b → is_same_author author (author_at authors k) ≡ c → b ≡ c
        by true true e f = refl
        by false false e f = refl
        by true false e f =
            let same : is_same_author author author ≡ true = nat_list_eq_equiv.refl author in
            let there : author ≡ author_at authors k = sym own ∙ ap (author_at authors) (equal n k e) in
            let other : is_same_author author author ≡ false = ap (is_same_author author) there ∙ f in
            absurd (cc)
        by false true e f = absurd (two_authors distinct n k place within (unequal n k e) (own ∙ one_author author (author_at authors k) f))

    -- an unknown author has no number
    no_number : position (is_same_author author) authors ≡ None → (k : ℕ) → k < length authors → is_same_author author (author_at authors k) ≡ false
    no_number unmet k within =
        let past : length authors ≤ position_or_len (is_same_author author) authors = grind (arith, common_steps) in
        fails_before_first (is_same_author author) authors k [] (omega arith)

    module _ (id : ℕ) where
      either : (b c : Bool) (w : Work) (d : Deed) (r : Option Work) (s : Option Deed) → b ≡ c → work_number w ≡ number d → option_map work_number r ≡ option_map number s
          → option_map work_number (cond b (Some w) r) ≡ option_map number (cond c (Some d) s)
      either true true w d r s same first rest = ap Some first
      either false false w d r s same first rest = rest
      either true false w d r s same first rest = absurd (cc)
      either false true w d r s same first rest = absurd (cc)

      one_number : (w : Work) (a : Author) (i : ℕ) → work_number w ≡ number (deed_of a i w)
      one_number (Did seq) a i = refl
      one_number (Undid of seq) a i = refl
      one_number (Redid of seq) a i = refl

      one_spends : (a : Author) (i : ℕ) (w : Work) → spends author id (deed_of a i w) ≡ (nat_eq id i && is_same_author author a)
      one_spends a i (Did seq) = refl
      one_spends a i (Undid of seq) = refl
      one_spends a i (Redid of seq) = refl

      -- the look-up finds the entry that `spent` defines
      pub spent-lookup : (n : ℕ) → n < length authors → author_at authors n ≡ author
          → (es : List (Spending × Work)) → AreNumbered authors es → option_map work_number (lookup (is_key n id) es) ≡ spent (deeds_of authors es) author id
      spent-lookup n place own [] numbered = refl
      spent-lookup n place own ((k, w) ∷ es) numbered =
          let here : k.author < length authors = All-head (λ e. e.0.author < length authors) (k, w) es numbered.within in
          let rest : AreNumbered authors es = record { distinct = numbered.distinct; within = All-tail (λ e. e.0.author < length authors) (k, w) es numbered.within } in
          let d = deed_at authors (k, w) in
          let tests : is_key n id k ≡ spends author id d = ap (λ b. nat_eq id k.id && b) (same_number numbered.distinct n place own k.author here) ∙ sym (one_spends (author_at authors k.author) k.id w) in
          either (is_key n id k) (spends author id d) w d _ _ tests (one_number w (author_at authors k.author) k.id)
          (spent-lookup n place own es rest)

      -- an unknown author spent nothing
      pub unmet_spent : position (is_same_author author) authors ≡ None → (es : List (Spending × Work)) → AreWithin authors es → None ≡ spent (deeds_of authors es) author id
      unmet_spent unmet [] within = refl
      unmet_spent unmet ((k, w) ∷ es) within =
          let here : k.author < length authors = All-head (λ e. e.0.author < length authors) (k, w) es within in
          let d = deed_at authors (k, w) in
          let passed : spends author id d ≡ false =
          one_spends (author_at authors k.author) k.id w ∙ ap (λ b. nat_eq id k.id && b) (no_number unmet k.author here) ∙ and_false (nat_eq id k.id) in
          unmet_spent unmet es (All-tail (λ e. e.0.author < length authors) (k, w) es within)
          ∙ ap (λ b. option_map number (cond b (Some d) (find (spends author id) (deeds_of authors es)))) (sym passed)

      nothing : (r : Option Work) → option_map work_number r ≡ None → r ≡ None
      nothing None h = refl
      nothing (Some w) h = absurd (cc)

      -- an unspent id is not a key
      pub unspent : (n : ℕ) → n < length authors → author_at authors n ≡ author → (es : List (Spending × Work)) → AreNumbered authors es
          → spent (deeds_of authors es) author id ≡ None → lookup (is_key n id) es ≡ None
      unspent n place own es numbered h = nothing (lookup (is_key n id) es) (spent-lookup n place own es numbered ∙ h)

  -- authors who keep their numbers keep their deeds
  pub deeds_kept : (after : List Author) → ((n : ℕ) → n < length authors → author_at after n ≡ author_at authors n) → (es : List (Spending × Work)) → AreWithin authors es → deeds_of after es ≡ deeds_of authors es
  deeds_kept after same [] within = refl
  deeds_kept after same ((k, w) ∷ es) within =
      let here : k.author < length authors = All-head (λ e. e.0.author < length authors) (k, w) es within in
      ap (λ a. deed_of a k.id w ∷ deeds_of after es) (same k.author here)
      ∙ ap (λ ds. deed_at authors (k, w) ∷ ds) (deeds_kept after same es (All-tail (λ e. e.0.author < length authors) (k, w) es within))

  -- one more spent id of the author with the number n
  module _ (id n : ℕ) (w : Work) (es : List (Spending × Work)) (place : n < length authors) (numbered : AreNumbered authors es) where
    abbrev added : Spending × Work
    added = (record { id = id; author = n }, w)

    pub numbered_more : AreNumbered authors (es ++ added ∷ [])
    numbered_more = record {
      distinct = numbered.distinct;
      within = All-push (λ e. e.0.author < length authors) es added numbered.within place;
    }

    pub deeds_more : (author : Author) → author_at authors n ≡ author → deeds_of authors (es ++ added ∷ []) ≡ deeds_of authors es ++ deed_of author id w ∷ []
    deeds_more author own =
        map-append (deed_at authors) es (added ∷ [])
        ∙ ap (λ a. deeds_of authors es ++ deed_of a id w ∷ []) own
