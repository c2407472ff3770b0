-- The decision on an undo of an active entry: only its blocker refuses it, the first entry that blocks it.
use Rattle.std.proofs.Common.{◌≡◌, ◌↔◌, ◌+◌, ◌≤◌, ℕ, true, false, not, List, [], ◌∷◌, Option, Some, None, is_none, length, refl, nat_le, sym, ap, ◌∙◌, filter, option_map, is_lt}
use Rattle.room_history.specs.Prelude.{then_some, Author, Call, Entry, EntryKind, Undo, Reply, Undid, Repeat, Full, NoSuch, NotYours, NotStanding, Conflict, Name, name_cmp, Rows, first_that_holds, numbered, is_by, is_standing, standing, spent, conflict, asked, meant, undo_refusal, meaning_refusal, answer_by, answer, blocker, Past, past, Share, Blocks, IsUndoneExactlyWhere, IsUndoOfLast}
use Rattle.room_history.proofs.Growing.{Rise-standing_from}
use Rattle.room_history.proofs.Blocking.{IsFirst, nothing_blocks, first_blocks}
use Rattle.room_history.proofs.Leading.{IsLed}
use Rattle.room_history.proofs.RisingNumbers.{greatest_is_last, Rise-filter, into_filter, out_of_filter}
use Rattle.room_interface.specs.declared.call.Request.TheVariants as requests

pub only : {X : Type 0} (o : Option X) → first_that_holds (o ∷ []) ≡ o
only None = refl
only (Some x) = refl

module _ {A : Type 0} where
  -- a call whose id is unspent, in a journal that is not full
  pub unspent : (base : Rows A) (limit : ℕ) (j : List (Entry A)) (c : Call A) → spent j c.author c.id ≡ None → nat_le limit (length j) ≡ false
      → answer base limit j c ≡ answer_by j c (meaning_refusal (past base j) j c (meant j c.author c.request)) (meant j c.author c.request)
  unspent base limit j c fresh not_full =
      let k = meant j c.author c.request in
      let why = meaning_refusal (past base j) j c k in
      ap (λ o. answer_by j c (first_that_holds (option_map Repeat o ∷ then_some (nat_le limit (length j)) Full ∷ why ∷ [])) k) fresh
      ∙ ap (λ b. answer_by j c (first_that_holds (then_some b Full ∷ why ∷ [])) k) not_full
      ∙ ap (λ o. answer_by j c o k) (only why)

  there : (author : Author) (o : Option (Entry A)) → is_by author o ≡ true → is_none o ≡ false
  there author None h = absurd (cc)
  there author (Some e) h = refl

  -- an author's undo of its entry that is not active
  pub not_standing : (p : Past A) (j : List (Entry A)) (author : Author) (s : ℕ) → is_by author (numbered j s) ≡ true → is_standing j s ≡ false → undo_refusal p j author s ≡ Some NotStanding
  not_standing p j author s own fallen =
      ap (λ b. first_that_holds (then_some b NoSuch ∷ then_some (not (is_by author (numbered j s))) NotYours ∷ then_some (not (is_standing j s)) NotStanding ∷ option_map conflict (blocker p j s) ∷ [])) (there author (numbered j s) own)
      ∙ ap (λ b. first_that_holds (then_some (not b) NotYours ∷ then_some (not (is_standing j s)) NotStanding ∷ option_map conflict (blocker p j s) ∷ [])) own
      ∙ ap (λ b. first_that_holds (then_some (not b) NotStanding ∷ option_map conflict (blocker p j s) ∷ [])) fallen

  -- only its blocker refuses an author's undo of its active entry
  pub own_refusal : (p : Past A) (j : List (Entry A)) (author : Author) (s : ℕ) → is_by author (numbered j s) ≡ true → is_standing j s ≡ true → undo_refusal p j author s ≡ option_map conflict (blocker p j s)
  own_refusal p j author s own stands =
      ap (λ b. first_that_holds (then_some b NoSuch ∷ then_some (not (is_by author (numbered j s))) NotYours ∷ then_some (not (is_standing j s)) NotStanding ∷ option_map conflict (blocker p j s) ∷ [])) (there author (numbered j s) own)
      ∙ ap (λ b. first_that_holds (then_some (not b) NotYours ∷ then_some (not (is_standing j s)) NotStanding ∷ option_map conflict (blocker p j s) ∷ [])) own
      ∙ ap (λ b. first_that_holds (then_some (not b) NotStanding ∷ option_map conflict (blocker p j s) ∷ [])) stands
      ∙ only (option_map conflict (blocker p j s))

  pub is_undone_exactly_where : (base : Rows A) (limit : ℕ) (j : List (Entry A)) → IsLed base j → IsUndoneExactlyWhere base limit j
  is_undone_exactly_where base limit j led author id s fresh room own stands = by (blocker p j s) refl
    where
      p : Past A
      p = past base j

      c : Call A
      c = record { author = author; id = id; request = requests.Undo (Some s) }

      reply : Reply A
      reply = (answer base limit j c).0

      says : (o : Option (ℕ × Name)) → blocker p j s ≡ o → reply ≡ (answer_by j c (option_map conflict o) (Some (Undo s))).0
      says o e =
          ap (λ (q : Reply A × List (Entry A)). q.0) (unspent base limit j c fresh room ∙ ap (λ o. answer_by j c o (Some (Undo s))) (own_refusal p j author s own stands))
          ∙ ap (λ o. (answer_by j c (option_map conflict o) (Some (Undo s))).0) e

      not_both : (r : Reply A) (seq b : ℕ) (x : Name) → r ≡ Undid seq s → r ≡ Conflict b x → ⊥
      not_both r seq b x e f = absurd (cc (sym e ∙ f))

      by : (o : Option (ℕ × Name)) → blocker p j s ≡ o
          → ((reply ≡ Undid (length j + 1) s) ↔ ((t : ℕ) (e : Name) → Blocks base j s t e → ⊥))
          × ((t : ℕ) (e : Name) → Blocks base j s t e
          → (b : ℕ) × (x : Name) × (reply ≡ Conflict b x) × Blocks base j s b x
          × ((u : ℕ) (y : Name) → Blocks base j s u y → b ≤ u)
          × ((y : Name) → Share base j s b y → is_lt (name_cmp y x) ≡ false))
      by None e = (
        (λ _. nothing_blocks base j s stands e, λ _. says None e),
        λ t x k. absurd (nothing_blocks base j s stands e t x k),
      )
      by (Some b) e =
          let first : IsFirst base j s stands b.0 b.1 = first_blocks base j s stands led b.0 b.1 e in
          let refused : reply ≡ Conflict b.0 b.1 = says (Some b) e in (
            (λ done. absurd (not_both reply (length j + 1) b.0 b.1 done refused), λ free. absurd (free b.0 b.1 first.blocks)),
            λ t x k. (b.0, b.1, refused, first.blocks, first.none_before, first.none_less),
          )

  pub is_undo_of_last : (base : Rows A) (limit : ℕ) (j : List (Entry A)) → IsUndoOfLast base limit j
  is_undo_of_last base limit j author id s own stands low = ap (λ o. answer_by j whole (refused (option_map Undo o)) (option_map Undo o)) is_last ∙ by (refused (Some (Undo s)))
    where
      whole : Call A
      whole = record { author = author; id = id; request = requests.Undo None }

      one : Call A
      one = record { author = author; id = id; request = requests.Undo (Some s) }

      refused : Option (EntryKind A) → Option (Reply A)
      refused k = first_that_holds (option_map Repeat (spent j author id) ∷ then_some (nat_le limit (length j)) Full ∷ meaning_refusal (past base j) j whole k ∷ [])

      by : (o : Option (Reply A)) → answer_by j whole o (Some (Undo s)) ≡ answer_by j one o (Some (Undo s))
      by None = refl
      by (Some r) = refl

      is_last : asked j author None ≡ Some s
      is_last = greatest_is_last s 1 (filter (λ t. is_by author (numbered j t)) (standing j)) (1 + length j)
          (Rise-filter (λ t. is_by author (numbered j t)) 1 (standing j) (1 + length j) (Rise-standing_from 1 j))
          (into_filter (λ t. is_by author (numbered j t)) s (standing j) own stands)
          (λ t h. let o = out_of_filter (λ t. is_by author (numbered j t)) t (standing j) h in low t o.0 o.1)
