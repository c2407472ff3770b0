-- The rows and the news that a room replies with are those of its journal.
use Rattle.std.proofs.Common.{◌≡◌, ◌+◌, ◌≤◌, ◌++◌, ◌-◌, ℕ, zero, suc, Bool, true, false, List, [], ◌∷◌, Option, Some, unwrap_or, Ok, slice_get, length, drop, take, refl, ◌∙◌, length-append, length-drop, sym, ap, inl, inr, arith}
use Rattle.std.proofs.lemmas.List.{length-take-le}
use Rattle.room_session.specs.Prelude.{Global, Rows, RoomReply, Entry, News, Opening, news, news_behind, mapof, IsTurn}
use Rattle.room_session.specs.Inner.LastTold.{last_told}
use Rattle.room_interface.specs.declared.ask.RoomReply.TheVariants as replies
use Rattle.room_interface.specs.declared.ask.RoomCall.TheVariants as calls

-- the last of the news of the later entries has the number of the last entry
last_behind : (base : Rows Global) (i k : List (Entry Global)) → last_told (length i) (news_behind base i k) ≡ length i + length k
last_behind base i [] = omega arith
last_behind base i (e ∷ k) =
    let longer : length (i ++ e ∷ []) ≡ length i + 1 = length-append i (e ∷ []) in
    let end : length (i ++ e ∷ []) + length k ≡ length i + length (e ∷ k) = omega (arith, longer) in
    ap (λ n. last_told n (news_behind base (i ++ e ∷ []) k)) (sym longer) ∙ last_behind base (i ++ e ∷ []) k ∙ end

-- the last news has the number of the last entry
pub last_news : (base : Rows Global) (j : List (Entry Global)) (from : ℕ) → from ≤ length j → last_told from (news base j from) ≡ length j
last_news base j from l =
    let before : length (take from j) ≡ from = length-take-le from j l in
    let behind : length (drop from j) ≡ length j - from = length-drop from j in
    let end : length (take from j) + length (drop from j) ≡ length j = omega (arith, l, before, behind) in
    ap (λ n. last_told n (news base j from)) (sym before) ∙ last_behind base (take from j) (drop from j) ∙ end

none_behind : (from : ℕ) (j : List (Entry Global)) → length j ≤ from → drop from j ≡ []
none_behind zero [] l = refl
none_behind (suc from) [] l = refl
none_behind zero (e ∷ j) l = absurd (omega (arith, l))
none_behind (suc from) (e ∷ j) l = none_behind from j (omega (arith, l))

-- there are no news if all entries count as sent
pub no_news : (base : Rows Global) (j : List (Entry Global)) (from : ℕ) → length j ≤ from → news base j from ≡ []
no_news base j from l = ap (news_behind base (take from j)) (none_behind from j l)

-- the last element of a list of news has the last number
pub last_at : (before : ℕ) (ns : List (News Global)) (n : News Global) → slice_get ns (length ns - 1) ≡ Some n → last_told before ns ≡ n.seq
last_at before [] n is = absurd (cc)
last_at before (m ∷ []) n is = ap (λ (o : Option (News Global)). (unwrap_or o m).seq) is
last_at before (m ∷ k ∷ rest) n is =
    let long : length (m ∷ k ∷ rest) - 1 ≡ suc (length (k ∷ rest) - 1) = omega arith in
    last_at m.seq (k ∷ rest) n (ap (λ i. slice_get (m ∷ k ∷ rest) i) (sym long) ∙ is)

-- the rows in a reply, or an empty value if it is another reply
abbrev rows_in : RoomReply Global → ℕ × Rows Global
rows_in (replies.Rows (Ok rows)) = rows
rows_in reply = (0, [])

abbrev has_rows : RoomReply Global → Bool
has_rows (replies.Rows (Ok rows)) = true
has_rows reply = false

abbrev news_in : RoomReply Global → List (News Global)
news_in (replies.News (Ok list)) = list
news_in reply = []

abbrev has_news : RoomReply Global → Bool
has_news (replies.News (Ok list)) = true
has_news reply = false

-- the rows are those of the journal, with its length
pub rows_taken : (opening : Opening Global) (j k : List (Entry Global)) (rows : ℕ × Rows Global) → IsTurn opening j calls.Rows (replies.Rows (Ok rows)) k → (rows ≡ (length k, mapof opening.base k)) × (k ≡ j)
rows_taken opening j k rows (made, inl is) =
    let stays : k ≡ j = ap (λ (p : RoomReply Global × List (Entry Global)). p.1) is in
    (ap (λ (p : RoomReply Global × List (Entry Global)). rows_in p.0) is ∙ ap (λ l. (length l, mapof opening.base l)) (sym stays), stays)
rows_taken opening j k rows (made, inr wants) = let differ : true ≡ false = ap has_rows wants.0 in absurd (cc)

-- the news are those of the journal
pub news_taken : (opening : Opening Global) (j k : List (Entry Global)) (from : ℕ) (list : List (News Global)) → IsTurn opening j (calls.News from) (replies.News (Ok list)) k → (list ≡ news opening.base k from) × (k ≡ j)
news_taken opening j k from list (made, inl is) =
    let stays : k ≡ j = ap (λ (p : RoomReply Global × List (Entry Global)). p.1) is in
    (ap (λ (p : RoomReply Global × List (Entry Global)). news_in p.0) is ∙ ap (λ l. news opening.base l from) (sym stays), stays)
news_taken opening j k from list (made, inr wants) = let differ : true ≡ false = ap has_news wants.0 in absurd (cc)
