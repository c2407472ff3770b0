-- The author and the message of a line.
use Rattle.std.proofs.Common.{◌≡◌, ℕ, zero, suc, ◌+◌, ◌-◌, ◌<◌, List, [], ◌∷◌, Some, None, true, ◌&&◌, Result, Ok, Err, nat_le, length, take, drop, refl, inl, inr, get_or, sym, ap, ◌∙◌, arith, add-one, option_map, IsUtf8, IsAscii}
use Rattle.std.proofs.lemmas.Bool.{ne_eqb, eq-eqb, eqb-true, and_parts, cond-true, cond-false, false_from_ne_true}
use Rattle.std.proofs.lemmas.Bool.Decides.{nat_tests}
use Rattle.std.proofs.lemmas.List.{take_rest}
use Rattle.std.proofs.lemmas.Str.{IsUtf8-from_ascii, IsUtf8-from_is_utf8, is_utf8-from_IsUtf8}
use Rattle.memchr.specs.Find.{IsFirstByte, is_byte}
use Rattle.room_program.specs.Prelude.{list_all, is_utf8, Global, author_of, is_author, is_name_character, NotJson, Incoming, id_told, GivesMessage, Bad, Rows, RoomState, Author, spells, answer_text, split_space, said, spelled, body_answer, message_answer, line_answer, line_id, opened_on, IsReply, Loss, Nothing, Answer_lost, Answer_and_id_lost, script_of}
use Rattle.room_program.specs.LineAnswers.{answered, script}
use Rattle.room_wire.specs.declared.answer.Answer.TheVariants as answers

split_space-first : (bs : List ℕ) (n : ℕ) → ((k : ℕ) → k < n → get_or bs k 0 ≡ 32 → ⊥) → n < length bs → get_or bs n 0 ≡ 32 → split_space bs ≡ Some (take n bs, drop (suc n) bs)
split_space-first [] n h lt e = absurd (omega arith)
split_space-first (b ∷ bs) zero h lt e = rw (eq-eqb b 32 e)
split_space-first (b ∷ bs) (suc n) h lt e =
    rw (ne_eqb b 32 (h 0 (omega arith))) (ap (option_map (λ p. (b ∷ p.0, p.1))) (split_space-first bs n (λ k l. h (suc k) (omega arith)) (omega arith) e))

split_space-none : (bs : List ℕ) → ((k : ℕ) → k < length bs → get_or bs k 0 ≡ 32 → ⊥) → split_space bs ≡ None
split_space-none [] h = refl
split_space-none (b ∷ bs) h = rw (ne_eqb b 32 (h 0 (omega arith))) (ap (option_map (λ p. (b ∷ p.0, p.1))) (split_space-none bs (λ k l. h (suc k) (omega arith))))

-- the result of a search for a space
space-first : (bs : List ℕ) (n : ℕ) → IsFirstByte (is_byte 32) bs (Some n) → split_space bs ≡ Some (take n bs, take (length bs - (n + 1)) (drop (n + 1) bs))
space-first bs n h =
    let e = split_space-first bs n (λ k lt e. h.0.before k (omega arith) lt (eq-eqb (get_or bs k 0) 32 e)) h.0.high (eqb-true (get_or bs n 0) 32 h.1) in
    rw take_rest (rw add-one e)

pub said-no_space : (bs : List ℕ) → IsFirstByte (is_byte 32) bs None → said bs ≡ None
said-no_space bs h = rw (split_space-none bs (λ k lt e. h k (omega arith) lt (eq-eqb (get_or bs k 0) 32 e)))

pub said-no_author : (bs : List ℕ) (n : ℕ) → IsFirstByte (is_byte 32) bs (Some n) → author_of (take n bs) ≡ None → said bs ≡ None
said-no_author bs n h e = rw (space-first bs n h) (ap (option_map (λ author. (author, take (length bs - (n + 1)) (drop (n + 1) bs)))) e)

pub said-author : (bs : List ℕ) (n : ℕ) (author : List ℕ) → IsFirstByte (is_byte 32) bs (Some n) → author_of (take n bs) ≡ Some author →
    said bs ≡ Some (author, take (length bs - (n + 1)) (drop (n + 1) bs))
said-author bs n author h e = rw (space-first bs n h) (ap (option_map (λ author. (author, take (length bs - (n + 1)) (drop (n + 1) bs)))) e)

character-ascii : (b : ℕ) → is_name_character b ≡ true → b < 128
character-ascii b h = grind (arith, nat_tests)

characters-ascii : (bs : List ℕ) → list_all is_name_character bs ≡ true → IsAscii bs
characters-ascii [] h i = omega arith
characters-ascii (b ∷ bs) h zero = character-ascii b (and_parts (is_name_character b) (list_all is_name_character bs) h).0
characters-ascii (b ∷ bs) h (suc i) = characters-ascii bs (and_parts (is_name_character b) (list_all is_name_character bs) h).1 i

-- a name is UTF-8
pub author_of-no_text : (bs : List ℕ) → ¬ IsUtf8 bs → author_of bs ≡ None
author_of-no_text bs h = cond-false (is_author bs) (Some bs) None (false_from_ne_true (is_author bs) (λ e.
    let parts = and_parts (nat_le 1 (length bs)) (nat_le (length bs) 32 && list_all is_name_character bs) e in
    let named = and_parts (nat_le (length bs) 32) (list_all is_name_character bs) parts.1 in
    h (IsUtf8-from_ascii bs (characters-ascii bs named.1))))

-- bytes that are not UTF-8 are not JSON
pub spelled-text : (bs : List ℕ) → IsUtf8 bs → spelled bs ≡ spells bs
spelled-text bs h = cond-true (is_utf8 bs) (spells bs) (Err (record { id = 0; fault = NotJson })) (is_utf8-from_IsUtf8 bs h)

pub spelled-no_text : (bs : List ℕ) → ¬ IsUtf8 bs → spelled bs ≡ Err (record { id = 0; fault = NotJson })
spelled-no_text bs h = cond-false (is_utf8 bs) (spells bs) (Err (record { id = 0; fault = NotJson })) (false_from_ne_true (is_utf8 bs) (λ e. h (IsUtf8-from_is_utf8 bs e)))

-- a line that names no author
pub answered-none : (room : RoomState Global) (line : List ℕ) → said line ≡ None → (loss : Loss) × (answered loss room line ≡ (answer_text 0 answers.BadLine, room))
unfolding answered
answered-none room line s = (Nothing, ap (line_answer room) s)

-- a reply to the message of a line
pub answered-reply : (room : RoomState Global) (line message : List ℕ) (author : Author) (text : List ℕ) (after : RoomState Global) →
    said line ≡ Some (author, message) → IsReply (message_answer room author (spelled message)) (id_told (spelled message)) room text after →
    (loss : Loss) × (answered loss room line ≡ (text, after))
unfolding answered
answered-reply room line message author text after s (inl e) = (Nothing, ap (line_answer room) s ∙ e)
answered-reply room line message author text after s (inr (inl t, a)) =
    (Answer_lost, ap (λ said. (answer_text (line_id said) answers.Memory, room)) s ∙ (ap (λ (t : List ℕ). (t, room)) (sym t) ∙ ap (λ (r : RoomState Global). (text, r)) (sym a)))
answered-reply room line message author text after s (inr (inr t, a)) =
    (Answer_and_id_lost, ap (λ (t : List ℕ). (t, room)) (sym t) ∙ ap (λ (r : RoomState Global). (text, r)) (sym a))

-- a message that was not read
pub reply-bad : (room : RoomState Global) (author : Author) (bad : Bad) (read : Result Incoming Bad) (text : List ℕ) → GivesMessage (Err bad) read →
    text ≡ answer_text bad.id (answers.Fault bad.fault) → IsReply (message_answer room author read) (id_told read) room text room
reply-bad room author bad read text (inl (m, inl i)) t = inr (inr (t ∙ (ap (λ f. answer_text bad.id (answers.Fault f)) m ∙ ap (λ i. answer_text i answers.Memory) i)), refl)
reply-bad room author bad read text (inl (m, inr i)) t = inr (inl (t ∙ (ap (λ f. answer_text bad.id (answers.Fault f)) m ∙ ap (λ i. answer_text i answers.Memory) i)), refl)
reply-bad room author bad read text (inr e) t = inl (ap (message_answer room author) e ∙ ap (λ (t : List ℕ). (t, room)) (sym t))

-- what a message asks for was answered
pub reply-read : (room : RoomState Global) (author : Author) (incoming : Incoming) (read : Result Incoming Bad) (text : List ℕ) (after : RoomState Global) → read ≡ Ok incoming →
    IsReply (body_answer room author incoming.id incoming.body) incoming.id room text after → IsReply (message_answer room author read) (id_told read) room text after
reply-read room author incoming read text after e h = rw e h

-- the script of a room that was opened
pub script-opened : (base : Rows Global) (limit : ℕ) (room : RoomState Global) → room ≡ opened_on base limit → script_of answered room ≡ script base limit
unfolding script
script-opened base limit room e = ap (script_of answered) e

pub script-none : (base : Rows Global) (limit : ℕ) → script base limit [] [] ≡ []
unfolding script
script-none base limit = refl
