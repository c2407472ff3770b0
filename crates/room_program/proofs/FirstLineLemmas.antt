-- The first line of what a reader has left, and the bytes after that line.
use Rattle.std.proofs.Common.{◌≡◌, ◌+◌, ℕ, zero, suc, List, [], ◌∷◌, ◌++◌, Option, Some, None, Result, Ok, Err, refl, if◌then◌else◌, IsErrAnd, sym, ap, subst, ◌∙◌, inl, inr, append_assoc, append-nil, arith, IsUtf8}
use Rattle.std.proofs.lemmas.Bool.{cond-false, cond-true, false_from_ne_true, ne_eqb}
use Rattle.std.proofs.lemmas.Str.{IsUtf8-from_is_utf8, is_utf8-from_IsUtf8}
use Rattle.room_program.specs.Prelude.{is_utf8, Consumes, IsAtEnd, NotJson, spells_welcome, Failed, IsFirstLineOf, behind, behind_line, first_line, spelled_base, IsLine, Loss, GetsAtMost, WritesAll, WritesEnded, WritesFront, with_bytes}
use Rattle.room_program.specs.Streams.{Gets}
use Rattle.room_program.proofs.CallLemmas.{calls_made}

-- ---- lines

first_of : (line rest : List ℕ) → IsLine line → first_line (line ++ 10 ∷ rest) ≡ line
first_of [] rest is = refl
first_of (b ∷ bs) rest is =
    ap (λ t. if t then [] else b ∷ first_line (bs ++ 10 ∷ rest)) (ne_eqb b 10 is.0) ∙ ap (λ l. b ∷ l) (first_of bs rest is.1)

behind_of : (line rest : List ℕ) → IsLine line → behind_line (line ++ 10 ∷ rest) ≡ rest
behind_of [] rest is = refl
behind_of (b ∷ bs) rest is =
    ap (λ t. if t then bs ++ 10 ∷ rest else behind_line (bs ++ 10 ∷ rest)) (ne_eqb b 10 is.0) ∙ behind_of bs rest is.1

first_whole : (line : List ℕ) → IsLine line → first_line line ≡ line
first_whole [] is = refl
first_whole (b ∷ bs) is = ap (λ t. if t then [] else b ∷ first_line bs) (ne_eqb b 10 is.0) ∙ ap (λ l. b ∷ l) (first_whole bs is.1)

behind_whole : (line : List ℕ) → IsLine line → behind_line line ≡ []
behind_whole [] is = refl
behind_whole (b ∷ bs) is = ap (λ t. if t then bs else behind_line bs) (ne_eqb b 10 is.0) ∙ behind_whole bs is.1

-- ---- what was left

known_first : (line held later : List ℕ) → IsLine line → first_line ((line ++ 10 ∷ held) ++ later) ≡ line
known_first line held later is = ap first_line (append_assoc line (10 ∷ held) later) ∙ first_of line (held ++ later) is

known_behind : (line held later : List ℕ) → IsLine line → behind_line ((line ++ 10 ∷ held) ++ later) ≡ held ++ later
known_behind line held later is = ap behind_line (append_assoc line (10 ∷ held) later) ∙ behind_of line (held ++ later) is

pub begins_line : (line held : List ℕ) (left mid : Option (List ℕ)) → IsLine line → Consumes left mid (line ++ 10 ∷ held) → IsFirstLineOf line left
begins_line line held None mid is read = tt
begins_line line held (Some xs) None is read = absurd read
begins_line line held (Some xs) (Some ys) is read = ap first_line read ∙ known_first line held ys is

pub begins_last : (line : List ℕ) (left mid : Option (List ℕ)) → IsLine line → Consumes left mid line → IsAtEnd mid → IsFirstLineOf line left
begins_last line None mid is read end = tt
begins_last line (Some xs) None is read end = absurd read
begins_last line (Some xs) (Some ys) is read end = ap first_line (read ∙ ap (λ k. line ++ k) end ∙ append-nil line) ∙ first_whole line is

-- there are no bytes after a line with which the stream ends
pub behind_last : (line : List ℕ) (left mid : Option (List ℕ)) → IsLine line → Consumes left mid line → IsAtEnd mid → Consumes (behind left) mid []
behind_last line None mid is read end = tt
behind_last line (Some xs) None is read end = absurd read
behind_last line (Some xs) (Some ys) is read end = ap behind_line (read ∙ ap (λ k. line ++ k) end ∙ append-nil line) ∙ behind_whole line is ∙ sym end

-- what is true of the held bytes and those left after them is true of the bytes after the line
module _ (line held : List ℕ) (is : IsLine line) where
  same_behind : (xs ys : List ℕ) → Consumes (Some xs) (Some ys) (line ++ 10 ∷ held) → with_bytes held (Some ys) ≡ behind (Some xs)
  same_behind xs ys read = ap Some (sym (ap behind_line read ∙ known_behind line held ys is))

  module _ (script : List ℕ → List Loss → List ℕ) where
    pub all_behind : (left mid left' taken taken' : Option (List ℕ)) → Consumes left mid (line ++ 10 ∷ held)
        → WritesAll script (with_bytes held mid) left' taken taken' → WritesAll script (behind left) left' taken taken'
    all_behind None mid left' taken taken' read w = record { read = w.read; lost = w.lost; consumed = tt; at_end = w.at_end; written = w.written }
    all_behind (Some xs) None left' taken taken' read w = absurd read
    all_behind (Some xs) (Some ys) left' taken taken' read w = subst (λ (l : Option (List ℕ)). WritesAll script l left' taken taken') (same_behind xs ys read) w

    pub ended_behind : (left mid left' taken taken' : Option (List ℕ)) → Consumes left mid (line ++ 10 ∷ held)
        → WritesEnded script (with_bytes held mid) left' taken taken' → WritesEnded script (behind left) left' taken taken'
    ended_behind None mid left' taken taken' read w = record { read = w.read; lost = w.lost; consumed = tt; written = w.written }
    ended_behind (Some xs) None left' taken taken' read w = absurd read
    ended_behind (Some xs) (Some ys) left' taken taken' read w = subst (λ (l : Option (List ℕ)). WritesEnded script l left' taken taken') (same_behind xs ys read) w

    pub front_behind : (left mid left' taken taken' : Option (List ℕ)) → Consumes left mid (line ++ 10 ∷ held)
        → WritesFront script (with_bytes held mid) left' taken taken' → WritesFront script (behind left) left' taken taken'
    front_behind None mid left' taken taken' read w = record {
      read = w.read;
      lost = w.lost;
      written_bytes = w.written_bytes;
      unwritten = w.unwritten;
      consumed = tt;
      script_is = w.script_is;
      written = w.written;
    }
    front_behind (Some xs) None left' taken taken' read w = absurd read
    front_behind (Some xs) (Some ys) left' taken taken' read w = subst (λ (l : Option (List ℕ)). WritesFront script l left' taken taken') (same_behind xs ys read) w

-- ---- calls

module _ {S : Type 0} (gets : S → Result ℕ Failed → S → Type 0) where
  -- some calls, followed by more calls
  pub gets_then : (n m : ℕ) (before between after : S) → Gets gets n before between → Gets gets m between after → Gets gets (n + m) before after
  unfolding Gets
  gets_then n zero before between after first last =
      let none : n ≡ n + 0 = omega arith in
      subst (λ (k : ℕ). Gets gets k before after) none (subst (λ (s : S). Gets gets n before s) (sym last) first)
  gets_then n (suc m) before between after first last =
      let one : suc (n + m) ≡ n + suc m = omega arith in
      subst (λ (k : ℕ). Gets gets k before after) one (last.0, last.1, last.2, gets_then n m before between last.0 first last.3, last.4)

  pub most_then : (n left reads : ℕ) (before between after : S) → n + left ≡ reads → Gets gets n before between → GetsAtMost gets left between after → GetsAtMost gets reads before after
  most_then n left reads before between after sum first (inl same) =
      calls_made gets n reads before after (omega (arith, sum)) (subst (λ (s : S). Gets gets n before s) (sym same) first)
  most_then n left reads before between after sum first (inr last) =
      let below = last.1 in
      inr (n + last.0, omega (arith, sum, below), last.2, last.3, gets_then n last.0 before between last.2 first last.4, last.5)

  pub all_then : (n left reads : ℕ) (before between after : S) → n + left ≡ reads → Gets gets n before between → Gets gets left between after → Gets gets reads before after
  all_then n left reads before between after sum first last =
      subst (λ (k : ℕ). Gets gets k before after) sum (gets_then n left before between after first last)

-- ---- faults that are passed on

pub err_is : {T E : Type 0} (r : Result T E) (e : E) → IsErrAnd r (λ y. y ≡ e) → r ≡ Err e
err_is (Ok x) e is = absurd is
err_is (Err y) e is = ap Err is

-- ---- texts

-- bytes that are not UTF-8 are not JSON
pub base-text : (bs : List ℕ) → IsUtf8 bs → spelled_base bs ≡ spells_welcome bs
base-text bs h = cond-true (is_utf8 bs) (spells_welcome bs) (Err (record { id = 0; fault = NotJson })) (is_utf8-from_IsUtf8 bs h)

pub base-no_text : (bs : List ℕ) → ¬ IsUtf8 bs → spelled_base bs ≡ Err (record { id = 0; fault = NotJson })
base-no_text bs h = cond-false (is_utf8 bs) (spells_welcome bs) (Err (record { id = 0; fault = NotJson })) (false_from_ne_true (is_utf8 bs) (λ e. h (IsUtf8-from_is_utf8 bs e)))
