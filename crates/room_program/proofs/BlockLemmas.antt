-- How far a block of lines was answered, and its end.
use Rattle.std.proofs.Common.{ℕ, List, ◌++◌, Option, sym, subst, append_assoc}
use Rattle.room_program.specs.Prelude.{Appends, Loss, AnswersFront, AnswersSome}
use Rattle.room_program.proofs.RunLemmas.{front-then}
use Rattle.room_program.proofs.StreamLemmas.{Appends-then}

-- the lines at the beginning of the bytes were answered and their replies written, and the rest of the bytes is left
pub record Written {R : Type 0} (answer : Loss → R → List ℕ → List ℕ × R) (start now : R) (bytes rest : List ℕ) (taken taken' : Option (List ℕ)) : Type 0 where
  pub text : List ℕ
  pub front : AnswersFront answer start bytes text rest now
  pub written : Appends taken taken' text

module _ {R : Type 0} (answer : Loss → R → List ℕ → List ℕ × R) (start now : R) (bytes rest : List ℕ) (taken taken' : Option (List ℕ))
    (w : Written answer start now bytes rest taken taken') where
  -- more lines were answered, and their replies written
  pub written-more : (taken'' : Option (List ℕ)) (later left : List ℕ) (next : R) →
      AnswersFront answer now rest later left next → Appends taken' taken'' later →
      Written answer start next bytes left taken taken''
  written-more taken'' later left next f a = record {
    text = w.text ++ later;
    front = front-then answer start bytes w.text later rest left now next w.front f;
    written = Appends-then taken taken' taken'' w.text later w.written a;
  }

  -- a part of the replies to more lines was written
  pub written-some : (taken'' : Option (List ℕ)) (front unwritten : List ℕ) →
      AnswersSome answer now rest (front ++ unwritten) → Appends taken' taken'' front →
      (text : List ℕ) × (later : List ℕ) × AnswersSome answer start bytes (text ++ later) × Appends taken taken'' text
  written-some taken'' front unwritten s a = (
    w.text ++ front,
    unwritten,
    record {
      rest = s.rest;
      after = s.after;
      front = subst (λ (bs : List ℕ). AnswersFront answer start bytes bs s.rest s.after) (sym (append_assoc w.text front unwritten))
          (front-then answer start bytes w.text (front ++ unwritten) rest s.rest now s.after w.front s.front);
    },
    Appends-then taken taken' taken'' w.text front w.written a,
  )
