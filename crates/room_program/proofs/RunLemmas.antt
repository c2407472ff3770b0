-- Runs over lines in sequence, and the whole script.
use Rattle.std.proofs.Common.{◌≡◌, ◌≢◌, ℕ, List, [], ◌∷◌, ◌++◌, refl, sym, ap, subst, ◌∙◌, append_assoc, append-nil}
use Rattle.room_program.specs.Prelude.{lines, ended, IsLine, Loss, replies, joined, AreLines, Runs, AnswersFront}
use Rattle.room_program.proofs.LineLemmas.{IsLine-append, joined-more, lines-joined, lines-fed, ended-joined, rest-fed}

joined-append : (xs ys : List (List ℕ)) (rest : List ℕ) → joined (xs ++ ys) rest ≡ joined xs (joined ys rest)
joined-append [] ys rest = refl
joined-append (x ∷ xs) ys rest = ap (λ bs. x ++ 10 ∷ bs) (joined-append xs ys rest)

AreLines-append : (xs ys : List (List ℕ)) → AreLines xs → AreLines ys → AreLines (xs ++ ys)
AreLines-append [] ys h k = k
AreLines-append (x ∷ xs) ys h k = (h.0, AreLines-append xs ys h.1 k)

module _ {R : Type 0} (answer : Loss → R → List ℕ → List ℕ × R) where
  Runs-append : (room : R) (xs ys : List (List ℕ)) (out more : List ℕ) (between after : R) →
      Runs answer room xs out between → Runs answer between ys more after → Runs answer room (xs ++ ys) (out ++ more) after
  Runs-append room [] ys out more between after h k =
      subst (λ (r : R). Runs answer r ys (out ++ more) after) h.1 (subst (λ (bs : List ℕ). Runs answer between ys (bs ++ more) after) (sym h.0) k)
  Runs-append room (x ∷ xs) ys out more between after h k =
      (h.0, h.1 ++ more, rw (h.2) (append_assoc (answer h.0 room x).0 (10 ∷ h.1) more), Runs-append (answer h.0 room x).1 xs ys h.1 more between after h.3 k)

  -- a script begins with the replies of a run
  pub replies-run : (room : R) (xs ys : List (List ℕ)) (out : List ℕ) (after : R) (lost : List Loss) →
      Runs answer room xs out after → (all : List Loss) × (replies answer room (xs ++ ys) all ≡ out ++ replies answer after ys lost)
  replies-run room [] ys out after lost h = (lost, rw (h.0, h.1) refl)
  replies-run room (x ∷ xs) ys out after lost h =
      let s = answer h.0 room x in
      let rest = replies-run s.1 xs ys h.1 after lost h.3 in
      (h.0 ∷ rest.0, ap (λ bs. s.0 ++ 10 ∷ bs) rest.1 ∙ (sym (append_assoc s.0 (10 ∷ h.1) (replies answer after ys lost)) ∙ ap (λ bs. bs ++ replies answer after ys lost) (sym h.2)))

  -- nothing is answered yet
  pub front-none : (room : R) (bytes : List ℕ) → AnswersFront answer room bytes [] bytes room
  front-none room bytes = record { whole = []; are_lines = tt; split = refl; run = (refl, refl) }

  -- one line is answered
  pub front-line : (room : R) (line rest text : List ℕ) (after : R) (loss : Loss) → IsLine line → answer loss room line ≡ (text, after) →
      AnswersFront answer room (line ++ 10 ∷ rest) (text ++ 10 ∷ []) rest after
  front-line room line rest text after loss h e = record {
    whole = line ∷ [];
    are_lines = (h, tt);
    split = refl;
    run = (loss, [], ap (λ p. p.0 ++ 10 ∷ []) (sym e), (refl, ap (λ p. p.1) (sym e)));
  }

  -- more bytes come
  pub front-extend : (room : R) (first more out rest : List ℕ) (after : R) →
      AnswersFront answer room first out rest after → AnswersFront answer room (first ++ more) out (rest ++ more) after
  front-extend room first more out rest after h = record {
    whole = h.whole;
    are_lines = h.are_lines;
    split = ap (λ bs. bs ++ more) h.split ∙ joined-more h.whole rest more;
    run = h.run;
  }

  -- the rest is answered, too
  pub front-then : (room : R) (bytes out later rest left : List ℕ) (between after : R) →
      AnswersFront answer room bytes out rest between → AnswersFront answer between rest later left after →
      AnswersFront answer room bytes (out ++ later) left after
  front-then room bytes out later rest left between after h k = record {
    whole = h.whole ++ k.whole;
    are_lines = AreLines-append h.whole k.whole h.are_lines k.are_lines;
    split = h.split ∙ (ap (joined h.whole) k.split ∙ sym (joined-append h.whole k.whole left));
    run = Runs-append room h.whole k.whole out later between after h.run k.run;
  }

  -- the next line is answered, some bytes of which were held
  pub front-next : (room : R) (bytes out begun rest line later text out' begun' : List ℕ) (between after : R) (loss : Loss) →
      AnswersFront answer room bytes out (begun ++ rest) between → IsLine begun → IsLine line → rest ≡ line ++ 10 ∷ later →
      answer loss between (begun ++ line) ≡ (text, after) → out' ≡ out ++ (text ++ 10 ∷ []) → begun' ≡ [] →
      AnswersFront answer room bytes out' (begun' ++ later) after
  front-next room bytes out begun rest line later text out' begun' between after loss h b l split answered out-is begun-is =
      let left : begun ++ rest ≡ (begun ++ line) ++ 10 ∷ later = ap (λ bs. begun ++ bs) split ∙ sym (append_assoc begun line (10 ∷ later)) in
      rw (out-is, begun-is) (front-then room bytes out (text ++ 10 ∷ []) (begun ++ rest) later between after h
      (rw left (front-line between (begun ++ line) later text after loss (IsLine-append begun line b l) answered)))

  -- the script begins with what was answered
  pub front-script : (room : R) (bytes out rest : List ℕ) (after : R) (lost : List Loss) → AnswersFront answer room bytes out rest after →
      (all : List Loss) × (replies answer room (lines bytes) all ≡ out ++ replies answer after (lines rest) lost)
  front-script room bytes out rest after lost h =
      let all = replies-run room h.whole (lines rest) out after lost h.run in
      (all.0, ap (λ ls. replies answer room ls all.0) (ap lines h.split ∙ lines-joined h.whole rest h.are_lines) ∙ all.1)

  -- the replies so far are the script of the lines that ended
  pub front-ended : (room : R) (bytes out rest : List ℕ) (after : R) → IsLine rest → AnswersFront answer room bytes out rest after →
      (all : List Loss) × (replies answer room (lines (ended bytes)) all ≡ out)
  front-ended room bytes out rest after k h =
      let all = replies-run room h.whole [] out after [] h.run in
      (all.0, ap (λ ls. replies answer room ls all.0) (ap lines (ap ended h.split ∙ ended-joined h.whole rest h.are_lines k) ∙ lines-joined h.whole [] h.are_lines) ∙ (all.1 ∙ append-nil out))

  -- if a line feed ends the last line, the script of that line was answered
  pub front-fed : (room : R) (begun out rest : List ℕ) (after : R) → IsLine begun → begun ≢ [] → IsLine rest → AnswersFront answer room (begun ++ 10 ∷ []) out rest after →
      (all : List Loss) × (replies answer room (lines begun) all ≡ out)
  front-fed room begun out rest after b some k h =
      let none : rest ≡ [] = rest-fed h.whole rest begun h.are_lines k h.split in
      let all = replies-run room h.whole [] out after [] h.run in
      let same : lines begun ≡ h.whole ++ [] =
      sym (lines-fed begun b some) ∙ (ap lines (h.split ∙ ap (joined h.whole) none) ∙ lines-joined h.whole [] h.are_lines) in
      (all.0, ap (λ ls. replies answer room ls all.0) same ∙ (all.1 ∙ append-nil out))
