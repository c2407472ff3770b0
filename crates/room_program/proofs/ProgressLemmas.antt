-- How far a replay has come, and its end.
use Rattle.std.proofs.Common.{◌≡◌, ◌≢◌, ℕ, List, [], ◌∷◌, ◌++◌, Option, sym, ap, subst, ◌∙◌, append_assoc, append-nil}
use Rattle.room_program.specs.Prelude.{Appends, Consumes, Keeps, IsAtEnd, lines, IsLine, Loss, replies, script_of, AnswersFront, AnswersSome, WritesAll, WritesEnded, WritesFront, with_bytes}
use Rattle.room_program.proofs.LineLemmas.{lines-fed}
use Rattle.room_program.proofs.RunLemmas.{front-none, front-extend, front-then, front-script, front-ended, front-fed}
use Rattle.room_program.proofs.StreamLemmas.{Appends-none, Appends-then, Consumes-before, Consumes-then, Consumes-kept, with_bytes-none}

-- the bytes read so far, and the text written for the lines among them that ended
pub record Progress {R : Type 0} (answer : Loss → R → List ℕ → List ℕ × R) (start now : R) (left left' taken taken' : Option (List ℕ)) (begun : List ℕ) : Type 0 where
  pub read : List ℕ
  pub text : List ℕ
  pub consumed : Consumes left left' read
  pub written : Appends taken taken' text
  pub front : AnswersFront answer start read text begun now

-- nothing was read after the bytes that are held, and nothing was written
pub progress-held : {R : Type 0} (answer : Loss → R → List ℕ → List ℕ × R) (start : R) (held : List ℕ) (left taken : Option (List ℕ)) → Progress answer start start (with_bytes held left) left taken taken held
progress-held answer start held left taken = record {
  read = held;
  text = [];
  consumed = Consumes-before held left;
  written = Appends-none taken;
  front = front-none answer start held;
}

-- nothing was read yet, and no line has begun
pub progress-none : {R : Type 0} (answer : Loss → R → List ℕ → List ℕ × R) (start : R) (begun : List ℕ) (left taken : Option (List ℕ)) → begun ≡ [] → Progress answer start start left left taken taken begun
progress-none answer start begun left taken none =
    subst (λ (l : Option (List ℕ)). Progress answer start start l left taken taken begun) (with_bytes-none begun left none) (progress-held answer start begun left taken)

regroup : (a b c d : List ℕ) → (a ++ (b ++ c)) ++ d ≡ (a ++ b) ++ (c ++ d)
regroup a b c d = simp append_assoc

module _ {R : Type 0} (answer : Loss → R → List ℕ → List ℕ × R) (start now : R) (left left' taken taken' : Option (List ℕ)) (begun : List ℕ)
    (p : Progress answer start now left left' taken taken' begun) where
  -- a block was answered
  pub progress-block : (left'' taken'' : Option (List ℕ)) (piece text rest : List ℕ) (next : R) →
      Consumes left' left'' piece → AnswersFront answer now (begun ++ piece) text rest next → Appends taken' taken'' text →
      Progress answer start next left left'' taken taken'' rest
  progress-block left'' taken'' piece text rest next c f w = record {
    read = p.read ++ piece;
    text = p.text ++ text;
    consumed = Consumes-then left left' left'' p.read piece p.consumed c;
    written = Appends-then taken taken' taken'' p.text text p.written w;
    front = front-then answer start (p.read ++ piece) p.text text (begun ++ piece) rest now next (front-extend answer start p.read piece p.text begun now p.front) f;
  }

  -- a call read nothing
  pub progress-kept : (left'' : Option (List ℕ)) → Keeps left' left'' → Progress answer start now left left'' taken taken' begun
  progress-kept left'' k = record {
    read = p.read;
    text = p.text;
    consumed = Consumes-kept left left' left'' p.read p.consumed k;
    written = p.written;
    front = p.front;
  }

  -- the replay ends between two blocks
  pub progress-ended : IsLine begun → WritesEnded (script_of answer start) left left' taken taken'
  progress-ended l =
      let all = front-ended answer start p.read p.text begun now l p.front in
      record { read = p.read; lost = all.0; consumed = p.consumed; written = subst (Appends taken taken') (sym all.1) p.written }

  pub progress-front : WritesFront (script_of answer start) left left' taken taken'
  progress-front =
      let all = front-script answer start p.read p.text begun now [] p.front in
      record {
        read = p.read;
        lost = all.0;
        written_bytes = p.text;
        unwritten = replies answer now (lines begun) [];
        consumed = p.consumed;
        script_is = all.1;
        written = p.written;
      }

  -- nothing is left, and no line has begun
  pub progress-all : begun ≡ [] → IsAtEnd left' → WritesAll (script_of answer start) left left' taken taken'
  progress-all none e =
      let all = front-script answer start p.read p.text begun now [] p.front in
      let same : script_of answer start p.read all.0 ≡ p.text =
      all.1 ∙ (ap (λ bs. p.text ++ replies answer now (lines bs) []) none ∙ append-nil p.text) in
      record { read = p.read; lost = all.0; consumed = p.consumed; at_end = e; written = subst (Appends taken taken') (sym same) p.written }

  -- nothing is left, and the last line was answered
  pub progress-last : (taken'' : Option (List ℕ)) (text rest : List ℕ) (next : R) → IsLine begun → begun ≢ [] → IsAtEnd left' →
      AnswersFront answer now (begun ++ 10 ∷ []) text rest next → IsLine rest → Appends taken' taken'' text →
      WritesAll (script_of answer start) left left' taken taken''
  progress-last taken'' text rest next l some e f r w =
      let last = front-fed answer now begun text rest next l some r f in
      let all = front-script answer start p.read p.text begun now last.0 p.front in
      let same : script_of answer start p.read all.0 ≡ p.text ++ text = all.1 ∙ ap (λ bs. p.text ++ bs) last.1 in
      record {
        read = p.read;
        lost = all.0;
        consumed = p.consumed;
        at_end = e;
        written = subst (Appends taken taken'') (sym same) (Appends-then taken taken' taken'' p.text text p.written w);
      }

  -- a block was answered in part
  pub progress-stopped : (left'' taken'' : Option (List ℕ)) (piece written unwritten : List ℕ) →
      Consumes left' left'' piece → AnswersSome answer now (begun ++ piece) (written ++ unwritten) → Appends taken' taken'' written →
      WritesFront (script_of answer start) left left'' taken taken''
  progress-stopped left'' taken'' piece written unwritten c s w =
      let front = front-then answer start (p.read ++ piece) p.text (written ++ unwritten) (begun ++ piece) s.rest now s.after (front-extend answer start p.read piece p.text begun now p.front) s.front in
      let all = front-script answer start (p.read ++ piece) (p.text ++ (written ++ unwritten)) s.rest s.after [] front in
      let more = replies answer s.after (lines s.rest) [] in
      record {
        read = p.read ++ piece;
        lost = all.0;
        written_bytes = p.text ++ written;
        unwritten = unwritten ++ more;
        consumed = Consumes-then left left' left'' p.read piece p.consumed c;
        script_is = all.1 ∙ regroup p.text written unwritten more;
        written = Appends-then taken taken' taken'' p.text written p.written w;
      }

  -- the last line was answered in part
  pub progress-stopped_last : (taken'' : Option (List ℕ)) (written unwritten : List ℕ) → IsLine begun → begun ≢ [] →
      AnswersSome answer now (begun ++ 10 ∷ []) (written ++ unwritten) → Appends taken' taken'' written →
      WritesFront (script_of answer start) left left' taken taken''
  progress-stopped_last taken'' written unwritten l some s w =
      let last = front-script answer now (begun ++ 10 ∷ []) (written ++ unwritten) s.rest s.after [] s.front in
      let more = replies answer s.after (lines s.rest) [] in
      let all = front-script answer start p.read p.text begun now last.0 p.front in
      let same : replies answer now (lines begun) last.0 ≡ (written ++ unwritten) ++ more =
      ap (λ ls. replies answer now ls last.0) (sym (lines-fed begun l some)) ∙ last.1 in
      record {
        read = p.read;
        lost = all.0;
        written_bytes = p.text ++ written;
        unwritten = unwritten ++ more;
        consumed = p.consumed;
        script_is = all.1 ∙ (ap (λ bs. p.text ++ bs) same ∙ (sym (append_assoc p.text (written ++ unwritten) more) ∙ regroup p.text written unwritten more));
        written = Appends-then taken taken' taken'' p.text written p.written w;
      }
