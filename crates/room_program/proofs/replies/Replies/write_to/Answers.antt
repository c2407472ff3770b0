-- A write that stops in the long reply, or at its line feed, comes after all that was written before.
use Rattle.std.proofs.Common.{◌≡◌, ◌++◌, ◌∷◌, ◌∙◌, ℕ, List, [], Option, Some, ap, append_assoc, sym}
use Rattle.std.proofs.lemmas.Result.{on_err_weaker}
use Rattle.room_program.specs.Inner.LongReplies.{long_line}
use Rattle.room_program.proofs.StreamLemmas.{Appends-then, on_err, put-behind}
use Rattle.room_program.proofs.replies.Replies.write_to.Goals as goal

-- the replies with a long one, as they are lent to be written
all_are : (texts lent all : List ℕ) (long : Option (List ℕ)) (text bytes : List ℕ) → texts ++ long_line long ≡ all → long ≡ Some text → lent ≡ texts → bytes ≡ text →
    all ≡ lent ++ (bytes ++ 10 ∷ [])
all_are texts lent all long text bytes view is lends gives = rw (lends, gives) (sym view ∙ ap (λ (o : Option (List ℕ)). texts ++ long_line o) is)

pub returns-in_err-put_all-2-clause-front : goal.returns-in_err-put_all-2-clause-front
returns-in_err-put_all-2-clause-front g c =
    let part = c.in_err-put_all-2.ensures.front in
    let taken = g.W.Sink.taken in
    let all = all_are c.self.inside.texts.items c.as_slice.result.now c.args.self.now c.self.inside.long c.in-Some.long c.as_bytes.result.now c.self.view_is c.in-Some.is c.as_slice.ensures.value c.as_bytes.ensures in
    on_err c.from_residual-in_err-put_all-2.result
    (put-behind (taken c.args.writer.now) (taken c.put_all.new.writer) (taken c.put_all-2.new.writer) c.as_slice.result.now c.as_bytes.result.now (10 ∷ []) c.args.self.now part.0 part.1 all
    c.in_ok-put_all.ensures.ok part.2 part.3)

pub returns-clause-front : goal.returns-clause-front
returns-clause-front g c =
    let taken = g.W.Sink.taken in
    let texts = c.as_slice.result.now in
    let text = c.as_bytes.result.now in
    let all = all_are c.self.inside.texts.items texts c.args.self.now c.self.inside.long c.in-Some.long text c.self.view_is c.in-Some.is c.as_slice.ensures.value c.as_bytes.ensures in
    let done = Appends-then (taken c.args.writer.now) (taken c.put_all.new.writer) (taken c.put_all-2.new.writer) texts text c.in_ok-put_all.ensures.ok c.in_ok-put_all-2.ensures.ok in
    on_err_weaker c.put_all-3.result
    (λ part. put-behind (taken c.args.writer.now) (taken c.put_all-2.new.writer) (taken c.put_all-3.new.writer) (texts ++ text) (10 ∷ []) [] c.args.self.now part.0 part.1
    (all ∙ sym (append_assoc texts text (10 ∷ []))) done part.2 part.3)
    c.put_all-3.ensures.front
