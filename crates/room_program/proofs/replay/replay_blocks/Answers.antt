-- Each end, from how far the replay has come.
use Rattle.std.proofs.Common.{◌≡◌, ◌≢◌, ◌||◌, ℕ, List, [], Bool, false, Result, Ok, Err, OnOk, length, take, vec_len, refl, suc, ◌∙◌, eqb, ap, sym, inl, add-one, arith}
use Rattle.std.proofs.lemmas.Bool.{eqb-true, eqb-false}
use Rattle.std.proofs.lemmas.Result.{on_err_weaker}
use Rattle.room_program.specs.Streams.{Gets, with_bytes}
use Rattle.room_program.proofs.StreamLemmas.{Consumes-before, on_err, Keeps-from_none}
use Rattle.room_program.proofs.LineLemmas.{nil-from_length}
use Rattle.room_program.proofs.CallLemmas.{no_gets, next_gets, one_more, calls_made}
use Rattle.room_program.proofs.ProgressLemmas.{progress-none, progress-block, progress-kept, progress-ended, progress-front, progress-all, progress-last, progress-stopped, progress-stopped_last}
use Rattle.room_program.proofs.replay.replay_blocks.Goals as goal

-- two clauses about one result, combined
last_ok : {T E P Q C : Type 0} (r : Result T E) → (P → Q → C) → OnOk r P → OnOk r Q → OnOk r C
last_ok (Ok x) f p q = f p q
last_ok (Err e) f p q = tt

-- some bytes are held
has_begun : (bytes : List ℕ) (n : ℕ) → n ≡ length bytes → eqb n 0 ≡ false → bytes ≢ []
has_begun bytes n same some none = eqb-false n 0 some (same ∙ ap length none)

pub returns-in_default-clause-read : goal.returns-in_default-clause-read
returns-in_default-clause-read g c e =
    let p = progress-kept _ _ _ _ _ _ _ _ c.loop.invariant.progress (g.S.Source.left c.get.new.self) c.in_default.ensures.bytes in
    progress-ended _ _ _ _ _ _ _ _ p c.loop.invariant.held

pub returns-in_default-clause-front : goal.returns-in_default-clause-front
returns-in_default-clause-front g c =
    let p = progress-kept _ _ _ _ _ _ _ _ c.loop.invariant.progress (g.S.Source.left c.get.new.self) c.in_default.ensures.bytes in
    progress-front _ _ _ _ _ _ _ _ p

pub returns-in_default-clause-calls : goal.returns-in_default-clause-calls
returns-in_default-clause-calls g c = one_more g.S.Source.gets c.loop.counter _ _ _ _ _ (omega arith) c.loop.invariant.gets c.in_default.ensures.gets

pub returns-in_err-answer_block-2-clause-front : goal.returns-in_err-answer_block-2-clause-front
returns-in_err-answer_block-2-clause-front g c =
    let f = c.in_err-answer_block-2.ensures.front in
    on_err c.from_residual-in_err-answer_block-2.result
    (progress-stopped _ _ _ _ _ _ _ _ c.loop.invariant.progress (g.S.Source.left c.get.new.self) (g.W.Sink.taken c.answer_block-then-count-gt0.new.writer) (take c.in-Ok.count c.get.new.buffer) f.0 f.1
    c.in-Ok.ensures.bytes.0 f.2 f.3)

pub returns-in_err-answer_block-2-clause-calls : goal.returns-in_err-answer_block-2-clause-calls
returns-in_err-answer_block-2-clause-calls g c = one_more g.S.Source.gets c.loop.counter _ _ _ _ _ (omega arith) c.loop.invariant.gets c.in-Ok.ensures.gets

pub returns-then-is_empty-clause-ok : goal.returns-then-is_empty-clause-ok
returns-then-is_empty-clause-ok g c =
    let none : c.in-Ok.count ≡ 0 = omega arith in
    let bytes = c.in-Ok.ensures.bytes in
    let p = progress-kept _ _ _ _ _ _ _ _ c.loop.invariant.progress (g.S.Source.left c.get.new.self) (Keeps-from_none _ _ c.in-Ok.count c.get.new.buffer none bytes.0) in
    let empty = eqb-true (vec_len c.loop.begun) 0 (sym c.is_empty.ensures ∙ c.if-is_empty.true) in
    progress-all _ _ _ _ _ _ _ _ p (nil-from_length c.loop.begun.items (omega (arith, c.loop.begun.ok.0))) (bytes.1 none (omega arith))

pub returns-then-is_empty-clause-calls : goal.returns-then-is_empty-clause-calls
returns-then-is_empty-clause-calls g c = one_more g.S.Source.gets c.loop.counter _ _ _ _ _ (omega arith) c.loop.invariant.gets c.in-Ok.ensures.gets

pub returns-else-is_empty-clause-ok : goal.returns-else-is_empty-clause-ok
returns-else-is_empty-clause-ok g c =
    let none : c.in-Ok.count ≡ 0 = omega arith in
    let bytes = c.in-Ok.ensures.bytes in
    let p = progress-kept _ _ _ _ _ _ _ _ c.loop.invariant.progress (g.S.Source.left c.get.new.self) (Keeps-from_none _ _ c.in-Ok.count c.get.new.buffer none bytes.0) in
    let said = c.answer_block-else-is_empty.ensures in
    last_ok c.answer_block-else-is_empty.result
    (λ ok held. progress-last _ _ _ _ _ _ _ _ p (g.W.Sink.taken c.answer_block-else-is_empty.new.writer) ok.0 c.answer_block-else-is_empty.new.begun.items c.answer_block-else-is_empty.new.answers
    c.loop.invariant.held (has_begun c.loop.begun.items (vec_len c.loop.begun) c.loop.begun.ok.0 (sym c.is_empty.ensures ∙ c.if-is_empty.false)) (bytes.1 none (omega arith)) ok.1 held ok.2)
    said.ok said.held

pub returns-else-is_empty-clause-front : goal.returns-else-is_empty-clause-front
returns-else-is_empty-clause-front g c =
    let none : c.in-Ok.count ≡ 0 = omega arith in
    let bytes = c.in-Ok.ensures.bytes in
    let p = progress-kept _ _ _ _ _ _ _ _ c.loop.invariant.progress (g.S.Source.left c.get.new.self) (Keeps-from_none _ _ c.in-Ok.count c.get.new.buffer none bytes.0) in
    on_err_weaker c.answer_block-else-is_empty.result
    (λ f. progress-stopped_last _ _ _ _ _ _ _ _ p (g.W.Sink.taken c.answer_block-else-is_empty.new.writer) f.0 f.1
    c.loop.invariant.held (has_begun c.loop.begun.items (vec_len c.loop.begun) c.loop.begun.ok.0 (sym c.is_empty.ensures ∙ c.if-is_empty.false)) f.2 f.3)
    c.answer_block-else-is_empty.ensures.front

pub returns-else-is_empty-clause-calls : goal.returns-else-is_empty-clause-calls
returns-else-is_empty-clause-calls g c = one_more g.S.Source.gets c.loop.counter _ _ _ _ _ (omega arith) c.loop.invariant.gets c.in-Ok.ensures.gets

pub loop-preserved : goal.loop-preserved
loop-preserved g c =
    let inv = c.loop.invariant in
    let said = c.in_ok-answer_block-2.ensures.ok in
    let more : Gets g.S.Source.gets (suc c.loop.counter) c.args.reader.now c.get.new.self = next_gets g.S.Source.gets c.loop.counter c.in-Ok.count c.args.reader.now c.loop.reader c.get.new.self (omega arith) inv.gets c.in-Ok.ensures.gets in
    record {
      progress = progress-block _ _ _ _ _ _ _ _ inv.progress (g.S.Source.left c.get.new.self) (g.W.Sink.taken c.answer_block-then-count-gt0.new.writer) (take c.in-Ok.count c.get.new.buffer) said.0 c.answer_block-then-count-gt0.new.begun.items c.answer_block-then-count-gt0.new.answers
          c.in-Ok.ensures.bytes.0 said.1 said.2;
      held = c.in_ok-answer_block-2.ensures.held;
      reader_works = c.in-Ok.ensures.failed ∙ ap (λ (b : Bool). b || false) inv.reader_works;
      writer_works = c.in_ok-answer_block-2.ensures.works;
      gets = rw add-one more;
    }

pub returns-clause-read : goal.returns-clause-read
returns-clause-read g c e = progress-ended _ _ _ _ _ _ _ _ c.loop.invariant.progress c.loop.invariant.held

pub returns-clause-front : goal.returns-clause-front
returns-clause-front g c = progress-front _ _ _ _ _ _ _ _ c.loop.invariant.progress

pub returns-clause-calls : goal.returns-clause-calls
returns-clause-calls g c = calls_made g.S.Source.gets c.loop.counter _ _ _ (omega arith) c.loop.invariant.gets

-- the bytes that are held come first
pub returns-in_err-answer_block-clause-front : goal.returns-in_err-answer_block-clause-front
returns-in_err-answer_block-clause-front g c =
    let f = c.in_err-answer_block.ensures.front in
    let left = g.S.Source.left c.args.reader.now in
    let p = progress-none g.A.Answerer.answered c.args.answers.now c.new-begun.result.items (with_bytes c.args.held.now left) (g.W.Sink.taken c.args.writer.now) c.new-begun.ensures.items in
    on_err c.from_residual.result
    (progress-stopped _ _ _ _ _ _ _ _ p left (g.W.Sink.taken c.answer_block.new.writer) c.args.held.now f.0 f.1 (Consumes-before c.args.held.now left) f.2 f.3)

pub returns-in_err-answer_block-clause-calls : goal.returns-in_err-answer_block-clause-calls
returns-in_err-answer_block-clause-calls g c = inl refl

pub loop-init : goal.loop-init
loop-init g c =
    let said = c.in_ok-answer_block.ensures.ok in
    let left = g.S.Source.left c.args.reader.now in
    let p = progress-none g.A.Answerer.answered c.args.answers.now c.new-begun.result.items (with_bytes c.args.held.now left) (g.W.Sink.taken c.args.writer.now) c.new-begun.ensures.items in
    record {
      progress = progress-block _ _ _ _ _ _ _ _ p left (g.W.Sink.taken c.answer_block.new.writer) c.args.held.now said.0 c.answer_block.new.begun.items c.answer_block.new.answers
          (Consumes-before c.args.held.now left) said.1 said.2;
      held = c.in_ok-answer_block.ensures.held;
      reader_works = c.requires.reader_works;
      writer_works = c.in_ok-answer_block.ensures.works;
      gets = no_gets g.S.Source.gets c.args.reader.now;
    }
