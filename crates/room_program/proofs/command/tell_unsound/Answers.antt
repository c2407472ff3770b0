-- The three parts of the line are written in order, as far as the stream takes them.
use Rattle.std.proofs.Common.{◌∷◌, ◌++◌, [], codes, refl, take}
use Rattle.osm_elements.specs.NameTexts.{name_text}
use Rattle.room_program.proofs.ServingLemmas.{told_no_more, told_then}
use Rattle.room_program.proofs.command.tell_unsound.Goals.{else-tell-via-then-tell+else-tell-2, else-tell-via-else-tell}
use Rattle.room_program.proofs.command.tell_unsound.Goals as goal

pub returns-then-tell-2 : goal.returns-then-tell-2
returns-then-tell-2 g c =
    let name = name_text c.args.name.now in
    let named = take c.write-length.result c.write-length.new.buffer in
    let first = c.tell.new.stream in
    let end = c.tell-then-tell-2.new.stream in
    told_then g.E.Sink c.args.errors.now first end end (codes "maproom: unsound base ") c.as_bytes.result.now (name ++ 10 ∷ []) (name ++ 10 ∷ []) c.as_bytes.ensures.value refl refl
    (c.tell.ensures.whole c.if-tell.true)
    (told_then g.E.Sink first c.tell-then-tell.new.stream end end name named (10 ∷ []) (10 ∷ []) c.write-length.ensures.text refl refl (c.tell-then-tell.ensures.whole c.if-tell-2.true) c.tell-then-tell-2.ensures.takes)

pub returns-else-tell : goal.returns-else-tell
returns-else-tell g c =
    let name = name_text c.args.name.now in
    let named = take c.write-length.result c.write-length.new.buffer in
    let begun = codes "maproom: unsound base " in
    let first = c.tell.new.stream in
    elim c.else-tell.branch [
      | else-tell-via-then-tell+else-tell-2 w ↦ told_then g.E.Sink c.args.errors.now first c.else-tell.errors c.else-tell.errors begun c.as_bytes.result.now (name ++ 10 ∷ []) (name ++ 10 ∷ []) c.as_bytes.ensures.value
          refl refl (c.tell.ensures.whole w.if-tell.true)
          (told_no_more g.E.Sink first w.tell-then-tell.new.stream c.else-tell.errors name named (10 ∷ []) c.write-length.ensures.text w.errors-is w.tell-then-tell.ensures.takes
          (w.tell-then-tell.ensures.why w.if-tell-2.false))
      | else-tell-via-else-tell w ↦ told_no_more g.E.Sink c.args.errors.now first c.else-tell.errors begun c.as_bytes.result.now (name ++ 10 ∷ []) c.as_bytes.ensures.value w.errors-is c.tell.ensures.takes
          (c.tell.ensures.why w.if-tell.false)
    ]
