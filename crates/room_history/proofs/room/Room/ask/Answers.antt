use Rattle.std.proofs.Common.{◌≡◌, IfOk, subst}
use Rattle.room_history.proofs.Asking.{took, got, listed, gave, told}
use Rattle.room_history.proofs.room.Room.ask.Goals as goal

pub returns-in-Take-clause-answer : goal.returns-in-Take-clause-answer
returns-in-Take-clause-answer g c =
    let state = c.args.self.now in
    rw c.in-Take.is (took state.base state.limit state.journal c.take.new.self.journal c.in-Take.call c.take.result c.take.ensures.step)

pub returns-in-Get-clause-answer : goal.returns-in-Get-clause-answer
returns-in-Get-clause-answer g c =
    let state = c.args.self.now in
    rw c.in-Get.is (got state.base state.limit state.journal c.in-Get.name c.copy_of.result
    (subst (λ row. IfOk c.copy_of.result (λ found. found ≡ row)) c.get.ensures c.copy_of.ensures))

pub returns-in-Rows-clause-answer : goal.returns-in-Rows-clause-answer
returns-in-Rows-clause-answer g c =
    let state = c.args.self.now in
    rw c.in-Rows.is (listed state.base state.limit state.journal c.front_and_rows.result c.front_and_rows.ensures)

pub returns-in-Undos-clause-answer : goal.returns-in-Undos-clause-answer
returns-in-Undos-clause-answer g c =
    let state = c.args.self.now in
    rw c.in-Undos.is (gave state.base state.limit state.journal c.in-Undos.author c.undoable_by.result c.undoable_by.ensures)

pub returns-in-News-clause-answer : goal.returns-in-News-clause-answer
returns-in-News-clause-answer g c =
    let state = c.args.self.now in
    rw c.in-News.is (told state.base state.limit state.journal c.in-News.from c.news.result c.news.ensures)
