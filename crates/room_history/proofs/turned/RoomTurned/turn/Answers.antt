use Rattle.room_history.proofs.Turning.{gains}
use Rattle.room_history.proofs.turned.RoomTurned.turn.Goals as goal

pub returns-clause-one : goal.returns-clause-one
returns-clause-one g c =
    let state = c.args.self.now in
    gains state.base state.limit state.journal c.args.call c.ask.result c.ask.new.self.journal c.ask.ensures.answer
