use Rattle.std.proofs.Common.{rules, ◌≡◌, ◌∷◌, ◌++◌, [], decimal}
use Rattle.json.specs.Token.{number as number_token}
use Rattle.room_wire.proofs.ToldParts.{whole_is_readable}
use Rattle.room_wire.proofs.shown.write_number.Goals as goal

pub returns : goal.returns
returns c =
    let told : c.u64.new.self.tokens ≡ c.args.out.now.tokens ++ number_token (decimal c.args.number) ∷ [] = search rules in
    record { before = c.in_ok-u64.ensures.room.0; tokens = told; readable = whole_is_readable c.args.number c.ranges.number.fits }
