use Rattle.std.proofs.Common.{rules, ap, ◌∙◌, ◌≡◌, ◌∷◌, ◌++◌, []}
use Rattle.std.specs.Fmt.{signed_decimal}
use Rattle.json.specs.Token.{number as number_token}
use Rattle.room_wire.proofs.ToldParts.{integer_is_readable, integer_tokens}
use Rattle.room_wire.proofs.element.NameTold.write.Goals as goal

pub returns : goal.returns
returns c =
    let told : c.i64.new.self.tokens ≡ c.args.out.now.tokens ++ number_token (signed_decimal c.id_of.result) ∷ [] = search rules in
    record {
      before = c.in_ok-i64.ensures.room.0;
      tokens = told ∙ ap (λ z. c.args.out.now.tokens ++ number_token (signed_decimal z) ∷ []) c.id_of.ensures.value ∙ ap (λ ts. c.args.out.now.tokens ++ ts) (integer_tokens c.args.self.now.id);
      readable = integer_is_readable c.args.self.now.id c.id_of.ensures.fits;
    }
