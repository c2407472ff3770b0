use Rattle.std.proofs.Common.{◌∙◌, sym, bytes_eq}
use Rattle.std.specs.Prelude.{string_bytes}
use Rattle.room_socket.proofs.Listing.{any_map}
use Rattle.room_socket.proofs.admission.is_given.Goals as goal

pub returns : goal.returns
returns c = c.is_among.ensures ∙ sym (any_map (λ given. bytes_eq given c.args.origin.now) string_bytes c.args.origins.now)
