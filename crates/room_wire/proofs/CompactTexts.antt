-- The compact text of a tree whose numbers are in range and whose keys rise is read as that tree.
use Rattle.std.proofs.Common.{◌≡◌, ◌≤◌, suc, max, [], Some, refl, sym, ap, ap₂, append-nil, ◌∙◌, arith, option_and_then}
use Rattle.json.proofs.Printed.Tokens.{tokens-print}
use Rattle.json.proofs.Printed.Trees.{ArePrintable-json_tokens, value-json_tokens}
use Rattle.serde_json.proofs.Texts.{print-outline}
use Rattle.serde_json.specs.Data.{Data, null, boolean, number, string, array, object, Items, no_items, item, Members, no_members, member, depth, items_depth, members_depth}
use Rattle.serde_json.specs.Read.{read, of_json}
use Rattle.serde_json.specs.Written.{compact_text, outline, items_outline, members_outline}
use Rattle.room_wire.specs.Inner.Writing.{IsReadable}
use Rattle.json.specs.Json as json
use Rattle.json.specs.Tree as tree

-- the outline nests as deep as the tree
mutual
  outline_depth : (d : Data) → tree.depth (outline d) ≡ depth d
  outline_depth null = refl
  outline_depth (boolean b) = refl
  outline_depth (number n) = refl
  outline_depth (string s) = refl
  outline_depth (array ds) = ap suc (items_outline_depth ds)
  outline_depth (object ms) = ap suc (members_outline_depth ms)

  items_outline_depth : (ds : Items) → tree.items_depth (items_outline ds) ≡ items_depth ds
  items_outline_depth no_items = refl
  items_outline_depth (item d ds) = ap₂ max (outline_depth d) (items_outline_depth ds)

  members_outline_depth : (ms : Members) → tree.members_depth (members_outline ms) ≡ members_depth ms
  members_outline_depth no_members = refl
  members_outline_depth (member k d ms) = ap₂ max (outline_depth d) (members_outline_depth ms)

pub reads_compact : (d : Data) → IsReadable d → depth d ≤ 127 → read (compact_text d) ≡ Some d
reads_compact d h shallow =
    let nests = outline_depth d in
    ap read (sym (print-outline d))
    ∙ ap (λ o. option_and_then of_json (option_and_then (λ p. json.if_last p.0 p.1) o)) (ap (json.value 127) (tokens-print (tree.json_tokens (outline d)) (ArePrintable-json_tokens (outline d) h.numbers) ∙ sym (append-nil (tree.json_tokens (outline d)))) ∙ value-json_tokens (outline d) 127 [] (omega (arith, nests, shallow)))
    ∙ h.same
