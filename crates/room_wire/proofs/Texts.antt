-- A written text is the compact text of its tree, and any reader of JSON reads it as this tree (RFC 8259).
use Rattle.std.proofs.Common.{◌≡◌, ◌≤◌, [], ◌++◌, Some, ap, ◌∙◌}
use Rattle.json.specs.Print.{print}
use Rattle.json.specs.Written.{Written}
use Rattle.serde_json.proofs.Texts.{print-outline}
use Rattle.serde_json.specs.Data.{Data, depth}
use Rattle.serde_json.specs.Read.{read}
use Rattle.serde_json.specs.Written.{compact_text}
use Rattle.room_wire.specs.Inner.Writing.{Tells, tree_tokens}
use Rattle.room_wire.proofs.CompactTexts.{reads_compact}

module _ (old new : Written) (d : Data) (begun : old.tokens ≡ []) (h : Tells old new d) where
  -- a tree that was written first
  pub is_written : print new.tokens ≡ compact_text d
  is_written = ap print (h.tokens ∙ ap (λ ts. ts ++ tree_tokens d) begun) ∙ print-outline d

  pub is_read : depth d ≤ 127 → read (print new.tokens) ≡ Some d
  is_read shallow = ap read is_written ∙ reads_compact d h.readable shallow
