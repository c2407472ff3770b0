-- The effects that a room keeps of its entries, and the news computed from them.
use Rattle.std.specs.Prelude.{◌+◌, ℕ, Bool, true, false, List, [], ◌∷◌, Option, Some, None, map}
use Rattle.edit_groups.specs.Prelude.{then_some, Rows, changed_rows, footprint_of}
use Rattle.osm_changes.specs.Changes.{changed}
use Rattle.edit_footprint.specs.Touches.{Touch}
use Rattle.osm_changes.specs.declared.change.Change.{Change}
use Rattle.osm_changes.specs.declared.changed_row.ChangedRow.{ChangedRow}
use Rattle.room_interface.specs.declared.edit.Edit.{Edit}
use Rattle.room_interface.specs.declared.edit.Edit.TheVariants.{One, Group}
use Rattle.room_history.specs.declared.entry.Entry.{Entry}
use Rattle.room_history.specs.declared.kept.Effect.{Effect}
use Rattle.room_interface.specs.declared.news.News.{News}
use Rattle.room_interface.specs.declared.news.NewsRow.{NewsRow}
use Rattle.room_history.specs.Replays.{Recorded, past}

module _ {A : Type 0} where
  abbrev pub is_group : Option (Edit A) → Bool
  is_group None = false
  is_group (Some (One a)) = false
  is_group (Some (Group g)) = true

  -- the footprint of a group; that of one action is not kept, because it follows from the action and its changes
  abbrev pub group_touches : Option (Edit A) → List Touch → Option (List Touch)
  group_touches o touches = then_some (is_group o) touches

  -- the footprint of an edit, from its changes, or as it was kept for a group
  abbrev pub footprint_by : Edit A → Option (List Touch) → List (Change A) → List Touch
  footprint_by (One a) kept cs = footprint_of a cs
  footprint_by (Group g) None cs = []
  footprint_by (Group g) (Some touches) cs = touches

  -- the effect of changes that are not a group's, with the rows before and after them
  abbrev pub single_effect : Rows A → List (Change A) → Effect A
  single_effect m cs = record { changes = cs; rows = changed_rows m cs; group = None }

  -- the effect of an entry, with the rows before and after it
  abbrev pub effect_of : Rows A → Recorded A → Effect A
  effect_of m r = record { changes = r.changes; rows = changed_rows m r.changes; group = group_touches r.action r.footprint }

  -- the effects of entries in order
  abbrev pub kept_from : Rows A → List (Recorded A) → List (Effect A)
  kept_from m [] = []
  kept_from m (r ∷ rs) = effect_of m r ∷ kept_from (changed m r.changes) rs

  -- the effect of each entry of a journal
  abbrev pub kept : Rows A → List (Entry A) → List (Effect A)
  kept base j = kept_from base (past base j).entries

  -- a row in the form of news
  abbrev pub told_row : ChangedRow A → NewsRow A
  told_row r = record { name = r.name; element = r.after }

  -- the news of the entry with the number n
  abbrev pub told_of : ℕ → Entry A → Effect A → News A
  told_of n e k = record { seq = n; author = e.author; rows = map told_row k.rows }

  -- the news of entries numbered from n on, from their kept effects
  abbrev pub told_from : ℕ → List (Entry A) → List (Effect A) → List (News A)
  told_from n [] ks = []
  told_from n (e ∷ es) [] = []
  told_from n (e ∷ es) (k ∷ ks) = told_of n e k ∷ told_from (n + 1) es ks
