-- Clients of a room: a client reads a welcome, and then news in order, and keeps a mirror. (Welcomes, news and mirrors
-- are this project's.)
use Rattle.std.specs.Prelude.{◌≡◌, ◌++◌, ℕ, true, List, [], ◌∷◌, map, Option, Some, None, Ok, All, take, option_and_then}
use Rattle.serde_json.specs.Read.{read}
use Rattle.room_wire.specs.Prelude.{result_ok, Global, Rows, is_made_request, is_author, news_tree, spells_news, HasId, spells_welcome}
use Rattle.room_history.specs.Prelude.{mapof}
use Rattle.edit_footprint.specs.Footprints.{owned, subjects}
use Rattle.osm_elements.specs.declared.name.Name.{Name}
use Rattle.osm_changes.specs.declared.cell.Cell.{Cell}
use Rattle.room_interface.specs.declared.action.Action.{Action}
use Rattle.room_interface.specs.declared.edit.Edit.{Edit}
use Rattle.room_interface.specs.declared.edit.Edit.TheVariants.{One, Group}
use Rattle.room_interface.specs.declared.call.Call.{Call}
use Rattle.room_interface.specs.declared.call.Request.{Request}
use Rattle.room_history.specs.declared.entry.Entry.{Entry}
use Rattle.room_history.specs.declared.entry.EntryKind.{EntryKind}
use Rattle.room_history.specs.declared.entry.EntryKind.TheVariants.{Do, Undo, Redo}
use Rattle.room_interface.specs.declared.news.News.{News}
use Rattle.room_wire.specs.declared.welcome.Welcome.{Welcome}
use Rattle.room_mirror.specs.declared.fault.MirrorFault.{MirrorFault}
use Rattle.room_mirror.specs.Mirrors.{MirrorState, fault, with_news}
use Rattle.room_interface.specs.declared.call.Request.TheVariants as requests

-- the welcome to a room whose journal has n entries, with the id of its message
abbrev pub welcome_to : ℕ → Rows Global → List (Entry Global) → ℕ → Welcome
welcome_to id base j n = record { id = id; seq = n; rows = mapof base (take n j) }

-- every JSON text with the tree of the news is read as these news
abbrev pub IsReadBack : News Global → Type 0
IsReadBack n = (text : List ℕ) → read text ≡ Some (news_tree n) → spells_news text ≡ Ok n

-- each text is a JSON text with the tree of the news at its position
abbrev pub SpellNews : List (List ℕ) → List (News Global) → Type 0
SpellNews [] [] = Unit {0}
SpellNews [] (n ∷ ns) = ⊥
SpellNews (text ∷ texts) [] = ⊥
SpellNews (text ∷ texts) (n ∷ ns) = (read text ≡ Some (news_tree n)) × SpellNews texts ns

-- the mirror after the news, or `None` if the news have a fault
abbrev pub taken : MirrorState Global → News Global → Option MirrorFault → Option (MirrorState Global)
taken s n None = Some (with_news s n)
taken s n (Some f) = None

-- the mirror after the news of all texts in order, or `None` if a text is not news or is refused
abbrev pub followed : MirrorState Global → List (List ℕ) → Option (MirrorState Global)
followed s [] = Some s
followed s (text ∷ texts) =
    option_and_then (λ n. option_and_then (λ t. followed t texts) (taken s n (fault s n)))
    (result_ok (spells_news text))

-- the mirror of a client that reads the text of a welcome, and then texts of news
abbrev pub mirror_made : List ℕ → List (List ℕ) → Option (MirrorState Global)
mirror_made welcome texts =
    option_and_then (λ (w : Welcome). followed (record { seq = w.seq; rows = w.rows }) texts)
    (result_ok (spells_welcome welcome))

-- the names that an action is about
abbrev pub subject_names : Action Global → List Name
subject_names a = owned a ++ map (λ (c : Cell). c.name) (subjects a)

-- the names that the action is about have ids as in messages
abbrev pub HasIds : Action Global → Type 0
HasIds a = All HasId (subject_names a)

abbrev pub AllHaveIds : List (Action Global) → Type 0
AllHaveIds [] = Unit {0}
AllHaveIds (a ∷ rest) = HasIds a × AllHaveIds rest

abbrev pub HasEditIds : Edit Global → Type 0
HasEditIds (One a) = HasIds a
HasEditIds (Group group) = AllHaveIds group

abbrev pub HasSubjectIds : EntryKind Global → Type 0
HasSubjectIds (Do e) = HasEditIds e
HasSubjectIds (Undo s) = Unit {0}
HasSubjectIds (Redo s) = Unit {0}

-- the entry can come from a message: its author has an author's name, and the subjects of its actions have ids as in
-- messages
abbrev pub IsBrought : Entry Global → Type 0
IsBrought e = (is_author e.author ≡ true) × HasSubjectIds e.kind

-- the subjects of the request's actions have ids as in messages
abbrev pub HasRequestIds : Request Global → Type 0
HasRequestIds (requests.Do e since) = HasEditIds e
HasRequestIds (requests.Undo s) = Unit {0}
HasRequestIds requests.Redo = Unit {0}

-- the call can come from a message: its author has an author's name, its values are made, and the subjects of its
-- actions have ids as in messages
pub record IsBroughtCall (c : Call Global) : Type 0 where
  pub author : is_author c.author ≡ true
  pub made : is_made_request c.request ≡ true
  pub ids : HasRequestIds c.request
