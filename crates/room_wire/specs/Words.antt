-- The words of messages, which are this project's.
use Rattle.std.specs.Prelude.{ℕ, Bool, true, false, List, codes}

pub data Word : Type 0 where
  Create : Word
  Retag : Word
  Move : Word
  Reverse : Word
  Nodes : Word
  Members : Word
  Delete : Word
  Purge : Word
  Split : Word
  Join : Word
  Merge : Word
  Unglue : Word
  Group : Word
  Undo : Word
  Redo : Word
  Undos : Word
  Get : Word
  Map : Word
  Hello : Word

abbrev pub word_text : Word → List ℕ
word_text Create = codes "create"
word_text Retag = codes "retag"
word_text Move = codes "move"
word_text Reverse = codes "reverse"
word_text Nodes = codes "nodes"
word_text Members = codes "members"
word_text Delete = codes "delete"
word_text Purge = codes "purge"
word_text Split = codes "split"
word_text Join = codes "join"
word_text Merge = codes "merge"
word_text Unglue = codes "unglue"
word_text Group = codes "group"
word_text Undo = codes "undo"
word_text Redo = codes "redo"
word_text Undos = codes "undos"
word_text Get = codes "get"
word_text Map = codes "map"
word_text Hello = codes "hello"

-- the words of edits, which can say what their author had seen
abbrev pub is_edit : Word → Bool
is_edit Undo = false
is_edit Redo = false
is_edit Undos = false
is_edit Get = false
is_edit Map = false
is_edit Hello = false
is_edit word = true

-- the words of actions, which a group may have
abbrev pub is_action_word : Word → Bool
is_action_word Group = false
is_action_word Undo = false
is_action_word Redo = false
is_action_word Undos = false
is_action_word Get = false
is_action_word Map = false
is_action_word Hello = false
is_action_word word = true
