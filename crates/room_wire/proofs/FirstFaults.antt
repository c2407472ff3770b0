-- The first malformed field of a message is reported.
use Rattle.std.proofs.Common.{◌≡◌, List, [], ◌∷◌, codes, true, false, Option, Some, None, Result, Ok, Err, refl, ◌∙◌, true≢false, sym}
use Rattle.serde_json.specs.Data.{Data}
use Rattle.serde_json.specs.Find.{get}
use Rattle.room_wire.specs.Prelude.{Global, Name, Kind, Element, Action, Fault, BadField, Field, El, Els, Lat, Lon, Nodes, Members, Tags, Dlat, Dlon, At, Into, With, Seq, Since, or_fault, action_by, move_at, split_at, unglue_at, name_at, place_at, distance_at, given_tags_at, el_at, els_at, element_at, lat_at, lon_at, members_at, nodes_at, seq_from, since_from, tags_at, tags_from, AreGood, IsFirstBad, Slot, element_slots, slot, slots, Word, is_action_word, word_text}
use Rattle.room_wire.specs.Reading.{◌>>=◌}
use Rattle.osm_elements.specs.declared.name.Kind.TheVariants as kinds
use Rattle.osm_elements.specs.declared.element.Element.TheVariants as elements
use Rattle.room_interface.specs.declared.action.Action.TheVariants as actions
use Rattle.room_wire.specs.Words as words

-- a result has the first bad field as its fault; if it has no fault, there is no bad field
abbrev pub Tells : {X : Type 0} → Result X Fault → List Slot → Type 0
Tells (Ok x) all = AreGood all
Tells (Err fault) all = (field : Field) × (fault ≡ BadField field) × IsFirstBad all field

-- a field has no fault but its own
abbrev pub Only : {X : Type 0} → Field → Result X Fault → Type 0
Only field (Ok x) = Unit {0}
Only field (Err fault) = fault ≡ BadField field

pub only_field : {X : Type 0} (field : Field) (o : Option X) → Only field (or_fault (BadField field) o)
only_field field None = refl
only_field field (Some x) = tt

pub only_tags : (o : Option Data) → Only Tags (tags_from o)
only_tags None = tt
only_tags (Some d) = only_field Tags _

pub only_seq : (o : Option Data) → Only Seq (seq_from o)
only_seq None = tt
only_seq (Some d) = only_field Seq _

pub only_since : (o : Option Data) → Only Since (since_from o)
only_since None = tt
only_since (Some d) = only_field Since _

-- a well-formed field is skipped
passed_over : {B : Type 0} (field : Field) (r : Result B Fault) (later : List Slot) → Tells r later → Tells r ((field, true) ∷ later)
passed_over field (Ok x) later h = h
passed_over field (Err fault) later h = h

pub step : {X B : Type 0} (field : Field) (r : Result X Fault) (f : X → Result B Fault) (later : List Slot) → Only field r → ((x : X) → r ≡ Ok x → Tells (f x) later)
    → Tells (r >>= f) (slot field r ∷ later)
step field (Ok x) f later only h = passed_over field (f x) later (h x refl)
step field (Err fault) f later only h = (field, only, refl)

-- a function of a result's value has the same fault
pub made : {X B : Type 0} (r : Result X Fault) (g : X → B) (all : List Slot) → Tells r all → Tells (r >>= λ x. Ok (g x)) all
made (Ok x) g all h = h
made (Err fault) g all h = h

pub element_tells : (kind : Kind) (d : Data) → Tells (element_at kind d) (element_slots kind d)
element_tells kinds.Node d =
    step Lat (lat_at d) _ _ (only_field Lat _) (λ lat e. step Lon (lon_at d) _ _ (only_field Lon _) (λ lon e. step Tags (tags_at d) (λ tags. let node : Element Global = elements.Node lat lon tags in Ok node) [] (only_tags (get (codes "tags") d)) (λ tags e. tt)))
element_tells kinds.Way d =
    step Nodes (nodes_at d) _ _ (only_field Nodes _) (λ nodes e. step Tags (tags_at d) (λ tags. let way : Element Global = elements.Way nodes tags in Ok way) [] (only_tags (get (codes "tags") d)) (λ tags e. tt))
element_tells kinds.Relation d =
    step Members (members_at d) _ _ (only_field Members _) (λ members e. step Tags (tags_at d) (λ tags. let relation : Element Global = elements.Relation members tags in Ok relation) [] (only_tags (get (codes "tags") d)) (λ tags e. tt))

-- an action with a name, and an action with one more field
pub name_tells : (action : Name → Action Global) (d : Data) → Tells (el_at d >>= λ name. Ok (action name)) (slot El (el_at d) ∷ [])
name_tells action d = step El (el_at d) (λ name. Ok (action name)) [] (only_field El _) (λ name e. tt)

pub pair_tells : {X : Type 0} (field : Field) (r : Result X Fault) (action : Name → X → Action Global) (d : Data) → Only field r → Tells (el_at d >>= λ name. r >>= λ x. Ok (action name x)) (slot El (el_at d) ∷ slot field r ∷ [])
pair_tells field r action d only = step El (el_at d) _ _ (only_field El _) (λ name e. step field r (λ x. Ok (action name x)) [] only (λ x e. tt))

pub move_tells : (d : Data) → Tells (move_at d) (slots words.Move d)
move_tells d =
    step Els (els_at d) _ _ (only_field Els _) (λ names e. step Dlat (distance_at Dlat d) _ _ (only_field Dlat _)
    (λ dlat e. step Dlon (distance_at Dlon d) (λ dlon. let moves : Action Global = actions.Move names dlat dlon in Ok moves) [] (only_field Dlon _) (λ dlon e. tt)))

pub split_tells : (d : Data) → Tells (split_at d) (slots words.Split d)
split_tells d =
    step El (el_at d) _ _ (only_field El _) (λ name e. step At (place_at d) _ _ (only_field At _)
    (λ place e. step Into (name_at Into d) (λ into. let splits : Action Global = actions.Split name place into in Ok splits) [] (only_field Into _) (λ into e. tt)))

pub unglue_tells : (d : Data) → Tells (unglue_at d) (slots words.Unglue d)
unglue_tells d =
    step El (el_at d) _ _ (only_field El _) (λ name e. step At (place_at d) _ _ (only_field At _)
    (λ place e. step Into (name_at Into d) (λ into. let unglues : Action Global = actions.Unglue name place into in Ok unglues) [] (only_field Into _) (λ into e. tt)))

-- the fault of an action is its word's first bad field
pub action_word_tells : (word : Word) (d : Data) → is_action_word word ≡ true → Tells (action_by (word_text word) d) (slots word d)
action_word_tells words.Create d is = step El (el_at d) _ _ (only_field El _) (λ name e. rw e (made (element_at name.kind d) (λ element. actions.Create name element) (element_slots name.kind d) (element_tells name.kind d)))
action_word_tells words.Retag d is = pair_tells Tags (given_tags_at d) (λ name given. actions.Retag name given) d (only_field Tags _)
action_word_tells words.Move d is = move_tells d
action_word_tells words.Reverse d is = name_tells (λ name. actions.Reverse name) d
action_word_tells words.Nodes d is = pair_tells Nodes (nodes_at d) (λ name list. actions.Nodes name list) d (only_field Nodes _)
action_word_tells words.Members d is = pair_tells Members (members_at d) (λ name list. actions.Members name list) d (only_field Members _)
action_word_tells words.Delete d is = name_tells (λ name. actions.Delete name) d
action_word_tells words.Purge d is = name_tells (λ name. actions.Purge name) d
action_word_tells words.Split d is = split_tells d
action_word_tells words.Join d is = pair_tells With (name_at With d) (λ name other. actions.Join name other) d (only_field With _)
action_word_tells words.Merge d is = pair_tells With (name_at With d) (λ name other. actions.Merge name other) d (only_field With _)
action_word_tells words.Unglue d is = unglue_tells d
action_word_tells words.Group d is = absurd (true≢false (sym is))
action_word_tells words.Undo d is = absurd (true≢false (sym is))
action_word_tells words.Redo d is = absurd (true≢false (sym is))
action_word_tells words.Undos d is = absurd (true≢false (sym is))
action_word_tells words.Get d is = absurd (true≢false (sym is))
action_word_tells words.Map d is = absurd (true≢false (sym is))
action_word_tells words.Hello d is = absurd (true≢false (sym is))

pub one_first : (all : List Slot) (f g : Field) → IsFirstBad all f → IsFirstBad all g → f ≡ g
one_first [] f g h k = absurd h
one_first ((first, true) ∷ later) f g h k = one_first later f g h k
one_first ((first, false) ∷ later) f g h k = sym h ∙ k

pub none_good : (all : List Slot) (f : Field) → AreGood all → IsFirstBad all f → ⊥
none_good [] f h k = k
none_good ((first, true) ∷ later) f h k = none_good later f h k
none_good ((first, false) ∷ later) f h k = h
