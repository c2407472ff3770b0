-- The values of a well-formed message, and so of a message that a text spells, are as their types require.
use Rattle.std.proofs.Common.{◌≡◌, ◌&&◌, ℕ, ℤ, pos, suc, true, cond, List, [], ◌∷◌, Option, Some, None, IfSome, IfOk, is_some, refl, int_le, neg_ℤ, inl, inr, ap, subst, arith, option_and_then}
use Rattle.serde_json.specs.Data.{Data, Items, no_items, item}
use Rattle.serde_json.specs.Read.{read}
use Rattle.room_wire.specs.Prelude.{Global, coordinate, latitude, longitude, value_within, Name, Element, both_true, is_true, is_node, are_nodes, is_made, are_members, AreNodes, Pairs, are_tags, are_given, Action, is_made_action, are_made, One, Group, Body, is_made_body, message_of, spells, Asks, AsksAction, AskActions, HasElement, HasTags, IsMessage}
use Rattle.room_wire.proofs.Found.{if_any, if_passes, ok_more}
use Rattle.room_wire.proofs.SpelledMessages.{message_has}
use Rattle.room_wire.proofs.TreesInOrder.{IsInOrder, read_in_order}
use Rattle.osm_elements.specs.declared.element.Element.TheVariants as elements
use Rattle.room_interface.specs.declared.action.Action.TheVariants as actions
use Rattle.room_interface.specs.declared.call.Request.TheVariants as requests
use Rattle.room_wire.specs.declared.incoming.Body.TheVariants as bodies

nodes_made : (names : List Name) → AreNodes names → are_nodes names ≡ true
nodes_made [] h = refl
nodes_made (n ∷ ns) h = both_true (is_node n.kind) (are_nodes ns) (ap is_node (h 0 n (omega arith))) (nodes_made ns (λ k m l. h (suc k) m (omega arith)))

-- a coordinate that is read is in its range
range_kept : (limit : ℕ) (o : Option ℤ) → IfSome (option_and_then (value_within limit) o) (λ w. is_some (value_within limit w) ≡ true)
range_kept limit o =
    let P : ℤ → Type 0 = λ w. is_some (value_within limit w) ≡ true in
    if_any P o (value_within limit) (λ z. if_passes P (int_le (neg_ℤ (pos limit)) z && int_le z (pos limit)) (Some z) (λ e. ap (λ b. is_some (cond b (Some z) None)) e))

in_range : (limit : ℕ) (text : List ℕ) (w : ℤ) → option_and_then (value_within limit) (coordinate text) ≡ Some w → is_some (value_within limit w) ≡ true
in_range limit text w is = subst (λ o. IfSome o (λ w. is_some (value_within limit w) ≡ true)) is (range_kept limit (coordinate text))

tags_made : (d : Data) (tags : Pairs) → HasTags d tags → are_tags tags ≡ true
tags_made d tags (inl (has, rows)) = is_true (are_tags tags) rows
tags_made d tags (inr (missing, none)) = ap are_tags none

element_made : (d : Data) (element : Element Global) → HasElement d element → is_made element ≡ true
element_made d (elements.Node lat lon tags) (at, on, has) =
    both_true (is_some (latitude lat)) (is_some (longitude lon) && are_tags tags) (in_range 900000000 at.0 lat at.2)
    (both_true (is_some (longitude lon)) (are_tags tags) (in_range 1800000000 on.0 lon on.2) (tags_made d tags has))
element_made d (elements.Way nodes tags) (list, has) = both_true (are_nodes nodes) (are_tags tags) (nodes_made nodes list.1) (tags_made d tags has)
element_made d (elements.Relation members tags) (list, has) = both_true (are_members members) (are_tags tags) (is_true (are_members members) list.1) (tags_made d tags has)

action_made : (d : Data) (action : Action Global) → AsksAction d action → is_made_action action ≡ true
action_made d (actions.Create name element) asks = element_made d element asks.2
action_made d (actions.Retag name given) asks = is_true (are_given given) asks.2.1
action_made d (actions.Move names dlat dlon) asks = refl
action_made d (actions.Reverse name) asks = refl
action_made d (actions.Nodes name list) asks = nodes_made list asks.2.1
action_made d (actions.Members name list) asks = is_true (are_members list) asks.2.1
action_made d (actions.Delete name) asks = refl
action_made d (actions.Purge name) asks = refl
action_made d (actions.Split name place into) asks = refl
action_made d (actions.Join name other) asks = refl
action_made d (actions.Merge name other) asks = refl
action_made d (actions.Unglue name place into) asks = refl

actions_made : (ds : Items) (group : List (Action Global)) → AskActions ds group → are_made group ≡ true
actions_made no_items [] asks = refl
actions_made (item d ds) (a ∷ more) asks = both_true (is_made_action a) (are_made more) (action_made d a asks.0) (actions_made ds more asks.1)
actions_made no_items (a ∷ more) asks = absurd asks
actions_made (item d ds) [] asks = absurd asks

asked_made : (d : Data) (body : Body) → Asks d body → is_made_body body ≡ true
asked_made d (bodies.Change (requests.Do (One action) since)) (seen, asks) = action_made d action asks
asked_made d (bodies.Change (requests.Do (Group group) since)) (seen, word, has) = actions_made has.0 group has.3
asked_made d (bodies.Change (requests.Undo seq)) asks = refl
asked_made d (bodies.Change requests.Redo) asks = refl
asked_made d (bodies.Get name) asks = refl
asked_made d bodies.Map asks = refl
asked_made d bodies.Undos asks = refl
asked_made d (bodies.Hello room name) asks = refl

found_made : (found : Option Data) → IfSome found IsInOrder → IfOk (message_of found) (λ message. is_made_body message.body ≡ true)
found_made None h = tt
found_made (Some d) h = ok_more (IsMessage d) (λ message. is_made_body message.body ≡ true) (message_of (Some d)) (message_has d h) (λ message is. asked_made d message.body is.1)

pub spelled_is_made : (text : List ℕ) → IfOk (spells text) (λ message. is_made_body message.body ≡ true)
spelled_is_made text = found_made (read text) (read_in_order text)
