use Rattle.std.proofs.Common.{◌≡◌, ◌⊎◌, [], ◌∷◌, ◌++◌, Some, None, Err, length, inl, inr, sym, ap, ◌∙◌, subst, arith, append_assoc, length-append}
use Rattle.room_wire.specs.Prelude.{IsStrictlySortedBy, keys_of, members_view, view, Entry, or_fault, entry_of, given_tags_of, given_of, BadField, Memory}
use Rattle.room_wire.proofs.EntryLists.{key_cmp, with_front, entries_in-some, entries_in-none, entries_in-nil, same_keys_more, same_keys_length, put_last, or_fault_ok, entry_of-key, entries_of-few, entries_of-many}
use Rattle.room_wire.proofs.FaultsToldOn.{or_fault_err, told_on}
use Rattle.room_wire.specs.declared.field.Field.TheVariants as field
use Rattle.room_wire.proofs.tag_forms.given_tags_in.Goals as goal

pub returns-then-len-gt-MOST_TAGS : goal.returns-then-len-gt-MOST_TAGS
returns-then-len-gt-MOST_TAGS c = inr (ap (or_fault (BadField field.Tags)) (entries_of-many given_of c.args.members.entries (omega (arith, c.len.ensures.len))))

pub put_given_tag-requires-clause-room : goal.put_given_tag-requires-clause-room
put_given_tag-requires-clause-room c =
    let l = c.loop-key in
    let done = l.invariant.0 in
    let e : Entry = (c.in-Some.key, c.in-Some.value) in
    let all : c.args.members.entries ≡ done ++ e ∷ c.next.new.self = l.invariant.1 ∙ ap (λ es. done ++ es) c.in-Some.ensures.steps in
    let same = same_keys_length l.given_tags done l.invariant.2 in
    omega (arith, c.len.ensures.len, simp length-append at (ap length all), same)

pub loop-key-preserved : goal.loop-key-preserved
loop-key-preserved c =
    let l = c.loop-key in
    let done = l.invariant.0 in
    let e : Entry = (c.in-Some.key, c.in-Some.value) in
    let left = c.next.new.self in
    let step : l.key-iterator ≡ e ∷ left = c.in-Some.ensures.steps in
    let all : c.args.members.entries ≡ done ++ e ∷ left = l.invariant.1 ∙ ap (λ es. done ++ es) step in
    let key = c.in_ok-key.key in
    let value = c.in_ok-key.given in
    let read : entry_of given_of e.0.now (view e.1.now) ≡ Some (key, value) =
    or_fault_ok _ _ (key, value) c.in_ok-key.ensures in
    let named : key ≡ e.0.now = entry_of-key given_of e.0.now (view e.1.now) (key, value) read in
    let sorted = subst (λ es. IsStrictlySortedBy key_cmp (keys_of es)) all c.len.ensures.ordered in
    let put_is : c.put_given_tag.new.given_tags ≡ l.given_tags ++ (key, value) ∷ [] =
    c.in_ok-put_given_tag.ensures.ok ∙ rw named (put_last l.given_tags done e left value l.invariant.2 sorted) in (
      done ++ e ∷ [],
      all ∙ sym (append_assoc done (e ∷ []) left),
      rw put_is (same_keys_more l.given_tags done (key, value) e l.invariant.2 named),
      ap (λ ts. with_front given_of ts (members_view left)) put_is ∙ sym (entries_in-some given_of l.given_tags (key, value) e.0.now (view e.1.now) (members_view left) read)
          ∙ ap (λ es. with_front given_of l.given_tags (members_view es)) (sym step) ∙ l.invariant.3,
    )

pub returns : goal.returns
returns c =
    let l = c.loop-key in
    ap (or_fault (BadField field.Tags)) (entries_of-few given_of c.args.members.entries (omega (arith, c.len.ensures.len)) ∙ sym l.invariant.3
    ∙ ap (λ es. with_front given_of l.given_tags (members_view es)) c.in-None.ensures.steps.0 ∙ entries_in-nil given_of l.given_tags)

pub returns-in_err-key : goal.returns-in_err-key
returns-in_err-key c = told_on c.from_residual-in_err-key.result c.in_err-key.field-0.0 _ c.from_residual-in_err-key.ensures.0 c.from_residual-in_err-key.ensures.1 (by c.in_err-key.ensures)
  where
    missing : entry_of given_of c.in-Some.key.now (view c.in-Some.value.now) ≡ None → given_tags_of (members_view c.args.members.entries) ≡ None
    missing none =
        let l = c.loop-key in
        entries_of-few given_of c.args.members.entries (omega (arith, c.len.ensures.len)) ∙ sym l.invariant.3
        ∙ ap (λ es. with_front given_of l.given_tags (members_view es)) c.in-Some.ensures.steps
        ∙ entries_in-none given_of l.given_tags c.in-Some.key.now (view c.in-Some.value.now) (members_view c.next.new.self) none

    by : (c.in_err-key.field-0.0 ≡ Memory) ⊎ (or_fault (BadField field.Tags) (entry_of given_of c.in-Some.key.now (view c.in-Some.value.now)) ≡ Err c.in_err-key.field-0.0) → (c.in_err-key.field-0.0 ≡ Memory) ⊎ (or_fault (BadField field.Tags) (given_tags_of (members_view c.args.members.entries)) ≡ Err c.in_err-key.field-0.0)
    by (inl memory) = inl memory
    by (inr told) = inr (or_fault_err (BadField field.Tags) c.in_err-key.field-0.0 _ _ told missing)
