use Rattle.std.proofs.Common.{Some, None, not, slice_get, sym, ap, ◌∙◌, find}
use Rattle.osm_drafts.specs.Prelude.{ord_min, is_among, least, name_cmp_is, users, Table, users_in, users_in-table_of, sound_in_order}
use Rattle.osm_drafts.proofs.FirstUsers.{first_user_is}
use Rattle.osm_drafts.proofs.draft.Draft.first_user.Goals as goal

pub returns-in-Some-Some : goal.returns-in-Some-Some
returns-in-Some-Some g c =
    let m = c.self.inside.store.now.rows in
    let w = c.self.inside.written.keys in
    let here = c.self.inside.here in
    let e = c.args.name.now in
    let its = c.of.ensures.users ∙ ap (λ (t : Table). users_in t e) c.users.ensures ∙ users_in-table_of m e in
    let own = c.of-2.ensures.users ∙ ap (λ (t : Table). users_in t e) c.self.invariant.users_are ∙ users_in-table_of here e in
    ap Some (c.min.ensures ∙ ap (λ R. ord_min R c.in-Some-Some.stored c.in-Some-Some.own) name_cmp_is)
    ∙ first_user_is m w here e (sound_in_order m c.map.ensures.sound) c.self.invariant.order c.self.invariant.inside
    (Some c.in-Some-Some.stored) (Some c.in-Some-Some.own)
    (sym c.in-Some-Some.is-0 ∙ c.first_unwritten-stored.ensures ∙ ap (find (λ x. not (is_among w x))) its)
    (sym c.in-Some-Some.is-1 ∙ c.copied-own.ensures ∙ c.first.ensures.value ∙ ap (λ l. slice_get l 0) own)
    ∙ ap (λ k. least (users k e)) c.self.view_is

pub returns-in-Some-None : goal.returns-in-Some-None
returns-in-Some-None g c =
    let m = c.self.inside.store.now.rows in
    let w = c.self.inside.written.keys in
    let here = c.self.inside.here in
    let e = c.args.name.now in
    let its = c.of.ensures.users ∙ ap (λ (t : Table). users_in t e) c.users.ensures ∙ users_in-table_of m e in
    let own = c.of-2.ensures.users ∙ ap (λ (t : Table). users_in t e) c.self.invariant.users_are ∙ users_in-table_of here e in
    first_user_is m w here e (sound_in_order m c.map.ensures.sound) c.self.invariant.order c.self.invariant.inside
    (Some c.in-Some-None.stored) None
    (sym c.in-Some-None.is-0 ∙ c.first_unwritten-stored.ensures ∙ ap (find (λ x. not (is_among w x))) its)
    (sym c.in-Some-None.is-1 ∙ c.copied-own.ensures ∙ c.first.ensures.value ∙ ap (λ l. slice_get l 0) own)
    ∙ ap (λ k. least (users k e)) c.self.view_is

pub returns-in-None-default : goal.returns-in-None-default
returns-in-None-default g c =
    let m = c.self.inside.store.now.rows in
    let w = c.self.inside.written.keys in
    let here = c.self.inside.here in
    let e = c.args.name.now in
    let its = c.of.ensures.users ∙ ap (λ (t : Table). users_in t e) c.users.ensures ∙ users_in-table_of m e in
    let own = c.of-2.ensures.users ∙ ap (λ (t : Table). users_in t e) c.self.invariant.users_are ∙ users_in-table_of here e in
    first_user_is m w here e (sound_in_order m c.map.ensures.sound) c.self.invariant.order c.self.invariant.inside
    None c.copied-own.result
    (sym c.in-None-default.is-0 ∙ c.first_unwritten-stored.ensures ∙ ap (find (λ x. not (is_among w x))) its)
    (c.copied-own.ensures ∙ c.first.ensures.value ∙ ap (λ l. slice_get l 0) own)
    ∙ ap (λ k. least (users k e)) c.self.view_is
