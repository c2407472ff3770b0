use Rattle.std.proofs.Common.{◌≡◌, ◌⊎◌, ◌≤◌, None, Some, MatchResult, drop, length, take, inl, sym, subst}
use Rattle.edit_topology.specs.Prelude.{Memory, first_that_holds, err_result, first_stays, join_checks}
use Rattle.edit_topology.specs.Inner.Joining.{way_of_both}
use Rattle.edit_topology.proofs.JoinWays.{has_one}
use Rattle.edit_topology.proofs.join.way_of_both.Goals as goal

pub returns-in_err-nodes-clause-way : goal.returns-in_err-nodes-clause-way
returns-in_err-nodes-clause-way g c =
    let checks = join_checks c.args.rows.now c.args.name.now c.args.other.now in
    err_result (λ result. MatchResult result (λ joined. (first_that_holds checks ≡ None) × (joined ≡ way_of_both c.args.rows.now c.args.name.now c.args.other.now)) (λ r. (first_that_holds checks ≡ Some r) ⊎ (r ≡ Memory)))
    c.from_residual.result c.in_err-nodes.field-0.0 c.from_residual.ensures.0 c.from_residual.ensures.1 (inl (first_stays (take 7 checks) (drop 7 checks) _ c.in_err-nodes.ensures))

pub end_to_end-requires : goal.end_to_end-requires
end_to_end-requires g c = subst (λ l. 1 ≤ length l) (sym c.deref-2.ensures) (has_one c.args.rows.now c.args.other.now c.in_ok-nodes.other_nodes.now c.in_ok-nodes.other_tags.now c.requires c.in_ok-nodes.ensures.2)
