use Rattle.std.proofs.Common.{◌≡◌, drop}
use Rattle.json.specs.Value.{members_view as json_members}
use Rattle.serde_json.specs.Data.{no_members}
use Rattle.json_values.specs.Views.{members_data, members_view}
use Rattle.json_values.proofs.look.members.Given as goal

abbrev pub invariant-members : goal.invariant-members
invariant-members l = members_data (json_members (drop l.member-index l.member-items)) (members_view l.found.entries) ≡ members_data (json_members l.member-items) no_members
