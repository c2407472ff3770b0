use Rattle.edit_footprint.specs.Facts.Meeting.{apart, both_have, none_lesser, either_way}
use Rattle.edit_footprint.proofs.laws.footprints_meet_in_their_least.Goals as goal

pub returns-clause-shared : goal.returns-clause-shared
returns-clause-shared c = both_have

pub returns-clause-least : goal.returns-clause-least
returns-clause-least c = λ one two x t u rises meet. none_lesser one two x rises meet t u

pub returns-clause-none : goal.returns-clause-none
returns-clause-none c = λ one two t u none. apart one two none t u

pub returns-clause-either_way : goal.returns-clause-either_way
returns-clause-either_way c = either_way
