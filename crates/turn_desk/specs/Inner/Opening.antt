-- The first seat of a desk.
use Rattle.std.specs.Prelude.{◌-◌, ◌^◌, [], Some}
use Rattle.turn_desk.specs.declared.view.View.{View}
use Rattle.turn_desk.specs.declared.view.Stage.TheVariants.{Idle}

-- it has the number 0, has seen nothing, and has every part
abbrev pub first_view : {E F : Type 0} → F → View E F
first_view f = record {
  fixed = Some f;
  number = 0;
  seen = [];
  told = [];
  mine = [];
  met = [];
  looks = [];
  tickets = [];
  parts = 2 ^ 64 - 1;
  next = 1;
  stride = 1;
  stage = Idle;
}
