-- How a seat is split into two, and how a seat is met into another.
use Rattle.std.specs.Prelude.{◌+◌, ◌-◌, [], ◌++◌, None}
use Rattle.turn_desk.specs.Desk.{share}
use Rattle.turn_desk.specs.Rule.{kin_of}
use Rattle.turn_desk.specs.declared.view.View.{View}
use Rattle.turn_desk.specs.declared.view.Stage.TheVariants.{Idle}

module _ {E F : Type 0} where
  -- the seat that was split: it gave away a share of its parts, and the first, third, fifth and so on of the numbers
  -- that it may give
  abbrev pub kept : View E F → View E F
  kept v = record v { parts = v.parts - share v.parts; next = v.next + v.stride; stride = v.stride + v.stride }

  -- the seat that was split off it: it has the first of these numbers, and may give the third, fifth and so on
  abbrev pub split_off : View E F → View E F
  split_off v = record {
    fixed = v.fixed;
    number = v.next;
    seen = v.seen;
    told = [];
    mine = [];
    met = [];
    looks = [];
    tickets = [];
    parts = share v.parts;
    next = v.next + (v.stride + v.stride);
    stride = v.stride + v.stride;
    stage = Idle;
  }

  -- the seat v into which w was met: it has the parts and the kin of both, and was told what w had seen
  abbrev pub joined : View E F → View E F → View E F
  joined v w = record v { told = w.seen; met = v.met ++ kin_of w; parts = v.parts + w.parts }

  -- what is left of a seat that was met into another
  abbrev pub spent : View E F
  spent = record {
    fixed = None;
    number = 0;
    seen = [];
    told = [];
    mine = [];
    met = [];
    looks = [];
    tickets = [];
    parts = 0;
    next = 0;
    stride = 0;
    stage = Idle;
  }
