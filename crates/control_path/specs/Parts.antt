-- A part of one side, from its side to what it leaves.
use Rattle.std.specs.Prelude.{◌≡◌, []}
use Rattle.contact.specs.declared.part.Part.{Part}
use Rattle.control_side.specs.declared.part_left.PartLeft.{PartLeft}
use Rattle.control_side.specs.Sides.{Side, AtRest, Served}
use Rattle.control_path.specs.declared.part_side.PartSide.{PartSide}

module _ {C : Type 0} (seen : C → Side) (follows : C → Type 0) where
  -- a side may begin a part
  pub record IsReady (can_begin : C → Part → Type 0) (side : PartSide C) (part : Part) : Type 0 where
    pub follows_on : follows side.control
    pub part_is : can_begin side.control part
    pub rest : AtRest (seen side.control) side.fetch side.post
    pub local : side.local ≡ record { size = 64; queue = [] }

  -- a side served a part, and its box is empty again
  pub record Leaves (part : Part) (side : PartSide C) (left : PartLeft C) : Type 0 where
    pub follows_on : follows left.done.control
    pub served : Served part (seen side.control) side.fetch side.post (seen left.done.control) left.done.fetch left.done.post left.done.fault
    pub local : left.local ≡ record { size = 64; queue = [] }
