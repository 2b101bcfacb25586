-- The start of a side's part in a thread.
use Rattle.std.specs.Prelude.{◌≡◌}
use Rattle.contact.specs.declared.part.Part.{Part}
use Rattle.control_side.specs.Sides.{Side}
use Rattle.control_path.specs.declared.part_side.PartSide.{PartSide}
use Rattle.control_path.specs.declared.start.Start.{Start}
use Rattle.control_path.specs.declared.start.Start.TheVariants.{Ran, Back}
use Rattle.control_path.specs.declared.start.Begun.{Begun}
use Rattle.control_path.specs.declared.start.Begun.TheVariants.{Thread, Here}
use Rattle.control_path.specs.Parts.{Leaves}

module _ {C : Type 0} (seen : C → Side) (follows : C → Type 0) where
  -- a part was served, or all comes back
  abbrev pub Comes : Part → PartSide C → Start C → Type 0
  Comes part side (Ran left) = Leaves seen follows part side left
  Comes part side (Back back) = back ≡ side

  -- a thread has it, or it came
  abbrev pub Begins : Part → PartSide C → Begun C → Type 0
  Begins part side (Thread handle) = (handle.promise.side.value ≡ side) × (handle.promise.part ≡ part)
  Begins part side (Here start) = Comes part side start
