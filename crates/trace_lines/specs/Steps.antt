-- The words of a step.
use Rattle.std.specs.Prelude.{ℕ, ◌==◌, Bool, true, false, ◌&&◌, List, [], ◌∷◌, codes, Option, Some, None, if◌then◌else◌, option_and_then}
use Rattle.std.specs.Option.{option_map}
use Rattle.std.specs.Str.{bytes_eq}
use Rattle.io_edge.specs.declared.side.Side.{Side}
use Rattle.io_edge.specs.declared.side.Side.TheVariants.{Guest, Host}
use Rattle.ring_machine.specs.declared.place.Place.{Place}
use Rattle.ring_machine.specs.declared.place.Place.TheVariants.{Write, Read, Mask, Pending, Feature, Cell, Signal, Mark, Page}
use Rattle.ring_machine.specs.declared.place.Op.{Op}
use Rattle.ring_machine.specs.declared.place.Op.TheVariants.{Load, Store, Raise, TakeSignal, StoreMark}
use Rattle.trace_model.specs.declared.what.TraceWhat.{TraceWhat}
use Rattle.trace_model.specs.declared.what.TraceWhat.TheVariants.{Step}
use Rattle.line_words.specs.Values.{is_value, value_of}
use Rattle.trace_lines.specs.Places.{side_of, place_in}

abbrev pub is_same : Side → Side → Bool
is_same Guest Guest = true
is_same Guest Host = false
is_same Host Guest = false
is_same Host Host = true

-- a store of 1 to an end's own mark is the store of the mark
abbrev pub stored_op : Side → Place → ℕ → Op
stored_op x (Mark y) v = if is_same y x && (v == 1) then StoreMark x else Store (Mark y) v
stored_op x (Write r) v = Store (Write r) v
stored_op x (Read r) v = Store (Read r) v
stored_op x (Mask r) v = Store (Mask r) v
stored_op x (Pending r) v = Store (Pending r) v
stored_op x (Feature r) v = Store (Feature r) v
stored_op x (Cell r at) v = Store (Cell r at) v
stored_op x (Signal y) v = Store (Signal y) v
stored_op x (Page q w) v = Store (Page q w) v

-- a number in its form: none inside, where it has more than 64 bits
abbrev pub number_in : List ℕ → Option (Option ℕ)
number_in w = if is_value w then Some (value_of w) else None

-- a load that gave this value, and a store of it. A value out of range is none
abbrev pub load_of : Side → Option Place → Option ℕ → Option TraceWhat
load_of x (Some p) (Some v) = Some (Step x (Load p) v)
load_of x (Some p) None = None
load_of x None v = None

abbrev pub store_of : Side → Option Place → Option ℕ → Option TraceWhat
store_of x (Some p) (Some v) = Some (Step x (stored_op x p v) 0)
store_of x (Some p) None = None
store_of x None v = None

-- PLACE VALUE
abbrev pub load_row : ℕ → Side → List (List ℕ) → Option (Option TraceWhat)
load_row d x (place ∷ value ∷ []) = option_and_then (λ p. option_map (λ v. load_of x p v) (number_in value)) (place_in d place)
load_row d x others = None

abbrev pub store_row : ℕ → Side → List (List ℕ) → Option (Option TraceWhat)
store_row d x (place ∷ value ∷ []) = option_and_then (λ p. option_map (λ v. store_of x p v) (number_in value)) (place_in d place)
store_row d x others = None

-- SIDE
abbrev pub raise_row : Side → List (List ℕ) → Option (Option TraceWhat)
raise_row x (whose ∷ []) = option_map (λ y. Some (Step x (Raise y) 0)) (side_of whose)
raise_row x others = None

abbrev pub signal_of : Side → Option ℕ → Option TraceWhat
signal_of x None = None
signal_of x (Some v) = Some (Step x (TakeSignal x) v)

-- VALUE
abbrev pub signal_row : Side → List (List ℕ) → Option (Option TraceWhat)
signal_row x (value ∷ []) = option_map (signal_of x) (number_in value)
signal_row x others = None

-- the table of steps: what stands behind each word
abbrev pub step_by : ℕ → Side → List ℕ → List (List ℕ) → Option (Option TraceWhat)
step_by d x kind others =
    if bytes_eq kind (codes "load") then load_row d x others else
    if bytes_eq kind (codes "store") then store_row d x others else
    if bytes_eq kind (codes "raise") then raise_row x others else
    if bytes_eq kind (codes "signal") then signal_row x others else None

-- SIDE and a step, behind step: none inside, where a value is out of range
abbrev pub step_row : ℕ → List (List ℕ) → Option (Option TraceWhat)
step_row d (side ∷ kind ∷ others) = option_and_then (λ x. step_by d x kind others) (side_of side)
step_row d others = None
