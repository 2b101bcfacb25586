-- Steps whose texts are read back.
use Rattle.std.specs.Prelude.{◌≡◌, ℕ, ◌<◌, ◌%◌, ◌^◌, List, ◌∷◌, ◌++◌, Some}
use Rattle.std.specs.Str.Lines.{lines}
use Rattle.io_edge.specs.declared.side.Side.{Side}
use Rattle.ring_machine.specs.declared.place.Place.{Place}
use Rattle.ring_machine.specs.declared.place.Place.TheVariants.{Write, Read, Mask, Pending, Feature, Cell, Signal, Mark, Page}
use Rattle.ring_machine.specs.declared.place.Op.{Op}
use Rattle.ring_machine.specs.declared.place.Op.TheVariants.{Load, Store, Raise, TakeSignal, StoreMark}
use Rattle.trace_model.specs.declared.what.TraceWhat.{TraceWhat}
use Rattle.trace_lines.specs.Rows.{said_in}
use Rattle.trace_lines.specs.declared.said.Said.TheVariants.{Says}

-- a word of a ring that has d bytes of data: a cell's offset is a multiple of 8 below d
abbrev pub IsRingWord : ℕ → Place → Type 0
IsRingWord d (Write r) = Unit {0}
IsRingWord d (Read r) = Unit {0}
IsRingWord d (Mask r) = Unit {0}
IsRingWord d (Pending r) = Unit {0}
IsRingWord d (Feature r) = Unit {0}
IsRingWord d (Cell r at) = (at < d) × (at % 8 ≡ 0)
IsRingWord d (Signal x) = ⊥
IsRingWord d (Mark x) = ⊥
IsRingWord d (Page q w) = ⊥

-- a word of a ring, or a mark
abbrev pub IsLoaded : ℕ → Place → Type 0
IsLoaded d (Write r) = Unit {0}
IsLoaded d (Read r) = Unit {0}
IsLoaded d (Mask r) = Unit {0}
IsLoaded d (Pending r) = Unit {0}
IsLoaded d (Feature r) = Unit {0}
IsLoaded d (Cell r at) = (at < d) × (at % 8 ≡ 0)
IsLoaded d (Signal x) = ⊥
IsLoaded d (Mark x) = Unit {0}
IsLoaded d (Page q w) = ⊥

-- A step of an end of a channel without data pages, which answered v: a load of a word of a ring or of a mark, a store to a word of a ring, a raise, the exchange
-- of the end's own signal, or the store of its own mark. Words have 64 bits, and a store and a raise answer 0
abbrev pub IsStepOf : ℕ → Side → Op → ℕ → Type 0
IsStepOf d x (Load p) v = IsLoaded d p × (v < 2 ^ 64)
IsStepOf d x (Store p w) v = IsRingWord d p × (w < 2 ^ 64) × (v ≡ 0)
IsStepOf d x (Raise y) v = v ≡ 0
IsStepOf d x (TakeSignal y) v = (y ≡ x) × (v < 2 ^ 64)
IsStepOf d x (StoreMark y) v = (y ≡ x) × (v ≡ 0)

-- the text is one line of a trace whose rings have d bytes of data, which says this, whatever comes behind it
pub record ReadsAs (d : ℕ) (text : List ℕ) (what : TraceWhat) : Type 0 where
  pub line : List ℕ
  pub cut : (rest : List ℕ) → lines (text ++ rest) ≡ line ∷ lines rest
  pub said : said_in d line ≡ Some (Says (Some what))
