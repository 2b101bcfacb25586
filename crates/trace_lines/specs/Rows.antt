-- The rows of the table of lines.
use Rattle.std.specs.Prelude.{ℕ, List, [], ◌∷◌, codes, Option, Some, None, if◌then◌else◌, option_and_then}
use Rattle.std.specs.Option.{option_map}
use Rattle.std.specs.Str.{bytes_eq}
use Rattle.io_edge.specs.declared.side.Side.{Side}
use Rattle.trace_model.specs.declared.what.TraceCall.{TraceCall}
use Rattle.trace_model.specs.declared.what.TraceCall.TheVariants.{Send, Take, Commit, Arm, Poll, Mark, PeerMark}
use Rattle.trace_model.specs.declared.what.TraceWhat.{TraceWhat}
use Rattle.trace_model.specs.declared.what.TraceWhat.TheVariants.{Call}
use Rattle.trace_lines.specs.declared.said.Said.{Said}
use Rattle.trace_lines.specs.declared.said.Said.TheVariants.{Nothing, Ring, Says}
use Rattle.script_text.specs.Forms.{is_decimal, number_of, in_u64, within}
use Rattle.line_words.specs.Lines.{words_in}
use Rattle.trace_lines.specs.Numbers.{are_numbers, numbers_of}
use Rattle.trace_lines.specs.Places.{side_of}
use Rattle.trace_lines.specs.Steps.{step_row}

abbrev pub says : Option (Option TraceWhat) → Option Said
says what = option_map Says what

-- nothing, behind the name of this call
abbrev pub call_alone : Side → TraceCall → List (List ℕ) → Option Said
call_alone x call [] = Some (Says (Some (Call x call)))
call_alone x call (word ∷ others) = None

-- WORDS
abbrev pub send_row : Side → List (List ℕ) → Option Said
send_row x (numbers ∷ []) = if are_numbers numbers then Some (Says (Some (Call x (Send (numbers_of numbers))))) else None
send_row x others = None

abbrev pub arm_of : Side → Option ℕ → Option TraceWhat
arm_of x None = None
arm_of x (Some want) = Some (Call x (Arm (Some want)))

-- nothing or WANT
abbrev pub arm_row : Side → List (List ℕ) → Option Said
arm_row x [] = Some (Says (Some (Call x (Arm None))))
arm_row x (want ∷ []) = if is_decimal want then Some (Says (arm_of x (in_u64 (number_of want)))) else None
arm_row x others = None

-- the calls that have no packet
abbrev pub plain_call : Side → List ℕ → List (List ℕ) → Option Said
plain_call x name others =
    if bytes_eq name (codes "take") then call_alone x Take others else
    if bytes_eq name (codes "commit") then call_alone x Commit others else
    if bytes_eq name (codes "arm") then arm_row x others else
    if bytes_eq name (codes "poll") then call_alone x Poll others else
    if bytes_eq name (codes "mark") then call_alone x Mark others else
    if bytes_eq name (codes "peer") then call_alone x PeerMark others else None

abbrev pub call_by : Side → List ℕ → List (List ℕ) → Option Said
call_by x name others = if bytes_eq name (codes "send") then send_row x others else plain_call x name others

-- SIDE and a call, behind call
abbrev pub call_row : List (List ℕ) → Option Said
call_row (side ∷ name ∷ others) = option_and_then (λ x. call_by x name others) (side_of side)
call_row others = None

-- PAGES, behind ring
abbrev pub ring_row : List (List ℕ) → Option Said
ring_row (pages ∷ []) = if is_decimal pages then Some (Ring (within 1 16 (in_u64 (number_of pages)))) else None
ring_row others = None

-- the table of lines: what stands behind each key word
abbrev pub row_of : ℕ → List ℕ → List (List ℕ) → Option Said
row_of d key others =
    if bytes_eq key (codes "step") then says (step_row d others) else
    if bytes_eq key (codes "call") then call_row others else
    if bytes_eq key (codes "ring") then ring_row others else None

-- what these words say: nothing, where there are none
abbrev pub said_by : ℕ → List (List ℕ) → Option Said
said_by d [] = Some Nothing
said_by d (key ∷ others) = row_of d key others

-- what a line says in a trace whose rings have d bytes of data
abbrev pub said_in : ℕ → List ℕ → Option Said
said_in d line = option_and_then (said_by d) (words_in line)
