-- Why a line is refused after the lines before it.
use Rattle.std.specs.Prelude.{◌≡◌, ℕ, ◌*◌, Bool, is_some, nat_le, List, Option, Some, None, unwrap_or, if◌then◌else◌}
use Rattle.std.specs.Option.{option_or}
use Rattle.script_text.specs.declared.fault.Why6.{Why6}
use Rattle.script_text.specs.declared.fault.Why6.TheVariants.{Form, Limit, Order, Range}
use Rattle.script_text.specs.declared.fault.ParseFault.{ParseFault}
use Rattle.script_text.specs.declared.fault.ParseFault.TheVariants.{Script as IsScript, Memory}
use Rattle.trace_lines.specs.declared.said.Said.{Said}
use Rattle.trace_lines.specs.declared.said.Said.TheVariants.{Nothing, Ring, Says}
use Rattle.trace_lines.specs.Rows.{said_in}

-- a reason, where a test fails
abbrev pub unless : Bool → Why6 → Option Why6
unless holds why = if holds then None else Some why

-- the bytes of data of each ring
abbrev pub data_of : Option ℕ → ℕ
data_of ring = 4096 * unwrap_or ring 1

-- Limit: there are 20,000 lines, whatever they hold
abbrev pub line_limit : ℕ → Option Why6
line_limit number = unless (nat_le number 20000) Limit

-- Order: the pages are said by the first line with words
abbrev pub order_fault : Bool → Said → Option Why6
order_fault first Nothing = None
order_fault first (Ring pages) = unless first Order
order_fault first (Says what) = None

-- Range: each value is in its range
abbrev pub range_fault : Said → Option Why6
range_fault Nothing = None
range_fault (Ring pages) = unless (is_some pages) Range
range_fault (Says what) = unless (is_some what) Range

-- the first reason against a row, in the order Limit, Order, Range
abbrev pub row_fault : ℕ → Bool → Said → Option Why6
row_fault number first said = option_or (option_or (line_limit number) (order_fault first said)) (range_fault said)

-- the first reason against what a line says; one that is no row of the table says nothing in form
abbrev pub fault_of : ℕ → Bool → Option Said → Option Why6
fault_of number first None = Some Form
fault_of number first (Some said) = row_fault number first said

-- the line says this, and nothing stands against it
abbrev pub IsRead : ℕ → Option ℕ → Bool → List ℕ → Said → Type 0
IsRead number ring first line said = (said_in (data_of ring) line ≡ Some said) × (row_fault number first said ≡ None)

-- this is the reason against the line; or memory was short
abbrev pub IsRefused : ℕ → Option ℕ → Bool → List ℕ → ParseFault → Type 0
IsRefused number ring first line (IsScript fault) = (fault.line ≡ number) × (fault_of number first (said_in (data_of ring) line) ≡ Some fault.why)
IsRefused number ring first line Memory = Unit {0}
