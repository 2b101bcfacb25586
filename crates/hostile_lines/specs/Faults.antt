-- Why a line is refused after the lines before it.
use Rattle.std.specs.Prelude.{◌≡◌, ℕ, ◌*◌, ◌==◌, ◌&&◌, ◌||◌, Bool, true, false, not, is_some, nat_le, nat_lt, List, Option, Some, None, unwrap_or, if◌then◌else◌}
use Rattle.std.specs.Option.{option_or}
use Rattle.script_text.specs.declared.fault.Why6.{Why6}
use Rattle.script_text.specs.declared.fault.Why6.TheVariants.{Form, Limit, Order, Range}
use Rattle.script_text.specs.declared.fault.ParseFault.{ParseFault}
use Rattle.script_text.specs.declared.fault.ParseFault.TheVariants.{Script as IsScript, Memory}
use Rattle.hostile_lines.specs.declared.said.Said.{Said}
use Rattle.hostile_lines.specs.declared.said.Said.TheVariants.{Nothing, Ring as Rings, Set, Before, Long, Asks}
use Rattle.hostile_lines.specs.Rows.{said_in}

-- a reason, where a test fails
abbrev pub unless : Bool → Why6 → Option Why6
unless holds why = if holds then None else Some why

-- the bytes of data of each ring
abbrev pub data_of : Option ℕ → ℕ
data_of ring = 4096 * unwrap_or ring 1

-- a line that asks something
abbrev pub is_command : Said → Bool
is_command Nothing = false
is_command (Rings pages) = false
is_command (Set put) = false
is_command (Before change) = false
is_command Long = true
is_command (Asks command) = true

-- one whose digits write more than 512 bytes
abbrev pub is_long : Said → Bool
is_long Nothing = false
is_long (Rings pages) = false
is_long (Set put) = false
is_long (Before change) = false
is_long Long = true
is_long (Asks command) = false

-- Limit: there are 20,000 lines, whatever they hold, 256 of them ask something, and digits write 512 bytes
abbrev pub limit_fault : ℕ → ℕ → Said → Option Why6
limit_fault number asked said = unless (nat_le number 20000 && (not (is_command said) || nat_lt asked 256) && not (is_long said)) Limit

-- Order: the pages are said by the first line with words, and words are set before anything is asked
abbrev pub order_fault : Bool → ℕ → Said → Option Why6
order_fault first asked Nothing = None
order_fault first asked (Rings pages) = unless first Order
order_fault first asked (Set put) = unless (asked == 0) Order
order_fault first asked (Before change) = unless (asked == 0) Order
order_fault first asked Long = None
order_fault first asked (Asks command) = None

-- Range: each value is in its range
abbrev pub range_fault : Said → Option Why6
range_fault Nothing = None
range_fault (Rings pages) = unless (is_some pages) Range
range_fault (Set put) = unless (is_some put) Range
range_fault (Before change) = unless (is_some change) Range
range_fault Long = None
range_fault (Asks command) = unless (is_some command) Range

-- the first reason against a row, in the order Limit, Order, Range
abbrev pub row_fault : ℕ → Bool → ℕ → Said → Option Why6
row_fault number first asked said = option_or (option_or (limit_fault number asked said) (order_fault first asked said)) (range_fault said)

-- the first reason against what a line says; one that is no row of the table says nothing in form
abbrev pub fault_of : ℕ → Bool → ℕ → Option Said → Option Why6
fault_of number first asked None = Some Form
fault_of number first asked (Some said) = row_fault number first asked said

-- the line says this, and nothing stands against it
abbrev pub IsRead : ℕ → Option ℕ → Bool → ℕ → List ℕ → Said → Type 0
IsRead number ring first asked line said = (said_in (data_of ring) line ≡ Some said) × (row_fault number first asked said ≡ None)

-- this is the reason against the line; or memory was short
abbrev pub IsRefused : ℕ → Option ℕ → Bool → ℕ → List ℕ → ParseFault → Type 0
IsRefused number ring first asked line (IsScript fault) = (fault.line ≡ number) × (fault_of number first asked (said_in (data_of ring) line) ≡ Some fault.why)
IsRefused number ring first asked line Memory = Unit {0}
