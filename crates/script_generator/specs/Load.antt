-- The load script: half of its requests write blocks of a disk, and the others read them back in the next phase.
use Rattle.std.specs.Prelude.{ℕ, ◌+◌, ◌*◌, ◌/◌, ◌%◌, List, ◌∷◌, ◌++◌, map, codes, Some}
use Rattle.std.specs.List.{range_with_len}
use Rattle.script_lines.specs.declared.line.Line.{Line}
use Rattle.script_lines.specs.declared.line.What.TheVariants.{Offer as IsOffer, Ask as IsAsk, Phase as IsPhase}
use Rattle.script_lines.specs.declared.line.Ask.TheVariants.{Disk as AskDisk}
use Rattle.script_lines.specs.declared.line.DeviceSpec.TheVariants.{Disk as IsDisk}
use Rattle.script_lines.specs.declared.disk_ask.DiskAsk.{DiskAsk}
use Rattle.script_lines.specs.declared.disk_ask.DiskAsk.TheVariants.{Read, Write}
use Rattle.script_lines.specs.Requests.{request_of}

-- a line that asks the disk
abbrev pub ask_line : ℕ → DiskAsk → Line
ask_line number ask = record { number = number; what = IsAsk 0 (AskDisk (request_of ask)) }

-- the byte that fills block k: from block to block it goes on by 7
abbrev pub fill_of : ℕ → ℕ → ℕ
fill_of seed k = (seed + 7 * k) % 256

-- offer disk d0 4096 3
abbrev pub offer_line : Line
offer_line = record { number = 1; what = IsOffer (codes "d0") (IsDisk 4096 3) }

-- write d0 k 1 HH
abbrev pub write_line : ℕ → ℕ → Line
write_line seed k = ask_line (k + 2) (Write (Some k) (Some 1) (fill_of seed k))

-- phase
abbrev pub phase_line : ℕ → Line
phase_line half = record { number = half + 2; what = IsPhase }

-- read d0 k 1
abbrev pub read_line : ℕ → ℕ → Line
read_line half k = ask_line (half + 3 + k) (Read (Some k) (Some 1))

-- the blocks from 0 on are written, one by one, and then, in another phase, they are read in the same order
abbrev pub lines_over : ℕ → ℕ → List Line
lines_over seed half = offer_line ∷ map (write_line seed) (range_with_len 0 half) ++ (phase_line half ∷ map (read_line half) (range_with_len 0 half))

-- the script of so many requests
abbrev pub load_lines : ℕ → ℕ → List Line
load_lines seed count = lines_over seed (count / 2)
