-- What is in range beside an end is in range for the parts.
use Rattle.std.proofs.Common.{ℕ}
use Rattle.hostile_lines.specs.declared.command.Command.{Command}
use Rattle.hostile_lines.specs.declared.command.Command.TheVariants.{Call, Show, Table, Accept, Complete, Gpadl, Packet, Vstor}
use Rattle.hostile_lines.specs.Ranges.{IsCommandIn}
use Rattle.hostile_decoders.specs.Parts.{IsPartIn}

pub part_in : (d : ℕ) (c : Command) → IsCommandIn d c → IsPartIn c
part_in d (Call c) h = tt
part_in d (Show r at) h = tt
part_in d (Table n) h = h
part_in d Accept h = tt
part_in d (Complete id) h = tt
part_in d (Gpadl b) h = tt
part_in d (Packet b) h = h.1
part_in d (Vstor b) h = tt
