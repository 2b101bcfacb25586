use Rattle.std.proofs.Common.{◌≡◌, ℕ, ◌++◌, List, sym, subst}
use Rattle.std.specs.Prelude.{codes}
use Rattle.std.specs.Fmt.{decimal}
use Rattle.std.specs.Result.{OnOk}
use Rattle.pkt_desc.specs.declared.desc.PacketFault.{PacketFault}
use Rattle.hostile_decoders.specs.Packets.{packet_fault_said}
use Rattle.hostile_decoders.proofs.packet.push_fault.Goals as goal

pub returns-in-Offset-clause-text : goal.returns-in-Offset-clause-text
returns-in-Offset-clause-text c =
    subst (λ (f : PacketFault). OnOk c.push_two-in-Offset.result (c.push_two-in-Offset.new.text.items ≡ c.args.text.now.items ++ packet_fault_said f)) (sym c.in-Offset.is)
    (subst (λ (z : ℕ × ℕ). OnOk c.push_two-in-Offset.result (c.push_two-in-Offset.new.text.items ≡ c.args.text.now.items ++ ((codes "packet offset " ++ decimal z.0) ++ (codes " length " ++ decimal z.1))))
    (λ j. (c.from-in-Offset.ensures j, c.from-in-Offset-2.ensures j)) c.push_two-in-Offset.ensures.text)
