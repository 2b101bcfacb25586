use Rattle.std.proofs.Common.{◌≡◌, ◌≤◌, ◌++◌, Some, ap, length, rules, sym, ◌∙◌}
use Rattle.std.specs.Prelude.{slice_get}
use Rattle.std.specs.List.{flat_map}
use Rattle.page_kept.specs.Items.{item_of}
use Rattle.packet_text.specs.Lines.{line_of}
use Rattle.packet_text.proofs.ItemLaws.{all_shown, items, items_at}
use Rattle.packet_text.proofs.PartLaws.{next_part}
use Rattle.packet_text.proofs.channel.push_list.Goals as goal

pub loop-i-preserved : goal.loop-i-preserved
loop-i-preserved c =
    let all = items c.args.packets.now.list c.args.packets.now.lent in
    let now = item_of c.in-Some-Some.packet.now c.in-Some-Some.words.now in
    let at : slice_get all c.loop-i.i ≡ Some now =
    items_at c.args.packets.now.list c.args.packets.now.lent c.loop-i.i c.in-Some-Some.packet.now c.in-Some-Some.ensures ∙ ap (λ w. Some (item_of c.in-Some-Some.packet.now w)) (sym c.in-Some-Some.ensures'.1) in
    next_part (line_of c.args.form c.args.from) all c.loop-i.i now c.loop-i.text.items c.push_packet.new.text.items (c.args.text.now.items ++ flat_map (line_of c.args.form c.args.from) all) at c.in_ok-push_packet.ensures c.loop-i.invariant

pub returns : goal.returns
returns c =
    let past : length c.args.packets.now.list ≤ c.loop-i.i = search rules in
    all_shown (line_of c.args.form c.args.from) c.args.packets.now.list c.args.packets.now.lent c.loop-i.i c.loop-i.text.items _ past c.loop-i.invariant
