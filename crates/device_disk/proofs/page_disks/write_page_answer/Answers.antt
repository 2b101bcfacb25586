use Rattle.std.proofs.Common.{[], length, ap, ◌∙◌, arith}
use Rattle.vm_page.specs.Words.{words_for, words_of}
use Rattle.pkt_desc.specs.Packets.{id_of}
use Rattle.page_kept.specs.Items.{item_of}
use Rattle.disk_format.specs.Disks.{done_packet}
use Rattle.device_disk.proofs.PageHeadLaws.{answer_srb, answer_goes, answer_few}
use Rattle.device_disk.proofs.page_disks.write_page_answer.Goals as goal

pub srb_reply-requires : goal.srb_reply-requires
srb_reply-requires c = let f = c.requires.fits in answer_srb (item_of c.args.packet.now c.args.words.now) c.args.v.now f.0 c.requires.head f.1

pub put_words-words-requires-clause-few : goal.put_words-words-requires-clause-few
put_words-words-requires-clause-few c =
    let f = c.requires.fits in
    let few = answer_few (item_of c.args.packet.now c.args.words.now) f.0 c.args.reply.now f.1 f.2 in
    omega (arith, few.1, ap length c.back.ensures)

pub returns-clause-value : goal.returns-clause-value
returns-clause-value c n j enough lays =
    let f = c.requires.fits in
    let i = item_of c.args.packet.now c.args.words.now in
    answer_goes i c.args.v.now f.0 c.args.reply.now _ _ c.requires.head f.1 f.2 (c.write_done-written.ensures.packet ∙ ap (λ w. done_packet (id_of i.packet) w []) c.srb_reply.ensures.value) (c.put_words-words.ensures.words ∙ ap words_of c.back.ensures) n j lays

pub returns-clause-most : goal.returns-clause-most
returns-clause-most c =
    let f = c.requires.fits in
    let few = answer_few (item_of c.args.packet.now c.args.words.now) f.0 c.args.reply.now f.1 f.2 in
    let long = ap length c.back.ensures in
    record { packet = c.write_done-written.ensures.most; words = omega arith; lent = omega (arith, c.put_words-words.ensures.len, few.1, long) }

pub returns-clause-within : goal.returns-clause-within
returns-clause-within c =
    let f = c.requires.fits in
    let few = answer_few (item_of c.args.packet.now c.args.words.now) f.0 c.args.reply.now f.1 f.2 in
    let long = ap (λ b. words_for (length b)) c.back.ensures in
    omega (arith, c.put_words-words.ensures.len, few.0, long)
