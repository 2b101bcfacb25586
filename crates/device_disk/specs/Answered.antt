-- What is decoded of a disk's answer.
use Rattle.std.specs.Prelude.{◌≡◌, Some}
use Rattle.vm_page.specs.Words.{bytes_in}
use Rattle.pkt_desc.specs.Packets.{kind_of}
use Rattle.page_kept.specs.declared.item.Item.{Item}
use Rattle.stor_proto.specs.Srbs.{reply_at}
use Rattle.device_packets.specs.Said.{came_in}
use Rattle.disk_format.specs.PageDisks.{page_result}
use Rattle.device_disk.specs.declared.disk_answer.DiskAnswer.{DiskAnswer}

-- it is a completion with these many bytes, and the reply that it says is the one of this end
pub record IsAnswered (i : Item) (h : DiskAnswer) : Type 0 where
  pub completes : kind_of i.packet ≡ 11
  pub came : came_in i.packet ≡ h.came
  pub says : page_result i ≡ reply_at (Some h.end) (bytes_in i.words)
