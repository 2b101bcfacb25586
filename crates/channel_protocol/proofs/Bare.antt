-- A protocol whose packets lend no pages, and are read as they are.
use Rattle.std.proofs.Common.{◌≡◌, ◌≤◌, length, true, false, arith}
use Rattle.page_kept.specs.declared.item.Item.{Item}
use Rattle.channel_model.specs.WireFormat.{WireFormat}
use Rattle.channel_protocol.specs.Paged.{KeepsPages}

pub none_paged : {A Q R : Type 0} (s : WireFormat Item A Q R) → false ≡ true → KeepsPages s
none_paged s e = absurd (cc)

pub few_same : (i : Item) → length i.words ≤ length i.words
few_same i = omega arith
