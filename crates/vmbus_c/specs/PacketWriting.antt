-- Packets that name pages: which there are, and how many words they have.
use Rattle.std.specs.Prelude.{◌≡◌, ℕ, ◌+◌, ◌*◌, ◌≤◌, List, length, None}
use Rattle.vm_page.specs.Cuts.{fault_of, parts_count}
use Rattle.vm_page.specs.Words.{words_for}
use Rattle.vmbus_c.specs.declared.packets.VmbusPart.{VmbusPart}

-- the words of a packet with a range for each of these pages
abbrev pub pages_words : ℕ → List ℕ → List ℕ → ℕ
pages_words bytes pages payload = 3 + 2 * parts_count bytes pages + words_for (length payload)

-- these pages are those of the range, and the packet has 384 words at most
abbrev pub CanName : ℕ → ℕ → List ℕ → List ℕ → Type 0
CanName offset bytes pages payload = (fault_of offset bytes (length pages) ≡ None) × (pages_words bytes pages payload ≤ 384)

-- the bytes and the offset of a range of a buffer
abbrev pub part_of : VmbusPart → ℕ × ℕ
part_of p = (p.bytes, p.offset)

-- the words of a packet with these ranges of a buffer
abbrev pub parts_words : List VmbusPart → List ℕ → ℕ
parts_words parts payload = 3 + length parts + words_for (length payload)
