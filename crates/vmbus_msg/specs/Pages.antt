-- The pages of a list and the frames of its header.
use Rattle.std.specs.Prelude.{◌≡◌, ℕ, ◌+◌, ◌-◌, ◌*◌, ◌/◌, ◌≤◌, min, List, length}

-- how many pages a range of this many bytes names, behind its 8 bytes of count and offset (`-` ends at 0)
abbrev pub pages_of : ℕ → ℕ
pages_of range_buflen = (range_buflen - 8) / 8

-- how many of them the header holds
abbrev pub header_frames : ℕ → ℕ
header_frames range_buflen = min 26 (pages_of range_buflen)

-- one range of at least one page, and as many frames of it as a header holds
abbrev pub IsHeaderForm : ℕ → ℕ → List ℕ → Type 0
IsHeaderForm range_buflen rangecount frames =
    (range_buflen ≡ 8 + 8 * pages_of range_buflen) × (1 ≤ pages_of range_buflen) × (rangecount ≡ 1) × (length frames ≡ header_frames range_buflen)

-- at least one frame
abbrev pub IsBodyForm : List ℕ → Type 0
IsBodyForm frames = (1 ≤ length frames) × (length frames ≤ 28)
