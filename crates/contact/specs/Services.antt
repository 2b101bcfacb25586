-- The service ids of sockets.
use Rattle.std.specs.Prelude.{ℕ, List, [], ◌∷◌, ◌++◌}
use Rattle.std.specs.Int.{to_le_bytes, w32}

-- PPPPPPPP-facb-11e6-bd58-64006a7986d3, where P is the port: of the five groups the first three are little-endian
abbrev pub service_id : ℕ → List ℕ
service_id port = to_le_bytes w32 port ++ (0xcb ∷ 0xfa ∷ 0xe6 ∷ 0x11 ∷ 0xbd ∷ 0x58 ∷ 0x64 ∷ 0x00 ∷ 0x6a ∷ 0x79 ∷ 0x86 ∷ 0xd3 ∷ [])
