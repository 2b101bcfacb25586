-- The versions that a negotiate message offers.
use Rattle.std.specs.Prelude.{ℕ, zero, suc, ◌==◌, Bool, ◌&&◌, List, [], ◌∷◌, drop, slice_range, Option, Some, None, if◌then◌else◌}
use Rattle.std.specs.List.{list_any}
use Rattle.wire_table.specs.Little.{number_of}
use Rattle.util_ic.specs.declared.version.Version.{Version}

-- the version in the first four bytes
abbrev pub version_at : List ℕ → Version
version_at b = record { major = number_of (slice_range b 0 2); minor = number_of (slice_range b 2 4) }

-- the first so many versions
unfoldable pub versions_in : ℕ → List ℕ → List Version
versions_in zero b = []
versions_in (suc n) b = version_at b ∷ versions_in n (drop 4 b)

abbrev pub same : Version → Version → Bool
same u v = (u.major == v.major) && (u.minor == v.minor)

-- the test whether a version is one of these
abbrev pub is_offered : List Version → Version → Bool
is_offered offered v = list_any (same v) offered

-- the versions that the guest knows
abbrev pub version_3_0 : Version
version_3_0 = record { major = 3; minor = 0 }

abbrev pub version_1_0 : Version
version_1_0 = record { major = 1; minor = 0 }

-- the greatest known version among those offered
abbrev pub greatest_known : List Version → Option Version
greatest_known offered =
    if is_offered offered version_3_0 then Some version_3_0
    else (if is_offered offered version_1_0 then Some version_1_0 else None)
