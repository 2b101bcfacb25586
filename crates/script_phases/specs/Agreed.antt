-- The versions of both ends of a script.
use Rattle.std.specs.Prelude.{ℕ, List, [], ◌∷◌, min}
use Rattle.std.specs.Option.{option_map_or}
use Rattle.contact.specs.declared.version.Version.{Version}
use Rattle.contact.specs.Versions.{version}
use Rattle.script_lines.specs.declared.line.Line.{Line}
use Rattle.script_lines.specs.declared.line.What.{What}
use Rattle.script_lines.specs.Lines.{contact_of}

-- the highest versions that a script gives to both ends: 5.2 without a line that says them
abbrev pub no_less : Version
no_less = record { 0 = version 5 2 }

abbrev pub guest_by : What → Version
guest_by what = option_map_or (λ versions. versions.0) (contact_of what) no_less

abbrev pub host_by : What → Version
host_by what = option_map_or (λ versions. versions.1) (contact_of what) no_less

abbrev pub guest_in : List Line → Version
guest_in [] = no_less
guest_in (l ∷ ls) = guest_by l.what

abbrev pub host_in : List Line → Version
host_in [] = no_less
host_in (l ∷ ls) = host_by l.what

-- the version that both agree on: the lower one of the two, each of which is a version
abbrev pub agreed_in : List Line → ℕ
agreed_in lines = min (guest_in lines).0 (host_in lines).0
