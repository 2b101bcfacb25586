-- Bytes as they are printed: in runs of one byte.
use Rattle.std.specs.Prelude.{ℕ, ◌+◌, ◌==◌, List, [], ◌∷◌, ◌++◌, codes, if◌then◌else◌}
use Rattle.std.specs.List.{flat_map, prefix_len}
use Rattle.std.specs.Fmt.{decimal}
use Rattle.script_text.specs.declared.run.Run.{Run}
use Rattle.script_text.specs.Hex.{hex_2}

-- so many of this byte
abbrev pub run : ℕ → ℕ → Run
run byte count = record { byte = byte; count = count }

-- one byte more in front: the first run grows, or a new one begins
abbrev pub onto_runs : ℕ → List Run → List Run
onto_runs b [] = run b 1 ∷ []
onto_runs b (r ∷ rs) = if r.byte == b then run b (r.count + 1) ∷ rs else run b 1 ∷ r ∷ rs

-- the runs of bytes, each as long as it can be
unfoldable pub runs_of : List ℕ → List Run
runs_of [] = []
runs_of (b ∷ bs) = onto_runs b (runs_of bs)

-- how many bytes at the front are this one
abbrev pub front_len : ℕ → List ℕ → ℕ
front_len b bytes = prefix_len (λ c. c == b) bytes

-- COUNTxHH
unfoldable pub run_text : Run → List ℕ
run_text r = decimal r.count ++ (codes "x" ++ hex_2 r.byte)

-- the first as it is, and each other one behind a plus
abbrev pub joined_runs : List Run → List ℕ
joined_runs [] = []
joined_runs (r ∷ rs) = run_text r ++ flat_map (λ s. codes "+" ++ run_text s) rs

-- the text of bytes as runs
unfoldable pub runs_text : List ℕ → List ℕ
runs_text bytes = joined_runs (runs_of bytes)
