-- Big-endian numbers.
use Rattle.std.specs.Prelude.{ℕ, ◌+◌, ◌*◌, List, fold}

-- the number that bytes spell, the highest byte first
unfoldable pub be_number : List ℕ → ℕ
be_number bytes = fold (λ n b. n * 256 + b) 0 bytes
