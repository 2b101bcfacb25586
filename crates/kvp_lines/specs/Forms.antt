-- The rows behind kvp, as they are told to the author of a script.
use Rattle.std.specs.Prelude.{ℕ, ◌^◌, ◌-◌, Bool, true, false, ◌&&◌, ◌||◌, is_some, nat_le, List, length, codes, bytes_eq, if◌then◌else◌}
use Rattle.script_text.specs.Forms.{is_decimal, number_of, in_u64, within}
use Rattle.kvp_lines.specs.declared.form.PairForm.{PairForm}
use Rattle.kvp_lines.specs.declared.form.PairForm.TheVariants.{Any, Set, Get, Delete, Enum}
use Rattle.kvp_lines.specs.declared.form.PairWord.{PairWord}
use Rattle.kvp_lines.specs.declared.form.PairWord.TheVariants.{Operation, Pool, Key, Val, Index, End}
use Rattle.kvp_lines.specs.Rows.{pool_said}

-- the row of each operation
abbrev pub form_of : List ℕ → PairForm
form_of operation =
    if bytes_eq operation (codes "set") then Set else
    if bytes_eq operation (codes "get") then Get else
    if bytes_eq operation (codes "del") then Delete else
    if bytes_eq operation (codes "enum") then Enum else Any

-- how a row is written, with its ranges
abbrev pub told : PairForm → List ℕ
told Any = codes "kvp NAME set POOL KEY VALUE, kvp NAME get POOL KEY, kvp NAME del POOL KEY or kvp NAME enum POOL INDEX"
told Set = codes "kvp NAME set POOL KEY VALUE: POOL is 0 to 4, KEY 1 to 255 characters, VALUE 1 to 1023"
told Get = codes "kvp NAME get POOL KEY: POOL is 0 to 4, KEY 1 to 255 characters"
told Delete = codes "kvp NAME del POOL KEY: POOL is 0 to 4, KEY 1 to 255 characters"
told Enum = codes "kvp NAME enum POOL INDEX: POOL is 0 to 4, INDEX 0 to 4294967295"

-- what the words behind NAME may be
abbrev pub words_of : PairForm → PairWord × PairWord × PairWord × PairWord
words_of Any = (Operation, Pool, End, End)
words_of Set = (Operation, Pool, Key, Val)
words_of Get = (Operation, Pool, Key, End)
words_of Delete = (Operation, Pool, Key, End)
words_of Enum = (Operation, Pool, Index, End)

-- a word has the form
abbrev pub takes : PairWord → List ℕ → Bool
takes Operation word = bytes_eq word (codes "set") || (bytes_eq word (codes "get") || (bytes_eq word (codes "del") || bytes_eq word (codes "enum")))
takes Pool word = is_decimal word
takes Key word = true
takes Val word = true
takes Index word = is_decimal word
takes End word = false

-- nothing may stand there
abbrev pub may_lack : PairWord → Bool
may_lack End = true
may_lack _ = false

-- a word of the form is in its range
abbrev pub admits : PairWord → List ℕ → Bool
admits Operation word = true
admits Pool word = is_decimal word && is_some (pool_said word)
admits Key word = nat_le (length word) 255
admits Val word = nat_le (length word) 1023
admits Index word = is_decimal word && is_some (within 0 (2 ^ 32 - 1) (in_u64 (number_of word)))
admits End word = true
