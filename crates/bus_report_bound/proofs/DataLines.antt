-- The buffers of a script's messages stand in it as two digits for each byte.
use Rattle.std.proofs.Common.{◌≡◌, ℕ, suc, ◌+◌, ◌*◌, ◌-◌, ◌≤◌, ◌==◌, Bool, true, false, cond, List, [], ◌∷◌, ◌++◌, length, refl, ap, subst, arith}
use Rattle.std.specs.Prelude.{◌&&◌, codes, filter, take, slice_index, unwrap_or, Option, Some, None, Result, Ok, Err, if◌then◌else◌}
use Rattle.std.specs.List.{list_all, onto_first, slice_split}
use Rattle.std.specs.Option.{option_map}
use Rattle.std.specs.Str.{bytes_eq}
use Rattle.std.specs.Str.Lines.{lines, lines_of_parts, strip_carriage_return}
use Rattle.std.proofs.lemmas.List.{length-take}
use Rattle.rndis_msg.specs.Messages.{body_of}
use Rattle.rndis_msg.specs.declared.rndis.Rndis.{Rndis}
use Rattle.rndis_msg.specs.declared.rndis.Rndis.TheVariants.{Packet, Set, Reset}
use Rattle.script_text.specs.declared.fault.Why6.{Why6}
use Rattle.script_text.specs.declared.fault.ScriptFault.{ScriptFault}
use Rattle.script_text.specs.Forms.{is_name, is_oid, are_bytes, bytes_of, oid_of}
use Rattle.script_text.specs.Words.{is_word, words}
use Rattle.kvp_lines.specs.Rows.{operation_row}
use Rattle.script_lines.specs.declared.line.Line.{Line}
use Rattle.script_lines.specs.declared.asked.Asked.{Asked}
use Rattle.script_lines.specs.declared.asked.Asked.TheVariants.{Message}
use Rattle.script_lines.specs.declared.said.Said.{Said}
use Rattle.script_lines.specs.declared.said.Said.TheVariants.{Nothing, Request}
use Rattle.script_lines.specs.Rows as rows
use Rattle.script_lines.specs.Rows.{sized, begins_comment, is_printable, said_in, said_by}
use Rattle.script_lines.specs.Faults.{device_said, fault_at}
use Rattle.script_lines.specs.Grammar.{what_of, numbered, said_lines, lines_at, or_fault, read_from}
use Rattle.bus_report_bound.specs.Laws.{data_by, DataStands}

-- the bytes of these lists, in all
abbrev total : List (List ℕ) → ℕ
total [] = 0
total (x ∷ xs) = length x + total xs

-- the parts between separators have no more bytes than the whole

total_onto : (x : ℕ) (ps : List (List ℕ)) → total (onto_first x ps) ≤ 1 + total ps
total_onto x [] = omega arith
total_onto x (p ∷ ps) = omega arith

split_if : (b : Bool) (x n : ℕ) (ps : List (List ℕ)) → total ps ≤ n → total (cond b ([] ∷ ps) (onto_first x ps)) ≤ suc n
split_if true x n ps few = omega (arith, few)
split_if false x n ps few = omega (arith, few, total_onto x ps)

split_total : (p : ℕ → Bool) (xs : List ℕ) → total (slice_split p xs) ≤ length xs
split_total p [] = omega arith
split_total p (x ∷ xs) = split_if (p x) x (length xs) (slice_split p xs) (split_total p xs)

strip_short : (l : List ℕ) → length (strip_carriage_return l) ≤ length l
strip_short l = by_flag (slice_index l (length l - 1) == 13)
  where
    by_flag : (b : Bool) → length (if b then take (length l - 1) l else l) ≤ length l
    by_flag true = omega (arith, length-take (length l - 1) l)
    by_flag false = omega arith

parts_total : (ps : List (List ℕ)) → total (lines_of_parts ps) ≤ total ps
parts_total [] = omega arith
parts_total (x ∷ []) = by_flag (length x == 0)
  where
    by_flag : (b : Bool) → total (if b then [] else x ∷ []) ≤ total (x ∷ [])
    by_flag true = omega arith
    by_flag false = omega arith
parts_total (x ∷ y ∷ more) = omega (arith, strip_short x, parts_total (y ∷ more))

lines_total : (bytes : List ℕ) → total (lines bytes) ≤ length bytes
lines_total bytes = omega (arith, parts_total (slice_split (λ b. b == 10) bytes), split_total (λ b. b == 10) bytes)

filter_if : (b : Bool) (x : List ℕ) (xs : List (List ℕ)) (n : ℕ) → total xs ≤ n → total (cond b (x ∷ xs) xs) ≤ length x + n
filter_if true x xs n few = omega (arith, few)
filter_if false x xs n few = omega (arith, few)

filter_total : (p : List ℕ → Bool) (xs : List (List ℕ)) → total (filter p xs) ≤ total xs
filter_total p [] = omega arith
filter_total p (x ∷ xs) = filter_if (p x) x (filter p xs) (total xs) (filter_total p xs)

words_total : (line : List ℕ) → total (words line) ≤ length line
words_total line = omega (arith, filter_total is_word (slice_split (λ b. b == 32) line), split_total (λ b. b == 32) line)

-- what a line says

abbrev data_asked : Asked → ℕ
data_asked (Message message) = length (body_of (unwrap_or message Reset))
data_asked _ = 0

abbrev data_said : Said → ℕ
data_said (Request name asked) = data_asked asked
data_said _ = 0

abbrev data_if : Option Said → ℕ
data_if None = 0
data_if (Some said) = data_said said

-- its buffer has half as many bytes as these
abbrev Half : ℕ → Option Said → Type 0
Half n o = 2 * data_if o ≤ n

half_if : (n : ℕ) (b : Bool) (x y : Option Said) → Half n x → Half n y → Half n (if b then x else y)
half_if n true x y one other = one
half_if n false x y one other = other

half_none : (n : ℕ) → Half n None
half_none n = omega arith

half_map : {A : Type 0} (n : ℕ) (f : A → Said) (o : Option A) → ((a : A) → data_said (f a) ≡ 0) → Half n (option_map f o)
half_map n f None none = omega arith
half_map n f (Some a) none = omega (arith, none a)

-- without a buffer
half_some : (n : ℕ) (b : Bool) (s : Said) → data_said s ≡ 0 → Half n (if b then Some s else None)
half_some n b s none = half_if n b (Some s) None (omega (arith, none)) (half_none n)

bytes_half : (w : List ℕ) → 2 * length (bytes_of w) ≤ length w
bytes_half [] = omega arith
bytes_half (a ∷ []) = omega arith
bytes_half (a ∷ b ∷ cs) = omega (arith, bytes_half cs)

abbrev IsShort : ℕ → Option (List ℕ) → Type 0
IsShort n None = Unit {0}
IsShort n (Some body) = length body ≤ n

sized_short : (f : List ℕ → Rndis) (low high : ℕ) (bs : List ℕ) → ((body : List ℕ) → body_of (f body) ≡ body) → length (body_of (unwrap_or (option_map f (sized low high bs)) Reset)) ≤ length bs
sized_short f low high bs own = by_option (sized low high bs) (by_flag _)
  where
    by_flag : (b : Bool) → IsShort (length bs) (if b then Some bs else None)
    by_flag true = omega arith
    by_flag false = tt

    by_option : (o : Option (List ℕ)) → IsShort (length bs) o → length (body_of (unwrap_or (option_map f o) Reset)) ≤ length bs
    by_option None short = omega arith
    by_option (Some body) short = omega (arith, short, ap length (own body))

contact_half : (n : ℕ) (others : List (List ℕ)) → Half n (rows.contact_row others)
contact_half n (a ∷ b ∷ []) = half_some n _ _ refl
contact_half n _ = omega arith

net_offer_half : (n : ℕ) (others : List (List ℕ)) → Half n (rows.net_offer others)
net_offer_half n (a ∷ b ∷ c ∷ []) = half_some n _ _ refl
net_offer_half n _ = omega arith

offer_half : (n : ℕ) (others : List (List ℕ)) → Half n (rows.offer_row others)
offer_half n [] = omega arith
offer_half n (kind ∷ others) =
    half_if n (bytes_eq kind (codes "hb")) _ _ (half_map n _ (rows.name_alone others) (λ a. refl))
    (half_if n (bytes_eq kind (codes "shutdown")) _ _ (half_map n _ (rows.name_alone others) (λ a. refl))
    (half_if n (bytes_eq kind (codes "disk")) _ _ (half_map n _ (rows.name_and_two others) (λ a. refl)) (half_if n (bytes_eq kind (codes "net")) _ _ (net_offer_half n others) (half_if n (bytes_eq kind (codes "kvp")) _ _ (half_map n _ (rows.name_alone others) (λ a. refl)) (half_none n)))))

write_half : (n : ℕ) (others : List (List ℕ)) → Half n (rows.write_row others)
write_half n (a ∷ b ∷ c ∷ d ∷ []) = half_some n _ _ refl
write_half n _ = omega arith

query_half : (n : ℕ) (others : List (List ℕ)) → Half n (rows.query_row others)
query_half n (a ∷ b ∷ []) = half_some n _ _ refl
query_half n _ = omega arith

set_half : (others : List (List ℕ)) → Half (total others) (rows.set_row others)
set_half (a ∷ b ∷ c ∷ []) =
    half_if (total (a ∷ b ∷ c ∷ [])) (is_name a && is_oid b && are_bytes c) (Some (Request a (Message (rows.set_said b c)))) None (omega (arith, sized_short (λ body. Set 0 (oid_of b) body) 1 64 (bytes_of c) (λ body. refl), bytes_half c)) (half_none (total (a ∷ b ∷ c ∷ [])))
set_half _ = omega arith

frame_half : (others : List (List ℕ)) → Half (total others) (rows.frame_row others)
frame_half (a ∷ b ∷ []) = half_if (total (a ∷ b ∷ [])) (is_name a && are_bytes b) (Some (Request a (Message (rows.frame_said b)))) None (omega (arith, sized_short (λ body. Packet body) 14 1514 (bytes_of b) (λ body. refl), bytes_half b)) (half_none (total (a ∷ b ∷ [])))
frame_half _ = omega arith

rescind_half : (n : ℕ) (others : List (List ℕ)) → Half n (rows.rescind_row others)
rescind_half n (a ∷ b ∷ c ∷ others) = half_if n _ _ None (half_map n _ (rows.held_row others) (λ held. refl)) (half_none n)
rescind_half n _ = omega arith

phase_half : (n : ℕ) (others : List (List ℕ)) → Half n (rows.phase_row others)
phase_half n [] = omega arith
phase_half n (a ∷ others) = omega arith

pair_half : (n : ℕ) (others : List (List ℕ)) → Half n (rows.pair_row others)
pair_half n (a ∷ b ∷ others) = half_if n _ _ None (half_map n _ (operation_row b others) (λ request. refl)) (half_none n)
pair_half n _ = omega arith

net_half : (key : List ℕ) (others : List (List ℕ)) → Half (total others) (rows.net_row key others)
net_half key others =
    let n = total others in
    half_if n (bytes_eq key (codes "query")) _ _ (query_half n others)
    (half_if n (bytes_eq key (codes "set")) _ _ (set_half others)
    (half_if n (bytes_eq key (codes "keep")) _ _ (half_map n _ (rows.name_alone others) (λ a. refl))
    (half_if n (bytes_eq key (codes "reset")) _ _ (half_map n _ (rows.name_alone others) (λ a. refl)) (half_if n (bytes_eq key (codes "frame")) _ _ (frame_half others) (half_if n (bytes_eq key (codes "kvp")) _ _ (pair_half n others) (half_none n))))))

disk_half : (key : List ℕ) (others : List (List ℕ)) → Half (total others) (rows.disk_row key others)
disk_half key others =
    let n = total others in
    half_if n (bytes_eq key (codes "bad")) _ _ (half_map n _ (rows.name_and_number others) (λ a. refl))
    (half_if n (bytes_eq key (codes "ready")) _ _ (half_map n _ (rows.name_alone others) (λ a. refl))
    (half_if n (bytes_eq key (codes "inquiry")) _ _ (half_map n _ (rows.name_alone others) (λ a. refl))
    (half_if n (bytes_eq key (codes "capacity")) _ _ (half_map n _ (rows.name_alone others) (λ a. refl))
    (half_if n (bytes_eq key (codes "capacity16")) _ _ (half_map n _ (rows.name_alone others) (λ a. refl))
    (half_if n (bytes_eq key (codes "flush")) _ _ (half_map n _ (rows.name_alone others) (λ a. refl))
    (half_if n (bytes_eq key (codes "read")) _ _ (half_map n _ (rows.name_and_two others) (λ a. refl)) (half_if n (bytes_eq key (codes "write")) _ _ (write_half n others) (net_half key others))))))))

row_half : (key : List ℕ) (others : List (List ℕ)) → Half (total others) (rows.row_of key others)
row_half key others =
    let n = total others in
    half_if n (bytes_eq key (codes "contact")) _ _ (contact_half n others)
    (half_if n (bytes_eq key (codes "offer")) _ _ (offer_half n others)
    (half_if n (bytes_eq key (codes "ring")) _ _ (half_map n _ (rows.name_and_number others) (λ a. refl))
    (half_if n (bytes_eq key (codes "window")) _ _ (half_map n _ (rows.name_and_number others) (λ a. refl))
    (half_if n (bytes_eq key (codes "beat")) _ _ (half_map n _ (rows.name_and_number others) (λ a. refl))
    (half_if n (bytes_eq key (codes "down")) _ _ (half_map n _ (rows.name_and_number others) (λ a. refl))
    (half_if n (bytes_eq key (codes "rescind")) _ _ (rescind_half n others)
    (half_if n (bytes_eq key (codes "close")) _ _ (half_map n _ (rows.name_alone others) (λ a. refl))
    (half_if n (bytes_eq key (codes "modify")) _ _ (half_map n _ (rows.name_and_number others) (λ a. refl)) (half_if n (bytes_eq key (codes "phase")) _ _ (phase_half n others) (disk_half key others))))))))))

by_half : (ws : List (List ℕ)) → Half (total ws) (said_by ws)
by_half [] = omega arith
by_half (key ∷ others) = half_if (total (key ∷ others)) (begins_comment key) (Some Nothing) (rows.row_of key others) (omega arith) (omega (arith, row_half key others))

line_half : (line : List ℕ) → Half (length line) (said_in line)
line_half line = half_if (length line) (list_all is_printable line) (said_by (words line)) None (omega (arith, by_half (words line), words_total line)) (half_none (length line))

-- the lines that were read

data_append : (xs ys : List Line) → data_by (xs ++ ys) ≡ data_by xs + data_by ys
data_append [] ys = omega arith
data_append (x ∷ xs) ys = omega (arith, data_append xs ys)

asked_data : (number : ℕ) (name : List ℕ) (o : Option ℕ) (asked : Asked) → data_by (numbered number (what_of o (Request name asked))) ≤ data_asked asked
asked_data number name o (Message message) = omega arith
asked_data number name o _ = omega arith

what_data : (number : ℕ) (device : Option ℕ) (said : Said) → data_by (numbered number (what_of device said)) ≤ data_said said
what_data number device (Request name asked) = asked_data number name device asked
what_data number device _ = omega arith

said_data : (number : ℕ) (before : List Line) (o : Option Said) → data_by (said_lines number before o) ≤ data_if o
said_data number before None = omega arith
said_data number before (Some said) = what_data number (device_said before said) said

abbrev ReadWithin : ℕ → Result (List Line) ScriptFault → Type 0
ReadWithin n (Ok said) = 2 * data_by said ≤ n
ReadWithin n (Err fault) = Unit {0}

or_fault_within : (n : ℕ) (o : Option Why6) (number : ℕ) (rest : Result (List Line) ScriptFault) → ReadWithin n rest → ReadWithin n (or_fault o number rest)
or_fault_within n None number rest within = within
or_fault_within n (Some why) number rest within = tt

read_within : (n : ℕ) (rest : List (List ℕ)) (number : ℕ) (before : List Line) → 2 * data_by before + total rest ≤ n → ReadWithin n (read_from number before rest)
read_within n [] number before few = omega (arith, few)
read_within n (line ∷ rest) number before few =
    or_fault_within n (fault_at number before line) number (read_from (number + 1) (before ++ lines_at number before line) rest)
    (read_within n rest (number + 1) (before ++ lines_at number before line) (omega (arith, few, data_append before (lines_at number before line), said_data number before (said_in line), line_half line)))

pub data_stands : DataStands
data_stands bytes said is = subst (ReadWithin (length bytes)) is (read_within (length bytes) (lines bytes) 1 [] (omega (arith, lines_total bytes)))
