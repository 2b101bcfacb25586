-- The load script is a legal one.
use Rattle.std.proofs.Common.{◌≡◌, ℕ, zero, suc, ◌+◌, ◌/◌, ◌%◌, ◌<◌, ◌≤◌, ◌^◌, Bool, true, false, cond, List, [], ◌∷◌, ◌++◌, length, map, refl, sym, ap, ◌∙◌, subst, arith, All, length-append, append_assoc}
use Rattle.std.specs.Prelude.{not, ◌&&◌, Some, count_by, sum_by, slice_get, if◌then◌else◌}
use Rattle.std.specs.List.{list_all, range_with_len, onto_first, AllByRecursion}
use Rattle.std.proofs.lemmas.List.Splits.{slice_split-cons_yes, slice_split-cons_no}
use Rattle.std.proofs.lemmas.List.Sums.{sum_by-cons}
use Rattle.std.proofs.lemmas.List.Elements.{All-from_recursion}
use Rattle.std.proofs.lemmas.List.FromFn.{length-map-range_with_len}
use Rattle.contact.specs.declared.kind.DeviceKind.TheVariants.{Disk as KindDisk}
use Rattle.script_lines.specs.declared.line.Line.{Line}
use Rattle.script_lines.specs.declared.line.DeviceSpec.{DeviceSpec}
use Rattle.script_lines.specs.declared.line.DeviceSpec.TheVariants.{Disk as IsDisk}
use Rattle.script_lines.specs.declared.disk_ask.DiskAsk.{DiskAsk}
use Rattle.script_lines.specs.declared.disk_ask.DiskAsk.TheVariants.{Read, Write}
use Rattle.script_lines.specs.Parts.{ends_part, parts, is_settings, is_ask, asks_in, offered, kind_of, rescinds, shuts, modifies, modifies_in, channels_of}
use Rattle.script_lines.specs.Requests.{request_of, CanBeCarried}
use Rattle.script_lines.specs.WellFormed.{AllRight, AllGo, is_contact, settings_first, IsScript}
use Rattle.script_lines.proofs.Carrying.{asks_carried}
use Rattle.script_lines.proofs.Phases.{by_test}
use Rattle.script_generator.specs.Load.{ask_line, fill_of, offer_line, write_line, phase_line, read_line, lines_over, load_lines}

-- a count goes past a line that it doesn't count, and past one that it does
count_past : (p : Line → Bool) (l : Line) (ls : List Line) → p l ≡ false → count_by p (l ∷ ls) ≡ count_by p ls
count_past p l ls e = omega (arith, sum_by-cons (λ (k : Line). cond (p k) 1 0) l ls, ap {B = ℕ} (λ (b : Bool). cond b 1 0) e)

count_on : (p : Line → Bool) (l : Line) (ls : List Line) → p l ≡ true → count_by p (l ∷ ls) ≡ 1 + count_by p ls
count_on p l ls e = omega (arith, sum_by-cons (λ (k : Line). cond (p k) 1 0) l ls, ap {B = ℕ} (λ (b : Bool). cond b 1 0) e)

-- lines that ask the disk, one for each number from s on
module _ (number : ℕ → ℕ) (ask : ℕ → DiskAsk) where
  abbrev asks : ℕ → ℕ → List Line
  asks s n = map (λ k. ask_line (number k) (ask k)) (range_with_len s n)

  none_offered : (s n : ℕ) (more : List Line) → offered (asks s n ++ more) ≡ offered more
  none_offered s zero more = refl
  none_offered s (suc n) more = none_offered (s + 1) n more

  all_right : (kinds : List DeviceSpec) (s n : ℕ) (more : List Line) → slice_get (map kind_of kinds) 0 ≡ Some KindDisk → AllRight kinds more → AllRight kinds (asks s n ++ more)
  all_right kinds s zero more disk rest = rest
  all_right kinds s (suc n) more disk rest = (disk, all_right kinds (s + 1) n more disk rest)

  all_go : (s n : ℕ) (more : List Line) → ((k : ℕ) → k < s + n → CanBeCarried (request_of (ask k))) → AllGo more → AllGo (asks s n ++ more)
  all_go s zero more goes rest = rest
  all_go s (suc n) more goes rest = (goes s (omega arith), all_go (s + 1) n more (λ k less. goes k (omega (arith, less))) rest)

  no_contact : (s n : ℕ) (more : List Line) → list_all (λ m. not (is_contact m.what)) (asks s n ++ more) ≡ list_all (λ m. not (is_contact m.what)) more
  no_contact s zero more = refl
  no_contact s (suc n) more = no_contact (s + 1) n more

  no_settings : (s n : ℕ) (more : List Line) → list_all (λ m. not (is_settings m.what)) (asks s n ++ more) ≡ list_all (λ m. not (is_settings m.what)) more
  no_settings s zero more = refl
  no_settings s (suc n) more = no_settings (s + 1) n more

  none_rescinded : (device s n : ℕ) (more : List Line) → count_by (λ l. rescinds device l.what) (asks s n ++ more) ≡ count_by (λ l. rescinds device l.what) more
  none_rescinded device s zero more = refl
  none_rescinded device s (suc n) more =
      count_past (λ l. rescinds device l.what) (ask_line (number s) (ask s)) (asks (s + 1) n ++ more) refl ∙ none_rescinded device (s + 1) n more

  none_closed : (device s n : ℕ) (more : List Line) → count_by (λ l. shuts device l.what) (asks s n ++ more) ≡ count_by (λ l. shuts device l.what) more
  none_closed device s zero more = refl
  none_closed device s (suc n) more =
      count_past (λ l. shuts device l.what) (ask_line (number s) (ask s)) (asks (s + 1) n ++ more) refl ∙ none_closed device (s + 1) n more

  none_modified : (device s n : ℕ) → modifies_in device (asks s n) ≡ 0
  none_modified device s zero = refl
  none_modified device s (suc n) = count_past (λ l. modifies device l.what) (ask_line (number s) (ask s)) (asks (s + 1) n) refl ∙ none_modified device (s + 1) n

  all_asks : (s n : ℕ) → asks_in (asks s n) ≡ n
  all_asks s zero = refl
  all_asks s (suc n) = omega (arith, count_on (λ l. is_ask l.what) (ask_line (number s) (ask s)) (asks (s + 1) n) refl, all_asks (s + 1) n)

  asks_then : (s n : ℕ) (more : List Line) → asks_in (asks s n ++ more) ≡ n + asks_in more
  asks_then s zero more = omega arith
  asks_then s (suc n) more = omega (arith, count_on (λ l. is_ask l.what) (ask_line (number s) (ask s)) (asks (s + 1) n ++ more) refl, asks_then (s + 1) n more)

  one_part : (s n : ℕ) → parts (asks s n) ≡ asks s n ∷ []
  one_part s zero = refl
  one_part s (suc n) =
      slice_split-cons_no ends_part (ask_line (number s) (ask s)) (asks (s + 1) n) refl ∙ ap (onto_first (ask_line (number s) (ask s))) (one_part (s + 1) n)

  part_then : (s n : ℕ) (l : Line) (more : List Line) → ends_part l ≡ true → parts (asks s n ++ (l ∷ more)) ≡ asks s n ∷ parts more
  part_then s zero l more ends = slice_split-cons_yes ends_part l more ends
  part_then s (suc n) l more ends =
      slice_split-cons_no ends_part (ask_line (number s) (ask s)) (asks (s + 1) n ++ (l ∷ more)) refl ∙ ap (onto_first (ask_line (number s) (ask s))) (part_then (s + 1) n l more ends)

-- where no line says settings, none stands behind another
settings_of : (ls : List Line) → list_all (λ m. not (is_settings m.what)) ls ≡ true → settings_first ls ≡ true
settings_of [] none = refl
settings_of (l ∷ ls) none = by_test (is_settings l.what)
    (λ e. let no : list_all (λ m. not (is_settings m.what)) (l ∷ ls) ≡ false = ap (λ (b : Bool). not b && list_all (λ m. not (is_settings m.what)) ls) e in absurd (let both : true ≡ false = sym none ∙ no in cc (both)))
    (λ e. ap (λ (b : Bool). if b then settings_first ls else list_all (λ m. not (is_settings m.what)) ls) e ∙ (sym (ap (λ (b : Bool). not b && list_all (λ m. not (is_settings m.what)) ls) e) ∙ none))

-- a write and a read of a block go through the disk's channel
writes_go : (seed k : ℕ) → k < 2 ^ 64 → CanBeCarried (request_of (Write (Some k) (Some 1) (fill_of seed k)))
writes_go seed k small = asks_carried (Write (Some k) (Some 1) (fill_of seed k)) refl (small, omega arith)

reads_go : (k : ℕ) → k < 2 ^ 64 → CanBeCarried (request_of (Read (Some k) (Some 1)))
reads_go k small = asks_carried (Read (Some k) (Some 1)) refl (small, omega arith)

-- so many blocks are written and read
module _ (seed half : ℕ) (few : half ≤ 4096) where
  abbrev write_ask : ℕ → DiskAsk
  write_ask k = Write (Some k) (Some 1) (fill_of seed k)

  abbrev read_ask : ℕ → DiskAsk
  read_ask k = Read (Some k) (Some 1)

  abbrev writes : List Line
  writes = asks (λ k. k + 2) write_ask 0 half

  abbrev reads : List Line
  reads = asks (λ k. half + 3 + k) read_ask 0 half

  reads_alone : reads ≡ reads ++ []
  reads_alone = sym (append_nil reads)
    where
      append_nil : {X : Type 0} (xs : List X) → xs ++ [] ≡ xs
      append_nil [] = refl
      append_nil (x ∷ xs) = ap (λ l. x ∷ l) (append_nil xs)

  abbrev behind : List Line
  behind = phase_line half ∷ reads ++ []

  whole : lines_over seed half ≡ offer_line ∷ (writes ++ behind)
  whole = ap (λ l. offer_line ∷ (writes ++ (phase_line half ∷ l))) reads_alone

  offered_is : offered (offer_line ∷ (writes ++ behind)) ≡ IsDisk 4096 3 ∷ []
  offered_is = ap (λ ds. IsDisk 4096 3 ∷ ds) (none_offered (λ k. k + 2) write_ask 0 half behind ∙ none_offered (λ k. half + 3 + k) read_ask 0 half [])

  parts_are : parts (offer_line ∷ (writes ++ behind)) ≡ (offer_line ∷ writes) ∷ (reads ∷ [])
  parts_are =
      slice_split-cons_no ends_part offer_line (writes ++ behind) refl
      ∙ ap (onto_first offer_line) (part_then (λ k. k + 2) write_ask 0 half (phase_line half) (reads ++ []) refl
      ∙ ap (λ ps. writes ∷ ps) (ap parts (sym reads_alone) ∙ one_part (λ k. half + 3 + k) read_ask 0 half))

  abbrev Few : List Line → Type 0
  Few part = asks_in part ≤ 4096

  parts_few : AllByRecursion Few ((offer_line ∷ writes) ∷ (reads ∷ []))
  parts_few = (
    omega (arith, few, count_past (λ l. is_ask l.what) offer_line writes refl, all_asks (λ k. k + 2) write_ask 0 half),
    (omega (arith, few, all_asks (λ k. half + 3 + k) read_ask 0 half), tt),
  )

  abbrev Once : ℕ → List Line → Type 0
  Once device part = modifies_in device part ≤ 1

  parts_once : (device : ℕ) → AllByRecursion (Once device) ((offer_line ∷ writes) ∷ (reads ∷ []))
  parts_once device = (
    omega (arith, count_past (λ l. modifies device l.what) offer_line writes refl, none_modified (λ k. k + 2) write_ask device 0 half),
    (omega (arith, none_modified (λ k. half + 3 + k) read_ask device 0 half), tt),
  )

  no_later : list_all (λ m. not (is_settings m.what)) (writes ++ behind) ≡ true
  no_later = no_settings (λ k. k + 2) write_ask 0 half behind ∙ no_settings (λ k. half + 3 + k) read_ask 0 half []

  script_is : IsScript (offer_line ∷ (writes ++ behind))
  script_is = record {
    right = subst (λ kinds. AllRight kinds (offer_line ∷ (writes ++ behind))) (sym offered_is) (
      (omega arith, omega arith, omega arith),
      all_right (λ k. k + 2) write_ask (IsDisk 4096 3 ∷ []) 0 half behind refl (tt, all_right (λ k. half + 3 + k) read_ask (IsDisk 4096 3 ∷ []) 0 half [] refl tt),
    );
    go = (tt, all_go (λ k. k + 2) write_ask 0 half behind (λ k less. writes_go seed k (omega (arith, less, few))) (tt, all_go (λ k. half + 3 + k) read_ask 0 half [] (λ k less. reads_go k (omega (arith, less, few))) tt));
    contact = no_contact (λ k. k + 2) write_ask 0 half behind ∙ no_contact (λ k. half + 3 + k) read_ask 0 half [];
    settings = settings_of (writes ++ behind) no_later;
    few = omega (arith, ap length offered_is);
    channels = omega (arith, ap (sum_by channels_of) offered_is ∙ sum_by-cons channels_of (IsDisk 4096 3) []);
    short = omega (arith, few, length-append writes behind, length-append reads [], length-map-range_with_len (λ k. ask_line (k + 2) (write_ask k)) 0 half, length-map-range_with_len (λ k. ask_line (half + 3 + k) (read_ask k)) 0 half);
    asks = subst (All Few) (sym parts_are) (All-from_recursion Few ((offer_line ∷ writes) ∷ (reads ∷ [])) parts_few);
    rescinded = λ device. omega (
      arith,
      count_past (λ l. rescinds device l.what) offer_line (writes ++ behind) refl,
      none_rescinded (λ k. k + 2) write_ask device 0 half behind,
      count_past (λ l. rescinds device l.what) (phase_line half) (reads ++ []) refl,
      none_rescinded (λ k. half + 3 + k) read_ask device 0 half [],
    );
    closed = λ device. omega (
      arith,
      count_past (λ l. shuts device l.what) offer_line (writes ++ behind) refl,
      none_closed (λ k. k + 2) write_ask device 0 half behind,
      count_past (λ l. shuts device l.what) (phase_line half) (reads ++ []) refl,
      none_closed (λ k. half + 3 + k) read_ask device 0 half [],
    );
    modified = λ device. subst (All (Once device)) (sym parts_are) (All-from_recursion (Once device) ((offer_line ∷ writes) ∷ (reads ∷ [])) (parts_once device));
  }

-- half of the requests write, and half read
asks_over : (seed half : ℕ) → asks_in (lines_over seed half) ≡ half + half
asks_over seed half =
    let reads = map (read_line half) (range_with_len 0 half) in
    let writes = map (write_line seed) (range_with_len 0 half) in
    omega (
      arith,
      count_past (λ l. is_ask l.what) offer_line (writes ++ (phase_line half ∷ reads)) refl,
      asks_then (λ k. k + 2) (λ k. Write (Some k) (Some 1) (fill_of seed k)) 0 half (phase_line half ∷ reads),
      count_past (λ l. is_ask l.what) (phase_line half) reads refl,
      all_asks (λ k. half + 3 + k) (λ k. Read (Some k) (Some 1)) 0 half,
    )

pub load_asks : (seed count : ℕ) → count % 2 ≡ 0 → asks_in (load_lines seed count) ≡ count
load_asks seed count even = omega (arith, asks_over seed (count / 2), even)

pub load_is_script : (seed count : ℕ) → count ≤ 8192 → IsScript (load_lines seed count)
load_is_script seed count few =
    let half : count / 2 ≤ 4096 = omega (arith, few) in
    subst IsScript (sym (whole seed (count / 2) half)) (script_is seed (count / 2) half)

-- lines that come one after the other
pub in_order : (seed half : ℕ) (one two three four : List Line) (offer phase : Line) → one ≡ offer ∷ [] → offer ≡ offer_line → two ≡ one ++ map (write_line seed) (range_with_len 0 half)
    → three ≡ two ++ phase ∷ [] → phase ≡ phase_line half → four ≡ three ++ map (read_line half) (range_with_len 0 half) → four ≡ lines_over seed half
in_order seed half one two three four offer phase first offers second third ends fourth =
    let writes = map (write_line seed) (range_with_len 0 half) in
    let reads = map (read_line half) (range_with_len 0 half) in
    let begun : two ≡ offer_line ∷ writes = second ∙ ap (λ (ls : List Line). ls ++ writes) (first ∙ ap (λ (l : Line). l ∷ []) offers) in
    let gone : three ≡ (offer_line ∷ writes) ++ (phase_line half ∷ []) = third ∙ ap (λ (ls : List Line). ls ++ phase ∷ []) begun ∙ ap (λ (l : Line). (offer_line ∷ writes) ++ l ∷ []) ends in
    fourth ∙ ap (λ (ls : List Line). ls ++ reads) gone ∙ append_assoc (offer_line ∷ writes) (phase_line half ∷ []) reads
