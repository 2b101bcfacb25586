-- Each step's text is read as that step.
use Rattle.std.proofs.Common.{◌≡◌, ℕ, ◌%◌, ◌<◌, ◌≤◌, ◌==◌, ◌^◌, ◌&&◌, nat_le, nat_lt, Bool, true, false, List, [], ◌∷◌, ◌++◌, length, take, drop, Option, Some, None, decimal, refl, sym, ap, subst, ◌∙◌, arith, append_assoc}
use Rattle.std.specs.Prelude.{if◌then◌else◌, codes, option_and_then}
use Rattle.std.specs.Option.{option_map, option_or}
use Rattle.std.specs.Str.{bytes_eq}
use Rattle.std.specs.Str.Lines.{lines}
use Rattle.std.proofs.lemmas.Bool.Decides.{nat_tests}
use Rattle.io_edge.specs.declared.side.Side.{Side}
use Rattle.io_edge.specs.declared.side.Side.TheVariants.{Guest, Host}
use Rattle.ring_machine.specs.declared.place.Ring.{Ring}
use Rattle.ring_machine.specs.declared.place.Ring.TheVariants.{ToHost, ToGuest}
use Rattle.ring_machine.specs.declared.place.Place.{Place}
use Rattle.ring_machine.specs.declared.place.Place.TheVariants.{Write, Read, Mask, Pending, Feature, Cell, Signal, Mark, Page}
use Rattle.ring_machine.specs.declared.place.Op.{Op}
use Rattle.ring_machine.specs.declared.place.Op.TheVariants.{Load, Store, Raise, TakeSignal, StoreMark}
use Rattle.ring_machine.specs.Places.{IsRingSize}
use Rattle.script_text.specs.Forms.{number_of, in_u64}
use Rattle.trace_model.specs.declared.what.TraceWhat.{TraceWhat}
use Rattle.trace_model.specs.declared.what.TraceWhat.TheVariants.{Step}
use Rattle.trace_lines.specs.Places.{offset_of, cell_of, place_in}
use Rattle.trace_lines.specs.Rows.{says}
use Rattle.trace_lines.specs.Steps.{stored_op, load_of, store_of, signal_of, number_in, step_row, step_by}
use Rattle.trace_text.specs.Steps.{side_text, value_text, place_text, op_text, step_text}
use Rattle.trace_laws.specs.Texts.{IsRingWord, IsLoaded, IsStepOf, ReadsAs}
use Rattle.trace_laws.proofs.Words.{and_true, IsGood, HasWords, one_word, more_words, cuts, says_step}
use Rattle.trace_laws.proofs.Printed.{decimal_is, decimal_of, fits, plain_decimal, value_reads, good_value}

-- ---- places

none_both : (a : Bool) → (a && false) ≡ false
none_both true = refl
none_both false = refl

inside : (d at : ℕ) → at < d → at % 8 ≡ 0 → (nat_lt at d && (at % 8 == 0)) ≡ true
inside d at less whole =
    let below : nat_lt at d ≡ true = grind (arith, nat_tests, less) in
    let eighth : (at % 8 == 0) ≡ true = grind (arith, nat_tests, whole) in
    and_true _ _ below eighth

cell_reads : (d : ℕ) (r : Ring) (at : ℕ) → at < 2 ^ 64 → at < d → at % 8 ≡ 0 → cell_of d r (decimal at) ≡ Some (Some (Cell r at))
cell_reads d r at small less whole =
    ap (λ (b : Bool). if b then Some (offset_of d r (in_u64 (number_of (decimal at)))) else None) (decimal_is at small)
    ∙ ap (λ (n : ℕ). Some (offset_of d r (in_u64 n))) (decimal_of at small)
    ∙ ap (λ (o : Option ℕ). Some (offset_of d r o)) (fits at small)
    ∙ ap (λ (b : Bool). Some (if b then Some (Cell r at) else None)) (inside d at less whole)

long : (ds : List ℕ) → nat_le 12 (length (codes "tohost.cell." ++ ds)) ≡ true
long ds = grind (arith, nat_tests)

longer : (ds : List ℕ) → nat_le 13 (length (codes "toguest.cell." ++ ds)) ≡ true
longer ds = grind (arith, nat_tests)

cell_named : (d : ℕ) (r : Ring) (at : ℕ) → at < 2 ^ 64 → at < d → at % 8 ≡ 0 → place_in d (place_text (Cell r at)) ≡ Some (Some (Cell r at))
cell_named d ToHost at small less whole =
    let w = codes "tohost.cell." ++ decimal at in
    let other : Option (Option Place) = option_and_then (cell_of d ToGuest) (if nat_le 13 (length w) && bytes_eq (take 13 w) (codes "toguest.cell.") then Some (drop 13 w) else None) in
    ap (λ (b : Bool). option_or (option_and_then (cell_of d ToHost) (if b && true then Some (decimal at) else None)) other) (long (decimal at))
    ∙ ap (λ (o : Option (Option Place)). option_or o other) (cell_reads d ToHost at small less whole)
cell_named d ToGuest at small less whole =
    let w = codes "toguest.cell." ++ decimal at in
    ap (λ (b : Bool). option_or (option_and_then (cell_of d ToHost) (if b then Some (drop 12 w) else None)) (cell_in_guest w)) (none_both (nat_le 12 (length w)))
    ∙ ap (λ (b : Bool). option_and_then (cell_of d ToGuest) (if b && true then Some (decimal at) else None)) (longer (decimal at))
    ∙ cell_reads d ToGuest at small less whole
  where
    cell_in_guest : List ℕ → Option (Option Place)
    cell_in_guest w = option_and_then (cell_of d ToGuest) (if nat_le 13 (length w) && bytes_eq (take 13 w) (codes "toguest.cell.") then Some (drop 13 w) else None)

pub place_reads : (d : ℕ) (p : Place) → d ≤ 134217728 → IsLoaded d p → place_in d (place_text p) ≡ Some (Some p)
place_reads d (Write ToHost) most is = refl
place_reads d (Write ToGuest) most is = refl
place_reads d (Read ToHost) most is = refl
place_reads d (Read ToGuest) most is = refl
place_reads d (Mask ToHost) most is = refl
place_reads d (Mask ToGuest) most is = refl
place_reads d (Pending ToHost) most is = refl
place_reads d (Pending ToGuest) most is = refl
place_reads d (Feature ToHost) most is = refl
place_reads d (Feature ToGuest) most is = refl
place_reads d (Cell r at) most is = cell_named d r at (omega (arith, most, is.0)) is.0 is.1
place_reads d (Signal x) most is = absurd is
place_reads d (Mark Guest) most is = refl
place_reads d (Mark Host) most is = refl
place_reads d (Page q w) most is = absurd is

good_place : (d : ℕ) (p : Place) → d ≤ 134217728 → IsLoaded d p → IsGood (place_text p)
good_place d (Write ToHost) most is = record { each = refl; some = refl }
good_place d (Write ToGuest) most is = record { each = refl; some = refl }
good_place d (Read ToHost) most is = record { each = refl; some = refl }
good_place d (Read ToGuest) most is = record { each = refl; some = refl }
good_place d (Mask ToHost) most is = record { each = refl; some = refl }
good_place d (Mask ToGuest) most is = record { each = refl; some = refl }
good_place d (Pending ToHost) most is = record { each = refl; some = refl }
good_place d (Pending ToGuest) most is = record { each = refl; some = refl }
good_place d (Feature ToHost) most is = record { each = refl; some = refl }
good_place d (Feature ToGuest) most is = record { each = refl; some = refl }
good_place d (Cell ToHost at) most is = record { each = plain_decimal at (omega (arith, most, is.0)); some = refl }
good_place d (Cell ToGuest at) most is = record { each = plain_decimal at (omega (arith, most, is.0)); some = refl }
good_place d (Signal x) most is = absurd is
good_place d (Mark Guest) most is = record { each = refl; some = refl }
good_place d (Mark Host) most is = record { each = refl; some = refl }
good_place d (Page q w) most is = absurd is

also_loaded : (d : ℕ) (p : Place) → IsRingWord d p → IsLoaded d p
also_loaded d (Write r) is = tt
also_loaded d (Read r) is = tt
also_loaded d (Mask r) is = tt
also_loaded d (Pending r) is = tt
also_loaded d (Feature r) is = tt
also_loaded d (Cell r at) is = is
also_loaded d (Signal x) is = absurd is
also_loaded d (Mark x) is = absurd is
also_loaded d (Page q w) is = absurd is

stored_so : (d : ℕ) (x : Side) (p : Place) (w : ℕ) → IsRingWord d p → stored_op x p w ≡ Store p w
stored_so d x (Write r) w is = refl
stored_so d x (Read r) w is = refl
stored_so d x (Mask r) w is = refl
stored_so d x (Pending r) w is = refl
stored_so d x (Feature r) w is = refl
stored_so d x (Cell r at) w is = refl
stored_so d x (Signal y) w is = absurd is
stored_so d x (Mark y) w is = absurd is
stored_so d x (Page q n) w is = absurd is

-- ---- steps

good_side : (x : Side) → IsGood (side_text x)
good_side Guest = record { each = refl; some = refl }
good_side Host = record { each = refl; some = refl }

row_of_side : (d : ℕ) (x : Side) (kind : List ℕ) (others : List (List ℕ)) → step_row d (side_text x ∷ kind ∷ others) ≡ step_by d x kind others
row_of_side d Guest kind others = refl
row_of_side d Host kind others = refl

-- the words of a step behind its side, and what they say
record OpReads (d : ℕ) (x : Side) (op : Op) (v : ℕ) : Type 0 where
  words : List (List ℕ)
  has : HasWords (op_text op v) words
  says_it : step_row d (side_text x ∷ words) ≡ Some (Some (Step x op v))

-- a space between two texts
joined : (front a b : List ℕ) → front ++ a ++ codes " " ++ b ≡ front ++ (a ++ 32 ∷ b)
joined front a b = append_assoc (front ++ a) (32 ∷ []) b ∙ append_assoc front a (32 ∷ b)

load_reads : (d : ℕ) (x : Side) (p : Place) (v : ℕ) → d ≤ 134217728 → IsLoaded d p → v < 2 ^ 64 → OpReads d x (Load p) v
load_reads d x p v most is small = record {
  words = codes "load" ∷ place_text p ∷ value_text v ∷ [];
  has = subst (λ (t : List ℕ). HasWords t (codes "load" ∷ place_text p ∷ value_text v ∷ [])) (sym (joined (codes "load ") (place_text p) (value_text v))) (more_words (codes "load") _ _ (record { each = refl; some = refl }) (more_words (place_text p) _ _ (good_place d p most is) (one_word (value_text v) (good_value v small))));
  says_it = row_of_side d x (codes "load") (place_text p ∷ value_text v ∷ [])
      ∙ ap (λ (o : Option (Option Place)). option_and_then (λ q. option_map (λ n. load_of x q n) (number_in (value_text v))) o) (place_reads d p most is)
      ∙ ap (λ (o : Option (Option ℕ)). option_map (λ n. load_of x (Some p) n) o) (value_reads v small);
}

store_reads : (d : ℕ) (x : Side) (p : Place) (w v : ℕ) → d ≤ 134217728 → IsRingWord d p → w < 2 ^ 64 → v ≡ 0 → OpReads d x (Store p w) v
store_reads d x p w v most is small none =
    let loaded = also_loaded d p is in
    record {
      words = codes "store" ∷ place_text p ∷ value_text w ∷ [];
      has = subst (λ (t : List ℕ). HasWords t (codes "store" ∷ place_text p ∷ value_text w ∷ [])) (sym (joined (codes "store ") (place_text p) (value_text w))) (more_words (codes "store") _ _ (record { each = refl; some = refl }) (more_words (place_text p) _ _ (good_place d p most loaded) (one_word (value_text w) (good_value w small))));
      says_it = row_of_side d x (codes "store") (place_text p ∷ value_text w ∷ [])
          ∙ ap (λ (o : Option (Option Place)). option_and_then (λ q. option_map (λ n. store_of x q n) (number_in (value_text w))) o) (place_reads d p most loaded)
          ∙ ap (λ (o : Option (Option ℕ)). option_map (λ n. store_of x (Some p) n) o) (value_reads w small)
          ∙ ap (λ (op : Op). Some (Some (Step x op 0))) (stored_so d x p w is)
          ∙ ap (λ (n : ℕ). Some (Some (Step x (Store p w) n))) (sym none);
    }

raise_reads : (d : ℕ) (x y : Side) (v : ℕ) → v ≡ 0 → OpReads d x (Raise y) v
raise_reads d x y v none = record {
  words = codes "raise" ∷ side_text y ∷ [];
  has = more_words (codes "raise") _ _ (record { each = refl; some = refl }) (one_word (side_text y) (good_side y));
  says_it = row_of_side d x (codes "raise") (side_text y ∷ []) ∙ whose y ∙ ap (λ (n : ℕ). Some (Some (Step x (Raise y) n))) (sym none);
}
  where
    whose : (y : Side) → step_by d x (codes "raise") (side_text y ∷ []) ≡ Some (Some (Step x (Raise y) 0))
    whose Guest = refl
    whose Host = refl

signal_reads : (d : ℕ) (x : Side) (v : ℕ) → v < 2 ^ 64 → OpReads d x (TakeSignal x) v
signal_reads d x v small = record {
  words = codes "signal" ∷ value_text v ∷ [];
  has = more_words (codes "signal") _ _ (record { each = refl; some = refl }) (one_word (value_text v) (good_value v small));
  says_it = row_of_side d x (codes "signal") (value_text v ∷ []) ∙ ap (λ (o : Option (Option ℕ)). option_map (signal_of x) o) (value_reads v small);
}

mark_reads : (d : ℕ) (x : Side) (v : ℕ) → v ≡ 0 → OpReads d x (StoreMark x) v
mark_reads d Guest v none = record {
  words = codes "store" ∷ codes "guest.mark" ∷ codes "1" ∷ [];
  has = more_words (codes "store") _ _ (record { each = refl; some = refl }) (more_words (codes "guest.mark") _ _ (record { each = refl; some = refl }) (one_word (codes "1") (record { each = refl; some = refl })));
  says_it = ap (λ (n : ℕ). Some (Some (Step Guest (StoreMark Guest) n))) (sym none);
}
mark_reads d Host v none = record {
  words = codes "store" ∷ codes "host.mark" ∷ codes "1" ∷ [];
  has = more_words (codes "store") _ _ (record { each = refl; some = refl }) (more_words (codes "host.mark") _ _ (record { each = refl; some = refl }) (one_word (codes "1") (record { each = refl; some = refl })));
  says_it = ap (λ (n : ℕ). Some (Some (Step Host (StoreMark Host) n))) (sym none);
}

op_reads : (d : ℕ) (x : Side) (op : Op) (v : ℕ) → d ≤ 134217728 → IsStepOf d x op v → OpReads d x op v
op_reads d x (Load p) v most is = load_reads d x p v most is.0 is.1
op_reads d x (Store p w) v most is = store_reads d x p w v most is.0 is.1 is.2
op_reads d x (Raise y) v most is = raise_reads d x y v is
op_reads d x (TakeSignal y) v most is = subst (λ (z : Side). OpReads d x (TakeSignal z) v) (sym is.0) (signal_reads d x v is.1)
op_reads d x (StoreMark y) v most is = subst (λ (z : Side). OpReads d x (StoreMark z) v) (sym is.0) (mark_reads d x v is.1)

text_is : (x : Side) (op : Op) (v : ℕ) → step_text x op v ≡ (codes "step" ++ 32 ∷ (side_text x ++ 32 ∷ op_text op v)) ++ 10 ∷ []
text_is Guest op v = refl
text_is Host op v = refl

pub reads : (d : ℕ) (x : Side) (op : Op) (v : ℕ) → IsRingSize d → IsStepOf d x op v → ReadsAs d (step_text x op v) (Step x op v)
reads d x op v size is =
    let line = codes "step" ++ 32 ∷ (side_text x ++ 32 ∷ op_text op v) in
    let it = op_reads d x op v size.most is in
    let has = more_words (codes "step") _ _ (record { each = refl; some = refl }) (more_words (side_text x) _ _ (good_side x) it.has) in
    record {
      line = line;
      cut = λ rest. ap (λ (t : List ℕ). lines (t ++ rest)) (text_is x op v) ∙ cuts line rest has.prints;
      said = says_step d line (side_text x ∷ it.words) has ∙ ap (λ (o : Option (Option TraceWhat)). says o) it.says_it;
    }
