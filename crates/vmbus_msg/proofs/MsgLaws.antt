-- A message and its bytes tell each other.
use Rattle.std.proofs.Common.{◌≡◌, ℕ, ◌+◌, ◌-◌, ◌*◌, ◌/◌, ◌^◌, ◌<◌, ◌≤◌, List, [], ◌∷◌, ◌++◌, length, take, drop, Some, None, Result, Ok, Err, IfOk, IfErr, refl, sym, ap, ◌∙◌, subst, arith, append_assoc, length-drop}
use Rattle.std.specs.List.{flat_map, AllByRecursion}
use Rattle.std.proofs.lemmas.List.{append-nil, take_at, drop_at, take_all}
use Rattle.wire_table.specs.Little.{bytes_of}
use Rattle.wire_table.specs.Rows.{Row, num, raw, Kind, nums, raws, bytes_in, spelled_after, total, Has, AllHave, rows_at, nth_number, numbers_in}
use Rattle.wire_table.proofs.RowLaws.{IsBytes, all_bytes, take_bytes, drop_bytes, front_found, front_again, spelled, spelled_after_is}
use Rattle.wire_table.proofs.NumberLaws.{length-numbers_in, numbers_found, numbers_again}
use Rattle.vmbus_msg.specs.declared.fault.MsgFault.{MsgFault}
use Rattle.vmbus_msg.specs.declared.msg.Msg.{Msg}
use Rattle.vmbus_msg.specs.declared.msg.Msg.TheVariants.{GpadlHeader, GpadlBody}
use Rattle.vmbus_msg.specs.Grammar.{Fits, AllFit, type_of, fields_of, kinds_of, frames_of, rows_of, bytes_of_message, length_of, InForm, IsMessage}
use Rattle.vmbus_msg.specs.Faults.{short, fault_for, fault_of, value_at}
use Rattle.vmbus_msg.specs.Reading.{frames_at, ReadsAs, Reads, Parses}
use Rattle.vmbus_msg.proofs.SizeLaws.{none_short, here_fault, then_fault, both_none, fixed_len, fixed_none, body_sizes, body_none, header_size, header_none}
use Rattle.vmbus_msg.proofs.PartLaws.{same_parts}

-- a message's bytes are those of its type and fields, and then those of its frames
bytes_are : (m : Msg) → bytes_of_message m ≡ spelled_after [] (rows_of m) ++ flat_map (bytes_of 8) (frames_of m)
unfolding bytes_of_message
bytes_are (GpadlHeader h) = refl
bytes_are (GpadlBody h) = refl
bytes_are m = sym (append-nil (spelled_after [] (rows_of m)))

type_fits : (m : Msg) → type_of m < 256 ^ 4
type_fits (GpadlHeader h) = omega arith
type_fits m = omega arith

some_fields : (m : Msg) → 8 ≤ length_of m
some_fields (GpadlHeader h) = omega arith
some_fields (GpadlBody h) = omega arith
some_fields m = omega arith

row_bytes : (k : Kind) (r : Row) (rest : List ℕ) → Fits k r → IsBytes (bytes_in r ++ rest) → Has k r
row_bytes (nums w) (num x v) rest h b = h
row_bytes (nums w) (raw bs) rest h b = absurd h
row_bytes (raws n) (num x v) rest h b = absurd h
row_bytes (raws n) (raw bs) rest h b = (h, all_bytes bs (subst IsBytes (take_at bs rest n h) (take_bytes n (bs ++ rest) b)))

rest_bytes : (xs rest : List ℕ) → IsBytes (xs ++ rest) → IsBytes rest
rest_bytes xs rest b = subst IsBytes (drop_at xs rest (length xs) refl) (drop_bytes (length xs) (xs ++ rest) b)

-- rows that fit are of their kinds where their bytes are bytes
have_from : (ks : List Kind) (rs : List Row) (rest : List ℕ) → AllFit ks rs → IsBytes (spelled rs ++ rest) → AllHave ks rs
have_from [] [] rest h b = tt
have_from [] (r ∷ rs) rest h b = absurd h
have_from (k ∷ ks) [] rest h b = absurd h
have_from (k ∷ ks) (r ∷ rs) rest h b =
    let one : IsBytes (bytes_in r ++ (spelled rs ++ rest)) = subst IsBytes (append_assoc (bytes_in r) (spelled rs) rest) b in
    (row_bytes k r (spelled rs ++ rest) h.0 one, have_from ks rs rest h.1 (rest_bytes (bytes_in r) (spelled rs ++ rest) one))

row_fit : (k : Kind) (r : Row) → Has k r → Fits k r
row_fit (nums w) (num x v) h = h
row_fit (nums w) (raw bs) h = absurd h
row_fit (raws n) (num x v) h = absurd h
row_fit (raws n) (raw bs) h = h.0

-- and rows of their kinds fit
fit_from : (ks : List Kind) (rs : List Row) → AllHave ks rs → AllFit ks rs
fit_from [] [] h = tt
fit_from [] (r ∷ rs) h = absurd h
fit_from (k ∷ ks) [] h = absurd h
fit_from (k ∷ ks) (r ∷ rs) h = (row_fit k r h.0, fit_from ks rs h.1)

-- bytes have the length of a message, and its frames behind its fields
record Sized (m : Msg) (b : List ℕ) : Type 0 where
  size : length b ≡ length_of m
  frames : frames_of m ≡ numbers_in 8 (length (frames_of m)) (drop (4 + total (kinds_of (type_of m))) b)

sized_frames : (b fs : List ℕ) (at n : ℕ) → fs ≡ numbers_in 8 n (drop at b) → (length fs ≡ n) × (fs ≡ numbers_in 8 (length fs) (drop at b))
sized_frames b fs at n is =
    let len : length fs ≡ n = ap length is ∙ length-numbers_in 8 n (drop at b) in
    (len, is ∙ ap (λ k. numbers_in 8 k (drop at b)) (sym len))

no_frames : (b : List ℕ) → [] ≡ numbers_in 8 0 b
unfolding numbers_in
no_frames b = refl

sized : (m : Msg) (b : List ℕ) → frames_of m ≡ frames_at (type_of m) b → fault_for (type_of m) b ≡ None → Sized m b
sized (GpadlHeader h) b is none =
    let f = sized_frames b h.frames 28 ((length b - 28) / 8) is in
    record { size = omega (arith, header_size b none, f.0); frames = f.1 }
sized (GpadlBody h) b is none =
    let f = sized_frames b h.frames 16 ((length b - 16) / 8) is in
    let s = body_sizes (length b) none in
    record { size = omega (arith, s.0, s.1, s.2, f.0); frames = f.1 }
sized m b is none = record { size = fixed_len (4 + total (kinds_of (type_of m))) (length b) none; frames = no_frames (drop (4 + total (kinds_of (type_of m))) b) }

-- and so they are the message's
is_message : (m : Msg) (b : List ℕ) → IsBytes b → type_of m ≡ value_at b 0 4 → fields_of m ≡ rows_at (kinds_of (type_of m)) 4 b → Sized m b → IsMessage m b
is_message m b h t f s =
    let ks = kinds_of (type_of m) in
    let fs = frames_of m in
    let rows : rows_at (nums 4 ∷ ks) 0 b ≡ rows_of m = ap (λ n. num 4 n ∷ rows_at ks 4 b) (sym t) ∙ ap (λ (rs : List Row). num 4 (type_of m) ∷ rs) (sym f) in
    let found = front_found (nums 4 ∷ ks) b h (omega (arith, s.size)) in
    let have : AllHave (nums 4 ∷ ks) (rows_of m) = subst (AllHave (nums 4 ∷ ks)) rows found.0 in
    let whole : b ≡ spelled_after [] (rows_of m) ++ drop (4 + total ks) b = found.1 ∙ ap (λ rs. spelled_after [] rs ++ drop (4 + total ks) b) rows in
    let left : length (drop (4 + total ks) b) ≡ 8 * length fs = omega (arith, length-drop (4 + total ks) b, s.size) in
    let n = numbers_found 8 (length fs) (drop (4 + total ks) b) (drop_bytes (4 + total ks) b h) left in
    let tail : drop (4 + total ks) b ≡ flat_map (bytes_of 8) fs = sym n.0 ∙ ap (flat_map (bytes_of 8)) (sym s.frames) in
    record {
      form = record { fields = fit_from ks (fields_of m) have.1; frames = subst (AllByRecursion (λ v. v < 256 ^ 8)) (sym s.frames) n.1 };
      spelled = whole ∙ (ap (λ (xs : List ℕ). spelled_after [] (rows_of m) ++ xs) tail ∙ sym (bytes_are m));
    }

-- what a message's bytes hold
record Told (m : Msg) (b : List ℕ) : Type 0 where
  kind : value_at b 0 4 ≡ type_of m
  fields : rows_at (kinds_of (type_of m)) 4 b ≡ fields_of m
  sizes : Sized m b

message_told : (m : Msg) (b : List ℕ) → IsBytes b → IsMessage m b → Told m b
message_told m b h is =
    let ks = kinds_of (type_of m) in
    let fs = frames_of m in
    let rest = flat_map (bytes_of 8) fs in
    let whole : b ≡ spelled_after [] (rows_of m) ++ rest = is.spelled ∙ bytes_are m in
    let all : IsBytes (spelled (rows_of m) ++ rest) = subst IsBytes (whole ∙ ap (λ (xs : List ℕ). xs ++ rest) (spelled_after_is [] (rows_of m))) h in
    let again = front_again (nums 4 ∷ ks) (rows_of m) rest (have_from (nums 4 ∷ ks) (rows_of m) rest ((refl, type_fits m), is.form.fields) all) in
    let n = numbers_again 8 fs is.form.frames in
    let rows : num 4 (value_at b 0 4) ∷ rows_at ks 4 b ≡ num 4 (type_of m) ∷ fields_of m = ap (rows_at (nums 4 ∷ ks) 0) whole ∙ again.0 in
    let tail : drop (4 + total ks) b ≡ rest = ap (drop (4 + total ks)) whole ∙ again.1 in
    record {
      kind = ap (nth_number 0) rows;
      fields = ap (drop 1) rows;
      sizes = record {
        size = ap length whole ∙ (again.2 ∙ ap (λ k. 4 + total ks + k) n.1);
        frames = sym n.0 ∙ ap (numbers_in 8 (length fs)) (sym tail);
      };
    }

kind_none : (m : Msg) (b : List ℕ) → Told m b → fault_for (type_of m) b ≡ None
kind_none (GpadlHeader h) b t =
    let x : h.range_buflen ≡ value_at b 16 18 = ap (nth_number 3) (sym t.fields) in
    let y : h.rangecount ≡ value_at b 18 20 = ap (nth_number 4) (sym t.fields) in
    header_none b h.range_buflen h.rangecount h.frames h.in_form x y t.sizes.size
kind_none (GpadlBody h) b t =
    let s : length b ≡ 16 + 8 * length h.frames = t.sizes.size in
    body_none (length b) (omega (arith, s, h.in_form.0)) (omega (arith, s, h.in_form.1)) (omega (arith, s))
kind_none m b t = fixed_none (4 + total (kinds_of (type_of m))) (length b) t.sizes.size

-- a message's bytes have no fault
no_fault : (m : Msg) (b : List ℕ) → IsBytes b → IsMessage m b → fault_of b ≡ None
unfolding fault_of
no_fault m b h is =
    let t = message_told m b h is in
    then_fault (short 8 (length b)) (fault_for (value_at b 0 4) b) None (none_short 8 (length b) (omega (arith, t.sizes.size, some_fields m))) (ap (λ k. fault_for k b) t.kind ∙ kind_none m b t)

-- bytes are those of one message at most
one_message : (m n : Msg) (b : List ℕ) → IsBytes b → IsMessage m b → IsMessage n b → m ≡ n
one_message m n b h im inn =
    let s = message_told m b h im in
    let t = message_told n b h inn in
    let kinds : type_of m ≡ type_of n = sym s.kind ∙ t.kind in
    let fields : fields_of m ≡ fields_of n = sym s.fields ∙ (ap (λ k. rows_at (kinds_of k) 4 b) kinds ∙ t.fields) in
    let sums : total (kinds_of (type_of m)) ≡ total (kinds_of (type_of n)) = ap (λ k. total (kinds_of k)) kinds in
    let sm : length b ≡ 4 + total (kinds_of (type_of m)) + 8 * length (frames_of m) = s.sizes.size in
    let sn : length b ≡ 4 + total (kinds_of (type_of n)) + 8 * length (frames_of n) = t.sizes.size in
    let count : length (frames_of m) ≡ length (frames_of n) = omega (arith, sm, sn, sums) in
    let frames : frames_of m ≡ frames_of n = s.sizes.frames ∙ (ap (λ k. numbers_in 8 k (drop (4 + total (kinds_of (type_of m))) b)) count ∙ (ap (λ k. numbers_in 8 (length (frames_of n)) (drop (4 + k) b)) sums ∙ sym t.sizes.frames)) in
    same_parts m n kinds fields frames

-- what is read of a type is read of the bytes
pub from_kind : (b : List ℕ) (k : ℕ) (r : Result Msg MsgFault) → short 8 (length b) ≡ None → k ≡ value_at b 0 4 → Reads k b r → Parses b r
unfolding Reads Parses fault_of
from_kind b k (Ok m) low is h =
    (then_fault (short 8 (length b)) (fault_for (value_at b 0 4) b) None low (ap (λ n. fault_for n b) (sym is) ∙ h.0), subst (λ n. ReadsAs n m b) is h.1)
from_kind b k (Err e) low is h = then_fault (short 8 (length b)) (fault_for (value_at b 0 4) b) (Some e) low (ap (λ n. fault_for n b) (sym is) ∙ h)

pub from_short : (b : List ℕ) (e : MsgFault) → short 8 (length b) ≡ Some e → Parses b (Err e)
unfolding Parses fault_of
from_short b e h = here_fault (short 8 (length b)) (fault_for (value_at b 0 4) b) e h

-- what is read has these bytes
pub parsed_found : (b : List ℕ) (r : Result Msg MsgFault) → IsBytes b → Parses b r → IfOk r (λ m. IsMessage m b)
unfolding Parses fault_of
parsed_found b (Ok m) h p =
    let none = (both_none (short 8 (length b)) (fault_for (value_at b 0 4) b) p.0).1 in
    let t : type_of m ≡ value_at b 0 4 = p.1.0 in
    let fields : fields_of m ≡ rows_at (kinds_of (type_of m)) 4 b = p.1.1 ∙ ap (λ k. rows_at (kinds_of k) 4 b) (sym t) in
    let frames : frames_of m ≡ frames_at (type_of m) b = p.1.2 ∙ ap (λ k. frames_at k b) (sym t) in
    is_message m b h t fields (sized m b frames (ap (λ k. fault_for k b) t ∙ none))
parsed_found b (Err e) h p = tt

parsed_no_err : (b : List ℕ) (e : MsgFault) {m : Msg} → Parses b (Err e) → fault_of b ≡ None → Err e ≡ Ok m
unfolding Parses
parsed_no_err b e p none = cc

-- the message of these bytes is read
pub parsed_only : (b : List ℕ) (r : Result Msg MsgFault) → IsBytes b → Parses b r → (m : Msg) → IsMessage m b → r ≡ Ok m
parsed_only b (Ok n) h p m is = ap Ok (one_message n m b h (parsed_found b (Ok n) h p) is)
parsed_only b (Err e) h p m is = parsed_no_err b e p (no_fault m b h is)

-- which fault it is
pub parsed_fault : (b : List ℕ) (r : Result Msg MsgFault) → Parses b r → IfErr r (λ e. fault_of b ≡ Some e)
unfolding Parses
parsed_fault b (Ok m) p = tt
parsed_fault b (Err e) p = p

-- the part of a buffer that was written is the message
pub written_front : (m : Msg) (w rest : List ℕ) (n : ℕ) → length w ≡ n → n ≡ length_of m → take (length_of m) w ≡ bytes_of_message m → InForm m → IsMessage m (take n (w ++ rest))
written_front m w rest n len is bytes form =
    let front : take n (w ++ rest) ≡ w = take_at w rest n len in
    let all : w ≡ bytes_of_message m = sym (take_all (length_of m) w (omega (arith, len, is))) ∙ bytes in
    record { form = form; spelled = front ∙ all }

-- a message's bytes were written where those of its variant were
pub front_as : (m n : Msg) (w : List ℕ) → m ≡ n → take (length_of n) w ≡ bytes_of_message n → take (length_of m) w ≡ bytes_of_message m
front_as m n w is h = subst (λ k. take (length_of k) w ≡ bytes_of_message k) (sym is) h

-- and its fields fit where those of its variant do
pub fit_as : (m n : Msg) → m ≡ n → AllFit (kinds_of (type_of n)) (fields_of n) → AllFit (kinds_of (type_of m)) (fields_of m)
fit_as m n is h = subst (λ k. AllFit (kinds_of (type_of k)) (fields_of k)) (sym is) h

-- and its frames
pub frames_as : (m n : Msg) → m ≡ n → AllByRecursion (λ f. f < 256 ^ 8) (frames_of n) → AllByRecursion (λ f. f < 256 ^ 8) (frames_of m)
frames_as m n is h = subst (λ k. AllByRecursion (λ f. f < 256 ^ 8) (frames_of k)) (sym is) h
