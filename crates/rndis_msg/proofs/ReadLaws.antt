-- What is read of bytes is the message with which they begin.
use Rattle.std.proofs.Common.{◌≡◌, ℕ, ◌+◌, ◌-◌, ◌≤◌, List, length, drop, slice_range, Option, Some, None, Result, Ok, Err, IfOk, IfErr, refl, sym, ap, ◌∙◌, arith, length-drop}
use Rattle.std.proofs.lemmas.List.{length-take-le}
use Rattle.rndis_msg.specs.Types.{number_of_type, message_type, fixed_part, buffer_place, kept_places}
use Rattle.rndis_msg.specs.Messages.{type_of, values_of, body_of}
use Rattle.rndis_msg.specs.Grammar.{number_at, numbers_at, Holds, IsRndis, BeginsWith, front_of}
use Rattle.rndis_msg.specs.Faults.{first_of, no_header, below_fixed, cut_short, above_fixed, begins_early, ends_late, size_fault, buffer_fault, typed_fault, first_fault}
use Rattle.rndis_msg.specs.Reading.{buffer_in, made, told, message_in, Reads, Parses}
use Rattle.rndis_msg.specs.declared.message_type.MessageType.{MessageType}
use Rattle.rndis_msg.specs.declared.message_type.BufferPlace.{BufferPlace}
use Rattle.rndis_msg.specs.declared.fault.RndisFault.{RndisFault}
use Rattle.rndis_msg.specs.declared.rndis.Rndis.{Rndis}
use Rattle.rndis_msg.proofs.FaultLaws.{then_fault, both_none, header_there, there_header, fixed_there, there_fixed, all_there, there_all, no_more, more_not, begins_behind, behind_begins, ends_within, within_ends}
use Rattle.rndis_msg.proofs.PartLaws.{type_again, one_type, some_fixed, made_again, same_parts, front_number, body_is}

-- what no fault says of bytes of a type
record Sound (t : MessageType) (b : List ℕ) : Type 0 where
  header : 8 ≤ length b
  fixed : fixed_part t ≤ number_at 4 b
  all : number_at 4 b ≤ length b
  plain : above_fixed (buffer_place t) t b ≡ None
  early : begins_early (buffer_place t) t (front_of b) ≡ None
  late : ends_late (buffer_place t) (front_of b) ≡ None

sound_from : (t : MessageType) (b : List ℕ) → number_at 0 b ≡ number_of_type t → first_fault b ≡ None → Sound t b
unfolding first_fault
sound_from t b kind h =
    let known : message_type (number_at 0 b) ≡ Some t = ap message_type kind ∙ type_again t in
    let one = both_none (no_header b) (typed_fault (message_type (number_at 0 b)) b) h in
    let typed : typed_fault (Some t) b ≡ None = rw known at one.1 in
    let two = both_none (size_fault t b) (buffer_fault t (front_of b)) typed in
    let three = both_none (below_fixed t b) (first_of (cut_short b) (above_fixed (buffer_place t) t b)) two.0 in
    let four = both_none (cut_short b) (above_fixed (buffer_place t) t b) three.1 in
    let five = both_none (begins_early (buffer_place t) t (front_of b)) (ends_late (buffer_place t) (front_of b)) two.1 in
    record { header = header_there b one.0; fixed = fixed_there t b three.0; all = all_there b four.0; plain = four.1; early = five.0; late = five.1 }

fault_from : (t : MessageType) (b : List ℕ) → number_at 0 b ≡ number_of_type t → Sound t b → first_fault b ≡ None
unfolding first_fault
fault_from t b kind s =
    let known : message_type (number_at 0 b) ≡ Some t = ap message_type kind ∙ type_again t in
    let size : size_fault t b ≡ None = then_fault (below_fixed t b) (first_of (cut_short b) (above_fixed (buffer_place t) t b)) None (there_fixed t b s.fixed) (then_fault (cut_short b) (above_fixed (buffer_place t) t b) None (there_all b s.all) s.plain) in
    let buffer : buffer_fault t (front_of b) ≡ None = then_fault (begins_early (buffer_place t) t (front_of b)) (ends_late (buffer_place t) (front_of b)) None s.early s.late in
    let typed : typed_fault (message_type (number_at 0 b)) b ≡ None = ap (λ o. typed_fault o b) known ∙ then_fault (size_fault t b) (buffer_fault t (front_of b)) None size buffer in
    then_fault (no_header b) (typed_fault (message_type (number_at 0 b)) b) None (there_header b s.header) typed

-- how many bytes a part has that lies within
part_length : (b : List ℕ) (x n : ℕ) → x + n ≤ length b → length (slice_range b x (x + n)) ≡ n
part_length b x n le =
    let len : x + n - x ≡ n = omega arith in
    rw len (length-take-le n (drop x b) (omega (arith, length-drop x b)))

-- a buffer with no fault
holds_from : (o : Option BufferPlace) (t : MessageType) (body b f : List ℕ) → number_at 4 b ≡ length f → fixed_part t ≤ length f
    → above_fixed o t b ≡ None → begins_early o t f ≡ None → ends_late o f ≡ None → body ≡ buffer_in o f → Holds o (fixed_part t) body f
holds_from None t body b f size fixed plain early late is = omega (arith, no_more t b plain, size, fixed)
holds_from (Some place) t body b f size fixed plain early late is =
    let off = number_at place.offset f in
    let n = number_at place.length f in
    let ends = ends_within place f late in
    let count : n ≡ length body = sym (ap length is ∙ part_length f (off + 8) n ends.0) in
    record {
      count = count;
      few = omega (arith, ends.1, count);
      begins = λ some. begins_behind place t f early (omega (arith, some, count));
      ends = omega (arith, ends.0, count);
      bytes = is ∙ ap (λ k. slice_range f (off + 8) (off + 8 + k)) count;
    }

-- and a buffer has none
faults_from : (o : Option BufferPlace) (t : MessageType) (body b f : List ℕ) → number_at 4 b ≡ length f → Holds o (fixed_part t) body f
    → (above_fixed o t b ≡ None) × (begins_early o t f ≡ None) × (ends_late o f ≡ None)
faults_from None t body b f size h = (more_not t b (omega (arith, size, h)), refl, refl)
faults_from (Some place) t body b f size h =
    (refl, behind_begins place t f (λ some. h.begins (omega (arith, some, h.count))), within_ends place f (omega (arith, h.ends, h.count)) (omega (arith, h.few, h.count)))

begins_from : (m : Rndis) (b : List ℕ) → number_at 0 b ≡ number_of_type (type_of m) → Sound (type_of m) b → Reads (type_of m) m (front_of b) → BeginsWith m b
begins_from m b kind s reads =
    let t = type_of m in
    let n = number_at 4 b in
    let len : length (front_of b) ≡ n = length-take-le n b s.all in
    let some = some_fixed t in
    record {
      within = s.all;
      front = record {
        kind = front_number b n 0 s.all (omega (arith, some, s.fixed)) ∙ kind;
        size = front_number b n 4 s.all (omega (arith, some, s.fixed)) ∙ sym len;
        fixed = omega (arith, len, s.fixed);
        fields = reads.1;
        buffer = holds_from (buffer_place t) t (body_of m) b (front_of b) (sym len) (omega (arith, len, s.fixed)) s.plain s.early s.late reads.2;
      };
    }

-- bytes that begin with a message have its number and no fault
begun : (m : Rndis) (b : List ℕ) → BeginsWith m b → (number_at 0 b ≡ number_of_type (type_of m)) × Sound (type_of m) b
begun m b h =
    let t = type_of m in
    let n = number_at 4 b in
    let len : length (front_of b) ≡ n = length-take-le n b h.within in
    let some = some_fixed t in
    let fixed = h.front.fixed in
    let f = faults_from (buffer_place t) t (body_of m) b (front_of b) (sym len) h.front.buffer in (
      sym (front_number b n 0 h.within (omega (arith, some, fixed, len))) ∙ h.front.kind,
      record { header = omega (arith, some, fixed, len, h.within); fixed = omega (arith, fixed, len); all = h.within; plain = f.0; early = f.1; late = f.2 },
    )

no_fault : (m : Rndis) (b : List ℕ) → BeginsWith m b → first_fault b ≡ None
no_fault m b h = let s = begun m b h in fault_from (type_of m) b s.0 s.1

-- bytes are those of one message at most
one_message : (m n : Rndis) (b : List ℕ) → IsRndis m b → IsRndis n b → m ≡ n
one_message m n b h k =
    let t : type_of m ≡ type_of n = one_type (type_of m) (type_of n) (sym h.kind ∙ k.kind) in
    let values : values_of m ≡ values_of n = h.fields ∙ (ap (λ u. numbers_at (kept_places u) b) t ∙ sym k.fields) in
    let bodies : body_of m ≡ body_of n = body_is m b h.buffer ∙ (ap (λ u. buffer_in (buffer_place u) b) t ∙ sym (body_is n b k.buffer)) in
    same_parts m n t values bodies

-- what is read begins the bytes
pub parsed_found : (b : List ℕ) (r : Result Rndis RndisFault) → Parses b r → IfOk r (λ m. BeginsWith m b)
unfolding Parses
parsed_found b (Ok m) p = begins_from m b p.1 (sound_from (type_of m) b p.1 p.0) p.2
parsed_found b (Err e) p = tt

parsed_no_err : (b : List ℕ) (e : RndisFault) {m : Rndis} → Parses b (Err e) → first_fault b ≡ None → Err e ≡ Ok m
unfolding Parses
parsed_no_err b e p none = cc

-- what begins the bytes is read
pub parsed_only : (b : List ℕ) (r : Result Rndis RndisFault) → Parses b r → (m : Rndis) → BeginsWith m b → r ≡ Ok m
parsed_only b (Ok n) p m h = ap Ok (one_message n m (front_of b) (parsed_found b (Ok n) p).front h.front)
parsed_only b (Err e) p m h = parsed_no_err b e p (no_fault m b h)

-- which fault it is
pub parsed_fault : (b : List ℕ) (r : Result Rndis RndisFault) → Parses b r → IfErr r (λ e. first_fault b ≡ Some e)
unfolding Parses
parsed_fault b (Ok m) p = tt
parsed_fault b (Err e) p = p

pub parsed_faulty : (b : List ℕ) (r : Result Rndis RndisFault) → Parses b r → IfOk r (λ m. first_fault b ≡ None)
unfolding Parses
parsed_faulty b (Ok m) p = p.0
parsed_faulty b (Err e) p = tt

-- the first fault, by where it was found
pub typed_is : (t : MessageType) (b : List ℕ) → no_header b ≡ None → message_type (number_at 0 b) ≡ Some t → first_fault b ≡ first_of (size_fault t b) (buffer_fault t (front_of b))
unfolding first_fault
typed_is t b header known = then_fault (no_header b) (typed_fault (message_type (number_at 0 b)) b) (typed_fault (Some t) b) header (ap (λ o. typed_fault o b) known)

-- what is read is told by the bytes alone
read_value : (m : Rndis) (b : List ℕ) → first_fault b ≡ None → number_at 0 b ≡ number_of_type (type_of m) → Reads (type_of m) m (front_of b) → message_in b ≡ Ok m
unfolding message_in
read_value m b none number reads =
    ap (λ o. told o (message_type (number_at 0 b)) (front_of b)) none
    ∙ (ap (λ o. told None o (front_of b)) (ap message_type number ∙ type_again (type_of m))
    ∙ ap Ok (ap (λ vs. made (type_of m) vs (buffer_in (buffer_place (type_of m)) (front_of b))) (sym reads.1) ∙ (ap (made (type_of m) (values_of m)) (sym reads.2) ∙ made_again m)))

pub parsed_value : (b : List ℕ) (r : Result Rndis RndisFault) → Parses b r → r ≡ message_in b
unfolding Parses message_in
parsed_value b (Ok m) p = sym (read_value m b p.0 p.1 p.2)
parsed_value b (Err e) p = sym (ap (λ o. told o (message_type (number_at 0 b)) (front_of b)) p)

-- the message with which bytes begin
pub begins_told : (m : Rndis) (b : List ℕ) → BeginsWith m b → message_in b ≡ Ok m
begins_told m b h = read_value m b (no_fault m b h) (begun m b h).0 (refl, h.front.fields, body_is m (front_of b) h.front.buffer)
