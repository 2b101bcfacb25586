-- Streams of lists of packets.
use Rattle.std.proofs.Common.{◌≡◌, ℕ, Bool, true, false, List, [], ◌∷◌, ◌++◌, Option, None, append_assoc, refl, sym, ap, ◌∙◌, subst}
use Rattle.channel_trace.specs.Runs.{IsFront}
use Rattle.hv_sock.specs.declared.sock_fault.SockFault.{SockFault}
use Rattle.hv_sock.specs.Packets.{Said, Data, Close, Fault, says}
use Rattle.hv_sock.specs.Streams.{IsOpen, ReadsOf, closed_by, data_then, fault_by, fault_in, is_closed, stream_of}

stream_step : (s : Said) (ps : List (List ℕ)) (p : List ℕ) → (IsOpen ps → stream_of (ps ++ p ∷ []) ≡ stream_of ps ++ data_then (says p) []) → closed_by s (is_closed ps) ≡ false → fault_by s (fault_in ps) ≡ None
    → data_then s (stream_of (ps ++ p ∷ [])) ≡ data_then s (stream_of ps) ++ data_then (says p) []
stream_step (Data bytes) ps p more closed fault = ap (λ (l : List ℕ). bytes ++ l) (more (record { unclosed = closed; whole = fault })) ∙ sym (append_assoc bytes (stream_of ps) (data_then (says p) []))
stream_step _ ps p more closed fault = absurd (cc)

-- what one packet more adds to a stream that can go on
pub stream_more : (ps : List (List ℕ)) (p : List ℕ) → IsOpen ps → stream_of (ps ++ p ∷ []) ≡ stream_of ps ++ data_then (says p) []
stream_more [] p is = refl
stream_more (q ∷ ps) p is = stream_step (says q) ps p (stream_more ps p) is.unclosed is.whole

closed_step : (s : Said) (ps : List (List ℕ)) (p : List ℕ) → (IsOpen ps → is_closed (ps ++ p ∷ []) ≡ closed_by (says p) false) → closed_by s (is_closed ps) ≡ false → fault_by s (fault_in ps) ≡ None
    → closed_by s (is_closed (ps ++ p ∷ [])) ≡ closed_by (says p) false
closed_step (Data bytes) ps p more closed fault = more (record { unclosed = closed; whole = fault })
closed_step _ ps p more closed fault = absurd (cc)

pub closed_more : (ps : List (List ℕ)) (p : List ℕ) → IsOpen ps → is_closed (ps ++ p ∷ []) ≡ closed_by (says p) false
closed_more [] p is = refl
closed_more (q ∷ ps) p is = closed_step (says q) ps p (closed_more ps p) is.unclosed is.whole

fault_step : (s : Said) (ps : List (List ℕ)) (p : List ℕ) → (IsOpen ps → fault_in (ps ++ p ∷ []) ≡ fault_by (says p) None) → closed_by s (is_closed ps) ≡ false → fault_by s (fault_in ps) ≡ None
    → fault_by s (fault_in (ps ++ p ∷ [])) ≡ fault_by (says p) None
fault_step (Data bytes) ps p more closed fault = more (record { unclosed = closed; whole = fault })
fault_step _ ps p more closed fault = absurd (cc)

pub fault_more : (ps : List (List ℕ)) (p : List ℕ) → IsOpen ps → fault_in (ps ++ p ∷ []) ≡ fault_by (says p) None
fault_more [] p is = refl
fault_more (q ∷ ps) p is = fault_step (says q) ps p (fault_more ps p) is.unclosed is.whole

front_by : (s : Said) (a b : List ℕ) → IsFront a b → IsFront (data_then s a) (data_then s b)
front_by (Data bytes) a b f = (f.0, ap (λ (l : List ℕ). bytes ++ l) f.1 ∙ sym (append_assoc bytes a f.0))
front_by _ a b f = ([], refl)

front_with : (got rest : List (List ℕ)) → IsFront (stream_of got) (stream_of (got ++ rest))
front_with [] rest = (stream_of rest, refl)
front_with (p ∷ ps) rest = front_by (says p) (stream_of ps) (stream_of (ps ++ rest)) (front_with ps rest)

pub reads_front : (got sent : List (List ℕ)) → IsFront got sent → IsFront (stream_of got) (stream_of sent)
reads_front got sent f = subst (λ (s : List (List ℕ)). IsFront (stream_of got) (stream_of s)) (sym f.1) (front_with got f.0)

all_by : (s : Said) (a b : List ℕ) (x y : Bool) → (x ≡ true → (a ≡ b) × (y ≡ true)) → closed_by s x ≡ true → (data_then s a ≡ data_then s b) × (closed_by s y ≡ true)
all_by (Data bytes) a b x y h closed = (ap (λ (l : List ℕ). bytes ++ l) (h closed).0, (h closed).1)
all_by Close a b x y h closed = (refl, refl)
all_by (Fault e) a b x y h closed = absurd (cc)

all_with : (got rest : List (List ℕ)) → is_closed got ≡ true → (stream_of got ≡ stream_of (got ++ rest)) × (is_closed (got ++ rest) ≡ true)
all_with [] rest closed = absurd (cc)
all_with (p ∷ ps) rest closed = all_by (says p) (stream_of ps) (stream_of (ps ++ rest)) (is_closed ps) (is_closed (ps ++ rest)) (all_with ps rest) closed

pub reads_all : (got sent : List (List ℕ)) → IsFront got sent → is_closed got ≡ true → (stream_of got ≡ stream_of sent) × (is_closed sent ≡ true)
reads_all got sent f closed = subst (λ (s : List (List ℕ)). (stream_of got ≡ stream_of s) × (is_closed s ≡ true)) (sym f.1) (all_with got f.0 closed)

whole_by : (s : Said) (x y : Option SockFault) → (y ≡ None → x ≡ None) → fault_by s y ≡ None → fault_by s x ≡ None
whole_by (Data bytes) x y h none = h none
whole_by Close x y h none = refl
whole_by (Fault e) x y h none = none

whole_with : (got rest : List (List ℕ)) → fault_in (got ++ rest) ≡ None → fault_in got ≡ None
whole_with [] rest none = refl
whole_with (p ∷ ps) rest none = whole_by (says p) (fault_in ps) (fault_in (ps ++ rest)) (whole_with ps rest) none

pub reads_of : (got sent : List (List ℕ)) → IsFront got sent → ReadsOf got sent
reads_of got sent f = record {
  front = reads_front got sent f;
  all = reads_all got sent f;
  whole = λ none. whole_with got f.0 (ap fault_in (sym f.1) ∙ none);
}
