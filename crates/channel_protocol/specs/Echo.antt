-- An example, in the manner of a network: a packet has a head, an id and a value, and the device replies the value that it was asked. The reply goes back in a message
-- before the answer, and 0 goes back without one.
use Rattle.std.specs.Prelude.{ℕ, true, List, [], ◌∷◌, map, slice_index_or, ◌==◌, Option, Some, None, if◌then◌else◌}
use Rattle.hist_lock.specs.Seat.{Call}
use Rattle.channel_model.specs.WireFormat.{WireFormat}

-- a packet of three words: in-band data, and a completion
abbrev pub inband_echo : ℕ → ℕ → List ℕ
inband_echo id value = 12885032966 ∷ id ∷ value ∷ []

abbrev pub completion_echo : ℕ → ℕ → List ℕ
completion_echo id value = 12885032971 ∷ id ∷ value ∷ []

-- a word of a packet, or 0
abbrev pub word_of : ℕ → List ℕ → ℕ
word_of i p = slice_index_or p i 0

abbrev pub value_in : Option (List ℕ) → ℕ
value_in None = 0
value_in (Some p) = word_of 2 p

abbrev pub echo_message : ℕ → Option (ℕ → List ℕ)
echo_message r = if r == 0 then None else Some (λ own. inband_echo own r)

abbrev pub echo_format : WireFormat (List ℕ) ℕ ℕ ℕ
echo_format = record {
  id_of = λ p. word_of 1 p;
  is_request = λ p. word_of 0 p == 12885032966;
  waits = λ p. word_of 0 p == 12885032966;
  is_ack = λ p. word_of 0 p == 12885032971;
  is_answer = λ p. word_of 0 p == 12885032971;
  is_message = λ p. word_of 0 p == 12885032966;
  ack = λ p. completion_echo (word_of 1 p) 1;
  encode = inband_echo;
  has_answer = λ a. true;
  read = λ p. if word_of 0 p == 12885032966 then Some (word_of 2 p) else None;
  fixed = λ p. None;
  fits = λ q r. q == r;
  gives = λ p r. record { message = echo_message r; answer = completion_echo (word_of 1 p) 1 };
  result = λ a before p. Some (value_in before);
}

-- the calls that gave these replies
abbrev pub echo_calls : List ℕ → List (Call ℕ ℕ)
echo_calls log = map (λ v. record { serial = 7; request = v; reply = v }) log
