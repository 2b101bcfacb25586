-- Channels on which one packet answers each request.
use Rattle.std.specs.Prelude.{ℕ, Bool, true, false, ◌&&◌, Option, Some, None, is_some, is_none, if◌then◌else◌}
use Rattle.channel_model.specs.WireFormat.{WireFormat, Back}

-- what the packets of one kind of channel say. P are the packets, A the asks, Q the device's requests, R its replies
pub record Codec (P A Q R : Type 0) : Type 0 where
  -- the id of a packet
  pub id : P → ℕ
  -- a packet of the end that serves is an answer
  pub answers : P → Bool
  -- the packet that asks, under an id
  pub encode : ℕ → A → P
  -- a packet has an answer
  pub waits : P → Bool
  -- what a packet asks of the device
  pub read : P → Option Q
  -- the answer to a packet that asks nothing of it
  pub fixed : P → P
  -- the device may reply so
  pub fits : Q → R → Bool
  -- the answer with its reply
  pub answer : P → R → P
  -- what an answer says
  pub said : P → Option R

-- an answer that goes back with no message besides
abbrev pub alone : {P : Type 0} → P → Back P
alone p = record { message = None; answer = p }

module _ {P A Q R : Type 0} (x : Codec P A Q R) where
  -- what goes back for a packet that asks nothing of the device
  abbrev pub fixed_back : P → Option (Back P)
  fixed_back p = if x.waits p && is_none (x.read p) then Some (alone (x.fixed p)) else None

  -- whether an ask asks the device: under whatever id
  abbrev pub asks_device : A → Bool
  asks_device a = is_some (x.read (x.encode 0 a))

  -- what an answer says to an ask, where that asks the device
  abbrev pub result_in : A → Option P → P → Option R
  result_in a before p = if asks_device a then x.said p else None

  -- what both ends of such a channel say: all packets are requests or answers, and there are no messages
  abbrev pub format_by : WireFormat P A Q R
  format_by = record {
    id_of = x.id;
    is_request = λ p. true;
    waits = x.waits;
    is_ack = λ p. false;
    is_answer = x.answers;
    is_message = λ p. false;
    ack = x.fixed;
    encode = x.encode;
    has_answer = λ a. x.waits (x.encode 0 a);
    read = x.read;
    fixed = fixed_back;
    fits = x.fits;
    gives = λ p r. alone (x.answer p r);
    result = result_in;
  }
