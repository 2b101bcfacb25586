-- A wire format whose packets are carried by others: by an item that has a part of the packet in page words, or by a packet as it is.
use Rattle.std.specs.Prelude.{ℕ, ◌≡◌, true, Option, Some, None}
use Rattle.channel_model.specs.WireFormat.{WireFormat, Back}
use Rattle.channel_model.specs.Lift.{mapped}

module _ {P P' : Type 0} where
  -- what goes back, written
  abbrev pub back_by : (P → P') → (P → P') → Back P → Back P'
  back_by message answer b = record { message = mapped (λ m own. message (m own)) b.message; answer = answer b.answer }

  -- a message is read as it was meant, under whatever id
  abbrev pub IsReadBack : (P' → P) → (P → P') → Option (ℕ → P) → Type 0
  IsReadBack opens message None = Unit {0}
  IsReadBack opens message (Some m) = (own : ℕ) → opens (message (m own)) ≡ m own

  -- what goes back is read as it was meant
  pub record IsClosed (opens : P' → P) (message answer : P → P') (b : Back P) : Type 0 where
    pub message_is : IsReadBack opens message b.message
    pub answer_is : opens (answer b.answer) ≡ b.answer

  -- a packet is read by `opens`; one that asks, a message besides, and what answers or acknowledges are written by these
  abbrev pub carried : {A Q R : Type 0} → (P' → P) → (P → P') → (P → P') → (P → P') → WireFormat P A Q R → WireFormat P' A Q R
  carried opens ask message answer s = record {
    id_of = λ i. s.id_of (opens i);
    is_request = λ i. s.is_request (opens i);
    waits = λ i. s.waits (opens i);
    is_ack = λ i. s.is_ack (opens i);
    is_answer = λ i. s.is_answer (opens i);
    is_message = λ i. s.is_message (opens i);
    ack = λ i. answer (s.ack (opens i));
    encode = λ id a. ask (s.encode id a);
    has_answer = s.has_answer;
    read = λ i. s.read (opens i);
    fixed = λ i. mapped (back_by message answer) (s.fixed (opens i));
    fits = s.fits;
    gives = λ i r. back_by message answer (s.gives (opens i) r);
    result = λ a before i. s.result a (mapped opens before) (opens i);
  }

module _ {P P' A Q R : Type 0} (opens : P' → P) (message answer : P → P') (s : WireFormat P A Q R) where
  -- what is written for a packet of the serving end is of its kind, and has its id
  pub record IsAlike (p : P) (i : P') : Type 0 where
    pub answers : s.is_answer (opens i) ≡ s.is_answer p
    pub messages : s.is_message (opens i) ≡ s.is_message p
    pub ids : s.id_of (opens i) ≡ s.id_of p

  abbrev pub IsAlikeBesides : Option (ℕ → P) → Type 0
  IsAlikeBesides None = Unit {0}
  IsAlikeBesides (Some m) = (own : ℕ) → IsAlike (m own) (message (m own))

  pub record GoesAlike (b : Back P) : Type 0 where
    pub besides : IsAlikeBesides b.message
    pub one : IsAlike b.answer (answer b.answer)

-- What is written is read as it was meant: a packet that asks, what goes back for one with a reply that fits, and what acknowledges a message. And what goes back
-- with any other reply, or is fixed, has its kinds and its id
pub record Closes {P P' A Q R : Type 0} (opens : P' → P) (ask message answer : P → P') (s : WireFormat P A Q R) : Type 0 where
  pub asks : (id : ℕ) (a : A) → opens (ask (s.encode id a)) ≡ s.encode id a
  pub reads : (id : ℕ) (a : A) (q : Q) (r : R) → s.read (s.encode id a) ≡ Some q → s.fits q r ≡ true → IsClosed opens message answer (s.gives (s.encode id a) r)
  pub given : (p : P) (r : R) → s.waits p ≡ true → GoesAlike opens message answer s (s.gives p r)
  pub fixes : (p : P) (b : Back P) → s.waits p ≡ true → s.fixed p ≡ Some b → GoesAlike opens message answer s b
  pub acked : (p : P) → s.is_message p ≡ true → opens (answer (s.ack p)) ≡ s.ack p
