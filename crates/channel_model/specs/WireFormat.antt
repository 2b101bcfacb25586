-- What the packets of a channel say.
use Rattle.std.specs.Prelude.{ℕ, ◌≡◌, ◌<◌, ◌^◌, Bool, true, false, List, [], ◌∷◌, ◌++◌, Option, Some, None}

-- the element, if there is one
abbrev pub listed : {X : Type 0} → Option X → List X
listed None = []
listed (Some x) = x ∷ []

-- What goes back for a packet: a message besides, if there is one, under an id of the serving end's own, and then the answer
pub record Back (P : Type 0) : Type 0 where
  pub message : Option (ℕ → P)
  pub answer : P

-- the message under this id
abbrev pub under_own : {P : Type 0} → ℕ → Option (ℕ → P) → Option P
under_own own None = None
under_own own (Some m) = Some (m own)

-- the packets that go back
abbrev pub packets_of : {P : Type 0} → ℕ → Back P → List P
packets_of own b = listed (under_own own b.message) ++ b.answer ∷ []

abbrev pub packets_in : {P : Type 0} → ℕ → Option (Back P) → List P
packets_in own None = []
packets_in own (Some b) = packets_of own b

-- P are the packets, A what the asking end has to ask, Q what the serving end's device is asked, R its replies
pub record WireFormat (P A Q R : Type 0) : Type 0 where
  -- the id of a packet
  pub id_of : P → ℕ
  -- of the asking end's packets: those that ask, which of these have an answer, and those that acknowledge a message
  pub is_request : P → Bool
  pub waits : P → Bool
  pub is_ack : P → Bool
  -- of the serving end's packets: those that answer, and the messages besides
  pub is_answer : P → Bool
  pub is_message : P → Bool
  -- what acknowledges a message
  pub ack : P → P
  -- the packet that asks, under an id
  pub encode : ℕ → A → P
  -- whether an ask has an answer
  pub has_answer : A → Bool
  -- what the device is asked by a packet, or nothing where what goes back is fixed
  pub read : P → Option Q
  pub fixed : P → Option (Back P)
  -- the device may give this reply to a request
  pub fits : Q → R → Bool
  -- what goes back for a packet with the device's reply
  pub gives : P → R → Back P
  -- what the asking end reads in an answer, and in the packet that came just before it where that was none, where it asked the device
  pub result : A → Option P → P → Option R

module _ {P A Q R : Type 0} (s : WireFormat P A Q R) where
  -- a message under an id of the serving end's own
  pub record IsMessage (own : ℕ) (m : P) : Type 0 where
    pub message : s.is_message m ≡ true
    pub other : s.is_answer m ≡ false
    pub same : own < 2 ^ 64 → s.id_of m ≡ own

  abbrev pub IsBesides : Option (ℕ → P) → Type 0
  IsBesides None = Unit {0}
  IsBesides (Some m) = (own : ℕ) → IsMessage own (m own)

  -- what goes back ends with the one answer, which has this id
  pub record IsBack (id : ℕ) (b : Back P) : Type 0 where
    pub besides : IsBesides b.message
    pub one : s.is_answer b.answer ≡ true
    pub other : s.is_message b.answer ≡ false
    pub same : s.id_of b.answer ≡ id

  -- the reply is read in what goes back, under whatever id of the serving end's own
  abbrev pub Says : A → R → Back P → Type 0
  Says a r b = (own : ℕ) → s.result a (under_own own b.message) b.answer ≡ Some r

  -- what the packets keep to
  pub record Keeps : Type 0 where
    pub given : (p : P) (r : R) → s.waits p ≡ true → IsBack (s.id_of p) (s.gives p r)
    pub fixes : (p : P) → s.waits p ≡ true → s.read p ≡ None → (b : Back P) × (s.fixed p ≡ Some b) × IsBack (s.id_of p) b
    -- nothing goes back for a packet that has no answer, and none but requests have
    pub unread : (p : P) → s.waits p ≡ false → s.read p ≡ None
    pub silent : (p : P) → s.waits p ≡ false → s.fixed p ≡ None
    pub asks : (p : P) → s.is_request p ≡ false → s.waits p ≡ false
    -- a packet that was made for an ask is a request, waits where the ask has an answer, and then has the id that it was made with.
    -- One that has no answer is what it is under its own id
    pub encodes : (id : ℕ) (a : A) → s.is_request (s.encode id a) ≡ true
    pub waits_ask : (id : ℕ) (a : A) → s.waits (s.encode id a) ≡ s.has_answer a
    pub id_kept : (id : ℕ) (a : A) → id < 2 ^ 64 → s.has_answer a ≡ true → s.id_of (s.encode id a) ≡ id
    pub id_own : (id : ℕ) (a : A) → s.has_answer a ≡ false → s.encode (s.id_of (s.encode id a)) a ≡ s.encode id a
    -- the reply is read in what came back, and nothing is read in a fixed answer
    pub reads : (id : ℕ) (a : A) (q : Q) (r : R) → s.read (s.encode id a) ≡ Some q → s.fits q r ≡ true → Says a r (s.gives (s.encode id a) r)
    pub no_result : (id : ℕ) (a : A) (before : Option P) (p : P) → s.read (s.encode id a) ≡ None → s.result a before p ≡ None
    -- what acknowledges a message has its id, and is no request
    pub acks : (p : P) → s.is_message p ≡ true → (s.is_ack (s.ack p) ≡ true) × (s.id_of (s.ack p) ≡ s.id_of p)
    pub ack_asks : (p : P) → s.is_ack p ≡ true → s.is_request p ≡ false
