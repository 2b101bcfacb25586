-- The wire format of one kind of device, in the asks and replies of all kinds.
use Rattle.std.specs.Prelude.{◌≡◌, Bool, false, Option, Some, None}
use Rattle.channel_model.specs.WireFormat.{WireFormat}

-- How the asks, requests and replies of one kind stand among those of all kinds. An ask and a reply of another kind count as one of this kind: a channel never
-- has such an ask, and such a reply fits no request
pub record Among (A Q R A' Q' R' : Type 0) : Type 0 where
  -- what the asking end asks
  pub ask : A' → A
  -- what the device is asked, as a case of what all kinds are, and whether a case is this one
  pub request : Q → Q'
  pub own_request : Q' → Option Q
  -- what it replies, so too, and what a reply of another kind counts as
  pub reply : R → R'
  pub own_reply : R' → Option R
  pub other : R

-- a request is found in its case, and a case is that of the reply that is found in it
pub record IsAmong {A Q R A' Q' R' : Type 0} (among : Among A Q R A' Q' R') : Type 0 where
  pub found : (q : Q) → among.own_request (among.request q) ≡ Some q
  pub whole : (r' : R') (r : R) → among.own_reply r' ≡ Some r → among.reply r ≡ r'

-- f of what there is
abbrev pub mapped : {X Y : Type 0} → (X → Y) → Option X → Option Y
mapped f None = None
mapped f (Some x) = Some (f x)

-- what there is, or else this
abbrev pub or_else : {X : Type 0} → X → Option X → X
or_else y None = y
or_else y (Some x) = x

-- both are there, and hold so
abbrev pub both_hold : {X Y : Type 0} → (X → Y → Bool) → Option X → Option Y → Bool
both_hold holds None y = false
both_hold holds (Some x) None = false
both_hold holds (Some x) (Some y) = holds x y

module _ {P A Q R A' Q' R' : Type 0} (s : WireFormat P A Q R) (among : Among A Q R A' Q' R') where
  -- the same packets, in the asks, requests and replies of all kinds
  abbrev pub lift : WireFormat P A' Q' R'
  lift = record {
    id_of = s.id_of;
    is_request = s.is_request;
    waits = s.waits;
    is_ack = s.is_ack;
    is_answer = s.is_answer;
    is_message = s.is_message;
    ack = s.ack;
    encode = λ id a. s.encode id (among.ask a);
    has_answer = λ a. s.has_answer (among.ask a);
    read = λ p. mapped among.request (s.read p);
    fixed = s.fixed;
    fits = λ q r. both_hold s.fits (among.own_request q) (among.own_reply r);
    gives = λ p r. s.gives p (or_else among.other (among.own_reply r));
    result = λ a before p. mapped among.reply (s.result (among.ask a) before p);
  }
