-- One kind of device in the steps, requests and replies of all kinds.
use Rattle.std.specs.Prelude.{◌≡◌, map, Option, Some, None}
use Rattle.channel_model.specs.Lift.{Among, mapped, or_else, lift}
use Rattle.device_wire.specs.declared.want.Want.{Want}
use Rattle.device_wire.specs.declared.want.Want.TheVariants.{Step, Request}
use Rattle.device_wire.specs.WireModels.{WireModel}

-- How the steps, requests and replies of one kind stand among those of all kinds, as one case of each. A step and a request of another kind count as the first step: a channel never has
-- such a one. A reply of another kind counts as `other`: it fits no request
pub record Case (S Q R S' Q' R' : Type 0) : Type 0 where
  pub step : S → S'
  pub own_step : S' → Option S
  pub first : S
  pub request : Q → Q'
  pub own_request : Q' → Option Q
  pub reply : R → R'
  pub own_reply : R' → Option R
  pub other : R

-- each is found in its case, and a case is that of what is found in it
pub record IsCase {S Q R S' Q' R' : Type 0} (c : Case S Q R S' Q' R') : Type 0 where
  pub step_found : (s : S) → c.own_step (c.step s) ≡ Some s
  pub found : (q : Q) → c.own_request (c.request q) ≡ Some q
  pub asked : (q' : Q') (q : Q) → c.own_request q' ≡ Some q → c.request q ≡ q'
  pub replied : (r' : R') (r : R) → c.own_reply r' ≡ Some r → c.reply r ≡ r'

module _ {S Q R S' Q' R' : Type 0} where
  -- what is asked of one kind of device
  abbrev pub step_of : Case S Q R S' Q' R' → S' → S
  step_of c s = or_else c.first (c.own_step s)

  abbrev pub want_of : Case S Q R S' Q' R' → Want S' Q' → Want S Q
  want_of c (Step s) = Step (step_of c s)
  want_of c (Request q) = or_else (Step c.first) (mapped Request (c.own_request q))

  abbrev pub among : Case S Q R S' Q' R' → Among (Want S Q) Q R (Want S' Q') Q' R'
  among c = record { ask = want_of c; request = c.request; own_request = c.own_request; reply = c.reply; own_reply = c.own_reply; other = c.other }

  -- the same kind, in all kinds' steps, requests and replies
  abbrev pub lift_model : WireModel S Q R → Case S Q R S' Q' R' → WireModel S' Q' R'
  lift_model m c = record {
    format = lift m.format (among c);
    besides = m.besides;
    lends = m.lends;
    steps = λ subs lists. map c.step (m.steps subs lists);
    answered = λ s. m.answered (step_of c s);
    asked_as = λ id q. or_else q (mapped (λ own. c.request (m.asked_as id own)) (c.own_request q));
    reply_in = λ before i. mapped c.reply (m.reply_in before i);
  }

-- there is a request of this kind, and it can be asked
abbrev pub CanBe : {Q : Type 0} → (Q → Type 0) → Option Q → Type 0
CanBe Can None = ⊥
CanBe Can (Some q) = Can q

abbrev pub CanAmong : {S Q R S' Q' R' : Type 0} → Case S Q R S' Q' R' → (Q → Type 0) → Q' → Type 0
CanAmong c Can q = CanBe Can (c.own_request q)
