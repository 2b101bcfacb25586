-- A kind of device keeps in all kinds' steps, requests and replies to what it keeps to in its own.
use Rattle.std.proofs.Common.{◌≡◌, ℕ, ◌≤◌, Bool, true, false, List, [], ◌∷◌, length, Option, Some, None, refl, sym, ap, subst, ◌∙◌}
use Rattle.std.specs.Prelude.{map, IsSome}
use Rattle.std.proofs.lemmas.List.{length-map}
use Rattle.page_kept.specs.declared.item.Item.{Item}
use Rattle.channel_model.specs.WireFormat.{WireFormat}
use Rattle.channel_model.specs.Amounts.{MayHaveMessages}
use Rattle.channel_model.specs.Lift.{IsAmong, mapped, or_else, both_hold, lift}
use Rattle.channel_model.proofs.Lifting.{lifts}
use Rattle.channel_protocol.specs.Paged.{KeepsPages}
use Rattle.device_wire.specs.declared.buffer_lists.BufferLists.{BufferLists}
use Rattle.device_wire.specs.declared.want.Want.{Want}
use Rattle.device_wire.specs.declared.want.Want.TheVariants.{Step, Request}
use Rattle.device_wire.specs.WireModels.{WireModel, KeepsWire}
use Rattle.device_wire.specs.Lifted.{Case, IsCase, CanBe, CanAmong, step_of, want_of, among, lift_model}

-- a reply that fits, of what is read of a packet, is one of the device's kind
pub record Replied {Q R : Type 0} (read : Option Q) (fits : Q → R → Bool) (reply : Option R) : Type 0 where
  pub asked : Q
  pub replied : R
  pub reads : read ≡ Some asked
  pub is : reply ≡ Some replied
  pub holds : fits asked replied ≡ true

pub replied_so : {Q R Q' : Type 0} (fits : Q → R → Bool) (request : Q → Q') (own : Q' → Option Q) → ((q : Q) → own (request q) ≡ Some q) → (read : Option Q) (ask : Q') (q : Option Q) (reply : Option R) → own ask ≡ q
    → mapped request read ≡ Some ask → both_hold fits q reply ≡ true → Replied read fits reply
replied_so fits request own found None ask q reply is h holds = cc
replied_so fits request own found (Some x) ask None reply is h holds = cc
replied_so fits request own found (Some x) ask (Some y) None is h holds = cc
replied_so fits request own found (Some x) ask (Some y) (Some r) is h holds =
    let asked : request x ≡ ask = cc in
    let same_some : Some x ≡ Some y = sym (found x) ∙ (ap own asked ∙ is) in
    let same : x ≡ y = cc in
    record { asked = y; replied = r; reads = ap Some same; is = refl; holds = holds }

module _ {S Q R S' Q' R' : Type 0} (c : Case S Q R S' Q' R') (is : IsCase c) where
  pub is_among : IsAmong (among c)
  is_among = record { found = is.found; whole = is.replied }

  may_lifted : (s : WireFormat Item (Want S Q) Q R) (besides : Bool) → MayHaveMessages s besides → MayHaveMessages (lift s (among c)) besides
  may_lifted s false none = record { gives = λ p r. none.gives p (or_else c.other (c.own_reply r)); fixed = none.fixed }
  may_lifted s true may = tt

  -- the reply to what was read is one of this kind
  pub replies : (s : WireFormat Item (Want S Q) Q R) (i : Item) (q : Q') (r : R') → (lift s (among c)).read i ≡ Some q → (lift s (among c)).fits q r ≡ true → Replied (s.read i) s.fits (c.own_reply r)
  replies s i q r h fits = replied_so s.fits c.request c.own_request is.found (s.read i) q (c.own_request q) (c.own_reply r) refl h fits

  pub replied_is : {X : Type 0} (read : Option Q) (fits : Q → R → Bool) (r : R') (f : R → X) → (own : Replied read fits (c.own_reply r)) → f own.replied ≡ f (or_else c.other (c.own_reply r))
  replied_is read fits r f own = sym (ap (λ o. f (or_else c.other o)) own.is)

  pages_lifted : (s : WireFormat Item (Want S Q) Q R) → KeepsPages s → KeepsPages (lift s (among c))
  pages_lifted s pages = record {
    ids = pages.ids;
    answers = pages.answers;
    acks = pages.acks;
    asks = λ id a. pages.asks id (want_of c a);
    waits = pages.waits;
    messages = pages.messages;
    lent = λ id a. pages.lent id (want_of c a);
    silent = λ id a. pages.silent id (want_of c a);
    besides = λ i r. pages.besides i (or_else c.other (c.own_reply r));
    fixed_besides = pages.fixed_besides;
    back = λ i q r h fits.
        let own = replies s i q r h fits in
        subst (λ n. n ≤ length i.words) (replied_is (s.read i) s.fits r (λ x. length (s.gives i x).answer.words) own) (pages.back i own.asked own.replied own.reads own.holds);
    fixed_back = pages.fixed_back;
    acked = pages.acked;
  }

  module _ (m : WireModel S Q R) (Can : Q → Type 0) (kept : KeepsWire m Can) where
    asked_so : (id : ℕ) (q : Q') (own : Option Q) → CanBe Can own
        → mapped c.request (m.format.read (m.format.encode id (or_else (Step c.first) (mapped Request own)))) ≡ Some (or_else q (mapped (λ x. c.request (m.asked_as id x)) own))
    asked_so id q None can = absurd can
    asked_so id q (Some x) can = ap (mapped c.request) (kept.asked id x can)

    says_so : (own : Option Q) (before : Option Item) (i : Item) → CanBe Can own → mapped c.reply (m.format.result (or_else (Step c.first) (mapped Request own)) before i) ≡ mapped c.reply (m.reply_in before i)
    says_so None before i can = absurd can
    says_so (Some x) before i can = ap (mapped c.reply) (kept.says x before i can)

    answers_so : (ss : List S) → map (λ s. m.answered (step_of c s)) (map c.step ss) ≡ map m.answered ss
    answers_so [] = refl
    answers_so (s ∷ ss) = (λ j. m.answered (or_else c.first (is.step_found s j)) ∷ answers_so ss j)

    pub kept_lifted : KeepsWire (lift_model m c) (CanAmong c Can)
    kept_lifted = record {
      keeps = lifts m.format (among c) is_among kept.keeps;
      may = may_lifted m.format m.besides kept.may;
      paged = λ lends. pages_lifted m.format (kept.paged lends);
      ids = kept.ids;
      few = λ subs lists. subst (λ n. n ≤ 5) (sym (length-map (m.steps subs lists) c.step)) (kept.few subs lists);
      same = λ subs lists others. answers_so (m.steps subs lists) ∙ (kept.same subs lists others ∙ sym (answers_so (m.steps subs others)));
      fixed = λ id s. ap (mapped c.request) (kept.fixed id (step_of c s));
      waits = λ s. kept.waits (step_of c s);
      asked = λ id q can. asked_so id q (c.own_request q) can;
      says = λ q before i can. says_so (c.own_request q) before i can;
    }

-- what a device is asked under an id by its kind's model is what it is by `every`, where these agree on the kind's own requests
pub agrees : {S Q R S' Q' R' : Type 0} (c : Case S Q R S' Q' R') → IsCase c → (each : ℕ → Q → Q) (every : ℕ → Q' → Q') (Can : Q → Type 0) → ((id : ℕ) (q : Q) → c.request (each id q) ≡ every id (c.request q))
    → (id : ℕ) (q : Q') → CanAmong c Can q → or_else q (mapped (λ x. c.request (each id x)) (c.own_request q)) ≡ every id q
agrees {S} {Q} c is each every Can same id q can = at (c.own_request q) refl can
  where
    at : (own : Option Q) → c.own_request q ≡ own → CanBe Can own → or_else q (mapped (λ x. c.request (each id x)) own) ≡ every id q
    at None e can = absurd can
    at (Some x) e can = same id x ∙ ap (every id) (is.asked q x e)

-- a reply that fits what was read has the device's kind: what goes back with it is what goes back with the kind's own
module _ {S Q R S' Q' R' : Type 0} (c : Case S Q R S' Q' R') (is : IsCase c) (s : WireFormat Item (Want S Q) Q R) where
  same_reply : (r' : R') (x r : R) → c.own_reply r' ≡ Some x → c.own_reply r' ≡ Some r → x ≡ r
  same_reply r' x r one two = let some : Some x ≡ Some r = sym one ∙ two in cc

  pub own_fits : (i : Item) (q : Q') (r' : R') (r : R) → c.own_reply r' ≡ Some r → (lift s (among c)).read i ≡ Some q → (lift s (among c)).fits q r' ≡ true → (x : Q) × (s.read i ≡ Some x) × (s.fits x r ≡ true)
  own_fits i q r' r own h fits =
      let got = replies c is s i q r' h fits in
      (got.asked, got.reads, subst (λ z. s.fits got.asked z ≡ true) (same_reply r' got.replied r got.is own) got.holds)

  pub gives_is : (i : Item) (r' : R') (r : R) → c.own_reply r' ≡ Some r → (lift s (among c)).gives i r' ≡ s.gives i r
  gives_is i r' r own = ap (λ o. s.gives i (or_else c.other o)) own

-- what a model says that is the kind's own, lifted
module _ {S Q R S' Q' R' : Type 0} (c : Case S Q R S' Q' R') (m : WireModel S Q R) (x : WireModel S' Q' R') (is : x ≡ lift_model m c) where
  pub step_is : (id : ℕ) (s' : S') (s : S) → s ≡ step_of c s' → m.format.encode id (Step s) ≡ x.format.encode id (Step s')
  step_is id s' s own = ap (λ z. m.format.encode id (Step z)) own ∙ ap (λ y. y.format.encode id (Step s')) (sym is)

  pub request_is : (id : ℕ) (q' : Q') (q : Q) → c.own_request q' ≡ Some q → m.format.encode id (Request q) ≡ x.format.encode id (Request q')
  request_is id q' q own = ap (λ o. m.format.encode id (or_else (Step c.first) (mapped Request o))) (sym own) ∙ ap (λ y. y.format.encode id (Request q')) (sym is)

  pub read_is : (i : Item) (q : Q) → m.format.read i ≡ Some q → x.format.read i ≡ Some (c.request q)
  read_is i q h = ap (λ y. y.format.read i) is ∙ ap (mapped c.request) h

  pub unread_is : (i : Item) → m.format.read i ≡ None → x.format.read i ≡ None
  unread_is i h = ap (λ y. y.format.read i) is ∙ ap (mapped c.request) h

  pub own_read : (i : Item) → IsSome (x.format.read i) → IsSome (m.format.read i)
  own_read i some = found_in (m.format.read i) (subst (λ y. IsSome (y.format.read i)) is some)
    where
      found_in : (o : Option Q) → IsSome (mapped c.request o) → IsSome o
      found_in None h = h
      found_in (Some q) h = refl

  pub said_is : (before : Option Item) (i : Item) (r : R) → m.reply_in before i ≡ Some r → x.reply_in before i ≡ Some (c.reply r)
  said_is before i r h = ap (λ y. y.reply_in before i) is ∙ ap (mapped c.reply) h

  pub unsaid_is : (before : Option Item) (i : Item) → m.reply_in before i ≡ None → x.reply_in before i ≡ None
  unsaid_is before i h = ap (λ y. y.reply_in before i) is ∙ ap (mapped c.reply) h

  pub reply_fits : IsCase c → (i : Item) (q : Q') (r' : R') (r : R) → c.own_reply r' ≡ Some r → x.format.read i ≡ Some q → x.format.fits q r' ≡ true → (z : Q) × (m.format.read i ≡ Some z) × (m.format.fits z r ≡ true)
  reply_fits case i q r' r own h fits = own_fits c case m.format i q r' r own (ap (λ y. y.format.read i) (sym is) ∙ h) (ap (λ y. y.format.fits q r') (sym is) ∙ fits)

  pub back_is : (i : Item) (r' : R') (r : R) → c.own_reply r' ≡ Some r → m.format.gives i r ≡ x.format.gives i r'
  back_is i r' r own = sym (gives_so i r' r own) ∙ ap (λ y. y.format.gives i r') (sym is)
    where
      gives_so : (i : Item) (r' : R') (r : R) → c.own_reply r' ≡ Some r → (lift_model m c).format.gives i r' ≡ m.format.gives i r
      gives_so i r' r own = ap (λ o. m.format.gives i (or_else c.other o)) own
