-- A lifted wire format keeps to its laws.
use Rattle.std.proofs.Common.{◌≡◌, ℕ, true, refl, sym, ap, ◌∙◌, Option, Some, None}
use Rattle.channel_model.specs.WireFormat.{WireFormat, Keeps, Back, IsMessage, IsBesides, IsBack, under_own}
use Rattle.channel_model.specs.Lift.{Among, IsAmong, mapped, or_else, both_hold, lift}

pub none_mapped : {X Y : Type 0} (f : X → Y) (o : Option X) → mapped f o ≡ None → o ≡ None
none_mapped f None e = refl
none_mapped f (Some x) e = cc

module _ {P A Q R A' Q' R' : Type 0} (s : WireFormat P A Q R) (among : Among A Q R A' Q' R') (is : IsAmong among) (keeps : Keeps s) where
  message_again : (own : ℕ) (m : P) → IsMessage s own m → IsMessage (lift s among) own m
  message_again own m h = record { message = h.message; other = h.other; same = h.same }

  besides_again : (m : Option (ℕ → P)) → IsBesides s m → IsBesides (lift s among) m
  besides_again None h = tt
  besides_again (Some m) h = λ own. message_again own (m own) (h own)

  again : (id : ℕ) (b : Back P) → IsBack s id b → IsBack (lift s among) id b
  again id b h = record { besides = besides_again b.message h.besides; one = h.one; other = h.other; same = h.same }

  -- the reply is read, where the request and the reply are of this kind
  reads_so : (id : ℕ) (a : A) (own : ℕ) (o : Option Q) (q : Q') (u : Option Q) (r : R') (v : Option R) → s.read (s.encode id a) ≡ o → mapped among.request o ≡ Some q → among.own_request q ≡ u → among.own_reply r ≡ v
      → both_hold s.fits u v ≡ true
      → mapped among.reply (s.result a (under_own own (s.gives (s.encode id a) (or_else among.other v)).message) (s.gives (s.encode id a) (or_else among.other v)).answer) ≡ Some r
  reads_so id a own None q u r v reads asked own_q own_r fits = cc
  reads_so id a own (Some x) q None r v reads asked own_q own_r fits = cc
  reads_so id a own (Some x) q (Some y) r None reads asked own_q own_r fits = cc
  reads_so id a own (Some x) q (Some y) r (Some z) reads asked own_q own_r fits =
      let case_is : among.request x ≡ q = cc in
      let same_some : Some x ≡ Some y = sym (is.found x) ∙ (ap among.own_request case_is ∙ own_q) in
      let same : x ≡ y = cc in
      ap (mapped among.reply) (keeps.reads id a x z reads (ap (λ t. s.fits t z) same ∙ fits) own) ∙ ap Some (is.whole r z own_r)

  fixes_again : (p : P) → (b : Back P) × (s.fixed p ≡ Some b) × IsBack s (s.id_of p) b → (b : Back P) × (s.fixed p ≡ Some b) × IsBack (lift s among) (s.id_of p) b
  fixes_again p h = (h.0, h.1, again (s.id_of p) h.0 h.2)

  pub lifts : Keeps (lift s among)
  lifts = record {
    given = λ p r waits. again (s.id_of p) (s.gives p (or_else among.other (among.own_reply r))) (keeps.given p (or_else among.other (among.own_reply r)) waits);
    fixes = λ p waits none. fixes_again p (keeps.fixes p waits (none_mapped among.request (s.read p) none));
    unread = λ p not. ap (mapped among.request) (keeps.unread p not);
    silent = keeps.silent;
    asks = keeps.asks;
    encodes = λ id a. keeps.encodes id (among.ask a);
    waits_ask = λ id a. keeps.waits_ask id (among.ask a);
    id_kept = λ id a. keeps.id_kept id (among.ask a);
    id_own = λ id a. keeps.id_own id (among.ask a);
    reads = λ id a q r asked fits own. reads_so id (among.ask a) own (s.read (s.encode id (among.ask a))) q (among.own_request q) r (among.own_reply r) refl asked refl refl fits;
    no_result = λ id a before p none. ap (mapped among.reply) (keeps.no_result id (among.ask a) before p (none_mapped among.request (s.read (s.encode id (among.ask a))) none));
    acks = keeps.acks;
    ack_asks = keeps.ack_asks;
  }
