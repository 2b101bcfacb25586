-- A wire format that is carried by other packets keeps to its laws.
use Rattle.std.proofs.Common.{◌≡◌, ℕ, true, refl, sym, ap, ◌∙◌, subst, Option, Some, None}
use Rattle.channel_model.specs.WireFormat.{WireFormat, Keeps, Back, IsMessage, IsBesides, IsBack, under_own}
use Rattle.channel_model.specs.Lift.{mapped}
use Rattle.channel_model.specs.Carried.{back_by, IsReadBack, IsClosed, carried, IsAlike, IsAlikeBesides, GoesAlike, Closes}

-- one pair of functions that undo each other reads and writes all packets
module _ {P P' A Q R : Type 0} (opens : P' → P) (close : P → P') (s : WireFormat P A Q R) (undo : (p : P) → opens (close p) ≡ p) where
  read_back : (m : Option (ℕ → P)) → IsReadBack opens close m
  read_back None = tt
  read_back (Some m) = λ own. undo (m own)

  closed : (b : Back P) → IsClosed opens close close b
  closed b = record { message_is = read_back b.message; answer_is = undo b.answer }

  alike : (p : P) → IsAlike opens close close s p (close p)
  alike p = record { answers = ap s.is_answer (undo p); messages = ap s.is_message (undo p); ids = ap s.id_of (undo p) }

  alike_besides : (m : Option (ℕ → P)) → IsAlikeBesides opens close close s m
  alike_besides None = tt
  alike_besides (Some m) = λ own. alike (m own)

  goes : (b : Back P) → GoesAlike opens close close s b
  goes b = record { besides = alike_besides b.message; one = alike b.answer }

  pub closes_all : Closes opens close close close s
  closes_all = record {
    asks = λ id a. undo (s.encode id a);
    reads = λ id a q r asked fits. closed (s.gives (s.encode id a) r);
    given = λ p r waits. goes (s.gives p r);
    fixes = λ p b waits is. goes b;
    acked = λ p is. undo (s.ack p);
  }

module _ {P P' A Q R : Type 0} (opens : P' → P) (ask message answer : P → P') (s : WireFormat P A Q R) (keeps : Keeps s) (closes : Closes opens ask message answer s) where
  message_again : (own : ℕ) (m : P) → IsAlike opens message answer s m (message m) → IsMessage s own m → IsMessage (carried opens ask message answer s) own (message m)
  message_again own m e h = record { message = e.messages ∙ h.message; other = e.answers ∙ h.other; same = λ below. e.ids ∙ h.same below }

  besides_again : (m : Option (ℕ → P)) → IsAlikeBesides opens message answer s m → IsBesides s m → IsBesides (carried opens ask message answer s) (mapped (λ f own. message (f own)) m)
  besides_again None e h = tt
  besides_again (Some m) e h = λ own. message_again own (m own) (e own) (h own)

  again : (id : ℕ) (b : Back P) → GoesAlike opens message answer s b → IsBack s id b → IsBack (carried opens ask message answer s) id (back_by message answer b)
  again id b e h = record {
    besides = besides_again b.message e.besides h.besides;
    one = e.one.answers ∙ h.one;
    other = e.one.messages ∙ h.other;
    same = e.one.ids ∙ h.same;
  }

  fixes_again : (p : P) → s.waits p ≡ true → (b : Back P) × (s.fixed p ≡ Some b) × IsBack s (s.id_of p) b
      → (b : Back P') × (mapped (back_by message answer) (s.fixed p) ≡ Some b) × IsBack (carried opens ask message answer s) (s.id_of p) b
  fixes_again p waits h = (back_by message answer h.0, ap (mapped (back_by message answer)) h.1, again (s.id_of p) h.0 (closes.fixes p h.0 waits h.1) h.2)

  -- the message that comes before an answer
  before_is : (own : ℕ) (m : Option (ℕ → P)) → IsReadBack opens message m → mapped opens (under_own own (mapped (λ f o. message (f o)) m)) ≡ under_own own m
  before_is own None e = refl
  before_is own (Some m) e = ap Some (e own)

  -- the reply is read in what came back
  reads_so : (id : ℕ) (a : A) (q : Q) (r : R) (own : ℕ) (p : P) → p ≡ s.encode id a → s.read p ≡ Some q → s.fits q r ≡ true
      → s.result a (mapped opens (under_own own (mapped (λ f o. message (f o)) (s.gives p r).message))) (opens (answer (s.gives p r).answer)) ≡ Some r
  reads_so id a q r own p is asked fits =
      let again : s.read (s.encode id a) ≡ Some q = sym (ap s.read is) ∙ asked in
      let e : IsClosed opens message answer (s.gives p r) = subst (λ (x : P). IsClosed opens message answer (s.gives x r)) (sym is) (closes.reads id a q r again fits) in
      let said : s.result a (under_own own (s.gives p r).message) (s.gives p r).answer ≡ Some r =
      ap (λ (x : P). s.result a (under_own own (s.gives x r).message) (s.gives x r).answer) is ∙ keeps.reads id a q r again fits own in
      ap (λ o. s.result a o (opens (answer (s.gives p r).answer))) (before_is own (s.gives p r).message e.message_is)
      ∙ (ap (λ (x : P). s.result a (under_own own (s.gives p r).message) x) e.answer_is ∙ said)

  pub carries : Keeps (carried opens ask message answer s)
  carries = record {
    given = λ i r waits. again (s.id_of (opens i)) (s.gives (opens i) r) (closes.given (opens i) r waits) (keeps.given (opens i) r waits);
    fixes = λ i waits none. fixes_again (opens i) waits (keeps.fixes (opens i) waits none);
    unread = λ i not. keeps.unread (opens i) not;
    silent = λ i not. ap (mapped (back_by message answer)) (keeps.silent (opens i) not);
    asks = λ i not. keeps.asks (opens i) not;
    encodes = λ id a. ap s.is_request (closes.asks id a) ∙ keeps.encodes id a;
    waits_ask = λ id a. ap s.waits (closes.asks id a) ∙ keeps.waits_ask id a;
    id_kept = λ id a below has. ap s.id_of (closes.asks id a) ∙ keeps.id_kept id a below has;
    id_own = λ id a not. ap (λ (p : P). ask (s.encode (s.id_of p) a)) (closes.asks id a) ∙ ap ask (keeps.id_own id a not);
    reads = λ id a q r asked fits own. reads_so id a q r own (opens (ask (s.encode id a))) (closes.asks id a) asked fits;
    no_result = λ id a before i none. keeps.no_result id a (mapped opens before) (opens i) (sym (ap s.read (closes.asks id a)) ∙ none);
    acks = λ i is. (ap s.is_ack (closes.acked (opens i) is) ∙ (keeps.acks (opens i) is).0, ap s.id_of (closes.acked (opens i) is) ∙ (keeps.acks (opens i) is).1);
    ack_asks = λ i is. keeps.ack_asks (opens i) is;
  }
