-- What goes back for what was got.
use Rattle.std.proofs.Common.{◌≡◌, ℕ, zero, suc, List, [], ◌∷◌, ◌++◌, map, Bool, true, false, cond, filter, refl, sym, ap, ◌∙◌, subst, Option, Some, None}
use Rattle.std.specs.Prelude.{◌==◌, ◌&&◌, if◌then◌else◌}
use Rattle.hist_lock.specs.Seat.{Call}
use Rattle.channel_model.specs.WireFormat.{WireFormat, Back, listed, under_own, packets_of, packets_in, IsBesides, IsBack, Keeps}
use Rattle.channel_model.specs.Asker.{Encoded}
use Rattle.channel_model.specs.Server.{ServesOne, ServesAsk, Serves, answered}
use Rattle.channel_model.specs.Settled.{pairs, said_all}
use Rattle.channel_model.proofs.Opens.{by_test}

pub filter_first : {A : Type 0} (f : A → Bool) (x : A) (xs : List A) → f x ≡ true → filter f (x ∷ xs) ≡ x ∷ filter f xs
filter_first f x xs e = ap (λ b. cond b (x ∷ filter f xs) (filter f xs)) e

pub filter_past : {A : Type 0} (f : A → Bool) (x : A) (xs : List A) → f x ≡ false → filter f (x ∷ xs) ≡ filter f xs
filter_past f x xs e = ap (λ b. cond b (x ∷ filter f xs) (filter f xs)) e

module _ {P A Q R : Type 0} (s : WireFormat P A Q R) where
  -- an answer is read by one request, with the message before it
  says_answer : (o : ℕ × A) (os : List (ℕ × A)) (before : Option P) (z : P) (rest : List P) → s.is_answer z ≡ true → said_all s (o ∷ os) before (z ∷ rest) ≡ listed (s.result o.1 before z) ++ said_all s os None rest
  says_answer o os before z rest one = ap (λ b. cond b (listed (s.result o.1 before z) ++ said_all s os None rest) (said_all s (o ∷ os) (Some z) rest)) one

  says_message : (o : ℕ × A) (os : List (ℕ × A)) (own : ℕ) (m : Option (ℕ → P)) (z : P) (rest : List P) → IsBesides s m → s.is_answer z ≡ true
      → said_all s (o ∷ os) None ((listed (under_own own m) ++ z ∷ []) ++ rest) ≡ listed (s.result o.1 (under_own own m) z) ++ said_all s os None rest
  says_message o os own None z rest besides one = says_answer o os None z rest one
  says_message o os own (Some m) z rest besides one =
      ap (λ b. cond b (listed (s.result o.1 None (m own)) ++ said_all s os None (z ∷ rest)) (said_all s (o ∷ os) (Some (m own)) (z ∷ rest))) (besides own).other ∙ says_answer o os (Some (m own)) z rest one

  says_back : (o : ℕ × A) (os : List (ℕ × A)) (id own : ℕ) (sent rest : List P) (b : Back P) → sent ≡ packets_of own b ++ rest → IsBack s id b
      → said_all s (o ∷ os) None sent ≡ listed (s.result o.1 (under_own own b.message) b.answer) ++ said_all s os None rest
  says_back o os id own sent rest b cut h = ap (said_all s (o ∷ os) None) cut ∙ says_message o os own b.message b.answer rest h.besides h.one

module _ {P A Q R : Type 0} (s : WireFormat P A Q R) (keeps : Keeps s) where
  -- a packet with no answer gets nothing back
  pub passes : (held : Bool) (p : P) (n : ℕ) (calls : List (Call Q R)) (sent : List P) (more : ℕ → List (Call Q R) → List P → Type 0) → s.waits p ≡ false
      → ServesOne s held p (s.read p) n calls sent more → more n calls sent
  passes held p n calls sent more e h =
      let one : ServesOne s held p None n calls sent more = subst (λ o. ServesOne s held p o n calls sent more) (keeps.unread p e) h in
      subst (λ l. more n calls l) (sym (one.2 ∙ ap (λ o. packets_in one.0 o ++ one.1) (keeps.silent p e))) one.3

  -- what is said of the packets that were got from here on
  abbrev Says : Bool → List (ℕ × A) → (ℕ → List (Call Q R) → List P → Type 0) → Type 0
  Says held os more = (m : ℕ) (later : List (Call Q R)) (rest : List P) → more m later rest → said_all s os None rest ≡ map (λ c. c.reply) (answered s held m later)

  says_ask : (held last : Bool) (a : A) (os : List (ℕ × A)) (p : P) (q : Q) (n : ℕ) (c : Call Q R) (calls : List (Call Q R)) (sent : List P) (more : ℕ → List (Call Q R) → List P → Type 0)
      → (held && n == 0) ≡ last → s.waits p ≡ true → p ≡ s.encode (s.id_of p) a → s.read p ≡ Some q → s.fits q c.reply ≡ true → Says held os more → ServesAsk s last p n c calls sent more
      → said_all s ((s.id_of p, a) ∷ os) None sent ≡ map (λ c. c.reply) (answered s held (suc n) (c ∷ calls))
  says_ask held true a os p q n c calls sent more last waits is reads fits ih h =
      ap (said_all s ((s.id_of p, a) ∷ os) None) h.1 ∙ ap (λ b. map (λ c. c.reply) (if b then [] else c ∷ answered s held n calls)) (sym last)
  says_ask held false a os p q n c calls sent more last waits is reads fits ih h =
      let back : Back P = s.gives p c.reply in
      let result : s.result a (under_own h.0 back.message) back.answer ≡ Some c.reply =
      ap (λ x. s.result a (under_own h.0 (s.gives x c.reply).message) (s.gives x c.reply).answer) is ∙ keeps.reads (s.id_of p) a q c.reply (ap s.read (sym is) ∙ reads) fits h.0 in
      says_back s (s.id_of p, a) os (s.id_of p) h.0 sent h.1 back h.2 (keeps.given p c.reply waits)
      ∙ (ap (λ r. listed r ++ said_all s os None h.1) result
      ∙ (ap (λ l. c.reply ∷ l) (ih n calls h.1 h.3) ∙ ap (λ b. map (λ c. c.reply) (if b then [] else c ∷ answered s held n calls)) (sym last)))

  says_one : (held : Bool) (a : A) (os : List (ℕ × A)) (p : P) (o : Option Q) (n : ℕ) (calls : List (Call Q R)) (sent : List P) (more : ℕ → List (Call Q R) → List P → Type 0)
      → s.waits p ≡ true → p ≡ s.encode (s.id_of p) a → s.read p ≡ o → Says held os more → ServesOne s held p o n calls sent more
      → said_all s ((s.id_of p, a) ∷ os) None sent ≡ map (λ c. c.reply) (answered s held n calls)
  says_one held a os p None n calls sent more waits is reads ih h =
      let back = keeps.fixes p waits reads in
      let result : s.result a (under_own h.0 back.0.message) back.0.answer ≡ None = keeps.no_result (s.id_of p) a (under_own h.0 back.0.message) back.0.answer (ap s.read (sym is) ∙ reads) in
      says_back s (s.id_of p, a) os (s.id_of p) h.0 sent h.1 back.0 (h.2 ∙ ap (λ o. packets_in h.0 o ++ h.1) back.1) back.2
      ∙ (ap (λ r. listed r ++ said_all s os None h.1) result ∙ ih n calls h.1 h.3)
  says_one held a os p (Some q) zero calls sent more waits is reads ih h = ap (said_all s ((s.id_of p, a) ∷ os) None) h.1 ∙ ap (λ l. map (λ c. c.reply) (answered s held zero l)) (sym h.0)
  says_one held a os p (Some q) (suc n) [] sent more waits is reads ih h = absurd h
  says_one held a os p (Some q) (suc n) (c ∷ calls) sent more waits is reads ih h = says_ask held (held && n == 0) a os p q n c calls sent more refl waits is reads h.0.fits ih h.1

  says_cons : (held : Bool) (asks : List A) (p : P) (ps : List P) (n : ℕ) (calls : List (Call Q R)) (sent : List P) (more : ℕ → List (Call Q R) → List P → Type 0)
      → Encoded s asks (p ∷ ps) → ((asks : List A) → Encoded s asks ps → Says held (pairs s ps asks) more) → ServesOne s held p (s.read p) n calls sent more
      → said_all s (pairs s (p ∷ ps) asks) None sent ≡ map (λ c. c.reply) (answered s held n calls)
  says_cons held [] p ps n calls sent more enc ih h = absurd enc
  says_cons held (a ∷ asks) p ps n calls sent more enc ih h =
      by_test (s.waits p)
      (λ e. ap (λ b. said_all s (cond b ((s.id_of p, a) ∷ pairs s ps asks) (pairs s ps asks)) None sent) e
      ∙ says_one held a (pairs s ps asks) p (s.read p) n calls sent more e enc.0 refl (ih asks enc.1) h)
      (λ e. ap (λ b. said_all s (cond b ((s.id_of p, a) ∷ pairs s ps asks) (pairs s ps asks)) None sent) e ∙ ih asks enc.1 n calls sent (passes held p n calls sent more e h))

  -- what came back says to the requests what the device replied
  pub says : (held : Bool) (asks : List A) (got : List P) (n : ℕ) (calls : List (Call Q R)) (sent : List P) → Encoded s asks (filter s.is_request got) → Serves s held got n calls sent
      → said_all s (pairs s (filter s.is_request got) asks) None sent ≡ map (λ c. c.reply) (answered s held n calls)
  says held asks [] n calls sent enc h = ap (said_all s [] None) h.1 ∙ ap (λ l. map (λ c. c.reply) (answered s held n l)) (sym h.0)
  says held asks (p ∷ got) n calls sent enc h =
      by_test (s.is_request p)
      (λ e. ap (λ l. said_all s (pairs s l asks) None sent) (filter_first s.is_request p got e)
      ∙ says_cons held asks p (filter s.is_request got) n calls sent _ (subst (Encoded s asks) (filter_first s.is_request p got e) enc) (λ l some m later rest. says held l got m later rest some) h)
      (λ e. ap (λ l. said_all s (pairs s l asks) None sent) (filter_past s.is_request p got e)
      ∙ says held asks got n calls sent (subst (Encoded s asks) (filter_past s.is_request p got e) enc) (passes held p n calls sent _ (keeps.asks p e) h))
