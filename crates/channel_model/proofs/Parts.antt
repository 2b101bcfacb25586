-- What was sent is in parts, one for each packet that was got.
use Rattle.std.proofs.Common.{◌≡◌, ℕ, zero, suc, List, [], ◌∷◌, ◌++◌, map, Bool, true, false, filter, refl, sym, ap, ◌∙◌, subst, Option, Some, None}
use Rattle.std.specs.Prelude.{◌==◌, ◌&&◌}
use Rattle.channel_trace.specs.Runs.{IsFront}
use Rattle.hist_lock.specs.Seat.{Call}
use Rattle.channel_model.specs.WireFormat.{WireFormat, Back, listed, under_own, packets_of, packets_in, IsBesides, IsBack, Keeps}
use Rattle.channel_model.specs.Server.{ServesOne, ServesAsk, Serves}
use Rattle.channel_model.proofs.Opens.{by_test}
use Rattle.channel_model.proofs.Served.{filter_first, filter_past, passes}

-- a list ends with an element that passes
abbrev pub Ends : {A : Type 0} → (A → Bool) → List A → Type 0
Ends f [] = Unit {0}
Ends f (x ∷ []) = f x ≡ true
Ends f (x ∷ y ∷ xs) = Ends f (y ∷ xs)

ends_last : {A : Type 0} (f : A → Bool) (xs : List A) (x : A) → f x ≡ true → Ends f (xs ++ x ∷ [])
ends_last f [] x e = e
ends_last f (y ∷ []) x e = e
ends_last f (y ∷ z ∷ xs) x e = ends_last f (z ∷ xs) x e

ends_append : {A : Type 0} (f : A → Bool) (xs ys : List A) → Ends f xs → Ends f ys → Ends f (xs ++ ys)
ends_append f [] ys h k = k
ends_append f (x ∷ []) [] h k = h
ends_append f (x ∷ []) (y ∷ ys) h k = k
ends_append f (x ∷ z ∷ xs) ys h k = ends_append f (z ∷ xs) ys h k

ends_rest : {A : Type 0} (f : A → Bool) (xs ys : List A) → Ends f (xs ++ ys) → Ends f ys
ends_rest f [] ys h = h
ends_rest f (x ∷ []) [] h = tt
ends_rest f (x ∷ []) (y ∷ ys) h = h
ends_rest f (x ∷ z ∷ xs) ys h = ends_rest f (z ∷ xs) ys h

pub ends_none : {A : Type 0} (f : A → Bool) (xs : List A) → Ends f xs → filter f xs ≡ [] → xs ≡ []
ends_none f [] h e = refl
ends_none f (x ∷ []) h e = let bad : x ∷ [] ≡ [] = sym (filter_first f x [] h) ∙ e in absurd (cc)
ends_none f (x ∷ y ∷ xs) h e =
    by_test (f x)
    (λ b. let bad : x ∷ filter f (y ∷ xs) ≡ [] = sym (filter_first f x (y ∷ xs) b) ∙ e in absurd (cc))
    (λ b. let bad : y ∷ xs ≡ [] = ends_none f (y ∷ xs) h (sym (filter_past f x (y ∷ xs) b) ∙ e) in absurd (cc))

-- nothing but the end is left where no element that passes is left
pub no_more : {A : Type 0} (f : A → Bool) (xs ys : List A) → Ends f (xs ++ ys) → filter f ys ≡ [] → ys ≡ []
no_more f xs ys h e = ends_none f ys (ends_rest f xs ys h) e

true_not : (b : Bool) → b ≡ true → b ≡ false → ⊥
true_not b e f = absurd (cc)

module _ {P A Q R : Type 0} (s : WireFormat P A Q R) where
  abbrev pub waited : List P → List P
  waited got = filter s.waits (filter s.is_request got)

module _ {P A Q R : Type 0} (s : WireFormat P A Q R) (keeps : Keeps s) where
  pub waited_one : (p : P) (got : List P) → s.waits p ≡ true → waited s (p ∷ got) ≡ p ∷ waited s got
  waited_one p got e =
      by_test (s.is_request p)
      (λ f. ap (filter s.waits) (filter_first s.is_request p got f) ∙ filter_first s.waits p (filter s.is_request got) e)
      (λ f. absurd (true_not (s.waits p) e (keeps.asks p f)))

  pub waited_none : (p : P) (got : List P) → s.waits p ≡ false → waited s (p ∷ got) ≡ waited s got
  waited_none p got e =
      by_test (s.is_request p)
      (λ f. ap (filter s.waits) (filter_first s.is_request p got f) ∙ filter_past s.waits p (filter s.is_request got) e)
      (λ f. ap (filter s.waits) (filter_past s.is_request p got f))

  message_answers : (own : ℕ) (m : Option (ℕ → P)) (z : P) (rest : List P) → IsBesides s m → s.is_answer z ≡ true → filter s.is_answer ((listed (under_own own m) ++ z ∷ []) ++ rest) ≡ z ∷ filter s.is_answer rest
  message_answers own None z rest besides one = filter_first s.is_answer z rest one
  message_answers own (Some m) z rest besides one = filter_past s.is_answer (m own) (z ∷ rest) (besides own).other ∙ filter_first s.is_answer z rest one

  -- one answer goes back, after its message
  pub back_answers : (id own : ℕ) (b : Back P) (rest : List P) → IsBack s id b → filter s.is_answer (packets_of own b ++ rest) ≡ b.answer ∷ filter s.is_answer rest
  back_answers id own b rest h = message_answers own b.message b.answer rest h.besides h.one

  asked_waits : (p : P) (q : Q) → s.read p ≡ Some q → s.waits p ≡ true
  asked_waits p q e = by_test (s.waits p) (λ f. f) (λ f. let bad : None ≡ Some q = sym (keeps.unread p f) ∙ e in absurd (cc))

  -- what holds of each way in which a packet is served holds of all
  module _ (F : List P → List P → Type 0) (nil : F [] []) (stop : (p : P) (got : List P) → s.waits p ≡ true → F (p ∷ got) [])
      (more : (p : P) (got : List P) (own : ℕ) (b : Back P) (rest : List P) → s.waits p ≡ true → IsBack s (s.id_of p) b → F got rest → F (p ∷ got) (packets_of own b ++ rest))
      (none : (p : P) (got sent : List P) → s.waits p ≡ false → F got sent → F (p ∷ got) sent) where
    ask_parts : (last : Bool) (p : P) (got : List P) (n : ℕ) (c : Call Q R) (calls : List (Call Q R)) (sent : List P) (next : ℕ → List (Call Q R) → List P → Type 0)
        → s.waits p ≡ true → ((m : ℕ) (later : List (Call Q R)) (rest : List P) → next m later rest → F got rest) → ServesAsk s last p n c calls sent next → F (p ∷ got) sent
    ask_parts true p got n c calls sent next e ih h = subst (F (p ∷ got)) (sym h.1) (stop p got e)
    ask_parts false p got n c calls sent next e ih h =
        subst (F (p ∷ got)) (sym h.2) (more p got h.0 (s.gives p c.reply) h.1 e (keeps.given p c.reply e) (ih n calls h.1 h.3))

    one_parts : (held : Bool) (p : P) (got : List P) (o : Option Q) (n : ℕ) (calls : List (Call Q R)) (sent : List P) (next : ℕ → List (Call Q R) → List P → Type 0)
        → s.waits p ≡ true → s.read p ≡ o → ((m : ℕ) (later : List (Call Q R)) (rest : List P) → next m later rest → F got rest) → ServesOne s held p o n calls sent next → F (p ∷ got) sent
    one_parts held p got None n calls sent next e r ih h =
        let back = keeps.fixes p e r in
        subst (F (p ∷ got)) (sym (h.2 ∙ ap (λ o. packets_in h.0 o ++ h.1) back.1)) (more p got h.0 back.0 h.1 e back.2 (ih n calls h.1 h.3))
    one_parts held p got (Some q) zero calls sent next e r ih h = subst (F (p ∷ got)) (sym h.1) (stop p got e)
    one_parts held p got (Some q) (suc n) [] sent next e r ih h = absurd h
    one_parts held p got (Some q) (suc n) (c ∷ calls) sent next e r ih h = ask_parts (held && n == 0) p got n c calls sent next e ih h.1

    pub by_parts : (held : Bool) (got : List P) (n : ℕ) (calls : List (Call Q R)) (sent : List P) → Serves s held got n calls sent → F got sent
    by_parts held [] n calls sent h = subst (F []) (sym h.1) nil
    by_parts held (p ∷ got) n calls sent h =
        by_test (s.waits p)
        (λ e. one_parts held p got (s.read p) n calls sent _ e refl (λ m later rest some. by_parts held got m later rest some) h)
        (λ e. none p got sent e (by_parts held got n calls sent (passes s keeps held p n calls sent _ e h)))

  -- the answers go back in order
  pub in_order : (held : Bool) (got : List P) (n : ℕ) (calls : List (Call Q R)) (sent : List P) → Serves s held got n calls sent
      → IsFront (map s.id_of (filter s.is_answer sent)) (map s.id_of (waited s got))
  in_order =
      by_parts (λ got sent. IsFront (map s.id_of (filter s.is_answer sent)) (map s.id_of (waited s got))) ([], refl)
      (λ p got e. (map s.id_of (waited s (p ∷ got)), refl))
      (λ p got own b rest e h ih. (
        ih.0,
        ap (map s.id_of) (waited_one p got e)
            ∙ (ap (λ (l : List ℕ). s.id_of p ∷ l) ih.1
            ∙ (ap (λ id. id ∷ (map s.id_of (filter s.is_answer rest) ++ ih.0)) (sym h.same) ∙ ap (λ l. map s.id_of l ++ ih.0) (sym (back_answers (s.id_of p) own b rest h)))),
      ))
      (λ p got sent e ih. (ih.0, ap (map s.id_of) (waited_none p got e) ∙ ih.1))

  -- the last packet is an answer
  pub ends : (held : Bool) (got : List P) (n : ℕ) (calls : List (Call Q R)) (sent : List P) → Serves s held got n calls sent → Ends s.is_answer sent
  ends =
      by_parts (λ got sent. Ends s.is_answer sent) tt (λ p got e. tt)
      (λ p got own b rest e h ih. ends_append s.is_answer (packets_of own b) rest (ends_last s.is_answer (listed (under_own own b.message)) b.answer h.one) ih)
      (λ p got sent e ih. ih)
