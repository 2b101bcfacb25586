-- How much is asked, served and answered.
use Rattle.std.proofs.Common.{◌≡◌, ℕ, zero, suc, ◌+◌, ◌≤◌, List, [], ◌∷◌, ◌++◌, map, length, Bool, true, false, cond, filter, refl, sym, ap, ◌∙◌, subst, arith, Option, Some, None}
use Rattle.std.specs.Prelude.{◌==◌, ◌&&◌, if◌then◌else◌, filter_map}
use Rattle.std.specs.List.{cons_option}
use Rattle.std.proofs.lemmas.List.{length-append}
use Rattle.std.proofs.lemmas.List.Elements.{filter_map-append}
use Rattle.channel_trace.specs.Runs.{IsFront}
use Rattle.hist_lock.specs.Seat.{Call}
use Rattle.channel_model.specs.WireFormat.{WireFormat, Back, packets_of, packets_in, IsBack, Keeps}
use Rattle.channel_model.specs.Asker.{Encoded}
use Rattle.channel_model.specs.Server.{ServesOne, ServesAsk, Serves, left_one, left_of}
use Rattle.std.proofs.lemmas.Bool.Decides.{nat_tests}
use Rattle.channel_model.specs.Channel.{AllFixed, AllAsk, asked_under}
use Rattle.channel_model.proofs.Opens.{by_test}
use Rattle.channel_model.proofs.Served.{filter_first, filter_past, passes}
use Rattle.channel_model.proofs.Parts.{waited, waited_one, waited_none, back_answers}

pub front_map_of : {A B : Type 0} (f : A → Option B) (xs ys : List A) → IsFront xs ys → IsFront (filter_map f xs) (filter_map f ys)
front_map_of f xs ys h = (filter_map f h.0, ap (filter_map f) h.1 ∙ filter_map-append f xs h.0)

pub front_same : {A : Type 0} (xs ys : List A) → IsFront xs ys → length ys ≤ length xs → xs ≡ ys
front_same [] [] h le = refl
front_same [] (y ∷ ys) h le = absurd (omega (arith, le))
front_same (x ∷ xs) [] h le = absurd (cc (h.1))
front_same (x ∷ xs) (y ∷ ys) h le =
    let e : ys ≡ xs ++ h.0 = cc (h.1) in
    let rest : xs ≡ ys = front_same xs ys (h.0, e) (omega (arith, le)) in
    cc (h.1, rest)

pub front_le : {A : Type 0} (xs ys : List A) → IsFront xs ys → length xs ≤ length ys
front_le xs ys h = omega (arith, ap length h.1, length-append xs h.0)

map_first : {A B : Type 0} (f : A → Option B) (x : A) (xs : List A) (y : B) → f x ≡ Some y → filter_map f (x ∷ xs) ≡ y ∷ filter_map f xs
map_first f x xs y e = grind (arith, e)

map_past : {A B : Type 0} (f : A → Option B) (x : A) (xs : List A) → f x ≡ None → filter_map f (x ∷ xs) ≡ filter_map f xs
map_past f x xs e = grind (arith, e)

module _ {P A Q R : Type 0} (s : WireFormat P A Q R) (keeps : Keeps s) where
  -- only requests that have answers ask the device
  pub reads_waited : (got : List P) → filter_map s.read got ≡ filter_map s.read (waited s got)
  reads_waited [] = refl
  reads_waited (p ∷ got) =
      by_test (s.waits p)
      (λ e. ap (cons_option (s.read p)) (reads_waited got) ∙ ap (filter_map s.read) (sym (waited_one s keeps p got e)))
      (λ e. map_past s.read p got (keeps.unread p e) ∙ (reads_waited got ∙ ap (filter_map s.read) (sym (waited_none s keeps p got e))))

  pub reads_requests : (got : List P) → filter_map s.read got ≡ filter_map s.read (filter s.is_request got)
  reads_requests [] = refl
  reads_requests (p ∷ got) =
      by_test (s.is_request p)
      (λ e. ap (cons_option (s.read p)) (reads_requests got) ∙ ap (filter_map s.read) (sym (filter_first s.is_request p got e)))
      (λ e. map_past s.read p got (keeps.unread p (keeps.asks p e)) ∙ (reads_requests got ∙ ap (filter_map s.read) (sym (filter_past s.is_request p got e))))

  -- what holds of each way in which a packet is served holds of all, with the calls
  module _ (held : Bool) (F : List P → ℕ → List (Call Q R) → List P → Type 0) (nil : (n : ℕ) → F [] n [] [])
      (stop : (p : P) (got : List P) (q : Q) → s.waits p ≡ true → s.read p ≡ Some q → F (p ∷ got) 0 [] [])
      (last : (p : P) (got : List P) (q : Q) (n : ℕ) (c : Call Q R) → s.waits p ≡ true → s.read p ≡ Some q → c.request ≡ q → (held && n == 0) ≡ true → F (p ∷ got) (suc n) (c ∷ []) [])
      (call : (p : P) (got : List P) (q : Q) (n : ℕ) (c : Call Q R) (calls : List (Call Q R)) (own : ℕ) (b : Back P) (rest : List P) → s.waits p ≡ true → s.read p ≡ Some q → c.request ≡ q → (held && n == 0) ≡ false
      → IsBack s (s.id_of p) b → F got n calls rest → F (p ∷ got) (suc n) (c ∷ calls) (packets_of own b ++ rest))
      (fix : (p : P) (got : List P) (n : ℕ) (calls : List (Call Q R)) (own : ℕ) (b : Back P) (rest : List P) → s.waits p ≡ true → s.read p ≡ None → IsBack s (s.id_of p) b → F got n calls rest → F (p ∷ got) n calls (packets_of own b ++ rest))
      (none : (p : P) (got : List P) (n : ℕ) (calls : List (Call Q R)) (sent : List P) → s.waits p ≡ false → F got n calls sent → F (p ∷ got) n calls sent) where
    ask_calls : (b : Bool) (p : P) (got : List P) (q : Q) (n : ℕ) (c : Call Q R) (calls : List (Call Q R)) (sent : List P) (next : ℕ → List (Call Q R) → List P → Type 0)
        → s.waits p ≡ true → s.read p ≡ Some q → c.request ≡ q → (held && n == 0) ≡ b → ((m : ℕ) (later : List (Call Q R)) (rest : List P) → next m later rest → F got m later rest)
        → ServesAsk s b p n c calls sent next → F (p ∷ got) (suc n) (c ∷ calls) sent
    ask_calls true p got q n c calls sent next e r w b ih h = rw (h.0, h.1) (last p got q n c e r w b)
    ask_calls false p got q n c calls sent next e r w b ih h =
        subst (F (p ∷ got) (suc n) (c ∷ calls)) (sym h.2) (call p got q n c calls h.0 (s.gives p c.reply) h.1 e r w b (keeps.given p c.reply e) (ih n calls h.1 h.3))

    one_calls : (p : P) (got : List P) (o : Option Q) (n : ℕ) (calls : List (Call Q R)) (sent : List P) (next : ℕ → List (Call Q R) → List P → Type 0)
        → s.waits p ≡ true → s.read p ≡ o → ((m : ℕ) (later : List (Call Q R)) (rest : List P) → next m later rest → F got m later rest) → ServesOne s held p o n calls sent next → F (p ∷ got) n calls sent
    one_calls p got None n calls sent next e r ih h =
        let back = keeps.fixes p e r in
        subst (F (p ∷ got) n calls) (sym (h.2 ∙ ap (λ o. packets_in h.0 o ++ h.1) back.1)) (fix p got n calls h.0 back.0 h.1 e r back.2 (ih n calls h.1 h.3))
    one_calls p got (Some q) zero calls sent next e r ih h = rw (h.0, h.1) (stop p got q e r)
    one_calls p got (Some q) (suc n) [] sent next e r ih h = absurd h
    one_calls p got (Some q) (suc n) (c ∷ calls) sent next e r ih h = ask_calls (held && n == 0) p got q n c calls sent next e r h.0.asked refl ih h.1

    pub by_calls : (got : List P) (n : ℕ) (calls : List (Call Q R)) (sent : List P) → Serves s held got n calls sent → F got n calls sent
    by_calls [] n calls sent h = rw (h.0, h.1) (nil n)
    by_calls (p ∷ got) n calls sent h =
        by_test (s.waits p)
        (λ e. one_calls p got (s.read p) n calls sent _ e refl (λ m later rest some. by_calls got m later rest some) h)
        (λ e. none p got n calls sent e (by_calls got n calls sent (passes s keeps held p n calls sent _ e h)))

  -- the calls are those of the first packets that ask the device
  pub calls_front : (held : Bool) (got : List P) (n : ℕ) (calls : List (Call Q R)) (sent : List P) → Serves s held got n calls sent → IsFront (map (λ c. c.request) calls) (filter_map s.read got)
  calls_front held =
      by_calls held (λ got n calls sent. IsFront (map (λ c. c.request) calls) (filter_map s.read got)) (λ n. ([], refl))
      (λ p got q e r. (filter_map s.read (p ∷ got), refl))
      (λ p got q n c e r w b. (filter_map s.read got, map_first s.read p got q r ∙ ap (λ x. x ∷ filter_map s.read got) (sym w)))
      (λ p got q n c calls own back rest e r w b h ih. (ih.0, map_first s.read p got q r ∙ (ap (λ x. x ∷ filter_map s.read got) (sym w) ∙ ap (λ (l : List Q). c.request ∷ l) ih.1)))
      (λ p got n calls own back rest e r h ih. (ih.0, map_past s.read p got r ∙ ih.1))
      (λ p got n calls sent e ih. (ih.0, map_past s.read p got (keeps.unread p e) ∙ ih.1))

  -- no more are served than are to be
  pub calls_most : (held : Bool) (got : List P) (n : ℕ) (calls : List (Call Q R)) (sent : List P) → Serves s held got n calls sent → length calls ≤ n
  calls_most held =
      by_calls held (λ got n calls sent. length calls ≤ n) (λ n. omega arith) (λ p got q e r. omega arith) (λ p got q n c e r w b. omega arith)
      (λ p got q n c calls own back rest e r w b h ih. omega (arith, ih)) (λ p got n calls own back rest e r h ih. ih) (λ p got n calls sent e ih. ih)

  -- where there are as many answers as requests, each request of the device was a call
  pub all_called : (held : Bool) (got : List P) (n : ℕ) (calls : List (Call Q R)) (sent : List P) → Serves s held got n calls sent
      → length (waited s got) ≤ length (filter s.is_answer sent) → length calls ≡ length (filter_map s.read got)
  all_called held =
      by_calls held (λ got n calls sent. length (waited s got) ≤ length (filter s.is_answer sent) → length calls ≡ length (filter_map s.read got)) (λ n le. refl)
      (λ p got q e r le. absurd (omega (arith, le, ap length (waited_one s keeps p got e))))
      (λ p got q n c e r w b le. absurd (omega (arith, le, ap length (waited_one s keeps p got e))))
      (λ p got q n c calls own back rest e r w b h ih le.
      let more = ap length (back_answers s keeps (s.id_of p) own back rest h) in
      let here = ih (omega (arith, le, ap length (waited_one s keeps p got e), more)) in
      omega (arith, here, ap length (map_first s.read p got q r)))
      (λ p got n calls own back rest e r h ih le.
      let more = ap length (back_answers s keeps (s.id_of p) own back rest h) in
      ih (omega (arith, le, ap length (waited_one s keeps p got e), more)) ∙ ap length (sym (map_past s.read p got r)))
      (λ p got n calls sent e ih le. ih (omega (arith, le, ap length (waited_none s keeps p got e))) ∙ ap length (sym (map_past s.read p got (keeps.unread p e))))

  -- the requests of a plan
  pub encoded_waits : (asks : List A) (ps : List P) → Encoded s asks ps → length ps ≡ length asks → length (filter s.waits ps) ≡ length (filter s.has_answer asks)
  encoded_waits [] [] enc e = refl
  encoded_waits [] (p ∷ ps) enc e = absurd enc
  encoded_waits (a ∷ asks) [] enc e = absurd (omega (arith, e))
  encoded_waits (a ∷ asks) (p ∷ ps) enc e =
      let rest = encoded_waits asks ps enc.1 (omega (arith, e)) in
      let same : s.waits p ≡ s.has_answer a = ap s.waits enc.0 ∙ keeps.waits_ask (s.id_of p) a in
      ap (λ b. length (cond b (p ∷ filter s.waits ps) (filter s.waits ps))) same
      ∙ by_test (s.has_answer a)
      (λ b. ap (λ t. length (cond t (p ∷ filter s.waits ps) (filter s.waits ps))) b ∙ (omega (arith, rest) ∙ ap (λ t. length (cond t (a ∷ filter s.has_answer asks) (filter s.has_answer asks))) (sym b)))
      (λ b. ap (λ t. length (cond t (p ∷ filter s.waits ps) (filter s.waits ps))) b ∙ (rest ∙ ap (λ t. length (cond t (a ∷ filter s.has_answer asks) (filter s.has_answer asks))) (sym b)))

  script_reads : (script : List A) (ps : List P) → AllAsk s script → Encoded s script ps → length ps ≡ length script → length (filter_map s.read ps) ≡ length script
  script_reads [] [] all enc e = refl
  script_reads [] (p ∷ ps) all enc e = absurd enc
  script_reads (a ∷ script) [] all enc e = absurd (omega (arith, e))
  script_reads (a ∷ script) (p ∷ ps) all enc e =
      let q = all.0 (s.id_of p) in
      omega (arith, ap length (map_first s.read p ps q.0 (ap s.read enc.0 ∙ q.1)), script_reads script ps all.1 enc.1 (omega (arith, e)))

  pub plan_reads : (start script : List A) (ps : List P) → AllFixed s start → AllAsk s script → Encoded s (start ++ script) ps → length ps ≡ length (start ++ script) → length (filter_map s.read ps) ≡ length script
  plan_reads [] script ps fixed all enc e = script_reads script ps all enc e
  plan_reads (a ∷ start) script [] fixed all enc e = absurd (omega (arith, e))
  plan_reads (a ∷ start) script (p ∷ ps) fixed all enc e =
      ap length (map_past s.read p ps (ap s.read enc.0 ∙ fixed.0 (s.id_of p))) ∙ plan_reads start script ps fixed.1 all enc.1 (omega (arith, e))

  some_same : (a b : ℕ) → Some a ≡ Some b → a ≡ b
  some_same a b e = cc

  -- the calls and what is left are all
  pub calls_left : (held : Bool) (got : List P) (n : ℕ) (calls : List (Call Q R)) (sent : List P) → Serves s held got n calls sent
      → ((m : ℕ) → left_of s held got n ≡ Some m → length calls + m ≡ n) × (left_of s held got n ≡ None → length calls ≡ n)
  calls_left held =
      by_calls held (λ got n calls sent. ((m : ℕ) → left_of s held got n ≡ Some m → length calls + m ≡ n) × (left_of s held got n ≡ None → length calls ≡ n))
      (λ n. (λ m e. omega (arith, some_same n m e), λ e. let bad : Some n ≡ None = e in absurd (cc)))
      (λ p got q e r. (λ m f. let bad : None ≡ Some m = sym (ap (λ o. left_one s held o 0 (λ k. left_of s held got k)) r) ∙ f in absurd (cc), λ f. refl))
      (λ p got q n c e r w b.
      let none : left_of s held (p ∷ got) (suc n) ≡ None = ap (λ o. left_one s held o (suc n) (λ k. left_of s held got k)) r ∙ ap (λ t. if t then None else left_of s held got n) b in
      (λ m f. let bad : None ≡ Some m = sym none ∙ f in absurd (cc), λ f. last_one n (held && n == 0) b refl))
      (λ p got q n c calls own back rest e r w b h ih.
      let next : left_of s held (p ∷ got) (suc n) ≡ left_of s held got n = ap (λ o. left_one s held o (suc n) (λ k. left_of s held got k)) r ∙ ap (λ t. if t then None else left_of s held got n) b in
      (λ m f. omega (arith, ih.0 m (sym next ∙ f)), λ f. omega (arith, ih.1 (sym next ∙ f))))
      (λ p got n calls own back rest e r h ih.
      let next : left_of s held (p ∷ got) n ≡ left_of s held got n = ap (λ o. left_one s held o n (λ k. left_of s held got k)) r in
      (λ m f. ih.0 m (sym next ∙ f), λ f. ih.1 (sym next ∙ f)))
      (λ p got n calls sent e ih.
      let next : left_of s held (p ∷ got) n ≡ left_of s held got n = ap (λ o. left_one s held o n (λ k. left_of s held got k)) (keeps.unread p e) in
      (λ m f. ih.0 m (sym next ∙ f), λ f. ih.1 (sym next ∙ f)))
    where
      last_one : (n : ℕ) (b : Bool) → b ≡ true → (held && n == 0) ≡ b → 1 ≡ suc n
      last_one n b e f = let both : (held && n == 0) ≡ true = f ∙ e in grind (arith, nat_tests, both)

-- where what is asked doesn't hang on the packet's id, the packets ask the device what the plan has, in order
cons_append : {A : Type 0} (o : Option A) (xs ys : List A) → cons_option o xs ++ ys ≡ cons_option o (xs ++ ys)
cons_append None xs ys = refl
cons_append (Some x) xs ys = refl

pub reads_front : {P A Q R : Type 0} (s : WireFormat P A Q R) (wants : A → Option Q) → ((id : ℕ) (a : A) → s.read (s.encode id a) ≡ wants a) → (asks : List A) (ps : List P) → Encoded s asks ps
    → IsFront (filter_map s.read ps) (filter_map wants asks)
reads_front s wants e asks [] enc = (filter_map wants asks, refl)
reads_front s wants e [] (p ∷ ps) enc = absurd enc
reads_front s wants e (a ∷ asks) (p ∷ ps) enc =
    let rest = reads_front s wants e asks ps enc.1 in
    let same : wants a ≡ s.read p = sym (ap s.read enc.0 ∙ e (s.id_of p) a) in (
      rest.0,
      ap (cons_option (wants a)) rest.1 ∙ (sym (cons_append (wants a) (filter_map s.read ps) rest.0) ∙ ap (λ o. cons_option o (filter_map s.read ps) ++ rest.0) same),
    )

-- where it does, they ask what the plan has under their ids
pub reads_under : {P A Q R : Type 0} (s : WireFormat P A Q R) (wants : ℕ → A → Option Q) → ((id : ℕ) (a : A) → s.read (s.encode id a) ≡ wants id a) → (asks : List A) (ps : List P) → Encoded s asks ps
    → filter_map s.read ps ≡ asked_under wants (map s.id_of ps) asks
reads_under s wants e asks [] enc = refl
reads_under s wants e [] (p ∷ ps) enc = absurd enc
reads_under s wants e (a ∷ asks) (p ∷ ps) enc =
    ap (cons_option (s.read p)) (reads_under s wants e asks ps enc.1) ∙ ap (λ o. cons_option o (asked_under wants (map s.id_of ps) asks)) (ap s.read enc.0 ∙ e (s.id_of p) a)
