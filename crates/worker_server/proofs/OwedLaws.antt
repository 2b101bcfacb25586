-- What is owed, as it is written and as it is read.
use Rattle.std.proofs.Common.{◌≡◌, ℕ, ◌-◌, ◌<◌, ◌≤◌, List, [], ◌∷◌, ◌++◌, length, length-append, refl, sym, ap, ◌∙◌, subst, arith, Option, Some, None, Bool, true, false}
use Rattle.std.specs.Prelude.{◌&&◌, drop, replicate}
use Rattle.std.proofs.lemmas.List.{length-replicate}
use Rattle.std.proofs.Math.Seq.{take-append_seam}
use Rattle.page_kept.specs.declared.item.Item.{Item}
use Rattle.channel_model.specs.WireFormat.{WireFormat, Back, listed, packets_in, packets_of, under_own}
use Rattle.channel_protocol.specs.Listed.{answer_in, message_in}
use Rattle.channel_protocol.specs.Paged.{Lays, LaysSome, words_lent}
use Rattle.worker_port.specs.Owed.{LaysOn, LaysSomeOn, Written, is_nil}
use Rattle.worker_server.specs.Sheets.{AreBare, BringBack, BringsBack, GoesBack, LendsAll, if_written, item_on, read_all, sheets_of}

few_written : (p : List ℕ) (o : Written) → length (if_written p o) ≤ 1
few_written [] o = omega arith
few_written (w ∷ ws) o = omega arith

pub both_few : (m a : Written) → length (sheets_of m ++ sheets_of a) ≤ 2
both_few m a = omega (arith, length-append (sheets_of m) (sheets_of a), few_written m.packet m, few_written a.packet a)

-- what is owed first, and what is left of it
pub both_nil : (p q : List ℕ) (m a : Written) → (is_nil p && is_nil q) ≡ is_nil (if_written p m ++ if_written q a)
both_nil [] [] m a = refl
both_nil [] (w ∷ ws) m a = refl
both_nil (w ∷ ws) q m a = refl

pub both_clear : (p q : List ℕ) (m a : Written) → (is_nil p && is_nil q) ≡ true → if_written p m ++ if_written q a ≡ []
both_clear [] [] m a e = refl
both_clear [] (w ∷ ws) m a e = absurd (cc)
both_clear (w ∷ ws) q m a e = absurd (cc)

pub first_answer : (p q : List ℕ) (m a : Written) → is_nil p ≡ true → is_nil (if_written p m ++ if_written q a) ≡ false → if_written p m ++ if_written q a ≡ a ∷ drop 1 (if_written p m ++ if_written q a)
first_answer [] [] m a e some = absurd (cc)
first_answer [] (w ∷ ws) m a e some = refl
first_answer (w ∷ ws) q m a e some = absurd (cc)

pub first_message : (p q : List ℕ) (m a : Written) → is_nil p ≡ false → if_written p m ++ if_written q a ≡ m ∷ drop 1 (if_written p m ++ if_written q a)
first_message [] q m a e = absurd (cc)
first_message (w ∷ ws) q m a e = refl

pub some_answer : (p q : List ℕ) (m a : Written) → is_nil p ≡ true → is_nil (if_written p m ++ if_written q a) ≡ false → is_nil q ≡ false
some_answer [] [] m a e some = absurd (cc)
some_answer [] (w ∷ ws) m a e some = refl
some_answer (w ∷ ws) q m a e some = absurd (cc)

pub pop_answer : (p q q' : List ℕ) (m a a' : Written) → is_nil p ≡ true → q' ≡ [] → if_written p m ++ if_written q' a' ≡ drop 1 (if_written p m ++ if_written q a)
pop_answer [] [] q' m a a' e is = ap (λ l. if_written l a') is
pop_answer [] (w ∷ ws) q' m a a' e is = ap (λ l. if_written l a') is
pop_answer (w ∷ ws) q q' m a a' e is = absurd (cc)

pub pop_message : (p p' q : List ℕ) (m m' a : Written) → is_nil p ≡ false → p' ≡ [] → if_written p' m' ++ if_written q a ≡ drop 1 (if_written p m ++ if_written q a)
pop_message [] p' q m m' a e is = absurd (cc)
pop_message (w ∷ ws) p' q m m' a e is = ap (λ l. if_written l m' ++ if_written q a) is

-- no page words
bare_written : (p : List ℕ) (o : Written) → (o.words ≡ []) × (o.lent ≡ 0) → AreBare (if_written p o)
bare_written [] o none = tt
bare_written (w ∷ ws) o none = (none, tt)

bare_append : (os ps : List Written) → AreBare os → AreBare ps → AreBare (os ++ ps)
bare_append [] ps h k = k
bare_append (o ∷ os) ps h k = (h.0, bare_append os ps h.1 k)

pub both_bare : (m a : Written) → (m.words ≡ []) × (m.lent ≡ 0) → (a.words ≡ []) × (a.lent ≡ 0) → AreBare (sheets_of m ++ sheets_of a)
both_bare m a none none' = bare_append (sheets_of m) (sheets_of a) (bare_written m.packet m none) (bare_written a.packet a none')

pub drop_bare : (os : List Written) → AreBare os → AreBare (drop 1 os)
drop_bare [] h = tt
drop_bare (o ∷ os) h = h.1

-- an item of these words
pub lays_on : (o : Written) → length o.words ≤ o.lent → LaysOn o (item_on o)
lays_on o le = record {
  packet_is = refl;
  words_are = take-append_seam o.words (replicate (o.lent - length o.words) 0);
  long = omega (arith, le, length-append o.words (replicate (o.lent - length o.words) 0), (let none : ℕ = 0 in length-replicate (o.lent - length o.words) none));
}

some_there : {P : Type 0} (p : List ℕ) → 0 < length p → ((w : ℕ) (ws : List ℕ) → p ≡ w ∷ ws → P) → P
some_there [] some f = absurd (omega (arith, some))
some_there (w ∷ ws) some f = f w ws refl

both_back : (own : ℕ) (o : Option (Back Item)) → listed (message_in own o) ++ listed (answer_in o) ≡ packets_in own o
both_back own None = refl
both_back own (Some b) = refl

module _ (said : Item → Item) where
  pub read_append : (os ps : List Written) → read_all said (os ++ ps) ≡ read_all said os ++ read_all said ps
  read_append [] ps = refl
  read_append (o ∷ os) ps = ap (λ (l : List Item). said (item_on o) ∷ l) (read_append os ps)

  pub read_drop : (os : List Written) → read_all said (drop 1 os) ≡ drop 1 (read_all said os)
  read_drop [] = refl
  read_drop (o ∷ os) = refl

  pub read_nil : (os : List Written) → is_nil (read_all said os) ≡ is_nil os
  read_nil [] = refl
  read_nil (o ∷ os) = refl

  pub read_long : (os : List Written) → length (read_all said os) ≡ length os
  read_long [] = refl
  read_long (o ∷ os) = omega (arith, read_long os)

  pub read_clear : (os : List Written) → read_all said os ≡ [] → os ≡ []
  read_clear [] e = refl
  read_clear (o ∷ os) e = absurd (cc)

  pub bare_clear : (os : List Written) → read_all said os ≡ [] → AreBare os
  bare_clear [] e = tt
  bare_clear (o ∷ os) e = absurd (cc)

  written_is : (o : Written) (j : Item) → 0 < length o.packet → length o.words ≤ o.lent → ((i : Item) → LaysOn o i → said i ≡ j) → read_all said (sheets_of o) ≡ j ∷ []
  written_is o j some le value = some_there o.packet some (λ w ws e. ap (λ l. read_all said (if_written l o)) e ∙ ap (λ (x : Item). x ∷ []) (value (item_on o) (lays_on o le)))

  some_is : (o : Written) (j : Option Item) → length o.words ≤ o.lent → LaysSomeOn said o j → read_all said (sheets_of o) ≡ listed j
  some_is o None le h = ap (λ l. read_all said (if_written l o)) h
  some_is o (Some j) le h = written_is o j h.0 le h.1

  -- what goes back for a packet that asks nothing of the device
  pub fixed_is : (own : ℕ) (m a : Written) (o : Option (Back Item)) → length m.words ≤ m.lent → length a.words ≤ a.lent → LaysSomeOn said m (message_in own o) → LaysSomeOn said a (answer_in o)
      → read_all said (sheets_of m ++ sheets_of a) ≡ packets_in own o
  fixed_is own m a o le le' message answer =
      read_append (sheets_of m) (sheets_of a) ∙ ((λ i. some_is m (message_in own o) le message i ++ some_is a (answer_in o) le' answer i) ∙ both_back own o)

  -- and with the device's reply
  pub reply_is : (own : ℕ) (m a : Written) (b : Back Item) → length m.words ≤ m.lent → length a.words ≤ a.lent → LaysSomeOn said m (under_own own b.message) → 0 < length a.packet → ((i : Item) → LaysOn a i → said i ≡ b.answer)
      → read_all said (sheets_of m ++ sheets_of a) ≡ packets_of own b
  reply_is own m a b le le' message some answer =
      read_append (sheets_of m) (sheets_of a) ∙ (λ i. some_is m (under_own own b.message) le message i ++ written_is a b.answer some le' answer i)

  -- the answer, and the message before it
  both_bring : (p q : List ℕ) (most : ℕ) (m a : Written) → (0 < length p → 0 < length q) → (0 < length p → LendsAll said m) → (0 < length q → BringsBack said most a) → BringBack said most (if_written p m ++ if_written q a)
  both_bring [] [] most m a with_answer lends brings = tt
  both_bring [] (x ∷ ys) most m a with_answer lends brings = brings (omega arith)
  both_bring (w ∷ ws) [] most m a with_answer lends brings = absurd (omega (arith, with_answer (omega arith)))
  both_bring (w ∷ ws) (x ∷ ys) most m a with_answer lends brings = (lends (omega arith), brings (omega arith))

  -- a message that is there lends all that was written for it
  lends_all : (m : Written) (o : Option Item) → length m.words ≤ m.lent → m.lent ≡ words_lent m.packet → LaysSomeOn said m o → 0 < length m.packet → LendsAll said m
  lends_all m None le lent h some = absurd (omega (arith, some, ap length h))
  lends_all m (Some j) le lent h some = record { lent = lent; whole = λ i lays. h.1 i lays ∙ sym (h.1 (item_on m) (lays_on m le)) }

  brings_all : (most : ℕ) (a : Written) (j : Item) → length a.words ≤ a.lent → a.lent ≤ most → ((i : Item) → LaysOn a i → said i ≡ j) → ((n : ℕ) (i : Item) → a.lent ≤ n → Lays a.packet a.words n i → said i ≡ j) → BringsBack said most a
  brings_all most a j le within value back = record { within = within; whole = λ n i more lays. back n i more lays ∙ sym (value (item_on a) (lays_on a le)) }

  pub reply_back : (own most : ℕ) (m a : Written) (b : Back Item) → length m.words ≤ m.lent → m.lent ≡ words_lent m.packet → LaysSomeOn said m (under_own own b.message) → 0 < length a.packet → length a.words ≤ a.lent → a.lent ≤ most
      → ((i : Item) → LaysOn a i → said i ≡ b.answer) → ((n : ℕ) (i : Item) → a.lent ≤ n → Lays a.packet a.words n i → said i ≡ b.answer) → BringBack said most (sheets_of m ++ sheets_of a)
  reply_back own most m a b fits lent message some le within value back =
      both_bring m.packet a.packet most m a (λ _. some) (lends_all m (under_own own b.message) fits lent message) (λ _. brings_all most a b.answer le within value back)

  -- where an answer is fixed, and there is a message, there is the answer too
  answer_there : (own : ℕ) (m a : Written) (o : Option (Back Item)) → LaysSomeOn said m (message_in own o) → LaysSomeOn said a (answer_in o) → 0 < length m.packet → 0 < length a.packet
  answer_there own m a None message value some = absurd (omega (arith, some, ap length message))
  answer_there own m a (Some b) message value some = value.0

  fixed_brings : (most : ℕ) (a : Written) (o : Option (Back Item)) → (a.words ≡ []) × (a.lent ≡ 0) → LaysSomeOn said a (answer_in o) → ((n : ℕ) → LaysSome said a.packet [] n (answer_in o)) → 0 < length a.packet → BringsBack said most a
  fixed_brings most a None bare value back some = absurd (omega (arith, some, ap length value))
  fixed_brings most a (Some b) bare value back some = record {
    within = omega (arith, bare.1);
    whole = λ n i more lays. (back n).1 i (subst (λ (l : List ℕ). Lays a.packet l n i) bare.0 lays) ∙ sym (value.1 (item_on a) (lays_on a (omega (arith, bare.1, ap length bare.0))));
  }

  pub fixed_back : (own most : ℕ) (m a : Written) (o : Option (Back Item)) → length m.words ≤ m.lent → m.lent ≡ words_lent m.packet → LaysSomeOn said m (message_in own o) → (a.words ≡ []) × (a.lent ≡ 0)
      → LaysSomeOn said a (answer_in o) → ((n : ℕ) → LaysSome said a.packet [] n (answer_in o)) → BringBack said most (sheets_of m ++ sheets_of a)
  fixed_back own most m a o fits lent message bare value back =
      both_bring m.packet a.packet most m a (answer_there own m a o message value) (lends_all m (message_in own o) fits lent message) (fixed_brings most a o bare value back)

-- nothing goes back where nothing is owed
pub goes_clear : {A Q R : Type 0} (said : Item → Item) (s : WireFormat Item A Q R) (besides : Bool) (p : Item) (os : List Written) → read_all said os ≡ [] → GoesBack said s besides p os
goes_clear said s besides p [] e = tt
goes_clear said s besides p (o ∷ os) e = absurd (cc)
