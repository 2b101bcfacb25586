-- Answers, as they are written: what they say.
use Rattle.std.proofs.Common.{◌≡◌, ◌≢◌, ℕ, ◌+◌, ◌-◌, ◌^◌, ◌<◌, ◌≤◌, ◌==◌, ◌&&◌, Bool, true, false, cond, is_none, nat_lt, List, ◌++◌, length, take, drop, append_assoc, length-append, length-drop, Option, Some, None, inl, inr, refl, sym, ap, subst, ◌∙◌, arith}
use Rattle.std.specs.Prelude.{◌⊎◌, IfSome}
use Rattle.std.proofs.lemmas.Bool.Decides.{nat_tests}
use Rattle.std.proofs.lemmas.List.{drop_at, drop-drop, length-take-le, drop-append-le, take-append-drop}
use borrow.Rule.Slice.PartMut.{put_mid}
use Rattle.wire_table.specs.Little.{bytes_of}
use Rattle.wire_table.specs.Rows.{numbers_in}
use Rattle.wire_table.proofs.LittleLemmas.{length-bytes_of}
use Rattle.wire_table.proofs.PutLaws.{by_test}
use Rattle.util_ic.specs.Messages.{number_at, put, with_result}
use Rattle.util_ic.proofs.ByteLaws.{length-put, put_same, put_apart, number_in_front}
use Rattle.kvp_pool.specs.Pools.{IsText}
use Rattle.kvp_ic.specs.declared.message.Kvp.{Kvp}
use Rattle.kvp_ic.specs.declared.message.Kvp.TheVariants.{Get, Set, Delete, Enum}
use Rattle.kvp_ic.specs.declared.message.KvpReply.{KvpReply}
use Rattle.kvp_ic.specs.declared.text.TextPlace.{TextPlace}
use Rattle.kvp_ic.specs.Machine.{told, IsPart, IsReplyTo}
use Rattle.kvp_ic.specs.Texts.{text_size, field_of, size_at, is_size, units_at, text_at, text_in, wrong_unit, Holds}
use Rattle.kvp_ic.specs.Messages.{operation_of, message_size, record_at, key_place, value_place, Asks}
use Rattle.kvp_ic.specs.Faults.{fault_of}
use Rattle.kvp_ic.specs.Answers.{replaced, with_text, with_part, kvp_answer, NeedsMessage, CanCarry, status_of, value_told, pair_told, good_told, told_reply}
use Rattle.kvp_ic.proofs.TextLaws.{field_read, length-field_of, held_size, held_right, held_text}
use Rattle.kvp_ic.proofs.WriteLaws.{one_byte}
use Rattle.kvp_ic.proofs.AskLaws.{record_within}

-- a number in the front of bytes
front_number : (q w at : ℕ) (b rest : List ℕ) → at ≤ length b → q + w ≤ at → number_at q w (take at b ++ rest) ≡ number_at q w b
front_number q w at b rest le within =
    let len : length (take at b) ≡ at = length-take-le at b le in
    number_in_front q w (take at b) rest (omega (arith, len))
    ∙ (sym (number_in_front q w (take at b) (drop at b) (omega (arith, len))) ∙ ap (number_at q w) (take-append-drop at b))

-- a part of bytes is written
pub mid_replaced : (at k : ℕ) (m new : List ℕ) → length new ≡ k → put_mid at k m new ≡ replaced at new m
mid_replaced at k m new len =
    sym (append_assoc (take at m) new (drop k (drop at m))) ∙ ap (λ l. (take at m ++ new) ++ l) (drop-drop k at m ∙ ap (λ n. drop (at + n) m) (sym len))

-- bytes behind a number that was put
drop_put : (at w v n : ℕ) (b : List ℕ) → at + w ≤ length b → at + w ≤ n → drop n (put at w v b) ≡ drop n b
drop_put at w v n b le behind =
    let front = take at b ++ bytes_of w v in
    let len : length front ≡ at + w = omega (arith, length-append (take at b) (bytes_of w v), length-take-le at b (omega arith), length-bytes_of w v) in
    let split : n ≡ at + w + (n - (at + w)) = omega arith in
    let step : (xs : List ℕ) → drop n xs ≡ drop (n - (at + w)) (drop (at + w) xs) = λ xs. ap (λ k. drop k xs) split ∙ sym (drop-drop (n - (at + w)) (at + w) xs) in
    step (put at w v b) ∙ (ap (drop (n - (at + w))) (drop_at front (drop (at + w) b) (at + w) len) ∙ sym (step b))

-- ---- one text is put

module _ (room : ℕ) (place : TextPlace) (us b : List ℕ) (before : place.size_at + 4 ≤ place.at) (within : place.at + room ≤ length b) (fits : text_size (length us) ≤ room) where
  abbrev now : List ℕ
  now = put place.size_at 4 (text_size (length us)) b

  abbrev field : List ℕ
  field = field_of room us

  now_len : length now ≡ length b
  now_len = length-put place.size_at 4 (text_size (length us)) b (omega arith)

  field_len : length field ≡ room
  field_len = length-field_of room us (omega arith)

  shape : with_text room place us b ≡ take place.at now ++ (field ++ drop (place.at + length field) now)
  shape = append_assoc (take place.at now) field (drop (place.at + length field) now)

  front_len : length (take place.at now) ≡ place.at
  front_len = length-take-le place.at now (omega (arith, now_len))

  pub length-with_text : length (with_text room place us b) ≡ length b
  length-with_text =
      ap length shape
      ∙ omega (arith, length-append (take place.at now) (field ++ drop (place.at + length field) now), length-append field (drop (place.at + length field) now), length-drop (place.at + length field) now, front_len, field_len, now_len)

  pub number_kept : (q w : ℕ) → q + w ≤ place.at → (q + w ≤ place.size_at) ⊎ (place.size_at + 4 ≤ q) → number_at q w (with_text room place us b) ≡ number_at q w b
  number_kept q w le apart =
      ap (number_at q w) shape
      ∙ (front_number q w place.at now (field ++ drop (place.at + length field) now) (omega (arith, now_len)) le
      ∙ put_apart place.size_at 4 (text_size (length us)) q w b (omega arith) apart)

  pub size_there : text_size (length us) < 2 ^ 32 → number_at place.size_at 4 (with_text room place us b) ≡ text_size (length us)
  size_there small =
      ap (number_at place.size_at 4) shape
      ∙ (front_number place.size_at 4 place.at now (field ++ drop (place.at + length field) now) (omega (arith, now_len)) before
      ∙ put_same place.size_at 4 (text_size (length us)) b (omega arith) small)

  pub field_there : drop place.at (with_text room place us b) ≡ field ++ drop (place.at + length field) now
  field_there = ap (drop place.at) shape ∙ drop_at (take place.at now) (field ++ drop (place.at + length field) now) place.at front_len

  pub behind_kept : drop (place.at + room) (with_text room place us b) ≡ drop (place.at + room) b
  behind_kept =
      let whole : length (take place.at now ++ field) ≡ place.at + room = omega (arith, length-append (take place.at now) field, front_len, field_len) in
      drop_at (take place.at now ++ field) (drop (place.at + length field) now) (place.at + room) whole
      ∙ (ap (λ k. drop (place.at + k) now) field_len ∙ drop_put place.size_at 4 (text_size (length us)) (place.at + room) b (omega arith) (omega arith))

  -- it stands there, whatever follows
  pub text_put : (min max : ℕ) (more : List ℕ) → IsText min max us → max ≤ 1023 → Holds min max place us (with_text room place us b ++ more)
  text_put min max more t few =
      let c = with_text room place us b in
      let tail = drop (place.at + length field) now in
      let there : drop place.at (c ++ more) ≡ field ++ (tail ++ more) = drop-append-le place.at c more (omega (arith, length-with_text)) ∙ (ap (λ l. l ++ more) field_there ∙ append_assoc field tail more) in
      record {
        text = t;
        size = number_in_front place.size_at 4 c more (omega (arith, length-with_text)) ∙ size_there (omega (arith, t.most));
        here = ap (numbers_in 2 (length us + 1)) there ∙ field_read room us (tail ++ more) t.fits fits;
      }

-- a text that stands in bytes stands in others that are the same there
text_moved : (min max : ℕ) (place : TextPlace) (us x y : List ℕ) → number_at place.size_at 4 x ≡ number_at place.size_at 4 y → drop place.at x ≡ drop place.at y → Holds min max place us y → Holds min max place us x
text_moved min max place us x y size here h = record { text = h.text; size = size ∙ h.size; here = ap (numbers_in 2 (length us + 1)) here ∙ h.here }

text_found : (min max : ℕ) (place : TextPlace) (us b : List ℕ) → Holds min max place us b → text_in min max place b ≡ Some us
text_found min max place us b h =
    let tests : (is_size min max (size_at place b) && is_none (wrong_unit 0 (units_at place b))) ≡ true = rw (held_size min max place b us h, held_right min max place b us h) refl in
    ap (λ t. cond t (Some (text_at place b)) None) tests ∙ ap Some (held_text min max place b us h)

-- ---- the status and the operation of an answer

-- what a part of an answer leaves: how many bytes there are, the status and the operation
record Keeps (x b : List ℕ) : Type 0 where
  size : length x ≡ length b
  status : number_at 20 4 x ≡ number_at 20 4 b
  operation : number_at 28 1 x ≡ number_at 28 1 b

part_keeps : (room : ℕ) (place : TextPlace) (part : Option (List ℕ)) (b : List ℕ) → 32 ≤ place.size_at → place.size_at + 4 ≤ place.at → IfSome part (λ _. place.at + room ≤ length b) → IfSome part (λ us. text_size (length us) ≤ room) → Keeps (with_part room place part b) b
part_keeps room place None b low before within fits = record { size = refl; status = refl; operation = refl }
part_keeps room place (Some us) b low before within fits =
    record {
      size = length-with_text room place us b before within fits;
      status = number_kept room place us b before within fits 20 4 (omega arith) (inl (omega arith));
      operation = number_kept room place us b before within fits 28 1 (omega arith) (inl (omega arith));
    }

length-result : (s : ℕ) (b : List ℕ) → 28 ≤ length b → length (with_result s b) ≡ length b
length-result s b long = let inner = length-put 20 4 s b (omega arith) in length-put 25 1 5 (put 20 4 s b) (omega (arith, inner)) ∙ inner

result_status : (s : ℕ) (b : List ℕ) → 28 ≤ length b → s < 2 ^ 32 → number_at 20 4 (with_result s b) ≡ s
result_status s b long fits =
    let inner = length-put 20 4 s b (omega arith) in
    put_apart 25 1 5 20 4 (put 20 4 s b) (omega (arith, inner)) (inl (omega arith)) ∙ put_same 20 4 s b (omega arith) (omega arith)

result_operation : (s : ℕ) (b : List ℕ) → 28 ≤ length b → number_at 28 1 (with_result s b) ≡ number_at 28 1 b
result_operation s b long =
    let inner = length-put 20 4 s b (omega arith) in
    put_apart 25 1 5 28 1 (put 20 4 s b) (omega (arith, inner)) (inr (omega arith)) ∙ put_apart 20 4 s 28 1 b (omega arith) (inr (omega arith))

-- ---- what answers say

not_below : (n m : ℕ) → m ≤ n → nat_lt n m ≡ false
not_below n m le = grind (arith, nat_tests, le)

-- a status that isn't 0 is all that is said
pub refusal_told : (x : List ℕ) (s : ℕ) → 28 ≤ length x → status_of x ≡ s → s ≢ 0 → told_reply x ≡ Some (told s)
refusal_told x s long is some =
    let some_status : status_of x ≢ 0 = λ e. some (sym is ∙ e) in
    let zero : (status_of x == 0) ≡ false = grind (arith, nat_tests, some_status) in
    rw (not_below (length x) 28 long, zero) (ap (λ n. Some (told n)) is)

pub success_told : (x : List ℕ) (op : ℕ) → operation_of x ≡ op → 28 ≤ length x → message_size op ≤ length x → status_of x ≡ 0 → told_reply x ≡ good_told op x
success_told x op is long whole good =
    let zero : (status_of x == 0) ≡ true = grind (arith, nat_tests, good) in
    let enough : nat_lt (length x) (message_size (operation_of x)) ≡ false = not_below (length x) (message_size (operation_of x)) (subst (λ o. message_size o ≤ length x) (sym is) whole) in
    rw (not_below (length x) 28 long, zero, enough) (ap (λ o. good_told o x) is)

record_low : (op : ℕ) → 32 ≤ record_at op
record_low op = by_test (op == 3) (λ t. rw t (omega arith)) (λ f. rw f (omega arith))

-- an answer, by the request's operation
abbrev answer_at : ℕ → List ℕ → KvpReply → List ℕ
answer_at op b r = with_part 512 (key_place op) r.key (with_part 2048 (value_place op) r.value (with_result r.status b))

-- a part fits where it is put
abbrev pub Fits : ℕ → List ℕ → KvpReply → Type 0
Fits op b r =
    IfSome r.key (λ us. IsText 1 255 us) × IfSome r.value (λ us. IsText 0 1023 us) × IfSome r.key (λ _. record_at op + 2572 ≤ length b) × IfSome r.value (λ _. record_at op + 2572 ≤ length b)

pub some_other : {P Q : List ℕ → Type 0} (o : Option (List ℕ)) → ((us : List ℕ) → P us → Q us) → IfSome o P → IfSome o Q
some_other None f h = tt
some_other (Some us) f h = f us h

-- a part that may be answered fits the message
pub part_fits : (part : Option (List ℕ)) (b : List ℕ) → NeedsMessage b part → IfSome part (λ _. record_at (operation_of b) + 2572 ≤ length b)
part_fits None b h = tt
part_fits (Some us) b h = record_within b h

-- and a message that isn't refused may be answered by any
needs_met : (part : Option (List ℕ)) (b : List ℕ) → fault_of b ≡ None → NeedsMessage b part
needs_met None b h = tt
needs_met (Some us) b h = h

pub may_carry : (b : List ℕ) (r : KvpReply) → fault_of b ≡ None → CanCarry b r
may_carry b r h = record { key = needs_met r.key b h; value = needs_met r.value b h }

-- what an answer says of itself
record Says (x b : List ℕ) (s : ℕ) : Type 0 where
  size : length x ≡ length b
  status : number_at 20 4 x ≡ s
  operation : number_at 28 1 x ≡ number_at 28 1 b

answer_says : (op : ℕ) (b : List ℕ) (r : KvpReply) → 28 ≤ length b → r.status < 2 ^ 32 → Fits op b r → Says (answer_at op b r) b r.status
answer_says op b r long small fits =
    let low = record_low op in
    let a0 = with_result r.status b in
    let a1 = with_part 2048 (value_place op) r.value a0 in
    let len0 : length a0 ≡ length b = length-result r.status b long in
    let one = part_keeps 2048 (value_place op) r.value a0 (omega (arith, low)) (omega arith)
    (some_other r.value (λ us le. omega (arith, le, len0)) fits.3)
    (some_other r.value (λ us t. omega (arith, t.most)) fits.1) in
    let len1 : length a1 ≡ length b = one.size ∙ len0 in
    let two = part_keeps 512 (key_place op) r.key a1 (omega (arith, low)) (omega arith)
    (some_other r.key (λ us le. omega (arith, le, len1)) fits.2)
    (some_other r.key (λ us t. omega (arith, t.most)) fits.0) in
    record {
      size = two.size ∙ len1;
      status = two.status ∙ (one.status ∙ result_status r.status b long small);
      operation = two.operation ∙ (one.operation ∙ result_operation r.status b long);
    }

-- an answer has as many bytes as its request
pub answer_size : (b : List ℕ) (r : KvpReply) → 28 ≤ length b → r.status < 2 ^ 32 → Fits (operation_of b) b r → length (kvp_answer b r) ≡ length b
answer_size b r long small fits = (answer_says (operation_of b) b r long small fits).size

-- a part of a reply to a request is a text
part_text : (t : Bool) (min max : ℕ) (part : Option (List ℕ)) → IsPart t min max part → IfSome part (λ us. IsText min max us)
part_text true min max (Some us) h = h
part_text true min max None h = tt
part_text false min max (Some us) h = absurd h
part_text false min max None h = tt

no_part : (min max : ℕ) (part : Option (List ℕ)) → part ≡ None → IfSome part (λ us. IsText min max us)
no_part min max part none = subst (λ o. IfSome o (λ us. IsText min max us)) (sym none) tt

texts_in : (m : Kvp) (r : KvpReply) → IsReplyTo m r → IfSome r.key (λ us. IsText 1 255 us) × IfSome r.value (λ us. IsText 0 1023 us) × (r.status < 2 ^ 32)
texts_in (Get pool key) r h = (no_part 1 255 r.key h.0, part_text (r.status == 0) 0 1023 r.value h.1, h.2)
texts_in (Set pool key value) r h = (no_part 1 255 r.key h.0, no_part 0 1023 r.value h.1, h.2)
texts_in (Delete pool key) r h = (no_part 1 255 r.key h.0, no_part 0 1023 r.value h.1, h.2)
texts_in (Enum pool index) r h = (part_text (r.status == 0) 1 255 r.key h.0, part_text (r.status == 0) 0 1023 r.value h.1, h.2)

-- so a reply to what isn't refused fits the message
pub reply_fits : (m : Kvp) (b : List ℕ) (r : KvpReply) → fault_of b ≡ None → IsReplyTo m r → Fits (operation_of b) b r × (r.status < 2 ^ 32)
reply_fits m b r right reply =
    let texts = texts_in m r reply in
    let can = may_carry b r right in
    ((texts.0, texts.1, part_fits r.key b can.key, part_fits r.value b can.value), texts.2)

module _ (op : ℕ) (b more : List ℕ) (r : KvpReply) (says : Says (answer_at op b r) b r.status) (long : 28 ≤ length b) where
  abbrev x : List ℕ
  x = answer_at op b r ++ more

  x_long : length b ≤ length x
  x_long = omega (arith, length-append (answer_at op b r) more, says.size)

  x_status : status_of x ≡ r.status
  x_status = number_in_front 20 4 (answer_at op b r) more (omega (arith, says.size)) ∙ says.status

  refused_back : r.status ≢ 0 → told_reply x ≡ Some (told r.status)
  refused_back some = refusal_told x r.status (omega (arith, x_long)) x_status some

  good_back : operation_of b ≡ op → 29 ≤ length b → message_size op ≤ length b → r.status ≡ 0 → told_reply x ≡ good_told op x
  good_back is more_long whole good =
      let asked : operation_of x ≡ op = sym (one_byte 28 x) ∙ (number_in_front 28 1 (answer_at op b r) more (omega (arith, says.size)) ∙ (says.operation ∙ (one_byte 28 b ∙ is))) in
      success_told x op asked (omega (arith, x_long)) (omega (arith, x_long, whole)) (x_status ∙ good)

-- the status of a refusal is read back, whatever the request is
pub refusal_back : (b more : List ℕ) (r : KvpReply) → 28 ≤ length b → r.status < 2 ^ 32 → Fits (operation_of b) b r → r.status ≢ 0 → told_reply (kvp_answer b r ++ more) ≡ Some (told r.status)
refusal_back b more r long small fits some = refused_back (operation_of b) b more r (answer_says (operation_of b) b r long small fits) long some

-- ---- the reply to what was asked

-- a part that is to be there, and one that isn't
record There (min max : ℕ) (part : Option (List ℕ)) : Type 0 where
  us : List ℕ
  is : part ≡ Some us
  text : IsText min max us

part_there : (min max s : ℕ) (part : Option (List ℕ)) → s ≡ 0 → IsPart (s == 0) min max part → There min max part
part_there min max s part is h =
    let t : (s == 0) ≡ true = grind (arith, nat_tests, is) in
    given part (subst (λ u. IsPart u min max part) t h) where
      given : (p : Option (List ℕ)) → IsPart true min max p → There min max p
      given (Some us) h = record { us = us; is = refl; text = h }
      given None h = absurd h

part_missing : (min max s : ℕ) (part : Option (List ℕ)) → s ≢ 0 → IsPart (s == 0) min max part → part ≡ None
part_missing min max s part some h =
    let t : (s == 0) ≡ false = grind (arith, nat_tests, some) in
    given part (subst (λ u. IsPart u min max part) t h) where
      given : (p : Option (List ℕ)) → IsPart false min max p → p ≡ None
      given (Some us) h = absurd h
      given None h = refl

rebuilt : (r : KvpReply) (s : ℕ) (key value : Option (List ℕ)) → r.status ≡ s → r.key ≡ key → r.value ≡ value → Some (record { status = s; key = key; value = value }) ≡ Some r
rebuilt r s key value is k v =
    ap {B = Option KvpReply} (λ n. Some (record { status = n; key = key; value = value })) (sym is)
    ∙ (ap {B = Option KvpReply} (λ o. Some (record { status = r.status; key = o; value = value })) (sym k)
    ∙ ap {B = Option KvpReply} (λ o. Some (record { status = r.status; key = r.key; value = o })) (sym v))

-- a reply with no text
bare_back : (op : ℕ) (b more : List ℕ) (r : KvpReply) → Says (answer_at op b r) b r.status → operation_of b ≡ op → 29 ≤ length b → message_size op ≤ length b → r.key ≡ None → r.value ≡ None
    → ((y : List ℕ) → good_told op y ≡ Some (told 0)) → told_reply (answer_at op b r ++ more) ≡ Some r
bare_back op b more r says is long whole k v plain =
    by_test (r.status == 0)
    (λ t. let zero : r.status ≡ 0 = grind (arith, nat_tests, t) in good_back op b more r says (omega arith) is long whole zero ∙ (plain (answer_at op b r ++ more) ∙ rebuilt r 0 None None zero k v))
    (λ f. let some : r.status ≢ 0 = grind (arith, nat_tests, f) in refused_back op b more r says (omega arith) some ∙ rebuilt r r.status None None refl k v)

-- a value
value_back : (b more : List ℕ) (r : KvpReply) → Says (answer_at 0 b r) b r.status → operation_of b ≡ 0 → 2604 ≤ length b → r.key ≡ None → IsPart (r.status == 0) 0 1023 r.value → told_reply (answer_at 0 b r ++ more) ≡ Some r
value_back b more r says is long k part =
    by_test (r.status == 0)
    (λ t.
    let zero : r.status ≡ 0 = grind (arith, nat_tests, t) in
    let there = part_there 0 1023 r.status r.value zero part in
    let a0 = with_result r.status b in
    let len0 : length a0 ≡ length b = length-result r.status b (omega arith) in
    let whole : answer_at 0 b r ≡ with_text 2048 (value_place 0) there.us a0 = ap (λ o. with_part 512 (key_place 0) o (with_part 2048 (value_place 0) r.value a0)) k ∙ ap (λ o. with_part 2048 (value_place 0) o a0) there.is in
    let held = text_put 2048 (value_place 0) there.us a0 (omega arith) (omega (arith, len0)) (omega (arith, there.text.most)) 0 1023 more there.text (omega arith) in
    let held_x : Holds 0 1023 (value_place 0) there.us (answer_at 0 b r ++ more) = subst (λ (y : List ℕ). Holds 0 1023 (value_place 0) there.us (y ++ more)) (sym whole) held in
    good_back 0 b more r says (omega arith) is (omega arith) long zero
    ∙ (ap value_told (text_found 0 1023 (value_place 0) there.us (answer_at 0 b r ++ more) held_x) ∙ rebuilt r 0 None (Some there.us) zero k there.is))
    (λ f. let some : r.status ≢ 0 = grind (arith, nat_tests, f) in refused_back 0 b more r says (omega arith) some ∙ rebuilt r r.status None None refl k (part_missing 0 1023 r.status r.value some part))

-- a key and a value
pair_back : (b more : List ℕ) (r : KvpReply) → Says (answer_at 3 b r) b r.status → operation_of b ≡ 3 → 2608 ≤ length b → IsPart (r.status == 0) 1 255 r.key → IsPart (r.status == 0) 0 1023 r.value → told_reply (answer_at 3 b r ++ more) ≡ Some r
pair_back b more r says is long key value =
    by_test (r.status == 0)
    (λ t.
    let zero : r.status ≡ 0 = grind (arith, nat_tests, t) in
    let k = part_there 1 255 r.status r.key zero key in
    let v = part_there 0 1023 r.status r.value zero value in
    let a0 = with_result r.status b in
    let len0 : length a0 ≡ length b = length-result r.status b (omega arith) in
    let a1 = with_text 2048 (value_place 3) v.us a0 in
    let v_room : 560 + 2048 ≤ length a0 = omega (arith, len0) in
    let v_fits : text_size (length v.us) ≤ 2048 = omega (arith, v.text.most) in
    let len1 : length a1 ≡ length b = length-with_text 2048 (value_place 3) v.us a0 (omega arith) v_room v_fits ∙ len0 in
    let k_room : 48 + 512 ≤ length a1 = omega (arith, len1) in
    let k_fits : text_size (length k.us) ≤ 512 = omega (arith, k.text.most) in
    let a2 = with_text 512 (key_place 3) k.us a1 in
    let len2 : length a2 ≡ length b = length-with_text 512 (key_place 3) k.us a1 (omega arith) k_room k_fits ∙ len1 in
    let whole : answer_at 3 b r ≡ a2 = ap (λ o. with_part 512 (key_place 3) o (with_part 2048 (value_place 3) r.value a0)) k.is ∙ ap (λ o. with_text 512 (key_place 3) k.us (with_part 2048 (value_place 3) o a0)) v.is in
    let held_key = text_put 512 (key_place 3) k.us a1 (omega arith) k_room k_fits 1 255 more k.text (omega arith) in
    let held_first = text_put 2048 (value_place 3) v.us a0 (omega arith) v_room v_fits 0 1023 more v.text (omega arith) in
    let size : number_at 44 4 (a2 ++ more) ≡ number_at 44 4 (a1 ++ more) =
    number_in_front 44 4 a2 more (omega (arith, len2)) ∙ (number_kept 512 (key_place 3) k.us a1 (omega arith) k_room k_fits 44 4 (omega arith) (inr (omega arith)) ∙ sym (number_in_front 44 4 a1 more (omega (arith, len1)))) in
    let here : drop 560 (a2 ++ more) ≡ drop 560 (a1 ++ more) =
    drop-append-le 560 a2 more (omega (arith, len2)) ∙ (ap (λ l. l ++ more) (behind_kept 512 (key_place 3) k.us a1 (omega arith) k_room k_fits) ∙ sym (drop-append-le 560 a1 more (omega (arith, len1)))) in
    let held_value = text_moved 0 1023 (value_place 3) v.us (a2 ++ more) (a1 ++ more) size here held_first in
    let key_x : text_in 1 255 (key_place 3) (answer_at 3 b r ++ more) ≡ Some k.us = ap (λ y. text_in 1 255 (key_place 3) (y ++ more)) whole ∙ text_found 1 255 (key_place 3) k.us (a2 ++ more) held_key in
    let value_x : text_in 0 1023 (value_place 3) (answer_at 3 b r ++ more) ≡ Some v.us = ap (λ y. text_in 0 1023 (value_place 3) (y ++ more)) whole ∙ text_found 0 1023 (value_place 3) v.us (a2 ++ more) held_value in
    good_back 3 b more r says (omega arith) is (omega arith) long zero
    ∙ (ap (λ o. pair_told o (text_in 0 1023 (value_place 3) (answer_at 3 b r ++ more))) key_x ∙ (ap (pair_told (Some k.us)) value_x ∙ rebuilt r 0 (Some k.us) (Some v.us) zero k.is v.is)))
    (λ f.
    let some : r.status ≢ 0 = grind (arith, nat_tests, f) in
    refused_back 3 b more r says (omega arith) some ∙ rebuilt r r.status None None refl (part_missing 1 255 r.status r.key some key) (part_missing 0 1023 r.status r.value some value))

-- an answer is read back, whatever follows
pub answer_back : (m : Kvp) (b more : List ℕ) (r : KvpReply) → 28 ≤ length b → r.status < 2 ^ 32 → Fits (operation_of b) b r → Asks m b → IsReplyTo m r → told_reply (kvp_answer b r ++ more) ≡ Some r
answer_back (Get pool key) b more r long small fits asks reply =
    let is = asks.0.is_operation in
    let says = answer_says 0 b r long small (subst (λ o. Fits o b r) is fits) in
    ap (λ o. told_reply (answer_at o b r ++ more)) is ∙ value_back b more r says is asks.0.long reply.0 reply.1
answer_back (Set pool key value) b more r long small fits asks reply =
    let is = asks.0.is_operation in
    let says = answer_says 1 b r long small (subst (λ o. Fits o b r) is fits) in
    ap (λ o. told_reply (answer_at o b r ++ more)) is ∙ bare_back 1 b more r says is (omega (arith, asks.0.long)) asks.0.long reply.0 reply.1 (λ y. refl)
answer_back (Delete pool key) b more r long small fits asks reply =
    let is = asks.0.is_operation in
    let says = answer_says 2 b r long small (subst (λ o. Fits o b r) is fits) in
    ap (λ o. told_reply (answer_at o b r ++ more)) is ∙ bare_back 2 b more r says is (omega (arith, asks.0.long)) asks.0.long reply.0 reply.1 (λ y. refl)
answer_back (Enum pool index) b more r long small fits asks reply =
    let is = asks.0.is_operation in
    let says = answer_says 3 b r long small (subst (λ o. Fits o b r) is fits) in
    ap (λ o. told_reply (answer_at o b r ++ more)) is ∙ pair_back b more r says is asks.0.long reply.0 reply.1
