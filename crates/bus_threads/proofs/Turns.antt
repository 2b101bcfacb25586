-- No request goes under an id under which one is open, and no message of the end that serves.
use Rattle.std.proofs.Common.{◌≡◌, ◌≤◌, ◌+◌, ℕ, zero, suc, Bool, true, false, cond, List, [], ◌∷◌, ◌++◌, length, length-append, drop, Some, None, refl, sym, ap, ◌∙◌, subst, arith}
use Rattle.std.specs.Prelude.{◌==◌, ◌&&◌, ◌||◌, if◌then◌else◌, not, count_by}
use Rattle.std.specs.List.{AllByRecursion}
use Rattle.std.proofs.lemmas.Bool.Decides.{nat_tests}
use Rattle.std.proofs.lemmas.List.Sums.{sum_by-append}
use Rattle.page_kept.specs.declared.item.Item.{Item}
use Rattle.channel_trace.specs.declared.event.Event.{Event}
use Rattle.channel_trace.specs.declared.event.Event.TheVariants.{Sent, Got, Empty, Marked, Saw}
use Rattle.channel_trace.specs.Runs.{sent_of}
use Rattle.script_lines.specs.declared.line.Ask.{Ask}
use Rattle.bus_script.specs.declared.outcome.Reply.{Reply}
use Rattle.device_kinds.specs.Kinds.{DeviceWant as Want}
use Rattle.channel_model.specs.WireFormat.{WireFormat}
use Rattle.channel_model.specs.Asker.{Encoded, open_of, opened, requests_of, under, without}
use Rattle.channel_model.specs.Acks.{OwnFrom, is_in, own_open, removed}
use Rattle.channel_model.proofs.Acking.{in_more}
use Rattle.channel_model.proofs.Opens.{by_test, filter_no, filter_yes}
use Rattle.worker_requester.specs.Asking.{AskedFrom, GoesFree}
use Rattle.worker_requester.proofs.AskSteps.{encoded_few}
use Rattle.bus_threads.specs.Pairs.{HasIds, HasOwnIds}
use Rattle.bus_model.specs.Channel.{GoesInTurn, acks_under, answers_under, asks_under, is_open, messages_under}

some_ask : {A : Type 0} (n : ℕ) (asks : List A) → n + 1 ≤ length asks → (a : A) × (rest : List A) × (drop n asks ≡ a ∷ rest)
some_ask n [] le = absurd (omega (arith, le))
some_ask zero (a ∷ asks) le = (a, asks, refl)
some_ask (suc n) (a ∷ asks) le = some_ask n asks (omega (arith, le))

all_last : (P : Item → Type 0) (xs : List Item) (x : Item) → AllByRecursion P xs → P x → AllByRecursion P (xs ++ x ∷ [])
all_last P [] x all last = (last, tt)
all_last P (y ∷ xs) x all last = (all.0, all_last P xs x all.1 last)

abbrev num : Bool → ℕ
num b = cond b 1 0

few : (b : Bool) → num b ≤ 1
few true = omega arith
few false = omega arith

first_of : (a b : Bool) → (a && b) ≡ true → a ≡ true
first_of true b h = refl
first_of false b h = cc

rest_of : (a b : Bool) → (a && b) ≡ true → b ≡ true
rest_of true b h = h
rest_of false b h = cc

module _ (s : WireFormat Item Want Ask Reply) (t : ℕ) where
  -- a request is open under the id
  abbrev is_at : ℕ × Want → Bool
  is_at o = o.0 == t

  -- how many are
  abbrev at : List (ℕ × Want) → ℕ
  at os = count_by is_at os

  at_append : (xs ys : List (ℕ × Want)) → at (xs ++ ys) ≡ at xs + at ys
  at_append xs ys = sum_by-append (λ o. num (is_at o)) xs ys

  at_one : (o : ℕ × Want) (b : Bool) → (o.0 == t) ≡ b → at (o ∷ []) ≡ num b
  at_one o b e = ap (λ c. 0 + num c) e ∙ omega arith

  none_at : (os : List (ℕ × Want)) → under s t os ≡ None → at os ≡ 0
  none_at [] e = refl
  none_at (o ∷ os) e =
      by_test (o.0 == t)
      (λ is. absurd (let bad : under s t (o ∷ os) ≡ Some o = ap (λ b. cond b (Some o) (under s t os)) is in cc))
      (λ other.
      let rest : under s t os ≡ None = sym (ap (λ b. cond b (Some o) (under s t os)) other) ∙ e in
      omega (arith, at_append (o ∷ []) os, at_one o false other, none_at os rest))

  -- an answer under another id closes none of these
  kept_at : (id : ℕ) (os : List (ℕ × Want)) → (id == t) ≡ false → at os ≡ at (without s id os)
  kept_at id [] other = refl
  kept_at id (o ∷ os) other =
      by_test (o.0 == id)
      (λ e.
      let apart : (o.0 == t) ≡ false = grind (arith, nat_tests, e, other) in
      let out : without s id (o ∷ os) ≡ os = ap (λ b. cond b os (o ∷ without s id os)) e in
      omega (arith, at_append (o ∷ []) os, at_one o false apart, ap at out))
      (λ e.
      let out : without s id (o ∷ os) ≡ o ∷ without s id os = ap (λ b. cond b os (o ∷ without s id os)) e in
      omega (arith, kept_at id os other, at_append (o ∷ []) os, at_append (o ∷ []) (without s id os), ap at out))

  opened_one : (p : Item) (asks rest : List Want) (a : Want) → asks ≡ a ∷ rest → s.waits p ≡ true → opened s p asks ≡ (s.id_of p, a) ∷ []
  opened_one p asks rest a is waits = ap (opened s p) is ∙ ap (λ b. cond b ((s.id_of p, a) ∷ []) []) waits

  -- one is open by the packets
  abbrev is_open_under : List (Event Item) → Bool
  is_open_under past = is_open (asks_under s t) (answers_under s t) past

  -- what is open under the id by the packets stands among the open requests
  abbrev Stands : List Want → List (Event Item) → Type 0
  Stands asks past = num (is_open_under past) ≤ at (open_of s asks past)

  stands : (asks : List Want) (past : List (Event Item)) → length (requests_of s past) ≤ length asks → Stands asks past
  stands asks [] enough = omega arith
  stands asks (Empty ∷ past) enough = stands asks past enough
  stands asks (Marked ∷ past) enough = stands asks past enough
  stands asks (Saw ∷ past) enough = stands asks past enough
  stands asks (Got p ∷ past) enough =
      let os = open_of s asks past in
      let h = stands asks past enough in
      by_test (s.is_answer p)
      (λ answer.
      let opens : open_of s asks (Got p ∷ past) ≡ without s (s.id_of p) os = ap (λ b. cond b (without s (s.id_of p) os) os) answer in
      by_test (s.id_of p == t)
      (λ is.
      let here : answers_under s t p ≡ true = ap (λ b. b && (s.id_of p == t)) answer ∙ is in
      let now : is_open_under (Got p ∷ past) ≡ false = ap (λ b. not b && is_open_under past) here in
      omega (arith, ap num now))
      (λ other_id.
      let away : answers_under s t p ≡ false = ap (λ b. b && (s.id_of p == t)) answer ∙ other_id in
      let now : is_open_under (Got p ∷ past) ≡ is_open_under past = ap (λ b. not b && is_open_under past) away in
      omega (arith, h, kept_at (s.id_of p) os other_id, ap at opens, ap num now)))
      (λ other.
      let opens : open_of s asks (Got p ∷ past) ≡ os = ap (λ b. cond b (without s (s.id_of p) os) os) other in
      let away : answers_under s t p ≡ false = ap (λ b. b && (s.id_of p == t)) other in
      let now : is_open_under (Got p ∷ past) ≡ is_open_under past = ap (λ b. not b && is_open_under past) away in
      omega (arith, h, ap at opens, ap num now))
  stands asks (Sent p ∷ past) enough =
      let os = open_of s asks past in
      let new = opened s p (drop (length (requests_of s past)) asks) in
      by_test (s.is_request p)
      (λ request.
      let requests : requests_of s (Sent p ∷ past) ≡ requests_of s past ++ p ∷ [] = filter_yes s.is_request (sent_of past) p request in
      let count : length (requests_of s (Sent p ∷ past)) ≡ length (requests_of s past) + 1 = ap length requests ∙ omega (arith, length-append (requests_of s past) (p ∷ [])) in
      let h = stands asks past (omega (arith, enough, count)) in
      let opens : open_of s asks (Sent p ∷ past) ≡ os ++ new = ap (λ b. cond b (os ++ new) os) request in
      by_test (asks_under s t p)
      (λ here.
      let ask = some_ask (length (requests_of s past)) asks (omega (arith, enough, count)) in
      let both : (s.waits p && (s.id_of p == t)) ≡ true = rest_of (s.is_request p) (s.waits p && (s.id_of p == t)) here in
      let waits : s.waits p ≡ true = first_of (s.waits p) (s.id_of p == t) both in
      let is : (s.id_of p == t) ≡ true = rest_of (s.waits p) (s.id_of p == t) both in
      let one = opened_one p (drop (length (requests_of s past)) asks) ask.1 ask.0 ask.2 waits in
      omega (arith, few (is_open_under (Sent p ∷ past)), ap at opens, at_append os new, ap at one, at_one (s.id_of p, ask.0) true is))
      (λ away.
      let now : is_open_under (Sent p ∷ past) ≡ is_open_under past = ap (λ b. b || is_open_under past) away in
      omega (arith, h, ap at opens, at_append os new, ap num now)))
      (λ other.
      let requests : requests_of s (Sent p ∷ past) ≡ requests_of s past = filter_no s.is_request (sent_of past) p other in
      let h = stands asks past (omega (arith, enough, ap length requests)) in
      let opens : open_of s asks (Sent p ∷ past) ≡ os = ap (λ b. cond b (os ++ new) os) other in
      let away : asks_under s t p ≡ false = ap (λ b. b && (s.waits p && (s.id_of p == t))) other in
      let now : is_open_under (Sent p ∷ past) ≡ is_open_under past = ap (λ b. b || is_open_under past) away in
      omega (arith, h, ap at opens, ap num now))

  -- where none is open among the requests, none is by the packets
  closed : (asks : List Want) (past : List (Event Item)) → length (requests_of s past) ≤ length asks → at (open_of s asks past) ≡ 0 → is_open_under past ≡ false
  closed asks past enough none =
      by_test (is_open_under past)
      (λ held. absurd (omega (arith, stands asks past enough, none, ap num held)))
      (λ is. is)

module _ (s : WireFormat Item Want Ask Reply) (most : ℕ) (asks : List Want) where
  asked_until : (later before : List (Event Item)) → AskedFrom s most asks (later ++ before) → AskedFrom s most asks before
  asked_until [] before from = from
  asked_until (Sent p ∷ later) before from = asked_until later before from.1
  asked_until (Got p ∷ later) before from = asked_until later before from
  asked_until (Empty ∷ later) before from = asked_until later before from
  asked_until (Marked ∷ later) before from = asked_until later before from
  asked_until (Saw ∷ later) before from = asked_until later before from

  -- each packet that awaits an answer has an id of the table
  pub has_ids : (past : List (Event Item)) → AskedFrom s most asks past → HasIds s most (sent_of past)
  has_ids [] from = tt
  has_ids (Sent p ∷ past) from = all_last (λ i. s.waits i ≡ true → (1 ≤ s.id_of i) × (s.id_of i ≤ most)) (sent_of past) p (has_ids past from.1) (λ waits. ((from.0 waits).least, (from.0 waits).within))
  has_ids (Got p ∷ past) from = has_ids past from
  has_ids (Empty ∷ past) from = has_ids past from
  has_ids (Marked ∷ past) from = has_ids past from
  has_ids (Saw ∷ past) from = has_ids past from

  -- a past before has no more requests
  fewer_before : (later before : List (Event Item)) → length (requests_of s before) ≤ length (requests_of s (later ++ before))
  fewer_before [] before = omega arith
  fewer_before (Got p ∷ later) before = fewer_before later before
  fewer_before (Empty ∷ later) before = fewer_before later before
  fewer_before (Marked ∷ later) before = fewer_before later before
  fewer_before (Saw ∷ later) before = fewer_before later before
  fewer_before (Sent p ∷ later) before =
      let past = later ++ before in
      by_test (s.is_request p)
      (λ request. omega (arith, fewer_before later before, ap length (filter_yes s.is_request (sent_of past) p request), length-append (requests_of s past) (p ∷ [])))
      (λ other. omega (arith, fewer_before later before, ap length (filter_no s.is_request (sent_of past) p other)))

  pub in_turn : (past : List (Event Item)) → Encoded s asks (requests_of s past) → AskedFrom s most asks past → GoesInTurn (asks_under s) (answers_under s) past
  in_turn past encoded from t later before p is here =
      let until : AskedFrom s most asks (Sent p ∷ before) = asked_until later (Sent p ∷ before) (subst (AskedFrom s most asks) is from) in
      let both : (s.waits p && (s.id_of p == t)) ≡ true = rest_of (s.is_request p) (s.waits p && (s.id_of p == t)) here in
      let same : s.id_of p ≡ t = grind (arith, nat_tests, rest_of (s.waits p) (s.id_of p == t) both) in
      let free : GoesFree s most asks p before = until.0 (first_of (s.waits p) (s.id_of p == t) both) in
      let none : at s t (open_of s asks before) ≡ 0 = none_at s t (open_of s asks before) (ap (λ n. under s n (open_of s asks before)) (sym same) ∙ free.none) in
      let enough = encoded_few s asks (requests_of s past) encoded in
      closed s t asks before (omega (arith, enough, ap (λ (l : List (Event Item)). length (requests_of s l)) is, fewer_before later (Sent p ∷ before), fewer_before (Sent p ∷ []) before)) none

-- an acknowledgement under another id closes none of these
kept_in : (os : List ℕ) (id t : ℕ) → (id == t) ≡ false → is_in t os ≡ true → is_in t (removed id os) ≡ true
kept_in [] id t other here = here
kept_in (o ∷ os) id t other here =
    by_test (o == id)
    (λ e.
    let apart : (o == t) ≡ false = grind (arith, nat_tests, e, other) in
    let out : removed id (o ∷ os) ≡ os = ap (λ b. cond b os (o ∷ removed id os)) e in
    ap (is_in t) out ∙ (sym (ap (λ b. b || is_in t os) apart) ∙ here))
    (λ e.
    let out : removed id (o ∷ os) ≡ o ∷ removed id os = ap (λ b. cond b os (o ∷ removed id os)) e in
    by_test (o == t)
    (λ is. ap (is_in t) out ∙ ap (λ b. b || is_in t (removed id os)) is)
    (λ no. ap (is_in t) out ∙ (ap (λ b. b || is_in t (removed id os)) no ∙ kept_in os id t other (sym (ap (λ b. b || is_in t os) no) ∙ here))))

module _ (s : WireFormat Item Want Ask Reply) (t : ℕ) where
  abbrev is_message_open : List (Event Item) → Bool
  is_message_open past = is_open (messages_under s t) (acks_under s t) past

  -- what is open under the id by the packets stands among the open messages
  own_stands : (past : List (Event Item)) → is_message_open past ≡ true → is_in t (own_open s past) ≡ true
  own_stands [] held = held
  own_stands (Empty ∷ past) held = own_stands past held
  own_stands (Marked ∷ past) held = own_stands past held
  own_stands (Saw ∷ past) held = own_stands past held
  own_stands (Sent p ∷ past) held =
      let os = own_open s past in
      let id = s.id_of p in
      by_test (s.is_message p)
      (λ message.
      let opens : own_open s (Sent p ∷ past) ≡ os ++ id ∷ [] = ap (λ b. cond b (os ++ id ∷ []) os) message in
      let among : is_in t (own_open s (Sent p ∷ past)) ≡ (if t == id then true else is_in t os) = ap (is_in t) opens ∙ in_more os id t in
      by_test (id == t)
      (λ is. let same : (t == id) ≡ true = grind (arith, nat_tests, is) in among ∙ ap (λ b. if b then true else is_in t os) same)
      (λ other.
      let away : messages_under s t p ≡ false = ap (λ b. b && (id == t)) message ∙ other in
      let apart : (t == id) ≡ false = grind (arith, nat_tests, other) in
      among ∙ (ap (λ b. if b then true else is_in t os) apart ∙ own_stands past (sym (ap (λ b. b || is_message_open past) away) ∙ held))))
      (λ no.
      let opens : own_open s (Sent p ∷ past) ≡ os = ap (λ b. cond b (os ++ id ∷ []) os) no in
      let away : messages_under s t p ≡ false = ap (λ b. b && (id == t)) no in
      ap (is_in t) opens ∙ own_stands past (sym (ap (λ b. b || is_message_open past) away) ∙ held))
  own_stands (Got p ∷ past) held =
      let os = own_open s past in
      let id = s.id_of p in
      by_test (s.is_ack p)
      (λ ack.
      let opens : own_open s (Got p ∷ past) ≡ removed id os = ap (λ b. cond b (removed id os) os) ack in
      by_test (id == t)
      (λ is.
      let here : acks_under s t p ≡ true = ap (λ b. b && (id == t)) ack ∙ is in
      absurd (let bad : true ≡ false = sym held ∙ ap (λ b. not b && is_message_open past) here in cc))
      (λ other.
      let away : acks_under s t p ≡ false = ap (λ b. b && (id == t)) ack ∙ other in
      ap (is_in t) opens ∙ kept_in os id t other (own_stands past (sym (ap (λ b. not b && is_message_open past) away) ∙ held))))
      (λ no.
      let opens : own_open s (Got p ∷ past) ≡ os = ap (λ b. cond b (removed id os) os) no in
      let away : acks_under s t p ≡ false = ap (λ b. b && (id == t)) no in
      ap (is_in t) opens ∙ own_stands past (sym (ap (λ b. not b && is_message_open past) away) ∙ held))

module _ (s : WireFormat Item Want Ask Reply) (most : ℕ) where
  own_until : (later before : List (Event Item)) → OwnFrom s most (later ++ before) → OwnFrom s most before
  own_until [] before from = from
  own_until (Sent p ∷ later) before from = own_until later before from.1
  own_until (Got p ∷ later) before from = own_until later before from
  own_until (Empty ∷ later) before from = own_until later before from
  own_until (Marked ∷ later) before from = own_until later before from
  own_until (Saw ∷ later) before from = own_until later before from

  -- each message has an id of the end's own
  pub has_own_ids : (past : List (Event Item)) → OwnFrom s most past → HasOwnIds s most (sent_of past)
  has_own_ids [] from = tt
  has_own_ids (Sent p ∷ past) from = all_last (λ i. s.is_message i ≡ true → (1 ≤ s.id_of i) × (s.id_of i ≤ most)) (sent_of past) p (has_own_ids past from.1) (λ message. ((from.0 message).0, (from.0 message).1))
  has_own_ids (Got p ∷ past) from = has_own_ids past from
  has_own_ids (Empty ∷ past) from = has_own_ids past from
  has_own_ids (Marked ∷ past) from = has_own_ids past from
  has_own_ids (Saw ∷ past) from = has_own_ids past from

  pub own_in_turn : (past : List (Event Item)) → OwnFrom s most past → GoesInTurn (messages_under s) (acks_under s) past
  own_in_turn past from t later before p is here =
      let until : OwnFrom s most (Sent p ∷ before) = own_until later (Sent p ∷ before) (subst (OwnFrom s most) is from) in
      let same : s.id_of p ≡ t = grind (arith, nat_tests, rest_of (s.is_message p) (s.id_of p == t) here) in
      let free : is_in t (own_open s before) ≡ false = ap (λ n. is_in n (own_open s before)) (sym same) ∙ (until.0 (first_of (s.is_message p) (s.id_of p == t) here)).2 in
      by_test (is_message_open s t before)
      (λ held. absurd (let bad : true ≡ false = sym (own_stands s t before held) ∙ free in cc))
      (λ none. none)
