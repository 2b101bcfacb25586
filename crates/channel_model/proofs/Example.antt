-- A kind of device that keeps to the laws, as a network does: a request of the start-up without an answer, one whose fixed answer has a message besides, and
-- requests of the device with and without a message. Two runs of it: one that settles all, and one that is stopped with the last answer held.
use Rattle.std.proofs.Common.{◌≡◌, ℕ, zero, suc, List, [], ◌∷◌, length, Bool, true, false, refl, ap, ◌∙◌, arith, Option, Some, None}
use Rattle.std.proofs.Common.{inl, inr}
use Rattle.channel_trace.specs.declared.event.Event.TheVariants.{Sent, Got, Empty, Marked, Saw}
use Rattle.channel_trace.specs.Runs.{Turn, Guest, Host, sent_of, got_of, guest_of, host_of, IsRun}
use Rattle.channel_model.specs.Channel.{RequestPlan, AskerEnds, ServerEnds, IsProtocolRun}
use Rattle.channel_model.specs.Outcome.{Done as LineDone, RescindedServed, lines_of}
use Rattle.channel_model.proofs.Joined.{joined}
use Rattle.hist_lock.specs.Seat.{Call}
use Rattle.channel_model.specs.WireFormat.{WireFormat, Keeps, Back, IsBack, under_own}

pub data Kind : Type 0 where
  Version : Kind
  Begin : Kind
  Read : ℕ → Kind
  Message : ℕ → Kind
  Done : Kind
  Taken : Kind

pub record Packet : Type 0 where
  pub id : ℕ
  pub kind : Kind

pub data Ask : Type 0 where
  AsksVersion : Ask
  AsksBegin : Ask
  AsksRead : ℕ → Ask

abbrev at : ℕ → Kind → Packet
at id k = record { id = id; kind = k }

abbrev asks : Kind → Bool
asks Version = true
asks Begin = true
asks (Read n) = true
asks (Message n) = false
asks Done = false
asks Taken = false

abbrev waits : Kind → Bool
waits Version = false
waits Begin = true
waits (Read n) = true
waits (Message n) = false
waits Done = false
waits Taken = false

abbrev is_done : Kind → Bool
is_done Version = false
is_done Begin = false
is_done (Read n) = false
is_done (Message n) = false
is_done Done = true
is_done Taken = false

abbrev is_message : Kind → Bool
is_message Version = false
is_message Begin = false
is_message (Read n) = false
is_message (Message n) = true
is_message Done = false
is_message Taken = false

abbrev is_taken : Kind → Bool
is_taken Version = false
is_taken Begin = false
is_taken (Read n) = false
is_taken (Message n) = false
is_taken Done = false
is_taken Taken = true

abbrev reads : Kind → Option ℕ
reads Version = None
reads Begin = None
reads (Read n) = Some n
reads (Message n) = None
reads Done = None
reads Taken = None

-- the start-up's first request has no id of its own
abbrev encoded : ℕ → Ask → Packet
encoded id AsksVersion = at 0 Version
encoded id AsksBegin = at id Begin
encoded id (AsksRead n) = at id (Read n)

abbrev has_answer : Ask → Bool
has_answer AsksVersion = false
has_answer AsksBegin = true
has_answer (AsksRead n) = true

abbrev message_of : ℕ → ℕ → Packet
message_of n own = at own (Message n)

abbrev fixed : ℕ → Kind → Option (Back Packet)
fixed id Version = None
fixed id Begin = Some (record { message = Some (message_of 0); answer = at id Done })
fixed id (Read n) = None
fixed id (Message n) = None
fixed id Done = None
fixed id Taken = None

-- the reply is what comes back, if something does
abbrev messages : Option ℕ → Option (ℕ → Packet)
messages None = None
messages (Some n) = Some (message_of n)

abbrev value_in : Kind → Option ℕ
value_in Version = None
value_in Begin = None
value_in (Read n) = None
value_in (Message n) = Some n
value_in Done = None
value_in Taken = None

abbrev value_of : Option Packet → Option ℕ
value_of None = None
value_of (Some p) = value_in p.kind

abbrev result : Ask → Option Packet → Packet → Option (Option ℕ)
result AsksVersion before p = None
result AsksBegin before p = None
result (AsksRead n) before p = Some (value_of before)

abbrev pub format : WireFormat Packet Ask ℕ (Option ℕ)
format = record {
  id_of = λ p. p.id;
  is_request = λ p. asks p.kind;
  waits = λ p. waits p.kind;
  is_ack = λ p. is_taken p.kind;
  is_answer = λ p. is_done p.kind;
  is_message = λ p. is_message p.kind;
  ack = λ p. at p.id Taken;
  encode = encoded;
  has_answer = has_answer;
  read = λ p. reads p.kind;
  fixed = λ p. fixed p.id p.kind;
  fits = λ q r. true;
  gives = λ p r. record { message = messages r; answer = at p.id Done };
  result = result;
}

gives_back : (id : ℕ) (r : Option ℕ) → IsBack format id (record { message = messages r; answer = at id Done })
gives_back id None = record { besides = tt; one = refl; other = refl; same = refl }
gives_back id (Some n) = record { besides = λ own. record { message = refl; other = refl; same = λ e. refl }; one = refl; other = refl; same = refl }

fixes : (id : ℕ) (k : Kind) → waits k ≡ true → reads k ≡ None → (b : Back Packet) × (fixed id k ≡ Some b) × IsBack format id b
fixes id Version e f = absurd (cc)
fixes id Begin e f = (record { message = Some (message_of 0); answer = at id Done }, refl, gives_back id (Some 0))
fixes id (Read n) e f = absurd (cc)
fixes id (Message n) e f = absurd (cc)
fixes id Done e f = absurd (cc)
fixes id Taken e f = absurd (cc)

unread : (k : Kind) → waits k ≡ false → reads k ≡ None
unread Version e = refl
unread Begin e = refl
unread (Read n) e = absurd (cc)
unread (Message n) e = refl
unread Done e = refl
unread Taken e = refl

silent : (id : ℕ) (k : Kind) → waits k ≡ false → fixed id k ≡ None
silent id Version e = refl
silent id Begin e = absurd (cc)
silent id (Read n) e = refl
silent id (Message n) e = refl
silent id Done e = refl
silent id Taken e = refl

wait_asks : (k : Kind) → asks k ≡ false → waits k ≡ false
wait_asks Version e = refl
wait_asks Begin e = absurd (cc)
wait_asks (Read n) e = absurd (cc)
wait_asks (Message n) e = refl
wait_asks Done e = refl
wait_asks Taken e = refl

encodes : (id : ℕ) (a : Ask) → asks (encoded id a).kind ≡ true
encodes id AsksVersion = refl
encodes id AsksBegin = refl
encodes id (AsksRead n) = refl

waits_ask : (id : ℕ) (a : Ask) → waits (encoded id a).kind ≡ has_answer a
waits_ask id AsksVersion = refl
waits_ask id AsksBegin = refl
waits_ask id (AsksRead n) = refl

id_kept : (id : ℕ) (a : Ask) → has_answer a ≡ true → (encoded id a).id ≡ id
id_kept id AsksVersion e = absurd (cc)
id_kept id AsksBegin e = refl
id_kept id (AsksRead n) e = refl

id_own : (id : ℕ) (a : Ask) → has_answer a ≡ false → encoded (encoded id a).id a ≡ encoded id a
id_own id AsksVersion e = refl
id_own id AsksBegin e = absurd (cc)
id_own id (AsksRead n) e = absurd (cc)

reads_back : (id : ℕ) (a : Ask) (q : ℕ) (r : Option ℕ) (own : ℕ) → reads (encoded id a).kind ≡ Some q → result a (under_own own (messages r)) (at (encoded id a).id Done) ≡ Some r
reads_back id AsksVersion q r own e = absurd (cc)
reads_back id AsksBegin q r own e = absurd (cc)
reads_back id (AsksRead n) q None own e = refl
reads_back id (AsksRead n) q (Some m) own e = refl

no_result : (id : ℕ) (a : Ask) (before : Option Packet) (p : Packet) → reads (encoded id a).kind ≡ None → result a before p ≡ None
no_result id AsksVersion before p e = refl
no_result id AsksBegin before p e = refl
no_result id (AsksRead n) before p e = absurd (cc)

taken_asks : (k : Kind) → is_taken k ≡ true → asks k ≡ false
taken_asks Version e = absurd (cc)
taken_asks Begin e = absurd (cc)
taken_asks (Read n) e = absurd (cc)
taken_asks (Message n) e = absurd (cc)
taken_asks Done e = absurd (cc)
taken_asks Taken e = refl

pub keeps : Keeps format
keeps = record {
  given = λ p r e. gives_back p.id r;
  fixes = λ p e f. fixes p.id p.kind e f;
  unread = λ p e. unread p.kind e;
  silent = λ p e. silent p.id p.kind e;
  asks = λ p e. wait_asks p.kind e;
  encodes = encodes;
  waits_ask = waits_ask;
  id_kept = λ id a fits e. id_kept id a e;
  id_own = id_own;
  reads = λ id a q r e fits own. reads_back id a q r own e;
  no_result = no_result;
  acks = λ p e. (refl, refl);
  ack_asks = λ p e. taken_asks p.kind e;
}

-- A run that settles all. The start-up's second request gets a message and its answer, and so does the request of the device; both messages are acknowledged
abbrev plan : RequestPlan Ask
plan = record { start = AsksVersion ∷ AsksBegin ∷ []; script = AsksRead 5 ∷ []; stop = None }

abbrev calls : List (Call ℕ (Option ℕ))
calls = record { serial = 0; request = 5; reply = Some 7 } ∷ []

abbrev run : List (Turn Packet)
run =
    Host Marked ∷ Host Empty ∷ Host Saw ∷ Host (Got (at 1 Taken)) ∷ Guest Marked ∷ Guest (Got (at 1 Done)) ∷ Guest (Sent (at 1 Taken)) ∷ Guest (Got (at 1 (Message 7))) ∷ Host (Sent (at 1 Done))
    ∷ Host (Sent (at 1 (Message 7))) ∷ Host (Got (at 1 (Read 5))) ∷ Host (Got (at 1 Taken)) ∷ Guest (Sent (at 1 (Read 5))) ∷ Guest (Sent (at 1 Taken)) ∷ Guest (Got (at 1 Done))
    ∷ Guest (Got (at 1 (Message 0))) ∷ Host (Sent (at 1 Done)) ∷ Host (Sent (at 1 (Message 0))) ∷ Host (Got (at 1 Begin)) ∷ Host (Got (at 0 Version)) ∷ Guest (Sent (at 1 Begin))
    ∷ Guest (Sent (at 0 Version)) ∷ []

is_run : IsRun run
is_run = (refl, ((refl, refl), ((refl, refl), ((refl, ([], refl)), (refl, ((refl, ([], refl)), (refl, ((refl, (at 1 Done ∷ [], refl)), (refl, (refl, ((refl, ([], refl)), ((refl, (at 1 (Read 5) ∷ [], refl)), (refl, (refl, ((refl, ([], refl)), ((refl, (at 1 Done ∷ [], refl)), (refl, (refl, ((refl, ([], refl)), ((refl, (at 1 Begin ∷ [], refl)), (refl, (refl, tt))))))))))))))))))))))

asker_ends : AskerEnds format plan (guest_of run) (Some 7 ∷ [])
asker_ends = record { encoded = (refl, (refl, (refl, tt))); replies = refl; acks = ([], refl); end = inl (record { all = refl; none = refl; acked = refl }) }

server_ends : ServerEnds format plan (host_of run) calls
server_ends = record {
  served = got_of (host_of run);
  first = ([], refl);
  missing = [];
  serves = (
    0,
    at 1 (Message 0) ∷ at 1 Done ∷ at 1 (Message 7) ∷ at 1 Done ∷ [],
    refl,
    (1, at 1 (Message 7) ∷ at 1 Done ∷ [], refl, (0, at 1 (Message 7) ∷ at 1 Done ∷ [], refl, (record { asked = refl; fits = refl }, (1, [], refl, (0, [], refl, (refl, refl)))))),
  );
  order = (([], refl), (([], refl), (([], refl), (([], refl), (([], refl), ((1 ∷ [], refl), ((1 ∷ [], refl), (([], refl), (([], refl), ((1 ∷ [], refl), ((1 ∷ [], refl), (([], refl), tt))))))))))));
  end = inr (refl, (refl, tt));
}

pub whole : IsProtocolRun format plan (sent_of (guest_of run)) (got_of (guest_of run)) (sent_of (host_of run)) (got_of (host_of run)) calls (Some 7 ∷ [])
whole = joined format keeps plan run (Some 7 ∷ []) calls (record { fixed = (λ id. refl, (λ id. refl, tt)); asks = (λ id. (5, refl), tt) }) is_run asker_ends server_ends

-- A run that is stopped after the second request of the device, whose answer is held: neither its message nor its answer goes back. The guest saw the mark before
-- it acknowledged the first one's message
abbrev held_plan : RequestPlan Ask
held_plan = record { start = AsksBegin ∷ []; script = AsksRead 5 ∷ AsksRead 6 ∷ []; stop = Some (2, true) }

abbrev held_calls : List (Call ℕ (Option ℕ))
held_calls = record { serial = 0; request = 5; reply = Some 7 } ∷ record { serial = 1; request = 6; reply = Some 8 } ∷ []

abbrev held_run : List (Turn Packet)
held_run =
    Guest Marked ∷ Guest Empty ∷ Guest (Got (at 1 Done)) ∷ Guest (Got (at 1 (Message 7))) ∷ Guest Saw ∷ Host Marked ∷ Host (Got (at 2 (Read 6))) ∷ Host (Sent (at 1 Done)) ∷ Host (Sent (at 1 (Message 7)))
    ∷ Host (Got (at 1 (Read 5))) ∷ Host (Got (at 1 Taken)) ∷ Guest (Sent (at 2 (Read 6))) ∷ Guest (Sent (at 1 (Read 5))) ∷ Guest (Got (at 1 Done)) ∷ Guest (Sent (at 1 Taken))
    ∷ Guest (Got (at 1 (Message 0))) ∷ Host (Sent (at 1 Done)) ∷ Host (Sent (at 1 (Message 0))) ∷ Host (Got (at 1 Begin)) ∷ Guest (Sent (at 1 Begin)) ∷ []

held_is_run : IsRun held_run
held_is_run = (refl, ((refl, refl), ((refl, ([], refl)), ((refl, (at 1 Done ∷ [], refl)), ((refl, refl), (refl, ((refl, ([], refl)), (refl, (refl, ((refl, (at 2 (Read 6) ∷ [], refl)), ((refl, (at 1 (Read 5) ∷ at 2 (Read 6) ∷ [], refl)), (refl, (refl, ((refl, ([], refl)), (refl, ((refl, (at 1 Done ∷ [], refl)), (refl, (refl, ((refl, ([], refl)), (refl, tt))))))))))))))))))))

held_asker_ends : AskerEnds format held_plan (guest_of held_run) (Some 7 ∷ [])
held_asker_ends = record { encoded = (refl, (refl, (refl, tt))); replies = refl; acks = (at 1 Taken ∷ [], refl); end = inr (refl, (refl, tt)) }

held_server_ends : ServerEnds format held_plan (host_of held_run) held_calls
held_server_ends = record {
  served = got_of (host_of held_run);
  first = ([], refl);
  missing = [];
  serves = (
    1,
    at 1 (Message 7) ∷ at 1 Done ∷ [],
    refl,
    (0, at 1 (Message 7) ∷ at 1 Done ∷ [], refl, (record { asked = refl; fits = refl }, (1, [], refl, (record { asked = refl; fits = refl }, (refl, refl))))),
  );
  order = ((2 ∷ [], refl), ((2 ∷ [], refl), (([], refl), ((1 ∷ [], refl), ((1 ∷ [], refl), (([], refl), (([], refl), ((1 ∷ [], refl), ((1 ∷ [], refl), tt)))))))));
  end = inl (record { after = (2, true); stop = refl; count = refl; started = omega arith }, refl, refl);
}

pub held_whole : IsProtocolRun format held_plan (sent_of (guest_of held_run)) (got_of (guest_of held_run)) (sent_of (host_of held_run)) (got_of (host_of held_run)) held_calls (Some 7 ∷ [])
held_whole = joined format keeps held_plan held_run (Some 7 ∷ []) held_calls (record { fixed = (λ id. refl, tt); asks = (λ id. (5, refl), (λ id. (6, refl), tt)) }) held_is_run held_asker_ends held_server_ends

-- the first line is done, and the second was served, and is settled by the stop
held_lines : lines_of {R = Option ℕ} 2 (0 ∷ 1 ∷ []) (Some 7 ∷ []) ≡ LineDone 0 (Some 7) ∷ RescindedServed 1 ∷ []
held_lines = refl

-- No run of the channel: a message isn't acknowledged though there is no stop, an answer goes back before its message, and a held answer's message goes back
no_ack_missing : IsProtocolRun format plan (at 0 Version ∷ at 1 Begin ∷ at 1 (Read 5) ∷ at 1 Taken ∷ []) (got_of (guest_of run)) (sent_of (host_of run)) (at 0 Version ∷ at 1 Begin ∷ at 1 (Read 5) ∷ at 1 Taken ∷ []) calls (Some 7 ∷ []) → ⊥
no_ack_missing h =
    let bad : at 1 Taken ∷ [] ≡ at 1 Taken ∷ at 1 Taken ∷ [] = h.all_acked refl in absurd (cc)

no_answer_first : (got : List Packet)
    → IsProtocolRun format plan (sent_of (guest_of run)) got (at 1 (Message 0) ∷ at 1 Done ∷ at 1 Done ∷ at 1 (Message 7) ∷ []) (at 0 Version ∷ at 1 Begin ∷ at 1 (Read 5) ∷ []) calls (Some 7 ∷ []) → ⊥
no_answer_first got h =
    let begin = h.served.3 in
    let read = begin.3.1 in
    let bad : Some Done ≡ Some (Message 7) = ap (λ l. kind_at 2 l) (h.served.2 ∙ (begin.2 ∙ ap (λ (l : List Packet). at begin.0 (Message 0) ∷ at 1 Done ∷ l) read.2)) in
    absurd (cc)
  where
    kind_at : ℕ → List Packet → Option Kind
    kind_at n [] = None
    kind_at zero (p ∷ ps) = Some p.kind
    kind_at (suc n) (p ∷ ps) = kind_at n ps

no_held_message : (got : List Packet)
    → IsProtocolRun format held_plan (sent_of (guest_of held_run)) got (at 1 (Message 0) ∷ at 1 Done ∷ at 1 (Message 7) ∷ at 1 Done ∷ at 1 (Message 8) ∷ []) (got_of (host_of held_run)) held_calls (Some 7 ∷ []) → ⊥
no_held_message got h =
    let taken = h.served.3 in
    let first = taken.3 in
    let second = first.1.3 in
    let last : first.1.1 ≡ [] = second.1.1 in
    let bad : 5 ≡ 4 = ap length (h.served.2 ∙ ap (λ (l : List Packet). at h.served.0 (Message 0) ∷ at 1 Done ∷ l) (taken.2 ∙ (first.1.2 ∙ ap (λ (l : List Packet). at first.1.0 (Message 7) ∷ at 1 Done ∷ l) last))) in
    absurd (cc)
