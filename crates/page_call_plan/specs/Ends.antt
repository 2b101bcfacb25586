-- What each call answers and leaves, by the numbers alone.
use Rattle.std.specs.Prelude.{ℕ, ◌-◌, ◌*◌, Bool, ◌&&◌, ◌||◌, ◌==◌, nat_lt, nat_le, not, cond, min, List, ◌++◌, length, replicate, Option, Some, None}
use Rattle.pkt_desc.specs.Packets.{kind_of, id_of}
use Rattle.page_kept.specs.Layouts.{Loan}
pub use Rattle.page_call_plan.specs.declared.end.PageEnd.{PageEnd}
pub use Rattle.page_call_plan.specs.declared.run.PageRun.{PageRun}
use Rattle.page_call_plan.specs.Answers.{no_call, took, planned, page_due, page_not_owned, page_outside, id_open, id_not_owed, no_ids, page_done}
use Rattle.page_call_plan.specs.Ids.{IdSlot, free, has_id, has_room, has_free, with_id, without_id}
use Rattle.page_call_plan.specs.Slots.{PageSlot, away, has, owner_of, slot_at, is_had, is_packet, named_in, store_room, part_took}

-- the slots are those of a channel with data pages
abbrev pub is_list : List PageSlot → Bool
is_list ss = not (length ss == 0) && nat_le (length ss) 128

-- 0 nothing is planned, 1 stores, 2 loads, 3 a send, 4 a take
abbrev pub is_at : PageEnd → ℕ → List PageSlot → Bool
is_at e n ss = (e.state == n) && is_list ss

abbrev pub is_ready : PageEnd → Bool
is_ready e = (e.state == 0) && (e.due_words == 0)

abbrev pub end_at : ℕ → PageEnd → PageEnd
end_at n e = record { state = n; due_page = e.due_page; due_words = e.due_words }

abbrev pub new_end : PageEnd
new_end = record { state = 0; due_page = 0; due_words = 0 }

-- the guest's pages, up to 64, and then the host's
abbrev pub new_slots : Bool → ℕ → List PageSlot
new_slots host n = replicate (min 64 n) (cond host away has) ++ replicate (n - min 64 n) (cond host has away)

abbrev pub no_requests : ℕ → List IdSlot
no_requests n = replicate n free

-- what was planned, in the state n, counts as done
abbrev pub done_says : ℕ → PageEnd → ℕ
done_says n e = cond (e.state == n) page_done no_call

abbrev pub drop_says : PageEnd → ℕ
drop_says e = cond ((e.state == 3) || (e.state == 4)) page_done no_call

-- A completion needs a request that was taken and isn't completed. Any other packet needs room for its id; one that names a page needs that the end has it, and that no request of
-- its id is open
abbrev pub answer_says : List IdSlot → ℕ → ℕ
answer_says owed t = cond (has_id t owed) planned id_not_owed

abbrev pub room_says : List IdSlot → ℕ → ℕ
room_says asks t = cond (has_room t asks) planned no_ids

abbrev pub ask_says : List PageSlot → List IdSlot → ℕ → Option Loan → ℕ
ask_says ss asks t None = room_says asks t
ask_says ss asks t (Some a) = cond (is_had (owner_of (slot_at ss a.page))) (cond (has_id t asks) id_open (room_says asks t)) page_not_owned

abbrev pub send_says : PageEnd → ℕ → List PageSlot → List IdSlot → List IdSlot → List ℕ → ℕ
send_says e n ss asks owed p =
    cond (is_at e n ss && is_packet p)
    (cond (e.due_words == 0) (cond (kind_of p == 11) (answer_says owed (id_of p)) (ask_says ss asks (id_of p) (named_in ss p))) page_due)
    no_call

abbrev pub sent_says : PageEnd → List PageSlot → List IdSlot → List IdSlot → List ℕ → ℕ
sent_says e ss asks owed p = cond (send_says e 3 ss asks owed p == planned) page_done (send_says e 3 ss asks owed p)

-- the end's own requests that are open, and the peer's that are owed after a send, and after a take
abbrev pub asks_sent : List IdSlot → List ℕ → List IdSlot
asks_sent asks p = cond (kind_of p == 11) asks (with_id (id_of p) asks)

abbrev pub owed_sent : List IdSlot → List ℕ → List IdSlot
owed_sent owed p = cond (kind_of p == 11) (without_id (id_of p) owed) owed

abbrev pub asks_took : List IdSlot → List ℕ → List IdSlot
asks_took asks p = cond (kind_of p == 11) (without_id (id_of p) asks) asks

abbrev pub owed_took : List IdSlot → List ℕ → List IdSlot
owed_took owed p = cond (kind_of p == 11) owed (with_id (id_of p) owed)

-- A take needs room for one more id, whichever comes
abbrev pub take_says : PageEnd → List PageSlot → List IdSlot → ℕ
take_says e ss owed = cond (is_at e 0 ss) (cond (e.due_words == 0) (cond (has_free owed) planned no_ids) page_due) no_call

-- where a page comes with the packet, 1 to 512 of its words are due
abbrev pub part_says : Option Loan → ℕ
part_says None = took
part_says (Some a) = cond (nat_le 1 a.words && nat_le a.words 512) page_due no_call

abbrev pub took_says : PageEnd → List PageSlot → List IdSlot → List ℕ → ℕ
took_says e ss owed p =
    cond (is_at e 4 ss && (is_packet p && (e.due_words == 0)))
    (cond (not (kind_of p == 11) && not (has_room (id_of p) owed)) no_ids (part_says (part_took ss p)))
    no_call

abbrev pub end_due : Option Loan → PageEnd
end_due None = record { state = 0; due_page = 0; due_words = 0 }
end_due (Some a) = record { state = 0; due_page = a.page; due_words = a.words }

-- words of a page, as bytes
abbrev pub run_of : ℕ → ℕ → ℕ → PageRun
run_of q w n = record { page = q; at = 8 * w; bytes = 8 * n }

-- so many words from the word w on are stored, at least one
abbrev pub within_says : ℕ → ℕ → ℕ → ℕ
within_says room w n = cond (room == 0) page_not_owned (cond (nat_le w 512 && nat_le n (512 - w) && (nat_le w room && nat_le n (room - w))) planned page_outside)

abbrev pub store_says : PageEnd → List PageSlot → ℕ → ℕ → ℕ → ℕ
store_says e ss q w n =
    cond (is_at e 0 ss && not (n == 0))
    (cond (e.due_words == 0) (within_says (store_room (owner_of (slot_at ss q))) w n) page_due)
    no_call

-- the due words, from the page's first one on, where there are some
abbrev pub load_says : PageEnd → List PageSlot → ℕ
load_says e ss = cond (is_at e 0 ss && (not (e.due_words == 0) && (nat_le e.due_words 512 && nat_lt e.due_page (length ss)))) planned no_call
