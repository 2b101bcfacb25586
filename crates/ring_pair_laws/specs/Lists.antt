-- What a contract sees of a channel that is at an end.
use Rattle.std.specs.Prelude.{◌≡◌, ℕ, List}
use Rattle.page_kept.specs.declared.item.Item.{Item}
use Rattle.channel_trace.specs.declared.event.Event.{Event}
use Rattle.channel_trace.specs.Runs.{sent_of, got_of}
use Rattle.channel_trace.specs.Laws.{AreOfOneRun}

-- the packets that each end sent and got, in order; and where the channel has data pages, each of them with its page words; and what each end did, the last event first
pub record Lists : Type 0 where
  pub guest_sent : List (List ℕ)
  pub guest_got : List (List ℕ)
  pub host_sent : List (List ℕ)
  pub host_got : List (List ℕ)
  pub guest_sent_items : List Item
  pub guest_got_items : List Item
  pub host_sent_items : List Item
  pub host_got_items : List Item
  pub guest_past : List (Event (List ℕ))
  pub host_past : List (Event (List ℕ))

-- what the two ends did is one run, and the lists of packets are read off it
pub record AreOfRun (lists : Lists) : Type 0 where
  pub run : AreOfOneRun lists.guest_past lists.host_past
  pub guest_sent : sent_of lists.guest_past ≡ lists.guest_sent
  pub guest_got : got_of lists.guest_past ≡ lists.guest_got
  pub host_sent : sent_of lists.host_past ≡ lists.host_sent
  pub host_got : got_of lists.host_past ≡ lists.host_got
