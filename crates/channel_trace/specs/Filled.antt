-- What an end did, with other things in place of the packets that it sent and got.
use Rattle.std.specs.Prelude.{◌≡◌, ℕ, List, [], ◌∷◌, length, slice_index_or}
use Rattle.channel_trace.specs.declared.event.Event.{Event}
use Rattle.channel_trace.specs.declared.event.Event.TheVariants.{Sent, Got, Empty, Marked, Saw}
use Rattle.channel_trace.specs.Runs.{sent_of, got_of}

module _ {P Q : Type 0} where
  -- the n-th thing, in place of the packet p
  abbrev pub thing_at : (P → Q) → List Q → ℕ → P → Q
  thing_at plain things n p = slice_index_or things n (plain p)

  -- an event after this past, where these things stand for all that the end sent and got
  abbrev pub fill : (P → Q) → List Q → List Q → List (Event P) → Event P → Event Q
  fill plain sent got past (Sent p) = Sent (thing_at plain sent (length (sent_of past)) p)
  fill plain sent got past (Got p) = Got (thing_at plain got (length (got_of past)) p)
  fill plain sent got past Empty = Empty
  fill plain sent got past Marked = Marked
  fill plain sent got past Saw = Saw

  -- The events with the n-th thing in place of the n-th packet, among those that were sent, and among those that were got. Past the last thing
  -- `plain` makes one of the packet
  abbrev pub filled : (P → Q) → List Q → List Q → List (Event P) → List (Event Q)
  filled plain sent got [] = []
  filled plain sent got (e ∷ past) = fill plain sent got past e ∷ filled plain sent got past

  -- there is a thing for each packet that was sent, and for each that was got
  pub record IsFilledBy (past : List (Event P)) (sent got : List Q) : Type 0 where
    pub sent_are : length (sent_of past) ≡ length sent
    pub got_are : length (got_of past) ≡ length got
