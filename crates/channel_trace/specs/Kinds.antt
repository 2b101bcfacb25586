-- The event of a kind.
use Rattle.std.specs.Prelude.{ℕ, List}
use Rattle.channel_trace.specs.declared.event.Event.{Event}
use Rattle.channel_trace.specs.declared.event.Event.TheVariants.{Sent, Got, Empty, Marked, Saw}
use Rattle.channel_trace.specs.declared.kind.Kind.{Kind}
use Rattle.channel_trace.specs.declared.kind.Kind.TheVariants as kind

-- the event of this kind, with the packet where it has one
abbrev pub event_of : Kind → List ℕ → Event (List ℕ)
event_of kind.Sent p = Sent p
event_of kind.Got p = Got p
event_of kind.Empty p = Empty
event_of kind.Marked p = Marked
event_of kind.Saw p = Saw
