-- A packet that was written and sent, as an item as it is read.
use Rattle.std.proofs.Common.{◌≡◌, ◌≤◌, ℕ, List, ◌∷◌, length, sym, ap, ◌∙◌, subst}
use Rattle.page_kept.specs.declared.item.Item.{Item}
use Rattle.channel_trace.specs.declared.event.Event.{Event}
use Rattle.channel_trace.specs.declared.event.Event.TheVariants.{Sent}
use Rattle.worker_port.specs.Line.{Line}
use Rattle.worker_port.specs.Rooms.{GotInto, KeepsRoom, SentInto}
use Rattle.worker_port.proofs.RoomLaws.{room_sent}

pub past_is : (new old : List (Event Item)) (p q : Item) → p ≡ q → new ≡ Sent p ∷ old → new ≡ Sent q ∷ old
past_is new old p q e is = is ∙ ap (λ (x : Item). Sent x ∷ old) e

pub room_item : {S : Type 0} → (room : ℕ) (q : Item) (p : List ℕ) (old new : Line S) → q.packet ≡ p → length p ≤ 384 → GotInto old new → new.state.machine.cells ≡ old.state.machine.cells → SentInto (length p) old new → new.state.past ≡ Sent q ∷ old.state.past → KeepsRoom room old
    → KeepsRoom room new
room_item room q p old new pk le into cells takes past h =
    room_sent room q old new (subst (λ l. length l ≤ 384) (sym pk) le) into cells (subst (λ l. SentInto (length l) old new) (sym pk) takes) past h
