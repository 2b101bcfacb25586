-- Packets that are there or not.
use Rattle.std.specs.Prelude.{ℕ, Bool, false, List, [], ◌∷◌, Option, Some, None, is_some}
use Rattle.channel_model.specs.WireFormat.{Back, under_own}

-- the packet of these words, or none where there are no words
abbrev pub listed_packet : List ℕ → List (List ℕ)
listed_packet [] = []
listed_packet (w ∷ ws) = (w ∷ ws) ∷ []

abbrev pub packet_in : List ℕ → Option (List ℕ)
packet_in [] = None
packet_in (w ∷ ws) = Some (w ∷ ws)

module _ {P : Type 0} where
  -- of what goes back, if something does: the message besides the answer under this id, if there is one, and the answer
  abbrev pub message_in : ℕ → Option (Back P) → Option P
  message_in own None = None
  message_in own (Some b) = under_own own b.message

  abbrev pub answer_in : Option (Back P) → Option P
  answer_in None = None
  answer_in (Some b) = Some b.answer

  -- there is a message
  abbrev pub has_message_in : Option (Back P) → Bool
  has_message_in None = false
  has_message_in (Some b) = is_some b.message
