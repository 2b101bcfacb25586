-- A register: a request stores a value, and the reply is the one that it held before. A packet has a head, an id and a value. No messages go back besides the
-- answers.
use Rattle.std.specs.Prelude.{ℕ, true, false, List, [], ◌∷◌, slice_index_or, Some, None}
use Rattle.page_kept.specs.declared.item.Item.{Item}
use Rattle.channel_model.specs.WireFormat.{WireFormat}
use Rattle.channel_protocol.specs.Paged.{in_packets}

abbrev pub register_packet : ℕ → ℕ → List ℕ
register_packet id value = 12885032966 ∷ id ∷ value ∷ []

abbrev pub register_format : WireFormat (List ℕ) ℕ ℕ ℕ
register_format = record {
  id_of = λ p. slice_index_or p 1 0;
  is_request = λ p. true;
  waits = λ p. true;
  is_ack = λ p. false;
  is_answer = λ p. true;
  is_message = λ p. false;
  ack = λ p. p;
  encode = register_packet;
  has_answer = λ a. true;
  read = λ p. Some (slice_index_or p 2 0);
  fixed = λ p. None;
  fits = λ q r. true;
  gives = λ p r. record { message = None; answer = register_packet (slice_index_or p 1 0) r };
  result = λ a before p. Some (slice_index_or p 2 0);
}

-- the same in items, as the workers see them: each has its packet alone, as on a channel without data pages
abbrev pub register_items : WireFormat Item ℕ ℕ ℕ
register_items = in_packets register_format
