-- A protocol that lends pages: a request has four words in the page of its id, and the device replies the last of them and the first, which come back in that page.
-- Where the host tells, they go in a message besides, too, in the page of an id of the host's own.
use Rattle.std.specs.Prelude.{ℕ, ◌+◌, ◌-◌, ◌*◌, Bool, true, false, ◌==◌, ◌&&◌, nat_le, List, [], ◌∷◌, length, take, slice_index_or, Some, None, if◌then◌else◌}
use Rattle.page_kept.specs.declared.item.Item.{Item}
use Rattle.page_kept.specs.Items.{item_of}
use Rattle.pkt_desc.specs.Packets.{kind_of, id_of}
use Rattle.hist_lock.specs.Seat.{Call}
use Rattle.channel_model.specs.WireFormat.{WireFormat}
use Rattle.test_workers.specs.declared.swap.Two.{Two}

-- a packet of type 9 that lends 32 bytes of one page, and a completion that tells how many of the page words that come back are read
abbrev pub swap_request : ℕ → List ℕ
swap_request id = 25770131465 ∷ id ∷ 4294967296 ∷ 32 ∷ (id - 1) ∷ 0 ∷ []

abbrev pub swap_completion : ℕ → ℕ → List ℕ
swap_completion id k = 12885032971 ∷ id ∷ k ∷ []

-- a message of type 7, which lends 16 bytes from the start of the page of its id behind the 64 of the guest
abbrev pub swap_message : ℕ → List ℕ
swap_message own = 0x5_0004_0007 ∷ own ∷ 0x1_0000_cafe ∷ (16 + 0x1000_0000_0000 * (own - 1)) ∷ 0 ∷ []

abbrev pub words_read : Bool → ℕ → List ℕ → List ℕ
words_read true k ws = take k ws
words_read false k ws = ws

abbrev pub swap_said : Item → Item
swap_said i = item_of i.packet (words_read (kind_of i.packet == 11) (slice_index_or i.packet 2 0) i.words)

-- as many page words come back as are read: two, where so many came
abbrev pub back_of : ℕ → ℕ
back_of n = if nat_le 2 n then 2 else 0

abbrev pub two_at : ℕ → List ℕ → Two
two_at k ws = record { a = slice_index_or ws 0 0; b = slice_index_or ws k 0 }

abbrev pub swap_format : Bool → WireFormat Item Two Two Two
swap_format tells = record {
  id_of = λ i. id_of i.packet;
  is_request = λ i. kind_of i.packet == 9;
  waits = λ i. kind_of i.packet == 9;
  is_ack = λ i. kind_of i.packet == 11;
  is_answer = λ i. kind_of i.packet == 11;
  is_message = λ i. kind_of i.packet == 7;
  ack = λ i. item_of (swap_completion (id_of i.packet) 0) [];
  encode = λ id a. item_of (swap_request id) (a.a ∷ 5 ∷ 6 ∷ a.b ∷ []);
  has_answer = λ a. true;
  read = λ i. if kind_of i.packet == 9 then Some (two_at 3 i.words) else None;
  fixed = λ i. None;
  fits = λ q r. (q.a == r.b) && (q.b == r.a);
  gives = λ i r. record { message = if tells then Some (λ own. item_of (swap_message own) (r.a ∷ r.b ∷ [])) else None; answer = item_of (swap_completion (id_of i.packet) (back_of (length i.words))) (take (back_of (length i.words)) (r.a ∷ r.b ∷ [])) };
  result = λ a before i. Some (two_at 1 i.words);
}

-- the call that asked this
abbrev pub swap_call : Two → Call Two Two
swap_call q = record { serial = 7; request = q; reply = record { a = q.b; b = q.a } }
