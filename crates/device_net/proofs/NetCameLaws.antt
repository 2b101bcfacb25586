-- What goes back for a packet of a network's channel, by what it is.
use Rattle.std.proofs.Common.{◌≡◌, ℕ, ◌<◌, Bool, true, false, cond, ◌||◌, List, [], ◌∷◌, ◌^◌, length, Some, None, Ok, refl, ap, ◌∙◌, arith}
use Rattle.vm_page.specs.Words.{bytes_in}
use Rattle.pkt_desc.specs.Packets.{id_of}
use Rattle.page_kept.specs.declared.item.Item.{Item}
use Rattle.page_kept.specs.Items.{item_of}
use Rattle.rndis_msg.specs.declared.rndis.Rndis.{Rndis}
use Rattle.rndis_msg.specs.declared.rndis.Rndis.TheVariants.{Initialize}
use Rattle.rndis_msg.specs.Reading.{message_in}
use Rattle.channel_protocol.specs.Listed.{answer_in, has_message_in}
use Rattle.channel_protocol.specs.Paged.{LaysSome, item_in}
use Rattle.device_packets.specs.Said.{said_item}
use Rattle.net_format.specs.Nets.{asked_by, init_done, receive_done, send_done, net_done, brings_rndis, ok_of}
use Rattle.net_format.specs.PageNets.{rndis_in, net_waits, net_read, bare_alone, fixed_by, net_fixed, back_in}
use Rattle.net_format.proofs.NetPageLaws.{back_said, fixed_said, read_said, said_done}
use Rattle.net_format.proofs.PageNetLaws.{fixed_at, fixed_is}
use Rattle.device_net.specs.Came.{IsTested}

module _ (p ws : List ℕ) where
  fixed_tested : (a b c d : Bool) → IsTested a b c d p → net_fixed (said_item (item_of p ws)) ≡ fixed_at a b c d (item_of p ws)
  fixed_tested a b c d t = fixed_said (item_of p ws) ∙ (fixed_is (item_of p ws) ∙ (λ j. fixed_at (t.init_is j) (t.receive_is j) (t.send_is j) (t.carries_is j) (item_of p ws)))

  message_here : rndis_in (item_of p ws) ≡ message_in (bytes_in ws)
  unfolding rndis_in
  message_here = refl

  pub fixed_init : IsTested true false false false p → net_fixed (said_item (item_of p ws)) ≡ Some (bare_alone (init_done p))
  fixed_init t = fixed_tested true false false false t

  pub fixed_receive : IsTested false true false false p → net_fixed (said_item (item_of p ws)) ≡ Some (bare_alone (receive_done (id_of p)))
  fixed_receive t = fixed_tested false true false false t

  pub fixed_send : IsTested false false true false p → net_fixed (said_item (item_of p ws)) ≡ Some (bare_alone (send_done (id_of p)))
  fixed_send t = fixed_tested false false true false t

  pub fixed_message : IsTested false false false true p → net_fixed (said_item (item_of p ws)) ≡ fixed_by (id_of p) (message_in (bytes_in ws))
  fixed_message t = fixed_tested false false false true t ∙ ap (fixed_by (id_of p)) message_here

  pub fixed_none : IsTested false false false false p → net_fixed (said_item (item_of p ws)) ≡ None
  fixed_none t = fixed_tested false false false false t

  read_tested : (a b c d : Bool) → IsTested a b c d p → net_read (said_item (item_of p ws)) ≡ cond d (asked_by (rndis_in (item_of p ws))) None
  unfolding net_read
  read_tested a b c d t = read_said (item_of p ws) ∙ ap (λ x. cond x (asked_by (rndis_in (item_of p ws))) None) t.carries_is

  pub read_message : IsTested false false false true p → net_read (said_item (item_of p ws)) ≡ asked_by (message_in (bytes_in ws))
  read_message t = read_tested false false false true t ∙ ap asked_by message_here

  pub read_none : (a b c : Bool) → IsTested a b c false p → net_read (said_item (item_of p ws)) ≡ None
  read_none a b c t = read_tested a b c false t

pub waits_tested : (i : Item) (a b c d : Bool) → IsTested a b c d i.packet → net_waits i ≡ (a || (b || (c || d)))
unfolding net_waits
waits_tested i a b c d t = λ j. t.init_is j || (t.receive_is j || (t.send_is j || t.carries_is j))

-- a message that isn't an initialize asks the adapter
pub not_initialize : (id : ℕ) (m : Rndis) → ((a b c d : ℕ) → m ≡ Initialize a b c d → ⊥) → fixed_by id (Ok m) ≡ None
not_initialize id (Initialize a b c d) not = absurd (not a b c d refl)
not_initialize id m not = refl

-- where no message goes back for one, nothing does
pub none_fixed : (id : ℕ) (m : Rndis) → has_message_in (fixed_by id (Ok m)) ≡ false → answer_in (fixed_by id (Ok m)) ≡ None
none_fixed id (Initialize a b c d) none = absurd (let bad : true ≡ false = none in cc)
none_fixed id m none = refl

pub some_fixed : (id : ℕ) (m : Rndis) → has_message_in (fixed_by id (Ok m)) ≡ true → answer_in (fixed_by id (Ok m)) ≡ Some (item_of (net_done id 1) [])
some_fixed id (Initialize a b c d) some = refl
some_fixed id m some = absurd (let bad : false ≡ true = some in cc)

-- a completion that was written is read so, whatever comes back with it
pub lays_done : (p : List ℕ) (id status n : ℕ) → p ≡ net_done id status → 0 < length p → status < 2 ^ 32 → LaysSome said_item p [] n (Some (item_of (net_done id status) []))
lays_done p id status n is some small = (some, λ i lays. said_done i id status small (lays.packet_is ∙ is))

-- the message before a completion
pub before_message : (w : ℕ) (rest ws : List ℕ) → brings_rndis (w ∷ rest) ≡ true → back_in (item_in said_item (w ∷ rest) ws) ≡ ok_of (message_in (bytes_in ws))
unfolding rndis_in
before_message w rest ws brings = back_said (item_of (w ∷ rest) ws) ∙ ap (λ t. cond t (ok_of (rndis_in (item_of (w ∷ rest) ws))) None) brings

pub before_other : (w : ℕ) (rest ws : List ℕ) → brings_rndis (w ∷ rest) ≡ false → back_in (item_in said_item (w ∷ rest) ws) ≡ None
before_other w rest ws brings = back_said (item_of (w ∷ rest) ws) ∙ ap (λ t. cond t (ok_of (rndis_in (item_of (w ∷ rest) ws))) None) brings

pub before_none : (before ws : List ℕ) → before ≡ [] → back_in (item_in said_item before ws) ≡ None
before_none before ws none = ap (λ b. back_in (item_in said_item b ws)) none

pub before_message_so : (before ws : List ℕ) → 0 < length before → brings_rndis before ≡ true → back_in (item_in said_item before ws) ≡ ok_of (message_in (bytes_in ws))
before_message_so [] ws some brings = absurd (omega (arith, some))
before_message_so (w ∷ rest) ws some brings = before_message w rest ws brings

pub before_other_so : (before ws : List ℕ) → 0 < length before → brings_rndis before ≡ false → back_in (item_in said_item before ws) ≡ None
before_other_so [] ws some brings = absurd (omega (arith, some))
before_other_so (w ∷ rest) ws some brings = before_other w rest ws brings
