-- How page words are read, by a packet's type and its bytes.
use Rattle.std.proofs.Common.{◌≡◌, ℕ, zero, suc, ◌<◌, ◌≤◌, ◌==◌, Bool, true, false, cond, ◌&&◌, List, [], length, take, replicate, Option, Some, None, refl, sym, ap, subst, ◌∙◌, arith}
use Rattle.std.specs.Prelude.{nat_lt, is_none}
use Rattle.std.proofs.lemmas.Bool.Decides.{nat_tests}
use Rattle.std.proofs.lemmas.List.{length-replicate, length-take}
use Rattle.vm_page.specs.Words.{words_for}
use Rattle.pkt_desc.specs.Packets.{kind_of}
use Rattle.page_kept.specs.declared.item.Item.{Item}
use Rattle.page_kept.specs.Items.{item_of}
use Rattle.stor_proto.specs.Packets.{fault_in, vstor_fault, vstor_in}
use Rattle.stor_proto.specs.declared.fault.VstorFault.TheVariants.{Short}
use Rattle.channel_protocol.specs.Paged.{Lays, LaysSome, bare_item}
use Rattle.channel_protocol.proofs.InPackets.{lays_item}
use Rattle.device_packets.specs.Packets.{content_of}
use Rattle.device_packets.specs.Said.{vstor_of, has_vstor, came_with, reads_into, came_in, words_said, said_item}

-- by type

pub said_done : (p ws : List ℕ) → kind_of p ≡ 11 → words_said p ws ≡ take (words_for (came_in p)) ws
said_done p ws kind = ap (λ k. cond (k == 11) (take (words_for (came_in p)) ws) (cond ((k == 9) && reads_into p) (replicate (length ws) 0) ws)) kind

pub said_direct : (p ws : List ℕ) → kind_of p ≡ 9 → words_said p ws ≡ cond (reads_into p) (replicate (length ws) 0) ws
said_direct p ws kind = ap (λ k. cond (k == 11) (take (words_for (came_in p)) ws) (cond ((k == 9) && reads_into p) (replicate (length ws) 0) ws)) kind

pub said_sent : (p ws : List ℕ) → kind_of p ≡ 6 → words_said p ws ≡ ws
said_sent p ws kind = ap (λ k. cond (k == 11) (take (words_for (came_in p)) ws) (cond ((k == 9) && reads_into p) (replicate (length ws) 0) ws)) kind

take_none : (n : ℕ) → take {A = ℕ} n [] ≡ []
take_none zero = refl
take_none (suc n) = refl

said_none : (done reads : Bool) (n : ℕ) → cond done (take {A = ℕ} n []) (cond reads [] []) ≡ []
said_none true reads n = take_none n
said_none false true n = refl
said_none false false n = refl

-- a packet without page words is read as it is
pub said_bare : (p : List ℕ) → said_item (item_of p []) ≡ item_of p []
said_bare p = ap (item_of p) (said_none (kind_of p == 11) ((kind_of p == 9) && reads_into p) (words_for (came_in p)))

-- no more words are read than came
said_within : (done reads : Bool) (n : ℕ) (ws : List ℕ) → length (cond done (take n ws) (cond reads (replicate (length ws) 0) ws)) ≤ length ws
said_within true reads n ws = omega (arith, length-take n ws)
said_within false true n ws = omega (arith, length-replicate {A = ℕ} (length ws) 0)
said_within false false n ws = omega arith

pub said_few : (i : Item) → length (said_item i).words ≤ length i.words
said_few i = said_within (kind_of i.packet == 11) ((kind_of i.packet == 9) && reads_into i.packet) (words_for (came_in i.packet)) i.words

-- items

pub item_is : (j : Item) (p ws : List ℕ) → j.packet ≡ p → words_said p j.words ≡ ws → said_item j ≡ item_of p ws
item_is j p ws is e = ap (λ x. item_of x (words_said x j.words)) is ∙ ap (item_of p) e

-- and so many of a completion whose bytes are fewer than those of a storage packet: none
no_vstor : (p : List ℕ) → length (content_of p) < 64 → has_vstor p ≡ false
unfolding has_vstor vstor_fault
no_vstor p few =
    let short : nat_lt (length (content_of p)) 64 ≡ true = grind (arith, nat_tests, few) in
    ap (λ b. is_none (cond b (Some (Short (length (content_of p)) 64)) (fault_in (vstor_in (content_of p))))) short

short_came : (p : List ℕ) → length (content_of p) < 64 → came_in p ≡ 0
unfolding came_in
short_came p few = ap (λ b. cond b (came_with (vstor_of p)) 0) (no_vstor p few)

pub said_short : (j : Item) (p : List ℕ) → j.packet ≡ p → kind_of p ≡ 11 → length (content_of p) < 64 → said_item j ≡ item_of p []
said_short j p is kind few = item_is j p [] is (said_done p j.words kind ∙ ap (λ n. take (words_for n) j.words) (short_came p few))

-- in-band packets and transfers are read as they are
pub said_plain : (j : Item) (p ws : List ℕ) (k : ℕ) → j.packet ≡ p → j.words ≡ ws → kind_of p ≡ k → (k == 11) ≡ false → (k == 9) ≡ false → said_item j ≡ item_of p ws
said_plain j p ws k is words kind other direct =
    item_is j p ws is
    (ap (λ n. cond (n == 11) (take (words_for (came_in p)) j.words) (cond ((n == 9) && reads_into p) (replicate (length j.words) 0) j.words)) kind
    ∙ (ap (λ b. cond b (take (words_for (came_in p)) j.words) (cond ((k == 9) && reads_into p) (replicate (length j.words) 0) j.words)) other
    ∙ (ap (λ b. cond (b && reads_into p) (replicate (length j.words) 0) j.words) direct ∙ words)))

-- what has no page words is read as its packet
pub bare_so : (p ws : List ℕ) (n : ℕ) (i j : Item) → n ≡ 0 → bare_item p ≡ j → Lays p ws n i → said_item i ≡ j
bare_so p ws n i j none is lays = ap said_item (lays_item p p ws n i none refl lays) ∙ (said_bare p ∙ is)

-- none goes back
pub none_so : (p ws : List ℕ) (n : ℕ) (o : Option Item) → o ≡ None → p ≡ [] → LaysSome said_item p ws n o
none_so p ws n o none is = subst (LaysSome said_item p ws n) (sym none) is
