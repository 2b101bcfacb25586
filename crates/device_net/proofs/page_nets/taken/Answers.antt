use Rattle.std.proofs.Common.{◌≡◌, true, false, sym, ap, ◌∙◌}
use Rattle.std.specs.Prelude.{◌&&◌, is_some, if◌then◌else◌}
use Rattle.pkt_desc.specs.Lending.{lent_of}
use Rattle.net_format.specs.Nets.{brings_rndis}
use Rattle.net_format.specs.PageNets.{taken_status}
use Rattle.device_net.proofs.page_nets.taken.Goals as goal

-- a packet of the rings is one that the descriptor's reader takes
pub lent-requires : goal.lent-requires
lent-requires c = record { packet = record { two_words = c.requires.two; length_is = c.requires.length_is; past_descriptor = c.requires.offset.0; within = c.requires.offset.1 } }

pub returns-then-not-brings : goal.returns-then-not-brings
unfolding taken_status
returns-then-not-brings c = sym (ap (λ b. if b && is_some (lent_of c.args.packet.now) then 1 else 2) (sym c.brings.ensures ∙ c.if-not-brings.true))

pub returns-then-is_some : goal.returns-then-is_some
unfolding taken_status
returns-then-is_some c =
    let p = c.args.packet.now in
    let brought : brings_rndis p ≡ true = sym c.brings.ensures ∙ c.if-not-brings.false in
    let lends : is_some (lent_of p) ≡ true = cc (c.lent.ensures.lent, c.is_some.ensures, c.if-is_some.true) in
    sym (ap (λ b. if b && is_some (lent_of p) then 1 else 2) brought ∙ ap (λ b. if b then 1 else 2) lends)

pub returns-else-is_some : goal.returns-else-is_some
unfolding taken_status
returns-else-is_some c =
    let p = c.args.packet.now in
    let brought : brings_rndis p ≡ true = sym c.brings.ensures ∙ c.if-not-brings.false in
    let lends : is_some (lent_of p) ≡ false = cc (c.lent.ensures.lent, c.is_some.ensures, c.if-is_some.false) in
    sym (ap (λ b. if b && is_some (lent_of p) then 1 else 2) brought ∙ ap (λ b. if b then 1 else 2) lends)
