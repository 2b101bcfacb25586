-- The packets of a register keep to what the packets of a channel keep to.
use Rattle.std.specs.Prelude.{Bool, true, false, Option, Some, None}
use Rattle.std.proofs.Common.{refl, sym, subst}
use Rattle.channel_model.specs.Amounts.{HasNoMessages}
use Rattle.channel_model.specs.WireFormat.{Keeps}
use Rattle.channel_protocol.proofs.InPackets.{keeps_in_packets, may_in_packets}
use Rattle.example_device.specs.Registers.{register_format, register_items}

abbrev IsThere : {X : Type 0} → Option X → Type 0
IsThere (Some v) = Unit {0}
IsThere None = ⊥

abbrev IsTrueOne : Bool → Type 0
IsTrueOne true = Unit {0}
IsTrueOne false = ⊥

pub register_keeps : Keeps register_format
register_keeps = record {
  given = λ p r e. record { besides = tt; one = refl; other = refl; same = refl };
  fixes = λ p e f. absurd (subst IsThere f tt);
  unread = λ p e. absurd (subst IsTrueOne e tt);
  silent = λ p e. refl;
  asks = λ p e. absurd (subst IsTrueOne e tt);
  encodes = λ id a. refl;
  waits_ask = λ id a. refl;
  id_kept = λ id a e f. refl;
  id_own = λ id a e. absurd (subst IsTrueOne e tt);
  reads = λ id a q r e f own. refl;
  no_result = λ id a before p e. absurd (subst IsThere e tt);
  acks = λ p e. absurd (subst IsTrueOne (sym e) tt);
  ack_asks = λ p e. absurd (subst IsTrueOne (sym e) tt);
}

pub register_silent : HasNoMessages register_format
register_silent = record { gives = λ p r. refl; fixed = λ p b e. absurd (subst IsThere (sym e) tt) }

-- and so do the items that carry them
pub items_keep : Keeps register_items
items_keep = keeps_in_packets register_format register_keeps

pub items_silent : HasNoMessages register_items
items_silent = may_in_packets register_format false register_silent
