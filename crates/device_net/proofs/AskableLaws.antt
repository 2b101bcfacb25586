-- What can be asked of an adapter.
use Rattle.std.proofs.Common.{◌≡◌, ℕ, false, List, refl}
use Rattle.rndis_msg.specs.declared.rndis.Rndis.{Rndis}
use Rattle.rndis_msg.specs.declared.rndis.Rndis.TheVariants.{Packet, Query, Set, Reset, Keepalive}
use Rattle.net_format.specs.Nets.{can_ask}

-- a message of another type is no request of an adapter
pub never_asks : (m : Rndis) → ((body : List ℕ) → m ≡ Packet body → ⊥) → ((id oid : ℕ) (body : List ℕ) → m ≡ Query id oid body → ⊥) → ((id oid : ℕ) (body : List ℕ) → m ≡ Set id oid body → ⊥) → (m ≡ Reset → ⊥) → ((id : ℕ) → m ≡ Keepalive id → ⊥)
    → can_ask m ≡ false
unfolding can_ask
never_asks (Packet body) p q s r k = absurd (p body refl)
never_asks (Query id oid body) p q s r k = absurd (q id oid body refl)
never_asks (Set id oid body) p q s r k = absurd (s id oid body refl)
never_asks Reset p q s r k = absurd (r refl)
never_asks (Keepalive id) p q s r k = absurd (k id refl)
never_asks _ p q s r k = refl
