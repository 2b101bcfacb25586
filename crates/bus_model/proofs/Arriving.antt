-- What is sent on a channel arrives, and is served.
use Rattle.std.proofs.Common.{◌≡◌, List, [], ◌∷◌, ◌++◌, length, length-append, map, refl, sym, ap, ◌∙◌, arith}
use Rattle.std.proofs.lemmas.List.{append-nil, length-map}
use Rattle.channel_trace.specs.Runs.{IsFront}
use Rattle.device_packets.specs.Said.{said_item}
use Rattle.device_wire.specs.declared.buffer_lists.BufferLists.{BufferLists}
use Rattle.io_edge.specs.declared.side.Side.{Side}
use Rattle.io_edge.specs.declared.side.Side.TheVariants.{Guest, Host}
use Rattle.ring_pair_laws.specs.Lists.{Lists}
use Rattle.channel_model.specs.Roles.{side_that_asks}
use Rattle.device_kinds.specs.Served.{Served}
use Rattle.device_wire.specs.declared.want.Want.TheVariants.{Request as Script}
use Rattle.channel_model.specs.Channel.{count_of}
use Rattle.bus_model.specs.Orders.{Order}
use Rattle.bus_model.specs.Channel.{Carries, ItemsArrive, items_got, items_sent, other}
use Rattle.bus_model.specs.Laws.{Arrives, ServesEach, CompletesEach}

-- a front that is as long as all is all
none_by : {A : Type 0} (xs : List A) → length xs ≡ 0 → xs ≡ []
none_by [] e = refl
none_by (x ∷ xs) e = absurd (omega (arith, e))

front_all : {A B : Type 0} (f : A → B) (xs ys : List A) → IsFront xs ys → map f xs ≡ map f ys → xs ≡ ys
front_all {A} f xs ys front same =
    let long : length front.0 ≡ 0 = omega (arith, ap length same, length-map xs f, length-map ys f, ap length front.1, length-append xs front.0) in
    sym (front.1 ∙ (ap (λ (l : List A). xs ++ l) (none_by front.0 long) ∙ append-nil xs))

-- the end that asks got as many as the other one sent
settled_at : (side : Side) (order : Order) (tells : BufferLists) (lists : Lists) (served : List Served) → ItemsArrive order lists → Carries side order tells lists served → items_got side lists ≡ items_sent (other side) lists
settled_at Guest order tells lists served arrive run = front_all said_item (items_got Guest lists) (items_sent Host lists) arrive.at_guest run.answers_got
settled_at Host order tells lists served arrive run = front_all said_item (items_got Host lists) (items_sent Guest lists) arrive.at_host run.answers_got

pub arrives_lem : Arrives
arrives_lem order lists served run = record {
  at_host = run.arrive.at_host;
  at_guest = run.arrive.at_guest;
  whole = run.arrive.whole;
  settled = settled_at (side_that_asks order.kind) order run.tells lists served run.arrive run.carried;
}

pub serves_each_lem : ServesEach
serves_each_lem order lists served run = run.carried.count ∙ ap (count_of order.stop) (length-map order.asks Script)

pub completes_each_lem : CompletesEach
completes_each_lem order lists served run = record { in_order = run.carried.acks; each = run.carried.all_acked }
