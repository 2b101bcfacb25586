-- The laws of a run, for what the two ends did.
use Rattle.std.proofs.Common.{List, subst}
use Rattle.channel_trace.specs.declared.event.Event.{Event}
use Rattle.channel_trace.specs.Runs.{sent_of, got_of, host_of}
use Rattle.channel_trace.specs.Laws.{AreOfOneRun}
use Rattle.channel_trace.proofs.Steps.{ends_exchanged}
use Rattle.hist_lock.specs.Seat.{Call}
use Rattle.io_edge.specs.declared.side.Side.{Side}
use Rattle.io_edge.specs.declared.side.Side.TheVariants.{Guest, Host}
use Rattle.channel_model.specs.WireFormat.{WireFormat, Keeps}
use Rattle.channel_model.specs.Asker.{Encoded, requests_of}
use Rattle.channel_model.specs.Server.{InOrder}
use Rattle.channel_model.specs.Settled.{IsSettled}
use Rattle.channel_model.specs.Channel.{RequestPlan, IsRequestPlan, AskerEnds, ServerEnds, IsProtocolRun}
use Rattle.channel_model.specs.Roles.{asker_past, server_past}
use Rattle.channel_model.proofs.Opens.{settled}
use Rattle.channel_model.proofs.Joined.{joined}

pub settles_in_order : {P A Q R : Type 0} (s : WireFormat P A Q R) (asks : List A) (asker server : List (Event P)) → AreOfOneRun asker server → InOrder s server → Encoded s asks (requests_of s asker) → IsSettled s asks asker
settles_in_order s asks asker server one =
    subst (λ u. InOrder s u → Encoded s asks (requests_of s asker) → IsSettled s asks asker) one.host_is
    (subst (λ t. InOrder s (host_of one.turns) → Encoded s asks (requests_of s t) → IsSettled s asks t) one.guest_is (settled s asks one.turns one.run))

pub joins : {P A Q R : Type 0} (s : WireFormat P A Q R) → Keeps s → (plan : RequestPlan A) → IsRequestPlan s plan → (asker server : List (Event P)) (calls : List (Call Q R)) (told : List R) → AreOfOneRun asker server
    → AskerEnds s plan asker told → ServerEnds s plan server calls → IsProtocolRun s plan (sent_of asker) (got_of asker) (sent_of server) (got_of server) calls told
joins s keeps plan is asker server calls told one =
    subst (λ u. AskerEnds s plan asker told → ServerEnds s plan u calls → IsProtocolRun s plan (sent_of asker) (got_of asker) (sent_of u) (got_of u) calls told) one.host_is
    (subst (λ t. AskerEnds s plan t told → ServerEnds s plan (host_of one.turns) calls → IsProtocolRun s plan (sent_of t) (got_of t) (sent_of (host_of one.turns)) (got_of (host_of one.turns)) calls told) one.guest_is
    (joined s keeps plan one.turns told calls is one.run))

pub has_roles : {P : Type 0} (side : Side) (guest host : List (Event P)) → AreOfOneRun guest host → AreOfOneRun (asker_past side guest host) (server_past side guest host)
has_roles Guest guest host one = one
has_roles Host guest host one = ends_exchanged guest host one
