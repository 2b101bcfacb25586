-- The outcomes of a channel's requests, along the requests.
use Rattle.std.proofs.Common.{◌≡◌, ℕ, zero, suc, ◌+◌, ◌-◌, ◌*◌, ◌≤◌, Bool, true, false, List, [], ◌∷◌, ◌++◌, length, refl, ap, ◌∙◌, subst, arith, Option, Some, None}
use Rattle.std.specs.Prelude.{map, take, drop, replicate, min, nat_le, slice_get, if◌then◌else◌}
use Rattle.std.specs.List.{AllByRecursion}
use Rattle.script_lines.specs.declared.line.Ask.{Ask}
use Rattle.script_lines.specs.declared.line.Ask.TheVariants.{Net as AskNet}
use Rattle.rndis_msg.specs.declared.rndis.Rndis.{Rndis}
use Rattle.rndis_msg.specs.declared.rndis.Rndis.TheVariants.{Query}
use Rattle.rndis_msg.specs.Messages.{body_of}
use Rattle.net_format.specs.Nets.{with_id, request_id_of}
use Rattle.device_kinds.specs.Formats.{asked_as}
use Rattle.bus_script.specs.declared.outcome.Reply.{Reply}
use Rattle.bus_script.specs.declared.outcome.LineResult.{LineResult}
use Rattle.bus_script.specs.declared.outcome.LineResult.TheVariants.{Unserved}
use Rattle.bus_script.specs.Report.{reply_room, result_room}
use Rattle.device_kinds.specs.Served.{Served, done_of}
use Rattle.bus_model.specs.Channel.{asked_under, rescinded_of, outcomes_by}
use Rattle.bus_model.proofs.Lists.{IfThere}
use Rattle.bus_report_bound.specs.Laws.{room_of}

-- a reply has the room of its request
abbrev pub FewReply : Ask → Reply → Type 0
FewReply ask reply = reply_room reply ≤ room_of ask

abbrev pub FewServed : List Served → Type 0
FewServed served = AllByRecursion (λ s. FewReply s.request s.reply) served

-- and an outcome so much
abbrev pub FewFor : ℕ → LineResult → Type 0
FewFor n r = result_room r ≤ n

-- a message has the same buffer under each id

same_body : (id : ℕ) (m : Rndis) → body_of (with_id id m) ≡ body_of m
same_body id (Query request_id oid body) = refl
same_body id _ = refl

same_room : (id : ℕ) (ask : Ask) → room_of (asked_as id ask) ≡ room_of ask
same_room id (AskNet message) = ap (λ b. 24 * (40 + length b)) (same_body (request_id_of id) message)
same_room id _ = refl

-- what was served, along the requests

abbrev FewAlong : List Ask → List Served → Type 0
FewAlong [] served = Unit {0}
FewAlong (a ∷ asks) [] = Unit {0}
FewAlong (a ∷ asks) (s ∷ served) = (reply_room s.reply ≤ room_of a) × FewAlong asks served

abbrev no_asks : List Ask
no_asks = []

none_taken : (n : ℕ) → take n no_asks ≡ []
none_taken zero = refl
none_taken (suc n) = refl

served_along : (n : ℕ) (ids : List ℕ) (asks : List Ask) (served : List Served) → map (λ s. s.request) served ≡ take n (asked_under ids asks) → FewServed served → FewAlong asks served
served_along n ids [] served serves few = tt
served_along n ids (a ∷ asks) [] serves few = tt
served_along n [] (a ∷ asks) (s ∷ served) serves few = let bad : map (λ (s : Served). s.request) (s ∷ served) ≡ [] = serves ∙ none_taken n in absurd (cc)
served_along zero (id ∷ ids) (a ∷ asks) (s ∷ served) serves few = absurd (cc)
served_along (suc n) (id ∷ ids) (a ∷ asks) (s ∷ served) serves few =
    let head : s.request ≡ asked_as id a = cc in
    let tail : map (λ (s : Served). s.request) served ≡ take n (asked_under ids asks) = cc in
    (omega (arith, few.0, ap room_of head, same_room id a), served_along n ids asks served tail few.1)

take_along : (n : ℕ) (asks : List Ask) (served : List Served) → FewAlong asks served → FewAlong asks (take n served)
take_along n [] served few = tt
take_along zero (a ∷ asks) [] few = tt
take_along zero (a ∷ asks) (s ∷ served) few = tt
take_along (suc n) (a ∷ asks) [] few = tt
take_along (suc n) (a ∷ asks) (s ∷ served) few = (few.0, take_along n asks served few.1)

-- and the outcomes

abbrev Along : List Ask → List LineResult → Type 0
Along [] results = Unit {0}
Along (a ∷ asks) [] = Unit {0}
Along (a ∷ asks) (r ∷ results) = FewFor (room_of a) r × Along asks results

-- outcomes that bring nothing back
abbrev Bare : List LineResult → Type 0
Bare results = AllByRecursion (λ r. result_room r ≤ 0) results

bare_along : (asks : List Ask) (results : List LineResult) → Bare results → Along asks results
bare_along [] results bare = tt
bare_along (a ∷ asks) [] bare = tt
bare_along (a ∷ asks) (r ∷ results) bare = (omega (arith, bare.0), bare_along asks results bare.1)

done_along : (asks : List Ask) (served : List Served) (rest : List LineResult) → FewAlong asks served → Bare rest → Along asks (map done_of served ++ rest)
done_along [] served rest few bare = tt
done_along (a ∷ asks) [] rest few bare = bare_along (a ∷ asks) rest bare
done_along (a ∷ asks) (s ∷ served) rest few bare = (few.0, done_along asks served rest few.1 bare)

all_along : (asks : List Ask) (served : List Served) → FewAlong asks served → Along asks (map done_of served)
all_along [] served few = tt
all_along (a ∷ asks) [] few = tt
all_along (a ∷ asks) (s ∷ served) few = (few.0, all_along asks served few.1)

unserved_bare : (n : ℕ) → Bare (replicate n Unserved)
unserved_bare zero = tt
unserved_bare (suc n) = (omega arith, unserved_bare n)

rescinded_bare : (served : List Served) (n : ℕ) → Bare (map rescinded_of served ++ replicate n Unserved)
rescinded_bare [] n = unserved_bare n
rescinded_bare (s ∷ served) n = (omega arith, rescinded_bare served n)

outcomes_along : (stop : Option (ℕ × Bool)) (m : ℕ) (asks : List Ask) (served : List Served) → FewAlong asks served → Along asks (outcomes_by stop m served)
outcomes_along None m asks served few = all_along asks served few
outcomes_along (Some (k, false)) m asks served few = done_along asks served (replicate (m - min k m) Unserved) few (unserved_bare (m - min k m))
outcomes_along (Some (k, true)) m asks served few = by_flag (nat_le k m)
  where
    by_flag : (b : Bool) → Along asks (if b then map done_of (take (k - 1) served) ++ (map rescinded_of (drop (k - 1) served) ++ replicate (m - k) Unserved) else map done_of served)
    by_flag true = done_along asks (take (k - 1) served) (map rescinded_of (drop (k - 1) served) ++ replicate (m - k) Unserved) (take_along (k - 1) asks served few) (rescinded_bare (drop (k - 1) served) (m - k))
    by_flag false = all_along asks served few

at_along : (asks : List Ask) (results : List LineResult) (i : ℕ) (ask : Ask) → Along asks results → slice_get asks i ≡ Some ask → IfThere (FewFor (room_of ask)) (slice_get results i)
at_along [] results i ask along at = absurd (cc)
at_along (a ∷ asks) [] i ask along at = tt
at_along (a ∷ asks) (r ∷ results) zero ask along at = let same : a ≡ ask = cc in subst (λ x. FewFor (room_of x) r) same along.0
at_along (a ∷ asks) (r ∷ results) (suc i) ask along at = at_along asks results i ask along.1 at

-- the outcome of a request brings back no more than the reply to it
pub outcome_few : (stop : Option (ℕ × Bool)) (m n i : ℕ) (ids : List ℕ) (asks : List Ask) (served : List Served) (ask : Ask) → map (λ s. s.request) served ≡ take n (asked_under ids asks) → FewServed served → slice_get asks i ≡ Some ask
    → IfThere (FewFor (room_of ask)) (slice_get (outcomes_by stop m served) i)
outcome_few stop m n i ids asks served ask serves few at = at_along asks (outcomes_by stop m served) i ask (outcomes_along stop m asks served (served_along n ids asks served serves few)) at
