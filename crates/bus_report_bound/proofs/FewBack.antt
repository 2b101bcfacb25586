-- Few runs come back.
use Rattle.std.proofs.Common.{◌≡◌, ℕ, zero, suc, ◌+◌, ◌*◌, ◌≤◌, ◌<◌, ◌%◌, ◌==◌, Bool, true, false, cond, List, [], ◌∷◌, ◌++◌, length, append_assoc, nat_eq, refl, not, sym, ap, ◌∙◌, subst, arith}
use Rattle.std.specs.Prelude.{map, take, slice_get, Option, Some, None, IfSome, if◌then◌else◌}
use Rattle.std.specs.List.{AllByRecursion, flat_map, onto_first, slice_split}
use Rattle.std.proofs.lemmas.Bool.Decides.{nat_tests}
use Rattle.std.proofs.lemmas.Grind.{flat_map-append}
use Rattle.std.proofs.lemmas.List.{length-map}
use Rattle.std.proofs.lemmas.List.Sums.{sum_by-cons}
use Rattle.contact.specs.declared.kind.DeviceKind.{DeviceKind}
use Rattle.scsi_disk.proofs.RoomLaws.{by_test}
use Rattle.script_lines.specs.declared.line.Line.{Line}
use Rattle.script_lines.specs.declared.line.What.{What}
use Rattle.script_lines.specs.declared.line.What.TheVariants.{Contact as IsContact, Offer as IsOffer, Ask as IsAsk, Modify as IsModify, Phase as IsPhase}
use Rattle.script_lines.specs.declared.line.Ask.{Ask}
use Rattle.script_lines.specs.declared.line.Ask.TheVariants.{Net as AskNet}
use Rattle.script_lines.specs.declared.line.DeviceSpec.{DeviceSpec}
use Rattle.script_lines.specs.Lines.{Says, Asks, said, is_phase}
use Rattle.script_lines.specs.Parts.{ends_part, parts, offered, offered_by, channels_of, kind_of, kind_asked}
use Rattle.script_lines.specs.WellFormed.{IsDevice, IsRight, AllRight}
use Rattle.script_phases.specs.Says.{heard_by, said_to, asked, asks_of, is_rescinded, is_shut}
use Rattle.contact.specs.Versions.{has_modify, answers_modify}
use Rattle.script_phases.specs.Agreed.{agreed_in}
use Rattle.script_phases.specs.Openings.{Opening, Phase, subs_of, is_opened, subs_from, channels_from, opened_from, firsts, others, is_first, by_relid, phases_from}
use Rattle.script_phases.specs.Shares.{share}
use Rattle.bus_script.specs.declared.outcome.LineResult.{LineResult}
use Rattle.bus_script.specs.declared.outcome.LineResult.TheVariants.{Modified, Unsupported, Gone, Closed}
use Rattle.bus_script.specs.Report.{result_room, room_back}
use Rattle.script_lines.proofs.Plain.{PlainAsk, PlainSays, PlainLine, script_plain}
use Rattle.channel_model.specs.Roles.{side_that_asks}
use Rattle.device_kinds.specs.Formats.{asked_as}
use Rattle.device_kinds.specs.Served.{Served}
use Rattle.bus_model.specs.Orders.{order_of}
use Rattle.bus_model.specs.Channel.{asked_under, asked_by, served_count}
use Rattle.device_kinds.specs.Logs.{Recorded}
use Rattle.bus_model.specs.Run.{Carried, IsCarried, seats_of, EachGrows, Source, Known, AskedOf, known_or, modified_by, source_of, sources_from, outcome_at, PhaseRuns, RunsOf, over, then_on}
use Rattle.bus_model.specs.declared.channel_run.ChannelRun.{ChannelRun}
use Rattle.bus_model.proofs.Lists.{each_append, each_map, each_unmap, each_if, each_filter, each_unfilter, each_split, each_swap, IfThere}
use Rattle.bus_model.proofs.SeatLogs.{grows_with}
use Rattle.bus_report_bound.specs.Laws.{data_of, data_in, data_by, room_of, room_in, room_by, FewRunsBack, ReportFits}
use Rattle.bus_report_bound.proofs.Along.{FewReply, FewServed, FewFor}
use Rattle.bus_report_bound.proofs.DataLines.{data_stands}
use Rattle.bus_report_bound.proofs.Replies.{PlainLog, FewLog, histories_few}
use Rattle.bus_report_bound.proofs.SeatReplies.{entries_with}
use Rattle.bus_report_bound.proofs.Seats.{nth_few}

-- requests that write one byte
abbrev PlainServed : List Served → Type 0
PlainServed served = AllByRecursion (λ s. PlainAsk s.request) served

-- what the lines ask

heard_ask : (b : Bool) (ask : Ask) → PlainAsk ask → AllByRecursion PlainAsk (flat_map asked (cond b (Asks ask ∷ []) []))
heard_ask true ask plain = (plain, tt)
heard_ask false ask plain = tt

heard_no_ask : (b : Bool) (s : Says) → asked s ≡ [] → AllByRecursion PlainAsk (flat_map asked (cond b (s ∷ []) []))
heard_no_ask true s none = subst (λ l. AllByRecursion PlainAsk (l ++ [])) (sym none) tt
heard_no_ask false s none = tt

heard_plain : (device : ℕ) (o : Option (ℕ × Says)) → IfSome o (λ s. PlainSays s.1) → AllByRecursion PlainAsk (flat_map asked (heard_by device o))
heard_plain device None plain = tt
heard_plain device (Some (d, Asks ask)) plain = heard_ask (nat_eq d device) ask plain
heard_plain device (Some (d, s)) plain = heard_no_ask (nat_eq d device) s refl

asks_plain : (device : ℕ) (part : List Line) → AllByRecursion PlainLine part → AllByRecursion PlainAsk (asks_of device part)
asks_plain device [] plain = tt
asks_plain device (l ∷ part) plain =
    subst (AllByRecursion PlainAsk) (sym (flat_map-append asked (heard_by device (said l.what)) (said_to device part)))
    (each_append PlainAsk (flat_map asked (heard_by device (said l.what))) (asks_of device part) (heard_plain device (said l.what) plain.0) (asks_plain device part plain.1))

each_share : {X : Type 0} (P : X → Type 0) (many channel n : ℕ) (xs : List X) → AllByRecursion P xs → AllByRecursion P (share many channel n xs)
each_share P many channel n [] all = tt
each_share P many channel n (x ∷ xs) all = each_if P (n % many == channel) x (share many channel (n + 1) xs) all.0 (each_share P many channel (n + 1) xs all.1)

each_take : {X : Type 0} (P : X → Type 0) (n : ℕ) (xs : List X) → AllByRecursion P xs → AllByRecursion P (take n xs)
each_take P zero [] all = tt
each_take P zero (x ∷ xs) all = tt
each_take P (suc n) [] all = tt
each_take P (suc n) (x ∷ xs) all = (all.0, each_take P n xs all.1)

-- a request has the same data under each id

same_plain : (id : ℕ) (ask : Ask) → PlainAsk ask → PlainAsk (asked_as id ask)
same_plain id (AskNet message) plain = plain
same_plain id _ plain = plain

under_plain : (ids : List ℕ) (asks : List Ask) → AllByRecursion PlainAsk asks → AllByRecursion PlainAsk (asked_under ids asks)
under_plain [] asks plain = tt
under_plain (id ∷ ids) [] plain = tt
under_plain (id ∷ ids) (a ∷ asks) plain = (same_plain id a plain.0, under_plain ids asks plain.1)

channels_plain : (p : Phase) (channels : List Carried) → AllByRecursion (IsCarried p) channels → AllByRecursion PlainLine p.part → AllByRecursion (λ c. PlainServed c.served) channels
channels_plain p [] each plain = tt
channels_plain p (c ∷ channels) each plain =
    let order = order_of p c.opening in
    let asks = each_share PlainAsk (channels_of c.opening.spec) c.opening.sub 0 (asks_of c.opening.device p.part) (asks_plain c.opening.device p.part plain) in
    let asked = asked_by (side_that_asks order.kind) order c.run.settled in (
      each_unmap PlainAsk (λ (s : Served). s.request) c.served (subst (AllByRecursion PlainAsk) (sym each.0.carried.serves) (each_take PlainAsk (served_count order) asked (under_plain _ order.asks asks))),
      channels_plain p channels each.1 plain,
    )

seats_plain : (device : ℕ) (channels : List Carried) → AllByRecursion (λ c. PlainServed c.served) channels → AllByRecursion PlainServed (map (λ c. c.served) (seats_of device channels))
seats_plain device channels all =
    each_map PlainServed (λ (c : Carried). c.served) (seats_of device channels) (each_filter (λ (c : Carried). PlainServed c.served) (λ c. nat_eq c.opening.device device) channels all)

grows_plain : (device : ℕ) (channels : List Carried) (before after : List (List Recorded)) → EachGrows device channels before after → AllByRecursion (λ c. PlainServed c.served) channels → AllByRecursion PlainLog before → AllByRecursion PlainLog after
grows_plain device channels [] [] each all old = tt
grows_plain device channels (b ∷ before) (a ∷ after) each all old = (
  grows_with PlainAsk b a (map (λ (c : Carried). c.served) (seats_of device channels)) each.0 old.0 (seats_plain device channels all),
  grows_plain (device + 1) channels before after each.1 all old.1,
)
grows_plain device channels _ _ each all old = absurd each

run_plain : (version : ℕ) (specs : List DeviceSpec) (number next : ℕ) (earlier : List Line) (ps : List (List Line)) (before : List (List Recorded)) (settled : List ChannelRun) (after : List (List Recorded)) (results : List LineResult)
    → RunsOf (phases_from version specs number next earlier ps) before settled after results → AllByRecursion (AllByRecursion PlainLine) ps → AllByRecursion PlainLog before → AllByRecursion PlainLog after
run_plain version specs number next earlier [] before settled after results over plain old = old
run_plain version specs number next earlier (part ∷ rest) before settled after results (then_on {p = p} {between = between} {settled = later} {results = more} one on) plain old =
    run_plain version specs (number + 1) _ (earlier ++ part) rest between later after more on plain.1 (grows_plain 0 one.channels before between one.histories (channels_plain p one.channels one.each plain.0) old)

none_before : (kinds : List DeviceSpec) → AllByRecursion PlainLog (map (λ k. []) kinds)
none_before [] = tt
none_before (k ∷ kinds) = (tt, none_before kinds)

-- and so those that the channels gave

seats_few : (device : ℕ) (channels : List Carried) → AllByRecursion FewServed (map (λ c. c.served) (seats_of device channels)) → AllByRecursion (λ c. nat_eq c.opening.device device ≡ true → FewServed c.served) channels
seats_few device channels few = each_unfilter (λ (c : Carried). FewServed c.served) (λ c. nat_eq c.opening.device device) channels (each_unmap FewServed (λ (c : Carried). c.served) (seats_of device channels) few)

record FewBefore (device : ℕ) (channels : List Carried) (before after : List (List Recorded)) : Type 0 where
  pub logs : AllByRecursion FewLog before
  pub long : length after ≡ length before
  pub served : (j : ℕ) → (device ≤ j) × (j < device + length before) → AllByRecursion (λ c. nat_eq c.opening.device j ≡ true → FewServed c.served) channels

grows_few : (device : ℕ) (channels : List Carried) (before after : List (List Recorded)) → EachGrows device channels before after → AllByRecursion FewLog after → FewBefore device channels before after
grows_few device channels [] [] each few = record { logs = tt; long = refl; served = λ j within. absurd (omega (arith, within.0, within.1)) }
grows_few device channels (b ∷ before) (a ∷ after) each few =
    let here = entries_with FewReply b a (map (λ (c : Carried). c.served) (seats_of device channels)) each.0 few.0 in
    let rest = grows_few (device + 1) channels before after each.1 few.1 in
    record {
      logs = (here.0, rest.logs);
      long = ap suc rest.long;
      served = λ j within.
          by_test (nat_eq device j)
          (λ is. let same : device ≡ j = grind (arith, nat_tests, is) in subst (λ k. AllByRecursion (λ c. nat_eq c.opening.device k ≡ true → FewServed c.served) channels) same (seats_few device channels here.1))
          (λ is. let low : device + 1 ≤ j = grind (arith, nat_tests, is, within.0) in rest.served j (low, omega (arith, within.1)));
    }
grows_few device channels _ _ each few = absurd each

-- each channel is one of a device that was offered

abbrev Within : ℕ → Opening → Type 0
Within many o = o.device < many

subs_within : (many device : ℕ) (spec : DeviceSpec) (sub relid n : ℕ) (rest : List Opening) → device < many → AllByRecursion (Within many) rest → AllByRecursion (Within many) (subs_from device spec sub relid n ++ rest)
subs_within many device spec sub relid zero rest less all = all
subs_within many device spec sub relid (suc n) rest less all = (less, subs_within many device spec (sub + 1) (relid + 1) n rest less all)

opened_within : (f : ℕ → Bool) (many place next : ℕ) (specs : List DeviceSpec) → place + length specs ≡ many → AllByRecursion (Within many) (opened_from f place next specs)
opened_within f many place next [] is = tt
opened_within f many place next (k ∷ specs) is =
    by_flag (f place) (opened_from f (place + 1) (next + subs_of k) specs) (opened_from f (place + 1) next specs) (opened_within f many (place + 1) (next + subs_of k) specs (omega (arith, is))) (opened_within f many (place + 1) next specs (omega (arith, is)))
  where
    by_flag : (b : Bool) (on off : List Opening) → AllByRecursion (Within many) on → AllByRecursion (Within many) off → AllByRecursion (Within many) (if b then channels_from place k next ++ on else off)
    by_flag true on off e f = (omega (arith, is), subs_within many place k 1 next (subs_of k) on (omega (arith, is)) e)
    by_flag false on off e f = f

channels_few : (many : ℕ) (channels : List Carried) → AllByRecursion (λ c. Within many c.opening) channels → AllByRecursion (λ c. (j : ℕ) → (0 ≤ j) × (j < 0 + many) → nat_eq c.opening.device j ≡ true → FewServed c.served) channels
    → AllByRecursion (λ c. FewServed c.served) channels
channels_few many [] within few = tt
channels_few many (c ∷ channels) within few =
    let here : nat_eq c.opening.device c.opening.device ≡ true = grind (arith, nat_tests) in
    (few.0 c.opening.device (omega arith, omega (arith, within.0)) here, channels_few many channels within.1 few.1)

-- where outcomes come from, and how much room the lines have

abbrev Each2 : {A B : Type 0} → (A → B → Type 0) → List A → List B → Type 0
Each2 P [] [] = Unit {0}
Each2 P (x ∷ xs) (y ∷ ys) = P x y × Each2 P xs ys
Each2 P _ _ = ⊥

each2_append : {A B : Type 0} (P : A → B → Type 0) (xs xs' : List A) (ys ys' : List B) → Each2 P xs ys → Each2 P xs' ys' → Each2 P (xs ++ xs') (ys ++ ys')
each2_append P [] xs' [] ys' first second = second
each2_append P (x ∷ xs) xs' (y ∷ ys) ys' first second = (first.0, each2_append P xs xs' ys ys' first.1 second)
each2_append P _ xs' _ ys' first second = absurd first

-- what each line that prints has
abbrev sent_by : What → List ℕ
sent_by (IsContact guest host) = 0 ∷ []
sent_by (IsAsk d ask) = room_of ask ∷ []
sent_by (IsModify d vp) = 0 ∷ []
sent_by _ = []

abbrev sent_in : List Line → List ℕ
sent_in [] = []
sent_in (l ∷ lines) = sent_by l.what ++ sent_in lines

-- an outcome is known, or that of a request that a device of the script is asked
record AskedAt (specs : List DeviceSpec) (part : List Line) (device k n : ℕ) : Type 0 where
  pub ask : Ask
  pub at : slice_get (asks_of device part) k ≡ Some ask
  pub sent : room_of ask ≡ n
  pub spec : DeviceSpec
  pub offered : slice_get specs device ≡ Some spec

abbrev FineSource : List DeviceSpec → List Line → Source → ℕ → Type 0
FineSource specs part (Known result) n = result_room result ≤ n
FineSource specs part (AskedOf device k) n = AskedAt specs part device k n

ended_fine : (specs : List DeviceSpec) (part : List Line) (r s : Bool) (device k n : ℕ) → AskedAt specs part device k n → FineSource specs part (known_or (if r then Some Gone else if s then Some Closed else None) (AskedOf device k)) n
ended_fine specs part true s device k n here = omega arith
ended_fine specs part false true device k n here = omega arith
ended_fine specs part false false device k n here = here

moved_fine : (specs : List DeviceSpec) (part : List Line) (r s : Bool) (version vp : ℕ) → FineSource specs part (known_or (if r then Some Gone else if s then Some Closed else None) (Known (modified_by version vp))) 0
moved_fine specs part true s version vp = omega arith
moved_fine specs part false true version vp = omega arith
moved_fine specs part false false version vp = by_version (answers_modify version) (has_modify version)
  where
    by_version : (answered known : Bool) → result_room (if answered then Modified vp true else if known then Modified vp false else Unsupported) ≤ 0
    by_version true known = omega arith
    by_version false true = omega arith
    by_version false false = omega arith

asks_append : (device : ℕ) (xs ys : List Line) → asks_of device (xs ++ ys) ≡ asks_of device xs ++ asks_of device ys
asks_append device xs ys =
    ap (flat_map asked) (flat_map-append (λ (l : Line). heard_by device (said l.what)) xs ys) ∙ flat_map-append asked (said_to device xs) (said_to device ys)

asks_here : (device : ℕ) (ask : Ask) (l : Line) (rest : List Line) → l.what ≡ IsAsk device ask → asks_of device (l ∷ rest) ≡ ask ∷ asks_of device rest
asks_here device ask l rest is =
    let own : (device == device) ≡ true = grind (arith, nat_tests) in
    ap (λ w. flat_map asked (heard_by device (said w) ++ said_to device rest)) is ∙ ap (λ b. flat_map asked ((if b then Asks ask ∷ [] else []) ++ said_to device rest)) own

get_behind : {X : Type 0} (xs ys : List X) (x : X) → slice_get (xs ++ x ∷ ys) (length xs) ≡ Some x
get_behind [] ys x = refl
get_behind (y ∷ xs) ys x = get_behind xs ys x

ask_there : (part before rest : List Line) (l : Line) (device : ℕ) (ask : Ask) → part ≡ before ++ l ∷ rest → l.what ≡ IsAsk device ask → slice_get (asks_of device part) (length (asks_of device before)) ≡ Some ask
ask_there part before rest l device ask is what =
    ap (λ ls. slice_get (asks_of device ls) (length (asks_of device before))) is
    ∙ (ap (λ asks. slice_get asks (length (asks_of device before))) (asks_append device before (l ∷ rest) ∙ ap (λ asks. asks_of device before ++ asks) (asks_here device ask l rest what))
    ∙ get_behind (asks_of device before) (asks_of device rest) ask)

offered_spec : (specs : List DeviceSpec) (device : ℕ) (kind : DeviceKind) → slice_get (map kind_of specs) device ≡ Some kind → (spec : DeviceSpec) × (slice_get specs device ≡ Some spec)
offered_spec [] device kind at = absurd (cc)
offered_spec (s ∷ specs) zero kind at = (s, refl)
offered_spec (s ∷ specs) (suc device) kind at = offered_spec specs device kind at

source_fine : (specs : List DeviceSpec) (p : Phase) (before rest : List Line) (l : Line) (w : What) → l.what ≡ w → p.part ≡ before ++ l ∷ rest → IsRight specs w → Each2 (FineSource specs p.part) (source_of p before w) (sent_by w)
source_fine specs p before rest l (IsContact guest host) what is right = (omega arith, tt)
source_fine specs p before rest l (IsAsk d ask) what is right =
    let found = offered_spec specs d (kind_asked ask) right in
    (ended_fine specs p.part (is_rescinded d p.earlier) (is_shut d p.earlier) d (length (asks_of d before)) (room_of ask) (record { ask = ask; at = ask_there p.part before rest l d ask is what; sent = refl; spec = found.0; offered = found.1 }), tt)
source_fine specs p before rest l (IsModify d vp) what is right = (moved_fine specs p.part (is_rescinded d p.earlier) (is_shut d p.earlier) p.version vp, tt)
source_fine specs p before rest l _ what is right = tt

sources_fine : (specs : List DeviceSpec) (p : Phase) (before part : List Line) → p.part ≡ before ++ part → AllByRecursion (λ l. IsRight specs l.what) part → Each2 (FineSource specs p.part) (sources_from p before part) (sent_in part)
sources_fine specs p before [] is right = tt
sources_fine specs p before (l ∷ part) is right =
    each2_append (FineSource specs p.part) (source_of p before l.what) (sources_from p (before ++ l ∷ []) part) (sent_by l.what) (sent_in part) (source_fine specs p before part l l.what refl is right.0)
    (sources_fine specs p (before ++ l ∷ []) part (is ∙ sym (append_assoc before (l ∷ []) part)) right.1)

-- the outcomes of a phase

abbrev FewTold : List LineResult → List ℕ → Type 0
FewTold told sent = Each2 (λ (r : LineResult) (n : ℕ). FewFor n r) told sent

module _ (p : Phase) (next : ℕ) (specs : List DeviceSpec) (channels : List Carried) (opened : p.opened ≡ opened_from (is_opened p.earlier p.part) 0 next specs) (are : map (λ c. c.opening) channels ≡ by_relid p.opened) (each : AllByRecursion (IsCarried p) channels)
    (few : AllByRecursion (λ c. FewServed c.served) channels) where
  source_few : (s : Source) (n : ℕ) (r : LineResult) → FineSource specs p.part s n → Some r ≡ outcome_at p channels s → FewFor n r
  source_few (Known result) n r fine is = let same : r ≡ result = cc in subst (FewFor n) (sym same) (omega (arith, fine))
  source_few (AskedOf device k) n r fine is =
      let there = nth_few p next specs channels device fine.spec k fine.ask opened are each few fine.offered fine.at in
      let here : FewFor (room_of fine.ask) r = subst (IfThere (FewFor (room_of fine.ask))) (sym is) there in
      subst (λ m. FewFor m r) fine.sent here

  told_few : (told : List LineResult) (ss : List Source) (sent : List ℕ) → map (λ r. Some r) told ≡ map (outcome_at p channels) ss → Each2 (FineSource specs p.part) ss sent → FewTold told sent
  told_few [] [] [] is fine = tt
  told_few (r ∷ told) (s ∷ ss) (n ∷ sent) is fine =
      let head : Some r ≡ outcome_at p channels s = cc in
      let tail : map (λ r. Some r) told ≡ map (outcome_at p channels) ss = cc in
      (source_few s n r fine.0 head, told_few told ss sent tail fine.1)
  told_few _ _ _ is fine = absurd (first_of (assumption (fine), cc (is)))

record FewPhase (before : List (List Recorded)) (after : List (List Recorded)) (told : List LineResult) (sent : List ℕ) : Type 0 where
  pub logs : AllByRecursion FewLog before
  pub told_few : FewTold told sent

phase_few : (p : Phase) (next : ℕ) (specs : List DeviceSpec) (before after : List (List Recorded)) (runs : List ChannelRun) (told : List LineResult) → PhaseRuns p before after runs told → p.opened ≡ opened_from (is_opened p.earlier p.part) 0 next specs
    → AllByRecursion (Within (length before)) p.opened → AllByRecursion (λ l. IsRight specs l.what) p.part → AllByRecursion FewLog after → FewPhase before after told (sent_in p.part)
phase_few p next specs before after runs told one opened within right few =
    let channels = one.channels in
    let back = grows_few 0 channels before after one.histories few in
    let relids : AllByRecursion (Within (length before)) (by_relid p.opened) =
    each_append (Within (length before)) (firsts p.opened) (others p.opened) (each_filter (Within (length before)) is_first p.opened within) (each_filter (Within (length before)) (λ o. not (is_first o)) p.opened within) in
    let inside = each_unmap (Within (length before)) (λ (c : Carried). c.opening) channels (subst (AllByRecursion (Within (length before))) (sym one.opened) relids) in
    let served = channels_few (length before) channels inside (each_swap (λ (j : ℕ) (c : Carried). nat_eq c.opening.device j ≡ true → FewServed c.served) (λ j. (0 ≤ j) × (j < 0 + length before)) channels back.served) in
    record {
      logs = back.logs;
      told_few = told_few p next specs channels opened one.opened one.each served told (sources_from p [] p.part) (sent_in p.part) one.outcomes (sources_fine specs p [] p.part refl right);
    }

-- how many histories there are
grows_long : (device : ℕ) (channels : List Carried) (before after : List (List Recorded)) → EachGrows device channels before after → length after ≡ length before
grows_long device channels [] [] each = refl
grows_long device channels (b ∷ before) (a ∷ after) each = ap suc (grows_long (device + 1) channels before after each.1)
grows_long device channels _ _ each = absurd each

-- what all phases have
abbrev sent_all : List (List Line) → List ℕ
sent_all [] = []
sent_all (part ∷ parts) = sent_in part ++ sent_all parts

run_few : (version : ℕ) (specs : List DeviceSpec) (number next : ℕ) (earlier : List Line) (ps : List (List Line)) (before : List (List Recorded)) (settled : List ChannelRun) (after : List (List Recorded)) (results : List LineResult)
    → length before ≡ length specs → AllByRecursion (AllByRecursion (λ l. IsRight specs l.what)) ps → RunsOf (phases_from version specs number next earlier ps) before settled after results → AllByRecursion FewLog after
    → AllByRecursion FewLog before × FewTold results (sent_all ps)
run_few version specs number next earlier [] before settled after results many right over few = (few, tt)
run_few version specs number next earlier (part ∷ rest) before settled after results many right (then_on {p = p} {between = between} {runs = runs} {settled = later} {told = told} {results = more} one on) few =
    let behind = run_few version specs (number + 1) _ (earlier ++ part) rest between later after more (grows_long 0 one.channels before between one.histories ∙ many) right.1 on few in
    let here = phase_few p next specs before between runs told one refl (opened_within (is_opened earlier part) (length before) 0 next specs (omega (arith, many))) right.0 behind.0 in
    (here.logs, each2_append (λ (r : LineResult) (n : ℕ). FewFor n r) told more (sent_in part) (sent_all rest) here.told_few behind.1)

-- in all

abbrev in_all : List ℕ → ℕ
in_all [] = 0
in_all (n ∷ ns) = n + in_all ns

all_append : (xs ys : List ℕ) → in_all (xs ++ ys) ≡ in_all xs + in_all ys
all_append [] ys = omega arith
all_append (x ∷ xs) ys = omega (arith, all_append xs ys)

sum_few : (results : List LineResult) (sent : List ℕ) → FewTold results sent → room_back results ≤ in_all sent
sum_few [] [] few = omega arith
sum_few (r ∷ results) (n ∷ sent) few = omega (arith, sum_by-cons result_room r results, few.0, sum_few results sent few.1)
sum_few _ _ few = absurd few

line_sent : (w : What) → in_all (sent_by w) ≡ room_in w
line_sent (IsAsk d ask) = omega arith
line_sent _ = refl

-- the phases' lines are the script's

onto_sent : (l : Line) (ps : List (List Line)) → in_all (sent_all (onto_first l ps)) ≡ room_in l.what + in_all (sent_all ps)
onto_sent l [] = omega (arith, all_append (sent_by l.what ++ []) [], all_append (sent_by l.what) [], line_sent l.what)
onto_sent l (p ∷ ps) = omega (arith, all_append (sent_by l.what ++ sent_in p) (sent_all ps), all_append (sent_by l.what) (sent_in p), all_append (sent_in p) (sent_all ps), line_sent l.what)

split_sent : (l : Line) (w : What) → l.what ≡ w → (ps : List (List Line)) → in_all (sent_all (cond (is_phase w) ([] ∷ ps) (onto_first l ps))) ≡ room_in w + in_all (sent_all ps)
split_sent l IsPhase is ps = omega arith
split_sent l _ is ps = onto_sent l ps ∙ ap (λ w. room_in w + in_all (sent_all ps)) is

parts_sent : (lines : List Line) → in_all (sent_all (slice_split ends_part lines)) ≡ room_by lines
parts_sent [] = refl
parts_sent (l ∷ lines) = omega (arith, split_sent l l.what refl (slice_split ends_part lines), parts_sent lines)

-- what a script says is right

all_right : (kinds : List DeviceSpec) (lines : List Line) → AllRight kinds lines → AllByRecursion (λ l. IsRight kinds l.what) lines
all_right kinds [] right = tt
all_right kinds (l ∷ lines) right = (right.0, all_right kinds lines right.1)

device_right : (kinds : List DeviceSpec) (w : What) → IsRight kinds w → AllByRecursion IsDevice (offered_by w)
device_right kinds (IsOffer name spec) right = (right, tt)
device_right kinds _ right = tt

devices_right : (kinds : List DeviceSpec) (lines : List Line) → AllRight kinds lines → AllByRecursion IsDevice (offered lines)
devices_right kinds [] right = tt
devices_right kinds (l ∷ lines) right = each_append IsDevice (offered_by l.what) (offered lines) (device_right kinds l.what right.0) (devices_right kinds lines right.1)

pub few_runs_back_lem : FewRunsBack
few_runs_back_lem bytes lines settled histories results reads script run =
    let specs = offered lines in
    let plain = each_split PlainLine ends_part lines (script_plain bytes lines reads) in
    let right = each_split (λ (l : Line). IsRight specs l.what) ends_part lines (all_right specs lines script.right) in
    let logs = run_plain (agreed_in lines) specs 0 (length specs + 1) [] (parts lines) _ settled _ results run.phases_run plain (none_before specs) in
    let few = histories_few lines 0 specs histories (devices_right specs lines script.right) run.legal logs in
    let told = (run_few (agreed_in lines) specs 0 (length specs + 1) [] (parts lines) _ settled _ results (length-map specs (λ k. [])) right run.phases_run few).1 in
    omega (arith, sum_few results (sent_all (parts lines)) told, parts_sent lines)

-- a key-value line has the most room of all, beside the bytes that messages sent

ask_most : (ask : Ask) → room_of ask ≤ 1278 + 24 * data_of ask
ask_most (AskNet message) = omega arith
ask_most _ = omega arith

room_most : (w : What) → room_in w ≤ 1278 + 24 * data_in w
room_most (IsAsk d ask) = omega (arith, ask_most ask)
room_most _ = omega arith

all_room : (lines : List Line) → room_by lines ≤ 1278 * length lines + 24 * data_by lines
all_room [] = omega arith
all_room (l ∷ lines) = omega (arith, room_most l.what, all_room lines)

pub report_fits_lem : ReportFits
report_fits_lem bytes lines settled histories results reads short script run =
    omega (arith, few_runs_back_lem bytes lines settled histories results reads script run, all_room lines, script.short, data_stands bytes lines reads, short)
