-- What was served follows from what was carried, and the outcomes follow from the lists of both ends.
use Rattle.std.proofs.Common.{◌≡◌, ℕ, zero, suc, ◌-◌, min, Bool, true, false, List, [], ◌∷◌, ◌++◌, map, take, drop, replicate, filter, length, refl, sym, ap, ◌∙◌, arith, Option, Some, None}
use Rattle.std.specs.Prelude.{nat_le, filter_map, if◌then◌else◌}
use Rattle.std.specs.List.{AllByRecursion, cons_option}
use Rattle.std.proofs.lemmas.List.{length-map, map-append}
use Rattle.scsi_disk.proofs.RoomLaws.{by_test}
use Rattle.contact.specs.declared.kind.DeviceKind.{DeviceKind}
use Rattle.contact.specs.declared.kind.DeviceKind.TheVariants.{Net}
use Rattle.page_kept.specs.declared.item.Item.{Item}
use Rattle.io_edge.specs.declared.side.Side.TheVariants.{Guest, Host}
use Rattle.script_lines.specs.declared.line.Ask.{Ask}
use Rattle.script_lines.specs.declared.line.Ask.TheVariants.{Net as AskNet}
use Rattle.bus_script.specs.declared.outcome.LineResult.TheVariants.{Unserved as IsUnserved}
use Rattle.bus_script.specs.declared.outcome.Reply.{Reply}
use Rattle.device_kinds.specs.Kinds.{DeviceWant as Want, IsAskable}
use Rattle.device_wire.specs.declared.want.Want.TheVariants.{Request as Script}
use Rattle.device_kinds.specs.Formats.{no_lists, format_of, read_on, asked_as}
use Rattle.device_wire.specs.declared.buffer_lists.BufferLists.{BufferLists}
use Rattle.device_kinds.proofs.KindLaws.{same_starts, keeps, start_is_fixed, asked_is}
use Rattle.channel_model.specs.Asker.{Encoded}
use Rattle.channel_model.specs.Channel.{AllFixed, count_of, IsProtocolRun}
use Rattle.channel_model.specs.Outcome.{Outcome, Unserved, done_of, served_of, outcomes_of as work_outcomes}
use Rattle.channel_model.proofs.Outcomes.{lines}
use Rattle.device_kinds.specs.Served.{Served, done_of as line_done}
use Rattle.bus_model.specs.Orders.{Order, plan_of, startup_of}
use Rattle.bus_model.specs.Channel.{script_ids, asked_under, served_count, replies_to, rescinded_of, outcomes_by}
use Rattle.bus_model.specs.Laws.{ServesFirst, AsksAsScripted, ListsTell, line_of}
use Rattle.bus_model.proofs.Arriving.{serves_each_lem}

-- served is what was asked first

map_first : {A B : Type 0} (f : A → Option B) (x : A) (xs : List A) (y : B) → f x ≡ Some y → filter_map f (x ∷ xs) ≡ y ∷ filter_map f xs
map_first f x xs y e = grind (arith, e)

map_past : {A B : Type 0} (f : A → Option B) (x : A) (xs : List A) → f x ≡ None → filter_map f (x ∷ xs) ≡ filter_map f xs
map_past f x xs e = grind (arith, e)

same_front : {A B : Type 0} (f : A → Option B) (x : A) (xs ys : List A) → filter_map f xs ≡ filter_map f ys → filter_map f (x ∷ xs) ≡ filter_map f (x ∷ ys)
same_front f x xs ys e = ap (cons_option (f x)) e

kept : {X : Type 0} (f : X → Bool) (x : X) (xs : List X) → f x ≡ true → filter f (x ∷ xs) ≡ x ∷ filter f xs
kept f x xs e = grind (arith, e)

dropped : {X : Type 0} (f : X → Bool) (x : X) (xs : List X) → f x ≡ false → filter f (x ∷ xs) ≡ filter f xs
dropped f x xs e = grind (arith, e)

-- what asks nothing isn't read, so the requests alone are
read_requests : (kind : DeviceKind) (ps : List Item) → filter_map (read_on kind) ps ≡ filter_map (read_on kind) (filter (format_of kind).is_request ps)
read_requests kind [] = refl
read_requests kind (p ∷ ps) =
    by_test ((format_of kind).is_request p)
    (λ yes. same_front (read_on kind) p ps (filter (format_of kind).is_request ps) (read_requests kind ps) ∙ ap (filter_map (read_on kind)) (sym (kept (format_of kind).is_request p ps yes)))
    (λ no.
    let none : read_on kind p ≡ None = (keeps kind).unread p ((keeps kind).asks p no) in
    map_past (read_on kind) p ps none ∙ (read_requests kind ps ∙ ap (filter_map (read_on kind)) (sym (dropped (format_of kind).is_request p ps no))))

script_read : (kind : DeviceKind) (asks : List Ask) (ps : List Item) → AllByRecursion (IsAskable kind) asks → Encoded (format_of kind) (map Script asks) ps → filter_map (read_on kind) ps ≡ asked_under (map (format_of kind).id_of ps) asks
script_read kind asks [] can encoded = refl
script_read kind [] (p ∷ ps) can encoded = absurd encoded
script_read kind (a ∷ asks) (p ∷ ps) can encoded =
    let id = (format_of kind).id_of p in
    let is : read_on kind p ≡ Some (asked_as id a) = ap (read_on kind) encoded.0 ∙ asked_is kind id a can.0 in
    map_first (read_on kind) p ps (asked_as id a) is ∙ ap (λ l. asked_as id a ∷ l) (script_read kind asks ps can.1 encoded.1)

drop_none : {X : Type 0} (xs : List X) → drop 0 xs ≡ xs
drop_none [] = refl
drop_none (x ∷ xs) = refl

plan_read : (kind : DeviceKind) (start : List Want) (asks : List Ask) (ps : List Item) → AllFixed (format_of kind) start → AllByRecursion (IsAskable kind) asks → Encoded (format_of kind) (start ++ map Script asks) ps
    → filter_map (read_on kind) ps ≡ asked_under (map (format_of kind).id_of (drop (length start) ps)) asks
plan_read kind [] asks ps fixed can encoded = script_read kind asks ps can encoded ∙ ap (λ l. asked_under (map (format_of kind).id_of l) asks) (sym (drop_none ps))
plan_read kind (a ∷ start) asks [] fixed can encoded = refl
plan_read kind (a ∷ start) asks (p ∷ ps) fixed can encoded =
    let is : read_on kind p ≡ None = ap (read_on kind) encoded.0 ∙ fixed.0 _ in
    map_past (read_on kind) p ps is ∙ plan_read kind start asks ps fixed.1 can encoded.1

take_front : {X : Type 0} (xs rest : List X) (n : ℕ) → length xs ≡ n → take n (xs ++ rest) ≡ xs
take_front [] rest zero e = take_zero rest
  where
    take_zero : {X : Type 0} (xs : List X) → take 0 xs ≡ []
    take_zero [] = refl
    take_zero (x ∷ xs) = refl
take_front [] rest (suc n) e = absurd (cc)
take_front (x ∷ xs) rest zero e = absurd (cc)
take_front (x ∷ xs) rest (suc n) e = ap (λ l. x ∷ l) (take_front xs rest n (omega (arith, e)))

first_asked : (order : Order) (tells : BufferLists) (sent got server_sent server_got : List Item) (served : List Served) (told : List Reply) → AllByRecursion (IsAskable order.kind) order.asks
    → IsProtocolRun (format_of order.kind) (plan_of tells order) sent got server_sent server_got served told → map (λ s. s.request) served ≡ take (served_count order) (asked_under (script_ids order sent) order.asks)
first_asked order tells sent got server_sent server_got served told can run =
    let requests = filter (format_of order.kind).is_request sent in
    let read : filter_map (read_on order.kind) sent ≡ asked_under (script_ids order sent) order.asks =
    read_requests order.kind sent ∙ (plan_read order.kind (startup_of tells order) order.asks requests (start_is_fixed order.kind order.sub order.subs tells) can run.requests
    ∙ ap (λ n. asked_under (map (format_of order.kind).id_of (drop n requests)) order.asks) (same_starts order.kind order.sub order.subs tells no_lists)) in
    let whole : asked_under (script_ids order sent) order.asks ≡ map (λ (s : Served). s.request) served ++ run.asked.0 = sym read ∙ run.asked.1 in
    let count : length (map (λ (s : Served). s.request) served) ≡ served_count order = length-map served (λ s. s.request) ∙ (run.count ∙ ap (count_of order.stop) (length-map order.asks Script)) in
    sym (ap (take (served_count order)) whole ∙ take_front (map (λ (s : Served). s.request) served) run.asked.0 (served_count order) count)

pub serves_first_lem : ServesFirst
serves_first_lem Guest order tells lists served can run = first_asked order tells _ _ _ _ served _ can run
serves_first_lem Host order tells lists served can run = first_asked order tells _ _ _ _ served _ can run

-- requests of other kinds than a network's are the same under each id

same_ask : (kind : DeviceKind) (id : ℕ) (ask : Ask) → (kind ≡ Net → ⊥) → IsAskable kind ask → asked_as id ask ≡ ask
same_ask Net id (AskNet message) other can = absurd (other refl)
same_ask _ id (AskNet message) other can = absurd can
same_ask _ id _ other can = refl

none_under : (asks : List Ask) → [] ≡ take 0 asks
none_under [] = refl
none_under (a ∷ asks) = refl

same_under : (kind : DeviceKind) (ids : List ℕ) (asks : List Ask) → (kind ≡ Net → ⊥) → AllByRecursion (IsAskable kind) asks → asked_under ids asks ≡ take (length ids) asks
same_under kind [] asks other can = none_under asks
same_under kind (id ∷ ids) [] other can = refl
same_under kind (id ∷ ids) (a ∷ asks) other can =
    ap (λ x. x ∷ asked_under ids asks) (same_ask kind id a other can.0) ∙ ap (λ l. a ∷ l) (same_under kind ids asks other can.1)

pub as_scripted : AsksAsScripted
as_scripted order ids other can = same_under order.kind ids order.asks other can

-- the two lists make the outcomes

done_lines : (served : List Served) → map line_of (map done_of served) ≡ map line_done served
done_lines [] = refl
done_lines (c ∷ served) = ap (λ l. line_done c ∷ l) (done_lines served)

held_lines : (served : List Served) → map line_of (map served_of served) ≡ map rescinded_of served
held_lines [] = refl
held_lines (c ∷ served) = ap (λ l. rescinded_of c ∷ l) (held_lines served)

rest_lines : (n : ℕ) → map line_of (replicate n Unserved) ≡ replicate n IsUnserved
rest_lines zero = refl
rest_lines (suc n) = ap (λ l. IsUnserved ∷ l) (rest_lines n)

if_lines : (b : Bool) (xs ys : List (Outcome Reply)) → map line_of (if b then xs else ys) ≡ (if b then map line_of xs else map line_of ys)
if_lines true xs ys = refl
if_lines false xs ys = refl

table_same : (stop : Option (ℕ × Bool)) (m : ℕ) (served : List Served) → map line_of (work_outcomes stop m served) ≡ outcomes_by stop m served
table_same None m served = done_lines served
table_same (Some (k, false)) m served = map-append line_of (map done_of served) (replicate (m - min k m) Unserved) ∙ (ap (λ l. l ++ map line_of (replicate (m - min k m) Unserved)) (done_lines served) ∙ ap (λ l. map line_done served ++ l) (rest_lines (m - min k m)))
table_same (Some (k, true)) m served =
    let some : map line_of (map done_of (take (k - 1) served) ++ (map served_of (drop (k - 1) served) ++ replicate (m - k) Unserved)) ≡ map line_done (take (k - 1) served) ++ (map rescinded_of (drop (k - 1) served) ++ replicate (m - k) IsUnserved) =
    map-append line_of (map done_of (take (k - 1) served)) (map served_of (drop (k - 1) served) ++ replicate (m - k) Unserved)
    ∙ (ap (λ l. l ++ map line_of (map served_of (drop (k - 1) served) ++ replicate (m - k) Unserved)) (done_lines (take (k - 1) served))
    ∙ ap (λ l. map line_done (take (k - 1) served) ++ l) (map-append line_of (map served_of (drop (k - 1) served)) (replicate (m - k) Unserved)
    ∙ (ap (λ l. l ++ map line_of (replicate (m - k) Unserved)) (held_lines (drop (k - 1) served)) ∙ ap (λ l. map rescinded_of (drop (k - 1) served) ++ l) (rest_lines (m - k))))) in
    if_lines (nat_le k m) _ (map done_of served)
    ∙ (ap (λ l. if nat_le k m then l else map line_of (map done_of served)) some
    ∙ ap (λ l. if nat_le k m then map line_done (take (k - 1) served) ++ (map rescinded_of (drop (k - 1) served) ++ replicate (m - k) IsUnserved) else l) (done_lines served))

pub lists_tell_lem : ListsTell
lists_tell_lem order lists served run =
    ap (map line_of) (lines (format_of order.kind) order.stop (length order.asks) served (map (λ s. s.reply) (replies_to order served)) (serves_each_lem order lists served run) refl) ∙ table_same order.stop (length order.asks) served
