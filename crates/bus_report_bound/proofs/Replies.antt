-- The replies of devices have the room of what they were asked.
use Rattle.std.proofs.Common.{◌≡◌, ℕ, ◌+◌, ◌-◌, ◌*◌, ◌≤◌, Bool, true, false, ◌&&◌, List, [], ◌∷◌, ◌++◌, length, length-append, length-drop, refl, sym, subst, arith, Option, Some, None}
use Rattle.std.specs.Prelude.{map, drop, nat_le, slice_range, Result, Ok, Err, if◌then◌else◌}
use Rattle.std.specs.List.{AllByRecursion}
use Rattle.std.proofs.lemmas.List.{length-take}
use Rattle.std.proofs.lemmas.Bool.Decides.{nat_tests}
use Rattle.wire_table.specs.Little.{bytes_of}
use Rattle.wire_table.proofs.LittleLemmas.{length-bytes_of}
use Rattle.hist_lock.specs.declared.history.Entry.{Entry}
use Rattle.hist_lock.specs.History.{entries_of}
use Rattle.hist_lock.specs.Legal.{IsLegal}
use Rattle.scsi_disk.specs.DiskModel.{new_disk}
use Rattle.scsi_disk.specs.declared.request.DiskRequest.{DiskRequest}
use Rattle.scsi_disk.specs.declared.reply.DiskReply.{DiskReply}
use Rattle.scsi_disk.proofs.OneByteLaws.{IsOneByte, new_plain}
use Rattle.rndis_msg.specs.declared.rndis.Rndis.{Rndis}
use Rattle.rndis_msg.specs.declared.rndis.Rndis.TheVariants.{Packet, Initialize, Halt, Query, Set, SetComplete, Reset, ResetComplete, Keepalive, KeepaliveComplete}
use Rattle.rndis_msg.specs.declared.fault.RndisFault.{RndisFault}
use Rattle.rndis_msg.specs.Messages.{body_of}
use Rattle.net_dev.specs.Objects.{answer_for, object_bytes}
use Rattle.net_dev.specs.declared.objects.Answer.{Answer}
use Rattle.net_dev.specs.declared.objects.Answer.TheVariants.{Objects, Number, Filter, Address}
use Rattle.net_dev.specs.declared.reply.NetReply.{NetReply}
use Rattle.net_dev.specs.declared.station.Station.{Station}
use Rattle.net_dev.specs.Station.{is_addressed, turned, frame_back, value_bytes, query_complete, initialize_reply, set_status, station_reply, station_after}
use Rattle.script_lines.specs.declared.line.Line.{Line}
use Rattle.script_lines.specs.declared.line.DeviceSpec.{DeviceSpec}
use Rattle.script_lines.specs.declared.line.DeviceSpec.TheVariants.{Beat, Down, Disk, Net, Kvp}
use Rattle.script_lines.specs.Parts.{bads_of}
use Rattle.script_lines.specs.WellFormed.{IsDevice}
use Rattle.script_lines.proofs.Plain.{PlainAsk}
use Rattle.bus_script.specs.Report.{disk_runs, net_runs}
use Rattle.device_kinds.specs.Served.{message_asked}
use Rattle.device_kinds.specs.Kinds.{services, disks, pairs}
use Rattle.device_kinds.specs.Logs.{Recorded, Logged, calls_of, net_calls, log_by, log_of, new_station, IsHistory, EachHistory}
use Rattle.device_kinds.specs.declared.history.DeviceHistory.{DeviceHistory}
use Rattle.device_kinds.specs.declared.history.DeviceHistory.TheVariants.{Beat as BeatHistory, Down as DownHistory, Disk as DiskHistory, Net as NetHistory, Kvp as KvpHistory}
use Rattle.bus_report_bound.specs.Laws.{data_of, room_of}
use Rattle.bus_report_bound.proofs.Along.{FewReply}
use Rattle.bus_report_bound.proofs.OneByte.{entries_few}
use Rattle.bus_report_bound.proofs.RunCounts.{runs_most}

-- requests that write one byte
abbrev pub PlainLog : List Recorded → Type 0
PlainLog log = AllByRecursion (λ e. PlainAsk e.ask) log

-- replies that have the room of their requests
abbrev pub FewLog : List Recorded → Type 0
FewLog log = AllByRecursion (λ e. FewReply e.ask e.reply) log

-- replies that have no bytes
bare_few : {S Q A : Type 0} (m : Logged Q A) → ((q : Q) (a : A) → FewReply (m.asked q) (m.told a)) → (es : List (Entry S Q A)) → FewLog (log_by m es)
bare_few m each [] = tt
bare_few m each (e ∷ es) = (each e.request e.reply, bare_few m each es)

disk_ones : {S : Type 0} (es : List (Entry S DiskRequest DiskReply)) → PlainLog (log_by (calls_of disks) es) → AllByRecursion (λ e. IsOneByte e.request.out) es
disk_ones [] plain = tt
disk_ones (e ∷ es) plain = (plain.0, disk_ones es plain.1)

disk_few : {S : Type 0} (es : List (Entry S DiskRequest DiskReply)) → AllByRecursion (λ e. disk_runs e.reply ≤ 36) es → FewLog (log_by (calls_of disks) es)
disk_few [] few = tt
disk_few (e ∷ es) few = (omega (arith, few.0), disk_few es few.1)

-- an adapter's replies: a frame comes back as long as it was

few_of_body : (m : Rndis) (n : ℕ) → length (body_of m) ≤ n → net_runs (Some m) ≤ n
few_of_body m n short = omega (arith, runs_most (body_of m), short)

front_short : (frame : List ℕ) → length (slice_range frame 6 12) ≤ 6
front_short frame = omega (arith, length-take (12 - 6) (drop 6 frame))

turned_long : (s : Station) (frame : List ℕ) → length s.station ≡ 6 → 14 ≤ length frame → length (turned s frame) ≤ length frame
turned_long s frame six long =
    omega (arith, six, long, length-append (slice_range frame 6 12) (s.station ++ drop 12 frame), length-append s.station (drop 12 frame), length-drop 12 frame, front_short frame)

long_of : (a b : Bool) → (a && b) ≡ true → a ≡ true
long_of true b e = refl
long_of false b e = absurd (cc)

frame_few : (s : Station) (frame : List ℕ) → length s.station ≡ 6 → net_runs (frame_back s frame) ≤ 40 + length frame
frame_few s frame six = by_flag (is_addressed s frame) refl
  where
    by_flag : (b : Bool) → is_addressed s frame ≡ b → net_runs (if b then Some (Packet (turned s frame)) else None) ≤ 40 + length frame
    by_flag true is =
        let test : nat_le 14 (length frame) ≡ true = long_of (nat_le 14 (length frame)) _ is in
        let long : 14 ≤ length frame = grind (arith, nat_tests, test) in
        few_of_body (Packet (turned s frame)) (40 + length frame) (omega (arith, turned_long s frame six long))
    by_flag false is = omega arith

-- ten numbers of 4 bytes
forty : length object_bytes ≡ 40
unfolding bytes_of
forty = refl

value_short : (s : Station) (answer : Answer) → length s.mac ≡ 6 → length (value_bytes s answer) ≤ 40
value_short s Objects six = omega (arith, forty)
value_short s (Number n) six = omega (arith, length-bytes_of 4 n)
value_short s Filter six = omega (arith, length-bytes_of 4 s.filter)
value_short s Address six = omega (arith, six)

query_few : (s : Station) (request_id : ℕ) (found : Option Answer) → length s.mac ≡ 6 → net_runs (Some (query_complete s request_id found)) ≤ 40
query_few s request_id None six = few_of_body (query_complete s request_id None) 40 (omega arith)
query_few s request_id (Some answer) six = few_of_body (query_complete s request_id (Some answer)) 40 (value_short s answer six)

record HasAddresses (s : Station) : Type 0 where
  pub mac : length s.mac ≡ 6
  pub station : length s.station ≡ 6

station_few : (s : Station) (q : Result Rndis RndisFault) → HasAddresses s → net_runs (station_reply s q).back ≤ 40 + data_of (message_asked q)
station_few s (Err fault) has = omega arith
station_few s (Ok (Packet body)) has = frame_few s body has.station
station_few s (Ok (Initialize request_id major minor max_transfer)) has = few_of_body (initialize_reply request_id) 40 (omega arith)
station_few s (Ok (Halt request_id)) has = omega arith
station_few s (Ok (Query request_id oid body)) has = omega (arith, query_few s request_id (answer_for oid) has.mac)
station_few s (Ok (Set request_id oid body)) has = let none = few_of_body (SetComplete request_id (set_status oid body)) 0 (omega arith) in omega (arith, none)
station_few s (Ok Reset) has = few_of_body (ResetComplete 0 0) 40 (omega arith)
station_few s (Ok (Keepalive request_id)) has = few_of_body (KeepaliveComplete request_id 0) 40 (omega arith)
station_few s (Ok m) has = omega arith

net_room : (q : Result Rndis RndisFault) (back : Option Rndis) → net_runs back ≤ 40 + data_of (message_asked q) → 24 * net_runs back ≤ room_of (message_asked q)
net_room (Ok message) back few = omega (arith, few)
net_room (Err fault) back few = omega (arith, few)

-- its addresses stay
net_few : {S : Type 0} (s : Station) (es : List (Entry S (Result Rndis RndisFault) NetReply)) → HasAddresses s → IsLegal station_after station_reply s es → FewLog (log_by net_calls es)
net_few s [] has log = tt
net_few s (e ∷ es) has log =
    (net_room e.request e.reply.back (subst (λ (r : NetReply). net_runs r.back ≤ 40 + data_of (message_asked e.request)) (sym log.0) (station_few s e.request has)), net_few (station_after s e.request) es (record { mac = has.mac; station = has.station }) log.1)

history_few : (kind : DeviceSpec) (bad : List ℕ) (h : DeviceHistory) → IsDevice kind → IsHistory kind bad h → PlainLog (log_of h) → FewLog (log_of h)
history_few Beat bad (BeatHistory h) device is plain = bare_few (calls_of services) (λ q a. omega arith) (entries_of h)
history_few Down bad (DownHistory h) device is plain = bare_few (calls_of services) (λ q a. omega arith) (entries_of h)
history_few (Disk blocks subs) bad (DiskHistory h) device is plain =
    disk_few (entries_of h) (entries_few (new_disk blocks bad) (entries_of h) (new_plain blocks bad) (disk_ones (entries_of h) plain) is)
history_few (Net mac station) bad (NetHistory h) device is plain = net_few (new_station mac station) (entries_of h) (record { mac = device.0; station = device.1 }) is
history_few Kvp bad (KvpHistory h) device is plain = bare_few (calls_of pairs) (λ q a. omega arith) (entries_of h)
history_few _ bad _ device is plain = absurd is

pub histories_few : (lines : List Line) (device : ℕ) (kinds : List DeviceSpec) (histories : List DeviceHistory) → AllByRecursion IsDevice kinds → EachHistory lines device kinds histories → AllByRecursion PlainLog (map log_of histories)
    → AllByRecursion FewLog (map log_of histories)
histories_few lines device [] [] right each plain = tt
histories_few lines device (k ∷ kinds) (h ∷ histories) right each plain = (history_few k (bads_of device lines) h right.0 each.0 plain.0, histories_few lines (device + 1) kinds histories right.1 each.1 plain.1)
histories_few lines device _ _ right each plain = absurd each
