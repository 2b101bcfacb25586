-- What stands in a script can be asked, and what a start-up asks has answers.
use Rattle.std.proofs.Common.{◌≡◌, ◌+◌, ◌-◌, Bool, ap, map, ◌<◌, ◌≤◌, ℕ, zero, suc, List, [], ◌∷◌, length, filter, get_or, take, ◌++◌, ◌∙◌, Option, Some, None, is_some, Result, Ok, Err, refl, sym, subst, arith}
use Rattle.std.proofs.lemmas.List.{length-append, length-map, take_all, take_more}
use Rattle.std.specs.Prelude.{IfOk}
use Rattle.std.specs.List.{AllByRecursion}
use Rattle.wire_table.proofs.RowLaws.{IsBytes, all_bytes}
use Rattle.chan_state.specs.declared.stop.Stop.{Stop}
use Rattle.contact.specs.declared.kind.DeviceKind.{DeviceKind}
use Rattle.contact.specs.declared.kind.DeviceKind.TheVariants.{Disk, Net}
use Rattle.scsi_disk.specs.declared.command.Command.{Command}
use Rattle.scsi_disk.specs.declared.command.Command.TheVariants.{Write}
use Rattle.scsi_disk.specs.declared.request.DiskRequest.{DiskRequest}
use Rattle.stor_proto.specs.Srbs.{bytes_moved, data_for}
use Rattle.script_lines.specs.Parts.{kind_asked}
use Rattle.script_lines.specs.Requests.{CanBeCarried, most_moved, bytes_written}
use Rattle.script_lines.specs.WellFormed.{CanGo}
use Rattle.script_lines.specs.declared.line.Ask.{Ask}
use Rattle.disk_format.specs.PageDisks.{IsPageAsk}
use Rattle.device_kinds.specs.Formats.{has_answer_on, ChannelScript, asks_of, no_lists, startup}
use Rattle.device_kinds.specs.Kinds.{DeviceWant}
use Rattle.device_wire.specs.declared.buffer_lists.BufferLists.{BufferLists}
use Rattle.device_wire.specs.declared.want.Want.TheVariants.{Request as Script}
use Rattle.device_kinds.proofs.KindLaws.{same_starts, answers_counted}
use Rattle.worker_pair.specs.Plans.{AllCarried, ServesFor, planned, silent, stop_of}
use Rattle.worker_pair.specs.declared.channel_plan.ChannelPlan.{ChannelPlan}
use Rattle.worker_server.specs.Serving.{Serving}
use Rattle.channel_model.specs.Channel.{count_of, held_of}
use Rattle.bus_script.specs.declared.outcome.Reply.{Reply}
use Rattle.device_any.specs.Seats.{served_at}
use Rattle.device_any.specs.declared.device_seat.DeviceSeat.{DeviceSeat}
use Rattle.ring_seat.specs.declared.table_seat.TableSeat.{TableSeat}

-- a command moves as many bytes on its channel as the script says
moved : (k : Option Command) (n : ℕ) → n ≡ bytes_written k → bytes_moved k n ≤ most_moved k
moved (Some (Write l c)) n is = omega (arith, is)
moved _ n is = omega arith

none_is : (out : List ℕ) → length out ≡ 0 → [] ≡ out
none_is [] is = refl
none_is (b ∷ out) is = absurd (omega arith)

-- and has the data that it writes
own : (k : Option Command) (out : List ℕ) → length out ≡ bytes_written k → data_for k (length out) out ≡ out
own (Some (Write l c)) out is = take_all (length out) out (omega arith)
own _ out is = none_is out is

pub carried_can : (q : DiskRequest) → CanBeCarried q → IsBytes q.cdb → IsBytes q.out → IsPageAsk q
carried_can q carried cdb_bytes out_bytes = record {
  built = carried.built;
  few = omega (arith, carried.moves, moved _ (length q.out) carried.writes);
  own = own _ q.out carried.writes;
  len = carried.bytes;
  cdb_bytes = all_bytes q.cdb cdb_bytes;
  out_bytes = all_bytes q.out out_bytes;
}

-- each request at a place of a list of which all are carried
pub carried_at : (kind : DeviceKind) (asks : List Ask) (i : ℕ) (d : Ask) → AllCarried kind asks → i < length asks → (kind_asked (get_or asks i d) ≡ kind) × CanGo (get_or asks i d)
carried_at kind [] i d all below = absurd (omega arith)
carried_at kind (a ∷ asks) zero d all below = (all.0, all.1)
carried_at kind (a ∷ asks) (suc i) d all below = carried_at kind asks i d all.2 (omega arith)

-- how much a protocol has to ask
pub asks_length : (kind : DeviceKind) (sub subs : ℕ) (lists : BufferLists) (asks : List Ask) (protocol : ChannelScript) → protocol ≡ record { kind = kind; sub = sub; subs = subs; lists = lists; asks = asks }
    → length (asks_of protocol) ≡ length (startup kind sub subs no_lists) + length asks
asks_length kind sub subs lists asks protocol is =
    omega (arith, ap (λ (t : ChannelScript). length (asks_of t)) is, length-append (startup kind sub subs lists) (map Script asks), length-map {B = DeviceWant} asks Script, same_starts kind sub subs lists no_lists)

-- one more of a list that can be asked
all_push : {A : Type 0} (P : A → Type 0) (xs : List A) (x : A) → AllByRecursion P xs → P x → AllByRecursion P (xs ++ x ∷ [])
all_push P [] x all here = (here, tt)
all_push P (y ∷ xs) x all here = (all.0, all_push P xs x all.1 here)

pub all_more : {A : Type 0} (P : A → Type 0) (xs : List A) (i : ℕ) (x : A) → i < length xs → x ≡ get_or xs i x → AllByRecursion P (take i xs) → P x → AllByRecursion P (take (i + 1) xs)
all_more {A} P xs i x below is all here =
    let grown : take (i + 1) xs ≡ take i xs ++ x ∷ [] = take_more xs i x below ∙ ap (λ y. take i xs ++ y ∷ []) (sym is) in
    subst (AllByRecursion P) (sym grown) (all_push P (take i xs) x all here)

-- all requests of a start-up have answers, but for the version that a network is told
pub starts_all : (kind : DeviceKind) (sub subs : ℕ) → length (filter (has_answer_on kind) (startup kind sub subs no_lists)) + silent kind sub ≡ length (startup kind sub subs no_lists)
starts_all Disk zero zero = ap (λ n. n + 0) (answers_counted Disk 0 no_lists)
starts_all Disk zero (suc n) = ap (λ n. n + 0) (answers_counted Disk (suc n) no_lists)
starts_all Net zero subs = ap (λ n. n + 1) (answers_counted Net subs no_lists)
starts_all kind zero subs = ap (λ n. n + 0) (answers_counted kind subs no_lists)
starts_all Net (suc s) subs = refl
starts_all _ (suc s) subs = refl

-- a stop is told where there is one
pub stops_told : (stop : Option Stop) → is_some stop ≡ is_some (stop_of stop)
stops_told None = refl
stops_told (Some s) = refl

-- what is made of so many requests of the start-up, of which so many have no answer, serves a plan
pub made_for : (q : ChannelPlan) (asks : List Ask) (seat : DeviceSeat) (t : ChannelScript) (w : Serving ChannelScript DeviceSeat TableSeat Ask Reply) (all none serve : ℕ) (held stops : Bool) → t.kind ≡ q.kind → t.sub ≡ q.sub → t.subs ≡ q.subs
    → all ≡ length (startup t.kind t.sub t.subs t.lists) → none ≡ silent q.kind q.sub → serve ≡ count_of (stop_of q.stop) q.count → held ≡ held_of (stop_of q.stop) q.count → stops ≡ is_some q.stop
    → (w.responder.protocol ≡ t) × (w.responder.seat ≡ seat) × (w.responder.before ≡ served_at seat) → w.responder.relid ≡ q.relid → (w.serve ≡ serve) × (w.responder.held ≡ held) × (w.stops ≡ stops) × (w.starts ≡ all - none) × (w.come ≡ q.count + none) → ServesFor (planned q asks) seat w
made_for q asks seat t w all none serve held stops kind sub subs count silents serve_is held_is stops_is is relid orders =
    let told : all ≡ length (startup q.kind q.sub q.subs no_lists) = count ∙ (same_starts t.kind t.sub t.subs t.lists no_lists ∙ (λ i. length (startup (kind i) (sub i) (subs i) no_lists))) in
    let answered = starts_all q.kind q.sub q.subs in
    record {
      answers = ap (λ (t : ChannelScript). t.kind) is.0 ∙ kind;
      relid = relid;
      seat_is = is.1;
      before = is.2;
      serve = orders.0 ∙ serve_is;
      held = orders.1 ∙ held_is;
      stops = orders.2 ∙ (stops_is ∙ stops_told q.stop);
      starts = omega (arith, orders.3, told, silents, answered);
      come = omega (arith, orders.3, orders.4, told, silents, answered);
    }
