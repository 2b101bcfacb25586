use Rattle.std.proofs.Common.{◌≡◌, ◌*◌, ◌∙◌, ap, sym, length, arith}
use Rattle.io_edge.specs.declared.side.Side.TheVariants.{Guest, Host}
use Rattle.worker_port.specs.Line.{paged_end}
use Rattle.worker_pair.specs.Plans.{Planned, stop_of}
use Rattle.worker_pair.specs.Workers.{end_at}
use Rattle.bus_threads.proofs.Making.{opens, on_channel, made_as, told_on}
use Rattle.bus_threads.proofs.open.open_pair.Goals as goal

pub returns-clause-opens : goal.returns-clause-opens
returns-clause-opens c =
    let plan : Planned = record { relid = c.args.relid; kind = c.args.kind; sub = c.args.sub; subs = c.args.subs; window = c.args.window; count = c.len.result; lists = c.args.lists; stop = stop_of c.args.stop; asks = c.args.asks.items } in
    let made = c.in_ok-guest-2 in
    let count : c.len.result ≡ length c.args.asks.items = omega (arith, c.len.ensures, c.args.asks.ok.0) in
    opens plan c.args.seat c.paired.result count c.requires.fresh (made_as plan c.args.seat made.guest made.host c.paired.result c.paired.ensures made.ensures.made)

pub returns-clause-lists : goal.returns-clause-lists
returns-clause-lists c =
    let plan : Planned = record { relid = c.args.relid; kind = c.args.kind; sub = c.args.sub; subs = c.args.subs; window = c.args.window; count = c.len.result; lists = c.args.lists; stop = stop_of c.args.stop; asks = c.args.asks.items } in
    let made = c.in_ok-guest-2 in
    told_on plan c.args.seat c.paired.result (made_as plan c.args.seat made.guest made.host c.paired.result c.paired.ensures made.ensures.made)

pub returns-clause-channel : goal.returns-clause-channel
returns-clause-channel c =
    let plan : Planned = record { relid = c.args.relid; kind = c.args.kind; sub = c.args.sub; subs = c.args.subs; window = c.args.window; count = c.len.result; lists = c.args.lists; stop = stop_of c.args.stop; asks = c.args.asks.items } in
    let ends = c.in_ok-guest in
    let made = c.in_ok-guest-2 in
    rw (sym c.data_pages.ensures.value)
    (on_channel plan c.args.seat (512 * c.args.pages) c.data_pages.result ends.guest ends.host c.paired.result ends.ensures.guest ends.ensures.host
    (ap (λ w. (end_at w).state) c.paired.ensures.0 ∙ made.ensures.ends.0, ap (λ w. (end_at w).state) c.paired.ensures.1 ∙ made.ensures.ends.1)
    (made_as plan c.args.seat made.guest made.host c.paired.result c.paired.ensures made.ensures.made))

-- each end is new, with the data pages of its kind
pub make_both-requires-clause-guest : goal.make_both-requires-clause-guest
make_both-requires-clause-guest c = (512 * c.args.pages, omega (arith, c.requires.pages), omega (arith, c.requires.pages), c.in_ok-guest.ensures.guest ∙ ap (λ n. paged_end n (512 * c.args.pages) Guest) c.data_pages.ensures.value)

pub make_both-requires-clause-host : goal.make_both-requires-clause-host
make_both-requires-clause-host c = (512 * c.args.pages, omega (arith, c.requires.pages), omega (arith, c.requires.pages), c.in_ok-guest.ensures.host ∙ ap (λ n. paged_end n (512 * c.args.pages) Host) c.data_pages.ensures.value)

pub make_both-requires-clause-plan : goal.make_both-requires-clause-plan
make_both-requires-clause-plan c =
    let count : c.len.result ≡ length c.args.asks.items = omega (arith, c.len.ensures, c.args.asks.ok.0) in
    record {
      window = c.requires.window;
      few = omega (arith, count, c.requires.few);
      subs = c.requires.subs;
      stop = c.requires.stop;
      asks = λ same. (sym count, c.requires.asks);
    }
