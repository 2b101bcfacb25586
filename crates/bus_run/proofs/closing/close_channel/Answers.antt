use Rattle.std.proofs.Common.{◌≡◌, ◌∙◌, ◌∷◌, ◌++◌, [], ap, sym, subst, get_or, Some}
use Rattle.bus_threads.specs.Pairs.{RanPair}
use Rattle.ring_pair_laws.specs.Lists.{Lists}
use Rattle.device_any.specs.Boxes.{kind_in}
use Rattle.device_any.specs.Seats.{kind_at}
use Rattle.bus_run.proofs.Opened.{still_open}
use Rattle.device_any.proofs.SeatLaws.{same_kind}
use Rattle.device_any.proofs.Uniting.{is_opened, kind_opened}
use Rattle.bus_run.proofs.closing.close_channel.Goals as goal

pub end_channel-lists-requires : goal.end_channel-lists-requires
end_channel-lists-requires c =
    let w = c.requires in
    let same : w.2 ≡ c.in-Some.done = ap (λ l. get_or l 0 w.2) (sym w.6 ∙ c.in-Some.ensures.items) in
    (w.0, w.1, w.4, subst (RanPair w.0 w.1) same w.7)

pub give_back-requires-clause-kind : goal.give_back-requires-clause-kind
give_back-requires-clause-kind c =
    let w = c.requires in
    let same : w.2 ≡ c.in-Some.done = ap (λ l. get_or l 0 w.2) (sym w.6 ∙ c.in-Some.ensures.items) in
    let ended = c.end_channel-lists.ensures.ended w.0 w.1 w.4 (subst (RanPair w.0 w.1) same w.7) in
    let kind : kind_in c.args.own.now ≡ Some (kind_at c.end_channel-lists.result.1) = w.5 ∙ ap (λ k. Some k) (sym (same_kind w.1 c.end_channel-lists.result.1 ended.same)) in
    kind_opened c.args.own.now (kind_at c.end_channel-lists.result.1) kind

pub give_back-requires-clause-open : goal.give_back-requires-clause-open
give_back-requires-clause-open c =
    let w = c.requires in
    let same : w.2 ≡ c.in-Some.done = ap (λ l. get_or l 0 w.2) (sym w.6 ∙ c.in-Some.ensures.items) in
    let ended = c.end_channel-lists.ensures.ended w.0 w.1 w.4 (subst (RanPair w.0 w.1) same w.7) in
    let kind : kind_in c.args.own.now ≡ Some (kind_at c.end_channel-lists.result.1) = w.5 ∙ ap (λ k. Some k) (sym (same_kind w.1 c.end_channel-lists.result.1 ended.same)) in
    is_opened c.args.own.now (kind_at c.end_channel-lists.result.1) kind

pub returns-clause-closed : goal.returns-clause-closed
returns-clause-closed c order first done rest many are ran =
    let same : done ≡ c.in-Some.done = ap (λ l. get_or l 0 done) (sym are ∙ c.in-Some.ensures.items) in
    record {
      lists = c.end_channel-lists.result.0;
      back = c.end_channel-lists.result.1;
      ended = c.end_channel-lists.ensures.ended order first many (subst (RanPair order first) same ran);
      seats = c.in-Ok.ensures.seats;
      still = still_open c.args.own.now c.give_back.new.self (kind_at c.requires.1) c.requires.5 c.in-Ok.ensures.kind c.in-Ok.ensures.subs;
      settled_are = c.in-Ok-keep_lists.ensures;
    }

pub returns-clause-carried : goal.returns-clause-carried
returns-clause-carried c done rest are =
    let same : done ≡ c.in-Some.done = ap (λ l. get_or l 0 done) (sym are ∙ c.in-Some.ensures.items) in
    c.in-Ok-keep_lists.ensures
    ∙ ap (λ (l : Lists). c.args.settled.now.items ++ record { phase = c.args.phase; relid = c.args.due.now.opening.relid; device = c.args.due.now.opening.device; settled = l } ∷ [])
    (c.end_channel-lists.ensures.settled ∙ ap (λ d. d.settled) (sym same))
