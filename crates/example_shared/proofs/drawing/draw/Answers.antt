use Rattle.std.proofs.Common.{refl}
use Rattle.hist_lock.specs.History.{entries_of}
use Rattle.example_shared.proofs.Giving.{given}
use Rattle.example_shared.proofs.drawing.draw.Goals as goal

pub returns : goal.returns
returns g c =
    let j = c.join-first.ensures in
    given c.make.result c.args.one.now c.args.other.now _ _ _ c.in_ok-seats.seats.items c.pop-2.new.self.items c.pop.new.self.items
    c.push_reserved-2.new.self.items c.push_reserved.new.self.items c.in-Some-Some.first c.in-Some-Some.last c.join-first.result.0 c.join-first.result.1 (entries_of c.close.result.1)
    c.make.ensures refl c.in_ok-seats.ensures c.in-Some-Some.ensures.items c.in-Some-Some.ensures'.items j.first.0 j.first.1 j.second.0 j.second.1
    c.push_reserved.ensures.items c.push_reserved-2.ensures.items c.close.ensures.closes
