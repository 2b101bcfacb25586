use Rattle.std.proofs.Common.{◌≡◌, Some, None}
use Rattle.wire_table.specs.Tables.{overlap_of, past_end_of}
use Rattle.wire_table.proofs.FaultLaws.{overlap_is, past_is, sound_is}
use Rattle.wire_table.proofs.field.Layout.check.Goals as goal

pub returns-in-Some-clause-meaning : goal.returns-in-Some-clause-meaning
returns-in-Some-clause-meaning g c =
    let l = c.args.self in
    let found : overlap_of 0 l.fields ≡ Some c.in-Some.fault = cc in
    overlap_is l.size l.fields c.in-Some.fault c.requires.widths found

pub returns-in-Some-past_end-clause-meaning : goal.returns-in-Some-past_end-clause-meaning
returns-in-Some-past_end-clause-meaning g c =
    let l = c.args.self in
    let none : overlap_of 0 l.fields ≡ None = cc in
    let found : past_end_of l.size 0 l.fields ≡ Some c.in-Some-past_end.fault = cc in
    past_is l.size l.fields c.in-Some-past_end.fault none found

pub returns-clause-meaning : goal.returns-clause-meaning
returns-clause-meaning g c =
    let l = c.args.self in
    let none : overlap_of 0 l.fields ≡ None = cc in
    let past : past_end_of l.size 0 l.fields ≡ None = cc in
    sound_is l.size l.fields none past
