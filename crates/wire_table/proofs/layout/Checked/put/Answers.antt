use Rattle.std.proofs.Common.{ap, arith}
use Rattle.wire_table.proofs.TableLemmas.{end_within}
use Rattle.wire_table.proofs.PutLaws.{put_value, put_other, fields_apart}
use Rattle.wire_table.specs.Little.{number_of}
use Rattle.wire_table.specs.Tables.{at_of, width_of}
use Rattle.wire_table.proofs.layout.Checked.put.Goals as goal

pub put_at-requires : goal.put_at-requires
put_at-requires g c =
    let l = c.args.self.now.layout in
    let e = end_within l.size l.fields c.args.i c.args.self.now.sound (omega arith) in
    record { within = omega (arith, e) }

pub returns-clause-value : goal.returns-clause-value
returns-clause-value g c =
    let l = c.args.self.now.layout in
    let e = end_within l.size l.fields c.args.i c.args.self.now.sound (omega arith) in
    let front = rw (c.from.ensures, c.from-2.ensures) at c.put_at.ensures.front in
    put_value c.args.bytes.now c.put_at.new.bytes (at_of l.fields c.args.i) (width_of l.fields c.args.i) c.args.v (omega (arith, e)) c.requires.fits front

pub returns-clause-others : goal.returns-clause-others
returns-clause-others g c =
    let l = c.args.self.now.layout in
    let e = end_within l.size l.fields c.args.i c.args.self.now.sound (omega arith) in
    let front = rw (c.from.ensures, c.from-2.ensures) at c.put_at.ensures.front in
    let rest = rw (c.from.ensures, c.from-2.ensures) at c.put_at.ensures.rest in
    λ j lt ne. ap number_of (put_other c.args.bytes.now c.put_at.new.bytes (at_of l.fields c.args.i) (width_of l.fields c.args.i) c.args.v (at_of l.fields j) (width_of l.fields j) (omega (arith, e)) front rest
    (fields_apart l.size l.fields c.args.i j c.args.self.now.sound (omega arith) (omega arith) ne))
