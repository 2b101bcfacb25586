use Rattle.std.proofs.Common.{arith}
use Rattle.io_edge.proofs.Going.{gives_on, goes_past}
use Rattle.io_edge.proofs.whole.read_all.Goals as goal

pub returns-then-count-most-clause-rest : goal.returns-then-count-most-clause-rest
returns-then-count-most-clause-rest g c = (_, gives_on _ _ _ _ _ c.loop-bytes.invariant.came c.in_ok-count.ensures.gives)

pub returns-in_err-extend_from_slice-clause-rest : goal.returns-in_err-extend_from_slice-clause-rest
returns-in_err-extend_from_slice-clause-rest g c = (_, gives_on _ _ _ _ _ c.loop-bytes.invariant.came c.in_ok-count.ensures.gives)

pub returns-then-count-most-clause-past : goal.returns-then-count-most-clause-past
returns-then-count-most-clause-past g c _ = (_, gives_on _ _ _ _ _ c.loop-bytes.invariant.came c.in_ok-count.ensures.gives, goes_past _ _ _ _ c.in_ok-count.ensures.within c.loop-bytes.invariant.most (omega (arith, c.if-count-most.true, c.len.ensures)))
