use Rattle.std.proofs.Common.{◌≡◌, ◌+◌, [], take, drop}
use Rattle.wire_table.specs.Rows.{spelled_after, total}
use Rattle.vmbus_msg.specs.Grammar.{AllFit}
use Rattle.vmbus_msg.specs.Pieces.{kinds_in, rows_in}
use Rattle.vmbus_msg.proofs.write.put_pieces.Given as goal

abbrev pub invariant-loop-piece : goal.invariant-loop-piece
invariant-loop-piece l = record {
  front : spelled_after (take l.at l.out) (rows_in (drop l.piece-index l.pieces)) ≡ spelled_after [] (rows_in l.pieces);
  place : l.at + total (kinds_in (drop l.piece-index l.pieces)) ≡ total (kinds_in l.pieces);
  fit : AllFit (kinds_in (drop l.piece-index l.pieces)) (rows_in (drop l.piece-index l.pieces)) → AllFit (kinds_in l.pieces) (rows_in l.pieces);
}
