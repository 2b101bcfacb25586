use Rattle.std.proofs.Common.{◌≡◌, ◌+◌, ◌++◌, take, length, vec_len, vec_capacity}
use Rattle.guest_end.proofs.control.send.Given as goal

abbrev pub invariant-loop-m : goal.invariant-loop-m
invariant-loop-m l = record {
  posted : l.posted.items ≡ l.fn.posted.items ++ take l.m-index l.sent;
  len : vec_len l.posted ≡ vec_len l.fn.posted + l.m-index;
  capacity : vec_capacity l.posted ≡ vec_capacity l.fn.posted;
  queue : l.post.queue ≡ l.fn.post.queue ++ take l.m-index l.sent;
  waiting : length l.post.queue ≡ length l.fn.post.queue + l.m-index;
  size : l.post.size ≡ l.fn.post.size;
}
