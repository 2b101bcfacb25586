-- A box of control messages and the two ends of a split one, as contracts see them.
use Rattle.std.specs.Prelude.{◌≡◌, ℕ, List, ◌++◌, length}
use Rattle.atomic_table.specs.Seated.{TableId}
use Rattle.vmbus_msg.specs.declared.msg.Msg.{Msg}

-- how many messages it may hold, and those that are in it, the first that came first
pub record Mail : Type 0 where
  pub size : ℕ
  pub queue : List Msg

-- the end that puts: which queue it is of and how many messages that holds, what the caller named for it, and what was put
pub record Post : Type 0 where
  pub queue : TableId
  pub size : ℕ
  pub named : List Msg
  pub last : Msg
  pub put : List Msg

-- the end that takes
pub record Fetch : Type 0 where
  pub queue : TableId
  pub size : ℕ
  pub named : List Msg
  pub last : Msg
  pub taken : List Msg

-- a queue whose ends were ended: which it was, all that was put, all that was taken, and how many messages were put and not taken
pub record Closed : Type 0 where
  pub queue : TableId
  pub put : List Msg
  pub taken : List Msg
  pub left : ℕ

-- this was the queue of both ends, and tells what passed through it: what was taken is a front of what was put, which is longer by what was left
pub record Closes (post : Post) (fetch : Fetch) (q : Closed) : Type 0 where
  pub queue : q.queue ≡ post.queue
  pub put : q.put ≡ post.put
  pub taken : q.taken ≡ fetch.taken
  pub rest : List Msg
  pub whole : q.put ≡ q.taken ++ rest
  pub left : length rest ≡ q.left
