-- A control in a part, between its moves.
use Rattle.std.specs.Prelude.{◌≡◌, ◌≢◌, true, List, [], ◌∷◌, ◌++◌, Some, None}
use Rattle.std.specs.Option.{option_to_list}
use Rattle.vmbus_msg.specs.declared.msg.Msg.{Msg}
use Rattle.mail_box.specs.Mail.{Post, Fetch}
use Rattle.mail_box.specs.Letters.{MaySay}
use Rattle.control_side.specs.declared.serving.Serving.{Serving}
use Rattle.control_side.specs.declared.serving.Turn.{Turn}
use Rattle.control_side.specs.declared.serving.Turn.TheVariants.{Moved, Idle, Ended}
use Rattle.control_side.specs.Sides.{Side, Continues, Serves}

module _ {C : Type 0} where
  -- what is still to be put
  abbrev pub waiting : Serving C → List Msg
  waiting s = option_to_list s.held ++ s.local.queue

  -- the control follows the script, and its ends go with it
  pub record Stands (seen : C → Side) (follows : C → Type 0) (s : Serving C) : Type 0 where
    pub follows_on : follows s.control
    pub serves : Serves (seen s.control) s.fetch s.post (waiting s) s.fault
    pub size : s.local.size ≡ 64
    pub under : s.fault ≡ None → (seen s.control).part ≡ Some s.part

  -- a message was just taken, which is to be fed
  pub record HasTaken (seen : C → Side) (follows : C → Type 0) (m : Msg) (s : Serving C) : Type 0 where
    pub follows_on : follows s.control
    pub fetch : Fetch
    pub serves : Serves (seen s.control) fetch s.post [] None
    pub taken : s.fetch ≡ record fetch { taken = fetch.taken ++ m ∷ [] }
    pub may : MaySay fetch.named fetch.last (fetch.taken ++ m ∷ [])
    pub held : s.held ≡ None
    pub local : s.local ≡ record { size = 64; queue = [] }
    pub fault : s.fault ≡ None
    pub under : (seen s.control).part ≡ Some s.part

  -- an end of a part: nothing is left to be put, and the side is done where it refused nothing
  pub record IsAtEnd (seen : C → Side) (s : Serving C) : Type 0 where
    pub nothing : waiting s ≡ []
    pub done : s.fault ≡ None → (seen s.control).done ≡ true

  -- what a move did: nothing is changed where it says so
  abbrev pub Moves : (C → Side) → Turn → Serving C → Serving C → Type 0
  Moves seen Ended old new = (new ≡ old) × IsAtEnd seen new
  Moves seen Moved old new = Unit {0}
  Moves seen Idle old new = new ≡ old

  -- all that waits is put before the next message is taken
  abbrev pub PutsFirst : Serving C → Serving C → Type 0
  PutsFirst old new = waiting old ≢ [] → new.fetch ≡ old.fetch

-- the script and both queues, with their sizes, are the same, and what was posted and fed only grew
pub record IsSame (old : Side) (fetch_old : Fetch) (post_old : Post) (new : Side) (fetch : Fetch) (post : Post) : Type 0 where
  pub continues : Continues old new
  pub fetch_queue : fetch.queue ≡ fetch_old.queue
  pub post_queue : post.queue ≡ post_old.queue
  pub fetch_size : fetch.size ≡ fetch_old.size
  pub post_size : post.size ≡ post_old.size
