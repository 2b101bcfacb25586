-- One side of the control path: what it says and hears, and how far it has come with its two ends.
use Rattle.std.specs.Prelude.{◌≡◌, ◌≢◌, ◌⊎◌, Bool, true, List, [], ◌∷◌, ◌++◌, Option, Some, None}
use mathlib.Core.List.{IsPrefix}
use Rattle.contact.specs.declared.part.Part.{Part}
use Rattle.vmbus_msg.specs.Grammar.{type_of}
use Rattle.vmbus_msg.specs.declared.msg.Msg.{Msg}
use Rattle.mail_box.specs.Mail.{Post, Fetch}
use Rattle.control_model.specs.declared.fault.ControlFault.{ControlFault}
use Rattle.control_model.specs.declared.fault.ControlFault.TheVariants.{Unasked, Memory}
use Rattle.control_model.specs.Plan.{BusPlan}

-- The plan of the script that it goes by; all that this side says by it, in order, and the message that ends it early; the same of the other side; the part that
-- began last, what it posted and was fed so far, and whether it is done with that part
pub record Side : Type 0 where
  pub plan : BusPlan
  pub part : Option Part
  pub says : List Msg
  pub parting : Msg
  pub hears : List Msg
  pub cut : Msg
  pub posted : List Msg
  pub fed : List Msg
  pub done : Bool

-- both sides go by the same script
pub record KeepsScript (old new : Side) : Type 0 where
  pub plan : new.plan ≡ old.plan
  pub says : new.says ≡ old.says
  pub parting : new.parting ≡ old.parting
  pub hears : new.hears ≡ old.hears
  pub cut : new.cut ≡ old.cut

-- the script is the same, and what it posted and was fed only grew
pub record Continues (old new : Side) : Type 0 where
  pub script : KeepsScript old new
  pub posted : IsPrefix old.posted new.posted
  pub fed : IsPrefix old.fed new.fed

-- it sent these messages and was fed those, and what it posted is a front of what it says
pub record Goes (old : Side) (sent heard : List Msg) (new : Side) : Type 0 where
  pub script : KeepsScript old new
  pub posted : new.posted ≡ old.posted ++ sent
  pub fed : new.fed ≡ old.fed ++ heard
  pub front : IsPrefix new.posted new.says

-- a refusal of a message: the one that ends the other side's early is refused for its type, and any other one for want of memory alone
abbrev pub Refuses : Side → Msg → ControlFault → Type 0
Refuses s m (Unasked kind) = (m ≡ s.cut) × (kind ≡ type_of m)
Refuses s m Memory = m ≢ s.cut
Refuses s m other = ⊥

-- what is put behind all that was posted: after want of memory the message that ends it early
abbrev pub parting_of : Side → Option ControlFault → List Msg
parting_of s (Some Memory) = s.parting ∷ []
parting_of s _ = []

-- What was taken and not fed: the message that was refused, if one was. The one that ends the other side's early is never told as want of memory, nor another one as
-- unasked. No other fault comes between two ends
abbrev pub Refused : Side → Option ControlFault → List Msg → Type 0
Refused s None more = more ≡ []
Refused s (Some Memory) more = (more ≡ []) ⊎ ((m : Msg) × (more ≡ m ∷ []) × (m ≢ s.cut))
Refused s (Some (Unasked kind)) more = (more ≡ s.cut ∷ []) × (kind ≡ type_of s.cut)
Refused s (Some other) more = ⊥

-- The ends of both queues go with a control: each has the names of its side; what was put, and then what waits here, is what was posted, and then the message
-- that ends it early after want of memory; what was taken is what was fed, and then a message that was refused
pub record Serves (s : Side) (fetch : Fetch) (post : Post) (waiting : List Msg) (fault : Option ControlFault) : Type 0 where
  pub says : post.named ≡ s.says
  pub parting : post.last ≡ s.parting
  pub hears : fetch.named ≡ s.hears
  pub cut : fetch.last ≡ s.cut
  pub put : post.put ++ waiting ≡ s.posted ++ parting_of s fault
  pub front : IsPrefix s.posted s.says
  pub more : List Msg
  pub taken : fetch.taken ≡ s.fed ++ more
  pub refused : Refused s fault more

-- nothing waits, and nothing was refused or wanting
abbrev pub AtRest : Side → Fetch → Post → Type 0
AtRest s fetch post = Serves s fetch post [] None

-- A part was served: the script and both queues are the same, what was posted and fed grew, and without a fault the side is done with the part
pub record Served (part : Part) (old : Side) (fetch_old : Fetch) (post_old : Post) (new : Side) (fetch : Fetch) (post : Post) (fault : Option ControlFault) : Type 0 where
  pub serves : Serves new fetch post [] fault
  pub continues : Continues old new
  pub fetch_queue : fetch.queue ≡ fetch_old.queue
  pub post_queue : post.queue ≡ post_old.queue
  pub fetch_size : fetch.size ≡ fetch_old.size
  pub post_size : post.size ≡ post_old.size
  pub done : fault ≡ None → (new.done ≡ true) × (new.part ≡ Some part)
