-- A path in a part.
use Rattle.std.proofs.Common.{◌≡◌, ◌≢◌, ◌∙◌, ◌&&◌, ◌||◌, not, Bool, true, false, ℕ, List, [], ◌∷◌, ◌++◌, length, Option, Some, None, is_some, is_none, Result, Ok, Err, IfOk, IfErr, refl, sym, ap, subst, inl, inr}
use Rattle.std.specs.List.{AllByRecursion}
use Rattle.std.proofs.lemmas.List.{append-nil}
use Rattle.contact.specs.declared.part.Part.{Part}
use Rattle.contact.specs.declared.part.Part.TheVariants.{Unload}
use Rattle.vmbus_msg.specs.declared.msg.Msg.{Msg}
use Rattle.control_model.specs.declared.fault.ControlFault.{ControlFault}
use Rattle.control_model.specs.declared.fault.ControlFault.TheVariants.{State, Gpadl, Relid, Offer, Unasked, Memory}
use Rattle.control_model.specs.Plan.{BusPlan, IsPlan, part_after}
use Rattle.control_model.specs.Messages.{farewell, farewell_taken}
use Rattle.control_model.specs.Said.{said_by_guest, said_by_host}
use Rattle.control_model.specs.Guest.{new_guest, GuestSeen, guest_done, can_begin, waits_for_nothing}
use Rattle.control_model.specs.Host.{new_host, HostSeen, host_done, host_can_begin, host_waits_for_nothing}
use Rattle.control_laws.specs.Over.{IsOver}
use Rattle.control_laws.proofs.Never.{guest_is_cut, host_is_cut}
use Rattle.control_laws.proofs.Ending.{over_law}
use Rattle.control_laws.proofs.Going.{new_ones_stand}
use Rattle.control_model.specs.GuestAt.{GuestAt}
use Rattle.control_model.specs.HostAt.{HostAt}
use Rattle.mail_box.specs.Mail.{Mail, Post, Fetch, Closed, Closes}
use Rattle.control_side.proofs.Steps.{all_fed}
use Rattle.control_side.specs.declared.part_done.PartDone.{PartDone}
use Rattle.control_side.specs.declared.part_left.PartLeft.{PartLeft}
use Rattle.control_side.specs.Sides.{Side, Serves, Served, AtRest}
use Rattle.control_path.specs.Ends.{Hears, IsExplained}
use Rattle.guest_end.specs.AsSide.{guest_side, GuestFollows}
use Rattle.host_end.specs.AsSide.{host_side, HostFollows}
use Rattle.control_path.specs.declared.path.ControlPath.{ControlPath}
use Rattle.control_path.specs.declared.want.PathWant.{PathWant}
use Rattle.control_path.specs.Path.{AreNew, Rests, RanPart, joined, WantMemory, EndsInWant, RanInWant}

-- what all messages are is so of each
of_each : (P : Msg → Type 0) (xs front rest : List Msg) (m : Msg) → AllByRecursion P xs → xs ≡ front ++ m ∷ rest → P m
of_each P [] [] rest m all e = absurd (cc e)
of_each P [] (y ∷ front) rest m all e = absurd (cc e)
of_each P (x ∷ xs) [] rest m all e = let is : x ≡ m = cc e in subst P is all.0
of_each P (x ∷ xs) (y ∷ front) rest m all e = of_each P xs front rest m all.1 (cc e)

-- each hears what the other says, and the message that ends it early
pub guest_hears_host : (g : GuestSeen) (h : HostSeen) → h.plan ≡ g.plan → Hears (guest_side g) (host_side h)
guest_hears_host g h one = record {
  hears = ap said_by_host (sym one);
  cut = refl;
  never = λ front rest e. of_each (λ m. m ≢ farewell) (said_by_host h.plan) front rest farewell (guest_is_cut.0 h.plan) e refl;
}

pub host_hears_guest : (g : GuestSeen) (h : HostSeen) → h.plan ≡ g.plan → Hears (host_side h) (guest_side g)
host_hears_guest g h one = record {
  hears = ap said_by_guest one;
  cut = refl;
  never = λ front rest e. of_each (λ m. m ≢ farewell_taken) (said_by_guest g.plan) front rest farewell_taken (host_is_cut.0 g.plan) e refl;
}

-- a fault that is explained comes of want of memory
pub wants : (a b : Option ControlFault) → (a ≡ None → b ≡ None → ⊥) → IsExplained a b → IsExplained b a → WantMemory a b
wants None None some x y = absurd (some refl refl)
wants (Some Memory) b some x y = inl refl
wants (Some (Unasked kind)) b some x y = inr x
wants (Some (State why)) b some x y = absurd x
wants (Some (Gpadl why)) b some x y = absurd x
wants (Some (Relid value)) b some x y = absurd x
wants (Some (Offer why)) b some x y = absurd x
wants None (Some Memory) some x y = inr refl
wants None (Some (Unasked kind)) some x y = inl y
wants None (Some (State why)) some x y = absurd y
wants None (Some (Gpadl why)) some x y = absurd y
wants None (Some (Relid value)) some x y = absurd y
wants None (Some (Offer why)) some x y = absurd y

-- the part that comes next at the guest comes next at the host
pub host_next : (g : GuestSeen) (h : HostSeen) (part : Part) → h.plan ≡ g.plan → h.part ≡ g.part → part_after g.plan g.part ≡ Some part → part_after h.plan h.part ≡ Some part
host_next g h part plan same is = (λ i. part_after (plan i) (same i)) ∙ is

-- a side that is done may begin, and one that may begin behind a part is done with it
second : (a b : Bool) → (a && b) ≡ true → b ≡ true
second true b e = e
second false b e = absurd (cc e)

or_not : (a b : Bool) → b ≡ true → (not a || b) ≡ true
or_not true b e = e
or_not false b e = refl

and_so : (a b : Bool) → a ≡ true → (not a || b) ≡ true → (a && b) ≡ true
and_so true b is e = e
and_so false b is e = absurd (cc is)

pub guest_may : (g : GuestSeen) → guest_done g ≡ true → can_begin g ≡ true
guest_may g done = or_not (is_some g.part) (waits_for_nothing g.awaits) (second (is_some g.part) (waits_for_nothing g.awaits) done)

pub host_may : (h : HostSeen) → host_done h ≡ true → host_can_begin h ≡ true
host_may h done = or_not (is_some h.part) (host_waits_for_nothing h.awaits) (second (is_some h.part) (host_waits_for_nothing h.awaits) done)

-- both are over behind the farewell
pub ends : (p : ControlPath) → Rests p → p.guest.part ≡ Some Unload → IsOver p.guest.plan p.guest p.host
ends p r last =
    let host_last : p.host.part ≡ Some Unload = r.part ∙ last in
    over_law p.guest.plan p.guest p.host r.guest.planned r.guest.at (subst (λ (plan : BusPlan). HostAt plan p.host) r.plan r.host.at) last host_last
    (and_so (is_some p.guest.part) (waits_for_nothing p.guest.awaits) (ap is_some last) r.guest_ready)
    (and_so (is_some p.host.part) (host_waits_for_nothing p.host.awaits) (ap is_some host_last) r.host_ready)

-- two new controls of one plan
pub are_new : (plan : BusPlan) (g : GuestSeen) (h : HostSeen) → g ≡ new_guest plan → h ≡ new_host plan → IsPlan g.plan → AreNew g h
are_new plan g h guest host planned = let is : g.plan ≡ plan = ap (λ (x : GuestSeen). x.plan) guest in
    record { planned = planned; guest = guest ∙ sym (ap new_guest is); host = host ∙ sym (ap new_host is) }

-- they rest over two new queues with the names of what both say
pub new_rests : (g : GuestSeen) (h : HostSeen) (guest_post : Post) (host_fetch : Fetch) (host_post : Post) (guest_fetch : Fetch) (guest_box host_box : Mail) (n m : ℕ) (to_host to_guest : List Msg) (last back : Msg) → AreNew g h → n ≡ 64 → m ≡ 64
    → to_host ≡ said_by_guest g.plan → last ≡ farewell_taken → to_guest ≡ said_by_host g.plan → back ≡ farewell
    → guest_post ≡ record { queue = guest_post.queue; size = n; named = to_host; last = last; put = [] } → host_fetch ≡ record { queue = guest_post.queue; size = n; named = to_host; last = last; taken = [] }
    → host_post ≡ record { queue = host_post.queue; size = m; named = to_guest; last = back; put = [] } → guest_fetch ≡ record { queue = host_post.queue; size = m; named = to_guest; last = back; taken = [] }
    → guest_box ≡ record { size = 64; queue = [] } → host_box ≡ record { size = 64; queue = [] }
    → Rests (record { guest = g; host = h; guest_post = guest_post; guest_fetch = guest_fetch; host_post = host_post; host_fetch = host_fetch; guest_box = guest_box; host_box = host_box })
new_rests g h gp hf hp gf gb hb n m to_host to_guest last back new many many' n1 l1 n2 l2 post1 fetch1 post2 fetch2 box1 box2 =
    let plan : h.plan ≡ g.plan = ap (λ (x : HostSeen). x.plan) new.host in
    record {
      guest = record { planned = new.planned; at = subst (GuestAt g.plan) (sym new.guest) (new_ones_stand g.plan).0 };
      host = record {
        planned = subst IsPlan (sym plan) new.planned;
        at = subst (λ (p : BusPlan). HostAt p h) (sym plan) (subst (HostAt g.plan) (sym new.host) (new_ones_stand g.plan).1);
      };
      plan = plan;
      part = ap (λ (x : HostSeen). x.part) new.host ∙ sym (ap (λ (x : GuestSeen). x.part) new.guest);
      guest_ready = ap can_begin new.guest;
      host_ready = ap host_can_begin new.host;
      guest_rests = record {
        says = ap (λ (p : Post). p.named) post1 ∙ n1;
        parting = ap (λ (p : Post). p.last) post1 ∙ l1;
        hears = ap (λ (f : Fetch). f.named) fetch2 ∙ n2;
        cut = ap (λ (f : Fetch). f.last) fetch2 ∙ l2;
        put = ap (λ (p : Post). p.put ++ []) post1 ∙ sym (ap (λ (x : GuestSeen). x.posted ++ []) new.guest);
        front = (said_by_guest g.plan, ap (λ (x : GuestSeen). x.posted ++ said_by_guest g.plan) new.guest);
        more = [];
        taken = ap (λ (f : Fetch). f.taken) fetch2 ∙ sym (ap (λ (x : GuestSeen). x.fed ++ []) new.guest);
        refused = refl;
      };
      host_rests = record {
        says = ap (λ (p : Post). p.named) post2 ∙ (n2 ∙ ap said_by_host (sym plan));
        parting = ap (λ (p : Post). p.last) post2 ∙ l2;
        hears = ap (λ (f : Fetch). f.named) fetch1 ∙ (n1 ∙ ap said_by_guest (sym plan));
        cut = ap (λ (f : Fetch). f.last) fetch1 ∙ l1;
        put = ap (λ (p : Post). p.put ++ []) post2 ∙ sym (ap (λ (x : HostSeen). x.posted ++ []) new.host);
        front = (said_by_host h.plan, ap (λ (x : HostSeen). x.posted ++ said_by_host h.plan) new.host);
        more = [];
        taken = ap (λ (f : Fetch). f.taken) fetch1 ∙ sym (ap (λ (x : HostSeen). x.fed ++ []) new.host);
        refused = refl;
      };
      to_host = sym (ap (λ (f : Fetch). f.queue) fetch1);
      to_guest = sym (ap (λ (f : Fetch). f.queue) fetch2);
      to_host_size = (ap (λ (p : Post). p.size) post1 ∙ many, ap (λ (f : Fetch). f.size) fetch1 ∙ many);
      to_guest_size = (ap (λ (p : Post). p.size) post2 ∙ many', ap (λ (f : Fetch). f.size) fetch2 ∙ many');
      guest_box = box1;
      host_box = box2;
    }

-- a part was run, and no side refused
pub has_run : (old : ControlPath) (part : Part) (guest : PartLeft GuestSeen) (host : PartLeft HostSeen) → Rests old → GuestFollows guest.done.control → HostFollows host.done.control
    → Served part (guest_side old.guest) old.guest_fetch old.guest_post (guest_side guest.done.control) guest.done.fetch guest.done.post guest.done.fault
    → Served part (host_side old.host) old.host_fetch old.host_post (host_side host.done.control) host.done.fetch host.done.post host.done.fault
    → guest.local ≡ record { size = 64; queue = [] } → host.local ≡ record { size = 64; queue = [] } → guest.done.fault ≡ None → host.done.fault ≡ None → RanPart old (joined guest host) part
has_run old part guest host rests guest_follows host_follows g h guest_box host_box no_guest no_host =
    let guest_ends = g.done no_guest in
    let host_ends = h.done no_host in record {
      rests = record {
        guest = guest_follows;
        host = host_follows;
        plan = h.continues.script.plan ∙ (rests.plan ∙ sym g.continues.script.plan);
        part = host_ends.1 ∙ sym guest_ends.1;
        guest_ready = guest_may guest.done.control guest_ends.0;
        host_ready = host_may host.done.control host_ends.0;
        guest_rests = subst (Serves (guest_side guest.done.control) guest.done.fetch guest.done.post []) no_guest g.serves;
        host_rests = subst (Serves (host_side host.done.control) host.done.fetch host.done.post []) no_host h.serves;
        to_host = g.post_queue ∙ (rests.to_host ∙ sym h.fetch_queue);
        to_guest = h.post_queue ∙ (rests.to_guest ∙ sym g.fetch_queue);
        to_host_size = (g.post_size ∙ rests.to_host_size.0, h.fetch_size ∙ rests.to_host_size.1);
        to_guest_size = (h.post_size ∙ rests.to_guest_size.0, g.fetch_size ∙ rests.to_guest_size.1);
        guest_box = guest_box;
        host_box = host_box;
      };
      same = record { to_host = g.post_queue; to_guest = h.post_queue };
      plan = g.continues.script.plan;
      guest_part = guest_ends.1;
      host_part = host_ends.1;
      guest_done = guest_ends.0;
      host_done = host_ends.0;
    }

-- both go by one plan behind a part, and fetch from each other
pub one_plan : (old : ControlPath) (part : Part) (guest : PartDone GuestSeen) (host : PartDone HostSeen) → Rests old
    → Served part (guest_side old.guest) old.guest_fetch old.guest_post (guest_side guest.control) guest.fetch guest.post guest.fault
    → Served part (host_side old.host) old.host_fetch old.host_post (host_side host.control) host.fetch host.post host.fault → host.control.plan ≡ guest.control.plan
one_plan old part guest host rests g h = h.continues.script.plan ∙ (rests.plan ∙ sym g.continues.script.plan)

pub to_host_still : (old : ControlPath) (part : Part) (guest : PartDone GuestSeen) (host : PartDone HostSeen) → Rests old
    → Served part (guest_side old.guest) old.guest_fetch old.guest_post (guest_side guest.control) guest.fetch guest.post guest.fault
    → Served part (host_side old.host) old.host_fetch old.host_post (host_side host.control) host.fetch host.post host.fault → guest.post.queue ≡ host.fetch.queue
to_host_still old part guest host rests g h = g.post_queue ∙ (rests.to_host ∙ sym h.fetch_queue)

pub to_guest_still : (old : ControlPath) (part : Part) (guest : PartDone GuestSeen) (host : PartDone HostSeen) → Rests old
    → Served part (guest_side old.guest) old.guest_fetch old.guest_post (guest_side guest.control) guest.fetch guest.post guest.fault
    → Served part (host_side old.host) old.host_fetch old.host_post (host_side host.control) host.fetch host.post host.fault → host.post.queue ≡ guest.fetch.queue
to_guest_still old part guest host rests g h = h.post_queue ∙ (rests.to_guest ∙ sym g.fetch_queue)

-- where the path goes on, the part was run
pub ran_where_ok : {E : Type 0} (old : ControlPath) (part : Part) (guest : PartLeft GuestSeen) (host : PartLeft HostSeen) (r : Result ControlPath E) → Rests old → GuestFollows guest.done.control → HostFollows host.done.control
    → Served part (guest_side old.guest) old.guest_fetch old.guest_post (guest_side guest.done.control) guest.done.fetch guest.done.post guest.done.fault
    → Served part (host_side old.host) old.host_fetch old.host_post (host_side host.done.control) host.done.fetch host.done.post host.done.fault
    → guest.local ≡ record { size = 64; queue = [] } → host.local ≡ record { size = 64; queue = [] }
    → IfOk r (λ p. p ≡ joined guest host) → IfOk r (λ p. guest.done.fault ≡ None) → IfOk r (λ p. host.done.fault ≡ None) → IfOk r (λ p. RanPart old p part)
ran_where_ok old part guest host (Ok p) rests gf hf g h gb hb is no_guest no_host = subst (λ (x : ControlPath). RanPart old x part) (sym is) (has_run old part guest host rests gf hf g h gb hb no_guest no_host)
ran_where_ok old part guest host (Err e) rests gf hf g h gb hb is no_guest no_host = tt

-- where it doesn't, a side wanted memory in it
pub wanted_where_err : {A : Type 0} (old : ControlPath) (part : Part) (guest : PartDone GuestSeen) (host : PartDone HostSeen) (r : Result A PathWant)
    → Served part (guest_side old.guest) old.guest_fetch old.guest_post (guest_side guest.control) guest.fetch guest.post guest.fault
    → Served part (host_side old.host) old.host_fetch old.host_post (host_side host.control) host.fetch host.post host.fault
    → IfErr r (λ want. EndsInWant guest host want.ends) → IfErr r (λ want. RanInWant old part want.ends)
wanted_where_err old part guest host (Ok p) g h ends = tt
wanted_where_err old part guest host (Err want) g h ends = record { guest_left = guest; host_left = host; guest = g; host = h; ends_so = ends }

-- a fault of one of them is explained
pub wants_of_one : (a b : Option ControlFault) → (is_none a && is_none b) ≡ false → IsExplained a b → IsExplained b a → WantMemory a b
wants_of_one a b some x y = wants a b (λ p q. true_not_false ((λ i. is_none (sym p i) && is_none (sym q i)) ∙ some)) x y
  where
    true_not_false : true ≡ false → ⊥
    true_not_false e = absurd (cc e)

-- what is as long as a front of it is that front
none_behind : (front rest : List Msg) → front ≡ front ++ rest → length rest ≡ 0
none_behind [] rest e = sym (ap length e)
none_behind (x ∷ front) rest e = none_behind front rest (cc e)

-- all that passed through a queue is what its one side posted, and the other was fed it
pub got_all : (s other : Side) (fetch fetch' : Fetch) (post post' : Post) (q : Closed) → AtRest s fetch post → AtRest other fetch' post' → Closes post fetch' q → other.fed ≡ s.posted
    → (q.put ≡ s.posted) × (q.left ≡ 0)
got_all s other fetch fetch' post post' q h h' closes fed =
    let put : q.put ≡ s.posted = closes.put ∙ (sym (append-nil post.put) ∙ (h.put ∙ append-nil s.posted)) in
    let taken : q.taken ≡ s.posted = closes.taken ∙ (all_fed other fetch' post' [] h' ∙ fed) in
    (put, sym closes.left ∙ none_behind s.posted closes.rest (sym put ∙ (closes.whole ∙ ap (λ l. l ++ closes.rest) taken)))
