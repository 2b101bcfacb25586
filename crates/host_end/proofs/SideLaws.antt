-- A host's control keeps what is asked of a side.
use Rattle.std.proofs.Common.{◌≡◌, ◌∙◌, ◌&&◌, Bool, true, false, List, [], ◌∷◌, ◌++◌, Some, is_some, Result, Ok, Err, OnOk, OnErr, IfErr, refl, sym, ap, subst, inl, inr}
use mathlib.Core.List.{IsPrefix}
use Rattle.contact.specs.declared.part.Part.{Part}
use Rattle.vmbus_msg.specs.Grammar.{type_of}
use Rattle.vmbus_msg.specs.declared.msg.Msg.{Msg}
use Rattle.mail_box.specs.Mail.{Mail}
use Rattle.mail_box.specs.Letters.{MaySay}
use Rattle.control_model.specs.declared.fault.ControlFault.{ControlFault}
use Rattle.control_model.specs.declared.fault.ControlFault.TheVariants.{Unasked}
use Rattle.control_model.specs.Plan.{BusPlan, IsPlan}
use Rattle.control_model.specs.Messages.{farewell_taken}
use Rattle.control_model.specs.Said.{said_by_host, said_by_guest}
use Rattle.control_model.specs.Host.{HostSeen, HostTurn, host_done, host_hears, host_waits_for_nothing, HostBegins, HostTakes}
use Rattle.control_model.specs.HostAt.{HostAt}
use Rattle.control_laws.proofs.Going.{host_starts, host_takes, host_fronts}
use Rattle.control_laws.proofs.Never.{host_is_cut}
use Rattle.control_side.specs.Sides.{Goes, Refuses}
use Rattle.control_side.proofs.Lasts.{last_same}
use Rattle.host_end.specs.Feeding.{Comes, with_mail}
use Rattle.host_end.specs.AsSide.{host_side, HostFollows, HostMayBegin}

follows_on : (h h' : HostSeen) → HostFollows h → HostAt h.plan h' → HostFollows h'
follows_on h h' f at = record { planned = subst IsPlan (sym at.plan_is) f.planned; at = subst (λ (p : BusPlan). HostAt p h') (sym at.plan_is) at }

goes : (h h' : HostSeen) (sent heard : List Msg) → HostFollows h' → h'.plan ≡ h.plan → h'.posted ≡ h.posted ++ sent → h'.fed ≡ h.fed ++ heard → Goes (host_side h) sent heard (host_side h')
goes h h' sent heard f plan posted fed = record {
  script = record { plan = plan; says = ap said_by_host plan; parting = refl; hears = ap said_by_guest plan; cut = refl };
  posted = posted;
  fed = fed;
  front = let front = (host_fronts h'.plan h' f.at).0 in (front.0, sym front.1);
}

-- it begins a part
pub began_follows : (h h' : HostSeen) (part : Part) (sent : List Msg) → HostFollows h → HostMayBegin h part → HostBegins h part sent h' → HostFollows h'
began_follows h h' part sent f may begins = follows_on h h' f (host_starts h.plan h h' part sent f.planned f.at may.1 may.0 begins)

pub began_goes : (h h' : HostSeen) (part : Part) (sent : List Msg) → HostFollows h → HostMayBegin h part → HostBegins h part sent h' → Goes (host_side h) sent [] (host_side h') × (h'.part ≡ Some part)
began_goes h h' part sent f may begins = (
  goes h h' sent [] (began_follows h h' part sent f may begins) (ap (λ (x : HostSeen). x.plan) begins.now) (ap (λ (x : HostSeen). x.posted) begins.now) (ap (λ (x : HostSeen). x.fed) begins.now),
  ap (λ (x : HostSeen). x.part) begins.now,
)

-- it takes the next message, and refuses the one that ends the guest's early
only_second : (a b : Bool) → a ≡ true → (a && b) ≡ false → b ≡ false
only_second true b is none = none
only_second false b is none = absurd (cc is)

fits : (h : HostSeen) (m : Msg) → HostFollows h → is_some h.part ≡ true → host_done h ≡ false → IsPrefix (h.fed ++ m ∷ []) (said_by_guest h.plan)
    → ((turn : HostTurn) × (host_hears h m ≡ Ok turn)) × ((sent : List Msg) (h' : HostSeen) → HostTakes h m sent h' → HostAt h.plan h')
fits h m f begun unfinished p = host_takes h.plan h m f.planned f.at (only_second (is_some h.part) (host_waits_for_nothing h.awaits) begun unfinished) (p.0, sym p.1)

is_refused : (h : HostSeen) (m : Msg) → m ≡ farewell_taken → host_hears h m ≡ Err (Unasked (type_of farewell_taken))
is_refused h m is = ap (host_hears h) is ∙ host_is_cut.1 h

not_both : (r : Result HostTurn ControlFault) (turn : HostTurn) (fault : ControlFault) → r ≡ Ok turn → r ≡ Err fault → ⊥
not_both r turn fault a b = absurd (cc (a, b))

took : (h h' : HostSeen) (m : Msg) (sent : List Msg) → HostFollows h → is_some h.part ≡ true → host_done h ≡ false → MaySay (said_by_guest h.plan) farewell_taken (h.fed ++ m ∷ []) → HostTakes h m sent h' → HostFollows h'
took h h' m sent f begun unfinished (inl p) takes = follows_on h h' f ((fits h m f begun unfinished p).1 sent h' takes)
took h h' m sent f begun unfinished (inr e) takes = absurd (not_both (host_hears h m) takes.turn (Unasked (type_of farewell_taken)) takes.hears (is_refused h m (last_same h.fed e.front m farewell_taken e.is)))

-- what the message came to
pub record HostTook (h h' : HostSeen) (m : Msg) (sent : List Msg) : Type 0 where
  pub follows : HostFollows h'
  pub goes : Goes (host_side h) sent (m ∷ []) (host_side h')
  pub part : h'.part ≡ h.part

taken : (h h' : HostSeen) (m : Msg) (sent : List Msg) → HostFollows h → is_some h.part ≡ true → host_done h ≡ false → MaySay (said_by_guest h.plan) farewell_taken (h.fed ++ m ∷ []) → HostTakes h m sent h' → HostTook h h' m sent
taken h h' m sent f begun unfinished may takes = record {
  follows = took h h' m sent f begun unfinished may takes;
  goes = goes h h' sent (m ∷ []) (took h h' m sent f begun unfinished may takes) (ap (λ (x : HostSeen). x.plan) takes.now) (ap (λ (x : HostSeen). x.posted) takes.now) (ap (λ (x : HostSeen). x.fed) takes.now);
  part = ap (λ (x : HostSeen). x.part) takes.now;
}

-- it refused it, and nothing is changed
pub record LeftIt (h h' : HostSeen) (m : Msg) (before after : Mail) (fault : ControlFault) : Type 0 where
  pub why : Refuses (host_side h) m fault
  pub same : h' ≡ h
  pub mail : after ≡ before

-- all that feeding it comes to
abbrev pub Came : HostSeen → HostSeen → Msg → Mail → Mail → Result Unit ControlFault → Type 0
Came h h' m before after (Ok u) = (sent : List Msg) × (HostTook h h' m sent × (after ≡ with_mail before sent))
Came h h' m before after (Err fault) = LeftIt h h' m before after fault

came_of : (h h' : HostSeen) (m : Msg) (before after : Mail) (heard : Result HostTurn ControlFault) (r : Result Unit ControlFault) → HostFollows h → is_some h.part ≡ true → host_done h ≡ false
    → MaySay (said_by_guest h.plan) farewell_taken (h.fed ++ m ∷ []) → host_hears h m ≡ heard → Comes heard h h' m before after r → Came h h' m before after r
came_of h h' m before after (Ok turn) (Ok u) f begun unfinished may is comes =
    (comes.sent, (taken h h' m comes.sent f begun unfinished may (record { turn = turn; hears = is; sends = comes.sends; now = comes.now }), comes.mail))
came_of h h' m before after (Ok turn) (Err fault) f begun unfinished may is comes =
    record {
      why = subst (Refuses (host_side h) m) (sym comes.0) (λ last. not_both (host_hears h m) turn (Unasked (type_of farewell_taken)) is (is_refused h m last));
      same = comes.1.control;
      mail = comes.1.mail;
    }
came_of h h' m before after (Err own) (Ok u) f begun unfinished may is comes = absurd comes
came_of h h' m before after (Err own) (Err fault) f begun unfinished (inl p) is comes = absurd (not_both (host_hears h m) (fits h m f begun unfinished p).0.0 own (fits h m f begun unfinished p).0.1 is)
came_of h h' m before after (Err own) (Err fault) f begun unfinished (inr e) is comes =
    let last : m ≡ farewell_taken = last_same h.fed e.front m farewell_taken e.is in
    let both : Err own ≡ Err (Unasked (type_of farewell_taken)) = sym is ∙ is_refused h m last in
    let its : own ≡ Unasked (type_of farewell_taken) = cc both in
    record { why = subst (Refuses (host_side h) m) (sym (comes.0 ∙ its)) (last, sym (ap type_of last)); same = comes.1.control; mail = comes.1.mail }

pub came : (h h' : HostSeen) (m : Msg) (before after : Mail) (r : Result Unit ControlFault) → HostFollows h → is_some h.part ≡ true → host_done h ≡ false → MaySay (said_by_guest h.plan) farewell_taken (h.fed ++ m ∷ [])
    → Comes (host_hears h m) h h' m before after r → Came h h' m before after r
came h h' m before after r f begun unfinished may comes = came_of h h' m before after (host_hears h m) r f begun unfinished may refl comes

-- what its `begin` and its `feed` come to
pub begin_follows : {E : Type 0} (h h' : HostSeen) (part : Part) (old new : Mail) (r : Result Unit E) → HostFollows h → HostMayBegin h part → OnOk r (HostBegins h part new.queue h' × (new.size ≡ 64)) → OnErr r ((h' ≡ h) × (new ≡ old)) → HostFollows h'
begin_follows h h' part old new (Ok u) f may begun refused = began_follows h h' part new.queue f may begun.0
begin_follows h h' part old new (Err e) f may begun refused = subst HostFollows (sym refused.0) f

pub begin_goes : {E : Type 0} (h h' : HostSeen) (part : Part) (new : Mail) (r : Result Unit E) → HostFollows h → HostMayBegin h part → OnOk r (HostBegins h part new.queue h' × (new.size ≡ 64))
    → OnOk r (Goes (host_side h) new.queue [] (host_side h') × (h'.part ≡ Some part))
begin_goes h h' part new (Ok u) f may begun = began_goes h h' part new.queue f may begun.0
begin_goes h h' part new (Err e) f may begun = tt

feed_follows_so : (h h' : HostSeen) (m : Msg) (old new : Mail) (r : Result Unit ControlFault) → HostFollows h → Came h h' m old new r → HostFollows h'
feed_follows_so h h' m old new (Ok u) f it = it.1.0.follows
feed_follows_so h h' m old new (Err fault) f it = subst HostFollows (sym it.same) f

pub feed_follows : (h h' : HostSeen) (m : Msg) (old new : Mail) (r : Result Unit ControlFault) → HostFollows h → is_some h.part ≡ true → host_done h ≡ false → MaySay (said_by_guest h.plan) farewell_taken (h.fed ++ m ∷ [])
    → Comes (host_hears h m) h h' m old new r → HostFollows h'
feed_follows h h' m old new r f begun unfinished may comes = feed_follows_so h h' m old new r f (came h h' m old new r f begun unfinished may comes)

feed_goes_so : (h h' : HostSeen) (m : Msg) (old new : Mail) (r : Result Unit ControlFault) → old ≡ record { size = 64; queue = [] } → Came h h' m old new r → OnOk r (Goes (host_side h) new.queue (m ∷ []) (host_side h') × (h'.part ≡ h.part))
feed_goes_so h h' m old new (Ok u) empty it =
    let sent : it.0 ≡ new.queue = sym (ap (λ (x : Mail). x.queue) it.1.1 ∙ ap (λ (x : Mail). x.queue ++ it.0) empty) in (subst (λ (q : List Msg). Goes (host_side h) q (m ∷ []) (host_side h')) sent it.1.0.goes, it.1.0.part)
feed_goes_so h h' m old new (Err fault) empty it = tt

pub feed_goes : (h h' : HostSeen) (m : Msg) (old new : Mail) (r : Result Unit ControlFault) → HostFollows h → is_some h.part ≡ true → host_done h ≡ false → MaySay (said_by_guest h.plan) farewell_taken (h.fed ++ m ∷ [])
    → old ≡ record { size = 64; queue = [] } → Comes (host_hears h m) h h' m old new r → OnOk r (Goes (host_side h) new.queue (m ∷ []) (host_side h') × (h'.part ≡ h.part))
feed_goes h h' m old new r f begun unfinished may empty comes = feed_goes_so h h' m old new r empty (came h h' m old new r f begun unfinished may comes)

feed_refuses_so : (h h' : HostSeen) (m : Msg) (old new : Mail) (r : Result Unit ControlFault) → Came h h' m old new r → IfErr r (λ fault. Refuses (host_side h) m fault × (host_side h' ≡ host_side h) × (new ≡ old))
feed_refuses_so h h' m old new (Ok u) it = tt
feed_refuses_so h h' m old new (Err fault) it = (it.why, ap host_side it.same, it.mail)

pub feed_refuses : (h h' : HostSeen) (m : Msg) (old new : Mail) (r : Result Unit ControlFault) → HostFollows h → is_some h.part ≡ true → host_done h ≡ false → MaySay (said_by_guest h.plan) farewell_taken (h.fed ++ m ∷ [])
    → Comes (host_hears h m) h h' m old new r → IfErr r (λ fault. Refuses (host_side h) m fault × (host_side h' ≡ host_side h) × (new ≡ old))
feed_refuses h h' m old new r f begun unfinished may comes = feed_refuses_so h h' m old new r (came h h' m old new r f begun unfinished may comes)
