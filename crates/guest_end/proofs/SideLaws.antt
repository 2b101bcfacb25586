-- A guest's control keeps what is asked of a side.
use Rattle.std.proofs.Common.{◌≡◌, ◌∙◌, ◌&&◌, Bool, true, false, List, [], ◌∷◌, ◌++◌, Some, is_some, Result, Ok, Err, OnOk, OnErr, IfErr, refl, sym, ap, subst, inl, inr}
use mathlib.Core.List.{IsPrefix}
use Rattle.contact.specs.declared.part.Part.{Part}
use Rattle.vmbus_msg.specs.Grammar.{type_of}
use Rattle.vmbus_msg.specs.declared.msg.Msg.{Msg}
use Rattle.mail_box.specs.Mail.{Mail}
use Rattle.mail_box.specs.Letters.{MaySay}
use Rattle.control_model.specs.declared.fault.ControlFault.{ControlFault}
use Rattle.control_model.specs.declared.fault.ControlFault.TheVariants.{Unasked, Memory}
use Rattle.control_model.specs.declared.guest_turn.GuestTurn.{GuestTurn}
use Rattle.control_model.specs.Plan.{BusPlan, IsPlan}
use Rattle.control_model.specs.Messages.{farewell}
use Rattle.control_model.specs.Said.{said_by_guest, said_by_host}
use Rattle.control_model.specs.Guest.{GuestSeen, guest_done, guest_hears, waits_for_nothing, GuestBegins, GuestTakes, Refuses}
use Rattle.control_model.specs.GuestAt.{GuestAt}
use Rattle.control_laws.proofs.Going.{guest_starts, guest_takes, guest_fronts}
use Rattle.control_laws.proofs.Never.{guest_is_cut}
use Rattle.control_side.specs.Sides.{Goes, Refuses as RefusesOf}
use Rattle.control_side.proofs.Lasts.{last_same}
use Rattle.guest_end.specs.AsSide.{guest_side, GuestFollows, GuestMayBegin}

follows_on : (g g' : GuestSeen) → GuestFollows g → GuestAt g.plan g' → GuestFollows g'
follows_on g g' f at = record { planned = subst IsPlan (sym at.plan_is) f.planned; at = subst (λ (p : BusPlan). GuestAt p g') (sym at.plan_is) at }

goes : (g g' : GuestSeen) (sent heard : List Msg) → GuestFollows g' → g'.plan ≡ g.plan → g'.posted ≡ g.posted ++ sent → g'.fed ≡ g.fed ++ heard → Goes (guest_side g) sent heard (guest_side g')
goes g g' sent heard f plan posted fed = record {
  script = record { plan = plan; says = ap said_by_guest plan; parting = refl; hears = ap said_by_host plan; cut = refl };
  posted = posted;
  fed = fed;
  front = let front = (guest_fronts g'.plan g' f.at).0 in (front.0, sym front.1);
}

-- it begins a part
pub began_follows : (g g' : GuestSeen) (part : Part) (sent : List Msg) → GuestFollows g → GuestMayBegin g part → GuestBegins g part sent g' → GuestFollows g'
began_follows g g' part sent f may begins = follows_on g g' f (guest_starts g.plan g g' part sent f.planned f.at may.1 may.0 begins)

pub began_goes : (g g' : GuestSeen) (part : Part) (sent : List Msg) → GuestFollows g → GuestMayBegin g part → GuestBegins g part sent g' → Goes (guest_side g) sent [] (guest_side g') × (g'.part ≡ Some part)
began_goes g g' part sent f may begins = (
  goes g g' sent [] (began_follows g g' part sent f may begins) (ap (λ (x : GuestSeen). x.plan) begins.now) (ap (λ (x : GuestSeen). x.posted) begins.now) (ap (λ (x : GuestSeen). x.fed) begins.now),
  ap (λ (x : GuestSeen). x.part) begins.now,
)

-- it takes the next message, and refuses the one that ends the host's early
only_second : (a b : Bool) → a ≡ true → (a && b) ≡ false → b ≡ false
only_second true b is none = none
only_second false b is none = absurd (cc is)

fits : (g : GuestSeen) (m : Msg) → GuestFollows g → is_some g.part ≡ true → guest_done g ≡ false → IsPrefix (g.fed ++ m ∷ []) (said_by_host g.plan)
    → ((turn : GuestTurn) × (guest_hears g m ≡ Ok turn)) × ((sent : List Msg) (g' : GuestSeen) → GuestTakes g m sent g' → GuestAt g.plan g')
fits g m f begun unfinished p = guest_takes g.plan g m f.planned f.at (only_second (is_some g.part) (waits_for_nothing g.awaits) begun unfinished) (p.0, sym p.1)

is_refused : (g : GuestSeen) (m : Msg) → m ≡ farewell → guest_hears g m ≡ Err (Unasked (type_of farewell))
is_refused g m is = ap (guest_hears g) is ∙ guest_is_cut.1 g

not_both : (r : Result GuestTurn ControlFault) (turn : GuestTurn) (fault : ControlFault) → r ≡ Ok turn → r ≡ Err fault → ⊥
not_both r turn fault a b = absurd (cc (a, b))

pub took_follows : (g g' : GuestSeen) (m : Msg) (sent : List Msg) → GuestFollows g → is_some g.part ≡ true → guest_done g ≡ false → MaySay (said_by_host g.plan) farewell (g.fed ++ m ∷ []) → GuestTakes g m sent g' → GuestFollows g'
took_follows g g' m sent f begun unfinished (inl p) takes = follows_on g g' f ((fits g m f begun unfinished p).1 sent g' takes)
took_follows g g' m sent f begun unfinished (inr e) takes = absurd (not_both (guest_hears g m) takes.turn (Unasked (type_of farewell)) takes.hears (is_refused g m (last_same g.fed e.front m farewell e.is)))

pub took_goes : (g g' : GuestSeen) (m : Msg) (sent : List Msg) → GuestFollows g → is_some g.part ≡ true → guest_done g ≡ false → MaySay (said_by_host g.plan) farewell (g.fed ++ m ∷ []) → GuestTakes g m sent g'
    → Goes (guest_side g) sent (m ∷ []) (guest_side g') × (g'.part ≡ g.part)
took_goes g g' m sent f begun unfinished may takes = (
  goes g g' sent (m ∷ []) (took_follows g g' m sent f begun unfinished may takes) (ap (λ (x : GuestSeen). x.plan) takes.now) (ap (λ (x : GuestSeen). x.posted) takes.now) (ap (λ (x : GuestSeen). x.fed) takes.now),
  ap (λ (x : GuestSeen). x.part) takes.now,
)

pub refuses : (g : GuestSeen) (m : Msg) (fault : ControlFault) → GuestFollows g → is_some g.part ≡ true → guest_done g ≡ false → MaySay (said_by_host g.plan) farewell (g.fed ++ m ∷ []) → Refuses (guest_hears g m) fault → RefusesOf (guest_side g) m fault
refuses g m fault f begun unfinished (inl p) r =
    let taken = (fits g m f begun unfinished p).0 in
    let is : fault ≡ Memory = subst (λ (x : Result GuestTurn ControlFault). Refuses x fault) taken.1 r in
    subst (RefusesOf (guest_side g) m) (sym is) (λ last. not_both (guest_hears g m) taken.0 (Unasked (type_of farewell)) taken.1 (is_refused g m last))
refuses g m fault f begun unfinished (inr e) r =
    let last : m ≡ farewell = last_same g.fed e.front m farewell e.is in
    let is : fault ≡ Unasked (type_of farewell) = subst (λ (x : Result GuestTurn ControlFault). Refuses x fault) (is_refused g m last) r in subst (RefusesOf (guest_side g) m) (sym is) (last, sym (ap type_of last))

-- what its `begin` and its `feed` come to
pub begin_follows : {E : Type 0} (g g' : GuestSeen) (part : Part) (old new : Mail) (r : Result Unit E) → GuestFollows g → GuestMayBegin g part → OnOk r (GuestBegins g part new.queue g' × (new.size ≡ 64)) → OnErr r ((g' ≡ g) × (new ≡ old)) → GuestFollows g'
begin_follows g g' part old new (Ok u) f may begun refused = began_follows g g' part new.queue f may begun.0
begin_follows g g' part old new (Err e) f may begun refused = subst GuestFollows (sym refused.0) f

pub begin_goes : {E : Type 0} (g g' : GuestSeen) (part : Part) (new : Mail) (r : Result Unit E) → GuestFollows g → GuestMayBegin g part → OnOk r (GuestBegins g part new.queue g' × (new.size ≡ 64))
    → OnOk r (Goes (guest_side g) new.queue [] (guest_side g') × (g'.part ≡ Some part))
begin_goes g g' part new (Ok u) f may begun = began_goes g g' part new.queue f may begun.0
begin_goes g g' part new (Err e) f may begun = tt

abbrev FedSo : GuestSeen → GuestSeen → Msg → Mail → Mail → Type 0
FedSo g g' m old new = (sent : List Msg) × (GuestTakes g m sent g' × (new ≡ record { size = old.size; queue = old.queue ++ sent }))

pub feed_follows : (g g' : GuestSeen) (m : Msg) (old new : Mail) (r : Result Unit ControlFault) → GuestFollows g → is_some g.part ≡ true → guest_done g ≡ false → MaySay (said_by_host g.plan) farewell (g.fed ++ m ∷ [])
    → OnOk r (FedSo g g' m old new) → IfErr r (λ fault. Refuses (guest_hears g m) fault × (g' ≡ g) × (new ≡ old)) → GuestFollows g'
feed_follows g g' m old new (Ok u) f begun unfinished may taken refused = took_follows g g' m taken.0 f begun unfinished may taken.1.0
feed_follows g g' m old new (Err fault) f begun unfinished may taken refused = subst GuestFollows (sym refused.1) f

pub feed_goes : (g g' : GuestSeen) (m : Msg) (old new : Mail) (r : Result Unit ControlFault) → GuestFollows g → is_some g.part ≡ true → guest_done g ≡ false → MaySay (said_by_host g.plan) farewell (g.fed ++ m ∷ [])
    → old ≡ record { size = 64; queue = [] } → OnOk r (FedSo g g' m old new) → OnOk r (Goes (guest_side g) new.queue (m ∷ []) (guest_side g') × (g'.part ≡ g.part))
feed_goes g g' m old new (Ok u) f begun unfinished may empty taken =
    let sent : taken.0 ≡ new.queue = sym (ap (λ (x : Mail). x.queue) taken.1.1 ∙ ap (λ (x : Mail). x.queue ++ taken.0) empty) in
    let all = took_goes g g' m taken.0 f begun unfinished may taken.1.0 in (subst (λ (q : List Msg). Goes (guest_side g) q (m ∷ []) (guest_side g')) sent all.0, all.1)
feed_goes g g' m old new (Err fault) f begun unfinished may empty taken = tt

pub feed_refuses : (g g' : GuestSeen) (m : Msg) (old new : Mail) (r : Result Unit ControlFault) → GuestFollows g → is_some g.part ≡ true → guest_done g ≡ false → MaySay (said_by_host g.plan) farewell (g.fed ++ m ∷ [])
    → IfErr r (λ fault. Refuses (guest_hears g m) fault × (g' ≡ g) × (new ≡ old)) → IfErr r (λ fault. RefusesOf (guest_side g) m fault × (guest_side g' ≡ guest_side g) × (new ≡ old))
feed_refuses g g' m old new (Ok u) f begun unfinished may refused = tt
feed_refuses g g' m old new (Err fault) f begun unfinished may refused = (refuses g m fault f begun unfinished may refused.0, ap guest_side refused.1, refused.2)
