-- What the queues say of both sides' faults.
use Rattle.std.proofs.Common.{◌≡◌, ℕ, List, [], ◌∷◌, ◌++◌, Option, Some, None, sym, refl, ap, ◌∙◌, subst, append_assoc}
use Rattle.std.proofs.lemmas.List.{append-nil}
use mathlib.Core.List.{IsPrefix}
use Rattle.vmbus_msg.specs.declared.msg.Msg.{Msg}
use Rattle.mail_box.specs.Mail.{Post, Fetch}
use Rattle.control_model.specs.declared.fault.ControlFault.{ControlFault}
use Rattle.control_model.specs.declared.fault.ControlFault.TheVariants.{State, Gpadl, Relid, Offer, Unasked, Memory}
use Rattle.control_side.specs.Sides.{Side, parting_of, Serves}
use Rattle.control_side.proofs.Steps.{all_fed}
use Rattle.control_path.specs.Ends.{Hears, IsExplained, IsFedFrom}

-- what a side put, where no message ended it early, is what it posted
put_posted : (s : Side) (fetch : Fetch) (post : Post) (fault : Option ControlFault) → parting_of s fault ≡ [] → Serves s fetch post [] fault → post.put ≡ s.posted
put_posted s fetch post fault none h = sym (append-nil post.put) ∙ (h.put ∙ (ap (λ l. s.posted ++ l) none ∙ append-nil s.posted))

front_put : (s : Side) (fetch : Fetch) (post : Post) (fault : Option ControlFault) → parting_of s fault ≡ [] → Serves s fetch post [] fault → IsPrefix post.put s.says
front_put s fetch post fault none h = subst (λ (l : List Msg). IsPrefix l s.says) (sym (put_posted s fetch post fault none h)) h.front

-- so the message that ends it early was not taken
never_cut : (s other : Side) (fetch : Fetch) (put rest : List Msg) → Hears s other → IsPrefix put other.says → put ≡ fetch.taken ++ rest → fetch.taken ≡ s.fed ++ s.cut ∷ [] → ⊥
never_cut s other fetch put rest hears front pipe taken = hears.never s.fed (rest ++ front.0) (
    sym front.1 ∙ (ap (λ l. l ++ front.0) (pipe ∙ (ap (λ l. l ++ rest) taken ∙ (ap (λ k. (s.fed ++ k ∷ []) ++ rest) hears.cut ∙ append_assoc s.fed (other.parting ∷ []) rest)))
    ∙ append_assoc s.fed (other.parting ∷ rest) front.0))

cut_by : (s other : Side) (fetch fetch' : Fetch) (post post' : Post) (kind : ℕ) (fault' : Option ControlFault) (rest : List Msg) → parting_of other fault' ≡ []
    → Serves s fetch post [] (Some (Unasked kind)) → Serves other fetch' post' [] fault' → Hears s other → post'.put ≡ fetch.taken ++ rest → ⊥
cut_by s other fetch fetch' post post' kind fault' rest none h h' hears pipe =
    never_cut s other fetch post'.put rest hears (front_put other fetch' post' fault' none h') pipe (h.taken ∙ ap (λ l. s.fed ++ l) h.refused.0)

pub explained : (s other : Side) (fetch fetch' : Fetch) (post post' : Post) (fault fault' : Option ControlFault) (rest : List Msg)
    → Serves s fetch post [] fault → Serves other fetch' post' [] fault' → Hears s other → post'.put ≡ fetch.taken ++ rest → IsExplained fault fault'
explained s other fetch fetch' post post' None fault' rest h h' hears pipe = tt
explained s other fetch fetch' post post' (Some Memory) fault' rest h h' hears pipe = tt
explained s other fetch fetch' post post' (Some (Unasked kind)) (Some Memory) rest h h' hears pipe = refl
explained s other fetch fetch' post post' (Some (Unasked kind)) None rest h h' hears pipe = absurd (cut_by s other fetch fetch' post post' kind None rest refl h h' hears pipe)
explained s other fetch fetch' post post' (Some (Unasked kind)) (Some (Unasked kind')) rest h h' hears pipe =
    absurd (cut_by s other fetch fetch' post post' kind (Some (Unasked kind')) rest refl h h' hears pipe)
explained s other fetch fetch' post post' (Some (Unasked kind)) (Some (State why)) rest h h' hears pipe = absurd h'.refused
explained s other fetch fetch' post post' (Some (Unasked kind)) (Some (Gpadl why)) rest h h' hears pipe = absurd h'.refused
explained s other fetch fetch' post post' (Some (Unasked kind)) (Some (Relid value)) rest h h' hears pipe = absurd h'.refused
explained s other fetch fetch' post post' (Some (Unasked kind)) (Some (Offer why)) rest h h' hears pipe = absurd h'.refused
explained s other fetch fetch' post post' (Some (State why)) fault' rest h h' hears pipe = absurd h.refused
explained s other fetch fetch' post post' (Some (Gpadl why)) fault' rest h h' hears pipe = absurd h.refused
explained s other fetch fetch' post post' (Some (Relid value)) fault' rest h h' hears pipe = absurd h.refused
explained s other fetch fetch' post post' (Some (Offer why)) fault' rest h h' hears pipe = absurd h.refused

pub fed_from : (s other : Side) (fetch fetch' : Fetch) (post post' : Post) (fault fault' : Option ControlFault) (rest : List Msg)
    → Serves s fetch post [] fault → Serves other fetch' post' [] fault' → post'.put ≡ fetch.taken ++ rest → IsFedFrom s other fault fault'
fed_from s other fetch fetch' post post' None None rest h h' pipe =
    (rest, ap (λ l. l ++ rest) (sym (all_fed s fetch post [] h)) ∙ (sym pipe ∙ put_posted other fetch' post' None refl h'))
fed_from s other fetch fetch' post post' None (Some f) rest h h' pipe = tt
fed_from s other fetch fetch' post post' (Some f) fault' rest h h' pipe = tt
