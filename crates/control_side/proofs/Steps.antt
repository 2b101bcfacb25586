-- What each move of a served control keeps.
use Rattle.std.proofs.Common.{◌≡◌, ℕ, List, [], ◌∷◌, ◌++◌, Option, Some, None, sym, refl, ap, ◌∙◌, subst, inl, inr, append_assoc}
use Rattle.std.proofs.lemmas.List.{append-nil}
use Rattle.std.specs.Option.{option_to_list}
use mathlib.Core.List.{IsPrefix}
use Rattle.vmbus_msg.specs.Grammar.{type_of}
use Rattle.vmbus_msg.specs.declared.msg.Msg.{Msg}
use Rattle.mail_box.specs.Mail.{Post, Fetch}
use Rattle.mail_box.specs.Letters.{MaySay}
use Rattle.mail_box.proofs.Moves.{front_of_front}
use Rattle.control_model.specs.declared.fault.ControlFault.{ControlFault}
use Rattle.control_model.specs.declared.fault.ControlFault.TheVariants.{State, Gpadl, Relid, Offer, Unasked, Memory}
use Rattle.control_side.specs.Sides.{Side, Continues, Goes, Refuses, parting_of, Refused, Serves}

-- all that a side posted, and then the message that ends it early after want of memory, may be said
says_posted : (s : Side) → IsPrefix s.posted s.says → MaySay s.says s.parting (s.posted ++ [])
says_posted s p = inl (p.0, ap (λ l. l ++ p.0) (append-nil s.posted) ∙ p.1)

says_all : (s : Side) (fault : Option ControlFault) → IsPrefix s.posted s.says → MaySay s.says s.parting (s.posted ++ parting_of s fault)
says_all s None p = says_posted s p
says_all s (Some Memory) p = inr (record { front = s.posted; named_front = p; is = refl })
says_all s (Some (Unasked kind)) p = says_posted s p
says_all s (Some (State why)) p = says_posted s p
says_all s (Some (Gpadl why)) p = says_posted s p
says_all s (Some (Relid value)) p = says_posted s p
says_all s (Some (Offer why)) p = says_posted s p

-- what grows twice grows
longer : (xs ys zs : List Msg) → IsPrefix xs ys → IsPrefix ys zs → IsPrefix xs zs
longer xs ys zs p q = (p.0 ++ q.0, sym (append_assoc xs p.0 q.0) ∙ (ap (λ l. l ++ q.0) p.1 ∙ q.1))

pub stays : (s : Side) → Continues s s
stays s = record { script = record { plan = refl; says = refl; parting = refl; hears = refl; cut = refl }; posted = ([], append-nil s.posted); fed = ([], append-nil s.fed) }

pub goes_on : (s t u : Side) → Continues s t → Continues t u → Continues s u
goes_on s t u a b = record {
  script = record {
    plan = b.script.plan ∙ a.script.plan;
    says = b.script.says ∙ a.script.says;
    parting = b.script.parting ∙ a.script.parting;
    hears = b.script.hears ∙ a.script.hears;
    cut = b.script.cut ∙ a.script.cut;
  };
  posted = longer s.posted t.posted u.posted a.posted b.posted;
  fed = longer s.fed t.fed u.fed a.fed b.fed;
}

pub grows : (s : Side) (sent heard : List Msg) (t : Side) → Goes s sent heard t → Continues s t
grows s sent heard t g = record { script = g.script; posted = (sent, sym g.posted); fed = (heard, sym g.fed) }

-- the first one that waits may be put
pub may_put : (s : Side) (fetch : Fetch) (post : Post) (m : Msg) (rest : List Msg) (fault : Option ControlFault) → Serves s fetch post (m ∷ rest) fault → MaySay post.named post.last (post.put ++ m ∷ [])
may_put s fetch post m rest fault h =
    let whole : MaySay s.says s.parting ((post.put ++ m ∷ []) ++ rest) = subst (MaySay s.says s.parting) (sym h.put ∙ sym (append_assoc post.put (m ∷ []) rest)) (says_all s fault h.front) in
    subst (λ (y : List Msg × Msg). MaySay y.0 y.1 (post.put ++ m ∷ [])) (λ i. (sym h.says i, sym h.parting i)) (front_of_front s.says s.parting (post.put ++ m ∷ []) rest whole)

-- it was put
pub was_put : (s : Side) (fetch : Fetch) (post : Post) (m : Msg) (rest : List Msg) (fault : Option ControlFault) → Serves s fetch post (m ∷ rest) fault → Serves s fetch (record post { put = post.put ++ m ∷ [] }) rest fault
was_put s fetch post m rest fault h = record {
  says = h.says;
  parting = h.parting;
  hears = h.hears;
  cut = h.cut;
  put = append_assoc post.put (m ∷ []) rest ∙ h.put;
  front = h.front;
  more = h.more;
  taken = h.taken;
  refused = h.refused;
}

-- without a fault all that was taken was fed
pub all_fed : (s : Side) (fetch : Fetch) (post : Post) (waiting : List Msg) → Serves s fetch post waiting None → fetch.taken ≡ s.fed
all_fed s fetch post waiting h = h.taken ∙ (ap (λ l. s.fed ++ l) h.refused ∙ append-nil s.fed)

-- the next one may be fed
pub may_feed : (s : Side) (fetch : Fetch) (post : Post) (m : Msg) → Serves s fetch post [] None → MaySay fetch.named fetch.last (fetch.taken ++ m ∷ []) → MaySay s.hears s.cut (s.fed ++ m ∷ [])
may_feed s fetch post m h may = subst (λ (y : List Msg × (Msg × List Msg)). MaySay y.0 y.1.0 (y.1.1 ++ m ∷ [])) (λ i. (h.hears i, (h.cut i, all_fed s fetch post [] h i))) may

-- a part began
pub was_begun : (s : Side) (fetch : Fetch) (post : Post) (sent : List Msg) (t : Side) → Serves s fetch post [] None → Goes s sent [] t → Serves t fetch post sent None
was_begun s fetch post sent t h g = record {
  says = h.says ∙ sym g.script.says;
  parting = h.parting ∙ sym g.script.parting;
  hears = h.hears ∙ sym g.script.hears;
  cut = h.cut ∙ sym g.script.cut;
  put = ap (λ l. l ++ sent) (sym (append-nil post.put) ∙ (h.put ∙ append-nil s.posted)) ∙ (sym g.posted ∙ sym (append-nil t.posted));
  front = g.front;
  more = [];
  taken = all_fed s fetch post [] h ∙ (sym (append-nil s.fed) ∙ (sym g.fed ∙ sym (append-nil t.fed)));
  refused = refl;
}

-- a message was fed
pub was_fed : (s : Side) (fetch : Fetch) (post : Post) (m : Msg) (sent : List Msg) (t : Side) → Serves s fetch post [] None → Goes s sent (m ∷ []) t → Serves t (record fetch { taken = fetch.taken ++ m ∷ [] }) post sent None
was_fed s fetch post m sent t h g = record {
  says = h.says ∙ sym g.script.says;
  parting = h.parting ∙ sym g.script.parting;
  hears = h.hears ∙ sym g.script.hears;
  cut = h.cut ∙ sym g.script.cut;
  put = ap (λ l. l ++ sent) (sym (append-nil post.put) ∙ (h.put ∙ append-nil s.posted)) ∙ (sym g.posted ∙ sym (append-nil t.posted));
  front = g.front;
  more = [];
  taken = ap (λ l. l ++ m ∷ []) (all_fed s fetch post [] h) ∙ (sym g.fed ∙ sym (append-nil t.fed));
  refused = refl;
}

-- memory was wanting at the start of a part
pub wants_to_begin : (s : Side) (fetch : Fetch) (post : Post) → Serves s fetch post [] None → Serves s fetch post (s.parting ∷ []) (Some Memory)
wants_to_begin s fetch post h = record {
  says = h.says;
  parting = h.parting;
  hears = h.hears;
  cut = h.cut;
  put = ap (λ l. l ++ s.parting ∷ []) (sym (append-nil post.put) ∙ (h.put ∙ append-nil s.posted));
  front = h.front;
  more = [];
  taken = h.taken ∙ ap (λ l. s.fed ++ l) h.refused;
  refused = inl refl;
}

-- the message was refused: it is the one that was taken and not fed
refused_as : (s : Side) (m : Msg) (fault : ControlFault) → Refuses s m fault → Refused s (Some fault) (m ∷ [])
refused_as s m Memory r = inr (m, refl, r)
refused_as s m (Unasked kind) r = (ap (λ k. k ∷ []) r.0, r.1 ∙ ap type_of r.0)
refused_as s m (State why) r = absurd r
refused_as s m (Gpadl why) r = absurd r
refused_as s m (Relid value) r = absurd r
refused_as s m (Offer why) r = absurd r

pub was_refused : (s : Side) (fetch : Fetch) (post : Post) (m : Msg) (fault : ControlFault) → Serves s fetch post [] None → Refuses s m fault → Serves s (record fetch { taken = fetch.taken ++ m ∷ [] }) post (parting_of s (Some fault)) (Some fault)
was_refused s fetch post m fault h r = record {
  says = h.says;
  parting = h.parting;
  hears = h.hears;
  cut = h.cut;
  put = ap (λ l. l ++ parting_of s (Some fault)) (sym (append-nil post.put) ∙ (h.put ∙ append-nil s.posted));
  front = h.front;
  more = m ∷ [];
  taken = ap (λ l. l ++ m ∷ []) (all_fed s fetch post [] h);
  refused = refused_as s m fault r;
}

pub may_put_held : (s : Side) (fetch : Fetch) (post : Post) (held : Option Msg) (local : List Msg) (m : Msg) (fault : Option ControlFault) → held ≡ Some m → Serves s fetch post (option_to_list held ++ local) fault → MaySay post.named post.last (post.put ++ m ∷ [])
may_put_held s fetch post held local m fault is h = may_put s fetch post m local fault (subst (λ (o : Option Msg). Serves s fetch post (option_to_list o ++ local) fault) is h)
