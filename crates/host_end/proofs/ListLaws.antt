-- A page list that is whole once a piece of it came.
use Rattle.std.proofs.Common.{◌≡◌, ◌∙◌, ◌==◌, ◌++◌, ℕ, [], ◌∷◌, length, Option, Some, None, Ok, true, refl, sym, ap}
use Rattle.vmbus_msg.specs.declared.msg.Msg.{Msg}
use Rattle.mail_box.specs.Mail.{Mail}
use Rattle.gpadl.specs.Assembly.{Assembly, Partial, Took as Taken, built, fault_of}
use Rattle.gpadl.specs.Whole.{next}
use Rattle.gpadl.specs.declared.progress.Progress.{Progress}
use Rattle.gpadl.specs.declared.progress.Progress.TheVariants.{More, Done}
use Rattle.control_model.specs.declared.host_wait.HostWait.{HostWait}
use Rattle.control_model.specs.declared.burst.Burst.TheVariants.{One}
use Rattle.control_model.specs.Messages.{created}
use Rattle.control_model.specs.Host.{HostSeen, at_rest, listed, lists_by, on_piece}
use Rattle.std.proofs.lemmas.Bool.{eq-eqb}
use Rattle.host_end.specs.Feeding.{Comes, list_made, with_mail}

-- what comes of the piece that makes a list whole
pub record Makes (h : HostSeen) (lists : Assembly) (building : Option Partial) (relid handle : ℕ) : Type 0 where
  pub list : Partial
  pub of : list.relid ≡ relid
  pub named : list.handle ≡ handle
  pub turn : lists_by h lists building ≡ record (at_rest h) { awaits = listed h h.awaits list; lists = lists; burst = One (created relid handle) }

makes_whole : (h : HostSeen) (lists : Assembly) (p : Partial) (relid handle : ℕ) → length p.pages ≡ p.want → p.relid ≡ relid → p.handle ≡ handle → Makes h lists (Some p) relid handle
makes_whole h lists p relid handle whole of named =
    let here : (length p.pages == p.want) ≡ true = eq-eqb (length p.pages) p.want whole in
    record { list = p; of = of; named = named; turn = rw (here, of, named) refl }

abbrev relid_in : Option (ℕ × ℕ) → ℕ
relid_in None = 0
relid_in (Some x) = x.0

abbrev handle_in : Option (ℕ × ℕ) → ℕ
handle_in None = 0
handle_in (Some x) = x.1

piece_makes : (h : HostSeen) (lists : Assembly) (m : Msg) (progress : Progress) (now : Assembly) (relid handle : ℕ) → Taken h.lists m progress now → list_made progress ≡ Some (relid, handle) → Makes h lists (built h.lists.building m) relid handle
piece_makes h lists m (More have want) now relid handle took made = absurd (cc)
piece_makes h lists m (Done list) now relid handle took made =
    let of : list.relid ≡ relid = ap relid_in made in
    let named : list.handle ≡ handle = ap handle_in made in
    let whole = makes_whole h lists took.0 relid handle took.1.1.0 (sym took.1.1.1 ∙ of) (sym took.1.1.2 ∙ named) in
    rw took.1.0 whole

-- the piece is taken, and GPADL_CREATED is sent
pub came_whole : (h : HostSeen) (m : Msg) (progress : Progress) (now : Assembly) (relid handle : ℕ) (awaits : HostWait) (new : HostSeen) (before after : Mail)
    → fault_of h.lists m ≡ None → Taken h.lists m progress now → now ≡ next h.lists m → list_made progress ≡ Some (relid, handle)
    → ((p : Partial) → p.relid ≡ relid → p.handle ≡ handle → awaits ≡ listed h h.awaits p)
    → new ≡ record { plan = h.plan; part = h.part; awaits = awaits; version = h.version; channels = h.channels; lists = now; posted = h.posted ++ created relid handle ∷ []; fed = h.fed ++ m ∷ [] }
    → after ≡ with_mail before (created relid handle ∷ []) → Comes (on_piece h m (fault_of h.lists m)) h new m before after (Ok (tt {0}))
came_whole h m progress now relid handle awaits new before after right took is made waits changed mail =
    let whole = piece_makes h (next h.lists m) m progress now relid handle took made in
    let F : Assembly → HostWait → HostSeen = λ lists w. record { plan = h.plan; part = h.part; awaits = w; version = h.version; channels = h.channels; lists = lists; posted = h.posted ++ created relid handle ∷ []; fed = h.fed ++ m ∷ [] } in
    let there : new ≡ F (next h.lists m) (listed h h.awaits whole.list) = changed ∙ ap (λ x. F x awaits) is ∙ ap (F (next h.lists m)) (waits whole.list whole.of whole.named) in
    rw (right, whole.turn) (record { sent = created relid handle ∷ []; sends = refl; now = there; mail = mail })
