-- What comes of a message at the end of a phase: the host goes on with the next opening.
use Rattle.std.proofs.Common.{◌≡◌, ◌∙◌, ℕ, ◌-◌, [], ◌∷◌, Some, None, Result, Ok, slice_set, sym, ap, subst}
use Rattle.vmbus_msg.specs.declared.msg.Msg.{Msg}
use Rattle.mail_box.specs.Mail.{Mail}
use Rattle.chan_state.specs.declared.event.Event.TheVariants.{OpenSeen, TeardownSeen, ReleaseSeen}
use Rattle.chan_state.specs.declared.action.Action.{Action}
use Rattle.chan_state.specs.declared.chan_state.ChanState.{ChanState}
use Rattle.control_model.specs.declared.burst.Burst.{Burst}
use Rattle.control_model.specs.declared.fault.ControlFault.{ControlFault}
use Rattle.control_model.specs.declared.host_next.HostNext.{HostNext}
use Rattle.control_model.specs.Channels.{by_relid, row_of, stands}
use Rattle.control_model.specs.Messages.{Sends}
use Rattle.control_model.specs.Host.{HostSeen, HostTurn, at_rest, goes_next, and_rescind, rescinded_among, without_its, lists_torn, torn_answer, opened_burst, open_turn, open_by, on_open, torn_then, teardown_by, released_then, release_by, on_release}
use Rattle.host_end.specs.Feeding.{Comes, Opens, Posts, Took}

-- RELID_RELEASED is taken
pub released : (old mid new : HostSeen) (m : Msg) (before after : Mail) (relid : ℕ) (life now : ChanState) (action : Action) (next : HostNext) (burst : Burst) → by_relid old.channels relid ≡ Some life → row_of life ReleaseSeen ≡ Some (now.state, action) → now.side ≡ life.side → now.vp ≡ life.vp
    → next ≡ released_then old old.awaits relid → Posts old mid burst (m ∷ []) before after → burst ≡ and_rescind None next.rescinds
    → new ≡ record { plan = mid.plan; part = mid.part; awaits = next.awaits; version = mid.version; channels = rescinded_among (slice_set mid.channels (relid - 1) now) next.rescinds; lists = without_its mid.lists next.rescinds; posted = mid.posted; fed = mid.fed }
    → Comes (on_release old relid (by_relid old.channels relid)) old new m before after (Ok (tt {0}))
released old mid new m before after relid life now action next burst known row side vp is posts sends changed =
    let turn : ChanState → HostNext → HostTurn = λ x n. goes_next (record (at_rest old) { channels = slice_set old.channels (relid - 1) x }) None n in
    let F : HostSeen → HostSeen = λ h. record { plan = h.plan; part = h.part; awaits = next.awaits; version = h.version; channels = rescinded_among (slice_set h.channels (relid - 1) now) next.rescinds; lists = without_its h.lists next.rescinds; posted = h.posted; fed = h.fed } in
    let took : Took (turn now next) old new m before after = record { sent = posts.sent; sends = subst (λ b. Sends old.plan b posts.sent) sends posts.sends; now = changed ∙ ap F posts.now; mail = posts.mail } in
    let stood : stands life now.state ≡ now = (let back = sym side in let kept = sym vp in λ i. record { side = back i; state = now.state; vp = kept i }) in
    let goes = sym is in
    let hears : on_release old relid (by_relid old.channels relid) ≡ Ok (turn now next) = ap (on_release old relid) known ∙ ap (release_by old relid life) row ∙ (λ i. Ok (turn (stood i) (goes i))) in
    subst (λ (r : Result HostTurn ControlFault). Comes r old new m before after (Ok (tt {0}))) (sym hears) took

-- GPADL_TEARDOWN is taken
pub torn : (old mid new : HostSeen) (m : Msg) (before after : Mail) (relid gpadl : ℕ) (life now : ChanState) (action : Action) (next : HostNext) (burst : Burst) → row_of life TeardownSeen ≡ Some (now.state, action) → now.side ≡ life.side → now.vp ≡ life.vp
    → next ≡ torn_then old old.awaits relid now → Posts old mid burst (m ∷ []) before after → burst ≡ and_rescind (torn_answer gpadl action) next.rescinds
    → new ≡ record { plan = mid.plan; part = mid.part; awaits = next.awaits; version = mid.version; channels = rescinded_among (slice_set mid.channels (relid - 1) now) next.rescinds; lists = without_its (lists_torn mid.lists gpadl action) next.rescinds; posted = mid.posted; fed = mid.fed }
    → Comes (teardown_by old relid gpadl life (row_of life TeardownSeen)) old new m before after (Ok (tt {0}))
torn old mid new m before after relid gpadl life now action next burst row side vp is posts sends changed =
    let turn : ChanState → HostNext → HostTurn = λ x n. goes_next (record (at_rest old) { channels = slice_set old.channels (relid - 1) x; lists = lists_torn old.lists gpadl action }) (torn_answer gpadl action) n in
    let F : HostSeen → HostSeen = λ h. record { plan = h.plan; part = h.part; awaits = next.awaits; version = h.version; channels = rescinded_among (slice_set h.channels (relid - 1) now) next.rescinds; lists = without_its (lists_torn h.lists gpadl action) next.rescinds; posted = h.posted; fed = h.fed } in
    let took : Took (turn now next) old new m before after = record { sent = posts.sent; sends = subst (λ b. Sends old.plan b posts.sent) sends posts.sends; now = changed ∙ ap F posts.now; mail = posts.mail } in
    let stood : stands life now.state ≡ now = (let back = sym side in let kept = sym vp in λ i. record { side = back i; state = now.state; vp = kept i }) in
    let goes = sym is in
    let hears : teardown_by old relid gpadl life (row_of life TeardownSeen) ≡ Ok (turn now next) = ap (teardown_by old relid gpadl life) row ∙ (λ i. Ok (turn (stood i) (torn_then old old.awaits relid (stood i)))) ∙ (λ i. Ok (turn now (goes i))) in
    subst (λ (r : Result HostTurn ControlFault). Comes r old new m before after (Ok (tt {0}))) (sym hears) took

-- OPENCHANNEL is taken
pub opens : (old new : HostSeen) (m : Msg) (before after : Mail) (relid openid : ℕ) (life now : ChanState) (action : Action) (burst : Burst) → by_relid old.channels relid ≡ Some life → row_of life OpenSeen ≡ Some (now.state, action) → now.side ≡ life.side → now.vp ≡ life.vp
    → burst ≡ opened_burst old relid openid action → Opens old new m relid now action burst before after → Comes (on_open old relid openid (by_relid old.channels relid)) old new m before after (Ok (tt {0}))
opens old new m before after relid openid life now action burst known row side vp is there =
    let turn : ChanState → HostTurn = λ x. open_turn old relid openid x action in
    let took : Took (turn now) old new m before after = record { sent = there.sent; sends = subst (λ b. Sends old.plan b there.sent) is there.sends; now = there.now; mail = there.mail } in
    let stood : stands life now.state ≡ now = (let back = sym side in let kept = sym vp in λ i. record { side = back i; state = now.state; vp = kept i }) in
    let hears : on_open old relid openid (by_relid old.channels relid) ≡ Ok (turn now) = ap (on_open old relid openid) known ∙ ap (open_by old relid openid life) row ∙ (λ i. Ok (turn (stood i))) in
    subst (λ (r : Result HostTurn ControlFault). Comes r old new m before after (Ok (tt {0}))) (sym hears) took
