use Rattle.std.proofs.Common.{◌≡◌, ◌++◌, [], ◌∷◌, ◌∙◌, ap, sym, arith, length, Some}
use Rattle.hist_lock.specs.declared.view.Terms.{Terms}
use Rattle.hist_lock.specs.declared.view.Kept.{Kept}
use Rattle.hist_lock.specs.Sitting.{terms_of, lock_of}
use Rattle.hist_lock.proofs.Opening.{opens, settled, if_ok}
use Rattle.hist_lock.proofs.lock.open.Goals as goal

pub new-requires : goal.new-requires
new-requires g c =
    let m = g.M.Machine in
    let t : Terms g.row.M.Denot g.row.M-Request.Denot g.row.M-Reply.Denot = terms_of m.first (record { quotas = c.of.result; state = c.of-2.result; past = c.of-3.result }) in
    let u : Terms g.row.M.Denot g.row.M-Request.Denot g.row.M-Reply.Denot = record { quotas = c.args.quota.now; start = m.first c.args.state; past = c.args.entries.items } in
    let kept : Kept g.row.M.Denot g.row.M-Request.Denot g.row.M-Reply.Denot = record { state = c.args.state; entries = c.reserve.new.self } in
    let quotas = ap (λ v. v.items) c.of.ensures ∙ c.in_ok-quotas.ensures.items_if_clones_equal (λ x y h. h) in
    let past = ap (λ v. v.items) c.of-3.ensures ∙ c.in_ok-reserve.ensures.items in
    let same : t ≡ u = λ i. record { quotas = quotas i; start = m.first (c.of-2.ensures i); past = past i } in
    let start = c.len-start.ensures ∙ (c.reserve.new.self.ok.0 ∙ ap length c.in_ok-reserve.ensures.items) in
    let slots = c.push_reserved.ensures.items ∙ ap (λ l. l ++ Some kept ∷ []) c.in_ok-slots.ensures.items in
    opens m.after m.reply_to t u kept c.len-start.result _ same start slots c.requires.some c.requires.fits c.requires.leaves.legal (record {
      entries = c.in_ok-reserve.ensures.items;
      state = c.requires.leaves.left_by;
      room = omega (arith, c.in_ok-reserve.ensures.ok, c.in_ok-reserve.ensures.len, c.total.ensures, c.args.entries.ok.0);
    })

pub share_out-requires-clause-settled : goal.share_out-requires-clause-settled
share_out-requires-clause-settled g c =
    let m = g.M.Machine in
    let here : c.in-Ok.table.shared.key.state.value ≡ c.args.state = ap (λ k. k.state.value) c.in-Ok.ensures.ok.5 ∙ c.of-2.ensures in
    ap (λ s. m.first (m.first s)) here ∙ settled m.first m.after m.reply_to g.met.M.Machine.keeps_setup c.args.state c.args.entries.items c.requires.leaves ∙ ap m.first (sym here)

pub returns-in-Ok : goal.returns-in-Ok
returns-in-Ok g c =
    let m = g.M.Machine in
    let shared = c.in-Ok.table.shared in
    let key = c.in-Ok.ensures.ok.5 in
    let quotas = ap (λ v. v.items) c.of.ensures ∙ c.in_ok-quotas.ensures.items_if_clones_equal (λ x y h. h) in
    let past = ap (λ v. v.items) c.of-3.ensures ∙ c.in_ok-reserve.ensures.items in
    if_ok c.share_out.result _ _
    (λ v is. record {
      lock = lock_of shared.table_id (terms_of m.first shared.key);
      first_is = ap (λ k. m.first k.state.value) key ∙ ap (λ s. m.first s) c.of-2.ensures;
      past_is = ap (λ k. k.past.value.items) key ∙ past;
      count = ap (λ k. length k.quotas.value.items) key ∙ ap length quotas;
      seats_are = is;
    })
    c.share_out.ensures
