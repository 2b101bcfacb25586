use Rattle.std.proofs.Common.{rules, Bool, ◌≡◌, List, ℕ, refl, sym, ap, ◌∙◌, subst}
use Rattle.channel_trace.specs.Runs.{IsFront}
use Rattle.page_kept.specs.declared.item.Item.{Item}
use Rattle.ring_machine.specs.declared.state.EndState.{EndState}
use Rattle.ring_seat.specs.Seats.{told_in}
use Rattle.ring_seat.specs.Settling.{AreSettled, PagesSettled}
use Rattle.ring_seat.specs.Whole.{ItemsGot}
use Rattle.ring_seat.proofs.settled.finish.Goals as goal

items_are : (d : Bool) (got got' sent sent' : List (List ℕ)) (gi gi' si si' : List Item) → got' ≡ got → gi' ≡ gi → sent' ≡ sent → si' ≡ si → ItemsGot d got gi sent si → ItemsGot d got' gi' sent' si'
items_are d got got' sent sent' gi gi' si si' a b e f = subst (λ (z : List (List ℕ) × List Item × List (List ℕ) × List Item). ItemsGot d z.0 z.1 z.2 z.3) (λ j. (sym a j, sym b j, sym e j, sym f j))

pub settle-requires-clause-guest : goal.settle-requires-clause-guest
settle-requires-clause-guest c = ap (λ (e : EndState). e.machine.side) (c.into_parts-guest.ensures.told (told_in c.into_parts-guest.result.0.seat.me.0) refl) ∙ c.requires.one_channel.guest

pub settle-requires-clause-host : goal.settle-requires-clause-host
settle-requires-clause-host c = ap (λ (e : EndState). e.machine.side) (c.into_parts-host.ensures.told (told_in c.into_parts-host.result.0.seat.me.0) refl) ∙ c.requires.one_channel.host

pub returns : goal.returns
returns c =
    let a = c.into_parts-guest.ensures in
    let b = c.into_parts-host.ensures in
    let g = a.told (told_in c.into_parts-guest.result.0.seat.me.0) refl in
    let h = b.told (told_in c.into_parts-host.result.0.seat.me.0) refl in
    let s = subst (λ (z : EndState × EndState). AreSettled z.0 z.1) (λ j. (g j, h j)) c.settle.ensures.ends in
    let t = subst (λ (z : EndState × EndState). PagesSettled z.0 z.1) (λ j. (g j, h j)) c.settle.ensures.pages in
    record {
      guest = search rules;
      host = search rules;
      fronts = (
        subst (λ (z : List (List ℕ) × List (List ℕ)). IsFront z.0 z.1) (λ j. (sym a.got j, sym b.sent j)) s.guest_front,
        subst (λ (z : List (List ℕ) × List (List ℕ)). IsFront z.0 z.1) (λ j. (sym b.got j, sym a.sent j)) s.host_front,
      );
      guest_drained = λ d. a.got ∙ (s.guest_drained d ∙ sym b.sent);
      host_drained = λ d. b.got ∙ (s.host_drained d ∙ sym a.sent);
      run = s.run;
      signals = search rules;
      guest_items = search rules;
      host_items = search rules;
      item_fronts = (
        λ some. subst (λ (z : List Item × List Item). IsFront z.0 z.1) (λ j. (sym a.items.1 j, sym b.items.0 j)) (t.guest_front some),
        λ some. subst (λ (z : List Item × List Item). IsFront z.0 z.1) (λ j. (sym b.items.1 j, sym a.items.0 j)) (t.host_front some),
      );
      guest_pages = λ some clear. items_are _ _ _ _ _ _ _ _ _ a.got a.items.1 b.sent b.items.0 (t.guest some clear);
      host_pages = λ some clear. items_are _ _ _ _ _ _ _ _ _ b.got b.items.1 a.sent a.items.0 (t.host some clear);
      guest_past = (a.sent ∙ sym s.guest_past.0, a.got ∙ sym s.guest_past.1);
      host_past = (b.sent ∙ sym s.host_past.0, b.got ∙ sym s.host_past.1);
      pasts = search rules;
    }
