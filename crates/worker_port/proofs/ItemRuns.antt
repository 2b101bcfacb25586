-- The run of two ends, in items as they are read.
use Rattle.std.proofs.Common.{◌≡◌, ℕ, List, [], map, sym, ap, ◌∙◌, subst, Option}
use Rattle.std.proofs.lemmas.List.{map-append}
use Rattle.page_kept.specs.declared.item.Item.{Item}
use Rattle.page_kept.specs.Items.{item_of, packets}
use Rattle.channel_trace.specs.Laws.{AreOfOneRun}
use Rattle.channel_trace.specs.Runs.{IsFront, sent_of, got_of, guest_of}
use Rattle.channel_trace.proofs.Filling.{all_sent, all_got, runs_filled}
use Rattle.channel_model.proofs.Runs.{guest_front, host_front}
use Rattle.ring_core.specs.Seen.{Seen}
use Rattle.ring_core.specs.declared.told.Told.{Told}
use Rattle.worker_port.specs.Line.{GotItems, IsLine, past_as, whole}
use Rattle.worker_port.proofs.ItemLaws.{items_along, line_filled, none_append, packets_along, whole_items, whole_none}

map_front : (f : Item → Item) (xs ys : List Item) → IsFront xs ys → IsFront (map f xs) (map f ys)
map_front f xs ys front = (map f front.0, ap (map f) front.1 ∙ map-append f xs front.0)

module _ {S : Type 0} {told : S → Option Told} (f : Item → Item) where
  pub items_run : (guest host : Seen S) → IsLine told guest → IsLine told host → AreOfOneRun guest.state.past host.state.past → GotItems guest.state host.state → GotItems host.state guest.state → AreOfOneRun (past_as f guest.state) (past_as f host.state)
  unfolding past_as
  items_run guest host g h one to_guest to_host =
      runs_filled (λ p. f (item_of p [])) guest.state.past host.state.past (map f (whole guest.state.sent guest.state.pages.sent)) (map f (whole guest.state.got guest.state.pages.got)) (map f (whole host.state.sent host.state.pages.sent))
      (map f (whole host.state.got host.state.pages.got)) one (line_filled f guest g) (line_filled f host h)
      (map_front f (whole guest.state.got guest.state.pages.got) (whole host.state.sent host.state.pages.sent) to_guest) (map_front f (whole host.state.got host.state.pages.got) (whole guest.state.sent guest.state.pages.sent) to_host)

  -- where there are no data pages
  bare_front : (mine other : Seen S) → IsLine told mine → IsLine told other → IsFront (got_of mine.state.past) (sent_of other.state.past) → mine.state.pages.count ≡ 0 → other.state.pages.count ≡ 0 → GotItems mine.state other.state
  bare_front mine other h k front none away =
      let lists : IsFront mine.state.got other.state.sent = subst (λ (l : List (List ℕ)). IsFront l other.state.sent) h.got (subst (λ (l : List (List ℕ)). IsFront (got_of mine.state.past) l) k.sent front) in
      subst (λ (is : List Item). IsFront (whole mine.state.got is) (whole other.state.sent other.state.pages.sent)) (sym (h.pages.none none).1)
      (subst (λ (is : List Item). IsFront (whole mine.state.got []) (whole other.state.sent is)) (sym (k.pages.none away).0)
      (whole lists.0 [], ap (λ (l : List (List ℕ)). whole l []) lists.1 ∙ none_append mine.state.got lists.0))

  pub bare_run : (guest host : Seen S) → IsLine told guest → IsLine told host → AreOfOneRun guest.state.past host.state.past → guest.state.pages.count ≡ 0 → host.state.pages.count ≡ 0 → AreOfOneRun (past_as f guest.state) (past_as f host.state)
  bare_run guest host g h one none away =
      let to_host : IsFront (got_of host.state.past) (sent_of guest.state.past) = subst (λ t. IsFront (got_of host.state.past) (sent_of t)) one.guest_is (subst (λ u. IsFront (got_of u) (sent_of (guest_of one.turns))) one.host_is (host_front one.turns one.run)) in
      let to_guest : IsFront (got_of guest.state.past) (sent_of host.state.past) = subst (λ t. IsFront (got_of t) (sent_of host.state.past)) one.guest_is (subst (λ u. IsFront (got_of (guest_of one.turns)) (sent_of u)) one.host_is (guest_front one.turns one.run)) in
      items_run guest host g h one (bare_front guest host g h to_guest none away) (bare_front host guest h g to_host away none)

  pub items_sent : (e : Seen S) → IsLine told e → sent_of (past_as f e.state) ≡ map f (whole e.state.sent e.state.pages.sent)
  unfolding past_as
  items_sent e h = all_sent (λ p. f (item_of p [])) e.state.past (map f (whole e.state.sent e.state.pages.sent)) (map f (whole e.state.got e.state.pages.got)) (line_filled f e h)

  pub items_got : (e : Seen S) → IsLine told e → got_of (past_as f e.state) ≡ map f (whole e.state.got e.state.pages.got)
  unfolding past_as
  items_got e h = all_got (λ p. f (item_of p [])) e.state.past (map f (whole e.state.sent e.state.pages.sent)) (map f (whole e.state.got e.state.pages.got)) (line_filled f e h)

-- items of all packets are all that there is
pub whole_is : (ps : List (List ℕ)) (is : List Item) → packets is ≡ ps → whole ps is ≡ is
whole_is ps is e = subst (λ l. whole l is ≡ is) e (whole_items is)

-- the packets of the items are those that it sent and got
pub items_packets : {S : Type 0} (told : S → Option Told) (e : Seen S) → IsLine told e → (packets (whole e.state.sent e.state.pages.sent) ≡ e.state.sent) × (packets (whole e.state.got e.state.pages.got) ≡ e.state.got)
items_packets told e h = let a = items_along told e h in (packets_along e.state.sent e.state.pages.sent a.0, packets_along e.state.got e.state.pages.got a.1)

pub items_none : {S : Type 0} (told : S → Option Told) (e : Seen S) → IsLine told e → e.state.pages.count ≡ 0
    → (whole e.state.sent e.state.pages.sent ≡ map (λ (p : List ℕ). item_of p []) e.state.sent) × (whole e.state.got e.state.pages.got ≡ map (λ (p : List ℕ). item_of p []) e.state.got)
items_none told e h z = let none = h.pages.none z in (ap (whole e.state.sent) none.0 ∙ whole_none e.state.sent, ap (whole e.state.got) none.1 ∙ whole_none e.state.got)
