-- The states of all channels, and of each.
use Rattle.std.proofs.Common.{◌≡◌, ◌∙◌, ℕ, zero, suc, ◌+◌, ◌-◌, ◌<◌, ◌≤◌, List, [], ◌∷◌, length, map, slice_get, Option, Some, None, refl, sym, ap, arith}
use Rattle.std.specs.List.{range_with_len}
use Rattle.std.specs.Option.{option_map}
use Rattle.std.proofs.lemmas.List.{length-map}
use Rattle.std.proofs.lemmas.List.FromFn.{length-map-range_with_len}
use Rattle.std.proofs.lemmas.Option.{slice_get-map}
use Rattle.control_laws.proofs.Words.{State, ChanState, Channel}
use Rattle.control_model.specs.Plan.{BusPlan}
use Rattle.control_model.specs.Said.{channel_count, last_state, at_end}
use Rattle.control_model.specs.Channels.{by_relid}
use Rattle.control_model.specs.Guest.{state_at}
use Rattle.control_model.specs.Host.{life_at}
use Rattle.control_model.specs.Stand.{Stand, vps_before}
use Rattle.control_laws.specs.Laws.{EndTellsEach, EndsAtLower}
use Rattle.control_laws.proofs.Marks.{at_relid}
use Rattle.control_laws.proofs.Tried.{agreed_is}

-- two lists are one where each place has the same
same_lists : {X : Type 0} (xs ys : List X) → length xs ≡ length ys → ((i : ℕ) → i < length xs → slice_get xs i ≡ slice_get ys i) → xs ≡ ys
same_lists [] [] many each = refl
same_lists [] (y ∷ ys) many each = absurd (omega (arith, many))
same_lists (x ∷ xs) [] many each = absurd (omega (arith, many))
same_lists (x ∷ xs) (y ∷ ys) many each =
    let both : Some x ≡ Some y = each 0 (omega arith) in
    let first : x ≡ y = cc in
    (λ i. first i ∷ (same_lists xs ys (omega (arith, many)) (λ i less. each (suc i) (omega (arith, less)))) i)

get_range : (a n i : ℕ) → i < n → slice_get (range_with_len a n) i ≡ Some (a + i)
get_range a zero i less = absurd (omega (arith, less))
get_range a (suc n) zero less = let same : a ≡ a + 0 = omega arith in ap Some same
get_range a (suc n) (suc i) less = let same : a + 1 + i ≡ a + suc i = omega arith in get_range (a + 1) n i (omega (arith, less)) ∙ ap Some same

get_end : {Y : Type 0} (last : ℕ → Y) (plan : BusPlan) (i : ℕ) → i < channel_count plan → slice_get (map last (range_with_len 1 (channel_count plan))) i ≡ Some (last (1 + i))
get_end last plan i less = slice_get-map last (range_with_len 1 (channel_count plan)) i ∙ ap (option_map last) (get_range 1 (channel_count plan) i less)

pub all_stand : {X Y : Type 0} (state : X → Y) (last : ℕ → Y) (channels : List X) (plan : BusPlan) (stands : ℕ → X) → Stand channels (channel_count plan) stands → ((relid : ℕ) → state (stands relid) ≡ last relid)
    → map state channels ≡ map last (range_with_len 1 (channel_count plan))
all_stand state last channels plan stands stand each =
    let many = stand.many in
    let count = length-map channels state in
    same_lists (map state channels) (map last (range_with_len 1 (channel_count plan))) (count ∙ many ∙ sym (length-map-range_with_len last 1 (channel_count plan)))
    (λ i less.
    let within : i < channel_count plan = omega (arith, less, count, many) in
    let back : (1 + i) - 1 ≡ i = omega arith in
    let here : slice_get channels i ≡ Some (stands (1 + i)) = ap (slice_get channels) (sym back) ∙ sym (at_relid channels (1 + i) (omega arith)) ∙ stand.each (1 + i) (omega arith) (omega (arith, within)) in
    slice_get-map state channels i ∙ ap (option_map state) here ∙ ap (λ y. Some y) (each (1 + i)) ∙ sym (get_end last plan i within))

many_at_end : {X : Type 0} (state : X → State) (channels : List X) (plan : BusPlan) → map state channels ≡ at_end plan → length channels ≡ channel_count plan
many_at_end state channels plan stands = sym (length-map channels state) ∙ ap length stands ∙ length-map-range_with_len (last_state plan) 1 (channel_count plan)

each_at_end : {X Y : Type 0} (state : X → Y) (last : ℕ → Y) (channels : List X) (plan : BusPlan) (relid : ℕ) → map state channels ≡ map last (range_with_len 1 (channel_count plan)) → 1 ≤ relid → relid ≤ channel_count plan
    → option_map state (by_relid channels relid) ≡ Some (last relid)
each_at_end state last channels plan relid stands one few =
    let back : 1 + (relid - 1) ≡ relid = omega (arith, one) in
    ap (option_map state) (at_relid channels relid one) ∙ sym (slice_get-map state channels (relid - 1)) ∙ ap (λ xs. slice_get xs (relid - 1)) stands ∙ get_end last plan (relid - 1) (omega (arith, one, few)) ∙ ap (λ r. Some (last r)) back

guest_state : (c : Option Channel) → state_at c ≡ option_map (λ (x : Channel). x.life.state) c
guest_state None = refl
guest_state (Some c) = refl

host_state : (c : Option ChanState) → life_at c ≡ option_map (λ (x : ChanState). x.state) c
host_state None = refl
host_state (Some c) = refl

pub each_law : EndTellsEach
each_law plan g h over = record {
  guest_many = many_at_end (λ (c : Channel). c.life.state) g.channels plan over.guest_stands;
  host_many = many_at_end (λ (c : ChanState). c.state) h.channels plan over.host_stands;
  guest_each = λ relid one few. guest_state (by_relid g.channels relid) ∙ each_at_end (λ (c : Channel). c.life.state) (last_state plan) g.channels plan relid over.guest_stands one few;
  host_each = λ relid one few. host_state (by_relid h.channels relid) ∙ each_at_end (λ (c : ChanState). c.state) (last_state plan) h.channels plan relid over.host_stands one few;
  guest_vp = λ relid one few. each_at_end (λ (c : Channel). c.life.vp) (vps_before plan (length plan.phases)) g.channels plan relid over.guest_vps one few;
  host_vp = λ relid one few. each_at_end (λ (c : ChanState). c.vp) (vps_before plan (length plan.phases)) h.channels plan relid over.host_vps one few;
}

pub lower_law : EndsAtLower
lower_law plan g h planned over =
    let is = agreed_is plan over.version planned over.agreed in
    let same : over.version ≡ record { 0 = over.version.0 } = refl in
    (over.at_guest ∙ ap (λ v. Some (record { 0 = v })) is, over.at_host ∙ ap (λ v. Some (record { 0 = v })) is)
