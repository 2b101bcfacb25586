-- The whole rule, from the side of either end, at the start and at the end.
use Rattle.std.proofs.Common.{rules, ◌≡◌, ◌≢◌, ℕ, zero, suc, ◌+◌, ◌*◌, ◌<◌, ◌≤◌, cond, ltb, List, [], ◌∷◌, ◌++◌, length, take, get_or, set, replicate, Some, refl, sym, ap, ◌∙◌, subst, arith}
use Rattle.std.proofs.lemmas.List.{length-replicate}
use Rattle.io_edge.specs.declared.side.Side.{Side}
use Rattle.io_edge.specs.declared.side.Side.TheVariants.{Guest, Host}
use Rattle.page_kept.specs.Items.{packets}
use Rattle.page_kept.specs.Keepers.{Keeper, MayStore}
use Rattle.page_kept.specs.Kept.{first_owner}
use Rattle.page_kept.specs.Layouts.{layout}
use Rattle.page_kept.specs.Stepped.{word_in, page_stored, page_loaded}
use Rattle.page_kept.specs.declared.due.Due.TheVariants.{Clear, Loads}
use Rattle.page_kept.specs.declared.owner.Owner.{Owner}
use Rattle.ring_loan_rule.specs.Laws.{new_keeper}
use Rattle.ring_loan_rule.specs.Pages.{PagesOwned}
use Rattle.ring_machine.specs.PageCalls.{with_pages}
use Rattle.ring_seat.proofs.PointLaws.{begins_opens}
use Rattle.ring_seat.proofs.PageSteps.{made, page_step, part_begun, store_keeps, pk, pk_is, load_keeps, aside}
use Rattle.ring_machine.proofs.Sound.{no_true}
use Rattle.page_table.proofs.Moves.{first_long}
use Rattle.ring_seat.specs.PageRule.{is_unsent_at, is_taking_at, keeper_of, OwnPages, PagesPart, page_index}
use Rattle.page_table.specs.Table.{first_owners}
use Rattle.ring_core.specs.Pages.{first_kept}
use Rattle.channel_trace.specs.Runs.{IsFront}
use Rattle.ring_seat.specs.Whole.{PagesRule, WholeRule, new_paged, GotItems}
use Rattle.ring_loan_rule.proofs.Reading.{opens_owned, turned, says}
use Rattle.ring_machine.specs.declared.machine.EndMachine.{EndMachine}
use Rattle.ring_machine.specs.declared.machine.Stage.TheVariants.{Idle}
use Rattle.ring_machine.specs.declared.state.EndState.{EndState}
use Rattle.ring_machine.specs.declared.place.Op.{Op}
use Rattle.ring_machine.specs.Places.{words_of, peer_of}
use Rattle.ring_machine.specs.Steps.{machine_new, next_of}
use Rattle.ring_machine.specs.States.{after, entered, resting, Begins}
use Rattle.ring_core.specs.Told.{written, answer_in}
use Rattle.ring_seat.specs.Rule.{ChannelInvariant, with_end}
use Rattle.ring_seat.proofs.Sided.{Sided, sided_of, each_side, invariant_of, begun}
use Rattle.ring_seat.proofs.Reading.{drained_all}

-- the rule from one side, and back
pub part_of : (n c : ℕ) (ws : List ℕ) (ends : Side → EndState) (x : Side) → PagesRule n c ws ends → PagesPart n c ws x (ends x) (ends (peer_of x))
part_of n c ws ends Guest r = record { wide = r.wide; mine = r.own Guest; theirs = (r.own Host).sent; owned = r.owned }
part_of n c ws ends Host r = record { wide = r.wide; mine = r.own Host; theirs = (r.own Guest).sent; owned = turned (layout c) Guest _ _ _ r.owned }

pub rule_of : (n c : ℕ) (ws : List ℕ) (ends : Side → EndState) (x : Side) (e : EndState) → ((y : Side) → OwnPages c y (ends y)) → PagesPart n c ws x e (ends (peer_of x)) → PagesRule n c ws (with_end x e ends)
rule_of n c ws ends Guest e own p = record { wide = p.wide; own = each_side (OwnPages c) Guest e ends p.mine (own Host); owned = p.owned }
rule_of n c ws ends Host e own p = record { wide = p.wide; own = each_side (OwnPages c) Host e ends p.mine (own Guest); owned = turned (layout c) Host _ _ _ p.owned }

-- an end whose step left the words ws
moved : (n c : ℕ) (x : Side) (ws : List ℕ) (e : EndState) (ends : Side → EndState) → ((y : Side) → OwnPages c y (ends y)) → Sided n x (take (words_of n) ws) e (ends (peer_of x)) → PagesPart n c ws x e (ends (peer_of x)) → WholeRule n c ws (with_end x e ends)
moved n c x ws e ends own s g = record { rings = invariant_of n x _ e ends s; pages = λ _. rule_of n c ws ends x e own g }

module _ (n c : ℕ) (x : Side) (ws : List ℕ) (ends : Side → EndState) where
  -- the rule from the end's side
  mine : WholeRule n c ws ends → Sided n x (take (words_of n) ws) (ends x) (ends (peer_of x))
  mine r = sided_of n (take (words_of n) ws) ends r.rings x

  pub step_keeps : (op : Op) → c ≢ 0 → WholeRule n c ws ends → next_of (ends x).machine (ends x).packet ≡ Some op → WholeRule n c (written n op ws) (with_end x (after (ends x) (answer_in n op ws)) ends)
  step_keeps op some r h =
      let p = r.pages some in
      let g = part_of n c ws ends x p in
      moved n c x _ _ ends p.own (made n c x ws (ends x) (ends (peer_of x)) some (mine r) g op h) (page_step n c x ws (ends x) (ends (peer_of x)) some (mine r) g op h)

  pub call_keeps : (m : EndMachine) (q : List ℕ) → c ≢ 0 → WholeRule n c ws ends → Begins (ends x) m q → WholeRule n c ws (with_end x (entered (ends x) m q) ends)
  call_keeps m q some r b =
      let p = r.pages some in
      moved n c x ws _ ends p.own (begun n x _ (ends x) (ends (peer_of x)) (mine r) m q b)
      (part_begun n c x ws (ends x) (ends (peer_of x)) m q some (mine r).both.fits.side (part_of n c ws ends x p) (begins_opens (ends x) m q (mine r).mine.point b))

  pub store_keeps_all : (q w v : ℕ) → c ≢ 0 → WholeRule n c ws ends → (ends x).machine.stage ≡ Idle → MayStore (layout c) x (ends x).pages q w
      → WholeRule n c (set ws (page_index n q w) v) (with_end x (with_pages (ends x) (page_stored (ends x).pages q w v)) ends)
  store_keeps_all q w v some r idle may =
      let p = r.pages some in
      let k = store_keeps n c x ws (ends x) (ends (peer_of x)) some (mine r) (part_of n c ws ends x p) (no_true (ap is_unsent_at idle)) (no_true (ap is_taking_at idle)) q w v may in
      moved n c x _ _ ends p.own k.0 k.1

  pub load_keeps_all : (q m j : ℕ) → c ≢ 0 → WholeRule n c ws ends → (ends x).machine.stage ≡ Idle → (ends x).pages.due ≡ Loads q m j → q < c → j < 512
      → (k : List ℕ) × ((ends x).got ≡ packets (ends x).pages.got ++ k ∷ []) × WholeRule n c ws (with_end x (with_pages (ends x) (page_loaded (ends x).pages k (word_in (words_of n) ws q j))) ends)
  load_keeps_all q m j some r idle due a b =
      let p = r.pages some in
      let g = part_of n c ws ends x p in
      let t = no_true (ap is_unsent_at idle) in
      let u = no_true (ap is_taking_at idle) in
      let k = load_keeps n c x ws (ends x) (ends (peer_of x)) some (mine r) g t u q m j due a b in (
        pk n c x ws (ends x) (ends (peer_of x)) some (mine r) g t u q m j due a b,
        pk_is n c x ws (ends x) (ends (peer_of x)) some (mine r) g t u q m j due a b,
        moved n c x ws _ ends p.own k.0 k.1,
      )

-- what the rule tells of any end
pub front_tells : (n c : ℕ) (x : Side) (ws : List ℕ) (ends : Side → EndState) → c ≢ 0 → WholeRule n c ws ends → IsFront (ends x).pages.got (ends (peer_of x)).pages.sent
front_tells n c x ws ends some r = let o = turned (layout c) x _ _ _ (part_of n c ws ends x (r.pages some)).owned in (o.out.rest, o.out.front_is)

-- and of one with nothing to load
pub end_tells : (n c : ℕ) (x : Side) (ws : List ℕ) (ends : Side → EndState) → c ≢ 0 → WholeRule n c ws ends → (ends x).pages.due ≡ Clear → GotItems (ends x) (ends (peer_of x))
end_tells n c x ws ends some r clear =
    let g = part_of n c ws ends x (r.pages some) in
    let s = says (layout c) _ (word_in (words_of n) ws) (keeper_of c (peer_of x) (ends (peer_of x))) (keeper_of c x (ends x)) (turned (layout c) x _ _ _ g.owned) in
    let w = s.got clear in
    record { packets_are = sym w.all; front = (w.rest, w.front_is); sent_are = g.theirs; drained = λ d. s.got_all clear (drained_all n _ ends x r.rings d ∙ sym g.theirs) }

-- the pages of a new end
get_more : (xs : List Owner) (o d : Owner) (q : ℕ) → get_or xs q d ≡ d → (q ≡ length xs → o ≡ d) → get_or (xs ++ o ∷ []) q d ≡ d
get_more [] o d zero h e = e refl
get_more [] o d (suc q) h e = refl
get_more (a ∷ xs) o d zero h e = h
get_more (a ∷ xs) o d (suc q) h e = get_more xs o d q h (λ i. e (omega (arith, i)))

owners_are : (x : Side) (c q : ℕ) → get_or (first_owners x c) q (first_owner x ((layout 0).home q)) ≡ first_owner x ((layout 0).home q)
owners_are x zero q = refl
owners_are x (suc c) q = get_more (first_owners x c) _ _ q (owners_are x c q) (λ i. ap (λ (k : ℕ). first_owner x ((layout 0).home k)) (let l = first_long x c in omega (arith, i, l)))

pub zeros_at : (k i : ℕ) → get_or (replicate {A = ℕ} k 0) i 0 ≡ 0
zeros_at zero i = refl
zeros_at (suc k) zero = refl
zeros_at (suc k) (suc i) = zeros_at k i

zero_copy : (k r u : ℕ) → cond (ltb u 512) (get_or (replicate {A = ℕ} k 0) (512 * r + u) 0) 0 ≡ 0
zero_copy k r u = search (rules, zeros_at)

new_is : (n c : ℕ) (x : Side) → keeper_of c x (new_paged n c x) ≡ new_keeper (layout c) x
new_is n c x = (λ j. record { sent = []; took = []; got = []; owner = λ q. owners_are x c q j; copy = λ q w. zero_copy (512 * c) q w j; due = Clear })

own_new : (n c : ℕ) (x : Side) → OwnPages c x (new_paged n c x)
own_new n c x = record { count = refl; listed = first_long x c; copied = length-replicate (512 * c) 0; sent = refl; sending = λ h. absurd (cc); taking = λ h. absurd (cc) }

abbrev old : ℕ → Side → EndState
old n x = resting (machine_new x n) [] [] []

-- an end of this side with other pages
with_new : (n c : ℕ) (ws : List ℕ) (x : Side) (ends : Side → EndState) → ChannelInvariant n ws ends → ChannelInvariant n ws (with_end x (with_pages (ends x) (first_kept x c)) ends)
with_new n c ws x ends i = invariant_of n x ws (with_pages (ends x) (first_kept x c)) ends (aside n x ws (ends x) (ends (peer_of x)) (first_kept x c) (sided_of n ws ends i x))

pub new_keeps : (n c : ℕ) (ws : List ℕ) → 512 ≤ n → n ≤ 16777216 → words_of n + 512 * c ≤ length ws → ChannelInvariant n (take (words_of n) ws) (λ x. resting (machine_new x n) [] [] []) → ((q w : ℕ) → word_in (words_of n) ws q w ≡ 0)
    → WholeRule n c ws (new_paged n c)
new_keeps n c ws a b wide rings zero_words = record {
  rings = subst (ChannelInvariant n (take (words_of n) ws)) (λ j x. ends_are x j) (with_new n c (take (words_of n) ws) Guest (with_end Host (with_pages (old n Host) (first_kept Host c)) (old n)) (with_new n c (take (words_of n) ws) Host (old n) rings));
  pages = λ _. record {
    wide = wide;
    own = own_new n c;
    owned = subst (λ (z : Keeper × Keeper). PagesOwned (layout c) Guest (word_in (words_of n) ws) z.0 z.1) (λ j. (sym (new_is n c Guest) j, sym (new_is n c Host) j)) (opens_owned (layout c) Guest (word_in (words_of n) ws) zero_words);
  };
}
  where
    ends_are : (x : Side) → with_end Guest (with_pages (with_end Host (with_pages (old n Host) (first_kept Host c)) (old n) Guest) (first_kept Guest c)) (with_end Host (with_pages (old n Host) (first_kept Host c)) (old n)) x ≡ new_paged n c x
    ends_are Guest = refl
    ends_are Host = refl
