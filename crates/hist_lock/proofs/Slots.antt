-- The slot is taken and given back.
use Rattle.std.proofs.Common.{◌≡◌, ◌≢◌, ℕ, zero, suc, ◌+◌, ◌<◌, List, [], ◌∷◌, ◌++◌, length, set, sym, refl, ap, ◌∙◌, subst, arith, append-nil, Some, Option}
use mathlib.Core.Option.{some, none, some-ne-none, some-injective}
use lib.ListN.{get_elem?}
use Rattle.atomic_table.specs.Table.{step, takes, gives, Allows}
use Rattle.atomic_table.proofs.Lists.{set_here}
use Rattle.hist_lock.specs.declared.history.Entry.{Entry}
use Rattle.hist_lock.specs.declared.view.Terms.{Terms}
use Rattle.hist_lock.specs.declared.view.Line.{Line}
use Rattle.hist_lock.specs.declared.view.Stage.{Stage}
use Rattle.hist_lock.specs.declared.view.Stage.TheVariants.{Idle, Waits, Turn, Holds, Gave, Ended}
use Rattle.hist_lock.specs.declared.view.View.{View}
use Rattle.hist_lock.specs.declared.view.Kept.{Kept}
use Rattle.hist_lock.specs.Legal.{IsLegal, state_after}
use Rattle.hist_lock.specs.Calls.{calls_from}
use Rattle.hist_lock.specs.Rule.{Spot, free, out, given, late, LockFacts, total, limit, view, lefts, Each, IsOut, Carries, IsOne, Fits, Stands, Owned, IsStaged, Knows, Rule}
use Rattle.hist_lock.specs.Plays.{took, gave, ended, Took}
use Rattle.hist_lock.specs.Sitting.{Covers}
use Rattle.hist_lock.proofs.Totals.{total_set, after_set, each_map, each_append, set_at}
use Rattle.hist_lock.proofs.Histories.{legal_push, snoc_same}
use Rattle.hist_lock.proofs.Views.{St, quiet, served_here, is_free, by_plan, one_owned, still_out}

-- the plan with the slot elsewhere
abbrev plan_at : {X : Type 0} → LockFacts X → Spot X → LockFacts X
plan_at p spot = record { ticket = p.ticket; serving = p.serving; since = p.since; spot = spot; owner = p.owner; holder = p.holder }

free_or_out : {X : Type 0} {x : Spot X} {j : ℕ} → x ≡ free → x ≡ out j → ⊥
free_or_out a b = cc

out_where : {X : Type 0} {x : Spot X} {i j : ℕ} → x ≡ out i → x ≡ out j → i ≡ j
out_where a b = cc

module _ {S Q A : Type 0} (after : S → Q → S) (reply_to : S → Q → A) (t : Terms S Q A) where
  abbrev single : Line S Q A → Stage S Q A → View S Q A
  single l stage = view t (l ∷ []) stage

  -- the view id, which had nothing, takes the slot from home; no other is served
  taken : (s : St S Q A) (r : Rule after reply_to t s) (id : ℕ) (v w : View S Q A) → get_elem? s.views id ≡ some v → r.plan.spot ≡ free → lefts w ≡ lefts v → IsOut w.stage → ((k : ℕ) → Carries k v.stage → Carries k w.stage)
      → ((j : ℕ) (u : View S Q A) → get_elem? s.views j ≡ some u → j ≢ id → IsStaged t r.plan j u.lines u.stage → IsStaged t (plan_at r.plan (out id)) j u.lines u.stage)
      → Knows t (plan_at r.plan (out id)) id w
      → Rule after reply_to t (record { words = r.plan.ticket ∷ r.plan.serving ∷ []; homes = set s.homes 0 none; views = set s.views id w })
  taken s r id v w at is sum o carries others mine =
      let p = r.plan in
      let q = plan_at p (out id) in
      let sums = total_set lefts s.views id v w at in
      let same : total lefts (set s.views id w) ≡ total lefts s.views = omega arith in
      let room : p.ticket + total lefts s.views ≡ limit t = r.room in
      record {
        plan = q;
        some_seat = r.some_seat;
        few = r.few;
        words = refl;
        order = r.order;
        count = r.count;
        room = omega arith;
        legal = subst (λ x. IsLegal after reply_to t.start ((t.past ++ p.since) ++ late x)) is r.legal;
        numbered = subst (λ x. Each (λ (d : Entry S Q A). d.seat < length t.quotas) (p.since ++ late x)) is r.numbered;
        tickets = λ k from below. still_out s.views id v w (p.holder k) k at (carries k) (r.tickets k from below);
        stands = (w, set_at s.views id v w at, o);
        knows = after_set (Knows t q) s.views id w (λ j u apart e. let k = r.knows j u e in record { lines = k.lines; stage = others j u e apart k.stage }) mine;
      }

  took_of : (s : St S Q A) (r : Rule after reply_to t s) → r.plan.spot ≡ free → (k : Kept S Q A) → Fits after t (t.past ++ r.plan.since) k → (id : ℕ) (lines : List (Line S Q A)) → Each (Owned t r.plan.since r.plan.owner id) lines → Took after reply_to t r.plan.since k lines
  took_of s r is k fits id lines own =
      let p = r.plan in
      record {
        fits = fits;
        legal = subst (IsLegal after reply_to t.start) (append-nil (t.past ++ p.since)) (subst (λ x. IsLegal after reply_to t.start ((t.past ++ p.since) ++ late x)) is r.legal);
        numbered = subst (Each (λ (d : Entry S Q A). d.seat < length t.quotas)) (append-nil p.since) (subst (λ x. Each (λ (d : Entry S Q A). d.seat < length t.quotas) (p.since ++ late x)) is r.numbered);
        made = each_map (Owned t p.since p.owner id) (λ (l : Line S Q A). l.calls ≡ calls_from l.number (length t.past) p.since) lines (λ l o. o.made) own;
      }

  pub takes_slot : (id : ℕ) (l : Line S Q A) (k : ℕ) → Allows (Rule after reply_to t) 1 id (single l (Turn k), []) 1 (λ n. n) (took after reply_to (step 1 1 0 0 none) (single l (Turn k), []))
  takes_slot id l k = by_plan after reply_to t id (single l (Turn k), []) 1 (λ n. n) (took after reply_to (step 1 1 0 0 none) (single l (Turn k), []))
      (λ s r wide at.
      let p = r.plan in
      let mine = r.knows id (single l (Turn k)) at in
      let is : p.spot ≡ free = mine.stage.3 in
      let home = subst (λ x. Stands after t (t.past ++ p.since) x s) is r.stands in
      let here : p.holder p.serving ≡ id = served_here p id k mine.stage.1 mine.stage.2 in
      let count : length t.past + length p.since ≡ p.serving = r.count in
      let under : k < p.ticket = mine.stage.1.below in
      let room : p.ticket + total lefts s.views ≡ limit t = r.room in
      let below : k < limit t = omega arith in
      let w = single l (Holds k (t.past ++ p.since)) in (
        w,
        takes 0 (Some home.0),
        home.1,
        taken s r id (single l (Turn k)) w at is refl tt (λ n e. e)
            (λ j u e apart h. quiet t p (plan_at p (out id)) id j u.lines u.stage apart here (free_or_out is) (λ m x ne. x) h)
            (record { lines = mine.lines; stage = ((mine.stage.0, mine.stage.1, mine.stage.2, refl), refl) }),
        (p.since, home.0, took_of s r is home.0 home.2 id (l ∷ []) mine.lines, record { count = count ∙ sym mine.stage.2; below = below }, refl),
      ))

  each_at : (P : Line S Q A → Type 0) (lines : List (Line S Q A)) (i : ℕ) (l : Line S Q A) → get_elem? lines i ≡ some l → Each P lines → P l
  each_at P [] i l e h = absurd (some-ne-none l (sym e))
  each_at P (x ∷ xs) zero l e h = subst P (some-injective x l e) h.0
  each_at P (x ∷ xs) (suc i) l e h = each_at P xs i l e h.1

  pub ends : (id : ℕ) (lines : List (Line S Q A)) → Covers t lines → Allows (Rule after reply_to t) 1 id (view t lines Idle, []) 1 (λ n. n) (ended after reply_to (step 1 1 0 0 none) (view t lines Idle, []))
  ends id lines covers = by_plan after reply_to t id (view t lines Idle, []) 1 (λ n. n) (ended after reply_to (step 1 1 0 0 none) (view t lines Idle, []))
      (λ s r wide at.
      let p = r.plan in
      let mine = r.knows id (view t lines Idle) at in
      let owns : (i : ℕ) → i < length t.quotas → p.owner i ≡ id = λ i below.
      let c = covers i below in
      let o = each_at (Owned t p.since p.owner id) lines i c.0 c.1 mine.lines in ap p.owner (sym c.2) ∙ o.here in
      let has = λ (j : ℕ) (x : (l : Line S Q A) × (p.owner l.number ≡ j) × (l.number < length t.quotas)). let same : j ≡ id = sym x.1 ∙ owns x.0.number x.2 in same in
      let all = λ (j : ℕ) (x : (i : ℕ) → i < length t.quotas → p.owner i ≡ j). let same : j ≡ id = sym (x 0 r.some_seat) ∙ owns 0 r.some_seat in same in
      let is : p.spot ≡ free = is_free after reply_to t s r id (view t lines Idle) at (λ o. o) (λ o. o) (λ j x _. has j x) all p.spot refl in
      let home = subst (λ x. Stands after t (t.past ++ p.since) x s) is r.stands in
      let w = view t lines (Ended (t.past ++ p.since)) in (
        w,
        takes 0 (Some home.0),
        home.1,
        taken s r id (view t lines Idle) w at is refl tt (λ n none. absurd none)
            (λ j u e apart h. alone p id j u.lines u.stage is (λ one. let k = r.knows j u e in let o = one_owned t p.since p.owner j u.lines one.0 one.1 k.lines in apart (has j (one.0, o.here, o.below))) h)
            (record { lines = mine.lines; stage = (refl, owns) }),
        (p.since, home.0, took_of s r is home.0 home.2 id lines mine.lines, refl),
      ))
    where
      -- a view with no seat is idle
      alone : (p : LockFacts (Entry S Q A)) (id j : ℕ) (ls : List (Line S Q A)) (stage : Stage S Q A) → p.spot ≡ free → (IsOne ls → ⊥) → IsStaged t p j ls stage → IsStaged t (plan_at p (out id)) j ls stage
      alone p id j ls Idle is none_here h = tt
      alone p id j ls (Waits k) is none_here h = absurd (none_here h.0)
      alone p id j ls (Turn k) is none_here h = absurd (none_here h.0)
      alone p id j ls (Holds k xs) is none_here h = absurd (none_here h.0.0)
      alone p id j ls (Gave k e) is none_here h = absurd (none_here h.0.0)
      alone p id j ls (Ended xs) is none_here h = absurd (free_or_out is h.0)

  pub gives_slot : (id : ℕ) (l : Line S Q A) (k : ℕ) (xs : List (Entry S Q A)) (e : Entry S Q A) (kept : Kept S Q A) → e.seat ≡ l.number → e.reply ≡ reply_to (state_after after t.start xs) e.request
      → Fits after t (xs ++ e ∷ []) kept
      → Allows (Rule after reply_to t) 1 id (single l (Holds k xs), (0, Some kept) ∷ []) 1 (λ n. n) (gave (step 1 1 0 0 none) (single l (Holds k xs), (0, Some kept) ∷ []))
  gives_slot id l k xs e kept seat reply fits = by_plan after reply_to t id (single l (Holds k xs), (0, Some kept) ∷ []) 1 (λ n. n) (gave (step 1 1 0 0 none) (single l (Holds k xs), (0, Some kept) ∷ []))
      (λ s r wide at.
      let p = r.plan in
      let q = plan_at p (given id e) in
      let w = single l (Gave k e) in
      let mine = r.knows id (single l (Holds k xs)) at in
      let is : p.spot ≡ out id = mine.stage.0.3 in
      let log : xs ≡ t.past ++ p.since = mine.stage.1 in
      let here : p.holder p.serving ≡ id = served_here p id k mine.stage.0.1 mine.stage.0.2 in
      let sums = total_set lefts s.views id (single l (Holds k xs)) w at in
      let same : total lefts (set s.views id w) ≡ total lefts s.views = omega arith in
      let room : p.ticket + total lefts s.views ≡ limit t = r.room in
      let old : IsLegal after reply_to t.start (t.past ++ p.since) = subst (IsLegal after reply_to t.start) (append-nil (t.past ++ p.since)) (subst (λ x. IsLegal after reply_to t.start ((t.past ++ p.since) ++ late x)) is r.legal) in
      let below : e.seat < length t.quotas = subst (λ n. n < length t.quotas) (sym seat) mine.lines.0.below in
      let numbered = subst (Each (λ (d : Entry S Q A). d.seat < length t.quotas)) (append-nil p.since) (subst (λ x. Each (λ (d : Entry S Q A). d.seat < length t.quotas) (p.since ++ late x)) is r.numbered) in
      let rule : Rule after reply_to t (record { words = p.ticket ∷ p.serving ∷ []; homes = set s.homes 0 (some (Some kept)); views = set s.views id w }) = record {
        plan = q;
        some_seat = r.some_seat;
        few = r.few;
        words = refl;
        order = r.order;
        count = r.count;
        room = omega arith;
        legal = legal_push after reply_to t.start (t.past ++ p.since) e old (subst (λ ys. e.reply ≡ reply_to (state_after after t.start ys) e.request) log reply);
        numbered = each_append (λ (d : Entry S Q A). d.seat < length t.quotas) p.since (e ∷ []) numbered (below, tt);
        tickets = λ n from under. still_out s.views id (single l (Holds k xs)) w (p.holder n) n at (λ same. same) (r.tickets n from under);
        stands = ((kept, set_here s.homes 0 (some (Some kept)) (omega arith), subst (λ ys. Fits after t (ys ++ e ∷ []) kept) log fits), (w, set_at s.views id (single l (Holds k xs)) w at, tt));
        knows = after_set (Knows t q) s.views id w
            (λ j u apart a. let h = r.knows j u a in record { lines = h.lines; stage = quiet t p q id j u.lines u.stage apart here (λ x. apart (out_where x is)) (λ m x ne. x) h.stage })
            (record { lines = mine.lines; stage = ((mine.stage.0.0, mine.stage.0.1, mine.stage.0.2, refl), (l, refl, seat)) });
      } in (
        w,
        gives,
        tt,
        rule,
        (λ kept' e' same' more. ap (λ d. (single l (Gave k d), [])) (snoc_same xs e e' (sym fits.entries ∙ ap (λ c. items_of kept c) same' ∙ more))),
      ))
    where
      items_of : Kept S Q A → List (ℕ × Option (Kept S Q A)) → List (Entry S Q A)
      items_of d ((i, Some x) ∷ cs) = x.entries.items
      items_of d _ = d.entries.items
