-- Which page lists of a phase are live, while its channels are done with.
use Rattle.std.proofs.Common.{◌≡◌, ◌∙◌, ℕ, ◌+◌, ◌==◌, ◌&&◌, ◌||◌, not, Bool, true, false, cond, if◌then◌else◌, List, [], ◌∷◌, ◌++◌, filter, refl, sym, ap, arith}
use Rattle.std.specs.List.{AllByRecursion, list_any}
use Rattle.std.proofs.lemmas.Bool.{eq-eqb, eqb-true}
use Rattle.std.proofs.lemmas.List.{append-nil}
use Rattle.std.proofs.lemmas.List.Folds.{list_any-append}
use Rattle.std.proofs.lemmas.List.Concat.{flat_map-cons}
use Rattle.control_model.specs.Plan.{BusPlan, buffer_list, is_buffer, is_buffer_in, is_sub, behind_subs, in_closing_order, IsPlan, phase_of, closing_of}
use Rattle.control_model.specs.Host.{without, without_buffers, without_all}
use Rattle.control_model.specs.HostAt.{live_ones, lists_but, lists_beside}
use Rattle.control_model.specs.Stand.{EndsAt, buffer_handles, handles_of, handles, has_list}
use Rattle.std.proofs.Common.{Some}
use Rattle.control_laws.proofs.Words.{Assembly, is_live, Opening, Buffer, Receive, Send, PhaseEnd}
use Rattle.control_laws.proofs.Marks.{by_test, same, differ, or_false, or_true, and_none}
use Rattle.control_laws.proofs.Cutting.{all_weaker}
use Rattle.control_laws.proofs.Plans.{Apart, end_facts}

-- a handle is of none of these
abbrev pub keeps : List Opening → ℕ → Bool
keeps done handle = not (list_any (λ o. has_list o handle) done)

-- what passes two tests
twice : (f : ℕ → Bool) (h : ℕ) (xs : List ℕ) (b : Bool) → filter f (cond b (h ∷ xs) xs) ≡ cond (b && f h) (h ∷ filter f xs) (filter f xs)
twice f h xs true = refl
twice f h xs false = refl

filter_twice : (f g : ℕ → Bool) (hs : List ℕ) → filter f (filter g hs) ≡ filter (λ h. g h && f h) hs
filter_twice f g [] = refl
filter_twice f g (h ∷ hs) = let rest = filter_twice f g hs in twice f h (filter g hs) (g h) ∙ (λ i. cond (g h && f h) (h ∷ rest i) (rest i))

filter_like : (f g : ℕ → Bool) → ((h : ℕ) → f h ≡ g h) → (hs : List ℕ) → filter f hs ≡ filter g hs
filter_like f g like [] = refl
filter_like f g like (h ∷ hs) = let rest = filter_like f g like hs in let one = like h in (λ i. cond (one i) (h ∷ rest i) (rest i))

turned : (a b : ℕ) → (a == b) ≡ (b == a)
turned a b = by_test {P = (a == b) ≡ (b == a)} (a == b)
    (λ e. e ∙ sym (eq-eqb b a (sym (eqb-true a b e))))
    (λ e. e ∙ sym (differ b a (λ is. let wrong : true ≡ false = sym (eq-eqb a b (sym is)) ∙ e in absurd (cc))))

three_off : (a b c : Bool) → ((not c && not b) && not a) ≡ not (a || (b || c))
three_off true true true = refl
three_off true true false = refl
three_off true false true = refl
three_off true false false = refl
three_off false true true = refl
three_off false true false = refl
three_off false false true = refl
three_off false false false = refl

-- all lists of an opening are let go
module _ (o : Opening) where
  abbrev ring_off : ℕ → Bool
  ring_off h = not (h == o.gpadl)

  abbrev receive_off : ℕ → Bool
  receive_off h = not (h == o.gpadl + 1)

  abbrev send_off : ℕ → Bool
  send_off h = not (h == o.gpadl + 2)

  abbrev has_off : ℕ → Bool
  has_off h = not (has_list o h)

  abbrev with_if : List ℕ → Bool → Assembly
  with_if live b = without (if b then without (without (live_ones live) (buffer_list o Send)) (buffer_list o Receive) else live_ones live) o.gpadl

  gone_by : (live : List ℕ) (b : Bool) → o.buffers ≡ b → with_if live b ≡ live_ones (filter has_off live)
  gone_by live false none =
      ap live_ones (filter_like ring_off has_off (λ h. ap not (turned h o.gpadl ∙ sym (ap (λ c. (o.gpadl == h) || (c && ((o.gpadl + 1 == h) || (o.gpadl + 2 == h)))) none ∙ or_false (o.gpadl == h)))) live)
  gone_by live true has =
      let outer = filter_twice ring_off (λ h. send_off h && receive_off h) live in
      ap live_ones (ap (filter ring_off) (filter_twice receive_off send_off live) ∙ outer ∙ filter_like (λ h. (send_off h && receive_off h) && ring_off h) has_off
      (λ h.
      (λ i. (not ((turned h (o.gpadl + 2)) i) && not ((turned h (o.gpadl + 1)) i)) && not ((turned h o.gpadl) i)) ∙ three_off (o.gpadl == h) (o.gpadl + 1 == h) (o.gpadl + 2 == h)
      ∙ sym (ap (λ d. not ((o.gpadl == h) || (d && ((o.gpadl + 1 == h) || (o.gpadl + 2 == h))))) has)) live)

  gone : (live : List ℕ) → without_all (live_ones live) o ≡ live_ones (filter has_off live)
  gone live = gone_by live o.buffers refl

not_both : (a b : Bool) → (not a && not b) ≡ not (a || (b || false))
not_both true b = refl
not_both false true = refl
not_both false false = refl

live_more : (done : List Opening) (o : Opening) (hs : List ℕ) → filter (has_off o) (filter (keeps done) hs) ≡ filter (keeps (done ++ o ∷ [])) hs
live_more done o hs =
    filter_twice (has_off o) (keeps done) hs
    ∙ filter_like (λ h. keeps done h && has_off o h) (keeps (done ++ o ∷ [])) (λ h. not_both (list_any (λ p. has_list p h) done) (has_list o h) ∙ ap not (sym (list_any-append (λ p. has_list p h) done (o ∷ [])))) hs

pub let_go : (done : List Opening) (o : Opening) (os : List Opening) → without_all (lists_but done os) o ≡ lists_but (done ++ o ∷ []) os
let_go done o os = gone o (filter (keeps done) (handles os)) ∙ ap live_ones (live_more done o (handles os))

-- letting them go again changes nothing
and_same : (b : Bool) → (b && b) ≡ b
and_same true = refl
and_same false = refl

pub let_go_again : (done : List Opening) (o : Opening) (os : List Opening) → without_all (without_all (lists_but done os) o) o ≡ lists_but (done ++ o ∷ []) os
let_go_again done o os =
    let hs : List ℕ = filter (keeps done) (handles os) in
    ap (λ l. without_all l o) (gone o hs) ∙ gone o (filter (has_off o) hs) ∙ ap live_ones (filter_twice (has_off o) (has_off o) hs ∙ filter_like (λ h. has_off o h && has_off o h) (has_off o) (λ h. and_same (has_off o h)) hs ∙ live_more done o (handles os))

-- before the first one is done with, all are live
keeps_all : (hs : List ℕ) → filter (keeps []) hs ≡ hs
keeps_all [] = refl
keeps_all (h ∷ hs) = ap (λ xs. h ∷ xs) (keeps_all hs)

pub all_live : (os : List Opening) → lists_but [] os ≡ live_ones (handles os)
all_live os = ap live_ones (keeps_all (handles os))

-- a handle of openings is that of a list of one of them
own_handles : (o : Opening) (h : ℕ) (b : Bool) → o.buffers ≡ b → is_live (buffer_handles o) h ≡ is_buffer o h
own_handles o h false none =
    ap (λ c. is_live (if c then (o.gpadl + 1) ∷ (o.gpadl + 2) ∷ [] else []) h) none ∙ sym (ap (λ c. c && ((o.gpadl + 1 == h) || (o.gpadl + 2 == h))) none)
own_handles o h true has =
    ap (λ c. is_live (if c then (o.gpadl + 1) ∷ (o.gpadl + 2) ∷ [] else []) h) has ∙ ap (λ c. (o.gpadl + 1 == h) || c) (or_false (o.gpadl + 2 == h)) ∙ sym (ap (λ c. c && ((o.gpadl + 1 == h) || (o.gpadl + 2 == h))) has)

pub live_is : (os : List Opening) (h : ℕ) → is_live (handles os) h ≡ list_any (λ p. has_list p h) os
live_is [] h = refl
live_is (o ∷ os) h =
    ap (λ hs. is_live hs h) (flat_map-cons handles_of o os) ∙ list_any-append (λ x. x == h) (handles_of o) (handles os) ∙ (λ i. ((o.gpadl == h) || (own_handles o h o.buffers refl) i) || (live_is os h) i)

-- one that passes a test is live
live_kept : (f : ℕ → Bool) (g : ℕ) (hs : List ℕ) → is_live hs g ≡ true → f g ≡ true → is_live (filter f hs) g ≡ true
live_kept f g [] live kept = live
live_kept f g (h ∷ hs) live kept = by_test {P = is_live (filter f (h ∷ hs)) g ≡ true} (h == g)
    (λ e.
    ap (λ b. is_live (cond b (h ∷ filter f hs) (filter f hs)) g) (ap f (eqb-true h g e) ∙ kept) ∙ ap (λ b. b || is_live (filter f hs) g) e)
    (λ e.
    skip (f h) (live_kept f g hs (sym (ap (λ b. b || is_live hs g) e) ∙ live) kept) e)
  where
    skip : (b : Bool) → is_live (filter f hs) g ≡ true → (h == g) ≡ false → is_live (cond b (h ∷ filter f hs) (filter f hs)) g ≡ true
    skip true rest e = ap (λ c. c || is_live (filter f hs) g) e ∙ rest
    skip false rest e = rest

pub none_has : (h : ℕ) (os : List Opening) → AllByRecursion (λ p. has_list p h ≡ false) os → list_any (λ p. has_list p h) os ≡ false
none_has h [] off = refl
none_has h (o ∷ os) off = let rest = none_has h os off.1 in (λ i. off.0 i || rest i)

any_mid : (test : Opening → Bool) (done : List Opening) (o : Opening) (left : List Opening) → test o ≡ true → list_any test (done ++ o ∷ left) ≡ true
any_mid test done o left is = list_any-append test done (o ∷ left) ∙ ap (λ b. list_any test done || (b || list_any test left)) is ∙ or_true (list_any test done)

-- in whatever order
any_if : (test : Opening → Bool) (first o : Opening) (xs ys : List Opening) (rest : Bool) (b : Bool) → list_any test xs ≡ (test first || rest) → list_any test ys ≡ (test o || rest) → list_any test (if b then o ∷ xs else first ∷ ys) ≡ (test first || (test o || rest))
any_if test first o xs ys rest true e f = ap (λ c. test o || c) e ∙ swap (test o) (test first) rest
  where
    swap : (a b c : Bool) → (a || (b || c)) ≡ (b || (a || c))
    swap true true c = refl
    swap true false c = refl
    swap false true c = refl
    swap false false c = refl
any_if test first o xs ys rest false e f = ap (λ c. test first || c) f

any_behind : (test : Opening → Bool) (first : Opening) (os : List Opening) → list_any test (behind_subs first os) ≡ (test first || list_any test os)
any_behind test first [] = refl
any_behind test first (o ∷ os) = any_if test first o (behind_subs first os) (behind_subs o os) (list_any test os) (is_sub o) (any_behind test first os) (any_behind test o os)

any_closing : (test : Opening → Bool) (os : List Opening) → list_any test (in_closing_order os) ≡ list_any test os
any_closing test [] = refl
any_closing test (o ∷ os) = any_behind test o os

-- each list of an opening that isn't done with is live
live_still : (plan : BusPlan) (phase place : ℕ) (done : List Opening) (o : Opening) (left : List Opening) (h : ℕ) → IsPlan plan → EndsAt plan phase place done o left → has_list o h ≡ true → is_live (filter (keeps done) (handles (phase_of plan phase))) h ≡ true
live_still plan phase place done o left h planned at mine =
    let os : List Opening = phase_of plan phase in
    let test : Opening → Bool = λ p. has_list p h in
    let off = all_weaker (λ p. Apart o p) (λ p. has_list p h ≡ false) (λ p apart. apart h mine) done (end_facts plan phase place done o left planned at).done_lists in
    live_kept (keeps done) h (handles os) (live_is os h ∙ sym (any_closing test os) ∙ ap (list_any test) at.closing_is ∙ any_mid test done o left mine) (ap not (none_has h done off))

pub own_ring : (o : Opening) → has_list o o.gpadl ≡ true
own_ring o = ap (λ b. b || is_buffer o o.gpadl) (same o.gpadl)

pub own_buffer : (o : Opening) (k : Buffer) → o.buffers ≡ true → is_buffer o (buffer_list o k) ≡ true
own_buffer o Receive has = (λ i. has i && (same (o.gpadl + 1) i || (o.gpadl + 2 == o.gpadl + 1)))
own_buffer o Send has = (λ i. has i && ((o.gpadl + 1 == o.gpadl + 2) || same (o.gpadl + 2) i)) ∙ or_true (o.gpadl + 1 == o.gpadl + 2)

pub has_buffer : (o : Opening) (k : Buffer) → o.buffers ≡ true → has_list o (buffer_list o k) ≡ true
has_buffer o k has = ap (λ b. (o.gpadl == buffer_list o k) || b) (own_buffer o k has) ∙ or_true (o.gpadl == buffer_list o k)

-- so is that of the rings, once those of the buffers are let go
pub still_live : (plan : BusPlan) (phase place : ℕ) (done : List Opening) (o : Opening) (left : List Opening) → IsPlan plan → EndsAt plan phase place done o left → is_live (without_buffers (lists_but done (phase_of plan phase)) o).live o.gpadl ≡ true
still_live plan phase place done o left planned at = by_buffers o.buffers
  where
    live : is_live (lists_but done (phase_of plan phase)).live o.gpadl ≡ true
    live = live_still plan phase place done o left o.gpadl planned at (own_ring o)

    by_buffers : (b : Bool) → is_live (if b then without (without (lists_but done (phase_of plan phase)) (buffer_list o Send)) (buffer_list o Receive) else lists_but done (phase_of plan phase)).live o.gpadl ≡ true
    by_buffers false = live
    by_buffers true =
        let hs : List ℕ = filter (keeps done) (handles (phase_of plan phase)) in
        let one = live_kept (λ h. not (h == o.gpadl + 2)) o.gpadl hs live (ap not (differ o.gpadl (o.gpadl + 2) (λ e. absurd (omega (arith, e))))) in
        live_kept (λ h. not (h == o.gpadl + 1)) o.gpadl (filter (λ h. not (h == o.gpadl + 2)) hs) one (ap not (differ o.gpadl (o.gpadl + 1) (λ e. absurd (omega (arith, e)))))

-- and that of a buffer until it is let go
pub buffer_live : (plan : BusPlan) (phase place : ℕ) (done : List Opening) (o : Opening) (left : List Opening) (k : Buffer) → IsPlan plan → EndsAt plan phase place done o left → o.buffers ≡ true → is_live (lists_beside (lists_but done (phase_of plan phase)) o k).live (buffer_list o k) ≡ true
buffer_live plan phase place done o left Send planned at has = live_still plan phase place done o left (o.gpadl + 2) planned at (has_buffer o Send has)
buffer_live plan phase place done o left Receive planned at has =
    live_kept (λ h. not (h == o.gpadl + 2)) (o.gpadl + 1) (filter (keeps done) (handles (phase_of plan phase))) (live_still plan phase place done o left (o.gpadl + 1) planned at (has_buffer o Receive has))
    (ap not (differ (o.gpadl + 1) (o.gpadl + 2) (λ e. absurd (omega (arith, e)))))

-- the list of a buffer is known as one, and that of the rings isn't
pub buffer_known : (plan : BusPlan) (phase place : ℕ) (done : List Opening) (o : Opening) (left : List Opening) (k : Buffer) → EndsAt plan phase place done o left → o.buffers ≡ true → is_buffer_in plan (Some (PhaseEnd phase)) o.relid (buffer_list o k) ≡ true
buffer_known plan phase place done o left k at has =
    let test : Opening → Bool = λ p. (p.relid == o.relid) && is_buffer p (buffer_list o k) in
    sym (any_closing test (phase_of plan phase)) ∙ ap (list_any test) at.closing_is ∙ any_mid test done o left (λ i. same o.relid i && (own_buffer o k has) i)

off_second : (a b c : Bool) → (b || c) ≡ false → (a && c) ≡ false
off_second true b c off = right b c off
  where
    right : (b c : Bool) → (b || c) ≡ false → c ≡ false
    right true c off = absurd (let wrong : true ≡ false = off in cc)
    right false c off = off
off_second false b c off = refl

pub rings_known : (plan : BusPlan) (phase place : ℕ) (done : List Opening) (o : Opening) (left : List Opening) → IsPlan plan → EndsAt plan phase place done o left → is_buffer_in plan (Some (PhaseEnd phase)) o.relid o.gpadl ≡ false
rings_known plan phase place done o left planned at =
    let test : Opening → Bool = λ p. (p.relid == o.relid) && is_buffer p o.gpadl in
    let fact = end_facts plan phase place done o left planned at in
    let before = none_in done (all_weaker (λ p. Apart o p) (λ p. has_list p o.gpadl ≡ false) (λ p apart. apart o.gpadl (own_ring o)) done fact.done_lists) in
    let behind = none_in left (all_weaker (λ p. Apart o p) (λ p. has_list p o.gpadl ≡ false) (λ p apart. apart o.gpadl (own_ring o)) left fact.left_lists) in
    let one = differ (o.gpadl + 1) o.gpadl (λ e. absurd (omega (arith, e))) in
    let two = differ (o.gpadl + 2) o.gpadl (λ e. absurd (omega (arith, e))) in
    let own : test o ≡ false = (λ i. (o.relid == o.relid) && (o.buffers && (one i || two i))) ∙ ap (λ b. (o.relid == o.relid) && b) (and_none o.buffers) ∙ and_none (o.relid == o.relid) in
    sym (any_closing test (phase_of plan phase)) ∙ ap (list_any test) at.closing_is ∙ list_any-append test done (o ∷ left) ∙ (λ i. before i || (own i || behind i))
  where
    none_in : (os : List Opening) → AllByRecursion (λ p. has_list p o.gpadl ≡ false) os → list_any (λ p. (p.relid == o.relid) && is_buffer p o.gpadl) os ≡ false
    none_in [] off = refl
    none_in (p ∷ os) off = let rest = none_in os off.1 in let here = off_second (p.relid == o.relid) (p.gpadl == o.gpadl) (is_buffer p o.gpadl) off.0 in (λ i. here i || rest i)

-- once all are done with, none is live
none_kept : (f : ℕ → Bool) (hs : List ℕ) → ((h : ℕ) → is_live hs h ≡ true → f h ≡ false) → filter f hs ≡ []
none_kept f [] off = refl
none_kept f (h ∷ hs) off =
    ap (λ b. cond b (h ∷ filter f hs) (filter f hs)) (off h (ap (λ b. b || is_live hs h) (same h)))
    ∙ none_kept f hs (λ g live. off g (ap (λ b. (h == g) || b) live ∙ or_true (h == g)))

pub none_live : (plan : BusPlan) (phase : ℕ) (done : List Opening) → closing_of plan phase ≡ done ++ [] → lists_but done (phase_of plan phase) ≡ live_ones []
none_live plan phase done is =
    let os : List Opening = phase_of plan phase in
    ap (λ ds. lists_but ds os) (sym (is ∙ append-nil done))
    ∙ ap live_ones (none_kept (keeps (in_closing_order os)) (handles os) (λ h live. ap not (any_closing (λ p. has_list p h) os ∙ sym (live_is os h) ∙ live)))
