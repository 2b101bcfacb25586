-- A host takes a piece of a page list, and each row in which it takes a message.
use Rattle.std.proofs.Common.{◌≡◌, ◌∙◌, ℕ, ◌+◌, ◌&&◌, ◌||◌, ◌==◌, true, false, List, [], ◌∷◌, ◌++◌, length, map, drop, Option, Some, None, is_some, Ok, if◌then◌else◌, refl, sym, ap, subst, append_assoc, arith}
use Rattle.std.proofs.lemmas.List.FromFn.{length-range_with_len}
use Rattle.std.proofs.lemmas.List.Folds.{list_any-append}
use Rattle.std.proofs.lemmas.Grind.{flat_map-append}
use Rattle.control_laws.proofs.Words.{Version, Part, PhaseStart, Opened, ChanState, Partial, Assembly, is_live, built, fault_of, next, whole, after, Msg, GpadlHeader, GpadlBody, Opening, Buffer, Receive, Send, One, HostWait, AwaitsConnect, AwaitsList, AwaitsOpen, AwaitsFill}
use Rattle.gpadl.specs.Cut.{cut}
use Rattle.control_model.specs.Plan.{BusPlan, buffer_list, buffer_begins, buffer_size, list_pages, opening_at, IsPlan, phase_of, vp_for}
use Rattle.control_model.specs.Channels.{by_relid}
use Rattle.control_model.specs.Messages.{propose, request, connect, pages_from, buffer_pages, created, open_on, offer_sub, modify, close, teardown, teardown_buffer, release, farewell}
use Rattle.control_model.specs.Said.{host_buffer, host_opens_all, guest_moves, host_moves}
use Rattle.control_model.specs.Host.{HostSeen, HostTurn, host_waits_for_nothing, at_rest, on_header, on_piece, listed as listed_for, is_list_of, filled_then, waits_list, lists_by, is_of, host_hears}
use Rattle.control_model.specs.Stand.{At, offered_by, offered_for, marked, host_is, host_before, Meet, handles_of, handles, has_list, vps_before}
use Rattle.control_model.specs.GuestAt.{opens_listed, answers_list, answers_open, fills_listed, answers_fill}
use Rattle.control_model.specs.HostAt.{host_start_to_say, host_moves_to_say, live_ones, lists_before, ListComes, HostStands}
use Rattle.control_model.specs.HostAt.HostStands.{answers, accepts, connects, lists, listed, fills, moves, empties, closes, tears, takes_back, leaves}
use Rattle.control_laws.proofs.Marks.{by_test, same, differ, marked_append, marked_apart, marked_here, stand_at}
use Rattle.control_laws.proofs.Plans.{Apart, facts, opening_here, offered_here, done_more, place_more, none_behind}
use Rattle.control_laws.proofs.Cutting.{all_weaker}
use Rattle.control_laws.proofs.Counts.{count_next}
use Rattle.control_laws.proofs.Live.{live_is, none_has, own_ring, has_buffer}
use Rattle.control_laws.proofs.Next.{pieces_of, HasFirst, cut_first}
use Rattle.control_laws.proofs.Moving.{next_wait}
use Rattle.control_laws.proofs.Logs.{Logs, a_host}
use Rattle.control_laws.proofs.Pieces.{IsPieceFor, list_of, Piecewise, piece_built, is_last, comes, after_more}
use Rattle.control_laws.proofs.Saying.{guest_onward, host_onward, guest_then, host_then, left_at}
use Rattle.control_laws.proofs.HostSteps.{HostStep, step_proposes, step_asks, step_connects, step_opens, step_moves, step_empties, step_closes, step_tears, step_releases, step_leaves}

-- what comes of a piece
heard : (h : HostSeen) (life : ChanState) (relid : ℕ) (m : Msg) → IsPieceFor relid m → by_relid h.channels relid ≡ Some life → fault_of h.lists m ≡ None → host_hears h m ≡ Ok (lists_by h (next h.lists m) (built h.lists.building m))
heard h life relid (GpadlHeader d) piece known fine = ap (λ r. on_header h d.relid (GpadlHeader d) (by_relid h.channels r)) piece ∙ ap (on_header h d.relid (GpadlHeader d)) known ∙ ap (on_piece h (GpadlHeader d)) fine
heard h life relid (GpadlBody b) piece known fine = ap (on_piece h (GpadlBody b)) fine
heard h life relid _ piece known fine = absurd piece

module _ (plan : BusPlan) (logs : Logs) (v : Version) (hosts : List ChanState) (phase place : ℕ) (done : List Opening) (o : Opening) (left : List Opening) (s : Assembly) where
  abbrev host_at : HostSeen
  host_at = a_host plan logs (Some (PhaseStart phase)) (AwaitsList place) (Some v) hosts s

  abbrev AreOpen : Type 0
  AreOpen = Meet plan v hosts (offered_for plan phase done o left) (marked (host_is (vps_before plan phase) Opened) done (host_before (vps_before plan phase) plan phase))

  abbrev HeardSo : Msg → Partial → Type 0
  HeardSo m p = host_hears host_at m ≡ Ok (lists_by host_at (next s m) (Some p))

  -- the list is whole
  last_piece : (m : Msg) (ms : List Msg) (p : Partial) → At plan phase place done o left → AreOpen → Piecewise o.relid o.gpadl (pages_from o) (handles done) s m ms → built s.building m ≡ Some p → HeardSo m p → (length p.pages == p.want) ≡ true → HostStep plan host_at [] m (m ∷ ms)
  last_piece m ms p at meet pieces is heard_so e =
      let last = is_last o.relid o.gpadl (pages_from o) (handles done) s m ms p pieces is e in
      let list = last.list in
      let all : next s m ≡ live_ones (handles done ++ o.gpadl ∷ []) = last.over ∙ (λ i. live_ones (pieces.live i ++ (list i).handle ∷ [])) in
      let mine : is_of o.relid (opening_at plan phase place) ≡ true = ap (is_of o.relid) (opening_here plan phase place done o left at) ∙ same o.relid in
      let waits : listed_for host_at (AwaitsList place) p ≡ AwaitsOpen place = ap (listed_for host_at (AwaitsList place)) list ∙ ap (λ b. if b then AwaitsOpen place else AwaitsList place) mine in
      let first : HostTurn = record (at_rest host_at) { awaits = listed_for host_at (AwaitsList place) p; lists = next s m; burst = One (created p.relid p.handle) } in
      let other : HostTurn = record (at_rest host_at) { lists = next s m } in
      let here = left_at plan phase place done (o ∷ left) at.phase_is at.place_is in
      record {
        turn = record (at_rest host_at) { awaits = AwaitsOpen place; lists = live_ones (handles done ++ o.gpadl ∷ []); burst = One (created o.relid o.gpadl) };
        hears = heard_so ∙ ap (λ b. Ok (if b then first else other)) e ∙ (λ i. Ok (record (at_rest host_at) { awaits = waits i; lists = all i; burst = One (created (list i).relid (list i).handle) }));
        tried_then = [];
        pieces_then = [];
        goes = listed v hosts phase place done o left at meet;
        says = λ sent f.
            ap (λ os. answers_list os ++ host_then plan phase) here ∙ ap (λ os. created o.relid o.gpadl ∷ (answers_open os ++ host_then plan phase)) (sym here)
            ∙ ap (λ xs. xs ++ (answers_open (drop place (phase_of plan phase)) ++ host_then plan phase)) (sym f);
        heard = ap (λ xs. m ∷ ((xs ++ opens_listed (drop place (phase_of plan phase))) ++ (guest_then plan phase))) last.empty;
      }

  -- frames are missing
  one_piece : (m : Msg) (ms came : List Msg) (p : Partial) → At plan phase place done o left → AreOpen → Piecewise o.relid o.gpadl (pages_from o) (handles done) s m ms → cut o.relid o.gpadl (pages_from o) ≡ came ++ m ∷ ms → s ≡ after (live_ones (handles done)) came
      → built s.building m ≡ Some p → HeardSo m p → (length p.pages == p.want) ≡ false → HostStep plan host_at [] m (m ∷ ms)
  one_piece m [] came p at meet pieces whole_is so_far is heard_so e =
      let made : [] ≡ list_of o.relid o.gpadl (pages_from o) ∷ [] = sym (ap (λ b. (if b then p ∷ [] else []) ++ []) e) ∙ sym (ap (λ b. whole b ++ []) is) ∙ pieces.assemble.made in
      absurd (cc)
  one_piece m (n ∷ ms) came p at meet pieces whole_is so_far is heard_so e =
      let turn : HostTurn = record (at_rest host_at) { lists = next s m } in
      let first : HostTurn = record (at_rest host_at) { awaits = listed_for host_at (AwaitsList place) p; lists = next s m; burst = One (created p.relid p.handle) } in
      record {
        turn = turn;
        hears = heard_so ∙ ap (λ b. Ok (if b then first else turn)) e;
        tried_then = [];
        pieces_then = n ∷ ms;
        goes = lists v hosts phase place done o left (next s m) n ms at meet (record {
          came = came ++ m ∷ [];
          whole = whole_is ∙ sym (append_assoc came (m ∷ []) (n ∷ ms));
          lists_are = ap (λ (t : Assembly). next t m) so_far ∙ sym (after_more (live_ones (handles done)) came m);
        });
        says = λ sent f. ap (λ xs. xs ++ (answers_list (drop place (phase_of plan phase)) ++ (host_then plan phase))) (sym f);
        heard = refl;
      }

  pub step_lists : (m : Msg) (ms : List Msg) → IsPlan plan → At plan phase place done o left → AreOpen → ListComes (handles done) o.relid o.gpadl (pages_from o) s (m ∷ ms) → HostStep plan host_at [] m (m ∷ ms)
  step_lists m ms planned at meet list =
      let fact = facts plan phase place done o left planned at in
      let few = fact.fits.some_pages in
      let count = length-range_with_len o.first_page (list_pages o.ring_pages) in
      let free : is_live (handles done) o.gpadl ≡ false = live_is done o.gpadl ∙ none_has o.gpadl done (all_weaker (λ p. Apart o p) (λ p. has_list p o.gpadl ≡ false) (λ p apart. apart o.gpadl (own_ring o)) done fact.done_lists) in
      let pieces : Piecewise o.relid o.gpadl (pages_from o) (handles done) s m ms = subst (λ (t : Assembly). Piecewise o.relid o.gpadl (pages_from o) (handles done) t m ms) (sym list.lists_are) (comes o.relid o.gpadl (pages_from o) (handles done) list.came m ms (omega (arith, few, count)) free list.whole) in
      let fine = pieces.assemble.taken.0 in
      let life : ChanState = host_before (vps_before plan phase) plan phase o.relid in
      let known : by_relid hosts o.relid ≡ Some life = stand_at hosts (offered_for plan phase done o left) (host_is (vps_before plan phase) Opened) done o (host_before (vps_before plan phase) plan phase) life meet.stand fact.fits.named (offered_here plan phase place done o left planned at) fact.done_apart refl in
      let made = piece_built s m o.relid pieces.first fine in
      let heard_so : HeardSo m made.list = heard host_at life o.relid m pieces.first known fine ∙ ap (λ b. Ok (lists_by host_at (next s m) b)) made.is in
      by_test {P = HostStep plan host_at [] m (m ∷ ms)} (length made.list.pages == made.list.want)
      (λ e. last_piece m ms made.list at meet pieces made.is heard_so e)
      (λ e. one_piece m ms list.came made.list at meet pieces list.whole list.lists_are made.is heard_so e)

-- the same of the page list of a buffer, while the channel is open
module _ (plan : BusPlan) (logs : Logs) (v : Version) (hosts : List ChanState) (phase place : ℕ) (done : List Opening) (o : Opening) (left : List Opening) (k : Buffer) (s : Assembly) where
  abbrev fills_at : HostSeen
  fills_at = a_host plan logs (Some (PhaseStart phase)) (AwaitsFill place k) (Some v) hosts s

  abbrev FillsSo : Type 0
  FillsSo = Meet plan v hosts (offered_for plan phase done o left) (marked (host_is (vps_before plan phase) Opened) (done ++ o ∷ []) (host_before (vps_before plan phase) plan phase))

  abbrev HeardFill : Msg → Partial → Type 0
  HeardFill m p = host_hears fills_at m ≡ Ok (lists_by fills_at (next s m) (Some p))

  abbrev Filling : Msg → List Msg → Type 0
  Filling m ms = Piecewise o.relid (buffer_list o k) (buffer_pages o k) (handles done ++ lists_before o k) s m ms

  -- frames are missing
  one_fill : (m : Msg) (ms came : List Msg) (p : Partial) → At plan phase place done o left → o.buffers ≡ true → FillsSo → Filling m ms → cut o.relid (buffer_list o k) (buffer_pages o k) ≡ came ++ m ∷ ms → s ≡ after (live_ones (handles done ++ lists_before o k)) came
      → built s.building m ≡ Some p → HeardFill m p → (length p.pages == p.want) ≡ false → HostStep plan fills_at [] m (m ∷ ms)
  one_fill m [] came p at has meet pieces whole_is so_far is heard_so e =
      let made : [] ≡ list_of o.relid (buffer_list o k) (buffer_pages o k) ∷ [] = sym (ap (λ b. (if b then p ∷ [] else []) ++ []) e) ∙ sym (ap (λ b. whole b ++ []) is) ∙ pieces.assemble.made in
      absurd (cc)
  one_fill m (n ∷ ms) came p at has meet pieces whole_is so_far is heard_so e =
      let turn : HostTurn = record (at_rest fills_at) { lists = next s m } in
      let first : HostTurn = record (at_rest fills_at) { awaits = listed_for fills_at (AwaitsFill place k) p; lists = next s m; burst = One (created p.relid p.handle) } in
      record {
        turn = turn;
        hears = heard_so ∙ ap (λ b. Ok (if b then first else turn)) e;
        tried_then = [];
        pieces_then = n ∷ ms;
        goes = fills v hosts phase place done o left k (next s m) n ms at has meet (record {
          came = came ++ m ∷ [];
          whole = whole_is ∙ sym (append_assoc came (m ∷ []) (n ∷ ms));
          lists_are = ap (λ (t : Assembly). next t m) so_far ∙ sym (after_more (live_ones (handles done ++ lists_before o k)) came m);
        });
        says = λ sent f. ap (λ xs. xs ++ (answers_fill k (drop place (phase_of plan phase)) ++ (host_then plan phase))) (sym f);
        heard = refl;
      }

  -- the list is whole: what the host waits for then
  record Filled (m : Msg) (ms : List Msg) : Type 0 where
    hears : host_hears fills_at m ≡ Ok (record (at_rest fills_at) { awaits = filled_then fills_at place k; lists = live_ones ((handles done ++ lists_before o k) ++ buffer_list o k ∷ []); burst = One (host_buffer o k) })
    empty : ms ≡ []

  filled_so : (m : Msg) (ms : List Msg) (p : Partial) → At plan phase place done o left → Filling m ms → built s.building m ≡ Some p → HeardFill m p → (length p.pages == p.want) ≡ true → Filled m ms
  filled_so m ms p at pieces is heard_so e =
      let last = is_last o.relid (buffer_list o k) (buffer_pages o k) (handles done ++ lists_before o k) s m ms p pieces is e in
      let list = last.list in
      let all : next s m ≡ live_ones ((handles done ++ lists_before o k) ++ buffer_list o k ∷ []) = last.over ∙ (λ i. live_ones (pieces.live i ++ (list i).handle ∷ [])) in
      let mine : is_list_of k o.relid (buffer_list o k) (opening_at plan phase place) ≡ true = ap (is_list_of k o.relid (buffer_list o k)) (opening_here plan phase place done o left at) ∙ (λ i. same o.relid i && same (buffer_list o k) i) in
      let waits : listed_for fills_at (AwaitsFill place k) p ≡ filled_then fills_at place k = ap (listed_for fills_at (AwaitsFill place k)) list ∙ ap (λ b. if b then filled_then fills_at place k else AwaitsFill place k) mine in
      let first : HostTurn = record (at_rest fills_at) { awaits = listed_for fills_at (AwaitsFill place k) p; lists = next s m; burst = One (created p.relid p.handle) } in
      let other : HostTurn = record (at_rest fills_at) { lists = next s m } in
      record {
        hears = heard_so ∙ ap (λ b. Ok (if b then first else other)) e ∙ (λ i. Ok (record (at_rest fills_at) { awaits = waits i; lists = all i; burst = One (created (list i).relid (list i).handle) }));
        empty = last.empty;
      }

-- behind the list of the receive buffer that of the send buffer comes
filled_receive : (plan : BusPlan) (logs : Logs) (v : Version) (hosts : List ChanState) (phase place : ℕ) (done : List Opening) (o : Opening) (left : List Opening) (s : Assembly) (m : Msg) (ms : List Msg) → At plan phase place done o left → o.buffers ≡ true → FillsSo plan logs v hosts phase place done o left Receive s
    → Filled plan logs v hosts phase place done o left Receive s m ms → HostStep plan (fills_at plan logs v hosts phase place done o left Receive s) [] m (m ∷ ms)
filled_receive plan logs v hosts phase place done o left s m ms at has meet filled =
    let h : HostSeen = fills_at plan logs v hosts phase place done o left Receive s in
    let os : List Opening = phase_of plan phase in
    let list : List Msg = cut o.relid (buffer_list o Send) (buffer_pages o Send) in
    let whole : HasFirst list = cut_first o.relid (buffer_list o Send) (buffer_pages o Send) (omega (arith, length-range_with_len (buffer_begins o Send) buffer_size)) in
    let live : (handles done ++ lists_before o Receive) ++ buffer_list o Receive ∷ [] ≡ handles done ++ lists_before o Send = append_assoc (handles done) (lists_before o Receive) (buffer_list o Receive ∷ []) in
    let here = left_at plan phase place done (o ∷ left) at.phase_is at.place_is in
    let back = sym here in
    record {
      turn = record (at_rest h) { awaits = AwaitsFill place Send; lists = live_ones (handles done ++ lists_before o Send); burst = One (host_buffer o Receive) };
      hears = filled.hears ∙ ap (λ xs. Ok (record (at_rest h) { awaits = AwaitsFill place Send; lists = live_ones xs; burst = One (host_buffer o Receive) })) live;
      tried_then = [];
      pieces_then = list;
      goes = subst (HostStands plan (Some (PhaseStart phase)) (AwaitsFill place Send) (Some v) hosts (live_ones (handles done ++ lists_before o Send)) []) (sym whole.is)
          (fills v hosts phase place done o left Send (live_ones (handles done ++ lists_before o Send)) whole.first whole.rest at has meet (record { came = []; whole = whole.is; lists_are = refl }));
      says = λ sent f.
          let later : List Msg = host_then plan phase in
          ap (λ xs. answers_fill Receive xs ++ later) here ∙ ap (λ xs. host_buffer o Receive ∷ (answers_fill Send xs ++ later)) back ∙ ap (λ xs. xs ++ (answers_fill Send (drop place os) ++ later)) (sym f);
      heard =
          let later : List Msg = guest_then plan phase in
          ap (λ xs. m ∷ ((xs ++ fills_listed Receive (drop place os)) ++ later)) filled.empty ∙ ap (λ xs. m ∷ (fills_listed Receive xs ++ later)) here ∙ ap (λ xs. m ∷ ((list ++ fills_listed Send xs) ++ later)) back;
    }

-- and behind that of the send buffer the next opening
filled_send : (plan : BusPlan) (logs : Logs) (v : Version) (hosts : List ChanState) (phase place : ℕ) (done : List Opening) (o : Opening) (left : List Opening) (s : Assembly) (m : Msg) (ms : List Msg) → IsPlan plan → At plan phase place done o left → o.buffers ≡ true → FillsSo plan logs v hosts phase place done o left Send s
    → Filled plan logs v hosts phase place done o left Send s m ms → HostStep plan (fills_at plan logs v hosts phase place done o left Send s) [] m (m ∷ ms)
filled_send plan logs v hosts phase place done o left s m ms planned at has meet filled =
    let part : Option Part = Some (PhaseStart phase) in
    let h : HostSeen = fills_at plan logs v hosts phase place done o left Send s in
    let os : List Opening = phase_of plan phase in
    let more : List Opening = done ++ o ∷ [] in
    let own : handles (o ∷ []) ≡ o.gpadl ∷ (o.gpadl + 1) ∷ (o.gpadl + 2) ∷ [] = ap (λ b. (o.gpadl ∷ (if b then (o.gpadl + 1) ∷ (o.gpadl + 2) ∷ [] else [])) ++ []) has in
    let live : (handles done ++ lists_before o Send) ++ buffer_list o Send ∷ [] ≡ handles more =
    append_assoc (handles done) (lists_before o Send) (buffer_list o Send ∷ []) ∙ ap (λ xs. handles done ++ xs) (sym own) ∙ sym (flat_map-append handles_of done (o ∷ [])) in
    let none = none_behind plan phase place done o left planned at has in
    let counts = count_next plan phase done o left (facts plan phase place done o left planned at).fits.alone in
    let same_count : offered_for plan phase done o left ≡ offered_by plan phase more left = omega (arith, counts, ap length none) in
    let stood = subst (λ n. Meet plan v hosts n (marked (host_is (vps_before plan phase) Opened) more (host_before (vps_before plan phase) plan phase))) same_count meet in
    let onward = next_wait plan logs part v hosts hosts s phase (place + 1) more left (AwaitsFill place Send) planned at.in_plan (done_more plan phase place done o left at) (place_more plan phase place done o left at) stood in
    let later : HostWait = waits_list h part (place + 1) (opening_at plan phase (place + 1)) in
    let here = left_at plan phase place done (o ∷ left) at.phase_is at.place_is in
    record {
      turn = record (at_rest h) { awaits = later; lists = live_ones (handles more); burst = One (host_buffer o Send) };
      hears = filled.hears ∙ ap (λ xs. Ok (record (at_rest h) { awaits = later; lists = live_ones xs; burst = One (host_buffer o Send) })) live;
      tried_then = [];
      pieces_then = pieces_of (opening_at plan phase (place + 1));
      goes = onward.goes;
      says = λ sent f.
          let moves : List Msg = host_moves plan os in
          ap (λ xs. answers_fill Send xs ++ (moves ++ host_onward plan phase)) here ∙ ap (λ ps. host_buffer o Send ∷ ((map offer_sub ps ++ host_opens_all left) ++ (moves ++ host_onward plan phase))) none
          ∙ ap (λ xs. host_buffer o Send ∷ xs) (onward.says (host_onward plan phase)) ∙ ap (λ xs. xs ++ (host_start_to_say os later ++ (host_moves_to_say plan os later ++ host_onward plan phase))) (sym f);
      heard =
          let rest : List Msg = guest_onward plan phase in
          let moves : List Msg = guest_moves plan os in
          ap (λ xs. m ∷ ((xs ++ fills_listed Send (drop place os)) ++ (moves ++ rest))) filled.empty ∙ ap (λ xs. m ∷ (fills_listed Send xs ++ (moves ++ rest))) here ∙ ap (λ xs. m ∷ xs) (onward.hears rest);
    }

free_fill : (o : Opening) (k : Buffer) → is_live (lists_before o k) (buffer_list o k) ≡ false
free_fill o Receive = let a = differ o.gpadl (o.gpadl + 1) (λ e. absurd (omega (arith, e))) in (λ i. a i || false)
free_fill o Send =
    (λ i. (differ o.gpadl (o.gpadl + 2) (λ e. absurd (omega (arith, e)))) i || ((differ (o.gpadl + 1) (o.gpadl + 2) (λ e. absurd (omega (arith, e)))) i || false))

filled_by : (plan : BusPlan) (logs : Logs) (v : Version) (hosts : List ChanState) (phase place : ℕ) (done : List Opening) (o : Opening) (left : List Opening) (k : Buffer) (s : Assembly) (m : Msg) (ms : List Msg) → IsPlan plan → At plan phase place done o left → o.buffers ≡ true → FillsSo plan logs v hosts phase place done o left k s
    → Filled plan logs v hosts phase place done o left k s m ms → HostStep plan (fills_at plan logs v hosts phase place done o left k s) [] m (m ∷ ms)
filled_by plan logs v hosts phase place done o left Receive s m ms planned at has meet filled = filled_receive plan logs v hosts phase place done o left s m ms at has meet filled
filled_by plan logs v hosts phase place done o left Send s m ms planned at has meet filled = filled_send plan logs v hosts phase place done o left s m ms planned at has meet filled

step_fills : (plan : BusPlan) (logs : Logs) (v : Version) (hosts : List ChanState) (phase place : ℕ) (done : List Opening) (o : Opening) (left : List Opening) (k : Buffer) (s : Assembly) (m : Msg) (ms : List Msg) → IsPlan plan → At plan phase place done o left → o.buffers ≡ true → FillsSo plan logs v hosts phase place done o left k s
    → ListComes (handles done ++ lists_before o k) o.relid (buffer_list o k) (buffer_pages o k) s (m ∷ ms) → HostStep plan (fills_at plan logs v hosts phase place done o left k s) [] m (m ∷ ms)
step_fills plan logs v hosts phase place done o left k s m ms planned at has meet list =
    let h : HostSeen = fills_at plan logs v hosts phase place done o left k s in
    let so : Opening → ChanState = host_is (vps_before plan phase) Opened in
    let base : ℕ → ChanState = host_before (vps_before plan phase) plan phase in
    let fact = facts plan phase place done o left planned at in
    let relid : ℕ = o.relid in
    let handle : ℕ = buffer_list o k in
    let pages : List ℕ = buffer_pages o k in
    let live : List ℕ = handles done ++ lists_before o k in
    let count = length-range_with_len (buffer_begins o k) buffer_size in
    let before = live_is done handle ∙ none_has handle done (all_weaker (λ p. Apart o p) (λ p. has_list p handle ≡ false) (λ p apart. apart handle (has_buffer o k has)) done fact.done_lists) in
    let free : is_live live handle ≡ false = list_any-append (λ x. x == handle) (handles done) (lists_before o k) ∙ (λ i. before i || (free_fill o k) i) in
    let pieces : Piecewise relid handle pages live s m ms = subst (λ (t : Assembly). Piecewise relid handle pages live t m ms) (sym list.lists_are) (comes relid handle pages live list.came m ms (omega (arith, count)) free list.whole) in
    let fine = pieces.assemble.taken.0 in
    let known : by_relid hosts relid ≡ Some (so o) = meet.stand.each relid fact.fits.named (offered_here plan phase place done o left planned at) ∙ ap (λ c. Some c) (marked_append so done (o ∷ []) base relid ∙ marked_apart so done (marked so (o ∷ []) base) relid fact.done_apart ∙ marked_here so o [] base) in
    let made = piece_built s m relid pieces.first fine in
    let heard_so : host_hears h m ≡ Ok (lists_by h (next s m) (Some made.list)) = heard h (so o) relid m pieces.first known fine ∙ ap (λ b. Ok (lists_by h (next s m) b)) made.is in
    by_test {P = HostStep plan h [] m (m ∷ ms)} (length made.list.pages == made.list.want)
    (λ e. filled_by plan logs v hosts phase place done o left k s m ms planned at has meet (filled_so plan logs v hosts phase place done o left k s m ms made.list at pieces made.is heard_so e))
    (λ e. one_fill plan logs v hosts phase place done o left k s m ms list.came made.list at has meet pieces list.whole list.lists_are made.is heard_so e)

-- the message that a host takes where it stands
pub record HostGoes (plan : BusPlan) (h : HostSeen) (tried : List ℕ) (pieces : List Msg) : Type 0 where
  pub next : Msg
  pub step : HostStep plan h tried next pieces

step_service : (plan : BusPlan) (logs : Logs) (v : Version) (hosts : List ChanState) (phase place : ℕ) (done : List Opening) (o : Opening) (left : List Opening) (dialed : Option ℕ) → IsPlan plan → At plan phase place done o left → o.dialed ≡ dialed → is_some o.dialed ≡ true
    → Meet plan v hosts (offered_by plan phase done (o ∷ left)) (marked (host_is (vps_before plan phase) Opened) done (host_before (vps_before plan phase) plan phase))
    → HostGoes plan (a_host plan logs (Some (PhaseStart phase)) (AwaitsConnect place) (Some v) hosts (live_ones (handles done))) [] []
step_service plan logs v hosts phase place done o left None planned at is asked meet = absurd (let wrong : true ≡ false = sym asked ∙ ap is_some is in cc)
step_service plan logs v hosts phase place done o left (Some port) planned at is asked meet = record { next = connect port; step = step_connects plan logs v hosts phase place done o left port planned at is meet }

-- each row in which a host waits for a message
pub host_step : (plan : BusPlan) (logs : Logs) (part : Option Part) (awaits : HostWait) (version : Option Version) (channels : List ChanState) (assembly : Assembly) (tried : List ℕ) (pieces : List Msg) → IsPlan plan → HostStands plan part awaits version channels assembly tried pieces
    → host_waits_for_nothing awaits ≡ false → HostGoes plan (a_host plan logs part awaits version channels assembly) tried pieces
host_step plan logs part awaits version channels assembly tried pieces planned (answers v tries) waits = record { next = propose v.0; step = step_proposes plan logs v planned tries }
host_step plan logs part awaits version channels assembly tried pieces planned (accepts v agreed) waits = record { next = request; step = step_asks plan logs v agreed }
host_step plan logs part awaits version channels assembly tried pieces planned (connects v cs phase place done o left at asked meet) waits = step_service plan logs v cs phase place done o left o.dialed planned at refl asked meet
host_step plan logs part awaits version channels assembly tried pieces planned (lists v cs phase place done o left s m ms at meet list) waits = record { next = m; step = step_lists plan logs v cs phase place done o left s m ms planned at meet list }
host_step plan logs part awaits version channels assembly tried pieces planned (listed v cs phase place done o left at meet) waits = record { next = open_on o; step = step_opens plan logs v cs phase place done o left planned at meet }
host_step plan logs part awaits version channels assembly tried pieces planned (fills v cs phase place done o left k s m ms at has meet list) waits = record { next = m; step = step_fills plan logs v cs phase place done o left k s m ms planned at has meet list }
host_step plan logs part awaits version channels assembly tried pieces planned (moves v cs phase place done o left in_plan is at meet) waits = record { next = modify o.relid (vp_for o); step = step_moves plan logs v cs phase place done o left planned in_plan is at meet }
host_step plan logs part awaits version channels assembly tried pieces planned (empties v cs phase place done o left k at closed has meet) waits = record { next = teardown_buffer o k; step = step_empties plan logs v cs phase place done o left planned at k closed has meet }
host_step plan logs part awaits version channels assembly tried pieces planned (closes v cs phase place done o left at closed meet) waits = record { next = close o.relid; step = step_closes plan logs v cs phase place done o left planned at closed meet }
host_step plan logs part awaits version channels assembly tried pieces planned (tears v cs phase place done o left at closed meet) waits = record { next = teardown o; step = step_tears plan logs v cs phase place done o left planned at closed meet }
host_step plan logs part awaits version channels assembly tried pieces planned (takes_back v cs phase place done o left at gone meet) waits = record { next = release o.relid; step = step_releases plan logs v cs phase place done o left planned at gone meet }
host_step plan logs part awaits version channels assembly tried pieces planned (leaves v cs meet) waits = record { next = farewell; step = step_leaves plan logs v cs meet }
host_step plan logs part awaits version channels assembly tried pieces planned _ waits = absurd (cc)
