-- A run of packets is one of the things that stand for them.
use Rattle.std.proofs.Common.{◌≡◌, ℕ, ◌+◌, ◌<◌, ◌≤◌, List, [], ◌∷◌, ◌++◌, length, take, drop, refl, sym, ap, ◌∙◌, subst, arith, length-append}
use Rattle.std.specs.Prelude.{◌||◌}
use Rattle.std.proofs.Math.Seq.{take-length}
use Rattle.std.proofs.lemmas.List.{take_more, take-take, take-append-drop, take-append-le}
use Rattle.channel_trace.specs.declared.event.Event.{Event}
use Rattle.channel_trace.specs.declared.event.Event.TheVariants.{Sent, Got, Empty, Marked, Saw}
use Rattle.channel_trace.specs.Runs.{Turn, Guest, Host, IsFront, sent_of, got_of, has_marked, has_seen, is_drained, guest_of, host_of, May, IsRun}
use Rattle.channel_trace.specs.Laws.{AreOfOneRun}
use Rattle.channel_trace.specs.Filled.{thing_at, fill, filled, IsFilledBy}

one_more : {A : Type 0} (xs : List A) (x : A) → length (xs ++ x ∷ []) ≡ length xs + 1
one_more xs x = let e = length-append xs (x ∷ []) in omega (arith, e)

-- the first things of the one list are the first ones of the other
front_take : {A : Type 0} (g s : List A) (n m : ℕ) → IsFront g s → n ≤ m → n ≤ length g → IsFront (take n g) (take m s)
front_take {A = A} g s n m f a b =
    let same : take n g ≡ take n (take m s) = sym (take-append-le n g f.0 b) ∙ (ap (take n) (sym f.1) ∙ sym (take-take n m s a)) in
    (drop n (take m s), sym (take-append-drop n (take m s)) ∙ ap (λ (l : List A). l ++ drop n (take m s)) (sym same))

module _ {P Q : Type 0} (plain : P → Q) where
  -- a past before an event has no more
  sent_less : (e : Event P) (past : List (Event P)) → length (sent_of past) ≤ length (sent_of (e ∷ past))
  sent_less (Sent p) past = let m = one_more (sent_of past) p in omega (arith, m)
  sent_less (Got p) past = omega arith
  sent_less Empty past = omega arith
  sent_less Marked past = omega arith
  sent_less Saw past = omega arith

  got_less : (e : Event P) (past : List (Event P)) → length (got_of past) ≤ length (got_of (e ∷ past))
  got_less (Sent p) past = omega arith
  got_less (Got p) past = let m = one_more (got_of past) p in omega (arith, m)
  got_less Empty past = omega arith
  got_less Marked past = omega arith
  got_less Saw past = omega arith

  next_thing : (things : List Q) (n : ℕ) (p : P) → n < length things → take n things ++ thing_at plain things n p ∷ [] ≡ take (n + 1) things
  next_thing things n p h = sym (take_more things n (plain p) h)

  sent_filled : (s g : List Q) (past : List (Event P)) → length (sent_of past) ≤ length s → sent_of (filled plain s g past) ≡ take (length (sent_of past)) s
  sent_filled s g [] h = refl
  sent_filled s g (Sent p ∷ past) h =
      let m = one_more (sent_of past) p in
      ap (λ (l : List Q). l ++ thing_at plain s (length (sent_of past)) p ∷ []) (sent_filled s g past (omega (arith, h, m)))
      ∙ (next_thing s (length (sent_of past)) p (omega (arith, h, m)) ∙ ap (λ (k : ℕ). take k s) (sym m))
  sent_filled s g (Got p ∷ past) h = sent_filled s g past h
  sent_filled s g (Empty ∷ past) h = sent_filled s g past h
  sent_filled s g (Marked ∷ past) h = sent_filled s g past h
  sent_filled s g (Saw ∷ past) h = sent_filled s g past h

  got_filled : (s g : List Q) (past : List (Event P)) → length (got_of past) ≤ length g → got_of (filled plain s g past) ≡ take (length (got_of past)) g
  got_filled s g [] h = refl
  got_filled s g (Sent p ∷ past) h = got_filled s g past h
  got_filled s g (Got p ∷ past) h =
      let m = one_more (got_of past) p in
      ap (λ (l : List Q). l ++ thing_at plain g (length (got_of past)) p ∷ []) (got_filled s g past (omega (arith, h, m)))
      ∙ (next_thing g (length (got_of past)) p (omega (arith, h, m)) ∙ ap (λ (k : ℕ). take k g) (sym m))
  got_filled s g (Empty ∷ past) h = got_filled s g past h
  got_filled s g (Marked ∷ past) h = got_filled s g past h
  got_filled s g (Saw ∷ past) h = got_filled s g past h

  pub marked_filled : (past : List (Event P)) (s g : List Q) → has_marked (filled plain s g past) ≡ has_marked past
  marked_filled [] s g = refl
  marked_filled (Sent p ∷ past) s g = marked_filled past s g
  marked_filled (Got p ∷ past) s g = marked_filled past s g
  marked_filled (Empty ∷ past) s g = marked_filled past s g
  marked_filled (Marked ∷ past) s g = refl
  marked_filled (Saw ∷ past) s g = marked_filled past s g

  pub seen_filled : (past : List (Event P)) (s g : List Q) → has_seen (filled plain s g past) ≡ has_seen past
  seen_filled [] s g = refl
  seen_filled (Sent p ∷ past) s g = seen_filled past s g
  seen_filled (Got p ∷ past) s g = seen_filled past s g
  seen_filled (Empty ∷ past) s g = seen_filled past s g
  seen_filled (Marked ∷ past) s g = seen_filled past s g
  seen_filled (Saw ∷ past) s g = refl

  pub drained_filled : (past : List (Event P)) (s g : List Q) → is_drained (filled plain s g past) ≡ is_drained past
  drained_filled [] s g = refl
  drained_filled (Sent p ∷ past) s g = drained_filled past s g
  drained_filled (Got p ∷ past) s g = drained_filled past s g
  drained_filled (Empty ∷ past) s g = λ j. seen_filled past s g j || drained_filled past s g j
  drained_filled (Marked ∷ past) s g = drained_filled past s g
  drained_filled (Saw ∷ past) s g = drained_filled past s g

  pub all_sent : (past : List (Event P)) (s g : List Q) → IsFilledBy past s g → sent_of (filled plain s g past) ≡ s
  all_sent past s g h = let n = h.sent_are in sent_filled s g past (omega (arith, n)) ∙ (ap (λ (k : ℕ). take k s) n ∙ take-length s)

  pub all_got : (past : List (Event P)) (s g : List Q) → IsFilledBy past s g → got_of (filled plain s g past) ≡ g
  all_got past s g h = let n = h.got_are in got_filled s g past (omega (arith, n)) ∙ (ap (λ (k : ℕ). take k g) n ∙ take-length g)

  -- an end that may do this may do it with things
  may_fill : (s g s' g' : List Q) (e : Event P) (mine other : List (Event P)) → length (sent_of (e ∷ mine)) ≤ length s → length (got_of (e ∷ mine)) ≤ length g → length (sent_of other) ≤ length s' → IsFront g s' → May e mine other
      → May (fill plain s g mine e) (filled plain s g mine) (filled plain s' g' other)
  may_fill s g s' g' (Sent p) mine other a b c f may = marked_filled mine s g ∙ may
  may_fill s g s' g' (Got p) mine other a b c f may =
      let n : ℕ = length (got_of mine) in
      let m : ℕ = length (sent_of other) in
      let one = one_more (got_of mine) p in
      let long : length (sent_of other) ≡ length (got_of mine ++ p ∷ []) + length may.1.0 = ap length may.1.1 ∙ length-append (got_of mine ++ p ∷ []) may.1.0 in
      let got : got_of (filled plain s g mine) ++ thing_at plain g n p ∷ [] ≡ take (n + 1) g =
      ap (λ (l : List Q). l ++ thing_at plain g n p ∷ []) (got_filled s g mine (omega (arith, b, one))) ∙ next_thing g n p (omega (arith, b, one)) in (
        marked_filled mine s g ∙ may.0,
        subst (λ (k : List Q × List Q). IsFront k.0 k.1) (λ j. (sym got j, sym (sent_filled s' g' other c) j)) (front_take g s' (n + 1) m f (omega (arith, long, one)) (omega (arith, b, one))),
      )
  may_fill s g s' g' Empty mine other a b c f may =
      let n_is : length (got_of mine) ≡ length (sent_of other) = ap length may.1 in (
        marked_filled mine s g ∙ may.0,
        got_filled s g mine b ∙ (sym (take-append-le (length (got_of mine)) g f.0 b) ∙ (ap (take (length (got_of mine))) (sym f.1) ∙ (ap (λ (k : ℕ). take k s') n_is ∙ sym (sent_filled s' g' other c)))),
      )
  may_fill s g s' g' Marked mine other a b c f may = marked_filled mine s g ∙ may
  may_fill s g s' g' Saw mine other a b c f may = (marked_filled mine s g ∙ may.0, marked_filled other s' g' ∙ may.1)

  module _ (gs gg hs hg : List Q) (to_guest : IsFront gg hs) (to_host : IsFront hg gs) where
    turns : List (Turn P) → List (Turn Q)
    turns [] = []
    turns (Guest e ∷ past) = Guest (fill plain gs gg (guest_of past) e) ∷ turns past
    turns (Host e ∷ past) = Host (fill plain hs hg (host_of past) e) ∷ turns past

    guest_turns : (run : List (Turn P)) → guest_of (turns run) ≡ filled plain gs gg (guest_of run)
    unfolding turns
    guest_turns [] = refl
    guest_turns (Guest e ∷ past) = ap (λ (l : List (Event Q)). fill plain gs gg (guest_of past) e ∷ l) (guest_turns past)
    guest_turns (Host e ∷ past) = guest_turns past

    host_turns : (run : List (Turn P)) → host_of (turns run) ≡ filled plain hs hg (host_of run)
    unfolding turns
    host_turns [] = refl
    host_turns (Guest e ∷ past) = host_turns past
    host_turns (Host e ∷ past) = ap (λ (l : List (Event Q)). fill plain hs hg (host_of past) e ∷ l) (host_turns past)

    runs : (run : List (Turn P)) → IsRun run → length (sent_of (guest_of run)) ≤ length gs → length (got_of (guest_of run)) ≤ length gg → length (sent_of (host_of run)) ≤ length hs → length (got_of (host_of run)) ≤ length hg → IsRun (turns run)
    unfolding turns
    runs [] ok a b c d = tt
    runs (Guest e ∷ past) ok a b c d =
        let x = sent_less e (guest_of past) in let y = got_less e (guest_of past) in (
          subst (λ (k : List (Event Q) × List (Event Q)). May (fill plain gs gg (guest_of past) e) k.0 k.1) (λ j. (sym (guest_turns past) j, sym (host_turns past) j)) (may_fill gs gg hs hg e (guest_of past) (host_of past) a b c to_guest ok.0),
          runs past ok.1 (omega (arith, a, x)) (omega (arith, b, y)) c d,
        )
    runs (Host e ∷ past) ok a b c d =
        let x = sent_less e (host_of past) in let y = got_less e (host_of past) in (
          subst (λ (k : List (Event Q) × List (Event Q)). May (fill plain hs hg (host_of past) e) k.0 k.1) (λ j. (sym (host_turns past) j, sym (guest_turns past) j)) (may_fill hs hg gs gg e (host_of past) (guest_of past) c d a to_host ok.0),
          runs past ok.1 a b (omega (arith, c, x)) (omega (arith, d, y)),
        )

  pub runs_filled : (guest host : List (Event P)) (gs gg hs hg : List Q) → AreOfOneRun guest host → IsFilledBy guest gs gg → IsFilledBy host hs hg → IsFront gg hs → IsFront hg gs → AreOfOneRun (filled plain gs gg guest) (filled plain hs hg host)
  runs_filled guest host gs gg hs hg r a b to_guest to_host =
      let at_most : (f : List (Event P) → ℕ) (x y : List (Event P)) (n : ℕ) → x ≡ y → f y ≡ n → f x ≤ n = λ f x y n e h. (let z : f x ≡ f y = ap f e in omega (arith, z, h)) in
      record {
        turns = turns gs gg hs hg to_guest to_host r.turns;
        run = runs gs gg hs hg to_guest to_host r.turns r.run (at_most (λ l. length (sent_of l)) _ guest (length gs) r.guest_is a.sent_are) (at_most (λ l. length (got_of l)) _ guest (length gg) r.guest_is a.got_are) (at_most (λ l. length (sent_of l)) _ host (length hs) r.host_is b.sent_are) (at_most (λ l. length (got_of l)) _ host (length hg) r.host_is b.got_are);
        guest_is = guest_turns gs gg hs hg to_guest to_host r.turns ∙ ap (filled plain gs gg) r.guest_is;
        host_is = host_turns gs gg hs hg to_guest to_host r.turns ∙ ap (filled plain hs hg) r.host_is;
      }
