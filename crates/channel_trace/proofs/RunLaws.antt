-- The laws of runs.
use Rattle.std.proofs.Common.{◌≡◌, List, [], ◌∷◌, ◌++◌, true, false, refl, sym, ap, subst, inl, inr, ⊎_elim}
use Rattle.std.specs.Prelude.{◌⊎◌}
use Rattle.channel_trace.specs.declared.event.Event.{Event}
use Rattle.channel_trace.specs.declared.event.Event.TheVariants.{Sent, Got, Empty, Marked, Saw}
use Rattle.channel_trace.specs.Runs.{Turn, Guest, Host, IsFront, sent_of, got_of, has_marked, has_seen, guest_of, host_of, May, IsRun}
use Rattle.channel_trace.specs.Laws.{BothWays, GetsInOrder, DrainsAll, SeesMarks, EndsAtMark, MarksFirst, HasFirstMark, Follows, StaysUnmarked, exchanged}
use Rattle.channel_trace.proofs.Fronts.{front_more, front_over}
use Rattle.channel_trace.proofs.Pasts.{true_false, by_test, drained_seen, marked_stays}

module _ {P : Type 0} where
  pub exchanged_guest : (run : List (Turn P)) → guest_of (exchanged run) ≡ host_of run
  exchanged_guest [] = refl
  exchanged_guest (Guest e ∷ run) = exchanged_guest run
  exchanged_guest (Host e ∷ run) = ap (λ (l : List (Event P)). e ∷ l) (exchanged_guest run)

  pub exchanged_host : (run : List (Turn P)) → host_of (exchanged run) ≡ guest_of run
  exchanged_host [] = refl
  exchanged_host (Guest e ∷ run) = ap (λ (l : List (Event P)). e ∷ l) (exchanged_host run)
  exchanged_host (Host e ∷ run) = exchanged_host run

  pub exchanged_run : (run : List (Turn P)) → IsRun run → IsRun (exchanged run)
  exchanged_run [] is = tt
  exchanged_run (Guest e ∷ run) is = rw (exchanged_guest run, exchanged_host run) (is.0, exchanged_run run is.1)
  exchanged_run (Host e ∷ run) is = rw (exchanged_guest run, exchanged_host run) (is.0, exchanged_run run is.1)

  -- what holds of the guest in every run holds of the host too
  pub both_ways : (Holds : List (Event P) → List (Event P) → Type 0) → ((run : List (Turn P)) → IsRun run → Holds (guest_of run) (host_of run))
      → (run : List (Turn P)) → IsRun run → BothWays Holds run
  both_ways Holds law run is = record {
    guest = law run is;
    host = subst (λ l. Holds l (guest_of run)) (exchanged_guest run) (subst (Holds (guest_of (exchanged run))) (exchanged_host run) (law (exchanged run) (exchanged_run run is)));
  }

  guest_order : (run : List (Turn P)) → IsRun run → GetsInOrder (guest_of run) (host_of run)
  guest_order [] is = ([], refl)
  guest_order (Guest (Got p) ∷ run) is = is.0.1
  guest_order (Guest e ∷ run) is = guest_order run is.1
  guest_order (Host (Sent p) ∷ run) is = front_more (got_of (guest_of run)) (sent_of (host_of run)) (p ∷ []) (guest_order run is.1)
  guest_order (Host e ∷ run) is = guest_order run is.1

  pub gets_in_order : (run : List (Turn P)) → IsRun run → BothWays GetsInOrder run
  gets_in_order = both_ways GetsInOrder guest_order

  guest_sees : (run : List (Turn P)) → IsRun run → SeesMarks (guest_of run) (host_of run)
  guest_sees [] is e = e
  guest_sees (Guest Saw ∷ run) is e = is.0.1
  guest_sees (Guest x ∷ run) is e = guest_sees run is.1 e
  guest_sees (Host Marked ∷ run) is e = refl
  guest_sees (Host x ∷ run) is e = guest_sees run is.1 e

  pub sees_marks : (run : List (Turn P)) → IsRun run → BothWays SeesMarks run
  sees_marks = both_ways SeesMarks guest_sees

  guest_drains : (run : List (Turn P)) → IsRun run → DrainsAll (guest_of run) (host_of run)
  guest_drains [] is e = refl
  guest_drains (Guest (Got p) ∷ run) is e =
      let all = guest_drains run is.1 e in
      absurd (front_over (got_of (guest_of run)) p (subst (IsFront (got_of (guest_of run) ++ p ∷ [])) (sym all) is.0.1))
  guest_drains (Guest Empty ∷ run) is e = is.0.1
  guest_drains (Guest x ∷ run) is e = guest_drains run is.1 e
  guest_drains (Host (Sent p) ∷ run) is e = absurd (true_false (has_marked (host_of run)) (guest_sees run is.1 (drained_seen (guest_of run) e)) is.0)
  guest_drains (Host x ∷ run) is e = guest_drains run is.1 e

  pub drains_all : (run : List (Turn P)) → IsRun run → BothWays DrainsAll run
  drains_all = both_ways DrainsAll guest_drains

  -- each moment of a run
  pub was_run : (later run : List (Turn P)) → IsRun (later ++ run) → IsRun run
  was_run [] run is = is
  was_run (Guest e ∷ later) run is = was_run later run is.1
  was_run (Host e ∷ later) run is = was_run later run is.1

  pub guest_might : (later before : List (Turn P)) (e : Event P) → IsRun (later ++ Guest e ∷ before) → May e (guest_of before) (host_of before)
  guest_might later before e is = (was_run later (Guest e ∷ before) is).0

  pub host_might : (later before : List (Turn P)) (e : Event P) → IsRun (later ++ Host e ∷ before) → May e (host_of before) (guest_of before)
  host_might later before e is = (was_run later (Host e ∷ before) is).0

  pub guest_of-append : (later run : List (Turn P)) → guest_of (later ++ run) ≡ guest_of later ++ guest_of run
  guest_of-append [] run = refl
  guest_of-append (Guest e ∷ later) run = ap (λ (l : List (Event P)). e ∷ l) (guest_of-append later run)
  guest_of-append (Host e ∷ later) run = guest_of-append later run

  pub host_of-append : (later run : List (Turn P)) → host_of (later ++ run) ≡ host_of later ++ host_of run
  host_of-append [] run = refl
  host_of-append (Guest e ∷ later) run = host_of-append later run
  host_of-append (Host e ∷ later) run = ap (λ (l : List (Event P)). e ∷ l) (host_of-append later run)

  first_later : (e : Event P) (mine : List (Event P)) → MarksFirst mine → MarksFirst (e ∷ mine)
  first_later e mine m = record { later = e ∷ m.later; before = m.before; is = ap (λ (l : List (Event P)). e ∷ l) m.is; unseen = m.unseen }

  -- an end marks itself now: its peer did so before it, or it is first
  marks_now : (mine other : List (Event P)) → SeesMarks mine other → (has_marked other ≡ true → MarksFirst mine ⊎ MarksFirst other) → MarksFirst (Marked ∷ mine) ⊎ MarksFirst other
  marks_now mine other sees before =
      by_test (has_marked other)
      (λ e. ⊎_elim (λ m. inl (first_later Marked mine m)) inr (before e))
      (λ e. by_test (has_seen mine)
      (λ f. absurd (true_false (has_marked other) (sees f) e))
      (λ f. inl (record { later = []; before = mine; is = refl; unseen = f })))

  first_mark : (run : List (Turn P)) → IsRun run → (has_marked (guest_of run) ≡ true) ⊎ (has_marked (host_of run) ≡ true) → MarksFirst (guest_of run) ⊎ MarksFirst (host_of run)
  first_mark [] is m = absurd (⊎_elim (λ e. true_false false e refl) (λ e. true_false false e refl) m)
  first_mark (Guest Marked ∷ run) is m = marks_now (guest_of run) (host_of run) (sees_marks run is.1).guest (λ e. first_mark run is.1 (inr e))
  first_mark (Guest x ∷ run) is m = ⊎_elim (λ k. inl (first_later x (guest_of run) k)) inr (first_mark run is.1 m)
  first_mark (Host Marked ∷ run) is m =
      ⊎_elim inr inl (marks_now (host_of run) (guest_of run) (sees_marks run is.1).host (λ e. ⊎_elim inr inl (first_mark run is.1 (inl e))))
  first_mark (Host x ∷ run) is m = ⊎_elim inl (λ k. inr (first_later x (host_of run) k)) (first_mark run is.1 m)

  pub has_first_mark : (run : List (Turn P)) → IsRun run → BothWays HasFirstMark run
  has_first_mark = both_ways HasFirstMark (λ run is e. first_mark run is (inl e))

  follows_at : (later before : List (Event P)) → Follows (later ++ Marked ∷ before) → has_seen before ≡ true
  follows_at [] before f = f.0
  follows_at (Marked ∷ later) before f = follows_at later before f.1
  follows_at (x ∷ later) before f = follows_at later before f

  not_first : (mine : List (Event P)) → Follows mine → MarksFirst mine → ⊥
  not_first mine f m = true_false (has_seen m.before) (follows_at m.later m.before (subst Follows m.is f)) m.unseen

  pub stays_unmarked : (run : List (Turn P)) → IsRun run → BothWays StaysUnmarked run
  stays_unmarked = both_ways StaysUnmarked (λ run is f g. by_test (has_marked (guest_of run))
      (λ e. absurd (⊎_elim (not_first (guest_of run) f) (not_first (host_of run) g) (first_mark run is (inl e))))
      (λ e. e))

  -- an end did each thing where it hadn't marked itself yet
  IsEnding : List (Event P) → Type 0
  IsEnding [] = Unit {0}
  IsEnding (e ∷ past) = (has_marked past ≡ false) × IsEnding past

  unmarked : (e : Event P) (mine other : List (Event P)) → May e mine other → has_marked mine ≡ false
  unmarked (Sent p) mine other may = may
  unmarked (Got p) mine other may = may.0
  unmarked Empty mine other may = may.0
  unmarked Marked mine other may = may
  unmarked Saw mine other may = may.0

  guest_ending : (run : List (Turn P)) → IsRun run → IsEnding (guest_of run)
  unfolding IsEnding
  guest_ending [] is = tt
  guest_ending (Guest e ∷ run) is = (unmarked e (guest_of run) (host_of run) is.0, guest_ending run is.1)
  guest_ending (Host e ∷ run) is = guest_ending run is.1

  ending_at : (later before : List (Event P)) → IsEnding (later ++ Marked ∷ before) → later ≡ []
  unfolding IsEnding
  ending_at [] before k = refl
  ending_at (e ∷ later) before k = absurd (true_false (has_marked (later ++ Marked ∷ before)) (marked_stays later (Marked ∷ before) refl) k.0)

  pub ends_at_mark : (run : List (Turn P)) → IsRun run → BothWays EndsAtMark run
  ends_at_mark = both_ways EndsAtMark (λ run is later before e. ending_at later before (subst IsEnding e (guest_ending run is)))
