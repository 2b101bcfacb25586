-- A run goes on: what each end may do next, by what it knows.
use Rattle.std.proofs.Common.{◌≡◌, List, [], ◌∷◌, ◌++◌, false, refl, sym, ap, ◌∙◌, subst}
use Rattle.std.proofs.lemmas.List.{append-nil}
use Rattle.channel_trace.specs.declared.event.Event.{Event}
use Rattle.channel_trace.specs.declared.event.Event.TheVariants.{Got, Empty}
use Rattle.channel_trace.specs.Runs.{Turn, Guest, Host, sent_of, got_of, has_marked, guest_of, host_of, May, IsRun}
use Rattle.channel_trace.specs.Laws.{AreOfOneRun, BothWays, exchanged}
use Rattle.channel_trace.proofs.Fronts.{front_next}
use Rattle.channel_trace.proofs.RunLaws.{exchanged_run, exchanged_guest, exchanged_host}

module _ {P : Type 0} where
  -- the packet that an end gets is the first one that waits for it
  pub may_get : (p : P) (mine other : List (Event P)) (got sent rest : List P) → has_marked mine ≡ false → got_of mine ≡ got → sent_of other ≡ sent → sent ≡ got ++ p ∷ rest → May (Got p) mine other
  may_get p mine other got sent rest n g s e = (n, front_next (got_of mine) p rest (sent_of other) (s ∙ (e ∙ ap (λ (l : List P). l ++ p ∷ rest) (sym g))))

  -- it finds none where none waits
  pub may_find_none : (mine other : List (Event P)) (got sent waiting : List P) → has_marked mine ≡ false → got_of mine ≡ got → sent_of other ≡ sent → sent ≡ got ++ waiting → waiting ≡ [] → May Empty mine other
  may_find_none mine other got sent waiting n g s e none = (n, g ∙ (sym (append-nil got) ∙ (ap (λ (l : List P). got ++ l) (sym none) ∙ (sym e ∙ sym s))))

  -- one more event of an end
  pub guest_goes_on : (e : Event P) (run : List (Turn P)) (guest host : List (Event P)) → guest_of run ≡ guest → host_of run ≡ host → IsRun run → May e guest host → IsRun (Guest e ∷ run)
  guest_goes_on e run guest host g h is may = (subst (λ l. May e l (host_of run)) (sym g) (subst (May e guest) (sym h) may), is)

  pub host_goes_on : (e : Event P) (run : List (Turn P)) (guest host : List (Event P)) → guest_of run ≡ guest → host_of run ≡ host → IsRun run → May e host guest → IsRun (Host e ∷ run)
  host_goes_on e run guest host g h is may = (subst (λ l. May e l (guest_of run)) (sym h) (subst (May e host) (sym g) may), is)

  -- the same of two ends' events that are of one run
  pub none_yet : AreOfOneRun {P = P} [] []
  none_yet = record { turns = []; run = tt; guest_is = refl; host_is = refl }

  pub guest_adds : (e : Event P) (guest host : List (Event P)) → AreOfOneRun guest host → May e guest host → AreOfOneRun (e ∷ guest) host
  guest_adds e guest host one may = record {
    turns = Guest e ∷ one.turns;
    run = guest_goes_on e one.turns guest host one.guest_is one.host_is one.run may;
    guest_is = ap (λ (l : List (Event P)). e ∷ l) one.guest_is;
    host_is = one.host_is;
  }

  pub host_adds : (e : Event P) (guest host : List (Event P)) → AreOfOneRun guest host → May e host guest → AreOfOneRun guest (e ∷ host)
  host_adds e guest host one may = record {
    turns = Host e ∷ one.turns;
    run = host_goes_on e one.turns guest host one.guest_is one.host_is one.run may;
    guest_is = one.guest_is;
    host_is = ap (λ (l : List (Event P)). e ∷ l) one.host_is;
  }

  pub ends_exchanged : (guest host : List (Event P)) → AreOfOneRun guest host → AreOfOneRun host guest
  ends_exchanged guest host one = record {
    turns = exchanged one.turns;
    run = exchanged_run one.turns one.run;
    guest_is = exchanged_guest one.turns ∙ one.host_is;
    host_is = exchanged_host one.turns ∙ one.guest_is;
  }

  -- a law of runs, for two ends' events that are of one run
  pub of_guest : (Holds : List (Event P) → List (Event P) → Type 0) → ((run : List (Turn P)) → IsRun run → BothWays Holds run)
      → (guest host : List (Event P)) → AreOfOneRun guest host → Holds guest host
  of_guest Holds law guest host one = subst (λ l. Holds l host) one.guest_is (subst (Holds (guest_of one.turns)) one.host_is (law one.turns one.run).guest)

  pub of_host : (Holds : List (Event P) → List (Event P) → Type 0) → ((run : List (Turn P)) → IsRun run → BothWays Holds run)
      → (guest host : List (Event P)) → AreOfOneRun guest host → Holds host guest
  of_host Holds law guest host one = of_guest Holds law host guest (ends_exchanged guest host one)
