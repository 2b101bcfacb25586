-- A run of two ends that sent and got these packets.
use Rattle.std.proofs.Common.{◌≡◌, List, [], ◌∷◌, ◌++◌, false, refl, sym, ap, ◌∙◌, append_assoc}
use Rattle.std.proofs.lemmas.List.{append-nil}
use Rattle.channel_trace.specs.declared.event.Event.{Event}
use Rattle.channel_trace.specs.declared.event.Event.TheVariants.{Sent, Got}
use Rattle.channel_trace.specs.Runs.{sent_of, got_of, has_marked}
use Rattle.channel_trace.specs.Laws.{AreOfOneRun}
use Rattle.channel_trace.proofs.Steps.{ends_exchanged, guest_adds, may_get, none_yet}

module _ {P : Type 0} where
  -- after this past it sent these
  abbrev pub sends : List (Event P) → List P → List (Event P)
  sends past [] = past
  sends past (p ∷ ps) = sends (Sent p ∷ past) ps

  -- or got these
  abbrev pub gets : List (Event P) → List P → List (Event P)
  gets past [] = past
  gets past (p ∷ ps) = gets (Got p ∷ past) ps

  pub sends_sent : (past : List (Event P)) (ps : List P) → sent_of (sends past ps) ≡ sent_of past ++ ps
  sends_sent past [] = sym (append-nil (sent_of past))
  sends_sent past (p ∷ ps) = sends_sent (Sent p ∷ past) ps ∙ append_assoc (sent_of past) (p ∷ []) ps

  pub sends_got : (past : List (Event P)) (ps : List P) → got_of (sends past ps) ≡ got_of past
  sends_got past [] = refl
  sends_got past (p ∷ ps) = sends_got (Sent p ∷ past) ps

  sends_marked : (past : List (Event P)) (ps : List P) → has_marked (sends past ps) ≡ has_marked past
  sends_marked past [] = refl
  sends_marked past (p ∷ ps) = sends_marked (Sent p ∷ past) ps

  pub gets_got : (past : List (Event P)) (ps : List P) → got_of (gets past ps) ≡ got_of past ++ ps
  gets_got past [] = sym (append-nil (got_of past))
  gets_got past (p ∷ ps) = gets_got (Got p ∷ past) ps ∙ append_assoc (got_of past) (p ∷ []) ps

  pub gets_sent : (past : List (Event P)) (ps : List P) → sent_of (gets past ps) ≡ sent_of past
  gets_sent past [] = refl
  gets_sent past (p ∷ ps) = gets_sent (Got p ∷ past) ps

  gets_marked : (past : List (Event P)) (ps : List P) → has_marked (gets past ps) ≡ has_marked past
  gets_marked past [] = refl
  gets_marked past (p ∷ ps) = gets_marked (Got p ∷ past) ps

  run_sends : (mine other : List (Event P)) (ps : List P) → has_marked mine ≡ false → AreOfOneRun mine other → AreOfOneRun (sends mine ps) other
  run_sends mine other [] unmarked one = one
  run_sends mine other (p ∷ ps) unmarked one = run_sends (Sent p ∷ mine) other ps unmarked (guest_adds (Sent p) mine other one unmarked)

  run_gets : (mine other : List (Event P)) (ps : List P) → has_marked mine ≡ false → sent_of other ≡ got_of mine ++ ps → AreOfOneRun mine other → AreOfOneRun (gets mine ps) other
  run_gets mine other [] unmarked e one = one
  run_gets mine other (p ∷ ps) unmarked e one =
      run_gets (Got p ∷ mine) other ps unmarked (e ∙ sym (append_assoc (got_of mine) (p ∷ []) ps))
      (guest_adds (Got p) mine other one (may_get p mine other (got_of mine) (sent_of other) ps unmarked refl refl e))

  -- the one end sent all that it sends, the other one got it and sent all that it sends, and the first one got that
  abbrev pub first_past : List P → List P → List (Event P)
  first_past sent back = gets (sends [] sent) back

  abbrev pub second_past : List P → List P → List (Event P)
  second_past sent back = sends (gets [] sent) back

  pub first_sent : (sent back : List P) → sent_of (first_past sent back) ≡ sent
  first_sent sent back = gets_sent (sends [] sent) back ∙ sends_sent [] sent

  pub first_got : (sent back : List P) → got_of (first_past sent back) ≡ back
  first_got sent back = gets_got (sends [] sent) back ∙ ap (λ (l : List P). l ++ back) (sends_got [] sent)

  pub second_sent : (sent back : List P) → sent_of (second_past sent back) ≡ back
  second_sent sent back = sends_sent (gets [] sent) back ∙ ap (λ (l : List P). l ++ back) (gets_sent [] sent)

  pub second_got : (sent back : List P) → got_of (second_past sent back) ≡ sent
  second_got sent back = sends_got (gets [] sent) back ∙ gets_got [] sent

  pub makes_run : (sent back : List P) → AreOfOneRun (first_past sent back) (second_past sent back)
  makes_run sent back =
      let asked : AreOfOneRun (sends [] sent) [] = run_sends [] [] sent refl none_yet in
      let came : AreOfOneRun (gets [] sent) (sends [] sent) = run_gets [] (sends [] sent) sent refl (sends_sent [] sent) (ends_exchanged (sends [] sent) [] asked) in
      let answered : AreOfOneRun (second_past sent back) (sends [] sent) = run_sends (gets [] sent) (sends [] sent) back (gets_marked [] sent) came in
      run_gets (sends [] sent) (second_past sent back) back (sends_marked [] sent) (second_sent sent back ∙ ap (λ (l : List P). l ++ back) (sym (sends_got [] sent))) (ends_exchanged (second_past sent back) (sends [] sent) answered)
