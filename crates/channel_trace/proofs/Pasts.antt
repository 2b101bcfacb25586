-- The events of one end: what a longer past says.
use Rattle.std.proofs.Common.{◌≡◌, List, [], ◌∷◌, ◌++◌, Bool, true, false, refl, sym, ap, ◌∙◌, append_assoc}
use Rattle.std.proofs.lemmas.List.{append-nil}
use Rattle.std.specs.Prelude.{◌||◌}
use Rattle.channel_trace.specs.declared.event.Event.{Event}
use Rattle.channel_trace.specs.declared.event.Event.TheVariants.{Sent, Got, Empty, Marked, Saw}
use Rattle.channel_trace.specs.Runs.{IsFront, sent_of, got_of, has_marked, has_seen, is_drained}
use Rattle.channel_trace.specs.Laws.{Follows}

pub true_false : (b : Bool) → b ≡ true → b ≡ false → ⊥
true_false b e f = absurd (cc)

pub by_test : {Q : Type 0} (b : Bool) → (b ≡ true → Q) → (b ≡ false → Q) → Q
by_test true f g = f refl
by_test false f g = g refl

or_elim : (a b : Bool) → (a || b) ≡ true → (b ≡ true → a ≡ true) → a ≡ true
or_elim true b e f = refl
or_elim false b e f = f e

or_right : (a b : Bool) → b ≡ true → (a || b) ≡ true
or_right true b e = refl
or_right false b e = e

module _ {P : Type 0} where
  pub sent_of-append : (later past : List (Event P)) → sent_of (later ++ past) ≡ sent_of past ++ sent_of later
  sent_of-append [] past = sym (append-nil (sent_of past))
  sent_of-append (Sent p ∷ later) past = ap (λ (l : List P). l ++ p ∷ []) (sent_of-append later past) ∙ append_assoc (sent_of past) (sent_of later) (p ∷ [])
  sent_of-append (e ∷ later) past = sent_of-append later past

  pub got_of-append : (later past : List (Event P)) → got_of (later ++ past) ≡ got_of past ++ got_of later
  got_of-append [] past = sym (append-nil (got_of past))
  got_of-append (Got p ∷ later) past = ap (λ (l : List P). l ++ p ∷ []) (got_of-append later past) ∙ append_assoc (got_of past) (got_of later) (p ∷ [])
  got_of-append (e ∷ later) past = got_of-append later past

  pub has_marked-append : (later past : List (Event P)) → has_marked (later ++ past) ≡ (has_marked later || has_marked past)
  has_marked-append [] past = refl
  has_marked-append (Marked ∷ later) past = refl
  has_marked-append (e ∷ later) past = has_marked-append later past

  pub has_seen-append : (later past : List (Event P)) → has_seen (later ++ past) ≡ (has_seen later || has_seen past)
  has_seen-append [] past = refl
  has_seen-append (Saw ∷ later) past = refl
  has_seen-append (e ∷ later) past = has_seen-append later past

  -- what was sent, got, marked, seen or drained stays so
  pub sent_stays : (later past : List (Event P)) → IsFront (sent_of past) (sent_of (later ++ past))
  sent_stays later past = (sent_of later, sent_of-append later past)

  pub got_stays : (later past : List (Event P)) → IsFront (got_of past) (got_of (later ++ past))
  got_stays later past = (got_of later, got_of-append later past)

  pub marked_stays : (later past : List (Event P)) → has_marked past ≡ true → has_marked (later ++ past) ≡ true
  marked_stays later past e = has_marked-append later past ∙ or_right (has_marked later) (has_marked past) e

  pub seen_stays : (later past : List (Event P)) → has_seen past ≡ true → has_seen (later ++ past) ≡ true
  seen_stays later past e = has_seen-append later past ∙ or_right (has_seen later) (has_seen past) e

  pub drained_stays : (later past : List (Event P)) → is_drained past ≡ true → is_drained (later ++ past) ≡ true
  drained_stays [] past e = e
  drained_stays (Empty ∷ later) past e = or_right (has_seen (later ++ past)) (is_drained (later ++ past)) (drained_stays later past e)
  drained_stays (x ∷ later) past e = drained_stays later past e

  -- a drained end saw the mark
  pub drained_seen : (mine : List (Event P)) → is_drained mine ≡ true → has_seen mine ≡ true
  drained_seen [] e = e
  drained_seen (Empty ∷ mine) e = or_elim (has_seen mine) (is_drained mine) e (drained_seen mine)
  drained_seen (Saw ∷ mine) e = refl
  drained_seen (x ∷ mine) e = drained_seen mine e

  -- an end that isn't marked has kept the order of marks
  pub follows_unmarked : (past : List (Event P)) → has_marked past ≡ false → Follows past
  follows_unmarked [] e = tt
  follows_unmarked (Marked ∷ past) e = absurd (cc)
  follows_unmarked (x ∷ past) e = follows_unmarked past e
