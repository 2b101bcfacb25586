-- The outcomes of the lines of a phase, line by line.
use Rattle.std.proofs.Common.{◌≡◌, ℕ, ◌+◌, ◌<◌, ◌≤◌, ◌==◌, true, cond, List, [], ◌∷◌, ◌++◌, length, length-append, append_assoc, take, drop, get_or, refl, ap, sym, ◌∙◌, subst, arith, slice_index_or, Option, Some, None}
use Rattle.std.specs.Prelude.{map, is_some, unwrap_or}
use Rattle.std.specs.Option.{IfSome}
use Rattle.std.specs.List.{flat_map}
use Rattle.std.proofs.lemmas.List.{take_more, take_all, append-nil, map-append}
use Rattle.std.proofs.lemmas.Bool.Decides.{nat_tests}
use Rattle.script_lines.specs.declared.line.Line.{Line}
use Rattle.script_lines.specs.declared.line.What.{What}
use Rattle.script_lines.specs.declared.line.Ask.{Ask}
use Rattle.script_lines.specs.Lines.{Says, Asks, Rescinds, Shuts, Modifies, said}
use Rattle.script_phases.specs.Says.{heard_by, said_to, asked, asks_of}
use Rattle.script_phases.specs.Openings.{Phase}
use Rattle.bus_script.specs.declared.outcome.LineResult.{LineResult}
use Rattle.bus_model.specs.Run.{Carried, Known, AskedOf, known_or, ended_as, modified_by, source_of, sources_from, outcome_at, outcomes_in, nth_of, told_by}
use Rattle.bus_plan.specs.Endings.{AreEnded, outcome_left}
use Rattle.bus_plan.specs.Outcomes.{AreTold, AreLeft, HasNext, HasOutcomes, MovesOn, TakesOne, Tells}
use Rattle.bus_plan.specs.declared.ending.Ending.{Ending}
use Rattle.bus_plan.specs.declared.ending.Ending.TheVariants.{Rescinded, Closed}
use Rattle.bus_plan.specs.Heard.{AllBelow}
use Rattle.bus_plan.proofs.Hearing.{told_taken, told_cut, below_at}

-- outcomes, one after the other

pub tells_join : (xs ys : List (Option LineResult)) (a b c : List LineResult) → Tells xs a b → Tells ys b c → Tells (xs ++ ys) a c
tells_join xs ys a b c one two = record {
  told = one.told ++ two.told;
  more = two.more ∙ (ap (λ l. l ++ two.told) one.more ∙ append_assoc a one.told two.told);
  each = map-append (λ r. Some r) one.told two.told ∙ (ap (λ l. l ++ map (λ r. Some r) two.told) one.each ∙ ap (λ l. xs ++ l) two.each);
}

pub tells_none : (results : List LineResult) → Tells [] results results
tells_none results = record { told = []; more = sym (append-nil results); each = refl }

pub tells_one : (o : Option LineResult) (r : LineResult) (old new : List LineResult) → o ≡ Some r → new ≡ old ++ r ∷ [] → Tells (o ∷ []) old new
tells_one o r old new is grown = record { told = r ∷ []; more = grown; each = ap (λ x. x ∷ []) (sym is) }

-- the outcome of a request
pub told_asked : (p : Phase) (channels : List Carried) (before : List Line) (ended : List (Option Ending)) (outcomes outcomes' : List (List (List LineResult))) (what : What) (device : ℕ) (o : Option Ending) (r : LineResult) (old new : List LineResult)
    → source_of p before what ≡ known_or (ended_as device p.earlier) (AskedOf device (length (asks_of device before))) ∷ []
    → AreEnded p.earlier ended → AreLeft p channels ended before outcomes → device < length ended → o ≡ slice_index_or ended device None → TakesOne (outcome_left o) device outcomes r outcomes' → new ≡ old ++ r ∷ []
    → Tells (map (outcome_at p channels) (source_of p before what)) old new
told_asked p channels before ended outcomes outcomes' what device o r old new source are left less ending takes grown =
    let here : outcome_left o ≡ ended_as device p.earlier = ap outcome_left ending ∙ are device less in
    let value : outcome_at p channels (known_or (ended_as device p.earlier) (AskedOf device (length (asks_of device before)))) ≡ Some r =
    subst (λ e. outcome_at p channels (known_or e (AskedOf device (length (asks_of device before)))) ≡ Some r) here (by_ending o ending takes) in
    subst (λ l. Tells (map (outcome_at p channels) l) old new) (sym source) (tells_one _ r old new value grown)
  where
    by_ending : (o : Option Ending) → o ≡ slice_index_or ended device None → TakesOne (outcome_left o) device outcomes r outcomes' → outcome_at p channels (known_or (outcome_left o) (AskedOf device (length (asks_of device before)))) ≡ Some r
    by_ending None none takes =
        let now : length (asks_of device before) + 0 ≡ length (asks_of device before) = omega arith in
        sym (left device less (sym none) 0 ∙ ap (nth_of (told_by p channels device)) now) ∙ takes.2.first
    by_ending (Some Rescinded) is takes = ap (λ x. Some x) (sym takes.0)
    by_ending (Some Closed) is takes = ap (λ x. Some x) (sym takes.0)

-- the outcome of a line that moves a device's interrupts
pub told_moved : (p : Phase) (channels : List Carried) (before : List Line) (ended : List (Option Ending)) (what : What) (device vp version : ℕ) (o : Option Ending) (r : LineResult) (old new : List LineResult)
    → source_of p before what ≡ known_or (ended_as device p.earlier) (Known (modified_by p.version vp)) ∷ []
    → p.version ≡ version → AreEnded p.earlier ended → device < length ended → o ≡ slice_index_or ended device None → r ≡ unwrap_or (outcome_left o) (modified_by version vp) → new ≡ old ++ r ∷ []
    → Tells (map (outcome_at p channels) (source_of p before what)) old new
told_moved p channels before ended what device vp version o r old new source same are less ending is grown =
    let here : ended_as device p.earlier ≡ outcome_left o = sym (ap outcome_left ending ∙ are device less) in
    let value : outcome_at p channels (known_or (ended_as device p.earlier) (Known (modified_by p.version vp))) ≡ Some r =
    ap (λ e. outcome_at p channels (known_or e (Known (modified_by p.version vp)))) here ∙ ap (λ v. outcome_at p channels (known_or (outcome_left o) (Known (modified_by v vp)))) same
    ∙ by_left (outcome_left o) ∙ ap (λ x. Some x) (sym is) in
    subst (λ l. Tells (map (outcome_at p channels) l) old new) (sym source) (tells_one _ r old new value grown)
  where
    by_left : (o : Option LineResult) → outcome_at p channels (known_or o (Known (modified_by version vp))) ≡ Some (unwrap_or o (modified_by version vp))
    by_left None = refl
    by_left (Some result) = refl

-- what is left behind a line that asks nothing
pub moves_none : (what : What) (ended : List (Option Ending)) (outcomes : List (List (List LineResult))) → ((k : ℕ) → flat_map asked (heard_by k (said what)) ≡ []) → MovesOn what ended outcomes outcomes
moves_none what ended outcomes none = record {
  count = refl;
  each = λ k less still n. let zero_more : n ≡ length (flat_map asked (heard_by k (said what))) + n = omega (arith, ap length (none k)) in ap (nth_of (slice_index_or outcomes k [])) zero_more;
}

-- line by line

sources_push : (p : Phase) (before part : List Line) (l : Line) → sources_from p before (part ++ l ∷ []) ≡ sources_from p before part ++ source_of p (before ++ part) l.what
sources_push p before [] l = append-nil (source_of p before l.what) ∙ ap (λ b. source_of p b l.what) (sym (append-nil before))
sources_push p before (m ∷ part) l =
    ap (λ s. source_of p before m.what ++ s) (sources_push p (before ++ m ∷ []) part l ∙ ap (λ b. sources_from p (before ++ m ∷ []) part ++ source_of p b l.what) (append_assoc before (m ∷ []) part))
    ∙ sym (append_assoc (source_of p before m.what) (sources_from p (before ++ m ∷ []) part) (source_of p (before ++ m ∷ part) l.what))

-- the first lines are told
pub record ToldSoFar (version : ℕ) (ended : List (Option Ending)) (outcomes : List (List (List LineResult))) (part : List Line) (i : ℕ) (old new : List LineResult) (left : List (List (List LineResult))) : Type 0 where
  pub tells : (p : Phase) (channels : List Carried) → p.version ≡ version → p.part ≡ part → AreEnded p.earlier ended → AreTold p channels (length ended) outcomes → Tells (map (outcome_at p channels) (sources_from p [] (take i part))) old new
  pub long : length left ≡ length outcomes
  pub ahead : (k : ℕ) → k < length ended → slice_index_or ended k None ≡ None → (n : ℕ) → nth_of (slice_index_or left k []) n ≡ nth_of (slice_index_or outcomes k []) (length (asks_of k (take i part)) + n)

pub told_start : (version : ℕ) (ended : List (Option Ending)) (outcomes : List (List (List LineResult))) (part : List Line) (results : List LineResult) → ToldSoFar version ended outcomes part 0 results results outcomes
told_start version ended outcomes part results = record {
  tells = λ p channels version is are told. tells_none results;
  long = refl;
  ahead = λ k less none n. let same : n ≡ length (asks_of k (take 0 part)) + n = omega arith in ap (nth_of (slice_index_or outcomes k [])) same;
}

pub told_more : (version : ℕ) (ended : List (Option Ending)) (outcomes : List (List (List LineResult))) (part : List Line) (i : ℕ) (line : Line) (old mid new : List LineResult) (left left' : List (List (List LineResult))) → length outcomes ≡ length ended → ToldSoFar version ended outcomes part i old mid left
    → i < length part → line ≡ get_or part i line
    → ((p : Phase) (channels : List Carried) (before : List Line) → p.version ≡ version → AreEnded p.earlier ended → AreLeft p channels ended before left → Tells (map (outcome_at p channels) (source_of p before line.what)) mid new)
    → MovesOn line.what ended left left' → ToldSoFar version ended outcomes part (i + 1) old new left'
told_more version ended outcomes part i line old mid new left left' devices so_far less is one on =
    let taken : take (i + 1) part ≡ take i part ++ line ∷ [] = take_more part i line less ∙ ap (λ x. take i part ++ x ∷ []) (sym is) in
    record {
      tells = λ p channels agreed same are told.
          let sources : sources_from p [] (take (i + 1) part) ≡ sources_from p [] (take i part) ++ source_of p (take i part) line.what = ap (sources_from p []) taken ∙ sources_push p [] (take i part) line in
          let all : map (outcome_at p channels) (sources_from p [] (take (i + 1) part)) ≡ map (outcome_at p channels) (sources_from p [] (take i part)) ++ map (outcome_at p channels) (source_of p (take i part) line.what) =
          ap (map (outcome_at p channels)) sources ∙ map-append (outcome_at p channels) (sources_from p [] (take i part)) (source_of p (take i part) line.what) in
          let here : AreLeft p channels ended (take i part) left = λ k within none n. so_far.ahead k within none n ∙ ap (λ l. nth_of l (length (asks_of k (take i part)) + n)) (told k within) in
          subst (λ l. Tells l old new) (sym all) (tells_join _ _ old mid new (so_far.tells p channels agreed same are told) (one p channels (take i part) agreed are here));
      long = on.count ∙ so_far.long;
      ahead = λ k within none n.
          let heard = length (flat_map asked (heard_by k (said line.what))) in
          let more : length (asks_of k (take (i + 1) part)) ≡ length (asks_of k (take i part)) + heard = ap length (told_taken asked k part i line less is) ∙ length-append (asks_of k (take i part)) (flat_map asked (heard_by k (said line.what))) in
          let along : length (asks_of k (take i part)) + (heard + n) ≡ length (asks_of k (take (i + 1) part)) + n = omega (arith, more) in
          on.each k (omega (arith, within, so_far.long, devices)) none n ∙ (so_far.ahead k within none (heard + n) ∙ ap (nth_of (slice_index_or outcomes k [])) along);
    }

pub told_end : (version : ℕ) (ended : List (Option Ending)) (outcomes : List (List (List LineResult))) (part : List Line) (i : ℕ) (old new : List LineResult) (left : List (List (List LineResult))) → ToldSoFar version ended outcomes part i old new left → length part ≤ i
    → (p : Phase) (channels : List Carried) → p.version ≡ version → p.part ≡ part → AreEnded p.earlier ended → AreTold p channels (length ended) outcomes → Tells (outcomes_in p channels) old new
told_end version ended outcomes part i old new left so_far over p channels agreed is are told =
    let whole : take i part ≡ p.part = take_all i part over ∙ sym is in
    subst (λ l. Tells (map (outcome_at p channels) (sources_from p [] l)) old new) whole (so_far.tells p channels agreed is are told)

-- the request of a line has an outcome, where each request of the phase has one

some_asked : (s : Says) (k : ℕ) → (asked s ≡ [] → ⊥) → 1 ≤ length (flat_map asked (heard_by k (Some (k, s))))
some_asked (Asks ask) k some = let own : (k == k) ≡ true = grind (arith, nat_tests) in omega (arith, ap (λ b. length (flat_map asked (cond b (Asks ask ∷ []) []))) own)
some_asked (Rescinds after held) k some = absurd (some refl)
some_asked Shuts k some = absurd (some refl)
some_asked (Modifies vp) k some = absurd (some refl)

pub has_next : (version : ℕ) (ended : List (Option Ending)) (outcomes : List (List (List LineResult))) (part : List Line) (i : ℕ) (line : Line) (old new : List LineResult) (left : List (List (List LineResult))) → ToldSoFar version ended outcomes part i old new left → HasOutcomes part ended outcomes
    → AllBelow (length ended) part → i < length part → line ≡ get_or part i line → HasNext ended left line.what
has_next version ended outcomes part i line old new left so_far has below less is = by_said (said line.what) refl (below_at (length ended) part i line below less is)
  where
    by_said : (o : Option (ℕ × Says)) → said line.what ≡ o → IfSome o (λ s. s.0 < length ended)
        → IfSome o (λ s. (asked s.1 ≡ [] → ⊥) → slice_index_or ended s.0 None ≡ None → is_some (nth_of (slice_index_or left s.0 []) 0) ≡ true)
    by_said None says within = tt
    by_said (Some s) says within = λ some none.
        let k = s.0 in
        let here = some_asked s.1 k some in
        let heard : length (flat_map asked (heard_by k (said line.what))) ≡ length (flat_map asked (heard_by k (Some (k, s.1)))) = ap (λ o. length (flat_map asked (heard_by k o))) says in
        let cut = ap length (told_cut asked k part i line less is) in
        let rest : List Ask = flat_map asked (said_to k (drop (i + 1) part)) in
        let sizes = length-append (asks_of k (take i part)) (flat_map asked (heard_by k (said line.what)) ++ rest) in
        let more = length-append (flat_map asked (heard_by k (said line.what))) rest in
        let low : length (asks_of k (take i part)) + 0 < length (asks_of k part) = omega (arith, here, heard, cut, sizes, more) in
        ap is_some (so_far.ahead k within none 0) ∙ has k within none (length (asks_of k (take i part)) + 0) low
