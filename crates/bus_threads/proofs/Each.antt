-- Pairs that ran, in order.
use Rattle.std.proofs.Common.{◌≡◌, List, [], ◌∷◌, ◌++◌, Option, Some, None, ap, sym, ◌∙◌, subst}
use Rattle.std.proofs.lemmas.List.{append-nil}
use Rattle.std.proofs.lemmas.List.Elements.{filter_map-append}
use Rattle.bus_threads.specs.Pairs.{Pairing, RunsPair, EachRuns, present}
use Rattle.bus_threads.specs.declared.pair.PairDone.{PairDone}

-- one more at the end
more : (ps : List Pairing) (ds : List PairDone) (p : Pairing) (d : PairDone) → EachRuns ps ds → RunsPair p d → EachRuns (ps ++ p ∷ []) (ds ++ d ∷ [])
more [] [] p d each runs = (runs, tt)
more [] (e ∷ ds) p d each runs = absurd each
more (q ∷ ps) [] p d each runs = absurd each
more (q ∷ ps) (e ∷ ds) p d each runs = (each.0, more ps ds p d each.1 runs)

pub each_more : (all ps : List Pairing) (ds out : List PairDone) (p : Pairing) (d : PairDone) → all ≡ ps ++ p ∷ [] → out ≡ ds ++ d ∷ [] → EachRuns ps ds → RunsPair p d → EachRuns all out
each_more all ps ds out p d is out_is each runs = subst (λ l. EachRuns l out) (sym is) (subst (λ l. EachRuns (ps ++ p ∷ []) l) (sym out_is) (more ps ds p d each runs))

-- one more place at the end, which has a pair or is blank
pub present_more : (all places : List (Option Pairing)) (p : Pairing) → all ≡ places ++ Some p ∷ [] → present all ≡ present places ++ p ∷ []
present_more all places p is = ap present is ∙ filter_map-append (λ (o : Option Pairing). o) places (Some p ∷ [])

pub present_blank : (all places : List (Option Pairing)) → all ≡ places ++ None ∷ [] → present all ≡ present places
present_blank all places is = ap present is ∙ filter_map-append (λ (o : Option Pairing). o) places (None ∷ []) ∙ append-nil (present places)
