-- A device's lines, one after the other.
use Rattle.std.proofs.Common.{◌≡◌, ℕ, ◌+◌, ◌<◌, ◌≤◌, ◌==◌, Bool, true, false, cond, ◌||◌, List, [], ◌∷◌, ◌++◌, length, map, take, drop, get_or, refl, ap, sym, ◌∙◌, subst, arith, inl, inr, Option, Some, None}
use Rattle.std.specs.Prelude.{is_some, slice_get, slice_set}
use Rattle.std.specs.Option.{option_or}
use Rattle.std.specs.List.{flat_map, list_any}
use Rattle.std.proofs.Math.ListN.{length-set}
use Rattle.std.proofs.lemmas.List.{append-nil, map-append, take_all, drop_all, get_or_default, get_or-set_same, get_or-set_other}
use Rattle.std.proofs.lemmas.List.Folds.{list_any-append}
use Rattle.std.proofs.lemmas.Grind.{flat_map-append}
use Rattle.std.proofs.lemmas.Bool.{cases_eq}
use Rattle.std.proofs.lemmas.Bool.Decides.{nat_tests}
use Rattle.chan_state.specs.declared.stop.Stop.{Stop}
use Rattle.script_lines.specs.declared.line.Line.{Line}
use Rattle.script_lines.specs.declared.line.What.{What}
use Rattle.script_lines.specs.Lines.{Says, Asks, Rescinds, Shuts, Modifies, said, is_rescind, is_close}
use Rattle.script_phases.specs.Says.{heard_by, said_to, asked, stops, moves}
use Rattle.phase_plan.specs.declared.device_lines.DeviceLines.{DeviceLines}
use Rattle.phase_plan.specs.Told.{IsTold, AreDealt, DealsOn, stop_told}
use Rattle.phase_plan.proofs.Hearing.{said_taken}

-- the first of two lists
first_of : {X : Type 0} (xs ys : List X) → slice_get (xs ++ ys) 0 ≡ option_or (slice_get xs 0) (slice_get ys 0)
first_of [] ys = refl
first_of (x ∷ xs) ys = refl

pub none_first : {X : Type 0} (o : Option X) → option_or o None ≡ o
none_first None = refl
none_first (Some x) = refl

pub stop_or : (o : Option Stop) (s : Stop) → stop_told (option_or o (Some s)) ≡ option_or (stop_told o) (Some (s.after, s.held))
stop_or None s = refl
stop_or (Some x) s = refl

pub or_false : (b : Bool) → (b || false) ≡ b
or_false true = refl
or_false false = refl

pub or_true : (b : Bool) → (b || true) ≡ true
or_true true = refl
or_true false = refl

pub map_push : {X Y : Type 0} (f : X → Y) (xs ys : List X) (x : X) → ys ≡ xs ++ x ∷ [] → map f ys ≡ map f xs ++ f x ∷ []
map_push f xs ys x e = ap (map f) e ∙ map-append f xs (x ∷ [])

-- a list that is written over whole
pub written : {X : Type 0} (n : ℕ) (xs new : List X) → n ≡ length xs → length new ≡ length xs → take n (new ++ drop (length new) xs) ≡ new
written n xs new long same = ap (λ l. take n (new ++ l)) (drop_all (length new) xs (omega (arith, same))) ∙ ap (take n) (append-nil new) ∙ take_all n new (omega (arith, long, same))

-- with one more
more_of : {X : Type 0} (f : Says → List X) (ss : List Says) (s : Says) → flat_map f (ss ++ s ∷ []) ≡ flat_map f ss ++ f s
more_of f ss s = flat_map-append f ss (s ∷ []) ∙ ap (λ l. flat_map f ss ++ l) (append-nil (f s))

first_more : {X : Type 0} (f : Says → List X) (ss : List Says) (s : Says) (o : Option X) → o ≡ slice_get (flat_map f ss) 0 → option_or o (slice_get (f s) 0) ≡ slice_get (flat_map f (ss ++ s ∷ [])) 0
first_more f ss s o is = ap (λ o. option_or o (slice_get (f s) 0)) is ∙ sym (ap (λ l. slice_get l 0) (more_of f ss s) ∙ first_of (flat_map f ss) (f s))

named_more : (ss : List Says) (s : Says) → true ≡ is_some (slice_get (ss ++ s ∷ []) 0)
named_more [] s = refl
named_more (x ∷ ss) s = refl

pub told_more : (ss : List Says) (s : Says) (d e : DeviceLines) → IsTold ss d → map (λ a. a.now) e.asks.items ≡ map (λ a. a.now) d.asks.items ++ asked s → stop_told e.stop ≡ option_or (stop_told d.stop) (slice_get (stops s) 0)
    → e.is_closed ≡ (d.is_closed || is_close s) → e.vp ≡ option_or d.vp (slice_get (moves s) 0) → e.is_named ≡ true → IsTold (ss ++ s ∷ []) e
told_more ss s d e told asks stop closed vp named = record {
  asks = asks ∙ ap (λ l. l ++ asked s) told.asks ∙ sym (more_of asked ss s);
  stop = stop ∙ first_more stops ss s (stop_told d.stop) told.stop;
  closed = closed ∙ ap (λ b. b || is_close s) told.closed ∙ sym (list_any-append is_close ss (s ∷ []) ∙ ap (λ b. list_any is_close ss || b) (or_false (is_close s)));
  vp = vp ∙ first_more moves ss s d.vp told.vp;
  named = named ∙ named_more ss s;
}

-- the phase rescinds a device just where its service stops
stopped : (o : Option Stop) → is_some o ≡ is_some (stop_told o)
stopped None = refl
stopped (Some s) = refl

some_stop : (ss : List Says) → is_some (slice_get (flat_map stops ss) 0) ≡ list_any is_rescind ss
some_stop [] = refl
some_stop (Asks ask ∷ ss) = some_stop ss
some_stop (Rescinds after held ∷ ss) = refl
some_stop (Shuts ∷ ss) = some_stop ss
some_stop (Modifies vp ∷ ss) = some_stop ss

pub rescinded_is : (ss : List Says) (d : DeviceLines) → IsTold ss d → is_some d.stop ≡ list_any is_rescind ss
rescinded_is ss d told = stopped d.stop ∙ ap is_some told.stop ∙ some_stop ss

-- one line more, of all devices

pub deals_none : (what : What) (ds : List DeviceLines) → ((k : ℕ) → k < length ds → heard_by k (said what) ≡ []) → DealsOn what ds ds
deals_none what ds none = record {
  count = refl;
  each = λ k d ss below told. subst (λ l. IsTold l (get_or ds k d)) (sym (ap (λ l. ss ++ l) (none k below) ∙ append-nil ss)) told;
}

heard_other : (k at : ℕ) (s : Says) → (at == k) ≡ false → heard_by k (Some (at, s)) ≡ []
heard_other k at s other = ap (λ b. cond b (s ∷ []) []) other

pub deals_past : (what : What) (ds : List DeviceLines) (at : ℕ) (s : Says) → said what ≡ Some (at, s) → length ds ≤ at → DealsOn what ds ds
deals_past what ds at s says past = deals_none what ds (λ k below. ap (heard_by k) says ∙ heard_other k at s (grind (arith, nat_tests, past, below)))

pub deals_here : (what : What) (ds : List DeviceLines) (at : ℕ) (s : Says) (old new : DeviceLines) → said what ≡ Some (at, s) → at < length ds → old ≡ get_or ds at old → ((ss : List Says) → IsTold ss old → IsTold (ss ++ s ∷ []) new)
    → DealsOn what ds (slice_set ds at new)
deals_here what ds at s old new says less is on = record {
  count = length-set ds at new;
  each = λ k d ss below told.
      elim (cases_eq k at) [
        | inl e ↦
            let own : (at == k) ≡ true = grind (arith, nat_tests, e) in
            let heard : heard_by k (said what) ≡ s ∷ [] = ap (heard_by k) says ∙ ap (λ b. cond b (s ∷ []) []) own in
            let was : get_or ds k d ≡ old = ap (λ j. get_or ds j d) e ∙ get_or_default ds at d old less ∙ sym is in
            let now : get_or (slice_set ds at new) k d ≡ new = ap (λ j. get_or (slice_set ds at new) j d) e ∙ get_or-set_same ds at new d less in
            subst (IsTold (ss ++ heard_by k (said what))) (sym now) (subst (λ l. IsTold (ss ++ l) new) (sym heard) (on ss (subst (IsTold ss) was told)))
        | inr ne ↦
            let other : (at == k) ≡ false = grind (arith, nat_tests, ne) in
            let none : ss ++ heard_by k (said what) ≡ ss = ap (λ l. ss ++ l) (ap (heard_by k) says ∙ heard_other k at s other) ∙ append-nil ss in
            subst (IsTold (ss ++ heard_by k (said what))) (sym (get_or-set_other ds at k new d ne)) (subst (λ l. IsTold l (get_or ds k d)) (sym none) told)
      ];
}

pub dealt_next : (part : List Line) (i : ℕ) (line : Line) (old new : List DeviceLines) → i < length part → line ≡ get_or part i line → AreDealt (take i part) old → DealsOn line.what old new → AreDealt (take (i + 1) part) new
dealt_next part i line old new less is dealt on k d below =
    let within : k < length old = omega (arith, below, on.count) in
    subst (λ ss. IsTold ss (get_or new k d)) (sym (said_taken k part i line less is)) (on.each k d (said_to k (take i part)) within (dealt k d within))
