-- The devices of a script, and its phases one after the other.
use Rattle.vmbus_msg.specs.declared.msg.Msg.{Msg}
use Rattle.std.proofs.Common.{◌≡◌, ℕ, zero, suc, ◌+◌, ◌*◌, ◌<◌, ◌≤◌, Bool, true, false, cond, nat_lt, replicate, List, [], ◌∷◌, ◌++◌, length, length-append, append_assoc, take, drop, get_or, refl, ap, sym, ◌∙◌, subst, arith, inl, inr, Option, Some, None, slice_index_or}
use Rattle.std.specs.Prelude.{map, All, MatchOption, ⊤, is_some, IsTrue, ◌↔◌}
use Rattle.std.proofs.lemmas.Bool.{cases_eq}
use Rattle.std.proofs.lemmas.Bool.Decides.{nat_tests}
use Rattle.std.specs.List.{slice_split, onto_first, flat_map, AllByRecursion}
use Rattle.std.proofs.lemmas.List.{take_more, drop_more, take_all, append-nil, map-append, length-map, drop-drop, length-drop, length-replicate, get_or-replicate}
use Rattle.std.proofs.lemmas.List.Elements.{All-push}
use Rattle.std.proofs.lemmas.Grind.{flat_map-append}
use Rattle.script_lines.specs.declared.line.Line.{Line}
use Rattle.script_lines.specs.declared.line.DeviceSpec.{DeviceSpec}
use Rattle.bus_script.specs.declared.outcome.LineResult.{LineResult}
use Rattle.script_lines.specs.Parts.{parts, ends_part, offered, offered_by, bads_of}
use Rattle.script_lines.specs.WellFormed.{AllRight, AllGo, IsRight, IsScript}
use Rattle.script_lines.specs.declared.line.What.{What}
use Rattle.script_lines.specs.declared.line.What.TheVariants.{Offer as IsOffer}
use Rattle.script_lines.specs.declared.line.DeviceSpec.TheVariants.{Disk as IsDisk}
use Rattle.bus_model.proofs.Lists.{each_append}
use Rattle.contact.specs.declared.version.Version.{Version}
use Rattle.script_phases.specs.Agreed.{agreed_in}
use Rattle.phase_plan.specs.Opened.{parts_left}
use Rattle.script_phases.specs.Openings.{Phase, by_relid, subs_of, is_opened, opened_from, others, phases_from, phases}
use Rattle.control_model.specs.Plan.{phase_of}
use Rattle.control_model.specs.Openings.{plan_of}
use Rattle.control_path.specs.Told.{IsSaidToStart}
use Rattle.device_kinds.specs.Logs.{EachHistory, IsHistory, log_of}
use Rattle.device_kinds.specs.Logs.{Recorded}
use Rattle.bus_model.specs.Run.{PhaseRuns, RunsOf, over, then_on, IsBusRun}
use Rattle.bus_model.specs.declared.channel_run.ChannelRun.{ChannelRun}
use Rattle.device_kinds.specs.declared.history.DeviceHistory.{DeviceHistory}
use Rattle.bus_plan.specs.Endings.{AreEnded, outcome_left}
use Rattle.bus_plan.specs.declared.ending.Ending.{Ending}
use Rattle.bus_run.specs.declared.runner.Runner.{Runner}
use Rattle.scsi_disk.specs.DiskModel.{DiskState}
use Rattle.bus_run.specs.Devices.{IsReady}
use Rattle.device_any.specs.Boxes.{IsFresh, IsKept, box_log, setup_for, setup_of, spec_of}
use Rattle.device_any.specs.declared.device_box.DeviceBox.{DeviceBox}
use Rattle.bus_run.specs.Opened.{AllRanAsSet, HaveWorked, IsPlanned}
use Rattle.bus_run.specs.Settings.{SettingsOf}
use Rattle.bus_run.specs.Whole.{IsThis, PhaseRan, AreFresh, setups_from, specs_of, earlier_lines, next_relid, RunsSoFar}
use Rattle.bus_run.proofs.OpenedAs.{ran_more}
use Rattle.bus_run.proofs.Told.{TellsPlanned, all_planned}

-- new devices

setups_push : (lines : List Line) (device at : ℕ) (kinds : List DeviceSpec) (k : DeviceSpec) → at ≡ device + length kinds → setups_from lines device (kinds ++ k ∷ []) ≡ setups_from lines device kinds ++ setup_for k (bads_of at lines) ∷ []
setups_push lines device at [] k is = let here : device ≡ at = omega (arith, is) in ap (λ n. setup_for k (bads_of n lines) ∷ []) here
setups_push lines device at (j ∷ kinds) k is = ap (λ l. setup_for j (bads_of device lines) ∷ l) (setups_push lines (device + 1) at kinds k (omega (arith, is)))

pub fresh_more : (lines : List Line) (kinds : List DeviceSpec) (boxes new : List DeviceBox) (spec : DeviceSpec) (bad : List ℕ) (box : DeviceBox) → AreFresh lines kinds boxes → bad ≡ bads_of (length boxes) lines → IsFresh spec bad box → new ≡ boxes ++ box ∷ []
    → AreFresh lines (kinds ++ spec ∷ []) new
fresh_more lines kinds boxes new spec bad box old places fresh is =
    let long : length boxes ≡ 0 + length kinds = omega (arith, length-map boxes spec_of, ap length old.kinds_are) in
    subst (AreFresh lines (kinds ++ spec ∷ [])) (sym is) (record {
      kinds_are = map-append spec_of boxes (box ∷ []) ∙ ap (λ l. l ++ spec_of box ∷ []) old.kinds_are ∙ ap (λ k. kinds ++ k ∷ []) fresh.spec_is;
      setups_are = map-append setup_of boxes (box ∷ []) ∙ ap (λ l. l ++ setup_of box ∷ []) old.setups_are ∙ ap (λ s. setups_from lines 0 kinds ++ s ∷ []) (fresh.setup ∙ ap (setup_for spec) places) ∙ sym (setups_push lines 0 (length boxes) kinds spec long);
      logs = map-append box_log boxes (box ∷ []) ∙ ap (λ l. l ++ box_log box ∷ []) old.logs ∙ ap (λ k. map (λ k. []) kinds ++ k ∷ []) fresh.log ∙ sym (map-append (λ k. []) kinds (spec ∷ []));
      ready = All-push (IsReady 0) boxes box old.ready (record { kept = fresh.kept; few = omega (arith, ap length fresh.log) });
    })

pub offered_taken : (lines : List Line) (i : ℕ) (line : Line) → i < length lines → line ≡ get_or lines i line → offered (take (i + 1) lines) ≡ offered (take i lines) ++ offered_by line.what
offered_taken lines i line less is =
    ap offered (take_more lines i line less ∙ ap (λ x. take i lines ++ x ∷ []) (sym is))
    ∙ flat_map-append (λ l. offered_by l.what) (take i lines) (line ∷ [])
    ∙ ap (λ l. offered (take i lines) ++ l) (append-nil (offered_by line.what))

-- histories at the end

-- each history is its device's
abbrev pub EachTells : List DeviceBox → List DeviceHistory → Type 0
EachTells [] [] = Unit {0}
EachTells [] (h ∷ histories) = ⊥
EachTells (d ∷ boxes) [] = ⊥
EachTells (d ∷ boxes) (h ∷ histories) = ((bad : List ℕ) → setup_of d ≡ setup_for (spec_of d) bad → IsHistory (spec_of d) bad h) × EachTells boxes histories

tells_push : (boxes : List DeviceBox) (histories : List DeviceHistory) (d : DeviceBox) (h : DeviceHistory) → EachTells boxes histories → ((bad : List ℕ) → setup_of d ≡ setup_for (spec_of d) bad → IsHistory (spec_of d) bad h) → EachTells (boxes ++ d ∷ []) (histories ++ h ∷ [])
tells_push [] [] d h each one = (one, tt)
tells_push [] (g ∷ histories) d h each one = absurd each
tells_push (e ∷ boxes) [] d h each one = absurd each
tells_push (e ∷ boxes) (g ∷ histories) d h each one = (each.0, tells_push boxes histories d h each.1 one)

each_history : (lines : List Line) (device : ℕ) (boxes : List DeviceBox) (histories : List DeviceHistory) → EachTells boxes histories → map setup_of boxes ≡ setups_from lines device (map spec_of boxes) → EachHistory lines device (map spec_of boxes) histories
each_history lines device [] [] each are = tt
each_history lines device [] (h ∷ histories) each are = absurd each
each_history lines device (d ∷ boxes) [] each are = absurd each
each_history lines device (d ∷ boxes) (h ∷ histories) each are =
    (each.0 (bads_of device lines) (ap (λ (l : List (Option DiskState)). get_or l 0 None) are), each_history lines (device + 1) boxes histories each.1 (ap (λ (l : List (Option DiskState)). drop 1 l) are))

-- the histories of the first devices
pub record HistoriesSoFar (i : ℕ) (old : List DeviceBox) (histories : List DeviceHistory) : Type 0 where
  pub logs : map log_of histories ≡ map box_log (take i old)
  pub legal : EachTells (take i old) histories

pub history_more : (old left rest : List DeviceBox) (histories histories' : List DeviceHistory) (box : DeviceBox) (h : DeviceHistory) → HistoriesSoFar (length histories) old histories → left ≡ drop (length histories) old → left ≡ box ∷ rest → log_of h ≡ box_log box
    → ((bad : List ℕ) → setup_of box ≡ setup_for (spec_of box) bad → IsHistory (spec_of box) bad h) → histories' ≡ histories ++ h ∷ [] → HistoriesSoFar (length histories') old histories' × (rest ≡ drop (length histories') old)
history_more old left rest histories histories' box h so_far left_is next log legal grown =
    let i = length histories in
    let less : i < length old = omega (arith, length-drop i old, ap length left_is, ap length next) in
    let both : box ∷ rest ≡ get_or old i box ∷ drop (i + 1) old = sym next ∙ left_is ∙ drop_more old i box less in
    let here : box ≡ get_or old i box = ap (λ (l : List DeviceBox). get_or l 0 box) both in
    let taken : take (i + 1) old ≡ take i old ++ box ∷ [] = take_more old i box less ∙ ap (λ (d : DeviceBox). take i old ++ d ∷ []) (sym here) in
    let long : length histories' ≡ i + 1 = omega (arith, ap length grown, length-append histories (h ∷ [])) in (
      subst (λ n. HistoriesSoFar n old histories') (sym long)
          (subst (HistoriesSoFar (i + 1) old) (sym grown) (record {
            logs = map-append log_of histories (h ∷ []) ∙ ap (λ l. l ++ log_of h ∷ []) so_far.logs ∙ ap (λ x. map box_log (take i old) ++ x ∷ []) log ∙ sym (ap (map box_log) taken ∙ map-append box_log (take i old) (box ∷ []));
            legal = subst (λ l. EachTells l (histories ++ h ∷ [])) (sym taken) (tells_push (take i old) histories box h so_far.legal legal);
          })),
      ap (λ (l : List DeviceBox). drop 1 l) both ∙ ap (λ n. drop n old) (sym long),
    )

-- the device that is left first is one of them
pub kept_next : (old left rest : List DeviceBox) (i : ℕ) (box : DeviceBox) → All IsKept old → left ≡ drop i old → left ≡ box ∷ rest → IsKept box
kept_next old left rest i box kept left_is next =
    let less : i < length old = omega (arith, length-drop i old, ap length left_is, ap length next) in
    let both : box ∷ rest ≡ get_or old i box ∷ drop (i + 1) old = sym next ∙ left_is ∙ drop_more old i box less in
    subst IsKept (sym (ap (λ (l : List DeviceBox). get_or l 0 box) both)) (kept i box less)

pub histories_end : (i : ℕ) (old : List DeviceBox) (histories : List DeviceHistory) → HistoriesSoFar i old histories → length old ≤ i
    → (map log_of histories ≡ map box_log old) × ((lines : List Line) → map setup_of old ≡ setups_from lines 0 (map spec_of old) → EachHistory lines 0 (map spec_of old) histories)
histories_end i old histories so_far done =
    let whole : take i old ≡ old = take_all i old done in (
      so_far.logs ∙ ap (map box_log) whole,
      λ lines are. each_history lines 0 old histories (subst (λ l. EachTells l histories) whole so_far.legal) are,
    )

-- lines of a phase

pub right_drop : (kinds : List DeviceSpec) (n : ℕ) (lines : List Line) → AllRight kinds lines → AllRight kinds (drop n lines)
right_drop kinds zero lines right = right
right_drop kinds (suc n) [] right = tt
right_drop kinds (suc n) (l ∷ lines) right = right_drop kinds n lines right.1

pub right_take : (kinds : List DeviceSpec) (n : ℕ) (lines : List Line) → AllRight kinds lines → AllRight kinds (take n lines)
right_take kinds zero lines right = tt
right_take kinds (suc n) [] right = tt
right_take kinds (suc n) (l ∷ lines) right = (right.0, right_take kinds n lines right.1)

pub go_drop : (n : ℕ) (lines : List Line) → AllGo lines → AllGo (drop n lines)
go_drop zero lines go = go
go_drop (suc n) [] go = tt
go_drop (suc n) (l ∷ lines) go = go_drop n lines go.1

pub go_take : (n : ℕ) (lines : List Line) → AllGo lines → AllGo (take n lines)
go_take zero lines go = tt
go_take (suc n) [] go = tt
go_take (suc n) (l ∷ lines) go = (go.0, go_take n lines go.1)

-- phases

one_more : (b : Bool) (l : Line) (ps : List (List Line)) (n : ℕ) → 1 ≤ length ps → length ps ≤ n + 1 → (1 ≤ length (cond b ([] ∷ ps) (onto_first l ps))) × (length (cond b ([] ∷ ps) (onto_first l ps)) ≤ suc n + 1)
one_more true l ps n some few = (omega arith, omega (arith, few))
one_more false l [] n some few = absurd (omega (arith, some))
one_more false l (p ∷ ps) n some few = (omega arith, omega (arith, few))

pub count_parts : (lines : List Line) → (1 ≤ length (parts lines)) × (length (parts lines) ≤ length lines + 1)
count_parts [] = (omega arith, omega arith)
count_parts (l ∷ lines) = one_more (ends_part l) l (slice_split ends_part lines) (length lines) (count_parts lines).0 (count_parts lines).1

-- a phase is left exactly where the next one begins somewhere
pub next_is : (lines : List Line) (phase : ℕ) (next : Option ℕ) → parts_left lines next ≡ drop phase (parts lines) → is_some next ≡ nat_lt phase (length (parts lines))
next_is lines phase None left =
    let over : length (drop phase (parts lines)) ≡ 0 = sym (ap length left) in
    grind (arith, nat_tests, length-drop phase (parts lines), over)
next_is lines phase (Some at) left =
    let some : 1 ≤ length (drop phase (parts lines)) = omega (arith, ap length left, (count_parts (drop at lines)).0) in
    grind (arith, nat_tests, length-drop phase (parts lines), some)

pub no_next : (lines : List Line) (phase : ℕ) (next : Option ℕ) → next ≡ None → parts_left lines next ≡ drop phase (parts lines) → phase < length (parts lines) → ⊥
no_next lines phase next none left more =
    let over : length (drop phase (parts lines)) ≡ 0 = sym (ap length left) ∙ ap (λ n. length (parts_left lines n)) none in
    let long = length-drop phase (parts lines) in
    omega (arith, over, long, more)

pub over_now : (lines : List Line) (r : Runner) (b : Bool) → RunsSoFar lines r → (IsTrue b ↔ (r.phase < length (parts lines))) → b ≡ false → r.phase ≡ length (parts lines)
over_now lines r b so_far same not = by_place r.phase (length (parts lines)) so_far.counted (λ less. let it : b ≡ true = same.1 less in let no : true ≡ false = sym it ∙ not in cc (no))
  where
    by_place : (m n : ℕ) → m ≤ n → (m < n → ⊥) → m ≡ n
    by_place m n le more = elim (cases_eq m n) [
      | inl e ↦ e
      | inr ne ↦ absurd (more (omega (arith, le, ne)))
    ]

-- the phase that stands first among those left
pub this_phase : (ps : List (List Line)) (phase : ℕ) (part : List Line) (rest : List (List Line)) → part ∷ rest ≡ drop phase ps → (phase < length ps) × ((P : List Line → Type 0) → All P ps → P part) × (rest ≡ drop (phase + 1) ps)
this_phase ps phase part rest left =
    let less : phase < length ps = omega (arith, ap length left, length-drop phase ps) in
    let heads : part ∷ rest ≡ get_or ps phase part ∷ drop (phase + 1) ps = left ∙ drop_more ps phase part less in
    let head : part ≡ get_or ps phase part = ap (λ l. get_or l 0 part) heads in
    (less, (λ P all. subst P (sym head) (all phase part less)), ap (drop 1) heads)

-- what was cut off at the place of the next phase stands first among those left
pub cut_off : (lines given part : List Line) (r : Runner) (at : ℕ) (next : Option ℕ) → given ≡ lines → RunsSoFar lines r → r.next ≡ Some at → parts_left given (Some at) ≡ part ∷ parts_left given next → part ∷ parts_left lines next ≡ drop r.phase (parts lines)
cut_off lines given part r at next is so_far here cut = sym (subst (λ l. parts_left l (Some at) ≡ part ∷ parts_left l next) is cut) ∙ ap (parts_left lines) (sym here) ∙ so_far.left

-- a run of some phases goes on with one more
pub runs_push : (ps : List Phase) (before between after : List (List Recorded)) (settled runs : List ChannelRun) (results told : List LineResult) (p : Phase) → RunsOf ps before settled between results → PhaseRuns p between after runs told
    → RunsOf (ps ++ p ∷ []) before (settled ++ runs) after (results ++ told)
runs_push [] before between after settled runs results told p over one =
    subst (λ l. RunsOf (p ∷ []) between l after told) (append-nil runs) (subst (λ l. RunsOf (p ∷ []) between (runs ++ []) after l) (append-nil told) (then_on one over))
runs_push (q ∷ ps) before between after settled runs results told p (then_on {between = first} {runs = rs} {settled = ss} {told = ts} {results = rest} here on) one =
    subst (λ l. RunsOf (q ∷ (ps ++ p ∷ [])) before l after ((ts ++ rest) ++ told)) (sym (append_assoc rs ss runs))
    (subst (λ l. RunsOf (q ∷ (ps ++ p ∷ [])) before (rs ++ (ss ++ runs)) after l) (sym (append_assoc ts rest told)) (then_on here (runs_push ps first between after ss runs rest told p on one)))

-- each phase of a script

pub no_phase : Phase
no_phase = record { version = 0; number = 0; earlier = []; part = []; opened = [] }

record IsAt (version : ℕ) (specs : List DeviceSpec) (number next : ℕ) (earlier : List Line) (ps : List (List Line)) (k : ℕ) (p : Phase) : Type 0 where
  pub version_is : p.version ≡ version
  pub number_is : p.number ≡ number + k
  pub earlier_is : p.earlier ≡ earlier ++ flat_map (λ part. part) (take k ps)
  pub part_is : p.part ≡ get_or ps k []
  pub opened : p.opened ≡ opened_from (is_opened p.earlier p.part) 0 (next + length (flat_map (λ p. others p.opened) (take k (phases_from version specs number next earlier ps)))) specs

phases_long : (version : ℕ) (specs : List DeviceSpec) (number next : ℕ) (earlier : List Line) (ps : List (List Line)) → length (phases_from version specs number next earlier ps) ≡ length ps
phases_long version specs number next earlier [] = refl
phases_long version specs number next earlier (part ∷ rest) = ap suc (phases_long version specs (number + 1) _ (earlier ++ part) rest)

phase_at : (version : ℕ) (specs : List DeviceSpec) (number next : ℕ) (earlier : List Line) (ps : List (List Line)) (k : ℕ) (d : Phase) → k < length ps → IsAt version specs number next earlier ps k (get_or (phases_from version specs number next earlier ps) k d)
phase_at version specs number next earlier [] k d less = absurd (omega (arith, less))
phase_at version specs number next earlier (part ∷ rest) zero d less =
    let here : next ≡ next + 0 = omega arith in
    record { version_is = refl; number_is = omega arith; earlier_is = sym (append-nil earlier); part_is = refl; opened = ap (λ n. opened_from (is_opened earlier part) 0 n specs) here }
phase_at version specs number next earlier (part ∷ rest) (suc k) d less =
    let os = others (opened_from (is_opened earlier part) 0 next specs) in
    let more = flat_map (λ p. others p.opened) (take k (phases_from version specs (number + 1) (next + length os) (earlier ++ part) rest)) in
    let at = phase_at version specs (number + 1) (next + length os) (earlier ++ part) rest k d (omega (arith, less)) in
    let relid : (next + length os) + length more ≡ next + length (os ++ more) = omega (arith, length-append os more) in
    let p = get_or (phases_from version specs (number + 1) (next + length os) (earlier ++ part) rest) k d in
    record {
      version_is = at.version_is;
      number_is = omega (arith, at.number_is);
      earlier_is = at.earlier_is ∙ append_assoc earlier part (flat_map (λ part. part) (take k rest));
      part_is = at.part_is;
      opened = at.opened ∙ ap (λ n. opened_from (is_opened p.earlier p.part) 0 n specs) relid;
    }

-- the phase of a script with this number
abbrev pub the_phase : List Line → ℕ → Phase
the_phase lines k = get_or (phases lines) k no_phase

-- it is the one that runs next
pub next_phase : (lines : List Line) (r : Runner) (part : List Line) (rest : List (List Line)) → RunsSoFar lines r → IsScript lines → part ∷ rest ≡ drop r.phase (parts lines) → IsThis r.version.0 r.phase part r.ended.items (specs_of r.boxes.items) r.relid (the_phase lines r.phase)
next_phase lines r part rest so_far script left =
    let less : r.phase < length (parts lines) = (this_phase (parts lines) r.phase part rest left).0 in
    let at = phase_at (agreed_in lines) (offered lines) 0 (length (offered lines) + 1) [] (parts lines) r.phase no_phase less in
    let head : part ≡ get_or (parts lines) r.phase [] = ap (λ (l : List (List Line)). get_or l 0 []) (left ∙ drop_more (parts lines) r.phase [] less) in
    let kinds = so_far.kinds in
    record {
      version = at.version_is ∙ sym so_far.version;
      number = omega (arith, at.number_is);
      of = record {
        part_is = at.part_is ∙ sym head;
        ended_are = subst (λ l. AreEnded l r.ended.items) (sym at.earlier_is) so_far.ended;
        devices = length-map r.boxes.items spec_of ∙ sym so_far.ended_count;
        opened = at.opened
            ∙ (ap (λ n. opened_from (is_opened (the_phase lines r.phase).earlier (the_phase lines r.phase).part) 0 n (offered lines)) (sym so_far.relid)
            ∙ ap (opened_from (is_opened (the_phase lines r.phase).earlier (the_phase lines r.phase).part) 0 r.relid) (sym kinds));
      };
    }

-- the devices that right lines offer have few channels

few_offered : (kinds : List DeviceSpec) (w : What) → IsRight kinds w → AllByRecursion (λ s. subs_of s ≤ 3) (offered_by w)
few_offered kinds (IsOffer name (IsDisk blocks subs)) right = (right.2, tt)
few_offered kinds (IsOffer name _) right = (omega arith, tt)
few_offered kinds _ right = tt

pub all_few : (kinds : List DeviceSpec) (lines : List Line) → AllRight kinds lines → AllByRecursion (λ s. subs_of s ≤ 3) (offered lines)
all_few kinds [] right = tt
all_few kinds (l ∷ lines) right = each_append (λ s. subs_of s ≤ 3) (offered_by l.what) (offered lines) (few_offered kinds l.what right.0) (all_few kinds lines right.1)

-- no phase ran
pub start : (lines : List Line) (r : Runner) → r.version.0 ≡ agreed_in lines → AreFresh lines (offered lines) r.boxes.items → SettingsOf lines (length r.boxes.items) r.settings.items → r.ended.items ≡ replicate (length r.boxes.items) None → r.relid ≡ length r.boxes.items + 1 → length (offered lines) ≤ 16 → r.phase ≡ 0 → r.next ≡ Some 0 → r.settled.items ≡ [] → r.results.items ≡ [] → r.work.items ≡ []
    → RunsSoFar lines r
start lines r agreed fresh settings none relid sixteen phase next settled results work =
    let before : List (List Recorded) = map (λ k. []) (offered lines) in
    let many : length r.boxes.items ≡ length (offered lines) = sym (length-map r.boxes.items spec_of) ∙ ap length fresh.kinds_are in
    let none_opened : length (offered lines) + 1 ≡ next_relid lines 0 = omega arith in
    record {
      runs = subst (λ k. RunsOf (take k (phases lines)) before r.settled.items (map box_log r.boxes.items) r.results.items) (sym phase)
          (subst (λ l. RunsOf [] before r.settled.items l r.results.items) (sym fresh.logs)
          (subst (λ l. RunsOf [] before l before r.results.items) (sym settled) (subst (λ l. RunsOf [] before [] before l) (sym results) over)));
      worked = subst (λ k. AllRanAsSet lines (take k (phases lines)) r.work.items r.settled.items) (sym phase)
          (subst (λ l. AllRanAsSet lines [] l r.settled.items) (sym work) (subst (λ l. AllRanAsSet lines [] [] l) (sym settled) (record { each = tt; carried = refl })));
      left = ap (parts_left lines) next ∙ ap (λ p. drop p (parts lines)) (sym phase);
      within = subst (λ n. MatchOption n ⊤ (λ at. at ≤ length lines)) (sym next) (omega arith);
      counted = omega (arith, phase);
      kinds = fresh.kinds_are;
      setups = fresh.setups_are;
      ready = λ k d less. record { kept = (fresh.ready k d less).kept; few = omega (arith, (fresh.ready k d less).few) };
      version = agreed;
      settings = settings;
      ended = subst (λ n. AreEnded (earlier_lines lines n) r.ended.items) (sym phase)
          (λ k less.
          let blank : Option Ending = None in
          let within : k < length r.boxes.items = omega (arith, less, ap length none, length-replicate (length r.boxes.items) blank) in
          ap outcome_left (ap (λ l. slice_index_or l k None) none ∙ get_or-replicate (length r.boxes.items) k blank None within));
      ended_count = ap length none ∙ length-replicate (length r.boxes.items) None;
      relid = relid ∙ (ap (λ n. n + 1) many ∙ (none_opened ∙ ap (next_relid lines) (sym phase)));
      relid_few = omega (arith, relid, many, sixteen);
    }

-- one more phase ran
pub go_on : (lines part : List Line) (posted : List Msg) (old new : Runner) → IsSaidToStart (plan_of lines) old.phase posted → TellsPlanned (plan_of lines) old.phase posted → RunsSoFar lines old → IsScript lines → part ∷ parts_left lines new.next ≡ drop old.phase (parts lines) → MatchOption new.next ⊤ (λ at. at ≤ length lines)
    → ((p : Phase) → IsThis old.version.0 old.phase part old.ended.items (specs_of old.boxes.items) old.relid p → PhaseRan p old.boxes.items new.boxes.items old.settled.items new.settled.items old.results.items new.results.items)
    → ((p : Phase) → IsThis old.version.0 old.phase part old.ended.items (specs_of old.boxes.items) old.relid p → new.relid ≡ old.relid + length (others p.opened)) → new.relid ≤ old.relid + 48
    → ((earlier : List Line) → AreEnded earlier old.ended.items → AreEnded (earlier ++ part) new.ended.items)
    → length new.ended.items ≡ length old.ended.items → All (IsReady (4096 * (old.phase + 1))) new.boxes.items → new.phase ≡ old.phase + 1 → new.settings.items ≡ old.settings.items → new.version ≡ old.version
    → ((p : Phase) → IsThis old.version.0 old.phase part old.ended.items (specs_of old.boxes.items) old.relid p → HaveWorked posted old.settings.items p old.settled.items new.settled.items old.work.items new.work.items) → RunsSoFar lines new
go_on lines part posted old new said told so_far script left within ran relids few ended count ready phase settings agreed worked =
    let p = the_phase lines old.phase in
    let is_this = next_phase lines old part (parts_left lines new.next) so_far script left in
    let one = ran p is_this in
    let this = this_phase (parts lines) old.phase part (parts_left lines new.next) left in
    let boxes : length new.boxes.items ≡ length old.boxes.items = sym (length-map new.boxes.items spec_of) ∙ ap length one.kinds ∙ length-map old.boxes.items spec_of in
    let less : old.phase < length (phases lines) = omega (arith, this.0, phases_long (agreed_in lines) (offered lines) 0 (length (offered lines) + 1) [] (parts lines)) in
    let before : List (List Recorded) = map (λ k. []) (offered lines) in
    let whole : RunsOf (take old.phase (phases lines) ++ p ∷ []) before (old.settled.items ++ one.runs) (map box_log new.boxes.items) (old.results.items ++ one.told) =
    runs_push (take old.phase (phases lines)) before (map box_log old.boxes.items) (map box_log new.boxes.items) old.settled.items one.runs old.results.items one.told p so_far.runs one.phase_runs in
    let taken : take new.phase (phases lines) ≡ take old.phase (phases lines) ++ p ∷ [] = ap (λ n. take n (phases lines)) phase ∙ take_more (phases lines) old.phase no_phase less in
    let head : part ≡ get_or (parts lines) old.phase [] = ap (λ (l : List (List Line)). get_or l 0 []) (left ∙ drop_more (parts lines) old.phase [] this.0) in
    let lines_behind : earlier_lines lines old.phase ++ part ≡ earlier_lines lines new.phase =
    ap (λ l. earlier_lines lines old.phase ++ l) (head ∙ sym (append-nil (get_or (parts lines) old.phase [])))
    ∙ (sym (flat_map-append (λ (part : List Line). part) (take old.phase (parts lines)) (get_or (parts lines) old.phase [] ∷ []))
    ∙ ap (flat_map (λ part. part)) (sym (ap (λ n. take n (parts lines)) phase ∙ take_more (parts lines) old.phase [] this.0))) in
    record {
      runs = subst (λ ps. RunsOf ps before new.settled.items (map box_log new.boxes.items) new.results.items) (sym taken)
          (subst (λ l. RunsOf (take old.phase (phases lines) ++ p ∷ []) before l (map box_log new.boxes.items) new.results.items) (sym one.settled_are)
          (subst (λ l. RunsOf (take old.phase (phases lines) ++ p ∷ []) before (old.settled.items ++ one.runs) (map box_log new.boxes.items) l) (sym one.results_are) whole));
      worked = subst (λ ps. AllRanAsSet lines ps new.work.items new.settled.items) (sym taken)
          (ran_more lines (length old.boxes.items) posted old.settings.items (take old.phase (phases lines)) p old.work.items new.work.items old.settled.items new.settled.items so_far.settings
          (subst (λ n. IsSaidToStart (plan_of lines) n posted) (sym is_this.number) said) (subst (λ n. TellsPlanned (plan_of lines) n posted) (sym is_this.number) told)
          (subst (λ n. AllByRecursion (IsPlanned (phase_of (plan_of lines) n)) (by_relid p.opened)) (sym is_this.number) (all_planned lines old.phase no_phase less)) so_far.worked (worked p is_this));
      left = this.2 ∙ ap (λ p. drop p (parts lines)) (sym phase);
      within = within;
      counted = omega (arith, phase, this.0);
      kinds = one.kinds ∙ so_far.kinds;
      setups = one.setups ∙ so_far.setups;
      ready = subst (λ p. All (IsReady (4096 * p)) new.boxes.items) (sym phase) ready;
      version = ap (λ (v : Version). v.0) agreed ∙ so_far.version;
      settings = subst (λ n. SettingsOf lines n new.settings.items) (sym boxes) (subst (SettingsOf lines (length old.boxes.items)) (sym settings) so_far.settings);
      ended = subst (λ l. AreEnded l new.ended.items) lines_behind (ended (earlier_lines lines old.phase) so_far.ended);
      ended_count = count ∙ so_far.ended_count ∙ sym boxes;
      relid = omega (
        arith,
        relids p is_this,
        so_far.relid,
        ap (λ l. length (flat_map (λ p. others p.opened) l)) taken,
        ap length (flat_map-append (λ (p : Phase). others p.opened) (take old.phase (phases lines)) (p ∷ [])),
        length-append (flat_map (λ (p : Phase). others p.opened) (take old.phase (phases lines))) (flat_map (λ (p : Phase). others p.opened) (p ∷ [])),
        length-append (others p.opened) [],
      );
      relid_few = omega (arith, few, so_far.relid_few, phase);
    }

-- all phases ran
pub finish : (lines : List Line) (r : Runner) (histories : List DeviceHistory) → RunsSoFar lines r → r.phase ≡ length (parts lines) → map log_of histories ≡ map box_log r.boxes.items → ((ls : List Line) → map setup_of r.boxes.items ≡ setups_from ls 0 (map spec_of r.boxes.items) → EachHistory ls 0 (map spec_of r.boxes.items) histories)
    → IsBusRun lines r.settled.items histories r.results.items
finish lines r histories so_far done logs legal =
    let all : take r.phase (phases lines) ≡ phases lines = take_all r.phase (phases lines) (omega (arith, done, phases_long (agreed_in lines) (offered lines) 0 (length (offered lines) + 1) [] (parts lines))) in
    let before : List (List Recorded) = map (λ k. []) (offered lines) in
    record {
      phases_run = subst (λ l. RunsOf (phases lines) before r.settled.items l r.results.items) (sym logs) (subst (λ ps. RunsOf ps before r.settled.items (map box_log r.boxes.items) r.results.items) all so_far.runs);
      legal = subst (λ k. EachHistory lines 0 k histories) so_far.kinds (legal lines (so_far.setups ∙ ap (setups_from lines 0) (sym so_far.kinds)));
    }

-- on channels that were opened as the lines say
pub finish_worked : (lines : List Line) (r : Runner) → RunsSoFar lines r → r.phase ≡ length (parts lines) → AllRanAsSet lines (phases lines) r.work.items r.settled.items
finish_worked lines r so_far done =
    let all : take r.phase (phases lines) ≡ phases lines = take_all r.phase (phases lines) (omega (arith, done, phases_long (agreed_in lines) (offered lines) 0 (length (offered lines) + 1) [] (parts lines))) in
    subst (λ ps. AllRanAsSet lines ps r.work.items r.settled.items) all so_far.worked
