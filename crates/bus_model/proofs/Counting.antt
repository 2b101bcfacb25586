-- Each line that prints has one outcome.
use Rattle.std.proofs.Common.{◌≡◌, ℕ, ◌+◌, Bool, true, false, cond, List, [], ◌∷◌, ◌++◌, length, length-append, refl, ap, sym, ◌∙◌, arith, Some}
use Rattle.std.specs.Prelude.{filter}
use Rattle.std.specs.List.{slice_split, onto_first}
use Rattle.std.proofs.lemmas.List.{length-map}
use Rattle.std.proofs.lemmas.List.Sums.{length-filter}
use Rattle.script_lines.specs.declared.line.Line.{Line}
use Rattle.script_lines.specs.declared.line.What.{What}
use Rattle.script_lines.specs.declared.line.What.TheVariants.{Contact as IsContact, Offer as IsOffer, Bad as IsBad, RingSize as IsRingSize, Window as IsWindow, Ask as IsAsk, Rescind as IsRescind, Shut as IsShut, Modify as IsModify, Phase as IsPhase}
use Rattle.script_lines.specs.declared.line.DeviceSpec.{DeviceSpec}
use Rattle.script_lines.specs.Lines.{is_phase}
use Rattle.script_lines.specs.Parts.{ends_part, parts, offered}
use Rattle.bus_script.specs.Report.{prints, tells}
use Rattle.bus_script.specs.declared.outcome.LineResult.{LineResult}
use Rattle.device_kinds.specs.Logs.{Recorded}
use Rattle.bus_model.specs.declared.channel_run.ChannelRun.{ChannelRun}
use Rattle.script_phases.specs.Agreed.{agreed_in}
use Rattle.script_phases.specs.Openings.{Phase, phases_from}
use Rattle.bus_model.specs.Run.{Source, source_of, sources_from, outcome_at, PhaseRuns, RunsOf, over, then_on}
use Rattle.bus_model.specs.Laws.{OneEach}

-- the lines that print

abbrev shown : List Line → ℕ
shown lines = length (filter prints lines)

abbrev shown_in : List (List Line) → ℕ
shown_in [] = 0
shown_in (p ∷ ps) = shown p + shown_in ps

line_source : (p : Phase) (before : List Line) (w : What) (l : Line) (ss : List Source) (ls : List Line) → length ss ≡ length ls → length (source_of p before w ++ ss) ≡ length (cond (tells w) (l ∷ ls) ls)
line_source p before (IsContact guest host) l ss ls is = omega (arith, is)
line_source p before (IsOffer name spec) l ss ls is = is
line_source p before (IsBad device lba) l ss ls is = is
line_source p before (IsRingSize device pages) l ss ls is = is
line_source p before (IsWindow device size) l ss ls is = is
line_source p before (IsAsk device ask) l ss ls is = omega (arith, is)
line_source p before (IsRescind device after held) l ss ls is = is
line_source p before (IsShut device) l ss ls is = is
line_source p before (IsModify device vp) l ss ls is = omega (arith, is)
line_source p before IsPhase l ss ls is = is

sources_print : (p : Phase) (before part : List Line) → length (sources_from p before part) ≡ shown part
sources_print p before [] = refl
sources_print p before (l ∷ part) = line_source p before l.what l (sources_from p (before ++ l ∷ []) part) (filter prints part) (sources_print p (before ++ l ∷ []) part)

one_phase : (p : Phase) (before after : List (List Recorded)) (runs : List ChannelRun) (told : List LineResult) → PhaseRuns p before after runs told → length told ≡ shown p.part
one_phase p before after runs told run =
    sym (length-map told (λ r. Some r)) ∙ ap length run.outcomes ∙ length-map (sources_from p [] p.part) (outcome_at p run.channels) ∙ sources_print p [] p.part

-- an outcome for each line of the phases that prints
told_each : (version : ℕ) (specs : List DeviceSpec) (number next : ℕ) (earlier : List Line) (ps : List (List Line)) (before : List (List Recorded)) (settled : List ChannelRun) (after : List (List Recorded)) (results : List LineResult)
    → RunsOf (phases_from version specs number next earlier ps) before settled after results → length results ≡ shown_in ps
told_each version specs number next earlier [] before settled after results over = refl
told_each version specs number next earlier (part ∷ rest) before settled after results (then_on {told = told} {results = more} one on) =
    omega (arith, one_phase _ _ _ _ told one, told_each version specs (number + 1) _ (earlier ++ part) rest _ _ _ more on, length-append told more)

-- the phases' lines that print are the script's

abbrev one : Line → ℕ
one l = length (cond (prints l) (l ∷ []) [])

first_of : (b : Bool) (l : Line) (ls : List Line) → length (cond b (l ∷ ls) ls) ≡ length (cond b (l ∷ []) []) + length ls
first_of true l ls = omega arith
first_of false l ls = omega arith

onto : (l : Line) (ps : List (List Line)) → shown_in (onto_first l ps) ≡ one l + shown_in ps
onto l [] = omega arith
onto l (p ∷ ps) = omega (arith, first_of (prints l) l (filter prints p))

split_line : (l : Line) (w : What) → l.what ≡ w → (ps : List (List Line)) → shown_in (cond (is_phase w) ([] ∷ ps) (onto_first l ps)) ≡ one l + shown_in ps
split_line l (IsContact guest host) is ps = onto l ps
split_line l (IsOffer name spec) is ps = onto l ps
split_line l (IsRingSize device pages) is ps = onto l ps
split_line l (IsWindow device size) is ps = onto l ps
split_line l (IsBad device lba) is ps = onto l ps
split_line l (IsAsk device ask) is ps = onto l ps
split_line l (IsRescind device after held) is ps = onto l ps
split_line l (IsShut device) is ps = onto l ps
split_line l (IsModify device vp) is ps = onto l ps
split_line l IsPhase is ps = let none : one l ≡ 0 = ap (λ w. length (cond (tells w) (l ∷ []) [])) is in omega (arith, none)

all_parts : (lines : List Line) → shown_in (slice_split ends_part lines) ≡ shown lines
all_parts [] = refl
all_parts (l ∷ lines) = omega (arith, split_line l l.what refl (slice_split ends_part lines), all_parts lines, first_of (prints l) l (filter prints lines))

pub one_each_lem : OneEach
one_each_lem lines settled histories results run = told_each (agreed_in lines) (offered lines) 0 _ [] (parts lines) _ settled _ results run.phases_run ∙ all_parts lines ∙ length-filter prints lines
