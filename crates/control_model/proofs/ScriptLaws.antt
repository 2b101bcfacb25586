-- The plan of a script is one.
use Rattle.std.proofs.Common.{◌≡◌, ◌∙◌, ℕ, suc, ◌+◌, ◌*◌, ◌^◌, ◌<◌, ◌≤◌, ◌==◌, Bool, true, false, cond, not, ◌&&◌, ◌||◌, is_some, slice_get, All, List, [], ◌∷◌, ◌++◌, length, map, get_or, slice_index_or, sum_by, refl, sym, ap, subst, arith}
use Rattle.std.proofs.lemmas.List.{length-map, map-append}
use Rattle.std.proofs.lemmas.List.Elements.{All-nil, All-cons, All-append, filter-append}
use Rattle.std.proofs.lemmas.Grind.{flat_map-append}
use Rattle.std.proofs.lemmas.List.Folds.{list_any-append}
use Rattle.std.proofs.lemmas.Bool.Decides.{nat_tests}
use Rattle.std.specs.List.{flat_map, list_any, onto_first, range_with_len, AllByRecursion}
use Rattle.contact.specs.declared.kind.DeviceKind.{DeviceKind}
use Rattle.contact.specs.declared.kind.DeviceKind.TheVariants.{Beat as BeatDevice}
use Rattle.contact.specs.Classes.{offered_kind}
use Rattle.contact.specs.Versions.{IsVersion}
use Rattle.script_lines.specs.declared.line.Line.{Line}
use Rattle.script_lines.specs.declared.line.What.{What}
use Rattle.script_lines.specs.declared.line.What.TheVariants.{Contact as IsContact, Offer as IsOffer, Bad as IsBad, RingSize as IsRingSize, Window as IsWindow, Ask as IsAsk, Rescind as IsRescind, Shut as IsShut, Modify as IsModify, Phase as IsPhase}
use Rattle.script_lines.specs.declared.line.DeviceSpec.{DeviceSpec}
use Rattle.script_lines.specs.declared.line.DeviceSpec.TheVariants.{Disk}
use Rattle.script_lines.specs.Lines.{is_rescind, said}
use Rattle.script_lines.specs.Parts.{parts, ends_part, offered, offered_by, kind_of, channels_of, ring_pages_of, pages_by}
use Rattle.script_lines.specs.WellFormed.{IsDevice, IsRight, AllRight, IsScript}
use Rattle.script_phases.specs.Says.{heard_by, said_to, is_rescinded, is_shut}
use Rattle.script_phases.specs.Openings.{Opening as PhaseOpening, Phase, is_ended, is_opened, subs_of, opened_from, others, phases as phases_of, phases_from}
use Rattle.script_phases.specs.Laws.{later_channels}
use Rattle.script_phases.proofs.Following.{next_relids_lem}
use Rattle.control_model.specs.declared.planning.Fate.{Fate}
use Rattle.control_model.specs.declared.opening.Opening.{Opening}
use Rattle.control_model.specs.Plan.{IsPlan, IsOpening, Rising, Follows, OpensAgain, RescindsEnd, is_sub, is_later, firsts as firsts_of, laters, HasPort, Seated, Bare, all_openings, first_gpadl, most_channels}
use Rattle.script_phases.specs.Agreed.{guest_in, host_in, guest_by, host_by, agreed_in}
use Rattle.control_model.specs.Openings.{plan_of, openings_from, lists_in, pages_in, numbered, fate_of}
use Rattle.control_model.proofs.SubLaws.{by_test, none_by, some_by}
use Rattle.control_model.proofs.OpenedLaws.{IsSize, IsChannel, all_so, channels_are, channels_few, others_few, named, opening, many_from, each_from, fits_from, pages_few, lists_few_in, follow_from, offered_from, seated_from, bare_from, rising_from, subs_made}

guest_right : (kinds : List DeviceSpec) (what : What) → IsRight kinds what → IsVersion (guest_by what).0
guest_right kinds (IsContact guest host) right = right.0
guest_right kinds (IsOffer name spec) right = refl
guest_right kinds (IsBad d lba) right = refl
guest_right kinds (IsRingSize d pages) right = refl
guest_right kinds (IsWindow d size) right = refl
guest_right kinds (IsAsk d ask) right = refl
guest_right kinds (IsRescind d after held) right = refl
guest_right kinds (IsShut d) right = refl
guest_right kinds (IsModify d vp) right = refl
guest_right kinds IsPhase right = refl

host_right : (kinds : List DeviceSpec) (what : What) → IsRight kinds what → IsVersion (host_by what).0
host_right kinds (IsContact guest host) right = right.1
host_right kinds (IsOffer name spec) right = refl
host_right kinds (IsBad d lba) right = refl
host_right kinds (IsRingSize d pages) right = refl
host_right kinds (IsWindow d size) right = refl
host_right kinds (IsAsk d ask) right = refl
host_right kinds (IsRescind d after held) right = refl
host_right kinds (IsShut d) right = refl
host_right kinds (IsModify d vp) right = refl
host_right kinds IsPhase right = refl

guest_version : (kinds : List DeviceSpec) (lines : List Line) → AllRight kinds lines → IsVersion (guest_in lines).0
guest_version kinds [] right = refl
guest_version kinds (l ∷ ls) right = guest_right kinds l.what right.0

host_version : (kinds : List DeviceSpec) (lines : List Line) → AllRight kinds lines → IsVersion (host_in lines).0
host_version kinds [] right = refl
host_version kinds (l ∷ ls) right = host_right kinds l.what right.0

size_then : (pages : ℕ) (more : List ℕ) (b : Bool) → IsSize pages → IsSize (slice_index_or more 0 1) → IsSize (slice_index_or (cond b (pages ∷ []) [] ++ more) 0 1)
size_then pages more true here rest = here
size_then pages more false here rest = rest

size_by : (kinds : List DeviceSpec) (device : ℕ) (what : What) (more : List ℕ) → IsRight kinds what → IsSize (slice_index_or more 0 1) → IsSize (slice_index_or (pages_by device what ++ more) 0 1)
size_by kinds device (IsContact guest host) more right rest = rest
size_by kinds device (IsOffer name spec) more right rest = rest
size_by kinds device (IsBad d lba) more right rest = rest
size_by kinds device (IsRingSize d pages) more right rest = size_then pages more (d == device) (right.1, right.2) rest
size_by kinds device (IsWindow d size) more right rest = rest
size_by kinds device (IsAsk d ask) more right rest = rest
size_by kinds device (IsRescind d after held) more right rest = rest
size_by kinds device (IsShut d) more right rest = rest
size_by kinds device (IsModify d vp) more right rest = rest
size_by kinds device IsPhase more right rest = rest

pub size_of : (kinds : List DeviceSpec) (device : ℕ) (lines : List Line) → AllRight kinds lines → IsSize (ring_pages_of device lines)
size_of kinds device [] right = let one : 1 ≤ 1 = omega arith in let few : 1 ≤ 16 = omega arith in (one, few)
size_of kinds device (l ∷ ls) right = size_by kinds device l.what (flat_map (λ l. pages_by device l.what) ls) right.0 (size_of kinds device ls right.1)

-- a device that these lines rescind was rescinded before what follows them
said_more : (d : ℕ) (xs ys : List Line) → is_rescinded d (xs ++ ys) ≡ (is_rescinded d xs || is_rescinded d ys)
said_more d xs ys = ap (list_any is_rescind) (flat_map-append (λ l. heard_by d (said l.what)) xs ys) ∙ list_any-append is_rescind (said_to d xs) (said_to d ys)

or_right : (a b : Bool) → (a || b) ≡ false → b ≡ false
or_right true b e = absurd (cc)
or_right false b e = e

or_left : (a b : Bool) → (a || b) ≡ false → a ≡ false
or_left true b e = e
or_left false b e = refl

later_rescinds : (earlier part : List Line) (d : ℕ) → is_rescinded d (earlier ++ part) ≡ false → is_rescinded d part ≡ false
later_rescinds earlier part d none = or_right (is_rescinded d earlier) (is_rescinded d part) (sym (said_more d earlier part) ∙ none)

-- what is opened wasn't rescinded before
not_opened : (a b : Bool) → (not a && b) ≡ true → a ≡ false
not_opened true b e = absurd (let wrong : false ≡ true = e in cc)
not_opened false b e = refl

opened_not : (earlier part : List Line) (d : ℕ) → is_opened earlier part d ≡ true → is_rescinded d earlier ≡ false
opened_not earlier part d e = or_left (is_rescinded d earlier) (is_shut d earlier) (not_opened (is_ended d earlier) (is_some (slice_get (said_to d part) 0)) e)

-- what later phases open, behind these lines: first channels of devices that these lines don't rescind, and sub-channels with relids from here on
pub record Unharmed (lines : List Line) (count from : ℕ) (o : Opening) : Type 0 where
  pub first : is_sub o ≡ false → (o.relid ≤ count) × ((d : ℕ) → o.relid ≡ d + 1 → is_rescinded d lines ≡ false)
  pub other : is_sub o ≡ true → from ≤ o.relid

unharmed : (sizes : ℕ → ℕ) (fates : ℕ → Fate) (p : ℕ → Bool) (lines : List Line) (count from low past g q : ℕ) (c : PhaseOpening) → from ≤ low → ((d : ℕ) → p d ≡ true → is_rescinded d lines ≡ false) → IsChannel p count low past c → Unharmed lines count from (opening sizes fates g q c)
unharmed sizes fates p lines count from low past g q c less within is = record {
  first = λ e.
      let relid = is.first (none_by c.sub e) in
      let below = is.below in
      let few : c.relid ≤ count = omega (arith, relid, below) in
      (few, λ d named. let same : c.device ≡ d = omega (arith, relid, named) in subst (λ k. is_rescinded k lines ≡ false) same (within c.device is.opened));
  other = λ e. let relid = is.other (some_by c.sub e) in omega (arith, relid.0, less);
}

no_more : (sizes : ℕ → ℕ) (v : ℕ) (specs : List DeviceSpec) (number from next gpadl page : ℕ) (earlier lines : List Line) (ps : List (List Line)) → from ≤ next → ((d : ℕ) → is_rescinded d earlier ≡ false → is_rescinded d lines ≡ false)
    → All (λ os. All (Unharmed lines (length specs) from) os) (numbered sizes gpadl page (phases_from v specs number next earlier ps))
no_more sizes v specs number from next gpadl page earlier lines [] less within = All-nil (λ os. All (Unharmed lines (length specs) from) os)
no_more sizes v specs number from next gpadl page earlier lines (part ∷ ps) less within =
    let p = is_opened earlier part in
    let cs = opened_from p 0 next specs in
    let fates : ℕ → Fate = λ device. fate_of device part in
    let relid = next + length (others cs) in
    let are = channels_are p (length specs) next relid 0 next specs (omega arith) (omega arith) (omega arith) in
    All-cons (λ os. All (Unharmed lines (length specs) from) os) (openings_from sizes fates gpadl page cs) (numbered sizes (gpadl + lists_in cs) (page + pages_in sizes cs) (phases_from v specs (number + 1) relid (earlier ++ part) ps))
    (each_from sizes fates (Unharmed lines (length specs) from) (IsChannel p (length specs) next relid) (λ c g q is. unharmed sizes fates p lines (length specs) from next relid g q c less (λ d e. within d (opened_not earlier part d e)) is) gpadl page cs are)
    (no_more sizes v specs (number + 1) from relid (gpadl + lists_in cs) (page + pages_in sizes cs) (earlier ++ part) lines ps (omega (arith, less)) (λ d e. within d (or_left (is_rescinded d earlier) (is_rescinded d part) (sym (said_more d earlier part) ∙ e))))

-- no later phase opens a channel that is rescinded: it would be a device's first one, whose device these lines rescind
again_one : (p : ℕ → Bool) (part : List Line) (count low past : ℕ) (c : PhaseOpening) (o : Opening) → IsChannel p count low past c → count < low → low ≤ past → Unharmed part count past o → o.relid ≡ c.relid → is_rescinded c.device part ≡ false
again_one p part count low past c o is over up fine same =
    by_test {P = is_rescinded c.device part ≡ false} (is_sub o)
    (λ e. let there = fine.other e in by_test {P = is_rescinded c.device part ≡ false} (c.sub == 0)
    (λ yes. let none : c.sub ≡ 0 = grind (arith, nat_tests, yes) in let relid = is.first none in let below = is.below in absurd (omega (arith, there, same, relid, below, over, up)))
    (λ no. let more : 1 ≤ c.sub = grind (arith, nat_tests, no) in let relid = is.other more in absurd (omega (arith, there, same, relid.1))))
    (λ e. let there = fine.first e in by_test {P = is_rescinded c.device part ≡ false} (c.sub == 0)
    (λ yes. let none : c.sub ≡ 0 = grind (arith, nat_tests, yes) in let relid = is.first none in there.1 c.device (same ∙ relid))
    (λ no. let more : 1 ≤ c.sub = grind (arith, nat_tests, no) in let relid = is.other more in let few = there.0 in absurd (omega (arith, few, same, relid.0, over))))

none_opened_again : (sizes : ℕ → ℕ) (p : ℕ → Bool) (part : List Line) (count low past gpadl page : ℕ) (cs : List PhaseOpening) (later : List (List Opening)) → AllByRecursion (IsChannel p count low past) cs → count < low → low ≤ past
    → All (λ os. All (Unharmed part count past) os) later → All (OpensAgain later) (openings_from sizes (λ device. fate_of device part) gpadl page cs)
none_opened_again sizes p part count low past gpadl page cs later are over up fine =
    each_from sizes (λ device. fate_of device part) (OpensAgain later) (IsChannel p count low past)
    (λ c g q is i os in_phases j o in_os same. again_one p part count low past c (get_or (get_or later i os) j o) is over up (fine i os in_phases j o in_os) same) gpadl page cs are

-- the openings of all phases
pub record Phases (count gpadl page : ℕ) (phases : List (List Opening)) : Type 0 where
  pub fits : All (λ os. All (λ o. IsOpening o) os) phases
  pub offered : All (λ os. All (λ o. is_later o ≡ false → o.relid ≤ count) os) phases
  pub rising : All (λ os. Rising 1 (firsts_of os)) phases
  pub seated : All (λ os. Seated 0 os) phases
  pub bare : All (λ os. Bare os) phases
  pub small : All (λ os. length os ≤ 16) phases
  pub follow : Follows gpadl page (all_openings phases)
  pub ends : RescindsEnd phases

-- each of them opens 16 channels at most, and takes no more relids
all_phases : (sizes : ℕ → ℕ) (v : ℕ) (specs : List DeviceSpec) (number next gpadl page : ℕ) (earlier : List Line) (ps : List (List Line)) → ((d : ℕ) → IsSize (sizes d)) → length specs ≤ 16 → sum_by channels_of specs ≤ 16 → length specs < next → next + 16 * length ps ≤ most_channels + 1 → gpadl + 48 * length ps ≤ 2 ^ 32 → page + 2592 * length ps < 2 ^ 64
    → Phases (length specs) gpadl page (numbered sizes gpadl page (phases_from v specs number next earlier ps))
all_phases sizes v specs number next gpadl page earlier [] sized few narrow over relids fits room = record {
  fits = All-nil (λ os. All (λ o. IsOpening o) os);
  offered = All-nil (λ os. All (λ o. is_later o ≡ false → o.relid ≤ length specs) os);
  rising = All-nil (λ os. Rising 1 (firsts_of os));
  seated = All-nil (λ os. Seated 0 os);
  bare = All-nil (λ os. Bare os);
  small = All-nil (λ os. length os ≤ 16);
  follow = tt;
  ends = tt;
}
all_phases sizes v specs number next gpadl page earlier (part ∷ ps) sized few narrow over relids fits room =
    let count = length specs in
    let p = is_opened earlier part in
    let cs = opened_from p 0 next specs in
    let fates : ℕ → Fate = λ device. fate_of device part in
    let some : length cs ≤ 16 = let h = channels_few p 0 next specs in omega (arith, h, narrow) in
    let fresh : length (others cs) ≤ 16 = let h = others_few cs in omega (arith, h, some) in
    let pages : pages_in sizes cs ≤ 162 * length cs = pages_few sizes cs sized in
    let lists = lists_few_in cs in
    let relid = next + length (others cs) in
    let are = channels_are p count next relid 0 next specs (omega arith) (omega arith) (omega arith) in
    let rest = all_phases sizes v specs (number + 1) relid (gpadl + lists_in cs) (page + pages_in sizes cs) (earlier ++ part) ps sized few narrow (omega (arith, over)) (omega (arith, relids, fresh)) (omega (arith, fits, lists, some)) (omega (arith, room, pages, some)) in
    let here = openings_from sizes fates gpadl page cs in
    let later = numbered sizes (gpadl + lists_in cs) (page + pages_in sizes cs) (phases_from v specs (number + 1) relid (earlier ++ part) ps) in
    let all_named = all_so (IsChannel p count next relid) (λ c. (1 ≤ c.relid) × (c.relid ≤ most_channels)) (λ c is. named p count next relid c is few (omega (arith, over)) (omega (arith, relids, fresh))) cs are in
    record {
      fits = All-cons (λ os. All (λ o. IsOpening o) os) here later (fits_from sizes fates gpadl page cs sized all_named (omega (arith, fits, some)) (omega (arith, room, some))) rest.fits;
      offered = All-cons (λ os. All (λ o. is_later o ≡ false → o.relid ≤ count) os) here later (offered_from sizes fates p count next relid gpadl page cs are) rest.offered;
      rising = All-cons (λ os. Rising 1 (firsts_of os)) here later (rising_from sizes fates p gpadl page 0 next specs) rest.rising;
      seated = All-cons (λ os. Seated 0 os) here later (seated_from sizes fates p 0 gpadl page 0 next specs) rest.seated;
      bare = All-cons (λ os. Bare os) here later (bare_from sizes fates p gpadl page 0 next specs) rest.bare;
      small = All-cons (λ os. length os ≤ 16) here later (let many = many_from sizes fates gpadl page cs in omega (arith, many, some)) rest.small;
      follow = follow_from sizes fates gpadl page cs (all_openings later) rest.follow;
      ends = (
        none_opened_again sizes p part count next relid gpadl page cs later are over (omega arith) (no_more sizes v specs (number + 1) relid relid (gpadl + lists_in cs) (page + pages_in sizes cs) (earlier ++ part) part ps (omega arith) (λ d. later_rescinds earlier part d)),
        rest.ends,
      );
    }

-- sub-channels have the relids that their phases give them
subs_later : (sizes : ℕ → ℕ) (gpadl page : ℕ) (phases : List Phase) → map (λ (x : Opening). x.relid) (laters (all_openings (numbered sizes gpadl page phases))) ≡ map (λ (x : PhaseOpening). x.relid) (flat_map (λ p. others p.opened) phases)
subs_later sizes gpadl page [] = refl
subs_later sizes gpadl page (p ∷ phases) =
    let fates : ℕ → Fate = λ device. fate_of device p.part in
    let here = openings_from sizes fates gpadl page p.opened in
    let later = all_openings (numbered sizes (gpadl + lists_in p.opened) (page + pages_in sizes p.opened) phases) in
    let mine = subs_made sizes fates gpadl page p.opened in
    let rest = subs_later sizes (gpadl + lists_in p.opened) (page + pages_in sizes p.opened) phases in
    ap (map (λ (x : Opening). x.relid)) (filter-append is_later here later) ∙ map-append (λ (x : Opening). x.relid) (laters here) (laters later)
    ∙ (λ i. mine i ++ rest i) ∙ sym (map-append (λ (x : PhaseOpening). x.relid) (others p.opened) (flat_map (λ p. others p.opened) phases))

later_relids : (lines : List Line) (sizes : ℕ → ℕ) → (let os = laters (all_openings (numbered sizes first_gpadl 0 (phases_of lines))) in map (λ (x : Opening). x.relid) os ≡ range_with_len (length (offered lines) + 1) (length os))
later_relids lines sizes =
    let os = laters (all_openings (numbered sizes first_gpadl 0 (phases_of lines))) in
    let same : map (λ (x : Opening). x.relid) os ≡ map (λ (x : PhaseOpening). x.relid) (later_channels lines) = subs_later sizes first_gpadl 0 (phases_of lines) in
    let count : length (later_channels lines) ≡ length os = sym (length-map (later_channels lines) (λ (x : PhaseOpening). x.relid)) ∙ (ap length (sym same) ∙ length-map os (λ (x : Opening). x.relid)) in
    same ∙ (next_relids_lem lines ∙ ap (range_with_len (length (offered lines) + 1)) count)

-- there is one phase at least, and one more for each line at most
cut_count : (x : Line) (s : List (List Line)) (b : Bool) (n : ℕ) → length s ≤ n + 1 → (1 ≤ length (cond b ([] ∷ s) (onto_first x s))) × (length (cond b ([] ∷ s) (onto_first x s)) ≤ n + 2)
cut_count x s true n few = (omega arith, omega (arith, few))
cut_count x [] false n few = (omega arith, omega arith)
cut_count x (part ∷ rest) false n few = (omega arith, omega (arith, few))

pub parts_count : (lines : List Line) → (1 ≤ length (parts lines)) × (length (parts lines) ≤ length lines + 1)
parts_count [] = (omega arith, omega arith)
parts_count (x ∷ lines) =
    let both = cut_count x (parts lines) (ends_part x) (length lines) (parts_count lines).1 in
    (both.0, omega (arith, both.1))

numbered_length : (sizes : ℕ → ℕ) (gpadl page : ℕ) (phases : List Phase) → length (numbered sizes gpadl page phases) ≡ length phases
numbered_length sizes gpadl page [] = refl
numbered_length sizes gpadl page (p ∷ phases) = ap (λ n. suc n) (numbered_length sizes (gpadl + lists_in p.opened) (page + pages_in sizes p.opened) phases)

opened_length : (v : ℕ) (specs : List DeviceSpec) (number next : ℕ) (earlier : List Line) (ps : List (List Line)) → length (phases_from v specs number next earlier ps) ≡ length ps
opened_length v specs number next earlier [] = refl
opened_length v specs number next earlier (part ∷ ps) =
    ap (λ n. suc n) (opened_length v specs (number + 1) (next + length (others (opened_from (is_opened earlier part) 0 next specs))) (earlier ++ part) ps)

-- a script's plan has its phases
pub phases_are : (lines : List Line) → length (plan_of lines).phases ≡ length (parts lines)
phases_are lines =
    numbered_length (λ d. ring_pages_of d lines) first_gpadl 0 (phases_of lines) ∙ opened_length (agreed_in lines) (offered lines) 0 (length (offered lines) + 1) [] (parts lines)

-- a script's devices are no services at a port
no_port : (kind : DeviceKind) → HasPort (offered_kind kind)
no_port BeatDevice = tt
no_port _ = tt

no_ports : (specs : List DeviceSpec) → All HasPort (map (λ (spec : DeviceSpec). offered_kind (kind_of spec)) specs)
no_ports [] = All-nil HasPort
no_ports (spec ∷ specs) = All-cons HasPort (offered_kind (kind_of spec)) (map (λ (spec : DeviceSpec). offered_kind (kind_of spec)) specs) (no_port (kind_of spec)) (no_ports specs)

pub plan_is : (lines : List Line) → IsScript lines → IsPlan (plan_of lines)
plan_is lines script =
    let kinds = offered lines in
    let count = length kinds in
    let sizes : ℕ → ℕ = λ d. ring_pages_of d lines in
    let each : length (map (λ (spec : DeviceSpec). offered_kind (kind_of spec)) kinds) ≡ count = length-map kinds (λ (spec : DeviceSpec). offered_kind (kind_of spec)) in
    let many = parts_count lines in
    let long = phases_are lines in
    let phases = all_phases sizes (agreed_in lines) kinds 0 (count + 1) first_gpadl 0 [] (parts lines) (λ d. size_of kinds d lines script.right) script.few script.channels (omega arith) (omega (arith, many.1, script.short, script.few)) (omega (arith, many.1, script.short)) (omega (arith, many.1, script.short)) in
    record {
      guest = guest_version kinds lines script.right;
      host = host_version kinds lines script.right;
      few = omega (arith, each, script.few);
      ports = no_ports kinds;
      some = omega (arith, long, many.0);
      short = omega (arith, long, many.1, script.short);
      fits = phases.fits;
      small = phases.small;
      seated = phases.seated;
      bare = phases.bare;
      offered = subst (λ n. All (λ os. All (λ o. is_later o ≡ false → o.relid ≤ n) os) (plan_of lines).phases) (sym each) phases.offered;
      rising = phases.rising;
      later = subst (λ n. map (λ (o : Opening). o.relid) (laters (all_openings (plan_of lines).phases)) ≡ range_with_len (n + 1) (length (laters (all_openings (plan_of lines).phases)))) (sym each) (later_relids lines sizes);
      follow = phases.follow;
      ends = phases.ends;
    }

-- a disk has at most 3 sub-channels
subs_right : (spec : DeviceSpec) → IsDevice spec → subs_of spec ≤ 3
subs_right (Disk blocks subs) is = is.2
subs_right _ is = omega arith

subs_offered : (kinds : List DeviceSpec) (what : What) → IsRight kinds what → All (λ spec. subs_of spec ≤ 3) (offered_by what)
subs_offered kinds (IsContact guest host) right = All-nil (λ spec. subs_of spec ≤ 3)
subs_offered kinds (IsOffer name spec) right = All-cons (λ spec. subs_of spec ≤ 3) spec [] (subs_right spec right) (All-nil (λ spec. subs_of spec ≤ 3))
subs_offered kinds (IsBad d lba) right = All-nil (λ spec. subs_of spec ≤ 3)
subs_offered kinds (IsRingSize d pages) right = All-nil (λ spec. subs_of spec ≤ 3)
subs_offered kinds (IsWindow d size) right = All-nil (λ spec. subs_of spec ≤ 3)
subs_offered kinds (IsAsk d ask) right = All-nil (λ spec. subs_of spec ≤ 3)
subs_offered kinds (IsRescind d after held) right = All-nil (λ spec. subs_of spec ≤ 3)
subs_offered kinds (IsShut d) right = All-nil (λ spec. subs_of spec ≤ 3)
subs_offered kinds (IsModify d vp) right = All-nil (λ spec. subs_of spec ≤ 3)
subs_offered kinds IsPhase right = All-nil (λ spec. subs_of spec ≤ 3)

pub few_subs : (kinds : List DeviceSpec) (lines : List Line) → AllRight kinds lines → All (λ spec. subs_of spec ≤ 3) (offered lines)
few_subs kinds [] right = All-nil (λ spec. subs_of spec ≤ 3)
few_subs kinds (l ∷ ls) right = All-append (λ spec. subs_of spec ≤ 3) (offered_by l.what) (offered ls) (subs_offered kinds l.what right.0) (few_subs kinds ls right.1)
