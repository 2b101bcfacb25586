-- What the openings of one phase keep.
use Rattle.std.proofs.Common.{◌≡◌, ◌∙◌, ℕ, zero, suc, ◌+◌, ◌*◌, ◌^◌, ◌<◌, ◌≤◌, ◌==◌, Bool, true, false, cond, not, if◌then◌else◌, All, List, [], ◌∷◌, ◌++◌, length, map, sum_by, refl, sym, ap, subst, arith, length-append, None}
use Rattle.std.proofs.lemmas.Bool.Decides.{nat_tests}
use Rattle.std.proofs.lemmas.List.Elements.{All-nil, All-cons}
use Rattle.std.proofs.lemmas.List.Sums.{sum_by-cons}
use Rattle.std.specs.List.{AllByRecursion}
use Rattle.script_lines.specs.declared.line.DeviceSpec.{DeviceSpec}
use Rattle.script_lines.specs.declared.line.DeviceSpec.TheVariants.{Net}
use Rattle.script_lines.specs.Parts.{channels_of}
use Rattle.script_phases.specs.Openings.{Opening as PhaseOpening, subs_of, subs_from, channels_from, opened_from, others}
use Rattle.control_model.specs.declared.opening.Opening.{Opening}
use Rattle.control_model.specs.declared.planning.Fate.{Fate}
use Rattle.control_model.specs.Plan.{IsOpening, Seated, Rising, Follows, is_later, firsts, first_subs, laters, lists_with, pages_with, Bare, most_channels}
use Rattle.control_model.specs.Openings.{openings_from, lists_in, pages_in, lists_for, pages_for, has_buffers, vp_at}
use Rattle.phase_plan.proofs.Channels.{channels_others, other_one}
use Rattle.control_model.proofs.SubLaws.{by_test, none_by}

-- rings have 1 to 16 data pages
abbrev pub IsSize : ℕ → Type 0
IsSize n = (1 ≤ n) × (n ≤ 16)

-- the channels that a phase opens

-- one of them is of a device that is opened: the first has the relid that it was offered with, and each other one of those that were next
pub record IsChannel (p : ℕ → Bool) (count low past : ℕ) (c : PhaseOpening) : Type 0 where
  pub below : c.device < count
  pub opened : p c.device ≡ true
  pub first : c.sub ≡ 0 → c.relid ≡ c.device + 1
  pub other : 1 ≤ c.sub → (low ≤ c.relid) × (c.relid < past)

all_join : (P : PhaseOpening → Type 0) (xs ys : List PhaseOpening) → AllByRecursion P xs → AllByRecursion P ys → AllByRecursion P (xs ++ ys)
all_join P [] ys first rest = rest
all_join P (x ∷ xs) ys first rest = (first.0, all_join P xs ys first.1 rest)

pub all_so : (P Q : PhaseOpening → Type 0) → ((c : PhaseOpening) → P c → Q c) → (cs : List PhaseOpening) → AllByRecursion P cs → AllByRecursion Q cs
all_so P Q f [] all = tt
all_so P Q f (c ∷ cs) all = (f c all.0, all_so P Q f cs all.1)

subs_are : (p : ℕ → Bool) (count low past device sub relid n : ℕ) (spec : DeviceSpec) → p device ≡ true → device < count → 1 ≤ sub → low ≤ relid → relid + n ≤ past → AllByRecursion (IsChannel p count low past) (subs_from device spec sub relid n)
subs_are p count low past device sub relid zero spec opened below some from room = tt
subs_are p count low past device sub relid (suc n) spec opened below some from room = (
  record { below = below; opened = opened; first = λ none. absurd (omega (arith, none, some)); other = λ more. (from, omega (arith, room)) },
  subs_are p count low past device (sub + 1) (relid + 1) n spec opened below (omega arith) (omega (arith, from)) (omega (arith, room)),
)

channel_if : (p : ℕ → Bool) (count low past device next : ℕ) (spec : DeviceSpec) (on off : List PhaseOpening) (b : Bool) → p device ≡ b → device < count → low ≤ next
    → ((next + subs_of spec) + length (others on) ≤ past → AllByRecursion (IsChannel p count low past) on) → (next + length (others off) ≤ past → AllByRecursion (IsChannel p count low past) off)
    → next + length (others (if b then channels_from device spec next ++ on else off)) ≤ past → AllByRecursion (IsChannel p count low past) (if b then channels_from device spec next ++ on else off)
channel_if p count low past device next spec on off true here below from on_so off_so room =
    let counted = other_one (subs_of spec) (channels_from device spec next) on (channels_others device next spec) in (
      record { below = below; opened = here; first = λ none. refl; other = λ more. absurd (omega (arith, more)) },
      all_join (IsChannel p count low past) (subs_from device spec 1 next (subs_of spec)) on
          (subs_are p count low past device 1 next (subs_of spec) spec here below (omega arith) from (omega (arith, room, counted))) (on_so (omega (arith, room, counted))),
    )
channel_if p count low past device next spec on off false here below from on_so off_so room = off_so room

pub channels_are : (p : ℕ → Bool) (count low past device next : ℕ) (specs : List DeviceSpec) → device + length specs ≤ count → low ≤ next → next + length (others (opened_from p device next specs)) ≤ past
    → AllByRecursion (IsChannel p count low past) (opened_from p device next specs)
channels_are p count low past device next [] few from room = tt
channels_are p count low past device next (spec ∷ specs) few from room =
    channel_if p count low past device next spec (opened_from p (device + 1) (next + subs_of spec) specs) (opened_from p (device + 1) next specs) (p device) refl (omega (arith, few)) from
    (λ r. channels_are p count low past (device + 1) (next + subs_of spec) specs (omega (arith, few)) (omega (arith, from)) r)
    (λ r. channels_are p count low past (device + 1) next specs (omega (arith, few)) from r) room

-- they are no more than the devices have
subs_count : (device sub relid n : ℕ) (spec : DeviceSpec) → length (subs_from device spec sub relid n) ≡ n
subs_count device sub relid zero spec = refl
subs_count device sub relid (suc n) spec = ap (λ k. suc k) (subs_count device (sub + 1) (relid + 1) n spec)

all_of_device : (spec : DeviceSpec) → channels_of spec ≡ 1 + subs_of spec
all_of_device spec = refl

few_if : (device next most : ℕ) (spec : DeviceSpec) (on off : List PhaseOpening) (b : Bool) → length on ≤ most → length off ≤ most → length (if b then channels_from device spec next ++ on else off) ≤ channels_of spec + most
few_if device next most spec on off true some none =
    let subs = subs_from device spec 1 next (subs_of spec) in
    let joined = length-append subs on in
    let count = subs_count device 1 next (subs_of spec) spec in
    let all = all_of_device spec in
    omega (arith, joined, count, all, some)
few_if device next most spec on off false some none = omega (arith, none)

pub channels_few : (p : ℕ → Bool) (device next : ℕ) (specs : List DeviceSpec) → length (opened_from p device next specs) ≤ sum_by channels_of specs
channels_few p device next [] = omega arith
channels_few p device next (spec ∷ specs) =
    let one = few_if device next (sum_by channels_of specs) spec (opened_from p (device + 1) (next + subs_of spec) specs) (opened_from p (device + 1) next specs) (p device) (channels_few p (device + 1) (next + subs_of spec) specs) (channels_few p (device + 1) next specs) in
    let sum = sum_by-cons channels_of spec specs in
    omega (arith, one, sum)

others_one : (b : Bool) (c : PhaseOpening) (cs xs : List PhaseOpening) → length xs ≤ length cs → length (cond b (c ∷ xs) xs) ≤ suc (length cs)
others_one true c cs xs few = omega (arith, few)
others_one false c cs xs few = omega (arith, few)

pub others_few : (cs : List PhaseOpening) → length (others cs) ≤ length cs
others_few [] = omega arith
others_few (c ∷ cs) = others_one (not (c.sub == 0)) c cs (others cs) (others_few cs)

-- a channel's relid
pub named : (p : ℕ → Bool) (count low past : ℕ) (c : PhaseOpening) → IsChannel p count low past c → count ≤ 16 → 1 ≤ low → past ≤ most_channels + 1 → (1 ≤ c.relid) × (c.relid ≤ most_channels)
named p count low past c is few some room =
    by_test {P = (1 ≤ c.relid) × (c.relid ≤ most_channels)} (c.sub == 0)
    (λ yes. let none : c.sub ≡ 0 = grind (arith, nat_tests, yes) in let relid = is.first none in let below = is.below in (omega (arith, relid), omega (arith, relid, below, few)))
    (λ no. let more : 1 ≤ c.sub = grind (arith, nat_tests, no) in let relid = is.other more in (omega (arith, relid.0, some), omega (arith, relid.1, room)))

-- their openings

abbrev pub opening : (ℕ → ℕ) → (ℕ → Fate) → ℕ → ℕ → PhaseOpening → Opening
opening sizes fates gpadl page c = record { relid = c.relid; sub = c.sub; ring_pages = sizes c.device; gpadl = gpadl; first_page = page; rescinded = (fates c.device).rescinded; vp = vp_at (fates c.device).vp c.sub; dialed = None; buffers = has_buffers c.spec }

pub many_from : (sizes : ℕ → ℕ) (fates : ℕ → Fate) (gpadl page : ℕ) (cs : List PhaseOpening) → length (openings_from sizes fates gpadl page cs) ≡ length cs
many_from sizes fates gpadl page [] = refl
many_from sizes fates gpadl page (c ∷ cs) = ap (λ n. suc n) (many_from sizes fates (gpadl + lists_for c) (page + pages_for sizes c) cs)

pub each_from : (sizes : ℕ → ℕ) (fates : ℕ → Fate) (P : Opening → Type 0) (Q : PhaseOpening → Type 0) → ((c : PhaseOpening) (g q : ℕ) → Q c → P (opening sizes fates g q c)) → (gpadl page : ℕ) (cs : List PhaseOpening) → AllByRecursion Q cs
    → All P (openings_from sizes fates gpadl page cs)
each_from sizes fates P Q so gpadl page [] all = All-nil P
each_from sizes fates P Q so gpadl page (c ∷ cs) all =
    All-cons P (opening sizes fates gpadl page c) (openings_from sizes fates (gpadl + lists_for c) (page + pages_for sizes c) cs) (so c gpadl page all.0) (each_from sizes fates P Q so (gpadl + lists_for c) (page + pages_for sizes c) cs all.1)

pub lists_few : (b : Bool) → lists_with b ≤ 3
lists_few true = omega arith
lists_few false = omega arith

pub pages_few_one : (b : Bool) (n : ℕ) → n ≤ 16 → pages_with b n ≤ 162
pages_few_one true n few = omega (arith, few)
pages_few_one false n few = omega (arith, few)

pub fits_from : (sizes : ℕ → ℕ) (fates : ℕ → Fate) (gpadl page : ℕ) (cs : List PhaseOpening) → ((d : ℕ) → IsSize (sizes d)) → AllByRecursion (λ c. (1 ≤ c.relid) × (c.relid ≤ most_channels)) cs → gpadl + 3 * length cs ≤ 2 ^ 32 → page + 162 * length cs < 2 ^ 64
    → All (λ o. IsOpening o) (openings_from sizes fates gpadl page cs)
fits_from sizes fates gpadl page [] sized relids fits room = All-nil (λ o. IsOpening o)
fits_from sizes fates gpadl page (c ∷ cs) sized relids fits room =
    let size = sized c.device in
    let lists = lists_few (has_buffers c.spec) in
    let pages = pages_few_one (has_buffers c.spec) (sizes c.device) size.1 in
    let one : IsOpening (opening sizes fates gpadl page c) = record {
      named = relids.0.0;
      few = relids.0.1;
      some_pages = size.0;
      few_pages = size.1;
      numbered = omega (arith, size.1, room);
      handled = omega (arith, fits);
      alone = λ e. absurd (let wrong : false ≡ true = e in cc);
      port = tt;
    } in
    All-cons (λ o. IsOpening o) (opening sizes fates gpadl page c) (openings_from sizes fates (gpadl + lists_for c) (page + pages_for sizes c) cs) one
    (fits_from sizes fates (gpadl + lists_for c) (page + pages_for sizes c) cs sized relids.1 (omega (arith, lists, fits)) (omega (arith, pages, room)))

pub pages_few : (sizes : ℕ → ℕ) (cs : List PhaseOpening) → ((d : ℕ) → IsSize (sizes d)) → pages_in sizes cs ≤ 162 * length cs
pages_few sizes [] sized = omega arith
pages_few sizes (c ∷ cs) sized = let rest = pages_few sizes cs sized in let one = pages_few_one (has_buffers c.spec) (sizes c.device) (sized c.device).1 in omega (arith, rest, one)

pub lists_few_in : (cs : List PhaseOpening) → lists_in cs ≤ 3 * length cs
lists_few_in [] = omega arith
lists_few_in (c ∷ cs) = let rest = lists_few_in cs in let one = lists_few (has_buffers c.spec) in omega (arith, rest, one)

pub follow_from : (sizes : ℕ → ℕ) (fates : ℕ → Fate) (gpadl page : ℕ) (cs : List PhaseOpening) (os : List Opening) → Follows (gpadl + lists_in cs) (page + pages_in sizes cs) os → Follows gpadl page (openings_from sizes fates gpadl page cs ++ os)
follow_from sizes fates gpadl page [] os rest =
    let g : gpadl + 0 ≡ gpadl = omega arith in
    let p : page + 0 ≡ page = omega arith in
    subst (λ k. Follows k page os) g (subst (λ k. Follows (gpadl + 0) k os) p rest)
follow_from sizes fates gpadl page (c ∷ cs) os rest =
    let g : gpadl + (lists_for c + lists_in cs) ≡ (gpadl + lists_for c) + lists_in cs = omega arith in
    let p : page + (pages_for sizes c + pages_in sizes cs) ≡ (page + pages_for sizes c) + pages_in sizes cs = omega arith in
    (refl, refl, follow_from sizes fates (gpadl + lists_for c) (page + pages_for sizes c) cs os (subst (λ k. Follows k ((page + pages_for sizes c) + pages_in sizes cs) os) g (subst (λ k. Follows (gpadl + (lists_for c + lists_in cs)) k os) p rest)))

-- those of first channels alone are offered from the start
pub offered_from : (sizes : ℕ → ℕ) (fates : ℕ → Fate) (p : ℕ → Bool) (count low past gpadl page : ℕ) (cs : List PhaseOpening) → AllByRecursion (IsChannel p count low past) cs
    → All (λ o. is_later o ≡ false → o.relid ≤ count) (openings_from sizes fates gpadl page cs)
offered_from sizes fates p count low past gpadl page cs are =
    each_from sizes fates (λ o. is_later o ≡ false → o.relid ≤ count) (IsChannel p count low past) (λ c g q is first. let relid = is.first (none_by c.sub first) in let below = is.below in omega (arith, relid, below)) gpadl page cs are

-- each sub-channel has its number
seats_from : (sizes : ℕ → ℕ) (fates : ℕ → Fate) (gpadl page device sub relid n : ℕ) (spec : DeviceSpec) (on : List PhaseOpening) → ((m g q : ℕ) → Seated m (openings_from sizes fates g q on))
    → Seated sub (openings_from sizes fates gpadl page (subs_from device spec sub relid n ++ on))
seats_from sizes fates gpadl page device sub relid zero spec on rest = rest sub gpadl page
seats_from sizes fates gpadl page device sub relid (suc n) spec on rest = (λ is. refl, seats_from sizes fates (gpadl + lists_with (has_buffers spec)) (page + pages_with (has_buffers spec) (sizes device)) device (sub + 1) (relid + 1) n spec on rest)

seated_if : (sizes : ℕ → ℕ) (fates : ℕ → Fate) (m gpadl page device next : ℕ) (spec : DeviceSpec) (on off : List PhaseOpening) (b : Bool) → ((m g q : ℕ) → Seated m (openings_from sizes fates g q on)) → ((m g q : ℕ) → Seated m (openings_from sizes fates g q off))
    → Seated m (openings_from sizes fates gpadl page (if b then channels_from device spec next ++ on else off))
seated_if sizes fates m gpadl page device next spec on off true on_so off_so =
    (λ is. absurd (let wrong : false ≡ true = is in cc), seats_from sizes fates (gpadl + lists_with (has_buffers spec)) (page + pages_with (has_buffers spec) (sizes device)) device 1 next (subs_of spec) spec on on_so)
seated_if sizes fates m gpadl page device next spec on off false on_so off_so = off_so m gpadl page

pub seated_from : (sizes : ℕ → ℕ) (fates : ℕ → Fate) (p : ℕ → Bool) (m gpadl page device next : ℕ) (specs : List DeviceSpec) → Seated m (openings_from sizes fates gpadl page (opened_from p device next specs))
seated_from sizes fates p m gpadl page device next [] = tt
seated_from sizes fates p m gpadl page device next (spec ∷ specs) =
    seated_if sizes fates m gpadl page device next spec (opened_from p (device + 1) (next + subs_of spec) specs) (opened_from p (device + 1) next specs) (p device)
    (λ k g q. seated_from sizes fates p k g q (device + 1) (next + subs_of spec) specs) (λ k g q. seated_from sizes fates p k g q (device + 1) next specs)

-- no sub-channels stand behind a network
no_subs_if : (sizes : ℕ → ℕ) (fates : ℕ → Fate) (gpadl page device next : ℕ) (spec : DeviceSpec) (on off : List PhaseOpening) (b : Bool) → first_subs (openings_from sizes fates gpadl page off) ≡ []
    → first_subs (openings_from sizes fates gpadl page (if b then channels_from device spec next ++ on else off)) ≡ []
no_subs_if sizes fates gpadl page device next spec on off true off_so = refl
no_subs_if sizes fates gpadl page device next spec on off false off_so = off_so

no_subs : (sizes : ℕ → ℕ) (fates : ℕ → Fate) (p : ℕ → Bool) (gpadl page device next : ℕ) (specs : List DeviceSpec) → first_subs (openings_from sizes fates gpadl page (opened_from p device next specs)) ≡ []
no_subs sizes fates p gpadl page device next [] = refl
no_subs sizes fates p gpadl page device next (spec ∷ specs) =
    no_subs_if sizes fates gpadl page device next spec (opened_from p (device + 1) (next + subs_of spec) specs) (opened_from p (device + 1) next specs) (p device) (no_subs sizes fates p gpadl page (device + 1) next specs)

bare_subs : (sizes : ℕ → ℕ) (fates : ℕ → Fate) (gpadl page device sub relid n : ℕ) (spec : DeviceSpec) (on : List PhaseOpening) → has_buffers spec ≡ false → ((g q : ℕ) → Bare (openings_from sizes fates g q on))
    → Bare (openings_from sizes fates gpadl page (subs_from device spec sub relid n ++ on))
bare_subs sizes fates gpadl page device sub relid zero spec on none rest = rest gpadl page
bare_subs sizes fates gpadl page device sub relid (suc n) spec on none rest =
    ((λ e. absurd (let wrong : true ≡ false = sym e ∙ none in cc)), bare_subs sizes fates (gpadl + lists_with (has_buffers spec)) (page + pages_with (has_buffers spec) (sizes device)) device (sub + 1) (relid + 1) n spec on none rest)

bare_plain : (sizes : ℕ → ℕ) (fates : ℕ → Fate) (gpadl page device next : ℕ) (spec : DeviceSpec) (on : List PhaseOpening) → has_buffers spec ≡ false → ((g q : ℕ) → Bare (openings_from sizes fates g q on)) → Bare (openings_from sizes fates gpadl page (channels_from device spec next ++ on))
bare_plain sizes fates gpadl page device next spec on none rest =
    ((λ e. absurd (let wrong : true ≡ false = sym e ∙ none in cc)), bare_subs sizes fates (gpadl + lists_with (has_buffers spec)) (page + pages_with (has_buffers spec) (sizes device)) device 1 next (subs_of spec) spec on none rest)

bare_channels : (sizes : ℕ → ℕ) (fates : ℕ → Fate) (gpadl page device next : ℕ) (spec : DeviceSpec) (on : List PhaseOpening) → ((g q : ℕ) → first_subs (openings_from sizes fates g q on) ≡ []) → ((g q : ℕ) → Bare (openings_from sizes fates g q on))
    → Bare (openings_from sizes fates gpadl page (channels_from device spec next ++ on))
bare_channels sizes fates gpadl page device next (Net mac station) on first rest = ((λ e. first (gpadl + 3) (page + pages_with true (sizes device))), rest (gpadl + 3) (page + pages_with true (sizes device)))
bare_channels sizes fates gpadl page device next spec on first rest = bare_plain sizes fates gpadl page device next spec on refl rest

bare_if : (sizes : ℕ → ℕ) (fates : ℕ → Fate) (gpadl page device next : ℕ) (spec : DeviceSpec) (on off : List PhaseOpening) (b : Bool) → ((g q : ℕ) → first_subs (openings_from sizes fates g q on) ≡ []) → ((g q : ℕ) → Bare (openings_from sizes fates g q on)) → ((g q : ℕ) → Bare (openings_from sizes fates g q off))
    → Bare (openings_from sizes fates gpadl page (if b then channels_from device spec next ++ on else off))
bare_if sizes fates gpadl page device next spec on off true first on_so off_so = bare_channels sizes fates gpadl page device next spec on first on_so
bare_if sizes fates gpadl page device next spec on off false first on_so off_so = off_so gpadl page

pub bare_from : (sizes : ℕ → ℕ) (fates : ℕ → Fate) (p : ℕ → Bool) (gpadl page device next : ℕ) (specs : List DeviceSpec) → Bare (openings_from sizes fates gpadl page (opened_from p device next specs))
bare_from sizes fates p gpadl page device next [] = tt
bare_from sizes fates p gpadl page device next (spec ∷ specs) =
    let on = opened_from p (device + 1) (next + subs_of spec) specs in
    bare_if sizes fates gpadl page device next spec on (opened_from p (device + 1) next specs) (p device)
    (λ g q. no_subs sizes fates p g q (device + 1) (next + subs_of spec) specs) (λ g q. bare_from sizes fates p g q (device + 1) (next + subs_of spec) specs) (λ g q. bare_from sizes fates p g q (device + 1) next specs)

-- the relids of first channels rise
passed : (b : Bool) (least : ℕ) (o : Opening) (os : List Opening) → b ≡ false → Rising least os → Rising least (cond b (o ∷ os) os)
passed true least o os is rise = absurd (cc)
passed false least o os is rise = rise

subs_passed : (sizes : ℕ → ℕ) (fates : ℕ → Fate) (least gpadl page device sub relid n : ℕ) (spec : DeviceSpec) (on : List PhaseOpening) → 1 ≤ sub → ((g q : ℕ) → Rising least (firsts (openings_from sizes fates g q on)))
    → Rising least (firsts (openings_from sizes fates gpadl page (subs_from device spec sub relid n ++ on)))
subs_passed sizes fates least gpadl page device sub relid zero spec on some rest = rest gpadl page
subs_passed sizes fates least gpadl page device sub relid (suc n) spec on some rest =
    let c : PhaseOpening = record { relid = relid; device = device; spec = spec; sub = sub } in
    passed (sub == 0) least (opening sizes fates gpadl page c) (firsts (openings_from sizes fates (gpadl + lists_with (has_buffers spec)) (page + pages_with (has_buffers spec) (sizes device)) (subs_from device spec (sub + 1) (relid + 1) n ++ on))) (grind (arith, nat_tests, some))
    (subs_passed sizes fates least (gpadl + lists_with (has_buffers spec)) (page + pages_with (has_buffers spec) (sizes device)) device (sub + 1) (relid + 1) n spec on (omega arith) rest)

rising_less : (least more : ℕ) (os : List Opening) → least ≤ more → Rising more os → Rising least os
rising_less least more [] less rise = tt
rising_less least more (o ∷ os) less rise = (omega (arith, less, rise.0), rise.1)

rising_if : (sizes : ℕ → ℕ) (fates : ℕ → Fate) (gpadl page device next : ℕ) (spec : DeviceSpec) (on off : List PhaseOpening) (b : Bool) → ((g q : ℕ) → Rising ((device + 1) + 1) (firsts (openings_from sizes fates g q on))) → ((g q : ℕ) → Rising ((device + 1) + 1) (firsts (openings_from sizes fates g q off)))
    → Rising (device + 1) (firsts (openings_from sizes fates gpadl page (if b then channels_from device spec next ++ on else off)))
rising_if sizes fates gpadl page device next spec on off true on_so off_so =
    (omega arith, subs_passed sizes fates ((device + 1) + 1) (gpadl + lists_with (has_buffers spec)) (page + pages_with (has_buffers spec) (sizes device)) device 1 next (subs_of spec) spec on (omega arith) on_so)
rising_if sizes fates gpadl page device next spec on off false on_so off_so = rising_less (device + 1) ((device + 1) + 1) (firsts (openings_from sizes fates gpadl page off)) (omega arith) (off_so gpadl page)

pub rising_from : (sizes : ℕ → ℕ) (fates : ℕ → Fate) (p : ℕ → Bool) (gpadl page device next : ℕ) (specs : List DeviceSpec) → Rising (device + 1) (firsts (openings_from sizes fates gpadl page (opened_from p device next specs)))
rising_from sizes fates p gpadl page device next [] = tt
rising_from sizes fates p gpadl page device next (spec ∷ specs) =
    rising_if sizes fates gpadl page device next spec (opened_from p (device + 1) (next + subs_of spec) specs) (opened_from p (device + 1) next specs) (p device)
    (λ g q. rising_from sizes fates p g q (device + 1) (next + subs_of spec) specs) (λ g q. rising_from sizes fates p g q (device + 1) next specs)

-- the relids of sub-channels are those of the channels
keep_one : (b : Bool) (o : Opening) (c : PhaseOpening) (os : List Opening) (cs : List PhaseOpening) → o.relid ≡ c.relid → map (λ (x : Opening). x.relid) os ≡ map (λ (x : PhaseOpening). x.relid) cs
    → map (λ (x : Opening). x.relid) (cond b (o ∷ os) os) ≡ map (λ (x : PhaseOpening). x.relid) (cond b (c ∷ cs) cs)
keep_one true o c os cs here rest = (λ i. here i ∷ rest i)
keep_one false o c os cs here rest = rest

pub subs_made : (sizes : ℕ → ℕ) (fates : ℕ → Fate) (gpadl page : ℕ) (cs : List PhaseOpening) → map (λ (x : Opening). x.relid) (laters (openings_from sizes fates gpadl page cs)) ≡ map (λ (x : PhaseOpening). x.relid) (others cs)
subs_made sizes fates gpadl page [] = refl
subs_made sizes fates gpadl page (c ∷ cs) =
    let rest = subs_made sizes fates (gpadl + lists_for c) (page + pages_for sizes c) cs in
    keep_one (not (c.sub == 0)) (opening sizes fates gpadl page c) c (laters (openings_from sizes fates (gpadl + lists_for c) (page + pages_for sizes c) cs)) (others cs) refl rest
