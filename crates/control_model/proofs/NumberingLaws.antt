-- The openings of a phase, one after the other.
use Rattle.std.proofs.Common.{◌≡◌, ◌∙◌, ℕ, ◌+◌, ◌<◌, Bool, List, [], ◌∷◌, ◌++◌, length, take, get_or, sym, ap, subst, arith, append_assoc, None}
use Rattle.std.specs.Prelude.{All}
use Rattle.std.proofs.lemmas.List.{take_more, length-map, get_or-map, get_or_default}
use Rattle.std.proofs.lemmas.List.Elements.{All-nil, All-cons}
use Rattle.script_lines.specs.declared.line.Line.{Line}
use Rattle.script_lines.specs.declared.line.DeviceSpec.{DeviceSpec}
use Rattle.script_lines.specs.declared.line.DeviceSpec.TheVariants.{Beat}
use Rattle.script_phases.specs.Says.{said_to}
use Rattle.script_phases.specs.Openings.{Opening as PhaseOpening}
use Rattle.phase_plan.specs.declared.device_lines.DeviceLines.{DeviceLines}
use Rattle.phase_plan.specs.declared.opening.Opening.{Opening as Place}
use Rattle.phase_plan.specs.Told.{IsTold}
use Rattle.phase_plan.specs.Opened.{plain}
use Rattle.control_model.specs.declared.opening.Opening.{Opening}
use Rattle.control_model.specs.declared.planning.Next.{Next}
use Rattle.control_model.specs.declared.planning.Fate.{Fate}
use Rattle.control_model.specs.Plan.{lists_with, pages_with}
use Rattle.control_model.specs.Openings.{openings_from, lists_in, pages_in, lists_for, pages_for, has_buffers, vp_at, fate_of}
use Rattle.control_model.specs.Numbering.{AreChannels, Numbered}

-- openings of two lists of channels
openings_append : (sizes : ℕ → ℕ) (fates : ℕ → Fate) (gpadl page : ℕ) (xs ys : List PhaseOpening) → openings_from sizes fates gpadl page (xs ++ ys) ≡ openings_from sizes fates gpadl page xs ++ openings_from sizes fates (gpadl + lists_in xs) (page + pages_in sizes xs) ys
openings_append sizes fates gpadl page [] ys =
    let a : gpadl ≡ gpadl + 0 = omega arith in
    let b : page ≡ page + 0 = omega arith in
    (λ i. openings_from sizes fates (a i) (b i) ys)
openings_append sizes fates gpadl page (x ∷ xs) ys =
    let lists : ℕ = lists_for x in
    let size : ℕ = pages_for sizes x in
    let first : Opening = record { relid = x.relid; sub = x.sub; ring_pages = sizes x.device; gpadl = gpadl; first_page = page; rescinded = (fates x.device).rescinded; vp = vp_at (fates x.device).vp x.sub; dialed = None; buffers = has_buffers x.spec } in
    let rest : List Opening = openings_from sizes fates (gpadl + lists) (page + size) xs in
    let a : (gpadl + lists) + lists_in xs ≡ gpadl + (lists + lists_in xs) = omega arith in
    let b : (page + size) + pages_in sizes xs ≡ page + (size + pages_in sizes xs) = omega arith in
    ap (λ (os : List Opening). first ∷ os) (openings_append sizes fates (gpadl + lists) (page + size) xs ys) ∙ (λ i. first ∷ (rest ++ openings_from sizes fates (a i) (b i) ys))

lists_append : (xs ys : List PhaseOpening) → lists_in (xs ++ ys) ≡ lists_in xs + lists_in ys
lists_append [] ys = omega arith
lists_append (x ∷ xs) ys = let rest = lists_append xs ys in omega (arith, rest)

pages_append : (sizes : ℕ → ℕ) (xs ys : List PhaseOpening) → pages_in sizes (xs ++ ys) ≡ pages_in sizes xs + pages_in sizes ys
pages_append sizes [] ys = omega arith
pages_append sizes (x ∷ xs) ys = let rest = pages_append sizes xs ys in omega (arith, rest)

-- none yet
pub numbered_none : (pages : ℕ → ℕ) (fates : ℕ → Fate) (os : List Opening) (next : Next) → os ≡ [] → Numbered pages fates [] [] next os next
numbered_none pages fates os next none = record { openings = none; gpadl = omega arith; page = omega arith }

-- and more behind these
numbered_join : (pages : ℕ → ℕ) (fates : ℕ → Fate) (cs ds : List PhaseOpening) (before os os' : List Opening) (next0 next next' : Next) → Numbered pages fates cs before next0 os next → Numbered pages fates ds os next os' next' → Numbered pages fates (cs ++ ds) before next0 os' next'
numbered_join pages fates cs ds before os os' next0 next next' so_far one =
    let g = so_far.gpadl in
    let q = so_far.page in
    let lists = lists_append cs ds in
    let sizes = pages_append pages cs ds in
    record {
      openings =
          one.openings ∙ (λ i. so_far.openings i ++ openings_from pages fates (g i) (q i) ds) ∙ append_assoc before (openings_from pages fates next0.gpadl next0.page cs) (openings_from pages fates (next0.gpadl + lists_in cs) (next0.page + pages_in pages cs) ds)
          ∙ ap (λ l. before ++ l) (sym (openings_append pages fates next0.gpadl next0.page cs ds));
      gpadl = let h = one.gpadl in omega (arith, h, g, lists);
      page = let h = one.page in omega (arith, h, q, sizes);
    }

no_channel : PhaseOpening
no_channel = record { relid = 0; device = 0; spec = Beat; sub = 0 }

one_of : {X : Type 0} (P : X → Type 0) (x : X) → P x → All P (x ∷ [])
one_of P x p = All-cons P x [] p (All-nil P)

-- with the channel at a place
pub numbered_next : (pages : ℕ → ℕ) (part : List Line) (specs : List DeviceSpec) (sizes : List ℕ) (devices : List DeviceLines) (cs : List PhaseOpening) (opened : List Place) (i : ℕ) (d : Place) (os os' : List Opening) (next0 next next' : Next)
    → AreChannels pages part specs sizes devices cs opened → i < length opened → Numbered pages (λ device. fate_of device part) (take i cs) [] next0 os next
    → ((pages : ℕ → ℕ) (part : List Line) (c : PhaseOpening) → AreChannels pages part specs sizes devices (c ∷ []) (get_or opened i d ∷ []) → Numbered pages (λ device. fate_of device part) (c ∷ []) os next os' next')
    → Numbered pages (λ device. fate_of device part) (take (i + 1) cs) [] next0 os' next'
numbered_next pages part specs sizes devices cs opened i d os os' next0 next next' are less so_far one =
    let within : i < length cs = let long = length-map cs plain in omega (arith, less, ap length are.same, long) in
    let c = get_or cs i no_channel in
    let here : plain c ≡ get_or opened i d = sym (get_or-map plain cs i no_channel d within) ∙ ap (λ l. get_or l i d) are.same in
    let mine : AreChannels pages part specs sizes devices (c ∷ []) (get_or opened i d ∷ []) = record {
      same = ap (λ (p : Place). p ∷ []) here;
      specs_are = one_of (λ (x : PhaseOpening). x.spec ≡ get_or specs x.device x.spec) c (are.specs_are i no_channel within);
      sizes_are = are.sizes_are;
      dealt = are.dealt;
    } in
    subst (λ l. Numbered pages (λ device. fate_of device part) l [] next0 os' next') (sym (take_more cs i no_channel within))
    (numbered_join pages (λ device. fate_of device part) (take i cs) (c ∷ []) [] os os' next0 next next' so_far (one pages part c mine))

-- what opening one channel leaves: its opening, and what comes next
abbrev pub Opened : ℕ → ℕ → ℕ → Fate → Bool → List Opening → Next → List Opening → Next → Type 0
Opened relid sub ring_pages fate buffers os next os' next' =
    (os' ≡ os ++ record { relid = relid; sub = sub; ring_pages = ring_pages; gpadl = next.gpadl; first_page = next.page; rescinded = fate.rescinded; vp = vp_at fate.vp sub; dialed = None; buffers = buffers } ∷ [])
    × (next' ≡ record { gpadl = next.gpadl + lists_with buffers; page = next.page + pages_with buffers ring_pages })

-- a channel, by what stands of its device
pub one_numbered : (pages : ℕ → ℕ) (part : List Line) (specs : List DeviceSpec) (sizes : List ℕ) (devices : List DeviceLines) (c : PhaseOpening) (o : Place) (lines : DeviceLines) (fate : Fate) (buffers : Bool) (os os' : List Opening) (next next' : Next)
    → AreChannels pages part specs sizes devices (c ∷ []) (o ∷ []) → o.device < length devices → length specs ≡ length devices → length sizes ≡ length devices → lines ≡ get_or devices o.device lines → ((d : ℕ) (p : List Line) → IsTold (said_to d p) lines → fate ≡ fate_of d p)
    → buffers ≡ has_buffers (get_or specs o.device Beat) → Opened o.relid o.sub (get_or sizes o.device 0) fate buffers os next os' next' → Numbered pages (λ device. fate_of device part) (c ∷ []) os next os' next'
one_numbered pages part specs sizes devices c o lines fate buffers os os' next next' are below specs_long sizes_long lines_are fate_is buffers_are opened =
    let here : plain c ≡ o = ap (λ (l : List Place). get_or l 0 o) are.same in
    let device : o.device ≡ c.device = sym (ap (λ (q : Place). q.device) here) in
    let relid : o.relid ≡ c.relid = sym (ap (λ (q : Place). q.relid) here) in
    let sub : o.sub ≡ c.sub = sym (ap (λ (q : Place). q.sub) here) in
    let size : get_or sizes o.device 0 ≡ pages c.device = are.sizes_are o.device 0 (omega (arith, below, sizes_long)) ∙ ap pages device in
    let told : fate ≡ fate_of c.device part = fate_is o.device part (subst (IsTold (said_to o.device part)) (sym lines_are) (are.dealt o.device lines below)) ∙ ap (λ d. fate_of d part) device in
    let spec : get_or specs o.device Beat ≡ c.spec = get_or_default specs o.device Beat c.spec (omega (arith, below, specs_long)) ∙ ap (λ d. get_or specs d c.spec) device ∙ sym (are.specs_are 0 c (omega arith)) in
    let bufs : buffers ≡ has_buffers c.spec = buffers_are ∙ ap has_buffers spec in
    let gpadl = ap (λ (n : Next). n.gpadl) opened.1 in
    let page = ap (λ (n : Next). n.page) opened.1 in
    let lists : lists_with buffers ≡ lists_for c = ap lists_with bufs in
    let all : pages_with buffers (get_or sizes o.device 0) ≡ pages_for pages c = (λ i. pages_with (bufs i) (size i)) in
    record {
      openings =
          opened.0
          ∙ (λ i. os ++ record { relid = relid i; sub = sub i; ring_pages = size i; gpadl = next.gpadl; first_page = next.page; rescinded = (told i).rescinded; vp = vp_at (told i).vp (sub i); dialed = None; buffers = bufs i } ∷ []);
      gpadl = omega (arith, gpadl, lists);
      page = omega (arith, page, all);
    }
