-- What the steps of a page call make of an end.
use Rattle.std.proofs.Common.{◌≡◌, ℕ, suc, ◌+◌, ◌*◌, ◌<◌, Bool, true, false, ltb, cond, List, [], ◌∷◌, ◌++◌, length, Option, Some, None, refl, sym, ap, ◌∙◌, subst, inl, arith}
use Rattle.std.specs.Prelude.{slice_set}
use Rattle.std.proofs.lemmas.Bool.Decides.{nat_tests}
use Rattle.channel_trace.specs.declared.event.Event.{Event}
use Rattle.page_kept.specs.declared.due.Due.TheVariants.{Clear, Loads}
use Rattle.page_kept.specs.declared.item.Item.{Item}
use Rattle.page_kept.specs.declared.kept.Kept.{Kept}
use Rattle.page_kept.specs.declared.page_call.PageCall.{PageCall}
use Rattle.page_kept.specs.declared.page_call.PageCall.TheVariants.{Off, StoreWord, LoadWords}
use Rattle.page_kept.specs.Items.{item_of, values}
use Rattle.page_kept.specs.Stepped.{with_call, page_fed}
use Rattle.page_table.specs.Table.{Table, word_of}
use Rattle.ring_machine.specs.declared.machine.EndMachine.{EndMachine}
use Rattle.ring_machine.specs.declared.page_core.PageCore.{PageCore}
use Rattle.ring_machine.specs.declared.place.Op.{Op}
use Rattle.ring_machine.specs.declared.place.Op.TheVariants.{Load, Store}
use Rattle.ring_machine.specs.declared.place.Place.TheVariants.{Page}
use Rattle.ring_machine.specs.declared.state.EndState.{EndState}
use Rattle.ring_machine.specs.PageCalls.{ContinuesPage, after_page, lent_load_begun, newest, page_op, page_store_begun, paged, pages_fed, with_pages}
use Rattle.ring_machine.specs.States.{resting_with}
use Rattle.ring_core.specs.declared.told.Told.{Told}
use Rattle.ring_core.specs.Pages.{Paged, items_of, kept_of, resting_in}
use Rattle.ring_core.proofs.Paging.{first_of, newest_tail, other_of}
use Rattle.ring_core.specs.Told.{HeardJust, Memory, pair, answer_of, memory_after, told_page, Tale}
use Rattle.ring_core.specs.PageRuns.{page_afters, page_step, page_step_by, page_run, steps_in, told_paged, RanPages}

-- what is told while a page call is under way: it begins with its first step
abbrev pub held_at : EndState → PageCall → List ℕ → EndState
held_at s c [] = s
held_at s c (v ∷ vs) = page_afters s c (v ∷ vs)

-- a page call changes the pages alone
pub only_pages : (s : EndState) (c : PageCall) (vs : List ℕ) → page_afters s c vs ≡ with_pages s (page_afters s c vs).pages
only_pages s c [] = refl
only_pages s c (v ∷ vs) = ap (λ (x : EndState). with_pages x (page_afters s c (v ∷ vs)).pages) (only_pages s c vs)

-- the page call c, that began at the state s, has made j steps, and is the call d now
pub record Paging (s : EndState) (c d : PageCall) (told told' : Option Told) (tale tale' : Tale) (j : ℕ) : Type 0 where
  pub values : List ℕ
  pub each : length values ≡ j
  pub call : (page_afters s c values).pages.call ≡ d
  pub silent : told ≡ None → told' ≡ None
  pub tells : (u : Told) → told ≡ Some u → told' ≡ Some (told_paged (length values) (held_at s c values) u)
  pub runs : (m : Memory) → tale.memory ≡ Some m → (m' : Memory) × (tale'.memory ≡ Some m') × (page_run (length values) (pair (paged s c) m) ≡ pair (page_afters s c values) m')
  pub hears : HeardJust tale tale' values

-- the call that is told of is under way, at its first step too
held_paged : (s : EndState) (c d : PageCall) (vs : List ℕ) → (page_afters s c vs).pages.call ≡ d → paged (held_at s c vs) d ≡ page_afters s c vs
held_paged s c d [] e = ap (paged s) (sym e)
held_paged s c d (v ∷ vs) e = ap (paged (page_afters s c (v ∷ vs))) (sym e)

pub paging_first : (s : EndState) (c d : PageCall) (told : Option Told) (tale : Tale) → c ≡ d → ((u : Told) → told ≡ Some u → u.state ≡ s) → Paging s c d told told tale tale 0
paging_first s c d told tale is at = record {
  values = [];
  each = refl;
  call = is;
  silent = λ e. e;
  tells = λ u e.
      let steps : u.steps ≡ u.steps + 0 = omega arith in
      e ∙ (λ i. Some (record { state = at u e i; steps = steps i; raised = u.raised; woke = u.woke }));
  runs = λ m e. (m, e, refl);
  hears = λ vs e. e;
}

module _ (s : EndState) (c d : PageCall) (told told' told'' : Option Told) (tale tale' tale'' : Tale) (j v : ℕ) (op : Op) (it : Paging s c d told told' tale tale' j)
    (named : page_op d ≡ Some op)
    (quiet : told' ≡ None → told'' ≡ None)
    (tells : (u : Told) → told' ≡ Some u → told'' ≡ Some (told_page u d v))
    (runs : (m : Memory) → tale'.memory ≡ Some m → (tale''.memory ≡ Some (memory_after s.machine.cells op m)) × (v ≡ answer_of s.machine.cells op m))
    (hears : HeardJust tale' tale'' (v ∷ [])) where
  told_on : (u : Told) → told ≡ Some u → told'' ≡ Some (told_paged (length (v ∷ it.values)) (page_afters s c (v ∷ it.values)) u)
  told_on u e =
      let steps : (u.steps + length it.values) + 1 ≡ u.steps + length (v ∷ it.values) = omega arith in
      tells (told_paged (length it.values) (held_at s c it.values) u) (it.tells u e)
      ∙ (λ i. Some (record { state = after_page (held_paged s c d it.values it.call i) v; steps = steps i; raised = u.raised; woke = u.woke }))

  run_on : (m : Memory) → tale.memory ≡ Some m → (m' : Memory) × (tale''.memory ≡ Some m') × (page_run (length (v ∷ it.values)) (pair (paged s c) m) ≡ pair (page_afters s c (v ∷ it.values)) m')
  run_on m e =
      let r = it.runs m e in
      let t = runs r.0 r.1 in
      let now : EndState = page_afters s c it.values in
      let is : page_op now.pages.call ≡ Some op = ap page_op it.call ∙ named in
      let cells : now.machine.cells ≡ s.machine.cells = ap (λ (x : EndState). x.machine.cells) (only_pages s c it.values) in (
        memory_after s.machine.cells op r.0,
        t.0,
        ap page_step r.2
            ∙ (ap (λ (o : Option Op). page_step_by o (pair now r.0)) is
            ∙ (ap (λ (n : ℕ). pair (after_page now (answer_of n op r.0)) (memory_after n op r.0)) cells
            ∙ ap (λ (w : ℕ). pair (after_page now w) (memory_after s.machine.cells op r.0)) (sym t.1))),
      )

  pub paging_on : (d' : PageCall) (j' : ℕ) → j' ≡ suc j → (page_afters s c (v ∷ it.values)).pages.call ≡ d' → Paging s c d' told told'' tale tale'' j'
  paging_on d' j' is e = record {
    values = v ∷ it.values;
    each = ap suc it.each ∙ sym is;
    call = e;
    silent = λ h. quiet (it.silent h);
    tells = told_on;
    runs = run_on;
    hears = λ vs e. hears (it.values ++ vs) (it.hears vs e);
  }

-- what the seat asks at the next step of a page call: it goes on, or begins at its first step
pub paging_asks : (s : EndState) (c d : PageCall) (told told' : Option Told) (tale tale' : Tale) (j : ℕ) → Paging s c d told told' tale tale' j → ContinuesPage s c
    → (u : Told) → told' ≡ Some u → ContinuesPage u.state d
paging_asks s c d None told' tale tale' j it may u e = absurd (let z : None ≡ Some u = sym (it.silent refl) ∙ e in cc)
paging_asks s c d (Some t) told' tale tale' j it may u e =
    let same : told_paged (length it.values) (held_at s c it.values) t ≡ u = (let z : Some (told_paged (length it.values) (held_at s c it.values) t) ≡ Some u = sym (it.tells t refl) ∙ e in cc) in
    subst (λ (x : Told). ContinuesPage x.state d) same (by_values it.values it.call)
  where
    by_values : (vs : List ℕ) → (page_afters s c vs).pages.call ≡ d → ContinuesPage (held_at s c vs) d
    by_values [] e = subst (λ (x : PageCall). ContinuesPage s x) e may
    by_values (v ∷ vs) e = inl (sym e)

pub ran_pages : (s t : EndState) (c d : PageCall) (told told' : Option Told) (tale tale' : Tale) (j : ℕ) (it : Paging s c d told told' tale tale' j) → 0 < j → j ≡ steps_in c → t ≡ page_afters s c it.values
    → RanPages s t c told told' tale tale'
ran_pages s t c d told told' tale tale' j it some long e = record {
  values = it.values;
  state = e;
  each = it.each ∙ long;
  silent = it.silent;
  tells = λ u h. it.tells u h ∙ ap (λ (x : EndState). Some (told_paged (length it.values) x u)) (ended it.values (omega (arith, some, it.each)) ∙ sym e);
  runs = λ m h. let r = it.runs m h in (r.0, r.1, r.2 ∙ ap (λ (x : EndState). pair x r.0) (sym e));
  hears = it.hears;
}
  where
    ended : (vs : List ℕ) → 0 < length vs → held_at s c vs ≡ page_afters s c vs
    ended [] h = absurd (omega (arith, h))
    ended (v ∷ vs) h = refl

less : (a b : ℕ) → a < b → ltb a b ≡ true
less a b h = grind (arith, nat_tests, h)

past_all : (n : ℕ) → ltb n n ≡ false
past_all n = grind (arith, nat_tests)

-- the last of the packets is the one whose page words were still to come
pub items_last : (ps ws : List (List ℕ)) (w : List ℕ) → length ps ≡ length ws + 1 → items_of ps (ws ++ w ∷ []) ≡ items_of ps ws ++ item_of (newest ps) w ∷ []
items_last [] ws w e = absurd (omega (arith, e))
items_last (p ∷ []) [] w e = refl
items_last (p ∷ []) (v ∷ vs) w e = absurd (omega (arith, e))
items_last (p ∷ q ∷ ps) [] w e = absurd (omega (arith, e))
items_last (p ∷ q ∷ ps) (v ∷ vs) w e =
    ap (λ (is : List Item). item_of p v ∷ is) (items_last (q ∷ ps) vs w (omega (arith, e)))
    ∙ ap (λ (x : List ℕ). item_of p v ∷ (items_of (q ∷ ps) vs ++ item_of x w ∷ [])) (sym (newest_tail p q ps))

-- the page call of a load of n words of page q that has made j steps, and what the machine knows of the pages
abbrev pub loads_at : ℕ → ℕ → ℕ → PageCall
loads_at q n j = cond (ltb j n) (LoadWords q n j) Off

abbrev pub core_at : PageCore → ℕ → ℕ → ℕ → PageCore
core_at k q n j = record { count = k.count; call = loads_at q n j; due = Clear }

-- with the last word the call ends
pub loaded_off : (q n : ℕ) → loads_at q n n ≡ Off
loaded_off q n = other_of (ltb n n) (LoadWords q n n) Off (past_all n)

module _ (k : PageCore) (sent got : Paged) (t : Table) (q n : ℕ) where
  -- the pages of an end that has loaded some of the words that are due, and of one that has loaded all of them, where its copy is this
  abbrev pub some_in : ℕ → List ℕ → Kept
  some_in j copy = record { count = k.count; sent = items_of sent.list sent.lent; got = items_of got.list got.lent; owners = t.owners; copy = copy; due = Loads q n j; call = LoadWords q n j }

  abbrev pub all_in : List ℕ → Kept
  all_in copy = record { count = k.count; sent = items_of sent.list sent.lent; got = items_of got.list got.lent ++ item_of (newest got.list) (values n (word_of copy q)) ∷ []; owners = t.owners; copy = copy; due = Clear; call = Off }

  abbrev pub kept_in : ℕ → List ℕ → Kept
  kept_in j copy = cond (ltb j n) (some_in j copy) (all_in copy)

  abbrev pub call_in : ℕ → PageCall
  call_in j = loads_at q n j

  abbrev pub core_in : ℕ → PageCore
  core_in j = core_at k q n j

  kept_calls : (b : Bool) (j : ℕ) (copy : List ℕ) → (cond b (some_in j copy) (all_in copy)).call ≡ cond b (LoadWords q n j) Off
  kept_calls true j copy = refl
  kept_calls false j copy = refl

  pub call_is : (j : ℕ) (copy : List ℕ) → (kept_in j copy).call ≡ call_in j
  call_is j copy = kept_calls (ltb j n) j copy

  by_end : (b : Bool) (j v : ℕ) (copy : List ℕ) →
      with_call (cond b (LoadWords q n (j + 1)) Off)
      (cond b (record (some_in j copy) { copy = slice_set copy (512 * q + j) v; due = Loads q n (j + 1) })
      (record (some_in j copy) { got = items_of got.list got.lent ++ item_of (newest got.list) (values n (word_of (slice_set copy (512 * q + j) v) q)) ∷ []; copy = slice_set copy (512 * q + j) v; due = Clear }))
      ≡ cond b (some_in (j + 1) (slice_set copy (512 * q + j) v)) (all_in (slice_set copy (512 * q + j) v))
  by_end true j v copy = refl
  by_end false j v copy = refl

  -- one word more is loaded
  load_more : (j v : ℕ) (copy : List ℕ) → page_fed (LoadWords q n j) (some_in j copy) (newest got.list) v ≡ kept_in (j + 1) (slice_set copy (512 * q + j) v)
  load_more j v copy = by_end (ltb (j + 1) n) j v copy

  pub core_more : (j : ℕ) → j < n → pages_fed (core_in j) ≡ core_in (j + 1)
  core_more j h = ap (λ (c : PageCall). pages_fed (record { count = k.count; call = c; due = Clear })) (first_of (ltb j n) (LoadWords q n j) Off (less j n h))

  pub kept_more : (s : EndState) (c : PageCall) (vs : List ℕ) (j v : ℕ) (copy : List ℕ) → j < n → s.got ≡ got.list → (page_afters s c vs).pages ≡ kept_in j copy
      → (page_afters s c (v ∷ vs)).pages ≡ kept_in (j + 1) (slice_set copy (512 * q + j) v)
  kept_more s c vs j v copy h same kept =
      let now : EndState = page_afters s c vs in
      let packets : now.got ≡ got.list = ap (λ (x : EndState). x.got) (only_pages s c vs) ∙ same in
      let part : now.pages ≡ some_in j copy = kept ∙ first_of (ltb j n) (some_in j copy) (all_in copy) (less j n h) in
      ap (λ (x : Kept). page_fed x.call x (newest now.got) v) part ∙ (ap (λ (ps : List (List ℕ)). page_fed (LoadWords q n j) (some_in j copy) (newest ps) v) packets ∙ load_more j v copy)

  pub load_named : (j : ℕ) → j < n → page_op (call_in j) ≡ Some (Load (Page q j))
  load_named j h = ap page_op (first_of (ltb j n) (LoadWords q n j) Off (less j n h))

  pub kept_first : 0 < n → k.due ≡ Loads q n 0 → with_call (LoadWords q n 0) (kept_of k sent got t) ≡ kept_in 0 t.copy
  kept_first some due =
      (λ i. record { count = k.count; sent = items_of sent.list sent.lent; got = items_of got.list got.lent; owners = t.owners; copy = t.copy; due = due i; call = LoadWords q n 0 })
      ∙ sym (first_of (ltb 0 n) (some_in 0 t.copy) (all_in t.copy) (less 0 n some))

  pub core_first : 0 < n → k.due ≡ Loads q n 0 → lent_load_begun k ≡ core_in 0
  core_first some due =
      (λ i. lent_load_begun (record { count = k.count; call = k.call; due = due i }))
      ∙ sym (ap (λ (c : PageCall). record { count = k.count; call = c; due = Clear }) (first_of (ltb 0 n) (LoadWords q n 0) Off (less 0 n some)))

  -- all words are loaded, and kept with the packet
  pub kept_all : (got' : Paged) (t' : Table) (k' : PageCore) → length got.list ≡ length got.lent + 1 → k' ≡ core_in n → t'.owners ≡ t.owners → got'.list ≡ got.list → got'.lent ≡ got.lent ++ values n (word_of t'.copy q) ∷ []
      → kept_of k' sent got' t' ≡ kept_in n t'.copy
  kept_all got' t' k' long core owners list lent =
      let off : core_in n ≡ record { count = k.count; call = Off; due = Clear } = ap (λ (c : PageCall). record { count = k.count; call = c; due = Clear }) (other_of (ltb n n) (LoadWords q n n) Off (past_all n)) in
      let is : k' ≡ record { count = k.count; call = Off; due = Clear } = core ∙ off in
      let items : items_of got'.list got'.lent ≡ items_of got.list got.lent ++ item_of (newest got.list) (values n (word_of t'.copy q)) ∷ [] =
      (λ i. items_of (list i) (lent i)) ∙ items_last got.list got.lent (values n (word_of t'.copy q)) long in
      (λ i. record { count = (is i).count; sent = items_of sent.list sent.lent; got = items i; owners = owners i; copy = t'.copy; due = (is i).due; call = (is i).call })
      ∙ sym (other_of (ltb n n) (some_in n t'.copy) (all_in t'.copy) (past_all n))

-- an end that loads n words of page q has made j steps, and its copy is this
pub record LoadedSome (s : EndState) (k : PageCore) (sent got : Paged) (t : Table) (q n j : ℕ) (copy : List ℕ) (told told' : Option Told) (tale tale' : Tale) : Type 0 where
  pub paging : Paging s (LoadWords q n 0) (call_in k sent got t q n j) told told' tale tale' j
  pub kept : (page_afters s (LoadWords q n 0) paging.values).pages ≡ kept_in k sent got t q n j copy

module _ (m : EndMachine) (k : PageCore) (sent got : Paged) (past : List (Event (List ℕ))) (t : Table) (q n : ℕ) where
  abbrev base : EndState
  base = resting_in m k sent got past t

  pub some_first : (told : Option Told) (tale : Tale) → 0 < n → k.due ≡ Loads q n 0 → ((u : Told) → told ≡ Some u → u.state ≡ base) → LoadedSome base k sent got t q n 0 t.copy told told tale tale
  unfolding paging_first
  some_first told tale some due at = record {
    paging = paging_first base (LoadWords q n 0) (call_in k sent got t q n 0) told tale (sym (first_of (ltb 0 n) (LoadWords q n 0) Off (less 0 n some))) at;
    kept = kept_first k sent got t q n some due;
  }

  pub some_more : (j v : ℕ) (copy : List ℕ) (told told' told'' : Option Told) (tale tale' tale'' : Tale) → LoadedSome base k sent got t q n j copy told told' tale tale' → j < n
      → (told' ≡ None → told'' ≡ None)
      → ((u : Told) → told' ≡ Some u → told'' ≡ Some (told_page u (call_in k sent got t q n j) v))
      → ((x : Memory) (op : Op) → tale'.memory ≡ Some x → page_op (call_in k sent got t q n j) ≡ Some op → (tale''.memory ≡ Some (memory_after m.cells op x)) × (v ≡ answer_of m.cells op x))
      → HeardJust tale' tale'' (v ∷ []) → LoadedSome base k sent got t q n (j + 1) (slice_set copy (512 * q + j) v) told told'' tale tale''
  unfolding paging_on
  some_more j v copy told told' told'' tale tale' tale'' it h quiet tells runs hears =
      let named = load_named k sent got t q n j h in
      let kept = kept_more k sent got t q n base (LoadWords q n 0) it.paging.values j v copy h refl it.kept in
      record {
        paging = paging_on base (LoadWords q n 0) (call_in k sent got t q n j) told told' told'' tale tale' tale'' j v (Load (Page q j)) it.paging named quiet tells (λ x e. runs x (Load (Page q j)) e named) hears (call_in k sent got t q n (j + 1)) (j + 1)
            (omega arith) (ap (λ (x : Kept). x.call) kept ∙ call_is k sent got t q n (j + 1) (slice_set copy (512 * q + j) v));
        kept = kept;
      }

  -- all words are loaded, and kept with the packet that was taken last
  pub some_all : (told told' : Option Told) (tale tale' : Tale) (got' : Paged) (t' : Table) (m' : EndMachine) (k' : PageCore) (sent' : Paged) (past' : List (Event (List ℕ))) → LoadedSome base k sent got t q n n t'.copy told told' tale tale' → 0 < n
      → length got.list ≡ length got.lent + 1 → m' ≡ m → sent' ≡ sent → past' ≡ past → k' ≡ core_in k sent got t q n n → t'.owners ≡ t.owners → got'.list ≡ got.list → got'.lent ≡ got.lent ++ values n (word_of t'.copy q) ∷ []
      → RanPages base (resting_in m' k' sent' got' past' t') (LoadWords q n 0) told told' tale tale'
  some_all told told' tale tale' got' t' m' k' sent' past' it some long machine sents pasts core owners list lent =
      let vs = it.paging.values in
      let pages : kept_of k' sent' got' t' ≡ (page_afters base (LoadWords q n 0) vs).pages =
      ap (λ (l : Paged). kept_of k' l got' t') sents ∙ (kept_all k sent got t q n got' t' k' long core owners list lent ∙ sym it.kept) in
      let is : resting_in m' k' sent' got' past' t' ≡ page_afters base (LoadWords q n 0) vs =
      (λ i. resting_with (machine i) (ap (λ (l : Paged). l.list) sents i) (list i) (pasts i) (pages i)) ∙ sym (only_pages base (LoadWords q n 0) vs) in
      ran_pages base (resting_in m' k' sent' got' past' t') (LoadWords q n 0) (call_in k sent got t q n n) told told' tale tale' n it.paging some (omega arith) is

  -- a word was stored
  pub stored_one : (w x v : ℕ) (told told' : Option Told) (tale tale' : Tale) (t' : Table) (m' : EndMachine) (k' : PageCore) (sent' got' : Paged) (past' : List (Event (List ℕ))) → ((u : Told) → told ≡ Some u → u.state ≡ base)
      → (told ≡ None → told' ≡ None)
      → ((u : Told) → told ≡ Some u → told' ≡ Some (told_page u (StoreWord q w x) v))
      → ((y : Memory) (op : Op) → tale.memory ≡ Some y → page_op (StoreWord q w x) ≡ Some op → (tale'.memory ≡ Some (memory_after m.cells op y)) × (v ≡ answer_of m.cells op y))
      → HeardJust tale tale' (v ∷ []) → m' ≡ m → sent' ≡ sent → got' ≡ got → past' ≡ past → k' ≡ pages_fed (page_store_begun k q w x) → t'.owners ≡ t.owners → t'.copy ≡ slice_set t.copy (512 * q + w) x
      → RanPages base (resting_in m' k' sent' got' past' t') (StoreWord q w x) told told' tale tale'
  unfolding paging_first paging_on
  stored_one w x v told told' tale tale' t' m' k' sent' got' past' at quiet tells runs hears machine sents gots pasts core owners copy =
      let it = paging_on base (StoreWord q w x) (StoreWord q w x) told told told' tale tale tale' 0 v (Store (Page q w) x) (paging_first base (StoreWord q w x) (StoreWord q w x) told tale refl at) refl quiet tells (λ y e. runs y (Store (Page q w) x) e refl) hears Off 1 (omega arith) refl in
      let is : resting_in m' k' sent' got' past' t' ≡ page_afters base (StoreWord q w x) (v ∷ []) =
      (λ i. resting_with (machine i) (ap (λ (l : Paged). l.list) sents i) (ap (λ (l : Paged). l.list) gots i) (pasts i)
      (record { count = (core i).count; sent = items_of (sents i).list (sents i).lent; got = items_of (gots i).list (gots i).lent; owners = owners i; copy = copy i; due = (core i).due; call = (core i).call })) in
      ran_pages base (resting_in m' k' sent' got' past' t') (StoreWord q w x) Off told told' tale tale' 1 it (omega arith) refl is
