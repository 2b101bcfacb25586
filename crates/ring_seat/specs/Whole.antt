-- The whole rule of the pages of a channel, over both ends, and what it tells at the end.
use Rattle.std.specs.Prelude.{◌≡◌, ◌≢◌, ℕ, ◌+◌, ◌*◌, ◌<◌, ◌≤◌, Bool, true, List, [], ◌∷◌, ◌++◌, length, slice_set, Some}
use Rattle.channel_trace.specs.Runs.{IsFront}
use Rattle.io_edge.specs.declared.side.Side.{Side}
use Rattle.io_edge.specs.declared.side.Side.TheVariants.{Guest, Host}
use Rattle.page_kept.specs.Items.{packets}
use Rattle.page_kept.specs.declared.item.Item.{Item}
use Rattle.page_kept.specs.Keepers.{MayStore}
use Rattle.page_kept.specs.Layouts.{layout}
use Rattle.page_kept.specs.Stepped.{word_in, page_stored, page_loaded}
use Rattle.page_kept.specs.declared.due.Due.TheVariants.{Clear, Loads}
use Rattle.ring_loan_rule.specs.Pages.{PagesOwned}
use Rattle.ring_machine.specs.PageCalls.{with_pages}
use Rattle.ring_seat.specs.PageRule.{ring_words, keeper_of, OwnPages, page_index}
use Rattle.ring_machine.specs.declared.machine.EndMachine.{EndMachine}
use Rattle.ring_machine.specs.declared.machine.Stage.TheVariants.{Idle}
use Rattle.ring_machine.specs.declared.state.EndState.{EndState}
use Rattle.ring_machine.specs.declared.place.Op.{Op}
use Rattle.ring_machine.specs.Places.{words_of, peer_of}
use Rattle.ring_machine.specs.Steps.{machine_new, next_of}
use Rattle.ring_machine.specs.States.{after, entered, resting, resting_with, Begins}
use Rattle.ring_core.specs.Pages.{first_kept}
use Rattle.ring_core.specs.Told.{written, answer_in}
use Rattle.ring_seat.specs.Rule.{ChannelInvariant, with_end}

-- the pages of a channel of c data pages, none where c is 0
pub record PagesRule (n c : ℕ) (ws : List ℕ) (ends : Side → EndState) : Type 0 where
  pub wide : words_of n + 512 * c ≤ length ws
  pub own : (x : Side) → OwnPages c x (ends x)
  pub owned : PagesOwned (layout c) Guest (word_in (words_of n) ws) (keeper_of c Guest (ends Guest)) (keeper_of c Host (ends Host))

-- the rule of a channel's table: the rings' rule on the words before the pages, and where there are data pages, theirs
pub record WholeRule (n c : ℕ) (ws : List ℕ) (ends : Side → EndState) : Type 0 where
  pub rings : ChannelInvariant n (ring_words n ws) ends
  pub pages : c ≢ 0 → PagesRule n c ws ends

-- a new end of a channel of c data pages
abbrev pub new_paged : ℕ → ℕ → Side → EndState
new_paged n c x = resting_with (machine_new x n) [] [] [] (first_kept x c)

-- a step of an end x, a call of it that begins, a store and a load of a page word keep the rule
abbrev pub StepKeeps : Type 0
StepKeeps = (n c : ℕ) (x : Side) (ws : List ℕ) (ends : Side → EndState) (op : Op) → c ≢ 0 → WholeRule n c ws ends → next_of (ends x).machine (ends x).packet ≡ Some op
    → WholeRule n c (written n op ws) (with_end x (after (ends x) (answer_in n op ws)) ends)

abbrev pub CallKeeps : Type 0
CallKeeps = (n c : ℕ) (x : Side) (ws : List ℕ) (ends : Side → EndState) (m : EndMachine) (q : List ℕ) → c ≢ 0 → WholeRule n c ws ends → Begins (ends x) m q
    → WholeRule n c ws (with_end x (entered (ends x) m q) ends)

abbrev pub StoreKeeps : Type 0
StoreKeeps = (n c : ℕ) (x : Side) (ws : List ℕ) (ends : Side → EndState) (q w v : ℕ) → c ≢ 0 → WholeRule n c ws ends → (ends x).machine.stage ≡ Idle → MayStore (layout c) x (ends x).pages q w
    → WholeRule n c (slice_set ws (page_index n q w) v) (with_end x (with_pages (ends x) (page_stored (ends x).pages q w v)) ends)

abbrev pub LoadKeeps : Type 0
LoadKeeps = (n c : ℕ) (x : Side) (ws : List ℕ) (ends : Side → EndState) (q m j : ℕ) → c ≢ 0 → WholeRule n c ws ends → (ends x).machine.stage ≡ Idle → (ends x).pages.due ≡ Loads q m j → q < c → j < 512
    → (pk : List ℕ) × ((ends x).got ≡ packets (ends x).pages.got ++ pk ∷ []) × WholeRule n c ws (with_end x (with_pages (ends x) (page_loaded (ends x).pages pk (word_in (words_of n) ws q j))) ends)

-- Packets that an end got, and those that its peer sent, each packet with its page words: the got ones are the front of the sent ones, and all of them where the
-- end is drained
pub record ItemsGot (is_drained : Bool) (got : List (List ℕ)) (got_items : List Item) (sent : List (List ℕ)) (sent_items : List Item) : Type 0 where
  pub packets_are : packets got_items ≡ got
  pub front : IsFront got_items sent_items
  pub sent_are : packets sent_items ≡ sent
  pub drained : is_drained ≡ true → got_items ≡ sent_items

-- What the rule tells of an end that has nothing to load: it got the front of its peer's items, with their page words, and all of them where it is drained
abbrev pub GotItems : EndState → EndState → Type 0
GotItems e p = ItemsGot e.machine.drained e.got e.pages.got p.sent p.pages.sent

-- and of any end: the packets that it got with their page words are the front of its peer's. Where words are to be loaded the packet that came last isn't among them
abbrev pub FrontTells : Type 0
FrontTells = (n c : ℕ) (x : Side) (ws : List ℕ) (ends : Side → EndState) → c ≢ 0 → WholeRule n c ws ends → IsFront (ends x).pages.got (ends (peer_of x)).pages.sent

abbrev pub EndTells : Type 0
EndTells = (n c : ℕ) (x : Side) (ws : List ℕ) (ends : Side → EndState) → c ≢ 0 → WholeRule n c ws ends → (ends x).pages.due ≡ Clear → GotItems (ends x) (ends (peer_of x))

-- a new channel
abbrev pub NewKeeps : Type 0
NewKeeps = (n c : ℕ) (ws : List ℕ) → 512 ≤ n → n ≤ 16777216 → words_of n + 512 * c ≤ length ws → ChannelInvariant n (ring_words n ws) (λ x. resting (machine_new x n) [] [] []) → ((q w : ℕ) → word_in (words_of n) ws q w ≡ 0)
    → WholeRule n c ws (new_paged n c)
