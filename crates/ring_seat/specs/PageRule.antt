-- What holds of a channel with data pages between any two steps, beside the rule of its rings.
use Rattle.std.specs.Prelude.{◌≡◌, ℕ, ◌+◌, ◌*◌, ◌≤◌, Bool, true, false, List, length, take}
use Rattle.io_edge.specs.declared.side.Side.{Side}
use Rattle.page_kept.specs.Items.{packets}
use Rattle.page_kept.specs.Keepers.{Keeper, keeper, MaySend}
use Rattle.page_kept.specs.Layouts.{layout}
use Rattle.page_kept.specs.Stepped.{word_in}
use Rattle.page_kept.specs.declared.due.Due.TheVariants.{Clear}
use Rattle.ring_loan_rule.specs.Pages.{PagesOwned}
use Rattle.ring_machine.specs.declared.machine.Stage.{Stage}
use Rattle.ring_machine.specs.declared.machine.Stage.TheVariants.{SendRead, SendCell, SendWrite, TakeWrite, TakeFirst, TakeCell}
use Rattle.ring_machine.specs.declared.state.EndState.{EndState}
use Rattle.ring_machine.specs.Places.{words_of, peer_of}

-- the words of both rings, of the signals and of the marks: those before the page words
abbrev pub ring_words : ℕ → List ℕ → List ℕ
ring_words n ws = take (words_of n) ws

-- a send before its store of the write index
abbrev pub is_unsent_at : Stage → Bool
is_unsent_at SendRead = true
is_unsent_at SendCell = true
is_unsent_at SendWrite = true
is_unsent_at _ = false

-- a take before its last load
abbrev pub is_taking_at : Stage → Bool
is_taking_at TakeWrite = true
is_taking_at TakeFirst = true
is_taking_at TakeCell = true
is_taking_at _ = false

-- an end's part of the pages' rule, in a channel of c data pages
abbrev pub keeper_of : ℕ → Side → EndState → Keeper
keeper_of c x e = keeper (layout c) x e.got e.pages

-- One end's own part: its lists are as long as the channel has pages, its items are the packets that it sent, a send under way is one that it may send,
-- and nothing is due in a send or a take
pub record OwnPages (c : ℕ) (x : Side) (e : EndState) : Type 0 where
  pub count : e.pages.count ≡ c
  pub listed : length e.pages.owners ≡ c
  pub copied : length e.pages.copy ≡ 512 * c
  pub sent : packets e.pages.sent ≡ e.sent
  pub sending : is_unsent_at e.machine.stage ≡ true → MaySend (layout c) (keeper_of c x e) e.packet
  pub taking : is_taking_at e.machine.stage ≡ true → e.pages.due ≡ Clear

-- an end x and its peer: the page words stand behind the words of both rings
pub record PagesPart (n c : ℕ) (ws : List ℕ) (x : Side) (e p : EndState) : Type 0 where
  pub wide : words_of n + 512 * c ≤ length ws
  pub mine : OwnPages c x e
  pub theirs : packets p.pages.sent ≡ p.sent
  pub owned : PagesOwned (layout c) x (word_in (words_of n) ws) (keeper_of c x e) (keeper_of c (peer_of x) p)

-- where the word w of page q stands
abbrev pub page_index : ℕ → ℕ → ℕ → ℕ
page_index n q w = words_of n + (512 * q + w)
