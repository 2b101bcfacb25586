-- An end whose pages go by plans keeps the rule of pages.
use Rattle.std.proofs.Common.{◌≡◌, ◌≢◌, ℕ, ◌+◌, ◌*◌, ◌<◌, ◌≤◌, List, [], ◌∷◌, ◌++◌, length, set, length-set, refl, sym, ap, ◌∙◌, subst, arith}
use Rattle.io_edge.specs.declared.side.Side.{Side}
use Rattle.page_kept.specs.declared.kept.Kept.{Kept}
use Rattle.page_kept.specs.declared.item.Item.{Item}
use Rattle.page_kept.specs.Kept.{pages_sent, pages_took}
use Rattle.page_kept.specs.Keepers.{Keeper, keeper, MayStore}
use Rattle.page_kept.specs.Layouts.{layout}
use Rattle.page_kept.specs.Stepped.{word_in, page_stored}
use Rattle.ring_loan_rule.specs.Laws.{Lawful, Next}
use Rattle.ring_loan_rule.specs.Pages.{PagesOwned}
use Rattle.ring_loan_rule.proofs.Keeping.{keeps_sent, keeps_took}
use Rattle.ring_loan_rule.proofs.Steps.{keeps_stored}
use Rattle.page_call_plan.specs.declared.end.PageEnd.{PageEnd}
use Rattle.page_call_plan.specs.declared.ids.IdSlot.{IdSlot}
use Rattle.page_call_plan.specs.declared.slot.PageSlot.{PageSlot}
use Rattle.page_call_plan.specs.Answers.{no_call, no_ids, planned}
use Rattle.page_call_plan.specs.Ends.{send_says, store_says, took_says}
use Rattle.page_call_plan.specs.Shown.{Shows, MayStoreAll, part_of, stores}
use Rattle.page_call_plan.proofs.Showing.{may_send, takes_clear, stores_may}
use Rattle.page_call_plan_laws.specs.Words.{words_stored}

module _ (s : Side) (base : ℕ) (ws : List ℕ) (got : List (List ℕ)) (k : Kept) (y : Keeper) (e : PageEnd) (ss : List PageSlot) (asks owed : List IdSlot) (fit : Lawful (layout k.count) k) (o : PagesOwned (layout k.count) s (word_in base ws) (part_of s got k) y) (sh : Shows s got k e ss asks owed) where
  pub sends : (n : ℕ) (p : List ℕ) → send_says e n ss asks owed p ≡ planned → PagesOwned (layout k.count) s (word_in base ws) (keeper (layout k.count) s got (pages_sent (layout k.count) k p)) y
  sends n p lets = keeps_sent (layout k.count) s (word_in base ws) got k y fit o p (may_send s got k e ss asks owed sh n p lets)

  pub takes : (i : Item) (more : List Item) (a : ℕ) → Next y (part_of s got k) i more → no_call ≢ a → no_ids ≢ a → took_says e ss owed i.packet ≡ a
      → PagesOwned (layout k.count) s (word_in base ws) (keeper (layout k.count) s (got ++ i.packet ∷ []) (pages_took (layout k.count) k i.packet)) y
  takes i more a nx some room lets = keeps_took (layout k.count) s (word_in base ws) got k y fit o (sh.due ∙ takes_clear s got k e ss asks owed sh i.packet a some room lets) i more nx

-- a store of a word leaves what the next one asks
pub still : (s : Side) (k : Kept) (q w v a n : ℕ) → MayStoreAll s k q a n → MayStoreAll s (page_stored k q w v) q a n
still s k q w v a n may = λ i low high. let m = may i low high in record { clear = m.clear; page = m.page; word = m.word; owns = m.owns }

lawful : (k : Kept) (q w v : ℕ) → Lawful (layout k.count) k → Lawful (layout k.count) (page_stored k q w v)
lawful k q w v fit = record { pages = fit.pages; listed = fit.listed; copied = length-set k.copy (512 * q + w) v ∙ fit.copied; inside = fit.inside }

pub stored : (s : Side) (base : ℕ) (ws : List ℕ) (got : List (List ℕ)) (k : Kept) (y : Keeper) (q w : ℕ) (vs : List ℕ) → Lawful (layout k.count) k → base + 512 * k.count ≤ length ws → PagesOwned (layout k.count) s (word_in base ws) (part_of s got k) y
    → MayStoreAll s k q w (length vs) → PagesOwned (layout k.count) s (word_in base (words_stored base ws q w vs)) (keeper (layout k.count) s got (stores k q w vs)) y
stored s base ws got k y q w [] fit all o may = o
stored s base ws got k y q w (v ∷ vs) fit all o may =
    stored s base (set ws (base + (512 * q + w)) v) got (page_stored k q w v) y q (w + 1) vs (lawful k q w v fit) (omega (arith, all, length-set ws (base + (512 * q + w)) v))
    (keeps_stored (layout k.count) s base ws got k y fit all o q w v (may w (omega arith) (omega arith)))
    (still s k q w v (w + 1) (length vs) (λ i low high. may i (omega (arith, low)) (omega (arith, high))))
