-- A page word that is stored or loaded, in the lists of the words and of the state.
use Rattle.std.proofs.Common.{◌≡◌, ℕ, ◌+◌, ◌*◌, ◌<◌, ◌≤◌, Bool, true, false, cond, ltb, List, [], ◌∷◌, ◌++◌, length, get_or, set, refl, sym, subst, arith}
use Rattle.std.proofs.lemmas.Bool.Decides.{nat_tests}
use Rattle.std.proofs.lemmas.List.{get_or-set_same, get_or-set_other}
use Rattle.io_edge.specs.declared.side.Side.{Side}
use Rattle.page_kept.specs.declared.due.Due.{Due}
use Rattle.page_kept.specs.declared.due.Due.TheVariants.{Clear, Loads}
use Rattle.page_kept.specs.declared.kept.Kept.{Kept}
use Rattle.page_kept.specs.Items.{packets, values, item_of}
use Rattle.page_kept.specs.Layouts.{Layout}
use Rattle.page_kept.specs.Kept.{copy_in}
use Rattle.page_kept.specs.Stepped.{word_in, with_word, page_stored, page_loaded_at, page_loaded}
use Rattle.page_kept.specs.Keepers.{MayStore, Keeper, keeper}
use Rattle.ring_loan_rule.specs.Pages.{Waits, PagesOwned}
use Rattle.ring_loan_rule.specs.Moves.{set_word}
use Rattle.ring_loan_rule.specs.Laws.{Lawful}
use Rattle.ring_loan_rule.proofs.Words.{store_word, waits, load_one, load_all}

-- a word of a page is another one
word_set : (base : ℕ) (ws : List ℕ) (q w v : ℕ) → w < 512 → base + (512 * q + w) < length ws → (r u : ℕ) → word_in base (set ws (base + (512 * q + w)) v) r u ≡ set_word q w v (word_in base ws) r u
word_set base ws q w v small within r u = grind (arith, nat_tests, get_or-set_same, get_or-set_other)

copy_set : (ws : List ℕ) (q w v : ℕ) → w < 512 → 512 * q + w < length ws → (r u : ℕ) → cond (ltb u 512) (get_or (set ws (512 * q + w) v) (512 * r + u) 0) 0 ≡ set_word q w v (λ r u. cond (ltb u 512) (get_or ws (512 * r + u) 0) 0) r u
copy_set ws q w v small within r u = grind (arith, nat_tests, get_or-set_same, get_or-set_other)

module _ (l : Layout) (s : Side) (base : ℕ) (ws : List ℕ) (took : List (List ℕ)) (k : Kept) (y : Keeper) (fit : Lawful l k) (all : base + 512 * k.count ≤ length ws) (o : PagesOwned l s (word_in base ws) (keeper l s took k) y) where
  abbrev x : Keeper
  x = keeper l s took k

  copy_is : (q w v : ℕ) → q < k.count → w < 512 → copy_in (with_word k q w v k.got k.due) ≡ set_word q w v x.copy
  copy_is q w v a b = (λ j r u. copy_set k.copy q w v b (omega (arith, a, b, fit.copied)) r u j)

  words_are : (q w v : ℕ) → q < k.count → w < 512 → word_in base (set ws (base + (512 * q + w)) v) ≡ set_word q w v (word_in base ws)
  words_are q w v a b = (λ j r u. word_set base ws q w v b (omega (arith, a, b, all)) r u j)

  pub keeps_stored : (q w v : ℕ) → MayStore l s k q w → PagesOwned l s (word_in base (set ws (base + (512 * q + w)) v)) (keeper l s took (page_stored k q w v)) y
  keeps_stored q w v may =
      subst (λ (z : (ℕ → ℕ → ℕ) × (ℕ → ℕ → ℕ)). PagesOwned l s z.0 record { sent = k.sent; took = took; got = k.got; owner = x.owner; copy = z.1; due = k.due } y)
      (λ j. (sym (words_are q w v may.page may.word) j, sym (copy_is q w v may.page may.word) j)) (store_word l s (word_in base ws) x y o q w v may.clear may.owns)

  -- a load of a due word, where p is the packet that was taken last
  module _ (q n j : ℕ) (due : k.due ≡ Loads q n j) (a : q < k.count) (b : j < 512) where
    abbrev v : ℕ
    v = word_in base ws q j

    abbrev waiting : Waits (word_in base ws) y x q n j o.inn.rest
    waiting = waits l s (word_in base ws) x y o q n j due

    abbrev pub last_packet : List ℕ
    last_packet = waiting.item.packet

    pub last_is : took ≡ packets k.got ++ last_packet ∷ []
    last_is = waiting.took

    abbrev Now : (ℕ → ℕ → ℕ) → Bool → Type 0
    Now copy c = PagesOwned l s (word_in base ws) record { sent = k.sent; took = took; got = cond c k.got (k.got ++ item_of last_packet (values n (copy q)) ∷ []); owner = x.owner; copy = copy; due = cond c (Loads q n (j + 1)) Clear } y

    pub keeps_loaded : PagesOwned l s (word_in base ws) (keeper l s took (page_loaded k last_packet v)) y
    keeps_loaded = subst (λ (d : Due). PagesOwned l s (word_in base ws) (keeper l s took (page_loaded_at d k last_packet v)) y) (sym due) (loads (ltb (j + 1) n) refl)
      where
        loads : (c : Bool) → ltb (j + 1) n ≡ c → PagesOwned l s (word_in base ws) (keeper l s took (cond c (with_word k q j v k.got (Loads q n (j + 1))) (with_word k q j v (k.got ++ item_of last_packet (values n (copy_in (with_word k q j v k.got Clear) q)) ∷ []) Clear))) y
        loads true e = subst (λ (z : ℕ → ℕ → ℕ). Now z true) (sym (copy_is q j v a b)) (load_one l s (word_in base ws) x y o q n j due (grind (arith, nat_tests, e)))
        loads false e = subst (λ (z : ℕ → ℕ → ℕ). Now z false) (sym (copy_is q j v a b)) (load_all l s (word_in base ws) x y o q n j due (grind (arith, nat_tests, e, waiting.left)))
