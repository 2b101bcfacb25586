-- What a store and a load of a page word make of the pages of an end.
use Rattle.std.specs.Prelude.{ℕ, ◌+◌, ◌*◌, ltb, cond, List, [], ◌∷◌, ◌++◌, slice_index, slice_set}
use Rattle.page_kept.specs.Items.{Item, item_of, values}
use Rattle.page_kept.specs.Kept.{Kept, Due, Clear, Loads, PageCall, Off, StoreWord, LoadWords, copy_in}

-- the word w of page q in a list where the pages begin at this place: 0 where there is none
abbrev pub word_in : ℕ → List ℕ → ℕ → ℕ → ℕ
word_in base ws q w = cond (ltb w 512) (slice_index ws (base + (512 * q + w))) 0

-- one word of the copy is v, with these items got, and this due
abbrev pub with_word : Kept → ℕ → ℕ → ℕ → List Item → Due → Kept
with_word k q w v got due = record { count = k.count; sent = k.sent; got = got; owners = k.owners; copy = slice_set k.copy (512 * q + w) v; due = due; call = k.call }

-- a page word was stored
abbrev pub page_stored : Kept → ℕ → ℕ → ℕ → Kept
page_stored k q w v = with_word k q w v k.got k.due

-- A due word was loaded. With the last one packet p, that was taken last, is got with its page words
abbrev pub page_loaded_at : Due → Kept → List ℕ → ℕ → Kept
page_loaded_at Clear k p v = k
page_loaded_at (Loads q n j) k p v =
    cond (ltb (j + 1) n) (with_word k q j v k.got (Loads q n (j + 1))) (with_word k q j v (k.got ++ item_of p (values n (copy_in (with_word k q j v k.got Clear) q)) ∷ []) Clear)

abbrev pub page_loaded : Kept → List ℕ → ℕ → Kept
page_loaded k p v = page_loaded_at k.due k p v

-- what is left of a page call after its step
abbrev pub call_fed : PageCall → PageCall
call_fed Off = Off
call_fed (StoreWord q w v) = Off
call_fed (LoadWords q n j) = cond (ltb (j + 1) n) (LoadWords q n (j + 1)) Off

-- the end is in this page call
abbrev pub with_call : PageCall → Kept → Kept
with_call c k = record { count = k.count; sent = k.sent; got = k.got; owners = k.owners; copy = k.copy; due = k.due; call = c }

-- A step of a page call was made, that answered v. Packet p was taken last
abbrev pub page_fed : PageCall → Kept → List ℕ → ℕ → Kept
page_fed Off k p v = k
page_fed (StoreWord q w u) k p v = with_call Off (page_stored k q w u)
page_fed (LoadWords q n j) k p v = with_call (call_fed (LoadWords q n j)) (page_loaded k p v)
