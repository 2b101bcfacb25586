-- What calls answer, and the cause of each answer in what an end keeps.
use Rattle.std.specs.Prelude.{◌≡◌, ◌≢◌, ℕ, ◌+◌, ◌^◌, ◌<◌, ◌≤◌, ◌==◌, true, false, List, [], ◌∷◌, length, slice_index_or, Some}
use Rattle.io_edge.specs.declared.side.Side.{Side}
use Rattle.pkt_desc.specs.Packets.{kind_of, id_of}
use Rattle.page_kept.specs.declared.kept.Kept.{Kept}
use Rattle.page_kept.specs.declared.due.Due.TheVariants.{Clear, Loads}
use Rattle.page_kept.specs.declared.owner.Owner.TheVariants.{Has}
use Rattle.page_kept.specs.Keepers.{Keeper, MaySend, MayStore, asked, taken, ended, back}
use Rattle.page_kept.specs.Layouts.{Loan, Layout, layout}
use Rattle.page_call_plan.specs.Answers.{took, planned, page_due, page_not_owned, page_outside, id_open, id_not_owed, no_ids}
use Rattle.page_call_plan.specs.Ids.{IdSlot, free}
use Rattle.page_call_plan.specs.Shown.{MayStoreAll}
use Rattle.page_call_plan.specs.Slots.{PageSlot, Fits, owner_of}

-- each slot has requests: of another id, or as many as it can count
pub record NoRoom (t : ℕ) (ss : List IdSlot) : Type 0 where
  pub used : (i : ℕ) → i < length ss → (slice_index_or ss i free).count ≢ 0
  pub counted : (i : ℕ) → i < length ss → (slice_index_or ss i free).tid ≡ t → 2 ^ 64 ≤ (slice_index_or ss i free).count + 1

-- each slot has requests
abbrev pub NoFree : List IdSlot → Type 0
NoFree ss = (i : ℕ) → i < length ss → (slice_index_or ss i free).count ≢ 0

-- What a send of packet p answers, of an end whose numbers fit, where x is its part in the pages: it may be sent; or words are to be loaded first; or the packet names a page that the end doesn't
-- have, or one that it has under the id of a request that isn't completed; or it completes no request that is owed; or its id finds no slot
pub data SendAnswer (l : Layout) (x : Keeper) (asks : List IdSlot) (p : List ℕ) (a : ℕ) : Type 0 where
  Lets : a ≡ planned → MaySend l x p → SendAnswer l x asks p a
  LoadsFirst : a ≡ page_due → x.due ≢ Clear → SendAnswer l x asks p a
  NotHad : (n : Loan) → a ≡ page_not_owned → (kind_of p == 11) ≡ false → l.lends p ≡ Some n → x.owner n.page ≢ Has → SendAnswer l x asks p a
  StillOpen : (n : Loan) → a ≡ id_open → (kind_of p == 11) ≡ false → l.lends p ≡ Some n → back (id_of p) x < asked (id_of p) x → SendAnswer l x asks p a
  NotOwed : a ≡ id_not_owed → (kind_of p == 11) ≡ true → taken (id_of p) x ≤ ended (id_of p) x → SendAnswer l x asks p a
  NoSlot : a ≡ no_ids → (kind_of p == 11) ≡ false → NoRoom (id_of p) asks → SendAnswer l x asks p a

-- What a store of n words of page q from w on answers, of an end whose numbers fit: each of them may be stored to; or words are to be loaded first; or no word of the page may be stored to; or
-- some may, and not all of these
pub data StoreAnswer (s : Side) (k : Kept) (q w n a : ℕ) : Type 0 where
  LetsAll : a ≡ planned → MayStoreAll s k q w n → StoreAnswer s k q w n a
  LoadsBefore : a ≡ page_due → k.due ≢ Clear → StoreAnswer s k q w n a
  NoWord : a ≡ page_not_owned → ((i : ℕ) → MayStore (layout k.count) s k q i → ⊥) → StoreAnswer s k q w n a
  NotAll : a ≡ page_outside → MayStore (layout k.count) s k q 0 → (MayStoreAll s k q w n → ⊥) → StoreAnswer s k q w n a

-- What a take answers, of an end whose numbers fit, before a packet is there: it may be made; or words are to be loaded first; or a request would find no slot
pub data TakeAnswer (k : Kept) (owed : List IdSlot) (a : ℕ) : Type 0 where
  LetsTake : a ≡ planned → k.due ≡ Clear → TakeAnswer k owed a
  LoadsEarlier : a ≡ page_due → k.due ≢ Clear → TakeAnswer k owed a
  NoFreeSlot : a ≡ no_ids → NoFree owed → TakeAnswer k owed a

-- what a take answers once it is done, where the end keeps k then: no page came with the packet; or the first n words of page q did, and are to be loaded
pub data TookAnswer (k : Kept) (a : ℕ) : Type 0 where
  NoPage : a ≡ took → k.due ≡ Clear → TookAnswer k a
  PageCame : (q n : ℕ) → a ≡ page_due → k.due ≡ Loads q n 0 → q < k.count → 0 < n → n ≤ 512 → TookAnswer k a

-- each page that is lent or held is so with 1 to 512 words
abbrev pub AllFit : List PageSlot → Type 0
AllFit [] = Unit {0}
AllFit (s ∷ ss) = Fits (owner_of s) × AllFit ss
