-- The protocol that lends keeps to what packets keep to.
use Rattle.std.proofs.Common.{◌≡◌, ℕ, zero, suc, ◌≤◌, ◌+◌, ◌-◌, ◌*◌, ◌/◌, ◌%◌, Bool, true, false, List, [], ◌∷◌, length, take, Some, None, refl, sym, ap, ◌∙◌, arith}
use Rattle.std.specs.Prelude.{if◌then◌else◌, ◌==◌, ◌&&◌, is_some, nat_le, nat_lt}
use Rattle.std.proofs.lemmas.Bool.Decides.{nat_tests}
use Rattle.pkt_desc.specs.Lending.{is_part, lent_of, loan}
use Rattle.pkt_desc.specs.declared.loan.Lent.{Lent}
use Rattle.page_kept.specs.declared.item.Item.{Item}
use Rattle.channel_model.specs.WireFormat.{IsBesides, Keeps}
use Rattle.channel_model.proofs.Opens.{by_test}
use Rattle.channel_model.specs.Amounts.{MayHaveMessages}
use Rattle.channel_protocol.specs.Paged.{KeepsPages, LendsOwnPage, lent_len, words_lent}
use Rattle.page_kept.specs.Items.{item_of}
use Rattle.pkt_desc.specs.Ranges.{high_32, low_32, spans_words}
use Rattle.test_workers.specs.declared.swap.Two.{Two}
use Rattle.test_workers.specs.Swap.{back_of, swap_format, swap_message, swap_request, swap_said, words_read}

none_read : (b : Bool) (n : Two) → b ≡ false → (if b then Some n else None) ≡ None
none_read b n e = ap (λ t. if t then Some n else None) e

some_read : {X : Type 0} (b : Bool) (n : Two) → b ≡ true → (if b then Some n else None) ≡ None → X
some_read b n e f = let bad : Some n ≡ None = sym (ap (λ t. if t then Some n else None) e) ∙ f in absurd (cc)

other_kind : (n : ℕ) → (n == 9) ≡ true → (n == 11) ≡ false
other_kind n e = grind (arith, nat_tests, e)

not_asked : (n : ℕ) → (n == 11) ≡ true → (n == 9) ≡ false
not_asked n e = grind (arith, nat_tests, e)

not_back : (n : ℕ) → (n == 7) ≡ true → (n == 11) ≡ false
not_back n e = grind (arith, nat_tests, e)

besides_kept : (tells : Bool) (i : Item) (r : Two) → IsBesides (swap_format tells) ((swap_format tells).gives i r).message
besides_kept true i r = λ own. record { message = refl; other = refl; same = λ small. refl }
besides_kept false i r = tt

pub swap_keeps : (tells : Bool) → Keeps (swap_format tells)
swap_keeps tells = record {
  given = λ p r e. record { besides = besides_kept tells p r; one = refl; other = refl; same = refl };
  fixes = λ p e f. some_read _ _ e f;
  unread = λ p e. none_read _ _ e;
  silent = λ p e. refl;
  asks = λ p e. e;
  encodes = λ id a. refl;
  waits_ask = λ id a. refl;
  id_kept = λ id a e f. refl;
  id_own = λ id a e. absurd (cc);
  reads = λ id a q r e f own. refl;
  no_result = λ id a before p e. absurd (cc);
  acks = λ p e. (refl, refl);
  ack_asks = λ p e. not_asked _ e;
}

lent_page : (b : Bool) (frame : ℕ) (l : Lent) → loan b frame 32 ≡ Some l → frame ≡ l.page
lent_page true frame l e = let is : (record { page = frame; bytes = 32 }) ≡ l = cc in ap (λ (x : Lent). x.page) is
lent_page false frame l e = absurd (cc)

within_lent : (b : Bool) (frame : ℕ) → b ≡ true → lent_len (loan b frame 32) ≡ 4
within_lent true frame e = refl
within_lent false frame e = absurd (cc)

page_of : (id : ℕ) (l : Lent) → lent_of (swap_request id) ≡ Some l → id - 1 ≡ l.page
unfolding spans_words
page_of id l e = lent_page (nat_lt (id - 1) 64) (id - 1) l e

-- under an id of the table it lends the four words
pub swap_lends : (id : ℕ) → id ≤ 64 → words_lent (swap_request id) ≡ 4
unfolding spans_words
swap_lends id high = within_lent (nat_lt (id - 1) 64) (id - 1) (grind (arith, nat_tests, high))

take_le : (n : ℕ) (ws : List ℕ) → length (take n ws) ≤ n
take_le zero ws = omega arith
take_le (suc n) [] = omega arith
take_le (suc n) (w ∷ ws) = omega (arith, take_le n ws)

back_le : (n : ℕ) → back_of n ≤ n
back_le n = by_test (nat_le 2 n)
    (λ e. let k : back_of n ≡ 2 = ap (λ b. if b then 2 else 0) e in let two : 2 ≤ n = grind (arith, nat_tests, e) in omega (arith, k, two))
    (λ e. let k : back_of n ≡ 0 = ap (λ b. if b then 2 else 0) e in omega (arith, k))

-- a message lends two words of the page of its id
told_page : (b : Bool) (page : ℕ) (l : Lent) → loan b page 16 ≡ Some l → page ≡ l.page
told_page true page l e = let is : (record { page = page; bytes = 16 }) ≡ l = cc in ap (λ (x : Lent). x.page) is
told_page false page l e = absurd (cc)

-- the offset of the part that a message names
abbrev part_at : ℕ → ℕ
part_at own = high_32 (16 + 0x1000_0000_0000 * (own - 1))

part_is : (own : ℕ) → part_at own ≡ 4096 * (own - 1)
part_is own = omega arith

part_long : (own : ℕ) → low_32 (16 + 0x1000_0000_0000 * (own - 1)) ≡ 16
part_long own = omega arith

message_lent : (own : ℕ) → lent_of (swap_message own) ≡ loan ((part_at own % 4096 == 0) && nat_lt (part_at own) 262144) (64 + part_at own / 4096) 16
message_lent own = ap (λ n. loan (is_part n && ((part_at own % 4096 == 0) && nat_lt (part_at own) 262144)) (64 + part_at own / 4096) n) (part_long own)

message_page : (own : ℕ) (l : Lent) → 1 ≤ own → lent_of (swap_message own) ≡ Some l → l.page ≡ 63 + own
message_page own l low e =
    let page : 64 + part_at own / 4096 ≡ l.page = told_page _ _ l (sym (message_lent own) ∙ e) in
    let at : 64 + 4096 * (own - 1) / 4096 ≡ l.page = ap (λ n. 64 + n / 4096) (sym (part_is own)) ∙ page in
    omega (arith, low, at)

own_lent : (tells : Bool) (i : Item) (r : Two) → LendsOwnPage ((swap_format tells).gives i r).message
own_lent true i r = λ own l low high is. message_page own l low is
own_lent false i r = tt

pub swap_paged : (tells : Bool) → KeepsPages (swap_format tells)
swap_paged tells = record {
  ids = λ i. refl;
  answers = λ i. refl;
  acks = λ i e. e;
  asks = λ id a. refl;
  waits = λ i e. other_kind _ e;
  messages = λ i e. not_back _ e;
  lent = λ id a l low high has e. let page : id - 1 ≡ l.page = page_of id l e in omega (arith, low, page);
  silent = λ id a e. absurd (cc);
  besides = λ i r. own_lent tells i r;
  fixed_besides = λ i b e. absurd (cc);
  back = λ i q r e f. omega (arith, take_le (back_of (length i.words)) (r.a ∷ r.b ∷ []), back_le (length i.words));
  fixed_back = λ i b e. absurd (cc);
  acked = λ i. refl;
}

pub take_few : (b : Bool) (n : ℕ) (ws : List ℕ) → length (words_read b n ws) ≤ length ws
take_few true zero ws = omega arith
take_few true (suc n) [] = omega arith
take_few true (suc n) (w ∷ ws) = omega (arith, take_few true n ws)
take_few false n ws = omega arith

take_none : (b : Bool) (n : ℕ) → words_read b n [] ≡ []
take_none true zero = refl
take_none true (suc n) = refl
take_none false n = refl

pub swap_bare : (p : List ℕ) → swap_said (item_of p []) ≡ item_of p []
swap_bare p = ap (item_of p) (take_none _ _)

pub swap_may : (tells : Bool) → MayHaveMessages (swap_format tells) tells
swap_may true = tt
swap_may false = record { gives = λ p r. refl; fixed = λ p b e. absurd (cc) }

pub is_told : (tells : Bool) (i : Item) (r : Two) → is_some ((swap_format tells).gives i r).message ≡ tells
is_told true i r = refl
is_told false i r = refl
