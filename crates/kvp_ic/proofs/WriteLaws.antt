-- Requests, as they are written: what they ask.
use Rattle.std.proofs.Common.{◌≡◌, ℕ, ◌+◌, ◌-◌, ◌*◌, ◌^◌, ◌<◌, ◌≤◌, List, [], ◌∷◌, ◌++◌, length, get_or, take, drop, append_assoc, length-append, length-drop, refl, sym, ap, subst, ◌∙◌, arith}
use Rattle.std.proofs.lemmas.List.{take_at, drop_at, drop-drop, get_or-drop, length-take-le}
use borrow.Rule.Slice.PartMut.{put_mid}
use Rattle.wire_table.specs.Little.{number_of}
use Rattle.wire_table.specs.Rows.{num, Kind, nums, total, numbers_in, AllHave, rows_at, nth_number, spelled_after}
use Rattle.wire_table.proofs.RowLaws.{front_again}
use Rattle.util_ic.specs.Messages.{number_at}
use Rattle.util_ic.proofs.ByteLaws.{end_written}
use Rattle.util_ic.proofs.AskLaws.{header_kinds, heads}
use Rattle.kvp_pool.specs.Pools.{IsText}
use Rattle.kvp_ic.specs.declared.message.Kvp.{Kvp}
use Rattle.kvp_ic.specs.declared.message.Kvp.TheVariants.{Get, Set, Delete, Enum}
use Rattle.kvp_ic.specs.Machine.{pool_of}
use Rattle.kvp_ic.specs.Texts.{text_size, field_of, Holds}
use Rattle.kvp_ic.specs.Messages.{asked_rows, record_rows, field_rows, keyed_rows, placed_rows, kvp_bytes, operation_of, pool_in, key_place, value_place, Asks, HasTexts, CanBeAsked}
use Rattle.kvp_ic.proofs.TextLaws.{field_read, length-field_of}

first_byte : (x : List ℕ) → number_of (take 1 x) ≡ get_or x 0 0
unfolding number_of
first_byte [] = refl
first_byte (y ∷ ys) = omega arith

-- a byte is its number
pub one_byte : (at : ℕ) (b : List ℕ) → number_at at 1 b ≡ get_or b at 0
one_byte at b =
    let width : at + 1 - at ≡ 1 = omega arith in
    let place : at + 0 ≡ at = omega arith in
    ap (λ k. number_of (take k (drop at b))) width ∙ (first_byte (drop at b) ∙ (get_or-drop at b 0 0 ∙ ap (λ k. get_or b k 0) place))

abbrev keyed_kinds : List Kind
keyed_kinds = header_kinds (nums 1 ∷ nums 1 ∷ nums 2 ∷ nums 4 ∷ nums 4 ∷ nums 4 ∷ [])

abbrev placed_kinds : List Kind
placed_kinds = header_kinds (nums 1 ∷ nums 1 ∷ nums 2 ∷ nums 4 ∷ nums 4 ∷ nums 4 ∷ nums 4 ∷ [])

keyed_has : (op pool ks vs : ℕ) → op < 256 → pool < 256 → ks < 2 ^ 32 → vs < 2 ^ 32 → AllHave keyed_kinds (keyed_rows op pool ks vs [])
keyed_has op pool ks vs o p k v =
    heads 2 2576 (nums 1 ∷ nums 1 ∷ nums 2 ∷ nums 4 ∷ nums 4 ∷ nums 4 ∷ []) (asked_rows op pool (record_rows ks vs [])) (omega arith) (omega arith)
    ((refl, o), ((refl, p), ((refl, omega arith), ((refl, omega arith), ((refl, k), ((refl, v), tt))))))

placed_has : (pool index : ℕ) → pool < 256 → index < 2 ^ 32 → AllHave placed_kinds (placed_rows pool index [])
placed_has pool index p i =
    heads 2 2580 (nums 1 ∷ nums 1 ∷ nums 2 ∷ nums 4 ∷ nums 4 ∷ nums 4 ∷ nums 4 ∷ []) (asked_rows 3 pool (num 4 index ∷ record_rows 0 0 [])) (omega arith) (omega arith)
    ((refl, omega arith), ((refl, p), ((refl, omega arith), ((refl, i), ((refl, omega arith), ((refl, omega arith), ((refl, omega arith), tt)))))))

-- the fields behind what is there
fields_behind : (front key value more : List ℕ) → spelled_after front (field_rows key value) ++ more ≡ front ++ (field_of 512 key ++ (field_of 2048 value ++ more))
fields_behind front key value more =
    append_assoc (front ++ field_of 512 key) (field_of 2048 value) more ∙ append_assoc front (field_of 512 key) (field_of 2048 value ++ more)

-- ---- the fields are written

mid_front : (at k : ℕ) (m new : List ℕ) → at ≤ length m → length new ≡ k → take (at + k) (put_mid at k m new) ≡ take at m ++ new
mid_front at k m new le len =
    ap (take (at + k)) (sym (append_assoc (take at m) new (drop k (drop at m))))
    ∙ take_at (take at m ++ new) (drop k (drop at m)) (at + k) (omega (arith, length-append (take at m) new, length-take-le at m le))

pub length-mid : (at k : ℕ) (m new : List ℕ) → at + k ≤ length m → length new ≡ k → length (put_mid at k m new) ≡ length m
length-mid at k m new le len =
    omega (arith, length-append (take at m) (new ++ drop k (drop at m)), length-append new (drop k (drop at m)), length-take-le at m (omega arith), length-drop k (drop at m), length-drop at m)

pub fields_written : (at k j : ℕ) (m ks vs key value : List ℕ) → k ≡ 512 → length m ≡ at + 2560 → j ≡ 2048 → ks ≡ field_of 512 key → vs ≡ field_of 2048 value → 2 * length key ≤ 512
    → put_mid (at + 512) j (put_mid at k m ks) vs ≡ spelled_after (take at m) (field_rows key value)
fields_written at k j m ks vs key value width len rest is_key is_value fits =
    let key_len : length ks ≡ k = ap length is_key ∙ (length-field_of 512 key fits ∙ sym width) in
    let whole : length (put_mid at k m ks) ≡ length m = length-mid at k m ks (omega arith) key_len in
    end_written (put_mid at k m ks) vs (field_of 2048 value) (at + 512) j (omega (arith, whole)) is_value
    ∙ ap (λ l. l ++ field_of 2048 value)
    (ap (λ n. take (at + n) (put_mid at k m ks)) (sym width) ∙ (mid_front at k m ks (omega arith) key_len ∙ ap (λ l. take at m ++ l) is_key))

-- ---- what is written asks

module _ (op pool : ℕ) (key value : List ℕ) (vs : ℕ) (more : List ℕ) (o : op < 3) (p : pool ≤ 4) (k : IsText 1 255 key) (v : vs < 2 ^ 32) (few : length value ≤ 1023) where
  abbrev rest : List ℕ
  rest = field_of 512 key ++ (field_of 2048 value ++ more)

  abbrev front : List ℕ
  front = spelled_after [] (keyed_rows op pool (text_size (length key)) vs [])

  again : (rows_at keyed_kinds 0 (front ++ rest) ≡ keyed_rows op pool (text_size (length key)) vs []) × (drop (total keyed_kinds) (front ++ rest) ≡ rest) × (length (front ++ rest) ≡ total keyed_kinds + length rest)
  again = front_again keyed_kinds (keyed_rows op pool (text_size (length key)) vs []) rest (keyed_has op pool (text_size (length key)) vs (omega arith) (omega arith) (omega (arith, k.most)) v)

  key_len : length (field_of 512 key) ≡ 512
  key_len = length-field_of 512 key (omega (arith, k.most))

  value_len : length (field_of 2048 value) ≡ 2048
  value_len = length-field_of 2048 value (omega arith)

  keyed_long : 2604 ≤ length (front ++ rest)
  keyed_long = omega (arith, again.2, length-append (field_of 512 key) (field_of 2048 value ++ more), length-append (field_of 2048 value) more, key_len, value_len)

  keyed_operation : operation_of (front ++ rest) ≡ op
  keyed_operation = sym (one_byte 28 (front ++ rest)) ∙ ap (nth_number 12) again.0

  keyed_pool : pool_in (front ++ rest) ≡ pool
  keyed_pool = sym (one_byte 29 (front ++ rest)) ∙ ap (nth_number 13) again.0

  keyed_key : Holds 1 255 (key_place 0) key (front ++ rest)
  keyed_key =
      record {
        text = k;
        size = ap (nth_number 16) again.0;
        here = ap (numbers_in 2 (length key + 1)) again.1 ∙ field_read 512 key (field_of 2048 value ++ more) k.fits (omega (arith, k.most));
      }

  keyed_value : IsText 0 1023 value → vs ≡ text_size (length value) → Holds 0 1023 (value_place 0) value (front ++ rest)
  keyed_value t is =
      let behind : drop 556 (front ++ rest) ≡ field_of 2048 value ++ more = sym (drop-drop 512 44 (front ++ rest)) ∙ (ap (drop 512) again.1 ∙ drop_at (field_of 512 key) (field_of 2048 value ++ more) 512 key_len) in
      record {
        text = t;
        size = ap (nth_number 17) again.0 ∙ is;
        here = ap (numbers_in 2 (length value + 1)) behind ∙ field_read 2048 value more t.fits (omega (arith, t.most));
      }

-- whatever follows, a request's bytes ask it
pub bytes_ask : (m : Kvp) → HasTexts m → pool_of m ≤ 4 → (more : List ℕ) → Asks m (kvp_bytes m ++ more)
bytes_ask (Get pool key) t p more =
    let apart = fields_behind (front 0 pool key [] 0 more (omega arith) p t (omega arith) (omega arith)) key [] more in
    subst (Asks (Get pool key)) (sym apart) (
      record {
        long = keyed_long 0 pool key [] 0 more (omega arith) p t (omega arith) (omega arith);
        is_operation = keyed_operation 0 pool key [] 0 more (omega arith) p t (omega arith) (omega arith);
        is_pool = keyed_pool 0 pool key [] 0 more (omega arith) p t (omega arith) (omega arith);
        five = p;
      },
      keyed_key 0 pool key [] 0 more (omega arith) p t (omega arith) (omega arith),
    )
bytes_ask (Set pool key value) t p more =
    let vs = text_size (length value) in
    let fits : vs < 2 ^ 32 = omega (arith, t.1.most) in
    let apart = fields_behind (front 1 pool key value vs more (omega arith) p t.0 fits t.1.most) key value more in
    subst (Asks (Set pool key value)) (sym apart) (
      record {
        long = keyed_long 1 pool key value vs more (omega arith) p t.0 fits t.1.most;
        is_operation = keyed_operation 1 pool key value vs more (omega arith) p t.0 fits t.1.most;
        is_pool = keyed_pool 1 pool key value vs more (omega arith) p t.0 fits t.1.most;
        five = p;
      },
      keyed_key 1 pool key value vs more (omega arith) p t.0 fits t.1.most,
      keyed_value 1 pool key value vs more (omega arith) p t.0 fits t.1.most t.1 refl,
    )
bytes_ask (Delete pool key) t p more =
    let apart = fields_behind (front 2 pool key [] 0 more (omega arith) p t (omega arith) (omega arith)) key [] more in
    subst (Asks (Delete pool key)) (sym apart) (
      record {
        long = keyed_long 2 pool key [] 0 more (omega arith) p t (omega arith) (omega arith);
        is_operation = keyed_operation 2 pool key [] 0 more (omega arith) p t (omega arith) (omega arith);
        is_pool = keyed_pool 2 pool key [] 0 more (omega arith) p t (omega arith) (omega arith);
        five = p;
      },
      keyed_key 2 pool key [] 0 more (omega arith) p t (omega arith) (omega arith),
    )
bytes_ask (Enum pool index) t p more =
    let head : List ℕ = spelled_after [] (placed_rows pool index []) in
    let behind : List ℕ = field_of 512 [] ++ (field_of 2048 [] ++ more) in
    let apart = fields_behind head [] [] more in
    let again = front_again placed_kinds (placed_rows pool index []) behind (placed_has pool index (omega (arith, p)) t) in
    let key_len : length (field_of 512 []) ≡ 512 = length-field_of 512 [] (omega arith) in
    let value_len : length (field_of 2048 []) ≡ 2048 = length-field_of 2048 [] (omega arith) in
    let long : 2608 ≤ length (head ++ behind) = omega (arith, again.2, length-append (field_of 512 []) (field_of 2048 [] ++ more), length-append (field_of 2048 []) more, key_len, value_len) in
    subst (Asks (Enum pool index)) (sym apart) (
      record {
        long = long;
        is_operation = sym (one_byte 28 (head ++ behind)) ∙ ap (nth_number 12) again.0;
        is_pool = sym (one_byte 29 (head ++ behind)) ∙ ap (nth_number 13) again.0;
        five = p;
      },
      ap (nth_number 15) again.0,
    )

-- so does what can be asked
pub can_ask : (m : Kvp) → CanBeAsked m → (more : List ℕ) → Asks m (kvp_bytes m ++ more)
can_ask m can more = bytes_ask m can.0 can.1 more
