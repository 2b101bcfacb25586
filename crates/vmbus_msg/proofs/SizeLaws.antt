-- What no fault says of the length of bytes and of the fields of a page list's header.
use Rattle.std.proofs.Common.{◌≡◌, ℕ, ◌+◌, ◌-◌, ◌*◌, ◌/◌, ◌%◌, ◌≤◌, List, length, Bool, true, false, cond, nat_lt, ◌==◌, if◌then◌else◌, Option, Some, None, refl, ap, ◌∙◌, arith}
use Rattle.std.proofs.lemmas.Bool.Decides.{nat_tests}
use Rattle.vmbus_msg.specs.declared.field_name.FieldName.TheVariants.{RangeBuflen, Rangecount}
use Rattle.vmbus_msg.specs.declared.fault.MsgFault.{MsgFault}
use Rattle.vmbus_msg.specs.declared.fault.MsgFault.TheVariants.{Short, Long, Field}
use Rattle.vmbus_msg.specs.Faults.{first_of, told, short, long, fixed, body, header_fields, header, value_at}
use Rattle.vmbus_msg.specs.Pages.{pages_of, header_frames, IsHeaderForm}

pub by_test : {P : Type 0} (b : Bool) → (b ≡ true → P) → (b ≡ false → P) → P
by_test true f g = f refl
by_test false f g = g refl

pub here_fault : (a b : Option MsgFault) (e : MsgFault) → a ≡ Some e → first_of a b ≡ Some e
here_fault None b e h = cc
here_fault (Some x) b e h = h

pub then_fault : (a b : Option MsgFault) (o : Option MsgFault) → a ≡ None → b ≡ o → first_of a b ≡ o
then_fault None b o h k = k
then_fault (Some x) b o h k = cc

pub both_none : (a b : Option MsgFault) → first_of a b ≡ None → (a ≡ None) × (b ≡ None)
both_none None b h = (refl, h)
both_none (Some x) b h = cc

none_from : (b : Bool) (x : MsgFault) (y : Option MsgFault) → cond b (Some x) y ≡ None → (b ≡ false) × (y ≡ None)
none_from true x y h = cc
none_from false x y h = (refl, h)

none_unless : (b : Bool) (x : MsgFault) (y : Option MsgFault) → cond b y (Some x) ≡ None → (b ≡ true) × (y ≡ None)
none_unless true x y h = (refl, h)
none_unless false x y h = cc

short_none : (need have : ℕ) → short need have ≡ None → need ≤ have
short_none need have h = let t = (none_from (nat_lt have need) (Short (told have) need) None h).0 in grind (arith, nat_tests, t)

pub none_short : (need have : ℕ) → need ≤ have → short need have ≡ None
none_short need have h = grind (arith, nat_tests)

long_none : (most have : ℕ) → long most have ≡ None → have ≤ most
long_none most have h = let t = (none_from (nat_lt most have) (Long (told have)) None h).0 in grind (arith, nat_tests, t)

none_long : (most have : ℕ) → have ≤ most → long most have ≡ None
none_long most have h = grind (arith, nat_tests)

pub fixed_len : (need have : ℕ) → fixed need have ≡ None → have ≡ need
fixed_len need have h =
    let both = both_none (short need have) (long need have) h in
    let low = short_none need have both.0 in
    let high = long_none need have both.1 in
    omega arith

pub fixed_none : (need have : ℕ) → have ≡ need → fixed need have ≡ None
fixed_none need have e = then_fault (short need have) (long need have) None (none_short need have (omega arith)) (none_long need have (omega arith))

-- how many bytes a body has
pub body_sizes : (n : ℕ) → body n ≡ None → (24 ≤ n) × (n ≤ 240) × (n % 8 ≡ 0)
body_sizes n h =
    let rest = if n % 8 == 0 then None else Some (Short (told n) (n / 8 * 8 + 8)) in
    let a = both_none (short 24 n) (first_of (long 240 n) rest) h in
    let b = both_none (long 240 n) rest a.1 in
    let c = (none_unless (n % 8 == 0) (Short (told n) (n / 8 * 8 + 8)) None b.1).0 in
    (short_none 24 n a.0, long_none 240 n b.0, grind (arith, nat_tests, c))

pub body_none : (n : ℕ) → 24 ≤ n → n ≤ 240 → n % 8 ≡ 0 → body n ≡ None
body_none n low high whole =
    let rest = if n % 8 == 0 then None else Some (Short (told n) (n / 8 * 8 + 8)) in
    let none : rest ≡ None = let t : (n % 8 == 0) ≡ true = grind (arith, nat_tests) in rw t refl in
    then_fault (short 24 n) (first_of (long 240 n) rest) None (none_short 24 n low) (then_fault (long 240 n) rest None (none_long 240 n high) none)

-- what the range of a header with no fault holds
range_form : (x y : ℕ) → header_fields x y ≡ None → (x ≡ 8 + 8 * pages_of x) × (1 ≤ pages_of x) × (y ≡ 1)
range_form x y h =
    let ones : Option MsgFault = if y == 1 then None else Some (Field Rangecount y) in
    let a = none_from (nat_lt (pages_of x) 1) (Field RangeBuflen x) (if x == 8 + 8 * pages_of x then ones else Some (Field RangeBuflen x)) h in
    let b = none_unless (x == 8 + 8 * pages_of x) (Field RangeBuflen x) ones a.1 in
    let c = none_unless (y == 1) (Field Rangecount y) None b.1 in
    (grind (arith, nat_tests, b.0), grind (arith, nat_tests, a.0), grind (arith, nat_tests, c.0))

form_range : (x y : ℕ) → x ≡ 8 + 8 * pages_of x → 1 ≤ pages_of x → y ≡ 1 → header_fields x y ≡ None
form_range x y whole some one =
    let a : nat_lt (pages_of x) 1 ≡ false = grind (arith, nat_tests) in
    let b : (x == 8 + 8 * pages_of x) ≡ true = grind (arith, nat_tests) in
    let c : (y == 1) ≡ true = grind (arith, nat_tests) in
    rw (a, b, c) refl

header_parts : (b : List ℕ) → header b ≡ None
    → (short 28 (length b) ≡ None) × (fixed (28 + 8 * header_frames (value_at b 16 18)) (length b) ≡ None) × (header_fields (value_at b 16 18) (value_at b 18 20) ≡ None)
header_parts b h =
    let x = value_at b 16 18 in
    let y = value_at b 18 20 in
    let p = both_none (short 28 (length b)) (first_of (fixed (28 + 8 * header_frames x) (length b)) (header_fields x y)) h in
    let q = both_none (fixed (28 + 8 * header_frames x) (length b)) (header_fields x y) p.1 in
    (p.0, q.0, q.1)

-- how many bytes a header has
pub header_size : (b : List ℕ) → header b ≡ None → length b ≡ 28 + 8 * header_frames (value_at b 16 18)
header_size b h = fixed_len (28 + 8 * header_frames (value_at b 16 18)) (length b) (header_parts b h).1

-- and what its fields hold
pub header_form : (b : List ℕ) (x y : ℕ) (fs : List ℕ) → header b ≡ None → x ≡ value_at b 16 18 → y ≡ value_at b 18 20 → length fs ≡ (length b - 28) / 8 → IsHeaderForm x y fs
header_form b x y fs h ex ey len =
    let r = range_form (value_at b 16 18) (value_at b 18 20) (header_parts b h).2 in
    let size = header_size b h in
    let frames : length fs ≡ header_frames (value_at b 16 18) = omega (arith, size, len) in
    rw (ex, ey) (r.0, r.1, r.2, frames)

-- the header of a list in form has no fault
pub header_none : (b : List ℕ) (x y : ℕ) (fs : List ℕ) → IsHeaderForm x y fs → x ≡ value_at b 16 18 → y ≡ value_at b 18 20 → length b ≡ 28 + 8 * length fs → header b ≡ None
header_none b x y fs form ex ey size =
    let vx = value_at b 16 18 in
    let vy = value_at b 18 20 in
    let whole : vx ≡ 8 + 8 * pages_of vx = rw ex at form.0 in
    let some : 1 ≤ pages_of vx = rw ex at form.1 in
    let one : vy ≡ 1 = rw ey at form.2 in
    let held : length fs ≡ header_frames vx = rw ex at form.3 in
    then_fault (short 28 (length b)) (first_of (fixed (28 + 8 * header_frames vx) (length b)) (header_fields vx vy)) None (none_short 28 (length b) (omega (arith, size)))
    (then_fault (fixed (28 + 8 * header_frames vx) (length b)) (header_fields vx vy) None (fixed_none (28 + 8 * header_frames vx) (length b) (size ∙ ap (λ n. 28 + 8 * n) held)) (form_range vx vy whole some one))

-- the first fault of a header, by its three tests
pub header_len_fault : (b : List ℕ) (e : MsgFault) → short 28 (length b) ≡ None → fixed (28 + 8 * header_frames (value_at b 16 18)) (length b) ≡ Some e → header b ≡ Some e
header_len_fault b e low h =
    let x = value_at b 16 18 in
    let y = value_at b 18 20 in
    then_fault (short 28 (length b)) (first_of (fixed (28 + 8 * header_frames x) (length b)) (header_fields x y)) (Some e) low (here_fault (fixed (28 + 8 * header_frames x) (length b)) (header_fields x y) e h)

pub header_field_fault : (b : List ℕ) (o : Option MsgFault) → short 28 (length b) ≡ None → fixed (28 + 8 * header_frames (value_at b 16 18)) (length b) ≡ None
    → header_fields (value_at b 16 18) (value_at b 18 20) ≡ o → header b ≡ o
header_field_fault b o low len h =
    let x = value_at b 16 18 in
    let y = value_at b 18 20 in
    then_fault (short 28 (length b)) (first_of (fixed (28 + 8 * header_frames x) (length b)) (header_fields x y)) o low (then_fault (fixed (28 + 8 * header_frames x) (length b)) (header_fields x y) o len h)
