-- A line against which nothing stands fits behind the lines before it.
use Rattle.std.proofs.Common.{◌≡◌, ℕ, ◌+◌, ◌<◌, ◌≤◌, Bool, true, false, List, [], ◌∷◌, ◌++◌, length, map, refl, sym, ap, ◌∙◌, subst, arith, zero, suc, is_some, IfSome, cond}
use Rattle.std.specs.Prelude.{◌||◌, ◌&&◌, ◌==◌, not, nat_le, Option, Some, None, slice_get, unwrap_or, option_map}
use Rattle.std.proofs.Common.{inl, inr}
use Rattle.std.specs.List.{list_all}
use Rattle.std.specs.Option.{option_or, option_map_or}
use Rattle.std.proofs.lemmas.Bool.{false≢true}
use Rattle.std.proofs.lemmas.Bool.Decides.{nat_tests}
use Rattle.std.proofs.lemmas.List.{append-nil}
use Rattle.contact.specs.declared.version.Version.{Version}
use Rattle.contact.specs.declared.kind.DeviceKind.{DeviceKind}
use Rattle.contact.specs.Versions.{IsVersion}
use Rattle.script_text.specs.declared.fault.Why6.{Why6}
use Rattle.script_text.specs.declared.fault.Why6.TheVariants.{Limit, Order}
use Rattle.script_lines.specs.declared.line.Line.{Line}
use Rattle.script_lines.specs.declared.line.What.{What}
use Rattle.script_lines.specs.declared.line.What.TheVariants.{Contact as IsContact, Offer as IsOffer, Bad as IsBad, RingSize as IsRingSize, Window as IsWindow, Ask as IsAsk, Rescind as IsRescind, Shut as IsShut, Modify as IsModify, Phase as IsPhase}
use Rattle.script_lines.specs.declared.line.Ask.{Ask}
use Rattle.script_lines.specs.declared.line.DeviceSpec.{DeviceSpec}
use Rattle.script_lines.specs.declared.line.DeviceSpec.TheVariants.{Beat as IsBeat, Down as IsDown, Disk as IsDisk, Net as IsNet, Kvp as IsKvp}
use Rattle.script_lines.specs.declared.asked.Asked.{Asked}
use Rattle.script_lines.specs.declared.asked.Asked.TheVariants.{Beat, Down, Command, Message, Pair}
use Rattle.script_lines.specs.declared.offering.Offering.{Offering}
use Rattle.script_lines.specs.declared.offering.Offering.TheVariants.{Disk as OfDisk, Plain}
use Rattle.script_lines.specs.declared.said.Said.{Said}
use Rattle.script_lines.specs.declared.said.Said.TheVariants.{Contact, Offer, Bad, Ring, Window, Request, Rescind, Close, Modify, Phase}
use Rattle.script_lines.specs.Parts.{is_settings, offered, kind_of, kind_asked, phases_over, phase_from, rescinds, shuts, modified_here, channels, channels_of, device_of, blocks_at, has_bad}
use Rattle.script_lines.specs.Faults.{unless, device_said, says_settings, line_limit, ask_limit, has_room, count_limit, is_first, is_over, is_now, is_ended_before, own_order, order_fault, takes, is_rescindable, is_offered, name_fault, is_bad, repeat_fault, offers_in_range, is_block, asked_in_range, range_fault, row_fault}
use Rattle.script_lines.specs.Grammar.{or_zero, spec_of, ask_of}
use Rattle.script_lines.specs.WellFormed.{IsDevice, IsRescindable, CanGo, OfferInRange, AskedInRange, InRange, Fits}
use Rattle.script_text.specs.Forms.{within}
use Rattle.script_lines.proofs.Carrying.{asks_carried}
use Rattle.script_lines.proofs.Phases.{by_test, neither, phase_by}

or_none : (a b : Option Why6) → option_or a b ≡ None → (a ≡ None) × (b ≡ None)
or_none None b is = (refl, is)
or_none (Some why) b is = absurd (cc)

unless_none : (b : Bool) (why : Why6) → unless b why ≡ None → b ≡ true
unless_none true why is = refl
unless_none false why is = absurd (cc)

-- nothing stands against a line
record Stands (number : ℕ) (before : List Line) (device : Option ℕ) (said : Said) : Type 0 where
  line : number ≤ 20000
  count : count_limit before said ≡ None
  order : order_fault before device said ≡ None
  name : name_fault before device said ≡ None
  repeat : repeat_fault before device said ≡ None
  range : range_fault before device said ≡ None

stands : (number : ℕ) (before : List Line) (device : Option ℕ) (said : Said) → row_fault number before device said ≡ None → Stands number before device said
stands number before device said free =
    let five = or_none _ (range_fault before device said) free in
    let four = or_none _ (repeat_fault before device said) five.0 in
    let three = or_none _ (name_fault before device said) four.0 in
    let two = or_none _ (order_fault before device said) three.0 in
    let one = or_none (line_limit number) (count_limit before said) two.0 in
    let line = unless_none (nat_le number 20000) Limit one.0 in
    record {
      line = grind (arith, nat_tests, line);
      count = one.1;
      order = two.1;
      name = three.1;
      repeat = four.1;
      range = five.1;
    }

some_is : {X : Type 0} (o : Option X) → is_some o ≡ true → (x : X) × (o ≡ Some x)
some_is None holds = absurd (cc)
some_is (Some x) holds = (x, refl)

both_true : (a b : Bool) → (a && b) ≡ true → (a ≡ true) × (b ≡ true)
both_true true true is = (refl, refl)
both_true true false is = absurd (cc)
both_true false b is = absurd (cc)

not_true : (b : Bool) → not b ≡ true → b ≡ false
not_true true is = absurd (cc)
not_true false is = refl

first_is : (before : List Line) → is_first before ≡ true → before ≡ []
first_is [] holds = refl
first_is (l ∷ ls) holds = absurd (cc)

own_free : (before : List Line) (device : Option ℕ) (said : Said) → order_fault before device said ≡ None → own_order before device said ≡ None
own_free before device said free = (or_none (unless (not (says_settings said) || list_all (λ l. is_settings l.what) before) Order) (own_order before device said) free).1

-- settings stand behind settings
settings_stand : (before : List Line) (b : Bool) (own : Option Why6) (why : Why6) → option_or (unless (not true || b) why) own ≡ None → b ≡ true
settings_stand before b own why free = unless_none b why ((or_none _ own free).0)

kind_at : (specs : List DeviceSpec) (d : ℕ) (spec : DeviceSpec) → slice_get specs d ≡ Some spec → slice_get (map kind_of specs) d ≡ Some (kind_of spec)
kind_at [] d spec is = absurd (cc)
kind_at (s ∷ specs) zero spec is = ap (option_map kind_of) is
kind_at (s ∷ specs) (suc d) spec is = kind_at specs d spec is

-- the device of a request has the kind that is asked so
kind_taken : (asked : Asked) (spec : DeviceSpec) → takes asked spec ≡ true → kind_of spec ≡ kind_asked (ask_of asked)
kind_taken (Beat seq) IsBeat is = refl
kind_taken (Down flags) IsDown is = refl
kind_taken (Command ask) (IsDisk blocks subs) is = refl
kind_taken (Message message) (IsNet mac station) is = refl
kind_taken (Pair request) IsKvp is = refl
kind_taken _ _ is = absurd (cc)

-- and a device that can be rescinded is a disk or a network
kind_rescinded : (spec : DeviceSpec) (kind : Option DeviceKind) → kind ≡ Some (kind_of spec) → is_rescindable spec ≡ true → IsRescindable kind
kind_rescinded (IsDisk blocks subs) kind same is = inl same
kind_rescinded (IsNet mac station) kind same is = inr same
kind_rescinded _ kind same is = absurd (cc)

-- a request in its ranges goes through its channel
can_go : (asked : Asked) → asked_in_range asked ≡ true → AskedInRange asked → CanGo (ask_of asked)
can_go (Beat seq) holds range = tt
can_go (Down flags) holds range = tt
can_go (Command ask) holds range = asks_carried ask holds range
can_go (Message None) holds range = absurd (cc)
can_go (Message (Some message)) holds range = range
can_go (Pair None) holds range = absurd (cc)
can_go (Pair (Some request)) holds range = range

-- a number from 0 to 3 is 3 at most, and it is the number itself or 0
three_within : (o : Option ℕ) → unwrap_or (within 0 3 o) 0 ≤ 3
three_within None = omega arith
three_within (Some n) = by_test (nat_le 0 n && nat_le n 3)
    (λ e. omega (arith, ap (λ (b : Bool). unwrap_or (cond b (Some n) None) 0) e, (let both = both_true (nat_le 0 n) (nat_le n 3) e in let most : n ≤ 3 = grind (arith, nat_tests, both.1) in most)))
    (λ e. omega (arith, ap (λ (b : Bool). unwrap_or (cond b (Some n) None) 0) e))

no_more_within : (n : ℕ) → unwrap_or (within 0 3 (Some n)) 0 ≤ n
no_more_within n = by_test (nat_le 0 n && nat_le n 3)
    (λ e. omega (arith, ap (λ (b : Bool). unwrap_or (cond b (Some n) None) 0) e))
    (λ e. omega (arith, ap (λ (b : Bool). unwrap_or (cond b (Some n) None) 0) e))

-- a device that is offered in its ranges
device_right : (offering : Offering) → offers_in_range offering ≡ true → OfferInRange offering → IsDevice (spec_of offering)
device_right (OfDisk None subs) holds range = absurd (cc)
device_right (OfDisk (Some blocks) subs) holds range = (range.0, range.1, three_within subs)
device_right (Plain spec) holds range = range

-- and its channels
room_is : (before : List Line) (offering : Offering) → has_room before offering ≡ true → channels before + channels_of (spec_of offering) ≤ 16
room_is before (Plain spec) room = grind (arith, nat_tests, room)
room_is before (OfDisk blocks None) room = absurd (cc)
room_is before (OfDisk blocks (Some subs)) room =
    let most : channels before + (1 + subs) ≤ 16 = grind (arith, nat_tests, room) in omega (arith, most, no_more_within subs)

-- a block of a device that was offered
block_is : (before : List Line) (device lba : Option ℕ) → is_block before device lba ≡ true → unwrap_or lba 0 < blocks_at (unwrap_or device 0) (offered before)
block_is before None lba is = absurd (cc)
block_is before (Some d) None is = absurd (cc)
block_is before (Some d) (Some l) is = grind (arith, nat_tests, is)

fresh_is : (before : List Line) (device lba : Option ℕ) → is_block before device lba ≡ true → is_bad before device lba ≡ false → has_bad (unwrap_or device 0) (unwrap_or lba 0) before ≡ false
fresh_is before None lba is fresh = absurd (cc)
fresh_is before (Some d) None is fresh = absurd (cc)
fresh_is before (Some d) (Some l) is fresh = fresh

-- the device of such a kind that was offered
offered_is : (kind : DeviceSpec → Bool) (before : List Line) (device : Option ℕ) → is_offered kind before device ≡ true
    → (spec : DeviceSpec) × (slice_get (offered before) (unwrap_or device 0) ≡ Some spec) × (kind spec ≡ true)
offered_is kind before None is = absurd (cc)
offered_is kind before (Some d) is = at (slice_get (offered before) d) refl is
  where
    at : (o : Option DeviceSpec) → slice_get (offered before) d ≡ o → option_map_or kind o false ≡ true → (spec : DeviceSpec) × (slice_get (offered before) d ≡ Some spec) × (kind spec ≡ true)
    at None same holds = absurd (cc)
    at (Some spec) same holds = (spec, same, holds)

-- and its kind
right_kind : (before : List Line) (device : Option ℕ) (spec : DeviceSpec) → slice_get (offered before) (unwrap_or device 0) ≡ Some spec
    → slice_get (map kind_of (offered before ++ [])) (unwrap_or device 0) ≡ Some (kind_of spec)
right_kind before device spec is =
    ap (λ specs. slice_get (map kind_of specs) (unwrap_or device 0)) (append-nil (offered before)) ∙ kind_at (offered before) (unwrap_or device 0) spec is

within_offered : (before : List Line) (device : Option ℕ) → is_some device ≡ true → IfSome device (λ d. d < length (offered before)) → unwrap_or device 0 < length (offered before ++ [])
within_offered before None there within = absurd (cc)
within_offered before (Some d) there within = subst (λ (specs : List DeviceSpec). d < length specs) (sym (append-nil (offered before))) within

-- a line of this kind is the first: none stands in a phase before, and none in this one
first_of : (kind : What → Bool) (before : List Line) → is_over (phases_over before) (phase_from kind 0 before) ≡ false → is_now (phases_over before) (phase_from kind 0 before) ≡ false
    → phase_from kind 0 before ≡ None
first_of kind before earlier here = at (phase_from kind 0 before) refl earlier here
  where
    at : (o : Option ℕ) → phase_from kind 0 before ≡ o → is_over (phases_over before) o ≡ false → is_now (phases_over before) o ≡ false → phase_from kind 0 before ≡ None
    at None same less is = same
    at (Some p) same less is = let most = phase_by kind 0 before p same in absurd (grind (arith, nat_tests, less, is, most))

eq_is : (a b : ℕ) → (a == b) ≡ true → a ≡ b
eq_is a b is = grind (arith, nat_tests, is)

-- the line of this kind that ends a device is the first
first_end : (kind : ℕ → What → Bool) (before : List Line) (device : Option ℕ) → is_some device ≡ true
    → ((d : ℕ) → is_ended_before before d ≡ false → is_over (phases_over before) (phase_from (kind d) 0 before) ≡ false)
    → option_map_or (is_ended_before before) device false ≡ false → option_map_or (λ d. is_now (phases_over before) (phase_from (kind d) 0 before)) device false ≡ false
    → (d : ℕ) → (unwrap_or device 0 == d) ≡ true → phase_from (kind d) 0 before ≡ None
first_end kind before None there over earlier here d is = absurd (cc)
first_end kind before (Some e) there over earlier here d is = subst (λ x. phase_from (kind x) 0 before ≡ None) (eq_is e d is) (first_of (kind e) before (over e earlier) here)

-- nothing is not something
none_in : {A : Type 0} {P : Type 0} {x : A} → [] ≡ x ∷ [] → P
none_in is = absurd (cc)

is_short : (n number : ℕ) → number ≤ 20000 → n < number → n < 20000
is_short n number line behind = omega arith

module _ (number : ℕ) (before : List Line) (behind : length before < number) where
  pub fits_contact : (guest host : Option Version) (device : Option ℕ) → row_fault number before device (Contact guest host) ≡ None → InRange (Contact guest host)
      → Fits before (IsContact (or_zero guest) (or_zero host))
  fits_contact guest host device free range =
      let s = stands number before device (Contact guest host) free in
      let there = both_true _ _ (unless_none _ _ s.range) in
      record {
        right = (version_is guest there.0 range.0, version_is host there.1 range.1);
        goes = tt;
        fresh = refl;
        contact = λ is. first_is before (unless_none _ _ (own_free before device (Contact guest host) s.order));
        settings = λ is. settings_stand before _ _ _ s.order;
        few = λ one is. none_in is;
        new = λ name is. none_in is;
        asks = λ is. absurd (false≢true is);
        rescinded = λ d is. absurd (false≢true is);
        closed = λ d is. absurd (false≢true is);
        modified = λ d is. absurd (false≢true is);
        short = is_short (length before) number s.line behind;
      }
    where
      version_is : (v : Option Version) → is_some v ≡ true → IfSome v (λ u. IsVersion u.0) → IsVersion ((or_zero v).0)
      version_is None there in_range = absurd (cc)
      version_is (Some v) there in_range = in_range

  pub fits_offer : (name : List ℕ) (offering : Offering) (device : Option ℕ) → device ≡ device_said before (Offer name offering) → row_fault number before device (Offer name offering) ≡ None
      → InRange (Offer name offering) → Fits before (IsOffer name (spec_of offering))
  fits_offer name offering device said free range =
      let s = stands number before device (Offer name offering) free in
      let room = room_is before offering (unless_none _ _ s.count) in
      record {
        right = device_right offering (unless_none _ _ s.range) range;
        goes = tt;
        fresh = refl;
        contact = λ is. absurd (false≢true is);
        settings = λ is. settings_stand before _ _ _ s.order;
        few = λ one is. let same : spec_of offering ≡ one = cc (is) in subst (λ d. channels before + channels_of d ≤ 16) same room;
        new = λ other is. let same : name ≡ other = cc (is) in ap (λ n. device_of n before) (sym same) ∙ sym said ∙ none_is device (not_true _ (unless_none _ _ s.repeat));
        asks = λ is. absurd (false≢true is);
        rescinded = λ d is. absurd (false≢true is);
        closed = λ d is. absurd (false≢true is);
        modified = λ d is. absurd (false≢true is);
        short = is_short (length before) number s.line behind;
      }
    where
      none_is : (o : Option ℕ) → is_some o ≡ false → o ≡ None
      none_is None is = refl
      none_is (Some d) is = absurd (cc)

  pub fits_bad : (name : List ℕ) (lba device : Option ℕ) → row_fault number before device (Bad name lba) ≡ None → Fits before (IsBad (unwrap_or device 0) (unwrap_or lba 0))
  fits_bad name lba device free =
      let s = stands number before device (Bad name lba) free in
      let block = unless_none _ _ s.range in
      record {
        right = subst (λ (specs : List DeviceSpec). unwrap_or lba 0 < blocks_at (unwrap_or device 0) specs) (sym (append-nil (offered before))) (block_is before device lba block);
        goes = tt;
        fresh = fresh_is before device lba block (not_true _ (unless_none _ _ s.repeat));
        contact = λ is. absurd (false≢true is);
        settings = λ is. settings_stand before _ _ _ s.order;
        few = λ one is. none_in is;
        new = λ other is. none_in is;
        asks = λ is. absurd (false≢true is);
        rescinded = λ d is. absurd (false≢true is);
        closed = λ d is. absurd (false≢true is);
        modified = λ d is. absurd (false≢true is);
        short = is_short (length before) number s.line behind;
      }

  pub fits_ring : (name : List ℕ) (pages device : Option ℕ) → row_fault number before device (Ring name pages) ≡ None → InRange (Ring name pages) → IfSome device (λ d. d < length (offered before))
      → Fits before (IsRingSize (unwrap_or device 0) (unwrap_or pages 0))
  fits_ring name pages device free range within =
      let s = stands number before device (Ring name pages) free in
      record {
        right = (within_offered before device (unless_none _ _ s.name) within, (in_range pages (unless_none _ _ s.range) range).0, (in_range pages (unless_none _ _ s.range) range).1);
        goes = tt;
        fresh = refl;
        contact = λ is. absurd (false≢true is);
        settings = λ is. settings_stand before _ _ _ s.order;
        few = λ one is. none_in is;
        new = λ other is. none_in is;
        asks = λ is. absurd (false≢true is);
        rescinded = λ d is. absurd (false≢true is);
        closed = λ d is. absurd (false≢true is);
        modified = λ d is. absurd (false≢true is);
        short = is_short (length before) number s.line behind;
      }
    where
      in_range : (o : Option ℕ) → is_some o ≡ true → IfSome o (λ n. (1 ≤ n) × (n ≤ 16)) → (1 ≤ unwrap_or o 0) × (unwrap_or o 0 ≤ 16)
      in_range None there is = absurd (cc)
      in_range (Some n) there is = is

  pub fits_window : (name : List ℕ) (size device : Option ℕ) → row_fault number before device (Window name size) ≡ None → InRange (Window name size) → IfSome device (λ d. d < length (offered before))
      → Fits before (IsWindow (unwrap_or device 0) (unwrap_or size 0))
  fits_window name size device free range within =
      let s = stands number before device (Window name size) free in
      record {
        right = (within_offered before device (unless_none _ _ s.name) within, (in_range size (unless_none _ _ s.range) range).0, (in_range size (unless_none _ _ s.range) range).1);
        goes = tt;
        fresh = refl;
        contact = λ is. absurd (false≢true is);
        settings = λ is. settings_stand before _ _ _ s.order;
        few = λ one is. none_in is;
        new = λ other is. none_in is;
        asks = λ is. absurd (false≢true is);
        rescinded = λ d is. absurd (false≢true is);
        closed = λ d is. absurd (false≢true is);
        modified = λ d is. absurd (false≢true is);
        short = is_short (length before) number s.line behind;
      }
    where
      in_range : (o : Option ℕ) → is_some o ≡ true → IfSome o (λ n. (1 ≤ n) × (n ≤ 64)) → (1 ≤ unwrap_or o 0) × (unwrap_or o 0 ≤ 64)
      in_range None there is = absurd (cc)
      in_range (Some n) there is = is

  fits_ask : (ask : Ask) (device : Option ℕ) (spec : DeviceSpec) → slice_get (offered before) (unwrap_or device 0) ≡ Some spec → kind_of spec ≡ kind_asked ask → CanGo ask → ask_limit before ≡ None → number ≤ 20000
      → Fits before (IsAsk (unwrap_or device 0) ask)
  fits_ask ask device spec at kind goes room line =
      let less = unless_none _ _ room in
      record {
        right = right_kind before device spec at ∙ ap Some kind;
        goes = goes;
        fresh = refl;
        contact = λ is. absurd (false≢true is);
        settings = λ is. absurd (false≢true is);
        few = λ one is. none_in is;
        new = λ other is. none_in is;
        asks = λ is. grind (arith, nat_tests, less);
        rescinded = λ d is. absurd (false≢true is);
        closed = λ d is. absurd (false≢true is);
        modified = λ d is. absurd (false≢true is);
        short = is_short (length before) number line behind;
      }

  pub fits_request : (name : List ℕ) (asked : Asked) (device : Option ℕ) → row_fault number before device (Request name asked) ≡ None → InRange (Request name asked)
      → Fits before (IsAsk (unwrap_or device 0) (ask_of asked))
  fits_request name asked device free range =
      let s = stands number before device (Request name asked) free in
      let found = offered_is (takes asked) before device (unless_none _ _ s.name) in
      fits_ask (ask_of asked) device found.0 found.1 (kind_taken asked found.0 found.2) (can_go asked (unless_none _ _ s.range) range) s.count s.line

  pub fits_rescind : (name : List ℕ) (after : Option ℕ) (held : Bool) (device : Option ℕ) → row_fault number before device (Rescind name after held) ≡ None → InRange (Rescind name after held)
      → Fits before (IsRescind (unwrap_or device 0) (unwrap_or after 0) held)
  fits_rescind name after held device free range =
      let s = stands number before device (Rescind name after held) free in
      let found = offered_is is_rescindable before device (unless_none _ _ s.name) in
      let served = in_range after (unless_none _ _ s.range) range in
      record {
        right = (kind_rescinded found.0 _ (right_kind before device found.0 found.1) found.2, served.0, served.1);
        goes = tt;
        fresh = refl;
        contact = λ is. absurd (false≢true is);
        settings = λ is. absurd (false≢true is);
        few = λ one is. none_in is;
        new = λ other is. none_in is;
        asks = λ is. absurd (false≢true is);
        rescinded = first_end rescinds before device (some_offered is_rescindable before device (unless_none _ _ s.name)) (λ d not. (neither _ _ not).0)
            (not_true _ (unless_none _ _ (own_free before device (Rescind name after held) s.order))) (not_true _ (unless_none _ _ s.repeat));
        closed = λ d is. absurd (false≢true is);
        modified = λ d is. absurd (false≢true is);
        short = is_short (length before) number s.line behind;
      }
    where
      in_range : (o : Option ℕ) → is_some o ≡ true → IfSome o (λ n. (n ≤ 4096) × (held ≡ true → 1 ≤ n)) → (unwrap_or o 0 ≤ 4096) × (held ≡ true → 1 ≤ unwrap_or o 0)
      in_range None there is = absurd (cc)
      in_range (Some n) there is = is

      some_offered : (kind : DeviceSpec → Bool) (ls : List Line) (o : Option ℕ) → is_offered kind ls o ≡ true → is_some o ≡ true
      some_offered kind ls None is = absurd (cc)
      some_offered kind ls (Some d) is = refl

  pub fits_close : (name : List ℕ) (device : Option ℕ) → row_fault number before device (Close name) ≡ None → IfSome device (λ d. d < length (offered before)) → Fits before (IsShut (unwrap_or device 0))
  fits_close name device free within =
      let s = stands number before device (Close name) free in
      let named = unless_none _ _ s.name in
      record {
        right = within_offered before device named within;
        goes = tt;
        fresh = refl;
        contact = λ is. absurd (false≢true is);
        settings = λ is. absurd (false≢true is);
        few = λ one is. none_in is;
        new = λ other is. none_in is;
        asks = λ is. absurd (false≢true is);
        rescinded = λ d is. absurd (false≢true is);
        closed = first_end shuts before device named (λ d not. (neither _ _ not).1)
            (not_true _ (unless_none _ _ (own_free before device (Close name) s.order))) (not_true _ (unless_none _ _ s.repeat));
        modified = λ d is. absurd (false≢true is);
        short = is_short (length before) number s.line behind;
      }

  pub fits_modify : (name : List ℕ) (vp device : Option ℕ) → row_fault number before device (Modify name vp) ≡ None → InRange (Modify name vp) → IfSome device (λ d. d < length (offered before))
      → Fits before (IsModify (unwrap_or device 0) (unwrap_or vp 0))
  fits_modify name vp device free range within =
      let s = stands number before device (Modify name vp) free in
      let named = unless_none _ _ s.name in
      record {
        right = (within_offered before device named within, in_range vp (unless_none _ _ s.range) range);
        goes = tt;
        fresh = refl;
        contact = λ is. absurd (false≢true is);
        settings = λ is. absurd (false≢true is);
        few = λ one is. none_in is;
        new = λ other is. none_in is;
        asks = λ is. absurd (false≢true is);
        rescinded = λ d is. absurd (false≢true is);
        closed = λ d is. absurd (false≢true is);
        modified = unmoved device named (not_true _ (unless_none _ _ s.repeat));
        short = is_short (length before) number s.line behind;
      }
    where
      in_range : (o : Option ℕ) → is_some o ≡ true → IfSome o (λ n. n ≤ 63) → unwrap_or o 0 ≤ 63
      in_range None there is = absurd (cc)
      in_range (Some n) there is = is

      unmoved : (o : Option ℕ) → is_some o ≡ true → option_map_or (λ d. modified_here d before) o false ≡ false → (d : ℕ) → (unwrap_or o 0 == d) ≡ true → modified_here d before ≡ false
      unmoved None there fresh d is = absurd (cc)
      unmoved (Some e) there fresh d is = subst (λ x. modified_here x before ≡ false) (eq_is e d is) fresh

  pub fits_phase : (device : Option ℕ) → row_fault number before device Phase ≡ None → Fits before IsPhase
  fits_phase device free =
      let s = stands number before device Phase free in
      record {
        right = tt;
        goes = tt;
        fresh = refl;
        contact = λ is. absurd (false≢true is);
        settings = λ is. absurd (false≢true is);
        few = λ one is. none_in is;
        new = λ other is. none_in is;
        asks = λ is. absurd (false≢true is);
        rescinded = λ d is. absurd (false≢true is);
        closed = λ d is. absurd (false≢true is);
        modified = λ d is. absurd (false≢true is);
        short = is_short (length before) number s.line behind;
      }

  pub line_is : (device : Option ℕ) (said : Said) → row_fault number before device said ≡ None → number ≤ 20000
  line_is device said free = let s = stands number before device said free in s.line
