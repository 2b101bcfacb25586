-- What every script has.
use Rattle.std.specs.Prelude.{ℕ, ◌≡◌, ◌+◌, ◌^◌, ◌<◌, ◌≤◌, ◌⊎◌, Option, Bool, true, false, not, Some, None, IfSome, is_some, List, [], ◌∷◌, ◌++◌, length, map, All, count_by, slice_get, if◌then◌else◌}
use Rattle.std.specs.List.{list_all}
use Rattle.std.specs.Option.{option_map_or}
use Rattle.contact.specs.Versions.{IsVersion}
use Rattle.contact.specs.declared.kind.DeviceKind.{DeviceKind}
use Rattle.contact.specs.declared.kind.DeviceKind.TheVariants.{Disk as KindDisk, Net as KindNet}
use Rattle.script_lines.specs.declared.line.Line.{Line}
use Rattle.script_lines.specs.declared.line.What.{What}
use Rattle.script_lines.specs.declared.line.What.TheVariants.{Contact as IsContact, Offer as IsOffer, Bad as IsBad, RingSize as IsRingSize, Window as IsWindow, Ask as IsAsk, Rescind as IsRescind, Shut as IsShut, Modify as IsModify, Phase as IsPhase}
use Rattle.script_lines.specs.declared.line.DeviceSpec.{DeviceSpec}
use Rattle.script_lines.specs.declared.line.DeviceSpec.TheVariants.{Disk as IsDisk, Net as IsNet}
use Rattle.script_lines.specs.declared.line.Ask.{Ask}
use Rattle.script_lines.specs.declared.line.Ask.TheVariants.{Ic, Disk as AskDisk, Net as AskNet, Kvp as AskKvp}
use Rattle.script_lines.specs.declared.asked.Asked.{Asked}
use Rattle.script_lines.specs.declared.asked.Asked.TheVariants.{Beat, Down, Command, Message, Pair}
use Rattle.script_lines.specs.declared.offering.Offering.{Offering}
use Rattle.script_lines.specs.declared.offering.Offering.TheVariants.{Disk as OfDisk, Plain}
use Rattle.script_lines.specs.declared.said.Said.{Said}
use Rattle.script_lines.specs.declared.said.Said.TheVariants.{Nothing, Contact, Offer, Bad, Ring, Window, Request, Rescind, Close, Modify, Phase}
use Rattle.kvp_ic.specs.Messages.{CanBeAsked}
use Rattle.script_lines.specs.Lines.{Says, Asks, Rescinds, Shuts, Modifies, said, contact_of, bad_block, set_as}
use Rattle.script_lines.specs.Requests.{AskInRange, CanBeCarried, IsSent}
use Rattle.script_lines.specs.Parts.{parts, this_part, offered, offered_by, named_by, asks_in, is_ask, is_settings, rescinds, shuts, modifies, modifies_in, modified_here, rescinded_in, closed_in, channels, channels_of, device_of, kind_of, kind_asked, blocks_at, has_bad}

-- a disk has 1 to 2^40 blocks, and at most 3 channels beside its first one; a network has two addresses of 6 bytes
abbrev pub IsDevice : DeviceSpec → Type 0
IsDevice (IsDisk blocks subs) = (1 ≤ blocks) × (blocks ≤ 2 ^ 40) × (subs ≤ 3)
IsDevice (IsNet mac station) = (length mac ≡ 6) × (length station ≡ 6)
IsDevice _ = Unit {0}

-- the kind of a device that can be rescinded: a disk or a network
abbrev pub IsRescindable : Option DeviceKind → Type 0
IsRescindable kind = (kind ≡ Some KindDisk) ⊎ (kind ≡ Some KindNet)

-- a line that speaks of a device speaks of one that is offered, and a request of one of its kind; a bad block is one of its disk, and numbers are in their ranges
abbrev pub IsRight : List DeviceSpec → What → Type 0
IsRight kinds (IsContact guest host) = IsVersion guest.0 × IsVersion host.0
IsRight kinds (IsOffer name device) = IsDevice device
IsRight kinds (IsBad device lba) = lba < blocks_at device kinds
IsRight kinds (IsRingSize device pages) = (device < length kinds) × (1 ≤ pages) × (pages ≤ 16)
IsRight kinds (IsWindow device size) = (device < length kinds) × (1 ≤ size) × (size ≤ 64)
IsRight kinds (IsAsk device ask) = slice_get (map kind_of kinds) device ≡ Some (kind_asked ask)
IsRight kinds (IsRescind device after held) = IsRescindable (slice_get (map kind_of kinds) device) × (after ≤ 4096) × (held ≡ true → 1 ≤ after)
IsRight kinds (IsShut device) = device < length kinds
IsRight kinds (IsModify device vp) = (device < length kinds) × (vp ≤ 63)
IsRight kinds IsPhase = Unit {0}

-- a request that a channel of its device carries
abbrev pub CanGo : Ask → Type 0
CanGo (Ic ask) = Unit {0}
CanGo (AskDisk request) = CanBeCarried request
CanGo (AskNet message) = IsSent message
CanGo (AskKvp request) = CanBeAsked request

abbrev pub SayGoes : Says → Type 0
SayGoes (Asks ask) = CanGo ask
SayGoes (Rescinds after held) = Unit {0}
SayGoes Shuts = Unit {0}
SayGoes (Modifies vp) = Unit {0}

-- so does the request of a line, where it has one
abbrev pub AskGoes : What → Type 0
AskGoes what = IfSome (said what) (λ s. SayGoes s.1)

-- each request of these lines goes through its channel
abbrev pub AllGo : List Line → Type 0
AllGo [] = Unit {0}
AllGo (l ∷ ls) = AskGoes l.what × AllGo ls

-- each of these lines is right
abbrev pub AllRight : List DeviceSpec → List Line → Type 0
AllRight kinds [] = Unit {0}
AllRight kinds (l ∷ ls) = IsRight kinds l.what × AllRight kinds ls

-- the line says which versions the guest and its host have
abbrev pub is_contact : What → Bool
is_contact what = is_some (contact_of what)

-- behind the first line none says versions
abbrev pub contact_first : List Line → Bool
contact_first [] = true
contact_first (l ∷ ls) = list_all (λ m. not (is_contact m.what)) ls

-- no line of settings stands behind a line of another kind
abbrev pub settings_first : List Line → Bool
settings_first [] = true
settings_first (l ∷ ls) = if is_settings l.what then settings_first ls else list_all (λ m. not (is_settings m.what)) ls

-- What every script has: each line is right among the devices that the script offers, at most 16 of them with 16 channels, and each request goes through its channel; settings stand first, and the versions before them all; a phase has at most 4,096 requests; a device is rescinded once at most, closed once at most, and moved once at most in a phase
pub record IsScript (lines : List Line) : Type 0 where
  pub right : AllRight (offered lines) lines
  pub go : AllGo lines
  pub contact : contact_first lines ≡ true
  pub settings : settings_first lines ≡ true
  pub few : length (offered lines) ≤ 16
  pub channels : channels lines ≤ 16
  pub short : length lines ≤ 20000
  pub asks : All (λ part. asks_in part ≤ 4096) (parts lines)
  pub rescinded : (device : ℕ) → count_by (λ l. rescinds device l.what) lines ≤ 1
  pub closed : (device : ℕ) → count_by (λ l. shuts device l.what) lines ≤ 1
  pub modified : (device : ℕ) → All (λ part. modifies_in device part ≤ 1) (parts lines)

-- a disk's blocks are in their range, where there are any, and another device is in its ranges
abbrev pub OfferInRange : Offering → Type 0
OfferInRange (OfDisk blocks subs) = IfSome blocks (λ n. (1 ≤ n) × (n ≤ 2 ^ 40))
OfferInRange (Plain spec) = IsDevice spec

-- what a line asks is in its ranges, where its values are
abbrev pub AskedInRange : Asked → Type 0
AskedInRange (Beat seq) = Unit {0}
AskedInRange (Down flags) = Unit {0}
AskedInRange (Command ask) = AskInRange ask
AskedInRange (Message message) = IfSome message IsSent
AskedInRange (Pair request) = IfSome request CanBeAsked

-- the values that a line says are in their ranges, where it says any
abbrev pub InRange : Said → Type 0
InRange Nothing = Unit {0}
InRange (Contact guest host) = IfSome guest (λ v. IsVersion v.0) × IfSome host (λ v. IsVersion v.0)
InRange (Offer name offering) = OfferInRange offering
InRange (Bad name lba) = Unit {0}
InRange (Ring name pages) = IfSome pages (λ n. (1 ≤ n) × (n ≤ 16))
InRange (Window name size) = IfSome size (λ n. (1 ≤ n) × (n ≤ 64))
InRange (Request name asked) = AskedInRange asked
InRange (Rescind name after held) = IfSome after (λ n. (n ≤ 4096) × (held ≡ true → 1 ≤ n))
InRange (Close name) = Unit {0}
InRange (Modify name vp) = IfSome vp (λ n. n ≤ 63)
InRange Phase = Unit {0}

-- the block was made bad before
abbrev pub is_again : List Line → What → Bool
is_again before what = option_map_or (λ s. has_bad s.0 s.1 before) (set_as bad_block what) false

-- a line of this may stand behind these lines
pub record Fits (before : List Line) (what : What) : Type 0 where
  pub right : IsRight (offered before ++ offered_by what) what
  pub goes : AskGoes what
  pub fresh : is_again before what ≡ false
  pub contact : is_contact what ≡ true → before ≡ []
  pub settings : is_settings what ≡ true → list_all (λ l. is_settings l.what) before ≡ true
  pub few : (spec : DeviceSpec) → offered_by what ≡ spec ∷ [] → channels before + channels_of spec ≤ 16
  pub new : (name : List ℕ) → named_by what ≡ name ∷ [] → device_of name before ≡ None
  pub asks : is_ask what ≡ true → asks_in (this_part before) < 4096
  pub rescinded : (device : ℕ) → rescinds device what ≡ true → rescinded_in device before ≡ None
  pub closed : (device : ℕ) → shuts device what ≡ true → closed_in device before ≡ None
  pub modified : (device : ℕ) → modifies device what ≡ true → modified_here device before ≡ false
  pub short : length before < 20000
