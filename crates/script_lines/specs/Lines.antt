-- What each kind of line does. Each table has a row for each kind, so that none is passed over; what else is asked of a line is told by these.
use Rattle.std.specs.Prelude.{ℕ, Bool, true, false, List, Option, Some, None, option_map}
use Rattle.std.specs.Option.{option_and_then}
use Rattle.contact.specs.declared.version.Version.{Version}
use Rattle.script_lines.specs.declared.line.Ask.{Ask}
use Rattle.script_lines.specs.declared.line.DeviceSpec.{DeviceSpec}
use Rattle.script_lines.specs.declared.line.What.{What}
use Rattle.script_lines.specs.declared.line.What.TheVariants.{Contact as IsContact, Offer as IsOffer, Bad as IsBad, RingSize as IsRingSize, Window as IsWindow, Ask as IsAsk, Rescind as IsRescind, Shut as IsShut, Modify as IsModify, Phase as IsPhase}

-- the highest versions of the guest and of its host
abbrev pub contact_of : What → Option (Version × Version)
contact_of (IsContact guest host) = Some (guest, host)
contact_of (IsOffer name spec) = None
contact_of (IsBad device lba) = None
contact_of (IsRingSize device pages) = None
contact_of (IsWindow device size) = None
contact_of (IsAsk device ask) = None
contact_of (IsRescind device after held) = None
contact_of (IsShut device) = None
contact_of (IsModify device vp) = None
contact_of IsPhase = None

-- the device that is offered, behind its name
abbrev pub offer_of : What → Option (List ℕ × DeviceSpec)
offer_of (IsContact guest host) = None
offer_of (IsOffer name spec) = Some (name, spec)
offer_of (IsBad device lba) = None
offer_of (IsRingSize device pages) = None
offer_of (IsWindow device size) = None
offer_of (IsAsk device ask) = None
offer_of (IsRescind device after held) = None
offer_of (IsShut device) = None
offer_of (IsModify device vp) = None
offer_of IsPhase = None

-- what is set of a device: a block that is bad, the data pages of each ring, how many requests a channel has open at most
pub data Setting : Type 0 where
  BadBlock : ℕ → Setting
  RingPages : ℕ → Setting
  OpenMost : ℕ → Setting

-- the device of which a line sets something, and what it sets
abbrev pub sets : What → Option (ℕ × Setting)
sets (IsContact guest host) = None
sets (IsOffer name spec) = None
sets (IsBad device lba) = Some (device, BadBlock lba)
sets (IsRingSize device pages) = Some (device, RingPages pages)
sets (IsWindow device size) = Some (device, OpenMost size)
sets (IsAsk device ask) = None
sets (IsRescind device after held) = None
sets (IsShut device) = None
sets (IsModify device vp) = None
sets IsPhase = None

-- what is said to a device: a request; that its service stops after so many, the answer to the last one held or not, for it is rescinded; that it is closed; that the interrupts of its first channel go to this processor
pub data Says : Type 0 where
  Asks : Ask → Says
  Rescinds : ℕ → Bool → Says
  Shuts : Says
  Modifies : ℕ → Says

-- the device that a line speaks to in its phase, and what it says; settings say nothing in a phase
abbrev pub said : What → Option (ℕ × Says)
said (IsContact guest host) = None
said (IsOffer name spec) = None
said (IsBad device lba) = None
said (IsRingSize device pages) = None
said (IsWindow device size) = None
said (IsAsk device ask) = Some (device, Asks ask)
said (IsRescind device after held) = Some (device, Rescinds after held)
said (IsShut device) = Some (device, Shuts)
said (IsModify device vp) = Some (device, Modifies vp)
said IsPhase = None

-- a line that begins the next phase
abbrev pub is_phase : What → Bool
is_phase (IsContact guest host) = false
is_phase (IsOffer name spec) = false
is_phase (IsBad device lba) = false
is_phase (IsRingSize device pages) = false
is_phase (IsWindow device size) = false
is_phase (IsAsk device ask) = false
is_phase (IsRescind device after held) = false
is_phase (IsShut device) = false
is_phase (IsModify device vp) = false
is_phase IsPhase = true

-- the number of a setting of each kind
abbrev pub bad_block : Setting → Option ℕ
bad_block (BadBlock lba) = Some lba
bad_block (RingPages pages) = None
bad_block (OpenMost size) = None

abbrev pub ring_pages : Setting → Option ℕ
ring_pages (BadBlock lba) = None
ring_pages (RingPages pages) = Some pages
ring_pages (OpenMost size) = None

abbrev pub open_most : Setting → Option ℕ
open_most (BadBlock lba) = None
open_most (RingPages pages) = None
open_most (OpenMost size) = Some size

-- the device of which a line sets such a number, and the number
abbrev pub set_as : (Setting → Option ℕ) → What → Option (ℕ × ℕ)
set_as kind what = option_and_then (λ s. option_map (λ n. (s.0, n)) (kind s.1)) (sets what)

-- which of them is said
abbrev pub is_request : Says → Bool
is_request (Asks ask) = true
is_request (Rescinds after held) = false
is_request Shuts = false
is_request (Modifies vp) = false

abbrev pub is_rescind : Says → Bool
is_rescind (Asks ask) = false
is_rescind (Rescinds after held) = true
is_rescind Shuts = false
is_rescind (Modifies vp) = false

abbrev pub is_close : Says → Bool
is_close (Asks ask) = false
is_close (Rescinds after held) = false
is_close Shuts = true
is_close (Modifies vp) = false

abbrev pub is_modify : Says → Bool
is_modify (Asks ask) = false
is_modify (Rescinds after held) = false
is_modify Shuts = false
is_modify (Modifies vp) = true
