-- The text of what a call comes to.
use Rattle.std.specs.Prelude.{ℕ, Bool, true, false, ◌++◌, List, [], ◌∷◌, codes, Result, Ok, Err}
use Rattle.std.specs.List.{flat_map}
use Rattle.std.specs.Fmt.{decimal}
use Rattle.line_words.specs.Values.{hex_16}
use Rattle.ring_machine.specs.declared.last.Signalled.{Signalled}
use Rattle.ring_machine.specs.declared.last.Signalled.TheVariants.{Raised, Quiet}
use Rattle.ring_machine.specs.declared.last.Armed.{Armed}
use Rattle.ring_machine.specs.declared.last.Armed.TheVariants.{Asleep, Work}
use Rattle.ring_machine.specs.declared.last.Bad.{Bad}
use Rattle.ring_machine.specs.declared.last.Bad.TheVariants.{Index, Length, Offset}
use Rattle.ring_machine.specs.declared.last.Why.{Why}
use Rattle.ring_machine.specs.declared.last.Why.TheVariants.{BadPeer as WhyBadPeer, Malformed as WhyMalformed}
use Rattle.ring_machine.specs.declared.last.SendRefusal.{SendRefusal}
use Rattle.ring_machine.specs.declared.last.SendRefusal.TheVariants.{Full, BadPeer, Stopped as StoppedSend}
use Rattle.ring_machine.specs.declared.last.TakeRefusal.{TakeRefusal}
use Rattle.ring_machine.specs.declared.last.TakeRefusal.TheVariants.{Empty, Malformed, Stopped as StoppedTake}
use Rattle.ring_machine.specs.declared.last.Last.{Last}
use Rattle.ring_machine.specs.declared.last.Last.TheVariants.{Fresh, Sent, Full as LastFull, Took, Empty as LastEmpty, Broke, Committed, Armed as LastArmed, Polled, Marked, PeerMark}

-- the words of a packet, 16 digits each
abbrev pub words_text : List ℕ → List ℕ
words_text words = flat_map (λ v. codes " " ++ hex_16 v) words

-- what is no packet, and the value that makes it none
abbrev pub bad_text : Bad → List ℕ
bad_text (Index v) = codes "malformed index " ++ decimal v
bad_text (Length l avail) = (codes "malformed length " ++ decimal l) ++ (codes " avail " ++ decimal avail)
bad_text (Offset o l) = (codes "malformed offset " ++ decimal o) ++ (codes " length " ++ decimal l)

abbrev pub why_text : Why → List ℕ
why_text (WhyBadPeer index) = codes "bad peer " ++ decimal index
why_text (WhyMalformed bad) = bad_text bad

abbrev pub full_text : ℕ → ℕ → List ℕ
full_text free need = (codes "full free " ++ decimal free) ++ (codes " need " ++ decimal need)

abbrev pub committed_text : Signalled → List ℕ
committed_text Raised = codes "committed raised"
committed_text Quiet = codes "committed quiet"

abbrev pub armed_text : Armed → List ℕ
armed_text Asleep = codes "asleep"
armed_text Work = codes "work"

abbrev pub polled_text : Bool → List ℕ
polled_text true = codes "signal 1"
polled_text false = codes "signal 0"

abbrev pub signalled_text : Signalled → List ℕ
signalled_text Raised = codes "sent raised"
signalled_text Quiet = codes "sent quiet"

-- the text of how a call ended; of a packet that was taken, with its words
abbrev pub ending_text : Last → List ℕ → List ℕ
ending_text Fresh words = []
ending_text (Sent how) words = signalled_text how
ending_text (LastFull free need) words = full_text free need
ending_text (Took len) words = codes "took" ++ words_text words
ending_text (LastEmpty at) words = codes "empty at " ++ decimal at
ending_text (Broke why) words = why_text why
ending_text (Committed how) words = committed_text how
ending_text (LastArmed how) words = armed_text how
ending_text (Polled up) words = polled_text up
ending_text Marked words = []
ending_text (PeerMark up) words = []

-- the same, by what the call answered
abbrev pub sent_text : Result Signalled SendRefusal → List ℕ
sent_text (Ok how) = signalled_text how
sent_text (Err (Full free need)) = full_text free need
sent_text (Err (BadPeer index)) = codes "bad peer " ++ decimal index
sent_text (Err (StoppedSend why)) = codes "stopped"

abbrev pub took_text : Result (Unit {0}) TakeRefusal → List ℕ → List ℕ
took_text (Ok u) words = codes "took" ++ words_text words
took_text (Err (Empty at)) words = codes "empty at " ++ decimal at
took_text (Err (Malformed bad)) words = bad_text bad
took_text (Err (StoppedTake why)) words = codes "stopped"
