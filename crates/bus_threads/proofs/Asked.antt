-- How many packets of an end that asks ask the device for something.
use Rattle.std.proofs.Common.{◌≡◌, ◌≤◌, List, [], ◌∷◌, ◌++◌, length, filter, Bool, false, refl, ap, ◌∙◌, arith, None, is_some}
use Rattle.page_kept.specs.declared.item.Item.{Item}
use Rattle.channel_trace.specs.declared.event.Event.{Event}
use Rattle.channel_trace.specs.Runs.{sent_of}
use Rattle.channel_model.specs.WireFormat.{WireFormat, Keeps}
use Rattle.channel_model.specs.Asker.{Encoded, requests_of}
use Rattle.channel_model.specs.Channel.{AllFixed}
use Rattle.channel_model.proofs.Opens.{by_test}
use Rattle.channel_model.proofs.Served.{filter_first, filter_past}
use Rattle.worker_requester.specs.Asking.{AsksBy}
use Rattle.worker_requester.proofs.AskSteps.{encoded_few}
use Rattle.worker_port.specs.Rooms.{is_asked}
use Rattle.worker_port.specs.declared.ended.Ended.{Ended}
use Rattle.worker_port.specs.declared.ended.Ended.TheVariants.{Marked, PeerMarked, Room, Broken}

filter_le : (f : Item → Bool) (ps : List Item) → length (filter f ps) ≤ length ps
filter_le f [] = omega arith
filter_le f (p ∷ ps) =
    by_test (f p)
    (λ e. omega (arith, ap length (filter_first f p ps e), filter_le f ps))
    (λ e. omega (arith, ap length (filter_past f p ps e), filter_le f ps))

module _ {A Q R : Type 0} (s : WireFormat Item A Q R) (keeps : Keeps s) where
  -- the start-up asks nothing of the device
  asked_few : (start script : List A) (ps : List Item) → AllFixed s start → Encoded s (start ++ script) ps → length (filter (is_asked s) ps) ≤ length script
  asked_few [] script ps fixed h = omega (arith, filter_le (is_asked s) ps, encoded_few s script ps h)
  asked_few (a ∷ start) script [] fixed h = omega arith
  asked_few (a ∷ start) script (p ∷ ps) fixed h =
      let none : is_asked s p ≡ false = ap is_some (ap s.read h.0 ∙ fixed.0 (s.id_of p)) in
      omega (arith, ap length (filter_past (is_asked s) p ps none), asked_few start script ps fixed.1 h.1)

  -- nothing but requests asks it
  requests_alone : (ps : List Item) → length (filter (is_asked s) ps) ≤ length (filter (is_asked s) (filter s.is_request ps))
  requests_alone [] = omega arith
  requests_alone (p ∷ ps) =
      by_test (s.is_request p)
      (λ e. let mine = ap (λ l. length (filter (is_asked s) l)) (filter_first s.is_request p ps e) in
      by_test (is_asked s p)
      (λ f. omega (arith, requests_alone ps, mine, ap length (filter_first (is_asked s) p ps f), ap length (filter_first (is_asked s) p (filter s.is_request ps) f)))
      (λ f. omega (arith, requests_alone ps, mine, ap length (filter_past (is_asked s) p ps f), ap length (filter_past (is_asked s) p (filter s.is_request ps) f))))
      (λ e. let none : is_asked s p ≡ false = ap is_some (keeps.unread p (keeps.asks p e)) in
      omega (arith, requests_alone ps, ap length (filter_past (is_asked s) p ps none), ap (λ l. length (filter (is_asked s) l)) (filter_past s.is_request p ps e)))

  encoded_by : (how : Ended) (start script : List A) (past : List (Event Item)) (told : List R) → AsksBy s how (start ++ script) past told → Encoded s (start ++ script) (requests_of s past)
  encoded_by Marked start script past told by = (by.0 (record { start = start; script = script; stop = None }) refl).encoded
  encoded_by PeerMarked start script past told by = (by.0 (record { start = start; script = script; stop = None }) refl).encoded
  encoded_by (Room packets words left) start script past told by = by.encoded
  encoded_by (Broken why) start script past told by = by.encoded

  -- an end that ended asked no more of the device than its script does
  pub few_asked : (how : Ended) (start script : List A) (past : List (Event Item)) (told : List R) → AllFixed s start → AsksBy s how (start ++ script) past told → length (filter (is_asked s) (sent_of past)) ≤ length script
  few_asked how start script past told fixed by = omega (arith, requests_alone (sent_of past), asked_few start script (requests_of s past) fixed (encoded_by how start script past told by))
