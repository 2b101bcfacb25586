-- The end that serves.
use Rattle.std.specs.Prelude.{ℕ, zero, suc, ◌≡◌, Bool, true, false, ◌==◌, ◌&&◌, List, [], ◌∷◌, ◌++◌, map, filter, Option, Some, None, if◌then◌else◌}
use Rattle.channel_trace.specs.declared.event.Event.{Event}
use Rattle.channel_trace.specs.Runs.{IsFront, sent_of, got_of}
use Rattle.hist_lock.specs.Seat.{Call}
use Rattle.channel_model.specs.WireFormat.{WireFormat, packets_of, packets_in}

module _ {P A Q R : Type 0} (s : WireFormat P A Q R) where
  -- the call that serves a request
  pub record IsCall (q : Q) (c : Call Q R) : Type 0 where
    pub asked : c.request ≡ q
    pub fits : s.fits q c.reply ≡ true

  -- a request of the device: the last one that is served has no answer where it is held, and no message besides
  abbrev pub ServesAsk : Bool → P → ℕ → Call Q R → List (Call Q R) → List P → (ℕ → List (Call Q R) → List P → Type 0) → Type 0
  ServesAsk true p n c calls sent more = (calls ≡ []) × (sent ≡ [])
  ServesAsk false p n c calls sent more = (own : ℕ) × (rest : List P) × (sent ≡ packets_of own (s.gives p c.reply) ++ rest) × more n calls rest

  -- one packet, with what the packets after it are to meet. From the first request that has no answer on, nothing is answered
  abbrev pub ServesOne : Bool → P → Option Q → ℕ → List (Call Q R) → List P → (ℕ → List (Call Q R) → List P → Type 0) → Type 0
  ServesOne held p None n calls sent more = (own : ℕ) × (rest : List P) × (sent ≡ packets_in own (s.fixed p) ++ rest) × more n calls rest
  ServesOne held p (Some q) zero calls sent more = (calls ≡ []) × (sent ≡ [])
  ServesOne held p (Some q) (suc n) [] sent more = ⊥
  ServesOne held p (Some q) (suc n) (c ∷ calls) sent more = IsCall q c × ServesAsk (held && n == 0) p n c calls sent more

  -- n requests are to be served: these are the calls, and these packets go back
  abbrev pub Serves : Bool → List P → ℕ → List (Call Q R) → List P → Type 0
  Serves held [] n calls sent = (calls ≡ []) × (sent ≡ [])
  Serves held (p ∷ got) n calls sent = ServesOne held p (s.read p) n calls sent (λ m later rest. Serves held got m later rest)

  -- how many are still to be served, while packets are answered
  abbrev pub left_one : Bool → Option Q → ℕ → (ℕ → Option ℕ) → Option ℕ
  left_one held None n more = more n
  left_one held (Some q) zero more = None
  left_one held (Some q) (suc n) more = if held && n == 0 then None else more n

  abbrev pub left_of : Bool → List P → ℕ → Option ℕ
  left_of held [] n = Some n
  left_of held (p ∷ got) n = left_one held (s.read p) n (λ m. left_of held got m)

  -- the ids of the answers that were sent are those of the first requests with answers that were got
  abbrev pub InOrder : List (Event P) → Type 0
  InOrder [] = Unit {0}
  InOrder (e ∷ past) = IsFront (map s.id_of (filter s.is_answer (sent_of (e ∷ past)))) (map s.id_of (filter s.waits (filter s.is_request (got_of (e ∷ past))))) × InOrder past

  -- the calls whose answers go back
  abbrev pub answered : Bool → ℕ → List (Call Q R) → List (Call Q R)
  answered held n [] = []
  answered held zero (c ∷ calls) = []
  answered held (suc n) (c ∷ calls) = if held && n == 0 then [] else c ∷ answered held n calls
