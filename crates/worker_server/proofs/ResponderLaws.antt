-- How one packet is served.
use Rattle.page_kept.specs.declared.item.Item.{Item}
use Rattle.std.proofs.Common.{◌≡◌, ℕ, suc, ◌+◌, ◌-◌, ◌≤◌, List, [], ◌∷◌, ◌++◌, length, length-append, take, drop, refl, sym, ap, ◌∙◌, subst, arith, Option, Some, None, is_some, Bool, true, false}
use Rattle.std.specs.Prelude.{IsSome, ◌<◌, ◌^◌, ◌&&◌, ◌==◌, if◌then◌else◌}
use Rattle.std.proofs.lemmas.List.{append-nil, drop-append-le, drop_all, take-append-drop, take-append-le, take_all}
use Rattle.std.proofs.Math.Seq.{take-append_seam, drop-append_seam}
use Rattle.hist_lock.specs.Seat.{Call}
use Rattle.channel_model.specs.Amounts.{HasNoMessages, MayHaveMessages}
use Rattle.channel_model.specs.WireFormat.{WireFormat, Keeps, Back, IsBack, IsBesides, IsMessage, listed, packets_of, packets_in, under_own}
use Rattle.channel_protocol.specs.Paged.{KeepsPages, LendsOwnPage}
use Rattle.pkt_desc.specs.Packets.{id_of}
use Rattle.pkt_desc.specs.Lending.{lent_of}
use Rattle.pkt_desc.specs.declared.loan.Lent.{Lent as LentBytes}
use Rattle.worker_port.specs.Owed.{Written}
use Rattle.worker_server.specs.Sheets.{AnswersTo, BringBack, BringsBack, GoesBack, LendsAll, TellsOwn, item_on, read_all}
use Rattle.channel_model.specs.Workers.{Owes}
use Rattle.channel_model.proofs.Acking.{owes_nothing, owes_message, owes_answer}
use Rattle.channel_model.proofs.Opens.{by_test}
use Rattle.channel_protocol.specs.Listed.{has_message_in}
use Rattle.channel_model.specs.Server.{Serves, ServesOne, ServesAsk, IsCall, left_one}
use Rattle.worker_server.specs.Serving.{ServesPacket, calls_behind, first_calls, last_calls, own_in}

-- what there is
pub value_of : {X : Type 0} (o : Option X) → IsSome o → (x : X) × (o ≡ Some x)
value_of None some = cc
value_of (Some x) some = (x, refl)

-- of a seat's calls, those that were made at the responder, and those before
pub calls_push : {Q R : Type 0} (calls : List (Call Q R)) (c : Call Q R) (n : ℕ) → n ≤ length calls → last_calls (calls ++ c ∷ []) (n + 1) ≡ last_calls calls n ++ c ∷ []
calls_push calls c n le =
    let size : length (calls ++ c ∷ []) - (n + 1) ≡ length calls - n = omega (arith, length-append calls (c ∷ [])) in
    ap (λ k. drop k (calls ++ c ∷ [])) size ∙ drop-append-le (length calls - n) calls (c ∷ []) (omega arith)

pub first_push : {Q R : Type 0} (calls : List (Call Q R)) (c : Call Q R) (n : ℕ) → n ≤ length calls → first_calls (calls ++ c ∷ []) (n + 1) ≡ first_calls calls n
first_push calls c n le =
    let size : length (calls ++ c ∷ []) - (n + 1) ≡ length calls - n = omega (arith, length-append calls (c ∷ [])) in
    ap (λ k. take k (calls ++ c ∷ [])) size ∙ take-append-le (length calls - n) calls (c ∷ []) (omega arith)

pub calls_grow : {Q R : Type 0} (old new : List (Call Q R)) (c : Call Q R) (olds news : List ℕ) (n : ℕ) → length olds ≤ length old → new ≡ old ++ c ∷ [] → news ≡ olds ++ n ∷ [] → last_calls new (length news) ≡ last_calls old (length olds) ++ c ∷ []
calls_grow old new c olds news n le is grown = ap (λ l. last_calls l (length news)) is ∙ (ap (λ k. last_calls (old ++ c ∷ []) k) (ap length grown ∙ length-append olds (n ∷ [])) ∙ calls_push old c (length olds) le)

pub first_grow : {Q R : Type 0} (old new : List (Call Q R)) (c : Call Q R) (olds news : List ℕ) (n : ℕ) → length olds ≤ length old → new ≡ old ++ c ∷ [] → news ≡ olds ++ n ∷ [] → first_calls new (length news) ≡ first_calls old (length olds)
first_grow old new c olds news n le is grown = ap (λ l. first_calls l (length news)) is ∙ (ap (λ k. first_calls (old ++ c ∷ []) k) (ap length grown ∙ length-append olds (n ∷ [])) ∙ first_push old c (length olds) le)

pub first_all : {Q R : Type 0} (calls : List (Call Q R)) (n : ℕ) → n ≡ 0 → first_calls calls n ≡ calls
first_all calls n none = take_all (length calls - n) calls (omega (arith, none))

pub last_none : {Q R : Type 0} (calls : List (Call Q R)) (n : ℕ) → n ≡ 0 → last_calls calls n ≡ []
last_none calls n none = drop_all (length calls - n) calls (omega (arith, none))

pub calls_whole : {Q R : Type 0} (calls : List (Call Q R)) (n : ℕ) → calls ≡ first_calls calls n ++ last_calls calls n
calls_whole calls n = sym (take-append-drop (length calls - n) calls)

-- the calls behind those before, and those before
pub behind_is : {Q R : Type 0} (before before' calls all : List (Call Q R)) → all ≡ before' ++ calls → before' ≡ before → calls_behind before all ≡ calls
behind_is before before' calls all is same = ap (drop (length before)) (is ∙ ap (λ l. l ++ calls) same) ∙ drop-append_seam before calls

pub front_is : {Q R : Type 0} (before before' calls all : List (Call Q R)) → all ≡ before' ++ calls → before' ≡ before → take (length before) all ≡ before
front_is before before' calls all is same = ap (take (length before)) (is ∙ ap (λ l. l ++ calls) same) ∙ take-append_seam before calls

module _ {A Q R : Type 0} (s : WireFormat Item A Q R) (held : Bool) (p : Item) where
  -- a packet that asks nothing of the device
  pub serves_fixed : (left left' : Option ℕ) (m own : ℕ) (calls calls' : List (Call Q R)) (owed : List Item) → left ≡ Some m → left' ≡ Some m → calls' ≡ calls → s.read p ≡ None → owed ≡ packets_in own (s.fixed p)
      → ServesPacket s held p left calls calls' owed left'
  serves_fixed left left' m own calls calls' owed is is' same reads e =
      subst (λ l. ServesPacket s held p l calls calls' owed left') (sym is) (
        [],
        subst (λ o. ServesOne s held p o m [] owed (λ k later rest. Serves s held [] k later rest)) (sym reads) (own, [], e ∙ sym (append-nil (packets_in own (s.fixed p))), (refl, refl)),
        same ∙ sym (append-nil calls),
        is' ∙ sym (ap (λ o. left_one s held o m (λ k. Some k)) reads),
      )

  -- a request past the last one that is served
  pub serves_past : (q : Q) (m : ℕ) (calls calls' : List (Call Q R)) (owed : List Item) → m ≡ 0 → s.read p ≡ Some q → owed ≡ [] → calls' ≡ calls → ServesPacket s held p (Some m) calls calls' owed None
  serves_past q m calls calls' owed zero reads none same =
      subst (λ k. ServesPacket s held p (Some k) calls calls' owed None) (sym zero) (
        [],
        subst (λ o. ServesOne s held p o 0 [] owed (λ k later rest. Serves s held [] k later rest)) (sym reads) (refl, none),
        same ∙ sym (append-nil calls),
        sym (ap (λ o. left_one s held o 0 (λ k. Some k)) reads),
      )

  -- the last one, whose answer is held
  pub serves_held : (q : Q) (c : Call Q R) (m k : ℕ) (calls calls' : List (Call Q R)) (owed : List Item) → m ≡ suc k → (held && k == 0) ≡ true → s.read p ≡ Some q → IsCall s q c → owed ≡ [] → calls' ≡ calls ++ c ∷ []
      → ServesPacket s held p (Some m) calls calls' owed None
  serves_held q c m k calls calls' owed is last reads call none more =
      subst (λ n. ServesPacket s held p (Some n) calls calls' owed None) (sym is) (
        c ∷ [],
        subst (λ o. ServesOne s held p o (suc k) (c ∷ []) owed (λ n later rest. Serves s held [] n later rest)) (sym reads)
            (call, subst (λ b. ServesAsk s b p k c [] owed (λ n later rest. Serves s held [] n later rest)) (sym last) (refl, none)),
        more,
        sym (ap (λ o. left_one s held o (suc k) (λ n. Some n)) reads ∙ ap (λ b. if b then None else Some k) last),
      )

  -- any other one
  pub serves_given : (q : Q) (c : Call Q R) (m k own : ℕ) (calls calls' : List (Call Q R)) (owed : List Item) (left' : Option ℕ) → m ≡ suc k → left' ≡ Some k → (held && k == 0) ≡ false → s.read p ≡ Some q
      → IsCall s q c → owed ≡ packets_of own (s.gives p c.reply) → calls' ≡ calls ++ c ∷ [] → ServesPacket s held p (Some m) calls calls' owed left'
  serves_given q c m k own calls calls' owed left' is is' last reads call e more =
      subst (λ n. ServesPacket s held p (Some n) calls calls' owed left') (sym is) (
        c ∷ [],
        subst (λ o. ServesOne s held p o (suc k) (c ∷ []) owed (λ n later rest. Serves s held [] n later rest)) (sym reads)
            (call, subst (λ b. ServesAsk s b p k c [] owed (λ n later rest. Serves s held [] n later rest)) (sym last) (own, [], e ∙ sym (append-nil (packets_of own (s.gives p c.reply))), (refl, refl))),
        more,
        is' ∙ sym (ap (λ o. left_one s held o (suc k) (λ n. Some n)) reads ∙ ap (λ b. if b then None else Some k) last),
      )

module _ {A Q R : Type 0} (s : WireFormat Item A Q R) (keeps : Keeps s) where
  -- what goes back is in form
  pub fixed_back : (p : Item) (b : Back Item) → s.read p ≡ None → s.fixed p ≡ Some b → IsBack s (s.id_of p) b
  fixed_back p b reads is =
      by_test (s.waits p)
      (λ e. let back = keeps.fixes p e reads in let same : back.0 ≡ b = cc (back.1, is) in subst (IsBack s (s.id_of p)) same back.2)
      (λ e. let bad : None ≡ Some b = sym (keeps.silent p e) ∙ is in absurd (cc))

  pub given_back : (p : Item) (q : Q) (r : R) → s.read p ≡ Some q → IsBack s (s.id_of p) (s.gives p r)
  given_back p q r reads =
      by_test (s.waits p)
      (λ e. keeps.given p r e)
      (λ e. let bad : None ≡ Some q = sym (keeps.unread p e) ∙ reads in absurd (cc))

  message_of : (o : Option (ℕ → Item)) → is_some o ≡ true → (m : ℕ → Item) × (o ≡ Some m)
  message_of None e = absurd (cc)
  message_of (Some m) e = (m, refl)

  no_message : (o : Option (ℕ → Item)) → is_some o ≡ false → o ≡ None
  no_message None e = refl
  no_message (Some m) e = absurd (cc)

  -- a message that goes back stands in the table
  pub owes_by : (id own : ℕ) (b : Back Item) (rs rs' : List (Option ℕ)) (besides : Bool) → own < 2 ^ 64 → IsBack s id b → is_some b.message ≡ besides → (besides ≡ true → own_in rs own ≡ false)
      → (besides ≡ true → (j : ℕ) → own_in rs' j ≡ (if j == own then true else own_in rs j)) → (besides ≡ false → rs' ≡ rs) → Owes s (packets_of own b) (own_in rs) (own_in rs')
  owes_by id own b rs rs' besides fits back is free set same =
      by_test besides
      (λ e. let m = message_of b.message (is ∙ e) in owes_message s id own b m.0 (own_in rs) (own_in rs') fits back m.1 (free e) (set e))
      (λ e. owes_answer s id own b (own_in rs) (own_in rs') back (no_message b.message (is ∙ e)) (λ j. ap (λ t. own_in t j) (same e)))

  -- and so does one that is fixed
  pub owes_fixed : (p : Item) (own : ℕ) (rs rs' : List (Option ℕ)) (besides : Bool) → own < 2 ^ 64 → s.read p ≡ None → besides ≡ has_message_in (s.fixed p) → (besides ≡ true → own_in rs own ≡ false)
      → (besides ≡ true → (j : ℕ) → own_in rs' j ≡ (if j == own then true else own_in rs j)) → (besides ≡ false → rs' ≡ rs) → Owes s (packets_in own (s.fixed p)) (own_in rs) (own_in rs')
  owes_fixed p own rs rs' besides fits reads is free set same = by (s.fixed p) refl
    where
      by : (o : Option (Back Item)) → s.fixed p ≡ o → Owes s (packets_in own o) (own_in rs) (own_in rs')
      by None e = owes_nothing s (own_in rs) (own_in rs') (λ j. ap (λ t. own_in t j) (same (is ∙ ap has_message_in e)))
      by (Some b) e = owes_by (s.id_of p) own b rs rs' besides fits (fixed_back p b reads e) (sym (is ∙ ap has_message_in e)) free set same

-- where no messages go back besides the answers
pub no_messages : {A Q R : Type 0} (s : WireFormat Item A Q R) (besides : Bool) → besides ≡ false → MayHaveMessages s besides → HasNoMessages s
no_messages s false e may = may
no_messages s true e may = absurd (cc)

module _ {A Q R : Type 0} (s : WireFormat Item A Q R) (keeps : Keeps s) (kp : KeepsPages s) (said : Item → Item) (same : (i : Item) → (said i).packet ≡ i.packet) (besides : Bool) (may : MayHaveMessages s besides) where
  alone_is : (own : ℕ) (b : Back Item) (m : Option (ℕ → Item)) (x : Item) → x ∷ [] ≡ listed (under_own own m) ++ b.answer ∷ [] → x ≡ b.answer
  alone_is own b None x e = let is : x ≡ b.answer = cc in is
  alone_is own b (Some m) x e = absurd (cc)

  both_are : (own : ℕ) (b : Back Item) (m : Option (ℕ → Item)) (x y : Item) → x ∷ y ∷ [] ≡ listed (under_own own m) ++ b.answer ∷ [] → (f : ℕ → Item) × (m ≡ Some f) × (x ≡ f own) × (y ≡ b.answer)
  both_are own b None x y e = absurd (cc)
  both_are own b (Some f) x y e = let first : x ≡ f own = cc in let second : y ≡ b.answer = cc in (f, refl, first, second)

  answers_so : (p : Item) (b : Back Item) (o : Written) → s.waits p ≡ true → IsBack s (s.id_of p) b → said (item_on o) ≡ b.answer → BringsBack said (length p.words) o → AnswersTo said s p o
  answers_so p b o waits back is brings = record { waits = waits; is_answer = ap s.is_answer is ∙ back.one; same = ap s.id_of is ∙ back.same; brings = brings }

  besides_at : (own : ℕ) (m : Option (ℕ → Item)) (f : ℕ → Item) → m ≡ Some f → IsBesides s m → IsMessage s own (f own)
  besides_at own m f is besides = (subst (IsBesides s) is besides) own

  own_at : (m : Option (ℕ → Item)) (f : ℕ → Item) → m ≡ Some f → LendsOwnPage m → (own : ℕ) (l : LentBytes) → 1 ≤ own → own ≤ 64 → lent_of (f own).packet ≡ Some l → l.page ≡ 63 + own
  own_at m f is lends = subst LendsOwnPage is lends

  -- a message goes under its own id
  tells_so : (own : ℕ) (b : Back Item) (f : ℕ → Item) (o : Written) → own < 2 ^ 64 → besides ≡ true → b.message ≡ Some f → IsBesides s b.message → LendsOwnPage b.message → said (item_on o) ≡ f own → LendsAll said o → TellsOwn said s besides o
  tells_so own b f o fits with_messages is message lends read all =
      let at = besides_at own b.message f is message in
      let packet : (f own).packet ≡ o.packet = ap (λ (i : Item). i.packet) (sym read) ∙ same (item_on o) in
      let id : id_of o.packet ≡ own = ap id_of (sym packet) ∙ (sym (kp.ids (f own)) ∙ at.same fits) in
      record {
        may = with_messages;
        message = ap s.is_message read ∙ at.message;
        own = λ l one most e. own_at b.message f is lends own l (omega (arith, one, id)) (omega (arith, most, id)) (ap lent_of packet ∙ e) ∙ ap (λ n. 63 + n) (sym id);
        lends = all;
      }

  -- where there is one, the channel may have them
  with_messages : (m : Option (ℕ → Item)) (f : ℕ → Item) → m ≡ Some f → (besides ≡ false → m ≡ None) → besides ≡ true
  with_messages m f is none = by_test besides (λ e. e) (λ e. absurd (let bad : None ≡ Some f = sym (none e) ∙ is in cc))

  all_back : (p : Item) (own : ℕ) (b : Back Item) (os : List Written) → own < 2 ^ 64 → s.waits p ≡ true → IsBack s (s.id_of p) b → LendsOwnPage b.message → (besides ≡ false → b.message ≡ None) → read_all said os ≡ packets_of own b → BringBack said (length p.words) os → GoesBack said s besides p os
  all_back p own b [] fits waits back lends none read brings = tt
  all_back p own b (o ∷ []) fits waits back lends none read brings = answers_so p b o waits back (alone_is own b b.message (said (item_on o)) read) brings
  all_back p own b (m ∷ o ∷ []) fits waits back lends none read brings =
      let two = both_are own b b.message (said (item_on m)) (said (item_on o)) read in
      (tells_so own b two.0 m fits (with_messages b.message two.0 two.1 none) two.1 back.besides lends two.2 brings.0, answers_so p b o waits back two.3 brings.1)
  all_back p own b (m ∷ o ∷ q ∷ os) fits waits back lends none read brings = absurd brings

  pub given_goes : (p : Item) (q : Q) (r : R) (own : ℕ) (os : List Written) → own < 2 ^ 64 → s.read p ≡ Some q → read_all said os ≡ packets_of own (s.gives p r) → BringBack said (length p.words) os → GoesBack said s besides p os
  given_goes p q r own os fits reads read brings =
      let waits : s.waits p ≡ true = by_test (s.waits p) (λ e. e) (λ e. let bad : None ≡ Some q = sym (keeps.unread p e) ∙ reads in absurd (cc)) in
      all_back p own (s.gives p r) os fits waits (given_back s keeps p q r reads) (kp.besides p r) (λ e. (no_messages s besides e may).gives p r) read brings

  pub fixed_goes : (p : Item) (own : ℕ) (os : List Written) → own < 2 ^ 64 → s.read p ≡ None → read_all said os ≡ packets_in own (s.fixed p) → BringBack said (length p.words) os → GoesBack said s besides p os
  fixed_goes p own os fits reads read brings = by (s.fixed p) refl
    where
      nothing : (os : List Written) → read_all said os ≡ [] → GoesBack said s besides p os
      nothing [] e = tt
      nothing (o ∷ os) e = absurd (cc)

      by : (o : Option (Back Item)) → s.fixed p ≡ o → GoesBack said s besides p os
      by None e = nothing os (read ∙ ap (packets_in own) e)
      by (Some b) e =
          let waits : s.waits p ≡ true = by_test (s.waits p) (λ w. w) (λ w. let bad : None ≡ Some b = sym (keeps.silent p w) ∙ e in absurd (cc)) in
          all_back p own b os fits waits (fixed_back s keeps p b reads e) (kp.fixed_besides p b e) (λ w. (no_messages s besides w may).fixed p b e) (read ∙ ap (packets_in own) e) brings
