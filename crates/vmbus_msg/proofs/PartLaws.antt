-- A message is told by its type, its fields and its frames.
use Rattle.std.proofs.Common.{◌≡◌, ℕ, List, Bool, true, false, ◌==◌, if◌then◌else◌, refl, ap, sym, ◌∙◌, subst, arith}
use Rattle.std.proofs.Math.Nat.{ℕ_set}
use Rattle.std.proofs.Math.Bridge.{le_prop}
use Rattle.wire_table.specs.Rows.{Row, nth_number, nth_raw}
use Rattle.vmbus_msg.specs.declared.msg.Msg.{Msg}
use Rattle.vmbus_msg.specs.declared.msg.Msg.TheVariants.{OfferChannel, RescindChannelOffer, RequestOffers, AllOffersDelivered, OpenChannel, OpenChannelResult, CloseChannel, GpadlHeader, GpadlBody, GpadlCreated, GpadlTeardown, GpadlTorndown, RelidReleased, InitiateContact, VersionResponse, Unload, UnloadResponse, TlConnectRequest, ModifyChannel, ModifyChannelResponse}
use Rattle.vmbus_msg.specs.declared.gpadl_header.GpadlHeader.{GpadlHeader as Header}
use Rattle.vmbus_msg.specs.declared.gpadl_body.GpadlBody.{GpadlBody as Body}
use Rattle.vmbus_msg.specs.Grammar.{type_of, fields_of, frames_of}
use Rattle.vmbus_msg.specs.Pages.{IsHeaderForm, IsBodyForm}

-- the message of a type with these fields, where it has no frames
made : ℕ → List Row → Msg
made k rs =
    if k == 1 then OfferChannel (nth_number 0 rs) (nth_raw 1 rs) (nth_raw 2 rs) (nth_number 3 rs) (nth_number 4 rs) (nth_number 5 rs) (nth_number 6 rs) (nth_raw 7 rs) (nth_number 8 rs) (nth_number 9 rs) (nth_number 10 rs) (nth_number 11 rs) (nth_number 12 rs) (nth_number 13 rs) (nth_number 14 rs) else
    if k == 2 then RescindChannelOffer (nth_number 0 rs) (nth_number 1 rs) else
    if k == 3 then RequestOffers (nth_number 0 rs) else
    if k == 4 then AllOffersDelivered (nth_number 0 rs) else
    if k == 5 then OpenChannel (nth_number 0 rs) (nth_number 1 rs) (nth_number 2 rs) (nth_number 3 rs) (nth_number 4 rs) (nth_number 5 rs) (nth_raw 6 rs) else
    if k == 6 then OpenChannelResult (nth_number 0 rs) (nth_number 1 rs) (nth_number 2 rs) (nth_number 3 rs) else
    if k == 7 then CloseChannel (nth_number 0 rs) (nth_number 1 rs) else
    if k == 10 then GpadlCreated (nth_number 0 rs) (nth_number 1 rs) (nth_number 2 rs) (nth_number 3 rs) else
    if k == 11 then GpadlTeardown (nth_number 0 rs) (nth_number 1 rs) (nth_number 2 rs) else
    if k == 12 then GpadlTorndown (nth_number 0 rs) (nth_number 1 rs) else
    if k == 13 then RelidReleased (nth_number 0 rs) (nth_number 1 rs) else
    if k == 14 then InitiateContact (nth_number 0 rs) (nth_number 1 rs) (nth_number 2 rs) (nth_number 3 rs) (nth_number 4 rs) (nth_number 5 rs) else
    if k == 15 then VersionResponse (nth_number 0 rs) (nth_number 1 rs) (nth_number 2 rs) (nth_number 3 rs) (nth_number 4 rs) else
    if k == 16 then Unload (nth_number 0 rs) else
    if k == 17 then UnloadResponse (nth_number 0 rs) else
    if k == 21 then TlConnectRequest (nth_number 0 rs) (nth_raw 1 rs) (nth_raw 2 rs) else
    if k == 22 then ModifyChannel (nth_number 0 rs) (nth_number 1 rs) (nth_number 2 rs) else
    if k == 24 then ModifyChannelResponse (nth_number 0 rs) (nth_number 1 rs) (nth_number 2 rs) else
    RequestOffers 0

-- the parts of a header
abbrev HeaderParts : Type 0
HeaderParts = ℕ × ℕ × ℕ × ℕ × ℕ × ℕ × ℕ × List ℕ

abbrev header_with : (t : HeaderParts) → IsHeaderForm t.3 t.4 t.7 → Header
header_with t p = record { padding = t.0; relid = t.1; gpadl = t.2; range_buflen = t.3; rangecount = t.4; byte_count = t.5; byte_offset = t.6; frames = t.7; in_form = p }

same_with : (t u : HeaderParts) → t ≡ u → (p : IsHeaderForm t.3 t.4 t.7) (q : IsHeaderForm u.3 u.4 u.7) → header_with t p ≡ header_with u q
same_with t u e =
    let one : (p q : IsHeaderForm t.3 t.4 t.7) → p ≡ q = hlevel (ℕ_set, le_prop) in
    let P : HeaderParts → Type 0 = λ v. (p : IsHeaderForm t.3 t.4 t.7) (q : IsHeaderForm v.3 v.4 v.7) → header_with t p ≡ header_with v q in
    subst P e (λ p q. ap (header_with t) (one p q))

abbrev header_parts : Header → HeaderParts
header_parts g = (g.padding, g.relid, g.gpadl, g.range_buflen, g.rangecount, g.byte_count, g.byte_offset, g.frames)

header_same : (g h : Header) → fields_of (GpadlHeader g) ≡ fields_of (GpadlHeader h) → g.frames ≡ h.frames → g ≡ h
header_same g h f fr =
    let e0 : g.padding ≡ h.padding = ap (nth_number 0) f in
    let e1 : g.relid ≡ h.relid = ap (nth_number 1) f in
    let e2 : g.gpadl ≡ h.gpadl = ap (nth_number 2) f in
    let e3 : g.range_buflen ≡ h.range_buflen = ap (nth_number 3) f in
    let e4 : g.rangecount ≡ h.rangecount = ap (nth_number 4) f in
    let e5 : g.byte_count ≡ h.byte_count = ap (nth_number 5) f in
    let e6 : g.byte_offset ≡ h.byte_offset = ap (nth_number 6) f in
    let parts : header_parts g ≡ header_parts h = rw (e0, e1, e2, e3, e4, e5, e6, fr) refl in
    same_with (header_parts g) (header_parts h) parts g.in_form h.in_form

-- the parts of a body
abbrev BodyParts : Type 0
BodyParts = ℕ × ℕ × ℕ × List ℕ

abbrev body_with : (t : BodyParts) → IsBodyForm t.3 → Body
body_with t p = record { padding = t.0; msgnumber = t.1; gpadl = t.2; frames = t.3; in_form = p }

same_body_with : (t u : BodyParts) → t ≡ u → (p : IsBodyForm t.3) (q : IsBodyForm u.3) → body_with t p ≡ body_with u q
same_body_with t u e =
    let one : (p q : IsBodyForm t.3) → p ≡ q = hlevel (ℕ_set, le_prop) in
    let P : BodyParts → Type 0 = λ v. (p : IsBodyForm t.3) (q : IsBodyForm v.3) → body_with t p ≡ body_with v q in
    subst P e (λ p q. ap (body_with t) (one p q))

abbrev body_parts : Body → BodyParts
body_parts g = (g.padding, g.msgnumber, g.gpadl, g.frames)

body_same : (g h : Body) → fields_of (GpadlBody g) ≡ fields_of (GpadlBody h) → g.frames ≡ h.frames → g ≡ h
body_same g h f fr =
    let e0 : g.padding ≡ h.padding = ap (nth_number 0) f in
    let e1 : g.msgnumber ≡ h.msgnumber = ap (nth_number 1) f in
    let e2 : g.gpadl ≡ h.gpadl = ap (nth_number 2) f in
    let parts : body_parts g ≡ body_parts h = rw (e0, e1, e2, fr) refl in
    same_body_with (body_parts g) (body_parts h) parts g.in_form h.in_form

same_header : (g : Header) (n : Msg) → 8 ≡ type_of n → fields_of (GpadlHeader g) ≡ fields_of n → g.frames ≡ frames_of n → GpadlHeader g ≡ n
same_header g (GpadlHeader h) t f fr = ap GpadlHeader (header_same g h f fr)
same_header g n t f fr = absurd (omega arith)

same_body : (g : Body) (n : Msg) → 9 ≡ type_of n → fields_of (GpadlBody g) ≡ fields_of n → g.frames ≡ frames_of n → GpadlBody g ≡ n
same_body g (GpadlBody h) t f fr = ap GpadlBody (body_same g h f fr)
same_body g n t f fr = absurd (omega arith)

-- no page list
abbrev is_plain : ℕ → Bool
is_plain k = if k == 8 then false else if k == 9 then false else true

own_parts : (n : Msg) → is_plain (type_of n) ≡ true → made (type_of n) (fields_of n) ≡ n
unfolding made
own_parts (GpadlHeader h) p = cc
own_parts (GpadlBody h) p = cc
own_parts n p = refl

plain_same : (k : ℕ) (n : Msg) → is_plain k ≡ true → k ≡ type_of n → made k (fields_of n) ≡ n
plain_same k n p t = subst (λ j. made j (fields_of n) ≡ n) (sym t) (own_parts n (subst (λ j. is_plain j ≡ true) t p))

pub same_parts : (m n : Msg) → type_of m ≡ type_of n → fields_of m ≡ fields_of n → frames_of m ≡ frames_of n → m ≡ n
unfolding made
same_parts (GpadlHeader g) n t f fr = same_header g n t f fr
same_parts (GpadlBody g) n t f fr = same_body g n t f fr
same_parts m n t f fr = ap (made (type_of m)) f ∙ plain_same (type_of m) n refl t
