-- What the layouts of all messages say of a type.
use Rattle.std.proofs.Common.{◌≡◌, ℕ, ◌+◌, ◌≤◌, List, [], ◌∷◌, ◌++◌, length, Bool, true, false, ◌&&◌, ◌==◌, nat_le, Some, None, refl, sym, ap, ◌∙◌, subst, arith}
use Rattle.std.proofs.lemmas.Bool.Decides.{nat_tests}
use Rattle.std.specs.List.{list_all}
use Rattle.wire_table.specs.Rows.{Row, rows_at, row_at, size_of, total}
use Rattle.vmbus_msg.specs.Grammar.{kinds_of}
use Rattle.vmbus_msg.proofs.SizeLaws.{by_test}
use Rattle.vmbus_msg_text.specs.declared.layout.Shown.{Shown}
use Rattle.vmbus_msg_text.specs.declared.layout.Shown.TheVariants.{Hidden, Number, Digits, Runs}
use Rattle.vmbus_msg_text.specs.declared.layout.Layout.{Layout}
use Rattle.vmbus_msg_text.specs.Layouts.{show_in, kind_in, shows_in, kinds_in, number_width, Holds, field_text, fields_text, most_in, layout_among, name_among, shows_among, kinds_among, frames_room, narrow, fits, AreLayouts}
use Rattle.vmbus_msg_text.specs.Names.{Show, name_of, shows_of}
use Rattle.vmbus_msg_text.specs.Pieces.{joined}
use Rattle.vmbus_msg_text.specs.Text.{field_pieces}

both : (a b : Bool) → (a && b) ≡ true → (a ≡ true) × (b ≡ true)
both true b h = (refl, h)
both false b h = cc

-- the layout that was found is the type's
pub record Known (ls : List Layout) (k : ℕ) (l : Layout) : Type 0 where
  pub name : name_among ls k ≡ l.name.now
  pub shows : shows_among ls k ≡ shows_in l.fields.now
  pub kinds : kinds_among ls k ≡ kinds_in l.fields.now
  pub kind : k ≡ l.kind
  pub fit : fits l ≡ true

pub known : (ls : List Layout) (k : ℕ) (l : Layout) → list_all fits ls ≡ true → layout_among ls k ≡ Some l → Known ls k l
known [] k l all h = cc
known (m ∷ ls) k l all h =
    let fit = both (fits m) (list_all fits ls) all in
    by_test (k == m.kind)
    (λ is. let same : m ≡ l = let found : Some m ≡ Some l = rw is at h in cc in
    subst (λ (x : Layout). Known (m ∷ ls) k x) same (record { name = rw is refl; shows = rw is refl; kinds = rw is refl; kind = grind (arith, nat_tests, is); fit = fit.0 }))
    (λ no. let t = known ls k l fit.1 (rw no at h) in
    record { name = rw no t.name; shows = rw no t.shows; kinds = rw no t.kinds; kind = t.kind; fit = t.fit })

-- where none was found there is none
pub unknown : (ls : List Layout) (k : ℕ) → layout_among ls k ≡ None → (name_among ls k ≡ []) × (shows_among ls k ≡ [])
unknown [] k h = (refl, refl)
unknown (m ∷ ls) k h =
    by_test (k == m.kind)
    (λ is. let found : Some m ≡ None = rw is at h in absurd (cc))
    (λ no. let t = unknown ls k (rw no at h) in (rw no t.0, rw no t.1))

size_as : (s : Shown) (w : ℕ) → size_of (kind_in s w) ≡ w
size_as Hidden w = refl
size_as (Number name) w = refl
size_as (Digits name) w = refl
size_as (Runs name) w = refl

piece_text : (s : Shown) (w at : ℕ) (b : List ℕ) (ss : List Show) (rs : List Row) → joined (field_pieces (show_in s ∷ ss) (row_at (kind_in s w) at b ∷ rs)) ≡ field_text s w at b ++ joined (field_pieces ss rs)
piece_text Hidden w at b ss rs = refl
piece_text (Number name) w at b ss rs = refl
piece_text (Digits name) w at b ss rs = refl
piece_text (Runs name) w at b ss rs = refl

-- the pieces of fields make their text
pub pieces_text : (fs : List (Shown × ℕ)) (at : ℕ) (b : List ℕ) → joined (field_pieces (shows_in fs) (rows_at (kinds_in fs) at b)) ≡ fields_text fs at b
pieces_text [] at b = refl
pieces_text (f ∷ fs) at b =
    piece_text f.0 f.1 at b (shows_in fs) (rows_at (kinds_in fs) (at + size_of (kind_in f.0 f.1)) b)
    ∙ ap (λ (t : List ℕ). field_text f.0 f.1 at b ++ t) (ap (λ (w : ℕ). joined (field_pieces (shows_in fs) (rows_at (kinds_in fs) (at + w) b))) (size_as f.0 f.1) ∙ pieces_text fs (at + f.1) b)

-- fields stand in as many bytes as they have
pub holds : (fs : List (Shown × ℕ)) (at n : ℕ) → narrow fs ≡ true → at + total (kinds_in fs) ≤ n → Holds fs at n
holds [] at n thin h = omega arith
holds (f ∷ fs) at n thin h =
    let t = both (nat_le (number_width f.0 f.1) 8) (narrow fs) thin in
    let size = size_as f.0 f.1 in
    (grind (arith, nat_tests, t.0), omega (arith, h, size), holds fs (at + f.1) n t.1 (omega (arith, h, size)))

-- the text of the layout of a type, its room, and where its fields stand
pub text_known : (ls : List Layout) (k : ℕ) (l : Layout) (b : List ℕ) → AreLayouts ls → layout_among ls k ≡ Some l → l.name.now ++ fields_text l.fields.now 4 b ≡ name_of k ++ joined (field_pieces (shows_of k) (rows_at (kinds_of k) 4 b))
text_known ls k l b are h =
    let is = known ls k l are.fit h in
    rw (sym (are.names k), sym (are.shows k), sym (are.kinds k), is.name, is.shows, is.kinds) (ap (λ (t : List ℕ). l.name.now ++ t) (sym (pieces_text l.fields.now 4 b)))

pub room_known : (ls : List Layout) (k : ℕ) (l : Layout) → AreLayouts ls → layout_among ls k ≡ Some l → length l.name.now + most_in l.fields.now + frames_room k ≤ 3300
room_known ls k l are h =
    let is = known ls k l are.fit h in
    let t = (both (nat_le (length l.name.now + most_in l.fields.now + frames_room l.kind) 3300) (narrow l.fields.now) is.fit).0 in
    let room : length l.name.now + most_in l.fields.now + frames_room l.kind ≤ 3300 = grind (arith, nat_tests, t) in
    rw is.kind room

pub fields_known : (ls : List Layout) (k n : ℕ) (l : Layout) → AreLayouts ls → layout_among ls k ≡ Some l → 4 + total (kinds_of k) ≤ n → Holds l.fields.now 4 n
fields_known ls k n l are h within =
    let is = known ls k l are.fit h in
    let thin = (both (nat_le (length l.name.now + most_in l.fields.now + frames_room l.kind) 3300) (narrow l.fields.now) is.fit).1 in
    holds l.fields.now 4 n thin (rw (sym (are.kinds k), is.kinds) at within)

-- a type without a layout has no text
pub text_unknown : (ls : List Layout) (k : ℕ) (b : List ℕ) → AreLayouts ls → layout_among ls k ≡ None → [] ≡ name_of k ++ joined (field_pieces (shows_of k) (rows_at (kinds_of k) 4 b))
text_unknown ls k b are h =
    let is = unknown ls k h in
    rw (sym (are.names k), sym (are.shows k), is.0, is.1) refl
