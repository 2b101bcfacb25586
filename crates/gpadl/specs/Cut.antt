-- The messages of a page list.
use Rattle.std.specs.Prelude.{◌≡◌, ℕ, zero, suc, ◌+◌, ◌*◌, ◌≤◌, List, [], ◌∷◌, length, take, drop}
use Rattle.vmbus_msg.specs.declared.msg.Msg.{Msg}
use Rattle.vmbus_msg.specs.declared.msg.Msg.TheVariants.{GpadlHeader, GpadlBody}
use Rattle.vmbus_msg.proofs.Forms.{header_form, body_form}

-- the header of a list of these pages: it holds the first 26
abbrev pub IsHeaderOf : ℕ → ℕ → List ℕ → Msg → Type 0
IsHeaderOf relid handle pages (GpadlHeader h) =
    (h.padding ≡ 0) × (h.relid ≡ relid) × (h.gpadl ≡ handle) × (h.range_buflen ≡ 8 + 8 * length pages) × (h.rangecount ≡ 1) × (h.byte_count ≡ 4096 * length pages) × (h.byte_offset ≡ 0) × (h.frames ≡ take 26 pages)
IsHeaderOf relid handle pages _ = ⊥

-- the body with this number, and these frames
abbrev pub IsBodyOf : ℕ → ℕ → List ℕ → Msg → Type 0
IsBodyOf handle number frames (GpadlBody b) = (b.padding ≡ 0) × (b.msgnumber ≡ number) × (b.gpadl ≡ handle) × (b.frames ≡ frames)
IsBodyOf handle number frames _ = ⊥

-- the bodies of these frames, from this number on: each holds the next 28, and the last one the rest
abbrev pub AreBodiesOf : ℕ → ℕ → List ℕ → List Msg → Type 0
AreBodiesOf handle number frames [] = frames ≡ []
AreBodiesOf handle number frames (m ∷ ms) = IsBodyOf handle number (take 28 frames) m × AreBodiesOf handle (number + 1) (drop 28 frames) ms

-- the messages of a list: its header, and then bodies with what is left
abbrev pub AreMessagesOf : ℕ → ℕ → List ℕ → List Msg → Type 0
AreMessagesOf relid handle pages [] = ⊥
AreMessagesOf relid handle pages (m ∷ ms) = IsHeaderOf relid handle pages m × AreBodiesOf handle 0 (drop 26 pages) ms

-- the bodies of these frames, from this number on, where they are at most so many
abbrev pub bodies : ℕ → ℕ → ℕ → List ℕ → List Msg
bodies zero handle number frames = []
bodies (suc most) handle number [] = []
bodies (suc most) handle number (frame ∷ frames) =
    GpadlBody (record { padding = 0; msgnumber = number; gpadl = handle; frames = take 28 (frame ∷ frames); in_form = body_form frame frames }) ∷ bodies most handle (number + 1) (drop 28 (frame ∷ frames))

-- the header of a list of these pages
abbrev pub header : ℕ → ℕ → ℕ → List ℕ → Msg
header relid handle page pages = GpadlHeader (record {
  padding = 0;
  relid = relid;
  gpadl = handle;
  range_buflen = 8 + 8 * length (page ∷ pages);
  rangecount = 1;
  byte_count = 4096 * length (page ∷ pages);
  byte_offset = 0;
  frames = take 26 (page ∷ pages);
  in_form = header_form page pages;
})

-- a list of at least one page, cut: these are its messages, and no others are
abbrev pub cut : ℕ → ℕ → List ℕ → List Msg
cut relid handle [] = []
cut relid handle (page ∷ pages) = header relid handle page pages ∷ bodies (length pages) handle 0 (drop 26 (page ∷ pages))

abbrev pub CutsSo : Type 0
CutsSo = (relid handle : ℕ) (pages : List ℕ) (messages : List Msg) → AreMessagesOf relid handle pages messages → messages ≡ cut relid handle pages

abbrev pub CutsWell : Type 0
CutsWell = (relid handle : ℕ) (pages : List ℕ) → 1 ≤ length pages → AreMessagesOf relid handle pages (cut relid handle pages)
