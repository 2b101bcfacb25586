-- Lines that make places bad.
use Rattle.std.proofs.Common.{◌≡◌, ℕ, zero, suc, ◌+◌, ◌<◌, ◌==◌, Bool, true, false, cond, List, [], ◌∷◌, ◌++◌, length, take, drop, get_or, refl, ap, sym, ◌∙◌, subst, arith, slice_get, Some}
use Rattle.std.specs.Prelude.{All}
use Rattle.std.specs.Option.{option_map_or}
use Rattle.std.proofs.lemmas.List.{take_more, drop_more, append-nil, take-append-drop, length-map}
use Rattle.std.proofs.lemmas.List.Elements.{All-append, All-nil, All-cons}
use Rattle.std.proofs.lemmas.Grind.{flat_map-append}
use Rattle.std.proofs.lemmas.Bool.Decides.{nat_tests}
use Rattle.script_lines.specs.declared.line.Line.{Line}
use Rattle.script_lines.specs.declared.line.What.{What}
use Rattle.script_lines.specs.declared.line.What.TheVariants.{Contact as IsContact, Offer as IsOffer, Bad as IsBad, RingSize as IsRingSize, Window as IsWindow, Ask as IsAsk, Rescind as IsRescind, Shut as IsShut, Modify as IsModify, Phase as IsPhase}
use Rattle.script_lines.specs.declared.line.DeviceSpec.{DeviceSpec}
use Rattle.script_lines.specs.Parts.{offered, offered_by, blocks_of, blocks_at, bads_by, bads_of}
use Rattle.script_lines.specs.WellFormed.{IsRight, AllRight}
use Rattle.device_any.specs.Boxes.{spec_of}
use Rattle.device_any.specs.declared.device_box.DeviceBox.{DeviceBox}
use Rattle.bus_run.specs.Whole.{AreFresh, CanMake}

-- one more line

pub bads_taken : (device : ℕ) (lines : List Line) (i : ℕ) (line : Line) (places : List ℕ) → i < length lines → line ≡ get_or lines i line → places ≡ bads_of device (take i lines) → places ++ bads_by device line.what ≡ bads_of device (take (i + 1) lines)
bads_taken device lines i line places less is before =
    ap (λ l. l ++ bads_by device line.what) before
    ∙ sym
    (ap (bads_of device) (take_more lines i line less ∙ ap (λ x. take i lines ++ x ∷ []) (sym is))
    ∙ flat_map-append (λ l. bads_by device l.what) (take i lines) (line ∷ [])
    ∙ ap (λ (l : List ℕ). bads_of device (take i lines) ++ l) (append-nil (bads_by device line.what)))

-- bad places are blocks of their disk

bad_if : (b : Bool) (lba n : ℕ) → (b ≡ true → lba < n) → All (λ place. place < n) (cond b (lba ∷ []) [])
bad_if true lba n less = All-cons (λ place. place < n) lba [] (less refl) (All-nil (λ place. place < n))
bad_if false lba n less = All-nil (λ place. place < n)

bad_here : (kinds : List DeviceSpec) (device : ℕ) (w : What) → IsRight kinds w → All (λ place. place < blocks_at device kinds) (bads_by device w)
bad_here kinds device (IsContact guest host) right = All-nil (λ place. place < blocks_at device kinds)
bad_here kinds device (IsOffer name spec) right = All-nil (λ place. place < blocks_at device kinds)
bad_here kinds device (IsBad d lba) right = bad_if (d == device) lba (blocks_at device kinds) (λ same. let e : d ≡ device = grind (arith, nat_tests, same) in subst (λ n. lba < blocks_at n kinds) e right)
bad_here kinds device (IsRingSize d pages) right = All-nil (λ place. place < blocks_at device kinds)
bad_here kinds device (IsWindow d size) right = All-nil (λ place. place < blocks_at device kinds)
bad_here kinds device (IsAsk d ask) right = All-nil (λ place. place < blocks_at device kinds)
bad_here kinds device (IsRescind d after held) right = All-nil (λ place. place < blocks_at device kinds)
bad_here kinds device (IsShut d) right = All-nil (λ place. place < blocks_at device kinds)
bad_here kinds device (IsModify d vp) right = All-nil (λ place. place < blocks_at device kinds)
bad_here kinds device IsPhase right = All-nil (λ place. place < blocks_at device kinds)

pub bads_within : (kinds : List DeviceSpec) (device : ℕ) (lines : List Line) → AllRight kinds lines → All (λ place. place < blocks_at device kinds) (bads_of device lines)
bads_within kinds device [] right = All-nil (λ place. place < blocks_at device kinds)
bads_within kinds device (l ∷ lines) right =
    All-append (λ place. place < blocks_at device kinds) (bads_by device l.what) (bads_of device lines) (bad_here kinds device l.what right.0) (bads_within kinds device lines right.1)

-- the device that a line offers

right_at : (kinds : List DeviceSpec) (lines : List Line) (i : ℕ) (line : Line) → AllRight kinds lines → i < length lines → line ≡ get_or lines i line → IsRight kinds line.what
right_at kinds [] i line right less is = absurd (omega (arith, less))
right_at kinds (l ∷ lines) zero line right less is = subst (λ x. IsRight kinds x.what) (sym is) right.0
right_at kinds (l ∷ lines) (suc i) line right less is = right_at kinds lines i line right.1 (omega (arith, less)) is

seam : (xs ys : List DeviceSpec) (k : DeviceSpec) → slice_get (xs ++ k ∷ ys) (length xs) ≡ Some k
seam [] ys k = refl
seam (x ∷ xs) ys k = seam xs ys k

offered_cut : (lines : List Line) (i : ℕ) (line : Line) → i < length lines → line ≡ get_or lines i line → offered lines ≡ offered (take i lines) ++ (offered_by line.what ++ offered (drop (i + 1) lines))
offered_cut lines i line less is =
    ap offered (sym (take-append-drop i lines) ∙ ap (λ l. take i lines ++ l) (drop_more lines i line less ∙ ap (λ x. x ∷ drop (i + 1) lines) (sym is)))
    ∙ flat_map-append (λ l. offered_by l.what) (take i lines) (line ∷ drop (i + 1) lines)

make_line : (lines : List Line) (front back : List DeviceSpec) (device : ℕ) (w : What) → AllRight (offered lines) lines → IsRight (offered lines) w → device ≡ length front → offered lines ≡ front ++ (offered_by w ++ back) → CanMake lines device w
make_line lines front back device (IsContact guest host) all right is cut = tt
make_line lines front back device (IsOffer name spec) all right is cut =
    let here : slice_get (offered lines) device ≡ Some spec = ap (λ l. slice_get l device) cut ∙ ap (λ n. slice_get (front ++ spec ∷ back) n) is ∙ seam front back spec in
    let blocks : blocks_at device (offered lines) ≡ blocks_of spec = ap (λ o. option_map_or blocks_of o 0) here in
    (right, subst (λ n. All (λ place. place < n) (bads_of device lines)) blocks (bads_within (offered lines) device lines all))
make_line lines front back device (IsBad d lba) all right is cut = tt
make_line lines front back device (IsRingSize d pages) all right is cut = tt
make_line lines front back device (IsWindow d size) all right is cut = tt
make_line lines front back device (IsAsk d ask) all right is cut = tt
make_line lines front back device (IsRescind d after held) all right is cut = tt
make_line lines front back device (IsShut d) all right is cut = tt
make_line lines front back device (IsModify d vp) all right is cut = tt
make_line lines front back device IsPhase all right is cut = tt

pub can_make : (lines : List Line) (i : ℕ) (line : Line) (boxes : List DeviceBox) → AllRight (offered lines) lines → i < length lines → line ≡ get_or lines i line → AreFresh lines (offered (take i lines)) boxes → CanMake lines (length boxes) line.what
can_make lines i line boxes all less is fresh =
    make_line lines (offered (take i lines)) (offered (drop (i + 1) lines)) (length boxes) line.what all (right_at (offered lines) lines i line all less is)
    (sym (length-map boxes spec_of) ∙ ap length fresh.kinds_are) (offered_cut lines i line less is)
