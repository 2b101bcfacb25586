-- The assembled pages are those that were cut.
use Rattle.std.proofs.Common.{◌≡◌, ◌∙◌, ℕ, ◌+◌, ◌-◌, ◌*◌, ◌<◌, ◌≤◌, ◌==◌, true, false, min, nat_lt, List, [], ◌∷◌, ◌++◌, length, take, drop, Option, Some, None, refl, sym, ap, subst, append_assoc, length-append, length-drop, arith}
use Rattle.std.proofs.lemmas.Bool.{eq-eqb}
use Rattle.std.proofs.lemmas.Bool.Decides.{nat_tests}
use Rattle.std.proofs.lemmas.List.{append-nil, take-append-drop, length-take}
use Rattle.vmbus_msg.specs.declared.msg.Msg.{Msg}
use Rattle.vmbus_msg.specs.declared.msg.Msg.TheVariants.{GpadlHeader, GpadlBody}
use Rattle.vmbus_msg.specs.declared.gpadl_header.GpadlHeader.{GpadlHeader as Header}
use Rattle.vmbus_msg.specs.declared.gpadl_body.GpadlBody.{GpadlBody as Body}
use Rattle.vmbus_msg.specs.Pages.{pages_of}
use Rattle.gpadl.specs.Cut.{AreBodiesOf, AreMessagesOf}
use Rattle.gpadl.specs.Assembly.{Partial, Assembly, is_live, built, fault_of, header_fault, body_fault, begun, with_frames}
use Rattle.gpadl.specs.Whole.{settled, next, whole, AreTaken, whole_lists, after, Assemble}

-- a list that isn't whole yet goes on
goes_on : (p : Partial) (live : List ℕ) → length p.pages < p.want → (settled (Some p) live ≡ record { building = Some p; live = live }) × (whole (Some p) ≡ [])
goes_on p live less = let no : (length p.pages == p.want) ≡ false = grind (arith, nat_tests) in (rw no refl, rw no refl)

-- a whole list is live
ends : (p : Partial) (live : List ℕ) → length p.pages ≡ p.want → (settled (Some p) live ≡ record { building = None; live = live ++ p.handle ∷ [] }) × (whole (Some p) ≡ p ∷ [])
ends p live all = let yes = eq-eqb (length p.pages) p.want all in (rw yes refl, rw yes refl)

body_fine : (p : Partial) (b : Body) → p.handle ≡ b.gpadl → length b.frames ≤ p.want - length p.pages → body_fault (Some p) b ≡ None
body_fine p b same few =
    let yes = eq-eqb p.handle b.gpadl same in
    let no : nat_lt (p.want - length p.pages) (length b.frames) ≡ false = grind (arith, nat_tests) in
    rw (yes, no) refl

header_fine : (live : List ℕ) (h : Header) (handle n : ℕ) → is_live live handle ≡ false → h.gpadl ≡ handle → h.byte_offset ≡ 0 → h.byte_count ≡ 4096 * n → pages_of h.range_buflen ≡ n → header_fault (record { building = None; live = live }) h ≡ None
header_fine live h handle n free same offset count pages =
    let known : is_live live h.gpadl ≡ false = ap (is_live live) same ∙ free in
    let first : (h.byte_offset == 0) ≡ true = eq-eqb h.byte_offset 0 offset in
    let second : (h.byte_count == 4096 * pages_of h.range_buflen) ≡ true = eq-eqb h.byte_count (4096 * pages_of h.range_buflen) (omega (arith, count, pages)) in
    rw (known, first, second) refl

-- a message that leaves frames missing, and then the rest
made_more : (s : Assembly) (m : Msg) (ms : List Msg) (q r : Partial) → built s.building m ≡ Some q → fault_of s m ≡ None → length q.pages < q.want → Assemble (record { building = Some q; live = s.live }) ms r → Assemble s (m ∷ ms) r
made_more s m ms q r is fine less rest =
    let on = goes_on q s.live less in
    let here : next s m ≡ record { building = Some q; live = s.live } = ap (λ (b : Option Partial). settled b s.live) is ∙ on.0 in
    let none : whole (built s.building m) ≡ [] = ap whole is ∙ on.1 in
    record {
      taken = (fine, subst (λ (t : Assembly). AreTaken t ms) (sym here) rest.taken);
      made = (λ i. none i ++ whole_lists (here i) ms) ∙ rest.made;
      left = ap (λ (t : Assembly). after t ms) here ∙ rest.left;
    }

-- a message that makes a list whole
made_last : (s : Assembly) (m : Msg) (q : Partial) → built s.building m ≡ Some q → fault_of s m ≡ None → length q.pages ≡ q.want → Assemble s (m ∷ []) q
made_last s m q is fine all =
    let end = ends q s.live all in
    record {
      taken = (fine, tt);
      made = ap (λ (b : Option Partial). whole b ++ []) is ∙ ap (λ (l : List Partial). l ++ []) end.1;
      left = ap (λ (b : Option Partial). settled b s.live) is ∙ end.0;
    }

-- where a body follows, frames are left
some_frames : (handle number : ℕ) (frames : List ℕ) (m : Msg) (ms : List Msg) → AreBodiesOf handle number frames (m ∷ ms) → 1 ≤ length frames
some_frames handle number frames (GpadlBody b) ms are = let form = b.in_form.0 in omega (arith, form, ap length are.0.3, length-take 28 frames)
some_frames handle number frames _ ms are = absurd are.0

all_of : (n : ℕ) (xs : List ℕ) → drop n xs ≡ [] → take n xs ≡ xs
all_of n xs none = sym (append-nil (take n xs)) ∙ ap (λ (ys : List ℕ). take n xs ++ ys) (sym none) ∙ take-append-drop n xs

-- the bodies of the missing frames make the list whole
bodies_made : (handle number : ℕ) (frames : List ℕ) (ms : List Msg) (p : Partial) (live : List ℕ) → AreBodiesOf handle number frames ms → p.handle ≡ handle → length p.pages + length frames ≡ p.want → 1 ≤ length frames
    → Assemble (record { building = Some p; live = live }) ms (with_frames p frames)
bodies_made handle number frames [] p live are same all some = absurd (omega (arith, ap length are, some))
bodies_made handle number frames (GpadlBody b ∷ []) p live are same all some =
    let is : b.frames ≡ frames = are.0.3 ∙ all_of 28 frames are.1 in
    let count = ap length is in
    let fine = body_fine p b (same ∙ sym are.0.2) (omega (arith, count, all)) in
    let full : length (p.pages ++ b.frames) ≡ p.want = length-append p.pages b.frames ∙ omega (arith, count, all) in
    subst (λ (fs : List ℕ). Assemble (record { building = Some p; live = live }) (GpadlBody b ∷ []) (with_frames p fs)) is (made_last (record { building = Some p; live = live }) (GpadlBody b) (with_frames p b.frames) refl fine full)
bodies_made handle number frames (GpadlBody b ∷ (m ∷ ms)) p live are same all some =
    let count : length b.frames ≡ min 28 (length frames) = ap length are.0.3 ∙ length-take 28 frames in
    let left : length (drop 28 frames) ≡ length frames - 28 = length-drop 28 frames in
    let more : 1 ≤ length (drop 28 frames) = some_frames handle (number + 1) (drop 28 frames) m ms are.1 in
    let fine = body_fine p b (same ∙ sym are.0.2) (omega (arith, count, all)) in
    let so_far : length (p.pages ++ b.frames) ≡ length p.pages + length b.frames = length-append p.pages b.frames in
    let less : length (p.pages ++ b.frames) < p.want = omega (arith, so_far, count, left, more, all) in
    let rest = bodies_made handle (number + 1) (drop 28 frames) (m ∷ ms) (with_frames p b.frames) live are.1 same (omega (arith, so_far, count, left, more, all)) more in
    let joined : (p.pages ++ b.frames) ++ drop 28 frames ≡ p.pages ++ frames = append_assoc p.pages b.frames (drop 28 frames) ∙ ap (λ (fs : List ℕ). p.pages ++ (fs ++ drop 28 frames)) are.0.3 ∙ ap (λ (fs : List ℕ). p.pages ++ fs) (take-append-drop 28 frames) in
    let P : List ℕ → Type 0 = λ ps. Assemble (record { building = Some p; live = live }) (GpadlBody b ∷ (m ∷ ms)) (record { relid = p.relid; handle = p.handle; want = p.want; pages = ps }) in
    subst P joined (made_more (record { building = Some p; live = live }) (GpadlBody b) (m ∷ ms) (with_frames p b.frames) (with_frames (with_frames p b.frames) (drop 28 frames)) refl fine less rest)
bodies_made handle number frames (_ ∷ ms) p live are same all some = absurd are.0

same_list : (a b : Partial) → a.relid ≡ b.relid → a.handle ≡ b.handle → a.want ≡ b.want → a.pages ≡ b.pages → a ≡ b
same_list a b e f g h = (λ i. record { relid = e i; handle = f i; want = g i; pages = h i })

-- the messages of a list make it whole
pub cut_made : (relid handle : ℕ) (pages live : List ℕ) (ms : List Msg) → 1 ≤ length pages → AreMessagesOf relid handle pages ms → is_live live handle ≡ false
    → Assemble (record { building = None; live = live }) ms (record { relid = relid; handle = handle; want = length pages; pages = pages })
cut_made relid handle pages live [] some are free = absurd are
cut_made relid handle pages live (GpadlHeader h ∷ []) some are free =
    let want : pages_of h.range_buflen ≡ length pages = omega (arith, are.0.3) in
    let fine = header_fine live h handle (length pages) free are.0.2 are.0.6 are.0.5 want in
    let is : h.frames ≡ pages = are.0.7 ∙ all_of 26 pages are.1 in
    let s : Assembly = record { building = None; live = live } in
    let list : Partial = record { relid = relid; handle = handle; want = length pages; pages = pages } in
    subst (Assemble s (GpadlHeader h ∷ [])) (same_list (begun h) list are.0.1 are.0.2 want is) (made_last s (GpadlHeader h) (begun h) refl fine (ap length is ∙ sym want))
cut_made relid handle pages live (GpadlHeader h ∷ (m ∷ ms)) some are free =
    let want : pages_of h.range_buflen ≡ length pages = omega (arith, are.0.3) in
    let fine = header_fine live h handle (length pages) free are.0.2 are.0.6 are.0.5 want in
    let count : length h.frames ≡ min 26 (length pages) = ap length are.0.7 ∙ length-take 26 pages in
    let left : length (drop 26 pages) ≡ length pages - 26 = length-drop 26 pages in
    let more : 1 ≤ length (drop 26 pages) = some_frames handle 0 (drop 26 pages) m ms are.1 in
    let s : Assembly = record { building = None; live = live } in
    let list : Partial = record { relid = relid; handle = handle; want = length pages; pages = pages } in
    let joined : h.frames ++ drop 26 pages ≡ pages = ap (λ (fs : List ℕ). fs ++ drop 26 pages) are.0.7 ∙ take-append-drop 26 pages in
    let rest = bodies_made handle 0 (drop 26 pages) (m ∷ ms) (begun h) live are.1 are.0.2 (omega (arith, count, left, more, want)) more in
    subst (Assemble s (GpadlHeader h ∷ (m ∷ ms))) (same_list (with_frames (begun h) (drop 26 pages)) list are.0.1 are.0.2 want joined)
    (made_more s (GpadlHeader h) (m ∷ ms) (begun h) (with_frames (begun h) (drop 26 pages)) refl fine (omega (arith, count, left, more, want)) rest)
cut_made relid handle pages live (_ ∷ ms) some are free = absurd are.0
