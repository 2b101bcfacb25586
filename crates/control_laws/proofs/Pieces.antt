-- A page list comes in pieces.
use Rattle.std.proofs.Common.{◌≡◌, ◌∙◌, ℕ, ◌+◌, ◌≤◌, ◌==◌, true, false, List, [], ◌∷◌, ◌++◌, length, drop, Option, Some, None, if◌then◌else◌, refl, sym, ap, subst}
use Rattle.std.specs.List.{AllByRecursion}
use Rattle.control_laws.proofs.Words.{Msg, GpadlHeader, GpadlBody, Body, AreBodiesOf, AreMessagesOf, Partial, Assembly, is_live, built, begun, with_frames, body_fault, fault_of, settled, next, whole, whole_lists, after, AreTaken, Assemble}
use Rattle.gpadl.specs.Cut.{cut}
use Rattle.gpadl.proofs.Bodies.{cut_made}
use Rattle.gpadl.proofs.Cutting.{cuts_well}
use Rattle.control_model.specs.HostAt.{live_ones}
use Rattle.control_laws.proofs.Marks.{by_test}

-- the message is a piece of the page list of a channel
abbrev pub IsPieceFor : ℕ → Msg → Type 0
IsPieceFor relid (GpadlHeader h) = h.relid ≡ relid
IsPieceFor relid (GpadlBody b) = Unit {0}
IsPieceFor relid _ = ⊥

abbrev pub IsBody : Msg → Type 0
IsBody (GpadlBody b) = Unit {0}
IsBody _ = ⊥

-- a page list, once it is whole
abbrev pub list_of : ℕ → ℕ → List ℕ → Partial
list_of relid handle pages = record { relid = relid; handle = handle; want = length pages; pages = pages }

-- the rest of a page list is to come, and the host's assembler has the part before it
pub record Piecewise (relid handle : ℕ) (pages known : List ℕ) (lists : Assembly) (m : Msg) (ms : List Msg) : Type 0 where
  pub assemble : Assemble lists (m ∷ ms) (list_of relid handle pages)
  pub live : lists.live ≡ known
  pub first : IsPieceFor relid m
  pub rest : AllByRecursion IsBody ms

first_piece : (relid handle : ℕ) (pages : List ℕ) (m : Msg) (ms : List Msg) → AreMessagesOf relid handle pages (m ∷ ms) → IsPieceFor relid m
first_piece relid handle pages (GpadlHeader h) ms are = are.0.1
first_piece relid handle pages _ ms are = absurd are.0

bodies : (handle number : ℕ) (frames : List ℕ) (ms : List Msg) → AreBodiesOf handle number frames ms → AllByRecursion IsBody ms
bodies handle number frames [] are = tt
bodies handle number frames (GpadlBody b ∷ ms) are = (tt, bodies handle (number + 1) (drop 28 frames) ms are.1)
bodies handle number frames (_ ∷ ms) are = absurd are.0

piecewise : (relid handle : ℕ) (pages live : List ℕ) (m : Msg) (ms : List Msg) → 1 ≤ length pages → is_live live handle ≡ false → cut relid handle pages ≡ m ∷ ms → Piecewise relid handle pages live (live_ones live) m ms
piecewise relid handle pages live m ms some free is =
    let are : AreMessagesOf relid handle pages (m ∷ ms) = subst (AreMessagesOf relid handle pages) is (cuts_well relid handle pages some) in
    record {
      assemble = cut_made relid handle pages live (m ∷ ms) some are free;
      live = refl;
      first = first_piece relid handle pages m ms are;
      rest = bodies handle 0 (drop 26 pages) ms are.1;
    }

-- the list that is being built, once a piece is taken
pub record Built (building : Option Partial) (m : Msg) : Type 0 where
  pub list : Partial
  pub is : built building m ≡ Some list

body_built : (building : Option Partial) (b : Body) → body_fault building b ≡ None → Built building (GpadlBody b)
body_built None b fine = absurd (cc)
body_built (Some p) b fine = record { list = with_frames p b.frames; is = refl }

pub piece_built : (s : Assembly) (m : Msg) (relid : ℕ) → IsPieceFor relid m → fault_of s m ≡ None → Built s.building m
piece_built s (GpadlHeader h) relid piece fine = record { list = begun h; is = refl }
piece_built s (GpadlBody b) relid piece fine = body_built s.building b fine
piece_built s _ relid piece fine = absurd piece

body_is_piece : (relid : ℕ) (m : Msg) → IsBody m → IsPieceFor relid m
body_is_piece relid (GpadlBody b) is = tt
body_is_piece relid _ is = absurd is

-- no body is taken where no list is being built
no_body : (live : List ℕ) (m : Msg) → IsBody m → fault_of (live_ones live) m ≡ None → ⊥
no_body live (GpadlBody b) is fine = absurd (cc)
no_body live _ is fine = absurd is

none_left : (live : List ℕ) (ms : List Msg) → AllByRecursion IsBody ms → AreTaken (live_ones live) ms → ms ≡ []
none_left live [] are taken = refl
none_left live (m ∷ ms) are taken = absurd (no_body live m are.0 taken.0)

-- a piece that makes the list whole is the last one
pub record IsLast (relid handle : ℕ) (pages live : List ℕ) (s : Assembly) (m : Msg) (ms : List Msg) (p : Partial) : Type 0 where
  pub list : p ≡ list_of relid handle pages
  pub over : next s m ≡ live_ones (s.live ++ p.handle ∷ [])
  pub empty : ms ≡ []

pub is_last : (relid handle : ℕ) (pages live : List ℕ) (s : Assembly) (m : Msg) (ms : List Msg) (p : Partial) → Piecewise relid handle pages live s m ms → built s.building m ≡ Some p → (length p.pages == p.want) ≡ true → IsLast relid handle pages live s m ms p
is_last relid handle pages live s m ms p pieces is e =
    let made : p ∷ whole_lists (next s m) ms ≡ list_of relid handle pages ∷ [] =
    sym (ap (λ b. (if b then p ∷ [] else []) ++ whole_lists (next s m) ms) e) ∙ sym (ap (λ b. whole b ++ whole_lists (next s m) ms) is) ∙ pieces.assemble.made in
    let over : next s m ≡ live_ones (s.live ++ p.handle ∷ []) = ap (λ b. settled b s.live) is ∙ ap (λ b. if b then live_ones (s.live ++ p.handle ∷ []) else record { building = Some p; live = s.live }) e in
    record { list = cc; over = over; empty = none_left (s.live ++ p.handle ∷ []) ms pieces.rest (subst (λ t. AreTaken t ms) over pieces.assemble.taken.1) }

-- where a piece follows, it doesn't, and the list goes on
pub piece_more : (relid handle : ℕ) (pages live : List ℕ) (s : Assembly) (m n : Msg) (ms : List Msg) → Piecewise relid handle pages live s m (n ∷ ms) → Piecewise relid handle pages live (next s m) n ms
piece_more relid handle pages live s m n ms pieces =
    let made = piece_built s m relid pieces.first pieces.assemble.taken.0 in
    by_test {P = Piecewise relid handle pages live (next s m) n ms} (length made.list.pages == made.list.want)
    (λ e. let last = is_last relid handle pages live s m (n ∷ ms) made.list pieces made.is e in let none : (n ∷ ms) ≡ [] = last.empty in absurd (cc))
    (λ e.
    let p : Partial = made.list in
    let later : whole_lists (next s m) (n ∷ ms) ≡ list_of relid handle pages ∷ [] =
    sym (ap (λ b. (if b then p ∷ [] else []) ++ whole_lists (next s m) (n ∷ ms)) e) ∙ sym (ap (λ b. whole b ++ whole_lists (next s m) (n ∷ ms)) made.is) ∙ pieces.assemble.made in
    let goes_on : next s m ≡ record { building = Some p; live = s.live } = ap (λ b. settled b s.live) made.is ∙ ap (λ b. if b then live_ones (s.live ++ p.handle ∷ []) else record { building = Some p; live = s.live }) e in
    let still : (next s m).live ≡ s.live = ap (λ (t : Assembly). t.live) goes_on in
    record {
      assemble = record { taken = pieces.assemble.taken.1; made = later; left = pieces.assemble.left ∙ ap (λ xs. live_ones (xs ++ handle ∷ [])) (sym still) };
      live = still ∙ pieces.live;
      first = body_is_piece relid n pieces.rest.0;
      rest = pieces.rest.1;
    })

-- so do those behind the ones that came
piece_on : (relid handle : ℕ) (pages live : List ℕ) (s : Assembly) (c : Msg) (cs : List Msg) (m : Msg) (ms : List Msg) → Piecewise relid handle pages live s c (cs ++ m ∷ ms) → Piecewise relid handle pages live (after s (c ∷ cs)) m ms
piece_on relid handle pages live s c [] m ms pieces = piece_more relid handle pages live s c m ms pieces
piece_on relid handle pages live s c (d ∷ cs) m ms pieces = piece_on relid handle pages live (next s c) d cs m ms (piece_more relid handle pages live s c d (cs ++ m ∷ ms) pieces)

pub comes : (relid handle : ℕ) (pages live : List ℕ) (came : List Msg) (m : Msg) (ms : List Msg) → 1 ≤ length pages → is_live live handle ≡ false → cut relid handle pages ≡ came ++ m ∷ ms → Piecewise relid handle pages live (after (live_ones live) came) m ms
comes relid handle pages live [] m ms some free is = piecewise relid handle pages live m ms some free is
comes relid handle pages live (c ∷ came) m ms some free is = piece_on relid handle pages live (live_ones live) c came m ms (piecewise relid handle pages live c (came ++ m ∷ ms) some free is)

-- what is left once one more came
pub after_more : (s : Assembly) (came : List Msg) (m : Msg) → after s (came ++ m ∷ []) ≡ next (after s came) m
after_more s [] m = refl
after_more s (c ∷ came) m = after_more (next s c) came m
