-- A send of an honest end appends or finds no room, and a take gives the first waiting packet or finds none.
use Rattle.std.proofs.Common.{◌≡◌, ℕ, ◌+◌, ◌%◌, ◌<◌, List, [], ◌∷◌, ◌++◌, length, drop, refl, sym, ap, ◌∙◌, arith, append_assoc}
use native.Mathlib.Decide.{dec_lt}
use mathlib.Core.Logic.{dite}
use Rattle.ring_machine.specs.declared.state.EndState.{EndState}
use Rattle.ring_machine.specs.Places.{free}
use Rattle.ring_pair_laws.specs.Ring.{size, RingOk}
use Rattle.ring_pair_laws.specs.Results.{waiting_for}
use Rattle.ring_pair_laws.proofs.Turns.{apart}
use Rattle.ring_pair_laws.proofs.Streams.{size-one}
use Rattle.ring_pair_laws.proofs.Frame.{back_got, sent_in, free_is}

drop_front : (xs ys : List (List ℕ)) → drop (length xs) (xs ++ ys) ≡ ys
drop_front [] ys = refl
drop_front (x ∷ xs) ys = drop_front xs ys

drop_all : (xs : List (List ℕ)) → drop (length xs) xs ≡ []
drop_all [] = refl
drop_all (x ∷ xs) = drop_all xs

-- what waits, by a list that it is
pub waiting_is : (e p : EndState) (ws : List (List ℕ)) → p.sent ≡ e.got ++ ws → waiting_for e p ≡ ws
waiting_is e p ws is = ap (λ (l : List (List ℕ)). drop (length e.got) l) is ∙ drop_front e.got ws

-- the first waiting packet was taken
pub took_first : (e t p : EndState) (w : List ℕ) (ws : List (List ℕ)) → t.got ≡ e.got ++ w ∷ [] → p.sent ≡ t.got ++ ws → waiting_for e p ≡ w ∷ waiting_for t p
took_first e t p w ws got sent =
    waiting_is e p (w ∷ ws) (sent ∙ (ap (λ (l : List (List ℕ)). l ++ ws) got ∙ append_assoc e.got (w ∷ []) ws)) ∙ ap (λ (l : List (List ℕ)). w ∷ l) (sym (waiting_is t p ws sent))

pub none_waiting : (e p : EndState) → e.got ≡ p.sent → waiting_for e p ≡ []
none_waiting e p all = ap (λ (l : List (List ℕ)). drop (length l) p.sent) all ∙ drop_all p.sent

-- what a ring had given back before and after is as long, as its read word is the same
module _ (n : ℕ) (f f' : ℕ → ℕ) (e t p : EndState) (r : RingOk n f e p) (r' : RingOk n f' t p) where
  same_begin : size r.given_back % n ≡ size r'.given_back % n
  same_begin = sym r.start ∙ r'.start

  same_back : size r.given_back ≡ size r'.given_back
  same_back =
      dite (dec_lt (size r.given_back) (size r'.given_back)) (λ lt. absurd (apart n (size r.given_back) (size r'.given_back) lt (omega (arith, back_got _ _ _ _ r', sent_in _ _ _ _ r, r.room)) same_begin))
      (λ ge. dite (dec_lt (size r'.given_back) (size r.given_back)) (λ lt. absurd (apart n (size r'.given_back) (size r.given_back) lt (omega (arith, back_got _ _ _ _ r, sent_in _ _ _ _ r', r'.room)) (sym same_begin))) (λ le. omega arith))

  -- a packet that was sent had room
  pub had_room : (q : List ℕ) → t.sent ≡ e.sent ++ q ∷ [] → length q + 1 < free n p.machine.start e.machine.write
  had_room q is = omega (arith, r'.room, same_back, free_is _ _ _ _ r, ap size is, size-one e.sent q, back_got _ _ _ _ r, sent_in _ _ _ _ r)

  -- an end that sent nothing has its write index
  pub write_same : t.sent ≡ e.sent → t.machine.write ≡ e.machine.write
  write_same is = r'.write ∙ (ap (λ (l : List (List ℕ)). size l % n) is ∙ sym r.write)

-- an end that got nothing has its read index
pub read_same : (n : ℕ) (f f' : ℕ → ℕ) (e t p : EndState) → RingOk n f p e → RingOk n f' p t → t.got ≡ e.got → t.machine.read ≡ e.machine.read
read_same n f f' e t p r r' is = r'.read ∙ (ap (λ (l : List (List ℕ)). size l % n) is ∙ sym r.read)
