-- The answer that is owed may be sent: its page is held under its id, with as many words as came with its request.
use Rattle.std.proofs.Common.{◌≡◌, ◌≢◌, ℕ, ◌+◌, ◌≤◌, ◌<◌, List, [], ◌∷◌, ◌++◌, length, length-append, map, filter, get_or, refl, sym, ap, ◌∙◌, subst, arith, Option, Some, None, Bool, true, false}
use Rattle.std.specs.Prelude.{◌==◌, ◌&&◌, not}
use Rattle.std.proofs.lemmas.List.{map-append}
use Rattle.std.proofs.lemmas.Bool.Decides.{nat_tests}
use Rattle.channel_trace.specs.Runs.{IsFront}
use Rattle.hist_lock.specs.Seat.{Call}
use Rattle.channel_model.specs.WireFormat.{WireFormat, Keeps}
use Rattle.channel_model.specs.Server.{Serves}
use Rattle.channel_model.proofs.Opens.{by_test, filter_yes}
use Rattle.channel_model.proofs.Parts.{in_order, waited, waited_none, waited_one}
use Rattle.channel_model.proofs.Served.{filter_first, filter_past}
use Rattle.channel_protocol.specs.Paged.{KeepsPages}
use Rattle.pkt_desc.specs.Packets.{kind_of, id_of}
use Rattle.page_kept.specs.declared.item.Item.{Item}
use Rattle.page_kept.specs.declared.owner.Owner.TheVariants.{Held, Away}
use Rattle.page_kept.specs.Counts.{bit, count, is_ask, is_done, nth}
use Rattle.page_kept.specs.Items.{packets}
use Rattle.page_kept.specs.Kept.{first_page, is_held, lent_words}
use Rattle.page_kept.specs.Layouts.{Loan, layout}
use Rattle.page_table.specs.declared.loan.Loan.{Loan as Part}
use Rattle.page_table.specs.Table.{held_part, named_in}
use Rattle.ring_loan_rule.proofs.Counts.{count_append, nth_here, packets_append, yes_is}
use Rattle.ring_loan_rule.proofs.Keeping.{first_none, first_some, held_under}
use Rattle.ring_machine.specs.declared.state.EndState.{EndState}
use Rattle.ring_machine.specs.States.{MayLend}
use Rattle.ring_core.specs.Pages.{IsClear, along}
use Rattle.ring_core.proofs.Laying.{along_part}
use Rattle.ring_seat.specs.Lawful.{IsLawful}

-- of two lists that end with one element each, what stands before
front_both : {A : Type 0} (xs ys : List A) (x y : A) → IsFront (xs ++ x ∷ []) (ys ++ y ∷ []) → IsFront xs ys
front_both [] ys x y h = (ys, refl)
front_both (a ∷ xs) [] x y h =
    let e : y ∷ [] ≡ a ∷ ((xs ++ x ∷ []) ++ h.0) = h.1 in
    absurd (omega (arith, ap length e, length-append (xs ++ x ∷ []) h.0, length-append xs (x ∷ [])))
front_both (a ∷ xs) (b ∷ ys) x y h =
    let e : b ∷ (ys ++ y ∷ []) ≡ a ∷ ((xs ++ x ∷ []) ++ h.0) = h.1 in
    let here : b ≡ a = cc in
    let more : ys ++ y ∷ [] ≡ (xs ++ x ∷ []) ++ h.0 = cc in
    let rest = front_both xs ys x y (h.0, more) in
    (rest.0, (λ i. here i ∷ rest.1 i))

-- how many of these ids are this one
abbrev same_ids : ℕ → List ℕ → ℕ
same_ids t [] = 0
same_ids t (x ∷ xs) = bit (x == t) + same_ids t xs

ids_append : (t : ℕ) (xs ys : List ℕ) → same_ids t (xs ++ ys) ≡ same_ids t xs + same_ids t ys
ids_append t [] ys = omega arith
ids_append t (x ∷ xs) ys = let h = ids_append t xs ys in omega (arith, h)

ids_front : (t : ℕ) (xs ys : List ℕ) → IsFront xs ys → same_ids t xs ≤ same_ids t ys
ids_front t xs ys front = omega (arith, ap (same_ids t) front.1, ids_append t xs front.0)

-- a list of items as they are read, at the place of one
record Split (f : Item → Item) (is : List Item) (before : List Item) (p : Item) : Type 0 where
  first : List Item
  item : Item
  rest : List Item
  whole : is ≡ first ++ item ∷ rest
  read : map f first ≡ before
  here : f item ≡ p

split : (f : Item → Item) (is before : List Item) (p : Item) (after : List Item) → map f is ≡ before ++ p ∷ after → Split f is before p
split f [] [] p after e = absurd (cc)
split f [] (b ∷ before) p after e = absurd (cc)
split f (i ∷ is) [] p after e = record { first = []; item = i; rest = is; whole = refl; read = refl; here = let s : f i ≡ p = cc in s }
split f (i ∷ is) (b ∷ before) p after e =
    let here : f i ≡ b = cc in
    let more : map f is ≡ before ++ p ∷ after = cc in
    let s = split f is before p after more in
    record { first = i ∷ s.first; item = s.item; rest = s.rest; whole = ap (λ (l : List Item). i ∷ l) s.whole; read = (λ j. here j ∷ s.read j); here = s.here }

is_there : {P : Type 0} (o : Option Loan) → (o ≡ None → P) → ((l : Loan) → o ≡ Some l → P) → P
is_there None f g = f refl
is_there (Some l) f g = g l refl

is_found : {P : Type 0} (o : Option ℕ) → (o ≡ None → P) → ((q : ℕ) → o ≡ Some q → P) → P
is_found None f g = f refl
is_found (Some q) f g = g q refl

module _ {A Q R : Type 0} (s : WireFormat Item A Q R) (kp : KeepsPages s) (said : Item → Item) (same : (i : Item) → (said i).packet ≡ i.packet) where
  answer_is : (i : Item) → s.is_answer (said i) ≡ (kind_of i.packet == 11)
  answer_is i = kp.answers (said i) ∙ ap (λ (p : List ℕ). kind_of p == 11) (same i)

  id_is : (i : Item) → s.id_of (said i) ≡ id_of i.packet
  id_is i = kp.ids (said i) ∙ ap id_of (same i)

  wait_is : (i : Item) → s.waits (said i) ≡ true → (kind_of i.packet == 11) ≡ false
  wait_is i e = ap (λ (p : List ℕ). kind_of p == 11) (sym (same i)) ∙ kp.waits (said i) e

  -- the answers are the completions, with their ids
  answers_counted : (t : ℕ) (is : List Item) → same_ids t (map s.id_of (filter s.is_answer (map said is))) ≡ count (is_done t) (packets is)
  answers_counted t [] = refl
  answers_counted t (i ∷ is) =
      let h = answers_counted t is in
      by_test (kind_of i.packet == 11)
      (λ e.
      let l = ap (λ (l : List Item). same_ids t (map s.id_of l)) (filter_first s.is_answer (said i) (map said is) (answer_is i ∙ e)) in
      let d : bit (is_done t i.packet) ≡ bit (id_of i.packet == t) = ap (λ b. bit (b && (id_of i.packet == t))) e in
      let k : bit (s.id_of (said i) == t) ≡ bit (id_of i.packet == t) = ap (λ n. bit (n == t)) (id_is i) in
      omega (arith, h, l, d, k))
      (λ e.
      let l = ap (λ (l : List Item). same_ids t (map s.id_of l)) (filter_past s.is_answer (said i) (map said is) (answer_is i ∙ e)) in
      let d : bit (is_done t i.packet) ≡ 0 = ap (λ b. bit (b && (id_of i.packet == t))) e in
      omega (arith, h, l, d))

  ask_is : (t : ℕ) (i : Item) → s.waits (said i) ≡ true → is_ask t i.packet ≡ (id_of i.packet == t)
  ask_is t i e = ap (λ b. not b && (id_of i.packet == t)) (wait_is i e)

  -- and a request that has an answer is none
  waits_counted : (keeps : Keeps s) (t : ℕ) (is : List Item) → same_ids t (map s.id_of (waited s (map said is))) ≤ count (is_ask t) (packets is)
  waits_counted keeps t [] = omega arith
  waits_counted keeps t (i ∷ is) =
      let h = waits_counted keeps t is in
      by_test (s.waits (said i))
      (λ e.
      let l = ap (λ (l : List Item). same_ids t (map s.id_of l)) (waited_one s keeps (said i) (map said is) e) in
      let d : bit (is_ask t i.packet) ≡ bit (id_of i.packet == t) = ap bit (ask_is t i e) in
      let k : bit (s.id_of (said i) == t) ≡ bit (id_of i.packet == t) = ap (λ n. bit (n == t)) (id_is i) in
      omega (arith, h, l, d, k))
      (λ e. let l = ap (λ (l : List Item). same_ids t (map s.id_of l)) (waited_none s keeps (said i) (map said is) e) in omega (arith, h, l))

  -- the answers that were sent before the last one that is owed are of requests before the last one that was served
  module _ (keeps : Keeps s) (held : Bool) (n : ℕ) (before : List Item) (p : Item) (calls : List (Call Q R)) (sent : List Item) (a : Item) (serves : Serves s held (before ++ p ∷ []) n calls (sent ++ a ∷ []))
      (waits : s.waits p ≡ true) (answers : s.is_answer a ≡ true) where
    is_request : s.is_request p ≡ true
    is_request = by_test (s.is_request p) (λ e. e) (λ e. let bad : true ≡ false = sym waits ∙ keeps.asks p e in absurd (cc))

    sent_less : IsFront (map s.id_of (filter s.is_answer sent)) (map s.id_of (waited s before))
    sent_less =
        let all = in_order s keeps held (before ++ p ∷ []) n calls (sent ++ a ∷ []) serves in
        let left : map s.id_of (filter s.is_answer (sent ++ a ∷ [])) ≡ map s.id_of (filter s.is_answer sent) ++ s.id_of a ∷ [] =
        ap (map s.id_of) (filter_yes s.is_answer sent a answers) ∙ map-append s.id_of (filter s.is_answer sent) (a ∷ []) in
        let right : map s.id_of (waited s (before ++ p ∷ [])) ≡ map s.id_of (waited s before) ++ s.id_of p ∷ [] =
        ap (λ (l : List Item). map s.id_of (filter s.waits l)) (filter_yes s.is_request before p is_request)
        ∙ (ap (map s.id_of) (filter_yes s.waits (filter s.is_request before) p waits) ∙ map-append s.id_of (waited s before) (p ∷ [])) in
        front_both (map s.id_of (filter s.is_answer sent)) (map s.id_of (waited s before)) (s.id_of a) (s.id_of p)
        (subst (λ (l : List ℕ × List ℕ). IsFront l.0 l.1) (λ i. (left i, right i)) all)

    -- the end whose items these are
    module _ (few : (i : Item) → length (said i).words ≤ length i.words) (e : EndState) (some : e.pages.count ≢ 0) (clear : IsClear e.pages) (listed : length e.pages.owners ≡ e.pages.count)
        (items : (packets e.pages.sent ≡ e.sent) × (packets e.pages.got ≡ e.got)) (lawful : IsLawful e) (sent_is : sent ≡ map said e.pages.sent) (after : List Item) (got_is : map said e.pages.got ≡ before ++ p ∷ after)
        (o : List ℕ) (named : a.packet ≡ o) (id : s.id_of a ≡ s.id_of p) where
      at : Split said e.pages.got before p
      at = split said e.pages.got before p after got_is

      t : ℕ
      t = id_of o

      waits_at : s.waits (said at.item) ≡ true
      waits_at = ap s.waits at.here ∙ waits

      same_id : id_of at.item.packet ≡ id_of o
      same_id = sym (id_is at.item) ∙ (ap s.id_of at.here ∙ (sym id ∙ (kp.ids a ∙ ap id_of named)))

      passes : is_ask (id_of o) at.item.packet ≡ true
      passes = ask_is (id_of o) at.item waits_at ∙ (let y : (id_of at.item.packet == id_of o) ≡ true = grind (arith, nat_tests, same_id) in y)

      completed : count (is_done (id_of o)) (packets e.pages.sent) ≤ count (is_ask (id_of o)) (packets at.first)
      completed =
          let f = ids_front (id_of o) (map s.id_of (filter s.is_answer sent)) (map s.id_of (waited s before)) sent_less in
          let l : same_ids (id_of o) (map s.id_of (filter s.is_answer sent)) ≡ count (is_done (id_of o)) (packets e.pages.sent) =
          ap (λ (l : List Item). same_ids (id_of o) (map s.id_of (filter s.is_answer l))) sent_is ∙ answers_counted (id_of o) e.pages.sent in
          let r : same_ids (id_of o) (map s.id_of (waited s before)) ≤ count (is_ask (id_of o)) (packets at.first) =
          subst (λ (l : List Item). same_ids (id_of o) (map s.id_of (waited s l)) ≤ count (is_ask (id_of o)) (packets at.first)) at.read (waits_counted keeps (id_of o) at.first) in
          omega (arith, f, l, r)

      is_completion : (kind_of o == 11) ≡ true
      is_completion = ap (λ (q : List ℕ). kind_of q == 11) (sym named) ∙ (sym (kp.answers a) ∙ answers)

      came : count (is_done (id_of o)) (packets e.pages.sent) < count (is_ask (id_of o)) e.got
      came =
          let all : e.got ≡ packets at.first ++ (at.item.packet ∷ packets at.rest) = sym items.1 ∙ (ap packets at.whole ∙ packets_append at.first (at.item ∷ at.rest)) in
          let c = count_append (is_ask (id_of o)) (packets at.first) (at.item.packet ∷ packets at.rest) in
          let one : bit (is_ask (id_of o) at.item.packet) ≡ 1 = ap bit passes in
          omega (arith, completed, ap (count (is_ask (id_of o))) all, c, one)

      pub may_send : MayLend e o
      may_send = λ _. record {
        clear = clear some;
        has = λ l ask lends. absurd (let bad : true ≡ false = sym is_completion ∙ ask in cc);
        settled = λ l ask lends. absurd (let bad : true ≡ false = sym is_completion ∙ ask in cc);
        answers = λ _. came;
      }

      number : nth (is_ask (id_of o)) (count (is_ask (id_of o)) (packets at.first)) e.pages.got ≡ Some at.item
      number = ap (nth (is_ask (id_of o)) (count (is_ask (id_of o)) (packets at.first))) at.whole ∙ nth_here (is_ask (id_of o)) at.first at.rest at.item _ passes refl

      sent_before : count (is_done (id_of o)) e.sent ≤ count (is_ask (id_of o)) (packets at.first)
      sent_before = subst (λ (l : List (List ℕ)). count (is_done (id_of o)) l ≤ count (is_ask (id_of o)) (packets at.first)) items.0 completed

      -- the page that is held goes along
      goes : (q m : ℕ) → get_or e.pages.owners q Away ≡ Held (id_of o) m → along e.pages o ≡ m
      goes q m is =
          is_found (first_page (is_held (id_of o)) 0 e.pages.owners)
          (λ none. absurd (
          let z : is_held (id_of o) (get_or e.pages.owners q Away) ≡ false = first_none (is_held (id_of o)) 0 e.pages.owners none q Away refl in
          let y : is_held (id_of o) (get_or e.pages.owners q Away) ≡ (id_of o == id_of o) = ap (is_held (id_of o)) is in
          let u : (id_of o == id_of o) ≡ true = grind (arith, nat_tests) in
          let bad : true ≡ false = sym u ∙ (sym y ∙ z) in cc
          ))
          (λ r found.
          let f = first_some (is_held (id_of o)) 0 e.pages.owners r found in
          let place : f.place ≡ r = omega (arith, f.is) in
          let there : get_or e.pages.owners r Away ≡ Held (id_of o) (lent_words (get_or e.pages.owners r Away)) =
          held_under (id_of o) (get_or e.pages.owners r Away) (ap (λ (j : ℕ). is_held (id_of o) (get_or e.pages.owners j Away)) (sym place) ∙ f.passes Away) in
          let one : r ≡ q = lawful.one (id_of o) r q _ m there is in
          let words : lent_words (get_or e.pages.owners r Away) ≡ m = ap (λ (j : ℕ). lent_words (get_or e.pages.owners j Away)) one ∙ ap lent_words is in
          let part : Part = record { page = r; words = lent_words (get_or e.pages.owners r Away) } in
          along_part e.pages o (Some part) listed some (sym (yes_is (kind_of o == 11) (held_part e.pages.owners (first_page (is_held (id_of o)) 0 e.pages.owners)) (named_in e.pages.owners o) is_completion ∙ ap (held_part e.pages.owners) found)) ∙ words)

      pub fits : (n : ℕ) → n ≤ length p.words → n ≤ along e.pages o
      fits n le =
          let more = few at.item in
          let as_read : length (said at.item).words ≡ length p.words = ap (λ (i : Item). length i.words) at.here in
          is_there ((layout e.pages.count).lends at.item.packet)
          (λ none. let bare : at.item.words ≡ [] = lawful.bare (id_of o) _ at.item number none in omega (arith, le, more, as_read, ap length bare))
          (λ l lends. let h = lawful.held (id_of o) _ at.item l number lends sent_before in omega (arith, le, more, as_read, h.1, goes l.page l.words h.0))
