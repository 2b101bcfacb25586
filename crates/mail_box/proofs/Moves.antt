-- Each move keeps the rule of a queue of control messages.
use Rattle.std.proofs.Common.{◌≡◌, ◌⊎◌, ◌≢◌, ℕ, zero, suc, true, false, true≢false, List, [], ◌∷◌, ◌++◌, length, set, sym, refl, ap, ◌∙◌, subst, ⊎_elim, inl, inr, append_assoc}
use mathlib.Core.Option.{some, some-ne-none}
use mathlib.Core.List.{IsPrefix}
use lib.ListN.{get_elem?}
use Rattle.crossbeam_queue.specs.Fifo.{Pushes, Pops, Forks, Merges, Learns}
use Rattle.crossbeam_queue.proofs.Lists.{at_set, at_snoc}
use Rattle.vmbus_msg.specs.declared.msg.Msg.{Msg}
use Rattle.mail_box.specs.declared.rule.Log.{Log}
use Rattle.mail_box.specs.Letters.{log, no_last, with_put, with_taken, MaySay, Fits, Mailed}

at_end : (l : List Log) (a b : Log) (j : ℕ) → get_elem? l j ≢ some b → get_elem? (l ++ a ∷ []) j ≡ some b → j ≡ length l
at_end [] a b zero n e = refl
at_end [] a b (suc j) n e = absurd (some-ne-none b (sym e))
at_end (x ∷ xs) a b zero n e = absurd (n e)
at_end (x ∷ xs) a b (suc j) n e = ap suc (at_end xs a b j n e)

abbrev All : (ℕ → Log → Type 0) → List Log → Type 0
All F views = (port : ℕ) (v : Log) → get_elem? views port ≡ some v → F port v

all_set : (F : ℕ → Log → Type 0) (views : List Log) (port : ℕ) (w : Log) → F port w → ((j : ℕ) (u : Log) → j ≢ port → get_elem? views j ≡ some u → F j u) → All F (set views port w)
all_set F views port w mine others j u e = ⊎_elim (λ (x : (j ≡ port) × (w ≡ u)). subst (λ (y : ℕ × Log). F y.0 y.1) (λ i. (sym x.0 i, x.1 i)) mine)
    (λ (x : (j ≢ port) × (get_elem? views j ≡ some u)). others j u x.0 x.1) (at_set views port j w u e)

none : (xs ys : List Msg) → xs ++ ys ≡ [] → xs ≡ []
none [] ys e = refl
none (x ∷ xs) ys e = absurd (cc e)

cut : (front rest all : List Msg) (last : Msg) → front ++ rest ≡ all ++ last ∷ [] → (front ≡ all ++ last ∷ []) ⊎ IsPrefix front all
cut [] rest all last e = inr (all, refl)
cut (a ∷ front) rest [] last e = let nil : front ≡ [] = none front rest (cc e) in inl (cc (e, nil))
cut (a ∷ front) rest (b ∷ all) last e =
    ⊎_elim (λ (x : front ≡ all ++ last ∷ []). inl (cc (e, x))) (λ (x : IsPrefix front all). inr (x.0, cc (e, x.1))) (cut front rest all last (cc e))

-- a front of what may be said may be said
early : (named : List Msg) (last : Msg) (front rest said : List Msg) → IsPrefix said named → (front ≡ said ++ last ∷ []) ⊎ IsPrefix front said → MaySay named last front
early named last front rest said p (inl is) = inr (record { front = said; named_front = p; is = is })
early named last front rest said p (inr q) = inl (q.0 ++ p.0, sym (append_assoc front q.0 p.0) ∙ (ap (λ l. l ++ p.0) q.1 ∙ p.1))

pub front_of_front : (named : List Msg) (last : Msg) (front rest : List Msg) → MaySay named last (front ++ rest) → MaySay named last front
front_of_front named last front rest (inl p) = inl (rest ++ p.0, sym (append_assoc front rest p.0) ∙ p.1)
front_of_front named last front rest (inr e) = early named last front rest e.front e.named_front (cut front rest e.front last e.is)

pub begins : Mailed [] (log true true [] no_last [] [] ∷ [])
begins = record {
  writer = 0;
  reader = 0;
  named = [];
  last = no_last;
  put = [];
  taken = [];
  order = refl;
  may = inl ([], refl);
  each = all_set (Fits 0 0 [] no_last [] []) (log true true [] no_last [] [] ∷ []) 0 (log true true [] no_last [] [])
      (record { posts = λ _. (refl, refl, refl, refl); fetches = λ _. (refl, refl, refl, refl) })
      (λ j u other e. absurd (other (at_end [] _ u j (λ x. some-ne-none u (sym x)) e)));
}

pub puts : (n port : ℕ) (v : Log) (x : Msg) → v.posts ≡ true → MaySay v.named v.last (v.put ++ x ∷ []) → Pushes Mailed n port v x (λ w. w ≡ with_put v x)
puts n port v x posts may items views _ h at = let w : Log = with_put v x in let mine = (h.each port v at).posts posts in let put = h.put ++ x ∷ [] in
    let same : v.put ++ x ∷ [] ≡ put = ap (λ l. l ++ x ∷ []) mine.3 in (
      w,
      record {
        writer = h.writer;
        reader = h.reader;
        named = h.named;
        last = h.last;
        put = put;
        taken = h.taken;
        order = ap (λ l. l ++ x ∷ []) h.order ∙ append_assoc h.taken items (x ∷ []);
        may = subst (λ (y : List Msg × (Msg × List Msg)). MaySay y.0 y.1.0 y.1.1) (λ i. (mine.1 i, (mine.2 i, same i))) may;
        each = all_set (Fits h.writer h.reader h.named h.last put h.taken) views port w
            (record { posts = λ _. (mine.0, mine.1, mine.2, same); fetches = (h.each port v at).fetches })
            (λ j u other e. record { posts = λ p. absurd (other (((h.each j u e).posts p).0 ∙ sym mine.0)); fetches = (h.each j u e).fetches });
      },
      refl,
    )

pub takes : (port : ℕ) (v : Log) → v.fetches ≡ true → Pops Mailed port v (λ x w. (w ≡ with_taken v x) × MaySay v.named v.last w.taken)
takes port v fetches x items views h at = let w : Log = with_taken v x in let mine = (h.each port v at).fetches fetches in let taken = h.taken ++ x ∷ [] in
    let same : v.taken ++ x ∷ [] ≡ taken = ap (λ l. l ++ x ∷ []) mine.3 in
    let order : h.put ≡ taken ++ items = h.order ∙ sym (append_assoc h.taken (x ∷ []) items) in
    let front : MaySay h.named h.last taken = front_of_front h.named h.last taken items (subst (λ (y : List Msg). MaySay h.named h.last y) order h.may) in (
      w,
      record {
        writer = h.writer;
        reader = h.reader;
        named = h.named;
        last = h.last;
        put = h.put;
        taken = taken;
        order = order;
        may = h.may;
        each = all_set (Fits h.writer h.reader h.named h.last h.put taken) views port w
            (record { posts = (h.each port v at).posts; fetches = λ _. (mine.0, mine.1, mine.2, same) })
            (λ j u other e. record { posts = (h.each j u e).posts; fetches = λ p. absurd (other (((h.each j u e).fetches p).0 ∙ sym mine.0)) });
      },
      (refl, subst (λ (y : List Msg × (Msg × List Msg)). MaySay y.0 y.1.0 y.1.1) (λ i. (sym mine.1 i, (sym mine.2 i, sym same i))) front),
    )

-- the pass of a new queue becomes those of its two ends, under any names
pub splits : (port : ℕ) (named : List Msg) (last : Msg) → Forks Mailed port (log true true [] no_last [] []) (log true false named last [] []) (log false true named last [] [])
splits port named last items views h at = let v : Log = log true true [] no_last [] [] in let l : Log = log true false named last [] [] in let r : Log = log false true named last [] [] in
    let mine = h.each port v at in let writes = mine.posts refl in let reads = mine.fetches refl in let vs : List Log = set views port l in
    let none : [] ≡ items = writes.3 ∙ (h.order ∙ ap (λ (t : List Msg). t ++ items) (sym reads.3)) in
    let Old : ℕ → Log → Type 0 = λ j u. (u.posts ≡ true → (j ≡ port) × (u ≡ l)) × (u.fetches ≢ true) in
    let old : All Old vs = all_set Old views port l ((λ _. (refl, refl)), λ p. true≢false (sym p))
    (λ j u other e. ((λ p. absurd (other (((h.each j u e).posts p).0 ∙ sym writes.0))), λ p. other (((h.each j u e).fetches p).0 ∙ sym reads.0))) in
    record {
      writer = port;
      reader = length vs;
      named = named;
      last = last;
      put = [];
      taken = [];
      order = none;
      may = inl (named, refl);
      each = λ j u e. ⊎_elim (λ x. let o = old j u x in record {
        posts = λ p. let is = (o.0 p).1 in ((o.0 p).0, ap (λ (y : Log). y.named) is, ap (λ (y : Log). y.last) is, ap (λ (y : Log). y.put) is);
        fetches = λ p. absurd (o.1 p);
      }) (λ (is : r ≡ u). record {
        posts = λ p. absurd (true≢false (sym (ap (λ (y : Log). y.posts) is ∙ p)));
        fetches = λ p. (at_end vs r u j (λ x. (old j u x).1 p) e, ap (λ (y : Log). y.named) (sym is), ap (λ (y : Log). y.last) (sym is), ap (λ (y : Log). y.taken) (sym is));
      }) (at_snoc vs r u j e);
    }

-- two passes become one, which knows all
pub unites : (port : ℕ) (v : Log) (other : ℕ) (u : Log) → v.posts ≡ true → u.fetches ≡ true → Merges Mailed port v other u (log true true v.named v.last v.put u.taken) (log false false [] no_last [] [])
unites port v other u posts fetches items views h at two at' = let both : Log = log true true v.named v.last v.put u.taken in let spent : Log = log false false [] no_last [] [] in
    let writes = (h.each port v at).posts posts in let vs : List Log = set views port both in
    let was : get_elem? views other ≡ some u = ⊎_elim (λ x. absurd (two x.0)) (λ x. x.1) (at_set views port other both u at') in
    let reads = (h.each other u was).fetches fetches in
    let Now : ℕ → Log → Type 0 = λ j y. j ≢ other → Fits h.writer port h.named h.last h.put h.taken j y in
    let now : All Now vs = all_set Now views port both (λ _. record { posts = λ _. writes; fetches = λ _. (refl, writes.1, writes.2, reads.3) })
    (λ j y _ e apart. record { posts = (h.each j y e).posts; fetches = λ p. absurd (apart (((h.each j y e).fetches p).0 ∙ sym reads.0)) }) in
    record {
      writer = h.writer;
      reader = port;
      named = h.named;
      last = h.last;
      put = h.put;
      taken = h.taken;
      order = h.order;
      may = h.may;
      each = all_set (Fits h.writer port h.named h.last h.put h.taken) vs other spent
          (record { posts = λ p. absurd (true≢false (sym p)); fetches = λ p. absurd (true≢false (sym p)) }) (λ j y apart e. now j y e apart);
    }

-- what it knows
pub rests : (port : ℕ) (v : Log) → v.posts ≡ true → v.fetches ≡ true → Learns Mailed port v (λ items. v.put ≡ v.taken ++ items)
rests port v posts fetches items views h at = let mine = h.each port v at in (mine.posts posts).3 ∙ (h.order ∙ ap (λ l. l ++ items) (sym (mine.fetches fetches).3))
