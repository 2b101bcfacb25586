-- The page words that a packet says that it lends, and those that go along with it.
use Rattle.std.proofs.Common.{◌≡◌, ℕ, ◌+◌, ◌-◌, ◌<◌, ◌≤◌, ◌==◌, false, List, [], ◌++◌, length, replicate, Option, Some, None, refl, sym, ap, ◌∙◌, subst, arith, length-append}
use Rattle.std.proofs.Math.Seq.{take-append_seam}
use Rattle.std.proofs.lemmas.List.{length-replicate}
use Rattle.std.proofs.lemmas.Bool.Decides.{nat_tests}
use Rattle.vm_page.specs.Words.{words_for}
use Rattle.pkt_desc.specs.Packets.{kind_of, id_of}
use Rattle.pkt_desc.specs.Lending.{lent_of}
use Rattle.pkt_desc.specs.declared.loan.Lent.{Lent as LentBytes}
use Rattle.io_edge.specs.declared.side.Side.{Side}
use Rattle.page_kept.specs.declared.item.Item.{Item}
use Rattle.page_kept.specs.Items.{item_of, values}
use Rattle.page_kept.specs.declared.kept.Kept.{Kept}
use Rattle.page_kept.specs.Kept.{copy_in, lends_out}
use Rattle.page_kept.specs.Layouts.{Loan, layout, loan_in}
use Rattle.page_home_laws.specs.Home.{LendsItsOwn, first_of as first_page_of}
use Rattle.channel_protocol.specs.Paged.{Lays, lent_len, words_lent}
use Rattle.ring_core.specs.Pages.{along, last_words}
use Rattle.ring_core.proofs.Paging.{last_more, none_along, values_long}
use Rattle.worker_port.specs.Owed.{LaysOn, Written}
use Rattle.worker_port.proofs.PageLaws.{by_count, is_more}

-- what lies in a page of the channel is lent
loan_here : (c : ℕ) (l : LentBytes) → l.page < c → loan_in c (Some l) ≡ Some record { page = l.page; words = words_for l.bytes }
loan_here c l within = grind (arith, nat_tests, within)

-- what is lent in the channel the packet names
pub loan_named : (c : ℕ) (o : Option LentBytes) (a : Loan) → loan_in c o ≡ Some a → (l : LentBytes) × (o ≡ Some l) × (a.page ≡ l.page)
loan_named c None a e = cc
loan_named c (Some l) a e = (l, refl, grind (arith, nat_tests, e))

-- a request that names the page of its id or none lends its own
pub lends_own : (c : ℕ) (x : Side) (p : List ℕ) → ((l : LentBytes) → lent_of p ≡ Some l → (1 ≤ id_of p) × (id_of p ≤ 64) × (l.page + 1 ≡ first_page_of x + id_of p)) → LendsItsOwn (layout c) x p
lends_own c x p own a e =
    let l = loan_named c (lent_of p) a e in
    let o = own l.0 l.1 in
    (o.0, o.1, ap (λ n. n + 1) l.2 ∙ o.2)

lent_out : (k : Kept) (p : List ℕ) (o : Option LentBytes) → ((l : LentBytes) → o ≡ Some l → l.page < k.count) → length (last_words (lends_out k p (loan_in k.count o)).sent) ≡ lent_len o
lent_out k p None within = ap length (last_more k.sent (item_of p []))
lent_out k p (Some l) within =
    ap (λ x. length (last_words (lends_out k p x).sent)) (loan_here k.count l (within l refl))
    ∙ (ap length (last_more k.sent (item_of p (values (words_for l.bytes) (copy_in k l.page)))) ∙ values_long (words_for l.bytes) (copy_in k l.page))

none_named : (o : Option LentBytes) → ((l : LentBytes) → o ≡ Some l → l.page < 0) → 0 ≡ lent_len o
none_named None h = refl
none_named (Some l) h = absurd (omega (arith, h l refl))

-- where the channel has the page that a packet names, as many words go along as it says
pub along_lent : (k : Kept) (p : List ℕ) → (kind_of p == 11) ≡ false → ((l : LentBytes) → lent_of p ≡ Some l → l.page < k.count) → along k p ≡ words_lent p
along_lent k p ask within =
    by_count k.count (λ z. none_along k p z ∙ none_named (lent_of p) (λ l e. subst (λ n. l.page < n) z (within l e))) (λ some. rw (is_more k.count some, ask) (lent_out k p (lent_of p) within))

-- an item that is written there
pub some_laid : (w : Written) → length w.words ≤ w.lent → LaysOn w (item_of w.packet (w.words ++ replicate (w.lent - length w.words) 0))
some_laid w fits = record {
  packet_is = refl;
  words_are = take-append_seam w.words (replicate (w.lent - length w.words) 0);
  long = omega (arith, fits, length-append w.words (replicate (w.lent - length w.words) 0), (let none : ℕ = 0 in length-replicate (w.lent - length w.words) none));
}

-- so the packet that is written is that of what it is read as
pub packet_written : (said : Item → Item) → ((i : Item) → (said i).packet ≡ i.packet) → (w : Written) (q : Item) → length w.words ≤ w.lent → ((j : Item) → LaysOn w j → said j ≡ q) → q.packet ≡ w.packet
packet_written said same w q fits value =
    let i = item_of w.packet (w.words ++ replicate (w.lent - length w.words) 0) in
    ap (λ (x : Item). x.packet) (sym (value i (some_laid w fits))) ∙ same i

-- what was sent is read as what was written
pub sent_is : (said : Item → Item) (w : Written) (p words : List ℕ) (n : ℕ) (i q : Item) → p ≡ w.packet → words ≡ w.words → n ≡ w.lent → Lays p words n i → ((j : Item) → LaysOn w j → said j ≡ q) → said i ≡ q
sent_is said w p words n i q pk ws lent lays value = value i (subst (λ (z : List ℕ × List ℕ × ℕ). Lays z.0 z.1 z.2 i) (λ j. (pk j, ws j, lent j)) lays)
