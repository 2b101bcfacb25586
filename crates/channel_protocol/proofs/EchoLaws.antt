-- The example keeps to what packets keep to.
use Rattle.std.proofs.Common.{◌≡◌, ℕ, Bool, true, false, Some, None, refl, sym, ap, ◌∙◌, arith}
use Rattle.std.specs.Prelude.{if◌then◌else◌, ◌==◌}
use Rattle.std.proofs.lemmas.Bool.Decides.{nat_tests}
use Rattle.channel_model.specs.WireFormat.{Keeps, IsBesides, under_own}
use Rattle.channel_protocol.specs.Echo.{echo_format, inband_echo, value_in}

none_read : (b : Bool) (n : ℕ) → b ≡ false → (if b then Some n else None) ≡ None
none_read b n e = ap (λ t. if t then Some n else None) e

some_read : {X : Type 0} (b : Bool) (n : ℕ) → b ≡ true → (if b then Some n else None) ≡ None → X
some_read b n e f = let bad : Some n ≡ None = sym (ap (λ t. if t then Some n else None) e) ∙ f in absurd (cc)

other_kind : (n : ℕ) → (n == 12885032971) ≡ true → (n == 12885032966) ≡ false
other_kind n e = grind (arith, nat_tests, e)

sent_if : (b : Bool) (r : ℕ) → IsBesides echo_format (if b then None else Some (λ own. inband_echo own r))
sent_if true r = tt
sent_if false r = λ own. record { message = refl; other = refl; same = λ e. refl }

said_if : (b : Bool) (r own : ℕ) → (r == 0) ≡ b → Some (value_in (under_own own (if b then None else Some (λ o. inband_echo o r)))) ≡ Some r
said_if true r own e = ap Some (sym (grind (arith, nat_tests, e)))
said_if false r own e = refl

pub echo_keeps : Keeps echo_format
echo_keeps = record {
  given = λ p r e. record { besides = sent_if (r == 0) r; one = refl; other = refl; same = refl };
  fixes = λ p e f. some_read _ _ e f;
  unread = λ p e. none_read _ _ e;
  silent = λ p e. refl;
  asks = λ p e. e;
  encodes = λ id a. refl;
  waits_ask = λ id a. refl;
  id_kept = λ id a e f. refl;
  id_own = λ id a e. absurd (cc);
  reads = λ id a q r e f own. said_if (r == 0) r own refl;
  no_result = λ id a before p e. absurd (cc);
  acks = λ p e. (refl, refl);
  ack_asks = λ p e. other_kind _ e;
}
