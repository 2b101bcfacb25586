-- What is told of a storage packet.
use Rattle.std.proofs.Common.{◌≡◌, ℕ, Bool, true, false, eqb, List, [], ◌++◌, Result, Ok, Err, refl, sym, ap, ◌∙◌, subst, arith, Option, Some, None}
use Rattle.std.proofs.lemmas.Bool.{eqb-true}
use Rattle.std.proofs.lemmas.Bool.Decides.{nat_tests}
use Rattle.std.specs.Prelude.{codes, if◌then◌else◌}
use Rattle.std.specs.Fmt.{decimal}
use Rattle.std.specs.Result.{IsOk, IsErr, OnOk}
use Rattle.vmbus_msg.specs.declared.msg.Msg.{Msg}
use Rattle.vmbus_msg.specs.declared.msg.Msg.TheVariants.{GpadlHeader, GpadlBody, OfferChannel, RescindChannelOffer, RequestOffers, AllOffersDelivered, OpenChannel, OpenChannelResult, CloseChannel, GpadlCreated, GpadlTeardown, GpadlTorndown, RelidReleased, InitiateContact, VersionResponse, Unload, UnloadResponse, TlConnectRequest, ModifyChannel, ModifyChannelResponse}
use Rattle.gpadl.specs.Assembly.{Assembly, fault_of, of_message}
use Rattle.gpadl.specs.declared.fault.GpadlFault.{GpadlFault}
use Rattle.gpadl.specs.declared.fault.GpadlFault.TheVariants.{Count, Handle, Repeat, Range, Memory}
use Rattle.hostile_decoders.specs.Lists.{is_piece, gpadl_fault_said, SaysPiece, SaysMessage}
use Rattle.scsi_disk.specs.declared.request.DiskRequest.{DiskRequest}
use Rattle.stor_proto.specs.Opening.{answer_of}
use Rattle.stor_proto.specs.Srbs.{request_of}
use Rattle.stor_proto.specs.declared.stop.SrbStop.{SrbStop}
use Rattle.stor_proto.specs.declared.vstor.Vstor.{Vstor}
use Rattle.hostile_decoders.specs.Storage.{whole_said, srb_said}

by_test : {P : Type 0} (b : Bool) → (b ≡ true → P) → (b ≡ false → P) → P
by_test true t f = t refl
by_test false t f = f refl

pub whole_else : (p : Vstor) → (p.operation ≡ 3 → ⊥) → whole_said p ≡ codes "vstor status " ++ decimal (answer_of p).status
whole_else p other =
    by_test (eqb p.operation 3)
    (λ t. absurd (other (eqb-true p.operation 3 t)))
    (λ f. ap (λ (b : Bool). if b then srb_said (request_of p []) else codes "vstor status " ++ decimal (answer_of p).status) f)

pub whole_srb : (p : Vstor) → p.operation ≡ 3 → whole_said p ≡ srb_said (request_of p [])
whole_srb p is = ap (λ (b : Bool). if b then srb_said (request_of p []) else codes "vstor status " ++ decimal (answer_of p).status) (let z : eqb p.operation 3 ≡ true = grind (arith, nat_tests, is) in z)

pub srb_ok : (r : Result DiskRequest SrbStop) → IsOk r → srb_said r ≡ codes "srb ok"
srb_ok (Ok q) is = refl
srb_ok (Err stop) is = absurd (cc)

pub on_ok_map : {T E : Type 0} {P Q : Type 0} (r : Result T E) → (P → Q) → OnOk r P → OnOk r Q
on_ok_map (Ok x) f p = f p
on_ok_map (Err e) f p = tt

-- a refusal of a header or a body that isn't for want of memory is its first fault
told_header : (s : Assembly) (m : Msg) (f : GpadlFault) → fault_of s m ≡ Some f → SaysPiece (fault_of s m) m s s (gpadl_fault_said f)
told_header s m f is = subst (λ (o : Option GpadlFault). SaysPiece o m s s (gpadl_fault_said f)) (sym is) (refl, refl)

pub says_refused : (m : Msg) (s : Assembly) (f : GpadlFault) → is_piece m ≡ true → fault_of s m ≡ of_message m f → (f ≡ Memory → ⊥) → SaysMessage m s s (gpadl_fault_said f)
says_refused (GpadlHeader h) s (Count w n) is told other = told_header s (GpadlHeader h) (Count w n) told
says_refused (GpadlHeader h) s (Handle id) is told other = told_header s (GpadlHeader h) (Handle id) told
says_refused (GpadlHeader h) s (Repeat id) is told other = told_header s (GpadlHeader h) (Repeat id) told
says_refused (GpadlHeader h) s (Range v) is told other = told_header s (GpadlHeader h) (Range v) told
says_refused (GpadlHeader h) s Memory is told other = absurd (other refl)
says_refused (GpadlBody b) s f is told other = told_header s (GpadlBody b) f told
says_refused (OfferChannel a b c d e g h i j k l m n o p) s f is told other = absurd (cc)
says_refused (RescindChannelOffer a b) s f is told other = absurd (cc)
says_refused (RequestOffers a) s f is told other = absurd (cc)
says_refused (AllOffersDelivered a) s f is told other = absurd (cc)
says_refused (OpenChannel a b c d e g h) s f is told other = absurd (cc)
says_refused (OpenChannelResult a b c d) s f is told other = absurd (cc)
says_refused (CloseChannel a b) s f is told other = absurd (cc)
says_refused (GpadlCreated a b c d) s f is told other = absurd (cc)
says_refused (GpadlTeardown a b c) s f is told other = absurd (cc)
says_refused (GpadlTorndown a b) s f is told other = absurd (cc)
says_refused (RelidReleased a b) s f is told other = absurd (cc)
says_refused (InitiateContact a b c d e g) s f is told other = absurd (cc)
says_refused (VersionResponse a b c d e) s f is told other = absurd (cc)
says_refused (Unload a) s f is told other = absurd (cc)
says_refused (UnloadResponse a) s f is told other = absurd (cc)
says_refused (TlConnectRequest a b c) s f is told other = absurd (cc)
says_refused (ModifyChannel a b c) s f is told other = absurd (cc)
says_refused (ModifyChannelResponse a b c) s f is told other = absurd (cc)

pub on_ok_both : {T E : Type 0} {P Q R : Type 0} (r : Result T E) → (P → Q → R) → OnOk r P → OnOk r Q → OnOk r R
on_ok_both (Ok x) f p q = f p q
on_ok_both (Err e) f p q = tt
