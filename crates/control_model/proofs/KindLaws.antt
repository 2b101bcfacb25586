-- The kinds that class ids name.
use Rattle.std.proofs.Common.{◌≡◌, ◌≢◌, ◌∙◌, ◌<◌, ◌^◌, ℕ, Bool, true, false, List, [], ◌∷◌, drop, Some, None, refl, ap, if◌then◌else◌}
use Rattle.std.proofs.lemmas.Slice.Eq.{bytes_eq-Decides}
use Rattle.std.proofs.lemmas.Nat.{from_le_bytes-to_le_bytes_4}
use Rattle.std.specs.List.{AllByRecursion}
use Rattle.std.specs.Str.{bytes_eq}
use Rattle.contact.specs.declared.kind.Kind.{Kind}
use Rattle.contact.specs.declared.kind.Kind.TheVariants.{Sock}
use Rattle.contact.specs.Classes.{class_id}
use Rattle.contact.specs.Services.{service_id}
use Rattle.control_model.specs.Plan.{HasPort}
use Rattle.control_model.specs.Channels.{device_kinds, kind_among, kind_with, service_with, port_with}

fails : {P : Type 0} (b : Bool) → (b ≡ true → P) → (P → ⊥) → b ≡ false
fails true holds none = absurd (none (holds refl))
fails false holds none = refl

differ : (xs ys : List ℕ) → xs ≢ ys → bytes_eq xs ys ≡ false
differ xs ys none = fails (bytes_eq xs ys) (bytes_eq-Decides xs ys).0 none

same : (xs : List ℕ) → bytes_eq xs xs ≡ true
same xs = (bytes_eq-Decides xs xs).1 refl

-- a service's id says its port
port_of : (port : ℕ) → port < 2 ^ 32 → port_with (service_id port) ≡ port
port_of port small = from_le_bytes-to_le_bytes_4 port small

service_is : (port : ℕ) → port < 2 ^ 32 → service_with (service_id port) ≡ Some (Sock port)
service_is port small =
    ap (λ p. if bytes_eq (service_id port) (service_id p) then Some (Sock p) else None) (port_of port small)
    ∙ ap (λ b. if b then Some (Sock port) else None) (same (service_id port))

-- and isn't a device's: the tails differ
no_device : (port : ℕ) (id : List ℕ) → drop 4 (service_id port) ≢ drop 4 id → bytes_eq (service_id port) id ≡ false
no_device port id none = differ (service_id port) id (λ e. none (ap (drop 4) e))

among_services : (port : ℕ) (kinds : List Kind) → AllByRecursion (λ kind. drop 4 (service_id port) ≢ drop 4 (class_id kind)) kinds → kind_among (service_id port) kinds ≡ service_with (service_id port)
among_services port [] none = refl
among_services port (kind ∷ kinds) none = rw (no_device port (class_id kind) none.0) (among_services port kinds none.1)

service_kind : (port : ℕ) → port < 2 ^ 32 → kind_with (service_id port) ≡ Some (Sock port)
service_kind port small = among_services port device_kinds (λ e. cc, (λ e. cc, (λ e. cc, (λ e. cc, (λ e. cc, tt))))) ∙ service_is port small

-- a class id names its kind
pub kind_of_class : (kind : Kind) (id : List ℕ) → HasPort kind → id ≡ class_id kind → kind_with id ≡ Some kind
kind_of_class (Sock port) id fits e = ap kind_with e ∙ service_kind port fits
kind_of_class _ id fits e = ap kind_with e

-- what is no class id names none
no_service : (id : List ℕ) → ((kind : Kind) → id ≢ class_id kind) → service_with id ≡ None
no_service id none = ap (λ b. if b then Some (Sock (port_with id)) else None) (differ id (service_id (port_with id)) (none (Sock (port_with id))))

among_none : (id : List ℕ) (kinds : List Kind) → ((kind : Kind) → id ≢ class_id kind) → kind_among id kinds ≡ None
among_none id [] none = no_service id none
among_none id (kind ∷ kinds) none = rw (differ id (class_id kind) (none kind)) (among_none id kinds none)

pub kind_of_none : (id : List ℕ) → ((kind : Kind) → id ≢ class_id kind) → kind_with id ≡ None
kind_of_none id none = among_none id device_kinds none
