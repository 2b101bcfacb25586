-- The names of the messages and of their fields, one line a message in each table.
use Rattle.std.specs.Prelude.{ℕ, ◌==◌, List, [], ◌∷◌, codes, if◌then◌else◌}

-- how a field is printed: not at all, or behind its name as a number, as digits or as runs
pub data Show : Type 0 where
  hidden : Show
  number : List ℕ → Show
  digits : List ℕ → Show
  runs : List ℕ → Show

-- the name of the message of a type
abbrev pub name_of : ℕ → List ℕ
name_of k =
    if k == 1 then codes "OFFERCHANNEL" else
    if k == 2 then codes "RESCIND_CHANNELOFFER" else
    if k == 3 then codes "REQUESTOFFERS" else
    if k == 4 then codes "ALLOFFERS_DELIVERED" else
    if k == 5 then codes "OPENCHANNEL" else
    if k == 6 then codes "OPENCHANNEL_RESULT" else
    if k == 7 then codes "CLOSECHANNEL" else
    if k == 8 then codes "GPADL_HEADER" else
    if k == 9 then codes "GPADL_BODY" else
    if k == 10 then codes "GPADL_CREATED" else
    if k == 11 then codes "GPADL_TEARDOWN" else
    if k == 12 then codes "GPADL_TORNDOWN" else
    if k == 13 then codes "RELID_RELEASED" else
    if k == 14 then codes "INITIATE_CONTACT" else
    if k == 15 then codes "VERSION_RESPONSE" else
    if k == 16 then codes "UNLOAD" else
    if k == 17 then codes "UNLOAD_RESPONSE" else
    if k == 21 then codes "TL_CONNECT_REQUEST" else
    if k == 22 then codes "MODIFYCHANNEL" else
    if k == 24 then codes "MODIFYCHANNEL_RESPONSE" else
    []

-- the fields behind the type, in the order of the wire; padding and reserved fields aren't printed
abbrev pub shows_of : ℕ → List Show
shows_of k =
    if k == 1 then hidden ∷ digits (codes "if_type") ∷ digits (codes "if_instance") ∷ hidden ∷ hidden ∷ number (codes "chn_flags") ∷ number (codes "mmio") ∷ runs (codes "user") ∷ number (codes "sub") ∷ hidden ∷ number (codes "relid") ∷ number (codes "monitorid") ∷ number (codes "monitor") ∷ number (codes "interrupt") ∷ number (codes "connection") ∷ [] else
    if k == 2 then hidden ∷ number (codes "relid") ∷ [] else
    if k == 3 then hidden ∷ [] else
    if k == 4 then hidden ∷ [] else
    if k == 5 then hidden ∷ number (codes "relid") ∷ number (codes "openid") ∷ number (codes "gpadl") ∷ number (codes "target_vp") ∷ number (codes "downstream") ∷ runs (codes "user") ∷ [] else
    if k == 6 then hidden ∷ number (codes "relid") ∷ number (codes "openid") ∷ number (codes "status") ∷ [] else
    if k == 7 then hidden ∷ number (codes "relid") ∷ [] else
    if k == 8 then hidden ∷ number (codes "relid") ∷ number (codes "gpadl") ∷ number (codes "range_buflen") ∷ number (codes "rangecount") ∷ number (codes "byte_count") ∷ number (codes "byte_offset") ∷ [] else
    if k == 9 then hidden ∷ number (codes "msgnumber") ∷ number (codes "gpadl") ∷ [] else
    if k == 10 then hidden ∷ number (codes "relid") ∷ number (codes "gpadl") ∷ number (codes "status") ∷ [] else
    if k == 11 then hidden ∷ number (codes "relid") ∷ number (codes "gpadl") ∷ [] else
    if k == 12 then hidden ∷ number (codes "gpadl") ∷ [] else
    if k == 13 then hidden ∷ number (codes "relid") ∷ [] else
    if k == 14 then hidden ∷ number (codes "version") ∷ number (codes "target_vcpu") ∷ number (codes "page") ∷ number (codes "monitor1") ∷ number (codes "monitor2") ∷ [] else
    if k == 15 then hidden ∷ number (codes "supported") ∷ number (codes "state") ∷ hidden ∷ number (codes "conn") ∷ [] else
    if k == 16 then hidden ∷ [] else
    if k == 17 then hidden ∷ [] else
    if k == 21 then hidden ∷ digits (codes "guest_endpoint") ∷ digits (codes "host_service") ∷ [] else
    if k == 22 then hidden ∷ number (codes "relid") ∷ number (codes "target_vp") ∷ [] else
    if k == 24 then hidden ∷ number (codes "relid") ∷ number (codes "status") ∷ [] else
    []
