-- A device's history, as requests that were served.
use Rattle.std.proofs.Common.{◌≡◌, ℕ, ◌+◌, ◌==◌, Bool, true, false, cond, List, [], ◌∷◌, length, arith, refl, ap, sym, ◌∙◌, subst}
use Rattle.std.specs.Prelude.{All, unwrap_or, Option}
use Rattle.std.proofs.lemmas.List.Elements.{All-head, All-tail}
use Rattle.std.proofs.lemmas.Bool.Decides.{nat_tests}
use Rattle.device_kinds.specs.Served.{Served}
use Rattle.device_kinds.specs.Logs.{Recorded, Logged, IsHistory, log_by, served_by, served_from}
use Rattle.device_kinds.specs.declared.history.DeviceHistory.TheVariants.{Disk as DiskHistory}
use Rattle.hist_lock.specs.Seat.{Call}
use Rattle.hist_lock.specs.Calls.{calls_from}
use Rattle.hist_lock.specs.Legal.{IsLegal}
use Rattle.hist_lock.specs.declared.history.Entry.{Entry}
use Rattle.hist_lock.specs.declared.history.History.{History}
use Rattle.hist_lock.specs.History.{entries_of}
use Rattle.scsi_disk.specs.DiskModel.{DiskState, new_disk, disk_reply, disk_after}
use Rattle.scsi_disk.specs.FiniteMap.{Kept, kept_after, unwritten, stands_for}
use Rattle.scsi_disk.specs.declared.request.DiskRequest.{DiskRequest}
use Rattle.scsi_disk.specs.declared.reply.DiskReply.{DiskReply}
use Rattle.scsi_disk.proofs.ModelLaws.{stands_for-kept_after}
use Rattle.device_any.specs.Boxes.{IsKept, setup_for, setup_of, spec_of}
use Rattle.device_any.specs.MachineBoxes.{past_in}
use Rattle.device_any.specs.declared.device_box.DeviceBox.{DeviceBox}
use Rattle.device_any.specs.declared.machine_box.MachineBox.{MachineBox}
use Rattle.device_any.specs.declared.machine_box.MachineBox.TheVariants.{Whole}
use Rattle.device_any.specs.declared.device_box.DeviceBox.TheVariants.{Disk as DiskBox}

-- an entry and a call of one kind, among those of all
abbrev pub recorded : {S Q A : Type 0} → Logged Q A → Entry S Q A → Recorded
recorded m e = record { seat = e.seat; ask = m.asked e.request; reply = m.told e.reply }

abbrev pub served_as : {Q A : Type 0} → Logged Q A → Call Q A → Served
served_as m c = record { serial = c.serial; request = m.asked c.request; reply = m.told c.reply }

pushed : {Q A : Type 0} (m : Logged Q A) (b : Bool) (c : Call Q A) (xs : List Served) (ys : List (Call Q A)) → xs ≡ served_by m ys → cond b (served_as m c ∷ xs) xs ≡ served_by m (cond b (c ∷ ys) ys)
pushed m true c xs ys more = ap (λ l. served_as m c ∷ l) more
pushed m false c xs ys more = more

-- what a seat served is its calls
pub log_serves : {S Q A : Type 0} (m : Logged Q A) (seat n : ℕ) (es : List (Entry S Q A)) → served_from seat n (log_by m es) ≡ served_by m (calls_from seat n es)
log_serves m seat n [] = refl
log_serves m seat n (e ∷ es) = pushed m (e.seat == seat) (record { serial = n; request = e.request; reply = e.reply }) _ _ (log_serves m seat (n + 1) es)

-- a seat that made all the calls has as many as the history
pub log_long : {S Q A : Type 0} (n : ℕ) (es : List (Entry S Q A)) → All (λ (e : Entry S Q A). e.seat ≡ 0) es → length (calls_from 0 n es) ≡ length es
log_long n [] own = refl
log_long {S} {Q} {A} n (e ∷ es) own =
    let here : (e.seat == 0) ≡ true = let is : e.seat ≡ 0 = All-head (λ (e : Entry S Q A). e.seat ≡ 0) e es own in grind (arith, nat_tests) in
    let more = log_long (n + 1) es (All-tail (λ (e : Entry S Q A). e.seat ≡ 0) e es own) in
    ap (λ (b : Bool). length (cond b (record { serial = n; request = e.request; reply = e.reply } ∷ calls_from 0 (n + 1) es) (calls_from 0 (n + 1) es))) here ∙ omega (arith, more)

-- a legal history of what a disk keeps is one of the disk
pub disk_legal : (k : Kept) (es : List (Entry Kept DiskRequest DiskReply)) → IsLegal kept_after (λ s q. disk_reply (stands_for s) q) k es → IsLegal disk_after disk_reply (stands_for k) es
disk_legal k [] legal = tt
disk_legal k (e ∷ es) legal = (legal.0, subst (λ d. IsLegal disk_after disk_reply d es) (stands_for-kept_after k e.request) (disk_legal (kept_after k e.request) es legal.1))

-- so a disk's history is legal, where that of its machine is

kept_legal : (subs : ℕ) (own : MachineBox Kept DiskRequest DiskReply) (history : History Kept DiskRequest DiskReply) (bad : List ℕ) → IsKept (DiskBox subs own) → entries_of history ≡ past_in own
    → setup_of (DiskBox subs own) ≡ setup_for (spec_of (DiskBox subs own)) bad → IsHistory (spec_of (DiskBox subs own)) bad (DiskHistory history)
kept_legal subs (Whole state past) history bad kept is setup =
    subst (IsLegal disk_after disk_reply (new_disk state.blocks bad)) (sym is)
    (subst (λ d. IsLegal disk_after disk_reply d (entries_of past)) (ap (λ (o : Option DiskState). unwrap_or o (stands_for (unwritten state))) setup) (disk_legal (unwritten state) (entries_of past) kept.legal))
kept_legal subs _ history bad kept is setup = absurd kept

pub disk_history : (box : DeviceBox) (subs : ℕ) (own : MachineBox Kept DiskRequest DiskReply) (history : History Kept DiskRequest DiskReply) (bad : List ℕ) → box ≡ DiskBox subs own → IsKept box → entries_of history ≡ past_in own → setup_of box ≡ setup_for (spec_of box) bad
    → IsHistory (spec_of box) bad (DiskHistory history)
disk_history box subs own history bad is kept entries setup =
    subst (λ d. IsHistory (spec_of d) bad (DiskHistory history)) (sym is) (kept_legal subs own history bad (subst IsKept is kept) entries (subst (λ d. setup_of d ≡ setup_for (spec_of d) bad) is setup))
