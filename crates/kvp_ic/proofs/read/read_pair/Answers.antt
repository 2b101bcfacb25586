use Rattle.std.proofs.Common.{◌≡◌, Some, None, sym}
use Rattle.kvp_ic.specs.Messages.{key_place, value_place}
use Rattle.kvp_ic.specs.Faults.{or_else, size_fault, text_fault}
use Rattle.kvp_ic.proofs.AskLaws.{both_none, told_first, told_later, value_size_told, texts_told}
use Rattle.kvp_ic.proofs.read.read_pair.Goals as goal

pub returns-in-Some : goal.returns-in-Some
returns-in-Some c =
    let b = c.args.bytes.now in
    told_first (size_fault 1 255 (key_place 1) b) (or_else (size_fault 0 1023 (value_place 1) b) (or_else (text_fault 0 (key_place 1) b) (text_fault 512 (value_place 1) b))) c.in-Some.fault (rw c.key_place-key.ensures at c.in-Some.ensures)

pub returns-in-Some-size_fault : goal.returns-in-Some-size_fault
returns-in-Some-size_fault c =
    let b = c.args.bytes.now in
    let k : size_fault 1 255 (key_place 1) b ≡ None = sym (rw c.key_place-key.ensures at c.in_default.ensures) in
    value_size_told (key_place 1) (value_place 1) b c.in-Some-size_fault.fault k (rw c.value_place-value.ensures at c.in-Some-size_fault.ensures)

pub returns-in-Err : goal.returns-in-Err
returns-in-Err c =
    let b = c.args.bytes.now in
    let k : size_fault 1 255 (key_place 1) b ≡ None = sym (rw c.key_place-key.ensures at c.in_default.ensures) in
    let v : size_fault 0 1023 (value_place 1) b ≡ None = sym (rw c.value_place-value.ensures at c.in_default-size_fault.ensures) in
    let t : text_fault 0 (key_place 1) b ≡ Some c.in-Err.fault = rw c.key_place-key.ensures at c.in-Err.ensures in
    texts_told (key_place 1) (value_place 1) b (Some c.in-Err.fault) k v (told_first (text_fault 0 (key_place 1) b) (text_fault 512 (value_place 1) b) c.in-Err.fault (sym t))

pub returns-in-Err-read_text : goal.returns-in-Err-read_text
returns-in-Err-read_text c =
    let b = c.args.bytes.now in
    let k : size_fault 1 255 (key_place 1) b ≡ None = sym (rw c.key_place-key.ensures at c.in_default.ensures) in
    let v : size_fault 0 1023 (value_place 1) b ≡ None = sym (rw c.value_place-value.ensures at c.in_default-size_fault.ensures) in
    let t : text_fault 0 (key_place 1) b ≡ None = (rw c.key_place-key.ensures at c.in-Ok.ensures).0 in
    let u : text_fault 512 (value_place 1) b ≡ Some c.in-Err-read_text.fault = rw c.value_place-value.ensures at c.in-Err-read_text.ensures in
    texts_told (key_place 1) (value_place 1) b (Some c.in-Err-read_text.fault) k v (told_later (text_fault 0 (key_place 1) b) (text_fault 512 (value_place 1) b) c.in-Err-read_text.fault t u)

pub returns-in-Ok-read_text : goal.returns-in-Ok-read_text
returns-in-Ok-read_text c =
    let b = c.args.bytes.now in
    let k : size_fault 1 255 (key_place 1) b ≡ None = sym (rw c.key_place-key.ensures at c.in_default.ensures) in
    let v : size_fault 0 1023 (value_place 1) b ≡ None = sym (rw c.value_place-value.ensures at c.in_default-size_fault.ensures) in
    let t = rw c.key_place-key.ensures at c.in-Ok.ensures in
    let u = rw c.value_place-value.ensures at c.in-Ok-read_text.ensures in
    (texts_told (key_place 1) (value_place 1) b None k v (both_none (text_fault 0 (key_place 1) b) (text_fault 512 (value_place 1) b) t.0 u.0), t.1, u.1)
