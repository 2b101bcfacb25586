-- Many requests, one after the other.
use Rattle.std.proofs.Common.{◌≡◌, ◌≢◌, ◌∙◌, ℕ, zero, suc, ◌<◌, List, [], ◌∷◌, length, set, get_or, get_or-set_same, get_or-set_other, Option, None, ⊎_elim, refl, sym, ap, arith}
use Rattle.std.specs.List.{AllByRecursion}
use Rattle.std.specs.List.Sorted.{IsStrictlySortedBy}
use Rattle.std.proofs.lemmas.Bool.{cases_eq}
use Rattle.std.proofs.lemmas.List.{length-set}
use Rattle.std.proofs.lemmas.Option.{slice_get-get_or}
use Rattle.kvp_pool.specs.Pools.{Pairs, value_in}
use Rattle.kvp_ic.specs.declared.message.Kvp.{Kvp}
use Rattle.kvp_ic.specs.declared.message.KvpReply.{KvpReply}
use Rattle.kvp_ic.specs.Machine.{new_pools, pool_of, pool_reply, pool_after, reply_in, pools_reply, pools_after}
use Rattle.kvp_ic.specs.Runs.{after_all, calls, stored, told_by, last_told}
use Rattle.kvp_ic.proofs.PoolLaws.{Rises, rises_after, told_apart, value_after}

abbrev pub EachRises : List Pairs → Type 0
EachRises pools = AllByRecursion Rises pools

pub new_rise : EachRises new_pools
unfolding IsStrictlySortedBy
new_rise = (tt, (tt, (tt, (tt, (tt, tt)))))

rises_at : (pools : List Pairs) (i : ℕ) → EachRises pools → Rises (get_or pools i [])
unfolding IsStrictlySortedBy
rises_at [] i all = tt
rises_at (p ∷ ps) zero all = all.0
rises_at (p ∷ ps) (suc i) all = rises_at ps i all.1

rise_set : (pools : List Pairs) (i : ℕ) (p : Pairs) → EachRises pools → Rises p → EachRises (set pools i p)
rise_set [] i p all up = tt
rise_set (x ∷ xs) zero p all up = (up, all.1)
rise_set (x ∷ xs) (suc i) p all up = (all.0, rise_set xs i p all.1 up)

pub rise_after : (pools : List Pairs) (q : Kvp) → EachRises pools → EachRises (pools_after pools q)
rise_after pools q all = rise_set pools (pool_of q) (pool_after (get_or pools (pool_of q) []) q) all (rises_after (get_or pools (pool_of q) []) q (rises_at pools (pool_of q) all))

-- a pool that is there answers
pub reply_there : (pools : List Pairs) (q : Kvp) → pool_of q < length pools → pools_reply pools q ≡ pool_reply (get_or pools (pool_of q) []) q
reply_there pools q lt = ap (λ (o : Option Pairs). reply_in o q) (slice_get-get_or pools (pool_of q) [] lt)

step_there : (pools : List Pairs) (q : Kvp) (i : ℕ) (key : List ℕ) → EachRises pools → i < length pools → pool_of q ≡ i → stored (pools_after pools q) i key ≡ told_by i key (stored pools i key) q (pools_reply pools q).status
step_there pools q i key all lt e =
    let there : pool_of q < length pools = omega arith in
    let p : Pairs = get_or pools (pool_of q) [] in
    ap (λ k. stored (pools_after pools q) k key) (sym e)
    ∙ (ap (value_in key) (get_or-set_same pools (pool_of q) (pool_after p q) [] there)
    ∙ (value_after p q i key (rises_at pools (pool_of q) all) e
    ∙ ((λ j. told_by i key (value_in key (get_or pools (e j) [])) q (pool_reply p q).status)
    ∙ ap (λ (r : KvpReply). told_by i key (stored pools i key) q r.status) (sym (reply_there pools q there)))))

step_apart : (pools : List Pairs) (q : Kvp) (i : ℕ) (key : List ℕ) → pool_of q ≢ i → stored (pools_after pools q) i key ≡ told_by i key (stored pools i key) q (pools_reply pools q).status
step_apart pools q i key n =
    ap (value_in key) (get_or-set_other pools (pool_of q) i (pool_after (get_or pools (pool_of q) []) q) [] (λ e. n (sym e)))
    ∙ sym (told_apart q i key (stored pools i key) (pools_reply pools q).status n)

step : (pools : List Pairs) (q : Kvp) (i : ℕ) (key : List ℕ) → EachRises pools → i < length pools → stored (pools_after pools q) i key ≡ told_by i key (stored pools i key) q (pools_reply pools q).status
step pools q i key all lt = ⊎_elim (step_there pools q i key all lt) (step_apart pools q i key) (cases_eq (pool_of q) i)

pub run : (qs : List Kvp) (pools : List Pairs) (i : ℕ) (key : List ℕ) → EachRises pools → i < length pools → stored (after_all pools qs) i key ≡ last_told i key (stored pools i key) (calls pools qs)
run [] pools i key all lt = refl
run (q ∷ qs) pools i key all lt =
    run qs (pools_after pools q) i key (rise_after pools q all) (omega (arith, lt, length-set pools (pool_of q) (pool_after (get_or pools (pool_of q) []) q)))
    ∙ ap (λ (before : Option (List ℕ)). last_told i key before (calls (pools_after pools q) qs)) (step pools q i key all lt)

none_stored : (i : ℕ) (key : List ℕ) → i < 5 → stored new_pools i key ≡ None
none_stored zero key lt = refl
none_stored (suc zero) key lt = refl
none_stored (suc (suc zero)) key lt = refl
none_stored (suc (suc (suc zero))) key lt = refl
none_stored (suc (suc (suc (suc zero)))) key lt = refl
none_stored (suc (suc (suc (suc (suc i))))) key lt = absurd (omega arith)

pub run_new : (qs : List Kvp) (i : ℕ) (key : List ℕ) → i < 5 → stored (after_all new_pools qs) i key ≡ last_told i key None (calls new_pools qs)
run_new qs i key lt = run qs new_pools i key new_rise lt ∙ ap (λ (before : Option (List ℕ)). last_told i key before (calls new_pools qs)) (none_stored i key lt)
