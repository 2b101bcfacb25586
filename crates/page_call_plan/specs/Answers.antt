-- What the calls on pages answer. The first three are also answers of the plans of a ring's end.
use Rattle.std.specs.Prelude.{ℕ}

-- no call: it doesn't fit the end's state or its numbers, and nothing changed
abbrev pub no_call : ℕ
no_call = 0

-- a packet was taken, and no page came with it
abbrev pub took : ℕ
took = 5

abbrev pub planned : ℕ
planned = 19

-- words of a page are to be loaded first
abbrev pub page_due : ℕ
page_due = 22

-- the end doesn't have the page, or has lent it
abbrev pub page_not_owned : ℕ
page_not_owned = 23

-- words past those that the end may store to
abbrev pub page_outside : ℕ
page_outside = 24

-- a packet that lends a page has the id of a request that isn't completed
abbrev pub id_open : ℕ
id_open = 25

-- a completion answers no request that was taken
abbrev pub id_not_owed : ℕ
id_not_owed = 26

-- no room for one more id
abbrev pub no_ids : ℕ
no_ids = 27

-- what was planned counts as done
abbrev pub page_done : ℕ
page_done = 28
