-- The lists of an end that keeps none: its past tells them.
use Rattle.std.specs.Prelude.{◌≡◌, ◌≢◌, ℕ, ◌+◌, true, List, [], length}
use Rattle.channel_trace.specs.declared.event.Event.{Event}
use Rattle.channel_trace.specs.Runs.{sent_of, got_of}
use Rattle.page_kept.specs.declared.kept.Kept.{Kept}
use Rattle.page_kept.specs.declared.page_call.PageCall.TheVariants.{Off}
use Rattle.page_table.specs.Ids.{AreCounted}
use Rattle.page_table.specs.Table.{Table}
use Rattle.ring_core.specs.Pages.{Paged, is_whole, kept_of, owed, resting_in}
use Rattle.ring_machine.specs.declared.machine.EndMachine.{EndMachine}
use Rattle.ring_machine.specs.declared.page_core.PageCore.{PageCore}
use Rattle.ring_machine.specs.declared.state.EndState.{EndState}

-- the packets that an end sent, and those that it got, with the page words that went along, by the past of both
abbrev pub sent_in : List (Event (List ℕ)) → List (Event (List ℕ)) → Paged
sent_in past lent = record { list = sent_of past; lent = sent_of lent }

abbrev pub got_in : List (Event (List ℕ)) → List (Event (List ℕ)) → Paged
got_in past lent = record { list = got_of past; lent = got_of lent }

abbrev pub kept_in : PageCore → List (Event (List ℕ)) → List (Event (List ℕ)) → Table → Kept
kept_in k past lent t = kept_of k (sent_in past lent) (got_in past lent) t

-- the end between two calls
abbrev pub standing : EndMachine → PageCore → List (Event (List ℕ)) → List (Event (List ℕ)) → Table → EndState
standing m k past lent t = resting_in m k (sent_in past lent) (got_in past lent) past t

-- An end between two calls: it is in no page call, its table has the channel's pages, each packet has its page words, but the last one that was got, where they are
-- due, and the ids are counted. A channel without pages keeps no page words
pub record AreListed (k : PageCore) (past lent : List (Event (List ℕ))) (t : Table) : Type 0 where
  pub off : k.call ≡ Off
  pub count : length t.owners ≡ k.count
  pub sent_bare : k.count ≡ 0 → sent_of lent ≡ []
  pub got_bare : k.count ≡ 0 → got_of lent ≡ []
  pub sent_all : k.count ≢ 0 → length (sent_of past) ≡ length (sent_of lent)
  pub got_all : k.count ≢ 0 → length (got_of past) ≡ length (got_of lent) + owed k.due
  pub whole : is_whole k.due ≡ true
  pub counted : k.count ≢ 0 → AreCounted t.counts (sent_of past) (got_of past)
