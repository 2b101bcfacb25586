-- The pages of a channel: which end each belongs to, and which of them a packet lends.
use Rattle.std.specs.Prelude.{ℕ, ltb, cond, List, Option, Some, None}
use Rattle.vm_page.specs.Words.{words_for}
use Rattle.pkt_desc.specs.declared.loan.Lent.{Lent as LentBytes}
use Rattle.pkt_desc.specs.Lending.{lent_of}
pub use Rattle.io_edge.specs.declared.side.Side.{Side}
pub use Rattle.io_edge.specs.declared.side.Side.TheVariants.{Guest, Host}

abbrev pub other_end : Side → Side
other_end Guest = Host
other_end Host = Guest

-- a page, and how many of its first words are lent
pub record Loan : Type 0 where
  pub page : ℕ
  pub words : ℕ

-- a channel's pages: the home of each, and what a packet lends, where that is a page of the channel
pub record Layout : Type 0 where
  pub home : ℕ → Side
  pub lends : List ℕ → Option Loan

-- the page and the words that hold these bytes, where a channel of c pages has that page
abbrev pub loan_in : ℕ → Option LentBytes → Option Loan
loan_in c None = None
loan_in c (Some a) = cond (ltb a.page c) (Some record { page = a.page; words = words_for a.bytes }) None

-- a channel of c pages: the guest is the home of the first 64, the host that of the others
abbrev pub layout : ℕ → Layout
layout c = record { home = λ q. cond (ltb q 64) Guest Host; lends = λ p. loan_in c (lent_of p) }
