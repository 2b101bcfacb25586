-- Ranges of bytes over pages of 4,096 bytes, and their parts.
use Rattle.std.specs.Prelude.{◌≡◌, ℕ, ◌+◌, ◌/◌, ◌<◌, ◌≤◌, ◌==◌, nat_le, List, [], ◌∷◌, length, map, Option, Some, None, if◌then◌else◌}
use Rattle.std.specs.List.{AllByRecursion, sum_by}
use Rattle.vm_page.specs.declared.span.Span.{Span}
use Rattle.vm_page.specs.declared.span.SpanFault.{SpanFault}
use Rattle.vm_page.specs.declared.span.SpanFault.TheVariants.{Offset, Pages}

-- a part isn't empty, and lies in its page
abbrev pub LiesInPage : Span → Type 0
LiesInPage s = (0 < s.len) × (s.offset + s.len ≤ 4096)

-- the first part begins at this offset; each other one begins its page, after one that ends its page
abbrev pub FollowFrom : ℕ → List Span → Type 0
FollowFrom at [] = Unit {0}
FollowFrom at (s ∷ []) = s.offset ≡ at
FollowFrom at (s ∷ t ∷ rest) = (s.offset ≡ at) × (s.offset + s.len ≡ 4096) × FollowFrom 0 (t ∷ rest)

-- these parts, one of each page, cover the range of so many bytes from an offset on, in order
pub record IsCutOf (offset len : ℕ) (pages : List ℕ) (parts : List Span) : Type 0 where
  pub pages_are : map (λ s. s.page) parts ≡ pages
  pub within : AllByRecursion LiesInPage parts
  pub in_order : FollowFrom offset parts
  pub covers : sum_by (λ s. s.len) parts ≡ len

-- the pages that a range touches
abbrev pub pages_for : ℕ → ℕ → ℕ
pages_for offset len = (offset + len + 4095) / 4096

-- why a range isn't cut over so many pages
abbrev pub fault_of : ℕ → ℕ → ℕ → Option SpanFault
fault_of offset len have =
    if nat_le 4096 offset then Some (Offset offset)
    else (if pages_for offset len == have then None else Some (Pages (pages_for offset len) have))

-- an empty range has no parts
abbrev pub parts_count : ℕ → List ℕ → ℕ
parts_count len pages = if len == 0 then 0 else length pages
