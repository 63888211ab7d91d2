-- The breach at the lowest offset: what a fault that a reading names says of the bytes.
use Rattle.std.specs.Prelude.{ℕ, ◌<◌, ◌≡◌, true, false}
use mathlib.Core.List.{List, Memᴰ}
use Rattle.record.specs.Layout.{Rule, keeps, offset_of, fault_of}
use Rattle.record.specs.declared.Fault.{Fault}

pub record Lowest (b : List ℕ) (rs : List Rule) (fault : Fault) : Type 0 where
  -- a rule of the list that the bytes breach, and the fault is its own
  pub rule : Rule
  pub listed : Memᴰ rule rs
  pub breached : keeps b rule ≡ false
  pub named : fault_of rule ≡ fault
  -- no rule of a lower offset is breached
  pub lower_kept : (r : Rule) → Memᴰ r rs → offset_of r < offset_of rule → keeps b r ≡ true
