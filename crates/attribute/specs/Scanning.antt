-- What holds at a place of the loop that judges attributes.
use Rattle.std.specs.Prelude.{ℕ, ◌≤◌, List, ◌≡◌, length, drop}
use Rattle.attribute.specs.Attribute.{Attr, parse}
use Rattle.attribute.specs.Scan.{Scan, scan}

-- behind n attributes, at a place from where judging comes to t
pub record Scanning (f : ℕ → Attr → ℕ) (d : List ℕ) (at n : ℕ) (t : Scan) : Type 0 where
  pub low : 20 ≤ at
  pub inside : at ≤ length d
  pub few : n ≤ at
  pub same : scan f n at (parse 0 (drop at d)) ≡ t
