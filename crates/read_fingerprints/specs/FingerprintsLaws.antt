-- The FINGERPRINTs from a place on: where judging starts, and what it comes to.
use Rattle.std.specs.Prelude.{ℕ, ◌≤◌, ◌<◌, List, ◌≡◌, length}
use Rattle.std.proofs.Common.{sym, ◌∙◌, le-leb}
use Rattle.std.proofs.lemmas.Bool.{lt-leb}
use Rattle.attribute.specs.Scan.{Scan, scanned}
use Rattle.attribute.specs.Scanning.{Scanning}
use Rattle.read_fingerprints.specs.Fingerprints.{print_faults, on_from, prints_from}

module _ (d : List ℕ) (p n : ℕ) where
  pub in_header : p < 20 → scanned (print_faults d) d ≡ prints_from d p n
  unfolding prints_from
  in_header h = simp (lt-leb 20 p h)

  module _ (h : 20 ≤ p) where
    pub outside : length d < p → scanned (print_faults d) d ≡ prints_from d p n
    unfolding prints_from
    outside i = simp (le-leb 20 p h, lt-leb p (length d) i)

    module _ (i : p ≤ length d) where
      pub too_many : p < n → scanned (print_faults d) d ≡ prints_from d p n
      unfolding prints_from
      too_many j = simp (le-leb 20 p h, le-leb p (length d) i, lt-leb n p j)

      pub from_there : n ≤ p → on_from d p n ≡ prints_from d p n
      unfolding prints_from
      from_there j = simp (le-leb 20 p h, le-leb p (length d) i, le-leb n p j)

module _ {d : List ℕ} {p n : ℕ} {r t : Scan} (g : Scanning (print_faults d) d p n t) where
  pub reaches : r ≡ on_from d p n → r ≡ t
  unfolding on_from
  reaches e = e ∙ g.same

  pub comes_to_lem : r ≡ prints_from d p n → r ≡ t
  comes_to_lem e = reaches (e ∙ sym (from_there d p n g.low g.inside g.few))
