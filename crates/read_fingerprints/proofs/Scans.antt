-- The loop over the FINGERPRINTs, as the code finds their numbers, and where it starts.
use Rattle.std.specs.Prelude.{ℕ, ◌+◌, ◌≤◌, ◌<◌, List, ◌≡◌, length, take, drop, Result, Ok, Err}
use Rattle.std.proofs.Common.{sym, ap, ◌∙◌, subst, arith, drop_of_length-le}
use Rattle.std.proofs.Math.Decide.{dec_lt}
use Rattle.wire.specs.declared.refusal.Refusal.{Refusal}
use Rattle.attribute.specs.Attribute.{parse}
use Rattle.attribute.specs.Walk.{step_at}
use Rattle.attribute.specs.Scan.{Scan, scan, scanned}
use Rattle.attribute.specs.Visits.{found}
use Rattle.attribute.proofs.ScanLaws.{inside, on, decides}
use Rattle.attribute.specs.Scanning.{Scanning}
use Rattle.attribute.specs.declared.Walk.{Walk}
use Rattle.attribute.specs.declared.Walk.TheVariants.{Attribute}
use Rattle.read_fingerprints.specs.Fingerprints.{print_fault, print_faults, on_from, prints_from}
use Rattle.read_fingerprints.specs.FingerprintsLaws.{in_header, outside}
use Rattle.read_fingerprints.specs.Running.{Ran, Judged}
use Rattle.read_fingerprints.specs.declared.Running.{Running}

pub start : (d : List ℕ) (p n : ℕ) {t : Scan} → 20 ≤ p → p ≤ length d → n ≤ p → on_from d p n ≡ t → Scanning (print_faults d) d p n t
unfolding on_from
start d p n h i j e = record { low = h; inside = i; few = j; same = e }

-- from the first attribute on
pub start_first : (d : List ℕ) {t : Scan} → 20 ≤ length d → scanned (print_faults d) d ≡ t → Scanning (print_faults d) d 20 0 t
unfolding scanned
start_first d h e = record { low = omega arith; inside = h; few = omega arith; same = e }

pub none_is : (d : List ℕ) (p n : ℕ) → length d < 20 → Ok 0 ≡ prints_from d p n
unfolding scanned scan parse
none_is d p n h =
    sym (ap (λ (s : List ℕ). scan (print_faults d) 0 20 (parse 0 s)) (drop_of_length-le d {i = 20} (omega arith))) ∙ go (dec_lt p 20)
  where
    go : Dec (p < 20) → scanned (print_faults d) d ≡ prints_from d p n
    go (yes l) = in_header d p n l
    go (no l) = outside d p n (omega arith) (omega arith)

module _ {d : List ℕ} {at n q k v s x : ℕ} {t : Scan} {w : Walk} (g : Scanning (print_faults d) d at n t)
    (i : w ≡ Attribute q k v s x) (e : w ≡ step_at d at) where
  pub print_room : at + 4 + s ≤ length d
  print_room = omega (arith, inside g i e)

  fault : print_fault d at k (take s (drop (at + 4) d)) ≡ print_faults d at (found d k v s x)
  unfolding print_faults
  fault = ap (λ (j : ℕ). print_fault d at k (take s (drop j d))) (sym (inside g i e).value_at_lem)

  -- and the attribute judged as a FINGERPRINT
  module _ {j : Result Running Refusal} (z : Judged d at (print_fault d at k (take s (drop (at + 4) d))) j) where
    pub print_on : {r : Running} → j ≡ Ok r → Scanning (print_faults d) d x (n + 1) t
    print_on f = on g i e fault (subst (Judged d at _) f z).0

    pub ran_on : {r : Running} → j ≡ Ok r → Ran d r x
    ran_on f =
        let h = (subst (Judged d at _) f z).1 in
        record { right = h.right; behind = omega (arith, h.behind, inside g i e); short = h.short }

    pub print_decides : {f : Refusal} → j ≡ Err f → Err (record { reason = f; place = at }) ≡ t
    print_decides h =
        let q = subst (Judged d at _) h z in
        ap (λ (f : Refusal). Err (record { reason = f; place = at })) q.0 ∙ decides g i e fault q.1
