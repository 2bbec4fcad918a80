-- What an answer says tells it apart from every other of its kind.
use Rattle.std.specs.Prelude.{ℕ, zero, suc, ◌≡◌, refl, get_or, Ok, Err}
use Rattle.base.specs.Said.{Said}
use Rattle.base.specs.SaidLaws.{one_to_one}
use Rattle.attribute.specs.Walk.{walk_said}
use Rattle.attribute.specs.Scan.{Scan, at_fault, scan_said}
use Rattle.attribute.specs.declared.Walk.{Walk}
use Rattle.attribute.specs.declared.Walk.TheVariants.{Attribute, End, Cut}

walk_from : Said → Walk
walk_from s = by s.kind
  where
    value : ℕ → ℕ
    value i = get_or s.values i 0

    by : ℕ → Walk
    by zero = Attribute (value 0) (value 1) (value 2) (value 3) (value 4)
    by (suc zero) = End (value 0)
    by (suc (suc k)) = Cut (value 0)

pub walk_one : {a b : Walk} → walk_said a ≡ walk_said b → a ≡ b
unfolding walk_said walk_from
walk_one = one_to_one walk_said walk_from back
  where
    back : (a : Walk) → walk_from (walk_said a) ≡ a
    back (Attribute p k v n x) = refl
    back (End p) = refl
    back (Cut p) = refl

scan_from : Said → Scan
scan_from s = by s.kind
  where
    by : ℕ → Scan
    by zero = Ok (get_or s.values 0 0)
    by (suc k) = at_fault s.number (get_or s.values 0 0)

pub scan_one : {a b : Scan} → scan_said a ≡ scan_said b → a ≡ b
unfolding scan_said scan_from
scan_one = one_to_one scan_said scan_from back
  where
    back : (a : Scan) → scan_from (scan_said a) ≡ a
    back (Ok n) = refl
    back (Err f) = refl
