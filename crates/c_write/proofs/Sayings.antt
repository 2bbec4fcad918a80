-- What the calls return, case by case.
use Rattle.std.specs.Prelude.{ℕ, ◌≤◌, ◌<◌, List, ◌≡◌, Result, Ok, Err}
use Rattle.std.proofs.Common.{sym, ap, ◌∙◌, lt-ltb, le-ltb}
use Rattle.wire.specs.Refusal.{by, result_said}
use Rattle.wire.specs.declared.refusal.Refusal.{Refusal}
use Rattle.wire.specs.TypeNumber.{class_number, at_most_three}
use Rattle.wire.specs.TypeLaws.{class_is}
use Rattle.wire.specs.declared.types.MessageClass.{MessageClass}
use Rattle.write_begin.specs.Begin.{written_said, begun, beginning}
use Rattle.c_wire.specs.declared.Id.{Id}
use Rattle.c_write.specs.Written.{written_out, told, begun_by, left_by}
use Rattle.c_write.specs.declared.Written.{Written}

module _ (w : Result ℕ Refusal) where
  pub total : {n : ℕ} → w ≡ Ok n → record { number = 0; size = n } ≡ told w
  unfolding written_out told written_said result_said
  total e = ap told (sym e)

  pub refused : {n : ℕ} → w ≡ Err (by n) → record { number = n; size = 0 } ≡ told w
  unfolding written_out told written_said result_said
  refused e = ap told (sym e)

module _ (d : List ℕ) (c m : ℕ) where
  pub no_class : {r : Written} → 3 < c → r ≡ told (Err (by 22)) → r ≡ begun_by d c m
  unfolding begun_by
  no_class h e = rw (lt-ltb 3 c h) e

  pub kept : (id : Id) → 3 < c → d ≡ left_by d c m id
  unfolding left_by
  kept id h = rw (lt-ltb 3 c h)

  module _ (h : c ≤ 3) where
    pub begins : {w : Result ℕ Refusal} {r : Written} → w ≡ begun d (record { code = m }) → r ≡ told w → r ≡ begun_by d c m
    unfolding begun_by
    begins e f = rw (le-ltb 3 c h) (f ∙ ap told e)

    pub leaves : (k : MessageClass) {b : List ℕ} (id : Id) → class_number k ≡ at_most_three c
        → b ≡ beginning d k (record { code = m }) (record { bytes = id.bytes }) → b ≡ left_by d c m id
    unfolding left_by
    leaves k id e f =
        rw (le-ltb 3 c h) (f ∙ ap (λ (x : MessageClass). beginning d x (record { code = m }) (record { bytes = id.bytes })) (class_is c k e))
