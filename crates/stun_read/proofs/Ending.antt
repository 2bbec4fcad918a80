-- What `read` ends with, case by case.
use Rattle.std.specs.Prelude.{ℕ, min, List, ◌≡◌, Result, Ok, Err}
use Rattle.std.proofs.Common.{sym, ap, ◌∙◌}
use Rattle.base.specs.Said.{Said}
use Rattle.wire.specs.declared.refusal.Refusal.{Refusal}
use Rattle.attribute.specs.Scan.{Scan}
use Rattle.attribute.specs.declared.Fault.{Fault}
use Rattle.registry.specs.Rows.{rfc5389}
use Rattle.read_message.specs.Reading.{answered, answer_said, reading_said, reading_of}
use Rattle.read_message.specs.declared.Reading.{Reading}

module _ (d : List ℕ) (w : Result Reading Refusal) (e : reading_said w ≡ reading_said (reading_of rfc5389 d)) where
  ends : {v : Result Reading Refusal} → w ≡ v → min 1 (reading_said v).number ≡ min 1 (reading_said (reading_of rfc5389 d)).number
  ends f = ap (λ (x : Result Reading Refusal). min 1 (reading_said x).number) (sym f) ∙ ap (λ (x : Said). min 1 x.number) e

  module _ {r : Reading} (f : w ≡ Ok r) where
    by_scan : {s : Scan} → r.attributes ≡ s
        → min 1 (answer_said (answered r.class r.method s) r.id.bytes).number ≡ min 1 (reading_said (reading_of rfc5389 d)).number
    unfolding reading_said
    by_scan g = ap (λ (s : Scan). min 1 (answer_said (answered r.class r.method s) r.id.bytes).number) (sym g) ∙ ends f

    pub whole : {n : ℕ} → r.attributes ≡ Ok n → 0 ≡ min 1 (reading_said (reading_of rfc5389 d)).number
    unfolding answer_said
    whole g = by_scan g

    pub broken : {x : Fault} {s : ℕ} → r.attributes ≡ Err x → s ≡ min 1 x.reason.number → s ≡ min 1 (reading_said (reading_of rfc5389 d)).number
    unfolding answer_said
    broken g h = h ∙ by_scan g

  pub refused : {r : Refusal} {s : ℕ} → w ≡ Err r → s ≡ min 1 r.number → s ≡ min 1 (reading_said (reading_of rfc5389 d)).number
  unfolding answer_said reading_said
  refused f h = h ∙ ends f
