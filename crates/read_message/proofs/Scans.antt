-- The loop over the values, as the code finds their numbers.
use Rattle.std.specs.Prelude.{ℕ, ◌+◌, ◌-◌, List, ◌≡◌, take, drop, Result, Ok, Err}
use Rattle.std.proofs.Common.{sym, ap, ◌∙◌, arith}
use Rattle.wire.specs.Refusal.{refused_by}
use Rattle.wire.proofs.RefusalLaws.{passes, refuses}
use Rattle.wire.specs.declared.refusal.Refusal.{Refusal}
use Rattle.attribute.specs.Walk.{step_at}
use Rattle.attribute.specs.Visits.{found}
use Rattle.attribute.proofs.ScanLaws.{on, decides}
use Rattle.attribute.specs.Scan.{Scan}
use Rattle.attribute.specs.Scanning.{Scanning}
use Rattle.attribute.specs.declared.Walk.{Walk}
use Rattle.attribute.specs.declared.Walk.TheVariants.{Attribute}
use Rattle.registry.specs.Rows.{rfc5389}
use Rattle.registry.specs.Fault.{fault}
use Rattle.read_message.specs.Reading.{value_faults}

module _ {d : List ℕ} {at n q k v s x : ℕ} {t : Scan} {w : Walk} (g : Scanning (value_faults rfc5389) d at n t)
    (i : w ≡ Attribute q k v s x) (e : w ≡ step_at d at) {j : Result Unit Refusal}
    (z : j ≡ refused_by (fault rfc5389 k (take (v + s - v) (drop v d)))) where
  value : fault rfc5389 k (take (v + s - v) (drop v d)) ≡ value_faults rfc5389 at (found d k v s x)
  unfolding value_faults
  value = let m : v + s - v ≡ s = omega arith in ap (λ (j : ℕ). fault rfc5389 k (take j (drop v d))) m

  pub value_on : {u : Unit {0}} → j ≡ Ok u → Scanning (value_faults rfc5389) d x (n + 1) t
  value_on f = on g i e value (passes _ (sym z ∙ f))

  pub value_decides : {r : Refusal} → j ≡ Err r → t ≡ Err (record { reason = r; place = at })
  value_decides f =
      let y = refuses _ (sym z ∙ f) in
      sym (ap (λ (r : Refusal). Err (record { reason = r; place = at })) y.refusal ∙ decides g i e value y.some)
