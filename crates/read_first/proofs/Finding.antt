-- What `find` and `has` return, case by case.
use Rattle.std.specs.Prelude.{ℕ, List, Bool, true, false, ◌≡◌, refl, Result, Ok, Err, Option, None, is_ok, is_some}
use Rattle.std.proofs.Common.{sym, ap, ◌∙◌}
use Rattle.base.specs.Choice.{pick}
use Rattle.wire.specs.declared.refusal.Refusal.{Refusal}
use Rattle.attribute.specs.Scan.{Scan}
use Rattle.registry.specs.Rows.{rfc5389}
use Rattle.read_message.specs.Reading.{answered, answer_of, reading_of}
use Rattle.read_message.specs.declared.Reading.{Reading}
use Rattle.read_first.specs.declared.Found.{Found}
use Rattle.read_first.specs.First.{Place, none, starts, first_in, whole_by, is_whole, first, placed, is_there}

module _ (d : List ℕ) (k : ℕ) {w : Result Reading Refusal} (e : w ≡ reading_of rfc5389 d) where
  by_answer : first rfc5389 k d ≡ pick (whole_by (answer_of w)) (first_in k d) none
  unfolding first is_whole
  by_answer = ap (λ (x : Result Reading Refusal). pick (whole_by (answer_of x)) (first_in k d) none) (sym e)

  -- where the attributes all pass, and where they don't
  module _ {r : Reading} (g : w ≡ Ok r) where
    with : first rfc5389 k d ≡ pick (whole_by (answered r.class r.method r.attributes)) (first_in k d) none
    with = by_answer ∙ ap (λ (x : Result Reading Refusal). pick (whole_by (answer_of x)) (first_in k d) none) g

    judged : (s : Scan) (b : Bool) → is_ok s ≡ b → whole_by (answered r.class r.method s) ≡ b
    judged (Ok n) b f = f
    judged (Err x) b f = f

    pub whole : {f : Option Found} → is_ok r.attributes ≡ true → f ≡ placed (first_in k d) → f ≡ placed (first rfc5389 k d)
    whole i h = h ∙ ap placed (sym (with ∙ ap (λ (b : Bool). pick b (first_in k d) none) (judged r.attributes true i)))

    pub broken : is_ok r.attributes ≡ false → None ≡ placed (first rfc5389 k d)
    unfolding placed
    broken i = ap placed (sym (with ∙ ap (λ (b : Bool). pick b (first_in k d) none) (judged r.attributes false i)))

  pub refused : {r : Refusal} → w ≡ Err r → None ≡ placed (first rfc5389 k d)
  unfolding placed
  refused g = ap placed (sym (by_answer ∙ ap (λ (x : Result Reading Refusal). pick (whole_by (answer_of x)) (first_in k d) none) g))

-- told of, and there
pub has_one : (x : Place) → is_some (placed x) ≡ is_there x
unfolding placed is_there
has_one none = refl
has_one (starts p a) = refl
