-- What the calls return, case by case.
use Rattle.std.specs.Prelude.{ℕ, ◌+◌, ◌≤◌, List, true, false, ◌≡◌, length, take, drop, Option, Some, None}
use Rattle.std.proofs.Common.{sym, ap, ◌∙◌, arith, length-take, length-drop}
use Rattle.registry.specs.Rows.{rfc5389}
use Rattle.read_first.specs.First.{first_said, first, placed, is_there, value_of, value_at}
use Rattle.read_first.proofs.FirstLaws as laws
use Rattle.read_first.specs.declared.Found.{Found}
use Rattle.read_realm.specs.Realm.{realm_of}
use Rattle.c_value.specs.Part.{first_out, value_in, realm_in}

module _ (f : Option Found) where
  pub one : {y : Found} → f ≡ Some y → record { there = true; place = y.at; size = y.size } ≡ first_out (first_said f)
  unfolding first_out first_said
  one e = ap (λ (x : Option Found). first_out (first_said x)) (sym e)

  pub no_one : f ≡ None → record { there = false; place = 0; size = 0 } ≡ first_out (first_said f)
  unfolding first_out first_said
  no_one e = ap (λ (x : Option Found). first_out (first_said x)) (sym e)

module _ (d : List ℕ) (k : ℕ) {f : Option Found} (e : f ≡ placed (first rfc5389 k d)) where
  module _ {y : Found} (g : f ≡ Some y) where
    pub room : y.at + 4 + y.size ≤ length d
    room = laws.room rfc5389 d k e g

    pub size : y.size ≡ length (value_of (first rfc5389 k d))
    size =
        let l : length (take y.size (drop (y.at + 4) d)) ≡ y.size = simp (length-take, length-drop) (omega (arith, room)) in
        sym l ∙ ap length (laws.part d k rfc5389 e g).value

    pub part : record { there = true; start = y.at + 4; size = y.size } ≡ value_in (first rfc5389 k d)
    unfolding value_in
    part = rw ((laws.part d k rfc5389 e g).there, ← (laws.part d k rfc5389 e g).at, ← size)

  pub no_part : f ≡ None → record { there = false; start = 0; size = 0 } ≡ value_in (first rfc5389 k d)
  unfolding value_in is_there value_of value_at
  no_part g = ap value_in (sym (laws.absent (first rfc5389 k d) e g))

module _ (d s : List ℕ) {f : Option Found} (e : f ≡ placed (first rfc5389 0x0014 d)) where
  pub realm : {y : Found} → f ≡ Some y → record { there = true; start = y.at + 4; size = y.size } ≡ realm_in d s
  unfolding realm_in realm_of
  realm g = rw ((laws.part d 0x0014 rfc5389 e g).there, ← (laws.part d 0x0014 rfc5389 e g).at, ← size d 0x0014 e g)

  pub no_realm : f ≡ None → record { there = false; start = 0; size = length s } ≡ realm_in d s
  unfolding realm_in realm_of is_there value_at
  no_realm g = rw (laws.absent (first rfc5389 0x0014 d) e g)
